use Rattle.std.proofs.Common.{rules, ◌≡◌, ◌≤◌, ◌<◌, ◌+◌, ◌-◌, ℕ, List, length, get_or, sym, subst, arith}
use Rattle.std.proofs.lemmas.List.Sorted.{answers_always}
use Rattle.list_model.specs.declared.contribution.Contribution.{Contribution}
use Rattle.entry_arena.proofs.Found.{found, not_found}
use Rattle.value_links.specs.Reading.{part_at}
use Rattle.value_links.specs.ListPlaces.{IsOffsetsAt}
use Rattle.value_links.specs.Parts.{section_held}
use Rattle.value_links.proofs.PartPlaces.{no_part, start_of, parts_rise}
use Rattle.value_links.proofs.list_places.part_with_offsets.Goals as goal

-- contributions rise by where they begin
abbrev Rise : List Contribution → Type 0
Rise parts = (i j : ℕ) → i < j → j < length parts → (get_or parts i no_part).at < (get_or parts j no_part).at

-- the closure gives where a contribution begins
pub returns-in-Ok : goal.returns-in-Ok
returns-in-Ok c =
    let held = c.args.contributions.now in
    let rise : Rise c.deref.result.now = subst Rise (sym c.deref.ensures.value) (parts_rise held.section.now held.parts.items c.requires.tiled.tiled) in
    let position = c.in-Ok.ensures.position (λ part. part.at) (answers_always _ _ _ (λ f a r g called. search rules)) in
    let at : (get_or c.deref.result.now c.in-Ok.number no_part).at ≡ c.in_ok-at.at = found start_of c.deref.result.now no_part rise c.in_ok-at.at c.in-Ok.number position in
    let there : (part_at (section_held held) c.in-Ok.number).at ≡ c.in_ok-at.at = subst (λ (z : List Contribution). (get_or z c.in-Ok.number no_part).at ≡ c.in_ok-at.at) c.deref.ensures.value at in
    let low : 12 ≤ c.args.place = c.in_ok-at.ensures.0 in
    let is : c.in_ok-at.at ≡ c.args.place - 12 = c.in_ok-at.ensures.1 in
    let inside : c.in-Ok.number < length held.parts.items = subst (λ (z : List Contribution). c.in-Ok.number < length z) c.deref.ensures.value c.in-Ok.ensures.bound in
    (inside, omega arith)

pub returns-in-Err : goal.returns-in-Err
returns-in-Err c = λ (p : ℕ) (there : IsOffsetsAt (section_held c.args.contributions.now) c.args.place p).
    let held = c.args.contributions.now in
    let rise : Rise c.deref.result.now = subst Rise (sym c.deref.ensures.value) (parts_rise held.section.now held.parts.items c.requires.tiled.tiled) in
    let parted = c.in-Err.ensures.position (λ part. part.at) (answers_always _ _ _ (λ f a r g called. search rules)) in
    let begins : (part_at (section_held held) p).at + 12 ≡ c.args.place = there.1 in
    let moved : (get_or c.deref.result.now p no_part).at + 12 ≡ c.args.place = subst (λ (z : List Contribution). (get_or z p no_part).at + 12 ≡ c.args.place) (sym c.deref.ensures.value) begins in
    let is : c.in_ok-at.at ≡ c.args.place - 12 = c.in_ok-at.ensures.1 in
    not_found start_of c.deref.result.now no_part rise c.in_ok-at.at c.in-Err.field-0 parted p (subst (λ (z : List Contribution). p < length z) (sym c.deref.ensures.value) there.0) (omega arith)
