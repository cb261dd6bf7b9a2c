use Rattle.std.proofs.Common.{◌≡◌, ◌-◌, ◌∙◌, inl, inr, ℕ, List, length, get_or, ap, refl, arith}
use Rattle.list_model.specs.declared.contribution.Contribution.{Contribution}
use Rattle.list_model.specs.Contributions.{lists_at}
use Rattle.list_arena.specs.Held.{HeldList as ListRead}
use Rattle.value_links.specs.World.{lists_held}
use Rattle.tidy_lists.specs.inside.DuePlaces.{place_at, held_place}
use Rattle.tidy_lists.proofs.HeldThings.{some_element, part_known}
use Rattle.tidy_lists.proofs.DueWorlds.{begin_behind, begin_first}
use Rattle.tidy_lists.proofs.due.begin_of.Goals as goal
use Rattle.tidy_lists.proofs.due.begin_of.Goals.{else-number-gt0-via-then-number-gt0+else-due-number, else-number-gt0-via-else-number-gt0}

pub returns-then-due-number : goal.returns-then-due-number
returns-then-due-number c =
    let number : ℕ = c.args.number in
    let d : ListRead = some_element (lists_held c.args.before.now c.args.kind) number c.requires.inside in
    begin_behind c.args.before.now c.args.after.now c.args.kind number c.args.firsts.now c.args.due.now (place_at c.args.due.now (number - 1)) d c.part-part.result c.list_len-len.result c.saturating_add-at.result c.requires.inside c.if-number-gt0.true c.requires.firsts c.requires.due
    refl (c.part-part.ensures d ∙ ap (λ (z : List ListRead). (get_or z number d).part) c.lists.ensures.lists) c.if-due-number.true c.list_len-len.ensures.len c.saturating_add-at.ensures

pub bounds-contributions-part : goal.bounds-contributions-part
bounds-contributions-part c =
    let number : ℕ = c.args.number in
    let d : ListRead = some_element (lists_held c.args.before.now c.args.kind) number c.requires.inside in
    let known = part_known c.args.before.now c.args.after.now c.requires.before c.requires.after c.requires.same c.args.kind number d c.requires.inside in
    let own : c.part-part.result ≡ (get_or (lists_held c.args.before.now c.args.kind) number d).part = c.part-part.ensures d ∙ ap (λ (z : List ListRead). (get_or z number d).part) c.lists.ensures.lists in
    let count = ap (λ (z : List Contribution). length z) c.contributions.ensures in
    omega (arith, known, own, count)

pub returns : goal.returns
returns c =
    let number : ℕ = c.args.number in
    let d : ListRead = some_element (lists_held c.args.before.now c.args.kind) number c.requires.inside in
    let part : ℕ = c.part-part.result in
    let own : part ≡ (get_or (lists_held c.args.before.now c.args.kind) number d).part = c.part-part.ensures d ∙ ap (λ (z : List ListRead). (get_or z number d).part) c.lists.ensures.lists in
    let place = c.lists_begin-at.ensures ∙ ap (λ (z : List Contribution). held_place (lists_at (get_or z part (record { at = 0; len = 0; slots = 0 })))) c.contributions.ensures in
    let begin = begin_first c.args.before.now c.args.after.now c.args.kind number c.args.due.now d part c.lists_begin-at.result c.requires.inside c.requires.due own in
    elim c.else-number-gt0.branch [
      | else-number-gt0-via-then-number-gt0+else-due-number w ↦ begin (inr w.if-due-number.false) place
      | else-number-gt0-via-else-number-gt0 w ↦ begin (inl (omega (arith, w.if-number-gt0.false))) place
    ]
