use Rattle.std.proofs.Common.{rules, ◌≡◌, ◌<◌, ◌+◌, ◌∙◌, ℕ, List, length, sym, subst, arith}
use Rattle.std.proofs.lemmas.List.{get_or_read}
use Rattle.std.proofs.lemmas.List.Sorted.{answers_always}
use Rattle.list_model.proofs.Found.{found, not_found}
use Rattle.list_write.specs.declared.image.Moved.{Moved}
use Rattle.list_write.specs.Written.{moved_at}
use Rattle.list_write.specs.inside.Puts.{told_at, OldRise}
use Rattle.list_write.proofs.Placing.{no_move}
use Rattle.list_write.proofs.part.told_list.Goals as goal

pub unreachable-requires : goal.unreachable-requires
unreachable-requires c =
    let lists = c.deref.result.now in
    let same = c.deref.ensures.value in
    let key : told_at c.args.section.now c.args.offsets c.args.place ≡ c.args.offsets + c.from.result = omega (arith, c.from.ensures, c.u32_at.ensures) in
    let told = subst (λ (z : List Moved). (k : ℕ) × (k < length z) × ((moved_at z k).old ≡ told_at c.args.section.now c.args.offsets c.args.place)) (sym same) c.requires.told in
    let parted = c.in-Err.ensures.position (λ list. list.old) (answers_always _ _ _ (λ f a r g called. search rules)) in
    not_found (λ (list : Moved). list.old) lists no_move (subst OldRise (sym same) c.requires.rise) (c.args.offsets + c.from.result) c.in-Err.field-0 parted told.0 told.1 (told.2 ∙ key)

pub returns : goal.returns
returns c =
    let lists = c.deref.result.now in
    let same = c.deref.ensures.value in
    let key : told_at c.args.section.now c.args.offsets c.args.place ≡ c.args.offsets + c.from.result = omega (arith, c.from.ensures, c.u32_at.ensures) in
    let position = c.in-Ok.ensures.position (λ list. list.old) (answers_always _ _ _ (λ f a r g called. search rules)) in
    let at : (moved_at lists c.in-Ok.number).old ≡ c.args.offsets + c.from.result = found (λ (list : Moved). list.old) lists no_move (subst OldRise (sym same) c.requires.rise) (c.args.offsets + c.from.result) c.in-Ok.number position in
    let within : c.in-Ok.number < length c.args.lists.now.items = subst (λ (z : List Moved). c.in-Ok.number < length z) same c.in-Ok.ensures.bound in
    let is : c.index.result.now ≡ moved_at c.args.lists.now.items c.in-Ok.number = get_or_read c.args.lists.now.items _ _ within c.index.ensures no_move in
    let from : (moved_at c.args.lists.now.items c.in-Ok.number).old ≡ told_at c.args.section.now c.args.offsets c.args.place = subst (λ (z : List Moved). (moved_at z c.in-Ok.number).old ≡ c.args.offsets + c.from.result) same at ∙ sym key in
    record { number = c.in-Ok.number; within = within; is = is; from = subst (λ (z : Moved). z.old ≡ told_at c.args.section.now c.args.offsets c.args.place) (sym is) from }
