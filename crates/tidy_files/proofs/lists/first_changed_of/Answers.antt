use Rattle.std.proofs.Common.{◌≡◌, ◌≤◌, ◌+◌, ◌⊎◌, ◌∙◌, inl, inr, ℕ, List, length, get_or, min, sym, ap, subst, arith}
use Rattle.std.proofs.lemmas.Bool.{cases_lt, true≢false}
use Rattle.list_model.specs.Entries.{AreSaid}
use Rattle.list_arena.specs.Held.{HeldList}
use Rattle.value_links.specs.Sections.{offset_named, lists_name}
use Rattle.value_links.specs.World.{lists_held}
use Rattle.tidy_files.proofs.ChangedLists.{no_list, some_said, begins_inside, none_changed, say_next, changed_first, held_alike, lent_alike}
use Rattle.tidy_files.proofs.lists.first_changed_of.Goals as goal

pub say_the_same-requires-clause-said : goal.say_the_same-requires-clause-said
say_the_same-requires-clause-said c = λ d.
    let k : ℕ = c.loop-number.number in
    let count = c.len.ensures ∙ ap length c.lists-old.ensures.lists in
    let (entries, said) = some_said c.args.before.now c.requires.before c.args.kind k d (omega (arith, c.loop-number-test.true, c.min-number-end.ensures, count)) in
    (entries, subst (λ (z : List HeldList). AreSaid c.args.kind (get_or z k d).raw entries) (sym c.lists-old.ensures.lists) said)

pub lists_offset-requires : goal.lists_offset-requires
lists_offset-requires c =
    let k : ℕ = c.loop-number.number in
    let count = c.len-2.ensures ∙ ap length c.lists-new.ensures.lists in
    let at : c.at.result ≡ (get_or (lists_held c.args.after.now c.args.kind) k no_list).at = c.at.ensures no_list ∙ ap (λ (z : List HeldList). (get_or z k no_list).at) c.lists-new.ensures.lists in
    omega (arith, at, begins_inside c.args.after.now c.requires.after c.args.kind k no_list (omega (arith, c.loop-number-test.true, c.min-number-end.ensures, count)))

pub returns-then-not-say_the_same : goal.returns-then-not-say_the_same
returns-then-not-say_the_same c =
    let k : ℕ = c.loop-number.number in
    let old_count = c.len.ensures ∙ ap length c.lists-old.ensures.lists in
    let new_count = c.len-2.ensures ∙ ap length c.lists-new.ensures.lists in
    let at : c.at.result ≡ (get_or (lists_held c.args.after.now c.args.kind) k no_list).at = c.at.ensures no_list ∙ ap (λ (z : List HeldList). (get_or z k no_list).at) c.lists-new.ensures.lists in
    changed_first c.args.before.now c.args.after.now c.requires.before c.requires.after c.args.kind k
    (omega (arith, c.loop-number-test.true, c.min-number-end.ensures, old_count)) (omega (arith, c.loop-number-test.true, c.min-number-end.ensures, new_count)) c.loop-number.invariant
    (λ same. true≢false (sym ((c.say_the_same.ensures no_list).1 (lent_alike c.args.before.now c.args.after.now c.requires.before c.requires.after c.args.kind c.lists-old.result.now c.lists-new.result.now c.lists-old.ensures.lists c.lists-new.ensures.lists k no_list same)) ∙ c.if-not-say_the_same.true))
    c.lists_offset.result (c.lists_offset.ensures ∙ ap (λ (n : ℕ). offset_named c.args.after.now.image (lists_name c.args.kind) + n) at)

pub loop-number-preserved : goal.loop-number-preserved
loop-number-preserved c =
    say_next c.args.before.now c.args.after.now c.requires.before c.requires.after c.args.kind c.loop-number.number c.loop-number.invariant
    (λ d. held_alike c.args.before.now c.args.after.now c.requires.before c.requires.after c.args.kind c.lists-old.result.now c.lists-new.result.now c.lists-old.ensures.lists c.lists-new.ensures.lists c.loop-number.number d ((c.say_the_same.ensures d).0 c.if-not-say_the_same.false))

-- a number from the lesser of two counts on is past one of them
one_short : (a b least n old new : ℕ) → a ≡ old → b ≡ new → least ≡ min a b → least ≤ n → (old ≤ n) ⊎ (new ≤ n)
one_short a b least n old new first second is past = elim (cases_lt a b) [
  | inl less ↦ inl (omega (arith, first, is, past, less))
  | inr more ↦ inr (omega (arith, second, is, past, more))
]

pub returns : goal.returns
returns c =
    let old_count = c.len.ensures ∙ ap length c.lists-old.ensures.lists in
    let new_count = c.len-2.ensures ∙ ap length c.lists-new.ensures.lists in
    none_changed c.args.before.now c.args.after.now c.requires.before c.requires.after c.args.kind c.loop-number.number
    (one_short c.len.result c.len-2.result c.min-number-end.result c.loop-number.number (length (lists_held c.args.before.now c.args.kind)) (length (lists_held c.args.after.now c.args.kind)) old_count new_count c.min-number-end.ensures c.loop-number-test.false) c.loop-number.invariant
