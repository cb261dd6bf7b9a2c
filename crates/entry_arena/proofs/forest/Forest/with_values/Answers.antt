use Rattle.std.proofs.Common.{◌≡◌, ◌++◌, ◌∙◌, List, ap, subst, sym}
use Rattle.form_codec.specs.declared.value.Value.{Value}
use Rattle.entry_arena.specs.declared.entry.Entry.{Entry}
use Rattle.entry_arena.specs.declared.entry.ChainEnd.{ChainEnd}
use Rattle.entry_arena.specs.Arena.{Arena}
use Rattle.entry_arena.specs.Order.{LendAlike, IsHeld}
use Rattle.entry_arena.proofs.Held.{values_held}
use Rattle.entry_arena.proofs.forest.Forest.with_values.Goals as goal

pub invariant_of-result : goal.invariant_of-result
invariant_of-result c =
    let held : Arena = record { section = c.self.inside.section.now; entries = c.self.inside.entries.items; values = c.self.inside.values; ends = c.self.inside.ends.items } in
    let alike : LendAlike held.values c.args.values.now = subst (λ (f : Arena). LendAlike f.values c.args.values.now) (sym c.self.view_is) c.requires in
    let entries : c.extend_from_slice.new.self.items ≡ c.self.inside.entries.items =
    c.in_ok-extend_from_slice.ensures.items ∙ ap (λ (es : List Entry). es ++ c.deref.result.now) c.in_ok-entries.ensures.items ∙ c.deref.ensures.value in
    let ends : c.extend_from_slice-2.new.self.items ≡ c.self.inside.ends.items =
    c.in_ok-extend_from_slice-2.ensures.items ∙ ap (λ (es : List ChainEnd). es ++ c.deref-2.result.now) c.in_ok-ends.ensures.items ∙ c.deref-2.ensures.value in
    let by_entries = subst (λ (es : List Entry). IsHeld (record { section = held.section; entries = es; values = c.args.values.now; ends = held.ends })) (sym entries) (values_held held c.args.values.now c.self.invariant alike) in
    let by_ends = subst (λ (es : List ChainEnd). IsHeld (record { section = held.section; entries = c.extend_from_slice.new.self.items; values = c.args.values.now; ends = es })) (sym ends) by_entries in
    subst (λ (vs : List Value). IsHeld (record { section = held.section; entries = c.extend_from_slice.new.self.items; values = vs; ends = c.extend_from_slice-2.new.self.items })) (sym c.in_ok-values.ensures) by_ends
