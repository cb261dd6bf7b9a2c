use Rattle.std.proofs.Common.{◌≤◌, ◌<◌, ◌+◌, ◌^◌, ℕ, List, sym, subst, arith}
use Rattle.entry_arena.specs.Arena.{Arena}
use Rattle.unit_write.specs.Most.{most_bytes}
use Rattle.unit_write.specs.inside.Marks.{AreSlotNumbers, AreSlotsCounted, AreEntriesCounted}
use Rattle.unit_write.proofs.marks.Marks.of.Goals as goal

pub returns : goal.returns
returns c = λ ops measured.
    let f : Arena = c.args.unit.now.forest in
    let slots : List ℕ = c.args.measured.now.slots.items in
    let most : c.in_ok-places.places.end ≤ 0 + most_bytes c.args.unit.now = c.in_ok-places.ensures.most in
    let room : most_bytes c.args.unit.now < 2 ^ 31 = c.requires.room in
    let own : AreSlotNumbers f ops slots = record { count = measured.slots_count; each = measured.slots } in
    let lent = subst (λ (z : List ℕ). AreSlotNumbers f ops z) (sym c.deref.ensures.value) own in
    let numbered = subst (λ (z : Arena). AreSlotNumbers z ops c.deref.result.now) (sym c.forest-forest.ensures) lent in
    record {
      lens = c.args.measured.now.fixed.items;
      fixed = measured.fixed;
      start = c.in_ok-places.ensures.start;
      placed = c.in_ok-places.ensures.placed;
      small = omega arith;
      slots = subst (λ (z : Arena). AreSlotsCounted z ops c.in_ok-slots_before_entries.field-0.items) c.forest-forest.ensures (c.in_ok-slots_before_entries.ensures ops numbered);
      entries = subst (λ (z : Arena). AreEntriesCounted z c.in_ok-entries_before_ends.field-0.items) c.forest-forest.ensures c.in_ok-entries_before_ends.ensures;
    }
