use Rattle.std.proofs.Common.{◌<◌, ℕ, List, length, map, sym, refl, subst}
use Rattle.std.specs.List.{All}
use Rattle.list_model.specs.declared.contribution.Contribution.{Contribution}
use Rattle.list_model.specs.Contributions.{ContributionsTile}
use Rattle.list_write.specs.declared.named.NamedList.{NamedList}
use Rattle.list_write.specs.Written.{AreEnds, to_write, list_at, IsToWrite, CanBeWritten}
use Rattle.list_tests.proofs.list_write_tests.written.Goals as goal

pub write_lists-requires-clause-lists : goal.write_lists-requires-clause-lists
write_lists-requires-clause-lists c =
    let parts = c.as_slice-parts.result.now in
    let lists = map to_write c.args.lists.now.items in
    let each : (k : ℕ) → k < length lists → IsToWrite c.args.kind parts (list_at lists k) = λ k inside.
    let held = c.if-not-are_held.ensures refl k inside in
    let sized = c.requires k inside in
    record { known = held.known; holds = held.holds; entries = sized.entries; picked = sized.picked; bytes = sized.bytes; carried = sized.carried } in
    let can : CanBeWritten c.args.kind c.args.section.now parts lists = record {
      tiled = subst (λ (z : List Contribution). ContributionsTile c.args.section.now z) (sym c.as_slice-parts.ensures.value) c.in-Ok.ensures.tiled;
      rising = c.if-not-are_rising.ensures refl;
      each = each;
      told = c.if-not-all_are_told.ensures refl;
      room = c.if-not-has_room.ensures refl;
    } in
    subst (λ (z : List NamedList). CanBeWritten c.args.kind c.args.section.now parts (map to_write z)) (sym c.as_slice.ensures.value) can

pub write_lists-requires-clause-ends : goal.write_lists-requires-clause-ends
write_lists-requires-clause-ends c = subst (λ (z : List NamedList). All (λ (list : NamedList). AreEnds list.expressions) z) (sym c.as_slice.ensures.value) (c.if-not-are_ended.ensures refl)
