use Rattle.std.proofs.Common.{◌<◌, ◌^◌, ◌+◌, ◌∷◌, [], ℕ, List, length, get_or, subst, sym, ap, arith}
use Rattle.std.specs.Prelude.{Option, None}
use Rattle.std.proofs.lemmas.List.{length-append}
use Rattle.entry_read.specs.Units.{declarations_of}
use Rattle.value_links.specs.ListPlaces.{base_of}
use Rattle.value_links.specs.Links.{held_at}
use Rattle.value_links.specs.Parts.{section_held}
use Rattle.value_links.specs.inside.Checks.{table_held, root_attributes}
use Rattle.value_links.specs.inside.ListPlaces.{IsPartFound}
use Rattle.value_links.proofs.TabledUnits.{some_few}
use Rattle.value_links.proofs.ContextLaws.{one_more}
use Rattle.value_links.proofs.list_bases.bases_of.Goals as goal

pub overflow_cast-number-end : goal.overflow_cast-number-end
overflow_cast-number-end c =
    let few : length c.args.held.now.units.items < 2 ^ 32 = some_few c.args.held.now c.requires.held in
    omega (arith, few, c.len-number-end.ensures)

pub loop-number-preserved : goal.loop-number-preserved
loop-number-preserved c =
    let section = section_held c.args.contributions.now in
    let held = c.args.held.now in
    let number = c.loop-number.number in
    let bases = c.loop-number.bases.items in
    let base = c.base_for.result in
    let more = one_more (λ u base. IsPartFound section (root_attributes (held_at held.units.items u).forest (declarations_of (table_held held u))) (base_of c.args.kind) base) None bases base number c.loop-number.invariant.counted c.loop-number.invariant.each c.base_for.ensures in
    record {
      counted = omega (arith, ap length c.in_ok-push.ensures.items, length-append bases (base ∷ []), c.loop-number.invariant.counted);
      each = subst (λ (bs : List (Option ℕ)). (u : ℕ) → u < number + 1 → IsPartFound section (root_attributes (held_at held.units.items u).forest (declarations_of (table_held held u))) (base_of c.args.kind) (get_or bs u None)) (sym c.in_ok-push.ensures.items) more;
    }
