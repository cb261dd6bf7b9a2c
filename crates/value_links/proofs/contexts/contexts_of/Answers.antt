use Rattle.std.proofs.Common.{◌<◌, ◌^◌, ◌+◌, ◌∷◌, [], ℕ, List, length, get_or, subst, sym, ap, arith}
use Rattle.std.proofs.lemmas.List.{length-append}
use Rattle.abbrev_tables.specs.Listings.{Listing}
use Rattle.entry_read.specs.Units.{HeadAndForest, declarations_of}
use Rattle.list_model.specs.declared.context.Context.{Context}
use Rattle.value_links.specs.Reading.{no_context}
use Rattle.value_links.specs.Contexts.{IsContext}
use Rattle.value_links.specs.Links.{held_at}
use Rattle.value_links.specs.inside.Checks.{table_held, root_attributes}
use Rattle.value_links.proofs.TabledUnits.{some_few}
use Rattle.value_links.proofs.ContextLaws.{one_more}
use Rattle.value_links.proofs.contexts.contexts_of.Goals as goal

pub overflow_cast-number-end : goal.overflow_cast-number-end
overflow_cast-number-end c =
    let few : length c.args.held.now.units.items < 2 ^ 32 = some_few c.args.held.now c.requires.held in
    omega (arith, few, c.len-number-end.ensures)

pub loop-number-preserved : goal.loop-number-preserved
loop-number-preserved c =
    let addr = c.args.addr.now in
    let held = c.args.held.now in
    let number = c.loop-number.number in
    let contexts = c.loop-number.contexts.items in
    let context = c.context_of.result in
    let by_unit = subst (λ (z : HeadAndForest). IsContext addr (root_attributes z.forest (declarations_of c.table_of.result.now)) context) c.unit_of-unit.ensures c.context_of.ensures in
    let here = subst (λ (z : Listing). IsContext addr (root_attributes (held_at held.units.items number).forest (declarations_of z)) context) c.table_of.ensures.table by_unit in
    let more = one_more (λ u context. IsContext addr (root_attributes (held_at held.units.items u).forest (declarations_of (table_held held u))) context) no_context contexts context number c.loop-number.invariant.counted c.loop-number.invariant.each here in
    record {
      counted = omega (arith, ap length c.in_ok-push.ensures.items, length-append contexts (context ∷ []), c.loop-number.invariant.counted);
      each = subst (λ (cs : List Context). (u : ℕ) → u < number + 1 → IsContext addr (root_attributes (held_at held.units.items u).forest (declarations_of (table_held held u))) (get_or cs u no_context)) (sym c.in_ok-push.ensures.items) more;
    }
