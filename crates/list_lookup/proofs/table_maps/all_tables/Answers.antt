use Rattle.std.proofs.Common.{◌≡◌, ◌<◌, ◌+◌, ◌^◌, ◌∙◌, length, sym, ap, subst, arith}
use Rattle.std.proofs.lemmas.Grind.{common_steps}
use Rattle.list_model.specs.declared.context.Context.{Context}
use Rattle.list_lookup.specs.Maps.{context_in, AreTablesIn}
use Rattle.list_lookup.proofs.AddressTables.{no_tables, table_more, table_none, context_same}
use Rattle.list_lookup.proofs.UnitCounts.{units_are_few}
use Rattle.list_lookup.proofs.table_maps.all_tables.Goals as goal
use Rattle.list_lookup.proofs.table_maps.all_tables.Goals.{in-Some+in_ok-push, in_default}

pub overflow_cast-unit : goal.overflow_cast-unit
overflow_cast-unit c =
    let few : length c.args.world.now.units < 2 ^ 32 = units_are_few c.args.world.now c.requires.world.0 c.requires.world.1 in
    let known : c.loop-unit.unit < length c.args.world.now.units = grind (arith, common_steps) in
    record { fits = omega (arith, few, known) }

pub loop-unit-init : goal.loop-unit-init
loop-unit-init c = no_tables c.args.world.now c.new-tables.result.items c.new-tables.ensures.items

pub loop-unit-preserved : goal.loop-unit-preserved
loop-unit-preserved c =
    let world = c.args.world.now in
    let holds = c.requires.world.1.holds in
    let here : c.context.result ≡ context_in world c.loop-unit.unit = c.context.ensures world.image c.requires.world.1.r holds ∙ sym (context_same world.image world c.requires.world.1.r c.loop-unit.unit holds) in
    elim c.match-context.branch [
      | in-Some+in_ok-push w ↦
          table_more world c.loop-unit.unit c.loop-unit.tables.items c.match-context.tables.items w.in-Some.table c.loop-unit.invariant (ap (λ (z : Context). z.table) (sym here) ∙ w.in-Some.is) (ap (λ z. z.items) w.tables-is ∙ w.in_ok-push.ensures.items)
      | in_default w ↦
          subst (λ z. AreTablesIn world (c.loop-unit.unit + 1) z.items) (sym w.tables-is) (table_none world c.loop-unit.unit c.loop-unit.tables.items c.loop-unit.invariant (λ table named. w.in_default.not-Some table (ap (λ (z : Context). z.table) here ∙ named)))
    ]

pub returns : goal.returns
returns c =
    let same : c.loop-unit.unit ≡ length c.args.world.now.units = grind (arith, common_steps) in
    subst (λ z. AreTablesIn c.args.world.now z c.loop-unit.tables.items) same c.loop-unit.invariant
