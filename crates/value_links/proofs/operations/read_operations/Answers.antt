use Rattle.std.proofs.Common.{◌≡◌, ◌<◌, ◌+◌, ◌^◌, ◌∷◌, ◌∙◌, [], ℕ, List, length, rules, sym, ap, subst, arith}
use Rattle.std.proofs.lemmas.List.{length-append}
use Rattle.dw_base.specs.Refusals.{IsFaultOf, IsRefusedFor}
use Rattle.dw_base.specs.declared.fault.Fault.{Fault}
use Rattle.entry_arena.specs.Operations.{HeldOps, no_operations}
use Rattle.entry_read.specs.Units.{HeadAndForest}
use Rattle.entry_read.specs.Expressions.{HasOperations, FaultExpressions}
use Rattle.value_links.specs.Links.{held_at}
use Rattle.value_links.specs.World.{operations_at}
use Rattle.value_links.specs.inside.Checks.{IsSomeExpressionFault}
use Rattle.value_links.proofs.TabledUnits.{some_few, some_section}
use Rattle.value_links.proofs.ContextLaws.{one_more}
use Rattle.value_links.proofs.Refusing.{refused_more}
use Rattle.value_links.proofs.operations.read_operations.Goals as goal

pub overflow_cast-number-end : goal.overflow_cast-number-end
overflow_cast-number-end c =
    let few : length c.args.units.now.units.items < 2 ^ 32 = some_few c.args.units.now (c.args.info.now, c.requires.held.0, c.requires.held.1) in
    omega (arith, few, c.len-number-end.ensures)

pub read_expressions-requires : goal.read_expressions-requires
read_expressions-requires c =
    let inside : c.loop-number.number < length c.args.units.now.units.items = omega (arith, c.len-number-end.ensures) in
    let section = some_section c.args.units.now (c.args.info.now, c.requires.held.0, c.requires.held.1) c.loop-number.number inside in
    let same : c.unit_of.result.now.forest.section ≡ c.args.info.now = ap (λ (z : HeadAndForest). z.forest.section) c.unit_of.ensures ∙ section in
    record { room = subst (λ (z : List ℕ). c.args.origin + length z < 2 ^ 64) (sym same) c.requires.room }

pub returns-in_err-operations-clause-fault : goal.returns-in_err-operations-clause-fault
returns-in_err-operations-clause-fault c =
    let units = c.args.units.now.units.items in
    let number = c.loop-number.number in
    let inside : number < length units = omega (arith, c.len-number-end.ensures) in
    let refused : IsRefusedFor (IsFaultOf (IsSomeExpressionFault units c.args.reach) c.args.origin) c.in_err-operations.field-0.0 =
    refused_more (IsFaultOf (FaultExpressions c.unit_of.result.now.forest c.args.reach) c.args.origin) (IsFaultOf (IsSomeExpressionFault units c.args.reach) c.args.origin) (λ (fault : Fault) f. (f.0, f.1, (number, inside, subst (λ (z : HeadAndForest). FaultExpressions z.forest c.args.reach fault.kind f.0) c.unit_of.ensures f.2))) c.in_err-operations.field-0.0 c.in_err-operations.ensures.fault in
    search (rules, refused)

pub loop-number-preserved : goal.loop-number-preserved
loop-number-preserved c =
    let units = c.args.units.now.units.items in
    let number = c.loop-number.number in
    let held : List HeldOps = c.loop-number.held.items in
    let one : HeldOps = c.in_ok-operations.operations in
    let here : HasOperations c.args.reach (held_at units number).forest one = subst (λ (z : HeadAndForest). HasOperations c.args.reach z.forest one) c.unit_of.ensures c.in_ok-operations.ensures.read in
    let more = one_more (λ (u : ℕ) (h : HeldOps). HasOperations c.args.reach (held_at units u).forest h) no_operations held one number c.loop-number.invariant.counted c.loop-number.invariant.each here in
    record {
      counted = omega (arith, ap length c.in_ok-push.ensures.items, length-append held (one ∷ []), c.loop-number.invariant.counted);
      each = subst (λ (z : List HeldOps). (u : ℕ) → u < number + 1 → HasOperations c.args.reach (held_at units u).forest (operations_at z u)) (sym c.in_ok-push.ensures.items) more;
    }
