use Rattle.std.proofs.Common.{◌≡◌, ◌+◌, ◌∙◌, sym, ap, arith}
use Rattle.form_codec.specs.Values.{meant_in}
use Rattle.entry_arena.specs.Arena.{Arena, entry_at}
use Rattle.entry_arena.specs.declared.entry.Entry.{Entry}
use Rattle.entry_read.specs.Units.{HeadAndForest}
use Rattle.dw_base.specs.declared.fault.Reach.TheVariants.{Narrow}
use Rattle.rewriter.specs.inside.Placed.{unit_in, operations_for}
use Rattle.rewriter.specs.inside.Held.{entry_in, value_in}
use Rattle.rewriter.proofs.Links.{own_is}
use Rattle.rewriter.proofs.OpNumbers.{operations_count, operations_read}
use Rattle.rewriter.proofs.TakenLaws.{taken_count}
use Rattle.rewriter.proofs.UnitExpressions.{values_few}
use Rattle.rewriter.proofs.NamedSpots.{no_slot, spots_still, spots_local, spot_taken, expression_names, expression_added}
use Rattle.rewriter.proofs.spots.push_value_spots.Goals as goal

pub overflow_add-number : goal.overflow_add-number
overflow_add-number c =
    let world = c.args.world.now in
    let read = own_is world c.args.unit c.units.result.now.items c.index.result.now c.requires.entry.unit c.units.ensures c.index.ensures in
    let entry : c.entry.result ≡ entry_in c.args.world.now c.args.unit c.args.id = c.entry.ensures ∙ ap (λ (f : Arena). entry_at f.entries c.args.id) c.forest.ensures ∙ ap (λ (h : HeadAndForest). entry_at h.forest.entries c.args.id) read in
    let count = taken_count (unit_in world.units c.args.unit) c.args.own.now c.requires.own in
    record { fits = omega (arith, ap (λ (e : Entry). e.first) entry, c.requires.entry.values, c.requires.column, count, values_few world c.args.unit c.requires.world c.requires.entry.unit) }

pub push_expression_spots-requires-clause-names : goal.push_expression_spots-requires-clause-names
push_expression_spots-requires-clause-names c =
    let world = c.args.world.now in
    let read = own_is world c.args.unit c.units.result.now.items c.index.result.now c.requires.entry.unit c.units.ensures c.index.ensures in
    let entry : c.entry.result ≡ entry_in c.args.world.now c.args.unit c.args.id = c.entry.ensures ∙ ap (λ (f : Arena). entry_at f.entries c.args.id) c.forest.ensures ∙ ap (λ (h : HeadAndForest). entry_at h.forest.entries c.args.id) read in
    let operations = operations_read world c.args.unit c.operations.result.now.items c.index-operations.result.now (operations_count world (Narrow, c.requires.world) c.args.unit c.requires.entry.unit) c.operations.ensures c.index-operations.ensures in
    expression_names world c.args.own.now c.args.unit c.args.id c.args.column c.requires.world c.requires.own c.requires.entry c.requires.column c.in-Expr.field-0 (sym c.value_of.ensures ∙ c.in-Expr.is) c.index-operations.result.now operations c.entry.result.first (ap (λ (e : Entry). e.first) entry) c.of_value.result.now c.of_value.ensures

pub returns-in_ok-push-in-LocalRef : goal.returns-in_ok-push-in-LocalRef
returns-in_ok-push-in-LocalRef c =
    let own = c.args.own.now in
    let local = ap (meant_in own.forest.section) (sym c.value_of.ensures ∙ c.in-LocalRef.is) in
    let stands = spot_taken (unit_in c.args.world.now.units c.args.unit) own c.requires.own c.spot_of.result c.in-LocalRef.old c.spot_of.ensures in
    spots_local own (operations_for c.args.world.now own c.args.unit) c.args.spots.now.items c.push.new.self.items ((entry_in c.args.world.now c.args.unit c.args.id).first + c.args.column) c.in-LocalRef.old c.spot_of.result local stands c.in_ok-push-in-LocalRef.ensures.items c.requires.before

pub returns-in-Expr : goal.returns-in-Expr
returns-in-Expr c =
    let world = c.args.world.now in
    let read = own_is world c.args.unit c.units.result.now.items c.index.result.now c.requires.entry.unit c.units.ensures c.index.ensures in
    let entry : c.entry.result ≡ entry_in c.args.world.now c.args.unit c.args.id = c.entry.ensures ∙ ap (λ (f : Arena). entry_at f.entries c.args.id) c.forest.ensures ∙ ap (λ (h : HeadAndForest). entry_at h.forest.entries c.args.id) read in
    let operations = operations_read world c.args.unit c.operations.result.now.items c.index-operations.result.now (operations_count world (Narrow, c.requires.world) c.args.unit c.requires.entry.unit) c.operations.ensures c.index-operations.ensures in
    expression_added world c.args.own.now c.args.unit c.args.id c.args.column c.requires.world c.requires.own c.requires.entry c.requires.column c.in-Expr.field-0 (sym c.value_of.ensures ∙ c.in-Expr.is) c.index-operations.result.now operations c.entry.result.first (ap (λ (e : Entry). e.first) entry) c.of_value.result.now c.of_value.ensures c.args.spots.now.items c.push_expression_spots.new.spots.items c.push_expression_spots.result c.push_expression_spots.ensures c.requires.before

pub returns-in_default : goal.returns-in_default
returns-in_default c =
    let own = c.args.own.now in
    let number = (entry_in c.args.world.now c.args.unit c.args.id).first + c.args.column in
    let none = no_slot own.forest.section (value_in c.args.world.now own c.args.unit c.args.id c.args.column) (operations_for c.args.world.now own c.args.unit number) (λ n is. c.in_default.not-LocalRef n (c.value_of.ensures ∙ is)) (λ span is. c.in_default.not-Expr span (c.value_of.ensures ∙ is)) in
    spots_still own (operations_for c.args.world.now own c.args.unit) c.args.spots.now.items number none c.requires.before
