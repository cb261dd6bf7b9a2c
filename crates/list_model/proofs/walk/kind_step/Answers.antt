use Rattle.std.proofs.Common.{subst, sym}
use Rattle.list_model.specs.declared.entry.EntryKind.{EntryKind}
use Rattle.list_model.specs.Steps.{IsStep}
use Rattle.list_model.proofs.WalkSteps.{span_length, span_pair, span_start}
use Rattle.list_model.proofs.walk.kind_step.Goals as goal

pub returns-in_ok-start-in-StartxLength-clause-step :
    goal.returns-in_ok-start-in-StartxLength-clause-step
returns-in_ok-start-in-StartxLength-clause-step c =
    subst (λ (z : EntryKind). IsStep c.args.addr.now c.args.context.now c.args.base z c.args.a c.args.b c.between.result) (sym c.in-StartxLength.is)
    (span_length c.args.addr.now c.args.context.now c.args.base c.args.a c.args.b c.in_ok-start-in-StartxLength.start c.between.result c.in_ok-start-in-StartxLength.ensures.address c.between.ensures)

pub returns-in-OffsetPair-clause-step : goal.returns-in-OffsetPair-clause-step
returns-in-OffsetPair-clause-step c =
    subst (λ (z : EntryKind). IsStep c.args.addr.now c.args.context.now c.args.base z c.args.a c.args.b c.between-in-OffsetPair.result) (sym c.in-OffsetPair.is)
    (span_pair c.args.addr.now c.args.context.now c.args.base c.args.a c.args.b c.between-in-OffsetPair.result c.between-in-OffsetPair.ensures)

pub returns-in-StartLength-clause-step : goal.returns-in-StartLength-clause-step
returns-in-StartLength-clause-step c =
    subst (λ (z : EntryKind). IsStep c.args.addr.now c.args.context.now c.args.base z c.args.a c.args.b c.between-in-StartLength.result) (sym c.in-StartLength.is)
    (span_start c.args.addr.now c.args.context.now c.args.base c.args.a c.args.b c.between-in-StartLength.result c.between-in-StartLength.ensures)
