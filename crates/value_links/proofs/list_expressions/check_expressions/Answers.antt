use Rattle.std.proofs.Common.{◌∙◌, ℕ, List, take, sym, subst}
use Rattle.std.specs.Prelude.{Option, Bool}
use Rattle.std.proofs.lemmas.List.{take_all}
use Rattle.std.proofs.lemmas.List.Elements.{All-nil}
use Rattle.std.proofs.lemmas.Result.{err_from_is_err_and}
use Rattle.dw_base.specs.Refusals.{IsFaultOf, IsRefusedFor}
use Rattle.list_model.specs.declared.entry.ListKind.TheVariants.{Locations}
use Rattle.list_model.specs.declared.entry.RawEntry.{RawEntry}
use Rattle.value_links.specs.Reading.{Linkable}
use Rattle.value_links.specs.Parts.{HoldsParts}
use Rattle.value_links.specs.inside.Checks.{InEach}
use Rattle.value_links.specs.inside.ListExpressions.{IsExprRead, AreExprsRead, FaultExpressionsBy}
use Rattle.value_links.proofs.ListOwners.{owner_once, torn_once}
use Rattle.value_links.proofs.ListOperations.{item_more, other_more, one_refused}
use Rattle.value_links.proofs.list_expressions.check_expressions.Goals as goal

pub loop-entry-init : goal.loop-entry-init
loop-entry-init c = λ (file : List ℕ) (r : Linkable) (holds : HoldsParts file r c.args.parts.now). All-nil (IsExprRead r c.owner_of.result c.is_torn.result c.args.reach)

pub loop-entry-preserved-then-not-is_item : goal.loop-entry-preserved-then-not-is_item
loop-entry-preserved-then-not-is_item c = λ (file : List ℕ) (r : Linkable) (holds : HoldsParts file r c.args.parts.now).
    other_more c.args.section.now c.deref-entry-items.result.now c.loop-entry.entry-index c.loop-entry-test.true (IsExprRead r c.owner_of.result c.is_torn.result c.args.reach) (c.loop-entry.invariant file r holds) (sym c.is_item.ensures ∙ c.if-not-is_item.true)

pub returns-in_err-read_expression-clause-fault : goal.returns-in_err-read_expression-clause-fault
returns-in_err-read_expression-clause-fault c =
    let items : List RawEntry = c.deref-entry-items.result.now in
    let refusal = c.in_err-read_expression.field-0.0 in
    let p = err_from_is_err_and c.from_residual.result c.from_residual.ensures.1 in
    rw (p.1, p.2) (subst (λ (z : List RawEntry). InEach c.args.parts.now (λ (r : Linkable). IsRefusedFor (IsFaultOf (FaultExpressionsBy Locations c.args.section.now c.args.named.now c.args.reach z r) c.args.origin) refusal)) c.deref-entry-items.ensures.value
    (one_refused c.args.section.now items c.loop-entry.entry-index c.loop-entry-test.true c.args.named.now c.owner_of.result c.is_torn.result c.owner_of.ensures c.is_torn.ensures c.args.reach c.args.origin (sym c.is_item.ensures ∙ c.if-not-is_item.false) c.args.parts.now c.bytes_of-bytes.result.now refusal c.bytes_of-bytes.ensures c.in_err-read_expression.ensures.fault))

pub loop-entry-preserved : goal.loop-entry-preserved
loop-entry-preserved c = λ (file : List ℕ) (r : Linkable) (holds : HoldsParts file r c.args.parts.now).
    item_more c.args.section.now c.deref-entry-items.result.now c.loop-entry.entry-index c.loop-entry-test.true (IsExprRead r c.owner_of.result c.is_torn.result c.args.reach) (c.loop-entry.invariant file r holds) (sym c.is_item.ensures ∙ c.if-not-is_item.false) (subst (IsExprRead r c.owner_of.result c.is_torn.result c.args.reach) c.bytes_of-bytes.ensures (c.in_ok-read_expression.ensures.read file r holds))

pub returns-clause-read : goal.returns-clause-read
returns-clause-read c = λ (file : List ℕ) (r : Linkable) (holds : HoldsParts file r c.args.parts.now) (owner : Option ℕ) (torn : Bool) owned apart.
    let named = c.args.named.now in
    let items : List RawEntry = c.deref-entry-items.result.now in
    let first : AreExprsRead Locations c.args.section.now r c.owner_of.result c.is_torn.result c.args.reach (take c.loop-entry.entry-index items) = c.loop-entry.invariant file r holds in
    let whole : AreExprsRead Locations c.args.section.now r c.owner_of.result c.is_torn.result c.args.reach items = subst (AreExprsRead Locations c.args.section.now r c.owner_of.result c.is_torn.result c.args.reach) (take_all c.loop-entry.entry-index items c.loop-entry-test.false) first in
    let all : AreExprsRead Locations c.args.section.now r c.owner_of.result c.is_torn.result c.args.reach c.args.raw.now.items = subst (AreExprsRead Locations c.args.section.now r c.owner_of.result c.is_torn.result c.args.reach) c.deref-entry-items.ensures.value whole in
    subst (λ (z : Option ℕ). AreExprsRead Locations c.args.section.now r z torn c.args.reach c.args.raw.now.items) (owner_once named c.owner_of.result owner c.owner_of.ensures owned)
    (subst (λ (z : Bool). AreExprsRead Locations c.args.section.now r c.owner_of.result z c.args.reach c.args.raw.now.items) (torn_once named c.is_torn.result torn c.is_torn.ensures apart) all)
