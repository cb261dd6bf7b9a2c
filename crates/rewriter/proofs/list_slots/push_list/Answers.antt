use Rattle.std.proofs.Common.{◌≡◌, ◌≤◌, ◌<◌, ◌+◌, ◌∙◌, ℕ, List, length, get_or, true, sym, ap, subst}
use Rattle.dw_base.specs.declared.fault.Reach.TheVariants.{Narrow}
use Rattle.expr_ops.specs.declared.op.Op.{Op}
use Rattle.expr_ops.specs.Expressions.{IsExpression}
use Rattle.expr_ops.specs.Ops.{all_meant}
use Rattle.list_model.specs.declared.entry.ListKind.TheVariants.{Locations}
use Rattle.list_model.specs.declared.entry.RawEntry.{RawEntry}
use Rattle.loc_lists.specs.Locations.{is_item, bytes_in}
use Rattle.value_links.specs.Operations.{IsSomeExpression}
use Rattle.value_links.specs.Sections.{debug_lists}
use Rattle.rewriter.specs.inside.Placed.{unit_in}
use Rattle.rewriter.proofs.HeldExpressions.{lie_inside, are_expressions}
use Rattle.rewriter.proofs.ListExpressions.{expression_among}
use Rattle.rewriter.proofs.SlotsOfLists.{item_names, item_fits, item_more}
use Rattle.rewriter.proofs.list_slots.push_list.Goals as goal

abbrev no_raw : RawEntry
no_raw = record { at = 0; code = 0; a = 0; b = 0; expr = record { at = 0; len = 0 } }

pub bytes_of-bytes-requires : goal.bytes_of-bytes-requires
bytes_of-bytes-requires c =
    let list = c.args.list.now in
    let n : ℕ = c.loop-entry.entry-index in
    let same = c.deref-entry-items.ensures.value ∙ c.entries.ensures in
    let inside : n < length list.raw = subst (λ (z : List RawEntry). n < length z) same c.loop-entry-test.true in
    let section : c.section-section.result.now ≡ debug_lists c.args.world.now.image Locations = c.section-section.ensures in
    subst (λ (z : List RawEntry). (get_or z n no_raw).expr.at + (get_or z n no_raw).expr.len ≤ length c.section-section.result.now) (sym same) (lie_inside c.args.world.now c.requires.world list c.requires.list c.section-section.result.now section n no_raw inside)

pub read_again-requires : goal.read_again-requires
read_again-requires c =
    let world = c.args.world.now in
    let list = c.args.list.now in
    let n : ℕ = c.loop-entry.entry-index in
    let same = c.deref-entry-items.ensures.value ∙ c.entries.ensures in
    let inside : n < length list.raw = subst (λ (z : List RawEntry). n < length z) same c.loop-entry-test.true in
    let item : is_item (get_or list.raw n no_raw) ≡ true = ap (λ (z : List RawEntry). is_item (get_or z n no_raw)) (sym same) ∙ sym c.is_item.ensures ∙ c.if-not-is_item.false in
    let section : c.section-section.result.now ≡ debug_lists world.image Locations = c.section-section.ensures in
    let bytes : c.bytes_of-bytes.result.now ≡ bytes_in c.section-section.result.now (get_or list.raw n no_raw).expr = c.bytes_of-bytes.ensures ∙ ap (λ (z : List RawEntry). bytes_in c.section-section.result.now (get_or z n no_raw).expr) same in
    record { valid = subst (λ (z : List ℕ). IsSomeExpression Narrow z) (sym bytes) (expression_among (IsSomeExpression Narrow) c.section-section.result.now list.raw n no_raw (are_expressions world c.requires.world list c.requires.list c.section-section.result.now section) inside item) }

pub push_expression-requires-clause-names : goal.push_expression-requires-clause-names
push_expression-requires-clause-names c =
    let world = c.args.world.now in
    let list = c.args.list.now in
    let n : ℕ = c.loop-entry.entry-index in
    let same = c.deref-entry-items.ensures.value ∙ c.entries.ensures in
    let inside : n < length list.raw = subst (λ (z : List RawEntry). n < length z) same c.loop-entry-test.true in
    let item : is_item (get_or list.raw n no_raw) ≡ true = ap (λ (z : List RawEntry). is_item (get_or z n no_raw)) (sym same) ∙ sym c.is_item.ensures ∙ c.if-not-is_item.false in
    let section : c.section-section.result.now ≡ debug_lists world.image Locations = c.section-section.ensures in
    let bytes : c.bytes_of-bytes.result.now ≡ bytes_in (debug_lists world.image Locations) (get_or list.raw n no_raw).expr = c.bytes_of-bytes.ensures ∙ ap (λ (z : List RawEntry). bytes_in c.section-section.result.now (get_or z n no_raw).expr) same ∙ ap (λ (z : List ℕ). bytes_in z (get_or list.raw n no_raw).expr) section in
    let spelled : IsExpression Narrow (all_meant c.bytes_of-bytes.result.now c.deref.result.now) c.bytes_of-bytes.result.now = subst (λ (z : List Op). IsExpression Narrow (all_meant c.bytes_of-bytes.result.now z) c.bytes_of-bytes.result.now) (sym c.deref.ensures.value) c.in_ok-read_again.ensures.spelled in
    item_names world c.requires.world list c.requires.list n no_raw inside item c.bytes_of-bytes.result.now bytes c.args.unit c.deref.result.now c.requires.owned spelled

pub push_expression-requires-clause-fits : goal.push_expression-requires-clause-fits
push_expression-requires-clause-fits c =
    let world = c.args.world.now in
    let list = c.args.list.now in
    let n : ℕ = c.loop-entry.entry-index in
    let same = c.deref-entry-items.ensures.value ∙ c.entries.ensures in
    let inside : n < length list.raw = subst (λ (z : List RawEntry). n < length z) same c.loop-entry-test.true in
    let item : is_item (get_or list.raw n no_raw) ≡ true = ap (λ (z : List RawEntry). is_item (get_or z n no_raw)) (sym same) ∙ sym c.is_item.ensures ∙ c.if-not-is_item.false in
    let section : c.section-section.result.now ≡ debug_lists world.image Locations = c.section-section.ensures in
    let bytes : c.bytes_of-bytes.result.now ≡ bytes_in (debug_lists world.image Locations) (get_or list.raw n no_raw).expr = c.bytes_of-bytes.ensures ∙ ap (λ (z : List RawEntry). bytes_in c.section-section.result.now (get_or z n no_raw).expr) same ∙ ap (λ (z : List ℕ). bytes_in z (get_or list.raw n no_raw).expr) section in
    let spelled : IsExpression Narrow (all_meant c.bytes_of-bytes.result.now c.deref.result.now) c.bytes_of-bytes.result.now = subst (λ (z : List Op). IsExpression Narrow (all_meant c.bytes_of-bytes.result.now z) c.bytes_of-bytes.result.now) (sym c.deref.ensures.value) c.in_ok-read_again.ensures.spelled in
    item_fits world c.requires.world list c.requires.list n no_raw inside item c.bytes_of-bytes.result.now bytes c.deref.result.now c.slots_are_few.ensures.few spelled

pub loop-entry-preserved : goal.loop-entry-preserved
loop-entry-preserved c =
    let world = c.args.world.now in
    let list = c.args.list.now in
    let n : ℕ = c.loop-entry.entry-index in
    let same = c.deref-entry-items.ensures.value ∙ c.entries.ensures in
    let inside : n < length list.raw = subst (λ (z : List RawEntry). n < length z) same c.loop-entry-test.true in
    let item : is_item (get_or list.raw n no_raw) ≡ true = ap (λ (z : List RawEntry). is_item (get_or z n no_raw)) (sym same) ∙ sym c.is_item.ensures ∙ c.if-not-is_item.false in
    let section : c.section-section.result.now ≡ debug_lists world.image Locations = c.section-section.ensures in
    let bytes : c.bytes_of-bytes.result.now ≡ bytes_in (debug_lists world.image Locations) (get_or list.raw n no_raw).expr = c.bytes_of-bytes.ensures ∙ ap (λ (z : List RawEntry). bytes_in c.section-section.result.now (get_or z n no_raw).expr) same ∙ ap (λ (z : List ℕ). bytes_in z (get_or list.raw n no_raw).expr) section in
    let spelled : IsExpression Narrow (all_meant c.bytes_of-bytes.result.now c.deref.result.now) c.bytes_of-bytes.result.now = subst (λ (z : List Op). IsExpression Narrow (all_meant c.bytes_of-bytes.result.now z) c.bytes_of-bytes.result.now) (sym c.deref.ensures.value) c.in_ok-read_again.ensures.spelled in
    item_more (unit_in world.units c.args.unit) (debug_lists world.image Locations) list.raw n no_raw inside c.args.slots.now.items c.loop-entry.slots.items c.loop-entry.invariant item c.push_expression.new.slots.items c.bytes_of-bytes.result.now (all_meant c.bytes_of-bytes.result.now c.deref.result.now) bytes spelled c.in_ok-push_expression.ensures
