use Rattle.std.proofs.Common.{◌≡◌, ◌≤◌, ◌+◌, ◌++◌, ℕ, List, length, drop, sym, subst}
use Rattle.std.specs.List.{All}
use Rattle.list_model.specs.declared.entry.ListKind.TheVariants.{Locations}
use Rattle.expr_ops.specs.declared.op.Op.{Op}
use Rattle.expr_ops.specs.Expressions.{Operation}
use Rattle.expr_ops.specs.Ops.{all_meant}
use Rattle.expr_ops.specs.Slots.{Aim, expression_aims}
use Rattle.loc_lists.specs.Locations.{bytes_in}
use Rattle.leb_codec.specs.Leb.{Uleb}
use Rattle.slot_layout.specs.declared.slots.Slot.{Slot}
use Rattle.slot_layout.specs.Rows.{most_slots}
use Rattle.entry_read.specs.Units.{HeadAndForest}
use Rattle.unit_slots.specs.declared.spots.Spots.{Spots}
use Rattle.unit_slots.specs.inside.Added.{Begins, AreOperationsOf, AddsSizes, HasExpressionSizes}
use Rattle.unit_slots.specs.inside.Rows.{HasSpots, AreRows, NamesThere}
use Rattle.unit_slots.specs.inside.Made.{IsBegun, AddsItem}
use Rattle.unit_slots.proofs.AddedItems.{on_ok, rows_few, item_added, item_begun, named_again}
use Rattle.unit_slots.proofs.ListEntryOperands.{ends_once}
use Rattle.unit_slots.proofs.lists.push_item.Goals as goal

pub push_expression_sizes-requires-clause-counted : goal.push_expression_sizes-requires-clause-counted
push_expression_sizes-requires-clause-counted c =
    let item = c.requires.item in
    subst (λ (n : ℕ). Begins Uleb (drop n c.args.section.now)) (ends_once Locations c.args.section.now c.args.raw.now item.end c.operands_end-at.result item.behind c.operands_end-at.ensures) item.counted

pub push_expression_slots-requires-clause-named : goal.push_expression_slots-requires-clause-named
push_expression_slots-requires-clause-named c =
    let section = c.args.section.now in
    let raw = c.args.raw.now in
    let ops = c.read_again.new.ops.items in
    let of : AreOperationsOf (bytes_in section raw.expr) ops = subst (λ (z : List ℕ). AreOperationsOf z ops) c.bytes_of-bytes.ensures c.in_ok-read_again.ensures in
    subst (λ (z : List Op). All (NamesThere c.args.unit.now) (expression_aims (all_meant c.bytes_of-bytes.result.now z))) (sym c.deref-2.ensures.value)
    (subst (λ (z : List ℕ). All (NamesThere c.args.unit.now) (expression_aims (all_meant z ops))) (sym c.bytes_of-bytes.ensures) (named_again c.args.unit.now section raw ops c.requires.item of))

pub push_expression_slots-requires-clause-few : goal.push_expression_slots-requires-clause-few
push_expression_slots-requires-clause-few c =
    let section = c.args.section.now in
    let raw = c.args.raw.now in
    let ops = c.read_again.new.ops.items in
    let slots = c.args.made.now.slots.items in
    let of : AreOperationsOf (bytes_in section raw.expr) ops = subst (λ (z : List ℕ). AreOperationsOf z ops) c.bytes_of-bytes.ensures c.in_ok-read_again.ensures in
    let sized : AddsSizes (HasExpressionSizes (drop c.operands_end-at.result section) (bytes_in section raw.expr) ops) c.args.made.now.sizes.items c.push_expression_sizes.new.sizes.items =
    subst (λ (z : List Op). AddsSizes (HasExpressionSizes (drop c.operands_end-at.result section) (bytes_in section raw.expr) z) c.args.made.now.sizes.items c.push_expression_sizes.new.sizes.items) c.deref.ensures.value c.in_ok-push_expression_sizes.ensures.added in
    subst (λ (z : List Op). length slots + length (expression_aims (all_meant c.bytes_of-bytes.result.now z)) ≤ most_slots) (sym c.deref-2.ensures.value)
    (subst (λ (z : List ℕ). length slots + length (expression_aims (all_meant z ops)) ≤ most_slots) (sym c.bytes_of-bytes.ensures)
    (rows_few c.args.unit.now c.args.spots.now section raw c.operands_end-at.result c.operands_end-at.ensures ops of slots c.args.made.now.sizes.items c.push_expression_sizes.new.sizes.items sized c.in_ok-push_expression_sizes.ensures.few c.requires.begun))

-- the rows are those of the operations that were read again
pushed : (unit : HeadAndForest) (spots : Spots) (bytes own_bytes : List ℕ) (ops own_ops : List Op) (slots new_slots : List Slot) → bytes ≡ own_bytes → ops ≡ own_ops → ((held : ℕ → List Operation) (own : List ℕ) (aims : List Aim) → HasSpots unit held own spots → AreRows unit held own aims slots → AreRows unit held own (aims ++ expression_aims (all_meant bytes ops)) new_slots) → (held : ℕ → List Operation) (own : List ℕ) (aims : List Aim) → HasSpots unit held own spots → AreRows unit held own aims slots → AreRows unit held own (aims ++ expression_aims (all_meant own_bytes own_ops)) new_slots
pushed unit spots bytes own_bytes ops own_ops slots new_slots same same_ops rows held own aims has before =
    subst (λ (z : List ℕ). AreRows unit held own (aims ++ expression_aims (all_meant z own_ops)) new_slots) same (subst (λ (z : List Op). AreRows unit held own (aims ++ expression_aims (all_meant bytes z)) new_slots) same_ops (rows held own aims has before))

pub returns-clause-added : goal.returns-clause-added
returns-clause-added c =
    let section = c.args.section.now in
    let raw = c.args.raw.now in
    let unit = c.args.unit.now in
    let spots = c.args.spots.now in
    let ops = c.read_again.new.ops.items in
    let slots = c.args.made.now.slots.items in
    let sizes = c.args.made.now.sizes.items in
    let new_slots = c.push_expression_slots.new.slots.items in
    let new_sizes = c.push_expression_sizes.new.sizes.items in
    let of : AreOperationsOf (bytes_in section raw.expr) ops = subst (λ (z : List ℕ). AreOperationsOf z ops) c.bytes_of-bytes.ensures c.in_ok-read_again.ensures in
    let sized : AddsSizes (HasExpressionSizes (drop c.operands_end-at.result section) (bytes_in section raw.expr) ops) c.args.made.now.sizes.items c.push_expression_sizes.new.sizes.items =
    subst (λ (z : List Op). AddsSizes (HasExpressionSizes (drop c.operands_end-at.result section) (bytes_in section raw.expr) z) c.args.made.now.sizes.items c.push_expression_sizes.new.sizes.items) c.deref.ensures.value c.in_ok-push_expression_sizes.ensures.added in
    on_ok c.push_expression_slots.result _ ((held : ℕ → List Operation) (own : List ℕ) → HasSpots unit held own spots → AddsItem unit held own section raw slots sizes new_slots new_sizes)
    (λ rows. item_added unit spots section raw c.operands_end-at.result c.operands_end-at.ensures ops of slots sizes new_sizes sized c.in_ok-push_expression_sizes.ensures.few new_slots (pushed unit spots c.bytes_of-bytes.result.now (bytes_in section raw.expr) c.deref-2.result.now ops slots new_slots c.bytes_of-bytes.ensures c.deref-2.ensures.value rows))
    c.push_expression_slots.ensures

pub returns-clause-begun : goal.returns-clause-begun
returns-clause-begun c =
    let section = c.args.section.now in
    let raw = c.args.raw.now in
    let unit = c.args.unit.now in
    let spots = c.args.spots.now in
    let ops = c.read_again.new.ops.items in
    let slots = c.args.made.now.slots.items in
    let sizes = c.args.made.now.sizes.items in
    let new_slots = c.push_expression_slots.new.slots.items in
    let new_sizes = c.push_expression_sizes.new.sizes.items in
    let of : AreOperationsOf (bytes_in section raw.expr) ops = subst (λ (z : List ℕ). AreOperationsOf z ops) c.bytes_of-bytes.ensures c.in_ok-read_again.ensures in
    let sized : AddsSizes (HasExpressionSizes (drop c.operands_end-at.result section) (bytes_in section raw.expr) ops) c.args.made.now.sizes.items c.push_expression_sizes.new.sizes.items =
    subst (λ (z : List Op). AddsSizes (HasExpressionSizes (drop c.operands_end-at.result section) (bytes_in section raw.expr) z) c.args.made.now.sizes.items c.push_expression_sizes.new.sizes.items) c.deref.ensures.value c.in_ok-push_expression_sizes.ensures.added in
    on_ok c.push_expression_slots.result _ (IsBegun unit spots new_slots new_sizes)
    (λ rows. item_begun unit spots section raw c.operands_end-at.result c.operands_end-at.ensures ops of slots sizes new_sizes sized c.in_ok-push_expression_sizes.ensures.few new_slots (pushed unit spots c.bytes_of-bytes.result.now (bytes_in section raw.expr) c.deref-2.result.now ops slots new_slots c.bytes_of-bytes.ensures c.deref-2.ensures.value rows) c.requires.begun)
    c.push_expression_slots.ensures
