use Rattle.std.proofs.Common.{subst, sym, arith}
use Rattle.list_model.specs.declared.entry.ListKind.{ListKind}
use Rattle.tidy_lists.specs.inside.Lengths.{IsBareUpTo, IsEntryUpTo}
use Rattle.tidy_lists.proofs.EntriesUpTo.{range_bare, item_end, item_inside, location_bare}
use Rattle.tidy_lists.proofs.lengths.entry_end.Goals as goal

pub overflow_add-result : goal.overflow_add-result
overflow_add-result c =
    let (end, here) = c.requires.entry in
    let location = subst (λ (kind : ListKind). IsEntryUpTo kind c.args.bytes.now c.args.raw.now end) c.in-Locations.is here in
    let same = item_end c.args.bytes.now c.args.raw.now end c.if-is_item.ensures location in
    let inside = item_inside c.args.bytes.now c.args.raw.now end location in
    record { fits = omega (arith, same, inside, c.requires.small) }

pub returns-in-Ranges : goal.returns-in-Ranges
returns-in-Ranges c = λ end here. c.operands_end.ensures end (subst (λ (kind : ListKind). IsBareUpTo kind c.args.bytes.now c.args.raw.now end) (sym c.in-Ranges.is) (range_bare c.args.bytes.now c.args.raw.now end (subst (λ (kind : ListKind). IsEntryUpTo kind c.args.bytes.now c.args.raw.now end) c.in-Ranges.is here)))

pub returns-else-is_item : goal.returns-else-is_item
returns-else-is_item c = λ end here. c.operands_end-else-is_item.ensures end (subst (λ (kind : ListKind). IsBareUpTo kind c.args.bytes.now c.args.raw.now end) (sym c.in-Locations.is) (location_bare c.args.bytes.now c.args.raw.now end c.if-is_item.ensures (subst (λ (kind : ListKind). IsEntryUpTo kind c.args.bytes.now c.args.raw.now end) c.in-Locations.is here)))

pub returns-then-is_item : goal.returns-then-is_item
returns-then-is_item c = λ end here. item_end c.args.bytes.now c.args.raw.now end c.if-is_item.ensures (subst (λ (kind : ListKind). IsEntryUpTo kind c.args.bytes.now c.args.raw.now end) c.in-Locations.is here)
