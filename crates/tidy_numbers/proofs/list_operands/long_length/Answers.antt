use Rattle.std.proofs.Common.{◌≡◌, ◌∙◌, sym}
use Rattle.std.specs.Prelude.{true}
use Rattle.loc_lists.specs.Locations.{is_item}
use Rattle.tidy_numbers.proofs.ListEntryPlaces.{length_begins, length_found}
use Rattle.tidy_numbers.proofs.list_operands.long_length.Goals as goal

pub first_of_operand-requires-clause-there : goal.first_of_operand-requires-clause-there
first_of_operand-requires-clause-there c =
    let item : is_item c.args.raw.now ≡ true = sym c.is_item.ensures ∙ c.if-not-is_item.false in
    length_begins c.args.section.now c.args.raw.now c.in_ok-kind.kind c.end_of_operands-at.result c.requires.there c.in_ok-kind.ensures item c.end_of_operands-at.ensures

pub returns : goal.returns
returns c =
    let item : is_item c.args.raw.now ≡ true = sym c.is_item.ensures ∙ c.if-not-is_item.false in
    length_found c.args.section.now c.args.raw.now c.in_ok-kind.kind c.end_of_operands-at.result c.in_ok-kind.ensures item c.end_of_operands-at.ensures c.first_of_operand.result c.first_of_operand.ensures
