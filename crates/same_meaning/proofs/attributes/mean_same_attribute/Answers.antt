use Rattle.std.proofs.Common.{◌+◌, ℕ, sym, subst}
use Rattle.std.specs.Prelude.{◌↔◌, IsTrue}
use Rattle.same_meaning.specs.inside.Compared.{MeanOne, MeansValue, StandsIn}
use Rattle.same_meaning.specs.inside.Values.{entry_held}
use Rattle.same_meaning.proofs.ReadUnits.{some_reading}
use Rattle.same_meaning.proofs.LinkComparisons.{if_ok, both_ways}
use Rattle.same_meaning.proofs.ColumnMeanings.{column_held, stands_held, columns_mean}
use Rattle.same_meaning.proofs.attributes.mean_same_attribute.Goals as goal

pub value_number-first-requires-clause-column : goal.value_number-first-requires-clause-column
value_number-first-requires-clause-column c =
    let (r, read, holds) = some_reading c.args.before.now c.requires.before in
    let (s, also, held) = some_reading c.args.after.now c.requires.after in
    column_held c.args.before.now r c.args.at.unit c.args.at.id read holds c.requires.known c.requires.first c.args.column c.args.at.name (c.requires.named r s read holds also held).0

pub value_number-second-requires-clause-column : goal.value_number-second-requires-clause-column
value_number-second-requires-clause-column c =
    let (r, read, holds) = some_reading c.args.before.now c.requires.before in
    let (s, also, held) = some_reading c.args.after.now c.requires.after in
    column_held c.args.after.now s c.args.at.unit c.args.at.id also held c.requires.again c.requires.second c.args.column c.args.at.name (c.requires.named r s read holds also held).1

pub mean_same_value-requires-clause-stands : goal.mean_same_value-requires-clause-stands
mean_same_value-requires-clause-stands c = λ r s read holds also held. (
  subst (StandsIn r c.args.at.unit c.args.at.id c.args.at.name) (sym c.value_number-first.ensures) (stands_held c.args.before.now r c.args.at.unit c.args.at.id read holds c.requires.known c.requires.first c.args.column c.args.at.name (c.requires.named r s read holds also held).0),
  subst (StandsIn s c.args.at.unit c.args.at.id c.args.at.name) (sym c.value_number-second.ensures) (stands_held c.args.after.now s c.args.at.unit c.args.at.id also held c.requires.again c.requires.second c.args.column c.args.at.name (c.requires.named r s read holds also held).1),
)

pub returns-clause-same : goal.returns-clause-same
returns-clause-same c = if_ok _ _ c.mean_same_value.result (λ same all r s read holds also held.
    let mine = subst (λ (n : ℕ). IsTrue same ↔ MeanOne (MeansValue r c.args.at.unit c.args.at.id c.args.at.name n) (MeansValue s c.args.at.unit c.args.at.id c.args.at.name c.value_number-second.result)) c.value_number-first.ensures (all r s read holds also held) in
    let both = subst (λ (n : ℕ). IsTrue same ↔ MeanOne (MeansValue r c.args.at.unit c.args.at.id c.args.at.name ((entry_held c.args.before.now c.args.at.unit c.args.at.id).first + c.args.column)) (MeansValue s c.args.at.unit c.args.at.id c.args.at.name n)) c.value_number-second.ensures mine in
    both_ways both (columns_mean c.args.before.now c.args.after.now r s c.args.at.unit c.args.at.id c.args.column c.args.at.name read holds also held c.requires.known c.requires.again c.requires.first c.requires.second (c.requires.named r s read holds also held).0 (c.requires.named r s read holds also held).1)) c.mean_same_value.ensures.same
