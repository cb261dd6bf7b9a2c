use Rattle.std.proofs.Common.{◌∙◌, Bool, sym}
use Rattle.std.specs.Prelude.{◌↔◌, IsTrue}
use Rattle.std.proofs.lemmas.Result.{IfOk-weaker}
use Rattle.same_meaning.specs.inside.Compared.{OfBoth, MeanOne, MeanAttributesAt, MeansEntryAt}
use Rattle.same_meaning.proofs.EntryShapes.{other_shape, one_shape, shapes_differ, attributes_decide}
use Rattle.same_meaning.proofs.entries.mean_same_entry.Goals as goal

pub returns-then-ne-clause-same : goal.returns-then-ne-clause-same
returns-then-ne-clause-same c =
    let differ = other_shape c.shape_of.result c.shape_of-2.result (sym c.if-ne.true ∙ c.ne.ensures) in
    shapes_differ c.args.before.now c.args.after.now c.args.unit c.args.id c.requires.first c.requires.second c.shape_of.result c.shape_of-2.result c.shape_of.ensures c.shape_of-2.ensures differ

pub returns-clause-same : goal.returns-clause-same
returns-clause-same c =
    let a = c.args.before.now in
    let b = c.args.after.now in
    let u = c.args.unit in
    let id = c.args.id in
    let alike = one_shape c.shape_of.result c.shape_of-2.result (sym c.if-ne.false ∙ c.ne.ensures) in
    IfOk-weaker c.mean_same_attributes.result
    (λ (same : Bool). OfBoth a b (λ r s. IsTrue same ↔ MeanOne (MeanAttributesAt r u id) (MeanAttributesAt s u id)))
    (λ (same : Bool). OfBoth a b (λ r s. IsTrue same ↔ MeanOne (MeansEntryAt r u id) (MeansEntryAt s u id)))
    (attributes_decide a b u id c.requires.first c.requires.second c.shape_of.result c.shape_of-2.result c.shape_of.ensures c.shape_of-2.ensures alike)
    c.mean_same_attributes.ensures.same
