use Rattle.std.proofs.Common.{ℕ, List, sym, subst}
use Rattle.std.specs.Prelude.{Option}
use Rattle.form_codec.specs.declared.value.Value.{Value}
use Rattle.form_codec.specs.Forms.{Meaning}
use Rattle.form_codec.specs.Values.{meant_in}
use Rattle.value_links.specs.Reading.{Linkable, unit_at}
use Rattle.value_links.specs.Parts.{HoldsParts}
use Rattle.value_links.specs.inside.Namings.{IsPlaceNamed}
use Rattle.value_links.proofs.NamingPlaces.{other_nothing}
use Rattle.value_links.proofs.namings.named_by.Goals as goal

pub returns-in-Offset-clause-named : goal.returns-in-Offset-clause-named
returns-in-Offset-clause-named c = λ (id : ℕ) (file : List ℕ) (r : Linkable) (holds : HoldsParts file r c.args.parts.now).
    subst (λ (z : Value). IsPlaceNamed r c.args.kind c.args.unit id c.args.name (meant_in (unit_at r c.args.unit).forest.section z) c.named_by_offset.result) (sym c.in-Offset.is) (c.named_by_offset.ensures.named c.args.unit id file r holds)

pub returns-in_err-index-clause-named : goal.returns-in_err-index-clause-named
returns-in_err-index-clause-named c = λ (id : ℕ) (file : List ℕ) (r : Linkable) (holds : HoldsParts file r c.args.parts.now).
    subst (λ (z : Option ℕ). IsPlaceNamed r c.args.kind c.args.unit id c.args.name (meant_in (unit_at r c.args.unit).forest.section c.args.value.now) z) (sym c.from_residual.ensures)
    (other_nothing r c.args.kind c.args.unit id c.args.name (unit_at r c.args.unit).forest.section c.args.value.now c.in_default.not-Offset c.in_err-index.ensures)

pub returns-clause-named : goal.returns-clause-named
returns-clause-named c = λ (id : ℕ) (file : List ℕ) (r : Linkable) (holds : HoldsParts file r c.args.parts.now).
    subst (λ (z : Meaning). IsPlaceNamed r c.args.kind c.args.unit id c.args.name z c.named_by_index.result) (sym (c.in_ok-index.ensures (unit_at r c.args.unit).forest.section)) (c.named_by_index.ensures.named id c.args.name file r holds)
