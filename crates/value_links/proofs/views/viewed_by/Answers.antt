use Rattle.std.proofs.Common.{◌<◌, ℕ, List, length, sym, subst}
use Rattle.std.specs.Prelude.{Option, Some, None}
use Rattle.form_codec.specs.declared.value.Value.{Value}
use Rattle.form_codec.specs.Values.{meant_in}
use Rattle.value_links.specs.Reading.{Linkable, unit_at}
use Rattle.value_links.specs.Parts.{HoldsParts}
use Rattle.value_links.specs.inside.Views.{IsViewingFound}
use Rattle.value_links.proofs.NamingValues.{units_counted}
use Rattle.value_links.proofs.Viewings.{none_linked, one_linked}
use Rattle.value_links.proofs.views.viewed_by.Goals as goal

pub returns-in_err-list : goal.returns-in_err-list
returns-in_err-list c = λ (file : List ℕ) (r : Linkable) (holds : HoldsParts file r c.args.parts.now).
    subst (λ (z : Option (ℕ × ℕ)). IsViewingFound r c.args.unit c.args.id c.args.name (meant_in (unit_at r c.args.unit).forest.section c.args.value.now) z) (sym c.from_residual.ensures)
    (subst (λ (z : Value). IsViewingFound r c.args.unit c.args.id c.args.name (meant_in (unit_at r c.args.unit).forest.section z) None) (sym c.in-Offset.is)
    (none_linked r c.args.unit c.args.id c.in-Offset.place c.args.name (c.in_err-list.ensures file r holds)))

pub returns : goal.returns
returns c = λ (file : List ℕ) (r : Linkable) (holds : HoldsParts file r c.args.parts.now).
    let known : c.args.unit < length r.units = subst (λ (z : ℕ). c.args.unit < z) (units_counted file r c.args.parts.now holds) c.requires.unit in
    let found : IsViewingFound r c.args.unit c.args.id c.args.name (meant_in (unit_at r c.args.unit).forest.section c.args.value.now) (Some (c.in-Offset.place, c.in_ok-list.list)) =
    subst (λ (z : Value). IsViewingFound r c.args.unit c.args.id c.args.name (meant_in (unit_at r c.args.unit).forest.section z) (Some (c.in-Offset.place, c.in_ok-list.list))) (sym c.in-Offset.is)
    (one_linked r c.args.unit c.args.id c.in-Offset.place file holds.read known c.args.name c.if-name-ne-DW_AT_GNU_LOCVIEWS.false c.in_ok-list.list (c.in_ok-list.ensures file r holds)) in
    found
