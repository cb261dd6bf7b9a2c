use Rattle.std.proofs.Common.{ℕ, List}
use Rattle.form_codec.specs.Values.{meant_in}
use Rattle.value_links.specs.Reading.{Linkable, unit_at}
use Rattle.value_links.specs.Parts.{HoldsParts}
use Rattle.value_links.proofs.Viewings.{viewing_joined, no_viewing}
use Rattle.value_links.proofs.views.push_value.Goals as goal

pub returns-in_ok-push : goal.returns-in_ok-push
returns-in_ok-push c = λ (file : List ℕ) (r : Linkable) (holds : HoldsParts file r c.args.parts.now).
    viewing_joined r c.args.unit c.args.id c.args.name (meant_in (unit_at r c.args.unit).forest.section c.args.value.now) c.args.viewings.now.items c.push.new.viewings.items c.in-Some.viewing c.in_ok-push.ensures (c.in-Some.ensures file r holds)

pub returns-in_default : goal.returns-in_default
returns-in_default c = λ (file : List ℕ) (r : Linkable) (holds : HoldsParts file r c.args.parts.now).
    no_viewing r c.args.unit c.args.id c.args.name (meant_in (unit_at r c.args.unit).forest.section c.args.value.now) c.args.viewings.now.items (c.in_default.ensures file r holds)
