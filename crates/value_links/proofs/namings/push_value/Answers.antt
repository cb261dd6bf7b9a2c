use Rattle.std.proofs.Common.{◌≡◌, ℕ, List, length}
use Rattle.std.specs.List.{All}
use Rattle.form_codec.specs.Values.{meant_in}
use Rattle.value_links.specs.Reading.{Linkable, unit_at}
use Rattle.value_links.specs.Parts.{HoldsParts, lists_in, section_held}
use Rattle.value_links.specs.inside.Namings.{ValueNames, IsSomeNaming}
use Rattle.value_links.proofs.NamingLists.{joined_none, joined_value, known_push}
use Rattle.value_links.proofs.namings.push_value.Goals as goal

pub returns-in_ok-push-clause-joined : goal.returns-in_ok-push-clause-joined
returns-in_ok-push-clause-joined c = λ (id : ℕ) (file : List ℕ) (r : Linkable) (holds : HoldsParts file r c.args.parts.now).
    joined_value r c.args.kind c.args.unit id c.args.name (meant_in (unit_at r c.args.unit).forest.section c.args.value.now) c.args.namings.now.items c.push.new.namings.items c.in-Some.at c.in_ok-push.ensures (c.in-Some.ensures.named id file r holds)

pub returns-in_ok-push-clause-known : goal.returns-in_ok-push-clause-known
returns-in_ok-push-clause-known c = λ (known : All (IsSomeNaming (section_held (lists_in c.args.parts.now c.args.kind)) (length c.args.parts.now.units.units.items)) c.args.namings.now.items).
    known_push (section_held (lists_in c.args.parts.now c.args.kind)) (length c.args.parts.now.units.units.items) c.args.namings.now.items c.push.new.namings.items c.in-Some.at c.args.unit c.in_ok-push.ensures known c.in-Some.ensures.begins c.requires.unit

pub returns-in_default-clause-joined : goal.returns-in_default-clause-joined
returns-in_default-clause-joined c = λ (id : ℕ) (file : List ℕ) (r : Linkable) (holds : HoldsParts file r c.args.parts.now).
    joined_none c.args.namings.now.items (λ (y : ℕ × ℕ). ValueNames r c.args.kind c.args.unit id c.args.name (meant_in (unit_at r c.args.unit).forest.section c.args.value.now) y.0 × (y.1 ≡ c.args.unit)) (λ y (is, _). c.in_default.ensures.named id file r holds y.0 is)
