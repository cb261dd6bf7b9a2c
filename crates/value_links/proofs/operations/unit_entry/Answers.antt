use Rattle.std.proofs.Common.{ℕ, List, sym, subst}
use Rattle.std.specs.Prelude.{Some, None}
use Rattle.value_links.specs.Reading.{Linkable}
use Rattle.value_links.specs.Operations.{NamesUnitEntry}
use Rattle.value_links.specs.Parts.{HoldsParts}
use Rattle.value_links.specs.Links.{IsNamedThing}
use Rattle.value_links.proofs.LinkedValues.{local_answer}
use Rattle.value_links.proofs.OpLinks.{target_named, none_named}
use Rattle.value_links.proofs.operations.unit_entry.Goals as goal

pub returns-in_err-target : goal.returns-in_err-target
returns-in_err-target c = λ (file : List ℕ) (r : Linkable) (holds : HoldsParts file r c.args.parts.now).
    let found = local_answer file r c.args.parts.now holds c.args.unit 0 c.requires.unit c.unit_of.result.now c.args.offset None c.unit_of.ensures c.in_err-target.ensures in
    subst (IsNamedThing (NamesUnitEntry r c.args.unit c.args.offset)) (sym c.from_residual.ensures) (none_named file r c.args.parts.now holds c.args.unit c.requires.unit c.args.offset found)

pub returns : goal.returns
returns c = λ (file : List ℕ) (r : Linkable) (holds : HoldsParts file r c.args.parts.now).
    let found = local_answer file r c.args.parts.now holds c.args.unit 0 c.requires.unit c.unit_of.result.now c.args.offset (Some c.in_ok-target.target) c.unit_of.ensures c.in_ok-target.ensures in
    subst (IsNamedThing (NamesUnitEntry r c.args.unit c.args.offset)) (sym c.entry_in.ensures) (target_named file r c.args.parts.now holds c.args.unit c.requires.unit c.args.offset c.in_ok-target.target found)
