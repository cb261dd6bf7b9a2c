use Rattle.std.proofs.Common.{◌≡◌, ◌≢◌, ◌<◌, ℕ, List, length, sym, subst}
use Rattle.std.specs.Prelude.{Option, Some, None, MatchOption}
use Rattle.line_machine.specs.declared.head.Head.{Head}
use Rattle.value_links.specs.Attributes.OffsetClass.{LinePtr}
use Rattle.value_links.specs.Reading.{Linkable}
use Rattle.value_links.specs.Linked.{OffsetLinks}
use Rattle.value_links.specs.Links.{IsFoundFor}
use Rattle.value_links.specs.Parts.{HoldsParts}
use Rattle.value_links.specs.inside.Links.{program_among, AreProgramsApart}
use Rattle.value_links.proofs.LinkedValues.{heads_apart, program_link}
use Rattle.value_links.proofs.link.lines_at.Goals as goal

abbrev IsFound : List Head → ℕ → Option ℕ → Type 0
IsFound programs place found = MatchOption found ((i : ℕ) → i < length programs → (program_among programs i).at ≢ place) (λ i. (i < length programs) × ((program_among programs i).at ≡ place))

pub returns-in_err-program : goal.returns-in_err-program
returns-in_err-program c = λ (file : List ℕ) (r : Linkable) (u id : ℕ) (holds : HoldsParts file r c.args.parts.now).
    let place = c.args.place in
    let none : IsFound c.args.parts.now.programs.items place None = subst (λ (z : List Head). IsFound z place None) c.deref.ensures.value (c.in_err-program.ensures (subst AreProgramsApart (sym c.deref.ensures.value) (heads_apart file r c.args.parts.now holds))) in
    subst (IsFoundFor (OffsetLinks r u id LinePtr place)) (sym c.from_residual.ensures) (program_link file r c.args.parts.now holds u id place None none)

pub returns : goal.returns
returns c = λ (file : List ℕ) (r : Linkable) (u id : ℕ) (holds : HoldsParts file r c.args.parts.now).
    let place = c.args.place in
    let some : IsFound c.args.parts.now.programs.items place (Some c.in_ok-program.program) = subst (λ (z : List Head). IsFound z place (Some c.in_ok-program.program)) c.deref.ensures.value (c.in_ok-program.ensures (subst AreProgramsApart (sym c.deref.ensures.value) (heads_apart file r c.args.parts.now holds))) in
    program_link file r c.args.parts.now holds u id place (Some c.in_ok-program.program) some
