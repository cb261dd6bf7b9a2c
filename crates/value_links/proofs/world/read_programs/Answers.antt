use Rattle.std.proofs.Common.{◌≡◌, ℕ, List, subst}
use Rattle.std.proofs.lemmas.Result.{IfErr-weaker}
use Rattle.dw_base.specs.declared.fault.Reach.{Reach}
use Rattle.dw_base.specs.Refusals.{IsFaultOf, IsRefusedFor}
use Rattle.line_write.specs.Faults.{LinesFault}
use Rattle.value_links.specs.Sections.{offset_named, debug_line, line_name}
use Rattle.value_links.specs.inside.Passes.{NamesLaterFault}
use Rattle.value_links.proofs.WorldLaws.{bytes_are, origin_is, programs_refused}
use Rattle.value_links.proofs.world.read_programs.Goals as goal

pub returns-clause-refused : goal.returns-clause-refused
returns-clause-refused c =
    let line = c.debug_section-line in
    let bytes : line.result.bytes.now ≡ debug_line c.args.file.now = bytes_are c.args.file.now c.as_slice.result.now line_name line.result.bytes.now c.as_slice.ensures line.ensures.bytes in
    let origin : line.result.origin ≡ offset_named c.args.file.now line_name = origin_is c.args.file.now c.as_slice.result.now line_name line.result.origin c.as_slice.ensures line.ensures.origin in
    IfErr-weaker c.read_lines.result (IsRefusedFor (IsFaultOf (LinesFault line.result.bytes.now) line.result.origin)) (λ refusal. (reach : Reach) → NamesLaterFault c.args.file.now reach refusal) (λ refusal f. programs_refused c.args.file.now refusal (subst (λ (z : List ℕ). IsRefusedFor (IsFaultOf (LinesFault z) (offset_named c.args.file.now line_name)) refusal) bytes (subst (λ (o : ℕ). IsRefusedFor (IsFaultOf (LinesFault line.result.bytes.now) o) refusal) origin f))) c.read_lines.ensures.fault
