use Rattle.std.proofs.Common.{List, sym, subst}
use Rattle.std.proofs.lemmas.Result.{err_from_is_err_and}
use Rattle.entry_read.specs.declared.head.UnitHead.{UnitHead}
use Rattle.entry_read.specs.Heads.{Tile}
use Rattle.value_links.proofs.Fronts.{offset_fault}
use Rattle.value_links.proofs.units.named_heads.Goals as goal

pub returns-in_err-check_offsets-clause-fault : goal.returns-in_err-check_offsets-clause-fault
returns-in_err-check_offsets-clause-fault c =
    let p = err_from_is_err_and c.from_residual-in_err-check_offsets.result c.from_residual-in_err-check_offsets.ensures.1 in
    let info = c.args.info.now in
    let (u, inside, past, is) = c.in_err-check_offsets.ensures.fault in
    rw (p.1, p.2) (offset_fault info c.args.abbrevs.now c.deref.result.now u c.args.origin c.in_err-check_offsets.field-0.0 (subst (λ (z : List UnitHead). Tile info z) (sym c.deref.ensures.value) c.in_ok-all.ensures.tiled) inside past is)
