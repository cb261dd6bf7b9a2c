use Rattle.std.proofs.Common.{◌≡◌, sym, subst}
use Rattle.std.specs.Prelude.{ℤ, FitsSigned}
use Rattle.std.specs.Int.{w8, w64}
use Rattle.std.proofs.lemmas.Int.{to_z-of_z}
use Rattle.std.proofs.lemmas.Result.{on_ok_weaker}
use Rattle.sample_maker.proofs.Appending.{step_written, short_fits, short_fits_wide}
use Rattle.sample_maker.proofs.lines.put_step.Goals as goal

pub returns : goal.returns
returns c =
    let fits : FitsSigned w8 c.args.step.line = short_fits c.args.step.line c.requires.line in
    let is_line : c.from-2.result ≡ c.args.step.line = simp to_z-of_z at c.from-2.ensures in
    let wide : FitsSigned w64 c.from-2.result = subst (λ (v : ℤ). FitsSigned w64 v) (sym is_line) (short_fits_wide c.args.step.line c.requires.line) in
    on_ok_weaker c.put-3.result (step_written c.args.step c.from.result c.from-2.result c.args.out.now.items c.put.new.out.items c.put-2.new.out.items c.put-3.new.out.items c.requires c.from.ensures is_line c.in_ok-put.ensures (simp to_z-of_z at c.in_ok-put-2.ensures)) c.put-3.ensures
