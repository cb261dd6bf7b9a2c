use Rattle.std.proofs.Common.{◌∙◌, sym, ap}
use Rattle.std.specs.Prelude.{Some}
use Rattle.list_least.specs.inside.Ways.{as_entry}
use Rattle.list_least.specs.declared.pick.Pick.{Pick}
use Rattle.list_least.proofs.Picking.{adds_pick, fit_operands}
use Rattle.list_least.proofs.pick.push_pick.Goals as goal

pub returns : goal.returns
returns c =
    let is = c.pick_of.ensures.is in
    let fit = fit_operands c.args.entry.kind c.args.entry.a c.args.entry.b c.pick_of.ensures.fits.0 c.pick_of.ensures.fits.1 c.requires.lacked in
    adds_pick c.args.list c.args.picks.now.items c.push.new.self.items c.pick_of.result (as_entry c.args.entry) (record { code = c.code_in.ensures ∙ ap (λ (z : Pick). Some z.code) (sym is); a = ap (λ (z : Pick). z.a) is; b = ap (λ (z : Pick). z.b) is; operands = fit }) c.in_ok-push.ensures.items
