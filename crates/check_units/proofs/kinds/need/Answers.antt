use Rattle.std.proofs.Common.{◌≡◌, ◌+◌, ◌-◌, ◌^◌, ◌∙◌, min, ap, sym, arith}
use Rattle.leb_codec.specs.Layout.{SlotForm, uleb, need}
use Rattle.slot_layout.specs.Rows.{form_of}
use Rattle.check_units.proofs.NeedLaws.{need_of_sum}
use Rattle.check_units.proofs.kinds.need.Goals as goal

pub returns-in-Uleb : goal.returns-in-Uleb
returns-in-Uleb c =
    let is : c.saturating_add-number.result ≡ min (c.args.fixed + c.args.sizes) (2 ^ 64 - 1) = omega (arith, c.saturating_add-number.ensures) in
    let form : form_of c.args.kind ≡ uleb = ap form_of c.in-Uleb.is in
    c.len_u.ensures.least ∙ need_of_sum c.args.fixed c.args.sizes c.saturating_add-number.result c.ranges.fixed.fits c.ranges.sizes.fits is ∙ ap (λ (f : SlotForm). need f (c.args.fixed + c.args.sizes)) (sym form)
