use Rattle.std.proofs.Common.{refl}
use Rattle.form_codec.specs.declared.form.Form.TheVariants as form
use Rattle.measure.proofs.values.drawn_form.Goals as goal

pub returns-in-0-to-3 : goal.returns-in-0-to-3
returns-in-0-to-3 c = (form.Strp, refl)

pub returns-in-4-to-8 : goal.returns-in-4-to-8
returns-in-4-to-8 c = (form.Data1, refl)

pub returns-in-9-to-10 : goal.returns-in-9-to-10
returns-in-9-to-10 c = (form.Data2, refl)

pub returns-in-11 : goal.returns-in-11
returns-in-11 c = (form.Data4, refl)

pub returns-in-12 : goal.returns-in-12
returns-in-12 c = (form.Udata, refl)

pub returns-in-13 : goal.returns-in-13
returns-in-13 c = (form.Sdata, refl)

pub returns-in-14-to-19 : goal.returns-in-14-to-19
returns-in-14-to-19 c = (form.Ref4, refl)

pub returns-in-20 : goal.returns-in-20
returns-in-20 c = (form.Addr, refl)

pub returns-in-21-to-23 : goal.returns-in-21-to-23
returns-in-21-to-23 c = (form.Exprloc, refl)

pub returns-in-24 : goal.returns-in-24
returns-in-24 c = (form.String, refl)

pub returns-in-25-to-27 : goal.returns-in-25-to-27
returns-in-25-to-27 c = (form.FlagPresent, refl)

pub returns-in-28-to-29 : goal.returns-in-28-to-29
returns-in-28-to-29 c = (form.SecOffset, refl)

pub returns-in_default : goal.returns-in_default
returns-in_default c = (form.ImplicitConst, refl)
