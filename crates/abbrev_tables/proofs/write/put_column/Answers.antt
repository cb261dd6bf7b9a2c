use Rattle.std.proofs.Common.{FitsSigned, w64, ℤ, subst}
use Rattle.std.proofs.lemmas.Int.{to_z-of_z}
use Rattle.spelled.specs.Spelled.{Appends}
use Rattle.abbrev_tables.specs.Written.{ShortestConstant}
use Rattle.abbrev_tables.proofs.Puts.{column_put}
use Rattle.abbrev_tables.proofs.write.put_column.Goals as goal

pub returns : goal.returns
returns c =
    let fits : FitsSigned w64 c.constant_of.result = record { sfits = c.constant_of.type_inv } in
    let put = simp to_z-of_z at c.in_ok-put_constant.ensures in
    column_put c.args.column c.args.out.now.items c.put_u.new.out.items c.put_u-2.new.out.items c.put_constant.new.out.items c.in_ok-put_u.ensures.ok c.in_ok-put_u-2.ensures.ok
    (subst (λ (v : ℤ). Appends (ShortestConstant c.args.column.form) v c.put_u-2.new.out.items c.put_constant.new.out.items) c.constant_of.ensures put)
