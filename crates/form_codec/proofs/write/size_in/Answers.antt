use Rattle.std.proofs.Common.{◌≡◌, rules}
use Rattle.std.proofs.lemmas.Int.{to_z-of_z}
use Rattle.std.specs.Prelude.{FitsSigned}
use Rattle.std.specs.Int.{w64}
use Rattle.form_codec.specs.declared.form.Role.TheVariants as role
use Rattle.form_codec.specs.declared.form.Shape.TheVariants as shape
use Rattle.form_codec.proofs.write.size_in.Goals as goal

pub returns-in-Uleb-Unsigned-Int : goal.returns-in-Uleb-Unsigned-Int
returns-in-Uleb-Unsigned-Int c =
    let is : c.args.shape ≡ shape.Uleb role.Unsigned = search rules in
    rw (is, c.in-Uleb-Unsigned-Int.is-1) c.uleb_size.ensures

pub returns-in-Sleb-Int : goal.returns-in-Sleb-Int
returns-in-Sleb-Int c = rw (c.in-Sleb-Int.is-0, c.in-Sleb-Int.is-1) c.signed_size.ensures

pub returns-in-Constant-Int : goal.returns-in-Constant-Int
returns-in-Constant-Int c =
    let fits : FitsSigned w64 c.in-Constant-Int.constant = rw c.in-Constant-Int.is-0 at c.requires in
    rw (c.in-Constant-Int.is-0, c.in-Constant-Int.is-1) (simp to_z-of_z at c.constant_size.ensures)
