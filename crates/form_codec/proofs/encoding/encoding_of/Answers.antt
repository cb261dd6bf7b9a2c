use Rattle.std.proofs.lemmas.Int.{to_z-of_z}
use Rattle.std.specs.Prelude.{FitsSigned}
use Rattle.std.specs.Int.{w64}
use Rattle.form_codec.proofs.encoding.encoding_of.Goals as goal

pub returns-in-Constant : goal.returns-in-Constant
returns-in-Constant c =
    let fits : FitsSigned w64 c.in-Constant.constant = rw c.in-Constant.is at c.requires in
    rw c.in-Constant.is (simp to_z-of_z at c.constant_encoding.ensures)

pub returns-in-Present : goal.returns-in-Present
returns-in-Present c = rw c.in-Present.is c.present_encoding.ensures

pub returns-in-Uleb : goal.returns-in-Uleb
returns-in-Uleb c = rw c.in-Uleb.is c.uleb_encoding.ensures

pub returns-in-Sleb : goal.returns-in-Sleb
returns-in-Sleb c = rw c.in-Sleb.is c.sleb_encoding.ensures
