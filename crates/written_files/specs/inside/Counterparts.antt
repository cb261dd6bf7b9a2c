-- The parts of a written file that are those of the old one: units, entries and values with the same numbers, and the forms that values have in
-- a written file.
use Rattle.std.specs.Prelude.{◌≡◌, ◌<◌, ℕ, List, length}
use Rattle.dw_base.specs.declared.classes.Classes.{Classes}
use Rattle.dw_base.specs.declared.fault.Span.{Span}
use Rattle.form_codec.specs.declared.form.Form.TheVariants.{RefUdata, RefAddr, SecOffset, Exprloc}
use Rattle.form_codec.specs.Forms.{Meaning, code_of}
use Rattle.form_codec.specs.Forms.Meaning.{Expression, InUnit, InSection, SectionPlace}
use Rattle.entry_read.specs.Expressions.{IsExprAt}
use Rattle.value_links.specs.Reading.{Reading, unit_at}
use Rattle.value_links.specs.Resolved.{Resolved, Resolves}
use Rattle.value_links.specs.Values.{HasValueAt, entry_of}
use Rattle.value_links.specs.Whole.{IsReading}
use Rattle.written_files.specs.Written.{IsWrittenAnew}

-- both files are read, and the one is written anew for the other in some classes
pub record AreAnew (file written : List ℕ) (r s : Reading) : Type 0 where
  pub classes : Classes
  pub read : IsReading file r
  pub again : IsReading written s
  pub anew : IsWrittenAnew classes file written

-- the value of the old file with the number of a value of the written one has the same name and means the same
pub record HasOld (r s : Reading) (u id number name : ℕ) (meaning : Meaning) : Type 0 where
  pub old : Meaning
  pub at : ℕ
  pub stands : HasValueAt (unit_at r.links u) id number name old at
  pub value : Resolved
  pub means : Resolves r u id name old value
  pub also : Resolves s u id name meaning value

-- Units, entries and values of two files that mean the same correspond by their numbers, and so do the expressions among the values.
pub record Correspond (r s : Reading) : Type 0 where
  pub units : length s.links.units ≡ length r.links.units
  pub entries : (u : ℕ) → u < length s.links.units → length (unit_at s.links u).forest.entries ≡ length (unit_at r.links u).forest.entries
  pub first : (u id : ℕ) → u < length s.links.units → id < length (unit_at s.links u).forest.entries → (entry_of (unit_at s.links u) id).first ≡ (entry_of (unit_at r.links u) id).first
  pub count : (u id : ℕ) → u < length s.links.units → id < length (unit_at s.links u).forest.entries → (entry_of (unit_at s.links u) id).count ≡ (entry_of (unit_at r.links u) id).count
  pub numbers : (u : ℕ) → u < length s.links.units → length (unit_at s.links u).forest.values ≡ length (unit_at r.links u).forest.values
  pub values : (u id number name : ℕ) (meaning : Meaning) (place : ℕ) → u < length s.links.units → HasValueAt (unit_at s.links u) id number name meaning place → HasOld r s u id number name meaning
  pub expressions : (u number : ℕ) (new : Span) → u < length s.links.units → IsExprAt (unit_at s.links u).forest number new → (old : Span) × IsExprAt (unit_at r.links u).forest number old

-- the code of the one form in which a value of a written file can stand that means a reference, a section offset or an expression
abbrev pub HasWrittenForm : Meaning → ℕ → Type 0
HasWrittenForm (InUnit n) form = form ≡ code_of RefUdata
HasWrittenForm (InSection n) form = form ≡ code_of RefAddr
HasWrittenForm (SectionPlace n) form = form ≡ code_of SecOffset
HasWrittenForm (Expression bytes) form = form ≡ code_of Exprloc
HasWrittenForm meaning form = Unit {0}
