-- What is so of a file that is written anew, by its promises: the statements that the laws of the crates above share.
use Rattle.std.specs.Prelude.{◌≡◌, ◌<◌, ◌+◌, ◌++◌, ◌∷◌, ℕ, List, length, take, All}
use Rattle.dw_base.specs.declared.fault.Span.{Span}
use Rattle.expr_ops.specs.declared.op.Op.{Op}
use Rattle.expr_ops.specs.Drafts.{total}
use Rattle.expr_ops.specs.Ops.{meant, all_meant}
use Rattle.expr_ops.specs.Shortest.{fixed_length, IsWrittenShortest}
use Rattle.form_codec.specs.Forms.{Meaning}
use Rattle.form_codec.specs.Values.{bytes_in}
use Rattle.entry_read.specs.Expressions.{IsExprAt}
use Rattle.list_model.specs.declared.entry.ListKind.{ListKind}
use Rattle.list_model.specs.declared.entry.ListKind.TheVariants.{Locations}
use Rattle.value_links.specs.Lists.{expressions_at}
use Rattle.value_links.specs.Reading.{Reading, unit_at, lists_of, list_at}
use Rattle.value_links.specs.Same.{Same}
use Rattle.value_links.specs.Values.{HasValueAt}
use Rattle.value_links.specs.Whole.{IsReading}
use Rattle.written_files.specs.Classes.{OfReadings}
use Rattle.written_files.specs.inside.Counterparts.{AreAnew, Correspond, HasWrittenForm}
use Rattle.written_files.specs.inside.FewestBytes.{HasFewestBytes, fewest_sizes, held_length}
use Rattle.written_files.specs.inside.Standing.{StandsWhole, RunStands}

-- what holds of some readings of both files holds of these
abbrev pub HoldsOfThese : Type 1
HoldsOfThese = (Holds : Reading → Reading → Type 0) (file written : List ℕ) (r s : Reading) → IsReading file r → IsReading written s → OfReadings Holds file written → Holds r s

abbrev pub SameFilesCorrespond : Type 0
SameFilesCorrespond = (file written : List ℕ) (r s : Reading) → IsReading file r → IsReading written s → Same file written → Correspond r s

-- each value of the written file has the form that is written
abbrev pub HaveWrittenForms : Type 0
HaveWrittenForms =
    (file written : List ℕ) (r s : Reading) → AreAnew file written r s → (u id number name : ℕ) (meaning : Meaning) (place : ℕ) → u < length s.links.units → (stands : HasValueAt (unit_at s.links u) id number name meaning place) → HasWrittenForm meaning stands.column.form

-- an expression that is written anew has its fewest bytes
abbrev pub ShortestAreFewest : Type 0
ShortestAreFewest = (refs old : List ℕ) (ops : List Op) (made : List ℕ) → IsWrittenShortest refs old ops made → HasFewestBytes made

-- so many bytes are these, by the operations; and so is what one of them holds
abbrev pub FewestAreCounted : Type 0
FewestAreCounted = (bytes : List ℕ) (h : HasFewestBytes bytes) → length bytes ≡ fixed_length (all_meant bytes h.ops) + total (fewest_sizes (all_meant bytes h.ops))

abbrev pub HeldAreCounted : Type 0
HeldAreCounted =
    (bytes : List ℕ) (h : HasFewestBytes bytes) (before : List Op) (op : Op) (behind : List Op) → h.ops ≡ before ++ op ∷ behind → held_length (meant bytes op) (all_meant bytes behind) ≡ fixed_length (take op.inner (all_meant bytes behind)) + total (fewest_sizes (take op.inner (all_meant bytes behind)))

-- the expressions of entries and those of location lists of the written file have their fewest bytes
abbrev pub EntriesHaveFewest : Type 0
EntriesHaveFewest =
    (file written : List ℕ) (r s : Reading) → AreAnew file written r s → (u number : ℕ) (span : Span) → u < length s.links.units → IsExprAt (unit_at s.links u).forest number span → HasFewestBytes (bytes_in (unit_at s.links u).forest.section span)

abbrev pub ListsHaveFewest : Type 0
ListsHaveFewest =
    (file written : List ℕ) (r s : Reading) → AreAnew file written r s → (k : ℕ) → k < length s.location_lists → All HasFewestBytes (expressions_at s.links Locations (list_at s.location_lists k))

-- its lists and runs stand with no byte too many in lengths and pairs
abbrev pub ListsStand : Type 0
ListsStand = (file written : List ℕ) (r s : Reading) → AreAnew file written r s → (kind : ListKind) (k : ℕ) → k < length (lists_of s kind) → StandsWhole kind s k

abbrev pub RunsStandThere : Type 0
RunsStandThere = (file written : List ℕ) (r s : Reading) → AreAnew file written r s → (n : ℕ) → n < length s.views → RunStands s n

-- all of them, which lemmas of the crates above take as one
pub record AreLaws : Type 1 where
  pub holds : HoldsOfThese
  pub correspond : SameFilesCorrespond
  pub written_forms : HaveWrittenForms
  pub shortest : ShortestAreFewest
  pub counted : FewestAreCounted
  pub held_counted : HeldAreCounted
  pub entries_fewest : EntriesHaveFewest
  pub lists_fewest : ListsHaveFewest
  pub lists_stand : ListsStand
  pub runs_stand : RunsStandThere
