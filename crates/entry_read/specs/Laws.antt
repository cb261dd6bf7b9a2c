-- Laws of heads and units.
use Rattle.std.specs.Prelude.{◌≡◌, ℕ, List, length}
use Rattle.abbrev_tables.specs.Tables.{Declared}
use Rattle.entry_arena.specs.Trees.{Listed}
use Rattle.entry_arena.specs.ForestLaws.{HaveCodes}
use Rattle.entry_read.specs.declared.head.UnitHead.{UnitHead}
use Rattle.entry_read.specs.declared.unit.Counts.{Counts}
use Rattle.entry_read.specs.Heads.{Tile}
use Rattle.entry_read.specs.Units.{IsUnit, IsWithin}
use Rattle.entry_read.specs.Faults.{FaultHeads, FaultUnit}
use Rattle.dw_base.specs.Refusals.{IsFaulty}

-- Units tile a section in one way.
abbrev pub OneTiling : Type 0
OneTiling = (info : List ℕ) (heads others : List UnitHead) → Tile info heads → Tile info others → heads ≡ others

-- Units that tile a section have no fault in their headers.
abbrev pub HeadsWhole : Type 0
HeadsWhole = (info : List ℕ) (heads : List UnitHead) → Tile info heads → ¬ IsFaulty (FaultHeads info)

-- Declarations with codes of their own make one forest of a unit.
abbrev pub OneUnit : Type 0
OneUnit = (info : List ℕ) (head : UnitHead) (ds : List Declared) (forest other : Listed) → HaveCodes ds → IsUnit info head ds forest → IsUnit info head ds other → forest ≡ other

-- A unit that keeps the limits has no fault.
abbrev pub UnitsWhole : Type 0
UnitsWhole = (info : List ℕ) (head : UnitHead) (ds : List Declared) (before : Counts) (forest : Listed) → HaveCodes ds → IsUnit info head ds forest → IsWithin before (length forest.entries) (length forest.values) → ¬ IsFaulty (FaultUnit info head ds before)
