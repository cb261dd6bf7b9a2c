-- Which inputs are faulty, and what is written for the others. An input is held to the narrow limits, and what is written for one to the
-- wide ones. Which file is drawn from a number. And which three files are rejected.
use Rattle.std.specs.Prelude.{ℕ, List}
use Rattle.dw_base.specs.declared.classes.Classes.{Classes}
use Rattle.dw_base.specs.declared.fault.Kind.{Kind}
use Rattle.dw_base.specs.declared.fault.Reach.TheVariants.{Narrow, Wide}
use Rattle.value_links.specs.Same.{Same}
use Rattle.written_files.specs.Placed.{IsPlaced}
use Rattle.written_files.specs.Classes.{HaveLeastCodes, HaveOrderedCodes, HaveLeastColumns, HaveFirstColumns, HaveLeastLists}
use Rattle.written_files.specs.Kept.{HaveLeastLines, HaveOrderedLines}
use Rattle.written_files.specs.Tidy.{IsTidy}
use Rattle.value_links.specs.Faults.{Faulty as FaultyWithin, IsValid as IsValidWithin}
use Rattle.value_links.specs.Debug.{Means}
use Rattle.sample_maker.specs.Generated.{Generated}
use Rattle.same_meaning.specs.declared.reason.Reason.{Reason}
use Rattle.unit_slots.specs.Standing.{HaveLeastStandingLayouts}
use Rattle.verdict.specs.Accepts.{Accepts, IsFirstReason}

-- a fault of this kind stands at this place, in the first pass that has any
abbrev pub Faulty : List ℕ → Kind → ℕ → Type 0
Faulty file kind place = FaultyWithin file Narrow kind place

-- the file has no fault
abbrev pub IsValid : List ℕ → Type 0
IsValid file = IsValidWithin file Narrow

-- the same of a file that is written for another
abbrev pub FaultyOutput : List ℕ → Kind → ℕ → Type 0
FaultyOutput written kind place = FaultyWithin written Wide kind place

abbrev pub IsValidOutput : List ℕ → Type 0
IsValidOutput written = IsValidWithin written Wide

-- the written file has none either, within the wide limits
abbrev pub StaysValid : List ℕ → List ℕ → Type 0
StaysValid file written = IsValidOutput written

-- each line number program is written as the least that gives its rows, or kept where the classes say so
abbrev pub HasLeastLines : Classes → List ℕ → List ℕ → Type 0
HasLeastLines classes file written = HaveLeastLines classes file written

-- which of the least line number programs is written: its pair comes first, and its opcodes stand in the order that is stated for
-- them
abbrev pub HasOrderedLines : Classes → List ℕ → List ℕ → Type 0
HasOrderedLines classes file written = HaveOrderedLines classes file written

-- the sizes that the slots of each unit have in the written file are the least of its layout; it is said of that file alone
abbrev pub HasLeastLayouts : List ℕ → List ℕ → Type 0
HasLeastLayouts file written = HaveLeastStandingLayouts written

-- the written file is all that is promised of it in these classes
pub record IsWhole (classes : Classes) (file written : List ℕ) : Type 0 where
  pub same : Same file written
  pub still_valid : StaysValid file written
  pub least : HasLeastLines classes file written
  pub order : HasOrderedLines classes file written
  pub lists : HaveLeastLists classes file written
  pub columns : HaveLeastColumns classes file written
  pub columns_order : HaveFirstColumns classes file written
  pub codes : HaveLeastCodes file written
  pub codes_order : HaveOrderedCodes file written
  pub layouts : HasLeastLayouts file written
  pub tidy : IsTidy file written
  pub placed : IsPlaced file written

-- A file that is drawn from a number, with so many units: it is valid, and means what is drawn.
pub record IsDrawn (number units : ℕ) (file : List ℕ) : Type 0 where
  pub valid : IsValid file
  pub means : Means file (Generated number units)

-- Three files are rejected for a reason: a file, one that may have been written for it, and the certificate of this one. The two files
-- are valid and aren't accepted with the certificate, and this is the first reason why.
pub record IsRejected (classes : Classes) (file written cert : List ℕ) (reason : Reason) : Type 0 where
  pub valid : IsValid file
  pub output_valid : IsValidOutput written
  pub unaccepted : ¬ Accepts classes file written cert
  pub first : IsFirstReason classes file written cert reason
