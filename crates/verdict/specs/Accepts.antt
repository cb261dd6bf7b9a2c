-- When a file that was written anew for another is accepted with its certificate, why else it isn't, and what acceptance shows.
use Rattle.std.specs.Prelude.{◌≡◌, ◌<◌, ◌⊎◌, ℕ, List, length, false}
use Rattle.dw_base.specs.declared.classes.Classes.{Classes}
use Rattle.dw_base.specs.declared.fault.Reach.TheVariants.{Narrow, Wide}
use Rattle.leb_codec.specs.Records.{IsBroken}
use Rattle.same_meaning.specs.declared.reason.Reason.{Reason}
use Rattle.same_meaning.specs.declared.reason.Reason.TheVariants as reason
use Rattle.same_meaning.specs.Differences.{IsFirstDifference}
use Rattle.written_files.specs.Classes.{OfReadings, HaveLeastCodes, HaveLeastColumns, HaveLeastLists}
use Rattle.value_links.specs.Faults.{IsValid}
use Rattle.written_files.specs.Kept.{HaveLeastLines}
use Rattle.unit_slots.specs.Standing.{HaveLeastStandingLayouts}
use Rattle.value_links.specs.Same.{Same}
use Rattle.value_links.specs.Reading.{lists_of, list_at}
use Rattle.value_links.specs.Sections.{debug_line}
use Rattle.list_model.specs.declared.entry.ListKind.{ListKind}
use Rattle.tidy_files.specs.Tidy.{IsTidy, IsFirstUntidy, SayTheSame}
use Rattle.check_records.specs.Accepted.{IsAccepted, IsFirstRefused}
use Rattle.check_records.specs.Strays.{IsRecordFile, IsStray}

-- Both files are valid and mean the same, none of the rows of what isn't tidy in these classes holds of the written one, and each record of the
-- certificate is accepted.
pub record Accepts (classes : Classes) (file written certificate : List ℕ) : Type 0 where
  pub valid : IsValid file Narrow
  pub still_valid : IsValid written Wide
  pub same : Same file written
  pub tidy : IsTidy classes file written
  pub accepted : IsAccepted classes written certificate

-- REASONS

-- up to here nothing is amiss: the certificate is a record file, both files mean the same, and the written one is tidy
pub record IsRightButForRecords (classes : Classes) (file written certificate : List ℕ) : Type 0 where
  pub whole : IsRecordFile classes certificate
  pub same : Same file written
  pub tidy : IsTidy classes file written

-- The reason why two valid files aren't accepted with a certificate. They are looked for in this order, and the first that is found is named:
-- a certificate that is no record file; the first difference in meaning; the first place that isn't tidy; the first record that isn't that of
-- its part; and the first part whose record isn't accepted.
abbrev pub IsFirstReason : Classes → List ℕ → List ℕ → List ℕ → Reason → Type 0
IsFirstReason classes file written certificate (reason.Broken place) = IsBroken classes certificate place ⊎ (IsRightButForRecords classes file written certificate × IsStray classes written certificate place)
IsFirstReason classes file written certificate (reason.Class place) = IsRecordFile classes certificate × (Same file written × IsFirstUntidy classes file written place)
IsFirstReason classes file written certificate (reason.Line program pair) = IsRightButForRecords classes file written certificate × IsFirstRefused classes written certificate (reason.Line program pair)
IsFirstReason classes file written certificate (reason.List list item) = IsRightButForRecords classes file written certificate × IsFirstRefused classes written certificate (reason.List list item)
IsFirstReason classes file written certificate (reason.Slot unit slot) = IsRightButForRecords classes file written certificate × IsFirstRefused classes written certificate (reason.Slot unit slot)
IsFirstReason classes file written certificate (reason.Kept section) = IsRecordFile classes certificate × IsFirstDifference file written (reason.Kept section)
IsFirstReason classes file written certificate (reason.Rows program) = IsRecordFile classes certificate × IsFirstDifference file written (reason.Rows program)
IsFirstReason classes file written certificate (reason.Table kind part) = IsRecordFile classes certificate × IsFirstDifference file written (reason.Table kind part)
IsFirstReason classes file written certificate (reason.Differs unit entry) = IsRecordFile classes certificate × IsFirstDifference file written (reason.Differs unit entry)

-- WHAT ACCEPTANCE SHOWS

-- both files have equally many lists of each kind, and those with the same number have the same entries
abbrev pub HaveSameEntries : List ℕ → List ℕ → Type 0
HaveSameEntries = OfReadings (λ r s. (kind : ListKind) → (length (lists_of s kind) ≡ length (lists_of r kind)) × ((k : ℕ) → k < length (lists_of r kind) → SayTheSame kind (list_at (lists_of r kind) k).raws (list_at (lists_of s kind) k).raws))

-- What the classes keep is that of the file for which it was written: .debug_line, and the entries of lists.
pub record IsAllKept (classes : Classes) (file written : List ℕ) : Type 0 where
  pub lines : classes.lines ≡ false → debug_line written ≡ debug_line file
  pub lists : classes.lists ≡ false → HaveSameEntries file written

-- No line number program, list, column, numbering of declarations and layout of a unit of a written file has a shorter one in its class. The
-- classes are told by the written file alone: since it means the same as the file for which it was written and is tidy, so that its tables and
-- declarations correspond to those that this file uses, they are also those of that file's parts.
pub record IsAllLeast (classes : Classes) (written : List ℕ) : Type 0 where
  pub lines : HaveLeastLines classes written written
  pub lists : HaveLeastLists classes written written
  pub columns : HaveLeastColumns classes written written
  pub codes : HaveLeastCodes written written
  pub layouts : HaveLeastStandingLayouts written
