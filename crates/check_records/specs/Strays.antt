-- Where the records of a certificate leave off being those of the parts of the written file. Places count from the first byte of the
-- certificate.
use Rattle.std.specs.Prelude.{◌≡◌, ◌+◌, ◌++◌, ℕ, List, [], ◌∷◌, length, ⊤}
use Rattle.std.specs.List.{AllZip}
use Rattle.spelled.specs.Spelled.{Joined}
use Rattle.dw_base.specs.declared.classes.Classes.{Classes}
use Rattle.leb_codec.specs.Records.{Record, SpellsRecord, SpellsFile, magic}
use Rattle.value_links.specs.Reading.{Reading}
use Rattle.check_records.specs.Parts.{Part, IsFor, IsJudged}

-- the certificate is a record file for these classes
abbrev pub IsRecordFile : Classes → List ℕ → Type 0
IsRecordFile classes certificate = (records : List Record) × SpellsFile classes records certificate

-- Where parts and records are left, the first record isn't that of the first part: it is missing, of another kind, or left over.
abbrev pub IsMismatch : List Part → List Record → Type 0
IsMismatch [] [] = ⊥
IsMismatch [] (one ∷ records) = ⊤
IsMismatch (part ∷ parts) [] = ⊤
IsMismatch (part ∷ parts) (one ∷ records) = ¬ IsFor part one

-- The first records are those of the first parts, and the next one isn't. The place is its first byte, or the end of the certificate where
-- it is missing.
pub record IsStray (classes : Classes) (written certificate : List ℕ) (place : ℕ) : Type 0 where
  pub s : Reading
  pub parts : List Part
  pub records : List Record
  pub judged : IsJudged classes written certificate s parts records
  pub parts_before : List Part
  pub parts_behind : List Part
  pub whole : parts ≡ parts_before ++ parts_behind
  pub records_before : List Record
  pub records_behind : List Record
  pub split : records ≡ records_before ++ records_behind
  pub each : AllZip IsFor parts_before records_before
  pub other : IsMismatch parts_behind records_behind
  pub front : List ℕ
  pub spelled : Joined SpellsRecord records_before front
  pub at : place ≡ length (magic classes) + length front
