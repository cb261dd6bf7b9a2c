-- Files kept as a list.
-- Inner functions and proofs alone need what stands here.
use Rattle.std.specs.Prelude.{◌≡◌, ◌<◌, ℕ, List, length, slice_index_or, true, false}
use Rattle.dw_base.specs.declared.files.NamedFile.{NamedFile}
use Rattle.dw_base.specs.Files.{has_name, content}

-- the place of the first file of this name
pub record IsFirst (files : List NamedFile) (name : List ℕ) (i : ℕ) : Type 0 where
  pub inside : i < length files
  pub named : (d : NamedFile) → has_name name (slice_index_or files i d) ≡ true
  pub before : (k : ℕ) (d : NamedFile) → k < i → has_name name (slice_index_or files k d) ≡ false

-- each name has the same bytes
abbrev pub SameFiles : List NamedFile → List NamedFile → Type 0
SameFiles old new = (f : List ℕ) → content new f ≡ content old f
