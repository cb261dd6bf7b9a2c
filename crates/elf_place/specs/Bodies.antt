-- New bodies for sections, and the body that a section has after them.
use Rattle.std.specs.Prelude.{◌≢◌, ◌≤◌, ◌<◌, ◌*◌, ◌^◌, ℕ, List, [], ◌∷◌, Bool, false, ◌==◌, ◌||◌, if◌then◌else◌, length, IsTrue, IsFalse}
use Rattle.std.specs.List.{All, AllPairs, sum_by}
use Rattle.elf_sections.specs.Elf.{section_count, names_index, is_movable, body_of}
use Rattle.elf_place.specs.declared.bodies.NewBody.{NewBody}

-- a section is given a new body
abbrev pub has_new_body : List NewBody → ℕ → Bool
has_new_body [] i = false
has_new_body (new ∷ bodies) i = (new.section == i) || has_new_body bodies i

-- the body of a section after the new ones: the one that it is given, else the one that it has
abbrev pub body_after : List ℕ → List NewBody → ℕ → List ℕ
body_after file [] i = body_of file i
body_after file (new ∷ bodies) i = if new.section == i then new.bytes.items else body_after file bodies i

-- a section may get a new body: it is one of the movable ones
pub record IsReplaceable (file : List ℕ) (i : ℕ) : Type 0 where
  pub inside : i < section_count file
  pub moves : IsTrue (is_movable file i)

-- the section that holds the names, if there is one, is given no new body
abbrev pub KeepsNames : List ℕ → List NewBody → Type 0
KeepsNames file bodies = names_index file ≢ 0 → IsFalse (has_new_body bodies (names_index file))

-- no two of the bodies are for the same section
abbrev pub AreApart : List NewBody → Type 0
AreApart = AllPairs (λ one other. one.section ≢ other.section)

-- how many bytes all of them have
abbrev pub bytes_of : List NewBody → ℕ
bytes_of = sum_by (λ (new : NewBody). length new.bytes.items)

-- few bytes: each body has fewer than 2 ^ 32 bytes, and all of them together no more than six such
pub record AreSmall (bodies : List NewBody) : Type 0 where
  pub each : All (λ (new : NewBody). length new.bytes.items < 2 ^ 32) bodies
  pub all : bytes_of bodies ≤ 6 * 2 ^ 32
