-- The names of sections, and the debug names that are known.
use Rattle.std.specs.Prelude.{ℕ, ◌+◌, ◌<◌, ◌≢◌, List, [], ◌∷◌, length, drop, Bool, ◌==◌, ◌||◌, if◌then◌else◌, codes, bytes_eq, nat_eq}
use Rattle.std.specs.List.{before_first, starts_with, list_any}
use Rattle.elf_sections.specs.Elf.{names_index, name_offset, body_of}

-- the bytes of the section that holds the names, or none where no section does
abbrev pub names_of : List ℕ → List ℕ
names_of file = if names_index file == 0 then [] else body_of file (names_index file)

-- the bytes from a place on, up to the first zero byte
abbrev pub text_at : List ℕ → ℕ → List ℕ
text_at bytes at = before_first (λ b. b == 0) (drop at bytes)

-- the name of a section; every name is empty where no section holds the names
abbrev pub name_of : List ℕ → ℕ → List ℕ
name_of file i = if names_index file == 0 then [] else text_at (names_of file) (name_offset file i)

-- the name and its zero byte lie in the section that holds the names
abbrev pub IsNamed : List ℕ → ℕ → Type 0
IsNamed file i = names_index file ≢ 0 → name_offset file i + length (name_of file i) < length (names_of file)

-- a debug name
abbrev pub is_debug_name : List ℕ → Bool
is_debug_name name = starts_with nat_eq name (codes ".debug_")

-- the old name of a compressed debug section
abbrev pub is_zdebug_name : List ℕ → Bool
is_zdebug_name name = starts_with nat_eq name (codes ".zdebug_")

-- the name is one of these
abbrev pub is_among : List (List ℕ) → List ℕ → Bool
is_among names name = list_any (bytes_eq name) names

-- the sections that are written anew
abbrev pub rewritten_names : List (List ℕ)
rewritten_names =
    codes ".debug_info" ∷ codes ".debug_abbrev" ∷ codes ".debug_line" ∷ codes ".debug_rnglists" ∷ codes ".debug_loclists" ∷ []

-- the sections of which single fields are written anew
abbrev pub patched_names : List (List ℕ)
patched_names = codes ".debug_aranges" ∷ []

-- the debug sections that are kept as they are
abbrev pub kept_names : List (List ℕ)
kept_names =
    codes ".debug_str" ∷ codes ".debug_line_str" ∷ codes ".debug_str_offsets" ∷ codes ".debug_addr" ∷ codes ".debug_frame" ∷ codes ".debug_gdb_scripts" ∷ []

-- the section is written anew, as a whole or in single fields
abbrev pub is_written : List ℕ → Bool
is_written name = is_among rewritten_names name || is_among patched_names name

-- the debug name is known
abbrev pub is_listed : List ℕ → Bool
is_listed name = is_written name || is_among kept_names name
