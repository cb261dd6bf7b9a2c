-- Location lists with their expressions taken apart (DWARF 5 sections 2.6.2 and 7.7.3): the shortest list is sought among the bytes
-- without expressions.
use Rattle.std.specs.Prelude.{◌≡◌, ◌++◌, ◌∷◌, ◌+◌, ℕ, List, [], length}
use Rattle.leb_codec.specs.Leb.{least_unsigned_len}
use Rattle.list_model.specs.declared.entry.EntryKind.{EntryKind}
use Rattle.list_model.specs.declared.entry.EntryKind.TheVariants.{BaseAddressx, BaseAddress}
use Rattle.list_model.specs.declared.entry.ListKind.TheVariants.{Locations}
use Rattle.list_model.specs.Entries.{Entry, SpellsEntry, IsListEnd}
use Rattle.loc_lists.specs.Locations.{SpellsBehind}

-- Entries with their expressions one after the other, and the end of the list: all the bytes, and those without the expressions and
-- their lengths. `Behind` says what bytes stand behind an entry of a kind.
abbrev pub StandApart : (EntryKind → List ℕ → List ℕ → Type 0) → List (Entry × List ℕ) → List ℕ → List ℕ → Type 0
StandApart Behind [] bytes bare = IsListEnd bytes × (bare ≡ bytes)
StandApart Behind (location ∷ locations) bytes bare =
    (own : List ℕ) × (behind : List ℕ) × (rest : List ℕ) × (bare_rest : List ℕ)
    × SpellsEntry Locations location.0 own × Behind location.0.kind location.1 behind × StandApart Behind locations rest bare_rest
    × (bytes ≡ own ++ (behind ++ rest)) × (bare ≡ own ++ bare_rest)

-- how many bytes stand behind an entry with an expression of so many bytes, whose length has no byte too many
abbrev pub behind_bytes : EntryKind → ℕ → ℕ
behind_bytes BaseAddressx len = 0
behind_bytes BaseAddress len = 0
behind_bytes kind len = least_unsigned_len len + len

-- the expression behind an entry of a kind, with its length in the fewest bytes
abbrev pub ShortestBehind : EntryKind → List ℕ → List ℕ → Type 0
ShortestBehind kind expression bytes = SpellsBehind kind expression bytes × (length bytes ≡ behind_bytes kind (length expression))
