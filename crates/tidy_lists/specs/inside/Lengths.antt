-- Where things of lists end.
use Rattle.std.specs.Prelude.{◌≡◌, ◌+◌, ◌++◌, ◌∷◌, ℕ, zero, suc, List, length, drop}
use Rattle.leb_codec.specs.Leb.{Uleb}
use Rattle.list_model.specs.declared.entry.ListKind.{ListKind}
use Rattle.list_model.specs.declared.entry.ListKind.TheVariants.{Ranges, Locations}
use Rattle.list_model.specs.declared.entry.RawEntry.{RawEntry}
use Rattle.list_model.specs.Entries.{Entry, SpellsEntry}
use Rattle.list_model.specs.Reading.{AreReadFrom}
use Rattle.range_lists.specs.Ranges.{IsRead as IsRangeRead}
use Rattle.loc_lists.specs.Locations.{IsRead as IsLocationRead}

-- bytes from the place of an entry on begin with its code and operands, and these end at a place
abbrev pub IsBareUpTo : ListKind → List ℕ → RawEntry → ℕ → Type 0
IsBareUpTo kind bytes raw end = (entry : Entry) × (first : List ℕ) × (rest : List ℕ) × SpellsEntry kind entry first × (drop raw.at bytes ≡ first ++ rest) × (end ≡ raw.at + length first)

-- bytes from the place of an entry on begin with it, and it ends at a place; of a location list with its expression
abbrev pub IsEntryUpTo : ListKind → List ℕ → RawEntry → ℕ → Type 0
IsEntryUpTo Ranges bytes raw end = (entry : Entry) × (first : List ℕ) × (rest : List ℕ) × IsRangeRead raw.at raw entry first × (drop raw.at bytes ≡ first ++ rest) × (end ≡ raw.at + length first)
IsEntryUpTo Locations bytes raw end = (location : Entry × List ℕ) × (first : List ℕ) × (rest : List ℕ) × IsLocationRead raw.at raw location first × (drop raw.at bytes ≡ first ++ rest) × (end ≡ raw.at + length first)

-- likewise a list that begins at a place, and the byte that is its end
abbrev pub IsListUpTo : ListKind → List ℕ → ℕ → List RawEntry → ℕ → Type 0
IsListUpTo Ranges bytes at raws end = (entries : List Entry) × (front : List ℕ) × (rest : List ℕ) × AreReadFrom IsRangeRead at raws entries front × (drop at bytes ≡ front ++ 0 ∷ rest) × (end ≡ at + length front + 1)
IsListUpTo Locations bytes at raws end = (locations : List (Entry × List ℕ)) × (front : List ℕ) × (rest : List ℕ) × AreReadFrom IsLocationRead at raws locations front × (drop at bytes ≡ front ++ 0 ∷ rest) × (end ≡ at + length front + 1)

-- so many numbers in ULEB128 stand one behind the other, from a place on up to another
abbrev pub AreNumbersUpTo : List ℕ → ℕ → ℕ → ℕ → Type 0
AreNumbersUpTo bytes at zero end = end ≡ at
AreNumbersUpTo bytes at (suc count) end = (n : ℕ) × (first : List ℕ) × (rest : List ℕ) × Uleb n first × (drop at bytes ≡ first ++ rest) × AreNumbersUpTo bytes (at + length first) count end
