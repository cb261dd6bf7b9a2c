-- How lists are held: each by a row, with so many rows of entries and of items behind those of the list before.
-- Private functions alone cite this, and the model of lists.
use Rattle.std.specs.Prelude.{◌≡◌, ◌≤◌, ℕ, List, [], ◌∷◌, length, map, slice_range, ◌++◌, nat_eq, if◌then◌else◌, Option, Some, None, Bool, true, false}
use Rattle.std.specs.List.{All}
use Rattle.list_model.specs.declared.entry.RawEntry.{RawEntry}
use Rattle.list_model.specs.declared.item.Item.{Item}
use Rattle.list_model.specs.declared.item.Meaning.{Meaning}
use Rattle.list_model.specs.declared.item.Meaning.TheVariants.{Live, Dead}
use Rattle.list_arena.specs.declared.lists.EntryRow.{EntryRow}
use Rattle.list_arena.specs.declared.lists.ItemRow.{ItemRow}
use Rattle.list_arena.specs.declared.lists.ListRow.{ListRow}
use Rattle.list_arena.specs.Held.{HeldList}
use Rattle.list_arena.specs.inside.Words.{word_held, IsWord}

-- the entry of a row, where these numbers are held whole
unfoldable pub entry_held : List ℕ → EntryRow → RawEntry
entry_held long row = record { at = word_held long row.at; code = row.code; a = word_held long row.a; b = word_held long row.b; expr = record { at = word_held long row.expr_at; len = word_held long row.expr_len } }

pub record IsEntryRow (long : List ℕ) (row : EntryRow) : Type 0 where
  pub at : IsWord long row.at
  pub a : IsWord long row.a
  pub b : IsWord long row.b
  pub expr_at : IsWord long row.expr_at
  pub expr_len : IsWord long row.expr_len

-- the item of a row
unfoldable pub item_held : List ℕ → ItemRow → Item
item_held long row = record { start = word_held long row.start; end = word_held long row.end; whole = row.whole; expr = record { at = word_held long row.expr_at; len = word_held long row.expr_len } }

pub record IsItemRow (long : List ℕ) (row : ItemRow) : Type 0 where
  pub start : IsWord long row.start
  pub end : IsWord long row.end
  pub expr_at : IsWord long row.expr_at
  pub expr_len : IsWord long row.expr_len

-- the owner of a list that has this number, which for none is the greatest one
abbrev pub no_owner : ℕ
no_owner = 4294967295

unfoldable pub owner_held : ℕ → Option ℕ
owner_held n = if nat_eq n no_owner then None else Some n

-- what a list means that has these items, or is frozen
unfoldable pub meaning_held : Bool → List Item → Meaning
meaning_held true items = Dead
meaning_held false items = Live items

-- the list of a row, with these entries and items
unfoldable pub list_held : List ℕ → ListRow → List RawEntry → List Item → HeldList
list_held long row raw items = record { at = word_held long row.at; part = row.part; owner = owner_held row.owner; raw = raw; meaning = meaning_held row.frozen items }

-- the lists of rows, whose entries and items stand from these numbers on
unfoldable pub lists_from : List ℕ → List RawEntry → List Item → ℕ → ℕ → List ListRow → List HeldList
lists_from long entries items e i [] = []
lists_from long entries items e i (row ∷ rows) = list_held long row (slice_range entries e row.entries) (slice_range items i row.items) ∷ lists_from long entries items row.entries row.items rows

-- each list ends behind the one before, and the last one where all end
unfoldable pub AreRowsFrom : List ℕ → ℕ → ℕ → ℕ → ℕ → List ListRow → Type 0
AreRowsFrom long entries items e i [] = (e ≡ entries) × (i ≡ items)
AreRowsFrom long entries items e i (row ∷ rows) = IsWord long row.at × (e ≤ row.entries) × (i ≤ row.items) × AreRowsFrom long entries items row.entries row.items rows

abbrev pub entries_held : List ℕ → List EntryRow → List RawEntry
entries_held long rows = map (entry_held long) rows

abbrev pub items_held : List ℕ → List ItemRow → List Item
items_held long rows = map (item_held long) rows

abbrev pub lists_held : List ℕ → List ListRow → List EntryRow → List ItemRow → List HeldList
lists_held long rows entries items = lists_from long (entries_held long entries) (items_held long items) 0 0 rows

pub record AreHeldWell (long : List ℕ) (rows : List ListRow) (entries : List EntryRow) (items : List ItemRow) : Type 0 where
  pub rows_well : AreRowsFrom long (length entries) (length items) 0 0 rows
  pub entries_well : All (IsEntryRow long) entries
  pub items_well : All (IsItemRow long) items

-- where the entries of a row end, and its items
abbrev pub entry_ends : List ListRow → List ℕ
entry_ends rows = map (λ row. row.entries) rows

abbrev pub item_ends : List ListRow → List ℕ
item_ends rows = map (λ row. row.items) rows

-- the items that a meaning has
abbrev pub IsMeant : Meaning → List Item → Type 0
IsMeant (Live live) items = items ≡ live
IsMeant Dead items = items ≡ []

-- the row is that of a list whose entries and items are those up to these numbers
pub record IsRowOf (long : List ℕ) (list : HeldList) (entries items : ℕ) (row : ListRow) : Type 0 where
  pub word : IsWord long row.at
  pub entry_end : row.entries ≡ entries
  pub item_end : row.items ≡ items
  pub held : (live : List Item) → IsMeant list.meaning live → list_held long row list.raw live ≡ list

-- one more list is held
pub record IsOneMore (before : List HeldList) (list : HeldList) (long : List ℕ) (rows : List ListRow) (entries : List EntryRow) (items : List ItemRow) : Type 0 where
  pub well : AreHeldWell long rows entries items
  pub pushed : lists_held long rows entries items ≡ before ++ list ∷ []
