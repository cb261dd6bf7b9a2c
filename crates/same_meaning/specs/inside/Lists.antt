-- What lists are compared by.
use Rattle.std.specs.Prelude.{◌≡◌, ◌≤◌, ◌<◌, ℕ, List, length, drop, slice_index_or, true}
use Rattle.std.specs.List.{AllZip}
use Rattle.list_model.specs.declared.entry.ListKind.{ListKind}
use Rattle.list_model.specs.declared.entry.RawEntry.{RawEntry}
use Rattle.list_model.specs.declared.item.Item.{Item}
use Rattle.list_model.specs.declared.item.Meaning.TheVariants.{Live, Dead}
use Rattle.list_model.specs.Entries.{AreSaid}
use Rattle.list_model.specs.Items.{Bounds, item_of}
use Rattle.loc_lists.specs.Locations.{is_item, items_among}
use Rattle.list_arena.specs.Held.{HeldList}
use Rattle.value_links.specs.Resolved.{Content}
use Rattle.value_links.specs.Resolved.Content.{Items, Entries}

-- two entries are the same, but for their places and expressions
pub record IsSameEntry (old new : RawEntry) : Type 0 where
  pub code : new.code ≡ old.code
  pub a : new.a ≡ old.a
  pub b : new.b ≡ old.b

-- so are the entries of two lists, one by one
abbrev pub AreSameEntries : List RawEntry → List RawEntry → Type 0
AreSameEntries olds news = (length news ≡ length olds) × ((k : ℕ) (d : RawEntry) → k < length olds → IsSameEntry (slice_index_or olds k d) (slice_index_or news k d))

-- two items cover the same addresses
pub record CoversSame (old new : Item) : Type 0 where
  pub whole : new.whole ≡ old.whole
  pub start : new.start ≡ old.start
  pub end : new.end ≡ old.end

-- so do those of two lists, one by one
abbrev pub CoverSame : List Item → List Item → Type 0
CoverSame olds news = (length news ≡ length olds) × ((k : ℕ) (d : Item) → k < length olds → CoversSame (slice_index_or olds k d) (slice_index_or news k d))

-- items have these bounds, one by one, whatever the places of their expressions
abbrev pub AreItemsOf : List Bounds → List Item → Type 0
AreItemsOf bounds items = AllZip (λ (b : Bounds) (item : Item). item ≡ item_of item.expr b) bounds items

-- the first entry from one on that is an item has this number, which is the count of entries where there is none
pub record IsNextItem (raws : List RawEntry) (from n : ℕ) : Type 0 where
  pub onward : from ≤ n
  pub inside : n ≤ length raws
  pub skipped : items_among (drop from raws) ≡ items_among (drop n raws)
  pub item : (d : RawEntry) → n < length raws → is_item (slice_index_or raws n d) ≡ true

-- what a list that is held means, but for its expressions: a frozen one is held as dead
abbrev pub HasContent : ListKind → HeldList → Content → Type 0
HasContent kind list (Items bounds) = (items : List Item) × (list.meaning ≡ Live items) × AreItemsOf bounds items
HasContent kind list (Entries entries) = (list.meaning ≡ Dead) × AreSaid kind list.raw entries
