-- Lists and view pairs as they are held, as callers see them (DWARF 5 sections 2.6.2, 2.17.3 and 7.7.3). Places count from the first byte
-- of the section of lists.
use Rattle.std.specs.Prelude.{◌≡◌, ◌≢◌, ◌<◌, ◌⊎◌, ℕ, List, [], length, slice_index_or, Option, Some, None}
use Rattle.list_model.specs.declared.entry.RawEntry.{RawEntry}
use Rattle.list_model.specs.declared.item.Item.{Item}
use Rattle.list_model.specs.declared.item.Meaning.{Meaning}
use Rattle.list_model.specs.declared.item.Meaning.TheVariants.{Live, Dead}
use Rattle.loc_lists.specs.declared.views.ViewPair.{ViewPair}

-- where a list begins, the number of its contribution, that of the first unit of which an entry names it, its entries before the end,
-- and its items in the context of that unit, or Dead where it is kept by its entries
pub record HeldList : Type 0 where
  pub at : ℕ
  pub part : ℕ
  pub owner : Option ℕ
  pub raw : List RawEntry
  pub meaning : Meaning

-- the items of a list that means this; one that is kept by its entries has none
unfoldable pub items_of : Meaning → List Item
items_of (Live items) = items
items_of Dead = []

-- where the list begins with which view pairs go, where the first of them stands, and the pairs
pub record HeldViews : Type 0 where
  pub list : ℕ
  pub at : ℕ
  pub pairs : List ViewPair

-- each list begins before a later one
abbrev pub AreListsApart : List HeldList → Type 0
AreListsApart lists = (i j : ℕ) (d : HeldList) → i < j → j < length lists → (slice_index_or lists i d).at < (slice_index_or lists j d).at

-- runs of view pairs rise by the places of their lists, and then by their own
abbrev pub ViewsRise : List HeldViews → Type 0
ViewsRise views =
    (j k : ℕ) (d : HeldViews) → j < k → k < length views →
    ((slice_index_or views j d).list < (slice_index_or views k d).list)
    ⊎ (((slice_index_or views j d).list ≡ (slice_index_or views k d).list) × ((slice_index_or views j d).at < (slice_index_or views k d).at))

-- the run with a number, if there is one, goes with the list at a place and stands at another, and else none does
abbrev pub AreViewsFound : List HeldViews → ℕ → ℕ → Option ℕ → Type 0
AreViewsFound views list at (Some k) = (k < length views) × ((d : HeldViews) → ((slice_index_or views k d).list ≡ list) × ((slice_index_or views k d).at ≡ at))
AreViewsFound views list at None = (k : ℕ) (d : HeldViews) → k < length views → (slice_index_or views k d).list ≡ list → (slice_index_or views k d).at ≢ at

-- the list with a number, if there is one, begins at a place, and else none does
abbrev pub IsListFound : List HeldList → ℕ → Option ℕ → Type 0
IsListFound lists at (Some k) = (k < length lists) × ((d : HeldList) → (slice_index_or lists k d).at ≡ at)
IsListFound lists at None = (k : ℕ) (d : HeldList) → k < length lists → (slice_index_or lists k d).at ≢ at
