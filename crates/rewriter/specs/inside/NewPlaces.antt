-- Where what section offsets name stands in a file that is written anew.
use Rattle.std.specs.Prelude.{◌≡◌, ◌<◌, ◌⊎◌, ℕ, List, length, slice_index, slice_index_or}
use Rattle.form_codec.specs.Forms.Meaning.{SectionPlace}
use Rattle.list_model.specs.declared.entry.ListKind.{ListKind}
use Rattle.list_model.specs.declared.entry.ListKind.TheVariants.{Ranges, Locations}
use Rattle.list_model.specs.Contributions.{offsets_at}
use Rattle.list_write.specs.declared.image.Moved.{Moved}
use Rattle.list_write.specs.Written.{part_at, moved_at}
use Rattle.list_arena.specs.Held.{HeldViews}
use Rattle.value_links.specs.Reading.{Linkable}
use Rattle.value_links.specs.Linked.{Linked, Links}
use Rattle.value_links.specs.Linked.Linked.{Program, ListAt, BaseOf, ViewsAt, Kept}
use Rattle.rewriter.specs.declared.new_places.ListPlaces.{ListPlaces}
use Rattle.rewriter.specs.declared.new_places.MovedViews.{MovedViews}
use Rattle.rewriter.specs.declared.new_places.NewPlaces.{NewPlaces}

-- the new places of the contributions and the lists of a kind
abbrev pub moved_lists : NewPlaces → ListKind → ListPlaces
moved_lists places Ranges = places.ranges
moved_lists places Locations = places.locations

-- a list that began at a place begins at another now
pub record IsMovedTo (places : ListPlaces) (old new : ℕ) : Type 0 where
  pub number : ℕ
  pub inside : number < length places.lists.items
  pub from : (moved_at places.lists.items number).old ≡ old
  pub to : (moved_at places.lists.items number).new ≡ new

-- the view pairs with a number; past the end there are none, and some at 0 stand for them
abbrev pub moved_views_at : List MovedViews → ℕ → MovedViews
moved_views_at moved k = slice_index_or moved k (record { list = 0; old = 0; new = 0 })

-- view pairs that began at a place, and went with the list at another, begin at a third now
pub record AreViewsMoved (moved : List MovedViews) (list old new : ℕ) : Type 0 where
  pub number : ℕ
  pub inside : number < length moved
  pub with : (moved_views_at moved number).list ≡ list
  pub from : (moved_views_at moved number).old ≡ old
  pub to : (moved_views_at moved number).new ≡ new

-- by rising place of the list, and for one list by rising place
abbrev pub ViewsRise : List MovedViews → Type 0
ViewsRise moved = (j k : ℕ) → j < k → k < length moved →
    ((moved_views_at moved j).list < (moved_views_at moved k).list)
    ⊎ (((moved_views_at moved j).list ≡ (moved_views_at moved k).list) × ((moved_views_at moved j).old < (moved_views_at moved k).old))

-- each of the first view pairs, which are so many, has its new place, by its number
pub record AreMovedTo (views : List HeldViews) (moved : List Moved) (places : List MovedViews) (number : ℕ) : Type 0 where
  pub count : length places ≡ number
  pub each : (k : ℕ) (d : HeldViews) → k < number → moved_views_at places k ≡ record { list = (slice_index_or views k d).list; old = (slice_index_or views k d).at; new = (moved_at moved k).new }

-- each of the view pairs has
abbrev pub AreMovedViews : List HeldViews → List Moved → List MovedViews → Type 0
AreMovedViews views moved places = AreMovedTo views moved places (length views)

-- The new number of a section offset, by what it refers to: the new place of a line number program, of a list, of the offsets of a
-- contribution of lists or of view pairs, or the number that it is.
abbrev pub IsNewOffset : NewPlaces → Linked → ℕ → Type 0
IsNewOffset places (Program p) new = (p < length places.programs.items) × (new ≡ slice_index places.programs.items p)
IsNewOffset places (ListAt kind n) new = IsMovedTo (moved_lists places kind) n new
IsNewOffset places (BaseOf kind p) new = (p < length (moved_lists places kind).parts.items) × (new ≡ offsets_at (part_at (moved_lists places kind).parts.items p).at)
IsNewOffset places (ViewsAt list n) new = AreViewsMoved places.views.items list n new
IsNewOffset places (Kept n) new = new ≡ n
IsNewOffset places linked new = ⊥

-- The same by the number that stands there, as the value of an attribute with a name in an entry `id` of the unit `u`.
abbrev pub IsOffsetAnew : Linkable → NewPlaces → ℕ → ℕ → ℕ → ℕ → ℕ → Type 0
IsOffsetAnew r places u id name n new = (linked : Linked) × Links r u id name (SectionPlace n) linked × IsNewOffset places linked new
