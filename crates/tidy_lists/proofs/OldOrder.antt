-- Old lists and runs of view pairs stand by rising place, and so by rising contribution.
use Rattle.std.proofs.Common.{◌≡◌, ◌≤◌, ◌<◌, ◌+◌, ◌*◌, inl, inr, ℕ, List, length, sym, arith}
use Rattle.std.proofs.lemmas.Bool.{cases_lt}
use Rattle.entry_read.proofs.Chained.{stand_apart, ends_by}
use Rattle.list_model.specs.declared.contribution.Contribution.{Contribution}
use Rattle.list_model.specs.declared.entry.ListKind.{ListKind}
use Rattle.list_model.specs.declared.entry.ListKind.TheVariants.{Ranges, Locations}
use Rattle.value_links.specs.Reading.{ListSection, ViewRead, Reading, of_kind, lists_of, part_at, list_at, view_at}
use Rattle.value_links.specs.Lists.{AreViewsApart}
use Rattle.value_links.specs.ListPlaces.{IsListPlace}
use Rattle.value_links.specs.Whole.{IsReading}
use Rattle.value_links.proofs.Tiles.{parts_chained, tiled_of}
use Rattle.tidy_lists.specs.inside.DuePlaces.{runs_of, part_of}

module _ (file : List ℕ) (r : Reading) (read : IsReading file r) (kind : ListKind) where
  abbrev section : ListSection
  section = of_kind r.links kind

  pub list_begins : (k : ℕ) → k < length (lists_of r kind) → IsListPlace section (part_of r kind k) (list_at (lists_of r kind) k).at
  list_begins k inside = ((read.lists kind).each k inside).begins

  pub list_rises : (j k : ℕ) → j < k → k < length (lists_of r kind) → (list_at (lists_of r kind) j).at < (list_at (lists_of r kind) k).at
  list_rises = (read.lists kind).rising

  -- a place in an earlier contribution is an earlier place
  pub parts_rise : (j k : ℕ) → j < k → k < length (lists_of r kind) → part_of r kind j ≤ part_of r kind k
  parts_rise j k less inside = elim (cases_lt (part_of r kind k) (part_of r kind j)) [
    | inr within ↦ within
    | inl past ↦
        let none : Contribution = record { at = 0; len = 0; slots = 0 } in
        let (known, first) = list_begins j (omega arith) in
        let (known_too, second) = list_begins k inside in
        let apart : (part_at section (part_of r kind k)).at + (part_at section (part_of r kind k)).len ≤ (part_at section (part_of r kind j)).at =
        stand_apart (λ (p : Contribution). p.at) (λ (p : Contribution). p.len) section.parts 0 (length section.section) (part_of r kind k) (part_of r kind j) none (parts_chained section.section section.parts 0 (length section.section) (tiled_of file r.links read.links kind)) past known in
        let from : (part_at section (part_of r kind j)).at + 12 + 4 * (part_at section (part_of r kind j)).slots ≤ (list_at (lists_of r kind) j).at = first.after in
        let to : (list_at (lists_of r kind) k).at < (part_at section (part_of r kind k)).at + (part_at section (part_of r kind k)).len = second.before in
        let rising : (list_at (lists_of r kind) j).at < (list_at (lists_of r kind) k).at = list_rises j k less inside in
        absurd (omega (arith, apart, from, to, rising))
  ]

  -- lists stand in their section
  pub part_ends : (p : ℕ) → p < length section.parts → (part_at section p).at + (part_at section p).len ≤ length section.section
  part_ends p known =
      let none : Contribution = record { at = 0; len = 0; slots = 0 } in
      ends_by (λ (p : Contribution). p.at) (λ (p : Contribution). p.len) section.parts 0 (length section.section) p none (parts_chained section.section section.parts 0 (length section.section) (tiled_of file r.links read.links kind)) known

  pub list_inside : (k : ℕ) → k < length (lists_of r kind) → (list_at (lists_of r kind) k).at < length section.section
  list_inside k inside =
      let (known, begins) = list_begins k inside in
      let to : (list_at (lists_of r kind) k).at < (part_at section (part_of r kind k)).at + (part_at section (part_of r kind k)).len = begins.before in
      omega (arith, to, part_ends (part_of r kind k) known)

module _ (file : List ℕ) (r : Reading) (read : IsReading file r) where
  -- each run goes with a list
  pub run_list : (kind : ListKind) (j : ℕ) → j < length (runs_of r kind) → (k : ℕ) × (k < length (lists_of r kind)) × ((view_at (runs_of r kind) j).list ≡ (list_at (lists_of r kind) k).at)
  run_list Ranges j inside = absurd (omega (arith, inside))
  run_list Locations j inside = let are = read.views.each j inside in (are.k, are.inside, sym are.at)

  apart_rises : (a b : ViewRead) → AreViewsApart a b → a.list ≤ b.list
  apart_rises a b (inl less) = omega arith
  apart_rises a b (inr (same, less)) = omega (arith, same)

  pub runs_rise : (kind : ListKind) (i j : ℕ) → i < j → j < length (runs_of r kind) → (view_at (runs_of r kind) i).list ≤ (view_at (runs_of r kind) j).list
  runs_rise Ranges i j less inside = absurd (omega (arith, inside))
  runs_rise Locations i j less inside = apart_rises (view_at r.views i) (view_at r.views j) (read.views.rising i j less inside)
