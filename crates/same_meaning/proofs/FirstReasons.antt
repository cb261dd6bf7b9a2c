-- Which reason is the first one, by what is found of each kind.
use Rattle.std.proofs.Common.{◌≡◌, ◌<◌, ◌⊎◌, inl, inr, ℕ, suc, List, true, false, subst, refl, arith}
use Rattle.std.specs.Prelude.{Option, Some, None, slice_get}
use Rattle.std.proofs.lemmas.Bool.{cases_lt, true≢false}
use Rattle.list_model.specs.declared.entry.ListKind.{ListKind}
use Rattle.list_model.specs.declared.entry.ListKind.TheVariants.{Ranges, Locations}
use Rattle.value_links.specs.Debug.{Debug, Means, parts_of}
use Rattle.value_links.specs.Same.{Same}
use Rattle.value_links.specs.World.{World}
use Rattle.same_meaning.specs.declared.reason.Reason.{Reason}
use Rattle.same_meaning.specs.declared.reason.Reason.TheVariants.{Kept, Rows, Table, Differs}
use Rattle.same_meaning.specs.Kept.{KeptDiffers}
use Rattle.same_meaning.specs.Differences.{DifferAt, UnitsDifferAt, IsReason, kind_order, first_number, second_number, ComesBefore, IsFirstDifference}
use Rattle.same_meaning.specs.inside.Compared.{IsSomeWorld, OfMeanings, IsFirst, IsFirstFound, IsFirstPair, IsFirstPairFound}
use Rattle.same_meaning.proofs.SameFiles.{same_without_reason}

-- the numbers of a reason come before two others
abbrev AreEarlier : Reason → ℕ → ℕ → Type 0
AreEarlier reason i j = (first_number reason < i) ⊎ ((first_number reason ≡ i) × (second_number reason < j))

module _ (a b : List ℕ) (c d : Debug) where
  abbrev Holds : Reason → Type 0
  Holds reason = IsReason a b c d reason

  -- of the kinds up to one there is no reason, and of a kind there is none
  abbrev NoneBelow : ℕ → Type 0
  NoneBelow n = (reason : Reason) → kind_order reason < n → Holds reason → ⊥

  abbrev NoneOf : ℕ → Type 0
  NoneOf n = (reason : Reason) → kind_order reason ≡ n → Holds reason → ⊥

  pub below_none : NoneBelow 0
  below_none reason below is = absurd (omega arith)

  pub below_more : (n : ℕ) → NoneBelow n → NoneOf n → NoneBelow (suc n)
  below_more n before here reason below is = elim (cases_lt (kind_order reason) n) [
    | inl less ↦ before reason less is
    | inr more ↦ here reason (omega arith) is
  ]

  pub no_kept : ((s : ℕ) → KeptDiffers a b s → ⊥) → NoneOf 0
  no_kept none (Kept s) e is = none s is
  no_kept none (Rows p) e is = absurd (omega arith)
  no_kept none (Table Ranges p) e is = absurd (omega arith)
  no_kept none (Table Locations p) e is = absurd (omega arith)
  no_kept none reason e is = absurd (omega arith)

  pub no_rows : ((p : ℕ) → DifferAt c.programs d.programs p → ⊥) → NoneOf 1
  no_rows none (Rows p) e is = none p is
  no_rows none (Table Ranges p) e is = absurd (omega arith)
  no_rows none (Table Locations p) e is = absurd (omega arith)
  no_rows none reason e is = absurd (omega arith)

  pub no_ranges : ((p : ℕ) → DifferAt c.ranges d.ranges p → ⊥) → NoneOf 2
  no_ranges none (Table Ranges p) e is = none p is
  no_ranges none (Table Locations p) e is = absurd (omega arith)
  no_ranges none reason e is = absurd (omega arith)

  pub no_locations : ((p : ℕ) → DifferAt c.locations d.locations p → ⊥) → NoneOf 3
  no_locations none (Table Locations p) e is = none p is
  no_locations none (Table Ranges p) e is = absurd (omega arith)
  no_locations none reason e is = absurd (omega arith)

  pub no_units : ((u e : ℕ) → UnitsDifferAt (slice_get c.units u) (slice_get d.units u) e → ⊥) → NoneOf 4
  no_units none (Differs u e) f is = none u e is
  no_units none (Table Ranges p) e is = absurd (omega arith)
  no_units none (Table Locations p) e is = absurd (omega arith)
  no_units none reason e is = absurd (omega arith)

  -- with none of any kind there is no reason
  pub none_at_all : NoneBelow 5 → (reason : Reason) → Holds reason → ⊥
  none_at_all none (Kept s) is = none (Kept s) (omega arith) is
  none_at_all none (Rows p) is = none (Rows p) (omega arith) is
  none_at_all none (Table Ranges p) is = none (Table Ranges p) (omega arith) is
  none_at_all none (Table Locations p) is = none (Table Locations p) (omega arith) is
  none_at_all none (Differs u e) is = none (Differs u e) (omega arith) is
  none_at_all none reason is = is

  -- THE FIRST ONE

  module _ (means : Means a c) (other : Means b d) where
    first_by : (reason : Reason) → Holds reason → NoneBelow (kind_order reason) → ((earlier : Reason) → kind_order earlier ≡ kind_order reason → AreEarlier earlier (first_number reason) (second_number reason) → Holds earlier → ⊥) → IsFirstDifference a b reason
    first_by reason is before here = record { c = c; d = d; means = means; other = other; is = is; first = first }
      where
        first : (earlier : Reason) → ComesBefore earlier reason → Holds earlier → ⊥
        first earlier (inl less) held = before earlier less held
        first earlier (inr (same, less)) held = here earlier same less held

    kept_before : (s : ℕ) → IsFirst (KeptDiffers a b) s → (earlier : Reason) → kind_order earlier ≡ 0 → AreEarlier earlier s 0 → Holds earlier → ⊥
    kept_before s first (Kept t) e (inl less) is = first.1 t less is
    kept_before s first (Kept t) e (inr (same, less)) is = absurd (omega arith)
    kept_before s first (Table Ranges p) e less is = absurd (omega arith)
    kept_before s first (Table Locations p) e less is = absurd (omega arith)
    kept_before s first earlier e less is = absurd (omega arith)

    pub first_is_kept : (s : ℕ) → IsFirst (KeptDiffers a b) s → IsFirstDifference a b (Kept s)
    first_is_kept s first = first_by (Kept s) first.0 below_none (kept_before s first)

    rows_before : (p : ℕ) → IsFirst (DifferAt c.programs d.programs) p → (earlier : Reason) → kind_order earlier ≡ 1 → AreEarlier earlier p 0 → Holds earlier → ⊥
    rows_before p first (Rows q) e (inl less) is = first.1 q less is
    rows_before p first (Rows q) e (inr (same, less)) is = absurd (omega arith)
    rows_before p first (Table Ranges q) e less is = absurd (omega arith)
    rows_before p first (Table Locations q) e less is = absurd (omega arith)
    rows_before p first earlier e less is = absurd (omega arith)

    pub first_is_rows : NoneBelow 1 → (p : ℕ) → IsFirst (DifferAt c.programs d.programs) p → IsFirstDifference a b (Rows p)
    first_is_rows none p first = first_by (Rows p) first.0 none (rows_before p first)

    ranges_before : (p : ℕ) → IsFirst (DifferAt c.ranges d.ranges) p → (earlier : Reason) → kind_order earlier ≡ 2 → AreEarlier earlier p 0 → Holds earlier → ⊥
    ranges_before p first (Table Ranges q) e (inl less) is = first.1 q less is
    ranges_before p first (Table Ranges q) e (inr (same, less)) is = absurd (omega arith)
    ranges_before p first (Table Locations q) e less is = absurd (omega arith)
    ranges_before p first earlier e less is = absurd (omega arith)

    pub first_is_ranges : NoneBelow 2 → (p : ℕ) → IsFirst (DifferAt c.ranges d.ranges) p → IsFirstDifference a b (Table Ranges p)
    first_is_ranges none p first = first_by (Table Ranges p) first.0 none (ranges_before p first)

    locations_before : (p : ℕ) → IsFirst (DifferAt c.locations d.locations) p → (earlier : Reason) → kind_order earlier ≡ 3 → AreEarlier earlier p 0 → Holds earlier → ⊥
    locations_before p first (Table Locations q) e (inl less) is = first.1 q less is
    locations_before p first (Table Locations q) e (inr (same, less)) is = absurd (omega arith)
    locations_before p first (Table Ranges q) e less is = absurd (omega arith)
    locations_before p first earlier e less is = absurd (omega arith)

    pub first_is_locations : NoneBelow 3 → (p : ℕ) → IsFirst (DifferAt c.locations d.locations) p → IsFirstDifference a b (Table Locations p)
    first_is_locations none p first = first_by (Table Locations p) first.0 none (locations_before p first)

    units_before : (u e : ℕ) → IsFirstPair (λ (u e : ℕ). UnitsDifferAt (slice_get c.units u) (slice_get d.units u) e) (u, e) → (earlier : Reason) → kind_order earlier ≡ 4 → AreEarlier earlier u e → Holds earlier → ⊥
    units_before u e first (Differs v f) same less is = first.1 v f less is
    units_before u e first (Table Ranges q) same less is = absurd (omega arith)
    units_before u e first (Table Locations q) same less is = absurd (omega arith)
    units_before u e first earlier same less is = absurd (omega arith)

    pub first_is_units : NoneBelow 4 → (u e : ℕ) → IsFirstPair (λ (u e : ℕ). UnitsDifferAt (slice_get c.units u) (slice_get d.units u) e) (u, e) → IsFirstDifference a b (Differs u e)
    first_is_units none u e first = first_by (Differs u e) first.0 none (units_before u e first)

-- WORLDS

-- what a world means
world_means : (world : World) (v : IsSomeWorld world) → Means world.image v.1.debug
world_means world v = (v.1.r, v.1.read, v.1.means)

module _ (first second : World) (v : IsSomeWorld first) (w : IsSomeWorld second) where
  -- where there is a first difference the files don't mean the same
  pub not_same : (reason : Reason) → IsFirstDifference first.image second.image reason → (true ≡ false → Same first.image second.image) × (Same first.image second.image → true ≡ false)
  not_same reason is =
      (λ e. absurd (true≢false e), λ same. absurd ((same_without_reason first.image second.image v.0 w.0 is.c is.d v.1.valid w.1.valid is.means is.other).0 same reason is.is))

  -- and where there is none they do
  pub all_same : NoneBelow first.image second.image v.1.debug w.1.debug 5 → (false ≡ false → Same first.image second.image) × (Same first.image second.image → false ≡ false)
  all_same none =
      (λ e. (same_without_reason first.image second.image v.0 w.0 v.1.debug w.1.debug v.1.valid w.1.valid (world_means first v) (world_means second w)).1 (none_at_all first.image second.image v.1.debug w.1.debug none), λ same. refl)

  abbrev c : Debug
  c = v.1.debug

  abbrev d : Debug
  d = w.1.debug

  abbrev NoneUpTo : ℕ → Type 0
  NoneUpTo n = NoneBelow first.image second.image c d n

  -- NO REASON UP TO A KIND

  pub past_kept : ((s : ℕ) → KeptDiffers first.image second.image s → ⊥) → NoneUpTo 1
  past_kept none = below_more first.image second.image c d 0 (below_none first.image second.image c d) (no_kept first.image second.image c d none)

  pub past_rows : NoneUpTo 1 → OfMeanings first second (λ c d. (p : ℕ) → DifferAt c.programs d.programs p → ⊥) → NoneUpTo 2
  past_rows before none = below_more first.image second.image c d 1 before (no_rows first.image second.image c d (none c d (world_means first v) (world_means second w)))

  abbrev PartFound : ListKind → Option ℕ → Type 0
  PartFound kind found = OfMeanings first second (λ c d. IsFirstFound (DifferAt (parts_of c kind) (parts_of d kind)) found)

  part_found : (kind : ListKind) (found other : Option ℕ) → PartFound kind found → found ≡ other → IsFirstFound (DifferAt (parts_of c kind) (parts_of d kind)) other
  part_found kind found other is e = subst (IsFirstFound (DifferAt (parts_of c kind) (parts_of d kind))) e (is c d (world_means first v) (world_means second w))

  pub past_ranges : NoneUpTo 2 → (found : Option ℕ) → PartFound Ranges found → found ≡ None → NoneUpTo 3
  past_ranges before found is e = below_more first.image second.image c d 2 before (no_ranges first.image second.image c d (part_found Ranges found None is e))

  pub past_locations : NoneUpTo 3 → (found : Option ℕ) → PartFound Locations found → found ≡ None → NoneUpTo 4
  past_locations before found is e = below_more first.image second.image c d 3 before (no_locations first.image second.image c d (part_found Locations found None is e))

  abbrev EntryFound : Option (ℕ × ℕ) → Type 0
  EntryFound found = OfMeanings first second (λ c d. IsFirstPairFound (λ u e. UnitsDifferAt (slice_get c.units u) (slice_get d.units u) e) found)

  entry_found : (found other : Option (ℕ × ℕ)) → EntryFound found → found ≡ other → IsFirstPairFound (λ u e. UnitsDifferAt (slice_get c.units u) (slice_get d.units u) e) other
  entry_found found other is e = subst (IsFirstPairFound (λ u e. UnitsDifferAt (slice_get c.units u) (slice_get d.units u) e)) e (is c d (world_means first v) (world_means second w))

  pub past_units : NoneUpTo 4 → (found : Option (ℕ × ℕ)) → EntryFound found → found ≡ None → NoneUpTo 5
  past_units before found is e = below_more first.image second.image c d 4 before (no_units first.image second.image c d (entry_found found None is e))

  -- THE FIRST REASON, BY ITS KIND

  pub kept_found : (s : ℕ) → IsFirst (KeptDiffers first.image second.image) s → IsFirstDifference first.image second.image (Kept s)
  kept_found s is = first_is_kept first.image second.image c d (world_means first v) (world_means second w) s is

  pub rows_found : NoneUpTo 1 → (p : ℕ) → OfMeanings first second (λ c d. IsFirst (DifferAt c.programs d.programs) p) → IsFirstDifference first.image second.image (Rows p)
  rows_found before p is = first_is_rows first.image second.image c d (world_means first v) (world_means second w) before p (is c d (world_means first v) (world_means second w))

  pub ranges_found : NoneUpTo 2 → (found : Option ℕ) → PartFound Ranges found → (p : ℕ) → found ≡ Some p → IsFirstDifference first.image second.image (Table Ranges p)
  ranges_found before found is p e = first_is_ranges first.image second.image c d (world_means first v) (world_means second w) before p (part_found Ranges found (Some p) is e)

  pub locations_found : NoneUpTo 3 → (found : Option ℕ) → PartFound Locations found → (p : ℕ) → found ≡ Some p → IsFirstDifference first.image second.image (Table Locations p)
  locations_found before found is p e = first_is_locations first.image second.image c d (world_means first v) (world_means second w) before p (part_found Locations found (Some p) is e)

  pub units_found : NoneUpTo 4 → (found : Option (ℕ × ℕ)) → EntryFound found → (u e : ℕ) → found ≡ Some (u, e) → IsFirstDifference first.image second.image (Differs u e)
  units_found before found is u e same = first_is_units first.image second.image c d (world_means first v) (world_means second w) before u e (entry_found found (Some (u, e)) is same)
