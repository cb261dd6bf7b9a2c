-- The first unit with bytes behind its tree.
use Rattle.std.proofs.Common.{◌≡◌, ◌≢◌, ◌≤◌, ◌<◌, ◌+◌, ◌^◌, ◌∙◌, inl, inr, ℕ, List, length, get_or, sym, ap, subst, refl, arith}
use Rattle.std.proofs.lemmas.Bool.{cases_lt}
use Rattle.std.proofs.lemmas.List.{get_or_read}
use Rattle.dw_base.specs.declared.fault.Reach.{Reach}
use Rattle.abbrev_tables.specs.Tables.{Declared}
use Rattle.entry_arena.specs.Trees.{listed_to}
use Rattle.entry_read.specs.declared.head.UnitHead.{UnitHead}
use Rattle.entry_read.specs.Units.{HeadAndForest, IsUnit, IsUnitHeld, end_of}
use Rattle.entry_read.proofs.Chained.{Chained, stand_apart, ends_by}
use Rattle.value_links.specs.Links.{held_at}
use Rattle.value_links.specs.Reading.{UnitRead, Reading, IsUnitRead, declarations, no_unit, unit_at}
use Rattle.value_links.specs.Sections.{body_named, offset_named, debug_info, debug_abbrev, info_name}
use Rattle.value_links.specs.World.{World, IsWorldOf, head_and_forest}
use Rattle.value_links.proofs.HeldUnits.{unit_is, held_count, held_is}
use Rattle.value_links.proofs.ReadingOnce.{reading_once}
use Rattle.value_links.proofs.Tiles.{units_chained}
use Rattle.tidy_places.specs.Firsts.{IsLeastPlace}
use Rattle.tidy_files.specs.Tidy.{IsPadded, IsPaddedUnit}
use Rattle.tidy_files.specs.inside.Paddings.{IsTreeEnd}
use Rattle.tidy_files.proofs.FileOffsets.{body_counted}
use Rattle.tidy_files.proofs.FirstPlaces.{first_least, none_first}

abbrev starts : UnitRead → ℕ
starts unit = unit.head.at

abbrev sizes : UnitRead → ℕ
sizes unit = unit.head.len

-- a unit that was read
module _ (info abbrevs : List ℕ) (unit : UnitRead) (read : IsUnitRead info abbrevs unit) where
  held_there : IsUnitHeld unit.forest.section unit.head (declarations unit) unit.forest
  held_there = subst (λ (z : List ℕ). IsUnitHeld z unit.head (declarations unit) unit.forest) (sym read.section) read.entries

  -- has no bytes behind its tree where that ends with the unit
  full_unit : IsTreeEnd (head_and_forest unit) (end_of unit.head) → IsPadded unit → ⊥
  full_unit ends padded =
      let (place, is) = held_there in
      let same : end_of unit.head ≡ place = ends (declarations unit) place is in
      padded (subst (λ (z : ℕ). IsUnit unit.forest.section unit.head (declarations unit) (listed_to unit.forest z)) (sym same) is)

  -- and else has some
  padded_unit : (end : ℕ) → IsTreeEnd (head_and_forest unit) end → end ≢ end_of unit.head → IsPadded unit
  padded_unit end ends other = λ is. other (ends (declarations unit) (end_of unit.head) is)

module _ (world : World) (some : (reach : Reach) × IsWorldOf world.image reach world) where
  abbrev s : Reading
  s = some.1.r

  abbrev offset : ℕ
  offset = offset_named world.image info_name

  abbrev count : ℕ
  count = length s.links.units

  abbrev place_of : ℕ → ℕ
  place_of k = (unit_at s.links k).head.at

  abbrev IsAmiss : ℕ → Type 0
  IsAmiss k = IsPadded (unit_at s.links k)

  to : (k : ℕ) → k < count → IsAmiss k → IsPaddedUnit world.image (offset + place_of k)
  to k known padded = record { s = s; read = some.1.read; u = k; known = known; padded = padded; place = refl }

  from : (p : ℕ) → IsPaddedUnit world.image p → (k : ℕ) × (k < count) × IsAmiss k × (p ≡ offset + place_of k)
  from p x =
      let same : x.s ≡ s = reading_once world.image x.s s x.read some.1.read in
      subst (λ (r : Reading). (k : ℕ) × (k < length r.links.units) × IsPadded (unit_at r.links k) × (p ≡ offset + (unit_at r.links k).head.at)) same (x.u, x.known, x.padded, x.place)

  chained : Chained starts sizes s.links.units 0 (length (debug_info world.image))
  chained = units_chained (debug_info world.image) s.links.units 0 (length (debug_info world.image)) some.1.read.links.units.tiled

  rising : (i j : ℕ) → i < j → j < count → place_of i ≤ place_of j
  rising i j less inside =
      let apart : place_of i + (unit_at s.links i).head.len ≤ place_of j = stand_apart starts sizes s.links.units 0 (length (debug_info world.image)) i j no_unit chained less inside in
      omega arith

  read : (k : ℕ) → k < count → IsUnitRead (debug_info world.image) (debug_abbrev world.image) (unit_at s.links k)
  read k inside = unit_is (debug_info world.image) (debug_abbrev world.image) s.links.units some.1.read.links.units k inside

  -- a unit that is held is the one that is read
  as_many : length world.units ≡ count
  as_many = held_count s.links.units world.units some.1.holds.units

  is_held : (k : ℕ) → k < count → held_at world.units k ≡ head_and_forest (unit_at s.links k)
  is_held k inside = held_is s.links.units world.units some.1.holds.units k inside

  abbrev IsFull : ℕ → Type 0
  IsFull k = IsTreeEnd (held_at world.units k) (end_of (held_at world.units k).head)

  full : (k : ℕ) → k < count → IsFull k → IsAmiss k → ⊥
  full k inside ends = full_unit (debug_info world.image) (debug_abbrev world.image) (unit_at s.links k) (read k inside) (subst (λ (unit : HeadAndForest). IsTreeEnd unit (end_of unit.head)) (is_held k inside) ends)

  pub all_full : (n : ℕ) → length world.units ≤ n → ((k : ℕ) → k < n → IsFull k) → (p : ℕ) → IsPaddedUnit world.image p → ⊥
  all_full n whole all = none_first offset count place_of IsAmiss (IsPaddedUnit world.image) to from (λ k inside. full k inside (all k (omega (arith, as_many))))

  -- a unit that was taken from what is held
  module _ (u : ℕ) (units : List HeadAndForest) (same : units ≡ world.units) (inside : u < length units) (own : HeadAndForest) (taken : own ≡ get_or units u own) where
    there : u < count
    there = let size : length units ≡ length world.units = ap (λ (z : List HeadAndForest). length z) same in omega (arith, as_many)

    own_held : own ≡ held_at world.units u
    own_held = get_or_read units u own inside taken (head_and_forest no_unit) ∙ ap (λ (z : List HeadAndForest). held_at z u) same

    own_is : own ≡ head_and_forest (unit_at s.links u)
    own_is = own_held ∙ is_held u there

    pub unit_held : (ds : List Declared) × IsUnitHeld own.forest.section own.head ds own.forest
    unit_held = (declarations (unit_at s.links u), subst (λ (z : HeadAndForest). IsUnitHeld z.forest.section z.head (declarations (unit_at s.links u)) z.forest) (sym own_is) (held_there (debug_info world.image) (debug_abbrev world.image) (unit_at s.links u) (read u there)))

    pub unit_counted : length own.forest.section < 2 ^ 64
    unit_counted = subst (λ (z : HeadAndForest). length z.forest.section < 2 ^ 64) (sym own_is) (subst (λ (z : List ℕ). length z < 2 ^ 64) (sym (read u there).section) (body_counted world some info_name))

    pub full_more : ((k : ℕ) → k < u → IsFull k) → IsTreeEnd own (end_of own.head) → (k : ℕ) → k < u + 1 → IsFull k
    full_more before here k below = elim (cases_lt k u) [
      | inl less ↦ before k less
      | inr most ↦
          let at : u ≡ k = omega arith in
          subst IsFull at (subst (λ (z : HeadAndForest). IsTreeEnd z (end_of z.head)) own_held here)
    ]

    module _ (head : UnitHead) (head_is : head ≡ own.head) where
      same_head : head ≡ (unit_at s.links u).head
      same_head = head_is ∙ ap (λ (z : HeadAndForest). z.head) own_is

      ends : head.at + head.len ≤ length (debug_info world.image)
      ends = subst (λ (z : UnitHead). z.at + z.len ≤ length (debug_info world.image)) (sym same_head) (ends_by starts sizes s.links.units 0 (length (debug_info world.image)) u no_unit chained there)

      pub end_counted : head.at + head.len < 2 ^ 64
      end_counted = let size : length (debug_info world.image) < 2 ^ 64 = body_counted world some info_name in omega (arith, ends)

      module _ (name : List ℕ) (is : name ≡ info_name) where
        pub unit_inside : head.at ≤ length (body_named world.image name)
        unit_inside =
            let here : head.at ≤ length (debug_info world.image) = omega (arith, ends) in
            subst (λ (z : List ℕ). head.at ≤ length (body_named world.image z)) (sym is) here

        pub padded_least : ((k : ℕ) → k < u → IsFull k) → (end : ℕ) → IsTreeEnd own end → end ≢ head.at + head.len → (p : ℕ) → p ≡ offset_named world.image name + head.at → IsLeastPlace (IsPaddedUnit world.image) p
        padded_least before end tree other p place =
            let here : p ≡ offset + place_of u = place ∙ ap (λ (z : List ℕ). offset_named world.image z + head.at) is ∙ ap (λ (h : UnitHead). offset + h.at) same_head in
            let end_is : head.at + head.len ≡ end_of (unit_at s.links u).head = ap (λ (h : UnitHead). h.at + h.len) same_head in
            let padded = padded_unit (debug_info world.image) (debug_abbrev world.image) (unit_at s.links u) (read u there) end (subst (λ (z : HeadAndForest). IsTreeEnd z end) own_is tree) (λ e. other (e ∙ sym end_is)) in
            first_least offset count place_of IsAmiss (IsPaddedUnit world.image) to from rising u there padded (λ k less. full k (omega (arith, there)) (before k less)) p here
