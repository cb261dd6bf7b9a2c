-- The meanings of units, by their numbers.
use Rattle.std.proofs.Common.{◌≡◌, ◌≢◌, ◌≤◌, ◌<◌, ◌⊎◌, ◌^◌, ℕ, List, [], length, get_or, ◌∙◌, sym, ap, refl, subst, arith, true≢false, inl, inr}
use Rattle.std.specs.Prelude.{Bool, true, false, ◌↔◌, Option, Some, None, IsTrue, map, slice_get}
use Rattle.std.proofs.lemmas.List.{get_or_read}
use Rattle.std.proofs.lemmas.Option.{slice_get-get_or, slice_get_past, slice_get_within, get_or_from_slice_get}
use Rattle.std.proofs.lemmas.Bool.{cases_lt}
use Rattle.entry_read.specs.Units.{HeadAndForest}
use Rattle.value_links.specs.Sections.{debug_info, debug_abbrev}
use Rattle.value_links.specs.Reading.{Reading, Linkable, no_unit, unit_at}
use Rattle.value_links.specs.World.{World, head_and_forest}
use Rattle.value_links.specs.Links.{held_at}
use Rattle.value_links.specs.Debug.{Debug, UnitMeaning, Means, MeansType, MeansUnit}
use Rattle.value_links.specs.Laws.{OneReading}
use Rattle.value_links.proofs.HeldUnits.{few_units, held_count, held_is}
use Rattle.same_meaning.specs.Differences.{DifferAt, HaveOtherHeads, UnitsDifferAt}
use Rattle.same_meaning.specs.inside.Compared.{IsSomeWorld, OfMeanings, IsFirst, IsFirstFound, IsFirstPair}
use Rattle.same_meaning.specs.inside.Headers.{HasTypeEntry, IsTypeEntryOf, MeansHeader}

-- UNITS OF A WORLD

-- past the end of a list of meanings there is none, and an empty one stands for it
abbrev no_meaning : UnitMeaning
no_meaning = record { unit_type = 0; signature = 0; type_entry = None; forest = [] }

module _ (world : World) (is : IsSomeWorld world) where
  pub held_units : length world.units ≡ length is.1.r.links.units
  held_units = held_count is.1.r.links.units world.units is.1.holds.units

  pub few_held : length world.units < 2 ^ 32
  few_held = subst (λ (n : ℕ). n < 2 ^ 32) (sym held_units) (few_units (debug_info world.image) (debug_abbrev world.image) is.1.r.links.units is.1.read.links.units)

  -- a unit that is read is held
  held_there : (r : Reading) → is.1.r ≡ r → (u : ℕ) → u < length r.links.units → held_at world.units u ≡ head_and_forest (unit_at r.links u)
  held_there r same u inside =
      held_is r.links.units world.units (is.1.holds.units ∙ ap (λ (z : Reading). map head_and_forest z.links.units) same) u inside

  type_entry_of : (r : Linkable) (u : ℕ) (entry : Option ℕ) → MeansType r u entry → IsTypeEntryOf (head_and_forest (unit_at r u)) entry
  type_entry_of r u None means = means
  type_entry_of r u (Some id) means = means

  header_of : (r : Reading) (u : ℕ) (meaning : UnitMeaning) → MeansUnit r u meaning → MeansHeader (head_and_forest (unit_at r.links u)) meaning
  header_of r u meaning means = record {
    unit_type = means.unit_type;
    signature = means.signature;
    type_entry = type_entry_of r.links u meaning.type_entry means.type_entry;
  }

  module _ (law : OneReading) (c : Debug) (means : Means world.image c) where
    same_reading : is.1.r ≡ means.0
    same_reading = law world.image is.1.r means.0 is.1.read means.1

    -- as many units are meant as are held
    pub meant_units : length c.units ≡ length world.units
    meant_units = means.2.units.count ∙ ap (λ (z : Reading). length z.links.units) (sym same_reading) ∙ sym held_units

    -- the header of each means that of the unit with its number
    pub header_meant : (u : ℕ) (a : UnitMeaning) → slice_get c.units u ≡ Some a → MeansHeader (held_at world.units u) a
    header_meant u a there =
        let inside : u < length c.units = slice_get_within c.units u a there in
        let known : u < length means.0.links.units = omega (arith, means.2.units.count) in
        let is_a : get_or c.units u no_meaning ≡ a = get_or_from_slice_get c.units u a no_meaning there in
        let unit : MeansUnit means.0 u a = subst (λ (z : UnitMeaning). MeansUnit means.0 u z) is_a (means.2.units.each u no_meaning inside) in
        subst (λ (z : HeadAndForest). MeansHeader z a) (sym (held_there means.0 same_reading u known)) (header_of means.0 u a unit)

    -- something is meant by each unit
    pub unit_meant : (u : ℕ) → u < length world.units → (a : UnitMeaning) × (slice_get c.units u ≡ Some a)
    unit_meant u inside = (get_or c.units u no_meaning, slice_get-get_or c.units u no_meaning (omega (arith, meant_units)))

  typed : (entry : Option ℕ) (unit : HeadAndForest) → IsTypeEntryOf unit entry → HasTypeEntry unit
  typed None unit other is_type = absurd (other is_type)
  typed (Some id) unit entry is_type = (id, entry.1)

  -- a type unit has an entry of its type
  pub type_known : OneReading → (u : ℕ) → u < length world.units → HasTypeEntry (held_at world.units u)
  type_known law u inside =
      let means : Means world.image is.1.debug = (is.1.r, is.1.read, is.1.means) in
      let unit = unit_meant law is.1.debug means u inside in
      typed unit.0.type_entry (held_at world.units u) (header_meant law is.1.debug means u unit.0 unit.1).type_entry

  -- a unit that was looked up
  pub unit_held : (units : List HeadAndForest) (u : ℕ) (unit : HeadAndForest) → units ≡ world.units → unit ≡ get_or units u unit → u < length units → unit ≡ held_at world.units u
  unit_held units u unit are read inside = get_or_read units u unit inside read (head_and_forest no_unit) ∙ ap (λ (z : List HeadAndForest). held_at z u) are

-- UNITS THAT DIFFER

by_entries : (a b : UnitMeaning) (e : ℕ) → (HaveOtherHeads a b → ⊥) → UnitsDifferAt (Some a) (Some b) e → DifferAt a.forest b.forest e
by_entries a b e same (inl heads) = absurd (same heads.1)
by_entries a b e same (inr entries) = entries

-- two units whose headers mean the same differ by their entries alone
pub others_found : (a b : UnitMeaning) (found : Option ℕ) → (HaveOtherHeads a b → ⊥) → IsFirstFound (DifferAt a.forest b.forest) found → IsFirstFound (UnitsDifferAt (Some a) (Some b)) found
others_found a b None same first = λ e differ. first e (by_entries a b e same differ)
others_found a b (Some i) same first = (inr first.0, λ j less differ. first.1 j less (by_entries a b j same differ))

-- others do so at entry 0
pub heads_first : (a b : UnitMeaning) → HaveOtherHeads a b → IsFirst (UnitsDifferAt (Some a) (Some b)) 0
heads_first a b heads = (inl (refl, heads), λ j less differ. absurd (omega (arith, less)))

-- THE FIRST UNIT THAT DIFFERS

-- the units with a number mean the same
abbrev pub AreSameAt : Debug → Debug → ℕ → Type 0
AreSameAt c d u = (e : ℕ) → UnitsDifferAt (slice_get c.units u) (slice_get d.units u) e → ⊥

abbrev pub DifferIn : Debug → Debug → ℕ → ℕ → Type 0
DifferIn c d u e = UnitsDifferAt (slice_get c.units u) (slice_get d.units u) e

none_differ : (a b : Option UnitMeaning) (e : ℕ) → a ≡ None → b ≡ None → UnitsDifferAt a b e → ⊥
none_differ None None e p q differ = differ
none_differ (Some a) b e p q differ = cc
none_differ None (Some b) e p q differ = cc

module _ (a b : World) (first : IsSomeWorld a) (second : IsSomeWorld b) (law : OneReading) where
  module _ (u : ℕ) (inside : u < length a.units) (also : u < length b.units) (other_heads : Bool) (told : OfMeanings a b (λ c d. (x y : UnitMeaning) → slice_get c.units u ≡ Some x → slice_get d.units u ≡ Some y → IsTrue other_heads ↔ HaveOtherHeads x y)) where
    module _ (c d : Debug) (means : Means a.image c) (other : Means b.image d) where
      unit_of : (x : UnitMeaning) × (slice_get c.units u ≡ Some x)
      unit_of = unit_meant a first law c means u inside

      other_of : (y : UnitMeaning) × (slice_get d.units u ≡ Some y)
      other_of = unit_meant b second law d other u also

      -- what differs of these two units
      of_units : (P : (ℕ → Type 0) → Type 0) → P (UnitsDifferAt (Some unit_of.0) (Some other_of.0)) → P (DifferIn c d u)
      of_units P holds =
          subst (λ (z : Option UnitMeaning). P (UnitsDifferAt z (slice_get d.units u))) (sym unit_of.1)
          (subst (λ (z : Option UnitMeaning). P (UnitsDifferAt (Some unit_of.0) z)) (sym other_of.1) holds)

    -- the units differ by their headers
    pub heads_there : other_heads ≡ true → OfMeanings a b (λ c d. IsFirst (DifferIn c d u) 0)
    heads_there is c d means other =
        let x = unit_of c d means other in
        let y = other_of c d means other in
        of_units c d means other (λ (Q : ℕ → Type 0). IsFirst Q 0) (heads_first x.0 y.0 ((told c d means other x.0 y.0 x.1 y.1).0 is))

    -- or by their entries alone
    pub entries_there : other_heads ≡ false → (found : Option ℕ) → OfMeanings a b (λ c d. (x y : UnitMeaning) → slice_get c.units u ≡ Some x → slice_get d.units u ≡ Some y → IsFirstFound (DifferAt x.forest y.forest) found) → OfMeanings a b (λ c d. IsFirstFound (DifferIn c d u) found)
    entries_there alike found entries c d means other =
        let x = unit_of c d means other in
        let y = other_of c d means other in
        let same = λ (heads : HaveOtherHeads x.0 y.0). true≢false (sym ((told c d means other x.0 y.0 x.1 y.1).1 heads) ∙ alike) in
        of_units c d means other (λ (Q : ℕ → Type 0). IsFirstFound Q found) (others_found x.0 y.0 found same (entries c d means other x.0 y.0 x.1 y.1))

  -- the first entry of the first unit that differs
  pub first_in : (u e : ℕ) → ((v : ℕ) → v < u → OfMeanings a b (λ c d. AreSameAt c d v)) → OfMeanings a b (λ c d. IsFirst (DifferIn c d u) e) → OfMeanings a b (λ c d. IsFirstPair (DifferIn c d) (u, e))
  first_in u e same found c d means other = ((found c d means other).0, earlier)
    where
      earlier : (i j : ℕ) → (i < u) ⊎ ((i ≡ u) × (j < e)) → DifferIn c d i j → ⊥
      earlier i j (inl less) differ = same i less c d means other j differ
      earlier i j (inr (here, less)) differ = (found c d means other).1 j less (subst (λ (z : ℕ). DifferIn c d z j) here differ)

  module _ (c d : Debug) (means : Means a.image c) (other : Means b.image d) where
    count_first : length c.units ≡ length a.units
    count_first = meant_units a first law c means

    count_second : length d.units ≡ length b.units
    count_second = meant_units b second law d other

    -- one of them has a unit with a number, and the other none
    only_first : (u : ℕ) → u < length c.units → length d.units ≤ u → DifferIn c d u 0
    only_first u some none =
        subst (λ (z : Option UnitMeaning). UnitsDifferAt z (slice_get d.units u) 0) (sym (slice_get-get_or c.units u no_meaning some))
        (subst (λ (z : Option UnitMeaning). UnitsDifferAt (Some (get_or c.units u no_meaning)) z 0) (sym (slice_get_past d.units u none)) refl)

    only_second : (u : ℕ) → u < length d.units → length c.units ≤ u → DifferIn c d u 0
    only_second u some none =
        subst (λ (z : Option UnitMeaning). UnitsDifferAt z (slice_get d.units u) 0) (sym (slice_get_past c.units u none))
        (subst (λ (z : Option UnitMeaning). UnitsDifferAt None z 0) (sym (slice_get-get_or d.units u no_meaning some)) refl)

  first_at_0 : (u : ℕ) → OfMeanings a b (λ c d. DifferIn c d u 0) → OfMeanings a b (λ c d. IsFirst (DifferIn c d u) 0)
  first_at_0 u differ c d means other = (differ c d means other, λ j less _. absurd (omega (arith, less)))

  -- the first unit that only one of both has
  pub first_alone : (n : ℕ) → (n ≡ length a.units) ⊎ (n ≡ length b.units) → n ≤ length a.units → n ≤ length b.units → length a.units ≢ length b.units → ((v : ℕ) → v < n → OfMeanings a b (λ c d. AreSameAt c d v)) → OfMeanings a b (λ c d. IsFirstPair (DifferIn c d) (n, 0))
  first_alone n (inl here) inside also apart same =
      first_in n 0 same (first_at_0 n (λ c d means other.
      let one = count_first c d means other in
      let two = count_second c d means other in
      only_second c d means other n (omega arith) (omega arith)))
  first_alone n (inr here) inside also apart same =
      first_in n 0 same (first_at_0 n (λ c d means other.
      let one = count_first c d means other in
      let two = count_second c d means other in
      only_first c d means other n (omega arith) (omega arith)))

  -- no unit differs
  pub none_other : (n : ℕ) → n ≡ length a.units → n ≡ length b.units → ((v : ℕ) → v < n → OfMeanings a b (λ c d. AreSameAt c d v)) → OfMeanings a b (λ c d. (u e : ℕ) → DifferIn c d u e → ⊥)
  none_other n whole also same c d means other u e differ =
      let one = count_first c d means other in
      let two = count_second c d means other in
      elim (cases_lt u n) [
        | inl less ↦ same u less c d means other e differ
        | inr past ↦ none_differ (slice_get c.units u) (slice_get d.units u) e (slice_get_past c.units u (omega arith)) (slice_get_past d.units u (omega arith)) differ
      ]
