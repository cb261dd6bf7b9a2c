-- Units that stand one after the other.
use Rattle.std.proofs.Common.{◌≡◌, ◌≤◌, ◌<◌, ◌+◌, ◌^◌, ℕ, List, [], ◌∷◌, ◌++◌, length, take, get_or, ◌∙◌, sym, ap, refl, subst, arith, inl, inr}
use Rattle.std.specs.Prelude.{map, slice_index_or}
use Rattle.std.specs.List.{sum_by}
use Rattle.std.proofs.lemmas.Bool.{cases_lt}
use Rattle.std.proofs.lemmas.List.{length-append, length_push, length-map, map-append, get_or_append_left, get_or_push}
use Rattle.std.proofs.lemmas.List.Sums.{sum_by_more, sum_by-take-le}
use Rattle.std.proofs.Math.ListN.{get_or-append}
use Rattle.std.proofs.Math.Seq.{get_or-append_seam}
use Rattle.dw_base.specs.declared.fault.Reach.TheVariants.{Narrow}
use Rattle.spelled.specs.Spelled.{Joined}
use Rattle.spelled.proofs.Joins.{joined_push}
use Rattle.leb_codec.specs.Records.{Record, OfLayout, SpellsRecord}
use Rattle.fixed_width.specs.InitialLengths.{least_reserved}
use Rattle.unit_write.specs.Most.{most_bytes}
use Rattle.unit_write.specs.declared.places.Places.{Places}
use Rattle.value_links.specs.World.{World, IsWorldOf}
use Rattle.rewriter.specs.declared.tables.NewTable.{NewTable}
use Rattle.rewriter.specs.inside.Placed.{PlacesAnew, places_anew, places_at, unit_in, IsPlacedBy, PlacesFollow, AreRanksOf}
use Rattle.rewriter.specs.inside.Held.{IsPlacedFrom}
use Rattle.rewriter.proofs.UnitRoom.{units_have_room}

-- So many units stand from 0 up to a place. They have no more bytes than such units can get.
pub record ArePlacedUpTo (world : World) (tables : List NewTable) (places : List Places) (number end : ℕ) : Type 0 where
  pub count : length places ≡ number
  pub follow : PlacesFollow places 0 end
  pub small : end < least_reserved
  pub within : end ≤ sum_by most_bytes (take number world.units)
  pub each : (u : ℕ) → u < number → IsPlacedBy world tables u (places_at places u)

pub follow_more : (places : List Places) (at end : ℕ) (next : Places) → PlacesFollow places at end → next.start ≡ end → PlacesFollow (places ++ next ∷ []) at next.end
follow_more [] at end next same begins = (begins ∙ sym same, refl)
follow_more (unit ∷ units) at end next (first, rest) begins = (first, follow_more units unit.end end next rest begins)

none : PlacesAnew
none = record { start = 0; entries = []; ends = []; end = 0 }

module _ (places : List Places) (next : Places) where
  size : length (map places_anew places) ≡ length places
  size = length-map places places_anew

  front : (u : ℕ) → u < length places → places_at (places ++ next ∷ []) u ≡ places_at places u
  front u inside =
      ap (λ (z : List PlacesAnew). get_or z u (record { start = 0; entries = []; ends = []; end = 0 })) (map-append places_anew places (next ∷ []))
      ∙ get_or-append (map places_anew places) (places_anew next ∷ []) (record { start = 0; entries = []; ends = []; end = 0 }) u (let same : length (map places_anew places) ≡ length places = size in omega arith)

  last : places_at (places ++ next ∷ []) (length places) ≡ places_anew next
  last =
      ap (λ (z : List PlacesAnew). get_or z (length places) (record { start = 0; entries = []; ends = []; end = 0 })) (map-append places_anew places (next ∷ []))
      ∙ subst (λ (z : ℕ). get_or (map places_anew places ++ places_anew next ∷ []) z (record { start = 0; entries = []; ends = []; end = 0 }) ≡ places_anew next) size (get_or-append_seam (map places_anew places) (places_anew next) [] (record { start = 0; entries = []; ends = []; end = 0 }))

  last_at : (u : ℕ) → length places ≡ u → places_at (places ++ next ∷ []) u ≡ places_anew next
  last_at u there = subst (λ (z : ℕ). places_at (places ++ next ∷ []) z ≡ places_anew next) there last

-- none stands yet
pub placed_none : (world : World) (tables : List NewTable) → ArePlacedUpTo world tables [] 0 0
placed_none world tables = record { count = refl; follow = refl; small = omega arith; within = omega arith; each = λ u below. absurd (let no : u < 0 = below in omega arith) }

-- one more unit
most_more : (world : World) (number : ℕ) → number < length world.units → sum_by most_bytes (take (number + 1) world.units) ≡ sum_by most_bytes (take number world.units) + most_bytes (unit_in world.units number)
most_more world number known = sum_by_more most_bytes world.units number _ known

-- there is room for the next
pub room_next : (world : World) (tables : List NewTable) (places : List Places) (number end : ℕ) → IsWorldOf world.image Narrow world → ArePlacedUpTo world tables places number end → number < length world.units → end + most_bytes (unit_in world.units number) < 2 ^ 31
room_next world tables places number end is up known =
    let within = up.within in
    let more = most_more world number known in
    let front = sum_by-take-le most_bytes world.units (number + 1) in
    let all = units_have_room world is in
    omega (arith, within, more, front, all)

pub placed_more : (world : World) (tables : List NewTable) (places : List Places) (number end : ℕ) (before after : List ℕ) (next : Places) → number < length world.units → ArePlacedUpTo world tables places number end → IsPlacedFrom world tables number end before after next → next.end ≤ end + most_bytes (unit_in world.units number) → ArePlacedUpTo world tables (places ++ next ∷ []) (number + 1) next.end
placed_more world tables places number end before after next known up is most = record {
  count = let longer : length (places ++ next ∷ []) ≡ length places + 1 = length-append places (next ∷ []) in let c : length places ≡ number = up.count in omega arith;
  follow = follow_more places 0 end next up.follow is.begins;
  small = is.fits;
  within = (let within = up.within in let more = most_more world number known in omega (arith, within, more, most));
  each = λ u below.
      let c : length places ≡ number = up.count in
      elim (cases_lt u number) [
        | inl early ↦ subst (IsPlacedBy world tables u) (sym (front places next u (omega arith))) (up.each u early)
        | inr late ↦
            let here : number ≡ u = omega arith in
            let there : length places ≡ u = omega arith in
            subst (IsPlacedBy world tables u) (sym (last_at places next u there)) (subst (λ (z : ℕ). IsPlacedBy world tables z (places_anew next)) here is.placed)
      ];
}

-- THEIR RECORDS

-- a unit stands at places with these ranks
abbrev HasRanks : World → List NewTable → ℕ → PlacesAnew → List ℕ → Type 0
HasRanks world tables u places ranks = (placed : IsPlacedBy world tables u places) × (placed.ranks ≡ ranks)

-- So many units have records, which stand one after the other.
pub record AreRanksUpTo (world : World) (tables : List NewTable) (places : List Places) (number : ℕ) (records : List ℕ) : Type 0 where
  pub all : List (List ℕ)
  pub count : length all ≡ number
  pub each : (u : ℕ) → u < number → (placed : IsPlacedBy world tables u (places_at places u)) × (placed.ranks ≡ slice_index_or all u [])
  pub spelled : Joined SpellsRecord (map OfLayout all) records

pub ranks_none : (world : World) (tables : List NewTable) (places : List Places) (records : List ℕ) → records ≡ [] → AreRanksUpTo world tables places 0 records
ranks_none world tables places records none = record { all = []; count = refl; each = λ u below. absurd (omega (arith, below)); spelled = none }

pub ranks_more : (world : World) (tables : List NewTable) (places : List Places) (number end : ℕ) (before after : List ℕ) (next : Places) → length places ≡ number → AreRanksUpTo world tables places number before → IsPlacedFrom world tables number end before after next → AreRanksUpTo world tables (places ++ next ∷ []) (number + 1) after
ranks_more world tables places number end before after next stand up is = record {
  all = up.all ++ is.placed.ranks ∷ [];
  count = length_push up.all is.placed.ranks ∙ ap (λ (z : ℕ). z + 1) up.count;
  each = λ u below. elim (cases_lt u number) [
    | inl early ↦
        let same : get_or (up.all ++ is.placed.ranks ∷ []) u [] ≡ get_or up.all u [] = get_or_append_left up.all (is.placed.ranks ∷ []) [] u (omega (arith, early, up.count)) in
        subst (HasRanks world tables u (places_at (places ++ next ∷ []) u)) (sym same) (subst (λ (p : PlacesAnew). HasRanks world tables u p (get_or up.all u [])) (sym (front places next u (omega (arith, early, stand)))) (up.each u early))
    | inr late ↦
        let here : number ≡ u = omega (arith, late, below) in
        let same : get_or (up.all ++ is.placed.ranks ∷ []) u [] ≡ is.placed.ranks = get_or_push up.all is.placed.ranks [] u (up.count ∙ here) in
        subst (HasRanks world tables u (places_at (places ++ next ∷ []) u)) (sym same) (subst (λ (p : PlacesAnew). HasRanks world tables u p is.placed.ranks) (sym (last_at places next u (stand ∙ here))) (subst (λ (z : ℕ). HasRanks world tables z (places_anew next) is.placed.ranks) here (is.placed, refl)))
  ];
  spelled =
      let (bytes, spelled, behind) = is.recorded in
      let joined = joined_push SpellsRecord (map OfLayout up.all) (OfLayout is.placed.ranks) before bytes up.spelled spelled in
      subst (Joined SpellsRecord (map OfLayout (up.all ++ is.placed.ranks ∷ []))) (sym behind) (subst (λ (z : List Record). Joined SpellsRecord z (before ++ bytes)) (sym (map-append OfLayout up.all (is.placed.ranks ∷ []))) joined);
}

pub ranks_all : (world : World) (tables : List NewTable) (places : List Places) (number : ℕ) (records : List ℕ) → number ≡ length world.units → AreRanksUpTo world tables places number records → AreRanksOf world tables places records
ranks_all world tables places number records same up = record {
  all = up.all;
  count = up.count ∙ same;
  each = λ u below. up.each u (omega (arith, below, same));
  spelled = up.spelled;
}
