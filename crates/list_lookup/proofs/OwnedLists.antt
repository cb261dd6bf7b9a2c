-- The location lists that units own, as they are found one after the other.
use Rattle.std.proofs.Common.{◌≡◌, ◌<◌, ◌+◌, ◌∙◌, inl, inr, ℕ, List, [], ◌∷◌, ◌++◌, length, get_or, sym, ap, subst, refl, arith}
use Rattle.std.specs.Prelude.{Option, Some, None, slice_set}
use Rattle.std.specs.List.{All}
use Rattle.std.proofs.lemmas.Bool.{cases_lt, cases_eq}
use Rattle.std.proofs.lemmas.Option.{same_Some}
use Rattle.std.proofs.lemmas.List.{length_push, get_or_push, get_or_append_left, length-set, get_or-set_same, get_or-set_other}
use Rattle.std.proofs.lemmas.List.Elements.{All-nil, All-push}
use Rattle.dw_base.specs.declared.fault.Reach.{Reach}
use Rattle.list_model.specs.declared.entry.ListKind.TheVariants.{Locations}
use Rattle.list_model.specs.declared.item.Meaning.TheVariants.{Dead}
use Rattle.list_arena.specs.Held.{HeldList}
use Rattle.written_files.specs.Layouts.{AreNumbersOf}
use Rattle.value_links.specs.Lists.{IsOwner}
use Rattle.value_links.specs.Reading.{list_at}
use Rattle.value_links.specs.World.{World, IsWorldOf}
use Rattle.value_links.proofs.HeldUnits.{held_count}
use Rattle.list_lookup.specs.declared.owned.Owned.{Owned}
use Rattle.list_lookup.specs.Owned.{IsOwnedBy, AreOwnedUpTo, OwnNothing, AreAllOwned}

-- NUMBERS

module _ (Those : ℕ → Type 0) where
  pub numbers_none : AreNumbersOf Those 0 []
  numbers_none = record { rising = λ i j less inside. absurd (omega (arith, inside)); those = All-nil (λ (k : ℕ). (k < 0) × Those k); all = λ k below is. absurd (omega (arith, below)) }

  module _ (count : ℕ) (numbers : List ℕ) (are : AreNumbersOf Those count numbers) where
    below_more : All (λ (k : ℕ). (k < count + 1) × Those k) numbers
    below_more i d less = let one = are.those i d less in (let below = one.0 in omega (arith, below), one.1)

    -- the next one is one of those
    pub numbers_more : Those count → AreNumbersOf Those (count + 1) (numbers ++ count ∷ [])
    numbers_more is = record {
      rising = λ i j less inside. elim (cases_lt j (length numbers)) [
        | inl early ↦
            let first : get_or (numbers ++ count ∷ []) i 0 ≡ get_or numbers i 0 = get_or_append_left numbers (count ∷ []) 0 i (omega (arith, less, early)) in
            let second : get_or (numbers ++ count ∷ []) j 0 ≡ get_or numbers j 0 = get_or_append_left numbers (count ∷ []) 0 j early in
            omega (arith, first, second, are.rising i j less early)
        | inr late ↦
            let end : length numbers ≡ j = omega (arith, late, inside, length_push numbers count) in
            let here : i < length numbers = omega (arith, less, end) in
            let first : get_or (numbers ++ count ∷ []) i 0 ≡ get_or numbers i 0 = get_or_append_left numbers (count ∷ []) 0 i here in
            let second : get_or (numbers ++ count ∷ []) j 0 ≡ count = get_or_push numbers count 0 j end in
            omega (arith, first, second, (are.those i 0 here).0)
      ];
      those = All-push (λ (k : ℕ). (k < count + 1) × Those k) numbers count below_more (omega arith, is);
      all = λ k below those. elim (cases_lt k count) [
        | inl early ↦ (let (i, inside, same) = are.all k early those in (i, omega (arith, inside, length_push numbers count), get_or_append_left numbers (count ∷ []) k i inside ∙ same))
        | inr late ↦ (let same : count ≡ k = omega (arith, below, late) in (length numbers, omega (arith, length_push numbers count), get_or_push numbers count k (length numbers) refl ∙ same))
      ];
    }

    -- or it isn't
    pub numbers_still : (Those count → ⊥) → AreNumbersOf Those (count + 1) numbers
    numbers_still other = record {
      rising = are.rising;
      those = below_more;
      all = λ k below those. elim (cases_lt k count) [
        | inl early ↦ are.all k early those
        | inr late ↦ absurd (other (subst Those (omega (arith, below, late)) those))
      ];
    }

-- OWNERS

-- past the end there is no list, and an empty one stands for it
abbrev no_list : HeldList
no_list = record { at = 0; part = 0; owner = None; raw = []; meaning = Dead }

-- the owner of a list is a unit that is held
pub owner_held : (world : World) (reach : Reach) → IsWorldOf world.image reach world → (k u : ℕ) → k < length world.locations → IsOwnedBy world u k → u < length world.units
owner_held world reach is k u inside own =
    let count : length world.locations ≡ length is.r.location_lists = (is.holds.lists Locations).count in
    let held = (is.holds.lists Locations).each k no_list (omega (arith, inside, count)) in
    let owned = subst (λ (z : Option ℕ). IsOwner is.r.links Locations (list_at is.r.location_lists k).at z) (own no_list) held.owner in
    omega (arith, owned.0.known, held_count is.r.links.units world.units is.holds.units)

-- UNIT BY UNIT

module _ (world : World) (n : ℕ) (owner : Option ℕ) (here : (d : HeldList) → owner ≡ (get_or world.locations n d).owner) (all : List Owned) (are : AreAllOwned world n all) where
  owner_told : (u : ℕ) → IsOwnedBy world u n → owner ≡ Some u
  owner_told u is = here no_list ∙ is no_list

  -- no unit owns it
  pub owned_none : ((u : ℕ) → owner ≡ Some u → ⊥) → AreAllOwned world (n + 1) all
  owned_none none = record {
    units = are.units;
    each = λ u d below. numbers_still (IsOwnedBy world u) n (get_or all u d).lists.items (are.each u d below) (λ is. none u (owner_told u is));
  }

  -- or this one does
  pub owned_one : (u : ℕ) (old now : Owned) → owner ≡ Some u → u < length all → old ≡ get_or all u old → now.lists.items ≡ old.lists.items ++ n ∷ [] → AreAllOwned world (n + 1) (slice_set all u now)
  owned_one u old now owned known was pushed = record {
    units = length-set all u now ∙ are.units;
    each = λ v d below.
        let less : v < length all = omega (arith, below, length-set all u now) in
        elim (cases_eq v u) [
          | inl same ↦
              let put : get_or (slice_set all u now) v d ≡ now = ap (λ (z : ℕ). get_or (slice_set all u now) z d) same ∙ get_or-set_same all u now d known in
              let more = numbers_more (IsOwnedBy world u) n old.lists.items (subst (λ (o : Owned). AreOwnedUpTo world n u o.lists.items) (sym was) (are.each u old known)) (λ e. sym (here e) ∙ owned) in
              subst (λ (z : ℕ). AreOwnedUpTo world (n + 1) z (get_or (slice_set all u now) v d).lists.items) (sym same)
              (subst (λ (z : List ℕ). AreOwnedUpTo world (n + 1) u z) (sym (ap (λ (o : Owned). o.lists.items) put ∙ pushed)) more)
          | inr apart ↦
              let still = numbers_still (IsOwnedBy world v) n (get_or all v d).lists.items (are.each v d less) (λ is. apart (same_Some v u (sym (owner_told v is) ∙ owned))) in
              subst (λ (o : Owned). AreOwnedUpTo world (n + 1) v o.lists.items) (sym (get_or-set_other all u v now d apart)) still
        ];
  }

-- none is found yet
pub owned_nothing : (world : World) (all : List Owned) → OwnNothing (length world.units) all → AreAllOwned world 0 all
owned_nothing world all none = record {
  units = none.count;
  each = λ u d below. subst (λ (z : List ℕ). AreOwnedUpTo world 0 u z) (sym (none.none u d below)) (numbers_none (IsOwnedBy world u));
}
