-- Units that stand anew, one after the other.
use Rattle.std.proofs.Common.{◌≡◌, ◌≤◌, ◌<◌, ◌+◌, ℕ, zero, suc, List, [], ◌∷◌, length, take, ◌∙◌, sym, ap, refl, subst, arith, inl, inr}
use Rattle.std.proofs.lemmas.Bool.{cases_lt}
use Rattle.std.proofs.lemmas.List.{length-append, take_all, take-append-le}
use Rattle.leb_codec.specs.Digits.{Extends}
use Rattle.fixed_width.specs.InitialLengths.{least_reserved}
use Rattle.unit_write.specs.declared.places.Places.{Places}
use Rattle.value_links.specs.World.{World}
use Rattle.rewriter.specs.declared.tables.NewTable.{NewTable}
use Rattle.rewriter.specs.declared.new_places.NewPlaces.{NewPlaces}
use Rattle.rewriter.specs.inside.Placed.{places_at, PlacesFollow, ArePlacesOf}
use Rattle.rewriter.specs.inside.Held.{IsUnitBehind, StandAnew}
use Rattle.rewriter.proofs.Behind.{unit_ends}

follow_first : (places : List Places) (at end : ℕ) → PlacesFollow places at end → 0 < length places → (places_at places 0).start ≡ at
follow_first [] at end same inside = absurd (omega arith)
follow_first (p ∷ places) at end (first, rest) inside = first

follow_next : (places : List Places) (at end u : ℕ) → PlacesFollow places at end → u + 1 < length places → (places_at places (u + 1)).start ≡ (places_at places u).end
follow_next [] at end u same inside = absurd (omega arith)
follow_next (p ∷ places) at end zero (first, rest) inside = follow_first places p.end end rest (omega arith)
follow_next (p ∷ places) at end (suc u) (first, rest) inside =
    let e : suc u + 1 ≡ suc (u + 1) = omega arith in
    subst (λ (z : ℕ). (places_at (p ∷ places) z).start ≡ (places_at places u).end) (sym e) (follow_next places p.end end u rest (omega arith))

follow_last : (places : List Places) (at end u : ℕ) → PlacesFollow places at end → u + 1 ≡ length places → (places_at places u).end ≡ end
follow_last [] at end u same last = absurd (let e : u + 1 ≡ 0 = last in omega arith)
follow_last (p ∷ []) at end zero (first, rest) last = rest
follow_last (p ∷ (q ∷ places)) at end zero (first, rest) last = absurd (let e : 0 + 1 ≡ length (p ∷ (q ∷ places)) = last in omega arith)
follow_last (p ∷ places) at end (suc u) (first, rest) last = follow_last places p.end end u rest (omega arith)

follow_none : (places : List Places) (end : ℕ) → PlacesFollow places 0 end → 0 ≡ length places → PlacesFollow places 0 0
follow_none [] end same none = refl
follow_none (p ∷ places) end follow none = absurd (let e : 0 ≡ length (p ∷ places) = none in omega arith)

module _ (world : World) (tables : List NewTable) (places : List Places) (new_places : NewPlaces) (whole : ℕ) (are : ArePlacesOf world tables places whole) where
  pub stand_none : StandAnew world tables places new_places [] 0
  stand_none = record {
    size = (
      λ below. sym (follow_first places 0 whole are.follow (let count : length places ≡ length world.units = are.count in let b : 0 < length world.units = below in omega arith)),
      λ none. follow_none places whole are.follow (let count : length places ≡ length world.units = are.count in let e : 0 ≡ length world.units = none in omega arith),
    );
    fits = omega arith;
    inside = λ u below. absurd (let b : u < 0 = below in omega arith);
    each = λ u below. absurd (let b : u < 0 = below in omega arith);
  }

  pub stand_more : (old new : List ℕ) (number : ℕ) → number < length world.units → StandAnew world tables places new_places old number → IsUnitBehind world tables places new_places number new → Extends old new → length new ≡ (places_at places number).end → StandAnew world tables places new_places new (number + 1)
  stand_more old new number known stand behind (bytes, more) ends =
      let count : length places ≡ length world.units = are.count in
      let longer : length new ≡ length old + length bytes = ap length more ∙ length-append old bytes in
      record {
        size = (
          λ below. ends ∙ sym (follow_next places 0 whole number are.follow (let b : number + 1 < length world.units = below in omega arith)),
          λ all. subst (PlacesFollow places 0) (sym (ends ∙ follow_last places 0 whole number are.follow (let e : number + 1 ≡ length world.units = all in omega arith))) are.follow,
        );
        fits = let small : (places_at places number).end < least_reserved = unit_ends world tables places whole number are known in omega arith;
        inside = λ u below. elim (cases_lt u number) [
          | inl early ↦ let here : (places_at places u).end ≤ length old = stand.inside u early in omega arith
          | inr late ↦
              let same : number ≡ u = omega arith in
              subst (λ (z : ℕ). (places_at places z).end ≤ length new) same (omega arith)
        ];
        each = λ u below. elim (cases_lt u number) [
          | inl early ↦
              let here : (places_at places u).end ≤ length old = stand.inside u early in
              let front : take (places_at places u).end new ≡ take (places_at places u).end old = ap (take (places_at places u).end) more ∙ take-append-le (places_at places u).end old bytes here in
              subst (IsUnitBehind world tables places new_places u) (sym front) (stand.each u early)
          | inr late ↦
              let same : number ≡ u = omega arith in
              let all : take (places_at places number).end new ≡ new = take_all (places_at places number).end new (omega arith) in
              subst (λ (z : ℕ). IsUnitBehind world tables places new_places z (take (places_at places z).end new)) same (subst (IsUnitBehind world tables places new_places number) (sym all) behind)
        ];
      }
