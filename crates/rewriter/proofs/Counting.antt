-- Numbers that are appended one by one, and entry by entry.
use Rattle.std.proofs.Common.{◌≡◌, ◌≤◌, ◌<◌, ◌+◌, ◌^◌, ℕ, List, [], ◌∷◌, ◌++◌, length, slice_index, ◌∙◌, sym, refl, subst, arith, inl, inr}
use Rattle.std.proofs.lemmas.Bool.{cases_lt}
use Rattle.std.proofs.lemmas.List.{length-append}
use Rattle.std.proofs.Math.ListN.{get_or-append}
use Rattle.std.proofs.Math.Seq.{get_or-append_seam}
use Rattle.entry_arena.specs.declared.entry.Entry.{Entry}
use Rattle.entry_read.specs.Units.{HeadAndForest}
use Rattle.unit_write.specs.declared.places.Places.{Places}
use Rattle.value_links.specs.World.{World}
use Rattle.rewriter.specs.declared.new_places.NewPlaces.{NewPlaces}
use Rattle.rewriter.specs.inside.Placed.{unit_in}
use Rattle.rewriter.specs.inside.Held.{IsNumberOf, entry_in, name_in, value_in, AreNumbersUpTo, AreNumbersOf, HaveAllValues, UnitMeans, AreNumberedUpTo}

module _ (world : World) (own : HeadAndForest) (places : List Places) (new_places : NewPlaces) (u : ℕ) where
  pub numbers_none : (id : ℕ) (old : List ℕ) → AreNumbersUpTo world own places new_places u id old old 0
  numbers_none id old = record {
    size = omega arith;
    front = λ k inside. refl;
    fit = λ k past inside. absurd (let a : length old ≤ k = past in let b : k < length old = inside in omega arith);
    each = λ column below. absurd (let b : column < 0 = below in omega arith);
  }

  pub numbers_more : (id : ℕ) (old now : List ℕ) (count number : ℕ) → AreNumbersUpTo world own places new_places u id old now count → number < 2 ^ 32 → IsNumberOf world places new_places u id (name_in world u id count) (value_in world own u id count) number → AreNumbersUpTo world own places new_places u id old (now ++ number ∷ []) (count + 1)
  numbers_more id old now count number up fits is =
      let size : length now ≡ length old + count = up.size in
      let longer : length (now ++ number ∷ []) ≡ length now + 1 = length-append now (number ∷ []) in
      let here : slice_index (now ++ number ∷ []) (length now) ≡ number = get_or-append_seam now number [] 0 in
      record {
        size = omega arith;
        front = λ k inside. get_or-append now (number ∷ []) 0 k (omega arith) ∙ up.front k inside;
        fit = λ k past inside. elim (cases_lt k (length now)) [
          | inl early ↦ subst (λ (z : ℕ). z < 2 ^ 32) (sym (get_or-append now (number ∷ []) 0 k early)) (up.fit k past early)
          | inr late ↦
              let same : length now ≡ k = omega arith in
              subst (λ (z : ℕ). slice_index (now ++ number ∷ []) z < 2 ^ 32) same (subst (λ (z : ℕ). z < 2 ^ 32) (sym here) fits)
        ];
        each = λ column below. elim (cases_lt column count) [
          | inl early ↦ subst (IsNumberOf world places new_places u id (name_in world u id column) (value_in world own u id column)) (sym (get_or-append now (number ∷ []) 0 (length old + column) (omega arith))) (up.each column early)
          | inr late ↦
              let same : count ≡ column = omega arith in
              let at : length now ≡ length old + count = size in
              let last : slice_index (now ++ number ∷ []) (length old + count) ≡ number = subst (λ (z : ℕ). slice_index (now ++ number ∷ []) z ≡ number) at here in
              subst (λ (z : ℕ). IsNumberOf world places new_places u id (name_in world u id z) (value_in world own u id z) (slice_index (now ++ number ∷ []) (length old + z))) same (subst (IsNumberOf world places new_places u id (name_in world u id count) (value_in world own u id count)) (sym last) is)
        ];
      }

  -- the entries that were read have all values
  read_values : UnitMeans world own u → HaveAllValues (record { section = own.forest.section; entries = (unit_in world.units u).forest.entries; values = own.forest.values; ends = own.forest.ends })
  read_values unit = subst (λ (es : List Entry). HaveAllValues (record { section = own.forest.section; entries = es; values = own.forest.values; ends = own.forest.ends })) unit.same unit.values

  pub numbered_none : UnitMeans world own u → AreNumberedUpTo world own places new_places u [] 0
  numbered_none unit = record {
    size = (λ below. sym (read_values unit).first, λ same. absurd (let e : 0 ≡ length (unit_in world.units u).forest.entries = same in let some : 0 < length (unit_in world.units u).forest.entries = (read_values unit).some in omega arith));
    fit = λ k inside. absurd (let b : k < 0 = inside in omega arith);
    inside = λ id below. absurd (let b : id < 0 = below in omega arith);
    each = λ id column below here. absurd (let b : id < 0 = below in omega arith);
  }

  pub numbered_more : (id : ℕ) (held new : List ℕ) → UnitMeans world own u → id < length (unit_in world.units u).forest.entries → AreNumberedUpTo world own places new_places u held id → AreNumbersOf world own places new_places u id held new → AreNumberedUpTo world own places new_places u new (id + 1)
  numbered_more id held new unit known up of =
      let size : length new ≡ length held + (entry_in world u id).count = of.size in
      let begins : length held ≡ (entry_in world u id).first = up.size.0 known in
      record {
        size = (
          λ below. let next : (entry_in world u (id + 1)).first ≡ (entry_in world u id).first + (entry_in world u id).count = (read_values unit).adjacent id below in omega arith,
          λ same. let all : (entry_in world u id).first + (entry_in world u id).count ≡ length own.forest.values = (read_values unit).last id same in omega arith,
        );
        fit = λ k inside. elim (cases_lt k (length held)) [
          | inl early ↦ subst (λ (z : ℕ). z < 2 ^ 32) (sym (of.front k early)) (up.fit k early)
          | inr late ↦ of.fit k late inside
        ];
        inside = λ other below. elim (cases_lt other id) [
          | inl early ↦ let earlier : (entry_in world u other).first + (entry_in world u other).count ≤ length held = up.inside other early in omega arith
          | inr late ↦
              let same : id ≡ other = omega arith in
              subst (λ (z : ℕ). (entry_in world u z).first + (entry_in world u z).count ≤ length new) same (omega arith)
        ];
        each = λ other column below inside. elim (cases_lt other id) [
          | inl early ↦
              let earlier : (entry_in world u other).first + (entry_in world u other).count ≤ length held = up.inside other early in
              let within : column < (entry_in world u other).count = inside in
              subst (IsNumberOf world places new_places u other (name_in world u other column) (value_in world own u other column)) (sym (of.front ((entry_in world u other).first + column) (omega arith))) (up.each other column early inside)
          | inr late ↦
              let same : id ≡ other = omega arith in
              let of_id : (j : ℕ) → j < (entry_in world u id).count → IsNumberOf world places new_places u id (name_in world u id j) (value_in world own u id j) (slice_index new ((entry_in world u id).first + j)) = λ j below_j. subst (λ (z : ℕ). IsNumberOf world places new_places u id (name_in world u id j) (value_in world own u id j) (slice_index new (z + j))) begins (of.each j below_j) in
              subst (λ (z : ℕ). (j : ℕ) → j < (entry_in world u z).count → IsNumberOf world places new_places u z (name_in world u z j) (value_in world own u z j) (slice_index new ((entry_in world u z).first + j))) same of_id column inside
        ];
      }
