-- For each table the units that have it, as they are listed unit by unit.
use Rattle.std.proofs.Common.{◌≡◌, ◌≢◌, ◌<◌, ◌+◌, ◌∙◌, inl, inr, ℕ, suc, List, [], ◌∷◌, ◌++◌, length, map, get_or, set, eqb, sym, ap, subst, arith}
use Rattle.std.proofs.lemmas.Bool.{cases_eq, cases_lt, cond-true, cond-false, eq-eqb, ne_eqb}
use Rattle.std.proofs.lemmas.List.{get_or-map, get_or-set_same, get_or-set_other, get_or_append_left, length-map, length-set, length_push, map-append}
use Rattle.std.proofs.Math.Seq.{get_or-append_seam}
use Rattle.tidy_tables.specs.declared.table_namers.Namers.{Namers}
use Rattle.tidy_tables.specs.inside.TableNamers.{units_with, namers_in, AreNamers}

abbrev numbers_of : Namers → List ℕ
numbers_of namers = namers.units.items

-- NO UNITS

namers_before : (all : List Namers) (new : Namers) (i : ℕ) → i < length all → namers_in (all ++ new ∷ []) i ≡ namers_in all i
namers_before all new i inside =
    ap (λ (zs : List (List ℕ)). get_or zs i []) (map-append numbers_of all (new ∷ []))
    ∙ get_or_append_left (map numbers_of all) (numbers_of new ∷ []) [] i (omega (arith, inside, length-map all numbers_of))

namers_last : (all : List Namers) (new : Namers) (i : ℕ) → i ≡ length all → namers_in (all ++ new ∷ []) i ≡ new.units.items
namers_last all new i last =
    ap (λ (zs : List (List ℕ)). get_or zs i []) (map-append numbers_of all (new ∷ []))
    ∙ ap (λ (n : ℕ). get_or (map numbers_of all ++ numbers_of new ∷ []) n []) (last ∙ sym (length-map all numbers_of))
    ∙ get_or-append_seam (map numbers_of all) (numbers_of new) [] []

-- one table more that no unit has
pub none_more : (tables : ℕ) (all : List Namers) (new : Namers) → new.units.items ≡ [] → AreNamers [] tables 0 all → AreNamers [] (tables + 1) 0 (all ++ new ∷ [])
none_more tables all new none now = record {
  count = omega (arith, length_push all new, now.count);
  each = λ i below. elim (cases_lt i tables) [
    | inl before ↦ namers_before all new i (omega (arith, before, now.count)) ∙ now.each i before
    | inr last ↦ namers_last all new i (omega (arith, last, below, now.count)) ∙ none
  ];
}

-- ONE UNIT MORE

module _ (table_of : List ℕ) (tables u : ℕ) (all : List Namers) (now : AreNamers table_of tables u all) (i : ℕ) (i_is : get_or table_of u 0 ≡ i) (inside : i < tables) (old : Namers) (old_is : old ≡ get_or all i old) (new : Namers) (pushed : new.units.items ≡ old.units.items ++ u ∷ []) where
  all_length : length (set all i new) ≡ tables
  all_length = length-set all i new ∙ now.count

  old_there : namers_in all i ≡ old.units.items
  old_there = get_or-map numbers_of all i old [] (omega (arith, now.count, inside)) ∙ ap numbers_of (sym old_is)

  new_there : namers_in (set all i new) i ≡ new.units.items
  new_there = get_or-map numbers_of (set all i new) i new [] (omega (arith, all_length, inside)) ∙ ap numbers_of (get_or-set_same all i new new (omega (arith, now.count, inside)))

  others_there : (j : ℕ) → j < tables → j ≢ i → namers_in (set all i new) j ≡ namers_in all j
  others_there j below other =
      get_or-map numbers_of (set all i new) j new [] (omega (arith, all_length, below))
      ∙ ap numbers_of (get_or-set_other all i j new new other)
      ∙ sym (get_or-map numbers_of all j new [] (omega (arith, now.count, below)))

  -- the table of the unit has it behind those that it had
  listed_here : namers_in (set all i new) i ≡ units_with table_of i (suc u)
  listed_here =
      new_there ∙ pushed ∙ ap (λ (ns : List ℕ). ns ++ u ∷ []) (sym old_there ∙ now.each i inside)
      ∙ sym (cond-true {A = List ℕ} (eqb (get_or table_of u 0) i) (units_with table_of i u ++ u ∷ []) (units_with table_of i u) (eq-eqb (get_or table_of u 0) i i_is))

  -- and all others have those that they had
  listed_there : (j : ℕ) → j < tables → j ≢ i → namers_in (set all i new) j ≡ units_with table_of j (suc u)
  listed_there j below other =
      let apart : get_or table_of u 0 ≢ j = λ same. other (sym same ∙ i_is) in
      others_there j below other ∙ now.each j below
      ∙ sym (cond-false {A = List ℕ} (eqb (get_or table_of u 0) j) (units_with table_of j u ++ u ∷ []) (units_with table_of j u) (ne_eqb (get_or table_of u 0) j apart))

  pub namers_more : AreNamers table_of tables (u + 1) (set all i new)
  namers_more =
      let next : suc u ≡ u + 1 = omega arith in
      subst (λ (n : ℕ). AreNamers table_of tables n (set all i new)) next (record {
        count = all_length;
        each = λ j below. elim (cases_eq j i) [
          | inl same ↦ subst (λ (z : ℕ). namers_in (set all i new) z ≡ units_with table_of z (suc u)) (sym same) listed_here
          | inr other ↦ listed_there j below other
        ];
      })
