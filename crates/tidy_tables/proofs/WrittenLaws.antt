-- Which written table stands for each old one.
use Rattle.std.proofs.Common.{◌≡◌, ◌≢◌, ◌≤◌, ◌<◌, ◌+◌, inl, inr, ℕ, List, length, set, sym, ap, ◌∙◌, ◌⊎◌, refl, subst, arith}
use Rattle.std.specs.Prelude.{slice_index}
use Rattle.std.proofs.lemmas.Bool.{cases_eq}
use Rattle.std.proofs.lemmas.List.{get_or-set_same, get_or-set_other, length-set}
use Rattle.tidy_tables.specs.inside.WrittenTables.{IsWrittenAs, IsUnnamed, AreWrittenAmong, AreWrittenAs}

-- at first no table is named
pub none_written : (old_of new_of written : List ℕ) → ((k : ℕ) → k < length written → slice_index written k ≡ 4294967295) → AreWrittenAmong old_of new_of 0 written
none_written old_of new_of written all number below = inl ((λ u less. absurd (omega arith)), all number below)

-- What is known of a table with a number among the first units, and whether the next unit has this table.
abbrev Known : List ℕ → List ℕ → ℕ → ℕ → ℕ → Type 0
Known old_of new_of units number told = (IsUnnamed old_of units number × (told ≡ 4294967295)) ⊎ IsWrittenAs old_of new_of units number told

-- the next unit has another table
still : (old_of new_of : List ℕ) (units number told : ℕ) → slice_index old_of units ≢ number → Known old_of new_of units number told → Known old_of new_of (units + 1) number told
still old_of new_of units number told other (inl (unnamed, is)) = inl (
  (λ u less. elim (cases_eq u units) [
    | inl last ↦ λ same. other (ap (λ (z : ℕ). slice_index old_of z) (sym last) ∙ same)
    | inr before ↦ unnamed u (let o : u ≢ units = before in omega arith)
  ]),
  is,
)
still old_of new_of units number told other (inr written) = inr (record {
  u = written.u;
  namer = record {
    known = omega (arith, written.namer.known);
    names = written.namer.names;
    least = λ v less names. elim (cases_eq v units) [
      | inl last ↦ absurd (other (ap (λ (z : ℕ). slice_index old_of z) (sym last) ∙ names))
      | inr before ↦ written.namer.least v (let o : v ≢ units = before in omega arith) names
    ];
  };
  is = written.is;
})

-- the next unit has this table and a written one with a lower number
module _ (old_of new_of : List ℕ) (units number told : ℕ) (names : slice_index old_of units ≡ number) (known : Known old_of new_of units number told) where
  pub lowered : slice_index new_of units < told → Known old_of new_of (units + 1) number (slice_index new_of units)
  lowered less = inr (record {
    u = units;
    namer = record { known = omega arith; names = names; least = λ v below there. at_least v below there (cases_eq v units) known };
    is = refl;
  })
    where
      at_least : (v : ℕ) → v < units + 1 → slice_index old_of v ≡ number → (v ≡ units) ⊎ (v ≢ units) → Known old_of new_of units number told → slice_index new_of units ≤ slice_index new_of v
      at_least v below there (inl last) k = let same : slice_index new_of v ≡ slice_index new_of units = ap (λ (z : ℕ). slice_index new_of z) last in omega arith
      at_least v below there (inr before) (inl (unnamed, is)) = absurd (unnamed v (let o : v ≢ units = before in omega arith) there)
      at_least v below there (inr before) (inr written) =
          let least : slice_index new_of written.u ≤ slice_index new_of v = written.namer.least v (let o : v ≢ units = before in omega arith) there in
          let is : told ≡ slice_index new_of written.u = written.is in
          omega arith

  -- or one with as high a number or a higher one
  pub kept : told ≤ slice_index new_of units → slice_index new_of units ≤ 4294967295 → Known old_of new_of (units + 1) number told
  kept as_low few = of_known known
    where
      of_known : Known old_of new_of units number told → Known old_of new_of (units + 1) number told
      of_known (inl (unnamed, is)) = inr (record {
        u = units;
        namer = record {
          known = omega arith;
          names = names;
          least = λ v below there. elim (cases_eq v units) [
            | inl last ↦ (let same : slice_index new_of v ≡ slice_index new_of units = ap (λ (z : ℕ). slice_index new_of z) last in omega arith)
            | inr before ↦ absurd (unnamed v (let o : v ≢ units = before in omega arith) there)
          ];
        };
        is = omega arith;
      })
      of_known (inr written) = inr (record {
        u = written.u;
        namer = record {
          known = omega (arith, written.namer.known);
          names = written.namer.names;
          least = λ v below there. elim (cases_eq v units) [
            | inl last ↦ (let same : slice_index new_of v ≡ slice_index new_of units = ap (λ (z : ℕ). slice_index new_of z) last in let is : told ≡ slice_index new_of written.u = written.is in omega arith)
            | inr before ↦ written.namer.least v (let o : v ≢ units = before in omega arith) there
          ];
        };
        is = written.is;
      })

-- one more unit, whose written table takes the place of the one that was due
pub written_lower : (old_of new_of written : List ℕ) (units number told : ℕ) → number ≡ slice_index old_of units → told ≡ slice_index new_of units → number < length written → told < slice_index written number → AreWrittenAmong old_of new_of units written → AreWrittenAmong old_of new_of (units + 1) (set written number told)
written_lower old_of new_of written units number told number_is as_is inside less all k below = elim (cases_eq k number) [
  | inl same ↦
      let here : slice_index (set written number told) k ≡ slice_index new_of units = ap (λ (z : ℕ). slice_index (set written number told) z) same ∙ get_or-set_same written number told 0 inside ∙ as_is in
      let due : Known old_of new_of units k (slice_index written k) = all k (subst (λ (z : ℕ). z < length written) (sym same) inside) in
      let lower : slice_index new_of units < slice_index written k = subst (λ (z : ℕ). z < slice_index written k) as_is (subst (λ (z : ℕ). told < slice_index written z) (sym same) less) in
      subst (Known old_of new_of (units + 1) k) (sym here) (lowered old_of new_of units k (slice_index written k) (sym number_is ∙ sym same) due lower)
  | inr other ↦
      let there : slice_index (set written number told) k ≡ slice_index written k = get_or-set_other written number k told 0 other in
      let size : length (set written number told) ≡ length written = length-set written number told in
      subst (Known old_of new_of (units + 1) k) (sym there) (still old_of new_of units k (slice_index written k) (λ same. other (sym same ∙ sym number_is)) (all k (omega arith)))
]

-- one more unit, whose written table doesn't
pub written_kept : (old_of new_of written : List ℕ) (units number told : ℕ) → number ≡ slice_index old_of units → told ≡ slice_index new_of units → slice_index written number ≤ told → told ≤ 4294967295 → AreWrittenAmong old_of new_of units written → AreWrittenAmong old_of new_of (units + 1) written
written_kept old_of new_of written units number told number_is as_is low few all k below = elim (cases_eq k number) [
  | inl same ↦
      let high : slice_index written k ≤ slice_index new_of units = subst (λ (z : ℕ). slice_index written k ≤ z) as_is (subst (λ (z : ℕ). slice_index written z ≤ told) (sym same) low) in
      kept old_of new_of units k (slice_index written k) (sym number_is ∙ sym same) (all k below) high (omega (arith, few, as_is))
  | inr other ↦ still old_of new_of units k (slice_index written k) (λ same. other (sym same ∙ sym number_is)) (all k below)
]

-- all units, of which one has each table
pub written_all : (old_of new_of written : List ℕ) (count : ℕ) → length written ≡ count → ((number : ℕ) → number < count → (u : ℕ) × (u < length old_of) × (slice_index old_of u ≡ number)) → AreWrittenAmong old_of new_of (length old_of) written → AreWrittenAs old_of new_of count written
written_all old_of new_of written count size named all = record {
  size = size;
  each = λ number below. due number below (all number (omega arith));
}
  where
    due : (number : ℕ) → number < count → Known old_of new_of (length old_of) number (slice_index written number) → IsWrittenAs old_of new_of (length old_of) number (slice_index written number)
    due number below (inl (unnamed, is)) = let (u, inside, names) = named number below in absurd (unnamed u inside names)
    due number below (inr written) = written
