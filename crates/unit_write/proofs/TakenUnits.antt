-- Values that are written in place of those that were read.
use Rattle.std.proofs.Common.{◌≡◌, ◌<◌, ◌⊎◌, ℕ, zero, suc, List, [], ◌∷◌, length, take, drop, ◌∙◌, sym, refl, subst, inl, inr, arith}
use Rattle.std.specs.List.{All, AllZip}
use Rattle.std.proofs.lemmas.List.Elements.{AllZip-get_or, All-from_get_or}
use Rattle.std.proofs.lemmas.Slice.Zip.{AllZip-long}
use Rattle.dw_base.specs.declared.fault.Span.{Span}
use Rattle.form_codec.specs.declared.value.Value.{Value}
use Rattle.form_codec.specs.declared.value.Value.TheVariants as value
use Rattle.form_codec.specs.Values.{LiesIn, IsValueIn}
use Rattle.abbrev_tables.specs.Listings.{Listing}
use Rattle.entry_arena.specs.Arena.{value_at, with_values}
use Rattle.entry_arena.specs.Order.{HaveValues, IsInOrder}
use Rattle.entry_read.specs.declared.head.UnitHead.{UnitHead}
use Rattle.entry_read.specs.Units.{HeadAndForest, declarations_of}
use Rattle.entry_read.proofs.PlaceLaws.{units_lie}
use Rattle.unit_write.specs.Taken.{StandsFor, IsHeldFor}

-- a reference within the unit is written in place of one in the section
abbrev pub IsTakenRef : Value → Value → Type 0
IsTakenRef v w = (n : ℕ) × (m : ℕ) × (v ≡ value.SectionRef n) × (w ≡ value.LocalRef m)

-- and nothing else in place of another value
pub taken_or_same : (head : UnitHead) (v w : Value) → StandsFor head v w → (w ≡ v) ⊎ IsTakenRef v w
taken_or_same head (value.SectionRef n) w (inl e) = inl e
taken_or_same head (value.SectionRef n) w (inr (m, is, inside, e)) = inr (n, m, refl, e)
taken_or_same head v w e = inl e

no_expression : (m : ℕ) (span : Span) → value.LocalRef m ≡ value.Expr span → ⊥
no_expression m span e = cc

-- an expression that is written is the one that was read
pub same_expression : (head : UnitHead) (v w : Value) (span : Span) → StandsFor head v w → w ≡ value.Expr span → v ≡ value.Expr span
same_expression head v w span stands is = elim (taken_or_same head v w stands) [
  | inl same ↦ sym same ∙ is
  | inr (n, m, old, new) ↦ absurd (no_expression m span (sym new ∙ is))
]

-- what is written lies in the section where what was read does
pub taken_lies : (size : ℕ) (head : UnitHead) (v w : Value) → StandsFor head v w → LiesIn size v → LiesIn size w
taken_lies size head v w stands lies = elim (taken_or_same head v w stands) [
  | inl same ↦ subst (LiesIn size) (sym same) lies
  | inr (n, m, old, new) ↦ subst (LiesIn size) (sym new) tt
]

taken_in : (section : List ℕ) (head : UnitHead) (v w : Value) → StandsFor head v w → IsValueIn section v → IsValueIn section w
taken_in section head v w stands here = elim (taken_or_same head v w stands) [
  | inl same ↦ subst (IsValueIn section) (sym same) here
  | inr (n, m, old, new) ↦ subst (IsValueIn section) (sym new) (record { small = here.small; inside = tt; clear = tt })
]

-- LISTS OF THEM

zip_take : {A B : Type 0} (R : A → B → Type 0) (n : ℕ) (xs : List A) (ys : List B) → AllZip R xs ys → AllZip R (take n xs) (take n ys)
zip_take R zero xs ys zip = tt
zip_take R (suc n) [] [] zip = tt
zip_take R (suc n) [] (y ∷ ys) zip = absurd zip
zip_take R (suc n) (x ∷ xs) [] zip = absurd zip
zip_take R (suc n) (x ∷ xs) (y ∷ ys) zip = (zip.0, zip_take R n xs ys zip.1)

zip_drop : {A B : Type 0} (R : A → B → Type 0) (n : ℕ) (xs : List A) (ys : List B) → AllZip R xs ys → AllZip R (drop n xs) (drop n ys)
zip_drop R zero xs ys zip = zip
zip_drop R (suc n) [] [] zip = tt
zip_drop R (suc n) [] (y ∷ ys) zip = absurd zip
zip_drop R (suc n) (x ∷ xs) [] zip = absurd zip
zip_drop R (suc n) (x ∷ xs) (y ∷ ys) zip = zip_drop R n xs ys zip.1

-- so it is for a part of two lists
pub zip_part : {A B : Type 0} (R : A → B → Type 0) (first count : ℕ) (xs : List A) (ys : List B) → AllZip R xs ys → AllZip R (take count (drop first xs)) (take count (drop first ys))
zip_part R first count xs ys zip = zip_take R count (drop first xs) (drop first ys) (zip_drop R first xs ys zip)

pub all_taken_in : (section : List ℕ) (head : UnitHead) (vs ws : List Value) → AllZip (StandsFor head) vs ws → All (IsValueIn section) vs → All (IsValueIn section) ws
all_taken_in section head [] [] zip all = all
all_taken_in section head [] (w ∷ ws) zip all = absurd zip
all_taken_in section head (v ∷ vs) [] zip all = absurd zip
all_taken_in section head (v ∷ vs) (w ∷ ws) zip all = at (taken_in section head v w zip.0 (all 0 v (omega arith))) (all_taken_in section head vs ws zip.1 (λ k d lt. all (suc k) d (omega arith)))
  where
    at : IsValueIn section w → All (IsValueIn section) ws → All (IsValueIn section) (w ∷ ws)
    at first rest zero d lt = first
    at first rest (suc k) d lt = rest k d (omega arith)

-- A UNIT THAT IS HELD WITH THEM

module _ (unit : HeadAndForest) (table : Listing) (held : IsHeldFor unit table) where
  -- it has as many values as were read
  pub as_many : length unit.forest.values ≡ length held.values
  as_many = AllZip-long (StandsFor unit.head) held.values unit.forest.values held.taken

  pub taken_at : (k : ℕ) → k < length unit.forest.values → StandsFor unit.head (value_at held.values k) (value_at unit.forest.values k)
  taken_at k lt = AllZip-get_or (StandsFor unit.head) held.values unit.forest.values k (value.Addr 0) (value.Addr 0) held.taken (subst (λ (n : ℕ). k < n) as_many lt)

  order : IsInOrder (with_values unit.forest held.values)
  order = (units_lie unit.forest.section unit.head (declarations_of table) (with_values unit.forest held.values) refl held.held).order

  -- each entry has its own
  pub have_values : HaveValues unit.forest.entries (length unit.forest.values)
  have_values = subst (HaveValues unit.forest.entries) (sym as_many) order.valued

  -- they lie in its section
  pub all_lie : All (LiesIn (length unit.forest.section)) unit.forest.values
  all_lie = All-from_get_or (LiesIn (length unit.forest.section)) unit.forest.values (value.Addr 0) (λ k lt.
      taken_lies (length unit.forest.section) unit.head (value_at held.values k) (value_at unit.forest.values k) (taken_at k lt) (order.spans.inside k (subst (λ (n : ℕ). k < n) as_many lt)))
