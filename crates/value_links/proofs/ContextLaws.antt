-- The contexts of units, by what is held of them.
use Rattle.std.proofs.Common.{◌≡◌, ◌<◌, ◌+◌, ◌++◌, ◌∙◌, inl, inr, ℕ, zero, suc, List, [], ◌∷◌, length, get_or, sym, ap, subst, arith}
use Rattle.std.specs.Prelude.{Option, Some, None, IfSome, MatchOption}
use Rattle.std.specs.List.{AllZip}
use Rattle.std.proofs.Math.Seq.{get_or-append_seam}
use Rattle.std.proofs.lemmas.Bool.{cases_lt}
use Rattle.std.proofs.lemmas.List.{get_or_append_left}
use Rattle.form_codec.specs.Forms.{Meaning}
use Rattle.abbrev_tables.specs.Listings.{Listing}
use Rattle.entry_read.specs.Units.{HeadAndForest, declarations_of}
use Rattle.list_model.specs.declared.context.Context.{Context}
use Rattle.list_model.specs.declared.tables.AddrTable.{AddrTable}
use Rattle.list_model.specs.Addresses.{IsAddrTable, HasBase}
use Rattle.value_links.specs.declared.units.Units.{Units}
use Rattle.value_links.specs.Attributes.{addr_base}
use Rattle.value_links.specs.Reading.{UnitRead, no_unit, no_context, unit_among}
use Rattle.value_links.specs.Values.{root_of, IsFirstBase}
use Rattle.value_links.specs.Parts.{HoldUnits}
use Rattle.value_links.specs.inside.Checks.{root_attributes, table_held, AreContextsHeld}
use Rattle.value_links.specs.Contexts.{IsTableOf, IsContext}
use Rattle.value_links.specs.Whole.{AreContexts}
use Rattle.value_links.proofs.Bases.{one_base}
use Rattle.value_links.proofs.HeldUnits.{held_count, held_is}
use Rattle.value_links.proofs.TabledUnits.{table_is}

-- THE TABLE

module _ (addr : List ℕ) (attributes : List (ℕ × Meaning)) (base : ℕ) (first : IsFirstBase attributes addr_base base) where
  pub table_found : (found : Option AddrTable) → MatchOption found ((table : AddrTable) → HasBase addr base table → ⊥) (HasBase addr base) → IsTableOf addr attributes found
  table_found (Some table) has = (base, first, has)
  table_found None none = λ table (other, is, has). none table (subst (λ (b : ℕ). HasBase addr b table) (one_base attributes addr_base other base is first) has)

-- a table that is found is one
pub table_stands : (addr : List ℕ) (attributes : List (ℕ × Meaning)) (found : Option AddrTable) → IsTableOf addr attributes found → IfSome found (IsAddrTable addr)
table_stands addr attributes (Some table) (base, first, has) = has.stands
table_stands addr attributes None none = tt

-- WHAT IS HELD

zip_each : {A B : Type 0} (R : A → B → Type 0) (xs : List A) (ys : List B) (d : A) (e : B) → length ys ≡ length xs → ((i : ℕ) → i < length xs → R (get_or xs i d) (get_or ys i e)) → AllZip R xs ys
zip_each R [] [] d e size each = tt
zip_each R [] (y ∷ ys) d e size each = absurd (omega arith)
zip_each R (x ∷ xs) [] d e size each = absurd (omega arith)
zip_each R (x ∷ xs) (y ∷ ys) d e size each = (each 0 (omega arith), zip_each R xs ys d e (omega arith) (λ i inside. each (suc i) (omega arith)))

pub zip_at : {A B : Type 0} (R : A → B → Type 0) (xs : List A) (ys : List B) (i : ℕ) (d : A) (e : B) → AllZip R xs ys → i < length xs → R (get_or xs i d) (get_or ys i e)
zip_at R [] ys i d e all inside = absurd (omega arith)
zip_at R (x ∷ xs) [] i d e all inside = absurd all
zip_at R (x ∷ xs) (y ∷ ys) zero d e all inside = all.0
zip_at R (x ∷ xs) (y ∷ ys) (suc i) d e all inside = zip_at R xs ys i d e all.1 (omega arith)

-- the contexts by what is held are those by what was read
pub contexts_read : (addr : List ℕ) (read : List UnitRead) (held : Units) (contexts : List Context) → HoldUnits read held → AreContextsHeld addr held contexts → AreContexts addr read contexts
contexts_read addr read held contexts holds are =
    let counted : length held.units.items ≡ length read = held_count read held.units.items holds.units in
    zip_each (λ (unit : UnitRead) (context : Context). IsContext addr (root_of unit).attributes context) read contexts no_unit no_context (are.count ∙ counted) context_read
  where
    context_read : (u : ℕ) → u < length read → IsContext addr (root_of (unit_among read u)).attributes (get_or contexts u no_context)
    context_read u known =
        let counted : length held.units.items ≡ length read = held_count read held.units.items holds.units in
        let here = are.each u (subst (λ (n : ℕ). u < n) (sym counted) known) in
        subst (λ (z : Listing). IsContext addr (root_attributes (unit_among read u).forest (declarations_of z)) (get_or contexts u no_context)) (table_is read held u holds known)
        (subst (λ (z : HeadAndForest). IsContext addr (root_attributes z.forest (declarations_of (table_held held u))) (get_or contexts u no_context)) (held_is read held.units.items holds.units u known) here)

-- one more of what is held of each unit
pub one_more : {X : Type 0} (P : ℕ → X → Type 0) (d : X) (xs : List X) (x : X) (n : ℕ) → length xs ≡ n → ((u : ℕ) → u < n → P u (get_or xs u d)) → P n x → (u : ℕ) → u < n + 1 → P u (get_or (xs ++ x ∷ []) u d)
one_more P d xs x n size each new u inside = elim (cases_lt u n) [
  | inl before ↦ subst (P u) (sym (get_or_append_left xs (x ∷ []) d u (omega arith))) (each u before)
  | inr here ↦
      let same : length xs ≡ u = omega arith in
      let there : get_or (xs ++ x ∷ []) u d ≡ x = ap (λ (i : ℕ). get_or (xs ++ x ∷ []) i d) (sym same) ∙ get_or-append_seam xs x [] d in
      subst (λ (i : ℕ). P i (get_or (xs ++ x ∷ []) u d)) (sym size ∙ same) (subst (P n) (sym there) new)
]
