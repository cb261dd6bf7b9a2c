-- A column in its least form can be written.
use Rattle.std.proofs.Common.{◌≡◌, ◌≤◌, ◌<◌, ◌+◌, ◌-◌, ◌^◌, inl, inr, ◌∙◌, ℕ, suc, List, [], ◌∷◌, length, sym, subst, arith}
use Rattle.std.specs.Prelude.{ℤ, FitsSigned}
use Rattle.std.specs.Int.{w64}
use Rattle.std.proofs.lemmas.Bool.{cases_eq, cases_lt}
use Rattle.dw_base.specs.declared.classes.Classes.{Classes}
use Rattle.form_codec.specs.declared.form.Form.{Form}
use Rattle.form_codec.specs.declared.form.Form.TheVariants as form
use Rattle.form_codec.specs.Forms.{Meaning, SpellsShape, code_of, shape_of}
use Rattle.form_codec.specs.Columns.{EntriesWithin}
use Rattle.abbrev_tables.specs.declared.decl.Decl.{Decl}
use Rattle.abbrev_tables.specs.declared.decl.Spec.{Spec}
use Rattle.abbrev_tables.specs.Tables.{implicit_const}
use Rattle.abbrev_tables.specs.Listings.{decl_at, AreAdjacent}
use Rattle.abbrev_tables.specs.Written.{IsWritableColumn}
use Rattle.column_forms.specs.Columns.{IsChosen}

-- the constant of implicit_const fits where it is a value
constant_shape : (f : Form) (name : ℕ) (c : ℤ) (m : Meaning) (bytes : List ℕ) → code_of f ≡ implicit_const → SpellsShape (shape_of f name c) m bytes → FitsSigned w64 c
constant_shape form.ImplicitConst name c m bytes is p = p.1
constant_shape f name c m bytes is p = absurd (omega arith)

constant_fits : (name code : ℕ) (c : ℤ) (meanings : List Meaning) (n : ℕ) → code ≡ implicit_const → 0 < length meanings → EntriesWithin name code c meanings n → FitsSigned w64 c
constant_fits name code c [] n is some within = absurd (omega arith)
constant_fits name code c (m ∷ ms) n is some (bytes, rest, s, more, sum) = constant_shape s.form name c m bytes (s.known ∙ is) s.spelled

pub chosen_writable : {classes : Classes} → (old new : Spec) (meanings : List Meaning) → IsWritableColumn old → 0 < length meanings → IsChosen classes old meanings new → IsWritableColumn new
chosen_writable old new meanings writable some chosen =
    let within = chosen.least.least.enough in
    record {
      named = λ none. writable.named (sym chosen.least.name ∙ none);
      narrow = subst (λ (n : ℕ). n < 2 ^ 32) (sym chosen.least.name) writable.narrow;
      known = (within.choice.0, within.choice.1);
      constant = elim (cases_eq new.form implicit_const) [
        | inl is ↦ inl (is, constant_fits old.name new.form new.constant meanings within.entries is some within.within)
        | inr other ↦ inr (other, chosen.least.unused other)
      ];
    }

-- a column is one of a declaration
pub record HasOwner (decls : List Decl) (k : ℕ) : Type 0 where
  pub number : ℕ
  pub known : number < length decls
  pub j : ℕ
  pub inside : j < (decl_at decls number).count
  pub is : (decl_at decls number).first + j ≡ k

pub owner : (from : ℕ) (decls : List Decl) (to k : ℕ) → AreAdjacent from decls to → from ≤ k → k < to → HasOwner decls k
owner from [] to k a low high = absurd (let same : from ≡ to = a in omega arith)
owner from (d ∷ decls) to k (e, a) low high =
    let first : d.first ≡ from = e in
    elim (cases_lt k (from + d.count)) [
      | inl own ↦
          let (j, sum) : (j : ℕ) × (d.first + j ≡ k) = (k - d.first, omega arith) in
          record { number = 0; known = omega arith; j = j; inside = omega arith; is = sum }
      | inr later ↦
          let rest = owner (from + d.count) decls to k a later high in
          record { number = suc rest.number; known = omega (arith, rest.known); j = rest.j; inside = rest.inside; is = rest.is }
    ]
