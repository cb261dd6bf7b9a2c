-- A table that is written is one that is read.
use Rattle.std.proofs.Common.{◌≡◌, ◌≢◌, ℕ, suc, List, [], ◌∷◌, sym, refl, subst, arith, inl, inr}
use Rattle.std.specs.Prelude.{ℤ, pos, ◌⊎◌, FitsSigned}
use Rattle.std.specs.Int.{w64}
use Rattle.std.specs.List.{All}
use Rattle.spelled.specs.Spelled.{Joined}
use Rattle.leb_codec.specs.Leb.{Uleb}
use Rattle.leb_codec.proofs.SpellingLaws.{leb_one}
use Rattle.form_codec.proofs.Codes.{code_range}
use Rattle.abbrev_tables.specs.declared.decl.Spec.{Spec}
use Rattle.abbrev_tables.specs.Tables.{implicit_const, SpellsConstant, SpellsColumn, IsColumnsEnd, SpellsColumns, Declared, SpellsDeclared, IsTableEnd, codes_of, AreDistinct, SpellsTable}
use Rattle.abbrev_tables.specs.Written.{ShortestConstant, ShortestColumn, ShortestColumns, ShortestDeclared, ShortestTable, IsWritableColumn, IsWritable}

-- joined things of one relation are joined things of another
joined_as : {V : Type 0} (S T : V → List ℕ → Type 0) (P : V → Type 0) → ((v : V) (bytes : List ℕ) → P v → S v bytes → T v bytes) → (vs : List V) (bytes : List ℕ) → All P vs → Joined S vs bytes → Joined T vs bytes
joined_as {V} S T P f [] bytes a j = j
joined_as {V} S T P f (v ∷ vs) bytes a (first, rest, s, j, e) = (first, rest, f v first (a 0 v (omega arith)) s, joined_as S T P f vs rest (λ k d lt. a (suc k) d (omega arith)) j, e)

-- one byte 0 spells 0
zero_byte : Uleb 0 (0 ∷ [])
zero_byte = ((leb_one 0 (omega arith), refl), omega arith)

constant_spelled : (form : ℕ) (constant : ℤ) (bytes : List ℕ) → ((form ≡ implicit_const) × FitsSigned w64 constant) ⊎ ((form ≢ implicit_const) × (constant ≡ pos 0)) → ShortestConstant form constant bytes → SpellsConstant form constant bytes
constant_spelled form constant bytes (inl fits) (inl s) = inl (s.0, (s.1.0, fits.1))
constant_spelled form constant bytes (inl fits) (inr s) = absurd (s.0 fits.0)
constant_spelled form constant bytes (inr none) (inl s) = absurd (none.0 s.0)
constant_spelled form constant bytes (inr none) (inr s) = inr (s.0, (s.1, none.1))

column_spelled : (column : Spec) (bytes : List ℕ) → IsWritableColumn column → ShortestColumn column bytes → SpellsColumn column bytes
column_spelled column bytes w (name, more, s, (form, constant, t, u, e), h) = record {
  named = w.named;
  known = w.known;
  parts = (name, more, ((s.0, (omega (arith, w.narrow))), w.narrow), (form, constant, (t.0, omega (arith, (code_range column.form w.known).1)), constant_spelled column.form column.constant constant w.constant u, e), h);
}

columns_end : (bytes : List ℕ) → bytes ≡ 0 ∷ 0 ∷ [] → IsColumnsEnd bytes
columns_end bytes e = (0 ∷ [], 0 ∷ [], (zero_byte, omega arith), zero_byte, e)

columns_spelled : (columns : List Spec) (bytes : List ℕ) → All IsWritableColumn columns → ShortestColumns columns bytes → SpellsColumns columns bytes
columns_spelled columns bytes a (front, end, j, e, h) = (front, end, joined_as ShortestColumn SpellsColumn IsWritableColumn column_spelled columns front a j, columns_end end e, h)

declared_spelled : (d : Declared) (bytes : List ℕ) → IsWritable d → ShortestDeclared d bytes → SpellsDeclared d bytes
declared_spelled d bytes w (code, more, s, (tag, rest, t, (children, columns, u, v, i), h), e) = record {
  coded = w.coded;
  parts = (code, more, (s.0, w.fits), (tag, rest, ((t.0, omega (arith, w.narrow)), w.narrow), (children, columns, u, columns_spelled d.columns columns w.columns v, i), h), e);
}

table_end : (bytes : List ℕ) → bytes ≡ 0 ∷ [] → IsTableEnd bytes
table_end bytes e = subst (λ (b : List ℕ). Uleb 0 b) (sym e) zero_byte

pub table_spelled : (ds : List Declared) (bytes : List ℕ) → All IsWritable ds → AreDistinct (codes_of ds) → ShortestTable ds bytes → SpellsTable ds bytes
table_spelled ds bytes a distinct (front, end, j, e, h) = record {
  spelled = (front, end, joined_as ShortestDeclared SpellsDeclared IsWritable declared_spelled ds front a j, table_end end e, h);
  distinct = distinct;
}
