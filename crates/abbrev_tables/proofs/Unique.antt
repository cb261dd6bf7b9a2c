-- Tables are read in one way.
use Rattle.std.proofs.Common.{◌≡◌, ℕ, List, [], ◌∷◌, ◌++◌, get_or, ◌∙◌, sym, ap, refl, arith, inl, inr}
use Rattle.std.specs.Prelude.{ℤ, pos, Bool, true, false}
use Rattle.std.proofs.lemmas.List.{append_assoc}
use Rattle.spelled.specs.Spelled.{HasUniqueFronts, EndsApart, Then}
use Rattle.spelled.specs.inside.Spelled.{HasOneEnd}
use Rattle.spelled.proofs.Joins.{then_once, absent_once, until_end_unique, regroup}
use Rattle.leb_codec.specs.Leb.{Uleb}
use Rattle.leb_codec.proofs.Fronts.{unique_u, unique_s}
use Rattle.abbrev_tables.specs.declared.decl.Spec.{Spec}
use Rattle.abbrev_tables.specs.Tables.{SpellsName, SpellsConstant, SpellsColumn, IsColumnsEnd, SpellsColumns, SpellsChildren, Declared, SpellsDeclared, IsTableEnd, SpellsTable}

pub name_once : HasUniqueFronts SpellsName
name_once v w a b x y p q h = unique_u v w a b x y p.0 q.0 h

constant_once : (form : ℕ) → HasUniqueFronts (SpellsConstant form)
constant_once form v w a b x y (inl p) (inl q) h = unique_s v w a b x y p.1 q.1 h
constant_once form v w a b x y (inl p) (inr q) h = absurd (q.0 p.0)
constant_once form v w a b x y (inr p) (inl q) h = absurd (p.0 q.0)
constant_once form v w a b x y (inr p) (inr q) h = absent_once (pos 0) v w a b x y p.1 q.1 h

one_not_zero : (x y : List ℕ) → (1 ∷ []) ++ x ≡ (0 ∷ []) ++ y → ⊥
one_not_zero x y h =
    let e : get_or ((1 ∷ []) ++ x) 0 0 ≡ get_or ((0 ∷ []) ++ y) 0 0 = ap (λ (l : List ℕ). get_or l 0 0) h in
    omega arith

pub children_once : HasUniqueFronts SpellsChildren
children_once true true a b x y p q h = (p ∙ sym q, refl)
children_once false false a b x y p q h = (p ∙ sym q, refl)
children_once true false a b x y p q h = absurd (one_not_zero x y (ap (λ z. z ++ x) (sym p) ∙ h ∙ ap (λ z. z ++ y) q))
children_once false true a b x y p q h = absurd (one_not_zero y x (sym (ap (λ z. z ++ x) (sym p) ∙ h ∙ ap (λ z. z ++ y) q)))

-- the first parts of two things are one
first_same : {V W X : Type 0} (S : V → List ℕ → Type 0) (T : V → W → List ℕ → Type 0) (R : V → X → List ℕ → Type 0) → HasUniqueFronts S → (v : V × W) (w : V × X) (a b x y : List ℕ) → Then S T v a → Then S R w b → a ++ x ≡ b ++ y → v.0 ≡ w.0
first_same S T R u v w a b x y (p, c, s, j, e) (q, d, t, k, f) h =
    (u v.0 w.0 p q (c ++ x) (d ++ y) s t (regroup p c x q d y (sym (ap (λ z. z ++ x) e) ∙ h ∙ ap (λ z. z ++ y) f))).1

abbrev column_of : ℕ × (ℕ × ℤ) → Spec
column_of p = record { name = p.0; form = p.1.0; constant = p.1.1 }

pub column_once : HasUniqueFronts SpellsColumn
column_once v w a b x y p q h =
    let one = then_once SpellsName (λ _. Then Uleb SpellsConstant) name_once (λ _. then_once Uleb SpellsConstant unique_u constant_once) (v.name, (v.form, v.constant)) (w.name, (w.form, w.constant)) a b x y p.parts q.parts h in
    (one.0, ap column_of one.1)

columns_end_once : HasOneEnd IsColumnsEnd
columns_end_once a b x y p q h = (then_once SpellsName (λ _. Uleb) name_once (λ _. unique_u) (0, 0) (0, 0) a b x y p q h).0

pub columns_apart : EndsApart SpellsColumn IsColumnsEnd
columns_apart v a b x y p q h = p.named (first_same SpellsName (λ _. Then Uleb SpellsConstant) (λ _. Uleb) name_once (v.name, (v.form, v.constant)) (0, 0) a b x y p.parts q h)

pub columns_once : HasUniqueFronts SpellsColumns
columns_once = until_end_unique SpellsColumn IsColumnsEnd column_once columns_end_once columns_apart

abbrev declared_of : ℕ × (ℕ × (Bool × List Spec)) → Declared
declared_of p = record { code = p.0; tag = p.1.0; children = p.1.1.0; columns = p.1.1.1 }

pub declared_once : HasUniqueFronts SpellsDeclared
declared_once v w a b x y p q h =
    let one = then_once Uleb (λ _. Then SpellsName (λ _. Then SpellsChildren (λ _. SpellsColumns))) unique_u (λ _. then_once SpellsName (λ _. Then SpellsChildren (λ _. SpellsColumns)) name_once (λ _. then_once SpellsChildren (λ _. SpellsColumns) children_once (λ _. columns_once))) (v.code, (v.tag, (v.children, v.columns))) (w.code, (w.tag, (w.children, w.columns))) a b x y p.parts q.parts h in
    (one.0, ap declared_of one.1)

table_end_once : HasOneEnd IsTableEnd
table_end_once a b x y p q h = (unique_u 0 0 a b x y p q h).0

pub table_apart : EndsApart SpellsDeclared IsTableEnd
table_apart v a b x y p q h = let r = p.parts in p.coded (unique_u v.code 0 r.0 b (r.1 ++ x) y r.2 q (sym (append_assoc r.0 r.1 x) ∙ ap (λ z. z ++ x) (sym r.4) ∙ h)).1

pub table_once : HasUniqueFronts SpellsTable
table_once v w a b x y p q h = until_end_unique SpellsDeclared IsTableEnd declared_once table_end_once table_apart v w a b x y p.spelled q.spelled h
