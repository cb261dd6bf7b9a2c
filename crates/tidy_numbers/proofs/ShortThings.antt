-- Things that are read, and that stand in their fewest bytes, one after the other up to an end.
use Rattle.std.proofs.Common.{◌≡◌, ◌++◌, ◌∙◌, inl, inr, ℕ, List, [], ◌∷◌, sym, ap, subst, refl, arith}
use Rattle.std.proofs.lemmas.List.{append_assoc, append_cancel_left}
use Rattle.spelled.specs.Spelled.{HasUniqueFronts, EndsApart, Joined, UntilEnd, Then}
use Rattle.spelled.proofs.Joins.{regroup}
use Rattle.leb_codec.specs.Leb.{Uleb, ShortestUnsigned}
use Rattle.leb_codec.proofs.SpellingLaws.{leb_one}
use Rattle.abbrev_tables.specs.Tables.{SpellsName, SpellsConstant, SpellsColumn, IsColumnsEnd, SpellsColumns, SpellsChildren, SpellsDeclared, IsTableEnd}
use Rattle.abbrev_tables.specs.Written.{ShortestConstant, ShortestColumn, ShortestColumns, ShortestDeclared}
use Rattle.tidy_numbers.specs.Fronts.{BehindSome}

-- bytes that are a thing in the second way are one in the first, if some are
abbrev pub AreAlso : {V : Type 0} → (V → List ℕ → Type 0) → (V → List ℕ → Type 0) → Type 0
AreAlso {V} S T = (v : V) (a b : List ℕ) → S v a → T v b → S v b

-- a thing in both ways
abbrev pub Both : {V : Type 0} → (V → List ℕ → Type 0) → (V → List ℕ → Type 0) → V → List ℕ → Type 0
Both S T v bytes = S v bytes × T v bytes

-- a thing and then a second one
then_also : {V W : Type 0} (S T : V → List ℕ → Type 0) (P Q : V → W → List ℕ → Type 0) → AreAlso S T → ((v : V) → AreAlso (P v) (Q v)) → AreAlso (Then S P) (Then T Q)
then_also S T P Q one two v a b (p, c, s, j, e) (q, d, t, k, f) = (q, d, one v.0 p q s t, two v.0 v.1 c d j k, f)

joined_also : {V : Type 0} (S T : V → List ℕ → Type 0) → AreAlso S T → AreAlso (Joined S) (Joined T)
joined_also S T one [] a b j k = k
joined_also S T one (v ∷ vs) a b (p, c, s, j, e) (q, d, t, k, f) = (q, d, one v p q s t, joined_also S T one vs c d j k, f)

-- what is joined in both ways
joined_both : {V : Type 0} (S T : V → List ℕ → Type 0) → AreAlso S T → (vs : List V) (a b : List ℕ) → Joined S vs a → Joined T vs b → Joined (Both S T) vs b
joined_both S T one [] a b j k = k
joined_both S T one (v ∷ vs) a b (p, c, s, j, e) (q, d, t, k, f) = (q, d, (one v p q s t, t), joined_both S T one vs c d j k, f)

-- things up to an end
until_also : {V : Type 0} (S T : V → List ℕ → Type 0) (E F : List ℕ → Type 0) → AreAlso S T → ((end : List ℕ) → F end → E end) → AreAlso (UntilEnd S E) (UntilEnd T F)
until_also S T E F one ends vs a b (p, c, j, s, e) (q, d, k, t, f) = (q, d, joined_also S T one vs p q j k, ends d t, f)

-- Some things are read from bytes that are things in both ways, and an end. What follows them begins with the things that are left, and the end.
what_is_left : {V : Type 0} (S T : V → List ℕ → Type 0) (E : List ℕ → Type 0) → HasUniqueFronts S → EndsApart S E → (vs ws : List V) (front rest a end x : List ℕ) → Joined S vs front → Joined (Both S T) ws a → E end → front ++ rest ≡ a ++ (end ++ x) → (left : List V) × (b : List ℕ) × Joined (Both S T) left b × (rest ≡ b ++ (end ++ x))
what_is_left S T E once apart [] ws front rest a end x j k e h = (ws, a, k, sym (ap (λ z. z ++ rest) j) ∙ h)
what_is_left S T E once apart (v ∷ vs) [] front rest a end x (p, c, s, j, f) k e h =
    absurd (apart v p end (c ++ rest) x s e (sym (append_assoc p c rest) ∙ ap (λ z. z ++ rest) (sym f) ∙ h ∙ ap (λ z. z ++ (end ++ x)) k))
what_is_left S T E once apart (v ∷ vs) (w ∷ ws) front rest a end x (p, c, s, j, f) (q, d, t, k, g) e h =
    let l : p ++ (c ++ rest) ≡ q ++ (d ++ (end ++ x)) = regroup p c rest q d (end ++ x) (ap (λ z. z ++ rest) (sym f) ∙ h ∙ ap (λ z. z ++ (end ++ x)) g) in
    let one = once v w p q (c ++ rest) (d ++ (end ++ x)) s t.0 l in
    let m : c ++ rest ≡ d ++ (end ++ x) = append_cancel_left q (c ++ rest) (d ++ (end ++ x)) (ap (λ z. z ++ (c ++ rest)) (sym one.0) ∙ l) in
    what_is_left S T E once apart vs ws c rest d end x j k e m

-- where nothing holds of what begins with a thing or with the end, it doesn't behind some things either
module _ {V : Type 0} (S T : V → List ℕ → Type 0) (E F : List ℕ → Type 0) (once : HasUniqueFronts S) (apart : EndsApart S E) (also : AreAlso S T) (ends : (end : List ℕ) → F end → E end) (Holds : ℕ → List ℕ → Type 0) (thing : (v : V) (a x : List ℕ) (at : ℕ) → S v a → T v a → Holds at (a ++ x) → ⊥) (ended : (end x : List ℕ) (at : ℕ) → F end → Holds at (end ++ x) → ⊥) where
  left_short : (left : List V) (b rest end x : List ℕ) (at : ℕ) → Joined (Both S T) left b → F end → rest ≡ b ++ (end ++ x) → Holds at rest → ⊥
  left_short [] b rest end x at j f e holds = ended end x at f (subst (Holds at) (e ∙ ap (λ (z : List ℕ). z ++ (end ++ x)) j) holds)
  left_short (v ∷ vs) b rest end x at (p, c, s, j, g) f e holds =
      thing v p (c ++ (end ++ x)) at s.0 s.1 (subst (Holds at) (e ∙ ap (λ (z : List ℕ). z ++ (end ++ x)) g ∙ append_assoc p c (end ++ x)) holds)

  pub until_short : (ws : List V) (other a x bytes : List ℕ) (at : ℕ) → UntilEnd S E ws other → UntilEnd T F ws a → bytes ≡ a ++ x → BehindSome S Holds at bytes → ⊥
  until_short ws other a x bytes at (p, c, s, e, f) (q, d, t, g, h) whole (vs, front, rest, inner, j, holds, parts, place) =
      let all : front ++ rest ≡ q ++ (d ++ x) = sym parts ∙ whole ∙ ap (λ (z : List ℕ). z ++ x) h ∙ append_assoc q d x in
      let (left, b, both, is) = what_is_left S T E once apart vs ws front rest q d x j (joined_both S T also ws p q s t) (ends d g) all in
      left_short left b rest d x inner both g is holds

-- TABLES

number_also : AreAlso Uleb ShortestUnsigned
number_also n a b s t = (t.0, s.1)

name_also : AreAlso SpellsName ShortestUnsigned
name_also n a b s t = ((t.0, s.0.1), s.1)

constant_also : (form : ℕ) → AreAlso (SpellsConstant form) (ShortestConstant form)
constant_also form v a b (inl s) (inl t) = inl (s.0, (t.1.0, s.1.1))
constant_also form v a b (inl s) (inr t) = absurd (t.0 s.0)
constant_also form v a b (inr s) (inl t) = absurd (s.0 t.0)
constant_also form v a b (inr s) (inr t) = inr (s.0, (t.1, s.1.1))

pub column_also : AreAlso SpellsColumn ShortestColumn
column_also c a b s t = record {
  named = s.named;
  known = s.known;
  parts = then_also SpellsName ShortestUnsigned (λ _. Then Uleb SpellsConstant) (λ _. Then ShortestUnsigned ShortestConstant) name_also (λ _. then_also Uleb ShortestUnsigned SpellsConstant ShortestConstant number_also constant_also) (c.name, (c.form, c.constant)) a b s.parts t;
}

-- one byte 0 spells 0
pub zero_byte : Uleb 0 (0 ∷ [])
zero_byte = ((leb_one 0 (omega arith), refl), omega arith)

pub columns_end : (end : List ℕ) → end ≡ 0 ∷ 0 ∷ [] → IsColumnsEnd end
columns_end end is = (0 ∷ [], 0 ∷ [], (zero_byte, omega arith), zero_byte, is)

pub table_end : (end : List ℕ) → end ≡ 0 ∷ [] → IsTableEnd end
table_end end is = subst (λ (z : List ℕ). Uleb 0 z) (sym is) zero_byte

columns_also : AreAlso SpellsColumns ShortestColumns
columns_also = until_also SpellsColumn ShortestColumn IsColumnsEnd (λ end. end ≡ 0 ∷ 0 ∷ []) column_also columns_end

pub declared_also : AreAlso SpellsDeclared ShortestDeclared
declared_also d a b s t = record {
  coded = s.coded;
  parts = then_also Uleb ShortestUnsigned (λ _. Then SpellsName (λ _. Then SpellsChildren (λ _. SpellsColumns))) (λ _. Then ShortestUnsigned (λ _. Then SpellsChildren (λ _. ShortestColumns))) number_also
      (λ _. then_also SpellsName ShortestUnsigned (λ _. Then SpellsChildren (λ _. SpellsColumns)) (λ _. Then SpellsChildren (λ _. ShortestColumns)) name_also
      (λ _. then_also SpellsChildren SpellsChildren (λ _. SpellsColumns) (λ _. ShortestColumns) (λ v p q i j. j) (λ _. columns_also)))
      (d.code, (d.tag, (d.children, d.columns))) a b s.parts t;
}
