-- Bytes that begin with a table have no fault.
use Rattle.std.proofs.Common.{◌≡◌, ◌≢◌, ◌≤◌, ◌<◌, ◌+◌, ◌^◌, ℕ, suc, List, [], ◌∷◌, ◌++◌, length, get_or, ◌∙◌, sym, ap, refl, subst, arith, inl, inr}
use Rattle.std.specs.Prelude.{ℤ, true, false}
use Rattle.std.proofs.lemmas.List.{append-nil, append_assoc, length-append, length-map, get_or_append_left, get_or-append-add, append_cancel_left}
use Rattle.spelled.specs.Spelled.{Joined, Then, NeverBoth}
use Rattle.spelled.proofs.Joins.{then_whole, until_end_whole, joined_agree, joined_push}
use Rattle.dw_base.specs.declared.fault.Kind.{Kind}
use Rattle.dw_base.specs.declared.fault.Kind.TheVariants.{Limit, LebWide, Short, FormUnknown, CodeTwice}
use Rattle.leb_codec.specs.Leb.{Uleb, Sleb}
use Rattle.leb_codec.proofs.Fronts.{unique_u, leb_not_short, uleb_not_wide, sleb_not_wide}
use Rattle.form_codec.specs.Forms.{IsKnown}
use Rattle.abbrev_tables.specs.Tables.{SpellsName, implicit_const, SpellsConstant, SpellsColumn, IsColumnsEnd, SpellsColumns, SpellsChildren, Declared, SpellsDeclared, IsTableEnd, codes_of, AreDistinct, SpellsTable}
use Rattle.abbrev_tables.specs.Faults.{FaultNumber, FaultName, FaultForm, FaultCode, FaultColumn, FaultColumns, FaultChildren, FaultFlagged, FaultTagged, FaultWithin, FaultDeclared, IsCodeTwice, FaultTable}
use Rattle.abbrev_tables.proofs.Unique.{name_once, children_once, column_once, columns_apart, declared_once, table_apart}

number_whole : NeverBoth Uleb FaultNumber
number_whole v Short at a x s f = leb_not_short a x s.0.0 f.1
number_whole v LebWide at a x s f = uleb_not_wide v a x s f.1
number_whole v kind at a x s f = absurd f

name_whole : NeverBoth SpellsName FaultName
name_whole v Limit at a x s f =
    let e : v ≡ f.1.number = (unique_u v f.1.number a f.1.front x f.1.after s.0 f.1.spelled f.1.whole).1 in
    let large : 2 ^ 32 ≤ f.1.number = f.1.large in
    let small : v < 2 ^ 32 = s.1 in
    absurd (omega arith)
name_whole v kind at a x s f = number_whole v kind at a x s.0 f

-- what follows the name and the form of a column, and of the end
abbrev RestOf : ℕ → ℕ → ℤ → List ℕ → Type 0
RestOf name code v bytes = (name ≢ 0) × IsKnown code × SpellsConstant code v bytes

abbrev EndOf : ℕ → ℕ → ℕ → List ℕ → Type 0
EndOf name code v bytes = (name ≡ 0) × (code ≡ 0) × (bytes ≡ [])

constant_is : (code : ℕ) (v : ℤ) (a : List ℕ) → code ≡ implicit_const → SpellsConstant code v a → Sleb v a
constant_is code v a e (inl p) = p.1
constant_is code v a e (inr p) = absurd (p.0 e)

rest_whole : (name code : ℕ) → NeverBoth (RestOf name code) (FaultForm name code)
rest_whole name code v Short at a x s f = leb_not_short a x (constant_is code v a f.2 s.2).0.0 f.3
rest_whole name code v LebWide at a x s f = sleb_not_wide v a x (constant_is code v a f.2 s.2) f.3
rest_whole name code v FormUnknown at a x s f = elim (f.1) [ inl zero ↦ s.0 zero.0 | inr none ↦ none.1 s.1 ]
rest_whole name code v kind at a x s f = absurd f

end_whole : (name code : ℕ) → NeverBoth (EndOf name code) (FaultForm name code)
end_whole name code v Short at a x s f = f.1 s.0
end_whole name code v LebWide at a x s f = f.1 s.0
end_whole name code v FormUnknown at a x s f = elim (f.1) [ inl zero ↦ zero.1 s.1 | inr none ↦ none.0 s.0 ]
end_whole name code v kind at a x s f = absurd f

column_whole : NeverBoth SpellsColumn FaultColumn
column_whole c k at a x s f =
    let p = s.parts in
    let q = p.3 in
    then_whole SpellsName (λ name. Then Uleb (RestOf name)) FaultName FaultCode name_once name_whole (λ name. then_whole Uleb (RestOf name) FaultNumber (FaultForm name) unique_u number_whole (rest_whole name)) (c.name, (c.form, c.constant)) k at a x (p.0, p.1, p.2, (q.0, q.1, q.2, (s.named, s.known, q.3), q.4), p.4) f

ends_whole : (k : Kind) (at : ℕ) (e x : List ℕ) → IsColumnsEnd e → FaultColumn k at (e ++ x) → ⊥
ends_whole k at e x p f =
    then_whole SpellsName (λ name. Then Uleb (EndOf name)) FaultName FaultCode name_once name_whole (λ name. then_whole Uleb (EndOf name) FaultNumber (FaultForm name) unique_u number_whole (end_whole name)) (0, (0, 0)) k at e x (p.0, p.1, p.2, (p.1, [], p.3, (refl, refl, refl), sym (append-nil p.1)), p.4) f

columns_never : NeverBoth SpellsColumns FaultColumns
columns_never = until_end_whole SpellsColumn IsColumnsEnd FaultColumn column_once columns_apart column_whole ends_whole

some_bytes : (b : ℕ) (a x : List ℕ) → a ≡ b ∷ [] → a ++ x ≡ [] → ⊥
some_bytes b a x s f =
    let h : length ((b ∷ []) ++ x) ≡ 0 = ap length (ap (λ z. z ++ x) (sym s) ∙ f) in
    absurd (omega arith)

small_flag : (b : ℕ) (a x : List ℕ) → b ≤ 1 → a ≡ b ∷ [] → 1 < get_or (a ++ x) 0 0 → ⊥
small_flag b a x l s f =
    let h : 1 < get_or ((b ∷ []) ++ x) 0 0 = subst (λ (z : List ℕ). 1 < get_or (z ++ x) 0 0) s f in
    absurd (omega arith)

children_whole : NeverBoth SpellsChildren FaultChildren
children_whole true Short at a x s f = some_bytes 1 a x s f.1
children_whole false Short at a x s f = some_bytes 0 a x s f.1
children_whole true FormUnknown at a x s f = small_flag 1 a x (omega arith) s f.2
children_whole false FormUnknown at a x s f = small_flag 0 a x (omega arith) s f.2
children_whole v kind at a x s f = absurd f

flagged_whole : NeverBoth (Then SpellsChildren (λ _. SpellsColumns)) FaultFlagged
flagged_whole = then_whole SpellsChildren (λ _. SpellsColumns) FaultChildren (λ _. FaultColumns) children_once children_whole (λ _. columns_never)

tagged_whole : (code : ℕ) → NeverBoth (Then SpellsName (λ _. Then SpellsChildren (λ _. SpellsColumns))) (FaultTagged code)
tagged_whole code v k at a x s f = then_whole SpellsName (λ _. Then SpellsChildren (λ _. SpellsColumns)) FaultName (λ _. FaultFlagged) name_once name_whole (λ _. flagged_whole) v k at a x s f.1

within_whole : (d : Declared) (k : Kind) (at : ℕ) (a x : List ℕ) → SpellsDeclared d a → FaultWithin k at (a ++ x) → ⊥
within_whole d k at a x s f = then_whole Uleb (λ _. Then SpellsName (λ _. Then SpellsChildren (λ _. SpellsColumns))) FaultNumber FaultTagged unique_u number_whole tagged_whole (d.code, (d.tag, (d.children, d.columns))) k at a x s.parts f

declared_whole : NeverBoth SpellsDeclared FaultDeclared
declared_whole d FormUnknown at a x s f = within_whole d FormUnknown f.1.0 a x s f.1.1
declared_whole d kind at a x s f = within_whole d kind at a x s f

abbrev NoMore : ℕ → ℕ → List ℕ → Type 0
NoMore code v bytes = (code ≡ 0) × (bytes ≡ [])

zero_within : (k : Kind) (at : ℕ) (e x : List ℕ) → IsTableEnd e → FaultWithin k at (e ++ x) → ⊥
zero_within k at e x p f = then_whole Uleb NoMore FaultNumber FaultTagged unique_u number_whole (λ code v kind at a x s f. f.0 s.0) (0, 0) k at e x (e, [], p, (refl, refl), sym (append-nil e)) f

zero_whole : (k : Kind) (at : ℕ) (e x : List ℕ) → IsTableEnd e → FaultDeclared k at (e ++ x) → ⊥
zero_whole FormUnknown at e x p f = zero_within FormUnknown f.1.0 e x p f.1.1
zero_whole kind at e x p f = zero_within kind at e x p f

codes_push : (ds : List Declared) (d : Declared) (more : List Declared) → codes_of ((ds ++ d ∷ []) ++ more) ≡ codes_of ds ++ (d.code ∷ codes_of more)
codes_push [] d more = refl
codes_push (e ∷ ds) d more = ap (λ z. e.code ∷ z) (codes_push ds d more)

-- a list that goes on behind a code that it has already
not_twice : (before : List Declared) (later : Declared) (more : List Declared) (i : ℕ) → i < length before → get_or (codes_of before) i 0 ≡ later.code → AreDistinct (codes_of ((before ++ later ∷ []) ++ more)) → ⊥
not_twice before later more i inside same distinct =
    let cs : List ℕ = codes_of before in
    let tail : List ℕ = later.code ∷ codes_of more in
    let long : length cs ≡ length before = length-map before (λ d. d.code) in
    let whole : AreDistinct (cs ++ tail) = subst AreDistinct (codes_push before later more) distinct in
    let size : length (cs ++ tail) ≡ length cs + suc (length (codes_of more)) = length-append cs tail in
    let left : get_or (cs ++ tail) i 0 ≡ get_or cs i 0 = get_or_append_left cs tail 0 i (omega arith) in
    let right : get_or (cs ++ tail) (length cs + 0) 0 ≡ later.code = get_or-append-add cs tail 0 0 in
    let e : i ≡ length cs + 0 = whole i (length cs + 0) (omega arith) (omega arith) (left ∙ same ∙ sym right) in
    absurd (omega arith)

-- what comes behind a table's declarations is no declaration
nothing_more : (more : List Declared) (tail e x y : List ℕ) → Joined SpellsDeclared more tail → IsTableEnd e → e ++ x ≡ tail ++ y → more ≡ []
nothing_more [] tail e x y j end h = refl
nothing_more (m ∷ ms) tail e x y (p, q, s, j, w) end h =
    absurd (table_apart m p e (q ++ y) x s end (sym (append_assoc p q y) ∙ ap (λ z. z ++ y) (sym w) ∙ sym h))

table_whole_twice : (ds : List Declared) (at : ℕ) (a x : List ℕ) → SpellsTable ds a → IsCodeTwice at (a ++ x) → ⊥
table_whole_twice ds at a x s f =
    let (front, end, j, e, whole) = s.spelled in
    let st = f.stands in
    let pushed = joined_push SpellsDeclared f.before f.later st.front st.body st.spelled st.here in
    let same : (st.front ++ st.body) ++ st.rest ≡ front ++ (end ++ x) = append_assoc st.front st.body st.rest ∙ sym st.whole ∙ ap (λ z. z ++ x) whole ∙ append_assoc front end x in
    elim (joined_agree SpellsDeclared declared_once (f.before ++ f.later ∷ []) ds (st.front ++ st.body) front st.rest (end ++ x) pushed j same) [
      | inl g ↦ not_twice f.before f.later g.more f.earlier f.inside f.same (subst (λ z. AreDistinct (codes_of z)) g.values s.distinct)
      | inr g ↦
          let h : front ++ (end ++ x) ≡ front ++ (g.tail ++ st.rest) = sym same ∙ ap (λ z. z ++ st.rest) g.bytes ∙ append_assoc front g.tail st.rest in
          let none : g.more ≡ [] = nothing_more g.more g.tail end x st.rest g.spelled e (append_cancel_left front (end ++ x) (g.tail ++ st.rest) h) in
          let all : ds ≡ (f.before ++ f.later ∷ []) ++ [] = sym (append-nil ds) ∙ ap (λ z. ds ++ z) (sym none) ∙ sym g.values ∙ sym (append-nil (f.before ++ f.later ∷ [])) in
          not_twice f.before f.later [] f.earlier f.inside f.same (subst (λ z. AreDistinct (codes_of z)) all s.distinct)
    ]

pub table_whole : NeverBoth SpellsTable FaultTable
table_whole ds CodeTwice at a x s f = table_whole_twice ds at a x s f
table_whole ds kind at a x s f = until_end_whole SpellsDeclared IsTableEnd FaultDeclared declared_once table_apart declared_whole zero_whole ds kind at a x s.spelled f
