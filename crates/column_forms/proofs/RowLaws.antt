-- Columns of rows.
use Rattle.std.proofs.Common.{◌≡◌, ◌<◌, ◌+◌, ◌*◌, ℕ, zero, suc, List, [], ◌∷◌, ◌++◌, length, get_or, ◌∙◌, sym, ap, refl, subst, arith, inl, inr}
use Rattle.std.proofs.lemmas.Bool.{cases_lt}
use Rattle.std.proofs.lemmas.List.{length-append}
use Rattle.dw_base.specs.declared.classes.Classes.{Classes}
use Rattle.dw_base.specs.Classes.{every}
use Rattle.form_codec.specs.declared.value.Value.{Value}
use Rattle.abbrev_tables.specs.declared.decl.Spec.{Spec}
use Rattle.abbrev_tables.specs.Listings.{spec_at}
use Rattle.form_codec.specs.Columns.{AreSpelled}
use Rattle.column_forms.specs.Columns.{IsChosen}
use Rattle.column_forms.specs.Tallies.{IsTally, Tallying, meanings_in}
use Rattle.column_forms.specs.Rows.{value_at, column_of, AreHere, AreChosen}

-- a value of a row lies in all rows
pub row_inside : (row rows width column : ℕ) → row < rows → column < width → row * width + column < rows * width
row_inside row (suc rows) width column lt inside = elim (cases_lt row rows) [
  | inl less ↦ let r : row * width + column < rows * width = row_inside row rows width column less inside in omega arith
  | inr more ↦ let e : row ≡ rows = omega arith in subst (λ (z : ℕ). z * width + column < suc rows * width) (sym e) (omega arith)
]
row_inside row zero width column lt inside = absurd (omega arith)

pub value_is : (values : List Value) (k : ℕ) (v : Value) → k < length values → v ≡ get_or values k v → v ≡ value_at values k
value_is [] k v lt e = absurd (omega arith)
value_is (x ∷ xs) zero v lt e = e
value_is (x ∷ xs) (suc k) v lt e = value_is xs k v (omega arith) e

spec_before : (cs : List Spec) (x : Spec) (k : ℕ) → k < length cs → spec_at (cs ++ x ∷ []) k ≡ spec_at cs k
spec_before [] x k lt = absurd (omega arith)
spec_before (y ∷ ys) x zero lt = refl
spec_before (y ∷ ys) x (suc k) lt = spec_before ys x k (omega arith)

spec_last : (cs : List Spec) (x : Spec) → spec_at (cs ++ x ∷ []) (length cs) ≡ x
spec_last [] x = refl
spec_last (y ∷ ys) x = spec_last ys x

pub spec_is : (cs : List Spec) (k : ℕ) (x : Spec) → k < length cs → x ≡ get_or cs k x → x ≡ spec_at cs k
spec_is [] k x lt e = absurd (omega arith)
spec_is (y ∷ ys) zero x lt e = e
spec_is (y ∷ ys) (suc k) x lt e = spec_is ys k x (omega arith) e

pub chosen_none : (columns : List Spec) (rows : ℕ) (values : List Value) → AreChosen columns rows 0 values []
chosen_none columns rows values = record { many = refl; each = λ section j lt. absurd (omega arith) }

pub chosen_more : (columns : List Spec) (rows count : ℕ) (values : List Value) (chosen : List Spec) (new : Spec) → AreChosen columns rows count values chosen → ((section : List ℕ) → AreHere section values → AreSpelled (spec_at columns count).name (spec_at columns count).form (spec_at columns count).constant (meanings_in section (column_of values (length columns) count rows)) → IsChosen every (spec_at columns count) (meanings_in section (column_of values (length columns) count rows)) new) → AreChosen columns rows (count + 1) values (chosen ++ new ∷ [])
chosen_more columns rows count values chosen new a n = record {
  many = length-append chosen (new ∷ []) ∙ ap (λ z. z + 1) a.many;
  each = λ section j lt here s. elim (cases_lt j count) [
    | inl less ↦ subst (λ (z : Spec). IsChosen every (spec_at columns j) (meanings_in section (column_of values (length columns) j rows)) z) (sym (spec_before chosen new j (omega (arith, a.many)))) (a.each section j less here s)
    | inr more ↦
        let e : count ≡ j = omega arith in
        let last : spec_at (chosen ++ new ∷ []) count ≡ new = ap (λ z. spec_at (chosen ++ new ∷ []) z) (sym a.many) ∙ spec_last chosen new in
        let t = subst (λ (z : ℕ). AreSpelled (spec_at columns z).name (spec_at columns z).form (spec_at columns z).constant (meanings_in section (column_of values (length columns) z rows))) (sym e) s in
        subst (λ (z : ℕ). IsChosen every (spec_at columns z) (meanings_in section (column_of values (length columns) z rows)) (spec_at (chosen ++ new ∷ []) z)) e (subst (λ (z : Spec). IsChosen every (spec_at columns count) (meanings_in section (column_of values (length columns) count rows)) z) (sym last) (n section here t))
  ];
}

-- one more column, whose tally, which has its name, chooses its form
pub chosen_next : (columns : List Spec) (rows count width : ℕ) (values ds : List Value) (chosen : List Spec) (named old new : Spec) (t : Tallying) (classes : Classes) → ds ≡ values → width ≡ length columns → count < length columns → named ≡ get_or columns count named → old ≡ get_or columns count old → classes ≡ every → t.name ≡ named.name → AreChosen columns rows count values chosen → ((section : List ℕ) → AreHere section ds → IsTally section (column_of ds width count rows) t) → ((section : List ℕ) (vs : List Value) → t.name ≡ old.name → IsTally section vs t → AreSpelled old.name old.form old.constant (meanings_in section vs) → IsChosen classes old (meanings_in section vs) new) → AreChosen columns rows (count + 1) values (chosen ++ new ∷ [])
chosen_next columns rows count width values ds chosen named old new t classes same wide inside at_name at all name a tallied best =
    let first : named ≡ spec_at columns count = spec_is columns count named inside at_name in
    let here : old ≡ spec_at columns count = spec_is columns count old inside at in
    let own : t.name ≡ old.name = name ∙ ap (λ z. z.name) (first ∙ sym here) in
    chosen_more columns rows count values chosen new a (λ section h s.
    let vs : List Value = column_of values (length columns) count rows in
    let tally : IsTally section vs t = subst (λ (w : ℕ). IsTally section (column_of values w count rows) t) wide (subst (λ (z : List Value). IsTally section (column_of z width count rows) t) same (tallied section (subst (λ (z : List Value). AreHere section z) (sym same) h))) in
    let spelled = subst (λ (z : Spec). AreSpelled z.name z.form z.constant (meanings_in section vs)) (sym here) s in
    subst (λ (z : Spec). IsChosen every z (meanings_in section vs) new) here (subst (λ (z : Classes). IsChosen z old (meanings_in section vs) new) all (best section vs own tally spelled)))

pub one_more : (n : ℕ) → suc n ≡ n + 1
one_more n = omega arith
