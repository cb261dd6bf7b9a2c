-- Columns of an abbreviation table.
use Rattle.std.proofs.Common.{◌≡◌, ◌≤◌, ◌<◌, ◌+◌, ◌-◌, ◌^◌, ℕ, zero, suc, List, [], ◌∷◌, ◌++◌, length, get_or, ◌∙◌, sym, ap, refl, subst, arith, inl, inr}
use Rattle.std.specs.Prelude.{slice_set, pos, ◌⊎◌, ◌↔◌, Bool, IsTrue, Option, None, Some, IfSome}
use Rattle.std.proofs.lemmas.Bool.{cases_lt}
use Rattle.std.proofs.lemmas.List.{length-set, get_or-set_same, get_or-set_other, get_or_default, get_or_append_left}
use Rattle.std.proofs.Math.Seq.{get_or-append_seam}
use Rattle.std.proofs.lemmas.Option.{IfSome_then}
use Rattle.dw_base.specs.declared.classes.Classes.{Classes}
use Rattle.form_codec.specs.declared.value.Value.{Value}
use Rattle.abbrev_tables.specs.declared.decl.Spec.{Spec}
use Rattle.abbrev_tables.specs.Listings.{spec_at}
use Rattle.form_codec.specs.Columns.{AreSpelled, IsLeastForm}
use Rattle.column_forms.specs.Columns.{IsChosen}
use Rattle.column_forms.specs.Tallies.{IsTally, Tallying, meanings_in}
use Rattle.column_forms.specs.Rows.{AreHere, value_at}
use Rattle.column_forms.specs.TableColumns.{tally_at, IsTallyOf, AreTalliesOf, HaveNames, AddsRow, HaveAtMost, HaveRoomForRow, AreBestFor}
use Rattle.column_forms.specs.inside.TableColumns.{IsNextTally, HasOneMore, AreCounted, IsBestOfTally, IsLeastOfTally}

abbrev no_spec : Spec
no_spec = record { name = 0; form = 0; constant = pos 0 }

-- nothing is held after one more column without a value
pub none_more : (ts : List (Option Tallying)) → ((k : ℕ) → tally_at ts k ≡ None) → (k : ℕ) → tally_at (ts ++ None ∷ []) k ≡ None
none_more [] none zero = refl
none_more [] none (suc k) = refl
none_more (t ∷ ts) none zero = none zero
none_more (t ∷ ts) none (suc k) = none_more ts (λ j. none (suc j)) k

pub none_held : (section : List ℕ) (names : ℕ → ℕ) (ts : List (Option Tallying)) → ((k : ℕ) → tally_at ts k ≡ None) → AreTalliesOf section names (λ (k : ℕ). []) ts
none_held section names ts none k lt = subst (λ (z : Option Tallying). IsTallyOf section (names k) [] z) (sym (none k)) refl

-- what is held of a column is of one value at least: else each constant would be the one of implicit_const
pub never_empty : (section : List ℕ) (t : Tallying) → IsTally section [] t → ⊥
never_empty section t tally =
    let one : pos 1 ≡ t.constant = tally.tallied.only (pos 1) 0 tt in
    let two : pos 2 ≡ t.constant = tally.tallied.only (pos 2) 0 tt in
    absurd (cc (one, two))

pub best_some : (classes : Classes) (t : Tallying) (old new : Spec) (o : Option Tallying) → o ≡ Some t → ((section : List ℕ) (values : List Value) → t.name ≡ old.name → IsTally section values t → AreSpelled old.name old.form old.constant (meanings_in section values) → IsChosen classes old (meanings_in section values) new) → IsBestOfTally classes o old new
best_some classes t old new o is best section values held =
    let tally : (t.name ≡ old.name) × IsTally section values t = subst (λ (z : Option Tallying). IsTallyOf section old.name values z) is held in
    record {
      unused = λ e. absurd (never_empty section t (subst (λ (z : List Value). IsTally section z t) e tally.1));
      chosen = λ some s. best section values tally.0 tally.1 s;
    }

-- one more value of a row is counted in its column
pub counted_more : (first j : ℕ) (columns : List Spec) (row : List Value) (old ts : List (Option Tallying)) (t new : Option Tallying) → first + j < length old → t ≡ get_or ts (first + j) t → AreCounted first columns row j old ts → IsNextTally (spec_at columns j).name (value_at row j) t new → HasOneMore t new → AreCounted first columns row (j + 1) old (slice_set ts (first + j) new)
counted_more first j columns row old ts t new inside at a n one =
    let here : first + j < length ts = omega (arith, a.same) in
    let was : t ≡ tally_at old (first + j) = (at ∙ get_or_default ts (first + j) t None here) ∙ a.others (first + j) (inr (omega arith)) in
    record {
      same = length-set ts (first + j) new ∙ a.same;
      next = λ i lt.
          elim (cases_lt i j) [
            | inl less ↦ subst (λ (z : Option Tallying). IsNextTally (spec_at columns i).name (value_at row i) (tally_at old (first + i)) z) (sym (get_or-set_other ts (first + j) (first + i) new None (omega arith))) (a.next i less)
            | inr more ↦
                let e : j ≡ i = omega arith in
                subst (λ (z : ℕ). IsNextTally (spec_at columns z).name (value_at row z) (tally_at old (first + z)) (tally_at (slice_set ts (first + j) new) (first + z))) e (subst (λ (z : Option Tallying). IsNextTally (spec_at columns j).name (value_at row j) (tally_at old (first + j)) z) (sym (get_or-set_same ts (first + j) new None here)) (subst (λ (z : Option Tallying). IsNextTally (spec_at columns j).name (value_at row j) z new) was n))
          ];
      more = λ i lt.
          elim (cases_lt i j) [
            | inl less ↦ subst (λ (z : Option Tallying). HasOneMore (tally_at old (first + i)) z) (sym (get_or-set_other ts (first + j) (first + i) new None (omega arith))) (a.more i less)
            | inr more ↦
                let e : j ≡ i = omega arith in
                subst (λ (z : ℕ). HasOneMore (tally_at old (first + z)) (tally_at (slice_set ts (first + j) new) (first + z))) e (subst (λ (z : Option Tallying). HasOneMore (tally_at old (first + j)) z) (sym (get_or-set_same ts (first + j) new None here)) (subst (λ (z : Option Tallying). HasOneMore z new) was one))
          ];
      others = λ k apart.
          elim apart [
            | inl below ↦ get_or-set_other ts (first + j) k new None (omega arith) ∙ a.others k (inl below)
            | inr above ↦ get_or-set_other ts (first + j) k new None (omega arith) ∙ a.others k (inr (omega arith))
          ];
    }

-- a counted row is added to the values of its columns
pub row_added : (section : List ℕ) (names : ℕ → ℕ) (first : ℕ) (columns : List Spec) (row : List Value) (done : ℕ) (before after : ℕ → List Value) (old new : List (Option Tallying)) → length row ≤ done → done ≤ length row → length columns ≡ length row → first + length row ≤ length old → AreCounted first columns row done old new → AreHere section row → HaveNames names first columns → AddsRow first row before after → AreTalliesOf section names before old → AreTalliesOf section names after new
row_added section names first columns row done before after old new all no_more wide inside a here named adds held k lt =
    elim (cases_lt k first) [
      | inl below ↦ kept (inl below) (inl below)
      | inr from ↦
          elim (cases_lt k (first + length row)) [
            | inl within ↦ let e : first + (k - first) ≡ k = omega arith in subst (λ (z : ℕ). IsTallyOf section (names z) (after z) (tally_at new z)) e (counted (k - first) (omega arith))
            | inr above ↦ kept (inr above) (inr (omega arith))
          ]
    ]
  where
    in_old : k < length old
    in_old = omega (arith, a.same)

    kept : (k < first) ⊎ (first + length row ≤ k) → (k < first) ⊎ (first + done ≤ k) → IsTallyOf section (names k) (after k) (tally_at new k)
    kept apart still = subst (λ (z : Option Tallying). IsTallyOf section (names k) (after k) z) (sym (a.others k still)) (subst (λ (z : List Value). IsTallyOf section (names k) z (tally_at old k)) (sym (adds.others k apart)) (held k in_old))

    counted : (j : ℕ) → j < length row → IsTallyOf section (names (first + j)) (after (first + j)) (tally_at new (first + j))
    counted j in_row =
        let next = subst (λ (z : ℕ). IsNextTally z (value_at row j) (tally_at old (first + j)) (tally_at new (first + j))) (sym (named j (omega arith))) (a.next j (omega arith)) in
        subst (λ (z : List Value). IsTallyOf section (names (first + j)) z (tally_at new (first + j))) (sym (adds.each j in_row)) (next section (before (first + j)) (here j in_row) (held (first + j) (omega arith)))

-- after a row no column has more than one value more
pub few_more : (first : ℕ) (columns : List Spec) (row : List Value) (done : ℕ) (old new : List (Option Tallying)) (n : ℕ) → AreCounted first columns row done old new → HaveAtMost n old → HaveAtMost (n + 1) new
few_more first columns row done old new n a few k lt =
    elim (cases_lt k first) [
      | inl below ↦ kept (inl below)
      | inr from ↦
          elim (cases_lt k (first + done)) [
            | inl within ↦ let e : first + (k - first) ≡ k = omega arith in subst (λ (z : ℕ). IfSome (tally_at new z) (λ t. t.count ≤ n + 1)) e (a.more (k - first) (omega arith) n (subst (λ (z : ℕ). IfSome (tally_at old z) (λ t. t.count ≤ n)) (sym e) (few k in_old)))
            | inr above ↦ kept (inr above)
          ]
    ]
  where
    in_old : k < length old
    in_old = omega (arith, a.same)

    kept : (k < first) ⊎ (first + done ≤ k) → IfSome (tally_at new k) (λ t. t.count ≤ n + 1)
    kept apart = subst (λ (z : Option Tallying). IfSome z (λ t. t.count ≤ n + 1)) (sym (a.others k apart)) (IfSome_then (tally_at old k) (few k in_old) (λ t le. omega arith))

-- no values: nothing is held
pub few_none : (ts : List (Option Tallying)) → ((k : ℕ) → tally_at ts k ≡ None) → HaveAtMost 0 ts
few_none ts none k lt = subst (λ (z : Option Tallying). IfSome z (λ t. t.count ≤ 0)) (sym (none k)) tt

-- few values leave room for one more row
pub few_room : (n : ℕ) (ts : List (Option Tallying)) → n < 2 ^ 63 → HaveAtMost n ts → HaveRoomForRow ts
few_room n ts small few k lt = IfSome_then (tally_at ts k) (few k lt) (λ t le. omega (arith, le))

-- one more column is in its best form
pub best_more : (classes : Classes) (olds news : List Spec) (k : ℕ) (ts : List (Option Tallying)) (t : Option Tallying) (new : Spec) → length news ≡ k → k < length ts → t ≡ get_or ts k t → ((i : ℕ) → i < k → IsBestOfTally classes (tally_at ts i) (spec_at olds i) (spec_at news i)) → IsBestOfTally classes t (spec_at olds k) new → (i : ℕ) → i < k + 1 → IsBestOfTally classes (tally_at ts i) (spec_at olds i) (spec_at (news ++ new ∷ []) i)
best_more classes olds news k ts t new long inside at each best i lt =
    elim (cases_lt i k) [
      | inl less ↦ subst (λ (z : Spec). IsBestOfTally classes (tally_at ts i) (spec_at olds i) z) (sym (get_or_append_left news (new ∷ []) no_spec i (omega arith))) (each i less)
      | inr more ↦
          let e : k ≡ i = omega arith in
          let here : t ≡ tally_at ts k = at ∙ get_or_default ts k t None inside in
          let last : spec_at (news ++ new ∷ []) k ≡ new = ap (λ z. spec_at (news ++ new ∷ []) z) (sym long) ∙ get_or-append_seam news new [] no_spec in
          subst (λ (z : ℕ). IsBestOfTally classes (tally_at ts z) (spec_at olds z) (spec_at (news ++ new ∷ []) z)) e (subst (λ (z : Option Tallying). IsBestOfTally classes z (spec_at olds k) (spec_at (news ++ new ∷ []) k)) here (subst (λ (z : Spec). IsBestOfTally classes t (spec_at olds k) z) (sym last) best))
    ]

-- all columns are in their best forms
pub all_best : (classes : Classes) (section : List ℕ) (names : ℕ → ℕ) (values : ℕ → List Value) (olds news : List Spec) (ts : List (Option Tallying)) (k : ℕ) → k ≡ length olds → length olds ≡ length ts → length news ≡ k → ((i : ℕ) → i < k → IsBestOfTally classes (tally_at ts i) (spec_at olds i) (spec_at news i)) → HaveNames names 0 olds → AreTalliesOf section names values ts → AreBestFor classes section values olds news
all_best classes section names values olds news ts k all same long each named held = record {
  count = long ∙ all;
  each = λ i lt.
      let e : 0 + i ≡ i = omega arith in
      let own : names i ≡ (spec_at olds i).name = subst (λ (z : ℕ). names z ≡ (spec_at olds i).name) e (named i lt) in
      each i (omega arith) section (values i) (subst (λ (z : ℕ). IsTallyOf section z (values i) (tally_at ts i)) own (held i (omega arith)));
}

-- what a column's sums tell of its form
pub least_some : (classes : Classes) (t : Tallying) (column : Spec) (told : Bool) (o : Option Tallying) → o ≡ Some t → ((section : List ℕ) (values : List Value) → t.name ≡ column.name → IsTally section values t → AreSpelled column.name column.form column.constant (meanings_in section values) → IsTrue told ↔ IsLeastForm classes column.name (meanings_in section values) column.form column.constant) → IsLeastOfTally classes o column told
least_some classes t column told o is tells section values held some s =
    let tally : (t.name ≡ column.name) × IsTally section values t = subst (λ (z : Option Tallying). IsTallyOf section column.name values z) is held in
    tells section values tally.0 tally.1 s

-- without sums there are no values
pub least_none : (classes : Classes) (column : Spec) (told : Bool) (o : Option Tallying) → o ≡ None → IsLeastOfTally classes o column told
least_none classes column told o is section values held some s = absurd (some (subst (λ (z : Option Tallying). IsTallyOf section column.name values z) is held))
