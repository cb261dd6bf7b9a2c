-- Declarations found by their codes.
use Rattle.std.proofs.Common.{◌≡◌, ◌≢◌, ◌≤◌, ◌<◌, ◌+◌, ◌-◌, ◌^◌, ℕ, List, [], ◌∷◌, ◌++◌, length, ◌∙◌, sym, ap, subst, arith, inl, inr}
use Rattle.std.specs.Prelude.{true, false, Option, Some, None, MatchOption}
use Rattle.std.specs.Ordering.{nat_cmp}
use Rattle.std.specs.BTreeMap.{BTreeMap, get}
use Rattle.std.proofs.lemmas.List.{get_or_append_left, get_or-append-add, length_push}
use Rattle.std.proofs.lemmas.Option.{none-some, same_Some}
use Rattle.std.proofs.lemmas.Bool.{cases_eq, cases_lt}
use Rattle.std.proofs.lemmas.Bool.Decides.{nat_tests}
use Rattle.std.specs.Ordering.{is_eq}
use Rattle.abbrev_tables.specs.declared.decl.Decl.{Decl}
use Rattle.abbrev_tables.specs.Listings.{decl_at}
use Rattle.abbrev_tables.specs.Index.{IsIndex, HasCode}
use Rattle.abbrev_tables.specs.inside.Index.{IsAdded, HaveOwnCodes}

some_none : {X : Type 0} (x : X) → Some x ≡ None → ⊥
some_none x e = none-some x (sym e)

not_found : (decls : List Decl) (others : BTreeMap ℕ ℕ) (code : ℕ) → IsIndex decls others → (0 < code → code ≤ length decls → (decl_at decls (code - 1)).code ≢ code) → get nat_cmp others code ≡ None → HasCode decls code → ⊥
not_found decls others code index test none (i, inside, e) =
    elim (cases_eq code (i + 1)) [
      | inl same ↦
          let k : code - 1 ≡ i = omega arith in
          test (omega arith) (omega arith) (ap (λ n. (decl_at decls n).code) k ∙ e)
      | inr other ↦ some_none i (sym (index.full i inside (λ h. other (sym e ∙ h))) ∙ ap (λ q. get nat_cmp others q) e ∙ none)
    ]

pub found : (decls : List Decl) (others : BTreeMap ℕ ℕ) (code : ℕ) → IsIndex decls others → (0 < code → code ≤ length decls → (decl_at decls (code - 1)).code ≢ code) → (r : Option ℕ) → r ≡ get nat_cmp others code → MatchOption r (HasCode decls code → ⊥) (λ i. (i < length decls) × ((decl_at decls i).code ≡ code))
found decls others code index test None e = not_found decls others code index test (sym e)
found decls others code index test (Some i) e = index.sound code i (sym e)

-- the declaration at a place of a list with one more
old_at : (decls : List Decl) (d : Decl) (i : ℕ) → i < length decls → decl_at (decls ++ d ∷ []) i ≡ decl_at decls i
old_at decls d i inside = get_or_append_left decls (d ∷ []) (record { at = 0; code = 0; tag = 0; children = false; first = 0; count = 0 }) i inside

new_at : (decls : List Decl) (d : Decl) (i : ℕ) → i ≡ length decls → decl_at (decls ++ d ∷ []) i ≡ d
new_at decls d i e =
    let plus : i ≡ length decls + 0 = omega arith in
    ap (λ n. decl_at (decls ++ d ∷ []) n) plus ∙ get_or-append-add decls (d ∷ []) 0 (record { at = 0; code = 0; tag = 0; children = false; first = 0; count = 0 })

pub index_same : (decls : List Decl) (others : BTreeMap ℕ ℕ) (d : Decl) → IsIndex decls others → d.code ≡ length decls + 1 → IsIndex (decls ++ d ∷ []) others
index_same decls others d index usual =
    let size : length (decls ++ d ∷ []) ≡ length decls + 1 = length_push decls d in
    record {
      sound = λ code i e. let s = index.sound code i e in let l : i < length decls = s.0 in (omega arith, ap (λ z. z.code) (old_at decls d i l) ∙ s.1);
      full = λ i inside other.
          elim (cases_lt i (length decls)) [
            | inl l ↦
                let same = ap (λ z. z.code) (old_at decls d i l) in
                ap (λ q. get nat_cmp others q) same ∙ index.full i l (λ h. other (same ∙ h))
            | inr g ↦
                let last : i ≡ length decls = omega arith in
                absurd (other (ap (λ z. z.code) (new_at decls d i last) ∙ usual ∙ ap (λ n. n + 1) (sym last)))
          ];
    }

pub index_more : (decls : List Decl) (others new : BTreeMap ℕ ℕ) (d : Decl) → IsIndex decls others → (HasCode decls d.code → ⊥) → get nat_cmp new d.code ≡ Some (length decls) → ((q : ℕ) → q ≢ d.code → get nat_cmp new q ≡ get nat_cmp others q) → IsIndex (decls ++ d ∷ []) new
index_more decls others new d index fresh here apart =
    let size : length (decls ++ d ∷ []) ≡ length decls + 1 = length_push decls d in
    record {
      sound = λ code i e.
          elim (cases_eq code d.code) [
            | inl same ↦
                let last : i ≡ length decls = same_Some i (length decls) (sym e ∙ ap (λ q. get nat_cmp new q) same ∙ here) in
                (omega arith, ap (λ z. z.code) (new_at decls d i last) ∙ sym same)
            | inr other ↦
                let s = index.sound code i (sym (apart code other) ∙ e) in
                let l : i < length decls = s.0 in
                (omega arith, ap (λ z. z.code) (old_at decls d i l) ∙ s.1)
          ];
      full = λ i inside other.
          elim (cases_lt i (length decls)) [
            | inl l ↦
                let same : (decl_at (decls ++ d ∷ []) i).code ≡ (decl_at decls i).code = ap (λ z. z.code) (old_at decls d i l) in
                ap (λ q. get nat_cmp new q) same ∙ apart ((decl_at decls i).code) (λ h. fresh (i, l, h)) ∙ index.full i l (λ h. other (same ∙ h))
            | inr g ↦
                let last : i ≡ length decls = omega arith in
                ap (λ q. get nat_cmp new q) (ap (λ z. z.code) (new_at decls d i last)) ∙ here ∙ ap Some (sym last)
          ];
    }

-- codes stay apart
pub own_more : (decls : List Decl) (d : Decl) → HaveOwnCodes decls → (HasCode decls d.code → ⊥) → HaveOwnCodes (decls ++ d ∷ [])
own_more decls d own fresh i j li lj same =
    let size : length (decls ++ d ∷ []) ≡ length decls + 1 = length_push decls d in
    elim (cases_lt i (length decls)) [
      | inl a ↦
          let ei = ap (λ z. z.code) (old_at decls d i a) in
          elim (cases_lt j (length decls)) [
            | inl b ↦ own i j a b (sym ei ∙ same ∙ ap (λ z. z.code) (old_at decls d j b))
            | inr b ↦
                let last : j ≡ length decls = omega arith in
                absurd (fresh (i, a, sym ei ∙ same ∙ ap (λ z. z.code) (new_at decls d j last)))
          ]
      | inr a ↦
          let first : i ≡ length decls = omega arith in
          let ei = ap (λ z. z.code) (new_at decls d i first) in
          elim (cases_lt j (length decls)) [
            | inl b ↦ absurd (fresh (j, b, sym (ap (λ z. z.code) (old_at decls d j b)) ∙ sym same ∙ ei))
            | inr b ↦ omega arith
          ]
    ]

-- another key is not equal
pub apart_at : (k q : ℕ) → q ≢ k → is_eq (nat_cmp k q) ≡ false
apart_at k q other = grind (arith, nat_tests)

pub added : (decls after : List Decl) (d : Decl) (others : BTreeMap ℕ ℕ) → after ≡ decls ++ d ∷ [] → IsIndex (decls ++ d ∷ []) others → length decls < 2 ^ 32 - 1 → (HasCode decls d.code → ⊥) → IsAdded decls d after others true
added decls after d others e index few fresh =
    let size : length after ≡ length decls + 1 = ap length e ∙ length_push decls d in
    (e, subst (λ (z : List Decl). IsIndex z others) (sym e) index, omega arith, fresh)
