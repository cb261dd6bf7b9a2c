-- Numbers, runs and records end by themselves.
use Rattle.std.proofs.Common.{◌≡◌, ◌<◌, ◌+◌, ℕ, suc, List, [], ◌∷◌, ◌++◌, length, get_or, ◌∙◌, sym, ap, refl, arith, inl, inr}
use Rattle.std.proofs.lemmas.List.{append_cancel_left, append-nil, length-append}
use Rattle.dw_base.specs.declared.record.Run.{Run}
use Rattle.spelled.specs.Spelled.{HasUniqueFronts, Joined}
use Rattle.spelled.specs.inside.Spelled.{HasBytes, GoesOn}
use Rattle.spelled.proofs.Joins.{regroup, joined_agree}
use Rattle.leb_codec.proofs.Fronts.{unique_u}
use Rattle.leb_codec.specs.Records.{Number, OfLines, OfList, OfLayout, pairs_of, pair_count, SpellsRun, SpellsRuns, SpellsNumbers, SpellsRecord}

pub unique_number : HasUniqueFronts Number
unique_number v w a b x y p q h = unique_u v w a b x y (p.0.0, p.1) (q.0.0, q.1) h

run_same : (v w : Run) → v.len ≡ w.len → v.number ≡ w.number → v ≡ w
run_same v w e f = ap (λ (z : ℕ). record { len = z; number = v.number }) e ∙ ap (λ (z : ℕ). record { len = w.len; number = z }) f

pub unique_run : HasUniqueFronts SpellsRun
unique_run v w a b x y p q h =
    let g : p.len ++ (p.number ++ x) ≡ q.len ++ (q.number ++ y) = regroup p.len p.number x q.len q.number y (sym (ap (λ z. z ++ x) p.whole) ∙ h ∙ ap (λ z. z ++ y) q.whole) in
    let one = unique_number v.len w.len p.len q.len (p.number ++ x) (q.number ++ y) p.len_is q.len_is g in
    let g2 : p.number ++ x ≡ q.number ++ y = append_cancel_left q.len (p.number ++ x) (q.number ++ y) (ap (λ z. z ++ (p.number ++ x)) (sym one.0) ∙ g) in
    let two = unique_number v.number w.number p.number q.number x y p.number_is q.number_is g2 in
    (p.whole ∙ ap (λ z. z ++ p.number) one.0 ∙ ap (λ z. q.len ++ z) two.0 ∙ sym q.whole, run_same v w one.1 two.1)

pub pairs_append : (a b : List Run) → pairs_of (a ++ b) ≡ pairs_of a + pairs_of b
pairs_append [] b = omega arith
pairs_append (r ∷ a) b =
    let more : pairs_of (a ++ b) ≡ pairs_of a + pairs_of b = pairs_append a b in
    omega arith

no_pairs : (more : List Run) (tail : List ℕ) → Joined SpellsRun more tail → pairs_of more ≡ 0 → (more ≡ []) × (tail ≡ [])
no_pairs [] tail j e = (refl, j)
no_pairs (r ∷ more) tail (first, rest, s, j, f) e =
    let some : 0 < r.len = s.run_is.some in
    absurd (omega arith)

runs_end : (v w : List Run) (a b : List ℕ) → GoesOn SpellsRun v a w b → pairs_of v ≡ pair_count → pairs_of w ≡ pair_count → (a ≡ b) × (v ≡ w)
runs_end v w a b o p q =
    let size : pairs_of w ≡ pairs_of v + pairs_of o.more = ap pairs_of o.values ∙ pairs_append v o.more in
    let none = no_pairs o.more o.tail o.spelled (omega arith) in
    (sym (o.bytes ∙ ap (λ z. a ++ z) none.1 ∙ append-nil a), sym (o.values ∙ ap (λ z. v ++ z) none.0 ∙ append-nil v))

pub unique_runs : HasUniqueFronts SpellsRuns
unique_runs v w a b x y p q h =
    elim (joined_agree SpellsRun unique_run v w a b x y p.1 q.1 h) [
      | inl o ↦ runs_end v w a b o p.0.all q.0.all
      | inr o ↦ let e = runs_end w v b a o q.0.all p.0.all in (sym e.0, sym e.1)
    ]

nothing_more : {V : Type 0} (S : V → List ℕ → Type 0) (more : List V) (tail : List ℕ) → Joined S more tail → length more ≡ 0 → (more ≡ []) × (tail ≡ [])
nothing_more S [] tail j e = (refl, j)
nothing_more S (v ∷ more) tail j e = absurd (omega arith)

counted_end : {V : Type 0} (S : V → List ℕ → Type 0) (v w : List V) (a b : List ℕ) → GoesOn S v a w b → length v ≡ length w → (a ≡ b) × (v ≡ w)
counted_end S v w a b o same =
    let size : length w ≡ length v + length o.more = ap length o.values ∙ length-append v o.more in
    let none = nothing_more S o.more o.tail o.spelled (omega arith) in
    (sym (o.bytes ∙ ap (λ z. a ++ z) none.1 ∙ append-nil a), sym (o.values ∙ ap (λ z. v ++ z) none.0 ∙ append-nil v))

-- as many values are one description of their bytes
pub unique_counted : {V : Type 0} (S : V → List ℕ → Type 0) → HasUniqueFronts S → (v w : List V) (a b x y : List ℕ) → Joined S v a → Joined S w b → length v ≡ length w → a ++ x ≡ b ++ y → (a ≡ b) × (v ≡ w)
unique_counted S u v w a b x y p q same h =
    elim (joined_agree S u v w a b x y p q h) [
      | inl o ↦ counted_end S v w a b o same
      | inr o ↦ let e = counted_end S w v b a o (sym same) in (sym e.0, sym e.1)
    ]

pub unique_numbers : HasUniqueFronts SpellsNumbers
unique_numbers v w a b x y p q h =
    let g : p.count ++ (p.body ++ x) ≡ q.count ++ (q.body ++ y) = regroup p.count p.body x q.count q.body y (sym (ap (λ z. z ++ x) p.whole) ∙ h ∙ ap (λ z. z ++ y) q.whole) in
    let one = unique_number (length v) (length w) p.count q.count (p.body ++ x) (q.body ++ y) p.count_is q.count_is g in
    let g2 : p.body ++ x ≡ q.body ++ y = append_cancel_left q.count (p.body ++ x) (q.body ++ y) (ap (λ z. z ++ (p.body ++ x)) (sym one.0) ∙ g) in
    let two = unique_counted Number unique_number v w p.body q.body x y p.body_is q.body_is one.1 g2 in
    (p.whole ∙ ap (λ z. z ++ p.body) one.0 ∙ ap (λ z. q.count ++ z) two.0 ∙ sym q.whole, two.1)

-- records of two kinds begin with two bytes
pub same_kind : (k l : ℕ) (a b p q x y : List ℕ) → a ≡ k ∷ p → b ≡ l ∷ q → a ++ x ≡ b ++ y → k ≡ l
same_kind k l a b p q x y e f h = ap (λ z. get_or z 0 0) (sym (ap (λ z. z ++ x) e) ∙ h ∙ ap (λ z. z ++ y) f)

pub after_kind : (k : ℕ) (a b p q x y : List ℕ) → a ≡ k ∷ p → b ≡ k ∷ q → a ++ x ≡ b ++ y → p ++ x ≡ q ++ y
after_kind k a b p q x y e f h = append_cancel_left (k ∷ []) (p ++ x) (q ++ y) (sym (ap (λ z. z ++ x) e) ∙ h ∙ ap (λ z. z ++ y) f)

with_kind : (k : ℕ) (a b p q : List ℕ) → a ≡ k ∷ p → b ≡ k ∷ q → p ≡ q → a ≡ b
with_kind k a b p q e f h = e ∙ ap (λ z. k ∷ z) h ∙ sym f

pub unique_record : HasUniqueFronts SpellsRecord
unique_record (OfLines v) (OfLines w) a b x y (p, s, e) (q, t, f) h =
    let one = unique_runs v w p q x y s t (after_kind 1 a b p q x y e f h) in
    (with_kind 1 a b p q e f one.0, ap OfLines one.1)
unique_record (OfList v) (OfList w) a b x y (p, s, e) (q, t, f) h =
    let one = unique_numbers v w p q x y s t (after_kind 2 a b p q x y e f h) in
    (with_kind 2 a b p q e f one.0, ap OfList one.1)
unique_record (OfLayout v) (OfLayout w) a b x y (p, s, e) (q, t, f) h =
    let one = unique_numbers v w p q x y s t (after_kind 3 a b p q x y e f h) in
    (with_kind 3 a b p q e f one.0, ap OfLayout one.1)
unique_record (OfLines v) (OfList w) a b x y (p, s, e) (q, t, f) h = let k = same_kind 1 2 a b p q x y e f h in absurd (omega arith)
unique_record (OfLines v) (OfLayout w) a b x y (p, s, e) (q, t, f) h = let k = same_kind 1 3 a b p q x y e f h in absurd (omega arith)
unique_record (OfList v) (OfLines w) a b x y (p, s, e) (q, t, f) h = let k = same_kind 2 1 a b p q x y e f h in absurd (omega arith)
unique_record (OfList v) (OfLayout w) a b x y (p, s, e) (q, t, f) h = let k = same_kind 2 3 a b p q x y e f h in absurd (omega arith)
unique_record (OfLayout v) (OfLines w) a b x y (p, s, e) (q, t, f) h = let k = same_kind 3 1 a b p q x y e f h in absurd (omega arith)
unique_record (OfLayout v) (OfList w) a b x y (p, s, e) (q, t, f) h = let k = same_kind 3 2 a b p q x y e f h in absurd (omega arith)

pub number_bytes : HasBytes Number
number_bytes v a p = p.0.0.0.filled

pub record_bytes : HasBytes SpellsRecord
record_bytes (OfLines v) a (p, s, e) = let size : length a ≡ suc (length p) = ap length e in omega arith
record_bytes (OfList v) a (p, s, e) = let size : length a ≡ suc (length p) = ap length e in omega arith
record_bytes (OfLayout v) a (p, s, e) = let size : length a ≡ suc (length p) = ap length e in omega arith
