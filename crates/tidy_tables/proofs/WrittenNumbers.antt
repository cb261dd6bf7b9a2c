-- Tables that are numbered anew: a list of declarations with uses, and the list of the used ones among them by their numbers from 1 on. The
-- source of a new declaration is the old one that has its number.
use Rattle.std.proofs.Common.{◌≡◌, ◌≤◌, ◌<◌, ◌+◌, ◌-◌, inl, inr, ◌∙◌, ℕ, zero, suc, ltb, cond, List, [], ◌∷◌, length, get_or, ap, sym, refl, arith}
use Rattle.std.specs.List.{Contains, sum_by}
use Rattle.std.proofs.lemmas.Bool.{cases_lt, cond-true, lt-ltb}
use Rattle.std.proofs.lemmas.List.Sums.{sum_by-cons}
use Rattle.leb_codec.specs.Numbering.{IsUsed, number_bytes, numbering_size, used_count}
use Rattle.tidy_tables.proofs.WrittenLists.{AllDiffer}

-- CODES THAT RISE

-- Codes that rise, of which as many as there are places are the numbers from 1 on, are these numbers in their order.
module _ (code : ℕ → ℕ) (n : ℕ) (rising : (k l : ℕ) → k < l → l < n → code k < code l) (all : (c : ℕ) → 1 ≤ c → c ≤ n → (k : ℕ) × (k < n) × (code k ≡ c)) where
  -- lower codes stand before higher ones
  lower : (k l : ℕ) → k < n → l < n → code k < code l → k < l
  lower k l here there less = elim (cases_lt k l) [
    | inl before ↦ before
    | inr behind ↦ elim (cases_lt l k) [
      | inl after ↦ (let rises = rising l k after here in absurd (omega arith))
      | inr not_after ↦ (let same : k ≡ l = omega arith in let codes : code k ≡ code l = ap code same in absurd (omega arith))
    ]
  ]

  -- so many stand before it
  at_least : (c k : ℕ) → k < n → code k ≡ suc c → suc c ≤ n → c ≤ k
  at_least zero k inside is within = omega arith
  at_least (suc c) k inside is within =
      let (l, there, has) = all (suc c) (omega arith) (omega arith) in
      let before : c ≤ l = at_least c l there has (omega arith) in
      let less : l < k = lower l k there inside (omega arith) in
      omega arith

  -- and so many behind it
  at_most : (d c k : ℕ) → c + d ≡ n → 1 ≤ c → k < n → code k ≡ c → suc k ≤ c
  at_most zero c k size some inside is = omega arith
  at_most (suc d) c k size some inside is =
      let (l, there, has) = all (suc c) (omega arith) (omega arith) in
      let before : suc l ≤ suc c = at_most d (suc c) l (omega arith) (omega arith) there has in
      let less : k < l = lower k l inside there (omega arith) in
      omega arith

  pub code_is : (k : ℕ) → k < n → code k ≡ k + 1
  code_is k inside =
      let (l, there, has) = all (suc k) (omega arith) (omega arith) in
      let low : k ≤ l = at_least k l there has (omega arith) in
      let high : suc l ≤ suc k = at_most (n - suc k) (suc k) l (omega arith) (omega arith) there has in
      let same : l ≡ k = omega arith in
      let here : code k ≡ suc k = ap code (sym same) ∙ has in
      omega arith

-- USED PLACES

-- the places of those that have uses, where the first one has a number
abbrev pub used_from : ℕ → List ℕ → List ℕ
used_from i [] = []
used_from i (zero ∷ uses) = used_from (suc i) uses
used_from i (suc n ∷ uses) = i ∷ used_from (suc i) uses

-- they are used
pub used_there : (i : ℕ) (uses : List ℕ) (z : ℕ) → Contains (used_from i uses) z → (k : ℕ) × (z ≡ i + k) × IsUsed uses k
used_there i [] z (k, inside, is) = absurd (omega arith)
used_there i (zero ∷ uses) z among =
    let (k, place, used) = used_there (suc i) uses z among in
    (suc k, omega arith, record { inside = (let within = used.inside in omega arith); some = used.some })
used_there i (suc n ∷ uses) z (zero, inside, is) = (0, omega arith, record { inside = omega arith; some = omega arith })
used_there i (suc n ∷ uses) z (suc k, inside, is) =
    let (l, place, used) = used_there (suc i) uses z (k, omega arith, is) in
    (suc l, omega arith, record { inside = (let within = used.inside in omega arith); some = used.some })

-- none is there twice
pub used_differ : (i : ℕ) (uses : List ℕ) → AllDiffer (used_from i uses)
used_differ i [] = tt
used_differ i (zero ∷ uses) = used_differ (suc i) uses
used_differ i (suc n ∷ uses) = (λ z among same. (let (k, place, used) = used_there (suc i) uses z among in omega arith), used_differ (suc i) uses)

pub used_size : (i : ℕ) (uses : List ℕ) → length (used_from i uses) ≡ used_count uses
used_size i [] = refl
used_size i (zero ∷ uses) =
    let rest : length (used_from (suc i) uses) ≡ used_count uses = used_size (suc i) uses in
    let more : used_count (zero ∷ uses) ≡ 0 + used_count uses = sum_by-cons (λ (n : ℕ). cond (ltb 0 n) 1 0) zero uses in
    omega arith
used_size i (suc n ∷ uses) =
    let rest : length (used_from (suc i) uses) ≡ used_count uses = used_size (suc i) uses in
    let more : used_count (suc n ∷ uses) ≡ cond {A = ℕ} (ltb 0 (suc n)) 1 0 + used_count uses = sum_by-cons (λ (n : ℕ). cond (ltb 0 n) 1 0) (suc n) uses in
    let one : cond {A = ℕ} (ltb 0 (suc n)) 1 0 ≡ 1 = cond-true {A = ℕ} (ltb 0 (suc n)) 1 0 (lt-ltb 0 (suc n) (omega arith)) in
    omega arith

-- the bytes of a numbering are those of the used ones
pub size_used : (i : ℕ) (uses numbers : List ℕ) (f : ℕ → ℕ) → length numbers ≡ length uses → ((k : ℕ) → k < length uses → f (i + k) ≡ number_bytes (get_or uses k 0) (get_or numbers k 0)) → numbering_size uses numbers ≡ sum_by f (used_from i uses)
size_used i [] [] f size each = refl
size_used i [] (x ∷ numbers) f size each = absurd (omega arith)
size_used i (n ∷ uses) [] f size each = absurd (omega arith)
size_used i (zero ∷ uses) (x ∷ numbers) f size each =
    let rest : numbering_size uses numbers ≡ sum_by f (used_from (suc i) uses) =
    size_used (suc i) uses numbers f (omega arith) (λ k inside.
    ap f (let e : suc i + k ≡ i + suc k = omega arith in e) ∙ each (suc k) (omega arith)) in
    let none : numbering_size (zero ∷ uses) (x ∷ numbers) ≡ 0 + numbering_size uses numbers = refl in
    omega arith
size_used i (suc n ∷ uses) (x ∷ numbers) f size each =
    let rest : numbering_size uses numbers ≡ sum_by f (used_from (suc i) uses) =
    size_used (suc i) uses numbers f (omega arith) (λ k inside.
    ap f (let e : suc i + k ≡ i + suc k = omega arith in e) ∙ each (suc k) (omega arith)) in
    let sum : sum_by f (i ∷ used_from (suc i) uses) ≡ f i + sum_by f (used_from (suc i) uses) = sum_by-cons f i (used_from (suc i) uses) in
    let here : f (i + 0) ≡ number_bytes (suc n) x = each 0 (omega arith) in
    let at : f (i + 0) ≡ f i = ap f (let e : i + 0 ≡ i = omega arith in e) in
    ap (λ (z : ℕ). z + numbering_size uses numbers) (sym here ∙ at) ∙ ap (λ (z : ℕ). f i + z) rest ∙ sym sum

-- those of a numbering whose places are listed
pub size_listed : (uses numbers places : List ℕ) (f : ℕ → ℕ) → length numbers ≡ length uses → length places ≡ length uses → ((k : ℕ) → k < length uses → f (get_or places k 0) ≡ number_bytes (get_or uses k 0) (get_or numbers k 0)) → numbering_size uses numbers ≡ sum_by f places
size_listed [] [] [] f size long each = refl
size_listed [] (x ∷ numbers) places f size long each = absurd (omega arith)
size_listed [] [] (p ∷ places) f size long each = absurd (omega arith)
size_listed (n ∷ uses) [] places f size long each = absurd (omega arith)
size_listed (n ∷ uses) (x ∷ numbers) [] f size long each = absurd (omega arith)
size_listed (n ∷ uses) (x ∷ numbers) (p ∷ places) f size long each =
    let rest : numbering_size uses numbers ≡ sum_by f places = size_listed uses numbers places f (omega arith) (omega arith) (λ k inside. each (suc k) (omega arith)) in
    let sum : sum_by f (p ∷ places) ≡ f p + sum_by f places = sum_by-cons f p places in
    let here : f p ≡ number_bytes n x = each 0 (omega arith) in
    let whole : numbering_size (n ∷ uses) (x ∷ numbers) ≡ number_bytes n x + numbering_size uses numbers = size_cons n x uses numbers in
    omega arith
  where
    size_cons : (n x : ℕ) (uses numbers : List ℕ) → numbering_size (n ∷ uses) (x ∷ numbers) ≡ number_bytes n x + numbering_size uses numbers
    size_cons n x uses numbers = refl
