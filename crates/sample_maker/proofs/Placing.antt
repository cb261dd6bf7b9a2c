-- What is placed of things one after the other: that it holds of each, that places rise, and of which thing each is.
use Rattle.std.proofs.Common.{◌≡◌, ◌≤◌, ◌<◌, ◌+◌, ℕ, zero, suc, List, [], ◌∷◌, ◌++◌, length, get_or, map, take, ◌∙◌, sym, ap, refl, subst, arith, inl, inr}
use Rattle.std.specs.List.{All, Contains, concat}
use Rattle.std.proofs.lemmas.Bool.{cases_order}
use Rattle.std.proofs.lemmas.List.{append_assoc, length-append, length-map, get_or-map, get_or_default}
use Rattle.std.proofs.lemmas.List.Elements.{All-nil, All-append, All-tail, Contains-append_cases, Contains-append_left, Contains-append_right, Contains-get_or}
use Rattle.sample_maker.specs.Numbered.{join_from}
use Rattle.sample_maker.specs.inside.ReadLists.{placed_from}

-- EACH

-- It holds of all that is placed of things where it does of what is placed of each: of each that is one of these, has a number below a limit,
-- and whose bytes stand behind some others.
pub all_placed : {X T : Type 0} (P : T → Type 0) (Q : X → Type 0) (say : ℕ → X → List ℕ) (place : ℕ → ℕ → X → List T) (whole : List ℕ) (limit : ℕ) → ((before after : List ℕ) (i n : ℕ) (x : X) → whole ≡ before ++ (say i x ++ after) → n ≡ length before → i < limit → Q x → All P (place i n x)) → (before after : List ℕ) (i n : ℕ) (xs : List X) → whole ≡ before ++ (join_from say i xs ++ after) → n ≡ length before → i + length xs ≤ limit → All Q xs → All P (placed_from say place i n xs)
all_placed P Q say place whole limit each before after i n [] is counted few all = All-nil P
all_placed P Q say place whole limit each before after i n (x ∷ xs) is counted few all =
    let rest : List ℕ = join_from say (suc i) xs in
    let here : whole ≡ before ++ (say i x ++ (rest ++ after)) = is ∙ ap (λ (z : List ℕ). before ++ z) (append_assoc (say i x) rest after) in
    let behind : whole ≡ (before ++ say i x) ++ (rest ++ after) = here ∙ sym (append_assoc before (say i x) (rest ++ after)) in
    let place_is : n + length (say i x) ≡ length (before ++ say i x) = omega (arith, length-append before (say i x), counted) in
    All-append P (place i n x) (placed_from say place (suc i) (n + length (say i x)) xs) (each before (rest ++ after) i n x here counted (omega (arith, few)) (all 0 x (omega arith))) (all_placed P Q say place whole limit each (before ++ say i x) after (suc i) (n + length (say i x)) xs behind place_is (omega (arith, few)) (All-tail Q x xs all))

-- what is said without numbers
pub concat_joined : {X : Type 0} (say : X → List ℕ) (i : ℕ) (xs : List X) → join_from (λ (n : ℕ). say) i xs ≡ concat (map say xs)
concat_joined say i [] = refl
concat_joined say i (x ∷ xs) = ap (λ (z : List ℕ). say x ++ z) (concat_joined say (suc i) xs)

-- PLACES

-- the places of things rise strictly, from a place on up to another
abbrev pub Rise : {T : Type 0} → (T → ℕ) → ℕ → List T → ℕ → Type 0
Rise at low [] high = low ≤ high
Rise at low (t ∷ ts) high = (low ≤ at t) × Rise at (suc (at t)) ts high

rise_from : {T : Type 0} (at : T → ℕ) (low more : ℕ) (ts : List T) (high : ℕ) → low ≤ more → Rise at more ts high → Rise at low ts high
rise_from at low more [] high first rise = omega (arith, first, rise)
rise_from at low more (t ∷ ts) high first rise = (omega (arith, first, rise.0), rise.1)

pub rise_append : {T : Type 0} (at : T → ℕ) (low mid : ℕ) (ts others : List T) (high : ℕ) → Rise at low ts mid → Rise at mid others high → Rise at low (ts ++ others) high
rise_append at low mid [] others high first second = rise_from at low mid others high first second
rise_append at low mid (t ∷ ts) others high first second = (first.0, rise_append at (suc (at t)) mid ts others high first.1 second)

-- where those that are placed of one thing stand among its bytes, those of all do
pub placed_rise : {X T : Type 0} (at : T → ℕ) (say : ℕ → X → List ℕ) (place : ℕ → ℕ → X → List T) (first : ℕ) → ((i n : ℕ) (x : X) → Rise at (first + n) (place i n x) (first + (n + length (say i x)))) → (i n : ℕ) (xs : List X) → Rise at (first + n) (placed_from say place i n xs) (first + (n + length (join_from say i xs)))
placed_rise at say place first each i n [] = omega arith
placed_rise at say place first each i n (x ∷ xs) =
    let rest : Rise at (first + (n + length (say i x))) (placed_from say place (suc i) (n + length (say i x)) xs) (first + (n + length (say i x) + length (join_from say (suc i) xs))) = placed_rise at say place first each (suc i) (n + length (say i x)) xs in
    let size : first + (n + length (say i x) + length (join_from say (suc i) xs)) ≡ first + (n + length (join_from say i (x ∷ xs))) = omega (arith, length-append (say i x) (join_from say (suc i) xs)) in
    rise_append at (first + n) (first + (n + length (say i x))) (place i n x) (placed_from say place (suc i) (n + length (say i x)) xs) (first + (n + length (join_from say i (x ∷ xs)))) (each i n x) (subst (λ (z : ℕ). Rise at (first + (n + length (say i x))) (placed_from say place (suc i) (n + length (say i x)) xs) z) size rest)

-- all are at a place or behind it
rise_low : {T : Type 0} (at : T → ℕ) (low high : ℕ) (ts : List T) (k : ℕ) (d : T) → Rise at low ts high → k < length ts → low ≤ at (get_or ts k d)
rise_low at low high [] k d rise lt = absurd (omega (arith, lt))
rise_low at low high (t ∷ ts) zero d rise lt = rise.0
rise_low at low high (t ∷ ts) (suc k) d rise lt = omega (arith, rise.0, rise_low at (suc (at t)) high ts k d rise.1 (omega (arith, lt)))

-- so that a later one stands at a later place
pub rise_apart : {T : Type 0} (at : T → ℕ) (low high : ℕ) (ts : List T) (j k : ℕ) (d : T) → Rise at low ts high → j < k → k < length ts → at (get_or ts j d) < at (get_or ts k d)
rise_apart at low high [] j k d rise before lt = absurd (omega (arith, lt))
rise_apart at low high (t ∷ ts) j zero d rise before lt = absurd (omega (arith, before))
rise_apart at low high (t ∷ ts) zero (suc k) d rise before lt = rise_low at (suc (at t)) high ts k d rise.1 (omega (arith, lt))
rise_apart at low high (t ∷ ts) (suc j) (suc k) d rise before lt = rise_apart at (suc (at t)) high ts j k d rise.1 (omega (arith, before)) (omega (arith, lt))

-- the same of what is read of each
pub read_apart : {T R : Type 0} (at : T → ℕ) (read : T → R) (place : R → ℕ) (low high : ℕ) (ts : List T) (j k : ℕ) (d : T) (e : R) → ((s t : T) → at s < at t → place (read s) < place (read t)) → Rise at low ts high → j < k → k < length (map read ts) → place (get_or (map read ts) j e) < place (get_or (map read ts) k e)
read_apart {T} {R} at read place low high ts j k d e apart rise before lt =
    let inside : k < length ts = omega (arith, lt, length-map ts read) in
    let first : get_or (map read ts) j e ≡ read (get_or ts j d) = get_or-map read ts j d e (omega (arith, before, inside)) in
    let second : get_or (map read ts) k e ≡ read (get_or ts k d) = get_or-map read ts k d e inside in
    let far : place (read (get_or ts j d)) < place (read (get_or ts k d)) = apart (get_or ts j d) (get_or ts k d) (rise_apart at low high ts j k d rise before inside) in
    omega (arith, far, ap place first, ap place second)

-- WHICH

-- It is placed of the thing with the number `k` among these, which has a number and a place.
pub record IsPlacedOf {X T : Type 0} (say : ℕ → X → List ℕ) (place : ℕ → ℕ → X → List T) (i n : ℕ) (xs : List X) (d : X) (t : T) : Type 0 where
  pub k : ℕ
  pub number : ℕ
  pub at : ℕ
  pub inside : k < length xs
  pub numbered : number ≡ i + k
  pub stands : at ≡ n + length (join_from say i (take k xs))
  pub one : Contains (place number at (get_or xs k d)) t

pub placed_known : {X T : Type 0} (say : ℕ → X → List ℕ) (place : ℕ → ℕ → X → List T) (i n : ℕ) (xs : List X) (d : X) (t : T) → Contains (placed_from say place i n xs) t → IsPlacedOf say place i n xs d t
placed_known say place i n [] d t (k, lt, e) = absurd (omega (arith, lt))
placed_known say place i n (x ∷ xs) d t has =
    elim (Contains-append_cases (place i n x) (placed_from say place (suc i) (n + length (say i x)) xs) t has) [
      | inl here ↦ record { k = 0; number = i; at = n; inside = omega arith; numbered = omega arith; stands = omega arith; one = here }
      | inr behind ↦
          let later = placed_known say place (suc i) (n + length (say i x)) xs d t behind in
          record {
            k = suc later.k;
            number = later.number;
            at = later.at;
            inside = omega (arith, later.inside);
            numbered = omega (arith, later.numbered);
            stands = omega (arith, later.stands, length-append (say i x) (join_from say (suc i) (take later.k xs)));
            one = later.one;
          }
    ]

pub placed_there : {X T : Type 0} (say : ℕ → X → List ℕ) (place : ℕ → ℕ → X → List T) (i n : ℕ) (xs : List X) (d : X) (t : T) (k number at : ℕ) → k < length xs → number ≡ i + k → at ≡ n + length (join_from say i (take k xs)) → Contains (place number at (get_or xs k d)) t → Contains (placed_from say place i n xs) t
placed_there say place i n [] d t k number at lt numbered stands one = absurd (omega (arith, lt))
placed_there say place i n (x ∷ xs) d t zero number at lt numbered stands one =
    let same_number : number ≡ i = omega (arith, numbered) in
    let same_place : at ≡ n = omega (arith, stands) in
    Contains-append_left (place i n x) (placed_from say place (suc i) (n + length (say i x)) xs) t (subst (λ (z : ℕ). Contains (place i z x) t) same_place (subst (λ (z : ℕ). Contains (place z at x) t) same_number one))
placed_there say place i n (x ∷ xs) d t (suc k) number at lt numbered stands one =
    Contains-append_right (place i n x) (placed_from say place (suc i) (n + length (say i x)) xs) t (placed_there say place (suc i) (n + length (say i x)) xs d t k number at (omega (arith, lt)) (omega (arith, numbered)) (omega (arith, stands, length-append (say i x) (join_from say (suc i) (take k xs)))) one)

-- one thing that is placed
pub only_one : {T : Type 0} (s t : T) → Contains (s ∷ []) t → t ≡ s
only_one s t (zero, lt, e) = sym e
only_one s t (suc k, lt, e) = absurd (omega (arith, lt))

-- where places rise, no two are the same
pub place_once : {T : Type 0} (at : T → ℕ) (low high : ℕ) (ts : List T) (s t : T) → Rise at low ts high → Contains ts s → Contains ts t → at s ≡ at t → s ≡ t
place_once at low high ts s t rise (j, first, is_s) (k, second, is_t) same =
    let other : get_or ts k s ≡ t = get_or_default ts k s t second ∙ is_t in
    elim (cases_order j k) [
      | inl e ↦ sym is_s ∙ ap (λ (z : ℕ). get_or ts z s) e ∙ other
      | inr (inl before) ↦ let far : at (get_or ts j s) < at (get_or ts k s) = rise_apart at low high ts j k s rise before second in absurd (omega (arith, far, ap at is_s, ap at other, same))
      | inr (inr behind) ↦ let far : at (get_or ts k s) < at (get_or ts j s) = rise_apart at low high ts k j s rise behind first in absurd (omega (arith, far, ap at is_s, ap at other, same))
    ]

-- what is read of those that are placed, by its number
pub read_of_placed : {T R : Type 0} (read : T → R) (ts : List T) (t : T) (e : R) → Contains ts t → (k : ℕ) × (k < length (map read ts)) × (get_or (map read ts) k e ≡ read t)
read_of_placed read ts t e (k, lt, is) = (k, omega (arith, lt, length-map ts read), get_or-map read ts k t e lt ∙ ap read is)

pub placed_of_read : {T R : Type 0} (read : T → R) (ts : List T) (d : T) (k : ℕ) (e : R) → k < length (map read ts) → (t : T) × Contains ts t × (get_or (map read ts) k e ≡ read t)
placed_of_read read ts d k e lt =
    let inside : k < length ts = omega (arith, lt, length-map ts read) in
    (get_or ts k d, Contains-get_or ts k d inside, get_or-map read ts k d e inside)
