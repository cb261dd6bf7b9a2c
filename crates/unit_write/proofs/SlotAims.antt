-- What the slots of a unit tell: how many there are, and which is which.
use Rattle.std.proofs.Common.{◌≡◌, ◌≤◌, ◌<◌, ◌+◌, ◌-◌, ℕ, zero, suc, List, [], ◌∷◌, ◌++◌, length, get_or, take, drop, sum, Bool, true, false, ◌∙◌, sym, ap, refl, arith, add-zero}
use Rattle.std.specs.Prelude.{if◌then◌else◌, cond, nat_eq}
use Rattle.std.proofs.lemmas.List.{length-append, append_assoc, append-nil, get_or-append-add, get_or_append_left}
use Rattle.std.proofs.lemmas.List.Sums.{sum_by-cons, sum_by-take-le}
use Rattle.expr_ops.specs.Expressions.{Operation}
use Rattle.expr_ops.specs.Drafts.{is_slot}
use Rattle.expr_ops.specs.Shortest.{fixed_length}
use Rattle.expr_ops.specs.Slots.{Aim, slots_among, slot_form, length_aim, op_aim, op_aims, expression_aims}
use Rattle.expr_ops.specs.Slots.Aim.{Place, Length}
use Rattle.form_codec.specs.Forms.{Meaning}
use Rattle.form_codec.specs.Forms.Meaning.{Expression, InUnit}
use Rattle.entry_arena.specs.Arena.{Arena}
use Rattle.entry_read.specs.Slots.{value_aims, aims_before, meaning_at, slots_before, aim_at}
use Rattle.unit_write.specs.inside.Marks.{AreSlotNumbers}
use Rattle.unit_write.proofs.SlotLists.{sum_next}

-- OPERATIONS

pub fixed_take : (n : ℕ) (os : List Operation) → fixed_length (take n os) ≤ fixed_length os
fixed_take zero os = omega arith
fixed_take (suc n) [] = omega arith
fixed_take (suc n) (o ∷ os) = let less : fixed_length (take n os) ≤ fixed_length os = fixed_take n os in omega arith

pub fixed_drop : (n : ℕ) (os : List Operation) → fixed_length (drop n os) ≤ fixed_length os
fixed_drop zero os = omega arith
fixed_drop (suc n) [] = omega arith
fixed_drop (suc n) (o ∷ os) = let less : fixed_length (drop n os) ≤ fixed_length os = fixed_drop n os in omega arith

pub slots_take : (n : ℕ) (os : List Operation) → slots_among (take n os) ≤ slots_among os
slots_take n os = sum_by-take-le (λ (o : Operation). cond (is_slot o.code o.a) 1 0) os n

-- one more aim, if there is a slot
abbrev aims_by : Bool → Aim → List Aim → List Aim
aims_by b aim aims = if b then aim ∷ aims else aims

by_length : (b : Bool) (aim : Aim) (aims : List Aim) → length (aims_by b aim aims) ≡ cond b 1 0 + length aims
by_length true aim aims = omega arith
by_length false aim aims = omega arith

pub op_aims_length : (os : List Operation) → length (op_aims os) ≡ slots_among os
op_aims_length [] = refl
op_aims_length (o ∷ os) =
    let more : length (op_aims os) ≡ slots_among os = op_aims_length os in
    let here : length (op_aims (o ∷ os)) ≡ cond (is_slot o.code o.a) 1 0 + length (op_aims os) = by_length (is_slot o.code o.a) (op_aim o os) (op_aims os) in
    let count : slots_among (o ∷ os) ≡ cond (is_slot o.code o.a) 1 0 + slots_among os = sum_by-cons (λ (p : Operation). cond (is_slot p.code p.a) 1 0) o os in
    omega arith

pub aims_yes : (o : Operation) (os : List Operation) → is_slot o.code o.a ≡ true → op_aims (o ∷ os) ≡ op_aim o os ∷ op_aims os
aims_yes o os has = ap (λ (b : Bool). aims_by b (op_aim o os) (op_aims os)) has

pub aims_no : (o : Operation) (os : List Operation) → is_slot o.code o.a ≡ false → op_aims (o ∷ os) ≡ op_aims os
aims_no o os none = ap (λ (b : Bool). aims_by b (op_aim o os) (op_aims os)) none

pub expression_length : (os : List Operation) → length (expression_aims os) ≡ suc (slots_among os)
expression_length os = ap suc (op_aims_length os)

-- VALUES

-- a reference within the unit or an expression: a value whose bytes depend on slots
abbrev pub has_len : Meaning → Bool
has_len (InUnit n) = true
has_len (Expression bytes) = true
has_len meaning = false

-- another value has no slots
no_aims : (meaning : Meaning) (os : List Operation) → has_len meaning ≡ false → value_aims meaning os ≡ []
no_aims (InUnit n) os none = absurd (cc (none))
no_aims (Expression bytes) os none = absurd (cc (none))
no_aims meaning os none = refl

module _ (f : Arena) (ops : ℕ → List Operation) where
  pub slots_next : (k : ℕ) → slots_before f ops (suc k) ≡ slots_before f ops k + length (value_aims (meaning_at f k) (ops k))
  slots_next k = length-append (aims_before (meaning_at f) ops k) (value_aims (meaning_at f k) (ops k))

  pub slots_rise : (k : ℕ) → slots_before f ops k ≤ slots_before f ops (suc k)
  slots_rise k = let next = slots_next k in omega (arith, next)

  pub slots_none : (k : ℕ) → has_len (meaning_at f k) ≡ false → slots_before f ops (suc k) ≡ slots_before f ops k
  slots_none k none =
      let next = slots_next k in
      let nothing : length (value_aims (meaning_at f k) (ops k)) ≡ 0 = ap length (no_aims (meaning_at f k) (ops k) none) in
      omega (arith, next, nothing)

  pub slots_summed : (slots : List ℕ) → AreSlotNumbers f ops slots → (k : ℕ) → k ≤ length f.values → sum (take k slots) ≡ slots_before f ops k
  slots_summed slots h zero lt = refl
  slots_summed slots h (suc k) lt =
      let before : sum (take k slots) ≡ slots_before f ops k = slots_summed slots h k (omega arith) in
      let own : get_or slots k 0 ≡ length (value_aims (meaning_at f k) (ops k)) = h.each k (omega arith) in
      let more : sum (take (suc k) slots) ≡ sum (take k slots) + get_or slots k 0 = sum_next slots k in
      let next : slots_before f ops (suc k) ≡ slots_before f ops k + length (value_aims (meaning_at f k) (ops k)) = slots_next k in
      omega arith

  -- the aims of so many more values stand behind
  aims_on : (k more : ℕ) → (rest : List Aim) × (aims_before (meaning_at f) ops (k + more) ≡ aims_before (meaning_at f) ops k ++ rest)
  aims_on k zero = ([], ap (aims_before (meaning_at f) ops) (add-zero k) ∙ sym (append-nil (aims_before (meaning_at f) ops k)))
  aims_on k (suc more) =
      let own : List Aim = value_aims (meaning_at f (k + more)) (ops (k + more)) in
      let r = aims_on k more in
      let e : k + suc more ≡ suc (k + more) = omega arith in
      (r.0 ++ own, ap (aims_before (meaning_at f) ops) e ∙ ap (λ (z : List Aim). z ++ own) r.1 ∙ append_assoc (aims_before (meaning_at f) ops k) r.0 own)

  -- those of a value stand behind those of the values before it
  aims_of_value : (k n : ℕ) → k < n → (rest : List Aim) × (aims_before (meaning_at f) ops n ≡ aims_before (meaning_at f) ops k ++ (value_aims (meaning_at f k) (ops k) ++ rest))
  aims_of_value k n lt =
      let e : n ≡ suc k + (n - suc k) = omega arith in
      let r = aims_on (suc k) (n - suc k) in
      (r.0, ap (aims_before (meaning_at f) ops) e ∙ r.1 ∙ append_assoc (aims_before (meaning_at f) ops k) (value_aims (meaning_at f k) (ops k)) r.0)

  pub slots_up : (k n : ℕ) → k ≤ n → slots_before f ops k ≤ slots_before f ops n
  slots_up k n le =
      let r = aims_on k (n - k) in
      let e : k + (n - k) ≡ n = omega arith in
      let long : length (aims_before (meaning_at f) ops (k + (n - k))) ≡ slots_before f ops k + length r.0 = ap length r.1 ∙ length-append (aims_before (meaning_at f) ops k) r.0 in
      let same : length (aims_before (meaning_at f) ops (k + (n - k))) ≡ slots_before f ops n = ap (slots_before f ops) e in
      omega (arith, long, same)

  pub aim_of_value : (k n i : ℕ) → k < n → i < length (value_aims (meaning_at f k) (ops k)) → aim_at (aims_before (meaning_at f) ops n) (slots_before f ops k + i) ≡ aim_at (value_aims (meaning_at f k) (ops k)) i
  aim_of_value k n i lt inside =
      let r = aims_of_value k n lt in
      let own : List Aim = value_aims (meaning_at f k) (ops k) in
      ap (λ (z : List Aim). aim_at z (slots_before f ops k + i)) r.1
      ∙ get_or-append-add (aims_before (meaning_at f) ops k) (own ++ r.0) i (Length 0 0)
      ∙ get_or_append_left own r.0 (Length 0 0) i inside

-- RANGES

-- a length counts few bytes that are no slot's, and no more slots than follow
abbrev pub IsWithin : ℕ → ℕ → Aim → Type 0
IsWithin most left (Place form n) = Unit {0}
IsWithin most left (Length fixed count) = (fixed < most) × (count ≤ left)

abbrev pub AreWithin : ℕ → List Aim → Type 0
AreWithin most [] = Unit {0}
AreWithin most (aim ∷ aims) = IsWithin most (length aims) aim × AreWithin most aims

more_left : (most left more : ℕ) (aim : Aim) → left ≤ more → IsWithin most left aim → IsWithin most more aim
more_left most left more (Place form n) le h = tt
more_left most left more (Length fixed count) le (small, few) = (small, omega arith)

pub within_append : (most : ℕ) (xs ys : List Aim) → AreWithin most xs → AreWithin most ys → AreWithin most (xs ++ ys)
within_append most [] ys h g = g
within_append most (x ∷ xs) ys h g =
    let long : length (xs ++ ys) ≡ length xs + length ys = length-append xs ys in
    (more_left most (length xs) (length (xs ++ ys)) x (omega arith) h.0, within_append most xs ys h.1 g)

pub within_at : (most : ℕ) (aims : List Aim) (i : ℕ) → AreWithin most aims → i < length aims → IsWithin most (length aims - suc i) (aim_at aims i)
within_at most [] i h lt = absurd (omega arith)
within_at most (x ∷ xs) zero h lt = more_left most (length xs) (length (x ∷ xs) - 1) x (omega arith) h.0
within_at most (x ∷ xs) (suc i) h lt = more_left most (length xs - suc i) (length (x ∷ xs) - suc (suc i)) (aim_at xs i) (omega arith) (within_at most xs i h.1 (omega arith))

-- what an entry_value holds is a part of what follows
aim_within : (b : Bool) (most n : ℕ) (place : Aim) (os : List Operation) → ((left : ℕ) → IsWithin most left place) → fixed_length os < most → IsWithin most (length (op_aims os)) (if b then length_aim (take n os) else place)
aim_within true most n place os free small =
    let fixed : fixed_length (take n os) ≤ fixed_length os = fixed_take n os in
    let few : slots_among (take n os) ≤ slots_among os = slots_take n os in
    let all : length (op_aims os) ≡ slots_among os = op_aims_length os in
    (omega arith, omega arith)
aim_within false most n place os free small = free (length (op_aims os))

by_within : (b : Bool) (most : ℕ) (aim : Aim) (aims : List Aim) → IsWithin most (length aims) aim → AreWithin most aims → AreWithin most (aims_by b aim aims)
by_within true most aim aims h g = (h, g)
by_within false most aim aims h g = g

op_aims_within : (most : ℕ) (os : List Operation) → fixed_length os < most → AreWithin most (op_aims os)
op_aims_within most [] small = tt
op_aims_within most (o ∷ os) small =
    by_within (is_slot o.code o.a) most (op_aim o os) (op_aims os) (aim_within (nat_eq o.code 163) most o.inner (Place (slot_form o.code) o.a) os (λ left. tt) (omega arith)) (op_aims_within most os (omega arith))

pub expression_within : (most : ℕ) (os : List Operation) → fixed_length os < most → AreWithin most (expression_aims os)
expression_within most os small =
    let all : length (op_aims os) ≡ slots_among os = op_aims_length os in
    ((small, omega arith), op_aims_within most os small)

value_within : (most : ℕ) (meaning : Meaning) (os : List Operation) → fixed_length os < most → AreWithin most (value_aims meaning os)
value_within most (InUnit n) os small = (tt, tt)
value_within most (Expression bytes) os small = expression_within most os small
value_within most meaning os small = tt

pub aims_within : (most : ℕ) (f : Arena) (ops : ℕ → List Operation) (k : ℕ) → ((n : ℕ) → n < k → fixed_length (ops n) < most) → AreWithin most (aims_before (meaning_at f) ops k)
aims_within most f ops zero small = tt
aims_within most f ops (suc k) small =
    within_append most (aims_before (meaning_at f) ops k) (value_aims (meaning_at f k) (ops k)) (aims_within most f ops k (λ n lt. small n (omega arith))) (value_within most (meaning_at f k) (ops k) (small k (omega arith)))
