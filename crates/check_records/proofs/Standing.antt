-- Records that stand one after the other from the first bytes of a record file on.
use Rattle.std.proofs.Common.{◌≡◌, ◌≤◌, ◌<◌, ◌+◌, ◌-◌, ◌∙◌, inl, inr, ℕ, List, [], ◌∷◌, ◌++◌, length, take, drop, sym, ap, subst, refl, arith, true≢false, ◌↔◌}
use Rattle.std.specs.Prelude.{Some, None, IsNone}
use Rattle.std.proofs.lemmas.List.{append_assoc, append_cancel_left, append-nil, length-append, length-drop, drop_all, nil_from_length}
use Rattle.dw_base.specs.declared.classes.Classes.{Classes}
use Rattle.spelled.specs.Spelled.{Joined}
use Rattle.spelled.proofs.Joins.{joined_agree, joined_push, joined_filled}
use Rattle.spelled.proofs.Parts.{length_part}
use Rattle.leb_codec.specs.Records.{Record, SpellsRecord, SpellsFile, HasNone, IsBroken, magic}
use Rattle.certificates.specs.Reading.{IsRead}
use Rattle.certificates.proofs.Ends.{unique_record, record_bytes}
use Rattle.certificates.proofs.Stretches.{rest_after}

-- the first bytes and records stand up to a place
pub record Standing (classes : Classes) (l : List ℕ) (at : ℕ) (records : List Record) : Type 0 where
  pub front : List ℕ
  pub whole : l ≡ magic classes ++ (front ++ drop at l)
  pub spelled : Joined SpellsRecord records front
  pub place : at ≡ 8 + length front

pub standing_none : (classes : Classes) (l body : List ℕ) → l ≡ magic classes ++ body → Standing classes l 8 []
standing_none classes l body whole = record { front = []; whole = whole ∙ ap (λ (z : List ℕ). magic classes ++ z) (sym (ap (drop 8) whole)); spelled = refl; place = refl }

pub standing_inside : (classes : Classes) (l : List ℕ) (at : ℕ) (records : List Record) → Standing classes l at records → at ≤ length l
standing_inside classes l at records s =
    let all : length l ≡ 8 + length (s.front ++ drop at l) = ap length s.whole ∙ length-append (magic classes) (s.front ++ drop at l) in
    omega (arith, all, length-append s.front (drop at l), s.place)

pub standing_more : (classes : Classes) (l : List ℕ) (at : ℕ) (records : List Record) (one : Record) (next : ℕ) → Standing classes l at records → IsRead SpellsRecord l at one next → Standing classes l next (records ++ one ∷ [])
standing_more classes l at records one next s r =
    let part : List ℕ = take (next - at) (drop at l) in
    let size : length part ≡ next - at = length_part at (next - at) l (omega (arith, r.after, r.inside)) in
    let sum : length (s.front ++ part) ≡ length s.front + length part = length-append s.front part in
    record {
      front = s.front ++ part;
      whole = s.whole ∙ ap (λ (z : List ℕ). magic classes ++ (s.front ++ z)) (rest_after l at next r.after) ∙ ap (λ (z : List ℕ). magic classes ++ z) (sym (append_assoc s.front part (drop next l)));
      spelled = joined_push SpellsRecord records one s.front part s.spelled r.spelled;
      place = omega (arith, s.place, size, sum, r.after);
    }

pub standing_all : (classes : Classes) (l : List ℕ) (at : ℕ) (records : List Record) → Standing classes l at records → length l ≤ at → SpellsFile classes records l
standing_all classes l at records s end = (s.front, s.spelled, s.whole ∙ ap (λ (z : List ℕ). magic classes ++ (s.front ++ z)) (drop_all at l end) ∙ ap (λ (z : List ℕ). magic classes ++ z) (append-nil s.front))

pub standing_broken : (classes : Classes) (l : List ℕ) (at : ℕ) (records : List Record) → Standing classes l at records → at < length l → HasNone SpellsRecord (drop at l) → IsBroken classes l at
standing_broken classes l at records s inside none = inr (record {
  before = records;
  front = s.front;
  rest = drop at l;
  spelled = s.spelled;
  whole = s.whole;
  left = omega (arith, length-drop at l, inside);
  none = none;
  at = s.place;
})

-- WHAT IS LEFT

-- some of the records of a file, and those behind them
pub record Left (l : List ℕ) (at : ℕ) (records all : List Record) : Type 0 where
  pub behind : List Record
  pub whole : all ≡ records ++ behind
  pub spelled : Joined SpellsRecord behind (drop at l)

nothing_more : (more : List Record) (tail : List ℕ) → Joined SpellsRecord more tail → length tail ≡ 0 → more ≡ []
nothing_more [] tail j size = refl
nothing_more (one ∷ more) tail j size = let filled : 0 < length tail = joined_filled SpellsRecord record_bytes one more tail j in absurd (omega (arith, filled, size))

pub standing_left : (classes : Classes) (l : List ℕ) (at : ℕ) (records all : List Record) → Standing classes l at records → SpellsFile classes all l → Left l at records all
standing_left classes l at records all s (body, j, e) =
    let same : body ≡ s.front ++ drop at l = append_cancel_left (magic classes) body (s.front ++ drop at l) (sym e ∙ s.whole) in
    elim (joined_agree SpellsRecord unique_record records all s.front body (drop at l) [] s.spelled j (sym (append-nil body ∙ same))) [
      | inl o ↦
          let tail : drop at l ≡ o.tail = append_cancel_left s.front (drop at l) o.tail (sym same ∙ o.bytes) in
          record { behind = o.more; whole = o.values; spelled = subst (λ (z : List ℕ). Joined SpellsRecord o.more z) (sym tail) o.spelled }
      | inr o ↦
          let first : length body ≡ length s.front + length (drop at l) = ap length same ∙ length-append s.front (drop at l) in
          let second : length s.front ≡ length body + length o.tail = ap length o.bytes ∙ length-append body o.tail in
          let none : o.more ≡ [] = nothing_more o.more o.tail o.spelled (omega (arith, first, second)) in
          let end : drop at l ≡ [] = nil_from_length (drop at l) (omega (arith, first, second)) in
          record { behind = []; whole = sym (append-nil all) ∙ ap (λ (z : List Record). all ++ z) (sym none) ∙ sym o.values ∙ sym (append-nil records); spelled = end }
    ]

-- at the end nothing is left
pub left_none : (l : List ℕ) (at : ℕ) (behind : List Record) → Joined SpellsRecord behind (drop at l) → length l ≤ at → behind ≡ []
left_none l at behind j end = nothing_more behind (drop at l) j (ap length (drop_all at l end))

-- before it something is
pub left_some : (l : List ℕ) (at : ℕ) (behind : List Record) → Joined SpellsRecord behind (drop at l) → at < length l → (one : Record) × (more : List Record) × (behind ≡ one ∷ more)
left_some l at [] j inside = let none : length (drop at l) ≡ 0 = ap length j in absurd (omega (arith, none, length-drop at l, inside))
left_some l at (one ∷ more) j inside = (one, more, refl)

-- a record stands there
pub left_stands : (l : List ℕ) (at : ℕ) (behind : List Record) → Joined SpellsRecord behind (drop at l) → at < length l → HasNone SpellsRecord (drop at l) → ⊥
left_stands l at [] j inside none = let empty : length (drop at l) ≡ 0 = ap length j in omega (arith, empty, length-drop at l, inside)
left_stands l at (one ∷ more) (first, rest, s, j, e) inside none = none one first rest s e

-- it is the one that is read
pub left_read : (l : List ℕ) (at : ℕ) (behind : List Record) (read : Record) (next : ℕ) → Joined SpellsRecord behind (drop at l) → at < length l → IsRead SpellsRecord l at read next → (more : List Record) × (behind ≡ read ∷ more)
left_read l at [] read next j inside r = let none : length (drop at l) ≡ 0 = ap length j in absurd (omega (arith, none, length-drop at l, inside))
left_read l at (one ∷ more) read next (first, rest, s, j, e) inside r =
    let same = unique_record read one (take (next - at) (drop at l)) first (drop next l) rest r.spelled s (sym (rest_after l at next r.after) ∙ e) in
    (more, ap (λ (z : Record). z ∷ more) (sym same.1))

-- ANSWERS

pub answers_none : {P : Type 0} (T : Type 0) → P → IsNone {T = T} None ↔ P
answers_none T p = (λ e. p, λ q. refl)

pub answers_some : {P : Type 0} (T : Type 0) (x : T) → ¬ P → IsNone (Some x) ↔ P
answers_some T x n = (λ e. absurd (true≢false e), λ p. absurd (n p))
