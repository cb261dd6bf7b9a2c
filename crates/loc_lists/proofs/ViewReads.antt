-- View pairs that are read.
use Rattle.std.proofs.Common.{◌≡◌, ◌≤◌, ◌<◌, ◌+◌, ◌-◌, ◌*◌, ◌++◌, ◌∙◌, ℕ, List, [], ◌∷◌, length, take, drop, sym, ap, refl, subst, arith}
use Rattle.std.proofs.lemmas.List.{append_assoc, length-append}
use Rattle.spelled.specs.Spelled.{Joined}
use Rattle.spelled.proofs.Joins.{joined_push}
use Rattle.leb_codec.specs.Leb.{Uleb}
use Rattle.dw_base.specs.declared.fault.Kind.{Kind}
use Rattle.dw_base.specs.declared.fault.Kind.TheVariants.{Limit}
use Rattle.dw_base.specs.declared.fault.Fault.{Fault}
use Rattle.dw_base.specs.Refusals.{IsFaultOf}
use Rattle.list_model.specs.declared.contribution.Contribution.{Contribution}
use Rattle.list_model.specs.Contributions.{part_end}
use Rattle.loc_lists.specs.declared.views.ViewPair.{ViewPair}
use Rattle.loc_lists.specs.Views.{SpellsPair, IsRunAt, FaultView, FaultRun, FaultViews}
use Rattle.loc_lists.proofs.LocationReads.{cut, rest_and, part_length}
use Rattle.loc_lists.proofs.ViewLaws.{numbers_of, twice, spelled}

-- these pairs stand from a place up to another
pub record IsFront (bytes : List ℕ) (from : ℕ) (pairs : List ViewPair) (to : ℕ) : Type 0 where
  pub front : List ℕ
  pub spelled : Joined SpellsPair pairs front
  pub whole : drop from bytes ≡ front ++ drop to bytes
  pub place : to ≡ from + length front

pub no_front : (bytes : List ℕ) (from : ℕ) (pairs : List ViewPair) → pairs ≡ [] → IsFront bytes from pairs from
no_front bytes from pairs e = subst (λ (z : List ViewPair). IsFront bytes from z from) (sym e) (record { front = []; spelled = refl; whole = refl; place = omega arith })

-- bytes from a place up to another, and up to one more
longer : (bytes : List ℕ) (from to end : ℕ) (front : List ℕ) → to ≤ end → drop from bytes ≡ front ++ drop to bytes → drop from bytes ≡ (front ++ take (end - to) (drop to bytes)) ++ drop end bytes
longer bytes from to end front low e = e ∙ ap (λ (z : List ℕ). front ++ z) (rest_and bytes to end low) ∙ sym (append_assoc front (take (end - to) (drop to bytes)) (drop end bytes))

longer_length : (bytes : List ℕ) (to end : ℕ) (front : List ℕ) → to ≤ end → end ≤ length bytes → length (front ++ take (end - to) (drop to bytes)) ≡ length front + (end - to)
longer_length bytes to end front low high = length-append front (take (end - to) (drop to bytes)) ∙ ap (λ (z : ℕ). length front + z) (part_length bytes to end low high)

pub front_push : (bytes : List ℕ) (from to mid end : ℕ) (pairs : List ViewPair) (pair : ViewPair) → to ≤ mid → mid ≤ end → end ≤ length bytes → IsFront bytes from pairs to → Uleb pair.first (take (mid - to) (drop to bytes)) → Uleb pair.last (take (end - mid) (drop mid bytes)) → IsFront bytes from (pairs ++ pair ∷ []) end
front_push bytes from to mid end pairs pair low high inside f s t =
    let a = take (mid - to) (drop to bytes) in
    let b = take (end - mid) (drop mid bytes) in
    let place : to ≡ from + length f.front = f.place in
    let one : length (f.front ++ a) ≡ length f.front + (mid - to) = longer_length bytes to mid f.front low (omega arith) in
    let two : length ((f.front ++ a) ++ b) ≡ length (f.front ++ a) + (end - mid) = longer_length bytes mid end (f.front ++ a) high inside in
    record {
      front = f.front ++ (a ++ b);
      spelled = joined_push SpellsPair pairs pair f.front (a ++ b) f.spelled (a, b, s, t, refl);
      whole = longer bytes from mid end (f.front ++ a) high (longer bytes from to mid f.front low f.whole) ∙ ap (λ (z : List ℕ). z ++ drop end bytes) (append_assoc f.front a b);
      place = let size : length (f.front ++ (a ++ b)) ≡ length ((f.front ++ a) ++ b) = ap length (sym (append_assoc f.front a b)) in omega (arith, place, one, two, size, low, high);
    }

-- ---- in a contribution

pub front_run : (section : List ℕ) (part : Contribution) (at to : ℕ) (pairs : List ViewPair) → at ≤ part_end part → IsFront (take (part_end part) section) at pairs to → IsRunAt section part at pairs
front_run section part at to pairs inside f = record {
  run = f.front;
  rest = drop to (take (part_end part) section);
  spelled = f.spelled;
  whole = sym (cut section part at inside) ∙ f.whole;
}

-- a fault of a number is one of the pairs
as_views : (section : List ℕ) (part : Contribution) (at count : ℕ) (kind : Kind) (place : ℕ) → FaultRun section part at count kind place → FaultViews section part at count kind place
as_views section part at count Limit place f = absurd f.fault
as_views section part at count _ place f = f

number_fault : (section : List ℕ) (part : Contribution) (at to count origin : ℕ) (before front : List ℕ) (fault : Fault) → at ≤ part_end part → length before < 2 * count → Joined Uleb before front → drop at (take (part_end part) section) ≡ front ++ drop to (take (part_end part) section) → to ≡ at + length front → fault.place ≡ origin + to → FaultView fault.kind (drop to (take (part_end part) section)) → IsFaultOf (FaultViews section part at count) origin fault
number_fault section part at to count origin before front fault inside fewer j whole place e f =
    (to, e, as_views section part at count fault.kind to (record { before = before; front = front; rest = drop to (take (part_end part) section); fewer = fewer; spelled = j; fault = f; whole = sym (cut section part at inside) ∙ whole; here = place }))

-- the first number of a pair
pub first_fault : (section : List ℕ) (part : Contribution) (at to count origin : ℕ) (pairs : List ViewPair) (fault : Fault) → at ≤ part_end part → length pairs < count → IsFront (take (part_end part) section) at pairs to → fault.place ≡ origin + to → FaultView fault.kind (drop to (take (part_end part) section)) → IsFaultOf (FaultViews section part at count) origin fault
first_fault section part at to count origin pairs fault inside few f e g =
    let size : length (numbers_of pairs) ≡ 2 * length pairs = twice pairs in
    number_fault section part at to count origin (numbers_of pairs) f.front fault inside (omega (arith, few, size)) (spelled pairs f.front f.spelled) f.whole f.place e g

-- the second one
pub second_fault : (section : List ℕ) (part : Contribution) (at to mid count origin first : ℕ) (pairs : List ViewPair) (fault : Fault) → at ≤ part_end part → length pairs < count → IsFront (take (part_end part) section) at pairs to → to ≤ mid → mid ≤ length (take (part_end part) section) → Uleb first (take (mid - to) (drop to (take (part_end part) section))) → fault.place ≡ origin + mid → FaultView fault.kind (drop mid (take (part_end part) section)) → IsFaultOf (FaultViews section part at count) origin fault
second_fault section part at to mid count origin first pairs fault inside few f low high u e g =
    let bytes = take (part_end part) section in
    let a = take (mid - to) (drop to bytes) in
    let size : length (numbers_of pairs) ≡ 2 * length pairs = twice pairs in
    let more : length (numbers_of pairs ++ first ∷ []) ≡ length (numbers_of pairs) + 1 = length-append (numbers_of pairs) (first ∷ []) in
    let place : to ≡ at + length f.front = f.place in
    let long : length (f.front ++ a) ≡ length f.front + (mid - to) = longer_length bytes to mid f.front low high in
    number_fault section part at mid count origin (numbers_of pairs ++ first ∷ []) (f.front ++ a) fault inside (omega (arith, few, size, more)) (joined_push Uleb (numbers_of pairs) first f.front a (spelled pairs f.front f.spelled) u) (longer bytes at to mid f.front low f.whole) (omega (arith, place, long, low)) e g
