-- Contributions that tile a section.
use Rattle.std.proofs.Common.{◌≡◌, ◌≤◌, ◌<◌, ◌+◌, ◌*◌, ◌++◌, ◌∙◌, ℕ, zero, suc, List, [], ◌∷◌, length, get_or, sym, ap, refl, subst, arith, inl, inr}
use Rattle.std.specs.List.{All, Contains}
use Rattle.std.proofs.lemmas.List.{get_or_default}
use Rattle.std.proofs.lemmas.List.Elements.{All-nil, All-cons}
use Rattle.std.proofs.lemmas.Bool.{cases_lt}
use Rattle.dw_base.specs.declared.fault.Kind.{Kind}
use Rattle.dw_base.specs.declared.fault.Kind.TheVariants.{Short, ListEntry}
use Rattle.dw_base.specs.Refusals.{IsFaulty}
use Rattle.list_model.specs.declared.contribution.Contribution.{Contribution}
use Rattle.fixed_width.specs.InitialLengths.{unit_length, unit_end, least_reserved}
use Rattle.list_model.specs.Contributions.{offset_entry_count, part_end, IsContribution, ContributionsFollow, ContributionsTile, HoldsList}
use Rattle.list_model.specs.Faults.{FaultContribution, FaultContributions}

-- a contribution has its header and ends in the section
pub part_inside : (section : List ℕ) (part : Contribution) → IsContribution section part → (part.at + 12 ≤ part_end part) × (part_end part ≤ length section)
part_inside section part h =
    let ends : part.at + part.len ≡ unit_end section part.at = h.ends in
    let fits : part.at + 12 ≤ unit_end section part.at = h.header.fits in
    let inside : unit_end section part.at ≤ length section = h.whole.inside in
    (omega arith, omega arith)

-- one more contribution
pub follow_push : (section : List ℕ) (parts : List Contribution) (part : Contribution) (a b : ℕ) → ContributionsFollow section parts a b → part.at ≡ b → IsContribution section part → ContributionsFollow section (parts ++ part ∷ []) a (b + part.len)
follow_push section [] part a b e at h = (at ∙ sym e, h, ap (λ (z : ℕ). z + part.len) at)
follow_push section (x ∷ parts) part a b f at h = (f.0, f.1, follow_push section parts part (part_end x) b f.2 at h)

-- each of them stands
pub each_part : (section : List ℕ) (parts : List Contribution) (a end : ℕ) → ContributionsFollow section parts a end → All (IsContribution section) parts
each_part section [] a end f = All-nil (IsContribution section)
each_part section (part ∷ parts) a end f = All-cons (IsContribution section) part parts f.1 (each_part section parts (part_end part) end f.2)

-- a contribution has no fault
part_whole : (section : List ℕ) (part : Contribution) (kind : Kind) (place : ℕ) → IsContribution section part → FaultContribution section part.at kind place → ⊥
part_whole section part Short place h (inl (e, f)) =
    let usual : unit_length section part.at < least_reserved = h.whole.usual in
    let inside : unit_end section part.at ≤ length section = h.whole.inside in
    let fits : part.at + 12 ≤ unit_end section part.at = h.header.fits in
    elim f [
      | inl leaves ↦ elim leaves [ inl x ↦ absurd (omega arith) | inr y ↦ elim y [ inl x ↦ absurd (omega arith) | inr x ↦ absurd (omega arith) ] ]
      | inr (whole, cut) ↦ absurd (omega arith)
    ]
part_whole section part Short place h (inr (w, g, cut)) =
    let ends : part.at + part.len ≡ unit_end section part.at = h.ends in
    let fits : part.at + 12 + 4 * part.slots ≤ part.at + part.len = h.fits in
    let counted : part.slots ≡ offset_entry_count section part.at = h.counted in
    let below : cut.slot < offset_entry_count section part.at = cut.counted in
    let begins : place ≡ part.at + 12 + 4 * cut.slot = cut.begins in
    let outside : unit_end section part.at < place + 4 = cut.outside in
    absurd (omega arith)
part_whole section part ListEntry place h (e, w, f) = f h.header
part_whole section part _ place h f = f

-- no contribution begins at the section's end
end_apart : (section : List ℕ) (part : Contribution) (a : ℕ) → IsContribution section part → part.at ≡ a → a ≡ length section → ⊥
end_apart section part a h e f =
    let b = part_inside section part h in
    let first : part.at + 12 ≤ part_end part = b.0 in
    let second : part_end part ≤ length section = b.1 in
    absurd (omega arith)

-- one contribution stands at a place
one_part : (section : List ℕ) (part other : Contribution) → IsContribution section part → IsContribution section other → part.at ≡ other.at → part ≡ other
one_part section part other h k at =
    let ends : part.at + part.len ≡ unit_end section part.at = h.ends in
    let others : other.at + other.len ≡ unit_end section other.at = k.ends in
    let same : unit_end section part.at ≡ unit_end section other.at = ap (unit_end section) at in
    let len : part.len ≡ other.len = omega arith in
    let slots : part.slots ≡ other.slots = h.counted ∙ ap (offset_entry_count section) at ∙ sym k.counted in
    let first : part ≡ record { at = other.at; len = part.len; slots = part.slots } = ap (λ (z : ℕ). record { at = z; len = part.len; slots = part.slots }) at in
    let second : record { at = other.at; len = part.len; slots = part.slots } ≡ record { at = other.at; len = other.len; slots = part.slots } = ap (λ (z : ℕ). record { at = other.at; len = z; slots = part.slots }) len in
    first ∙ second ∙ ap (λ (z : ℕ). record { at = other.at; len = other.len; slots = z }) slots

faults_after : (section : List ℕ) (parts before : List Contribution) (a at : ℕ) (kind : Kind) (place : ℕ) → ContributionsFollow section parts a (length section) → ContributionsFollow section before a at → at < length section → FaultContribution section at kind place → ⊥
faults_after section [] [] a at kind place f g i x =
    let e : a ≡ length section = f in
    let d : a ≡ at = g in
    absurd (omega arith)
faults_after section [] (y ∷ before) a at kind place f g i x = end_apart section y a g.1 g.0 f
faults_after section (p ∷ parts) [] a at kind place f g i x = part_whole section p kind place f.1 (subst (λ (z : ℕ). FaultContribution section z kind place) (sym (f.0 ∙ g)) x)
faults_after section (p ∷ parts) (y ∷ before) a at kind place f g i x =
    let same : p ≡ y = one_part section p y f.1 g.1 (f.0 ∙ sym g.0) in
    faults_after section parts before (part_end y) at kind place (subst (λ (z : Contribution). ContributionsFollow section parts (part_end z) (length section)) same f.2) g.2 i x

-- contributions that tile a section have no fault
pub parts_whole : (section : List ℕ) (parts : List Contribution) → ContributionsTile section parts → ¬ IsFaulty (FaultContributions section)
parts_whole section parts tile = λ (f : IsFaulty (FaultContributions section)).
    let x = f.2 in
    faults_after section parts x.parts 0 x.at f.0 f.1 tile x.front x.inside x.fault

-- the contributions that tile a section are one list
pub one_tile : (section : List ℕ) (ps qs : List Contribution) (a : ℕ) → ContributionsFollow section ps a (length section) → ContributionsFollow section qs a (length section) → ps ≡ qs
one_tile section [] [] a f g = refl
one_tile section [] (q ∷ qs) a f g = absurd (end_apart section q a g.1 g.0 f)
one_tile section (p ∷ ps) [] a f g = absurd (end_apart section p a f.1 f.0 g)
one_tile section (p ∷ ps) (q ∷ qs) a f g =
    let same : p ≡ q = one_part section p q f.1 g.1 (f.0 ∙ sym g.0) in
    let after : ContributionsFollow section ps (part_end q) (length section) = subst (λ (z : Contribution). ContributionsFollow section ps (part_end z) (length section)) same f.2 in
    ap (λ z. z ∷ ps) same ∙ ap (λ z. q ∷ z) (one_tile section ps qs (part_end q) after g.2)

-- each contribution stands behind the place from which they follow one another
from_there : (section : List ℕ) (parts : List Contribution) (d : Contribution) (a end i : ℕ) → ContributionsFollow section parts a end → i < length parts → a ≤ (get_or parts i d).at
from_there section [] d a end i f inside = absurd (omega arith)
from_there section (p ∷ parts) d a end zero f inside = let e : p.at ≡ a = f.0 in omega arith
from_there section (p ∷ parts) d a end (suc i) f inside =
    let rest : part_end p ≤ (get_or parts i d).at = from_there section parts d (part_end p) end i f.2 (omega (arith, inside)) in
    let e : p.at ≡ a = f.0 in
    omega arith

-- of two contributions, the one with the lower number ends before the other
pub before : (section : List ℕ) (parts : List Contribution) (c d : Contribution) (a end i j : ℕ) → ContributionsFollow section parts a end → i < j → j < length parts → part_end (get_or parts i c) ≤ (get_or parts j d).at
before section [] c d a end i j f less inside = absurd (omega arith)
before section (p ∷ parts) c d a end zero zero f less inside = absurd (omega arith)
before section (p ∷ parts) c d a end zero (suc j) f less inside = from_there section parts d (part_end p) end j f.2 (omega (arith, inside))
before section (p ∷ parts) c d a end (suc i) zero f less inside = absurd (omega arith)
before section (p ∷ parts) c d a end (suc i) (suc j) f less inside = before section parts c d (part_end p) end i j f.2 (omega (arith, less)) (omega (arith, inside))

-- a contribution that ends before another one holds no list that the other one holds
apart : (part other : Contribution) (at : ℕ) → part_end part ≤ other.at → HoldsList part at → HoldsList other at → ⊥
apart part other at le h k =
    let before : at < part_end part = h.before in
    let after : other.at + 12 + 4 * other.slots ≤ at = k.after in
    absurd (omega arith)

pub one_holder : (section : List ℕ) (parts : List Contribution) (part other : Contribution) (at : ℕ) → ContributionsTile section parts → Contains parts part → Contains parts other → HoldsList part at → HoldsList other at → part ≡ other
one_holder section parts part other at tile (i, inside, e) (j, within, d) h k =
    elim (cases_lt i j) [
      | inl x ↦ absurd (apart part other at (subst (λ (z : Contribution). part_end part ≤ z.at) d (subst (λ (z : Contribution). part_end z ≤ (get_or parts j other).at) e (before section parts part other 0 (length section) i j tile x within))) h k)
      | inr x ↦ elim (cases_lt j i) [
        | inl y ↦ absurd (apart other part at (subst (λ (z : Contribution). part_end other ≤ z.at) e (subst (λ (z : Contribution). part_end z ≤ (get_or parts i part).at) d (before section parts other part 0 (length section) j i tile y inside))) k h)
        | inr y ↦ let same : i ≡ j = omega (arith, x, y) in sym e ∙ get_or_default parts i part other inside ∙ ap (λ (z : ℕ). get_or parts z other) same ∙ d
      ]
    ]
