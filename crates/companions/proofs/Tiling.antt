-- Sets that tile a section.
use Rattle.std.proofs.Common.{◌≡◌, ◌≤◌, ◌<◌, ◌+◌, ◌++◌, ◌∙◌, ℕ, List, [], ◌∷◌, length, sym, ap, refl, subst, arith, inl, inr}
use Rattle.std.specs.Prelude.{slice_index, Err}
use Rattle.std.specs.Ordering.{nat_cmp}
use Rattle.std.specs.List.Sorted.{IsBinarySearchResult}
use Rattle.std.proofs.lemmas.Bool.{cases_lt}
use Rattle.std.proofs.lemmas.List.Sorted.{searched}
use Rattle.std.proofs.lemmas.List.Elements.{All-nil, All-cons}
use Rattle.dw_base.specs.declared.fault.Kind.{Kind}
use Rattle.dw_base.specs.declared.fault.Kind.TheVariants.{Short, Aranges as NoAranges}
use Rattle.dw_base.specs.declared.fault.Refusal.{Refusal}
use Rattle.dw_base.specs.declared.fault.Refusal.TheVariants.{Refused}
use Rattle.companions.specs.declared.set.ArangeSet.{ArangeSet}
use Rattle.fixed_width.specs.InitialLengths.{unit_length, unit_end, least_reserved}
use Rattle.companions.specs.Aranges.{AreRising, BeginsAt, IsSet, HasSet, SetsFollow, SetsTile, HaveUnits}
use Rattle.companions.specs.Faults.{FaultSet, FaultSets}
use Rattle.dw_base.specs.Refusals.{IsFaultOf, IsRefusedFor, IsFaulty}

-- one more set
pub follow_push : (section starts : List ℕ) (sets : List ArangeSet) (set : ArangeSet) (a b : ℕ) → SetsFollow section starts sets a b → set.at ≡ b → IsSet section starts set → SetsFollow section starts (sets ++ set ∷ []) a (unit_end section b)
follow_push section starts [] set a b e at h = (at ∙ sym e, h, ap (unit_end section) at)
follow_push section starts (x ∷ sets) set a b f at h = (f.0, f.1, follow_push section starts sets set (unit_end section x.at) b f.2 at h)

-- a set has ten bytes and ends in its section
pub set_inside : (section starts : List ℕ) (set : ArangeSet) → IsSet section starts set → (set.at + 10 ≤ unit_end section set.at) × (unit_end section set.at ≤ length section)
set_inside section starts set h =
    let fits : 6 ≤ unit_length section set.at = h.fits in
    (omega arith, h.whole.inside)

-- no set begins at the section's end
end_apart : (section starts : List ℕ) (set : ArangeSet) (a : ℕ) → IsSet section starts set → set.at ≡ a → a ≡ length section → ⊥
end_apart section starts set a h e f =
    let b = set_inside section starts set h in
    let first : set.at + 10 ≤ unit_end section set.at = b.0 in
    let second : unit_end section set.at ≤ length section = b.1 in
    absurd (omega arith)

has_set : (section starts : List ℕ) (set : ArangeSet) (at : ℕ) → IsSet section starts set → set.at ≡ at → HasSet section starts at
has_set section starts set at h e = (set.unit, subst (λ (z : ℕ). IsSet section starts (record { at = z; unit = set.unit })) e h)

-- a set has no fault
set_whole : (section starts : List ℕ) (at : ℕ) (kind : Kind) (place : ℕ) → HasSet section starts at → FaultSet section starts at kind place → ⊥
set_whole section starts at Short place (unit, h) (e, f) =
    let usual : unit_length section at < least_reserved = h.whole.usual in
    let inside : unit_end section at ≤ length section = h.whole.inside in
    elim f [ inl x ↦ absurd (omega arith) | inr y ↦ elim y [ inl x ↦ absurd (omega arith) | inr x ↦ absurd (omega arith) ] ]
set_whole section starts at NoAranges place h (e, w, f) = f h
set_whole section starts at _ place h f = f

-- two sets at a place end alike
same_end : (section : List ℕ) (one other : ArangeSet) (a : ℕ) → one.at ≡ a → other.at ≡ a → unit_end section one.at ≡ unit_end section other.at
same_end section one other a e f = ap (unit_end section) (e ∙ sym f)

faults_after : (section starts : List ℕ) (sets before : List ArangeSet) (a at : ℕ) (kind : Kind) (place : ℕ) → SetsFollow section starts sets a (length section) → SetsFollow section starts before a at → at < length section → FaultSet section starts at kind place → ⊥
faults_after section starts [] [] a at kind place f g i x =
    let e : a ≡ length section = f in
    let d : a ≡ at = g in
    absurd (omega arith)
faults_after section starts [] (y ∷ before) a at kind place f g i x = end_apart section starts y a g.1 g.0 f
faults_after section starts (s ∷ sets) [] a at kind place f g i x = set_whole section starts at kind place (has_set section starts s at f.1 (f.0 ∙ g)) x
faults_after section starts (s ∷ sets) (y ∷ before) a at kind place f g i x =
    faults_after section starts sets before (unit_end section y.at) at kind place (subst (λ (z : ℕ). SetsFollow section starts sets z (length section)) (same_end section s y a f.0 g.0) f.2) g.2 i x

-- sets that tile a section have no fault
pub sets_whole : (section starts : List ℕ) (sets : List ArangeSet) → SetsTile section starts sets → ¬ IsFaulty (FaultSets section starts)
sets_whole section starts sets tile = λ (f : IsFaulty (FaultSets section starts)).
    let x = f.2 in
    faults_after section starts sets x.sets 0 x.at f.0 f.1 tile x.front x.inside x.fault

risen : (starts : List ℕ) → AreRising starts → (i j : ℕ) → i ≤ j → j < length starts → slice_index starts i ≤ slice_index starts j
risen starts rising i j le inside =
    elim (cases_lt i j) [
      | inl x ↦ let less : slice_index starts i < slice_index starts j = rising i j x inside in omega arith
      | inr x ↦ let same : slice_index starts i ≡ slice_index starts j = ap (slice_index starts) (let e : i ≡ j = omega arith in e) in omega arith
    ]

-- a search that ends without a unit
pub no_start : (starts : List ℕ) (place i : ℕ) → AreRising starts → IsBinarySearchResult (λ y. nat_cmp y place) starts (Err i) → (unit : ℕ) × BeginsAt starts unit place → ⊥
no_start starts place i rising r (unit, at) =
    let l : unit < length starts = at.0 in
    let e : slice_index starts unit ≡ place = at.1 in
    let parts = searched starts place (Err i) r (risen starts rising) in
    elim (cases_lt unit i) [
      | inl x ↦ let less : slice_index starts unit < place = parts.1 unit x in absurd (omega arith)
      | inr x ↦ let more : place < slice_index starts unit = parts.2 unit x l in absurd (omega arith)
    ]

-- one unit begins at a place
one_unit : (starts : List ℕ) (place u v : ℕ) → AreRising starts → BeginsAt starts u place → BeginsAt starts v place → u ≡ v
one_unit starts place u v rising (l, e) (m, f) =
    elim (cases_lt u v) [
      | inl x ↦ let less : slice_index starts u < slice_index starts v = rising u v x m in absurd (omega arith)
      | inr x ↦ elim (cases_lt v u) [
        | inl y ↦ let less : slice_index starts v < slice_index starts u = rising v u y l in absurd (omega arith)
        | inr y ↦ omega arith
      ]
    ]

one_set : (section starts : List ℕ) (s t : ArangeSet) (a : ℕ) → AreRising starts → IsSet section starts s → IsSet section starts t → s.at ≡ a → t.at ≡ a → s ≡ t
one_set section starts s t a rising h k e f =
    let place : s.at ≡ t.at = e ∙ sym f in
    let there : IsSet section starts (record { at = t.at; unit = s.unit }) = subst (λ (z : ℕ). IsSet section starts (record { at = z; unit = s.unit })) place h in
    let unit : s.unit ≡ t.unit = one_unit starts _ s.unit t.unit rising there.of_unit k.of_unit in
    let first : s ≡ record { at = t.at; unit = s.unit } = ap (λ (z : ℕ). record { at = z; unit = s.unit }) place in
    first ∙ ap (λ (z : ℕ). record { at = t.at; unit = z }) unit

-- the sets that tile a section are one list
pub one_tile : (section starts : List ℕ) (ss ts : List ArangeSet) (a : ℕ) → AreRising starts → SetsFollow section starts ss a (length section) → SetsFollow section starts ts a (length section) → ss ≡ ts
one_tile section starts [] [] a rising f g = refl
one_tile section starts [] (t ∷ ts) a rising f g = absurd (end_apart section starts t a g.1 g.0 f)
one_tile section starts (s ∷ ss) [] a rising f g = absurd (end_apart section starts s a f.1 f.0 g)
one_tile section starts (s ∷ ss) (t ∷ ts) a rising f g =
    let same : s ≡ t = one_set section starts s t a rising f.1 g.1 f.0 g.0 in
    let after : SetsFollow section starts ss (unit_end section t.at) (length section) = subst (λ (z : ℕ). SetsFollow section starts ss z (length section)) (same_end section s t a f.0 g.0) f.2 in
    ap (λ z. z ∷ ss) same ∙ ap (λ z. t ∷ z) (one_tile section starts ss ts (unit_end section t.at) rising after g.2)

-- the units of sets are among those that have starts
pub follow_units : (section starts : List ℕ) (sets : List ArangeSet) (a b : ℕ) → SetsFollow section starts sets a b → HaveUnits (length starts) sets
follow_units section starts [] a b f = All-nil (λ (set : ArangeSet). set.unit < length starts)
follow_units section starts (s ∷ sets) a b f = All-cons (λ (set : ArangeSet). set.unit < length starts) s sets f.1.of_unit.0 (follow_units section starts sets (unit_end section s.at) b f.2)

-- a refusal of a fault
pub refused : (holds : Kind → ℕ → Type 0) (origin place : ℕ) (kind : Kind) (r : Refusal) → r ≡ Refused (record { kind = kind; place = origin + place }) → holds kind place → IsRefusedFor (IsFaultOf holds origin) r
refused holds origin place kind r e h = subst (λ (z : Refusal). IsRefusedFor (IsFaultOf holds origin) z) (sym e) (place, refl, h)
