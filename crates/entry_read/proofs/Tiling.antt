-- Units that tile a section.
use Rattle.std.proofs.Common.{◌≡◌, ◌≤◌, ◌<◌, ◌+◌, ◌-◌, ◌++◌, ◌∙◌, ℕ, List, [], ◌∷◌, length, sym, ap, refl, subst, arith, inl, inr}
use Rattle.std.specs.List.{All}
use Rattle.std.proofs.lemmas.List.Elements.{All-nil, All-cons}
use Rattle.dw_base.specs.declared.fault.Kind.{Kind}
use Rattle.dw_base.specs.declared.fault.Kind.TheVariants.{Short, UnitHead as AHead}
use Rattle.entry_read.specs.declared.head.UnitHead.{UnitHead}
use Rattle.fixed_width.specs.InitialLengths.{unit_length, unit_end, least_reserved}
use Rattle.entry_read.specs.Heads.{HasHead, head_at, IsHead, Follow, Tile}
use Rattle.entry_read.specs.Faults.{FaultHead, FaultHeads}
use Rattle.dw_base.specs.Refusals.{IsFaulty}

-- one more unit
pub follow_push : (section : List ℕ) (heads : List UnitHead) (head : UnitHead) (a b : ℕ) → Follow section heads a b → head.at ≡ b → IsHead section head → Follow section (heads ++ head ∷ []) a (b + head.len)
follow_push section [] head a b e at h = (at ∙ sym e, h, ap (λ z. z + head.len) e)
follow_push section (x ∷ heads) head a b f at h = (f.0, f.1, follow_push section heads head (a + x.len) b f.2 at h)

-- the head that stands at a place is the one of its bytes
pub head_is : (section : List ℕ) (head : UnitHead) (at : ℕ) → IsHead section head → head.at ≡ at → head ≡ head_at section at
head_is section head at h e = h.fields ∙ ap (head_at section) e

pub rules_at : (section : List ℕ) (head : UnitHead) (at : ℕ) → IsHead section head → head.at ≡ at → HasHead section at
rules_at section head at h e = subst (λ (z : ℕ). HasHead section z) e h.rules

-- a head that was read stands at its place
pub head_read : (section : List ℕ) (head : UnitHead) (at : ℕ) → HasHead section at → head ≡ head_at section at → (head.at ≡ at) × IsHead section head
head_read section head at h e =
    let place : head.at ≡ at = ap (λ z. z.at) e in
    (place, record { rules = subst (λ (z : ℕ). HasHead section z) (sym place) h; fields = e ∙ sym (ap (head_at section) place) })

-- a unit has bytes and ends in its section
pub head_len : (section : List ℕ) (head : UnitHead) → IsHead section head → (head.at + head.len ≡ unit_end section head.at) × (0 < head.len) × (head.at + head.len ≤ length section)
head_len section head h =
    let len : head.len ≡ unit_end section head.at - head.at = ap (λ z. z.len) h.fields in
    let inside : unit_end section head.at ≤ length section = h.rules.inside in
    (omega arith, omega arith, omega arith)

pub unit_inside : (section : List ℕ) (head : UnitHead) → IsHead section head → head.at + head.len ≤ length section
unit_inside section head h = (head_len section head h).2

-- no unit begins at the section's end
pub end_apart : (section : List ℕ) (head : UnitHead) (at : ℕ) → IsHead section head → head.at ≡ at → at ≡ length section → ⊥
end_apart section head at h e f =
    let b = head_len section head h in
    let first : 0 < head.len = b.1 in
    let second : head.at + head.len ≤ length section = b.2 in
    absurd (omega arith)

-- a header that meets the rules has no fault
pub head_whole : (section : List ℕ) (at : ℕ) (kind : Kind) (place : ℕ) → HasHead section at → FaultHead section at kind place → ⊥
head_whole section at Short place h (e, f) =
    let usual : unit_length section at < least_reserved = h.usual in
    let inside : unit_end section at ≤ length section = h.inside in
    elim f [ inl x ↦ absurd (omega arith) | inr x ↦ absurd (let y : length section < unit_end section at = x.1 in omega arith) ]
head_whole section at AHead place h (e, f) =
    let usual : unit_length section at < least_reserved = h.usual in
    elim f [ inl x ↦ absurd (let y : least_reserved ≤ unit_length section at = x.1 in omega arith) | inr x ↦ x.1 h ]
head_whole section at _ place h f = f

-- two heads at a place are one
pub one_head : (section : List ℕ) (h k : UnitHead) (at : ℕ) → IsHead section h → IsHead section k → h.at ≡ at → k.at ≡ at → h ≡ k
one_head section h k at x y e f = head_is section h at x e ∙ sym (head_is section k at y f)

faults_after : (section : List ℕ) (heads before : List UnitHead) (a at : ℕ) (kind : Kind) (place : ℕ) → Follow section heads a (length section) → Follow section before a at → at < length section → FaultHead section at kind place → ⊥
faults_after section [] [] a at kind place f g i x =
    let e : a ≡ length section = f in
    let d : a ≡ at = g in
    absurd (omega arith)
faults_after section [] (k ∷ before) a at kind place f g i x = end_apart section k a g.1 g.0 f
faults_after section (h ∷ heads) [] a at kind place f g i x =
    head_whole section at kind place (subst (λ (z : ℕ). HasHead section z) g (rules_at section h a f.1 f.0)) x
faults_after section (h ∷ heads) (k ∷ before) a at kind place f g i x =
    let same : h ≡ k = one_head section h k a f.1 g.1 f.0 g.0 in
    faults_after section heads before (a + k.len) at kind place (subst (λ (z : UnitHead). Follow section heads (a + z.len) (length section)) same f.2) g.2 i x

-- units that tile a section have no fault in their headers
pub heads_whole : (section : List ℕ) (heads : List UnitHead) → Tile section heads → ¬ IsFaulty (FaultHeads section)
heads_whole section heads tile = λ (f : IsFaulty (FaultHeads section)).
    let x = f.2 in
    faults_after section heads x.heads 0 x.at f.0 f.1 tile x.front x.inside x.fault

-- the heads that tile a section are one list
pub one_tile : (section : List ℕ) (hs ks : List UnitHead) (a : ℕ) → Follow section hs a (length section) → Follow section ks a (length section) → hs ≡ ks
one_tile section [] [] a f g = refl
one_tile section [] (k ∷ ks) a f g = absurd (end_apart section k a g.1 g.0 f)
one_tile section (h ∷ hs) [] a f g = absurd (end_apart section h a f.1 f.0 g)
one_tile section (h ∷ hs) (k ∷ ks) a f g =
    let same : h ≡ k = one_head section h k a f.1 g.1 f.0 g.0 in
    let after : Follow section hs (a + k.len) (length section) = subst (λ (z : UnitHead). Follow section hs (a + z.len) (length section)) same f.2 in
    ap (λ z. z ∷ hs) same ∙ ap (λ z. k ∷ z) (one_tile section hs ks (a + k.len) after g.2)

-- each of them stands in the section
pub follow_each : (section : List ℕ) (heads : List UnitHead) (a e : ℕ) → Follow section heads a e → All (IsHead section) heads
follow_each section [] a e f = All-nil (IsHead section)
follow_each section (h ∷ heads) a e f = All-cons (IsHead section) h heads f.1 (follow_each section heads (a + h.len) e f.2)
