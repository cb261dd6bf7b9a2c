-- Parts of bytes.
use Rattle.std.proofs.Common.{◌≡◌, ◌≢◌, ◌≤◌, ◌<◌, ◌+◌, ◌-◌, ◌^◌, ◌++◌, ◌∙◌, ℕ, zero, suc, List, [], ◌∷◌, length, take, drop, sym, ap, refl, subst, arith, inl, inr}
use Rattle.std.proofs.lemmas.List.{take-take, length-take-le, get_or-take, get_or-drop}
use Rattle.std.proofs.lemmas.Bool.{cases_eq}
use Rattle.std.specs.Prelude.{slice_index}
use Rattle.leb_codec.specs.Leb.{Uleb, SpellsUnsigned}
use Rattle.form_codec.specs.declared.value.Value.{Value}
use Rattle.form_codec.specs.Forms.{SpellsValue}
use Rattle.form_codec.specs.Values.{meant_in, IsPlaced}
use Rattle.abbrev_tables.specs.declared.decl.Spec.{Spec}
use Rattle.entry_arena.proofs.Between.{length_between}
use Rattle.entry_arena.specs.Trees.{bytes_between, SpellsBetween, ValuesBetween}

-- the front of a part
pub front_between : (bytes : List ℕ) (from n to : ℕ) → from + n ≤ to → take n (bytes_between bytes from to) ≡ bytes_between bytes from (from + n)
front_between bytes from n to inside =
    take-take n (to - from) (drop from bytes) (omega arith) ∙ ap (λ z. take z (drop from bytes)) (let e : n ≡ (from + n) - from = omega arith in e)

-- a number at the front of a part
pub code_read : (info : List ℕ) (at n to value : ℕ) → at ≤ to → to ≤ length info → n ≤ length (bytes_between info at to) → SpellsUnsigned (take (n - 0) (bytes_between info at to)) value → value < 2 ^ 64 → (at < at + n) × (at + n ≤ to) × SpellsBetween (Uleb value) info at (at + n)
code_read info at n to value order inside within t fits =
    let s : SpellsUnsigned (take n (bytes_between info at to)) value = subst (λ (z : ℕ). SpellsUnsigned (take z (bytes_between info at to)) value) (let e : n - 0 ≡ n = omega arith in e) t in
    let size : length (bytes_between info at to) ≡ to - at = length_between info at to inside in
    let same : take n (bytes_between info at to) ≡ bytes_between info at (at + n) = front_between info at n to (omega arith) in
    let few : length (take n (bytes_between info at to)) ≡ n = length-take-le n (bytes_between info at to) within in
    let some : 0 < length (take n (bytes_between info at to)) = s.0.filled in
    (omega arith, omega arith, record { order = omega arith; inside = omega arith; spelled = subst (λ (z : List ℕ). Uleb value z) same (s, fits) })

-- one more value
pub values_push : (info : List ℕ) (columns : List Spec) (values : List Value) (c : Spec) (v : Value) (from mid to : ℕ) → ValuesBetween info columns values from mid → SpellsBetween (SpellsValue c.name c.form c.constant (meant_in info v)) info mid to → IsPlaced v mid to → ValuesBetween info (columns ++ c ∷ []) (values ++ v ∷ []) from to
values_push info [] [] c v from mid to e s p = (to, subst (λ (z : ℕ). SpellsBetween (SpellsValue c.name c.form c.constant (meant_in info v)) info z to) (sym e) s, subst (λ (z : ℕ). IsPlaced v z to) (sym e) p, refl)
values_push info [] (w ∷ values) c v from mid to e s p = absurd e
values_push info (d ∷ columns) [] c v from mid to e s p = absurd e
values_push info (d ∷ columns) (w ∷ values) c v from mid to (next, t, q, rest) s p = (next, t, q, values_push info columns values c v next mid to rest s p)

-- a byte of a part
byte_between : (info : List ℕ) (at to k : ℕ) → k < to - at → slice_index (bytes_between info at to) k ≡ slice_index info (at + k)
byte_between info at to k l = get_or-take (to - at) (drop at info) k 0 l ∙ get_or-drop at info k 0

-- a part of zeros
pub zeros_between : (info : List ℕ) (at to : ℕ) → to ≤ length info → ((k : ℕ) → k < length (bytes_between info at to) → slice_index (bytes_between info at to) k ≡ 0) → (k : ℕ) → at ≤ k → k < to → slice_index info k ≡ 0
zeros_between info at to inside zeros k from below =
    let size : length (bytes_between info at to) ≡ to - at = length_between info at to inside in
    let here : at + (k - at) ≡ k = omega arith in
    ap (slice_index info) (sym here) ∙ sym (byte_between info at to (k - at) (omega arith)) ∙ zeros (k - at) (omega arith)

more_zeros : (byte : ℕ) (bytes : List ℕ) → byte ≡ 0 → ((k : ℕ) → k < length bytes → slice_index bytes k ≡ 0) → (k : ℕ) → k < length (byte ∷ bytes) → slice_index (byte ∷ bytes) k ≡ 0
more_zeros byte bytes first rest zero l = first
more_zeros byte bytes first rest (suc k) l = rest k (omega arith)

some_other : (bytes : List ℕ) → (((k : ℕ) → k < length bytes → slice_index bytes k ≡ 0) → ⊥) → (k : ℕ) × (k < length bytes) × (slice_index bytes k ≢ 0)
some_other [] none = absurd (none (λ k l. absurd (omega arith)))
some_other (byte ∷ bytes) none =
    elim (cases_eq byte 0) [
      | inl first ↦ let rest = some_other bytes (λ zeros. none (more_zeros byte bytes first zeros)) in (suc rest.0, (let l : rest.0 < length bytes = rest.1 in omega arith), rest.2)
      | inr other ↦ (0, omega arith, other)
    ]

-- a part that isn't zeros has another byte
pub other_between : (info : List ℕ) (at to : ℕ) → to ≤ length info → (((k : ℕ) → k < length (bytes_between info at to) → slice_index (bytes_between info at to) k ≡ 0) → ⊥) → (k : ℕ) × (at ≤ k) × (k < to) × (slice_index info k ≢ 0)
other_between info at to inside none =
    let size : length (bytes_between info at to) ≡ to - at = length_between info at to inside in
    let some = some_other (bytes_between info at to) none in
    let l : some.0 < length (bytes_between info at to) = some.1 in
    (at + some.0, omega arith, omega arith, λ e. some.2 (byte_between info at to some.0 (omega arith) ∙ e))
