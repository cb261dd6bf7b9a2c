-- What is needed to write operations with slots of just the bytes that they need.
use Rattle.std.proofs.Common.{◌≡◌, ◌≢◌, ◌≤◌, ◌<◌, ◌+◌, ◌^◌, ◌⊎◌, ℕ, zero, suc, List, [], ◌∷◌, length, get_or, take, drop, ◌∙◌, sym, ap, refl, subst, arith, inl, inr, Bool, true, false, Option, Some, None}
use Rattle.std.proofs.lemmas.Bool.{ne_eqb}
use Rattle.std.proofs.lemmas.Bool.Decides.{eqb_tells}
use Rattle.std.proofs.lemmas.List.{length-map, get_or-map}
use Rattle.std.specs.Prelude.{nat_eq, if◌then◌else◌}
use Rattle.leb_codec.specs.Leb.{least_unsigned_len}
use Rattle.leb_codec.proofs.Lens.{unsigned_lens}
use Rattle.expr_ops.specs.declared.op.Op.{Op}
use Rattle.expr_ops.specs.declared.write.Draft.{Draft}
use Rattle.expr_ops.specs.Table.{operands_of}
use Rattle.expr_ops.specs.Expressions.{Operation}
use Rattle.expr_ops.specs.Ops.{meant, all_meant}
use Rattle.expr_ops.specs.Puts.{IsCall, Holds}
use Rattle.expr_ops.specs.Drafts.{has_reference, is_slot, with_refs, sizes_in, total, starts_from, AreDrafts, CanBePut}
use Rattle.expr_ops.specs.Shortest.{needed_size, needed_slot, needed_own, shortest_length, shortest_sizes}
use Rattle.expr_ops.proofs.PlaceLaws.{refs_code}
use Rattle.expr_ops.proofs.NestLaws.{Closed, nest_closed}
use Rattle.expr_ops.proofs.Sums.{range_sum}
use Rattle.expr_ops.proofs.PlainLaws.{IsKnown, AreKnown, IsSized}
use Rattle.expr_ops.proofs.NextRefs.{AreSmall, next_of, at_code, coded}
use Rattle.expr_ops.proofs.NeededLaws.{refs_count, needed_count}
use Rattle.expr_ops.proofs.NeededSizes.{needed_slots, slots_needed, sizes_needed}

-- THE OPERATION AT AN INDEX

pub closed_at : (os : List Operation) (k : ℕ) (d : Operation) → Closed os → k < length os → k + (get_or os k d).inner < length os
closed_at [] k d c lt = absurd (omega (arith, lt))
closed_at (o ∷ os) zero d (h, c) lt = omega (arith, h)
closed_at (o ∷ os) (suc k) d (h, c) lt = let g = closed_at os k d c (omega (arith, lt)) in omega (arith, g)

pub known_at : (os : List Operation) (k : ℕ) (d : Operation) → AreKnown os → k < length os → IsKnown (get_or os k d)
known_at [] k d a lt = absurd (omega (arith, lt))
known_at (o ∷ os) zero d (h, a) lt = h
known_at (o ∷ os) (suc k) d (h, a) lt = known_at os k d a (omega (arith, lt))

slot_at : (os news : List Operation) (k : ℕ) (d : Operation) → length news ≡ length os → k < length os → get_or (needed_slots os news) k None ≡ needed_slot (get_or os k d) (get_or news k d) (total (take (get_or os k d).inner (drop (suc k) (needed_own os news))))
slot_at [] news k d e lt = absurd (omega (arith, lt))
slot_at (o ∷ os) [] k d e lt = absurd (omega (arith, e))
slot_at (o ∷ os) (new ∷ news) zero d e lt = refl
slot_at (o ∷ os) (new ∷ news) (suc k) d e lt = slot_at os news k d (omega (arith, e)) (omega (arith, lt))

-- WITH NEW REFERENCES

inner_at : (refs : List ℕ) (os : List Operation) (k : ℕ) (d : Operation) → (get_or (with_refs refs os) k d).inner ≡ (get_or os k d).inner
inner_at refs [] k d = refl
inner_at refs (o ∷ os) zero d = let next = next_of refs o in ap (λ (z : List Operation). (get_or z 0 d).inner) (next.listed os) ∙ next.inner
inner_at refs (o ∷ os) (suc k) d = let next = next_of refs o in ap (λ (z : List Operation). (get_or z (suc k) d).inner) (next.listed os) ∙ inner_at next.rest os k d

-- each new reference is one of them, or 0
ref_small : (refs : List ℕ) (os : List Operation) (k : ℕ) (d : Operation) → AreSmall refs → k < length os → has_reference (get_or os k d).code ≡ true → (get_or (with_refs refs os) k d).a < 2 ^ 32
ref_small refs [] k d small lt t = absurd (omega (arith, lt))
ref_small refs (o ∷ os) zero d small lt t =
    let next = next_of refs o in
    subst (λ (z : List Operation). (get_or z 0 d).a < 2 ^ 32) (sym (next.listed os)) (next.few small t)
ref_small refs (o ∷ os) (suc k) d small lt t =
    let next = next_of refs o in
    subst (λ (z : List Operation). (get_or z (suc k) d).a < 2 ^ 32) (sym (next.listed os)) (ref_small next.rest os k d (next.small small) (omega (arith, lt)) t)

-- SLOTS HOLD THEIR NUMBERS

holds_if : (b : Bool) (size code n : ℕ) → (IsCall code ⊎ (least_unsigned_len n ≤ size)) → Holds (if b then Some size else None) code n
holds_if true size code n h = h
holds_if false size code n h = tt

pub holds_needed : (o new : Operation) (held : ℕ) → new.code ≢ 163 → Holds (needed_slot o new held) new.code new.a
holds_needed o new held no_entry =
    holds_if (is_slot o.code o.a) (needed_size new held) new.code new.a (
    elim (eqb_tells new.code 153) [
      | inl (f, e) ↦ inl e
      | inr (f, no_call) ↦
          let entry : nat_eq new.code 163 ≡ false = ne_eqb new.code 163 no_entry in
          let own : needed_size new held ≡ least_unsigned_len new.a = rw entry (rw f refl) in
          inr (omega (arith, own))
    ])

-- from one place to another are the sizes between them
between : (sizes : List ℕ) (n k count : ℕ) → k + 1 + count ≤ length sizes → n + get_or (starts_from 0 sizes) (k + 1) 0 ≡ get_or (starts_from 0 sizes) (k + 1 + count) 0 → n ≡ total (take count (drop (suc k) sizes))
between sizes n k count h e =
    let all = range_sum sizes (k + 1) count h in
    let next : k + 1 ≡ suc k = omega arith in
    let same : total (take count (drop (k + 1) sizes)) ≡ total (take count (drop (suc k) sizes)) = ap (λ (i : ℕ). total (take count (drop i sizes))) next in
    omega (arith, all, same, e)

holds_length : (o new : Operation) (held n : ℕ) → o.code ≡ 163 → new.code ≡ 163 → n ≡ held → Holds (needed_slot o new held) 163 n
holds_length o new held n e f same =
    let is : is_slot o.code o.a ≡ true = at_code (λ (c : ℕ). is_slot c o.a ≡ true) o.code 163 e refl in
    let size : needed_size new held ≡ least_unsigned_len held = at_code (λ (c : ℕ). needed_size (coded c new) held ≡ least_unsigned_len held) new.code 163 f refl in
    let slot : needed_slot o new held ≡ Some (least_unsigned_len held) = ap (λ (b : Bool). if b then Some (needed_size new held) else None) is ∙ ap (λ (k : ℕ). Some k) size in
    let h = unsigned_lens.rises n held (omega (arith, same)) in
    subst (λ (z : Option ℕ). Holds z 163 n) (sym slot) (inr h)

module _ (refs bytes : List ℕ) (ops : List Op) (drafts : List Draft) (a : AreDrafts refs (shortest_sizes refs (all_meant bytes ops)) bytes ops drafts) where
  pub drafts_count : length drafts ≡ length (all_meant bytes ops)
  drafts_count = sym (length-map drafts (λ (d : Draft). meant bytes d.op)) ∙ ap (λ (z : List Operation). length z) a.renamed ∙ refs_count refs (all_meant bytes ops)

  draft_at : (k : ℕ) (d : Draft) → k < length drafts → meant bytes (get_or drafts k d).op ≡ get_or (with_refs refs (all_meant bytes ops)) k (meant bytes d.op)
  draft_at k d lt = sym (get_or-map (λ (x : Draft). meant bytes x.op) drafts k d (meant bytes d.op) lt) ∙ ap (λ (z : List Operation). get_or z k (meant bytes d.op)) a.renamed

  pub draft_code : (k : ℕ) (d : Draft) → k < length drafts → (get_or drafts k d).op.code ≡ (get_or (all_meant bytes ops) k (meant bytes d.op)).code
  draft_code k d lt = ap (λ (z : Operation). z.code) (draft_at k d lt) ∙ refs_code refs (all_meant bytes ops) k (meant bytes d.op)

  draft_inner : (k : ℕ) (d : Draft) → k < length drafts → (get_or drafts k d).op.inner ≡ (get_or (all_meant bytes ops) k (meant bytes d.op)).inner
  draft_inner k d lt = ap (λ (z : Operation). z.inner) (draft_at k d lt) ∙ inner_at refs (all_meant bytes ops) k (meant bytes d.op)

  pub draft_slot : (k : ℕ) (d : Draft) → k < length drafts → (get_or drafts k d).slot ≡ needed_slot (get_or (all_meant bytes ops) k (meant bytes d.op)) (meant bytes (get_or drafts k d).op) (total (take (get_or (all_meant bytes ops) k (meant bytes d.op)).inner (drop (suc k) (needed_own (all_meant bytes ops) (with_refs refs (all_meant bytes ops))))))
  draft_slot k d lt =
      let os = all_meant bytes ops in
      let news = with_refs refs os in
      let o = get_or os k (meant bytes d.op) in
      let held = total (take o.inner (drop (suc k) (needed_own os news))) in
      let n = drafts_count in
      let count : length news ≡ length os = refs_count refs os in
      sym (get_or-map (λ (x : Draft). x.slot) drafts k d None lt)
      ∙ ap (λ (z : List (Option ℕ)). get_or z k None) (a.slots ∙ slots_needed os news count)
      ∙ slot_at os news k (meant bytes d.op) count (omega (arith, lt, n))
      ∙ ap (λ (z : Operation). needed_slot o z held) (sym (draft_at k d lt))

  pub draft_small : AreSmall refs → (k : ℕ) (d : Draft) → k < length drafts → has_reference (get_or drafts k d).op.code ≡ true → (get_or drafts k d).op.a < 2 ^ 32
  draft_small small k d lt t =
      let n = drafts_count in
      let h = ref_small refs (all_meant bytes ops) k (meant bytes d.op) small (omega (arith, lt, n)) (ap has_reference (sym (draft_code k d lt)) ∙ t) in
      let e : (get_or drafts k d).op.a ≡ (get_or (with_refs refs (all_meant bytes ops)) k (meant bytes d.op)).a = ap (λ (z : Operation). z.a) (draft_at k d lt) in
      omega (arith, h, e)

  module _ (count : ℕ) (sized : IsSized (all_meant bytes ops) count) (fits : shortest_length refs (all_meant bytes ops) < 2 ^ 63) where
    here_inside : (k : ℕ) (d : Draft) → k < length drafts → k + (get_or drafts k d).op.inner < length drafts
    here_inside k d lt =
        let n = drafts_count in
        let e = draft_inner k d lt in
        let h = closed_at (all_meant bytes ops) k (meant bytes d.op) (nest_closed sized.nest) (omega (arith, lt, n)) in
        omega (arith, n, e, h)

    here_numbers : (k : ℕ) (d : Draft) → k < length drafts → (get_or drafts k d).op.code ≢ 163 → Holds (get_or drafts k d).slot (get_or drafts k d).op.code (get_or drafts k d).op.a
    here_numbers k d lt other =
        let os = all_meant bytes ops in
        let o = get_or os k (meant bytes d.op) in
        let new = meant bytes (get_or drafts k d).op in
        let held = total (take o.inner (drop (suc k) (needed_own os (with_refs refs os)))) in
        subst (λ (z : Option ℕ). Holds z new.code new.a) (sym (draft_slot k d lt)) (holds_needed o new held other)

    here_lengths : (k : ℕ) (d : Draft) (n : ℕ) → k < length drafts → (get_or drafts k d).op.code ≡ 163 → n + get_or (starts_from 0 (sizes_in bytes drafts)) (k + 1) 0 ≡ get_or (starts_from 0 (sizes_in bytes drafts)) (k + 1 + (get_or drafts k d).op.inner) 0 → Holds (get_or drafts k d).slot 163 n
    here_lengths k d n lt entry e =
        let os = all_meant bytes ops in
        let o = get_or os k (meant bytes d.op) in
        let own = needed_own os (with_refs refs os) in
        let same : sizes_in bytes drafts ≡ own = sizes_needed refs bytes ops drafts a in
        let inner : (get_or drafts k d).op.inner ≡ o.inner = draft_inner k d lt in
        let within = here_inside k d lt in
        let many : length own ≡ length os = needed_count os (with_refs refs os) (refs_count refs os) in
        let all : length drafts ≡ length os = drafts_count in
        let f : n + get_or (starts_from 0 own) (k + 1) 0 ≡ get_or (starts_from 0 own) (k + 1 + o.inner) 0 =
        subst (λ (i : ℕ). n + get_or (starts_from 0 own) (k + 1) 0 ≡ get_or (starts_from 0 own) (k + 1 + i) 0) inner (subst (λ (z : List ℕ). n + get_or (starts_from 0 z) (k + 1) 0 ≡ get_or (starts_from 0 z) (k + 1 + (get_or drafts k d).op.inner) 0) same e)
        in
        let long = between own n k o.inner (omega (arith, within, inner, many, all)) f in
        subst (λ (z : Option ℕ). Holds z 163 n) (sym (draft_slot k d lt)) (holds_length o (meant bytes (get_or drafts k d).op) (total (take o.inner (drop (suc k) own))) n (sym (draft_code k d lt) ∙ entry) entry long)

    -- drafts whose slots have these sizes can be put
    pub needed_put : CanBePut bytes drafts
    needed_put = record {
      known = λ k d lt.
          let n = drafts_count in
          let h = known_at (all_meant bytes ops) k (meant bytes d.op) sized.known (omega (arith, lt, n)) in
          (h.0, ap operands_of (draft_code k d lt) ∙ h.1);
      inside = here_inside;
      small = let e = ap total (sizes_needed refs bytes ops drafts a) in omega (arith, e, fits);
      numbers = here_numbers;
      lengths = here_lengths;
    }
