-- An expression with a branch of its own is written in few bytes where references are below 2^32; so all that is needed to write it is there.
use Rattle.std.proofs.Common.{◌≡◌, ◌<◌, ◌≤◌, ◌+◌, ◌-◌, ◌^◌, ℕ, suc, List, length, get_or, take, drop, ◌∙◌, sym, ap, refl, subst, arith, inl, inr, Bool, true, false, Some, None}
use Rattle.std.proofs.lemmas.Bool.Decides.{nat_tests}
use Rattle.std.proofs.lemmas.List.{length-map, length-drop, length-take-le, take_all, get_or-map, get_or-take, get_or-drop}
use Rattle.std.specs.Prelude.{nat_eq, nat_lt, if◌then◌else◌, Option}
use Rattle.dw_base.specs.declared.fault.Reach.TheVariants.{Narrow}
use Rattle.expr_ops.specs.declared.op.Op.{Op}
use Rattle.expr_ops.specs.declared.write.Draft.{Draft}
use Rattle.expr_ops.specs.Ops.{meant, all_meant}
use Rattle.expr_ops.specs.Expressions.{Operation, IsBranch, IsExpression, SpellsSegment}
use Rattle.expr_ops.specs.Sizes.{own_size}
use Rattle.expr_ops.specs.Puts.{call_size, Adds}
use Rattle.expr_ops.specs.Drafts.{is_typed, has_reference, is_slot, with_refs, sizes_in, total, op_at, AreDrafts}
use Rattle.expr_ops.specs.Shortest.{needed_size, needed_slot, needed_own, shortest_length, shortest_sizes, IsWrittenShortest}
use Rattle.expr_ops.proofs.PlainBytes.{plain_own, plain_length}
use Rattle.expr_ops.proofs.NextRefs.{AreSmall, at_code, coded}
use Rattle.expr_ops.proofs.Sums.{range_sum}
use Rattle.expr_ops.proofs.SizeSplits.{less_take, less_drop, less_total, needed_less}
use Rattle.expr_ops.specs.Writing.{reference_limit, IsRange, HasOwnBranch, DistancesFit, CanBeWritten, IsSpelledAnew}
use Rattle.expr_ops.proofs.DraftLaws.{no_draft, starts_rise}
use Rattle.expr_ops.proofs.NestLaws.{nest_closed, own_drop, own_take}
use Rattle.expr_ops.proofs.PlainLaws.{IsSized, segment_sized, level_sized, expression_sized}
use Rattle.expr_ops.proofs.HeldLevels.{IsHeldLevel, IsFree, held_levels, levels_at, few_held}
use Rattle.expr_ops.proofs.NeededSizes.{sizes_needed, put_length}
use Rattle.expr_ops.proofs.NeededFits.{closed_at, drafts_count, draft_small, draft_code, draft_slot, needed_put}

-- the operations of one expression among all
record IsPart (bytes : List ℕ) (ops : List Op) (first count : ℕ) : Type 0 where
  inside : first + count ≤ length ops
  held : IsHeldLevel 4096 (take count (drop first (all_meant bytes ops)))

module _ (bytes : List ℕ) (ops : List Op) (old : IsExpression Narrow (all_meant bytes ops) bytes) where
  op_meant : (k : ℕ) (d : Operation) → k < length ops → get_or (all_meant bytes ops) k d ≡ meant bytes (op_at ops k)
  op_meant k d lt = get_or-map (meant bytes) ops k no_draft.op d lt

  whole_part : IsPart bytes ops 0 (length ops)
  whole_part =
      let os = all_meant bytes ops in
      let count : length os ≡ length ops = length-map ops (meant bytes) in
      record {
        inside = omega arith;
        held = record { deep = 8; bytes = bytes; level = subst (λ (z : List Operation). IsExpression Narrow z bytes) (sym (take_all (length ops) os (omega (arith, count)))) old };
      }

  held_part : (e : ℕ) → e < length ops → (op_at ops e).code ≡ 163 → IsPart bytes ops (e + 1) (op_at ops e).inner
  held_part e lt code =
      let os = all_meant bytes ops in
      let count : length os ≡ length ops = length-map ops (meant bytes) in
      let d = meant bytes no_draft.op in
      let is = op_meant e d lt in
      let inner : (get_or os e d).inner ≡ (op_at ops e).inner = ap (λ (z : Operation). z.inner) is in
      let closed = closed_at os e d (nest_closed (expression_sized Narrow os bytes old).nest) (omega (arith, lt, count)) in
      let held = levels_at 4096 os e d (held_levels 4096 8 os bytes old) (omega (arith, lt, count)) (ap (λ (z : Operation). z.code) is ∙ code) in
      let next : suc e ≡ e + 1 = omega arith in
      record {
        inside = omega (arith, closed, inner, count);
        held = subst (λ (n : ℕ). IsHeldLevel 4096 (take (op_at ops e).inner (drop n os))) next (subst (λ (n : ℕ). IsHeldLevel 4096 (take n (drop (suc e) os))) inner held);
      }

  range_part : (first count : ℕ) → IsRange ops first count → IsPart bytes ops first count
  range_part first count (inl (is, all)) = subst (λ (n : ℕ). IsPart bytes ops n count) (sym is) (subst (λ (n : ℕ). IsPart bytes ops 0 n) (sym all) whole_part)
  range_part first count (inr (e, lt, code, is, all)) =
      subst (λ (n : ℕ). IsPart bytes ops n count) (sym is) (subst (λ (n : ℕ). IsPart bytes ops (e + 1) n) (sym all) (held_part e lt code))

  -- at most three times the narrow limit
  few_plain : (first count : ℕ) → IsRange ops first count → HasOwnBranch ops first count → total (take count (drop first (plain_own (all_meant bytes ops)))) ≤ 12288
  few_plain first count range (k, (low, high, branch, own)) =
      let os = all_meant bytes ops in
      let d = meant bytes no_draft.op in
      let p = range_part first count range in
      let part = take count (drop first os) in
      let inside = p.inside in
      let all : length os ≡ length ops = length-map ops (meant bytes) in
      let left : length (drop first os) ≡ length os - first = length-drop first os in
      let long : length part ≡ count = length-take-le count (drop first os) (omega (arith, left, all, inside)) in
      let each : (i : ℕ) → i < count → get_or part i d ≡ meant bytes (op_at ops (first + i)) = λ i lt.
      get_or-take count (drop first os) i d lt ∙ get_or-drop first os i d ∙ op_meant (first + i) d (omega (arith, lt, inside))
      in
      let j = k - first in
      let is : first + j ≡ k = omega (arith, low) in
      let within : j < count = omega (arith, is, high) in
      let here : IsBranch (get_or part j d).code = subst (λ (z : Operation). IsBranch z.code) (sym (each j within)) (subst (λ (n : ℕ). IsBranch (op_at ops n).code) (sym is) branch) in
      let free : IsFree part j d = λ e less code holds.
      let at : e < count = omega (arith, less, within) in
      let inner : (get_or part e d).inner ≡ (op_at ops (first + e)).inner = ap (λ (z : Operation). z.inner) (each e at) in
      own.innermost (first + e) (omega arith) (omega (arith, at, inside)) (omega (arith, less, is), omega (arith, holds, is, inner), sym (ap (λ (z : Operation). z.code) (each e at)) ∙ code)
      in
      let few = few_held 4096 part p.held j d (omega (arith, within, long)) here free in
      let sized : IsSized part (length p.held.bytes) = level_sized (SpellsSegment 4096 p.held.deep) (segment_sized 4096 p.held.deep) 4096 part p.held.bytes p.held.level in
      let thrice = sized.thrice in
      let same : total (take count (drop first (plain_own os))) ≡ plain_length part = ap (λ (z : List ℕ). total (take count z)) (own_drop first os) ∙ ap total (own_take count (drop first os) (omega (arith, left, all, inside)) (nest_closed sized.nest)) in
      omega (arith, same, thrice, few)

-- A REFERENCE BELOW 2^32 FITS

limit_by : (typed call : Bool) (n size : ℕ) → n < 2 ^ 32 → (call ≡ true → n < 256 ^ size) → n < (if typed then 2 ^ 64 else (if call then 256 ^ size else 2 ^ 32))
limit_by true call n size h fits = omega (arith, h)
limit_by false false n size h fits = h
limit_by false true n size h fits = fits refl

call_by : (b : Bool) (n : ℕ) → nat_lt n 65536 ≡ b → n < 2 ^ 32 → n < 256 ^ call_size (Some (if b then 2 else 4))
call_by true n e h = let f : n < 65536 = grind (arith, nat_tests) in omega (arith, f)
call_by false n e h = omega (arith, h)

-- a call of two bytes holds what is below 65,536
call_fits : (o new : Operation) (held : ℕ) → o.code ≡ 153 → new.code ≡ 153 → new.a < 2 ^ 32 → new.a < 256 ^ call_size (needed_slot o new held)
call_fits o new held e f small =
    let is : is_slot o.code o.a ≡ true = at_code (λ (c : ℕ). is_slot c o.a ≡ true) o.code 153 e refl in
    let size : needed_size new held ≡ (if nat_lt new.a 65536 then 2 else 4) = at_code (λ (c : ℕ). needed_size (coded c new) held ≡ (if nat_lt new.a 65536 then 2 else 4)) new.code 153 f refl in
    let slot : needed_slot o new held ≡ Some (if nat_lt new.a 65536 then 2 else 4) = ap (λ (b : Bool). if b then Some (needed_size new held) else None) is ∙ ap (λ (k : ℕ). Some k) size in
    subst (λ (z : Option ℕ). new.a < 256 ^ call_size z) (sym slot) (call_by (nat_lt new.a 65536) new.a refl small)

is_call : (code : ℕ) → nat_eq code 153 ≡ true → code ≡ 153
is_call code t = grind (arith, nat_tests)

module _ (refs bytes : List ℕ) (ops : List Op) (old : IsExpression Narrow (all_meant bytes ops) bytes) (small : AreSmall refs) (fits : shortest_length refs (all_meant bytes ops) < 2 ^ 63) where
  here_fits : (drafts : List Draft) → AreDrafts refs (shortest_sizes refs (all_meant bytes ops)) bytes ops drafts → (k : ℕ) (d : Draft) → k < length drafts → has_reference (get_or drafts k d).op.code ≡ true → (get_or drafts k d).op.a < reference_limit (get_or drafts k d).op.code (get_or drafts k d).slot
  here_fits drafts a k d lt has =
      let os = all_meant bytes ops in
      let o = get_or os k (meant bytes d.op) in
      let new = meant bytes (get_or drafts k d).op in
      let held = total (take o.inner (drop (suc k) (needed_own os (with_refs refs os)))) in
      let below : new.a < 2 ^ 32 = draft_small refs bytes ops drafts a small k d lt has in
      limit_by (is_typed new.code) (nat_eq new.code 153) new.a (call_size (get_or drafts k d).slot) below (λ t.
      let call = is_call new.code t in
      let h = call_fits o new held (sym (draft_code refs bytes ops drafts a k d lt) ∙ call) call below in
      subst (λ (z : Option ℕ). new.a < 256 ^ call_size z) (sym (draft_slot refs bytes ops drafts a k d lt)) h)

  here_few : (drafts : List Draft) → AreDrafts refs (shortest_sizes refs (all_meant bytes ops)) bytes ops drafts → (first count : ℕ) → IsRange ops first count → HasOwnBranch ops first count → total (take count (drop first (sizes_in bytes drafts))) ≤ 20480
  here_few drafts a first count range own =
      let os = all_meant bytes ops in
      let needed = needed_own os (with_refs refs os) in
      let plain = plain_own os in
      let h = few_plain bytes ops old first count range own in
      let less = less_total (take count (drop first needed)) (take count (drop first plain)) (less_take count (drop first needed) (drop first plain) (less_drop first needed plain (needed_less refs os small))) in
      let same : total (take count (drop first (sizes_in bytes drafts))) ≡ total (take count (drop first needed)) = ap (λ (z : List ℕ). total (take count (drop first z))) (sizes_needed refs bytes ops drafts a) in
      omega (arith, h, same, less)

  -- so its places are near one another
  here_near : (drafts : List Draft) → AreDrafts refs (shortest_sizes refs (all_meant bytes ops)) bytes ops drafts → DistancesFit bytes drafts ops
  here_near drafts a first count k range own goes =
      let sizes = sizes_in bytes drafts in
      let (low, high, branch, is) = own in
      let jump = (op_at ops k).jump in
      let inside = (range_part bytes ops old first count range).inside in
      let many : length sizes ≡ length drafts = length-map drafts (λ (d : Draft). own_size d.slot (meant bytes d.op)) in
      let all : length drafts ≡ length (all_meant bytes ops) = drafts_count refs bytes ops drafts a in
      let each : length (all_meant bytes ops) ≡ length ops = length-map ops (meant bytes) in
      let end : first + count ≤ length sizes = omega (arith, inside, many, all, each) in
      let few = here_few drafts a first count range (k, own) in
      let up = range_sum sizes first count end in
      let from_first = starts_rise 0 sizes first (k + 1) (omega (arith, low)) (omega (arith, high, end)) in
      let from_last = starts_rise 0 sizes (k + 1) (first + count) (omega (arith, high)) end in
      let to_first = starts_rise 0 sizes first (first + jump) (omega arith) (omega (arith, goes, end)) in
      let to_last = starts_rise 0 sizes (first + jump) (first + count) (omega (arith, goes)) end in
      (omega (arith, few, up, from_first, to_last), omega (arith, few, up, from_last, to_first))

  -- an expression within the narrow limits can be written with references below 2^32
  pub shortest_written : CanBeWritten refs (shortest_sizes refs (all_meant bytes ops)) bytes ops
  shortest_written =
      let os = all_meant bytes ops in
      record {
        old = (4096, 8, old);
        put = λ drafts a. needed_put refs bytes ops drafts a (length bytes) (expression_sized Narrow os bytes old) fits;
        fits = here_fits;
        distances = here_near;
      }

  -- what is written of it is within the wide ones
  pub shortest_made : (made : List ℕ) → IsSpelledAnew refs (shortest_sizes refs (all_meant bytes ops)) bytes ops made → IsWrittenShortest refs bytes ops made
  shortest_made made w = record {
    written = record { put = w.put; expression = w.within 4096 20480 8 old here_few };
    long = put_length refs bytes ops made w.put;
  }

  -- and has as many bytes as were foretold
  pub shortest_added : (sizes old_out new_out : List ℕ) → sizes ≡ shortest_sizes refs (all_meant bytes ops) → Adds (IsSpelledAnew refs sizes bytes ops) old_out new_out → Adds (IsWrittenShortest refs bytes ops) old_out new_out
  shortest_added sizes old_out new_out same (made, w, e) =
      (made, shortest_made made (subst (λ (z : List ℕ). IsSpelledAnew refs z bytes ops made) same w), e)

-- it has no more bytes than where each reference has five or four
pub shortest_less : (refs : List ℕ) (os : List Operation) → AreSmall refs → shortest_length refs os ≤ plain_length os
shortest_less refs os small = less_total (needed_own os (with_refs refs os)) (plain_own os) (needed_less refs os small)
