-- What a reader has found is spelled by the bytes.
use Rattle.std.proofs.Common.{◌≡◌, ◌≤◌, ◌<◌, ◌+◌, ◌-◌, ◌^◌, ℕ, List, ◌∷◌, ◌++◌, length, get_or, suc, take, drop, ◌∙◌, sym, ap, refl, subst, arith, inl, inr, Some, None}
use Rattle.std.proofs.lemmas.List.{drop_more, length-drop, drop-drop, take-append-drop, length-take-le}
use Rattle.spelled.proofs.Parts.{take_sum, length_part}
use Rattle.byteorder.specs.Numbers.{little_from-take}
use Rattle.fixed_width.specs.Numbers.{number}
use Rattle.std.specs.Prelude.{ℤ}
use Rattle.leb_codec.specs.Leb.{Uleb, SpellsUnsigned}
use Rattle.expr_ops.specs.declared.table.Width.{Width}
use Rattle.expr_ops.specs.declared.table.Shape.TheVariants as shape
use Rattle.expr_ops.specs.declared.part.Part.TheVariants as part
use Rattle.expr_ops.specs.declared.part.ReadPart.{ReadPart}
use Rattle.expr_ops.specs.Heads.{size_of, signed_of}
use Rattle.expr_ops.specs.Heads.Part.{Unsigned, Signed}
use Rattle.spelled.specs.Spelled.{AreBytes}
use Rattle.spelled.proofs.Parts.{bytes_part}
use Rattle.dw_base.specs.declared.fault.Kind.TheVariants as kind
use Rattle.dw_base.specs.declared.fault.Fault.{Fault}
use Rattle.expr_ops.specs.declared.table.Shape.{Shape}
use Rattle.expr_ops.specs.declared.table.Operands.{Operands}
use Rattle.expr_ops.specs.declared.table.Operands.TheVariants as operands
use Rattle.expr_ops.specs.declared.head.ReadTwo.{ReadTwo}
use Rattle.expr_ops.specs.declared.head.ReadHead.{ReadHead}
use Rattle.expr_ops.specs.Table.{operands_of}
use Rattle.expr_ops.specs.Heads.{holding, holding_two, KeepsBlock}
use Rattle.expr_ops.specs.HeadFaults.{IsCutOff, FaultPart}
use Rattle.expr_ops.specs.inside.Reads.{IsReadPart, IsReadTwo, IsReadBody, IsReadHead, HasBodyFault, HasHeadFault, head_in, part_in, LiesIn, IsBlockIn, IsBlockOfTwo}
use Rattle.expr_ops.proofs.BlockLaws.{shape_ends, two_ends, kept_ends, code_of_head}

number_take : (n : ℕ) (l : List ℕ) → number n (take n l) ≡ number n l
unfolding number
number_take n l = little_from-take 0 n n l (omega arith)

pub unsigned_read : (w : Width) (bytes : List ℕ) (at n size : ℕ) → at ≤ length bytes → size ≤ length bytes - at → size ≡ size_of w → n ≡ number (size_of w) (drop at bytes) → IsReadPart (shape.Unsigned w) bytes at (record { part = part.Unsigned n; end = at + size })
unsigned_read w bytes at n size starts room e f =
    let rest : length (drop at bytes) ≡ length bytes - at = length-drop at bytes in
    let part : at + size - at ≡ size_of w = omega arith in
    record {
      starts = omega arith;
      inside = omega arith;
      spelled = rw part (
        length-take-le (size_of w) (drop at bytes) (omega arith),
        ap (λ z. Unsigned z) (f ∙ sym (number_take (size_of w) (drop at bytes))),
      );
      lies = tt;
      ends = tt;
    }

pub signed_read : (w : Width) (bytes : List ℕ) (at n size : ℕ) (u v : ℤ) → at ≤ length bytes → size ≤ length bytes - at → size ≡ size_of w → n ≡ number (size_of w) (drop at bytes) → v ≡ signed_of w n → u ≡ v → IsReadPart (shape.Signed w) bytes at (record { part = part.Signed u; end = at + size })
signed_read w bytes at n size u v starts room e f g same =
    let rest : length (drop at bytes) ≡ length bytes - at = length-drop at bytes in
    let part : at + size - at ≡ size_of w = omega arith in
    record {
      starts = omega arith;
      inside = omega arith;
      spelled = rw part (
        length-take-le (size_of w) (drop at bytes) (omega arith),
        ap (λ z. Signed z) (same ∙ g ∙ ap (signed_of w) (f ∙ sym (number_take (size_of w) (drop at bytes)))),
      );
      lies = tt;
      ends = tt;
    }

-- a count and as many bytes after it
pub counted_front : (bytes : List ℕ) (at end n : ℕ) → at ≤ end → take (end + n - at) (drop at bytes) ≡ take (end - at) (drop at bytes) ++ take n (drop end bytes)
counted_front bytes at end n starts =
    let e : end + n - at ≡ (end - at) + n = omega arith in
    let f : at + (end - at) ≡ end = omega arith in
    ap (λ k. take k (drop at bytes)) e ∙ take_sum (end - at) n (drop at bytes) ∙ ap (λ z. take (end - at) (drop at bytes) ++ take n z) (drop-drop (end - at) at bytes ∙ ap (λ k. drop k bytes) f)

pub counted_read : (bytes : List ℕ) (at n end : ℕ) → at ≤ end → end ≤ length bytes → n ≤ length bytes - end → SpellsUnsigned (take (end - at) (drop at bytes)) n → n < 2 ^ 64 → IsReadPart shape.Counted bytes at (record { part = part.Data (record { at = end; len = n }); end = end + n })
counted_read bytes at n end starts inside left spelled fits = record {
  starts = omega arith;
  inside = omega arith;
  spelled = (
    take n (drop end bytes),
    record {
      head = take (end - at) (drop at bytes);
      count = subst (λ (z : ℕ). Uleb z (take (end - at) (drop at bytes))) (sym (length_part end n bytes (omega arith))) (spelled, fits);
      whole = counted_front bytes at end n starts;
    },
    refl,
  );
  lies = omega arith;
  ends = refl;
}

pub cut_off : (bytes : List ℕ) (at n end : ℕ) → at ≤ end → end ≤ length bytes → length bytes - end < n → SpellsUnsigned (take (end - at) (drop at bytes)) n → n < 2 ^ 64 → IsCutOff (drop at bytes)
cut_off bytes at n end starts inside left spelled fits =
    let size : length (drop end bytes) ≡ length bytes - end = length-drop end bytes in
    let f : at + (end - at) ≡ end = omega arith in
    record {
      head = take (end - at) (drop at bytes);
      body = drop end bytes;
      count = n;
      counted = (spelled, fits);
      whole = sym (take-append-drop (end - at) (drop at bytes)) ∙ ap (λ z. take (end - at) (drop at bytes) ++ z) (drop-drop (end - at) at bytes ∙ ap (λ k. drop k bytes) f);
      short = omega arith;
    }

drop_one : (bytes : List ℕ) (at : ℕ) → at < length bytes → drop at bytes ≡ get_or bytes at 0 ∷ drop (at + 1) bytes
drop_one bytes at h = drop_more bytes at 0 h

front_and : (bytes : List ℕ) (at mid end : ℕ) → at ≤ mid → mid ≤ end → take (end - at) (drop at bytes) ≡ take (mid - at) (drop at bytes) ++ take (end - mid) (drop mid bytes)
front_and bytes at mid end starts goes =
    let e : mid + (end - mid) ≡ end = omega arith in
    ap (λ n. take (n - at) (drop at bytes)) (sym e) ∙ counted_front bytes at mid (end - mid) starts

pub rest_and : (bytes : List ℕ) (at mid : ℕ) → at ≤ mid → drop at bytes ≡ take (mid - at) (drop at bytes) ++ drop mid bytes
rest_and bytes at mid starts =
    let f : at + (mid - at) ≡ mid = omega arith in
    sym (take-append-drop (mid - at) (drop at bytes)) ∙ ap (λ z. take (mid - at) (drop at bytes) ++ z) (drop-drop (mid - at) at bytes ∙ ap (λ k. drop k bytes) f)

pub two_read : (s t : Shape) (bytes : List ℕ) (at : ℕ) (p q : ReadPart) → IsReadPart s bytes at p → IsReadPart t bytes p.end q → IsReadTwo s t bytes at (record { first = p.part; second = q.part; end = q.end })
two_read s t bytes at p q x y =
    let a = x.starts in
    let b = y.starts in
    record {
      starts = omega (arith, a, b);
      inside = y.inside;
      spelled = (take (p.end - at) (drop at bytes), take (q.end - p.end) (drop p.end bytes), x.spelled, y.spelled, front_and bytes at p.end q.end a b);
      first = x.lies;
      second = y.lies;
      mid = p.end;
      ends_first = x.ends;
      ends = y.ends;
    }

pub second_fault : (s t : Shape) (bytes : List ℕ) (at : ℕ) (p : ReadPart) (f : Fault) → IsReadPart s bytes at p → FaultPart t f.kind (drop p.end bytes) → f.place ≡ p.end → HasBodyFault (operands.Two s t) bytes at f
second_fault s t bytes at p f x fault place =
    let a = x.starts in
    let e : p.end - at ≡ length (take (p.end - at) (drop at bytes)) + 0 = let n = length_part at (p.end - at) bytes (omega (arith, a, x.inside)) in omega arith in (
      p.end - at,
      inr (part_in bytes p.part, take (p.end - at) (drop at bytes), drop p.end bytes, 0, x.spelled, (fault, refl), rest_and bytes at p.end a, e),
      omega (arith, a, place),
    )

pub one_body : (code : ℕ) (s : Shape) (bytes : List ℕ) (at : ℕ) (p : ReadPart) (r : ReadHead) → IsReadPart s bytes at p → head_in bytes r ≡ holding code (part_in bytes p.part) → (LiesIn (length bytes) p.part → r.block.at + r.block.len ≤ length bytes) → r.end ≡ p.end → IsBlockIn p.part r.block → IsReadBody code (operands.One s) bytes at r
one_body code s bytes at p r x head lies end block = record {
  starts = rw end x.starts;
  inside = rw end x.inside;
  spelled = rw end (part_in bytes p.part, x.spelled, head);
  lies = lies x.lies;
  ends = rw end (shape_ends s p.part p.end r.block x.ends block);
}

pub two_body : (code : ℕ) (s t : Shape) (bytes : List ℕ) (at : ℕ) (p : ReadTwo) (r : ReadHead) → IsReadTwo s t bytes at p → head_in bytes r ≡ holding_two code (part_in bytes p.first) (part_in bytes p.second) → (LiesIn (length bytes) p.first → LiesIn (length bytes) p.second → r.block.at + r.block.len ≤ length bytes) → r.end ≡ p.end → IsBlockOfTwo p.first p.second r.block → IsReadBody code (operands.Two s t) bytes at r
two_body code s t bytes at p r x head lies end block = record {
  starts = rw end x.starts;
  inside = rw end x.inside;
  spelled = rw end ((part_in bytes p.first, part_in bytes p.second), x.spelled, head);
  lies = lies x.first x.second;
  ends = rw end (two_ends s t p.first p.second x.mid p.end r.block x.ends_first x.ends block);
}

pub typed_body : (code : ℕ) (s : Shape) (bytes : List ℕ) (at : ℕ) (p : ReadTwo) (r : ReadHead) → IsReadTwo s shape.Uleb bytes at p → head_in bytes r ≡ holding_two code (part_in bytes p.second) (part_in bytes p.first) → (LiesIn (length bytes) p.second → LiesIn (length bytes) p.first → r.block.at + r.block.len ≤ length bytes) → r.end ≡ p.end → IsReadBody code (operands.Typed s) bytes at r
typed_body code s bytes at p r x head lies end = record {
  starts = rw end x.starts;
  inside = rw end x.inside;
  spelled = rw end ((part_in bytes p.first, part_in bytes p.second), x.spelled, head);
  lies = lies x.second x.first;
  ends = tt;
}

pub head_read : (code : ℕ) (o : Operands) (bytes : List ℕ) (at : ℕ) (r : ReadHead) → at < length bytes → code ≡ get_or bytes at 0 → operands_of code ≡ Some o → AreBytes bytes → IsReadBody code o bytes (at + 1) r → IsReadHead bytes at r
head_read code o bytes at r inside is known small x =
    let a = x.starts in
    let b = x.inside in
    let e : r.end - at ≡ suc (r.end - (at + 1)) = omega (arith, a) in
    record {
      starts = omega (arith, a);
      inside = b;
      spelled = record {
        code = code;
        operands = o;
        tail = take (r.end - (at + 1)) (drop (at + 1) bytes);
        known = known;
        small = bytes_part at (r.end - at) bytes small (omega (arith, a, b));
        whole = ap (λ n. take n (drop at bytes)) e ∙ ap (take (suc (r.end - (at + 1)))) (drop_one bytes at inside) ∙ ap (λ n. n ∷ take (r.end - (at + 1)) (drop (at + 1) bytes)) (sym is);
        spelled = x.spelled;
      };
      lies = x.lies;
      ends = λ keeps. kept_ends code o r.block r.end known x.ends (subst (λ (z : ℕ). KeepsBlock z) (code_of_head code o (head_in bytes r) (take (r.end - (at + 1)) (drop (at + 1) bytes)) x.spelled) keeps);
    }

pub unknown_op : (code : ℕ) (bytes : List ℕ) (at : ℕ) (f : Fault) → at < length bytes → code ≡ get_or bytes at 0 → operands_of code ≡ None → f.kind ≡ kind.Op → f.place ≡ at → HasHeadFault bytes at f
unknown_op code bytes at f inside is none k place =
    (0, (code, drop (at + 1) bytes, drop_one bytes at inside ∙ ap (λ n. n ∷ drop (at + 1) bytes) (sym is), inl (none, k, refl)), omega (arith, place))

pub operand_fault : (code : ℕ) (o : Operands) (bytes : List ℕ) (at : ℕ) (f : Fault) → at < length bytes → code ≡ get_or bytes at 0 → operands_of code ≡ Some o → HasBodyFault o bytes (at + 1) f → HasHeadFault bytes at f
operand_fault code o bytes at f inside is known (inner, fault, place) =
    (1 + inner, (code, drop (at + 1) bytes, drop_one bytes at inside ∙ ap (λ n. n ∷ drop (at + 1) bytes) (sym is), inr (o, known, inner, fault, refl)), omega (arith, place))
