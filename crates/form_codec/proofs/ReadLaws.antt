-- What a reader has found is spelled by the bytes.
use Rattle.std.proofs.Common.{◌≡◌, ◌≤◌, ◌<◌, ◌+◌, ◌-◌, ◌^◌, ℕ, List, [], ◌∷◌, ◌++◌, length, take, drop, ◌∙◌, sym, ap, refl, subst, arith}
use Rattle.std.proofs.lemmas.List.{length-drop, drop-drop, get_or-take, take-append-drop, length-take-le, take-take, drop-take, take_more, take_rest}
use Rattle.std.specs.Prelude.{ℤ, FitsSigned}
use Rattle.std.specs.Int.{w64}
use Rattle.spelled.specs.Spelled.{AreBytes}
use Rattle.spelled.proofs.Parts.{take_sum, length_part, bytes_part}
use Rattle.dw_base.specs.declared.fault.Kind.{Kind}
use Rattle.form_codec.specs.declared.form.Form.{Form}
use Rattle.byteorder.specs.Numbers.{little_from-take}
use Rattle.leb_codec.specs.Leb.{Uleb, SpellsUnsigned, SpellsSigned}
use Rattle.form_codec.specs.declared.form.Content.{Content}
use Rattle.form_codec.specs.declared.form.Role.{Role}
use Rattle.form_codec.specs.declared.form.Shape.{Shape}
use Rattle.form_codec.specs.declared.form.Shape.TheVariants.{Number, Sleb as BySleb, Counted, UlebCounted, ZeroEnded}
use Rattle.form_codec.specs.declared.form.Width.{Width}
use Rattle.form_codec.specs.declared.value.Value.{Value}
use Rattle.form_codec.specs.declared.value.Value.TheVariants as value
use Rattle.form_codec.specs.declared.value.ReadValue.{ReadValue}
use Rattle.fixed_width.specs.Numbers.{number}
use Rattle.form_codec.specs.Forms.{SpellsShape, size_of, code_of, shape_of, in_role, of_content}
use Rattle.form_codec.specs.Forms.Meaning.{Whole, SixteenBytes, Data, Expression, Text}
use Rattle.form_codec.specs.Faults.{IsCutOff, FaultShape, FaultValue}
use Rattle.form_codec.specs.Values.{meant_in, IsPlaced, IsReadValue}
use Rattle.form_codec.specs.inside.Values.{IsReadShape, IsFirstZero}

number_take : (n m : ℕ) (l : List ℕ) → n ≤ m → number n (take m l) ≡ number n l
unfolding number
number_take n m l h = little_from-take 0 n m l (omega arith)

-- what the front of bytes spells, with spans that count from their first
record IsFront (shape : Shape) (rest : List ℕ) (r : ReadValue) : Type 0 where
  inside : r.end ≤ length rest
  spelled : SpellsShape shape (meant_in rest r.value) (take r.end rest)

-- it stands at a place
at_place : (shape : Shape) (bytes : List ℕ) (at : ℕ) (r : ReadValue) (v : Value) → at ≤ length bytes → IsFront shape (drop at bytes) r → meant_in bytes v ≡ meant_in (drop at bytes) r.value → IsPlaced v at (at + r.end) → IsReadShape shape bytes at (record { value = v; end = at + r.end })
at_place shape bytes at r v starts front means placed =
    let size : length (drop at bytes) ≡ length bytes - at = length-drop at bytes in
    let e : at + r.end - at ≡ r.end = omega arith in
    record {
      starts = omega arith;
      inside = omega (arith, front.inside);
      spelled = rw (e, means) front.spelled;
      placed = placed;
    }

pub number_read : (w : Width) (role : Role) (bytes : List ℕ) (at n size : ℕ) (v : Value) → at ≤ length bytes → size ≤ length (take (length bytes - at) (drop at bytes)) → size ≡ size_of w → n ≡ number (size_of w) (take (length bytes - at) (drop at bytes)) → ((b : List ℕ) → meant_in b v ≡ in_role role w n) → IsPlaced v at (at + size) → IsReadShape (Number w role) bytes at (record { value = v; end = at + size })
number_read w role bytes at n size v starts inside_there e f_there means placed =
    let rest = drop at bytes in
    let inside : size ≤ length rest = rw (← take_rest bytes at) inside_there in
    let f : n ≡ number (size_of w) rest = rw (← take_rest bytes at) f_there in
    let front : IsFront (Number w role) rest (record { value = v; end = size }) = record {
      inside = inside;
      spelled = (
        length-take-le size rest inside ∙ e,
        means rest ∙ ap (in_role role w) (f ∙ sym (number_take (size_of w) size rest (omega arith))),
      );
    }
    in
    at_place (Number w role) bytes at _ v starts front (means bytes ∙ sym (means rest)) placed

pub sleb_read : (bytes : List ℕ) (w v : ℤ) (at end : ℕ) → at ≤ end → end ≤ length bytes → SpellsSigned (take (end - at) (drop at bytes)) v → FitsSigned w64 v → w ≡ v → IsReadShape BySleb bytes at (record { value = value.Int w; end = end })
sleb_read bytes w v at end starts inside spelled fits same = record {
  starts = starts;
  inside = inside;
  spelled = (v, (spelled, fits), ap (λ z. Whole z) same);
  placed = tt;
}

pub counted_read : (w : Width) (bytes : List ℕ) (at n size : ℕ) → at ≤ length bytes → size ≤ length (take (length bytes - at) (drop at bytes)) → n ≤ length (take (length bytes - at) (drop at bytes)) - size → size ≡ size_of w → n ≡ number (size_of w) (take (length bytes - at) (drop at bytes)) → IsReadShape (Counted w) bytes at (record { value = value.Block (record { at = at + size; len = n }); end = at + size + n })
counted_read w bytes at n size starts inside_there left_there e f_there =
    let rest = drop at bytes in
    let inside : size ≤ length rest = rw (← take_rest bytes at) inside_there in
    let f : n ≡ number (size_of w) rest = rw (← take_rest bytes at) f_there in
    let left : n ≤ length rest - size = rw (← take_rest bytes at) left_there in
    let front : IsFront (Counted w) rest (record { value = value.Block (record { at = size; len = n }); end = size + n }) = record {
      inside = omega arith;
      spelled = record {
        head = take size rest;
        body = take n (drop size rest);
        size = length-take-le size rest inside ∙ e;
        count = length_part size n rest (omega arith) ∙ f ∙ sym (number_take (size_of w) size rest (omega arith));
        whole = take_sum size n rest;
        holds = refl;
      };
    }
    in
    let end : at + (size + n) ≡ at + size + n = omega arith in
    subst (λ (k : ℕ). IsReadShape (Counted w) bytes at (record { value = value.Block (record { at = at + size; len = n }); end = k })) end (at_place (Counted w) bytes at _ (value.Block (record { at = at + size; len = n })) starts front (ap (λ z. Data (take n z)) (sym (drop-drop size at bytes))) (omega arith))

-- a count and as many bytes after it
pub counted_front : (bytes : List ℕ) (at end n : ℕ) → at ≤ end → take (end + n - at) (drop at bytes) ≡ take (end - at) (drop at bytes) ++ take n (drop end bytes)
counted_front bytes at end n starts =
    let e : end + n - at ≡ (end - at) + n = omega arith in
    let f : at + (end - at) ≡ end = omega arith in
    ap (λ k. take k (drop at bytes)) e ∙ take_sum (end - at) n (drop at bytes) ∙ ap (λ z. take (end - at) (drop at bytes) ++ take n z) (drop-drop (end - at) at bytes ∙ ap (λ k. drop k bytes) f)

pub uleb_counted_read : (kind : Content) (bytes : List ℕ) (at n end : ℕ) (v : Value) → at ≤ end → end ≤ length bytes → n ≤ length bytes - end → SpellsUnsigned (take (end - at) (drop at bytes)) n → n < 2 ^ 64 → meant_in bytes v ≡ of_content kind (take n (drop end bytes)) → IsPlaced v at (end + n) → IsReadShape (UlebCounted kind) bytes at (record { value = v; end = end + n })
uleb_counted_read kind bytes at n end v starts inside left spelled fits means placed = record {
  starts = omega arith;
  inside = omega arith;
  spelled = record {
    head = take (end - at) (drop at bytes);
    body = take n (drop end bytes);
    count = subst (λ (z : ℕ). Uleb z (take (end - at) (drop at bytes))) (sym (length_part end n bytes (omega arith))) (spelled, fits);
    whole = counted_front bytes at end n starts;
    holds = means;
  };
  placed = placed;
}

pub cut_off : (bytes : List ℕ) (at n end : ℕ) → at ≤ end → end ≤ length bytes → length bytes - end < n → SpellsUnsigned (take (end - at) (drop at bytes)) n → n < 2 ^ 64 → IsCutOff (drop at bytes)
cut_off bytes at n end starts inside left spelled fits =
    let size : length (drop end bytes) ≡ length bytes - end = length-drop end bytes in
    let f : at + (end - at) ≡ end = omega arith in
    record {
      head = take (end - at) (drop at bytes);
      body = drop end bytes;
      count = n;
      counted = (spelled, fits);
      whole = sym (take-append-drop (end - at) (drop at bytes)) ∙ ap (λ z. take (end - at) (drop at bytes) ++ z) (drop-drop (end - at) at bytes ∙ ap (λ k. drop k bytes) f);
      short = omega arith;
    }

pub text_read : (bytes : List ℕ) (at place : ℕ) → at ≤ length bytes → IsFirstZero place (take (length bytes - at) (drop at bytes)) → IsReadShape ZeroEnded bytes at (record { value = value.Text (record { at = at; len = place }); end = at + place + 1 })
text_read bytes at place starts first_there =
    let rest = drop at bytes in
    let first : IsFirstZero place rest = rw (← take_rest bytes at) first_there in
    let size : length (take place rest) ≡ place = length-take-le place rest (omega (arith, first.inside)) in
    let front : IsFront ZeroEnded rest (record { value = value.Text (record { at = 0; len = place }); end = place + 1 }) = record {
      inside = omega (arith, first.inside);
      spelled = record {
        text = take place rest;
        clear = λ k lt is. first.clear k (omega arith) (sym (get_or-take place rest k 0 (omega arith)) ∙ is);
        whole = take_more rest place 0 first.inside ∙ ap (λ z. take place rest ++ z ∷ []) first.zero_there;
        holds = refl;
      };
    }
    in
    let end : at + (place + 1) ≡ at + place + 1 = omega arith in
    subst (λ (k : ℕ). IsReadShape ZeroEnded bytes at (record { value = value.Text (record { at = at; len = place }); end = k })) end (at_place ZeroEnded bytes at _ (value.Text (record { at = at; len = place })) starts front refl (refl, omega arith))

-- a part of a front is a part of the whole
part_of_front : (at len n : ℕ) (l : List ℕ) → at + len ≤ n → take len (drop at (take n l)) ≡ take len (drop at l)
part_of_front at len n l h =
    let e : n ≡ at + (n - at) = omega arith in
    ap (λ k. take len (drop at (take k l))) e ∙ ap (take len) (drop-take at (n - at) l) ∙ take-take len (n - at) (drop at l) (omega arith)

meant_in_front : (v : Value) (at end n : ℕ) (l : List ℕ) → end ≤ n → IsPlaced v at end → meant_in (take n l) v ≡ meant_in l v
meant_in_front (value.Wide16 span) at end n l h p = ap (λ z. SixteenBytes z) (part_of_front span.at span.len n l (omega arith))
meant_in_front (value.Block span) at end n l h p = ap (λ z. Data z) (part_of_front span.at span.len n l (omega arith))
meant_in_front (value.Expr span) at end n l h p = ap (λ z. Expression z) (part_of_front span.at span.len n l (omega arith))
meant_in_front (value.Text span) at end n l h p = ap (λ z. Text z) (part_of_front span.at span.len n l (omega (arith, p.1)))
meant_in_front v at end n l h p = refl

pub value_read : (name : ℕ) (form : Form) (constant : ℤ) (section : List ℕ) (at end : ℕ) (r : ReadValue) → at ≤ end → end ≤ length section → AreBytes section → IsReadShape (shape_of form name constant) (take end section) at r → IsReadValue name (code_of form) constant section at end r
value_read name form constant section at end r starts inside small read =
    let size : length (take end section) ≡ end = length-take-le end section inside in
    let few : r.end ≤ end = omega (arith, read.inside) in
    let up : at ≤ r.end = read.starts in
    let front : take (r.end - at) (drop at (take end section)) ≡ take (r.end - at) (drop at section) = part_of_front at (r.end - at) end section (omega arith) in
    let meant : meant_in (take end section) r.value ≡ meant_in section r.value = meant_in_front r.value at r.end end section few read.placed in
    record {
      starts = up;
      inside = few;
      spelled = record {
        form = form;
        known = refl;
        small = bytes_part at (r.end - at) section small (omega arith);
        spelled = rw (← front, ← meant) read.spelled;
      };
      placed = read.placed;
    }

pub fault_read : (name : ℕ) (form : Form) (constant : ℤ) (kind : Kind) (section : List ℕ) (at end : ℕ) → at ≤ end → FaultShape (shape_of form name constant) kind (drop at (take end section)) → FaultValue name (code_of form) constant kind (take (end - at) (drop at section))
fault_read name form constant kind section at end starts fault =
    let e : end ≡ at + (end - at) = omega arith in
    record {
      form = form;
      known = refl;
      fault = subst (λ (b : List ℕ). FaultShape (shape_of form name constant) kind b) (ap (λ k. drop at (take k section)) e ∙ drop-take at (end - at) section) fault;
    }
