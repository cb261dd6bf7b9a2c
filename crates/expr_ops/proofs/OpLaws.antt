-- Operations in lists.
use Rattle.std.proofs.Common.{◌≡◌, ◌≤◌, ◌+◌, ◌-◌, ℕ, List, ◌∷◌, ◌++◌, length, get_or, take, drop, ◌∙◌, sym, ap, arith}
use Rattle.std.proofs.lemmas.List.{drop-drop, drop-take, take-take, get_or-append-add}
use Rattle.std.proofs.Math.Seq.{set-append_seam}
use Rattle.std.specs.Prelude.{slice_set}
use Rattle.expr_ops.specs.declared.op.Op.{Op}
use Rattle.expr_ops.specs.Reads.{bytes_in}
use Rattle.expr_ops.specs.Ops.{Stands}
use Rattle.expr_ops.specs.inside.Levels.{with_inner, with_jump}

pub part_of_front : (at n end : ℕ) (l : List ℕ) → at + n ≤ end → take n (drop at (take end l)) ≡ take n (drop at l)
part_of_front at n end l h =
    let e : end ≡ at + (end - at) = omega arith in
    ap (λ k. take n (drop at (take k l))) e ∙ ap (take n) (drop-take at (end - at) l) ∙ take-take n (end - at) (drop at l) (omega arith)

pub span_stands : (outer bytes : List ℕ) (base at len : ℕ) → Stands outer base bytes → at + len ≤ length bytes → bytes_in outer (record { at = base + at; len = len }) ≡ bytes_in bytes (record { at = at; len = len })
span_stands outer bytes base at len st inside =
    ap (take len) (sym (drop-drop at base outer)) ∙ sym (part_of_front at len (length bytes) (drop base outer) inside) ∙ ap (λ z. take len (drop at z)) st.1

here : (before behind : List Op) (op d : Op) → get_or (before ++ op ∷ behind) (length before) d ≡ op
here before behind op d =
    let e : length before + 0 ≡ length before = omega arith in
    ap (λ n. get_or (before ++ op ∷ behind) n d) (sym e) ∙ get_or-append-add before (op ∷ behind) 0 d

pub held_set : (old before held : List Op) (op x : Op) (number n : ℕ) → old ≡ before ++ op ∷ held → length before ≡ number → x ≡ get_or old number x → n ≡ length held → slice_set old number (with_inner x n) ≡ before ++ with_inner op (length held) ∷ held
held_set old before held op x number n items long is e =
    let same : x ≡ op = is ∙ ap (λ z. get_or z number x) items ∙ ap (λ k. get_or (before ++ op ∷ held) k x) (sym long) ∙ here before held op x in
    ap (λ z. slice_set z number (with_inner x n)) items ∙ ap (λ k. slice_set (before ++ op ∷ held) k (with_inner x n)) (sym long) ∙ set-append_seam before op held (with_inner x n) ∙ ap (λ z. before ++ z ∷ held) (ap (λ z. with_inner z n) same ∙ ap (with_inner op) e)

pub sent_set : (old before behind : List Op) (op x : Op) (number n : ℕ) → old ≡ before ++ op ∷ behind → length before ≡ number → x ≡ get_or old number x → slice_set old number (with_jump x n) ≡ before ++ with_jump op n ∷ behind
sent_set old before behind op x number n items long is =
    let same : x ≡ op = is ∙ ap (λ z. get_or z number x) items ∙ ap (λ k. get_or (before ++ op ∷ behind) k x) (sym long) ∙ here before behind op x in
    ap (λ z. slice_set z number (with_jump x n)) items ∙ ap (λ k. slice_set (before ++ op ∷ behind) k (with_jump x n)) (sym long) ∙ set-append_seam before op behind (with_jump x n) ∙ ap (λ z. before ++ z ∷ behind) (ap (λ z. with_jump z n) same)
