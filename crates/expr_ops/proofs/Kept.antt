-- Operations that stay at the front of a list.
use Rattle.std.proofs.Common.{◌≡◌, ℕ, List, [], ◌∷◌, ◌++◌, length, take, ◌∙◌, sym, ap, Result, Ok, Err, OnOk}
use Rattle.std.proofs.lemmas.List.{append_assoc, append-nil, take_at}
use Rattle.expr_ops.specs.declared.op.Op.{Op}
use Rattle.expr_ops.specs.Ops.{Stands}
use Rattle.expr_ops.specs.inside.Levels.{Extends, IsChained, with_inner}
use Rattle.expr_ops.proofs.Fronts.{stands_somewhere}

pub on_ok : {T E : Type 0} (r : Result T E) (P : Type 0) → P → OnOk r P
on_ok (Ok x) P p = p
on_ok (Err e) P p = tt

pub kept_same : (old new : List Op) → new ≡ old → Extends old new
kept_same old new e = ([], e ∙ sym (append-nil old))

pub kept_on : (a b c : List Op) → Extends a b → Extends b c → Extends a c
kept_on a b c (xs, e) (ys, f) = (xs ++ ys, f ∙ ap (λ z. z ++ ys) e ∙ append_assoc a xs ys)

pub kept_chain : (bytes : List ℕ) (base from to : ℕ) (old new : List Op) → ((outer : List ℕ) → Stands outer base bytes → IsChained outer from to old new) → Extends old new
kept_chain bytes base from to old new chain =
    let (outer, st) = stands_somewhere base bytes in
    let (more, e, _) = chain outer st in
    (more, e)

-- an operation is told how many it holds
pub kept_held : (old mid new last : List Op) (op : Op) (number : ℕ) → mid ≡ old ++ op ∷ [] → number ≡ length old → Extends mid new → ((before held : List Op) (o : Op) → new ≡ before ++ o ∷ held → length before ≡ number → last ≡ before ++ with_inner o (length held) ∷ held) → Extends old last
kept_held old mid new last op number m n (more, e) f =
    let items : new ≡ old ++ op ∷ more = e ∙ ap (λ z. z ++ more) m ∙ append_assoc old (op ∷ []) more in
    (with_inner op (length more) ∷ more, f old more op items (sym n))

pub kept_front : (old new : List Op) (n : ℕ) → n ≡ length old → Extends old new → take n new ≡ old
kept_front old new n e (more, f) = ap (take n) f ∙ take_at old more n (sym e)
