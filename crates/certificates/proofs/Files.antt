-- Record files, and places where bytes break their form.
use Rattle.std.proofs.Common.{◌≡◌, ◌<◌, ◌+◌, ℕ, List, [], ◌∷◌, ◌++◌, length, ◌∙◌, sym, ap, refl, subst, arith, inl, inr}
use Rattle.std.proofs.lemmas.List.{append_assoc, append_cancel_left, append-nil, length-append}
use Rattle.spelled.specs.Spelled.{Joined}
use Rattle.spelled.specs.inside.Spelled.{GoesOn}
use Rattle.spelled.proofs.Joins.{joined_agree, joined_same}
use Rattle.dw_base.specs.declared.classes.Classes.{Classes}
use Rattle.leb_codec.specs.Records.{SpellsRecord, HasNone, magic}
use Rattle.leb_codec.specs.RecordLaws.{OneReading, NeverBroken, OneBreak}
use Rattle.certificates.proofs.Ends.{unique_record, record_bytes}

body_same : (classes : Classes) (bytes p q : List ℕ) → bytes ≡ magic classes ++ p → bytes ≡ magic classes ++ q → p ≡ q
body_same classes bytes p q e f = append_cancel_left (magic classes) p q (sym e ∙ f)

ended : (p q : List ℕ) → p ≡ q → p ++ [] ≡ q ++ []
ended p q e = ap (λ z. z ++ []) e

pub one_reading : OneReading
one_reading classes bytes rs ss (p, j, e) (q, k, f) =
    let same : p ≡ q = body_same classes bytes p q e f in
    joined_same SpellsRecord unique_record record_bytes rs ss p q [] [] j k (ended p q same) (ap length same)

-- what stands at the front of bytes where nothing does
pub none_more : {V : Type 0} (S : V → List ℕ → Type 0) (more : List V) (tail x : List ℕ) → Joined S more tail → HasNone S (tail ++ x) → (more ≡ []) × (tail ≡ [])
none_more S [] tail x j none = (refl, j)
none_more S (v ∷ more) tail x (first, rest, s, j, e) none = absurd (none v first (rest ++ x) s (ap (λ z. z ++ x) e ∙ append_assoc first rest x))

-- two descriptions of bytes: where nothing more stands, the second goes no further
pub no_further : {V : Type 0} (S : V → List ℕ → Type 0) (v w : List V) (a b x y : List ℕ) → GoesOn S v a w b → a ++ x ≡ b ++ y → HasNone S x → (w ≡ v) × (b ≡ a)
no_further S v w a b x y o h none =
    let rest : x ≡ o.tail ++ y = append_cancel_left a x (o.tail ++ y) (h ∙ ap (λ z. z ++ y) o.bytes ∙ append_assoc a o.tail y) in
    let end = none_more S o.more o.tail y o.spelled (subst (λ (z : List ℕ). HasNone S z) rest none) in
    (o.values ∙ ap (λ z. v ++ z) end.0 ∙ append-nil v, o.bytes ∙ ap (λ z. a ++ z) end.1 ∙ append-nil a)

pub never_broken : NeverBroken
never_broken classes bytes rs place (p, j, e) (inl none) = none.0 p e
never_broken classes bytes rs place (p, j, e) (inr b) =
    let same : p ≡ b.front ++ b.rest = body_same classes bytes p (b.front ++ b.rest) e b.whole in
    let size : length p ≡ length b.front + length b.rest = ap length same ∙ length-append b.front b.rest in
    let some : 0 < length b.rest = b.left in
    elim (joined_agree SpellsRecord unique_record rs b.before p b.front [] b.rest j b.spelled (append-nil p ∙ same)) [
      | inl o ↦
          let more : length b.front ≡ length p + length o.tail = ap length o.bytes ∙ length-append p o.tail in
          absurd (omega arith)
      | inr o ↦
          let end = no_further SpellsRecord b.before rs b.front p b.rest [] o (sym (append-nil p ∙ same)) b.none in
          let last : length p ≡ length b.front = ap length end.1 in
          absurd (omega arith)
    ]

pub one_break : OneBreak
one_break classes bytes place other (inl p) (inl q) = p.1 ∙ sym q.1
one_break classes bytes place other (inl p) (inr b) = absurd (p.0 (b.front ++ b.rest) b.whole)
one_break classes bytes place other (inr b) (inl q) = absurd (q.0 (b.front ++ b.rest) b.whole)
one_break classes bytes place other (inr b) (inr d) =
    let same : b.front ++ b.rest ≡ d.front ++ d.rest = body_same classes bytes (b.front ++ b.rest) (d.front ++ d.rest) b.whole d.whole in
    let fronts : length b.front ≡ length d.front =
    elim (joined_agree SpellsRecord unique_record b.before d.before b.front d.front b.rest d.rest b.spelled d.spelled same) [
      | inl o ↦ ap length (sym (no_further SpellsRecord b.before d.before b.front d.front b.rest d.rest o same b.none).1)
      | inr o ↦ ap length (no_further SpellsRecord d.before b.before d.front b.front d.rest b.rest o (sym same) d.none).1
    ]
    in
    b.at ∙ ap (λ n. length (magic classes) + n) fronts ∙ sym d.at
