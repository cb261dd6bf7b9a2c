-- What is written of an operation that holds no others spells it again, with its new reference.
use Rattle.std.proofs.Common.{◌≡◌, ◌≢◌, ◌<◌, ◌^◌, ℕ, List, [], ◌∙◌, sym, ap, refl, subst, arith, inl, inr, Bool, true, false, Option, Some, None}
use Rattle.std.proofs.lemmas.Bool.{ne_eqb}
use Rattle.std.proofs.lemmas.Bool.Decides.{eqb_tells}
use Rattle.std.specs.Prelude.{ℤ, pos, nat_eq, if◌then◌else◌, ◌⊎◌}
use Rattle.expr_ops.specs.declared.table.Width.TheVariants.{Two, Four}
use Rattle.expr_ops.specs.declared.table.Shape.TheVariants as shape
use Rattle.expr_ops.specs.declared.table.Operands.{Operands}
use Rattle.expr_ops.specs.declared.table.Operands.TheVariants as operands
use Rattle.expr_ops.specs.Table.{operands_of}
use Rattle.expr_ops.specs.Heads.{Head, SpellsOperands, SpellsHead, holding}
use Rattle.expr_ops.specs.Expressions.{Operation, operation_of, plain_code, kept_sign, kept_block, IsBranch, IsEntryValue}
use Rattle.expr_ops.specs.Puts.{call_size, call_code, PutsOwn}
use Rattle.expr_ops.specs.Fits.{FitsPart}
use Rattle.expr_ops.specs.Drafts.{with_a, has_reference}
use Rattle.expr_ops.proofs.HeadLaws.{some_same}
use Rattle.expr_ops.proofs.PutSpells.{call_spelled}
use Rattle.expr_ops.proofs.HeadsKept.{full, head_a, Refers, read_as, puts_spelled, other_spelled}

-- BRANCHES AND CALLS

no_block : (code : ℕ) (kinds : Operands) (head : Head) (tail : List ℕ) → kinds ≡ operands.One (shape.Signed Two) → SpellsOperands code kinds head tail → (head.a ≡ 0) × (head.block ≡ [])
no_block code kinds head tail e s =
    let (p, q, f) : SpellsOperands code (operands.One (shape.Signed Two)) head tail = subst (λ (z : Operands). SpellsOperands code z head tail) e s in
    let g = f ∙ ap (holding code) q.1 in
    (ap (λ (z : Head). z.a) g, ap (λ (z : Head). z.block) g)

branch_kinds : (code : ℕ) → IsBranch code → operands_of code ≡ Some (operands.One (shape.Signed Two))
branch_kinds code (inl e) = ap operands_of e
branch_kinds code (inr e) = ap operands_of e

branch_other : (code n : ℕ) → IsBranch code → (40 ≢ n) → (47 ≢ n) → code ≢ n
branch_other code n (inl e) a b f = a (sym e ∙ f)
branch_other code n (inr e) a b f = b (sym e ∙ f)

abbrev branching : ℕ → ℤ → Head
branching code v = record { code = code; a = 0; s = v; block = [] }

branch_spelled : (head : Head) (old : List ℕ) (slot : Option ℕ) (o : Operation) (own : List ℕ) → SpellsHead head old → IsBranch head.code → o.code ≡ head.code → FitsPart (shape.Signed Two) 0 o.s [] → PutsOwn slot o own → SpellsHead (branching head.code o.s) own × (head.a ≡ 0) × (head.block ≡ [])
branch_spelled head old slot o own s b e fits puts =
    let i = read_as head old s in
    let kinds = operands.One (shape.Signed Two) in
    let known : operands_of head.code ≡ Some kinds = branch_kinds head.code b in
    let none = no_block head.code s.operands head s.tail (some_same s.operands kinds (sym i.known ∙ known)) i.spelled in
    let below : o.code < 256 = let h = i.below in omega (arith, h, e) in
    let no_call : o.code ≢ 153 = λ f. branch_other head.code 153 b (λ z. absurd (omega (arith, z))) (λ z. absurd (omega (arith, z))) (sym e ∙ f) in
    let no_entry : o.code ≢ 163 = λ f. branch_other head.code 163 b (λ z. absurd (omega (arith, z))) (λ z. absurd (omega (arith, z))) (sym e ∙ f) in
    let new = puts_spelled kinds slot o own no_call no_entry below (ap operands_of e ∙ known) fits puts in
    (subst (λ (c : ℕ). SpellsHead (branching c o.s) own) e new, none.0, none.1)

-- call2 or call4
abbrev IsAnyCall : ℕ → Type 0
IsAnyCall code = (code ≡ 152) ⊎ (code ≡ 153)

call_kinds : (code : ℕ) → IsAnyCall code → (operands_of code ≡ Some (operands.One (shape.Unsigned Two))) ⊎ (operands_of code ≡ Some (operands.One (shape.Unsigned Four)))
call_kinds code (inl e) = inl (ap operands_of e)
call_kinds code (inr e) = inr (ap operands_of e)

only_a : (code : ℕ) (kinds : Operands) (head : Head) (tail : List ℕ) → (kinds ≡ operands.One (shape.Unsigned Two)) ⊎ (kinds ≡ operands.One (shape.Unsigned Four)) → SpellsOperands code kinds head tail → (head.s ≡ pos 0) × (head.block ≡ [])
only_a code kinds head tail (inl e) s =
    let (p, q, f) : SpellsOperands code (operands.One (shape.Unsigned Two)) head tail = subst (λ (z : Operands). SpellsOperands code z head tail) e s in
    let g = f ∙ ap (holding code) q.1 in
    (ap (λ (z : Head). z.s) g, ap (λ (z : Head). z.block) g)
only_a code kinds head tail (inr e) s =
    let (p, q, f) : SpellsOperands code (operands.One (shape.Unsigned Four)) head tail = subst (λ (z : Operands). SpellsOperands code z head tail) e s in
    let g = f ∙ ap (holding code) q.1 in
    (ap (λ (z : Head). z.s) g, ap (λ (z : Head). z.block) g)

abbrev calling : Option ℕ → ℕ → Head
calling slot n = record { code = call_code slot; a = n; s = pos 0; block = [] }

call_put : (slot : Option ℕ) (o : Operation) (own : List ℕ) → o.code ≡ 153 → o.a < 256 ^ call_size slot → PutsOwn slot o own → SpellsHead (calling slot o.a) own
call_put slot o own e fits (inl (call, p)) = call_spelled slot o.a own fits p
call_put slot o own e fits (inr (inl (entry, p))) = let no : 153 ≡ o.code = sym e in absurd (omega (arith, entry, no))
call_put slot o own e fits (inr (inr (no_call, other, p))) = absurd (no_call e)

call_was : (head : Head) (old : List ℕ) → SpellsHead head old → IsAnyCall head.code → (head.s ≡ pos 0) × (head.block ≡ [])
call_was head old s c =
    let i = read_as head old s in
    let kinds : (s.operands ≡ operands.One (shape.Unsigned Two)) ⊎ (s.operands ≡ operands.One (shape.Unsigned Four)) = elim (call_kinds head.code c) [
      | inl k ↦ inl (some_same s.operands (operands.One (shape.Unsigned Two)) (sym i.known ∙ k))
      | inr k ↦ inr (some_same s.operands (operands.One (shape.Unsigned Four)) (sym i.known ∙ k))
    ] in
    only_a head.code s.operands head s.tail kinds i.spelled

-- WHAT AN OPERATION KEEPS OF ITS OPCODE

plain_same : (code : ℕ) → code ≢ 152 → plain_code code ≡ code
plain_same code h = rw (ne_eqb code 152 h) refl

plain_call : (code : ℕ) → IsAnyCall code → plain_code code ≡ 153
plain_call code (inl e) = ap plain_code e
plain_call code (inr e) = ap plain_code e

sign_same : (code : ℕ) (v : ℤ) → (¬ IsBranch code) → kept_sign code v ≡ v
sign_same code v h = rw (ne_eqb code 40 (λ e. h (inl e)), ne_eqb code 47 (λ e. h (inr e))) refl

sign_none : (code : ℕ) (v : ℤ) → IsBranch code → kept_sign code v ≡ pos 0
sign_none code v (inl e) = ap (λ c. kept_sign c v) e
sign_none code v (inr e) = ap (λ c. kept_sign c v) e

block_same : (code : ℕ) (block : List ℕ) → code ≢ 163 → kept_block code block ≡ block
block_same code block h = rw (ne_eqb code 163 h) refl

pub operation_as : (head : Head) (jump inner code : ℕ) (v : ℤ) (block : List ℕ) → plain_code head.code ≡ code → kept_sign head.code head.s ≡ v → kept_block head.code head.block ≡ block → operation_of head jump inner ≡ record { code = code; a = head.a; s = v; block = block; jump = jump; inner = inner }
operation_as head jump inner code v block e f g =
    ap (λ c. record { code = c; a = head.a; s = kept_sign head.code head.s; block = kept_block head.code head.block; jump = jump; inner = inner }) e
    ∙ ap (λ z. record { code = code; a = head.a; s = z; block = kept_block head.code head.block; jump = jump; inner = inner }) f
    ∙ ap (λ z. record { code = code; a = head.a; s = v; block = z; jump = jump; inner = inner }) g

-- the same by its number, its sign and its bytes
same_fields : (code a b jump : ℕ) (v w : ℤ) (block bytes : List ℕ) (other : Operation) → a ≡ b → v ≡ w → block ≡ bytes → other ≡ record { code = code; a = b; s = w; block = bytes; jump = jump; inner = 0 } → record { code = code; a = a; s = v; block = block; jump = jump; inner = 0 } ≡ other
same_fields code a b jump v w block bytes other e f g h =
    ap (λ (z : ℕ). record { code = code; a = z; s = v; block = block; jump = jump; inner = 0 }) e
    ∙ ap (λ (z : ℤ). record { code = code; a = b; s = z; block = block; jump = jump; inner = 0 }) f
    ∙ ap (λ (z : List ℕ). record { code = code; a = b; s = w; block = z; jump = jump; inner = 0 }) g
    ∙ sym h

-- A NEW HEAD

abbrev pub with_s : ℤ → Operation → Operation
with_s v o = record { code = o.code; a = o.a; s = v; block = o.block; jump = o.jump; inner = o.inner }

-- what is written spells an opcode and operands that mean the operation with its new reference
pub record IsRewritten (head : Head) (jump : ℕ) (named written : Operation) (own : List ℕ) : Type 0 where
  pub new : Head
  pub spelled : SpellsHead new own
  pub means : named ≡ operation_of new jump 0
  pub plain : ¬ IsEntryValue new.code
  pub was : IsBranch new.code → IsBranch head.code
  pub stays : IsBranch head.code → IsBranch new.code
  pub sign : IsBranch new.code → new.s ≡ written.s

abbrev pub Rewrites : Head → ℕ → Option ℕ → ℕ → Operation → List ℕ → Operation → Type 0
Rewrites head jump slot x written own o = Refers o.code o.a slot x → PutsOwn slot written own → (IsBranch o.code → (written ≡ with_s written.s (with_a x o)) × FitsPart (shape.Signed Two) 0 written.s []) → ((¬ IsBranch o.code) → written ≡ with_a x o) → IsRewritten head jump (with_a x o) written own

call_rewrites : (head : Head) (old : List ℕ) (jump : ℕ) (slot : Option ℕ) (x : ℕ) (written : Operation) (own : List ℕ) → SpellsHead head old → IsAnyCall head.code → Rewrites head jump slot x written own (record { code = 153; a = head.a; s = head.s; block = head.block; jump = jump; inner = 0 })
call_rewrites head old jump slot x written own s c r puts branch other =
    let o : Operation = record { code = 153; a = head.a; s = head.s; block = head.block; jump = jump; inner = 0 } in
    let plain : ¬ IsBranch 153 = λ b. elim b [ inl e ↦ absurd (omega (arith, e)) | inr e ↦ absurd (omega (arith, e)) ] in
    let is : written ≡ with_a x o = other plain in
    let code : written.code ≡ 153 = ap (λ (z : Operation). z.code) is in
    let number : written.a ≡ x = ap (λ (z : Operation). z.a) is in
    let limit : x < 256 ^ call_size slot = r.1 refl in
    let was = call_was head old s c in
    let new = calling slot x in
    let spelled : SpellsHead new own = subst (λ (z : ℕ). SpellsHead (calling slot z) own) number (call_put slot written own code (subst (λ (z : ℕ). z < 256 ^ call_size slot) (sym number) limit) puts) in
    let any : IsAnyCall (call_code slot) = any_call slot in
    let back = operation_as new jump 0 153 (pos 0) [] (plain_call (call_code slot) any) (sign_same (call_code slot) (pos 0) (call_plain (call_code slot) any)) (block_same (call_code slot) [] (call_other (call_code slot) any)) in
    record {
      new = new;
      spelled = spelled;
      means = same_fields 153 x x jump head.s (pos 0) head.block [] (operation_of new jump 0) refl was.0 was.1 back;
      plain = call_other (call_code slot) any;
      was = λ b. absurd (call_plain (call_code slot) any b);
      stays = λ b. absurd (call_plain head.code c b);
      sign = λ b. absurd (call_plain (call_code slot) any b);
    }
  where
    any_size : (b : Bool) → IsAnyCall (if b then 152 else 153)
    any_size true = inl refl
    any_size false = inr refl

    any_call : (z : Option ℕ) → IsAnyCall (call_code z)
    any_call None = inr refl
    any_call (Some size) = any_size (nat_eq size 2)

    call_plain : (code : ℕ) → IsAnyCall code → ¬ IsBranch code
    call_plain code (inl e) (inl f) = omega (arith, e, f)
    call_plain code (inl e) (inr f) = omega (arith, e, f)
    call_plain code (inr e) (inl f) = omega (arith, e, f)
    call_plain code (inr e) (inr f) = omega (arith, e, f)

    call_other : (code : ℕ) → IsAnyCall code → code ≢ 163
    call_other code (inl e) f = omega (arith, e, f)
    call_other code (inr e) f = omega (arith, e, f)

branch_rewrites : (head : Head) (old : List ℕ) (jump : ℕ) (slot : Option ℕ) (x : ℕ) (written : Operation) (own : List ℕ) → SpellsHead head old → IsBranch head.code → Rewrites head jump slot x written own (record { code = head.code; a = head.a; s = pos 0; block = head.block; jump = jump; inner = 0 })
branch_rewrites head old jump slot x written own s b r puts branch other =
    let (is, fits) = branch b in
    let code : written.code ≡ head.code = ap (λ (z : Operation). z.code) is in
    let (spelled, no_a, none) = branch_spelled head old slot written own s b code fits puts in
    let same : x ≡ head.a = r.0 (unnamed head.code b) in
    let new = branching head.code written.s in
    let no_call = branch_other head.code 152 b (λ z. absurd (omega (arith, z))) (λ z. absurd (omega (arith, z))) in
    let no_entry = branch_other head.code 163 b (λ z. absurd (omega (arith, z))) (λ z. absurd (omega (arith, z))) in
    let back = operation_as new jump 0 head.code (pos 0) [] (plain_same head.code no_call) (sign_none head.code written.s b) (block_same head.code [] no_entry) in
    record {
      new = new;
      spelled = spelled;
      means = same_fields head.code x 0 jump (pos 0) (pos 0) head.block [] (operation_of new jump 0) (same ∙ no_a) refl none back;
      plain = no_entry;
      was = λ z. z;
      stays = λ z. z;
      sign = λ z. refl;
    }
  where
    unnamed : (code : ℕ) → IsBranch code → has_reference code ≡ false
    unnamed code (inl e) = ap has_reference e
    unnamed code (inr e) = ap has_reference e

other_rewrites : (head : Head) (old : List ℕ) (jump : ℕ) (slot : Option ℕ) (x : ℕ) (written : Operation) (own : List ℕ) → SpellsHead head old → (¬ IsAnyCall head.code) → (¬ IsBranch head.code) → head.code ≢ 163 → Rewrites head jump slot x written own (full head jump 0)
other_rewrites head old jump slot x written own s no_call no_branch no_entry r puts branch other =
    let is : written ≡ with_a x (full head jump 0) = other no_branch in
    let new = head_a x head in
    record {
      new = new;
      spelled = other_spelled head old jump slot x own s (λ e. no_call (inr e)) no_entry r (subst (λ (z : Operation). PutsOwn slot z own) is puts);
      means = sym (operation_as new jump 0 head.code head.s head.block (plain_same head.code (λ e. no_call (inl e))) (sign_same head.code head.s no_branch) (block_same head.code head.block no_entry));
      plain = no_entry;
      was = λ z. z;
      stays = λ z. z;
      sign = λ z. absurd (no_branch z);
    }

decide_two : (code m n : ℕ) → ((code ≡ m) ⊎ (code ≡ n)) ⊎ ((code ≢ m) × (code ≢ n))
decide_two code m n =
    elim (eqb_tells code m) [
      | inl (t, e) ↦ inl (inl e)
      | inr (f, e) ↦ elim (eqb_tells code n) [
        | inl (t, g) ↦ inl (inr g)
        | inr (h, g) ↦ inr (e, g)
      ]
    ]

-- an operation that holds no others, with its new reference
pub head_rewritten : (head : Head) (old : List ℕ) (jump : ℕ) (slot : Option ℕ) (x : ℕ) (written : Operation) (own : List ℕ) → SpellsHead head old → head.code ≢ 163 → Rewrites head jump slot x written own (operation_of head jump 0)
head_rewritten head old jump slot x written own s no_entry =
    let block = block_same head.code head.block no_entry in
    elim (decide_two head.code 152 153) [
      | inl call ↦
          let plain : ¬ IsBranch head.code = λ b. elim call [
            | inl e ↦ absurd (branch_other head.code 152 b (λ z. absurd (omega (arith, z))) (λ z. absurd (omega (arith, z))) e)
            | inr e ↦ absurd (branch_other head.code 153 b (λ z. absurd (omega (arith, z))) (λ z. absurd (omega (arith, z))) e)
          ] in
          let is = operation_as head jump 0 153 head.s head.block (plain_call head.code call) (sign_same head.code head.s plain) block in
          subst (λ (z : Operation). Rewrites head jump slot x written own z) (sym is) (call_rewrites head old jump slot x written own s call)
      | inr (no_two, no_four) ↦ elim (decide_two head.code 40 47) [
        | inl b ↦
            let is = operation_as head jump 0 head.code (pos 0) head.block (plain_same head.code no_two) (sign_none head.code head.s b) block in
            subst (λ (z : Operation). Rewrites head jump slot x written own z) (sym is) (branch_rewrites head old jump slot x written own s b)
        | inr (no_bra, no_skip) ↦
            let no_branch : ¬ IsBranch head.code = λ b. elim b [ inl e ↦ no_bra e | inr e ↦ no_skip e ] in
            let no_call : ¬ IsAnyCall head.code = λ c. elim c [ inl e ↦ no_two e | inr e ↦ no_four e ] in
            let is = operation_as head jump 0 head.code head.s head.block (plain_same head.code no_two) (sign_same head.code head.s no_branch) block in
            subst (λ (z : Operation). Rewrites head jump slot x written own z) (sym is) (other_rewrites head old jump slot x written own s no_call no_branch no_entry)
      ]
    ]
