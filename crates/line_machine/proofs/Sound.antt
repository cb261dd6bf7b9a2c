-- Bytes that begin with an opcode have none of an opcode's faults.
use Rattle.std.proofs.Common.{◌≡◌, ◌≢◌, ◌<◌, ◌+◌, ℕ, List, [], ◌∷◌, ◌++◌, length, drop, ◌∙◌, sym, ap, refl, subst, arith, inl, inr}
use Rattle.std.proofs.lemmas.List.{append_assoc, append_cancel_left, length-append}
use Rattle.std.specs.Prelude.{slice_index, ℤ}
use Rattle.spelled.specs.Spelled.{NeverBoth}
use Rattle.leb_codec.specs.Leb.{Uleb, Sleb, IsShort, IsWideUnsigned}
use Rattle.leb_codec.proofs.Fronts.{unique_u, leb_front, leb_not_short, uleb_not_wide, sleb_not_wide}
use Rattle.dw_base.specs.declared.fault.Kind.{Kind}
use Rattle.dw_base.specs.declared.fault.Kind.TheVariants.{Short, LebWide, LineOp}
use Rattle.line_machine.specs.declared.opcode.Opcode.{Opcode}
use Rattle.line_machine.specs.declared.opcode.Opcode.TheVariants.{Copy, AdvancePc, AdvanceLine, SetFile, SetColumn, NegateStmt, SetBasicBlock, ConstAddPc, FixedAdvancePc, SetPrologueEnd, SetEpilogueBegin, SetIsa, EndSequence, SetAddress, SetDiscriminator, Special}
use Rattle.line_machine.specs.Opcodes.{SpellsOperation, SpellsOpcode, IsBase}
use Rattle.line_machine.specs.Faults.{HasUleb, IsSized, IsWrongCount, FaultExtended, FaultOpcode}
use Rattle.line_machine.proofs.Unique.{Same, first, others}

-- a byte without an operand
plain : (base code : ℕ) (kind : Kind) (place : ℕ) (x : List ℕ) → (¬ HasUleb base code) → code ≢ 3 → code ≢ 9 → code ≢ 0 → FaultOpcode base kind place (code ∷ x) → ⊥
plain base code Short place x a b d e (inl (_, _, inl f)) = a f.0
plain base code Short place x a b d e (inl (_, _, inr (inl f))) = b f.0
plain base code Short place x a b d e (inl (_, _, inr (inr f))) = d f.0
plain base code Short place x a b d e (inr f) = e f.1
plain base code LebWide place x a b d e (inl (_, _, inl f)) = a f.0
plain base code LebWide place x a b d e (inl (_, _, inr f)) = b f.0
plain base code LebWide place x a b d e (inr f) = e f.1
plain base code LineOp place x a b d e f = e f.1
plain base code _ place x a b d e f = absurd f

-- a code and a ULEB128
counted : (base code v : ℕ) (kind : Kind) (place : ℕ) (operand x : List ℕ) → code ≢ 3 → code ≢ 9 → code ≢ 0 → Uleb v operand → FaultOpcode base kind place (code ∷ (operand ++ x)) → ⊥
counted base code v Short place operand x b d e u (inl (_, _, inl f)) = leb_not_short operand x u.0.0 f.1
counted base code v Short place operand x b d e u (inl (_, _, inr (inl f))) = b f.0
counted base code v Short place operand x b d e u (inl (_, _, inr (inr f))) = d f.0
counted base code v Short place operand x b d e u (inr f) = e f.1
counted base code v LebWide place operand x b d e u (inl (_, _, inl f)) = uleb_not_wide v operand x u f.1
counted base code v LebWide place operand x b d e u (inl (_, _, inr f)) = b f.0
counted base code v LebWide place operand x b d e u (inr f) = e f.1
counted base code v LineOp place operand x b d e u f = e f.1
counted base code v _ place operand x b d e u f = absurd f

-- advance_line
signed : (base : ℕ) (v : ℤ) (kind : Kind) (place : ℕ) (operand x : List ℕ) → Sleb v operand → FaultOpcode base kind place (3 ∷ (operand ++ x)) → ⊥
signed base v Short place operand x u (inl (_, _, inl f)) = leb_not_short operand x u.0.0 f.1
signed base v Short place operand x u (inl (_, _, inr (inl f))) = leb_not_short operand x u.0.0 f.1
signed base v Short place operand x u (inl (_, _, inr (inr f))) = let h : Same 3 9 = f.0 in absurd (omega arith)
signed base v Short place operand x u (inr f) = let h : Same 3 0 = f.1 in absurd (omega arith)
signed base v LebWide place operand x u (inl (_, _, inl (inl f, _))) = let h : Same 3 2 = f in absurd (omega arith)
signed base v LebWide place operand x u (inl (_, _, inl (inr (inl f), _))) = let h : Same 3 4 = f in absurd (omega arith)
signed base v LebWide place operand x u (inl (_, _, inl (inr (inr (inl f)), _))) = let h : Same 3 5 = f in absurd (omega arith)
signed base v LebWide place operand x u (inl (_, _, inl (inr (inr (inr f)), _))) = let h : Same 3 12 = f.0 in absurd (omega arith)
signed base v LebWide place operand x u (inl (_, _, inr f)) = sleb_not_wide v operand x u f.1
signed base v LebWide place operand x u (inr f) = let h : Same 3 0 = f.1 in absurd (omega arith)
signed base v LineOp place operand x u f = let h : Same 3 0 = f.1 in absurd (omega arith)
signed base v _ place operand x u f = absurd f

not_uleb : (base code : ℕ) → code ≢ 2 → code ≢ 4 → code ≢ 5 → (code ≡ 12 → 12 < base → ⊥) → ¬ HasUleb base code
not_uleb base code a b d e (inl f) = a f
not_uleb base code a b d e (inr (inl f)) = b f
not_uleb base code a b d e (inr (inr (inl f))) = d f
not_uleb base code a b d e (inr (inr (inr f))) = e f.0 f.1

-- fixed_advance_pc
fixed : (base : ℕ) (kind : Kind) (place : ℕ) (operand x : List ℕ) → length operand ≡ 2 → FaultOpcode base kind place (9 ∷ (operand ++ x)) → ⊥
fixed base Short place operand x size (inl (_, _, inl f)) = not_uleb base 9 (λ h. absurd (omega arith)) (λ h. absurd (omega arith)) (λ h. absurd (omega arith)) (λ h _. absurd (omega arith)) f.0
fixed base Short place operand x size (inl (_, _, inr (inl f))) = let h : Same 9 3 = f.0 in absurd (omega arith)
fixed base Short place operand x size (inl (_, _, inr (inr f))) =
    let h : length (operand ++ x) < 2 = f.1 in
    let e : length (operand ++ x) ≡ length operand + length x = length-append operand x in
    absurd (omega arith)
fixed base Short place operand x size (inr f) = let h : Same 9 0 = f.1 in absurd (omega arith)
fixed base LebWide place operand x size (inl (_, _, inl f)) = not_uleb base 9 (λ h. absurd (omega arith)) (λ h. absurd (omega arith)) (λ h. absurd (omega arith)) (λ h _. absurd (omega arith)) f.0
fixed base LebWide place operand x size (inl (_, _, inr f)) = let h : Same 9 3 = f.0 in absurd (omega arith)
fixed base LebWide place operand x size (inr f) = let h : Same 9 0 = f.1 in absurd (omega arith)
fixed base LineOp place operand x size f = let h : Same 9 0 = f.1 in absurd (omega arith)
fixed base _ place operand x size f = absurd f

-- the code and the operand of an extended opcode
lead_of : (op : Opcode) (body : List ℕ) → SpellsOperation op body → 0 < length body
lead_of EndSequence body s = let n = ap length s in omega (arith, n)
lead_of (SetAddress v) body s = let n = ap length s.whole in omega (arith, n)
lead_of (SetDiscriminator v) body s = let n = ap length s.2 in omega (arith, n)
lead_of _ body s = absurd s

-- what begins with 4 is the discriminator's
discriminator : (op : Opcode) (body x operand : List ℕ) → SpellsOperation op body → body ++ x ≡ 4 ∷ operand → (v : ℕ) × (leb : List ℕ) × Uleb v leb × (operand ≡ leb ++ x) × (length body ≡ 1 + length leb)
discriminator EndSequence body x operand s e = let h : Same 1 4 = ap (λ (z : List ℕ). first (z ++ x)) (sym s) ∙ ap first e in absurd (omega arith)
discriminator (SetAddress a) body x operand s e = let h : Same 2 4 = ap (λ (z : List ℕ). first (z ++ x)) (sym s.whole) ∙ ap first e in absurd (omega arith)
discriminator (SetDiscriminator v) body x operand (leb, u, w) e =
    let n : length body ≡ length (4 ∷ leb) = ap length w in
    (v, leb, u, ap others (sym e) ∙ ap (λ (z : List ℕ). others (z ++ x)) w, omega (arith, n))
discriminator _ body x operand s e = absurd s

-- a length that is that of an extended opcode isn't wrong
right_count : (op : Opcode) (body x : List ℕ) → SpellsOperation op body → IsWrongCount (length body) (slice_index (body ++ x) 0) (drop 1 (body ++ x)) → ⊥
right_count EndSequence body x s w =
    let w2 : IsWrongCount (length body) 1 x = subst (λ (z : List ℕ). IsWrongCount (length body) (slice_index (z ++ x) 0) (drop 1 (z ++ x))) s w in
    let n : length body ≡ 1 = ap length s in
    elim w2 [
      | inl f ↦ f.1 n
      | inr (inl f) ↦ let h : Same 1 2 = f.0 in absurd (omega arith)
      | inr (inr (inl f)) ↦ let h : Same 1 4 = f.0 in absurd (omega arith)
      | inr (inr (inr f)) ↦ f.0 refl
    ]
right_count (SetAddress a) body x s w =
    let w2 : IsWrongCount (length body) 2 (s.operand ++ x) = subst (λ (z : List ℕ). IsWrongCount (length body) (slice_index (z ++ x) 0) (drop 1 (z ++ x))) s.whole w in
    let n : length body ≡ length (2 ∷ s.operand) = ap length s.whole in
    let eight : length s.operand ≡ 8 = s.size in
    elim w2 [
      | inl f ↦ let h : Same 2 1 = f.0 in absurd (omega arith)
      | inr (inl f) ↦ f.1 (omega (arith, n))
      | inr (inr (inl f)) ↦ let h : Same 2 4 = f.0 in absurd (omega arith)
      | inr (inr (inr f)) ↦ f.1 refl
    ]
right_count (SetDiscriminator v) body x (leb, u, whole) w =
    let w2 : IsWrongCount (length body) 4 (leb ++ x) = subst (λ (z : List ℕ). IsWrongCount (length body) (slice_index (z ++ x) 0) (drop 1 (z ++ x))) whole w in
    let n : length body ≡ length (4 ∷ leb) = ap length whole in
    elim w2 [
      | inl f ↦ let h : Same 4 1 = f.0 in absurd (omega arith)
      | inr (inl f) ↦ let h : Same 4 2 = f.0 in absurd (omega arith)
      | inr (inr (inl f)) ↦
          let same : leb ≡ f.1.0 = leb_front leb f.1.0 x f.1.1 u.0.0 f.1.2 f.1.3 in
          f.1.4 (omega (arith, n, ap length same))
      | inr (inr (inr f)) ↦ f.2 refl
    ]
right_count _ body x s w = absurd s

-- the length of an extended opcode is one
one_size : (size body x size2 body2 : List ℕ) (count : ℕ) → Uleb (length body) size → IsSized (size ++ (body ++ x)) size2 count body2 → (count ≡ length body) × (body2 ≡ body ++ x)
one_size size body x size2 body2 count u s =
    let one = unique_u count (length body) size2 size body2 (body ++ x) s.number u (sym s.whole) in
    (one.1, append_cancel_left size body2 (body ++ x) (ap (λ z. z ++ body2) (sym one.0) ∙ sym s.whole))

extended : (base : ℕ) (op : Opcode) (kind : Kind) (place : ℕ) (size body x : List ℕ) → Uleb (length body) size → SpellsOperation op body → FaultExtended kind place (size ++ (body ++ x)) → ⊥
extended base op Short place size body x u s (inl f) = leb_not_short size (body ++ x) u.0.0 f.1
extended base op Short place size body x u s (inr (inl (size2, count, body2, sized, over, _))) =
    let one = one_size size body x size2 body2 count u sized in
    let n : length body2 ≡ length body + length x = ap length one.1 ∙ length-append body x in
    absurd (omega (arith, one.0))
extended base op Short place size body x u s (inr (inr (size2, count, operand, sized, some, short, _))) =
    let one = one_size size body x size2 (4 ∷ operand) count u sized in
    let d = discriminator op body x operand s (sym one.1) in
    leb_not_short d.1 x d.2.0.0 (subst (λ (z : List ℕ). IsShort z) d.3 short)
extended base op LebWide place size body x u s (inl f) = uleb_not_wide (length body) size (body ++ x) u f.1
extended base op LebWide place size body x u s (inr (size2, count, operand, sized, some, wide, _)) =
    let one = one_size size body x size2 (4 ∷ operand) count u sized in
    let d = discriminator op body x operand s (sym one.1) in
    uleb_not_wide d.0 d.1 x d.2 (subst (λ (z : List ℕ). IsWideUnsigned z) d.3 wide)
extended base op LineOp place size body x u s (size2, count, body2, sized, inl none, _) =
    let one = one_size size body x size2 body2 count u sized in
    let some = lead_of op body s in
    absurd (omega (arith, one.0))
extended base op LineOp place size body x u s (size2, count, body2, sized, inr (_, wrong), _) =
    let one = one_size size body x size2 body2 count u sized in
    right_count op body x s (subst (λ (z : List ℕ). IsWrongCount (length body) (slice_index z 0) (drop 1 z)) one.1 (subst (λ (z : ℕ). IsWrongCount z (slice_index body2 0) (drop 1 body2)) one.0 wrong))
extended base op _ place size body x u s f = absurd f

zero_code : (base : ℕ) (op : Opcode) (kind : Kind) (place : ℕ) (size body x : List ℕ) → Uleb (length body) size → SpellsOperation op body → FaultOpcode base kind place (0 ∷ (size ++ (body ++ x))) → ⊥
zero_code base op Short place size body x u s (inl (_, _, inl f)) = not_uleb base 0 (λ h. absurd (omega arith)) (λ h. absurd (omega arith)) (λ h. absurd (omega arith)) (λ h _. absurd (omega arith)) f.0
zero_code base op Short place size body x u s (inl (_, _, inr (inl f))) = let h : Same 0 3 = f.0 in absurd (omega arith)
zero_code base op Short place size body x u s (inl (_, _, inr (inr f))) = let h : Same 0 9 = f.0 in absurd (omega arith)
zero_code base op Short place size body x u s (inr f) = extended base op Short place size body x u s f.2
zero_code base op LebWide place size body x u s (inl (_, _, inl f)) = not_uleb base 0 (λ h. absurd (omega arith)) (λ h. absurd (omega arith)) (λ h. absurd (omega arith)) (λ h _. absurd (omega arith)) f.0
zero_code base op LebWide place size body x u s (inl (_, _, inr f)) = let h : Same 0 3 = f.0 in absurd (omega arith)
zero_code base op LebWide place size body x u s (inr f) = extended base op LebWide place size body x u s f.2
zero_code base op LineOp place size body x u s f = extended base op LineOp place size body x u s f.2
zero_code base op _ place size body x u s f = absurd f

-- the fault of bytes of which the first part is known
at_front : (base : ℕ) (kind : Kind) (place : ℕ) (a b x : List ℕ) → a ≡ b → FaultOpcode base kind place (a ++ x) → FaultOpcode base kind place (b ++ x)
at_front base kind place a b x e f = subst (λ (z : List ℕ). FaultOpcode base kind place (z ++ x)) e f

no_operand : (base code : ℕ) (kind : Kind) (place : ℕ) (a x : List ℕ) → code ≢ 0 → code ≢ 2 → code ≢ 3 → code ≢ 4 → code ≢ 5 → code ≢ 9 → (code ≡ 12 → 12 < base → ⊥) → a ≡ code ∷ [] → FaultOpcode base kind place (a ++ x) → ⊥
no_operand base code kind place a x n0 n2 n3 n4 n5 n9 n12 e f =
    plain base code kind place x (not_uleb base code n2 n4 n5 n12) n3 n9 n0 (at_front base kind place a (code ∷ []) x e f)

extended_whole : (base : ℕ) (op : Opcode) (kind : Kind) (place : ℕ) (a size body x : List ℕ) → Uleb (length body) size → SpellsOperation op body → a ≡ 0 ∷ (size ++ body) → FaultOpcode base kind place (a ++ x) → ⊥
extended_whole base op kind place a size body x u s e f =
    zero_code base op kind place size body x u s (subst (λ (z : List ℕ). FaultOpcode base kind place (0 ∷ z)) (append_assoc size body x) (at_front base kind place a (0 ∷ (size ++ body)) x e f))

module _ (base : ℕ) (is : IsBase base) where
  pub opcodes_whole : NeverBoth (SpellsOpcode base) (FaultOpcode base)
  opcodes_whole Copy k at a x s f = no_operand base 1 k at a x (λ h. absurd (omega arith)) (λ h. absurd (omega arith)) (λ h. absurd (omega arith)) (λ h. absurd (omega arith)) (λ h. absurd (omega arith)) (λ h. absurd (omega arith)) (λ h _. absurd (omega arith)) s f
  opcodes_whole NegateStmt k at a x s f = no_operand base 6 k at a x (λ h. absurd (omega arith)) (λ h. absurd (omega arith)) (λ h. absurd (omega arith)) (λ h. absurd (omega arith)) (λ h. absurd (omega arith)) (λ h. absurd (omega arith)) (λ h _. absurd (omega arith)) s f
  opcodes_whole SetBasicBlock k at a x s f = no_operand base 7 k at a x (λ h. absurd (omega arith)) (λ h. absurd (omega arith)) (λ h. absurd (omega arith)) (λ h. absurd (omega arith)) (λ h. absurd (omega arith)) (λ h. absurd (omega arith)) (λ h _. absurd (omega arith)) s f
  opcodes_whole ConstAddPc k at a x s f = no_operand base 8 k at a x (λ h. absurd (omega arith)) (λ h. absurd (omega arith)) (λ h. absurd (omega arith)) (λ h. absurd (omega arith)) (λ h. absurd (omega arith)) (λ h. absurd (omega arith)) (λ h _. absurd (omega arith)) s f
  opcodes_whole SetPrologueEnd k at a x s f = no_operand base 10 k at a x (λ h. absurd (omega arith)) (λ h. absurd (omega arith)) (λ h. absurd (omega arith)) (λ h. absurd (omega arith)) (λ h. absurd (omega arith)) (λ h. absurd (omega arith)) (λ h _. absurd (omega arith)) s.1 f
  opcodes_whole SetEpilogueBegin k at a x s f = no_operand base 11 k at a x (λ h. absurd (omega arith)) (λ h. absurd (omega arith)) (λ h. absurd (omega arith)) (λ h. absurd (omega arith)) (λ h. absurd (omega arith)) (λ h. absurd (omega arith)) (λ h _. absurd (omega arith)) s.1 f
  opcodes_whole (Special n) k at a x s f =
      let low : 9 < base = is.0 in
      no_operand base (base + n) k at a x (λ h. absurd (omega arith)) (λ h. absurd (omega arith)) (λ h. absurd (omega arith)) (λ h. absurd (omega arith)) (λ h. absurd (omega arith)) (λ h. absurd (omega arith)) (λ h g. absurd (omega arith)) s.1 f
  opcodes_whole (AdvancePc v) k at a x (operand, u, e) f = counted base 2 v k at operand x (λ h. absurd (omega arith)) (λ h. absurd (omega arith)) (λ h. absurd (omega arith)) u (at_front base k at a (2 ∷ operand) x e f)
  opcodes_whole (SetFile v) k at a x (operand, u, e) f = counted base 4 v k at operand x (λ h. absurd (omega arith)) (λ h. absurd (omega arith)) (λ h. absurd (omega arith)) u (at_front base k at a (4 ∷ operand) x e f)
  opcodes_whole (SetColumn v) k at a x (operand, u, e) f = counted base 5 v k at operand x (λ h. absurd (omega arith)) (λ h. absurd (omega arith)) (λ h. absurd (omega arith)) u (at_front base k at a (5 ∷ operand) x e f)
  opcodes_whole (SetIsa v) k at a x (below, (operand, u, e)) f = counted base 12 v k at operand x (λ h. absurd (omega arith)) (λ h. absurd (omega arith)) (λ h. absurd (omega arith)) u (at_front base k at a (12 ∷ operand) x e f)
  opcodes_whole (AdvanceLine v) k at a x (operand, u, e) f = signed base v k at operand x u (at_front base k at a (3 ∷ operand) x e f)
  opcodes_whole (FixedAdvancePc v) k at a x s f = fixed base k at s.operand x s.size (at_front base k at a (9 ∷ s.operand) x s.whole f)
  opcodes_whole EndSequence k at a x s f = extended_whole base EndSequence k at a s.size s.body x s.counted s.operation s.whole f
  opcodes_whole (SetAddress v) k at a x s f = extended_whole base (SetAddress v) k at a s.size s.body x s.counted s.operation s.whole f
  opcodes_whole (SetDiscriminator v) k at a x s f = extended_whole base (SetDiscriminator v) k at a s.size s.body x s.counted s.operation s.whole f
