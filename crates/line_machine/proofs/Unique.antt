-- The bytes of opcodes end by themselves.
use Rattle.std.proofs.Common.{◌≡◌, ◌<◌, ◌+◌, ℕ, List, [], ◌∷◌, ◌++◌, length, ◌∙◌, sym, ap, refl, arith}
use Rattle.std.proofs.lemmas.List.{append_assoc, append_cancel_left}
use Rattle.std.specs.Prelude.{ℤ, ⊤}
use Rattle.spelled.specs.Spelled.{HasUniqueFronts}
use Rattle.spelled.specs.inside.Spelled.{HasBytes}
use Rattle.spelled.proofs.Parts.{same_front}
use Rattle.leb_codec.proofs.Fronts.{unique_u, unique_s}
use Rattle.line_machine.specs.declared.opcode.Opcode.{Opcode}
use Rattle.line_machine.specs.declared.opcode.Opcode.TheVariants.{Copy, AdvancePc, AdvanceLine, SetFile, SetColumn, NegateStmt, SetBasicBlock, ConstAddPc, FixedAdvancePc, SetPrologueEnd, SetEpilogueBegin, SetIsa, EndSequence, SetAddress, SetDiscriminator, Special}
use Rattle.fixed_width.specs.Numbers.{number_at}
use Rattle.line_machine.specs.Opcodes.{WithUleb, WithSleb, WithFixed, SpellsOperation, SpellsExtended, SpellsOpcode, IsBase}

-- two numbers are one
abbrev pub Same : ℕ → ℕ → Type 0
Same m n = m ≡ n

abbrev pub first : List ℕ → ℕ
first [] = 0
first (byte ∷ bytes) = byte

abbrev pub others : List ℕ → List ℕ
others [] = []
others (byte ∷ bytes) = bytes

pub tails : (code : ℕ) (x y a b u v : List ℕ) → x ≡ code ∷ a → y ≡ code ∷ b → x ++ u ≡ y ++ v → a ++ u ≡ b ++ v
tails code x y a b u v p q e = ap (λ (l : List ℕ). others (l ++ u)) (sym p) ∙ ap others e ∙ ap (λ (l : List ℕ). others (l ++ v)) q

pub one_uleb : (code v w : ℕ) (x y u t : List ℕ) → WithUleb code v x → WithUleb code w y → x ++ u ≡ y ++ t → (x ≡ y) × (v ≡ w)
one_uleb code v w x y u t (a, s, e) (b, r, f) h =
    let one = unique_u v w a b u t s r (tails code x y a b u t e f h) in
    (e ∙ ap (λ z. code ∷ z) one.0 ∙ sym f, one.1)

pub one_sleb : (code : ℕ) (v w : ℤ) (x y u t : List ℕ) → WithSleb code v x → WithSleb code w y → x ++ u ≡ y ++ t → (x ≡ y) × (v ≡ w)
one_sleb code v w x y u t (a, s, e) (b, r, f) h =
    let one = unique_s v w a b u t s r (tails code x y a b u t e f h) in
    (e ∙ ap (λ z. code ∷ z) one.0 ∙ sym f, one.1)

pub one_fixed : (code n v w : ℕ) (x y u t : List ℕ) → WithFixed code n v x → WithFixed code n w y → x ++ u ≡ y ++ t → (x ≡ y) × (v ≡ w)
one_fixed code n v w x y u t p q h =
    let g = tails code x y p.operand q.operand u t p.whole q.whole h in
    let same : p.operand ≡ q.operand = same_front p.operand q.operand u t (p.size ∙ sym q.size) g in
    (p.whole ∙ ap (λ z. code ∷ z) same ∙ sym q.whole, p.number ∙ ap (number_at n 0) same ∙ sym q.number)

-- the bytes of an extended opcode are those of one
one_operation : (a b : Opcode) (x y : List ℕ) → SpellsOperation a x → SpellsOperation b y → x ≡ y → a ≡ b
one_operation EndSequence EndSequence x y p q e = refl
one_operation (SetAddress v) (SetAddress w) x y p q e = ap SetAddress (one_fixed 2 8 v w x y [] [] p q (ap (λ (z : List ℕ). z ++ []) e)).1
one_operation (SetDiscriminator v) (SetDiscriminator w) x y p q e = ap SetDiscriminator (one_uleb 4 v w x y [] [] p q (ap (λ (z : List ℕ). z ++ []) e)).1
one_operation EndSequence (SetAddress w) x y p q e = let h : Same 1 2 = ap first (sym p ∙ e ∙ q.whole) in absurd (omega arith)
one_operation EndSequence (SetDiscriminator w) x y p q e = let h : Same 1 4 = ap first (sym p ∙ e ∙ q.2) in absurd (omega arith)
one_operation (SetAddress v) EndSequence x y p q e = let h : Same 2 1 = ap first (sym p.whole ∙ e ∙ q) in absurd (omega arith)
one_operation (SetAddress v) (SetDiscriminator w) x y p q e = let h : Same 2 4 = ap first (sym p.whole ∙ e ∙ q.2) in absurd (omega arith)
one_operation (SetDiscriminator v) EndSequence x y p q e = let h : Same 4 1 = ap first (sym p.2 ∙ e ∙ q) in absurd (omega arith)
one_operation (SetDiscriminator v) (SetAddress w) x y p q e = let h : Same 4 2 = ap first (sym p.2 ∙ e ∙ q.whole) in absurd (omega arith)
one_operation (SetDiscriminator v) _ x y p q e = absurd q
one_operation (SetAddress v) _ x y p q e = absurd q
one_operation EndSequence _ x y p q e = absurd q
one_operation _ _ x y p q e = absurd p

pub one_extended : (a b : Opcode) (x y u t : List ℕ) → SpellsExtended a x → SpellsExtended b y → x ++ u ≡ y ++ t → (x ≡ y) × (a ≡ b)
one_extended a b x y u t p q h =
    let g : (p.size ++ p.body) ++ u ≡ (q.size ++ q.body) ++ t = tails 0 x y (p.size ++ p.body) (q.size ++ q.body) u t p.whole q.whole h in
    let g2 : p.size ++ (p.body ++ u) ≡ q.size ++ (q.body ++ t) = sym (append_assoc p.size p.body u) ∙ g ∙ append_assoc q.size q.body t in
    let one = unique_u (length p.body) (length q.body) p.size q.size (p.body ++ u) (q.body ++ t) p.counted q.counted g2 in
    let g3 : p.body ++ u ≡ q.body ++ t = append_cancel_left q.size (p.body ++ u) (q.body ++ t) (ap (λ z. z ++ (p.body ++ u)) (sym one.0) ∙ g2) in
    let same : p.body ≡ q.body = same_front p.body q.body u t one.1 g3 in
    (p.whole ∙ ap (λ z. 0 ∷ (z ++ p.body)) one.0 ∙ ap (λ z. 0 ∷ (q.size ++ z)) same ∙ sym q.whole, one_operation a b p.body q.body p.operation q.operation same)

-- the first byte
abbrev lead : ℕ → Opcode → ℕ
lead base Copy = 1
lead base (AdvancePc v) = 2
lead base (AdvanceLine v) = 3
lead base (SetFile v) = 4
lead base (SetColumn v) = 5
lead base NegateStmt = 6
lead base SetBasicBlock = 7
lead base ConstAddPc = 8
lead base (FixedAdvancePc v) = 9
lead base SetPrologueEnd = 10
lead base SetEpilogueBegin = 11
lead base (SetIsa v) = 12
lead base (Special s) = base + s
lead base _ = 0

lead_of : (base : ℕ) (op : Opcode) (bytes more : List ℕ) → SpellsOpcode base op bytes → first (bytes ++ more) ≡ lead base op
lead_of base Copy bytes more h = ap (λ (l : List ℕ). first (l ++ more)) h
lead_of base NegateStmt bytes more h = ap (λ (l : List ℕ). first (l ++ more)) h
lead_of base SetBasicBlock bytes more h = ap (λ (l : List ℕ). first (l ++ more)) h
lead_of base ConstAddPc bytes more h = ap (λ (l : List ℕ). first (l ++ more)) h
lead_of base SetPrologueEnd bytes more h = ap (λ (l : List ℕ). first (l ++ more)) h.1
lead_of base SetEpilogueBegin bytes more h = ap (λ (l : List ℕ). first (l ++ more)) h.1
lead_of base (AdvancePc v) bytes more h = ap (λ (l : List ℕ). first (l ++ more)) h.2
lead_of base (AdvanceLine v) bytes more h = ap (λ (l : List ℕ). first (l ++ more)) h.2
lead_of base (SetFile v) bytes more h = ap (λ (l : List ℕ). first (l ++ more)) h.2
lead_of base (SetColumn v) bytes more h = ap (λ (l : List ℕ). first (l ++ more)) h.2
lead_of base (SetIsa v) bytes more h = ap (λ (l : List ℕ). first (l ++ more)) h.1.2
lead_of base (FixedAdvancePc v) bytes more h = ap (λ (l : List ℕ). first (l ++ more)) h.whole
lead_of base (Special s) bytes more h = ap (λ (l : List ℕ). first (l ++ more)) h.1
lead_of base EndSequence bytes more h = ap (λ (l : List ℕ). first (l ++ more)) h.whole
lead_of base (SetAddress v) bytes more h = ap (λ (l : List ℕ). first (l ++ more)) h.whole
lead_of base (SetDiscriminator v) bytes more h = ap (λ (l : List ℕ). first (l ++ more)) h.whole

-- an opcode is standard below the base alone
abbrev Below : ℕ → Opcode → Type 0
Below base SetPrologueEnd = 10 < base
Below base SetEpilogueBegin = 11 < base
Below base (SetIsa v) = 12 < base
Below base _ = ⊤

below_of : (base : ℕ) (op : Opcode) (bytes : List ℕ) → SpellsOpcode base op bytes → Below base op
below_of base SetPrologueEnd bytes h = h.0
below_of base SetEpilogueBegin bytes h = h.0
below_of base (SetIsa v) bytes h = h.0
below_of base _ bytes h = tt

-- opcodes of one first byte are of one kind
abbrev IsKin : Opcode → Opcode → Type 0
IsKin Copy Copy = ⊤
IsKin (AdvancePc v) (AdvancePc w) = ⊤
IsKin (AdvanceLine v) (AdvanceLine w) = ⊤
IsKin (SetFile v) (SetFile w) = ⊤
IsKin (SetColumn v) (SetColumn w) = ⊤
IsKin NegateStmt NegateStmt = ⊤
IsKin SetBasicBlock SetBasicBlock = ⊤
IsKin ConstAddPc ConstAddPc = ⊤
IsKin (FixedAdvancePc v) (FixedAdvancePc w) = ⊤
IsKin SetPrologueEnd SetPrologueEnd = ⊤
IsKin SetEpilogueBegin SetEpilogueBegin = ⊤
IsKin (SetIsa v) (SetIsa w) = ⊤
IsKin (Special v) (Special w) = v ≡ w
IsKin EndSequence EndSequence = ⊤
IsKin EndSequence (SetAddress w) = ⊤
IsKin EndSequence (SetDiscriminator w) = ⊤
IsKin (SetAddress v) EndSequence = ⊤
IsKin (SetAddress v) (SetAddress w) = ⊤
IsKin (SetAddress v) (SetDiscriminator w) = ⊤
IsKin (SetDiscriminator v) EndSequence = ⊤
IsKin (SetDiscriminator v) (SetAddress w) = ⊤
IsKin (SetDiscriminator v) (SetDiscriminator w) = ⊤
IsKin _ _ = ⊥

kin_of : (base : ℕ) (a b : Opcode) → 9 < base → Below base a → Below base b → lead base a ≡ lead base b → IsKin a b
kin_of base Copy Copy n p q e = tt
kin_of base (AdvancePc v) (AdvancePc w) n p q e = tt
kin_of base (AdvanceLine v) (AdvanceLine w) n p q e = tt
kin_of base (SetFile v) (SetFile w) n p q e = tt
kin_of base (SetColumn v) (SetColumn w) n p q e = tt
kin_of base NegateStmt NegateStmt n p q e = tt
kin_of base SetBasicBlock SetBasicBlock n p q e = tt
kin_of base ConstAddPc ConstAddPc n p q e = tt
kin_of base (FixedAdvancePc v) (FixedAdvancePc w) n p q e = tt
kin_of base SetPrologueEnd SetPrologueEnd n p q e = tt
kin_of base SetEpilogueBegin SetEpilogueBegin n p q e = tt
kin_of base (SetIsa v) (SetIsa w) n p q e = tt
kin_of base (Special v) (Special w) n p q e = omega arith
kin_of base EndSequence EndSequence n p q e = tt
kin_of base EndSequence (SetAddress w) n p q e = tt
kin_of base EndSequence (SetDiscriminator w) n p q e = tt
kin_of base (SetAddress v) EndSequence n p q e = tt
kin_of base (SetAddress v) (SetAddress w) n p q e = tt
kin_of base (SetAddress v) (SetDiscriminator w) n p q e = tt
kin_of base (SetDiscriminator v) EndSequence n p q e = tt
kin_of base (SetDiscriminator v) (SetAddress w) n p q e = tt
kin_of base (SetDiscriminator v) (SetDiscriminator w) n p q e = tt
kin_of base _ _ n p q e = absurd (omega arith)

one_kind : (base : ℕ) (a b : Opcode) (x y u t : List ℕ) → SpellsOpcode base a x → SpellsOpcode base b y → x ++ u ≡ y ++ t → IsKin a b → (x ≡ y) × (a ≡ b)
one_kind base Copy Copy x y u t p q e kin = (p ∙ sym q, refl)
one_kind base NegateStmt NegateStmt x y u t p q e kin = (p ∙ sym q, refl)
one_kind base SetBasicBlock SetBasicBlock x y u t p q e kin = (p ∙ sym q, refl)
one_kind base ConstAddPc ConstAddPc x y u t p q e kin = (p ∙ sym q, refl)
one_kind base SetPrologueEnd SetPrologueEnd x y u t p q e kin = (p.1 ∙ sym q.1, refl)
one_kind base SetEpilogueBegin SetEpilogueBegin x y u t p q e kin = (p.1 ∙ sym q.1, refl)
one_kind base (AdvancePc v) (AdvancePc w) x y u t p q e kin = let h = one_uleb 2 v w x y u t p q e in (h.0, ap AdvancePc h.1)
one_kind base (SetFile v) (SetFile w) x y u t p q e kin = let h = one_uleb 4 v w x y u t p q e in (h.0, ap SetFile h.1)
one_kind base (SetColumn v) (SetColumn w) x y u t p q e kin = let h = one_uleb 5 v w x y u t p q e in (h.0, ap SetColumn h.1)
one_kind base (SetIsa v) (SetIsa w) x y u t p q e kin = let h = one_uleb 12 v w x y u t p.1 q.1 e in (h.0, ap SetIsa h.1)
one_kind base (AdvanceLine v) (AdvanceLine w) x y u t p q e kin = let h = one_sleb 3 v w x y u t p q e in (h.0, ap AdvanceLine h.1)
one_kind base (FixedAdvancePc v) (FixedAdvancePc w) x y u t p q e kin = let h = one_fixed 9 2 v w x y u t p q e in (h.0, ap FixedAdvancePc h.1)
one_kind base (Special v) (Special w) x y u t p q e kin = (p.1 ∙ ap (λ k. (base + k) ∷ []) kin ∙ sym q.1, ap Special kin)
one_kind base EndSequence EndSequence x y u t p q e kin = one_extended EndSequence EndSequence x y u t p q e
one_kind base EndSequence (SetAddress w) x y u t p q e kin = one_extended EndSequence (SetAddress w) x y u t p q e
one_kind base EndSequence (SetDiscriminator w) x y u t p q e kin = one_extended EndSequence (SetDiscriminator w) x y u t p q e
one_kind base (SetAddress v) EndSequence x y u t p q e kin = one_extended (SetAddress v) EndSequence x y u t p q e
one_kind base (SetAddress v) (SetAddress w) x y u t p q e kin = one_extended (SetAddress v) (SetAddress w) x y u t p q e
one_kind base (SetAddress v) (SetDiscriminator w) x y u t p q e kin = one_extended (SetAddress v) (SetDiscriminator w) x y u t p q e
one_kind base (SetDiscriminator v) EndSequence x y u t p q e kin = one_extended (SetDiscriminator v) EndSequence x y u t p q e
one_kind base (SetDiscriminator v) (SetAddress w) x y u t p q e kin = one_extended (SetDiscriminator v) (SetAddress w) x y u t p q e
one_kind base (SetDiscriminator v) (SetDiscriminator w) x y u t p q e kin = one_extended (SetDiscriminator v) (SetDiscriminator w) x y u t p q e
one_kind base _ _ x y u t p q e kin = absurd kin

pub opcodes_unique : (base : ℕ) → IsBase base → HasUniqueFronts (SpellsOpcode base)
opcodes_unique base is v w a b x y p q e =
    let leads : lead base v ≡ lead base w = sym (lead_of base v a x p) ∙ ap first e ∙ lead_of base w b y q in
    one_kind base v w a b x y p q e (kin_of base v w is.0 (below_of base v a p) (below_of base w b q) leads)

pub opcodes_filled : (base : ℕ) → HasBytes (SpellsOpcode base)
opcodes_filled base Copy a h = let n = ap length h in omega (arith, n)
opcodes_filled base NegateStmt a h = let n = ap length h in omega (arith, n)
opcodes_filled base SetBasicBlock a h = let n = ap length h in omega (arith, n)
opcodes_filled base ConstAddPc a h = let n = ap length h in omega (arith, n)
opcodes_filled base SetPrologueEnd a h = let n = ap length h.1 in omega (arith, n)
opcodes_filled base SetEpilogueBegin a h = let n = ap length h.1 in omega (arith, n)
opcodes_filled base (AdvancePc v) a h = let n = ap length h.2 in omega (arith, n)
opcodes_filled base (AdvanceLine v) a h = let n = ap length h.2 in omega (arith, n)
opcodes_filled base (SetFile v) a h = let n = ap length h.2 in omega (arith, n)
opcodes_filled base (SetColumn v) a h = let n = ap length h.2 in omega (arith, n)
opcodes_filled base (SetIsa v) a h = let n = ap length h.1.2 in omega (arith, n)
opcodes_filled base (FixedAdvancePc v) a h = let n = ap length h.whole in omega (arith, n)
opcodes_filled base (Special s) a h = let n = ap length h.1 in omega (arith, n)
opcodes_filled base EndSequence a h = let n = ap length h.whole in omega (arith, n)
opcodes_filled base (SetAddress v) a h = let n = ap length h.whole in omega (arith, n)
opcodes_filled base (SetDiscriminator v) a h = let n = ap length h.whole in omega (arith, n)
