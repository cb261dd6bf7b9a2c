-- Operations as they are written: with new references and the sizes of slots.
use Rattle.std.specs.Prelude.{◌≡◌, ◌≢◌, ◌≤◌, ◌<◌, ◌+◌, ◌⊎◌, ◌^◌, pos, ◌+ℤ◌, slice_index_or, length, ℕ, List, [], ◌∷◌, map, nat_eq, nat_le, if◌then◌else◌, Bool, true, false, Option, Some, None}
use Rattle.expr_ops.specs.declared.table.Operands.{Operands}
use Rattle.expr_ops.specs.declared.op.Op.{Op}
use Rattle.expr_ops.specs.declared.write.Draft.{Draft}
use Rattle.expr_ops.specs.Table.{operands_of}
use Rattle.expr_ops.specs.Expressions.{Operation, IsBranch}
use Rattle.expr_ops.specs.Sizes.{own_size}
use Rattle.spelled.specs.Spelled.{Joined}
use Rattle.expr_ops.specs.Ops.{meant, all_meant}
use Rattle.expr_ops.specs.Puts.{PutsOwn, Holds}

-- the opcodes of references to base types
abbrev pub is_typed : ℕ → Bool
is_typed code = if nat_le 164 code then nat_le code 169 else false

-- the opcodes whose `a` is a reference
abbrev pub has_reference : ℕ → Bool
has_reference code = if is_typed code then true else (if nat_eq code 153 then true else (if nat_eq code 250 then true else (if nat_eq code 154 then true else (if nat_eq code 253 then true else nat_eq code 160))))

-- convert and reinterpret (DWARF 5 section 2.5.1.6)
abbrev pub is_conversion : ℕ → Bool
is_conversion code = if nat_eq code 168 then true else nat_eq code 169

-- the generic type, which is the 0 of convert and reinterpret
abbrev pub is_generic : ℕ → ℕ → Bool
is_generic code a = if is_conversion code then nat_eq a 0 else false

-- the length of an entry_value, a call, or a typed reference but for the generic type
abbrev pub is_slot : ℕ → ℕ → Bool
is_slot code a = if nat_eq code 163 then true else (if nat_eq code 153 then true else (if is_typed code then (if is_generic code a then false else true) else false))

abbrev pub first_or : ℕ → List ℕ → ℕ
first_or other [] = other
first_or other (n ∷ ns) = n

abbrev pub rest_of : List ℕ → List ℕ
rest_of [] = []
rest_of (n ∷ ns) = ns

abbrev pub with_a : ℕ → Operation → Operation
with_a n o = record { code = o.code; a = n; s = o.s; block = o.block; jump = o.jump; inner = o.inner }

-- a new reference in place of the old; the generic type stays
abbrev pub with_ref : ℕ → Operation → Operation
with_ref n o = if is_generic o.code o.a then o else with_a n o

-- new references in place of the old, in the order of the operations
abbrev pub with_refs : List ℕ → List Operation → List Operation
with_refs refs [] = []
with_refs refs (o ∷ os) = if has_reference o.code then with_ref (first_or 0 refs) o ∷ with_refs (rest_of refs) os else (o ∷ with_refs refs os)

-- the size of each operation's slot, if it has one
abbrev pub slots_of : List ℕ → List Operation → List (Option ℕ)
slots_of sizes [] = []
slots_of sizes (o ∷ os) = if is_slot o.code o.a then Some (first_or 1 sizes) ∷ slots_of (rest_of sizes) os else (None ∷ slots_of sizes os)

abbrev pub PutsDraft : List ℕ → Draft → List ℕ → Type 0
PutsDraft outer draft own = PutsOwn draft.slot (meant outer draft.op) own

-- the opcode is known, and the slot holds its number
abbrev pub IsPuttable : Draft → Type 0
IsPuttable draft = ((operands : Operands) × (operands_of draft.op.code ≡ Some operands)) × Holds draft.slot draft.op.code draft.op.a

abbrev pub all_ops : List ℕ → List Draft → List Operation
all_ops outer drafts = map (λ (d : Draft). meant outer d.op) drafts

abbrev pub all_slots : List Draft → List (Option ℕ)
all_slots drafts = map (λ (d : Draft). d.slot) drafts

-- the bytes of each operation by itself
abbrev pub sizes_in : List ℕ → List Draft → List ℕ
sizes_in outer drafts = map (λ (d : Draft). own_size d.slot (meant outer d.op)) drafts

abbrev pub total : List ℕ → ℕ
total [] = 0
total (n ∷ ns) = n + total ns

-- where each begins, from a place on, and the place after all
abbrev pub starts_from : ℕ → List ℕ → List ℕ
starts_from place [] = place ∷ []
starts_from place (size ∷ sizes) = place ∷ starts_from (place + size) sizes

-- an operation's length or distance follows from places; all else stays. `first` is the number of the first operation of the
-- expression that it stands in.
pub record IsAimed (places : List ℕ) (first k : ℕ) (old new : Draft) : Type 0 where
  pub slot : new.slot ≡ old.slot
  pub code : new.op.code ≡ old.op.code
  pub bytes : new.op.bytes ≡ old.op.bytes
  pub jump : new.op.jump ≡ old.op.jump
  pub inner : new.op.inner ≡ old.op.inner
  pub long : new.op.code ≡ 163 → new.op.a + slice_index_or places (k + 1) 0 ≡ slice_index_or places (k + 1 + new.op.inner) 0
  pub number : new.op.code ≢ 163 → new.op.a ≡ old.op.a
  pub distance : IsBranch new.op.code → pos (slice_index_or places (first + new.op.jump) 0) ≡ pos (slice_index_or places (k + 1) 0) +ℤ new.op.s
  pub sign : (¬ IsBranch new.op.code) → new.op.s ≡ old.op.s

-- the first n drafts, aimed
pub record AreAimed (places firsts : List ℕ) (drafts aims : List Draft) (n : ℕ) : Type 0 where
  pub count : length aims ≡ n
  pub each : (k : ℕ) (d : Draft) → k < n → IsAimed places (slice_index_or firsts k 0) k (slice_index_or drafts k d) (slice_index_or aims k d)

abbrev pub op_at : List Op → ℕ → Op
op_at ops k = slice_index_or ops k (record { at = 0; code = 0; a = 0; s = pos 0; jump = 0; bytes = record { at = 0; len = 0 }; inner = 0 })

-- the operation is an entry_value that holds operation k
abbrev pub HoldsOp : List Op → ℕ → ℕ → Type 0
HoldsOp ops e k = (e < k) × (k ≤ e + (op_at ops e).inner) × ((op_at ops e).code ≡ 163)

-- Of the first n operations, the last that holds operation k is the one before f, or f is 0 where none holds it.
pub record IsFirstAmong (ops : List Op) (n k f : ℕ) : Type 0 where
  pub opens : (f ≡ 0) ⊎ ((e : ℕ) × (f ≡ e + 1) × HoldsOp ops e k)
  pub innermost : (e : ℕ) → f ≤ e → e < n → HoldsOp ops e k → ⊥

-- operation f is the first one of the expression in which operation k stands
abbrev pub IsFirst : List Op → ℕ → ℕ → Type 0
IsFirst ops k f = IsFirstAmong ops (length ops) k f

-- of each operation, counted among the first n
pub record AreFirsts (ops : List Op) (n : ℕ) (firsts : List ℕ) : Type 0 where
  pub count : length firsts ≡ length ops
  pub each : (k : ℕ) → k < length ops → IsFirstAmong ops n k (slice_index_or firsts k 0)

-- the operations with new references and the sizes of their slots
pub record AreDrafts (refs sizes bytes : List ℕ) (ops : List Op) (drafts : List Draft) : Type 0 where
  pub renamed : all_ops bytes drafts ≡ with_refs refs (all_meant bytes ops)
  pub slots : all_slots drafts ≡ slots_of sizes (all_meant bytes ops)

-- Operations that can be written: opcodes are known, held operations are there, and slots hold their numbers. `places` says where
-- each operation begins.
pub record CanBePut (bytes : List ℕ) (drafts : List Draft) : Type 0 where
  pub known : (k : ℕ) (d : Draft) → k < length drafts → (operands : Operands) × (operands_of (slice_index_or drafts k d).op.code ≡ Some operands)
  pub inside : (k : ℕ) (d : Draft) → k < length drafts → k + (slice_index_or drafts k d).op.inner < length drafts
  pub small : total (sizes_in bytes drafts) < 2 ^ 63
  pub numbers : (k : ℕ) (d : Draft) → k < length drafts → (slice_index_or drafts k d).op.code ≢ 163 → Holds (slice_index_or drafts k d).slot (slice_index_or drafts k d).op.code (slice_index_or drafts k d).op.a
  pub lengths : (k : ℕ) (d : Draft) (n : ℕ) → k < length drafts → (slice_index_or drafts k d).op.code ≡ 163 → n + slice_index_or (starts_from 0 (sizes_in bytes drafts)) (k + 1) 0 ≡ slice_index_or (starts_from 0 (sizes_in bytes drafts)) (k + 1 + (slice_index_or drafts k d).op.inner) 0 → Holds (slice_index_or drafts k d).slot 163 n

-- The bytes are those of the operations with new references, one after the other: a slot has its size, and all other numbers are in
-- their shortest form; the length of an entry_value counts the bytes of the operations that it holds; a branch goes to the place of
-- its operation, counted from the first one of the expression that it stands in.
pub record IsPut (refs sizes bytes : List ℕ) (ops : List Op) (made : List ℕ) : Type 0 where
  pub drafts : List Draft
  pub firsts : List ℕ
  pub aims : List Draft
  pub drafted : AreDrafts refs sizes bytes ops drafts
  pub nested : AreFirsts ops (length ops) firsts
  pub aimed : AreAimed (starts_from 0 (sizes_in bytes drafts)) firsts drafts aims (length drafts)
  pub spelled : Joined (PutsDraft bytes) aims made
