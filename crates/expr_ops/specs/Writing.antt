-- Expressions that are written with new references and sizes of slots.
use Rattle.std.specs.Prelude.{◌≡◌, ◌≤◌, ◌<◌, ◌+◌, ◌^◌, ◌⊎◌, ℕ, List, length, take, drop, slice_index_or, nat_eq, if◌then◌else◌, Option, true}
use Rattle.dw_base.specs.declared.fault.Reach.TheVariants.{Wide}
use Rattle.expr_ops.specs.declared.op.Op.{Op}
use Rattle.expr_ops.specs.Expressions.{Operation, IsBranch, IsLevel, SpellsSegment, IsExpression}
use Rattle.expr_ops.specs.Ops.{all_meant}
use Rattle.expr_ops.specs.Puts.{call_size}
use Rattle.expr_ops.specs.Drafts.{is_typed, has_reference, with_refs, sizes_in, total, starts_from, op_at, IsFirst, AreDrafts, CanBePut, IsPut}
use Rattle.expr_ops.specs.declared.write.Draft.{Draft}

-- the numbers that a reference of an opcode can hold, where a call has a slot
abbrev pub reference_limit : ℕ → Option ℕ → ℕ
reference_limit code slot = if is_typed code then 2 ^ 64 else (if nat_eq code 153 then 256 ^ call_size slot else 2 ^ 32)

-- so many operations from one on are all, or those that an entry_value holds: the operations of one expression
abbrev pub IsRange : List Op → ℕ → ℕ → Type 0
IsRange ops first count =
    ((first ≡ 0) × (count ≡ length ops))
    ⊎ ((e : ℕ) × (e < length ops) × ((op_at ops e).code ≡ 163) × (first ≡ e + 1) × (count ≡ (op_at ops e).inner))

-- operation k is one of them and a branch, and isn't one of an entry_value among them
abbrev pub IsOwnBranch : List Op → ℕ → ℕ → ℕ → Type 0
IsOwnBranch ops first count k = (first ≤ k) × (k < first + count) × IsBranch (op_at ops k).code × IsFirst ops k first

abbrev pub HasOwnBranch : List Op → ℕ → ℕ → Type 0
HasOwnBranch ops first count = (k : ℕ) × IsOwnBranch ops first count k

-- each expression with a branch of its own gets at most so many bytes
abbrev pub GetsAtMost : ℕ → List ℕ → List Draft → List Op → Type 0
GetsAtMost most bytes drafts ops = (first count : ℕ) → IsRange ops first count → HasOwnBranch ops first count → total (take count (drop first (sizes_in bytes drafts))) ≤ most

-- a number of 16 bits with a sign leads from one place to another
abbrev pub IsNear : ℕ → ℕ → Type 0
IsNear from to = (to ≤ from + 32767) × (from ≤ to + 32768)

-- each branch leads from behind it to its operation, or to the end of its expression, by a distance that fits 16 bits
abbrev pub DistancesFit : List ℕ → List Draft → List Op → Type 0
DistancesFit bytes drafts ops =
    (first count k : ℕ) → IsRange ops first count → IsOwnBranch ops first count k → (op_at ops k).jump ≤ count
    → IsNear (slice_index_or (starts_from 0 (sizes_in bytes drafts)) (k + 1) 0) (slice_index_or (starts_from 0 (sizes_in bytes drafts)) (first + (op_at ops k).jump) 0)

-- The bytes spell these operations. Of an expression with a branch of its own there are at most `most`, and at most `deep` entry_values
-- stand inside one another.
abbrev pub SpellsWithin : ℕ → ℕ → List Operation → List ℕ → Type 0
SpellsWithin most deep operations bytes = IsLevel most (SpellsSegment most deep) operations bytes

-- the bytes spell these operations, within whatever limits
abbrev pub SpellsOperations : List Operation → List ℕ → Type 0
SpellsOperations operations bytes = (most : ℕ) × (deep : ℕ) × SpellsWithin most deep operations bytes

-- What is needed to write operations: `bytes` spell them, each slot holds its number or length, each new reference fits its operand, and
-- each distance of a branch its 16 bits.
pub record CanBeWritten (refs sizes bytes : List ℕ) (ops : List Op) : Type 0 where
  pub old : SpellsOperations (all_meant bytes ops) bytes
  pub put : (drafts : List Draft) → AreDrafts refs sizes bytes ops drafts → CanBePut bytes drafts
  pub fits : (drafts : List Draft) → AreDrafts refs sizes bytes ops drafts → (k : ℕ) (d : Draft) → k < length drafts → has_reference (slice_index_or drafts k d).op.code ≡ true → (slice_index_or drafts k d).op.a < reference_limit (slice_index_or drafts k d).op.code (slice_index_or drafts k d).slot
  pub distances : (drafts : List Draft) → AreDrafts refs sizes bytes ops drafts → DistancesFit bytes drafts ops

-- The bytes are those of the operations, with the new references and the sizes of slots, and spell the same operations with these
-- references. They do so within limits where the old bytes have no deeper entry_values and no expression gets more bytes.
pub record IsSpelledAnew (refs sizes bytes : List ℕ) (ops : List Op) (made : List ℕ) : Type 0 where
  pub put : IsPut refs sizes bytes ops made
  pub spelled : SpellsOperations (with_refs refs (all_meant bytes ops)) made
  pub within : (was most deep : ℕ) → SpellsWithin was deep (all_meant bytes ops) bytes → ((drafts : List Draft) → AreDrafts refs sizes bytes ops drafts → GetsAtMost most bytes drafts ops) → SpellsWithin most deep (with_refs refs (all_meant bytes ops)) made

-- the bytes are those of the operations, with the new references and the sizes of slots, and are an expression of the same
-- operations with these references
pub record IsWrittenExpression (refs sizes bytes : List ℕ) (ops : List Op) (made : List ℕ) : Type 0 where
  pub put : IsPut refs sizes bytes ops made
  pub expression : IsExpression Wide (with_refs refs (all_meant bytes ops)) made
