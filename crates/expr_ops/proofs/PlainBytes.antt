-- The bytes of an expression whose references have as many bytes as references below 2^32 may need: five to a base type, and four in a
-- call. The length of the expression that an entry_value holds is shortest.
use Rattle.std.specs.Prelude.{ℕ, List, [], ◌∷◌, take, nat_eq, if◌then◌else◌, Option, Some, None}
use Rattle.leb_codec.specs.Leb.{least_unsigned_len}
use Rattle.expr_ops.specs.Expressions.{Operation}
use Rattle.expr_ops.specs.Drafts.{is_slot, total}
use Rattle.expr_ops.specs.Sizes.{own_size}

-- the bytes of an operation's slot, where the operations that it holds have so many
abbrev pub plain_size : Operation → ℕ → ℕ
plain_size o held = if nat_eq o.code 163 then least_unsigned_len held else (if nat_eq o.code 153 then 4 else 5)

abbrev pub plain_slot : Operation → ℕ → Option ℕ
plain_slot o held = if is_slot o.code o.a then Some (plain_size o held) else None

-- the bytes of each operation, without those of the operations that it holds
abbrev pub plain_own : List Operation → List ℕ
plain_own [] = []
plain_own (o ∷ os) = own_size (plain_slot o (total (take o.inner (plain_own os)))) o ∷ plain_own os

-- the bytes of all
abbrev pub plain_length : List Operation → ℕ
plain_length os = total (plain_own os)
