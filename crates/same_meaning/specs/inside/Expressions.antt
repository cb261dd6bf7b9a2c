-- What expressions are compared by.
use Rattle.std.specs.Prelude.{◌≡◌, ◌≤◌, ◌<◌, ◌+◌, ℕ, List, length, Option, Some, None, if◌then◌else◌}
use Rattle.dw_base.specs.declared.fault.Reach.TheVariants.{Wide}
use Rattle.expr_ops.specs.declared.op.Op.{Op}
use Rattle.expr_ops.specs.Drafts.{has_reference}
use Rattle.expr_ops.specs.Expressions.{IsExpression}
use Rattle.expr_ops.specs.Ops.{meant, all_meant, Chain}
use Rattle.form_codec.specs.Values.{bytes_in}
use Rattle.value_links.specs.declared.operations.OpLink.{OpLink}
use Rattle.value_links.specs.Reading.{Linkable, Reading}
use Rattle.value_links.specs.Whole.{IsReading}
use Rattle.value_links.specs.World.{World, Holds}
use Rattle.value_links.specs.Links.{IsOpLinkOf}
use Rattle.value_links.specs.Operations.{OpTarget, Names, LinksOperation}
use Rattle.same_meaning.specs.inside.Compared.{MeanOne}

-- this holds of what is read of a file
abbrev pub OfOne : World → (Reading → Type 0) → Type 0
OfOne world P = (r : Reading) → IsReading world.image r → Holds world.image world r → P r

-- the unit in which an expression stands, if it stands in one, is held
abbrev pub IsHeldOwner : World → Option ℕ → Type 0
IsHeldOwner world owner = (u : ℕ) → owner ≡ Some u → u < length world.units

-- the bytes are an expression, and these are its operations, each at its place
pub record AreOperationsOf (bytes : List ℕ) (ops : List Op) : Type 0 where
  pub spelled : IsExpression Wide (all_meant bytes ops) bytes
  pub places : Chain bytes 0 ops (length bytes)

-- the bytes that an operation keeps stand in its expression
abbrev pub IsBlockIn : List ℕ → Op → Type 0
IsBlockIn bytes op = op.bytes.at + op.bytes.len ≤ length bytes

-- an operation in an expression of a unit names what it may
abbrev pub NamesSomething : Linkable → ℕ → Op → Type 0
NamesSomething r u op = (target : OpTarget) × Names r u op.code op.a target

-- what is found is the link that tells this
abbrev pub IsFoundOf : OpTarget → Option OpLink → Type 0
IsFoundOf thing (Some link) = IsOpLinkOf thing link
IsFoundOf thing None = ⊥

-- what is found tells what an operation names in an expression of a unit
abbrev pub TellsNamed : Linkable → ℕ → Op → Option OpLink → Type 0
TellsNamed r u op found = (target : OpTarget) → Names r u op.code op.a target → IsFoundOf target found

-- two operations, each of an expression with these bytes, are the same but for their first numbers
pub record KeepAlike (bytes : List ℕ) (a : Op) (others : List ℕ) (b : Op) : Type 0 where
  pub code : a.code ≡ b.code
  pub s : a.s ≡ b.s
  pub jump : a.jump ≡ b.jump
  pub inner : a.inner ≡ b.inner
  pub block : bytes_in bytes a.bytes ≡ bytes_in others b.bytes

-- the first number of an operation, or 0 where that is a reference
abbrev pub plain_number : Op → ℕ
plain_number op = if has_reference op.code then 0 else op.a

-- two operations, each in an expression of its unit, name one thing, and have the same first number where that is no reference
pub record ReferAlike (r : Linkable) (u : ℕ) (a : Op) (s : Linkable) (v : ℕ) (b : Op) : Type 0 where
  pub number : plain_number a ≡ plain_number b
  pub target : MeanOne (Names r u a.code a.a) (Names s v b.code b.a)

-- two operations, each of an expression with these bytes, mean the same
abbrev pub MeanSameOperation : Linkable → ℕ → List ℕ → Op → Linkable → ℕ → List ℕ → Op → Type 0
MeanSameOperation r u bytes a s v other b = MeanOne (LinksOperation r u (meant bytes a)) (LinksOperation s v (meant other b))
