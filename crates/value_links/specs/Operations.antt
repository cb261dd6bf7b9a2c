-- What the operations of expressions refer to (DWARF 5 sections 2.5.1.1, 2.5.1.3, 2.5.1.5 and 2.6.1.1).
use Rattle.std.specs.Prelude.{◌≡◌, ◌<◌, ◌+◌, ◌⊎◌, ℕ, List, length, true, false, if◌then◌else◌}
use Rattle.std.specs.List.{AllZip}
use Rattle.dw_base.specs.declared.fault.Reach.{Reach}
use Rattle.dw_base.specs.declared.fault.Reach.TheVariants.{Wide}
use Rattle.expr_ops.specs.declared.names.Named.{Named}
use Rattle.expr_ops.specs.declared.names.Named.TheVariants.{Nothing, BaseType, UnitEntry, SectionEntry}
use Rattle.expr_ops.specs.Expressions.{Operation, IsExpression}
use Rattle.expr_ops.specs.Drafts.{has_reference, is_generic, with_a}
use Rattle.expr_ops.specs.Names.{named_by}
use Rattle.entry_arena.specs.Arena.{IsEntryAt}
use Rattle.value_links.specs.Reading.{Linkable, unit_at}

-- what an operation names: nothing, the generic type, or an entry of a unit, both by their numbers
pub data OpTarget : Type 0 where
  NoTarget : OpTarget
  GenericType : OpTarget
  AnEntry : ℕ → ℕ → OpTarget

-- an operation, with 0 for its reference, and what it names
pub record LinkedOperation : Type 0 where
  pub operation : Operation
  pub target : OpTarget

abbrev pub without_reference : Operation → Operation
without_reference o = if has_reference o.code then with_a 0 o else o

-- an entry of the unit stands at a place that counts from the first byte of the unit
abbrev pub NamesUnitEntry : Linkable → ℕ → ℕ → OpTarget → Type 0
NamesUnitEntry r u n target = (id : ℕ) × IsEntryAt (unit_at r u).forest id ((unit_at r u).head.at + n) × (target ≡ AnEntry u id)

-- an entry of any unit stands at a place of .debug_info
abbrev pub NamesSectionEntry : Linkable → ℕ → OpTarget → Type 0
NamesSectionEntry r n target = (unit : ℕ) × (id : ℕ) × (unit < length r.units) × IsEntryAt (unit_at r unit).forest id n × (target ≡ AnEntry unit id)

-- the generic type is the 0 of convert and reinterpret
abbrev pub NamesType : Linkable → ℕ → ℕ → ℕ → OpTarget → Type 0
NamesType r u code n target = ((is_generic code n ≡ true) × (target ≡ GenericType)) ⊎ ((is_generic code n ≡ false) × NamesUnitEntry r u n target)

-- what an opcode with a reference names, in an expression of the unit `u`
abbrev pub LinksReference : Linkable → ℕ → Named → ℕ → ℕ → OpTarget → Type 0
LinksReference r u Nothing code n target = target ≡ NoTarget
LinksReference r u BaseType code n target = NamesType r u code n target
LinksReference r u UnitEntry code n target = NamesUnitEntry r u n target
LinksReference r u SectionEntry code n target = NamesSectionEntry r n target

abbrev pub Names : Linkable → ℕ → ℕ → ℕ → OpTarget → Type 0
Names r u code n target = LinksReference r u (named_by code) code n target

pub record LinksOperation (r : Linkable) (u : ℕ) (o : Operation) (linked : LinkedOperation) : Type 0 where
  pub operation : linked.operation ≡ without_reference o
  pub target : Names r u o.code o.a linked.target

-- the bytes are an expression within the limits of a reach
abbrev pub IsSomeExpression : Reach → List ℕ → Type 0
IsSomeExpression reach bytes = (operations : List Operation) × IsExpression reach operations bytes

-- the bytes of an expression of the unit `u` are these operations
abbrev pub LinksExpression : Linkable → ℕ → List ℕ → List LinkedOperation → Type 0
LinksExpression r u bytes linked = (operations : List Operation) × IsExpression Wide operations bytes × AllZip (LinksOperation r u) operations linked
