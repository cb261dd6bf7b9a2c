-- The new numbers of a unit's references and section offsets: each is that of the new place of what the old one names. And the new bytes
-- of its expressions, with the new numbers of their references.
use Rattle.std.specs.Prelude.{◌≡◌, ◌≢◌, ◌<◌, ◌+◌, ◌^◌, ◌⊎◌, ℕ, List, length, slice_index, true, false}
use Rattle.std.specs.List.{All}
use Rattle.form_codec.specs.Forms.{Meaning}
use Rattle.form_codec.specs.Forms.Meaning.{Expression, InUnit, InSection, SectionPlace}
use Rattle.dw_base.specs.declared.fault.Reach.TheVariants.{Wide}
use Rattle.dw_base.specs.declared.fault.Span.{Span}
use Rattle.expr_ops.specs.declared.op.Op.{Op}
use Rattle.expr_ops.specs.declared.names.Named.{Named}
use Rattle.expr_ops.specs.declared.names.Named.TheVariants.{Nothing, BaseType, UnitEntry, SectionEntry}
use Rattle.expr_ops.specs.Expressions.{IsExpression}
use Rattle.expr_ops.specs.Ops.{all_meant}
use Rattle.expr_ops.specs.Drafts.{is_generic, op_at}
use Rattle.expr_ops.specs.Names.{named_by}
use Rattle.expr_ops.specs.Shortest.{IsWrittenShortest}
use Rattle.unit_write.specs.NewExpressions.{made_of, refs_among, AreEndsFor, AreWrittenShortest}
use Rattle.entry_arena.specs.Arena.{Arena, entry_at, chain_end_at}
use Rattle.entry_arena.specs.Operations.{for_value, ops_of}
use Rattle.entry_read.specs.Expressions.{IsExprAt}
use Rattle.entry_read.specs.Slots.{meaning_at}
use Rattle.entry_read.specs.Heads.{type_unit}
use Rattle.unit_write.specs.declared.places.Places.{Places}
use Rattle.unit_write.specs.declared.write.NewNumbers.{NewNumbers}
use Rattle.value_links.specs.Reading.{Linkable, unit_at}
use Rattle.value_links.specs.Values.{HasValueAt}
use Rattle.value_links.specs.World.{World, operations_at}
use Rattle.rewriter.specs.declared.tables.NewTable.{NewTable}
use Rattle.rewriter.specs.declared.new_places.NewPlaces.{NewPlaces}
use Rattle.rewriter.specs.inside.Tables.{new_table_at}
use Rattle.rewriter.specs.inside.Placed.{PlacesAnew, places_at, written_in}
use Rattle.rewriter.specs.inside.NewPlaces.{IsOffsetAnew}

-- an entry that stands at an old place stands at a new one
pub record MovesEntry (f : Arena) (places : PlacesAnew) (old new : ℕ) : Type 0 where
  pub id : ℕ
  pub inside : id < length f.entries
  pub from : (entry_at f.entries id).at ≡ old
  pub to : slice_index places.entries id ≡ new

-- likewise a code 0
pub record MovesEnd (f : Arena) (places : PlacesAnew) (old new : ℕ) : Type 0 where
  pub number : ℕ
  pub inside : number < length f.ends
  pub from : (chain_end_at f.ends number).at ≡ old
  pub to : slice_index places.ends number ≡ new

abbrev pub MovesTo : Arena → PlacesAnew → ℕ → ℕ → Type 0
MovesTo f places old new = MovesEntry f places old new ⊎ MovesEnd f places old new

-- The new number of the value of an attribute with a name, in an entry `id` of the unit `u`. `places` are those of all units, and
-- `new_places` those of what section offsets name.
abbrev pub IsNewNumber : Linkable → List Places → NewPlaces → ℕ → ℕ → ℕ → Meaning → ℕ → Type 0
IsNewNumber r places new_places u id name (InUnit n) new = MovesTo (unit_at r u).forest (places_at places u) ((unit_at r u).head.at + n) ((places_at places u).start + new)
IsNewNumber r places new_places u id name (InSection n) new = (unit : ℕ) × (unit < length r.units) × MovesTo (unit_at r unit).forest (places_at places unit) n new
IsNewNumber r places new_places u id name (SectionPlace n) new = IsOffsetAnew r new_places u id name n new
IsNewNumber r places new_places u id name meaning new = Unit {0}

-- The new number of the reference of an operation in an expression of the unit `u`: it counts as the old one does, from the first byte
-- of the unit or of .debug_info. The generic type stays 0.
abbrev pub IsNewReference : Linkable → List Places → ℕ → Named → ℕ → ℕ → ℕ → Type 0
IsNewReference r places u Nothing code n new = Unit {0}
IsNewReference r places u BaseType code n new = ((is_generic code n ≡ true) × (new ≡ 0)) ⊎ ((is_generic code n ≡ false) × MovesEntry (unit_at r u).forest (places_at places u) ((unit_at r u).head.at + n) ((places_at places u).start + new))
IsNewReference r places u UnitEntry code n new = MovesEntry (unit_at r u).forest (places_at places u) ((unit_at r u).head.at + n) ((places_at places u).start + new)
IsNewReference r places u SectionEntry code n new = (unit : ℕ) × (unit < length r.units) × MovesEntry (unit_at r unit).forest (places_at places unit) n new

-- The new numbers of operations of the unit `u`, one for each.
pub record AreNewReferences (r : Linkable) (places : List Places) (u : ℕ) (ops : List Op) (numbers : List ℕ) : Type 0 where
  pub count : length numbers ≡ length ops
  pub fit : All (λ (number : ℕ). number < 2 ^ 32) numbers
  pub each : (k : ℕ) → k < length ops → IsNewReference r places u (named_by (op_at ops k).code) (op_at ops k).code (op_at ops k).a (slice_index numbers k)

-- an expression of the unit `u` is written with its operations, each reference at the new place of what it names
pub record IsNewExpression (r : Linkable) (places : List Places) (u : ℕ) (bytes made : List ℕ) : Type 0 where
  pub ops : List Op
  pub spelled : IsExpression Wide (all_meant bytes ops) bytes
  pub numbers : List ℕ
  pub numbered : AreNewReferences r places u ops numbers
  pub written : IsWrittenShortest (refs_among ops numbers) bytes ops made

-- what is written for a value: a new number, or the bytes of an expression
abbrev pub IsNewValue : Linkable → List Places → NewPlaces → ℕ → ℕ → ℕ → Meaning → ℕ → List ℕ → Type 0
IsNewValue r places new_places u id name (Expression bytes) new made = IsNewExpression r places u bytes made
IsNewValue r places new_places u id name meaning new made = IsNewNumber r places new_places u id name meaning new

-- the new type_offset of a type unit, and 0 for another unit
pub record IsNewType (r : Linkable) (places : PlacesAnew) (u new : ℕ) : Type 0 where
  pub entry : (unit_at r u).head.kind ≡ type_unit → MovesEntry (unit_at r u).forest places ((unit_at r u).head.at + (unit_at r u).head.type_at) (places.start + new)
  pub none : (unit_at r u).head.kind ≢ type_unit → new ≡ 0

-- The new numbers and expressions of the unit with a number; each number fits 32 bits. `op_numbers` has one for each operation of the
-- unit.
pub record AreNewNumbers (world : World) (r : Linkable) (tables : List NewTable) (places : List Places) (new_places : NewPlaces) (u : ℕ) (new : NewNumbers) : Type 0 where
  pub ends : new.end ≡ (places_at places u).end
  pub table_at : new.table ≡ (new_table_at tables (slice_index world.table_of u)).at
  pub type_at : IsNewType r (places_at places u) u new.type_offset
  pub type_fits : new.type_offset < 2 ^ 32
  pub count : length new.held.items ≡ length (unit_at r u).forest.values
  pub fit : All (λ (number : ℕ). number < 2 ^ 32) new.held.items
  pub ends_are : AreEndsFor (unit_at r u).forest new.expressions.ends.items
  pub op_numbers : List ℕ
  pub references : (number : ℕ) (span : Span) → IsExprAt (unit_at r u).forest number span → AreNewReferences r places u (ops_of (operations_at world.operations u) number) (for_value (operations_at world.operations u) op_numbers number)
  pub expressions : AreWrittenShortest (unit_at r u).forest (operations_at world.operations u) new.expressions.ends.items op_numbers new.expressions.bytes.items
  pub each : (id number name : ℕ) (meaning : Meaning) (place : ℕ) → HasValueAt (unit_at r u) id number name meaning place → IsNewValue r places new_places u id name (meaning_at (written_in world tables u).forest number) (slice_index new.held.items number) (made_of new.expressions.ends.items new.expressions.bytes.items number)
