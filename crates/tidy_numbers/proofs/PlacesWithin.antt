-- Numbers that have a byte too many stand inside of their sections.
use Rattle.std.proofs.Common.{◌≡◌, ◌≢◌, ◌<◌, ◌+◌, ◌-◌, ◌++◌, ◌∙◌, ◌⊎◌, inl, inr, ℕ, List, length, drop, sym, ap, subst, arith}
use Rattle.std.specs.Prelude.{◌&&◌, Bool, true, IsFalse}
use Rattle.std.proofs.lemmas.List.{length-append, length-drop, length-take}
use Rattle.dw_base.specs.declared.classes.Classes.{Classes}
use Rattle.dw_base.specs.declared.fault.Span.{Span}
use Rattle.leb_codec.specs.Leb.{Uleb}
use Rattle.expr_ops.specs.Drafts.{is_slot}
use Rattle.expr_ops.specs.Heads.{SpellsPart}
use Rattle.expr_ops.specs.declared.table.Shape.{Shape as OpShape}
use Rattle.expr_ops.specs.declared.table.Shape.TheVariants as op_shape
use Rattle.expr_ops.specs.declared.table.Operands.{Operands}
use Rattle.expr_ops.specs.declared.table.Operands.TheVariants as operands
use Rattle.form_codec.specs.declared.form.Shape.{Shape}
use Rattle.form_codec.specs.declared.form.Shape.TheVariants.{Uleb as ByUleb, Sleb as BySleb, UlebCounted}
use Rattle.form_codec.specs.declared.form.Role.TheVariants as role
use Rattle.form_codec.specs.declared.form.Content.TheVariants as content
use Rattle.form_codec.specs.Forms.{shape_of}
use Rattle.form_codec.specs.Values.{bytes_in}
use Rattle.abbrev_tables.specs.Tables.{SpellsName, SpellsColumn, SpellsChildren, SpellsDeclared}
use Rattle.list_model.specs.declared.entry.EntryKind.{EntryKind}
use Rattle.list_model.specs.declared.entry.ListKind.{ListKind}
use Rattle.list_model.specs.declared.entry.ListKind.TheVariants.{Locations}
use Rattle.list_model.specs.declared.entry.Operand.{Operand}
use Rattle.list_model.specs.declared.entry.Operand.TheVariants.{Number}
use Rattle.list_model.specs.declared.entry.RawEntry.{RawEntry}
use Rattle.list_model.specs.Entries.{first_operand, second_operand, SpellsOperand, SpellsOperands}
use Rattle.value_links.specs.Reading.{UnitRead, ViewRead, Reading, of_kind, view_at, unit_at}
use Rattle.tidy_numbers.specs.Fronts.{BeginsLong, BeginsLongSigned, IsLong, IsLongSigned, Behind, BehindSome}
use Rattle.tidy_numbers.specs.LongTables.{IsLongConstant, IsLongColumn, SpellsCode, IsLongDeclared}
use Rattle.tidy_numbers.specs.LongUnits.{BeginsLongShape, IsLongInUnit}
use Rattle.tidy_numbers.specs.LongOperations.{IsLongPart, AreLongOperands, IsLongInExpression}
use Rattle.tidy_numbers.specs.LongLists.{IsLongOperandOf, AreLongOperandsOf, HoldsBehindCode, IsLongLength, is_owned, IsLongInRun}
use Rattle.tidy_numbers.specs.LongNumbers.{IsLongInTables, IsLongInInfo, IsLongInSection}

-- FRONTS

-- a number has bytes
begins_some : (bytes : List ℕ) → BeginsLong bytes → 0 < length bytes
begins_some bytes l =
    let size : length bytes ≡ length l.first + length l.rest = ap length l.whole ∙ length-append l.first l.rest in
    let some : 0 < length l.first = l.spelled.0.0.filled in
    omega arith

begins_signed : (bytes : List ℕ) → BeginsLongSigned bytes → 0 < length bytes
begins_signed bytes l =
    let size : length bytes ≡ length l.first + length l.rest = ap length l.whole ∙ length-append l.first l.rest in
    let some : 0 < length l.first = l.spelled.0.0.filled in
    omega arith

-- places where something holds lie in the bytes
abbrev LiesWithin : (ℕ → List ℕ → Type 0) → Type 0
LiesWithin Holds = (at : ℕ) (bytes : List ℕ) → Holds at bytes → at < length bytes

long_within : LiesWithin IsLong
long_within at bytes (same, long) = let some : 0 < length bytes = begins_some bytes long in omega arith

signed_within : LiesWithin IsLongSigned
signed_within at bytes (same, long) = let some : 0 < length bytes = begins_signed bytes long in omega arith

-- also behind other bytes
behind : (at inner : ℕ) (bytes first rest : List ℕ) → bytes ≡ first ++ rest → at ≡ length first + inner → inner < length rest → at < length bytes
behind at inner bytes first rest whole place inside =
    let size : length bytes ≡ length first + length rest = ap length whole ∙ length-append first rest in
    omega arith

behind_within : {V : Type 0} (Spells : V → List ℕ → Type 0) (Holds : V → ℕ → List ℕ → Type 0) → ((v : V) → LiesWithin (Holds v)) → LiesWithin (Behind Spells Holds)
behind_within Spells Holds each at bytes (v, first, rest, inner, spelled, holds, whole, place) = behind at inner bytes first rest whole place (each v inner rest holds)

behind_some_within : {V : Type 0} (Spells : V → List ℕ → Type 0) (Holds : ℕ → List ℕ → Type 0) → LiesWithin Holds → LiesWithin (BehindSome Spells Holds)
behind_some_within Spells Holds each at bytes (vs, first, rest, inner, spelled, holds, whole, place) = behind at inner bytes first rest whole place (each inner rest holds)

-- and in the bytes from a place on
from_place : (section : List ℕ) (k inner : ℕ) → inner < length (drop k section) → k + inner < length section
from_place section k inner inside =
    let size : length (drop k section) ≡ length section - k = length-drop k section in
    omega arith

in_span : (section : List ℕ) (span : Span) (inner : ℕ) → inner < length (bytes_in section span) → span.at + inner < length section
in_span section span inner inside = from_place section span.at inner (omega (arith, length-take span.len (drop span.at section)))

-- TABLES

constant_within : (form : ℕ) → LiesWithin (IsLongConstant form)
constant_within form at bytes (is, long) = signed_within at bytes long

-- what stands behind the name of a column
abbrev InColumn : ℕ → ℕ → List ℕ → Type 0
InColumn name inner rest = IsLong inner rest ⊎ ((name ≢ 0) × Behind Uleb IsLongConstant inner rest)

in_column : (name : ℕ) → LiesWithin (InColumn name)
in_column name at bytes (inl long) = long_within at bytes long
in_column name at bytes (inr (other, form)) = behind_within Uleb IsLongConstant constant_within at bytes form

column_within : LiesWithin IsLongColumn
column_within at bytes (inl long) = long_within at bytes long
column_within at bytes (inr more) = behind_within SpellsName InColumn in_column at bytes more

-- what stands behind the code of a declaration
abbrev InDeclared : ℕ → ℕ → List ℕ → Type 0
InDeclared code inner rest = IsLong inner rest ⊎ Behind SpellsName (λ tag. Behind SpellsChildren (λ children. BehindSome SpellsColumn IsLongColumn)) inner rest

in_declared : (code : ℕ) → LiesWithin (InDeclared code)
in_declared code at bytes (inl long) = long_within at bytes long
in_declared code at bytes (inr more) =
    behind_within SpellsName (λ tag. Behind SpellsChildren (λ children. BehindSome SpellsColumn IsLongColumn))
    (λ tag. behind_within SpellsChildren (λ children. BehindSome SpellsColumn IsLongColumn) (λ children. behind_some_within SpellsColumn IsLongColumn column_within))
    at bytes more

declared_within : LiesWithin IsLongDeclared
declared_within at bytes (inl long) = long_within at bytes long
declared_within at bytes (inr more) = behind_within SpellsCode InDeclared in_declared at bytes more

pub tables_within : (abbrevs : List ℕ) (s : Reading) (p : ℕ) → IsLongInTables abbrevs s p → p < length abbrevs
tables_within abbrevs s p (u, inner, known, long, place) =
    let at : ℕ = (unit_at s.links u).head.table in
    let inside : at + inner < length abbrevs = from_place abbrevs at inner (behind_some_within SpellsDeclared IsLongDeclared declared_within inner (drop at abbrevs) long) in
    omega arith

-- ENTRIES

shape_some : (shape : Shape) (bytes : List ℕ) → BeginsLongShape shape bytes → 0 < length bytes
shape_some (ByUleb role.LocalRef) bytes long = absurd long
shape_some (ByUleb r) bytes long = begins_some bytes long
shape_some BySleb bytes long = begins_signed bytes long
shape_some (UlebCounted content.Data) bytes long = begins_some bytes long
shape_some shape bytes long = absurd long

-- something is there from a place on
some_there : (section : List ℕ) (p : ℕ) → 0 < length (drop p section) → p < length section
some_there section p some = omega (arith, from_place section p 0 some)

unit_within : (unit : UnitRead) (p : ℕ) → IsLongInUnit unit p → p < length unit.forest.section
unit_within unit p (inl (id, known, long, place)) = some_there unit.forest.section p (begins_some (drop p unit.forest.section) long)
unit_within unit p (inr (inl (end, among, long, place))) = some_there unit.forest.section p (begins_some (drop p unit.forest.section) long)
unit_within unit p (inr (inr value)) =
    let (form, known, long) = value.long in
    some_there unit.forest.section p (shape_some (shape_of form value.stands.column.name value.stands.column.constant) (drop p unit.forest.section) long)

-- EXPRESSIONS

part_within : (shape : OpShape) → LiesWithin (IsLongPart shape)
part_within op_shape.Uleb at bytes long = long_within at bytes long
part_within op_shape.Sleb at bytes long = signed_within at bytes long
part_within op_shape.Counted at bytes long = long_within at bytes long
part_within shape at bytes long = absurd long

operands_within : (slot : Bool) (of : Operands) → LiesWithin (AreLongOperands slot of)
operands_within slot operands.Nothing at bytes long = absurd long
operands_within slot (operands.One s) at bytes (none, long) = part_within s at bytes long
operands_within slot (operands.Two s t) at bytes (inl (none, long)) = part_within s at bytes long
operands_within slot (operands.Two s t) at bytes (inr more) = behind_within (SpellsPart s) (λ part. IsLongPart t) (λ part. part_within t) at bytes more
operands_within slot (operands.Typed s) at bytes (inl long) = part_within s at bytes long
operands_within slot (operands.Typed s) at bytes (inr more) = behind_within (SpellsPart s) (λ part inner rest. IsFalse slot × IsLong inner rest) (λ part inner rest (none, long). long_within inner rest long) at bytes more

expression_within : (owned : Bool) (bytes : List ℕ) (p : ℕ) → IsLongInExpression owned bytes p → p < length bytes
expression_within owned bytes p l =
    let o = l.long in
    let inside : l.op.at + 1 + o.inner < length bytes = from_place bytes (l.op.at + 1) o.inner (operands_within (owned && is_slot l.op.code l.op.a) o.operands o.inner (drop (l.op.at + 1) bytes) o.long) in
    let place : p ≡ l.op.at + 1 + o.inner = o.place in
    omega arith

pub info_within : (info : List ℕ) (s : Reading) → ((u : ℕ) → u < length s.links.units → (unit_at s.links u).forest.section ≡ info) → (p : ℕ) → IsLongInInfo s p → p < length info
info_within info s sections p (inl (u, known, long)) = subst (λ (z : List ℕ). p < length z) (sections u known) (unit_within (unit_at s.links u) p long)
info_within info s sections p (inr l) =
    let section : List ℕ = (unit_at s.links l.u).forest.section in
    let inside : l.span.at + l.inner < length section = in_span section l.span l.inner (expression_within true (bytes_in section l.span) l.inner l.long) in
    let place : p ≡ l.span.at + l.inner = l.place in
    subst (λ (z : List ℕ). p < length z) (sections l.u l.known) (omega arith)

-- LISTS

operand_within : (operand : Operand) → LiesWithin (IsLongOperandOf operand)
operand_within Number at bytes long = long_within at bytes long
operand_within operand at bytes long = absurd long

list_operands_within : (kind : EntryKind) → LiesWithin (AreLongOperandsOf kind)
list_operands_within kind at bytes (inl long) = operand_within (first_operand kind) at bytes long
list_operands_within kind at bytes (inr more) = behind_within (SpellsOperand (first_operand kind)) (λ first. IsLongOperandOf (second_operand kind)) (λ first. operand_within (second_operand kind)) at bytes more

length_within : (kind : EntryKind) → LiesWithin (IsLongLength kind)
length_within kind at bytes (some, more) = behind_within (SpellsOperands kind) (λ operands. IsLong) (λ operands. long_within) at bytes more

code_within : (Holds : EntryKind → ℕ → List ℕ → Type 0) → ((kind : EntryKind) → LiesWithin (Holds kind)) → (list : ListKind) (section : List ℕ) (raw : RawEntry) (p : ℕ) → HoldsBehindCode Holds list section raw p → p < length section
code_within Holds each list section raw p h =
    let inside : raw.at + 1 + h.inner < length section = from_place section (raw.at + 1) h.inner (each h.kind h.inner (drop (raw.at + 1) section) h.holds) in
    let place : p ≡ raw.at + 1 + h.inner = h.place in
    omega arith

run_within : (section : List ℕ) (run : ViewRead) (p : ℕ) → IsLongInRun section run p → p < length section
run_within section run p l =
    let pair : l.inner < length l.rest = pair_within l.long in
    let size : length (drop run.at section) ≡ length l.front + length l.rest = ap length l.whole ∙ length-append l.front l.rest in
    let inside : run.at + (length l.front + l.inner) < length section = from_place section run.at (length l.front + l.inner) (omega arith) in
    let place : p ≡ run.at + length l.front + l.inner = l.place in
    omega arith
  where
    pair_within : IsLong l.inner l.rest ⊎ Behind Uleb (λ first. IsLong) l.inner l.rest → l.inner < length l.rest
    pair_within (inl long) = long_within l.inner l.rest long
    pair_within (inr more) = behind_within Uleb (λ first. IsLong) (λ first. long_within) l.inner l.rest more

pub lists_within : (classes : Classes) (s : Reading) (kind : ListKind) (p : ℕ) → IsLongInSection classes s kind p → p < length (of_kind s.links kind).section
lists_within classes s kind p (inl (k, known, inl (kept, (raw, among, long)))) = code_within AreLongOperandsOf list_operands_within kind (of_kind s.links kind).section raw p long
lists_within classes s kind p (inl (k, known, inr (is, inl (none, (raw, among, long))))) =
    subst (λ (z : ListKind). p < length (of_kind s.links z).section) (sym is) (code_within IsLongLength length_within Locations s.links.locations.section raw p long)
lists_within classes s kind p (inl (k, known, inr (is, inr l))) =
    let section : List ℕ = s.links.locations.section in
    let inside : l.raw.expr.at + l.inner < length section = in_span section l.raw.expr l.inner (expression_within (is_owned l.owner) (bytes_in section l.raw.expr) l.inner l.long) in
    let place : p ≡ l.raw.expr.at + l.inner = l.place in
    let there : p < length (of_kind s.links Locations).section = omega arith in
    subst (λ (z : ListKind). p < length (of_kind s.links z).section) (sym is) there
lists_within classes s kind p (inr (is, (k, known, long))) = subst (λ (z : ListKind). p < length (of_kind s.links z).section) (sym is) (run_within s.links.locations.section (view_at s.views k) p long)
