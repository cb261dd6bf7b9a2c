-- The faults of a table, where they stand: no further than the bytes go.
use Rattle.std.proofs.Common.{◌≡◌, ◌≤◌, ◌<◌, ◌+◌, ◌-◌, ◌^◌, ◌∙◌, ◌++◌, inl, inr, ℕ, List, length, drop, ap, arith}
use Rattle.std.proofs.lemmas.List.{length-append, length-drop}
use Rattle.dw_base.specs.declared.fault.Kind.TheVariants.{Limit, LebWide, Short, FormUnknown, CodeTwice}
use Rattle.dw_base.specs.declared.fault.Refusal.{Refusal}
use Rattle.dw_base.specs.declared.fault.Refusal.TheVariants.{Refused, NoMemory}
use Rattle.dw_base.specs.Refusals.{IsFaultOf, IsRefusedFor}
use Rattle.spelled.specs.Spelled.{FaultThen, FaultUntilEnd}
use Rattle.leb_codec.specs.Leb.{Uleb}
use Rattle.abbrev_tables.specs.Tables.{SpellsName, SpellsColumn, SpellsChildren, SpellsDeclared}
use Rattle.abbrev_tables.specs.Faults.{FaultNumber, FaultName, FaultForm, FaultCode, FaultColumn, FaultColumns, FaultChildren, FaultFlagged, FaultTagged, FaultWithin, FaultDeclared, FaultTable}
use Rattle.abbrev_tables.specs.Readings.{IsRefusal}

-- each fault stands no further than the bytes go
abbrev LiesInside : {K : Type 0} → (K → ℕ → List ℕ → Type 0) → Type 0
LiesInside {K} F = (kind : K) (at : ℕ) (rest : List ℕ) → F kind at rest → at ≤ length rest

then_inside : {V K : Type 0} (S : V → List ℕ → Type 0) (F : K → ℕ → List ℕ → Type 0) (G : V → K → ℕ → List ℕ → Type 0) → LiesInside F → ((v : V) → LiesInside (G v)) → LiesInside (FaultThen S F G)
then_inside S F G first second kind at rest (inl f) = first kind at rest f
then_inside S F G first second kind at rest (inr (v, front, behind, inner, spelled, f, parts, sum)) =
    let small : inner ≤ length behind = second v kind inner behind f in
    let size : length rest ≡ length front + length behind = ap length parts ∙ length-append front behind in
    omega arith

until_inside : {V K : Type 0} (S : V → List ℕ → Type 0) (F : K → ℕ → List ℕ → Type 0) → LiesInside F → LiesInside (FaultUntilEnd S F)
until_inside S F each kind at rest f =
    let small : f.inner ≤ length f.rest = each kind f.inner f.rest f.fault in
    let size : length rest ≡ length f.front + length f.rest = ap length f.whole ∙ length-append f.front f.rest in
    let sum : at ≡ length f.front + f.inner = f.place in
    omega arith

number_inside : LiesInside FaultNumber
number_inside Short at rest f = omega (arith, f.0)
number_inside LebWide at rest f = omega (arith, f.0)
number_inside kind at rest f = absurd f

name_inside : LiesInside FaultName
name_inside Limit at rest f = omega (arith, f.0)
name_inside kind at rest f = number_inside kind at rest f

form_inside : (name code : ℕ) → LiesInside (FaultForm name code)
form_inside name code Short at rest f = omega (arith, f.0)
form_inside name code LebWide at rest f = omega (arith, f.0)
form_inside name code FormUnknown at rest f = omega (arith, f.0)
form_inside name code kind at rest f = absurd f

column_inside : LiesInside FaultColumn
column_inside = then_inside SpellsName FaultName FaultCode name_inside (λ name. then_inside Uleb FaultNumber (FaultForm name) number_inside (form_inside name))

columns_inside : LiesInside FaultColumns
columns_inside = until_inside SpellsColumn FaultColumn column_inside

children_inside : LiesInside FaultChildren
children_inside Short at rest f = omega (arith, f.0)
children_inside FormUnknown at rest f = omega (arith, f.0)
children_inside kind at rest f = absurd f

flagged_inside : LiesInside FaultFlagged
flagged_inside = then_inside SpellsChildren FaultChildren (λ _. FaultColumns) children_inside (λ _. columns_inside)

tagged_inside : (code : ℕ) → LiesInside (FaultTagged code)
tagged_inside code kind at rest f = then_inside SpellsName FaultName (λ _. FaultFlagged) name_inside (λ _. flagged_inside) kind at rest f.1

within_inside : LiesInside FaultWithin
within_inside = then_inside Uleb FaultNumber FaultTagged number_inside tagged_inside

declared_inside : LiesInside FaultDeclared
declared_inside FormUnknown at rest f = omega (arith, f.0)
declared_inside kind at rest f = within_inside kind at rest f

table_inside : LiesInside FaultTable
table_inside CodeTwice at rest f =
    let s = f.stands in
    let place : at ≡ length s.front = s.place in
    let size : length rest ≡ length s.front + length (s.body ++ s.rest) = ap length s.whole ∙ length-append s.front (s.body ++ s.rest) in
    omega arith
table_inside kind at rest f = until_inside SpellsDeclared FaultDeclared declared_inside kind at rest f

-- a refusal of the reader of tables names a fault of the bytes from the table on
pub table_refused : (abbrevs : List ℕ) (place origin : ℕ) (refusal : Refusal) → place < length abbrevs → origin + length abbrevs < 2 ^ 64 → IsRefusal abbrevs place origin refusal → IsRefusedFor (IsFaultOf (λ kind at. FaultTable kind at (drop place abbrevs)) (origin + place)) refusal
table_refused abbrevs place origin (Refused fault) inside room f =
    let small : f.inner ≤ length (drop place abbrevs) = table_inside fault.kind f.inner (drop place abbrevs) f.fault in
    let size : length (drop place abbrevs) ≡ length abbrevs - place = length-drop place abbrevs in
    let fits : origin + place + f.inner < 2 ^ 64 = omega arith in
    (f.inner, f.place fits, f.fault)
table_refused abbrevs place origin NoMemory inside room f = tt
