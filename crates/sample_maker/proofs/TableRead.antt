-- The abbreviation table of a generated file is read.
use Rattle.std.proofs.Common.{◌≡◌, ◌<◌, ◌+◌, ◌-◌, ℕ, zero, suc, List, [], ◌∷◌, ◌++◌, length, take, drop, true, false, ◌∙◌, sym, refl, subst, arith, inl, inr}
use Rattle.std.specs.Prelude.{Bool, pos, slice_index}
use Rattle.std.proofs.lemmas.Int.{ints}
use Rattle.spelled.specs.Spelled.{Joined}
use Rattle.leb_codec.specs.Leb.{Uleb}
use Rattle.leb_codec.proofs.SpellingLaws.{leb_one, leb_cons}
use Rattle.form_codec.specs.declared.form.Form.{Form}
use Rattle.form_codec.specs.declared.form.Form.TheVariants as form
use Rattle.form_codec.specs.Forms.{code_of}
use Rattle.abbrev_tables.specs.declared.decl.Spec.{Spec}
use Rattle.abbrev_tables.specs.Tables.{SpellsName, SpellsColumn, SpellsColumns, IsColumnsEnd, SpellsChildren, Declared, SpellsDeclared, IsTableEnd, AreDistinct, SpellsTable}
use Rattle.abbrev_tables.specs.Listings.{AreAdjacent, ArePlaced, IsTableAt}
use Rattle.entry_read.specs.Units.{declarations_of}
use Rattle.sample_maker.specs.inside.Images.{unit_declaration, function_declaration, parameter_declaration, base_type_declaration, block_declaration, table_bytes}
use Rattle.sample_maker.specs.inside.ReadUnits.{column, root_columns, function_columns, parameter_columns, base_type_columns, block_columns, declared_read, table_read}

-- NUMBERS OF ONE BYTE

pub uleb_byte : (n : ℕ) → n < 128 → Uleb n (n ∷ [])
uleb_byte n small = ((leb_one n small, omega arith), omega arith)

name_byte : (n : ℕ) → n < 128 → SpellsName n (n ∷ [])
name_byte n small = (uleb_byte n small, omega arith)

-- COLUMNS

-- columns one after the other
record AreColumns (columns : List Spec) (bytes : List ℕ) : Type 0 where
  joined : Joined SpellsColumn columns bytes

no_columns : AreColumns [] []
no_columns = record { joined = refl }

-- a column in front of others, whose name and form have one byte each
also : {columns : List Spec} {bytes : List ℕ} (name : ℕ) (f : Form) → 0 < name → name < 128 → code_of f < 33 → AreColumns columns bytes → AreColumns (column name (code_of f) ∷ columns) (name ∷ code_of f ∷ bytes)
also {columns} {bytes} name f some small few more =
    let low : code_of f < 128 = omega (arith, few) in
    let spelled : SpellsColumn (column name (code_of f)) (name ∷ code_of f ∷ []) = record {
      named = λ e. absurd (omega (arith, e, some));
      known = (f, refl);
      parts = (name ∷ [], code_of f ∷ [], name_byte name small, (code_of f ∷ [], [], uleb_byte (code_of f) low, inr ((λ e. absurd (omega (arith, e, few))), (refl, refl)), refl), refl);
    } in
    record { joined = (name ∷ code_of f ∷ [], bytes, spelled, more.joined, refl) }

-- DW_AT_decl_file, whose constant 1 stands in the table
constant_column : {columns : List Spec} {bytes : List ℕ} → AreColumns columns bytes → AreColumns ((record { name = 0x3a; form = 0x21; constant = pos 1 }) ∷ columns) (0x3a ∷ 0x21 ∷ 1 ∷ bytes)
constant_column {columns} {bytes} more =
    let spelled : SpellsColumn (record { name = 0x3a; form = 0x21; constant = pos 1 }) (0x3a ∷ 0x21 ∷ 1 ∷ []) = record {
      named = λ e. absurd (omega (arith, e));
      known = (form.ImplicitConst, refl);
      parts = (0x3a ∷ [], 0x21 ∷ 1 ∷ [], name_byte 0x3a (omega arith), (0x21 ∷ [], 1 ∷ [], uleb_byte 0x21 (omega arith), inl (refl, ((leb_one 1 (omega arith), refl), omega (arith, ints))), refl), refl);
    } in
    record { joined = (0x3a ∷ 0x21 ∷ 1 ∷ [], bytes, spelled, more.joined, refl) }

-- DW_AT_GNU_locviews, whose name has two bytes
views_column : {columns : List Spec} {bytes : List ℕ} → AreColumns columns bytes → AreColumns (column 0x2137 0x17 ∷ columns) (0xb7 ∷ 0x42 ∷ 0x17 ∷ bytes)
views_column {columns} {bytes} more =
    let name : SpellsName 0x2137 (0xb7 ∷ 0x42 ∷ []) = (((leb_cons 0xb7 (0x42 ∷ []) (omega arith) (omega arith) (leb_one 0x42 (omega arith)), refl), omega arith), omega arith) in
    let spelled : SpellsColumn (column 0x2137 0x17) (0xb7 ∷ 0x42 ∷ 0x17 ∷ []) = record {
      named = λ e. absurd (omega (arith, e));
      known = (form.SecOffset, refl);
      parts = (0xb7 ∷ 0x42 ∷ [], 0x17 ∷ [], name, (0x17 ∷ [], [], uleb_byte 0x17 (omega arith), inr ((λ e. absurd (omega (arith, e))), (refl, refl)), refl), refl);
    } in
    record { joined = (0xb7 ∷ 0x42 ∷ 0x17 ∷ [], bytes, spelled, more.joined, refl) }

root_joined : AreColumns root_columns (0x25 ∷ 0x0e ∷ 0x13 ∷ 0x0b ∷ 0x03 ∷ 0x1f ∷ 0x1b ∷ 0x1f ∷ 0x11 ∷ 0x01 ∷ 0x12 ∷ 0x07 ∷ 0x10 ∷ 0x17 ∷ [])
root_joined = also 0x25 form.Strp (omega arith) (omega arith) (omega arith) (also 0x13 form.Data1 (omega arith) (omega arith) (omega arith) (also 0x03 form.LineStrp (omega arith) (omega arith) (omega arith) (also 0x1b form.LineStrp (omega arith) (omega arith) (omega arith) (also 0x11 form.Addr (omega arith) (omega arith) (omega arith) (also 0x12 form.Data8 (omega arith) (omega arith) (omega arith) (also 0x10 form.SecOffset (omega arith) (omega arith) (omega arith) no_columns))))))

function_joined : AreColumns function_columns (0x3f ∷ 0x19 ∷ 0x03 ∷ 0x08 ∷ 0x3a ∷ 0x21 ∷ 1 ∷ 0x3b ∷ 0x0b ∷ 0x49 ∷ 0x13 ∷ 0x11 ∷ 0x01 ∷ 0x12 ∷ 0x07 ∷ 0x40 ∷ 0x18 ∷ 0x01 ∷ 0x13 ∷ [])
function_joined = also 0x3f form.FlagPresent (omega arith) (omega arith) (omega arith) (also 0x03 form.String (omega arith) (omega arith) (omega arith) (constant_column (also 0x3b form.Data1 (omega arith) (omega arith) (omega arith) (also 0x49 form.Ref4 (omega arith) (omega arith) (omega arith) (also 0x11 form.Addr (omega arith) (omega arith) (omega arith) (also 0x12 form.Data8 (omega arith) (omega arith) (omega arith) (also 0x40 form.Exprloc (omega arith) (omega arith) (omega arith) (also 0x01 form.Ref4 (omega arith) (omega arith) (omega arith) no_columns))))))))

parameter_joined : AreColumns parameter_columns (0x03 ∷ 0x08 ∷ 0x3b ∷ 0x0b ∷ 0x49 ∷ 0x13 ∷ 0x02 ∷ 0x17 ∷ 0xb7 ∷ 0x42 ∷ 0x17 ∷ [])
parameter_joined = also 0x03 form.String (omega arith) (omega arith) (omega arith) (also 0x3b form.Data1 (omega arith) (omega arith) (omega arith) (also 0x49 form.Ref4 (omega arith) (omega arith) (omega arith) (also 0x02 form.SecOffset (omega arith) (omega arith) (omega arith) (views_column no_columns))))

base_type_joined : AreColumns base_type_columns (0x0b ∷ 0x0b ∷ 0x3e ∷ 0x0b ∷ 0x03 ∷ 0x08 ∷ [])
base_type_joined = also 0x0b form.Data1 (omega arith) (omega arith) (omega arith) (also 0x3e form.Data1 (omega arith) (omega arith) (omega arith) (also 0x03 form.String (omega arith) (omega arith) (omega arith) no_columns))

block_joined : AreColumns block_columns (0x55 ∷ 0x17 ∷ [])
block_joined = also 0x55 form.SecOffset (omega arith) (omega arith) (omega arith) no_columns

-- DECLARATIONS

-- a declaration whose code and tag have one byte each
declared : {columns : List Spec} {bytes : List ℕ} (code tag mark : ℕ) (children : Bool) → 0 < code → code < 128 → tag < 128 → SpellsChildren children (mark ∷ []) → AreColumns columns bytes → SpellsDeclared (record { code = code; tag = tag; children = children; columns = columns }) (code ∷ tag ∷ mark ∷ (bytes ++ 0 ∷ 0 ∷ []))
declared {columns} {bytes} code tag mark children some small few marked joined =
    let end : IsColumnsEnd (0 ∷ 0 ∷ []) = (0 ∷ [], 0 ∷ [], name_byte 0 (omega arith), uleb_byte 0 (omega arith), refl) in
    let all : SpellsColumns columns (bytes ++ 0 ∷ 0 ∷ []) = (bytes, 0 ∷ 0 ∷ [], joined.joined, end, refl) in
    record {
      coded = λ e. absurd (omega (arith, e, some));
      parts = (code ∷ [], tag ∷ mark ∷ (bytes ++ 0 ∷ 0 ∷ []), uleb_byte code small, (tag ∷ [], mark ∷ (bytes ++ 0 ∷ 0 ∷ []), name_byte tag few, (mark ∷ [], bytes ++ 0 ∷ 0 ∷ [], marked, all, refl), refl), refl);
    }

unit_declared : SpellsDeclared (record { code = 1; tag = 0x11; children = true; columns = root_columns }) unit_declaration
unit_declared = declared 1 0x11 1 true (omega arith) (omega arith) (omega arith) refl root_joined

function_declared : SpellsDeclared (record { code = 2; tag = 0x2e; children = true; columns = function_columns }) function_declaration
function_declared = declared 2 0x2e 1 true (omega arith) (omega arith) (omega arith) refl function_joined

parameter_declared : SpellsDeclared (record { code = 3; tag = 0x05; children = false; columns = parameter_columns }) parameter_declaration
parameter_declared = declared 3 0x05 0 false (omega arith) (omega arith) (omega arith) refl parameter_joined

base_type_declared : SpellsDeclared (record { code = 4; tag = 0x24; children = false; columns = base_type_columns }) base_type_declaration
base_type_declared = declared 4 0x24 0 false (omega arith) (omega arith) (omega arith) refl base_type_joined

block_declared : SpellsDeclared (record { code = 5; tag = 0x0b; children = false; columns = block_columns }) block_declaration
block_declared = declared 5 0x0b 0 false (omega arith) (omega arith) (omega arith) refl block_joined

-- THE TABLE

-- the declarations as they are held are these
pub declarations_are : declarations_of table_read ≡ declared_read
unfolding table_read declared_read
declarations_are = refl

front_bytes : List ℕ
front_bytes = unit_declaration ++ (function_declaration ++ (parameter_declaration ++ (base_type_declaration ++ (block_declaration ++ []))))

codes_rise : (i : ℕ) → i < 5 → slice_index (1 ∷ 2 ∷ 3 ∷ 4 ∷ 5 ∷ []) i ≡ i + 1
codes_rise zero lt = refl
codes_rise (suc zero) lt = refl
codes_rise (suc (suc zero)) lt = refl
codes_rise (suc (suc (suc zero))) lt = refl
codes_rise (suc (suc (suc (suc zero)))) lt = refl
codes_rise (suc (suc (suc (suc (suc i))))) lt = absurd (omega (arith, lt))

codes_distinct : AreDistinct (1 ∷ 2 ∷ 3 ∷ 4 ∷ 5 ∷ [])
codes_distinct i j p q same = omega (arith, same, codes_rise i p, codes_rise j q)

front_joined : Joined SpellsDeclared declared_read front_bytes
unfolding declared_read front_bytes
front_joined =
    (unit_declaration, _, unit_declared, (function_declaration, _, function_declared, (parameter_declaration, _, parameter_declared, (base_type_declaration, _, base_type_declared, (block_declaration, [], block_declared, refl, refl), refl), refl), refl), refl)

front_placed : ArePlaced (table_read.specs) 0 (table_read.decls) front_bytes
unfolding table_read front_bytes
front_placed =
    (unit_declaration, _, refl, unit_declared, (function_declaration, _, refl, function_declared, (parameter_declaration, _, refl, parameter_declared, (base_type_declaration, _, refl, base_type_declared, (block_declaration, [], refl, block_declared, refl, refl), refl), refl), refl), refl)

table_ends : IsTableEnd (0 ∷ [])
table_ends = uleb_byte 0 (omega arith)

table_whole : table_bytes ≡ front_bytes ++ 0 ∷ []
unfolding table_bytes front_bytes
table_whole = refl

table_spelled : SpellsTable declared_read table_bytes
unfolding declared_read
table_spelled = record { spelled = (front_bytes, 0 ∷ [], front_joined, table_ends, table_whole); distinct = codes_distinct }

table_taken : take (table_read.end - 0) (drop 0 table_bytes) ≡ table_bytes
unfolding table_read table_bytes
table_taken = refl

table_size : table_read.end ≡ length table_bytes
unfolding table_read table_bytes
table_size = refl

table_adjacent : AreAdjacent 0 (table_read.decls) (length (table_read.specs))
unfolding table_read
table_adjacent = (refl, (refl, (refl, (refl, (refl, refl)))))

pub table_filled : 0 < length table_bytes
unfolding table_bytes
table_filled = omega arith

-- the table stands at the beginning of .debug_abbrev
pub table_is_read : IsTableAt table_bytes 0 table_read
table_is_read = record {
  starts = omega arith;
  inside = omega (arith, table_size);
  table = subst (λ (z : List Declared). SpellsTable z (take (table_read.end - 0) (drop 0 table_bytes))) (sym declarations_are) (subst (λ (z : List ℕ). SpellsTable declared_read z) (sym table_taken) table_spelled);
  front = front_bytes;
  end = 0 ∷ [];
  placed = front_placed;
  ended = table_ends;
  whole = table_taken ∙ table_whole;
  adjacent = table_adjacent;
}
