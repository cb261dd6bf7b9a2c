-- What the reference of an operation names (DWARF 5 sections 2.5.1.1 to 2.5.1.6 and 2.6.1.1), and where it stands.
use Rattle.std.specs.Prelude.{◌≡◌, ◌+◌, ◌⊎◌, ◌≢◌, ℕ, List, ◌++◌, length, drop, nat_eq, nat_le, if◌then◌else◌}
use Rattle.leb_codec.specs.Leb.{Uleb}
use Rattle.expr_ops.specs.declared.names.Named.{Named}
use Rattle.expr_ops.specs.declared.names.Named.TheVariants.{Nothing, BaseType, UnitEntry, SectionEntry}

-- An operand names the entry of a base type in the unit of the expression, or the generic type (0 in convert and reinterpret); any
-- entry of that unit; or an entry of any unit, by its place in .debug_info. Most opcodes name nothing.
abbrev pub named_by : ℕ → Named
named_by code =
    if nat_le code 152 then Nothing
    else (if nat_eq code 153 then UnitEntry
    else (if nat_eq code 154 then SectionEntry
    else (if nat_eq code 160 then SectionEntry
    else (if nat_le code 163 then Nothing
    else (if nat_le code 169 then BaseType
    else (if nat_eq code 250 then UnitEntry
    else (if nat_eq code 253 then SectionEntry
    else Nothing)))))))

-- The reference of the operation with an opcode at a place begins at another: after the opcode, but after the register of
-- regval_type, and after the byte of deref_type and xderef_type.
abbrev pub IsReferencePlace : List ℕ → ℕ → ℕ → ℕ → Type 0
IsReferencePlace bytes code at place =
    ((code ≡ 165) × ((register : ℕ) × (front : List ℕ) × (rest : List ℕ) × Uleb register front × (drop (at + 1) bytes ≡ front ++ rest) × (place ≡ at + 1 + length front)))
    ⊎ ((((code ≡ 166) ⊎ (code ≡ 167)) × (place ≡ at + 2))
    ⊎ ((code ≢ 165) × (code ≢ 166) × (code ≢ 167) × (place ≡ at + 1)))
