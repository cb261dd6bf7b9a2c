-- The header of a unit of .debug_info (DWARF 5 section 7.5.1), in the 32-bit format.
use Rattle.std.specs.Prelude.{◌≡◌, ◌≤◌, ◌<◌, ◌+◌, ◌-◌, ◌⊎◌, ℕ, List, [], ◌∷◌, length, slice_index, slice_index_or, nat_eq, if◌then◌else◌}
use Rattle.dw_base.specs.declared.constants.TheConstants.{DW_UT_COMPILE, DW_UT_TYPE, DW_UT_PARTIAL, DW_UT_SKELETON}
use Rattle.fixed_width.specs.InitialLengths.{unit_length, version, unit_end, least_reserved}
use Rattle.fixed_width.specs.Numbers.{number_at}
use Rattle.entry_read.specs.declared.head.UnitHead.{UnitHead}

-- the fields that each header has after its length and its version, where the unit stands at a place
abbrev pub unit_type : List ℕ → ℕ → ℕ
unit_type section at = slice_index section (at + 6)

abbrev pub address_size : List ℕ → ℕ → ℕ
address_size section at = slice_index section (at + 7)

abbrev pub debug_abbrev_offset : List ℕ → ℕ → ℕ
debug_abbrev_offset section at = number_at 4 (at + 8) section

-- the fields that only some have: the signature of a type unit or the dwo_id of a skeleton unit, and type_offset
abbrev pub signature : List ℕ → ℕ → ℕ
signature section at = number_at 8 (at + 12) section

abbrev pub type_offset : List ℕ → ℕ → ℕ
type_offset section at = number_at 4 (at + 20) section

-- where the field type_offset of a type unit stands: after the 12 bytes that all headers have and the 8 of the signature
-- (DWARF 5 section 7.5.1.3)
abbrev pub type_offset_at : UnitHead → ℕ
type_offset_at head = head.at + 20

-- the types of units that are read: DW_UT_compile, DW_UT_type, DW_UT_partial and DW_UT_skeleton
abbrev pub compile_unit : ℕ
compile_unit = DW_UT_COMPILE

abbrev pub type_unit : ℕ
type_unit = DW_UT_TYPE

abbrev pub partial_unit : ℕ
partial_unit = DW_UT_PARTIAL

abbrev pub skeleton_unit : ℕ
skeleton_unit = DW_UT_SKELETON

abbrev pub IsUnitType : ℕ → Type 0
IsUnitType kind = (kind ≡ compile_unit) ⊎ ((kind ≡ type_unit) ⊎ ((kind ≡ partial_unit) ⊎ (kind ≡ skeleton_unit)))

-- how many bytes the header of a unit of a type has
abbrev pub header_size : ℕ → ℕ
header_size kind = if nat_eq kind type_unit then 24 else if nat_eq kind skeleton_unit then 20 else 12

-- the rules of a header: version 5, a type that is read, addresses of 8 bytes, and the whole header in its unit
pub record HasHead (section : List ℕ) (at : ℕ) : Type 0 where
  pub usual : unit_length section at < least_reserved
  pub inside : unit_end section at ≤ length section
  pub of_version : version section at ≡ 5
  pub of_type : IsUnitType (unit_type section at)
  pub of_addresses : address_size section at ≡ 8
  pub fits : at + header_size (unit_type section at) ≤ unit_end section at

-- the signature or dwo_id of a header, or 0
abbrev pub extra_at : List ℕ → ℕ → ℕ
extra_at section at = if nat_eq (header_size (unit_type section at)) 12 then 0 else signature section at

-- the number in type_offset, or 0
abbrev pub type_at : List ℕ → ℕ → ℕ
type_at section at = if nat_eq (unit_type section at) type_unit then type_offset section at else 0

-- what the fields of a header say
abbrev pub head_at : List ℕ → ℕ → UnitHead
head_at section at = record {
  at = at;
  len = unit_end section at - at;
  kind = unit_type section at;
  table = debug_abbrev_offset section at;
  extra = extra_at section at;
  type_at = type_at section at;
}

-- a head that stands in the section at its place
pub record IsHead (section : List ℕ) (head : UnitHead) : Type 0 where
  pub rules : HasHead section head.at
  pub fields : head ≡ head_at section head.at

-- The units of the heads stand in the section one after the other, from a place up to another.
abbrev pub Follow : List ℕ → List UnitHead → ℕ → ℕ → Type 0
Follow section [] at end = at ≡ end
Follow section (head ∷ heads) at end = (head.at ≡ at) × IsHead section head × Follow section heads (at + head.len) end

-- The units of the heads are the whole section.
abbrev pub Tile : List ℕ → List UnitHead → Type 0
Tile section heads = Follow section heads 0 (length section)

-- past the end of a list of heads there is none, and one of zeros stands for it
abbrev pub no_head : UnitHead
no_head = record { at = 0; len = 0; kind = 0; table = 0; extra = 0; type_at = 0 }

-- the head with a number, counted from 0
abbrev pub head_numbered : List UnitHead → ℕ → UnitHead
head_numbered heads i = slice_index_or heads i no_head
