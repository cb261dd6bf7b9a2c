-- What the attributes of entries point to (DWARF 5 sections 7.5.4 and 7.5.5): the classes of a section offset, by the name
-- of its attribute.
use Rattle.std.specs.Prelude.{ℕ, List, [], ◌∷◌, Bool, nat_eq, if◌then◌else◌}
use Rattle.std.specs.List.{list_any}
use Rattle.dw_base.specs.declared.constants.TheConstants.{DW_AT_LOCATION, DW_AT_STMT_LIST, DW_AT_STRING_LENGTH, DW_AT_RETURN_ADDR, DW_AT_START_SCOPE, DW_AT_DATA_MEMBER_LOCATION, DW_AT_FRAME_BASE, DW_AT_SEGMENT, DW_AT_STATIC_LINK, DW_AT_USE_LOCATION, DW_AT_VTABLE_ELEM_LOCATION, DW_AT_RANGES, DW_AT_STR_OFFSETS_BASE, DW_AT_ADDR_BASE, DW_AT_RNGLISTS_BASE, DW_AT_MACROS, DW_AT_LOCLISTS_BASE, DW_AT_GNU_LOCVIEWS}

-- the classes of a section offset, as the standard calls them, and that of an attribute that has none
pub data OffsetClass : Type 0 where
  LinePtr : OffsetClass
  RngList : OffsetClass
  LocList : OffsetClass
  RngListsPtr : OffsetClass
  LocListsPtr : OffsetClass
  AddrPtr : OffsetClass
  StrOffsetsPtr : OffsetClass
  MacPtr : OffsetClass
  Views : OffsetClass
  NoOffset : OffsetClass

-- DW_AT_stmt_list: the line number program of a unit
abbrev pub stmt_list : ℕ
stmt_list = DW_AT_STMT_LIST

-- DW_AT_rnglists_base, DW_AT_loclists_base, DW_AT_addr_base, DW_AT_str_offsets_base
abbrev pub rnglists_base : ℕ
rnglists_base = DW_AT_RNGLISTS_BASE

abbrev pub loclists_base : ℕ
loclists_base = DW_AT_LOCLISTS_BASE

abbrev pub addr_base : ℕ
addr_base = DW_AT_ADDR_BASE

abbrev pub str_offsets_base : ℕ
str_offsets_base = DW_AT_STR_OFFSETS_BASE

-- DW_AT_macros
abbrev pub macros : ℕ
macros = DW_AT_MACROS

-- DW_AT_location
abbrev pub location : ℕ
location = DW_AT_LOCATION

-- DW_AT_GNU_locviews, an extension: view numbers for the entries of a location list
abbrev pub gnu_locviews : ℕ
gnu_locviews = DW_AT_GNU_LOCVIEWS

-- the attributes whose section offsets are those of range lists
abbrev pub of_range_lists : List ℕ
of_range_lists = DW_AT_RANGES ∷ DW_AT_START_SCOPE ∷ []

-- the attributes whose section offsets are those of location lists
abbrev pub of_location_lists : List ℕ
of_location_lists = DW_AT_LOCATION ∷ DW_AT_STRING_LENGTH ∷ DW_AT_RETURN_ADDR ∷ DW_AT_DATA_MEMBER_LOCATION ∷ DW_AT_FRAME_BASE ∷ DW_AT_SEGMENT ∷ DW_AT_STATIC_LINK ∷ DW_AT_USE_LOCATION ∷ DW_AT_VTABLE_ELEM_LOCATION ∷ []

abbrev pub is_among : List ℕ → ℕ → Bool
is_among names name = list_any (nat_eq name) names

-- the class of a section offset that an attribute of this name has
abbrev pub offset_class : ℕ → OffsetClass
offset_class name =
    if nat_eq name stmt_list then LinePtr else
    if is_among of_range_lists name then RngList else
    if is_among of_location_lists name then LocList else
    if nat_eq name rnglists_base then RngListsPtr else
    if nat_eq name loclists_base then LocListsPtr else
    if nat_eq name addr_base then AddrPtr else
    if nat_eq name str_offsets_base then StrOffsetsPtr else
    if nat_eq name macros then MacPtr else
    if nat_eq name gnu_locviews then Views else
    NoOffset
