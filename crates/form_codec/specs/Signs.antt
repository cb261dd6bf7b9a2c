-- The attributes of which a constant of fixed size (data1, data2, data4, data8) has no sign: sizes, counts, places in the source, and numbers of
-- enumerations (DWARF 5 section 7.5.4). DWARF 5 section 7.5.5 leaves the sign to the attribute; this is how it is read here. Of other constants of
-- fixed size nothing tells the sign, and the forms sdata, udata and implicit_const tell it themselves.
use Rattle.std.specs.Prelude.{ℕ, List, [], ◌∷◌, Bool, nat_eq, if◌then◌else◌}
use Rattle.std.specs.List.{list_any}
use Rattle.form_codec.specs.declared.form.Role.{Role}
use Rattle.form_codec.specs.declared.form.Role.TheVariants as role

-- by the codes of their names: DW_AT_ordering 0x09, byte_size 0x0b, bit_size 0x0d, high_pc 0x12, language 0x13, visibility 0x17, inline 0x20,
-- accessibility 0x32, calling_convention 0x36, decl_column 0x39, decl_file 0x3a, decl_line 0x3b, encoding 0x3e, identifier_case 0x42,
-- virtuality 0x4c, call_column 0x57, call_file 0x58, call_line 0x59, decimal_sign 0x5e, digit_count 0x5f, endianity 0x65, alignment 0x88, and
-- defaulted 0x8b
abbrev pub unsigned_names : List ℕ
unsigned_names = 9 ∷ 11 ∷ 13 ∷ 18 ∷ 19 ∷ 23 ∷ 32 ∷ 50 ∷ 54 ∷ 57 ∷ 58 ∷ 59 ∷ 62 ∷ 66 ∷ 76 ∷ 87 ∷ 88 ∷ 89 ∷ 94 ∷ 95 ∷ 101 ∷ 136 ∷ 139 ∷ []

-- the attribute with this name is one of them
abbrev pub is_unsigned : ℕ → Bool
is_unsigned name = list_any (nat_eq name) unsigned_names

-- what a constant of fixed size is under this name
abbrev pub constant_role : ℕ → Role
constant_role name = if is_unsigned name then role.Unsigned else role.Data
