-- The context in which the lists of a unit are read (DWARF 5 sections 2.6.2, 2.17.3, 3.1.1, 7.27, 7.28 and 7.29): the address
-- from which offsets count until a list gives another base, and the address table in which indexes are looked up. Both are what
-- the root of the unit gives.
use Rattle.std.specs.Prelude.{◌≡◌, ℕ, List, [], ◌∷◌, Option, Some, None, Bool, false, nat_eq, nat_lt, if◌then◌else◌, map, filter}
use Rattle.dw_base.specs.declared.constants.TheConstants.{DW_AT_LOW_PC}
use Rattle.form_codec.specs.Forms.{Meaning}
use Rattle.form_codec.specs.Forms.Meaning.{Address, AddressNumber}
use Rattle.list_model.specs.declared.context.Context.{Context}
use Rattle.list_model.specs.declared.tables.AddrTable.{AddrTable}
use Rattle.list_model.specs.Addresses.{address_of, HasBase}
use Rattle.value_links.specs.Attributes.{addr_base}
use Rattle.value_links.specs.Values.{IsFirstBase}

-- DW_AT_low_pc
abbrev pub low_pc : ℕ
low_pc = DW_AT_LOW_PC

-- whether an attribute is a DW_AT_low_pc whose value is an address, or the number of one
abbrev pub is_low_pc : ℕ × Meaning → Bool
is_low_pc (name, Address n) = nat_eq name low_pc
is_low_pc (name, AddressNumber i) = nat_eq name low_pc
is_low_pc attribute = false

-- what these attributes mean, in their order
abbrev pub low_pcs : List (ℕ × Meaning) → List Meaning
low_pcs attributes = map (λ (a : ℕ × Meaning). a.1) (filter is_low_pc attributes)

-- the address that such a value gives: the address itself, or the one that has the number in a table. Where there is no table, or
-- no address with this number in it, 0 stands for it.
abbrev pub address_by : List ℕ → Option AddrTable → Meaning → ℕ
address_by addr table (Address n) = n
address_by addr (Some table) (AddressNumber i) = if nat_lt i table.count then address_of addr table i else 0
address_by addr table meaning = 0

-- the first base: what the first of these attributes gives, or 0 where there is none
abbrev pub first_base : List ℕ → Option AddrTable → List Meaning → ℕ
first_base addr table [] = 0
first_base addr table (low ∷ rest) = address_by addr table low

-- the first DW_AT_addr_base that is a section offset names this table: its addresses begin there
abbrev pub NamesTable : List ℕ → List (ℕ × Meaning) → AddrTable → Type 0
NamesTable addr attributes table = (base : ℕ) × IsFirstBase attributes addr_base base × HasBase addr base table

-- the table that it names, or none
abbrev pub IsTableOf : List ℕ → List (ℕ × Meaning) → Option AddrTable → Type 0
IsTableOf addr attributes (Some table) = NamesTable addr attributes table
IsTableOf addr attributes None = (table : AddrTable) → NamesTable addr attributes table → ⊥

-- The attributes of a root give this context, where `addr` are the bytes of .debug_addr.
pub record IsContext (addr : List ℕ) (attributes : List (ℕ × Meaning)) (context : Context) : Type 0 where
  pub table : IsTableOf addr attributes context.table
  pub base : context.base ≡ first_base addr context.table (low_pcs attributes)
