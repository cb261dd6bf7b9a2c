-- Worked rows of the definitions.
use Rattle.std.proofs.Common.{◌≡◌, ◌<◌, ◌+◌, ℕ, zero, suc, List, [], ◌∷◌, get_or, ap, refl, inl, inr, arith}
use Rattle.std.specs.Prelude.{true, false, pos}
use Rattle.dw_base.specs.declared.fault.Kind.TheVariants.{UnitHead as AHead}
use Rattle.leb_codec.specs.Leb.{Uleb}
use Rattle.entry_read.specs.Faults.{FaultHead}
use Rattle.fixed_width.specs.Numbers.{number}
use Rattle.fixed_width.specs.InitialLengths.{unit_end, version}
use Rattle.entry_read.specs.Heads.{HasHead}
use Rattle.value_links.specs.Values.{HasValueAt}
use Rattle.form_codec.specs.declared.value.Value.TheVariants.{LocalRef}
use Rattle.form_codec.specs.Forms.Meaning.{InUnit}
use Rattle.entry_arena.specs.declared.entry.ChainEnd.{ChainEnd}
use Rattle.entry_arena.specs.declared.entry.Target.TheVariants.{Entry as TheEntry, ChainEnd as TheEnd}
use Rattle.value_links.specs.Attributes.{offset_class}
use Rattle.value_links.specs.Attributes.OffsetClass.{LinePtr, RngList, LocList, RngListsPtr, LocListsPtr, AddrPtr, StrOffsetsPtr, MacPtr, Views, NoOffset}
use Rattle.value_links.specs.Reading.{UnitRead, Linkable}
use Rattle.value_links.specs.Linked.{Links}
use Rattle.value_links.specs.Linked.Linked.{Refers}
use Rattle.value_links.specs.Operations.{OpTarget, Names}
use Rattle.value_links.specs.Operations.OpTarget.{NoTarget, GenericType, AnEntry}
use Rattle.value_links.specs.LinkFaults.{IsTargetless}

-- the classes of attributes by their numbers; DW_AT_name has none
stmt_list_is : offset_class 0x10 ≡ LinePtr
stmt_list_is = refl

start_scope_is : offset_class 0x2c ≡ RngList
start_scope_is = refl

frame_base_is : offset_class 0x40 ≡ LocList
frame_base_is = refl

rnglists_base_is : offset_class 0x74 ≡ RngListsPtr
rnglists_base_is = refl

loclists_base_is : offset_class 0x8c ≡ LocListsPtr
loclists_base_is = refl

addr_base_is : offset_class 0x73 ≡ AddrPtr
addr_base_is = refl

str_offsets_base_is : offset_class 0x72 ≡ StrOffsetsPtr
str_offsets_base_is = refl

macros_is : offset_class 0x79 ≡ MacPtr
macros_is = refl

locviews_is : offset_class 0x2137 ≡ Views
locviews_is = refl

name_is : offset_class 0x03 ≡ NoOffset
name_is = refl

-- The unit `0f 00 00 00 05 00 01 08 00 00 00 00 01 02 12 00 00 00 00` at 19 after another one: a root whose child has one
-- reference by DW_FORM_ref4, to the code 0 that ends the children of the root.
unit : UnitRead
unit = record {
  head = record { at = 19; len = 19; kind = 1; table = 0; extra = 0; type_at = 0 };
  table = record { decls = []; specs = []; end = 0 };
  forest = record {
    section = [];
    entries = record { at = 31; len = 1; depth = 0; decl = 0; first = 0; count = 0 } ∷ record { at = 32; len = 5; depth = 1; decl = 1; first = 0; count = 1 } ∷ [];
    values = LocalRef 18 ∷ [];
    ends = record { entry = 0; at = 37 } ∷ [];
  };
}

abbrev linkable : Linkable
unfolding unit
linkable = record { programs = []; units = unit ∷ unit ∷ []; addresses = []; contexts = []; ranges = record { section = []; parts = [] }; locations = record { section = []; parts = [] } }

-- the end of a chain is a target, which counts from the first byte of the unit
chain_end_is : Links linkable 1 1 0x01 (InUnit 18) (Refers 1 (TheEnd 0))
unfolding unit
chain_end_is = (TheEnd 0, (0, omega arith, refl), refl)

-- and so is an entry
entry_is : Links linkable 1 1 0x49 (InUnit 13) (Refers 1 (TheEntry 1))
unfolding unit
entry_is = (TheEntry 1, (omega arith, refl), refl)

differ : (a b : ChainEnd) → a.at ≡ 37 → b.at ≡ 38 → a ≡ b → ⊥
differ a b x y same = let place : a.at ≡ b.at = ap (λ (e : ChainEnd). e.at) same in absurd (omega arith)

-- one byte further no entry and no code 0 stands: the next unit begins there
nothing_is : IsTargetless linkable 1 (InUnit 19)
unfolding unit
nothing_is (TheEntry zero, (inside, here)) = absurd (omega arith)
nothing_is (TheEntry (suc zero), (inside, here)) = absurd (omega arith)
nothing_is (TheEntry (suc (suc id)), (inside, here)) = absurd (omega arith)
nothing_is (TheEnd id, (zero, inside, here)) = absurd (differ (record { entry = 0; at = 37 }) (record { entry = id; at = 38 }) refl refl here)
nothing_is (TheEnd id, (suc k, inside, here)) = absurd (omega arith)

-- Operations in an expression of the unit: DW_OP_lit0 names nothing, DW_OP_convert with 0 the generic type, and DW_OP_call4 an entry,
-- by its place in the unit.
lit0_is : Names linkable 1 0x30 0 NoTarget
lit0_is = refl

convert_is : Names linkable 1 0xa8 0 GenericType
convert_is = inl (refl, refl)

call_is : Names linkable 1 0x99 13 (AnEntry 1 1)
unfolding unit
call_is = (1, (omega arith, refl), refl)

-- DW_OP_call_ref names an entry by its place in .debug_info
call_ref_is : Names linkable 0 0x9a 32 (AnEntry 1 1)
unfolding unit
call_ref_is = (1, 1, omega arith, (omega arith, refl), refl)

-- the code 0 that ends the children of the root is no entry
no_call : (target : OpTarget) → Names linkable 1 0x99 18 target → ⊥
unfolding unit
no_call to (zero, (inside, here), e) = absurd (omega arith)
no_call to (suc zero, (inside, here), e) = absurd (omega arith)
no_call to (suc (suc id), (inside, here), e) = absurd (omega arith)

-- The same unit at the section's first byte, with its bytes and its table, and 13 in place of 12 in its reference, which so has
-- no target. Its value stands at 14: the header has 12 bytes, and each code one.
faulty : UnitRead
faulty = record {
  head = record { at = 0; len = 19; kind = 1; table = 0; extra = 0; type_at = 0 };
  table = record {
    decls = record { at = 0; code = 1; tag = 17; children = true; first = 0; count = 0 } ∷ record { at = 5; code = 2; tag = 52; children = false; first = 0; count = 1 } ∷ [];
    specs = record { name = 1; form = 19; constant = pos 0 } ∷ [];
    end = 13;
  };
  forest = record {
    section = 15 ∷ 0 ∷ 0 ∷ 0 ∷ 5 ∷ 0 ∷ 1 ∷ 8 ∷ 0 ∷ 0 ∷ 0 ∷ 0 ∷ 1 ∷ 2 ∷ 19 ∷ 0 ∷ 0 ∷ 0 ∷ 0 ∷ [];
    entries = record { at = 12; len = 1; depth = 0; decl = 0; first = 0; count = 0 } ∷ record { at = 13; len = 5; depth = 1; decl = 1; first = 0; count = 1 } ∷ [];
    values = LocalRef 19 ∷ [];
    ends = record { entry = 0; at = 18 } ∷ [];
  };
}

code_2 : Uleb 2 (2 ∷ [])
code_2 = ((record { filled = omega arith; byte = small; more = λ k h. absurd (omega arith); last = last }, refl), omega arith)
  where
    small : (k : ℕ) → k < 1 → get_or (2 ∷ []) k 0 < 256
    small zero h = omega arith
    small (suc k) h = absurd (omega arith)

    last : (k : ℕ) → k + 1 ≡ 1 → get_or (2 ∷ []) k 0 < 128
    last zero h = omega arith
    last (suc k) h = absurd (omega arith)

reference_at : HasValueAt faulty 1 0 1 (InUnit 19) 14
unfolding faulty
reference_at = record {
  known = omega arith;
  earlier_columns = [];
  column = record { name = 1; form = 19; constant = pos 0 };
  later_columns = [];
  columns = refl;
  earlier = [];
  value = LocalRef 19;
  later = [];
  values = refl;
  numbered = refl;
  values_at = 14;
  coded = record { order = omega arith; inside = omega arith; spelled = code_2 };
  valued = refl;
  named = refl;
  meant = refl;
}

abbrev of_version_4 : List ℕ
of_version_4 = 8 ∷ 0 ∷ 0 ∷ 0 ∷ 4 ∷ 0 ∷ 1 ∷ 8 ∷ 0 ∷ 0 ∷ 0 ∷ 0 ∷ []

end_is : unit_end of_version_4 0 ≡ 12
unfolding number
end_is = refl

version_is : version of_version_4 0 ≡ 4
unfolding number
version_is = refl

-- a header of version 4 is UnitHead at its unit's first byte
version_4 : FaultHead of_version_4 0 AHead 0
version_4 = (refl, inr (let end : unit_end of_version_4 0 ≡ 12 = end_is in record { usual = omega arith; inside = omega arith }, λ (h : HasHead of_version_4 0). let five : version of_version_4 0 ≡ 5 = h.of_version in let four : version of_version_4 0 ≡ 4 = version_is in absurd (omega arith)))
