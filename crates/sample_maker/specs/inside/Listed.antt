-- The entries of the lists that are written (DWARF 5 sections 7.7.3 and 7.25).
use Rattle.std.specs.Prelude.{◌+◌, ℕ, List, [], ◌∷◌}
use Rattle.list_model.specs.declared.entry.EntryKind.TheVariants.{OffsetPair, StartEnd}
use Rattle.list_model.specs.Entries.{Entry}
use Rattle.sample_maker.specs.declared.drawn.Parameter.{Parameter}
use Rattle.sample_maker.specs.inside.Bytes.{register_bytes, zero_bytes}

abbrev pub pair_of : ℕ → ℕ → Entry
pair_of a b = record { kind = OffsetPair; a = a; b = b }

-- the entries of a parameter's list with their expressions
abbrev pub located_entries : ℕ → ℕ → Parameter → List (Entry × List ℕ)
located_entries offset size p = (pair_of offset (offset + p.split), register_bytes p.register) ∷ (pair_of (offset + p.split) (offset + size), zero_bytes) ∷ []

abbrev pub range_of : ℕ → ℕ → Entry
range_of address size = record { kind = StartEnd; a = address; b = address + size }

-- the entries of a block's list
abbrev pub ranged_entries : ℕ → List ℕ → List Entry
ranged_entries address [] = []
ranged_entries address (size ∷ sizes) = range_of address size ∷ ranged_entries (address + 4) sizes
