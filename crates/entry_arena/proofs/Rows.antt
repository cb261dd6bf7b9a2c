-- What the entries of a unit say, where the table is `01 11 01 00 00, 02 34 00 49 13 1c 0a 00 00, 03 24 00 00 00, 00` and
-- .debug_info has the unit `80 00 00 00 05 00 01 08 00 00 00 00, 01, 02 82 00 00 00 6f .., 03, 00` with 111 bytes in the
-- block: a compile unit (tag 0x11) with a variable (0x34) that has a type (0x49) and a constant (0x1c), and a base type (0x24).
use Rattle.std.proofs.Common.{◌≡◌, ℕ, List, [], ◌∷◌, true, false, refl}
use Rattle.std.specs.Prelude.{pos}
use Rattle.form_codec.specs.declared.value.Value.TheVariants as value
use Rattle.form_codec.specs.Forms.Meaning.{InUnit, Data}
use Rattle.form_codec.specs.Values.{bytes_in}
use Rattle.abbrev_tables.specs.Tables.{Declared}
use Rattle.entry_arena.specs.Trees.{Listed}
use Rattle.entry_arena.specs.Forests.{forest_of}

abbrev declarations : List Declared
declarations =
    record { code = 1; tag = 17; children = true; columns = [] }
    ∷ record { code = 2; tag = 52; children = false; columns = record { name = 73; form = 19; constant = pos 0 } ∷ record { name = 28; form = 10; constant = pos 0 } ∷ [] }
    ∷ record { code = 3; tag = 36; children = false; columns = [] }
    ∷ []

abbrev listed : Listed
listed = record {
  entries =
      record { at = 12; len = 1; depth = 0; decl = 0; first = 0; count = 0 }
      ∷ record { at = 13; len = 117; depth = 1; decl = 1; first = 0; count = 2 }
      ∷ record { at = 130; len = 1; depth = 1; decl = 2; first = 2; count = 0 }
      ∷ [];
  values = value.LocalRef 130 ∷ value.Block (record { at = 19; len = 111 }) ∷ [];
  ends = record { entry = 0; at = 131 } ∷ [];
  place = 132;
}

entries_say : (section : List ℕ) → forest_of section declarations listed ≡ (record { depth = 0; tag = 17; children = true; attributes = [] } ∷ record { depth = 1; tag = 52; children = false; attributes = (73, InUnit 130) ∷ (28, Data (bytes_in section (record { at = 19; len = 111 }))) ∷ [] } ∷ record { depth = 1; tag = 36; children = false; attributes = [] } ∷ [])
entries_say section = refl
