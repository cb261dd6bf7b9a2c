-- The declarations of a file that is written anew for another: which entries share one, and that their columns stay least.
use Rattle.std.specs.Prelude.{◌≡◌, ◌<◌, ◌↔◌, ℕ, List, length, map}
use Rattle.form_codec.specs.Columns.{IsLeastForm}
use Rattle.abbrev_tables.specs.Listings.{spec_at}
use Rattle.value_links.specs.Reading.{Reading, unit_at}
use Rattle.value_links.specs.Values.{declaration_of}
use Rattle.value_links.specs.World.{head_and_forest}
use Rattle.written_files.specs.Uses.{column_meanings}
use Rattle.written_files.specs.inside.Counterparts.{AreAnew}
use Rattle.tidy_tables.specs.Untidy.{place_of, number_of}

-- two entries have one declaration in the written file exactly where they have one in the old file
abbrev pub SameDeclarations : Type 0
SameDeclarations =
    (file written : List ℕ) (r s : Reading) → AreAnew file written r s → (u id v other : ℕ) → u < length s.links.units → id < length (unit_at s.links u).forest.entries → v < length s.links.units → other < length (unit_at s.links v).forest.entries → ((place_of s.links v ≡ place_of s.links u) × (number_of s.links v other ≡ number_of s.links u id)) ↔ ((place_of r.links v ≡ place_of r.links u) × (number_of r.links v other ≡ number_of r.links u id))

-- each column of a declaration that an entry of the written file has is least for the values that it has there
abbrev pub ColumnsStayLeast : Type 0
ColumnsStayLeast =
    (file written : List ℕ) (r s : Reading) → (anew : AreAnew file written r s) → (u id j : ℕ) → u < length s.links.units → id < length (unit_at s.links u).forest.entries → j < length (declaration_of (unit_at s.links u) id).columns → IsLeastForm anew.classes (spec_at (declaration_of (unit_at s.links u) id).columns j).name (column_meanings (map head_and_forest s.links.units) (place_of s.links u) (number_of s.links u id) j) (spec_at (declaration_of (unit_at s.links u) id).columns j).form (spec_at (declaration_of (unit_at s.links u) id).columns j).constant
