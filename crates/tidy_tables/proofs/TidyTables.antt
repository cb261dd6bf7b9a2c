-- What is least in a written file where nothing is amiss with its tables and declarations.
use Rattle.std.proofs.Common.{◌≡◌, ◌≢◌, ◌<◌, ◌∙◌, inl, inr, ℕ, zero, suc, List, [], ◌∷◌, length, map, sym, ap, refl, arith}
use Rattle.std.specs.Prelude.{ℤ, pos, false, slice_index}
use Rattle.std.proofs.lemmas.List.{get_or-map}
use Rattle.std.proofs.lemmas.List.Elements.{All-get_or}
use Rattle.dw_base.specs.declared.classes.Classes.{Classes}
use Rattle.dw_base.specs.declared.fault.Reach.{Reach}
use Rattle.spelled.specs.Spelled.{Joined}
use Rattle.abbrev_tables.specs.declared.decl.Spec.{Spec}
use Rattle.abbrev_tables.specs.Listings.{spec_at}
use Rattle.abbrev_tables.specs.Tables.{Declared, implicit_const, SpellsColumn, SpellsConstant, SpellsDeclared, codes_of}
use Rattle.entry_arena.specs.Trees.{declared_at}
use Rattle.entry_read.specs.Units.{HeadAndForest, declarations_of}
use Rattle.entry_read.proofs.Declarations.{count_same}
use Rattle.entry_read.proofs.OwnerLaws.{values_belong}
use Rattle.value_links.specs.declared.units.NamedTable.{NamedTable}
use Rattle.written_files.specs.Classes.{HaveCodes, HaveLeastCodes, HaveLeastColumns}
use Rattle.value_links.specs.Sections.{debug_info, debug_abbrev}
use Rattle.value_links.specs.Reading.{Reading, no_unit, unit_at, declarations, IsUnitRead}
use Rattle.value_links.specs.Values.{entry_of}
use Rattle.value_links.specs.World.{World, IsWorldOf, head_and_forest, named_by, table_at}
use Rattle.tidy_tables.specs.Rows.Row.{OfTable}
use Rattle.tidy_tables.specs.Untidy.{place_of}
use Rattle.tidy_tables.specs.inside.Compared.{OfBoth}
use Rattle.tidy_tables.specs.inside.UntidyDeclarations.{HaveShortColumns}
use Rattle.tidy_tables.proofs.DeclarationsOfWorlds.{uses_in, uses_are}
use Rattle.tidy_tables.proofs.LeastNumberings.{surely_least}
use Rattle.tidy_tables.proofs.TableNumbers.{same_number}
use Rattle.tidy_tables.proofs.UntidyRows.{HoldsNowhere}

-- A COLUMN'S CONSTANT

-- a column of another form than implicit_const has none
constant_none : (form : ℕ) (constant : ℤ) (bytes : List ℕ) → SpellsConstant form constant bytes → form ≢ implicit_const → constant ≡ pos 0
constant_none form constant bytes (inl (is, there)) other = absurd (other is)
constant_none form constant bytes (inr (isnt, none)) other = none.1

columns_without : (columns : List Spec) (bytes : List ℕ) (j : ℕ) → Joined SpellsColumn columns bytes → j < length columns → (spec_at columns j).form ≢ implicit_const → (spec_at columns j).constant ≡ pos 0
columns_without [] bytes j joined below other = absurd (omega arith)
columns_without (c ∷ columns) bytes zero (first, rest, here, joined, e) below other =
    let behind = here.parts.3 in
    constant_none c.form c.constant behind.1 behind.3 other
columns_without (c ∷ columns) bytes (suc j) (first, rest, here, joined, e) below other = columns_without columns rest j joined (omega arith) other

declared_without : (ds : List Declared) (bytes : List ℕ) (k j : ℕ) → Joined SpellsDeclared ds bytes → k < length ds → j < length (declared_at ds k).columns → (spec_at (declared_at ds k).columns j).form ≢ implicit_const → (spec_at (declared_at ds k).columns j).constant ≡ pos 0
declared_without [] bytes k j joined known below other = absurd (omega arith)
declared_without (d ∷ ds) bytes zero j (first, rest, here, joined, e) known below other = (let columns = here.parts.3.3.3 in columns_without d.columns columns.0 j columns.2 below other)
declared_without (d ∷ ds) bytes (suc k) j (first, rest, here, joined, e) known below other = declared_without ds rest k j joined (omega arith) below other

-- the code of a declaration
code_is : (ds : List Declared) (k : ℕ) → k < length ds → (declared_at ds k).code ≡ slice_index (codes_of ds) k
code_is ds k known = sym (get_or-map (λ (d : Declared). d.code) ds k (record { code = 0; tag = 0; children = false; columns = [] }) 0 known)

-- THE WRITTEN FILE

module _ (world : World) (after : (reach : Reach) × IsWorldOf world.image reach world) where
  abbrev s : Reading
  s = after.1.r

  abbrev units : List HeadAndForest
  units = map head_and_forest s.links.units

  unit_read : (u : ℕ) → u < length s.links.units → IsUnitRead (debug_info world.image) (debug_abbrev world.image) (unit_at s.links u)
  unit_read u inside = All-get_or (IsUnitRead (debug_info world.image) (debug_abbrev world.image)) s.links.units u no_unit inside after.1.read.links.units.each

  -- an entry has one of the declarations of its unit's table
  declared : (u id : ℕ) → u < length s.links.units → id < length (unit_at s.links u).forest.entries → (entry_of (unit_at s.links u) id).decl < length (declarations (unit_at s.links u))
  declared u id inside entry =
      let here = unit_read u inside in
      (values_belong (debug_info world.image) (unit_at s.links u).head (declarations (unit_at s.links u)) (unit_at s.links u).forest here.section here.entries).declared id entry

  -- each column is in a least form where none of a table isn't
  pub least_columns : (classes : Classes) → OfBoth world world (λ r s. HaveShortColumns classes s.links) → HaveLeastColumns classes world.image world.image
  least_columns classes short = (
    s,
    s,
    after.1.read,
    after.1.read,
    λ u id inside entry.
        let k : ℕ = (entry_of (unit_at s.links u) id).decl in
        let known : k < length (declarations (unit_at s.links u)) = declared u id inside entry in
        let size : length (declarations (unit_at s.links u)) ≡ length (unit_at s.links u).table.decls = count_same (unit_at s.links u).table in
        let own = short s s after.1.read after.1.holds after.1.read after.1.holds u inside k (omega arith) in
        let spelled = (unit_read u inside).table.table.spelled in
        record {
          count = refl;
          each = λ j below. record {
            name = refl;
            least = own j below;
            unused = declared_without (declarations (unit_at s.links u)) spelled.0 k j spelled.2 known below;
          };
        },
  )

  -- units that name one place have one table
  same_table : (u v : ℕ) → u < length s.links.units → v < length s.links.units → place_of s.links u ≡ place_of s.links v → named_by (unit_at s.links u) ≡ named_by (unit_at s.links v)
  same_table u v inside within same =
      let tables = after.1.holds.tables in
      sym (tables.each u inside) ∙ ap (table_at world.tables) (same_number s.links.units world.tables world.table_of tables u v inside within same) ∙ tables.each v within

  -- the codes of a table are those of the entries under it
  have_codes : (v : ℕ) → v < length s.links.units → HaveCodes s.links s.links (place_of s.links v) (codes_of (declarations (unit_at s.links v)))
  have_codes v within u id inside named entry =
      let table : declarations (unit_at s.links u) ≡ declarations (unit_at s.links v) = ap (λ (t : NamedTable). declarations_of t.table) (same_table u v inside within named) in
      code_is (declarations (unit_at s.links u)) (entry_of (unit_at s.links u) id).decl (declared u id inside entry)
      ∙ ap (λ (ds : List Declared). slice_index (codes_of ds) (entry_of (unit_at s.links u) id).decl) table

  -- and they are least where no table takes more bytes
  pub least_codes : (before : World) → (reach : Reach) × IsWorldOf before.image reach before → (classes : Classes) → HoldsNowhere classes before world OfTable → HaveLeastCodes world.image world.image
  least_codes before old classes table = (
    s,
    s,
    after.1.read,
    after.1.read,
    λ u inside. record {
      uses = uses_in units (named_by (unit_at s.links u));
      used = uses_are units (named_by (unit_at s.links u));
      numbers = codes_of (declarations (unit_at s.links u));
      codes = have_codes u inside;
      least = surely_least (uses_in units (named_by (unit_at s.links u))) (codes_of (declarations (unit_at s.links u)))
          (λ more.
          table old.1.r s old.1.read old.1.holds after.1.read after.1.holds (place_of s.links u)
          (inr (inr (inr (inr (inr (record {
            u = u;
            known = inside;
            place = refl;
            uses = uses_in units (named_by (unit_at s.links u));
            used = uses_are units (named_by (unit_at s.links u));
            more = more;
          })))))));
    },
  )
