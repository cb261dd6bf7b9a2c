-- A file is read in one way.
use Rattle.std.proofs.Common.{◌≡◌, ◌≤◌, ◌<◌, ◌+◌, ◌∙◌, inl, ℕ, List, [], ◌∷◌, length, get_or, sym, ap, subst, refl, arith}
use Rattle.std.specs.Prelude.{Option, Some, None}
use Rattle.std.specs.List.{All, AllZip}
use Rattle.std.proofs.lemmas.List.{get_or-map, length-map}
use Rattle.std.proofs.lemmas.List.Elements.{All-head, All-tail}
use Rattle.line_machine.specs.declared.head.Head.{Head}
use Rattle.line_machine.specs.declared.registers.Row.{Row}
use Rattle.line_machine.specs.Heads.{IsHead as IsLineHead, program_of}
use Rattle.line_machine.specs.Rows.{GivesRows}
use Rattle.line_machine.proofs.Programs.{based_of, one_reading as one_program}
use Rattle.line_write.specs.Programs.{Follow as ProgramsFollow}
use Rattle.line_write.proofs.Tiling.{head_is as line_head_is}
use Rattle.abbrev_tables.specs.Tables.{Declared}
use Rattle.abbrev_tables.specs.Listings.{Listing, IsTableAt}
use Rattle.entry_arena.specs.Arena.{Arena}
use Rattle.entry_arena.specs.Trees.{Listed, listed_to}
use Rattle.entry_arena.specs.ForestLaws.{HaveCodes}
use Rattle.entry_arena.proofs.WalkLaws.{table_codes}
use Rattle.entry_read.specs.declared.head.UnitHead.{UnitHead}
use Rattle.entry_read.specs.Heads.{Follow as UnitsFollow}
use Rattle.entry_read.specs.Units.{declarations_of, IsUnitHeld}
use Rattle.entry_read.proofs.Tiling.{one_head, end_apart}
use Rattle.entry_read.proofs.Whole.{one_unit}
use Rattle.form_codec.specs.Forms.{Meaning}
use Rattle.list_model.specs.declared.context.Context.{Context}
use Rattle.list_model.specs.declared.tables.AddrTable.{AddrTable}
use Rattle.list_model.specs.Addresses.{HasBase}
use Rattle.list_model.specs.declared.entry.ListKind.{ListKind}
use Rattle.list_model.specs.declared.entry.ListKind.TheVariants.{Ranges, Locations}
use Rattle.list_model.proofs.Walking.{one_table}
use Rattle.companions.specs.declared.set.ArangeSet.{ArangeSet}
use Rattle.companions.specs.Aranges.{AreRising, SetsTile}
use Rattle.companions.proofs.Tiling.{one_tile as one_set_tile}
use Rattle.value_links.specs.Sections.{debug_info, debug_abbrev, debug_line, debug_aranges, debug_lists}
use Rattle.value_links.specs.Attributes.{addr_base}
use Rattle.value_links.specs.Reading.{ProgramRead, UnitRead, ListSection, ListRead, ViewRead, Linkable, lists_of, line_heads, unit_heads, unit_starts, no_unit, HasRows, declarations, IsUnitRead}
use Rattle.value_links.specs.Values.{root_of}
use Rattle.value_links.specs.Contexts.{low_pcs, first_base, IsTableOf, IsContext}
use Rattle.value_links.specs.Lists.{AreListsOf, AreViewsRead}
use Rattle.value_links.specs.Whole.{AreContexts}
use Rattle.value_links.specs.Laws.{OneLinkable, OneReading}
use Rattle.abbrev_tables.proofs.ListingOnce.{listing_once}
use Rattle.entry_read.proofs.Chained.{stand_apart, has_bytes}
use Rattle.value_links.proofs.Tiles.{units_chained}
use Rattle.value_links.proofs.Bases.{one_base}
use Rattle.value_links.proofs.ListsOnce.{section_once, lists_once}
use Rattle.value_links.proofs.ViewsOnce.{views_once}

-- LISTS

-- lists that stand beside the same items are one
pub zip_once : {A B : Type 0} (R : A → B → Type 0) → ((a : A) (x y : B) → R a x → R a y → x ≡ y) → (items : List A) (xs ys : List B) → AllZip R items xs → AllZip R items ys → xs ≡ ys
zip_once R one [] [] [] p q = refl
zip_once R one [] [] (y ∷ ys) p q = absurd q
zip_once R one [] (x ∷ xs) ys p q = absurd p
zip_once R one (a ∷ items) [] ys p q = absurd p
zip_once R one (a ∷ items) (x ∷ xs) [] p q = absurd q
zip_once R one (a ∷ items) (x ∷ xs) (y ∷ ys) (p, ps) (q, qs) = ap (λ z. z ∷ xs) (one a x y p q) ∙ ap (λ z. y ∷ z) (zip_once R one items xs ys ps qs)

-- LINE NUMBER PROGRAMS

-- no program begins at the section's end
line_end_apart : (section : List ℕ) (head : Head) (at : ℕ) → IsLineHead section head → head.at ≡ at → at ≡ length section → ⊥
line_end_apart section head at h here end = h.rules.here (inl (let same : head.at ≡ length section = here ∙ end in omega arith))

program_same : (section : List ℕ) (p q : ProgramRead) (at : ℕ) → IsLineHead section p.head → IsLineHead section q.head → p.head.at ≡ at → q.head.at ≡ at → HasRows section p → HasRows section q → p ≡ q
program_same section p q at p_is q_is p_at q_at p_rows q_rows =
    let head : p.head ≡ q.head = line_head_is section p.head at p_is p_at ∙ sym (line_head_is section q.head at q_is q_at) in
    let moved : GivesRows q.head (program_of section q.head) p.rows = subst (λ (z : Head). GivesRows z (program_of section z) p.rows) head p_rows in
    let rows : p.rows ≡ q.rows = one_program q.head (program_of section q.head) p.rows q.rows (based_of section q.head q_is) moved q_rows in
    ap (λ (z : Head). record { head = z; rows = p.rows }) head ∙ ap (λ (z : List Row). record { head = q.head; rows = z }) rows

pub programs_once : (section : List ℕ) (ps qs : List ProgramRead) (a : ℕ) → ProgramsFollow section (line_heads ps) a (length section) → ProgramsFollow section (line_heads qs) a (length section) → All (HasRows section) ps → All (HasRows section) qs → ps ≡ qs
programs_once section [] [] a f g p_rows q_rows = refl
programs_once section [] (q ∷ qs) a f (here, stands, rest) p_rows q_rows = absurd (line_end_apart section q.head a stands here f)
programs_once section (p ∷ ps) [] a (here, stands, rest) g p_rows q_rows = absurd (line_end_apart section p.head a stands here g)
programs_once section (p ∷ ps) (q ∷ qs) a (p_at, p_is, f) (q_at, q_is, g) p_rows q_rows =
    let one : p ≡ q = program_same section p q a p_is q_is p_at q_at (All-head (HasRows section) p ps p_rows) (All-head (HasRows section) q qs q_rows) in
    let moved : ProgramsFollow section (line_heads ps) (a + q.head.len) (length section) = subst (λ (z : ProgramRead). ProgramsFollow section (line_heads ps) (a + z.head.len) (length section)) one f in
    ap (λ z. z ∷ ps) one ∙ ap (λ z. q ∷ z) (programs_once section ps qs (a + q.head.len) moved g (All-tail (HasRows section) p ps p_rows) (All-tail (HasRows section) q qs q_rows))

-- UNITS

forest_once : (info : List ℕ) (head : UnitHead) (ds : List Declared) (f g : Arena) → HaveCodes ds → f.section ≡ info → g.section ≡ info → IsUnitHeld info head ds f → IsUnitHeld info head ds g → f ≡ g
forest_once info head ds f g codes f_in g_in (f_end, f_is) (g_end, g_is) =
    let listed : listed_to f f_end ≡ listed_to g g_end = one_unit info head ds (listed_to f f_end) (listed_to g g_end) codes f_is g_is in
    ap (λ (z : List ℕ). record { section = z; entries = f.entries; values = f.values; ends = f.ends }) (f_in ∙ sym g_in)
    ∙ ap (λ (z : Listed). record { section = g.section; entries = z.entries; values = z.values; ends = z.ends }) listed

pub unit_same : (info abbrevs : List ℕ) (u v : UnitRead) → u.head ≡ v.head → IsUnitRead info abbrevs u → IsUnitRead info abbrevs v → u ≡ v
unit_same info abbrevs u v head p q =
    let place : u.head.table ≡ v.head.table = ap (λ h. h.table) head in
    let table : u.table ≡ v.table = listing_once abbrevs v.head.table u.table v.table (subst (λ (z : ℕ). IsTableAt abbrevs z u.table) place p.table) q.table in
    let held : IsUnitHeld info v.head (declarations v) u.forest = subst (λ (z : UnitHead). IsUnitHeld info z (declarations v) u.forest) head (subst (λ (z : Listing). IsUnitHeld info u.head (declarations_of z) u.forest) table p.entries) in
    let forest : u.forest ≡ v.forest = forest_once info v.head (declarations v) u.forest v.forest (table_codes (declarations v) _ q.table.table) p.section q.section held q.entries in
    ap (λ (z : UnitHead). record { head = z; table = u.table; forest = u.forest }) head
    ∙ ap (λ (z : Listing). record { head = v.head; table = z; forest = u.forest }) table
    ∙ ap (λ (z : Arena). record { head = v.head; table = v.table; forest = z }) forest

pub units_once : (info abbrevs : List ℕ) (us vs : List UnitRead) (a : ℕ) → UnitsFollow info (unit_heads us) a (length info) → UnitsFollow info (unit_heads vs) a (length info) → All (IsUnitRead info abbrevs) us → All (IsUnitRead info abbrevs) vs → us ≡ vs
units_once info abbrevs [] [] a f g p q = refl
units_once info abbrevs [] (v ∷ vs) a f (here, stands, rest) p q = absurd (end_apart info v.head a stands here f)
units_once info abbrevs (u ∷ us) [] a (here, stands, rest) g p q = absurd (end_apart info u.head a stands here g)
units_once info abbrevs (u ∷ us) (v ∷ vs) a (u_at, u_is, f) (v_at, v_is, g) p q =
    let head : u.head ≡ v.head = one_head info u.head v.head a u_is v_is u_at v_at in
    let one : u ≡ v = unit_same info abbrevs u v head (All-head (IsUnitRead info abbrevs) u us p) (All-head (IsUnitRead info abbrevs) v vs q) in
    let moved : UnitsFollow info (unit_heads us) (a + v.head.len) (length info) = subst (λ (z : UnitHead). UnitsFollow info (unit_heads us) (a + z.len) (length info)) head f in
    ap (λ z. z ∷ us) one ∙ ap (λ z. v ∷ z) (units_once info abbrevs us vs (a + v.head.len) moved g (All-tail (IsUnitRead info abbrevs) u us p) (All-tail (IsUnitRead info abbrevs) v vs q))

-- the places of units rise
pub starts_rise : (info : List ℕ) (units : List UnitRead) → UnitsFollow info (unit_heads units) 0 (length info) → AreRising (unit_starts units)
starts_rise info units f i j less inside =
    let at : UnitRead → ℕ = λ u. u.head.at in
    let len : UnitRead → ℕ = λ u. u.head.len in
    let size : length (unit_starts units) ≡ length units = length-map units at in
    let chained = units_chained info units 0 (length info) f in
    let i_in : i < length units = omega arith in
    let j_in : j < length units = omega arith in
    let apart : at (get_or units i no_unit) + len (get_or units i no_unit) ≤ at (get_or units j no_unit) = stand_apart at len units 0 (length info) i j no_unit chained less j_in in
    let some : 0 < len (get_or units i no_unit) = has_bytes at len units 0 (length info) i no_unit chained i_in in
    let first : get_or (unit_starts units) i 0 ≡ at (get_or units i no_unit) = get_or-map at units i no_unit 0 i_in in
    let second : get_or (unit_starts units) j 0 ≡ at (get_or units j no_unit) = get_or-map at units j no_unit 0 j_in in
    omega arith

-- CONTEXTS

module _ (addr : List ℕ) (attributes : List (ℕ × Meaning)) where
  table_once : (x y : Option AddrTable) → IsTableOf addr attributes x → IsTableOf addr attributes y → x ≡ y
  table_once (Some t) (Some o) (base, first, has) (other, second, stands) =
      let same : other ≡ base = one_base attributes addr_base other base second first in
      ap (λ (z : AddrTable). Some z) (one_table addr base t o has (subst (λ (z : ℕ). HasBase addr z o) same stands))
  table_once (Some t) None named none = absurd (none t named)
  table_once None (Some o) none named = absurd (none o named)
  table_once None None none other = refl

  context_once : (c d : Context) → IsContext addr attributes c → IsContext addr attributes d → c ≡ d
  context_once c d p q =
      let table : c.table ≡ d.table = table_once c.table d.table p.table q.table in
      let base : c.base ≡ d.base = p.base ∙ ap (λ (z : Option AddrTable). first_base addr z (low_pcs attributes)) table ∙ sym q.base in
      ap (λ (z : ℕ). record { base = z; table = c.table }) base ∙ ap (λ (z : Option AddrTable). record { base = d.base; table = z }) table

contexts_once : (addr : List ℕ) (units : List UnitRead) (cs ds : List Context) → AreContexts addr units cs → AreContexts addr units ds → cs ≡ ds
contexts_once addr units cs ds p q = zip_once (λ (unit : UnitRead) (context : Context). IsContext addr (root_of unit).attributes context) (λ unit. context_once addr (root_of unit).attributes) units cs ds p q

-- ALL OF THEM

pub linkable_once : OneLinkable
linkable_once file r s p q =
    let programs : r.programs ≡ s.programs = programs_once (debug_line file) r.programs s.programs 0 p.programs.tiled q.programs.tiled p.programs.given q.programs.given in
    let units : r.units ≡ s.units = units_once (debug_info file) (debug_abbrev file) r.units s.units 0 p.units.tiled q.units.tiled p.units.each q.units.each in
    let addresses : r.addresses ≡ s.addresses = p.addresses ∙ sym q.addresses in
    let by_units : AreContexts r.addresses s.units r.contexts = subst (λ (z : List UnitRead). AreContexts r.addresses z r.contexts) units p.contexts in
    let by_addresses : AreContexts s.addresses s.units r.contexts = subst (λ (z : List ℕ). AreContexts z s.units r.contexts) addresses by_units in
    let contexts : r.contexts ≡ s.contexts = contexts_once s.addresses s.units r.contexts s.contexts by_addresses q.contexts in
    let ranges : r.ranges ≡ s.ranges = section_once (debug_lists file Ranges) r.ranges s.ranges (p.lists Ranges) (q.lists Ranges) in
    let locations : r.locations ≡ s.locations = section_once (debug_lists file Locations) r.locations s.locations (p.lists Locations) (q.lists Locations) in
    ap (λ (z : List ProgramRead). record { programs = z; units = r.units; addresses = r.addresses; contexts = r.contexts; ranges = r.ranges; locations = r.locations }) programs
    ∙ ap (λ (z : List UnitRead). record { programs = s.programs; units = z; addresses = r.addresses; contexts = r.contexts; ranges = r.ranges; locations = r.locations }) units
    ∙ ap (λ (z : List ℕ). record { programs = s.programs; units = s.units; addresses = z; contexts = r.contexts; ranges = r.ranges; locations = r.locations }) addresses
    ∙ ap (λ (z : List Context). record { programs = s.programs; units = s.units; addresses = s.addresses; contexts = z; ranges = r.ranges; locations = r.locations }) contexts
    ∙ ap (λ (z : ListSection). record { programs = s.programs; units = s.units; addresses = s.addresses; contexts = s.contexts; ranges = z; locations = r.locations }) ranges
    ∙ ap (λ (z : ListSection). record { programs = s.programs; units = s.units; addresses = s.addresses; contexts = s.contexts; ranges = s.ranges; locations = z }) locations

pub reading_once : OneReading
reading_once file r s p q =
    let links : r.links ≡ s.links = linkable_once file r.links s.links p.links q.links in
    let lists : (kind : ListKind) → lists_of r kind ≡ lists_of s kind = λ (kind : ListKind). lists_once file s.links q.links kind (lists_of r kind) (lists_of s kind) (subst (λ (z : Linkable). AreListsOf z kind (lists_of r kind)) links (p.lists kind)) (q.lists kind) in
    let ranges : r.range_lists ≡ s.range_lists = lists Ranges in
    let locations : r.location_lists ≡ s.location_lists = lists Locations in
    let seen : AreViewsRead s.links s.location_lists r.views = subst (λ (z : List ListRead). AreViewsRead s.links z r.views) locations (subst (λ (z : Linkable). AreViewsRead z r.location_lists r.views) links p.views) in
    let views : r.views ≡ s.views = views_once s.links s.location_lists (q.lists Locations).rising r.views s.views seen q.views in
    let rising : AreRising (unit_starts s.links.units) = starts_rise (debug_info file) s.links.units q.links.units.tiled in
    let moved : SetsTile (debug_aranges file) (unit_starts s.links.units) r.sets = subst (λ (z : Linkable). SetsTile (debug_aranges file) (unit_starts z.units) r.sets) links p.sets in
    let sets : r.sets ≡ s.sets = one_set_tile (debug_aranges file) (unit_starts s.links.units) r.sets s.sets 0 rising moved q.sets in
    ap (λ (z : Linkable). record { links = z; range_lists = r.range_lists; location_lists = r.location_lists; views = r.views; sets = r.sets }) links
    ∙ ap (λ (z : List ListRead). record { links = s.links; range_lists = z; location_lists = r.location_lists; views = r.views; sets = r.sets }) ranges
    ∙ ap (λ (z : List ListRead). record { links = s.links; range_lists = s.range_lists; location_lists = z; views = r.views; sets = r.sets }) locations
    ∙ ap (λ (z : List ViewRead). record { links = s.links; range_lists = s.range_lists; location_lists = s.location_lists; views = z; sets = r.sets }) views
    ∙ ap (λ (z : List ArangeSet). record { links = s.links; range_lists = s.range_lists; location_lists = s.location_lists; views = s.views; sets = z }) sets
