-- What is held of a file whose passes find nothing is the file's world, and what a pass refuses is a fault of the file.
use Rattle.std.proofs.Common.{◌≡◌, ◌≤◌, ◌<◌, ◌+◌, ◌-◌, ◌^◌, ◌∙◌, inl, inr, ℕ, List, [], ◌∷◌, length, drop, Bool, true, false, sym, ap, subst, refl, arith}
use Rattle.std.specs.Prelude.{map, Option, Some, None, nat_lt, ◌&&◌}
use Rattle.std.specs.List.{All, AllZip, sum_by}
use Rattle.std.proofs.lemmas.Bool.{ltb-false, true≢false}
use Rattle.std.proofs.lemmas.List.{length-map, length-take}
use Rattle.std.proofs.lemmas.List.Elements.{All-nil, All-cons, All-head, All-tail}
use Rattle.std.proofs.lemmas.List.Sums.{sum_by-cons}
use Rattle.dw_base.specs.declared.fault.Fault.{Fault}
use Rattle.dw_base.specs.declared.fault.Kind.{Kind}
use Rattle.dw_base.specs.declared.fault.Kind.TheVariants.{Companion}
use Rattle.dw_base.specs.declared.fault.Reach.{Reach}
use Rattle.dw_base.specs.declared.fault.Reach.TheVariants.{Narrow, Wide}
use Rattle.dw_base.specs.declared.fault.Refusal.{Refusal}
use Rattle.dw_base.specs.declared.fault.Refusal.TheVariants.{Refused, NoMemory}
use Rattle.dw_base.specs.Refusals.{IsFaultOf, IsRefusedFor}
use Rattle.elf_sections.specs.Elf.{section_count, body_span, body_of}
use Rattle.elf_sections.specs.Sections.{IsFirstNamed}
use Rattle.elf_sections.specs.Names.{name_of, is_debug_name}
use Rattle.elf_sections.specs.Faults.{IsRead, NameFault, NamesFirstFault, debug_limit, is_too_long}
use Rattle.line_machine.specs.declared.head.Head.{Head}
use Rattle.line_machine.specs.declared.registers.Row.{Row}
use Rattle.line_machine.specs.Rows.{GivesRows}
use Rattle.line_machine.specs.Heads.{program_of}
use Rattle.line_machine.specs.Faults.{row_limit}
use Rattle.line_write.specs.Faults.{LinesFault}
use Rattle.line_write.specs.Programs.{Tile}
use Rattle.line_write.specs.Readings.{AreRead}
use Rattle.entry_read.specs.Units.{HeadAndForest}
use Rattle.entry_read.specs.Expressions.{FaultExpressions}
use Rattle.entry_read.proofs.Chained.{Chained}
use Rattle.list_model.specs.declared.context.Context.{Context}
use Rattle.list_model.specs.declared.tables.AddrTable.{AddrTable}
use Rattle.list_model.specs.declared.entry.ListKind.{ListKind}
use Rattle.list_model.specs.declared.entry.ListKind.TheVariants.{Ranges, Locations}
use Rattle.list_model.specs.Addresses.{AreAllTables}
use Rattle.list_model.specs.Faults.{FaultContributions}
use Rattle.list_model.specs.Faults.{FaultTables as FaultTablesOf}
use Rattle.loc_lists.specs.Views.{view_limit}
use Rattle.companions.specs.declared.set.ArangeSet.{ArangeSet}
use Rattle.companions.specs.Aranges.{AreRising, SetsTile}
use Rattle.companions.specs.Faults.{FaultSets}
use Rattle.list_arena.specs.Held.{HeldList, HeldViews}
use Rattle.value_links.specs.declared.list_places.Contributions.{Contributions}
use Rattle.value_links.specs.declared.parts.Parts.{Parts}
use Rattle.value_links.specs.declared.units.Units.{Units}
use Rattle.value_links.specs.Sections.{section_named, body_or_none, body_named, offset_named, debug_info, debug_abbrev, debug_line, debug_aranges, debug_addr, debug_lists, info_name, abbrev_name, line_name, aranges_name, addr_name, loclists_name, lists_name}
use Rattle.value_links.specs.Reading.{ProgramRead, UnitRead, ListSection, ListRead, ViewRead, Linkable, Reading, of_kind, lists_of, line_heads, HasRows, AreProgramsIn, unit_at, unit_heads, unit_starts}
use Rattle.value_links.specs.ListPlaces.{base_of}
use Rattle.value_links.specs.Whole.{ArePartsOf, IsReadToLinks, HasAddrBase, AreAddressesRead, AreFirstBases, IsReading}
use Rattle.value_links.specs.Lists.{AreListsOf, AreViewsRead, pair_total, AreTold, AreWithinReach}
use Rattle.value_links.specs.Operations.{IsSomeExpression}
use Rattle.value_links.specs.LinkFaults.{FaultExprOf}
use Rattle.value_links.specs.ListFaults.{FaultOfKind, FaultOfViews}
use Rattle.value_links.specs.Debug.{Debug, MeansDebug}
use Rattle.value_links.specs.Faults.{FaultOfNames, FaultOfUnits, NamesFault}
use Rattle.value_links.specs.Laws.{HaveFewRows, AreLinked, IsImageInOrder, AreProgramsInOrder, AreUnitsInOrder, AreLinksInOrder}
use Rattle.value_links.specs.Parts.{HoldUnits, AreUnitsHeld, section_held, HaveBases, lists_in, bases_in, HoldsParts, LinkFault, IsUnitsFault}
use Rattle.value_links.specs.inside.Checks.{AreContextsHeld, IsSomeExpressionFault}
use Rattle.value_links.specs.inside.Passes.{starts_of, ArePartsRead, ArePartsInOrder, HoldAllLists, NamesLaterFault}
use Rattle.value_links.specs.inside.ListPlaces.{AreContributions, AreBasesHeld}
use Rattle.value_links.specs.inside.World.{IsHeldIn}
use Rattle.value_links.specs.World.{World, head_and_forest, contributions_held, lists_held, HaveOperations, HoldLists, HoldViews, IsWorldOf}
use Rattle.value_links.proofs.SectionLaws.{sections_are_found}
use Rattle.value_links.proofs.Tiles.{programs_chained}
use Rattle.value_links.proofs.ReadingOnce.{starts_rise}
use Rattle.value_links.proofs.ValidLinks.{heads_begin}
use Rattle.value_links.proofs.Validity.{first_faults, valid_meaning}
use Rattle.value_links.proofs.HeldUnits.{few_units, held_count, held_is}
use Rattle.value_links.proofs.ExprLinks.{expressions_within}
use Rattle.value_links.proofs.Meaningful.{linked_means}
use Rattle.value_links.proofs.ContextLaws.{contexts_read}
use Rattle.value_links.proofs.HeldLists.{bases_read, lists_told}

-- THE KINDS OF LISTS

-- what holds of both kinds holds of each
each_kind : (Holds : ListKind → Type 0) → Holds Ranges → Holds Locations → (kind : ListKind) → Holds kind
each_kind Holds ranges locations Ranges = ranges
each_kind Holds ranges locations Locations = locations

-- SECTIONS BY THEIR NAMES

-- a section that was looked up by a name, which is written out
pub bytes_are : (file name wanted bytes : List ℕ) → name ≡ wanted → bytes ≡ body_named file name → bytes ≡ body_named file wanted
bytes_are file name wanted bytes same e = e ∙ ap (body_named file) same

pub origin_is : (file name wanted : List ℕ) (origin : ℕ) → name ≡ wanted → origin ≡ offset_named file name → origin ≡ offset_named file wanted
origin_is file name wanted origin same e = e ∙ ap (offset_named file) same

-- IMAGES

name_fault : (file : List ℕ) (kind : Kind) (place : ℕ) → NameFault file kind place → FaultOfNames file kind place
name_fault file Companion place f = f
name_fault file kind place f = absurd f

pub image_refused : (file : List ℕ) (reach : Reach) (refusal : Refusal) → NamesFirstFault file reach refusal → NamesFault file reach refusal
image_refused file reach (Refused fault) f = elim f [
  | inl elf ↦ first_faults.file file reach fault.kind fault.place elf
  | inr names ↦ first_faults.names file reach fault.kind fault.place names.0 (name_fault file fault.kind fault.place names.1)
]
image_refused file reach NoMemory f = tt

-- PROGRAMS

abbrev Gives : List ℕ → Head → List Row → Type 0
Gives section head rows = GivesRows head (program_of section head) rows

abbrev AreFew : List Row → Type 0
AreFew rows = length rows ≤ row_limit

abbrev row_count : ProgramRead → ℕ
row_count p = length p.rows

-- heads with the rows that their programs give are what is read of programs
record Zipped (section : List ℕ) (heads : List Head) (rows : List (List Row)) : Type 0 where
  programs : List ProgramRead
  held : heads ≡ line_heads programs
  given : All (HasRows section) programs
  each : All (λ (p : ProgramRead). length p.rows ≤ row_limit) programs
  all : sum_by row_count programs ≡ sum_by (λ (rows : List Row). length rows) rows

zipped : (section : List ℕ) (heads : List Head) (rows : List (List Row)) → AllZip (Gives section) heads rows → All AreFew rows → Zipped section heads rows
zipped section [] [] z few = record { programs = []; held = refl; given = All-nil (HasRows section); each = All-nil (λ (p : ProgramRead). length p.rows ≤ row_limit); all = refl }
zipped section [] (r ∷ rows) z few = absurd z
zipped section (head ∷ heads) [] z few = absurd z
zipped section (head ∷ heads) (r ∷ rows) z few =
    let next = zipped section heads rows z.1 (All-tail AreFew r rows few) in
    let p : ProgramRead = record { head = head; rows = r } in
    let size : (List Row → ℕ) = λ (rows : List Row). length rows in
    record {
      programs = p ∷ next.programs;
      held = ap (λ (z : List Head). head ∷ z) next.held;
      given = All-cons (HasRows section) p next.programs z.0 next.given;
      each = All-cons (λ (p : ProgramRead). length p.rows ≤ row_limit) p next.programs (All-head AreFew r rows few) next.each;
      all = sum_by-cons row_count p next.programs ∙ ap (λ (n : ℕ). length r + n) next.all ∙ sym (sum_by-cons size r rows);
    }

record ReadPrograms (section : List ℕ) (heads : List Head) : Type 0 where
  programs : List ProgramRead
  held : heads ≡ line_heads programs
  read : AreProgramsIn section programs
  few : HaveFewRows programs

programs_read : (section : List ℕ) (heads : List Head) → AreRead section heads → ReadPrograms section heads
programs_read section heads read =
    let z = zipped section heads read.rows read.given read.each in
    record {
      programs = z.programs;
      held = z.held;
      read = record { tiled = subst (Tile section) z.held read.tiled; given = z.given };
      few = record { each = z.each; all = subst (λ (n : ℕ). n ≤ 2 ^ 25) (sym z.all) read.all };
    }

pub programs_refused : (file : List ℕ) (refusal : Refusal) → IsRefusedFor (IsFaultOf (LinesFault (debug_line file)) (offset_named file line_name)) refusal → (reach : Reach) → NamesLaterFault file reach refusal
programs_refused file (Refused fault) f reach order = first_faults.programs file reach fault.kind fault.place order f
programs_refused file NoMemory f reach order = tt

-- HOW MANY PROGRAMS THERE ARE

counted : {X : Type 0} (at len : X → ℕ) (xs : List X) (a e : ℕ) → Chained at len xs a e → a + length xs ≤ e
counted at len [] a e same = let here : a ≡ e = same in omega arith
counted at len (x ∷ xs) a e (first, filled, rest) = let behind : a + len x + length xs ≤ e = counted at len xs (a + len x) e rest in omega arith

limit_fits : (reach : Reach) → debug_limit reach < 2 ^ 32
limit_fits Narrow = omega arith
limit_fits Wide = omega arith

-- a debug section is no longer than its limit
within_limit : (named : Bool) (limit len : ℕ) → named ≡ true → (named && nat_lt limit len) ≡ false → len ≤ limit
within_limit true limit len e f = ltb-false limit len f
within_limit false limit len e f = absurd (true≢false (sym e))

-- no debug section is longer than its limit
abbrev HaveShortBodies : List ℕ → Reach → Type 0
HaveShortBodies file reach = (i : ℕ) → i < section_count file → is_too_long file reach i ≡ false

short_body : (file : List ℕ) (reach : Reach) (o : Option ℕ) → section_named file line_name ≡ o → HaveShortBodies file reach → length (body_or_none file o) < 2 ^ 32
short_body file reach None e read = omega arith
short_body file reach (Some i) e read =
    let first : IsFirstNamed file line_name i = (sections_are_found.found file line_name i).0 e in
    let short : is_too_long file reach i ≡ false = read i first.inside in
    let debug : is_debug_name (name_of file i) ≡ true = ap is_debug_name first.named in
    let within : (body_span file i).len ≤ debug_limit reach = within_limit (is_debug_name (name_of file i)) (debug_limit reach) (body_span file i).len debug short in
    let fits = limit_fits reach in
    let size : length (body_of file i) ≤ (body_span file i).at + (body_span file i).len - (body_span file i).at = omega (arith, length-take ((body_span file i).at + (body_span file i).len - (body_span file i).at) (drop (body_span file i).at file)) in
    omega arith

few_programs : (file : List ℕ) (reach : Reach) (programs : List ProgramRead) → HaveShortBodies file reach → AreProgramsIn (debug_line file) programs → length programs < 2 ^ 32
few_programs file reach programs read are =
    let chained = programs_chained (debug_line file) programs 0 (length (debug_line file)) are.tiled in
    let count : 0 + length programs ≤ length (debug_line file) = counted (λ (p : ProgramRead). p.head.at) (λ (p : ProgramRead). p.head.len) programs 0 (length (debug_line file)) chained in
    let short : length (debug_line file) < 2 ^ 32 = short_body file reach (section_named file line_name) refl read in
    omega arith

-- WHAT VALUES REFER TO

-- of programs alone
programs_in_order : (file : List ℕ) (reach : Reach) → IsImageInOrder file reach → (heads : List Head) → AreRead (debug_line file) heads → (r : Linkable) × AreProgramsInOrder file reach r
programs_in_order file reach order heads read =
    let p = programs_read (debug_line file) heads read in
    let none : ListSection = record { section = []; parts = [] } in
    (record { programs = p.programs; units = []; addresses = []; contexts = []; ranges = none; locations = none }, record { before = order; programs = p.read; few = p.few })

-- a fault of the pass that reads units and contributions
units_fault : (file : List ℕ) (reach : Reach) (heads : List Head) (fault : Fault) → AreRead (debug_line file) heads → IsImageInOrder file reach → FaultOfUnits file fault.kind fault.place → NamesFault file reach (Refused fault)
units_fault file reach heads fault read order f = let (r, before) = programs_in_order file reach order heads read in first_faults.units file reach r fault.kind fault.place before f

in_info : (file : List ℕ) (fault : Fault) → IsUnitsFault (debug_info file) (debug_abbrev file) (offset_named file info_name) (offset_named file abbrev_name) fault → FaultOfUnits file fault.kind fault.place
in_info file fault (inl f) = inl f
in_info file fault (inr f) = inr (inl f)

units_refused : (file : List ℕ) (heads : List Head) (refusal : Refusal) → AreRead (debug_line file) heads → IsRefusedFor (IsUnitsFault (debug_info file) (debug_abbrev file) (offset_named file info_name) (offset_named file abbrev_name)) refusal → (reach : Reach) → NamesLaterFault file reach refusal
units_refused file heads (Refused fault) read f reach order = units_fault file reach heads fault read order (in_info file fault f)
units_refused file heads NoMemory read f reach order = tt

-- likewise of sections that were looked up
pub units_refused_in : (file : List ℕ) (heads : List Head) (refusal : Refusal) (info abbrevs : List ℕ) (info_origin abbrev_origin : ℕ) → info ≡ debug_info file → abbrevs ≡ debug_abbrev file → info_origin ≡ offset_named file info_name → abbrev_origin ≡ offset_named file abbrev_name → AreRead (debug_line file) heads → IsRefusedFor (IsUnitsFault info abbrevs info_origin abbrev_origin) refusal → (reach : Reach) → NamesLaterFault file reach refusal
units_refused_in file heads refusal info abbrevs info_origin abbrev_origin i a io ao read f =
    units_refused file heads refusal read (subst (λ (z : List ℕ). IsRefusedFor (IsUnitsFault z (debug_abbrev file) (offset_named file info_name) (offset_named file abbrev_name)) refusal) i (subst (λ (z : List ℕ). IsRefusedFor (IsUnitsFault info z (offset_named file info_name) (offset_named file abbrev_name)) refusal) a (subst (λ (o : ℕ). IsRefusedFor (IsUnitsFault info abbrevs o (offset_named file abbrev_name)) refusal) io (subst (λ (o : ℕ). IsRefusedFor (IsUnitsFault info abbrevs info_origin o) refusal) ao f))))

pub parts_refused : (file : List ℕ) (heads : List Head) (kind : ListKind) (refusal : Refusal) → AreRead (debug_line file) heads → IsRefusedFor (IsFaultOf (FaultContributions (debug_lists file kind)) (offset_named file (lists_name kind))) refusal → (reach : Reach) → NamesLaterFault file reach refusal
parts_refused file heads kind (Refused fault) read f reach order = units_fault file reach heads fault read order (inr (inr (kind, f)))
parts_refused file heads kind NoMemory read f reach order = tt

-- WHAT IS READ BEFORE EXPRESSIONS

-- the contributions of lists of a kind, and of each unit the one that its root names
pub record ContributionsRead (file : List ℕ) (kind : ListKind) (units : Units) (held : Contributions) (bases : List (Option ℕ)) : Type 0 where
  pub section : held.section.now ≡ debug_lists file kind
  pub parts_are : AreContributions held
  pub bases_are : AreBasesHeld (section_held held) (base_of kind) units bases

-- parts that were read, before the operations of expressions
pub record PartsRead (file : List ℕ) (programs : List Head) (units : Units) (contexts : List Context) (addresses : List ℕ) (tables : List AddrTable) (ranges locations : Contributions) (range_bases location_bases : List (Option ℕ)) : Type 0 where
  pub programs_are : AreRead (debug_line file) programs
  pub units_are : AreUnitsHeld (debug_info file) (debug_abbrev file) units
  pub contexts_are : AreContextsHeld (debug_addr file) units contexts
  pub addresses_are : addresses ≡ debug_addr file
  pub tables_are : AreAllTables (debug_addr file) tables
  pub ranges_are : ContributionsRead file Ranges units ranges range_bases
  pub locations_are : ContributionsRead file Locations units locations location_bases

pub parts_read_in : (file info abbrevs : List ℕ) (programs : List Head) (units : Units) (contexts : List Context) (addresses : List ℕ) (tables : List AddrTable) (ranges locations : Contributions) (range_bases location_bases : List (Option ℕ)) → info ≡ debug_info file → abbrevs ≡ debug_abbrev file → addresses ≡ debug_addr file → AreRead (debug_line file) programs → AreUnitsHeld info abbrevs units → AreContextsHeld addresses units contexts → AreAllTables (debug_addr file) tables → ContributionsRead file Ranges units ranges range_bases → ContributionsRead file Locations units locations location_bases → PartsRead file programs units contexts addresses tables ranges locations range_bases location_bases
parts_read_in file info abbrevs programs units contexts addresses tables ranges locations range_bases location_bases i a d programs_are units_are contexts_are tables_are ranges_are locations_are = record {
  programs_are = programs_are;
  units_are = subst (λ (z : List ℕ). AreUnitsHeld z (debug_abbrev file) units) i (subst (λ (z : List ℕ). AreUnitsHeld info z units) a units_are);
  contexts_are = subst (λ (z : List ℕ). AreContextsHeld z units contexts) d contexts_are;
  addresses_are = d;
  tables_are = tables_are;
  ranges_are = ranges_are;
  locations_are = locations_are;
}

-- what values refer to, of which these are the parts
record LinkableRead (file : List ℕ) (programs : List Head) (units : Units) (contexts : List Context) (ranges locations : Contributions) : Type 0 where
  r : Linkable
  read : IsReadToLinks file r
  programs_are : programs ≡ line_heads r.programs
  few_programs : length programs < 2 ^ 32
  units_are : HoldUnits r.units units
  contexts_are : contexts ≡ r.contexts
  ranges_are : section_held ranges ≡ r.ranges
  locations_are : section_held locations ≡ r.locations
  few : HaveFewRows r.programs

module _ (file : List ℕ) (programs : List Head) (units : Units) (contexts : List Context) (addresses : List ℕ) (tables : List AddrTable) (ranges locations : Contributions) (range_bases location_bases : List (Option ℕ)) (image : IsRead file Wide) (read : PartsRead file programs units contexts addresses tables ranges locations range_bases location_bases) where
  linkable_read : LinkableRead file programs units contexts ranges locations
  linkable_read =
      let p = programs_read (debug_line file) programs read.programs_are in
      let few : length p.programs < 2 ^ 32 = few_programs file Wide p.programs (λ i inside. (image.sound.sections i inside).short) p.read in
      let count : length programs ≡ length p.programs = ap length p.held ∙ length-map p.programs (λ (x : ProgramRead). x.head) in
      let r : Linkable = record { programs = p.programs; units = read.units_are.read; addresses = debug_addr file; contexts = contexts; ranges = section_held ranges; locations = section_held locations } in
      record {
        r = r;
        read = record {
          programs = p.read;
          units = read.units_are.units;
          addresses = refl;
          contexts = contexts_read (debug_addr file) read.units_are.read units contexts read.units_are.holds read.contexts_are;
          lists = each_kind (λ kind. ArePartsOf (debug_lists file kind) (of_kind r kind)) (record { bytes_are = read.ranges_are.section; tiled = read.ranges_are.parts_are.tiled }) (record { bytes_are = read.locations_are.section; tiled = read.locations_are.parts_are.tiled });
        };
        programs_are = p.held;
        few_programs = subst (λ (n : ℕ). n < 2 ^ 32) (sym count) few;
        units_are = read.units_are.holds;
        contexts_are = refl;
        ranges_are = refl;
        locations_are = refl;
        few = p.few;
      }

  -- a fault of an expression
  pub expressions_refused : (reach : Reach) (refusal : Refusal) → IsRefusedFor (IsFaultOf (IsSomeExpressionFault units.units.items reach) (offset_named file info_name)) refusal → NamesLaterFault file reach refusal
  expressions_refused reach (Refused fault) (inner, here, (u, inside, f)) order =
      let l = linkable_read in
      let known : u < length l.r.units = subst (λ (n : ℕ). u < n) (held_count l.r.units units.units.items l.units_are.units) inside in
      let there : FaultExpressions (unit_at l.r u).forest reach fault.kind inner = subst (λ (z : HeadAndForest). FaultExpressions z.forest reach fault.kind inner) (held_is l.r.units units.units.items l.units_are.units u known) f in
      let of_unit : FaultExprOf l.r reach u fault.kind inner = record { number = there.number; span = there.span; stands = there.stands; inner = there.inner; fault = inl there.fault; here = there.here } in
      let before : AreUnitsInOrder file reach l.r = record { before = record { before = order; programs = l.read.programs; few = l.few }; units = l.read.units; lists = l.read.lists } in
      first_faults.links file reach l.r fault.kind fault.place before (inl (inner, here, record { r = l.r; read = l.read; u = u; inside = known; fault = inr (inr (inr of_unit)) }))
  expressions_refused reach NoMemory f order = tt

-- the bases of a kind
kind_bases : (file : List ℕ) (r : Linkable) (kind : ListKind) (units : Units) (held : Contributions) (bases : List (Option ℕ)) → HoldUnits r.units units → section_held held ≡ of_kind r kind → ContributionsRead file kind units held bases → HaveBases r kind bases
kind_bases file r kind units held bases units_are same read = bases_read r kind units bases units_are (subst (λ (z : ListSection). AreBasesHeld z (base_of kind) units bases) same read.bases_are)

-- parts that were read, with the operations of expressions
pub parts_read : (file : List ℕ) (parts : Parts) → IsRead file Wide → PartsRead file parts.programs.items parts.units parts.contexts.items parts.addr.now parts.tables.items parts.ranges parts.locations parts.range_bases.items parts.location_bases.items → HaveOperations Wide parts.units.units.items parts.operations.items → ArePartsRead file parts
parts_read file parts image read operations =
    let l = linkable_read file parts.programs.items parts.units parts.contexts.items parts.addr.now parts.tables.items parts.ranges parts.locations parts.range_bases.items parts.location_bases.items image read in
    record {
      r = l.r;
      holds = record {
        read = l.read;
        programs = l.programs_are;
        units = l.units_are;
        contexts = l.contexts_are;
        addresses = read.addresses_are ∙ sym l.read.addresses;
        tables = subst (λ (z : List ℕ). AreAllTables z parts.tables.items) (sym l.read.addresses) read.tables_are;
        lists = each_kind (λ kind. section_held (lists_in parts kind) ≡ of_kind l.r kind) l.ranges_are l.locations_are;
        few_parts = each_kind (λ kind. length (lists_in parts kind).parts.items < 2 ^ 32) read.ranges_are.parts_are.few read.locations_are.parts_are.few;
        bases = each_kind (λ kind. HaveBases l.r kind (bases_in parts kind)) (kind_bases file l.r Ranges parts.units parts.ranges parts.range_bases.items l.units_are l.ranges_are read.ranges_are) (kind_bases file l.r Locations parts.units parts.locations parts.location_bases.items l.units_are l.locations_are read.locations_are);
        operations = operations;
        few = l.few_programs;
      };
      few = l.few;
    }

-- LINKS

module _ (file : List ℕ) (parts : Parts) (read : ArePartsRead file parts) where
  units_in_order : (reach : Reach) → IsImageInOrder file reach → AreUnitsInOrder file reach read.r
  units_in_order reach order = record { before = record { before = order; programs = read.holds.read.programs; few = read.few }; units = read.holds.read.units; lists = read.holds.read.lists }

  pub units_are_held : AreUnitsHeld (debug_info file) (debug_abbrev file) parts.units
  units_are_held = record { read = read.r.units; units = read.holds.read.units; holds = read.holds.units }

  pub parts_in_order : ((f : List ℕ) (r : Linkable) → HoldsParts f r parts → AreLinked r) → ((f : List ℕ) (r : Linkable) → HoldsParts f r parts → AreFirstBases r) → AreAddressesRead read.r.units read.r.addresses → ArePartsInOrder file parts
  parts_in_order linked based tables = record { r = read.r; holds = read.holds; few = read.few; linked = linked file read.r read.holds; roots = record { tables = tables; bases = based file read.r read.holds } }

  pub links_refused : (fault : Fault) → ((f : List ℕ) (r : Linkable) (reach : Reach) → HoldsParts f r parts → IsFaultOf (LinkFault r reach) (offset_named file info_name) fault) → (reach : Reach) → NamesLaterFault file reach (Refused fault)
  links_refused fault refused reach order =
      let (inner, here, (u, inside, f)) = refused file read.r reach read.holds in
      first_faults.links file reach read.r fault.kind fault.place (units_in_order reach order) (inl (inner, here, record { r = read.r; read = read.holds.read; u = u; inside = inside; fault = f }))

  pub addresses_refused : (fault : Fault) → HasAddrBase read.r.units → IsFaultOf (FaultTablesOf (debug_addr file)) (offset_named file addr_name) fault → (reach : Reach) → NamesLaterFault file reach (Refused fault)
  addresses_refused fault has (inner, here, f) reach order =
      first_faults.links file reach read.r fault.kind fault.place (units_in_order reach order) (inr (inl (inner, here, (read.r.units, read.holds.read.units, has, f))))

-- SETS OF ADDRESS RANGES

-- the view pairs that values name are held, and keep the limit
abbrev pub ViewsHeld : Linkable → List ListRead → List HeldViews → Type 0
ViewsHeld r read held = (runs : List ViewRead) × AreViewsRead r read runs × HoldViews runs held × (pair_total runs ≤ view_limit)

-- a world by its parts
abbrev pub world_by : List ℕ → Parts → List HeldList → List HeldList → List HeldViews → List ArangeSet → World
world_by image parts ranges locations views sets = record { image = image; programs = parts.programs.items; units = parts.units.units.items; operations = parts.operations.items; tables = parts.units.tables.items; table_of = parts.units.table_of.items; contexts = parts.contexts.items; range_parts = parts.ranges.parts.items; ranges = ranges; location_parts = parts.locations.parts.items; locations = locations; views = views; sets = sets }

starts_held : (units : List UnitRead) → starts_of (map head_and_forest units) ≡ unit_starts units
starts_held [] = refl
starts_held (u ∷ units) = ap (λ (z : List ℕ). u.head.at ∷ z) (starts_held units)

module _ (file : List ℕ) (parts : Parts) (order : ArePartsInOrder file parts) where
  pub starts_are : starts_of parts.units.units.items ≡ unit_starts order.r.units
  starts_are = ap starts_of order.holds.units.units ∙ starts_held order.r.units

  pub few_starts : length (starts_of parts.units.units.items) < 2 ^ 32
  few_starts =
      let count : length (starts_of parts.units.units.items) ≡ length order.r.units = ap length starts_are ∙ length-map order.r.units (λ (u : UnitRead). u.head.at) in
      subst (λ (n : ℕ). n < 2 ^ 32) (sym count) (few_units (debug_info file) (debug_abbrev file) order.r.units order.holds.read.units)

  pub starts_rising : AreRising (starts_of parts.units.units.items)
  starts_rising = subst AreRising (sym starts_are) (starts_rise (debug_info file) order.r.units order.holds.read.units.tiled)

  abbrev read_before : ArePartsRead file parts
  read_before = record { r = order.r; holds = order.holds; few = order.few }

  in_order : (reach : Reach) → IsImageInOrder file reach → AreUnitsInOrder file reach order.r
  in_order reach image = units_in_order file parts read_before reach image

  pub sets_refused : (refusal : Refusal) → IsRefusedFor (IsFaultOf (FaultSets (debug_aranges file) (starts_of parts.units.units.items)) (offset_named file aranges_name)) refusal → (reach : Reach) → NamesLaterFault file reach refusal
  sets_refused (Refused fault) (inner, here, f) reach image =
      let same = starts_are ∙ sym (heads_begin order.r.units) in
      first_faults.links file reach order.r fault.kind fault.place (in_order reach image) (inr (inr (inner, here, (unit_heads order.r.units, order.holds.read.units.tiled, subst (λ (z : List ℕ). FaultSets (debug_aranges file) z fault.kind inner) same f))))
  sets_refused NoMemory f reach image = tt

  -- LISTS

  pub section_is : (kind : ListKind) → (lists_in parts kind).section.now ≡ debug_lists file kind
  section_is kind = ap (λ (z : ListSection). z.section) (order.holds.lists kind) ∙ (order.holds.read.lists kind).bytes_are

  pub units_held_in_order : AreUnitsHeld (debug_info file) (debug_abbrev file) parts.units
  units_held_in_order = units_are_held file parts read_before

  module _ (sets : List ArangeSet) (tiled : SetsTile (debug_aranges file) (starts_of parts.units.units.items) sets) where
    tiled_there : SetsTile (debug_aranges file) (unit_starts order.r.units) sets
    tiled_there = subst (λ (z : List ℕ). SetsTile (debug_aranges file) z sets) starts_are tiled

    links_in_order : (reach : Reach) → HaveOperations reach parts.units.units.items parts.operations.items → IsImageInOrder file reach → AreLinksInOrder file reach order.r
    links_in_order reach operations image = record { before = in_order reach image; read = order.holds.read; linked = order.linked; within = expressions_within file order.r parts order.holds reach operations; roots = order.roots; sets = (sets, tiled_there) }

    pub named_refused : (reach : Reach) (kind : ListKind) (refusal : Refusal) → HaveOperations reach parts.units.units.items parts.operations.items → ((r : Linkable) → HoldsParts file r parts → IsRefusedFor (IsFaultOf (FaultOfKind r reach kind) (offset_named file (lists_name kind))) refusal) → NamesLaterFault file reach refusal
    named_refused reach kind (Refused fault) operations refused image =
        let (inner, here, f) = refused order.r order.holds in
        first_faults.lists file reach order.r fault.kind fault.place (links_in_order reach operations image) (inl (kind, (inner, here, (order.r, order.holds.read, f))))
    named_refused reach kind NoMemory operations refused image = tt

    pub views_refused : (reach : Reach) (refusal : Refusal) → HaveOperations reach parts.units.units.items parts.operations.items → IsRefusedFor (IsFaultOf (FaultOfViews order.r) (offset_named file loclists_name)) refusal → NamesLaterFault file reach refusal
    views_refused reach (Refused fault) operations (inner, here, f) image = first_faults.lists file reach order.r fault.kind fault.place (links_in_order reach operations image) (inr (inl (inner, here, (order.r, order.holds.read, f))))
    views_refused reach NoMemory operations refused image = tt

    -- THE FILE

    module _ (reach : Reach) (image : IsImageInOrder file reach) (operations : HaveOperations reach parts.units.units.items parts.operations.items) (ranges locations : List HeldList) (lists : (r : Linkable) → HoldsParts file r parts → HoldAllLists r reach ranges locations) (views : List HeldViews) (runs : (r : Linkable) (read : List ListRead) → HoldsParts file r parts → AreListsOf r Locations read → HoldLists r Locations read locations → ViewsHeld r read views) where
      named : HoldAllLists order.r reach ranges locations
      named = lists order.r order.holds

      seen : ViewsHeld order.r named.location_lists views
      seen = runs order.r named.location_lists order.holds named.are_locations named.hold_locations

      abbrev reading : Reading
      reading = record { links = order.r; range_lists = named.range_lists; location_lists = named.location_lists; views = seen.0; sets = sets }

      whole : IsReading file reading
      whole = record { links = order.holds.read; roots = order.roots; lists = each_kind (λ kind. AreListsOf order.r kind (lists_of reading kind)) named.are_ranges named.are_locations; views = seen.1; sets = tiled_there }

      told : (kind : ListKind) → AreTold order.r kind (lists_of reading kind)
      told = each_kind (λ kind. AreTold order.r kind (lists_of reading kind)) (lists_told order.r Ranges named.range_lists ranges named.hold_ranges) (lists_told order.r Locations named.location_lists locations named.hold_locations)

      -- range lists have no expressions
      within : (kind : ListKind) → AreWithinReach order.r kind reach (lists_of reading kind)
      within = each_kind (λ kind. AreWithinReach order.r kind reach (lists_of reading kind)) (λ k inside. All-nil (IsSomeExpression reach)) named.within

      meaning : (debug : Debug) × MeansDebug file reading debug
      meaning = linked_means file reading whole told order.linked

      abbrev world : World
      world = world_by file parts ranges locations views sets

      abbrev world_of : IsWorldOf file reach world
      world_of = record {
        r = reading;
        read = whole;
        holds = record {
          image = refl;
          programs = order.holds.programs;
          units = order.holds.units.units;
          tables = order.holds.units.tables;
          contexts = order.holds.contexts;
          addresses = order.holds.read.addresses;
          sections = λ kind. (order.holds.read.lists kind).bytes_are;
          contributions = each_kind (λ kind. contributions_held world kind ≡ (of_kind order.r kind).parts) (ap (λ (z : ListSection). z.parts) (order.holds.lists Ranges)) (ap (λ (z : ListSection). z.parts) (order.holds.lists Locations));
          lists = each_kind (λ kind. HoldLists order.r kind (lists_of reading kind) (lists_held world kind)) named.hold_ranges named.hold_locations;
          views = seen.2;
          sets = refl;
        };
        operations = operations;
        within = within;
        few_views = seen.3;
        debug = meaning.0;
        means = meaning.1;
        valid = valid_meaning file reach reading meaning.0 (in_order reach image) whole meaning.1 (expressions_within file order.r parts order.holds reach operations) (record { entries = named.entries; bytes = named.bytes; expressions = within; views = seen.3 });
      }

      -- likewise where the image that was read is the file
      pub world_read : (bytes : List ℕ) → bytes ≡ file → IsWorldOf file reach (world_by bytes parts ranges locations views sets)
      world_read bytes same = subst (λ (z : List ℕ). IsWorldOf file reach (world_by z parts ranges locations views sets)) (sym same) world_of

      pub world_held : (bytes : List ℕ) → bytes ≡ file → IsHeldIn bytes parts (world_by bytes parts ranges locations views sets)
      world_held bytes same = subst (λ (z : List ℕ). IsHeldIn z parts (world_by z parts ranges locations views sets)) (sym same) (record { reach = reach; is = world_of; parts_are = order.holds })
