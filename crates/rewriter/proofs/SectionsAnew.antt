-- What is read of the new sections of a file.
use Rattle.std.proofs.Common.{◌≡◌, ◌≤◌, ◌<◌, ◌+◌, ◌-◌, ◌^◌, ◌∙◌, ◌++◌, ℕ, List, [], ◌∷◌, length, map, drop, get_or, sym, ap, refl, subst, arith, inl, inr}
use Rattle.std.specs.Prelude.{slice_index}
use Rattle.std.specs.List.{All}
use Rattle.std.proofs.lemmas.Bool.{cases_lt}
use Rattle.std.proofs.lemmas.List.{get_or-map, length-map, nil_from_length}
use Rattle.std.proofs.lemmas.List.Elements.{All-nil, All-cons, All-head, All-tail, All-map, All-get_or, All-from_get_or}
use Rattle.std.proofs.lemmas.Grind.{same_number_lists}
use Rattle.dw_base.specs.declared.classes.Classes.{Classes}
use Rattle.spelled.specs.Spelled.{Joined}
use Rattle.dw_base.specs.declared.fault.Reach.TheVariants.{Narrow}
use Rattle.dw_base.specs.declared.record.Run.{Run}
use Rattle.leb_codec.specs.Records.{OfLines, SpellsRecord, magic}
use Rattle.elf_sections.specs.Sections.{HasNone}
use Rattle.line_machine.specs.declared.head.Head.{Head}
use Rattle.line_sums.specs.Accepted.{AreLeastRuns}
use Rattle.line_write.specs.Meaning.{ProgramMeaning, HaveMeanings}
use Rattle.line_write.specs.Programs.{Follow as ProgramsFollow, Tile as ProgramsTile}
use Rattle.line_write.specs.Readings.{AreRead, StandAnew}
use Rattle.written_files.specs.Kept.{HaveRunsIn}
use Rattle.line_write.proofs.ReadBack.{bounds}
use Rattle.companions.specs.declared.set.ArangeSet.{ArangeSet}
use Rattle.companions.specs.Aranges.{IsOutside, SetsTile, HaveUnits}
use Rattle.companions.proofs.Tiling.{follow_units}
use Rattle.entry_read.specs.declared.head.UnitHead.{UnitHead}
use Rattle.entry_read.specs.Heads.{Tile as UnitsTile}
use Rattle.entry_read.specs.Units.{HeadAndForest}
use Rattle.unit_write.specs.declared.places.Places.{Places}
use Rattle.unit_write.specs.Sizes.{NumbersHaveSizes, ExpressionsHaveSizes, ShortestHaveSizes}
use Rattle.unit_write.proofs.UnitLaws.{placed_order}
use Rattle.value_links.specs.Sections.{body_named, body_or_none, debug_info, debug_abbrev, debug_line, debug_aranges, info_name, abbrev_name, line_name, rnglists_name, loclists_name, aranges_name}
use Rattle.list_write.specs.declared.image.Moved.{Moved}
use Rattle.list_write.specs.Written.{moved_at}
use Rattle.list_model.specs.declared.entry.ListKind.{ListKind}
use Rattle.list_model.specs.declared.entry.ListKind.TheVariants.{Ranges, Locations}
use Rattle.loc_lists.specs.Laws.{LocationsWritten}
use Rattle.range_lists.specs.Laws.{RangesWritten}
use Rattle.value_links.specs.Reading.{ProgramRead, UnitRead, ListSection, Reading, of_kind, lists_of, view_at, no_program, no_unit, line_heads, unit_heads, unit_starts}
use Rattle.value_links.specs.Whole.{IsReading}
use Rattle.written_files.specs.TidyLists.{IsFilled}
use Rattle.value_links.specs.Faults.{IsValid}
use Rattle.value_links.specs.World.{World, head_and_forest, Holds, IsWorldOf}
use Rattle.value_links.proofs.SectionLaws.{sections_are_found}
use Rattle.rewriter.specs.declared.tables.NewTable.{NewTable}
use Rattle.rewriter.specs.declared.new_places.NewPlaces.{NewPlaces}
use Rattle.rewriter.specs.declared.sections.NewSections.{NewSections}
use Rattle.rewriter.specs.inside.Tables.{TablesStand, table_anew, AreTablesWritten}
use Rattle.rewriter.specs.inside.Placed.{PlacesAnew, places_anew, places_at, IsPlacedBy, PlacesFollow, ArePlacesOf, AreRanksOf, AreTaken, AreWritable}
use Rattle.rewriter.specs.inside.Recorded.{IsRecorded}
use Rattle.rewriter.specs.inside.Units.{AreUnitsWritten}
use Rattle.rewriter.specs.inside.Bodies.{NewBytes, new_bytes}
use Rattle.rewriter.specs.inside.Sections.{IsFor, AreFor}
use Rattle.rewriter.specs.inside.Anew.{AreProgramsAnew, new_lists, AreAnew}
use Rattle.rewriter.specs.inside.NewPlaces.{moved_lists, moved_views_at, AreMovedViews}
use Rattle.rewriter.specs.inside.Held.{AreListPlaces, AreViewPlaces, AreNewPlaces}
use Rattle.rewriter.specs.inside.Lists.{AreListsRecorded, AreListsWritten}
use Rattle.rewriter.specs.inside.ListsAnew.{AreListsAnew}
use Rattle.rewriter.specs.inside.ViewsAnew.{AreViewsAnew}
use Rattle.rewriter.proofs.DebugSizes.{debug_short}
use Rattle.rewriter.proofs.FewRows.{AreProgramsFew, programs_few, few_rows, programs_read}
use Rattle.rewriter.proofs.ListsAnew.{AreReadBack, lists_anew}
use Rattle.rewriter.proofs.ListsRead.{lists_for, moved_from_read}
use Rattle.rewriter.proofs.ViewRuns.{pairs_count}
use Rattle.rewriter.proofs.ChosenColumns.{chosen_columns_are_taken, chosen_columns_are_writable}
use Rattle.rewriter.proofs.UsedDeclarations.{unit_is}

-- SECTIONS THAT A FILE LACKS

-- a section that no section has the name of is empty
pub none_empty : (file name : List ℕ) → HasNone file name → body_named file name ≡ []
none_empty file name none = ap (body_or_none file) ((sections_are_found.missing file name).1 none)

no_programs : (section : List ℕ) (heads : List Head) → section ≡ [] → ProgramsTile section heads → length heads ≡ 0
no_programs section [] none tile = refl
no_programs section (head ∷ heads) none tile =
    let b = bounds section head.at tile.1.rules in
    let inside = b.inside in
    let size : length section ≡ 0 = ap (λ (z : List ℕ). length z) none in
    absurd (omega (arith, inside, size))

no_units : (section : List ℕ) (heads : List UnitHead) → section ≡ [] → UnitsTile section heads → length heads ≡ 0
no_units section [] none tile = refl
no_units section (head ∷ heads) none tile =
    let inside = tile.1.rules.inside in
    let size : length section ≡ 0 = ap (λ (z : List ℕ). length z) none in
    absurd (omega (arith, inside, size))

programs_empty : (section : List ℕ) (heads : List Head) → length heads ≡ 0 → ProgramsTile section heads → section ≡ []
programs_empty section [] none tile = nil_from_length section (sym tile)
programs_empty section (head ∷ heads) none tile = absurd (omega (arith, none))

units_empty : (section : List ℕ) (heads : List UnitHead) → length heads ≡ 0 → UnitsTile section heads → section ≡ []
units_empty section [] none tile = nil_from_length section (sym tile)
units_empty section (head ∷ heads) none tile = absurd (omega (arith, none))

tables_empty : (section : List ℕ) (tables : List NewTable) → length tables ≡ 0 → TablesStand section (map table_anew tables) 0 → section ≡ []
tables_empty section [] none tile = nil_from_length section (sym tile)
tables_empty section (table ∷ tables) none tile = absurd (omega (arith, none))

-- THE NEW SECTIONS

-- what holds of the bytes of each section holds of all
pub each_section : (P : NewBytes → Type 0) (new : NewSections) → P (record { name = info_name; bytes = new.info.items }) → P (record { name = abbrev_name; bytes = new.abbrevs.items }) → P (record { name = line_name; bytes = new.lines.items }) → P (record { name = rnglists_name; bytes = new.ranges.items }) → P (record { name = loclists_name; bytes = new.locations.items }) → P (record { name = aranges_name; bytes = new.aranges.items }) → All P (new_bytes new)
each_section P new info abbrevs lines ranges locations aranges =
    All-cons P _ (drop 1 (new_bytes new)) info (All-cons P _ (drop 2 (new_bytes new)) abbrevs (All-cons P _ (drop 3 (new_bytes new)) lines (All-cons P _ (drop 4 (new_bytes new)) ranges (All-cons P _ (drop 5 (new_bytes new)) locations (All-cons P _ [] aranges (All-nil P))))))

-- PARTS

-- where units begin
abbrev pub starts_of : List Places → List ℕ
starts_of places = map (λ (unit : Places). unit.start) places

start_at : (places : List Places) (u : ℕ) → u < length places → get_or (starts_of places) u 0 ≡ (places_at places u).start
start_at (p ∷ places) u inside =
    let none : PlacesAnew = record { start = 0; entries = []; ends = []; end = 0 } in
    get_or-map (λ (unit : Places). unit.start) (p ∷ places) u p 0 inside
    ∙ sym (ap (λ (z : PlacesAnew). z.start) (get_or-map places_anew (p ∷ places) u p none inside))
start_at [] u inside = absurd (omega arith)

-- the new bytes of the section of lists of a kind
abbrev pub list_bytes : List ℕ → List ℕ → ListKind → List ℕ
list_bytes ranges locations Ranges = ranges
list_bytes ranges locations Locations = locations

-- the new places of the view pairs of lists of a kind
abbrev list_views : List Moved → List Moved → ListKind → List Moved
list_views of_ranges of_locations Ranges = of_ranges
list_views of_ranges of_locations Locations = of_locations

-- What the steps of the writer give, for one reading of the file.
pub record AreParts (classes : Classes) (file : List ℕ) (world : World) (r : Reading) (tables : List NewTable) (places : List Places) (new_places : NewPlaces) (info abbrevs lines ranges locations aranges : List ℕ) (range_views location_views : List Moved) : Type 0 where
  pub holds : Holds file world r
  pub stand : StandAnew (debug_line file) world.programs lines new_places.programs.items
  pub lists : (kind : ListKind) → AreListsWritten classes r places kind (list_bytes ranges locations kind) (moved_lists new_places kind).parts.items (moved_lists new_places kind).lists.items (list_views range_views location_views kind)
  pub views : AreMovedViews world.views location_views new_places.views.items
  pub written : AreTablesWritten classes world abbrevs tables
  pub count : length places ≡ length world.units
  pub placed : (u : ℕ) → u < length world.units → IsPlacedBy world tables u (places_at places u)
  pub units : (units : List UnitRead) × AreUnitsWritten world r.links tables places new_places info abbrevs units
  pub tiled : SetsTile aranges (starts_of places) world.sets
  pub others : (k : ℕ) → IsOutside world.sets k → slice_index aranges k ≡ slice_index (debug_aranges file) k
  pub size : length aranges ≡ length (debug_aranges file)

pub parts_of : {classes : Classes} → {file : List ℕ} {world : World} {r : Reading} {tables : List NewTable} {places : List Places} {new_places : NewPlaces} {info abbrevs lines ranges locations aranges : List ℕ} {range_views location_views : List Moved} → Holds file world r → StandAnew (debug_line file) world.programs lines new_places.programs.items → AreListsWritten classes r places Ranges ranges new_places.ranges.parts.items new_places.ranges.lists.items range_views → AreListsWritten classes r places Locations locations new_places.locations.parts.items new_places.locations.lists.items location_views → AreMovedViews world.views location_views new_places.views.items → AreTablesWritten classes world abbrevs tables → length places ≡ length world.units → ((u : ℕ) → u < length world.units → IsPlacedBy world tables u (places_at places u)) → ((units : List UnitRead) × AreUnitsWritten world r.links tables places new_places info abbrevs units) → SetsTile aranges (starts_of places) world.sets → ((k : ℕ) → IsOutside world.sets k → slice_index aranges k ≡ slice_index (debug_aranges file) k) → length aranges ≡ length (debug_aranges file) → AreParts classes file world r tables places new_places info abbrevs lines ranges locations aranges range_views location_views
parts_of {classes} {file} {world} {r} {tables} {places} {new_places} {info} {abbrevs} {lines} {ranges} {locations} {aranges} {range_views} {location_views} holds stand of_ranges of_locations views written count placed units tiled others size = record { holds = holds; stand = stand; lists = both; views = views; written = written; count = count; placed = placed; units = units; tiled = tiled; others = others; size = size }
  where
    both : (kind : ListKind) → AreListsWritten classes r places kind (list_bytes ranges locations kind) (moved_lists new_places kind).parts.items (moved_lists new_places kind).lists.items (list_views range_views location_views kind)
    both Ranges = of_ranges
    both Locations = of_locations

-- the records of the steps, which are put together in their order, are those of a certificate
pub recorded_of : {classes : Classes} → {world : World} {r : Reading} {tables : List NewTable} {places : List Places} {section lines ranges locations units certificate : List ℕ} → certificate ≡ magic classes ++ (lines ++ (ranges ++ (locations ++ units))) → ((runs : List (List Run)) × HaveRunsIn classes AreLeastRuns section runs × Joined SpellsRecord (map OfLines runs) lines) → AreListsRecorded classes r Ranges ranges → AreListsRecorded classes r Locations locations → AreRanksOf world tables places units → IsRecorded classes world r tables places section certificate
recorded_of {world} {r} {tables} {places} {section} {lines} {ranges} {locations} {units} {certificate} whole (runs, has_runs, spelled) of_ranges of_locations of_units = record {
  lines = lines;
  ranges = ranges;
  locations = locations;
  units = units;
  whole = whole;
  runs = runs;
  has_runs = has_runs;
  runs_spelled = spelled;
  has_ranges = of_ranges;
  has_locations = of_locations;
  has_ranks = of_units;
}

module _ {classes : Classes} {file : List ℕ} {world : World} {r : Reading} {tables : List NewTable} {places : List Places} {new_places : NewPlaces} {info abbrevs lines ranges locations aranges : List ℕ} {range_views location_views : List Moved} (parts : AreParts classes file world r tables places new_places info abbrevs lines ranges locations aranges range_views location_views) where
  units_count : length world.units ≡ length r.links.units
  units_count = ap (λ (z : List HeadAndForest). length z) parts.holds.units ∙ length-map r.links.units head_and_forest

  -- units begin where their places say
  starts_are : starts_of places ≡ unit_starts parts.units.0
  starts_are =
      let units : List UnitRead = parts.units.0 in
      let written = parts.units.1 in
      let one : length (starts_of places) ≡ length places = length-map places (λ (unit : Places). unit.start) in
      let two : length (unit_starts units) ≡ length units = length-map units (λ (u : UnitRead). u.head.at) in
      let among = parts.count in
      let counted = units_count in
      let count = written.count in
      same_number_lists (starts_of places) (unit_starts units) (omega (arith, one, two, among, counted, count)) (λ k inside. (
      let placed : k < length places = omega (arith, one, inside) in
      let known : k < length r.links.units = omega (arith, placed, among, counted) in
      let here : k < length units = omega (arith, known, count) in
      start_at places k placed ∙ sym (get_or-map (λ (u : UnitRead). u.head.at) units k no_unit 0 here ∙ (written.each k known).at)
      ))

  abbrev few : AreProgramsFew lines parts.stand.written
  few = programs_few lines parts.stand.written parts.stand.read

  programs_count : length few.programs ≡ length r.links.programs
  programs_count =
      sym (length-map few.programs (λ (p : ProgramRead). p.head))
      ∙ ap (λ (z : List Head). length z) few.same
      ∙ parts.stand.count
      ∙ ap (λ (z : List Head). length z) parts.holds.programs
      ∙ length-map r.links.programs (λ (p : ProgramRead). p.head)

  program_place : (p : ℕ) → p < length r.links.programs → (get_or few.programs p no_program).head.at ≡ slice_index new_places.programs.items p
  program_place p inside =
      let count = programs_count in
      let here : p < length few.programs = omega (arith, inside, count) in
      let size : length (line_heads few.programs) ≡ length few.programs = length-map few.programs (λ (x : ProgramRead). x.head) in
      let head : get_or (line_heads few.programs) p no_program.head ≡ (get_or few.programs p no_program).head = get_or-map (λ (x : ProgramRead). x.head) few.programs p no_program no_program.head here in
      let at : get_or (map (λ (h : Head). h.at) (line_heads few.programs)) p 0 ≡ (get_or (line_heads few.programs) p no_program.head).at = get_or-map (λ (h : Head). h.at) (line_heads few.programs) p no_program.head 0 (omega (arith, here, size)) in
      let all : new_places.programs.items ≡ map (λ (h : Head). h.at) (line_heads few.programs) = parts.stand.places ∙ ap (λ (z : List Head). map (λ (h : Head). h.at) z) (sym few.same) in
      sym (ap (λ (z : List ℕ). get_or z p 0) all ∙ at ∙ ap (λ (h : Head). h.at) head)

  programs_mean : (meanings : List ProgramMeaning) → HaveMeanings (debug_line file) (line_heads r.links.programs) meanings → HaveMeanings lines (line_heads few.programs) meanings
  programs_mean meanings means =
      let old = subst (λ (z : List Head). HaveMeanings (debug_line file) z meanings) (sym parts.holds.programs) means in
      subst (λ (z : List Head). HaveMeanings lines z meanings) (sym few.same) (parts.stand.means meanings old)

  sets_tile : SetsTile aranges (unit_starts parts.units.0) r.sets
  sets_tile =
      let by_sets = subst (λ (z : List ArangeSet). SetsTile aranges (starts_of places) z) parts.holds.sets parts.tiled in
      subst (λ (z : List ℕ). SetsTile aranges z r.sets) starts_are by_sets

  -- the new section of the lists of a kind
  abbrev new_section : ListKind → ListSection
  new_section kind = record { section = list_bytes ranges locations kind; parts = (moved_lists new_places kind).parts.items }

  -- the lists are read again
  module _ (read : IsReading file r) (ranges_law : RangesWritten) (locations_law : LocationsWritten) where
    read_again : (kind : ListKind) → AreReadBack classes r places kind (new_section kind) (moved_lists new_places kind).lists.items (list_views range_views location_views kind)
    read_again kind = lists_anew ranges_law locations_law file r read places kind (list_bytes ranges locations kind) (moved_lists new_places kind).parts.items (moved_lists new_places kind).lists.items (list_views range_views location_views kind) (parts.lists kind)

    abbrev new_reading : Reading
    new_reading = record {
      links = record {
        programs = few.programs;
        units = parts.units.0;
        addresses = r.links.addresses;
        contexts = r.links.contexts;
        ranges = new_section Ranges;
        locations = new_section Locations;
      };
      range_lists = (read_again Ranges).lists;
      location_lists = (read_again Locations).lists;
      views = (read_again Locations).made;
      sets = r.sets;
    }

    lists_are : (kind : ListKind) → AreListsAnew classes r places kind (of_kind new_reading.links kind) (lists_of new_reading kind) (moved_lists new_places kind)
    lists_are Ranges = (read_again Ranges).anew new_places.ranges refl refl
    lists_are Locations = (read_again Locations).anew new_places.locations refl refl

    -- a run is moved from where it is read
    run_moved : (k : ℕ) → k < length r.views → ((moved_views_at new_places.views.items k).list ≡ (view_at r.views k).list) × ((moved_views_at new_places.views.items k).old ≡ (view_at r.views k).at) × ((moved_views_at new_places.views.items k).new ≡ (moved_at location_views k).new)
    run_moved = moved_from_read read (parts.lists Locations) world parts.holds new_places.views.items parts.views

    views_are : AreViewsAnew r new_reading new_places.views.items
    views_are =
        let kept = (read_again Locations).kept in
        record {
          count = parts.views.count ∙ sym (pairs_count parts.holds Locations);
          with = λ k inside. (run_moved k inside).0;
          from = λ k inside. (run_moved k inside).1;
          numbers = kept.numbers;
          numbered = kept.numbered;
          inside = kept.inside;
          to = λ k inside. (run_moved k inside).2 ∙ kept.to k inside;
          order = kept.order;
          all = kept.all;
          each = λ k inside. (let one = kept.each k inside in record { list = one.list; inside = one.inside; from = one.from; to = one.to; pairs = one.pairs });
          rising = kept.rising;
          read = λ n inside. (let one = kept.read n inside in record { k = one.k; inside = one.inside; with = one.with; begins = one.begins; stands = one.stands });
        }

    lists_filled : (kind : ListKind) (p : ℕ) → p < length (of_kind new_reading.links kind).parts → IsFilled kind new_reading p
    lists_filled Ranges = (read_again Ranges).filled new_reading refl refl tt
    lists_filled Locations = (read_again Locations).filled new_reading refl refl refl

    sections_are : (new : NewSections) → new.ranges.items ≡ ranges → new.locations.items ≡ locations → (kind : ListKind) → (of_kind new_reading.links kind).section ≡ new_lists new kind
    sections_are new n o Ranges = sym n
    sections_are new n o Locations = sym o

    programs_anew : AreProgramsAnew (debug_line file) r.links new_reading.links lines new_places
    programs_anew = record { read = few.are; few = few.few; count = programs_count; places = program_place; means = programs_mean }

    -- The new sections are read, and mean what the old ones mean.
    pub are_anew : (new : NewSections) (certificate : List ℕ) → new.info.items ≡ info → new.abbrevs.items ≡ abbrevs → new.lines.items ≡ lines → new.ranges.items ≡ ranges → new.locations.items ≡ locations → new.aranges.items ≡ aranges → IsRecorded classes world r tables places lines certificate → (s : Reading) × AreAnew classes file world r s new certificate
    are_anew new certificate i a l n o g recorded = (
      new_reading,
      record {
        tables = tables;
        places = places;
        new_places = new_places;
        tables_written = subst (λ (z : List ℕ). AreTablesWritten classes world z tables) (sym a) parts.written;
        programs = subst (λ (z : List ℕ). AreProgramsAnew (debug_line file) r.links new_reading.links z new_places) (sym l) programs_anew;
        section = sections_are new n o;
        lists = lists_are;
        views = views_are;
        filled = lists_filled;
        addresses = refl;
        contexts = refl;
        units = subst (λ (z : List ℕ). AreUnitsWritten world r.links tables places new_places z new.abbrevs.items parts.units.0) (sym i) (subst (λ (z : List ℕ). AreUnitsWritten world r.links tables places new_places info z parts.units.0) (sym a) parts.units.1);
        placed = parts.placed;
        sets = record {
          same = refl;
          tiled = subst (λ (z : List ℕ). SetsTile z (unit_starts parts.units.0) r.sets) (sym g) sets_tile;
          size = ap (λ (z : List ℕ). length z) g ∙ parts.size;
          bytes = λ k outside. ap (λ (z : List ℕ). slice_index z k) g ∙ parts.others k (subst (λ (z : List ArangeSet). IsOutside z k) (sym parts.holds.sets) outside);
        };
        recorded = subst (λ (z : List ℕ). IsRecorded classes world r tables places z certificate) (sym l) recorded;
      },
    )

module _ {classes : Classes} {file : List ℕ} {world : World} {r : Reading} {tables : List NewTable} {places : List Places} {new_places : NewPlaces} {info abbrevs lines ranges locations aranges : List ℕ} {range_views location_views : List Moved} (parts : AreParts classes file world r tables places new_places info abbrevs lines ranges locations aranges range_views location_views) (read : IsReading file r) (valid : IsValid file Narrow) where
  -- A section that the file lacks has no new bytes.
  pub lines_for : IsFor file line_name lines
  lines_for none =
      let old : ProgramsTile (debug_line file) (line_heads r.links.programs) = read.links.programs.tiled in
      let no : length (line_heads r.links.programs) ≡ 0 = no_programs (debug_line file) (line_heads r.links.programs) (none_empty file line_name none) old in
      let count : length parts.stand.written ≡ length world.programs = parts.stand.count in
      let held : length world.programs ≡ length (line_heads r.links.programs) = ap (λ (z : List Head). length z) parts.holds.programs in
      programs_empty lines parts.stand.written (omega (arith, no, count, held)) parts.stand.read.tiled

  pub info_for : IsFor file info_name info
  info_for none =
      let no : length (unit_heads r.links.units) ≡ 0 = no_units (debug_info file) (unit_heads r.links.units) (none_empty file info_name none) read.links.units.tiled in
      let old : length (unit_heads r.links.units) ≡ length r.links.units = length-map r.links.units (λ (u : UnitRead). u.head) in
      let new : length (unit_heads parts.units.0) ≡ length parts.units.0 = length-map parts.units.0 (λ (u : UnitRead). u.head) in
      let count = parts.units.1.count in
      units_empty info (unit_heads parts.units.0) (omega (arith, no, old, new, count)) parts.units.1.read.tiled

  pub abbrevs_for : IsFor file abbrev_name abbrevs
  abbrevs_for none =
      let empty : length (debug_abbrev file) ≡ 0 = ap (λ (z : List ℕ). length z) (none_empty file abbrev_name none) in
      let no_table : (i : ℕ) → i < length world.tables → ⊥ = λ i inside. (
      let n = parts.holds.tables.named i inside in
      let is = unit_is read parts.holds parts.written n.0 n.1 in
      let named = is.named in
      absurd (omega (arith, named, empty))
      ) in
      elim (cases_lt 0 (length world.tables)) [
        | inl some ↦ absurd (no_table 0 some)
        | inr few ↦ (let count = parts.written.count in tables_empty abbrevs tables (omega (arith, few, count)) parts.written.tiled)
      ]

  pub rnglists_for : IsFor file rnglists_name ranges
  rnglists_for none = lists_for read (parts.lists Ranges) (none_empty file rnglists_name none)

  pub loclists_for : IsFor file loclists_name locations
  loclists_for none = lists_for read (parts.lists Locations) (none_empty file loclists_name none)

  pub aranges_for : IsFor file aranges_name aranges
  aranges_for none =
      let empty : length (debug_aranges file) ≡ 0 = ap (λ (z : List ℕ). length z) (none_empty file aranges_name none) in
      let size = parts.size in
      nil_from_length aranges (omega (arith, size, empty))

  pub aranges_fit : length aranges < 2 ^ 32 - 1
  aranges_fit =
      let small : length (debug_aranges file) ≤ 2 ^ 28 = debug_short file aranges_name refl valid in
      let size = parts.size in
      omega (arith, size, small)

  pub are_for : (new : NewSections) → new.info.items ≡ info → new.abbrevs.items ≡ abbrevs → new.lines.items ≡ lines → new.ranges.items ≡ ranges → new.locations.items ≡ locations → new.aranges.items ≡ aranges → length info < 2 ^ 32 - 1 → length abbrevs < 2 ^ 32 - 1 → length lines < 2 ^ 32 - 1 → length ranges < 2 ^ 32 - 1 → length locations < 2 ^ 32 - 1 → AreFor file new
  are_for new i a l n o g info_fits abbrevs_fit all_lines_fit all_ranges_fit all_locations_fit = record {
    each = each_section (λ (n : NewBytes). IsFor file n.name n.bytes) new (λ none. i ∙ info_for none) (λ none. a ∙ abbrevs_for none) (λ none. l ∙ lines_for none) (λ none. n ∙ rnglists_for none) (λ none. o ∙ loclists_for none) (λ none. g ∙ aranges_for none);
    fit = each_section (λ (n : NewBytes). length n.bytes < 2 ^ 32 - 1) new (subst (λ (z : List ℕ). length z < 2 ^ 32 - 1) (sym i) info_fits) (subst (λ (z : List ℕ). length z < 2 ^ 32 - 1) (sym a) abbrevs_fit) (subst (λ (z : List ℕ). length z < 2 ^ 32 - 1) (sym l) all_lines_fit) (subst (λ (z : List ℕ). length z < 2 ^ 32 - 1) (sym n) all_ranges_fit) (subst (λ (z : List ℕ). length z < 2 ^ 32 - 1) (sym o) all_locations_fit) (subst (λ (z : List ℕ). length z < 2 ^ 32 - 1) (sym g) aranges_fit);
  }

-- WHAT THE STEPS ASK FOR

pub writable : {classes : Classes} → NumbersHaveSizes → ExpressionsHaveSizes → ShortestHaveSizes → (world : World) → IsWorldOf world.image Narrow world → (abbrevs : List ℕ) (tables : List NewTable) → AreTablesWritten classes world abbrevs tables → AreWritable world tables
writable numbers expressions others world is abbrevs tables written = chosen_columns_are_writable world.image world is.r abbrevs tables is.read is.holds written numbers expressions others

pub taken : {classes : Classes} → (world : World) → IsWorldOf world.image Narrow world → (abbrevs : List ℕ) (tables : List NewTable) → AreTablesWritten classes world abbrevs tables → AreTaken world tables
taken world is abbrevs tables written = chosen_columns_are_taken world.image world is.r abbrevs tables is.read is.holds written

pub lines_read : (world : World) → IsWorldOf world.image Narrow world → (section : List ℕ) (heads : List Head) → section ≡ debug_line world.image → heads ≡ world.programs → AreRead section heads
lines_read world is section heads e f =
    let few = few_rows world.image Narrow is.r is.valid is.read in
    let all = programs_read (debug_line world.image) is.r.links.programs is.read.links.programs few in
    let here = subst (λ (z : List ℕ). AreRead z (line_heads is.r.links.programs)) (sym e) all in
    subst (λ (z : List Head). AreRead section z) (sym (f ∙ is.holds.programs)) here

-- programs that are kept stand where they stood, and mean what they meant
pub lines_kept : (world : World) → IsWorldOf world.image Narrow world → (bytes starts : List ℕ) → bytes ≡ debug_line world.image → starts ≡ map (λ (head : Head). head.at) world.programs → StandAnew (debug_line world.image) world.programs bytes starts
lines_kept world is bytes starts same places = record {
  written = world.programs;
  read = lines_read world is bytes world.programs same refl;
  places = places;
  count = refl;
  means = λ meanings have. subst (λ (z : List ℕ). HaveMeanings z world.programs meanings) (sym same) have;
}

heads_below : (section : List ℕ) (heads : List Head) (a e : ℕ) → ProgramsFollow section heads a e → All (λ (h : Head). h.at < length section) heads
heads_below section [] a e follow = All-nil (λ (h : Head). h.at < length section)
heads_below section (head ∷ heads) a e follow =
    let b = bounds section head.at follow.1.rules in
    let inside = b.inside in
    All-cons (λ (h : Head). h.at < length section) head heads (omega (arith, inside)) (heads_below section heads (a + head.len) e follow.2)

pub places_are_new : (section : List ℕ) (world : World) (bytes : List ℕ) (new_places : NewPlaces) → StandAnew section world.programs bytes new_places.programs.items → length bytes < 2 ^ 32 → AreListPlaces world Ranges new_places.ranges → AreListPlaces world Locations new_places.locations → AreViewPlaces world new_places.views.items → AreNewPlaces world new_places
places_are_new section world bytes new_places stand short of_ranges of_locations views =
    let size : length (map (λ (h : Head). h.at) stand.written) ≡ length stand.written = length-map stand.written (λ (h : Head). h.at) in
    let below = heads_below bytes stand.written 0 (length bytes) stand.read.tiled in
    let none : Head = no_program.head in
    let each : All (λ (h : Head). h.at < 2 ^ 32) stand.written = All-from_get_or (λ (h : Head). h.at < 2 ^ 32) stand.written none (λ k inside. (let l : (get_or stand.written k none).at < length bytes = All-get_or (λ (h : Head). h.at < length bytes) stand.written k none inside below in omega (arith, l, short))) in
    record {
      programs = ap (λ (z : List ℕ). length z) stand.places ∙ size ∙ stand.count;
      programs_fit = subst (λ (z : List ℕ). All (λ start. start < 2 ^ 32) z) (sym stand.places) (All-map (λ start. start < 2 ^ 32) (λ (h : Head). h.at) stand.written each);
      lists = both;
      views = views;
    }
  where
    both : (kind : ListKind) → AreListPlaces world kind (moved_lists new_places kind)
    both Ranges = of_ranges
    both Locations = of_locations

places_from : (places : List Places) (at end : ℕ) → All (λ (p : Places). p.start ≤ p.end) places → PlacesFollow places at end → (at ≤ end) × All (λ (p : Places). p.start ≤ end) places
places_from [] at end rise follow = (let e : at ≡ end = follow in omega (arith, e), All-nil (λ (p : Places). p.start ≤ end))
places_from (p ∷ places) at end rise follow =
    let more = places_from places p.end end (All-tail (λ (q : Places). q.start ≤ q.end) p places rise) follow.1 in
    let own : p.start ≤ p.end = All-head (λ (q : Places). q.start ≤ q.end) p places rise in
    let here : p.start ≡ at = follow.0 in
    let later = more.0 in
    (omega (arith, own, here, later), All-cons (λ (q : Places). q.start ≤ end) p places (omega (arith, own, later)) more.1)

place_is : (places : List Places) (u : ℕ) (d : Places) → u < length places → places_at places u ≡ places_anew (get_or places u d)
place_is places u d inside = get_or-map places_anew places u d (record { start = 0; entries = []; ends = []; end = 0 }) inside

pub places_fit : (world : World) (tables : List NewTable) (places : List Places) (size : ℕ) → ArePlacesOf world tables places size → All (λ (p : Places). p.start < 2 ^ 32) places
places_fit world tables [] size are = All-nil (λ (p : Places). p.start < 2 ^ 32)
places_fit world tables (p ∷ places) size are =
    let all : List Places = p ∷ places in
    let count = are.count in
    let small = are.small in
    let rise : All (λ (q : Places). q.start ≤ q.end) all = All-from_get_or (λ (q : Places). q.start ≤ q.end) all p (λ k inside. (
    let placed = (are.each k (omega (arith, count, inside))).placed.placed in
    let later = placed_order _ 0 _ _ _ _ _ placed in
    let same = place_is all k p inside in
    let from : (places_at all k).start ≡ (get_or all k p).start = ap (λ (z : PlacesAnew). z.start) same in
    let to : (places_at all k).end ≡ (get_or all k p).end = ap (λ (z : PlacesAnew). z.end) same in
    omega (arith, later, from, to)
    )) in
    let below = (places_from all 0 size rise are.follow).1 in
    All-from_get_or (λ (q : Places). q.start < 2 ^ 32) all p (λ k inside. (let l : (get_or all k p).start ≤ size = All-get_or (λ (q : Places). q.start ≤ size) all k p inside below in omega (arith, l, small)))

pub old_sets : (world : World) → IsWorldOf world.image Narrow world → (section : List ℕ) (sets : List ArangeSet) → section ≡ debug_aranges world.image → sets ≡ world.sets → (starts : List ℕ) × SetsTile section starts sets
old_sets world is section sets e f =
    let here = subst (λ (z : List ℕ). SetsTile z (unit_starts is.r.links.units) is.r.sets) (sym e) is.read.sets in
    (unit_starts is.r.links.units, subst (λ (z : List ArangeSet). SetsTile section (unit_starts is.r.links.units) z) (sym (f ∙ is.holds.sets)) here)

pub old_units : (world : World) → IsWorldOf world.image Narrow world → (count : ℕ) (sets : List ArangeSet) → count ≡ length world.units → sets ≡ world.sets → HaveUnits count sets
old_units world is count sets e f =
    let has : HaveUnits (length (unit_starts is.r.links.units)) is.r.sets = follow_units (debug_aranges world.image) (unit_starts is.r.links.units) is.r.sets 0 (length (debug_aranges world.image)) is.read.sets in
    let starts : length (unit_starts is.r.links.units) ≡ length is.r.links.units = length-map is.r.links.units (λ (u : UnitRead). u.head.at) in
    let units : length world.units ≡ length is.r.links.units = ap (λ (z : List HeadAndForest). length z) is.holds.units ∙ length-map is.r.links.units head_and_forest in
    let here : HaveUnits count is.r.sets = subst (λ (z : ℕ). HaveUnits z is.r.sets) (starts ∙ sym units ∙ sym e) has in
    subst (λ (z : List ArangeSet). HaveUnits count z) (sym (f ∙ is.holds.sets)) here
