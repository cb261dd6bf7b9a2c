-- A file that has its new sections is read, means what the old one means, is valid, has the codes, the forms of columns and the
-- references within units that take the least bytes, and holds nothing else. Its certificate shows why its parts are least.
use Rattle.std.proofs.Common.{◌≡◌, ◌≤◌, ◌<◌, ◌+◌, ◌^◌, ◌∙◌, ℕ, List, [], length, true, false, sym, ap, subst, arith}
use Rattle.std.specs.Prelude.{map, slice_index}
use Rattle.dw_base.specs.declared.classes.Classes.{Classes}
use Rattle.dw_base.specs.declared.fault.Reach.TheVariants.{Narrow, Wide}
use Rattle.abbrev_tables.specs.LeastColumns.{IsLeastColumn, IsFirstColumn}
use Rattle.line_sums.specs.Accepted.{AreLeastRuns}
use Rattle.line_write.specs.Least.{LeastLines, OrderedLines}
use Rattle.line_write.specs.Meaning.{HaveMeanings}
use Rattle.written_files.specs.Kept.{HaveRunsIn}
use Rattle.companions.specs.declared.set.ArangeSet.{ArangeSet}
use Rattle.companions.specs.Aranges.{SetsTile}
use Rattle.list_model.specs.declared.entry.ListKind.{ListKind}
use Rattle.list_model.specs.declared.entry.ListKind.TheVariants.{Ranges, Locations}
use Rattle.value_links.specs.Sections.{debug_info, debug_abbrev, debug_addr, debug_aranges, debug_line, debug_lists}
use Rattle.value_links.specs.Reading.{Linkable, Reading, of_kind, line_heads, unit_starts, AreProgramsIn, AreUnitsIn}
use Rattle.value_links.specs.Whole.{AreContexts, ArePartsOf, IsReading}
use Rattle.loc_lists.specs.Views.{view_limit}
use Rattle.value_links.specs.Lists.{pair_total}
use Rattle.value_links.specs.ListFaults.{list_total, entry_total, expression_bytes}
use Rattle.value_links.specs.Debug.{Debug, set_meaning, parts_of, MeansDebug}
use Rattle.value_links.specs.Faults.{IsValid}
use Rattle.value_links.specs.Laws.{IsImageInOrder, AreUnitsInOrder, MeaningFilesAreValid}
use Rattle.value_links.specs.Same.{Same}
use Rattle.value_links.specs.World.{World, Holds, IsWorldOf}
use Rattle.rewriter.specs.declared.sections.NewSections.{NewSections}
use Rattle.rewriter.specs.inside.Bodies.{NewBytes}
use Rattle.rewriter.specs.inside.Sections.{HasSections}
use Rattle.written_files.specs.Classes.{OfBoth, HasLeastCodes, HasOrderedCodes, HaveLeastCodes, HaveOrderedCodes, HaveColumns, HaveLeastColumns, HaveFirstColumns, HaveLeastLists}
use Rattle.written_files.specs.Certificates.{IsCertificate, IsFirstCertificate}
use Rattle.written_files.specs.Layouts.{HaveLeastLayouts}
use Rattle.rewriter.specs.inside.Anew.{new_lists, AreAnew}
use Rattle.rewriter.specs.inside.Follows.{AreReadAnew}
use Rattle.written_files.specs.Tidy.{AreTidy, IsTidy}
use Rattle.rewriter.specs.inside.Rewritten.{IsRewritten}
use Rattle.rewriter.proofs.Certified.{accepted_runs_in, record_file}
use Rattle.rewriter.proofs.Codes.{least_codes, ordered_codes}
use Rattle.rewriter.proofs.ContextsStay.{contexts_stay, addresses_stay}
use Rattle.rewriter.proofs.Following.{links_follow}
use Rattle.rewriter.proofs.ListMeanings.{lists_stay, parts_follow, tidy_lists}
use Rattle.rewriter.proofs.ListRecords.{potentials_accepted, potentials_greatest}
use Rattle.rewriter.proofs.ListsWithin.{lists_within}
use Rattle.rewriter.proofs.RootsStay.{roots_stay}
use Rattle.rewriter.proofs.ViewsRead.{views_stay, tidy_views}
use Rattle.rewriter.proofs.WideExpressions.{expressions_are_wide}
use Rattle.rewriter.proofs.Tidied.{are_tidy}
use Rattle.rewriter.proofs.LeastColumns.{least_columns, first_columns}
use Rattle.rewriter.proofs.LeastLayouts.{least_layouts, ranks_there, first_ranks_there}
use Rattle.value_links.proofs.ValidImages.{image_in_order}

-- the new sections of a file, one by one
module _ (file written : List ℕ) (new : NewSections) (has : HasSections file new written) where
  abbrev none : NewBytes
  none = record { name = []; bytes = [] }

  info_is : debug_info written ≡ new.info.items
  info_is = has.sections 0 none (omega arith)

  abbrevs_are : debug_abbrev written ≡ new.abbrevs.items
  abbrevs_are = has.sections 1 none (omega arith)

  lines_are : debug_line written ≡ new.lines.items
  lines_are = has.sections 2 none (omega arith)

  lists_are : (kind : ListKind) → debug_lists written kind ≡ new_lists new kind
  lists_are Ranges = has.sections 3 none (omega arith)
  lists_are Locations = has.sections 4 none (omega arith)

  aranges_are : debug_aranges written ≡ new.aranges.items
  aranges_are = has.sections 5 none (omega arith)

module _ {classes : Classes} (file written : List ℕ) (world : World) (r s : Reading) (new : NewSections) (certificate : List ℕ) (read : IsReading file r) (holds : Holds file world r) (anew : AreAnew classes file world r s new certificate) (has : HasSections file new written) where
  all_anew : AreReadAnew classes file world anew.tables anew.places anew.new_places new.info.items new.abbrevs.items r s
  all_anew = record {
    read = read;
    holds = holds;
    tables_written = anew.tables_written;
    units = anew.units;
    programs = record { count = anew.programs.count; places = anew.programs.places };
    lists = anew.lists;
    views = anew.views;
    addresses = anew.addresses;
    contexts = anew.contexts;
  }

  -- the contributions of a kind are all of the written section
  parts_anew : (kind : ListKind) → ArePartsOf (debug_lists written kind) (of_kind s.links kind)
  parts_anew kind = record { bytes_are = anew.section kind ∙ sym (lists_are file written new has kind); tiled = (anew.lists kind).tiled }

  -- what is read of the new sections is what is read of the file that has them
  pub reads_anew : IsReading written s
  reads_anew =
      let by_abbrevs : AreUnitsIn new.info.items (debug_abbrev written) s.links.units = subst (λ (z : List ℕ). AreUnitsIn new.info.items z s.links.units) (sym (abbrevs_are file written new has)) anew.units.read in
      let addresses : s.links.addresses ≡ debug_addr written = anew.addresses ∙ read.links.addresses ∙ sym (addresses_stay file written has.image) in
      let contexts : AreContexts s.links.addresses s.links.units r.links.contexts = subst (λ (z : List ℕ). AreContexts z s.links.units r.links.contexts) (sym anew.addresses) (contexts_stay all_anew) in
      record {
        links = record {
          programs = subst (λ (z : List ℕ). AreProgramsIn z s.links.programs) (sym (lines_are file written new has)) anew.programs.read;
          units = subst (λ (z : List ℕ). AreUnitsIn z (debug_abbrev written) s.links.units) (sym (info_is file written new has)) by_abbrevs;
          addresses = addresses;
          contexts = subst (AreContexts s.links.addresses s.links.units) (sym anew.contexts) contexts;
          lists = parts_anew;
        };
        roots = roots_stay all_anew;
        lists = lists_stay all_anew;
        views = views_stay all_anew;
        sets = subst (λ (z : List ℕ). SetsTile z (unit_starts s.links.units) s.sets) (sym (aranges_are file written new has)) anew.sets.tiled;
      }

  -- it means the same
  pub means_anew : (debug : Debug) → MeansDebug file r debug → MeansDebug written s debug
  means_anew debug means = record {
    programs = subst (λ (z : List ℕ). HaveMeanings z (line_heads s.links.programs) debug.programs) (sym (lines_are file written new has)) (anew.programs.means debug.programs means.programs);
    units = links_follow classes file world anew.tables anew.places anew.new_places new.info.items new.abbrevs.items r s debug.units all_anew means.units;
    lists = λ kind. parts_follow all_anew kind (parts_of debug kind) (means.lists kind);
    aranges = means.aranges ∙ ap (λ (z : List ArangeSet). map set_meaning z) (sym anew.sets.same);
  }

  pub same_anew : (debug : Debug) → MeansDebug file r debug → Same file written
  same_anew debug means = record {
    debug = (debug, (r, read, means), (s, reads_anew, means_anew debug means));
    image = has.image;
    aranges = record {
      r = r;
      read = read;
      size = ap (λ (z : List ℕ). length z) (aranges_are file written new has) ∙ anew.sets.size;
      bytes = λ k outside. ap (λ (z : List ℕ). slice_index z k) (aranges_are file written new has) ∙ anew.sets.bytes k outside;
    };
  }

  units_in_order : AreUnitsInOrder written Wide s.links
  units_in_order = record {
    before = record { before = has.order; programs = reads_anew.links.programs; few = anew.programs.few };
    units = reads_anew.links.units;
    lists = parts_anew;
  }

  -- and it is valid
  pub valid_anew : MeaningFilesAreValid → (debug : Debug) → MeansDebug file r debug → entry_total r.range_lists + entry_total r.location_lists ≤ 2 ^ 24 → list_total expression_bytes r.range_lists + list_total expression_bytes r.location_lists ≤ 2 ^ 27 → pair_total r.views ≤ view_limit → IsValid written Wide
  valid_anew law debug means few short few_views =
      law written Wide s debug units_in_order reads_anew (means_anew debug means) (expressions_are_wide classes file world anew.tables anew.places anew.new_places new.info.items new.abbrevs.items r s all_anew) (lists_within all_anew few short few_views)

  -- both are read, so that what holds of what is read of them holds of both
  of_both : (Holds : Linkable → Linkable → Type 0) → Holds r.links s.links → OfBoth Holds file written
  of_both Holds is = (r, s, read, reads_anew, is)

  -- the codes of entries are least, and so are the forms of columns
  pub codes_anew : HaveLeastCodes file written
  codes_anew = of_both (λ a b. (u : ℕ) → u < length a.units → HasLeastCodes a b u) (least_codes all_anew)

  pub codes_in_order : HaveOrderedCodes file written
  codes_in_order = of_both (λ a b. (u : ℕ) → u < length a.units → HasOrderedCodes a b u) (ordered_codes all_anew)

  pub columns_anew : HaveLeastColumns classes file written
  columns_anew = of_both (HaveColumns (IsLeastColumn classes)) (least_columns all_anew)

  pub columns_in_order : HaveFirstColumns classes file written
  columns_in_order = of_both (HaveColumns (IsFirstColumn classes)) (first_columns all_anew)

  -- the references within each unit are in the least sizes
  pub layouts_anew : HaveLeastLayouts file written
  layouts_anew = (r, s, read, reads_anew, least_layouts all_anew anew.placed)

  -- each list is in the shortest bytes of its class
  pub lists_anew : HaveLeastLists classes file written
  lists_anew =
      (r, s, read, reads_anew, λ kind k inside. (let list = (anew.lists kind).each k inside in record { bytes = list.bytes; rest = list.rest; stands = list.stands; bare = list.bare; without = list.without; least = list.least }))

  -- the sections hold the tables, the units and the lists, and nothing else
  pub tidy_anew : IsTidy file written
  tidy_anew =
      let tidy : AreTidy new.abbrevs.items r s = are_tidy all_anew (λ kind. tidy_lists all_anew kind (anew.filled kind)) (tidy_views all_anew) in
      (r, s, read, reads_anew, subst (λ (z : List ℕ). AreTidy z r s) (sym (abbrevs_are file written new has)) tidy)

  -- the runs of the new programs are those of the file
  runs_anew : HaveRunsIn classes AreLeastRuns (debug_line written) anew.recorded.runs
  runs_anew = subst (λ (z : List ℕ). HaveRunsIn classes AreLeastRuns z anew.recorded.runs) (sym (lines_are file written new has)) anew.recorded.has_runs

  -- each record of the certificate is accepted
  pub certified_anew : IsCertificate classes written certificate
  certified_anew =
      let of_lines = accepted_runs_in classes (debug_line written) anew.recorded.runs runs_anew in
      let of_ranges = potentials_accepted all_anew Ranges anew.recorded.ranges anew.recorded.has_ranges in
      let of_locations = potentials_accepted all_anew Locations anew.recorded.locations anew.recorded.has_locations in
      let of_units = ranks_there all_anew anew.recorded.units anew.recorded.has_ranks in
      let all = record_file anew.recorded (debug_line written) s of_lines of_ranges of_locations of_units in
      (s, all.0, reads_anew, all.1, all.2)

  -- and is the first of those that are
  pub first_anew : IsFirstCertificate classes written certificate
  first_anew =
      let of_ranges = potentials_greatest all_anew Ranges anew.recorded.ranges anew.recorded.has_ranges in
      let of_locations = potentials_greatest all_anew Locations anew.recorded.locations anew.recorded.has_locations in
      let of_units = first_ranks_there all_anew anew.recorded.units anew.recorded.has_ranks in
      let all = record_file anew.recorded (debug_line written) s runs_anew of_ranges of_locations of_units in
      (s, all.0, reads_anew, all.1, all.2)

-- the sections of a valid file are written anew, and the file is assembled of them
pub rewritten : {classes : Classes} → (file image : List ℕ) (world : World) (new : NewSections) (written certificate : List ℕ) → MeaningFilesAreValid → (known : IsWorldOf file Narrow world) → entry_total known.r.range_lists + entry_total known.r.location_lists ≤ 2 ^ 24 → list_total expression_bytes known.r.range_lists + list_total expression_bytes known.r.location_lists ≤ 2 ^ 27 → image ≡ file → ((r : Reading) → IsReading file r → Holds file world r → (s : Reading) × AreAnew classes file world r s new certificate) → (classes.lines ≡ true → LeastLines (debug_line file) new.lines.items) → (classes.lines ≡ true → OrderedLines (debug_line file) new.lines.items) → (classes.lines ≡ false → new.lines.items ≡ debug_line file) → HasSections image new written → IsRewritten classes file written certificate
rewritten file image world new written certificate law known few short is anew least order kept has_image =
    let (s, all) = anew known.r known.read known.holds in
    let has : HasSections file new written = subst (λ (z : List ℕ). HasSections z new written) is has_image in
    record {
      same = same_anew file written world known.r s new certificate known.read known.holds all has known.debug known.means;
      still_valid = valid_anew file written world known.r s new certificate known.read known.holds all has law known.debug known.means few short known.few_views;
      least = record {
        least = λ lines. subst (λ (z : List ℕ). LeastLines (debug_line file) z) (sym (lines_are file written new has)) (least lines);
        kept = λ lines. lines_are file written new has ∙ kept lines;
      };
      order = λ lines. subst (λ (z : List ℕ). OrderedLines (debug_line file) z) (sym (lines_are file written new has)) (order lines);
      lists = lists_anew file written world known.r s new certificate known.read known.holds all has;
      tidy = tidy_anew file written world known.r s new certificate known.read known.holds all has;
      columns = columns_anew file written world known.r s new certificate known.read known.holds all has;
      columns_order = columns_in_order file written world known.r s new certificate known.read known.holds all has;
      codes = codes_anew file written world known.r s new certificate known.read known.holds all has;
      codes_order = codes_in_order file written world known.r s new certificate known.read known.holds all has;
      layouts = layouts_anew file written world known.r s new certificate known.read known.holds all has;
      placed = has.placed;
      certified = certified_anew file written world known.r s new certificate known.read known.holds all has;
      certified_first = first_anew file written world known.r s new certificate known.read known.holds all has;
    }

-- the image of the world of a valid file is in order
pub image_ordered : (file image : List ℕ) (world : World) → IsWorldOf file Narrow world → image ≡ file → IsImageInOrder image Narrow
image_ordered file image world known is = subst (λ (z : List ℕ). IsImageInOrder z Narrow) (sym is) (image_in_order file Narrow known.valid)
