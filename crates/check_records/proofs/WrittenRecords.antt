-- A certificate whose records are accepted by the sizes that numbers need is accepted by those that stand, where these are the same.
use Rattle.std.proofs.Common.{◌≡◌, ◌≤◌, ◌<◌, ◌+◌, ◌++◌, ℕ, zero, suc, List, [], ◌∷◌, length, get_or, take, sym, ap, ◌∙◌, refl, subst, arith}
use Rattle.std.specs.Prelude.{map, Bool, true, false, if◌then◌else◌}
use Rattle.std.specs.List.{AllZip}
use Rattle.std.proofs.lemmas.List.{get_or-map, length-map, take_all, take_more}
use Rattle.std.proofs.lemmas.Slice.Zip.{AllZip-long}
use Rattle.dw_base.specs.declared.classes.Classes.{Classes}
use Rattle.dw_base.specs.declared.record.Run.{Run}
use Rattle.leb_codec.specs.Layout.{AcceptsLayout}
use Rattle.leb_codec.specs.Records.{OfLines, OfList, OfLayout}
use Rattle.line_machine.specs.declared.head.Head.{Head}
use Rattle.line_sums.specs.Accepted.{AreAcceptedRuns}
use Rattle.line_write.specs.Records.{AreRunsFor, HaveRuns}
use Rattle.line_write.specs.Programs.{Tile as ProgramsTile}
use Rattle.line_write.proofs.Tiling.{one_tile}
use Rattle.list_model.specs.declared.entry.ListKind.TheVariants.{Ranges, Locations}
use Rattle.value_links.specs.Reading.{ProgramRead, Reading, line_heads, program_at, no_program}
use Rattle.value_links.specs.Sections.{debug_line}
use Rattle.check_records.specs.Accepted.{SaysOf, AreStandingRanks, accepting}
use Rattle.check_records.specs.Laws.{CertificatesAreAccepted}
use Rattle.check_records.specs.Parts.{Part, AProgram, AList, AUnit, numbers_below, program_count}
use Rattle.written_files.specs.Kept.{HaveRunsIn}
use Rattle.written_files.proofs.Zips.{zip_at, zip_append, zip_map}
use Rattle.check_records.proofs.StrayLaws.{zip_push}

-- what holds by number holds of the numbers below a count, and of those from the front
zip_front : {B : Type 0} (R : ℕ → B → Type 0) (bs : List B) (d : B) (n : ℕ) → n ≤ length bs → ((k : ℕ) → k < length bs → R k (get_or bs k d)) → AllZip R (numbers_below n) (take n bs)
zip_front R [] d zero within each = tt
zip_front R (b ∷ bs) d zero within each = tt
zip_front R bs d (suc n) within each =
    let next : suc n ≡ n + 1 = omega arith in
    let more : take (suc n) bs ≡ take n bs ++ get_or bs n d ∷ [] = ap (λ (z : ℕ). take z bs) next ∙ take_more bs n d (omega (arith, within)) in
    subst (AllZip R (numbers_below n ++ n ∷ [])) (sym more) (zip_push R (numbers_below n) (take n bs) n (get_or bs n d) (zip_front R bs d n (omega (arith, within)) each) (each n (omega (arith, within))))

zip_numbered : {B : Type 0} (R : ℕ → B → Type 0) (bs : List B) (d : B) (n : ℕ) → length bs ≡ n → ((k : ℕ) → k < n → R k (get_or bs k d)) → AllZip R (numbers_below n) bs
zip_numbered R bs d n size each =
    let below : (k : ℕ) → k < length bs → R k (get_or bs k d) = λ k less. each k (omega (arith, less, size)) in
    let front : AllZip R (numbers_below n) (take n bs) = zip_front R bs d n (omega (arith, size)) below in
    subst (AllZip R (numbers_below n)) (take_all n bs (omega (arith, size))) front

-- runs of heads are those of the programs with their numbers
runs_numbered : (lines : List ℕ) (s : Reading) (runs : List (List Run)) → AllZip (AreRunsFor AreAcceptedRuns lines) (line_heads s.links.programs) runs → AllZip (SaysOf accepting lines s) (map AProgram (numbers_below (length s.links.programs))) (map OfLines runs)
runs_numbered lines s runs all =
    let size : length (line_heads s.links.programs) ≡ length s.links.programs = length-map s.links.programs (λ (p : ProgramRead). p.head) in
    let long : length (line_heads s.links.programs) ≡ length runs = sym (AllZip-long (AreRunsFor AreAcceptedRuns lines) (line_heads s.links.programs) runs all) in
    let each : (k : ℕ) → k < length s.links.programs → AreRunsFor AreAcceptedRuns lines (program_at s.links k).head (get_or runs k []) = λ k less.
    (let head : get_or (line_heads s.links.programs) k no_program.head ≡ (program_at s.links k).head = get_or-map (λ (p : ProgramRead). p.head) s.links.programs k no_program no_program.head less in
    subst (λ (z : Head). AreRunsFor AreAcceptedRuns lines z (get_or runs k [])) head (zip_at (AreRunsFor AreAcceptedRuns lines) (line_heads s.links.programs) runs k no_program.head [] all (omega (arith, less, size)))) in
    zip_map (SaysOf accepting lines s) AProgram OfLines (numbers_below (length s.links.programs)) runs (zip_numbered (λ (k : ℕ) (one : List Run). AreRunsFor AreAcceptedRuns lines (program_at s.links k).head one) runs [] (length s.links.programs) (omega (arith, size, long)) each)

-- those that are searched, and none where they are kept
runs_when : (on : Bool) (lines : List ℕ) (s : Reading) (runs : List (List Run)) → ProgramsTile lines (line_heads s.links.programs) → (on ≡ true → HaveRuns AreAcceptedRuns lines runs) → (on ≡ false → runs ≡ []) → AllZip (SaysOf accepting lines s) (map AProgram (numbers_below (if on then length s.links.programs else 0))) (map OfLines runs)
runs_when true lines s runs tile searched kept =
    let (heads, tiled, all) = searched refl in
    let same : heads ≡ line_heads s.links.programs = one_tile lines heads (line_heads s.links.programs) 0 tiled tile in
    runs_numbered lines s runs (subst (λ (z : List Head). AllZip (AreRunsFor AreAcceptedRuns lines) z runs) same all)
runs_when false lines s runs tile searched kept = subst (λ (z : List (List Run)). AllZip (SaysOf accepting lines s) [] (map OfLines z)) (sym (kept refl)) tt

runs_in : (classes : Classes) (lines : List ℕ) (s : Reading) (runs : List (List Run)) → ProgramsTile lines (line_heads s.links.programs) → HaveRunsIn classes AreAcceptedRuns lines runs → AllZip (SaysOf accepting lines s) (map AProgram (numbers_below (program_count classes s))) (map OfLines runs)
runs_in classes lines s runs tile have = runs_when classes.lines lines s runs tile have.searched have.kept

pub certificates_accepted : CertificatesAreAccepted
certificates_accepted classes written certificate stand (s, records, read, of_file, spelled) =
    let lines : List ℕ = debug_line written in
    let (ranges, searched_ranges, ranges_all) = of_file.has_ranges in
    let (locations, searched_locations, locations_all) = of_file.has_locations in
    let programs : List Part = map AProgram (numbers_below (program_count classes s)) in
    let units : List Part = map AUnit (numbers_below (length s.links.units)) in
    let of_runs : AllZip (SaysOf accepting lines s) programs (map OfLines of_file.runs) = runs_in classes lines s of_file.runs read.links.programs.tiled of_file.has_runs in
    let of_ranges : AllZip (SaysOf accepting lines s) (map (AList Ranges) ranges) (map OfList of_file.ranges) = zip_map (SaysOf accepting lines s) (AList Ranges) OfList ranges of_file.ranges ranges_all in
    let of_locations : AllZip (SaysOf accepting lines s) (map (AList Locations) locations) (map OfList of_file.locations) = zip_map (SaysOf accepting lines s) (AList Locations) OfList locations of_file.locations locations_all in
    let of_units : AllZip (SaysOf accepting lines s) units (map OfLayout of_file.ranks) = zip_map (SaysOf accepting lines s) AUnit OfLayout (numbers_below (length s.links.units)) of_file.ranks (zip_numbered (AreStandingRanks AcceptsLayout s) of_file.ranks [] (length s.links.units) of_file.has_ranks.count (λ u less.
    (let (rows, sizes, layout, accepted) = of_file.has_ranks.each u less in (rows, sizes, stand s read u less rows sizes layout, accepted)))) in
    let all = zip_append (SaysOf accepting lines s) programs (map (AList Ranges) ranges ++ (map (AList Locations) locations ++ units)) (map OfLines of_file.runs) (map OfList of_file.ranges ++ (map OfList of_file.locations ++ map OfLayout of_file.ranks)) of_runs
    (zip_append (SaysOf accepting lines s) (map (AList Ranges) ranges) (map (AList Locations) locations ++ units) (map OfList of_file.ranges) (map OfList of_file.locations ++ map OfLayout of_file.ranks) of_ranges (zip_append (SaysOf accepting lines s) (map (AList Locations) locations) units (map OfList of_file.locations) (map OfLayout of_file.ranks) of_locations of_units)) in
    let parts : List Part = programs ++ (map (AList Ranges) ranges ++ (map (AList Locations) locations ++ units)) in
    record {
      s = s;
      parts = parts;
      records = records;
      judged = record {
        read = read;
        of_file = record { ranges = ranges; searched_ranges = searched_ranges; locations = locations; searched_locations = searched_locations; whole = refl };
        spelled = spelled;
      };
      each = subst (AllZip (SaysOf accepting lines s) parts) (sym of_file.whole) all;
    }
