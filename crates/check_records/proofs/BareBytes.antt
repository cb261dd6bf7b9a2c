-- The bytes of a list without its expressions are as many as are counted.
use Rattle.std.proofs.Common.{◌≡◌, ◌≤◌, ◌+◌, ◌-◌, ◌∙◌, ℕ, List, [], ◌∷◌, ◌++◌, length, take, drop, sym, ap, refl, subst, arith}
use Rattle.std.proofs.lemmas.List.{append_assoc, length-append, length-drop, take-append-drop, drop-drop}
use Rattle.std.proofs.Math.Seq.{take-append_seam, drop-append_seam}
use Rattle.entry_arena.specs.Trees.{bytes_between}
use Rattle.list_model.specs.declared.contribution.Contribution.{Contribution}
use Rattle.list_model.specs.declared.entry.ListKind.{ListKind}
use Rattle.list_model.specs.declared.entry.ListKind.TheVariants.{Ranges, Locations}
use Rattle.list_model.specs.declared.entry.RawEntry.{RawEntry}
use Rattle.list_model.specs.Contributions.{part_end, bytes_from}
use Rattle.list_model.specs.Entries.{Entry, SpellsOperands, SpellsEntry, IsListEnd, Says, AreSaid, SpellsList}
use Rattle.list_model.specs.Reading.{AreReadFrom}
use Rattle.list_model.proofs.WalkLaws.{one_saying}
use Rattle.range_lists.specs.Ranges.{IsRead as IsRangeRead}
use Rattle.range_lists.proofs.RangeLaws.{joined, said as ranges_said}
use Rattle.loc_lists.specs.Apart.{StandApart}
use Rattle.loc_lists.specs.Locations.{SpellsBehind, entries_of, IsRead as IsLocationRead}
use Rattle.loc_lists.proofs.LocationLaws.{said as locations_said}
use Rattle.unit_slots.specs.Standing.{OperandsEnd}
use Rattle.written_files.specs.Certificates.{IsListWithout}
use Rattle.value_links.specs.Lists.{IsListOf}
use Rattle.check_records.specs.inside.Bare.{StandFrom, HasBareSize}
use Rattle.check_records.proofs.BareSizes.{ends_once}

-- ---- an entry

pub behind_code : (section own rest : List ℕ) (at code : ℕ) (operands : List ℕ) → own ≡ code ∷ operands → drop at section ≡ own ++ rest → drop (at + 1) section ≡ operands ++ rest
behind_code section own rest at code operands is whole = sym (drop-drop 1 at section) ∙ ap (λ (z : List ℕ). drop 1 z) (whole ∙ ap (λ (z : List ℕ). z ++ rest) is)

-- the operands of an entry that stands at a place end with its bytes
entry_ends : (list : ListKind) (section : List ℕ) (raw : RawEntry) (entry : Entry) (own rest : List ℕ) → Says list raw entry → SpellsEntry list entry own → drop raw.at section ≡ own ++ rest → OperandsEnd list section raw (raw.at + length own)
entry_ends list section raw entry own rest says spelled whole =
    let operands = spelled.operands in
    let size : length own ≡ length operands + 1 = ap length spelled.whole ∙ omega arith in
    let total : length section - raw.at ≡ length own + length rest = sym (length-drop raw.at section) ∙ ap length whole ∙ length-append own rest in
    let count : (raw.at + length own) - (raw.at + 1) ≡ length operands = omega (arith, size) in
    let are : bytes_between section (raw.at + 1) (raw.at + length own) ≡ operands =
    ap (λ (n : ℕ). take n (drop (raw.at + 1) section)) count
    ∙ ap (take (length operands)) (behind_code section own rest raw.at spelled.code operands spelled.whole whole)
    ∙ take-append_seam operands rest in
    record {
      kind = entry.kind;
      known = says.of_code;
      operands = (entry.a, entry.b);
      spelled = record {
        order = omega (arith, size);
        inside = omega (arith, size, total);
        spelled = subst (λ (z : List ℕ). SpellsOperands entry.kind (entry.a, entry.b) z) (sym are) spelled.spelled;
      };
    }

-- what stands behind some bytes of a section
pub onward : (section first rest : List ℕ) (at : ℕ) → drop at section ≡ first ++ rest → drop (at + length first) section ≡ rest
onward section first rest at whole = sym (drop-drop (length first) at section) ∙ ap (drop (length first)) whole ∙ drop-append_seam first rest

stand_sooner : (kind : ListKind) (section : List ℕ) (from behind : ℕ) (raws : List RawEntry) → from ≤ behind → StandFrom kind section behind raws → StandFrom kind section from raws
stand_sooner kind section from behind [] less stand = tt
stand_sooner kind section from behind (raw ∷ raws) less (later, more) = (omega (arith, less, later), more)

module _ (list : ListKind) (section : List ℕ) (raw : RawEntry) (raws : List RawEntry) (entry : Entry) (own behind rest : List ℕ) (says : Says list raw entry) (spelled : SpellsEntry list entry own) (whole : drop raw.at section ≡ own ++ (behind ++ rest)) where
  ends : OperandsEnd list section raw (raw.at + length own)
  ends = entry_ends list section raw entry own (behind ++ rest) says spelled whole

  -- entries that stand behind it stand behind its operands
  stand_more : StandFrom list section (raw.at + length own + length behind) raws → StandFrom list section raw.at (raw ∷ raws)
  stand_more stand = (omega arith, (raw.at + length own, ends, stand_sooner list section (raw.at + length own) (raw.at + length own + length behind) raws (omega arith) stand))

  -- its own bytes are counted, and those behind
  size_more : (size : ℕ) → HasBareSize list section (raw ∷ raws) size → (more : ℕ) × HasBareSize list section raws more × (size ≡ length own + more)
  size_more size (end, more, there, sized, is) =
      let same : end ≡ raw.at + length own = ends_once list section raw end (raw.at + length own) there ends in
      (more, sized, omega (arith, is, same))

-- ---- range lists

ranges_stand : (section : List ℕ) (at : ℕ) (raws : List RawEntry) (entries : List Entry) (front rest : List ℕ) → AreReadFrom IsRangeRead at raws entries front → drop at section ≡ front ++ rest → StandFrom Ranges section at raws
ranges_stand section at [] [] front rest read whole = tt
ranges_stand section at [] (e ∷ es) front rest read whole = absurd read
ranges_stand section at (r ∷ raws) [] front rest read whole = absurd read
ranges_stand section at (r ∷ raws) (e ∷ es) front rest (first, others, here, more, is) whole =
    let parted : drop at section ≡ first ++ (others ++ rest) = whole ∙ ap (λ (z : List ℕ). z ++ rest) is ∙ append_assoc first others rest in
    let placed : drop r.at section ≡ first ++ ([] ++ (others ++ rest)) = ap (λ (n : ℕ). drop n section) here.place ∙ parted in
    let behind = ranges_stand section (at + length first) raws es others rest more (onward section first (others ++ rest) at parted) in
    let place : at + length first ≡ r.at + length first + 0 = ap (λ (n : ℕ). n + length first) (sym here.place) ∙ omega arith in
    subst (λ (n : ℕ). StandFrom Ranges section n (r ∷ raws)) here.place
    (stand_more Ranges section r raws e first [] (others ++ rest) here.says here.spelled placed (subst (λ (n : ℕ). StandFrom Ranges section n raws) place behind))

ranges_sized : (section : List ℕ) (at : ℕ) (raws : List RawEntry) (entries : List Entry) (front rest : List ℕ) → AreReadFrom IsRangeRead at raws entries front → drop at section ≡ front ++ rest → (size : ℕ) → HasBareSize Ranges section raws size → size ≡ length front + 1
ranges_sized section at [] [] front rest read whole size sized = sized ∙ ap (λ (z : List ℕ). length z + 1) (sym read)
ranges_sized section at [] (e ∷ es) front rest read whole size sized = absurd read
ranges_sized section at (r ∷ raws) [] front rest read whole size sized = absurd read
ranges_sized section at (r ∷ raws) (e ∷ es) front rest (first, others, here, more, is) whole size sized =
    let parted : drop at section ≡ first ++ (others ++ rest) = whole ∙ ap (λ (z : List ℕ). z ++ rest) is ∙ append_assoc first others rest in
    let placed : drop r.at section ≡ first ++ ([] ++ (others ++ rest)) = ap (λ (n : ℕ). drop n section) here.place ∙ parted in
    let (left, counted, sum) = size_more Ranges section r raws e first [] (others ++ rest) here.says here.spelled placed size sized in
    let behind : left ≡ length others + 1 = ranges_sized section (at + length first) raws es others rest more (onward section first (others ++ rest) at parted) left counted in
    let all : length front ≡ length first + length others = ap length is ∙ length-append first others in
    omega (arith, sum, behind, all)

-- ---- location lists

-- an entry and its expression are there, and then others
pub parted_at : (section : List ℕ) (at : ℕ) (own behind first others front rest : List ℕ) → first ≡ own ++ behind → front ≡ first ++ others → drop at section ≡ front ++ rest → drop at section ≡ own ++ (behind ++ (others ++ rest))
parted_at section at own behind first others front rest parts is whole =
    whole
    ∙ ap (λ (z : List ℕ). z ++ rest) is
    ∙ append_assoc first others rest
    ∙ ap (λ (z : List ℕ). z ++ (others ++ rest)) parts
    ∙ append_assoc own behind (others ++ rest)

locations_stand : (section : List ℕ) (at : ℕ) (raws : List RawEntry) (locations : List (Entry × List ℕ)) (front rest : List ℕ) → AreReadFrom IsLocationRead at raws locations front → drop at section ≡ front ++ rest → StandFrom Locations section at raws
locations_stand section at [] [] front rest read whole = tt
locations_stand section at [] (l ∷ ls) front rest read whole = absurd read
locations_stand section at (r ∷ raws) [] front rest read whole = absurd read
locations_stand section at (r ∷ raws) (l ∷ ls) front rest (first, others, here, more, is) whole =
    let (own, behind, entry, after, parts) = here.spelled in
    let next : drop (at + length first) section ≡ others ++ rest = onward section first (others ++ rest) at (whole ∙ ap (λ (z : List ℕ). z ++ rest) is ∙ append_assoc first others rest) in
    let placed : drop r.at section ≡ own ++ (behind ++ (others ++ rest)) = ap (λ (n : ℕ). drop n section) here.place ∙ parted_at section at own behind first others front rest parts is whole in
    let stand = locations_stand section (at + length first) raws ls others rest more next in
    let size : length first ≡ length own + length behind = ap length parts ∙ length-append own behind in
    let place : at + length first ≡ r.at + length own + length behind = omega (arith, size, here.place) in
    subst (λ (n : ℕ). StandFrom Locations section n (r ∷ raws)) here.place
    (stand_more Locations section r raws l.0 own behind (others ++ rest) here.says entry placed (subst (λ (n : ℕ). StandFrom Locations section n raws) place stand))

locations_sized : (section : List ℕ) (at : ℕ) (raws : List RawEntry) (locations : List (Entry × List ℕ)) (front rest end : List ℕ) → IsListEnd end → AreReadFrom IsLocationRead at raws locations front → drop at section ≡ front ++ rest → (size : ℕ) → HasBareSize Locations section raws size → (bare : List ℕ) × (length bare ≡ size) × StandApart SpellsBehind locations (front ++ end) bare
locations_sized section at [] [] front rest end ended read whole size sized =
    let same : front ++ end ≡ end = ap (λ (z : List ℕ). z ++ end) read in
    (front ++ end, ap length same ∙ ap length ended ∙ sym sized, (same ∙ ended, refl))
locations_sized section at [] (l ∷ ls) front rest end ended read whole size sized = absurd read
locations_sized section at (r ∷ raws) [] front rest end ended read whole size sized = absurd read
locations_sized section at (r ∷ raws) (l ∷ ls) front rest end ended (first, others, here, more, is) whole size sized =
    let (own, behind, entry, after, parts) = here.spelled in
    let next : drop (at + length first) section ≡ others ++ rest = onward section first (others ++ rest) at (whole ∙ ap (λ (z : List ℕ). z ++ rest) is ∙ append_assoc first others rest) in
    let placed : drop r.at section ≡ own ++ (behind ++ (others ++ rest)) = ap (λ (n : ℕ). drop n section) here.place ∙ parted_at section at own behind first others front rest parts is whole in
    let (left, counted, sum) = size_more Locations section r raws l.0 own behind (others ++ rest) here.says entry placed size sized in
    let (bare, count, apart) = locations_sized section (at + length first) raws ls others rest end ended more next left counted in
    let all : length (own ++ bare) ≡ length own + length bare = length-append own bare in
    let joined_up : front ++ end ≡ own ++ (behind ++ (others ++ end)) =
    ap (λ (z : List ℕ). z ++ end) is
    ∙ append_assoc first others end
    ∙ ap (λ (z : List ℕ). z ++ (others ++ end)) parts
    ∙ append_assoc own behind (others ++ end) in
    (own ++ bare, omega (arith, all, count, sum), (own, behind, others ++ end, bare, entry, after, apart, joined_up, refl))

-- ---- lists of both kinds

-- what is read of a list stands in its section
pub in_section : (section : List ℕ) (part : Contribution) (at : ℕ) (front rest : List ℕ) → bytes_from section part at ≡ front ++ rest → drop at section ≡ front ++ (rest ++ drop (part_end part - at) (drop at section))
in_section section part at front rest whole =
    let behind : List ℕ = drop (part_end part - at) (drop at section) in
    sym (take-append-drop (part_end part - at) (drop at section)) ∙ ap (λ (z : List ℕ). z ++ behind) whole ∙ append_assoc front rest behind

pub list_stands : (kind : ListKind) (section : List ℕ) (part : Contribution) (at : ℕ) (raws : List RawEntry) → IsListOf kind section part at raws → StandFrom kind section 0 raws
list_stands Ranges section part at raws read =
    stand_sooner Ranges section 0 at raws (omega arith) (ranges_stand section at raws read.entries read.front _ read.read (in_section section part at read.front (read.end ++ read.rest) read.whole))
list_stands Locations section part at raws read =
    stand_sooner Locations section 0 at raws (omega arith) (locations_stand section at raws read.entries read.front _ read.read (in_section section part at read.front (read.end ++ read.rest) read.whole))

-- a list stands at its place, and without its expressions it has as many bytes as are counted
pub record StandsBare (kind : ListKind) (section : List ℕ) (part : Contribution) (at : ℕ) (entries : List Entry) (size : ℕ) : Type 0 where
  pub bytes : List ℕ
  pub rest : List ℕ
  pub stands : bytes_from section part at ≡ bytes ++ rest
  pub bare : List ℕ
  pub without : IsListWithout kind entries bytes bare
  pub count : length bare ≡ size

pub list_bare : (kind : ListKind) (section : List ℕ) (part : Contribution) (at : ℕ) (raws : List RawEntry) (entries : List Entry) (size : ℕ) → IsListOf kind section part at raws → AreSaid kind raws entries → HasBareSize kind section raws size → StandsBare kind section part at entries size
list_bare Ranges section part at raws entries size read said sized =
    let same : read.entries ≡ entries = one_saying Ranges raws read.entries entries (ranges_said at raws read.entries read.front read.read) said in
    let spelled : SpellsList Ranges read.entries (read.front ++ read.end) = (read.front, read.end, joined at raws read.entries read.front read.read, read.ended, refl) in
    let counted : size ≡ length read.front + 1 = ranges_sized section at raws read.entries read.front _ read.read (in_section section part at read.front (read.end ++ read.rest) read.whole) size sized in
    let ended : length read.end ≡ 1 = ap length read.ended in
    let all : length (read.front ++ read.end) ≡ length read.front + length read.end = length-append read.front read.end in
    record {
      bytes = read.front ++ read.end;
      rest = read.rest;
      stands = read.whole ∙ sym (append_assoc read.front read.end read.rest);
      bare = read.front ++ read.end;
      without = (subst (λ (z : List Entry). SpellsList Ranges z (read.front ++ read.end)) same spelled, refl);
      count = omega (arith, counted, ended, all);
    }
list_bare Locations section part at raws entries size read said sized =
    let same : entries_of read.entries ≡ entries = one_saying Locations raws (entries_of read.entries) entries (locations_said at raws read.entries read.front read.read) said in
    let (bare, counted, apart) = locations_sized section at raws read.entries read.front _ read.end read.ended read.read (in_section section part at read.front (read.end ++ read.rest) read.whole) size sized in
    record {
      bytes = read.front ++ read.end;
      rest = read.rest;
      stands = read.whole ∙ sym (append_assoc read.front read.end read.rest);
      bare = bare;
      without = (read.entries, same, apart);
      count = counted;
    }
