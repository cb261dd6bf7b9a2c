-- The records of the first parts, which are accepted, and the first that isn't.
use Rattle.std.proofs.Common.{◌≡◌, ◌≤◌, ◌<◌, ◌+◌, ◌∙◌, inl, inr, ℕ, suc, List, [], ◌∷◌, ◌++◌, length, get_or, take, drop, map, sym, ap, subst, refl, arith}
use Rattle.std.specs.Prelude.{Some, None}
use Rattle.std.specs.List.{All, AllZip}
use Rattle.std.proofs.lemmas.Bool.{cases_lt}
use Rattle.std.proofs.lemmas.List.{append-nil, take-append-drop, take_all, take_more, drop_all, drop_more, length-drop, length-map, length-take-le, get_or-map, get_or_append_left, get_or_default}
use Rattle.std.proofs.lemmas.List.Elements.{All-append, All-map, All-same, All-weaker}
use Rattle.dw_base.specs.declared.classes.Classes.{Classes}
use Rattle.dw_base.specs.declared.fault.Reach.{Reach}
use Rattle.spelled.specs.Spelled.{Joined}
use Rattle.spelled.proofs.Joins.{joined_filled}
use Rattle.leb_codec.specs.Records.{Record, SpellsRecord, HasNone}
use Rattle.list_model.specs.declared.entry.ListKind.{ListKind}
use Rattle.list_model.specs.declared.entry.ListKind.TheVariants.{Ranges, Locations}
use Rattle.certificates.specs.Reading.{IsRead}
use Rattle.certificates.proofs.Ends.{record_bytes}
use Rattle.same_meaning.specs.declared.reason.Reason.{Reason}
use Rattle.value_links.specs.Reading.{Reading}
use Rattle.value_links.specs.Sections.{debug_line}
use Rattle.value_links.specs.Whole.{IsReading}
use Rattle.value_links.specs.World.{World, IsWorldOf}
use Rattle.value_links.proofs.ReadingOnce.{reading_once}
use Rattle.check_records.specs.declared.parts.Part.{Part as HeldPart}
use Rattle.check_records.specs.declared.parts.Part.TheVariants as held
use Rattle.check_records.specs.Accepted.{SaysOf, accepting, IsNamedBy, IsAccepted, IsFirstRefused}
use Rattle.check_records.specs.Parts.{Part, AProgram, AList, AUnit, numbers_below, IsFor, AreParts, HasRecords, program_count}
use Rattle.check_records.specs.inside.Judged.{IsVerdictOn}
use Rattle.check_records.specs.inside.Parts.{part_of, parts_of, IsBehindPrograms}
use Rattle.check_records.proofs.Numbers.{below_length, below_all}
use Rattle.check_records.proofs.PartLists.{part_here, parts_once, no_more, programs_held, programs_counted}
use Rattle.check_records.proofs.SaidOnce.{IsKnown, StandOnce, says_apart}
use Rattle.check_records.proofs.Standing.{Standing, Left, standing_none, standing_more, standing_left, left_read, left_stands}
use Rattle.check_records.proofs.StrayLaws.{zip_push, zip_behind, judged_once}

-- THE RECORDS OF THE FIRST PARTS

-- they stand up to a place, and each is accepted
pub record AcceptedUpTo (classes : Classes) (written certificate : List ℕ) (at : ℕ) (parts : List Part) : Type 0 where
  pub records : List Record
  pub standing : Standing classes certificate at records
  pub each : (s : Reading) → IsReading written s → AllZip (SaysOf accepting (debug_line written) s) parts records

pub accepted_start : (classes : Classes) (written certificate : List ℕ) → HasRecords classes written certificate → AcceptedUpTo classes written certificate 8 []
accepted_start classes written certificate has =
    let (body, j, e) = has.judged.spelled in
    record { records = []; standing = standing_none classes certificate body e; each = λ s read. tt }

zip_none : {A B : Type 0} (R : A → B → Type 0) (xs : List A) (ys : List B) → AllZip R xs ys → length xs ≡ 0 → ys ≡ []
zip_none R [] [] all none = refl
zip_none R [] (y ∷ ys) all none = absurd all
zip_none R (x ∷ xs) ys all none = absurd (omega (arith, none))

zip_some : {A B : Type 0} (R : A → B → Type 0) (xs : List A) (ys : List B) → AllZip R xs ys → 0 < length xs → 0 < length ys
zip_some R [] ys all some = absurd (omega (arith, some))
zip_some R (x ∷ xs) [] all some = absurd all
zip_some R (x ∷ xs) (y ∷ ys) all some = omega arith

zip_first : {A B : Type 0} (R : A → B → Type 0) (xs : List A) (ys : List B) (x : A) (y : B) (more : List A) (others : List B) → xs ≡ x ∷ more → ys ≡ y ∷ others → AllZip R xs ys → R x y
zip_first {A} {B} R xs ys x y more others p q all =
    let moved : AllZip R (x ∷ more) ys = subst (λ (z : List A). AllZip R z ys) p all in
    let both : AllZip R (x ∷ more) (y ∷ others) = subst (λ (z : List B). AllZip R (x ∷ more) z) q moved in
    both.0

filled : (behind : List Record) (bytes : List ℕ) → Joined SpellsRecord behind bytes → 0 < length behind → 0 < length bytes
filled [] bytes j some = absurd (omega (arith, some))
filled (one ∷ behind) bytes j some = joined_filled SpellsRecord record_bytes one behind bytes j

-- a program stands among the first parts, and nothing else
front_program : (xs : List ℕ) (rest : List Part) (kind : ListKind) (i k : ℕ) (d : Part) → i < length xs → get_or (map AProgram xs ++ rest) i d ≡ AList kind k → ⊥
front_program xs rest kind i k d inside same =
    let here : get_or (map AProgram xs ++ rest) i d ≡ AProgram (get_or xs i 0) = get_or_append_left (map AProgram xs) rest d i (omega (arith, inside, length-map xs AProgram)) ∙ get_or-map AProgram xs i 0 d inside in
    let wrong : AProgram (get_or xs i 0) ≡ AList kind k = sym here ∙ same in
    cc

not_early : (classes : Classes) (s : Reading) (parts : List Part) (kind : ListKind) (i k : ℕ) (d : Part) → AreParts classes s parts → i < program_count classes s → get_or parts i d ≡ AList kind k → ⊥
not_early classes s parts kind i k d are early same =
    front_program (numbers_below (program_count classes s)) (map (AList Ranges) are.ranges ++ (map (AList Locations) are.locations ++ map AUnit (numbers_below (length s.links.units)))) kind i k d
    (omega (arith, early, below_length (program_count classes s))) (ap (λ (z : List Part). get_or z i d) (sym are.whole) ∙ same)

behind_if : (classes : Classes) (s : Reading) (parts : List Part) (part : HeldPart) (programs i : ℕ) (d : Part) → AreParts classes s parts → programs ≡ program_count classes s → get_or parts i d ≡ part_of part → IsBehindPrograms part programs i
behind_if classes s parts (held.Program p) programs i d are count same = tt
behind_if classes s parts (held.Unit u) programs i d are count same = tt
behind_if classes s parts (held.List kind k) programs i d are count same = elim (cases_lt i programs) [
  | inl early ↦ absurd (not_early classes s parts kind i k d are (omega (arith, early, count)) same)
  | inr late ↦ late
]

module _ (classes : Classes) (world : World) (some : (reach : Reach) × IsWorldOf world.image reach world) (certificate : List ℕ) (has : HasRecords classes world.image certificate) (items kept : List HeldPart) (same : items ≡ kept) (are : (s : Reading) → IsReading world.image s → AreParts classes s (parts_of kept)) (i at : ℕ) (m : AcceptedUpTo classes world.image certificate at (take i (parts_of items))) where
  parts_are : (s : Reading) → IsReading world.image s → AreParts classes s (parts_of items)
  parts_are s read = subst (λ (z : List HeldPart). AreParts classes s (parts_of z)) (sym same) (are s read)

  count : length (parts_of items) ≡ length items
  count = length-map items part_of

  rest : Left certificate at m.records has.records
  rest = standing_left classes certificate at m.records has.records m.standing has.judged.spelled

  parts_same : has.parts ≡ parts_of items
  parts_same = parts_once classes has.s has.parts (parts_of items) has.judged.of_file (parts_are has.s has.judged.read)

  kinds : AllZip IsFor (drop i (parts_of items)) rest.behind
  kinds =
      let first : AllZip IsFor (take i (parts_of items) ++ drop i (parts_of items)) has.records = subst (λ (z : List Part). AllZip IsFor z has.records) (parts_same ∙ sym (take-append-drop i (parts_of items))) has.each in
      zip_behind (SaysOf accepting (debug_line world.image) has.s) IsFor (take i (parts_of items)) (drop i (parts_of items)) m.records rest.behind (m.each has.s has.judged.read) (subst (λ (z : List Record). AllZip IsFor (take i (parts_of items) ++ drop i (parts_of items)) z) rest.whole first)

  -- there is a record for the next part
  pub next_there : i < length items → at < length certificate
  next_there inside =
      let more : 0 < length rest.behind = zip_some IsFor (drop i (parts_of items)) rest.behind kinds (omega (arith, inside, count, length-drop i (parts_of items))) in
      let bytes : 0 < length (drop at certificate) = filled rest.behind (drop at certificate) rest.spelled more in
      omega (arith, bytes, length-drop at certificate)

  pub next_stands : i < length items → HasNone SpellsRecord (drop at certificate) → ⊥
  next_stands inside none = left_stands certificate at rest.behind rest.spelled (next_there inside) none

  module _ (d : HeldPart) (inside : i < length items) where
    here : part_of (get_or items i d) ≡ get_or (parts_of items) i (part_of (get_or items i d))
    here = part_here items i (get_or items i d) inside (get_or_default items i d (get_or items i d) inside)

    front : drop i (parts_of items) ≡ part_of (get_or items i d) ∷ drop (i + 1) (parts_of items)
    front = drop_more (parts_of items) i (part_of (get_or items i d)) (omega (arith, inside, count)) ∙ ap (λ (z : Part). z ∷ drop (i + 1) (parts_of items)) (sym here)

    pub next_behind : (programs : ℕ) → programs ≡ programs_held classes world → IsBehindPrograms (get_or items i d) programs i
    next_behind programs is =
        behind_if classes some.1.r (parts_of items) (get_or items i d) programs i (part_of (get_or items i d)) (parts_are some.1.r some.1.read) (is ∙ programs_counted classes world some.0 some.1) (sym here)

    module _ (one : Record) (next : ℕ) (read : IsRead SpellsRecord certificate at one next) where
      found : (more : List Record) × (rest.behind ≡ one ∷ more)
      found = left_read certificate at rest.behind one next rest.spelled (next_there inside) read

      -- it is of the kind of the part
      pub next_kind : IsFor (part_of (get_or items i d)) one
      next_kind = zip_first IsFor (drop i (parts_of items)) rest.behind (part_of (get_or items i d)) one (drop (i + 1) (parts_of items)) found.0 front found.1 kinds

      pub next_accepted : IsVerdictOn world.image (part_of (get_or items i d)) one None → AcceptedUpTo classes world.image certificate next (take (i + 1) (parts_of items))
      next_accepted given =
          let more : take (i + 1) (parts_of items) ≡ take i (parts_of items) ++ part_of (get_or items i d) ∷ [] = take_more (parts_of items) i (part_of (get_or items i d)) (omega (arith, inside, count)) ∙ ap (λ (z : Part). take i (parts_of items) ++ z ∷ []) (sym here) in
          record {
            records = m.records ++ one ∷ [];
            standing = standing_more classes certificate at m.records one next m.standing read;
            each = λ s reading. subst (λ (z : List Part). AllZip (SaysOf accepting (debug_line world.image) s) z (m.records ++ one ∷ [])) (sym more)
                (zip_push (SaysOf accepting (debug_line world.image) s) (take i (parts_of items)) m.records (part_of (get_or items i d)) one (m.each s reading) (given s reading));
          }

      pub next_refused : (n : ℕ) (why : Reason) (programs : ℕ) → programs ≡ programs_held classes world → IsVerdictOn world.image (part_of (get_or items i d)) one (Some n) → ((s : Reading) → program_count classes s ≡ programs → IsNamedBy classes s (part_of (get_or items i d)) i n why) → IsFirstRefused classes world.image certificate why
      next_refused n why programs is against named =
          let reading : some.1.r ≡ has.s = reading_once world.image some.1.r has.s some.1.read has.judged.read in
          let counted : program_count classes has.s ≡ programs = ap (λ (z : Reading). program_count classes z) (sym reading) ∙ sym (is ∙ programs_counted classes world some.0 some.1) in
          let before : length (take i (parts_of items)) ≡ i = length-take-le i (parts_of items) (omega (arith, inside, count)) in
          record {
            s = has.s;
            parts = has.parts;
            records = has.records;
            judged = has.judged;
            each = has.each;
            parts_before = take i (parts_of items);
            part = part_of (get_or items i d);
            parts_behind = drop (i + 1) (parts_of items);
            whole = parts_same ∙ sym (take-append-drop i (parts_of items)) ∙ ap (λ (z : List Part). take i (parts_of items) ++ z) front;
            records_before = m.records;
            one = one;
            records_behind = found.0;
            split = rest.whole ∙ ap (λ (z : List Record). m.records ++ z) found.1;
            accepted = m.each has.s has.judged.read;
            n = n;
            refused = against has.s has.judged.read;
            named = subst (λ (k : ℕ). IsNamedBy classes has.s (part_of (get_or items i d)) k n why) (sym before) (named has.s counted);
          }

  -- all are accepted
  pub all_accepted : length items ≤ i → IsAccepted classes world.image certificate
  all_accepted past =
      let none : rest.behind ≡ [] = zip_none IsFor (drop i (parts_of items)) rest.behind kinds (ap length (drop_all i (parts_of items) (omega (arith, past, count)))) in
      let records : has.records ≡ m.records = rest.whole ∙ ap (λ (z : List Record). m.records ++ z) none ∙ append-nil m.records in
      let all : take i (parts_of items) ≡ has.parts = take_all i (parts_of items) (omega (arith, past, count)) ∙ sym parts_same in
      let first : AllZip (SaysOf accepting (debug_line world.image) has.s) has.parts m.records = subst (λ (z : List Part). AllZip (SaysOf accepting (debug_line world.image) has.s) z m.records) all (m.each has.s has.judged.read) in
      record {
        s = has.s;
        parts = has.parts;
        records = has.records;
        judged = has.judged;
        each = subst (λ (z : List Record). AllZip (SaysOf accepting (debug_line world.image) has.s) has.parts z) (sym records) first;
      }

-- NEVER BOTH

parts_known : (classes : Classes) (s : Reading) (parts : List Part) → AreParts classes s parts → All (IsKnown s) parts
parts_known classes s parts are =
    let p : All (IsKnown s) (map AProgram (numbers_below (program_count classes s))) = All-map (IsKnown s) AProgram (numbers_below (program_count classes s)) (All-weaker (λ (i : ℕ). i < program_count classes s) (λ (i : ℕ). i < length s.links.programs) (λ i less. omega (arith, less, no_more classes.lines (length s.links.programs))) (numbers_below (program_count classes s)) (below_all (program_count classes s))) in
    let q : All (IsKnown s) (map (AList Ranges) are.ranges) = All-map (IsKnown s) (AList Ranges) are.ranges (λ k d inside. (are.searched_ranges.those k d inside).0) in
    let r : All (IsKnown s) (map (AList Locations) are.locations) = All-map (IsKnown s) (AList Locations) are.locations (λ k d inside. (are.searched_locations.those k d inside).0) in
    let u : All (IsKnown s) (map AUnit (numbers_below (length s.links.units))) = All-map (IsKnown s) AUnit (numbers_below (length s.links.units)) (below_all (length s.links.units)) in
    let last : All (IsKnown s) (map (AList Locations) are.locations ++ map AUnit (numbers_below (length s.links.units))) = All-append (IsKnown s) (map (AList Locations) are.locations) (map AUnit (numbers_below (length s.links.units))) r u in
    let more : All (IsKnown s) (map (AList Ranges) are.ranges ++ (map (AList Locations) are.locations ++ map AUnit (numbers_below (length s.links.units)))) = All-append (IsKnown s) (map (AList Ranges) are.ranges) (map (AList Locations) are.locations ++ map AUnit (numbers_below (length s.links.units))) q last in
    All-same (IsKnown s) parts (map AProgram (numbers_below (program_count classes s)) ++ (map (AList Ranges) are.ranges ++ (map (AList Locations) are.locations ++ map AUnit (numbers_below (length s.links.units))))) are.whole
    (All-append (IsKnown s) (map AProgram (numbers_below (program_count classes s))) (map (AList Ranges) are.ranges ++ (map (AList Locations) are.locations ++ map AUnit (numbers_below (length s.links.units)))) p more)

middle_known : (P : Part → Type 0) (before behind : List Part) (part : Part) → All P (before ++ part ∷ behind) → P part
middle_known P [] behind part all = all 0 part (omega arith)
middle_known P (first ∷ before) behind part all = middle_known P before behind part (λ k d inside. all (suc k) d (omega (arith, inside)))

pub refused_apart : (classes : Classes) (written certificate : List ℕ) (why : Reason) → ((s : Reading) → IsReading written s → (u : ℕ) → u < length s.links.units → StandOnce s u) → IsFirstRefused classes written certificate why → IsAccepted classes written certificate → ⊥
refused_apart classes written certificate why once against given =
    let (one, parts, records) = judged_once classes written certificate given.s against.s given.parts against.parts given.records against.records given.judged against.judged in
    let first : AllZip (SaysOf accepting (debug_line written) against.s) given.parts given.records = subst (λ (z : Reading). AllZip (SaysOf accepting (debug_line written) z) given.parts given.records) one given.each in
    let second : AllZip (SaysOf accepting (debug_line written) against.s) (against.parts_before ++ against.part ∷ against.parts_behind) given.records = subst (λ (z : List Part). AllZip (SaysOf accepting (debug_line written) against.s) z given.records) (parts ∙ against.whole) first in
    let third : AllZip (SaysOf accepting (debug_line written) against.s) (against.parts_before ++ against.part ∷ against.parts_behind) (against.records_before ++ against.one ∷ against.records_behind) = subst (λ (z : List Record). AllZip (SaysOf accepting (debug_line written) against.s) (against.parts_before ++ against.part ∷ against.parts_behind) z) (records ∙ against.split) second in
    let said = zip_behind (SaysOf accepting (debug_line written) against.s) (SaysOf accepting (debug_line written) against.s) against.parts_before (against.part ∷ against.parts_behind) against.records_before (against.one ∷ against.records_behind) against.accepted third in
    let known : IsKnown against.s against.part = middle_known (IsKnown against.s) against.parts_before against.parts_behind against.part (All-same (IsKnown against.s) (against.parts_before ++ against.part ∷ against.parts_behind) against.parts (sym against.whole) (parts_known classes against.s against.parts against.judged.of_file)) in
    says_apart written against.s against.part against.one against.n against.judged.read (once against.s against.judged.read) known said.0 against.refused
