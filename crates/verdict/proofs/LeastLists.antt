-- Where each record of a file that is tidy is accepted, no list of the file has a shorter one in its class: of a list that isn't kept its
-- record shows it, and of one that is, that no operand has a byte too many.
use Rattle.std.proofs.Common.{◌≡◌, ◌≤◌, ◌<◌, ◌+◌, ◌⊎◌, ◌∙◌, inl, inr, ℕ, zero, suc, List, [], ◌∷◌, ◌++◌, length, map, drop, sym, ap, refl, subst, arith}
use Rattle.std.specs.Prelude.{Some}
use Rattle.std.specs.List.{AllZip, Contains}
use Rattle.std.proofs.lemmas.Bool.{cases_lt}
use Rattle.std.proofs.lemmas.List.{append_assoc, length-append}
use Rattle.std.proofs.lemmas.List.Elements.{All-contains, Contains-append_left, Contains-append_right}
use Rattle.std.proofs.lemmas.Option.{same_Some}
use Rattle.dw_base.specs.declared.classes.Classes.{Classes}
use Rattle.spelled.specs.Spelled.{AreBytes, Joined}
use Rattle.leb_codec.specs.Leb.{least_unsigned_len}
use Rattle.leb_codec.specs.Records.{Record, OfLines, OfList, OfLayout}
use Rattle.leb_codec.proofs.SpellingLaws.{unsigned_spellings}
use Rattle.list_model.specs.declared.contribution.Contribution.{Contribution}
use Rattle.list_model.specs.declared.entry.EntryKind.{EntryKind}
use Rattle.list_model.specs.declared.entry.ListKind.{ListKind}
use Rattle.list_model.specs.declared.entry.ListKind.TheVariants.{Ranges, Locations}
use Rattle.list_model.specs.declared.entry.Operand.{Operand}
use Rattle.list_model.specs.declared.entry.Operand.TheVariants.{Absent, Number, Address}
use Rattle.list_model.specs.declared.entry.RawEntry.{RawEntry}
use Rattle.list_model.specs.Contributions.{bytes_from}
use Rattle.list_model.specs.Costs.{operand_bytes}
use Rattle.list_model.specs.Entries.{Entry, SpellsOperand, SpellsEntry, SpellsList, IsListEnd, Says, AreSaid, code_of, first_operand, second_operand}
use Rattle.list_model.specs.Items.{Bounds, Give}
use Rattle.list_model.specs.Members.{IsLeastList}
use Rattle.list_model.specs.Potentials.{AcceptsList}
use Rattle.list_model.specs.Reading.{AreReadFrom}
use Rattle.list_model.proofs.WalkLaws.{one_saying, one_walk}
use Rattle.range_lists.specs.Ranges.{IsRead as IsRangeRead}
use Rattle.range_lists.proofs.RangeLaws.{said as ranges_said}
use Rattle.loc_lists.specs.Apart.{StandApart}
use Rattle.loc_lists.specs.Locations.{SpellsBehind, entries_of, IsRead as IsLocationRead}
use Rattle.loc_lists.proofs.LocationLaws.{said as locations_said}
use Rattle.list_least.specs.Shortest.{ShortestEntry, ShortestList}
use Rattle.list_least.proofs.Bound.{plans_least}
use Rattle.list_least.proofs.Shortest.{frozen_least}
use Rattle.written_files.specs.Certificates.{IsListWithout, ArePotentialsFor}
use Rattle.written_files.specs.Classes.{AreBare, IsLeastWritten, HaveLeastLists}
use Rattle.written_files.specs.Kept.{IsKept}
use Rattle.value_links.specs.Lists.{IsListOf}
use Rattle.value_links.specs.Reading.{Reading, of_kind, lists_of, part_at, list_at, context_at}
use Rattle.value_links.specs.Sections.{debug_addr, debug_line, offset_named, lists_name}
use Rattle.value_links.proofs.ListMeanings.{owner_once}
use Rattle.tidy_numbers.specs.LongLists.{IsLongOperandOf, AreLongOperandsOf}
use Rattle.tidy_files.specs.Tidy.{IsTidy, ANumber}
use Rattle.check_records.specs.Accepted.{SaysOf, accepting, IsAccepted}
use Rattle.check_records.specs.Parts.{Part, AList, AProgram, AUnit, numbers_below, AreSearched, AreParts, program_count}
use Rattle.check_records.proofs.BareBytes.{behind_code, onward, parted_at, in_section}

-- ---- operands without a byte too many

-- no operand of an entry has one, which stands behind its code
abbrev IsShortAt : ListKind → List ℕ → RawEntry → Type 0
IsShortAt list section raw = (kind : EntryKind) → code_of list kind ≡ Some raw.code → (inner : ℕ) → AreLongOperandsOf kind inner (drop (raw.at + 1) section) → ⊥

operand_short : (operand : Operand) (value : ℕ) (bytes rest all : List ℕ) → SpellsOperand operand value bytes → all ≡ bytes ++ rest → (IsLongOperandOf operand 0 all → ⊥) → length bytes ≡ operand_bytes operand value
operand_short Absent value bytes rest all spelled whole short = ap length spelled.0
operand_short Number value bytes rest all spelled whole short =
    let least : least_unsigned_len value ≤ length bytes = unsigned_spellings.no_shorter bytes value spelled.0 in
    elim (cases_lt (least_unsigned_len value) (length bytes)) [
      | inl long ↦ absurd (short (refl, record { number = value; first = bytes; rest = rest; spelled = spelled; whole = whole; long = long }))
      | inr most ↦ omega (arith, least, most)
    ]
operand_short Address value bytes rest all spelled whole short = spelled.size

entry_short : (list : ListKind) (section : List ℕ) (raw : RawEntry) (entry : Entry) (own rest : List ℕ) → Says list raw entry → SpellsEntry list entry own → drop raw.at section ≡ own ++ rest → IsShortAt list section raw → ShortestEntry list entry own
entry_short list section raw entry own rest says spelled whole short =
    let (first, second, one, other, parts) = spelled.spelled in
    let behind : drop (raw.at + 1) section ≡ first ++ (second ++ rest) =
    behind_code section own rest raw.at spelled.code spelled.operands spelled.whole whole
    ∙ ap (λ (z : List ℕ). z ++ rest) parts
    ∙ append_assoc first second rest in
    let before : length first ≡ operand_bytes (first_operand entry.kind) entry.a = operand_short (first_operand entry.kind) entry.a first (second ++ rest) (drop (raw.at + 1) section) one behind (λ long. short entry.kind says.of_code 0 (inl long)) in
    let after : length second ≡ operand_bytes (second_operand entry.kind) entry.b = operand_short (second_operand entry.kind) entry.b second rest (second ++ rest) other refl (λ long. short entry.kind says.of_code (length first + 0) (inr (entry.a, first, second ++ rest, 0, one, long, behind, refl))) in
    let size : length own ≡ 1 + length spelled.operands = ap length spelled.whole ∙ omega arith in
    let both : length spelled.operands ≡ length first + length second = ap length parts ∙ length-append first second in
    (spelled, omega (arith, before, after, size, both))

-- ---- lists without a byte too many

abbrev AreShort : ListKind → List ℕ → List RawEntry → Type 0
AreShort list section raws = (raw : RawEntry) → Contains raws raw → IsShortAt list section raw

short_first : (list : ListKind) (section : List ℕ) (raw : RawEntry) (raws : List RawEntry) → AreShort list section (raw ∷ raws) → IsShortAt list section raw
short_first list section raw raws short = short raw (0, omega arith, refl)

short_rest : (list : ListKind) (section : List ℕ) (raw : RawEntry) (raws : List RawEntry) → AreShort list section (raw ∷ raws) → AreShort list section raws
short_rest list section raw raws short other (i, less, here) = short other (suc i, omega (arith, less), here)

ranges_short : (section : List ℕ) (at : ℕ) (raws : List RawEntry) (entries : List Entry) (front rest : List ℕ) → AreReadFrom IsRangeRead at raws entries front → drop at section ≡ front ++ rest → AreShort Ranges section raws → Joined (ShortestEntry Ranges) entries front
ranges_short section at [] [] front rest read whole short = read
ranges_short section at [] (e ∷ es) front rest read whole short = absurd read
ranges_short section at (r ∷ raws) [] front rest read whole short = absurd read
ranges_short section at (r ∷ raws) (e ∷ es) front rest (first, others, here, more, is) whole short =
    let parted : drop at section ≡ first ++ (others ++ rest) = whole ∙ ap (λ (z : List ℕ). z ++ rest) is ∙ append_assoc first others rest in
    let placed : drop r.at section ≡ first ++ (others ++ rest) = ap (λ (n : ℕ). drop n section) here.place ∙ parted in (
      first,
      others,
      entry_short Ranges section r e first (others ++ rest) here.says here.spelled placed (short_first Ranges section r raws short),
      ranges_short section (at + length first) raws es others rest more (onward section first (others ++ rest) at parted) (short_rest Ranges section r raws short),
      is,
    )

-- another entry before those of a list
list_more : (list : ListKind) (entry : Entry) (entries : List Entry) (own bytes : List ℕ) → ShortestEntry list entry own → ShortestList list entries bytes → ShortestList list (entry ∷ entries) (own ++ bytes)
list_more list entry entries own bytes one (front, end, joined, ended, is) =
    (own ++ front, end, (own, front, one, joined, refl), ended, ap (λ (z : List ℕ). own ++ z) is ∙ sym (append_assoc own front end))

-- a location list, and the same without its expressions
record Apart (section : List ℕ) (raws : List RawEntry) (locations : List (Entry × List ℕ)) (bytes : List ℕ) : Type 0 where
  pub bare : List ℕ
  pub apart : StandApart SpellsBehind locations bytes bare
  pub shortest : AreShort Locations section raws → ShortestList Locations (entries_of locations) bare

locations_short : (section : List ℕ) (at : ℕ) (raws : List RawEntry) (locations : List (Entry × List ℕ)) (front rest end : List ℕ) → IsListEnd end → AreReadFrom IsLocationRead at raws locations front → drop at section ≡ front ++ rest → Apart section raws locations (front ++ end)
locations_short section at [] [] front rest end ended read whole =
    let same : front ++ end ≡ end = ap (λ (z : List ℕ). z ++ end) read in
    record { bare = front ++ end; apart = (same ∙ ended, refl); shortest = λ short. ([], front ++ end, refl, same ∙ ended, refl) }
locations_short section at [] (l ∷ ls) front rest end ended read whole = absurd read
locations_short section at (r ∷ raws) [] front rest end ended read whole = absurd read
locations_short section at (r ∷ raws) (l ∷ ls) front rest end ended (first, others, here, more, is) whole =
    let (own, behind, entry, after, parts) = here.spelled in
    let next : drop (at + length first) section ≡ others ++ rest = onward section first (others ++ rest) at (whole ∙ ap (λ (z : List ℕ). z ++ rest) is ∙ append_assoc first others rest) in
    let placed : drop r.at section ≡ own ++ (behind ++ (others ++ rest)) = ap (λ (n : ℕ). drop n section) here.place ∙ parted_at section at own behind first others front rest parts is whole in
    let left = locations_short section (at + length first) raws ls others rest end ended more next in
    let joined_up : front ++ end ≡ own ++ (behind ++ (others ++ end)) =
    ap (λ (z : List ℕ). z ++ end) is
    ∙ append_assoc first others end
    ∙ ap (λ (z : List ℕ). z ++ (others ++ end)) parts
    ∙ append_assoc own behind (others ++ end) in
    record {
      bare = own ++ left.bare;
      apart = (own, behind, others ++ end, left.bare, entry, after, left.apart, joined_up, refl);
      shortest = λ short. list_more Locations l.0 (entries_of ls) own left.bare (entry_short Locations section r l.0 own (behind ++ (others ++ rest)) here.says entry placed (short_first Locations section r raws short)) (left.shortest (short_rest Locations section r raws short));
    }

-- A list stands at its place, and its bytes without expressions are the shortest of its entries where no operand has a byte too many.
record StandsShort (kind : ListKind) (section : List ℕ) (part : Contribution) (at : ℕ) (raws : List RawEntry) : Type 0 where
  pub bytes : List ℕ
  pub rest : List ℕ
  pub stands : bytes_from section part at ≡ bytes ++ rest
  pub bare : List ℕ
  pub without : AreBare kind bytes bare
  pub shortest : AreShort kind section raws → (entries : List Entry) → AreSaid kind raws entries → ShortestList kind entries bare

list_short : (kind : ListKind) (section : List ℕ) (part : Contribution) (at : ℕ) (raws : List RawEntry) → IsListOf kind section part at raws → StandsShort kind section part at raws
list_short Ranges section part at raws read = record {
  bytes = read.front ++ read.end;
  rest = read.rest;
  stands = read.whole ∙ sym (append_assoc read.front read.end read.rest);
  bare = read.front ++ read.end;
  without = refl;
  shortest = λ short entries said.
      let same : read.entries ≡ entries = one_saying Ranges raws read.entries entries (ranges_said at raws read.entries read.front read.read) said in
      let joined : Joined (ShortestEntry Ranges) read.entries read.front = ranges_short section at raws read.entries read.front _ read.read (in_section section part at read.front (read.end ++ read.rest) read.whole) short in
      subst (λ (z : List Entry). ShortestList Ranges z (read.front ++ read.end)) same (read.front, read.end, joined, read.ended, refl);
}
list_short Locations section part at raws read =
    let parts = locations_short section at raws read.entries read.front _ read.end read.ended read.read (in_section section part at read.front (read.end ++ read.rest) read.whole) in
    record {
      bytes = read.front ++ read.end;
      rest = read.rest;
      stands = read.whole ∙ sym (append_assoc read.front read.end read.rest);
      bare = parts.bare;
      without = (read.entries, parts.apart);
      shortest = λ short entries said.
          let same : entries_of read.entries ≡ entries = one_saying Locations raws (entries_of read.entries) entries (locations_said at raws read.entries read.front read.read) said in
          subst (λ (z : List Entry). ShortestList Locations z parts.bare) same (parts.shortest short);
    }

-- ---- a list whose record is accepted

apart_bare : (locations : List (Entry × List ℕ)) (bytes bare : List ℕ) → StandApart SpellsBehind locations bytes bare → SpellsList Locations (entries_of locations) bare
apart_bare [] bytes bare (end, without) = ([], bare, refl, without ∙ end, refl)
apart_bare (l ∷ ls) bytes bare (own, behind, rest, bare_rest, entry, after, more, is, without) =
    let (front, end, joined, ended, rest_is) = apart_bare ls rest bare_rest more in
    (own ++ front, end, (own, front, entry, joined, refl), ended, without ∙ ap (λ (z : List ℕ). own ++ z) rest_is ∙ sym (append_assoc own front end))

without_bare : (kind : ListKind) (entries : List Entry) (bytes bare : List ℕ) → IsListWithout kind entries bytes bare → AreBare kind bytes bare × SpellsList kind entries bare
without_bare Ranges entries bytes bare (spelled, same) = (same, subst (λ (z : List ℕ). SpellsList Ranges entries z) same spelled)
without_bare Locations entries bytes bare (locations, same, apart) = ((locations, apart), subst (λ (z : List Entry). SpellsList Locations z bare) same (apart_bare locations bytes bare apart))

live_written : (classes : Classes) (s : Reading) (kind : ListKind) (k : ℕ) (potentials : List ℕ) → AreBytes s.links.addresses → (IsKept classes s.links kind (list_at (lists_of s kind) k) → ⊥) → ArePotentialsFor AcceptsList kind s k potentials → IsLeastWritten classes kind s s k
live_written classes s kind k potentials small free is =
    let list = list_at (lists_of s kind) k in
    let addresses = s.links.addresses in
    let stands = is.stands in
    let (without, spelled) = without_bare kind is.entries stands.bytes is.bare stands.without in
    let least : IsLeastList kind addresses (context_at s.links is.u) is.bounds is.bare = plans_least kind addresses (context_at s.links is.u) is.bounds potentials (length is.bare) is.entries is.bare small is.judged is.gives spelled (omega arith) in
    record {
      bytes = stands.bytes;
      rest = stands.rest;
      stands = stands.stands;
      bare = is.bare;
      without = without;
      least = record {
        live = λ thawed u entries bounds owner said gives.
            let owners : is.u ≡ u = same_Some is.u u (owner_once s.links kind list.at (Some is.u) (Some u) is.owner owner) in
            let says : is.entries ≡ entries = one_saying kind list.raws is.entries entries is.said said in
            let given : Give addresses (context_at s.links u) entries is.bounds = subst (λ (z : List Entry). Give addresses (context_at s.links u) z is.bounds) says (subst (λ (z : ℕ). Give addresses (context_at s.links z) is.entries is.bounds) owners is.gives) in
            let walks : is.bounds ≡ bounds = one_walk addresses (context_at s.links u) entries is.bounds bounds given gives in
            subst (λ (z : List Bounds). IsLeastList kind addresses (context_at s.links u) z is.bare) walks (subst (λ (z : ℕ). IsLeastList kind addresses (context_at s.links z) is.bounds is.bare) owners least);
        kept = λ kept. absurd (free kept);
      };
    }

-- ---- a list that has no record

kept_written : (classes : Classes) (s : Reading) (kind : ListKind) (k : ℕ) → ((IsKept classes s.links kind (list_at (lists_of s kind) k) → ⊥) → ⊥) → IsListOf kind (of_kind s.links kind).section (part_at (of_kind s.links kind) (list_at (lists_of s kind) k).part) (list_at (lists_of s kind) k).at (list_at (lists_of s kind) k).raws → (IsKept classes s.links kind (list_at (lists_of s kind) k) → AreShort kind (of_kind s.links kind).section (list_at (lists_of s kind) k).raws) → IsLeastWritten classes kind s s k
kept_written classes s kind k kept read short =
    let list = list_at (lists_of s kind) k in
    let stands = list_short kind (of_kind s.links kind).section (part_at (of_kind s.links kind) list.part) list.at list.raws read in
    record {
      bytes = stands.bytes;
      rest = stands.rest;
      stands = stands.stands;
      bare = stands.bare;
      without = stands.without;
      least = record {
        live = λ thawed u entries bounds owner said gives. absurd (kept thawed);
        kept = λ still entries said. frozen_least kind entries stands.bare (stands.shortest (short still) entries said);
      };
    }

-- ---- which lists have records

among_more : (n k : ℕ) (numbers : List ℕ) → (n ≡ k → ⊥) → (Contains numbers k → ⊥) → Contains (n ∷ numbers) k → ⊥
among_more n k numbers other none (zero, less, here) = other here
among_more n k numbers other none (suc i, less, here) = none (i, omega (arith, less), here)

among_rest : (n k : ℕ) (numbers : List ℕ) → (n ≡ k → ⊥) → Contains numbers k ⊎ (Contains numbers k → ⊥) → Contains (n ∷ numbers) k ⊎ (Contains (n ∷ numbers) k → ⊥)
among_rest n k numbers other (inl (i, less, here)) = inl (suc i, omega (arith, less), here)
among_rest n k numbers other (inr none) = inr (among_more n k numbers other none)

among : (k : ℕ) (numbers : List ℕ) → Contains numbers k ⊎ (Contains numbers k → ⊥)
among k [] = inr never
  where
    never : Contains [] k → ⊥
    never (i, less, here) = omega (arith, less)
among k (n ∷ numbers) = elim (cases_lt n k) [
  | inl less ↦ among_rest n k numbers (λ same. omega (arith, less, same)) (among k numbers)
  | inr most ↦ elim (cases_lt k n) [
    | inl more ↦ among_rest n k numbers (λ same. omega (arith, more, same)) (among k numbers)
    | inr rest ↦ inl (0, omega arith, omega (arith, most, rest))
  ]
]

all_named : (f : ℕ → Part) (numbers : List ℕ) (k : ℕ) → Contains numbers k → Contains (map f numbers) (f k)
all_named f [] k (i, less, here) = absurd (omega (arith, less))
all_named f (n ∷ numbers) k (zero, less, here) = (0, omega arith, ap f here)
all_named f (n ∷ numbers) k (suc i, less, here) =
    let (j, within, there) = all_named f numbers k (i, omega (arith, less), here) in
    (suc j, omega (arith, within), there)

-- one of some parts is among all
ranges_there : (programs ranges locations units : List Part) (part : Part) → Contains ranges part → Contains (programs ++ (ranges ++ (locations ++ units))) part
ranges_there programs ranges locations units part has = Contains-append_right programs (ranges ++ (locations ++ units)) part (Contains-append_left ranges (locations ++ units) part has)

locations_there : (programs ranges locations units : List Part) (part : Part) → Contains locations part → Contains (programs ++ (ranges ++ (locations ++ units))) part
locations_there programs ranges locations units part has =
    Contains-append_right programs (ranges ++ (locations ++ units)) part (Contains-append_right ranges (locations ++ units) part (Contains-append_left locations units part has))

-- the numbers of the lists that have records
record HaveRecords (classes : Classes) (kind : ListKind) (s : Reading) (parts : List Part) : Type 0 where
  pub numbers : List ℕ
  pub searched : AreSearched classes kind s numbers
  pub named : (k : ℕ) → Contains numbers k → Contains parts (AList kind k)

numbers_of : (classes : Classes) (s : Reading) (parts : List Part) → AreParts classes s parts → (kind : ListKind) → HaveRecords classes kind s parts
numbers_of classes s parts are Ranges = record {
  numbers = are.ranges;
  searched = are.searched_ranges;
  named = λ k has. subst (λ (z : List Part). Contains z (AList Ranges k)) (sym are.whole)
      (ranges_there (map AProgram (numbers_below (program_count classes s))) (map (AList Ranges) are.ranges) (map (AList Locations) are.locations) (map AUnit (numbers_below (length s.links.units))) (AList Ranges k) (all_named (AList Ranges) are.ranges k has));
}
numbers_of classes s parts are Locations = record {
  numbers = are.locations;
  searched = are.searched_locations;
  named = λ k has. subst (λ (z : List Part). Contains z (AList Locations k)) (sym are.whole)
      (locations_there (map AProgram (numbers_below (program_count classes s))) (map (AList Ranges) are.ranges) (map (AList Locations) are.locations) (map AUnit (numbers_below (length s.links.units))) (AList Locations k) (all_named (AList Locations) are.locations k has));
}

zipped : {A B : Type 0} (R : A → B → Type 0) (xs : List A) (ys : List B) (x : A) → AllZip R xs ys → Contains xs x → (y : B) × R x y
zipped R [] ys x all (i, less, here) = absurd (omega (arith, less))
zipped R (a ∷ xs) [] x all has = absurd all
zipped {A} {B} R (a ∷ xs) (b ∷ ys) x all (zero, less, here) = (b, subst (λ (z : A). R z b) here all.0)
zipped R (a ∷ xs) (b ∷ ys) x all (suc i, less, here) = zipped R xs ys x all.1 (i, omega (arith, less), here)

list_record : (lines : List ℕ) (s : Reading) (kind : ListKind) (k : ℕ) (one : Record) → SaysOf accepting lines s (AList kind k) one → (potentials : List ℕ) × ArePotentialsFor AcceptsList kind s k potentials
list_record lines s kind k (OfLines runs) says = absurd says
list_record lines s kind k (OfList potentials) says = (potentials, says)
list_record lines s kind k (OfLayout ranks) says = absurd says

-- ---- all lists

-- The addresses are bytes, as those of each file that is read are.
pub least_lists : (classes : Classes) (file written certificate : List ℕ) → AreBytes (debug_addr written) → IsTidy classes file written → IsAccepted classes written certificate → HaveLeastLists classes written written
least_lists classes file written certificate small tidy is = (is.s, is.s, is.judged.read, is.judged.read, each)
  where
    short : (kind : ListKind) (k : ℕ) → k < length (lists_of is.s kind) → IsKept classes is.s.links kind (list_at (lists_of is.s kind) k) → AreShort kind (of_kind is.s.links kind).section (list_at (lists_of is.s kind) k).raws
    short kind k inside kept raw there by known inner long =
        let place : ℕ = raw.at + 1 + inner in
        tidy ANumber (offset_named written (lists_name kind) + place)
        (is.s, is.judged.read, inr (inr (kind, (place, inl (k, inside, inl (kept, (raw, there, record { kind = by; known = known; inner = inner; holds = long; place = refl }))), refl))))

    each : (kind : ListKind) (k : ℕ) → k < length (lists_of is.s kind) → IsLeastWritten classes kind is.s is.s k
    each kind k inside =
        let those = numbers_of classes is.s is.parts is.judged.of_file kind in
        elim (among k those.numbers) [
          | inl has ↦
              let (one, says) = zipped (SaysOf accepting (debug_line written) is.s) is.parts is.records (AList kind k) is.each (those.named k has) in
              let (potentials, accepted) = list_record (debug_line written) is.s kind k one says in
              live_written classes is.s kind k potentials (subst (λ (z : List ℕ). AreBytes z) (sym is.judged.read.links.addresses) small) (All-contains (λ (j : ℕ). (j < length (lists_of is.s kind)) × (IsKept classes is.s.links kind (list_at (lists_of is.s kind) j) → ⊥)) those.numbers k those.searched.those has).1 accepted
          | inr none ↦ kept_written classes is.s kind k (λ free. none (those.searched.all k inside free)) ((is.judged.read.lists kind).each k inside).read (short kind k inside)
        ]
