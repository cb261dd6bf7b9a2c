-- A list of which an operand has a byte too many, without its expressions, can be exchanged for a shorter one with the same entries.
use Rattle.std.proofs.Common.{◌≡◌, ◌+◌, ◌-◌, ◌++◌, ◌∙◌, ℕ, zero, suc, List, [], ◌∷◌, length, drop, sym, ap, subst, refl, arith}
use Rattle.std.specs.List.{Contains}
use Rattle.std.proofs.lemmas.List.{append_assoc, append_cancel_left, length-append}
use Rattle.spelled.specs.Spelled.{HasUniqueFronts}
use Rattle.spelled.proofs.Joins.{until_end_unique}
use Rattle.list_model.specs.declared.contribution.Contribution.{Contribution}
use Rattle.list_model.specs.declared.entry.ListKind.{ListKind}
use Rattle.list_model.specs.declared.entry.ListKind.TheVariants.{Ranges, Locations}
use Rattle.list_model.specs.declared.entry.RawEntry.{RawEntry}
use Rattle.list_model.specs.Contributions.{part_end, bytes_from}
use Rattle.list_model.specs.Entries.{Entry, SpellsEntry, SpellsList, IsListEnd, AreSaid}
use Rattle.list_model.specs.Reading.{AreReadFrom}
use Rattle.list_model.proofs.EntryLaws.{entries_once, entries_apart}
use Rattle.range_lists.specs.Ranges.{IsRead as IsRangeRead}
use Rattle.loc_lists.specs.Apart.{StandApart}
use Rattle.loc_lists.specs.Locations.{SpellsBehind, IsRead as IsLocationRead}
use Rattle.loc_lists.proofs.Spans.{behind_once}
use Rattle.written_files.specs.Classes.{AreBare}
use Rattle.value_links.specs.Lists.{IsListOf}
use Rattle.tidy_numbers.proofs.ListEntriesStand.{front_left, front_here, in_section}
use Rattle.tidy_numbers.proofs.ShorterEntries.{HasShorter, IsLongEntry, entry_shorter}

-- ONE LIST IS WHAT BYTES SPELL

one_end : (a b x y : List ℕ) → IsListEnd a → IsListEnd b → a ++ x ≡ b ++ y → a ≡ b
one_end a b x y e f h = e ∙ sym f

pub lists_once : (kind : ListKind) → HasUniqueFronts (SpellsList kind)
lists_once kind = until_end_unique (SpellsEntry kind) IsListEnd (entries_once kind) one_end (entries_apart kind)

-- and so without expressions
apart_once : (ls ms : List (Entry × List ℕ)) (a b x y bare other : List ℕ) → StandApart SpellsBehind ls a bare → StandApart SpellsBehind ms b other → a ++ x ≡ b ++ y → bare ≡ other
apart_once [] [] a b x y bare other (end, without) (ended, without_too) h = without ∙ end ∙ sym (without_too ∙ ended)
apart_once [] (m ∷ ms) a b x y bare other (end, without) (own, behind, rest, bare_rest, entry, after, more, is, same) h =
    absurd (entries_apart Locations m.0 own a ((behind ++ rest) ++ y) x entry end (sym (append_assoc own (behind ++ rest) y) ∙ ap (λ z. z ++ y) (sym is) ∙ sym h))
apart_once (l ∷ ls) [] a b x y bare other (own, behind, rest, bare_rest, entry, after, more, is, same) (end, without) h =
    absurd (entries_apart Locations l.0 own b ((behind ++ rest) ++ x) y entry end (sym (append_assoc own (behind ++ rest) x) ∙ ap (λ z. z ++ x) (sym is) ∙ h))
apart_once (l ∷ ls) (m ∷ ms) a b x y bare other (own, behind, rest, bare_rest, entry, after, more, is, same) (own2, behind2, rest2, bare2, entry2, after2, more2, is2, same2) h =
    let g : own ++ ((behind ++ rest) ++ x) ≡ own2 ++ ((behind2 ++ rest2) ++ y) =
    sym (append_assoc own (behind ++ rest) x) ∙ ap (λ z. z ++ x) (sym is) ∙ h ∙ ap (λ z. z ++ y) is2 ∙ append_assoc own2 (behind2 ++ rest2) y
    in
    let one = entries_once Locations l.0 m.0 own own2 ((behind ++ rest) ++ x) ((behind2 ++ rest2) ++ y) entry entry2 g in
    let g2 : (behind ++ rest) ++ x ≡ (behind2 ++ rest2) ++ y =
    append_cancel_left own2 ((behind ++ rest) ++ x) ((behind2 ++ rest2) ++ y) (ap (λ z. z ++ ((behind ++ rest) ++ x)) (sym one.0) ∙ g)
    in
    let g3 : behind ++ (rest ++ x) ≡ behind2 ++ (rest2 ++ y) = sym (append_assoc behind rest x) ∙ g2 ∙ append_assoc behind2 rest2 y in
    let moved : SpellsBehind m.0.kind l.1 behind = subst (λ (z : Entry). SpellsBehind z.kind l.1 behind) one.1 after in
    let two = behind_once m.0.kind l.1 m.1 behind behind2 (rest ++ x) (rest2 ++ y) moved after2 g3 in
    let g4 : rest ++ x ≡ rest2 ++ y = append_cancel_left behind2 (rest ++ x) (rest2 ++ y) (ap (λ z. z ++ (rest ++ x)) (sym two.0) ∙ g3) in
    let left = apart_once ls ms rest rest2 x y bare_rest bare2 more more2 g4 in
    same ∙ ap (λ z. z ++ bare_rest) one.0 ∙ ap (λ z. own2 ++ z) left ∙ sym same2

-- two strings without expressions of one list are one
pub bare_once : (kind : ListKind) (entries others : List Entry) (a b x y bare other : List ℕ) → AreBare kind a bare → AreBare kind b other → SpellsList kind entries bare → SpellsList kind others other → a ++ x ≡ b ++ y → bare ≡ other
bare_once Ranges entries others a b x y bare other e f s t h =
    sym e ∙ (lists_once Ranges entries others a b x y (subst (λ (z : List ℕ). SpellsList Ranges entries z) (sym e) s) (subst (λ (z : List ℕ). SpellsList Ranges others z) (sym f) t) h).0 ∙ f
bare_once Locations entries others a b x y bare other (ls, p) (ms, q) s t h = apart_once ls ms a b x y bare other p q h

-- A LIST THAT IS READ

-- its bytes without expressions and the entries that it says; they can be exchanged where an operand of an entry has a byte too many
pub record StandsBare (kind : ListKind) (section : List ℕ) (raws : List RawEntry) (bytes : List ℕ) : Type 0 where
  pub entries : List Entry
  pub bare : List ℕ
  pub without : AreBare kind bytes bare
  pub said : AreSaid kind raws entries
  pub spelled : SpellsList kind entries bare
  pub shorter : (raw : RawEntry) → Contains raws raw → IsLongEntry kind section raw → HasShorter (SpellsList kind entries) bare

-- another entry before those of a list
list_more : (list : ListKind) (entry : Entry) (entries : List Entry) (own bytes : List ℕ) → SpellsEntry list entry own → SpellsList list entries bytes → SpellsList list (entry ∷ entries) (own ++ bytes)
list_more list entry entries own bytes one (front, end, joined, ended, is) =
    (own ++ front, end, (own, front, one, joined, refl), ended, ap (λ z. own ++ z) is ∙ sym (append_assoc own front end))

-- a shorter first entry, or shorter ones behind it
shorter_first : (list : ListKind) (entry : Entry) (entries : List Entry) (own bytes : List ℕ) → SpellsList list entries bytes → HasShorter (SpellsEntry list entry) own → HasShorter (SpellsList list (entry ∷ entries)) (own ++ bytes)
shorter_first list entry entries own bytes rest (other, spells, fewer) =
    let old : length (own ++ bytes) ≡ length own + length bytes = length-append own bytes in
    let new : length (other ++ bytes) ≡ length other + length bytes = length-append other bytes in
    (other ++ bytes, list_more list entry entries other bytes spells rest, omega (arith, old, new, fewer))

shorter_rest : (list : ListKind) (entry : Entry) (entries : List Entry) (own bytes : List ℕ) → SpellsEntry list entry own → HasShorter (SpellsList list entries) bytes → HasShorter (SpellsList list (entry ∷ entries)) (own ++ bytes)
shorter_rest list entry entries own bytes one (other, spells, fewer) =
    let old : length (own ++ bytes) ≡ length own + length bytes = length-append own bytes in
    let new : length (own ++ other) ≡ length own + length other = length-append own other in
    (own ++ other, list_more list entry entries own other one spells, omega (arith, old, new, fewer))

no_more : (kind : ListKind) (section : List ℕ) (entries : List Entry) (bare : List ℕ) (raw : RawEntry) → Contains [] raw → IsLongEntry kind section raw → HasShorter (SpellsList kind entries) bare
no_more kind section entries bare raw (i, inside, here) long = absurd (omega (arith, inside))

first_or_later : (kind : ListKind) (section : List ℕ) (r : RawEntry) (raws : List RawEntry) (Goal : Type 0) → (IsLongEntry kind section r → Goal) → ((raw : RawEntry) → Contains raws raw → IsLongEntry kind section raw → Goal) → (raw : RawEntry) → Contains (r ∷ raws) raw → IsLongEntry kind section raw → Goal
first_or_later kind section r raws Goal here later raw (zero, inside, is) long = here (subst (λ (z : RawEntry). IsLongEntry kind section z) (sym is) long)
first_or_later kind section r raws Goal here later raw (suc i, inside, is) long = later raw (i, omega (arith, inside), is) long

-- ranges
ranges_bare : (section : List ℕ) (at : ℕ) (raws : List RawEntry) (entries : List Entry) (front rest end : List ℕ) → IsListEnd end → AreReadFrom IsRangeRead at raws entries front → drop at section ≡ front ++ rest → StandsBare Ranges section raws (front ++ end)
ranges_bare section at [] [] front rest end ended read whole = record {
  entries = [];
  bare = front ++ end;
  without = refl;
  said = tt;
  spelled = (front, end, read, ended, refl);
  shorter = no_more Ranges section [] (front ++ end);
}
ranges_bare section at [] (e ∷ es) front rest end ended read whole = absurd read
ranges_bare section at (r ∷ raws) [] front rest end ended read whole = absurd read
ranges_bare section at (r ∷ raws) (e ∷ es) front rest end ended (first, others, here, more, parts) whole =
    let all = front_here section at front first others rest whole parts in
    let left = ranges_bare section (at + length first) raws es others rest end ended more (front_left section at first others rest all) in
    let own : drop r.at section ≡ first ++ (others ++ rest) = ap (λ (n : ℕ). drop n section) here.place ∙ all ∙ append_assoc first others rest in
    let same : front ++ end ≡ first ++ (others ++ end) = ap (λ z. z ++ end) parts ∙ append_assoc first others end in
    record {
      entries = e ∷ left.entries;
      bare = first ++ left.bare;
      without = same ∙ ap (λ z. first ++ z) left.without;
      said = (here.says, left.said);
      spelled = list_more Ranges e left.entries first left.bare here.spelled left.spelled;
      shorter = first_or_later Ranges section r raws (HasShorter (SpellsList Ranges (e ∷ left.entries)) (first ++ left.bare))
          (λ long. shorter_first Ranges e left.entries first left.bare left.spelled (entry_shorter Ranges section r e first (others ++ rest) here.says.of_code here.spelled own long))
          (λ raw there long. shorter_rest Ranges e left.entries first left.bare here.spelled (left.shorter raw there long));
    }

-- location lists
locations_bare : (section : List ℕ) (at : ℕ) (raws : List RawEntry) (locations : List (Entry × List ℕ)) (front rest end : List ℕ) → IsListEnd end → AreReadFrom IsLocationRead at raws locations front → drop at section ≡ front ++ rest → StandsBare Locations section raws (front ++ end)
locations_bare section at [] [] front rest end ended read whole =
    let same : front ++ end ≡ end = ap (λ z. z ++ end) read in
    record {
      entries = [];
      bare = front ++ end;
      without = ([], (same ∙ ended, refl));
      said = tt;
      spelled = (front, end, read, ended, refl);
      shorter = no_more Locations section [] (front ++ end);
    }
locations_bare section at [] (l ∷ ls) front rest end ended read whole = absurd read
locations_bare section at (r ∷ raws) [] front rest end ended read whole = absurd read
locations_bare section at (r ∷ raws) (l ∷ ls) front rest end ended (first, others, here, more, parts) whole =
    let (own, behind, entry, after, both) = here.spelled in
    let all = front_here section at front first others rest whole parts in
    let left = locations_bare section (at + length first) raws ls others rest end ended more (front_left section at first others rest all) in
    let there : drop r.at section ≡ own ++ (behind ++ (others ++ rest)) =
    ap (λ (n : ℕ). drop n section) here.place ∙ all ∙ append_assoc first others rest ∙ ap (λ z. z ++ (others ++ rest)) both ∙ append_assoc own behind (others ++ rest)
    in
    let same : front ++ end ≡ own ++ (behind ++ (others ++ end)) =
    ap (λ z. z ++ end) parts ∙ append_assoc first others end ∙ ap (λ z. z ++ (others ++ end)) both ∙ append_assoc own behind (others ++ end)
    in
    record {
      entries = l.0 ∷ left.entries;
      bare = own ++ left.bare;
      without = (l ∷ left.without.0, (own, behind, others ++ end, left.bare, entry, after, left.without.1, same, refl));
      said = (here.says, left.said);
      spelled = list_more Locations l.0 left.entries own left.bare entry left.spelled;
      shorter = first_or_later Locations section r raws (HasShorter (SpellsList Locations (l.0 ∷ left.entries)) (own ++ left.bare))
          (λ long. shorter_first Locations l.0 left.entries own left.bare left.spelled
          (entry_shorter Locations section r l.0 own (behind ++ (others ++ rest)) here.says.of_code entry there long))
          (λ raw there long. shorter_rest Locations l.0 left.entries own left.bare entry (left.shorter raw there long));
    }

-- a list at its place
pub record IsBareAt (kind : ListKind) (section : List ℕ) (part : Contribution) (at : ℕ) (raws : List RawEntry) : Type 0 where
  pub bytes : List ℕ
  pub rest : List ℕ
  pub stands : bytes_from section part at ≡ bytes ++ rest
  pub bare : StandsBare kind section raws bytes

pub list_bare : (kind : ListKind) (section : List ℕ) (part : Contribution) (at : ℕ) (raws : List RawEntry) → IsListOf kind section part at raws → IsBareAt kind section part at raws
list_bare Ranges section part at raws read = record {
  bytes = read.front ++ read.end;
  rest = read.rest;
  stands = read.whole ∙ sym (append_assoc read.front read.end read.rest);
  bare = ranges_bare section at raws read.entries read.front ((read.end ++ read.rest) ++ drop (part_end part - at) (drop at section)) read.end read.ended read.read
      (in_section section part at read.front (read.end ++ read.rest) read.whole);
}
list_bare Locations section part at raws read = record {
  bytes = read.front ++ read.end;
  rest = read.rest;
  stands = read.whole ∙ sym (append_assoc read.front read.end read.rest);
  bare = locations_bare section at raws read.entries read.front ((read.end ++ read.rest) ++ drop (part_end part - at) (drop at section)) read.end read.ended read.read
      (in_section section part at read.front (read.end ++ read.rest) read.whole);
}
