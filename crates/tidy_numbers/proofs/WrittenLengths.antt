-- No length of an expression of the location lists of a file that is written anew has a byte too many.
use Rattle.std.proofs.Common.{◌≡◌, ◌<◌, ◌+◌, ◌-◌, ◌++◌, ◌∙◌, ℕ, List, [], ◌∷◌, length, drop, map, sym, ap, subst, refl, arith}
use Rattle.std.specs.Prelude.{Some, false}
use Rattle.std.specs.List.{All}
use Rattle.std.proofs.lemmas.List.{append_assoc, drop-drop, length-append}
use Rattle.std.proofs.lemmas.List.Elements.{All-nil, All-cons}
use Rattle.std.proofs.lemmas.Bool.{false≢true}
use Rattle.spelled.specs.Spelled.{HasUniqueFronts}
use Rattle.spelled.proofs.Joins.{then_once}
use Rattle.list_model.specs.declared.contribution.Contribution.{Contribution}
use Rattle.list_model.specs.declared.entry.EntryKind.{EntryKind}
use Rattle.list_model.specs.declared.entry.EntryKind.TheVariants.{BaseAddressx, BaseAddress}
use Rattle.list_model.specs.declared.entry.ListKind.TheVariants.{Locations}
use Rattle.list_model.specs.declared.entry.RawEntry.{RawEntry}
use Rattle.list_model.specs.Contributions.{part_end, bytes_from}
use Rattle.list_model.specs.Entries.{Entry, code_of, SpellsEntry, SpellsOperands, AreSaid}
use Rattle.list_model.specs.Items.{sets_base}
use Rattle.list_model.specs.Reading.{AreReadFrom}
use Rattle.list_model.proofs.EntryLaws.{one_kind, entries_once}
use Rattle.leb_codec.specs.Leb.{least_unsigned_len}
use Rattle.loc_lists.specs.Apart.{StandApart, ShortestBehind, behind_bytes}
use Rattle.loc_lists.specs.Locations.{IsRead, IsLocationList, SpellsBehind, SpellsLocation, SpellsExpression}
use Rattle.loc_lists.proofs.Spans.{behind_once}
use Rattle.value_links.specs.Reading.{Reading, list_at, part_at}
use Rattle.written_files.specs.TidyLists.{IsWhole}
use Rattle.written_files.specs.inside.Counterparts.{AreAnew}
use Rattle.written_files.specs.inside.Laws.{AreLaws}
use Rattle.tidy_numbers.specs.Fronts.{IsLong}
use Rattle.tidy_numbers.specs.LongLists.{HoldsBehindCode, IsLongLength, IsLongUnowned}
use Rattle.tidy_numbers.proofs.ListEntriesStand.{behind_expression, front_left, in_section}
use Rattle.tidy_numbers.proofs.ListEntryPlaces.{operands_once}
use Rattle.tidy_numbers.proofs.ShortFronts.{in_parts, few_not_long, behind_this}

-- an entry stands at its place, and behind it an expression whose length has no byte too many
record EntryShort (section : List ℕ) (raw : RawEntry) : Type 0 where
  entry : Entry
  known : code_of Locations entry.kind ≡ Some raw.code
  own : List ℕ
  spelled : SpellsEntry Locations entry own
  expression : List ℕ
  behind : List ℕ
  short : ShortestBehind entry.kind expression behind
  rest : List ℕ
  whole : drop raw.at section ≡ own ++ (behind ++ rest)

-- so many bytes stand behind an entry that has an expression
counted_behind : (kind : EntryKind) (len : ℕ) → sets_base kind ≡ false → behind_bytes kind len ≡ least_unsigned_len len + len
counted_behind BaseAddressx len none = absurd (false≢true (sym none))
counted_behind BaseAddress len none = absurd (false≢true (sym none))
counted_behind kind len none = refl

-- the length behind such an entry
length_short : (section : List ℕ) (raw : RawEntry) (p : ℕ) → EntryShort section raw → HoldsBehindCode IsLongLength Locations section raw p → ⊥
length_short section raw p stands long =
    let s = stands.spelled in
    let same : long.kind ≡ stands.entry.kind = one_kind Locations long.kind stands.entry.kind raw.code long.known stands.known in
    let left : List ℕ = stands.behind ++ stands.rest in
    let all : drop raw.at section ≡ s.code ∷ (s.operands ++ left) = stands.whole ∙ ap (λ (z : List ℕ). z ++ left) s.whole in
    let bytes : drop (raw.at + 1) section ≡ s.operands ++ left = sym (drop-drop 1 raw.at section) ∙ ap (drop 1) all in
    let (none, there) = subst (λ (k : EntryKind). IsLongLength k long.inner (drop (raw.at + 1) section)) same long.holds in
    let kind : EntryKind = stands.entry.kind in
    let operands : ℕ × ℕ = (stands.entry.a, stands.entry.b) in
    let (deep, here) = behind_this (SpellsOperands kind) (λ operands. IsLong) (operands_once kind) operands long.inner s.operands left (drop (raw.at + 1) section) s.spelled bytes there in
    let len : ℕ = length stands.expression in
    let e : SpellsExpression stands.expression stands.behind = behind_expression kind stands.expression stands.behind none stands.short.0 in
    let size : length stands.behind ≡ least_unsigned_len len + len = stands.short.1 ∙ counted_behind kind len none in
    let own : length stands.behind ≡ length e.head + len = ap length e.whole ∙ length-append e.head stands.expression in
    let whole : left ≡ e.head ++ (stands.expression ++ stands.rest) = in_parts left stands.behind stands.rest e.head stands.expression refl e.whole in
    few_not_long len e.head (stands.expression ++ stands.rest) left e.count.0 (omega (arith, size, own)) whole here.1

-- an entry with its expression ends by itself
location_once : HasUniqueFronts SpellsLocation
location_once = then_once (SpellsEntry Locations) (λ (entry : Entry). SpellsBehind entry.kind) (entries_once Locations) (λ (entry : Entry). behind_once entry.kind)

-- the entries of a list that is read, by the bytes in which it stands
entries_stand : (section : List ℕ) (at : ℕ) (raws : List RawEntry) (read locations : List (Entry × List ℕ)) (front after bytes rest bare : List ℕ) → AreReadFrom IsRead at raws read front → drop at section ≡ front ++ after → AreSaid Locations raws (map (λ (location : Entry × List ℕ). location.0) locations) → StandApart ShortestBehind locations bytes bare → drop at section ≡ bytes ++ rest → All (EntryShort section) raws
entries_stand section at [] read locations front after bytes rest bare is whole said apart there = All-nil (EntryShort section)
entries_stand section at (r ∷ raws) [] locations front after bytes rest bare is whole said apart there = absurd is
entries_stand section at (r ∷ raws) (e ∷ es) [] front after bytes rest bare is whole said apart there = absurd said
entries_stand section at (r ∷ raws) (e ∷ es) (l ∷ ls) front after bytes rest bare (first, more, here, is, parts) whole (says, said) (own, behind, left, bare_left, spelled, short, apart, f, g) there =
    let all : drop at section ≡ own ++ (behind ++ (left ++ rest)) = in_parts (drop at section) bytes rest own (behind ++ left) there f ∙ ap (λ (z : List ℕ). own ++ z) (append_assoc behind left rest) in
    let both : drop at section ≡ (own ++ behind) ++ (left ++ rest) = all ∙ sym (append_assoc own behind (left ++ rest)) in
    let is_first : drop at section ≡ (first ++ more) ++ after = whole ∙ ap (λ (z : List ℕ). z ++ after) parts in
    let same_bytes : first ++ (more ++ after) ≡ (own ++ behind) ++ (left ++ rest) = sym (append_assoc first more after) ∙ sym is_first ∙ both in
    let one = location_once e l first (own ++ behind) (more ++ after) (left ++ rest) here.spelled (own, behind, spelled, short.0, refl) same_bytes in
    let others : drop at section ≡ (first ++ left) ++ rest = both ∙ ap (λ (z : List ℕ). z ++ (left ++ rest)) (sym one.0) ∙ sym (append_assoc first left rest) in
    let stands : EntryShort section r = record {
      entry = l.0;
      known = says.of_code;
      own = own;
      spelled = spelled;
      expression = l.1;
      behind = behind;
      short = short;
      rest = left ++ rest;
      whole = ap (λ (n : ℕ). drop n section) here.place ∙ all;
    } in
    let behind_read : drop (at + length first) section ≡ more ++ after = front_left section at first more after is_first in
    let behind_written : drop (at + length first) section ≡ left ++ rest = front_left section at first left rest others in
    All-cons (EntryShort section) r raws stands (entries_stand section (at + length first) raws es ls more after left rest bare_left is behind_read said apart behind_written)

-- a list that is read at a place where it stands as it is written
list_stands : (section : List ℕ) (part : Contribution) (at : ℕ) (raws : List RawEntry) (bytes rest : List ℕ) → IsLocationList section part at raws → IsWhole Locations raws bytes → bytes_from section part at ≡ bytes ++ rest → All (EntryShort section) raws
list_stands section part at raws bytes rest list (locations, bare, said, apart) stands =
    let beyond : List ℕ = drop (part_end part - at) (drop at section) in
    entries_stand section at raws list.entries locations list.front ((list.end ++ list.rest) ++ beyond) bytes (rest ++ beyond) bare
    list.read (in_section section part at list.front (list.end ++ list.rest) list.whole) said apart (in_section section part at bytes rest stands)

module _ (laws : AreLaws) where
  pub lengths_short : (file written : List ℕ) (r s : Reading) → AreAnew file written r s → (k p : ℕ) → k < length s.location_lists → IsLongUnowned s.links (list_at s.location_lists k) p → ⊥
  lengths_short file written r s anew k p known (owned, (raw, (j, inside, here), long)) =
      let list = list_at s.location_lists k in
      let whole = laws.lists_stand file written r s anew Locations k known in
      let section : List ℕ = s.links.locations.section in
      let read = ((anew.again.lists Locations).each k known).read in
      let all = list_stands section (part_at s.links.locations list.part) list.at list.raws whole.bytes whole.rest read whole.whole whole.stands in
      length_short section raw p (subst (EntryShort section) here (all j raw inside)) long
