-- The entries of lists of a valid file, as they stand in their section.
use Rattle.std.proofs.Common.{◌≡◌, ◌≤◌, ◌<◌, ◌+◌, ◌-◌, ◌++◌, ◌∙◌, ℕ, suc, List, [], ◌∷◌, length, get_or, drop, sym, ap, subst, refl, arith}
use Rattle.std.specs.Prelude.{Some, true, false}
use Rattle.std.specs.List.{All, Contains}
use Rattle.std.proofs.lemmas.Bool.{false≢true}
use Rattle.std.proofs.lemmas.List.{append_assoc, drop-drop, drop_at, get_or_default, length-append, length-drop, length-map, take-append-drop}
use Rattle.std.proofs.lemmas.List.Elements.{All-nil, All-cons, All-weaker}
use Rattle.std.proofs.Math.ListN.{get_or-map}
use Rattle.dw_base.specs.declared.fault.Reach.{Reach}
use Rattle.spelled.specs.Spelled.{Then}
use Rattle.leb_codec.specs.Leb.{Uleb}
use Rattle.list_model.specs.declared.contribution.Contribution.{Contribution}
use Rattle.list_model.specs.declared.entry.EntryKind.{EntryKind}
use Rattle.list_model.specs.declared.entry.EntryKind.TheVariants.{BaseAddressx, BaseAddress}
use Rattle.list_model.specs.declared.entry.ListKind.{ListKind}
use Rattle.list_model.specs.declared.entry.ListKind.TheVariants.{Ranges, Locations}
use Rattle.list_model.specs.declared.entry.RawEntry.{RawEntry}
use Rattle.list_model.specs.Contributions.{part_end, bytes_from}
use Rattle.list_model.specs.Entries.{Entry, code_of, SpellsEntry, SpellsOperands}
use Rattle.list_model.specs.Items.{sets_base}
use Rattle.list_model.specs.Reading.{AreReadFrom}
use Rattle.list_model.proofs.EntryLaws.{one_kind}
use Rattle.range_lists.specs.Ranges.{IsRead as IsRangeRead, IsRangeList}
use Rattle.loc_lists.specs.Locations.{IsRead as IsLocationRead, IsLocationList, SpellsBehind, SpellsExpression, is_item, items_among, bytes_in, expressions_of}
use Rattle.loc_lists.proofs.Spans.{span_inside}
use Rattle.list_arena.specs.Held.{HeldList}
use Rattle.value_links.specs.Lists.{IsListOf, AreExpressionsRead, owner_unit}
use Rattle.value_links.specs.Operations.{LinkedOperation, LinksExpression}
use Rattle.value_links.specs.Reading.{ListRead, Linkable, of_kind, lists_of, list_at, part_at}
use Rattle.value_links.specs.Sections.{debug_lists}
use Rattle.value_links.specs.World.{World, IsWorldOf, HoldsList, lists_held}
use Rattle.tidy_numbers.specs.inside.ListEntries.{EntryStands, LengthStands, ExpressionStands, ListStands}
use Rattle.tidy_numbers.specs.inside.Operands.{Begins}
use Rattle.tidy_numbers.proofs.ListPlaces.{among_items}

-- ONE ENTRY

module _ (list : ListKind) (section : List ℕ) (raw : RawEntry) (entry : Entry) (spelling rest : List ℕ) (known : code_of list entry.kind ≡ Some raw.code) (s : SpellsEntry list entry spelling) (whole : drop raw.at section ≡ spelling ++ rest) where
  all_bytes : drop raw.at section ≡ s.code ∷ (s.operands ++ rest)
  all_bytes = whole ∙ ap (λ (z : List ℕ). z ++ rest) s.whole

  behind_code : drop (raw.at + 1) section ≡ s.operands ++ rest
  behind_code = sym (drop-drop 1 raw.at section) ∙ ap (drop 1) all_bytes

  pub entry_stands : EntryStands list section raw
  entry_stands =
      let size : length (drop raw.at section) ≡ length section - raw.at = length-drop raw.at section in
      let some : length (drop raw.at section) ≡ suc (length (s.operands ++ rest)) = ap length all_bytes in
      record { kind = entry.kind; known = known; inside = omega (arith, size, some); operands = ((entry.a, entry.b), s.operands, rest, s.spelled, behind_code) }

-- the length of an expression, where an entry of its kind has one
pub behind_expression : (kind : EntryKind) (expression bytes : List ℕ) → sets_base kind ≡ false → SpellsBehind kind expression bytes → SpellsExpression expression bytes
behind_expression BaseAddressx expression bytes none spells = absurd (false≢true (sym none))
behind_expression BaseAddress expression bytes none spells = absurd (false≢true (sym none))
behind_expression kind expression bytes none spells = spells

length_stands : (section : List ℕ) (raw : RawEntry) (entry : Entry) (spelling expression behind rest : List ℕ) → code_of Locations entry.kind ≡ Some raw.code → SpellsEntry Locations entry spelling → SpellsBehind entry.kind expression behind → drop raw.at section ≡ spelling ++ (behind ++ rest) → LengthStands section raw
length_stands section raw entry spelling expression behind rest known s spells whole kind other none =
    let same : kind ≡ entry.kind = one_kind Locations kind entry.kind raw.code other known in
    let e : SpellsExpression expression behind = behind_expression entry.kind expression behind (ap sets_base (sym same) ∙ none) spells in
    let bytes : drop (raw.at + 1) section ≡ (s.operands ++ e.head) ++ (expression ++ rest) = behind_code Locations section raw entry spelling (behind ++ rest) known s whole ∙ ap (λ (z : List ℕ). s.operands ++ (z ++ rest)) e.whole ∙ ap (λ (z : List ℕ). s.operands ++ z) (append_assoc e.head expression rest) ∙ sym (append_assoc s.operands e.head (expression ++ rest)) in
    subst (λ (k : EntryKind). Begins (Then (SpellsOperands k) (λ operands. Uleb)) (drop (raw.at + 1) section)) (sym same)
    (((entry.a, entry.b), length expression), s.operands ++ e.head, expression ++ rest, (s.operands, e.head, s.spelled, e.count, refl), bytes)

-- THE ENTRIES OF A LIST

-- what is left behind a front
pub front_left : (section : List ℕ) (at : ℕ) (first rest after : List ℕ) → drop at section ≡ (first ++ rest) ++ after → drop (at + length first) section ≡ rest ++ after
front_left section at first rest after whole = sym (drop-drop (length first) at section) ∙ ap (drop (length first)) (whole ∙ append_assoc first rest after) ∙ drop_at first (rest ++ after) (length first) refl

pub front_here : (section : List ℕ) (at : ℕ) (bytes first rest after : List ℕ) → drop at section ≡ bytes ++ after → bytes ≡ first ++ rest → drop at section ≡ (first ++ rest) ++ after
front_here section at bytes first rest after whole parts = whole ∙ ap (λ (z : List ℕ). z ++ after) parts

ranges_stand : (section : List ℕ) (at : ℕ) (raws : List RawEntry) (entries : List Entry) (bytes after : List ℕ) → AreReadFrom IsRangeRead at raws entries bytes → drop at section ≡ bytes ++ after → All (EntryStands Ranges section) raws
ranges_stand section at [] [] bytes after read whole = All-nil (EntryStands Ranges section)
ranges_stand section at [] (e ∷ es) bytes after read whole = absurd read
ranges_stand section at (r ∷ raws) [] bytes after read whole = absurd read
ranges_stand section at (r ∷ raws) (e ∷ es) bytes after (first, rest, here, more, parts) whole =
    let all = front_here section at bytes first rest after whole parts in
    let own : drop r.at section ≡ first ++ (rest ++ after) = ap (λ (n : ℕ). drop n section) here.place ∙ all ∙ append_assoc first rest after in
    All-cons (EntryStands Ranges section) r raws
    (entry_stands Ranges section r e first (rest ++ after) here.says.of_code here.spelled own)
    (ranges_stand section (at + length first) raws es rest after more (front_left section at first rest after all))

-- an entry of a location list with its expression
record LocationStands (section : List ℕ) (raw : RawEntry) : Type 0 where
  pub entry : EntryStands Locations section raw
  pub there : LengthStands section raw
  pub inside : raw.expr.at + raw.expr.len ≤ length section

location_stands : (section : List ℕ) (at : ℕ) (raw : RawEntry) (location : Entry × List ℕ) (first rest : List ℕ) → IsLocationRead at raw location first → drop at section ≡ first ++ rest → LocationStands section raw
location_stands section at raw location first rest here whole =
    let (spelling, behind, s, spells, parts) = here.spelled in
    let own : drop raw.at section ≡ spelling ++ (behind ++ rest) = ap (λ (n : ℕ). drop n section) here.place ∙ whole ∙ ap (λ (z : List ℕ). z ++ rest) parts ∙ append_assoc spelling behind rest in
    let size : length (drop at section) ≡ length section - at = length-drop at section in
    let long : length (drop at section) ≡ length first + length rest = ap length whole ∙ length-append first rest in
    let span = span_inside location.0.kind raw.expr location.1 (at + length first) here.expression in
    let stands = entry_stands Locations section raw location.0 spelling (behind ++ rest) here.says.of_code s own in
    let from = stands.inside in
    let place = here.place in
    record {
      entry = stands;
      there = length_stands section raw location.0 spelling location.1 behind rest here.says.of_code s spells own;
      inside = omega (arith, size, long, span, from, place);
    }

locations_stand : (section : List ℕ) (at : ℕ) (raws : List RawEntry) (locations : List (Entry × List ℕ)) (bytes after : List ℕ) → AreReadFrom IsLocationRead at raws locations bytes → drop at section ≡ bytes ++ after → All (LocationStands section) raws
locations_stand section at [] [] bytes after read whole = All-nil (LocationStands section)
locations_stand section at [] (e ∷ es) bytes after read whole = absurd read
locations_stand section at (r ∷ raws) [] bytes after read whole = absurd read
locations_stand section at (r ∷ raws) (e ∷ es) bytes after (first, rest, here, more, parts) whole =
    let all = front_here section at bytes first rest after whole parts in
    All-cons (LocationStands section) r raws
    (location_stands section at r e first (rest ++ after) here (all ∙ append_assoc first rest after))
    (locations_stand section (at + length first) raws es rest after more (front_left section at first rest after all))

-- what stands in a contribution stands in its section
pub in_section : (section : List ℕ) (part : Contribution) (at : ℕ) (front rest : List ℕ) → bytes_from section part at ≡ front ++ rest → drop at section ≡ front ++ (rest ++ drop (part_end part - at) (drop at section))
in_section section part at front rest e =
    sym (take-append-drop (part_end part - at) (drop at section)) ∙ ap (λ (z : List ℕ). z ++ drop (part_end part - at) (drop at section)) e ∙ append_assoc front rest (drop (part_end part - at) (drop at section))

range_list_stands : (section : List ℕ) (part : Contribution) (at : ℕ) (raws : List RawEntry) → IsRangeList section part at raws → All (EntryStands Ranges section) raws
range_list_stands section part at raws list = ranges_stand section at raws list.entries list.front ((list.end ++ list.rest) ++ drop (part_end part - at) (drop at section)) list.read (in_section section part at list.front (list.end ++ list.rest) list.whole)

location_list_stands : (section : List ℕ) (part : Contribution) (at : ℕ) (raws : List RawEntry) → IsLocationList section part at raws → All (LocationStands section) raws
location_list_stands section part at raws list = locations_stand section at raws list.entries list.front ((list.end ++ list.rest) ++ drop (part_end part - at) (drop at section)) list.read (in_section section part at list.front (list.end ++ list.rest) list.whole)

-- EXPRESSIONS

expression_among : (P : List ℕ → Type 0) (section : List ℕ) (raws : List RawEntry) (raw : RawEntry) → All P (expressions_of section raws) → Contains raws raw → is_item raw ≡ true → P (bytes_in section raw.expr)
expression_among P section raws raw all there item =
    let (k, inside, here) = among_items raws raw there item in
    let of : RawEntry → List ℕ = λ (z : RawEntry). bytes_in section z.expr in
    let size : length (expressions_of section raws) ≡ length (items_among raws) = length-map (items_among raws) (λ (z : RawEntry). bytes_in section z.expr) in
    let same : get_or (expressions_of section raws) k (bytes_in section raw.expr) ≡ bytes_in section raw.expr = get_or-map (λ (z : RawEntry). bytes_in section z.expr) (items_among raws) k raw ∙ ap (λ (z : RawEntry). bytes_in section z.expr) here in
    subst P same (all k (bytes_in section raw.expr) (omega (arith, inside, size)))

expressions_stand : (r : Linkable) (list : ListRead) → AreExpressionsRead r Locations list → All (LocationStands r.locations.section) list.raws → All (ExpressionStands r.locations.section) list.raws
expressions_stand r list read stand k d inside item =
    let raw : RawEntry = get_or list.raws k d in
    let there : Contains list.raws (get_or list.raws k d) = (k, inside, get_or_default list.raws k (get_or list.raws k d) d inside) in
    let some = expression_among (λ (bytes : List ℕ). (linked : List LinkedOperation) × LinksExpression r (owner_unit r read.owner) bytes linked) r.locations.section list.raws (get_or list.raws k d) read.linked there item in
    ((stand k d inside).inside, (some.1.0, some.1.1))

-- LISTS THAT ARE HELD

read_stands : (r : Linkable) (kind : ListKind) (list : ListRead) (held : HeldList) → HoldsList r kind list held → IsListOf kind (of_kind r kind).section (part_at (of_kind r kind) list.part) list.at list.raws → AreExpressionsRead r kind list → ListStands kind (of_kind r kind).section held
read_stands r Ranges list held holds read expressions = record {
  entries = subst (All (EntryStands Ranges r.ranges.section)) (sym holds.raws) (range_list_stands r.ranges.section (part_at r.ranges list.part) list.at list.raws read);
  lengths = λ wrong. absurd cc;
  expressions = λ wrong. absurd cc;
}
read_stands r Locations list held holds read expressions =
    let all = location_list_stands r.locations.section (part_at r.locations list.part) list.at list.raws read in
    let section : List ℕ = r.locations.section in
    record {
      entries = subst (All (EntryStands Locations r.locations.section)) (sym holds.raws) (All-weaker (LocationStands r.locations.section) (EntryStands Locations r.locations.section) (λ raw s. s.entry) list.raws all);
      lengths = λ is. subst (All (LengthStands r.locations.section)) (sym holds.raws) (All-weaker (LocationStands r.locations.section) (LengthStands r.locations.section) (λ raw s. s.there) list.raws all);
      expressions = λ is. subst (All (ExpressionStands r.locations.section)) (sym holds.raws) (expressions_stand r list expressions all);
    }

pub list_stands : (world : World) (reach : Reach) (is : IsWorldOf world.image reach world) (kind : ListKind) (section : List ℕ) → section ≡ debug_lists world.image kind → (k : ℕ) → k < length (lists_held world kind) → (held : HeldList) → held ≡ get_or (lists_held world kind) k held → ListStands kind section held
list_stands world reach is kind section section_is k inside held here =
    let count : length (lists_held world kind) ≡ length (lists_of is.r kind) = (is.holds.lists kind).count in
    let known : k < length (lists_of is.r kind) = omega (arith, inside, count) in
    let there : HoldsList is.r.links kind (list_at (lists_of is.r kind) k) held = subst (HoldsList is.r.links kind (list_at (lists_of is.r kind) k)) (sym here) ((is.holds.lists kind).each k held known) in
    let own : section ≡ (of_kind is.r.links kind).section = section_is ∙ sym (is.holds.sections kind) in
    subst (λ (z : List ℕ). ListStands kind z held) (sym own)
    (read_stands is.r.links kind (list_at (lists_of is.r kind) k) held there ((is.read.lists kind).each k known).read ((is.read.lists kind).expressions k known))
