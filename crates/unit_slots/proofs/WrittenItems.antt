-- The items of a location list whose lengths have no byte too many.
use Rattle.std.proofs.Common.{◌≡◌, ◌≤◌, ◌+◌, ◌-◌, ◌∙◌, ◌++◌, ℕ, suc, List, [], ◌∷◌, length, drop, sym, ap, subst, refl, arith}
use Rattle.std.specs.Prelude.{Bool, true, false, cond, map}
use Rattle.std.specs.List.{All}
use Rattle.std.proofs.lemmas.Bool.{false≢true}
use Rattle.std.proofs.lemmas.List.{append_assoc, append_cancel_left, length-append}
use Rattle.std.proofs.lemmas.List.Elements.{All-nil, All-cons, All-head, All-tail}
use Rattle.dw_base.specs.declared.fault.Span.{Span}
use Rattle.spelled.proofs.Parts.{length_part}
use Rattle.leb_codec.specs.Leb.{least_unsigned_len}
use Rattle.list_model.specs.declared.entry.EntryKind.{EntryKind}
use Rattle.list_model.specs.declared.entry.EntryKind.TheVariants.{BaseAddressx, BaseAddress}
use Rattle.list_model.specs.declared.entry.ListKind.TheVariants.{Locations}
use Rattle.list_model.specs.declared.entry.RawEntry.{RawEntry}
use Rattle.list_model.specs.Contributions.{part_end}
use Rattle.list_model.specs.Entries.{Entry, AreSaid, SpellsEntry}
use Rattle.list_model.specs.Items.{sets_base}
use Rattle.list_model.specs.Reading.{AreReadFrom}
use Rattle.list_model.proofs.EntryLaws.{entries_once}
use Rattle.loc_lists.specs.Apart.{StandApart, ShortestBehind, behind_bytes}
use Rattle.loc_lists.specs.Locations.{IsRead as IsLocationRead, SpellsBehind, SpellsExpression, IsExpressionSpan, is_item, items_among, bytes_in}
use Rattle.loc_lists.proofs.Spans.{behind_once}
use Rattle.value_links.specs.Lists.{IsListIn}
use Rattle.value_links.specs.Reading.{ListRead, Reading, list_at, part_at}
use Rattle.written_files.specs.inside.Standing.{StandsWhole}
use Rattle.unit_slots.specs.Standing.{BeginsWith, OperandsEnd}
use Rattle.unit_slots.proofs.ListItemsStand.{behind_expression, no_base, operands_stand, expression_inside, front_left, in_section}

-- ONE ITEM

-- the length of the expression of an item stands behind its operands, in its fewest bytes
pub record ItemShort (section : List ℕ) (raw : RawEntry) : Type 0 where
  pub end : ℕ
  pub behind : OperandsEnd Locations section raw end
  pub counted : BeginsWith (least_unsigned_len (length (bytes_in section raw.expr))) (drop end section)

-- so many bytes stand behind an entry that sets no base
behind_few : (kind : EntryKind) (len : ℕ) → sets_base kind ≡ false → behind_bytes kind len ≡ least_unsigned_len len + len
behind_few BaseAddressx len none = absurd (false≢true (sym none))
behind_few BaseAddress len none = absurd (false≢true (sym none))
behind_few kind len none = refl

-- and its expression has the length of its span
span_long : (kind : EntryKind) (span : Span) (expression : List ℕ) (end : ℕ) → sets_base kind ≡ false → IsExpressionSpan kind span expression end → span.len ≡ length expression
span_long BaseAddressx span expression end none is = absurd (false≢true (sym none))
span_long BaseAddress span expression end none is = absurd (false≢true (sym none))
span_long kind span expression end none is = is.0

-- An entry that was read with its expression, and an entry that stands there without a byte too many, are one, and what follows is the same.
module _ (section : List ℕ) (at : ℕ) (raw : RawEntry) (location other : Entry × List ℕ) (first rest own behind more : List ℕ) (here : IsLocationRead at raw location first) (whole : drop at section ≡ first ++ rest) (spelled : SpellsEntry Locations other.0 own) (short : ShortestBehind other.0.kind other.1 behind) (there : drop at section ≡ own ++ (behind ++ more)) where
  -- the bytes behind the entry are those without a byte too many
  record IsOneEntry : Type 0 where
    after : rest ≡ more
    long : length here.spelled.1 ≡ behind_bytes location.0.kind (length location.1)

  split : drop at section ≡ here.spelled.0 ++ (here.spelled.1 ++ rest)
  split = whole ∙ ap (λ (z : List ℕ). z ++ rest) here.spelled.4 ∙ append_assoc here.spelled.0 here.spelled.1 rest

  one_entry : IsOneEntry
  one_entry =
      let (spelling, tail, s, spells, parts) = here.spelled in
      let joined : spelling ++ (tail ++ rest) ≡ own ++ (behind ++ more) = sym split ∙ there in
      let entry = entries_once Locations location.0 other.0 spelling own (tail ++ rest) (behind ++ more) s spelled joined in
      let left : tail ++ rest ≡ behind ++ more = append_cancel_left own (tail ++ rest) (behind ++ more) (ap (λ (z : List ℕ). z ++ (tail ++ rest)) (sym entry.0) ∙ joined) in
      let kinds : SpellsBehind other.0.kind location.1 tail = subst (λ (e : Entry). SpellsBehind e.kind location.1 tail) entry.1 spells in
      let both = behind_once other.0.kind location.1 other.1 tail behind rest more kinds short.0 left in
      record {
        after = append_cancel_left behind rest more (ap (λ (z : List ℕ). z ++ rest) (sym both.0) ∙ left);
        long = ap length both.0 ∙ short.1 ∙ ap (λ (e : Entry). behind_bytes e.kind (length other.1)) (sym entry.1) ∙ ap (λ (z : List ℕ). behind_bytes location.0.kind (length z)) (sym both.1);
      }

  pub same_after : rest ≡ more
  same_after = one_entry.after

  pub item_short : is_item raw ≡ true → ItemShort section raw
  item_short item =
      let (spelling, tail, s, spells, parts) = here.spelled in
      let none : sets_base location.0.kind ≡ false = no_base raw location.0 here.says item in
      let (ends, left) = operands_stand section at raw location.0 spelling (tail ++ rest) s here.says here.place split in
      let e : SpellsExpression location.1 tail = behind_expression location.0.kind location.1 tail none spells in
      let some : length first ≡ suc (length s.operands) + length tail = ap length parts ∙ length-append spelling tail ∙ ap (λ (z : List ℕ). length z + length tail) s.whole in
      let inside : raw.expr.at + raw.expr.len ≤ length section = expression_inside section at raw location first rest here whole (omega (arith, some)) in
      let size : length (bytes_in section raw.expr) ≡ length location.1 = length_part raw.expr.at raw.expr.len section inside ∙ span_long location.0.kind raw.expr location.1 (at + length first) none here.expression in
      let few : length tail ≡ least_unsigned_len (length location.1) + length location.1 = one_entry.long ∙ behind_few location.0.kind (length location.1) none in
      let all : length tail ≡ length e.head + length location.1 = ap length e.whole ∙ length-append e.head location.1 in
      record {
        end = raw.at + 1 + length s.operands;
        behind = ends;
        counted = subst (λ (n : ℕ). BeginsWith (least_unsigned_len n) (drop (raw.at + 1 + length s.operands) section)) (sym size) (record {
          number = length location.1;
          first = e.head;
          rest = location.1 ++ rest;
          spelled = e.count;
          whole = left ∙ ap (λ (z : List ℕ). z ++ rest) e.whole ∙ append_assoc e.head location.1 rest;
          sized = omega (arith, few, all);
        });
      }

-- THE ITEMS OF A LIST

abbrev ItemThere : List ℕ → RawEntry → Type 0
ItemThere section raw = is_item raw ≡ true → ItemShort section raw

-- the entries that were read are those that stand there without a byte too many
items_short : (section : List ℕ) (at : ℕ) (raws : List RawEntry) (locations : List (Entry × List ℕ)) (front after : List ℕ) → AreReadFrom IsLocationRead at raws locations front → drop at section ≡ front ++ after → (others : List (Entry × List ℕ)) (bytes bare more : List ℕ) → AreSaid Locations raws (map (λ (location : Entry × List ℕ). location.0) others) → StandApart ShortestBehind others bytes bare → drop at section ≡ bytes ++ more → All (ItemThere section) raws
items_short section at [] locations front after read whole others bytes bare more said apart there = All-nil (ItemThere section)
items_short section at (r ∷ raws) [] front after read whole others bytes bare more said apart there = absurd read
items_short section at (r ∷ raws) (e ∷ es) front after read whole [] bytes bare more said apart there = absurd said
items_short section at (r ∷ raws) (e ∷ es) front after (first, rest, here, reads, parts) whole (o ∷ os) bytes bare more (says, said) (own, behind, left, bare_rest, spelled, short, apart, whole_parts, bare_parts) there =
    let all : drop at section ≡ (first ++ rest) ++ after = whole ∙ ap (λ (z : List ℕ). z ++ after) parts in
    let mine : drop at section ≡ first ++ (rest ++ after) = all ∙ append_assoc first rest after in
    let theirs : drop at section ≡ own ++ (behind ++ (left ++ more)) = there ∙ ap (λ (z : List ℕ). z ++ more) whole_parts ∙ append_assoc own (behind ++ left) more ∙ ap (λ (z : List ℕ). own ++ z) (append_assoc behind left more) in
    let same : rest ++ after ≡ left ++ more = same_after section at r e o first (rest ++ after) own behind (left ++ more) here mine spelled short theirs in
    let next : drop (at + length first) section ≡ rest ++ after = front_left section at first rest after all in
    All-cons (ItemThere section) r raws
    (item_short section at r e o first (rest ++ after) own behind (left ++ more) here mine spelled short theirs)
    (items_short section (at + length first) raws es rest after reads next os left bare_rest more said apart (next ∙ same))

put_item : (section : List ℕ) (b : Bool) (raw : RawEntry) (items : List RawEntry) → (b ≡ true → ItemShort section raw) → All (ItemShort section) items → All (ItemShort section) (cond b (raw ∷ items) items)
put_item section true raw items here rest = All-cons (ItemShort section) raw items (here refl) rest
put_item section false raw items here rest = rest

items_are : (section : List ℕ) (raws : List RawEntry) → All (ItemThere section) raws → All (ItemShort section) (items_among raws)
items_are section [] all = All-nil (ItemShort section)
items_are section (r ∷ raws) all = put_item section (is_item r) r (items_among raws) (All-head (ItemThere section) r raws all) (items_are section raws (All-tail (ItemThere section) r raws all))

-- so each item of a list that stands without a byte too many has its length in its fewest bytes
pub list_short : (s : Reading) (k : ℕ) → IsListIn s.links Locations (list_at s.location_lists k) → StandsWhole Locations s k → All (ItemShort s.links.locations.section) (items_among (list_at s.location_lists k).raws)
list_short s k known stands =
    let section : List ℕ = s.links.locations.section in
    let list : ListRead = list_at s.location_lists k in
    let part = part_at s.links.locations list.part in
    let read = known.read in
    let (locations, bare, said, apart) = stands.whole in
    let past : List ℕ = drop (part_end part - list.at) (drop list.at section) in
    items_are section list.raws
    (items_short section list.at list.raws read.entries read.front ((read.end ++ read.rest) ++ past) read.read (in_section section part list.at read.front (read.end ++ read.rest) read.whole) locations stands.bytes bare (stands.rest ++ past) said apart (in_section section part list.at stands.bytes stands.rest stands.stands))
