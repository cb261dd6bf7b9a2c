-- The items of the location lists that a unit owns, as they stand in their section.
use Rattle.std.proofs.Common.{◌≡◌, ◌≤◌, ◌<◌, ◌+◌, ◌-◌, ◌++◌, ◌∙◌, inl, inr, Bool, true, false, ℕ, zero, suc, List, [], ◌∷◌, length, get_or, take, drop, cond, sym, ap, subst, refl, arith}
use Rattle.std.specs.Prelude.{Option, Some, None, not}
use Rattle.std.specs.List.{All, Contains}
use Rattle.std.proofs.lemmas.Bool.{cases_lt, false≢true}
use Rattle.std.proofs.lemmas.List.{append_assoc, drop-drop, drop_at, take_at, get_or_default, length-append, length-drop, length-map, take-append-drop}
use Rattle.std.proofs.lemmas.List.Elements.{All-nil, All-cons}
use Rattle.std.proofs.Math.ListN.{get_or-map}
use Rattle.dw_base.specs.declared.fault.Reach.{Reach}
use Rattle.leb_codec.specs.Leb.{Uleb}
use Rattle.entry_arena.specs.Trees.{SpellsBetween}
use Rattle.entry_read.specs.Units.{HeadAndForest}
use Rattle.list_model.specs.declared.contribution.Contribution.{Contribution}
use Rattle.list_model.specs.declared.entry.EntryKind.{EntryKind}
use Rattle.list_model.specs.declared.entry.EntryKind.TheVariants.{BaseAddressx, BaseAddress}
use Rattle.list_model.specs.declared.entry.ListKind.{ListKind}
use Rattle.list_model.specs.declared.entry.ListKind.TheVariants.{Locations}
use Rattle.list_model.specs.declared.entry.RawEntry.{RawEntry}
use Rattle.list_model.specs.Contributions.{part_end, bytes_from}
use Rattle.list_model.specs.Entries.{Entry, Says, SpellsEntry, SpellsOperands}
use Rattle.list_model.specs.Items.{sets_base}
use Rattle.list_model.specs.Reading.{AreReadFrom}
use Rattle.loc_lists.specs.Locations.{IsRead as IsLocationRead, IsLocationList, SpellsBehind, SpellsExpression, is_item, items_among, bytes_in, expressions_of}
use Rattle.loc_lists.proofs.ItemLaws.{item_says}
use Rattle.loc_lists.proofs.Spans.{span_inside}
use Rattle.written_files.specs.Layouts.{AreOwnedLists}
use Rattle.value_links.specs.Links.{held_at}
use Rattle.value_links.specs.Lists.{IsOwner, owner_unit}
use Rattle.value_links.specs.Operations.{LinkedOperation, LinksExpression}
use Rattle.value_links.specs.Reading.{ListRead, Linkable, unit_at, list_at, part_at}
use Rattle.value_links.specs.Sections.{debug_lists}
use Rattle.value_links.specs.World.{World, head_and_forest, IsWorldOf}
use Rattle.unit_slots.specs.Standing.{OperandsEnd}
use Rattle.unit_slots.specs.inside.Added.{Begins}
use Rattle.unit_slots.specs.inside.Made.{ItemsStand, ListsStand}
use Rattle.unit_slots.proofs.NamedSlots.{expression_there}
use Rattle.unit_slots.proofs.WorldUnits.{held_same}

-- AN ITEM

-- a thing stands where bytes begin with it
stands_between : (S : List ℕ → Type 0) (section : List ℕ) (at : ℕ) (first rest : List ℕ) → at ≤ length section → S first → drop at section ≡ first ++ rest → SpellsBetween S section at (at + length first)
stands_between S section at first rest within spells whole =
    let size : length (drop at section) ≡ length section - at = length-drop at section in
    let parts : length (drop at section) ≡ length first + length rest = ap length whole ∙ length-append first rest in
    let long : length first ≡ at + length first - at = omega arith in
    let own : take (at + length first - at) (drop at section) ≡ first = ap (take (at + length first - at)) whole ∙ take_at first rest (at + length first - at) long in
    record { order = omega arith; inside = omega (arith, size, parts, within); spelled = subst S (sym own) spells }

pub behind_expression : (kind : EntryKind) (expression bytes : List ℕ) → sets_base kind ≡ false → SpellsBehind kind expression bytes → SpellsExpression expression bytes
behind_expression BaseAddressx expression bytes none spells = absurd (false≢true (sym none))
behind_expression BaseAddress expression bytes none spells = absurd (false≢true (sym none))
behind_expression kind expression bytes none spells = spells

not_false : (b : Bool) → not b ≡ true → b ≡ false
not_false true e = absurd (false≢true e)
not_false false e = refl

-- The operands of an entry stand behind its code, and behind them what else belongs to it.
pub operands_stand : (section : List ℕ) (at : ℕ) (raw : RawEntry) (entry : Entry) (spelling after : List ℕ) → (s : SpellsEntry Locations entry spelling) → Says Locations raw entry → raw.at ≡ at → drop at section ≡ spelling ++ after → OperandsEnd Locations section raw (raw.at + 1 + length s.operands) × (drop (raw.at + 1 + length s.operands) section ≡ after)
operands_stand section at raw entry spelling after s says place whole =
    let all_bytes : drop raw.at section ≡ s.code ∷ (s.operands ++ after) = ap (λ (n : ℕ). drop n section) place ∙ whole ∙ ap (λ (z : List ℕ). z ++ after) s.whole in
    let behind_code : drop (raw.at + 1) section ≡ s.operands ++ after = sym (drop-drop 1 raw.at section) ∙ ap (drop 1) all_bytes in
    let size : length (drop raw.at section) ≡ length section - raw.at = length-drop raw.at section in
    let some : length (drop raw.at section) ≡ suc (length (s.operands ++ after)) = ap length all_bytes in
    let stands = stands_between (SpellsOperands entry.kind (entry.a, entry.b)) section (raw.at + 1) s.operands after (omega (arith, size, some)) s.spelled behind_code in
    let left : drop (raw.at + 1 + length s.operands) section ≡ after = sym (drop-drop (length s.operands) (raw.at + 1) section) ∙ ap (drop (length s.operands)) behind_code ∙ drop_at s.operands after (length s.operands) refl in
    (record { kind = entry.kind; known = says.of_code; operands = (entry.a, entry.b); spelled = stands }, left)

-- the entry of an item sets no base
pub no_base : (raw : RawEntry) (entry : Entry) → Says Locations raw entry → is_item raw ≡ true → sets_base entry.kind ≡ false
no_base raw entry says item = not_false (sets_base entry.kind) (sym (item_says raw entry says) ∙ item)

-- the operands, the length and the expression of an item
pub record LocationStands (section : List ℕ) (raw : RawEntry) : Type 0 where
  pub end : ℕ
  pub behind : OperandsEnd Locations section raw end
  pub counted : Begins Uleb (drop end section)
  pub inside : raw.expr.at + raw.expr.len ≤ length section

-- what is read stands in the section
pub expression_inside : (section : List ℕ) (at : ℕ) (raw : RawEntry) (location : Entry × List ℕ) (first rest : List ℕ) → IsLocationRead at raw location first → drop at section ≡ first ++ rest → 0 < length first → raw.expr.at + raw.expr.len ≤ length section
expression_inside section at raw location first rest here whole some =
    let from : length (drop at section) ≡ length section - at = length-drop at section in
    let long : length (drop at section) ≡ length first + length rest = ap length whole ∙ length-append first rest in
    let span = span_inside location.0.kind raw.expr location.1 (at + length first) here.expression in
    omega (arith, from, long, span, some)

location_stands : (section : List ℕ) (at : ℕ) (raw : RawEntry) (location : Entry × List ℕ) (first rest : List ℕ) → IsLocationRead at raw location first → drop at section ≡ first ++ rest → is_item raw ≡ true → LocationStands section raw
location_stands section at raw location first rest here whole item =
    let (spelling, behind, s, spells, parts) = here.spelled in
    let own : drop at section ≡ spelling ++ (behind ++ rest) = whole ∙ ap (λ (z : List ℕ). z ++ rest) parts ∙ append_assoc spelling behind rest in
    let (ends, left) = operands_stand section at raw location.0 spelling (behind ++ rest) s here.says here.place own in
    let some : length first ≡ suc (length s.operands) + length behind = ap length parts ∙ length-append spelling behind ∙ ap (λ (z : List ℕ). length z + length behind) s.whole in
    let e : SpellsExpression location.1 behind = behind_expression location.0.kind location.1 behind (no_base raw location.0 here.says item) spells in
    record {
      end = raw.at + 1 + length s.operands;
      behind = ends;
      counted = (length location.1, e.head, location.1 ++ rest, e.count, left ∙ ap (λ (z : List ℕ). z ++ rest) e.whole ∙ append_assoc e.head location.1 rest);
      inside = expression_inside section at raw location first rest here whole (omega (arith, some));
    }

-- THE ITEMS OF A LIST

-- what is left behind a front
pub front_left : (section : List ℕ) (at : ℕ) (first rest after : List ℕ) → drop at section ≡ (first ++ rest) ++ after → drop (at + length first) section ≡ rest ++ after
front_left section at first rest after whole = sym (drop-drop (length first) at section) ∙ ap (drop (length first)) (whole ∙ append_assoc first rest after) ∙ drop_at first (rest ++ after) (length first) refl

abbrev ItemThere : List ℕ → RawEntry → Type 0
ItemThere section raw = is_item raw ≡ true → LocationStands section raw

locations_stand : (section : List ℕ) (at : ℕ) (raws : List RawEntry) (locations : List (Entry × List ℕ)) (bytes after : List ℕ) → AreReadFrom IsLocationRead at raws locations bytes → drop at section ≡ bytes ++ after → All (ItemThere section) raws
locations_stand section at [] [] bytes after read whole = All-nil (ItemThere section)
locations_stand section at [] (e ∷ es) bytes after read whole = absurd read
locations_stand section at (r ∷ raws) [] bytes after read whole = absurd read
locations_stand section at (r ∷ raws) (e ∷ es) bytes after (first, rest, here, more, parts) whole =
    let all : drop at section ≡ (first ++ rest) ++ after = whole ∙ ap (λ (z : List ℕ). z ++ after) parts in
    All-cons (ItemThere section) r raws
    (location_stands section at r e first (rest ++ after) here (all ∙ append_assoc first rest after))
    (locations_stand section (at + length first) raws es rest after more (front_left section at first rest after all))

-- what stands in a contribution stands in its section
pub in_section : (section : List ℕ) (part : Contribution) (at : ℕ) (front rest : List ℕ) → bytes_from section part at ≡ front ++ rest → drop at section ≡ front ++ (rest ++ drop (part_end part - at) (drop at section))
in_section section part at front rest e =
    sym (take-append-drop (part_end part - at) (drop at section)) ∙ ap (λ (z : List ℕ). z ++ drop (part_end part - at) (drop at section)) e ∙ append_assoc front rest (drop (part_end part - at) (drop at section))

list_stands : (section : List ℕ) (part : Contribution) (at : ℕ) (raws : List RawEntry) → IsLocationList section part at raws → All (ItemThere section) raws
list_stands section part at raws list = locations_stand section at raws list.entries list.front ((list.end ++ list.rest) ++ drop (part_end part - at) (drop at section)) list.read (in_section section part at list.front (list.end ++ list.rest) list.whole)

-- THE EXPRESSION OF AN ITEM

put_head : (b : Bool) (raw other : RawEntry) (items : List RawEntry) → Contains items other → Contains (cond b (raw ∷ items) items) other
put_head true raw other items (k, inside, here) = (suc k, omega (arith, inside), here)
put_head false raw other items there = there

item_head : (raw : RawEntry) (items : List RawEntry) (b : Bool) → b ≡ true → Contains (cond b (raw ∷ items) items) raw
item_head raw items true is = (0, omega arith, refl)
item_head raw items false is = absurd (false≢true is)

among_items : (raws : List RawEntry) (raw : RawEntry) → Contains raws raw → is_item raw ≡ true → Contains (items_among raws) raw
among_items [] raw (k, inside, here) item = absurd (omega (arith, inside))
among_items (r ∷ raws) raw (zero, inside, here) item =
    subst (λ (z : RawEntry). Contains (cond (is_item r) (r ∷ items_among raws) (items_among raws)) z) here (item_head r (items_among raws) (is_item r) (ap is_item here ∙ item))
among_items (r ∷ raws) raw (suc k, inside, here) item = put_head (is_item r) r raw (items_among raws) (among_items raws raw (k, omega (arith, inside), here) item)

expression_among : (P : List ℕ → Type 0) (section : List ℕ) (raws : List RawEntry) (raw : RawEntry) → All P (expressions_of section raws) → Contains raws raw → is_item raw ≡ true → P (bytes_in section raw.expr)
expression_among P section raws raw all there item =
    let (k, inside, here) = among_items raws raw there item in
    let of : RawEntry → List ℕ = λ (z : RawEntry). bytes_in section z.expr in
    let size : length (expressions_of section raws) ≡ length (items_among raws) = length-map (items_among raws) (λ (z : RawEntry). bytes_in section z.expr) in
    let same : get_or (expressions_of section raws) k (bytes_in section raw.expr) ≡ bytes_in section raw.expr = get_or-map (λ (z : RawEntry). bytes_in section z.expr) (items_among raws) k raw ∙ ap (λ (z : RawEntry). bytes_in section z.expr) here in
    subst P same (all k (bytes_in section raw.expr) (omega (arith, inside, size)))

-- one unit owns a list, or none does
owner_same : (r : Linkable) (kind : ListKind) (at : ℕ) (a b : Option ℕ) → IsOwner r kind at a → IsOwner r kind at b → a ≡ b
owner_same r kind at (Some u) (Some v) (here, first) (there, other) = elim (cases_lt u v) [
  | inl less ↦ absurd (other u less here)
  | inr rest ↦ elim (cases_lt v u) [
    | inl less ↦ absurd (first v less there)
    | inr more ↦ let same : u ≡ v = omega arith in ap (λ (z : ℕ). Some z) same
  ]
]
owner_same r kind at (Some u) None (here, first) none = absurd (none u here)
owner_same r kind at None (Some v) none (there, other) = absurd (none v there)
owner_same r kind at None None p q = refl

-- THE LISTS OF A WORLD

module _ (world : World) (some : (reach : Reach) × IsWorldOf world.image reach world) (u : ℕ) (inside : u < length world.units) where
  -- what a unit owns is read with expressions whose operations name things of this unit
  owned_items : (k : ℕ) → k < length some.1.r.location_lists → IsOwner some.1.r.links Locations (list_at some.1.r.location_lists k).at (Some u) → ItemsStand (head_and_forest (unit_at some.1.r.links u)) some.1.r.links.locations.section (list_at some.1.r.location_lists k).raws
  owned_items k known owns j d less item =
      let links = some.1.r.links in
      let section : List ℕ = links.locations.section in
      let list : ListRead = list_at some.1.r.location_lists k in
      let raw : RawEntry = get_or list.raws j d in
      let stands : LocationStands section raw = list_stands section (part_at links.locations list.part) list.at list.raws ((some.1.read.lists Locations).each k known).read j d less item in
      let read = (some.1.read.lists Locations).expressions k known in
      let same : read.owner ≡ Some u = owner_same links Locations list.at read.owner (Some u) read.owned owns in
      let there : Contains list.raws raw = (j, less, get_or_default list.raws j raw d less) in
      let (linked, means) = expression_among (λ (bytes : List ℕ). (linked : List LinkedOperation) × LinksExpression links (owner_unit links read.owner) bytes linked) section list.raws raw read.linked there item in
      let own : LinksExpression links u (bytes_in section raw.expr) linked = subst (λ (o : Option ℕ). LinksExpression links (owner_unit links o) (bytes_in section raw.expr) linked) same means in
      record {
        end = stands.end;
        behind = stands.behind;
        counted = stands.counted;
        within = stands.inside;
        operations = own.0;
        spelled = own.1;
        named = expression_there links u (bytes_in section raw.expr) linked own.0 own own.1;
      }

  pub lists_stand : (own : HeadAndForest) (numbers : List ℕ) → own ≡ held_at world.units u → AreOwnedLists some.1.r u numbers → ListsStand world own (debug_lists world.image Locations) numbers
  lists_stand own numbers own_is owned i e less =
      let r = some.1.r in
      let k : ℕ = get_or numbers i e in
      let those = owned.those i e less in
      let count : length world.locations ≡ length r.location_lists = (some.1.holds.lists Locations).count in
      let known = those.0 in
      let same : own ≡ head_and_forest (unit_at r.links u) = own_is ∙ held_same world some u inside in (
        omega (arith, known, count),
        λ d.
            let raws = ((some.1.holds.lists Locations).each k d known).raws in
            subst (λ (h : HeadAndForest). ItemsStand h (debug_lists world.image Locations) (get_or world.locations k d).raw) (sym same)
            (subst (λ (z : List ℕ). ItemsStand (head_and_forest (unit_at r.links u)) z (get_or world.locations k d).raw) (some.1.holds.sections Locations)
            (subst (ItemsStand (head_and_forest (unit_at r.links u)) r.links.locations.section) (sym raws) (owned_items k known those.1))),
      )
