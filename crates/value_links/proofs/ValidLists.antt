-- Lists that are read, and their slots, indexes and expressions, have no fault.
use Rattle.std.proofs.Common.{◌≡◌, ◌≤◌, ◌<◌, ◌+◌, ◌∙◌, ◌⊎◌, inl, inr, Bool, true, false, true≢false, ℕ, zero, suc, List, [], ◌∷◌, length, sym, ap, subst, refl, arith}
use Rattle.std.specs.Prelude.{Option, Some, None, map}
use Rattle.std.specs.List.{All, AllZip, Contains}
use Rattle.std.proofs.lemmas.List.Elements.{All-head, All-tail}
use Rattle.dw_base.specs.declared.fault.Kind.{Kind}
use Rattle.dw_base.specs.declared.fault.Kind.TheVariants.{Limit, Pointer, ListShared}
use Rattle.dw_base.specs.declared.fault.Reach.{Reach}
use Rattle.dw_base.specs.declared.fault.Reach.TheVariants.{Wide}
use Rattle.expr_ops.specs.declared.names.Named.{Named}
use Rattle.expr_ops.specs.declared.names.Named.TheVariants.{BaseType, UnitEntry}
use Rattle.expr_ops.specs.Expressions.{Operation}
use Rattle.expr_ops.specs.Drafts.{is_generic, op_at}
use Rattle.expr_ops.specs.Names.{named_by}
use Rattle.expr_ops.proofs.Levels.{expression_once}
use Rattle.form_codec.specs.Forms.{Meaning}
use Rattle.form_codec.specs.Values.{bytes_in}
use Rattle.form_codec.specs.Forms.Meaning.{Expression, InUnit, InSection, SectionPlace, LocationList, RangeList}
use Rattle.list_model.specs.declared.entry.ListKind.{ListKind}
use Rattle.list_model.specs.declared.entry.ListKind.TheVariants.{Ranges, Locations}
use Rattle.list_model.specs.declared.contribution.Contribution.{Contribution}
use Rattle.list_model.specs.declared.entry.RawEntry.{RawEntry}
use Rattle.list_model.specs.Reading.{list_entry_limit}
use Rattle.list_model.proofs.EntryLaws.{entries_once, entries_apart, entries_whole, ends_whole}
use Rattle.list_model.proofs.WalkLaws.{walk_whole}
use Rattle.range_lists.proofs.RangeLaws.{ranges_whole}
use Rattle.loc_lists.specs.Locations.{items_among}
use Rattle.loc_lists.proofs.LocationLaws.{locations_whole}
use Rattle.value_links.specs.Attributes.{OffsetClass, offset_class}
use Rattle.value_links.specs.Attributes.OffsetClass.{LinePtr, RngList, LocList, RngListsPtr, LocListsPtr, AddrPtr, StrOffsetsPtr, MacPtr, Views, NoOffset}
use Rattle.value_links.specs.Reading.{ListRead, Linkable, Reading, unit_at, of_kind, lists_of, part_at, list_at, context_at}
use Rattle.value_links.specs.ListPlaces.{IsListPlace, IsSlot, SlotNames}
use Rattle.value_links.specs.Linked.{Linked, OffsetLinks, Links}
use Rattle.value_links.specs.Linked.Linked.{Itself, Operates, Refers, Program, ListAt, SlotAt, BaseOf, ViewsAt, Kept}
use Rattle.value_links.specs.Operations.{OpTarget, LinkedOperation, IsSomeExpression, NamesUnitEntry, NamesType, LinksReference, Names, LinksOperation, LinksExpression}
use Rattle.value_links.specs.Lists.{IsNamedIn, IsListOf, IsListIn, IsUnowned, IsOfTwoUnits, CountsInUnit, HasUnitOffset, AreExpressionsRead, owner_unit, expressions_at}
use Rattle.value_links.specs.Whole.{IsReading}
use Rattle.list_model.specs.Items.{FaultIndexes}
use Rattle.value_links.specs.ListFaults.{IsSlotAstray, IsNamedAt, AreBefore, FaultBytes, FaultEntries, FaultLooking, IsAstrayIn, FaultListOperations, FaultListExpression, IsTornApart, FaultExpressionsOf, BeginsWith, list_total, expression_bytes, expression_limit, PassesTotal, FaultByRule, FaultOfKind, FaultOfViews, FaultOfUses}
use Rattle.value_links.specs.Faults.{FaultOfLists}
use Rattle.value_links.specs.Laws.{AreListsWithin}
use Rattle.value_links.proofs.Tiles.{tiled_of}
use Rattle.value_links.proofs.ListsOnce.{place_once, list_same}
use Rattle.value_links.proofs.ReadingOnce.{linkable_once}
use Rattle.value_links.proofs.ValidViews.{views_faultless}
use Rattle.value_links.proofs.LinkedOnce.{unit_known}
use Rattle.value_links.proofs.ListMeanings.{owner_once}
use Rattle.value_links.proofs.ExpressionLaws.{linked_operations_faultless}
use Rattle.value_links.proofs.Totals.{Measures, entries_measured, bytes_measured, begins_within, total_within, earlier_within, one_within}

-- SLOTS THAT VALUES TELL

abbrev is_slot : Linked → Bool
is_slot (SlotAt kind p i) = true
is_slot linked = false

no_slot : (linked other : Linked) → linked ≡ other → is_slot linked ≡ true → is_slot other ≡ false → ⊥
no_slot linked other same is isnt = true≢false (sym is ∙ ap is_slot same ∙ isnt)

-- a slot that a link tells is one of a contribution
pub record IsSlotOf (r : Linkable) (kind : ListKind) (p i : ℕ) : Type 0 where
  pub known : p < length (of_kind r kind).parts
  pub counted : i < (part_at (of_kind r kind) p).slots

slot_is : (r : Linkable) (kind : ListKind) (p i : ℕ) (of : ListKind) (q j : ℕ) → SlotAt kind p i ≡ SlotAt of q j → q < length (of_kind r of).parts → j < (part_at (of_kind r of) q).slots → IsSlotOf r kind p i
slot_is r kind p i of q j same known counted =
    let kinds : of ≡ kind = cc in
    let parts : q ≡ p = cc in
    let slots : j ≡ i = cc in
    let of_kind_is : IsSlotOf r kind q j = subst (λ (z : ListKind). IsSlotOf r z q j) kinds (record { known = known; counted = counted }) in
    subst (λ (n : ℕ). IsSlotOf r kind p n) slots (subst (λ (n : ℕ). IsSlotOf r kind n j) parts of_kind_is)

offset_slot : (r : Linkable) (u id : ℕ) (class : OffsetClass) (n : ℕ) (linked : Linked) → OffsetLinks r u id class n linked → is_slot linked ≡ true → ⊥
offset_slot r u id LinePtr n linked (p, here, e) is = no_slot linked (Program p) e is refl
offset_slot r u id RngList n linked (here, e) is = no_slot linked (ListAt Ranges n) e is refl
offset_slot r u id LocList n linked (here, e) is = no_slot linked (ListAt Locations n) e is refl
offset_slot r u id RngListsPtr n linked (p, here, e) is = no_slot linked (BaseOf Ranges p) e is refl
offset_slot r u id LocListsPtr n linked (p, here, e) is = no_slot linked (BaseOf Locations p) e is refl
offset_slot r u id AddrPtr n linked (here, e) is = no_slot linked (Kept n) e is refl
offset_slot r u id StrOffsetsPtr n linked e is = no_slot linked (Kept n) e is refl
offset_slot r u id MacPtr n linked e is = no_slot linked (Kept n) e is refl
offset_slot r u id Views n linked (list, first, together, e) is = no_slot linked (ViewsAt list n) e is refl
offset_slot r u id NoOffset n linked none is = none

pub slot_linked : (r : Linkable) (u id name : ℕ) (meaning : Meaning) (kind : ListKind) (p i : ℕ) → Links r u id name meaning (SlotAt kind p i) → IsSlotOf r kind p i
slot_linked r u id name (InUnit n) kind p i (target, here, e) = absurd (no_slot (SlotAt kind p i) (Refers u target) e refl refl)
slot_linked r u id name (InSection n) kind p i (unit, target, here, e) = absurd (no_slot (SlotAt kind p i) (Refers unit target) e refl refl)
slot_linked r u id name (SectionPlace n) kind p i links = absurd (offset_slot r u id (offset_class name) n (SlotAt kind p i) links refl)
slot_linked r u id name (LocationList j) kind p i (q, (n, first, (q_in, at)), less, e) = slot_is r kind p i Locations q j e q_in less
slot_linked r u id name (RangeList j) kind p i (q, (n, first, (q_in, at)), less, e) = slot_is r kind p i Ranges q j e q_in less
slot_linked r u id name (Expression bytes) kind p i (operations, expression, e) = absurd (no_slot (SlotAt kind p i) (Operates operations) e refl refl)
slot_linked r u id name meaning kind p i e = absurd (no_slot (SlotAt kind p i) (Itself meaning) e refl refl)

-- EXPRESSIONS

-- what stands beside one of the items
beside : {A B : Type 0} (R : A → B → Type 0) (items : List A) (xs : List B) (a : A) → AllZip R items xs → Contains items a → (b : B) × R a b
beside R [] xs a zip (i, inside, is) = absurd (omega arith)
beside R (c ∷ items) [] a zip has = absurd zip
beside R (c ∷ items) (x ∷ xs) a (first, rest) (zero, inside, is) = (x, subst (λ z. R z x) is first)
beside R (c ∷ items) (x ∷ xs) a (first, rest) (suc i, inside, is) = beside R items xs a rest (i, omega arith, is)

-- what all images have one has
of_image : {X Y : Type 0} (P : Y → Type 0) (f : X → Y) (xs : List X) (x : X) → All P (map f xs) → Contains xs x → P (f x)
of_image P f [] x all (i, inside, is) = absurd (omega arith)
of_image P f (y ∷ xs) x all (zero, inside, is) = subst (λ z. P (f z)) is (All-head P (f y) (map f xs) all)
of_image P f (y ∷ xs) x all (suc i, inside, is) = of_image P f xs x (All-tail P (f y) (map f xs) all) (i, omega arith, is)

-- past the last unit nothing names an entry of its unit
module _ (r : Linkable) (u : ℕ) (past : length r.units ≤ u) where
  no_unit_entry : (n : ℕ) (target : OpTarget) → NamesUnitEntry r u n target → ⊥
  no_unit_entry n to (id, here, e) =
      let known : u < length r.units = unit_known r u id ((unit_at r u).head.at + n) here in
      absurd (omega arith)

  no_type : (code n : ℕ) (target : OpTarget) → is_generic code n ≡ false → NamesType r u code n target → ⊥
  no_type code n to isnt (inl (is, e)) = absurd (true≢false (sym is ∙ isnt))
  no_type code n to isnt (inr (also, names)) = no_unit_entry n to names

  no_reference : (named : Named) (code n : ℕ) (target : OpTarget) → CountsInUnit named code n → LinksReference r u named code n target → ⊥
  no_reference BaseType code n to counts names = no_type code n to counts names
  no_reference UnitEntry code n to counts names = no_unit_entry n to names
  no_reference named code n to counts names = counts

  -- so an expression whose operations name what they may has none that counts in its unit
  no_unit_offset : (bytes : List ℕ) (linked : List LinkedOperation) → LinksExpression r u bytes linked → HasUnitOffset bytes → ⊥
  no_unit_offset bytes linked (operations, spelled, zip) f =
      let same : f.operations ≡ operations = expression_once Wide f.operations operations bytes f.spelled spelled in
      let (other, links) = beside (LinksOperation r u) operations linked f.one zip (subst (λ (z : List Operation). Contains z f.one) same f.among) in
      no_reference (named_by f.one.code) f.one.code f.one.a other.target f.counts links.target

-- what is astray names nothing in the unit of the owner, or past the last
astray_names : (r : Linkable) (owner : Option ℕ) (code n : ℕ) → IsAstrayIn r owner code n → ¬ ((target : OpTarget) × Names r (owner_unit r owner) code n target)
astray_names r (Some u) code n astray = astray
astray_names r None code n (named, none) = λ (x : (target : OpTarget) × Names r (length r.units) code n target). none (x.0, subst (λ (z : Named). LinksReference r (length r.units) z code n x.0) named x.1)

-- an expression within the limits whose operations name what they may has no fault
operations_faultless : (r : Linkable) (owner : Option ℕ) (reach : Reach) (bytes : List ℕ) (linked : List LinkedOperation) (kind : Kind) (place : ℕ) → LinksExpression r (owner_unit r owner) bytes linked → IsSomeExpression reach bytes → FaultListOperations r owner reach bytes kind place → ⊥
operations_faultless r owner reach bytes linked kind place means within (inl fault) = linked_operations_faultless r (owner_unit r owner) reach bytes linked kind place means within (inl fault)
operations_faultless r owner reach bytes linked kind place means within (inr (is, f)) =
    linked_operations_faultless r (owner_unit r owner) reach bytes linked kind place means within (inr (is, record { ops = f.ops; spelled = f.spelled; places = f.places; k = f.k; inside = f.inside; stands = f.stands; astray = astray_names r owner (op_at f.ops f.k).code (op_at f.ops f.k).a f.astray }))

-- THE PASS

-- the bytes of a list that is read have no fault
list_faultless : (of : ListKind) (section : List ℕ) (part : Contribution) (at : ℕ) (reach : Reach) (raws : List RawEntry) → IsListOf of section part at raws → length raws ≤ list_entry_limit reach → (kind : Kind) (place : ℕ) → FaultBytes of section part at reach kind place → ⊥
list_faultless Ranges section part at reach raws h few Limit place f = f
list_faultless Ranges section part at reach raws h few kind place f = ranges_whole entries_once entries_apart entries_whole ends_whole section part at reach raws h few (kind, place, f)
list_faultless Locations section part at reach raws h few Limit place f = f
list_faultless Locations section part at reach raws h few kind place f = locations_whole entries_once entries_apart entries_whole ends_whole section part at reach raws h few (kind, place, f)

module _ (file : List ℕ) (reach : Reach) (r : Reading) (read : IsReading file r) (few : AreListsWithin r reach) where
  -- a slot names a list
  slots_name : (of : ListKind) (p i at : ℕ) → IsSlot (of_kind r.links of) p i at → SlotNames (of_kind r.links of) p i at
  slots_name of p i at slot =
      let (other, named) = (read.lists of).slots p i slot.known slot.counted in
      subst (λ (n : ℕ). SlotNames (of_kind r.links of) p i n) (named.0.tells ∙ sym slot.tells) named

  no_slot_astray : (of : ListKind) (place : ℕ) → IsSlotAstray r.links of place → ⊥
  no_slot_astray of place (p, i, at, slot, none, here) = none (slots_name of p i at slot)

  -- a list that something names is read, in the contribution in which it begins
  record IsHere (of : ListKind) (p at : ℕ) : Type 0 where
    k : ℕ
    inside : k < length (lists_of r of)
    here : (list_at (lists_of r of) k).at ≡ at
    part : (list_at (lists_of r of) k).part ≡ p

  is_here : (of : ListKind) (p at : ℕ) → IsNamedAt r.links of p at → IsHere of p at
  is_here of p at named =
      let (k, inside, here) = (read.lists of).all at named.named in
      let list : ListRead = list_at (lists_of r of) k in
      record { k = k; inside = inside; here = here; part = place_once (of_kind r.links of) (tiled_of file r.links read.links of) at list.part p (subst (λ (n : ℕ). IsListPlace (of_kind r.links of) list.part n) here ((read.lists of).each k inside).begins) named.begins }

  -- and it is the one with a number
  is_one : (of : ListKind) (list : ListRead) → IsListIn r.links of list → (k : ℕ) × (k < length (lists_of r of)) × (list_at (lists_of r of) k ≡ list)
  is_one of list is =
      let (k, inside, here) = (read.lists of).all list.at is.named in
      (k, inside, list_same file r.links read.links of (list_at (lists_of r of) k) list ((read.lists of).each k inside) is here)

  no_total_passed : (of : ListKind) (measure : List RawEntry → ℕ) (limit : ℕ) → Measures of measure → list_total measure r.range_lists + list_total measure r.location_lists ≤ limit → (at : ℕ) → PassesTotal r.links measure limit of at → ⊥
  no_total_passed of measure limit is most at f =
      let h = is_here of f.p at f.named in
      let section = of_kind r.links of in
      let lists : List ListRead = lists_of r of in
      let list : ListRead = list_at lists h.k in
      let there : BeginsWith of section.section (part_at section list.part) at f.raws = subst (λ (q : ℕ). BeginsWith of section.section (part_at section q) at f.raws) (sym h.part) f.begins in
      let begun : BeginsWith of section.section (part_at section list.part) list.at f.raws = subst (λ (n : ℕ). BeginsWith of section.section (part_at section list.part) n f.raws) (sym h.here) there in
      let some : measure f.raws ≤ measure list.raws = begins_within of measure is section.section (part_at section list.part) list.at list.raws f.raws ((read.lists of).each h.k h.inside).read begun in
      let before : AreBefore r.links of list.at f.front = subst (λ (n : ℕ). AreBefore r.links of n f.front) (sym h.here) f.before in
      let front : list_total measure f.front + measure list.raws ≤ list_total measure lists = total_within file r.links read.links of lists f.front (read.lists of) h.k h.inside before measure in
      let all : list_total measure f.earlier + list_total measure lists ≤ list_total measure r.range_lists + list_total measure r.location_lists = earlier_within file r read measure of f.earlier f.other in
      let past : limit < list_total measure f.earlier + list_total measure f.front + measure f.raws = f.past in
      omega (arith, most)

  no_rule : (of : ListKind) (kind : Kind) (place : ℕ) → FaultByRule r.links reach of kind place → ⊥
  no_rule of Pointer place f = no_slot_astray of place f
  no_rule of Limit place (inl entries) = no_total_passed of length (list_entry_limit reach) (entries_measured of) few.entries place entries
  no_rule of Limit place (inr bytes) = no_total_passed of expression_bytes (expression_limit reach) (bytes_measured of) few.bytes place bytes
  no_rule of kind place f = f

  short_list : (of : ListKind) (k : ℕ) → k < length (lists_of r of) → length (list_at (lists_of r of) k).raws ≤ list_entry_limit reach
  short_list of k inside =
      let within = one_within file r read length of k inside in
      omega (arith, within, few.entries)

  no_byte_fault : (of : ListKind) (p at : ℕ) (kind : Kind) (place : ℕ) → IsNamedAt r.links of p at → FaultBytes of (of_kind r.links of).section (part_at (of_kind r.links of) p) at reach kind place → ⊥
  no_byte_fault of p at kind place named f =
      let h = is_here of p at named in
      let section = of_kind r.links of in
      let list : ListRead = list_at (lists_of r of) h.k in
      let there : FaultBytes of section.section (part_at section list.part) at reach kind place = subst (λ (q : ℕ). FaultBytes of section.section (part_at section q) at reach kind place) (sym h.part) f in
      let moved : FaultBytes of section.section (part_at section list.part) list.at reach kind place = subst (λ (n : ℕ). FaultBytes of section.section (part_at section list.part) n reach kind place) (sym h.here) there in
      list_faultless of section.section (part_at section list.part) list.at reach list.raws ((read.lists of).each h.k h.inside).read (short_list of h.k h.inside) kind place moved

  no_entry_fault : (of : ListKind) (kind : Kind) (place : ℕ) → FaultEntries r.links reach of kind place → ⊥
  no_entry_fault of kind place (p, at, named, f) = no_byte_fault of p at kind place named f

  no_index_fault : (of : ListKind) (kind : Kind) (place : ℕ) → FaultLooking r.links of kind place → ⊥
  no_index_fault of kind place (list, u, is, named, f) =
      let (k, inside, same) = is_one of list is in
      let one : ListRead = list_at (lists_of r of) k in
      let looked = (read.lists of).looked k u inside (subst (λ (z : ListRead). IsNamedIn r.links of z.at u) (sym same) named) in
      walk_whole of r.links.addresses (context_at r.links u) one.raws looked.0 looked.1 looked.2 looked.3 (kind, place, subst (λ (z : ListRead). FaultIndexes of (context_at r.links u) z.raws kind place) (sym same) f)

  -- the expressions of a location list that something names are read, within the limits
  abbrev expression_of : RawEntry → List ℕ
  expression_of raw = bytes_in r.links.locations.section raw.expr

  expressions_read : (list : ListRead) → IsListIn r.links Locations list → AreExpressionsRead r.links Locations list × All (IsSomeExpression reach) (expressions_at r.links Locations list)
  expressions_read list is =
      let (k, inside, same) = is_one Locations list is in
      subst (λ (z : ListRead). AreExpressionsRead r.links Locations z × All (IsSomeExpression reach) (expressions_at r.links Locations z)) same ((read.lists Locations).expressions k inside, few.expressions Locations k inside)

  no_offset_torn : (list : ListRead) (raw : RawEntry) → AreExpressionsRead r.links Locations list → IsOfTwoUnits r.links Locations list.at ⊎ IsUnowned r.links Locations list.at → Contains (items_among list.raws) raw → HasUnitOffset (expression_of raw) → ⊥
  no_offset_torn list raw are (inl two) one offset = of_image (λ (bytes : List ℕ). ¬ HasUnitOffset bytes) expression_of (items_among list.raws) raw (are.single two) one offset
  no_offset_torn list raw are (inr none) one offset =
      let unowned : None ≡ are.owner = owner_once r.links Locations list.at None are.owner none are.owned in
      let last : length r.links.units ≤ length r.links.units = omega arith in
      let past : length r.links.units ≤ owner_unit r.links are.owner = subst (λ (z : Option ℕ). length r.links.units ≤ owner_unit r.links z) unowned last in
      let (linked, means) = of_image (λ (bytes : List ℕ). (linked : List LinkedOperation) × LinksExpression r.links (owner_unit r.links are.owner) bytes linked) expression_of (items_among list.raws) raw are.linked one in
      no_unit_offset r.links (owner_unit r.links are.owner) past (expression_of raw) linked means offset

  no_torn_apart : (place : ℕ) → IsTornApart r.links place → ⊥
  no_torn_apart place f = no_offset_torn f.list f.raw (expressions_read f.list f.read).0 f.units f.one f.offset

  no_operation_fault : (kind : Kind) (place : ℕ) → FaultListExpression r.links reach kind place → ⊥
  no_operation_fault kind place f =
      let (are, within) = expressions_read f.list f.read in
      let owner : are.owner ≡ f.owner = owner_once r.links Locations f.list.at are.owner f.owner are.owned f.owned in
      let by_owner = subst (λ (z : Option ℕ). All (λ (bytes : List ℕ). (linked : List LinkedOperation) × LinksExpression r.links (owner_unit r.links z) bytes linked) (expressions_at r.links Locations f.list)) owner are.linked in
      let (linked, means) = of_image (λ (bytes : List ℕ). (linked : List LinkedOperation) × LinksExpression r.links (owner_unit r.links f.owner) bytes linked) expression_of (items_among f.list.raws) f.raw by_owner f.one in
      operations_faultless r.links f.owner reach (expression_of f.raw) linked kind f.inner means (of_image (IsSomeExpression reach) expression_of (items_among f.list.raws) f.raw within f.one) f.fault

  no_expression_fault : (of : ListKind) (kind : Kind) (place : ℕ) → FaultExpressionsOf of r.links reach kind place → ⊥
  no_expression_fault Ranges kind place f = f
  no_expression_fault Locations ListShared place f = no_torn_apart place f
  no_expression_fault Locations kind place f = no_operation_fault kind place f

  section_faultless : (of : ListKind) (kind : Kind) (place : ℕ) → FaultOfKind r.links reach of kind place → ⊥
  section_faultless of kind place (inl rule) = no_rule of kind place rule
  section_faultless of kind place (inr (inl entry)) = no_entry_fault of kind place entry
  section_faultless of kind place (inr (inr (inl looking))) = no_index_fault of kind place looking
  section_faultless of kind place (inr (inr (inr expression))) = no_expression_fault of kind place expression

  -- each slot that a value tells names a list
  uses_faultless : (kind : Kind) (place : ℕ) → FaultOfUses r.links kind place → ⊥
  uses_faultless Pointer place f =
      let slot = slot_linked r.links f.u f.id f.name f.meaning f.of f.p f.i f.links in
      let (at, named) = (read.lists f.of).slots f.p f.i slot.known slot.counted in
      f.astray at named
  uses_faultless kind place f = f

-- a file whose lists are read has no fault in the pass
pub lists_whole : (file : List ℕ) (reach : Reach) (r : Reading) → IsReading file r → AreListsWithin r reach → (kind : Kind) (place : ℕ) → FaultOfLists file reach kind place → ⊥
lists_whole file reach r read few kind place (inl (of, (inner, here, (other, to_links, f)))) =
    let same : other ≡ r.links = linkable_once file other r.links to_links read.links in
    section_faultless file reach r read few of kind inner (subst (λ (z : Linkable). FaultOfKind z reach of kind inner) same f)
lists_whole file reach r read few kind place (inr (inl (inner, here, (other, to_links, f)))) =
    let same : other ≡ r.links = linkable_once file other r.links to_links read.links in
    views_faultless file r read few.views kind inner (subst (λ (z : Linkable). FaultOfViews z kind inner) same f)
lists_whole file reach r read few kind place (inr (inr (inner, here, (other, to_links, f)))) =
    let same : other ≡ r.links = linkable_once file other r.links to_links read.links in
    uses_faultless file reach r read few kind inner (subst (λ (z : Linkable). FaultOfUses z kind inner) same f)
