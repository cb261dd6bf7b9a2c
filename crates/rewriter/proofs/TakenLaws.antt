-- Units as they are written: their values stand for those that were read, and mean the same things.
use Rattle.std.proofs.Common.{◌≡◌, ◌≤◌, ◌<◌, ◌+◌, ◌*◌, ◌∙◌, inl, inr, ℕ, List, length, sym, ap, subst, arith}
use Rattle.std.proofs.lemmas.List.Elements.{All-get_or, AllZip-get_or, length_all_zip}
use Rattle.dw_base.specs.declared.fault.Reach.{Reach}
use Rattle.dw_base.specs.declared.fault.Span.{Span}
use Rattle.form_codec.specs.declared.value.Value.{Value}
use Rattle.form_codec.specs.declared.value.Value.TheVariants as value
use Rattle.form_codec.specs.Forms.{Meaning}
use Rattle.form_codec.specs.Forms.Meaning.{InSection}
use Rattle.form_codec.specs.Values.{bytes_in, meant_in}
use Rattle.expr_ops.specs.Expressions.{IsExpression}
use Rattle.expr_ops.specs.Ops.{all_meant, Chain}
use Rattle.expr_ops.specs.Shortest.{IsWrittenShortest}
use Rattle.expr_ops.specs.Slots.{Aim}
use Rattle.expr_ops.specs.Slots.Aim.{Place, Length}
use Rattle.entry_arena.specs.declared.entry.Target.{Target}
use Rattle.entry_arena.specs.Arena.{Arena, value_at, with_values}
use Rattle.entry_arena.specs.Operations.{HeldOps, ops_of}
use Rattle.entry_read.specs.declared.head.UnitHead.{UnitHead}
use Rattle.entry_read.specs.Expressions.{IsExprAt, HasOperations}
use Rattle.entry_read.specs.Places.{HaveOwners}
use Rattle.entry_read.specs.Slots.{meaning_at}
use Rattle.entry_read.specs.Units.{HeadAndForest, entries_at, end_of}
use Rattle.entry_read.proofs.Chained.{lies_once}
use Rattle.entry_read.proofs.OwnerLaws.{values_belong}
use Rattle.unit_write.specs.declared.slots.ListSlot.{ListSlot}
use Rattle.unit_write.specs.declared.slots.ListSlot.TheVariants.{Length as ListLength, Place as ListPlace}
use Rattle.unit_write.specs.declared.slots.Spot.{Spot}
use Rattle.unit_write.specs.declared.slots.Spot.TheVariants.{Entry as TheEntry, End as TheEnd, Nothing as NoSpot}
use Rattle.unit_write.specs.Most.{most_bytes}
use Rattle.unit_write.specs.NewExpressions.{AreEndsFor, AreWrittenShortest, EndsRise, made_of, refs_of}
use Rattle.unit_write.specs.Slots.{IsSpotAt, IsListSlotFor, AreListSlots}
use Rattle.unit_write.specs.Taken.{StandsFor}
use Rattle.value_links.specs.Sections.{debug_info, debug_abbrev}
use Rattle.value_links.specs.Reading.{UnitRead, Reading, no_unit, unit_at, declarations, IsUnitRead}
use Rattle.value_links.specs.Values.{HasValueAt, entry_of}
use Rattle.value_links.specs.Whole.{IsReading}
use Rattle.value_links.specs.Linked.{Linked, IsTargetAt, Links}
use Rattle.value_links.specs.Linked.Linked.{Refers}
use Rattle.value_links.specs.World.{World, head_and_forest, Holds}
use Rattle.value_links.proofs.EntryValues.{column_of, column_numbered}
use Rattle.value_links.proofs.LinkedOnce.{targets}
use Rattle.value_links.proofs.Tiles.{units_chained}
use Rattle.rewriter.specs.declared.tables.NewTable.{NewTable}
use Rattle.rewriter.specs.inside.Held.{HaveAllValues}
use Rattle.rewriter.specs.inside.Placed.{unit_in, written_in, AreTaken}
use Rattle.rewriter.specs.inside.Taken.{IsTakenFrom, MeansFor}
use Rattle.rewriter.proofs.Standing.{held_unit, held_count}
use Rattle.rewriter.proofs.Zips.{zip_weaker}

-- VALUES

-- what a value means is told by what one means that stands for it
stands_mean : (head : UnitHead) (section : List ℕ) (v w : Value) → StandsFor head v w → MeansFor head (meant_in section v) (meant_in section w)
stands_mean head section (value.SectionRef n) w (inl same) = inl (ap (meant_in section) same)
stands_mean head section (value.SectionRef n) w (inr (m, is, few, inside)) = inr (m, is, few, ap (meant_in section) inside)
stands_mean head section v w same = ap (meant_in section) same

-- only an expression stands for one
expr_back : (head : UnitHead) (v w : Value) (span : Span) → StandsFor head v w → w ≡ value.Expr span → v ≡ value.Expr span
expr_back head (value.SectionRef n) w span (inl same) is = absurd (cc (same, is))
expr_back head (value.SectionRef n) w span (inr (m, place, few, same)) is = absurd (cc (same, is))
expr_back head v w span same is = sym same ∙ is

-- UNITS WITH OTHER VALUES

module _ (f : Arena) (values : List Value) where
  spot_with : (spot : Spot) (place : ℕ) → IsSpotAt f spot place → IsSpotAt (with_values f values) spot place
  spot_with (TheEntry id) place is = is
  spot_with (TheEnd number) place is = is
  spot_with NoSpot place is = is

  list_slot_with : (at : ℕ) (aim : Aim) (slot : ListSlot) → IsListSlotFor f at aim slot → IsListSlotFor (with_values f values) at aim slot
  list_slot_with at (Place form n) (ListPlace kind spot) (same, is) = (same, spot_with spot (at + n) is)
  list_slot_with at (Place form n) (ListLength size slots) is = absurd is
  list_slot_with at (Length fixed count) (ListPlace kind spot) is = absurd is
  list_slot_with at (Length fixed count) (ListLength size slots) is = is

  list_slots_with : (head : UnitHead) (more : List Aim) (lists : List ListSlot) → AreListSlots (record { head = head; forest = f }) more lists → AreListSlots (record { head = head; forest = with_values f values }) more lists
  list_slots_with head more lists are = record {
    each = zip_weaker (IsListSlotFor f head.at) (IsListSlotFor (with_values f values) head.at) (list_slot_with head.at) more lists are.each;
    inside = are.inside;
    small = are.small;
  }

  all_values_with : length values ≡ length f.values → HaveAllValues f → HaveAllValues (with_values f values)
  all_values_with count all = record {
    some = all.some;
    first = all.first;
    adjacent = all.adjacent;
    last = λ id last. all.last id last ∙ sym count;
  }

-- A UNIT AS IT IS WRITTEN

module _ (old new : HeadAndForest) (taken : IsTakenFrom old new) where
  section_same : new.forest.section ≡ old.forest.section
  section_same = ap (λ (h : HeadAndForest). h.forest.section) taken.same

  pub taken_count : length new.forest.values ≡ length old.forest.values
  taken_count = sym (length_all_zip (StandsFor old.head) old.forest.values new.forest.values taken.each)

  pub taken_value_at : (k : ℕ) → k < length old.forest.values → StandsFor old.head (value_at old.forest.values k) (value_at new.forest.values k)
  taken_value_at k inside = AllZip-get_or (StandsFor old.head) old.forest.values new.forest.values k (value.Addr 0) (value.Addr 0) taken.each inside

  pub taken_means : (k : ℕ) → k < length old.forest.values → MeansFor old.head (meaning_at old.forest k) (meaning_at new.forest k)
  taken_means k inside =
      let means = stands_mean old.head old.forest.section (value_at old.forest.values k) (value_at new.forest.values k) (taken_value_at k inside) in
      subst (λ (section : List ℕ). MeansFor old.head (meaning_at old.forest k) (meant_in section (value_at new.forest.values k))) (sym section_same) means

  -- its expressions are those that were read
  pub read_expr : (k : ℕ) (span : Span) → IsExprAt new.forest k span → IsExprAt old.forest k span
  read_expr k span at =
      let inside : k < length old.forest.values = subst (λ (z : ℕ). k < z) taken_count at.inside in
      record { inside = inside; is = expr_back old.head (value_at old.forest.values k) (value_at new.forest.values k) span (taken_value_at k inside) at.is }

  pub taken_expr : (k : ℕ) (span : Span) → IsExprAt old.forest k span → IsExprAt new.forest k span
  taken_expr k span at = record {
    inside = subst (λ (z : ℕ). k < z) (sym taken_count) at.inside;
    is = subst (λ (v : Value). StandsFor old.head v (value_at new.forest.values k)) at.is (taken_value_at k at.inside);
  }

  pub taken_operations : (reach : Reach) (held : HeldOps) → HasOperations reach old.forest held → HasOperations reach new.forest held
  taken_operations reach held has = record {
    spelled = λ k span at. subst (λ (section : List ℕ). IsExpression reach (all_meant (bytes_in section span) (ops_of held k)) (bytes_in section span)) (sym section_same) (has.spelled k span (read_expr k span at));
    places = λ k span at. subst (λ (section : List ℕ). Chain (bytes_in section span) 0 (ops_of held k) (length (bytes_in section span))) (sym section_same) (has.places k span (read_expr k span at));
    only = λ k none. has.only k (λ span at. none span (taken_expr k span at));
  }

  pub taken_ends : (ends : List ℕ) → AreEndsFor old.forest ends → AreEndsFor new.forest ends
  taken_ends ends are = record {
    rise = subst (λ (section : List ℕ). EndsRise ends (length new.forest.values) (3 * length section)) (sym section_same) (subst (λ (count : ℕ). EndsRise ends count (3 * length old.forest.section)) (sym taken_count) are.rise);
    few = λ k span at. are.few k span (read_expr k span at);
    none = λ k inside none. are.none k (subst (λ (z : ℕ). k < z) taken_count inside) (λ span at. none span (taken_expr k span at));
  }

  pub taken_shortest : (held : HeldOps) (ends numbers bytes : List ℕ) → AreWrittenShortest old.forest held ends numbers bytes → AreWrittenShortest new.forest held ends numbers bytes
  taken_shortest held ends numbers bytes are = record {
    all = λ k inside. are.all k (subst (λ (z : ℕ). k < z) taken_count inside);
    each = λ k span at. subst (λ (section : List ℕ). IsWrittenShortest (refs_of held numbers k) (bytes_in section span) (ops_of held k) (made_of ends bytes k)) (sym section_same) (are.each k span (read_expr k span at));
  }

  pub taken_spot_at : (spot : Spot) (place : ℕ) → IsSpotAt old.forest spot place → IsSpotAt new.forest spot place
  taken_spot_at spot place is = subst (λ (h : HeadAndForest). IsSpotAt h.forest spot place) (sym taken.same) (spot_with old.forest new.forest.values spot place is)

  pub taken_list_slots : (more : List Aim) (lists : List ListSlot) → AreListSlots old more lists → AreListSlots new more lists
  taken_list_slots more lists are = subst (λ (h : HeadAndForest). AreListSlots h more lists) (sym taken.same) (list_slots_with old.forest new.forest.values old.head more lists are)

  pub taken_most : most_bytes new ≡ most_bytes old
  taken_most = ap most_bytes taken.same ∙ ap (λ (count : ℕ). 3 * old.head.len + 4 * length old.forest.entries + 10 * count) taken_count

  pub taken_all_values : HaveAllValues old.forest → HaveAllValues new.forest
  taken_all_values all = subst (λ (h : HeadAndForest). HaveAllValues h.forest) (sym taken.same) (all_values_with old.forest new.forest.values taken_count all)

-- LINKS

-- what stands in the unit `u` between its first byte and its end is a target of this unit, since units don't overlap
unit_of_target : (file : List ℕ) (r : Reading) (u v n : ℕ) (target : Target) → IsReading file r → u < length r.links.units → v < length r.links.units → (unit_at r.links u).head.at ≤ n → n < end_of (unit_at r.links u).head → IsTargetAt (unit_at r.links v).forest target n → v ≡ u
unit_of_target file r u v n target read inside known from to here =
    let own = targets file r.links read.links v known in
    let begins : entries_at (unit_at r.links v).head ≤ n = own.from target n here in
    let ends : n < end_of (unit_at r.links v).head = own.to target n here in
    lies_once (λ (x : UnitRead). x.head.at) (λ (x : UnitRead). x.head.len) r.links.units 0 (length (debug_info file)) v u n no_unit (units_chained (debug_info file) r.links.units 0 (length (debug_info file)) read.links.units.tiled) known inside (omega arith) ends from to

-- what is written for a value refers to that to which the value does
pub links_taken : (file : List ℕ) (r : Reading) (u id name : ℕ) (old new : Meaning) (linked : Linked) → IsReading file r → u < length r.links.units → MeansFor (unit_at r.links u).head old new → Links r.links u id name old linked → Links r.links u id name new linked
links_taken file r u id name (InSection n) new linked read inside (inl same) links = subst (λ (m : Meaning). Links r.links u id name m linked) (sym same) links
links_taken file r u id name (InSection n) new linked read inside (inr (m, place, few, same)) (v, target, (known, here), is) =
    let here_too : v ≡ u = unit_of_target file r u v n target read inside known (omega (arith, place)) (omega (arith, place, few)) here in
    let own : IsTargetAt (unit_at r.links u).forest target n = subst (λ (z : ℕ). IsTargetAt (unit_at r.links z).forest target n) here_too here in
    let counted : IsTargetAt (unit_at r.links u).forest target ((unit_at r.links u).head.at + m) = subst (IsTargetAt (unit_at r.links u).forest target) place own in
    subst (λ (z : Meaning). Links r.links u id name z linked) (sym same) (target, counted, is ∙ ap (λ (z : ℕ). Refers z target) here_too)
links_taken file r u id name old new linked read inside same links = subst (λ (m : Meaning). Links r.links u id name m linked) (sym same) links

-- THE WORLD

-- what is written for the value of an attribute
pub value_taken : (file : List ℕ) (world : World) (r : Reading) (tables : List NewTable) (u id number name : ℕ) (meaning : Meaning) (place : ℕ) → IsReading file r → Holds file world r → AreTaken world tables → u < length r.links.units → HasValueAt (unit_at r.links u) id number name meaning place → MeansFor (unit_at r.links u).head meaning (meaning_at (written_in world tables u).forest number)
value_taken file world r tables u id number name meaning place read holds taken inside h =
    let unit : UnitRead = unit_at r.links u in
    let is : IsUnitRead (debug_info file) (debug_abbrev file) unit = All-get_or (IsUnitRead (debug_info file) (debug_abbrev file)) r.links.units u no_unit inside read.links.units.each in
    let owned : HaveOwners (declarations unit) unit.forest = values_belong (debug_info file) unit.head (declarations unit) unit.forest is.section is.entries in
    let column = column_of unit owned id h.known number name meaning place h in
    let numbered : number ≡ (entry_of unit id).first + column.0 = column_numbered unit owned id h.known number name meaning place h in
    let within : (entry_of unit id).first + (entry_of unit id).count ≤ length unit.forest.values = owned.inside id h.known in
    let known : number < length unit.forest.values = omega (arith, numbered, within, column.1) in
    let means : meaning ≡ meaning_at unit.forest number = column.3 ∙ ap (meaning_at unit.forest) (sym numbered) in
    let same : unit_in world.units u ≡ head_and_forest unit = held_unit file world r u holds in
    let size : length world.units ≡ length r.links.units = held_count file world r holds in
    let from : IsTakenFrom (head_and_forest unit) (written_in world tables u) = subst (λ (z : HeadAndForest). IsTakenFrom z (written_in world tables u)) same (taken u (omega (arith, size, inside))) in
    subst (λ (m : Meaning). MeansFor unit.head m (meaning_at (written_in world tables u).forest number)) (sym means) (taken_means (head_and_forest unit) (written_in world tables u) from number known)
