-- The sizes of the slots of a unit as they stand in a file are one list.
use Rattle.std.proofs.Common.{◌≡◌, ◌<◌, ◌+◌, ◌∙◌, ◌++◌, inl, inr, ℕ, List, [], ◌∷◌, length, get_or, drop, sym, ap, subst, refl, arith}
use Rattle.std.specs.Prelude.{slice_index, Some}
use Rattle.std.specs.List.{AllZip}
use Rattle.std.proofs.lemmas.Bool.Decides.{eqb_tells}
use Rattle.std.proofs.lemmas.List.{append_cancel_left, get_or_default, same_lists}
use Rattle.dw_base.specs.declared.fault.Reach.TheVariants.{Wide}
use Rattle.leb_codec.specs.Leb.{Uleb}
use Rattle.leb_codec.specs.Layout.{SlotRow}
use Rattle.leb_codec.proofs.Fronts.{unique_u}
use Rattle.expr_ops.specs.declared.op.Op.{Op}
use Rattle.expr_ops.specs.declared.table.Operands.{Operands}
use Rattle.expr_ops.specs.declared.table.Operands.TheVariants as operands
use Rattle.expr_ops.proofs.HeadLaws.{part_once, some_same}
use Rattle.expr_ops.proofs.OneList.{one_list}
use Rattle.form_codec.specs.Forms.{Meaning, SpellsValue}
use Rattle.form_codec.specs.Forms.Meaning.{Expression, InUnit}
use Rattle.form_codec.proofs.Shapes.{value_once}
use Rattle.abbrev_tables.specs.declared.decl.Spec.{Spec}
use Rattle.entry_arena.specs.Trees.{SpellsBetween, ValuesBetween}
use Rattle.entry_arena.proofs.Between.{spells_once, values_once}
use Rattle.entry_arena.proofs.StepLaws.{values_counted}
use Rattle.entry_read.specs.Places.{HaveOwners}
use Rattle.list_model.specs.declared.entry.ListKind.TheVariants.{Locations}
use Rattle.list_model.specs.declared.entry.RawEntry.{RawEntry}
use Rattle.loc_lists.specs.Locations.{items_among, bytes_in}
use Rattle.value_links.specs.Lists.{IsOwner as IsListOwner}
use Rattle.value_links.specs.Reading.{UnitRead, ListRead, Reading, declarations, unit_at, list_at}
use Rattle.value_links.specs.Sections.{debug_info, debug_abbrev}
use Rattle.value_links.specs.Values.{entry_of, declaration_of, HasValueAt}
use Rattle.value_links.specs.Whole.{IsReading}
use Rattle.value_links.specs.inside.Owners.{IsOwner}
use Rattle.value_links.proofs.EntryValues.{column_of, column_numbered}
use Rattle.value_links.proofs.HeldUnits.{unit_owners}
use Rattle.value_links.proofs.Owning.{owner_once}
use Rattle.value_links.proofs.ReadingOnce.{zip_once}
use Rattle.unit_slots.specs.Standing.{BeginsWith, IsSlotAmong, IsCallSize, IsSizeOf, slotted, AreSizesIn, AreExpressionSizes, AreMeaningSizes, AreValueSizes, all_sizes, AreUnitSizes, AreItemSizes, AreListSizes, AreListedSizes, HasStandingSlots}
use Rattle.unit_slots.proofs.ListEntryOperands.{ends_once}
use Rattle.unit_slots.proofs.RowsOnce.{numbers_once}

-- OPERATIONS

-- one number begins some bytes
begins_once : (m n : ℕ) (bytes : List ℕ) → BeginsWith m bytes → BeginsWith n bytes → m ≡ n
begins_once m n bytes p q =
    p.sized ∙ ap length (unique_u p.number q.number p.first q.first p.rest q.rest p.spelled q.spelled (sym p.whole ∙ q.whole)).0 ∙ sym q.sized

among_once : (kinds : Operands) (m n : ℕ) (bytes : List ℕ) → IsSlotAmong kinds m bytes → IsSlotAmong kinds n bytes → m ≡ n
among_once operands.Nothing m n bytes p q = absurd p
among_once (operands.One s) m n bytes p q = begins_once m n bytes p q
among_once (operands.Two s t) m n bytes p q = begins_once m n bytes p q
among_once (operands.Typed s) m n bytes (part, first, rest, spelled, whole, begins) (other, front, more, written, all, starts) =
    let h : first ++ rest ≡ front ++ more = sym whole ∙ all in
    let same : first ≡ front = (part_once s part other first front rest more spelled written h).0 in
    let behind : rest ≡ more = append_cancel_left front rest more (ap (λ (z : List ℕ). z ++ rest) (sym same) ∙ h) in
    begins_once m n more (subst (BeginsWith m) behind begins) starts

calls_once : (code m n : ℕ) → IsCallSize code m → IsCallSize code n → m ≡ n
calls_once code m n (inl (c, p)) (inl (d, q)) = p ∙ sym q
calls_once code m n (inl (c, p)) (inr (d, q)) = absurd (omega (arith, c, d))
calls_once code m n (inr (c, p)) (inl (d, q)) = absurd (omega (arith, c, d))
calls_once code m n (inr (c, p)) (inr (d, q)) = p ∙ sym q

-- the slot of an operation has one size
size_once : (bytes : List ℕ) (op : Op) (m n : ℕ) → IsSizeOf bytes op m → IsSizeOf bytes op n → m ≡ n
size_once bytes op m n p q = elim (eqb_tells op.code 153) [
  | inl (test, call) ↦ calls_once (slice_index bytes op.at) m n (p.call call) (q.call call)
  | inr (test, other) ↦
      let (kinds, known, here) = p.other other in
      let (others, also, there) = q.other other in
      let same : kinds ≡ others = some_same kinds others (sym known ∙ also) in
      among_once others m n (drop (op.at + 1) bytes) (subst (λ (z : Operands). IsSlotAmong z m (drop (op.at + 1) bytes)) same here) there
]

-- so the slots of the operations of an expression have one list of sizes
sizes_in_once : (bytes xs ys : List ℕ) → AreSizesIn bytes xs → AreSizesIn bytes ys → xs ≡ ys
sizes_in_once bytes xs ys p q =
    let same : p.ops ≡ q.ops = one_list Wide p.ops q.ops bytes p.spelled q.spelled p.places q.places in
    zip_once (IsSizeOf bytes) (size_once bytes) (slotted q.ops) xs ys (subst (λ (z : List Op). AllZip (IsSizeOf bytes) (slotted z) xs) same p.each) q.each

expression_sizes_once : (front bytes xs ys : List ℕ) → AreExpressionSizes front bytes xs → AreExpressionSizes front bytes ys → xs ≡ ys
expression_sizes_once front bytes [] ys p q = absurd p
expression_sizes_once front bytes (x ∷ xs) [] p q = absurd q
expression_sizes_once front bytes (x ∷ xs) (y ∷ ys) (p, ps) (q, qs) = ap (λ (z : ℕ). z ∷ xs) (begins_once x y front p q) ∙ ap (λ (z : List ℕ). y ∷ z) (sizes_in_once bytes xs ys ps qs)

-- VALUES

meaning_sizes_once : (section : List ℕ) (from to : ℕ) (meaning : Meaning) (xs ys : List ℕ) → AreMeaningSizes section from to meaning xs → AreMeaningSizes section from to meaning ys → xs ≡ ys
meaning_sizes_once section from to (InUnit n) xs ys p q = p ∙ sym q
meaning_sizes_once section from to (Expression bytes) xs ys p q = expression_sizes_once (drop from section) bytes xs ys p q
meaning_sizes_once section from to meaning xs ys p q = p ∙ sym q

-- lists that are one have the same before a place and at it
same_parts : {X : Type 0} (one other : List X) (x y : X) (xs ys : List X) → length one ≡ length other → one ++ x ∷ xs ≡ other ++ y ∷ ys → (one ≡ other) × (x ≡ y)
same_parts [] [] x y xs ys n e = (refl, ap (λ z. get_or z 0 x) e)
same_parts [] (b ∷ other) x y xs ys n e = absurd (omega (arith, n))
same_parts (a ∷ one) [] x y xs ys n e = absurd (omega (arith, n))
same_parts (a ∷ one) (b ∷ other) x y xs ys n e =
    let first : a ≡ b = ap (λ z. get_or z 0 a) e in
    let rest = same_parts one other x y xs ys (omega (arith, n)) (ap (drop 1) e) in
    (ap (λ z. z ∷ one) first ∙ ap (λ z. b ∷ z) rest.0, rest.1)

-- the sizes of the slots of a value of an entry
record AreSizesAt (unit : UnitRead) (number : ℕ) (sizes : List ℕ) (id : ℕ) : Type 0 where
  name : ℕ
  meaning : Meaning
  from : ℕ
  stands : HasValueAt unit id number name meaning from
  to : ℕ
  ends : SpellsBetween (SpellsValue stands.column.name stands.column.form stands.column.constant meaning) unit.forest.section from to
  are : AreMeaningSizes unit.forest.section from to meaning sizes

at_entry : (unit : UnitRead) (number : ℕ) (sizes : List ℕ) → (p : AreValueSizes unit number sizes) → AreSizesAt unit number sizes p.id
at_entry unit number sizes p = record { name = p.name; meaning = p.meaning; from = p.from; stands = p.stands; to = p.to; ends = p.ends; are = p.are }

at_entry_once : (unit : UnitRead) (number id : ℕ) (xs ys : List ℕ) → AreSizesAt unit number xs id → AreSizesAt unit number ys id → xs ≡ ys
at_entry_once unit number id xs ys p q =
    let section : List ℕ = unit.forest.section in
    let code : ℕ = (declaration_of unit id).code in
    let a = p.stands in
    let b = q.stands in
    let p_counted : length a.earlier ≡ length a.earlier_columns = values_counted section a.earlier_columns a.earlier a.values_at p.from a.valued in
    let q_counted : length b.earlier ≡ length b.earlier_columns = values_counted section b.earlier_columns b.earlier b.values_at q.from b.valued in
    let count : length a.earlier_columns ≡ length b.earlier_columns = omega (arith, a.numbered, b.numbered, p_counted, q_counted) in
    let parts = same_parts a.earlier_columns b.earlier_columns a.column b.column a.later_columns b.later_columns count (sym a.columns ∙ b.columns) in
    let begin : a.values_at ≡ b.values_at = (spells_once Uleb unique_u section code code (entry_of unit id).at a.values_at b.values_at a.coded b.coded).0 in
    let valued : ValuesBetween section b.earlier_columns a.earlier b.values_at p.from = subst (λ (z : List Spec). ValuesBetween section z a.earlier b.values_at p.from) parts.0 (subst (λ (z : ℕ). ValuesBetween section a.earlier_columns a.earlier z p.from) begin a.valued) in
    let from : p.from ≡ q.from = (values_once section b.earlier_columns a.earlier b.earlier b.values_at p.from q.from valued b.valued).0 in
    let here : SpellsBetween (SpellsValue a.column.name a.column.form a.column.constant p.meaning) section q.from p.to = subst (λ (z : ℕ). SpellsBetween (SpellsValue a.column.name a.column.form a.column.constant p.meaning) section z p.to) from p.ends in
    let spelled : SpellsBetween (SpellsValue b.column.name b.column.form b.column.constant p.meaning) section q.from p.to = subst (λ (c : Spec). SpellsBetween (SpellsValue c.name c.form c.constant p.meaning) section q.from p.to) parts.1 here in
    let one = spells_once (SpellsValue b.column.name b.column.form b.column.constant) (value_once b.column.name b.column.form b.column.constant) section p.meaning q.meaning q.from p.to q.to spelled q.ends in
    let first : AreMeaningSizes section q.from p.to p.meaning xs = subst (λ (z : ℕ). AreMeaningSizes section z p.to p.meaning xs) from p.are in
    let second : AreMeaningSizes section q.from q.to p.meaning xs = subst (λ (z : ℕ). AreMeaningSizes section q.from z p.meaning xs) one.0 first in
    meaning_sizes_once section q.from q.to q.meaning xs ys (subst (λ (m : Meaning). AreMeaningSizes section q.from q.to m xs) one.1 second) q.are

module _ (unit : UnitRead) (owned : HaveOwners (declarations unit) unit.forest) where
  owner_of : (id number name : ℕ) (meaning : Meaning) (place : ℕ) → HasValueAt unit id number name meaning place → IsOwner unit.forest.entries id number
  owner_of id number name meaning place h =
      let (k, inside, named, meant) = column_of unit owned id h.known number name meaning place h in
      let same : number ≡ (entry_of unit id).first + k = column_numbered unit owned id h.known number name meaning place h in
      record { known = h.known; from = omega (arith, same); to = omega (arith, same, inside) }

  value_sizes_once : (number : ℕ) (xs ys : List ℕ) → AreValueSizes unit number xs → AreValueSizes unit number ys → xs ≡ ys
  value_sizes_once number xs ys p q =
      let one = owner_of p.id number p.name p.meaning p.from p.stands in
      let other = owner_of q.id number q.name q.meaning q.from q.stands in
      let same : p.id ≡ q.id = owner_once (declarations unit) unit.forest owned p.id q.id number one other in
      at_entry_once unit number q.id xs ys (subst (AreSizesAt unit number xs) same (at_entry unit number xs p)) (at_entry unit number ys q)

  unit_sizes_once : (xs ys : List ℕ) → AreUnitSizes unit xs → AreUnitSizes unit ys → xs ≡ ys
  unit_sizes_once xs ys p q =
      let each : p.each ≡ q.each = same_lists p.each q.each (p.count ∙ sym q.count) (λ k d inside. each_once k d inside) in
      p.whole ∙ ap all_sizes each ∙ sym q.whole
    where
      each_once : (k : ℕ) (d : List ℕ) → k < length p.each → get_or p.each k d ≡ get_or q.each k d
      each_once k d inside =
          let known : k < length unit.forest.values = omega (arith, inside, p.count) in
          let there : k < length q.each = omega (arith, known, q.count) in
          get_or_default p.each k d [] inside ∙ value_sizes_once k (get_or p.each k []) (get_or q.each k []) (p.are k known) (q.are k known) ∙ get_or_default q.each k [] d there

-- LISTS

item_sizes_once : (section : List ℕ) (raw : RawEntry) (xs ys : List ℕ) → AreItemSizes section raw xs → AreItemSizes section raw ys → xs ≡ ys
item_sizes_once section raw xs ys p q =
    let end : p.end ≡ q.end = ends_once Locations section raw p.end q.end p.behind q.behind in
    expression_sizes_once (drop q.end section) (bytes_in section raw.expr) xs ys (subst (λ (z : ℕ). AreExpressionSizes (drop z section) (bytes_in section raw.expr) xs) end p.are) q.are

list_sizes_once : (section : List ℕ) (list : ListRead) (xs ys : List ℕ) → AreListSizes section list xs → AreListSizes section list ys → xs ≡ ys
list_sizes_once section list xs ys (one, p, is) (other, q, also) =
    is ∙ ap all_sizes (zip_once (AreItemSizes section) (item_sizes_once section) (items_among list.raws) one other p q) ∙ sym also

listed_sizes_once : (s : Reading) (numbers xs ys : List ℕ) → AreListedSizes s numbers xs → AreListedSizes s numbers ys → xs ≡ ys
listed_sizes_once s numbers xs ys (one, p, is) (other, q, also) =
    let section : List ℕ = s.links.locations.section in
    is ∙ ap all_sizes (zip_once (λ (k : ℕ). AreListSizes section (list_at s.location_lists k)) (λ k. list_sizes_once section (list_at s.location_lists k)) numbers one other p q) ∙ sym also

-- THE UNIT

-- the slots of a unit that was read have one list of sizes
pub sizes_once : (written : List ℕ) (s : Reading) → IsReading written s → (u : ℕ) → u < length s.links.units → (rows others : List SlotRow) (sizes more : List ℕ) → HasStandingSlots s u rows sizes → HasStandingSlots s u others more → sizes ≡ more
sizes_once written s read u known rows others sizes more p q =
    let owners = unit_owners (debug_info written) (debug_abbrev written) s.links.units read.links.units u known in
    let own : p.own ≡ q.own = unit_sizes_once (unit_at s.links u) owners p.own q.own p.of_unit q.of_unit in
    let owned : p.owned ≡ q.owned = numbers_once (λ (k : ℕ). IsListOwner s.links Locations (list_at s.location_lists k).at (Some u)) (length s.location_lists) p.owned q.owned p.owns q.owns in
    let listed : p.listed ≡ q.listed = listed_sizes_once s q.owned p.listed q.listed (subst (λ (z : List ℕ). AreListedSizes s z p.listed) owned p.of_lists) q.of_lists in
    p.stand ∙ ap (λ (z : List ℕ). z ++ p.listed) own ∙ ap (λ (z : List ℕ). q.own ++ z) listed ∙ sym q.stand
