-- No number of an expression in its fewest bytes has a byte too many, and so none of an expression of a file that is written anew.
use Rattle.std.proofs.Common.{◌≡◌, ◌<◌, ◌+◌, ◌++◌, ◌∙◌, inl, inr, ℕ, zero, suc, List, [], ◌∷◌, length, get_or, drop, sym, ap, subst, refl, arith}
use Rattle.std.specs.Prelude.{Bool, true, IsFalse, Option, Some, None, ℤ, map, ◌&&◌}
use Rattle.std.specs.Int.{w64, cast_unsigned}
use Rattle.std.specs.List.{All, Contains}
use Rattle.std.proofs.lemmas.List.{append_assoc, drop-drop, get_or-map, length-map}
use Rattle.dw_base.specs.declared.fault.Reach.TheVariants.{Wide}
use Rattle.leb_codec.specs.Leb.{ShortestUnsigned, ShortestSigned, weighed, signed_weighed, least_unsigned_len, least_signed_len}
use Rattle.leb_codec.proofs.Fronts.{leb_front}
use Rattle.expr_ops.specs.declared.op.Op.{Op}
use Rattle.expr_ops.specs.declared.table.Operands.{Operands}
use Rattle.expr_ops.specs.declared.table.Operands.TheVariants as operands
use Rattle.expr_ops.specs.declared.table.Shape.{Shape}
use Rattle.expr_ops.specs.declared.table.Shape.TheVariants as shape
use Rattle.expr_ops.specs.declared.table.Width.TheVariants as width
use Rattle.expr_ops.specs.Drafts.{is_slot}
use Rattle.expr_ops.specs.Expressions.{Operation}
use Rattle.expr_ops.specs.Heads.{SpellsPart}
use Rattle.expr_ops.specs.Ops.{meant, all_meant, IsLead, Chain}
use Rattle.expr_ops.specs.Puts.{PutsNumber, PutsPart, PutsOperands, PutsOwn}
use Rattle.expr_ops.specs.Table.{operands_of}
use Rattle.expr_ops.specs.inside.Leads.{is_number}
use Rattle.expr_ops.proofs.HeadLaws.{some_same}
use Rattle.expr_ops.proofs.OneList.{one_list}
use Rattle.form_codec.specs.Values.{bytes_in}
use Rattle.list_model.specs.declared.entry.RawEntry.{RawEntry}
use Rattle.loc_lists.specs.Locations.{items_among}
use Rattle.written_files.specs.inside.FewestBytes.{held_length, fewest_slot, as_written, StandsShortest, AreShortest, HasFewestBytes}
use Rattle.written_files.specs.inside.Counterparts.{AreAnew}
use Rattle.written_files.specs.inside.Laws.{AreLaws}
use Rattle.written_files.proofs.FewestSizes.{fewest_none}
use Rattle.written_files.proofs.OwnBytes.{number_front}
use Rattle.value_links.specs.Reading.{Reading, unit_at, list_at}
use Rattle.tidy_numbers.specs.Fronts.{BeginsLong, BeginsLongSigned, IsLong, Behind}
use Rattle.tidy_numbers.specs.LongOperations.{IsLongPart, AreLongOperands, IsLongInExpression}
use Rattle.tidy_numbers.specs.LongLists.{IsLongInList, is_owned}
use Rattle.tidy_numbers.specs.LongNumbers.{IsLongInExpressions}
use Rattle.tidy_numbers.specs.inside.Operands.{IsNumber}
use Rattle.tidy_numbers.proofs.OperandPlaces.{two_there, typed_there}

-- NUMBERS

-- the bytes begin with a shortest number, and so with none that has a byte too many
pub short_unsigned : (n : ℕ) (first rest bytes : List ℕ) → ShortestUnsigned n first → bytes ≡ first ++ rest → BeginsLong bytes → ⊥
short_unsigned n first rest bytes (spells, size) whole b =
    let same : first ≡ b.first = leb_front first b.first rest b.rest spells.0 b.spelled.0.0 (sym whole ∙ b.whole) in
    let number : n ≡ b.number = spells.1 ∙ ap (weighed 0) same ∙ sym b.spelled.0.1 in
    let least : least_unsigned_len n ≡ least_unsigned_len b.number = ap least_unsigned_len number in
    let long = b.long in
    let sizes : length first ≡ length b.first = ap length same in
    omega (arith, size, least, long, sizes)

pub short_signed : (n : ℤ) (first rest bytes : List ℕ) → ShortestSigned n first → bytes ≡ first ++ rest → BeginsLongSigned bytes → ⊥
short_signed n first rest bytes (spells, size) whole b =
    let same : first ≡ b.first = leb_front first b.first rest b.rest spells.0 b.spelled.0.0 (sym whole ∙ b.whole) in
    let number : n ≡ b.number = spells.1 ∙ ap signed_weighed same ∙ sym b.spelled.0.1 in
    let least : least_signed_len n ≡ least_signed_len b.number = ap least_signed_len number in
    let long = b.long in
    let sizes : length first ≡ length b.first = ap length same in
    omega (arith, size, least, long, sizes)

-- OPERANDS

-- an operand that is written with no byte too many has none
part_short : (s : Shape) (n : ℕ) (v : ℤ) (block own rest bytes : List ℕ) (inner : ℕ) → PutsPart s None n v block own → bytes ≡ own ++ rest → IsLongPart s inner bytes → ⊥
part_short (shape.Unsigned width) n v block own rest bytes inner puts whole long = long
part_short (shape.Signed width) n v block own rest bytes inner puts whole long = long
part_short shape.Uleb n v block own rest bytes inner puts whole long = short_unsigned n own rest bytes puts whole long.1
part_short shape.Sleb n v block own rest bytes inner puts whole long = short_signed v own rest bytes puts whole long.1
part_short shape.Counted n v block own rest bytes inner (head, short, e) whole long =
    short_unsigned (length block) head (block ++ rest) bytes short (whole ∙ ap (λ z. z ++ rest) e ∙ append_assoc head block rest) long.1
part_short shape.ByteCounted n v block own rest bytes inner puts whole long = long

a_number : (s : Shape) → IsNumber s → is_number s ≡ true
a_number (shape.Unsigned width) is = refl
a_number (shape.Signed width) is = absurd is
a_number shape.Uleb is = refl
a_number shape.Sleb is = absurd is
a_number shape.Counted is = absurd is
a_number shape.ByteCounted is = absurd is

-- of two operands the second stands behind the first, which is a number
second_short : (s t : Shape) (n m : ℕ) (v w : ℤ) (block body first second own rest bytes : List ℕ) (inner : ℕ) (Holds : ℕ → List ℕ → Type 0) → IsNumber s → PutsPart s None n v block first → PutsPart t None m w body second → own ≡ first ++ second → bytes ≡ own ++ rest → ((at : ℕ) (z : List ℕ) → Holds at z → IsLongPart t at z) → Behind (SpellsPart s) (λ part. Holds) inner bytes → ⊥
second_short s t n m v w block body first second own rest bytes inner Holds number puts other parts whole long (p, own_first, behind, at, spelled, holds, split, place) =
    let here : bytes ≡ first ++ (second ++ rest) = whole ∙ ap (λ z. z ++ rest) parts ∙ append_assoc first second rest in
    let (same, left) = number_front s None n v block p own_first first behind (second ++ rest) (a_number s number) spelled puts (sym split ∙ here) in
    part_short t m w body second rest behind at other left (long at behind holds)

module _ (bytes : List ℕ) (op : Op) (size : ℕ) (lead : IsLead bytes op.at size op) (slot : Bool) (o : Operation) (rest : List ℕ) where
  operands_short : (kinds : Operands) (tail : List ℕ) (inner : ℕ) → operands_of op.code ≡ Some kinds → PutsOperands kinds None o tail → drop (op.at + 1) bytes ≡ tail ++ rest → AreLongOperands slot kinds inner (drop (op.at + 1) bytes) → ⊥
  operands_short operands.Nothing tail inner known puts whole long = long
  operands_short (operands.One s) tail inner known puts whole (none, long) = part_short s o.a o.s o.block tail rest (drop (op.at + 1) bytes) inner puts whole long
  operands_short (operands.Two s t) tail inner known (first, second, puts, other, parts) whole (inl (none, long)) =
      part_short s o.a o.s o.block first (second ++ rest) (drop (op.at + 1) bytes) inner puts (whole ∙ ap (λ z. z ++ rest) parts ∙ append_assoc first second rest) long
  operands_short (operands.Two s t) tail inner known (first, second, puts, other, parts) whole (inr long) =
      second_short s t o.a (cast_unsigned w64 o.s) o.s o.s o.block o.block first second tail rest (drop (op.at + 1) bytes) inner (IsLongPart t)
      (two_there bytes op size lead s t known).number puts other parts whole (λ at z holds. holds) long
  operands_short (operands.Typed s) tail inner known (first, second, puts, other, parts) whole (inl long) =
      part_short s (cast_unsigned w64 o.s) o.s o.block first (second ++ rest) (drop (op.at + 1) bytes) inner puts
      (whole ∙ ap (λ z. z ++ rest) parts ∙ append_assoc first second rest) long
  operands_short (operands.Typed s) tail inner known (first, second, puts, other, parts) whole (inr long) =
      second_short s shape.Uleb (cast_unsigned w64 o.s) o.a o.s o.s o.block o.block first second tail rest (drop (op.at + 1) bytes) inner (λ at z. IsFalse slot × IsLong at z)
      (typed_there bytes op size lead s known).number puts other parts whole (λ at z holds. holds.1) long

-- OPERATIONS

behind_code : (bytes : List ℕ) (op : Op) (own rest : List ℕ) (code : ℕ) (tail : List ℕ) → drop op.at bytes ≡ own ++ rest → own ≡ code ∷ tail → drop (op.at + 1) bytes ≡ tail ++ rest
behind_code bytes op own rest code tail stands e = sym (drop-drop 1 op.at bytes) ∙ ap (drop 1) (stands ∙ ap (λ z. z ++ rest) e)

-- what is written of an operation has no number with a byte too many
operation_short : (bytes : List ℕ) (op : Op) (size : ℕ) (lead : IsLead bytes op.at size op) (slot : Bool) (held : ℕ) (v : ℤ) (own rest : List ℕ) (kinds : Operands) (inner : ℕ) → operands_of op.code ≡ Some kinds → drop op.at bytes ≡ own ++ rest → PutsOwn (fewest_slot (meant bytes op)) (as_written held v (meant bytes op)) own → AreLongOperands slot kinds inner (drop (op.at + 1) bytes) → ⊥
operation_short bytes op size lead slot held v own rest kinds inner known stands (inl (call, e)) long =
    let is : operands.One (shape.Unsigned width.Four) ≡ kinds =
    some_same (operands.One (shape.Unsigned width.Four)) kinds (sym (ap operands_of call) ∙ known)
    in
    (subst (λ (z : Operands). AreLongOperands slot z inner (drop (op.at + 1) bytes)) (sym is) long).1
operation_short bytes op size lead slot held v own rest kinds inner known stands (inr (inl (entry, (tail, puts, e)))) long =
    let is : operands.One shape.Counted ≡ kinds = some_same (operands.One shape.Counted) kinds (sym (ap operands_of entry) ∙ known) in
    let there = (subst (λ (z : Operands). AreLongOperands slot z inner (drop (op.at + 1) bytes)) (sym is) long).1 in
    let w = as_written held v (meant bytes op) in
    let none : fewest_slot (meant bytes op) ≡ None =
    fewest_none (meant bytes op) (λ call. let no : 163 ≡ 153 = sym entry ∙ call in absurd (omega (arith, no)))
    in
    let short : ShortestUnsigned w.a tail = subst (λ (z : Option ℕ). PutsNumber z w.a tail) none puts in
    short_unsigned w.a tail rest (drop (op.at + 1) bytes) short (behind_code bytes op own rest 163 tail stands e) there.1
operation_short bytes op size lead slot held v own rest kinds inner known stands (inr (inr (no_call, no_entry, (found, tail, is, puts, e)))) long =
    let w = as_written held v (meant bytes op) in
    let same : found ≡ kinds = some_same found kinds (sym is ∙ known) in
    let short : PutsOperands kinds None w tail =
    subst (λ (z : Operands). PutsOperands z None w tail) same (subst (λ (z : Option ℕ). PutsOperands found z w tail) (fewest_none (meant bytes op) no_call) puts)
    in
    operands_short bytes op size lead slot w rest kinds tail inner known short (behind_code bytes op own rest op.code tail stands e) long

-- an operation of an expression, with what is written of it
record IsShortest (bytes : List ℕ) (op : Op) : Type 0 where
  size : ℕ
  lead : IsLead bytes op.at size op
  behind : List Op
  stands : StandsShortest bytes op behind

shortest_among : (bytes : List ℕ) (at end : ℕ) (ops : List Op) (op : Op) → Chain bytes at ops end → AreShortest bytes ops → Contains ops op → IsShortest bytes op
shortest_among bytes at end [] op chain each (i, inside, here) = absurd (omega (arith, inside))
shortest_among bytes at end (first ∷ ops) op (place, (size, lead, chain)) (one, each) (zero, inside, here) =
    subst (λ (z : Op). IsShortest bytes z) here (record { size = size; lead = subst (λ (n : ℕ). IsLead bytes n size first) (sym place) lead; behind = ops; stands = one })
shortest_among bytes at end (first ∷ ops) op (place, (size, lead, chain)) (one, each) (suc i, inside, here) =
    shortest_among bytes (at + size) end ops op chain each (i, omega (arith, inside), here)

-- no number of an expression in its fewest bytes has a byte too many
pub fewest_not_long : (owned : Bool) (bytes : List ℕ) (p : ℕ) → HasFewestBytes bytes → IsLongInExpression owned bytes p → ⊥
fewest_not_long owned bytes p h l =
    let same : h.ops ≡ l.ops = one_list Wide h.ops l.ops bytes h.spelled l.spelled h.places l.places in
    let s = shortest_among bytes 0 (length bytes) h.ops l.op h.places h.each (subst (λ (z : List Op). Contains z l.op) (sym same) l.among) in
    operation_short bytes l.op s.size s.lead (owned && is_slot l.op.code l.op.a) (held_length (meant bytes l.op) (all_meant bytes s.behind))
    s.stands.distance s.stands.own s.stands.rest l.long.operands l.long.inner l.long.known s.stands.stands s.stands.put l.long.long

-- A FILE THAT IS WRITTEN ANEW

all_mapped : (f : RawEntry → List ℕ) (raws : List RawEntry) (raw : RawEntry) → All HasFewestBytes (map f raws) → Contains raws raw → HasFewestBytes (f raw)
all_mapped f raws raw all (i, inside, here) =
    let same : get_or (map f raws) i (f raw) ≡ f raw = get_or-map f raws i raw (f raw) inside ∙ ap f here in
    let size : length (map f raws) ≡ length raws = length-map raws f in
    subst (λ (z : List ℕ). HasFewestBytes z) same (all i (f raw) (omega (arith, inside, size)))

module _ (laws : AreLaws) (file written : List ℕ) (r s : Reading) (anew : AreAnew file written r s) where
  -- none of an expression of an entry
  pub no_long_expression : (p : ℕ) → IsLongInExpressions s p → ⊥
  no_long_expression p l =
      fewest_not_long true (bytes_in (unit_at s.links l.u).forest.section l.span) l.inner (laws.entries_fewest file written r s anew l.u l.number l.span l.known l.stands) l.long

  -- none of an expression of a location list
  pub no_long_in_list : (k p : ℕ) → k < length s.location_lists → IsLongInList s.links (list_at s.location_lists k) p → ⊥
  no_long_in_list k p inside l =
      let section = s.links.locations.section in
      let items = items_among (list_at s.location_lists k).raws in
      fewest_not_long (is_owned l.owner) (bytes_in section l.raw.expr) l.inner
      (all_mapped (λ (raw : RawEntry). bytes_in section raw.expr) items l.raw (laws.lists_fewest file written r s anew k inside) l.among)
      l.long
