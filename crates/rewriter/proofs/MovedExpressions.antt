-- An expression that is written anew has its operations, and they name what they named.
use Rattle.std.proofs.Common.{◌≡◌, ◌≢◌, ◌≤◌, ◌<◌, ◌+◌, ◌*◌, ◌^◌, ◌⊎◌, ◌∙◌, inl, inr, true≢false, ℕ, zero, suc, List, [], ◌∷◌, length, sym, ap, subst, refl, arith}
use Rattle.std.specs.Prelude.{Bool, true, false, nat_eq, if◌then◌else◌, slice_index}
use Rattle.std.specs.List.{AllZip, Contains}
use Rattle.std.proofs.lemmas.Bool.{ne_eqb}
use Rattle.std.proofs.lemmas.List.Elements.{All-nil, All-cons, All-head, All-tail}
use Rattle.dw_base.specs.declared.classes.Classes.{Classes}
use Rattle.dw_base.specs.declared.fault.Reach.{Reach}
use Rattle.dw_base.specs.declared.fault.Reach.TheVariants.{Wide}
use Rattle.form_codec.specs.Forms.Meaning.{InSection}
use Rattle.expr_ops.specs.declared.op.Op.{Op}
use Rattle.expr_ops.specs.declared.names.Named.{Named}
use Rattle.expr_ops.specs.declared.names.Named.TheVariants.{Nothing, BaseType, UnitEntry, SectionEntry}
use Rattle.expr_ops.specs.Expressions.{Operation, IsExpression}
use Rattle.expr_ops.specs.Ops.{meant, all_meant}
use Rattle.expr_ops.specs.Drafts.{has_reference, is_conversion, is_generic, first_or, rest_of, with_a, with_ref, with_refs, op_at}
use Rattle.expr_ops.specs.Names.{named_by}
use Rattle.expr_ops.specs.Shortest.{shortest_length}
use Rattle.expr_ops.proofs.Levels.{expression_once}
use Rattle.expr_ops.proofs.NameLaws.{reference_named}
use Rattle.expr_ops.proofs.NeededFew.{shortest_less}
use Rattle.expr_ops.proofs.NextRefs.{AreSmall}
use Rattle.expr_ops.proofs.PlainBytes.{plain_length}
use Rattle.expr_ops.proofs.PlainLaws.{expression_sized}
use Rattle.entry_arena.specs.declared.entry.Target.TheVariants.{Entry as TheEntry}
use Rattle.entry_arena.specs.Arena.{IsEntryAt}
use Rattle.entry_read.specs.Heads.{header_size}
use Rattle.entry_read.specs.Units.{entries_at}
use Rattle.unit_write.specs.declared.places.Places.{Places}
use Rattle.unit_write.specs.NewExpressions.{refs_among}
use Rattle.value_links.specs.Reading.{Linkable, Reading, unit_at, declarations}
use Rattle.value_links.specs.Linked.{Linked, Links}
use Rattle.value_links.specs.Lists.{CountsInUnit, HasUnitOffset}
use Rattle.value_links.specs.Linked.Linked.{Refers}
use Rattle.value_links.specs.Operations.{OpTarget, LinkedOperation, NamesUnitEntry, NamesSectionEntry, NamesType, LinksReference, LinksOperation, LinksExpression}
use Rattle.value_links.specs.Operations.OpTarget.{AnEntry}
use Rattle.value_links.specs.World.{World}
use Rattle.value_links.proofs.Targets.{entry_once, held_targets}
use Rattle.value_links.proofs.LinkedOnce.{unit_known, targets, linked_once}
use Rattle.rewriter.specs.declared.tables.NewTable.{NewTable}
use Rattle.rewriter.specs.declared.new_places.NewPlaces.{NewPlaces}
use Rattle.rewriter.specs.inside.Tables.{new_table_at}
use Rattle.rewriter.specs.inside.Placed.{places_at}
use Rattle.rewriter.specs.inside.Numbers.{MovesEntry, IsNewReference, IsNewExpression}
use Rattle.rewriter.specs.inside.Follows.{AreReadAnew}
use Rattle.rewriter.proofs.Arranged.{has_header}
use Rattle.rewriter.proofs.MovedPlaces.{entry_moves}
use Rattle.rewriter.proofs.MovedEntries.{moved}
use Rattle.rewriter.proofs.ValuesStay.{new_read}

-- REFERENCES BY THEMSELVES

-- where the opcode has a generic type, 0 is it
generic_stays : (b : Bool) (n : ℕ) → (if b then nat_eq n 0 else false) ≡ true → (if b then nat_eq 0 0 else false) ≡ true
generic_stays true n is = refl
generic_stays false n is = is

-- and another number isn't
pub not_generic : (b : Bool) (n : ℕ) → 0 < n → (if b then nat_eq n 0 else false) ≡ false
not_generic true n some = ne_eqb n 0 (λ none. omega (arith, none, some))
not_generic false n some = refl

never_generic : (code n : ℕ) → 0 < n → is_generic code n ≡ true → ⊥
never_generic code n some is = true≢false (sym is ∙ not_generic (is_conversion code) n some)

-- what stands behind a header isn't where the header begins
behind : (at size n : ℕ) → at + size ≤ at + n → 0 < size → 0 < n
behind at size n from some = omega arith

above : (at size n : ℕ) → at + size ≤ n → 0 < size → 0 < n
above at size n from some = omega arith

-- the entry to which a value refers; another value refers to none, and 0, 0 stands for it
abbrev target_of : Linked → OpTarget
target_of (Refers unit (TheEntry id)) = AnEntry unit id
target_of linked = AnEntry 0 0

-- what names nothing names it in any unit
none_named : (r s : Linkable) (u v : ℕ) (named : Named) (code n : ℕ) (aim : OpTarget) → (named ≢ Nothing → ⊥) → LinksReference r u named code n aim → LinksReference s v named code n aim
none_named r s u v Nothing code n aim none links = links
none_named r s u v BaseType code n aim none links = absurd (none (λ (e : BaseType ≡ Nothing). cc (e)))
none_named r s u v UnitEntry code n aim none links = absurd (none (λ (e : UnitEntry ≡ Nothing). cc (e)))
none_named r s u v SectionEntry code n aim none links = absurd (none (λ (e : SectionEntry ≡ Nothing). cc (e)))

-- the references of operations are those of the first and of the others
pub one_more : (b : Bool) (o : Operation) (n : ℕ) (refs : List ℕ) (os : List Operation) → (if b then with_ref (first_or 0 (if b then n ∷ refs else refs)) o ∷ with_refs (rest_of (if b then n ∷ refs else refs)) os else (o ∷ with_refs (if b then n ∷ refs else refs) os)) ≡ (if b then with_ref n o else o) ∷ with_refs refs os
one_more true o n refs os = refl
one_more false o n refs os = refl

-- WHAT COUNTS IN A UNIT

abbrev Counts : Operation → Type 0
Counts o = CountsInUnit (named_by o.code) o.code o.a

counts_also : (named : Named) (code n m : ℕ) → is_generic code n ≡ false → CountsInUnit named code m → CountsInUnit named code n
counts_also Nothing code n m isnt counts = absurd counts
counts_also BaseType code n m isnt counts = isnt
counts_also UnitEntry code n m isnt counts = tt
counts_also SectionEntry code n m isnt counts = absurd counts

-- with a new reference an operation counts in a unit only where it did: the generic type stays
counted_so : (o : Operation) (n : ℕ) (generic : Bool) → is_generic o.code o.a ≡ generic → Counts (if generic then o else with_a n o) → Counts o
counted_so o n true is counts = counts
counted_so o n false isnt counts = counts_also (named_by o.code) o.code o.a n isnt counts

first_or_later : (x : Operation) (xs : List Operation) (one : Operation) → Contains (x ∷ xs) one → (x ≡ one) ⊎ Contains xs one
first_or_later x xs one (zero, inside, same) = inl same
first_or_later x xs one (suc k, inside, same) = inr (k, omega (arith, inside), same)

-- one of the operations with new references
abbrev IsAmong : Operation → ℕ → List Operation → List Operation → Operation → Type 0
IsAmong o n xs ys one = (with_ref n o ≡ one) ⊎ ((o ≡ one) ⊎ (Contains xs one ⊎ Contains ys one))

is_among : (b : Bool) (o : Operation) (n : ℕ) (xs ys : List Operation) (one : Operation) → Contains (if b then with_ref n o ∷ xs else (o ∷ ys)) one → IsAmong o n xs ys one
is_among true o n xs ys one among = elim (first_or_later (with_ref n o) xs one among) [
  | inl first ↦ inl first
  | inr later ↦ inr (inr (inl later))
]
is_among false o n xs ys one among = elim (first_or_later o ys one among) [
  | inl first ↦ inr (inl first)
  | inr later ↦ inr (inr (inr later))
]

abbrev SomeCounts : List Operation → Type 0
SomeCounts os = (o : Operation) × Contains os o × Counts o

some_more : (o : Operation) (os : List Operation) → SomeCounts os → SomeCounts (o ∷ os)
some_more o os (one, (k, inside, same), counts) = (one, (suc k, omega (arith, inside), same), counts)

some_counts : (refs : List ℕ) (os : List Operation) (one : Operation) → Contains (with_refs refs os) one → Counts one → SomeCounts os
some_counts refs [] one (k, inside, same) counts = absurd (omega (arith, inside))
some_counts refs (o ∷ os) one among counts = elim (is_among (has_reference o.code) o (first_or 0 refs) (with_refs (rest_of refs) os) (with_refs refs os) one among) [
  | inl first ↦ (o, (0, omega arith, refl), counted_so o (first_or 0 refs) (is_generic o.code o.a) refl (subst Counts (sym first) counts))
  | inr (inl first) ↦ (o, (0, omega arith, refl), subst Counts (sym first) counts)
  | inr (inr (inl later)) ↦ some_more o os (some_counts (rest_of refs) os one later counts)
  | inr (inr (inr later)) ↦ some_more o os (some_counts refs os one later counts)
]

-- so an expression that is written anew has an operation that counts in a unit only where the old one has
pub had_unit_offset : (r : Linkable) (places : List Places) (u : ℕ) (bytes made : List ℕ) → IsNewExpression r places u bytes made → HasUnitOffset made → HasUnitOffset bytes
had_unit_offset r places u bytes made is has =
    let same : has.operations ≡ with_refs (refs_among is.ops is.numbers) (all_meant bytes is.ops) = expression_once Wide has.operations (with_refs (refs_among is.ops is.numbers) (all_meant bytes is.ops)) made has.spelled is.written.written.expression in
    let (one, among, counts) = some_counts (refs_among is.ops is.numbers) (all_meant bytes is.ops) has.one (subst (λ (z : List Operation). Contains z has.one) same has.among) has.counts in
    record { operations = all_meant bytes is.ops; spelled = is.spelled; one = one; among = among; counts = counts }

-- references below 2^32 that are taken stay so
taken_by : (b : Bool) (n : ℕ) (refs : List ℕ) → n < 2 ^ 32 → AreSmall refs → AreSmall (if b then n ∷ refs else refs)
taken_by true n refs small rest = All-cons (λ (z : ℕ). z < 2 ^ 32) n refs small rest
taken_by false n refs small rest = rest

pub taken_small : (ops : List Op) (numbers : List ℕ) → AreSmall numbers → AreSmall (refs_among ops numbers)
taken_small [] numbers small = All-nil (λ (z : ℕ). z < 2 ^ 32)
taken_small (op ∷ ops) [] small = All-nil (λ (z : ℕ). z < 2 ^ 32)
taken_small (op ∷ ops) (n ∷ ns) small =
    taken_by (has_reference op.code) n (refs_among ops ns) (All-head (λ (z : ℕ). z < 2 ^ 32) n ns small) (taken_small ops ns (All-tail (λ (z : ℕ). z < 2 ^ 32) n ns small))

-- so the new bytes are at most three times the old ones
pub shortest_thrice : (reach : Reach) (refs : List ℕ) (os : List Operation) (bytes : List ℕ) → IsExpression reach os bytes → AreSmall refs → shortest_length refs os ≤ 3 * length bytes
shortest_thrice reach refs os bytes spelled small =
    let less : shortest_length refs os ≤ plain_length os = shortest_less refs os small in
    let most : plain_length os ≤ 3 * length bytes = (expression_sized reach os bytes spelled).thrice in
    omega (arith, less, most)

-- likewise where it is one of a unit or of a list
pub made_thrice : (r : Linkable) (places : List Places) (u : ℕ) (bytes made : List ℕ) → IsNewExpression r places u bytes made → length made ≤ 3 * length bytes
made_thrice r places u bytes made is =
    let size : length made ≡ shortest_length (refs_among is.ops is.numbers) (all_meant bytes is.ops) = is.written.long in
    let most = shortest_thrice Wide (refs_among is.ops is.numbers) (all_meant bytes is.ops) bytes is.spelled (taken_small is.ops is.numbers is.numbered.fit) in
    omega (arith, size, most)

module _ {classes : Classes} {file : List ℕ} {world : World} {tables : List NewTable} {places : List Places} {new_places : NewPlaces} {info abbrevs : List ℕ} {r s : Reading} (all : AreReadAnew classes file world tables places new_places info abbrevs r s) where
  -- WHAT A REFERENCE NAMES

  -- an entry stands at its new place
  stands_anew : (u old new : ℕ) → u < length r.links.units → (m : MovesEntry (unit_at r.links u).forest (places_at places u) old new) → IsEntryAt (unit_at s.links u).forest m.id new
  stands_anew u old new inside m =
      let w = moved all u inside in
      entry_moves (unit_at r.links u).forest (unit_at s.links u).forest (places_at places u) (new_table_at tables (slice_index world.table_of u)).numbers w.entries w.chain_ends w.entry_places w.end_places old new m

  -- entries stand behind the header of their unit, so that a reference to one isn't 0
  behind_header : (u id new : ℕ) → u < length r.links.units → IsEntryAt (unit_at s.links u).forest id ((unit_at s.links u).head.at + new) → 0 < new
  behind_header u id new inside here =
      let is = new_read all u inside in
      let t = held_targets info (unit_at s.links u).head (declarations (unit_at s.links u)) (unit_at s.links u).forest is.section is.entries in
      behind (unit_at s.links u).head.at (header_size (unit_at s.links u).head.kind) new (t.from (TheEntry id) ((unit_at s.links u).head.at + new) here) (has_header (unit_at s.links u).head.kind)

  -- so did they in the old file
  stood_behind : (u id place : ℕ) → u < length r.links.units → IsEntryAt (unit_at r.links u).forest id place → entries_at (unit_at r.links u).head ≤ place
  stood_behind u id place inside here = (targets file r.links all.read.links u inside).from (TheEntry id) place here

  unit_entry : (u n new : ℕ) (aim : OpTarget) → MovesEntry (unit_at r.links u).forest (places_at places u) ((unit_at r.links u).head.at + n) ((places_at places u).start + new) → NamesUnitEntry r.links u n aim → NamesUnitEntry s.links u new aim
  unit_entry u n new aim m (id, here, e) =
      let inside : u < length r.links.units = unit_known r.links u id ((unit_at r.links u).head.at + n) here in
      let same : m.id ≡ id = entry_once (unit_at r.links u).forest (targets file r.links all.read.links u inside).order m.id id ((unit_at r.links u).head.at + n) (m.inside, m.from) here in
      let there = stands_anew u ((unit_at r.links u).head.at + n) ((places_at places u).start + new) inside m in
      let begins = subst (λ (z : ℕ). IsEntryAt (unit_at s.links u).forest m.id (z + new)) (sym (moved all u inside).at) there in
      (id, subst (λ (z : ℕ). IsEntryAt (unit_at s.links u).forest z ((unit_at s.links u).head.at + new)) same begins, e)

  section_entry : (n new : ℕ) (aim : OpTarget) → ((unit : ℕ) × (unit < length r.links.units) × MovesEntry (unit_at r.links unit).forest (places_at places unit) n new) → NamesSectionEntry r.links n aim → NamesSectionEntry s.links new aim
  section_entry n new aim (unit, unit_in, m) (v, id, v_in, here, e) =
      let moves : Links r.links v 0 0 (InSection n) (Refers unit (TheEntry m.id)) = (unit, TheEntry m.id, (unit_in, (m.inside, m.from)), refl) in
      let was : Links r.links v 0 0 (InSection n) (Refers v (TheEntry id)) = (v, TheEntry id, (v_in, here), refl) in
      let same : AnEntry unit m.id ≡ AnEntry v id = ap target_of (linked_once file r.links v 0 0 (InSection n) (Refers unit (TheEntry m.id)) (Refers v (TheEntry id)) all.read.links v_in moves was) in
      (unit, m.id, subst (λ (z : ℕ). unit < z) (sym all.units.count) unit_in, stands_anew unit n new unit_in m, e ∙ sym same)

  -- the generic type stays it, and another type doesn't become it
  type_entry : (u code n new : ℕ) (aim : OpTarget) → IsNewReference r.links places u BaseType code n new → NamesType r.links u code n aim → NamesType s.links u code new aim
  type_entry u code n new aim (inl (is, none)) (inl (also, e)) = inl (subst (λ (z : ℕ). is_generic code z ≡ true) (sym none) (generic_stays (is_conversion code) n is), e)
  type_entry u code n new aim (inl (is, none)) (inr (isnt, names)) = absurd (true≢false (sym is ∙ isnt))
  type_entry u code n new aim (inr (isnt, m)) (inl (is, e)) = absurd (true≢false (sym is ∙ isnt))
  type_entry u code n new aim (inr (isnt, m)) (inr (neither, names)) =
      let inside : u < length r.links.units = unit_known r.links u names.0 ((unit_at r.links u).head.at + n) names.1 in
      let (id, here, e) = unit_entry u n new aim m names in
      inr (not_generic (is_conversion code) new (behind_header u id new inside here), (id, here, e))

  reference_follows : (u : ℕ) (named : Named) (code n new : ℕ) (aim : OpTarget) → IsNewReference r.links places u named code n new → LinksReference r.links u named code n aim → LinksReference s.links u named code new aim
  reference_follows u Nothing code n new aim is links = links
  reference_follows u BaseType code n new aim is links = type_entry u code n new aim is links
  reference_follows u UnitEntry code n new aim is links = unit_entry u n new aim is links
  reference_follows u SectionEntry code n new aim is links = section_entry n new aim is links

  -- what names the generic type names it in the new file, since no entry stands at 0
  generic_follows : (u : ℕ) (named : Named) (code n : ℕ) (aim : OpTarget) → is_generic code n ≡ true → LinksReference r.links u named code n aim → LinksReference s.links u named code n aim
  generic_follows u Nothing code n aim is links = links
  generic_follows u BaseType code n aim is (inl names) = inl names
  generic_follows u BaseType code n aim is (inr (isnt, names)) = absurd (true≢false (sym is ∙ isnt))
  generic_follows u UnitEntry code n aim is (id, here, e) =
      let inside : u < length r.links.units = unit_known r.links u id ((unit_at r.links u).head.at + n) here in
      let from = stood_behind u id ((unit_at r.links u).head.at + n) inside here in
      absurd (never_generic code n (behind (unit_at r.links u).head.at (header_size (unit_at r.links u).head.kind) n from (has_header (unit_at r.links u).head.kind)) is)
  generic_follows u SectionEntry code n aim is (v, id, v_in, here, e) =
      absurd (never_generic code n (above (unit_at r.links v).head.at (header_size (unit_at r.links v).head.kind) n (stood_behind v id n v_in here) (has_header (unit_at r.links v).head.kind)) is)

  -- OPERATIONS

  -- an operation with its new reference, where it isn't to the generic type
  named_follows : (u : ℕ) (o : Operation) (n : ℕ) (linked : LinkedOperation) (generic : Bool) → is_generic o.code o.a ≡ generic → has_reference o.code ≡ true → IsNewReference r.links places u (named_by o.code) o.code o.a n → LinksOperation r.links u o linked → LinksOperation s.links u (if generic then o else with_a n o) linked
  named_follows u o n linked true kept has is links = record {
    operation = links.operation;
    target = generic_follows u (named_by o.code) o.code o.a linked.target kept links.target;
  }
  named_follows u o n linked false kept has is links = record {
    operation = links.operation ∙ ap (λ (z : Bool). if z then with_a 0 o else o) has ∙ sym (ap (λ (z : Bool). if z then with_a 0 o else with_a n o) has);
    target = reference_follows u (named_by o.code) o.code o.a n linked.target is links.target;
  }

  -- an operation with its new reference, if it has one
  operation_follows : (u : ℕ) (o : Operation) (n : ℕ) (linked : LinkedOperation) (b : Bool) → has_reference o.code ≡ b → IsNewReference r.links places u (named_by o.code) o.code o.a n → LinksOperation r.links u o linked → LinksOperation s.links u (if b then with_ref n o else o) linked
  operation_follows u o n linked true has is links = named_follows u o n linked (is_generic o.code o.a) refl has is links
  operation_follows u o n linked false has is links = record {
    operation = links.operation;
    target = none_named r.links s.links u u (named_by o.code) o.code o.a linked.target (λ some. true≢false (sym ((reference_named o.code).1 some) ∙ has)) links.target;
  }

  operations_follow : (u : ℕ) (bytes : List ℕ) (ops : List Op) (numbers : List ℕ) (linked : List LinkedOperation) → length numbers ≡ length ops → ((k : ℕ) → k < length ops → IsNewReference r.links places u (named_by (op_at ops k).code) (op_at ops k).code (op_at ops k).a (slice_index numbers k)) → AllZip (LinksOperation r.links u) (all_meant bytes ops) linked → AllZip (LinksOperation s.links u) (with_refs (refs_among ops numbers) (all_meant bytes ops)) linked
  operations_follow u bytes [] numbers [] count each zip = zip
  operations_follow u bytes [] numbers (l ∷ ls) count each zip = absurd zip
  operations_follow u bytes (op ∷ ops) [] linked count each zip = absurd (omega (arith, count))
  operations_follow u bytes (op ∷ ops) (n ∷ ns) [] count each zip = absurd zip
  operations_follow u bytes (op ∷ ops) (n ∷ ns) (l ∷ ls) count each (first, zip) =
      let rest = operations_follow u bytes ops ns ls (omega (arith, count)) (λ k k_in. each (suc k) (omega arith)) zip in
      let here = operation_follows u (meant bytes op) n l (has_reference op.code) refl (each 0 (omega arith)) first in
      subst (λ (z : List Operation). AllZip (LinksOperation s.links u) z (l ∷ ls)) (sym (one_more (has_reference op.code) (meant bytes op) n (refs_among ops ns) (all_meant bytes ops))) (here, rest)

  -- The new bytes of an expression have the old operations with what they named. Past the last unit no entry stands, so that an operation
  -- that counts in a unit names nothing there.
  pub expression_follows : (u : ℕ) (bytes made : List ℕ) (linked : List LinkedOperation) → IsNewExpression r.links places u bytes made → LinksExpression r.links u bytes linked → LinksExpression s.links u made linked
  expression_follows u bytes made linked is (operations, spelled, zip) =
      let same : operations ≡ all_meant bytes is.ops = expression_once Wide operations (all_meant bytes is.ops) bytes spelled is.spelled in
      let old : AllZip (LinksOperation r.links u) (all_meant bytes is.ops) linked = subst (λ (z : List Operation). AllZip (LinksOperation r.links u) z linked) same zip in
      (with_refs (refs_among is.ops is.numbers) (all_meant bytes is.ops), is.written.written.expression, operations_follow u bytes is.ops is.numbers linked is.numbered.count is.numbered.each old)
