-- The new numbers of a unit and its new expressions, from the new numbers of its values and of its operations.
use Rattle.std.proofs.Common.{◌≡◌, ◌≤◌, ◌<◌, ◌+◌, ◌-◌, ◌^◌, ℕ, List, [], length, drop, slice_index, ◌∙◌, sym, ap, refl, subst, arith}
use Rattle.std.proofs.lemmas.List.{get_or-take, get_or-drop, length-take, length-drop}
use Rattle.std.proofs.lemmas.List.Elements.{All-take, All-drop, All-from_get_or}
use Rattle.dw_base.specs.declared.fault.Reach.TheVariants.{Narrow, Wide}
use Rattle.dw_base.specs.declared.fault.Span.{Span}
use Rattle.expr_ops.specs.declared.op.Op.{Op}
use Rattle.expr_ops.specs.Drafts.{op_at}
use Rattle.expr_ops.specs.Expressions.{IsExpression}
use Rattle.expr_ops.specs.Names.{named_by}
use Rattle.expr_ops.specs.Ops.{all_meant}
use Rattle.expr_ops.proofs.Reaches.{narrow_wide}
use Rattle.form_codec.specs.declared.value.Value.{Value}
use Rattle.form_codec.specs.declared.value.Value.TheVariants as value
use Rattle.form_codec.specs.Forms.{Meaning}
use Rattle.form_codec.specs.Forms.Meaning.{Expression}
use Rattle.form_codec.specs.Values.{bytes_in, meant_in}
use Rattle.entry_arena.specs.Arena.{entry_at, value_at}
use Rattle.entry_arena.specs.Operations.{HeldOps, range_of, for_value, ops_of}
use Rattle.entry_read.specs.Expressions.{IsExprAt, HasOperations}
use Rattle.entry_read.specs.Slots.{meaning_at}
use Rattle.entry_read.specs.Units.{HeadAndForest}
use Rattle.unit_write.specs.declared.places.Places.{Places}
use Rattle.unit_write.specs.declared.write.NewNumbers.{NewNumbers}
use Rattle.unit_write.specs.NewExpressions.{made_of, AreEndsFor, AreWrittenShortest}
use Rattle.value_links.specs.Sections.{debug_info, debug_abbrev}
use Rattle.value_links.specs.Reading.{Linkable, Reading, unit_at}
use Rattle.value_links.specs.Operations.{OpTarget, Names}
use Rattle.value_links.specs.World.{World, operations_at, head_and_forest, Holds, IsWorldOf}
use Rattle.rewriter.specs.declared.tables.NewTable.{NewTable}
use Rattle.rewriter.specs.declared.new_places.NewPlaces.{NewPlaces}
use Rattle.rewriter.specs.inside.Tables.{new_table_at}
use Rattle.rewriter.specs.inside.Taken.{IsTakenFrom}
use Rattle.rewriter.specs.inside.Placed.{PlacesAnew, places_anew, places_at, unit_in, written_in}
use Rattle.rewriter.specs.inside.Numbers.{IsNewNumber, AreNewReferences, IsNewExpression, IsNewValue, AreNewNumbers}
use Rattle.rewriter.specs.inside.Held.{MeansSomething, table_for, entry_in, name_in, value_in, AreNumbered, IsReferenceOf, AreOperationsNumbered, IsTypeMoved}
use Rattle.rewriter.proofs.NamedOperations.{operation_named, reference_still}
use Rattle.rewriter.proofs.Standing.{held_unit, held_count}
use Rattle.rewriter.proofs.TakenLaws.{taken_count, read_expr, taken_expr}
use Rattle.rewriter.proofs.Meant.{owners, unit_means}
use Rattle.rewriter.proofs.Final.{NumbersIn, value_among, attribute_numbered, type_moved, table_known, unit_reads}

-- WHAT OPERATIONS NAME

-- the operations of an expression that means something
module _ (file : List ℕ) (world : World) (r : Reading) (u : ℕ) (holds : Holds file world r) where
  means_named : (id name : ℕ) (span : Span) (ops : List Op) → MeansSomething world u id name (value.Expr span) → IsExpression Wide (all_meant (bytes_in (unit_at r.links u).forest.section span) ops) (bytes_in (unit_at r.links u).forest.section span) → (k : ℕ) → k < length ops → (target : OpTarget) × Names r.links u (op_at ops k).code (op_at ops k).a target
  means_named id name span ops m spelled k inside =
      let same : head_and_forest (unit_at m.r.links u) ≡ head_and_forest (unit_at r.links u) = sym (held_unit m.file world m.r u m.holds) ∙ held_unit file world r u holds in
      let there : IsExpression Wide (all_meant (bytes_in (unit_at m.r.links u).forest.section span) ops) (bytes_in (unit_at m.r.links u).forest.section span) = subst (λ (h : HeadAndForest). IsExpression Wide (all_meant (bytes_in h.forest.section span) ops) (bytes_in h.forest.section span)) (sym same) spelled in
      let named = operation_named m.r.links u (bytes_in (unit_at m.r.links u).forest.section span) ops there (m.links.0, m.links.1) k inside in
      (named.0, reference_still m.file file world m.r r m.holds holds u (named_by (op_at ops k).code) (op_at ops k).code (op_at ops k).a named.0 named.1)

-- NEW REFERENCES

-- the part of a list that belongs to the operations of a value
module _ (held : HeldOps) (numbers : List ℕ) (count : length numbers ≡ length held.ops) (v : ℕ) where
  part_size : length (for_value held numbers v) ≡ length (ops_of held v)
  part_size =
      omega (arith, count, length-take (range_of held v).count (drop (range_of held v).first numbers), length-take (range_of held v).count (drop (range_of held v).first held.ops), length-drop (range_of held v).first numbers, length-drop (range_of held v).first held.ops)

  module _ (k : ℕ) (inside : k < length (ops_of held v)) where
    part_below : k < (range_of held v).count
    part_below = omega (arith, inside, length-take (range_of held v).count (drop (range_of held v).first held.ops))

    part_inside : (range_of held v).first + k < length held.ops
    part_inside = omega (arith, inside, length-take (range_of held v).count (drop (range_of held v).first held.ops), length-drop (range_of held v).first held.ops)

    part_op : op_at held.ops ((range_of held v).first + k) ≡ op_at (ops_of held v) k
    part_op = sym (get_or-take (range_of held v).count (drop (range_of held v).first held.ops) k (op_at [] 0) part_below ∙ get_or-drop (range_of held v).first held.ops k (op_at [] 0))

    part_number : slice_index numbers ((range_of held v).first + k) ≡ slice_index (for_value held numbers v) k
    part_number = sym (get_or-take (range_of held v).count (drop (range_of held v).first numbers) k 0 part_below ∙ get_or-drop (range_of held v).first numbers k 0)

module _ (file : List ℕ) (world : World) (r : Reading) (places : List Places) (u : ℕ) (holds : Holds file world r) (numbers : List ℕ) (numbered : AreOperationsNumbered world places u numbers) where
  abbrev held : HeldOps
  held = operations_at world.operations u

  -- the operations of a value that name what they may have their new references
  references_of : (v : ℕ) → ((k : ℕ) → k < length (ops_of (operations_at world.operations u) v) → (target : OpTarget) × Names r.links u (op_at (ops_of (operations_at world.operations u) v) k).code (op_at (ops_of (operations_at world.operations u) v) k).a target) → AreNewReferences r.links places u (ops_of (operations_at world.operations u) v) (for_value (operations_at world.operations u) numbers v)
  references_of v named = record {
    count = part_size held numbers numbered.size v;
    fit = All-take (λ (n : ℕ). n < 2 ^ 32) (range_of held v).count (drop (range_of held v).first numbers) (All-drop (λ (n : ℕ). n < 2 ^ 32) (range_of held v).first numbers (All-from_get_or (λ (n : ℕ). n < 2 ^ 32) numbers 0 numbered.fit));
    each = λ k inside.
        let here : IsReferenceOf world places u (op_at held.ops ((range_of held v).first + k)) (slice_index numbers ((range_of held v).first + k)) = numbered.each ((range_of held v).first + k) (part_inside held numbers numbered.size v k inside) in
        let own : IsReferenceOf world places u (op_at (ops_of held v) k) (slice_index (for_value held numbers v) k) = subst (λ (n : ℕ). IsReferenceOf world places u (op_at (ops_of held v) k) n) (part_number held numbers numbered.size v k inside) (subst (λ (o : Op). IsReferenceOf world places u o (slice_index numbers ((range_of held v).first + k))) (part_op held numbers numbered.size v k inside) here) in
        let (target, names) = named k inside in
        own file r target holds names;
  }

-- NEW EXPRESSIONS

-- a number in a range is the first one and so many more
number_within : (n first count : ℕ) → first ≤ n → n < first + count → (j : ℕ) × (first + j ≡ n) × (j < count)
number_within n first count from to = (n - first, omega (arith, from), omega (arith, from, to))

-- an expression is the value of an attribute that means something
module _ (world : World) (u : ℕ) (written : HeadAndForest) (is : IsWorldOf world.image Narrow world) (known : u < length world.units) (taken : IsTakenFrom (unit_in world.units u) written) (number : ℕ) (span : Span) (stands : IsExprAt (unit_in world.units u).forest number span) where
  expression_means : (id : ℕ) × (name : ℕ) × MeansSomething world u id name (value.Expr span)
  expression_means =
      let same : unit_in world.units u ≡ head_and_forest (unit_at is.r.links u) = held_unit world.image world is.r u is.holds in
      let read = unit_reads world.image world is.r u Narrow is is.holds known in
      let here : IsExprAt (unit_at is.r.links u).forest number span = subst (λ (h : HeadAndForest). IsExprAt h.forest number span) same stands in
      let (id, inside, from, to) = (owners (debug_info world.image) (debug_abbrev world.image) (unit_at is.r.links u) read).owned number here.inside in
      let there : id < length (unit_in world.units u).forest.entries = subst (λ (h : HeadAndForest). id < length h.forest.entries) (sym same) inside in
      let first : (entry_in world u id).first ≤ number = subst (λ (h : HeadAndForest). (entry_at h.forest.entries id).first ≤ number) (sym same) from in
      let last : number < (entry_in world u id).first + (entry_in world u id).count = subst (λ (h : HeadAndForest). number < (entry_at h.forest.entries id).first + (entry_at h.forest.entries id).count) (sym same) to in
      let (j, at, below) = number_within number (entry_in world u id).first (entry_in world u id).count first last in
      let value_is : value_in world written u id j ≡ value.Expr span = ap (value_at written.forest.values) at ∙ (taken_expr (unit_in world.units u) written taken number span stands).is in
      (id, name_in world u id j, subst (MeansSomething world u id (name_in world u id j)) value_is (((unit_means world u Narrow is known written taken).entries id there).means j below))

module _ (file : List ℕ) (world : World) (r : Reading) (places : List Places) (u : ℕ) (own : HeadAndForest) (operations : HeldOps) (written : HeadAndForest) (is : IsWorldOf world.image Narrow world) (holds : Holds file world r) (known : u < length world.units) (own_is : own ≡ unit_in world.units u) (operations_are : operations ≡ operations_at world.operations u) (taken : IsTakenFrom (unit_in world.units u) written) (numbers ends expressions : List ℕ) (numbered : AreOperationsNumbered world places u numbers) where
  held_there : unit_in world.units u ≡ head_and_forest (unit_at r.links u)
  held_there = held_unit file world r u holds

  -- the operations of an expression have their new references
  own_references : (number : ℕ) (span : Span) → IsExprAt (unit_in world.units u).forest number span → AreNewReferences r.links places u (ops_of (operations_at world.operations u) number) (for_value (operations_at world.operations u) numbers number)
  own_references number span stands =
      let (id, name, means) = expression_means world u written is known taken number span stands in
      let narrow = (is.operations.each u (unit_in [] 0) known).spelled number span stands in
      let wide = narrow_wide _ _ narrow in
      let read : IsExpression Wide (all_meant (bytes_in (unit_at r.links u).forest.section span) (ops_of (operations_at world.operations u) number)) (bytes_in (unit_at r.links u).forest.section span) = subst (λ (h : HeadAndForest). IsExpression Wide (all_meant (bytes_in h.forest.section span) (ops_of (operations_at world.operations u) number)) (bytes_in h.forest.section span)) held_there wide in
      references_of file world r places u holds numbers numbered number (means_named file world r u holds id name span (ops_of (operations_at world.operations u) number) means read)

  pub references_there : (number : ℕ) (span : Span) → IsExprAt (unit_at r.links u).forest number span → AreNewReferences r.links places u (ops_of (operations_at world.operations u) number) (for_value (operations_at world.operations u) numbers number)
  references_there = subst (λ (h : HeadAndForest). (number : ℕ) (span : Span) → IsExprAt h.forest number span → AreNewReferences r.links places u (ops_of (operations_at world.operations u) number) (for_value (operations_at world.operations u) numbers number)) held_there own_references

  -- so an expression that is written with them is a new one
  pub expressions_made : AreWrittenShortest (unit_at r.links u).forest (operations_at world.operations u) ends numbers expressions → (number : ℕ) (span : Span) → IsExprAt (unit_at r.links u).forest number span → IsNewExpression r.links places u (bytes_in (unit_at r.links u).forest.section span) (made_of ends expressions number)
  expressions_made written number span stands =
      let there : HasOperations Narrow (unit_at r.links u).forest (operations_at world.operations u) = subst (λ (h : HeadAndForest). HasOperations Narrow h.forest (operations_at world.operations u)) held_there (is.operations.each u (unit_in [] 0) known) in
      record {
        ops = ops_of (operations_at world.operations u) number;
        spelled = narrow_wide _ _ (there.spelled number span stands);
        numbers = for_value (operations_at world.operations u) numbers number;
        numbered = references_there number span stands;
        written = written.each number span stands;
      }

  -- what holds of the parts that were read holds of those that are held
  pub ends_known : AreEndsFor own.forest ends → AreEndsFor (unit_at r.links u).forest ends
  ends_known = subst (λ (h : HeadAndForest). AreEndsFor own.forest ends → AreEndsFor h.forest ends) (own_is ∙ held_there) (λ are. are)

  pub written_known : AreWrittenShortest own.forest operations ends numbers expressions → AreWrittenShortest (unit_at r.links u).forest (operations_at world.operations u) ends numbers expressions
  written_known written =
      subst (λ (h : HeadAndForest). AreWrittenShortest h.forest (operations_at world.operations u) ends numbers expressions) (own_is ∙ held_there) (subst (λ (o : HeldOps). AreWrittenShortest own.forest o ends numbers expressions) operations_are written)

-- ALL OF A UNIT

-- a value that means an expression is one
pub expression_span : (section : List ℕ) (v : Value) (bytes : List ℕ) → Expression bytes ≡ meant_in section v → (span : Span) × (v ≡ value.Expr span) × (bytes_in section span ≡ bytes)
expression_span section (value.Expr span) bytes e = (span, refl, cc (e))
expression_span section v bytes e = absurd (cc (e))

-- a value has its new number, or its new bytes
value_renewed : (r : Linkable) (places : List Places) (new_places : NewPlaces) (u id name : ℕ) (meaning : Meaning) (new : ℕ) (made : List ℕ) → IsNewNumber r places new_places u id name meaning new → ((bytes : List ℕ) → meaning ≡ Expression bytes → IsNewExpression r places u bytes made) → IsNewValue r places new_places u id name meaning new made
value_renewed r places new_places u id name (Expression bytes) new made number expression = expression bytes refl
value_renewed r places new_places u id name meaning new made number expression = number

module _ (file : List ℕ) (world : World) (r : Reading) (tables : List NewTable) (places : List Places) (new_places : NewPlaces) (u : ℕ) (own : HeadAndForest) (written : HeadAndForest) (mine : Places) (new : NewNumbers) (is : IsWorldOf world.image Narrow world) (holds : Holds file world r) (known : u < length world.units) (written_is : written ≡ written_in world tables u) (taken : IsTakenFrom (unit_in world.units u) written) where
  numbers_there : AreNumbered world written places new_places u new.held.items → NumbersIn r places new_places u new.held.items written.forest.values (head_and_forest (unit_at r.links u)) (unit_at r.links u).table
  numbers_there held =
      let size : length world.units ≡ length r.links.units = held_count file world r holds in
      let first : NumbersIn r places new_places u new.held.items written.forest.values (unit_in world.units u) (table_for world u) = λ id j a b. held.each id j a b file r holds in
      subst (NumbersIn r places new_places u new.held.items written.forest.values (head_and_forest (unit_at r.links u))) (table_known file world r u holds (omega (arith, size, known))) (subst (λ (h : HeadAndForest). NumbersIn r places new_places u new.held.items written.forest.values h (table_for world u)) (held_unit file world r u holds) first)

  values_count : length written.forest.values ≡ length (unit_at r.links u).forest.values
  values_count = taken_count (unit_in world.units u) written taken ∙ ap (λ (h : HeadAndForest). length h.forest.values) (held_unit file world r u holds)

  -- an expression is written as it was read, with its new references
  made_there : ((number : ℕ) (span : Span) → IsExprAt (unit_at r.links u).forest number span → IsNewExpression r.links places u (bytes_in (unit_at r.links u).forest.section span) (made_of new.expressions.ends.items new.expressions.bytes.items number)) → (number : ℕ) (bytes : List ℕ) → number < length (unit_at r.links u).forest.values → meant_in (unit_at r.links u).forest.section (value_at written.forest.values number) ≡ Expression bytes → IsNewExpression r.links places u bytes (made_of new.expressions.ends.items new.expressions.bytes.items number)
  made_there made number bytes inside means =
      let (span, is_span, same) = expression_span (unit_at r.links u).forest.section (value_at written.forest.values number) bytes (sym means) in
      let stands : IsExprAt (unit_in world.units u).forest number span = read_expr (unit_in world.units u) written taken number span (record { inside = omega (arith, inside, values_count); is = is_span }) in
      let here : IsExprAt (unit_at r.links u).forest number span = subst (λ (h : HeadAndForest). IsExprAt h.forest number span) (held_unit file world r u holds) stands in
      subst (λ (z : List ℕ). IsNewExpression r.links places u z (made_of new.expressions.ends.items new.expressions.bytes.items number)) same (made number span here)

  -- the value is the one of the unit as it is written
  meaning_there : (number : ℕ) → meant_in (unit_at r.links u).forest.section (value_at written.forest.values number) ≡ meaning_at (written_in world tables u).forest number
  meaning_there number =
      let section : (unit_at r.links u).forest.section ≡ (written_in world tables u).forest.section = sym (ap (λ (h : HeadAndForest). h.forest.section) (held_unit file world r u holds)) in
      ap (λ (z : List ℕ). meant_in z (value_at written.forest.values number)) section ∙ ap (λ (h : HeadAndForest). meant_in (written_in world tables u).forest.section (value_at h.forest.values number)) written_is

  pub are_new_numbers : (operations : HeldOps) → own ≡ unit_in world.units u → operations ≡ operations_at world.operations u → places_anew mine ≡ places_at places u → new.end ≡ mine.end → new.table ≡ (new_table_at tables (slice_index world.table_of u)).at → IsTypeMoved own (places_anew mine) new.type_offset → AreNumbered world written places new_places u new.held.items → (numbers : List ℕ) → AreOperationsNumbered world places u numbers → AreEndsFor own.forest new.expressions.ends.items → AreWrittenShortest own.forest operations new.expressions.ends.items numbers new.expressions.bytes.items → AreNewNumbers world r.links tables places new_places u new
  are_new_numbers operations own_is operations_are mine_is end table_is type held numbers numbered ends shortest =
      let there = written_known file world r places u own operations written is holds known own_is operations_are taken numbers new.expressions.ends.items new.expressions.bytes.items numbered shortest in
      let made = expressions_made file world r places u own operations written is holds known own_is operations_are taken numbers new.expressions.ends.items new.expressions.bytes.items numbered there in
      record {
        ends = end ∙ ap (λ (p : PlacesAnew). p.end) mine_is;
        table_at = table_is;
        type_at = type_moved file world r places u own mine new.type_offset holds own_is mine_is type;
        type_fits = type.fits;
        count = held.size.1 refl ∙ values_count;
        fit = All-from_get_or (λ (number : ℕ). number < 2 ^ 32) new.held.items 0 (λ k within. held.fit k within);
        ends_are = ends_known file world r places u own operations written is holds known own_is operations_are taken numbers new.expressions.ends.items new.expressions.bytes.items numbered ends;
        op_numbers = numbers;
        references = references_there file world r places u own operations written is holds known own_is operations_are taken numbers new.expressions.ends.items new.expressions.bytes.items numbered;
        expressions = there;
        each = λ id number name meaning place h.
            let number_is = slice_index new.held.items number in
            let made_is = made_of new.expressions.ends.items new.expressions.bytes.items number in
            let unit = unit_reads file world r u Narrow is holds known in
            let (inside, here) = value_among (debug_info world.image) (debug_abbrev world.image) (unit_at r.links u) unit id number name meaning place h in
            let means = meant_in (unit_at r.links u).forest.section (value_at written.forest.values number) in
            let renewed = value_renewed r.links places new_places u id name means number_is made_is (attribute_numbered r places new_places u new.held.items written.forest.values (debug_info world.image) (debug_abbrev world.image) unit (numbers_there held) id number name meaning place h) (λ bytes same. made_there made number bytes inside same) in
            subst (λ (m : Meaning). IsNewValue r.links places new_places u id name m number_is made_is) (meaning_there number) renewed;
      }
