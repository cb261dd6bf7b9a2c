-- The sizes of the slots of values that stand in their fewest bytes.
use Rattle.std.proofs.Common.{◌≡◌, ◌≤◌, ◌+◌, ◌-◌, ◌∙◌, ◌++◌, ℕ, List, [], ◌∷◌, length, take, drop, sym, ap, subst, refl, arith}
use Rattle.std.proofs.lemmas.List.{append_assoc, length-append, take-append-drop}
use Rattle.dw_base.specs.declared.fault.Reach.TheVariants.{Wide}
use Rattle.dw_base.specs.declared.fault.Span.{Span}
use Rattle.spelled.specs.Spelled.{AreBytes}
use Rattle.spelled.proofs.Parts.{bytes_append, bytes_after}
use Rattle.leb_codec.specs.Leb.{Uleb, least_unsigned_len}
use Rattle.leb_codec.proofs.Fronts.{unique_u}
use Rattle.leb_codec.proofs.SpellingLaws.{unsigned_spellings}
use Rattle.expr_ops.specs.Expressions.{Operation, IsExpression}
use Rattle.form_codec.specs.declared.form.Form.TheVariants.{RefUdata, Exprloc}
use Rattle.form_codec.specs.declared.value.Value.{Value}
use Rattle.form_codec.specs.declared.value.Value.TheVariants as value
use Rattle.form_codec.specs.Forms.{Meaning, SpellsValue, SpellsShortest, code_of}
use Rattle.form_codec.specs.Forms.Meaning.{Expression, InUnit}
use Rattle.form_codec.specs.Values.{bytes_in, meant_in}
use Rattle.form_codec.proofs.FormLaws.{in_form}
use Rattle.form_codec.proofs.Shapes.{value_once}
use Rattle.abbrev_tables.specs.declared.decl.Spec.{Spec}
use Rattle.entry_arena.specs.Trees.{SpellsBetween, ValuesBetween, bytes_between}
use Rattle.entry_arena.proofs.Between.{length_between, spells_once}
use Rattle.entry_read.specs.Short.{IsWritten, WrittenBetween, StandsShort}
use Rattle.entry_read.specs.Slots.{value_aims}
use Rattle.value_links.specs.Reading.{UnitRead, declarations}
use Rattle.value_links.specs.Values.{HasValueAt, entry_of, declaration_of}
use Rattle.written_files.specs.inside.Counterparts.{HasWrittenForm}
use Rattle.written_files.specs.inside.FewestBytes.{HasFewestBytes}
use Rattle.written_files.specs.inside.Laws.{AreLaws}
use Rattle.unit_slots.specs.Standing.{BeginsWith, AreMeaningSizes}
use Rattle.unit_slots.proofs.ValueSizes.{same_body}
use Rattle.unit_slots.proofs.WrittenExpressions.{expression_stands}
use Rattle.unit_slots.proofs.WrittenNeeds.{needs}

-- WHERE A VALUE STANDS

-- a value stands in its fewest bytes where those before it end
written_value : (section : List ℕ) (earlier : List Spec) (column : Spec) (later : List Spec) (before : List Value) (v : Value) (behind : List Value) (from end place : ℕ) → WrittenBetween section (earlier ++ column ∷ later) (before ++ v ∷ behind) from end → ValuesBetween section earlier before from place → (to : ℕ) × SpellsBetween (IsWritten column (meant_in section v)) section place to
written_value section [] column later [] v behind from end place (next, written, more) here =
    (next, subst (λ (n : ℕ). SpellsBetween (IsWritten column (meant_in section v)) section n next) here written)
written_value section [] column later (w ∷ ws) v behind from end place all valued = absurd valued
written_value section (c ∷ cs) column later [] v behind from end place all valued = absurd valued
written_value section (c ∷ cs) column later (w ∷ ws) v behind from end place (next, written, more) (after, spelled, placed, valued) =
    let own : SpellsBetween (SpellsValue c.name c.form c.constant (meant_in section w)) section from next = record { order = written.order; inside = written.inside; spelled = written.spelled.0 } in
    let same : next ≡ after = (spells_once (SpellsValue c.name c.form c.constant) (value_once c.name c.form c.constant) section (meant_in section w) (meant_in section w) from next after own spelled).0 in
    written_value section cs column later ws v behind after end place (subst (λ (n : ℕ). WrittenBetween section (cs ++ column ∷ later) (ws ++ v ∷ behind) n end) same more) valued

pub value_written : (unit : UnitRead) (id number name place : ℕ) (meaning : Meaning) → (stands : HasValueAt unit id number name meaning place) → StandsShort unit.forest.section (declarations unit) unit.forest.values (entry_of unit id) → (to : ℕ) × SpellsBetween (IsWritten stands.column meaning) unit.forest.section place to
value_written unit id number name place meaning stands short =
    let section : List ℕ = unit.forest.section in
    let code : ℕ = (declaration_of unit id).code in
    let coded : SpellsBetween (Uleb code) section (entry_of unit id).at short.values_at = record { order = short.coded.order; inside = short.coded.inside; spelled = (short.coded.spelled.0, stands.coded.spelled.1) } in
    let begin : short.values_at ≡ stands.values_at = (spells_once Uleb unique_u section code code (entry_of unit id).at short.values_at stands.values_at coded stands.coded).0 in
    let end : ℕ = (entry_of unit id).at + (entry_of unit id).len in
    let all = subst (λ (vs : List Value). WrittenBetween section (stands.earlier_columns ++ stands.column ∷ stands.later_columns) vs stands.values_at end) stands.values (subst (λ (cs : List Spec). WrittenBetween section cs (take (entry_of unit id).count (drop (entry_of unit id).first unit.forest.values)) stands.values_at end) stands.columns (subst (λ (n : ℕ). WrittenBetween section (declaration_of unit id).columns (take (entry_of unit id).count (drop (entry_of unit id).first unit.forest.values)) n end) begin short.valued)) in
    let (to, written) = written_value section stands.earlier_columns stands.column stands.later_columns stands.earlier stands.value stands.later stands.values_at end place all stands.valued in
    (to, subst (λ (m : Meaning). SpellsBetween (IsWritten stands.column m) section place to) (sym stands.meant) written)

-- HOW MANY BYTES IT HAS

same_place : (m n : ℕ) → InUnit m ≡ InUnit n → n ≡ m
same_place m n e = cc

-- a reference within the unit has the bytes that its number needs
reference_long : (name n : ℕ) (bytes : List ℕ) → SpellsShortest name (code_of RefUdata) (InUnit n) bytes → length bytes ≡ least_unsigned_len n
reference_long name n bytes short =
    let (m, spelled, is) = in_form name (code_of RefUdata) RefUdata short.constant (InUnit n) bytes refl short.spelled in
    let own : Uleb n bytes = subst (λ (k : ℕ). Uleb k bytes) (same_place n m is) spelled in
    let (others, also, size) = unsigned_spellings.each_len n (least_unsigned_len n) (omega arith) in
    let less : length bytes ≤ length others = short.shortest short.constant others (record { form = RefUdata; known = refl; small = also.0.byte; spelled = (n, (also, own.1), refl) }) in
    let more : least_unsigned_len n ≤ length bytes = unsigned_spellings.no_shorter bytes n own.0 in
    omega (arith, less, more, size)

-- and so has the length of an expression
length_begins : (name : ℕ) (body bytes rest : List ℕ) → SpellsShortest name (code_of Exprloc) (Expression body) bytes → BeginsWith (least_unsigned_len (length body)) (bytes ++ rest)
length_begins name body bytes rest short =
    let spelled = in_form name (code_of Exprloc) Exprloc short.constant (Expression body) bytes refl short.spelled in
    let same : spelled.body ≡ body = same_body body spelled.body spelled.holds in
    let head : List ℕ = spelled.head in
    let count : Uleb (length body) head = subst (λ (z : List ℕ). Uleb (length z) head) same spelled.count in
    let whole : bytes ≡ head ++ body = spelled.whole ∙ ap (λ (z : List ℕ). head ++ z) same in
    let small : AreBytes body = bytes_after head body (subst AreBytes whole short.spelled.small) in
    let (other, also, size) = unsigned_spellings.each_len (length body) (least_unsigned_len (length body)) (omega arith) in
    let less : length bytes ≤ length (other ++ body) = short.shortest short.constant (other ++ body) (record { form = Exprloc; known = refl; small = bytes_append other body also.0.byte small; spelled = record { head = other; body = body; count = (also, count.1); whole = refl; holds = refl } }) in
    let more : least_unsigned_len (length body) ≤ length head = unsigned_spellings.no_shorter head (length body) count.0 in
    let own : length bytes ≡ length head + length body = ap length whole ∙ length-append head body in
    let all : length (other ++ body) ≡ length other + length body = length-append other body in
    record {
      number = length body;
      first = head;
      rest = body ++ rest;
      spelled = count;
      whole = ap (λ (z : List ℕ). z ++ rest) whole ∙ append_assoc head body rest;
      sized = omega (arith, less, more, own, all, size);
    }

-- THE SIZES OF ITS SLOTS

module _ (laws : AreLaws) (section : List ℕ) (os : List Operation) (from to name form : ℕ) where
  -- they are those that they need
  pub meaning_stands : (v : Value) → HasWrittenForm (meant_in section v) form → SpellsBetween (SpellsShortest name form (meant_in section v)) section from to → ((span : Span) → v ≡ value.Expr span → HasFewestBytes (bytes_in section span) × IsExpression Wide os (bytes_in section span)) → AreMeaningSizes section from to (meant_in section v) (needs (value_aims (meant_in section v) os))
  meaning_stands (value.LocalRef n) written stands fewest =
      let short : SpellsShortest name (code_of RefUdata) (InUnit n) (bytes_between section from to) = subst (λ (f : ℕ). SpellsShortest name f (InUnit n) (bytes_between section from to)) written stands.spelled in
      let size : to - from ≡ least_unsigned_len n = sym (length_between section from to stands.inside) ∙ reference_long name n (bytes_between section from to) short in
      ap (λ (k : ℕ). k ∷ []) (sym size)
  meaning_stands (value.Expr span) written stands fewest =
      let body : List ℕ = bytes_in section span in
      let (few, spelled) = fewest span refl in
      let short : SpellsShortest name (code_of Exprloc) (Expression body) (bytes_between section from to) = subst (λ (f : ℕ). SpellsShortest name f (Expression body) (bytes_between section from to)) written stands.spelled in
      let begins : BeginsWith (least_unsigned_len (length body)) (bytes_between section from to ++ drop (to - from) (drop from section)) = length_begins name body (bytes_between section from to) (drop (to - from) (drop from section)) short in
      let whole : bytes_between section from to ++ drop (to - from) (drop from section) ≡ drop from section = take-append-drop (to - from) (drop from section) in
      expression_stands laws (drop from section) body os few spelled (subst (BeginsWith (least_unsigned_len (length body))) whole begins)
  meaning_stands v written stands fewest = refl
