-- Which values have the bytes of an expression, and that these are bytes.
use Rattle.std.proofs.Common.{◌≡◌, ◌<◌, ◌+◌, ◌-◌, ◌*◌, ◌^◌, ◌++◌, ◌∙◌, ℕ, List, [], ◌∷◌, length, get_or, take, drop, true≢false, sym, ap, subst, refl, arith}
use Rattle.std.specs.Prelude.{Bool, true, false, nat_le, if◌then◌else◌, pos}
use Rattle.std.proofs.Math.Seq.{get_or-append_seam}
use Rattle.std.proofs.lemmas.List.{length-append, length-drop, take-append-drop, get_or-drop, get_or_append_left}
use Rattle.dw_base.specs.declared.fault.Span.{Span}
use Rattle.spelled.specs.Spelled.{AreBytes}
use Rattle.spelled.proofs.Parts.{bytes_after}
use Rattle.fixed_width.specs.Numbers.{number}
use Rattle.form_codec.specs.declared.form.Content.{Content}
use Rattle.form_codec.specs.declared.form.Content.TheVariants as content
use Rattle.form_codec.specs.declared.form.Role.{Role}
use Rattle.form_codec.specs.declared.form.Role.TheVariants as role
use Rattle.form_codec.specs.declared.form.Shape.{Shape}
use Rattle.form_codec.specs.declared.form.Shape.TheVariants.{Constant, Present, Number, Uleb as ByUleb, Sleb as BySleb, Counted, UlebCounted, Sixteen, ZeroEnded}
use Rattle.form_codec.specs.declared.form.Width.{Width}
use Rattle.form_codec.specs.declared.form.Width.TheVariants.{Eight}
use Rattle.form_codec.specs.declared.value.Value.{Value}
use Rattle.form_codec.specs.declared.value.Value.TheVariants as value
use Rattle.form_codec.specs.Forms.{Meaning, SpellsShape, SpellsValue, shape_of, size_of, in_role, of_content}
use Rattle.form_codec.specs.Forms.Meaning.{Whole, Bits, Expression}
use Rattle.form_codec.specs.Values.{meant_in, bytes_in}
use Rattle.abbrev_tables.specs.declared.decl.Spec.{Spec}
use Rattle.entry_arena.specs.Arena.{value_at}
use Rattle.entry_arena.specs.Trees.{bytes_between, SpellsBetween, ValuesBetween}
use Rattle.entry_arena.proofs.StepLaws.{values_counted}
use Rattle.entry_read.specs.Expressions.{IsExprAt}
use Rattle.entry_read.proofs.PlaceLaws.{entry_stands}
use Rattle.value_links.specs.Reading.{UnitRead, declarations, IsUnitRead}
use Rattle.value_links.specs.Values.{entry_of, values_of, HasValueAt}

-- the bytes of an expression; of any other meaning there are none
abbrev pub expression_bytes : Meaning → List ℕ
expression_bytes (Expression bytes) = bytes
expression_bytes meaning = []

-- BYTES

no_bytes : (bytes : List ℕ) → bytes ≡ [] → AreBytes bytes
no_bytes bytes none k inside = let size : length bytes ≡ 0 = ap length none in absurd (omega arith)

bytes_front : (n : ℕ) (l : List ℕ) → AreBytes l → AreBytes (take n l)
bytes_front n l small k inside =
    let whole : take n l ++ drop n l ≡ l = take-append-drop n l in
    let size : length (take n l ++ drop n l) ≡ length (take n l) + length (drop n l) = length-append (take n l) (drop n l) in
    let same : length (take n l ++ drop n l) ≡ length l = ap length whole in
    let at : get_or l k 0 ≡ get_or (take n l) k 0 = sym (ap (λ (z : List ℕ). get_or z k 0) whole) ∙ get_or_append_left (take n l) (drop n l) 0 k inside in
    let s = small k (omega arith) in
    omega (arith, s, at)

-- what a value of a section of bytes has
pub section_small : (section : List ℕ) → AreBytes section → (v : Value) → AreBytes (expression_bytes (meant_in section v))
section_small section small (value.Expr span) = bytes_front span.len (drop span.at section) (bytes_after (take span.at section) (drop span.at section) (subst (λ (z : List ℕ). AreBytes z) (sym (take-append-drop span.at section)) small))
section_small section small v = no_bytes [] refl

-- SPELLINGS

-- a number of fixed size is no expression
data_bytes : (large : Bool) (size n : ℕ) → expression_bytes (if large then Bits size n else Whole (pos n)) ≡ []
data_bytes true size n = refl
data_bytes false size n = refl

role_bytes : (of : Role) (width : Width) (n : ℕ) → expression_bytes (in_role of width n) ≡ []
role_bytes role.Data width n = data_bytes (nat_le (2 ^ (8 * size_of width - 1)) n) (size_of width) n
role_bytes of width n = refl

content_small : (kind : Content) (body : List ℕ) → AreBytes body → AreBytes (expression_bytes (of_content kind body))
content_small content.Data body small = no_bytes [] refl
content_small content.Expression body small = small

-- bytes spell an expression of bytes
shape_small : (shape : Shape) (meaning : Meaning) (bytes : List ℕ) → AreBytes bytes → SpellsShape shape meaning bytes → AreBytes (expression_bytes meaning)
shape_small (Constant v) meaning bytes small s = no_bytes (expression_bytes meaning) (ap expression_bytes s.2)
shape_small Present meaning bytes small s = no_bytes (expression_bytes meaning) (ap expression_bytes s.1)
shape_small (Number width of) meaning bytes small s = no_bytes (expression_bytes meaning) (ap expression_bytes s.1 ∙ role_bytes of width (number (size_of width) bytes))
shape_small (ByUleb of) meaning bytes small (n, spelled, e) = no_bytes (expression_bytes meaning) (ap expression_bytes e ∙ role_bytes of Eight n)
shape_small BySleb meaning bytes small (v, spelled, e) = no_bytes (expression_bytes meaning) (ap expression_bytes e)
shape_small (Counted width) meaning bytes small s = no_bytes (expression_bytes meaning) (ap expression_bytes s.holds)
shape_small (UlebCounted kind) meaning bytes small s =
    subst (λ (m : Meaning). AreBytes (expression_bytes m)) (sym s.holds) (content_small kind s.body (bytes_after s.head s.body (subst (λ (z : List ℕ). AreBytes z) s.whole small)))
shape_small Sixteen meaning bytes small s = no_bytes (expression_bytes meaning) (ap expression_bytes s.1)
shape_small ZeroEnded meaning bytes small s = no_bytes (expression_bytes meaning) (ap expression_bytes s.holds)

-- the value of a column is spelled between two places
column_spelled : (section : List ℕ) (cs : List Spec) (c : Spec) (ds : List Spec) (vs : List Value) (v : Value) (ws : List Value) (from to : ℕ) → length vs ≡ length cs → ValuesBetween section (cs ++ c ∷ ds) (vs ++ v ∷ ws) from to → (at : ℕ) × (next : ℕ) × SpellsBetween (SpellsValue c.name c.form c.constant (meant_in section v)) section at next
column_spelled section [] c ds [] v ws from to same (next, spelled, placed, more) = (from, next, spelled)
column_spelled section [] c ds (x ∷ vs) v ws from to same valued = absurd (omega arith)
column_spelled section (k ∷ cs) c ds [] v ws from to same valued = absurd (omega arith)
column_spelled section (k ∷ cs) c ds (x ∷ vs) v ws from to same (next, spelled, placed, more) = column_spelled section cs c ds vs v ws next to (omega arith) more

-- so the expressions of a unit that is read are of bytes
pub unit_small : (info abbrevs : List ℕ) (unit : UnitRead) → IsUnitRead info abbrevs unit → (id number name : ℕ) (meaning : Meaning) (place : ℕ) → HasValueAt unit id number name meaning place → AreBytes (expression_bytes meaning)
unit_small info abbrevs unit is id number name meaning place h =
    let section : List ℕ = unit.forest.section in
    let stands = entry_stands info unit.head (declarations unit) unit.forest is.section is.entries id h.known in
    let end : ℕ = (entry_of unit id).at + (entry_of unit id).len in
    let same : length h.earlier ≡ length h.earlier_columns = values_counted section h.earlier_columns h.earlier h.values_at place h.valued in
    let by_columns : ValuesBetween section (h.earlier_columns ++ h.column ∷ h.later_columns) (values_of unit id) stands.values_at end = subst (λ (z : List Spec). ValuesBetween section z (values_of unit id) stands.values_at end) h.columns stands.valued in
    let by_values : ValuesBetween section (h.earlier_columns ++ h.column ∷ h.later_columns) (h.earlier ++ h.value ∷ h.later) stands.values_at end = subst (λ (z : List Value). ValuesBetween section (h.earlier_columns ++ h.column ∷ h.later_columns) z stands.values_at end) h.values by_columns in
    let (at, next, between) = column_spelled section h.earlier_columns h.column h.later_columns h.earlier h.value h.later stands.values_at end same by_values in
    let spelled : SpellsValue h.column.name h.column.form h.column.constant (meant_in section h.value) (bytes_between section at next) = between.spelled in
    subst (λ (m : Meaning). AreBytes (expression_bytes m)) (sym h.meant) (shape_small (shape_of spelled.form h.column.name h.column.constant) (meant_in section h.value) (bytes_between section at next) spelled.small spelled.spelled)

-- VALUES

abbrev is_expression : Meaning → Bool
is_expression (Expression bytes) = true
is_expression meaning = false

-- the value that is an expression has a span
spanned : (section bytes : List ℕ) (v : Value) → Expression bytes ≡ meant_in section v → (span : Span) × (v ≡ value.Expr span) × (bytes ≡ bytes_in section span)
spanned section bytes (value.Expr span) e = (span, refl, ap expression_bytes e)
spanned section bytes v e = absurd (true≢false (ap is_expression e))

-- one of the values of an entry, by its number among all
value_there : (values : List Value) (first count : ℕ) (earlier : List Value) (v : Value) (later : List Value) → take count (drop first values) ≡ earlier ++ v ∷ later → (first + length earlier < length values) × (value_at values (first + length earlier) ≡ v)
value_there values first count earlier v later e =
    let own : List Value = take count (drop first values) in
    let rest : List Value = drop count (drop first values) in
    let size : length own ≡ length earlier + length (v ∷ later) = ap length e ∙ length-append earlier (v ∷ later) in
    let inside : length earlier < length own = omega arith in
    let whole : own ++ rest ≡ drop first values = take-append-drop count (drop first values) in
    let split : length (own ++ rest) ≡ length own + length rest = length-append own rest in
    let same : length (own ++ rest) ≡ length (drop first values) = ap length whole in
    let left : length (drop first values) ≡ length values - first = length-drop first values in (
      omega arith,
      sym (get_or-drop first values (length earlier) (value.Addr 0))
          ∙ sym (ap (λ (z : List Value). value_at z (length earlier)) whole)
          ∙ get_or_append_left own rest (value.Addr 0) (length earlier) inside
          ∙ ap (λ (z : List Value). value_at z (length earlier)) e
          ∙ get_or-append_seam earlier v later (value.Addr 0),
    )

-- an expression of an entry is one of the unit
pub expression_stands : (unit : UnitRead) (id number name : ℕ) (bytes : List ℕ) (place : ℕ) → HasValueAt unit id number name (Expression bytes) place → (span : Span) × IsExprAt unit.forest number span × (bytes ≡ bytes_in unit.forest.section span)
expression_stands unit id number name bytes place h =
    let (span, is, same) = spanned unit.forest.section bytes h.value h.meant in
    let there = value_there unit.forest.values (entry_of unit id).first (entry_of unit id).count h.earlier h.value h.later h.values in
    let inside : number < length unit.forest.values = subst (λ (n : ℕ). n < length unit.forest.values) (sym h.numbered) there.0 in
    let here : value_at unit.forest.values number ≡ value.Expr span = ap (value_at unit.forest.values) h.numbered ∙ there.1 ∙ is in
    (span, record { inside = inside; is = here }, same)
