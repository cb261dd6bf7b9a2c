-- No number of the entries of a file that is written anew has a byte too many.
use Rattle.std.proofs.Common.{◌≡◌, ◌≤◌, ◌+◌, ◌-◌, ◌++◌, ◌∙◌, inl, inr, ℕ, List, [], ◌∷◌, length, drop, sym, ap, subst, refl, arith}
use Rattle.std.proofs.lemmas.List.{length-append, take-append-drop}
use Rattle.std.proofs.lemmas.List.Elements.{All-get_or}
use Rattle.spelled.specs.Spelled.{AreBytes}
use Rattle.spelled.proofs.Parts.{bytes_append, bytes_after}
use Rattle.leb_codec.specs.Leb.{Uleb, ShortestUnsigned, least_unsigned_len}
use Rattle.leb_codec.proofs.Fronts.{unique_u}
use Rattle.form_codec.specs.declared.form.Form.{Form}
use Rattle.form_codec.specs.declared.form.Role.{Role}
use Rattle.form_codec.specs.declared.form.Role.TheVariants as role
use Rattle.form_codec.specs.declared.form.Content.TheVariants as content
use Rattle.form_codec.specs.declared.form.Shape.{Shape}
use Rattle.form_codec.specs.declared.form.Shape.TheVariants.{Uleb as ByUleb, Sleb as BySleb, UlebCounted}
use Rattle.form_codec.specs.declared.value.Value.{Value}
use Rattle.form_codec.specs.Forms.{Meaning, SpellsShape, SpellsValue, IsUlebCounted, shape_of}
use Rattle.form_codec.specs.Values.{meant_in}
use Rattle.form_codec.proofs.Codes.{code_once}
use Rattle.form_codec.proofs.Shapes.{value_once}
use Rattle.abbrev_tables.specs.declared.decl.Spec.{Spec}
use Rattle.entry_arena.specs.Trees.{SpellsBetween, ValuesBetween, bytes_between}
use Rattle.entry_arena.proofs.Between.{spells_once}
use Rattle.entry_read.specs.Short.{IsWritten, WrittenBetween, EndsShort}
use Rattle.value_links.specs.Reading.{UnitRead, Reading, no_unit, unit_at}
use Rattle.value_links.specs.Values.{entry_of, declaration_of, values_of}
use Rattle.value_links.specs.Sections.{debug_abbrev}
use Rattle.written_files.specs.Tidy.{IsTidyUnit, AreTidy}
use Rattle.written_files.specs.inside.Counterparts.{AreAnew}
use Rattle.written_files.specs.inside.Laws.{AreLaws}
use Rattle.tidy_numbers.specs.Fronts.{BeginsLong}
use Rattle.tidy_numbers.specs.LongUnits.{BeginsLongShape, BeginsLongValue, IsLongCode, IsLongEnd, IsLongValue, IsLongInUnit}
use Rattle.tidy_numbers.specs.LongNumbers.{IsLongInEntries}
use Rattle.tidy_numbers.proofs.ShortFronts.{in_parts, few_not_long, few_not_long_signed, shortest_not_long, shortest_there, shortest_signed_there}

-- ONE VALUE

-- no bytes that spell something are fewer than these
abbrev AreFewest : (List ℕ → Type 0) → List ℕ → Type 0
AreFewest Spells a = (others : List ℕ) → AreBytes others → Spells others → length a ≤ length others

-- a number, by its role
uleb_short : (r : Role) (meaning : Meaning) (a x bytes : List ℕ) → SpellsShape (ByUleb r) meaning a → AreFewest (SpellsShape (ByUleb r) meaning) a → bytes ≡ a ++ x → BeginsLong bytes → ⊥
uleb_short r meaning a x bytes (n, spelled, is) least whole long =
    let (others, shortest) = shortest_there n in
    let few : length a ≤ length others = least others shortest.0.0.byte (n, (shortest.0, spelled.1), is) in
    few_not_long n a x bytes spelled.0 (omega (arith, few, shortest.1)) whole long

-- a number with a sign
sleb_short : (meaning : Meaning) (a x bytes : List ℕ) → SpellsShape BySleb meaning a → AreFewest (SpellsShape BySleb meaning) a → bytes ≡ a ++ x → BeginsLongShape BySleb bytes → ⊥
sleb_short meaning a x bytes (v, spelled, is) least whole long =
    let (others, shortest) = shortest_signed_there v in
    let few : length a ≤ length others = least others shortest.0.0.byte (v, (shortest.0, spelled.1), is) in
    few_not_long_signed v a x bytes spelled.0 (omega (arith, few, shortest.1)) whole long

-- a block, which has its length in front of it
counted_short : (meaning : Meaning) (a x bytes : List ℕ) → AreBytes a → IsUlebCounted content.Data meaning a → AreFewest (IsUlebCounted content.Data meaning) a → bytes ≡ a ++ x → BeginsLong bytes → ⊥
counted_short meaning a x bytes small c least whole long =
    let (others, shortest) = shortest_there (length c.body) in
    let body : AreBytes c.body = bytes_after c.head c.body (subst AreBytes c.whole small) in
    let again : IsUlebCounted content.Data meaning (others ++ c.body) = record { head = others; body = c.body; count = (shortest.0, c.count.1); whole = refl; holds = c.holds } in
    let few : length a ≤ length (others ++ c.body) = least (others ++ c.body) (bytes_append others c.body shortest.0.0.byte body) again in
    let own : length a ≡ length c.head + length c.body = ap length c.whole ∙ length-append c.head c.body in
    let fewer : length c.head ≤ least_unsigned_len (length c.body) = omega (arith, few, own, length-append others c.body, shortest.1) in
    few_not_long (length c.body) c.head (c.body ++ x) bytes c.count.0 fewer (in_parts bytes a x c.head c.body whole c.whole) long

-- a value in the fewest bytes of its shape
shape_short : (shape : Shape) (meaning : Meaning) (a x bytes : List ℕ) → AreBytes a → SpellsShape shape meaning a → AreFewest (SpellsShape shape meaning) a → bytes ≡ a ++ x → BeginsLongShape shape bytes → ⊥
shape_short (ByUleb role.LocalRef) meaning a x bytes small spelled least whole long = long
shape_short (ByUleb r) meaning a x bytes small spelled least whole long = uleb_short r meaning a x bytes spelled least whole long
shape_short BySleb meaning a x bytes small spelled least whole long = sleb_short meaning a x bytes spelled least whole long
shape_short (UlebCounted content.Data) meaning a x bytes small spelled least whole long = counted_short meaning a x bytes small spelled least whole long
shape_short shape meaning a x bytes small spelled least whole long = long

-- a value in the fewest bytes of its form
value_short : (column : Spec) (meaning : Meaning) (a x bytes : List ℕ) → IsWritten column meaning a → bytes ≡ a ++ x → BeginsLongValue column bytes → ⊥
value_short column meaning a x bytes written whole (form, known, long) =
    let spelled = written.0 in
    let one : spelled.form ≡ form = code_once spelled.form form (spelled.known ∙ sym known) in
    let here : SpellsShape (shape_of form column.name column.constant) meaning a = subst (λ (f : Form). SpellsShape (shape_of f column.name column.constant) meaning a) one spelled.spelled in
    shape_short (shape_of form column.name column.constant) meaning a x bytes spelled.small here
    (λ others small there. written.1.shortest column.constant others (record { form = form; known = known; small = small; spelled = there }))
    whole long

-- VALUES

-- where a value stands behind others, it stands in the bytes that are written
stands_written : (section : List ℕ) (columns : List Spec) (c : Spec) (cs : List Spec) (values : List Value) (v : Value) (vs : List Value) (from place to : ℕ) → ValuesBetween section columns values from place → WrittenBetween section (columns ++ c ∷ cs) (values ++ v ∷ vs) from to → (next : ℕ) × SpellsBetween (IsWritten c (meant_in section v)) section place next
stands_written section [] c cs [] v vs from place to same written = subst (λ (z : ℕ). (next : ℕ) × SpellsBetween (IsWritten c (meant_in section v)) section z next) same (written.0, written.1)
stands_written section [] c cs (w ∷ ws) v vs from place to none written = absurd none
stands_written section (b ∷ bs) c cs [] v vs from place to none written = absurd none
stands_written section (b ∷ bs) c cs (w ∷ ws) v vs from place to (next, spelled, placed, more) (after, short, others) =
    let here : SpellsBetween (SpellsValue b.name b.form b.constant (meant_in section w)) section from after = record { order = short.order; inside = short.inside; spelled = short.spelled.0 } in
    let one : next ≡ after = (spells_once (SpellsValue b.name b.form b.constant) (value_once b.name b.form b.constant) section (meant_in section w) (meant_in section w) from next after spelled here).0 in
    stands_written section bs c cs ws v vs after place to (subst (λ (z : ℕ). ValuesBetween section bs ws z place) one more) others

-- A UNIT

module _ (unit : UnitRead) (tidy : IsTidyUnit unit) where
  -- a number that stands in its fewest bytes
  begins_short : (n from to : ℕ) → SpellsBetween (ShortestUnsigned n) unit.forest.section from to → BeginsLong (drop from unit.forest.section) → ⊥
  begins_short n from to coded long =
      shortest_not_long n (bytes_between unit.forest.section from to) (drop (to - from) (drop from unit.forest.section)) (drop from unit.forest.section) coded.spelled
      (sym (take-append-drop (to - from) (drop from unit.forest.section))) long

  code_short : (p : ℕ) → IsLongCode unit p → ⊥
  code_short p (id, known, long, place) =
      let coded = (tidy.short id known).coded in
      begins_short (declaration_of unit id).code (entry_of unit id).at (tidy.short id known).values_at coded (subst (λ (z : ℕ). BeginsLong (drop z unit.forest.section)) place long)

  end_short : (p : ℕ) → IsLongEnd unit p → ⊥
  end_short p (end, (k, inside, here), long, place) =
      let stands : EndsShort unit.forest.section end = subst (EndsShort unit.forest.section) here (tidy.ends k end inside) in
      begins_short 0 end.at (end.at + 1) stands (subst (λ (z : ℕ). BeginsLong (drop z unit.forest.section)) place long)

  -- the code and the values before it end where they end as they are read
  value_not_long : (p : ℕ) → IsLongValue unit p → ⊥
  value_not_long p long =
      let section : List ℕ = unit.forest.section in
      let stands = long.stands in
      let short = tidy.short long.id stands.known in
      let code : ℕ = (declaration_of unit long.id).code in
      let coded : SpellsBetween (Uleb code) section (entry_of unit long.id).at short.values_at = record { order = short.coded.order; inside = short.coded.inside; spelled = (short.coded.spelled.0, stands.coded.spelled.1) } in
      let from : short.values_at ≡ stands.values_at = (spells_once Uleb unique_u section code code (entry_of unit long.id).at short.values_at stands.values_at coded stands.coded).0 in
      let to : ℕ = (entry_of unit long.id).at + (entry_of unit long.id).len in
      let all = subst (λ (z : ℕ). WrittenBetween section (declaration_of unit long.id).columns (values_of unit long.id) z to) from short.valued in
      let by_column = subst (λ (z : List Spec). WrittenBetween section z (values_of unit long.id) stands.values_at to) stands.columns all in
      let parts = subst (λ (z : List Value). WrittenBetween section (stands.earlier_columns ++ stands.column ∷ stands.later_columns) z stands.values_at to) stands.values by_column in
      let (next, here) = stands_written section stands.earlier_columns stands.column stands.later_columns stands.earlier stands.value stands.later stands.values_at p to stands.valued parts in
      value_short stands.column (meant_in section stands.value) (bytes_between section p next) (drop (next - p) (drop p section)) (drop p section) here.spelled
      (sym (take-append-drop (next - p) (drop p section))) long.long

  pub unit_short : (p : ℕ) → IsLongInUnit unit p → ⊥
  unit_short p (inl code) = code_short p code
  unit_short p (inr (inl end)) = end_short p end
  unit_short p (inr (inr value)) = value_not_long p value

-- THE FILE

-- what is said of both files is so of these readings
pub tidy_of : AreLaws → (file written : List ℕ) (r s : Reading) → AreAnew file written r s → AreTidy (debug_abbrev written) r s
tidy_of laws file written r s anew = laws.holds (AreTidy (debug_abbrev written)) file written r s anew.read anew.again anew.anew.tidy

module _ (laws : AreLaws) where
  pub entries_short : (file written : List ℕ) (r s : Reading) → AreAnew file written r s → (p : ℕ) → IsLongInEntries s p → ⊥
  entries_short file written r s anew p (u, known, long) =
      let tidy = tidy_of laws file written r s anew in
      unit_short (unit_at s.links u) (All-get_or IsTidyUnit s.links.units u no_unit known tidy.units) p long
