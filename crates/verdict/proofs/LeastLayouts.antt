-- The slots of each unit of a file whose certificate is accepted have the least sizes under which each holds its number.
use Rattle.std.proofs.Common.{◌≡◌, ◌≤◌, ◌<◌, ◌+◌, ◌-◌, ◌*◌, ◌^◌, ◌++◌, ◌∙◌, inl, inr, ℕ, zero, suc, List, [], ◌∷◌, length, get_or, take, drop, map, sum, sym, ap, subst, refl, arith}
use Rattle.std.specs.Prelude.{flat_map, slice_range, slice_index}
use Rattle.std.specs.List.{All, AllZip}
use Rattle.std.proofs.lemmas.List.{map-append, length-take, length-drop, get_or-take, get_or-drop}
use Rattle.std.proofs.lemmas.List.Sums.{sum_by-le}
use Rattle.std.proofs.lemmas.List.Elements.{All-from_get_or}
use Rattle.std.proofs.lemmas.Bool.{cases_lt}
use Rattle.std.proofs.lemmas.Bool.Decides.{nat_tests}
use Rattle.dw_base.specs.declared.classes.Classes.{Classes}
use Rattle.dw_base.specs.declared.fault.Reach.TheVariants.{Wide}
use Rattle.spelled.specs.Spelled.{AreBytes}
use Rattle.leb_codec.proofs.Lens.{unsigned_lens}
use Rattle.leb_codec.specs.Layout.{SlotForm, uleb, call, SlotRow, row_at, slot_number, need, IsSlotSize, IsLayout, AcceptsLayout}
use Rattle.leb_codec.specs.Records.{Record, OfLines, OfList, OfLayout}
use Rattle.fixed_width.specs.Numbers.{number}
use Rattle.fixed_width.proofs.Numbers.{number_small}
use Rattle.slot_layout.specs.Rows.{CanHaveSize, IsTight}
use Rattle.check_units.proofs.Lowest.{accepted_least}
use Rattle.check_units.proofs.Tightness.{accepted_tight}
use Rattle.expr_ops.specs.Expressions.{Operation}
use Rattle.expr_ops.specs.Slots.{Aim, expression_aims}
use Rattle.expr_ops.specs.Slots.Aim.{Place, Length}
use Rattle.form_codec.specs.declared.form.Width.{Width}
use Rattle.form_codec.specs.declared.form.Width.TheVariants.{One, Two, Three, Four, Eight}
use Rattle.form_codec.specs.declared.form.Shape.{Shape}
use Rattle.form_codec.specs.declared.form.Shape.TheVariants as shape
use Rattle.form_codec.specs.declared.form.Role.{Role}
use Rattle.form_codec.specs.declared.form.Content.{Content}
use Rattle.form_codec.specs.declared.form.Content.TheVariants as content
use Rattle.form_codec.specs.Forms.{Meaning, size_of, in_role, of_content, SpellsShape, SpellsValue, shape_of}
use Rattle.form_codec.specs.Forms.Meaning.{Expression, InUnit}
use Rattle.form_codec.specs.Values.{bytes_in, meant_in}
use Rattle.form_codec.specs.inside.Written.{HasNumber}
use Rattle.form_codec.proofs.NumberLaws.{least_number}
use Rattle.entry_arena.specs.Arena.{Arena, value_at}
use Rattle.entry_arena.specs.Trees.{bytes_between}
use Rattle.entry_read.specs.Slots.{value_aims, meaning_at, aims_before, aims_of, aim_at, IsRowOf}
use Rattle.list_model.specs.declared.entry.RawEntry.{RawEntry}
use Rattle.list_model.specs.declared.entry.ListKind.TheVariants.{Ranges, Locations}
use Rattle.value_links.specs.Faults.{IsValid}
use Rattle.written_files.proofs.Counterparts.{expression_value}
use Rattle.written_files.specs.Layouts.{all_aims, list_expressions, place_told}
use Rattle.value_links.specs.Lists.{expressions_at}
use Rattle.value_links.specs.Reading.{UnitRead, Reading, unit_at, list_at, IsUnitRead}
use Rattle.value_links.specs.Sections.{debug_info, debug_abbrev, debug_line, debug_lists, info_name, lists_name, section_named}
use Rattle.value_links.specs.Values.{HasValueAt}
use Rattle.value_links.specs.Whole.{IsReading}
use Rattle.value_links.proofs.EntryValues.{column_of, column_numbered}
use Rattle.same_meaning.proofs.FewPrograms.{body_short, file_short}
use Rattle.same_meaning.proofs.ReadUnits.{unit_read, owners}
use Rattle.unit_slots.specs.Standing.{AreValueSizes, HasStandingSlots, HasLeastStandingLayout, HaveLeastStandingLayouts}
use Rattle.check_records.specs.Parts.{Part, AProgram, AList, AUnit, AreParts, numbers_below, program_count}
use Rattle.check_records.specs.Accepted.{SaysOf, accepting, IsAccepted, AreStandingRanks}
use Rattle.verdict.proofs.AmongParts.{StandsAmong, among_more, among_behind, said_of}
use Rattle.verdict.proofs.AimNumbers.{IsFitting, AreFitting, fitting_append, expression_fits, AreShort, short_flat, part_short, expressions_fit}

-- NUMBERS WITHIN A UNIT

wide : (w : Width) (n : ℕ) → n < 256 ^ size_of w → n < 2 ^ 64
wide One n below = omega (arith, below)
wide Two n below = omega (arith, below)
wide Three n below = omega (arith, below)
wide Four n below = omega (arith, below)
wide Eight n below = omega (arith, below)

role_narrow : (r : Role) (w : Width) (k m : ℕ) → m < 2 ^ 64 → InUnit k ≡ in_role r w m → k < 2 ^ 64
role_narrow r w k m small is =
    let (n, least) = least_number r w m in
    let same : k ≡ n = subst (λ (z : Meaning). HasNumber z n) (sym is) least.held in
    omega (arith, least.few, same, small)

content_other : (kind : Content) (k : ℕ) (body : List ℕ) → InUnit k ≡ of_content kind body → ⊥
content_other content.Data k body is = absurd (cc (is))
content_other content.Expression k body is = absurd (cc (is))

shape_narrow : (s : Shape) (k : ℕ) (bytes : List ℕ) → AreBytes bytes → SpellsShape s (InUnit k) bytes → k < 2 ^ 64
shape_narrow (shape.Constant v) k bytes small (none, fits, is) = absurd (cc (is))
shape_narrow shape.Present k bytes small (none, is) = absurd (cc (is))
shape_narrow (shape.Number w r) k bytes small (size, is) = role_narrow r w k (number (size_of w) bytes) (wide w (number (size_of w) bytes) (number_small (size_of w) bytes small)) is
shape_narrow (shape.Uleb r) k bytes small (n, spelled, is) = role_narrow r Eight k n spelled.1 is
shape_narrow shape.Sleb k bytes small (v, spelled, is) = absurd (cc (is))
shape_narrow (shape.Counted w) k bytes small counted = let is = counted.holds in absurd (cc (is))
shape_narrow (shape.UlebCounted kind) k bytes small counted = absurd (content_other kind k counted.body counted.holds)
shape_narrow shape.Sixteen k bytes small (size, is) = absurd (cc (is))
shape_narrow shape.ZeroEnded k bytes small ended = let is = ended.holds in absurd (cc (is))

-- WHAT THE SLOTS OF VALUES TELL

value_fits : (m : Meaning) (os : List Operation) → ((k : ℕ) → m ≡ InUnit k → k < 2 ^ 64) → ((bytes : List ℕ) → m ≡ Expression bytes → AreFitting (expression_aims os)) → AreFitting (value_aims m os)
value_fits (InUnit k) os local held = (local k refl, tt)
value_fits (Expression bytes) os local held = held bytes refl
value_fits m os local held = tt

values_fit : (f : Arena) (ops : ℕ → List Operation) → ((k : ℕ) → k < length f.values → AreFitting (value_aims (meaning_at f k) (ops k))) → (count : ℕ) → count ≤ length f.values → AreFitting (aims_before (meaning_at f) ops count)
values_fit f ops each zero within = tt
values_fit f ops each (suc k) within =
    fitting_append (aims_before (meaning_at f) ops k) (value_aims (meaning_at f k) (ops k)) (values_fit f ops each k (omega (arith, within))) (each k (omega (arith, within)))

fitting_at : (aims : List Aim) (i : ℕ) → AreFitting aims → IsFitting (aim_at aims i)
fitting_at [] i fit = omega arith
fitting_at (aim ∷ aims) zero (one, rest) = one
fitting_at (aim ∷ aims) (suc i) (one, rest) = fitting_at aims i rest

short_items : (section : List ℕ) (raws : List RawEntry) → AreShort (length section) (map (λ (raw : RawEntry). bytes_in section raw.expr) raws)
short_items section [] = tt
short_items section (raw ∷ raws) = (part_short raw.expr.len raw.expr.at section, short_items section raws)

module _ (written : List ℕ) (valid : IsValid written Wide) (s : Reading) (read : IsReading written s) (u : ℕ) (known : u < length s.links.units) (rows : List SlotRow) (sizes : List ℕ) (stand : HasStandingSlots s u rows sizes) where
  abbrev unit : UnitRead
  unit = unit_at s.links u

  unit_is : IsUnitRead (debug_info written) (debug_abbrev written) unit
  unit_is = unit_read written s u read known

  info_short : length unit.forest.section < 2 ^ 64
  info_short =
      let same : length unit.forest.section ≡ length (debug_info written) = ap length unit_is.section in
      let body : length (debug_info written) ≤ length written = body_short written (section_named written info_name) in
      omega (arith, same, body, file_short written Wide valid)

  lists_short : length s.links.locations.section < 2 ^ 64
  lists_short =
      let same : length s.links.locations.section ≡ length (debug_lists written Locations) = ap length (read.links.lists Locations).bytes_are in
      let body : length (debug_lists written Locations) ≤ length written = body_short written (section_named written (lists_name Locations)) in
      omega (arith, same, body, file_short written Wide valid)

  local_narrow : (k : ℕ) → k < length unit.forest.values → (n : ℕ) → meaning_at unit.forest k ≡ InUnit n → n < 2 ^ 64
  local_narrow k inside n is =
      let are : AreValueSizes unit k _ = stand.of_unit.are k inside in
      let stands : HasValueAt unit are.id k are.name are.meaning are.from = are.stands in
      let own = owners (debug_info written) (debug_abbrev written) unit unit_is in
      let column = column_of unit own are.id stands.known k are.name are.meaning are.from stands in
      let numbered = column_numbered unit own are.id stands.known k are.name are.meaning are.from stands in
      let means : are.meaning ≡ meaning_at unit.forest k = column.3 ∙ ap (λ (z : ℕ). meant_in unit.forest.section (value_at unit.forest.values z)) (sym numbered) in
      let bytes : List ℕ = bytes_between unit.forest.section are.from are.to in
      let spelled : SpellsValue stands.column.name stands.column.form stands.column.constant (InUnit n) bytes = subst (λ (z : Meaning). SpellsValue stands.column.name stands.column.form stands.column.constant z bytes) (means ∙ is) are.ends.spelled in
      shape_narrow (shape_of spelled.form stands.column.name stands.column.constant) n bytes spelled.small spelled.spelled

  held_fits : (k : ℕ) → k < length unit.forest.values → (bytes : List ℕ) → meaning_at unit.forest k ≡ Expression bytes → AreFitting (expression_aims (stand.slots.ops k))
  held_fits k inside bytes is =
      let (span, at) = expression_value unit.forest.section (value_at unit.forest.values k) bytes is in
      expression_fits (stand.slots.ops k) (bytes_in unit.forest.section span) (stand.slots.spelled k span (record { inside = inside; is = at })) (omega (arith, part_short span.len span.at unit.forest.section, info_short))

  own_fit : AreFitting (aims_of unit.forest stand.slots.ops)
  own_fit =
      values_fit unit.forest stand.slots.ops (λ k inside. value_fits (meaning_at unit.forest k) (stand.slots.ops k) (local_narrow k inside) (held_fits k inside)) (length unit.forest.values) (omega arith)

  listed_fit : AreFitting (flat_map expression_aims stand.slots.lists)
  listed_fit =
      expressions_fit (length s.links.locations.section) lists_short stand.slots.lists (list_expressions s stand.slots.owned) stand.slots.lists_spelled
      (short_flat (length s.links.locations.section) (λ (k : ℕ). expressions_at s.links Locations (list_at s.location_lists k)) (λ k. short_items s.links.locations.section _) stand.slots.owned)

  all_fit : AreFitting (all_aims unit.forest stand.slots.ops stand.slots.lists)
  all_fit = fitting_append (aims_of unit.forest stand.slots.ops) (flat_map expression_aims stand.slots.lists) own_fit listed_fit

  -- THE SIZES

  abbrev aim_of : ℕ → Aim
  aim_of i = aim_at (all_aims unit.forest stand.slots.ops stand.slots.lists) i

  ten_needed : (form : SlotForm) (n : ℕ) → n < 2 ^ 70 → need form n ≤ 10
  ten_needed uleb n below = (unsigned_lens.enough n 10).0 (record { some = omega arith; below = omega (arith, below) })
  ten_needed call n below = grind (arith, nat_tests)

  -- of sizes that have no more than ten bytes so many have no more than ten times as many
  range_few : (from count : ℕ) → ((j : ℕ) → from ≤ j → j < length sizes → get_or sizes j 0 ≤ 10) → sum (slice_range sizes from (from + count)) ≤ 10 * count
  range_few from count each =
      let n : ℕ = from + count - from in
      let same : n ≡ count = omega arith in
      let part : List ℕ = take n (drop from sizes) in
      let long = length-take n (drop from sizes) in
      let behind = length-drop from sizes in
      let few : All (λ (z : ℕ). z ≤ 10) part = All-from_get_or (λ (z : ℕ). z ≤ 10) part 0 (λ i less.
      subst (λ (z : ℕ). z ≤ 10) (sym (get_or-take n (drop from sizes) i 0 (omega (arith, long, less)) ∙ get_or-drop from sizes i 0)) (each (from + i) (omega arith) (omega (arith, long, behind, less)))) in
      omega (arith, sum_by-le (λ (z : ℕ). z) 10 part few, long, same)

  number_fits : (i : ℕ) (aim : Aim) (row : SlotRow) (place : ℕ) → IsFitting aim → ((form : SlotForm) (n : ℕ) → aim ≡ Place form n → place ≡ unit.head.at + n) → IsRowOf unit.forest stand.slots.ops (map (λ e. e.at) unit.forest.entries) sizes unit.head.at place i aim row → ((j : ℕ) → i < j → j < length sizes → get_or sizes j 0 ≤ 10) → slot_number sizes row < 2 ^ 70
  number_fits i (Place form n) row place fits told is later =
      let here = is.number in
      let at = told form n refl in
      omega (arith, here, at, fits)
  number_fits i (Length fixed count) row place fits told is later =
      let few = range_few (suc i) count (λ j less. later j (omega (arith, less))) in
      let same : slot_number sizes row ≡ fixed + sum (slice_range sizes (suc i) (suc i + count)) = ap (slot_number sizes) is in
      omega (arith, same, few, fits)

  told_place : (aim : Aim) (form : SlotForm) (n : ℕ) → aim ≡ Place form n → place_told unit.head.at aim ≡ unit.head.at + n
  told_place aim form n is = ap (place_told unit.head.at) is

  module _ (tight : IsTight rows sizes) where
    -- from the last slot on
    ten_from : (left i : ℕ) → length rows ≤ i + left → (j : ℕ) → i ≤ j → j < length sizes → get_or sizes j 0 ≤ 10
    ten_from zero i all j behind inside = let long = stand.can.each_slot in absurd (omega (arith, all, behind, inside, long))
    ten_from (suc left) i all j behind inside =
        let long = stand.can.each_slot in
        let here : j < length rows = omega (arith, inside, long) in
        let number = number_fits j (aim_of j) (row_at rows j) (place_told unit.head.at (aim_of j)) (fitting_at (all_aims unit.forest stand.slots.ops stand.slots.lists) j all_fit) (told_place (aim_of j)) (stand.slots.slots j here) (λ k less. ten_from left (suc i) (omega (arith, all)) k (omega (arith, behind, less))) in
        omega (arith, tight j here, ten_needed (row_at rows j).form (slot_number sizes (row_at rows j)) number)

    size_fits : (form : SlotForm) (size : ℕ) → CanHaveSize form size → size ≤ 10 → IsSlotSize form size
    size_fits uleb size can few = (can, few)
    size_fits call size can few = can

    sized : (i : ℕ) → i < length rows → IsSlotSize (row_at rows i).form (slice_index sizes i)
    sized i inside = size_fits (row_at rows i).form (slice_index sizes i) (stand.can.sized i inside) (ten_from (length rows) 0 (omega arith) i (omega arith) (let long = stand.can.each_slot in omega (arith, inside, long)))

  pub standing_least : (ranks : List ℕ) → AcceptsLayout rows sizes ranks → HasLeastStandingLayout s u
  standing_least ranks accepts =
      let tight : IsTight rows sizes = accepted_tight unsigned_lens rows sizes ranks stand.can accepts in
      let layout : IsLayout rows sizes = record {
        same_length = stand.can.each_slot;
        sized = sized tight;
        holds = λ i inside. (accepts.slots i inside).holds;
      }
      in
      record { rows = rows; sizes = sizes; stand = stand; least = accepted_least unsigned_lens rows sizes ranks stand.can accepts layout }

-- THE RECORD OF A UNIT

numbered : (n u : ℕ) → u < n → StandsAmong (AUnit u) (map AUnit (numbers_below n))
numbered zero u less = absurd (omega arith)
numbered (suc n) u less =
    let split : map AUnit (numbers_below n ++ n ∷ []) ≡ map AUnit (numbers_below n) ++ AUnit n ∷ [] = map-append AUnit (numbers_below n) (n ∷ []) in
    subst (λ (z : List Part). StandsAmong (AUnit u) z) (sym split) (elim (cases_lt u n) [
      | inl before ↦ among_more (AUnit u) (map AUnit (numbers_below n)) (AUnit n ∷ []) (numbered n u before)
      | inr last ↦ let same : u ≡ n = omega (arith, last, less) in (map AUnit (numbers_below n), [], ap (λ (z : ℕ). map AUnit (numbers_below n) ++ AUnit z ∷ []) (sym same))
    ])

-- that of a unit is ranks
ranks_of : (lines : List ℕ) (s : Reading) (u : ℕ) (one : Record) → SaysOf accepting lines s (AUnit u) one → (ranks : List ℕ) × AreStandingRanks AcceptsLayout s u ranks
ranks_of lines s u (OfLines runs) says = absurd says
ranks_of lines s u (OfList potentials) says = absurd says
ranks_of lines s u (OfLayout ranks) says = (ranks, says)

ranks_for : (classes : Classes) (written certificate : List ℕ) (is : IsAccepted classes written certificate) (u : ℕ) → u < length is.s.links.units → (ranks : List ℕ) × AreStandingRanks AcceptsLayout is.s u ranks
ranks_for classes written certificate is u known =
    let parts : AreParts classes is.s is.parts = is.judged.of_file in
    let units : List Part = map AUnit (numbers_below (length is.s.links.units)) in
    let located : StandsAmong (AUnit u) (map (AList Locations) parts.locations ++ units) = among_behind (AUnit u) (map (AList Locations) parts.locations) units (numbered (length is.s.links.units) u known) in
    let ranged : StandsAmong (AUnit u) (map (AList Ranges) parts.ranges ++ (map (AList Locations) parts.locations ++ units)) = among_behind (AUnit u) (map (AList Ranges) parts.ranges) (map (AList Locations) parts.locations ++ units) located in
    let all = among_behind (AUnit u) (map AProgram (numbers_below (program_count classes is.s))) (map (AList Ranges) parts.ranges ++ (map (AList Locations) parts.locations ++ units)) ranged in
    let (before, behind, split) = subst (StandsAmong (AUnit u)) (sym parts.whole) all in
    let (one, says) = said_of (SaysOf accepting (debug_line written) is.s) before behind (AUnit u) is.records (subst (λ (z : List Part). AllZip (SaysOf accepting (debug_line written) is.s) z is.records) split is.each) in
    ranks_of (debug_line written) is.s u one says

-- ALL UNITS

pub least_layouts : (classes : Classes) (written certificate : List ℕ) → IsValid written Wide → IsAccepted classes written certificate → HaveLeastStandingLayouts written
least_layouts classes written certificate valid is =
    let each : (u : ℕ) → u < length is.s.links.units → HasLeastStandingLayout is.s u = λ u known.
    let (ranks, standing) = ranks_for classes written certificate is u known in
    standing_least written valid is.s is.judged.read u known standing.0 standing.1 standing.2 ranks standing.3
    in
    (is.s, is.judged.read, each)
