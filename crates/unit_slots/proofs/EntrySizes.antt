-- The sizes of the slots of an entry's values, each of which stands where the one before it ends.
use Rattle.std.proofs.Common.{◌≡◌, ◌≤◌, ◌<◌, ◌+◌, ◌-◌, ◌∙◌, ◌++◌, ℕ, suc, List, [], ◌∷◌, length, get_or, take, drop, sum, sym, ap, subst, refl, arith, inl, inr}
use Rattle.std.specs.Prelude.{pos}
use Rattle.std.proofs.lemmas.Bool.{cases_lt}
use Rattle.std.proofs.lemmas.List.{append_assoc, append-nil, length-append, length-take-le, length-drop, drop_more, drop-drop, take_more, take-append-drop, get_or-drop, get_or-take, get_or_append_left, get_or-append-add}
use Rattle.std.proofs.Math.Seq.{drop-length}
use Rattle.std.proofs.lemmas.List.Concat.{flat_map-append}
use Rattle.leb_codec.specs.Leb.{Uleb}
use Rattle.expr_ops.specs.Expressions.{Operation}
use Rattle.form_codec.specs.declared.value.Value.{Value}
use Rattle.form_codec.specs.declared.value.Value.TheVariants as value
use Rattle.form_codec.specs.Forms.{Meaning, SpellsValue}
use Rattle.form_codec.specs.Values.{meant_in, IsPlaced}
use Rattle.abbrev_tables.specs.declared.decl.Spec.{Spec}
use Rattle.abbrev_tables.specs.Listings.{spec_at}
use Rattle.entry_arena.specs.declared.entry.Entry.{Entry}
use Rattle.entry_arena.specs.Arena.{value_at}
use Rattle.entry_arena.specs.Standing.{StandsAs}
use Rattle.entry_arena.specs.Trees.{SpellsBetween, ValuesBetween}
use Rattle.entry_read.specs.Places.{HaveOwners}
use Rattle.entry_read.specs.Slots.{value_aims, aims_before, meaning_at}
use Rattle.entry_read.specs.Units.{IsUnitHeld}
use Rattle.entry_read.proofs.OwnerLaws.{values_belong}
use Rattle.entry_read.proofs.Parts.{values_push}
use Rattle.entry_read.proofs.PlaceLaws.{entry_stands}
use Rattle.value_links.specs.Reading.{UnitRead, declarations}
use Rattle.value_links.specs.Values.{entry_of, declaration_of, values_of, HasValueAt}
use Rattle.unit_slots.specs.Standing.{AreMeaningSizes, AreValueSizes, all_sizes}
use Rattle.unit_slots.specs.inside.Added.{AddsSizes, GoesOn, CanHaveSizes, HasValueSizes}
use Rattle.unit_slots.specs.inside.Own.{AreSizesBefore, StandUpTo}
use Rattle.unit_slots.proofs.ExpressionSizes.{zip_append, sum_append}

-- SIZES OF ONE VALUE MORE

module _ (unit : UnitRead) (ops : ℕ → List Operation) where
  pub none_before : AreSizesBefore unit ops 0 []
  none_before = record { each = []; counted = refl; are = λ number inside. absurd (omega (arith, inside)); whole = refl; can = tt }

  module _ (n : ℕ) (old added : List ℕ) (before : AreSizesBefore unit ops n old) (one : AreValueSizes unit n added) where
    abbrev each : List (List ℕ)
    each = before.each ++ added ∷ []

    here : (k : ℕ) → k ≡ n → get_or each k [] ≡ added
    here k is =
        let place : k ≡ length before.each + 0 = omega (arith, is, before.counted) in
        ap (λ (z : ℕ). get_or each z []) place ∙ get_or-append-add before.each (added ∷ []) 0 []

    are_all : (k : ℕ) → k < suc n → AreValueSizes unit k (get_or each k [])
    are_all k inside = elim (cases_lt k n) [
      | inl less ↦
          let same : get_or each k [] ≡ get_or before.each k [] = get_or_append_left before.each (added ∷ []) [] k (omega (arith, less, before.counted)) in
          subst (AreValueSizes unit k) (sym same) (before.are k less)
      | inr most ↦
          let is : k ≡ n = omega (arith, inside, most) in
          subst (AreValueSizes unit k) (sym (here k is)) (subst (λ (z : ℕ). AreValueSizes unit z added) (sym is) one)
    ]

    pub one_more : (new : List ℕ) → new ≡ old ++ added → CanHaveSizes (value_aims (meaning_at unit.forest n) (ops n)) added → AreSizesBefore unit ops (suc n) new
    one_more new is can = record {
      each = each;
      counted = (let size : length each ≡ length before.each + 1 = length-append before.each (added ∷ []) in omega (arith, size, before.counted));
      are = are_all;
      whole = is ∙ ap (λ (z : List ℕ). z ++ added) before.whole ∙ ap (λ (z : List ℕ). all_sizes before.each ++ z) (sym (append-nil added)) ∙ sym (flat_map-append (λ (z : List ℕ). z) before.each (added ∷ []));
      can = subst (CanHaveSizes (aims_before (meaning_at unit.forest) ops (suc n))) (sym is) (zip_append _ (aims_before (meaning_at unit.forest) ops n) (value_aims (meaning_at unit.forest n) (ops n)) old added before.can can);
    }

-- THE VALUES OF AN ENTRY

-- the first of the values of columns
record HasFirst (section : List ℕ) (c : Spec) (cs : List Spec) (vs : List Value) (from to : ℕ) : Type 0 where
  value : Value
  later : List Value
  values : vs ≡ value ∷ later
  next : ℕ
  spelled : SpellsBetween (SpellsValue c.name c.form c.constant (meant_in section value)) section from next
  placed : IsPlaced value from next
  rest : ValuesBetween section cs later next to

first_of : (section : List ℕ) (c : Spec) (cs : List Spec) (vs : List Value) (from to : ℕ) → ValuesBetween section (c ∷ cs) vs from to → HasFirst section c cs vs from to
first_of section c cs [] from to none = absurd none
first_of section c cs (v ∷ vs) from to (next, spelled, placed, rest) = record { value = v; later = vs; values = refl; next = next; spelled = spelled; placed = placed; rest = rest }

-- the first so many values of an entry stand up to a place, and their sizes are added
pub record HaveCome (unit : UnitRead) (ops : ℕ → List Operation) (id k from : ℕ) (old new : List ℕ) : Type 0 where
  pub stand : StandUpTo unit id k from
  pub sized : AreSizesBefore unit ops ((entry_of unit id).first + k) new
  pub room : sum new + (entry_of unit id).at ≤ sum old + from
  pub behind : GoesOn old new

ended : (section : List ℕ) (vs : List Value) (from to : ℕ) → ValuesBetween section [] vs from to → from ≡ to
ended section [] from to same = same
ended section (v ∷ vs) from to none = absurd none

module _ (unit : UnitRead) (held : IsUnitHeld unit.forest.section unit.head (declarations unit) unit.forest) (id : ℕ) (inside : id < length unit.forest.entries) where
  abbrev section : List ℕ
  section = unit.forest.section

  abbrev entry : Entry
  entry = entry_of unit id

  abbrev columns : List Spec
  columns = (declaration_of unit id).columns

  abbrev values : List Value
  values = values_of unit id

  owners : HaveOwners (declarations unit) unit.forest
  owners = values_belong section unit.head (declarations unit) unit.forest refl held

  stands : StandsAs section (declarations unit) unit.forest.values entry
  stands = entry_stands section unit.head (declarations unit) unit.forest refl held id inside

  pub declared : entry.decl < length (declarations unit)
  declared = owners.declared id inside

  pub code_there : (code : ℕ) × (to : ℕ) × SpellsBetween (Uleb code) section entry.at to
  code_there = ((declaration_of unit id).code, stands.values_at, stands.coded)

  pub stand_first : (from : ℕ) → ((code to : ℕ) → SpellsBetween (Uleb code) section entry.at to → from ≡ to) → StandUpTo unit id 0 from
  stand_first from ends =
      let here : from ≡ stands.values_at = ends (declaration_of unit id).code stands.values_at stands.coded in
      record {
        values_at = stands.values_at;
        behind = stands.coded.order;
        coded = stands.coded;
        valued = sym here;
        rest = subst (λ (z : ℕ). ValuesBetween section columns values z (entry.at + entry.len)) (sym here) stands.valued;
      }

  counted : entry.count ≡ length columns
  counted = owners.counted id inside

  values_long : length values ≡ entry.count
  values_long =
      let all : entry.first + entry.count ≤ length unit.forest.values = owners.inside id inside in
      let room : length (drop entry.first unit.forest.values) ≡ length unit.forest.values - entry.first = length-drop entry.first unit.forest.values in
      length-take-le entry.count (drop entry.first unit.forest.values) (omega (arith, all, room))

  module _ (k from : ℕ) (below : k < length columns) (so : StandUpTo unit id k from) where
    abbrev c : Spec
    c = spec_at columns k

    columns_more : drop k columns ≡ c ∷ drop (k + 1) columns
    columns_more = drop_more columns k (record { name = 0; form = 0; constant = pos 0 }) below

    first : HasFirst section c (drop (k + 1) columns) (drop k values) from (entry.at + entry.len)
    first = first_of section c (drop (k + 1) columns) (drop k values) from (entry.at + entry.len) (subst (λ (z : List Spec). ValuesBetween section z (drop k values) from (entry.at + entry.len)) columns_more so.rest)

    pub known : entry.first + k < length unit.forest.values
    known = let all : entry.first + entry.count ≤ length unit.forest.values = owners.inside id inside in let size = counted in omega (arith, all, size, below)

    pub value_there : (meaning : Meaning) × (next : ℕ) × SpellsBetween (SpellsValue c.name c.form c.constant meaning) section from next
    value_there = (meant_in section first.value, first.next, first.spelled)

    later_is : first.later ≡ drop (k + 1) values
    later_is = sym (ap (drop 1) first.values) ∙ drop-drop 1 k values

    value_is : first.value ≡ value_at unit.forest.values (entry.first + k)
    value_is =
        let size = counted in
        let here : get_or (drop k values) 0 (value.Addr 0) ≡ get_or values k (value.Addr 0) = get_or-drop k values 0 (value.Addr 0) ∙ ap (λ (z : ℕ). get_or values z (value.Addr 0)) (less k) in
        let there : get_or values k (value.Addr 0) ≡ get_or (drop entry.first unit.forest.values) k (value.Addr 0) = get_or-take entry.count (drop entry.first unit.forest.values) k (value.Addr 0) (omega (arith, size, below)) in
        sym (ap (λ (z : List Value). get_or z 0 (value.Addr 0)) first.values) ∙ here ∙ there ∙ get_or-drop entry.first unit.forest.values k (value.Addr 0)
      where
        less : (k : ℕ) → k + 0 ≡ k
        less k = omega arith

    module _ (to : ℕ) (ends : (meaning : Meaning) (next : ℕ) → SpellsBetween (SpellsValue c.name c.form c.constant meaning) section from next → to ≡ next) where
      end_is : to ≡ first.next
      end_is = ends (meant_in section first.value) first.next first.spelled

      spelled : SpellsBetween (SpellsValue c.name c.form c.constant (meant_in section first.value)) section from to
      spelled = subst (λ (z : ℕ). SpellsBetween (SpellsValue c.name c.form c.constant (meant_in section first.value)) section from z) (sym end_is) first.spelled

      pub stands_here : SpellsBetween (SpellsValue c.name c.form c.constant (meaning_at unit.forest (entry.first + k))) section from to
      stands_here = subst (λ (v : Value). SpellsBetween (SpellsValue c.name c.form c.constant (meant_in section v)) section from to) value_is spelled

      pub placed_here : IsPlaced (value_at unit.forest.values (entry.first + k)) from to
      placed_here = subst (λ (v : Value). IsPlaced v from to) value_is (subst (λ (z : ℕ). IsPlaced first.value from z) (sym end_is) first.placed)

      columns_front : take (k + 1) columns ≡ take k columns ++ c ∷ []
      columns_front = take_more columns k (record { name = 0; form = 0; constant = pos 0 }) below

      values_split : values ≡ take k values ++ first.value ∷ drop (k + 1) values
      values_split = sym (take-append-drop k values) ∙ ap (λ (z : List Value). take k values ++ z) (first.values ∙ ap (λ (z : List Value). first.value ∷ z) later_is)

      value_read : first.value ≡ get_or values k (value.Addr 0)
      value_read = sym (ap (λ (z : List Value). get_or z 0 (value.Addr 0)) first.values) ∙ get_or-drop k values 0 (value.Addr 0) ∙ ap (λ (z : ℕ). get_or values z (value.Addr 0)) (less k)
        where
          less : (k : ℕ) → k + 0 ≡ k
          less k = omega arith

      values_front : take (k + 1) values ≡ take k values ++ first.value ∷ []
      values_front =
          let size = counted in
          let long = values_long in
          take_more values k (value.Addr 0) (omega (arith, size, long, below)) ∙ ap (λ (v : Value). take k values ++ v ∷ []) (sym value_read)

      valued_on : ValuesBetween section (take (k + 1) columns) (take (k + 1) values) so.values_at to
      valued_on =
          let pushed : ValuesBetween section (take k columns ++ c ∷ []) (take k values ++ first.value ∷ []) so.values_at to = values_push section (take k columns) (take k values) c first.value so.values_at from to so.valued spelled (subst (λ (z : ℕ). IsPlaced first.value from z) (sym end_is) first.placed) in
          subst (λ (z : List Spec). ValuesBetween section z (take (k + 1) values) so.values_at to) (sym columns_front) (subst (λ (z : List Value). ValuesBetween section (take k columns ++ c ∷ []) z so.values_at to) (sym values_front) pushed)

      pub stand_on : StandUpTo unit id (k + 1) to
      stand_on = record {
        values_at = so.values_at;
        behind = so.behind;
        coded = so.coded;
        valued = valued_on;
        rest = subst (λ (z : List Value). ValuesBetween section (drop (k + 1) columns) z to (entry.at + entry.len)) later_is (subst (λ (z : ℕ). ValuesBetween section (drop (k + 1) columns) first.later z (entry.at + entry.len)) (sym end_is) first.rest);
      }

      has_value : HasValueAt unit id (entry.first + k) c.name (meant_in section first.value) from
      has_value =
          let size = counted in
          let long = values_long in
          record {
            known = inside;
            earlier_columns = take k columns;
            column = c;
            later_columns = drop (k + 1) columns;
            columns = sym (take-append-drop k columns) ∙ ap (λ (z : List Spec). take k columns ++ z) columns_more;
            earlier = take k values;
            value = first.value;
            later = drop (k + 1) values;
            values = values_split;
            numbered = ap (λ (z : ℕ). entry.first + z) (sym (length-take-le k values (omega (arith, size, long, below))));
            values_at = so.values_at;
            coded = so.coded;
            valued = so.valued;
            named = refl;
            meant = refl;
          }

      pub sizes_here : (added : List ℕ) → AreMeaningSizes section from to (meaning_at unit.forest (entry.first + k)) added → AreValueSizes unit (entry.first + k) added
      unfolding has_value
      sizes_here added are = record {
        id = id;
        name = c.name;
        meaning = meant_in section first.value;
        from = from;
        stands = has_value;
        to = to;
        ends = spelled;
        are = subst (λ (v : Value). AreMeaningSizes section from to (meant_in section v) added) (sym value_is) are;
      }

  module _ (ops : ℕ → List Operation) where
    pub come_first : (from : ℕ) (old : List ℕ) → ((code to : ℕ) → SpellsBetween (Uleb code) section entry.at to → from ≡ to) → AreSizesBefore unit ops entry.first old → HaveCome unit ops id 0 from old old
    come_first from old ends before =
        let stand : StandUpTo unit id 0 from = stand_first from ends in
        let behind = stand.behind in
        let here : stand.values_at ≡ from = stand.valued in
        record {
          stand = stand;
          sized = subst (λ (n : ℕ). AreSizesBefore unit ops n old) (more entry.first) before;
          room = omega (arith, behind, here);
          behind = record { added = []; behind = sym (append-nil old); are = tt };
        }
      where
        more : (n : ℕ) → n ≡ n + 0
        more n = omega arith

    pub come_on : (k from : ℕ) (old mid new : List ℕ) → k < length columns → (come : HaveCome unit ops id k from old mid) → (to : ℕ) → ((meaning : Meaning) (next : ℕ) → SpellsBetween (SpellsValue (spec_at columns k).name (spec_at columns k).form (spec_at columns k).constant meaning) section from next → to ≡ next) → AddsSizes (HasValueSizes section from to (meaning_at unit.forest (entry.first + k)) (ops (entry.first + k))) mid new → HaveCome unit ops id (k + 1) to old new
    come_on k from old mid new below come to ends adds =
        let value : AreValueSizes unit (entry.first + k) adds.added = sizes_here k from below come.stand to ends adds.added adds.are.are in
        let total : sum new ≡ sum mid + sum adds.added = ap sum adds.behind ∙ sum_append mid adds.added in
        let before = come.room in
        let own = adds.are.room in
        record {
          stand = stand_on k from below come.stand to ends;
          sized = subst (λ (n : ℕ). AreSizesBefore unit ops n new) (more entry.first k) (one_more unit ops (entry.first + k) mid adds.added come.sized value new adds.behind adds.are.can);
          room = omega (arith, total, before, own);
          behind = record {
            added = come.behind.added ++ adds.added;
            behind = adds.behind ∙ ap (λ (z : List ℕ). z ++ adds.added) come.behind.behind ∙ append_assoc old come.behind.added adds.added;
            are = tt;
          };
        }
      where
        more : (n k : ℕ) → suc (n + k) ≡ n + (k + 1)
        more n k = omega arith

    module _ (k from : ℕ) (old new : List ℕ) (whole : k ≡ length columns) (come : HaveCome unit ops id k from old new) where
      pub all_sized : AreSizesBefore unit ops (entry.first + entry.count) new
      all_sized = subst (λ (n : ℕ). AreSizesBefore unit ops (entry.first + n) new) (whole ∙ sym counted) come.sized

      pub all_room : sum new ≤ sum old + entry.len
      all_room =
          let none : drop k columns ≡ [] = ap (λ (n : ℕ). drop n columns) whole ∙ drop-length columns in
          let end : from ≡ entry.at + entry.len = ended section (drop k values) from (entry.at + entry.len) (subst (λ (z : List Spec). ValuesBetween section z (drop k values) from (entry.at + entry.len)) none come.stand.rest) in
          let room = come.room in
          omega (arith, end, room)
