-- The expressions of a unit are no longer than the unit.
use Rattle.std.proofs.Common.{◌≡◌, ◌≤◌, ◌<◌, ◌+◌, ◌-◌, ◌^◌, ℕ, zero, suc, List, [], ◌∷◌, length, get_or, replicate, take, drop, ◌∙◌, ap, refl, subst, arith}
use Rattle.std.proofs.lemmas.List.{get_or-take, get_or-drop, length-drop, length-take-le, length-replicate}
use Rattle.spelled.proofs.Parts.{length_part}
use Rattle.dw_base.specs.declared.fault.Span.{Span}
use Rattle.form_codec.specs.declared.value.Value.{Value}
use Rattle.form_codec.specs.declared.value.Value.TheVariants as value
use Rattle.form_codec.specs.Forms.{shape_of}
use Rattle.form_codec.specs.Forms.Meaning.{Expression}
use Rattle.form_codec.specs.Values.{bytes_in}
use Rattle.abbrev_tables.specs.declared.decl.Spec.{Spec}
use Rattle.abbrev_tables.specs.Listings.{Listing}
use Rattle.entry_arena.specs.Arena.{Arena, entry_at, value_at}
use Rattle.entry_arena.specs.Order.{ComesAfterAll}
use Rattle.entry_arena.specs.Standing.{StandsAs}
use Rattle.entry_arena.specs.Trees.{ValuesBetween, bytes_between, listed_to}
use Rattle.entry_arena.specs.Walks.{IsWhole}
use Rattle.entry_arena.proofs.Between.{length_between}
use Rattle.entry_arena.proofs.WalkPlaces.{walked_orderly}
use Rattle.entry_read.specs.Units.{HeadAndForest, entries_at, end_of, declarations_of}
use Rattle.entry_read.proofs.OwnerLaws.{values_belong}
use Rattle.entry_read.proofs.PlaceLaws.{units_lie}
use Rattle.unit_write.specs.Taken.{IsHeldFor}
use Rattle.unit_write.specs.Lens.{AreLensFor}
use Rattle.unit_write.specs.Most.{most_bytes}
use Rattle.unit_write.specs.Moved.{IsWritable}
use Rattle.unit_write.specs.inside.Marks.{AreShort}
use Rattle.unit_write.proofs.MostLaws.{spelled_len}
use Rattle.unit_write.proofs.Standing.{as_read, whole_walk, read_stands}
use Rattle.unit_write.proofs.TakenUnits.{same_expression, as_many, taken_at}

abbrev expr_len : Value → ℕ
expr_len (value.Expr span) = span.len
expr_len v = 0

values_rise : (section : List ℕ) (cs : List Spec) (vs : List Value) (from to : ℕ) → ValuesBetween section cs vs from to → from ≤ to
values_rise section [] [] from to p = omega (arith, p)
values_rise section [] (v ∷ vs) from to p = absurd p
values_rise section (c ∷ cs) [] from to p = absurd p
values_rise section (c ∷ cs) (v ∷ vs) from to (next, spelled, placed, more) =
    let here : from ≤ next = spelled.order in
    let rest : next ≤ to = values_rise section cs vs next to more in
    omega arith

-- the bytes of an expression stand among those of the values around it
span_between : (section : List ℕ) (cs : List Spec) (vs : List Value) (from to j : ℕ) (span : Span) → ValuesBetween section cs vs from to → j < length vs → value_at vs j ≡ value.Expr span → from + span.len ≤ to
span_between section [] [] from to j span p lt is = absurd (omega arith)
span_between section [] (v ∷ vs) from to j span p lt is = absurd p
span_between section (c ∷ cs) [] from to j span p lt is = absurd p
span_between section (c ∷ cs) (value.Expr own ∷ vs) from to zero span (next, spelled, placed, more) lt is =
    let same : own.len ≡ span.len = ap (λ (v : Value). expr_len v) is in
    let held : length (bytes_in section own) ≤ length (bytes_between section from next) = spelled_len (shape_of spelled.spelled.form c.name c.constant) (Expression (bytes_in section own)) (bytes_between section from next) spelled.spelled.spelled in
    let old : length (bytes_between section from next) ≡ next - from = length_between section from next spelled.inside in
    let end : own.at + own.len ≡ next = placed in
    let inside : next ≤ length section = spelled.inside in
    let long : length (bytes_in section own) ≡ own.len = length_part own.at own.len section (omega arith) in
    let order : from ≤ next = spelled.order in
    let rest : next ≤ to = values_rise section cs vs next to more in
    omega arith
span_between section (c ∷ cs) (v ∷ vs) from to zero span p lt is = absurd (cc (is))
span_between section (c ∷ cs) (v ∷ vs) from to (suc j) span (next, spelled, placed, more) lt is =
    let here : from ≤ next = spelled.order in
    let rest : next + span.len ≤ to = span_between section cs vs next to j span more (omega arith) is in
    omega arith

module _ (unit : HeadAndForest) (table : Listing) (held : IsHeldFor unit table) (room : most_bytes unit < 2 ^ 31) where
  end : ℕ
  end = held.held.0

  whole : IsWhole unit.forest.section (declarations_of table) (entries_at unit.head) (listed_to (as_read unit table held) end)
  unfolding end
  whole = whole_walk unit table held

  entries_end : ComesAfterAll unit.forest.entries unit.forest.ends end
  entries_end = (walked_orderly unit.forest.section (declarations_of table) (entries_at unit.head) whole.items (listed_to (as_read unit table held) end) [] whole.walked).after

  pub are_short : AreShort unit.forest
  unfolding end
  are_short k span is =
      let f : Arena = as_read unit table held in
      let known : k < length f.values = subst (λ (n : ℕ). k < n) (as_many unit table held) is.inside in
      let there : value_at f.values k ≡ value.Expr span = same_expression unit.head (value_at f.values k) (value_at unit.forest.values k) span (taken_at unit table held k is.inside) is.is in
      let owner = (values_belong f.section unit.head (declarations_of table) f refl held.held).owned k known in
      let id : ℕ = owner.0 in
      let inside : id < length f.entries = owner.1 in
      let first : ℕ = (entry_at f.entries id).first in
      let count : ℕ = (entry_at f.entries id).count in
      let from : first ≤ k = owner.2 in
      let below : k < first + count = owner.3 in
      let lies = units_lie f.section unit.head (declarations_of table) f refl held.held in
      let begins : entries_at unit.head ≤ (entry_at f.entries id).at = (lies.entries id (entry_at f.entries id).at (inside, refl)).0 in
      let ends : (entry_at f.entries id).at + (entry_at f.entries id).len ≤ held.held.0 = entries_end.entered id inside in
      let within : held.held.0 ≤ end_of unit.head = held.held.1.inside in
      let stands : StandsAs f.section (declarations_of table) f.values (entry_at f.entries id) = read_stands unit table held id inside in
      let code : (entry_at f.entries id).at ≤ stands.values_at = stands.coded.order in
      let all : first + count ≤ length f.values = lies.order.valued.inside id inside in
      let left : length (drop first f.values) ≡ length f.values - first = length-drop first f.values in
      let size : length (take count (drop first f.values)) ≡ count = length-take-le count (drop first f.values) (omega arith) in
      let e : first + (k - first) ≡ k = omega arith in
      let here : value_at (take count (drop first f.values)) (k - first) ≡ value.Expr span = get_or-take count (drop first f.values) (k - first) _ (omega arith) ∙ get_or-drop first f.values (k - first) _ ∙ ap (value_at f.values) e ∙ there in
      let fits : stands.values_at + span.len ≤ (entry_at f.entries id).at + (entry_at f.entries id).len = span_between f.section _ (take count (drop first f.values)) stands.values_at _ (k - first) span stands.valued (omega arith) here in
      omega (arith, room, begins, ends, within, code, fits)

-- a unit that can be written with any lengths is held
pub held_of : (unit : HeadAndForest) (table : Listing) (columns : List Spec) (numbers : List ℕ) → ((lens : List ℕ) → AreLensFor unit.forest lens → IsWritable unit table columns numbers lens) → IsHeldFor unit table
held_of unit table columns numbers writable = (writable (replicate (length unit.forest.values) 0) (record {
  each = length-replicate (length unit.forest.values) 0;
  few = λ k span is. let none : get_or (replicate (length unit.forest.values) 0) k 0 ≡ 0 = zero_at (length unit.forest.values) k in omega arith;
  narrow = λ k lt local. let none : get_or (replicate (length unit.forest.values) 0) k 0 ≡ 0 = zero_at (length unit.forest.values) k in omega arith;
})).held
  where
    zero_at : (n k : ℕ) → get_or {A = ℕ} (replicate n 0) k 0 ≡ 0
    zero_at zero k = refl
    zero_at (suc n) zero = refl
    zero_at (suc n) (suc k) = zero_at n k

-- so its expressions are short
pub short_of : (unit : HeadAndForest) (table : Listing) (columns : List Spec) (numbers : List ℕ) → ((lens : List ℕ) → AreLensFor unit.forest lens → IsWritable unit table columns numbers lens) → most_bytes unit < 2 ^ 31 → AreShort unit.forest
short_of unit table columns numbers writable room = are_short unit table (held_of unit table columns numbers writable) room
