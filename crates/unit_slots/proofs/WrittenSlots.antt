-- The slots of a file that is written anew stand in the bytes that their numbers need.
use Rattle.std.proofs.Common.{◌≡◌, ◌≤◌, ◌<◌, ◌+◌, ◌∙◌, ◌++◌, ℕ, zero, suc, List, [], ◌∷◌, length, ap, refl, arith}
use Rattle.std.specs.Prelude.{flat_map}
use Rattle.std.proofs.lemmas.List.{length-append}
use Rattle.dw_base.specs.declared.fault.Reach.TheVariants.{Wide}
use Rattle.dw_base.specs.declared.fault.Span.{Span}
use Rattle.leb_codec.specs.Layout.{SlotRow, need}
use Rattle.leb_codec.proofs.Lens.{least_unsigned}
use Rattle.expr_ops.specs.Expressions.{Operation, IsExpression}
use Rattle.expr_ops.specs.Slots.{Aim, expression_aims}
use Rattle.expr_ops.specs.Slots.Aim.{Place, Length}
use Rattle.form_codec.specs.Forms.{Meaning}
use Rattle.form_codec.specs.Forms.Meaning.{Expression, InUnit}
use Rattle.form_codec.specs.Values.{bytes_in}
use Rattle.entry_arena.specs.Arena.{value_at}
use Rattle.entry_read.specs.Expressions.{IsExprAt}
use Rattle.entry_read.specs.Slots.{value_aims, aims_before, aims_of, meaning_at}
use Rattle.list_model.specs.declared.entry.ListKind.TheVariants.{Locations}
use Rattle.value_links.specs.Reading.{UnitRead, Reading, no_unit, unit_at}
use Rattle.value_links.specs.Sections.{debug_info, debug_abbrev}
use Rattle.value_links.proofs.EntryValues.{value_stands}
use Rattle.value_links.proofs.HeldUnits.{unit_is, unit_owners}
use Rattle.written_files.specs.Layouts.{HasLayout}
use Rattle.written_files.specs.Tidy.{AreTidy}
use Rattle.written_files.specs.inside.Counterparts.{AreAnew}
use Rattle.written_files.specs.inside.Laws.{AreLaws}
use Rattle.unit_slots.specs.Laws.{WrittenSlotsStand, LeastLayoutsStand}
use Rattle.unit_slots.specs.Standing.{AreValueSizes, AreUnitSizes, HasStandingSlots}
use Rattle.unit_slots.specs.inside.Added.{CanHaveSizes}
use Rattle.unit_slots.specs.inside.Own.{AreSizesBefore}
use Rattle.unit_slots.proofs.EntrySizes.{none_before, one_more}
use Rattle.unit_slots.proofs.RowLaws.{IsWithin, AreWithin, expression_within}
use Rattle.unit_slots.proofs.WrittenItems.{list_short}
use Rattle.unit_slots.proofs.WrittenLists.{own_needs, listed_stand}
use Rattle.unit_slots.proofs.WrittenNeeds.{needs, needs_append, needs_expressions, can_need, layout_needs, layout_can}
use Rattle.unit_slots.proofs.WrittenValues.{value_written, meaning_stands}

-- THE SLOTS OF A UNIT'S VALUES

-- what is needed is what a slot can have
can_needs : (aims : List Aim) → CanHaveSizes aims (needs aims)
can_needs [] = tt
can_needs (Place form n ∷ aims) = (can_need form (need form n) n refl, can_needs aims)
can_needs (Length fixed count ∷ aims) = ((least_unsigned _).enough.some, can_needs aims)

-- a length that counts no more slots than follow counts no more where more follow
within_longer : (n m : ℕ) (aim : Aim) → n ≤ m → IsWithin n aim → IsWithin m aim
within_longer n m (Place form k) le within = tt
within_longer n m (Length fixed count) le within = omega (arith, le, within)

-- where no length of two parts counts more slots than follow in its part, none does in both together
within_append : (xs ys : List Aim) → AreWithin xs → AreWithin ys → AreWithin (xs ++ ys)
within_append [] ys one other = other
within_append (x ∷ xs) ys one other =
    let size : length (xs ++ ys) ≡ length xs + length ys = length-append xs ys in
    (within_longer (length xs) (length (xs ++ ys)) x (omega (arith, size)) one.0, within_append xs ys one.1 other)

value_within : (meaning : Meaning) (os : List Operation) → AreWithin (value_aims meaning os)
value_within (InUnit n) os = (tt, tt)
value_within (Expression bytes) os = expression_within os
value_within meaning os = tt

module _ (unit : UnitRead) (ops : ℕ → List Operation) where
  values_within : (n : ℕ) → AreWithin (aims_before (meaning_at unit.forest) ops n)
  values_within zero = tt
  values_within (suc n) = within_append (aims_before (meaning_at unit.forest) ops n) (value_aims (meaning_at unit.forest n) (ops n)) (values_within n) (value_within (meaning_at unit.forest n) (ops n))

  -- the sizes of the first values are those that they need, where those of each are
  first_stand : (n : ℕ) → ((k : ℕ) → k < n → AreValueSizes unit k (needs (value_aims (meaning_at unit.forest k) (ops k)))) → AreSizesBefore unit ops n (needs (aims_before (meaning_at unit.forest) ops n))
  first_stand zero each = none_before unit ops
  first_stand (suc n) each =
      let aims : List Aim = aims_before (meaning_at unit.forest) ops n in
      let own : List Aim = value_aims (meaning_at unit.forest n) (ops n) in
      one_more unit ops n (needs aims) (needs own) (first_stand n (λ k inside. each k (omega (arith, inside)))) (each n (omega arith)) (needs (aims ++ own)) (needs_append aims own (values_within n)) (can_needs own)

  pub unit_stands : ((k : ℕ) → k < length unit.forest.values → AreValueSizes unit k (needs (value_aims (meaning_at unit.forest k) (ops k)))) → AreUnitSizes unit (needs (aims_of unit.forest ops))
  unit_stands each =
      let sized = first_stand (length unit.forest.values) each in
      record { each = sized.each; count = sized.counted; are = λ number known. sized.are number known; whole = sized.whole }

-- A FILE THAT IS WRITTEN ANEW

module _ (laws : AreLaws) (file written : List ℕ) (r s : Reading) (new : AreAnew file written r s) where
  tidy : AreTidy (debug_abbrev written) r s
  tidy = laws.holds (AreTidy (debug_abbrev written)) file written r s new.read new.again new.anew.tidy

  module _ (u : ℕ) (known : u < length s.links.units) (ops : ℕ → List Operation) (spelled : (k : ℕ) (span : Span) → IsExprAt (unit_at s.links u).forest k span → IsExpression Wide (ops k) (bytes_in (unit_at s.links u).forest.section span)) where
    value_sized : (k : ℕ) → k < length (unit_at s.links u).forest.values → AreValueSizes (unit_at s.links u) k (needs (value_aims (meaning_at (unit_at s.links u).forest k) (ops k)))
    value_sized k inside =
        let unit : UnitRead = unit_at s.links u in
        let is = unit_is (debug_info written) (debug_abbrev written) s.links.units new.again.links.units u known in
        let owners = unit_owners (debug_info written) (debug_abbrev written) s.links.units new.again.links.units u known in
        let (id, name, place, stands) = value_stands (debug_info written) (debug_abbrev written) unit is owners k inside in
        let short = (tidy.units u no_unit known).short id stands.known in
        let (to, written_there) = value_written unit id k name place (meaning_at unit.forest k) stands short in
        record {
          id = id;
          name = name;
          meaning = meaning_at unit.forest k;
          from = place;
          stands = stands;
          to = to;
          ends = record { order = written_there.order; inside = written_there.inside; spelled = written_there.spelled.0 };
          are = meaning_stands laws unit.forest.section (ops k) place to stands.column.name stands.column.form (value_at unit.forest.values k)
              (laws.written_forms file written r s new u id k name (meaning_at unit.forest k) place known stands)
              (record { order = written_there.order; inside = written_there.inside; spelled = written_there.spelled.1 })
              (λ span here. (laws.entries_fewest file written r s new u k span known (record { inside = inside; is = here }), spelled k span (record { inside = inside; is = here })));
        }

  -- the sizes that the numbers of a unit's slots need are those that they have
  pub slots_stand : (u : ℕ) → u < length s.links.units → (rows : List SlotRow) (sizes : List ℕ) → HasLayout s u rows sizes → HasStandingSlots s u rows sizes
  slots_stand u known rows sizes layout =
      let made = layout.made in
      let unit : UnitRead = unit_at s.links u in
      let own : List ℕ = needs (aims_of unit.forest made.ops) in
      let listed : List ℕ = flat_map own_needs made.lists in
      let short = λ (k : ℕ) (there : k < length s.location_lists). list_short s k ((new.again.lists Locations).each k there) (laws.lists_stand file written r s new Locations k there) in
      let few = λ (k : ℕ) (there : k < length s.location_lists). laws.lists_fewest file written r s new k there in
      let whole : needs (aims_of unit.forest made.ops ++ flat_map expression_aims made.lists) ≡ own ++ needs (flat_map expression_aims made.lists) = needs_append (aims_of unit.forest made.ops) (flat_map expression_aims made.lists) (values_within unit made.ops (length unit.forest.values)) in
      record {
        slots = made;
        own = own;
        of_unit = unit_stands unit made.ops (value_sized u known made.ops made.spelled);
        owned = made.owned;
        owns = made.owns;
        listed = listed;
        of_lists = listed_stand laws s short few made.owned made.lists (λ i d inside. (made.owns.those i d inside).0) made.lists_spelled;
        stand = layout_needs s u rows sizes layout ∙ whole ∙ ap (λ (z : List ℕ). own ++ z) (needs_expressions made.lists);
        can = layout_can s u rows sizes layout;
      }

-- THE LAWS

module _ (laws : AreLaws) where
  -- The slots of a file that is written anew stand in the bytes that their numbers need.
  pub written_slots_stand : WrittenSlotsStand
  written_slots_stand classes file written anew s read u known rows sizes layout =
      let (r, other, read_file, read_other, holds) = anew.tidy in
      slots_stand laws file written r s (record { classes = classes; read = read_file; again = read; anew = anew }) u known rows sizes layout

  -- So the least layouts of its units are those that stand.
  pub least_layouts_stand : LeastLayoutsStand
  least_layouts_stand classes file written anew (r, s, read_file, read, layouts) = (
    s,
    read,
    λ u known. let least = layouts u known in record {
      rows = least.rows;
      sizes = least.sizes;
      stand = written_slots_stand classes file written anew s read u known least.rows least.sizes least.layout;
      least = least.least;
    },
  )
