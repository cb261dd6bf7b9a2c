-- The units of a file that is held, with the operations of their expressions.
use Rattle.std.proofs.Common.{◌≡◌, ◌≤◌, ◌<◌, ◌+◌, ◌∙◌, ℕ, List, length, get_or, sym, ap, subst, arith}
use Rattle.std.specs.Prelude.{Option}
use Rattle.std.proofs.lemmas.List.{get_or_default, length-map}
use Rattle.std.proofs.lemmas.List.Elements.{All-get_or}
use Rattle.std.proofs.Math.ListN.{get_or-map}
use Rattle.dw_base.specs.declared.fault.Reach.{Reach}
use Rattle.dw_base.specs.declared.fault.Reach.TheVariants.{Narrow, Wide}
use Rattle.dw_base.specs.declared.fault.Span.{Span}
use Rattle.expr_ops.specs.declared.op.Op.{Op}
use Rattle.expr_ops.specs.Expressions.{Operation, IsExpression}
use Rattle.expr_ops.specs.Ops.{all_meant}
use Rattle.expr_ops.proofs.Reaches.{narrow_wide}
use Rattle.form_codec.specs.Values.{bytes_in, LiesIn}
use Rattle.entry_arena.specs.Arena.{Arena}
use Rattle.entry_arena.specs.Operations.{HeldOps, no_operations, ops_of}
use Rattle.entry_read.specs.Expressions.{IsExprAt, HasOperations}
use Rattle.entry_read.specs.Units.{HeadAndForest}
use Rattle.entry_read.proofs.PlaceLaws.{units_lie}
use Rattle.value_links.specs.Sections.{debug_info, debug_abbrev}
use Rattle.value_links.specs.Reading.{Reading, no_unit, declarations, unit_at, IsUnitRead}
use Rattle.value_links.specs.Links.{held_at}
use Rattle.value_links.specs.World.{World, operations_at, head_and_forest, Holds, IsWorldOf}
use Rattle.tidy_places.specs.Firsts.{IsLeastFound}
use Rattle.tidy_numbers.specs.LongNumbers.{IsLongInExpressions}
use Rattle.tidy_numbers.specs.inside.Expressions.{AreExpressionsHeld, IsLongInValues}
use Rattle.tidy_numbers.proofs.FoundAmong.{HoldsBelow, found_same}

-- UNITS

-- as many units as are read, each as it is read
held_count : (file : List ℕ) (world : World) (s : Reading) → Holds file world s → length world.units ≡ length s.links.units
held_count file world s holds = ap length holds.units ∙ length-map s.links.units head_and_forest

held_unit : (file : List ℕ) (world : World) (s : Reading) (u : ℕ) → Holds file world s → held_at world.units u ≡ head_and_forest (unit_at s.links u)
held_unit file world s u holds = ap (λ (units : List HeadAndForest). held_at units u) holds.units ∙ get_or-map head_and_forest s.links.units u no_unit

-- as they are looked up
pub forest_there : (world : World) (u : ℕ) (units : List HeadAndForest) (unit : HeadAndForest) (entries : Arena) → u < length world.units → units ≡ world.units → unit ≡ get_or units u unit → entries ≡ unit.forest → entries ≡ (held_at world.units u).forest
forest_there world u units unit entries known same is of =
    let there : unit ≡ held_at world.units u = subst (λ (z : List HeadAndForest). unit ≡ get_or z u unit) same is ∙ get_or_default world.units u unit (head_and_forest no_unit) known in
    of ∙ ap (λ (h : HeadAndForest). h.forest) there

pub operations_there : (world : World) (u : ℕ) (held : List HeldOps) (one : HeldOps) → u < length world.operations → held ≡ world.operations → one ≡ get_or held u one → one ≡ operations_at world.operations u
operations_there world u held one known same is = subst (λ (z : List HeldOps). one ≡ get_or z u one) same is ∙ get_or_default world.operations u one no_operations known

-- THEIR EXPRESSIONS

wide : (reach : Reach) (o : List Operation) (bytes : List ℕ) → IsExpression reach o bytes → IsExpression Wide o bytes
wide Narrow o bytes is = narrow_wide o bytes is
wide Wide o bytes is = is

module _ (world : World) (reach : Reach) (is : IsWorldOf world.image reach world) (u : ℕ) (known : u < length world.units) where
  unit_read : IsUnitRead (debug_info world.image) (debug_abbrev world.image) (unit_at is.r.links u)
  unit_read =
      let size : length world.units ≡ length is.r.links.units = held_count world.image world is.r is.holds in
      All-get_or (IsUnitRead (debug_info world.image) (debug_abbrev world.image)) is.r.links.units u no_unit (omega (arith, size, known)) is.read.links.units.each

  pub operations_inside : u < length world.operations
  operations_inside = let count : length world.operations ≡ length world.units = is.operations.count in omega (arith, count, known)

  -- an expression stands in the section
  value_inside : (number : ℕ) (span : Span) → IsExprAt (held_at world.units u).forest number span → span.at + span.len ≤ length (held_at world.units u).forest.section
  value_inside number span stands =
      let unit = unit_at is.r.links u in
      let same : held_at world.units u ≡ head_and_forest (unit_at is.r.links u) = held_unit world.image world is.r u is.holds in
      let there : IsExprAt (unit_at is.r.links u).forest number span = subst (λ (h : HeadAndForest). IsExprAt h.forest number span) same stands in
      let lies = units_lie (debug_info world.image) unit.head (declarations unit) unit.forest unit_read.section unit_read.entries in
      let inside : span.at + span.len ≤ length (unit_at is.r.links u).forest.section = subst (LiesIn (length (unit_at is.r.links u).forest.section)) there.is (lies.order.spans.inside number there.inside) in
      subst (λ (h : HeadAndForest). span.at + span.len ≤ length h.forest.section) (sym same) inside

  -- its operations are held
  expressions_held : AreExpressionsHeld (held_at world.units u).forest (operations_at world.operations u)
  expressions_held number span stands =
      let bytes : List ℕ = bytes_in (held_at world.units u).forest.section span in
      let ops : List Op = ops_of (operations_at world.operations u) number in
      let have : HasOperations reach (held_at world.units u).forest (operations_at world.operations u) = is.operations.each u (head_and_forest no_unit) known in
      (value_inside number span stands, record { spelled = wide reach (all_meant bytes ops) bytes (have.spelled number span stands); places = have.places number span stands })

  -- by what is looked up
  pub found_held : (forest : Arena) (held : HeldOps) → forest ≡ (held_at world.units u).forest → held ≡ operations_at world.operations u → AreExpressionsHeld forest held
  found_held forest held forest_is held_is =
      subst (λ (z : Arena). AreExpressionsHeld z held) (sym forest_is) (subst (AreExpressionsHeld (held_at world.units u).forest) (sym held_is) expressions_held)

-- THE LEAST PLACE

-- the one among the units so far
abbrev pub IsLongOf : World → ℕ → ℕ → Type 0
IsLongOf world u p = IsLongInValues (held_at world.units u).forest p

pub unit_found : (world : World) (u : ℕ) (forest : Arena) (found : Option ℕ) → forest ≡ (held_at world.units u).forest → IsLeastFound (IsLongInValues forest) found → IsLeastFound (IsLongOf world u) found
unit_found world u forest found is least = subst (λ (z : Arena). IsLeastFound (IsLongInValues z) found) is least

pub units_found : (world : World) (s : Reading) (n : ℕ) (found : Option ℕ) → Holds world.image world s → n ≡ length world.units → IsLeastFound (HoldsBelow (IsLongOf world) n) found → IsLeastFound (IsLongInExpressions s) found
units_found world s n found holds all least = found_same (HoldsBelow (IsLongOf world) n) (IsLongInExpressions s) to from found least
  where
    count : length world.units ≡ length s.links.units
    count = held_count world.image world s holds

    to : (p : ℕ) → HoldsBelow (IsLongOf world) n p → IsLongInExpressions s p
    to p (u, less, long) =
        let (number, (span, stands, (inner, there, place))) = subst (λ (h : HeadAndForest). IsLongInValues h.forest p) (held_unit world.image world s u holds) long in
        record { u = u; known = omega (arith, less, all, count); number = number; span = span; stands = stands; inner = inner; long = there; place = place }

    from : (p : ℕ) → IsLongInExpressions s p → HoldsBelow (IsLongOf world) n p
    from p is =
        let known = is.known in
        let long : IsLongInValues (head_and_forest (unit_at s.links is.u)).forest p = (is.number, (is.span, is.stands, (is.inner, is.long, is.place))) in
        (is.u, omega (arith, known, all, count), subst (λ (h : HeadAndForest). IsLongInValues h.forest p) (sym (held_unit world.image world s is.u holds)) long)
