-- A unit of a world as it is held: its table, its entries, its operations, and what its slots tell.
use Rattle.std.proofs.Common.{◌≡◌, ◌≤◌, ◌<◌, ◌+◌, ◌-◌, ◌^◌, ◌∙◌, inl, inr, ℕ, zero, suc, List, [], ◌∷◌, length, get_or, take, drop, true, false, true≢false, sym, ap, refl, subst, arith}
use Rattle.std.specs.Prelude.{Bool, Option, Some, None, ◌&&◌, nat_lt, slice_index, slice_range}
use Rattle.std.specs.List.{All}
use Rattle.std.proofs.lemmas.Bool.{cases_lt, lt-ltb}
use Rattle.std.proofs.lemmas.List.{get_or_read}
use Rattle.dw_base.specs.declared.fault.Reach.{Reach}
use Rattle.dw_base.specs.declared.fault.Reach.TheVariants.{Narrow, Wide}
use Rattle.dw_base.specs.declared.fault.Span.{Span}
use Rattle.elf_sections.specs.Elf.{body_span}
use Rattle.elf_sections.specs.Faults.{debug_limit}
use Rattle.elf_sections.specs.Names.{name_of, is_debug_name}
use Rattle.abbrev_tables.specs.Listings.{Listing}
use Rattle.expr_ops.specs.Expressions.{Operation, IsExpression}
use Rattle.expr_ops.specs.Ops.{all_meant}
use Rattle.expr_ops.proofs.Reaches.{narrow_wide}
use Rattle.form_codec.specs.declared.value.Value.{Value}
use Rattle.form_codec.specs.Values.{bytes_in, meant_in}
use Rattle.entry_arena.specs.Arena.{Arena, value_at}
use Rattle.entry_arena.specs.Operations.{HeldOps, no_operations, ops_of}
use Rattle.entry_read.specs.Expressions.{IsExprAt, HasOperations}
use Rattle.entry_read.specs.Slots.{value_aims, aims_of, meaning_at, expression_bytes, operations_in}
use Rattle.entry_read.specs.Units.{HeadAndForest, declarations_of, IsTable, IsUnitHeld}
use Rattle.value_links.specs.declared.units.NamedTable.{NamedTable}
use Rattle.value_links.specs.Faults.{IsValid}
use Rattle.value_links.specs.Links.{held_at}
use Rattle.value_links.specs.Reading.{UnitRead, Reading, no_unit, unit_at, declarations, IsUnitRead}
use Rattle.value_links.specs.Sections.{body_named, body_or_none, section_named, debug_info, debug_abbrev, info_name}
use Rattle.value_links.specs.World.{World, table_at, operations_at, head_and_forest, IsWorldOf}
use Rattle.value_links.proofs.EntryValues.{value_stands}
use Rattle.value_links.proofs.HeldUnits.{unit_is, unit_owners, held_count, held_is}
use Rattle.value_links.proofs.Meaningful.{valid_values}
use Rattle.value_links.proofs.SectionLaws.{sections_are_found}
use Rattle.value_links.proofs.ValidImages.{image_in_order}
use Rattle.unit_slots.specs.inside.Own.{unit_by}
use Rattle.unit_slots.specs.inside.Rows.{NamesThere}
use Rattle.unit_slots.proofs.NamedSlots.{value_there, aims_there}

-- SECTIONS ARE SHORT

take_short : (n : ℕ) (xs : List ℕ) → length (take n xs) ≤ n
take_short zero xs = omega arith
take_short (suc n) [] = omega arith
take_short (suc n) (x ∷ xs) = let few : length (take n xs) ≤ n = take_short n xs in omega arith

-- a part of a list is no longer than it is asked to be
range_short : (xs : List ℕ) (from len : ℕ) → length (slice_range xs from (from + len)) ≤ len
range_short xs from len =
    let front : length (take (from + len - from) (drop from xs)) ≤ from + len - from = take_short (from + len - from) (drop from xs) in
    omega (arith, front)

not_long : (limit len : ℕ) (debug : Bool) → debug ≡ true → debug && nat_lt limit len ≡ false → len ≤ limit
not_long limit len true is short = elim (cases_lt limit len) [
  | inl past ↦ absurd (true≢false (sym (lt-ltb limit len past) ∙ short))
  | inr within ↦ within
]
not_long limit len false is short = absurd (true≢false (sym is))

found_short : (file name : List ℕ) (reach : Reach) (i : ℕ) → is_debug_name name ≡ true → IsValid file reach → section_named file name ≡ Some i → (body_span file i).len ≤ debug_limit reach
found_short file name reach i debug valid found =
    let first = (sections_are_found.found file name i).0 found in
    let short = ((image_in_order file reach valid).sound.sections i first.inside).short in
    not_long (debug_limit reach) (body_span file i).len (is_debug_name (name_of file i)) (ap is_debug_name first.named ∙ debug) short

body_short : (file : List ℕ) (limit : ℕ) (found : Option ℕ) → ((i : ℕ) → found ≡ Some i → (body_span file i).len ≤ limit) → length (body_or_none file found) ≤ limit
body_short file limit (Some i) few =
    let part = range_short file (body_span file i).at (body_span file i).len in
    let len = few i refl in
    omega (arith, part, len)
body_short file limit None few = omega arith

limit_short : (reach : Reach) → debug_limit reach < 2 ^ 32
limit_short Narrow = omega arith
limit_short Wide = omega arith

-- a debug section of a valid file has less than 2^32 bytes
pub debug_short : (file name : List ℕ) (reach : Reach) → is_debug_name name ≡ true → IsValid file reach → length (body_named file name) < 2 ^ 32
debug_short file name reach debug valid =
    let most : length (body_or_none file (section_named file name)) ≤ debug_limit reach = body_short file (debug_limit reach) (section_named file name) (λ i found. found_short file name reach i debug valid found) in
    let limit : debug_limit reach < 2 ^ 32 = limit_short reach in
    omega (arith, most, limit)

-- OPERATIONS

wide : (reach : Reach) (o : List Operation) (bytes : List ℕ) → IsExpression reach o bytes → IsExpression Wide o bytes
wide Narrow o bytes is = narrow_wide o bytes is
wide Wide o bytes is = is

operations_wide : (reach : Reach) (f : Arena) (held : HeldOps) → HasOperations reach f held → HasOperations Wide f held
operations_wide reach f held has = record {
  spelled = λ number span stands. wide reach (all_meant (bytes_in f.section span) (ops_of held number)) (bytes_in f.section span) (has.spelled number span stands);
  places = has.places;
  only = has.only;
}

-- those of a value that is an expression
pub value_spelled : (f : Arena) (held : HeldOps) → HasOperations Wide f held → (k : ℕ) (span : Span) → IsExprAt f k span → IsExpression Wide (operations_in f held k) (bytes_in f.section span)
value_spelled f held has k span stands =
    subst (λ (v : Value). IsExpression Wide (all_meant (expression_bytes (meant_in f.section v)) (ops_of held k)) (bytes_in f.section span)) (sym stands.is) (has.spelled k span stands)

-- WHAT IS LOOKED UP

pub unit_found : (held units : List HeadAndForest) (u : ℕ) (own : HeadAndForest) → u < length held → units ≡ held → own ≡ get_or units u own → own ≡ held_at held u
unit_found held units u own inside same is = get_or_read held u own inside (subst (λ (z : List HeadAndForest). own ≡ get_or z u own) same is) (head_and_forest no_unit)

pub operations_found : (world : World) (some : (reach : Reach) × IsWorldOf world.image reach world) (all : List HeldOps) (u : ℕ) (one : HeldOps) → u < length world.units → all ≡ world.operations → one ≡ get_or all u one → one ≡ operations_at world.operations u
operations_found world some all u one inside same is =
    let count : length world.operations ≡ length world.units = some.1.operations.count in
    get_or_read world.operations u one (omega (arith, count, inside)) (subst (λ (z : List HeldOps). one ≡ get_or z u one) same is) no_operations

-- A UNIT THAT IS HELD

module _ (world : World) (some : (reach : Reach) × IsWorldOf world.image reach world) (u : ℕ) (inside : u < length world.units) where
  r : Reading
  r = some.1.r

  pub known : u < length some.1.r.links.units
  known = subst (λ (n : ℕ). u < n) (held_count some.1.r.links.units world.units some.1.holds.units) inside

  read : IsUnitRead (debug_info world.image) (debug_abbrev world.image) (unit_at some.1.r.links u)
  read = unit_is (debug_info world.image) (debug_abbrev world.image) some.1.r.links.units some.1.read.links.units u known

  pub held_same : held_at world.units u ≡ head_and_forest (unit_at some.1.r.links u)
  held_same = held_is some.1.r.links.units world.units some.1.holds.units u known

  operations_held : HasOperations Wide (unit_at some.1.r.links u).forest (operations_at world.operations u)
  operations_held =
      let has : HasOperations some.0 (held_at world.units u).forest (operations_at world.operations u) = some.1.operations.each u (head_and_forest no_unit) inside in
      subst (λ (h : HeadAndForest). HasOperations Wide h.forest (operations_at world.operations u)) held_same (operations_wide some.0 (held_at world.units u).forest (operations_at world.operations u) has)

  named_each : (k : ℕ) → k < length (unit_at some.1.r.links u).forest.values → All (NamesThere (head_and_forest (unit_at some.1.r.links u))) (value_aims (meaning_at (unit_at some.1.r.links u).forest k) (operations_in (unit_at some.1.r.links u).forest (operations_at world.operations u) k))
  named_each k less =
      let unit = unit_at some.1.r.links u in
      let owned = unit_owners (debug_info world.image) (debug_abbrev world.image) some.1.r.links.units some.1.read.links.units u known in
      let (id, name, place, stands) = value_stands (debug_info world.image) (debug_abbrev world.image) (unit_at some.1.r.links u) read owned k less in
      let (linked, links) = valid_values world.image some.0 some.1.r.links some.1.read.links some.1.valid u id k name (meaning_at (unit_at some.1.r.links u).forest k) place known stands in
      value_there some.1.r.links u id name unit.forest.section (value_at unit.forest.values k) linked (operations_in (unit_at some.1.r.links u).forest (operations_at world.operations u) k) links
      (λ span is. value_spelled (unit_at some.1.r.links u).forest (operations_at world.operations u) operations_held k span (record { inside = less; is = is }))

  -- the unit with a number, its table and its operations, as they were taken from what is held
  module _ (own : HeadAndForest) (table : Listing) (operations : HeldOps) (own_is : own ≡ held_at world.units u) (table_is : table ≡ (table_at world.tables (slice_index world.table_of u)).table) (operations_are : operations ≡ operations_at world.operations u) where
    own_same : own ≡ head_and_forest (unit_at some.1.r.links u)
    own_same = own_is ∙ held_same

    -- it is the one that is read
    pub as_read : unit_by own table ≡ unit_at some.1.r.links u
    as_read =
        ap (λ (h : HeadAndForest). unit_by h table) own_same
        ∙ ap (unit_by (head_and_forest (unit_at some.1.r.links u))) (table_is ∙ ap (λ (t : NamedTable). t.table) (some.1.holds.tables.each u known))

    pub table_there : IsTable table
    table_there = subst (λ (unit : UnitRead). IsTable unit.table) (sym as_read) (debug_abbrev world.image, (unit_at some.1.r.links u).head.table, read.table)

    pub unit_there : IsUnitHeld own.forest.section own.head (declarations_of table) own.forest
    unit_there =
        let unit : UnitRead = unit_at some.1.r.links u in
        let by_section : IsUnitHeld unit.forest.section unit.head (declarations unit) unit.forest = subst (λ (z : List ℕ). IsUnitHeld z unit.head (declarations unit) unit.forest) (sym read.section) read.entries in
        subst (λ (z : UnitRead). IsUnitHeld z.forest.section z.head (declarations z) z.forest) (sym as_read) by_section

    pub section_short : length own.forest.section < 2 ^ 32
    section_short =
        subst (λ (h : HeadAndForest). length h.forest.section < 2 ^ 32) (sym own_same) (subst (λ (z : List ℕ). length z < 2 ^ 32) (sym read.section) (debug_short world.image info_name some.0 refl some.1.valid))

    pub operations_there : HasOperations Wide own.forest operations
    operations_there = subst (λ (h : HeadAndForest). HasOperations Wide h.forest operations) (sym own_same) (subst (HasOperations Wide (unit_at some.1.r.links u).forest) (sym operations_are) operations_held)

    pub named_there : All (NamesThere own) (aims_of own.forest (operations_in own.forest operations))
    named_there =
        let f = (unit_at some.1.r.links u).forest in
        let all : All (NamesThere (head_and_forest (unit_at some.1.r.links u))) (aims_of f (operations_in f (operations_at world.operations u))) = aims_there (head_and_forest (unit_at some.1.r.links u)) (meaning_at f) (operations_in f (operations_at world.operations u)) (length f.values) named_each in
        subst (λ (h : HeadAndForest). All (NamesThere h) (aims_of h.forest (operations_in h.forest operations))) (sym own_same)
        (subst (λ (o : HeldOps). All (NamesThere (head_and_forest (unit_at some.1.r.links u))) (aims_of (unit_at some.1.r.links u).forest (operations_in (unit_at some.1.r.links u).forest o))) (sym operations_are) all)
