-- The rows of the slots of a unit are one list: a unit has one row for each of its slots under the sizes that they have.
use Rattle.std.proofs.Common.{◌≡◌, ◌≤◌, ◌<◌, ◌∙◌, ◌++◌, inl, inr, ℕ, zero, suc, List, [], ◌∷◌, length, get_or, sum, sym, ap, subst, refl, arith}
use Rattle.std.specs.Prelude.{map, flat_map, slice_index, slice_range}
use Rattle.std.specs.List.{AllZip}
use Rattle.std.proofs.lemmas.Bool.{cases_lt}
use Rattle.std.proofs.lemmas.List.{ext_get_or, get_or_default}
use Rattle.std.proofs.lemmas.List.Elements.{All-get_or}
use Rattle.dw_base.specs.declared.fault.Reach.TheVariants.{Wide}
use Rattle.dw_base.specs.declared.fault.Span.{Span}
use Rattle.leb_codec.specs.Layout.{SlotForm, uleb, SlotRow, row_at}
use Rattle.expr_ops.specs.Expressions.{Operation, IsExpression}
use Rattle.expr_ops.specs.Slots.{Aim, expression_aims}
use Rattle.expr_ops.specs.Slots.Aim.{Place, Length}
use Rattle.expr_ops.proofs.Levels.{expression_once}
use Rattle.form_codec.specs.declared.value.Value.{Value}
use Rattle.form_codec.specs.declared.value.Value.TheVariants as value
use Rattle.form_codec.specs.Values.{bytes_in, meant_in}
use Rattle.abbrev_tables.specs.Tables.{Declared}
use Rattle.entry_arena.specs.declared.entry.Entry.{Entry}
use Rattle.entry_arena.specs.Arena.{Arena, value_at}
use Rattle.entry_read.specs.Expressions.{IsExprAt}
use Rattle.entry_read.specs.Places.{HaveOwners}
use Rattle.entry_read.specs.Slots.{value_aims, aims_before, meaning_at, slots_before, aims_of, aim_at, AreValuesBefore, IsPlaceRow, IsRowOf}
use Rattle.entry_read.proofs.OwnerLaws.{values_belong}
use Rattle.written_files.specs.Layouts.{AreNumbersOf, list_expressions, place_told, all_aims, HasSlots}
use Rattle.value_links.specs.Reading.{UnitRead, Reading, no_unit, unit_at, declarations, IsUnitRead}
use Rattle.value_links.specs.Sections.{debug_info, debug_abbrev}
use Rattle.value_links.specs.Whole.{IsReading}
use Rattle.value_links.proofs.ListsOnce.{same_members}

-- NUMBERS

module _ (Those : ℕ → Type 0) (count : ℕ) where
  -- each of some numbers is one of all
  among : (a b : List ℕ) → AreNumbersOf Those count a → AreNumbersOf Those count b → (k : ℕ) → k < length a → (j : ℕ) × (j < length b) × (get_or b j 0 ≡ get_or a k 0)
  among a b p q k inside =
      let one = p.those k 0 inside in
      let (j, there, same) = q.all (get_or a k 0) one.0 one.1 in
      (j, there, get_or_default b j 0 (get_or a k 0) there ∙ same)

  -- there is one list of them
  pub numbers_once : (a b : List ℕ) → AreNumbersOf Those count a → AreNumbersOf Those count b → a ≡ b
  numbers_once a b p q = same_members 0 (λ (x y : ℕ). x < y) (λ x y up down. omega (arith, up, down)) a b p.rising q.rising (among a b p q) (among b a q p)

-- WHAT SLOTS TELL

-- bytes are the expressions of one list of operations each
readings_once : (bytes : List (List ℕ)) (lists others : List (List Operation)) → AllZip (IsExpression Wide) lists bytes → AllZip (IsExpression Wide) others bytes → lists ≡ others
readings_once [] [] [] p q = refl
readings_once [] [] (y ∷ ys) p q = absurd q
readings_once [] (x ∷ xs) ys p q = absurd p
readings_once (b ∷ bytes) [] ys p q = absurd p
readings_once (b ∷ bytes) (x ∷ xs) [] p q = absurd q
readings_once (b ∷ bytes) (x ∷ xs) (y ∷ ys) (p, ps) (q, qs) =
    ap (λ (z : List Operation). z ∷ xs) (expression_once Wide x y b p q) ∙ ap (λ (z : List (List Operation)). y ∷ z) (readings_once bytes xs ys ps qs)

-- the expressions of a unit have these operations
abbrev AreSpelled : Arena → (ℕ → List Operation) → Type 0
AreSpelled f ops = (k : ℕ) (span : Span) → IsExprAt f k span → IsExpression Wide (ops k) (bytes_in f.section span)

module _ (f : Arena) (ops others : ℕ → List Operation) (p : AreSpelled f ops) (q : AreSpelled f others) where
  -- a value that is no expression tells nothing of operations
  tells_once : (k : ℕ) → k < length f.values → (v : Value) → value_at f.values k ≡ v → value_aims (meant_in f.section v) (ops k) ≡ value_aims (meant_in f.section v) (others k)
  tells_once k inside (value.Expr span) is =
      let here : IsExprAt f k span = record { inside = inside; is = is } in
      ap expression_aims (expression_once Wide (ops k) (others k) (bytes_in f.section span) (p k span here) (q k span here))
  tells_once k inside v is = refl

  values_tell : (n : ℕ) → n ≤ length f.values → aims_before (meaning_at f) ops n ≡ aims_before (meaning_at f) others n
  values_tell zero inside = refl
  values_tell (suc n) inside =
      let before : aims_before (meaning_at f) ops n ≡ aims_before (meaning_at f) others n = values_tell n (omega (arith, inside)) in
      let own : value_aims (meaning_at f n) (ops n) ≡ value_aims (meaning_at f n) (others n) = tells_once n (omega (arith, inside)) (value_at f.values n) refl in
      ap (λ (z : List Aim). z ++ value_aims (meaning_at f n) (ops n)) before ∙ ap (λ (z : List Aim). aims_before (meaning_at f) others n ++ z) own

-- the slots of a unit tell the same
aims_once : (s : Reading) (u : ℕ) (rows others : List SlotRow) (sizes more : List ℕ) (a : HasSlots s u rows sizes) (b : HasSlots s u others more) → all_aims (unit_at s.links u).forest a.ops a.lists ≡ all_aims (unit_at s.links u).forest b.ops b.lists
aims_once s u rows others sizes more a b =
    let f : Arena = (unit_at s.links u).forest in
    let owned : a.owned ≡ b.owned = numbers_once _ _ a.owned b.owned a.owns b.owns in
    let spelled : AllZip (IsExpression Wide) a.lists (list_expressions s b.owned) = subst (λ (z : List ℕ). AllZip (IsExpression Wide) a.lists (list_expressions s z)) owned a.lists_spelled in
    let lists : a.lists ≡ b.lists = readings_once (list_expressions s b.owned) a.lists b.lists spelled b.lists_spelled in
    let own : aims_of f a.ops ≡ aims_of f b.ops = values_tell f a.ops b.ops a.spelled b.spelled (length f.values) (omega arith) in
    ap (λ (z : List Aim). z ++ flat_map expression_aims a.lists) own ∙ ap (λ (z : List (List Operation)). aims_of f b.ops ++ flat_map expression_aims z) lists

-- ROWS

row_same : (a b : SlotRow) → a.form ≡ b.form → a.fixed ≡ b.fixed → a.from ≡ b.from → a.to ≡ b.to → a ≡ b
row_same a b form fixed from to =
    ap (λ (z : SlotForm). record { form = z; fixed = a.fixed; from = a.from; to = a.to }) form
    ∙ ap (λ (z : ℕ). record { form = b.form; fixed = z; from = a.from; to = a.to }) fixed
    ∙ ap (λ (z : ℕ). record { form = b.form; fixed = b.fixed; from = z; to = a.to }) from
    ∙ ap (λ (z : ℕ). record { form = b.form; fixed = b.fixed; from = b.from; to = z }) to

module _ (ds : List Declared) (f : Arena) (owners : HaveOwners ds f) (entries : List ℕ) where
  -- the value behind the last of them would be that of an entry
  no_more : (place count other : ℕ) → AreValuesBefore f entries place count → AreValuesBefore f entries place other → count < other → ⊥
  no_more place count other p q less =
      let few = q.few in
      let (id, inside, from, to) = owners.owned count (omega (arith, less, few)) in
      elim (cases_lt (slice_index entries id) place) [
        | inl early ↦ let end = p.before id inside early in omega (arith, end, to)
        | inr late ↦ let start = q.behind id inside late in omega (arith, start, from, less)
      ]

  -- so many values stand before a place
  values_once : (place count other : ℕ) → AreValuesBefore f entries place count → AreValuesBefore f entries place other → count ≡ other
  values_once place count other p q = elim (cases_lt count other) [
    | inl less ↦ absurd (no_more place count other p q less)
    | inr rest ↦ elim (cases_lt other count) [
      | inl more ↦ absurd (no_more place other count q p more)
      | inr same ↦ omega (arith, rest, same)
    ]
  ]

  module _ (ops others : ℕ → List Operation) (spelled : AreSpelled f ops) (again : AreSpelled f others) (sizes : List ℕ) (start : ℕ) where
    place_row_once : (place : ℕ) (form : SlotForm) (row other : SlotRow) → IsPlaceRow f ops entries sizes start place form row → IsPlaceRow f others entries sizes start place form other → row ≡ other
    place_row_once place form row other p q =
        let values : p.values ≡ q.values = values_once place p.values q.values p.before q.before in
        let slots : slots_before f ops p.values ≡ slots_before f others p.values = ap (λ (z : List Aim). length z) (values_tell f ops others spelled again p.values p.before.few) in
        let to : row.to ≡ other.to = p.to ∙ slots ∙ ap (slots_before f others) values ∙ sym q.to in
        let from : row.from ≡ other.from = p.from ∙ sym q.from in
        let counted : sum (slice_range sizes row.from row.to) ≡ sum (slice_range sizes other.from other.to) = ap (λ (z : ℕ). sum (slice_range sizes z row.to)) from ∙ ap (λ (z : ℕ). sum (slice_range sizes other.from z)) to in
        let first = p.number in
        let second = q.number in
        row_same row other (p.form_is ∙ sym q.form_is) (omega (arith, first, second, counted)) from to

    row_once : (place i : ℕ) (aim : Aim) (row other : SlotRow) → IsRowOf f ops entries sizes start place i aim row → IsRowOf f others entries sizes start place i aim other → row ≡ other
    row_once place i (Place form n) row other p q = place_row_once place form row other p q
    row_once place i (Length fixed count) row other p q = p ∙ sym q

-- A unit has one list of rows under the sizes of its slots.
pub rows_once : (written : List ℕ) (s : Reading) → IsReading written s → (u : ℕ) → u < length s.links.units → (rows others : List SlotRow) (sizes : List ℕ) → HasSlots s u rows sizes → HasSlots s u others sizes → rows ≡ others
rows_once written s read u inside rows others sizes a b =
    let unit : UnitRead = unit_at s.links u in
    let f : Arena = unit.forest in
    let places : List ℕ = map (λ (e : Entry). e.at) f.entries in
    let is : IsUnitRead (debug_info written) (debug_abbrev written) unit = All-get_or (IsUnitRead (debug_info written) (debug_abbrev written)) s.links.units u no_unit inside read.links.units.each in
    let owners : HaveOwners (declarations unit) f = values_belong (debug_info written) unit.head (declarations unit) f is.section is.entries in
    let aims : all_aims f a.ops a.lists ≡ all_aims f b.ops b.lists = aims_once s u rows others sizes sizes a b in
    let count : length rows ≡ length others = a.count ∙ ap (λ (z : List Aim). length z) aims ∙ sym b.count in
    ext_get_or (record { form = uleb; fixed = 0; from = 0; to = 0 }) rows others count (λ i lt.
    let own : Aim = aim_at (all_aims f a.ops a.lists) i in
    let there = b.slots i (omega (arith, count, lt)) in
    let moved : IsRowOf f b.ops places sizes unit.head.at (place_told unit.head.at own) i own (row_at others i) =
    subst (λ (z : List Aim). IsRowOf f b.ops places sizes unit.head.at (place_told unit.head.at (aim_at z i)) i (aim_at z i) (row_at others i)) (sym aims) there in
    row_once (declarations unit) f owners places a.ops b.ops a.spelled b.spelled sizes unit.head.at (place_told unit.head.at own) i own (row_at rows i) (row_at others i) (a.slots i lt) moved)
