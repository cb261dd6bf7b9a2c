-- The sizes that what slots tell needs: where each slot has the bytes of its number, the sizes are those that are found from the last slot to
-- the first.
use Rattle.std.proofs.Common.{◌≡◌, ◌≤◌, ◌<◌, ◌+◌, ◌-◌, ◌∙◌, ◌++◌, inl, inr, ℕ, suc, List, [], ◌∷◌, length, take, drop, sum, ap, refl, arith}
use Rattle.std.specs.Prelude.{Bool, true, false, if◌then◌else◌, nat_lt, slice_index, map, flat_map}
use Rattle.std.proofs.lemmas.List.{take-append-le}
use Rattle.leb_codec.specs.Leb.{least_unsigned_len}
use Rattle.leb_codec.proofs.Lens.{least_unsigned}
use Rattle.leb_codec.specs.Layout.{SlotForm, uleb, call, SlotRow, row_at, slot_number, need}
use Rattle.expr_ops.specs.Drafts.{total}
use Rattle.expr_ops.specs.Expressions.{Operation}
use Rattle.expr_ops.specs.Slots.{Aim, expression_aims}
use Rattle.expr_ops.specs.Slots.Aim.{Place, Length}
use Rattle.entry_arena.specs.declared.entry.Entry.{Entry}
use Rattle.entry_arena.specs.Arena.{Arena}
use Rattle.entry_read.specs.Slots.{aim_at, IsRowOf}
use Rattle.slot_layout.specs.Rows.{CanHaveSize, CanBeSizes}
use Rattle.value_links.specs.Reading.{Reading, unit_at}
use Rattle.written_files.specs.Layouts.{all_aims, place_told, HasLayout}
use Rattle.unit_slots.proofs.ExpressionSizes.{sum_cons}
use Rattle.unit_slots.proofs.RowLaws.{AreWithin, expression_within}

-- the bytes that what slots tell needs: those of a place by itself, those of a length by the bytes of the slots behind it
abbrev pub needs : List Aim → List ℕ
needs [] = []
needs (Place form n ∷ aims) = need form n ∷ needs aims
needs (Length fixed count ∷ aims) = least_unsigned_len (fixed + total (take count (needs aims))) ∷ needs aims

pub needs_length : (aims : List Aim) → length (needs aims) ≡ length aims
needs_length [] = refl
needs_length (Place form n ∷ aims) = ap suc (needs_length aims)
needs_length (Length fixed count ∷ aims) = ap suc (needs_length aims)

-- those behind add nothing to a length that counts none of them
pub needs_append : (xs ys : List Aim) → AreWithin xs → needs (xs ++ ys) ≡ needs xs ++ needs ys
needs_append [] ys within = refl
needs_append (Place form n ∷ xs) ys within = ap (λ (z : List ℕ). need form n ∷ z) (needs_append xs ys within.1)
needs_append (Length fixed count ∷ xs) ys within =
    let few : count ≤ length xs = within.0 in
    let size : length (needs xs) ≡ length xs = needs_length xs in
    let more : needs (xs ++ ys) ≡ needs xs ++ needs ys = needs_append xs ys within.1 in
    let front : take count (needs (xs ++ ys)) ≡ take count (needs xs) = ap (take count) more ∙ take-append-le count (needs xs) (needs ys) (omega (arith, few, size)) in
    ap (λ (z : List ℕ). least_unsigned_len (fixed + total z) ∷ needs (xs ++ ys)) front
    ∙ ap (λ (z : List ℕ). least_unsigned_len (fixed + total (take count (needs xs))) ∷ z) more

-- those of expressions, one after the other
pub needs_expressions : (lists : List (List Operation)) → needs (flat_map expression_aims lists) ≡ flat_map (λ (os : List Operation). needs (expression_aims os)) lists
needs_expressions [] = refl
needs_expressions (os ∷ lists) =
    needs_append (expression_aims os) (flat_map expression_aims lists) (expression_within os)
    ∙ ap (λ (z : List ℕ). needs (expression_aims os) ++ z) (needs_expressions lists)

-- ONE LIST OF SIZES

pub total_sum : (xs : List ℕ) → sum xs ≡ total xs
total_sum [] = refl
total_sum (x ∷ xs) = let more : sum xs ≡ total xs = total_sum xs in sum_cons x xs ∙ ap (λ (n : ℕ). x + n) more

-- a slot has the bytes that what it tells needs under these sizes
abbrev IsNeeded : List ℕ → ℕ → Aim → Type 0
IsNeeded sizes i (Place form n) = slice_index sizes i ≡ need form n
IsNeeded sizes i (Length fixed count) = slice_index sizes i ≡ least_unsigned_len (fixed + total (take count (drop (suc i) sizes)))

-- the slot before others
needed_behind : (size : ℕ) (sizes : List ℕ) (i : ℕ) (aim : Aim) → IsNeeded (size ∷ sizes) (suc i) aim → IsNeeded sizes i aim
needed_behind size sizes i (Place form n) is = is
needed_behind size sizes i (Length fixed count) is = is

-- sizes that are each needed are found from the last to the first
needed_once : (aims : List Aim) (sizes : List ℕ) → length sizes ≡ length aims → ((i : ℕ) → i < length aims → IsNeeded sizes i (aim_at aims i)) → sizes ≡ needs aims
needed_once [] [] count each = refl
needed_once [] (size ∷ sizes) count each = absurd (omega (arith, count))
needed_once (aim ∷ aims) [] count each = absurd (omega (arith, count))
needed_once (Place form n ∷ aims) (size ∷ sizes) count each =
    let rest : sizes ≡ needs aims = needed_once aims sizes (omega (arith, count)) (λ i inside. needed_behind size sizes i (aim_at aims i) (each (suc i) (omega (arith, inside)))) in
    let first : size ≡ need form n = each 0 (omega arith) in
    ap (λ (z : ℕ). z ∷ sizes) first ∙ ap (λ (z : List ℕ). need form n ∷ z) rest
needed_once (Length fixed count ∷ aims) (size ∷ sizes) counted each =
    let rest : sizes ≡ needs aims = needed_once aims sizes (omega (arith, counted)) (λ i inside. needed_behind size sizes i (aim_at aims i) (each (suc i) (omega (arith, inside)))) in
    let first : size ≡ least_unsigned_len (fixed + total (take count sizes)) = each 0 (omega arith) in
    ap (λ (z : ℕ). z ∷ sizes) first ∙ ap (λ (z : List ℕ). least_unsigned_len (fixed + total (take count z)) ∷ z) rest

-- THE SIZES OF A LAYOUT

-- a row whose slot has the bytes of its number
row_needed : (f : Arena) (ops : ℕ → List Operation) (entries sizes : List ℕ) (start i : ℕ) (aim : Aim) (row : SlotRow) → IsRowOf f ops entries sizes start (place_told start aim) i aim row → slice_index sizes i ≡ need row.form (slot_number sizes row) → IsNeeded sizes i aim
row_needed f ops entries sizes start i (Place form n) row is size =
    let number : start + slot_number sizes row ≡ start + n = is.number in
    let told : slot_number sizes row ≡ n = omega (arith, number) in
    size ∙ ap (λ (z : SlotForm). need z (slot_number sizes row)) is.form_is ∙ ap (need form) told
row_needed f ops entries sizes start i (Length fixed count) row is size =
    let number : suc i + count - suc i ≡ count = omega arith in
    size
    ∙ ap (λ (z : SlotRow). need z.form (slot_number sizes z)) is
    ∙ ap (λ (n : ℕ). least_unsigned_len (fixed + sum (take n (drop (suc i) sizes)))) number
    ∙ ap (λ (n : ℕ). least_unsigned_len (fixed + n)) (total_sum (take count (drop (suc i) sizes)))

-- The sizes of a layout are those that its slots need, found from the last to the first.
pub layout_needs : (s : Reading) (u : ℕ) (rows : List SlotRow) (sizes : List ℕ) → (layout : HasLayout s u rows sizes) → sizes ≡ needs (all_aims (unit_at s.links u).forest layout.made.ops layout.made.lists)
layout_needs s u rows sizes layout =
    let unit = unit_at s.links u in
    let made = layout.made in
    let aims : List Aim = all_aims unit.forest made.ops made.lists in
    let count : length rows ≡ length aims = made.count in
    let sized : length sizes ≡ length rows = made.each in
    needed_once aims sizes (sized ∙ count) (λ i inside.
    let known : i < length rows = omega (arith, inside, count) in
    row_needed unit.forest made.ops (map (λ (e : Entry). e.at) unit.forest.entries) sizes unit.head.at i (aim_at aims i) (row_at rows i) (made.slots i known) (layout.sized i known))

-- each is one that a slot can have
call_need : (b : Bool) (size : ℕ) → size ≡ (if b then 2 else 4) → CanHaveSize call size
call_need true size is = inl is
call_need false size is = inr is

pub can_need : (form : SlotForm) (size number : ℕ) → size ≡ need form number → CanHaveSize form size
can_need uleb size number is = let some : 1 ≤ least_unsigned_len number = (least_unsigned number).enough.some in omega (arith, is, some)
can_need call size number is = call_need (nat_lt number 65536) size is

pub layout_can : (s : Reading) (u : ℕ) (rows : List SlotRow) (sizes : List ℕ) → HasLayout s u rows sizes → CanBeSizes rows sizes
layout_can s u rows sizes layout = record {
  each_slot = layout.made.each;
  sized = λ i inside. can_need (row_at rows i).form (slice_index sizes i) (slot_number sizes (row_at rows i)) (layout.sized i inside);
}
