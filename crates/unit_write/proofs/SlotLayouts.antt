-- The lengths of a unit's values under a layout of its slots are those that its new numbers need.
use Rattle.std.proofs.Common.{◌≡◌, ◌≤◌, ◌<◌, ◌+◌, ◌-◌, ℕ, zero, suc, List, [], ◌∷◌, ◌++◌, length, map, get_or, take, drop, sum, ◌∙◌, sym, ap, refl, subst, arith, inl, inr}
use Rattle.std.specs.List.{AllZip}
use Rattle.std.proofs.lemmas.Bool.{cases_lt}
use Rattle.std.proofs.lemmas.List.{length-append, ext_get_or, get_or_append_left}
use Rattle.std.proofs.lemmas.List.Sums.{sum_by-cons}
use Rattle.std.proofs.lemmas.Slice.Zip.{AllZip-long}
use Rattle.spelled.proofs.Parts.{length_part}
use Rattle.dw_base.specs.declared.fault.Reach.TheVariants.{Narrow}
use Rattle.dw_base.specs.declared.fault.Span.{Span}
use Rattle.leb_codec.specs.Leb.{least_unsigned_len}
use Rattle.leb_codec.specs.Layout.{SlotForm, SlotRow, row_at, slot_number, need}
use Rattle.expr_ops.specs.Expressions.{Operation}
use Rattle.expr_ops.specs.Ops.{all_meant}
use Rattle.expr_ops.specs.Drafts.{with_refs}
use Rattle.expr_ops.specs.Shortest.{fixed_length, shortest_length, LengthsSplit}
use Rattle.expr_ops.specs.Slots.{Aim, slots_among, op_aims, NeededAreShortest}
use Rattle.expr_ops.specs.Slots.Aim.{Place, Length}
use Rattle.form_codec.specs.declared.value.Value.{Value}
use Rattle.form_codec.specs.declared.value.Value.TheVariants as value
use Rattle.form_codec.specs.Forms.{Meaning}
use Rattle.form_codec.specs.Forms.Meaning.{Expression, InUnit}
use Rattle.form_codec.specs.Values.{bytes_in, meant_in}
use Rattle.entry_arena.specs.Arena.{Arena, value_at}
use Rattle.entry_arena.specs.Operations.{HeldOps, ops_of}
use Rattle.entry_read.specs.Expressions.{HasOperations}
use Rattle.entry_read.specs.Slots.{value_aims, aims_before, aims_of, aim_at, meaning_at, expression_bytes, operations_in, slots_before, IsRowOf}
use Rattle.unit_write.specs.declared.slots.Spot.{Spot}
use Rattle.unit_write.specs.declared.slots.Spot.TheVariants.{Nothing as NoSpot}
use Rattle.unit_write.specs.NewExpressions.{begin_of, lens_of, made_of, new_len, refs_of, operations_anew, AreWrittenShortest}
use Rattle.unit_write.specs.Values.{renewed}
use Rattle.unit_write.specs.Moved.{NewValues, lens_anew}
use Rattle.unit_write.specs.Slots.{spot_place, spot_at, list_spot, all_spots, IsSpotFor, IsSpotPlaced, aims_anew, LayoutsHold}
use Rattle.unit_write.proofs.EndLaws.{len_at}
use Rattle.unit_write.proofs.LensLaws.{anew_len, anew_at}
use Rattle.unit_write.proofs.FewLaws.{expr_or_other}
use Rattle.unit_write.proofs.SlotAims.{op_aims_length}
use Rattle.unit_write.proofs.Needs.{IsMet, AreMet, met_each, met_front, met_behind, met_length, with_renewed, renewed_fewer}

-- THE SLOTS OF EACH VALUE

-- a value has as many slots with its new number, and each has the size that it needs
record IsMetAt (old new : ℕ → Meaning) (os news : ℕ → List Operation) (sizes : List ℕ) (k : ℕ) : Type 0 where
  count : length (value_aims (new k) (news k)) ≡ length (value_aims (old k) (os k))
  met : AreMet (value_aims (old k) (os k)) (value_aims (new k) (news k)) (drop (length (aims_before old os k)) sizes)

module _ (old new : ℕ → Meaning) (os news : ℕ → List Operation) (fewer : (k : ℕ) → length (value_aims (new k) (news k)) ≤ length (value_aims (old k) (os k))) where
  both_count : (n : ℕ) → length (aims_before new news (suc n)) ≡ length (aims_before new news n) + length (value_aims (new n) (news n))
  both_count n = length-append (aims_before new news n) (value_aims (new n) (news n))

  old_count : (n : ℕ) → length (aims_before old os (suc n)) ≡ length (aims_before old os n) + length (value_aims (old n) (os n))
  old_count n = length-append (aims_before old os n) (value_aims (old n) (os n))

  fewer_before : (n : ℕ) → length (aims_before new news n) ≤ length (aims_before old os n)
  fewer_before zero = omega arith
  fewer_before (suc n) = let a = both_count n in let b = old_count n in let own = fewer n in let before = fewer_before n in omega (arith, a, b, own, before)

  met_values : (sizes : List ℕ) (n k : ℕ) → k < n → length (aims_before new news n) ≡ length (aims_before old os n) → AreMet (aims_before old os n) (aims_before new news n) sizes → IsMetAt old new os news sizes k
  met_values sizes zero k lt e m = absurd (omega arith)
  met_values sizes (suc n) k lt e m =
      let a = both_count n in
      let b = old_count n in
      let own = fewer n in
      let before = fewer_before n in
      let same : length (aims_before new news n) ≡ length (aims_before old os n) = omega (arith, a, b, own, before, e) in
      elim (cases_lt k n) [
        | inl less ↦ met_values sizes n k less same (met_front (aims_before old os n) (aims_before new news n) (value_aims (old n) (os n)) (value_aims (new n) (news n)) sizes same m)
        | inr more ↦
            let here : n ≡ k = omega arith in
            subst (IsMetAt old new os news sizes) here (record {
              count = omega (arith, a, b, e, same);
              met = met_behind (aims_before old os n) (aims_before new news n) (value_aims (old n) (os n)) (value_aims (new n) (news n)) sizes same m;
            })
      ]

-- with new references an expression has no more slots
value_fewer : (meaning : Meaning) (n : ℕ) (refs : List ℕ) (os : List Operation) → length (value_aims (renewed n [] meaning) (with_refs refs os)) ≤ length (value_aims meaning os)
value_fewer (InUnit old) n refs os = omega arith
value_fewer (Expression bytes) n refs os =
    let fewer = renewed_fewer os (with_refs refs os) (with_renewed refs os) in
    let a = op_aims_length os in
    let b = op_aims_length (with_refs refs os) in
    omega (arith, fewer, a, b)
value_fewer meaning n refs os = omega arith

-- WHAT EACH SLOT NEEDS

-- a row that is tight has the size of what its slot tells anew
row_met : (f : Arena) (ops : ℕ → List Operation) (entries ends sizes : List ℕ) (start i : ℕ) (spot : Spot) (aim new : Aim) (row : SlotRow) → IsRowOf f ops entries sizes start (spot_place entries ends spot) i aim row → get_or sizes i 0 ≡ need row.form (slot_number sizes row) → IsSpotPlaced start entries ends new spot → IsMet aim new (get_or sizes i 0) (drop (suc i) sizes)
row_met f ops entries ends sizes start i spot (Place form n) (Place other number) row is tight placed =
    let counts = is.number in
    let same : slot_number sizes row ≡ number = omega (arith, counts, placed) in
    tight ∙ ap (λ (z : SlotForm). need z (slot_number sizes row)) is.form_is ∙ ap (need form) same
row_met f ops entries ends sizes start i spot (Place form n) (Length fixed count) row is tight placed = tt
row_met f ops entries ends sizes start i spot (Length fixed count) new row is tight placed =
    let own : suc i + count - suc i ≡ count = omega arith in
    tight ∙ ap (λ (z : SlotRow). need z.form (slot_number sizes z)) is ∙ ap (λ (n : ℕ). least_unsigned_len (fixed + sum (take n (drop (suc i) sizes)))) own

zip_at : (R : Aim → Spot → Type 0) (aims : List Aim) (spots : List Spot) (i : ℕ) → AllZip R aims spots → i < length aims → R (aim_at aims i) (spot_at spots i)
zip_at R [] spots i z lt = absurd (omega arith)
zip_at R (aim ∷ aims) [] i z lt = absurd z
zip_at R (aim ∷ aims) (spot ∷ spots) zero z lt = z.0
zip_at R (aim ∷ aims) (spot ∷ spots) (suc i) z lt = zip_at R aims spots i z.1 (omega arith)

-- THE LENGTH OF EACH VALUE

module _ (shortest : NeededAreShortest) (split : LengthsSplit) where
  expression_len : (bytes refs : List ℕ) (os : List Operation) (n made : ℕ) (sizes : List ℕ) → made ≡ shortest_length refs os → length (value_aims (Expression []) (with_refs refs os)) ≡ length (value_aims (Expression bytes) os) → AreMet (value_aims (Expression bytes) os) (value_aims (Expression []) (with_refs refs os)) sizes → new_len (Expression bytes) n made ≡ fixed_length os + sum (take (length (value_aims (Expression bytes) os)) sizes)
  expression_len bytes refs os n made [] is e m = absurd m
  expression_len bytes refs os n made (size ∷ sizes) is e (own, m) =
      let a = op_aims_length os in
      let b = op_aims_length (with_refs refs os) in
      let long = met_length shortest split refs os sizes (omega (arith, a, b, e)) m in
      let first : size ≡ least_unsigned_len made = own ∙ ap least_unsigned_len (sym long ∙ sym is) in
      let taken : sum (take (length (op_aims os)) sizes) ≡ sum (take (slots_among os) sizes) = ap (λ (z : ℕ). sum (take z sizes)) a in
      let both = sum_by-cons (λ (x : ℕ). x) size (take (length (op_aims os)) sizes) in
      omega (arith, is, long, first, taken, both)

-- a value that is no expression
other_len : (section : List ℕ) (v : Value) (n made : ℕ) (os news : List Operation) (sizes : List ℕ) → ((span : Span) → v ≡ value.Expr span → ⊥) → os ≡ [] → AreMet (value_aims (meant_in section v) os) (value_aims (renewed n [] (meant_in section v)) news) sizes → new_len (meant_in section v) n made ≡ fixed_length os + sum (take (length (value_aims (meant_in section v) os)) sizes)
other_len section (value.Expr span) n made os news sizes none empty m = absurd (none span refl)
other_len section (value.LocalRef old) n made os news [] none empty m = absurd m
other_len section (value.LocalRef old) n made os news (size ∷ sizes) none empty m =
    let fixed : fixed_length os ≡ 0 = ap fixed_length empty in
    let own : size ≡ least_unsigned_len n = m.0 in
    omega (arith, fixed, own)
other_len section v n made os news sizes none empty m = let fixed : fixed_length os ≡ 0 = ap fixed_length empty in omega (arith, fixed)

-- an expression has the bytes between its ends
made_long : (ends bytes : List ℕ) (k : ℕ) → get_or ends k 0 ≤ length bytes → length (made_of ends bytes k) ≡ get_or (lens_of ends) k 0
made_long ends bytes k inside =
    let begin : ℕ = begin_of ends k in
    let end : ℕ = get_or ends k 0 in
    let len : get_or (lens_of ends) k 0 ≡ end - begin = len_at ends k in
    elim (cases_lt begin end) [
      | inl less ↦ length_part begin (end - begin) bytes (omega arith) ∙ sym len
      | inr more ↦
          let none : end - begin ≡ 0 = omega arith in
          ap (λ (n : ℕ). length (take n (drop begin bytes))) none ∙ sym none ∙ sym len
    ]

module _ (shortest : NeededAreShortest) (split : LengthsSplit) where
  -- the operations of an expression are those that are held of it
  value_len : (f : Arena) (held : HeldOps) (anew : NewValues) (op_numbers sizes : List ℕ) (k : ℕ) → k < length f.values → HasOperations Narrow f held → AreWrittenShortest f held anew.ends op_numbers anew.expressions → IsMetAt (meaning_at f) (λ (i : ℕ). renewed (get_or anew.held i 0) [] (meaning_at f i)) (operations_in f held) (operations_anew f held op_numbers) sizes k → new_len (meaning_at f k) (get_or anew.held k 0) (get_or (lens_of anew.ends) k 0) ≡ fixed_length (operations_in f held k) + sum (take (length (value_aims (meaning_at f k) (operations_in f held k))) (drop (slots_before f (operations_in f held) k) sizes))
  value_len f held anew op_numbers sizes k lt has written at =
      let n : ℕ = get_or anew.held k 0 in
      let made : ℕ = get_or (lens_of anew.ends) k 0 in
      let refs : List ℕ = refs_of held op_numbers k in
      let own : List ℕ = drop (slots_before f (operations_in f held) k) sizes in
      elim (expr_or_other f k lt) [
        | inl e ↦
            let span : Span = e.0 in
            let bytes : List ℕ = bytes_in f.section span in
            let is : meaning_at f k ≡ Expression bytes = ap (meant_in f.section) e.1.is in
            let here = written.each k span e.1 in
            let long : made ≡ shortest_length refs (all_meant bytes (ops_of held k)) = sym (made_long anew.ends anew.expressions k (written.all k lt)) ∙ here.long in
            subst (λ (m : Meaning). length (value_aims (renewed n [] m) (with_refs refs (all_meant (expression_bytes m) (ops_of held k)))) ≡ length (value_aims m (all_meant (expression_bytes m) (ops_of held k))) → AreMet (value_aims m (all_meant (expression_bytes m) (ops_of held k))) (value_aims (renewed n [] m) (with_refs refs (all_meant (expression_bytes m) (ops_of held k)))) own → new_len m n made ≡ fixed_length (all_meant (expression_bytes m) (ops_of held k)) + sum (take (length (value_aims m (all_meant (expression_bytes m) (ops_of held k)))) own)) (sym is) (λ count met. expression_len shortest split bytes refs (all_meant bytes (ops_of held k)) n made own long count met) at.count at.met
        | inr none ↦
            let empty : operations_in f held k ≡ [] = ap (all_meant (expression_bytes (meaning_at f k))) (has.only k none) in
            other_len f.section (value_at f.values k) n made (operations_in f held k) (operations_anew f held op_numbers k) own (λ span is. none span (record { inside = lt; is = is })) empty at.met
      ]

  pub layouts_hold : LayoutsHold
  layouts_hold unit table columns numbers held anew op_numbers more spots lists lens ranks start entries ends to has spotted held_many ends_many laid placed named written =
      let f : Arena = unit.forest in
      let ops = operations_in f held in
      let news = operations_anew f held op_numbers in
      let meanings = λ (i : ℕ). renewed (get_or anew.held i 0) [] (meaning_at f i) in
      let aims : List Aim = aims_of f ops in
      let others : List Aim = aims_anew f held anew.held op_numbers in
      let rows : List SlotRow = laid.rows in
      let sizes : List ℕ = laid.sizes in
      let under = laid.lens_are in
      let count : length rows ≡ length aims + length more = laid.slots.count ∙ length-append aims more in
      let long : length sizes ≡ length rows = laid.layout.same_length in
      let spots_many : length spots ≡ length aims = AllZip-long (IsSpotFor f unit.head.at) aims spots spotted in
      let others_many : length spots ≡ length others = AllZip-long (IsSpotPlaced start entries ends) others spots named in
      let met : AreMet aims others sizes = met_each aims others sizes (omega (arith, spots_many, others_many)) (omega (arith, count, long)) (λ i lt.
      let inside : i < length rows = omega (arith, lt, count) in
      let aim : aim_at (aims ++ more) i ≡ aim_at aims i = get_or_append_left aims more (Length 0 0) i lt in
      let spot : spot_at (all_spots spots lists) i ≡ spot_at spots i = get_or_append_left spots (map list_spot lists) NoSpot i (omega (arith, lt, spots_many)) in
      let row = subst (λ (z : Spot). IsRowOf f ops entries sizes start (spot_place entries ends z) i (aim_at (aims ++ more) i) (row_at rows i)) spot (laid.slots.each sizes lens start entries ends to long under placed i inside) in
      let own = subst (λ (z : Aim). IsRowOf f ops entries sizes start (spot_place entries ends (spot_at spots i)) i z (row_at rows i)) aim row in
      row_met f ops entries ends sizes start i (spot_at spots i) (aim_at aims i) (aim_at others i) (row_at rows i) own (laid.tight i inside) (zip_at (IsSpotPlaced start entries ends) others spots i named (omega (arith, lt, spots_many, others_many)))) in
      let many : length (lens_anew f anew) ≡ length f.values = anew_len f anew held_many ends_many in
      ext_get_or 0 (lens_anew f anew) lens (many ∙ sym under.count) (λ k less.
      let lt : k < length f.values = omega (arith, less, many) in
      let at = met_values (meaning_at f) meanings ops news (λ (i : ℕ). value_fewer (meaning_at f i) (get_or anew.held i 0) (refs_of held op_numbers i) (ops i)) sizes (length f.values) k lt (omega (arith, spots_many, others_many)) met in
      let ranged : slots_before f ops (suc k) - slots_before f ops k ≡ length (value_aims (meaning_at f k) (ops k)) = let both = length-append (aims_before (meaning_at f) ops k) (value_aims (meaning_at f k) (ops k)) in omega (arith, both) in
      anew_at f anew held_many ends_many k lt
      ∙ value_len f held anew op_numbers sizes k lt has written at
      ∙ sym (under.each k lt ∙ ap (λ (n : ℕ). fixed_length (ops k) + sum (take n (drop (slots_before f ops k) sizes))) ranged))
