-- What is amiss stands in its section, or at its end.
use Rattle.std.proofs.Common.{◌≡◌, ◌≤◌, ◌<◌, ◌+◌, ◌-◌, inl, inr, ◌∙◌, ℕ, zero, suc, List, [], ◌∷◌, length, take, drop, ap, arith}
use Rattle.std.proofs.lemmas.List.{length-append, length-take}
use Rattle.std.proofs.lemmas.List.Elements.{All-get_or}
use Rattle.dw_base.specs.declared.classes.Classes.{Classes}
use Rattle.abbrev_tables.specs.declared.decl.Decl.{Decl}
use Rattle.abbrev_tables.specs.declared.decl.Spec.{Spec}
use Rattle.abbrev_tables.specs.Listings.{Listing, decl_at, ArePlaced, IsTableAt}
use Rattle.entry_read.proofs.PlaceLaws.{units_lie}
use Rattle.value_links.specs.Sections.{debug_info, debug_abbrev}
use Rattle.value_links.specs.Reading.{Reading, unit_at, no_unit, declarations, IsUnitRead}
use Rattle.value_links.specs.Values.{entry_of}
use Rattle.value_links.specs.Whole.{IsReading}
use Rattle.tidy_tables.specs.Untidy.{IsUntidyTable, IsUntidyDeclaration, IsUntidyEntry}

-- a declaration begins among the bytes of all
begins_placed : (specs : List Spec) (place : ℕ) (decls : List Decl) (bytes : List ℕ) (k : ℕ) → ArePlaced specs place decls bytes → k < length decls → (decl_at decls k).at ≤ place + length bytes
begins_placed specs place [] bytes k placed inside = absurd (omega arith)
begins_placed specs place (d ∷ decls) bytes zero (first, rest, here, spelled, placed, parts) inside = omega arith
begins_placed specs place (d ∷ decls) bytes (suc k) (first, rest, here, spelled, placed, parts) inside =
    let later : (decl_at decls k).at ≤ place + length first + length rest = begins_placed specs (place + length first) decls rest k placed (omega arith) in
    let size : length bytes ≡ length first + length rest = ap length parts ∙ length-append first rest in
    omega arith

decl_inside : (section : List ℕ) (at_place : ℕ) (t : Listing) (k : ℕ) → IsTableAt section at_place t → k < length t.decls → (decl_at t.decls k).at ≤ length section
decl_inside section at_place t k is inside =
    let begins : (decl_at t.decls k).at ≤ at_place + length is.front = begins_placed t.specs at_place t.decls is.front k is.placed inside in
    let whole : length (take (t.end - at_place) (drop at_place section)) ≡ length is.front + length is.end = ap length is.whole ∙ length-append is.front is.end in
    let taken = length-take (t.end - at_place) (drop at_place section) in
    let starts = is.starts in
    let ends = is.inside in
    omega arith

module _ (file written : List ℕ) (r s : Reading) (again : IsReading written s) (count : length r.links.units ≡ length s.links.units) where
  unit_is : (u : ℕ) → u < length s.links.units → IsUnitRead (debug_info written) (debug_abbrev written) (unit_at s.links u)
  unit_is u inside = All-get_or (IsUnitRead (debug_info written) (debug_abbrev written)) s.links.units u no_unit inside again.links.units.each

  place_inside : (u q : ℕ) → u < length s.links.units → (unit_at s.links u).head.table ≡ q → q ≤ length (debug_abbrev written)
  place_inside u q inside here = let named = (unit_is u inside).named in omega arith

  pub table_inside : (q : ℕ) → IsUntidyTable r.links s.links q → q ≤ length (debug_abbrev written)
  table_inside q (inl (old, before, other, (u, first, here), written, order, behind)) = place_inside u q (let inside = first.0 in omega arith) here
  table_inside q (inr (inl (u, v, inside, known, here, from, to))) = place_inside v q known here
  table_inside q (inr (inr (inl (u, place, inside, here, written, elsewhere)))) = place_inside u q inside here
  table_inside q (inr (inr (inr (inl (u, uses, i, inside, here, are, known, none))))) = place_inside u q inside here
  table_inside q (inr (inr (inr (inr (inl others))))) = place_inside others.u q (let inside = others.namer.0 in omega arith) others.place
  table_inside q (inr (inr (inr (inr (inr more))))) = place_inside more.u q more.known more.place

  pub declaration_inside : (classes : Classes) (p : ℕ) → IsUntidyDeclaration classes s.links p → p ≤ length (debug_abbrev written)
  declaration_inside classes p (u, k, inside, known, here, amiss) =
      let within : (decl_at (unit_at s.links u).table.decls k).at ≤ length (debug_abbrev written) = decl_inside (debug_abbrev written) (unit_at s.links u).head.table (unit_at s.links u).table k (unit_is u inside).table known in
      omega arith

  pub entry_inside : (p : ℕ) → IsUntidyEntry r.links s.links p → p ≤ length (debug_info written)
  entry_inside p e =
      let unit = unit_is e.u e.known in
      let lies = units_lie (debug_info written) (unit_at s.links e.u).head (declarations (unit_at s.links e.u)) (unit_at s.links e.u).forest unit.section unit.entries in
      let within : (entry_of (unit_at s.links e.u) e.id).at + (entry_of (unit_at s.links e.u) e.id).len ≤ length (unit_at s.links e.u).forest.section = lies.order.entered.inside e.id e.inside in
      let section : length (unit_at s.links e.u).forest.section ≡ length (debug_info written) = ap length unit.section in
      let here = e.place in
      omega arith
