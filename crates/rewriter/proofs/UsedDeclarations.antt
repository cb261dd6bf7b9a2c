-- The declaration of each entry is used, and so has a number in the table that is written anew.
use Rattle.std.proofs.Common.{◌≡◌, ◌≤◌, ◌<◌, ◌+◌, ◌∙◌, ℕ, zero, suc, List, [], ◌∷◌, length, get_or, sym, ap, subst, refl, arith, cond, eqb}
use Rattle.std.specs.Prelude.{Bool, map, slice_index, count_by, true}
use Rattle.std.specs.List.{sum_by}
use Rattle.std.proofs.lemmas.List.{get_or-map, length-map}
use Rattle.std.proofs.lemmas.List.Elements.{All-get_or}
use Rattle.std.proofs.lemmas.Bool.{eq-eqb, cond-true}
use Rattle.std.proofs.lemmas.List.Sums.{sum_by-cons}
use Rattle.dw_base.specs.declared.classes.Classes.{Classes}
use Rattle.abbrev_tables.specs.Tables.{Declared}
use Rattle.abbrev_tables.specs.Listings.{declared_in}
use Rattle.entry_arena.specs.declared.entry.Entry.{Entry}
use Rattle.entry_arena.specs.Arena.{Arena, entry_at}
use Rattle.entry_arena.specs.Trees.{listed_to}
use Rattle.entry_arena.proofs.FrontLaws.{comes_to_entry}
use Rattle.entry_arena.proofs.TreeLaws.{trees_are_walks}
use Rattle.entry_read.specs.declared.head.UnitHead.{UnitHead}
use Rattle.entry_read.specs.Units.{HeadAndForest, entries_at, IsUnitHeld}
use Rattle.value_links.specs.declared.units.NamedTable.{NamedTable}
use Rattle.value_links.specs.Sections.{debug_info, debug_abbrev}
use Rattle.value_links.specs.Reading.{UnitRead, Reading, no_unit, unit_at, declarations, IsUnitRead}
use Rattle.value_links.specs.Whole.{IsReading}
use Rattle.value_links.specs.Values.{entry_of}
use Rattle.value_links.specs.World.{World, head_and_forest, named_by, Holds}
use Rattle.rewriter.specs.declared.tables.NewTable.{NewTable}
use Rattle.written_files.specs.Uses.{uses_of, entries_with}
use Rattle.rewriter.specs.inside.Tables.{new_table_at, IsTableWritten, AreTablesWritten}

-- a sum is no less than one of its addends
sum_at : {X : Type 0} (f : X → ℕ) (xs : List X) (i : ℕ) (d : X) → i < length xs → f (get_or xs i d) ≤ sum_by f xs
sum_at f [] i d inside = absurd (omega arith)
sum_at f (x ∷ xs) zero d inside =
    let parts : sum_by f (x ∷ xs) ≡ f x + sum_by f xs = sum_by-cons f x xs in
    omega arith
sum_at f (x ∷ xs) (suc i) d inside =
    let parts : sum_by f (x ∷ xs) ≡ f x + sum_by f xs = sum_by-cons f x xs in
    let rest : f (get_or xs i d) ≤ sum_by f xs = sum_at f xs i d (omega arith) in
    omega arith

-- an item that passes a test is counted
counted_at : {X : Type 0} (p : X → Bool) (xs : List X) (i : ℕ) (d : X) → i < length xs → p (get_or xs i d) ≡ true → 1 ≤ count_by p xs
counted_at {X} p xs i d inside passes =
    let one : cond {A = ℕ} (p (get_or xs i d)) 1 0 ≡ 1 = cond-true {A = ℕ} (p (get_or xs i d)) 1 0 passes in
    let all : cond {A = ℕ} (p (get_or xs i d)) 1 0 ≤ count_by p xs = sum_at (λ (x : X). cond {A = ℕ} (p x) 1 0) xs i d inside in
    omega arith

-- the declaration of an entry has a use among units
is_used : (units : List HeadAndForest) (u id : ℕ) (none : HeadAndForest) → u < length units → id < length (get_or units u none).forest.entries → 1 ≤ uses_of units (get_or units u none).head.table (entry_at (get_or units u none).forest.entries id).decl
is_used units u id none inside known =
    let unit : HeadAndForest = get_or units u none in
    let no_entry : Entry = record { at = 0; len = 0; depth = 0; decl = 0; first = 0; count = 0 } in
    let decl : ℕ = (entry_at unit.forest.entries id).decl in
    let one : 1 ≤ entries_with decl unit = counted_at (λ (e : Entry). eqb e.decl decl) unit.forest.entries id no_entry known (eq-eqb decl decl refl) in
    let here : cond {A = ℕ} (eqb unit.head.table unit.head.table) (entries_with decl unit) 0 ≡ entries_with decl unit = cond-true {A = ℕ} (eqb unit.head.table unit.head.table) (entries_with decl unit) 0 (eq-eqb unit.head.table unit.head.table refl) in
    let all : cond {A = ℕ} (eqb unit.head.table unit.head.table) (entries_with decl unit) 0 ≤ uses_of units unit.head.table decl = sum_at (λ (x : HeadAndForest). cond {A = ℕ} (eqb x.head.table unit.head.table) (entries_with decl x) 0) units u none inside in
    omega arith

-- the declaration of an entry is one of the unit's
declaration_known : (info : List ℕ) (head : UnitHead) (ds : List Declared) (f : Arena) → IsUnitHeld info head ds f → (id : ℕ) → id < length f.entries → (entry_at f.entries id).decl < length ds
declaration_known info head ds f (end, unit) id inside =
    let whole = (trees_are_walks info ds (entries_at head) (listed_to f end)).0 unit.tree in
    let c = comes_to_entry info ds (entries_at head) whole.items (listed_to f end) [] whole.walked id inside in
    subst (λ (z : Entry). z.decl < length ds) (sym c.here) c.adds.known

module _ {classes : Classes} {file : List ℕ} {world : World} {tables : List NewTable} {abbrevs : List ℕ} {r : Reading} (read : IsReading file r) (holds : Holds file world r) (tables_are : AreTablesWritten classes world abbrevs tables) where
  -- a unit is read of the file
  pub unit_is : (u : ℕ) → u < length r.links.units → IsUnitRead (debug_info file) (debug_abbrev file) (unit_at r.links u)
  unit_is u inside = All-get_or (IsUnitRead (debug_info file) (debug_abbrev file)) r.links.units u no_unit inside read.links.units.each

  -- the table of a unit is written anew
  pub table_written : (u : ℕ) → u < length r.links.units → IsTableWritten classes world.units abbrevs (named_by (unit_at r.links u)) (new_table_at tables (slice_index world.table_of u))
  table_written u inside =
      let i : ℕ = slice_index world.table_of u in
      subst (λ (z : NamedTable). IsTableWritten classes world.units abbrevs z (new_table_at tables i)) (holds.tables.each u inside) (tables_are.each i (holds.tables.inside u inside))

  -- the declaration of an entry is one of the table
  pub decl_known : (u id : ℕ) → u < length r.links.units → id < length (unit_at r.links u).forest.entries → (entry_of (unit_at r.links u) id).decl < length (unit_at r.links u).table.decls
  decl_known u id inside known =
      let unit : UnitRead = unit_at r.links u in
      let size : length (declarations unit) ≡ length unit.table.decls = length-map unit.table.decls (declared_in unit.table.specs) in
      subst (λ (z : ℕ). (entry_of unit id).decl < z) size (declaration_known (debug_info file) unit.head (declarations unit) unit.forest (unit_is u inside).entries id known)

  -- and an entry has it
  pub decl_has_uses : (u id : ℕ) → u < length r.links.units → id < length (unit_at r.links u).forest.entries → 1 ≤ uses_of world.units (unit_at r.links u).head.table (entry_of (unit_at r.links u) id).decl
  decl_has_uses u id inside known =
      let unit : UnitRead = unit_at r.links u in
      let none : HeadAndForest = head_and_forest no_unit in
      let size : length (map head_and_forest r.links.units) ≡ length r.links.units = length-map r.links.units head_and_forest in
      let here : get_or (map head_and_forest r.links.units) u none ≡ head_and_forest unit = get_or-map head_and_forest r.links.units u no_unit none inside in
      let there : get_or world.units u none ≡ head_and_forest unit = ap (λ (z : List HeadAndForest). get_or z u none) holds.units ∙ here in
      let among : u < length world.units = subst (λ (z : List HeadAndForest). u < length z) (sym holds.units) (subst (λ (z : ℕ). u < z) (sym size) inside) in
      let some = is_used world.units u id none among (subst (λ (z : HeadAndForest). id < length z.forest.entries) (sym there) known) in
      subst (λ (z : HeadAndForest). 1 ≤ uses_of world.units z.head.table (entry_at z.forest.entries id).decl) there some

  -- so it has a number
  pub decl_used : (u id : ℕ) → u < length r.links.units → id < length (unit_at r.links u).forest.entries → 1 ≤ slice_index (new_table_at tables (slice_index world.table_of u)).numbers (entry_of (unit_at r.links u) id).decl
  decl_used u id inside known =
      let unit : UnitRead = unit_at r.links u in
      let decl : ℕ = (entry_of unit id).decl in
      let w = table_written u inside in
      let uses = decl_has_uses u id inside known in
      let declared : decl < length unit.table.decls = decl_known u id inside known in
      let is : slice_index w.uses decl ≡ uses_of world.units unit.head.table decl = w.used.each decl declared in
      let counted : decl < length w.uses = subst (λ (z : ℕ). decl < z) (sym w.used.count) declared in
      w.least.member.positive decl (record { inside = counted; some = omega (arith, is, uses) })
