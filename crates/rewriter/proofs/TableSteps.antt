-- The tables of a file are written one by one, each with the columns that are chosen for it.
use Rattle.std.proofs.Common.{◌≡◌, ◌<◌, ◌^◌, ◌∙◌, ℕ, List, [], length, get_or, sym, ap, subst, arith}
use Rattle.std.specs.Prelude.{Result, Ok, Err, IfOk}
use Rattle.std.specs.List.{All}
use Rattle.std.proofs.lemmas.List.{get_or_default}
use Rattle.dw_base.specs.declared.classes.Classes.{Classes}
use Rattle.dw_base.specs.declared.fault.NoMemory.{NoMemory}
use Rattle.dw_base.specs.declared.fault.Reach.{Reach}
use Rattle.abbrev_tables.specs.declared.decl.Spec.{Spec}
use Rattle.abbrev_tables.specs.Written.{IsWritableColumn}
use Rattle.entry_read.specs.Units.{HeadAndForest, IsTable}
use Rattle.value_links.specs.declared.units.NamedTable.{NamedTable}
use Rattle.value_links.specs.Sections.{debug_info}
use Rattle.value_links.specs.World.{World, table_at, IsWorldOf}
use Rattle.rewriter.specs.declared.tables.NewTable.{NewTable}
use Rattle.rewriter.specs.declared.uses.Uses.{Uses}
use Rattle.rewriter.specs.inside.Tables.{AreColumnsChosen}
use Rattle.rewriter.specs.inside.Counting.{AreCounted, counts_in}
use Rattle.rewriter.specs.inside.Columns.{units_with, AreUnitsOf, AreBestInside}
use Rattle.rewriter.proofs.ColumnMeanings.{AreOfTable}
use Rattle.rewriter.proofs.ColumnNamed.{units_of_table}
use Rattle.rewriter.proofs.ColumnsChosen.{columns_chosen, columns_writable}
use Rattle.rewriter.proofs.UseLaws.{counts_at}
use Rattle.rewriter.proofs.WorldFacts.{of_table, table_known}

-- ONE TABLE

module _ (world : World) (reach : Reach) (is : IsWorldOf world.image reach world) (number : ℕ) (known : number < length world.tables) (tables : List NamedTable) (tables_are : tables ≡ world.tables) (old : NamedTable) (old_is : old ≡ get_or tables number old) where
  -- it is the one of the world
  pub table_there : table_at world.tables number ≡ old
  table_there =
      let inside : number < length tables = subst (λ (ts : List NamedTable). number < length ts) (sym tables_are) known in
      ap (λ (ts : List NamedTable). table_at ts number) (sym tables_are) ∙ get_or_default tables number (table_at [] 0) old inside ∙ sym old_is

  pub table_stands : IsTable old.table
  table_stands = subst (λ (t : NamedTable). IsTable t.table) table_there (table_known world reach is number known)

  of_old : AreOfTable world.units old (debug_info world.image) world.table_of number
  of_old = subst (λ (t : NamedTable). AreOfTable world.units t (debug_info world.image) world.table_of number) table_there (of_table world reach is number known)

  module _ (units : List HeadAndForest) (units_are : units ≡ world.units) (named : List ℕ) (named_are : named ≡ units_with world.table_of number (length world.units)) where
    units_there : AreUnitsOf units old.table named (debug_info world.image)
    units_there =
        let listed : AreUnitsOf world.units old.table named (debug_info world.image) = subst (λ (ns : List ℕ). AreUnitsOf world.units old.table ns (debug_info world.image)) (sym named_are) (units_of_table world.units old (debug_info world.image) world.table_of number of_old) in
        subst (λ (us : List HeadAndForest). AreUnitsOf us old.table named (debug_info world.image)) (sym units_are) listed

    -- the units that are listed have it
    pub units_stand : (section : List ℕ) × AreUnitsOf units old.table named section
    units_stand = (debug_info world.image, units_there)

    module _ {classes : Classes} (columns : List Spec) (best : (section : List ℕ) → AreUnitsOf units old.table named section → AreBestInside classes section units old.table.decls named old.table.specs columns) where
      best_there : AreBestInside classes (debug_info world.image) world.units old.table.decls (units_with world.table_of number (length world.units)) old.table.specs columns
      best_there =
          let listed = subst (λ (ns : List ℕ). AreBestInside classes (debug_info world.image) units old.table.decls ns old.table.specs columns) named_are (best (debug_info world.image) units_there) in
          subst (λ (us : List HeadAndForest). AreBestInside classes (debug_info world.image) us old.table.decls (units_with world.table_of number (length world.units)) old.table.specs columns) units_are listed

      -- the columns that are best for the values are those in their least forms
      pub chosen_there : AreColumnsChosen classes world.units (table_at world.tables number) columns
      chosen_there = subst (λ (t : NamedTable). AreColumnsChosen classes world.units t columns) (sym table_there) (columns_chosen world.units old (debug_info world.image) world.table_of number of_old columns best_there)

      pub writable_there : All IsWritableColumn columns
      writable_there = columns_writable world.units (table_at world.tables number) (table_known world reach is number known) columns chosen_there

      pub renewed_there : length columns ≡ length old.table.specs
      renewed_there = best_there.inside.count ∙ best_there.are.count

-- the columns of a table that is written are those that were chosen
pub chosen_still : {classes : Classes} → (units : List HeadAndForest) (old : NamedTable) (columns : List Spec) (r : Result NewTable NoMemory) → AreColumnsChosen classes units old columns → IfOk r (λ new. new.columns.items ≡ columns) → IfOk r (λ new. AreColumnsChosen classes units old new.columns.items)
chosen_still {classes} units old columns (Ok new) chosen same = subst (λ (cs : List Spec). AreColumnsChosen classes units old cs) (sym same) chosen
chosen_still units old columns (Err e) chosen same = tt

-- THE USES OF A TABLE

-- the uses of its declarations, as they are read from the list
module _ (units : List HeadAndForest) (tables : List NamedTable) (all : List Uses) (counted : AreCounted units tables all) (i : ℕ) (below : i < length tables) (uses : Uses) (uses_is : uses ≡ get_or all i uses) where
  pub counts_there : counts_in all i ≡ uses.counts.items
  counts_there = counts_at all i uses (omega (arith, counted.count, below)) uses_is

  pub few_at : length uses.counts.items < 2 ^ 32
  few_at = subst (λ (ns : List ℕ). length ns < 2 ^ 32) counts_there (counted.few i below)
