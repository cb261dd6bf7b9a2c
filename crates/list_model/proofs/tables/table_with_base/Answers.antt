use Rattle.std.proofs.Common.{rules, ◌≡◌, ◌≤◌, ◌+◌, ◌-◌, ℕ, List, arith}
use Rattle.std.proofs.lemmas.List.Sorted.{answers_always}
use Rattle.list_model.specs.Addresses.{AreAllTables, HasBase}
use Rattle.list_model.specs.declared.tables.AddrTable.{AddrTable}
use Rattle.list_model.proofs.AllTables.{no_table, table_among, rising, has_base, base_among}
use Rattle.list_model.proofs.Found.{found, not_found}
use Rattle.list_model.proofs.tables.table_with_base.Goals as goal

-- a header of 8 bytes stands before the base
behind_header : (base at place : ℕ) → at ≡ place → 8 ≤ base → place ≡ base - 8 → at + 8 ≡ base
behind_header base at place here low is = omega arith

before_addresses : (base at place : ℕ) → at + 8 ≡ base → place ≡ base - 8 → at ≡ place
before_addresses base at place begins is = omega arith

-- the closure gives the place of a table
pub returns-in-Ok : goal.returns-in-Ok
returns-in-Ok c = λ (addr : List ℕ) (all : AreAllTables addr c.args.tables.now).
    let tables = c.args.tables.now in
    let position = c.in-Ok.ensures.position (λ table. table.at) (answers_always _ _ _ (λ f a r g called. search rules)) in
    let at : (table_among tables c.in-Ok.number).at ≡ c.in_ok-at.at = found (λ (table : AddrTable). table.at) tables no_table (rising addr tables 0 all.end all.follow) c.in_ok-at.at c.in-Ok.number position in
    has_base addr tables c.args.base c.in-Ok.number all c.in-Ok.ensures.bound (behind_header c.args.base (table_among tables c.in-Ok.number).at c.in_ok-at.at at c.in_ok-at.ensures.0 c.in_ok-at.ensures.1)

pub returns-in-Err : goal.returns-in-Err
returns-in-Err c = λ (addr : List ℕ) (all : AreAllTables addr c.args.tables.now) (table : AddrTable) (has : HasBase addr c.args.base table).
    let tables = c.args.tables.now in
    let parted = c.in-Err.ensures.position (λ table. table.at) (answers_always _ _ _ (λ f a r g called. search rules)) in
    let one = base_among addr tables c.args.base table all has in
    not_found (λ (table : AddrTable). table.at) tables no_table (rising addr tables 0 all.end all.follow) c.in_ok-at.at c.in-Err.field-0 parted one.0 one.1 (before_addresses c.args.base (table_among tables one.0).at c.in_ok-at.at one.2 c.in_ok-at.ensures.1)
