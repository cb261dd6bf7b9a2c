use Rattle.std.proofs.Common.{◌∙◌, ℕ, List, length, sym, subst, true≢false}
use Rattle.std.specs.Prelude.{Option, MatchOption}
use Rattle.dw_base.specs.Refusals.{IsFaultOf}
use Rattle.dw_base.specs.declared.fault.Fault.{Fault}
use Rattle.list_model.specs.Addresses.{TablesFollow}
use Rattle.list_model.specs.Faults.{FaultTables as FaultTablesOf}
use Rattle.value_links.specs.Sections.{offset_named, debug_addr, addr_name}
use Rattle.value_links.specs.Whole.{HasAddrBase}
use Rattle.value_links.proofs.WorldLaws.{addresses_refused}
use Rattle.value_links.proofs.world.check_addresses.Goals as goal

pub returns-in-Some-clause-refused : goal.returns-in-Some-clause-refused
returns-in-Some-clause-refused c =
    let file : List ℕ = c.args.file.now in
    let parts = c.args.parts.now in
    let read = c.requires.parts in
    let has = (c.names_addresses.ensures file read.r read.holds).0 c.if-names_addresses.true in
    let fault = subst (λ (z : Option Fault). MatchOption z (TablesFollow (debug_addr file) parts.tables.items 0 (length (debug_addr file))) (IsFaultOf (FaultTablesOf (debug_addr file)) (offset_named file addr_name))) c.in-Some.is c.requires.fault in
    addresses_refused file parts read c.in-Some.fault has fault

-- no entry names an address table
pub returns-in_default-clause-tables : goal.returns-in_default-clause-tables
returns-in_default-clause-tables c = λ r holds.
    let none : HasAddrBase r.units → ⊥ = λ has. true≢false (sym ((c.names_addresses.ensures c.args.file.now r holds).1 has) ∙ c.if-names_addresses.false) in
    λ has. absurd (none has)

-- address tables fill their section
pub returns-in_default-2-clause-tables : goal.returns-in_default-2-clause-tables
returns-in_default-2-clause-tables c = λ r holds.
    let file : List ℕ = c.args.file.now in
    let parts = c.args.parts.now in
    let filled = subst (λ (z : Option Fault). MatchOption z (TablesFollow (debug_addr file) parts.tables.items 0 (length (debug_addr file))) (IsFaultOf (FaultTablesOf (debug_addr file)) (offset_named file addr_name))) c.in_default.is c.requires.fault in
    λ has. (parts.tables.items, subst (λ (z : List ℕ). TablesFollow z parts.tables.items 0 (length z)) (sym holds.read.addresses) filled)
