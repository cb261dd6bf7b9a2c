use Rattle.std.proofs.Common.{◌≡◌, ℕ, List, length, subst}
use Rattle.std.specs.Prelude.{MatchOption}
use Rattle.std.proofs.lemmas.Result.{IfOk-weaker}
use Rattle.dw_base.specs.Refusals.{IsFaultOf}
use Rattle.list_model.specs.Addresses.{TablesFollow, AreAllTables}
use Rattle.list_model.specs.Faults.{FaultTables as FaultTablesOf}
use Rattle.value_links.specs.Sections.{offset_named, debug_addr, addr_name}
use Rattle.value_links.proofs.WorldLaws.{bytes_are, origin_is}
use Rattle.value_links.proofs.world.read_addresses.Goals as goal

pub returns-clause-all : goal.returns-clause-all
returns-clause-all c =
    let addr = c.debug_section-addr in
    let bytes : addr.result.bytes.now ≡ debug_addr c.args.file.now = bytes_are c.args.file.now c.as_slice.result.now addr_name addr.result.bytes.now c.as_slice.ensures addr.ensures.bytes in
    IfOk-weaker c.addr_tables.result (λ read. AreAllTables addr.result.bytes.now read.tables.items) (λ read. AreAllTables (debug_addr c.args.file.now) read.tables.items) (λ read all. subst (λ (z : List ℕ). AreAllTables z read.tables.items) bytes all) c.addr_tables.ensures.all

pub returns-clause-fault : goal.returns-clause-fault
returns-clause-fault c =
    let addr = c.debug_section-addr in
    let bytes : addr.result.bytes.now ≡ debug_addr c.args.file.now = bytes_are c.args.file.now c.as_slice.result.now addr_name addr.result.bytes.now c.as_slice.ensures addr.ensures.bytes in
    let origin : addr.result.origin ≡ offset_named c.args.file.now addr_name = origin_is c.args.file.now c.as_slice.result.now addr_name addr.result.origin c.as_slice.ensures addr.ensures.origin in
    IfOk-weaker c.addr_tables.result (λ read. MatchOption read.fault (TablesFollow addr.result.bytes.now read.tables.items 0 (length addr.result.bytes.now)) (IsFaultOf (FaultTablesOf addr.result.bytes.now) addr.result.origin)) (λ read. MatchOption read.fault (TablesFollow (debug_addr c.args.file.now) read.tables.items 0 (length (debug_addr c.args.file.now))) (IsFaultOf (FaultTablesOf (debug_addr c.args.file.now)) (offset_named c.args.file.now addr_name))) (λ read fault. subst (λ (z : List ℕ). MatchOption read.fault (TablesFollow z read.tables.items 0 (length z)) (IsFaultOf (FaultTablesOf z) (offset_named c.args.file.now addr_name))) bytes (subst (λ (o : ℕ). MatchOption read.fault (TablesFollow addr.result.bytes.now read.tables.items 0 (length addr.result.bytes.now)) (IsFaultOf (FaultTablesOf addr.result.bytes.now) o)) origin fault)) c.addr_tables.ensures.fault
