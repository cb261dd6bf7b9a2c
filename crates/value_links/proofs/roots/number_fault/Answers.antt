use Rattle.std.proofs.Common.{ℕ, List}
use Rattle.value_links.specs.Reading.{Linkable}
use Rattle.value_links.specs.Parts.{HoldsParts}
use Rattle.value_links.proofs.RootAddresses.{has_address, lacks_address, lacks_table, cause_here}
use Rattle.value_links.proofs.roots.number_fault.Goals as goal

pub returns-in_default : goal.returns-in_default
returns-in_default c = λ (file : List ℕ) (r : Linkable) (holds : HoldsParts file r c.args.parts.now).
    let none = lacks_table r c.args.number c.args.index c.addresses_for.result (c.addresses_for.ensures file r holds) c.in_default.is in
    cause_here file r c.args.parts.now holds c.args.number c.requires.number c.unit_of-unit.result.now c.table_of.result.now c.unit_of-unit.ensures c.table_of.ensures.table c.args.index c.base_cause.result none c.base_cause.ensures

pub returns-then-index-addresses : goal.returns-then-index-addresses
returns-then-index-addresses c = λ (file : List ℕ) (r : Linkable) (holds : HoldsParts file r c.args.parts.now).
    has_address r c.args.number c.args.index c.addresses_for.result (c.addresses_for.ensures file r holds) c.in-Some.addresses c.in-Some.is c.if-index-addresses.true

pub returns-else-index-addresses : goal.returns-else-index-addresses
returns-else-index-addresses c = λ (file : List ℕ) (r : Linkable) (holds : HoldsParts file r c.args.parts.now).
    lacks_address r c.args.number c.args.index c.addresses_for.result (c.addresses_for.ensures file r holds) c.in-Some.addresses c.in-Some.is c.if-index-addresses.false
