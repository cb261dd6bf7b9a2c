use Rattle.list_model.proofs.EntryReads.{address_short, address_there}
use Rattle.list_model.proofs.read.read_operand.Goals as goal

pub returns-then-bytes-at-lt-ADDRESS_SIZE-clause-fault :
    goal.returns-then-bytes-at-lt-ADDRESS_SIZE-clause-fault
returns-then-bytes-at-lt-ADDRESS_SIZE-clause-fault c =
    address_short c.args.bytes.now c.args.at c.args.origin c.args.operand c.fault_at-then-bytes-at-lt-ADDRESS_SIZE.result c.requires.inside c.in-Address.is c.if-bytes-at-lt-ADDRESS_SIZE.true c.fault_at-then-bytes-at-lt-ADDRESS_SIZE.ensures

pub returns-else-bytes-at-lt-ADDRESS_SIZE-clause-read :
    goal.returns-else-bytes-at-lt-ADDRESS_SIZE-clause-read
returns-else-bytes-at-lt-ADDRESS_SIZE-clause-read c =
    address_there c.args.bytes.now c.args.at c.u64_at.result c.args.operand (λ k inside. (c.type_inv.bytes k).fits) c.requires.inside c.in-Address.is c.if-bytes-at-lt-ADDRESS_SIZE.false c.u64_at.ensures
