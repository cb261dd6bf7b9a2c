use Rattle.std.proofs.Common.{rules, ◌≡◌, ◌≤◌, ◌+◌, true, false, length, drop, subst, sym, ap, arith}
use Rattle.std.proofs.lemmas.List.{take_rest}
use Rattle.abbrev_tables.specs.declared.read.FaultAt.{FaultAt}
use Rattle.abbrev_tables.specs.declared.read.Stop.TheVariants.{Fault as AFault}
use Rattle.abbrev_tables.specs.Faults.{FaultDeclared, FaultTable}
use Rattle.abbrev_tables.proofs.Steps.{stopped}
use Rattle.abbrev_tables.proofs.Rows.{front_fails, front_short, front_step, front_again, is_added, again_code}
use Rattle.abbrev_tables.proofs.table.read_table.Goals as goal

pub returns-in-Err-Fault-clause-fault : goal.returns-in-Err-Fault-clause-fault
returns-in-Err-Fault-clause-fault c =
    let e : c.in-Err-Fault.field-0 ≡ AFault c.in-Err-Fault.fault = search rules in
    let fault = stopped FaultDeclared (drop c.loop-at.at c.args.rest.now) c.in-Err-Fault.field-0 c.in-Err-Fault.fault e (rw take_rest at c.in-Err-Fault.ensures.fault) in
    subst (λ (f : FaultAt). (f.at ≤ length c.args.rest.now) × FaultTable f.kind f.at c.args.rest.now) (sym c.fault_after.ensures)
    (front_fails c.args.rest.now c.args.start c.loop-at.at c.in-Err-Fault.fault.at c.in-Err-Fault.fault.kind c.loop-at.decls.items c.loop-at.specs.items c.loop-at.invariant.front fault.0 fault.1)

pub returns-then-not-is_new-clause-fault : goal.returns-then-not-is_new-clause-fault
returns-then-not-is_new-clause-fault c =
    let t : c.in_ok-is_new.is_new ≡ false = search rules in
    let added = is_added c.loop-at.decls.items c.add.new.decls.items c.declaration-decl.result c.add.new.others c.in_ok-is_new.is_new false t c.in_ok-is_new.ensures in
    let e : c.declaration-decl.result.code ≡ c.in-Some.head.code = ap (λ z. z.code) c.declaration-decl.ensures in
    front_again c.args.rest.now c.args.start c.loop-at.at c.loop-at.decls.items c.loop-at.specs.items c.read_declared.new.specs.items c.in-Ok.read c.in-Some.head c.loop-at.invariant.front (rw take_rest at c.in-Ok.ensures.read) c.in-Some.is
    (again_code c.loop-at.decls.items c.declaration-decl.result c.in-Some.head e added.1)

pub loop-at-preserved : goal.loop-at-preserved
loop-at-preserved c =
    let t : c.in_ok-is_new.is_new ≡ true = search rules in
    let added = is_added c.loop-at.decls.items c.add.new.decls.items c.declaration-decl.result c.add.new.others c.in_ok-is_new.is_new true t c.in_ok-is_new.ensures in
    let first : c.len-first.result ≡ length c.loop-at.specs.items = search rules in
    let last : c.len-last.result ≡ length c.read_declared.new.specs.items = search rules in
    record {
      front = front_step c.args.rest.now c.args.start c.loop-at.at c.loop-at.decls.items c.add.new.decls.items c.loop-at.specs.items c.read_declared.new.specs.items c.add.new.others c.in-Ok.read c.in-Some.head c.declaration-decl.result (c.args.start + c.loop-at.at) c.len-first.result c.len-last.result c.loop-at.invariant.front (rw take_rest at c.in-Ok.ensures.read) c.in-Some.is (omega arith) first last c.declaration-decl.ensures added;
      index = added.1;
      few = added.2;
      narrow = grind (arith, last);
    }

pub returns-clause-fault : goal.returns-clause-fault
returns-clause-fault c = front_short c.args.rest.now c.args.start c.loop-at.at c.loop-at.decls.items c.loop-at.specs.items c.loop-at.invariant.front c.loop-at-test.false
