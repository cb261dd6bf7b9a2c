use Rattle.std.proofs.Common.{◌+◌, ◌-◌, take, drop, sym}
use Rattle.certificates.proofs.Stretches.{lines_read, list_read, layout_read, no_lines, no_list, no_layout}
use Rattle.certificates.proofs.Spellings.{runs_writable}
use Rattle.certificates.proofs.record.read_record.Goals as goal

pub returns-in-Some-clause-read : goal.returns-in-Some-clause-read
returns-in-Some-clause-read c = lines_read c.args.bytes.now c.args.at c.in-Some.read.end c.in-Some.read.runs.items c.requires (sym c.in-1.is) (rw c.in-Some.is at c.in_ok-read-in-1.ensures)

pub returns-in-None-clause-read : goal.returns-in-None-clause-read
returns-in-None-clause-read c = no_lines c.args.bytes.now c.args.at c.requires (sym c.in-1.is) (rw c.in-None.is at c.in_ok-read-in-1.ensures)

pub returns-in-Some-2-clause-read : goal.returns-in-Some-2-clause-read
returns-in-Some-2-clause-read c = list_read c.args.bytes.now c.args.at c.in-Some-2.read.end c.in-Some-2.read.numbers.items c.requires (sym c.in-2.is) (rw c.in-Some-2.is at c.in_ok-read-in-2.ensures)

pub returns-in-None-2-clause-read : goal.returns-in-None-2-clause-read
returns-in-None-2-clause-read c = no_list c.args.bytes.now c.args.at c.requires (sym c.in-2.is) (rw c.in-None-2.is at c.in_ok-read-in-2.ensures)

pub returns-in-Some-3-clause-read : goal.returns-in-Some-3-clause-read
returns-in-Some-3-clause-read c = layout_read c.args.bytes.now c.args.at c.in-Some-3.read.end c.in-Some-3.read.numbers.items c.requires (sym c.in-3.is) (rw c.in-Some-3.is at c.in_ok-read-in-3.ensures)

pub returns-in-None-3-clause-read : goal.returns-in-None-3-clause-read
returns-in-None-3-clause-read c = no_layout c.args.bytes.now c.args.at c.requires (sym c.in-3.is) (rw c.in-None-3.is at c.in_ok-read-in-3.ensures)

pub returns-in-Some-clause-writable : goal.returns-in-Some-clause-writable
returns-in-Some-clause-writable c =
    let read = rw c.in-Some.is at c.in_ok-read-in-1.ensures in
    runs_writable c.in-Some.read.runs.items (take (c.in-Some.read.end - (c.args.at + 1)) (drop (c.args.at + 1) c.args.bytes.now)) read.spelled
