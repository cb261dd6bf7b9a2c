use Rattle.std.proofs.Common.{◌≡◌, ◌++◌, length, rules}
use Rattle.rewriter.proofs.Renumbers.{AreNumbersOf}
use Rattle.rewriter.proofs.Appends.{made}
use Rattle.rewriter.proofs.tables.append_table.Goals as goal

pub returns-clause-appended : goal.returns-clause-appended
returns-clause-appended c =
    let place : c.len-at.result ≡ length c.args.bytes.now.items = search rules in
    let grown : c.extend_from_slice.new.self.items ≡ c.args.bytes.now.items ++ c.in_ok-written.written.items = search rules in
    let are : AreNumbersOf c.args.uses.now.items c.in_ok-numbers.numbers.items = record {
      same_length = c.in_ok-numbers.ensures.same_length;
      unused = c.in_ok-numbers.ensures.unused;
      one_to_one = c.in_ok-numbers.ensures.one_to_one;
      first = c.in_ok-numbers.ensures.first;
    } in
    made c.args.table.now c.args.uses.now.items c.in_ok-numbers.numbers.items c.args.columns.items c.args.bytes.now.items c.in_ok-written.written.items c.extend_from_slice.new.self.items c.len-at.result
    c.requires.known c.requires.count are c.in_ok-numbers.ensures.least c.in_ok-numbers.ensures.order c.requires.renewed c.requires.writable c.in_ok-written.ensures place grown c.tables_written.ensures c.listings.ensures.some
