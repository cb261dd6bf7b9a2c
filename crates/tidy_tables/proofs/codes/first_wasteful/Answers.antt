use Rattle.std.proofs.Common.{◌∙◌, sym, arith}
use Rattle.std.proofs.lemmas.Bool.{false≢true}
use Rattle.tidy_tables.proofs.CodeLaws.{stands, as_many, few, wasteful_found, thrifty_more}
use Rattle.tidy_tables.proofs.codes.first_wasteful.Goals as goal

pub take_least-requires-clause-known : goal.take_least-requires-clause-known
take_least-requires-clause-known c =
    stands c.args.tables.now.items c.args.all.now.items c.requires.uses c.loop-i.i (omega arith) c.index-named.result.now c.index-named.ensures c.index.result.now c.index.ensures c.requires.known

pub take_least-requires-clause-count : goal.take_least-requires-clause-count
take_least-requires-clause-count c =
    as_many c.args.tables.now.items c.args.all.now.items c.requires.uses c.loop-i.i (omega arith) c.index-named.result.now c.index-named.ensures c.index.result.now c.index.ensures

pub take_least-requires-clause-few : goal.take_least-requires-clause-few
take_least-requires-clause-few c =
    few c.args.tables.now.items c.args.all.now.items c.requires.uses c.loop-i.i (omega arith) c.index-named.result.now c.index-named.ensures c.index.result.now c.index.ensures

pub returns-then-not-branch : goal.returns-then-not-branch
returns-then-not-branch c =
    wasteful_found c.args.tables.now.items c.args.all.now.items c.requires.uses c.loop-i.i (omega arith) c.index-named.result.now c.index-named.ensures c.index.result.now c.index.ensures c.loop-i.invariant c.requires.rising (λ least. false≢true (sym c.if-not-branch.true ∙ c.in_ok-take_least.ensures.1 least))

pub loop-i-preserved : goal.loop-i-preserved
loop-i-preserved c =
    thrifty_more c.args.tables.now.items c.args.all.now.items c.requires.uses c.loop-i.i (omega arith) c.index-named.result.now c.index-named.ensures c.index.result.now c.index.ensures c.loop-i.invariant (c.in_ok-take_least.ensures.0 c.if-not-branch.false)
