use Rattle.std.proofs.Common.{◌≡◌, ◌≤◌, ℕ, reverse, subst, arith}
use Rattle.leb_codec.specs.Leb.{Uleb}
use Rattle.entry_arena.specs.Trees.{SpellsBetween}
use Rattle.entry_read.specs.Units.{declarations_of, end_of}
use Rattle.entry_read.specs.Faults.{FaultUnit}
use Rattle.entry_read.proofs.Walking.{innermost, pushed_end, front_end}
use Rattle.entry_read.proofs.Refusing.{refused, chain_fault}
use Rattle.entry_read.proofs.entries.read_next.Goals as goal

pub returns-then-at-end-clause-fault : goal.returns-then-at-end-clause-fault
returns-then-at-end-clause-fault c =
    let scope = c.args.scope.now in
    let ds = declarations_of c.args.table.now in
    let end : c.end-end.result ≡ end_of scope.head = c.end-end.ensures in
    refused (FaultUnit c.args.info.now scope.head ds scope.before) scope.origin scope.head.at _ c.refused.result c.refused.ensures
    (chain_fault c.args.info.now scope.head ds scope.before c.args.forest.now (reverse c.args.chains.now.items) c.args.at c.requires.front c.requires.going (omega (arith, c.if-at-end.true)))

pub push_chain_end-requires : goal.push_chain_end-requires
push_chain_end-requires c =
    let scope = c.args.scope.now in
    let ds = declarations_of c.args.table.now in
    let chains = innermost c.args.chains.now.items c.pop.new.self.items c.in-Some.id c.in-Some.ensures.items in
    let coded = subst (λ (z : ℕ). SpellsBetween (Uleb z) c.args.info.now c.args.at c.in-Ok.code.end) c.if-code-ne0.false c.in-Ok.ensures.read.2 in
    rw c.in_ok-narrow.ensures (pushed_end c.args.info.now scope.head ds scope.before c.args.forest.now (reverse c.args.chains.now.items) (reverse c.pop.new.self.items) c.in-Some.id c.args.at c.in-Ok.code.end c.requires.front chains coded)

pub returns-clause-front : goal.returns-clause-front
returns-clause-front c =
    let scope = c.args.scope.now in
    let ds = declarations_of c.args.table.now in
    let end : c.end-end.result ≡ end_of scope.head = c.end-end.ensures in
    let inside : c.in-Ok.code.end ≤ c.end-end.result = c.in-Ok.ensures.read.1 in
    let chains = innermost c.args.chains.now.items c.pop.new.self.items c.in-Some.id c.in-Some.ensures.items in
    let coded = subst (λ (z : ℕ). SpellsBetween (Uleb z) c.args.info.now c.args.at c.in-Ok.code.end) c.if-code-ne0.false c.in-Ok.ensures.read.2 in
    let pushed = rw c.in_ok-narrow.ensures at c.in_ok-push_chain_end.ensures.pushed in
    front_end c.args.info.now scope.head ds scope.before c.args.forest.now (reverse c.args.chains.now.items) (reverse c.pop.new.self.items) c.in-Some.id c.args.at c.in-Ok.code.end c.requires.front chains coded c.push_chain_end.new.self pushed (omega arith)
