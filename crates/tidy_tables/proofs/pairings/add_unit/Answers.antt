use Rattle.std.proofs.Common.{◌<◌, ℕ, length, refl, subst, rules}
use Rattle.std.specs.Prelude.{Bool}
use Rattle.entry_arena.specs.Arena.{entry_at}
use Rattle.tidy_tables.specs.inside.Pairings.{IsAdded}
use Rattle.tidy_tables.proofs.PairLaws.{added_more, first_apart}
use Rattle.tidy_tables.proofs.pairings.add_unit.Goals as goal

pub returns-then-not-branch : goal.returns-then-not-branch
returns-then-not-branch c =
    let old = c.args.old.now in
    let written = c.args.written.now in
    let id : ℕ = c.loop-id.id in
    let k : ℕ = (entry_at old id).decl in
    let w : ℕ = (entry_at written id).decl in
    let now = c.loop-id.pairings in
    let after = c.add_pair.new.pairings in
    let inside : id < length written = search rules in
    first_apart c.args.pairings.now old written now id c.loop-id.invariant k w refl refl after c.from.result inside c.from.ensures
    (subst (λ (z : Bool). IsAdded now after k w z) c.if-not-branch.true c.in_ok-add_pair.ensures)

pub loop-id-preserved : goal.loop-id-preserved
loop-id-preserved c =
    let old = c.args.old.now in
    let written = c.args.written.now in
    let id : ℕ = c.loop-id.id in
    let k : ℕ = (entry_at old id).decl in
    let w : ℕ = (entry_at written id).decl in
    let now = c.loop-id.pairings in
    let after = c.add_pair.new.pairings in
    added_more c.args.pairings.now old written now id c.loop-id.invariant k w refl refl after
    (subst (λ (z : Bool). IsAdded now after k w z) c.if-not-branch.false c.in_ok-add_pair.ensures)
