use Rattle.std.proofs.Common.{◌≡◌, ◌+◌, ◌<◌, ◌∙◌, length, get_or, subst, sym, ap, arith}
use Rattle.list_arena.specs.inside.Rows.{begin_of}
use Rattle.list_arena.specs.inside.Views.{IsPairRow, pair_ends, pair_held}
use Rattle.list_arena.proofs.PairLaws.{pair_at, pair_inside, runs_count}
use Rattle.list_arena.proofs.views.Views.pair.Goals as goal

pub begin-requires : goal.begin-requires
begin-requires c = rw c.deref.ensures.value (omega (arith, runs_count c.self.inside.long c.self.inside.rows.items c.self.inside.pairs.items c.args.self.now c.self.view_is))

pub overflow_add-begin : goal.overflow_add-begin
overflow_add-begin c =
    let inside : begin_of 0 (pair_ends c.self.inside.rows.items) c.args.number + c.args.index < length c.self.inside.pairs.items = pair_inside c.self.inside.long c.self.inside.rows.items c.self.inside.pairs.items c.args.self.now c.args.number c.self.invariant c.self.view_is c.requires.number c.args.index c.requires.index in
    let first : c.begin.result ≡ begin_of 0 (pair_ends c.self.inside.rows.items) c.args.number = rw c.deref.ensures.value at c.begin.ensures in
    record { fits = omega (arith, c.self.inside.pairs.small) }

pub index-requires : goal.index-requires
index-requires c =
    let inside : begin_of 0 (pair_ends c.self.inside.rows.items) c.args.number + c.args.index < length c.self.inside.pairs.items = pair_inside c.self.inside.long c.self.inside.rows.items c.self.inside.pairs.items c.args.self.now c.args.number c.self.invariant c.self.view_is c.requires.number c.args.index c.requires.index in
    let first : c.begin.result ≡ begin_of 0 (pair_ends c.self.inside.rows.items) c.args.number = rw c.deref.ensures.value at c.begin.ensures in
    omega arith

pub pair_of-requires : goal.pair_of-requires
pair_of-requires c =
    let inside : begin_of 0 (pair_ends c.self.inside.rows.items) c.args.number + c.args.index < length c.self.inside.pairs.items = pair_inside c.self.inside.long c.self.inside.rows.items c.self.inside.pairs.items c.args.self.now c.args.number c.self.invariant c.self.view_is c.requires.number c.args.index c.requires.index in
    let first : c.begin.result ≡ begin_of 0 (pair_ends c.self.inside.rows.items) c.args.number = rw c.deref.ensures.value at c.begin.ensures in
    subst (IsPairRow c.self.inside.long) (sym c.index.ensures) (c.self.invariant.pairs_well (c.begin.result + c.args.index) c.index.result.now (omega arith))

pub returns : goal.returns
returns c = λ d other.
    let first : c.begin.result ≡ begin_of 0 (pair_ends c.self.inside.rows.items) c.args.number = rw c.deref.ensures.value at c.begin.ensures in
    let here = pair_at c.self.inside.long c.self.inside.rows.items c.self.inside.pairs.items c.args.self.now c.args.number c.self.invariant c.self.view_is c.requires.number d c.args.index (c.requires.index d) other c.index.result.now in
    c.pair_of.ensures ∙ ap (λ r. pair_held c.self.inside.long r) (c.index.ensures ∙ ap (λ n. get_or c.self.inside.pairs.items (n + c.args.index) c.index.result.now) first) ∙ sym here
