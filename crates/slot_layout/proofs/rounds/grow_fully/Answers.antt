use Rattle.std.proofs.Common.{◌≡◌, ◌<◌, ◌+◌, ◌-◌, ◌*◌, ◌^◌, ℕ, suc, [], List, length, get_or, sum, ap, ◌∙◌, sym, subst, arith}
use Rattle.leb_codec.specs.Layout.{IsLayout, IsLowestLayout, IsLeastLayout, HasNarrowNumbers, AcceptsLayout, HasFirstRanks}
use Rattle.slot_layout.specs.Rows.{rows_of, IsTight, most_slots}
use Rattle.slot_layout.specs.inside.Rounds.{AreSmall, joined}
use Rattle.slot_layout.proofs.SumLaws.{sum-small}
use Rattle.slot_layout.proofs.RoundLaws.{rounds, rounds_length, rounds_small, rounds_lowest, number_below, still_member, still_least, still_tight}
use Rattle.slot_layout.proofs.RankLaws.{IsRanked, ranked_start}
use Rattle.slot_layout.proofs.GrowLaws.{count_rows}
use Rattle.slot_layout.proofs.Layouts.{grown_sizes, grown_ranked, settled, settled_ranked, accepts, first_ranks}
use Rattle.slot_layout.proofs.rounds.grow_fully.Goals as goal

pub loop-rank-init : goal.loop-rank-init
loop-rank-init c =
    let slots = c.args.slots.now in
    record {
      starts_length = c.requires.starts;
      sized = c.requires.sizes;
      ranks_length = c.requires.ranks;
      ranked = λ i inside. ranked_start (rows_of slots) i (get_or c.args.ranks.now i []) (omega (arith, count_rows slots)) (c.requires.places i inside);
      low = omega arith;
    }

pub grow-requires-clause-sizes : goal.grow-requires-clause-sizes
grow-requires-clause-sizes c =
    ap (λ (s : List ℕ). length s) c.loop-rank.invariant.sized ∙ rounds_length (rows_of c.args.slots.now) c.loop-rank.rank ∙ count_rows c.args.slots.now

pub grow-requires-clause-small : goal.grow-requires-clause-small
grow-requires-clause-small c =
    rw c.loop-rank.invariant.sized (rounds_small c.least_lens.ensures.u (rows_of c.args.slots.now) c.requires.slots c.loop-rank.rank)

pub overflow_add-rank : goal.overflow_add-rank
overflow_add-rank c =
    let small : AreSmall c.loop-rank.sizes = rw c.loop-rank.invariant.sized (rounds_small c.least_lens.ensures.u (rows_of c.args.slots.now) c.requires.slots c.loop-rank.rank) in
    omega (arith, sum-small c.loop-rank.sizes small, c.loop-rank.invariant.low)

-- the sizes after a round that raised one
next : (c : goal.In-loop-rank) → c.grow.new.sizes ≡ rounds (rows_of c.args.slots.now) (suc c.loop-rank.rank)
next c = grown_sizes (rows_of c.args.slots.now) c.loop-rank.rank c.loop-rank.sizes c.grow.new.sizes c.loop-rank.invariant.sized c.grow.ensures.raised

pub loop-rank-smaller : goal.loop-rank-smaller
loop-rank-smaller c =
    let small : AreSmall c.grow.new.sizes = rw (next c) (rounds_small c.least_lens.ensures.u (rows_of c.args.slots.now) c.requires.slots (suc c.loop-rank.rank)) in
    let less : 5 * most_slots - sum c.grow.new.sizes < 5 * most_slots - sum c.loop-rank.sizes = omega (arith, sum-small c.grow.new.sizes small, c.grow.ensures.more c.loop-rank-test.true) in
    less

pub loop-rank-preserved : goal.loop-rank-preserved
loop-rank-preserved c =
    let slots = c.args.slots.now in
    let rows = rows_of slots in
    let more : suc c.loop-rank.rank ≡ c.loop-rank.rank + 1 = omega arith in
    record {
      starts_length = c.grow.auto.starts ∙ c.loop-rank.invariant.starts_length;
      sized = subst (λ (t : ℕ). c.grow.new.sizes ≡ rounds rows t) more (next c);
      ranks_length = c.grow.auto.ranks ∙ c.loop-rank.invariant.ranks_length;
      ranked = λ i inside. subst (λ (t : ℕ). IsRanked rows t i (get_or c.grow.new.ranks i [])) more
          (grown_ranked c.least_lens.ensures.u rows c.requires.slots c.loop-rank.rank i c.loop-rank.sizes c.grow.new.sizes c.loop-rank.ranks c.grow.new.ranks (omega (arith, count_rows slots)) c.loop-rank.invariant.sized (next c) (c.loop-rank.invariant.ranked i inside) (c.grow.ensures.noted i inside));
      low = omega (arith, c.grow.ensures.more c.loop-rank-test.true, c.loop-rank.invariant.low);
    }

-- the sizes after the round that raised none
last : (c : goal.After-loop-rank) → c.grow.new.sizes ≡ rounds (rows_of c.args.slots.now) c.loop-rank.rank
last c = c.grow.ensures.done c.loop-rank-test.false ∙ c.loop-rank.invariant.sized

still : (c : goal.After-loop-rank) → rounds (rows_of c.args.slots.now) (suc c.loop-rank.rank) ≡ rounds (rows_of c.args.slots.now) c.loop-rank.rank
still c = settled (rows_of c.args.slots.now) c.loop-rank.rank c.loop-rank.sizes c.grow.new.sizes c.loop-rank.invariant.sized (c.grow.ensures.done c.loop-rank-test.false) c.grow.ensures.raised

ranked_last : (c : goal.After-loop-rank) (i : ℕ) → i < length (rows_of c.args.slots.now) → IsRanked (rows_of c.args.slots.now) c.loop-rank.rank i (get_or c.grow.new.ranks i [])
ranked_last c i inside =
    let below : i < length c.args.slots.now = omega (arith, inside, count_rows c.args.slots.now) in
    settled_ranked (rows_of c.args.slots.now) c.loop-rank.rank i c.loop-rank.sizes c.grow.new.sizes c.loop-rank.ranks c.grow.new.ranks c.loop-rank.invariant.sized (c.grow.ensures.done c.loop-rank-test.false) (c.loop-rank.invariant.ranked i below) (c.grow.ensures.noted i below)

lists_length : (c : goal.After-loop-rank) → length c.grow.new.ranks ≡ length (rows_of c.args.slots.now)
lists_length c = c.grow.auto.ranks ∙ c.loop-rank.invariant.ranks_length ∙ sym (count_rows c.args.slots.now)

pub returns-clause-small : goal.returns-clause-small
returns-clause-small c =
    subst AreSmall (sym (last c)) (rounds_small c.least_lens.ensures.u (rows_of c.args.slots.now) c.requires.slots c.loop-rank.rank)

pub returns-clause-member : goal.returns-clause-member
returns-clause-member c =
    subst (IsLayout (rows_of c.args.slots.now)) (sym (last c)) (still_member c.least_lens.ensures.u (rows_of c.args.slots.now) c.requires.slots c.loop-rank.rank (still c))

pub returns-clause-lowest : goal.returns-clause-lowest
returns-clause-lowest c =
    subst (IsLowestLayout (rows_of c.args.slots.now)) (sym (last c)) (rounds_lowest c.least_lens.ensures.u (rows_of c.args.slots.now) c.requires.slots c.loop-rank.rank)

pub returns-clause-least : goal.returns-clause-least
returns-clause-least c =
    subst (IsLeastLayout (rows_of c.args.slots.now)) (sym (last c)) (still_least c.least_lens.ensures.u (rows_of c.args.slots.now) c.requires.slots c.loop-rank.rank (still c))

pub returns-clause-tight : goal.returns-clause-tight
returns-clause-tight c =
    subst (IsTight (rows_of c.args.slots.now)) (sym (last c)) (still_tight c.least_lens.ensures.u (rows_of c.args.slots.now) c.requires.slots c.loop-rank.rank (still c))

pub returns-clause-narrow : goal.returns-clause-narrow
returns-clause-narrow c =
    let rows = rows_of c.args.slots.now in
    let laws = c.least_lens.ensures.u in
    let t = c.loop-rank.rank in
    subst (HasNarrowNumbers rows) (sym (last c)) (number_below laws rows c.requires.slots (rounds rows t) (rounds_small laws rows c.requires.slots t) (rounds_length rows t))

pub returns-clause-accepted : goal.returns-clause-accepted
returns-clause-accepted c =
    let rows = rows_of c.args.slots.now in
    let P : List ℕ → Type 0 = λ sizes. AcceptsLayout rows sizes (joined rows sizes c.grow.new.ranks) in
    subst P (sym (last c)) (accepts c.least_lens.ensures.u rows c.requires.slots c.loop-rank.rank (still c) c.grow.new.ranks (lists_length c) (ranked_last c))

pub returns-clause-first_ranks : goal.returns-clause-first_ranks
returns-clause-first_ranks c =
    let rows = rows_of c.args.slots.now in
    let P : List ℕ → Type 0 = λ sizes. HasFirstRanks rows sizes (joined rows sizes c.grow.new.ranks) in
    subst P (sym (last c)) (first_ranks c.least_lens.ensures.u rows c.requires.slots c.loop-rank.rank (still c) c.grow.new.ranks (lists_length c) (ranked_last c))
