use Rattle.std.proofs.Common.{◌≡◌, ◌<◌, ℕ, length, get_or, inr, sym, ap, subst, ◌∙◌, refl, arith}
use Rattle.std.proofs.lemmas.Bool.{true≢false}
use Rattle.std.proofs.lemmas.List.{get_or_read}
use Rattle.leb_codec.specs.Layout.{AcceptsLayout, AcceptsSlot, step_count}
use Rattle.slot_layout.specs.Rows.{rows_of}
use Rattle.slot_layout.proofs.GrowLaws.{count_rows}
use Rattle.check_units.specs.inside.Checks.{IsFirstWithout}
use Rattle.check_units.proofs.Verdicts.{refused_there, all_accepted, ranks_left, no_ranks_left}
use Rattle.check_units.proofs.accept_layout.Goals as goal
use Rattle.check_units.proofs.accept_layout.Goals.{In_ok-first, After-index}

-- the count of rows stands for that of slots
first_slot : (c : In_ok-first) → IsFirstWithout (AcceptsSlot (rows_of c.args.slots.now) c.args.sizes.now c.args.ranks.now) (length (rows_of c.args.slots.now)) c.in_ok-first.first
first_slot c = subst (λ (n : ℕ). IsFirstWithout (AcceptsSlot (rows_of c.args.slots.now) c.args.sizes.now c.args.ranks.now) n c.in_ok-first.first) (sym (count_rows c.args.slots.now)) c.in_ok-first.ensures

-- where the ranks of the last slot end
end : (c : After-index) → c.index.result.now ≡ get_or c.in_ok-starts.starts.items (length (rows_of c.args.slots.now)) 0
end c =
    let slots = c.args.slots.now in
    let read = get_or_read c.in_ok-starts.starts.items (length slots) c.index.result.now (omega (arith, c.in_ok-starts.ensures.one_more, count_rows slots)) c.index.ensures 0 in
    read ∙ ap (λ (n : ℕ). get_or c.in_ok-starts.starts.items n 0) (sym (count_rows slots))

pub returns-then-first-slots-clause-first : goal.returns-then-first-slots-clause-first
returns-then-first-slots-clause-first c =
    refused_there (rows_of c.args.slots.now) c.args.sizes.now c.args.ranks.now c.in_ok-first.first (first_slot (goal.at.returns-then-first-slots-clause-first c).In_ok-first) (omega (arith, c.if-first-slots.true, count_rows c.args.slots.now))

left : (c : After-index) → c.index.result.now < length c.args.ranks.now → step_count (rows_of c.args.slots.now) c.args.sizes.now < length c.args.ranks.now
left c less = ranks_left (rows_of c.args.slots.now) c.args.sizes.now c.args.ranks.now c.in_ok-starts.starts.items (c.requires.each ∙ sym (count_rows c.args.slots.now)) c.in_ok-starts.ensures (omega (arith, end c, less))

pub returns-then-index-ranks-clause-accepted : goal.returns-then-index-ranks-clause-accepted
returns-then-index-ranks-clause-accepted c =
    let more = left (goal.at.returns-then-index-ranks-clause-accepted c).After-index c.if-index-ranks.true in
    (λ e. absurd (true≢false e), λ accepts. absurd (omega (arith, more, accepts.none_left)))

pub returns-then-index-ranks-clause-first : goal.returns-then-index-ranks-clause-first
returns-then-index-ranks-clause-first c =
    let slots = c.args.slots.now in
    let d = goal.at.returns-then-index-ranks-clause-first c in
    inr (record {
      slots = all_accepted (rows_of slots) c.args.sizes.now c.args.ranks.now c.in_ok-first.first (first_slot d.In_ok-first) (omega (arith, c.if-first-slots.false, count_rows slots));
      left = left d.After-index c.if-index-ranks.true;
      last = omega (arith, c.saturating_sub.ensures, count_rows slots);
    })

pub returns-clause-accepted : goal.returns-clause-accepted
returns-clause-accepted c =
    let slots = c.args.slots.now in
    let d = goal.at.returns-clause-accepted c in
    let accepts : AcceptsLayout (rows_of slots) c.args.sizes.now c.args.ranks.now = record {
      slots = all_accepted (rows_of slots) c.args.sizes.now c.args.ranks.now c.in_ok-first.first (first_slot d.In_ok-first) (omega (arith, c.if-first-slots.false, count_rows slots));
      none_left = no_ranks_left (rows_of slots) c.args.sizes.now c.args.ranks.now c.in_ok-starts.starts.items (c.requires.each ∙ sym (count_rows slots)) c.in_ok-starts.ensures (omega (arith, end d.After-index, c.if-index-ranks.false));
    } in
    (λ _. accepts, λ _. refl)
