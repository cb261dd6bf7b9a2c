use Rattle.std.proofs.Common.{◌+◌, inl, inr, suc, drop, arith}
use Rattle.tidy_places.specs.inside.Chains.{due_at}
use Rattle.tidy_places.proofs.Gaps.{due_within, filled_from, filled_split, filled_joined}
use Rattle.tidy_places.proofs.MovableParts.{due_split}
use Rattle.tidy_places.proofs.first_filled_among.Goals as goal

pub first_filled-requires : goal.first_filled-requires
first_filled-requires c =
    let file = c.args.file.now in
    let sections = c.args.sections.now in
    let k = c.loop-due.due-index in
    let whole = c.loop-due.invariant.due in
    let split = due_split file c.loop-due.start sections k whole.0 c.loop-due-test.true whole.1 in
    let rest = due_within file ((due_at sections k).at + (due_at sections k).len) (drop (suc k) sections) whole.0 split.1 in
    let from = split.0.place.from in
    (from, omega (arith, rest, whole.2))

pub returns-in-Some : goal.returns-in-Some
returns-in-Some c =
    let file = c.args.file.now in
    let sections = c.args.sections.now in
    let k = c.loop-due.due-index in
    let start = c.loop-due.start in
    let whole = c.loop-due.invariant.due in
    let split = due_split file start sections k whole.0 c.loop-due-test.true whole.1 in
    let behind = (due_at sections k).at + (due_at sections k).len in
    let here = c.in-Some.ensures in
    let low = here.0.0 in
    let high = here.0.1 in (
      c.loop-due.invariant.back c.in-Some.place (filled_joined file start sections k c.in-Some.place c.loop-due-test.true (inl here.0)),
      λ q less among. elim (filled_split file start sections k q c.loop-due-test.true (c.loop-due.invariant.to q among)) [
        | inl before ↦ here.1 q less before
        | inr later ↦
            let from = filled_from file behind (drop (suc k) sections) whole.0 q split.1 later in
            omega (arith, from, less, high)
      ],
    )

pub overflow_add-start : goal.overflow_add-start
overflow_add-start c =
    let file = c.args.file.now in
    let sections = c.args.sections.now in
    let k = c.loop-due.due-index in
    let whole = c.loop-due.invariant.due in
    let split = due_split file c.loop-due.start sections k whole.0 c.loop-due-test.true whole.1 in
    let rest = due_within file ((due_at sections k).at + (due_at sections k).len) (drop (suc k) sections) whole.0 split.1 in
    record { fits = omega (arith, rest, whole.2, c.requires.small) }
