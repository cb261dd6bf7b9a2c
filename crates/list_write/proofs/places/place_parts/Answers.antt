use Rattle.std.proofs.Common.{◌≡◌, ◌≢◌, ◌<◌, ◌-◌, ◌∙◌, ℕ, List, length, ap, refl, sym, arith}
use Rattle.list_write.specs.Written.{ToWrite, list_at, part_at}
use Rattle.list_write.specs.inside.Places.{CanBePlaced, extent_at}
use Rattle.list_write.proofs.Placing.{runs_fit, list_fits, next_placed, within_ended, begin_below, placed_more, placed_all}
use Rattle.list_write.proofs.places.place_parts.Goals.{then-loop-moved-test+else-lists-len, else-loop-moved-test}
use Rattle.list_write.proofs.places.place_parts.Goals as goal

pub place_runs-requires : goal.place_runs-requires
place_runs-requires c =
    let written = c.requires.ready.0 in
    let can = c.requires.ready.1 in
    let k = c.len-in-loop-moved-2.result in
    let is : k ≡ length c.loop-moved.moved.items = omega (arith, c.len-in-loop-moved-2.ensures) in
    let inside : k < length c.args.lists.now = omega (arith, is, c.len.ensures, c.loop-moved-test.true) in
    let same : c.len-in-loop-moved.result ≡ k = omega (arith, is, c.len-in-loop-moved.ensures) in
    let part : (extent_at c.args.lists.now k).part ≡ c.loop-number.number = ap (λ (z : ℕ). (extent_at c.args.lists.now z).part) (sym same) ∙ c.if-lists-len.true in
    let few = runs_fit c.args.parts.now written c.args.lists.now c.args.runs.now can c.loop-number.number c.loop-number.at c.loop-moved.at c.loop-number.placed.items c.loop-moved.moved.items c.loop-moved.views.items (c.loop-moved.invariant written can) k is inside part c.len-first.result (omega (arith, c.len-first.ensures)) in
    record { room = omega (arith, few) }

pub overflow_add-at-in-loop-moved : goal.overflow_add-at-in-loop-moved
overflow_add-at-in-loop-moved c =
    let written = c.requires.ready.0 in
    let can = c.requires.ready.1 in
    let k = c.len-in-loop-moved-2.result in
    let is : k ≡ length c.loop-moved.moved.items = omega (arith, c.len-in-loop-moved-2.ensures) in
    let inside : k < length c.args.lists.now = omega (arith, is, c.len.ensures, c.loop-moved-test.true) in
    let same : c.len-in-loop-moved.result ≡ k = omega (arith, is, c.len-in-loop-moved.ensures) in
    let part : (extent_at c.args.lists.now k).part ≡ c.loop-number.number = ap (λ (z : ℕ). (extent_at c.args.lists.now z).part) (sym same) ∙ c.if-lists-len.true in
    let few = list_fits c.args.parts.now written c.args.lists.now c.args.runs.now can c.loop-number.number c.loop-number.at c.loop-moved.at c.loop-number.placed.items c.loop-moved.moved.items c.loop-moved.views.items (c.loop-moved.invariant written can) k is inside part c.len-first.result (omega (arith, c.len-first.ensures)) c.in_ok-own.own c.in_ok-own.ensures.end in
    omega (arith, few)

pub loop-moved-preserved : goal.loop-moved-preserved
loop-moved-preserved c = λ (written : List ToWrite) (can : CanBePlaced c.args.parts.now written c.args.lists.now c.args.runs.now).
    let k = c.len-in-loop-moved-2.result in
    let is : k ≡ length c.loop-moved.moved.items = omega (arith, c.len-in-loop-moved-2.ensures) in
    let inside : k < length c.args.lists.now = omega (arith, is, c.len.ensures, c.loop-moved-test.true) in
    let same : c.len-in-loop-moved.result ≡ k = omega (arith, is, c.len-in-loop-moved.ensures) in
    let part : (extent_at c.args.lists.now k).part ≡ c.loop-number.number = ap (λ (z : ℕ). (extent_at c.args.lists.now z).part) (sym same) ∙ c.if-lists-len.true in
    next_placed c.args.parts.now written c.args.lists.now c.args.runs.now can c.loop-number.number c.loop-number.at c.loop-moved.at c.loop-number.placed.items c.loop-moved.moved.items c.loop-moved.views.items (c.loop-moved.invariant written can) k is inside part c.len-first.result (omega (arith, c.len-first.ensures)) c.in_ok-own.own c.push.new.self.items c.place_runs.new.views.items c.in_ok-own.ensures.end c.in_ok-own.ensures.placed c.in_ok-push.ensures.items

pub overflow_sub-at : goal.overflow_sub-at
overflow_sub-at c = begin_below c.args.parts.now c.requires.ready.0 c.loop-number.number c.loop-number.at c.loop-moved.at c.loop-number.placed.items c.loop-moved.moved.items c.loop-moved.views.items (c.loop-moved.invariant c.requires.ready.0 c.requires.ready.1)

pub loop-number-preserved : goal.loop-number-preserved
loop-number-preserved c = λ (written : List ToWrite) (can : CanBePlaced c.args.parts.now written c.args.lists.now c.args.runs.now).
    let so_far = c.loop-moved.invariant written can in
    let here = length c.loop-moved.moved.items in
    let count : length c.args.lists.now ≡ length written = can.extents_are.count in
    let other : here < length written → (list_at written here).part ≢ c.loop-number.number = λ less part. elim c.loop-moved-test.branch [
      | then-loop-moved-test+else-lists-len w ↦
          let same : w.len-in-loop-moved.result ≡ here = omega (arith, w.len-in-loop-moved.ensures) in
          let own : (extent_at c.args.lists.now here).part ≡ (list_at written here).part = (can.extents_are.each here less).part in
          let held : (extent_at c.args.lists.now w.len-in-loop-moved.result).part ≡ c.loop-number.number = ap (λ (z : ℕ). (extent_at c.args.lists.now z).part) same ∙ own ∙ part in
          absurd (w.if-lists-len.false held)
      | else-loop-moved-test w ↦ absurd (omega (arith, less, count, c.len.ensures, w.loop-moved-test.false))
    ] in
    let is_last = within_ended c.args.parts.now written c.loop-number.number c.loop-number.at c.loop-moved.at c.loop-number.placed.items c.loop-moved.moved.items c.loop-moved.views.items so_far can.rise other in
    placed_more c.args.parts.now written c.loop-number.number c.loop-number.at c.loop-moved.at c.loop-number.placed.items c.push-in-loop-number.new.self.items c.loop-moved.moved.items c.loop-moved.views.items
    (record { at = c.loop-number.at; len = c.loop-moved.at - c.loop-number.at; slots = (part_at c.args.parts.now c.loop-number.number).slots }) so_far is_last refl c.in_ok-push-2.ensures.items

pub returns : goal.returns
returns c = λ (written : List ToWrite) (can : CanBePlaced c.args.parts.now written c.args.lists.now c.args.runs.now).
    let all : c.loop-number.number ≡ length c.args.parts.now = omega (arith, c.loop-number-test.false, c.loop-number.auto.number-end) in
    placed_all c.args.parts.now written c.loop-number.number c.loop-number.at c.loop-number.placed.items c.loop-number.moved.items c.loop-number.views.items all can.known (c.loop-number.invariant written can)
