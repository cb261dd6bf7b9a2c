use Rattle.std.proofs.Common.{◌+◌, drop, refl, inl, inr, arith}
use Rattle.std.specs.Prelude.{slice_range, slice_index_or}
use Rattle.std.proofs.lemmas.Bool.{cases_Bool, both_ways}
use Rattle.std.proofs.lemmas.List.{take_rest}
use Rattle.companions.specs.declared.set.ArangeSet.{ArangeSet}
use Rattle.same_meaning.proofs.ByteParts.{compared}
use Rattle.same_meaning.proofs.SetSpans.{start, further, parts_differ, rest_differs, none_differs}
use Rattle.same_meaning.proofs.kept.differ_outside_fields.Goals as goal

abbrev no_set : ArangeSet
no_set = record { at = 0; unit = 0 }

pub loop-set-init : goal.loop-set-init
loop-set-init c = start c.args.before.now c.args.after.now c.args.sets.now c.requires.0 c.requires.1

pub returns-then-ne : goal.returns-then-ne
returns-then-ne c =
    let set = slice_index_or c.args.sets.now c.loop-set.set-index no_set in
    let parts = compared (slice_range c.args.before.now c.loop-set.from (set.at + 6)) (slice_range c.args.after.now c.loop-set.from (set.at + 6)) c.ne.result c.ne.ensures in
    (λ is. parts_differ c.args.before.now c.args.after.now c.args.sets.now c.loop-set.from c.loop-set.set-index no_set c.loop-set.invariant (omega arith) (omega arith) (parts.0 c.if-ne.true), λ differ. refl)

pub loop-set-preserved : goal.loop-set-preserved
loop-set-preserved c =
    let set = slice_index_or c.args.sets.now c.loop-set.set-index no_set in
    let parts = compared (slice_range c.args.before.now c.loop-set.from (set.at + 6)) (slice_range c.args.after.now c.loop-set.from (set.at + 6)) c.ne.result c.ne.ensures in
    further c.args.before.now c.args.after.now c.args.sets.now c.loop-set.from c.loop-set.set-index no_set c.loop-set.invariant (omega arith) (parts.1 c.if-ne.false)

pub returns : goal.returns
returns c =
    let before = c.args.before.now in
    let after = c.args.after.now in
    let from = c.loop-set.from in
    let rest = compared (drop from before) (drop from after) c.ne-2.result (rw (take_rest before from, take_rest after from) at c.ne-2.ensures) in
    elim (cases_Bool c.ne-2.result) [
      | inl differ ↦ (λ is. rest_differs before after c.args.sets.now from c.loop-set.set-index c.loop-set.invariant (omega arith) (omega arith) (rest.0 differ), λ other. differ)
      | inr alike ↦ (λ is. absurd (both_ways c.ne-2.result alike is), λ other. absurd (none_differs before after c.args.sets.now from c.loop-set.set-index c.loop-set.invariant (omega arith) (omega arith) (rest.1 alike) other))
    ]
