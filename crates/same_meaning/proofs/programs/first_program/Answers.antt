use Rattle.std.proofs.Common.{◌≡◌, ◌≢◌, ◌<◌, ℕ, length, true≢false, ◌∙◌, sym, ap, arith, below_more}
use Rattle.std.specs.Prelude.{min}
use Rattle.same_meaning.specs.inside.Programs.{head_among}
use Rattle.same_meaning.proofs.ProgramMeanings.{MeanSameAt, few_held, head_held, whole_there, mean_there, mean_here, one_of_both, first_other, first_alone, none_other}
use Rattle.same_meaning.proofs.programs.first_program.Goals as goal

pub mean_same-requires-clause-old : goal.mean_same-requires-clause-old
mean_same-requires-clause-old c =
    let a = c.args.before.now in
    let p = c.loop-program.program in
    let are : c.programs-old.result.now.items ≡ a.programs = c.programs-old.ensures in
    let held : p < length c.programs-old.result.now.items = omega arith in
    let inside : p < length a.programs = omega (arith, ap length are) in
    whole_there a c.requires.before c.section-first.result.now c.index.result.now p c.section-first.ensures (head_held a c.requires.before c.programs-old.result.now.items p c.index.result.now are c.index.ensures held) inside

pub mean_same-requires-clause-new : goal.mean_same-requires-clause-new
mean_same-requires-clause-new c =
    let b = c.args.after.now in
    let p = c.loop-program.program in
    let are : c.programs-new.result.now.items ≡ b.programs = c.programs-new.ensures in
    let held : p < length c.programs-new.result.now.items = omega arith in
    let inside : p < length b.programs = omega (arith, ap length are) in
    whole_there b c.requires.after c.section-second.result.now c.index-in-loop-program.result.now p c.section-second.ensures (head_held b c.requires.after c.programs-new.result.now.items p c.index-in-loop-program.result.now are c.index-in-loop-program.ensures held) inside

pub overflow_cast-result : goal.overflow_cast-result
overflow_cast-result c =
    let size : length c.programs-old.result.now.items ≡ length c.args.before.now.programs = ap length c.programs-old.ensures in
    let few = few_held c.args.before.now c.requires.before in
    omega arith

pub returns-then-not-mean_same : goal.returns-then-not-mean_same
returns-then-not-mean_same c =
    let a = c.args.before.now in
    let b = c.args.after.now in
    let p = c.loop-program.program in
    let old : c.programs-old.result.now.items ≡ a.programs = c.programs-old.ensures in
    let new : c.programs-new.result.now.items ≡ b.programs = c.programs-new.ensures in
    let held : p < length c.programs-old.result.now.items = omega arith in
    let also_held : p < length c.programs-new.result.now.items = omega arith in
    let inside : p < length a.programs = omega (arith, ap length old) in
    let also : p < length b.programs = omega (arith, ap length new) in
    let h_is : c.index.result.now ≡ head_among a.programs p = head_held a c.requires.before c.programs-old.result.now.items p c.index.result.now old c.index.ensures held in
    let k_is : c.index-in-loop-program.result.now ≡ head_among b.programs p = head_held b c.requires.after c.programs-new.result.now.items p c.index-in-loop-program.result.now new c.index-in-loop-program.ensures also_held in
    let differ = λ (same : MeanSameAt a b p). true≢false (sym (c.mean_same.ensures.1 (mean_here a b p c.section-first.result.now c.section-second.result.now c.index.result.now c.index-in-loop-program.result.now c.section-first.ensures c.section-second.ensures h_is k_is same)) ∙ c.if-not-mean_same.true) in
    first_other a b c.requires.before c.requires.after c.one_reading.ensures.reading p inside also c.loop-program.invariant differ

pub loop-program-preserved : goal.loop-program-preserved
loop-program-preserved c =
    let a = c.args.before.now in
    let b = c.args.after.now in
    let p = c.loop-program.program in
    let old : c.programs-old.result.now.items ≡ a.programs = c.programs-old.ensures in
    let new : c.programs-new.result.now.items ≡ b.programs = c.programs-new.ensures in
    let held : p < length c.programs-old.result.now.items = omega arith in
    let also_held : p < length c.programs-new.result.now.items = omega arith in
    let h_is : c.index.result.now ≡ head_among a.programs p = head_held a c.requires.before c.programs-old.result.now.items p c.index.result.now old c.index.ensures held in
    let k_is : c.index-in-loop-program.result.now ≡ head_among b.programs p = head_held b c.requires.after c.programs-new.result.now.items p c.index-in-loop-program.result.now new c.index-in-loop-program.ensures also_held in
    let same : MeanSameAt a b p = mean_there a b p c.section-first.result.now c.section-second.result.now c.index.result.now c.index-in-loop-program.result.now c.section-first.ensures c.section-second.ensures h_is k_is (c.mean_same.ensures.0 c.if-not-mean_same.false) in
    below_more (λ (q : ℕ). MeanSameAt a b q) p c.loop-program.invariant same

pub overflow_cast-result-else-len : goal.overflow_cast-result-else-len
overflow_cast-result-else-len c =
    let size : length c.programs-old.result.now.items ≡ length c.args.before.now.programs = ap length c.programs-old.ensures in
    let few = few_held c.args.before.now c.requires.before in
    omega arith

pub returns-then-len : goal.returns-then-len
returns-then-len c =
    let a = c.args.before.now in
    let b = c.args.after.now in
    let n = c.min-common.result in
    let old : length c.programs-old.result.now.items ≡ length a.programs = ap length c.programs-old.ensures in
    let new : length c.programs-new.result.now.items ≡ length b.programs = ap length c.programs-new.ensures in
    let whole : n ≡ length a.programs = omega arith in
    let also : n ≡ length b.programs = omega arith in
    none_other a b c.requires.before c.requires.after c.one_reading.ensures.reading n whole also (λ (p : ℕ) (less : p < n). c.loop-program.invariant p (omega arith))

pub returns-else-len : goal.returns-else-len
returns-else-len c =
    let a = c.args.before.now in
    let b = c.args.after.now in
    let n = c.min-common.result in
    let old : length c.programs-old.result.now.items ≡ length a.programs = ap length c.programs-old.ensures in
    let new : length c.programs-new.result.now.items ≡ length b.programs = ap length c.programs-new.ensures in
    let least : n ≡ min (length a.programs) (length b.programs) = omega arith in
    let apart : length a.programs ≢ length b.programs = λ (same : length a.programs ≡ length b.programs). c.if-len.false (omega arith) in
    first_alone a b c.requires.before c.requires.after c.one_reading.ensures.reading n (one_of_both n (length a.programs) (length b.programs) least) (omega arith) (omega arith) apart (λ (p : ℕ) (less : p < n). c.loop-program.invariant p (omega arith))
