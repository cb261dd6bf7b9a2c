use Rattle.std.proofs.Common.{◌∙◌, rules}
use Rattle.std.proofs.lemmas.List.Sorted.{All-permutation, IsStrictWeakOrder-flip, IsStrictWeakOrder-by_number, answers_always}
use Rattle.line_sums.specs.declared.count.CountedStep.{CountedStep}
use Rattle.line_sums.specs.Counting.{HasCountedLine}
use Rattle.line_sums.specs.Ordered.{comes_more}
use Rattle.line_sums.proofs.Counted.{permuted}
use Rattle.line_sums.proofs.count.count_steps.Goals as goal

pub returns-clause-counted : goal.returns-clause-counted
returns-clause-counted c = record { same = λ price. permuted price c.in_ok-counted.counted.items c.sort_by.new.self.items c.in_ok-sort_by.ensures.permutation ∙ c.in_ok-counted.ensures.counted.same price }

pub returns-clause-lines : goal.returns-clause-lines
returns-clause-lines c = All-permutation HasCountedLine _ _ c.in_ok-sort_by.ensures.permutation c.in_ok-counted.ensures.lines

pub returns-clause-order : goal.returns-clause-order
returns-clause-order c =
    let firsts = c.in_ok-counted.ensures.firsts in
    let weak = IsStrictWeakOrder-flip _ (IsStrictWeakOrder-by_number (λ (x : CountedStep). x.count)) in
    record {
      same = rw firsts at c.in_ok-sort_by.ensures.permutation;
      falling = c.in_ok-sort_by.ensures.sorted comes_more weak (answers_always _ _ _ (λ f a r g h. search rules));
      stable = rw firsts at (c.in_ok-sort_by.ensures.stable comes_more weak (answers_always _ _ _ (λ f a r g h. search rules)));
    }
