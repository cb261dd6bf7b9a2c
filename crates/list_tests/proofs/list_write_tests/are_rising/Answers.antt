use Rattle.std.proofs.Common.{◌≡◌, ◌<◌, ◌-◌, ℕ, length, map, ap, subst, arith, inl, inr}
use Rattle.std.proofs.lemmas.Bool.{cases_lt}
use Rattle.std.proofs.lemmas.List.{length-map}
use Rattle.list_write.specs.Written.{ToWrite, to_write, list_at}
use Rattle.list_write.proofs.Runs.{to_write_at}
use Rattle.list_tests.proofs.WritableLists.{ats_rise}
use Rattle.list_tests.proofs.list_write_tests.are_rising.Goals as goal

pub loop-number-preserved : goal.loop-number-preserved
loop-number-preserved c = λ k some less.
    let items = c.args.lists.now.items in
    let n = c.loop-number.number in
    elim (cases_lt k n) [
      | inl before ↦ c.loop-number.invariant k some before
      | inr past ↦
          let same : n ≡ k = omega arith in
          let inside : n < length items = omega (arith, c.len-number-end.ensures) in
          let here : (list_at (map to_write items) n).at ≡ c.index.result.now.at = ap (λ (z : ToWrite). z.at) (to_write_at items n c.index.result.now inside c.index.ensures) in
          let one : (list_at (map to_write items) (n - 1)).at ≡ c.index-in-loop-number.result.now.at = ap (λ (z : ToWrite). z.at) (to_write_at items (n - 1) c.index-in-loop-number.result.now (omega (arith, inside)) c.index-in-loop-number.ensures) in
          subst (λ (z : ℕ). (list_at (map to_write items) (z - 1)).at < (list_at (map to_write items) z).at) same (omega (arith, here, one, c.if-index.false))
    ]

pub returns : goal.returns
returns c = λ holds.
    let items = c.args.lists.now.items in
    let count : length (map to_write items) ≡ length items = length-map items to_write in
    ats_rise (map to_write items) (λ k some inside. c.loop-number.invariant k some (omega (arith, inside, count, c.len-number-end.ensures)))
