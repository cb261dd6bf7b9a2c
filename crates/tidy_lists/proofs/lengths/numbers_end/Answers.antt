use Rattle.std.proofs.Common.{◌≡◌, ◌+◌, ◌++◌, ℕ, suc, List, length, drop, subst, sym, arith}
use Rattle.leb_codec.specs.Leb.{Uleb}
use Rattle.tidy_lists.specs.inside.Lengths.{AreNumbersUpTo}
use Rattle.tidy_lists.proofs.NumbersUpTo.{inside_from, number_end, number_found, one_left}
use Rattle.tidy_lists.proofs.lengths.numbers_end.Goals as goal

pub read_u-requires : goal.read_u-requires
read_u-requires c =
    let left = c.loop.invariant.left in
    let bytes = c.args.bytes.now in
    let one = one_left bytes c.loop.place left.0 c.loop.counter c.args.count left.3.0 left.1 c.loop-test.true left.3.1 in
    let numbers = subst (λ (n : ℕ). AreNumbersUpTo bytes c.loop.place n left.3.0) one.1 left.3.1 in
    let inside = inside_from bytes c.loop.place numbers.1 numbers.2 numbers.3.0.0.filled numbers.4 in
    omega (arith, inside)

pub unreachable-requires : goal.unreachable-requires
unreachable-requires c =
    let left = c.loop.invariant.left in
    let bytes = c.args.bytes.now in
    let place = c.loop.place in
    let one = one_left bytes place left.0 c.loop.counter c.args.count left.3.0 left.1 c.loop-test.true left.3.1 in
    let numbers : AreNumbersUpTo bytes place (suc one.0) left.3.0 = subst (λ (n : ℕ). AreNumbersUpTo bytes place n left.3.0) one.1 left.3.1 in
    number_found bytes place numbers.0 numbers.1 numbers.2 numbers.3 numbers.4 c.in-Err.field-0 c.in-Err.ensures.short c.in-Err.ensures.wide

pub loop-preserved : goal.loop-preserved
loop-preserved c =
    let left = c.loop.invariant.left in
    let bytes = c.args.bytes.now in
    let place = c.loop.place in
    let one = one_left bytes place left.0 c.loop.counter c.args.count left.3.0 left.1 c.loop-test.true left.3.1 in
    let numbers : AreNumbersUpTo bytes place (suc one.0) left.3.0 = subst (λ (n : ℕ). AreNumbersUpTo bytes place n left.3.0) one.1 left.3.1 in
    let next = c.in-Ok.number.end in
    let read = c.in-Ok.ensures in
    let end_of : (v : ℕ) (first rest : List ℕ) → Uleb v first → drop place bytes ≡ first ++ rest → next ≡ place + length first = λ v first rest spelled e.
    number_end bytes place v first rest spelled e next c.in-Ok.number.value read.within.0 read.within.1 read.read read.fits in
    let step : (end : ℕ) → AreNumbersUpTo bytes place (suc one.0) end → AreNumbersUpTo bytes next one.0 end = λ end here.
    subst (λ (at : ℕ). AreNumbersUpTo bytes at one.0 end) (sym (end_of here.0 here.1 here.2 here.3 here.4)) here.5 in
    record {
      left = (one.0, omega (arith, left.1, one.1), (λ end all. step end (subst (λ (n : ℕ). AreNumbersUpTo bytes place n end) one.1 (left.2 end all))), (left.3.0, step left.3.0 numbers));
    }
