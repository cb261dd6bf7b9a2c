use Rattle.std.proofs.Common.{◌≡◌, ◌<◌, ◌≤◌, ◌⊎◌, arith, inl, inr}
use Rattle.std.proofs.lemmas.Bool.{cases_lt}
use Rattle.leb_codec.proofs.Lebs.{large, shifted, added}
use Rattle.leb_codec.proofs.read.add_digit.Goals as goal
use Rattle.leb_codec.proofs.read.add_digit.Goals.{else-place-eq9-via-then-place-eq9+else-digit-gt1, else-place-eq9-via-else-place-eq9}

pub returns-then-place-gt9-clause-sum : goal.returns-then-place-gt9-clause-sum
returns-then-place-gt9-clause-sum c = λ total known.
    let some : 0 < c.args.digit = omega arith in
    large total c.args.digit c.args.place some c.if-place-gt9.true

pub returns-clause-sum : goal.returns-clause-sum
returns-clause-sum c = λ total known.
    let small : (c.args.place < 9) ⊎ ((c.args.place ≡ 9) × (c.args.digit ≤ 1)) =
    elim (cases_lt c.args.place 9) [ inl low ↦ inl low | inr high ↦ inr (omega arith, elim c.else-place-eq9.branch [ else-place-eq9-via-then-place-eq9+else-digit-gt1 w ↦ omega arith | else-place-eq9-via-else-place-eq9 w ↦ omega arith ]) ]
    in
    let part = shifted c.args.digit c.args.place c.requires small in
    added _ _ _ total c.args.digit c.args.place c.checked_add.ensures (rw c.from.ensures part) (rw c.in_ok-sum.was at known)
