use Rattle.std.proofs.Common.{◌≤◌, ◌<◌, ℕ, take, get_or}
use Rattle.leb_codec.specs.Leb.{weighed}
use Rattle.leb_codec.specs.inside.Digits.{IsSum}
use Rattle.leb_codec.proofs.Signs.{complement}
use Rattle.leb_codec.proofs.signed.read_signed_front.Given as goal

abbrev pub invariant-loop-place : goal.invariant-loop-place
invariant-loop-place l = record {
  sum : IsSum l.sum (weighed 0 (take l.place l.rest));
  other : IsSum l.other (complement 0 (take l.place l.rest));
  more : (k : ℕ) → k < l.place → 128 ≤ get_or l.rest k 0;
}
