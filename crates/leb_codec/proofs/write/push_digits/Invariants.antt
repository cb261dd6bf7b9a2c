use Rattle.std.proofs.Common.{◌≡◌, ◌-◌, ◌++◌}
use Rattle.leb_codec.specs.Digits.{Extends}
use Rattle.leb_codec.specs.inside.Digits.{digits_of}
use Rattle.leb_codec.proofs.write.push_digits.Given as goal

abbrev pub invariant-loop : goal.invariant-loop
invariant-loop l = record {
  whole : l.out.items ++ digits_of l.complemented (l.size - l.counter) l.rest ≡ l.fn.out.items ++ digits_of l.complemented (l.size - 1) l.digits;
  front : Extends l.fn.out.items l.out.items;
}
