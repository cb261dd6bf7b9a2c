use Rattle.std.proofs.Common.{◌≡◌, length}
use Rattle.std.specs.List.{All}
use Rattle.form_codec.specs.Forms.{IsKnown}
use Rattle.measure.proofs.values.drawn_attributes.Given as goal

abbrev pub invariant-loop : goal.invariant-loop
invariant-loop l = record {
  long : length l.attributes.items ≡ l.counter;
  known : All (λ a. IsKnown a.form) l.attributes.items;
}
