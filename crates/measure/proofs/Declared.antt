-- The attributes of a drawn declaration.
use Rattle.std.proofs.Common.{◌≡◌, ◌+◌, ℕ, List, [], ◌∷◌, ◌++◌, length, arith}
use Rattle.std.specs.List.{All}
use Rattle.std.proofs.lemmas.List.{length-append}
use Rattle.std.proofs.lemmas.List.Elements.{All-push}
use Rattle.form_codec.specs.Forms.{IsKnown}
use Rattle.measure.specs.declared.values.Attribute.{Attribute}

abbrev pub HasForm : Attribute → Type 0
HasForm a = IsKnown a.form

pub long_more : (old new : List Attribute) (a : Attribute) (n : ℕ) → new ≡ old ++ a ∷ [] → length old ≡ n → length new ≡ n + 1
long_more old new a n is long = rw is (omega (arith, long, length-append old (a ∷ [])))

pub known_more : (old new : List Attribute) (a : Attribute) → new ≡ old ++ a ∷ [] → All HasForm old → HasForm a → All HasForm new
known_more old new a is all one = rw is (All-push HasForm old a all one)
