-- The record of a part of a file, which stands among others.
use Rattle.std.proofs.Common.{◌≡◌, ◌++◌, ◌∙◌, List, [], ◌∷◌, sym, ap}
use Rattle.std.specs.List.{AllZip}
use Rattle.std.proofs.lemmas.List.{append_assoc}
use Rattle.leb_codec.specs.Records.{Record}
use Rattle.check_records.specs.Parts.{Part}

-- a part stands among others
abbrev pub StandsAmong : Part → List Part → Type 0
StandsAmong part parts = (before : List Part) × (behind : List Part) × (parts ≡ before ++ part ∷ behind)

pub among_more : (part : Part) (parts more : List Part) → StandsAmong part parts → StandsAmong part (parts ++ more)
among_more part parts more (before, behind, whole) = (before, behind ++ more, ap (λ (z : List Part). z ++ more) whole ∙ append_assoc before (part ∷ behind) more)

pub among_behind : (part : Part) (front parts : List Part) → StandsAmong part parts → StandsAmong part (front ++ parts)
among_behind part front parts (before, behind, whole) = (front ++ before, behind, ap (λ (z : List Part). front ++ z) whole ∙ sym (append_assoc front before (part ∷ behind)))

-- the record of a part that stands among others
pub said_of : (Says : Part → Record → Type 0) (before behind : List Part) (part : Part) (records : List Record) → AllZip Says (before ++ part ∷ behind) records → (one : Record) × Says part one
said_of Says [] behind part [] each = absurd each
said_of Says [] behind part (one ∷ records) each = (one, each.0)
said_of Says (other ∷ before) behind part [] each = absurd each
said_of Says (other ∷ before) behind part (one ∷ records) each = said_of Says before behind part records each.1
