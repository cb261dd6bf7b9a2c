use Rattle.leb_codec.proofs.SpellingLaws.{unsigned_spellings, signed_spellings}
use Rattle.leb_codec.proofs.spellings.Goals as goal

pub returns-clause-u : goal.returns-clause-u
returns-clause-u c = unsigned_spellings

pub returns-clause-s : goal.returns-clause-s
returns-clause-s c = signed_spellings
