use Rattle.leb_codec.proofs.Lens.{unsigned_lens, signed_lens}
use Rattle.leb_codec.proofs.least_lens.Goals as goal

pub returns-clause-u : goal.returns-clause-u
returns-clause-u c = unsigned_lens

pub returns-clause-s : goal.returns-clause-s
returns-clause-s c = signed_lens
