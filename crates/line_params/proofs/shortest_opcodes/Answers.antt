use Rattle.line_params.proofs.ShortestLaws.{shortest_spell, none_shorter, spelled_have_codes}
use Rattle.line_params.proofs.shortest_opcodes.Goals as goal

pub returns : goal.returns
returns c = record { spell = shortest_spell; least = none_shorter; codes = spelled_have_codes }
