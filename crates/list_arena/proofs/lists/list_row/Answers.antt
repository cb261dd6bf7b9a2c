use Rattle.std.proofs.Common.{◌∙◌, sym}
use Rattle.list_arena.proofs.ListLaws.{row_is_of}
use Rattle.list_arena.proofs.lists.list_row.Goals as goal

pub returns-in-Dead-clause-row : goal.returns-in-Dead-clause-row
returns-in-Dead-clause-row c =
    let (word, held) = c.in_ok-word.ensures.word in
    row_is_of c.word.new.self _ c.args.list.now c.args.entries c.args.items (word, held ∙ c.at.ensures) c.part.ensures (c.in_ok-owner_number.ensures ∙ c.owner.ensures) c.in-Ok-Ok.ensures.1 c.in-Ok-Ok.ensures'.1
    (λ _. sym c.meaning.ensures ∙ c.in-Dead.is) (λ live. absurd (cc))

pub returns-in_default-matches-clause-row : goal.returns-in_default-matches-clause-row
returns-in_default-matches-clause-row c =
    let (word, held) = c.in_ok-word.ensures.word in
    row_is_of c.word.new.self _ c.args.list.now c.args.entries c.args.items (word, held ∙ c.at.ensures) c.part.ensures (c.in_ok-owner_number.ensures ∙ c.owner.ensures) c.in-Ok-Ok.ensures.1 c.in-Ok-Ok.ensures'.1
    (λ frozen. absurd (cc)) (λ _ dead. c.in_default-matches.not-Dead (c.meaning.ensures ∙ dead))
