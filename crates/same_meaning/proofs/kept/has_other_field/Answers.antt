use Rattle.std.proofs.Common.{take, drop, inl, inr}
use Rattle.std.proofs.lemmas.Bool.{cases_Bool, both_ways}
use Rattle.std.proofs.lemmas.List.{take_rest}
use Rattle.same_meaning.proofs.ByteParts.{compared}
use Rattle.same_meaning.proofs.HeaderFields.{front_differs, back_differs, field_differs}
use Rattle.same_meaning.proofs.kept.has_other_field.Goals as goal

pub returns-then-ne : goal.returns-then-ne
returns-then-ne c =
    let first = c.header-before in
    let second = c.header-after in
    let front = compared (take 24 first.result.now) (take 24 second.result.now) c.ne.result c.ne.ensures in
    let found = front_differs c.args.old.now c.args.new.now c.args.section first.result.now second.result.now first.ensures.bytes first.ensures.len second.ensures.bytes second.ensures.len (front.0 c.if-ne.true) in
    (λ _. found, λ _. c.if-ne.true)

pub returns-else-ne : goal.returns-else-ne
returns-else-ne c =
    let first = c.header-before in
    let second = c.header-after in
    let front = compared (take 24 first.result.now) (take 24 second.result.now) c.ne.result c.ne.ensures in
    let back = compared (drop 40 first.result.now) (drop 40 second.result.now) c.ne-else-ne.result (rw (take_rest first.result.now 40, take_rest second.result.now 40) at c.ne-else-ne.ensures) in
    elim (cases_Bool c.ne-else-ne.result) [
      | inl differ ↦ (λ _. back_differs c.args.old.now c.args.new.now c.args.section first.result.now second.result.now first.ensures.bytes first.ensures.len second.ensures.bytes second.ensures.len (back.0 differ), λ _. differ)
      | inr alike ↦ (λ is. absurd (both_ways c.ne-else-ne.result alike is), λ other. absurd (field_differs c.args.old.now c.args.new.now c.args.section first.result.now second.result.now first.ensures.bytes first.ensures.len second.ensures.bytes second.ensures.len (front.1 c.if-ne.false) (back.1 alike) other))
    ]
