use Rattle.std.proofs.Common.{◌≡◌, ◌∙◌, ℕ, List, sym}
use Rattle.entry_arena.specs.Arena.{value_at}
use Rattle.value_links.specs.Reading.{Reading, unit_at}
use Rattle.value_links.specs.World.{Holds}
use Rattle.tidy_lists.proofs.HeldValues.{forest_is, value_is}
use Rattle.tidy_lists.proofs.OffsetLinks.{other_names_nothing, link_there, told_is_named}
use Rattle.tidy_lists.proofs.followers.named.named_by.Goals as goal
use Rattle.tidy_lists.proofs.followers.named.named_by.Goals.{After-value}

-- the value that was looked up is the one that was read
own_value : (c : After-value) (r : Reading) → Holds c.args.world.now.image c.args.world.now r → value_at (unit_at r.links c.args.unit).forest.values c.args.number ≡ c.value.result
own_value c r holds =
    value_is c.args.world.now r c.args.unit c.args.number c.forest.result.now c.value.result holds c.requires.unit (forest_is c.args.world.now c.args.unit c.units.result.now.items c.index.result.now c.forest.result.now c.requires.unit c.units.ensures c.index.ensures c.forest.ensures) c.value.ensures

pub told_by-requires-clause-there : goal.told_by-requires-clause-there
told_by-requires-clause-there c = λ r read holds.
    let file : List ℕ = c.args.world.now.image in
    link_there file r read c.args.unit c.args.number c.args.sought c.in-Offset.field-0 (own_value (goal.at.told_by-requires-clause-there c).After-value r holds ∙ c.in-Offset.is) c.link.result (c.link.ensures file r holds)

pub returns-in-Offset : goal.returns-in-Offset
returns-in-Offset c = λ r read holds k.
    let file : List ℕ = c.args.world.now.image in
    let same = told_is_named file r read c.args.unit c.args.number c.args.sought c.in-Offset.field-0 (own_value (goal.at.returns-in-Offset c).After-value r holds ∙ c.in-Offset.is) c.link.result (c.link.ensures file r holds) k in
    let told = c.told_by.ensures r read holds k in
    (λ e. same.0 (told.0 e), λ named. told.1 (same.1 named))

pub returns-in_default : goal.returns-in_default
returns-in_default c = λ r read holds k.
    let file : List ℕ = c.args.world.now.image in
    let value = own_value (goal.at.returns-in_default c).After-value r holds in
    (λ e. absurd (cc e), λ named. absurd (other_names_nothing file r read c.args.unit c.args.number c.args.sought (λ n e. c.in_default.not-Offset n (sym value ∙ e)) k named))
