use Rattle.std.proofs.Common.{◌<◌, ℕ, List, length, sym, subst}
use Rattle.form_codec.specs.Values.{meant_in}
use Rattle.entry_arena.specs.Arena.{Arena}
use Rattle.value_links.specs.Reading.{Reading, unit_at}
use Rattle.value_links.specs.World.{World, Holds}
use Rattle.value_links.proofs.ExprLinks.{no_expr}
use Rattle.value_links.proofs.Followed.{can_follow}
use Rattle.value_links.proofs.NumberedValues.{value_links, value_linked, expression_linked}
use Rattle.value_links.proofs.world.World.link.Goals as goal

pub unreachable-requires : goal.unreachable-requires
unreachable-requires c =
    let world : World = c.args.self.now in
    let (reach, is) = c.entries_of-forest.ensures.world in
    let links = value_links world reach is c.args.unit c.requires.unit c.entries_of-forest.result.now c.entries_of-forest.ensures.forest c.table.result.now c.table.ensures c.owner_of-id.result c.args.value c.attribute_name-name.result c.owner_of-id.ensures c.attribute_name-name.ensures c.value-held.result c.value-held.ensures in
    c.in-None.ensures world.image is.r is.holds links.0 links.1

pub followed-requires : goal.followed-requires
followed-requires c =
    let (reach, is) = c.entries_of-forest.ensures.world in
    let found = c.in-Some.ensures c.args.self.now.image is.r is.holds in
    let (to, followed) = can_follow is.r.links (λ kind. (is.read.lists kind).slots) c.args.unit c.owner_of-id.result c.attribute_name-name.result (meant_in (unit_at is.r.links c.args.unit).forest.section c.value-held.result) c.in-Some.link found in
    (c.args.self.now.image, is.r, to, is.holds, followed)

pub returns : goal.returns
returns c = λ (file : List ℕ) (r : Reading) (holds : Holds file c.args.self.now r).
    let world : World = c.args.self.now in
    let (reach, is) = c.entries_of-forest.ensures.world in
    value_linked world reach is c.args.unit c.requires.unit c.entries_of-forest.result.now c.entries_of-forest.ensures.forest c.table.result.now c.table.ensures c.owner_of-id.result c.args.value c.attribute_name-name.result c.owner_of-id.ensures c.attribute_name-name.ensures c.value-held.result c.value-held.ensures file r holds c.in-Some.link c.followed.result (c.in-Some.ensures file r holds) (c.followed.ensures file r holds)

pub returns-in-Expr : goal.returns-in-Expr
returns-in-Expr c = λ file r holds.
    let world : World = c.args.self.now in
    let (reach, is) = c.entries_of-forest.ensures.world in
    let counted : c.args.value < length c.entries_of-forest.result.now.values = subst (λ (z : Arena). c.args.value < length z.values) (sym c.entries_of-forest.ensures.forest) c.requires.value in
    expression_linked world reach is c.args.unit c.requires.unit c.entries_of-forest.result.now c.entries_of-forest.ensures.forest c.args.value counted c.value-held.result c.value-held.ensures c.in-Expr.field-0 c.in-Expr.is file r holds

pub resolve-requires-clause-plain : goal.resolve-requires-clause-plain
resolve-requires-clause-plain c = no_expr c.value-held.result c.in_default.not-Expr

pub resolve-requires-clause-id : goal.resolve-requires-clause-id
resolve-requires-clause-id c = subst (λ (z : Arena). c.owner_of-id.result < length z.entries) c.entries_of-forest.ensures.forest c.owner_of-id.ensures.known
