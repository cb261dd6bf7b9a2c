use Rattle.std.proofs.Common.{◌≡◌, ◌+◌, ◌-◌, ◌*◌, ◌∙◌, ℕ, List, length, sym, ap, subst, arith}
use Rattle.list_model.specs.declared.entry.ListKind.TheVariants.{Locations}
use Rattle.list_arena.specs.Held.{HeldViews}
use Rattle.value_links.specs.Reading.{view_at}
use Rattle.tidy_lists.specs.Followers.{RunHasLength}
use Rattle.tidy_lists.proofs.HeldThings.{some_element}
use Rattle.tidy_lists.proofs.NumbersUpTo.{numbers_size}
use Rattle.tidy_lists.proofs.RunsUpTo.{run_stands}
use Rattle.tidy_lists.proofs.lengths.run_len.Goals as goal

pub overflow_mul-pair_count : goal.overflow_mul-pair_count
overflow_mul-pair_count c =
    let (reach, known) = c.requires.world in
    let d : HeldViews = some_element c.args.world.now.views c.args.number c.requires.inside in
    let stands = run_stands c.args.world.now known.r known.read known.holds c.views-views.result.now c.args.number d c.lists_section-section.result.now c.at-at.result c.pair_count.result c.views-views.ensures c.requires.inside c.lists_section-section.ensures (c.at-at.ensures d) (c.pair_count.ensures d) in
    let size = numbers_size c.lists_section-section.result.now c.at-at.result (2 * c.pair_count.result) (c.at-at.result + stands.0) stands.1 in
    let section : length c.lists_section-section.result.now ≡ length known.r.links.locations.section = ap (λ (z : List ℕ). length z) (c.lists_section-section.ensures ∙ sym (known.holds.sections Locations)) in
    record { fits = omega (arith, size, stands.4, section, c.lists_section-section.type_inv.0) }

pub numbers_end-requires : goal.numbers_end-requires
numbers_end-requires c =
    let (reach, known) = c.requires.world in
    let d : HeldViews = some_element c.args.world.now.views c.args.number c.requires.inside in
    let stands = run_stands c.args.world.now known.r known.read known.holds c.views-views.result.now c.args.number d c.lists_section-section.result.now c.at-at.result c.pair_count.result c.views-views.ensures c.requires.inside c.lists_section-section.ensures (c.at-at.ensures d) (c.pair_count.ensures d) in
    record { numbers = (c.at-at.result + stands.0, stands.1) }

pub overflow_sub-result : goal.overflow_sub-result
overflow_sub-result c =
    let (reach, known) = c.requires.world in
    let d : HeldViews = some_element c.args.world.now.views c.args.number c.requires.inside in
    let stands = run_stands c.args.world.now known.r known.read known.holds c.views-views.result.now c.args.number d c.lists_section-section.result.now c.at-at.result c.pair_count.result c.views-views.ensures c.requires.inside c.lists_section-section.ensures (c.at-at.ensures d) (c.pair_count.ensures d) in
    let same = c.numbers_end.ensures (c.at-at.result + stands.0) stands.1 in
    omega (arith, same)

pub returns-clause-len : goal.returns-clause-len
returns-clause-len c = λ r s first holds_first read holds.
    let d : HeldViews = some_element c.args.world.now.views c.args.number c.requires.inside in
    let stands = run_stands c.args.world.now s read holds c.views-views.result.now c.args.number d c.lists_section-section.result.now c.at-at.result c.pair_count.result c.views-views.ensures c.requires.inside c.lists_section-section.ensures (c.at-at.ensures d) (c.pair_count.ensures d) in
    let same = c.numbers_end.ensures (c.at-at.result + stands.0) stands.1 in
    let len : stands.0 ≡ c.numbers_end.result - c.at-at.result = omega (arith, same) in
    subst (λ (n : ℕ). RunHasLength s (view_at s.views c.args.number) n) len stands.2

pub returns-clause-within : goal.returns-clause-within
returns-clause-within c = λ r s first holds_first read holds.
    let d : HeldViews = some_element c.args.world.now.views c.args.number c.requires.inside in
    let stands = run_stands c.args.world.now s read holds c.views-views.result.now c.args.number d c.lists_section-section.result.now c.at-at.result c.pair_count.result c.views-views.ensures c.requires.inside c.lists_section-section.ensures (c.at-at.ensures d) (c.pair_count.ensures d) in
    let same = c.numbers_end.ensures (c.at-at.result + stands.0) stands.1 in
    omega (arith, same, stands.3, stands.4)
