use Rattle.std.proofs.Common.{◌≡◌, ◌≤◌, ℕ, List, length, ap, subst, sym, arith}
use Rattle.std.specs.Prelude.{slice_index_or}
use Rattle.std.proofs.lemmas.List.{length-take-le}
use Rattle.list_model.specs.declared.contribution.Contribution.{Contribution}
use Rattle.list_model.specs.Contributions.{part_end}
use Rattle.value_links.specs.Sections.{debug_lists}
use Rattle.value_links.specs.World.{contribution_at}
use Rattle.tidy_lists.proofs.ListsUpTo.{part_ends}
use Rattle.tidy_lists.proofs.lengths.bytes_to.Goals as goal

-- the contribution that is taken
taken : (c : goal.After-struct_known-1) → slice_index_or c.contributions.result.now c.args.part (record { at = 0; len = 0; slots = 0 }) ≡ contribution_at c.args.world.now c.args.kind c.args.part
taken c = ap (λ (parts : List Contribution). slice_index_or parts c.args.part (record { at = 0; len = 0; slots = 0 })) c.contributions.ensures

-- it ends in the section
ends : (c : goal.After-struct_known-1) → part_end (slice_index_or c.contributions.result.now c.args.part (record { at = 0; len = 0; slots = 0 })) ≤ length c.lists_section.result.now
ends c =
    let (reach, known) = c.requires.world in
    let inside = part_ends c.args.world.now known.r known.read known.holds c.args.kind c.args.part c.requires.inside in
    subst (λ (bytes : List ℕ). part_end (slice_index_or c.contributions.result.now c.args.part (record { at = 0; len = 0; slots = 0 })) ≤ length bytes) (sym c.lists_section.ensures)
    (subst (λ (part : Contribution). part_end part ≤ length (debug_lists c.args.world.now.image c.args.kind)) (sym (taken c)) inside)

pub overflow_add-result : goal.overflow_add-result
overflow_add-result c = record { fits = omega (arith, ends c, c.lists_section.type_inv.0) }

pub slice_bounds-result-end : goal.slice_bounds-result-end
slice_bounds-result-end c = sym (length-take-le (part_end (slice_index_or c.contributions.result.now c.args.part (record { at = 0; len = 0; slots = 0 }))) c.lists_section.result.now (ends c))
