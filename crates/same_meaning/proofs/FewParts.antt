-- The contributions of lists of a valid file: numbers of 32 bits name them.
use Rattle.std.proofs.Common.{◌≡◌, ◌≤◌, ◌<◌, ◌+◌, ◌*◌, ◌^◌, ℕ, List, [], ◌∷◌, length, ap, arith}
use Rattle.dw_base.specs.declared.fault.Reach.{Reach}
use Rattle.list_model.specs.declared.contribution.Contribution.{Contribution}
use Rattle.list_model.specs.declared.entry.ListKind.{ListKind}
use Rattle.list_model.specs.Contributions.{part_end, ContributionsFollow}
use Rattle.list_model.proofs.Tiling.{part_inside}
use Rattle.value_links.specs.Sections.{section_named, lists_name, debug_lists}
use Rattle.value_links.specs.Reading.{of_kind}
use Rattle.value_links.specs.World.{World, contributions_held, IsWorldOf}
use Rattle.same_meaning.proofs.FewPrograms.{body_short, file_short}

-- a contribution has at least the 12 bytes of its header
parts_long : (section : List ℕ) (parts : List Contribution) (at end : ℕ) → ContributionsFollow section parts at end → at + 12 * length parts ≤ end
parts_long section [] at end same = omega (arith, same)
parts_long section (part ∷ parts) at end (here, is, rest) =
    let long : part_end part + 12 * length parts ≤ end = parts_long section parts (part_end part) end rest in
    omega (arith, long, (part_inside section part is).0, here)

pub few_parts : (world : World) (reach : Reach) → IsWorldOf world.image reach world → (kind : ListKind) → length (contributions_held world kind) < 2 ^ 32
few_parts world reach is kind =
    let section : List ℕ = (of_kind is.r.links kind).section in
    let parts : List Contribution = (of_kind is.r.links kind).parts in
    let read = is.read.links.lists kind in
    let long : 0 + 12 * length parts ≤ length section = parts_long section parts 0 (length section) read.tiled in
    let bytes : length section ≡ length (debug_lists world.image kind) = ap (λ (z : List ℕ). length z) read.bytes_are in
    let short : length (debug_lists world.image kind) ≤ length world.image = body_short world.image (section_named world.image (lists_name kind)) in
    let most : length world.image ≤ 2 ^ 35 = file_short world.image reach is.valid in
    let count : length (contributions_held world kind) ≡ length parts = ap (λ (z : List Contribution). length z) (is.holds.contributions kind) in
    omega (arith, long, bytes, short, most, count)
