-- How large the sections of lists of a valid file may be, and where lists and view pairs stand in them.
use Rattle.std.proofs.Common.{◌≡◌, ◌≤◌, ◌<◌, ◌+◌, ◌-◌, ◌^◌, inl, inr, ℕ, List, length, drop, ap, subst, refl, arith}
use Rattle.std.specs.Prelude.{Option, Some, None}
use Rattle.std.proofs.lemmas.Bool.{cases_lt}
use Rattle.std.proofs.lemmas.List.{length-take, length-drop}
use Rattle.dw_base.specs.declared.fault.Kind.TheVariants.{Limit}
use Rattle.dw_base.specs.declared.fault.Reach.{Reach}
use Rattle.dw_base.specs.declared.fault.Reach.TheVariants.{Narrow, Wide}
use Rattle.elf_sections.specs.Elf.{body_span}
use Rattle.elf_sections.specs.Faults.{file_limit}
use Rattle.list_model.specs.declared.entry.ListKind.{ListKind}
use Rattle.list_model.specs.declared.entry.ListKind.TheVariants.{Locations}
use Rattle.value_links.specs.Sections.{body_or_none, section_named, lists_name, debug_lists}
use Rattle.value_links.specs.Reading.{Reading, of_kind, part_at, list_at, view_at}
use Rattle.value_links.specs.ListPlaces.{IsListPlace}
use Rattle.value_links.specs.Faults.{IsValid}
use Rattle.value_links.specs.Faults.Pass.{OfFile}
use Rattle.value_links.specs.Whole.{IsReading}
use Rattle.value_links.specs.World.{World, Holds}
use Rattle.value_links.proofs.ViewLists.{views_together}
use Rattle.tidy_lists.proofs.HeldThings.{IsSomeWorld}
use Rattle.tidy_lists.proofs.OldOrder.{list_begins, part_ends}

pub body_short : (file : List ℕ) (found : Option ℕ) → length (body_or_none file found) ≤ length file
body_short file None = omega arith
body_short file (Some i) =
    let from : ℕ = (body_span file i).at in
    let len : ℕ = (body_span file i).at + (body_span file i).len - (body_span file i).at in
    omega (arith, length-take len (drop from file), length-drop from file)

within_limit : (reach : Reach) → file_limit reach ≤ 2 ^ 35
within_limit Narrow = omega arith
within_limit Wide = omega arith

pub file_short : (file : List ℕ) (reach : Reach) → IsValid file reach → length file ≤ 2 ^ 35
file_short file reach valid = elim (cases_lt (file_limit reach) (length file)) [
  | inl past ↦ absurd (valid OfFile Limit 0 (inl (refl, past)))
  | inr short ↦ (let limit = within_limit reach in omega (arith, short, limit))
]

pub section_short : (world : World) → IsSomeWorld world → (s : Reading) → Holds world.image world s → (kind : ListKind) → length (of_kind s.links kind).section ≤ 2 ^ 35
section_short world (reach, is) s holds kind =
    let bytes : length (of_kind s.links kind).section ≡ length (debug_lists world.image kind) = ap (λ (z : List ℕ). length z) (holds.sections kind) in
    let body : length (debug_lists world.image kind) ≤ length world.image = body_short world.image (section_named world.image (lists_name kind)) in
    omega (arith, bytes, body, file_short world.image reach is.valid)

-- view pairs stand in the contribution of their list
pub run_inside : (file : List ℕ) (s : Reading) → IsReading file s → (n : ℕ) → n < length s.views → (view_at s.views n).at < length s.links.locations.section
run_inside file s read n inside =
    let are = read.views.each n inside in
    let begins = list_begins file s read Locations are.k are.inside in
    let place : IsListPlace s.links.locations (list_at s.location_lists are.k).part (view_at s.views n).list = subst (IsListPlace s.links.locations (list_at s.location_lists are.k).part) are.at begins in
    let (p, list, (known, holds)) = views_together s.links (view_at s.views n).list (view_at s.views n).at are.named ((list_at s.location_lists are.k).part, place) in
    let to : (view_at s.views n).at < (part_at s.links.locations p).at + (part_at s.links.locations p).len = holds.before in
    omega (arith, to, part_ends file s read Locations p known)
