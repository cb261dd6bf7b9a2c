-- The runs of view pairs of a file.
use Rattle.std.proofs.Common.{◌≡◌, ◌<◌, ◌-◌, ◌++◌, ◌∙◌, ℕ, List, [], length, map, get_or, drop, Option, sym, ap, subst}
use Rattle.std.proofs.lemmas.List.{append_assoc, take-append-drop, length-map, get_or-map}
use Rattle.dw_base.specs.declared.fault.Reach.{Reach}
use Rattle.tidy_places.specs.Firsts.{IsLeastFound}
use Rattle.list_model.specs.declared.contribution.Contribution.{Contribution}
use Rattle.list_model.specs.declared.entry.ListKind.TheVariants.{Locations}
use Rattle.list_model.specs.Contributions.{part_end}
use Rattle.loc_lists.specs.declared.views.ViewPair.{ViewPair}
use Rattle.loc_lists.specs.Views.{IsRunAt}
use Rattle.list_arena.specs.Held.{HeldViews}
use Rattle.value_links.specs.Sections.{debug_lists}
use Rattle.value_links.specs.Reading.{ViewRead, Reading, view_at}
use Rattle.value_links.specs.World.{World, Holds, IsWorldOf}
use Rattle.tidy_numbers.specs.LongLists.{IsLongInRun, IsLongInViews}
use Rattle.tidy_numbers.specs.inside.NumberWalks.{run_read, IsRunIn}
use Rattle.tidy_numbers.proofs.WalkedPlaces.{HoldsAmong}

-- a run that stands in a contribution begins the bytes from its place on
run_in : (section : List ℕ) (part : Contribution) (list start : ℕ) (pairs : List ViewPair) → IsRunAt section part start pairs → IsRunIn section (record { list = list; at = start; pairs = pairs })
run_in section part list start pairs stands =
    let n : ℕ = part_end part - start in (
      stands.run,
      stands.rest ++ drop n (drop start section),
      stands.spelled,
      sym (take-append-drop n (drop start section)) ∙ ap (λ z. z ++ drop n (drop start section)) stands.whole ∙ append_assoc stands.run stands.rest (drop n (drop start section)),
    )

-- the run with a number
pub run_at : (runs : List HeldViews) (k : ℕ) (d : HeldViews) → k < length runs → view_at (map run_read runs) k ≡ run_read (get_or runs k d)
run_at runs k d inside = get_or-map run_read runs k d (record { list = 0; at = 0; pairs = [] }) inside

-- each stands where it is said to
pub runs_stand : (world : World) (reach : Reach) → IsWorldOf world.image reach world → (k : ℕ) (d : HeldViews) → k < length world.views → IsRunIn (debug_lists world.image Locations) (run_read (get_or world.views k d))
runs_stand world reach is k d inside =
    let all : is.r.views ≡ map run_read world.views = is.holds.views in
    let within : k < length is.r.views = subst (λ (n : ℕ). k < n) (sym (ap length all ∙ length-map world.views run_read)) inside in
    let read = is.read.views.each k within in
    let stands = run_in is.r.links.locations.section _ (view_at is.r.views k).list (view_at is.r.views k).at (view_at is.r.views k).pairs read.read in
    let same : view_at is.r.views k ≡ run_read (get_or world.views k d) = ap (λ (z : List ViewRead). view_at z k) all ∙ run_at world.views k d inside in
    subst (λ (bytes : List ℕ). IsRunIn bytes (run_read (get_or world.views k d))) (is.holds.sections Locations) (subst (λ (z : ViewRead). IsRunIn is.r.links.locations.section z) same stands)

-- the places in the run with a number
abbrev pub IsLongInRunOf : List ℕ → List HeldViews → ℕ → ℕ → Type 0
IsLongInRunOf bytes runs k p = IsLongInRun bytes (view_at (map run_read runs) k) p

-- what is found in all runs is found in those that were read
pub found_in_views : (world : World) (s : Reading) → Holds world.image world s → (found : Option ℕ) → IsLeastFound (HoldsAmong (IsLongInRunOf (debug_lists world.image Locations) world.views) (length world.views)) found → IsLeastFound (IsLongInViews s) found
found_in_views world s holds found least =
    let all : s.views ≡ map run_read world.views = holds.views in
    let count : length (map run_read world.views) ≡ length world.views = length-map world.views run_read in
    let Found : List ℕ → List ViewRead → ℕ → Type 0 = λ bytes views n. IsLeastFound (HoldsAmong (λ k p. IsLongInRun bytes (view_at views k) p) n) found in
    let counted : Found (debug_lists world.image Locations) (map run_read world.views) (length (map run_read world.views)) = subst (λ (n : ℕ). Found (debug_lists world.image Locations) (map run_read world.views) n) (sym count) least in
    let there : Found (debug_lists world.image Locations) s.views (length s.views) = subst (λ (views : List ViewRead). Found (debug_lists world.image Locations) views (length views)) (sym all) counted in
    subst (λ (bytes : List ℕ). Found bytes s.views (length s.views)) (sym (holds.sections Locations)) there
