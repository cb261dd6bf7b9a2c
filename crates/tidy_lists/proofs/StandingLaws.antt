-- Where lists and runs of view pairs stand, as it is found.
use Rattle.std.proofs.Common.{◌≡◌, ◌<◌, ◌+◌, ◌∙◌, ℕ, List, [], ◌∷◌, ◌++◌, length, get_or, map, take, sym, ap, subst, arith}
use Rattle.std.proofs.lemmas.List.{get_or-map, length_push, map_more}
use Rattle.list_model.specs.declared.entry.ListKind.{ListKind}
use Rattle.list_model.specs.declared.entry.ListKind.TheVariants.{Ranges, Locations}
use Rattle.list_arena.specs.Held.{HeldList, HeldViews}
use Rattle.value_links.specs.Reading.{Reading, lists_of, view_at}
use Rattle.value_links.specs.World.{World, lists_held, Holds}
use Rattle.tidy_lists.specs.declared.due.Place.{Place}
use Rattle.tidy_lists.specs.inside.Compared.{OfBoth}
use Rattle.tidy_lists.specs.inside.DuePlaces.{place_at, runs_of, runs_held, standing, IsPartOfList, StandsRun, StandLists, StandRuns}
use Rattle.tidy_lists.proofs.HeldThings.{list_count, held_part, held_at, held_run, held_run_at, some_element}
use Rattle.tidy_lists.proofs.DueSteps.{push_before}

run_begins : (world : World) (s : Reading) → Holds world.image world s → (kind : ListKind) (n : ℕ) (d : HeldViews) → n < length (runs_held world kind) → (get_or (runs_held world kind) n d).at ≡ (view_at (runs_of s kind) n).at
run_begins world s holds Ranges n d inside = absurd (omega (arith, inside))
run_begins world s holds Locations n d inside = held_run_at world s holds n d inside

-- one more run
pub runs_more :
    (world : World) (kind : ListKind) (n : ℕ) (places : List Place) (place : Place) (at : ℕ) (d : HeldViews) → n < length (runs_held world kind) → length places ≡ n → at ≡ (get_or (runs_held world kind) n d).list → place.at ≡ (get_or (runs_held world kind) n d).at →
    OfBoth world world (λ r s. IsPartOfList kind s at place.part) → OfBoth world world (λ r s. StandRuns kind s n places) → OfBoth world world (λ r s. StandRuns kind s (n + 1) (places ++ place ∷ []))
runs_more world kind n places place at d inside count list here part before = λ r s read holds again held k less.
    let own : IsPartOfList kind s (view_at (runs_of s kind) n).list place.part = subst (λ (z : ℕ). IsPartOfList kind s z place.part) (list ∙ held_run world s held kind n d inside) (part r s read holds again held) in
    let is : StandsRun kind s n place = record { part = own; at = here ∙ run_begins world s held kind n d inside } in
    push_before (StandsRun kind s) places place (λ k less. before r s read holds again held k (omega (arith, less, count))) (subst (λ (z : ℕ). StandsRun kind s z place) (sym count) is) k (omega (arith, less, count, length_push places place))

-- one more list
pub lists_more : (lists : List HeldList) (n : ℕ) (places : List Place) (place : Place) (d : HeldList) → n < length lists → places ≡ map standing (take n lists) → place.part ≡ (get_or lists n d).part → place.at ≡ (get_or lists n d).at → places ++ place ∷ [] ≡ map standing (take (n + 1) lists)
lists_more lists n places place d inside before part at =
    let is : place ≡ standing (get_or lists n d) = ap (λ (z : ℕ). record { part = z; at = place.at }) part ∙ ap (λ (z : ℕ). record { part = (get_or lists n d).part; at = z }) at in
    ap (λ (z : List Place). z ++ place ∷ []) before ∙ ap (λ (z : Place). map standing (take n lists) ++ z ∷ []) is ∙ sym (map_more standing lists n d inside)

-- lists
pub lists_stand : (world : World) (s : Reading) → Holds world.image world s → (kind : ListKind) (stands : List Place) → stands ≡ map standing (lists_held world kind) → StandLists kind s (length (lists_of s kind)) stands
lists_stand world s holds kind stands is m inside =
    let known : m < length (lists_held world kind) = omega (arith, inside, list_count world s holds kind) in
    let d : HeldList = some_element (lists_held world kind) m known in
    let there : place_at stands m ≡ standing (get_or (lists_held world kind) m d) = ap (λ (z : List Place). place_at z m) is ∙ get_or-map standing (lists_held world kind) m d (record { part = 0; at = 0 }) known in
    record {
      part = ap (λ (z : Place). z.part) there ∙ held_part world s holds kind m d known;
      at = ap (λ (z : Place). z.at) there ∙ held_at world s holds kind m d known;
    }
