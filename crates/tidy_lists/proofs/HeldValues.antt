-- Values as they are looked up in what is held of a file.
use Rattle.std.proofs.Common.{◌≡◌, ◌<◌, ◌∙◌, ℕ, List, length, get_or, sym, ap, subst}
use Rattle.std.proofs.lemmas.List.{get_or_read}
use Rattle.form_codec.specs.declared.value.Value.{Value}
use Rattle.entry_arena.specs.Arena.{Arena, value_at}
use Rattle.entry_read.specs.Units.{HeadAndForest}
use Rattle.value_links.specs.Reading.{Reading, no_unit, unit_at}
use Rattle.value_links.specs.Links.{held_at}
use Rattle.value_links.specs.World.{World, head_and_forest, Holds}
use Rattle.value_links.proofs.HeldUnits.{held_count, held_is}

-- a unit that is looked up is the one that is held
pub forest_is : (world : World) (u : ℕ) (units : List HeadAndForest) (own : HeadAndForest) (forest : Arena) → u < length world.units → units ≡ world.units → own ≡ get_or units u own → forest ≡ own.forest → forest ≡ (held_at world.units u).forest
forest_is world u units own forest inside same is there =
    let here : own ≡ held_at world.units u = get_or_read world.units u own inside (subst (λ (z : List HeadAndForest). own ≡ get_or z u own) same is) (head_and_forest no_unit) in
    there ∙ ap (λ (h : HeadAndForest). h.forest) here

-- and the one that was read
pub unit_held : (world : World) (r : Reading) (u : ℕ) → Holds world.image world r → u < length world.units → held_at world.units u ≡ head_and_forest (unit_at r.links u)
unit_held world r u holds inside =
    held_is r.links.units world.units holds.units u (subst (λ (n : ℕ). u < n) (held_count r.links.units world.units holds.units) inside)

-- so is its value
pub value_is : (world : World) (r : Reading) (u number : ℕ) (forest : Arena) (v : Value) → Holds world.image world r → u < length world.units → forest ≡ (held_at world.units u).forest → v ≡ value_at forest.values number → value_at (unit_at r.links u).forest.values number ≡ v
value_is world r u number forest v holds inside same is =
    sym (is ∙ ap (λ (f : Arena). value_at f.values number) same ∙ ap (λ (h : HeadAndForest). value_at h.forest.values number) (unit_held world r u holds inside))

-- there are as many values
pub count_is : (world : World) (r : Reading) (u count : ℕ) (forest : Arena) → Holds world.image world r → u < length world.units → forest ≡ (held_at world.units u).forest → count ≡ length forest.values → count ≡ length (unit_at r.links u).forest.values
count_is world r u count forest holds inside same is =
    is ∙ ap (λ (f : Arena). length f.values) same ∙ ap (λ (h : HeadAndForest). length h.forest.values) (unit_held world r u holds inside)
