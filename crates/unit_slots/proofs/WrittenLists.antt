-- The sizes of the slots of the expressions of location lists that stand in their fewest bytes.
use Rattle.std.proofs.Common.{◌≡◌, ◌<◌, ◌∙◌, ◌++◌, ℕ, List, [], ◌∷◌, length, drop, ap, refl}
use Rattle.std.specs.Prelude.{map, flat_map}
use Rattle.std.specs.List.{All, AllZip}
use Rattle.std.proofs.lemmas.Grind.{flat_map-append}
use Rattle.std.proofs.lemmas.List.Elements.{All-head, All-tail}
use Rattle.dw_base.specs.declared.fault.Reach.TheVariants.{Wide}
use Rattle.expr_ops.specs.Expressions.{Operation, IsExpression}
use Rattle.expr_ops.specs.Slots.{expression_aims}
use Rattle.list_model.specs.declared.entry.ListKind.TheVariants.{Locations}
use Rattle.list_model.specs.declared.entry.RawEntry.{RawEntry}
use Rattle.loc_lists.specs.Locations.{items_among, bytes_in}
use Rattle.value_links.specs.Lists.{expressions_at}
use Rattle.value_links.specs.Reading.{Reading, list_at}
use Rattle.written_files.specs.Layouts.{list_expressions}
use Rattle.written_files.specs.inside.FewestBytes.{HasFewestBytes}
use Rattle.written_files.specs.inside.Laws.{AreLaws}
use Rattle.unit_slots.specs.Standing.{AreItemSizes, AreListSizes, AreListedSizes, all_sizes}
use Rattle.unit_slots.proofs.WrittenExpressions.{expression_stands}
use Rattle.unit_slots.proofs.WrittenItems.{ItemShort}
use Rattle.unit_slots.proofs.WrittenNeeds.{needs}

-- the bytes that the slots of an expression need
abbrev pub own_needs : List Operation → List ℕ
own_needs os = needs (expression_aims os)

-- LISTS SIDE BY SIDE

record AreParts {X Y : Type 0} (R : X → Y → Type 0) (xs : List X) (ys zs : List Y) : Type 0 where
  first : List X
  rest : List X
  whole : xs ≡ first ++ rest
  here : AllZip R first ys
  behind : AllZip R rest zs

zip_parts : {X Y : Type 0} (R : X → Y → Type 0) (xs : List X) (ys zs : List Y) → AllZip R xs (ys ++ zs) → AreParts R xs ys zs
zip_parts R xs [] zs zip = record { first = []; rest = xs; whole = refl; here = tt; behind = zip }
zip_parts R [] (y ∷ ys) zs zip = absurd zip
zip_parts R (x ∷ xs) (y ∷ ys) zs (one, more) =
    let parts = zip_parts R xs ys zs more in
    record { first = x ∷ parts.first; rest = parts.rest; whole = ap (λ z. x ∷ z) parts.whole; here = (one, parts.here); behind = parts.behind }

sizes_joined : (lists : List (List Operation)) → flat_map own_needs lists ≡ all_sizes (map own_needs lists)
sizes_joined [] = refl
sizes_joined (os ∷ lists) = ap (λ (z : List ℕ). own_needs os ++ z) (sizes_joined lists)

module _ (laws : AreLaws) where
  -- ONE LIST

  abbrev bytes_of : List ℕ → RawEntry → List ℕ
  bytes_of section raw = bytes_in section raw.expr

  items_sized : (section : List ℕ) (items : List RawEntry) (lists : List (List Operation)) → AllZip (IsExpression Wide) lists (map (bytes_of section) items) → All HasFewestBytes (map (bytes_of section) items) → All (ItemShort section) items → AllZip (AreItemSizes section) items (map own_needs lists)
  items_sized section [] [] zip few short = tt
  items_sized section [] (os ∷ lists) zip few short = absurd zip
  items_sized section (raw ∷ items) [] zip few short = absurd zip
  items_sized section (raw ∷ items) (os ∷ lists) (one, zip) few short =
      let item = All-head (ItemShort section) raw items short in
      let bytes : List ℕ = bytes_in section raw.expr in
      let least : HasFewestBytes bytes = All-head HasFewestBytes bytes (map (bytes_of section) items) few in (
        record { end = item.end; behind = item.behind; are = expression_stands laws (drop item.end section) bytes os least one item.counted },
        items_sized section items lists zip (All-tail HasFewestBytes bytes (map (bytes_of section) items) few) (All-tail (ItemShort section) raw items short),
      )

  -- LISTS THAT A UNIT OWNS

  module _ (s : Reading) (short : (k : ℕ) → k < length s.location_lists → All (ItemShort s.links.locations.section) (items_among (list_at s.location_lists k).raws)) (few : (k : ℕ) → k < length s.location_lists → All HasFewestBytes (expressions_at s.links Locations (list_at s.location_lists k))) where
    abbrev Known : ℕ → Type 0
    Known k = k < length s.location_lists

    list_sized : (k : ℕ) (lists : List (List Operation)) → Known k → AllZip (IsExpression Wide) lists (expressions_at s.links Locations (list_at s.location_lists k)) → AreListSizes s.links.locations.section (list_at s.location_lists k) (flat_map own_needs lists)
    list_sized k lists known zip =
        (map own_needs lists, items_sized s.links.locations.section (items_among (list_at s.location_lists k).raws) lists zip (few k known) (short k known), sizes_joined lists)

    -- Their slots have the sizes that they need.
    pub listed_stand : (numbers : List ℕ) (lists : List (List Operation)) → All Known numbers → AllZip (IsExpression Wide) lists (list_expressions s numbers) → AreListedSizes s numbers (flat_map own_needs lists)
    listed_stand [] [] known zip = ([], tt, refl)
    listed_stand [] (os ∷ lists) known zip = absurd zip
    listed_stand (k ∷ numbers) lists known zip =
        let parts = zip_parts (IsExpression Wide) lists (expressions_at s.links Locations (list_at s.location_lists k)) (list_expressions s numbers) zip in
        let (each, more, is) = listed_stand numbers parts.rest (All-tail Known k numbers known) parts.behind in (
          flat_map own_needs parts.first ∷ each,
          (list_sized k parts.first (All-head Known k numbers known) parts.here, more),
          ap (flat_map own_needs) parts.whole ∙ flat_map-append own_needs parts.first parts.rest ∙ ap (λ (z : List ℕ). flat_map own_needs parts.first ++ z) is,
        )
