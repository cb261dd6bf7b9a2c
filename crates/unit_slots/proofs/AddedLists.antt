-- The slots of the items of a list, and of the location lists with some numbers, are added one after the other.
use Rattle.std.proofs.Common.{◌≡◌, ◌≤◌, ◌<◌, ◌+◌, ◌++◌, ◌∙◌, Bool, true, false, ℕ, List, [], ◌∷◌, length, get_or, take, cond, sym, ap, subst, refl, arith}
use Rattle.std.specs.Prelude.{map}
use Rattle.std.specs.List.{AllZip}
use Rattle.std.proofs.lemmas.Grind.{flat_map-append}
use Rattle.std.proofs.lemmas.List.{append_assoc, append-nil, take_more, take_all}
use Rattle.std.proofs.lemmas.List.Elements.{filter_more}
use Rattle.dw_base.specs.declared.fault.Reach.TheVariants.{Wide}
use Rattle.slot_layout.specs.declared.slots.Slot.{Slot}
use Rattle.expr_ops.specs.Expressions.{Operation, IsExpression}
use Rattle.entry_read.specs.Units.{HeadAndForest}
use Rattle.list_model.specs.declared.entry.ListKind.TheVariants.{Locations}
use Rattle.list_model.specs.declared.entry.RawEntry.{RawEntry}
use Rattle.loc_lists.specs.Locations.{is_item, items_among, bytes_in, expressions_of}
use Rattle.list_arena.specs.Held.{HeldList}
use Rattle.written_files.specs.Layouts.{list_expressions}
use Rattle.value_links.specs.Lists.{expressions_at}
use Rattle.value_links.specs.Reading.{Reading, list_at}
use Rattle.value_links.specs.Sections.{debug_lists}
use Rattle.value_links.specs.World.{World, Holds}
use Rattle.unit_slots.specs.Standing.{AreItemSizes, AreListSizes, all_sizes}
use Rattle.unit_slots.specs.inside.Made.{AreMade, AddsMade, AddsItem, AddsItems, AddsLists, ItemStands, ItemsStand}
use Rattle.unit_slots.proofs.AddedItems.{zip_join}

all_joined : (each : List (List ℕ)) (sizes : List ℕ) → all_sizes (each ++ sizes ∷ []) ≡ all_sizes each ++ sizes
all_joined each sizes = flat_map-append (λ (z : List ℕ). z) each (sizes ∷ []) ∙ ap (λ (z : List ℕ). all_sizes each ++ z) (append-nil sizes)

module _ (unit : HeadAndForest) (held : ℕ → List Operation) (own : List ℕ) where
  made_none : (slots : List Slot) (sizes : List ℕ) → AddsMade unit held own [] [] slots sizes slots sizes
  made_none slots sizes lists listed made =
      subst (λ (z : List (List Operation)). AreMade unit held own z (listed ++ []) slots sizes) (sym (append-nil lists)) (subst (λ (z : List ℕ). AreMade unit held own lists z slots sizes) (sym (append-nil listed)) made)

  made_both : (first second : List (List Operation)) (a b : List ℕ) (slots mid_slots new_slots : List Slot) (sizes mid_sizes new_sizes : List ℕ) → AddsMade unit held own first a slots sizes mid_slots mid_sizes → AddsMade unit held own second b mid_slots mid_sizes new_slots new_sizes → AddsMade unit held own (first ++ second) (a ++ b) slots sizes new_slots new_sizes
  made_both first second a b slots mid_slots new_slots sizes mid_sizes new_sizes one other lists listed made =
      subst (λ (z : List (List Operation)). AreMade unit held own z (listed ++ (a ++ b)) new_slots new_sizes) (append_assoc lists first second)
      (subst (λ (z : List ℕ). AreMade unit held own ((lists ++ first) ++ second) z new_slots new_sizes) (append_assoc listed a b) (other (lists ++ first) (listed ++ a) (one lists listed made)))

  -- ITEMS

  module _ (section : List ℕ) where
    pub items_none : (slots : List Slot) (sizes : List ℕ) → AddsItems unit held own section [] slots sizes slots sizes
    items_none slots sizes = record { operations = []; spelled = tt; added = []; are = tt; made = made_none slots sizes }

    module _ (raws : List RawEntry) (i : ℕ) (raw : RawEntry) (inside : i < length raws) (is : raw ≡ get_or raws i raw) where
      next_items : (b : Bool) → is_item raw ≡ b → items_among (take (i + 1) raws) ≡ items_among (take i raws) ++ cond b (raw ∷ []) []
      next_items b item =
          filter_more is_item raws i raw inside ∙ ap (λ (z : RawEntry). items_among (take i raws) ++ cond (is_item z) (z ∷ []) []) (sym is) ∙ ap (λ (z : Bool). items_among (take i raws) ++ cond z (raw ∷ []) []) item

      pub items_more : (slots mid_slots new_slots : List Slot) (sizes mid_sizes new_sizes : List ℕ) → is_item raw ≡ true → AddsItems unit held own section (take i raws) slots sizes mid_slots mid_sizes → AddsItem unit held own section raw mid_slots mid_sizes new_slots new_sizes → AddsItems unit held own section (take (i + 1) raws) slots sizes new_slots new_sizes
      items_more slots mid_slots new_slots sizes mid_sizes new_sizes item before adds =
          let spelled : AllZip (λ (os : List Operation) (z : RawEntry). IsExpression Wide os (bytes_in section z.expr)) (before.operations ++ adds.operations ∷ []) (items_among (take i raws) ++ raw ∷ []) =
          zip_join (λ (os : List Operation) (z : RawEntry). IsExpression Wide os (bytes_in section z.expr)) before.operations (items_among (take i raws)) (adds.operations ∷ []) (raw ∷ []) before.spelled (adds.spelled, tt) in
          let are : AllZip (AreItemSizes section) (items_among (take i raws) ++ raw ∷ []) (before.added ++ adds.added ∷ []) = zip_join (AreItemSizes section) (items_among (take i raws)) before.added (raw ∷ []) (adds.added ∷ []) before.are (adds.are, tt) in
          let made : AddsMade unit held own (before.operations ++ adds.operations ∷ []) (all_sizes before.added ++ adds.added) slots sizes new_slots new_sizes = made_both before.operations (adds.operations ∷ []) (all_sizes before.added) adds.added slots mid_slots new_slots sizes mid_sizes new_sizes before.made adds.made in
          record {
            operations = before.operations ++ adds.operations ∷ [];
            spelled = subst (λ (z : List RawEntry). AllZip (λ (os : List Operation) (y : RawEntry). IsExpression Wide os (bytes_in section y.expr)) (before.operations ++ adds.operations ∷ []) z) (sym (next_items true item)) spelled;
            added = before.added ++ adds.added ∷ [];
            are = subst (λ (z : List RawEntry). AllZip (AreItemSizes section) z (before.added ++ adds.added ∷ [])) (sym (next_items true item)) are;
            made = subst (λ (z : List ℕ). AddsMade unit held own (before.operations ++ adds.operations ∷ []) z slots sizes new_slots new_sizes) (sym (all_joined before.added adds.added)) made;
          }

      pub items_still : (slots new_slots : List Slot) (sizes new_sizes : List ℕ) → is_item raw ≡ false → AddsItems unit held own section (take i raws) slots sizes new_slots new_sizes → AddsItems unit held own section (take (i + 1) raws) slots sizes new_slots new_sizes
      items_still slots new_slots sizes new_sizes none before =
          let same : items_among (take (i + 1) raws) ≡ items_among (take i raws) = next_items false none ∙ append-nil (items_among (take i raws)) in
          record {
            operations = before.operations;
            spelled = subst (λ (z : List RawEntry). AllZip (λ (os : List Operation) (y : RawEntry). IsExpression Wide os (bytes_in section y.expr)) before.operations z) (sym same) before.spelled;
            added = before.added;
            are = subst (λ (z : List RawEntry). AllZip (AreItemSizes section) z before.added) (sym same) before.are;
            made = before.made;
          }

    pub items_all : (raws : List RawEntry) (i : ℕ) (slots new_slots : List Slot) (sizes new_sizes : List ℕ) → length raws ≤ i → AddsItems unit held own section (take i raws) slots sizes new_slots new_sizes → AddsItems unit held own section raws slots sizes new_slots new_sizes
    items_all raws i slots new_slots sizes new_sizes past adds = subst (λ (z : List RawEntry). AddsItems unit held own section z slots sizes new_slots new_sizes) (take_all i raws past) adds

-- the entry with a number; past the end there is none, and an empty one stands for it
abbrev pub no_raw : RawEntry
no_raw = record { at = 0; code = 0; a = 0; b = 0; expr = record { at = 0; len = 0 } }

-- an item among entries that stand
pub item_stands : (unit : HeadAndForest) (section : List ℕ) (raws : List RawEntry) (i : ℕ) (raw : RawEntry) → i < length raws → raw ≡ get_or raws i raw → is_item raw ≡ true → ItemsStand unit section raws → ItemStands unit section raw
item_stands unit section raws i raw inside is item stand = subst (λ (z : RawEntry). is_item z ≡ true → ItemStands unit section z) (sym is) (stand i raw inside) item

-- LISTS

zip_mapped : (section : List ℕ) (ops : List (List Operation)) (raws : List RawEntry) → AllZip (λ (os : List Operation) (raw : RawEntry). IsExpression Wide os (bytes_in section raw.expr)) ops raws → AllZip (IsExpression Wide) ops (map (λ (raw : RawEntry). bytes_in section raw.expr) raws)
zip_mapped section [] [] zip = tt
zip_mapped section [] (r ∷ raws) zip = absurd zip
zip_mapped section (o ∷ ops) [] zip = absurd zip
zip_mapped section (o ∷ ops) (r ∷ raws) (first, zip) = (first, zip_mapped section ops raws zip)

module _ (world : World) (unit : HeadAndForest) (held : ℕ → List Operation) (own : List ℕ) where
  pub lists_none : (slots : List Slot) (sizes : List ℕ) → AddsLists world unit held own [] slots sizes slots sizes
  lists_none slots sizes = record { operations = []; spelled = λ s holds. tt; added = []; are = λ s holds. ([], tt, refl); made = made_none unit held own slots sizes }

  module _ (numbers : List ℕ) (i k : ℕ) (inside : i < length numbers) (is : k ≡ get_or numbers i k) (list : HeldList) (known : k < length world.locations) (list_is : list ≡ get_or world.locations k list) where
    next_number : take (i + 1) numbers ≡ take i numbers ++ k ∷ []
    next_number = take_more numbers i k inside ∙ ap (λ (z : ℕ). take i numbers ++ z ∷ []) (sym is)

    -- the list as it is read
    module _ (s : Reading) (holds : Holds world.image world s) where
      raws_read : list.raw ≡ (list_at s.location_lists k).raws
      raws_read =
          let count : length world.locations ≡ length s.location_lists = (holds.lists Locations).count in
          ap (λ (z : HeldList). z.raw) list_is ∙ ((holds.lists Locations).each k list (omega (arith, known, count))).raws

      section_read : debug_lists world.image Locations ≡ s.links.locations.section
      section_read = sym (holds.sections Locations)

      expressions_read : expressions_of (debug_lists world.image Locations) list.raw ≡ expressions_at s.links Locations (list_at s.location_lists k)
      expressions_read = ap (λ (z : List ℕ). expressions_of z list.raw) section_read ∙ ap (expressions_of s.links.locations.section) raws_read

      next_expressions : list_expressions s (take (i + 1) numbers) ≡ list_expressions s (take i numbers) ++ expressions_at s.links Locations (list_at s.location_lists k)
      next_expressions =
          ap (list_expressions s) next_number ∙ flat_map-append (λ (n : ℕ). expressions_at s.links Locations (list_at s.location_lists n)) (take i numbers) (k ∷ [])
          ∙ ap (λ (z : List (List ℕ)). list_expressions s (take i numbers) ++ z) (append-nil (expressions_at s.links Locations (list_at s.location_lists k)))

    pub lists_more : (slots mid_slots new_slots : List Slot) (sizes mid_sizes new_sizes : List ℕ) → AddsLists world unit held own (take i numbers) slots sizes mid_slots mid_sizes → AddsItems unit held own (debug_lists world.image Locations) list.raw mid_slots mid_sizes new_slots new_sizes → AddsLists world unit held own (take (i + 1) numbers) slots sizes new_slots new_sizes
    lists_more slots mid_slots new_slots sizes mid_sizes new_sizes before adds = record {
      operations = before.operations ++ adds.operations;
      spelled = λ s holds.
          let mapped : AllZip (IsExpression Wide) adds.operations (expressions_of (debug_lists world.image Locations) list.raw) = zip_mapped (debug_lists world.image Locations) adds.operations (items_among list.raw) adds.spelled in
          let here : AllZip (IsExpression Wide) adds.operations (expressions_at s.links Locations (list_at s.location_lists k)) = subst (AllZip (IsExpression Wide) adds.operations) (expressions_read s holds) mapped in
          subst (AllZip (IsExpression Wide) (before.operations ++ adds.operations)) (sym (next_expressions s holds)) (zip_join (IsExpression Wide) before.operations (list_expressions s (take i numbers)) adds.operations (expressions_at s.links Locations (list_at s.location_lists k)) (before.spelled s holds) here);
      added = before.added ++ all_sizes adds.added;
      are = λ s holds.
          let (each, zip, whole) = before.are s holds in
          let Are : ℕ → List ℕ → Type 0 = λ n. AreListSizes s.links.locations.section (list_at s.location_lists n) in
          let own_are : AllZip (AreItemSizes s.links.locations.section) (items_among (list_at s.location_lists k).raws) adds.added = subst (λ (z : List RawEntry). AllZip (AreItemSizes s.links.locations.section) (items_among z) adds.added) (raws_read s holds) (subst (λ (z : List ℕ). AllZip (AreItemSizes z) (items_among list.raw) adds.added) (section_read s holds) adds.are) in (
            each ++ all_sizes adds.added ∷ [],
            subst (λ (z : List ℕ). AllZip (λ (n : ℕ). AreListSizes s.links.locations.section (list_at s.location_lists n)) z (each ++ all_sizes adds.added ∷ [])) (sym next_number)
                (zip_join (λ (n : ℕ). AreListSizes s.links.locations.section (list_at s.location_lists n)) (take i numbers) each (k ∷ []) (all_sizes adds.added ∷ []) zip ((adds.added, own_are, refl), tt)),
            ap (λ (z : List ℕ). z ++ all_sizes adds.added) whole ∙ sym (all_joined each (all_sizes adds.added)),
          );
      made = made_both unit held own before.operations adds.operations before.added (all_sizes adds.added) slots mid_slots new_slots sizes mid_sizes new_sizes before.made adds.made;
    }

  pub lists_all : (numbers : List ℕ) (i : ℕ) (slots new_slots : List Slot) (sizes new_sizes : List ℕ) → length numbers ≤ i → AddsLists world unit held own (take i numbers) slots sizes new_slots new_sizes → AddsLists world unit held own numbers slots sizes new_slots new_sizes
  lists_all numbers i slots new_slots sizes new_sizes past adds = subst (λ (z : List ℕ). AddsLists world unit held own z slots sizes new_slots new_sizes) (take_all i numbers past) adds
