-- The least place among those of all sections, as an offset in the file.
use Rattle.std.proofs.Common.{◌≡◌, ◌<◌, ◌+◌, ◌^◌, ◌∙◌, ◌⊎◌, inl, inr, ℕ, List, length, sym, ap, subst, refl, arith, true≢false}
use Rattle.std.specs.Prelude.{Option, Some, None, IfSome, IsNone, MatchOption}
use Rattle.dw_base.specs.declared.classes.Classes.{Classes}
use Rattle.dw_base.specs.declared.fault.Reach.{Reach}
use Rattle.dw_base.specs.declared.fault.Reach.TheVariants.{Wide}
use Rattle.elf_sections.specs.Elf.{offset_of, body_of}
use Rattle.elf_sections.specs.Faults.{IsRead}
use Rattle.elf_sections.specs.Sections.{IsFirstNamed, HasNone}
use Rattle.elf_sections.proofs.Reaches.{read-wide}
use Rattle.list_model.specs.declared.entry.ListKind.{ListKind}
use Rattle.list_model.specs.declared.entry.ListKind.TheVariants.{Ranges, Locations}
use Rattle.value_links.specs.Laws.{OneReading}
use Rattle.value_links.specs.Reading.{Reading, unit_at}
use Rattle.value_links.specs.Sections.{body_named, offset_named, debug_info, debug_abbrev, debug_lists, abbrev_name, info_name, lists_name}
use Rattle.value_links.specs.Whole.{IsReading}
use Rattle.value_links.specs.World.{World, IsWorldOf}
use Rattle.value_links.proofs.HeldUnits.{unit_is}
use Rattle.value_links.proofs.SectionBytes.{none_named, first_named, body_room}
use Rattle.value_links.proofs.ValidImages.{image_in_order}
use Rattle.tidy_places.specs.Firsts.{IsLeastFound}
use Rattle.tidy_numbers.specs.LongLists.{IsLongInLists, IsLongInViews}
use Rattle.tidy_numbers.specs.LongNumbers.{HoldsIn, IsLongInTables, IsLongInEntries, IsLongInExpressions, IsLongInInfo, IsLongInSection, IsLongIn, IsLongNumber}
use Rattle.tidy_numbers.specs.inside.Held.{OfReading}
use Rattle.tidy_numbers.proofs.EarlierPlaces.{least_same, least_of_both}
use Rattle.tidy_numbers.proofs.PlacesWithin.{tables_within, info_within, lists_within}

abbrev IsSomeWorld : World → Type 0
IsSomeWorld world = (reach : Reach) × IsWorldOf world.image reach world

-- PLACES IN THE FILE

-- a section that isn't there has no places
none_inside : (file name : List ℕ) (place : ℕ) → HasNone file name → place < length (body_named file name) → ⊥
none_inside file name place none inside =
    let bare : length (body_named file name) ≡ 0 = ap (λ (z : List ℕ). length z) (none_named file name none).0 in
    omega arith

-- a place in the section with a name, and the image of the file
module _ (world : World) (some : IsSomeWorld world) (name : List ℕ) (found : Option ℕ) (place : ℕ) (is : found ≡ Some place) (inside : IfSome found (λ p. p < length (body_named world.image name))) (image : List ℕ) (same : image ≡ world.image) where
  place_inside : place < length (body_named world.image name)
  place_inside = subst (λ (o : Option ℕ). IfSome o (λ p. p < length (body_named world.image name))) is inside

  pub not_missing : HasNone image name → ⊥
  not_missing none = none_inside world.image name place (subst (λ (z : List ℕ). HasNone z name) same none) place_inside

  module _ (i : ℕ) (first : IsFirstNamed image name i) (offset : ℕ) (at : offset ≡ offset_of image i) where
    first_there : IsFirstNamed world.image name i
    first_there = subst (λ (z : List ℕ). IsFirstNamed z name i) same first

    offset_is : offset ≡ offset_of world.image i
    offset_is = at ∙ ap (λ (z : List ℕ). offset_of z i) same

    image_read : IsRead world.image Wide
    image_read = read-wide world.image some.0 (image_in_order world.image some.0 some.1.valid)

    pub offset_room : offset < 2 ^ 64 → offset + place < 2 ^ 64
    offset_room fits =
        let room : offset_of world.image i + length (body_of world.image i) < 2 ^ 64 = body_room world.image i image_read first_there.inside (subst (λ (n : ℕ). n < 2 ^ 64) offset_is fits) in
        let size : length (body_named world.image name) ≡ length (body_of world.image i) = ap (λ (z : List ℕ). length z) (first_named world.image name i first_there).0 in
        let there : place < length (body_named world.image name) = place_inside in
        let origin : offset ≡ offset_of world.image i = offset_is in
        omega arith

    pub offset_found : MatchOption found (IsNone (Some (offset + place))) (λ p. Some (offset + place) ≡ Some (offset_named world.image name + p))
    offset_found =
        let origin : offset ≡ offset_named world.image name = offset_is ∙ sym (first_named world.image name i first_there).1 in
        subst (λ (o : Option ℕ). MatchOption o (IsNone (Some (offset + place))) (λ p. Some (offset + place) ≡ Some (offset_named world.image name + p))) (sym is) (ap (λ (n : ℕ). Some (n + place)) origin)

-- a place that was found lies in its section
pub least_inside : (P : ℕ → Type 0) (size : ℕ) → ((p : ℕ) → P p → p < size) → (found : Option ℕ) → IsLeastFound P found → IfSome found (λ p. p < size)
least_inside P size inside None none = tt
least_inside P size inside (Some p) (here, first) = inside p here

pub inside_named : (file name wanted : List ℕ) → name ≡ wanted → (found : Option ℕ) → IfSome found (λ p. p < length (body_named file wanted)) → IfSome found (λ p. p < length (body_named file name))
inside_named file name wanted is found inside = subst (λ (z : List ℕ). IfSome found (λ p. p < length (body_named file z))) (sym is) inside

-- and is found in the file
in_file : (file name : List ℕ) (P : ℕ → Type 0) (place found : Option ℕ) → MatchOption place (IsNone found) (λ p. found ≡ Some (offset_named file name + p)) → IsLeastFound P place → IsLeastFound (HoldsIn file name P) found
in_file file name P None None is none = λ q (inner, there, same). none inner there
in_file file name P None (Some q) is none = absurd (true≢false is)
in_file file name P (Some p) found is (here, first) =
    subst (IsLeastFound (HoldsIn file name P)) (sym is) ((p, here, refl), λ q less (inner, there, same). first inner (omega arith) there)

pub least_in_file : (file name wanted : List ℕ) → name ≡ wanted → (P : ℕ → Type 0) (place found : Option ℕ) → MatchOption place (IsNone found) (λ p. found ≡ Some (offset_named file name + p)) → IsLeastFound P place → IsLeastFound (HoldsIn file wanted P) found
least_in_file file name wanted is P place found there least = in_file file wanted P place found (subst (λ (z : List ℕ). MatchOption place (IsNone found) (λ p. found ≡ Some (offset_named file z + p))) is there) least

-- SECTIONS

module _ (world : World) (some : IsSomeWorld world) where
  -- what is read of the file
  abbrev s : Reading
  s = some.1.r

  pub abbrev_inside : (found : Option ℕ) → OfReading world (λ s. IsLeastFound (IsLongInTables (debug_abbrev world.image) s) found) → IfSome found (λ p. p < length (debug_abbrev world.image))
  abbrev_inside found least = least_inside (IsLongInTables (debug_abbrev world.image) s) (length (debug_abbrev world.image)) (tables_within (debug_abbrev world.image) s) found (least s some.1.read some.1.holds)

  -- of entries and their expressions
  module _ (entries expressions found : Option ℕ) (first : OfReading world (λ s. IsLeastFound (IsLongInEntries s) entries)) (second : OfReading world (λ s. IsLeastFound (IsLongInExpressions s) expressions)) (earlier : IsLeastFound (λ p. (entries ≡ Some p) ⊎ (expressions ≡ Some p)) found) where
    pub info_least : OfReading world (λ s. IsLeastFound (IsLongInInfo s) found)
    info_least = λ s read holds. least_of_both (IsLongInEntries s) (IsLongInExpressions s) entries expressions found (first s read holds) (second s read holds) earlier

    section_is : (u : ℕ) → u < length s.links.units → (unit_at s.links u).forest.section ≡ debug_info world.image
    section_is u known = (unit_is (debug_info world.image) (debug_abbrev world.image) s.links.units some.1.read.links.units u known).section

    pub info_inside : IfSome found (λ p. p < length (debug_info world.image))
    info_inside = least_inside (IsLongInInfo s) (length (debug_info world.image)) (info_within (debug_info world.image) s section_is) found (info_least s some.1.read some.1.holds)

  -- of lists of a kind, and of view pairs
  pub lists_inside : (classes : Classes) (kind : ListKind) (found : Option ℕ) → OfReading world (λ s. IsLeastFound (IsLongInSection classes s kind) found) → IfSome found (λ p. p < length (debug_lists world.image kind))
  lists_inside classes kind found least =
      let inside : (p : ℕ) → IsLongInSection classes s kind p → p < length (debug_lists world.image kind) = λ p long. subst (λ (z : List ℕ). p < length z) (some.1.holds.sections kind) (lists_within classes s kind p long) in
      least_inside (IsLongInSection classes s kind) (length (debug_lists world.image kind)) inside found (least s some.1.read some.1.holds)

-- range lists have no view pairs
pub ranges_least : (classes : Classes) (world : World) (kind : ListKind) → kind ≡ Ranges → (found : Option ℕ) → OfReading world (λ s. IsLeastFound (IsLongInLists classes s kind) found) → OfReading world (λ s. IsLeastFound (IsLongInSection classes s kind) found)
ranges_least classes world kind ranges found lists = λ s read holds. least_same (IsLongInLists classes s kind) (IsLongInSection classes s kind) (λ p long. inl long) (from s) found (lists s read holds)
  where
    from : (s : Reading) (p : ℕ) → IsLongInSection classes s kind p → IsLongInLists classes s kind p
    from s p (inl long) = long
    from s p (inr (is, views)) = absurd cc

pub locations_least : (classes : Classes) (world : World) (kind : ListKind) → kind ≡ Locations → (lists views found : Option ℕ) → OfReading world (λ s. IsLeastFound (IsLongInLists classes s kind) lists) → OfReading world (λ s. IsLeastFound (IsLongInViews s) views) → IsLeastFound (λ p. (lists ≡ Some p) ⊎ (views ≡ Some p)) found → OfReading world (λ s. IsLeastFound (IsLongInSection classes s kind) found)
locations_least classes world kind locations lists views found first second earlier = λ s read holds.
    least_same (λ p. IsLongInLists classes s kind p ⊎ IsLongInViews s p) (IsLongInSection classes s kind) (to s) (from s) found (least_of_both (IsLongInLists classes s kind) (IsLongInViews s) lists views found (first s read holds) (second s read holds) earlier)
  where
    to : (s : Reading) (p : ℕ) → IsLongInLists classes s kind p ⊎ IsLongInViews s p → IsLongInSection classes s kind p
    to s p (inl long) = inl long
    to s p (inr long) = inr (locations, long)

    from : (s : Reading) (p : ℕ) → IsLongInSection classes s kind p → IsLongInLists classes s kind p ⊎ IsLongInViews s p
    from s p (inl long) = inl long
    from s p (inr (is, long)) = inr long

-- THE FILE

-- a number of a section of lists, as an offset in the file
abbrev pub IsLongInKind : Classes → List ℕ → Reading → ListKind → ℕ → Type 0
IsLongInKind classes file s kind p = HoldsIn file (lists_name kind) (IsLongInSection classes s kind) p

abbrev pub IsLongInTablesOf : List ℕ → Reading → ℕ → Type 0
IsLongInTablesOf file s p = HoldsIn file abbrev_name (IsLongInTables (debug_abbrev file) s) p

abbrev pub IsLongInEntriesOf : List ℕ → Reading → ℕ → Type 0
IsLongInEntriesOf file s p = HoldsIn file info_name (IsLongInInfo s) p

abbrev pub IsLongInSomeKind : Classes → List ℕ → Reading → ℕ → Type 0
IsLongInSomeKind classes file s p = (kind : ListKind) × IsLongInKind classes file s kind p

-- of both kinds of lists
kinds_least : (classes : Classes) (file : List ℕ) (s : Reading) (ranges locations lists : Option ℕ) → IsLeastFound (IsLongInKind classes file s Ranges) ranges → IsLeastFound (IsLongInKind classes file s Locations) locations → IsLeastFound (λ p. (ranges ≡ Some p) ⊎ (locations ≡ Some p)) lists → IsLeastFound (IsLongInSomeKind classes file s) lists
kinds_least classes file s ranges locations lists first second earlier =
    least_same (λ p. IsLongInKind classes file s Ranges p ⊎ IsLongInKind classes file s Locations p) (IsLongInSomeKind classes file s) to from lists (least_of_both (IsLongInKind classes file s Ranges) (IsLongInKind classes file s Locations) ranges locations lists first second earlier)
  where
    to : (p : ℕ) → IsLongInKind classes file s Ranges p ⊎ IsLongInKind classes file s Locations p → IsLongInSomeKind classes file s p
    to p (inl long) = (Ranges, long)
    to p (inr long) = (Locations, long)

    from : (p : ℕ) → IsLongInSomeKind classes file s p → IsLongInKind classes file s Ranges p ⊎ IsLongInKind classes file s Locations p
    from p (Ranges, long) = inl long
    from p (Locations, long) = inr long

-- of what is read of the file, in one way
numbers_least : (classes : Classes) (file : List ℕ) (s : Reading) → OneReading → IsReading file s → (found : Option ℕ) → IsLeastFound (IsLongIn classes file s) found → IsLeastFound (IsLongNumber classes file) found
numbers_least classes file s one read found least = least_same (IsLongIn classes file s) (IsLongNumber classes file) (λ p long. (s, read, long)) back found least
  where
    back : (p : ℕ) → IsLongNumber classes file p → IsLongIn classes file s p
    back p (other, also, long) = subst (λ (z : Reading). IsLongIn classes file z p) (one file other s also read) long

-- `lists` is the lesser of those of lists, `entries` of these and of .debug_info, and `found` of these and of tables
module _ (classes : Classes) (one : OneReading) (world : World) (some : IsSomeWorld world) (abbrevs info ranges locations lists entries found : Option ℕ) (of_lists : IsLeastFound (λ p. (ranges ≡ Some p) ⊎ (locations ≡ Some p)) lists) (of_entries : IsLeastFound (λ p. (info ≡ Some p) ⊎ (lists ≡ Some p)) entries) (of_all : IsLeastFound (λ p. (abbrevs ≡ Some p) ⊎ (entries ≡ Some p)) found) where
  pub file_least : OfReading world (λ s. IsLeastFound (IsLongInTablesOf world.image s) abbrevs) → OfReading world (λ s. IsLeastFound (IsLongInEntriesOf world.image s) info) → OfReading world (λ s. IsLeastFound (IsLongInKind classes world.image s Ranges) ranges) → OfReading world (λ s. IsLeastFound (IsLongInKind classes world.image s Locations) locations) → IsLeastFound (IsLongNumber classes world.image) found
  file_least tables entries_there ranges_there locations_there =
      let s : Reading = some.1.r in
      let file : List ℕ = world.image in
      let kinds = kinds_least classes file s ranges locations lists (ranges_there s some.1.read some.1.holds) (locations_there s some.1.read some.1.holds) of_lists in
      let behind = least_of_both (IsLongInEntriesOf file s) (IsLongInSomeKind classes file s) info lists entries (entries_there s some.1.read some.1.holds) kinds of_entries in
      let all = least_of_both (IsLongInTablesOf file s) (λ p. IsLongInEntriesOf file s p ⊎ IsLongInSomeKind classes file s p) abbrevs entries found (tables s some.1.read some.1.holds) behind of_all in
      numbers_least classes file s one some.1.read found all
