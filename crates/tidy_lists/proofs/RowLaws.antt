-- Rows of what may be amiss with lists, by offsets in the file.
use Rattle.std.proofs.Common.{◌≡◌, ◌≤◌, ◌<◌, ◌+◌, ◌∙◌, ◌⊎◌, inl, inr, ℕ, List, length, sym, ap, subst, refl, arith}
use Rattle.std.specs.Prelude.{Option, Some, None, IfSome, option_map, Result, Ok, Err, IfOk}
use Rattle.list_model.specs.declared.entry.ListKind.{ListKind}
use Rattle.list_model.specs.declared.entry.ListKind.TheVariants.{Ranges, Locations}
use Rattle.value_links.specs.Sections.{offset_named, lists_name, debug_lists}
use Rattle.value_links.specs.Reading.{Reading, of_kind, part_at}
use Rattle.value_links.specs.Whole.{IsReading}
use Rattle.value_links.specs.World.{World}
use Rattle.value_links.specs.Laws.{OneReading}
use Rattle.tidy_places.specs.Firsts.{IsLeastFound, IsFirstIn, IsFirstFoundIn}
use Rattle.tidy_lists.specs.Due.{Row, HoldsAt, IsListElsewhere, IsRunElsewhere, IsElsewhere, IsLoose, order_of}
use Rattle.tidy_lists.specs.Due.Row.{OfList, OfLooseByte}
use Rattle.tidy_lists.specs.Rows.{IsMisplaced}
use Rattle.tidy_lists.specs.inside.Compared.{OfBoth}
use Rattle.tidy_lists.specs.inside.LeastPlaces.{lesser_of, RowHolds}
use Rattle.tidy_lists.proofs.HeldThings.{IsSomeWorld}
use Rattle.tidy_lists.proofs.OldOrder.{list_inside, part_ends}
use Rattle.tidy_lists.proofs.SectionSizes.{run_inside}
use Rattle.tidy_lists.proofs.LeastLaws.{least_same, least_either}

-- WHAT IS FOUND LIES IN ITS SECTION

module _ (file : List ℕ) (r s : Reading) (again : IsReading file s) where
  list_elsewhere_inside : (kind : ListKind) (p : ℕ) → IsListElsewhere kind r s p → p < length (of_kind s.links kind).section
  list_elsewhere_inside kind p is = subst (λ (z : ℕ). z < length (of_kind s.links kind).section) (sym is.place) (list_inside file s again kind is.m is.follows.inside)

  run_elsewhere_inside : (p : ℕ) → IsRunElsewhere r s p → p < length s.links.locations.section
  run_elsewhere_inside p is = subst (λ (z : ℕ). z < length s.links.locations.section) (sym is.place) (run_inside file s again is.n is.follows.inside)

  elsewhere_inside : (kind : ListKind) (p : ℕ) → IsElsewhere kind r s p → p < length (of_kind s.links kind).section
  elsewhere_inside Ranges p is = list_elsewhere_inside Ranges p is
  elsewhere_inside Locations p (inl list) = list_elsewhere_inside Locations p list
  elsewhere_inside Locations p (inr run) = run_elsewhere_inside p run

  loose_inside : (kind : ListKind) (p : ℕ) → IsLoose kind s p → p < length (of_kind s.links kind).section
  loose_inside kind p is =
      let to : p < (part_at (of_kind s.links kind) is.p).at + (part_at (of_kind s.links kind) is.p).len = is.to in
      omega (arith, to, part_ends file s again kind is.p is.known)

  pub row_inside : (row : Row) (kind : ListKind) (p : ℕ) → HoldsAt row kind r s p → p < length (of_kind s.links kind).section
  row_inside OfList kind p is = elsewhere_inside kind p is
  row_inside OfLooseByte kind p is = loose_inside kind p is

found_within : (P : ℕ → Type 0) (most : ℕ) → ((p : ℕ) → P p → p < most) → (found : Option ℕ) → IsLeastFound P found → IfSome found (λ at. at ≤ most)
found_within P most within None none = tt
found_within P most within (Some p) (here, first) = let less = within p here in omega (arith, less)

pub found_inside : (a b : World) → IsSomeWorld a → IsSomeWorld b → (row : Row) (kind : ListKind) (found : Option ℕ) → OfBoth a b (λ r s. IsLeastFound (HoldsAt row kind r s) found) → IfSome found (λ at. at ≤ length (debug_lists b.image kind))
found_inside a b (reach, is) (range, was) row kind found least =
    let size : length (of_kind was.r.links kind).section ≡ length (debug_lists b.image kind) = ap (λ (z : List ℕ). length z) (was.holds.sections kind) in
    found_within (HoldsAt row kind is.r was.r) (length (debug_lists b.image kind)) (λ p holds. (let inside = row_inside b.image is.r was.r was.read row kind p holds in omega (arith, inside, size))) found (least is.r was.r is.read is.holds was.read was.holds)

-- THE LEAST OF A ROW

moved_least : (P : ℕ → Type 0) (o : ℕ) (found : Option ℕ) → IsLeastFound P found → IsLeastFound (λ (p : ℕ). (inner : ℕ) × P inner × (p ≡ o + inner)) (option_map (λ at. o + at) found)
moved_least P o None none = λ p (inner, holds, e). none inner holds
moved_least P o (Some at) (here, first) = ((at, here, refl), λ q less (inner, holds, e). first inner (omega (arith, less, e)) holds)

row_least : (written : List ℕ) (row : Row) (r s : Reading) (a b : Option ℕ) → IsLeastFound (HoldsAt row Ranges r s) a → IsLeastFound (HoldsAt row Locations r s) b →
    IsLeastFound (RowHolds written row r s) (lesser_of (option_map (λ at. offset_named written (lists_name Ranges) + at) a) (option_map (λ at. offset_named written (lists_name Locations) + at) b))
row_least written row r s a b one two =
    let first : ℕ = offset_named written (lists_name Ranges) in
    let second : ℕ = offset_named written (lists_name Locations) in
    least_same (λ (p : ℕ). ((inner : ℕ) × HoldsAt row Ranges r s inner × (p ≡ first + inner)) ⊎ ((inner : ℕ) × HoldsAt row Locations r s inner × (p ≡ second + inner))) (RowHolds written row r s)
    (λ p either. elim either [ inl (inner, holds, e) ↦ record { kind = Ranges; inner = inner; holds = holds; place = e } | inr (inner, holds, e) ↦ record { kind = Locations; inner = inner; holds = holds; place = e } ])
    (λ p is. of_one p is.kind is.inner is.holds is.place)
    (lesser_of (option_map (λ at. first + at) a) (option_map (λ at. second + at) b))
    (least_either (λ (p : ℕ). (inner : ℕ) × HoldsAt row Ranges r s inner × (p ≡ first + inner)) (λ (p : ℕ). (inner : ℕ) × HoldsAt row Locations r s inner × (p ≡ second + inner)) (option_map (λ at. first + at) a) (option_map (λ at. second + at) b) (moved_least (HoldsAt row Ranges r s) first a one) (moved_least (HoldsAt row Locations r s) second b two))
  where
    of_one : (p : ℕ) (kind : ListKind) (inner : ℕ) → HoldsAt row kind r s inner → p ≡ offset_named written (lists_name kind) + inner → ((inner : ℕ) × HoldsAt row Ranges r s inner × (p ≡ offset_named written (lists_name Ranges) + inner)) ⊎ ((inner : ℕ) × HoldsAt row Locations r s inner × (p ≡ offset_named written (lists_name Locations) + inner))
    of_one p Ranges inner holds e = inl (inner, holds, e)
    of_one p Locations inner holds e = inr (inner, holds, e)

pub row_found : (x y : World) (written : List ℕ) (row : Row) (a b one two found : Option ℕ) → one ≡ option_map (λ at. offset_named written (lists_name Ranges) + at) a → two ≡ option_map (λ at. offset_named written (lists_name Locations) + at) b → found ≡ lesser_of one two →
    OfBoth x y (λ r s. IsLeastFound (HoldsAt row Ranges r s) a) → OfBoth x y (λ r s. IsLeastFound (HoldsAt row Locations r s) b) → OfBoth x y (λ r s. IsLeastFound (RowHolds written row r s) found)
row_found x y written row a b one two found e f is first second = λ r s read holds again held.
    subst (IsLeastFound (RowHolds written row r s)) (sym (is ∙ ap (λ (z : Option ℕ). lesser_of z two) e ∙ ap (lesser_of (option_map (λ at. offset_named written (lists_name Ranges) + at) a)) f)) (row_least written row r s a b (first r s read holds again held) (second r s read holds again held))

-- THE FIRST ROW

module _ (one : OneReading) (a b : World) (some : IsSomeWorld a) (other : IsSomeWorld b) where
  misplaced : (row : Row) (p : ℕ) (r s : Reading) → IsReading a.image r → IsReading b.image s → RowHolds b.image row r s p → IsMisplaced a.image b.image row p
  misplaced row p r s read again is = record { r = r; s = s; read = read; again = again; kind = is.kind; inner = is.inner; holds = is.holds; place = is.place }

  placed : (row : Row) (p : ℕ) (r s : Reading) → IsReading a.image r → IsReading b.image s → IsMisplaced a.image b.image row p → RowHolds b.image row r s p
  placed row p r s read again is =
      let first : is.r ≡ r = one a.image is.r r is.read read in
      let second : is.s ≡ s = one b.image is.s s is.again again in
      record {
        kind = is.kind;
        inner = is.inner;
        holds = subst (λ (z : Reading). HoldsAt row is.kind r z is.inner) second (subst (λ (z : Reading). HoldsAt row is.kind z is.s is.inner) first is.holds);
        place = is.place;
      }

  row_misplaced : (row : Row) (found : Option ℕ) → OfBoth a b (λ r s. IsLeastFound (RowHolds b.image row r s) found) → IsLeastFound (IsMisplaced a.image b.image row) found
  row_misplaced row found least =
      let (reach, is) = some in
      let (range, was) = other in
      least_same (RowHolds b.image row is.r was.r) (IsMisplaced a.image b.image row) (λ p holds. misplaced row p is.r was.r is.read was.read holds) (λ p holds. placed row p is.r was.r is.read was.read holds) found (least is.r was.r is.read is.holds was.read was.holds)

  -- what is loose is said of the written file alone
  loose_either : (r s : Reading) (p : ℕ) → RowHolds b.image OfLooseByte s s p → RowHolds b.image OfLooseByte r s p
  loose_either r s p is = record { kind = is.kind; inner = is.inner; holds = is.holds; place = is.place }

  loose_alone : (r s : Reading) (p : ℕ) → RowHolds b.image OfLooseByte r s p → RowHolds b.image OfLooseByte s s p
  loose_alone r s p is = record { kind = is.kind; inner = is.inner; holds = is.holds; place = is.place }

  loose_of_both : (found : Option ℕ) → OfBoth b b (λ r s. IsLeastFound (RowHolds b.image OfLooseByte r s) found) → OfBoth a b (λ r s. IsLeastFound (RowHolds b.image OfLooseByte r s) found)
  loose_of_both found least = λ r s read holds again held.
      least_same (RowHolds b.image OfLooseByte s s) (RowHolds b.image OfLooseByte r s) (loose_either r s) (loose_alone r s) found (least s s again held again held)

  pub list_first : (p : ℕ) → OfBoth a b (λ r s. IsLeastFound (RowHolds b.image OfList r s) (Some p)) → IsFirstIn order_of (IsMisplaced a.image b.image) p
  list_first p least = record { row = OfList; least = row_misplaced OfList (Some p) least; first = λ earlier q less holds. omega (arith, less) }

  byte_first : (found : Option ℕ) → IsLeastFound (IsMisplaced a.image b.image OfList) None → IsLeastFound (IsMisplaced a.image b.image OfLooseByte) found → IsFirstFoundIn order_of (IsMisplaced a.image b.image) found
  byte_first None lists bytes = none
    where
      none : (row : Row) (p : ℕ) → IsMisplaced a.image b.image row p → ⊥
      none OfList p is = lists p is
      none OfLooseByte p is = bytes p is
  byte_first (Some p) lists bytes = record { row = OfLooseByte; least = bytes; first = before }
    where
      before : (earlier : Row) (q : ℕ) → order_of earlier < 1 → IsMisplaced a.image b.image earlier q → ⊥
      before OfList q less is = lists q is
      before OfLooseByte q less is = omega (arith, less)

  pub loose_first : {E : Type 0} (found : Result (Option ℕ) E) → OfBoth a b (λ r s. IsLeastFound (RowHolds b.image OfList r s) None) → IfOk found (λ place. OfBoth b b (λ r s. IsLeastFound (RowHolds b.image OfLooseByte r s) place)) → IfOk found (IsFirstFoundIn order_of (IsMisplaced a.image b.image))
  loose_first (Ok found) lists bytes = byte_first found (row_misplaced OfList None lists) (row_misplaced OfLooseByte found (loose_of_both found bytes))
  loose_first (Err e) lists bytes = tt
