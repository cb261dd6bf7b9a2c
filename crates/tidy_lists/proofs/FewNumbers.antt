-- Numbers of 32 bits name the units, the contributions, the lists and the runs of view pairs of a valid file.
use Rattle.std.proofs.Common.{◌≡◌, ◌≤◌, ◌<◌, ◌+◌, ◌-◌, ◌*◌, ◌^◌, ◌∙◌, inl, inr, ℕ, zero, suc, List, [], ◌∷◌, length, take, drop, Bool, true, false, true≢false, sym, ap, subst, refl, arith}
use Rattle.std.specs.Prelude.{Option, Some, None, ◌&&◌, ◌||◌, nat_lt, slice_range}
use Rattle.std.specs.List.{AllByRecursion, IsDistinct, list_any, sum_by}
use Rattle.std.proofs.Math.Dec.{eqb}
use Rattle.std.proofs.lemmas.Bool.{cases_lt, lt-ltb}
use Rattle.std.proofs.lemmas.Bool.Decides.{eqb_tells}
use Rattle.std.proofs.lemmas.List.Sums.{sum_by-cons}
use Rattle.std.proofs.lemmas.Map.Keys.{IsDistinct-cons}
use Rattle.std.proofs.lemmas.Map.Steps.{length-le_from_distinct_below}
use Rattle.dw_base.specs.declared.fault.Reach.{Reach}
use Rattle.dw_base.specs.declared.fault.Reach.TheVariants.{Narrow, Wide}
use Rattle.elf_sections.specs.Elf.{body_span}
use Rattle.elf_sections.specs.Names.{name_of, is_debug_name}
use Rattle.elf_sections.specs.Faults.{debug_limit}
use Rattle.list_model.specs.declared.contribution.Contribution.{Contribution}
use Rattle.list_model.specs.declared.entry.ListKind.{ListKind}
use Rattle.list_model.specs.declared.entry.ListKind.TheVariants.{Ranges, Locations}
use Rattle.list_model.specs.Contributions.{part_end, ContributionsFollow}
use Rattle.list_model.proofs.Tiling.{part_inside}
use Rattle.value_links.specs.Sections.{body_or_none, section_named, debug_lists, lists_name}
use Rattle.value_links.specs.Reading.{UnitRead, ListRead, ListSection, Reading, unit_among, unit_at, of_kind, lists_of, list_at, view_at}
use Rattle.value_links.specs.Faults.{IsValid}
use Rattle.value_links.specs.Linked.{Linked, IsLinked}
use Rattle.value_links.specs.Linked.Linked.{ViewsAt}
use Rattle.value_links.specs.Whole.{IsReading}
use Rattle.value_links.proofs.SectionLaws.{sections_are_found}
use Rattle.value_links.proofs.ValidImages.{image_in_order}
use Rattle.value_links.proofs.HeldLists.{place_inside}
use Rattle.value_links.proofs.LinksOnce.{linked_value_once}
use Rattle.tidy_lists.proofs.OffsetLinks.{number_known}

-- SECTIONS OF LISTS

take_short : (n : ℕ) (xs : List ℕ) → length (take n xs) ≤ n
take_short zero xs = omega arith
take_short (suc n) [] = omega arith
take_short (suc n) (x ∷ xs) = let few : length (take n xs) ≤ n = take_short n xs in omega arith

range_short : (xs : List ℕ) (from len : ℕ) → length (slice_range xs from (from + len)) ≤ len
range_short xs from len =
    let front : length (take (from + len - from) (drop from xs)) ≤ from + len - from = take_short (from + len - from) (drop from xs) in
    omega (arith, front)

not_long : (limit len : ℕ) (debug : Bool) → debug ≡ true → debug && nat_lt limit len ≡ false → len ≤ limit
not_long limit len true is short = elim (cases_lt limit len) [
  | inl past ↦ absurd (true≢false (sym (lt-ltb limit len past) ∙ short))
  | inr within ↦ within
]
not_long limit len false is short = absurd (true≢false (sym is))

limit_fits : (reach : Reach) → debug_limit reach < 2 ^ 32
limit_fits Narrow = omega arith
limit_fits Wide = omega arith

debug_named : (kind : ListKind) → is_debug_name (lists_name kind) ≡ true
debug_named Ranges = refl
debug_named Locations = refl

module _ (file : List ℕ) (reach : Reach) (valid : IsValid file reach) (kind : ListKind) where
  found_short : (i : ℕ) → section_named file (lists_name kind) ≡ Some i → (body_span file i).len ≤ debug_limit reach
  found_short i found =
      let first = (sections_are_found.found file (lists_name kind) i).0 found in
      let short = ((image_in_order file reach valid).sound.sections i first.inside).short in
      not_long (debug_limit reach) (body_span file i).len (is_debug_name (name_of file i)) (ap is_debug_name first.named ∙ debug_named kind) short

  body_short : (found : Option ℕ) → ((i : ℕ) → found ≡ Some i → (body_span file i).len ≤ debug_limit reach) → length (body_or_none file found) < 2 ^ 32
  body_short (Some i) few =
      let part = range_short file (body_span file i).at (body_span file i).len in
      let len = few i refl in
      let fits = limit_fits reach in
      omega (arith, part, len, fits)
  body_short None few = omega arith

  section_short : length (debug_lists file kind) < 2 ^ 32
  section_short = body_short (section_named file (lists_name kind)) found_short

-- CONTRIBUTIONS

-- a contribution has at least the 12 bytes of its header
parts_long : (section : List ℕ) (parts : List Contribution) (at end : ℕ) → ContributionsFollow section parts at end → at + 12 * length parts ≤ end
parts_long section [] at end same = omega (arith, same)
parts_long section (part ∷ parts) at end (here, is, rest) =
    let long : part_end part + 12 * length parts ≤ end = parts_long section parts (part_end part) end rest in
    omega (arith, long, (part_inside section part is).0, here)

pub few_parts : (file : List ℕ) (reach : Reach) (r : Reading) → IsValid file reach → IsReading file r → (kind : ListKind) → length (of_kind r.links kind).parts < 2 ^ 32
few_parts file reach r valid read kind =
    let section : ListSection = of_kind r.links kind in
    let long : 0 + 12 * length section.parts ≤ length section.section = parts_long section.section section.parts 0 (length section.section) (read.links.lists kind).tiled in
    let bytes : length section.section ≡ length (debug_lists file kind) = ap (λ (z : List ℕ). length z) (read.links.lists kind).bytes_are in
    let short = section_short file reach valid kind in
    omega (arith, long, bytes, short)

-- LISTS

-- a list begins no earlier than its number tells
rises : (lists : List ListRead) → ((j k : ℕ) → j < k → k < length lists → (list_at lists j).at < (list_at lists k).at) → (k : ℕ) → k < length lists → k ≤ (list_at lists k).at
rises lists rising zero inside = omega arith
rises lists rising (suc k) inside =
    let before : k ≤ (list_at lists k).at = rises lists rising k (omega (arith, inside)) in
    let more : (list_at lists k).at < (list_at lists (suc k)).at = rising k (suc k) (omega arith) inside in
    omega (arith, before, more)

pub few_lists : (file : List ℕ) (reach : Reach) (r : Reading) → IsValid file reach → IsReading file r → (kind : ListKind) (k : ℕ) → k < length (lists_of r kind) → k < 2 ^ 32
few_lists file reach r valid read kind k inside =
    let lists : List ListRead = lists_of r kind in
    let section : ListSection = of_kind r.links kind in
    let from : k ≤ (list_at lists k).at = rises lists (read.lists kind).rising k inside in
    let to : (list_at lists k).at < length section.section = place_inside section (list_at lists k).part (list_at lists k).at (read.links.lists kind).tiled ((read.lists kind).each k inside).begins in
    let bytes : length section.section ≡ length (debug_lists file kind) = ap (λ (z : List ℕ). length z) (read.links.lists kind).bytes_are in
    let short = section_short file reach valid kind in
    omega (arith, from, to, bytes, short)

-- THINGS THAT HAVE NUMBERS OF THEIR OWN

module _ (Has : ℕ → ℕ → Type 0) (limit : ℕ) (once : (i j x : ℕ) → Has i x → Has j x → i ≡ j) where
  -- a number that one of the first things has
  abbrev IsOf : ℕ → ℕ → Type 0
  IsOf n x = (x < limit) × ((j : ℕ) × (j < n) × Has j x)

  of_more : (n : ℕ) (xs : List ℕ) → AllByRecursion (IsOf n) xs → AllByRecursion (IsOf (suc n)) xs
  of_more n [] all = tt
  of_more n (x ∷ xs) ((below, (j, less, has)), rest) = ((below, (j, omega (arith, less), has)), of_more n xs rest)

  -- the next thing has none of them
  apart : (n x : ℕ) (xs : List ℕ) → Has n x → AllByRecursion (IsOf n) xs → AllByRecursion (λ y. eqb x y ≡ false) xs
  apart n x [] own all = tt
  apart n x (y ∷ ys) own ((below, (j, less, has)), rest) = (
    elim (eqb_tells x y) [
      | inl (e, same) ↦
          let one : j ≡ n = once j n y has (subst (Has n) same own) in
          absurd (omega (arith, less, one))
      | inr (e, other) ↦ e
    ],
    apart n x ys own rest,
  )

  below : (n q : ℕ) (xs : List ℕ) → AllByRecursion (IsOf n) xs → list_any (eqb q) xs ≡ true → q < limit
  below n q [] all found = absurd (true≢false (sym found))
  below n q (x ∷ xs) (first, rest) found = elim (eqb_tells q x) [
    | inl (e, same) ↦ subst (λ (z : ℕ). z < limit) (sym same) first.0
    | inr (e, other) ↦ below n q xs rest (ap (λ (b : Bool). b || list_any (eqb q) xs) (sym e) ∙ found)
  ]

  numbers : (n : ℕ) → ((j : ℕ) → j < n → (x : ℕ) × (x < limit) × Has j x) → (xs : List ℕ) × (length xs ≡ n) × IsDistinct eqb xs × AllByRecursion (IsOf n) xs
  unfolding IsDistinct
  numbers zero each = ([], refl, tt, tt)
  numbers (suc n) each =
      let (xs, size, distinct, all) = numbers n (λ j less. each j (omega (arith, less))) in
      let (x, inside, has) = each n (omega arith) in (
        x ∷ xs,
        ap suc size,
        IsDistinct-cons eqb x xs (apart n x xs has all) distinct,
        ((inside, (n, omega arith, has)), of_more n xs all),
      )

  -- there are no more things than numbers
  no_more : (n : ℕ) → ((j : ℕ) → j < n → (x : ℕ) × (x < limit) × Has j x) → n ≤ limit
  no_more n each =
      let (xs, size, distinct, all) = numbers n each in
      let few : length xs ≤ limit = length-le_from_distinct_below xs limit distinct (λ q found. below n q xs all found) in
      omega (arith, few, size)

-- VALUES, NUMBERED OVER ALL UNITS

abbrev value_count : UnitRead → ℕ
value_count unit = length unit.forest.values

abbrev flat : List UnitRead → ℕ → ℕ → ℕ
flat [] u number = number
flat (unit ∷ units) zero number = number
flat (unit ∷ units) (suc u) number = value_count unit + flat units u number

flat_below : (units : List UnitRead) (u number : ℕ) → u < length units → number < value_count (unit_among units u) → flat units u number < sum_by value_count units
flat_below [] u number known inside = absurd (omega (arith, known))
flat_below (unit ∷ units) zero number known inside =
    let sum : sum_by value_count (unit ∷ units) ≡ value_count unit + sum_by value_count units = sum_by-cons value_count unit units in
    omega (arith, sum, inside)
flat_below (unit ∷ units) (suc u) number known inside =
    let sum : sum_by value_count (unit ∷ units) ≡ value_count unit + sum_by value_count units = sum_by-cons value_count unit units in
    let rest : flat units u number < sum_by value_count units = flat_below units u number (omega (arith, known)) inside in
    omega (arith, sum, rest)

flat_once : (units : List UnitRead) (u v m n : ℕ) → u < length units → v < length units → m < value_count (unit_among units u) → n < value_count (unit_among units v) → flat units u m ≡ flat units v n → (u ≡ v) × (m ≡ n)
flat_once [] u v m n known other first second same = absurd (omega (arith, known))
flat_once (unit ∷ units) zero zero m n known other first second same = (refl, same)
flat_once (unit ∷ units) zero (suc v) m n known other first second same = absurd (omega (arith, first, same))
flat_once (unit ∷ units) (suc u) zero m n known other first second same = absurd (omega (arith, second, same))
flat_once (unit ∷ units) (suc u) (suc v) m n known other first second same =
    let rest = flat_once units u v m n (omega (arith, known)) (omega (arith, other)) first second (omega (arith, same)) in
    (ap suc rest.0, rest.1)

-- RUNS OF VIEW PAIRS

module _ (file : List ℕ) (r : Reading) (read : IsReading file r) where
  -- a value with this number over all units names the run
  record IsRunOf (k x : ℕ) : Type 0 where
    inside : k < length r.views
    u : ℕ
    number : ℕ
    unit : u < length r.links.units
    links : IsLinked r.links u number (ViewsAt (view_at r.views k).list (view_at r.views k).at)
    here : x ≡ flat r.links.units u number

  run_apart : (j k : ℕ) → j < k → k < length r.views → (view_at r.views j).list ≡ (view_at r.views k).list → (view_at r.views j).at ≡ (view_at r.views k).at → ⊥
  run_apart j k less inside with here = elim (read.views.rising j k less inside) [
    | inl lists ↦ omega (arith, lists, with)
    | inr (same, places) ↦ omega (arith, places, here)
  ]

  one_run : (j k x : ℕ) → IsRunOf j x → IsRunOf k x → j ≡ k
  one_run j k x a b =
      let first : a.number < value_count (unit_at r.links a.u) = number_known file r.links read.links a.u a.number (ViewsAt (view_at r.views j).list (view_at r.views j).at) a.links in
      let second : b.number < value_count (unit_at r.links b.u) = number_known file r.links read.links b.u b.number (ViewsAt (view_at r.views k).list (view_at r.views k).at) b.links in
      let (unit, number) = flat_once r.links.units a.u b.u a.number b.number a.unit b.unit first second (sym a.here ∙ b.here) in
      let left : Linked = ViewsAt (view_at r.views j).list (view_at r.views j).at in
      let right : Linked = ViewsAt (view_at r.views k).list (view_at r.views k).at in
      let moved : IsLinked r.links b.u b.number left = subst (λ (z : ℕ). IsLinked r.links b.u z left) number (subst (λ (z : ℕ). IsLinked r.links z a.number left) unit a.links) in
      let same : left ≡ right = linked_value_once file r.links b.u b.number left right read.links moved b.links in
      let with : (view_at r.views j).list ≡ (view_at r.views k).list = cc same in
      let place : (view_at r.views j).at ≡ (view_at r.views k).at = cc same in
      elim (cases_lt j k) [
        | inl less ↦ absurd (run_apart j k less b.inside with place)
        | inr past ↦ elim (cases_lt k j) [
          | inl more ↦ absurd (run_apart k j more a.inside (sym with) (sym place))
          | inr rest ↦ omega (arith, past, rest)
        ]
      ]

  some_value : (k : ℕ) → k < length r.views → (x : ℕ) × (x < sum_by value_count r.links.units) × IsRunOf k x
  some_value k inside =
      let (u, number, known, links) = (read.views.each k inside).named in
      let counted : number < value_count (unit_at r.links u) = number_known file r.links read.links u number (ViewsAt (view_at r.views k).list (view_at r.views k).at) links in (
        flat r.links.units u number,
        flat_below r.links.units u number known counted,
        record { inside = inside; u = u; number = number; unit = known; links = links; here = refl },
      )

  -- there are no more runs than values
  pub few_runs : length r.views < 2 ^ 32
  few_runs =
      let few : length r.views ≤ sum_by value_count r.links.units = no_more IsRunOf (sum_by value_count r.links.units) one_run (length r.views) some_value in
      let most : 0 + sum_by value_count r.links.units ≤ 2 ^ 26 = read.links.units.within.values in
      omega (arith, few, most)
