-- The first of the fourteen rows that holds anywhere, from the rows of the parts.
use Rattle.std.proofs.Common.{◌≡◌, ◌≤◌, ◌<◌, ◌+◌, ◌-◌, ◌∙◌, inl, inr, ℕ, zero, suc, List, [], ◌∷◌, get_or, sym, ap, subst, refl, arith}
use Rattle.std.specs.Prelude.{◌↔◌, Option, Some, None, Result, Ok, Err, IfOk, IfSome, IsNone, false}
use Rattle.std.proofs.lemmas.Bool.{cases_lt, true≢false}
use Rattle.dw_base.specs.declared.classes.Classes.{Classes}
use Rattle.tidy_places.specs.Firsts.{IsLeastPlace, IsLeastFound, IsFirstIn, IsFirstFoundIn}
use Rattle.tidy_places.specs.Misplaced.{IsMisplaced}
use Rattle.tidy_places.specs.Misplaced.{Row as PlaceRow, order_of as place_order}
use Rattle.tidy_places.specs.Misplaced.Row.{OfSection, OfHeaders, OfByte}
use Rattle.tidy_tables.specs.Rows.{IsUntidy as IsUntidyTables}
use Rattle.tidy_tables.specs.Rows.{Row as TableRow, order_of as table_order}
use Rattle.tidy_tables.specs.Rows.Row.{OfTable, OfLooseByte, OfMissingTable, OfDeclaration, OfEntry}
use Rattle.tidy_lists.specs.Rows.{IsMisplaced as IsMisplacedList}
use Rattle.tidy_lists.specs.Due.{Row as ListRow, order_of as list_order}
use Rattle.tidy_lists.specs.Due.Row.{OfList, OfLooseByte as OfLooseListByte}
use Rattle.tidy_numbers.specs.LongNumbers.{IsLongNumber}
use Rattle.tidy_files.specs.Tidy.{Row, order_of, IsPaddedUnit, IsLineAmiss, IsChangedList, IsUntidy, IsTidy, IsFirstUntidy}
use Rattle.tidy_files.specs.Tidy.Row.{ASection, TheHeaders, AByte, ATable, ALooseByte, AMissingTable, ADeclaration, AnEntry, AUnit, AProgram, AList, AListByte, AChangedList, ANumber}

-- THE ORDER OF ROWS

abbrev rows : List Row
rows = ASection ∷ TheHeaders ∷ AByte ∷ ATable ∷ ALooseByte ∷ AMissingTable ∷ ADeclaration ∷ AnEntry ∷ AUnit ∷ AProgram ∷ AList ∷ AListByte ∷ AChangedList ∷ ANumber ∷ []

numbered : (row : Row) → (get_or rows (order_of row) ANumber ≡ row) × (order_of row < 14)
numbered ASection = (refl, omega arith)
numbered TheHeaders = (refl, omega arith)
numbered AByte = (refl, omega arith)
numbered ATable = (refl, omega arith)
numbered ALooseByte = (refl, omega arith)
numbered AMissingTable = (refl, omega arith)
numbered ADeclaration = (refl, omega arith)
numbered AnEntry = (refl, omega arith)
numbered AUnit = (refl, omega arith)
numbered AProgram = (refl, omega arith)
numbered AList = (refl, omega arith)
numbered AListByte = (refl, omega arith)
numbered AChangedList = (refl, omega arith)
numbered ANumber = (refl, omega arith)

one_row : (a b : Row) → order_of a ≡ order_of b → a ≡ b
one_row a b e = sym (numbered a).0 ∙ ap (λ (n : ℕ). get_or rows n ANumber) e ∙ (numbered b).0

-- the rows of the parts, as rows of all, and each by its number
abbrev of_places : PlaceRow → Row
of_places OfSection = ASection
of_places OfHeaders = TheHeaders
of_places OfByte = AByte

place_numbered : (j : ℕ) → j < 3 → (r : PlaceRow) × (place_order r ≡ j)
place_numbered zero few = (OfSection, refl)
place_numbered (suc zero) few = (OfHeaders, refl)
place_numbered (suc (suc zero)) few = (OfByte, refl)
place_numbered (suc (suc (suc j))) few = absurd (omega arith)

place_ordered : (r : PlaceRow) → (order_of (of_places r) ≡ 0 + place_order r) × (place_order r < 3)
place_ordered OfSection = (refl, omega arith)
place_ordered OfHeaders = (refl, omega arith)
place_ordered OfByte = (refl, omega arith)

abbrev of_tables : TableRow → Row
of_tables OfTable = ATable
of_tables OfLooseByte = ALooseByte
of_tables OfMissingTable = AMissingTable
of_tables OfDeclaration = ADeclaration
of_tables OfEntry = AnEntry

table_numbered : (j : ℕ) → j < 5 → (r : TableRow) × (table_order r ≡ j)
table_numbered zero few = (OfTable, refl)
table_numbered (suc zero) few = (OfLooseByte, refl)
table_numbered (suc (suc zero)) few = (OfMissingTable, refl)
table_numbered (suc (suc (suc zero))) few = (OfDeclaration, refl)
table_numbered (suc (suc (suc (suc zero)))) few = (OfEntry, refl)
table_numbered (suc (suc (suc (suc (suc j))))) few = absurd (omega arith)

table_ordered : (r : TableRow) → (order_of (of_tables r) ≡ 3 + table_order r) × (table_order r < 5)
table_ordered OfTable = (refl, omega arith)
table_ordered OfLooseByte = (refl, omega arith)
table_ordered OfMissingTable = (refl, omega arith)
table_ordered OfDeclaration = (refl, omega arith)
table_ordered OfEntry = (refl, omega arith)

abbrev of_lists : ListRow → Row
of_lists OfList = AList
of_lists OfLooseListByte = AListByte

list_numbered : (j : ℕ) → j < 2 → (r : ListRow) × (list_order r ≡ j)
list_numbered zero few = (OfList, refl)
list_numbered (suc zero) few = (OfLooseListByte, refl)
list_numbered (suc (suc j)) few = absurd (omega arith)

list_ordered : (r : ListRow) → (order_of (of_lists r) ≡ 10 + list_order r) × (list_order r < 2)
list_ordered OfList = (refl, omega arith)
list_ordered OfLooseListByte = (refl, omega arith)

-- FROM PARTS TO ALL

module _ (classes : Classes) (file written : List ℕ) where
  -- no row before the one with a number holds
  abbrev pub NoneBelow : ℕ → Type 0
  NoneBelow n = (row : Row) (q : ℕ) → order_of row < n → IsUntidy classes file written row q → ⊥

  -- a part of several rows, of which the first has a number
  module _ {Part : Type 0} (order : Part → ℕ) (Holds : Part → ℕ → Type 0) (row_of : Part → Row) (base size : ℕ) (each : (j : ℕ) → j < size → (r : Part) × (order r ≡ j)) (ordered : (r : Part) → (order_of (row_of r) ≡ base + order r) × (order r < size)) (up : (r : Part) (p : ℕ) → Holds r p → IsUntidy classes file written (row_of r) p) (down : (r : Part) (p : ℕ) → IsUntidy classes file written (row_of r) p → Holds r p) where
    in_part : (row : Row) → base ≤ order_of row → order_of row < base + size → (r : Part) × (row ≡ row_of r)
    in_part row from to =
        let (r, is) = each (order_of row - base) (omega arith) in
        (r, one_row row (row_of r) (omega (arith, (ordered r).0)))

    part_first : (p : ℕ) → NoneBelow base → IsFirstIn order Holds p → IsFirstUntidy classes file written p
    part_first p none f = record { row = row_of f.row; least = (up f.row p f.least.0, λ q less holds. f.least.1 q less (down f.row q holds)); first = before }
      where
        before : (earlier : Row) (q : ℕ) → order_of earlier < order_of (row_of f.row) → IsUntidy classes file written earlier q → ⊥
        before earlier q less holds = elim (cases_lt (order_of earlier) base) [
          | inl below ↦ none earlier q below holds
          | inr from ↦
              let here = ordered f.row in
              let (r, is) = in_part earlier from (omega (arith, here.0, here.1)) in
              let own : order_of earlier ≡ order_of (row_of r) = ap order_of is in
              f.first r q (omega (arith, own, here.0, (ordered r).0)) (down r q (subst (λ (z : Row). IsUntidy classes file written z q) is holds))
        ]

    part_none : NoneBelow base → ((r : Part) (p : ℕ) → Holds r p → ⊥) → NoneBelow (base + size)
    part_none none nowhere = λ row q below holds. elim (cases_lt (order_of row) base) [
      | inl less ↦ none row q less holds
      | inr from ↦ let (r, is) = in_part row from below in nowhere r q (down r q (subst (λ (z : Row). IsUntidy classes file written z q) is holds))
    ]

  -- a part of one row
  module _ (row : Row) where
    row_first : (p : ℕ) → NoneBelow (order_of row) → IsLeastPlace (IsUntidy classes file written row) p → IsFirstUntidy classes file written p
    row_first p none least = record { row = row; least = least; first = none }

    row_none : NoneBelow (order_of row) → ((p : ℕ) → IsUntidy classes file written row p → ⊥) → NoneBelow (order_of row + 1)
    row_none none nowhere = λ other q below holds. elim (cases_lt (order_of other) (order_of row)) [
      | inl less ↦ none other q less holds
      | inr from ↦ let same : order_of other ≡ order_of row = omega arith in nowhere q (subst (λ (z : Row). IsUntidy classes file written z q) (one_row other row same) holds)
    ]

  -- WHAT EACH PART SAYS

  place_up : (r : PlaceRow) (p : ℕ) → IsMisplaced file written r p → IsUntidy classes file written (of_places r) p
  place_up OfSection p holds = holds
  place_up OfHeaders p holds = holds
  place_up OfByte p holds = holds

  place_down : (r : PlaceRow) (p : ℕ) → IsUntidy classes file written (of_places r) p → IsMisplaced file written r p
  place_down OfSection p holds = holds
  place_down OfHeaders p holds = holds
  place_down OfByte p holds = holds

  table_up : (r : TableRow) (p : ℕ) → IsUntidyTables classes file written r p → IsUntidy classes file written (of_tables r) p
  table_up OfTable p holds = holds
  table_up OfLooseByte p holds = holds
  table_up OfMissingTable p holds = holds
  table_up OfDeclaration p holds = holds
  table_up OfEntry p holds = holds

  table_down : (r : TableRow) (p : ℕ) → IsUntidy classes file written (of_tables r) p → IsUntidyTables classes file written r p
  table_down OfTable p holds = holds
  table_down OfLooseByte p holds = holds
  table_down OfMissingTable p holds = holds
  table_down OfDeclaration p holds = holds
  table_down OfEntry p holds = holds

  list_up : (r : ListRow) (p : ℕ) → IsMisplacedList file written r p → IsUntidy classes file written (of_lists r) p
  list_up OfList p holds = holds
  list_up OfLooseListByte p holds = holds

  list_down : (r : ListRow) (p : ℕ) → IsUntidy classes file written (of_lists r) p → IsMisplacedList file written r p
  list_down OfList p holds = holds
  list_down OfLooseListByte p holds = holds

  -- the parts of the file, as they were taken from what is held
  module _ (before after : List ℕ) (same : before ≡ file) (again : after ≡ written) (found : Option ℕ) (least : IsFirstFoundIn place_order (IsMisplaced before after) found) where
    moved : IsFirstFoundIn place_order (IsMisplaced file written) found
    moved = subst (λ (z : List ℕ). IsFirstFoundIn place_order (IsMisplaced file z) found) again (subst (λ (z : List ℕ). IsFirstFoundIn place_order (IsMisplaced z after) found) same least)

    pub places_first : (p : ℕ) → found ≡ Some p → IsFirstUntidy classes file written p
    places_first p is = part_first place_order (IsMisplaced file written) of_places 0 3 place_numbered place_ordered place_up place_down p (λ row q below holds. absurd (omega arith)) (subst (IsFirstFoundIn place_order (IsMisplaced file written)) is moved)

    pub places_none : found ≡ None → NoneBelow 3
    places_none is = part_none place_order (IsMisplaced file written) of_places 0 3 place_numbered place_ordered place_up place_down (λ row q below holds. absurd (omega arith)) (subst (IsFirstFoundIn place_order (IsMisplaced file written)) is moved)

  -- its abbreviation tables
  module _ (earlier : NoneBelow 3) (found : Option ℕ) (least : IsFirstFoundIn table_order (IsUntidyTables classes file written) found) where
    pub tables_first : (p : ℕ) → found ≡ Some p → IsFirstUntidy classes file written p
    tables_first p is = part_first table_order (IsUntidyTables classes file written) of_tables 3 5 table_numbered table_ordered table_up table_down p earlier (subst (IsFirstFoundIn table_order (IsUntidyTables classes file written)) is least)

    pub tables_none : found ≡ None → NoneBelow 8
    tables_none is = part_none table_order (IsUntidyTables classes file written) of_tables 3 5 table_numbered table_ordered table_up table_down earlier (subst (IsFirstFoundIn table_order (IsUntidyTables classes file written)) is least)

  -- its units
  module _ (earlier : NoneBelow 8) (found : Option ℕ) (least : IsLeastFound (IsPaddedUnit written) found) where
    pub units_first : (p : ℕ) → found ≡ Some p → IsFirstUntidy classes file written p
    units_first p is = row_first AUnit p earlier (subst (IsLeastFound (IsPaddedUnit written)) is least)

    pub units_none : found ≡ None → NoneBelow 9
    units_none is = row_none AUnit earlier (subst (IsLeastFound (IsPaddedUnit written)) is least)

  -- its line number programs
  module _ (earlier : NoneBelow 9) (found : Option ℕ) (least : IsLeastFound (IsLineAmiss classes file written) found) where
    pub programs_first : (p : ℕ) → found ≡ Some p → IsFirstUntidy classes file written p
    programs_first p is = row_first AProgram p earlier (subst (IsLeastFound (IsLineAmiss classes file written)) is least)

    pub programs_none : found ≡ None → NoneBelow 10
    programs_none is = row_none AProgram earlier (subst (IsLeastFound (IsLineAmiss classes file written)) is least)

  -- its lists
  module _ (earlier : NoneBelow 10) (found : Option ℕ) (least : IsFirstFoundIn list_order (IsMisplacedList file written) found) where
    pub lists_first : (p : ℕ) → found ≡ Some p → IsFirstUntidy classes file written p
    lists_first p is = part_first list_order (IsMisplacedList file written) of_lists 10 2 list_numbered list_ordered list_up list_down p earlier (subst (IsFirstFoundIn list_order (IsMisplacedList file written)) is least)

    pub lists_none : found ≡ None → NoneBelow 12
    lists_none is = part_none list_order (IsMisplacedList file written) of_lists 10 2 list_numbered list_ordered list_up list_down earlier (subst (IsFirstFoundIn list_order (IsMisplacedList file written)) is least)

  -- those whose entries are kept
  module _ (earlier : NoneBelow 12) (found : Option ℕ) (least : IsLeastFound (λ p. (classes.lists ≡ false) × IsChangedList file written p) found) where
    pub changed_first : (p : ℕ) → found ≡ Some p → IsFirstUntidy classes file written p
    changed_first p is = row_first AChangedList p earlier (subst (IsLeastFound (λ p. (classes.lists ≡ false) × IsChangedList file written p)) is least)

    pub changed_none : found ≡ None → NoneBelow 13
    changed_none is = row_none AChangedList earlier (subst (IsLeastFound (λ p. (classes.lists ≡ false) × IsChangedList file written p)) is least)

  -- THE ANSWER

  -- a place that is the first one says that the file isn't tidy
  pub not_tidy : (p : ℕ) → IsFirstUntidy classes file written p → IsNone (Some p) ↔ IsTidy classes file written
  not_tidy p first = (λ none. absurd (true≢false none), λ tidy. absurd (tidy first.row p first.least.0))

  -- the last part tells
  number_tidy : NoneBelow 13 → (found : Option ℕ) → IsLeastFound (IsLongNumber classes written) found → IsNone found ↔ IsTidy classes file written
  number_tidy none None nowhere = (λ _. λ row p holds. row_none ANumber none nowhere row p (numbered row).1 holds, λ _. refl)
  number_tidy none (Some p) least = not_tidy p (row_first ANumber p none least)

  number_first : NoneBelow 13 → (found : Option ℕ) → IsLeastFound (IsLongNumber classes written) found → IfSome found (IsFirstUntidy classes file written)
  number_first none None nowhere = tt
  number_first none (Some p) least = row_first ANumber p none least

  pub numbers_tidy : {E : Type 0} → NoneBelow 13 → (r : Result (Option ℕ) E) → IfOk r (IsLeastFound (IsLongNumber classes written)) → IfOk r (λ found. IsNone found ↔ IsTidy classes file written)
  numbers_tidy none (Ok found) least = number_tidy none found least
  numbers_tidy none (Err e) least = tt

  pub numbers_first : {E : Type 0} → NoneBelow 13 → (r : Result (Option ℕ) E) → IfOk r (IsLeastFound (IsLongNumber classes written)) → IfOk r (λ found. IfSome found (IsFirstUntidy classes file written))
  numbers_first none (Ok found) least = number_first none found least
  numbers_first none (Err e) least = tt

-- what holds anyway holds where no place is named
pub known_anyway : {E : Type 0} (P : Type 0) (r : Result (Option ℕ) E) → P → IfOk r (λ found. IsNone found → P)
known_anyway P (Ok found) holds = λ _. holds
known_anyway P (Err e) holds = tt
