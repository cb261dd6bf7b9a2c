-- A value refers to something or has a fault, and never both. Expressions are looked at apart.
use Rattle.std.proofs.Common.{◌≡◌, ◌≤◌, ◌<◌, ◌+◌, ◌*◌, ◌∙◌, ◌⊎◌, inl, inr, ℕ, zero, suc, List, [], ◌∷◌, length, sym, ap, subst, refl, arith}
use Rattle.std.specs.Prelude.{filter}
use Rattle.std.proofs.lemmas.Bool.{cases_eq, cases_lt}
use Rattle.dw_base.specs.declared.fault.Kind.{Kind}
use Rattle.dw_base.specs.declared.fault.Kind.TheVariants.{Target as NoTarget, Pointer, NoBase}
use Rattle.fixed_width.specs.Numbers.{number_at}
use Rattle.fixed_width.specs.InitialLengths.{version, unit_length, unit_end, least_reserved, IsWhole}
use Rattle.form_codec.specs.Forms.{Meaning}
use Rattle.form_codec.specs.Forms.Meaning.{Expression, InUnit, InSection, SectionPlace, LocationList, RangeList}
use Rattle.entry_arena.specs.declared.entry.Target.{Target}
use Rattle.entry_arena.specs.declared.entry.Target.TheVariants.{Entry as TheEntry, ChainEnd as TheEnd}
use Rattle.entry_arena.specs.Arena.{Arena, entry_at, chain_end_at}
use Rattle.list_model.specs.declared.entry.ListKind.{ListKind}
use Rattle.list_model.specs.declared.entry.ListKind.TheVariants.{Ranges, Locations}
use Rattle.list_model.specs.declared.tables.AddrTable.{AddrTable}
use Rattle.list_model.specs.Headers.{address_size, segment_selector_size, IsHeader}
use Rattle.list_model.specs.Addresses.{table_header_size, address_place, IsAddrTable, TablesFollow, AreAllTables, HasBase}
use Rattle.list_model.specs.Contributions.{part_end, lists_at, offsets_at, offset_place}
use Rattle.list_model.proofs.AllTables.{table_among, has_base as table_based, base_among}
use Rattle.value_links.specs.Attributes.{OffsetClass, offset_class}
use Rattle.value_links.specs.Attributes.OffsetClass.{LinePtr, RngList, LocList, RngListsPtr, LocListsPtr, AddrPtr, StrOffsetsPtr, MacPtr, Views, NoOffset}
use Rattle.value_links.specs.Reading.{ListSection, Linkable, unit_at, program_at, of_kind, part_at}
use Rattle.value_links.specs.Values.{described_at, root_of, IsFirstBase, GivesBase}
use Rattle.value_links.specs.ListPlaces.{IsListPlace, IsOffsetsAt, base_of}
use Rattle.value_links.specs.Linked.{Linked, IsTargetAt, IsSectionTarget, IsProgramAt, IndexLinks, is_located, TellsPlace, IsFirstLocated, AreTogether, ViewLinks, OffsetLinks, Links}
use Rattle.value_links.specs.Linked.Linked.{Itself, Refers, Program, ListAt, SlotAt, BaseOf, ViewsAt, Kept}
use Rattle.value_links.specs.LinkFaults.{IsTargetless, NamesNothing, IsIndexAstray, IsDangling, IsBaseless, FaultValue}
use Rattle.value_links.specs.Laws.{LinkedHaveNoFault}
use Rattle.value_links.proofs.Bases.{first_or_none, one_base}
use Rattle.value_links.proofs.Passing.{FirstThat, none_among, first_once, first_that}

-- ONE OR THE OTHER

-- one of the numbers below n has what is looked for, or none has
pub search_below : (P : ℕ → Type 0) → ((i : ℕ) → P i ⊎ (¬ P i)) → (n : ℕ) → ((i : ℕ) × (i < n) × P i) ⊎ ((i : ℕ) → i < n → ¬ P i)
search_below P test zero = inr (λ i inside. absurd (omega arith))
search_below P test (suc n) = elim (search_below P test n) [
  | inl found ↦ inl (found.0, omega (arith, found.1), found.2)
  | inr none ↦ elim (test n) [
    | inl here ↦ inl (n, omega arith, here)
    | inr other ↦ inr (λ i inside. elim (cases_eq i n) [
      | inl same ↦ subst (λ (z : ℕ). ¬ P z) (sym same) other
      | inr apart ↦ none i (omega (arith, apart))
    ])
  ]
]

-- both of two things hold, or not both
pub both_or_not : {P Q : Type 0} → P ⊎ (¬ P) → Q ⊎ (¬ Q) → (P × Q) ⊎ (¬ (P × Q))
both_or_not (inl p) (inl q) = inl (p, q)
both_or_not (inl p) (inr other) = inr (λ x. other x.1)
both_or_not (inr other) q = inr (λ x. other x.0)

less_or_not : (m n : ℕ) → (m < n) ⊎ (¬ (m < n))
less_or_not m n = elim (cases_lt m n) [ inl less ↦ inl less | inr more ↦ inr (λ (less : m < n). absurd (omega arith)) ]

most_or_not : (m n : ℕ) → (m ≤ n) ⊎ (¬ (m ≤ n))
most_or_not m n = elim (cases_lt n m) [ inl more ↦ inr (λ (most : m ≤ n). absurd (omega arith)) | inr most ↦ inl most ]

-- ADDRESS TABLES

module _ (section : List ℕ) where
  -- a table begins at a place
  abbrev Begins : ℕ → Type 0
  Begins at = (count : ℕ) × IsAddrTable section (record { at = at; count = count })

  whole_or_not : (at : ℕ) → IsWhole section at ⊎ (¬ IsWhole section at)
  whole_or_not at = elim (both_or_not (less_or_not (unit_length section at) least_reserved) (most_or_not (unit_end section at) (length section))) [
    | inl is ↦ inl (record { usual = is.0; inside = is.1 })
    | inr not ↦ inr (λ (w : IsWhole section at). not (w.usual, w.inside))
  ]

  header_or_not : (at : ℕ) → IsHeader table_header_size section at ⊎ (¬ IsHeader table_header_size section at)
  header_or_not at = elim (both_or_not (most_or_not (at + table_header_size) (unit_end section at)) (both_or_not (cases_eq (version section at) 5) (both_or_not (cases_eq (address_size section at) 8) (cases_eq (segment_selector_size section at) 0)))) [
    | inl is ↦ inl (record { fits = is.0; of_version = is.1.0; of_address_size = is.1.1.0; of_segments = is.1.1.1 })
    | inr not ↦ inr (λ (h : IsHeader table_header_size section at). not (h.fits, (h.of_version, (h.of_address_size, h.of_segments))))
  ]

  -- addresses fill what is left, or the last one is cut
  filled_or_not : (at : ℕ) → ((count : ℕ) × (address_place at count ≡ unit_end section at)) ⊎ (¬ ((count : ℕ) × (address_place at count ≡ unit_end section at)))
  filled_or_not at = elim (search_below (λ count. address_place at count ≡ unit_end section at) (λ count. cases_eq (address_place at count) (unit_end section at)) (suc (unit_end section at))) [
    | inl found ↦ inl (found.0, found.2)
    | inr none ↦ inr (λ (x : (count : ℕ) × (address_place at count ≡ unit_end section at)). let filled : at + 8 + 8 * x.0 ≡ unit_end section at = x.1 in none x.0 (omega arith) x.1)
  ]

  table_or_none : (at : ℕ) → Begins at ⊎ (¬ Begins at)
  table_or_none at = elim (both_or_not (whole_or_not at) (both_or_not (header_or_not at) (filled_or_not at))) [
    | inl is ↦ inl (is.1.1.0, record { whole = is.0; header = is.1.0; filled = is.1.1.1 })
    | inr not ↦ inr (λ (x : Begins at). not (x.1.whole, (x.1.header, (x.0, x.1.filled))))
  ]

  -- all tables from a place on, which are those of the n bytes that are left
  abbrev AllFrom : ℕ → Type 0
  AllFrom at = (tables : List AddrTable) × (end : ℕ) × TablesFollow section tables at end × (¬ Begins end)

  tables_from : (n at : ℕ) → length section ≤ at + n → AllFrom at
  tables_from zero at all = (
    [],
    at,
    refl,
    λ (x : Begins at).
        let fits : at + 8 ≤ unit_end section at = x.1.header.fits in
        let inside : unit_end section at ≤ length section = x.1.whole.inside in
        absurd (omega arith),
  )
  tables_from (suc n) at all = elim (table_or_none at) [
    | inl found ↦
        let fits : at + 8 ≤ unit_end section at = found.1.header.fits in
        let rest = tables_from n (unit_end section at) (omega arith) in
        (record { at = at; count = found.0 } ∷ rest.0, rest.1, (refl, found.1, rest.2), rest.3)
    | inr none ↦ ([], at, refl, none)
  ]

  -- so any section has all its tables
  pub all_tables : (tables : List AddrTable) × AreAllTables section tables
  all_tables =
      let all = tables_from (length section) 0 (omega arith) in (
        all.0,
        record {
          end = all.1;
          follow = all.2;
          over = λ (table : AddrTable) (stands : IsAddrTable section table) (here : table.at ≡ all.1). all.3 (table.count, subst (λ (z : ℕ). IsAddrTable section (record { at = z; count = table.count })) here stands);
        },
      )

  -- and a base is that of one of them, or of none
  pub base_or_none : (base : ℕ) → ((table : AddrTable) × HasBase section base table) ⊎ (¬ ((table : AddrTable) × HasBase section base table))
  base_or_none base =
      let tables = all_tables.0 in
      let all = all_tables.1 in
      elim (search_below (λ i. (table_among tables i).at + 8 ≡ base) (λ i. cases_eq ((table_among tables i).at + 8) base) (length tables)) [
        | inl found ↦ inl (table_among tables found.0, table_based section tables base found.0 all found.1 found.2)
        | inr none ↦ inr (λ (x : (table : AddrTable) × HasBase section base table). let one = base_among section tables base x.0 all x.1 in none one.0 one.1 one.2)
      ]

-- LISTS

-- a list can begin at a place in a contribution, or not
place_or_not : (section : ListSection) (at p : ℕ) → IsListPlace section p at ⊎ (¬ IsListPlace section p at)
place_or_not section at p = elim (both_or_not (less_or_not p (length section.parts)) (both_or_not (most_or_not (lists_at (part_at section p)) at) (less_or_not at (part_end (part_at section p))))) [
  | inl is ↦ inl (is.0, record { after = is.1.0; before = is.1.1 })
  | inr not ↦ inr (λ (x : IsListPlace section p at). not (x.0, (x.1.after, x.1.before)))
]

-- it can at a place of the section, or in no contribution
list_or_none : (section : ListSection) (at : ℕ) → ((p : ℕ) × IsListPlace section p at) ⊎ (¬ ((p : ℕ) × IsListPlace section p at))
list_or_none section at = elim (search_below (λ p. IsListPlace section p at) (place_or_not section at) (length section.parts)) [
  | inl found ↦ inl (found.0, found.2)
  | inr none ↦ inr (λ (x : (p : ℕ) × IsListPlace section p at). none x.0 x.1.0 x.1)
]

-- two places are those of one contribution, or of none
both_or_none : (section : ListSection) (list n : ℕ) → ((p : ℕ) × IsListPlace section p list × IsListPlace section p n) ⊎ (¬ ((p : ℕ) × IsListPlace section p list × IsListPlace section p n))
both_or_none section list n = elim (search_below (λ p. IsListPlace section p list × IsListPlace section p n) (λ p. both_or_not (place_or_not section list p) (place_or_not section n p)) (length section.parts)) [
  | inl found ↦ inl (found.0, found.2.0, found.2.1)
  | inr none ↦ inr (λ (x : (p : ℕ) × IsListPlace section p list × IsListPlace section p n). none x.0 x.1.0 (x.1, x.2))
]

together_or_not : (section : ListSection) (list n : ℕ) → AreTogether section list n ⊎ (¬ AreTogether section list n)
together_or_not section list n = elim (list_or_none section list) [
  | inl here ↦ elim (both_or_none section list n) [ inl found ↦ inl (λ there. found) | inr none ↦ inr (λ (f : AreTogether section list n). none (f here)) ]
  | inr none ↦ inl (λ here. absurd (none here))
]

-- a place is that of the offsets of a contribution, or of none
offsets_or_none : (section : ListSection) (at : ℕ) → ((p : ℕ) × IsOffsetsAt section at p) ⊎ (¬ ((p : ℕ) × IsOffsetsAt section at p))
offsets_or_none section at = elim (search_below (λ p. offsets_at (part_at section p).at ≡ at) (λ p. cases_eq (offsets_at (part_at section p).at) at) (length section.parts)) [
  | inl found ↦ inl (found.0, (found.1, found.2))
  | inr none ↦ inr (λ (x : (p : ℕ) × IsOffsetsAt section at p). none x.0 x.1.0 x.1.1)
]

-- TARGETS

-- a place holds a target, or none
target_or_none : (f : Arena) (place : ℕ) → ((target : Target) × IsTargetAt f target place) ⊎ (¬ ((target : Target) × IsTargetAt f target place))
target_or_none f place = elim (search_below (λ i. (entry_at f.entries i).at ≡ place) (λ i. cases_eq (entry_at f.entries i).at place) (length f.entries)) [
  | inl entry ↦ inl (TheEntry entry.0, (entry.1, entry.2))
  | inr no_entry ↦ elim (search_below (λ i. (chain_end_at f.ends i).at ≡ place) (λ i. cases_eq (chain_end_at f.ends i).at place) (length f.ends)) [
    | inl end ↦ inl (TheEnd (chain_end_at f.ends end.0).entry, (end.0, end.1, ap (λ z. record { entry = (chain_end_at f.ends end.0).entry; at = z }) end.2))
    | inr no_end ↦ inr (neither no_entry no_end)
  ]
]
  where
    neither : ((i : ℕ) → i < length f.entries → ¬ ((entry_at f.entries i).at ≡ place)) → ((i : ℕ) → i < length f.ends → ¬ ((chain_end_at f.ends i).at ≡ place)) → ¬ ((target : Target) × IsTargetAt f target place)
    neither no_entry no_end (TheEntry id, (inside, here)) = no_entry id inside here
    neither no_entry no_end (TheEnd id, (i, inside, here)) = no_end i inside (ap (λ e. e.at) here)

-- VIEW PAIRS

module _ (r : Linkable) (u : ℕ) where
  -- what the value of a location tells, and view pairs at a place go with it
  abbrev Goes : Meaning → ℕ → Type 0
  Goes meaning n = (list : ℕ) × TellsPlace r u meaning list × AreTogether r.locations list n

  -- the place that a slot tells
  abbrev told : ℕ → ℕ → ℕ
  told i p = offsets_at (part_at r.locations p).at + number_at 4 (offset_place (part_at r.locations p).at i) r.locations.section

  slot_goes : (i n base : ℕ) → IsFirstBase (root_of (unit_at r u)).attributes (base_of Locations) base → Goes (LocationList i) n ⊎ (¬ Goes (LocationList i) n)
  slot_goes i n base first = elim (search_below (λ p. (offsets_at (part_at r.locations p).at ≡ base) × ((i < (part_at r.locations p).slots) × AreTogether r.locations (told i p) n)) (λ p. both_or_not (cases_eq (offsets_at (part_at r.locations p).at) base) (both_or_not (less_or_not i (part_at r.locations p).slots) (together_or_not r.locations (told i p) n))) (length r.locations.parts)) [
    | inl found ↦ inl (told i found.0, (found.0, (base, first, (found.1, found.2.0)), record { known = found.1; counted = found.2.1.0; tells = refl }), found.2.1.1)
    | inr none ↦ inr (astray none)
  ]
    where
      astray : ((p : ℕ) → p < length r.locations.parts → ¬ ((offsets_at (part_at r.locations p).at ≡ base) × ((i < (part_at r.locations p).slots) × AreTogether r.locations (told i p) n))) → ¬ Goes (LocationList i) n
      astray none (list, (p, (m, is, (inside, at)), slot), together) = none p inside (at ∙ one_base (root_of (unit_at r u)).attributes (base_of Locations) m base is first, (slot.counted, subst (λ (z : ℕ). AreTogether r.locations z n) slot.tells together))

  goes_or_not : (meaning : Meaning) (n : ℕ) → Goes meaning n ⊎ (¬ Goes meaning n)
  goes_or_not (SectionPlace m) n = elim (both_or_not (list_or_none r.locations m) (together_or_not r.locations m n)) [
    | inl is ↦ inl (m, (is.0, refl), is.1)
    | inr not ↦ inr (λ (x : Goes (SectionPlace m) n). not (x.1.0, subst (λ (z : ℕ). AreTogether r.locations z n) x.1.1 x.2))
  ]
  goes_or_not (LocationList i) n = elim (first_or_none (root_of (unit_at r u)).attributes (base_of Locations)) [
    | inl base ↦ slot_goes i n base.0 base.1
    | inr none ↦ inr (λ (x : Goes (LocationList i) n). none (x.1.1.0, x.1.1.1))
  ]
  goes_or_not meaning n = inr (λ (x : Goes meaning n). x.1)

  -- an offset of an entry names view pairs, or none
  views_or_none : (id n : ℕ) → ((v : Linked) × ViewLinks r u id n v) ⊎ (¬ ((v : Linked) × ViewLinks r u id n v))
  views_or_none id n = elim (first_that is_located (described_at (unit_at r u) id).attributes) [
    | inl first ↦ elim (goes_or_not first.attribute.1 n) [
      | inl goes ↦
          let located : IsFirstLocated r u id goes.0 = record { before = first.before; attribute = first.attribute; after = first.after; parts = first.parts; first = first.first; located = first.passes; tells = goes.1 } in
          inl (ViewsAt goes.0 n, (goes.0, located, goes.2, refl))
      | inr none ↦ inr (λ (x : (v : Linked) × ViewLinks r u id n v). apart first none x.1)
    ]
    | inr none ↦ inr (λ (x : (v : Linked) × ViewLinks r u id n v). without none x.1)
  ]
    where
      apart : (first : FirstThat is_located (described_at (unit_at r u) id).attributes) → (¬ Goes first.attribute.1 n) → {v : Linked} → ¬ ViewLinks r u id n v
      apart first none (list, f, together, e) =
          let same : f.attribute ≡ first.attribute = (first_once is_located f.before f.attribute f.after first.before first.attribute first.after (sym f.parts ∙ first.parts) f.first first.first f.located first.passes).1 in
          none (list, subst (λ (z : ℕ × Meaning). TellsPlace r u z.1 list) same f.tells, together)

      without : filter is_located (described_at (unit_at r u) id).attributes ≡ [] → {v : Linked} → ¬ ViewLinks r u id n v
      without none (list, f, together, e) = none_among is_located (described_at (unit_at r u) id).attributes f.before f.attribute f.after none f.parts f.located

module _ (r : Linkable) (u id : ℕ) where
  offset_or_fault : (class : OffsetClass) (n : ℕ) → ((v : Linked) × OffsetLinks r u id class n v) ⊎ NamesNothing r u id class n
  offset_or_fault LinePtr n = elim (search_below (λ p. (program_at r p).head.at ≡ n) (λ p. cases_eq (program_at r p).head.at n) (length r.programs)) [
    | inl found ↦ inl (Program found.0, (found.0, (found.1, found.2), refl))
    | inr none ↦ inr (λ (p : (x : ℕ) × IsProgramAt r n x). none p.0 p.1.0 p.1.1)
  ]
  offset_or_fault RngList n = elim (list_or_none (of_kind r Ranges) n) [ inl found ↦ inl (ListAt Ranges n, (found, refl)) | inr none ↦ inr none ]
  offset_or_fault LocList n = elim (list_or_none (of_kind r Locations) n) [ inl found ↦ inl (ListAt Locations n, (found, refl)) | inr none ↦ inr none ]
  offset_or_fault RngListsPtr n = elim (offsets_or_none (of_kind r Ranges) n) [ inl found ↦ inl (BaseOf Ranges found.0, (found.0, found.1, refl)) | inr none ↦ inr none ]
  offset_or_fault LocListsPtr n = elim (offsets_or_none (of_kind r Locations) n) [ inl found ↦ inl (BaseOf Locations found.0, (found.0, found.1, refl)) | inr none ↦ inr none ]
  offset_or_fault AddrPtr n = elim (base_or_none r.addresses n) [ inl found ↦ inl (Kept n, (found, refl)) | inr none ↦ inr none ]
  offset_or_fault StrOffsetsPtr n = inl (Kept n, refl)
  offset_or_fault MacPtr n = inl (Kept n, refl)
  offset_or_fault Views n = views_or_none r u id n
  offset_or_fault NoOffset n = inr tt

  -- an index counts a slot, or none, from a base that the root gives
  index_or_none : (kind : ListKind) (i n : ℕ) → IsFirstBase (root_of (unit_at r u)).attributes (base_of kind) n → ((v : Linked) × IndexLinks r u kind i v) ⊎ (¬ ((v : Linked) × IndexLinks r u kind i v))
  index_or_none kind i n first = elim (search_below (λ p. (offsets_at (part_at (of_kind r kind) p).at ≡ n) × (i < (part_at (of_kind r kind) p).slots)) (λ p. both_or_not (cases_eq (offsets_at (part_at (of_kind r kind) p).at) n) (less_or_not i (part_at (of_kind r kind) p).slots)) (length (of_kind r kind).parts)) [
    | inl found ↦ inl (SlotAt kind found.0 i, (found.0, (n, first, (found.1, found.2.0)), found.2.1, refl))
    | inr none ↦ inr (λ (x : (v : Linked) × IndexLinks r u kind i v). astray none x.1)
  ]
    where
      astray : ((p : ℕ) → p < length (of_kind r kind).parts → ¬ ((offsets_at (part_at (of_kind r kind) p).at ≡ n) × (i < (part_at (of_kind r kind) p).slots))) → {v : Linked} → ¬ IndexLinks r u kind i v
      astray none (p, (m, is, (inside, at)), counted, e) = none p inside (at ∙ one_base (root_of (unit_at r u)).attributes (base_of kind) m n is first, counted)

  index_or_fault : (kind : ListKind) (i : ℕ) → ((v : Linked) × IndexLinks r u kind i v) ⊎ (IsIndexAstray r u kind i ⊎ (¬ GivesBase (unit_at r u) (base_of kind)))
  index_or_fault kind i = elim (first_or_none (root_of (unit_at r u)).attributes (base_of kind)) [
    | inl base ↦ elim (index_or_none kind i base.0 base.1) [ inl found ↦ inl found | inr none ↦ inr (inl (base, none)) ]
    | inr none ↦ inr (inr none)
  ]

  section_or_none : (n : ℕ) → ((unit : ℕ) × (target : Target) × IsSectionTarget r n unit target) ⊎ (¬ ((unit : ℕ) × (target : Target) × IsSectionTarget r n unit target))
  section_or_none n = elim (search_below (λ w. (target : Target) × IsTargetAt (unit_at r w).forest target n) (λ w. target_or_none (unit_at r w).forest n) (length r.units)) [
    | inl found ↦ inl (found.0, found.2.0, (found.1, found.2.1))
    | inr none ↦ inr (λ (s : (unit : ℕ) × (target : Target) × IsSectionTarget r n unit target). none s.0 s.2.0 (s.1, s.2.1))
  ]

  -- a value is linked, has a fault, or is an expression
  pub value_or_fault : (name : ℕ) (meaning : Meaning) → ((v : Linked) × Links r u id name meaning v) ⊎ (((kind : Kind) × FaultValue r u id name meaning kind) ⊎ ((bytes : List ℕ) × (meaning ≡ Expression bytes)))
  value_or_fault name (InUnit n) = elim (target_or_none (unit_at r u).forest ((unit_at r u).head.at + n)) [
    | inl found ↦ inl (Refers u found.0, (found.0, found.1, refl))
    | inr none ↦ inr (inl (NoTarget, none))
  ]
  value_or_fault name (InSection n) = elim (section_or_none n) [
    | inl found ↦ inl (Refers found.0 found.1, (found.0, found.1, found.2, refl))
    | inr none ↦ inr (inl (NoTarget, none))
  ]
  value_or_fault name (SectionPlace n) = elim (offset_or_fault (offset_class name) n) [ inl links ↦ inl links | inr none ↦ inr (inl (Pointer, none)) ]
  value_or_fault name (LocationList i) = elim (index_or_fault Locations i) [ inl links ↦ inl links | inr fault ↦ elim fault [ inl astray ↦ inr (inl (Pointer, astray)) | inr none ↦ inr (inl (NoBase, none)) ] ]
  value_or_fault name (RangeList i) = elim (index_or_fault Ranges i) [ inl links ↦ inl links | inr fault ↦ elim fault [ inl astray ↦ inr (inl (Pointer, astray)) | inr none ↦ inr (inl (NoBase, none)) ] ]
  value_or_fault name (Expression bytes) = inr (inr (bytes, refl))
  value_or_fault name meaning = inl (Itself meaning, refl)

-- NEVER BOTH

has_target : (r : Linkable) (u id name : ℕ) (meaning : Meaning) (v : Linked) → Links r u id name meaning v → IsTargetless r u meaning → ⊥
has_target r u id name (InUnit n) v (target, here, e) none = none (target, here)
has_target r u id name (InSection n) v (unit, target, here, e) none = none (unit, target, here)
has_target r u id name meaning v means none = none

names_something : (r : Linkable) (u id : ℕ) (class : OffsetClass) (n : ℕ) (v : Linked) → OffsetLinks r u id class n v → NamesNothing r u id class n → ⊥
names_something r u id LinePtr n v (p, here, e) none = none (p, here)
names_something r u id RngList n v (here, e) none = none here
names_something r u id LocList n v (here, e) none = none here
names_something r u id RngListsPtr n v (p, here, e) none = none (p, here)
names_something r u id LocListsPtr n v (p, here, e) none = none (p, here)
names_something r u id AddrPtr n v (here, e) none = none here
names_something r u id StrOffsetsPtr n v means none = none
names_something r u id MacPtr n v means none = none
names_something r u id Views n v means none = none (v, means)
names_something r u id NoOffset n v means none = means

points : (r : Linkable) (u id name : ℕ) (meaning : Meaning) (v : Linked) → Links r u id name meaning v → IsDangling r u id name meaning → ⊥
points r u id name (SectionPlace n) v means none = names_something r u id (offset_class name) n v means none
points r u id name (LocationList i) v means none = none.1 (v, means)
points r u id name (RangeList i) v means none = none.1 (v, means)
points r u id name meaning v means none = none

-- an index that counts a slot has a base
index_based : (r : Linkable) (u : ℕ) (kind : ListKind) (i : ℕ) (v : Linked) → IndexLinks r u kind i v → GivesBase (unit_at r u) (base_of kind)
index_based r u kind i v (p, (n, first, at), counted, e) = (n, first)

has_base : (r : Linkable) (u id name : ℕ) (meaning : Meaning) (v : Linked) → Links r u id name meaning v → IsBaseless r u meaning → ⊥
has_base r u id name (LocationList i) v means none = none (index_based r u Locations i v means)
has_base r u id name (RangeList i) v means none = none (index_based r u Ranges i v means)
has_base r u id name meaning v means none = none

pub linked_faultless : LinkedHaveNoFault
linked_faultless r u id name meaning v NoTarget means fault = has_target r u id name meaning v means fault
linked_faultless r u id name meaning v Pointer means fault = points r u id name meaning v means fault
linked_faultless r u id name meaning v NoBase means fault = has_base r u id name meaning v means fault
linked_faultless r u id name meaning v kind means fault = fault
