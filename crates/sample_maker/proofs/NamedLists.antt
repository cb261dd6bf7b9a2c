-- Where the entries of units name the lists of what is drawn, and no others, all lists and view pairs are read, keep the limits of any
-- reach, and mean what is drawn.
use Rattle.std.proofs.Common.{◌≡◌, ◌≤◌, ◌<◌, ℕ, zero, suc, List, [], ◌∷◌, length, ◌∙◌, sym, ap, refl, subst, arith, inl, inr}
use Rattle.std.specs.Prelude.{slice_index_or}
use Rattle.std.specs.List.{All, AllZip, Contains}
use Rattle.std.proofs.lemmas.List.Elements.{All-nil, All-cons, All-contains}
use Rattle.dw_base.specs.declared.fault.Reach.{Reach}
use Rattle.companions.specs.declared.set.ArangeSet.{ArangeSet}
use Rattle.list_model.specs.declared.context.Context.{Context}
use Rattle.list_model.specs.declared.entry.ListKind.{ListKind}
use Rattle.list_model.specs.declared.entry.ListKind.TheVariants.{Ranges, Locations}
use Rattle.list_model.specs.Entries.{AreSaid}
use Rattle.list_model.specs.Items.{Give}
use Rattle.loc_lists.specs.Views.{IsRunAt}
use Rattle.value_links.specs.Operations.{LinkedOperation, LinksExpression, IsSomeExpression}
use Rattle.value_links.specs.Reading.{ProgramRead, UnitRead, ListRead, ViewRead, Linkable, Reading, lists_of, part_at, list_at, context_at}
use Rattle.value_links.specs.ListPlaces.{IsListPlace}
use Rattle.value_links.specs.Linked.{IsListAt, AreTogether}
use Rattle.value_links.specs.Lists.{IsNamed, IsNamedIn, IsListIn, AreExpressionsRead, AreWithinReach, AreLookedUp, AreListsOf, AreViewsOf, AreViewsRead, IsTold, AreTold, expressions_at}
use Rattle.value_links.specs.Resolved.{MeansList}
use Rattle.value_links.specs.Debug.{PartMeaning, MeansPart, MeanParts}
use Rattle.value_links.specs.Laws.{AreListsWithin}
use Rattle.sample_maker.specs.Drawn.{UnitDrawn}
use Rattle.sample_maker.specs.Places.{function_address}
use Rattle.sample_maker.specs.Generated.{in_register, is_zero, location_meaning, range_meaning, ranges_from, view_pairs, one_part}
use Rattle.sample_maker.specs.inside.Bytes.{register_bytes, zero_bytes, part_bytes}
use Rattle.sample_maker.specs.inside.Files.{locations_bytes, ranges_bytes}
use Rattle.sample_maker.specs.inside.Listed.{ranged_entries}
use Rattle.sample_maker.specs.inside.Small.{IsUnitSmall}
use Rattle.sample_maker.specs.inside.ReadLists.{part_read, section_read, context_read, BlockPlaced, block_address, range_list_read, unit_blocks, range_lists_read, ParameterPlaced, located_at, location_list_read, view_read, unit_parameters, location_lists_read, views_read, parameter_entries_read, parameter_bounds, IsBlockRead, IsParameterRead}
use Rattle.sample_maker.specs.inside.NamedLists.{links_with, reading_with, AreListsNamed}
use Rattle.sample_maker.proofs.ReadExpressions.{register_plain, zero_plain, register_links, zero_links, is_some_expression}
use Rattle.sample_maker.proofs.ReadAllLists.{blocks_read, parameters_read, range_lists_rise, location_lists_rise, views_rise}
use Rattle.sample_maker.proofs.ReadTotals.{entries_keep, bytes_keep, pairs_keep}
use Rattle.sample_maker.proofs.ReadPlaces.{block_known, block_once, range_list_of, block_of_list, parameter_known, parameter_once, location_list_of, parameter_of_list, view_of, parameter_of_view}
use Rattle.sample_maker.proofs.OwnedLists.{told, looked, expressions_read, owned_means}
use Rattle.sample_maker.proofs.Placing.{read_of_placed}

-- the one contribution has no slots
no_slot : (lists : List ℕ) (p i : ℕ) → p < length (section_read lists).parts → i < (part_at (section_read lists) p).slots → ⊥
no_slot lists zero i known inside = omega (arith, inside)
no_slot lists (suc p) i known inside = omega (arith, known)

-- the operations of the expressions of a parameter's list
two_links : (r : Linkable) (u register : ℕ) → register < 16 → AllZip (LinksExpression r u) (register_bytes register ∷ zero_bytes ∷ []) (in_register register ∷ is_zero ∷ [])
two_links r u register few = (register_links r u register few, (zero_links r u, tt))

two_linked : (r : Linkable) (u register : ℕ) → register < 16 → All (λ (bytes : List ℕ). (linked : List LinkedOperation) × LinksExpression r u bytes linked) (register_bytes register ∷ zero_bytes ∷ [])
two_linked r u register few =
    let P : List ℕ → Type 0 = λ (bytes : List ℕ). (linked : List LinkedOperation) × LinksExpression r u bytes linked in
    All-cons P (register_bytes register) (zero_bytes ∷ []) (in_register register, register_links r u register few) (All-cons P zero_bytes [] (is_zero, zero_links r u) (All-nil P))

two_within : (reach : Reach) (register : ℕ) → register < 16 → All (IsSomeExpression reach) (register_bytes register ∷ zero_bytes ∷ [])
two_within reach register few =
    All-cons (IsSomeExpression reach) (register_bytes register) (zero_bytes ∷ []) (is_some_expression reach (register_bytes register) (register_plain register few)) (All-cons (IsSomeExpression reach) zero_bytes [] (is_some_expression reach zero_bytes zero_plain) (All-nil (IsSomeExpression reach)))

module _ (programs : List ProgramRead) (reads : List UnitRead) (addresses : List ℕ) (contexts : List Context) (units : List UnitDrawn) (sets : List ArangeSet) (small : All IsUnitSmall units) (few : length units ≤ 4096) (contexts_are : (u : ℕ) → u < length units → context_at (links_with programs reads addresses contexts units) u ≡ context_read u) where
  abbrev r : Linkable
  r = links_with programs reads addresses contexts units

  abbrev whole : Reading
  whole = reading_with programs reads addresses contexts units sets

  -- PLACES

  block_is : (b : BlockPlaced) → Contains (unit_blocks 0 0 units) b → IsBlockRead (part_bytes (ranges_bytes 0 units)) (part_read (ranges_bytes 0 units)) b
  block_is b has = All-contains (IsBlockRead (part_bytes (ranges_bytes 0 units)) (part_read (ranges_bytes 0 units))) (unit_blocks 0 0 units) b (blocks_read units small few) has

  parameter_is : (p : ParameterPlaced) → Contains (unit_parameters 0 0 units) p → IsParameterRead (part_bytes (locations_bytes units)) (part_read (locations_bytes units)) p
  parameter_is p has = All-contains (IsParameterRead (part_bytes (locations_bytes units)) (part_read (locations_bytes units))) (unit_parameters 0 0 units) p (parameters_read units small few) has

  block_place : (b : BlockPlaced) → Contains (unit_blocks 0 0 units) b → IsListPlace r.ranges 0 b.at
  block_place b has = (omega arith, (block_is b has).begins)

  parameter_place : (p : ParameterPlaced) → Contains (unit_parameters 0 0 units) p → IsListPlace r.locations 0 (located_at p)
  parameter_place p has = (omega arith, (parameter_is p has).begins)

  -- so that a value that is this place names the list
  pub block_begins : (b : BlockPlaced) → Contains (unit_blocks 0 0 units) b → IsListAt r Ranges b.at
  block_begins b has = (0, block_place b has)

  pub parameter_begins : (p : ParameterPlaced) → Contains (unit_parameters 0 0 units) p → IsListAt r Locations (located_at p)
  parameter_begins p has = (0, parameter_place p has)

  pub views_together : (p : ParameterPlaced) → Contains (unit_parameters 0 0 units) p → AreTogether r.locations (located_at p) p.at
  views_together p has begun = (0, parameter_place p has, (omega arith, (parameter_is p has).views_begin))

  -- contributions mean that there is one without slots

  part_means : (kind : ListKind) (p : ℕ) (d : PartMeaning) → p < length one_part → MeansPart whole kind p (slice_index_or one_part p d)
  part_means Ranges zero d lt = record { count = refl; each = λ i e none. absurd (omega (arith, none)) }
  part_means Locations zero d lt = record { count = refl; each = λ i e none. absurd (omega (arith, none)) }
  part_means kind (suc p) d lt = absurd (omega (arith, lt))

  pub parts_mean : (kind : ListKind) → MeanParts whole kind one_part
  parts_mean Ranges = record { count = refl; each = λ p d lt. part_means Ranges p d lt }
  parts_mean Locations = record { count = refl; each = λ p d lt. part_means Locations p d lt }

  -- the items of a list in the context of its unit
  block_gives : (b : BlockPlaced) → Contains (unit_blocks 0 0 units) b → Give addresses (context_at r b.unit) (ranged_entries (block_address b) b.sizes) (ranges_from (block_address b) b.sizes)
  block_gives b has = subst (λ (z : Context). Give addresses z (ranged_entries (block_address b) b.sizes) (ranges_from (block_address b) b.sizes)) (sym (contexts_are b.unit (block_known units b has).unit_known)) ((block_is b has).gives addresses)

  parameter_gives : (p : ParameterPlaced) → Contains (unit_parameters 0 0 units) p → Give addresses (context_at r p.unit) (parameter_entries_read p) (parameter_bounds p)
  parameter_gives p has = subst (λ (z : Context). Give addresses z (parameter_entries_read p) (parameter_bounds p)) (sym (contexts_are p.unit (parameter_known units p has).unit_known)) ((parameter_is p has).gives addresses)

  -- the expressions of a parameter's list are within the limits of any reach
  pub expressions_within : (kind : ListKind) (reach : Reach) → AreWithinReach r kind reach (lists_of whole kind)
  expressions_within Ranges reach k inside = All-nil (IsSomeExpression reach)
  expressions_within Locations reach k inside =
      let (p, has, is) = parameter_of_list units k inside in
      let one = parameter_is p has in
      subst (λ (z : ListRead). All (IsSomeExpression reach) (expressions_at r Locations z)) (sym is) (subst (All (IsSomeExpression reach)) (sym one.expressions) (two_within reach p.parameter.register one.register))

  -- all keep the limits
  pub lists_within : (reach : Reach) → AreListsWithin whole reach
  lists_within reach = record { entries = entries_keep units small few reach; bytes = bytes_keep units small few reach; expressions = λ kind. expressions_within kind reach; views = pairs_keep units small few }

  module _ (names : AreListsNamed r units) where
    -- OWNERS: no entry of another unit names a list

    block_only : (b : BlockPlaced) → Contains (unit_blocks 0 0 units) b → (v : ℕ) → IsNamedIn r Ranges b.at v → v ≡ b.unit
    block_only b has v named =
        let (c, among, same, unit) = names.only_blocks b.at v named in
        sym unit ∙ ap (λ (z : BlockPlaced). z.unit) (block_once units c b among has same)

    parameter_only : (p : ParameterPlaced) → Contains (unit_parameters 0 0 units) p → (v : ℕ) → IsNamedIn r Locations (located_at p) v → v ≡ p.unit
    parameter_only p has v named =
        let (q, among, same, unit) = names.only_parameters (located_at p) v named in
        sym unit ∙ ap (λ (z : ParameterPlaced). z.unit) (parameter_once units q p among has (omega (arith, same)))

    -- RANGE LISTS

    block_list_in : (b : BlockPlaced) → Contains (unit_blocks 0 0 units) b → IsListIn r Ranges (range_list_read b)
    block_list_in b has = record { named = inl (b.unit, names.blocks b has); begins = block_place b has; read = (block_is b has).read }

    block_told : (b : BlockPlaced) → Contains (unit_blocks 0 0 units) b → IsTold r Ranges (range_list_read b)
    block_told b has =
        let one = block_is b has in
        told r Ranges (range_list_read b) (ranged_entries (block_address b) b.sizes) (ranges_from (block_address b) b.sizes) b.unit one.said (block_gives b has) one.fits one.short (names.blocks b has) (block_only b has)

    block_looked : (b : BlockPlaced) → Contains (unit_blocks 0 0 units) b → (v : ℕ) → IsNamedIn r Ranges b.at v → AreLookedUp r Ranges v (range_list_read b)
    block_looked b has =
        let one = block_is b has in
        looked r Ranges (range_list_read b) (ranged_entries (block_address b) b.sizes) (ranges_from (block_address b) b.sizes) b.unit one.said (block_gives b has) one.fits one.short (names.blocks b has) (block_only b has)

    block_expressions : (b : BlockPlaced) → Contains (unit_blocks 0 0 units) b → AreExpressionsRead r Ranges (range_list_read b)
    block_expressions b has =
        let one = block_is b has in
        expressions_read r Ranges (range_list_read b) (ranged_entries (block_address b) b.sizes) (ranges_from (block_address b) b.sizes) b.unit one.said (block_gives b has) one.fits one.short (names.blocks b has) (block_only b has) (All-nil (λ (bytes : List ℕ). (linked : List LinkedOperation) × LinksExpression r b.unit bytes linked))

    named_range : (at : ℕ) → IsNamed r Ranges at → (k : ℕ) × (k < length (range_lists_read units)) × ((list_at (range_lists_read units) k).at ≡ at)
    named_range at (inl (u, named)) =
        let (b, has, same, unit) = names.only_blocks at u named in
        let (k, inside, is) = range_list_of units b has in
        (k, inside, ap (λ (z : ListRead). z.at) is ∙ same)
    named_range at (inr (p, i, slot)) = absurd (no_slot (ranges_bytes 0 units) p i slot.0.known slot.0.counted)

    ranges_are : AreListsOf r Ranges (range_lists_read units)
    ranges_are = record {
      rising = λ j k before inside. range_lists_rise units small few j k before inside;
      each = λ k inside. let (b, has, is) = block_of_list units k inside in subst (IsListIn r Ranges) (sym is) (block_list_in b has);
      all = named_range;
      looked = λ k u inside named. let (b, has, is) = block_of_list units k inside in subst (λ (z : ListRead). IsNamedIn r Ranges z.at u → AreLookedUp r Ranges u z) (sym is) (block_looked b has u) named;
      expressions = λ k inside. let (b, has, is) = block_of_list units k inside in subst (AreExpressionsRead r Ranges) (sym is) (block_expressions b has);
      slots = λ p i known inside. absurd (no_slot (ranges_bytes 0 units) p i known inside);
    }

    -- LOCATION LISTS

    parameter_list_in : (p : ParameterPlaced) → Contains (unit_parameters 0 0 units) p → IsListIn r Locations (location_list_read p)
    parameter_list_in p has = record { named = inl (p.unit, names.parameters p has); begins = parameter_place p has; read = (parameter_is p has).read }

    parameter_told : (p : ParameterPlaced) → Contains (unit_parameters 0 0 units) p → IsTold r Locations (location_list_read p)
    parameter_told p has =
        let one = parameter_is p has in
        told r Locations (location_list_read p) (parameter_entries_read p) (parameter_bounds p) p.unit one.said (parameter_gives p has) one.fits one.short (names.parameters p has) (parameter_only p has)

    parameter_looked : (p : ParameterPlaced) → Contains (unit_parameters 0 0 units) p → (v : ℕ) → IsNamedIn r Locations (located_at p) v → AreLookedUp r Locations v (location_list_read p)
    parameter_looked p has =
        let one = parameter_is p has in
        looked r Locations (location_list_read p) (parameter_entries_read p) (parameter_bounds p) p.unit one.said (parameter_gives p has) one.fits one.short (names.parameters p has) (parameter_only p has)

    parameter_expressions : (p : ParameterPlaced) → Contains (unit_parameters 0 0 units) p → AreExpressionsRead r Locations (location_list_read p)
    parameter_expressions p has =
        let one = parameter_is p has in
        let linked = subst (All (λ (bytes : List ℕ). (linked : List LinkedOperation) × LinksExpression r p.unit bytes linked)) (sym one.expressions) (two_linked r p.unit p.parameter.register one.register) in
        expressions_read r Locations (location_list_read p) (parameter_entries_read p) (parameter_bounds p) p.unit one.said (parameter_gives p has) one.fits one.short (names.parameters p has) (parameter_only p has) linked

    named_location : (at : ℕ) → IsNamed r Locations at → (k : ℕ) × (k < length (location_lists_read units)) × ((list_at (location_lists_read units) k).at ≡ at)
    named_location at (inl (u, named)) =
        let (p, has, same, unit) = names.only_parameters at u named in
        let (k, inside, is) = location_list_of units p has in
        (k, inside, ap (λ (z : ListRead). z.at) is ∙ same)
    named_location at (inr (q, i, slot)) = absurd (no_slot (locations_bytes units) q i slot.0.known slot.0.counted)

    locations_are : AreListsOf r Locations (location_lists_read units)
    locations_are = record {
      rising = λ j k before inside. location_lists_rise units small few j k before inside;
      each = λ k inside. let (p, has, is) = parameter_of_list units k inside in subst (IsListIn r Locations) (sym is) (parameter_list_in p has);
      all = named_location;
      looked = λ k u inside named. let (p, has, is) = parameter_of_list units k inside in subst (λ (z : ListRead). IsNamedIn r Locations z.at u → AreLookedUp r Locations u z) (sym is) (parameter_looked p has u) named;
      expressions = λ k inside. let (p, has, is) = parameter_of_list units k inside in subst (AreExpressionsRead r Locations) (sym is) (parameter_expressions p has);
      slots = λ q i known inside. absurd (no_slot (locations_bytes units) q i known inside);
    }

    -- ALL LISTS

    pub lists_are : (kind : ListKind) → AreListsOf r kind (lists_of whole kind)
    lists_are Ranges = ranges_are
    lists_are Locations = locations_are

    pub lists_told : (kind : ListKind) → AreTold r kind (lists_of whole kind)
    lists_told Ranges k inside = let (b, has, is) = block_of_list units k inside in subst (IsTold r Ranges) (sym is) (block_told b has)
    lists_told Locations k inside = let (p, has, is) = parameter_of_list units k inside in subst (IsTold r Locations) (sym is) (parameter_told p has)

    -- VIEW PAIRS

    parameter_views : (p : ParameterPlaced) → Contains (unit_parameters 0 0 units) p → AreViewsOf r (location_lists_read units) (view_read p)
    parameter_views p has =
        let one = parameter_is p has in
        let (k, inside, is) = location_list_of units p has in
        record {
          named = names.views p has;
          k = k;
          inside = inside;
          at = ap (λ (z : ListRead). z.at) is;
          entries = parameter_entries_read p;
          said = subst (λ (z : ListRead). AreSaid Locations z.raws (parameter_entries_read p)) (sym is) one.said;
          counted = one.counted;
          read = subst (λ (z : ListRead). IsRunAt r.locations.section (part_at r.locations z.part) p.at view_pairs) (sym is) one.views;
        }

    pub views_are : AreViewsRead r (location_lists_read units) (views_read units)
    views_are = record {
      rising = λ j k before inside. views_rise units small few j k before inside;
      each = λ k inside. let (p, has, is) = parameter_of_view units k inside in subst (AreViewsOf r (location_lists_read units)) (sym is) (parameter_views p has);
      all = λ list at named.
          let (p, has, same_list, same) = names.only_views list at named in
          let (k, inside, is) = view_of units p has in
          (k, inside, ap (λ (z : ViewRead). z.list) is ∙ same_list, ap (λ (z : ViewRead). z.at) is ∙ same);
    }

    -- WHAT THEY MEAN

    pub block_means : (b : BlockPlaced) → Contains (unit_blocks 0 0 units) b → MeansList whole Ranges b.at (range_meaning (block_address b) b.sizes)
    block_means b has =
        let one = block_is b has in
        owned_means whole Ranges (range_list_read b) (ranged_entries (block_address b) b.sizes) (ranges_from (block_address b) b.sizes) b.unit [] one.said (block_gives b has) one.fits one.short (names.blocks b has) (block_only b has) (read_of_placed range_list_read (unit_blocks 0 0 units) b (range_list_read b) has) tt

    pub parameter_means : (p : ParameterPlaced) → Contains (unit_parameters 0 0 units) p → MeansList whole Locations (located_at p) (location_meaning (function_address p.unit p.number) p.size p.parameter)
    parameter_means p has =
        let one = parameter_is p has in
        let linked = subst (λ (z : List (List ℕ)). AllZip (LinksExpression r p.unit) z (in_register p.parameter.register ∷ is_zero ∷ [])) (sym one.expressions) (two_links r p.unit p.parameter.register one.register) in
        owned_means whole Locations (location_list_read p) (parameter_entries_read p) (parameter_bounds p) p.unit (in_register p.parameter.register ∷ is_zero ∷ []) one.said (parameter_gives p has) one.fits one.short (names.parameters p has) (parameter_only p has) (read_of_placed location_list_read (unit_parameters 0 0 units) p (location_list_read p) has) linked

  -- the view pairs of a parameter are among those that are read
  pub views_among : (p : ParameterPlaced) → Contains (unit_parameters 0 0 units) p → Contains (views_read units) (record { list = located_at p; at = p.at; pairs = view_pairs })
  views_among p has = read_of_placed view_read (unit_parameters 0 0 units) p (view_read p) has
