-- The numbers of a unit's entries with a byte too many: those of each entry, and codes 0.
use Rattle.std.proofs.Common.{◌≡◌, ◌≤◌, ◌<◌, ◌+◌, ◌++◌, ◌∙◌, ◌⊎◌, inl, inr, ℕ, List, [], ◌∷◌, length, take, drop, sym, ap, subst, refl, arith}
use Rattle.std.specs.Prelude.{◌↔◌, pos, Bool, Option, Some, IsTrue}
use Rattle.std.specs.Bool.{then_some}
use Rattle.std.proofs.Math.Seq.{get_or-append_seam, take-append_seam}
use Rattle.std.proofs.lemmas.List.{get_or_read, length-append, take-append-drop, drop_more}
use Rattle.std.proofs.lemmas.List.Elements.{Contains-get_or}
use Rattle.leb_codec.specs.Leb.{Uleb}
use Rattle.leb_codec.proofs.Fronts.{unique_u}
use Rattle.form_codec.specs.declared.value.Value.{Value}
use Rattle.form_codec.specs.declared.value.Value.TheVariants as value
use Rattle.form_codec.specs.Values.{meant_in}
use Rattle.abbrev_tables.specs.declared.decl.Spec.{Spec}
use Rattle.abbrev_tables.specs.Tables.{Declared}
use Rattle.abbrev_tables.specs.Listings.{spec_at}
use Rattle.entry_arena.specs.declared.entry.ChainEnd.{ChainEnd}
use Rattle.entry_arena.specs.declared.entry.Entry.{Entry}
use Rattle.entry_arena.specs.Arena.{Arena, chain_end_at, value_at}
use Rattle.entry_arena.specs.Standing.{StandsAs}
use Rattle.entry_arena.specs.Trees.{SpellsBetween, ValuesBetween, declared_at, listed_to}
use Rattle.entry_arena.specs.Walks.{IsWhole}
use Rattle.entry_arena.proofs.Between.{values_once, spells_once}
use Rattle.entry_arena.proofs.FrontLaws.{comes_to_end}
use Rattle.entry_arena.proofs.StepLaws.{values_front}
use Rattle.entry_arena.proofs.TreeLaws.{trees_are_walks}
use Rattle.entry_read.specs.declared.head.UnitHead.{UnitHead}
use Rattle.entry_read.specs.Places.{HaveOwners}
use Rattle.entry_read.specs.Units.{entries_at, IsUnitHeld}
use Rattle.entry_read.proofs.OwnerLaws.{values_belong}
use Rattle.entry_read.proofs.PlaceLaws.{entry_stands}
use Rattle.value_links.specs.Reading.{UnitRead, declarations}
use Rattle.value_links.specs.Values.{entry_of, declaration_of, values_of}
use Rattle.value_links.proofs.Causes.{own_count}
use Rattle.tidy_places.specs.Firsts.{IsLeastFound}
use Rattle.tidy_numbers.specs.Fronts.{BeginsLong}
use Rattle.tidy_numbers.specs.LongUnits.{BeginsLongValue, IsLongValue, IsLongInUnit}
use Rattle.tidy_numbers.specs.inside.LongEntries.{IsEntryWith, IsLongColumnValue, IsLongInEntry, IsLongInEntryOf, IsLongEndAt}
use Rattle.tidy_numbers.proofs.EarlierPlaces.{least_same, least_of_both, least_of_more, least_if}
use Rattle.tidy_numbers.proofs.EntryNumbers.{begins}

abbrev no_spec : Spec
no_spec = record { name = 0; form = 0; constant = pos 0 }

abbrev no_end : ChainEnd
no_end = record { entry = 0; at = 0 }

-- codes 0 stand where chains end
pub end_stands : (info : List ℕ) (head : UnitHead) (ds : List Declared) (f : Arena) → IsUnitHeld info head ds f → (k : ℕ) → k < length f.ends → (to : ℕ) × SpellsBetween (Uleb 0) info (chain_end_at f.ends k).at to
end_stands info head ds f (end, unit) k inside =
    let whole : IsWhole info ds (entries_at head) (listed_to f end) = (trees_are_walks info ds (entries_at head) (listed_to f end)).0 unit.tree in
    let come = comes_to_end info ds (entries_at head) whole.items (listed_to f end) [] whole.walked k inside in
    (come.mid.place, subst (λ (z : ℕ). SpellsBetween (Uleb 0) info z come.mid.place) (sym (ap (λ (e : ChainEnd). e.at) come.here)) come.adds.coded)

module _ (unit : UnitRead) (held : IsUnitHeld unit.forest.section unit.head (declarations unit) unit.forest) where
  owned : HaveOwners (declarations unit) unit.forest
  owned = values_belong unit.forest.section unit.head (declarations unit) unit.forest refl held

  module _ (id : ℕ) (known : id < length unit.forest.entries) where
    stands : StandsAs unit.forest.section (declarations unit) unit.forest.values (entry_of unit id)
    stands = entry_stands unit.forest.section unit.head (declarations unit) unit.forest refl held id known

    pub entry_there : IsEntryWith unit.forest.section (declaration_of unit id).columns (entry_of unit id).at
    entry_there = record { code = (declaration_of unit id).code; values_at = stands.values_at; coded = stands.coded; values = values_of unit id; to = (entry_of unit id).at + (entry_of unit id).len; valued = stands.valued }

    pub declared : (entry_of unit id).decl < length (declarations unit)
    declared = owned.declared id known

    -- the value of a column that stands behind the code
    module _ (code from k p : ℕ) (coded : SpellsBetween (Uleb code) unit.forest.section (entry_of unit id).at from) (long : IsLongColumnValue unit.forest.section (declaration_of unit id).columns from k p) where
      same_start : from ≡ stands.values_at
      same_start = (spells_once Uleb unique_u unit.forest.section code (declaration_of unit id).code (entry_of unit id).at from stands.values_at coded stands.coded).0

      valued : ValuesBetween unit.forest.section (take k (declaration_of unit id).columns) (take k (values_of unit id)) stands.values_at p
      valued =
          let columns : List Spec = take k (declaration_of unit id).columns in
          let (mid, front) = values_front unit.forest.section (declaration_of unit id).columns (values_of unit id) stands.values_at ((entry_of unit id).at + (entry_of unit id).len) k stands.valued in
          let here = subst (λ (z : ℕ). ValuesBetween unit.forest.section columns long.values z p) same_start long.valued in
          let one : mid ≡ p = (values_once unit.forest.section columns (take k (values_of unit id)) long.values stands.values_at mid p front here).0 in
          subst (λ (z : ℕ). ValuesBetween unit.forest.section columns (take k (values_of unit id)) stands.values_at z) one front

      value_long : IsLongValue unit p
      value_long =
          let columns : List Spec = (declaration_of unit id).columns in
          let values : List Value = values_of unit id in
          let inside : k < length columns = long.known in
          let counted : (entry_of unit id).count ≡ length columns = owned.counted id known in
          let size : length values ≡ (entry_of unit id).count = own_count unit.forest.values (entry_of unit id).first (entry_of unit id).count (owned.inside id known) in
          let there : k < length values = omega arith in
          record {
            id = id;
            number = (entry_of unit id).first + length (take k values);
            name = (spec_at columns k).name;
            meaning = meant_in unit.forest.section (value_at values k);
            stands = record {
              known = known;
              earlier_columns = take k columns;
              column = spec_at columns k;
              later_columns = drop (k + 1) columns;
              columns = sym (take-append-drop k columns) ∙ ap (λ z. take k columns ++ z) (drop_more columns k no_spec inside);
              earlier = take k values;
              value = value_at values k;
              later = drop (k + 1) values;
              values = sym (take-append-drop k values) ∙ ap (λ z. take k values ++ z) (drop_more values k (value.Addr 0) there);
              numbered = refl;
              values_at = stands.values_at;
              coded = stands.coded;
              valued = valued;
              named = refl;
              meant = refl;
            };
            long = long.long;
          }

  -- a value of an attribute is that of a column
  of_column : (p : ℕ) → (l : IsLongValue unit p) → IsLongInEntryOf unit l.id p
  of_column p l =
      let h = l.stands in
      let columns : List Spec = (declaration_of unit l.id).columns in
      let k : ℕ = length h.earlier_columns in
      let whole : length columns ≡ length (h.earlier_columns ++ h.column ∷ h.later_columns) = ap (λ (z : List Spec). length z) h.columns in
      let sum : length (h.earlier_columns ++ h.column ∷ h.later_columns) ≡ length h.earlier_columns + length (h.column ∷ h.later_columns) = length-append h.earlier_columns (h.column ∷ h.later_columns) in
      let inside : k < length columns = omega arith in
      let front : take k columns ≡ h.earlier_columns = ap (take k) h.columns ∙ take-append_seam h.earlier_columns (h.column ∷ h.later_columns) in
      let column : spec_at columns k ≡ h.column = ap (λ z. spec_at z k) h.columns ∙ get_or-append_seam h.earlier_columns h.column h.later_columns no_spec in
      let long : IsLongColumnValue unit.forest.section columns h.values_at k p = record {
        known = inside;
        values = h.earlier;
        valued = subst (λ (z : List Spec). ValuesBetween unit.forest.section z h.earlier h.values_at p) (sym front) h.valued;
        long = subst (λ (z : Spec). BeginsLongValue z (drop p unit.forest.section)) (sym column) l.long;
      } in
      inr ((declaration_of unit l.id).code, h.values_at, h.coded, (k, inside, long))

  -- WHAT IS LOOKED AT

  abbrev pub InEntries : ℕ → Type 0
  InEntries p = (id : ℕ) × (id < length unit.forest.entries) × IsLongInEntryOf unit id p

  abbrev pub InEnds : ℕ → Type 0
  InEnds p = (k : ℕ) × (k < length unit.forest.ends) × IsLongEndAt unit.forest.section unit.forest.ends k p

  to_unit : (p : ℕ) → InEntries p ⊎ InEnds p → IsLongInUnit unit p
  to_unit p (inl (id, known, inl (long, same))) = inl (id, known, long, same)
  to_unit p (inl (id, known, inr (code, from, coded, (k, below, long)))) = inr (inr (value_long id known code from k p coded long))
  to_unit p (inr (k, inside, (long, same))) = inr (inl (chain_end_at unit.forest.ends k, Contains-get_or unit.forest.ends k no_end inside, long, same))

  from_unit : (p : ℕ) → IsLongInUnit unit p → InEntries p ⊎ InEnds p
  from_unit p (inl (id, known, long, same)) = inl (id, known, inl (long, same))
  from_unit p (inr (inl (end, (k, inside, is), long, same))) = inr (k, inside, (long, same ∙ ap (λ (e : ChainEnd). e.at) (get_or_read unit.forest.ends k end inside (sym is) no_end)))
  from_unit p (inr (inr long)) = inl (long.id, long.stands.known, of_column p long)

  pub unit_looked : (entries ends found : Option ℕ) → IsLeastFound InEntries entries → IsLeastFound InEnds ends → IsLeastFound (λ p. (entries ≡ Some p) ⊎ (ends ≡ Some p)) found → IsLeastFound (IsLongInUnit unit) found
  unit_looked entries ends found first second earlier =
      least_same (λ p. InEntries p ⊎ InEnds p) (IsLongInUnit unit) to_unit from_unit found (least_of_both InEntries InEnds entries ends found first second earlier)

-- an entry of a unit, and the section and the columns of its declaration, as they were taken from what is held
module _ (unit : UnitRead) (held : IsUnitHeld unit.forest.section unit.head (declarations unit) unit.forest) (id : ℕ) (known : id < length unit.forest.entries) (entry : Entry) (same_entry : entry ≡ entry_of unit id) where
  pub decl_there : entry.decl < length (declarations unit)
  decl_there = subst (λ (z : Entry). z.decl < length (declarations unit)) (sym same_entry) (declared unit held id known)

  module _ (info : List ℕ) (same_info : info ≡ unit.forest.section) (columns : List Spec) (same_columns : columns ≡ (declared_at (declarations unit) entry.decl).columns) where
    columns_are : columns ≡ (declaration_of unit id).columns
    columns_are = same_columns ∙ ap (λ (z : Entry). (declared_at (declarations unit) z.decl).columns) same_entry

    moved : (P : List ℕ → List Spec → ℕ → Type 0) → P unit.forest.section (declaration_of unit id).columns (entry_of unit id).at → P info columns entry.at
    moved P there = subst (λ (z : List ℕ). P z columns entry.at) (sym same_info) (subst (λ (z : List Spec). P unit.forest.section z entry.at) (sym columns_are) (subst (λ (z : Entry). P unit.forest.section (declaration_of unit id).columns z.at) (sym same_entry) there))

    back : (P : List ℕ → List Spec → ℕ → Type 0) → P info columns entry.at → P unit.forest.section (declaration_of unit id).columns (entry_of unit id).at
    back P there = subst (λ (z : Entry). P unit.forest.section (declaration_of unit id).columns z.at) same_entry (subst (λ (z : List Spec). P unit.forest.section z entry.at) columns_are (subst (λ (z : List ℕ). P z columns entry.at) same_info there))

    pub entry_held_there : IsEntryWith info columns entry.at
    entry_held_there = moved IsEntryWith (entry_there unit held id known)

    pub entry_more : (first here found : Option ℕ) → IsLeastFound (λ p. (k : ℕ) × (k < id) × IsLongInEntryOf unit k p) first → IsLeastFound (IsLongInEntry info columns entry.at) here → IsLeastFound (λ p. (first ≡ Some p) ⊎ (here ≡ Some p)) found → IsLeastFound (λ p. (k : ℕ) × (k < id + 1) × IsLongInEntryOf unit k p) found
    entry_more first here found before least earlier =
        least_of_more (IsLongInEntryOf unit) id first here found before (back (λ (z : List ℕ) (cs : List Spec) (at : ℕ). IsLeastFound (IsLongInEntry z cs at) here) least) earlier

-- codes 0 that stand where chains end
module _ (info : List ℕ) (ends : List ChainEnd) (stand : (k : ℕ) → k < length ends → (to : ℕ) × SpellsBetween (Uleb 0) info (chain_end_at ends k).at to) (k : ℕ) (inside : k < length ends) where
  pub end_inside : (chain_end_at ends k).at ≤ length info
  end_inside = let (to, spelled) = stand k inside in let order = spelled.order in let within = spelled.inside in omega arith

  pub end_begins : (n : ℕ) × (first : List ℕ) × (rest : List ℕ) × Uleb n first × (drop (chain_end_at ends k).at info ≡ first ++ rest)
  end_begins =
      let (to, spelled) = stand k inside in
      let (first, rest, coded, whole) = begins (Uleb 0) info (chain_end_at ends k).at to spelled in
      (0, first, rest, coded, whole)

  pub end_more : (long : Bool) (first here found : Option ℕ) → (IsTrue long ↔ BeginsLong (drop (chain_end_at ends k).at info)) → here ≡ then_some long (chain_end_at ends k).at → IsLeastFound (λ p. (j : ℕ) × (j < k) × IsLongEndAt info ends j p) first → IsLeastFound (λ p. (first ≡ Some p) ⊎ (here ≡ Some p)) found → IsLeastFound (λ p. (j : ℕ) × (j < k + 1) × IsLongEndAt info ends j p) found
  end_more long first here found decides is before earlier =
      least_of_more (IsLongEndAt info ends) k first here found before (least_if (λ p. BeginsLong (drop p info)) long (chain_end_at ends k).at here decides is) earlier

-- the ends of a unit's chains, as they were taken from what is held
pub ends_there : (unit : UnitRead) → IsUnitHeld unit.forest.section unit.head (declarations unit) unit.forest → (forest : Arena) → forest ≡ unit.forest → (info : List ℕ) → info ≡ forest.section → (ends : List ChainEnd) → ends ≡ forest.ends → (k : ℕ) → k < length ends → (to : ℕ) × SpellsBetween (Uleb 0) info (chain_end_at ends k).at to
ends_there unit held forest same info same_info ends same_ends =
    let section : info ≡ unit.forest.section = same_info ∙ ap (λ (f : Arena). f.section) same in
    let chain : ends ≡ unit.forest.ends = same_ends ∙ ap (λ (f : Arena). f.ends) same in
    subst (λ (z : List ChainEnd). (k : ℕ) → k < length z → (to : ℕ) × SpellsBetween (Uleb 0) info (chain_end_at z k).at to) (sym chain)
    (subst (λ (z : List ℕ). (k : ℕ) → k < length unit.forest.ends → (to : ℕ) × SpellsBetween (Uleb 0) z (chain_end_at unit.forest.ends k).at to) (sym section) (end_stands unit.forest.section unit.head (declarations unit) unit.forest held))

pub ends_looked : (unit : UnitRead) (forest : Arena) → forest ≡ unit.forest → (info : List ℕ) → info ≡ forest.section → (ends : List ChainEnd) → ends ≡ forest.ends → (found : Option ℕ) → IsLeastFound (λ p. (k : ℕ) × (k < length ends) × IsLongEndAt info ends k p) found → IsLeastFound (λ p. (k : ℕ) × (k < length unit.forest.ends) × IsLongEndAt unit.forest.section unit.forest.ends k p) found
ends_looked unit forest same info same_info ends same_ends found least =
    let section : info ≡ unit.forest.section = same_info ∙ ap (λ (f : Arena). f.section) same in
    let chain : ends ≡ unit.forest.ends = same_ends ∙ ap (λ (f : Arena). f.ends) same in
    subst (λ (z : List ℕ). IsLeastFound (λ p. (k : ℕ) × (k < length unit.forest.ends) × IsLongEndAt z unit.forest.ends k p) found) section
    (subst (λ (z : List ChainEnd). IsLeastFound (λ p. (k : ℕ) × (k < length z) × IsLongEndAt info z k p) found) chain least)
