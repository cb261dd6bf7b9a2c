-- Codes and values that stand somewhere are read there, and each value of an entry follows its code and the values before it.
use Rattle.std.proofs.Common.{◌≡◌, ◌≤◌, ◌<◌, ◌+◌, ◌-◌, ◌^◌, ℕ, List, [], ◌∷◌, length, take, drop, sym, ap, refl, subst, arith}
use Rattle.std.specs.Prelude.{◌↔◌, ℤ, Result, Err, IsErrOf, pos}
use Rattle.std.proofs.lemmas.List.{take-append-drop, drop_more, length-take-le}
use Rattle.std.proofs.Math.Seq.{drop-length}
use Rattle.dw_base.specs.declared.fault.Kind.{Kind}
use Rattle.leb_codec.specs.declared.read.LebFault.{LebFault}
use Rattle.leb_codec.specs.declared.read.LebFault.TheVariants.{Short, Wide}
use Rattle.leb_codec.specs.declared.read.ReadU.{ReadU}
use Rattle.leb_codec.specs.Leb.{Uleb, SpellsUnsigned, IsShort, IsWideUnsigned}
use Rattle.leb_codec.proofs.Fronts.{unique_u, leb_not_short, uleb_not_wide}
use Rattle.form_codec.specs.declared.value.Value.{Value}
use Rattle.form_codec.specs.declared.value.ReadValue.{ReadValue}
use Rattle.form_codec.specs.Forms.{Meaning, SpellsValue}
use Rattle.form_codec.specs.Faults.{FaultValue}
use Rattle.form_codec.specs.Values.{meant_in, IsReadValue}
use Rattle.form_codec.proofs.Shapes.{value_once}
use Rattle.form_codec.proofs.ShapeFaults.{value_whole}
use Rattle.abbrev_tables.specs.declared.decl.Spec.{Spec}
use Rattle.abbrev_tables.specs.Tables.{Declared}
use Rattle.abbrev_tables.specs.Listings.{spec_at}
use Rattle.entry_arena.specs.declared.entry.Entry.{Entry}
use Rattle.entry_arena.specs.Arena.{Arena, entry_at}
use Rattle.entry_arena.specs.Standing.{StandsAs}
use Rattle.entry_arena.specs.Trees.{bytes_between, declared_at, SpellsBetween, ValuesBetween}
use Rattle.entry_arena.proofs.Between.{between_split, spells_once}
use Rattle.entry_arena.proofs.StepLaws.{values_front}
use Rattle.entry_read.specs.declared.head.UnitHead.{UnitHead}
use Rattle.entry_read.specs.Units.{IsUnitHeld}
use Rattle.entry_read.specs.Places.{StandsAtColumn, HaveOwners}
use Rattle.entry_read.proofs.OwnerLaws.{values_belong}
use Rattle.entry_read.proofs.PlaceLaws.{entry_stands}

-- the code that was read is the one that stands there
pub code_ends : (info : List ℕ) (at end value : ℕ) → at ≤ end → end ≤ length info → SpellsUnsigned (take (end - at) (drop at info)) value → value < 2 ^ 64 → (code to : ℕ) → SpellsBetween (Uleb code) info at to → end ≡ to
code_ends info at end value order inside read fits code to stands = (spells_once Uleb unique_u info value code at end to (record { order = order; inside = inside; spelled = (read, fits) }) stands).0

-- and there is one to be read
code_not_short : (info : List ℕ) (code at to : ℕ) → SpellsBetween (Uleb code) info at to → IsShort (drop at info) → ⊥
code_not_short info code at to p short =
    leb_not_short (bytes_between info at to) (drop (to - at) (drop at info)) p.spelled.0.0 (subst IsShort (sym (take-append-drop (to - at) (drop at info))) short)

code_not_wide : (info : List ℕ) (code at to : ℕ) → SpellsBetween (Uleb code) info at to → IsWideUnsigned (drop at info) → ⊥
code_not_wide info code at to p wide =
    uleb_not_wide code (bytes_between info at to) (drop (to - at) (drop at info)) p.spelled (subst IsWideUnsigned (sym (take-append-drop (to - at) (drop at info))) wide)

abbrev failed : LebFault → Result ReadU LebFault
failed e = Err e

pub code_found : (info : List ℕ) (code at to : ℕ) → SpellsBetween (Uleb code) info at to → (e : LebFault) → (IsErrOf (failed e) Short ↔ IsShort (drop at info)) → (IsErrOf (failed e) Wide ↔ IsWideUnsigned (drop at info)) → ⊥
code_found info code at to p Short short wide = code_not_short info code at to p (short.0 refl)
code_found info code at to p Wide short wide = code_not_wide info code at to p (wide.0 refl)

-- the value that was read ends where the one does that stands there
pub value_ends : (info : List ℕ) (name code : ℕ) (constant : ℤ) (at : ℕ) (r : ReadValue) → IsReadValue name code constant info at (length info) r → (meaning : Meaning) (to : ℕ) → SpellsBetween (SpellsValue name code constant meaning) info at to → r.end ≡ to
value_ends info name code constant at r read meaning to stands =
    (spells_once (SpellsValue name code constant) (value_once name code constant) info (meant_in info r.value) meaning at r.end to (record { order = read.starts; inside = read.inside; spelled = read.spelled }) stands).0

pub value_found : (info : List ℕ) (name code : ℕ) (constant : ℤ) (meaning : Meaning) (at to : ℕ) (kind : Kind) → SpellsBetween (SpellsValue name code constant meaning) info at to → FaultValue name code constant kind (take (length info - at) (drop at info)) → ⊥
value_found info name code constant meaning at to kind p fault =
    value_whole name code constant kind meaning (bytes_between info at to) (bytes_between info to (length info)) p.spelled (subst (λ (z : List ℕ). FaultValue name code constant kind z) (between_split info at to (length info) p.order p.inside) fault)

-- the first of values of columns
record HasFirst (info : List ℕ) (c : Spec) (cs : List Spec) (at to : ℕ) : Type 0 where
  value : Value
  next : ℕ
  spelled : SpellsBetween (SpellsValue c.name c.form c.constant (meant_in info value)) info at next
  rest : List Value
  valued : ValuesBetween info cs rest next to

first_of_values : (info : List ℕ) (c : Spec) (cs : List Spec) (values : List Value) (at to : ℕ) → ValuesBetween info (c ∷ cs) values at to → HasFirst info c cs at to
first_of_values info c cs [] at to none = absurd none
first_of_values info c cs (v ∷ vs) at to (next, spelled, placed, rest) = record { value = v; next = next; spelled = spelled; rest = vs; valued = rest }

-- wherever values of all columns stand from a place on, those of the columns from a number on stand from another place on
abbrev pub StandsOn : List ℕ → List Spec → ℕ → ℕ → ℕ → Type 0
StandsOn info columns from i at = (values : List Value) (to : ℕ) → ValuesBetween info columns values from to → (rest : List Value) × ValuesBetween info (drop i columns) rest at to

first_there : (info : List ℕ) (columns : List Spec) (i at to : ℕ) (rest : List Value) → i < length columns → ValuesBetween info (drop i columns) rest at to → HasFirst info (spec_at columns i) (drop (i + 1) columns) at to
first_there info columns i at to rest inside valued =
    let more : drop i columns ≡ spec_at columns i ∷ drop (i + 1) columns = drop_more columns i (record { name = 0; form = 0; constant = pos 0 }) inside in
    first_of_values info (spec_at columns i) (drop (i + 1) columns) rest at to (subst (λ (z : List Spec). ValuesBetween info z rest at to) more valued)

pub value_there : (info : List ℕ) (columns : List Spec) (from i at : ℕ) → i < length columns → StandsOn info columns from i at → (values : List Value) × (to : ℕ) × ValuesBetween info columns values from to → (meaning : Meaning) × (next : ℕ) × SpellsBetween (SpellsValue (spec_at columns i).name (spec_at columns i).form (spec_at columns i).constant meaning) info at next
value_there info columns from i at inside on (values, to, valued) =
    let there = on values to valued in
    let f = first_there info columns i at to there.0 inside there.1 in
    (meant_in info f.value, f.next, f.spelled)

pub stands_past : (info : List ℕ) (columns : List Spec) (from i at end : ℕ) → i < length columns → StandsOn info columns from i at → ((meaning : Meaning) (next : ℕ) → SpellsBetween (SpellsValue (spec_at columns i).name (spec_at columns i).form (spec_at columns i).constant meaning) info at next → end ≡ next) → StandsOn info columns from (i + 1) end
stands_past info columns from i at end inside on ends values to valued =
    let there = on values to valued in
    let f = first_there info columns i at to there.0 inside there.1 in
    (f.rest, subst (λ (z : ℕ). ValuesBetween info (drop (i + 1) columns) f.rest z to) (sym (ends (meant_in info f.value) f.next f.spelled)) f.valued)

ended : (info : List ℕ) (rest : List Value) (at to : ℕ) → ValuesBetween info [] rest at to → at ≡ to
ended info [] at to same = same
ended info (v ∷ vs) at to none = absurd none

pub stands_to : (info : List ℕ) (columns : List Spec) (from at : ℕ) → StandsOn info columns from (length columns) at → (values : List Value) (to : ℕ) → ValuesBetween info columns values from to → at ≡ to
stands_to info columns from at on values to valued =
    let there = on values to valued in
    ended info there.0 at to (subst (λ (z : List Spec). ValuesBetween info z there.0 at to) (drop-length columns) there.1)

-- the same values, by other names of the same
values_moved : (info section : List ℕ) (columns cs : List Spec) (from at column : ℕ) (values : List Value) (to : ℕ) → info ≡ section → columns ≡ cs → from ≡ at → ValuesBetween section (take column cs) values at to → ValuesBetween info (take column columns) values from to
values_moved info section columns cs from at column values to same_info same_columns same_place valued =
    let moved = subst (λ (z : ℕ). ValuesBetween section (take column cs) values z to) (sym same_place) valued in
    let named = subst (λ (z : List Spec). ValuesBetween section (take column z) values from to) (sym same_columns) moved in
    subst (λ (z : List ℕ). ValuesBetween z (take column columns) values from to) (sym same_info) named

-- an entry of a unit that is held, as it was taken from there, and the section and the columns of its declaration likewise
module _ (head : UnitHead) (ds : List Declared) (f : Arena) (held : IsUnitHeld f.section head ds f) (id : ℕ) (inside : id < length f.entries) (e : Entry) (same_entry : e ≡ entry_at f.entries id) where
  owners : HaveOwners ds f
  owners = values_belong f.section head ds f refl held

  stands : StandsAs f.section ds f.values e
  stands = subst (StandsAs f.section ds f.values) (sym same_entry) (entry_stands f.section head ds f refl held id inside)

  pub declared_there : e.decl < length ds
  declared_there = subst (λ (z : Entry). z.decl < length ds) (sym same_entry) (owners.declared id inside)

  module _ (info : List ℕ) (same_info : info ≡ f.section) where
    coded : SpellsBetween (Uleb ((declared_at ds e.decl).code)) info e.at stands.values_at
    coded = subst (λ (z : List ℕ). SpellsBetween (Uleb ((declared_at ds e.decl).code)) z e.at stands.values_at) (sym same_info) stands.coded

    pub code_there : (code : ℕ) × (to : ℕ) × SpellsBetween (Uleb code) info e.at to
    code_there = ((declared_at ds e.decl).code, stands.values_at, coded)

    module _ (columns : List Spec) (same_columns : columns ≡ (declared_at ds e.decl).columns) (column : ℕ) (below : column < (entry_at f.entries id).count) where
      pub columns_there : column ≡ length (take column columns)
      columns_there =
          let counted : e.count ≡ length (declared_at ds e.decl).columns = subst (λ (z : Entry). z.count ≡ length (declared_at ds z.decl).columns) (sym same_entry) (owners.counted id inside) in
          let same_count : e.count ≡ (entry_at f.entries id).count = ap (λ z. z.count) same_entry in
          let size : length columns ≡ length (declared_at ds e.decl).columns = ap length same_columns in
          sym (length-take-le column columns (omega arith))

      own : List Value
      own = take column (take e.count (drop e.first f.values))

      front : (mid : ℕ) × ValuesBetween f.section (take column (declared_at ds e.decl).columns) own stands.values_at mid
      unfolding own
      front = values_front f.section (declared_at ds e.decl).columns (take e.count (drop e.first f.values)) stands.values_at (e.at + e.len) column stands.valued

      module _ (from : ℕ) (ends : (code to : ℕ) → SpellsBetween (Uleb code) info e.at to → from ≡ to) where
        valued : ValuesBetween info (take column columns) own from front.0
        valued = values_moved info f.section columns (declared_at ds e.decl).columns from stands.values_at column own front.0 same_info same_columns (ends (declared_at ds e.decl).code stands.values_at coded) front.1

        pub values_there : (values : List Value) × (to : ℕ) × ValuesBetween info (take column columns) values from to
        values_there = (own, front.0, valued)

        pub column_there : (place : ℕ) → ((values : List Value) (to : ℕ) → ValuesBetween info (take column columns) values from to → place ≡ to) → StandsAtColumn f.section ds f.values (entry_at f.entries id) column place
        unfolding own
        column_there place reached =
            let placed = subst (λ (z : ℕ). ValuesBetween f.section (take column (declared_at ds e.decl).columns) own stands.values_at z) (sym (reached own front.0 valued)) front.1 in
            subst (λ (z : Entry). StandsAtColumn f.section ds f.values z column place) same_entry (record { values_at = stands.values_at; coded = stands.coded; valued = placed })
