-- Where a walk goes on there is no fault.
use Rattle.std.proofs.Common.{◌≡◌, ◌≢◌, ◌≤◌, ◌<◌, ◌+◌, ◌-◌, ℕ, List, [], ◌∷◌, ◌++◌, length, ◌∙◌, sym, ap, subst, arith, inl, inr, zero, suc, take, refl}
use Rattle.std.proofs.lemmas.List.{length-append}
use Rattle.dw_base.specs.declared.fault.Kind.{Kind}
use Rattle.leb_codec.specs.Leb.{Uleb, IsShort, IsWideUnsigned}
use Rattle.leb_codec.proofs.Fronts.{unique_u, leb_not_short, uleb_not_wide}
use Rattle.form_codec.specs.declared.value.Value.{Value}
use Rattle.form_codec.specs.Forms.{SpellsValue}
use Rattle.form_codec.specs.Values.{meant_in}
use Rattle.form_codec.specs.Faults.{FaultValue}
use Rattle.form_codec.proofs.Shapes.{value_once}
use Rattle.form_codec.proofs.ShapeFaults.{value_whole}
use Rattle.abbrev_tables.specs.declared.decl.Spec.{Spec}
use Rattle.abbrev_tables.specs.Tables.{Declared}
use Rattle.entry_arena.specs.Trees.{declared_at, bytes_between, Listed, nothing_from, SpellsBetween, ValuesBetween, AddsEntry, AddsEnd, IsForest}
use Rattle.entry_arena.specs.Walks.{Item, opened, IsGoing, Walks}
use Rattle.entry_arena.specs.Walks.Item.{AnEntry, AnEnd}
use Rattle.entry_arena.specs.ForestLaws.{HaveCodes, StepsWithin, HasNoFault, Rises}
use Rattle.entry_arena.proofs.Between.{length_between, between_split, spells_once}
use Rattle.entry_arena.proofs.TreeLaws.{entry_grows, some_listed, cons_filled}
use Rattle.entry_arena.proofs.WalkLaws.{same_number, entry_not_zero}

-- a code has a byte
pub code_rises : (section : List ℕ) (code from to : ℕ) → SpellsBetween (Uleb code) section from to → from < to
code_rises section code from to p =
    let some : 0 < length (bytes_between section from to) = p.spelled.0.0.filled in
    let size : length (bytes_between section from to) ≡ to - from = length_between section from to p.inside in
    omega arith

-- values of columns stand one behind the other
pub values_rise : (section : List ℕ) (columns : List Spec) (vs : List Value) (from to : ℕ) → ValuesBetween section columns vs from to → from ≤ to
values_rise section [] [] from to same = omega arith
values_rise section [] (v ∷ vs) from to none = absurd none
values_rise section (c ∷ cs) [] from to none = absurd none
values_rise section (c ∷ cs) (v ∷ vs) from to (next, spelled, placed, more) =
    let first : from ≤ next = spelled.order in
    let rest : next ≤ to = values_rise section cs vs next to more in
    omega arith

-- they end in the section
pub values_inside : (section : List ℕ) (columns : List Spec) (values : List Value) (from to : ℕ) → from ≤ length section → ValuesBetween section columns values from to → to ≤ length section
values_inside section [] [] from to inside same = omega arith
values_inside section [] (v ∷ vs) from to inside none = absurd none
values_inside section (c ∷ cs) [] from to inside none = absurd none
values_inside section (c ∷ cs) (v ∷ vs) from to inside (next, spelled, placed, more) = values_inside section cs vs next to spelled.inside more

-- there are as many as columns
pub values_counted : (section : List ℕ) (columns : List Spec) (values : List Value) (from to : ℕ) → ValuesBetween section columns values from to → length values ≡ length columns
values_counted section [] [] from to same = omega arith
values_counted section [] (v ∷ vs) from to none = absurd none
values_counted section (c ∷ cs) [] from to none = absurd none
values_counted section (c ∷ cs) (v ∷ vs) from to (next, spelled, placed, more) = let later : length vs ≡ length cs = values_counted section cs vs next to more in omega arith

-- and the first of them end somewhere
pub values_front : (section : List ℕ) (columns : List Spec) (values : List Value) (from to k : ℕ) → ValuesBetween section columns values from to → (mid : ℕ) × ValuesBetween section (take k columns) (take k values) from mid
values_front section columns values from to zero valued = (from, refl)
values_front section [] [] from to (suc k) same = (from, refl)
values_front section [] (v ∷ vs) from to (suc k) none = absurd none
values_front section (c ∷ cs) [] from to (suc k) none = absurd none
values_front section (c ∷ cs) (v ∷ vs) from to (suc k) (next, spelled, placed, more) =
    let front = values_front section cs vs next to k more in
    (front.0, (next, spelled, placed, front.1))

-- bytes that begin with a column's value have no fault there
column_whole : (section : List ℕ) (c : Spec) (v : Value) (kind : Kind) (from next to : ℕ) → SpellsBetween (SpellsValue c.name c.form c.constant (meant_in section v)) section from next → next ≤ to → FaultValue c.name c.form c.constant kind (bytes_between section from to) → ⊥
column_whole section c v kind from next to p inside fault =
    value_whole c.name c.form c.constant kind (meant_in section v) (bytes_between section from next) (bytes_between section next to) p.spelled (subst (λ (z : List ℕ). FaultValue c.name c.form c.constant kind z) (between_split section from next to p.order inside) fault)

-- nor do those that begin with the values of all columns
columns_whole : (section : List ℕ) (before : List Spec) (c : Spec) (after : List Spec) (vs ws : List Value) (kind : Kind) (from at end to : ℕ) → ValuesBetween section (before ++ c ∷ after) vs from end → end ≤ to → ValuesBetween section before ws from at → FaultValue c.name c.form c.constant kind (bytes_between section at to) → ⊥
columns_whole section [] c after [] ws kind from at end to none inside there fault = none
columns_whole section [] c after (v ∷ vs) [] kind from at end to (next, spelled, placed, more) inside there fault =
    let rest : next ≤ end = values_rise section after vs next end more in
    column_whole section c v kind from next to spelled (omega arith) (subst (λ (z : ℕ). FaultValue c.name c.form c.constant kind (bytes_between section z to)) (sym there) fault)
columns_whole section [] c after (v ∷ vs) (w ∷ ws) kind from at end to valued inside there fault = there
columns_whole section (b ∷ before) c after [] ws kind from at end to none inside there fault = none
columns_whole section (b ∷ before) c after (v ∷ vs) [] kind from at end to valued inside there fault = there
columns_whole section (b ∷ before) c after (v ∷ vs) (w ∷ ws) kind from at end to (next, spelled, placed, more) inside (next2, also, put, others) fault =
    let same : next2 ≡ next = (spells_once (SpellsValue b.name b.form b.constant) (value_once b.name b.form b.constant) section (meant_in section w) (meant_in section v) from next2 next also spelled).0 in
    columns_whole section before c after vs ws kind next at end to more inside (subst (λ (z : ℕ). ValuesBetween section before ws z at) same others) fault

-- bytes that begin with a code aren't those of a cut or wide one
code_not_short : (section : List ℕ) (code from at to : ℕ) → SpellsBetween (Uleb code) section from at → at ≤ to → IsShort (bytes_between section from to) → ⊥
code_not_short section code from at to p inside short =
    leb_not_short (bytes_between section from at) (bytes_between section at to) p.spelled.0.0 (subst IsShort (between_split section from at to p.order inside) short)

code_not_wide : (section : List ℕ) (code from at to : ℕ) → SpellsBetween (Uleb code) section from at → at ≤ to → IsWideUnsigned (bytes_between section from to) → ⊥
code_not_wide section code from at to p inside wide =
    uleb_not_wide code (bytes_between section from at) (bytes_between section at to) p.spelled (subst IsWideUnsigned (between_split section from at to p.order inside) wide)

codes_same : (section : List ℕ) (code other from a b : ℕ) → SpellsBetween (Uleb code) section from a → SpellsBetween (Uleb other) section from b → code ≡ other
codes_same section code other from a b p q = (spells_once Uleb unique_u section code other from a b p q).1

module _ (section : List ℕ) (ds : List Declared) where
  pub entry_rises : (depth number : ℕ) (old new : Listed) → AddsEntry section ds depth number old new → old.place < new.place
  entry_rises depth number old new adds =
      let code : old.place < adds.values_at = code_rises section ((declared_at ds number).code) old.place adds.values_at adds.coded in
      let rest : adds.values_at ≤ new.place = values_rise section ((declared_at ds number).columns) adds.values adds.values_at new.place adds.valued in
      omega arith

  pub end_rises : (id : ℕ) (old new : Listed) → AddsEnd section id old new → old.place < new.place
  end_rises id old new adds = code_rises section 0 old.place new.place adds.coded

  entry_faultless : (depth number to : ℕ) (old new : Listed) → HaveCodes ds → AddsEntry section ds depth number old new → new.place ≤ to → HasNoFault section ds old.place to
  entry_faultless depth number to old new codes adds inside =
      let code : ℕ = (declared_at ds number).code in
      let up : old.place < adds.values_at = code_rises section code old.place adds.values_at adds.coded in
      let rest : adds.values_at ≤ new.place = values_rise section ((declared_at ds number).columns) adds.values adds.values_at new.place adds.valued in
      record {
        some = omega arith;
        not_short = code_not_short section code old.place adds.values_at to adds.coded (omega arith);
        not_wide = code_not_wide section code old.place adds.values_at to adds.coded (omega arith);
        declared = λ other at there some missing. missing number adds.known (codes_same section code other old.place adds.values_at at adds.coded there);
        valued = λ kind at f.
            let same : f.number ≡ number = same_number ds f.number number codes f.known adds.known (codes_same section ((declared_at ds f.number).code) code old.place f.values_at adds.values_at f.coded adds.coded) in
            let place : f.values_at ≡ adds.values_at = (spells_once Uleb unique_u section ((declared_at ds f.number).code) code old.place f.values_at adds.values_at f.coded adds.coded).0 in
            let columns : (declared_at ds number).columns ≡ f.before ++ f.column ∷ f.after = ap (λ (z : ℕ). (declared_at ds z).columns) (sym same) ∙ f.columns in
            columns_whole section f.before f.column f.after adds.values f.values kind adds.values_at at new.place to (subst (λ (z : List Spec). ValuesBetween section z adds.values adds.values_at new.place) columns adds.valued) inside (subst (λ (z : ℕ). ValuesBetween section f.before f.values z at) place f.valued) f.fault;
      }

  end_faultless : (id to : ℕ) (old new : Listed) → HaveCodes ds → AddsEnd section id old new → new.place ≤ to → HasNoFault section ds old.place to
  end_faultless id to old new codes adds inside =
      let up : old.place < new.place = code_rises section 0 old.place new.place adds.coded in
      record {
        some = omega arith;
        not_short = code_not_short section 0 old.place new.place to adds.coded inside;
        not_wide = code_not_wide section 0 old.place new.place to adds.coded inside;
        declared = λ other at there some missing. some (codes_same section other 0 old.place at new.place there adds.coded);
        valued = λ kind at f. codes.some f.number f.known (codes_same section ((declared_at ds f.number).code) 0 old.place f.values_at new.place f.coded adds.coded);
      }

  pub steps_faultless : (depth to : ℕ) (now : Listed) → HaveCodes ds → StepsWithin section ds depth to now → HasNoFault section ds now.place to
  steps_faultless depth to now codes (inl (number, mid, adds, inside)) = entry_faultless depth number to now mid codes adds inside
  steps_faultless depth to now codes (inr (id, mid, adds, inside)) = end_faultless id to now mid codes adds inside

  -- a walk adds to what is listed, and its place rises
  pub walks_rise : (old : Listed) (chains : List ℕ) (items : List Item) (new : Listed) (left : List ℕ) → Walks section ds old chains items new left → Rises old new
  walks_rise old chains [] new left (same, kept) =
      let place : new.place ≡ old.place = ap (λ (z : Listed). z.place) same in
      let entries : length new.entries ≡ length old.entries = ap (λ (z : Listed). length z.entries) same in
      let values : length new.values ≡ length old.values = ap (λ (z : Listed). length z.values) same in
      let ends : length new.ends ≡ length old.ends = ap (λ (z : Listed). length z.ends) same in
      record { place = omega arith; entries = omega arith; values = omega arith; ends = omega arith }
  walks_rise old chains (AnEntry number ∷ items) new left (going, (mid, adds, walk)) =
      let rest = walks_rise mid (opened ds number (length old.entries) chains) items new left walk in
      let p : mid.place ≤ new.place = rest.place in
      let e : length mid.entries ≤ length new.entries = rest.entries in
      let v : length mid.values ≤ length new.values = rest.values in
      let c : length mid.ends ≤ length new.ends = rest.ends in
      let place : old.place < mid.place = entry_rises (length chains) number old mid adds in
      let entries : length old.entries < length mid.entries = entry_grows section ds (length chains) number old mid adds in
      let values : length mid.values ≡ length old.values + length adds.values = ap length adds.listed ∙ length-append old.values adds.values in
      let ends : length mid.ends ≡ length old.ends = ap length adds.ended in
      record { place = omega arith; entries = omega arith; values = omega arith; ends = omega arith }
  walks_rise old chains (AnEnd ∷ items) new left (id, outer, mid, same, adds, walk) =
      let rest = walks_rise mid outer items new left walk in
      let p : mid.place ≤ new.place = rest.place in
      let e : length mid.entries ≤ length new.entries = rest.entries in
      let v : length mid.values ≤ length new.values = rest.values in
      let c : length mid.ends ≤ length new.ends = rest.ends in
      let place : old.place < mid.place = end_rises id old mid adds in
      let entries : length mid.entries ≡ length old.entries = ap length adds.entered in
      let values : length mid.values ≡ length old.values = ap length adds.listed in
      let ends : length mid.ends ≡ length old.ends + 1 = ap length adds.ended ∙ length-append old.ends (record { entry = id; at = old.place } ∷ []) in
      record { place = omega arith; entries = omega arith; values = omega arith; ends = omega arith }

  -- a walk that goes on before it is whole has a next step
  pub going_steps : (now forest : Listed) (chains : List ℕ) (items : List Item) (to : ℕ) → IsGoing now chains → forest.entries ≢ [] → forest.place ≤ to → Walks section ds now chains items forest [] → StepsWithin section ds (length chains) to now
  going_steps now forest chains [] to (inl none) some inside (same, kept) = absurd (some (ap (λ (z : Listed). z.entries) same ∙ none))
  going_steps now forest chains [] to (inr still) some inside (same, kept) = absurd (still (sym kept))
  going_steps now forest chains (AnEntry number ∷ items) to going some inside (again, (mid, adds, walk)) =
      let rest : mid.place ≤ forest.place = (walks_rise mid (opened ds number (length now.entries) chains) items forest [] walk).place in
      inl (number, mid, adds, omega arith)
  going_steps now forest chains (AnEnd ∷ items) to going some inside (id, outer, mid, same, adds, walk) =
      let rest : mid.place ≤ forest.place = (walks_rise mid outer items forest [] walk).place in
      inr (id, mid, adds, omega arith)

  -- a walk that has listed no entry is at its start
  pub unread_start : (start : ℕ) (items : List Item) (now : Listed) (chains : List ℕ) → Walks section ds (nothing_from start) [] items now chains → now.entries ≡ [] → (now ≡ nothing_from start) × (chains ≡ [])
  unread_start start [] now chains (same, kept) none = (same, kept)
  unread_start start (AnEntry number ∷ items) now chains (going, (mid, adds, walk)) none =
      let grown : 0 < length mid.entries = entry_grows section ds 0 number (nothing_from start) mid adds in
      let rest : length mid.entries ≤ length now.entries = (walks_rise mid (opened ds number 0 []) items now chains walk).entries in
      absurd (some_listed now.entries (omega arith) none)
  unread_start start (AnEnd ∷ items) now chains (id, outer, mid, same, adds, walk) none = absurd (cons_filled id outer (sym same))

  -- a unit's first code isn't 0
  pub root_coded : (start at : ℕ) (forest : Listed) → HaveCodes ds → IsForest section ds start forest → SpellsBetween (Uleb 0) section start at → ⊥
  root_coded start at forest codes f zero_there = entry_not_zero section ds 0 f.root at (nothing_from start) f.listed.0 codes f.listed.2 zero_there
