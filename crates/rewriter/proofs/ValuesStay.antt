-- The values of a unit that is written anew: each stands with the number and the name that it had, and means what it meant but for a
-- new number or new bytes of an expression, where some references are taken as ones within the unit.
use Rattle.std.proofs.Common.{◌≡◌, ◌<◌, ◌+◌, ◌∙◌, ◌++◌, ℕ, suc, List, [], ◌∷◌, length, sym, ap, subst, refl, arith}
use Rattle.std.specs.Prelude.{slice_index}
use Rattle.std.proofs.Math.Seq.{get_or-append_seam}
use Rattle.std.proofs.lemmas.List.{length-append}
use Rattle.std.proofs.lemmas.List.Elements.{All-get_or}
use Rattle.dw_base.specs.declared.classes.Classes.{Classes}
use Rattle.form_codec.specs.declared.value.Value.{Value}
use Rattle.form_codec.specs.declared.value.Value.TheVariants as value
use Rattle.form_codec.specs.Forms.{Meaning}
use Rattle.form_codec.specs.Values.{meant_in}
use Rattle.abbrev_tables.specs.declared.decl.Spec.{Spec}
use Rattle.abbrev_tables.specs.Listings.{spec_at}
use Rattle.entry_arena.specs.Arena.{value_at}
use Rattle.entry_arena.specs.Trees.{ValuesBetween}
use Rattle.entry_read.proofs.PlaceLaws.{entry_stands}
use Rattle.unit_write.specs.declared.places.Places.{Places}
use Rattle.unit_write.specs.NewExpressions.{made_of}
use Rattle.unit_write.specs.Values.{renewed}
use Rattle.value_links.specs.Sections.{debug_info, debug_abbrev}
use Rattle.value_links.specs.Reading.{UnitRead, Reading, no_unit, unit_at, declarations, IsUnitRead}
use Rattle.value_links.specs.Values.{entry_of, declaration_of, values_of, HasValueAt}
use Rattle.value_links.specs.World.{World}
use Rattle.rewriter.specs.declared.tables.NewTable.{NewTable}
use Rattle.rewriter.specs.declared.new_places.NewPlaces.{NewPlaces}
use Rattle.rewriter.specs.inside.Taken.{MeansFor}
use Rattle.rewriter.specs.inside.Numbers.{IsNewValue}
use Rattle.rewriter.specs.inside.Follows.{AreReadAnew}
use Rattle.rewriter.proofs.Meant.{read_unit_at}
use Rattle.rewriter.proofs.MovedValues.{split_at, as_many}
use Rattle.rewriter.proofs.MovedEntries.{renewed_by, moved, entry_moved, entries_count, same_declared, taken_meaning, means_taken, as_many_values, values_are, values_mean}

-- VALUES BY THEIR NUMBERS

-- there is a value for each column
between_count : (section : List ℕ) (cs : List Spec) (vs : List Value) (from to : ℕ) → ValuesBetween section cs vs from to → length cs ≡ length vs
between_count section [] [] from to valued = refl
between_count section [] (v ∷ vs) from to valued = absurd valued
between_count section (c ∷ cs) [] from to valued = absurd valued
between_count section (c ∷ cs) (v ∷ vs) from to (next, spelled, placed, valued) = ap suc (between_count section cs vs next to valued)

-- what comes after some others
value_between : (values earlier later : List Value) (v : Value) (k : ℕ) → values ≡ earlier ++ v ∷ later → length earlier ≡ k → value_at values k ≡ v
value_between values earlier later v k parts count =
    ap (λ (z : List Value). value_at z k) parts ∙ ap (λ (z : ℕ). value_at (earlier ++ v ∷ later) z) (sym count) ∙ get_or-append_seam earlier v later (value.Addr 0)

column_between : (columns earlier later : List Spec) (c : Spec) (k : ℕ) → columns ≡ earlier ++ c ∷ later → length earlier ≡ k → spec_at columns k ≡ c
column_between columns earlier later c k parts count =
    ap (λ (z : List Spec). spec_at z k) parts ∙ ap (λ (z : ℕ). spec_at (earlier ++ c ∷ later) z) (sym count) ∙ get_or-append_seam earlier c later (spec_at [] 0)

inside_of : {X : Type 0} (xs earlier later : List X) (x : X) (k : ℕ) → xs ≡ earlier ++ x ∷ later → length earlier ≡ k → k < length xs
inside_of xs earlier later x k parts count =
    let long : length xs ≡ length (earlier ++ x ∷ later) = ap length parts in
    let sum : length (earlier ++ x ∷ later) ≡ length earlier + length (x ∷ later) = length-append earlier (x ∷ later) in
    omega (arith, long, sum, count)

-- the value with a number among those of a unit is the one with the number `k` among those of an entry
pub record IsValueOf (unit : UnitRead) (id number name : ℕ) (meaning : Meaning) : Type 0 where
  pub known : id < length unit.forest.entries
  pub k : ℕ
  pub column_in : k < length (declaration_of unit id).columns
  pub value_in : k < length (values_of unit id)
  pub numbered : number ≡ (entry_of unit id).first + k
  pub named : name ≡ (spec_at (declaration_of unit id).columns k).name
  pub meant : meaning ≡ meant_in unit.forest.section (value_at (values_of unit id) k)

value_of : (unit : UnitRead) (id number name : ℕ) (meaning : Meaning) (place : ℕ) → HasValueAt unit id number name meaning place → IsValueOf unit id number name meaning
value_of unit id number name meaning place h =
    let count : length h.earlier_columns ≡ length h.earlier = between_count unit.forest.section h.earlier_columns h.earlier h.values_at place h.valued in
    let column : spec_at (declaration_of unit id).columns (length h.earlier) ≡ h.column = column_between (declaration_of unit id).columns h.earlier_columns h.later_columns h.column (length h.earlier) h.columns count in
    let here : value_at (values_of unit id) (length h.earlier) ≡ h.value = value_between (values_of unit id) h.earlier h.later h.value (length h.earlier) h.values refl in
    record {
      known = h.known;
      k = length h.earlier;
      column_in = inside_of (declaration_of unit id).columns h.earlier_columns h.later_columns h.column (length h.earlier) h.columns count;
      value_in = inside_of (values_of unit id) h.earlier h.later h.value (length h.earlier) h.values refl;
      numbered = h.numbered;
      named = h.named ∙ ap (λ (z : Spec). z.name) (sym column);
      meant = h.meant ∙ ap (meant_in unit.forest.section) (sym here);
    }

pub value_there : (info abbrevs : List ℕ) (unit : UnitRead) (id number name : ℕ) (meaning : Meaning) → IsUnitRead info abbrevs unit → IsValueOf unit id number name meaning → (place : ℕ) × HasValueAt unit id number name meaning place
value_there info abbrevs unit id number name meaning is v =
    let e = entry_of unit id in
    let stands = entry_stands info unit.head (declarations unit) unit.forest is.section is.entries id v.known in
    let p = split_at unit.forest.section (declaration_of unit id).columns (values_of unit id) stands.values_at (e.at + e.len) v.k stands.valued v.value_in in
    let count : length p.earlier_columns ≡ v.k = between_count unit.forest.section p.earlier_columns p.earlier stands.values_at p.place p.valued ∙ p.count in
    let column : spec_at (declaration_of unit id).columns v.k ≡ p.column = column_between (declaration_of unit id).columns p.earlier_columns p.later_columns p.column v.k p.columns count in
    let here : value_at (values_of unit id) v.k ≡ p.value = value_between (values_of unit id) p.earlier p.later p.value v.k p.values p.count in (
      p.place,
      record {
        known = v.known;
        earlier_columns = p.earlier_columns;
        column = p.column;
        later_columns = p.later_columns;
        columns = p.columns;
        earlier = p.earlier;
        value = p.value;
        later = p.later;
        values = p.values;
        numbered = v.numbered ∙ ap (λ (z : ℕ). e.first + z) (sym p.count);
        values_at = stands.values_at;
        coded = stands.coded;
        valued = p.valued;
        named = v.named ∙ ap (λ (z : Spec). z.name) column;
        meant = v.meant ∙ ap (meant_in unit.forest.section) here;
      },
    )

-- VALUES THAT ARE WRITTEN ANEW

module _ {classes : Classes} {file : List ℕ} {world : World} {tables : List NewTable} {places : List Places} {new_places : NewPlaces} {info abbrevs : List ℕ} {r s : Reading} (all : AreReadAnew classes file world tables places new_places info abbrevs r s) where
  pub old_read : (u : ℕ) → u < length r.links.units → IsUnitRead (debug_info file) (debug_abbrev file) (unit_at r.links u)
  old_read u inside = read_unit_at file r u all.read.links.units.each inside

  pub new_read : (u : ℕ) → u < length r.links.units → IsUnitRead info abbrevs (unit_at s.links u)
  new_read u inside = All-get_or (IsUnitRead info abbrevs) s.links.units u no_unit (subst (λ (z : ℕ). u < z) (sym all.units.count) inside) all.units.read.each

  -- a value means the old one, as it is taken, with its new number or the new bytes of its expression
  pub record IsMovedValue (u id name : ℕ) (old new : Meaning) : Type 0 where
    pub taken : Meaning
    pub took : MeansFor (unit_at r.links u).head old taken
    pub held : ℕ
    pub made : List ℕ
    pub numbered : IsNewValue r.links places new_places u id name taken held made
    pub value : new ≡ renewed held made taken

  values_count : (u id : ℕ) → u < length r.links.units → id < length (unit_at r.links u).forest.entries → length (values_of (unit_at s.links u) id) ≡ length (values_of (unit_at r.links u) id)
  values_count u id inside known =
      let e = entry_of (unit_at r.links u) id in
      ap (λ (z : List Value). length z) (values_are all u id inside known) ∙ as_many (unit_at r.links u).forest.values (unit_at s.links u).forest.values e.first e.count (as_many_values all u inside)

  same_meant : (u id : ℕ) (inside : u < length r.links.units) → id < length (unit_at r.links u).forest.entries → (k : ℕ) → k < length (values_of (unit_at r.links u) id) → meant_in (unit_at s.links u).forest.section (value_at (values_of (unit_at s.links u) id) k) ≡ renewed_by (moved all u inside).numbers ((entry_of (unit_at r.links u) id).first + k) (taken_meaning all u ((entry_of (unit_at r.links u) id).first + k))
  same_meant u id inside known k k_in =
      ap (λ (z : List Value). meant_in (unit_at s.links u).forest.section (value_at z k)) (values_are all u id inside known) ∙ values_mean all u id inside k k_in

  -- what an old value becomes
  numbered_as : (u id number name : ℕ) (meaning : Meaning) (place : ℕ) (inside : u < length r.links.units) → HasValueAt (unit_at r.links u) id number name meaning place → IsNewValue r.links places new_places u id name (taken_meaning all u number) (slice_index (moved all u inside).numbers.held.items number) (made_of (moved all u inside).numbers.expressions.ends.items (moved all u inside).numbers.expressions.bytes.items number)
  numbered_as u id number name meaning place inside h = (moved all u inside).numbered.each id number name meaning place h

  pub value_went : (u id number name : ℕ) (meaning : Meaning) (place : ℕ) → u < length r.links.units → HasValueAt (unit_at r.links u) id number name meaning place → (new : Meaning) × (now : ℕ) × HasValueAt (unit_at s.links u) id number name new now × IsMovedValue u id name meaning new
  value_went u id number name meaning place inside h =
      let v = value_of (unit_at r.links u) id number name meaning place h in
      let held : ℕ = slice_index (moved all u inside).numbers.held.items number in
      let made : List ℕ = made_of (moved all u inside).numbers.expressions.ends.items (moved all u inside).numbers.expressions.bytes.items number in
      let taken : Meaning = taken_meaning all u number in
      let same = same_declared all u id inside v.known in
      let means : meant_in (unit_at s.links u).forest.section (value_at (values_of (unit_at s.links u) id) v.k) ≡ renewed held made taken =
      same_meant u id inside v.known v.k v.value_in ∙ ap (λ (z : ℕ). renewed_by (moved all u inside).numbers z (taken_meaning all u z)) (sym v.numbered) in
      let now : IsValueOf (unit_at s.links u) id number name (renewed held made taken) = record {
        known = subst (λ (z : ℕ). id < z) (entries_count all u inside) v.known;
        k = v.k;
        column_in = subst (λ (z : ℕ). v.k < z) (sym same.named.count) v.column_in;
        value_in = subst (λ (z : ℕ). v.k < z) (sym (values_count u id inside v.known)) v.value_in;
        numbered = v.numbered ∙ ap (λ (z : ℕ). z + v.k) (sym (entry_moved all u id inside v.known).first);
        named = v.named ∙ sym (same.named.each v.k v.column_in);
        meant = sym means;
      } in
      let (there, stands) = value_there info abbrevs (unit_at s.links u) id number name (renewed held made taken) (new_read u inside) now in
      (renewed held made taken, there, stands, record { taken = taken; took = means_taken all u id number name meaning place inside h; held = held; made = made; numbered = numbered_as u id number name meaning place inside h; value = refl })

  pub value_came : (u id number name : ℕ) (meaning : Meaning) (place : ℕ) → u < length r.links.units → HasValueAt (unit_at s.links u) id number name meaning place → (old : Meaning) × (was : ℕ) × HasValueAt (unit_at r.links u) id number name old was × IsMovedValue u id name old meaning
  value_came u id number name meaning place inside h =
      let v = value_of (unit_at s.links u) id number name meaning place h in
      let known : id < length (unit_at r.links u).forest.entries = subst (λ (z : ℕ). id < z) (sym (entries_count all u inside)) v.known in
      let same = same_declared all u id inside known in
      let old : Meaning = meant_in (unit_at r.links u).forest.section (value_at (values_of (unit_at r.links u) id) v.k) in
      let held : ℕ = slice_index (moved all u inside).numbers.held.items number in
      let made : List ℕ = made_of (moved all u inside).numbers.expressions.ends.items (moved all u inside).numbers.expressions.bytes.items number in
      let column_in : v.k < length (declaration_of (unit_at r.links u) id).columns = subst (λ (z : ℕ). v.k < z) same.named.count v.column_in in
      let value_in : v.k < length (values_of (unit_at r.links u) id) = subst (λ (z : ℕ). v.k < z) (values_count u id inside known) v.value_in in
      let numbered : number ≡ (entry_of (unit_at r.links u) id).first + v.k = v.numbered ∙ ap (λ (z : ℕ). z + v.k) (entry_moved all u id inside known).first in
      let was : IsValueOf (unit_at r.links u) id number name old = record {
        known = known;
        k = v.k;
        column_in = column_in;
        value_in = value_in;
        numbered = numbered;
        named = v.named ∙ same.named.each v.k column_in;
        meant = refl;
      } in
      let (there, stands) = value_there (debug_info file) (debug_abbrev file) (unit_at r.links u) id number name old (old_read u inside) was in
      let taken : Meaning = taken_meaning all u number in
      let value : meaning ≡ renewed held made taken = v.meant ∙ same_meant u id inside known v.k value_in ∙ ap (λ (z : ℕ). renewed_by (moved all u inside).numbers z (taken_meaning all u z)) (sym numbered) in
      (old, there, stands, record { taken = taken; took = means_taken all u id number name old there inside stands; held = held; made = made; numbered = numbered_as u id number name old there inside stands; value = value })
