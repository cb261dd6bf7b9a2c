-- The front of a unit's entries goes on.
use Rattle.std.proofs.Common.{◌≡◌, ◌≤◌, ◌<◌, ◌+◌, ◌-◌, ◌++◌, ◌∙◌, ℕ, List, [], ◌∷◌, length, take, drop, reverse, sym, ap, refl, subst, arith, inl, inr}
use Rattle.std.specs.Prelude.{Bool, true, false, if◌then◌else◌, pos}
use Rattle.std.proofs.lemmas.List.{length_push, length-append, reverse-append, append-nil, append_assoc, take_more, drop_more, take-append-drop}
use Rattle.dw_base.specs.declared.fault.Kind.{Kind}
use Rattle.leb_codec.specs.Leb.{Uleb}
use Rattle.form_codec.specs.declared.value.Value.{Value}
use Rattle.form_codec.specs.Forms.{SpellsValue}
use Rattle.form_codec.specs.declared.value.ReadValue.{ReadValue}
use Rattle.form_codec.specs.Values.{meant_in, IsReadValue}
use Rattle.form_codec.specs.Faults.{FaultValue}
use Rattle.abbrev_tables.specs.declared.decl.Spec.{Spec}
use Rattle.abbrev_tables.specs.Tables.{Declared}
use Rattle.abbrev_tables.specs.Listings.{spec_at}
use Rattle.entry_arena.specs.declared.entry.Entry.{Entry}
use Rattle.entry_arena.specs.Arena.{Arena, with_entry, with_value, with_end}
use Rattle.entry_arena.specs.Order.{IsNextEntry, IsNextValue, IsNextEnd}
use Rattle.entry_arena.specs.Trees.{Listed, bytes_between, SpellsBetween, ValuesBetween, AddsEntry, AddsEnd, declared_at, listed_to, nothing_from}
use Rattle.entry_arena.specs.Walks.{Item, opened, IsGoing, Walks}
use Rattle.entry_arena.specs.Walks.Item.{AnEntry, AnEnd}
use Rattle.entry_arena.specs.Places.{held_of, held_with}
use Rattle.entry_arena.proofs.TreeLaws.{walks_append}
use Rattle.entry_arena.proofs.WalkPlaces.{walked_orderly, walked_value, entry_next, end_next}
use Rattle.entry_read.specs.declared.head.UnitHead.{UnitHead}
use Rattle.entry_read.specs.declared.unit.Counts.{Counts}
use Rattle.entry_read.specs.Units.{IsWithin, end_of, entries_at}
use Rattle.entry_read.proofs.Parts.{values_push}
use Rattle.entry_read.specs.inside.Readings.{with_values, AddsValues, FaultOfColumns, IsWalked, IsWalkedBy, HasFront}

-- what is held of a section
held_as : (info : List ℕ) (f : Arena) (values : List Value) → f.section ≡ info → held_with info (listed_to f 0) values ≡ with_values f values
held_as info f values e = ap (λ z. record { section = z; entries = f.entries; values = f.values ++ values; ends = f.ends }) (sym e)

-- a value that was read
value_spelled : (info : List ℕ) (at end i : ℕ) (columns : List Spec) (r : ReadValue) → IsReadValue (spec_at columns i).name (spec_at columns i).form (spec_at columns i).constant info at end r → end ≤ length info → SpellsBetween (SpellsValue (spec_at columns i).name (spec_at columns i).form (spec_at columns i).constant (meant_in info r.value)) info at r.end
value_spelled info at end i columns r read inside = record { order = read.starts; inside = let most : r.end ≤ end = read.inside in omega arith; spelled = read.spelled }

-- a value of the entry that stands next may be pushed
pub value_next : (info : List ℕ) (f mid : Arena) (from at end i : ℕ) (columns : List Spec) (r : ReadValue) → IsWalkedBy info f from → AddsValues info (take i columns) f from mid at → IsReadValue (spec_at columns i).name (spec_at columns i).form (spec_at columns i).constant info at end r → end ≤ length info → IsNextValue mid r.value
value_next info f mid from at end i columns r (ds, chains, place, le, w) a read inside =
    let c : Spec = spec_at columns i in
    let next = walked_value info ds w.start w.items (listed_to f place) chains w.walked from at r.end (take i columns) a.values c.name c.form c.constant r.value le a.valued (value_spelled info at end i columns r read inside) read.placed in
    subst (λ (z : Arena). IsNextValue z r.value) (sym a.held) (subst (λ (z : Arena). IsNextValue z r.value) (held_as info f a.values w.section) next)

-- a value more was appended
pub value_added : (info : List ℕ) (f mid new : Arena) (from at end i : ℕ) (columns : List Spec) (r : ReadValue) → i < length columns → AddsValues info (take i columns) f from mid at → IsReadValue (spec_at columns i).name (spec_at columns i).form (spec_at columns i).constant info at end r → end ≤ length info → new ≡ with_value mid r.value → AddsValues info (take (i + 1) columns) f from new r.end
value_added info f mid new from at end i columns r l a read inside e =
    let c : Spec = spec_at columns i in
    let more : take (i + 1) columns ≡ take i columns ++ c ∷ [] = take_more columns i (record { name = 0; form = 0; constant = pos 0 }) l in
    record {
      values = a.values ++ r.value ∷ [];
      valued = subst (λ (z : List Spec). ValuesBetween info z (a.values ++ r.value ∷ []) from r.end) (sym more) (values_push info (take i columns) a.values c r.value from at r.end a.valued (value_spelled info at end i columns r read inside) read.placed);
      held = e ∙ ap (λ z. with_value z r.value) a.held ∙ ap (λ z. record { section = f.section; entries = f.entries; values = z; ends = f.ends }) (append_assoc f.values a.values (r.value ∷ []));
    }

-- a value has a fault
pub column_fault : (info : List ℕ) (f mid : Arena) (from at end i : ℕ) (columns : List Spec) (kind : Kind) → i < length columns → AddsValues info (take i columns) f from mid at → at ≤ end → FaultValue (spec_at columns i).name (spec_at columns i).form (spec_at columns i).constant kind (bytes_between info at end) → FaultOfColumns info end columns from kind at
column_fault info f mid from at end i columns kind l a inside fault = record {
  before = take i columns;
  column = spec_at columns i;
  after = drop (i + 1) columns;
  parts = sym (take-append-drop i columns) ∙ ap (λ z. take i columns ++ z) (drop_more columns i (record { name = 0; form = 0; constant = pos 0 }) l);
  values = a.values;
  valued = a.valued;
  inside = inside;
  fault = fault;
}

-- an entry whose values were appended
module _ (info : List ℕ) (ds : List Declared) (f mid : Arena) (chains : List ℕ) (depth number at values_at to first last : ℕ) (w : IsWalked info ds f chains at) (deep : length chains ≡ depth) (known : number < length ds) (coded : SpellsBetween (Uleb ((declared_at ds number).code)) info at values_at) (a : AddsValues info ((declared_at ds number).columns) f values_at mid to) (start : first ≡ length f.values) (end : last ≡ length mid.values) where
  abbrev entry : Entry
  entry = record { at = at; len = to - at; depth = length chains; decl = number; first = length f.values; count = length a.values }

  abbrev next : Listed
  next = record { entries = f.entries ++ entry ∷ []; values = f.values ++ a.values; ends = f.ends; place = to }

  adds : AddsEntry info ds (length chains) number (listed_to f at) next
  adds = record { known = known; values_at = values_at; values = a.values; coded = coded; valued = a.valued; entered = refl; listed = refl; ended = refl }

  same : record { at = at; len = to - at; depth = depth; decl = number; first = first; count = last - first } ≡ entry
  same =
      let size : length mid.values ≡ length f.values + length a.values = ap (λ (z : Arena). length z.values) a.held ∙ length-append f.values a.values in
      let count : last - first ≡ length a.values = omega arith in
      ap (λ z. record { at = at; len = to - at; depth = z; decl = number; first = first; count = last - first }) (sym deep)
      ∙ ap (λ z. record { at = at; len = to - at; depth = length chains; decl = number; first = z; count = last - first }) start
      ∙ ap (λ z. record { at = at; len = to - at; depth = length chains; decl = number; first = length f.values; count = z }) count

  -- may be pushed
  pub pushed_entry : IsNextEntry mid (record { at = at; len = to - at; depth = depth; decl = number; first = first; count = last - first })
  unfolding adds
  pushed_entry =
      let o = walked_orderly info ds w.start w.items (listed_to f at) chains w.walked in
      let may : IsNextEntry (held_with info (listed_to f at) a.values) entry = entry_next info ds number (listed_to f at) next chains o adds in
      let here : held_with info (listed_to f at) a.values ≡ mid = held_as info f a.values w.section ∙ sym a.held in
      subst (λ (z : Entry). IsNextEntry mid z) (sym same) (subst (λ (z : Arena). IsNextEntry z entry) here may)

  -- and is then listed
  pub listed_entry : (new : Arena) → new ≡ with_entry mid (record { at = at; len = to - at; depth = depth; decl = number; first = first; count = last - first }) → (new.section ≡ info) × AddsEntry info ds depth number (listed_to f at) (listed_to new to)
  listed_entry new e =
      let all : with_entry mid (record { at = at; len = to - at; depth = depth; decl = number; first = first; count = last - first }) ≡ with_entry (with_values f a.values) entry = ap (with_entry mid) same ∙ ap (λ z. with_entry z entry) a.held in
      let here : listed_to new to ≡ next = ap (λ z. listed_to z to) (e ∙ all) in (
        ap (λ z. z.section) (e ∙ all) ∙ w.section,
        subst (λ (z : ℕ). AddsEntry info ds z number (listed_to f at) (listed_to new to)) deep (subst (λ (z : Listed). AddsEntry info ds (length chains) number (listed_to f at) z) (sym here) adds),
      )

-- the innermost chain is the last one that was opened
pub innermost : (olds news : List ℕ) (id : ℕ) → olds ≡ news ++ id ∷ [] → reverse olds ≡ id ∷ reverse news
innermost olds news id e = ap reverse e ∙ reverse-append news (id ∷ [])

chains_with : (test : Bool) (chains : List ℕ) (id : ℕ) → reverse (chains ++ (if test then id ∷ [] else [])) ≡ (if test then id ∷ reverse chains else reverse chains)
chains_with true chains id = reverse-append chains (id ∷ [])
chains_with false chains id = ap reverse (append-nil chains)

chains_most : (test : Bool) (id : ℕ) (chains : List ℕ) → length (if test then id ∷ chains else chains) ≤ length chains + 1
chains_most true id chains = omega arith
chains_most false id chains = omega arith

-- the chain of an entry's children is opened
pub opens : (ds : List Declared) (number id count : ℕ) (test : Bool) (olds news : List ℕ) → news ≡ olds ++ (if test then id ∷ [] else []) → test ≡ (declared_at ds number).children → id ≡ count → reverse news ≡ opened ds number count (reverse olds)
opens ds number id count test olds news e t same =
    ap reverse e ∙ chains_with test olds id ∙ ap (λ z. if z then id ∷ reverse olds else reverse olds) t ∙ ap (λ z. opened ds number z (reverse olds)) same

-- the front goes on by an entry
pub front_entry : (info : List ℕ) (head : UnitHead) (ds : List Declared) (before : Counts) (f new : Arena) (chains left : List ℕ) (depth number at to : ℕ) → HasFront info head ds before f chains at → IsGoing (listed_to f at) chains → length chains ≡ depth → to ≤ end_of head → new.section ≡ info → AddsEntry info ds depth number (listed_to f at) (listed_to new to) → IsWithin before (length new.entries) (length new.values) → left ≡ opened ds number (length f.entries) chains → HasFront info head ds before new left to
front_entry info head ds before f new chains left depth number at to h g deep inside section a within e =
    let start : Listed = nothing_from (entries_at head) in
    let items : List Item = h.front.items ++ AnEntry number ∷ [] in
    let here : AddsEntry info ds (length chains) number (listed_to f at) (listed_to new to) = subst (λ (z : ℕ). AddsEntry info ds z number (listed_to f at) (listed_to new to)) (sym deep) a in
    let one : Walks info ds (listed_to f at) chains (AnEntry number ∷ []) (listed_to new to) left = (g, (listed_to new to, here, (refl, e))) in
    let size : length new.entries ≡ length f.entries + 1 = ap length a.entered ∙ length_push f.entries _ in
    let more : length left ≤ length chains + 1 = subst (λ (z : List ℕ). length z ≤ length chains + 1) (sym e) (chains_most ((declared_at ds number).children) (length f.entries) chains) in
    let few : length chains ≤ length f.entries = h.few in
    record {
      section = section;
      front = record { items = items; walked = walks_append info ds start [] h.front.items (listed_to f at) chains (AnEntry number ∷ []) (listed_to new to) left h.front.walked one; inside = inside };
      few = omega arith;
      first = inr within;
    }

-- the code 0 that ends the innermost chain may be pushed
module _ (info : List ℕ) (head : UnitHead) (ds : List Declared) (before : Counts) (f : Arena) (chains outer : List ℕ) (id at to : ℕ) (h : HasFront info head ds before f chains at) (e : chains ≡ id ∷ outer) (coded : SpellsBetween (Uleb 0) info at to) where
  pub pushed_end : IsNextEnd f id at
  pushed_end =
      let o = walked_orderly info ds (entries_at head) h.front.items (listed_to f at) chains h.front.walked in
      let new : Listed = record { entries = f.entries; values = f.values; ends = f.ends ++ (record { entry = id; at = at }) ∷ []; place = to } in
      let may : IsNextEnd (held_of info (listed_to f at)) id at = end_next info id (listed_to f at) new chains outer o e (record { coded = coded; entered = refl; listed = refl; ended = refl }) in
      subst (λ (z : Arena). IsNextEnd z id at) (ap (λ z. record { section = z; entries = f.entries; values = f.values; ends = f.ends }) (sym h.section)) may

  -- the front goes on by it
  pub front_end : (new : Arena) → new ≡ with_end f (record { entry = id; at = at }) → to ≤ end_of head → HasFront info head ds before new outer to
  front_end new same inside =
      let start : Listed = nothing_from (entries_at head) in
      let a : AddsEnd info id (listed_to f at) (listed_to new to) = record { coded = coded; entered = ap (λ z. z.entries) same; listed = ap (λ z. z.values) same; ended = ap (λ z. z.ends) same } in
      let one : Walks info ds (listed_to f at) chains (AnEnd ∷ []) (listed_to new to) outer = (id, outer, listed_to new to, e, a, (refl, refl)) in
      let size : length new.entries ≡ length f.entries = ap (λ z. length z.entries) same in
      let few : length chains ≤ length f.entries = h.few in
      let many : length chains ≡ length outer + 1 = ap length e ∙ (let x : length (id ∷ outer) ≡ length outer + 1 = omega arith in x) in
      record {
        section = ap (λ z. z.section) same ∙ h.section;
        front = record { items = h.front.items ++ AnEnd ∷ []; walked = walks_append info ds start [] h.front.items (listed_to f at) chains (AnEnd ∷ []) (listed_to new to) outer h.front.walked one; inside = inside };
        few = omega arith;
        first = elim h.first [
          | inl none ↦ inl (ap (λ z. z.entries) same ∙ none)
          | inr within ↦ inr (subst (λ (z : Arena). IsWithin before (length z.entries) (length z.values)) (sym same) within)
        ];
      }
