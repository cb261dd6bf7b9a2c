-- A unit that ends its section stands there too where more bytes follow.
use Rattle.std.proofs.Common.{◌≡◌, ◌≤◌, ◌<◌, ◌+◌, ◌-◌, ◌++◌, ℕ, suc, List, [], ◌∷◌, length, take, drop, ◌∙◌, sym, refl, subst, arith}
use Rattle.std.specs.List.{All}
use Rattle.std.proofs.lemmas.List.{length-append}
use Rattle.std.proofs.lemmas.List.Elements.{All-take, All-drop, All-from_get_or, All-weaker}
use Rattle.leb_codec.specs.Leb.{ShortestUnsigned}
use Rattle.form_codec.specs.declared.value.Value.{Value}
use Rattle.form_codec.specs.declared.value.Value.TheVariants as value
use Rattle.form_codec.specs.Forms.{Meaning}
use Rattle.form_codec.specs.Values.{meant_in, LiesIn}
use Rattle.abbrev_tables.specs.declared.decl.Spec.{Spec}
use Rattle.abbrev_tables.specs.Tables.{Declared}
use Rattle.abbrev_tables.specs.Listings.{Listing, IsTableAt}
use Rattle.entry_arena.specs.declared.entry.Entry.{Entry}
use Rattle.entry_arena.specs.declared.entry.ChainEnd.{ChainEnd}
use Rattle.entry_arena.specs.Arena.{Arena, value_at}
use Rattle.entry_arena.specs.Trees.{Listed, SpellsBetween, declared_at}
use Rattle.entry_arena.proofs.GrowingLaws.{sections_grow}
use Rattle.entry_arena.proofs.TreeLaws.{trees_are_walks}
use Rattle.entry_arena.proofs.WalkPlaces.{walked_orderly}
use Rattle.entry_read.specs.declared.head.UnitHead.{UnitHead}
use Rattle.fixed_width.specs.InitialLengths.{unit_end}
use Rattle.entry_read.specs.Units.{HeadAndForest, entries_at, end_of, declarations_of, IsUnit}
use Rattle.entry_read.specs.Short.{IsWritten, WrittenBetween, StandsShort, EndsShort}
use Rattle.unit_write.specs.Moved.{NewValues, AreMovedValues, IsWrittenAnew}
use Rattle.value_links.specs.Reading.{IsUnitRead}

-- what is spelled there is spelled there too where more bytes follow
still_spelled : (Spells : List ℕ → Type 0) (section more : List ℕ) (ds : List Declared) (from to : ℕ) → SpellsBetween Spells section from to → SpellsBetween Spells (section ++ more) from to
still_spelled Spells section more ds from to s =
    let all : length (section ++ more) ≡ length section + length more = length-append section more in
    let inside : to ≤ length section = s.inside in
    record { order = s.order; inside = omega arith; spelled = subst Spells (sym ((sections_grow section more ds).bytes from to inside)) s.spelled }

-- so is what is written of values whose bytes lie in the section
still_written : (section more : List ℕ) (ds : List Declared) (columns : List Spec) (values : List Value) (from to : ℕ) → All (LiesIn (length section)) values → WrittenBetween section columns values from to → WrittenBetween (section ++ more) columns values from to
still_written section more ds [] [] from to lie same = same
still_written section more ds [] (v ∷ values) from to lie none = none
still_written section more ds (c ∷ columns) [] from to lie none = none
still_written section more ds (c ∷ columns) (v ∷ values) from to lie (next, first, rest) =
    let same : meant_in (section ++ more) v ≡ meant_in section v = (sections_grow section more ds).meant v (lie 0 v (omega arith)) in
    let there : SpellsBetween (IsWritten c (meant_in section v)) (section ++ more) from next = still_spelled (IsWritten c (meant_in section v)) section more ds from next first in
    (next, subst (λ (m : Meaning). SpellsBetween (IsWritten c m) (section ++ more) from next) (sym same) there, still_written section more ds columns values next to (λ k d inside. lie (suc k) d (omega arith)) rest)

module _ (section more : List ℕ) (head : UnitHead) (ds : List Declared) (forest : Listed) (is : IsUnit section head ds forest) where
  pub unit_stays : end_of head ≡ forest.place → IsUnit (section ++ more) head ds forest
  unit_stays ends = record {
    tree = (sections_grow section more ds).forest (entries_at head) forest is.tree;
    inside = is.inside;
    padded = λ k past below. absurd (let a : forest.place ≤ k = past in let b : k < end_of head = below in let e : end_of head ≡ forest.place = ends in omega arith);
  }

  -- values mean there what they meant
  pub moved_stay : (f : Arena) (anew : NewValues) → AreMovedValues f anew section forest → AreMovedValues f anew (section ++ more) forest
  moved_stay f anew moved =
      let walk = (trees_are_walks section ds (entries_at head) forest).0 is.tree in
      let o = walked_orderly section ds (entries_at head) walk.items forest [] walk.walked in
      let count : length forest.values ≡ length f.values = moved.count in
      record {
        count = moved.count;
        each = λ k inside. (sections_grow section more ds).meant (value_at forest.values k) (o.order.spans.inside k (let i : k < length f.values = inside in omega arith)) ∙ moved.each k inside;
      }

  -- and entries have no byte too many there
  pub short_stays : (e : Entry) → StandsShort section ds forest.values e → StandsShort (section ++ more) ds forest.values e
  short_stays e short =
      let walk = (trees_are_walks section ds (entries_at head) forest).0 is.tree in
      let o = walked_orderly section ds (entries_at head) walk.items forest [] walk.walked in
      let all : All (LiesIn (length section)) forest.values = All-from_get_or (LiesIn (length section)) forest.values (value.Addr 0) o.order.spans.inside in
      let own : All (LiesIn (length section)) (take e.count (drop e.first forest.values)) = All-take (LiesIn (length section)) e.count (drop e.first forest.values) (All-drop (LiesIn (length section)) e.first forest.values all) in
      record {
        values_at = short.values_at;
        coded = still_spelled (ShortestUnsigned ((declared_at ds e.decl).code)) section more ds e.at short.values_at short.coded;
        valued = still_written section more ds ((declared_at ds e.decl).columns) (take e.count (drop e.first forest.values)) short.values_at (e.at + e.len) own short.valued;
      }

-- and codes 0 that end chains have one byte there
pub ends_stay : (section more : List ℕ) (ds : List Declared) (ends : List ChainEnd) → All (EndsShort section) ends → All (EndsShort (section ++ more)) ends
ends_stay section more ds ends short = All-weaker (EndsShort section) (EndsShort (section ++ more)) (λ e one. still_spelled (ShortestUnsigned 0) section more ds e.at (e.at + 1) one) ends short

-- A unit that was written at the end of a section fills its place.
pub written_fills : (unit : HeadAndForest) (table : Listing) (columns : List Spec) (numbers : List ℕ) (ds : List Declared) (new_table type_offset : ℕ) (anew : NewValues) (start : ℕ) (section : List ℕ) → (w : IsWrittenAnew unit table columns numbers ds new_table type_offset anew start section) → end_of w.head ≡ w.forest.place
written_fills unit table columns numbers ds new_table type_offset anew start section w =
    let at : w.head.at ≡ start = w.fields.at in
    let len : w.head.len ≡ length section - start = w.fields.len in
    let place : w.forest.place ≡ length section = w.ends_there in
    let room : unit_end section w.head.at ≤ length section = w.is_head.rules.inside in
    omega arith

-- It is read of the section and what follows, by its new table.
pub written_read : (unit : HeadAndForest) (table listing : Listing) (columns : List Spec) (numbers : List ℕ) (new_table type_offset : ℕ) (anew : NewValues) (start : ℕ) (section more abbrevs : List ℕ) → (w : IsWrittenAnew unit table columns numbers (declarations_of listing) new_table type_offset anew start section) → new_table < length abbrevs → IsTableAt abbrevs new_table listing → IsUnitRead (section ++ more) abbrevs (record { head = w.head; table = listing; forest = record { section = section ++ more; entries = w.forest.entries; values = w.forest.values; ends = w.forest.ends } })
written_read unit table listing columns numbers new_table type_offset anew start section more abbrevs w inside stands =
    let ends : end_of w.head ≡ w.forest.place = written_fills unit table columns numbers (declarations_of listing) new_table type_offset anew start section w in
    record {
      named = subst (λ (n : ℕ). n < length abbrevs) (sym w.fields.table) inside;
      table = subst (λ (n : ℕ). IsTableAt abbrevs n listing) (sym w.fields.table) stands;
      section = refl;
      entries = (w.forest.place, unit_stays section more w.head (declarations_of listing) w.forest w.is_unit ends);
    }
