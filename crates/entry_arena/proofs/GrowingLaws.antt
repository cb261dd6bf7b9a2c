-- What stands in a section stands there too where more bytes follow it, and walks go on by steps.
use Rattle.std.proofs.Common.{◌≡◌, ◌≤◌, ◌<◌, ◌+◌, ◌-◌, ℕ, suc, List, [], ◌∷◌, ◌++◌, length, take, drop, ◌∙◌, sym, ap, refl, subst, arith, inl, inr}
use Rattle.std.specs.Prelude.{map}
use Rattle.std.proofs.lemmas.List.{take-append-le, drop-append-le, length-drop, length-append, length-take, get_or-take, get_or-drop}
use Rattle.std.proofs.lemmas.Bool.{cases_lt}
use Rattle.dw_base.specs.declared.fault.Span.{Span}
use Rattle.leb_codec.specs.Leb.{Uleb}
use Rattle.form_codec.specs.declared.value.Value.{Value}
use Rattle.form_codec.specs.declared.value.Value.TheVariants as value
use Rattle.form_codec.specs.Forms.{Meaning, SpellsValue}
use Rattle.form_codec.specs.Forms.Meaning.{SixteenBytes, Data, Expression, Text}
use Rattle.form_codec.specs.Values.{meant_in, bytes_in, LiesIn}
use Rattle.abbrev_tables.specs.declared.decl.Spec.{Spec}
use Rattle.abbrev_tables.specs.Tables.{Declared}
use Rattle.entry_arena.specs.declared.entry.Entry.{Entry}
use Rattle.entry_arena.specs.Arena.{value_at}
use Rattle.entry_arena.specs.Forests.{attributes_of, described_by, forest_of}
use Rattle.entry_arena.specs.Trees.{bytes_between, Listed, SpellsBetween, ValuesBetween, declared_at, AddsEntry, AddsEnd, nothing_from, IsForest}
use Rattle.entry_arena.specs.Walks.{Item, opened, Walks, IsWhole}
use Rattle.entry_arena.specs.Walks.Item.{AnEntry, AnEnd}
use Rattle.entry_arena.specs.Standing.{StandsAs}
use Rattle.entry_arena.specs.Growing.{WalksStay, SectionsGrow, WalksArePushed}
use Rattle.entry_arena.proofs.TreeLaws.{walks_append, walk_of, tree_of}
use Rattle.entry_arena.proofs.Spans.{lies_between, lies_in}
use Rattle.entry_arena.proofs.WalkPlaces.{walked_orderly}

-- a part of the bytes before those that are appended
pub part_stays : (section more : List ℕ) (at count : ℕ) → at + count ≤ length section → take count (drop at (section ++ more)) ≡ take count (drop at section)
part_stays section more at count inside =
    let rest : length (drop at section) ≡ length section - at = length-drop at section in
    ap (take count) (drop-append-le at section more (omega arith)) ∙ take-append-le count (drop at section) more (omega arith)

-- the same of each
same_map : {A B : Type 0} (f g : A → B) → ((x : A) → f x ≡ g x) → (xs : List A) → map f xs ≡ map g xs
same_map f g same [] = refl
same_map f g same (x ∷ xs) = ap (λ z. z ∷ map f xs) (same x) ∙ ap (λ z. g x ∷ z) (same_map f g same xs)

-- no bytes at all
none_taken : (n : ℕ) (xs ys : List ℕ) → n ≡ 0 → take n xs ≡ take n ys
none_taken n xs ys none = ap (λ z. take z xs) none ∙ sym (ap (λ z. take z ys) none)

module _ (section more : List ℕ) where
  pub span_stays : (span : Span) → span.at + span.len ≤ length section → bytes_in (section ++ more) span ≡ bytes_in section span
  span_stays span inside = part_stays section more span.at span.len inside

  pub meant_stays : (v : Value) → LiesIn (length section) v → meant_in (section ++ more) v ≡ meant_in section v
  meant_stays (value.Wide16 span) inside = ap SixteenBytes (span_stays span inside)
  meant_stays (value.Block span) inside = ap Data (span_stays span inside)
  meant_stays (value.Expr span) inside = ap Expression (span_stays span inside)
  meant_stays (value.Text span) inside = ap Text (span_stays span inside)
  meant_stays v inside = refl

  between_stays : (from to : ℕ) → to ≤ length section → bytes_between (section ++ more) from to ≡ bytes_between section from to
  between_stays from to inside = elim (cases_lt from to) [
    | inl less ↦ part_stays section more from (to - from) (omega arith)
    | inr past ↦ none_taken (to - from) (drop from (section ++ more)) (drop from section) (omega arith)
  ]

  pub spells_stay : (Spells : List ℕ → Type 0) (from to : ℕ) → SpellsBetween Spells section from to → SpellsBetween Spells (section ++ more) from to
  spells_stay Spells from to p =
      let all : length (section ++ more) ≡ length section + length more = length-append section more in
      let inside : to ≤ length section = p.inside in
      record { order = p.order; inside = omega arith; spelled = subst Spells (sym (between_stays from to inside)) p.spelled }

  pub values_stay : (columns : List Spec) (values : List Value) (from to : ℕ) → ValuesBetween section columns values from to → ValuesBetween (section ++ more) columns values from to
  values_stay [] [] from to same = same
  values_stay [] (v ∷ vs) from to none = none
  values_stay (c ∷ cs) [] from to none = none
  values_stay (c ∷ cs) (v ∷ vs) from to (next, spelled, placed, rest) =
      let lies : LiesIn (length section) v = lies_in (length section) from next v spelled.inside (lies_between section c.name c.form c.constant v from next spelled placed) in
      let there = spells_stay (SpellsValue c.name c.form c.constant (meant_in section v)) from next spelled in
      let meant = subst (λ (m : Meaning). SpellsBetween (SpellsValue c.name c.form c.constant m) (section ++ more) from next) (sym (meant_stays v lies)) there in
      (next, meant, placed, values_stay cs vs next to rest)

  module _ (ds : List Declared) where
    stands_still : (values : List Value) (e : Entry) → StandsAs section ds values e → StandsAs (section ++ more) ds values e
    stands_still values e s = record {
      values_at = s.values_at;
      coded = spells_stay (Uleb ((declared_at ds e.decl).code)) e.at s.values_at s.coded;
      valued = values_stay ((declared_at ds e.decl).columns) (take e.count (drop e.first values)) s.values_at (e.at + e.len) s.valued;
    }

    entry_stays : (depth number : ℕ) (old new : Listed) → AddsEntry section ds depth number old new → AddsEntry (section ++ more) ds depth number old new
    entry_stays depth number old new a = record {
      known = a.known;
      values_at = a.values_at;
      values = a.values;
      coded = spells_stay (Uleb ((declared_at ds number).code)) old.place a.values_at a.coded;
      valued = values_stay ((declared_at ds number).columns) a.values a.values_at new.place a.valued;
      entered = a.entered;
      listed = a.listed;
      ended = a.ended;
    }

    end_stays : (parent : ℕ) (old new : Listed) → AddsEnd section parent old new → AddsEnd (section ++ more) parent old new
    end_stays parent old new a = record { coded = spells_stay (Uleb 0) old.place new.place a.coded; entered = a.entered; listed = a.listed; ended = a.ended }

    walk_stays : (old : Listed) (chains : List ℕ) (items : List Item) (new : Listed) (left : List ℕ) → Walks section ds old chains items new left → Walks (section ++ more) ds old chains items new left
    walk_stays old chains [] new left same = same
    walk_stays old chains (AnEntry number ∷ items) new left (going, (mid, adds, walk)) =
        (going, (mid, entry_stays (length chains) number old mid adds, walk_stays mid (opened ds number (length old.entries) chains) items new left walk))
    walk_stays old chains (AnEnd ∷ items) new left (id, outer, mid, same, adds, walk) = (id, outer, mid, same, end_stays id old mid adds, walk_stays mid outer items new left walk)

    whole_stays : (start : ℕ) (forest : Listed) → IsWhole section ds start forest → IsWhole (section ++ more) ds start forest
    whole_stays start forest w = record { items = w.items; walked = walk_stays (nothing_from start) [] w.items forest [] w.walked; some = w.some }

    forest_stays : (start : ℕ) (forest : Listed) → IsForest section ds start forest → IsForest (section ++ more) ds start forest
    forest_stays start forest f = tree_of (section ++ more) ds start forest (whole_stays start forest (walk_of section ds start forest f))

    -- what attributes say
    attributes_stay : (columns : List Spec) (values : List Value) → ((i : ℕ) → i < length values → LiesIn (length section) (value_at values i)) → attributes_of (section ++ more) columns values ≡ attributes_of section columns values
    attributes_stay [] values lie = refl
    attributes_stay (c ∷ cs) [] lie = refl
    attributes_stay (c ∷ cs) (v ∷ vs) lie =
        ap (λ z. (c.name, z) ∷ attributes_of (section ++ more) cs vs) (meant_stays v (lie 0 (omega arith))) ∙ ap (λ z. (c.name, meant_in section v) ∷ z) (attributes_stay cs vs (λ i inside. lie (suc i) (omega arith)))

    own_lie : (values : List Value) (first count : ℕ) → ((i : ℕ) → i < length values → LiesIn (length section) (value_at values i)) → (i : ℕ) → i < length (take count (drop first values)) → LiesIn (length section) (value_at (take count (drop first values)) i)
    own_lie values first count lie i inside =
        let front : length (take count (drop first values)) ≤ count = omega (arith, length-take count (drop first values)) in
        let size : length (take count (drop first values)) ≤ length (drop first values) = omega (arith, length-take count (drop first values)) in
        let rest : length (drop first values) ≡ length values - first = length-drop first values in
        let here : value_at (take count (drop first values)) i ≡ value_at values (first + i) = get_or-take count (drop first values) i (value.Addr 0) (omega arith) ∙ get_or-drop first values i (value.Addr 0) in
        subst (λ (v : Value). LiesIn (length section) v) (sym here) (lie (first + i) (omega arith))

    described_stays : (values : List Value) → ((i : ℕ) → i < length values → LiesIn (length section) (value_at values i)) → (e : Entry) → described_by (section ++ more) ds values e ≡ described_by section ds values e
    described_stays values lie e =
        ap (λ (z : List (ℕ × Meaning)). record { depth = e.depth; tag = (declared_at ds e.decl).tag; children = (declared_at ds e.decl).children; attributes = z }) (attributes_stay ((declared_at ds e.decl).columns) (take e.count (drop e.first values)) (own_lie values e.first e.count lie))

    said_stays : (start : ℕ) (forest : Listed) → IsWhole section ds start forest → forest_of (section ++ more) ds forest ≡ forest_of section ds forest
    said_stays start forest w =
        let lie : (i : ℕ) → i < length forest.values → LiesIn (length section) (value_at forest.values i) = (walked_orderly section ds start w.items forest [] w.walked).order.spans.inside in
        same_map (described_by (section ++ more) ds forest.values) (described_by section ds forest.values) (described_stays forest.values lie) forest.entries

    walks_stay_in : WalksStay section more ds
    walks_stay_in = record {
      bytes = between_stays;
      coded = λ code. spells_stay (Uleb code);
      meant = meant_stays;
      valued = values_stay;
      stands = stands_still;
      entry = entry_stays;
      chain_end = end_stays;
      walked = walk_stays;
      whole = whole_stays;
      forest = forest_stays;
      said = said_stays;
    }

pub sections_grow : SectionsGrow
sections_grow section more ds = walks_stay_in section more ds

pub walks_push : WalksArePushed
walks_push section ds old chains items now between walk = record {
  entry = λ number new going adds. walks_append section ds old chains items now between (AnEntry number ∷ []) new (opened ds number (length now.entries) between) walk (going, (new, adds, (refl, refl)));
  chain_end = λ id outer new innermost adds. walks_append section ds old chains items now between (AnEnd ∷ []) new outer walk (id, outer, new, innermost, adds, (refl, refl));
}
