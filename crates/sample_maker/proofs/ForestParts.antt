-- Parts of a forest one after the other: what is listed of the bytes of one, and what its entries say.
use Rattle.std.proofs.Common.{◌≡◌, ◌<◌, ◌+◌, ◌-◌, ℕ, suc, List, [], ◌∷◌, ◌++◌, length, take, drop, true, false, ◌∙◌, sym, ap, refl, subst, arith}
use Rattle.std.specs.Prelude.{Bool, map}
use Rattle.std.proofs.lemmas.List.{append-nil, append_assoc, length-append, map-append}
use Rattle.spelled.proofs.Parts.{own_part}
use Rattle.leb_codec.specs.Leb.{Uleb}
use Rattle.form_codec.specs.declared.value.Value.{Value}
use Rattle.form_codec.specs.Forms.{Meaning}
use Rattle.abbrev_tables.specs.Tables.{Declared}
use Rattle.entry_arena.specs.declared.entry.Entry.{Entry}
use Rattle.entry_arena.specs.declared.entry.ChainEnd.{ChainEnd}
use Rattle.entry_arena.specs.Forests.{Described, attributes_of, described_by}
use Rattle.entry_arena.specs.Trees.{declared_at, Listed, SpellsBetween, ValuesBetween, AddsEntry, AddsEnd, Siblings, EndsChildren, Lists}
use Rattle.entry_arena.specs.Trees.Siblings.{NoMore, Tree}
use Rattle.sample_maker.specs.inside.ReadUnits.{ForestPart, no_part, followed, end_part}

-- a part of one entry
abbrev pub entry_part : Entry → List Value → Described → ForestPart
entry_part e values says = record { entries = e ∷ []; values = values; ends = []; says = says ∷ [] }

-- what is listed already, with a part behind it that ends at a place
abbrev pub grown : Listed → ForestPart → ℕ → Listed
grown old p to = record { entries = old.entries ++ p.entries; values = old.values ++ p.values; ends = old.ends ++ p.ends; place = to }

abbrev listed_as : List Entry → List Value → List ChainEnd → ℕ → Listed
listed_as entries values ends place = record { entries = entries; values = values; ends = ends; place = place }

abbrev part_as : List Entry → List Value → List ChainEnd → List Described → ForestPart
part_as entries values ends says = record { entries = entries; values = values; ends = ends; says = says }

grown_nothing : (old : Listed) (to : ℕ) → old.place ≡ to → grown old no_part to ≡ old
grown_nothing old to here =
    ap (λ z. listed_as z (old.values ++ []) (old.ends ++ []) to) (append-nil old.entries) ∙ ap (λ z. listed_as old.entries z (old.ends ++ []) to) (append-nil old.values) ∙ ap (λ z. listed_as old.entries old.values z to) (append-nil old.ends) ∙ ap (λ z. listed_as old.entries old.values old.ends z) (sym here)

grown_twice : (old : Listed) (a b : ForestPart) (mid to : ℕ) → grown (grown old a mid) b to ≡ grown old (followed a b) to
grown_twice old a b mid to =
    ap (λ z. listed_as z ((old.values ++ a.values) ++ b.values) ((old.ends ++ a.ends) ++ b.ends) to) (append_assoc old.entries a.entries b.entries) ∙ ap (λ z. listed_as (old.entries ++ (a.entries ++ b.entries)) z ((old.ends ++ a.ends) ++ b.ends) to) (append_assoc old.values a.values b.values) ∙ ap (λ z. listed_as (old.entries ++ (a.entries ++ b.entries)) (old.values ++ (a.values ++ b.values)) z to) (append_assoc old.ends a.ends b.ends)

pub followed_assoc : (a b c : ForestPart) → followed (followed a b) c ≡ followed a (followed b c)
followed_assoc a b c =
    ap (λ z. part_as z ((a.values ++ b.values) ++ c.values) ((a.ends ++ b.ends) ++ c.ends) ((a.says ++ b.says) ++ c.says)) (append_assoc a.entries b.entries c.entries) ∙ ap (λ z. part_as (a.entries ++ (b.entries ++ c.entries)) z ((a.ends ++ b.ends) ++ c.ends) ((a.says ++ b.says) ++ c.says)) (append_assoc a.values b.values c.values) ∙ ap (λ z. part_as (a.entries ++ (b.entries ++ c.entries)) (a.values ++ (b.values ++ c.values)) z ((a.says ++ b.says) ++ c.says)) (append_assoc a.ends b.ends c.ends) ∙ ap (λ z. part_as (a.entries ++ (b.entries ++ c.entries)) (a.values ++ (b.values ++ c.values)) (a.ends ++ (b.ends ++ c.ends)) z) (append_assoc a.says b.says c.says)

-- An entry of a declaration stands between two places, and its values are these; the first of them has a number. It says this.
pub record IsEntryRead (section : List ℕ) (ds : List Declared) (depth number first from to : ℕ) (e : Entry) (values : List Value) (says : Described) : Type 0 where
  pub known : number < length ds
  pub values_at : ℕ
  pub coded : SpellsBetween (Uleb ((declared_at ds number).code)) section from values_at
  pub valued : ValuesBetween section ((declared_at ds number).columns) values values_at to
  pub entry : e ≡ record { at = from; len = to - from; depth = depth; decl = number; first = first; count = length values }
  pub said : says ≡ record { depth = depth; tag = (declared_at ds number).tag; children = (declared_at ds number).children; attributes = attributes_of section ((declared_at ds number).columns) values }

-- what the entries of a part say, whatever values stand before theirs and behind them
abbrev Say : List ℕ → List Declared → ℕ → ForestPart → Type 0
Say section ds first p = (before rest : List Value) → length before ≡ first → map (described_by section ds (before ++ (p.values ++ rest))) p.entries ≡ p.says

-- Siblings of a depth are listed from a place up to another, and the part is what they add. Its first entry has the number `id`, and its
-- first value the number `first`.
pub record IsListed (section : List ℕ) (ds : List Declared) (depth : ℕ) (trees : Siblings) (id first from to : ℕ) (p : ForestPart) : Type 0 where
  pub listed : (old : Listed) → old.place ≡ from → length old.entries ≡ id → length old.values ≡ first → Lists section ds depth trees old (grown old p to)
  pub said : Say section ds first p

module _ (section : List ℕ) (ds : List Declared) where
  both_say : (first mid : ℕ) (a b : ForestPart) → mid ≡ first + length a.values → Say section ds first a → Say section ds mid b → Say section ds first (followed a b)
  both_say first mid a b same p q before rest size =
      let one : before ++ ((a.values ++ b.values) ++ rest) ≡ before ++ (a.values ++ (b.values ++ rest)) = ap (λ z. before ++ z) (append_assoc a.values b.values rest) in
      let two : before ++ ((a.values ++ b.values) ++ rest) ≡ (before ++ a.values) ++ (b.values ++ rest) = one ∙ sym (append_assoc before a.values (b.values ++ rest)) in
      let first_say : map (described_by section ds (before ++ ((a.values ++ b.values) ++ rest))) a.entries ≡ a.says = subst (λ (z : List Value). map (described_by section ds z) a.entries ≡ a.says) (sym one) (p before (b.values ++ rest) size) in
      let size_two : length (before ++ a.values) ≡ mid = omega (arith, length-append before a.values, size, same) in
      let later_say : map (described_by section ds (before ++ ((a.values ++ b.values) ++ rest))) b.entries ≡ b.says = subst (λ (z : List Value). map (described_by section ds z) b.entries ≡ b.says) (sym two) (q (before ++ a.values) rest size_two) in
      map-append (described_by section ds (before ++ ((a.values ++ b.values) ++ rest))) a.entries b.entries ∙ ap (λ z. z ++ map (described_by section ds (before ++ ((a.values ++ b.values) ++ rest))) b.entries) first_say ∙ ap (λ z. a.says ++ z) later_say

  abbrev entry_as : ℕ → ℕ → ℕ → ℕ → ℕ → ℕ → Entry
  entry_as at to depth number first count = record { at = at; len = to - at; depth = depth; decl = number; first = first; count = count }

  abbrev said_as : ℕ → ℕ → List (ℕ × Meaning) → Described
  said_as depth number attributes = record { depth = depth; tag = (declared_at ds number).tag; children = (declared_at ds number).children; attributes = attributes }

  entry_says : (depth number first from to : ℕ) (e : Entry) (values : List Value) (says : Described) → IsEntryRead section ds depth number first from to e values says → Say section ds first (entry_part e values says)
  entry_says depth number first from to e values says r before rest size =
      let own : take (length values) (drop (length before) (before ++ (values ++ rest))) ≡ values = ap (λ z. take (length values) (drop (length before) z)) (sym (append_assoc before values rest)) ∙ own_part before values rest in
      let there : take (length values) (drop first (before ++ (values ++ rest))) ≡ values = ap (λ n. take (length values) (drop n (before ++ (values ++ rest)))) (sym size) ∙ own in
      let here : described_by section ds (before ++ (values ++ rest)) e ≡ says =
      ap (λ z. described_by section ds (before ++ (values ++ rest)) z) r.entry ∙ ap (λ z. said_as depth number (attributes_of section ((declared_at ds number).columns) z)) there ∙ sym r.said in
      ap (λ z. z ∷ []) here

  entry_adds : (depth number first from to : ℕ) (e : Entry) (values : List Value) (says : Described) (old : Listed) → IsEntryRead section ds depth number first from to e values says → old.place ≡ from → length old.values ≡ first → AddsEntry section ds depth number old (grown old (entry_part e values says) to)
  entry_adds depth number first from to e values says old r here count =
      let same : e ≡ entry_as old.place to depth number (length old.values) (length values) = r.entry ∙ ap (λ z. entry_as z to depth number first (length values)) (sym here) ∙ ap (λ z. entry_as old.place to depth number z (length values)) (sym count) in
      record {
        known = r.known;
        values_at = r.values_at;
        values = values;
        coded = subst (λ (z : ℕ). SpellsBetween (Uleb ((declared_at ds number).code)) section z r.values_at) (sym here) r.coded;
        valued = r.valued;
        entered = ap (λ z. old.entries ++ z ∷ []) same;
        listed = refl;
        ended = append-nil old.ends;
      }

  pub nothing_listed : (depth id first from : ℕ) → IsListed section ds depth NoMore id first from from no_part
  nothing_listed depth id first from = record { listed = λ old here ids count. grown_nothing old from here; said = λ before rest size. refl }

  -- an entry without children, and its later siblings
  pub leaf_listed : (depth number id first from mid to next_first : ℕ) (e : Entry) (values : List Value) (says : Described) (more : Siblings) (p : ForestPart) → IsEntryRead section ds depth number first from mid e values says → (declared_at ds number).children ≡ false → next_first ≡ first + length values → IsListed section ds depth more (id + 1) next_first mid to p → IsListed section ds depth (Tree number NoMore more) id first from to (followed (entry_part e values says) p)
  leaf_listed depth number id first from mid to next_first e values says more p r none same l = record {
    listed = λ old here ids count.
        let one : ForestPart = entry_part e values says in
        let entry : Listed = grown old one mid in
        let ids2 : length entry.entries ≡ id + 1 = omega (arith, length-append old.entries (e ∷ []), ids) in
        let count2 : length entry.values ≡ next_first = omega (arith, length-append old.values values, count, same) in
        let below : EndsChildren ((declared_at ds number).children) section (length old.entries) NoMore (Lists section ds (suc depth) NoMore) entry entry = subst (λ (z : Bool). EndsChildren z section (length old.entries) NoMore (Lists section ds (suc depth) NoMore) entry entry) (sym none) (refl, refl) in
        (entry, entry, entry_adds depth number first from mid e values says old r here count, below, subst (λ (z : Listed). Lists section ds depth more entry z) (grown_twice old one p mid to) (l.listed entry refl ids2 count2));
    said = both_say first next_first (entry_part e values says) p same (entry_says depth number first from mid e values says r) l.said;
  }

  end_says : (first id at : ℕ) → Say section ds first (end_part id at)
  end_says first id at before rest size = refl

  end_adds : (id at to : ℕ) (old : Listed) (parent : ℕ) → SpellsBetween (Uleb 0) section at to → old.place ≡ at → parent ≡ id → AddsEnd section parent old (grown old (end_part id at) to)
  end_adds id at to old parent coded here same = record {
    coded = subst (λ (z : ℕ). SpellsBetween (Uleb 0) section z to) (sym here) coded;
    entered = append-nil old.entries;
    listed = append-nil old.values;
    ended = ap (λ z. old.ends ++ (record { entry = z; at = at }) ∷ []) (sym same) ∙ ap (λ z. old.ends ++ (record { entry = parent; at = z }) ∷ []) (sym here);
  }

  -- an entry with children, the code 0 behind them, and its later siblings
  pub node_listed : (depth number id first from mid inner behind to next_id next_first : ℕ) (e : Entry) (values : List Value) (says : Described) (below more : Siblings) (inside p : ForestPart) → IsEntryRead section ds depth number first from mid e values says → (declared_at ds number).children ≡ true → IsListed section ds (suc depth) below (id + 1) (first + length values) mid inner inside → SpellsBetween (Uleb 0) section inner behind → next_id ≡ id + 1 + length inside.entries → next_first ≡ first + length values + length inside.values → IsListed section ds depth more next_id next_first behind to p → IsListed section ds depth (Tree number below more) id first from to (followed (entry_part e values says) (followed inside (followed (end_part id inner) p)))
  node_listed depth number id first from mid inner behind to next_id next_first e values says below more inside p r some i coded same_id same_first l = record {
    listed = λ old here ids count.
        let one : ForestPart = entry_part e values says in
        let entry : Listed = grown old one mid in
        let filled : Listed = grown entry inside inner in
        let chain : Listed = grown filled (end_part id inner) behind in
        let ids1 : length entry.entries ≡ id + 1 = omega (arith, length-append old.entries (e ∷ []), ids) in
        let count1 : length entry.values ≡ first + length values = omega (arith, length-append old.values values, count) in
        let ids2 : length chain.entries ≡ next_id = omega (arith, length-append filled.entries [], length-append entry.entries inside.entries, ids1, same_id) in
        let count2 : length chain.values ≡ next_first = omega (arith, length-append filled.values [], length-append entry.values inside.values, count1, same_first) in
        let closed : (s : Listed) × Lists section ds (suc depth) below entry s × AddsEnd section (length old.entries) s chain = (filled, i.listed entry refl ids1 count1, end_adds id inner behind filled (length old.entries) coded refl ids) in
        let ended : EndsChildren ((declared_at ds number).children) section (length old.entries) below (Lists section ds (suc depth) below) entry chain = subst (λ (z : Bool). EndsChildren z section (length old.entries) below (Lists section ds (suc depth) below) entry chain) (sym some) closed in
        let whole : grown chain p to ≡ grown old (followed one (followed inside (followed (end_part id inner) p))) to =
        grown_twice filled (end_part id inner) p behind to ∙ grown_twice entry inside (followed (end_part id inner) p) inner to ∙ grown_twice old one (followed inside (followed (end_part id inner) p)) mid to in
        (entry, chain, entry_adds depth number first from mid e values says old r here count, ended, subst (λ (z : Listed). Lists section ds depth more chain z) whole (l.listed chain refl ids2 count2));
    said =
        let tail : Say section ds next_first (followed (end_part id inner) p) = both_say next_first next_first (end_part id inner) p (omega arith) (end_says next_first id inner) l.said in
        let later : Say section ds (first + length values) (followed inside (followed (end_part id inner) p)) = both_say (first + length values) next_first inside (followed (end_part id inner) p) same_first i.said tail in
        both_say first (first + length values) (entry_part e values says) (followed inside (followed (end_part id inner) p)) refl (entry_says depth number first from mid e values says r) later;
  }
