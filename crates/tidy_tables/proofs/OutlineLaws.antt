-- Outlines of declarations: as they are held, in which order they are sorted, and those of declarations that have uses.
use Rattle.std.proofs.Common.{◌≡◌, ◌≤◌, ◌<◌, ◌+◌, ◌↔◌, inl, inr, ℕ, zero, suc, List, [], ◌∷◌, ◌++◌, length, take, get_or, Bool, Ordering, true, false, sym, ap, ◌∙◌, subst, refl, arith, eqb}
use Rattle.std.specs.Prelude.{Option, Some, Vec, IsTrue, ◌&&◌, slice_index}
use Rattle.std.specs.declared.cmp.Ordering.TheVariants.{Less, Equal, Greater}
use Rattle.std.specs.declared.alloc.Global.{Global}
use Rattle.std.specs.Bool.{beq}
use Rattle.std.specs.Ordering.{nat_cmp, bool_cmp, ordering_then, is_eq}
use Rattle.std.specs.Cmp.{IsTotalOrder, bool_cmp_total, booleans_Decides}
use Rattle.std.specs.Cmp.Lexicographic.{pointwise, slice_cmp, texts_ties, same_text, told_text}
use Rattle.std.specs.List.Sorted.{IsPermutation}
use Rattle.std.proofs.lemmas.Bool.{cases_Bool, cases_lt, false≢true, and_parts, and_from}
use Rattle.std.proofs.lemmas.Bool.Decides.{Decides-eqb}
use Rattle.std.proofs.lemmas.Cmp.{ranked, nat_cmp_total, nat_list_cmp_total, on_total, then_total}
use Rattle.std.proofs.lemmas.List.{map-append, take_more, get_or_read, get_or-map, length-append}
use Rattle.std.proofs.Math.ListN.{get_or-append}
use Rattle.std.proofs.Math.Seq.{get_or-append_seam}
use Rattle.std.proofs.lemmas.List.Sorted.{IsPermutation-map, IsPermutation-sym, IsPermutation-trans}
use Rattle.abbrev_tables.specs.Tables.{Declared}
use Rattle.abbrev_tables.specs.Listings.{Listing, decl_at, declared_in}
use Rattle.entry_arena.specs.Trees.{declared_at}
use Rattle.entry_read.specs.Units.{declarations_of}
use Rattle.entry_read.proofs.Declarations.{count_same, declared_is}
use Rattle.tidy_places.specs.Firsts.{IsLeastFound}
use Rattle.value_links.specs.declared.units.NamedTable.{NamedTable}
use Rattle.value_links.specs.World.{table_at}
use Rattle.tidy_tables.specs.declared.uses.Uses.{Uses}
use Rattle.tidy_tables.specs.declared.outlines.Outlines.{Outlines}
use Rattle.tidy_tables.specs.declared.outlines.Outline.{Outline as Held}
use Rattle.tidy_tables.specs.Untidy.{Outline, outline_of, outlines_of, used_among}
use Rattle.tidy_tables.specs.inside.Outlines.{outline_held, outlines_held, outline_order, AreInOrder, AreSorted, sorted_in, AreAllSorted, AreUsedIn, IsWrittenOtherwise}
use Rattle.tidy_tables.specs.inside.Marked.{IsAmong, lesser_of}
use Rattle.tidy_tables.specs.inside.UseCounts.{counts_in, AreHeldFor}
use Rattle.tidy_tables.specs.inside.WrittenTables.{place_in, AreNumbersOf}
use Rattle.tidy_tables.proofs.LeastPlaces.{among_fine, among_more}
use Rattle.tidy_tables.proofs.TablePlaces.{table_there, number_there}
use Rattle.tidy_tables.proofs.UseLaws.{counts_at}
use Rattle.tidy_tables.proofs.SortedOnce.{sorted_once, tested_same, same_tested}

-- THEIR ORDER

total : IsTotalOrder outline_order
total = then_total (on_total (λ (o : Outline). o.tag) nat_cmp_total) (then_total (on_total (λ (o : Outline). o.children) bool_cmp_total) (on_total (λ (o : Outline). o.names) nat_list_cmp_total))

both_equal : (a b : Ordering) → ordering_then a b ≡ Equal → (a ≡ Equal) × (b ≡ Equal)
both_equal Less b is = cc
both_equal Equal b is = (refl, is)
both_equal Greater b is = cc

same_children : (a b : Bool) → bool_cmp a b ≡ Equal → a ≡ b
same_children true true is = refl
same_children true false is = cc
same_children false true is = cc
same_children false false is = refl

same_names : (xs ys : List ℕ) → slice_cmp nat_cmp xs ys ≡ Equal → xs ≡ ys
same_names xs ys is = same_text xs ys (sym (texts_ties xs ys ∙ ap is_eq is))

outline_same : (x y : Outline) → x.tag ≡ y.tag → x.children ≡ y.children → x.names ≡ y.names → x ≡ y
outline_same x y tag children names = λ i. record { tag = tag i; children = children i; names = names i }

exact : (x y : Outline) → outline_order x y ≡ Equal → x ≡ y
exact x y is =
    let first = both_equal (nat_cmp x.tag y.tag) (ordering_then (bool_cmp x.children y.children) (slice_cmp nat_cmp x.names y.names)) is in
    let rest = both_equal (bool_cmp x.children y.children) (slice_cmp nat_cmp x.names y.names) first.1 in
    let tag : x.tag ≡ y.tag = ranked x.tag y.tag Equal (sym first.0) in
    outline_same x y tag (same_children x.children y.children rest.0) (same_names x.names y.names rest.1)

-- the test of two that are held
abbrev tests_same : Held → Held → Bool
tests_same a b = eqb a.tag b.tag && (beq a.children b.children && pointwise eqb a.names.items b.names.items)

tells : (a b : Held) → tests_same a b ≡ true → outline_held a ≡ outline_held b
tells a b is =
    let first = and_parts (eqb a.tag b.tag) (beq a.children b.children && pointwise eqb a.names.items b.names.items) is in
    let rest = and_parts (beq a.children b.children) (pointwise eqb a.names.items b.names.items) first.1 in
    outline_same (outline_held a) (outline_held b) ((Decides-eqb a.tag b.tag).0 first.0) ((booleans_Decides a.children b.children).0 rest.0) (same_text a.names.items b.names.items (sym rest.1))

told : (a b : Held) → outline_held a ≡ outline_held b → tests_same a b ≡ true
told a b same =
    let names : a.names.items ≡ b.names.items = ap (λ (o : Outline). o.names) same in
    let tested : pointwise eqb a.names.items b.names.items ≡ true = elim (cases_Bool (pointwise eqb a.names.items b.names.items)) [
      | inl is ↦ is
      | inr other ↦ absurd (told_text a.names.items b.names.items false (sym other) names)
    ] in
    and_from (eqb a.tag b.tag) (beq a.children b.children && pointwise eqb a.names.items b.names.items) ((Decides-eqb a.tag b.tag).1 (ap (λ (o : Outline). o.tag) same))
    (and_from (beq a.children b.children) (pointwise eqb a.names.items b.names.items) ((booleans_Decides a.children b.children).1 (ap (λ (o : Outline). o.children) same)) tested)

pub sorted_are : (ds : List Declared) (held moved : List Held) → outlines_held held ≡ outlines_of ds → IsPermutation held moved → AreInOrder moved → AreSorted ds moved
sorted_are ds held moved same permuted order = record {
  moved = subst (λ (z : List Outline). IsPermutation z (outlines_held moved)) same (IsPermutation-map outline_held held moved permuted);
  order = order;
}

-- two lists have the same outlines exactly where they are one list once they are sorted
pub sorted_answer : (us ds : List Declared) (as_sorted bs_sorted : List Held) (answer : Bool) → AreSorted us as_sorted → AreSorted ds bs_sorted → answer ≡ pointwise tests_same as_sorted bs_sorted → IsTrue answer ↔ IsPermutation (outlines_of us) (outlines_of ds)
sorted_answer us ds as_sorted bs_sorted answer one two is = (
  λ answered.
      let same : outlines_held as_sorted ≡ outlines_held bs_sorted = tested_same outline_held tests_same tells told as_sorted bs_sorted (sym is ∙ answered) in
      let across : IsPermutation (outlines_of us) (outlines_held bs_sorted) = subst (IsPermutation (outlines_of us)) same one.moved in
      IsPermutation-trans (outlines_of us) (outlines_held bs_sorted) (outlines_of ds) across (IsPermutation-sym (outlines_of ds) (outlines_held bs_sorted) two.moved),
  λ permuted.
      let back : IsPermutation (outlines_held as_sorted) (outlines_of us) = IsPermutation-sym (outlines_of us) (outlines_held as_sorted) one.moved in
      let across : IsPermutation (outlines_held as_sorted) (outlines_held bs_sorted) = IsPermutation-trans (outlines_held as_sorted) (outlines_of ds) (outlines_held bs_sorted) (IsPermutation-trans (outlines_held as_sorted) (outlines_of us) (outlines_of ds) back permuted) two.moved in
      let same : outlines_held as_sorted ≡ outlines_held bs_sorted = sorted_once outline_held outline_order total exact as_sorted bs_sorted one.order two.order across in
      is ∙ same_tested outline_held tests_same tells told as_sorted bs_sorted same,
)

-- ONE MORE DECLARATION

-- the outline of the declaration with a number
outline_there : (t : Listing) (number : ℕ) → number < length t.decls → outline_of (declared_at (declarations_of t) number) ≡ outline_of (declared_in t.specs (decl_at t.decls number))
outline_there t number inside = ap outline_of (declared_is t number inside)

pushed : (held : List Held) (o : Held) (ds : List Declared) (d : Declared) → outlines_held held ≡ outlines_of ds → outline_held o ≡ outline_of d → outlines_held (held ++ o ∷ []) ≡ outlines_of (ds ++ d ∷ [])
pushed held o ds d before here =
    map-append outline_held held (o ∷ []) ∙ ap (λ (z : List Outline). z ++ outline_held o ∷ []) before ∙ ap (λ (z : Outline). outlines_of ds ++ z ∷ []) here ∙ sym (map-append outline_of ds (d ∷ []))

pub all_more : (t : Listing) (held : List Held) (o : Held) (number : ℕ) → number < length t.decls → outlines_held held ≡ outlines_of (take number (declarations_of t)) → outline_held o ≡ outline_of (declared_in t.specs (decl_at t.decls number)) → outlines_held (held ++ o ∷ []) ≡ outlines_of (take (number + 1) (declarations_of t))
all_more t held o number inside before here =
    let size : length (declarations_of t) ≡ length t.decls = count_same t in
    let more : take (number + 1) (declarations_of t) ≡ take number (declarations_of t) ++ declared_at (declarations_of t) number ∷ [] = take_more (declarations_of t) number (record { code = 0; tag = 0; children = false; columns = [] }) (omega arith) in
    pushed held o (take number (declarations_of t)) (declared_at (declarations_of t) number) before (here ∙ sym (outline_there t number inside)) ∙ ap outlines_of (sym more)

used_one : (ds : List Declared) (us : List ℕ) (i : ℕ) → i < length ds → i < length us → 0 < get_or us i 0 → used_among (take (suc i) ds) (take (suc i) us) ≡ used_among (take i ds) (take i us) ++ declared_at ds i ∷ []
used_one [] us i inside within some = absurd (omega arith)
used_one (d ∷ ds) [] i inside within some = absurd (omega arith)
used_one (d ∷ ds) (zero ∷ us) zero inside within some = absurd (omega arith)
used_one (d ∷ ds) (suc n ∷ us) zero inside within some = refl
used_one (d ∷ ds) (zero ∷ us) (suc i) inside within some = used_one ds us i (omega arith) (omega arith) some
used_one (d ∷ ds) (suc n ∷ us) (suc i) inside within some = ap (λ (z : List Declared). d ∷ z) (used_one ds us i (omega arith) (omega arith) some)

used_none : (ds : List Declared) (us : List ℕ) (i : ℕ) → i < length ds → i < length us → get_or us i 0 ≡ 0 → used_among (take (suc i) ds) (take (suc i) us) ≡ used_among (take i ds) (take i us)
used_none [] us i inside within none = absurd (omega arith)
used_none (d ∷ ds) [] i inside within none = absurd (omega arith)
used_none (d ∷ ds) (zero ∷ us) zero inside within none = refl
used_none (d ∷ ds) (suc n ∷ us) zero inside within none = absurd (omega arith)
used_none (d ∷ ds) (zero ∷ us) (suc i) inside within none = used_none ds us i (omega arith) (omega arith) none
used_none (d ∷ ds) (suc n ∷ us) (suc i) inside within none = ap (λ (z : List Declared). d ∷ z) (used_none ds us i (omega arith) (omega arith) none)

module _ (t : Listing) (uses : List ℕ) (count : length uses ≡ length t.decls) (held : List Held) (number times : ℕ) (inside : number < length t.decls) (before : outlines_held held ≡ outlines_of (used_among (take number (declarations_of t)) (take number uses))) (times_is : times ≡ get_or uses number times) where
  times_there : times ≡ get_or uses number 0
  times_there = get_or_read uses number times (omega arith) times_is 0

  next : number + 1 ≡ suc number
  next = omega arith

  pub used_more : (o : Held) (now : List Held) → 0 < times → outline_held o ≡ outline_of (declared_in t.specs (decl_at t.decls number)) → now ≡ held ++ o ∷ [] → outlines_held now ≡ outlines_of (used_among (take (number + 1) (declarations_of t)) (take (number + 1) uses))
  used_more o now some here now_is =
      let size : length (declarations_of t) ≡ length t.decls = count_same t in
      let there : times ≡ get_or uses number 0 = times_there in
      let more : used_among (take (suc number) (declarations_of t)) (take (suc number) uses) ≡ used_among (take number (declarations_of t)) (take number uses) ++ declared_at (declarations_of t) number ∷ [] = used_one (declarations_of t) uses number (omega arith) (omega arith) (omega arith) in
      ap outlines_held now_is ∙ pushed held o (used_among (take number (declarations_of t)) (take number uses)) (declared_at (declarations_of t) number) before (here ∙ sym (outline_there t number inside)) ∙ ap outlines_of (sym more) ∙ ap (λ (z : ℕ). outlines_of (used_among (take z (declarations_of t)) (take z uses))) (sym next)

  pub used_same : (now : List Held) → times ≤ 0 → now ≡ held → outlines_held now ≡ outlines_of (used_among (take (number + 1) (declarations_of t)) (take (number + 1) uses))
  used_same now none now_is =
      let size : length (declarations_of t) ≡ length t.decls = count_same t in
      let there : times ≡ get_or uses number 0 = times_there in
      let same : used_among (take (suc number) (declarations_of t)) (take (suc number) uses) ≡ used_among (take number (declarations_of t)) (take number uses) = used_none (declarations_of t) uses number (omega arith) (omega arith) (omega arith) in
      ap outlines_held now_is ∙ before ∙ ap outlines_of (sym same) ∙ ap (λ (z : ℕ). outlines_of (used_among (take z (declarations_of t)) (take z uses))) (sym next)

-- the items of a list of outlines
abbrev pub items_of : Vec Held Global → List Held
items_of outlines = outlines.items

-- ONE MORE TABLE

abbrev sorted_items : Outlines → List Held
sorted_items o = o.sorted.items

-- the outlines of a table, as they are read from the list
sorted_at : (all : List Outlines) (i : ℕ) (o : Outlines) → i < length all → o ≡ get_or all i o → sorted_in all i ≡ o.sorted.items
sorted_at all i o inside is = get_or-map sorted_items all i o [] inside ∙ ap sorted_items (sym is)

pub all_sorted_more : (tables items : List NamedTable) (k : ℕ) (all : List Outlines) (o : Outlines) (named : NamedTable) → items ≡ tables → k < length items → named ≡ get_or items k named → AreAllSorted tables k all → AreSorted (declarations_of named.table) o.sorted.items → AreAllSorted tables (k + 1) (all ++ o ∷ [])
all_sorted_more tables items k all o named same inside named_is before here =
    let size : length all ≡ k = before.size in
    let longer : length (all ++ o ∷ []) ≡ length all + 1 = length-append all (o ∷ []) in
    let known : k < length tables = subst (λ (z : List NamedTable). k < length z) same inside in
    let there : named ≡ table_at tables k = table_there tables k named known (subst (λ (z : List NamedTable). named ≡ get_or z k named) same named_is) in
    record {
      size = omega arith;
      each = λ i below. elim (cases_lt i k) [
        | inl earlier ↦
            let old : sorted_in all i ≡ sorted_items (get_or all i o) = get_or-map sorted_items all i o [] (omega arith) in
            let new : sorted_in (all ++ o ∷ []) i ≡ sorted_items (get_or (all ++ o ∷ []) i o) = get_or-map sorted_items (all ++ o ∷ []) i o [] (omega arith) in
            let stays : get_or (all ++ o ∷ []) i o ≡ get_or all i o = get_or-append all (o ∷ []) o i (omega arith) in
            subst (AreSorted (declarations_of (table_at tables i).table)) (sym (new ∙ ap sorted_items stays ∙ sym old)) (before.each i earlier)
        | inr late ↦
            let this : length all ≡ i = omega arith in
            let new : sorted_in (all ++ o ∷ []) i ≡ sorted_items (get_or (all ++ o ∷ []) i o) = get_or-map sorted_items (all ++ o ∷ []) i o [] (omega arith) in
            let last : get_or (all ++ o ∷ []) i o ≡ o = subst (λ (z : ℕ). get_or (all ++ o ∷ []) z o ≡ o) this (get_or-append_seam all o [] o) in
            let mine : k ≡ i = omega arith in
            subst (AreSorted (declarations_of (table_at tables i).table)) (sym (new ∙ ap sorted_items last))
            (subst (λ (z : ℕ). AreSorted (declarations_of (table_at tables z).table) o.sorted.items) mine (subst (λ (z : NamedTable). AreSorted (declarations_of z.table) o.sorted.items) there here))
      ];
    }

pub all_sorted : (tables : List NamedTable) (k : ℕ) (all : List Outlines) → k ≡ length tables → AreAllSorted tables k all → AreAllSorted tables (length tables) all
all_sorted tables k all same are = subst (λ (z : ℕ). AreAllSorted tables z all) same are

-- TABLES

module _ (old : List NamedTable) (all : List Uses) (written : List ℕ) (new : List NamedTable) (held : AreHeldFor old all) (count : length written ≡ length old) (numbers : AreNumbersOf new written) (k : ℕ) (inside : k < length written) (own : NamedTable) (own_is : own ≡ get_or old k own) (uses : Uses) (uses_is : uses ≡ get_or all k uses) where
  own_there : own ≡ table_at old k
  own_there = table_there old k own (omega arith) own_is

  counts_there : counts_in all k ≡ uses.counts.items
  counts_there = (let size = held.count in counts_at all k uses (omega arith) uses_is)

  pub as_many : length uses.counts.items ≡ length own.table.decls
  as_many = ap length (sym counts_there) ∙ held.each k (omega arith) ∙ sym (ap (λ (z : NamedTable). length z.table.decls) own_there)

  module _ (outlines : List Outlines) (sorted : AreAllSorted new (length new) outlines) (number : ℕ) (number_is : number ≡ get_or written k number) (o : Outlines) (o_is : o ≡ get_or outlines number o) (answer : Bool) (is : (table : Listing) → AreSorted (declarations_of table) o.sorted.items → IsTrue answer ↔ AreUsedIn own.table uses.counts.items table) (found : Option ℕ) (before : IsLeastFound (IsAmong (IsWrittenOtherwise old all written new) (λ i. place_in new (slice_index written i)) k) found) where
    number_is_there : number ≡ slice_index written k
    number_is_there = number_there written k number inside number_is

    known : slice_index written k < length new
    known = numbers k inside

    sorted_there : AreSorted (declarations_of (table_at new (slice_index written k)).table) o.sorted.items
    sorted_there =
        let size = sorted.size in
        let within = known in
        let there : o ≡ get_or outlines (slice_index written k) o = subst (λ (z : ℕ). o ≡ get_or outlines z o) number_is_there o_is in
        subst (AreSorted (declarations_of (table_at new (slice_index written k)).table)) (sorted_at outlines (slice_index written k) o (omega arith) there) (sorted.each (slice_index written k) within)

    answered : IsTrue answer ↔ AreUsedIn (table_at old k).table (counts_in all k) (table_at new (slice_index written k)).table
    answered =
        subst (λ (z : List ℕ). IsTrue answer ↔ AreUsedIn (table_at old k).table z (table_at new (slice_index written k)).table) (sym counts_there)
        (subst (λ (z : NamedTable). IsTrue answer ↔ AreUsedIn z.table uses.counts.items (table_at new (slice_index written k)).table) own_there (is (table_at new (slice_index written k)).table sorted_there))

    pub other_more : (table : NamedTable) (now least : Option ℕ) → answer ≡ false → table ≡ get_or new number table → now ≡ lesser_of found (Some table.place) → least ≡ now → IsLeastFound (IsAmong (IsWrittenOtherwise old all written new) (λ i. place_in new (slice_index written i)) (k + 1)) least
    other_more table now least other table_is now_is least_is =
        let there : table ≡ table_at new (slice_index written k) = table_there new (slice_index written k) table known (subst (λ (z : ℕ). table ≡ get_or new z table) number_is_there table_is) in
        let amiss : IsWrittenOtherwise old all written new k = λ same. false≢true (sym other ∙ answered.1 same) in
        let more = among_more (IsWrittenOtherwise old all written new) (λ i. place_in new (slice_index written i)) k found before amiss in
        let final : lesser_of found (Some (place_in new (slice_index written k))) ≡ least = sym (least_is ∙ now_is ∙ ap (λ (z : NamedTable). lesser_of found (Some z.place)) there) in
        subst (IsLeastFound (IsAmong (IsWrittenOtherwise old all written new) (λ i. place_in new (slice_index written i)) (k + 1))) final more

    pub other_fine : (least : Option ℕ) → answer ≡ true → least ≡ found → IsLeastFound (IsAmong (IsWrittenOtherwise old all written new) (λ i. place_in new (slice_index written i)) (k + 1)) least
    other_fine least same least_is =
        subst (IsLeastFound (IsAmong (IsWrittenOtherwise old all written new) (λ i. place_in new (slice_index written i)) (k + 1))) (sym least_is) (among_fine (IsWrittenOtherwise old all written new) (λ i. place_in new (slice_index written i)) k found before (λ amiss. amiss (answered.0 same)))
