-- The uses of declarations of a file that is written anew: each has as many as the old one that is its source. So each has some, the codes take the
-- fewest bytes, and the declarations are the used ones of the old table in another order.
use Rattle.std.proofs.Common.{◌≡◌, ◌<◌, ◌+◌, inl, inr, ◌∙◌, ℕ, zero, suc, eqb, cond, Bool, List, [], ◌∷◌, length, get_or, map, ap, sym, subst, refl, arith}
use Rattle.std.specs.Prelude.{slice_index}
use Rattle.std.specs.List.Sorted.{IsPermutation}
use Rattle.std.proofs.lemmas.Bool.{cases_eq, eq-eqb, ne_eqb, cond-true, cond-false}
use Rattle.std.proofs.lemmas.Bool.Decides.{same_from_decides, Decides-eqb, Decides-like}
use Rattle.std.proofs.lemmas.List.{get_or-map, length-map, same_lists}
use Rattle.std.proofs.lemmas.List.Sorted.{IsPermutation-map}
use Rattle.leb_codec.specs.Numbering.{IsLeastNumbering}
use Rattle.abbrev_tables.specs.Tables.{Declared, codes_of}
use Rattle.entry_arena.specs.Arena.{entry_at}
use Rattle.entry_arena.specs.Trees.{declared_at}
use Rattle.entry_read.specs.Units.{HeadAndForest}
use Rattle.entry_read.proofs.Declarations.{count_same}
use Rattle.value_links.specs.Reading.{Linkable, no_unit, unit_at, declarations}
use Rattle.value_links.specs.World.{head_and_forest, named_by}
use Rattle.written_files.specs.Tidy.{IsRenewed}
use Rattle.written_files.specs.Uses.{entries_with, uses_of}
use Rattle.tidy_tables.specs.Untidy.{Outline, place_of, number_of, AreUsesOf, outline_of, outlines_of, used_among}
use Rattle.tidy_tables.specs.inside.Renewed.{AreRenewed, IsRenumbered}
use Rattle.tidy_tables.proofs.UseLaws.{uses_once, term_of}
use Rattle.tidy_tables.proofs.WrittenCodes.{one_of, unit_is, renumbered}
use Rattle.tidy_tables.proofs.WrittenDeclarations.{entry_used}
use Rattle.tidy_tables.proofs.WrittenLeast.{IsSource, AreNumbered, listed, listed_size, listed_each, rearranged, still_least}
use Rattle.tidy_tables.proofs.WrittenLists.{sum_pairs}
use Rattle.tidy_tables.proofs.WrittenNumbers.{used_from}
use Rattle.tidy_tables.proofs.WrittenPlaces.{same_old, same_written}

-- tests that hold together
same_test : (a b c d : ℕ) → (a ≡ b → c ≡ d) → (c ≡ d → a ≡ b) → eqb a b ≡ eqb c d
same_test a b c d to from = same_from_decides (eqb a b) (eqb c d) (Decides-eqb a b) (Decides-like (eqb c d) from to (Decides-eqb c d))

-- the outlines of used declarations, by their places
outlines_used : (i : ℕ) (ds : List Declared) (uses : List ℕ) (f : ℕ → Outline) → length uses ≡ length ds → ((k : ℕ) → k < length ds → f (i + k) ≡ outline_of (declared_at ds k)) → outlines_of (used_among ds uses) ≡ map f (used_from i uses)
outlines_used i [] [] f size each = refl
outlines_used i [] (n ∷ uses) f size each = absurd (omega arith)
outlines_used i (d ∷ ds) [] f size each = absurd (omega arith)
outlines_used i (d ∷ ds) (zero ∷ uses) f size each =
    outlines_used (suc i) ds uses f (omega arith) (λ k inside. ap f (let e : suc i + k ≡ i + suc k = omega arith in e) ∙ each (suc k) (omega arith))
outlines_used i (d ∷ ds) (suc n ∷ uses) f size each =
    let rest : outlines_of (used_among ds uses) ≡ map f (used_from (suc i) uses) =
    outlines_used (suc i) ds uses f (omega arith) (λ k inside. ap f (let e : suc i + k ≡ i + suc k = omega arith in e) ∙ each (suc k) (omega arith)) in
    let here : f i ≡ outline_of d = ap f (let e : i ≡ i + 0 = omega arith in e) ∙ each 0 (omega arith) in
    ap (λ (o : Outline). o ∷ outlines_of (used_among ds uses)) (sym here) ∙ ap (λ (os : List Outline). f i ∷ os) rest

-- a renewed declaration has the outline of the old one
same_outline : (old new : Declared) → IsRenewed old new → outline_of new ≡ outline_of old
same_outline old new is = λ i. record { tag = is.tag i; children = is.children i; names = is.names i }

module _ (section : List ℕ) (r s : Linkable) (are : AreRenewed section r s) (u : ℕ) (inside : u < length s.units) where
  abbrev numbered : IsRenumbered r s u
  numbered = renumbered section r s are u inside

  abbrev olds : List Declared
  olds = declarations (unit_at r u)

  abbrev news : List Declared
  news = declarations (unit_at s u)

  -- units with their entries
  abbrev old_unit : ℕ → HeadAndForest
  old_unit v = head_and_forest (unit_at r v)

  abbrev new_unit : ℕ → HeadAndForest
  new_unit v = head_and_forest (unit_at s v)

  abbrev old_units : List HeadAndForest
  old_units = map head_and_forest r.units

  abbrev new_units : List HeadAndForest
  new_units = map head_and_forest s.units

  -- the used declarations have the numbers of the written ones
  in_numbers : AreNumbered numbered.uses numbered.numbers (length news)
  in_numbers = record {
    numbered = numbered.numbered;
    count = numbered.count;
    source = λ k there. (let (i, used, number) = numbered.source k there in (i, record { used = used; number = number }));
    within = λ i used. (let (k, there, number, renewed) = numbered.each i used in omega arith);
  }

  module _ (k i : ℕ) (source : IsSource numbered.uses numbered.numbers k i) where
    -- an entry has the one in the written file where it has the other in the old one
    same_entry : (v id : ℕ) → v < length s.units → place_of r v ≡ place_of r u → id < length (unit_at s v).forest.entries → eqb (number_of s v id) k ≡ eqb (number_of r v id) i
    same_entry v id known names within =
        let entry : slice_index numbered.numbers (number_of r v id) ≡ number_of s v id + 1 = numbered.entry v id known names within in
        let number : slice_index numbered.numbers i ≡ k + 1 = source.number in
        same_test (number_of s v id) k (number_of r v id) i
        (λ same. numbered.numbered.one_to_one (number_of r v id) i (entry_used section r s are u v id numbered inside known names within) source.used (omega arith))
        (λ same. (let numbers : slice_index numbered.numbers (number_of r v id) ≡ slice_index numbered.numbers i = ap (λ (z : ℕ). slice_index numbered.numbers z) same in omega arith))

    same_entries : (v : ℕ) → v < length s.units → place_of r v ≡ place_of r u → entries_with k (new_unit v) ≡ entries_with i (old_unit v)
    same_entries v known names =
        sum_pairs (one_of k) (one_of i) (unit_at s v).forest.entries (unit_at r v).forest.entries (entry_at [] 0) (entry_at [] 0) (are.entries v known) (λ id within.
        ap (λ (b : Bool). cond {A = ℕ} b 1 0) (same_entry v id known names within))

    same_unit : (v : ℕ) → v < length s.units → term_of (place_of s u) k (new_unit v) ≡ term_of (place_of r u) i (old_unit v)
    same_unit v known = elim (cases_eq (place_of r v) (place_of r u)) [
      | inl same ↦
          let again : place_of s v ≡ place_of s u = same_written section r s are v u known inside same in
          cond-true {A = ℕ} (eqb (place_of s v) (place_of s u)) (entries_with k (new_unit v)) 0 (eq-eqb (place_of s v) (place_of s u) again)
          ∙ same_entries v known same
          ∙ sym (cond-true {A = ℕ} (eqb (place_of r v) (place_of r u)) (entries_with i (old_unit v)) 0 (eq-eqb (place_of r v) (place_of r u) same))
      | inr other ↦
          cond-false {A = ℕ} (eqb (place_of s v) (place_of s u)) (entries_with k (new_unit v)) 0 (ne_eqb (place_of s v) (place_of s u) (λ same. other (same_old section r s are v u known inside same)))
          ∙ sym (cond-false {A = ℕ} (eqb (place_of r v) (place_of r u)) (entries_with i (old_unit v)) 0 (ne_eqb (place_of r v) (place_of r u) other))
    ]

    -- so the one has as many uses as the other
    same_count : uses_of new_units (place_of s u) k ≡ uses_of old_units (place_of r u) i
    same_count =
        let new_size : length new_units ≡ length s.units = length-map s.units head_and_forest in
        let old_size : length old_units ≡ length r.units = length-map r.units head_and_forest in
        let units : length s.units ≡ length r.units = are.units in
        sum_pairs (term_of (place_of s u) k) (term_of (place_of r u) i) new_units old_units (head_and_forest no_unit) (head_and_forest no_unit) (omega arith) (λ v within.
        ap (term_of (place_of s u) k) (unit_is s.units v (omega arith)) ∙ same_unit v (omega arith) ∙ sym (ap (term_of (place_of r u) i) (unit_is r.units v (omega arith))))

  -- and each has some
  pub some_uses : (k : ℕ) → k < length news → 0 < uses_of new_units (place_of s u) k
  some_uses k there =
      let (i, source) = in_numbers.source k there in
      let size : length numbered.uses ≡ length (unit_at r u).table.decls = numbered.used.count in
      let within : i < length numbered.uses = source.used.inside in
      let old : slice_index numbered.uses i ≡ uses_of old_units (place_of r u) i = numbered.used.each i (omega arith) in
      let some : 0 < slice_index numbered.uses i = source.used.some in
      let same = same_count k i source in
      omega arith

  module _ (uses : List ℕ) (used : AreUsesOf s u uses) where
    uses_size : length uses ≡ length news
    uses_size = used.count ∙ sym (count_same (unit_at s u).table)

    same_uses : (k i : ℕ) → k < length news → IsSource numbered.uses numbered.numbers k i → slice_index uses k ≡ slice_index numbered.uses i
    same_uses k i there source =
        let new_size : length news ≡ length (unit_at s u).table.decls = count_same (unit_at s u).table in
        let old_size : length numbered.uses ≡ length (unit_at r u).table.decls = numbered.used.count in
        let within : i < length numbered.uses = source.used.inside in
        used.each k (omega arith) ∙ same_count k i source ∙ sym (numbered.used.each i (omega arith))

    -- each declaration of the written file has uses
    pub used_again : (k : ℕ) → k < length uses → 0 < slice_index uses k
    used_again k there =
        let size = uses_size in
        let count : length uses ≡ length (unit_at s u).table.decls = used.count in
        let some = some_uses k (omega arith) in
        let is = used.each k (omega arith) in
        omega arith

    -- the codes are a least numbering
    pub codes_least : IsLeastNumbering uses (codes_of news)
    codes_least =
        still_least numbered.uses numbered.numbers (length news) in_numbers uses uses_size same_uses (codes_of news) (length-map news (λ (d : Declared). d.code))
        (λ k there. get_or-map (λ (d : Declared). d.code) news k (declared_at [] 0) 0 there ∙ numbered.code k there) numbered.least

  -- DECLARATIONS

  abbrev outline_at : ℕ → Outline
  outline_at i = outline_of (declared_at olds i)

  -- a declaration has the outline of its source
  outline_of_source : (k i : ℕ) → IsSource numbered.uses numbered.numbers k i → outline_of (declared_at news k) ≡ outline_at i
  outline_of_source k i source =
      let (l, there, number, renewed) = numbered.each i source.used in
      let again : slice_index numbered.numbers i ≡ k + 1 = source.number in
      let same : l ≡ k = omega arith in
      ap (λ (z : ℕ). outline_of (declared_at news z)) (sym same) ∙ same_outline (declared_at olds i) (declared_at news l) renewed

  -- the sources of the declarations, in their order
  abbrev sources : List ℕ
  sources = listed numbered.uses numbered.numbers (length news) in_numbers

  outlines_written : map outline_at sources ≡ outlines_of news
  outlines_written =
      let size : length sources ≡ length news = listed_size numbered.uses numbered.numbers (length news) in_numbers in
      let left : length (map outline_at sources) ≡ length sources = length-map sources outline_at in
      let right : length (outlines_of news) ≡ length news = length-map news outline_of in
      same_lists (map outline_at sources) (outlines_of news) (omega arith) (λ k d within.
      get_or-map outline_at sources k 0 d (omega arith)
      ∙ sym (outline_of_source k (get_or sources k 0) (listed_each numbered.uses numbered.numbers (length news) in_numbers k (omega arith)))
      ∙ sym (get_or-map outline_of news k (declared_at [] 0) d (omega arith)))

  -- the declarations of the written table are the used ones of the old one, in another order
  pub outlines_same : (uses : List ℕ) → AreUsesOf r u uses → IsPermutation (outlines_of (used_among olds uses)) (outlines_of news)
  outlines_same uses used =
      let one : uses ≡ numbered.uses = uses_once old_units (named_by (unit_at r u)) uses numbered.uses used numbered.used in
      let size : length numbered.uses ≡ length olds = numbered.used.count ∙ sym (count_same (unit_at r u).table) in
      let used_ones : outlines_of (used_among olds numbered.uses) ≡ map outline_at (used_from 0 numbered.uses) =
      outlines_used 0 olds numbered.uses outline_at size (λ k there. ap outline_at (let e : 0 + k ≡ k = omega arith in e)) in
      let before : map outline_at (used_from 0 numbered.uses) ≡ outlines_of (used_among olds uses) = sym used_ones ∙ ap (λ (z : List ℕ). outlines_of (used_among olds z)) (sym one) in
      let moved : IsPermutation (map outline_at (used_from 0 numbered.uses)) (map outline_at sources) =
      IsPermutation-map outline_at (used_from 0 numbered.uses) sources (rearranged numbered.uses numbered.numbers (length news) in_numbers) in
      subst (λ (z : List Outline). IsPermutation z (outlines_of news)) before (subst (IsPermutation (map outline_at (used_from 0 numbered.uses))) outlines_written moved)
