-- The declarations of a table that is written anew: the codes are the numbers from 1 on, each is that of an old declaration that is used, and the
-- entries have them.
use Rattle.std.proofs.Common.{◌≡◌, ◌≤◌, ◌<◌, ◌+◌, ◌⊎◌, inl, inr, ◌∙◌, ℕ, eqb, cond, List, [], length, get_or, map, ap, sym, subst, arith}
use Rattle.std.specs.Prelude.{slice_index}
use Rattle.std.proofs.lemmas.Bool.{cases_Bool, cases_lt, eqb-true, cond-true, cond-false, eq-eqb}
use Rattle.std.proofs.lemmas.List.{get_or-map, length-map}
use Rattle.std.proofs.lemmas.List.Sums.{get_or-le-sum_by}
use Rattle.leb_codec.specs.Numbering.{IsUsed, IsNumbering, numbering_size, used_count, number_bytes}
use Rattle.abbrev_tables.specs.Listings.{Listing}
use Rattle.abbrev_tables.specs.Tables.{Declared}
use Rattle.entry_arena.specs.declared.entry.Entry.{Entry}
use Rattle.entry_arena.specs.Arena.{entry_at}
use Rattle.entry_arena.specs.Trees.{declared_at}
use Rattle.entry_read.specs.Units.{HeadAndForest, declarations_of}
use Rattle.value_links.specs.Reading.{UnitRead, Linkable, no_unit, unit_at, unit_among, declarations}
use Rattle.value_links.specs.World.{head_and_forest, named_by}
use Rattle.written_files.specs.Classes.{HaveCodes, HasLeastCodes, HasOrderedCodes}
use Rattle.written_files.specs.Tidy.{IsTidyTable, IsRenewed}
use Rattle.written_files.specs.Uses.{entries_with, uses_of}
use Rattle.tidy_tables.specs.Untidy.{place_of, number_of, AreUsesOf}
use Rattle.tidy_tables.specs.inside.Renewed.{AreRenewed, IsRenumbered}
use Rattle.tidy_tables.proofs.UseLaws.{uses_once, term_of}
use Rattle.tidy_tables.proofs.WrittenLists.{some_term}
use Rattle.tidy_tables.proofs.WrittenNumbers.{code_is, size_used}
use Rattle.tidy_tables.proofs.WrittenPlaces.{old_known, tidy_table, listing_is, same_table, same_written}

-- USES AND ENTRIES

abbrev pub one_of : ℕ → Entry → ℕ
one_of number e = cond (eqb e.decl number) 1 0

-- the unit with a number, among those without their tables
pub unit_is : (units : List UnitRead) (u : ℕ) → u < length units → get_or (map head_and_forest units) u (head_and_forest no_unit) ≡ head_and_forest (unit_among units u)
unit_is units u inside = get_or-map head_and_forest units u no_unit (head_and_forest no_unit) inside

-- a declaration that an entry has
pub record IsHad (r : Linkable) (place number : ℕ) : Type 0 where
  pub u : ℕ
  pub id : ℕ
  pub known : u < length r.units
  pub names : place_of r u ≡ place
  pub inside : id < length (unit_at r u).forest.entries
  pub has : number_of r u id ≡ number

-- where a test holds or a number is 0, and it isn't, the test holds
when_some : (b c : ℕ) (n : ℕ) → 0 < cond (eqb b c) n 0 → (b ≡ c) × (0 < n)
when_some b c n some = elim (cases_Bool (eqb b c)) [
  | inl holds ↦ (eqb-true b c holds, subst (λ (z : ℕ). 0 < z) (cond-true {A = ℕ} (eqb b c) n 0 holds) some)
  | inr fails ↦ (let none : 0 < 0 = subst (λ (z : ℕ). 0 < z) (cond-false {A = ℕ} (eqb b c) n 0 fails) some in absurd (omega arith))
]

module _ (r : Linkable) (place number : ℕ) where
  abbrev units : List HeadAndForest
  units = map head_and_forest r.units

  abbrev unit : ℕ → HeadAndForest
  unit u = head_and_forest (unit_at r u)

  -- a declaration that has uses is had by an entry
  pub had : 0 < uses_of units place number → IsHad r place number
  had some =
      let (u, known, here) = some_term (term_of place number) units (head_and_forest no_unit) some in
      let size : length units ≡ length r.units = length-map r.units head_and_forest in
      let inside : u < length r.units = omega arith in
      let there : 0 < term_of place number (unit u) = subst (λ (z : HeadAndForest). 0 < term_of place number z) (unit_is r.units u inside) here in
      let (names, more) = when_some (place_of r u) place (entries_with number (unit u)) there in
      let (id, within, is) = some_term (one_of number) (unit_at r u).forest.entries (entry_at [] 0) more in
      record { u = u; id = id; known = inside; names = names; inside = within; has = (when_some (number_of r u id) number 1 is).0 }

  -- one that is had has uses
  pub has_uses : (u id : ℕ) → u < length r.units → place_of r u ≡ place → id < length (unit_at r u).forest.entries → number_of r u id ≡ number → 0 < uses_of units place number
  has_uses u id known names inside has =
      let one : one_of number (entry_at (unit_at r u).forest.entries id) ≡ 1 = cond-true {A = ℕ} (eqb (number_of r u id) number) 1 0 (eq-eqb (number_of r u id) number has) in
      let more : one_of number (entry_at (unit_at r u).forest.entries id) ≤ entries_with number (unit u) =
      get_or-le-sum_by (one_of number) (unit_at r u).forest.entries id (entry_at [] 0) inside in
      let here : term_of place number (unit u) ≡ entries_with number (unit u) =
      cond-true {A = ℕ} (eqb (place_of r u) place) (entries_with number (unit u)) 0 (eq-eqb (place_of r u) place names) in
      let there : term_of place number (get_or units u (head_and_forest no_unit)) ≡ term_of place number (unit u) = ap (term_of place number) (unit_is r.units u known) in
      let sum : term_of place number (get_or units u (head_and_forest no_unit)) ≤ uses_of units place number =
      get_or-le-sum_by (term_of place number) units u (head_and_forest no_unit) (omega (arith, length-map r.units head_and_forest)) in
      omega arith

-- NUMBERS

-- numbers of used declarations are the codes of entries, so two lists of them are the same
one_code : (r s : Linkable) (u : ℕ) (uses xs ys : List ℕ) → AreUsesOf r u uses → HaveCodes r s (place_of r u) xs → HaveCodes r s (place_of r u) ys → (i : ℕ) → IsUsed uses i → slice_index xs i ≡ slice_index ys i
one_code r s u uses xs ys used first second i is =
    let count : length uses ≡ length (unit_at r u).table.decls = used.count in
    let within : i < length uses = is.inside in
    let use_is : slice_index uses i ≡ uses_of (map head_and_forest r.units) (place_of r u) i = used.each i (omega arith) in
    let some : 0 < slice_index uses i = is.some in
    let had_by : IsHad r (place_of r u) i = had r (place_of r u) i (omega arith) in
    let one = first had_by.u had_by.id had_by.known had_by.names had_by.inside in
    let other = second had_by.u had_by.id had_by.known had_by.names had_by.inside in
    ap (λ (z : ℕ). get_or xs z 0) (sym had_by.has) ∙ sym one ∙ other ∙ ap (λ (z : ℕ). get_or ys z 0) had_by.has

-- numbers that are the same for the used ones take as many bytes
one_size : (uses xs ys : List ℕ) → length xs ≡ length uses → length ys ≡ length uses → ((i : ℕ) → IsUsed uses i → slice_index xs i ≡ slice_index ys i) → numbering_size uses xs ≡ numbering_size uses ys
one_size uses xs ys first second same =
    let bytes : ℕ → ℕ = λ j. number_bytes (get_or uses j 0) (get_or xs j 0) in
    size_used 0 uses xs bytes first (λ k inside. ap bytes (let e : 0 + k ≡ k = omega arith in e))
    ∙ sym (size_used 0 uses ys bytes second (λ k inside. ap bytes (let e : 0 + k ≡ k = omega arith in e) ∙ bytes_same k inside (cases_lt 0 (get_or uses k 0))))
  where
    bytes_same : (k : ℕ) → k < length uses → (0 < get_or uses k 0) ⊎ (get_or uses k 0 ≤ 0) → number_bytes (get_or uses k 0) (get_or xs k 0) ≡ number_bytes (get_or uses k 0) (get_or ys k 0)
    bytes_same k inside (inl some) = ap (number_bytes (get_or uses k 0)) (same k (record { inside = inside; some = some }))
    bytes_same k inside (inr none) =
        let zero_uses : get_or uses k 0 ≡ 0 = omega arith in
        ap (λ (z : ℕ). number_bytes z (get_or xs k 0)) zero_uses ∙ ap (λ (z : ℕ). number_bytes z (get_or ys k 0)) (sym zero_uses)

-- ONE TABLE

module _ (section : List ℕ) (r s : Linkable) (are : AreRenewed section r s) (u : ℕ) (inside : u < length s.units) where
  abbrev tidy : IsTidyTable r s section (named_by (unit_at r u)) (place_of s u)
  tidy = tidy_table section r s are u inside

  abbrev olds : List Declared
  olds = declarations (unit_at r u)

  abbrev news : List Declared
  news = declarations (unit_at s u)

  listing : tidy.listing ≡ (unit_at s u).table
  listing = listing_is section r s are u inside

  count : length news ≡ used_count tidy.uses
  count = subst (λ (t : Listing). length (declarations_of t) ≡ used_count tidy.uses) listing tidy.only

  rising : (k l : ℕ) → k < l → l < length news → (declared_at news k).code < (declared_at news l).code
  rising = subst (λ (t : Listing). (k l : ℕ) → k < l → l < length (declarations_of t) → (declared_at (declarations_of t) k).code < (declared_at (declarations_of t) l).code) listing tidy.rising

  -- a used declaration is written
  written : (i : ℕ) → IsUsed tidy.uses i → (k : ℕ) × (k < length news) × ((declared_at news k).code ≡ slice_index tidy.numbers i) × IsRenewed (declared_at olds i) (declared_at news k)
  written = subst (λ (t : Listing). (i : ℕ) → IsUsed tidy.uses i → (k : ℕ) × (k < length (declarations_of t)) × ((declared_at (declarations_of t) k).code ≡ slice_index tidy.numbers i) × IsRenewed (declared_at olds i) (declared_at (declarations_of t) k)) listing tidy.each

  ordered : HasOrderedCodes r s u
  ordered = are.first u (old_known section r s are u inside)

  thrifty : HasLeastCodes r s u
  thrifty = are.codes u (old_known section r s are u inside)

  -- each number up to how many are used is one
  numbered_all : (c : ℕ) → 1 ≤ c → c ≤ length news → (i : ℕ) × IsUsed tidy.uses i × (slice_index tidy.numbers i ≡ c)
  numbered_all c low high =
      let same : ordered.uses ≡ tidy.uses = uses_once (map head_and_forest r.units) (named_by (unit_at r u)) ordered.uses tidy.uses ordered.used tidy.used in
      let most : c ≤ used_count ordered.uses = subst (λ (z : List ℕ). c ≤ used_count z) (sym same) (let size = count in omega arith) in
      let (i, used, is) = (ordered.first c).0 (low, most) in
      let used_here : IsUsed tidy.uses i = subst (λ (z : List ℕ). IsUsed z i) same used in
      (i, used_here, one_code r s u tidy.uses tidy.numbers ordered.numbers tidy.used tidy.codes ordered.codes i used_here ∙ is)

  -- so the codes are the numbers from 1 on
  codes : (k : ℕ) → k < length news → (declared_at news k).code ≡ k + 1
  codes = code_is (λ k. (declared_at news k).code) (length news) rising (λ c low high.
      let (i, used, is) = numbered_all c low high in
      let (k, there, code, renewed) = written i used in
      (k, there, code ∙ is))

  least : (others : List ℕ) → IsNumbering tidy.uses others → numbering_size tidy.uses tidy.numbers ≤ numbering_size tidy.uses others
  least others member =
      let same : thrifty.uses ≡ tidy.uses = uses_once (map head_and_forest r.units) (named_by (unit_at r u)) thrifty.uses tidy.uses thrifty.used tidy.used in
      let long : length thrifty.numbers ≡ length tidy.uses = thrifty.least.member.same_length ∙ ap length same in
      let fewest : numbering_size tidy.uses thrifty.numbers ≤ numbering_size tidy.uses others =
      subst (λ (z : List ℕ). numbering_size z thrifty.numbers ≤ numbering_size z others) same
      (thrifty.least.least others (subst (λ (z : List ℕ). IsNumbering z others) (sym same) member)) in
      let size : numbering_size tidy.uses tidy.numbers ≡ numbering_size tidy.uses thrifty.numbers =
      one_size tidy.uses tidy.numbers thrifty.numbers tidy.numbered.same_length long
      (one_code r s u tidy.uses tidy.numbers thrifty.numbers tidy.used tidy.codes thrifty.codes) in
      omega arith

  -- the table of a unit is numbered from 1 on
  pub renumbered : IsRenumbered r s u
  renumbered = record {
    uses = tidy.uses;
    used = tidy.used;
    numbers = tidy.numbers;
    numbered = tidy.numbered;
    count = count;
    each = λ i used. (let (k, there, code, renewed) = written i used in (k, there, sym code ∙ codes k there, renewed));
    source = λ k there. numbered_all (k + 1) (omega arith) (omega arith);
    code = codes;
    entry = λ v id known names within.
        let there : id < length (unit_at r v).forest.entries = subst (λ (z : ℕ). id < z) (are.entries v known) within in
        let old : v < length r.units = old_known section r s are v known in
        let is : (declared_at (declarations (unit_at s v)) (number_of s v id)).code ≡ slice_index tidy.numbers (number_of r v id) = tidy.codes v id old names there in
        let one_table : (unit_at s v).table ≡ (unit_at s u).table = same_table section r s are v u known inside (same_written section r s are v u known inside names) in
        sym is
        ∙ ap (λ (t : Listing). (declared_at (declarations_of t) (number_of s v id)).code) one_table
        ∙ codes (number_of s v id) (subst (λ (t : Listing). number_of s v id < length (declarations_of t)) one_table (are.again v id known within));
    least = least;
  }
