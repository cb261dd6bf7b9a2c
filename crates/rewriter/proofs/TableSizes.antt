-- How many bytes an abbreviation table has at most when it is written anew: each number that it holds fits 64 bits, and so has at
-- most ten bytes.
use Rattle.std.proofs.Common.{◌≡◌, ◌≤◌, ◌<◌, ◌+◌, ◌*◌, ◌-◌, ◌^◌, inl, inr, ℕ, zero, suc, List, [], ◌∷◌, ◌++◌, length, map, take, drop, get_or, cond, ltb, Bool, true, false, ap, ◌∙◌, subst, arith}
use Rattle.std.specs.Prelude.{ℤ, pos, negsuc, FitsSigned}
use Rattle.std.specs.Int.{w64}
use Rattle.std.specs.List.{All, sum_by}
use Rattle.std.proofs.lemmas.Bool.{cases_lt, cond_both, cond-true, ltb-true, lt-ltb}
use Rattle.std.proofs.lemmas.List.{length-append, length-drop, length-take, length-take-le}
use Rattle.std.proofs.lemmas.List.Elements.{All-head, All-tail}
use Rattle.std.proofs.lemmas.List.Sorted.{sum_by-IsPermutation}
use Rattle.std.proofs.lemmas.List.Sums.{sum_by-cons, sum_by-le, sum_by-le-sum_by, sum_by_push}
use Rattle.spelled.specs.Spelled.{Joined}
use Rattle.leb_codec.specs.Leb.{ShortestUnsigned, ShortestSigned, magnitude}
use Rattle.leb_codec.proofs.Lens.{least_below, least_below_signed, halved}
use Rattle.form_codec.proofs.Codes.{code_range}
use Rattle.elf_place.proofs.Totals.{total}
use Rattle.abbrev_tables.specs.declared.decl.Decl.{Decl}
use Rattle.abbrev_tables.specs.declared.decl.Spec.{Spec}
use Rattle.abbrev_tables.specs.Tables.{SpellsChildren, Declared}
use Rattle.abbrev_tables.specs.Listings.{Listing, decl_at}
use Rattle.abbrev_tables.specs.Written.{ShortestConstant, ShortestColumn, ShortestColumns, ShortestDeclared, ShortestTable, IsWritableColumn, IsWritable, IsWrittenOf, used_among, renumbered}
use Rattle.entry_read.specs.Units.{IsTable}
use Rattle.rewriter.specs.inside.Tables.{TableAnew}
use Rattle.rewriter.specs.inside.Appended.{IsAppended}
use Rattle.rewriter.proofs.TermSums.{sum_by-map}
use Rattle.rewriter.proofs.Renumbers.{AreNumbersOf}
use Rattle.rewriter.proofs.Writables.{tags_narrow, writable}
use Rattle.rewriter.proofs.Appends.{numbers_fit}

-- NUMBERS

unsigned_most : (value : ℕ) (bytes : List ℕ) → value < 2 ^ 64 → ShortestUnsigned value bytes → length bytes ≤ 10
unsigned_most value bytes small s = omega (arith, s.1, least_below value 10 (record { some = omega arith; below = omega arith }))

magnitude_small : (value : ℤ) → FitsSigned w64 value → magnitude value < 2 ^ 63
magnitude_small (pos n) fits = fits.sfits
magnitude_small (negsuc n) fits = fits.sfits

signed_most : (value : ℤ) (bytes : List ℕ) → FitsSigned w64 value → ShortestSigned value bytes → length bytes ≤ 10
signed_most value bytes fits s =
    let small : magnitude value < 2 ^ 63 = magnitude_small value fits in
    omega (arith, s.1, least_below_signed value 10 (halved value 10 (record { some = omega arith; below = omega (arith, small) })))

-- THINGS ONE AFTER THE OTHER

joined_most : {V : Type 0} (S : V → List ℕ → Type 0) (P : V → Type 0) (most : V → ℕ) → ((v : V) (b : List ℕ) → P v → S v b → length b ≤ most v) → (vs : List V) (bytes : List ℕ) → All P vs → Joined S vs bytes → length bytes ≤ sum_by most vs
joined_most S P most each [] bytes all joined = omega (arith, ap length joined)
joined_most S P most each (v ∷ vs) bytes all (first, rest, s, more, whole) =
    omega (arith, ap length whole, length-append first rest, each v first (All-head P v vs all) s, joined_most S P most each vs rest (All-tail P v vs all) more, sum_by-cons most v vs)

-- DECLARATIONS

constant_most : (form : ℕ) (constant : ℤ) (bytes : List ℕ) → (form ≡ 33 → FitsSigned w64 constant) → ShortestConstant form constant bytes → length bytes ≤ 10
constant_most form constant bytes fits (inl (is, s)) = signed_most constant bytes (fits is) s
constant_most form constant bytes fits (inr (other, none)) = omega (arith, ap length none)

constant_fits : (c : Spec) → IsWritableColumn c → c.form ≡ 33 → FitsSigned w64 c.constant
constant_fits c w is = elim w.constant [
  | inl own ↦ own.1
  | inr other ↦ absurd (other.0 is)
]

-- a name, a form and a constant
column_most : (c : Spec) (bytes : List ℕ) → IsWritableColumn c → ShortestColumn c bytes → length bytes ≤ 30
column_most c bytes w (name, rest, n, (form, constant, f, k, inner), whole) =
    let code : c.form ≤ 44 = (code_range c.form w.known).1 in
    omega (arith, ap length whole, length-append name rest, ap length inner, length-append form constant, unsigned_most c.name name (omega (arith, w.narrow)) n, unsigned_most c.form form (omega (arith, code)) f, constant_most c.form c.constant constant (constant_fits c w) k)

columns_most : (cs : List Spec) (bytes : List ℕ) → All IsWritableColumn cs → ShortestColumns cs bytes → length bytes ≤ 2 + 30 * length cs
columns_most cs bytes all (front, end, joined, ending, whole) =
    omega (arith, ap length whole, length-append front end, ap length ending, joined_most ShortestColumn IsWritableColumn (λ (c : Spec). 30) column_most cs front all joined, sum_by-le (λ (c : Spec). 30) 30 cs (λ k d inside. omega arith))

children_most : (children : Bool) (bytes : List ℕ) → SpellsChildren children bytes → length bytes ≡ 1
children_most true bytes is = ap length is
children_most false bytes is = ap length is

-- so many bytes a declaration with so many columns has at most
abbrev pub declared_most : ℕ → ℕ
declared_most count = 23 + 30 * count

-- a code, a tag, whether there are children, and the columns
declaration_most : (d : Declared) (bytes : List ℕ) → IsWritable d → ShortestDeclared d bytes → length bytes ≤ declared_most (length d.columns)
declaration_most d bytes w (code, after_code, c, (tag, after_tag, t, (flag, columns, ch, cs, whole_2), whole_1), whole_0) =
    omega (arith, ap length whole_0, length-append code after_code, ap length whole_1, length-append tag after_tag, ap length whole_2, length-append flag columns, unsigned_most d.code code w.fits c, unsigned_most d.tag tag (omega (arith, w.narrow)) t, children_most d.children flag ch, columns_most d.columns columns w.columns cs)

-- TABLES

spelled_most : (ds : List Declared) (bytes : List ℕ) → All IsWritable ds → ShortestTable ds bytes → length bytes ≤ 1 + sum_by (λ (d : Declared). declared_most (length d.columns)) ds
spelled_most ds bytes all (front, end, joined, ending, whole) =
    omega (arith, ap length whole, length-append front end, ap length ending, joined_most ShortestDeclared IsWritable (λ (d : Declared). declared_most (length d.columns)) declaration_most ds front all joined)

-- a declaration has at most as many columns as it had
renumbered_most : (decls : List Decl) (columns : List Spec) (used : ℕ × ℕ) → declared_most (length (renumbered decls columns used).columns) ≤ declared_most (decl_at decls used.1).count
renumbered_most decls columns used =
    let d : Decl = decl_at decls used.1 in
    omega (arith, length-take d.count (drop d.first columns))

-- the bytes of a declaration, where entries have it
abbrev pub used_most : List Decl → List ℕ → ℕ → ℕ
used_most decls uses k = cond (ltb 0 (get_or uses k 0)) (declared_most (decl_at decls k).count) 0

-- those that have a new number are used
among_most : (decls : List Decl) (uses numbers : List ℕ) (n : ℕ) → ((k : ℕ) → k < n → 0 < get_or numbers k 0 → 0 < get_or uses k 0) → sum_by (λ (used : ℕ × ℕ). declared_most (decl_at decls used.1).count) (used_among numbers n) ≤ total (used_most decls uses) n
among_most decls uses numbers zero have = omega arith
among_most decls uses numbers (suc n) have =
    let most : ℕ × ℕ → ℕ = λ (used : ℕ × ℕ). declared_most (decl_at decls used.1).count in
    let before : sum_by most (used_among numbers n) ≤ total (used_most decls uses) n = among_most decls uses numbers n (λ k below. have k (omega arith)) in
    cond_both (ltb 0 (get_or numbers n 0)) (used_among numbers n ++ (get_or numbers n 0, n) ∷ []) (used_among numbers n) (λ (us : List (ℕ × ℕ)). sum_by most us ≤ total (used_most decls uses) (suc n))
    (λ some.
    let own : used_most decls uses n ≡ declared_most (decl_at decls n).count = cond-true {A = ℕ} (ltb 0 (get_or uses n 0)) (declared_most (decl_at decls n).count) 0 (lt-ltb 0 (get_or uses n 0) (have n (omega arith) (ltb-true 0 (get_or numbers n 0) some))) in
    omega (arith, sum_by_push most (used_among numbers n) (get_or numbers n 0, n), before, own))
    (λ none. omega (arith, before))

-- the bytes of a table with these uses of its declarations
abbrev pub table_most : Listing → List ℕ → ℕ
table_most old uses = 1 + total (used_most old.decls uses) (length old.decls)

module _ (old : Listing) (known : IsTable old) (uses : List ℕ) (count : length uses ≡ length old.decls) (before section : List ℕ) (new : TableAnew) (fine : All IsWritableColumn new.columns) (appended : IsAppended old uses before section new) where
  numbers_of : AreNumbersOf uses new.numbers
  numbers_of =
      let member = appended.stands.least.member in
      record {
        same_length = member.same_length;
        unused = λ i inside. (
          λ none. elim (cases_lt 0 (get_or uses i 0)) [
            | inl some ↦ absurd (omega (arith, member.positive i (record { inside = inside; some = some }), none))
            | inr no_use ↦ omega arith
          ],
          member.unused i inside,
        );
        one_to_one = member.one_to_one;
        first = appended.stands.first;
      }

  same : length new.numbers ≡ length old.decls
  same = numbers_of.same_length ∙ count

  used_here : (k : ℕ) → k < length new.numbers → 0 < get_or new.numbers k 0 → 0 < get_or uses k 0
  used_here k below some = elim (cases_lt 0 (get_or uses k 0)) [
    | inl has ↦ has
    | inr none ↦ absurd (omega (arith, (numbers_of.unused k (omega (arith, below, same, count))).1 (omega arith), some))
  ]

  written_most : (bytes : List ℕ) → IsWrittenOf old.decls new.numbers new.columns bytes → length bytes ≤ table_most old uses
  written_most bytes written =
      let order : List (ℕ × ℕ) = written.order in
      let most : ℕ × ℕ → ℕ = λ (used : ℕ × ℕ). declared_most (decl_at old.decls used.1).count in
      let renewed : List Declared = map (renumbered old.decls new.columns) order in
      let can = writable old.decls (tags_narrow old known) new.columns fine uses new.numbers numbers_of (numbers_fit uses new.numbers appended.stands.least numbers_of) same order written.ordered in
      let spelled : length bytes ≤ 1 + sum_by (λ (d : Declared). declared_most (length d.columns)) renewed = spelled_most renewed bytes can written.spelled in
      let mapped = sum_by-map (λ (d : Declared). declared_most (length d.columns)) (renumbered old.decls new.columns) order in
      let narrower = sum_by-le-sum_by (λ (used : ℕ × ℕ). declared_most (length (renumbered old.decls new.columns used).columns)) most order (renumbered_most old.decls new.columns) in
      let moved : sum_by most order ≡ sum_by most (used_among new.numbers (length new.numbers)) = sum_by-IsPermutation most (used_among new.numbers (length new.numbers)) order written.ordered.used in
      let among : sum_by most (used_among new.numbers (length new.numbers)) ≤ total (used_most old.decls uses) (length new.numbers) = among_most old.decls uses new.numbers (length new.numbers) used_here in
      let among' : sum_by most (used_among new.numbers (length new.numbers)) ≤ total (used_most old.decls uses) (length old.decls) = subst (λ (n : ℕ). sum_by most (used_among new.numbers (length new.numbers)) ≤ total (used_most old.decls uses) n) same among in
      omega (arith, spelled, mapped, narrower, moved, among')

  -- the section grows by no more than these
  pub few_more : length section ≤ length before + table_most old uses
  few_more =
      let stands = appended.stands.stands in
      let end = appended.stands.listing.end in
      let size : length (take (end - new.at) (drop new.at section)) ≡ end - new.at = length-take-le (end - new.at) (drop new.at section) (omega (arith, length-drop new.at section, stands.inside)) in
      omega (arith, written_most (take (end - new.at) (drop new.at section)) appended.stands.written, size, appended.at, appended.end)
