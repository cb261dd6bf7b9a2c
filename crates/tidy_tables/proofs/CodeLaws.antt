-- The codes of a table take the fewest bytes exactly where they take no more than numbers that do.
use Rattle.std.proofs.Common.{◌≡◌, ◌≢◌, ◌≤◌, ◌<◌, ◌+◌, ◌^◌, ◌↔◌, inl, inr, ℕ, zero, suc, List, [], ◌∷◌, length, take, get_or, sym, ap, ◌∙◌, subst, arith}
use Rattle.std.specs.Prelude.{slice_index, Some, false, IsTrue, Bool}
use Rattle.std.proofs.lemmas.Bool.{cases_lt, false≢true}
use Rattle.std.proofs.lemmas.List.{get_or-map, length-map}
use Rattle.spelled.specs.Spelled.{Joined}
use Rattle.leb_codec.specs.Numbering.{IsNumbering, number_bytes, numbering_size, IsLeastNumbering}
use Rattle.abbrev_tables.specs.declared.decl.Decl.{Decl}
use Rattle.abbrev_tables.specs.Tables.{Declared, SpellsDeclared}
use Rattle.abbrev_tables.specs.Listings.{Listing, decl_at}
use Rattle.entry_arena.specs.Trees.{declared_at}
use Rattle.entry_read.specs.Units.{declarations_of, IsTable}
use Rattle.entry_read.proofs.Declarations.{count_same, declared_is, have_codes}
use Rattle.tidy_places.specs.Firsts.{IsLeastFound}
use Rattle.value_links.specs.declared.units.NamedTable.{NamedTable}
use Rattle.value_links.specs.World.{table_at}
use Rattle.tidy_tables.specs.declared.uses.Uses.{Uses}
use Rattle.tidy_tables.specs.inside.UseCounts.{counts_in, AreFew, AreHeldFor}
use Rattle.tidy_tables.specs.inside.Codes.{codes_in, HasNoUse, AreTables, IsWasteful}
use Rattle.tidy_tables.specs.inside.Marked.{IsAmong}
use Rattle.tidy_tables.specs.inside.WrittenTables.{place_in, AreByPlace}
use Rattle.tidy_tables.proofs.LeastPlaces.{among_first}
use Rattle.tidy_tables.proofs.TablePlaces.{table_there}
use Rattle.tidy_tables.proofs.UseLaws.{counts_at}

-- THE BYTES OF CODES

-- one more number
size_more : (us ns : List ℕ) (i : ℕ) → i < length us → i < length ns → numbering_size (take (suc i) us) (take (suc i) ns) ≡ numbering_size (take i us) (take i ns) + number_bytes (get_or us i 0) (get_or ns i 0)
size_more [] ns i inside within = absurd (omega arith)
size_more (u ∷ us) [] i inside within = absurd (omega arith)
size_more (u ∷ us) (n ∷ ns) zero inside within = omega arith
size_more (u ∷ us) (n ∷ ns) (suc i) inside within =
    let rest : numbering_size (take (suc i) us) (take (suc i) ns) ≡ numbering_size (take i us) (take i ns) + number_bytes (get_or us i 0) (get_or ns i 0) = size_more us ns i (omega arith) (omega arith) in
    omega arith

codes_count : (t : Listing) → length (codes_in t) ≡ length t.decls
codes_count t = length-map (declarations_of t) (λ (d : Declared). d.code) ∙ count_same t

code_there : (t : Listing) (i : ℕ) → i < length t.decls → slice_index (codes_in t) i ≡ (decl_at t.decls i).code
code_there t i inside =
    let size : length (declarations_of t) ≡ length t.decls = count_same t in
    get_or-map (λ (d : Declared). d.code) (declarations_of t) i (record { code = 0; tag = 0; children = false; columns = [] }) 0 (omega arith) ∙ ap (λ (d : Declared). d.code) (declared_is t i inside)

-- one more code and one more number
pub size_step : (uses numbers : List ℕ) (i size bytes number : ℕ) → i < length uses → i < length numbers → size ≡ numbering_size (take i uses) (take i numbers) → number ≡ slice_index numbers i → bytes ≡ number_bytes (get_or uses i 0) number → size + bytes ≡ numbering_size (take (i + 1) uses) (take (i + 1) numbers)
size_step uses numbers i size bytes number inside within size_is number_is bytes_is =
    let more : numbering_size (take (suc i) uses) (take (suc i) numbers) ≡ numbering_size (take i uses) (take i numbers) + number_bytes (get_or uses i 0) (get_or numbers i 0) = size_more uses numbers i inside within in
    let there : bytes ≡ number_bytes (get_or uses i 0) (get_or numbers i 0) = subst (λ (z : ℕ). bytes ≡ number_bytes (get_or uses i 0) z) number_is bytes_is in
    let next : i + 1 ≡ suc i = omega arith in
    subst (λ (z : ℕ). size + bytes ≡ numbering_size (take z uses) (take z numbers)) (sym next) (omega (arith, more, there, size_is))

pub size_step_code : (t : Listing) (uses : List ℕ) (i size bytes : ℕ) (d : Decl) → length uses ≡ length t.decls → i < length uses → size ≡ numbering_size (take i uses) (take i (codes_in t)) → d ≡ decl_at t.decls i → bytes ≡ number_bytes (get_or uses i 0) d.code → size + bytes ≡ numbering_size (take (i + 1) uses) (take (i + 1) (codes_in t))
size_step_code t uses i size bytes d count inside size_is d_is bytes_is =
    let known : i < length t.decls = omega arith in
    let codes : length (codes_in t) ≡ length t.decls = codes_count t in
    size_step uses (codes_in t) i size bytes d.code inside (omega arith) size_is (ap (λ (z : Decl). z.code) d_is ∙ sym (code_there t i known)) bytes_is

-- THE FEWEST BYTES

-- a code fits 64 bits
narrow_codes : (ds : List Declared) (bytes : List ℕ) (i : ℕ) → Joined SpellsDeclared ds bytes → i < length ds → (declared_at ds i).code < 2 ^ 64
narrow_codes [] bytes i joined inside = absurd (omega arith)
narrow_codes (d ∷ ds) bytes zero (first, rest, here, joined, e) inside = (let coded = here.parts.2 in coded.1)
narrow_codes (d ∷ ds) bytes (suc i) (first, rest, here, joined, e) inside = narrow_codes ds rest i joined (omega arith)

module _ (t : Listing) (known : IsTable t) (uses : List ℕ) (count : length uses ≡ length t.decls) where
  code_of : (i : ℕ) → i < length uses → slice_index (codes_in t) i ≡ (declared_at (declarations_of t) i).code
  code_of i inside =
      let declared : i < length t.decls = omega arith in
      code_there t i declared ∙ sym (ap (λ (d : Declared). d.code) (declared_is t i declared))

  some_code : (i : ℕ) → i < length uses → slice_index (codes_in t) i ≢ 0
  some_code i inside none =
      let size : length (declarations_of t) ≡ length t.decls = count_same t in
      (have_codes t known).some i (omega arith) (sym (code_of i inside) ∙ none)

  -- a declaration without uses has a code for nothing
  pub unused_no_least : HasNoUse uses → IsLeastNumbering uses (codes_in t) → ⊥
  unused_no_least (i, inside, none) least = some_code i inside (least.member.unused i inside none)

  pub unused_answer : HasNoUse uses → IsTrue false ↔ IsLeastNumbering uses (codes_in t)
  unused_answer none = (λ never. absurd (false≢true never), λ least. absurd (unused_no_least none least))

  are_numbers : (HasNoUse uses → ⊥) → IsNumbering uses (codes_in t)
  are_numbers used =
      let codes : length (codes_in t) ≡ length t.decls = codes_count t in
      let size : length (declarations_of t) ≡ length t.decls = count_same t in
      record {
        same_length = omega arith;
        unused = λ i inside none. absurd (used (i, inside, none));
        positive = λ i is. (let some : slice_index (codes_in t) i ≢ 0 = some_code i is.inside in omega arith);
        narrow = λ i is.
            let all = known.2.table.spelled in
            let inside : i < length uses = is.inside in
            subst (λ (z : ℕ). z < 2 ^ 64) (sym (code_of i inside)) (narrow_codes (declarations_of t) all.0 i all.2 (omega arith));
        one_to_one = λ i j is other same.
            let inside : i < length uses = is.inside in
            let within : j < length uses = other.inside in
            (have_codes t known).distinct i j (omega arith) (omega arith) same;
      }

  -- codes that take no more bytes than the fewest
  pub least_answer : (numbers : List ℕ) (answer : Bool) → (HasNoUse uses → ⊥) → IsLeastNumbering uses numbers → IsTrue answer ↔ (numbering_size uses (codes_in t) ≤ numbering_size uses numbers) → IsTrue answer ↔ IsLeastNumbering uses (codes_in t)
  least_answer numbers answer used best no_more = (
    λ is.
        let few : numbering_size uses (codes_in t) ≤ numbering_size uses numbers = no_more.0 is in
        record {
          member = are_numbers used;
          least = λ other member. (let least : numbering_size uses numbers ≤ numbering_size uses other = best.least other member in omega arith);
        },
    λ least. no_more.1 (least.least numbers best.member),
  )

-- TABLES

module _ (tables : List NamedTable) (all : List Uses) (held : AreHeldFor tables all) (i : ℕ) (inside : i < length tables) (named : NamedTable) (named_is : named ≡ get_or tables i named) (uses : Uses) (uses_is : uses ≡ get_or all i uses) where
  named_there : named ≡ table_at tables i
  named_there = table_there tables i named inside named_is

  counts_there : counts_in all i ≡ uses.counts.items
  counts_there = (let count = held.count in counts_at all i uses (omega arith) uses_is)

  pub stands : AreTables tables → IsTable named.table
  stands known = subst (λ (z : NamedTable). IsTable z.table) (sym named_there) (known i inside)

  pub as_many : length uses.counts.items ≡ length named.table.decls
  as_many = ap length (sym counts_there) ∙ held.each i inside ∙ sym (ap (λ (z : NamedTable). length z.table.decls) named_there)

  pub few : AreFew uses.counts.items
  few = subst AreFew counts_there (held.few i inside)

  wasteful_is : (IsLeastNumbering uses.counts.items (codes_in named.table) → ⊥) → IsWasteful tables all i
  wasteful_is more = subst (λ (z : List ℕ). IsLeastNumbering z (codes_in (table_at tables i).table) → ⊥) (sym counts_there) (subst (λ (z : NamedTable). IsLeastNumbering uses.counts.items (codes_in z.table) → ⊥) named_there more)

  thrifty_is : IsLeastNumbering uses.counts.items (codes_in named.table) → IsWasteful tables all i → ⊥
  thrifty_is least wasteful = wasteful (subst (λ (z : List ℕ). IsLeastNumbering z (codes_in (table_at tables i).table)) (sym counts_there) (subst (λ (z : NamedTable). IsLeastNumbering uses.counts.items (codes_in z.table)) named_there least))

  module _ (fine : (k : ℕ) → k < i → IsWasteful tables all k → ⊥) where
    pub wasteful_found : AreByPlace tables → (IsLeastNumbering uses.counts.items (codes_in named.table) → ⊥) → IsLeastFound (IsAmong (IsWasteful tables all) (place_in tables) (length tables)) (Some named.place)
    wasteful_found rising more =
        subst (λ (z : NamedTable). IsLeastFound (IsAmong (IsWasteful tables all) (place_in tables) (length tables)) (Some z.place)) (sym named_there)
        (among_first (IsWasteful tables all) (place_in tables) i (length tables) inside fine (λ k later within. rising i k later within) (wasteful_is more))

    pub thrifty_more : IsLeastNumbering uses.counts.items (codes_in named.table) → (k : ℕ) → k < i + 1 → IsWasteful tables all k → ⊥
    thrifty_more least k below amiss = elim (cases_lt k i) [
      | inl earlier ↦ fine k earlier amiss
      | inr late ↦
          let here : k ≡ i = omega arith in
          thrifty_is least (subst (IsWasteful tables all) here amiss)
    ]
