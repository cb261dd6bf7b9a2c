-- What the roots of units say of address tables and of first bases is read in a file that is written anew.
use Rattle.std.proofs.Common.{◌≡◌, ◌<◌, ◌∙◌, ◌++◌, ℕ, suc, List, [], ◌∷◌, length, sym, ap, subst, refl, arith}
use Rattle.std.specs.Prelude.{Bool, true, false, Some, filter, if◌then◌else◌}
use Rattle.std.specs.List.{AllZip}
use Rattle.dw_base.specs.declared.classes.Classes.{Classes}
use Rattle.form_codec.specs.Forms.{Meaning}
use Rattle.form_codec.specs.Forms.Meaning.{AddressNumber, Expression, InUnit, InSection, SectionPlace}
use Rattle.entry_read.specs.declared.head.UnitHead.{UnitHead}
use Rattle.list_model.specs.declared.tables.AddrTable.{AddrTable}
use Rattle.list_model.specs.Addresses.{TablesFollow}
use Rattle.unit_write.specs.declared.places.Places.{Places}
use Rattle.unit_write.specs.Values.{renewed}
use Rattle.value_links.specs.Attributes.{addr_base}
use Rattle.value_links.specs.Reading.{Linkable, Reading, unit_at}
use Rattle.value_links.specs.Values.{HasValueAt, root_of}
use Rattle.value_links.specs.Contexts.{low_pc, is_low_pc, NamesTable}
use Rattle.value_links.specs.Linked.{IsFirstLow}
use Rattle.value_links.specs.Whole.{HasAddrBase, AreAddressesRead, AreFirstBases, AreRootsRead}
use Rattle.value_links.specs.World.{World}
use Rattle.rewriter.specs.declared.tables.NewTable.{NewTable}
use Rattle.rewriter.specs.declared.new_places.NewPlaces.{NewPlaces}
use Rattle.rewriter.specs.inside.Taken.{MeansFor}
use Rattle.rewriter.specs.inside.Follows.{AreReadAnew}
use Rattle.rewriter.proofs.MovedAttributes.{IsMovedAttribute}
use Rattle.rewriter.proofs.MovedBases.{was_place, root_moves}
use Rattle.rewriter.proofs.ContextsStay.{table_stays}
use Rattle.rewriter.proofs.ValuesStay.{value_came}
use Rattle.rewriter.proofs.ListNames.{unit_inside}
use Rattle.rewriter.proofs.InwardMeanings.{taken_alike, was_taken}

-- no number of an address is moved
was_number : (number : ℕ) (made : List ℕ) (i : ℕ) (meaning : Meaning) → renewed number made meaning ≡ AddressNumber i → meaning ≡ AddressNumber i
was_number number made i (InUnit n) e = absurd (cc (e))
was_number number made i (InSection n) e = absurd (cc (e))
was_number number made i (SectionPlace n) e = absurd (cc (e))
was_number number made i (Expression bytes) e = absurd (cc (e))
was_number number made i meaning e = e

-- so it was the number, whatever it was taken to mean
number_taken : (head : UnitHead) (old taken : Meaning) (number i : ℕ) (made : List ℕ) → MeansFor head old taken → renewed number made taken ≡ AddressNumber i → old ≡ AddressNumber i
number_taken head old taken number i made took e =
    let is : taken ≡ AddressNumber i = was_number number made i taken e in
    was_taken head old (AddressNumber i) (subst (MeansFor head old) is took) (λ k same. absurd (cc (same)))

-- FIRST ADDRESSES

-- an attribute is a low address where the new one is
low_same : (name number : ℕ) (made : List ℕ) (meaning : Meaning) → is_low_pc (name, renewed number made meaning) ≡ is_low_pc (name, meaning)
low_same name number made (InUnit n) = refl
low_same name number made (InSection n) = refl
low_same name number made (SectionPlace n) = refl
low_same name number made (Expression bytes) = refl
low_same name number made meaning = refl

module _ (r : Linkable) (places : List Places) (new_places : NewPlaces) (u id : ℕ) where
  abbrev Moves : ℕ × Meaning → ℕ × Meaning → Type 0
  Moves a b = IsMovedAttribute r places new_places u id a b

  low_moves : (a b : ℕ × Meaning) → Moves a b → is_low_pc b ≡ is_low_pc a
  low_moves (name, meaning) (other, value) move =
      ap (λ (z : ℕ). is_low_pc (z, value)) move.name
      ∙ ap (λ (z : Meaning). is_low_pc (name, z)) move.value
      ∙ low_same name move.number move.made move.taken
      ∙ taken_alike (λ (z : Meaning). is_low_pc (name, z)) (λ n m. refl) (unit_at r u).head meaning move.taken move.took

  -- attributes around one, and those that were around the one that it was
  pub record WereAround (olds before : List (ℕ × Meaning)) (b : ℕ × Meaning) : Type 0 where
    pub earlier : List (ℕ × Meaning)
    pub a : ℕ × Meaning
    pub later : List (ℕ × Meaning)
    pub parts : olds ≡ earlier ++ a ∷ later
    pub front : AllZip Moves earlier before
    pub moves : Moves a b

  around : (olds before after : List (ℕ × Meaning)) (b : ℕ × Meaning) → AllZip Moves olds (before ++ b ∷ after) → WereAround olds before b
  around [] [] after b moves = absurd moves
  around [] (c ∷ before) after b moves = absurd moves
  around (a ∷ olds) [] after b (move, moves) = record { earlier = []; a = a; later = olds; parts = refl; front = tt; moves = move }
  around (a ∷ olds) (c ∷ before) after b (move, moves) =
      let rest = around olds before after b moves in
      record { earlier = a ∷ rest.earlier; a = rest.a; later = rest.later; parts = ap (λ (z : List (ℕ × Meaning)). a ∷ z) rest.parts; front = (move, rest.front); moves = rest.moves }

  same_size : (olds news : List (ℕ × Meaning)) → AllZip Moves olds news → length olds ≡ length news
  same_size [] [] moves = refl
  same_size [] (b ∷ news) moves = absurd moves
  same_size (a ∷ olds) [] moves = absurd moves
  same_size (a ∷ olds) (b ∷ news) (move, moves) = ap suc (same_size olds news moves)

  -- there are as many low addresses
  kept_size : (low : Bool) (a b : ℕ × Meaning) (olds news : List (ℕ × Meaning)) → length olds ≡ length news → length (if low then a ∷ olds else olds) ≡ length (if low then b ∷ news else news)
  kept_size true a b olds news same = ap suc same
  kept_size false a b olds news same = same

  lows_size : (olds news : List (ℕ × Meaning)) → AllZip Moves olds news → length (filter is_low_pc olds) ≡ length (filter is_low_pc news)
  lows_size [] [] moves = refl
  lows_size [] (b ∷ news) moves = absurd moves
  lows_size (a ∷ olds) [] moves = absurd moves
  lows_size (a ∷ olds) (b ∷ news) (move, moves) =
      kept_size (is_low_pc a) a b (filter is_low_pc olds) (filter is_low_pc news) (lows_size olds news moves)
      ∙ ap (λ (z : Bool). length (if z then b ∷ filter is_low_pc news else filter is_low_pc news)) (sym (low_moves a b move))

none_left : (xs : List (ℕ × Meaning)) → length xs ≡ 0 → xs ≡ []
none_left [] e = refl
none_left (x ∷ xs) e = absurd (omega arith)

module _ {classes : Classes} {file : List ℕ} {world : World} {tables : List NewTable} {places : List Places} {new_places : NewPlaces} {info abbrevs : List ℕ} {r s : Reading} (all : AreReadAnew classes file world tables places new_places info abbrevs r s) where
  -- the first number of an address was the first
  low_came : (u i place : ℕ) → u < length r.links.units → IsFirstLow s.links u i place → (was : ℕ) × IsFirstLow r.links u i was
  low_came u i place inside low =
      let olds : List (ℕ × Meaning) = (root_of (unit_at r.links u)).attributes in
      let moves : AllZip (IsMovedAttribute r.links places new_places u 0) olds (low.before ++ (low_pc, AddressNumber i) ∷ low.after) = subst (AllZip (IsMovedAttribute r.links places new_places u 0) olds) low.parts (root_moves all u inside) in
      let p = around r.links places new_places u 0 olds low.before low.after (low_pc, AddressNumber i) moves in
      let meant : p.a.1 ≡ AddressNumber i = number_taken (unit_at r.links u).head p.a.1 p.moves.taken p.moves.number i p.moves.made p.moves.took (sym p.moves.value) in
      let attribute : p.a ≡ (low_pc, AddressNumber i) = ap (λ (z : ℕ). (z, p.a.1)) (sym p.moves.name) ∙ ap (λ (z : Meaning). (low_pc, z)) meant in
      let none : length (filter is_low_pc p.earlier) ≡ 0 = lows_size r.links places new_places u 0 p.earlier low.before p.front ∙ ap (λ (z : List (ℕ × Meaning)). length z) low.first in
      let (old, was, stands, moved) = value_came all u 0 low.number low_pc (AddressNumber i) place inside low.stands in
      let same : old ≡ AddressNumber i = number_taken (unit_at r.links u).head old moved.taken moved.held i moved.made moved.took (sym moved.value) in (
        was,
        record {
          number = low.number;
          before = p.earlier;
          after = p.later;
          parts = p.parts ∙ ap (λ (z : ℕ × Meaning). p.earlier ++ z ∷ p.later) attribute;
          first = none_left (filter is_low_pc p.earlier) none;
          counted = low.counted ∙ sym (same_size r.links places new_places u 0 p.earlier low.before p.front);
          stands = subst (λ (z : Meaning). HasValueAt (unit_at r.links u) 0 low.number low_pc z was) same stands;
        },
      )

  names_table : (u : ℕ) (table : AddrTable) → u < length r.links.units → NamesTable r.links.addresses (root_of (unit_at r.links u)).attributes table → NamesTable s.links.addresses (root_of (unit_at s.links u)).attributes table
  names_table u table inside names =
      let there = table_stays r.links places new_places u 0 r.links.addresses (root_of (unit_at r.links u)).attributes (root_of (unit_at s.links u)).attributes (Some table) (root_moves all u inside) names in
      subst (λ (z : List ℕ). NamesTable z (root_of (unit_at s.links u)).attributes table) (sym all.addresses) there

  bases_stay : AreFirstBases s.links
  bases_stay u i place now low =
      let inside = unit_inside all u now in
      let (was, old) = low_came u i place inside low in
      let (table, names, counted) = all.read.roots.bases u i was inside old in
      (table, names_table u table inside names, counted)

  -- ADDRESS TABLES

  base_came : HasAddrBase s.links.units → HasAddrBase r.links.units
  base_came (u, id, number, n, place, now, h) =
      let inside = unit_inside all u now in
      let (old, was, stands, moved) = value_came all u id number addr_base (SectionPlace n) place inside h in
      let (k, meant, _) = was_place moved.held moved.made n moved.taken (sym moved.value) in
      let same : old ≡ SectionPlace k = was_taken (unit_at r.links u).head old (SectionPlace k) (subst (MeansFor (unit_at r.links u).head old) meant moved.took) (λ j inner. absurd (cc (inner))) in
      (u, id, number, k, was, inside, subst (λ (z : Meaning). HasValueAt (unit_at r.links u) id number addr_base z was) same stands)

  tables_stay : AreAddressesRead s.links.units s.links.addresses
  tables_stay has =
      let (found, follow) = all.read.roots.tables (base_came has) in
      (found, subst (λ (z : List ℕ). TablesFollow z found 0 (length z)) (sym all.addresses) follow)

  pub roots_stay : AreRootsRead s.links
  roots_stay = record { tables = tables_stay; bases = bases_stay }
