-- The contexts of the lists of units stay as they are: what a root gives for them isn't moved, and .debug_addr is kept.
use Rattle.std.proofs.Common.{◌≡◌, ◌<◌, ◌∙◌, Bool, true, false, ℕ, suc, List, [], ◌∷◌, length, map, get_or, sym, ap, subst, refl, arith}
use Rattle.std.specs.Prelude.{Option, Some, None, nat_eq, filter, if◌then◌else◌}
use Rattle.std.specs.List.{AllZip}
use Rattle.dw_base.specs.declared.classes.Classes.{Classes}
use Rattle.form_codec.specs.Forms.{Meaning}
use Rattle.form_codec.specs.Forms.Meaning.{Address, AddressNumber}
use Rattle.elf_sections.specs.Names.{name_of, is_written}
use Rattle.elf_place.specs.Same.{SameImage}
use Rattle.list_model.specs.declared.context.Context.{Context}
use Rattle.list_model.specs.declared.tables.AddrTable.{AddrTable}
use Rattle.unit_write.specs.declared.places.Places.{Places}
use Rattle.unit_write.specs.Values.{renewed}
use Rattle.value_links.specs.Sections.{body_or_none, debug_addr, addr_name}
use Rattle.value_links.specs.Attributes.{addr_base}
use Rattle.value_links.specs.Reading.{UnitRead, Linkable, Reading, unit_at, no_unit}
use Rattle.value_links.specs.Values.{IsFirstBase, root_of}
use Rattle.value_links.specs.Contexts.{low_pc, is_low_pc, low_pcs, first_base, IsTableOf, IsContext}
use Rattle.value_links.specs.Linked.{Linked}
use Rattle.value_links.specs.Linked.Linked.{Kept}
use Rattle.value_links.specs.Whole.{AreContexts}
use Rattle.value_links.specs.World.{World}
use Rattle.value_links.proofs.SectionLaws.{sections_are_found}
use Rattle.rewriter.specs.declared.tables.NewTable.{NewTable}
use Rattle.rewriter.specs.declared.new_places.NewPlaces.{NewPlaces}
use Rattle.rewriter.specs.inside.NewPlaces.{IsNewOffset}
use Rattle.rewriter.specs.inside.Follows.{AreReadAnew}
use Rattle.rewriter.proofs.MovedAttributes.{IsMovedAttribute}
use Rattle.rewriter.proofs.MovedBases.{BaseMoves, first_moves, first_came, all_bases, root_moves}
use Rattle.rewriter.proofs.NewBodies.{body_written}
use Rattle.rewriter.proofs.SectionsAnew.{none_empty}
use Rattle.rewriter.proofs.InwardMeanings.{taken_alike}

-- ADDRESSES

-- the meanings of attributes of which one is kept or not
picks : (b : Bool) (name : ℕ) (m : Meaning) (olds news : List (ℕ × Meaning)) → map (λ (z : ℕ × Meaning). z.1) news ≡ map (λ (z : ℕ × Meaning). z.1) olds → map (λ (z : ℕ × Meaning). z.1) (if b then (name, m) ∷ news else news) ≡ map (λ (z : ℕ × Meaning). z.1) (if b then (name, m) ∷ olds else olds)
picks true name m olds news same = ap (λ (z : List Meaning). m ∷ z) same
picks false name m olds news same = same

-- no address is moved
low_here : (name number : ℕ) (made : List ℕ) (m : Meaning) (olds news : List (ℕ × Meaning)) → low_pcs news ≡ low_pcs olds → low_pcs ((name, renewed number made m) ∷ news) ≡ low_pcs ((name, m) ∷ olds)
low_here name number made (Address n) olds news same = picks (nat_eq name low_pc) name (Address n) (filter is_low_pc olds) (filter is_low_pc news) same
low_here name number made (AddressNumber i) olds news same = picks (nat_eq name low_pc) name (AddressNumber i) (filter is_low_pc olds) (filter is_low_pc news) same
low_here name number made m olds news same = same

lows_stay : (r : Linkable) (places : List Places) (new_places : NewPlaces) (u id : ℕ) (olds news : List (ℕ × Meaning)) → AllZip (IsMovedAttribute r places new_places u id) olds news → low_pcs news ≡ low_pcs olds
lows_stay r places new_places u id [] [] moves = refl
lows_stay r places new_places u id [] (b ∷ news) moves = absurd moves
lows_stay r places new_places u id (a ∷ olds) [] moves = absurd moves
lows_stay r places new_places u id ((name, m) ∷ olds) ((other, value) ∷ news) (move, moves) =
    ap (λ (z : ℕ). low_pcs ((z, value) ∷ news)) move.name
    ∙ ap (λ (z : Meaning). low_pcs ((name, z) ∷ news)) move.value
    ∙ low_here name move.number move.made move.taken olds news (lows_stay r places new_places u id olds news moves)
    ∙ taken_alike (λ (z : Meaning). low_pcs ((name, z) ∷ olds)) (λ n k. refl) (unit_at r u).head m move.taken move.took

-- THE BASE OF ADDRESSES

module _ (r : Linkable) (places : List Places) (new_places : NewPlaces) (u id : ℕ) where
  -- the base of addresses is a number that is kept
  base_kept : (n m : ℕ) → BaseMoves r places new_places u id addr_base n m → m ≡ n
  base_kept n m (linked, (_, e), is) = kept linked e is
    where
      kept : (linked : Linked) → linked ≡ Kept n → IsNewOffset new_places linked m → m ≡ n
      kept linked e is = subst (λ (z : Linked). IsNewOffset new_places z m) e is

  abbrev AllMoved : List (ℕ × Meaning) → List (ℕ × Meaning) → Type 0
  AllMoved olds news = AllZip (IsMovedAttribute r places new_places u id) olds news

  first_stays : (olds news : List (ℕ × Meaning)) (n : ℕ) → AllMoved olds news → IsFirstBase olds addr_base n → IsFirstBase news addr_base n
  first_stays olds news n moves first =
      let (m, kept, there) = first_moves addr_base (BaseMoves r places new_places u id addr_base) olds news n (all_bases r places new_places u id addr_base olds news moves) first in
      subst (IsFirstBase news addr_base) (base_kept n m kept) there

  was_first : (olds news : List (ℕ × Meaning)) (m : ℕ) → AllMoved olds news → IsFirstBase news addr_base m → IsFirstBase olds addr_base m
  was_first olds news m moves first =
      let (n, kept, there) = first_came addr_base (BaseMoves r places new_places u id addr_base) olds news m (all_bases r places new_places u id addr_base olds news moves) first in
      subst (IsFirstBase olds addr_base) (sym (base_kept n m kept)) there

  -- CONTEXTS

  pub table_stays : (addr : List ℕ) (olds news : List (ℕ × Meaning)) (table : Option AddrTable) → AllMoved olds news → IsTableOf addr olds table → IsTableOf addr news table
  table_stays addr olds news (Some table) moves (base, first, has) = (base, first_stays olds news base moves first, has)
  table_stays addr olds news None moves none = λ table (base, first, has). none table (base, was_first olds news base moves first, has)

  context_stays : (addr : List ℕ) (olds news : List (ℕ × Meaning)) (context : Context) → AllMoved olds news → IsContext addr olds context → IsContext addr news context
  context_stays addr olds news context moves is = record {
    table = table_stays addr olds news context.table moves is.table;
    base = is.base ∙ ap (first_base addr context.table) (sym (lows_stay r places new_places u id olds news moves));
  }

-- things that go with those of a list go with those of another, where they go with each that has the same number
zip_as : {X Y : Type 0} (P : X → Y → Type 0) (olds news : List X) (ys : List Y) (d : X) → length news ≡ length olds → ((k : ℕ) (y : Y) → k < length olds → P (get_or olds k d) y → P (get_or news k d) y) → AllZip P olds ys → AllZip P news ys
zip_as P [] [] ys d size each zip = zip
zip_as P [] (b ∷ news) ys d size each zip = absurd (omega arith)
zip_as P (a ∷ olds) [] ys d size each zip = absurd (omega arith)
zip_as P (a ∷ olds) (b ∷ news) [] d size each zip = absurd zip
zip_as P (a ∷ olds) (b ∷ news) (y ∷ ys) d size each (first, zip) = (each 0 y (omega arith) first, zip_as P olds news ys d (omega arith) (λ k z inside. each (suc k) z (omega arith)) zip)

module _ {classes : Classes} {file : List ℕ} {world : World} {tables : List NewTable} {places : List Places} {new_places : NewPlaces} {info abbrevs : List ℕ} {r s : Reading} (all : AreReadAnew classes file world tables places new_places info abbrevs r s) where
  abbrev HasContext : UnitRead → Context → Type 0
  HasContext unit context = IsContext r.links.addresses (root_of unit).attributes context

  root_stays : (u : ℕ) (context : Context) → u < length r.links.units → HasContext (unit_at r.links u) context → HasContext (unit_at s.links u) context
  root_stays u context inside is =
      context_stays r.links places new_places u 0 r.links.addresses (root_of (unit_at r.links u)).attributes (root_of (unit_at s.links u)).attributes context (root_moves all u inside) is

  -- so those of the old units are those of the new ones
  pub contexts_stay : AreContexts r.links.addresses s.links.units r.links.contexts
  contexts_stay = zip_as HasContext r.links.units s.links.units r.links.contexts no_unit all.units.count root_stays all.read.links.contexts

-- .debug_addr isn't written anew
pub addresses_stay : (file written : List ℕ) → SameImage (λ (i : ℕ). is_written (name_of file i)) file written → debug_addr written ≡ debug_addr file
addresses_stay file written same =
    body_written file written same.headers.count same.names addr_name (debug_addr file) (none_empty file addr_name) (λ i first. same.bodies i first.inside (ap is_written first.named) ∙ sym (ap (body_or_none file) ((sections_are_found.found file addr_name i).1 first)))
