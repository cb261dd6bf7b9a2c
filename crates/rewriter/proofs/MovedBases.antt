-- The first base of a name that a root gives, where its attributes are written anew.
use Rattle.std.proofs.Common.{◌≡◌, ◌≤◌, ◌<◌, ◌+◌, ◌∙◌, inl, inr, ℕ, List, [], ◌∷◌, length, sym, ap, subst, refl, arith}
use Rattle.std.specs.List.{AllZip, Contains}
use Rattle.std.proofs.lemmas.List.Elements.{All-get_or}
use Rattle.dw_base.specs.declared.classes.Classes.{Classes}
use Rattle.form_codec.specs.Forms.{Meaning}
use Rattle.form_codec.specs.Forms.Meaning.{Expression, InUnit, InSection, SectionPlace}
use Rattle.list_model.specs.declared.contribution.Contribution.{Contribution}
use Rattle.list_model.specs.declared.entry.ListKind.{ListKind}
use Rattle.list_model.specs.declared.entry.ListKind.TheVariants.{Ranges, Locations}
use Rattle.list_model.specs.Contributions.{offsets_at, part_end, IsContribution, ContributionsTile}
use Rattle.list_model.proofs.Tiling.{part_inside, each_part, before}
use Rattle.list_write.specs.Written.{part_at as new_part_at}
use Rattle.unit_write.specs.declared.places.Places.{Places}
use Rattle.unit_write.specs.Values.{renewed}
use Rattle.value_links.specs.Reading.{ListSection, Linkable, Reading, unit_at, of_kind, part_at}
use Rattle.value_links.specs.Values.{IsFirstBase, root_of}
use Rattle.value_links.specs.ListPlaces.{IsOffsetsAt, base_of, IsBaseOf}
use Rattle.value_links.specs.Linked.{Linked, Links}
use Rattle.value_links.specs.Linked.Linked.{BaseOf}
use Rattle.value_links.specs.World.{World}
use Rattle.value_links.proofs.Bases.{IsBase, is_base, split_first, behind, none_first, one_base}
use Rattle.rewriter.specs.declared.tables.NewTable.{NewTable}
use Rattle.rewriter.specs.declared.new_places.NewPlaces.{NewPlaces}
use Rattle.rewriter.specs.inside.Taken.{MeansFor}
use Rattle.rewriter.specs.inside.NewPlaces.{IsNewOffset}
use Rattle.rewriter.specs.inside.Numbers.{IsNewNumber, IsNewValue}
use Rattle.rewriter.specs.inside.Follows.{AreReadAnew}
use Rattle.rewriter.proofs.Meant.{all_values}
use Rattle.rewriter.proofs.MovedAttributes.{IsMovedAttribute, attributes_moved}
use Rattle.rewriter.proofs.MovedLists.{number_once}
use Rattle.rewriter.proofs.InwardMeanings.{was_taken}
use Rattle.rewriter.proofs.UsedDeclarations.{unit_is}

-- FIRST BASES

-- Both attributes are bases of this name, with numbers that are in a relation, or neither is one.
pub record AreBases (name : ℕ) (Moves : ℕ → ℕ → Type 0) (a b : ℕ × Meaning) : Type 0 where
  pub to : (n : ℕ) → a ≡ (name, SectionPlace n) → (m : ℕ) × Moves n m × (b ≡ (name, SectionPlace m))
  pub from : (m : ℕ) → b ≡ (name, SectionPlace m) → (n : ℕ) × Moves n m × (a ≡ (name, SectionPlace n))

base_here : (name : ℕ) (a : ℕ × Meaning) (rest : List (ℕ × Meaning)) (n : ℕ) → a ≡ (name, SectionPlace n) → IsFirstBase (a ∷ rest) name n
base_here name a rest n is = record { before = []; after = rest; parts = ap (λ (z : ℕ × Meaning). z ∷ rest) is; first = λ (m : ℕ) (x : Contains [] (name, SectionPlace m)). let inside = x.1 in absurd (omega arith) }

-- the first base moves to the first base
pub first_moves : (name : ℕ) (Moves : ℕ → ℕ → Type 0) (olds news : List (ℕ × Meaning)) (n : ℕ) → AllZip (AreBases name Moves) olds news → IsFirstBase olds name n → (m : ℕ) × Moves n m × IsFirstBase news name m
first_moves name Moves [] [] n pairs first = absurd (none_first name n first)
first_moves name Moves [] (b ∷ news) n pairs first = absurd pairs
first_moves name Moves (a ∷ olds) [] n pairs first = absurd pairs
first_moves name Moves (a ∷ olds) (b ∷ news) n (pair, pairs) first = elim (is_base a name) [
  | inl (k, here) ↦
      let one : k ≡ n = one_base (a ∷ olds) name k n (base_here name a olds k here) first in
      let (m, moves, there) = pair.to k here in
      (m, subst (λ (z : ℕ). Moves z m) one moves, base_here name b news m there)
  | inr other ↦ elim (split_first a olds name n first.before first.after first.parts first.first) [
    | inl here ↦ absurd (other here)
    | inr later ↦
        let (m, moves, there) = first_moves name Moves olds news n pairs later in
        let none : ¬ IsBase b name = λ (x : IsBase b name). (let (k, _, e) = pair.from x.0 x.1 in other (k, e)) in
        (m, moves, behind b news name none m there)
  ]
]

-- the same the other way round
turned : (name : ℕ) (Moves : ℕ → ℕ → Type 0) (olds news : List (ℕ × Meaning)) → AllZip (AreBases name Moves) olds news → AllZip (AreBases name (λ (n m : ℕ). Moves m n)) news olds
turned name Moves [] [] pairs = tt
turned name Moves [] (b ∷ news) pairs = absurd pairs
turned name Moves (a ∷ olds) [] pairs = absurd pairs
turned name Moves (a ∷ olds) (b ∷ news) (pair, pairs) = (record { to = pair.from; from = pair.to }, turned name Moves olds news pairs)

pub first_came : (name : ℕ) (Moves : ℕ → ℕ → Type 0) (olds news : List (ℕ × Meaning)) (m : ℕ) → AllZip (AreBases name Moves) olds news → IsFirstBase news name m → (n : ℕ) × Moves n m × IsFirstBase olds name n
first_came name Moves olds news m pairs first = first_moves name (λ (n k : ℕ). Moves k n) news olds m (turned name Moves olds news pairs) first

-- THOSE OF ATTRIBUTES WITH NEW NUMBERS

abbrev place_in : Meaning → ℕ
place_in (SectionPlace n) = n
place_in meaning = 0

-- a value that is renewed is a section offset where the old one is
pub was_place : (number : ℕ) (made : List ℕ) (m : ℕ) (meaning : Meaning) → renewed number made meaning ≡ SectionPlace m → (n : ℕ) × (meaning ≡ SectionPlace n) × (number ≡ m)
was_place number made m (SectionPlace n) e = (n, refl, ap place_in e)
was_place number made m (InUnit n) e = absurd (cc (e))
was_place number made m (InSection n) e = absurd (cc (e))
was_place number made m (Expression bytes) e = absurd (cc (e))
was_place number made m meaning e = absurd (cc (e))

pair_is : (z : ℕ × Meaning) (name : ℕ) (m : Meaning) → z.0 ≡ name → z.1 ≡ m → z ≡ (name, m)
pair_is (k, w) name m named meant = ap (λ (x : ℕ). (x, w)) named ∙ ap (λ (x : Meaning). (name, x)) meant

module _ (r : Linkable) (places : List Places) (new_places : NewPlaces) (u id name : ℕ) where
  -- a base has a new number
  abbrev pub BaseMoves : ℕ → ℕ → Type 0
  BaseMoves n m = IsNewNumber r places new_places u id name (SectionPlace n) m

  are_bases : (a b : ℕ × Meaning) → IsMovedAttribute r places new_places u id a b → AreBases name BaseMoves a b
  are_bases a b move = record { to = to; from = from }
    where
      -- the old one is this base, and so is the new one
      both : (n : ℕ) → a.0 ≡ name → move.taken ≡ SectionPlace n → BaseMoves n move.number × (b ≡ (name, SectionPlace move.number))
      both n named meant =
          let numbered : IsNewValue r places new_places u id name move.taken move.number move.made = subst (λ (z : ℕ). IsNewValue r places new_places u id z move.taken move.number move.made) named move.numbered in
          (subst (λ (z : Meaning). IsNewValue r places new_places u id name z move.number move.made) meant numbered, pair_is b name (SectionPlace move.number) (move.name ∙ named) (move.value ∙ ap (renewed move.number move.made) meant))

      to : (n : ℕ) → a ≡ (name, SectionPlace n) → (m : ℕ) × BaseMoves n m × (b ≡ (name, SectionPlace m))
      to n e =
          let (moves, is) = both n (ap (λ (z : ℕ × Meaning). z.0) e) (subst (λ (z : ℕ × Meaning). MeansFor (unit_at r u).head z.1 move.taken) e move.took) in
          (move.number, moves, is)

      from : (m : ℕ) → b ≡ (name, SectionPlace m) → (n : ℕ) × BaseMoves n m × (a ≡ (name, SectionPlace n))
      from m e =
          let named : a.0 ≡ name = sym move.name ∙ ap (λ (z : ℕ × Meaning). z.0) e in
          let (n, meant, number) = was_place move.number move.made m move.taken (sym move.value ∙ ap (λ (z : ℕ × Meaning). z.1) e) in
          let (moves, is) = both n named meant in
          let was : a.1 ≡ SectionPlace n = was_taken (unit_at r u).head a.1 (SectionPlace n) (subst (MeansFor (unit_at r u).head a.1) meant move.took) (λ k same. absurd (cc (same))) in
          (n, subst (BaseMoves n) number moves, pair_is a name (SectionPlace n) named was)

  pub all_bases : (olds news : List (ℕ × Meaning)) → AllZip (IsMovedAttribute r places new_places u id) olds news → AllZip (AreBases name BaseMoves) olds news
  all_bases [] [] moves = tt
  all_bases [] (b ∷ news) moves = absurd moves
  all_bases (a ∷ olds) [] moves = absurd moves
  all_bases (a ∷ olds) (b ∷ news) (move, moves) = (are_bases a b move, all_bases olds news moves)

-- THE BASE OF LISTS

-- offsets of different contributions begin at different places
part_once : (section : ListSection) → ContributionsTile section.section section.parts → (n p q : ℕ) → IsOffsetsAt section n p → IsOffsetsAt section n q → p ≡ q
part_once section tiled n p q (p_in, p_at) (q_in, q_at) =
    let none : Contribution = record { at = 0; len = 0; slots = 0 } in
    let at : ℕ → ℕ = λ k. (part_at section k).at in
    let rises : (j k : ℕ) → j < k → k < length section.parts → (part_at section j).at < (part_at section k).at =
    λ j k less k_in. (
    let stands = All-get_or (IsContribution section.section) section.parts j none (omega arith) (each_part section.section section.parts 0 (length section.section) tiled) in
    let some : (part_at section j).at + 12 ≤ part_end (part_at section j) = (part_inside section.section (part_at section j) stands).0 in
    let next : part_end (part_at section j) ≤ (part_at section k).at = before section.section section.parts none none 0 (length section.section) j k tiled less k_in in
    omega arith
    ) in
    let p_here : (part_at section p).at + 12 ≡ n = p_at in
    let q_here : (part_at section q).at + 12 ≡ n = q_at in
    let same : (part_at section p).at ≡ (part_at section q).at = omega arith in
    number_once at (length section.parts) rises p q p_in q_in same

module _ {classes : Classes} {file : List ℕ} {world : World} {tables : List NewTable} {places : List Places} {new_places : NewPlaces} {info abbrevs : List ℕ} {r s : Reading} (all : AreReadAnew classes file world tables places new_places info abbrevs r s) where
  -- the attributes of a root are the old ones with new numbers
  pub root_moves : (u : ℕ) → u < length r.links.units → AllZip (IsMovedAttribute r.links places new_places u 0) (root_of (unit_at r.links u)).attributes (root_of (unit_at s.links u)).attributes
  root_moves u inside =
      let some = (all_values _ _ (unit_at r.links u) (unit_is all.read all.holds all.tables_written u inside)).some in
      attributes_moved all u 0 inside some

-- what a root names by its base is a contribution
base_links : (r : Linkable) (kind : ListKind) (u id n : ℕ) (linked : Linked) → Links r u id (base_of kind) (SectionPlace n) linked → (p : ℕ) × IsOffsetsAt (of_kind r kind) n p × (linked ≡ BaseOf kind p)
base_links r Ranges u id n linked links = links
base_links r Locations u id n linked links = links

module _ {classes : Classes} {file : List ℕ} {world : World} {tables : List NewTable} {places : List Places} {new_places : NewPlaces} {info abbrevs : List ℕ} {r s : Reading} (all : AreReadAnew classes file world tables places new_places info abbrevs r s) (kind : ListKind) where
  root_bases : (u : ℕ) → u < length r.links.units → AllZip (AreBases (base_of kind) (BaseMoves r.links places new_places u 0 (base_of kind))) (root_of (unit_at r.links u)).attributes (root_of (unit_at s.links u)).attributes
  root_bases u inside = all_bases r.links places new_places u 0 (base_of kind) (root_of (unit_at r.links u)).attributes (root_of (unit_at s.links u)).attributes (root_moves all u inside)

  -- where the offsets of a contribution began, and where they begin
  pub record AreOffsetsMoved (n m : ℕ) : Type 0 where
    pub part : ℕ
    pub from : IsOffsetsAt (of_kind r.links kind) n part
    pub to : IsOffsetsAt (of_kind s.links kind) m part

  pub offsets_move : (n m p : ℕ) → IsOffsetsAt (of_kind r.links kind) n p → IsNewOffset new_places (BaseOf kind p) m → IsOffsetsAt (of_kind s.links kind) m p
  offsets_move n m p (p_in, from) (inside, to) =
      let place : offsets_at (new_part_at (of_kind s.links kind).parts p).at ≡ m = ap (λ (z : List Contribution). offsets_at (new_part_at z p).at) (all.lists kind).parts_are ∙ sym to in
      (subst (λ (z : ℕ). p < z) (sym (all.lists kind).parts) p_in, place)

  base_moved : (u n m : ℕ) → BaseMoves r.links places new_places u 0 (base_of kind) n m → AreOffsetsMoved n m
  base_moved u n m (linked, links, is) =
      let (p, from, e) = base_links r.links kind u 0 n linked links in
      let to : IsOffsetsAt (of_kind s.links kind) m p = offsets_move n m p from (subst (λ (z : Linked). IsNewOffset new_places z m) e is) in
      record { part = p; from = from; to = to }

  -- a root names the contribution that it named
  pub base_stays : (u p : ℕ) → u < length r.links.units → IsBaseOf r.links u kind p → IsBaseOf s.links u kind p
  base_stays u p inside (n, first, here) =
      let (m, moves, there) = first_moves (base_of kind) (BaseMoves r.links places new_places u 0 (base_of kind)) (root_of (unit_at r.links u)).attributes (root_of (unit_at s.links u)).attributes n (root_bases u inside) first in
      let moved = base_moved u n m moves in
      let same : moved.part ≡ p = part_once (of_kind r.links kind) (all.read.links.lists kind).tiled n moved.part p moved.from here in
      (m, there, subst (IsOffsetsAt (of_kind s.links kind) m) same moved.to)

  pub base_came : (u p : ℕ) → u < length r.links.units → IsBaseOf s.links u kind p → IsBaseOf r.links u kind p
  base_came u p inside (m, first, here) =
      let (n, moves, there) = first_came (base_of kind) (BaseMoves r.links places new_places u 0 (base_of kind)) (root_of (unit_at r.links u)).attributes (root_of (unit_at s.links u)).attributes m (root_bases u inside) first in
      let moved = base_moved u n m moves in
      let same : moved.part ≡ p = part_once (of_kind s.links kind) (all.lists kind).tiled m moved.part p moved.to here in
      (n, there, subst (IsOffsetsAt (of_kind r.links kind) n) same moved.from)
