-- The lists of a file are read in one way.
use Rattle.std.proofs.Common.{◌≡◌, ◌≤◌, ◌<◌, ◌+◌, ◌*◌, ◌∙◌, ℕ, zero, suc, List, [], ◌∷◌, length, get_or, sym, ap, subst, refl, arith}
use Rattle.entry_read.proofs.Chained.{lies_once}
use Rattle.list_model.specs.declared.contribution.Contribution.{Contribution}
use Rattle.list_model.specs.declared.entry.ListKind.{ListKind}
use Rattle.list_model.specs.declared.entry.ListKind.TheVariants.{Ranges, Locations}
use Rattle.list_model.specs.declared.entry.RawEntry.{RawEntry}
use Rattle.list_model.specs.Contributions.{ContributionsTile}
use Rattle.list_model.proofs.EntryLaws.{entries_once, entries_whole, entries_apart, ends_whole}
use Rattle.list_model.proofs.Tiling.{one_tile}
use Rattle.range_lists.proofs.RangeLaws.{one_list as one_range_list}
use Rattle.loc_lists.proofs.LocationLaws.{one_list as one_location_list}
use Rattle.value_links.specs.Reading.{ListRead, ListSection, Linkable, of_kind, part_at, list_at}
use Rattle.value_links.specs.ListPlaces.{IsListPlace}
use Rattle.value_links.specs.Lists.{IsListOf, IsListIn, AreListsOf}
use Rattle.value_links.specs.Whole.{ArePartsOf, IsReadToLinks}
use Rattle.value_links.proofs.Tiles.{parts_chained, tiled_of}

-- LISTS THAT RISE

module _ {X : Type 0} (d : X) (R : X → X → Type 0) (never : (x y : X) → R x y → R y x → ⊥) where
  abbrev Rises : List X → Type 0
  Rises xs = (j k : ℕ) → j < k → k < length xs → R (get_or xs j d) (get_or xs k d)

  abbrev Has : List X → X → Type 0
  Has xs x = (j : ℕ) × (j < length xs) × (get_or xs j d ≡ x)

  -- the first of both is the same
  first_same : (x y : X) (xs ys : List X) → Rises (x ∷ xs) → Rises (y ∷ ys) → Has (y ∷ ys) x → Has (x ∷ xs) y → x ≡ y
  first_same x y xs ys p q (zero, j_in, e) _ = sym e
  first_same x y xs ys p q (suc j, j_in, e) (zero, i_in, f) = f
  first_same x y xs ys p q (suc j, j_in, e) (suc i, i_in, f) =
      let down : R y x = subst (λ (z : X). R y z) e (q 0 (suc j) (omega arith) j_in) in
      let up : R x y = subst (λ (z : X). R x z) f (p 0 (suc i) (omega arith) i_in) in
      absurd (never x y up down)

  -- what one has behind its first, the other has behind its first
  behind : (x y : X) (xs ys : List X) → x ≡ y → Rises (x ∷ xs) → ((k : ℕ) → k < length (x ∷ xs) → Has (y ∷ ys) (get_or (x ∷ xs) k d)) → (k : ℕ) → k < length xs → Has ys (get_or xs k d)
  behind x y xs ys same p each k inside = from (each (suc k) (omega arith))
    where
      from : Has (y ∷ ys) (get_or xs k d) → Has ys (get_or xs k d)
      from (suc j, j_in, e) = (j, omega arith, e)
      from (zero, j_in, e) =
          let here : x ≡ get_or xs k d = same ∙ e in
          let up : R x (get_or xs k d) = p 0 (suc k) (omega arith) (omega arith) in
          let self : R x x = subst (λ (z : X). R x z) (sym here) up in
          absurd (never x x self self)

  -- lists that rise and have the same are the same
  pub same_members : (xs ys : List X) → Rises xs → Rises ys → ((k : ℕ) → k < length xs → Has ys (get_or xs k d)) → ((k : ℕ) → k < length ys → Has xs (get_or ys k d)) → xs ≡ ys
  same_members [] [] p q each back = refl
  same_members [] (y ∷ ys) p q each back = let has = back 0 (omega arith) in let none = has.1 in absurd (omega arith)
  same_members (x ∷ xs) [] p q each back = let has = each 0 (omega arith) in let none = has.1 in absurd (omega arith)
  same_members (x ∷ xs) (y ∷ ys) p q each back =
      let first : x ≡ y = first_same x y xs ys p q (each 0 (omega arith)) (back 0 (omega arith)) in
      let rest : xs ≡ ys = same_members xs ys (λ j k less inside. p (suc j) (suc k) (omega arith) (omega arith)) (λ j k less inside. q (suc j) (suc k) (omega arith) (omega arith)) (behind x y xs ys first p each) (behind y x ys xs (sym first) q back) in
      ap (λ (z : X). z ∷ xs) first ∙ ap (λ (z : List X). y ∷ z) rest

-- SECTIONS OF LISTS

pub section_once : (bytes : List ℕ) (a b : ListSection) → ArePartsOf bytes a → ArePartsOf bytes b → a ≡ b
section_once bytes a b p q =
    let same : a.section ≡ b.section = p.bytes_are ∙ sym q.bytes_are in
    let parts : a.parts ≡ b.parts = one_tile b.section a.parts b.parts 0 (subst (λ (z : List ℕ). ContributionsTile z a.parts) same p.tiled) q.tiled in
    ap (λ (z : List ℕ). record { section = z; parts = a.parts }) same ∙ ap (λ (z : List Contribution). record { section = b.section; parts = z }) parts

-- a list begins in one contribution
pub place_once : (section : ListSection) → ContributionsTile section.section section.parts → (at p q : ℕ) → IsListPlace section p at → IsListPlace section q at → p ≡ q
place_once section tiled at p q (p_in, here) (q_in, there) =
    let begins : Contribution → ℕ = λ x. x.at in
    let len : Contribution → ℕ = λ x. x.len in
    let none : Contribution = record { at = 0; len = 0; slots = 0 } in
    let p_from : (part_at section p).at + 12 + 4 * (part_at section p).slots ≤ at = here.after in
    let p_to : at < (part_at section p).at + (part_at section p).len = here.before in
    let q_from : (part_at section q).at + 12 + 4 * (part_at section q).slots ≤ at = there.after in
    let q_to : at < (part_at section q).at + (part_at section q).len = there.before in
    lies_once begins len section.parts 0 (length section.section) p q at none (parts_chained section.section section.parts 0 (length section.section) tiled) p_in q_in (omega arith) (omega arith) (omega arith) (omega arith)

-- LISTS

read_once : (kind : ListKind) (section : List ℕ) (part : Contribution) (at : ℕ) (raws others : List RawEntry) → IsListOf kind section part at raws → IsListOf kind section part at others → raws ≡ others
read_once Ranges section part at raws others p q = one_range_list entries_once entries_apart entries_whole ends_whole section part at raws others p q
read_once Locations section part at raws others p q = one_location_list entries_once entries_apart entries_whole ends_whole section part at raws others p q

module _ (file : List ℕ) (r : Linkable) (read : IsReadToLinks file r) where
  pub list_same : (kind : ListKind) (a b : ListRead) → IsListIn r kind a → IsListIn r kind b → a.at ≡ b.at → a ≡ b
  list_same kind a b p q at =
      let section = of_kind r kind in
      let part : a.part ≡ b.part = place_once section (tiled_of file r read kind) b.at a.part b.part (subst (λ (z : ℕ). IsListPlace section a.part z) at p.begins) q.begins in
      let moved : IsListOf kind section.section (part_at section b.part) a.at a.raws = subst (λ (z : ℕ). IsListOf kind section.section (part_at section z) a.at a.raws) part p.read in
      let raws : a.raws ≡ b.raws = read_once kind section.section (part_at section b.part) b.at a.raws b.raws (subst (λ (z : ℕ). IsListOf kind section.section (part_at section b.part) z a.raws) at moved) q.read in
      ap (λ (z : ℕ). record { at = z; part = a.part; raws = a.raws }) at
      ∙ ap (λ (z : ℕ). record { at = b.at; part = z; raws = a.raws }) part
      ∙ ap (λ (z : List RawEntry). record { at = b.at; part = b.part; raws = z }) raws

  pub lists_once : (kind : ListKind) (xs ys : List ListRead) → AreListsOf r kind xs → AreListsOf r kind ys → xs ≡ ys
  lists_once kind xs ys p q =
      same_members (record { at = 0; part = 0; raws = [] }) (λ (a b : ListRead). a.at < b.at) (λ a b less more. absurd (omega arith)) xs ys p.rising q.rising (has xs ys p q) (has ys xs q p)
    where
      has : (xs ys : List ListRead) → AreListsOf r kind xs → AreListsOf r kind ys → (k : ℕ) → k < length xs → (j : ℕ) × (j < length ys) × (list_at ys j ≡ list_at xs k)
      has xs ys p q k inside =
          let here = p.each k inside in
          let (j, j_in, same) = q.all (list_at xs k).at here.named in
          (j, j_in, list_same kind (list_at ys j) (list_at xs k) (q.each j j_in) here same)
