-- Each list and each run of view pairs has one length, and each old one has one first written one.
use Rattle.std.proofs.Common.{◌≡◌, ◌<◌, ◌++◌, ◌∙◌, inl, inr, ℕ, List, length, sym, ap, subst, arith}
use Rattle.std.proofs.lemmas.Bool.{cases_order}
use Rattle.spelled.proofs.Joins.{joined_front}
use Rattle.leb_codec.specs.Leb.{Uleb}
use Rattle.leb_codec.proofs.Fronts.{unique_u}
use Rattle.list_model.specs.declared.entry.ListKind.{ListKind}
use Rattle.list_model.specs.declared.entry.ListKind.TheVariants.{Ranges, Locations}
use Rattle.list_model.specs.declared.entry.RawEntry.{RawEntry}
use Rattle.list_model.specs.Contributions.{bytes_from}
use Rattle.list_model.proofs.EntryLaws.{entries_once, entries_whole, entries_apart, ends_whole}
use Rattle.range_lists.proofs.RangeLaws.{ranges_once}
use Rattle.loc_lists.proofs.LocationLaws.{locations_once}
use Rattle.loc_lists.proofs.ViewLaws.{numbers_of, spelled}
use Rattle.value_links.specs.Reading.{ListRead, ViewRead, Reading, lists_of, part_at, list_at, view_at}
use Rattle.value_links.specs.Whole.{IsReading}
use Rattle.tidy_lists.specs.Followers.{FollowsFirst, RunFollowsFirst, AreBytesOf, HasLength, IsPartOfRun, RunHasLength}
use Rattle.tidy_lists.specs.Due.{Piece, PieceHasLength}
use Rattle.tidy_lists.specs.Due.Piece.{ARun, AList}

bytes_once : (kind : ListKind) (raws : List RawEntry) (a b x y : List ℕ) → AreBytesOf kind raws a → AreBytesOf kind raws b → a ++ x ≡ b ++ y → a ≡ b
bytes_once Ranges raws a b x y (entries, said, spells) (others, also, again) e =
    (ranges_once entries_once entries_apart entries_whole ends_whole entries others a b x y spells again e).0
bytes_once Locations raws a b x y (locations, said, spells) (others, also, again) e =
    (locations_once entries_once entries_apart entries_whole ends_whole locations others a b x y spells again e).0

pub list_length : (kind : ListKind) (s : Reading) (list : ListRead) (a b : ℕ) → HasLength kind s list a → HasLength kind s list b → a ≡ b
list_length kind s list a b p q =
    let same : p.bytes ≡ q.bytes = bytes_once kind list.raws p.bytes q.bytes p.rest q.rest p.read q.read (sym p.stands ∙ q.stands) in
    p.count ∙ ap (λ (z : List ℕ). length z) same ∙ sym q.count

-- LISTS BY THEIR PLACES

module _ (lists : List ListRead) (rising : (j k : ℕ) → j < k → k < length lists → (list_at lists j).at < (list_at lists k).at) where
  pub list_number : (j k : ℕ) → j < length lists → k < length lists → (list_at lists j).at ≡ (list_at lists k).at → j ≡ k
  list_number j k j_in k_in same = elim (cases_order j k) [
    | inl e ↦ e
    | inr apart ↦ elim apart [
      | inl less ↦ (let before : (list_at lists j).at < (list_at lists k).at = rising j k less k_in in absurd (omega (arith, before, same)))
      | inr more ↦ (let before : (list_at lists k).at < (list_at lists j).at = rising k j more j_in in absurd (omega (arith, before, same)))
    ]
  ]

module _ (file : List ℕ) (s : Reading) (read : IsReading file s) where
  pub part_once : (run : ViewRead) (p q : ℕ) → IsPartOfRun s run p → IsPartOfRun s run q → p ≡ q
  part_once run p q one two =
      let number : one.k ≡ two.k = list_number s.location_lists (read.lists Locations).rising one.k two.k one.inside two.inside (one.list ∙ sym two.list) in
      sym one.part ∙ ap (λ (k : ℕ). (list_at s.location_lists k).part) number ∙ two.part

  pub run_length : (run : ViewRead) (a b : ℕ) → RunHasLength s run a → RunHasLength s run b → a ≡ b
  run_length run a b p q =
      let part : p.p ≡ q.p = part_once run p.p q.p p.part q.part in
      let stands : bytes_from s.links.locations.section (part_at s.links.locations q.p) run.at ≡ p.bytes ++ p.rest = subst (λ (z : ℕ). bytes_from s.links.locations.section (part_at s.links.locations z) run.at ≡ p.bytes ++ p.rest) part p.stands in
      let same : p.bytes ≡ q.bytes = joined_front Uleb unique_u (numbers_of run.pairs) p.bytes q.bytes p.rest q.rest (spelled run.pairs p.bytes p.read) (spelled run.pairs q.bytes q.read) (sym stands ∙ q.stands) in
      p.count ∙ ap (λ (z : List ℕ). length z) same ∙ sym q.count

  first_list : (kind : ListKind) (r : Reading) (k m n : ℕ) → FollowsFirst kind r s k m → FollowsFirst kind r s k n → m ≡ n
  first_list kind r k m n one two = elim (cases_order m n) [
    | inl e ↦ e
    | inr apart ↦ elim apart [
      | inl less ↦ absurd (two.first m less one.follows)
      | inr more ↦ absurd (one.first n more two.follows)
    ]
  ]

  first_run : (r : Reading) (j m n : ℕ) → RunFollowsFirst r s j m → RunFollowsFirst r s j n → m ≡ n
  first_run r j m n one two = elim (cases_order m n) [
    | inl e ↦ e
    | inr apart ↦ elim apart [
      | inl less ↦ absurd (two.first m less one.follows)
      | inr more ↦ absurd (one.first n more two.follows)
    ]
  ]

  -- so each thing that is due has one length
  pub piece_length : (kind : ListKind) (r : Reading) (piece : Piece) (a b : ℕ) → PieceHasLength kind r s piece a → PieceHasLength kind r s piece b → a ≡ b
  piece_length kind r (ARun j) a b (m, first, has) (n, other, again) =
      let same : m ≡ n = first_run r j m n first other in
      run_length (view_at s.views n) a b (subst (λ (z : ℕ). RunHasLength s (view_at s.views z) a) same has) again
  piece_length kind r (AList k) a b (m, first, has) (n, other, again) =
      let same : m ≡ n = first_list kind r k m n first other in
      list_length kind s (list_at (lists_of s kind) n) a b (subst (λ (z : ℕ). HasLength kind s (list_at (lists_of s kind) z) a) same has) again
