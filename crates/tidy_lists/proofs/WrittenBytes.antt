-- The bytes of lists and runs of view pairs that stand with no byte too many are such as have a length.
use Rattle.std.proofs.Common.{◌≡◌, ◌++◌, ◌∙◌, ℕ, List, [], ◌∷◌, length, sym, ap, refl}
use Rattle.std.proofs.lemmas.List.{append_assoc}
use Rattle.spelled.specs.Spelled.{Joined}
use Rattle.list_model.specs.declared.entry.ListKind.{ListKind}
use Rattle.list_model.specs.declared.entry.ListKind.TheVariants.{Ranges, Locations}
use Rattle.list_model.specs.declared.entry.RawEntry.{RawEntry}
use Rattle.list_model.specs.Contributions.{bytes_from}
use Rattle.list_model.specs.Entries.{Entry}
use Rattle.loc_lists.specs.declared.views.ViewPair.{ViewPair}
use Rattle.loc_lists.specs.Apart.{ShortestBehind, StandApart}
use Rattle.loc_lists.specs.Locations.{SpellsLocationList}
use Rattle.loc_lists.specs.Views.{SpellsPair, ShortestPair}
use Rattle.value_links.specs.Reading.{Reading, of_kind, lists_of, part_at, list_at, view_at}
use Rattle.written_files.specs.TidyLists.{IsWhole}
use Rattle.tidy_lists.specs.Followers.{AreBytesOf, HasLength, IsPartOfRun, RunHasLength}

-- entries with their expressions taken apart are a list
apart_spelled : (locations : List (Entry × List ℕ)) (bytes bare : List ℕ) → StandApart ShortestBehind locations bytes bare →
    SpellsLocationList locations bytes
apart_spelled [] bytes bare (end, without) = ([], bytes, refl, end, refl)
apart_spelled (location ∷ locations) bytes bare (own, behind, rest, bare_rest, entry, after, more, is, without) =
    let (front, end, joined, ended, rest_is) = apart_spelled locations rest bare_rest more in
    let first : List ℕ = own ++ behind in (
      first ++ front,
      end,
      (first, front, (own, behind, entry, after.0, refl), joined, refl),
      ended,
      is ∙ ap (λ (z : List ℕ). own ++ (behind ++ z)) rest_is ∙ sym (append_assoc own behind (front ++ end)) ∙ sym (append_assoc first front end),
    )

whole_bytes : (kind : ListKind) (raws : List RawEntry) (bytes : List ℕ) → IsWhole kind raws bytes → AreBytesOf kind raws bytes
whole_bytes Ranges raws bytes whole = whole
whole_bytes Locations raws bytes (locations, bare, said, apart) = (locations, said, apart_spelled locations bytes bare apart)

-- pairs without a byte too many are pairs
pairs_spelled : (pairs : List ViewPair) (bytes : List ℕ) → Joined ShortestPair pairs bytes → Joined SpellsPair pairs bytes
pairs_spelled [] bytes is = is
pairs_spelled (pair ∷ pairs) bytes (first, rest, one, more, is) = (first, rest, one.0, pairs_spelled pairs rest more, is)

-- runs without pairs have no byte
pub no_bytes : (pairs : List ViewPair) (bytes : List ℕ) → Joined ShortestPair pairs bytes → pairs ≡ [] → length bytes ≡ 0
no_bytes [] bytes is none = ap (λ (z : List ℕ). length z) is
no_bytes (pair ∷ pairs) bytes is none = absurd (cc)

module _ (s : Reading) (p : ℕ) where
  -- so lists and runs that stand in a contribution have lengths
  pub list_has : (kind : ListKind) (k : ℕ) (bytes rest : List ℕ) → (list_at (lists_of s kind) k).part ≡ p →
      IsWhole kind (list_at (lists_of s kind) k).raws bytes →
      bytes_from (of_kind s.links kind).section (part_at (of_kind s.links kind) p) (list_at (lists_of s kind) k).at ≡ bytes ++ rest →
      HasLength kind s (list_at (lists_of s kind) k) (length bytes)
  list_has kind k bytes rest part whole stands = record {
    bytes = bytes;
    rest = rest;
    stands =
        ap (λ (z : ℕ). bytes_from (of_kind s.links kind).section (part_at (of_kind s.links kind) z) (list_at (lists_of s kind) k).at) part
        ∙ stands;
    read = whole_bytes kind (list_at (lists_of s kind) k).raws bytes whole;
    count = refl;
  }

  pub run_has : (n at : ℕ) (bytes rest : List ℕ) → IsPartOfRun s (view_at s.views n) p → (view_at s.views n).at ≡ at →
      Joined ShortestPair (view_at s.views n).pairs bytes →
      bytes_from s.links.locations.section (part_at s.links.locations p) at ≡ bytes ++ rest → RunHasLength s (view_at s.views n) (length bytes)
  run_has n at bytes rest part here pairs stands = record {
    p = p;
    part = part;
    bytes = bytes;
    rest = rest;
    stands = ap (λ (z : ℕ). bytes_from s.links.locations.section (part_at s.links.locations p) z) here ∙ stands;
    read = pairs_spelled (view_at s.views n).pairs bytes pairs;
    count = refl;
  }
