-- No number of the view pairs of a file that is written anew has a byte too many.
use Rattle.std.proofs.Common.{◌≡◌, ◌≤◌, ◌+◌, ◌-◌, ◌++◌, ◌∙◌, inl, inr, ℕ, List, [], ◌∷◌, length, drop, sym, ap, subst, refl, arith}
use Rattle.std.proofs.lemmas.List.{append_cancel_left, length-append}
use Rattle.spelled.specs.Spelled.{Joined}
use Rattle.spelled.proofs.Joins.{joined_split, joined_front}
use Rattle.leb_codec.specs.Leb.{Uleb, least_unsigned_len}
use Rattle.leb_codec.proofs.Fronts.{unique_u}
use Rattle.leb_codec.proofs.Lens.{least_below}
use Rattle.leb_codec.proofs.SpellingLaws.{spelled_fits}
use Rattle.list_model.specs.Contributions.{part_end}
use Rattle.loc_lists.specs.declared.views.ViewPair.{ViewPair}
use Rattle.loc_lists.specs.Views.{SpellsPair, ShortestPair}
use Rattle.value_links.specs.Reading.{ViewRead, Reading, part_at, list_at, view_at}
use Rattle.written_files.specs.inside.Counterparts.{AreAnew}
use Rattle.written_files.specs.inside.Laws.{AreLaws}
use Rattle.tidy_numbers.specs.Fronts.{IsLong}
use Rattle.tidy_numbers.specs.LongLists.{IsLongInRun, IsLongInViews}
use Rattle.tidy_numbers.specs.inside.NumberWalks.{IsLongPair}
use Rattle.tidy_numbers.proofs.ListEntriesStand.{in_section}
use Rattle.tidy_numbers.proofs.PairWalks.{pair_once}
use Rattle.tidy_numbers.proofs.ShortFronts.{in_parts, few_not_long, behind_this}

-- each of two numbers has at least the bytes that it needs, so that neither has more where both together have the fewest
pair_short : (pair : ViewPair) (a x : List ℕ) (at : ℕ) → ShortestPair pair a → IsLongPair at (a ++ x) → ⊥
pair_short pair a x at ((first, last, s, t, e), size) long =
    let whole : a ++ x ≡ first ++ (last ++ x) = in_parts (a ++ x) a x first last refl e in
    let sum : length a ≡ length first + length last = ap length e ∙ length-append first last in
    let one : least_unsigned_len pair.first ≤ length first = least_below pair.first (length first) (spelled_fits first pair.first s.0) in
    let other : least_unsigned_len pair.last ≤ length last = least_below pair.last (length last) (spelled_fits last pair.last t.0) in
    elim long [
      | inl here ↦ few_not_long pair.first first (last ++ x) (a ++ x) s.0 (omega (arith, size, sum, other)) whole here.1
      | inr later ↦
          let (inner, here) = behind_this Uleb (λ number. IsLong) unique_u pair.first at first (last ++ x) (a ++ x) s whole later in
          few_not_long pair.last last x (last ++ x) t.0 (omega (arith, size, sum, one)) refl here.1
    ]

-- the pairs are pairs by themselves
pairs_spelled : (pairs : List ViewPair) (bytes : List ℕ) → Joined ShortestPair pairs bytes → Joined SpellsPair pairs bytes
pairs_spelled [] bytes j = j
pairs_spelled (p ∷ ps) bytes (first, rest, s, j, e) = (first, rest, s.0, pairs_spelled ps rest j, e)

-- behind some of the pairs of a run another begins
run_short : (section : List ℕ) (run : ViewRead) (bytes rest : List ℕ) (p : ℕ) → Joined ShortestPair run.pairs bytes → drop run.at section ≡ bytes ++ rest → IsLongInRun section run p → ⊥
run_short section run bytes rest p j stands long =
    let pairs = subst (λ (z : List ViewPair). Joined ShortestPair z bytes) long.pairs j in
    let (a, b, before, (own, left, short, others, f), e) = joined_split ShortestPair long.before (long.pair ∷ long.after) bytes pairs in
    let all : long.front ++ long.rest ≡ a ++ (b ++ rest) = in_parts (long.front ++ long.rest) bytes rest a b (sym long.whole ∙ stands) e in
    let same : long.front ≡ a = joined_front SpellsPair pair_once long.before long.front a long.rest (b ++ rest) long.spelled (pairs_spelled long.before a before) all in
    let here : long.rest ≡ b ++ rest = append_cancel_left a long.rest (b ++ rest) (ap (λ (z : List ℕ). z ++ long.rest) (sym same) ∙ all) in
    let parts : long.rest ≡ own ++ (left ++ rest) = in_parts long.rest b rest own left here f in
    pair_short long.pair own (left ++ rest) long.inner short (subst (IsLongPair long.inner) parts long.long)

module _ (laws : AreLaws) where
  pub views_short : (file written : List ℕ) (r s : Reading) → AreAnew file written r s → (p : ℕ) → IsLongInViews s p → ⊥
  views_short file written r s anew p (n, known, long) =
      let run = laws.runs_stand file written r s anew n known in
      let part = part_at s.links.locations (list_at s.location_lists run.k).part in
      let section : List ℕ = s.links.locations.section in
      let at : ℕ = (view_at s.views n).at in
      run_short section (view_at s.views n) run.bytes (run.rest ++ drop (part_end part - at) (drop at section)) p run.pairs (in_section section part at run.bytes run.rest run.stands) long
