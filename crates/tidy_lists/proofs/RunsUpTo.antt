-- The bytes of view pairs of a file that is read.
use Rattle.std.proofs.Common.{◌≡◌, ◌≤◌, ◌<◌, ◌+◌, ◌-◌, ◌*◌, ◌++◌, ◌∙◌, ℕ, zero, suc, List, [], ◌∷◌, length, drop, refl, sym, ap, subst, arith}
use Rattle.std.specs.Prelude.{slice_index_or}
use Rattle.std.proofs.lemmas.List.{length-append, length-drop, length-map, append_assoc, take-append-drop, get_or-map}
use Rattle.std.proofs.Math.Seq.{drop-append_seam}
use Rattle.spelled.specs.Spelled.{Joined}
use Rattle.list_model.specs.declared.entry.ListKind.TheVariants.{Locations}
use Rattle.list_model.specs.Contributions.{part_end}
use Rattle.list_model.proofs.Tiling.{part_inside}
use Rattle.loc_lists.specs.declared.views.ViewPair.{ViewPair}
use Rattle.loc_lists.specs.Views.{SpellsPair}
use Rattle.list_arena.specs.Held.{HeldViews}
use Rattle.value_links.specs.Sections.{debug_lists}
use Rattle.value_links.specs.Reading.{ViewRead, Reading, part_at, view_at, list_at}
use Rattle.value_links.specs.ListPlaces.{IsListPlace}
use Rattle.value_links.specs.Whole.{IsReading}
use Rattle.value_links.specs.World.{World, Holds}
use Rattle.value_links.proofs.Viewings.{views_told}
use Rattle.value_links.proofs.PartPlaces.{part_stands}
use Rattle.tidy_lists.specs.Followers.{RunHasLength}
use Rattle.tidy_lists.specs.inside.Lengths.{AreNumbersUpTo}
use Rattle.tidy_lists.proofs.EntriesUpTo.{drop_on}

-- behind a front of what stands at a place
behind : (bytes : List ℕ) (at : ℕ) (first rest : List ℕ) → drop at bytes ≡ first ++ rest → drop (at + length first) bytes ≡ rest
behind bytes at first rest e = sym (drop_on at (length first) bytes) ∙ ap (drop (length first)) e ∙ drop-append_seam first rest

-- pairs that stand at a place are twice as many numbers
pub pairs_numbers : (bytes : List ℕ) (at : ℕ) (pairs : List ViewPair) (run rest : List ℕ) (count : ℕ) → count ≡ 2 * length pairs → Joined SpellsPair pairs run → drop at bytes ≡ run ++ rest → AreNumbersUpTo bytes at count (at + length run)
pairs_numbers bytes at [] run rest zero size joined e = let none : length run ≡ 0 = ap length joined in omega (arith, none)
pairs_numbers bytes at [] run rest (suc count) size joined e = absurd (omega (arith, size))
pairs_numbers bytes at (pair ∷ pairs) run rest zero size joined e = absurd (omega (arith, size))
pairs_numbers bytes at (pair ∷ pairs) run rest (suc zero) size joined e = absurd (omega (arith, size))
pairs_numbers bytes at (pair ∷ pairs) run rest (suc (suc count)) size (first, later, (one, two, low, high, parts), joined, whole) e =
    let all : drop at bytes ≡ one ++ (two ++ (later ++ rest)) = e ∙ ap (λ (z : List ℕ). z ++ rest) (whole ∙ ap (λ (z : List ℕ). z ++ later) parts) ∙ append_assoc (one ++ two) later rest ∙ append_assoc one two (later ++ rest) in
    let next : drop (at + length one) bytes ≡ two ++ (later ++ rest) = behind bytes at one (two ++ (later ++ rest)) all in
    let last : drop (at + length one + length two) bytes ≡ later ++ rest = behind bytes (at + length one) two (later ++ rest) next in
    let more = pairs_numbers bytes (at + length one + length two) pairs later rest count (omega (arith, size)) joined last in
    let end : at + length one + length two + length later ≡ at + length run = (let sum : length run ≡ length one + length two + length later = ap length whole ∙ length-append first later ∙ ap (λ (n : ℕ). n + length later) (ap length parts ∙ length-append one two) in omega (arith, sum)) in
    (pair.first, one, two ++ (later ++ rest), low, all, (pair.last, two, later ++ rest, high, next, subst (λ (n : ℕ). AreNumbersUpTo bytes (at + length one + length two) count n) end more))

module _ (world : World) (s : Reading) (read : IsReading world.image s) (holds : Holds world.image world s) where
  -- The run with a number, as it is held: where its numbers end in the bytes of the section, and how many bytes it has as it is read.
  pub run_stands :
      (views : List HeldViews) (number : ℕ) (d : HeldViews) (bytes : List ℕ) (at count : ℕ) → views ≡ world.views → number < length world.views → bytes ≡ debug_lists world.image Locations → at ≡ (slice_index_or views number d).at → count ≡ length (slice_index_or views number d).pairs →
      (len : ℕ) × AreNumbersUpTo bytes at (2 * count) (at + len) × RunHasLength s (view_at s.views number) len × ((view_at s.views number).at ≡ at) × (at + len ≤ length s.links.locations.section)
  run_stands views number d bytes at count those inside given here counted =
      let held : HeldViews = slice_index_or views number d in
      let as_read : HeldViews → ViewRead = λ (run : HeldViews). record { list = run.list; at = run.at; pairs = run.pairs } in
      let section = s.links.locations in
      let none : ViewRead = record { list = 0; at = 0; pairs = [] } in
      let v : ViewRead = view_at s.views number in
      let same : v ≡ as_read held = ap (λ (all : List ViewRead). slice_index_or all number none) holds.views ∙ get_or-map as_read world.views number d none inside ∙ ap (λ (all : List HeldViews). as_read (slice_index_or all number d)) (sym those) in
      let known : number < length s.views = subst (λ (n : ℕ). number < n) (sym (ap length holds.views ∙ length-map world.views as_read)) inside in
      let of = read.views.each number known in
      let p : ℕ = (list_at s.location_lists of.k).part in
      let begins = ((read.lists Locations).each of.k of.inside).begins in
      let ends : part_end (part_at section p) ≤ length section.section = (part_inside section.section (part_at section p) (part_stands section.section section.parts (read.links.lists Locations).tiled p begins.0)).1 in
      let run = of.read in
      let front : drop v.at section.section ≡ run.run ++ (run.rest ++ drop (part_end (part_at section p) - v.at) (drop v.at section.section)) =
      sym (take-append-drop (part_end (part_at section p) - v.at) (drop v.at section.section)) ∙ ap (λ (z : List ℕ). z ++ drop (part_end (part_at section p) - v.at) (drop v.at section.section)) run.whole ∙ append_assoc run.run run.rest (drop (part_end (part_at section p) - v.at) (drop v.at section.section)) in
      let numbers = pairs_numbers section.section v.at v.pairs run.run (run.rest ++ drop (part_end (part_at section p) - v.at) (drop v.at section.section)) (2 * length v.pairs) refl run.spelled front in
      let place : v.at ≡ at = ap (λ (z : ViewRead). z.at) same ∙ sym here in
      let (u, value, unit, linked) = of.named in
      let told = views_told s.links u linked.id v.list v.at linked.name linked.meaning linked.links in
      let together = told.together (p, subst (λ (n : ℕ). IsListPlace section p n) of.at begins) in
      let lies : v.at < part_end (part_at section together.0) = together.2.1.before in
      let last : part_end (part_at section together.0) ≤ length section.section = (part_inside section.section (part_at section together.0) (part_stands section.section section.parts (read.links.lists Locations).tiled together.0 together.2.0)).1 in
      let sum : length section.section - v.at ≡ length run.run + length (run.rest ++ drop (part_end (part_at section p) - v.at) (drop v.at section.section)) = sym (length-drop v.at section.section) ∙ ap length front ∙ length-append run.run (run.rest ++ drop (part_end (part_at section p) - v.at) (drop v.at section.section)) in
      let room : at + length run.run ≤ length section.section = omega (arith, place, lies, last, sum) in
      let numbers_held : AreNumbersUpTo bytes held.at (2 * length held.pairs) (held.at + length run.run) =
      subst (λ (z : List ℕ). AreNumbersUpTo z held.at (2 * length held.pairs) (held.at + length run.run)) (holds.sections Locations ∙ sym given)
      (subst (λ (z : ViewRead). AreNumbersUpTo section.section z.at (2 * length z.pairs) (z.at + length run.run)) same numbers) in
      let numbers_here : AreNumbersUpTo bytes at (2 * count) (at + length run.run) =
      subst (λ (n : ℕ). AreNumbersUpTo bytes at (2 * n) (at + length run.run)) (sym counted)
      (subst (λ (n : ℕ). AreNumbersUpTo bytes n (2 * length held.pairs) (n + length run.run)) (sym here) numbers_held) in
      (length run.run, numbers_here, record { p = p; part = record { k = of.k; inside = of.inside; list = of.at; part = refl }; bytes = run.run; rest = run.rest; stands = run.whole; read = run.spelled; count = refl }, place, room)
