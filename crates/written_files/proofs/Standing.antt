-- The lists and runs of view pairs of a file that is written anew stand in their contributions, with no byte too many in lengths and pairs.
use Rattle.std.proofs.Common.{◌≡◌, ◌<◌, ℕ, List, [], length, sym, subst, refl}
use Rattle.std.specs.Prelude.{filter, nat_eq}
use Rattle.std.proofs.lemmas.Bool.{eq-eqb}
use Rattle.list_model.specs.declared.contribution.Contribution.{Contribution}
use Rattle.list_model.specs.declared.entry.ListKind.{ListKind}
use Rattle.list_model.specs.declared.entry.ListKind.TheVariants.{Locations}
use Rattle.list_model.specs.Contributions.{lists_at}
use Rattle.value_links.specs.Sections.{debug_abbrev}
use Rattle.value_links.specs.Reading.{ListRead, ViewRead, Reading, of_kind, lists_of, part_at, list_at, view_at}
use Rattle.value_links.specs.Whole.{IsReading}
use Rattle.written_files.specs.TidyLists.{RunsStand, Fill, IsFilled, views_with}
use Rattle.written_files.specs.Tidy.{AreTidy}
use Rattle.written_files.specs.inside.Counterparts.{AreAnew}
use Rattle.written_files.specs.inside.Standing.{StandsWhole}
use Rattle.written_files.specs.inside.Laws.{HoldsOfThese, ListsStand, RunsStandThere}
use Rattle.written_files.proofs.Filled.{kept_one, ListStands, PairsStand, run_stands, list_stands, runs_stand_with}

-- the contributions of a section of lists are filled
abbrev AreFilled : ListKind → Reading → Type 0
AreFilled kind s = (p : ℕ) → p < length (of_kind s.links kind).parts → IsFilled kind s p

module _ (written : List ℕ) (s : Reading) (again : IsReading written s) (kind : ListKind) (filled : AreFilled kind s) (k : ℕ) (inside : k < length (lists_of s kind)) where
  abbrev list : ListRead
  list = list_at (lists_of s kind) k

  abbrev section : List ℕ
  section = (of_kind s.links kind).section

  abbrev part : Contribution
  part = part_at (of_kind s.links kind) list.part

  -- the lists of the contribution in which it begins
  abbrev beside : List ListRead
  beside = filter (λ (other : ListRead). nat_eq other.part list.part) (lists_of s kind)

  filled_there : Fill kind s.views section part beside (lists_at part)
  filled_there = filled list.part ((again.lists kind).each k inside).begins.0

  among : (m : ℕ) × (m < length beside) × (list_at beside m ≡ list)
  among =
      let none : ListRead = record { at = 0; part = 0; raws = [] } in
      kept_one (λ (other : ListRead). nat_eq other.part list.part) (lists_of s kind) k none inside (eq-eqb list.part list.part refl)

  -- a list stands in its contribution
  pub whole_there : StandsWhole kind s k
  whole_there =
      let (m, known, is) = among in
      let there : ListStands section part kind list =
      subst (ListStands section part kind) is (list_stands section part kind s.views beside (lists_at part) filled_there m known) in
      record { bytes = there.bytes; rest = there.rest; whole = there.whole; stands = there.stands }

  -- and so does each run that goes with it
  pub pairs_there : (n : ℕ) → n < length (views_with kind s.views list) → PairsStand section part (view_at (views_with kind s.views list) n)
  pairs_there n few =
      let (m, known, is) = among in
      let (from, runs) = runs_stand_with section part kind s.views beside (lists_at part) filled_there m known in
      let stand = subst (λ (z : ListRead). RunsStand section part (views_with kind s.views z) from z.at) is runs in
      run_stands section part (views_with kind s.views list) from list.at stand n few

module _ (holds : HoldsOfThese) where
  tidy_there : (file written : List ℕ) (r s : Reading) → AreAnew file written r s → AreTidy (debug_abbrev written) r s
  tidy_there file written r s are = holds (AreTidy (debug_abbrev written)) file written r s are.read are.again are.anew.tidy

  pub lists_stand : ListsStand
  lists_stand file written r s are kind k inside = whole_there written s are.again kind ((tidy_there file written r s are).lists kind).filled k inside

  pub runs_stand : RunsStandThere
  runs_stand file written r s are n inside =
      let views = are.again.views.each n inside in
      let filled : AreFilled Locations s = ((tidy_there file written r s are).lists Locations).filled in
      let run : ViewRead = view_at s.views n in
      let list : ListRead = list_at s.location_lists views.k in
      let part : Contribution = part_at s.links.locations list.part in
      let none : ViewRead = record { list = 0; at = 0; pairs = [] } in
      let (m, few, is) = kept_one (λ (other : ViewRead). nat_eq other.list list.at) s.views n none inside (eq-eqb run.list list.at (sym views.at)) in
      let there : PairsStand s.links.locations.section part run =
      subst (PairsStand s.links.locations.section part) is (pairs_there written s are.again Locations filled views.k views.inside m few) in
      record { k = views.k; inside = views.inside; list = views.at; bytes = there.bytes; rest = there.rest; pairs = there.pairs; stands = there.stands }
