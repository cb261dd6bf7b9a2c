-- The lists and view pairs of a file that is written anew are where they are due, and contributions hold nothing else.
use Rattle.std.proofs.Common.{◌≡◌, ◌<◌, ◌∙◌, inl, inr, ℕ, List, length, sym, ap, subst}
use Rattle.std.specs.Prelude.{slice_index}
use Rattle.list_model.specs.declared.entry.ListKind.{ListKind}
use Rattle.list_model.specs.declared.entry.ListKind.TheVariants.{Ranges, Locations}
use Rattle.value_links.specs.Sections.{debug_abbrev}
use Rattle.value_links.specs.Reading.{Reading, of_kind, lists_of, list_at, view_at}
use Rattle.written_files.specs.Tidy.{AreTidy}
use Rattle.written_files.specs.inside.Laws.{AreLaws}
use Rattle.tidy_lists.specs.Followers.{IsPartOfRun}
use Rattle.tidy_lists.specs.Due.{Row, IsListElsewhere, IsRunElsewhere, HoldsAt}
use Rattle.tidy_lists.specs.Due.Piece.{ARun, AList}
use Rattle.tidy_lists.specs.Due.Row.{OfList, OfLooseByte}
use Rattle.tidy_lists.specs.Laws.{WrittenListsAreInPlace}
use Rattle.tidy_lists.proofs.WrittenDue.{due_there}
use Rattle.tidy_lists.proofs.WrittenLoose.{none_loose}
use Rattle.tidy_lists.proofs.WrittenNumbers.{AreKept, list_known, list_kept, run_kept, part_kept}

module _ (file written : List ℕ) (r s : Reading) (are : AreKept file written r s) where
  -- a list begins in a contribution that is there
  part_known : (kind : ListKind) (k : ℕ) → k < length (lists_of s kind) → (list_at (lists_of s kind) k).part < length (of_kind s.links kind).parts
  part_known kind k inside = ((are.again.lists kind).each k inside).begins.0

  -- no list stands elsewhere
  list_in_place : (kind : ListKind) (at : ℕ) → IsListElsewhere kind r s at → ⊥
  list_in_place kind at bad =
      let same : bad.m ≡ bad.k = list_kept file written r s are kind bad.k bad.m bad.follows in
      let p : ℕ = (list_at (lists_of r kind) bad.k).part in
      let part : (list_at (lists_of s kind) bad.k).part ≡ p = (are.lists kind).part bad.k bad.follows.known in
      let inside : bad.k < length (lists_of s kind) = list_known file written r s are kind bad.k bad.follows.known in
      let known : p < length (of_kind s.links kind).parts =
      subst (λ (z : ℕ). z < length (of_kind s.links kind).parts) part (part_known kind bad.k inside) in
      let due : bad.due ≡ (list_at (lists_of s kind) bad.k).at = due_there file written r s are p (AList bad.k) bad.due kind known bad.is_due in
      elim bad.elsewhere [
        | inl apart ↦ apart (bad.place ∙ ap (λ (z : ℕ). (list_at (lists_of s kind) z).at) same ∙ sym due)
        | inr apart ↦ apart (ap (λ (z : ℕ). (list_at (lists_of s kind) z).part) same ∙ part)
      ]

  -- nor does a run of view pairs
  run_in_place : (at : ℕ) → IsRunElsewhere r s at → ⊥
  run_in_place at bad =
      let number : ℕ = slice_index are.views.numbers bad.j in
      let same : bad.n ≡ number = run_kept file written r s are bad.j bad.n bad.follows in
      let part : IsPartOfRun s (view_at s.views number) bad.p = part_kept file written r s are bad.j bad.p bad.follows.known bad.part in
      let known : bad.p < length s.links.locations.parts =
      subst (λ (z : ℕ). z < length s.links.locations.parts) part.part (part_known Locations part.k part.inside) in
      let due : bad.due ≡ (view_at s.views number).at = due_there file written r s are bad.p (ARun bad.j) bad.due Locations known bad.is_due in
      elim bad.elsewhere [
        | inl apart ↦ apart (bad.place ∙ ap (λ (z : ℕ). (view_at s.views z).at) same ∙ sym due)
        | inr apart ↦ apart (subst (λ (z : ℕ). IsPartOfRun s (view_at s.views z) bad.p) (sym same) part)
      ]

  none_holds : (row : Row) (kind : ListKind) (at : ℕ) → HoldsAt row kind r s at → ⊥
  none_holds OfList Ranges at bad = list_in_place Ranges at bad
  none_holds OfList Locations at (inl bad) = list_in_place Locations at bad
  none_holds OfList Locations at (inr bad) = run_in_place at bad
  none_holds OfLooseByte kind at bad = none_loose kind s at (are.lists kind).filled bad

-- no row holds of a file that is written anew
pub written_in_place : AreLaws → WrittenListsAreInPlace
written_in_place laws classes file written anew row p bad =
    let tidy : AreTidy (debug_abbrev written) bad.r bad.s =
    laws.holds (AreTidy (debug_abbrev written)) file written bad.r bad.s bad.read bad.again anew.tidy in
    let are : AreKept file written bad.r bad.s = record { read = bad.read; again = bad.again; lists = tidy.lists; views = tidy.views } in
    none_holds file written bad.r bad.s are row bad.kind bad.inner bad.holds
