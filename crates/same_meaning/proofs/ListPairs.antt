-- Lists of two files that are compared.
use Rattle.std.proofs.Common.{◌≡◌, ℕ, [], Bool, true, false, Result, Ok, Err, sym, subst, refl}
use Rattle.std.specs.Prelude.{◌↔◌, IsTrue, IfOk}
use Rattle.std.specs.List.{Contains}
use Rattle.list_model.specs.declared.entry.ListKind.{ListKind}
use Rattle.list_model.specs.declared.entry.ListKind.TheVariants.{Ranges, Locations}
use Rattle.list_arena.specs.Held.{HeldList}
use Rattle.value_links.specs.Reading.{Reading}
use Rattle.value_links.specs.Lists.{owner_unit}
use Rattle.value_links.specs.Resolved.{Content, MeansList}
use Rattle.value_links.specs.World.{World, lists_held}
use Rattle.same_meaning.specs.inside.Compared.{OfBoth, MeanOne, held_expressions, MeanSameExpressions}
use Rattle.same_meaning.specs.inside.Lists.{HasContent}
use Rattle.same_meaning.proofs.ListItems.{answers_no, answers_yes}
use Rattle.same_meaning.proofs.ListContents.{LinkExpressions, list_read, one_content, one_link, mean_one}

-- a test of the contents of two lists
abbrev pub TestsContent : Bool → HeldList → HeldList → Type 0
TestsContent result old new = (kind : ListKind) (content other : Content) → HasContent kind old content → HasContent kind new other → IsTrue result ↔ (other ≡ content)

abbrev pub TestsLists : World → World → ListKind → ℕ → ℕ → Bool → Type 0
TestsLists a b kind first second same = OfBoth a b (λ r s. IsTrue same ↔ MeanOne (MeansList r kind first) (MeansList s kind second))

abbrev pub TestsExpressions : World → World → HeldList → HeldList → Bool → Type 0
TestsExpressions a b old new same = OfBoth a b (λ r s. IsTrue same ↔ MeanSameExpressions r.links (owner_unit r.links old.owner) (held_expressions r.links.locations.section old) s.links (owner_unit s.links new.owner) (held_expressions s.links.locations.section new))

-- lists of a kind that are held by two files
pub record AreListsAt (a b : World) (kind : ListKind) (first second : ℕ) (old new : HeldList) : Type 0 where
  pub one : Contains (lists_held a kind) old
  pub other : Contains (lists_held b kind) new
  pub one_at : old.at ≡ first
  pub other_at : new.at ≡ second

-- ranges have no expressions
no_expressions : (r s : Reading) (old new : HeldList) → MeanOne (LinkExpressions r.links Ranges old) (LinkExpressions s.links Ranges new)
no_expressions r s old new = ([], tt, tt)

module _ (a b : World) (old new : HeldList) where
  differ_here : (kind : ListKind) → AreListsAt a b kind old.at new.at old new → TestsContent false old new → TestsLists a b kind old.at new.at false
  differ_here kind are contents = λ r s read holds again held. answers_no (λ both.
      let (content, has, other) = one_content a.image b.image r s read again kind old new (list_read a.image a r holds kind old are.one) (list_read b.image b s held kind new are.other) both in
      let passes : true ≡ false = sym ((contents kind content content has other).1 refl) in
      cc)

  ranges_here : AreListsAt a b Ranges old.at new.at old new → TestsContent true old new → TestsLists a b Ranges old.at new.at true
  ranges_here are contents = λ r s read holds again held. answers_yes (mean_one a.image b.image r s read again Ranges old new (list_read a.image a r holds Ranges old are.one) (list_read b.image b s held Ranges new are.other) (λ content other has too. (contents Ranges content other has too).0 refl) (no_expressions r s old new))

  locations_here : AreListsAt a b Locations old.at new.at old new → TestsContent true old new → (same : Bool) → TestsExpressions a b old new same → TestsLists a b Locations old.at new.at same
  locations_here are contents same test = λ r s read holds again held.
      let is = list_read a.image a r holds Locations old are.one in
      let was = list_read b.image b s held Locations new are.other in
      let both = test r s read holds again held in (
        λ passes. mean_one a.image b.image r s read again Locations old new is was (λ content other has too. (contents Locations content other has too).0 refl) (both.0 passes),
        λ one. both.1 (one_link a.image b.image r s read again Locations old new is was one),
      )

  -- at the places where they are looked for
  module _ (kind : ListKind) (first second : ℕ) (are : AreListsAt a b kind first second old new) where
    here : AreListsAt a b kind old.at new.at old new
    here = record { one = are.one; other = are.other; one_at = refl; other_at = refl }

    moved : (same : Bool) → TestsLists a b kind old.at new.at same → TestsLists a b kind first second same
    moved same test = subst (λ (z : ℕ). TestsLists a b kind z second same) are.one_at (subst (λ (z : ℕ). TestsLists a b kind old.at z same) are.other_at test)

    -- they differ where their contents do
    pub lists_differ : (result : Bool) → result ≡ false → TestsContent result old new → TestsLists a b kind first second false
    lists_differ result fails contents = moved false (differ_here kind here (subst (λ (z : Bool). TestsContent z old new) fails contents))

    -- range lists don't where their contents don't
    pub ranges_same : kind ≡ Ranges → (result : Bool) → result ≡ true → TestsContent result old new → TestsLists a b kind first second true
    ranges_same is result passes contents =
        let there = ranges_here (subst (λ (z : ListKind). AreListsAt a b z old.at new.at old new) is here) (subst (λ (z : Bool). TestsContent z old new) passes contents) in
        moved true (subst (λ (z : ListKind). TestsLists a b z old.at new.at true) (sym is) there)

    locations_same : kind ≡ Locations → (result : Bool) → result ≡ true → TestsContent result old new → (same : Bool) → TestsExpressions a b old new same → TestsLists a b kind first second same
    locations_same is result passes contents same test =
        let there = locations_here (subst (λ (z : ListKind). AreListsAt a b z old.at new.at old new) is here) (subst (λ (z : Bool). TestsContent z old new) passes contents) same test in
        moved same (subst (λ (z : ListKind). TestsLists a b z old.at new.at same) (sym is) there)

    -- location lists don't where their expressions don't either
    pub locations_decide : {E : Type 0} → kind ≡ Locations → (result : Bool) → result ≡ true → TestsContent result old new → (answer : Result Bool E) → IfOk answer (TestsExpressions a b old new) → IfOk answer (TestsLists a b kind first second)
    locations_decide is result passes contents (Ok same) test = locations_same is result passes contents same test
    locations_decide is result passes contents (Err e) test = tt
