-- The expressions of lists that are written anew: they name what they named, are read in the unit that owns their list, and are the old ones
-- but for their references.
use Rattle.std.proofs.Common.{◌≡◌, ◌<◌, inl, inr, ℕ, List, length, sym, ap, subst, refl, arith}
use Rattle.std.specs.Prelude.{Option, Some, None}
use Rattle.std.specs.List.{AllZip}
use Rattle.std.proofs.lemmas.Bool.{cases_lt}
use Rattle.dw_base.specs.declared.classes.Classes.{Classes}
use Rattle.dw_base.specs.declared.fault.Reach.TheVariants.{Wide}
use Rattle.expr_ops.specs.Ops.{all_meant}
use Rattle.expr_ops.specs.Drafts.{with_refs}
use Rattle.list_model.specs.declared.entry.ListKind.{ListKind}
use Rattle.unit_write.specs.declared.places.Places.{Places}
use Rattle.unit_write.specs.NewExpressions.{refs_among}
use Rattle.value_links.specs.Reading.{Linkable, Reading, lists_of}
use Rattle.value_links.specs.Operations.{IsSomeExpression, LinkedOperation, LinksExpression}
use Rattle.value_links.specs.Lists.{IsOwner, HasUnitOffset, AreExpressionsRead, AreWithinReach, owner_unit, expressions_at}
use Rattle.written_files.specs.TidyLists.{IsShort, AreShort}
use Rattle.value_links.specs.World.{World}
use Rattle.rewriter.specs.declared.tables.NewTable.{NewTable}
use Rattle.rewriter.specs.declared.new_places.NewPlaces.{NewPlaces}
use Rattle.rewriter.specs.inside.Numbers.{IsNewExpression}
use Rattle.rewriter.specs.inside.Follows.{AreReadAnew}
use Rattle.rewriter.proofs.Zips.{zip_weaker, zip_all, zip_both}
use Rattle.rewriter.proofs.MovedLists.{old_at, old_inside}
use Rattle.rewriter.proofs.MovedExpressions.{had_unit_offset, expression_follows}
use Rattle.rewriter.proofs.ListNames.{owner_stays, were_two_units}
use Rattle.rewriter.proofs.FrozenLists.{old_list, new_list, anew}

-- THE UNIT THAT OWNS A LIST

-- a list has one owner
first_once : (r : Linkable) (kind : ListKind) (at u v : ℕ) → IsOwner r kind at (Some u) → IsOwner r kind at (Some v) → u ≡ v
first_once r kind at u v (one, first) (other, before) = elim (cases_lt u v) [
  | inl less ↦ absurd (before u less one)
  | inr rest ↦ elim (cases_lt v u) [
    | inl less ↦ absurd (first v less other)
    | inr more ↦ omega arith
  ]
]

pub owner_once : (r : Linkable) (kind : ListKind) (at : ℕ) (a b : Option ℕ) → IsOwner r kind at a → IsOwner r kind at b → a ≡ b
owner_once r kind at (Some u) (Some v) one other = ap (λ (z : ℕ). Some z) (first_once r kind at u v one other)
owner_once r kind at (Some u) None (named, _) none = absurd (none u named)
owner_once r kind at None (Some v) none (named, _) = absurd (none v named)
owner_once r kind at None None none other = refl

-- where there are as many units, it counts in the unit with the same number
pub same_owner_unit : (r s : Linkable) (owner : Option ℕ) → length s.units ≡ length r.units → owner_unit s owner ≡ owner_unit r owner
same_owner_unit r s (Some u) count = refl
same_owner_unit r s None count = count

-- EXPRESSIONS BY THEMSELVES

-- what is written anew is an expression within the wide limits
some_wide : (r : Linkable) (places : List Places) (u : ℕ) (bytes made : List ℕ) → IsNewExpression r places u bytes made → IsSomeExpression Wide made
some_wide r places u bytes made is = (with_refs (refs_among is.ops is.numbers) (all_meant bytes is.ops), is.written.written.expression)

shortly : (r : Linkable) (places : List Places) (u : ℕ) (bytes made : List ℕ) → IsNewExpression r places u bytes made → IsShort bytes made
shortly r places u bytes made is = (refs_among is.ops is.numbers, is.ops, is.spelled, is.written)

-- the operations of the bytes name what they may
abbrev LinksSome : Linkable → ℕ → List ℕ → Type 0
LinksSome r u bytes = (linked : List LinkedOperation) × LinksExpression r u bytes linked

module _ {classes : Classes} {file : List ℕ} {world : World} {tables : List NewTable} {places : List Places} {new_places : NewPlaces} {info abbrevs : List ℕ} {r s : Reading} (all : AreReadAnew classes file world tables places new_places info abbrevs r s) (kind : ListKind) where
  -- the expressions of a list, and those that are written anew for it
  abbrev olds : ℕ → List (List ℕ)
  olds k = expressions_at r.links kind (old_list all kind k)

  abbrev news : ℕ → List (List ℕ)
  news k = expressions_at s.links kind (new_list all kind k)

  -- each is written anew in the unit of the owner
  pub each_anew : (k : ℕ) (owner : Option ℕ) → k < length (lists_of r kind) → IsOwner r.links kind (old_at all kind k) owner → AllZip (IsNewExpression r.links places (owner_unit r.links owner)) (expressions_at r.links kind (old_list all kind k)) (expressions_at s.links kind (new_list all kind k))
  each_anew k owner inside owned =
      let is = (anew all kind k inside).expressions in
      let same : is.owner ≡ owner = owner_once r.links kind (old_at all kind k) is.owner owner is.owned owned in
      subst (λ (z : Option ℕ). AllZip (IsNewExpression r.links places (owner_unit r.links z)) (olds k) (news k)) same is.each

  -- an expression names in the new file what it named
  follows : (owner : Option ℕ) (bytes made : List ℕ) (linked : List LinkedOperation) → IsNewExpression r.links places (owner_unit r.links owner) bytes made → LinksExpression r.links (owner_unit r.links owner) bytes linked → LinksExpression s.links (owner_unit s.links owner) made linked
  follows owner bytes made linked is links =
      subst (λ (z : ℕ). LinksExpression s.links z made linked) (sym (same_owner_unit r.links s.links owner all.units.count)) (expression_follows all (owner_unit r.links owner) bytes made linked is links)

  -- so those of a list mean what they meant
  pub expressions_mean : (k : ℕ) → k < length (lists_of r kind) → (owner : Option ℕ) (meanings : List (List LinkedOperation)) → IsOwner r.links kind (old_at all kind k) owner → AllZip (LinksExpression r.links (owner_unit r.links owner)) (expressions_at r.links kind (old_list all kind k)) meanings → AllZip (LinksExpression s.links (owner_unit s.links owner)) (expressions_at s.links kind (new_list all kind k)) meanings
  expressions_mean k inside owner meanings owned means =
      zip_both (IsNewExpression r.links places (owner_unit r.links owner)) (LinksExpression r.links (owner_unit r.links owner)) (LinksExpression s.links (owner_unit s.links owner)) (follows owner) (olds k) (news k) meanings (each_anew k owner inside owned) means

  -- they are read
  pub expressions_read : (k : ℕ) → k < length (lists_of r kind) → AreExpressionsRead s.links kind (new_list all kind k)
  expressions_read k inside =
      let was = (all.read.lists kind).expressions k inside in
      let u : ℕ = owner_unit r.links was.owner in
      let each = each_anew k was.owner inside was.owned in
      record {
        owner = was.owner;
        owned = owner_stays all kind k was.owner inside was.owned;
        linked = zip_all (IsNewExpression r.links places u) (LinksSome r.links u) (LinksSome s.links (owner_unit s.links was.owner)) (λ bytes made is (linked, links). (linked, follows was.owner bytes made linked is links)) (olds k) (news k) each was.linked;
        single = λ two.
            zip_all (IsNewExpression r.links places u) (λ (bytes : List ℕ). ¬ HasUnitOffset bytes) (λ (made : List ℕ). ¬ HasUnitOffset made) (λ bytes made is none has. none (had_unit_offset r.links places u bytes made is has)) (olds k) (news k) each (was.single (were_two_units all kind k inside two));
      }

  -- they are within the wide limits
  pub expressions_wide : AreWithinReach s.links kind Wide (lists_of s kind)
  expressions_wide k there =
      let inside = old_inside all kind k there in
      let is = (anew all kind k inside).expressions in
      zip_all (IsNewExpression r.links places (owner_unit r.links is.owner)) (λ (bytes : List ℕ). Unit {0}) (IsSomeExpression Wide) (λ bytes made one _. some_wide r.links places (owner_unit r.links is.owner) bytes made one) (olds k) (news k) is.each (λ i d less. tt)

  -- and they are the old ones
  pub expressions_short : (k : ℕ) → k < length (lists_of r kind) → AreShort kind r s k
  expressions_short k inside =
      let is = (anew all kind k inside).expressions in
      zip_weaker (IsNewExpression r.links places (owner_unit r.links is.owner)) IsShort (shortly r.links places (owner_unit r.links is.owner)) (olds k) (news k) is.each
