-- A list that entries of one unit name and no others: it has an owner, it isn't frozen where it is short and no sum passes, and it means
-- its items in the context of its unit.
use Rattle.std.proofs.Common.{◌≡◌, ℕ, List, ◌∙◌, sym, ap, refl, subst, arith, inl, inr}
use Rattle.std.specs.Prelude.{Some}
use Rattle.std.specs.List.{All, AllZip, Contains}
use Rattle.list_model.specs.declared.entry.ListKind.{ListKind}
use Rattle.list_model.specs.Entries.{Entry, AreSaid}
use Rattle.list_model.specs.Items.{Bounds, Give, Fits}
use Rattle.list_model.proofs.WalkLaws.{one_saying, one_walk}
use Rattle.value_links.specs.Operations.{LinkedOperation, LinksExpression}
use Rattle.value_links.specs.Reading.{ListRead, Linkable, Reading, lists_of, context_at}
use Rattle.value_links.specs.Lists.{IsNamedIn, IsOwner, IsOfTwoUnits, IsLong, IsFrozen, IsTold, AreExpressionsRead, AreLookedUp, expressions_at}
use Rattle.value_links.specs.Resolved.{MeansList}
use Rattle.value_links.specs.Resolved.Content.{Items}

module _ (r : Linkable) (kind : ListKind) (list : ListRead) (entries : List Entry) (bounds : List Bounds) (u : ℕ) (said : AreSaid kind list.raws entries) (gives : Give r.addresses (context_at r u) entries bounds) (fit : All Fits bounds) (short : ¬ IsLong entries) (named : IsNamedIn r kind list.at u) (only : (v : ℕ) → IsNamedIn r kind list.at v → v ≡ u) where
  pub owned : IsOwner r kind list.at (Some u)
  owned = (named, λ earlier less has. omega (arith, less, only earlier has))

  -- what it gives in the context of a unit that names it
  given : (v : ℕ) (others : List Entry) (sums : List Bounds) → IsNamedIn r kind list.at v → AreSaid kind list.raws others → Give r.addresses (context_at r v) others sums → sums ≡ bounds
  given v others sums has are give =
      let here : Give r.addresses (context_at r u) others sums = subst (λ (z : ℕ). Give r.addresses (context_at r z) others sums) (only v has) give in
      let same : Give r.addresses (context_at r u) entries sums = subst (λ (z : List Entry). Give r.addresses (context_at r u) z sums) (one_saying kind list.raws others entries are said) here in
      one_walk r.addresses (context_at r u) entries sums bounds same gives

  pub thawed : ¬ IsFrozen r kind list
  thawed (others, are, inl dead) = dead.dead (subst (All Fits) (sym (given dead.u others dead.bounds dead.named are dead.gives)) fit)
  thawed (others, are, inr (inl (v, w, first, second, differ))) = differ (ap (λ (z : ℕ). context_at r z) (only v first ∙ sym (only w second)))
  thawed (others, are, inr (inr (inl none))) = none u named
  thawed (others, are, inr (inr (inr long))) = short (subst IsLong (one_saying kind list.raws others entries are said) long)

  pub told : IsTold r kind list
  told = record { owner = Some u; owned = owned; frozen = inr thawed }

  pub looked : (v : ℕ) → IsNamedIn r kind list.at v → AreLookedUp r kind v list
  looked v has = (entries, bounds, said, subst (λ (z : ℕ). Give r.addresses (context_at r z) entries bounds) (sym (only v has)) gives)

  alone : ¬ IsOfTwoUnits r kind list.at
  alone (v, w, differ, first, second) = differ (only v first ∙ sym (only w second))

  pub expressions_read : All (λ (bytes : List ℕ). (linked : List LinkedOperation) × LinksExpression r u bytes linked) (expressions_at r kind list) → AreExpressionsRead r kind list
  expressions_read linked = record { owner = Some u; owned = owned; linked = linked; single = λ two. absurd (alone two) }

-- it means its items, and the operations of their expressions
pub owned_means : (r : Reading) (kind : ListKind) (list : ListRead) (entries : List Entry) (bounds : List Bounds) (u : ℕ) (expressions : List (List LinkedOperation)) → AreSaid kind list.raws entries → Give r.links.addresses (context_at r.links u) entries bounds → All Fits bounds → ¬ IsLong entries → IsNamedIn r.links kind list.at u → ((v : ℕ) → IsNamedIn r.links kind list.at v → v ≡ u) → Contains (lists_of r kind) list → AllZip (LinksExpression r.links u) (expressions_at r.links kind list) expressions → MeansList r kind list.at (record { kind = kind; content = Items bounds; expressions = expressions })
owned_means r kind list entries bounds u expressions said gives fit short named only among linked = record {
  list = list;
  one = among;
  here = refl;
  owner = Some u;
  owned = owned r.links kind list entries bounds u said gives fit short named only;
  entries = entries;
  said = said;
  same = refl;
  content = (thawed r.links kind list entries bounds u said gives fit short named only, (gives, fit));
  expressions = linked;
}
