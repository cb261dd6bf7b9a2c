-- What a value is taken to mean: what it means, or for a reference that counts from the section's first byte the one to the same place
-- that counts from its unit's.
use Rattle.std.proofs.Common.{◌≡◌, ◌≢◌, ◌<◌, ◌+◌, ◌⊎◌, ◌∙◌, inl, inr, ℕ, length, sym, ap, subst, refl}
use Rattle.form_codec.specs.Forms.{Meaning}
use Rattle.form_codec.specs.Forms.Meaning.{InUnit, InSection}
use Rattle.entry_read.specs.declared.head.UnitHead.{UnitHead}
use Rattle.value_links.specs.Reading.{Linkable, unit_at}
use Rattle.value_links.specs.Linked.{Linked, IsTargetAt, Links}
use Rattle.rewriter.specs.inside.Taken.{MeansFor}

-- the reference to a place in the section is taken as one within the unit
pub record IsInward (head : UnitHead) (old new : Meaning) : Type 0 where
  pub place : ℕ
  pub offset : ℕ
  pub at : place ≡ head.at + offset
  pub was : old ≡ InSection place
  pub is : new ≡ InUnit offset

-- any other meaning is kept
pub kept_or_inward : (head : UnitHead) (old new : Meaning) → MeansFor head old new → (new ≡ old) ⊎ IsInward head old new
kept_or_inward head (InSection n) new (inl kept) = inl kept
kept_or_inward head (InSection n) new (inr (m, at, inside, is)) = inr (record { place = n; offset = m; at = at; was = refl; is = is })
kept_or_inward head old new kept = inl kept

-- so what tells neither kind of reference from the other is the same of both
pub taken_alike : {A : Type 0} (f : Meaning → A) → ((n m : ℕ) → f (InUnit m) ≡ f (InSection n)) → (head : UnitHead) (old new : Meaning) → MeansFor head old new → f new ≡ f old
taken_alike f same head old new took = elim (kept_or_inward head old new took) [
  | inl kept ↦ ap f kept
  | inr inward ↦ ap f inward.is ∙ same inward.place inward.offset ∙ sym (ap f inward.was)
]

-- what is taken to be no reference within the unit is kept
pub was_taken : (head : UnitHead) (old new : Meaning) → MeansFor head old new → ((m : ℕ) → new ≢ InUnit m) → old ≡ new
was_taken head old new took other = elim (kept_or_inward head old new took) [
  | inl kept ↦ sym kept
  | inr inward ↦ absurd (other inward.offset inward.is)
]

-- a value refers to what it refers to as it is taken
pub taken_links : (r : Linkable) (u id name : ℕ) (old new : Meaning) (linked : Linked) → u < length r.units → MeansFor (unit_at r u).head old new → Links r u id name new linked → Links r u id name old linked
taken_links r u id name old new linked inside took links = elim (kept_or_inward (unit_at r u).head old new took) [
  | inl kept ↦ subst (λ (z : Meaning). Links r u id name z linked) kept links
  | inr inward ↦
      let local : Links r u id name (InUnit inward.offset) linked = subst (λ (z : Meaning). Links r u id name z linked) inward.is links in
      let there : IsTargetAt (unit_at r u).forest local.0 inward.place = subst (IsTargetAt (unit_at r u).forest local.0) (sym inward.at) local.1 in
      subst (λ (z : Meaning). Links r u id name z linked) (sym inward.was) (u, local.0, (inside, there), local.2)
]
