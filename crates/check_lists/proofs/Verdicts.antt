-- The verdict on a record, from the first potential that isn't accepted and the one size that is.
use Rattle.std.proofs.Common.{◌≡◌, ◌≤◌, ◌<◌, ℕ, List, length, subst, arith, inl, inr}
use Rattle.std.proofs.lemmas.Bool.{cases_lt}
use Rattle.list_model.specs.declared.context.Context.{Context}
use Rattle.list_model.specs.Items.{Bounds}
use Rattle.list_model.specs.Potentials.{AcceptsAt, AcceptsSize, AcceptsList}
use Rattle.check_lists.specs.Laws.{NeverBoth, OneRefused}
use Rattle.check_lists.specs.Refused.{IsFirstRefused}
use Rattle.check_lists.specs.inside.Walks.{IsFirstFrom}

pub never_both : NeverBoth
never_both addr context items ps size place (inl other) accepts = other.other accepts.each
never_both addr context items ps size place (inr (inl item)) accepts = item.refused (accepts.accepted place item.there)
never_both addr context items ps size place (inr (inr last)) accepts = last.refused accepts.of_size

pub one_refused : OneRefused
one_refused addr context items ps size place other (inl a) (inl b) = omega (arith, a.zero, b.zero)
one_refused addr context items ps size place other (inl a) (inr (inl b)) = absurd (a.other b.each)
one_refused addr context items ps size place other (inl a) (inr (inr b)) = absurd (a.other b.each)
one_refused addr context items ps size place other (inr (inl a)) (inl b) = absurd (b.other a.each)
one_refused addr context items ps size place other (inr (inr a)) (inl b) = absurd (b.other a.each)
one_refused addr context items ps size place other (inr (inl a)) (inr (inr b)) = absurd (a.refused (b.accepted place a.there))
one_refused addr context items ps size place other (inr (inr a)) (inr (inl b)) = absurd (b.refused (a.accepted other b.there))
one_refused addr context items ps size place other (inr (inr a)) (inr (inr b)) = omega (arith, a.past, b.past)
one_refused addr context items ps size place other (inr (inl a)) (inr (inl b)) =
    elim (cases_lt place other) [
      | inl less ↦ absurd (a.refused (b.before place less))
      | inr ge ↦ elim (cases_lt other place) [
        | inl less ↦ absurd (b.refused (a.before other less))
        | inr le ↦ omega (arith, ge, le)
      ]
    ]

module _ (addr : List ℕ) (context : Context) (items : List Bounds) (ps : List ℕ) (count first least : ℕ) (all : length items ≡ count) (each : length ps ≡ count) (is : IsFirstFrom (AcceptsAt addr context items ps) 0 count first) (of : AcceptsSize addr context items ps least) where
  pub refused_item : (size : ℕ) → first < count → IsFirstRefused addr context items ps size first
  refused_item size less = inr (inl (record {
    each = omega (arith, all, each);
    there = omega (arith, all, less);
    refused = is.fails less;
    before = λ i lt. is.before i (omega arith) lt;
  }))

  all_accepted : count ≤ first → (i : ℕ) → i < length items → AcceptsAt addr context items ps i
  all_accepted past i lt = is.before i (omega arith) (omega (arith, all, lt, past))

  pub refused_size : (size : ℕ) → count ≤ first → ¬ (least ≡ size) → IsFirstRefused addr context items ps size count
  refused_size size past differs = inr (inr (record {
    each = omega (arith, all, each);
    accepted = all_accepted past;
    refused = λ accepted. differs (omega (arith, accepted.least least of.enough, of.least size accepted.enough));
    past = omega (arith, all);
  }))

  pub accepted_all : (size : ℕ) → count ≤ first → least ≡ size → AcceptsList addr context items ps size
  accepted_all size past same = record {
    each = omega (arith, all, each);
    accepted = all_accepted past;
    of_size = subst (AcceptsSize addr context items ps) same of;
  }
