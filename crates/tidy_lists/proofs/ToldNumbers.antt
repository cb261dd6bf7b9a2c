-- The numbers of the lists and of the runs of view pairs that links tell.
use Rattle.std.proofs.Common.{◌≡◌, ◌∙◌, ℕ, List, sym, ap, subst}
use Rattle.std.specs.Prelude.{◌↔◌, Option, Some}
use Rattle.list_model.specs.declared.entry.ListKind.{ListKind}
use Rattle.value_links.specs.declared.link.Link.{Link}
use Rattle.value_links.specs.declared.link.Link.TheVariants.{List as AtList, Views}
use Rattle.value_links.specs.Reading.{Reading, lists_of, list_at, view_at}
use Rattle.value_links.specs.Whole.{IsReading}
use Rattle.tidy_lists.specs.declared.followers.named.Sought.{Sought}
use Rattle.tidy_lists.specs.declared.followers.named.Sought.TheVariants.{Lists, Runs}
use Rattle.tidy_lists.specs.inside.NamedNumbers.{IsListNumber, IsRunNumber, IsToldBy, IsNamedBy, IsNamedBySlot, ArePairedBy, ArePairedBySlot}
use Rattle.tidy_lists.proofs.HeldNumbers.{list_once, run_once}

some_once : (a b : ℕ) → Some a ≡ Some b → a ≡ b
some_once a b e = cc e

module _ (file : List ℕ) (r : Reading) (read : IsReading file r) where
  list_is : (kind : ListKind) (place number k : ℕ) → IsListNumber r kind place number → (Some number ≡ Some k) ↔ IsToldBy (Lists kind) r (AtList kind place) k
  list_is kind place number k (known, here) = (
    λ e.
        let same : number ≡ k = some_once number k e in
        subst (IsToldBy (Lists kind) r (AtList kind place)) same (known, ap (λ (z : ℕ). AtList kind z) (sym here)),
    λ (inside, e).
        let there : place ≡ (list_at (lists_of r kind) k).at = cc e in
        ap (λ (z : ℕ). Some z) (list_once file r read kind place number k (known, here) (inside, sym there)),
  )

  run_is : (list place number k : ℕ) → IsRunNumber r list place number → (Some number ≡ Some k) ↔ IsToldBy Runs r (Views list place) k
  run_is list place number k (known, with, here) = (
    λ e.
        let same : number ≡ k = some_once number k e in
        subst (IsToldBy Runs r (Views list place)) same (known, ap (λ (z : ℕ). Views z place) (sym with) ∙ ap (λ (z : ℕ). Views (view_at r.views number).list z) (sym here)),
    λ (inside, e).
        let goes : list ≡ (view_at r.views k).list = cc e in
        let there : place ≡ (view_at r.views k).at = cc e in
        ap (λ (z : ℕ). Some z) (run_once file r read list place number k (known, with, here) (inside, sym goes, sym there)),
  )

  pub list_told : (sought : Sought) (kind : ListKind) → sought ≡ Lists kind → (link : Link) (place : ℕ) → link ≡ AtList kind place → (number : ℕ) → IsListNumber r kind place number → (k : ℕ) → (Some number ≡ Some k) ↔ IsToldBy sought r link k
  list_told sought kind is link place tells number here k =
      subst (λ (z : Sought). (Some number ≡ Some k) ↔ IsToldBy z r link k) (sym is) (subst (λ (z : Link). (Some number ≡ Some k) ↔ IsToldBy (Lists kind) r z k) (sym tells) (list_is kind place number k here))

  pub run_told : (sought : Sought) → sought ≡ Runs → (link : Link) (list place : ℕ) → link ≡ Views list place → (number : ℕ) → IsRunNumber r list place number → (k : ℕ) → (Some number ≡ Some k) ↔ IsToldBy sought r link k
  run_told sought is link list place tells number here k =
      subst (λ (z : Sought). (Some number ≡ Some k) ↔ IsToldBy z r link k) (sym is) (subst (λ (z : Link). (Some number ≡ Some k) ↔ IsToldBy Runs r z k) (sym tells) (run_is list place number k here))

-- where a value names one in each file, these are the only pair
pub paired_only : (sought : Sought) (r s : Reading) (u number : ℕ) (first second : Option ℕ) (old new : ℕ) → first ≡ Some old → second ≡ Some new → ((k : ℕ) → (first ≡ Some k) ↔ IsNamedBy sought r u number k) → ((k : ℕ) → (second ≡ Some k) ↔ IsNamedBy sought s u number k) → (k m : ℕ) → ArePairedBy sought r s u number k m ↔ ((old ≡ k) × (new ≡ m))
paired_only sought r s u number first second old new one two names again k m = (
  λ (here, there). (some_once old k (sym one ∙ (names k).1 here), some_once new m (sym two ∙ (again m).1 there)),
  λ (e, f). ((names k).0 (one ∙ ap (λ (z : ℕ). Some z) e), (again m).0 (two ∙ ap (λ (z : ℕ). Some z) f)),
)

pub slots_only : (kind : ListKind) (r s : Reading) (p i old new : ℕ) → ((k : ℕ) → (k ≡ old) ↔ IsNamedBySlot kind r p i k) → ((k : ℕ) → (k ≡ new) ↔ IsNamedBySlot kind s p i k) → (k m : ℕ) → ArePairedBySlot kind r s p i k m ↔ ((old ≡ k) × (new ≡ m))
slots_only kind r s p i old new names again k m = (
  λ (here, there). (sym ((names k).1 here), sym ((again m).1 there)),
  λ (e, f). ((names k).0 (sym e), (again m).0 (sym f)),
)
