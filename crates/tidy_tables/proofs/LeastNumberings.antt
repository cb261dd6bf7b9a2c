-- What isn't otherwise than a least numbering is one.
use Rattle.std.proofs.Common.{◌≡◌, ◌≤◌, ◌<◌, inl, inr, ℕ, List, arith}
use Rattle.std.proofs.lemmas.Bool.{cases_eq, cases_lt}
use Rattle.leb_codec.specs.Numbering.{IsLeastNumbering}

surely_same : (x y : ℕ) → ((x ≡ y → ⊥) → ⊥) → x ≡ y
surely_same x y sure = elim (cases_eq x y) [ inl same ↦ same | inr differ ↦ absurd (sure differ) ]

surely_most : (x y : ℕ) → ((x ≤ y → ⊥) → ⊥) → x ≤ y
surely_most x y sure = elim (cases_lt y x) [ inl above ↦ absurd (sure (λ most. absurd (omega arith))) | inr most ↦ omega arith ]

surely_less : (x y : ℕ) → ((x < y → ⊥) → ⊥) → x < y
surely_less x y sure = elim (cases_lt x y) [ inl less ↦ less | inr most ↦ absurd (sure (λ less. absurd (omega arith))) ]

pub surely_least : (uses numbers : List ℕ) → ((IsLeastNumbering uses numbers → ⊥) → ⊥) → IsLeastNumbering uses numbers
surely_least uses numbers sure = record {
  member = record {
    same_length = surely_same _ _ (λ differ. sure (λ least. differ least.member.same_length));
    unused = λ i inside none. surely_same _ _ (λ differ. sure (λ least. differ (least.member.unused i inside none)));
    positive = λ i is. surely_most _ _ (λ none. sure (λ least. none (least.member.positive i is)));
    narrow = λ i is. surely_less _ _ (λ wide. sure (λ least. wide (least.member.narrow i is)));
    one_to_one = λ i j is other same. surely_same i j (λ differ. sure (λ least. differ (least.member.one_to_one i j is other same)));
  };
  least = λ other member. surely_most _ _ (λ more. sure (λ least. more (least.least other member)));
}
