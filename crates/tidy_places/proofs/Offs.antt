-- The least offset of sections that stand elsewhere than where they are due.
use Rattle.std.proofs.Common.{◌≡◌, ◌≢◌, ◌+◌, ◌⊎◌, ◌∙◌, inl, inr, ℕ, List, refl, sym, ap, subst, arith}
use Rattle.std.specs.Prelude.{Option, None, Some}
use Rattle.std.proofs.lemmas.Bool.{cases_lt, cases_eq}
use Rattle.std.proofs.lemmas.Option.{none-some, same_Some}
use Rattle.elf_sections.specs.Elf.{offset_of}
use Rattle.tidy_places.specs.declared.due.Due.{Due}
use Rattle.tidy_places.specs.Firsts.{IsLeastPlace, IsLeastFound}
use Rattle.tidy_places.specs.inside.Chains.{IsOffAmong, due_at}

-- among one more are these and that one
among_more : (written : List ℕ) (sections : List Due) (n p : ℕ) → IsOffAmong written sections (n + 1) p → IsOffAmong written sections n p ⊎ ((offset_of written (due_at sections n).section ≢ (due_at sections n).at) × (p ≡ offset_of written (due_at sections n).section))
among_more written sections n p (k, inside, off, place) = elim (cases_eq k n) [
  | inl same ↦ inr (subst (λ (j : ℕ). offset_of written (due_at sections j).section ≢ (due_at sections j).at) same off, place ∙ ap (λ (j : ℕ). offset_of written (due_at sections j).section) same)
  | inr other ↦ inl (k, omega (arith, inside, other), off, place)
]

wider : (written : List ℕ) (sections : List Due) (n p : ℕ) → IsOffAmong written sections n p → IsOffAmong written sections (n + 1) p
wider written sections n p (k, inside, off, place) = (k, omega (arith, inside), off, place)

-- the lesser of what was found and of the offset of one more, which stands elsewhere
pub off_more : (written : List ℕ) (sections : List Due) (n : ℕ) (found : Option ℕ) (at least : ℕ) → at ≡ offset_of written (due_at sections n).section → at ≢ (due_at sections n).at → IsLeastFound (IsOffAmong written sections n) found → IsLeastPlace (λ p. (found ≡ Some p) ⊎ (p ≡ at)) least → IsLeastFound (IsOffAmong written sections (n + 1)) (Some least)
off_more written sections n None at least is off none (holds, first) =
    let here : IsOffAmong written sections (n + 1) at = (n, omega arith, (λ e. off (is ∙ e)), is) in
    let same : least ≡ at = elim holds [ inl never ↦ absurd (none-some least never) | inr e ↦ e ] in (
      subst (λ (p : ℕ). IsOffAmong written sections (n + 1) p) (sym same) here,
      λ p less more. elim (among_more written sections n p more) [
        | inl before ↦ none p before
        | inr (other, place) ↦ omega (arith, less, same, is, place)
      ],
    )
off_more written sections n (Some q) at least is off (among, before) (holds, first) =
    let here : IsOffAmong written sections (n + 1) at = (n, omega arith, (λ e. off (is ∙ e)), is) in
    let found : IsOffAmong written sections (n + 1) least = elim holds [
      | inl e ↦ subst (λ (p : ℕ). IsOffAmong written sections (n + 1) p) (same_Some q least e) (wider written sections n q among)
      | inr e ↦ subst (λ (p : ℕ). IsOffAmong written sections (n + 1) p) (sym e) here
    ] in (
      found,
      λ p less more. elim (among_more written sections n p more) [
        | inl earlier ↦ elim (cases_lt p q) [
          | inl low ↦ before p low earlier
          | inr high ↦ first q (omega arith) (inl refl)
        ]
        | inr (other, place) ↦ first p less (inr (place ∙ sym is))
      ],
    )

-- one more that stands where it is due
pub off_less : (written : List ℕ) (sections : List Due) (n : ℕ) (found : Option ℕ) (at : ℕ) → at ≡ offset_of written (due_at sections n).section → at ≡ (due_at sections n).at → IsLeastFound (IsOffAmong written sections n) found → IsLeastFound (IsOffAmong written sections (n + 1)) found
off_less written sections n None at is there none = λ p among. elim (among_more written sections n p among) [
  | inl before ↦ none p before
  | inr (off, place) ↦ off (sym is ∙ there)
]
off_less written sections n (Some q) at is there (among, first) = (
  wider written sections n q among,
  λ p less more. elim (among_more written sections n p more) [
    | inl before ↦ first p less before
    | inr (off, place) ↦ off (sym is ∙ there)
  ],
)
