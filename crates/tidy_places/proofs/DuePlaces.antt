-- Where movable sections are due: what is held of it says the same as its definition.
use Rattle.std.proofs.Common.{◌≡◌, ◌≤◌, ◌<◌, ◌+◌, ◌∙◌, inl, inr, ℕ, zero, suc, List, [], ◌∷◌, ◌++◌, length, refl, sym, subst, arith}
use Rattle.elf_sections.specs.Elf.{align_of, size_of}
use Rattle.elf_place.specs.Layout.{IsNextMultiple}
use Rattle.tidy_places.specs.declared.due.Due.{Due}
use Rattle.tidy_places.specs.Misplaced.{IsDueAmong, EndsAt}
use Rattle.tidy_places.specs.inside.Chains.{AreDue, IsDueBehind, due_at, numbers_of}

-- an alignment has one next multiple
pub next_once : (start align x y : ℕ) → IsNextMultiple start align x → IsNextMultiple start align y → x ≡ y
next_once start align x y first second =
    let low : x ≤ y = first.least y second.from second.multiple in
    let high : y ≤ x = second.least x first.from first.multiple in
    omega arith

-- one section more
pub due_push : (written : List ℕ) (start : ℕ) (sections : List Due) (end : ℕ) (due : Due) → AreDue written start sections end → IsDueBehind written end due → AreDue written start (sections ++ due ∷ []) (due.at + due.len)
due_push written start [] end due e behind = (subst (λ (s : ℕ). IsDueBehind written s due) e behind, refl)
due_push written start (first ∷ sections) end due (here, rest) behind = (here, due_push written (first.at + first.len) sections end due rest behind)

-- what is due by the definition is held
pub due_found : (written : List ℕ) (start : ℕ) (sections : List Due) (end i at : ℕ) → AreDue written start sections end → IsDueAmong written (numbers_of sections) start i at → (k : ℕ) × (k < length sections) × ((due_at sections k).section ≡ i) × ((due_at sections k).at ≡ at)
due_found written start [] end i at due none = absurd none
due_found written start (first ∷ sections) end i at (here, rest) (place, next, inl (same, there)) =
    (0, omega arith, sym same, next_once start (align_of written first.section) first.at place here.place next ∙ sym there)
due_found written start (first ∷ sections) end i at (here, rest) (place, next, inr later) =
    let e : place ≡ first.at = next_once start (align_of written first.section) place first.at next here.place in
    let behind : place + size_of written first.section ≡ first.at + first.len = omega (arith, e, here.size) in
    let found = due_found written (first.at + first.len) sections end i at rest (subst (λ (s : ℕ). IsDueAmong written (numbers_of sections) s i at) behind later) in
    (suc found.0, omega (arith, found.1), found.2, found.3)

-- what is held is due
pub due_stands : (written : List ℕ) (start : ℕ) (sections : List Due) (end : ℕ) → AreDue written start sections end → (k : ℕ) → k < length sections → IsDueAmong written (numbers_of sections) start (due_at sections k).section (due_at sections k).at
due_stands written start [] end due k inside = absurd (omega arith)
due_stands written start (first ∷ sections) end (here, rest) zero inside = (first.at, here.place, inl (refl, refl))
due_stands written start (first ∷ sections) end (here, rest) (suc k) inside =
    let later = due_stands written (first.at + first.len) sections end rest k (omega arith) in
    (first.at, here.place, inr (subst (λ (n : ℕ). IsDueAmong written (numbers_of sections) (first.at + n) (due_at sections k).section (due_at sections k).at) here.size later))

-- the end that is held is the one of the definition
pub ends_stands : (written : List ℕ) (start : ℕ) (sections : List Due) (end : ℕ) → AreDue written start sections end → EndsAt written (numbers_of sections) start end
ends_stands written start [] end e = e
ends_stands written start (first ∷ sections) end (here, rest) =
    (first.at, here.place, subst (λ (n : ℕ). EndsAt written (numbers_of sections) (first.at + n) end) here.size (ends_stands written (first.at + first.len) sections end rest))

-- there is one end
pub ends_once : (written order : List ℕ) (start x y : ℕ) → EndsAt written order start x → EndsAt written order start y → x ≡ y
ends_once written [] start x y first second = first ∙ sym second
ends_once written (i ∷ order) start x y (p, next, rest) (q, other, more) =
    let e : q ≡ p = next_once start (align_of written i) q p other next in
    ends_once written order (p + size_of written i) x y rest (subst (λ (n : ℕ). EndsAt written order (n + size_of written i) y) e more)
