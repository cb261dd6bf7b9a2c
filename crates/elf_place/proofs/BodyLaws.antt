-- Laws of new bodies.
use Rattle.std.proofs.Common.{◌≡◌, ◌≢◌, ◌<◌, ◌+◌, ◌^◌, ◌⊎◌, ℕ, zero, suc, List, [], ◌∷◌, true, false, eqb, Option, Some, None, length, get_or, take, set, refl, sym, ◌∙◌, ap, subst, arith, inl, inr}
use Rattle.std.specs.List.{All}
use Rattle.std.proofs.lemmas.Bool.{cases_eq, eq-eqb, ne_eqb, cases_Bool}
use Rattle.std.proofs.lemmas.List.{get_or-set_same, get_or-set_other, length-set, get_or-take, length-take-le}
use Rattle.std.proofs.lemmas.List.Elements.{All-more}
use Rattle.elf_sections.specs.Elf.{body_of}
use Rattle.elf_place.specs.declared.bodies.NewBody.{NewBody}
use Rattle.elf_place.specs.Bodies.{AreApart, body_after, has_new_body}
use Rattle.elf_place.specs.inside.Bodies.{IsFor, IsTable}

-- a section that none of the bodies is for keeps its own
pub body_after-None : (file : List ℕ) (bodies : List NewBody) (i : ℕ) → All (λ (new : NewBody). new.section ≢ i) bodies → body_after file bodies i ≡ body_of file i
body_after-None file [] i none = refl
body_after-None file (new ∷ bodies) i none =
    let here : eqb new.section i ≡ false = ne_eqb new.section i (none zero new (omega arith)) in
    rw here (body_after-None file bodies i (λ k d lt. none (suc k) d (omega arith)))

-- the section that a body is for gets it
pub body_after-Some : (file : List ℕ) (bodies : List NewBody) (i k : ℕ) (d : NewBody) → AreApart bodies → k < length bodies → (get_or bodies k d).section ≡ i → body_after file bodies i ≡ (get_or bodies k d).bytes.items
body_after-Some file [] i k d apart lt is = absurd (omega arith)
body_after-Some file (new ∷ bodies) i zero d apart lt is =
    let here : eqb new.section i ≡ true = eq-eqb new.section i is in
    rw here refl
body_after-Some file (new ∷ bodies) i (suc k) d apart lt is =
    let other : new.section ≢ (get_or bodies k d).section = apart zero (suc k) d (omega arith) lt in
    let here : eqb new.section i ≡ false = ne_eqb new.section i (λ e. other (e ∙ sym is)) in
    rw here (body_after-Some file bodies i k d (λ m n e less within. apart (suc m) (suc n) e (omega arith) (omega arith)) (omega arith) is)

-- one more body
IsFor-more : (bodies : List NewBody) (n i : ℕ) (found : Option ℕ) (d : NewBody) → n < length bodies → (get_or bodies n d).section ≢ i → IsFor (take n bodies) i found → IsFor (take (n + 1) bodies) i found
IsFor-more bodies n i (Some place) d lt other (low, here) =
    let short : length (take n bodies) ≡ n = length-take-le n bodies (omega arith) in
    let long : length (take (n + 1) bodies) ≡ n + 1 = length-take-le (n + 1) bodies (omega arith) in
    (omega arith, λ e. ap (λ (new : NewBody). new.section) (get_or-take (n + 1) bodies place e (omega arith) ∙ sym (get_or-take n bodies place e (omega arith))) ∙ here e)
IsFor-more bodies n i None d lt other none = All-more (λ (new : NewBody). new.section ≢ i) bodies n d lt none other

pub IsTable-more : (bodies : List NewBody) (table : List (Option ℕ)) (n : ℕ) (new : NewBody) → n < length bodies → ((d : NewBody) → get_or bodies n d ≡ new) → new.section < length table → IsTable (take n bodies) table → IsTable (take (n + 1) bodies) (set table new.section (Some n))
IsTable-more bodies table n new lt is inside known = λ i within.
    let size : length (set table new.section (Some n)) ≡ length table = length-set table new.section (Some n) in
    let long : length (take (n + 1) bodies) ≡ n + 1 = length-take-le (n + 1) bodies (omega arith) in
    elim (cases_eq i new.section) [
      | inl same ↦
          let found : get_or (set table new.section (Some n)) i None ≡ Some n = ap (λ j. get_or (set table new.section (Some n)) j None) same ∙ get_or-set_same table new.section (Some n) None inside in
          let here : IsFor (take (n + 1) bodies) i (Some n) = (omega arith, λ d. ap (λ (b : NewBody). b.section) (get_or-take (n + 1) bodies n d (omega arith) ∙ is d) ∙ sym same) in
          subst (IsFor (take (n + 1) bodies) i) (sym found) here
      | inr other ↦
          let found : get_or (set table new.section (Some n)) i None ≡ get_or table i None = get_or-set_other table new.section i (Some n) None other in
          let before : IsFor (take n bodies) i (get_or table i None) = known i (omega arith) in
          let apart : (get_or bodies n new).section ≢ i = λ e. other (sym e ∙ ap (λ (b : NewBody). b.section) (is new)) in
          subst (IsFor (take (n + 1) bodies) i) (sym found) (IsFor-more bodies n i (get_or table i None) new lt apart before)
    ]

-- a section that is given no new body keeps its own
pub body_after-kept : (file : List ℕ) (bodies : List NewBody) (i : ℕ) → has_new_body bodies i ≡ false → body_after file bodies i ≡ body_of file i
body_after-kept file [] i none = refl
body_after-kept file (new ∷ bodies) i none =
    elim (cases_Bool (eqb new.section i)) [
      | inl is ↦ let both = rw is at none in absurd (cc)
      | inr isnt ↦ let rest = rw isnt at none in rw isnt (body_after-kept file bodies i rest)
    ]

-- a section has few bytes, or keeps its own
pub body_after-small : (file : List ℕ) (bodies : List NewBody) (i : ℕ) → All (λ (new : NewBody). length new.bytes.items < 2 ^ 32) bodies → (length (body_after file bodies i) < 2 ^ 32) ⊎ (body_after file bodies i ≡ body_of file i)
body_after-small file [] i small = inr refl
body_after-small file (new ∷ bodies) i small =
    elim (cases_Bool (eqb new.section i)) [
      | inl is ↦ rw is (inl (small zero new (omega arith)))
      | inr isnt ↦ rw isnt (body_after-small file bodies i (λ k d lt. small (suc k) d (omega arith)))
    ]
