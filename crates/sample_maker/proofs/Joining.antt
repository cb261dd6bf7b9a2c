-- Bytes that are said of things one after the other: what is left of them.
use Rattle.std.proofs.Common.{◌≡◌, ◌≤◌, ◌<◌, ◌+◌, ℕ, suc, List, [], ◌∷◌, ◌++◌, length, drop, get_or, map, ◌∙◌, sym, ap, refl, subst, arith}
use Rattle.std.specs.List.{concat}
use Rattle.std.proofs.lemmas.List.{append-nil, append_assoc, at_drop_more, at_drop_all, drop_more}
use Rattle.sample_maker.specs.Numbered.{join_from}

-- with what is said of one more, less is left
more_said : {X : Type 0} (rest : List X → List ℕ) (say : List ℕ) (xs : List X) (i : ℕ) (d : X) (mid new whole : List ℕ) → i < length xs → rest (get_or xs i d ∷ drop (i + 1) xs) ≡ say ++ rest (drop (i + 1) xs) → mid ++ rest (drop i xs) ≡ whole → new ≡ mid ++ say → new ++ rest (drop (i + 1) xs) ≡ whole
more_said rest say xs i d mid new whole inside split so_far put =
    let next : rest (drop i xs) ≡ say ++ rest (drop (i + 1) xs) = at_drop_more rest xs i d inside ∙ split in
    ap (λ (z : List ℕ). z ++ rest (drop (i + 1) xs)) put ∙ append_assoc mid say (rest (drop (i + 1) xs)) ∙ sym (ap (λ (z : List ℕ). mid ++ z) next) ∙ so_far

-- nothing is left behind the last
all_said : {X : Type 0} (rest : List X → List ℕ) (xs : List X) (i : ℕ) (new whole : List ℕ) → length xs ≤ i → rest [] ≡ [] → new ++ rest (drop i xs) ≡ whole → new ≡ whole
all_said rest xs i new whole past none so_far =
    let end : rest (drop i xs) ≡ [] = at_drop_all rest xs i past ∙ none in
    sym (append-nil new) ∙ sym (ap (λ (z : List ℕ). new ++ z) end) ∙ so_far

pub concat_goes_on : {X : Type 0} (say : X → List ℕ) (xs : List X) (i : ℕ) (d : X) (mid new whole : List ℕ) → i < length xs → mid ++ concat (map say (drop i xs)) ≡ whole → new ≡ mid ++ say (get_or xs i d) → new ++ concat (map say (drop (i + 1) xs)) ≡ whole
concat_goes_on {X} say xs i d mid new whole inside so_far put = more_said (λ (z : List X). concat (map say z)) (say (get_or xs i d)) xs i d mid new whole inside refl so_far put

pub concat_ends : {X : Type 0} (say : X → List ℕ) (xs : List X) (i : ℕ) (new whole : List ℕ) → length xs ≤ i → new ++ concat (map say (drop i xs)) ≡ whole → new ≡ whole
concat_ends {X} say xs i new whole past so_far = all_said (λ (z : List X). concat (map say z)) xs i new whole past refl so_far

-- the same of things that are said by their numbers, after a map
pub join_goes_on : {X Y : Type 0} (f : X → Y) (say : ℕ → Y → List ℕ) (xs : List X) (i : ℕ) (d : X) (mid new whole : List ℕ) → i < length xs → mid ++ join_from say i (map f (drop i xs)) ≡ whole → new ≡ mid ++ say i (f (get_or xs i d)) → new ++ join_from say (i + 1) (map f (drop (i + 1) xs)) ≡ whole
join_goes_on {X} {Y} f say xs i d mid new whole inside so_far put =
    let suc_is : suc i ≡ i + 1 = omega arith in
    let next : join_from say i (map f (drop i xs)) ≡ say i (f (get_or xs i d)) ++ join_from say (i + 1) (map f (drop (i + 1) xs)) = at_drop_more (λ (z : List X). join_from say i (map f z)) xs i d inside ∙ ap (λ (n : ℕ). say i (f (get_or xs i d)) ++ join_from say n (map f (drop (i + 1) xs))) suc_is in
    ap (λ (z : List ℕ). z ++ join_from say (i + 1) (map f (drop (i + 1) xs))) put ∙ append_assoc mid (say i (f (get_or xs i d))) (join_from say (i + 1) (map f (drop (i + 1) xs))) ∙ sym (ap (λ (z : List ℕ). mid ++ z) next) ∙ so_far

pub join_ends : {X Y : Type 0} (f : X → Y) (say : ℕ → Y → List ℕ) (xs : List X) (i : ℕ) (new whole : List ℕ) → length xs ≤ i → new ++ join_from say i (map f (drop i xs)) ≡ whole → new ≡ whole
join_ends {X} {Y} f say xs i new whole past so_far = all_said (λ (z : List X). join_from say i (map f z)) xs i new whole past refl so_far

-- the thing with a number, as a loop over what a list lends has it
pub held : {X : Type 0} (xs ys : List X) (i : ℕ) (x : X) → ys ≡ xs → i < length ys → x ≡ get_or ys i x → (i < length xs) × (x ≡ get_or xs i x)
held {X} xs ys i x same inside is = (subst (λ (z : List X). i < length z) same inside, subst (λ (z : List X). x ≡ get_or z i x) same is)

-- it is the first of what is left
pub first_left : {X : Type 0} (xs : List X) (i : ℕ) (x : X) → i < length xs → x ≡ get_or xs i x → drop i xs ≡ x ∷ drop (i + 1) xs
first_left {X} xs i x inside is = drop_more xs i x inside ∙ ap (λ (z : X). z ∷ drop (i + 1) xs) (sym is)

pub join_one_more : {X Y : Type 0} (f : X → Y) (say : ℕ → Y → List ℕ) (xs : List X) (i : ℕ) (x : X) (mid new whole : List ℕ) → i < length xs → x ≡ get_or xs i x → mid ++ join_from say i (map f (drop i xs)) ≡ whole → new ≡ mid ++ say i (f x) → new ++ join_from say (i + 1) (map f (drop (i + 1) xs)) ≡ whole
join_one_more {X} {Y} f say xs i x mid new whole inside is so_far put =
    join_goes_on f say xs i x mid new whole inside so_far (put ∙ ap (λ (z : X). mid ++ say i (f z)) is)
