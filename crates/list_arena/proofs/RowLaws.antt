-- Parts of lists, one behind the other, and lists that grow at their end.
use Rattle.std.proofs.Common.{◌≡◌, ◌≢◌, ◌≤◌, ◌<◌, ◌+◌, ◌-◌, ℕ, List, [], ◌∷◌, ◌++◌, ◌∙◌, length, map, take, drop, zero, suc, get_or, refl, ap, sym, arith}
use Rattle.std.specs.Prelude.{slice_range, min}
use Rattle.std.specs.List.{All}
use Rattle.std.proofs.lemmas.List.{append_assoc, get_or-drop, get_or-take, get_or-map, length-append, length-drop, length-take, length-map, map_push, take-append-le, take_all, take_more, drop-append-le, drop_at, take-map, drop-map}
use Rattle.list_arena.specs.inside.Rows.{begin_of}

begin_first : (first : ℕ) (ends : List ℕ) → begin_of first ends 0 ≡ first
unfolding begin_of
begin_first first [] = refl
begin_first first (end ∷ ends) = refl

begin_next : (first : ℕ) (ends : List ℕ) (k d : ℕ) → k < length ends → begin_of first ends (suc k) ≡ get_or ends k d
unfolding begin_of
begin_next first [] k d inside = absurd (omega arith)
begin_next first (end ∷ ends) zero d inside = begin_first end ends
begin_next first (end ∷ ends) (suc k) d inside = begin_next end ends k d (omega arith)

-- the first begins at 0
pub begins_first : (ends : List ℕ) (n : ℕ) → n ≡ 0 → 0 ≡ begin_of 0 ends n
begins_first ends n none = sym (ap (λ m. begin_of 0 ends m) none ∙ begin_first 0 ends)

-- another where the one before ends
pub begins_behind : {X : Type 0} (end : X → ℕ) (rows : List X) (n : ℕ) (d : X) → n ≢ 0 → n < length rows → end (get_or rows (n - 1) d) ≡ begin_of 0 (map end rows) n
begins_behind end rows n d some inside =
    let count : suc (n - 1) ≡ n = omega arith in
    let before : n - 1 < length (map end rows) = omega (arith, length-map rows end) in
    sym (ap (λ m. begin_of 0 (map end rows) m) (sym count) ∙ begin_next 0 (map end rows) (n - 1) (end d) before ∙ get_or-map end rows (n - 1) d (end d) (omega arith))

pub range_left : {X : Type 0} (xs ys : List X) (a b : ℕ) → a ≤ b → b ≤ length xs → slice_range (xs ++ ys) a b ≡ slice_range xs a b
range_left xs ys a b order inside =
    ap (λ zs. take (b - a) zs) (drop-append-le a xs ys (omega arith)) ∙ take-append-le (b - a) (drop a xs) ys (omega (arith, length-drop a xs))

pub range_end : {X : Type 0} (xs ys : List X) (a b : ℕ) → a ≡ length xs → b ≡ length (xs ++ ys) → slice_range (xs ++ ys) a b ≡ ys
range_end xs ys a b from to =
    ap (λ zs. take (b - a) zs) (drop_at xs ys a (sym from)) ∙ take_all (b - a) ys (omega (arith, length-append xs ys))

pub range_map : {X Y : Type 0} (f : X → Y) (xs : List X) (a b : ℕ) → slice_range (map f xs) a b ≡ map f (slice_range xs a b)
range_map f xs a b = ap (λ zs. take (b - a) zs) (drop-map f a xs) ∙ take-map f (b - a) (drop a xs)

pub range_length : {X : Type 0} (xs : List X) (a b : ℕ) → a ≤ b → b ≤ length xs → length (slice_range xs a b) ≡ b - a
range_length xs a b order inside = omega (arith, length-take (b - a) (drop a xs), length-drop a xs)

pub range_at : {X : Type 0} (xs : List X) (a b i : ℕ) (d : X) → i < b - a → get_or (slice_range xs a b) i d ≡ get_or xs (a + i) d
range_at xs a b i d inside = get_or-take (b - a) (drop a xs) i d inside ∙ get_or-drop a xs i d

pub all_same : {X Y : Type 0} (P : X → Type 0) (f g : X → Y) → ((x : X) → P x → f x ≡ g x) → (xs : List X) → All P xs → map f xs ≡ map g xs
all_same P f g same [] all = refl
all_same P f g same (x ∷ xs) all =
    let first : f x ≡ g x = same x (all 0 x (omega arith)) in
    let rest : map f xs ≡ map g xs = all_same P f g same xs (λ k d inside. all (suc k) d (omega arith)) in
    cc

pub all_weaker : {X : Type 0} (P Q : X → Type 0) → ((x : X) → P x → Q x) → (xs : List X) → All P xs → All Q xs
all_weaker P Q weaker xs all = λ k d inside. weaker (get_or xs k d) (all k d inside)

pub all_push : {X : Type 0} (P : X → Type 0) (xs : List X) (y : X) → All P xs → P y → All P (xs ++ y ∷ [])
all_push P [] y all here zero d inside = here
all_push P [] y all here (suc k) d inside = absurd (omega arith)
all_push P (x ∷ xs) y all here zero d inside = all 0 x (omega arith)
all_push P (x ∷ xs) y all here (suc k) d inside = all_push P xs y (λ k d inside. all (suc k) d (omega arith)) here k d (omega arith)

pub kept_push : {X : Type 0} (old new : List X) (y : X) → take (length old) new ≡ old → take (length old) (new ++ y ∷ []) ≡ old
kept_push {X = X} old new y kept =
    let count : min (length old) (length new) ≡ length old = sym (length-take (length old) new) ∙ ap (λ (zs : List X). length zs) kept in
    take-append-le (length old) new (y ∷ []) (omega arith) ∙ kept

-- one more row, of which more is known than when the others came
pub row_pushed : {X Y : Type 0} (new old : X → Y) (rows : List X) (row : X) (before all : List Y) (i : ℕ) (d : Y) → map new rows ≡ map old rows → map old rows ≡ before ++ take i all → new row ≡ get_or all i d → i < length all → map new (rows ++ row ∷ []) ≡ before ++ take (i + 1) all
row_pushed new old rows row before all i d same held here inside =
    map_push new rows row
    ∙ ap (λ zs. zs ++ new row ∷ []) (same ∙ held)
    ∙ append_assoc before (take i all) (new row ∷ [])
    ∙ ap (λ y. before ++ (take i all ++ y ∷ [])) here
    ∙ ap (λ zs. before ++ zs) (sym (take_more all i d inside))
