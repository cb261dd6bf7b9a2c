-- Values as they are held: how many they are, each of them, and one more.
use Rattle.std.proofs.Common.{◌≡◌, ◌≢◌, ◌≤◌, ◌<◌, ◌+◌, ◌-◌, ℕ, List, [], ◌∷◌, ◌++◌, ◌∙◌, length, take, drop, zero, suc, get_or, refl, ap, arith}
use Rattle.std.specs.Prelude.{slice_range}
use Rattle.std.proofs.lemmas.List.{get_or-drop, get_or_append_left, get_or_default, get_or_push, length-drop, take_more}
use Rattle.form_codec.specs.declared.value.Value.{Value}
use Rattle.form_codec.specs.declared.value.Value.TheVariants as value
use Rattle.entry_arena.specs.declared.values.Kind.{Kind}
use Rattle.entry_arena.specs.declared.values.Kind.TheVariants as kind
use Rattle.entry_arena.specs.Arena.{value_at}
use Rattle.entry_arena.specs.inside.Values.{value_held, values_held, AreHeldWell}

pub values_length : (kinds : List Kind) (numbers : List ℕ) (others : List Value) → length numbers ≡ length kinds → length (values_held kinds numbers others) ≡ length kinds
unfolding values_held
values_length [] numbers others same = refl
values_length (k ∷ kinds) [] others same = absurd (omega arith)
values_length (k ∷ kinds) (n ∷ numbers) others same = let rest : length (values_held kinds numbers others) ≡ length kinds = values_length kinds numbers others (omega arith) in omega arith

pub value_here : (kinds : List Kind) (numbers : List ℕ) (others : List Value) (i : ℕ) (d : Kind) (m : ℕ) → length numbers ≡ length kinds → i < length kinds → value_at (values_held kinds numbers others) i ≡ value_held others (get_or kinds i d) (get_or numbers i m)
unfolding values_held
value_here [] numbers others i d m same inside = absurd (omega arith)
value_here (k ∷ kinds) [] others i d m same inside = absurd (omega arith)
value_here (k ∷ kinds) (n ∷ numbers) others zero d m same inside = refl
value_here (k ∷ kinds) (n ∷ numbers) others (suc i) d m same inside = value_here kinds numbers others i d m (omega arith) (omega arith)

-- one more kind and one more number are one more value
pub values_push : (kinds : List Kind) (numbers : List ℕ) (others : List Value) (k : Kind) (n : ℕ) → length numbers ≡ length kinds → values_held (kinds ++ k ∷ []) (numbers ++ n ∷ []) others ≡ values_held kinds numbers others ++ value_held others k n ∷ []
unfolding values_held
values_push [] [] others k n same = refl
values_push [] (m ∷ numbers) others k n same = absurd (omega arith)
values_push (j ∷ kinds) [] others k n same = absurd (omega arith)
values_push (j ∷ kinds) (m ∷ numbers) others k n same = ap (λ vs. value_held others j m ∷ vs) (values_push kinds numbers others k n (omega arith))

-- a value that isn't held whole has its kind and its number alone
pub value_narrow : (some more : List Value) (k : Kind) (n : ℕ) → k ≢ kind.Other → value_held some k n ≡ value_held more k n
unfolding value_held
value_narrow some more kind.Addr n narrow = refl
value_narrow some more kind.AddrIndex n narrow = refl
value_narrow some more kind.Int n narrow = refl
value_narrow some more kind.FixedOne n narrow = refl
value_narrow some more kind.FixedTwo n narrow = refl
value_narrow some more kind.Clear n narrow = refl
value_narrow some more kind.Set n narrow = refl
value_narrow some more kind.LocalRef n narrow = refl
value_narrow some more kind.SectionRef n narrow = refl
value_narrow some more kind.StrOffset n narrow = refl
value_narrow some more kind.LineStrOffset n narrow = refl
value_narrow some more kind.StrIndex n narrow = refl
value_narrow some more kind.Offset n narrow = refl
value_narrow some more kind.LocIndex n narrow = refl
value_narrow some more kind.RangeIndex n narrow = refl
value_narrow some more kind.Other n narrow = absurd (narrow refl)

-- one more that is held whole changes no value that is named
value_grown : (others : List Value) (v : Value) (k : Kind) (n : ℕ) → (k ≡ kind.Other → n < length others) → value_held (others ++ v ∷ []) k n ≡ value_held others k n
unfolding value_held
value_grown others v kind.Other n inside = get_or_append_left others (v ∷ []) (value.Addr 0) n (inside refl)
value_grown others v kind.Addr n inside = refl
value_grown others v kind.AddrIndex n inside = refl
value_grown others v kind.Int n inside = refl
value_grown others v kind.FixedOne n inside = refl
value_grown others v kind.FixedTwo n inside = refl
value_grown others v kind.Clear n inside = refl
value_grown others v kind.Set n inside = refl
value_grown others v kind.LocalRef n inside = refl
value_grown others v kind.SectionRef n inside = refl
value_grown others v kind.StrOffset n inside = refl
value_grown others v kind.LineStrOffset n inside = refl
value_grown others v kind.StrIndex n inside = refl
value_grown others v kind.Offset n inside = refl
value_grown others v kind.LocIndex n inside = refl
value_grown others v kind.RangeIndex n inside = refl

-- what is held well but for its first value is held well
rest_well : (k : Kind) (kinds : List Kind) (n : ℕ) (numbers : List ℕ) (others : List Value) → AreHeldWell (k ∷ kinds) (n ∷ numbers) others → AreHeldWell kinds numbers others
rest_well k kinds n numbers others well = record {
  paired = let paired : length (n ∷ numbers) ≡ length (k ∷ kinds) = well.paired in omega arith;
  inside = λ i inside named. well.inside (suc i) (omega arith) named;
}

pub values_grown : (kinds : List Kind) (numbers : List ℕ) (others : List Value) (v : Value) → AreHeldWell kinds numbers others → values_held kinds numbers (others ++ v ∷ []) ≡ values_held kinds numbers others
unfolding values_held
values_grown [] numbers others v well = refl
values_grown (k ∷ kinds) [] others v well = refl
values_grown (k ∷ kinds) (n ∷ numbers) others v well =
    let first : value_held (others ++ v ∷ []) k n ≡ value_held others k n = value_grown others v k n (λ named. well.inside 0 (omega arith) named) in
    let rest : values_held kinds numbers (others ++ v ∷ []) ≡ values_held kinds numbers others = values_grown kinds numbers others v (rest_well k kinds n numbers others well) in
    cc

-- the number of a value is that of a kind
pub kind_inside : (kinds : List Kind) (numbers : List ℕ) (others values : List Value) (i : ℕ) → AreHeldWell kinds numbers others → values_held kinds numbers others ≡ values → i < length values → i < length kinds
kind_inside kinds numbers others values i well same inside = omega (arith, values_length kinds numbers others well.paired, ap (λ (vs : List Value). length vs) same)

-- the number of one that is held whole names it, whatever stands past the ends
pub other_inside : (kinds : List Kind) (numbers : List ℕ) (others : List Value) (i : ℕ) (d : Kind) (m : ℕ) → AreHeldWell kinds numbers others → i < length kinds → get_or kinds i d ≡ kind.Other → get_or numbers i m < length others
other_inside kinds numbers others i d m well inside other =
    let paired : length numbers ≡ length kinds = well.paired in
    let same : get_or numbers i m ≡ get_or numbers i 0 = get_or_default numbers i m 0 (omega arith) in
    let named : get_or numbers i 0 < length others = well.inside i inside (get_or_default kinds i kind.Clear d inside ∙ other) in
    omega arith

-- ONE MORE VALUE

-- one that isn't held whole
pub narrow_pushed : (kinds : List Kind) (numbers : List ℕ) (others : List Value) (k : Kind) (n : ℕ) → AreHeldWell kinds numbers others → k ≢ kind.Other → values_held (kinds ++ k ∷ []) (numbers ++ n ∷ []) others ≡ values_held kinds numbers others ++ value_held [] k n ∷ []
narrow_pushed kinds numbers others k n well narrow =
    values_push kinds numbers others k n well.paired ∙ ap (λ v. values_held kinds numbers others ++ v ∷ []) (value_narrow others [] k n narrow)

-- one that is held whole
pub whole_pushed : (kinds : List Kind) (numbers : List ℕ) (others : List Value) (v : Value) → AreHeldWell kinds numbers others → values_held (kinds ++ kind.Other ∷ []) (numbers ++ length others ∷ []) (others ++ v ∷ []) ≡ values_held kinds numbers others ++ v ∷ []
unfolding value_held
whole_pushed kinds numbers others v well =
    let last : value_at (others ++ v ∷ []) (length others) ≡ v = get_or_push others v (value.Addr 0) (length others) refl in
    let push : values_held (kinds ++ kind.Other ∷ []) (numbers ++ length others ∷ []) (others ++ v ∷ []) ≡ values_held kinds numbers (others ++ v ∷ []) ++ value_at (others ++ v ∷ []) (length others) ∷ [] = values_push kinds numbers (others ++ v ∷ []) kind.Other (length others) well.paired in
    let grown : values_held kinds numbers (others ++ v ∷ []) ≡ values_held kinds numbers others = values_grown kinds numbers others v well in
    cc

-- A ROW OF THEM

-- one more of the values from a number on
pub row_more : (values : List Value) (first i : ℕ) → first ≤ i → i < length values → slice_range values first (i + 1) ≡ slice_range values first i ++ value_at values i ∷ []
row_more values first i order inside =
    let count : (i + 1) - first ≡ (i - first) + 1 = omega arith in
    let place : first + (i - first) ≡ i = omega arith in
    let last : value_at (drop first values) (i - first) ≡ value_at values i = get_or-drop first values (i - first) (value.Addr 0) ∙ ap (λ n. value_at values n) place in
    ap (λ n. take n (drop first values)) count
    ∙ take_more (drop first values) (i - first) (value.Addr 0) (omega (arith, length-drop first values))
    ∙ ap (λ v. take (i - first) (drop first values) ++ v ∷ []) last
