-- View pairs counted by the entries of the lists with which they go.
use Rattle.std.proofs.Common.{◌≡◌, ◌<◌, ◌+◌, ◌∙◌, ℕ, zero, suc, List, [], ◌∷◌, length, get_or, map, take, Bool, cond, true, false, true≢false, sym, ap, refl, arith}
use Rattle.std.specs.Prelude.{Some, None, if◌then◌else◌, nat_eq}
use Rattle.std.specs.List.{All, sum_by}
use Rattle.std.proofs.lemmas.List.Elements.{All-head, All-tail}
use Rattle.std.proofs.lemmas.Bool.{eq-eqb, ne_eqb}
use Rattle.std.proofs.lemmas.Option.{same_Some}
use Rattle.std.proofs.lemmas.List.Sums.{sum_by-cons}
use Rattle.std.proofs.lemmas.List.Filters.{length-filter_more}
use Rattle.list_model.specs.declared.entry.EntryKind.{EntryKind}
use Rattle.list_model.specs.declared.entry.EntryKind.TheVariants.{BaseAddressx, StartxEndx, StartxLength, OffsetPair, DefaultLocation, BaseAddress, StartEnd, StartLength}
use Rattle.list_model.specs.declared.entry.ListKind.TheVariants.{Locations}
use Rattle.list_model.specs.declared.entry.RawEntry.{RawEntry}
use Rattle.list_model.specs.declared.item.Meaning.TheVariants.{Dead}
use Rattle.list_model.specs.Entries.{Entry, AreSaid, code_of}
use Rattle.list_arena.specs.Held.{HeldList, AreListsApart}
use Rattle.value_links.specs.Lists.{is_bounded, pair_count}
use Rattle.value_links.specs.inside.Views.{IsListFrom, is_bounded_code, raw_pairs, pairs_from}

-- ENTRIES

-- a code tells whether pairs go with an entry
bounded_same : (kind : EntryKind) (code : ℕ) → code_of Locations kind ≡ Some code → is_bounded_code code ≡ is_bounded kind
bounded_same BaseAddressx code e = ap is_bounded_code (sym (same_Some 1 code e))
bounded_same StartxEndx code e = ap is_bounded_code (sym (same_Some 2 code e))
bounded_same StartxLength code e = ap is_bounded_code (sym (same_Some 3 code e))
bounded_same OffsetPair code e = ap is_bounded_code (sym (same_Some 4 code e))
bounded_same DefaultLocation code e = ap is_bounded_code (sym (same_Some 5 code e))
bounded_same BaseAddress code e = ap is_bounded_code (sym (same_Some 6 code e))
bounded_same StartEnd code e = ap is_bounded_code (sym (same_Some 7 code e))
bounded_same StartLength code e = ap is_bounded_code (sym (same_Some 8 code e))

same_kept : (b c : Bool) (x : RawEntry) (y : Entry) (xs : List RawEntry) (ys : List Entry) → b ≡ c → length xs ≡ length ys → length (if b then x ∷ xs else xs) ≡ length (if c then y ∷ ys else ys)
same_kept true true x y xs ys e same = omega (arith, same)
same_kept false false x y xs ys e same = same
same_kept true false x y xs ys e same = absurd (true≢false e)
same_kept false true x y xs ys e same = absurd (true≢false (sym e))

-- what is read of entries has as many as they
pub pairs_said : (raws : List RawEntry) (entries : List Entry) → AreSaid Locations raws entries → raw_pairs raws ≡ pair_count entries
pairs_said [] [] said = refl
pairs_said (raw ∷ raws) (entry ∷ entries) (first, rest) = same_kept (is_bounded_code raw.code) (is_bounded entry.kind) raw entry _ _ (bounded_same entry.kind raw.code first.of_code) (pairs_said raws entries rest)
pairs_said [] (entry ∷ entries) said = absurd said
pairs_said (raw ∷ raws) [] said = absurd said

-- one entry more
pub one_more_pair : (raws : List RawEntry) (i : ℕ) (raw : RawEntry) (bounded : Bool) → i < length raws → raw ≡ get_or raws i raw → bounded ≡ is_bounded_code raw.code → raw_pairs (take (i + 1) raws) ≡ raw_pairs (take i raws) + cond bounded 1 0
one_more_pair raws i raw bounded inside is same =
    length-filter_more (λ (z : RawEntry). is_bounded_code z.code) raws i raw inside
    ∙ ap (λ (z : RawEntry). raw_pairs (take i raws) + cond (is_bounded_code z.code) 1 0) (sym is)
    ∙ ap (λ (z : Bool). raw_pairs (take i raws) + cond z 1 0) (sym same)

-- LISTS

-- what stands for a list past the last one
abbrev pub no_list : HeldList
no_list = record { at = 0; part = 0; owner = None; raw = []; meaning = Dead }

-- the first list that begins at a place is the one that does
pub pairs_of_list : (lists : List HeldList) → AreListsApart lists → (place : ℕ) (list : HeldList) → IsListFrom lists place list → pairs_from lists place ≡ raw_pairs list.raw
pairs_of_list [] apart place list ((k, inside, is), here) = absurd (omega arith)
pairs_of_list (x ∷ xs) apart place list ((zero, inside, is), here) =
    let same : x.at ≡ place = ap (λ (z : HeldList). z.at) is ∙ here in
    ap (λ (z : Bool). if z then raw_pairs x.raw else pairs_from xs place) (eq-eqb x.at place same) ∙ ap (λ (z : HeldList). raw_pairs z.raw) is
pairs_of_list (x ∷ xs) apart place list ((suc k, inside, is), here) =
    let first : x.at < (get_or xs k list).at = apart 0 (suc k) list (omega arith) inside in
    let there : (get_or xs k list).at ≡ place = ap (λ (z : HeldList). z.at) is ∙ here in
    let other : nat_eq x.at place ≡ false = ne_eqb x.at place (λ (e : x.at ≡ place). absurd (omega arith)) in
    ap (λ (z : Bool). if z then raw_pairs x.raw else pairs_from xs place) other
    ∙ pairs_of_list xs (λ i j d less below. apart (suc i) (suc j) d (omega arith) (omega arith)) place list ((k, omega arith, is), here)

-- SUMS

-- a sum over what is made of things is one over the things
pub sum_map : {X Y : Type 0} (f : Y → ℕ) (g : X → Y) (xs : List X) → sum_by f (map g xs) ≡ sum_by (λ (x : X). f (g x)) xs
sum_map f g [] = refl
sum_map {X} f g (x ∷ xs) = sum_by-cons f (g x) (map g xs) ∙ ap (λ (n : ℕ). f (g x) + n) (sum_map f g xs) ∙ sym (sum_by-cons (λ (z : X). f (g z)) x xs)

-- and so is one of the same numbers
pub sum_same : {X : Type 0} (f g : X → ℕ) (xs : List X) → All (λ (x : X). f x ≡ g x) xs → sum_by f xs ≡ sum_by g xs
sum_same f g [] same = refl
sum_same {X} f g (x ∷ xs) same =
    let one : f x ≡ g x = All-head (λ (z : X). f z ≡ g z) x xs same in
    let rest : sum_by f xs ≡ sum_by g xs = sum_same f g xs (All-tail (λ (z : X). f z ≡ g z) x xs same) in
    let left : sum_by f (x ∷ xs) ≡ f x + sum_by f xs = sum_by-cons f x xs in
    let right : sum_by g (x ∷ xs) ≡ g x + sum_by g xs = sum_by-cons g x xs in
    omega arith
