-- Things that are due one behind the other.
use Rattle.std.proofs.Common.{◌≡◌, ◌+◌, ◌∙◌, ◌⊎◌, inl, inr, ℕ, List, [], ◌∷◌, ◌++◌, sym, ap, subst, refl}
use Rattle.std.proofs.lemmas.List.{append_assoc}
use Rattle.list_model.specs.declared.entry.ListKind.{ListKind}
use Rattle.value_links.specs.Reading.{Reading}
use Rattle.tidy_lists.specs.Due.{Piece, PieceHasLength, IsDueAmong, runs_as_pieces, runs_with, pieces_of}
use Rattle.tidy_lists.specs.Due.Piece.{ARun, AList}
use Rattle.tidy_lists.specs.inside.DuePlaces.{EndsAt}
use Rattle.tidy_lists.proofs.FilterLaws.{IsOneOf}

-- a thing is one of a list
abbrev pub IsAmong : Piece → List Piece → Type 0
IsAmong piece [] = ⊥
IsAmong piece (first ∷ pieces) = (piece ≡ first) ⊎ IsAmong piece pieces

pub among_cases : (piece : Piece) (xs ys : List Piece) → IsAmong piece (xs ++ ys) → IsAmong piece xs ⊎ IsAmong piece ys
among_cases piece [] ys there = inr there
among_cases piece (x ∷ xs) ys (inl e) = inl (inl e)
among_cases piece (x ∷ xs) ys (inr there) = elim (among_cases piece xs ys there) [ inl first ↦ inl (inr first) | inr second ↦ inr second ]

-- WHAT LISTS AND RUNS MAKE

pub runs_split : (js : List ℕ) (after : List Piece) → runs_as_pieces js after ≡ runs_as_pieces js [] ++ after
runs_split [] after = refl
runs_split (j ∷ js) after = ap (λ (z : List Piece). ARun j ∷ z) (runs_split js after)

pub runs_append : (js is : List ℕ) (after : List Piece) → runs_as_pieces (js ++ is) after ≡ runs_as_pieces js (runs_as_pieces is after)
runs_append [] is after = refl
runs_append (j ∷ js) is after = ap (λ (z : List Piece). ARun j ∷ z) (runs_append js is after)

pub lists_append : (r : Reading) (kind : ListKind) (ks ls : List ℕ) → pieces_of r kind (ks ++ ls) ≡ pieces_of r kind ks ++ pieces_of r kind ls
lists_append r kind [] ls = refl
lists_append r kind (k ∷ ks) ls =
    let js : List ℕ = runs_with r kind k in
    let rest : List Piece = AList k ∷ pieces_of r kind ks in
    runs_split js (AList k ∷ pieces_of r kind (ks ++ ls))
    ∙ ap (λ (z : List Piece). runs_as_pieces js [] ++ AList k ∷ z) (lists_append r kind ks ls)
    ∙ sym (append_assoc (runs_as_pieces js []) rest (pieces_of r kind ls))
    ∙ ap (λ (z : List Piece). z ++ pieces_of r kind ls) (sym (runs_split js rest))

pub list_no_run : (k : ℕ) (js : List ℕ) → IsAmong (AList k) (runs_as_pieces js []) → ⊥
list_no_run k [] none = none
list_no_run k (j ∷ js) (inl e) = absurd (cc)
list_no_run k (j ∷ js) (inr more) = list_no_run k js more

pub run_one : (j : ℕ) (js : List ℕ) → IsAmong (ARun j) (runs_as_pieces js []) → IsOneOf j js
run_one j [] none = none
run_one j (i ∷ js) (inl e) = inl (cc)
run_one j (i ∷ js) (inr more) = inr (run_one j js more)

pub list_one : (r : Reading) (kind : ListKind) (k : ℕ) (ks : List ℕ) → IsAmong (AList k) (pieces_of r kind ks) → IsOneOf k ks
list_one r kind k [] none = none
list_one r kind k (l ∷ ks) there =
    let js : List ℕ = runs_with r kind l in
    let rest : List Piece = AList l ∷ pieces_of r kind ks in
    elim (among_cases (AList k) (runs_as_pieces js []) rest (subst (IsAmong (AList k)) (runs_split js rest) there)) [
      | inl run ↦ absurd (list_no_run k js run)
      | inr list ↦ elim list [
        | inl e ↦ inl (cc)
        | inr more ↦ inr (list_one r kind k ks more)
      ]
    ]

pub run_among : (r : Reading) (kind : ListKind) (j : ℕ) (ks : List ℕ) → IsAmong (ARun j) (pieces_of r kind ks) → (k : ℕ) × IsOneOf k ks × IsOneOf j (runs_with r kind k)
run_among r kind j [] none = absurd none
run_among r kind j (l ∷ ks) there =
    let js : List ℕ = runs_with r kind l in
    let rest : List Piece = AList l ∷ pieces_of r kind ks in
    elim (among_cases (ARun j) (runs_as_pieces js []) rest (subst (IsAmong (ARun j)) (runs_split js rest) there)) [
      | inl run ↦ (l, inl refl, run_one j js run)
      | inr list ↦ elim list [
        | inl e ↦ absurd (cc)
        | inr more ↦ (let (k, one, run) = run_among r kind j ks more in (k, inr one, run))
      ]
    ]

-- WHERE THEY END AND ARE DUE

module _ (kind : ListKind) (r s : Reading) where
  pub ends_append : (xs ys : List Piece) (a b c : ℕ) → EndsAt kind r s xs a b → EndsAt kind r s ys b c → EndsAt kind r s (xs ++ ys) a c
  ends_append [] ys a b c e more = subst (λ (z : ℕ). EndsAt kind r s ys z c) e more
  ends_append (x ∷ xs) ys a b c (len, has, rest) more = (len, has, ends_append xs ys (a + len) b c rest more)

  pub ends_push : (xs : List Piece) (piece : Piece) (a b len : ℕ) → EndsAt kind r s xs a b → PieceHasLength kind r s piece len → EndsAt kind r s (xs ++ piece ∷ []) a (b + len)
  ends_push xs piece a b len ends has = ends_append xs (piece ∷ []) a b (b + len) ends (len, has, refl)

  pub due_there : (xs ys : List Piece) (piece : Piece) (a b : ℕ) → EndsAt kind r s xs a b → IsDueAmong kind r s (xs ++ piece ∷ ys) a piece b
  due_there [] ys piece a b e = inl (refl, e)
  due_there (x ∷ xs) ys piece a b (len, has, rest) = inr (len, has, due_there xs ys piece (a + len) b rest)

  due_among : (pieces : List Piece) (piece : Piece) (a b : ℕ) → IsDueAmong kind r s pieces a piece b → IsAmong piece pieces
  due_among [] piece a b none = none
  due_among (x ∷ xs) piece a b (inl (e, here)) = inl e
  due_among (x ∷ xs) piece a b (inr (len, has, rest)) = inr (due_among xs piece (a + len) b rest)

  pub due_only : (xs ys : List Piece) (piece : Piece) (a b : ℕ) → (IsAmong piece xs → ⊥) → (IsAmong piece ys → ⊥) → IsDueAmong kind r s (xs ++ piece ∷ ys) a piece b → EndsAt kind r s xs a b
  due_only [] ys piece a b before after (inl (e, here)) = here
  due_only [] ys piece a b before after (inr (len, has, rest)) = absurd (after (due_among ys piece (a + len) b rest))
  due_only (x ∷ xs) ys piece a b before after (inl (e, here)) = absurd (before (inl e))
  due_only (x ∷ xs) ys piece a b before after (inr (len, has, rest)) = (len, has, due_only xs ys piece (a + len) b (λ there. before (inr there)) after rest)

  -- things end at one place where each has one length
  module _ (one : (piece : Piece) (a b : ℕ) → PieceHasLength kind r s piece a → PieceHasLength kind r s piece b → a ≡ b) where
    pub ends_once : (pieces : List Piece) (start a b : ℕ) → EndsAt kind r s pieces start a → EndsAt kind r s pieces start b → a ≡ b
    ends_once [] start a b e f = e ∙ sym f
    ends_once (x ∷ xs) start a b (len, has, rest) (other, has_too, more) =
        ends_once xs (start + len) a b rest (subst (λ (z : ℕ). EndsAt kind r s xs (start + z) b) (one x other len has_too has) more)
