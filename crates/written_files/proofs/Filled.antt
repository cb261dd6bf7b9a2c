-- What stands in a contribution that is filled: each of its lists, and each run of view pairs that goes with one of them.
use Rattle.std.proofs.Common.{◌≡◌, ◌<◌, ◌+◌, ◌++◌, ◌∙◌, ℕ, zero, suc, List, [], ◌∷◌, length, get_or, Bool, true, false, cond, sym, subst, refl, arith}
use Rattle.std.specs.Prelude.{filter}
use Rattle.spelled.specs.Spelled.{Joined}
use Rattle.list_model.specs.declared.contribution.Contribution.{Contribution}
use Rattle.list_model.specs.declared.entry.ListKind.{ListKind}
use Rattle.list_model.specs.Contributions.{bytes_from}
use Rattle.loc_lists.specs.Views.{ShortestPair}
use Rattle.value_links.specs.Reading.{ListRead, ViewRead, list_at, view_at}
use Rattle.written_files.specs.TidyLists.{IsWhole, RunsStand, Fill, views_with}

-- WHAT A TEST KEEPS

module _ {X : Type 0} where
  -- an element is kept with those that follow, or they are kept without it
  kept_behind : (b : Bool) (x : X) (xs : List X) (j : ℕ) (d : X) → j < length xs →
      (m : ℕ) × (m < length (cond b (x ∷ xs) xs)) × (get_or (cond b (x ∷ xs) xs) m d ≡ get_or xs j d)
  kept_behind true x xs j d inside = (suc j, omega (arith, inside), refl)
  kept_behind false x xs j d inside = (j, inside, refl)

  kept_first : (b : Bool) (x : X) (xs : List X) (d : X) → b ≡ true →
      (m : ℕ) × (m < length (cond b (x ∷ xs) xs)) × (get_or (cond b (x ∷ xs) xs) m d ≡ x)
  kept_first true x xs d passes = (0, omega arith, refl)
  kept_first false x xs d passes = absurd (cc)

  -- an element that passes a test is one of those that it keeps
  pub kept_one : (test : X → Bool) (xs : List X) (k : ℕ) (d : X) → k < length xs → test (get_or xs k d) ≡ true →
      (m : ℕ) × (m < length (filter test xs)) × (get_or (filter test xs) m d ≡ get_or xs k d)
  kept_one test [] k d inside passes = absurd (omega (arith, inside))
  kept_one test (x ∷ xs) zero d inside passes = kept_first (test x) x (filter test xs) d passes
  kept_one test (x ∷ xs) (suc k) d inside passes =
      let (j, known, here) = kept_one test xs k d (omega (arith, inside)) passes in
      let (m, there, is) = kept_behind (test x) x (filter test xs) j d known in
      (m, there, is ∙ here)

-- WHAT STANDS THERE

module _ (section : List ℕ) (part : Contribution) where
  -- a list stands whole
  pub record ListStands (kind : ListKind) (list : ListRead) : Type 0 where
    pub bytes : List ℕ
    pub rest : List ℕ
    pub whole : IsWhole kind list.raws bytes
    pub stands : bytes_from section part list.at ≡ bytes ++ rest

  -- a run of view pairs stands with no byte too many
  pub record PairsStand (run : ViewRead) : Type 0 where
    pub bytes : List ℕ
    pub rest : List ℕ
    pub pairs : Joined ShortestPair run.pairs bytes
    pub stands : bytes_from section part run.at ≡ bytes ++ rest

  pub run_stands : (runs : List ViewRead) (at end : ℕ) → RunsStand section part runs at end → (k : ℕ) → k < length runs → PairsStand (view_at runs k)
  run_stands [] at end e k inside = absurd (omega (arith, inside))
  run_stands (run ∷ runs) at end (here, (bytes, rest, pairs, stands, more)) zero inside = record {
    bytes = bytes;
    rest = rest;
    pairs = pairs;
    stands = subst (λ (z : ℕ). bytes_from section part z ≡ bytes ++ rest) (sym here) stands;
  }
  run_stands (run ∷ runs) at end (here, (bytes, rest, pairs, stands, more)) (suc k) inside =
      run_stands runs (at + length bytes) end more k (omega (arith, inside))

  module _ (kind : ListKind) (views : List ViewRead) where
    pub list_stands : (lists : List ListRead) (at : ℕ) → Fill kind views section part lists at →
        (k : ℕ) → k < length lists → ListStands kind (list_at lists k)
    list_stands [] at e k inside = absurd (omega (arith, inside))
    list_stands (list ∷ lists) at (runs, (bytes, rest, whole, stands, more)) zero inside =
        record { bytes = bytes; rest = rest; whole = whole; stands = stands }
    list_stands (list ∷ lists) at (runs, (bytes, rest, whole, stands, more)) (suc k) inside =
        list_stands lists (list.at + length bytes) more k (omega (arith, inside))

    -- so do the runs that go with it
    pub runs_stand_with : (lists : List ListRead) (at : ℕ) → Fill kind views section part lists at → (k : ℕ) → k < length lists →
        (from : ℕ) × RunsStand section part (views_with kind views (list_at lists k)) from (list_at lists k).at
    runs_stand_with [] at e k inside = absurd (omega (arith, inside))
    runs_stand_with (list ∷ lists) at (runs, (bytes, rest, whole, stands, more)) zero inside = (at, runs)
    runs_stand_with (list ∷ lists) at (runs, (bytes, rest, whole, stands, more)) (suc k) inside =
        runs_stand_with lists (list.at + length bytes) more k (omega (arith, inside))
