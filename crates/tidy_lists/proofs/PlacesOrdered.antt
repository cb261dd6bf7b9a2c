-- Where nothing stands elsewhere than where it is due, lists and runs of a written file stand apart: a list behind its runs and before the next list.
use Rattle.std.proofs.Common.{◌≡◌, ◌≤◌, ◌<◌, ◌+◌, ◌∙◌, inl, inr, ℕ, List, length, sym, ap, subst, arith}
use Rattle.std.proofs.lemmas.Bool.{cases_order}
use Rattle.list_model.specs.declared.entry.ListKind.{ListKind}
use Rattle.list_model.specs.declared.entry.ListKind.TheVariants.{Locations}
use Rattle.list_model.specs.Contributions.{lists_at}
use Rattle.value_links.specs.Reading.{ViewRead, Reading, lists_of, part_at, list_at, view_at}
use Rattle.value_links.specs.Lists.{AreViewsApart}
use Rattle.value_links.specs.Same.{Same}
use Rattle.value_links.specs.Whole.{IsReading}
use Rattle.tidy_lists.specs.Followers.{Follows, RunFollows, HasLength, RunHasLength}
use Rattle.tidy_lists.specs.Due.{IsElsewhere}
use Rattle.tidy_lists.specs.inside.DuePlaces.{part_of}
use Rattle.tidy_lists.proofs.BothWays.{list_of_old, run_of_old}
use Rattle.tidy_lists.proofs.LengthsThere.{list_long, run_long}
use Rattle.tidy_lists.proofs.OneLength.{list_number}
use Rattle.tidy_lists.proofs.PlacesKept.{GoAlong, list_part, one_list, lists_follow, one_old_list, one_run, run_from, run_before_list, run_before_run, list_before_run}

module _ (file written : List ℕ) (r s : Reading) (read : IsReading file r) (again : IsReading written s) (same : Same file written)
    (none : (kind : ListKind) (at : ℕ) → IsElsewhere kind r s at → ⊥) (along : (j n : ℕ) → RunFollows r s j n → GoAlong r s j n) where
  -- two written lists of a contribution are two old ones in their order
  record AreOldLists (kind : ListKind) (m n : ℕ) : Type 0 where
    k : ℕ
    l : ℕ
    first : Follows kind r s k m
    second : Follows kind r s l n
    less : k < l
    part : part_of r kind k ≡ part_of r kind l

  module _ (kind : ListKind) where
    old_lists : (m n : ℕ) → m < n → n < length (lists_of s kind) → (list_at (lists_of s kind) m).part ≡ (list_at (lists_of s kind) n).part →
        AreOldLists kind m n
    old_lists m n less inside parts =
        let (k, first) = list_of_old file written r s read again same kind m (omega (arith, less, inside)) in
        let (l, second) = list_of_old file written r s read again same kind n inside in
        let part : part_of r kind k ≡ part_of r kind l =
        sym (list_part file written r s read again same none along kind k m first) ∙ parts ∙ list_part file written r s read again same none along kind l n second in
        let (len, some, long) = list_long written s again kind n inside in
        let rising : (list_at (lists_of s kind) m).at < (list_at (lists_of s kind) n).at = (again.lists kind).rising m n less inside in
        elim (cases_order k l) [
          | inl e ↦ absurd (let one : m ≡ n = one_list file written r s read again same none along kind l m n (subst (λ (z : ℕ). Follows kind r s z m) e first) second in omega (arith, one, less))
          | inr (inl before) ↦ record { k = k; l = l; first = first; second = second; less = before; part = part }
          | inr (inr behind) ↦ absurd (let over = lists_follow file written r s read again same none along kind l n len k m second first long behind (sym part) in omega (arith, over, rising))
        ]

    -- a list stands before a later one of its contribution
    pub list_list : (m n len : ℕ) → m < n → n < length (lists_of s kind) → (list_at (lists_of s kind) m).part ≡ (list_at (lists_of s kind) n).part →
        HasLength kind s (list_at (lists_of s kind) m) len → (list_at (lists_of s kind) m).at + len ≤ (list_at (lists_of s kind) n).at
    list_list m n len less inside parts long =
        let old = old_lists m n less inside parts in
        lists_follow file written r s read again same none along kind old.k m len old.l n old.first old.second long old.less old.part

  -- an old run that a written one is, and the old list of the written one with which it goes
  record IsOldRun (n m : ℕ) : Type 0 where
    j : ℕ
    k : ℕ
    follows : RunFollows r s j n
    from : (view_at r.views j).list ≡ (list_at r.location_lists k).at
    list : Follows Locations r s k m

  old_run : (n m : ℕ) → n < length s.views → m < length s.location_lists → (view_at s.views n).list ≡ (list_at s.location_lists m).at → IsOldRun n m
  old_run n m known inside with =
      let (j, follows) = run_of_old file written r s read again same n known in
      let a = along j n follows in
      let e : a.m ≡ m = list_number s.location_lists (again.lists Locations).rising a.m m a.follows.inside inside (sym a.to ∙ with) in
      record { j = j; k = a.k; follows = follows; from = a.from; list = subst (Follows Locations r s a.k) e a.follows }

  -- a list stands before the runs of a later one
  pub list_run : (m l n len : ℕ) → m < l → l < length s.location_lists → (list_at s.location_lists m).part ≡ (list_at s.location_lists l).part →
      HasLength Locations s (list_at s.location_lists m) len → n < length s.views → (view_at s.views n).list ≡ (list_at s.location_lists l).at →
      (list_at s.location_lists m).at + len ≤ (view_at s.views n).at
  list_run m l n len less inside parts long known with =
      let old = old_lists Locations m l less inside parts in
      let run = old_run n l known inside with in
      let e : run.k ≡ old.l = one_old_list file written r s read again same none along Locations run.k old.l l run.list old.second in
      list_before_run file written r s read again same none along old.k m len old.l run.j n old.first long old.less old.second.known old.part run.follows (run.from ∙ ap (λ (z : ℕ). (list_at r.location_lists z).at) e)

  -- a run stands before its list
  pub run_list : (n m len : ℕ) → n < length s.views → m < length s.location_lists → (view_at s.views n).list ≡ (list_at s.location_lists m).at →
      RunHasLength s (view_at s.views n) len → (view_at s.views n).at + len ≤ (list_at s.location_lists m).at
  run_list n m len known inside with long =
      let run = old_run n m known inside with in
      run_before_list file written r s read again same none along run.j n len run.k m run.follows long run.from run.list

  -- and before a later run of this list
  pub run_run : (n o m len : ℕ) → n < o → o < length s.views → m < length s.location_lists →
      (view_at s.views n).list ≡ (list_at s.location_lists m).at → (view_at s.views o).list ≡ (list_at s.location_lists m).at →
      RunHasLength s (view_at s.views n) len → (view_at s.views n).at + len ≤ (view_at s.views o).at
  run_run n o m len less known inside with also long =
      let first = old_run n m (omega (arith, less, known)) inside with in
      let second = old_run o m known inside also in
      let lists : second.k ≡ first.k = one_old_list file written r s read again same none along Locations second.k first.k m second.list first.list in
      let from : (view_at r.views second.j).list ≡ (list_at r.location_lists first.k).at =
      second.from ∙ ap (λ (z : ℕ). (list_at r.location_lists z).at) lists in
      let (size, later) = run_long written s again o known in
      let rising : (view_at s.views n).at < (view_at s.views o).at =
      rises (view_at s.views n) (view_at s.views o) (again.views.rising n o less known) (with ∙ sym also) in
      elim (cases_order first.j second.j) [
        | inl e ↦ absurd (let one : n ≡ o = one_run file written r s read again same none along second.j n o (subst (λ (z : ℕ). RunFollows r s z n) e first.follows) second.follows in omega (arith, one, less))
        | inr (inl before) ↦ run_before_run file written r s read again same none along first.j n len first.k second.j o first.follows long first.list.known first.from second.follows from before
        | inr (inr behind) ↦ absurd (let over = run_before_run file written r s read again same none along second.j o size first.k first.j n second.follows later first.list.known from first.follows first.from behind in omega (arith, over, rising))
      ]
    where
      rises : (v w : ViewRead) → AreViewsApart v w → v.list ≡ w.list → v.at < w.at
      rises v w (inl before) e = absurd (omega (arith, before, e))
      rises v w (inr (is, before)) e = before

  -- a run goes with a list of its file, and stands behind where the lists of its contribution begin
  pub record HasList (n : ℕ) : Type 0 where
    pub m : ℕ
    pub inside : m < length s.location_lists
    pub with : (view_at s.views n).list ≡ (list_at s.location_lists m).at
    pub behind : lists_at (part_at s.links.locations (list_at s.location_lists m).part) ≤ (view_at s.views n).at

  pub run_behind : (n : ℕ) → n < length s.views → HasList n
  run_behind n known =
      let (j, follows) = run_of_old file written r s read again same n known in
      let a = along j n follows in
      let part : (list_at s.location_lists a.m).part ≡ (list_at r.location_lists a.k).part =
      list_part file written r s read again same none along Locations a.k a.m a.follows in
      record {
        m = a.m;
        inside = a.follows.inside;
        with = a.to;
        behind = subst (λ (p : ℕ). lists_at (part_at s.links.locations p) ≤ (view_at s.views n).at) (sym part) (run_from file written r s read again same none along j n follows a);
      }
