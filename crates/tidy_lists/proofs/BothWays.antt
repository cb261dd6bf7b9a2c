-- Each list and each run of view pairs of a written file is one of the old file, and each of the old file is one of the written.
use Rattle.std.proofs.Common.{◌<◌, inl, inr, ℕ, List, length}
use Rattle.list_model.specs.declared.entry.ListKind.{ListKind}
use Rattle.value_links.specs.Linked.Linked.{ListAt, ViewsAt}
use Rattle.value_links.specs.Reading.{Reading, lists_of, list_at, view_at}
use Rattle.value_links.specs.Same.{Same}
use Rattle.value_links.specs.Whole.{IsReading}
use Rattle.tidy_lists.specs.Followers.{Follows, RunFollows}
use Rattle.tidy_lists.proofs.Followed.{list_follows, run_follows, meant_by_both}
use Rattle.tidy_lists.proofs.OffsetLinks.{unit_known}

module _ (file written : List ℕ) (r s : Reading) (read : IsReading file r) (again : IsReading written s) (same : Same file written) where
  pub list_after : (kind : ListKind) (k : ℕ) → k < length (lists_of r kind) → (m : ℕ) × Follows kind r s k m
  list_after kind k known = let both = meant_by_both file written r s same read again in list_follows file written r s read again both.debug both.first both.second kind k known

  pub run_after : (j : ℕ) → j < length r.views → (n : ℕ) × RunFollows r s j n
  run_after j known = let both = meant_by_both file written r s same read again in run_follows file written r s read again both.debug both.first both.second j known

  pub list_of_old : (kind : ListKind) (m : ℕ) → m < length (lists_of s kind) → (k : ℕ) × Follows kind r s k m
  list_of_old kind m known =
      let both = meant_by_both file written r s same read again in
      let (k, back) = list_follows written file s r again read both.debug both.second both.first kind m known in (
        k,
        record {
          known = back.inside;
          inside = back.known;
          by = elim back.by [
            | inl (u, number, unit, new, old) ↦ inl (u, number, unit_known file r.links read.links u number (ListAt kind (list_at (lists_of r kind) k).at) old, old, new)
            | inr (p, i, new, old) ↦ inr (p, i, old, new)
          ];
        },
      )

  pub run_of_old : (n : ℕ) → n < length s.views → (j : ℕ) × RunFollows r s j n
  run_of_old n known =
      let both = meant_by_both file written r s same read again in
      let (j, back) = run_follows written file s r again read both.debug both.second both.first n known in
      (j, record { known = back.inside; inside = back.known; u = back.u; number = back.number; unit = unit_known file r.links read.links back.u back.number (ViewsAt (view_at r.views j).list (view_at r.views j).at) back.new; old = back.new; new = back.old })
