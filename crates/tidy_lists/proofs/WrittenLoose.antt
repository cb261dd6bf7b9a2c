-- In a file that is written anew each byte of a contribution, behind its offsets, is one of a list or of view pairs.
use Rattle.std.proofs.Common.{◌≡◌, ◌≤◌, ◌<◌, ◌+◌, ◌⊎◌, inl, inr, ℕ, List, [], ◌∷◌, length, subst, refl, arith}
use Rattle.std.proofs.lemmas.Bool.{cases_lt}
use Rattle.list_model.specs.declared.entry.ListKind.{ListKind}
use Rattle.list_model.specs.declared.entry.ListKind.TheVariants.{Ranges, Locations}
use Rattle.list_model.specs.Contributions.{lists_at, part_end}
use Rattle.value_links.specs.Reading.{ViewRead, Reading, of_kind, lists_of, part_at, list_at}
use Rattle.written_files.specs.TidyLists.{RunsStand, IsFilled, views_with}
use Rattle.tidy_lists.specs.Due.{lists_in, runs_with, HasListByte, HasRunByte, IsLoose}
use Rattle.tidy_lists.proofs.WrittenBytes.{list_has, run_has}
use Rattle.tidy_lists.proofs.WrittenPieces.{RunsAt, ListsAt, AreRunsIn, AreListsIn, filled_numbered, lists_there, runs_numbered, runs_there}

module _ (s : Reading) (p x : ℕ) where
  -- a byte of runs that stand one behind the other is one of a run
  runs_cover : (ns : List ℕ) (start end : ℕ) → RunsAt s p ns start end → AreRunsIn s p ns → start ≤ x → x < end → HasRunByte s x
  runs_cover [] start end over known from to = absurd (omega (arith, over, from, to))
  runs_cover (n ∷ ns) start end (here, (bytes, rest, pairs, stands, more)) known from to =
      let (inside, part) = known n (inl refl) in
      elim (cases_lt x (start + length bytes)) [
        | inl before ↦
            let has = run_has s p n start bytes rest part here pairs stands in
            (n, length bytes, inside, has, omega (arith, here, from), omega (arith, here, before))
        | inr behind ↦ runs_cover ns (start + length bytes) end more (λ m one. known m (inr one)) behind to
      ]

  -- so is one of the runs that go with a list, of which ranges have none
  with_cover : (kind : ListKind) (k start end : ℕ) → k < length (lists_of s kind) → (list_at (lists_of s kind) k).part ≡ p →
      RunsStand (of_kind s.links kind).section (part_at (of_kind s.links kind) p) (views_with kind s.views (list_at (lists_of s kind) k)) start end →
      start ≤ x → x < end → (kind ≡ Locations) × HasRunByte s x
  with_cover Ranges k start end inside part over from to = absurd (omega (arith, over, from, to))
  with_cover Locations k start end inside part runs from to =
      let there : RunsAt s p (runs_with s Locations k) start end =
      subst (λ (z : List ViewRead). RunsStand s.links.locations.section (part_at s.links.locations p) z start end) (runs_numbered s k) runs in
      (refl, runs_cover (runs_with s Locations k) start end there (runs_there s k p inside part) from to)

  module _ (kind : ListKind) where
    -- a byte of lists that fill a contribution is one of them, or of a run
    lists_cover : (ks : List ℕ) (start : ℕ) → ListsAt kind s p ks start → AreListsIn kind s p ks → start ≤ x →
        x < part_end (part_at (of_kind s.links kind) p) → HasListByte kind s x ⊎ ((kind ≡ Locations) × HasRunByte s x)
    lists_cover [] start over known from to = absurd (omega (arith, over, from, to))
    lists_cover (k ∷ ks) start (runs, (bytes, rest, whole, stands, more)) known from to =
        let here : ℕ = (list_at (lists_of s kind) k).at in
        let (inside, part) = known k (inl refl) in
        elim (cases_lt x here) [
          | inl before ↦ inr (with_cover kind k start here inside part runs from before)
          | inr past ↦ elim (cases_lt x (here + length bytes)) [
            | inl within ↦ inl (k, length bytes, inside, list_has s p kind k bytes rest part whole stands, past, within)
            | inr behind ↦ lists_cover ks (here + length bytes) more (λ i one. known i (inr one)) behind to
          ]
        ]

-- none is loose where contributions are filled
pub none_loose : (kind : ListKind) (s : Reading) (x : ℕ) → ((p : ℕ) → p < length (of_kind s.links kind).parts → IsFilled kind s p) →
    IsLoose kind s x → ⊥
none_loose kind s x filled loose =
    let start : ℕ = lists_at (part_at (of_kind s.links kind) loose.p) in
    let stand : ListsAt kind s loose.p (lists_in s kind loose.p) start = filled_numbered kind s loose.p (filled loose.p loose.known) in
    elim (lists_cover s loose.p x kind (lists_in s kind loose.p) start stand (lists_there kind s loose.p) loose.from loose.to) [
      | inl list ↦ loose.no_list list
      | inr (same, run) ↦ loose.no_run same run
    ]
