-- In a tidy file a contribution is filled by the lists and runs of view pairs that something names.
use Rattle.std.proofs.Common.{◌≡◌, ◌≤◌, ◌<◌, ◌+◌, ◌-◌, ◌∙◌, ◌⊎◌, inl, inr, ℕ, zero, suc, List, [], ◌∷◌, ◌++◌, length, take, drop, map, min, Bool, true, false, cond, sym, ap, subst, refl, arith}
use Rattle.std.specs.Prelude.{filter, nat_eq}
use Rattle.std.specs.List.{range_with_len}
use Rattle.std.proofs.lemmas.Bool.{cases_lt, eq-eqb, eqb-true}
use Rattle.std.proofs.lemmas.List.{length-append, length-take}
use Rattle.dw_base.specs.declared.classes.Classes.{Classes}
use Rattle.list_model.specs.declared.contribution.Contribution.{Contribution}
use Rattle.list_model.specs.declared.entry.ListKind.{ListKind}
use Rattle.list_model.specs.declared.entry.ListKind.TheVariants.{Ranges, Locations}
use Rattle.list_model.specs.Contributions.{lists_at, part_end, bytes_from}
use Rattle.value_links.specs.ListPlaces.{IsListPlace}
use Rattle.value_links.specs.Reading.{ListRead, ViewRead, Reading, of_kind, lists_of, part_at, list_at, view_at}
use Rattle.value_links.specs.Same.{Same}
use Rattle.value_links.specs.Sections.{offset_named, lists_name}
use Rattle.value_links.specs.Whole.{IsReading}
use Rattle.value_links.proofs.ListsOnce.{place_once}
use Rattle.value_links.proofs.PartPlaces.{part_stands}
use Rattle.value_links.proofs.Tiles.{tiled_of}
use Rattle.written_files.specs.TidyLists.{views_with}
use Rattle.tidy_lists.specs.Followers.{RunFollows, HasLength, RunHasLength}
use Rattle.tidy_lists.specs.Due.{IsElsewhere, IsLoose, lists_in, runs_with}
use Rattle.tidy_lists.proofs.FilterLaws.{IsOneOf, kept, kept_cut}
use Rattle.tidy_lists.proofs.LengthsThere.{list_long, run_long}
use Rattle.tidy_lists.proofs.NumberedFilters.{numbered_filter}
use Rattle.tidy_lists.proofs.OneLength.{list_length, list_number, part_once, run_length}
use Rattle.tidy_lists.proofs.PlacesKept.{GoAlong}
use Rattle.tidy_lists.proofs.PlacesOrdered.{list_list, list_run, run_list, run_run, HasList, run_behind}
use Rattle.tidy_files.specs.Tidy.{IsTidy}
use Rattle.tidy_files.specs.Tidy.Row.{AList, AListByte}
use Rattle.tidy_files.specs.Whole.{RunsFollow, ListsFill, IsFilledByLists}

-- NUMBERS THAT ARE KEPT OF THOSE IN A ROW

-- each is below those behind it
abbrev Rise : List ℕ → Type 0
Rise [] = Unit {0}
Rise (n ∷ ns) = ((m : ℕ) → IsOneOf m ns → n < m) × Rise ns

rise_if : (b : Bool) (a : ℕ) (rest : List ℕ) → ((m : ℕ) → IsOneOf m rest → a < m) → Rise rest → Rise (cond b (a ∷ rest) rest)
rise_if true a rest less rise = (less, rise)
rise_if false a rest less rise = rise

rise_kept : (test : ℕ → Bool) (a n : ℕ) → Rise (filter test (range_with_len a n))
rise_kept test a zero = tt
rise_kept test a (suc n) =
    rise_if (test a) a (filter test (range_with_len (a + 1) n)) (λ m one. (let (low, high, passes) = kept test (a + 1) n m one in omega (arith, low))) (rise_kept test (a + 1) n)

one_there : (n : ℕ) (before after : List ℕ) → IsOneOf n (before ++ n ∷ after)
one_there n [] after = inl refl
one_there n (b ∷ before) after = inr (one_there n before after)

one_kept : (test : ℕ → Bool) (n k : ℕ) → k < n → test k ≡ true → IsOneOf k (filter test (range_with_len 0 n))
one_kept test n k less passes =
    subst (IsOneOf k) (sym (kept_cut test n k less passes)) (one_there k (filter test (range_with_len 0 k)) (filter test (range_with_len (k + 1) (n - k - 1))))

-- bytes up to the end of a contribution are no more than it has
bytes_few : (section : List ℕ) (part : Contribution) (at : ℕ) (bytes rest : List ℕ) → bytes_from section part at ≡ bytes ++ rest →
    length bytes ≤ part_end part - at
bytes_few section part at bytes rest is =
    let size : length (take (part_end part - at) (drop at section)) ≡ min (part_end part - at) (length (drop at section)) =
    length-take (part_end part - at) (drop at section) in
    let whole : length (take (part_end part - at) (drop at section)) ≡ length (bytes ++ rest) = ap (λ (z : List ℕ). length z) is in
    omega (arith, size, whole, length-append bytes rest)

module _ (file written : List ℕ) (r s : Reading) (read : IsReading file r) (again : IsReading written s) (same : Same file written)
    (along : (j n : ℕ) → RunFollows r s j n → GoAlong r s j n) (classes : Classes) (tidy : IsTidy classes file written) where
  none : (kind : ListKind) (at : ℕ) → IsElsewhere kind r s at → ⊥
  none kind at holds = tidy AList (offset_named written (lists_name kind) + at) (record { r = r; s = s; read = read; again = again; kind = kind; inner = at; holds = holds; place = refl })

  none_loose : (kind : ListKind) (x : ℕ) → IsLoose kind s x → ⊥
  none_loose kind x holds = tidy AListByte (offset_named written (lists_name kind) + x) (record { r = r; s = s; read = read; again = again; kind = kind; inner = x; holds = holds; place = refl })

  -- RUNS

  -- a run goes with a list
  abbrev Goes : ℕ → ℕ → Type 0
  Goes m n = (n < length s.views) × ((view_at s.views n).list ≡ (list_at s.location_lists m).at)

  abbrev HasRun : ListKind → ℕ → ℕ → Type 0
  HasRun Ranges m n = ⊥
  HasRun Locations m n = Goes m n

  abbrev RunByte : ℕ → ℕ → Type 0
  RunByte n x = (len : ℕ) × RunHasLength s (view_at s.views n) len × ((view_at s.views n).at ≤ x) × (x < (view_at s.views n).at + len)

  module _ (m : ℕ) (inside : m < length s.location_lists) where
    abbrev place : ℕ
    place = (list_at s.location_lists m).at

    -- runs that go with a list, and have all bytes from a place up to it, stand one behind the other
    runs_fill : (ns : List ℕ) (at : ℕ) → Rise ns → ((n : ℕ) → IsOneOf n ns → Goes m n) → ((n : ℕ) → IsOneOf n ns → at ≤ (view_at s.views n).at) →
        at ≤ place → ((x : ℕ) → at ≤ x → x < place → ((n : ℕ) × IsOneOf n ns × RunByte n x → ⊥) → ⊥) →
        RunsFollow s (map (view_at s.views) ns) at place
    runs_fill [] at rise goes behind before covered = elim (cases_lt at place) [
      | inl less ↦ absurd (covered at (omega arith) less (λ has. has.1))
      | inr past ↦ omega (arith, past, before)
    ]
    runs_fill (n ∷ ns) at (first, rise) goes behind before covered =
        let (known, with) = goes n (inl refl) in
        let (len, long) = run_long written s again n known in
        let from : at ≤ (view_at s.views n).at = behind n (inl refl) in
        let to : (view_at s.views n).at + len ≤ place = run_list file written r s read again same none along n m len known inside with long in
        let later : (o : ℕ) → IsOneOf o ns → (view_at s.views n).at + len ≤ (view_at s.views o).at =
        λ o one. run_run file written r s read again same none along n o m len (first o one) (goes o (inr one)).0 inside with (goes o (inr one)).1 long in
        let here : (view_at s.views n).at ≡ at = elim (cases_lt at (view_at s.views n).at) [
          | inr past ↦ omega (arith, past, from)
          | inl less ↦ absurd (covered at (omega arith) (omega (arith, less, to)) (λ (o, one, (size, also, low, high)). elim one [
            | inl e ↦ (let at_o : (view_at s.views o).at ≡ (view_at s.views n).at = ap (λ (z : ℕ). (view_at s.views z).at) e in omega (arith, at_o, low, less))
            | inr more ↦ (let over = later o more in omega (arith, over, low, less))
          ]))
        ] in (
          here,
          (
            len,
            long,
            subst (λ (z : ℕ). RunsFollow s (map (view_at s.views) ns) (z + len) place) here
                (runs_fill ns ((view_at s.views n).at + len) rise (λ o one. goes o (inr one)) later to (λ x low high never. covered x (omega (arith, low, from)) high (λ (o, one, (size, also, begins, ends)). elim one [
                  | inr more ↦ never (o, more, (size, also, begins, ends))
                  | inl e ↦
                      let long_too : RunHasLength s (view_at s.views n) size = subst (λ (z : ℕ). RunHasLength s (view_at s.views z) size) e also in
                      let at_o : (view_at s.views o).at ≡ (view_at s.views n).at = ap (λ (z : ℕ). (view_at s.views z).at) e in
                      let one_size : size ≡ len = run_length written s again (view_at s.views n) size len long_too long in
                      omega (arith, at_o, one_size, low, ends)
                ]))),
          ),
        )

  runs_numbered : (m : ℕ) → views_with Locations s.views (list_at s.location_lists m) ≡ map (view_at s.views) (runs_with s Locations m)
  runs_numbered m = numbered_filter s.views (record { list = 0; at = 0; pairs = [] }) (λ (run : ViewRead). nat_eq run.list (list_at s.location_lists m).at)

  -- so with the runs of a list, of which ranges have none
  runs_of_list : (kind : ListKind) (m at : ℕ) → m < length (lists_of s kind) → ((n : ℕ) → HasRun kind m n → at ≤ (view_at s.views n).at) →
      at ≤ (list_at (lists_of s kind) m).at →
      ((x : ℕ) → at ≤ x → x < (list_at (lists_of s kind) m).at → ((n : ℕ) × HasRun kind m n × RunByte n x → ⊥) → ⊥) →
      RunsFollow s (views_with kind s.views (list_at (lists_of s kind) m)) at (list_at (lists_of s kind) m).at
  runs_of_list Ranges m at inside behind before covered = elim (cases_lt at (list_at s.range_lists m).at) [
    | inl less ↦ absurd (covered at (omega arith) less (λ has. has.1))
    | inr past ↦ omega (arith, past, before)
  ]
  runs_of_list Locations m at inside behind before covered =
      let test : ℕ → Bool = λ n. nat_eq (view_at s.views n).list (list_at s.location_lists m).at in
      let goes : (n : ℕ) → IsOneOf n (runs_with s Locations m) → Goes m n =
      λ n one. (let (low, high, passes) = kept test 0 (length s.views) n one in (omega (arith, high), eqb-true (view_at s.views n).list (list_at s.location_lists m).at passes)) in
      subst (λ (z : List ViewRead). RunsFollow s z at (list_at s.location_lists m).at) (sym (runs_numbered m))
      (runs_fill m inside (runs_with s Locations m) at (rise_kept test 0 (length s.views)) goes (λ n one. behind n (goes n one)) before (λ x low high never. covered x low high (λ (n, (known, with), byte).
      never (n, one_kept test (length s.views) n known (eq-eqb (view_at s.views n).list (list_at s.location_lists m).at with), byte))))

  -- a list of a kind stands before the runs of later ones, and behind its own
  before_runs : (kind : ListKind) (m l n len : ℕ) → m < l → l < length (lists_of s kind) →
      (list_at (lists_of s kind) m).part ≡ (list_at (lists_of s kind) l).part → HasLength kind s (list_at (lists_of s kind) m) len → HasRun kind l n →
      (list_at (lists_of s kind) m).at + len ≤ (view_at s.views n).at
  before_runs Ranges m l n len less inside parts long has = absurd has
  before_runs Locations m l n len less inside parts long (known, with) = list_run file written r s read again same none along m l n len less inside parts long known with

  behind_runs : (kind : ListKind) (m n len : ℕ) → m < length (lists_of s kind) → HasRun kind m n → RunHasLength s (view_at s.views n) len →
      (view_at s.views n).at + len ≤ (list_at (lists_of s kind) m).at
  behind_runs Ranges m n len inside has long = absurd has
  behind_runs Locations m n len inside (known, with) long = run_list file written r s read again same none along n m len known inside with long

  -- LISTS

  module _ (kind : ListKind) (p : ℕ) where
    abbrev part : Contribution
    part = part_at (of_kind s.links kind) p

    abbrev list : ℕ → ListRead
    list m = list_at (lists_of s kind) m

    abbrev IsMember : ℕ → Type 0
    IsMember m = (m < length (lists_of s kind)) × ((list m).part ≡ p)

    abbrev ListByte : ℕ → ℕ → Type 0
    ListByte m x = (len : ℕ) × HasLength kind s (list m) len × ((list m).at ≤ x) × (x < (list m).at + len)

    -- one of the lists has a byte, or a run that goes with it does
    abbrev Covered : List ℕ → ℕ → Type 0
    Covered ms x = (m : ℕ) × IsOneOf m ms × (ListByte m x ⊎ ((n : ℕ) × HasRun kind m n × RunByte n x))

    list_end : (m len : ℕ) → IsMember m → HasLength kind s (list m) len → (list m).at + len ≤ part_end part
    list_end m len (inside, in_part) long =
        let few : length long.bytes ≤ part_end (part_at (of_kind s.links kind) (list m).part) - (list m).at =
        bytes_few (of_kind s.links kind).section (part_at (of_kind s.links kind) (list m).part) (list m).at long.bytes long.rest long.stands in
        let within : (list m).at < part_end (part_at (of_kind s.links kind) (list m).part) = ((again.lists kind).each m inside).begins.1.before in
        subst (λ (z : ℕ). (list m).at + len ≤ part_end (part_at (of_kind s.links kind) z)) in_part (omega (arith, few, within, long.count))

    lists_fill : (ms : List ℕ) (at : ℕ) → Rise ms → ((m : ℕ) → IsOneOf m ms → IsMember m) → ((m : ℕ) → IsOneOf m ms → at ≤ (list m).at) →
        ((m n : ℕ) → IsOneOf m ms → HasRun kind m n → at ≤ (view_at s.views n).at) → at ≤ part_end part →
        ((x : ℕ) → at ≤ x → x < part_end part → (Covered ms x → ⊥) → ⊥) →
        ListsFill kind s part (map list ms) at
    lists_fill [] at rise are behind runs_behind before covered = elim (cases_lt at (part_end part)) [
      | inl less ↦ absurd (covered at (omega arith) less (λ has. has.1))
      | inr past ↦ omega (arith, past, before)
    ]
    lists_fill (m ∷ ms) at (first, rise) are behind runs_behind before covered =
        let (inside, in_part) = are m (inl refl) in
        let (len, some, long) = list_long written s again kind m inside in
        let from : at ≤ (list m).at = behind m (inl refl) in
        let to : (list m).at + len ≤ part_end part = list_end m len (inside, in_part) long in
        let parts : (o : ℕ) → IsOneOf o ms → (list m).part ≡ (list o).part = λ o one. in_part ∙ sym (are o (inr one)).1 in
        let later : (o : ℕ) → IsOneOf o ms → (list m).at + len ≤ (list o).at =
        λ o one. list_list file written r s read again same none along kind m o len (first o one) (are o (inr one)).0 (parts o one) long in
        let runs_later : (o n : ℕ) → IsOneOf o ms → HasRun kind o n → (list m).at + len ≤ (view_at s.views n).at = λ o n one has. before_runs kind m o n len (first o one) (are o (inr one)).0 (parts o one) long has in (
          runs_of_list kind m at inside (λ n has. runs_behind m n (inl refl) has) from (λ x low high never. covered x low (omega (arith, high, to)) (λ (o, one, byte). elim one [
            | inl e ↦ elim byte [
              | inl (size, also, begins, ends) ↦ (let at_o : (list o).at ≡ (list m).at = ap (λ (z : ℕ). (list z).at) e in omega (arith, at_o, begins, high))
              | inr (n, has, run) ↦ never (n, subst (λ (z : ℕ). HasRun kind z n) e has, run)
            ]
            | inr more ↦ elim byte [
              | inl (size, also, begins, ends) ↦ (let over = later o more in omega (arith, over, begins, high))
              | inr (n, has, (size, also, begins, ends)) ↦ (let over = runs_later o n more has in omega (arith, over, begins, high))
            ]
          ])),
          (
            len,
            long,
            lists_fill ms ((list m).at + len) rise (λ o one. are o (inr one)) later runs_later to (λ x low high never. covered x (omega (arith, low, from)) high (λ (o, one, byte). elim one [
              | inr more ↦ never (o, more, byte)
              | inl e ↦ elim byte [
                | inl (size, also, begins, ends) ↦
                    let long_too : HasLength kind s (list m) size = subst (λ (z : ℕ). HasLength kind s (list z) size) e also in
                    let at_o : (list o).at ≡ (list m).at = ap (λ (z : ℕ). (list z).at) e in
                    let one_size : size ≡ len = list_length kind s (list m) size len long_too long in
                    omega (arith, at_o, one_size, low, ends)
                | inr (n, has, (size, also, begins, ends)) ↦ (let over = behind_runs kind m n size inside (subst (λ (z : ℕ). HasRun kind z n) e has) also in omega (arith, over, low, ends))
              ]
            ])),
          ),
        )

  -- EACH BYTE IS ONE OF A LIST OR A RUN

  -- a byte of a list or run in a contribution is one of this contribution
  module _ (kind : ListKind) (p : ℕ) (known : p < length (of_kind s.links kind).parts) (x : ℕ) (low : lists_at (part_at (of_kind s.links kind) p) ≤ x)
      (high : x < part_end (part_at (of_kind s.links kind) p)) where
    in_part : (q : ℕ) → q < length (of_kind s.links kind).parts → lists_at (part_at (of_kind s.links kind) q) ≤ x →
        x < part_end (part_at (of_kind s.links kind) q) → q ≡ p
    in_part q q_known from to =
        let here : IsListPlace (of_kind s.links kind) q x = (q_known, record { after = from; before = to }) in
        let there : IsListPlace (of_kind s.links kind) p x = (known, record { after = low; before = high }) in
        place_once (of_kind s.links kind) (tiled_of written s.links again.links kind) x q p here there

    list_in : (m : ℕ) → m < length (lists_of s kind) → ListByte kind p m x → (list_at (lists_of s kind) m).part ≡ p
    list_in m inside (len, long, from, to) =
        let begins = ((again.lists kind).each m inside).begins in
        let after : lists_at (part_at (of_kind s.links kind) (list_at (lists_of s kind) m).part) ≤ (list_at (lists_of s kind) m).at =
        begins.1.after in
        let end : (list_at (lists_of s kind) m).at + len ≤ part_end (part_at (of_kind s.links kind) (list_at (lists_of s kind) m).part) =
        list_end kind (list_at (lists_of s kind) m).part m len (inside, refl) long in
        in_part (list_at (lists_of s kind) m).part begins.0 (omega (arith, after, from)) (omega (arith, to, end))

  covered_all : (kind : ListKind) (p : ℕ) → p < length (of_kind s.links kind).parts → (x : ℕ) → lists_at (part_at (of_kind s.links kind) p) ≤ x →
      x < part_end (part_at (of_kind s.links kind) p) → (Covered kind p (lists_in s kind p) x → ⊥) → ⊥
  covered_all kind p known x low high never = none_loose kind x (record {
    p = p;
    known = known;
    from = low;
    to = high;
    no_list = λ (m, len, inside, long, from, to). never (m, member m inside (list_in kind p known x low high m inside (len, long, from, to)), inl (len, long, from, to));
    no_run = λ is (n, len, inside, long, from, to). by_run kind is known low high never n len inside long from to;
  })
    where
      member : (m : ℕ) → m < length (lists_of s kind) → (list_at (lists_of s kind) m).part ≡ p → IsOneOf m (lists_in s kind p)
      member m inside is = one_kept (λ (i : ℕ). nat_eq (list_at (lists_of s kind) i).part p) (length (lists_of s kind)) m inside (eq-eqb (list_at (lists_of s kind) m).part p is)

      by_run : (of : ListKind) → of ≡ Locations → p < length (of_kind s.links of).parts → lists_at (part_at (of_kind s.links of) p) ≤ x →
          x < part_end (part_at (of_kind s.links of) p) → (Covered of p (lists_in s of p) x → ⊥) → (n len : ℕ) → n < length s.views →
          RunHasLength s (view_at s.views n) len → (view_at s.views n).at ≤ x → x < (view_at s.views n).at + len → ⊥
      by_run Ranges is known low high never n len inside long from to = absurd (cc)
      by_run Locations is known low high never n len inside long from to =
          let has : HasList file written r s read again same none along n = run_behind file written r s read again same none along n inside in
          let q : ℕ = (list_at s.location_lists has.m).part in
          let q_is : long.p ≡ q =
          part_once written s again (view_at s.views n) long.p q long.part (record { k = has.m; inside = has.inside; list = sym has.with; part = refl }) in
          let few : length long.bytes ≤ part_end (part_at s.links.locations long.p) - (view_at s.views n).at =
          bytes_few s.links.locations.section (part_at s.links.locations long.p) (view_at s.views n).at long.bytes long.rest long.stands in
          let end : part_end (part_at s.links.locations long.p) ≡ part_end (part_at s.links.locations q) =
          ap (λ (z : ℕ). part_end (part_at s.links.locations z)) q_is in
          let after = has.behind in
          let same_part : q ≡ p =
          in_part Locations p known x low high q ((again.lists Locations).each has.m has.inside).begins.0 (omega (arith, after, from)) (omega (arith, few, end, long.count, to, from)) in
          never (has.m, one_kept (λ (i : ℕ). nat_eq (list_at s.location_lists i).part p) (length s.location_lists) has.m has.inside (eq-eqb q p same_part), inr (n, (inside, has.with), (len, long, from, to)))

  -- Where nothing stands elsewhere than where it is due, and no byte is loose, contributions are filled.
  pub filled_by_lists : (kind : ListKind) (p : ℕ) → p < length (of_kind s.links kind).parts → IsFilledByLists kind s p
  filled_by_lists kind p known =
      let start : ℕ = lists_at (part_at (of_kind s.links kind) p) in
      let test : ℕ → Bool = λ i. nat_eq (list_at (lists_of s kind) i).part p in
      let member : (m : ℕ) → IsOneOf m (lists_in s kind p) → IsMember kind p m =
      λ m one. (let (low, high, passes) = kept test 0 (length (lists_of s kind)) m one in (omega (arith, high), eqb-true (list_at (lists_of s kind) m).part p passes)) in
      subst (λ (z : List ListRead). ListsFill kind s (part_at (of_kind s.links kind) p) z start)
      (sym (numbered_filter (lists_of s kind) (record { at = 0; part = 0; raws = [] }) (λ (list : ListRead). nat_eq list.part p)))
      (lists_fill kind p (lists_in s kind p) start (rise_kept test 0 (length (lists_of s kind))) member
      (λ m one. (let (inside, is) = member m one in subst (λ (z : ℕ). lists_at (part_at (of_kind s.links kind) z) ≤ (list_at (lists_of s kind) m).at) is ((again.lists kind).each m inside).begins.1.after))
      (λ m n one has. (let (inside, is) = member m one in run_start kind m n inside is has))
      (fits kind p known) (covered_all kind p known))
    where
      run_start : (of : ListKind) (m n : ℕ) → m < length (lists_of s of) → (list_at (lists_of s of) m).part ≡ p → HasRun of m n →
          lists_at (part_at (of_kind s.links of) p) ≤ (view_at s.views n).at
      run_start Ranges m n inside is has = absurd has
      run_start Locations m n inside is (known_run, with) =
          let has : HasList file written r s read again same none along n = run_behind file written r s read again same none along n known_run in
          let e : has.m ≡ m = list_number s.location_lists (again.lists Locations).rising has.m m has.inside inside (sym has.with ∙ with) in
          subst (λ (z : ℕ). lists_at (part_at s.links.locations z) ≤ (view_at s.views n).at) (ap (λ (z : ℕ). (list_at s.location_lists z).part) e ∙ is) has.behind

      fits : (of : ListKind) (q : ℕ) → q < length (of_kind s.links of).parts →
          lists_at (part_at (of_kind s.links of) q) ≤ part_end (part_at (of_kind s.links of) q)
      fits of q q_known = (part_stands (of_kind s.links of).section (of_kind s.links of).parts (tiled_of written s.links again.links of) q q_known).fits
