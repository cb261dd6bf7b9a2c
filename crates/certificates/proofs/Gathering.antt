-- Runs, numbers and records, one after the other.
use Rattle.std.proofs.Common.{◌≡◌, ◌≢◌, ◌≤◌, ◌<◌, ◌+◌, ◌-◌, ◌⊎◌, ℕ, List, [], ◌∷◌, ◌++◌, length, take, drop, map, Option, Some, None, ◌∙◌, sym, ap, refl, subst, arith, inl, inr}
use Rattle.std.specs.Prelude.{⊤}
use Rattle.std.proofs.lemmas.List.{append_assoc, append_cancel_left, length-append, length-drop, length-take-le, take_all, map-append}
use Rattle.std.proofs.lemmas.Option.{none-some, same_Some}
use Rattle.dw_base.specs.declared.record.Run.{Run}
use Rattle.spelled.specs.Spelled.{Joined}
use Rattle.spelled.proofs.Joins.{joined_agree, joined_push}
use Rattle.dw_base.specs.Classes.{every}
use Rattle.leb_codec.specs.Records.{Number, HasNone, SpellsRun, SpellsRuns, SpellsNumbers, SpellsRecord, SpellsFile, Record, IsBroken, pairs_of, pair_count, NeighboursDiffer, magic}
use Rattle.certificates.specs.declared.proof.Proof.{Proof}
use Rattle.certificates.specs.Reading.{IsRead, record_of}
use Rattle.certificates.proofs.Ends.{unique_run, unique_number, pairs_append}
use Rattle.certificates.proofs.Stretches.{rest_after, stretch_join, stretch_none}

-- RUNS

-- the number of the last run, or the one before them
abbrev last_number : Option ℕ → List Run → Option ℕ
last_number before [] = before
last_number before (run ∷ runs) = last_number (Some run.number) runs

-- no run has the number of the one before it, where the number before the first is given
abbrev DifferAfter : Option ℕ → List Run → Type 0
DifferAfter before [] = ⊤
DifferAfter before (run ∷ runs) = (before ≢ Some run.number) × DifferAfter (Some run.number) runs

differ_neighbours : (o : Option ℕ) (runs : List Run) → DifferAfter o runs → NeighboursDiffer runs
differ_neighbours o [] d = tt
differ_neighbours o (run ∷ []) d = tt
differ_neighbours o (run ∷ next ∷ runs) d = (λ e. d.1.0 (ap Some e), differ_neighbours (Some run.number) (next ∷ runs) d.1)

differ_behind : (run : Run) (runs : List Run) → NeighboursDiffer (run ∷ runs) → DifferAfter (Some run.number) runs
differ_behind run [] d = tt
differ_behind run (next ∷ runs) d = (λ e. d.0 (same_Some run.number next.number e), differ_behind next runs d.1)

differ_first : (runs : List Run) → NeighboursDiffer runs → DifferAfter None runs
differ_first [] d = tt
differ_first (run ∷ runs) d = (none-some run.number, differ_behind run runs d)

-- runs that were read from a place on, and how many pairs are left
pub record Gathered (l : List ℕ) (at : ℕ) (runs : List Run) (left : ℕ) (before : Option ℕ) (end : ℕ) : Type 0 where
  pub after : at ≤ end
  pub inside : end ≤ length l
  pub spelled : Joined SpellsRun runs (take (end - at) (drop at l))
  pub total : pairs_of runs + left ≡ pair_count
  pub differ : DifferAfter None runs
  pub last : before ≡ last_number None runs

pub gathered_none : (l : List ℕ) (at : ℕ) → at ≤ length l → Gathered l at [] 65280 None at
gathered_none l at le = record { after = omega arith; inside = le; spelled = stretch_none l at; total = refl; differ = tt; last = refl }

last_push : (o : Option ℕ) (runs : List Run) (run : Run) → last_number o (runs ++ run ∷ []) ≡ Some run.number
last_push o [] run = refl
last_push o (r ∷ runs) run = last_push (Some r.number) runs run

differ_push : (o : Option ℕ) (runs : List Run) (run : Run) → DifferAfter o runs → last_number o runs ≢ Some run.number → DifferAfter o (runs ++ run ∷ [])
differ_push o [] run d other = (other, tt)
differ_push o (r ∷ runs) run d other = (d.0, differ_push (Some r.number) runs run d.1 other)

differ_next : (o : Option ℕ) (runs more : List Run) (run : Run) → DifferAfter o (runs ++ run ∷ more) → last_number o runs ≢ Some run.number
differ_next o [] more run d = d.0
differ_next o (r ∷ runs) more run d = differ_next (Some r.number) runs more run d.1

pub gathered_more : (l : List ℕ) (at : ℕ) (runs : List Run) (left : ℕ) (before : Option ℕ) (end : ℕ) (run : Run) (next : ℕ) → Gathered l at runs left before end → IsRead SpellsRun l end run next → run.len ≤ left → before ≢ Some run.number → Gathered l at (runs ++ run ∷ []) (left - run.len) (Some run.number) next
gathered_more l at runs left before end run next g r few other =
    let size : pairs_of (runs ++ run ∷ []) ≡ pairs_of runs + pairs_of (run ∷ []) = pairs_append runs (run ∷ []) in
    let total : pairs_of runs + left ≡ pair_count = g.total in
    record {
      after = omega (arith, g.after, r.after);
      inside = r.inside;
      spelled = subst (λ (z : List ℕ). Joined SpellsRun (runs ++ run ∷ []) z) (sym (stretch_join l at end next g.after r.after)) (joined_push SpellsRun runs run (take (end - at) (drop at l)) (take (next - end) (drop end l)) g.spelled r.spelled);
      total = omega arith;
      differ = differ_push None runs run g.differ (λ e. other (g.last ∙ e));
      last = sym (last_push None runs run);
    }

-- the next run of runs that have all pairs
record NextRun (l : List ℕ) (runs : List Run) (end : ℕ) (all : List Run) : Type 0 where
  run : Run
  more : List Run
  first : List ℕ
  rest : List ℕ
  spelled : SpellsRun run first
  stands : drop end l ≡ first ++ rest
  whole : all ≡ runs ++ run ∷ more

next_of : (l : List ℕ) (runs : List Run) (left end : ℕ) (all more : List Run) (tail y : List ℕ) → all ≡ runs ++ more → Joined SpellsRun more tail → drop end l ≡ tail ++ y → pairs_of runs + left ≡ pair_count → pairs_of all ≡ pair_count → 0 < left → NextRun l runs end all
next_of l runs left end all [] tail y e j h total whole some =
    let size : pairs_of all ≡ pairs_of runs + pairs_of [] = ap pairs_of e ∙ pairs_append runs [] in
    absurd (omega arith)
next_of l runs left end all (r ∷ more) tail y e (first, rest, s, j, f) h total whole some =
    record { run = r; more = more; first = first; rest = rest ++ y; spelled = s; stands = h ∙ ap (λ z. z ++ y) f ∙ append_assoc first rest y; whole = e }

next_run : (l : List ℕ) (at : ℕ) (runs : List Run) (left : ℕ) (before : Option ℕ) (end : ℕ) (all : List Run) (b y : List ℕ) → Gathered l at runs left before end → 0 < left → SpellsRuns all b → drop at l ≡ b ++ y → NextRun l runs end all
next_run l at runs left before end all b y g some s h =
    let whole : take (end - at) (drop at l) ++ drop end l ≡ b ++ y = sym (rest_after l at end g.after) ∙ h in
    let total : pairs_of runs + left ≡ pair_count = g.total in
    let full : pairs_of all ≡ pair_count = s.0.all in
    elim (joined_agree SpellsRun unique_run runs all (take (end - at) (drop at l)) b (drop end l) y g.spelled s.1 whole) [
      | inl o ↦ next_of l runs left end all o.more o.tail y o.values o.spelled (append_cancel_left (take (end - at) (drop at l)) (drop end l) (o.tail ++ y) (whole ∙ ap (λ z. z ++ y) o.bytes ∙ append_assoc (take (end - at) (drop at l)) o.tail y)) total full some
      | inr o ↦
          let size : pairs_of runs ≡ pairs_of all + pairs_of o.more = ap pairs_of o.values ∙ pairs_append all o.more in
          absurd (omega arith)
    ]

pub gathered_stuck : (l : List ℕ) (at : ℕ) (runs : List Run) (left : ℕ) (before : Option ℕ) (end : ℕ) → Gathered l at runs left before end → 0 < left → HasNone SpellsRun (drop end l) → HasNone SpellsRuns (drop at l)
gathered_stuck l at runs left before end g some none all b y s h =
    let n = next_run l at runs left before end all b y g some s h in
    none n.run n.first n.rest n.spelled n.stands

pub gathered_wrong : (l : List ℕ) (at : ℕ) (runs : List Run) (left : ℕ) (before : Option ℕ) (end : ℕ) (run : Run) (next : ℕ) → Gathered l at runs left before end → 0 < left → IsRead SpellsRun l end run next → (left < run.len) ⊎ (before ≡ Some run.number) → HasNone SpellsRuns (drop at l)
gathered_wrong l at runs left before end run next g some r wrong all b y s h =
    let n = next_run l at runs left before end all b y g some s h in
    let whole : take (next - end) (drop end l) ++ drop next l ≡ n.first ++ n.rest = sym (rest_after l end next r.after) ∙ n.stands in
    let same : run ≡ n.run = (unique_run run n.run (take (next - end) (drop end l)) n.first (drop next l) n.rest r.spelled n.spelled whole).1 in
    let is : all ≡ runs ++ run ∷ n.more = n.whole ∙ ap (λ z. runs ++ z ∷ n.more) (sym same) in
    elim wrong [
      | inl far ↦
          let size : pairs_of all ≡ pairs_of runs + pairs_of (run ∷ n.more) = ap pairs_of is ∙ pairs_append runs (run ∷ n.more) in
          let full : pairs_of all ≡ pair_count = s.0.all in
          let total : pairs_of runs + left ≡ pair_count = g.total in
          absurd (omega arith)
      | inr twice ↦ differ_next None runs n.more run (differ_first (runs ++ run ∷ n.more) (subst (λ (z : List Run). NeighboursDiffer z) is s.0.differ)) (sym g.last ∙ twice)
    ]

pub gathered_all : (l : List ℕ) (at : ℕ) (runs : List Run) (left : ℕ) (before : Option ℕ) (end : ℕ) → Gathered l at runs left before end → left ≡ 0 → IsRead SpellsRuns l at runs end
gathered_all l at runs left before end g none =
    let total : pairs_of runs + left ≡ pair_count = g.total in
    record { after = g.after; inside = g.inside; spelled = (record { all = omega arith; differ = differ_neighbours None runs g.differ }, g.spelled) }

-- NUMBERS

-- numbers that were read after their count
pub record Counted (l : List ℕ) (mid : ℕ) (numbers : List ℕ) (index end : ℕ) : Type 0 where
  pub after : mid ≤ end
  pub inside : end ≤ length l
  pub spelled : Joined Number numbers (take (end - mid) (drop mid l))
  pub many : length numbers ≡ index

pub counted_none : (l : List ℕ) (mid : ℕ) → mid ≤ length l → Counted l mid [] 0 mid
counted_none l mid le = record { after = omega arith; inside = le; spelled = stretch_none l mid; many = refl }

pub counted_more : (l : List ℕ) (mid : ℕ) (numbers : List ℕ) (index end value next : ℕ) → Counted l mid numbers index end → IsRead Number l end value next → Counted l mid (numbers ++ value ∷ []) (index + 1) next
counted_more l mid numbers index end value next g r =
    let size : length (numbers ++ value ∷ []) ≡ length numbers + 1 = length-append numbers (value ∷ []) in
    let many : length numbers ≡ index = g.many in
    record {
      after = omega (arith, g.after, r.after);
      inside = r.inside;
      spelled = subst (λ (z : List ℕ). Joined Number (numbers ++ value ∷ []) z) (sym (stretch_join l mid end next g.after r.after)) (joined_push Number numbers value (take (end - mid) (drop mid l)) (take (next - end) (drop end l)) g.spelled r.spelled);
      many = omega arith;
    }

-- where a number isn't there, no more of them are
next_number : (numbers all more : List ℕ) (rest tail y : List ℕ) → all ≡ numbers ++ more → Joined Number more tail → rest ≡ tail ++ y → HasNone Number rest → length all ≡ length numbers
next_number numbers all [] rest tail y e j h none = ap length e ∙ length-append numbers [] ∙ omega arith
next_number numbers all (v ∷ more) rest tail y e (first, others, s, j, f) h none = absurd (none v first (others ++ y) s (h ∙ ap (λ z. z ++ y) f ∙ append_assoc first others y))

pub no_count : (l : List ℕ) → HasNone Number l → HasNone SpellsNumbers l
no_count l none v a x s e = none (length v) s.count (s.body ++ x) s.count_is (e ∙ ap (λ z. z ++ x) s.whole ∙ append_assoc s.count s.body x)

pub counted_stuck : (l : List ℕ) (at count mid : ℕ) (numbers : List ℕ) (index end : ℕ) → IsRead Number l at count mid → Counted l mid numbers index end → index < count → HasNone Number (drop end l) → HasNone SpellsNumbers (drop at l)
counted_stuck l at count mid numbers index end r g lt none v a x s h =
    let whole : take (mid - at) (drop at l) ++ drop mid l ≡ s.count ++ (s.body ++ x) = sym (rest_after l at mid r.after) ∙ h ∙ ap (λ z. z ++ x) s.whole ∙ append_assoc s.count s.body x in
    let one = unique_number count (length v) (take (mid - at) (drop at l)) s.count (drop mid l) (s.body ++ x) r.spelled s.count_is whole in
    let size : count ≡ length v = one.1 in
    let behind : drop mid l ≡ s.body ++ x = append_cancel_left s.count (drop mid l) (s.body ++ x) (ap (λ z. z ++ drop mid l) (sym one.0) ∙ whole) in
    let inner : take (end - mid) (drop mid l) ++ drop end l ≡ s.body ++ x = sym (rest_after l mid end g.after) ∙ behind in
    let many : length numbers ≡ index = g.many in
    elim (joined_agree Number unique_number numbers v (take (end - mid) (drop mid l)) s.body (drop end l) x g.spelled s.body_is inner) [
      | inl o ↦
          let left : drop end l ≡ o.tail ++ x = append_cancel_left (take (end - mid) (drop mid l)) (drop end l) (o.tail ++ x) (inner ∙ ap (λ z. z ++ x) o.bytes ∙ append_assoc (take (end - mid) (drop mid l)) o.tail x) in
          let same : length v ≡ length numbers = next_number numbers v o.more (drop end l) o.tail x o.values o.spelled left none in
          absurd (omega arith)
      | inr o ↦
          let long : length numbers ≡ length v + length o.more = ap length o.values ∙ length-append v o.more in
          absurd (omega arith)
    ]

pub counted_all : (l : List ℕ) (at count mid : ℕ) (numbers : List ℕ) (index end : ℕ) → IsRead Number l at count mid → Counted l mid numbers index end → index ≡ count → IsRead SpellsNumbers l at numbers end
counted_all l at count mid numbers index end r g is =
    let many : count ≡ length numbers = sym (g.many ∙ is) in
    record {
      after = omega (arith, r.after, g.after);
      inside = g.inside;
      spelled = record {
        count = take (mid - at) (drop at l);
        body = take (end - mid) (drop mid l);
        count_is = subst (λ (z : ℕ). Number z (take (mid - at) (drop at l))) many r.spelled;
        body_is = g.spelled;
        whole = stretch_join l at mid end r.after g.after;
      };
    }

-- RECORDS

-- records that were read behind the first bytes
pub record Standing (l : List ℕ) (at : ℕ) (proofs : List Proof) : Type 0 where
  pub after : 8 ≤ at
  pub inside : at ≤ length l
  pub begun : l ≡ magic every ++ drop 8 l
  pub spelled : Joined SpellsRecord (map record_of proofs) (take (at - 8) (drop 8 l))

pub standing_none : (l : List ℕ) → (body : List ℕ) × (l ≡ magic every ++ body) → Standing l 8 []
standing_none l (body, e) =
    let size : length l ≡ 8 + length body = ap length e ∙ length-append (magic every) body in
    let behind : drop 8 l ≡ body = ap (drop 8) e in
    record { after = omega arith; inside = omega arith; begun = e ∙ ap (λ z. magic every ++ z) (sym behind); spelled = stretch_none l 8 }

pub standing_more : (l : List ℕ) (at : ℕ) (proofs : List Proof) (proof : Proof) (next : ℕ) → Standing l at proofs → IsRead SpellsRecord l at (record_of proof) next → Standing l next (proofs ++ proof ∷ [])
standing_more l at proofs proof next g r =
    let more : map record_of (proofs ++ proof ∷ []) ≡ map record_of proofs ++ record_of proof ∷ [] = map-append record_of proofs (proof ∷ []) in
    record {
      after = omega (arith, g.after, r.after);
      inside = r.inside;
      begun = g.begun;
      spelled = subst (λ (z : List Record). Joined SpellsRecord z (take (next - 8) (drop 8 l))) (sym more) (subst (λ (z : List ℕ). Joined SpellsRecord (map record_of proofs ++ record_of proof ∷ []) z) (sym (stretch_join l 8 at next g.after r.after)) (joined_push SpellsRecord (map record_of proofs) (record_of proof) (take (at - 8) (drop 8 l)) (take (next - at) (drop at l)) g.spelled r.spelled));
    }

pub standing_all : (l : List ℕ) (at : ℕ) (proofs : List Proof) → Standing l at proofs → length l ≤ at → SpellsFile every (map record_of proofs) l
standing_all l at proofs g end =
    let size : length (drop 8 l) ≡ length l - 8 = length-drop 8 l in
    let all : take (at - 8) (drop 8 l) ≡ drop 8 l = take_all (at - 8) (drop 8 l) (omega arith) in
    (drop 8 l, subst (λ (z : List ℕ). Joined SpellsRecord (map record_of proofs) z) all g.spelled, g.begun)

pub standing_broken : (l : List ℕ) (at : ℕ) (proofs : List Proof) → Standing l at proofs → at < length l → HasNone SpellsRecord (drop at l) → IsBroken every l at
standing_broken l at proofs g some none =
    let size : length (drop at l) ≡ length l - at = length-drop at l in
    let all : length (drop 8 l) ≡ length l - 8 = length-drop 8 l in
    let front : length (take (at - 8) (drop 8 l)) ≡ at - 8 = length-take-le (at - 8) (drop 8 l) (let after = g.after in omega arith) in
    inr (record {
      before = map record_of proofs;
      front = take (at - 8) (drop 8 l);
      rest = drop at l;
      spelled = g.spelled;
      whole = g.begun ∙ ap (λ z. magic every ++ z) (rest_after l 8 at g.after);
      left = omega arith;
      none = none;
      at = let after : 8 ≤ at = g.after in omega arith;
    })
