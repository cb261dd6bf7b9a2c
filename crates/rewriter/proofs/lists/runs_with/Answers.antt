use Rattle.std.proofs.Common.{◌≡◌, ◌≢◌, ◌≤◌, ◌<◌, ◌+◌, ◌∙◌, ℕ, List, [], ◌∷◌, ◌++◌, length, map, take, drop, get_or, sym, ap, subst, arith}
use Rattle.std.specs.Prelude.{◌-◌, slice_range}
use Rattle.std.specs.List.{All}
use Rattle.std.proofs.lemmas.List.{length-take, length-drop, length_push, map-append, take_more, drop_more, get_or-take, get_or-drop}
use Rattle.std.proofs.lemmas.List.Elements.{All-push}
use Rattle.list_write.specs.declared.named.ViewRun.{ViewRun}
use Rattle.list_write.specs.Written.{Run, run_of}
use Rattle.list_arena.specs.Held.{HeldViews}
use Rattle.rewriter.specs.inside.Runs.{run_held, AreRunsWith, AreRunsUpTo}
use Rattle.rewriter.proofs.lists.runs_with.Goals as goal

same_run_of : (run : ViewRun) (held : HeldViews) → (run.at ≡ held.at) × (run.pairs.items ≡ held.pairs) → run_of run ≡ run_held held
same_run_of run held (at, pairs) = cc

module _ (views : List HeldViews) (from to list : ℕ) (within : to ≤ length views) (number : ℕ) (runs : List ViewRun) (at : from + length runs ≡ number) (less : number < to) (so_far : AreRunsUpTo (slice_range views from to) list (length runs) runs) where
  abbrev those : List HeldViews
  those = slice_range views from to

  abbrev count : ℕ
  count = length runs

  known : count < length those
  known = omega (arith, length-take (to - from) (drop from views), length-drop from views, within, at, less)

  there : (d : HeldViews) → get_or those count d ≡ get_or views number d
  there d = get_or-take (to - from) (drop from views) count d (omega (arith, at, less)) ∙ get_or-drop from views count d ∙ ap (λ (z : ℕ). get_or views z d) at

  -- the next run is taken
  runs_more : (run : ViewRun) (d : HeldViews) → (get_or views number d).list ≡ list → (run.at ≡ (get_or views number d).at) × (run.pairs.items ≡ (get_or views number d).pairs) → AreRunsUpTo those list (count + 1) (runs ++ run ∷ [])
  runs_more run d goes is =
      let next : take (count + 1) those ≡ take count those ++ get_or those count d ∷ [] = take_more those count d known in
      record {
        counted = length_push runs run;
        are =
            map-append run_of runs (run ∷ [])
            ∙ ap (λ (z : List Run). z ++ run_of run ∷ []) so_far.are
            ∙ ap (λ (z : Run). map run_held (take count those) ++ z ∷ []) (same_run_of run (get_or views number d) is ∙ ap run_held (sym (there d)))
            ∙ sym (map-append run_held (take count those) (get_or those count d ∷ []))
            ∙ sym (ap (map run_held) next);
        same = subst (All (λ (view : HeldViews). view.list ≡ list)) (sym next) (All-push (λ (view : HeldViews). view.list ≡ list) (take count those) (get_or those count d) so_far.same (ap (λ (z : HeldViews). z.list) (there d) ∙ goes));
      }

  runs_next : (run : ViewRun) (d : HeldViews) (new : List ViewRun) → new ≡ runs ++ run ∷ [] → (get_or views number d).list ≡ list → (run.at ≡ (get_or views number d).at) × (run.pairs.items ≡ (get_or views number d).pairs) → (from + length new ≡ number + 1) × AreRunsUpTo those list (length new) new
  runs_next run d new pushed goes is =
      let size : length new ≡ count + 1 = ap length pushed ∙ length_push runs run in
      (omega (arith, size, at), subst (λ (z : ℕ). AreRunsUpTo those list z new) (sym size) (subst (AreRunsUpTo those list (count + 1)) (sym pushed) (runs_more run d goes is)))

  -- it goes with another list
  runs_stop : ((d : HeldViews) → (get_or views number d).list ≢ list) → AreRunsWith those list runs
  runs_stop apart = record {
    inside = omega (arith, known);
    are = so_far.are;
    same = so_far.same;
    other = λ view rest next goes.
        let first : get_or those count view ≡ view = ap (λ (z : List HeldViews). get_or z 0 view) (sym (drop_more those count view known) ∙ next) in
        apart view (ap (λ (z : HeldViews). z.list) (sym (there view) ∙ first) ∙ goes);
  }

pub returns-then-list : goal.returns-then-list
returns-then-list c = runs_stop c.args.views.now c.args.from c.args.to c.args.list c.requires.to c.loop-number.number c.loop-number.runs.items c.loop-number.invariant.0 c.loop-number-test.true c.loop-number.invariant.1 (λ d same. c.if-list.true (c.list.ensures d ∙ same))

pub loop-number-preserved : goal.loop-number-preserved
loop-number-preserved c =
    let d : HeldViews = record { list = 0; at = 0; pairs = [] } in
    runs_next c.args.views.now c.args.from c.args.to c.args.list c.requires.to c.loop-number.number c.loop-number.runs.items c.loop-number.invariant.0 c.loop-number-test.true c.loop-number.invariant.1 c.in_ok-same_run.field-0 d c.push.new.self.items c.in_ok-push.ensures.items (sym (c.list.ensures d) ∙ c.if-list.false) (c.in_ok-same_run.ensures d)
