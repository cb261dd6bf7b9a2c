use Rattle.std.proofs.Common.{◌≡◌, ◌+◌, ◌-◌, ◌∙◌, ℕ, List, [], ◌∷◌, ◌++◌, length, get_or, map, take, sym, ap, subst, arith, refl, ◌<◌}
use Rattle.std.proofs.lemmas.List.{length-append, map_push, take_more}
use Rattle.list_write.specs.declared.named.ViewRun.{ViewRun}
use Rattle.list_write.specs.Written.{Run, WrittenRun, run_of}
use Rattle.list_write.specs.inside.Pieces.{AreRunsHeld}
use Rattle.list_write.proofs.HeldPieces.{runs_held_more}
use Rattle.list_write.proofs.pieces.put_runs.Goals as goal

pub loop-run-preserved : goal.loop-run-preserved
loop-run-preserved c =
    let items = c.args.runs.now.items in
    let i = c.loop-run.run-index in
    let run = c.run-item.result in
    let old = c.args.out.now.items in
    let mid = c.loop-run.out.items in
    let new = c.put_run.new.out.items in
    let put = c.in_ok-put_run.ensures in
    let written : WrittenRun = record { at = run.at; bytes = put.0 } in
    let inside : i < length items = subst (λ (z : List ViewRun). i < length z) c.deref-run-items.ensures.value c.loop-run-test.true in
    let is : run ≡ get_or items i run = subst (λ (z : List ViewRun). run ≡ get_or z i run) c.deref-run-items.ensures.value c.run-item.is in
    let more : map run_of (take (i + 1) items) ≡ map run_of (take i items) ++ run_of run ∷ [] =
    ap (map run_of) (take_more items i run inside ∙ ap (λ (z : ViewRun). take i items ++ z ∷ []) (sym is)) ∙ map_push run_of (take i items) run in
    let long : length new ≡ length mid + length put.0 = ap length put.2 ∙ length-append mid put.0 in
    let size : c.len.result - c.len-before.result ≡ length put.0 = omega (arith, long, c.len.ensures, c.len-before.ensures) in
    let pushed = c.in_ok-push.ensures.items ∙ ap (λ (z : ℕ). c.loop-run.extents.items ++ (record { at = run.at; size = z }) ∷ []) size in
    subst (λ (z : List Run). AreRunsHeld z old new c.args.extents.now.items c.push.new.self.items) (sym more)
    (runs_held_more (map run_of (take i items)) (run_of run) written old mid new c.args.extents.now.items c.loop-run.extents.items c.push.new.self.items c.loop-run.invariant (record { from = refl; shortest = put.1 }) put.2 pushed)
