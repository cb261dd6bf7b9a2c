use Rattle.std.proofs.Common.{◌≡◌, ◌<◌, ◌+◌, ◌∙◌, ℕ, List, [], ◌∷◌, ◌++◌, length, map, take, drop, get_or, ap, refl, sym, subst, arith}
use Rattle.std.specs.Prelude.{◌-◌, slice_range}
use Rattle.std.specs.List.{AllZip}
use Rattle.std.proofs.lemmas.List.{map-append, take_rest, drop_all}
use Rattle.list_model.specs.declared.entry.ListKind.{ListKind}
use Rattle.list_model.specs.declared.entry.ListKind.TheVariants.{Ranges, Locations}
use Rattle.list_write.specs.declared.named.NamedList.{NamedList}
use Rattle.list_write.specs.Written.{ToWrite, IsPieceOf, to_write}
use Rattle.unit_write.proofs.ListSlots.{zip_append}
use Rattle.list_arena.specs.Held.{HeldList, HeldViews}
use Rattle.value_links.specs.World.{World, lists_held}
use Rattle.rewriter.specs.inside.Plans.{ArePlannedTo, AreViewsUpTo, with_plan}
use Rattle.rewriter.specs.inside.Runs.{views_held, AreRunsWith}
use Rattle.rewriter.proofs.PlannedLists.{same_plan}
use Rattle.rewriter.proofs.RecordedLists.{recorded_none, recorded_more}
use Rattle.rewriter.proofs.WrittenLists.{planned_more, planned_sized}
use Rattle.rewriter.proofs.ViewRuns.{held_order, views_start, views_more, views_all}
use Rattle.rewriter.proofs.lists.write_pieces.Goals as goal

-- the list of this turn is one of those that are held
list_known : (all lent : List HeldList) (n end : ℕ) → lent ≡ all → end ≡ length lent → n < end → n < length all
list_known all lent n end same size less = subst (λ (z : List HeldList). n < length z) same (subst (λ (z : ℕ). n < z) size less)

list_here : (all lent : List HeldList) (n : ℕ) (list : HeldList) → lent ≡ all → ((d : HeldList) → list ≡ get_or lent n d) → list ≡ get_or all n list
list_here all lent n list same is = is list ∙ ap (λ (z : List HeldList). get_or z n list) same

abbrev named_at : NamedList → ℕ → ℕ → NamedList
named_at one part at = record { part = part; at = at; plan = one.plan; expressions = one.expressions; views = one.views }

list_named : (list : HeldList) (one : NamedList) → one.part ≡ list.part → one.at ≡ list.at → one ≡ with_plan list one.plan one
list_named list one part at = ap (λ (z : ℕ). named_at one z one.at) part ∙ ap (named_at one list.part) at

-- the view pairs that are left; of ranges there are none
views_left : (world : World) (kind : ListKind) (lent : List HeldViews) (next count : ℕ) → lent ≡ world.views → count ≡ length (views_held world kind) → slice_range lent next count ≡ drop next (views_held world kind)
views_left world Ranges lent next count same size =
    let none : count - next ≡ 0 = omega (arith, size) in
    ap (λ (z : ℕ). take z (drop next lent)) none ∙ sym (drop_all next (views_held world Ranges) (omega arith))
views_left world Locations lent next count same size =
    ap (λ (z : ℕ). take (z - next) (drop next lent)) size
    ∙ ap (λ (z : List HeldViews). take (length world.views - next) (drop next z)) same
    ∙ take_rest world.views next

pub loop-number-init : goal.loop-number-init
loop-number-init c =
    let kind = c.args.kind in
    let world = c.args.world.now in (
      record {
        named = [];
        planned = record { count = refl; each = λ k d e less. absurd (omega arith) };
        viewed = views_start (lists_held world kind) (views_held world kind) (held_order c.requires.world.read c.requires.world.holds kind);
        written = subst (AllZip (IsPieceOf kind) []) (sym c.new-pieces.ensures) tt;
      },
      recorded_none world kind c.args.records.now.items c.requires.none,
    )

pub plan_of-requires-clause-list : goal.plan_of-requires-clause-list
plan_of-requires-clause-list c =
    let n : ℕ = c.loop-number.number in
    let all : List HeldList = lists_held c.args.world.now c.args.kind in
    let lent : List HeldList = c.lists-lists.result.now in
    (n, list_known all lent n c.len-number-end.result c.lists-lists.ensures.lists c.len-number-end.ensures c.loop-number-test.true, sym (list_here all lent n c.in_ok-list.list c.lists-lists.ensures.lists c.in_ok-list.ensures))

pub new_expressions-requires-clause-list : goal.new_expressions-requires-clause-list
new_expressions-requires-clause-list c =
    let n : ℕ = c.loop-number.number in
    let all : List HeldList = lists_held c.args.world.now c.args.kind in
    let lent : List HeldList = c.lists-lists.result.now in
    (n, list_known all lent n c.len-number-end.result c.lists-lists.ensures.lists c.len-number-end.ensures c.loop-number-test.true, sym (list_here all lent n c.in_ok-list.list c.lists-lists.ensures.lists c.in_ok-list.ensures))

pub push-requires-clause-sized : goal.push-requires-clause-sized
push-requires-clause-sized c =
    let n : ℕ = c.loop-number.number in
    let all : List HeldList = lists_held c.args.world.now c.args.kind in
    let lent : List HeldList = c.lists-lists.result.now in
    let list : HeldList = c.in_ok-list.list in
    let inside : n < length all = list_known all lent n c.len-number-end.result c.lists-lists.ensures.lists c.len-number-end.ensures c.loop-number-test.true in
    let is : list ≡ get_or all n list = list_here all lent n list c.lists-lists.ensures.lists c.in_ok-list.ensures in
    let one : NamedList = record { part = c.part.result; at = c.at-in-loop-number.result; plan = c.in_ok-plan.plan; expressions = c.in_ok-expressions.expressions; views = c.in_ok-runs.runs } in
    let kept = same_plan c.args.world.now c.args.kind list c.in_ok-planned.planned c.in_ok-plan.plan c.in_ok-plan.ensures.picks c.in_ok-planned.ensures.plan in
    planned_sized c.args.world.now c.args.places.now.items c.args.kind c.requires.world n inside list is one (list_named list one c.part.ensures c.at-in-loop-number.ensures) kept c.in_ok-expressions.ensures

pub loop-number-preserved : goal.loop-number-preserved
loop-number-preserved c =
    let n : ℕ = c.loop-number.number in
    let next : ℕ = c.loop-number.next in
    let all : List HeldList = lists_held c.args.world.now c.args.kind in
    let lent : List HeldList = c.lists-lists.result.now in
    let views : List HeldViews = views_held c.args.world.now c.args.kind in
    let list : HeldList = c.in_ok-list.list in
    let so_far = c.loop-number.invariant.0 in
    let named : List NamedList = so_far.named in
    let inside : n < length all = list_known all lent n c.len-number-end.result c.lists-lists.ensures.lists c.len-number-end.ensures c.loop-number-test.true in
    let is : list ≡ get_or all n list = list_here all lent n list c.lists-lists.ensures.lists c.in_ok-list.ensures in
    let one : NamedList = record { part = c.part.result; at = c.at-in-loop-number.result; plan = c.in_ok-plan.plan; expressions = c.in_ok-expressions.expressions; views = c.in_ok-runs.runs } in
    let kept = same_plan c.args.world.now c.args.kind list c.in_ok-planned.planned c.in_ok-plan.plan c.in_ok-plan.ensures.picks c.in_ok-planned.ensures.plan in
    let count : length named ≡ n = so_far.planned.count in
    let left : slice_range c.views.result.now next c.run_count-count.result ≡ drop next views = views_left c.args.world.now c.args.kind c.views.result.now next c.run_count-count.result c.views.ensures c.run_count-count.ensures in
    let found : AreRunsWith (drop next views) c.at.result one.views.items = subst (λ (z : List HeldViews). AreRunsWith z c.at.result one.views.items) left c.in_ok-runs.ensures in
    let runs : AreRunsWith (drop next views) list.at one.views.items = subst (λ (z : ℕ). AreRunsWith (drop next views) z one.views.items) c.at.ensures found in
    let sized : length one.views.items ≡ c.len-next.result = omega (arith, c.in_ok-runs.runs.ok.0, c.len-next.ensures) in
    let viewed = views_more all views (held_order c.requires.world.read c.requires.world.holds c.args.kind) named one next list so_far.viewed (omega (arith, count, inside)) (subst (λ (z : ℕ). list ≡ get_or all z list) (sym count) is) runs (named ++ one ∷ []) refl in
    let (piece, is_piece, pushed) = c.in_ok-push.ensures.pushed in
    let written : AllZip (IsPieceOf c.args.kind) (map to_write (named ++ one ∷ [])) c.push.new.self =
    subst (λ (z : List ToWrite). AllZip (IsPieceOf c.args.kind) z c.push.new.self) (sym (map-append to_write named (one ∷ [])))
    (subst (AllZip (IsPieceOf c.args.kind) (map to_write named ++ to_write one ∷ [])) (sym pushed)
    (zip_append (IsPieceOf c.args.kind) (map to_write named) c.loop-number.pieces (to_write one ∷ []) (piece ∷ []) so_far.written (is_piece, tt))) in (
      record {
        named = named ++ one ∷ [];
        planned = planned_more c.args.world.now c.args.places.now.items c.args.kind n named (named ++ one ∷ []) list one so_far.planned inside is (list_named list one c.part.ensures c.at-in-loop-number.ensures) kept c.in_ok-expressions.ensures refl;
        viewed = subst (λ (z : ℕ). AreViewsUpTo all views (named ++ one ∷ []) (next + z)) sized viewed;
        written = written;
      },
      recorded_more c.args.world.now c.args.kind n c.loop-number.records.items c.record_plan.new.records.items c.loop-number.invariant.1 list inside is c.in_ok-planned.planned.potentials.items c.in_ok-planned.ensures.potentials c.in_ok-plan.ensures.recorded c.in_ok-plan.ensures.kept,
    )

pub returns-clause-planned : goal.returns-clause-planned
returns-clause-planned c =
    let so_far = c.loop-number.invariant.0 in
    let kind = c.args.kind in
    let end : c.loop-number.number ≡ c.len-number-end.result = omega (arith, c.loop-number-test.false, c.loop-number.auto.number-end) in
    let count : c.loop-number.number ≡ length (lists_held c.args.world.now kind) = end ∙ c.len-number-end.ensures ∙ ap length c.lists-lists.ensures.lists in
    record {
      named = so_far.named;
      planned = subst (λ (z : ℕ). ArePlannedTo c.args.classes c.args.world.now c.args.places.now.items kind z so_far.named) count so_far.planned;
      viewed = views_all (lists_held c.args.world.now kind) (views_held c.args.world.now kind) (held_order c.requires.world.read c.requires.world.holds kind) so_far.named c.loop-number.next so_far.viewed (so_far.planned.count ∙ count);
      written = so_far.written;
    }
