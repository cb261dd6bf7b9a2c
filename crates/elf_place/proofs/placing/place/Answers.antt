use Rattle.std.proofs.Common.{◌≢◌, ◌<◌, ◌^◌, ℕ, map, get_or, subst, sym, arith}
use Rattle.std.specs.Prelude.{IfOk}
use Rattle.std.specs.List.{Contains}
use Rattle.std.proofs.lemmas.Result.{IfOk-weaker}
use Rattle.std.proofs.lemmas.List.{length-map, get_or-map}
use Rattle.elf_sections.specs.Elf.{section_count, fixed_end_of}
use Rattle.elf_place.specs.Bodies.{body_after}
use Rattle.elf_place.specs.Layout.{IsMovingOrder}
use Rattle.elf_place.specs.inside.Spots.{IsChain, IsWritten}
use Rattle.elf_place.specs.declared.spots.Spot.{Spot}
use Rattle.elf_place.proofs.Placed.{IsPlaced, IsPlaced-from}
use Rattle.elf_place.proofs.ReadAgain.{IsRead-again}
use Rattle.elf_place.proofs.WriteLaws.{spots-inside, spots-apart}
use Rattle.elf_place.proofs.ReadLaws.{aligned, length-body_after, fixed_end-within}
use Rattle.elf_place.proofs.placing.place.Goals as goal

pub plan_spots-requires-clause-inside : goal.plan_spots-requires-clause-inside
plan_spots-requires-clause-inside c =
    let image = c.args.image.now in
    let bodies = c.args.bodies.now.items in
    let order = c.in_ok-order.order.items in
    let read = c.whole-file.ensures.read in
    let some : section_count image ≢ 0 = omega arith in
    rw (c.deref-4.ensures.value, c.deref-2.ensures.value) (λ k d lt.
    let i = (get_or order k d).1 in
    let number : ℕ × ℕ → ℕ = λ (p : ℕ × ℕ). p.1 in
    let among : Contains (map (λ (p : ℕ × ℕ). p.1) order) i = (k, subst (λ (n : ℕ). k < n) (sym (length-map order (λ (p : ℕ × ℕ). p.1))) lt, get_or-map (λ (p : ℕ × ℕ). p.1) order k d i lt) in
    let moves = (c.in_ok-order.ensures.order.movable i).0 among in
    record {
      inside = moves.0;
      aligned = aligned image read some i moves.0 moves.1;
      small = length-body_after image bodies i (2 ^ 35) read.small.bytes (omega (arith, c.requires.small));
    })

pub plan_spots-requires-clause-low : goal.plan_spots-requires-clause-low
plan_spots-requires-clause-low c =
    let some : section_count c.args.image.now ≢ 0 = omega arith in
    let within = fixed_end-within c.args.image.now c.whole-file.ensures.read some in
    omega (arith, within.1, c.whole-file.ensures.read.small.bytes)

pub write_out-requires-clause-inside : goal.write_out-requires-clause-inside
write_out-requires-clause-inside c =
    let moving = rw (c.deref-4.ensures.value) at c.in_ok-plan.ensures.sections in
    spots-inside c.args.image.now c.in_ok-plan.plan.spots.items (rw moving c.in_ok-order.ensures.order)

pub write_out-requires-clause-once : goal.write_out-requires-clause-once
write_out-requires-clause-once c =
    let moving = rw (c.deref-4.ensures.value) at c.in_ok-plan.ensures.sections in
    spots-apart c.args.image.now c.in_ok-plan.plan.spots.items (rw moving c.in_ok-order.ensures.order)

pub write_out-requires-clause-chain : goal.write_out-requires-clause-chain
write_out-requires-clause-chain c = rw (c.deref-5.ensures.value, ← c.deref-2.ensures.value) c.in_ok-plan.ensures.chain

facts : (c : goal.After-drop-table-2) → IfOk c.write_out.result (λ out. IsPlaced c.args.image.now c.args.bodies.now.items out.items)
facts c =
    let image = c.args.image.now in
    let bodies = c.args.bodies.now.items in
    let spots = c.in_ok-plan.plan.spots.items in
    let end = c.in_ok-plan.plan.end in
    let some : section_count image ≢ 0 = omega arith in
    let sections = rw (c.deref-4.ensures.value) at c.in_ok-plan.ensures.sections in
    let moving : IsMovingOrder image (map (λ (spot : Spot). spot.section) spots) = rw sections c.in_ok-order.ensures.order in
    let chain : IsChain image (body_after image bodies) (fixed_end_of image) spots end = rw c.deref-2.ensures.value at c.in_ok-plan.ensures.chain in
    let written = rw c.deref-5.ensures.value at c.write_out.ensures in
    IfOk-weaker c.write_out.result (λ out. IsWritten image (body_after image bodies) spots end out.items) (λ out. IsPlaced image bodies out.items)
    (λ out done. IsPlaced-from image bodies spots end out.items c.whole-file.ensures.read some c.requires.movable c.requires.apart chain moving done) written

pub returns-clause-laid_out : goal.returns-clause-laid_out
returns-clause-laid_out c = IfOk-weaker c.write_out.result _ _ (λ out placed some. placed.laid_out) (facts c)

pub returns-clause-same : goal.returns-clause-same
returns-clause-same c = IfOk-weaker c.write_out.result _ _ (λ out placed. placed.same) (facts c)

pub returns-clause-bodies : goal.returns-clause-bodies
returns-clause-bodies c = IfOk-weaker c.write_out.result _ _ (λ out placed. placed.news) (facts c)

pub returns-clause-kept : goal.returns-clause-kept
returns-clause-kept c = IfOk-weaker c.write_out.result _ _ (λ out placed. placed.kept) (facts c)

pub returns-clause-fixed_end : goal.returns-clause-fixed_end
returns-clause-fixed_end c = IfOk-weaker c.write_out.result _ _ (λ out placed some. placed.fixed_end) (facts c)

pub returns-clause-still_movable : goal.returns-clause-still_movable
returns-clause-still_movable c = IfOk-weaker c.write_out.result _ _ (λ out placed. placed.movable) (facts c)

pub returns-clause-read : goal.returns-clause-read
returns-clause-read c =
    let image = c.args.image.now in
    let bodies = c.args.bodies.now.items in
    let some : section_count image ≢ 0 = omega arith in
    IfOk-weaker c.write_out.result _ _ (λ out placed narrow keeps few. IsRead-again image out.items bodies c.whole-file.ensures.read some placed keeps narrow few) (facts c)
