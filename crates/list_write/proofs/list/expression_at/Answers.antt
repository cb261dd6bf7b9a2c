use Rattle.std.proofs.Common.{◌≡◌, ◌≤◌, ◌-◌, ◌∙◌, ℕ, List, length, get_or, take, drop, sym, ap, arith}
use Rattle.list_write.proofs.ExpressionPieces.{start_at, start_before, piece_inside, piece_at}
use Rattle.list_write.proofs.list.expression_at.Goals.{in-Some, in-None}
use Rattle.list_write.proofs.list.expression_at.Goals as goal

pub slice_bounds-result-count : goal.slice_bounds-result-count
slice_bounds-result-count c =
    let ends = c.args.expressions.now.ends.items in
    let number = c.args.number in
    let start : start_at 0 ends number ≡ c.match-checked_sub.from = elim c.match-checked_sub.branch [
      | in-Some w ↦ start_before 0 ends number w.index.result.now w.in-Some.ensures.0 c.requires.number ∙ ap (λ (z : ℕ). get_or ends z w.index.result.now) (sym w.in-Some.ensures.1) ∙ sym w.index.ensures ∙ sym w.from-is
      | in-None w ↦ (let none : number ≡ 0 = omega (arith, w.in-None.ensures) in ap (start_at 0 ends) none ∙ sym w.from-is)
    ] in
    let is : c.index-end.result.now ≡ get_or ends number c.index-end.result.now = c.index-end.ensures in
    let inside = piece_inside 0 ends (length c.args.expressions.now.bytes.items) number c.index-end.result.now c.requires.ends c.requires.number in
    omega (arith, start, is, inside.0)

pub slice_bounds-result-start : goal.slice_bounds-result-start
slice_bounds-result-start c =
    let ends = c.args.expressions.now.ends.items in
    let number = c.args.number in
    let start : start_at 0 ends number ≡ c.match-checked_sub.from = elim c.match-checked_sub.branch [
      | in-Some w ↦ start_before 0 ends number w.index.result.now w.in-Some.ensures.0 c.requires.number ∙ ap (λ (z : ℕ). get_or ends z w.index.result.now) (sym w.in-Some.ensures.1) ∙ sym w.index.ensures ∙ sym w.from-is
      | in-None w ↦ (let none : number ≡ 0 = omega (arith, w.in-None.ensures) in ap (start_at 0 ends) none ∙ sym w.from-is)
    ] in
    let is : c.index-end.result.now ≡ get_or ends number c.index-end.result.now = c.index-end.ensures in
    let inside = piece_inside 0 ends (length c.args.expressions.now.bytes.items) number c.index-end.result.now c.requires.ends c.requires.number in
    let below : c.match-checked_sub.from ≤ c.index-end.result.now = omega (arith, start, is, inside.0) in
    below

pub slice_bounds-result-end : goal.slice_bounds-result-end
slice_bounds-result-end c =
    let ends = c.args.expressions.now.ends.items in
    let number = c.args.number in
    let is : c.index-end.result.now ≡ get_or ends number c.index-end.result.now = c.index-end.ensures in
    let inside = piece_inside 0 ends (length c.args.expressions.now.bytes.items) number c.index-end.result.now c.requires.ends c.requires.number in
    let all : length c.deref.result.now ≡ length c.args.expressions.now.bytes.items = ap length c.deref.ensures.value in
    let below : c.index-end.result.now ≤ length c.deref.result.now = omega (arith, is, inside.1, all) in
    below

pub returns : goal.returns
returns c =
    let ends = c.args.expressions.now.ends.items in
    let number = c.args.number in
    let start : start_at 0 ends number ≡ c.match-checked_sub.from = elim c.match-checked_sub.branch [
      | in-Some w ↦ start_before 0 ends number w.index.result.now w.in-Some.ensures.0 c.requires.number ∙ ap (λ (z : ℕ). get_or ends z w.index.result.now) (sym w.in-Some.ensures.1) ∙ sym w.index.ensures ∙ sym w.from-is
      | in-None w ↦ (let none : number ≡ 0 = omega (arith, w.in-None.ensures) in ap (start_at 0 ends) none ∙ sym w.from-is)
    ] in
    let bytes = c.args.expressions.now.bytes.items in
    let end = c.index-end.result.now in
    let is : end ≡ get_or ends number end = c.index-end.ensures in
    ap (λ (z : List ℕ). take (end - c.match-checked_sub.from) (drop c.match-checked_sub.from z)) c.deref.ensures.value
    ∙ ap (λ (z : ℕ). take (end - z) (drop z bytes)) (sym start)
    ∙ ap (λ (z : ℕ). take (z - start_at 0 ends number) (drop (start_at 0 ends number) bytes)) is
    ∙ sym (piece_at 0 ends bytes number end c.requires.number)
