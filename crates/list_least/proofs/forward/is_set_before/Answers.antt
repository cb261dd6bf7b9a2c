use Rattle.std.proofs.Common.{◌-◌, arith, inl, inr}
use Rattle.list_least.specs.inside.Search.{IsBytesUnder}
use Rattle.list_least.proofs.Ways.{read_at, read_next}
use Rattle.list_least.proofs.forward.is_set_before.Goals as goal

pub is_base_next-requires-clause-either : goal.is_base_next-requires-clause-either
is_base_next-requires-clause-either c =
    let here = read_at c.args.left.now.bytes.items (c.args.left.now.to - c.args.i) c.index.result.now c.requires.inside c.index.ensures in
    let next = read_next c.args.left.now c.args.i c.index-2.result.now c.requires.inside c.index-2.ensures in
    let least : IsBytesUnder c.args.costs.now c.args.base c.piece_at-bytes.result.cost = λ addr context item are. (let p = c.piece_at-bytes.ensures.piece addr context item are in p.cost c.args.base c.piece_at-bytes.ensures.below (omega arith)) in
    elim (c.requires.either (omega (arith, c.requires.order, c.if-i-left.false)) c.piece_at-bytes.result.cost least) [ inl le ↦ inl (omega (arith, le, here)) | inr le ↦ inr (omega (arith, le, here, next)) ]

pub returns-clause-kept : goal.returns-clause-kept
returns-clause-kept c kept =
    let here = read_at c.args.left.now.bytes.items (c.args.left.now.to - c.args.i) c.index.result.now c.requires.inside c.index.ensures in
    let next = read_next c.args.left.now c.args.i c.index-2.result.now c.requires.inside c.index-2.ensures in
    let least : IsBytesUnder c.args.costs.now c.args.base c.piece_at-bytes.result.cost = λ addr context item are. (let p = c.piece_at-bytes.ensures.piece addr context item are in p.cost c.args.base c.piece_at-bytes.ensures.below (omega arith)) in (
      omega (arith, c.requires.order, c.if-i-left.false),
      (c.piece_at-bytes.result.cost, least, omega (arith, c.is_base_next.ensures.kept kept, here, next)),
    )
