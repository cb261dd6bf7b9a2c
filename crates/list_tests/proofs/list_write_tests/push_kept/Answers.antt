use Rattle.std.proofs.Common.{◌≡◌, List, length, map, sym, subst, arith}
use Rattle.list_write.specs.declared.named.NamedList.{NamedList}
use Rattle.list_write.specs.Written.{IsSized, pieces, to_write}
use Rattle.list_write.specs.inside.Puts.{carried_count}
use Rattle.list_tests.specs.Writable.{AreSized}
use Rattle.list_write.proofs.ExpressionPieces.{pieces_count}
use Rattle.list_tests.proofs.WritableLists.{has_all, sized_more}
use Rattle.list_tests.proofs.list_write_tests.push_kept.Goals as goal

pub returns : goal.returns
returns c =
    let kind = c.args.kind in
    let new = c.args.expressions in
    let are = c.are_entries.ensures c.if-not-are_entries.false in
    let picked = c.in-Ok.ensures.picked are.entries are.said in
    let count = c.expression_count.ensures are.entries picked in
    let many : length (pieces 0 new.ends.items new.bytes.items) ≡ length new.ends.items = pieces_count 0 new.ends.items new.bytes.items in
    let list : NamedList = record { part = c.args.part; at = c.args.at; plan = c.in-Ok.plan; expressions = new; views = c.args.views } in
    let all : length (pieces 0 new.ends.items new.bytes.items) ≡ carried_count kind are.entries = omega (arith, many, count, c.if-expression_count-len.false, c.len-2.ensures) in
    let one : IsSized kind (to_write list) = record { entries = are.entries; picked = picked; bytes = c.in-Ok.ensures.bytes are.entries are.said; carried = has_all kind are.entries (pieces 0 new.ends.items new.bytes.items) all } in
    subst (λ (z : List NamedList). AreSized kind (map to_write z)) (sym c.in_ok-push.ensures.items) (sized_more kind c.args.lists.now.items list c.requires one)
