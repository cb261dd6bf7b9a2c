use Rattle.std.proofs.Common.{◌≡◌, ◌<◌, ◌+◌, ◌∙◌, ℕ, List, [], ◌∷◌, ◌++◌, length, map, take, sym, ap, subst}
use Rattle.std.specs.List.{AllZip}
use Rattle.std.proofs.lemmas.List.{length-map, map_push, take_more}
use Rattle.list_write.specs.declared.named.NamedList.{NamedList}
use Rattle.list_write.specs.Written.{ToWrite, IsPieceOf, IsSized, to_write}
use Rattle.list_write.proofs.HeldPieces.{zip_push}
use Rattle.list_write.proofs.Ready.{sized}
use Rattle.list_write.proofs.Runs.{to_write_at}
use Rattle.list_write.proofs.write.write_lists.Goals as goal

pub push-requires-clause-sized : goal.push-requires-clause-sized
push-requires-clause-sized c =
    let lists = c.args.lists.now in
    let i = c.loop-list.list-index in
    let inside : i < length (map to_write lists) = subst (λ (z : ℕ). i < z) (sym (length-map lists to_write)) c.loop-list-test.true in
    subst (IsSized c.args.kind) (to_write_at lists i c.list-item.result c.loop-list-test.true c.list-item.is) (sized c.args.kind c.args.section.now c.args.parts.now (map to_write lists) c.requires.lists i inside)

pub loop-list-preserved : goal.loop-list-preserved
loop-list-preserved c =
    let lists = c.args.lists.now in
    let i = c.loop-list.list-index in
    let list = c.list-item.result in
    let more : map to_write (take (i + 1) lists) ≡ map to_write (take i lists) ++ to_write list ∷ [] =
    ap (map to_write) (take_more lists i list c.loop-list-test.true ∙ ap (λ (z : NamedList). take i lists ++ z ∷ []) (sym c.list-item.is)) ∙ map_push to_write (take i lists) list in
    let (piece, is_piece, pushed) = c.in_ok-push.ensures.pushed in
    subst (λ (z : List ToWrite). AllZip (IsPieceOf c.args.kind) z c.push.new.self) (sym more)
    (subst (AllZip (IsPieceOf c.args.kind) (map to_write (take i lists) ++ to_write list ∷ [])) (sym pushed)
    (zip_push (IsPieceOf c.args.kind) (map to_write (take i lists)) c.loop-list.pieces (to_write list) piece c.loop-list.invariant is_piece))
