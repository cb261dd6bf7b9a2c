use Rattle.std.proofs.Common.{◌≡◌, ◌+◌, ◌-◌, ◌∙◌, ℕ, List, [], ◌∷◌, ◌++◌, length, map, sym, ap, refl, subst, arith}
use Rattle.std.proofs.lemmas.List.{append_assoc, append_cancel_left, length-append, length-map}
use Rattle.std.proofs.lemmas.Slice.Zip.{AllZip-long}
use Rattle.list_write.specs.Written.{IsWrittenRun, ShortestWith, run_of, to_write}
use Rattle.list_write.specs.inside.Pieces.{runs_bytes}
use Rattle.list_write.proofs.pieces.put_whole.Goals as goal

pub returns : goal.returns
returns c =
    let kind = c.args.kind in
    let list = c.args.list.now in
    let expressions = (to_write list).expressions in
    let old = c.args.out.now.items in
    let mid = c.put_runs.new.out.items in
    let new = c.put_list.new.out.items in
    let views = c.in_ok-put_runs.ensures in
    let own = c.in_ok-put_list.ensures c.requires.sized.entries c.requires.sized.picked in
    let long : length new ≡ length mid + length own.0 = ap length own.2 ∙ length-append mid own.0 in
    let size : c.len-2.result - c.len-before.result ≡ length own.0 = omega (arith, long, c.len-2.ensures, c.len-before.ensures) in
    let count : c.len.result ≡ length views.written = (let all = AllZip-long IsWrittenRun (map run_of list.views.items) views.written views.are in let same = length-map list.views.items run_of in omega (arith, all, same, c.len.ensures)) in
    record {
      piece = record { part = list.part; at = list.at; bytes = own.0; runs = views.written };
      is = record {
        part = refl;
        from = refl;
        runs = views.are;
        own = λ entries picked.
            let there = c.in_ok-put_list.ensures entries picked in
            let same : there.0 ≡ own.0 = append_cancel_left mid there.0 own.0 (sym there.2 ∙ own.2) in
            (there.1.0, subst (λ (z : List ℕ). ShortestWith kind entries expressions z there.1.0) same there.1.1);
      };
      bytes = own.2 ∙ ap (λ z. z ++ own.0) views.bytes ∙ append_assoc old (runs_bytes views.written) own.0;
      lists =
          c.in_ok-push.ensures.items
          ∙ ap (λ (z : ℕ). c.args.lists.now.items ++ (record { part = list.part; at = list.at; runs = z; size = c.len-2.result - c.len-before.result }) ∷ []) count
          ∙ ap (λ (z : ℕ). c.args.lists.now.items ++ (record { part = list.part; at = list.at; runs = length views.written; size = z }) ∷ []) size;
      runs = views.extents;
    }
