use Rattle.std.proofs.Common.{◌≡◌, ◌++◌}
use Rattle.std.proofs.lemmas.Result.{on_ok_weaker}
use Rattle.unit_write.specs.inside.Puts.{own_bytes}
use Rattle.unit_write.proofs.PutLaws.{head_put}
use Rattle.unit_write.proofs.write.put_head.Goals as goal

pub returns-clause-ok : goal.returns-clause-ok
returns-clause-ok c =
    let head = c.args.head in
    let new = c.args.new.now in
    on_ok_weaker c.put_own.result (λ (own : c.put_own.new.out.items ≡ c.put_low-3.new.out.items ++ own_bytes head.kind head.extra new.type_offset).
    head_put c.args.len head.kind new.table head.extra new.type_offset c.args.out.now.items c.put_low.new.out.items c.put_low-2.new.out.items c.push.new.self.items c.push-2.new.self.items c.put_low-3.new.out.items c.put_own.new.out.items c.in_ok-put_low.ensures.ok c.in_ok-put_low-2.ensures.ok c.in_ok-push.ensures.items c.in_ok-push-2.ensures.items c.in_ok-put_low-3.ensures.ok own) c.put_own.ensures.ok
