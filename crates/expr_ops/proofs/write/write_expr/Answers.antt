use Rattle.std.proofs.lemmas.Result.{on_ok_weaker}
use Rattle.expr_ops.specs.Drafts.{sizes_in, starts_from}
use Rattle.expr_ops.proofs.DraftLaws.{drafted, same_places, small_in, rise_in, inside_in, aimed_in, puttable_in, put_whole}
use Rattle.expr_ops.proofs.Written.{put_written}
use Rattle.expr_ops.proofs.write.write_expr.Goals as goal

pub places_of-requires : goal.places_of-requires
places_of-requires c =
    let drafts = c.in_ok-drafts.drafts.items in
    let d = drafted c.args.refs.now c.args.sizes.now c.args.bytes.now c.args.ops.now drafts c.in_ok-drafts.ensures.ops c.in_ok-drafts.ensures.slots in
    rw c.deref.ensures.value (c.requires.fits.put drafts d).small

pub aim_all-requires-clause-small : goal.aim_all-requires-clause-small
aim_all-requires-clause-small c =
    let drafts = c.in_ok-drafts.drafts.items in
    let d = drafted c.args.refs.now c.args.sizes.now c.args.bytes.now c.args.ops.now drafts c.in_ok-drafts.ensures.ops c.in_ok-drafts.ensures.slots in
    let p = same_places c.args.bytes.now c.deref.result.now drafts c.in_ok-places.places.items c.deref-3.result.now c.deref.ensures.value c.in_ok-places.ensures c.deref-3.ensures.value in
    small_in c.args.bytes.now drafts c.deref-3.result.now (c.requires.fits.put drafts d) p

pub aim_all-requires-clause-rising : goal.aim_all-requires-clause-rising
aim_all-requires-clause-rising c =
    let drafts = c.in_ok-drafts.drafts.items in
    let d = drafted c.args.refs.now c.args.sizes.now c.args.bytes.now c.args.ops.now drafts c.in_ok-drafts.ensures.ops c.in_ok-drafts.ensures.slots in
    let p = same_places c.args.bytes.now c.deref.result.now drafts c.in_ok-places.places.items c.deref-3.result.now c.deref.ensures.value c.in_ok-places.ensures c.deref-3.ensures.value in
    rise_in c.args.bytes.now drafts c.deref-3.result.now (c.requires.fits.put drafts d) p

pub aim_all-requires-clause-inside : goal.aim_all-requires-clause-inside
aim_all-requires-clause-inside c =
    let drafts = c.in_ok-drafts.drafts.items in
    let d = drafted c.args.refs.now c.args.sizes.now c.args.bytes.now c.args.ops.now drafts c.in_ok-drafts.ensures.ops c.in_ok-drafts.ensures.slots in
    let p = same_places c.args.bytes.now c.deref.result.now drafts c.in_ok-places.places.items c.deref-3.result.now c.deref.ensures.value c.in_ok-places.ensures c.deref-3.ensures.value in
    inside_in c.args.bytes.now drafts c.deref-2.result.now c.deref-3.result.now (c.requires.fits.put drafts d) c.deref-2.ensures.value p

pub put_all-requires : goal.put_all-requires
put_all-requires c =
    let drafts = c.in_ok-drafts.drafts.items in
    let d = drafted c.args.refs.now c.args.sizes.now c.args.bytes.now c.args.ops.now drafts c.in_ok-drafts.ensures.ops c.in_ok-drafts.ensures.slots in
    let p = same_places c.args.bytes.now c.deref.result.now drafts c.in_ok-places.places.items c.deref-3.result.now c.deref.ensures.value c.in_ok-places.ensures c.deref-3.ensures.value in
    let a = aimed_in drafts c.deref-2.result.now c.deref-3.result.now (starts_from 0 (sizes_in c.args.bytes.now drafts)) c.in_ok-firsts.firsts.items c.deref-4.result.now c.in_ok-aims.aims.items c.deref-2.ensures.value p c.deref-4.ensures.value c.in_ok-aims.ensures in
    puttable_in c.args.bytes.now drafts c.in_ok-firsts.firsts.items c.in_ok-aims.aims.items c.deref-5.result.now (c.requires.fits.put drafts d) c.deref-5.ensures.value a

pub returns-clause-ok : goal.returns-clause-ok
returns-clause-ok c =
    let drafts = c.in_ok-drafts.drafts.items in
    let d = drafted c.args.refs.now c.args.sizes.now c.args.bytes.now c.args.ops.now drafts c.in_ok-drafts.ensures.ops c.in_ok-drafts.ensures.slots in
    let p = same_places c.args.bytes.now c.deref.result.now drafts c.in_ok-places.places.items c.deref-3.result.now c.deref.ensures.value c.in_ok-places.ensures c.deref-3.ensures.value in
    let a = aimed_in drafts c.deref-2.result.now c.deref-3.result.now (starts_from 0 (sizes_in c.args.bytes.now drafts)) c.in_ok-firsts.firsts.items c.deref-4.result.now c.in_ok-aims.aims.items c.deref-2.ensures.value p c.deref-4.ensures.value c.in_ok-aims.ensures in
    on_ok_weaker c.append.result (λ e. put_written c.args.refs.now c.args.sizes.now c.args.bytes.now c.args.ops.now c.args.out.now.items c.append.new.out.items c.requires.fits (put_whole c.args.refs.now c.args.sizes.now c.args.bytes.now c.args.ops.now drafts c.in_ok-firsts.firsts.items c.in_ok-aims.aims.items c.deref-5.result.now c.new-made.result.items c.put_all.new.out.items c.deref-6.result.now c.args.out.now.items c.append.new.out.items d c.in_ok-firsts.ensures a c.deref-5.ensures.value c.new-made.ensures.items c.deref-6.ensures.value c.in_ok-put_all.ensures e)) c.append.ensures.ok
