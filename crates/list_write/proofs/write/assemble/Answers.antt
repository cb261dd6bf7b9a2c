use Rattle.std.proofs.Common.{◌≡◌, ◌≤◌, ◌<◌, ◌+◌, ◌-◌, ◌∙◌, ℕ, List, ◌++◌, length, take, drop, sym, ap, subst, arith}
use Rattle.std.specs.List.{AllZip}
use Rattle.std.proofs.lemmas.List.{get_or_read}
use Rattle.list_model.specs.declared.contribution.Contribution.{Contribution}
use Rattle.list_model.specs.Contributions.{offsets_at, lists_at, part_end}
use Rattle.list_model.proofs.Tiling.{part_inside}
use Rattle.list_write.specs.Written.{ToWrite, CanBeWritten, IsPieceOf, part_at, moved_at}
use Rattle.list_write.specs.inside.Puts.{header_bytes, AreSlotsPut, AreWrittenTo}
use Rattle.list_write.proofs.Assembled.{ready_for, can_be_placed}
use Rattle.list_write.proofs.Copied.{front_within, to_within, copied_more}
use Rattle.list_write.proofs.Placing.{no_part}
use Rattle.list_write.proofs.Ready.{part_stands, old_rise, told_moved, lists_fit, part_fits, moved_behind}
use Rattle.list_write.proofs.Whole.{all_written}
use Rattle.list_write.proofs.write.assemble.Goals as goal

pub place_parts-requires : goal.place_parts-requires
place_parts-requires c =
    let kind = c.args.kind in
    let section = c.args.section.now in
    let parts = c.args.parts.now in
    let extents = c.pieces.inside.lists.items in
    let runs = c.pieces.inside.runs.items in
    let all = c.pieces.inside.bytes.items in
    let lists = c.requires.lists.0 in
    let ready = ready_for kind section parts lists extents runs all c.pieces.invariant c.args.pieces.now c.pieces.view_is c.requires.lists.1 c.requires.lists.2 in
    let placeable = can_be_placed kind section parts lists extents runs all ready c.deref.result.now c.deref-2.result.now c.deref.ensures.value c.deref-2.ensures.value in
    record { ready = (lists, placeable) }

pub index-requires : goal.index-requires
index-requires c =
    let kind = c.args.kind in
    let section = c.args.section.now in
    let parts = c.args.parts.now in
    let extents = c.pieces.inside.lists.items in
    let runs = c.pieces.inside.runs.items in
    let all = c.pieces.inside.bytes.items in
    let lists = c.requires.lists.0 in
    let ready = ready_for kind section parts lists extents runs all c.pieces.invariant c.args.pieces.now c.pieces.view_is c.requires.lists.1 c.requires.lists.2 in
    let placeable = can_be_placed kind section parts lists extents runs all ready c.deref.result.now c.deref-2.result.now c.deref.ensures.value c.deref-2.ensures.value in
    let new_parts = c.in_ok-places.places.parts.items in
    let moved = c.in_ok-places.places.lists.items in
    let views = c.in_ok-places.places.views.items in
    let placed = c.in_ok-places.ensures lists placeable in
    omega (arith, c.loop-number-test.true, placed.parts_count, c.in_ok-places.places.parts.ok.0)

pub put_header-requires : goal.put_header-requires
put_header-requires c =
    let kind = c.args.kind in
    let section = c.args.section.now in
    let parts = c.args.parts.now in
    let extents = c.pieces.inside.lists.items in
    let runs = c.pieces.inside.runs.items in
    let all = c.pieces.inside.bytes.items in
    let lists = c.requires.lists.0 in
    let ready = ready_for kind section parts lists extents runs all c.pieces.invariant c.args.pieces.now c.pieces.view_is c.requires.lists.1 c.requires.lists.2 in
    let placeable = can_be_placed kind section parts lists extents runs all ready c.deref.result.now c.deref-2.result.now c.deref.ensures.value c.deref-2.ensures.value in
    let new_parts = c.in_ok-places.places.parts.items in
    let moved = c.in_ok-places.places.lists.items in
    let views = c.in_ok-places.places.views.items in
    let placed = c.in_ok-places.ensures lists placeable in
    let p = c.loop-number.number in
    let within : p < length new_parts = omega (arith, c.loop-number-test.true, placed.parts_count) in
    let is : c.index.result.now ≡ part_at new_parts p = get_or_read new_parts p _ within c.index.ensures no_part in
    let len : c.index.result.now.len ≡ (part_at new_parts p).len = ap (λ (z : Contribution). z.len) is in
    let fits = lists_fit kind section parts lists ready.can new_parts moved views placed p c.loop-number-test.true in
    omega (arith, len, fits)

pub put_slots-requires-clause-inside : goal.put_slots-requires-clause-inside
put_slots-requires-clause-inside c =
    let kind = c.args.kind in
    let section = c.args.section.now in
    let parts = c.args.parts.now in
    let extents = c.pieces.inside.lists.items in
    let runs = c.pieces.inside.runs.items in
    let all = c.pieces.inside.bytes.items in
    let lists = c.requires.lists.0 in
    let ready = ready_for kind section parts lists extents runs all c.pieces.invariant c.args.pieces.now c.pieces.view_is c.requires.lists.1 c.requires.lists.2 in
    let placeable = can_be_placed kind section parts lists extents runs all ready c.deref.result.now c.deref-2.result.now c.deref.ensures.value c.deref-2.ensures.value in
    let p = c.loop-number.number in
    let stands = part_stands kind section parts lists ready.can p c.loop-number-test.true in
    let end = (part_inside section (part_at parts p) stands).1 in
    let fits : lists_at (part_at parts p) ≤ part_end (part_at parts p) = stands.fits in
    omega (arith, fits, end)

pub put_slots-requires-clause-rise : goal.put_slots-requires-clause-rise
put_slots-requires-clause-rise c =
    let kind = c.args.kind in
    let section = c.args.section.now in
    let parts = c.args.parts.now in
    let extents = c.pieces.inside.lists.items in
    let runs = c.pieces.inside.runs.items in
    let all = c.pieces.inside.bytes.items in
    let lists = c.requires.lists.0 in
    let ready = ready_for kind section parts lists extents runs all c.pieces.invariant c.args.pieces.now c.pieces.view_is c.requires.lists.1 c.requires.lists.2 in
    let placeable = can_be_placed kind section parts lists extents runs all ready c.deref.result.now c.deref-2.result.now c.deref.ensures.value c.deref-2.ensures.value in
    let new_parts = c.in_ok-places.places.parts.items in
    let moved = c.in_ok-places.places.lists.items in
    let views = c.in_ok-places.places.views.items in
    let placed = c.in_ok-places.ensures lists placeable in
    old_rise kind section parts lists ready.can new_parts moved views placed

pub put_slots-requires-clause-told : goal.put_slots-requires-clause-told
put_slots-requires-clause-told c =
    let kind = c.args.kind in
    let section = c.args.section.now in
    let parts = c.args.parts.now in
    let extents = c.pieces.inside.lists.items in
    let runs = c.pieces.inside.runs.items in
    let all = c.pieces.inside.bytes.items in
    let lists = c.requires.lists.0 in
    let ready = ready_for kind section parts lists extents runs all c.pieces.invariant c.args.pieces.now c.pieces.view_is c.requires.lists.1 c.requires.lists.2 in
    let placeable = can_be_placed kind section parts lists extents runs all ready c.deref.result.now c.deref-2.result.now c.deref.ensures.value c.deref-2.ensures.value in
    let new_parts = c.in_ok-places.places.parts.items in
    let moved = c.in_ok-places.places.lists.items in
    let views = c.in_ok-places.places.views.items in
    let placed = c.in_ok-places.ensures lists placeable in
    told_moved kind section parts lists ready.can new_parts moved views placed c.loop-number.number c.loop-number-test.true

pub put_slots-requires-clause-behind : goal.put_slots-requires-clause-behind
put_slots-requires-clause-behind c =
    let kind = c.args.kind in
    let section = c.args.section.now in
    let parts = c.args.parts.now in
    let extents = c.pieces.inside.lists.items in
    let runs = c.pieces.inside.runs.items in
    let all = c.pieces.inside.bytes.items in
    let lists = c.requires.lists.0 in
    let ready = ready_for kind section parts lists extents runs all c.pieces.invariant c.args.pieces.now c.pieces.view_is c.requires.lists.1 c.requires.lists.2 in
    let placeable = can_be_placed kind section parts lists extents runs all ready c.deref.result.now c.deref-2.result.now c.deref.ensures.value c.deref-2.ensures.value in
    let new_parts = c.in_ok-places.places.parts.items in
    let moved = c.in_ok-places.places.lists.items in
    let views = c.in_ok-places.places.views.items in
    let placed = c.in_ok-places.ensures lists placeable in
    let p = c.loop-number.number in
    let within : p < length new_parts = omega (arith, c.loop-number-test.true, placed.parts_count) in
    let is : c.index.result.now ≡ part_at new_parts p = get_or_read new_parts p _ within c.index.ensures no_part in
    subst (λ (z : Contribution). (k : ℕ) → k < length moved → offsets_at (part_at parts p).at ≤ (moved_at moved k).old → offsets_at z.at ≤ (moved_at moved k).new) (sym is)
    (moved_behind kind section parts lists ready.can new_parts moved views placed p c.loop-number-test.true)

pub put_slots-requires-clause-room : goal.put_slots-requires-clause-room
put_slots-requires-clause-room c =
    let kind = c.args.kind in
    let section = c.args.section.now in
    let parts = c.args.parts.now in
    let extents = c.pieces.inside.lists.items in
    let runs = c.pieces.inside.runs.items in
    let all = c.pieces.inside.bytes.items in
    let lists = c.requires.lists.0 in
    let ready = ready_for kind section parts lists extents runs all c.pieces.invariant c.args.pieces.now c.pieces.view_is c.requires.lists.1 c.requires.lists.2 in
    let placeable = can_be_placed kind section parts lists extents runs all ready c.deref.result.now c.deref-2.result.now c.deref.ensures.value c.deref-2.ensures.value in
    let new_parts = c.in_ok-places.places.parts.items in
    let moved = c.in_ok-places.places.lists.items in
    let views = c.in_ok-places.places.views.items in
    let placed = c.in_ok-places.ensures lists placeable in
    let p = c.loop-number.number in
    let within : p < length new_parts = omega (arith, c.loop-number-test.true, placed.parts_count) in
    let is : c.index.result.now ≡ part_at new_parts p = get_or_read new_parts p _ within c.index.ensures no_part in
    let at : c.index.result.now.at ≡ (part_at new_parts p).at = ap (λ (z : Contribution). z.at) is in
    let fits = part_fits kind section parts lists ready.can new_parts moved views placed p c.loop-number-test.true in
    omega (arith, at, fits)

pub overflow_sub-end : goal.overflow_sub-end
overflow_sub-end c =
    let kind = c.args.kind in
    let section = c.args.section.now in
    let parts = c.args.parts.now in
    let extents = c.pieces.inside.lists.items in
    let runs = c.pieces.inside.runs.items in
    let all = c.pieces.inside.bytes.items in
    let lists = c.requires.lists.0 in
    let ready = ready_for kind section parts lists extents runs all c.pieces.invariant c.args.pieces.now c.pieces.view_is c.requires.lists.1 c.requires.lists.2 in
    let placeable = can_be_placed kind section parts lists extents runs all ready c.deref.result.now c.deref-2.result.now c.deref.ensures.value c.deref-2.ensures.value in
    let new_parts = c.in_ok-places.places.parts.items in
    let moved = c.in_ok-places.places.lists.items in
    let views = c.in_ok-places.places.views.items in
    let placed = c.in_ok-places.ensures lists placeable in
    let p = c.loop-number.number in
    let within : p < length new_parts = omega (arith, c.loop-number-test.true, placed.parts_count) in
    let is : c.index.result.now ≡ part_at new_parts p = get_or_read new_parts p _ within c.index.ensures no_part in
    let so_far = c.loop-number.invariant lists c.requires.lists.1 c.requires.lists.2 in
    front_within kind section parts lists extents runs all ready new_parts moved views placed p c.loop-number.from c.front_size.result c.loop-number.bytes.items so_far c.loop-number-test.true c.index.result.now is c.front_size.ensures

pub overflow_add-end : goal.overflow_add-end
overflow_add-end c =
    let kind = c.args.kind in
    let section = c.args.section.now in
    let parts = c.args.parts.now in
    let extents = c.pieces.inside.lists.items in
    let runs = c.pieces.inside.runs.items in
    let all = c.pieces.inside.bytes.items in
    let lists = c.requires.lists.0 in
    let ready = ready_for kind section parts lists extents runs all c.pieces.invariant c.args.pieces.now c.pieces.view_is c.requires.lists.1 c.requires.lists.2 in
    let placeable = can_be_placed kind section parts lists extents runs all ready c.deref.result.now c.deref-2.result.now c.deref.ensures.value c.deref-2.ensures.value in
    let new_parts = c.in_ok-places.places.parts.items in
    let moved = c.in_ok-places.places.lists.items in
    let views = c.in_ok-places.places.views.items in
    let placed = c.in_ok-places.ensures lists placeable in
    let p = c.loop-number.number in
    let within : p < length new_parts = omega (arith, c.loop-number-test.true, placed.parts_count) in
    let is : c.index.result.now ≡ part_at new_parts p = get_or_read new_parts p _ within c.index.ensures no_part in
    let so_far = c.loop-number.invariant lists c.requires.lists.1 c.requires.lists.2 in
    let within = to_within kind section parts lists extents runs all ready new_parts moved views placed p c.loop-number.from c.front_size.result c.loop-number.bytes.items so_far c.loop-number-test.true c.index.result.now is c.front_size.ensures in
    omega (arith, within, c.pieces.inside.bytes.ok.0)

pub slice_bounds-extend_from_slice-end : goal.slice_bounds-extend_from_slice-end
slice_bounds-extend_from_slice-end c =
    let kind = c.args.kind in
    let section = c.args.section.now in
    let parts = c.args.parts.now in
    let extents = c.pieces.inside.lists.items in
    let runs = c.pieces.inside.runs.items in
    let all = c.pieces.inside.bytes.items in
    let lists = c.requires.lists.0 in
    let ready = ready_for kind section parts lists extents runs all c.pieces.invariant c.args.pieces.now c.pieces.view_is c.requires.lists.1 c.requires.lists.2 in
    let placeable = can_be_placed kind section parts lists extents runs all ready c.deref.result.now c.deref-2.result.now c.deref.ensures.value c.deref-2.ensures.value in
    let new_parts = c.in_ok-places.places.parts.items in
    let moved = c.in_ok-places.places.lists.items in
    let views = c.in_ok-places.places.views.items in
    let placed = c.in_ok-places.ensures lists placeable in
    let p = c.loop-number.number in
    let within : p < length new_parts = omega (arith, c.loop-number-test.true, placed.parts_count) in
    let is : c.index.result.now ≡ part_at new_parts p = get_or_read new_parts p _ within c.index.ensures no_part in
    let so_far = c.loop-number.invariant lists c.requires.lists.1 c.requires.lists.2 in
    let within = to_within kind section parts lists extents runs all ready new_parts moved views placed p c.loop-number.from c.front_size.result c.loop-number.bytes.items so_far c.loop-number-test.true c.index.result.now is c.front_size.ensures in
    let size : length c.deref-in-loop-number.result.now ≡ length all = ap length c.deref-in-loop-number.ensures.value in
    let below : c.loop-number.from + (c.index.result.now.len - c.front_size.result) ≤ length c.deref-in-loop-number.result.now = omega (arith, within, size) in
    below

pub loop-number-preserved : goal.loop-number-preserved
loop-number-preserved c = λ (lists : List ToWrite) (zip : AllZip (IsPieceOf c.args.kind) lists c.args.pieces.now) (can : CanBeWritten c.args.kind c.args.section.now c.args.parts.now lists).
    let kind = c.args.kind in
    let section = c.args.section.now in
    let parts = c.args.parts.now in
    let extents = c.pieces.inside.lists.items in
    let runs = c.pieces.inside.runs.items in
    let all = c.pieces.inside.bytes.items in
    let ready = ready_for kind section parts lists extents runs all c.pieces.invariant c.args.pieces.now c.pieces.view_is zip can in
    let placeable = can_be_placed kind section parts lists extents runs all ready c.deref.result.now c.deref-2.result.now c.deref.ensures.value c.deref-2.ensures.value in
    let new_parts = c.in_ok-places.places.parts.items in
    let moved = c.in_ok-places.places.lists.items in
    let views = c.in_ok-places.places.views.items in
    let placed = c.in_ok-places.ensures lists placeable in
    let p = c.loop-number.number in
    let within : p < length new_parts = omega (arith, c.loop-number-test.true, placed.parts_count) in
    let is : c.index.result.now ≡ part_at new_parts p = get_or_read new_parts p _ within c.index.ensures no_part in
    let so_far = c.loop-number.invariant lists zip can in
    let from = c.loop-number.from in
    let to = from + (c.index.result.now.len - c.front_size.result) in
    let a = c.put_header.new.out.items in
    let b = c.put_slots.new.out.items in
    let header : a ≡ c.loop-number.bytes.items ++ header_bytes (part_at new_parts p) = subst (λ (z : Contribution). a ≡ c.loop-number.bytes.items ++ header_bytes z) is c.in_ok-put_header.ensures in
    let slots : AreSlotsPut section (offsets_at (part_at parts p).at) (offsets_at (part_at new_parts p).at) moved (part_at parts p).slots a b =
    subst (λ (z : Contribution). AreSlotsPut section (offsets_at (part_at parts p).at) (offsets_at z.at) moved (part_at parts p).slots a b) is c.in_ok-put_slots.ensures in
    let copied : c.extend_from_slice.new.self.items ≡ b ++ take (to - from) (drop from all) = c.in_ok-extend_from_slice.ensures.items ∙ ap (λ (z : List ℕ). b ++ take (to - from) (drop from z)) c.deref-in-loop-number.ensures.value in
    copied_more kind section parts lists extents runs all ready new_parts moved views placed p c.loop-number.from c.front_size.result c.loop-number.bytes.items so_far c.loop-number-test.true c.index.result.now is c.front_size.ensures a b c.extend_from_slice.new.self.items header slots copied

pub returns : goal.returns
returns c = record {
  written = λ (lists : List ToWrite) (zip : AllZip (IsPieceOf c.args.kind) lists c.args.pieces.now) (can : CanBeWritten c.args.kind c.args.section.now c.args.parts.now lists).
      let kind = c.args.kind in
      let section = c.args.section.now in
      let parts = c.args.parts.now in
      let extents = c.pieces.inside.lists.items in
      let runs = c.pieces.inside.runs.items in
      let all = c.pieces.inside.bytes.items in
      let ready = ready_for kind section parts lists extents runs all c.pieces.invariant c.args.pieces.now c.pieces.view_is zip can in
      let placeable = can_be_placed kind section parts lists extents runs all ready c.deref.result.now c.deref-2.result.now c.deref.ensures.value c.deref-2.ensures.value in
      let new_parts = c.in_ok-places.places.parts.items in
      let moved = c.in_ok-places.places.lists.items in
      let views = c.in_ok-places.places.views.items in
      let placed = c.in_ok-places.ensures lists placeable in
      let upto = c.loop-number.invariant lists zip can in
      let all_parts : c.loop-number.number ≡ length parts = omega (arith, c.loop-number-test.false, c.loop-number.auto.number-end) in
      all_written kind section parts lists new_parts moved views can placed upto.first c.loop-number.bytes.items (subst (λ (z : ℕ). AreWrittenTo kind section parts lists new_parts moved z upto.first c.loop-number.bytes.items) all_parts upto.written);
}
