use Rattle.std.proofs.Common.{rules, ◌≡◌, ◌≤◌, ◌<◌, ◌-◌, ◌+◌, ◌^◌, ◌++◌, ℕ, List, length, ◌∙◌, arith, ap}
use Rattle.std.proofs.lemmas.Result.{on_ok_weaker}
use Rattle.spelled.specs.Spelled.{Appends}
use Rattle.entry_read.specs.declared.head.UnitHead.{UnitHead}
use Rattle.entry_read.specs.Units.{entries_at, declarations_of}
use Rattle.unit_write.specs.Moved.{new_values}
use Rattle.unit_write.specs.inside.Puts.{PutsEntry, PutsItems, header_bytes}
use Rattle.unit_write.proofs.UnitLaws.{room, unit_anew}
use Rattle.unit_write.proofs.PutLaws.{extends_more}
use Rattle.unit_write.proofs.write.put_unit.Goals as goal

pub overflow_sub-len : goal.overflow_sub-len
overflow_sub-len c =
    let at = c.requires.ends in
    let space : length c.args.out.now.items + 12 ≤ c.args.new.now.end = room c.args.unit.now c.args.decls.now c.args.specs.now c.args.numbers.now (new_values c.args.new.now) c.requires.writable (length c.args.out.now.items) c.args.new.now.end at.0 at.1 at.2 in
    let size : c.len.result ≡ length c.args.out.now.items = search rules in
    omega arith

pub overflow_sub-len-2 : goal.overflow_sub-len-2
overflow_sub-len-2 c =
    let at = c.requires.ends in
    let space : length c.args.out.now.items + 12 ≤ c.args.new.now.end = room c.args.unit.now c.args.decls.now c.args.specs.now c.args.numbers.now (new_values c.args.new.now) c.requires.writable (length c.args.out.now.items) c.args.new.now.end at.0 at.1 at.2 in
    let size : c.len.result ≡ length c.args.out.now.items = search rules in
    omega arith

pub returns-clause-ok : goal.returns-clause-ok
returns-clause-ok c = λ ds renumbered.
    let unit = c.args.unit.now in
    let new = c.args.new.now in
    let old : List ℕ = c.args.out.now.items in
    let at = c.requires.ends in
    let size : c.len.result ≡ length old = search rules in
    let len : new.end - c.len.result - 4 ≡ new.end - length old - 4 = ap (λ (n : ℕ). new.end - n - 4) size in
    let front : c.put_head.new.out.items ≡ old ++ header_bytes (new.end - c.len.result - 4) unit.head.kind new.table unit.head.extra new.type_offset = c.in_ok-put_head.ensures.ok ∙ ap (λ (h : UnitHead). old ++ header_bytes (new.end - c.len.result - 4) h.kind new.table h.extra new.type_offset) c.head.ensures in
    let wide : unit.head.extra < 2 ^ 64 = search rules in
    on_ok_weaker c.put_items.result (λ (put : Appends (PutsItems (PutsEntry c.args.decls.now c.args.specs.now c.args.numbers.now (new_values new) unit.forest) 0) at.2.whole.items c.put_head.new.out.items c.put_items.new.out.items). unit_anew unit c.args.decls.now c.args.specs.now c.args.numbers.now (new_values new) c.requires.writable c.requires.new new.table new.type_offset new.end (new.end - c.len.result - 4) old c.put_head.new.out.items c.put_items.new.out.items at.0 at.1 at.2 c.requires.fits c.requires.narrow.0 c.requires.narrow.1 wide c.requires.type_offset len front put ds renumbered)
    (c.put_items.ensures.ok at.2.values (declarations_of c.args.decls.now) (entries_at unit.head) at.2.place at.2.whole)

pub returns-clause-grows : goal.returns-clause-grows
returns-clause-grows c =
    let head = c.args.unit.now.head in
    extends_more c.args.out.now.items c.put_head.new.out.items c.put_items.new.out.items (header_bytes (c.args.new.now.end - c.len.result - 4) c.head.result.kind c.args.new.now.table c.head.result.extra c.args.new.now.type_offset, c.in_ok-put_head.ensures.ok) c.put_items.ensures.grows
