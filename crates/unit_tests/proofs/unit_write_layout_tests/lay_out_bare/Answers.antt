use Rattle.std.proofs.Common.{rules, ◌≡◌, length, refl}
use Rattle.dw_base.specs.declared.fault.Reach.TheVariants.{Narrow}
use Rattle.unit_tests.proofs.BareUnits.{bare_always, one_reference}
use Rattle.unit_tests.proofs.unit_write_layout_tests.lay_out_bare.Goals as goal

pub slots_of-requires-clause-operations : goal.slots_of-requires-clause-operations
slots_of-requires-clause-operations c = (Narrow, c.requires.operations)

pub slots_of-requires-clause-writable : goal.slots_of-requires-clause-writable
slots_of-requires-clause-writable c =
    let codes = c.if-not-are_codes.ensures in
    let none : length c.args.unit.now.forest.values ≡ 0 = search rules in
    bare_always c.args.unit.now c.args.table.now c.new-specs.result.items c.in_ok-numbers.numbers.items none c.requires.held (codes.bare refl) c.new-specs.ensures.items (codes.numbered refl) c.requires.head (codes.used refl)

pub slots_of-requires-clause-lists : goal.slots_of-requires-clause-lists
slots_of-requires-clause-lists c =
    let there = c.if-not-is_there.ensures in
    one_reference c.args.unit.now c.args.drawn.fixed c.args.drawn.target (there.small refl) (there.inside refl) (there.behind refl)

pub lay_out-requires-clause-writable : goal.lay_out-requires-clause-writable
lay_out-requires-clause-writable c =
    let codes = c.if-not-are_codes.ensures in
    let none : length c.args.unit.now.forest.values ≡ 0 = search rules in
    bare_always c.args.unit.now c.args.table.now c.new-specs.result.items c.in_ok-numbers.numbers.items none c.requires.held (codes.bare refl) c.new-specs.ensures.items (codes.numbered refl) c.requires.head (codes.used refl)

pub lay_out-requires-clause-lists : goal.lay_out-requires-clause-lists
lay_out-requires-clause-lists c =
    let there = c.if-not-is_there.ensures in
    one_reference c.args.unit.now c.args.drawn.fixed c.args.drawn.target (there.small refl) (there.inside refl) (there.behind refl)
