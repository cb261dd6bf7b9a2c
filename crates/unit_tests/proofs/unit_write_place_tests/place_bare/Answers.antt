use Rattle.std.proofs.Common.{rules, ◌≡◌, length, ap, refl, ◌∙◌, sym}
use Rattle.std.proofs.lemmas.List.{nil_from_length}
use Rattle.unit_tests.proofs.BareUnits.{bare_writable, no_lens_fit}
use Rattle.unit_tests.proofs.unit_write_place_tests.place_bare.Goals as goal

pub place_unit-requires-clause-writable : goal.place_unit-requires-clause-writable
place_unit-requires-clause-writable c =
    let codes = c.if-not-are_codes.ensures in
    let none : length c.args.table.now.specs ≡ 0 = codes.bare refl in
    let renewed : length c.new.result.items ≡ length c.args.table.now.specs = ap length c.new.ensures.items ∙ sym none in
    bare_writable c.args.unit.now c.args.table.now c.new.result.items c.in_ok-numbers.numbers.items c.new-lens.result.items c.requires.held (nil_from_length c.args.table.now.specs none) c.new.ensures.items c.new-lens.ensures.items (codes.numbered refl) c.requires.head renewed (codes.used refl)

pub place_unit-requires-clause-lens : goal.place_unit-requires-clause-lens
place_unit-requires-clause-lens c =
    let none : length c.args.unit.now.forest.values ≡ 0 = search rules in
    no_lens_fit c.args.unit.now.forest c.new-lens.result.items c.new-lens.ensures.items none
