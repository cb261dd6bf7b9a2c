use Rattle.std.proofs.Common.{rules, ◌≡◌, ◌≢◌, ◌<◌, ◌^◌, ℕ, List, length, Bool, ◌∙◌, ap, subst}
use Rattle.std.specs.Bool.{IsTrue}
use Rattle.std.specs.List.{All}
use Rattle.std.proofs.lemmas.Result.{IfOk-weaker}
use Rattle.spelled.specs.Spelled.{AreBytes}
use Rattle.abbrev_tables.specs.declared.decl.Spec.{Spec}
use Rattle.entry_arena.specs.Arena.{Arena, entry_at}
use Rattle.unit_write.specs.Placing.{columns_of, values_in}
use Rattle.unit_write.specs.Moved.{IsWritable}
use Rattle.unit_tests.proofs.WritableUnits.{AreSizedIn, sized_writable}
use Rattle.unit_tests.proofs.unit_write_write_tests.is_writable.Goals as goal

pub returns : goal.returns
returns c =
    let unit = c.args.unit.now in
    let table = c.args.table.now in
    let specs : List Spec = c.args.specs.now.items in
    let numbers : List ℕ = c.args.numbers.now.items in
    let section : c.section.result.now ≡ unit.forest.section = c.section.ensures ∙ ap (λ (g : Arena). g.section) c.forest.ensures in
    let renewed : length specs ≡ length table.specs = search rules in
    let numbered : length numbers ≡ length table.decls = search rules in
    let used = subst (λ (z : List ℕ). All (λ (n : ℕ). n ≢ 0) z) c.deref.ensures.value (c.are_used.ensures c.if-not-are_used.false) in
    let few = subst (λ (z : List ℕ). length z < 2 ^ 63) section c.bytes_are_small.ensures.few in
    let small = subst AreBytes section c.bytes_are_small.ensures.small in
    let AreSized : List Spec → Type 0 = λ z. (id : ℕ) → id < length unit.forest.entries → ((entry_at unit.forest.entries id).decl < length table.decls) × AreSizedIn (columns_of table z (entry_at unit.forest.entries id).decl) (values_in unit.forest id) in
    IfOk-weaker c.entries_are_sized.result (λ (sized : Bool). IsTrue sized → AreSized c.deref-2.result.now) (λ (writable : Bool). IsTrue writable → IsWritable unit table specs numbers c.args.lens.now.items)
    (λ writable each is. sized_writable unit table specs numbers c.args.lens.now.items c.requires.lens.each c.requires.head c.requires.held numbered renewed used small few (subst AreSized c.deref-2.ensures.value (each is)))
    c.entries_are_sized.ensures
