use Rattle.std.proofs.Common.{◌≡◌, ◌≤◌, ◌<◌, ◌+◌, ◌∙◌, ℕ, List, length, take, get_or, arith, ap, sym, subst}
use Rattle.std.proofs.lemmas.List.{take_all}
use Rattle.abbrev_tables.specs.declared.decl.Spec.{Spec}
use Rattle.column_forms.specs.TableColumns.{AreTalliesOf, HaveNames, AreBestFor}
use Rattle.abbrev_tables.specs.Listings.{spec_at}
use Rattle.rewriter.specs.inside.Columns.{names_of, values_of_units}
use Rattle.rewriter.proofs.ColumnUnits.{unit_held, unit_room, gathered_more, gathered_none}
use Rattle.rewriter.proofs.columns.best_columns.Goals as goal

pub loop-number-init : goal.loop-number-init
loop-number-init c = gathered_none c.args.units.now.items c.args.table.now c.args.named.now.items c.in_ok-tallies.tallies (c.in_ok-tallies.ensures.count ∙ ap length c.specs-specs.ensures) c.in_ok-tallies.ensures.none

pub add_unit-requires-clause-unit : goal.add_unit-requires-clause-unit
add_unit-requires-clause-unit c =
    let n : ℕ = c.loop-number.number-index in
    let number : ℕ = get_or c.deref-number-items.result.now n 0 in
    let listed : c.deref-number-items.result.now ≡ c.args.named.now.items = c.deref-number-items.ensures.value in
    let inside : n < length c.args.named.now.items = subst (λ (z : List ℕ). n < length z) listed c.loop-number-test.true in
    unit_held c.args.units.now.items c.args.table.now c.args.named.now.items c.requires.named.0 c.requires.named.1 n inside number (ap (λ (z : List ℕ). get_or z n 0) listed) c.index.result.now c.index.ensures

pub add_unit-requires-clause-room : goal.add_unit-requires-clause-room
add_unit-requires-clause-room c =
    let n : ℕ = c.loop-number.number-index in
    let number : ℕ = get_or c.deref-number-items.result.now n 0 in
    let listed : c.deref-number-items.result.now ≡ c.args.named.now.items = c.deref-number-items.ensures.value in
    let inside : n < length c.args.named.now.items = subst (λ (z : List ℕ). n < length z) listed c.loop-number-test.true in
    unit_room c.args.units.now.items c.args.table.now c.args.named.now.items c.requires.named.0 c.requires.named.1 n inside number (ap (λ (z : List ℕ). get_or z n 0) listed) c.index.result.now c.index.ensures c.loop-number.tallies c.loop-number.tallies c.loop-number.invariant

pub loop-number-preserved : goal.loop-number-preserved
loop-number-preserved c =
    let n : ℕ = c.loop-number.number-index in
    let number : ℕ = get_or c.deref-number-items.result.now n 0 in
    let listed : c.deref-number-items.result.now ≡ c.args.named.now.items = c.deref-number-items.ensures.value in
    let inside : n < length c.args.named.now.items = subst (λ (z : List ℕ). n < length z) listed c.loop-number-test.true in
    gathered_more c.args.units.now.items c.args.table.now c.args.named.now.items c.requires.named.0 c.requires.named.1 n inside number (ap (λ (z : List ℕ). get_or z n 0) listed) c.index.result.now c.index.ensures c.loop-number.tallies c.add_unit.new.tallies c.loop-number.invariant c.in_ok-add_unit.ensures.added

pub returns : goal.returns
returns c = λ section are.
    let units = c.args.units.now.items in
    let decls = c.args.table.now.decls in
    let named = c.args.named.now.items in
    let listed : c.deref-number-items.result.now ≡ named = c.deref-number-items.ensures.value in
    let past : length named ≤ c.loop-number.number-index = subst (λ (z : List ℕ). length z ≤ c.loop-number.number-index) listed c.loop-number-test.false in
    let all : take c.loop-number.number-index named ≡ named = take_all c.loop-number.number-index named past in
    let tallied = subst (λ (z : List ℕ). AreTalliesOf section (names_of c.args.table.now.specs) (values_of_units units decls z) c.loop-number.tallies) all (c.loop-number.invariant.tallied section are) in
    let named_so : HaveNames (names_of c.args.table.now.specs) 0 c.specs-specs.result.now = λ j below. (let first : 0 + j ≡ j = omega arith in ap (names_of c.args.table.now.specs) first ∙ ap (λ (cs : List Spec). (spec_at cs j).name) (sym c.specs-specs.ensures)) in
    subst (λ (z : List Spec). AreBestFor c.args.classes section (values_of_units units decls named) z c.in_ok-best.field-0.items) c.specs-specs.ensures (c.in_ok-best.ensures section (names_of c.args.table.now.specs) (values_of_units units decls named) named_so tallied)
