use Rattle.std.proofs.Common.{◌≡◌, ◌≤◌, ◌<◌, ℕ, List, length, take, get_or, ap, subst}
use Rattle.std.proofs.lemmas.List.{take_all}
use Rattle.tidy_tables.specs.inside.ColumnValues.{AreGathered}
use Rattle.tidy_tables.proofs.ColumnEntries.{unit_held, unit_room, gathered_more, gathered_none}
use Rattle.tidy_tables.proofs.column_values.ColumnValues.gather.Goals as goal

pub loop-number-init : goal.loop-number-init
loop-number-init c = gathered_none c.args.units.now.items c.args.table.now c.args.named.now.items c.in_ok-held.held (length c.specs.result.now) (ap length c.specs.ensures) c.in_ok-held.ensures.wide c.in_ok-held.ensures.few c.in_ok-held.ensures.none

pub add_unit-requires-clause-unit : goal.add_unit-requires-clause-unit
add_unit-requires-clause-unit c =
    let n : ℕ = c.loop-number.number-index in
    let number : ℕ = get_or c.deref-number-items.result.now n 0 in
    let listed : c.deref-number-items.result.now ≡ c.args.named.now.items = c.deref-number-items.ensures.value in
    let inside : n < length c.args.named.now.items = subst (λ (z : List ℕ). n < length z) listed c.loop-number-test.true in
    unit_held c.args.units.now.items c.args.table.now c.args.named.now.items c.requires.named.0 c.requires.named.1 n inside number (ap (λ (z : List ℕ). get_or z n 0) listed) c.index.result.now c.index.ensures

pub add_unit-requires-clause-room : goal.add_unit-requires-clause-room
add_unit-requires-clause-room c =
    let n : ℕ = c.loop-number.number-index in
    let number : ℕ = get_or c.deref-number-items.result.now n 0 in
    let listed : c.deref-number-items.result.now ≡ c.args.named.now.items = c.deref-number-items.ensures.value in
    let inside : n < length c.args.named.now.items = subst (λ (z : List ℕ). n < length z) listed c.loop-number-test.true in
    unit_room c.args.units.now.items c.args.table.now c.args.named.now.items c.requires.named.0 c.requires.named.1 n inside number (ap (λ (z : List ℕ). get_or z n 0) listed) c.index.result.now c.index.ensures c.loop-number.held c.loop-number.invariant

pub loop-number-preserved : goal.loop-number-preserved
loop-number-preserved c =
    let n : ℕ = c.loop-number.number-index in
    let number : ℕ = get_or c.deref-number-items.result.now n 0 in
    let listed : c.deref-number-items.result.now ≡ c.args.named.now.items = c.deref-number-items.ensures.value in
    let inside : n < length c.args.named.now.items = subst (λ (z : List ℕ). n < length z) listed c.loop-number-test.true in
    gathered_more c.args.units.now.items c.args.table.now c.args.named.now.items c.requires.named.0 c.requires.named.1 n inside number (ap (λ (z : List ℕ). get_or z n 0) listed) c.index.result.now c.index.ensures c.loop-number.held c.loop-number.invariant c.add_unit.new.self c.in_ok-add_unit.ensures

pub returns : goal.returns
returns c =
    let named = c.args.named.now.items in
    let listed : c.deref-number-items.result.now ≡ named = c.deref-number-items.ensures.value in
    let past : length named ≤ c.loop-number.number-index = subst (λ (z : List ℕ). length z ≤ c.loop-number.number-index) listed c.loop-number-test.false in
    let all : take c.loop-number.number-index named ≡ named = take_all c.loop-number.number-index named past in
    subst (λ (z : List ℕ). AreGathered c.args.units.now.items c.args.table.now named z c.loop-number.held) all c.loop-number.invariant
