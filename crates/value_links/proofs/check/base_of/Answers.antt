use Rattle.std.proofs.Common.{◌≡◌, ◌≤◌, ℕ, List, length, arith}
use Rattle.form_codec.specs.Forms.{Meaning}
use Rattle.form_codec.specs.Values.{meant_in}
use Rattle.entry_read.specs.Units.{declarations_of}
use Rattle.value_links.specs.inside.Checks.{root_attributes}
use Rattle.value_links.proofs.RootValues.{base_here, base_later, no_base}
use Rattle.value_links.proofs.check.base_of.Goals as goal

pub returns-in-Some : goal.returns-in-Some
returns-in-Some c =
    let section : List ℕ = c.args.unit.now.forest.section in
    let attributes : List (ℕ × Meaning) = root_attributes c.args.unit.now.forest (declarations_of c.args.table.now) in
    let named = c.root_attribute-named.result in
    base_here attributes c.loop-column.column (named.0, meant_in section named.1) c.root_attribute-named.ensures c.args.name c.in-Some.base c.loop-column.invariant (c.in-Some.ensures section)

pub loop-column-preserved : goal.loop-column-preserved
loop-column-preserved c =
    let section : List ℕ = c.args.unit.now.forest.section in
    let attributes : List (ℕ × Meaning) = root_attributes c.args.unit.now.forest (declarations_of c.args.table.now) in
    let named = c.root_attribute-named.result in
    base_later attributes c.loop-column.column (named.0, meant_in section named.1) c.root_attribute-named.ensures c.args.name c.loop-column.invariant (c.in_default.ensures section)

pub returns : goal.returns
returns c =
    let attributes : List (ℕ × Meaning) = root_attributes c.args.unit.now.forest (declarations_of c.args.table.now) in
    let count : c.root_count-column-end.result ≡ length attributes = c.root_count-column-end.ensures c.args.table.now c.requires in
    let end : length attributes ≤ c.loop-column.column = omega arith in
    no_base attributes c.args.name c.loop-column.column c.loop-column.invariant end
