use Rattle.std.proofs.Common.{◌≡◌, ◌≤◌, ◌<◌, ◌∙◌, ℕ, List, length, false, sym, subst, arith}
use Rattle.form_codec.specs.Forms.{Meaning}
use Rattle.form_codec.specs.Values.{meant_in}
use Rattle.entry_read.specs.Units.{declarations_of}
use Rattle.value_links.specs.Contexts.{is_low_pc}
use Rattle.value_links.specs.inside.Checks.{root_attributes}
use Rattle.value_links.proofs.Passing.{none_further, none_whole}
use Rattle.value_links.proofs.contexts.first_low_pc.Goals as goal

pub returns-then-gives_address : goal.returns-then-gives_address
returns-then-gives_address c =
    let section : List ℕ = c.args.unit.now.forest.section in
    let named = c.root_attribute-named.result in
    record {
      attribute = (named.0, meant_in section named.1);
      is = sym (c.gives_address.ensures section) ∙ c.if-gives_address.true;
      stands = c.root_attribute-named.ensures;
      first = c.loop-column.invariant;
    }

pub loop-column-preserved : goal.loop-column-preserved
loop-column-preserved c =
    let section : List ℕ = c.args.unit.now.forest.section in
    let attributes : List (ℕ × Meaning) = root_attributes c.args.unit.now.forest (declarations_of c.args.table.now) in
    let named = c.root_attribute-named.result in
    let other : is_low_pc (named.0, meant_in section named.1) ≡ false = sym (c.gives_address.ensures section) ∙ c.if-gives_address.false in
    let count : c.root_count-column-end.result ≡ length attributes = c.root_count-column-end.ensures c.args.table.now c.requires in
    let inside : c.loop-column.column < length attributes = subst (λ (z : ℕ). c.loop-column.column < z) count c.loop-column-test.true in
    none_further is_low_pc attributes c.loop-column.column (named.0, meant_in section named.1) c.root_attribute-named.ensures c.loop-column.invariant inside other

pub returns : goal.returns
returns c =
    let attributes : List (ℕ × Meaning) = root_attributes c.args.unit.now.forest (declarations_of c.args.table.now) in
    let count : c.root_count-column-end.result ≡ length attributes = c.root_count-column-end.ensures c.args.table.now c.requires in
    let end : length attributes ≤ c.loop-column.column = omega arith in
    none_whole is_low_pc attributes c.loop-column.column c.loop-column.invariant end
