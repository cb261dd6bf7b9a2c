use Rattle.std.proofs.Common.{◌≡◌, ◌≤◌, ◌<◌, ◌+◌, ◌∙◌, ℕ, List, sym, ap, subst, arith}
use Rattle.entry_arena.specs.Arena.{Arena, entry_at}
use Rattle.entry_arena.specs.declared.entry.Entry.{Entry}
use Rattle.entry_read.specs.Units.{HeadAndForest}
use Rattle.form_codec.specs.declared.value.Value.{Value}
use Rattle.rewriter.specs.inside.Held.{AreNumbersUpTo, IsNumberOf, entry_in, name_in}
use Rattle.rewriter.proofs.Links.{own_is}
use Rattle.rewriter.proofs.Counting.{numbers_more}
use Rattle.rewriter.proofs.numbers.push_numbers.Goals as goal

pub name_of-name-requires-clause-column : goal.name_of-name-requires-clause-column
name_of-name-requires-clause-column c =
    let own = own_is c.args.world.now c.args.unit c.units.result.now.items c.index.result.now c.requires.entry.unit c.units.ensures c.index.ensures in
    let entry : c.entry-count.result ≡ entry_in c.args.world.now c.args.unit c.args.id = c.entry-count.ensures ∙ ap (λ (f : Arena). entry_at f.entries c.args.id) c.forest.ensures ∙ ap (λ (h : HeadAndForest). entry_at h.forest.entries c.args.id) own in
    let count : c.entry-count.result.count ≡ (entry_in c.args.world.now c.args.unit c.args.id).count = ap (λ (e : Entry). e.count) entry in
    let below : c.loop-column.column < c.entry-count.result.count = c.loop-column-test.true in
    omega arith

pub loop-column-preserved : goal.loop-column-preserved
loop-column-preserved c =
    let named = subst (λ (n : ℕ). IsNumberOf c.args.world.now c.args.places.now.items c.args.new_places.now c.args.unit c.args.id n c.value_of-value.result c.new_number-number.result) c.name_of-name.ensures c.new_number-number.ensures.number in
    let is = subst (λ (v : Value). IsNumberOf c.args.world.now c.args.places.now.items c.args.new_places.now c.args.unit c.args.id (name_in c.args.world.now c.args.unit c.args.id c.loop-column.column) v c.new_number-number.result) c.value_of-value.ensures named in
    subst (λ (z : List ℕ). AreNumbersUpTo c.args.world.now c.args.own.now c.args.places.now.items c.args.new_places.now c.args.unit c.args.id c.args.held.now.items z (c.loop-column.column + 1)) (sym c.in_ok-push.ensures.items) (numbers_more c.args.world.now c.args.own.now c.args.places.now.items c.args.new_places.now c.args.unit c.args.id c.args.held.now.items c.loop-column.held.items c.loop-column.column c.new_number-number.result c.loop-column.invariant c.new_number-number.ensures.fits is)

pub returns : goal.returns
returns c =
    let own = own_is c.args.world.now c.args.unit c.units.result.now.items c.index.result.now c.requires.entry.unit c.units.ensures c.index.ensures in
    let entry : c.entry-count.result ≡ entry_in c.args.world.now c.args.unit c.args.id = c.entry-count.ensures ∙ ap (λ (f : Arena). entry_at f.entries c.args.id) c.forest.ensures ∙ ap (λ (h : HeadAndForest). entry_at h.forest.entries c.args.id) own in
    let count : c.entry-count.result.count ≡ (entry_in c.args.world.now c.args.unit c.args.id).count = ap (λ (e : Entry). e.count) entry in
    let past : c.entry-count.result.count ≤ c.loop-column.column = c.loop-column-test.false in
    let most : c.loop-column.column ≤ c.entry-count.result.count = c.loop-column.auto.column-end in
    let same : c.loop-column.column ≡ (entry_in c.args.world.now c.args.unit c.args.id).count = omega arith in
    subst (AreNumbersUpTo c.args.world.now c.args.own.now c.args.places.now.items c.args.new_places.now c.args.unit c.args.id c.args.held.now.items c.loop-column.held.items) same c.loop-column.invariant
