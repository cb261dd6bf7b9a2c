use Rattle.std.proofs.Common.{rules, ◌≡◌, ◌≤◌, ◌<◌, ℕ, length, below_more, subst, refl, arith}
use Rattle.std.proofs.lemmas.List.{get_or_read_under}
use Rattle.form_codec.specs.declared.value.Value.{Value}
use Rattle.form_codec.specs.declared.value.Value.TheVariants as value
use Rattle.abbrev_tables.specs.Listings.{spec_at}
use Rattle.entry_arena.specs.Arena.{value_at}
use Rattle.unit_tests.proofs.WritableUnits.{IsSizedIn, have_sizes}
use Rattle.unit_tests.proofs.unit_write_write_tests.are_sized.Goals as goal

pub loop-place-preserved : goal.loop-place-preserved
loop-place-preserved c =
    let same : length c.args.columns.now ≡ length c.args.values.now = search rules in
    let column : c.loop-place.place < length c.args.columns.now = c.loop-place-test.true in
    let inside : c.loop-place.place < length c.args.values.now = omega arith in
    let read : c.index-values-place.result ≡ value_at c.args.values.now c.loop-place.place = get_or_read_under c.args.values.now c.loop-place.place (length c.args.values.now) _ (value.Addr 0) c.index-values-place.is inside refl in
    let sized : IsSizedIn (spec_at c.args.columns.now c.loop-place.place) c.index-values-place.result = c.is_sized.ensures c.if-not-is_sized.false in
    record {
      each = below_more (λ (k : ℕ). IsSizedIn (spec_at c.args.columns.now k) (value_at c.args.values.now k)) c.loop-place.place c.loop-place.invariant.each (subst (λ (v : Value). IsSizedIn (spec_at c.args.columns.now c.loop-place.place) v) read sized);
    }

pub returns : goal.returns
returns c = λ is.
    let same : length c.args.columns.now ≡ length c.args.values.now = search rules in
    let all : length c.args.columns.now ≤ c.loop-place.place = c.loop-place-test.false in
    have_sizes c.args.columns.now c.args.values.now same (λ k lt. c.loop-place.invariant.each k (omega arith))
