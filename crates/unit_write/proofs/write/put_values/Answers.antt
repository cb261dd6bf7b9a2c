use Rattle.std.proofs.Common.{◌≡◌, ◌≤◌, ◌<◌, ◌+◌, ◌^◌, ℕ, List, length, get_or, ◌∙◌, sym, ap, refl, subst, arith}
use Rattle.std.proofs.lemmas.Grind.{get_or_default_zero}
use Rattle.std.proofs.lemmas.List.Elements.{All-get_or}
use Rattle.spelled.specs.Spelled.{Appends}
use Rattle.form_codec.specs.declared.value.Value.{Value}
use Rattle.form_codec.specs.declared.value.Value.TheVariants as value
use Rattle.form_codec.specs.Values.{meant_in, LiesIn}
use Rattle.abbrev_tables.specs.Listings.{spec_at}
use Rattle.entry_arena.specs.Arena.{value_at}
use Rattle.entry_read.specs.Short.{IsWritten}
use Rattle.unit_write.specs.Values.{HasSize}
use Rattle.unit_write.specs.NewExpressions.{begin_of, made_of}
use Rattle.unit_write.specs.Moved.{new_values}
use Rattle.unit_write.specs.inside.Puts.{renewed_at}
use Rattle.unit_write.proofs.PutLaws.{value_put, value_as, value_read, all_put, sized_lengths, size_at}
use Rattle.unit_write.proofs.write.put_values.Goals as goal

pub bounds-values-place : goal.bounds-values-place
bounds-values-place c =
    let same : length c.args.columns.now ≡ length c.args.values.now = sized_lengths c.args.section.now c.args.columns.now c.args.values.now c.requires.sized.0 c.requires.sized.1 c.requires.sized.2 in
    omega (arith, c.loop-place-test.true)

pub put_value-requires-clause-sized : goal.put_value-requires-clause-sized
put_value-requires-clause-sized c =
    let read : c.index-values-place.result ≡ value_at c.args.values.now c.loop-place.place = value_read c.args.section.now c.args.columns.now c.args.values.now c.requires.sized.0 c.requires.sized.1 c.loop-place.place c.index-values-place.result c.requires.sized.2 c.loop-place-test.true c.index-values-place.is in
    subst (λ (v : Value). (len : ℕ) × (size : ℕ) × HasSize (spec_at c.args.columns.now c.loop-place.place) (meant_in c.args.section.now v) len size) (sym read) (size_at c.args.section.now c.args.columns.now c.args.values.now c.requires.sized.0 c.requires.sized.1 c.loop-place.place c.requires.sized.2 c.loop-place-test.true)

pub put_value-requires-clause-inside : goal.put_value-requires-clause-inside
put_value-requires-clause-inside c =
    let same : length c.args.columns.now ≡ length c.args.values.now = sized_lengths c.args.section.now c.args.columns.now c.args.values.now c.requires.sized.0 c.requires.sized.1 c.requires.sized.2 in
    let inside : c.loop-place.place < length c.args.values.now = omega (arith, c.loop-place-test.true) in
    let read : c.index-values-place.result ≡ value_at c.args.values.now c.loop-place.place = value_read c.args.section.now c.args.columns.now c.args.values.now c.requires.sized.0 c.requires.sized.1 c.loop-place.place c.index-values-place.result c.requires.sized.2 c.loop-place-test.true c.index-values-place.is in
    subst (λ (v : Value). LiesIn (length c.args.section.now) v) (sym read) (All-get_or (LiesIn (length c.args.section.now)) c.args.values.now c.loop-place.place (value.Addr 0) inside c.requires.inside)

pub loop-place-preserved : goal.loop-place-preserved
loop-place-preserved c =
    let same : length c.args.columns.now ≡ length c.args.values.now = sized_lengths c.args.section.now c.args.columns.now c.args.values.now c.requires.sized.0 c.requires.sized.1 c.requires.sized.2 in
    let column : c.loop-place.place < length c.args.columns.now = c.loop-place-test.true in
    let value : c.loop-place.place < length c.args.values.now = omega arith in
    let anew = new_values c.args.new.now in
    let number : ℕ = c.args.first + c.loop-place.place in
    let read : c.index-values-place.result ≡ value_at c.args.values.now c.loop-place.place = value_read c.args.section.now c.args.columns.now c.args.values.now c.requires.sized.0 c.requires.sized.1 c.loop-place.place c.index-values-place.result c.requires.sized.2 column c.index-values-place.is in
    let held : length c.args.new.now.held.items ≡ c.requires.new.0 = c.requires.new.1.numbers in
    let lt : number < length c.args.new.now.held.items = omega (arith, c.requires.new.2) in
    let n : c.index.result.now ≡ get_or c.args.new.now.held.items number 0 = c.index.ensures ∙ get_or_default_zero c.args.new.now.held.items number c.index.result.now lt in
    let made : c.made_for-made.result.now ≡ made_of c.args.new.now.expressions.ends.items c.args.new.now.expressions.bytes.items number = c.made_for-made.ensures ∙ ap (λ (z : List ℕ). made_of z c.deref-in-loop-place.result.now number) c.deref.ensures.value ∙ ap (λ (z : List ℕ). made_of c.args.new.now.expressions.ends.items z number) c.deref-in-loop-place.ensures.value in
    let put : Appends (IsWritten (spec_at c.args.columns.now c.loop-place.place)) (renewed_at anew number (meant_in c.args.section.now (value_at c.args.values.now c.loop-place.place))) c.loop-place.out.items c.put_value.new.out.items = value_as (spec_at c.args.columns.now c.loop-place.place) c.args.section.now c.index.result.now _ c.made_for-made.result.now _ c.index-values-place.result _ c.loop-place.out.items c.put_value.new.out.items n made read c.in_ok-put_value.ensures.ok in
    record { put = value_put c.args.section.now anew c.args.first c.args.columns.now c.args.values.now c.loop-place.place number c.args.out.now.items c.loop-place.out.items c.put_value.new.out.items c.loop-place.invariant.put refl column value put }

pub returns-clause-ok : goal.returns-clause-ok
returns-clause-ok c =
    let same : length c.args.columns.now ≡ length c.args.values.now = sized_lengths c.args.section.now c.args.columns.now c.args.values.now c.requires.sized.0 c.requires.sized.1 c.requires.sized.2 in
    let column : length c.args.columns.now ≤ c.loop-place.place = c.loop-place-test.false in
    let value : length c.args.values.now ≤ c.loop-place.place = omega arith in
    all_put c.args.section.now (new_values c.args.new.now) c.args.first c.args.columns.now c.args.values.now c.loop-place.place c.args.out.now.items c.loop-place.out.items c.loop-place.invariant.put column value

pub made_for-made-requires-clause-number : goal.made_for-made-requires-clause-number
made_for-made-requires-clause-number c =
    let same : length c.args.columns.now ≡ length c.args.values.now = sized_lengths c.args.section.now c.args.columns.now c.args.values.now c.requires.sized.0 c.requires.sized.1 c.requires.sized.2 in
    let ends : length c.deref.result.now ≡ length c.args.new.now.expressions.ends.items = ap length c.deref.ensures.value in
    let each : length c.args.new.now.expressions.ends.items ≡ c.requires.new.0 = c.requires.new.1.each in
    omega (arith, c.loop-place-test.true, c.requires.new.2)

pub made_for-made-requires-clause-rising : goal.made_for-made-requires-clause-rising
made_for-made-requires-clause-rising c =
    let same : length c.args.columns.now ≡ length c.args.values.now = sized_lengths c.args.section.now c.args.columns.now c.args.values.now c.requires.sized.0 c.requires.sized.1 c.requires.sized.2 in
    let number : ℕ = c.args.first + c.loop-place.place in
    subst (λ (z : List ℕ). begin_of z number ≤ get_or z number 0) (sym c.deref.ensures.value) (c.requires.new.1.rising number (omega (arith, c.loop-place-test.true, c.requires.new.2)))

pub made_for-made-requires-clause-inside : goal.made_for-made-requires-clause-inside
made_for-made-requires-clause-inside c =
    let same : length c.args.columns.now ≡ length c.args.values.now = sized_lengths c.args.section.now c.args.columns.now c.args.values.now c.requires.sized.0 c.requires.sized.1 c.requires.sized.2 in
    let number : ℕ = c.args.first + c.loop-place.place in
    let bytes : length c.deref-in-loop-place.result.now ≡ length c.args.new.now.expressions.bytes.items = ap length c.deref-in-loop-place.ensures.value in
    let inside : get_or c.args.new.now.expressions.ends.items number 0 ≤ length c.args.new.now.expressions.bytes.items = c.requires.new.1.inside number (omega (arith, c.loop-place-test.true, c.requires.new.2)) in
    subst (λ (z : List ℕ). get_or z number 0 ≤ length c.deref-in-loop-place.result.now) (sym c.deref.ensures.value) (omega arith)

pub index-requires : goal.index-requires
index-requires c =
    let same : length c.args.columns.now ≡ length c.args.values.now = sized_lengths c.args.section.now c.args.columns.now c.args.values.now c.requires.sized.0 c.requires.sized.1 c.requires.sized.2 in
    let held : length c.args.new.now.held.items ≡ c.requires.new.0 = c.requires.new.1.numbers in
    omega (arith, c.loop-place-test.true, c.requires.new.2)

pub put_value-requires-clause-narrow : goal.put_value-requires-clause-narrow
put_value-requires-clause-narrow c =
    let same : length c.args.columns.now ≡ length c.args.values.now = sized_lengths c.args.section.now c.args.columns.now c.args.values.now c.requires.sized.0 c.requires.sized.1 c.requires.sized.2 in
    let number : ℕ = c.args.first + c.loop-place.place in
    let held : length c.args.new.now.held.items ≡ c.requires.new.0 = c.requires.new.1.numbers in
    subst (λ (z : ℕ). z < 2 ^ 32) (sym c.index.ensures) (c.requires.new.1.narrow number c.index.result.now (omega (arith, c.loop-place-test.true, c.requires.new.2)))
