use Rattle.std.proofs.Common.{◌≡◌, ℕ}
use Rattle.std.specs.Prelude.{Option, slice_get, Some}
use Rattle.std.proofs.lemmas.Result.{IfOk-weaker}
use Rattle.value_links.specs.Debug.{UnitMeaning}
use Rattle.same_meaning.specs.Differences.{DifferAt}
use Rattle.same_meaning.specs.inside.Compared.{OfMeanings, IsFirstFound}
use Rattle.same_meaning.proofs.UnitMeanings.{DifferIn, heads_there, entries_there}
use Rattle.same_meaning.proofs.units.first_of_unit.Goals as goal

pub returns-then-have_other_heads-clause-first : goal.returns-then-have_other_heads-clause-first
returns-then-have_other_heads-clause-first c =
    heads_there c.args.before.now c.args.after.now c.requires.before c.requires.after c.one_reading.ensures.reading c.args.unit c.requires.known c.requires.again c.have_other_heads.result c.have_other_heads.ensures c.if-have_other_heads.true

pub returns-clause-first : goal.returns-clause-first
returns-clause-first c =
    let a = c.args.before.now in
    let b = c.args.after.now in
    let u = c.args.unit in
    IfOk-weaker c.first_entry_in.result
    (λ (found : Option ℕ). OfMeanings a b (λ c d. (x y : UnitMeaning) → slice_get c.units u ≡ Some x → slice_get d.units u ≡ Some y → IsFirstFound (DifferAt x.forest y.forest) found))
    (λ (found : Option ℕ). OfMeanings a b (λ c d. IsFirstFound (DifferIn c d u) found))
    (λ (found : Option ℕ) entries. entries_there a b c.requires.before c.requires.after c.one_reading.ensures.reading u c.requires.known c.requires.again c.have_other_heads.result c.have_other_heads.ensures c.if-have_other_heads.false found entries)
    c.first_entry_in.ensures.first
