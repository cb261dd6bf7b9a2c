use Rattle.std.proofs.Common.{◌≡◌, ◌≤◌, ◌∙◌, List, length, get_or, Bool, true, true≢false, nat_eq, eq-eqb, refl, sym, ap, arith}
use Rattle.std.specs.Prelude.{not, ◌&&◌}
use Rattle.std.proofs.lemmas.List.{ext_get_or}
use Rattle.loc_lists.specs.declared.views.ViewPair.{ViewPair}
use Rattle.same_meaning.proofs.ListItems.{answers_no}
use Rattle.same_meaning.proofs.values.have_same_pairs.Goals as goal

never_same : (v w : ViewPair) (other : Bool) → other ≡ not (nat_eq v.first w.first && nat_eq v.last w.last) → other ≡ true → v ≡ w → ⊥
never_same v w other is said same =
    let first : nat_eq v.first w.first ≡ true = eq-eqb v.first w.first (ap (λ (z : ViewPair). z.first) same) in
    let last : nat_eq v.last w.last ≡ true = eq-eqb v.last w.last (ap (λ (z : ViewPair). z.last) same) in
    true≢false (sym said ∙ is ∙ ap (λ (b : Bool). not (b && nat_eq v.last w.last)) first ∙ ap (λ (b : Bool). not (true && b)) last)

pub returns-then-ne : goal.returns-then-ne
returns-then-ne c = λ d. answers_no (λ same.
    let none : ViewPair = record { first = 0; last = 0 } in
    let alike = c.pair.ensures d none ∙ ap (λ (z : List ViewPair). get_or z c.loop-i.i none) same ∙ sym (c.pair-in-loop-i.ensures d none) in
    never_same c.pair.result c.pair-in-loop-i.result c.ne.result c.ne.ensures c.if-ne.true alike)

pub returns : goal.returns
returns c = λ d.
    let first : List ViewPair = (get_or c.args.before.now c.args.first d).pairs in
    let second : List ViewPair = (get_or c.args.after.now c.args.second d).pairs in
    let size : length first ≡ length second = omega (arith, c.pair_count-count.ensures d, c.pair_count.ensures d) in
    let most : length first ≤ c.loop-i.i = omega (arith, c.pair_count-count.ensures d) in
    (λ yes. ext_get_or (record { first = 0; last = 0 }) first second size (λ k inside. c.loop-i.invariant k d _ (omega arith)), λ same. refl)
