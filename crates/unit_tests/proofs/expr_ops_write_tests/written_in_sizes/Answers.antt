use Rattle.std.proofs.Common.{◌≡◌, ◌<◌, ◌^◌, ◌∙◌, ℕ, List, [], ◌∷◌, length, ap, sym, subst, arith}
use Rattle.std.proofs.lemmas.List.Elements.{All-nil, All-cons}
use Rattle.dw_base.specs.declared.fault.Reach.TheVariants.{Narrow}
use Rattle.expr_ops.specs.declared.op.Op.{Op}
use Rattle.expr_ops.specs.Expressions.{IsExpression}
use Rattle.expr_ops.specs.Nests.{Nest}
use Rattle.expr_ops.specs.Ops.{all_meant}
use Rattle.expr_ops.specs.Shortest.{shortest_length, shortest_sizes}
use Rattle.expr_ops.specs.Writing.{CanBeWritten}
use Rattle.expr_ops.proofs.PlainLaws.{expression_sized}
use Rattle.expr_ops.proofs.NextRefs.{AreSmall}
use Rattle.expr_ops.proofs.NeededFew.{shortest_less, shortest_written}
use Rattle.unit_tests.proofs.expr_ops_write_tests.written_in_sizes.Goals as goal

one_small : (n : ℕ) → n < 2 ^ 32 → AreSmall (n ∷ [])
one_small n small = All-cons (λ (x : ℕ). x < 2 ^ 32) n [] small (All-nil (λ (x : ℕ). x < 2 ^ 32))

few : (refs bytes : List ℕ) (ops : List Op) → IsExpression Narrow (all_meant bytes ops) bytes → AreSmall refs → length bytes < 100 → shortest_length refs (all_meant bytes ops) < 300
few refs bytes ops old small short =
    let less = shortest_less refs (all_meant bytes ops) small in
    let thrice = (expression_sized Narrow (all_meant bytes ops) bytes old).thrice in
    omega (arith, less, thrice, short)

pub sizes_of-requires-clause-nest : goal.sizes_of-requires-clause-nest
sizes_of-requires-clause-nest c =
    let old = c.in_ok-ops.ensures.read in
    subst (λ (z : List Op). Nest (all_meant c.args.bytes.now z)) (sym c.deref.ensures.value) (expression_sized Narrow (all_meant c.args.bytes.now c.in_ok-ops.ops.items) c.args.bytes.now old).nest

pub sizes_of-requires-clause-fits : goal.sizes_of-requires-clause-fits
sizes_of-requires-clause-fits c =
    let refs = c.from.result ∷ [] in
    let is = c.from.ensures in
    let fits = c.ranges.first.fits in
    let short = few refs c.args.bytes.now c.in_ok-ops.ops.items c.in_ok-ops.ensures.read (one_small c.from.result (omega (arith, is, fits))) c.requires in
    subst (λ (z : List Op). shortest_length refs (all_meant c.args.bytes.now z) < 2 ^ 64) (sym c.deref.ensures.value) (omega (arith, short))

pub write_expr-requires-clause-fits : goal.write_expr-requires-clause-fits
write_expr-requires-clause-fits c =
    let refs = c.from.result ∷ [] in
    let is = c.from.ensures in
    let fits = c.ranges.first.fits in
    let bytes = c.args.bytes.now in
    let ops = c.in_ok-ops.ops.items in
    let small = one_small c.from.result (omega (arith, is, fits)) in
    let old = c.in_ok-ops.ensures.read in
    let short = few refs bytes ops old small c.requires in
    let can : CanBeWritten refs (shortest_sizes refs (all_meant bytes ops)) bytes ops = shortest_written refs bytes ops old small (omega (arith, short)) in
    let same : c.deref-3.result.now ≡ shortest_sizes refs (all_meant bytes ops) = c.deref-3.ensures.value ∙ c.in_ok-sizes.ensures ∙ ap (λ (z : List Op). shortest_sizes refs (all_meant bytes z)) c.deref.ensures.value in
    subst (λ (z : List Op). CanBeWritten refs c.deref-3.result.now bytes z) (sym c.deref-2.ensures.value) (subst (λ (z : List ℕ). CanBeWritten refs z bytes ops) (sym same) can)
