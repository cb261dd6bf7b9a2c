use Rattle.std.proofs.Common.{rules, ◌≡◌, ◌%◌, arith, max, sym, ℕ, ap, ◌∙◌}
use Rattle.elf_place.proofs.Multiples.{multiple-le}
use Rattle.elf_place.proofs.spots.next_multiple.Goals as goal

pub returns-clause-next : goal.returns-clause-next
returns-clause-next c =
    let next = c.next_multiple_of.ensures in
    let is : c.max.result ≡ max c.args.align 1 = search rules in
    let whole : c.next_multiple_of.result % max c.args.align 1 ≡ 0 = ap (λ (a : ℕ). c.next_multiple_of.result % a) (sym is) ∙ next.multiple in
    record {
      from = next.lower_bound;
      multiple = whole;
      least = λ other above divides. multiple-le (max c.args.align 1) other c.next_multiple_of.result divides whole (omega arith);
    }
