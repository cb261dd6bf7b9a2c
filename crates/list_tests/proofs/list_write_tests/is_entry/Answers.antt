use Rattle.std.proofs.Common.{refl, subst}
use Rattle.list_model.specs.declared.entry.Operand.{Operand}
use Rattle.list_least.specs.Shortest.{FitsOperand}
use Rattle.list_tests.proofs.list_write_tests.is_entry.Goals as goal

pub returns-then-fits : goal.returns-then-fits
returns-then-fits c = λ second.
    let raw = c.args.raw.now in
    record {
      entry = record { kind = c.in-Some.entry_kind; a = raw.a; b = raw.b };
      says = record { of_code = c.in-Some.ensures; of_a = refl; of_b = refl };
      fit = record {
        first = subst (λ (z : Operand). FitsOperand z raw.a) c.first_operand.ensures (c.fits.ensures c.if-fits.true);
        second = subst (λ (z : Operand). FitsOperand z raw.b) c.second_operand.ensures (c.fits-then-fits.ensures second);
      };
    }
