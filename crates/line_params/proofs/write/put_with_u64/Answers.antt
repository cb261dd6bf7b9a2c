use Rattle.std.proofs.Common.{[], ◌∷◌, ◌∙◌, ℕ, List, refl}
use Rattle.std.proofs.lemmas.List.{append-nil}
use Rattle.line_params.proofs.Written.{fixed_written, joined_pieces}
use Rattle.line_params.proofs.write.put_with_u64.Goals as goal

pub returns-clause-ok : goal.returns-clause-ok
returns-clause-ok c =
    let operand : List ℕ = c.write_u64.new.buf in (
      c.args.code ∷ operand,
      fixed_written c.args.code 8 c.args.value operand (c.args.code ∷ operand) (c.write_u64.ensures ∙ append-nil _) refl c.ranges.value.fits,
      joined_pieces c.args.out.now.items c.put_code.new.out.items c.extend_from_slice.new.self.items (c.args.code ∷ []) operand c.in_ok-put_code.ensures.ok c.in_ok-extend_from_slice.ensures.items,
    )
