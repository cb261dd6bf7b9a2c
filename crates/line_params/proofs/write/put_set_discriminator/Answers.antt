use Rattle.std.proofs.Common.{◌≡◌, ◌∙◌}
use Rattle.std.proofs.lemmas.Result.{on_ok_weaker}
use Rattle.leb_codec.specs.Leb.{least_unsigned_len}
use Rattle.line_params.proofs.Written.{discriminator_written}
use Rattle.line_params.proofs.write.put_set_discriminator.Goals as goal

pub returns-clause-ok : goal.returns-clause-ok
returns-clause-ok c =
    let len : c.from.result ≡ least_unsigned_len c.args.value = c.from.ensures ∙ c.len_u.ensures.least in
    on_ok_weaker c.put_with_unsigned.result (discriminator_written c.args.value c.from.result c.args.out.now.items c.put_extended.new.out.items c.put_with_unsigned.new.out.items len c.in_ok-put_extended.ensures.ok) c.put_with_unsigned.ensures.ok
