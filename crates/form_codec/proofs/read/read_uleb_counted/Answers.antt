use Rattle.std.proofs.Common.{inr, refl}
use Rattle.form_codec.proofs.ReadLaws.{uleb_counted_read, cut_off}
use Rattle.form_codec.proofs.read.read_uleb_counted.Goals as goal

pub returns-then-head-bytes-clause-fault : goal.returns-then-head-bytes-clause-fault
returns-then-head-bytes-clause-fault c =
    inr (cut_off c.args.bytes.now c.args.at c.in-Ok.head.value c.in-Ok.head.end c.in-Ok.ensures.within.0 c.in-Ok.ensures.within.1 c.if-head-bytes.true c.in-Ok.ensures.read c.in-Ok.ensures.fits)

pub returns-else-head-bytes-clause-read : goal.returns-else-head-bytes-clause-read
returns-else-head-bytes-clause-read c =
    uleb_counted_read c.args.content c.args.bytes.now c.args.at c.in-Ok.head.value c.in-Ok.head.end c.of_content.result c.in-Ok.ensures.within.0 c.in-Ok.ensures.within.1 c.if-head-bytes.false c.in-Ok.ensures.read c.in-Ok.ensures.fits (c.of_content.ensures.means c.args.bytes.now) (c.of_content.ensures.placed c.args.at _ refl)
