use Rattle.std.proofs.Common.{ℕ, List, refl}
use Rattle.value_links.specs.Reading.{Linkable}
use Rattle.value_links.specs.Parts.{HoldsParts, lists_in}
use Rattle.value_links.proofs.PartLinks.{slot_link}
use Rattle.value_links.proofs.link.slot_at.Goals as goal

pub returns : goal.returns
returns c = λ (file : List ℕ) (r : Linkable) (holds : HoldsParts file r c.args.parts.now).
    let found = c.in_ok-part in
    let based = found.ensures.slot file r holds in
    slot_link file r c.args.parts.now holds c.args.kind (lists_in c.args.parts.now c.args.kind) refl c.args.unit c.args.index found.part found.slot based.0 based.1 found.ensures.known.1
