use Rattle.std.proofs.Common.{◌∙◌, ap, subst}
use Rattle.spelled.specs.Spelled.{AreBytes}
use Rattle.value_links.specs.Sections.{body_named}
use Rattle.verdict.proofs.sections_are_bytes.Goals as goal

pub returns-clause-lines : goal.returns-clause-lines
returns-clause-lines c = subst AreBytes (c.section.ensures ∙ ap (body_named c.args.world.now.image) c.as_slice.ensures) c.bytes_are_small.ensures

pub returns-clause-addresses : goal.returns-clause-addresses
returns-clause-addresses c = subst AreBytes (c.section-2.ensures ∙ ap (body_named c.args.world.now.image) c.as_slice-2.ensures) c.bytes_are_small-2.ensures
