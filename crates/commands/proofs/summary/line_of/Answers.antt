use Rattle.std.proofs.Common.{◌∙◌, ℕ, List, sym, subst}
use Rattle.dw_base.specs.declared.fault.Reach.TheVariants.{Wide}
use Rattle.value_links.specs.Faults.{IsValid}
use Rattle.commands.proofs.summary.line_of.Goals as goal

pub read_sizes-requires : goal.read_sizes-requires
read_sizes-requires c = subst (λ (bytes : List ℕ). IsValid bytes Wide) (sym c.deref.ensures.value) c.in_ok-written.ensures.whole.still_valid

pub returns-clause-valid : goal.returns-clause-valid
returns-clause-valid c = c.in_ok-world.ensures.world.valid

pub returns-clause-line : goal.returns-clause-line
returns-clause-line c =
    let file = c.args.file.now in
    let known = c.in_ok-world.ensures.world in
    let output = c.in_ok-written.written.file.items in
    let whole = rw known.holds.image at c.in_ok-written.ensures.whole in
    let (debug, means, counts) = rw known.holds.image at c.counts_of-counts.ensures in
    let old = rw (c.image.ensures ∙ known.holds.image) at c.sizes_of-old.ensures in
    let sizes = rw c.deref.ensures.value at c.in_ok-new.ensures in
    (output, debug, record { valid = known.valid; whole = whole; means = means }, c.in_ok-summary_line.ensures file output debug old sizes counts)
