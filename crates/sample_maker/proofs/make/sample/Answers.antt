use Rattle.std.proofs.Common.{◌≤◌, sym, subst, ℕ}
use Rattle.std.proofs.lemmas.Result.{IfOk-weaker}
use Rattle.dw_base.specs.declared.fault.Reach.TheVariants.{Narrow}
use Rattle.value_links.specs.Debug.{Means}
use Rattle.value_links.specs.Faults.{IsValid}
use Rattle.sample_maker.specs.Drawn.{units_drawn}
use Rattle.sample_maker.specs.Generated.{Generated}
use Rattle.sample_maker.proofs.SmallDraws.{units_small, units_counted}
use Rattle.sample_maker.proofs.UnitLengths.{sections_fit}
use Rattle.sample_maker.proofs.FileDrawn.{drawn_valid, drawn_means}
use Rattle.sample_maker.proofs.make.sample.Goals as goal

pub write_file-requires : goal.write_file-requires
write_file-requires c =
    sections_fit (units_drawn c.args.number c.args.units) c.in_ok-sections.sections (units_small c.args.number c.args.units) (subst (λ (n : ℕ). n ≤ 4096) (sym (units_counted c.args.number c.args.units)) c.requires) c.in_ok-sections.ensures

pub returns-clause-valid : goal.returns-clause-valid
returns-clause-valid c =
    IfOk-weaker c.write_file.result _ (λ file. IsValid file.items Narrow) (λ file is. drawn_valid c.args.number c.args.units c.requires c.in_ok-sections.sections c.in_ok-sections.ensures file.items is c.valid_files.ensures.whole) c.write_file.ensures

pub returns-clause-means : goal.returns-clause-means
returns-clause-means c =
    IfOk-weaker c.write_file.result _ (λ file. Means file.items (Generated c.args.number c.args.units)) (λ file is. drawn_means c.args.number c.args.units c.requires c.in_ok-sections.sections c.in_ok-sections.ensures file.items is) c.write_file.ensures
