use Rattle.std.proofs.Common.{rules, ◌≡◌, ◌∙◌, ℕ, List, sym, ap, subst}
use Rattle.std.specs.Prelude.{Option, Bool, not}
use Rattle.expr_ops.specs.declared.names.Named.TheVariants.{SectionEntry}
use Rattle.value_links.specs.ListFaults.{IsAstrayIn}
use Rattle.value_links.specs.Reading.{Linkable}
use Rattle.value_links.specs.Parts.{HoldsParts}
use Rattle.value_links.proofs.ListOperations.{unowned_astray}
use Rattle.value_links.proofs.list_expressions.is_astray_in.Goals as goal

pub returns-then-eq-clause-astray : goal.returns-then-eq-clause-astray
returns-then-eq-clause-astray c = λ none (file : List ℕ) (r : Linkable) (holds : HoldsParts file r c.args.parts.now).
    let op = c.args.op.now in
    let is : c.named_by.result ≡ SectionEntry = search rules in
    subst (λ (z : Option ℕ). IsAstrayIn r z op.code op.a) (sym c.in-None.is) (unowned_astray r op.code op.a c.section_entry.result (sym c.named_by.ensures ∙ is) (c.is_none.ensures ∙ ap (λ (b : Bool). not b) none) (c.section_entry.ensures file r holds))
