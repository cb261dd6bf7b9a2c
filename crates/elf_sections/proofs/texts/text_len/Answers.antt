use Rattle.std.proofs.Common.{ℕ, ◌≤◌, length, rules, subst, sym}
use Rattle.std.proofs.lemmas.Map.Views.{All-insert_key}
use Rattle.elf_sections.specs.inside.Names.{IsTextEnd, AreTextEnds}
use Rattle.elf_sections.proofs.TextLaws.{text_until, text_runs_out}
use Rattle.elf_sections.proofs.texts.text_len.Goals as goal

pub returns-in_default-clause-len : goal.returns-in_default-clause-len
returns-in_default-clause-len c =
    let inside : c.args.at ≤ length c.args.bytes.now = search rules in
    text_runs_out c.args.bytes.now c.args.at inside c.in_default.ensures

pub returns-clause-len : goal.returns-clause-len
returns-clause-len c = text_until c.args.bytes.now c.args.at c.in-Some.end c.in-Some.ensures

pub returns-clause-ends : goal.returns-clause-ends
returns-clause-ends c =
    let all = All-insert_key _ (c.in-Some.end, c.args.at) (λ (pair : ℕ × ℕ). IsTextEnd c.args.bytes.now pair.1 pair.0) c.args.ends.now.keys c.requires c.in-Some.ensures in
    subst (AreTextEnds c.args.bytes.now) (sym c.in_ok-insert.ensures.keys) all
