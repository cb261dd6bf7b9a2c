use Rattle.std.proofs.Common.{◌≤◌, ◌↔◌, ℕ, List, IsTrue, refl, sym, subst}
use Rattle.std.proofs.lemmas.Bool.{false≢true}
use Rattle.leb_codec.specs.Numbering.{numbering_size}
use Rattle.tidy_tables.specs.inside.Codes.{codes_in, HasNoUse}
use Rattle.tidy_tables.proofs.CodeLaws.{unused_answer, least_answer}
use Rattle.tidy_tables.proofs.codes.take_least.Goals as goal

pub returns-then-has_no_use : goal.returns-then-has_no_use
returns-then-has_no_use c =
    unused_answer c.args.table.now c.requires.known c.args.uses.now.items c.requires.count (subst HasNoUse c.deref.ensures.value (c.if-has_no_use.ensures.0 refl))

pub returns : goal.returns
returns c =
    let uses = c.args.uses.now.items in
    let numbers = c.in_ok-numbers.numbers.items in
    let codes = codes_in c.args.table.now in
    let used : HasNoUse uses → ⊥ = λ none. false≢true (c.if-has_no_use.ensures.1 (subst HasNoUse (sym c.deref.ensures.value) none)) in
    let here = subst (λ (z : List ℕ). IsTrue c.take_no_more.result ↔ (numbering_size z codes ≤ numbering_size z c.deref-3.result.now)) c.deref-2.ensures.value c.take_no_more.ensures in
    let there = subst (λ (z : List ℕ). IsTrue c.take_no_more.result ↔ (numbering_size uses codes ≤ numbering_size uses z)) c.deref-3.ensures.value here in
    least_answer c.args.table.now c.requires.known uses c.requires.count numbers c.take_no_more.result used c.in_ok-numbers.ensures.least there
