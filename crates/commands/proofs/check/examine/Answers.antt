use Rattle.std.proofs.Common.{◌≤◌, ◌∙◌, ◌-◌, ◌^◌, length, arith}
use Rattle.commands.proofs.Fronts.{short_front}
use Rattle.commands.proofs.check.examine.Goals as goal

pub returns-in_err-judge-clause-said : goal.returns-in_err-judge-clause-said
returns-in_err-judge-clause-said g c = c.read_file-3.ensures.said ∙ c.read_file-2.ensures.said ∙ c.read_file.ensures.said

pub returns-clause-said : goal.returns-clause-said
returns-clause-said g c = c.read_file-3.ensures.said ∙ c.read_file-2.ensures.said ∙ c.read_file.ensures.said

pub returns-clause-answer : goal.returns-clause-answer
returns-clause-answer g c =
    let file = c.in_ok-file.file.items in
    let written = c.in_ok-written.written.items in
    let cert = c.in_ok-cert.cert in
    let same = c.read_file.ensures.files in
    let again = c.read_file-2.ensures.files in
    let fits : length cert.items ≤ 2 ^ 63 - 1 = omega (arith, cert.ok.0) in
    let is = rw (c.deref.ensures.value, c.deref-2.ensures.value, c.deref-3.ensures.value) at c.in_ok-judge.ensures in
    (file, written, cert.items, c.in_ok-file.ensures.read, (λ b e. c.in_ok-written.ensures.read b (same c.args.output.now ∙ e)), (λ b e. short_front (2 ^ 63 - 1) cert.items b (c.in_ok-cert.ensures.read b (again c.args.certificate.now ∙ same c.args.certificate.now ∙ e)) fits), is)
