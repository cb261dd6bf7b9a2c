use Rattle.std.proofs.Common.{◌∙◌}
use Rattle.commands.specs.Words.{Names}
use Rattle.commands.specs.declared.check.Answer.{Answer}
use Rattle.commands.proofs.Checks.{ends_judged, ends_unread, read_on}
use Rattle.commands.proofs.Ends.{ends_from}
use Rattle.commands.proofs.check.check.Goals as goal

pub returns-in-Ok-clause-ends : goal.returns-in-Ok-clause-ends
returns-in-Ok-clause-ends g c =
    let host = g.H.Host in
    let n : Names = record { input = c.args.input.now; output = c.args.output.now; certificate = c.args.certificate.now } in
    let (file, written, cert, read_file, read_written, read_cert, is) = c.in-Ok.ensures.answer in
    let answer = rw (c.status.ensures.value, c.examine.ensures.says) at c.say.ensures.answer in
    let said = rw (c.status.ensures.value, c.examine.ensures.said, c.line.ensures) at c.say.ensures.said in
    let part = rw (c.examine.ensures.said, c.line.ensures) at c.say.ensures.part in
    ends_judged c.args.classes c.first_faults_decide.ensures (host.bytes c.args.host.now) n file written cert c.in-Ok.answer (host.said c.args.host.now) (host.said c.say.new.host) (host.read_faults c.args.host.now) (host.read_faults c.say.new.host) (host.say_faults c.args.host.now) (host.say_faults c.say.new.host) c.say.result read_file read_written read_cert is answer said part (λ f. c.say.ensures.reads f ∙ c.in-Ok.ensures.reads f)

pub returns-in-Err-clause-ends : goal.returns-in-Err-clause-ends
returns-in-Err-clause-ends g c =
    let host = g.H.Host in
    let n : Names = record { input = c.args.input.now; output = c.args.output.now; certificate = c.args.certificate.now } in
    let ends = ends_from c.in-Err.ending (host.said c.args.host.now) (host.said c.examine.new.host) (host.said c.end.new.host) (host.say_faults c.args.host.now) (host.say_faults c.examine.new.host) (host.say_faults c.end.new.host) c.end.result c.examine.ensures.said c.examine.ensures.says c.end.ensures.ends in
    let read = read_on Answer n c.in-Err.ending (host.read_faults c.args.host.now) (host.read_faults c.examine.new.host) (host.read_faults c.end.new.host) c.end.ensures.reads c.in-Err.ensures.reads in
    ends_unread Answer c.args.classes (host.bytes c.args.host.now) n c.in-Err.ending (host.said c.args.host.now) (host.said c.end.new.host) (host.read_faults c.args.host.now) (host.read_faults c.end.new.host) (host.say_faults c.args.host.now) (host.say_faults c.end.new.host) c.end.result read ends
