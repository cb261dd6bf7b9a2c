use Rattle.std.proofs.lemmas.Result.{err_from_is_err_and, on_ok_weaker}
use Rattle.written_files.specs.Certificates.{IsCertificate, IsFirstCertificate}
use Rattle.verdict.specs.Accepts.{Accepts}
use Rattle.commands.specs.File.{IsWhole}
use Rattle.commands.proofs.Shrinks.{refusal_named, within_limit, valid_read, front_written, both_written, all_written, untouched_or_written, caused, no_fault}
use Rattle.commands.proofs.shrink.shrink.Given.{Over}
use Rattle.commands.proofs.shrink.shrink.Goals as goal

pub returns-in_err-written-clause-refused : goal.returns-in_err-written-clause-refused
returns-in_err-written-clause-refused g c =
    let p = err_from_is_err_and c.from_residual-in_err-written.result c.from_residual-in_err-written.ensures.1 in
    let refused = rw c.deref.ensures.value at c.in_err-written.ensures.refused in
    rw (p.1, p.2) (refusal_named (Unit {0}) _ _ _ c.in_ok-file.ensures.read refused)

pub returns-in_err-written-clause-long : goal.returns-in_err-written-clause-long
returns-in_err-written-clause-long g c = within_limit _ _ c.in_ok-file.ensures.long

pub returns-clause-long : goal.returns-clause-long
returns-clause-long g c = within_limit _ c.write_files.result c.in_ok-file.ensures.long

pub returns-clause-valid : goal.returns-clause-valid
returns-clause-valid g c =
    let valid = rw c.deref.ensures.value at c.in_ok-written.ensures.valid in
    valid_read _ _ c.write_files.result c.in_ok-file.ensures.read valid

whole : (g : Over) (c : goal.After-drop-file-2 g) → IsWhole c.args.classes c.in_ok-file.file.items c.in_ok-written.written.file.items
whole g c =
    let written = rw c.deref.ensures.value at c.in_ok-written.ensures in
    written.whole

pub returns-clause-written : goal.returns-clause-written
returns-clause-written g c =
    let bytes = g.H.Host.bytes in
    on_ok_weaker c.write_files.result (λ put. front_written (IsWhole c.args.classes) (bytes c.args.host.now) (bytes c.read_input.new.host) (bytes c.write_files.new.host) c.args.input.now c.args.output.now c.in_ok-file.file.items c.in_ok-written.written.file.items c.in_ok-file.ensures.read (whole g c) (c.read_input.ensures.files c.args.output.now) put) c.write_files.ensures.output

pub returns-clause-certified : goal.returns-clause-certified
returns-clause-certified g c =
    let bytes = g.H.Host.bytes in
    both_written (IsCertificate c.args.classes) (bytes c.args.host.now) (bytes c.read_input.new.host) (bytes c.write_files.new.host) c.args.output.now c.args.certificate.now c.in_ok-written.written.file.items c.in_ok-written.written.cert.items c.write_files.result c.in_ok-written.ensures.certified c.read_input.ensures.files c.write_files.ensures.output c.write_files.ensures.certificate

pub returns-clause-certified_first : goal.returns-clause-certified_first
returns-clause-certified_first g c =
    let bytes = g.H.Host.bytes in
    both_written (IsFirstCertificate c.args.classes) (bytes c.args.host.now) (bytes c.read_input.new.host) (bytes c.write_files.new.host) c.args.output.now c.args.certificate.now c.in_ok-written.written.file.items c.in_ok-written.written.cert.items c.write_files.result c.in_ok-written.ensures.certified_first c.read_input.ensures.files c.write_files.ensures.output c.write_files.ensures.certificate

pub returns-clause-accepted : goal.returns-clause-accepted
returns-clause-accepted g c =
    let bytes = g.H.Host.bytes in
    let written = rw c.deref.ensures.value at c.in_ok-written.ensures in
    all_written (Accepts c.args.classes) (bytes c.args.host.now) (bytes c.read_input.new.host) (bytes c.write_files.new.host) c.args.input.now c.args.output.now c.args.certificate.now c.in_ok-file.file.items c.in_ok-written.written.file.items c.in_ok-written.written.cert.items c.write_files.result c.in_ok-file.ensures.read written.accepted c.read_input.ensures.files c.write_files.ensures.output c.write_files.ensures.certificate

pub returns-clause-whole : goal.returns-clause-whole
returns-clause-whole g c =
    let bytes = g.H.Host.bytes in
    let faults = g.H.Host.write_faults in
    untouched_or_written (IsWhole c.args.classes) (bytes c.args.host.now) (bytes c.read_input.new.host) (bytes c.write_files.new.host) (faults c.args.host.now) (faults c.read_input.new.host) (faults c.write_files.new.host) c.args.input.now c.args.output.now c.args.certificate.now c.in_ok-file.file.items c.in_ok-written.written.file.items c.in_ok-file.ensures.read (whole g c) c.read_input.ensures.files c.read_input.ensures.writes c.write_files.ensures.whole

pub returns-clause-writes : goal.returns-clause-writes
returns-clause-writes g c =
    let faults = g.H.Host.write_faults in
    caused (faults c.args.host.now) (faults c.read_input.new.host) (faults c.write_files.new.host) c.args.output.now c.args.certificate.now c.write_files.result c.read_input.ensures.writes c.write_files.ensures.writes

pub returns-clause-faulty_kept : goal.returns-clause-faulty_kept
returns-clause-faulty_kept g c = λ file told faulty.
    let valid = rw c.deref.ensures.value at c.in_ok-written.ensures.valid in
    absurd (no_fault _ _ file c.in_ok-file.ensures.read valid told faulty)

pub returns-clause-faulty_unwritten : goal.returns-clause-faulty_unwritten
returns-clause-faulty_unwritten g c = λ file told faulty.
    let valid = rw c.deref.ensures.value at c.in_ok-written.ensures.valid in
    absurd (no_fault _ _ file c.in_ok-file.ensures.read valid told faulty)
