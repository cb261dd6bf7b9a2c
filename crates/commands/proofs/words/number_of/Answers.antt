use Rattle.std.proofs.Common.{◌∙◌, refl, sym, true≢false, arith}
use Rattle.std.proofs.lemmas.Bool.{le-leb, lt-leb}
use Rattle.commands.proofs.InDecimal.{number_read, number_unread, number_unplain}
use Rattle.commands.proofs.words.number_of.Goals as goal

pub returns-in-Ok-clause-read : goal.returns-in-Ok-clause-read
returns-in-Ok-clause-read c =
    let plain = rw c.as_bytes.ensures.value at c.is_plain.ensures.0 c.if-is_plain.true in
    let read = rw c.in-Ok.is at c.parse.ensures.value.0 in
    let low = le-leb c.args.least c.in-Ok.number c.if-least-number.true in
    let high = le-leb c.in-Ok.number c.args.most c.if-number-most.true in
    sym (number_read c.args.least c.args.most c.in-Ok.number c.args.word.now (read.0.0, read.1) (omega (arith, read.0.1, read.1)) plain.0 plain.1 ∙ rw (low, high) refl)

pub returns-in_default-clause-read : goal.returns-in_default-clause-read
returns-in_default-clause-read c =
    let plain = rw c.as_bytes.ensures.value at c.is_plain.ensures.0 c.if-is_plain.true in
    let read = rw c.in-Ok.is at c.parse.ensures.value.0 in
    let low = le-leb c.args.least c.in-Ok.number c.if-least-number.true in
    let high = lt-leb c.in-Ok.number c.args.most c.if-number-most.false in
    sym (number_read c.args.least c.args.most c.in-Ok.number c.args.word.now (read.0.0, read.1) (omega (arith, read.0.1, read.1)) plain.0 plain.1 ∙ rw (low, high) refl)

pub returns-in_default-2-clause-read : goal.returns-in_default-2-clause-read
returns-in_default-2-clause-read c =
    let plain = rw c.as_bytes.ensures.value at c.is_plain.ensures.0 c.if-is_plain.true in
    let read = rw c.in-Ok.is at c.parse.ensures.value.0 in
    let low = lt-leb c.args.least c.in-Ok.number c.if-least-number.false in
    sym (number_read c.args.least c.args.most c.in-Ok.number c.args.word.now (read.0.0, read.1) (omega (arith, read.0.1, read.1)) plain.0 plain.1 ∙ rw low refl)

pub returns-in_default-3-clause-read : goal.returns-in_default-3-clause-read
returns-in_default-3-clause-read c =
    sym (number_unplain c.args.least c.args.most c.args.word.now (omega arith) (λ plain. true≢false (sym (c.is_plain.ensures.1 (rw c.as_bytes.ensures.value plain)) ∙ c.if-is_plain.false)))

pub returns-in_default-4-clause-read : goal.returns-in_default-4-clause-read
returns-in_default-4-clause-read c =
    let unread = rw c.in_default.is at c.parse.ensures.value.0 in
    sym (number_unread c.args.least c.args.most c.args.word.now (omega arith) unread)
