use Rattle.written_files.specs.Written.{IsWrittenAnew}
use Rattle.commands.proofs.anew.rewrite_held.Goals as goal

pub returns-clause-whole : goal.returns-clause-whole
returns-clause-whole c =
    let file = c.args.world.image in
    let w = c.in_ok-written.ensures in
    let anew : IsWrittenAnew c.args.classes file c.in_ok-written.written.file.items = record { valid = c.requires.world.valid; still_valid = w.still_valid; same = w.same; least = w.least; lists = w.lists; columns = w.columns; codes = w.codes; codes_order = w.codes_order; tidy = w.tidy; placed = w.placed } in
    let layouts = c.written_slots.ensures.least c.args.classes file c.in_ok-written.written.file.items anew w.layouts in
    record { same = w.same; still_valid = w.still_valid; least = w.least; order = w.order; lists = w.lists; columns = w.columns; columns_order = w.columns_order; codes = w.codes; codes_order = w.codes_order; layouts = layouts; tidy = w.tidy; placed = w.placed }

pub returns-clause-accepted : goal.returns-clause-accepted
returns-clause-accepted c =
    let file = c.args.world.image in
    let w = c.in_ok-written.ensures in
    let anew : IsWrittenAnew c.args.classes file c.in_ok-written.written.file.items = record { valid = c.requires.world.valid; still_valid = w.still_valid; same = w.same; least = w.least; lists = w.lists; columns = w.columns; codes = w.codes; codes_order = w.codes_order; tidy = w.tidy; placed = w.placed } in
    c.written_are_accepted.ensures c.args.classes file c.in_ok-written.written.file.items c.in_ok-written.written.cert.items anew w.certified
