use Rattle.std.proofs.Common.{◌≡◌, length, slice_index, ap, arith}
use Rattle.tidy_tables.specs.inside.WrittenTables.{place_in, IsBelowEarlier}
use Rattle.tidy_tables.proofs.TablePlaces.{early_more, early_fine, early_greatest, among_all}
use Rattle.tidy_tables.proofs.table_places.first_early.Goals as goal
use Rattle.tidy_tables.proofs.table_places.first_early.Goals.{then-number-greatest, else-number-greatest}

pub loop-number-preserved : goal.loop-number-preserved
loop-number-preserved c =
    let written = c.args.written.now.items in
    let tables = c.args.tables.now.items in
    let items = c.deref-number-items.result.now in
    let k = c.loop-number.number-index in
    let greatest = c.loop-number.greatest in
    let found = c.loop-number.least in
    let l = c.loop-number.invariant in
    record {
      least = elim c.if-number-greatest.branch [
        | then-number-greatest w ↦ early_more written tables c.requires items k greatest w.index.result.now found w.lesser-least.result c.if-number-greatest.least c.deref-number-items.ensures.value c.loop-number-test.true l.least l.greatest w.if-number-greatest.true w.index.ensures w.lesser-least.ensures w.least-is
        | else-number-greatest w ↦ early_fine written tables items k greatest found c.if-number-greatest.least c.deref-number-items.ensures.value l.least l.greatest w.if-number-greatest.false w.least-is
      ];
      greatest = early_greatest written tables items k greatest c.max-greatest.result c.deref-number-items.ensures.value l.greatest c.max-greatest.ensures;
    }

pub returns : goal.returns
returns c =
    let same : c.loop-number.number-index ≡ length c.args.written.now.items = omega (arith, ap length c.deref-number-items.ensures.value) in
    among_all (IsBelowEarlier c.args.written.now.items) (λ k. place_in c.args.tables.now.items (slice_index c.args.written.now.items k)) c.loop-number.number-index (length c.args.written.now.items) c.loop-number.least same c.loop-number.invariant.least
