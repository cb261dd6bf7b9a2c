use Rattle.std.proofs.Common.{ℕ, List, take, subst, sym}
use Rattle.std.specs.Prelude.{pos}
use Rattle.std.proofs.lemmas.List.{take_more}
use Rattle.spelled.specs.Spelled.{Joined, Appends}
use Rattle.spelled.proofs.Joins.{appends_more}
use Rattle.abbrev_tables.specs.declared.decl.Spec.{Spec}
use Rattle.abbrev_tables.specs.Listings.{spec_at}
use Rattle.abbrev_tables.specs.Written.{ShortestColumn}
use Rattle.abbrev_tables.proofs.write.put_columns.Goals as goal

pub loop-column-preserved : goal.loop-column-preserved
loop-column-preserved c =
    let xs : List Spec = c.args.columns.now in
    let i : ℕ = c.loop-column.column-index in
    let more = appends_more ShortestColumn (take i xs) (spec_at xs i) c.args.out.now.items c.loop-column.out.items c.put_column.new.out.items c.loop-column.invariant.put c.in_ok-put_column.ensures in
    record { put = subst (λ (z : List Spec). Appends (Joined ShortestColumn) z c.args.out.now.items c.put_column.new.out.items) (sym (take_more xs i (record { name = 0; form = 0; constant = pos 0 }) c.loop-column-test.true)) more }
