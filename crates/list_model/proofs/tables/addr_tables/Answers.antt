use Rattle.std.proofs.Common.{◌≡◌, ◌≤◌, ◌∙◌, ℕ, List, length, sym, ap, subst}
use Rattle.list_model.specs.declared.tables.AddrTable.{AddrTable}
use Rattle.fixed_width.specs.InitialLengths.{unit_end}
use Rattle.list_model.specs.Addresses.{TablesFollow}
use Rattle.list_model.proofs.Walking.{follow_push}
use Rattle.list_model.proofs.tables.addr_tables.Goals as goal

pub loop-at-preserved : goal.loop-at-preserved
loop-at-preserved c =
    let addr = c.args.addr.now in
    let table = c.in-Ok.table in
    let place : table.at ≡ c.loop-at.at = c.in-Ok.ensures.table.0 in
    let stands = c.in-Ok.ensures.table.1 in
    let next : c.place_of-at.result ≡ unit_end addr table.at = c.place_of-at.ensures ∙ stands.filled in
    let more = follow_push addr c.loop-at.tables.items table 0 c.loop-at.at c.loop-at.invariant.follow place stands in
    record {
      inside = subst (λ (z : ℕ). z ≤ length addr) (sym next) stands.whole.inside;
      follow = subst (λ (z : List AddrTable). TablesFollow addr z 0 c.place_of-at.result) (sym c.in_ok-push.ensures) (subst (TablesFollow addr _ 0) (sym (next ∙ ap (unit_end addr) place)) more);
    }
