use Rattle.std.proofs.Common.{◌<◌, ℕ, List, length, refl, sym, subst}
use Rattle.list_model.specs.Addresses.{IsAddrTable}
use Rattle.list_least.specs.Maps.{pair_at}
use Rattle.value_links.specs.Sections.{debug_addr}
use Rattle.list_lookup.specs.Maps.{table_by}
use Rattle.list_lookup.proofs.AddressTables.{each_stands, map_more}
use Rattle.list_lookup.proofs.table_maps.TableMaps.new.Goals as goal

pub new-requires : goal.new-requires
new-requires c =
    let i : ℕ = c.loop-pair.pair-index in
    let same = c.deref-pair-items.ensures.value in
    let inside : i < length c.in_ok-named.named.items = subst (λ (z : List (ℕ × ℕ)). i < length z) same c.loop-pair-test.true in
    let stands = each_stands c.args.world.now c.requires.world.0 c.requires.world.1 c.in_ok-named.named.items c.in_ok-named.ensures i inside in
    let here = subst (λ (z : List (ℕ × ℕ)). IsAddrTable (debug_addr c.args.world.now.image) (table_by (pair_at z i))) (sym same) stands in
    subst (λ (z : List ℕ). IsAddrTable z (table_by (pair_at c.deref-pair-items.result.now i))) (sym c.requires.addr) here

pub loop-pair-preserved : goal.loop-pair-preserved
loop-pair-preserved c =
    let i : ℕ = c.loop-pair.pair-index in
    let pair = pair_at c.deref-pair-items.result.now i in
    map_more c.args.addr.now c.deref-pair-items.result.now i c.loop-pair.tables.items c.push.new.self.items (record { at = pair.0; map = c.in_ok-map.map }) c.loop-pair.invariant (record { at = refl; is = c.in_ok-map.ensures }) c.in_ok-push.ensures.items
