use Rattle.value_links.proofs.TableLaws.{places_are}
use Rattle.value_links.proofs.tables.table_places.Goals as goal

pub returns : goal.returns
returns c = places_are c.args.heads.now c.in_ok-places.places.items c.sort_unstable.new.self.items c.dedup.new.self.items c.in_ok-places.ensures c.sort_unstable.ensures.permutation c.sort_unstable.ensures.sorted c.dedup.ensures.filtered
