use Rattle.std.proofs.Common.{rules}
use Rattle.std.proofs.lemmas.List.Sorted.{answers_always}
use Rattle.list_lookup.proofs.AddressTables.{map_missing, map_found}
use Rattle.list_lookup.proofs.table_maps.TableMaps.of.Goals as goal

-- the closure gives a place
pub unreachable-requires : goal.unreachable-requires
unreachable-requires c =
    let parted = c.in-Err.ensures.position (λ named. named.at) (answers_always _ _ _ (λ f a r g called. search rules)) in
    map_missing c.requires.0 c.requires.1 c.args.self.now c.requires.2 c.args.context.now c.requires.3 c.in-Some.table c.in-Some.is c.deref.result.now c.deref.ensures.value c.in-Err.field-0 parted

pub returns : goal.returns
returns c = λ world addr are known.
    let equal = c.in-Ok.ensures.position (λ named. named.at) (answers_always _ _ _ (λ f a r g called. search rules)) in
    map_found world addr c.args.self.now are c.args.context.now known c.in-Some.table c.in-Some.is c.deref.result.now c.deref.ensures.value c.in-Ok.number c.in-Ok.ensures.bound equal c.index.result.now c.index.ensures
