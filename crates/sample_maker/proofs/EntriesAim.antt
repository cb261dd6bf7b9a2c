-- What the entries of a generated file refer to is there.
use Rattle.std.proofs.Common.{◌≤◌, ◌<◌, ◌+◌, ℕ, List, length, get_or, sym, subst, arith}
use Rattle.std.specs.List.{All, Contains}
use Rattle.std.proofs.lemmas.List.Elements.{All-contains}
use Rattle.entry_arena.specs.declared.entry.Target.TheVariants.{Entry as TheEntry}
use Rattle.entry_arena.specs.declared.entry.Entry.{Entry}
use Rattle.value_links.specs.Reading.{UnitRead, Linkable}
use Rattle.value_links.specs.Linked.{IsLocalTarget, IsTargetAt}
use Rattle.sample_maker.specs.Drawn.{UnitDrawn}
use Rattle.sample_maker.specs.inside.Bytes.{part_bytes}
use Rattle.sample_maker.specs.inside.Files.{locations_bytes, ranges_bytes}
use Rattle.sample_maker.specs.inside.Small.{IsUnitSmall}
use Rattle.sample_maker.specs.inside.ReadLists.{part_read, BlockPlaced, unit_blocks, ParameterPlaced, unit_parameters, IsBlockRead, IsParameterRead}
use Rattle.sample_maker.specs.inside.ReadUnits.{unit_part}
use Rattle.sample_maker.specs.inside.ReadFile.{links_of, UnitPlaced, placed_at, EntryPlaced, entries_placed}
use Rattle.sample_maker.specs.inside.ReadFile.EntryPlaced.{TheRoot, TheFunction, TheParameter, TheBlock, TheType}
use Rattle.sample_maker.proofs.ReadAllLists.{blocks_read, parameters_read}
use Rattle.sample_maker.proofs.UnitsPlaced.{unit_is, program_is, block_among, parameter_among}
use Rattle.sample_maker.proofs.PlacedEntries.{Stands, IsPlaced, type_stands, each_placed}
use Rattle.sample_maker.proofs.EntriesLink.{HasAims, HasType}

module _ (units : List UnitDrawn) (small : All IsUnitSmall units) (few : length units ≤ 4096) where
  abbrev r : Linkable
  r = links_of units

  -- the list of each block and of each parameter is read
  pub block_read : (b : BlockPlaced) → Contains (unit_blocks 0 0 units) b → IsBlockRead (part_bytes (ranges_bytes 0 units)) (part_read (ranges_bytes 0 units)) b
  block_read b one = All-contains (IsBlockRead (part_bytes (ranges_bytes 0 units)) (part_read (ranges_bytes 0 units))) (unit_blocks 0 0 units) b (blocks_read units small few) one

  pub parameter_read : (q : ParameterPlaced) → Contains (unit_parameters 0 0 units) q → IsParameterRead (part_bytes (locations_bytes units)) (part_read (locations_bytes units)) q
  parameter_read q one = All-contains (IsParameterRead (part_bytes (locations_bytes units)) (part_read (locations_bytes units))) (unit_parameters 0 0 units) q (parameters_read units small few) one

  module _ (u : ℕ) (inside : u < length units) where
    abbrev p : UnitPlaced
    p = placed_at units u

    abbrev es : List Entry
    es = (unit_part p.at u p.program p.locations p.ranges p.unit).entries

    target : (id n : ℕ) → Stands es id (p.at + n) → IsLocalTarget r u n (TheEntry id)
    target id n stands = subst (λ (z : UnitRead). IsTargetAt z.forest (TheEntry id) (z.head.at + n)) (sym (unit_is units small few u inside)) stands

    has_type : HasType r u p
    has_type = target _ _ (type_stands u p)

    aims_of : (e : EntryPlaced) → IsPlaced u p es e → HasAims r u p e
    aims_of TheRoot is = program_is units small few u inside
    aims_of (TheFunction f) is = (has_type, target _ _ is.sibling)
    aims_of (TheParameter q) is =
        let read = parameter_read q (parameter_among units u q inside is.one) in
        (has_type, (omega arith, read.begins), (omega arith, read.views_begin))
    aims_of (TheBlock b) is = (omega arith, (block_read b (block_among units u b inside is.one)).begins)
    aims_of TheType is = tt

    pub all_aims : All (HasAims r u p) (entries_placed u p)
    all_aims = λ k d lt. aims_of (get_or (entries_placed u p) k d) (each_placed u p k d lt)
