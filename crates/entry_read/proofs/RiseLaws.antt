-- Units that tile a section rise.
use Rattle.std.proofs.Common.{◌+◌, ℕ, List, [], ◌∷◌, length}
use Rattle.entry_read.specs.declared.head.UnitHead.{UnitHead}
use Rattle.entry_read.specs.Heads.{Follow, no_head}
use Rattle.entry_read.specs.Places.{UnitsRise}
use Rattle.entry_read.proofs.Chained.{Chained, stand_apart, has_bytes, ends_by}
use Rattle.entry_read.proofs.Tiling.{head_len}

abbrev starts : UnitHead → ℕ
starts head = head.at

abbrev sizes : UnitHead → ℕ
sizes head = head.len

heads_chained : (section : List ℕ) (heads : List UnitHead) (a e : ℕ) → Follow section heads a e → Chained starts sizes heads a e
heads_chained section [] a e f = f
heads_chained section (h ∷ heads) a e (here, stands, rest) = (here, (head_len section h stands).1, heads_chained section heads (a + h.len) e rest)

pub units_rise : UnitsRise
units_rise info heads tiled =
    let chained : Chained starts sizes heads 0 (length info) = heads_chained info heads 0 (length info) tiled in
    record {
      filled = λ i inside. has_bytes starts sizes heads 0 (length info) i no_head chained inside;
      inside = λ i inside. ends_by starts sizes heads 0 (length info) i no_head chained inside;
      rising = λ i j less inside. stand_apart starts sizes heads 0 (length info) i j no_head chained less inside;
    }
