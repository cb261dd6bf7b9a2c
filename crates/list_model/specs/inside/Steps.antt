-- What one entry does in a walk over a list.
-- Inner functions and proofs alone need what stands here.
use Rattle.std.specs.Prelude.{◌≡◌, ℕ}
use Rattle.std.specs.List.{Contains}
use Rattle.dw_base.specs.declared.fault.Kind.{Kind}
use Rattle.list_model.specs.declared.context.Context.{Context}
use Rattle.list_model.specs.declared.entry.EntryKind.{EntryKind}
use Rattle.list_model.specs.declared.walk.Step.{Step}
use Rattle.list_model.specs.declared.walk.Step.TheVariants.{Between, Over}
use Rattle.list_model.specs.Items.{Fits, indexes_in, FaultIndex}
use Rattle.list_model.specs.Items.Bounds.{between}

-- an item from a start up to an end, which may be sums past 2^64 - 1
abbrev pub IsSpan : ℕ → ℕ → Step → Type 0
IsSpan start end (Between first last) = (first ≡ start) × (last ≡ end) × Fits (between start end)
IsSpan start end Over = ¬ Fits (between start end)
IsSpan start end _ = ⊥

-- one of the operands of an entry of a kind is an index that can't be looked up
abbrev pub AsksInVain : Context → EntryKind → ℕ → ℕ → Kind → Type 0
AsksInVain context kind a b fault = (index : ℕ) × Contains (indexes_in kind a b) index × FaultIndex context fault index
