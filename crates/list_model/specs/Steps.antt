-- What one entry does in a walk over a list.
use Rattle.std.specs.Prelude.{ℕ, List}
use Rattle.list_model.specs.declared.context.Context.{Context}
use Rattle.list_model.specs.declared.entry.EntryKind.{EntryKind}
use Rattle.list_model.specs.declared.walk.Step.{Step}
use Rattle.list_model.specs.declared.walk.Step.TheVariants.{Base, Between, Elsewhere, Over}
use Rattle.list_model.specs.Items.{Bounds, SetsBase, HasBounds, Fits}
use Rattle.list_model.specs.Items.Bounds.{between, elsewhere}

-- This is what an entry of a kind, with these operands, does under a base in a walk over a list.
abbrev pub IsStep : List ℕ → Context → ℕ → EntryKind → ℕ → ℕ → Step → Type 0
IsStep addr context base kind a b (Base next) = SetsBase addr context kind a next
IsStep addr context base kind a b (Between start end) = HasBounds addr context base kind a b (between start end) × Fits (between start end)
IsStep addr context base kind a b Elsewhere = HasBounds addr context base kind a b elsewhere
IsStep addr context base kind a b Over = (item : Bounds) × HasBounds addr context base kind a b item × (¬ Fits item)
