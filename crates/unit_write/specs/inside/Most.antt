-- That there is room for a unit that is written anew.
use Rattle.std.specs.Prelude.{◌<◌, ◌+◌, ◌^◌, ℕ, List, length}
use Rattle.std.specs.List.{All}
use Rattle.form_codec.specs.declared.value.Value.{Value}
use Rattle.form_codec.specs.Values.{IsValueIn}
use Rattle.abbrev_tables.specs.declared.decl.Spec.{Spec}
use Rattle.fixed_width.specs.InitialLengths.{least_reserved}
use Rattle.unit_write.specs.declared.items.Next.{Next}
use Rattle.unit_write.specs.declared.items.Next.TheVariants.{Entry as TheEntry, End as TheEnd}
use Rattle.unit_write.specs.Values.{HaveSize}

-- the values of some section, written in these columns from a place on, end below the lengths that are reserved
pub record HaveRoom (columns : List Spec) (values : List Value) (lens : List ℕ) (at : ℕ) : Type 0 where
  pub section : List ℕ
  pub few : length section < 2 ^ 63
  pub valued : All (IsValueIn section) values
  pub size : ℕ
  pub sized : HaveSize section columns values lens size
  pub below : at + size < least_reserved

-- so does what stands next in a unit
abbrev pub HasRoom : (ℕ → ℕ → Type 0) → Next → ℕ → Type 0
HasRoom Size (TheEntry id) at = (size : ℕ) × Size id size × (at + size < least_reserved)
HasRoom Size TheEnd at = at + 1 < least_reserved
