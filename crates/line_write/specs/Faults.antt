-- The faults of all line number programs of a section, as conditions on the bytes. Places count from the section's first byte.
use Rattle.std.specs.Prelude.{◌≡◌, ◌≤◌, ◌<◌, ◌+◌, ◌^◌, ◌⊎◌, ℕ, List, [], ◌∷◌, length}
use Rattle.dw_base.specs.declared.fault.Kind.{Kind}
use Rattle.dw_base.specs.declared.fault.Kind.TheVariants.{Limit}
use Rattle.line_machine.specs.declared.head.Head.{Head}
use Rattle.line_machine.specs.declared.registers.Row.{Row}
use Rattle.line_machine.specs.Rows.{GivesRows}
use Rattle.line_machine.specs.Heads.{IsHead, program_of}
use Rattle.line_machine.specs.Faults.{LineFault}
use Rattle.line_write.specs.Programs.{Follow}

-- the most rows that the programs of a section may have together
abbrev pub total_limit : ℕ
total_limit = 2 ^ 25

-- how many rows the programs of the heads have together
abbrev pub HaveRows : List ℕ → List Head → ℕ → Type 0
HaveRows section [] count = count ≡ 0
HaveRows section (head ∷ heads) count =
    (rows : List Row) × (others : ℕ) × GivesRows head (program_of section head) rows × HaveRows section heads others × (count ≡ length rows + others)

-- After units that are the section's front, another begins at a place and has a fault.
pub record FaultOfUnit (section : List ℕ) (kind : Kind) (place : ℕ) : Type 0 where
  pub heads : List Head
  pub at : ℕ
  pub front : Follow section heads 0 at
  pub inside : at < length section
  pub fault : LineFault section at kind place

-- With the program whose unit stands at a place the rows of all programs become too many.
pub record PassesTotal (section : List ℕ) (place : ℕ) : Type 0 where
  pub heads : List Head
  pub head : Head
  pub front : Follow section heads 0 head.at
  pub stands : IsHead section head
  pub before : ℕ
  pub counted : HaveRows section heads before
  pub rows : List Row
  pub given : GivesRows head (program_of section head) rows
  pub within : before ≤ total_limit
  pub past : total_limit < before + length rows
  pub here : place ≡ head.at

-- The line number programs of a section have a fault.
abbrev pub LinesFault : List ℕ → Kind → ℕ → Type 0
LinesFault section Limit place = FaultOfUnit section Limit place ⊎ PassesTotal section place
LinesFault section kind place = FaultOfUnit section kind place
