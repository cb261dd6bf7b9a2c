-- View pairs, which are GNU's extension as this project understands it: two numbers for each of some locations of a list, in their
-- order, which stand together at a place of .debug_loclists.
use Rattle.std.specs.Prelude.{◌≡◌, ◌<◌, ◌+◌, ◌*◌, ◌^◌, ℕ, List, ◌++◌, length}
use Rattle.spelled.specs.Spelled.{Joined, Then}
use Rattle.leb_codec.specs.Leb.{Uleb, IsShort, IsWideUnsigned, least_unsigned_len}
use Rattle.dw_base.specs.declared.fault.Kind.{Kind}
use Rattle.dw_base.specs.declared.fault.Kind.TheVariants.{Limit, Short, LebWide}
use Rattle.list_model.specs.declared.contribution.Contribution.{Contribution}
use Rattle.list_model.specs.Contributions.{bytes_from}
use Rattle.loc_lists.specs.declared.views.ViewPair.{ViewPair}

-- two numbers in ULEB128, with padding or without, one after the other
abbrev pub SpellsPair : ViewPair → List ℕ → Type 0
SpellsPair pair bytes = Then Uleb (λ _. Uleb) (pair.first, pair.last) bytes

-- and they have no byte too many
abbrev pub ShortestPair : ViewPair → List ℕ → Type 0
ShortestPair pair bytes = SpellsPair pair bytes × (length bytes ≡ least_unsigned_len pair.first + least_unsigned_len pair.last)

-- these pairs stand at a place of the contribution
pub record IsRunAt (section : List ℕ) (part : Contribution) (at : ℕ) (pairs : List ViewPair) : Type 0 where
  pub run : List ℕ
  pub rest : List ℕ
  pub spelled : Joined SpellsPair pairs run
  pub whole : bytes_from section part at ≡ run ++ rest

-- The bytes, which go on to the end of the contribution, don't begin with a number.
abbrev pub FaultView : Kind → List ℕ → Type 0
FaultView Short bytes = IsShort bytes
FaultView LebWide bytes = IsWideUnsigned bytes
FaultView kind bytes = ⊥

-- One of so many pairs at a place has a fault: after some numbers, which are fewer than two for each pair, another isn't there. The
-- place of the fault is that number's.
pub record FaultRun (section : List ℕ) (part : Contribution) (at count : ℕ) (kind : Kind) (place : ℕ) : Type 0 where
  pub before : List ℕ
  pub front : List ℕ
  pub rest : List ℕ
  pub fewer : length before < 2 * count
  pub spelled : Joined Uleb before front
  pub fault : FaultView kind rest
  pub whole : bytes_from section part at ≡ front ++ rest
  pub here : place ≡ at + length front

-- the most view pairs that a run may have, and all runs of a file together
abbrev pub view_limit : ℕ
view_limit = 2 ^ 24

-- So many pairs at a place have a fault: they are too many, which is said of the place, or one of them has it.
abbrev pub FaultViews : List ℕ → Contribution → ℕ → ℕ → Kind → ℕ → Type 0
FaultViews section part at count Limit place = (place ≡ at) × (view_limit < count)
FaultViews section part at count kind place = FaultRun section part at count kind place
