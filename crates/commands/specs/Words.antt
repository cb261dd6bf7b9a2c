-- What the words of the command line ask for.
use Rattle.std.specs.Prelude.{ℕ, ◌^◌, ◌-◌, ◌⊎◌, ◌≡◌, List, [], ◌∷◌, Bool, Option, Some, None, not, ◌&&◌, if◌then◌else◌, nat_le, codes, map, String, string_bytes}
use Rattle.std.specs.Str.{bytes_eq}
use Rattle.std.specs.Str.Parse.{digits_value}
use Rattle.std.specs.Fmt.{decimal}
use Rattle.std.specs.declared.alloc.Global.{Global}

-- The names of three files: the one that is to be written anew, the one that is written for it, and its certificate. `shrink` reads the
-- first and writes the two others, and `check` reads all three.
pub record Names : Type 0 where
  pub input : List ℕ
  pub output : List ℕ
  pub certificate : List ℕ

-- the number from which a file is drawn, how many units it gets, and its name
pub record Drawing : Type 0 where
  pub number : ℕ
  pub units : ℕ
  pub output : List ℕ

-- to write a file anew, to say whether that was done as promised, to say what it would win, or to write a file that is drawn from a
-- number
pub data Command : Type 0 where
  Shrink : Names → Command
  Check : Names → Command
  Stat : List ℕ → Command
  Make : Drawing → Command

-- no two of the three names are the same
abbrev pub are_distinct : List ℕ → List ℕ → List ℕ → Bool
are_distinct input output certificate =
    not (bytes_eq input output) && not (bytes_eq input certificate) && not (bytes_eq output certificate)

-- the names of three files, no two of which are the same
abbrev pub shrink_in : List ℕ → List ℕ → List ℕ → Option Command
shrink_in input output certificate =
    if are_distinct input output certificate then Some (Shrink (record { input = input; output = output; certificate = certificate })) else None

abbrev pub check_in : List ℕ → List ℕ → List ℕ → Option Command
check_in input output certificate =
    if are_distinct input output certificate then Some (Check (record { input = input; output = output; certificate = certificate })) else None

-- The number that a word is in decimal, where it is in a range: in digits alone, of which 0 is the first in `0` alone.
unfoldable pub number_in : ℕ → ℕ → List ℕ → Option ℕ
number_in least most word =
    if bytes_eq word (decimal (digits_value 10 word)) && nat_le least (digits_value 10 word) && nat_le (digits_value 10 word) most then Some (digits_value 10 word) else None

-- two numbers and the name of a file
abbrev pub make_of : Option ℕ → Option ℕ → List ℕ → Option Command
make_of (Some number) (Some units) output = Some (Make (record { number = number; units = units; output = output }))
make_of _ _ output = None

-- a number of 32 bits, and 1 to 4,096 units
abbrev pub make_in : List ℕ → List ℕ → List ℕ → Option Command
make_in number units output = make_of (number_in 0 (2 ^ 32 - 1) number) (number_in 1 4096 units) output

abbrev pub command_in : List (List ℕ) → Option Command
command_in (verb ∷ a ∷ b ∷ c ∷ []) = if bytes_eq verb (codes "shrink") then shrink_in a b c else (if bytes_eq verb (codes "check") then check_in a b c else (if bytes_eq verb (codes "make") then make_in a b c else None))
command_in (verb ∷ input ∷ []) = if bytes_eq verb (codes "stat") then Some (Stat input) else None
command_in _ = None

-- the same of the words as they are kept
abbrev pub asked : List (String Global) → Option Command
asked words = command_in (map string_bytes words)

-- the file that is to be written anew, which is read, where one is
abbrev pub input_of : Command → Option (List ℕ)
input_of (Shrink names) = Some names.input
input_of (Check names) = Some names.input
input_of (Stat input) = Some input
input_of (Make drawing) = None

-- a file that is read
abbrev pub IsInput : Command → List ℕ → Type 0
IsInput (Shrink names) f = f ≡ names.input
IsInput (Check names) f = (f ≡ names.input) ⊎ ((f ≡ names.output) ⊎ (f ≡ names.certificate))
IsInput (Stat input) f = f ≡ input
IsInput (Make drawing) f = ⊥

-- a file that is written
abbrev pub IsOutput : Command → List ℕ → Type 0
IsOutput (Shrink names) f = (f ≡ names.output) ⊎ (f ≡ names.certificate)
IsOutput (Check names) f = ⊥
IsOutput (Stat input) f = ⊥
IsOutput (Make drawing) f = f ≡ drawing.output

-- this holds of the names, where a file is to be written anew
abbrev pub OfShrink : (Names → Type 0) → Command → Type 0
OfShrink P (Shrink names) = P names
OfShrink P (Check names) = Unit {0}
OfShrink P (Stat input) = Unit {0}
OfShrink P (Make drawing) = Unit {0}

-- this holds of the names, where three files are to be checked
abbrev pub OfCheck : (Names → Type 0) → Command → Type 0
OfCheck P (Shrink names) = Unit {0}
OfCheck P (Check names) = P names
OfCheck P (Stat input) = Unit {0}
OfCheck P (Make drawing) = Unit {0}

-- this holds of the name, where what that would win is to be said
abbrev pub OfStat : (List ℕ → Type 0) → Command → Type 0
OfStat P (Shrink names) = Unit {0}
OfStat P (Check names) = Unit {0}
OfStat P (Stat input) = P input
OfStat P (Make drawing) = Unit {0}

-- this holds of the numbers and the name, where a file is to be drawn
abbrev pub OfMake : (Drawing → Type 0) → Command → Type 0
OfMake P (Shrink names) = Unit {0}
OfMake P (Check names) = Unit {0}
OfMake P (Stat input) = Unit {0}
OfMake P (Make drawing) = P drawing
