-- What the calls of a host do to what it holds and to its counts of faults.
use Rattle.std.specs.Prelude.{◌≡◌, ◌≢◌, ◌<◌, ◌≤◌, ◌+◌, ◌-◌, ◌^◌, ℕ, min, List, ◌++◌, length, take, drop, Bool, true, false, Option, Some, None, IsSome, option_map, Result, Ok, Err, ⊤}
use Rattle.dw_base.specs.declared.host.Stop.{Stop}
use Rattle.dw_base.specs.declared.host.Stop.TheVariants.{Failed, NoMemory}

-- a call answered `Failed`
abbrev pub has_failed : {T : Type 0} → Result T Stop → Bool
has_failed (Ok x) = false
has_failed (Err Failed) = true
has_failed (Err NoMemory) = false

-- a count has risen, or stands at the last value of its type
abbrev pub Rose : ℕ → ℕ → Type 0
Rose before now = min (before + 1) (2 ^ 64 - 1) ≤ now

-- A count that fits 64 bits goes on fitting them: it rises to the last value of its type at most, and stays there.
abbrev pub StaysFitting : ℕ → ℕ → Type 0
StaysFitting before now = before < 2 ^ 64 → now < 2 ^ 64

-- The counts of one kind over a call on one name. `told` has the bytes of the files that are told.
pub record HasCause {T : Type 0} (name : List ℕ) (told : List ℕ → Option (List ℕ)) (before now : List ℕ → ℕ) (result : Result T Stop) : Type 0 where
  pub later : (f : List ℕ) → before f ≤ now f
  pub fits : (f : List ℕ) → StaysFitting (before f) (now f)
  pub failed : has_failed result ≡ true → Rose (before name) (now name)
  pub still : has_failed result ≡ false → (f : List ℕ) → now f ≡ before f
  pub others : (f : List ℕ) → f ≢ name → IsSome (told f) → now f ≡ before f

-- the same of a count that has no name
pub record HasOneCause {T : Type 0} (before now : ℕ) (result : Result T Stop) : Type 0 where
  pub later : before ≤ now
  pub fits : StaysFitting before now
  pub failed : has_failed result ≡ true → Rose before now
  pub still : has_failed result ≡ false → now ≡ before

-- The first n of these bytes are those of the file from a place on, and n is 0 at its end alone.
abbrev pub IsPartRead : Option (List ℕ) → ℕ → List ℕ → ℕ → Type 0
IsPartRead None at into n = ⊤
IsPartRead (Some file) at into n =
    (take n into ≡ take n (drop at file)) × (n ≤ length file - at) × (at < length file → 0 < n)

-- what was said is followed by some front of the piece
abbrev pub AddsPart : Option (List ℕ) → List ℕ → Option (List ℕ) → Type 0
AddsPart old piece new = (k : ℕ) × (new ≡ option_map (λ b. b ++ take k piece) old)
