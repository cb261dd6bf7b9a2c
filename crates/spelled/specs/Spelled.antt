-- Things that are spelled by bytes, one after the other. A relation `Spells` says which bytes spell a value.
-- Bytes are numbers below 256.
use Rattle.std.specs.Prelude.{◌≡◌, ◌<◌, ◌+◌, ◌⊎◌, ℕ, List, [], ◌∷◌, ◌++◌, length, slice_index}

-- each number is a byte
abbrev pub AreBytes : List ℕ → Type 0
AreBytes bytes = (k : ℕ) → k < length bytes → slice_index bytes k < 256

-- what spells a value ends by itself: no two spellings begin the same bytes
abbrev pub HasUniqueFronts : {V : Type 0} → (V → List ℕ → Type 0) → Type 0
HasUniqueFronts {V} Spells = (v w : V) (a b x y : List ℕ) → Spells v a → Spells w b → a ++ x ≡ b ++ y → (a ≡ b) × (v ≡ w)

-- the bytes are spellings of the values, one after the other
abbrev pub Joined : {V : Type 0} → (V → List ℕ → Type 0) → List V → List ℕ → Type 0
Joined Spells [] bytes = bytes ≡ []
Joined Spells (v ∷ vs) bytes = (first : List ℕ) × (rest : List ℕ) × Spells v first × Joined Spells vs rest × (bytes ≡ first ++ rest)

-- the values and then an end
abbrev pub UntilEnd : {V : Type 0} → (V → List ℕ → Type 0) → (List ℕ → Type 0) → List V → List ℕ → Type 0
UntilEnd {V} Spells IsEnd vs bytes = (front : List ℕ) × (end : List ℕ) × Joined Spells vs front × IsEnd end × (bytes ≡ front ++ end)

-- an end doesn't begin the bytes of a thing
abbrev pub EndsApart : {V : Type 0} → (V → List ℕ → Type 0) → (List ℕ → Type 0) → Type 0
EndsApart {V} Spells IsEnd = (v : V) (a b x y : List ℕ) → Spells v a → IsEnd b → a ++ x ≡ b ++ y → ⊥

-- after the values, which are spelled from the front of the bytes on, a value stands at a place
pub record StandsAt {V : Type 0} (Spells : V → List ℕ → Type 0) (bytes : List ℕ) (before : List V) (v : V) (at : ℕ) : Type 0 where
  pub front : List ℕ
  pub body : List ℕ
  pub rest : List ℕ
  pub place : at ≡ length front
  pub spelled : Joined Spells before front
  pub here : Spells v body
  pub whole : bytes ≡ front ++ (body ++ rest)

-- the bytes are spellings of the values, each by a rule of its own
abbrev pub JoinedBy : {P V : Type 0} → (P → V → List ℕ → Type 0) → List P → List V → List ℕ → Type 0
JoinedBy Spells [] [] bytes = bytes ≡ []
JoinedBy Spells [] (v ∷ vs) bytes = ⊥
JoinedBy Spells (p ∷ ps) [] bytes = ⊥
JoinedBy Spells (p ∷ ps) (v ∷ vs) bytes = (first : List ℕ) × (rest : List ℕ) × Spells p v first × JoinedBy Spells ps vs rest × (bytes ≡ first ++ rest)

-- a byte by itself
abbrev pub IsByte : ℕ → List ℕ → Type 0
IsByte v bytes = (bytes ≡ v ∷ []) × (v < 256)

-- a thing and then a second thing, whose rule may depend on the first
abbrev pub Then : {V W : Type 0} → (V → List ℕ → Type 0) → (V → W → List ℕ → Type 0) → V × W → List ℕ → Type 0
Then S T p bytes = (first : List ℕ) × (second : List ℕ) × S p.0 first × T p.0 p.1 second × (bytes ≡ first ++ second)

-- nothing, for the value that is the only one
abbrev pub IsAbsent : {V : Type 0} → V → V → List ℕ → Type 0
IsAbsent only v bytes = (bytes ≡ []) × (v ≡ only)

-- Bytes up to an end have a fault at a place that counts from the first of them. K is the type of the kinds.
-- Bytes that begin with a spelling have none.
abbrev pub NeverBoth : {V K : Type 0} → (V → List ℕ → Type 0) → (K → ℕ → List ℕ → Type 0) → Type 0
NeverBoth {V} {K} S F = (v : V) (k : K) (at : ℕ) (a x : List ℕ) → S v a → F k at (a ++ x) → ⊥

-- the first thing has a fault, or it is there and the second has one: the first fault from the left
abbrev pub FaultThen : {V K : Type 0} → (V → List ℕ → Type 0) → (K → ℕ → List ℕ → Type 0) → (V → K → ℕ → List ℕ → Type 0) → K → ℕ → List ℕ → Type 0
FaultThen {V} S F G k at bytes = F k at bytes ⊎ ((v : V) × (first : List ℕ) × (rest : List ℕ) × (inner : ℕ) × S v first × G v k inner rest × (bytes ≡ first ++ rest) × (at ≡ length first + inner))

-- some things are there, and what follows has a fault as a thing or an end: the first fault from the left
pub record FaultUntilEnd {V K : Type 0} (S : V → List ℕ → Type 0) (F : K → ℕ → List ℕ → Type 0) (k : K) (at : ℕ) (bytes : List ℕ) : Type 0 where
  pub before : List V
  pub front : List ℕ
  pub rest : List ℕ
  pub inner : ℕ
  pub spelled : Joined S before front
  pub fault : F k inner rest
  pub whole : bytes ≡ front ++ rest
  pub place : at ≡ length front + inner

-- new is old with a spelling of the value at its end
abbrev pub Appends : {V : Type 0} → (V → List ℕ → Type 0) → V → List ℕ → List ℕ → Type 0
Appends Spells v old new = (bytes : List ℕ) × Spells v bytes × (new ≡ old ++ bytes)
