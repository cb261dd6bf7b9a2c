-- What is held of a unit's entries, in flat lists. Places count from the first byte of the lent section. Which codes 0 are
-- held, and of which entries, is what the reader says of them (specs/Trees.antt).
use Rattle.std.specs.Prelude.{◌≡◌, ◌<◌, ℕ, List, [], ◌∷◌, ◌++◌, length, slice_index_or, Option, Some, None}
use Rattle.dw_base.specs.declared.fault.Span.{Span}
use Rattle.form_codec.specs.declared.value.Value.{Value}
use Rattle.form_codec.specs.declared.value.Value.TheVariants as value
use Rattle.entry_arena.specs.declared.entry.Entry.{Entry}
use Rattle.entry_arena.specs.declared.entry.ChainEnd.{ChainEnd}

-- the entries, their values, and the codes 0 that end chains of siblings, each in the order of their places
pub record Arena : Type 0 where
  pub section : List ℕ
  pub entries : List Entry
  pub values : List Value
  pub ends : List ChainEnd

-- nothing is held yet of a section
abbrev pub nothing_of : List ℕ → Arena
nothing_of section = record { section = section; entries = []; values = []; ends = [] }

-- one more at the end, and all else as it is
abbrev pub with_entry : Arena → Entry → Arena
with_entry f e = record { section = f.section; entries = f.entries ++ e ∷ []; values = f.values; ends = f.ends }

abbrev pub with_value : Arena → Value → Arena
with_value f v = record { section = f.section; entries = f.entries; values = f.values ++ v ∷ []; ends = f.ends }

abbrev pub with_end : Arena → ChainEnd → Arena
with_end f end = record { section = f.section; entries = f.entries; values = f.values; ends = f.ends ++ end ∷ [] }

-- other values, and all else as it is
abbrev pub with_values : Arena → List Value → Arena
with_values f values = record { section = f.section; entries = f.entries; values = values; ends = f.ends }

-- the entry with a number; past the end there is none, and one of zeros stands for it
abbrev pub entry_at : List Entry → ℕ → Entry
entry_at entries i = slice_index_or entries i (record { at = 0; len = 0; depth = 0; decl = 0; first = 0; count = 0 })

-- likewise the value
abbrev pub value_at : List Value → ℕ → Value
value_at values i = slice_index_or values i (value.Addr 0)

-- likewise the end of a chain
abbrev pub chain_end_at : List ChainEnd → ℕ → ChainEnd
chain_end_at ends i = slice_index_or ends i (record { entry = 0; at = 0 })

-- the entry with this number stands at a place
abbrev pub IsEntryAt : Arena → ℕ → ℕ → Type 0
IsEntryAt f id place = (id < length f.entries) × ((entry_at f.entries id).at ≡ place)

-- the code 0 that ends the children of the entry with this number stands at a place
abbrev pub HasChainEnd : List ChainEnd → ℕ → ℕ → Type 0
HasChainEnd ends id place = (i : ℕ) × (i < length ends) × (chain_end_at ends i ≡ record { entry = id; at = place })

-- the same of what is held
abbrev pub IsChainEndAt : Arena → ℕ → ℕ → Type 0
IsChainEndAt f id place = HasChainEnd f.ends id place

-- the bytes that a value lends
abbrev pub span_of : Value → Option Span
span_of (value.Wide16 span) = Some span
span_of (value.Block span) = Some span
span_of (value.Expr span) = Some span
span_of (value.Text span) = Some span
span_of v = None
