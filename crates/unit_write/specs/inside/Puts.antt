-- What the private parts of the writer give; nothing here is a definition of the format.
use Rattle.std.specs.Prelude.{◌≡◌, ◌≤◌, ◌<◌, ◌^◌, ℕ, suc, List, [], ◌∷◌, ◌++◌, length, slice_index, Bool, true, false, nat_eq, if◌then◌else◌}
use Rattle.std.specs.List.{All}
use Rattle.leb_codec.specs.Leb.{Uleb, ShortestUnsigned, least_unsigned_len}
use Rattle.form_codec.specs.declared.form.Role.{Role}
use Rattle.form_codec.specs.declared.form.Role.TheVariants.{LocalRef, SectionRef, Offset}
use Rattle.form_codec.specs.declared.form.Content.TheVariants as content
use Rattle.form_codec.specs.declared.form.Shape.{Shape}
use Rattle.form_codec.specs.declared.form.Width.TheVariants.{Two, Four, Eight}
use Rattle.form_codec.specs.declared.form.Shape.TheVariants.{Number, Uleb as ByUleb, UlebCounted}
use Rattle.form_codec.specs.declared.value.Value.{Value}
use Rattle.form_codec.specs.Forms.{Meaning}
use Rattle.form_codec.specs.Forms.Meaning.{Expression}
use Rattle.form_codec.specs.Values.{meant_in}
use Rattle.form_codec.specs.Written.{low_bytes}
use Rattle.abbrev_tables.specs.declared.decl.Spec.{Spec}
use Rattle.abbrev_tables.specs.Listings.{Listing}
use Rattle.entry_arena.specs.Arena.{Arena, entry_at}
use Rattle.entry_arena.specs.Walks.{Item}
use Rattle.entry_arena.specs.Walks.Item.{AnEntry, AnEnd}
use Rattle.entry_read.specs.Short.{IsWritten}
use Rattle.unit_write.specs.Values.{renewed}
use Rattle.unit_write.specs.NewExpressions.{begin_of, made_of}
use Rattle.unit_write.specs.Moved.{NewValues}
use Rattle.entry_read.specs.Heads.{type_unit, skeleton_unit}
use Rattle.unit_write.specs.declared.items.Next.{Next}
use Rattle.unit_write.specs.declared.items.Next.TheVariants.{Entry as TheEntry, End as TheEnd}
use Rattle.unit_write.specs.Placing.{columns_of, values_in}

-- a number in this role is a reference or a section offset
abbrev pub role_moves : Role → Bool
role_moves LocalRef = true
role_moves SectionRef = true
role_moves Offset = true
role_moves role = false

-- what bytes of a shape spell is such a number
abbrev pub shape_moves : Shape → Bool
shape_moves (Number width role) = role_moves role
shape_moves (ByUleb role) = role_moves role
shape_moves shape = false

-- an expression
abbrev pub is_expr : Meaning → Bool
is_expr (Expression bytes) = true
is_expr meaning = false

-- what bytes of a shape spell is one
abbrev pub shape_expr : Shape → Bool
shape_expr (UlebCounted content.Expression) = true
shape_expr shape = false

-- the bytes of an expression with a count before them
abbrev pub PutsCounted : List ℕ → List ℕ → Type 0
PutsCounted made bytes = (head : List ℕ) × ShortestUnsigned (length made) head × (bytes ≡ head ++ made)

-- there is a number for each of so many values, and new bytes, which only an expression has
pub record AreNew (new : NewValues) (count : ℕ) : Type 0 where
  pub numbers : length new.held ≡ count
  pub narrow : All (λ (number : ℕ). number < 2 ^ 32) new.held
  pub each : length new.ends ≡ count
  pub rising : (k : ℕ) → k < count → begin_of new.ends k ≤ slice_index new.ends k
  pub inside : (k : ℕ) → k < count → slice_index new.ends k ≤ length new.expressions

-- what is written of the value with a number
abbrev pub renewed_at : NewValues → ℕ → Meaning → Meaning
renewed_at new k meaning = renewed (slice_index new.held k) (made_of new.ends new.expressions k) meaning

-- the values from the one with a number on are written one after the other, each in its column
abbrev pub PutsValues : List ℕ → NewValues → ℕ → List Spec → List Value → List ℕ → Type 0
PutsValues section new k [] [] bytes = bytes ≡ []
PutsValues section new k (c ∷ cs) (v ∷ vs) bytes = (first : List ℕ) × (rest : List ℕ) × IsWritten c (renewed_at new k (meant_in section v)) first × PutsValues section new (suc k) cs vs rest × (bytes ≡ first ++ rest)
PutsValues _ _ _ _ _ _ = ⊥

-- an entry is written: the new code of its declaration, and its values in the new columns
pub record PutsEntry (table : Listing) (columns : List Spec) (numbers : List ℕ) (new : NewValues) (f : Arena) (id : ℕ) (bytes : List ℕ) : Type 0 where
  pub code : List ℕ
  pub rest : List ℕ
  pub coded : Uleb (slice_index numbers (entry_at f.entries id).decl) code
  pub shortest : length code ≡ least_unsigned_len (slice_index numbers (entry_at f.entries id).decl)
  pub valued : PutsValues f.section new (entry_at f.entries id).first (columns_of table columns (entry_at f.entries id).decl) (values_in f id) rest
  pub whole : bytes ≡ code ++ rest

-- the items of a walk are written one after the other, of which the first entry has the number `id`
abbrev pub PutsItems : (ℕ → List ℕ → Type 0) → ℕ → List Item → List ℕ → Type 0
PutsItems Puts id [] bytes = bytes ≡ []
PutsItems Puts id (AnEntry number ∷ items) bytes = (first : List ℕ) × (rest : List ℕ) × Puts id first × PutsItems Puts (suc id) items rest × (bytes ≡ first ++ rest)
PutsItems Puts id (AnEnd ∷ items) bytes = (rest : List ℕ) × PutsItems Puts id items rest × (bytes ≡ 0 ∷ rest)

-- what stands next is written: an entry, or a code 0
abbrev pub PutsNext : (ℕ → List ℕ → Type 0) → Next → List ℕ → Type 0
PutsNext Puts (TheEntry id) bytes = Puts id bytes
PutsNext Puts TheEnd bytes = bytes ≡ 0 ∷ []

-- the fields that only some headers have (DWARF 5 sections 7.5.1.2 and 7.5.1.3)
abbrev pub own_bytes : ℕ → ℕ → ℕ → List ℕ
own_bytes kind extra type_offset = if nat_eq kind type_unit then low_bytes Eight extra ++ low_bytes Four type_offset else if nat_eq kind skeleton_unit then low_bytes Eight extra else []

-- a header of version 5 with addresses of 8 bytes (DWARF 5 section 7.5.1)
abbrev pub header_bytes : ℕ → ℕ → ℕ → ℕ → ℕ → List ℕ
header_bytes len kind table extra type_offset = low_bytes Four len ++ (low_bytes Two 5 ++ (kind ∷ 8 ∷ (low_bytes Four table ++ own_bytes kind extra type_offset)))
