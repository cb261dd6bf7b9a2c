-- Which bytes of a section of lists something has, by spans. A span is a place and how many bytes it has from there on.
use Rattle.std.specs.Prelude.{◌≡◌, ◌≤◌, ◌<◌, ◌+◌, ◌⊎◌, ◌↔◌, ℕ, List, length, slice_index_or}
use Rattle.std.specs.List.{All, Contains}
use Rattle.list_model.specs.declared.entry.ListKind.{ListKind}
use Rattle.list_model.specs.declared.entry.ListKind.TheVariants.{Locations}
use Rattle.list_model.specs.Contributions.{lists_at}
use Rattle.value_links.specs.Reading.{Reading, of_kind, lists_of, part_at, list_at, view_at}
use Rattle.tidy_lists.specs.Followers.{HasLength, RunHasLength}

-- SPANS

-- a place is that of one of so many bytes from another on
abbrev pub IsByteOf : ℕ → ℕ → ℕ → Type 0
IsByteOf start len x = (start ≤ x) × (x < start + len)

-- one of the spans has the byte at a place
abbrev pub IsCovered : List (ℕ × ℕ) → ℕ → Type 0
IsCovered spans x = (span : ℕ × ℕ) × Contains spans span × IsByteOf span.0 span.1 x

-- all end by a place
abbrev pub EndBy : ℕ → List (ℕ × ℕ) → Type 0
EndBy end spans = All (λ (span : ℕ × ℕ). span.0 + span.1 ≤ end) spans

-- no earlier one begins behind a later one
abbrev pub AreRising : List (ℕ × ℕ) → Type 0
AreRising spans = (i j : ℕ) (d : ℕ × ℕ) → i < j → j < length spans → (slice_index_or spans i d).0 ≤ (slice_index_or spans j d).0

-- the place of a byte before an end that no span has
abbrev pub IsGap : List (ℕ × ℕ) → ℕ → ℕ → Type 0
IsGap spans end x = (x < end) × (IsCovered spans x → ⊥)

-- Spans are those of before and some that have the bytes of which something holds, and these end by a place.
pub record AddsBytes (end : ℕ) (HasByte : ℕ → Type 0) (before after : List (ℕ × ℕ)) : Type 0 where
  pub those : (x : ℕ) → IsCovered after x ↔ (IsCovered before x ⊎ HasByte x)
  pub within : EndBy end before → EndBy end after

-- a span is added
abbrev pub AddsSpan : ℕ → ℕ → List (ℕ × ℕ) → List (ℕ × ℕ) → Type 0
AddsSpan start len before after = (end : ℕ) → start + len ≤ end → AddsBytes end (IsByteOf start len) before after

-- WHAT HAS BYTES

-- where the section of lists of a kind ends
abbrev pub section_end : ListKind → Reading → ℕ
section_end kind s = length (of_kind s.links kind).section

-- the header and the offsets of the contribution with a number have a byte
abbrev pub HasHeadByteAt : ListKind → Reading → ℕ → ℕ → Type 0
HasHeadByteAt kind s p x = (p < length (of_kind s.links kind).parts) × ((part_at (of_kind s.links kind) p).at ≤ x) × (x < lists_at (part_at (of_kind s.links kind) p))

-- the list with a number does
abbrev pub HasListByteAt : ListKind → Reading → ℕ → ℕ → Type 0
HasListByteAt kind s m x = (len : ℕ) × (m < length (lists_of s kind)) × HasLength kind s (list_at (lists_of s kind) m) len × IsByteOf (list_at (lists_of s kind) m).at len x

-- the run of view pairs with a number does
abbrev pub HasRunByteAt : Reading → ℕ → ℕ → Type 0
HasRunByteAt s n x = (len : ℕ) × (n < length s.views) × RunHasLength s (view_at s.views n) len × IsByteOf (view_at s.views n).at len x

-- something holds of a number below another, or of any
abbrev pub BytesBelow : (ℕ → ℕ → Type 0) → ℕ → ℕ → Type 0
BytesBelow HasByteAt n x = (i : ℕ) × (i < n) × HasByteAt i x

abbrev pub SomeBytes : (ℕ → ℕ → Type 0) → ℕ → Type 0
SomeBytes HasByteAt x = (i : ℕ) × HasByteAt i x

-- runs of view pairs stand with location lists alone
abbrev pub HasRunByteIn : ListKind → Reading → ℕ → Type 0
HasRunByteIn kind s x = (kind ≡ Locations) × SomeBytes (HasRunByteAt s) x

-- one of all these has a byte of the section
abbrev pub IsTaken : ListKind → Reading → ℕ → Type 0
IsTaken kind s x = SomeBytes (HasHeadByteAt kind s) x ⊎ (SomeBytes (HasListByteAt kind s) x ⊎ HasRunByteIn kind s x)

-- the spans are those of all that has bytes of the section
pub record AreTaken (kind : ListKind) (s : Reading) (spans : List (ℕ × ℕ)) : Type 0 where
  pub those : (x : ℕ) → IsCovered spans x ↔ IsTaken kind s x
  pub within : EndBy (section_end kind s) spans
