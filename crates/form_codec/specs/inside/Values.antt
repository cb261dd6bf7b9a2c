-- Values with spans, which count from the first byte of their section.
-- Inner functions and proofs alone need what stands here.
use Rattle.std.specs.Prelude.{◌≡◌, ◌≢◌, ◌≤◌, ◌<◌, ◌-◌, ℕ, List, length, take, drop, slice_index}
use Rattle.form_codec.specs.declared.value.ReadValue.{ReadValue}
use Rattle.form_codec.specs.declared.form.Shape.{Shape}
use Rattle.form_codec.specs.Forms.{SpellsShape}
use Rattle.form_codec.specs.Values.{meant_in, IsPlaced}

-- the first byte that is 0 stands at a place
pub record IsFirstZero (place : ℕ) (bytes : List ℕ) : Type 0 where
  pub inside : place < length bytes
  pub zero_there : slice_index bytes place ≡ 0
  pub clear : (k : ℕ) → k < place → slice_index bytes k ≢ 0

-- what readers of a shape give: what the bytes from a place up to the answered end spell
pub record IsReadShape (shape : Shape) (bytes : List ℕ) (at : ℕ) (r : ReadValue) : Type 0 where
  pub starts : at ≤ r.end
  pub inside : r.end ≤ length bytes
  pub spelled : SpellsShape shape (meant_in bytes r.value) (take (r.end - at) (drop at bytes))
  pub placed : IsPlaced r.value at r.end
