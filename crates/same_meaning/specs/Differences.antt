-- Why two files don't mean the same, and which of several reasons is named.
use Rattle.std.specs.Prelude.{◌≡◌, ◌≢◌, ◌<◌, ◌⊎◌, ℕ, List, Option, Some, None, slice_get}
use Rattle.list_model.specs.declared.entry.ListKind.TheVariants.{Ranges, Locations}
use Rattle.value_links.specs.Debug.{Debug, UnitMeaning, Means, parts_of}
use Rattle.same_meaning.specs.Kept.{KeptDiffers}
use Rattle.same_meaning.specs.declared.reason.Reason.{Reason}
use Rattle.same_meaning.specs.declared.reason.Reason.TheVariants.{Kept, Rows, Table, Differs}

-- Two lists differ at a place, counted from 0: one of them has nothing there, or something else.
abbrev pub DifferAt : {A : Type 0} → List A → List A → ℕ → Type 0
DifferAt xs ys i = slice_get ys i ≢ slice_get xs i

-- two units have another type, another signature or dwo_id, or another entry of their type
abbrev pub HaveOtherHeads : UnitMeaning → UnitMeaning → Type 0
HaveOtherHeads a b = (b.unit_type ≢ a.unit_type) ⊎ ((b.signature ≢ a.signature) ⊎ (b.type_entry ≢ a.type_entry))

-- Two units, of which either may be missing, differ at the number of an entry. What differs of units themselves does so at entry 0.
abbrev pub UnitsDifferAt : Option UnitMeaning → Option UnitMeaning → ℕ → Type 0
UnitsDifferAt None None e = ⊥
UnitsDifferAt None (Some b) e = e ≡ 0
UnitsDifferAt (Some a) None e = e ≡ 0
UnitsDifferAt (Some a) (Some b) e = ((e ≡ 0) × HaveOtherHeads a b) ⊎ DifferAt a.forest b.forest e

-- This is a reason why a file doesn't mean the same as another: the one means c, and the other d. Reasons of other kinds are of a
-- certificate or of how a file is written.
abbrev pub IsReason : List ℕ → List ℕ → Debug → Debug → Reason → Type 0
IsReason a b c d (Kept s) = KeptDiffers a b s
IsReason a b c d (Rows p) = DifferAt c.programs d.programs p
IsReason a b c d (Table kind p) = DifferAt (parts_of c kind) (parts_of d kind) p
IsReason a b c d (Differs u e) = UnitsDifferAt (slice_get c.units u) (slice_get d.units u) e
IsReason a b c d reason = ⊥

-- The order in which reasons are looked for: what is kept, line number programs, contributions of range lists and then of location
-- lists, and units; and of one kind by their numbers.
abbrev pub kind_order : Reason → ℕ
kind_order (Kept s) = 0
kind_order (Rows p) = 1
kind_order (Table Ranges p) = 2
kind_order (Table Locations p) = 3
kind_order (Differs u e) = 4
kind_order reason = 5

abbrev pub first_number : Reason → ℕ
first_number (Kept s) = s
first_number (Rows p) = p
first_number (Table kind p) = p
first_number (Differs u e) = u
first_number reason = 0

abbrev pub second_number : Reason → ℕ
second_number (Differs u e) = e
second_number reason = 0

abbrev pub ComesBefore : Reason → Reason → Type 0
ComesBefore x y =
    (kind_order x < kind_order y)
    ⊎ ((kind_order x ≡ kind_order y)
    × ((first_number x < first_number y) ⊎ ((first_number x ≡ first_number y) × (second_number x < second_number y))))

-- It is the first reason why the files don't mean the same: none that comes before it is one.
pub record IsFirstDifference (a b : List ℕ) (reason : Reason) : Type 0 where
  pub c : Debug
  pub d : Debug
  pub means : Means a c
  pub other : Means b d
  pub is : IsReason a b c d reason
  pub first : (earlier : Reason) → ComesBefore earlier reason → IsReason a b c d earlier → ⊥
