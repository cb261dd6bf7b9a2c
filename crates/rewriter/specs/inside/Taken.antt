-- Units as they are written: a reference of DW_FORM_ref_addr is taken as one within its unit where its column gets DW_FORM_ref_udata.
use Rattle.std.specs.Prelude.{◌≡◌, ◌<◌, ◌+◌, ◌-◌, ◌&&◌, ◌⊎◌, ℕ, Bool, List, [], ◌∷◌, nat_eq, take, drop, if◌then◌else◌, flat_map}
use Rattle.std.specs.List.{AllZip}
use Rattle.form_codec.specs.declared.form.Form.TheVariants.{RefAddr, RefUdata}
use Rattle.form_codec.specs.declared.value.Value.{Value}
use Rattle.form_codec.specs.declared.value.Value.TheVariants as value
use Rattle.form_codec.specs.Forms.{Meaning, code_of}
use Rattle.form_codec.specs.Forms.Meaning.{InUnit, InSection}
use Rattle.abbrev_tables.specs.declared.decl.Spec.{Spec}
use Rattle.abbrev_tables.specs.Listings.{Listing, decl_at, declared_in}
use Rattle.entry_arena.specs.declared.entry.Entry.{Entry}
use Rattle.entry_read.specs.declared.head.UnitHead.{UnitHead}
use Rattle.entry_read.specs.Units.{HeadAndForest, unit_with}
use Rattle.unit_write.specs.Taken.{StandsFor}

-- the column had DW_FORM_ref_addr and gets DW_FORM_ref_udata
abbrev pub is_taken : Spec → Spec → Bool
is_taken old new = nat_eq old.form (code_of RefAddr) && nat_eq new.form (code_of RefUdata)

-- what is written for a value of such a column, in a unit that begins at a place
abbrev pub taken_value : ℕ → Bool → Value → Value
taken_value at taken (value.SectionRef n) = if taken then value.LocalRef (n - at) else value.SectionRef n
taken_value at taken v = v

-- those of the values of an entry, by its old columns and the new ones
abbrev pub taken_row : ℕ → List Spec → List Spec → List Value → List Value
taken_row at (old ∷ olds) (new ∷ news) (v ∷ vs) = taken_value at (is_taken old new) v ∷ taken_row at olds news vs
taken_row at olds news vs = []

-- those of all values of a unit, by its table and new columns in place of the table's
unfoldable pub taken_values : Listing → List Spec → HeadAndForest → List Value
taken_values table columns unit =
    flat_map (λ (e : Entry). taken_row unit.head.at (declared_in table.specs (decl_at table.decls e.decl)).columns (declared_in columns (decl_at table.decls e.decl)).columns (take e.count (drop e.first unit.forest.values))) unit.forest.entries

-- the unit with them
abbrev pub taken_unit : Listing → List Spec → HeadAndForest → HeadAndForest
taken_unit table columns unit = unit_with unit (taken_values table columns unit)

-- the unit is another one, with values that stand for those of it
pub record IsTakenFrom (old new : HeadAndForest) : Type 0 where
  pub same : new ≡ unit_with old new.forest.values
  pub each : AllZip (StandsFor old.head) old.forest.values new.forest.values

-- what a value of the unit with this header means, and what the one means that is written for it
abbrev pub MeansFor : UnitHead → Meaning → Meaning → Type 0
MeansFor head (InSection n) new = (new ≡ InSection n) ⊎ ((m : ℕ) × (n ≡ head.at + m) × (m < head.len) × (new ≡ InUnit m))
MeansFor head old new = new ≡ old
