-- The numbers of an entry with a byte too many: its code, and its values, each of which stands where the one before it ends.
use Rattle.std.proofs.Common.{◌≡◌, ◌≤◌, ◌<◌, ◌+◌, ◌-◌, ◌++◌, ◌∙◌, ◌⊎◌, ℕ, zero, suc, List, [], ◌∷◌, length, take, drop, sym, ap, subst, refl, arith}
use Rattle.std.specs.Prelude.{◌↔◌, pos, Bool, Option, Some, IsTrue}
use Rattle.std.proofs.lemmas.List.{take_more, take-append-drop, append_assoc}
use Rattle.leb_codec.specs.Leb.{Uleb}
use Rattle.form_codec.specs.declared.form.Form.{Form}
use Rattle.form_codec.specs.declared.form.Role.{Role}
use Rattle.form_codec.specs.declared.form.Role.TheVariants as role
use Rattle.form_codec.specs.declared.form.Content.{Content}
use Rattle.form_codec.specs.declared.form.Shape.{Shape}
use Rattle.form_codec.specs.declared.form.Shape.TheVariants.{Uleb as ByUleb, UlebCounted}
use Rattle.form_codec.specs.declared.value.Value.{Value}
use Rattle.form_codec.specs.Forms.{Meaning, SpellsShape, SpellsValue, IsUlebCounted, code_of, shape_of}
use Rattle.form_codec.specs.Values.{meant_in, IsPlaced}
use Rattle.form_codec.proofs.Codes.{code_once}
use Rattle.abbrev_tables.specs.declared.decl.Spec.{Spec}
use Rattle.abbrev_tables.specs.Listings.{spec_at}
use Rattle.entry_arena.specs.Trees.{bytes_between, SpellsBetween, ValuesBetween}
use Rattle.entry_arena.proofs.Between.{values_once}
use Rattle.entry_read.proofs.Parts.{values_push}
use Rattle.std.specs.Bool.{then_some}
use Rattle.tidy_places.specs.Firsts.{IsLeastFound}
use Rattle.tidy_numbers.specs.Fronts.{BeginsLong}
use Rattle.tidy_numbers.specs.LongUnits.{BeginsLongShape, BeginsLongValue}
use Rattle.tidy_numbers.specs.inside.LongEntries.{IsEntryWith, IsLongColumnValue, IsLongAmongValues, IsLongBehindCode, IsLongInEntry}
use Rattle.tidy_numbers.proofs.EarlierPlaces.{least_same, least_of_both, least_of_more, least_if}

-- SHAPES

-- a number other than a reference within the unit is no slot
pub number_long : (r : Role) (bytes : List ℕ) → (r ≡ role.LocalRef → ⊥) → BeginsLongShape (ByUleb r) bytes ≡ BeginsLong bytes
number_long role.LocalRef bytes other = absurd (other refl)
number_long r bytes other = refl

-- a block begins with its length
pub count_begins : (bytes : List ℕ) (shape : Shape) (kind : Content) → shape ≡ UlebCounted kind → (meaning : Meaning) × (first : List ℕ) × (rest : List ℕ) × SpellsShape shape meaning first × (bytes ≡ first ++ rest) → (n : ℕ) × (first : List ℕ) × (rest : List ℕ) × Uleb n first × (bytes ≡ first ++ rest)
count_begins bytes shape kind is (meaning, first, rest, spelled, whole) =
    let counted : IsUlebCounted kind meaning first = subst (λ (z : Shape). SpellsShape z meaning first) is spelled in
    (length counted.body, counted.head, counted.body ++ rest, counted.count, whole ∙ ap (λ (z : List ℕ). z ++ rest) counted.whole ∙ append_assoc counted.head counted.body rest)

-- something begins the bytes from a place on
abbrev pub Begins : (List ℕ → Type 0) → List ℕ → Type 0
Begins Spells bytes = (first : List ℕ) × (rest : List ℕ) × Spells first × (bytes ≡ first ++ rest)

pub begins : (S : List ℕ → Type 0) (info : List ℕ) (from to : ℕ) → SpellsBetween S info from to → Begins S (drop from info)
begins S info from to stands = (bytes_between info from to, drop (to - from) (drop from info), stands.spelled, sym (take-append-drop (to - from) (drop from info)))

-- the value of a column that stands at a place, and the form by its code
module _ (info : List ℕ) (column : Spec) (from : ℕ) (stands : (meaning : Meaning) × (to : ℕ) × SpellsBetween (SpellsValue column.name column.form column.constant meaning) info from to) where
  pub form_known : (form : Form) × (code_of form ≡ column.form)
  form_known = (stands.2.spelled.form, stands.2.spelled.known)

  module _ (form : Form) (known : code_of form ≡ column.form) (shape : Shape) (is : shape ≡ shape_of form column.name column.constant) where
    pub value_shape : (meaning : Meaning) × (first : List ℕ) × (rest : List ℕ) × SpellsShape shape meaning first × (drop from info ≡ first ++ rest)
    value_shape =
        let spelled = stands.2.spelled in
        let one : spelled.form ≡ form = code_once spelled.form form (spelled.known ∙ sym known) in
        let here = subst (λ (f : Form). SpellsShape (shape_of f column.name column.constant) stands.0 (bytes_between info from stands.1)) one spelled.spelled in
        let (first, rest, there, whole) = begins (SpellsShape (shape_of form column.name column.constant) stands.0) info from stands.1 (record { order = stands.2.order; inside = stands.2.inside; spelled = here }) in
        (stands.0, first, rest, subst (λ (z : Shape). SpellsShape z stands.0 first) (sym is) there, whole)

    pub value_long : (long : Bool) → (IsTrue long ↔ BeginsLongShape shape (drop from info)) → IsTrue long ↔ BeginsLongValue column (drop from info)
    value_long long decides = (
      λ true. (form, known, subst (λ (z : Shape). BeginsLongShape z (drop from info)) is (decides.0 true)),
      λ (other, also, begins_long).
          let one : other ≡ form = code_once other form (also ∙ sym known) in
          decides.1 (subst (λ (z : Shape). BeginsLongShape z (drop from info)) (sym is) (subst (λ (f : Form). BeginsLongShape (shape_of f column.name column.constant) (drop from info)) one begins_long)),
    )

-- VALUES

-- the value of a column at a place
record HasValue (info : List ℕ) (column : Spec) (from : ℕ) : Type 0 where
  value : Value
  next : ℕ
  spelled : SpellsBetween (SpellsValue column.name column.form column.constant (meant_in info value)) info from next
  placed : IsPlaced value from next

-- the values of the first columns end at a place
abbrev pub HaveCome : List ℕ → List Spec → ℕ → ℕ → ℕ → Type 0
HaveCome info columns from i at = (values : List Value) × ValuesBetween info (take i columns) values from at

-- behind the values of the first columns stands that of the next one
value_behind : (info : List ℕ) (columns : List Spec) (values : List Value) (from to i : ℕ) → i < length columns → ValuesBetween info columns values from to → (mid : ℕ) × HaveCome info columns from i mid × HasValue info (spec_at columns i) mid
value_behind info [] values from to i inside valued = absurd (omega arith)
value_behind info (c ∷ cs) [] from to i inside valued = absurd valued
value_behind info (c ∷ cs) (v ∷ vs) from to zero inside (next, spelled, placed, more) = (from, ([], refl), record { value = v; next = next; spelled = spelled; placed = placed })
value_behind info (c ∷ cs) (v ∷ vs) from to (suc i) inside (next, spelled, placed, more) =
    let (mid, (values, before), here) = value_behind info cs vs next to i (omega arith) more in
    (mid, (v ∷ values, (next, spelled, placed, before)), here)

module _ (info : List ℕ) (columns : List Spec) (from : ℕ) (stand : (values : List Value) × (to : ℕ) × ValuesBetween info columns values from to) where
  pub none_come : HaveCome info columns from 0 from
  none_come = ([], refl)

  module _ (i at : ℕ) (inside : i < length columns) (come : HaveCome info columns from i at) where
    here : HasValue info (spec_at columns i) at
    here =
        let (mid, before, value) = value_behind info columns stand.0 from stand.1 i inside stand.2 in
        let one : mid ≡ at = (values_once info (take i columns) before.0 come.0 from mid at before.1 come.1).0 in
        subst (HasValue info (spec_at columns i)) one value

    pub value_there : (meaning : Meaning) × (to : ℕ) × SpellsBetween (SpellsValue (spec_at columns i).name (spec_at columns i).form (spec_at columns i).constant meaning) info at to
    value_there = (meant_in info here.value, here.next, here.spelled)

    pub come_on : (end : ℕ) → ((meaning : Meaning) (to : ℕ) → SpellsBetween (SpellsValue (spec_at columns i).name (spec_at columns i).form (spec_at columns i).constant meaning) info at to → end ≡ to) → HaveCome info columns from (i + 1) end
    come_on end ends =
        let c : Spec = spec_at columns i in
        let more : take (i + 1) columns ≡ take i columns ++ c ∷ [] = take_more columns i (record { name = 0; form = 0; constant = pos 0 }) inside in
        let same : end ≡ here.next = ends (meant_in info here.value) here.next here.spelled in
        let values : List Value = come.0 ++ here.value ∷ [] in (
          values,
          subst (λ (z : List Spec). ValuesBetween info z values from end) (sym more)
              (subst (λ (z : ℕ). ValuesBetween info (take i columns ++ c ∷ []) values from z) (sym same) (values_push info (take i columns) come.0 c here.value from at here.next come.1 here.spelled here.placed)),
        )

    -- the value is looked at, behind those of the columns before
    one_place : (p : ℕ) → BeginsLongValue (spec_at columns i) (drop p info) × (p ≡ at) → IsLongColumnValue info columns from i p
    one_place p (long, same) = record { known = inside; values = come.0; valued = subst (λ (z : ℕ). ValuesBetween info (take i columns) come.0 from z) (sym same) come.1; long = long }

    only_place : (p : ℕ) → IsLongColumnValue info columns from i p → BeginsLongValue (spec_at columns i) (drop p info) × (p ≡ at)
    only_place p l = (l.long, (values_once info (take i columns) l.values come.0 from p at l.valued come.1).0)

    pub value_looked : (long : Bool) (value first found : Option ℕ) → (IsTrue long ↔ BeginsLongValue (spec_at columns i) (drop at info)) → value ≡ then_some long at → IsLeastFound (IsLongAmongValues info columns from i) first → IsLeastFound (λ p. (first ≡ Some p) ⊎ (value ≡ Some p)) found → IsLeastFound (IsLongAmongValues info columns from (i + 1)) found
    value_looked long value first found decides is before earlier =
        least_of_more (IsLongColumnValue info columns from) i first value found before
        (least_same (λ p. BeginsLongValue (spec_at columns i) (drop p info) × (p ≡ at)) (IsLongColumnValue info columns from i) one_place only_place value (least_if (λ p. BeginsLongValue (spec_at columns i) (drop p info)) long at value decides is))
        earlier

-- ENTRIES

module _ (info : List ℕ) (columns : List Spec) (at : ℕ) (entry : IsEntryWith info columns at) where
  pub entry_inside : at ≤ length info
  entry_inside = let order = entry.coded.order in let inside = entry.coded.inside in omega arith

  pub code_there : (code : ℕ) × (to : ℕ) × SpellsBetween (Uleb code) info at to
  code_there = (entry.code, entry.values_at, entry.coded)

  pub code_begins : (n : ℕ) × (first : List ℕ) × (rest : List ℕ) × Uleb n first × (drop at info ≡ first ++ rest)
  code_begins = let (first, rest, spelled, whole) = begins (Uleb entry.code) info at entry.values_at entry.coded in (entry.code, first, rest, spelled, whole)

  module _ (from : ℕ) (ends : (code to : ℕ) → SpellsBetween (Uleb code) info at to → from ≡ to) where
    pub values_there : (values : List Value) × (to : ℕ) × ValuesBetween info columns values from to
    values_there = (entry.values, entry.to, subst (λ (z : ℕ). ValuesBetween info columns entry.values z entry.to) (sym (ends entry.code entry.values_at entry.coded)) entry.valued)

    values_to : (p : ℕ) → IsLongAmongValues info columns from (length columns) p → IsLongBehindCode info columns at p
    values_to p long = (entry.code, from, subst (λ (z : ℕ). SpellsBetween (Uleb entry.code) info at z) (sym (ends entry.code entry.values_at entry.coded)) entry.coded, long)

    values_from : (p : ℕ) → IsLongBehindCode info columns at p → IsLongAmongValues info columns from (length columns) p
    values_from p (code, place, coded, long) = subst (λ (z : ℕ). IsLongAmongValues info columns z (length columns) p) (sym (ends code place coded)) long

    pub entry_looked : (long : Bool) (code values found : Option ℕ) → (IsTrue long ↔ BeginsLong (drop at info)) → code ≡ then_some long at → IsLeastFound (IsLongAmongValues info columns from (length columns)) values → IsLeastFound (λ p. (code ≡ Some p) ⊎ (values ≡ Some p)) found → IsLeastFound (IsLongInEntry info columns at) found
    entry_looked long code values found decides is behind earlier =
        least_of_both (λ p. BeginsLong (drop p info) × (p ≡ at)) (IsLongBehindCode info columns at) code values found
        (least_if (λ p. BeginsLong (drop p info)) long at code decides is)
        (least_same (IsLongAmongValues info columns from (length columns)) (IsLongBehindCode info columns at) values_to values_from values behind)
        earlier
