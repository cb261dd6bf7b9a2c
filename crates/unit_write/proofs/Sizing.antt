-- The sizes of values that are summed one after the other.
use Rattle.std.proofs.Common.{◌≡◌, ◌<◌, ◌+◌, ◌^◌, ◌⊎◌, ℕ, zero, suc, List, [], ◌∷◌, length, refl, sym, subst, inl, inr, arith}
use Rattle.std.specs.List.{All}
use Rattle.std.specs.Prelude.{slice_index}
use Rattle.spelled.specs.Spelled.{AreBytes}
use Rattle.leb_codec.specs.Leb.{least_unsigned_len}
use Rattle.form_codec.specs.declared.value.Value.{Value}
use Rattle.form_codec.specs.Values.{meant_in, IsValueIn}
use Rattle.abbrev_tables.specs.declared.decl.Spec.{Spec}
use Rattle.abbrev_tables.specs.Listings.{Listing}
use Rattle.entry_arena.specs.Arena.{Arena, entry_at}
use Rattle.entry_arena.specs.Trees.{ValuesBetween}
use Rattle.fixed_width.specs.InitialLengths.{least_reserved}
use Rattle.form_codec.proofs.FormLaws.{read_in}
use Rattle.unit_write.specs.Values.{HasSize, HaveSize}
use Rattle.unit_write.specs.Placing.{columns_of, values_in, among_values, EntrySize}
use Rattle.unit_write.specs.inside.Most.{HaveRoom}
use Rattle.unit_write.specs.inside.Readings.{AreStanding}

-- so many bytes follow a place for the values that are left, where all from another place on have these
pub record AreLeft (section : List ℕ) (columns : List Spec) (values : List Value) (lens : List ℕ) (at size to : ℕ) : Type 0 where
  pub valued : All (IsValueIn section) values
  pub left : ℕ
  pub sized : HaveSize section columns values lens left
  pub sum : to + left ≡ at + size

-- the sum so far, of all whose values begin at a place, and there is room for what is left
pub record IsSummed (columns : List Spec) (values : List Value) (lens : List ℕ) (at : ℕ) (columns_left : List Spec) (values_left : List Value) (lens_left : List ℕ) (to : ℕ) : Type 0 where
  pub room : HaveRoom columns_left values_left lens_left to
  pub left : (section : List ℕ) (size : ℕ) → length section < 2 ^ 63 → All (IsValueIn section) values → HaveSize section columns values lens size → AreLeft section columns_left values_left lens_left at size to

tail_valued : (section : List ℕ) (value : Value) (values : List Value) → All (IsValueIn section) (value ∷ values) → All (IsValueIn section) values
tail_valued section value values h = λ k d lt. h (suc k) d (omega arith)

head_valued : (section : List ℕ) (value : Value) (values : List Value) → All (IsValueIn section) (value ∷ values) → IsValueIn section value
head_valued section value values h = h 0 value (omega arith)

-- so many bytes are written for a value of any section
abbrev IsWrittenSize : Spec → Value → ℕ → ℕ → Type 0
IsWrittenSize column value len written = (section : List ℕ) (size : ℕ) → length section < 2 ^ 63 → IsValueIn section value → HasSize column (meant_in section value) len size → written ≡ size

left_next : (section : List ℕ) (column : Spec) (value : Value) (len : ℕ) (columns : List Spec) (values : List Value) (lens : List ℕ) (at size to written next : ℕ) → length section < 2 ^ 63 → IsWrittenSize column value len written → next ≡ to + written → AreLeft section (column ∷ columns) (value ∷ values) (len ∷ lens) at size to → AreLeft section columns values lens at size next
left_next section column value len columns values lens at size to written next few is_size sum h = record {
  valued = tail_valued section value values h.valued;
  left = h.sized.1;
  sized = h.sized.3;
  sum =
      let first : written ≡ h.sized.0 = is_size section h.sized.0 few (head_valued section value values h.valued) h.sized.2 in
      let parts : h.left ≡ h.sized.0 + h.sized.1 = h.sized.4 in
      let all : to + h.left ≡ at + size = h.sum in
      omega arith;
}

-- behind the next value there is room for those after it
room_next : (column : Spec) (value : Value) (len : ℕ) (columns : List Spec) (values : List Value) (lens : List ℕ) (to written next : ℕ) → IsWrittenSize column value len written → next ≡ to + written → HaveRoom (column ∷ columns) (value ∷ values) (len ∷ lens) to → HaveRoom columns values lens next
room_next column value len columns values lens to written next is_size sum h = record {
  section = h.section;
  few = h.few;
  valued = tail_valued h.section value values h.valued;
  size = h.sized.1;
  sized = h.sized.3;
  below =
      let first : written ≡ h.sized.0 = is_size h.section h.sized.0 h.few (head_valued h.section value values h.valued) h.sized.2 in
      let parts : h.size ≡ h.sized.0 + h.sized.1 = h.sized.4 in
      let all : to + h.size < least_reserved = h.below in
      omega arith;
}

pub summed_none : (columns : List Spec) (values : List Value) (lens : List ℕ) (at : ℕ) → HaveRoom columns values lens at → IsSummed columns values lens at columns values lens at
summed_none columns values lens at room = record {
  room = room;
  left = λ section size few valued sized. record { valued = valued; left = size; sized = sized; sum = refl };
}

-- where no columns are left nothing is, and so for values and for the bytes of expressions
none_left : (section : List ℕ) (cs : List Spec) (vs : List Value) (ns : List ℕ) (left : ℕ) → (length cs ≡ 0) ⊎ ((length vs ≡ 0) ⊎ (length ns ≡ 0)) → HaveSize section cs vs ns left → left ≡ 0
none_left section [] [] [] left h p = p
none_left section [] [] (n ∷ ns) left h p = absurd p
none_left section [] (v ∷ vs) ns left h p = absurd p
none_left section (c ∷ cs) [] ns left h p = absurd p
none_left section (c ∷ cs) (v ∷ vs) [] left h p = absurd p
none_left section (c ∷ cs) (v ∷ vs) (n ∷ ns) left (inl h) p = absurd (omega arith)
none_left section (c ∷ cs) (v ∷ vs) (n ∷ ns) left (inr (inl h)) p = absurd (omega arith)
none_left section (c ∷ cs) (v ∷ vs) (n ∷ ns) left (inr (inr h)) p = absurd (omega arith)

module _ (columns : List Spec) (values : List Value) (lens : List ℕ) (at : ℕ) where
  abbrev Summed : List Spec → List Value → List ℕ → ℕ → Type 0
  Summed cs vs ns to = IsSummed columns values lens at cs vs ns to

  pub summed_next : (column : Spec) (value : Value) (len : ℕ) (columns_left columns_next : List Spec) (values_left values_next : List Value) (lens_left lens_next : List ℕ) (to written next : ℕ) → Summed columns_left values_left lens_left to → columns_left ≡ column ∷ columns_next → values_left ≡ value ∷ values_next → lens_left ≡ len ∷ lens_next → IsWrittenSize column value len written → next ≡ to + written → Summed columns_next values_next lens_next next
  summed_next column value len columns_left columns_next values_left values_next lens_left lens_next to written next h c v n is_size sum =
      let first = subst (λ (z : List Spec). Summed z values_left lens_left to) c h in
      let second = subst (λ (z : List Value). Summed (column ∷ columns_next) z lens_left to) v first in
      let split = subst (λ (z : List ℕ). Summed (column ∷ columns_next) (value ∷ values_next) z to) n second in
      record {
        room = room_next column value len columns_next values_next lens_next to written next is_size sum split.room;
        left = λ section size few valued sized. left_next section column value len columns_next values_next lens_next at size to written next few is_size sum (split.left section size few valued sized);
      }

  -- the sum with the next value is below the reserved lengths
  pub summed_below : (column : Spec) (value : Value) (len : ℕ) (columns_left columns_next : List Spec) (values_left values_next : List Value) (lens_left lens_next : List ℕ) (to written : ℕ) → Summed columns_left values_left lens_left to → columns_left ≡ column ∷ columns_next → values_left ≡ value ∷ values_next → lens_left ≡ len ∷ lens_next → IsWrittenSize column value len written → to + written < least_reserved
  summed_below column value len columns_left columns_next values_left values_next lens_left lens_next to written h c v n is_size =
      let next = summed_next column value len columns_left columns_next values_left values_next lens_left lens_next to written (to + written) h c v n is_size refl in
      let all : to + written + next.room.size < least_reserved = next.room.below in
      omega arith

  pub summed_all : (columns_left : List Spec) (values_left : List Value) (lens_left : List ℕ) (to : ℕ) → Summed columns_left values_left lens_left to → (length columns_left ≡ 0) ⊎ ((length values_left ≡ 0) ⊎ (length lens_left ≡ 0)) → (section : List ℕ) (size : ℕ) → length section < 2 ^ 63 → All (IsValueIn section) values → HaveSize section columns values lens size → to ≡ at + size
  summed_all columns_left values_left lens_left to h none section size few valued sized =
      let before = h.left section size few valued sized in
      let empty : before.left ≡ 0 = none_left section columns_left values_left lens_left before.left none before.sized in
      let all : to + before.left ≡ at + size = before.sum in
      omega arith

all_cons : (section : List ℕ) (value : Value) (values : List Value) → IsValueIn section value → All (IsValueIn section) values → All (IsValueIn section) (value ∷ values)
all_cons section value values first rest zero d lt = first
all_cons section value values first rest (suc k) d lt = rest k d (omega arith)

-- values that stand in a section are values of it
pub valued_between : (section : List ℕ) → AreBytes section → (columns : List Spec) (values : List Value) (from to : ℕ) → ValuesBetween section columns values from to → All (IsValueIn section) values
valued_between section small [] [] from to p = λ k d lt. absurd (omega arith)
valued_between section small [] (v ∷ values) from to p = absurd p
valued_between section small (c ∷ columns) [] from to p = absurd p
valued_between section small (c ∷ columns) (v ∷ values) from to p =
    all_cons section v values (read_in c.name c.form c.constant section from (length section) (record { value = v; end = p.0 }) (omega arith) small (record { starts = p.1.order; inside = p.1.inside; spelled = p.1.spelled; placed = p.2 })) (valued_between section small columns values p.0 to p.3)

-- the place after an entry whose code and values are summed
module _ (table : Listing) (columns : List Spec) (numbers : List ℕ) (f : Arena) (lens : List ℕ) (id at : ℕ) where
  abbrev cs : List Spec
  cs = columns_of table columns (entry_at f.entries id).decl

  abbrev own_lens : List ℕ
  own_lens = among_values f lens id

  abbrev IsAfterValues : List Spec → List Value → List ℕ → ℕ → ℕ → Type 0
  IsAfterValues cs vs ns values_at to = (section : List ℕ) (size : ℕ) → length section < 2 ^ 63 → All (IsValueIn section) vs → HaveSize section cs vs ns size → to ≡ values_at + size

  abbrev IsAfterEntry : ℕ → Type 0
  IsAfterEntry to = (size : ℕ) → EntrySize table columns numbers f lens id size → to ≡ at + size

  abbrev IsCode : ℕ → Type 0
  IsCode code = code ≡ least_unsigned_len (slice_index numbers (entry_at f.entries id).decl)

  pub entry_summed : (columns_here : List Spec) (vs : List Value) (ns : List ℕ) (code values_at to : ℕ) → columns_here ≡ cs → vs ≡ values_in f id → ns ≡ own_lens → length f.section < 2 ^ 63 → AreBytes f.section → AreStanding f.section (values_in f id) → IsCode code → values_at ≡ at + code → IsAfterValues columns_here vs ns values_at to → IsAfterEntry to
  entry_summed columns_here vs ns code values_at to c v n few small stands coded here valued size sized =
      let first = subst (λ (z : List Spec). IsAfterValues z vs ns values_at to) c valued in
      let second = subst (λ (z : List Value). IsAfterValues cs z ns values_at to) v first in
      let named = subst (λ (z : List ℕ). IsAfterValues cs (values_in f id) z values_at to) n second in
      let all : to ≡ values_at + sized.0 = named f.section sized.0 few (stands small) sized.1 in
      let sum : size ≡ least_unsigned_len (slice_index numbers (entry_at f.entries id).decl) + sized.0 = sized.2 in
      omega arith

  abbrev HasEntryRoom : Type 0
  HasEntryRoom = (size : ℕ) × EntrySize table columns numbers f lens id size × (at + size < least_reserved)

  -- behind the code there is room for the values
  pub entry_room : (columns_here : List Spec) (vs : List Value) (ns : List ℕ) (code values_at : ℕ) → columns_here ≡ cs → vs ≡ values_in f id → ns ≡ own_lens → length f.section < 2 ^ 63 → AreBytes f.section → AreStanding f.section (values_in f id) → IsCode code → values_at ≡ at + code → HasEntryRoom → HaveRoom columns_here vs ns values_at
  entry_room columns_here vs ns code values_at c v n few small stands coded here (size, sized, below) =
      let room : HaveRoom cs (values_in f id) own_lens values_at = record {
        section = f.section;
        few = few;
        valued = stands small;
        size = sized.0;
        sized = sized.1;
        below =
            let sum : size ≡ least_unsigned_len (slice_index numbers (entry_at f.entries id).decl) + sized.0 = sized.2 in
            omega (arith, below);
      } in
      let first = subst (λ (z : List ℕ). HaveRoom cs (values_in f id) z values_at) (sym n) room in
      let second = subst (λ (z : List Value). HaveRoom cs z ns values_at) (sym v) first in
      subst (λ (z : List Spec). HaveRoom z vs ns values_at) (sym c) second

  -- and so for the code
  pub code_below : (code : ℕ) → IsCode code → HasEntryRoom → at + code < least_reserved
  code_below code coded (size, sized, below) =
      let sum : size ≡ least_unsigned_len (slice_index numbers (entry_at f.entries id).decl) + sized.0 = sized.2 in
      omega (arith, below)
