-- A unit whose declarations have no columns can be written with any codes.
use Rattle.std.proofs.Common.{◌≡◌, ◌≢◌, ◌≤◌, ◌<◌, ◌+◌, ◌-◌, ◌^◌, ℕ, zero, suc, List, [], ◌∷◌, length, take, drop, ◌∙◌, sym, ap, refl, subst, arith}
use Rattle.std.specs.Prelude.{slice_index}
use Rattle.std.specs.List.{All}
use Rattle.std.proofs.lemmas.List.{nil_from_length}
use Rattle.std.proofs.Math.Seq.{take-nil, drop-nil}
use Rattle.leb_codec.specs.Leb.{least_unsigned_len}
use Rattle.leb_codec.specs.Layout.{uleb}
use Rattle.slot_layout.specs.declared.slots.SlotKind.TheVariants.{Uleb as TheUleb}
use Rattle.expr_ops.specs.Slots.{Aim}
use Rattle.expr_ops.specs.Slots.Aim.{Place, Length}
use Rattle.form_codec.specs.declared.value.Value.{Value}
use Rattle.abbrev_tables.specs.declared.decl.Spec.{Spec}
use Rattle.abbrev_tables.specs.Listings.{Listing, decl_at}
use Rattle.entry_arena.specs.declared.entry.Entry.{Entry}
use Rattle.entry_arena.specs.Arena.{Arena, entry_at}
use Rattle.entry_arena.specs.Trees.{ValuesBetween, declared_at}
use Rattle.entry_read.specs.Heads.{IsHead}
use Rattle.entry_read.specs.Slots.{aim_at}
use Rattle.entry_read.specs.Units.{HeadAndForest, declarations_of, IsUnitHeld}
use Rattle.entry_read.proofs.Declarations.{declared_is}
use Rattle.entry_read.proofs.PlaceLaws.{entry_stands}
use Rattle.unit_write.specs.declared.slots.ListSlot.TheVariants.{Length as ListLength, Place as ListPlace}
use Rattle.unit_write.specs.declared.slots.Spot.TheVariants.{Entry as TheEntry}
use Rattle.unit_write.specs.Lens.{AreLensFor}
use Rattle.unit_write.specs.Values.{HaveSize}
use Rattle.unit_write.specs.Placing.{columns_of, values_in, EntrySize}
use Rattle.unit_write.specs.Moved.{IsWritable}
use Rattle.unit_write.specs.Slots.{AreListSlots}
use Rattle.unit_write.proofs.Standing.{entry_declared}
use Rattle.unit_tests.proofs.HeldUnits.{held_as_read}

none_of : {A : Type 0} (items : List A) (first count : ℕ) → items ≡ [] → take count (drop first items) ≡ []
none_of items first count e = ap (λ z. take count (drop first z)) e ∙ ap (take count) (drop-nil first) ∙ take-nil count

none_valued : (section : List ℕ) (columns : List Spec) (values : List Value) (from to : ℕ) → columns ≡ [] → ValuesBetween section columns values from to → values ≡ []
none_valued section [] [] from to e p = refl
none_valued section [] (v ∷ values) from to e p = absurd p
none_valued section (c ∷ columns) values from to e p = absurd (let long : length (c ∷ columns) ≡ 0 = ap length e in omega arith)

module _ (unit : HeadAndForest) (table : Listing) (columns : List Spec) (numbers lens : List ℕ) (held : IsUnitHeld unit.forest.section unit.head (declarations_of table) unit.forest) (bare : table.specs ≡ []) (none : columns ≡ []) (no_lens : lens ≡ []) (numbered : length numbers ≡ length table.decls) where
  no_values : (id : ℕ) → id < length unit.forest.entries → values_in unit.forest id ≡ []
  no_values id inside =
      let e : Entry = entry_at unit.forest.entries id in
      let s = entry_stands unit.forest.section unit.head (declarations_of table) unit.forest refl held id inside in
      let own : (declared_at (declarations_of table) e.decl).columns ≡ [] = ap (λ z. z.columns) (declared_is table e.decl (entry_declared unit table (held_as_read unit table held) id inside)) ∙ none_of table.specs (decl_at table.decls e.decl).first (decl_at table.decls e.decl).count bare in
      none_valued unit.forest.section ((declared_at (declarations_of table) e.decl).columns) (values_in unit.forest id) s.values_at (e.at + e.len) own s.valued

  sized : (id : ℕ) → id < length unit.forest.entries → (size : ℕ) × EntrySize table columns numbers unit.forest lens id size
  sized id inside =
      let e : Entry = entry_at unit.forest.entries id in
      let own : columns_of table columns e.decl ≡ [] = none_of columns (decl_at table.decls e.decl).first (decl_at table.decls e.decl).count none in
      let few : take e.count (drop e.first lens) ≡ [] = none_of lens e.first e.count no_lens in
      let empty : HaveSize unit.forest.section [] [] [] 0 = refl in
      let long = subst (λ (z : List ℕ). HaveSize unit.forest.section [] [] z 0) (sym few) empty in
      let valued = subst (λ (z : List Value). HaveSize unit.forest.section [] z (take e.count (drop e.first lens)) 0) (sym (no_values id inside)) long in
      let both = subst (λ (z : List Spec). HaveSize unit.forest.section z (values_in unit.forest id) (take e.count (drop e.first lens)) 0) (sym own) valued in
      (least_unsigned_len (slice_index numbers e.decl) + 0, (0, both, refl))

  pub bare_writable : IsHead unit.forest.section unit.head → length columns ≡ length table.specs → All (λ (number : ℕ). number ≢ 0) numbers → IsWritable unit table columns numbers lens
  bare_writable head renewed used = record {
    head = head;
    held = held_as_read unit table held;
    numbered = numbered;
    renewed = renewed;
    used = λ id inside. used (entry_at unit.forest.entries id).decl 0 (let known : (entry_at unit.forest.entries id).decl < length table.decls = entry_declared unit table (held_as_read unit table held) id inside in omega arith);
    sized = sized;
  }

-- where no value is held none takes any
pub no_lens_fit : (f : Arena) (lens : List ℕ) → lens ≡ [] → length f.values ≡ 0 → AreLensFor f lens
no_lens_fit f lens is none =
    let empty : length lens ≡ 0 = ap length is in
    record {
      each = empty ∙ sym none;
      few = λ k span at. absurd (let lt : k < length f.values = at.inside in omega arith);
      narrow = λ k lt local. absurd (omega arith);
    }

-- where it has no values, whatever these take
pub bare_always : (unit : HeadAndForest) (table : Listing) (columns : List Spec) (numbers : List ℕ) → length unit.forest.values ≡ 0 → IsUnitHeld unit.forest.section unit.head (declarations_of table) unit.forest → length table.specs ≡ 0 → columns ≡ [] → length numbers ≡ length table.decls → IsHead unit.forest.section unit.head → All (λ (number : ℕ). number ≢ 0) numbers → (lens : List ℕ) → AreLensFor unit.forest lens → IsWritable unit table columns numbers lens
bare_always unit table columns numbers none held bare no_columns numbered head used lens fit =
    let many : length lens ≡ 0 = fit.each ∙ none in
    bare_writable unit table columns numbers lens held (nil_from_length table.specs bare) no_columns (nil_from_length lens many) numbered head (ap length no_columns ∙ sym bare) used

-- an expression of a list that refers to an entry once
module _ (unit : HeadAndForest) (fixed target : ℕ) (small : fixed < 2 ^ 31) (inside : target < length unit.forest.entries) (behind : unit.head.at ≤ (entry_at unit.forest.entries target).at) where
  abbrev aims : List Aim
  aims = Length fixed 1 ∷ Place uleb ((entry_at unit.forest.entries target).at - unit.head.at) ∷ []

  one_length : (j size count : ℕ) → j < 2 → aim_at aims j ≡ Length size count → (j ≡ 0) × (size ≡ fixed) × (count ≡ 1)
  one_length zero size count lt is = (refl, ap size_of (sym is), ap count_of (sym is))
    where
      size_of : Aim → ℕ
      size_of (Length n m) = n
      size_of (Place form n) = 0

      count_of : Aim → ℕ
      count_of (Length n m) = m
      count_of (Place form n) = 0
  one_length (suc zero) size count lt is = absurd (cc (is))
  one_length (suc (suc j)) size count lt is = absurd (omega (arith, lt))

  pub one_reference : (more : List Aim) × AreListSlots unit more (ListLength fixed 1 ∷ ListPlace TheUleb (TheEntry target) ∷ [])
  one_reference = (
    aims,
    record {
      each = ((refl, refl), ((refl, (inside, omega (arith, behind))), tt));
      inside = λ j size count lt is. let own = one_length j size count lt is in let first : j ≡ 0 = own.0 in let one : count ≡ 1 = own.2 in omega (arith, first, one);
      small = λ j size count lt is. let own = one_length j size count lt is in let same : size ≡ fixed = own.1 in omega (arith, same, small);
    },
  )
