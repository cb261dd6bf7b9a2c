-- The numbers of columns, and the two numbers 0 behind them.
use Rattle.std.proofs.Common.{◌≡◌, ◌≢◌, ◌≤◌, ◌⊎◌, ℕ, List, [], length, Option, Some, ap, refl, inl, inr, arith}
use Rattle.std.specs.Prelude.{ℤ}
use Rattle.spelled.specs.Spelled.{Then}
use Rattle.leb_codec.specs.Leb.{Uleb, Sleb}
use Rattle.leb_codec.proofs.Fronts.{unique_u}
use Rattle.abbrev_tables.specs.declared.decl.Spec.{Spec}
use Rattle.abbrev_tables.specs.Tables.{implicit_const, SpellsName, SpellsConstant, SpellsColumn, IsColumnsEnd}
use Rattle.abbrev_tables.proofs.Unique.{name_once}
use Rattle.entry_arena.specs.Trees.{bytes_between, SpellsBetween}
use Rattle.entry_arena.proofs.Between.{length_between}
use Rattle.tidy_numbers.specs.Fronts.{IsLong, IsLongSigned, Behind}
use Rattle.tidy_numbers.specs.LongTables.{IsLongConstant, IsLongColumn}
use Rattle.tidy_numbers.specs.inside.NumberWalks.{EndsFrom, HoldsFrom, IsFoundFrom, IsFoundBut}
use Rattle.tidy_numbers.proofs.WalkedPlaces.{found_before, found_last, found_all}
use Rattle.tidy_numbers.proofs.WalkedBehind.{then_parts}
use Rattle.tidy_numbers.proofs.WalkedRows.{then_at, found_past, found_left}

-- a name is a number
pub name_is : (n : ℕ) (bytes : List ℕ) (start end : ℕ) → SpellsBetween (SpellsName n) bytes start end → SpellsBetween (Uleb n) bytes start end
name_is n bytes start end stands = record { order = stands.order; inside = stands.inside; spelled = stands.spelled.0 }

pub name_ends : (bytes : List ℕ) (start here : ℕ) → ((n : ℕ) → EndsFrom (Uleb n) bytes start here) → (n : ℕ) → EndsFrom (SpellsName n) bytes start here
name_ends bytes start here ends n end stands = ends n end (name_is n bytes start end stands)

nothing_there : (bytes : List ℕ) (start end : ℕ) → start ≤ end → end ≤ length bytes → bytes_between bytes start end ≡ [] → start ≡ end
nothing_there bytes start end order inside none =
    let size = length_between bytes start end inside in
    let zero_long : length (bytes_between bytes start end) ≡ 0 = ap length none in
    omega (arith, size, zero_long)

-- behind a name
abbrev behind_name : ℕ → ℕ → List ℕ → Type 0
behind_name name inner rest = IsLong inner rest ⊎ ((name ≢ 0) × Behind Uleb IsLongConstant inner rest)

-- what is left behind a name and a form
left_to : (name form : ℕ) (bytes : List ℕ) (named formed : ℕ) → SpellsBetween (Uleb form) bytes named formed → name ≢ 0 → (p : ℕ) → HoldsFrom (behind_name name) bytes named p → HoldsFrom (λ i rest. IsLong i rest ⊎ Behind Uleb IsLongConstant i rest) bytes named p
left_to name form bytes named formed stands some p (inner, inl here, place) = (inner, inl here, place)
left_to name form bytes named formed stands some p (inner, inr there, place) = (inner, inr there.1, place)

left_from : (name form : ℕ) (bytes : List ℕ) (named formed : ℕ) → SpellsBetween (Uleb form) bytes named formed → name ≢ 0 → (p : ℕ) → HoldsFrom (λ i rest. IsLong i rest ⊎ Behind Uleb IsLongConstant i rest) bytes named p → HoldsFrom (behind_name name) bytes named p
left_from name form bytes named formed stands some p (inner, inl here, place) = (inner, inl here, place)
left_from name form bytes named formed stands some p (inner, inr there, place) = (inner, inr (some, there), place)

-- A COLUMN

module _ (column : Spec) (bytes : List ℕ) (start end : ℕ) (stands : SpellsBetween (SpellsColumn column) bytes start end) where
  parts : SpellsBetween (Then SpellsName (λ _. Then Uleb SpellsConstant) (column.name, (column.form, column.constant))) bytes start end
  parts = record { order = stands.order; inside = stands.inside; spelled = stands.spelled.parts }

  pub name_stands : (n : ℕ) × ((k : ℕ) × SpellsBetween (Uleb n) bytes start k)
  name_stands =
      let two = then_parts SpellsName (λ _. Then Uleb SpellsConstant) column.name (column.form, column.constant) bytes start end parts in
      (column.name, (two.mid, name_is column.name bytes start two.mid two.first))

  module _ (named : ℕ) (name_end : (n : ℕ) → EndsFrom (Uleb n) bytes start named) where
    behind_the_name : SpellsBetween (SpellsName column.name) bytes start named × SpellsBetween (Then Uleb SpellsConstant (column.form, column.constant)) bytes named end
    behind_the_name = then_at SpellsName (λ _. Then Uleb SpellsConstant) column.name (column.form, column.constant) bytes start end named parts (name_ends bytes start named name_end column.name)

    pub form_stands : (n : ℕ) × ((k : ℕ) × SpellsBetween (Uleb n) bytes named k)
    form_stands =
        let two = then_parts Uleb SpellsConstant column.form column.constant bytes named end behind_the_name.1 in
        (column.form, (two.mid, two.first))

    module _ (formed : ℕ) (form_end : (n : ℕ) → EndsFrom (Uleb n) bytes named formed) where
      behind_the_form : SpellsBetween (Uleb column.form) bytes named formed × SpellsBetween (SpellsConstant column.form column.constant) bytes formed end
      behind_the_form = then_at Uleb SpellsConstant column.form column.constant bytes named end formed behind_the_name.1 (form_end column.form)

      constant_at : column.form ≡ implicit_const → SpellsBetween (Sleb column.constant) bytes formed end
      constant_at has = elim behind_the_form.1.spelled [
        | inl there ↦ record { order = behind_the_form.1.order; inside = behind_the_form.1.inside; spelled = there.1 }
        | inr none ↦ absurd (none.0 has)
      ]

      pub constant_stands : column.form ≡ implicit_const → (v : ℤ) × ((k : ℕ) × SpellsBetween (Sleb v) bytes formed k)
      constant_stands has = (column.constant, (end, constant_at has))

      pub ends_constant : column.form ≡ implicit_const → (last : ℕ) → ((v : ℤ) → EndsFrom (Sleb v) bytes formed last) → last ≡ end
      ends_constant has last ends = ends column.constant end (constant_at has)

      pub ends_plain : column.form ≢ implicit_const → formed ≡ end
      ends_plain plain = elim behind_the_form.1.spelled [
        | inl there ↦ absurd (plain there.0)
        | inr none ↦ nothing_there bytes formed end behind_the_form.1.order behind_the_form.1.inside none.1.0
      ]

      module _ (before first second : Option ℕ) (found_name : IsFoundFrom before IsLong bytes start first) (found_form : IsFoundFrom first IsLong bytes named second) where
        left : IsFoundBut (λ p. (before ≡ Some p) ⊎ HoldsFrom IsLongColumn bytes start p) (HoldsFrom (IsLongConstant column.form) bytes formed) second
        left =
            let Holds : ℕ → Type 0 = λ p. (before ≡ Some p) ⊎ HoldsFrom IsLongColumn bytes start p in
            let one = found_past SpellsName name_once column.name bytes start named behind_the_name.0 Holds IsLong behind_name before first (found_before (HoldsFrom IsLongColumn bytes start) before) found_name in
            let two = found_left Holds (HoldsFrom (behind_name column.name) bytes named) (HoldsFrom (λ i rest. IsLong i rest ⊎ Behind Uleb IsLongConstant i rest) bytes named) first one (left_to column.name column.form bytes named formed behind_the_form.0 stands.spelled.named) (left_from column.name column.form bytes named formed behind_the_form.0 stands.spelled.named) in
            found_past Uleb unique_u column.form bytes named formed behind_the_form.0 Holds IsLong IsLongConstant first second two found_form

        pub found_constant : column.form ≡ implicit_const → (last : Option ℕ) → IsFoundFrom second IsLongSigned bytes formed last → IsFoundFrom before IsLongColumn bytes start last
        found_constant has last least =
            found_last (λ p. (before ≡ Some p) ⊎ HoldsFrom IsLongColumn bytes start p) (HoldsFrom (IsLongConstant column.form) bytes formed) (HoldsFrom IsLongSigned bytes formed) second last left (λ p there. (there.0, there.1.1, there.2)) (λ p there. (there.0, (has, there.1), there.2)) least

        pub found_plain : column.form ≢ implicit_const → IsFoundFrom before IsLongColumn bytes start second
        found_plain plain = found_all (λ p. (before ≡ Some p) ⊎ HoldsFrom IsLongColumn bytes start p) (HoldsFrom (IsLongConstant column.form) bytes formed) second left (λ p there. plain there.1.0)

-- THE END OF COLUMNS

module _ (bytes : List ℕ) (start end : ℕ) (stands : SpellsBetween IsColumnsEnd bytes start end) where
  pub zero_stands : (n : ℕ) × ((k : ℕ) × SpellsBetween (Uleb n) bytes start k)
  zero_stands =
      let two = then_parts SpellsName (λ _. Uleb) 0 0 bytes start end stands in
      (0, (two.mid, name_is 0 bytes start two.mid two.first))

  module _ (named : ℕ) (name_end : (n : ℕ) → EndsFrom (Uleb n) bytes start named) where
    behind_the_zero : SpellsBetween (SpellsName 0) bytes start named × SpellsBetween (Uleb 0) bytes named end
    behind_the_zero = then_at SpellsName (λ _. Uleb) 0 0 bytes start end named stands (name_ends bytes start named name_end 0)

    pub second_stands : (n : ℕ) × ((k : ℕ) × SpellsBetween (Uleb n) bytes named k)
    second_stands = (0, (end, behind_the_zero.1))

    pub ends_zeros : (last : ℕ) → ((n : ℕ) → EndsFrom (Uleb n) bytes named last) → last ≡ end
    ends_zeros last ends = ends 0 end behind_the_zero.1

    pub found_zeros : (before first second : Option ℕ) → IsFoundFrom before IsLong bytes start first → IsFoundFrom first IsLong bytes named second → IsFoundFrom before IsLongColumn bytes start second
    found_zeros before first second found_name found_form =
        let Holds : ℕ → Type 0 = λ p. (before ≡ Some p) ⊎ HoldsFrom IsLongColumn bytes start p in
        let one = found_past SpellsName name_once 0 bytes start named behind_the_zero.0 Holds IsLong behind_name before first (found_before (HoldsFrom IsLongColumn bytes start) before) found_name in
        found_last Holds (HoldsFrom (behind_name 0) bytes named) (HoldsFrom IsLong bytes named) first second one
        (λ p there. elim there.1 [
          | inl here ↦ (there.0, here, there.2)
          | inr no_name ↦ absurd (no_name.0 refl)
        ])
        (λ p there. (there.0, inl there.1, there.2))
        found_form
