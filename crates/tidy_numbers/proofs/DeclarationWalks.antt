-- The numbers of declarations, and the code 0 behind them.
use Rattle.std.proofs.Common.{◌≡◌, ◌≤◌, ◌+◌, ◌⊎◌, ℕ, List, length, Option, Some, ap, subst, inl, inr, arith}
use Rattle.std.specs.Prelude.{Bool, true, false}
use Rattle.spelled.specs.Spelled.{HasUniqueFronts, Then}
use Rattle.leb_codec.specs.Leb.{Uleb}
use Rattle.leb_codec.proofs.Fronts.{unique_u}
use Rattle.abbrev_tables.specs.declared.decl.Spec.{Spec}
use Rattle.abbrev_tables.specs.Tables.{SpellsName, SpellsColumn, SpellsColumns, SpellsChildren, Declared, SpellsDeclared, IsTableEnd}
use Rattle.abbrev_tables.proofs.Unique.{name_once, children_once, declared_once}
use Rattle.entry_arena.specs.Trees.{bytes_between, SpellsBetween}
use Rattle.entry_arena.proofs.Between.{length_between, spells_once}
use Rattle.tidy_numbers.specs.Fronts.{IsLong, Behind, BehindSome}
use Rattle.tidy_numbers.specs.LongTables.{IsLongColumn, SpellsCode, IsLongDeclared}
use Rattle.tidy_numbers.specs.inside.NumberWalks.{EndsFrom, HoldsFrom, IsFoundFrom}
use Rattle.tidy_numbers.proofs.WalkedPlaces.{found_before, found_last, found_same}
use Rattle.tidy_numbers.proofs.WalkedBehind.{then_parts, behind_to, behind_from, same_rest}
use Rattle.tidy_numbers.proofs.WalkedRows.{then_at, found_past}
use Rattle.tidy_numbers.proofs.ColumnWalks.{name_is, name_ends}

pub code_once : HasUniqueFronts SpellsCode
code_once v w a b x y p q h = unique_u v w a b x y p.0 q.0 h

children_size : (children : Bool) (bytes : List ℕ) → SpellsChildren children bytes → length bytes ≡ 1
children_size true bytes is = ap length is
children_size false bytes is = ap length is

-- the byte for children is one
children_end : (children : Bool) (bytes : List ℕ) (start end : ℕ) → SpellsBetween (SpellsChildren children) bytes start end → start + 1 ≡ end
children_end children bytes start end stands =
    let order : start ≤ end = stands.order in
    let size = length_between bytes start end stands.inside in
    let one = children_size children (bytes_between bytes start end) stands.spelled in
    omega (arith, size, one)

-- behind a tag, and behind a code
abbrev behind_tag : ℕ → ℕ → List ℕ → Type 0
behind_tag tag inner rest = Behind SpellsChildren (λ children. BehindSome SpellsColumn IsLongColumn) inner rest

abbrev behind_code : ℕ → ℕ → List ℕ → Type 0
behind_code code inner rest = IsLong inner rest ⊎ Behind SpellsName behind_tag inner rest

-- A DECLARATION

module _ (d : Declared) (bytes : List ℕ) (start end : ℕ) (stands : SpellsBetween (SpellsDeclared d) bytes start end) where
  parts : SpellsBetween (Then Uleb (λ _. Then SpellsName (λ _. Then SpellsChildren (λ _. SpellsColumns))) (d.code, (d.tag, (d.children, d.columns)))) bytes start end
  parts = record { order = stands.order; inside = stands.inside; spelled = stands.spelled.parts }

  pub code_stands : (n : ℕ) × ((k : ℕ) × SpellsBetween (Uleb n) bytes start k)
  code_stands =
      let two = then_parts Uleb (λ _. Then SpellsName (λ _. Then SpellsChildren (λ _. SpellsColumns))) d.code (d.tag, (d.children, d.columns)) bytes start end parts in
      (d.code, (two.mid, two.first))

  module _ (coded : ℕ) (code_end : (n : ℕ) → EndsFrom (Uleb n) bytes start coded) where
    behind_the_code : SpellsBetween (Uleb d.code) bytes start coded × SpellsBetween (Then SpellsName (λ _. Then SpellsChildren (λ _. SpellsColumns)) (d.tag, (d.children, d.columns))) bytes coded end
    behind_the_code = then_at Uleb (λ _. Then SpellsName (λ _. Then SpellsChildren (λ _. SpellsColumns))) d.code (d.tag, (d.children, d.columns)) bytes start end coded parts (code_end d.code)

    code_at : SpellsBetween (SpellsCode d.code) bytes start coded
    code_at = record { order = behind_the_code.0.order; inside = behind_the_code.0.inside; spelled = (behind_the_code.0.spelled, stands.spelled.coded) }

    pub tag_stands : (n : ℕ) × ((k : ℕ) × SpellsBetween (Uleb n) bytes coded k)
    tag_stands =
        let two = then_parts SpellsName (λ _. Then SpellsChildren (λ _. SpellsColumns)) d.tag (d.children, d.columns) bytes coded end behind_the_code.1 in
        (d.tag, (two.mid, name_is d.tag bytes coded two.mid two.first))

    module _ (tagged : ℕ) (tag_end : (n : ℕ) → EndsFrom (Uleb n) bytes coded tagged) where
      behind_the_tag : SpellsBetween (SpellsName d.tag) bytes coded tagged × SpellsBetween (Then SpellsChildren (λ _. SpellsColumns) (d.children, d.columns)) bytes tagged end
      behind_the_tag = then_at SpellsName (λ _. Then SpellsChildren (λ _. SpellsColumns)) d.tag (d.children, d.columns) bytes coded end tagged behind_the_code.1 (name_ends bytes coded tagged tag_end d.tag)

      behind_the_flag : SpellsBetween (SpellsChildren d.children) bytes tagged (tagged + 1) × SpellsBetween (SpellsColumns d.columns) bytes (tagged + 1) end
      behind_the_flag = then_at SpellsChildren (λ _. SpellsColumns) d.children d.columns bytes tagged end (tagged + 1) behind_the_tag.1 (λ k there. children_end d.children bytes tagged k there)

      pub flag_inside : tagged + 1 ≤ length bytes
      flag_inside = behind_the_flag.0.inside

      columns_at : (columns : List Spec) → d.columns ≡ columns → SpellsBetween (SpellsColumns columns) bytes (tagged + 1) end
      columns_at columns same = subst (λ (z : List Spec). SpellsBetween (SpellsColumns z) bytes (tagged + 1) end) same behind_the_flag.1

      pub columns_stand : (columns : List Spec) → d.columns ≡ columns → (k : ℕ) × SpellsBetween (SpellsColumns columns) bytes (tagged + 1) k
      columns_stand columns same = (end, columns_at columns same)

      pub ends_columns : (columns : List Spec) → d.columns ≡ columns → (last : ℕ) → EndsFrom (SpellsColumns columns) bytes (tagged + 1) last → last ≡ end
      ends_columns columns same last ends = ends end (columns_at columns same)

      pub found_declared : (before first second last : Option ℕ) → IsFoundFrom before IsLong bytes start first → IsFoundFrom first IsLong bytes coded second → IsFoundFrom second (BehindSome SpellsColumn IsLongColumn) bytes (tagged + 1) last → IsFoundFrom before IsLongDeclared bytes start last
      found_declared before first second last found_code found_tag found_columns =
          let Holds : ℕ → Type 0 = λ p. (before ≡ Some p) ⊎ HoldsFrom IsLongDeclared bytes start p in
          let one = found_past SpellsCode code_once d.code bytes start coded code_at Holds IsLong behind_code before first (found_before (HoldsFrom IsLongDeclared bytes start) before) found_code in
          let two = found_past SpellsName name_once d.tag bytes coded tagged behind_the_tag.0 Holds IsLong behind_tag first second one found_tag in
          found_last Holds (HoldsFrom (behind_tag d.tag) bytes tagged) (HoldsFrom (BehindSome SpellsColumn IsLongColumn) bytes (tagged + 1)) second last two
          (behind_to SpellsChildren children_once d.children bytes tagged (tagged + 1) behind_the_flag.0 (λ children. BehindSome SpellsColumn IsLongColumn))
          (behind_from SpellsChildren children_once d.children bytes tagged (tagged + 1) behind_the_flag.0 (λ children. BehindSome SpellsColumn IsLongColumn))
          found_columns

-- declarations at one place have one end
pub one_declared : (d e : Declared) (bytes : List ℕ) (start a b : ℕ) → SpellsBetween (SpellsDeclared d) bytes start a → SpellsBetween (SpellsDeclared e) bytes start b → a ≡ b
one_declared d e bytes start a b p q = (spells_once SpellsDeclared declared_once bytes d e start a b p q).0

-- THE END OF A TABLE

-- behind the code 0 there is nothing of the table
pub found_end : (bytes : List ℕ) (start end : ℕ) → SpellsBetween IsTableEnd bytes start end → (before last : Option ℕ) → IsFoundFrom before IsLong bytes start last → IsFoundFrom before IsLongDeclared bytes start last
found_end bytes start end stands before last least =
    found_same (λ p. (before ≡ Some p) ⊎ HoldsFrom IsLong bytes start p) (λ p. (before ≡ Some p) ⊎ HoldsFrom IsLongDeclared bytes start p) last least
    (λ p h. elim h [
      | inl is ↦ inl is
      | inr there ↦ inr (there.0, inl there.1, there.2)
    ])
    (λ p h. elim h [
      | inl is ↦ inl is
      | inr there ↦ elim there.1 [
        | inl here ↦ inr (there.0, here, there.2)
        | inr behind ↦
            let coded = behind.4 in
            absurd (coded.1 (same_rest Uleb unique_u 0 bytes start end stands behind.0 behind.1 behind.2 coded.0 behind.6).0)
      ]
    ])
