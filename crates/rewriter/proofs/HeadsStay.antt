-- A header of a unit stands in a section that has more bytes behind.
use Rattle.std.proofs.Common.{◌≡◌, ◌≤◌, ◌<◌, ◌+◌, ◌-◌, ◌++◌, ℕ, List, length, slice_index, ◌∙◌, sym, ap, refl, subst, arith}
use Rattle.std.specs.Prelude.{Bool, true, false, nat_eq, if◌then◌else◌}
use Rattle.std.proofs.lemmas.List.{length-append}
use Rattle.std.proofs.Math.ListN.{get_or-append}
use Rattle.fixed_width.specs.Numbers.{number_at}
use Rattle.fixed_width.proofs.Numbers.{number_same}
use Rattle.entry_read.specs.declared.head.UnitHead.{UnitHead}
use Rattle.fixed_width.specs.InitialLengths.{unit_length, version, unit_end}
use Rattle.entry_read.specs.Heads.{unit_type, address_size, debug_abbrev_offset, signature, type_offset, header_size, IsUnitType, type_unit, skeleton_unit, HasHead, extra_at, type_at, head_at, IsHead}

number_stays : (n at : ℕ) (section more : List ℕ) → at + n ≤ length section → number_at n at (section ++ more) ≡ number_at n at section
number_stays n at section more inside = number_same n at (section ++ more) section (λ k low high. get_or-append section more 0 k (omega arith))

byte_stays : (at : ℕ) (section more : List ℕ) → at < length section → slice_index (section ++ more) at ≡ slice_index section at
byte_stays at section more inside = get_or-append section more 0 at inside

-- sizes of headers
least_size : (b c : Bool) → 12 ≤ (if b then 24 else if c then 20 else 12)
least_size true c = omega arith
least_size false true = omega arith
least_size false false = omega arith

extra_size : (b c : Bool) → nat_eq (if b then 24 else if c then 20 else 12) 12 ≡ false → 20 ≤ (if b then 24 else if c then 20 else 12)
extra_size true c other = omega arith
extra_size false true other = omega arith
extra_size false false other = absurd (cc)

type_size : (b c : Bool) → b ≡ true → 24 ≤ (if b then 24 else if c then 20 else 12)
type_size true c same = omega arith
type_size false c same = absurd (cc)

else_same : (b : Bool) (x y : ℕ) → (b ≡ false → x ≡ y) → (if b then 0 else x) ≡ (if b then 0 else y)
else_same true x y same = refl
else_same false x y same = same refl

then_same : (b : Bool) (x y : ℕ) → (b ≡ true → x ≡ y) → (if b then x else 0) ≡ (if b then y else 0)
then_same true x y same = same refl
then_same false x y same = refl

module _ (section more : List ℕ) (at : ℕ) (h : HasHead section at) where
  room : at + header_size (unit_type section at) ≤ length section
  room =
      let fits : at + header_size (unit_type section at) ≤ unit_end section at = h.fits in
      let inside : unit_end section at ≤ length section = h.inside in
      omega arith

  twelve : at + 12 ≤ length section
  twelve =
      let least : 12 ≤ header_size (unit_type section at) = least_size (nat_eq (unit_type section at) type_unit) (nat_eq (unit_type section at) skeleton_unit) in
      let all : at + header_size (unit_type section at) ≤ length section = room in
      omega arith

  length_stays : unit_length (section ++ more) at ≡ unit_length section at
  length_stays = number_stays 4 at section more (let t : at + 12 ≤ length section = twelve in omega arith)

  version_stays : version (section ++ more) at ≡ version section at
  version_stays = number_stays 2 (at + 4) section more (let t : at + 12 ≤ length section = twelve in omega arith)

  kind_stays : unit_type (section ++ more) at ≡ unit_type section at
  kind_stays = byte_stays (at + 6) section more (let t : at + 12 ≤ length section = twelve in omega arith)

  addresses_stay : address_size (section ++ more) at ≡ address_size section at
  addresses_stay = byte_stays (at + 7) section more (let t : at + 12 ≤ length section = twelve in omega arith)

  table_stays : debug_abbrev_offset (section ++ more) at ≡ debug_abbrev_offset section at
  table_stays = number_stays 4 (at + 8) section more (let t : at + 12 ≤ length section = twelve in omega arith)

  extra_stays : extra_at (section ++ more) at ≡ extra_at section at
  extra_stays =
      ap (λ (k : ℕ). if nat_eq (header_size k) 12 then 0 else signature (section ++ more) at) kind_stays
      ∙ else_same (nat_eq (header_size (unit_type section at)) 12) (signature (section ++ more) at) (signature section at) (λ other.
      let wide : 20 ≤ header_size (unit_type section at) = extra_size (nat_eq (unit_type section at) type_unit) (nat_eq (unit_type section at) skeleton_unit) other in
      let all : at + header_size (unit_type section at) ≤ length section = room in
      number_stays 8 (at + 12) section more (omega arith))

  type_stays : type_at (section ++ more) at ≡ type_at section at
  type_stays =
      ap (λ (k : ℕ). if nat_eq k type_unit then type_offset (section ++ more) at else 0) kind_stays
      ∙ then_same (nat_eq (unit_type section at) type_unit) (type_offset (section ++ more) at) (type_offset section at) (λ same.
      let wide : 24 ≤ header_size (unit_type section at) = type_size (nat_eq (unit_type section at) type_unit) (nat_eq (unit_type section at) skeleton_unit) same in
      let all : at + header_size (unit_type section at) ≤ length section = room in
      number_stays 4 (at + 20) section more (omega arith))

  end_stays : unit_end (section ++ more) at ≡ unit_end section at
  end_stays = ap (λ (n : ℕ). at + 4 + n) length_stays

  rules_stay : HasHead (section ++ more) at
  rules_stay =
      let longer : length (section ++ more) ≡ length section + length more = length-append section more in
      let same_end : unit_end (section ++ more) at ≡ unit_end section at = end_stays in
      let inside : unit_end section at ≤ length section = h.inside in
      record {
        usual = subst (λ (n : ℕ). n < 4294967280) (sym length_stays) h.usual;
        inside = omega arith;
        of_version = version_stays ∙ h.of_version;
        of_type = subst IsUnitType (sym kind_stays) h.of_type;
        of_addresses = addresses_stay ∙ h.of_addresses;
        fits = subst (λ (k : ℕ). at + header_size k ≤ unit_end (section ++ more) at) (sym kind_stays) (subst (λ (n : ℕ). at + header_size (unit_type section at) ≤ n) (sym end_stays) h.fits);
      }

  head_same : head_at (section ++ more) at ≡ head_at section at
  head_same =
      let a = end_stays in
      let b = kind_stays in
      let c = table_stays in
      let d = extra_stays in
      let e = type_stays in
      ap (λ (n : ℕ). record { at = at; len = n - at; kind = unit_type (section ++ more) at; table = debug_abbrev_offset (section ++ more) at; extra = extra_at (section ++ more) at; type_at = type_at (section ++ more) at }) a
      ∙ ap (λ (n : ℕ). record { at = at; len = unit_end section at - at; kind = n; table = debug_abbrev_offset (section ++ more) at; extra = extra_at (section ++ more) at; type_at = type_at (section ++ more) at }) b
      ∙ ap (λ (n : ℕ). record { at = at; len = unit_end section at - at; kind = unit_type section at; table = n; extra = extra_at (section ++ more) at; type_at = type_at (section ++ more) at }) c
      ∙ ap (λ (n : ℕ). record { at = at; len = unit_end section at - at; kind = unit_type section at; table = debug_abbrev_offset section at; extra = n; type_at = type_at (section ++ more) at }) d
      ∙ ap (λ (n : ℕ). record { at = at; len = unit_end section at - at; kind = unit_type section at; table = debug_abbrev_offset section at; extra = extra_at section at; type_at = n }) e

-- a header of the front is one of the whole
pub head_stays : (section more : List ℕ) (head : UnitHead) → IsHead section head → IsHead (section ++ more) head
head_stays section more head is = record {
  rules = rules_stay section more head.at is.rules;
  fields = is.fields ∙ sym (head_same section more head.at is.rules);
}
