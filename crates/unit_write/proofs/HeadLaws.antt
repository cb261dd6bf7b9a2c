-- A header that is written, as it stands in the new section (DWARF 5 section 7.5.1).
use Rattle.std.proofs.Common.{◌≡◌, ◌≢◌, ◌≤◌, ◌<◌, ◌+◌, ◌-◌, ◌^◌, ℕ, List, [], ◌∷◌, ◌++◌, length, drop, get_or, ◌∙◌, sym, ap, refl, subst, arith, inl, inr}
use Rattle.std.specs.Prelude.{nat_eq, if◌then◌else◌, true}
use Rattle.std.specs.Int.{bytes_low_first}
use Rattle.std.proofs.lemmas.List.{append-nil, append_assoc, length-append, drop_at, get_or_at}
use Rattle.form_codec.specs.declared.form.Width.TheVariants.{Two, Four, Eight}
use Rattle.fixed_width.specs.Numbers.{number, number_at}
use Rattle.fixed_width.proofs.Numbers.{number_back}
use Rattle.form_codec.specs.Written.{low_bytes}
use Rattle.entry_read.specs.declared.head.UnitHead.{UnitHead}
use Rattle.fixed_width.specs.InitialLengths.{unit_length, version, unit_end, least_reserved}
use Rattle.entry_read.specs.Heads.{unit_type, address_size, debug_abbrev_offset, signature, type_offset, type_unit, IsUnitType, header_size, extra_at, type_at, IsHead}
use Rattle.unit_write.specs.inside.Puts.{own_bytes, header_bytes}

number_there : (n v at : ℕ) (section front rest : List ℕ) → length front ≡ at → section ≡ front ++ (bytes_low_first 0 n v ++ rest) → v < 256 ^ n → number_at n at section ≡ v
number_there n v at section front rest size whole few =
    ap (λ (z : List ℕ). number n (drop at z)) whole ∙ ap (number n) (drop_at front (bytes_low_first 0 n v ++ rest) at size) ∙ number_back n v rest few

byte_there : (b at : ℕ) (section front rest : List ℕ) → length front ≡ at → section ≡ front ++ (b ∷ rest) → get_or section at 0 ≡ b
byte_there b at section front rest size whole = ap (λ (z : List ℕ). get_or z at 0) whole ∙ get_or_at front b rest 0 at size

next_part : (section front a rest : List ℕ) → section ≡ front ++ (a ++ rest) → section ≡ (front ++ a) ++ rest
next_part section front a rest whole = whole ∙ sym (append_assoc front a rest)

next_place : (front a : List ℕ) (at n to : ℕ) → length front ≡ at → length a ≡ n → at + n ≡ to → length (front ++ a) ≡ to
next_place front a at n to p q r =
    let size : length (front ++ a) ≡ length front + length a = length-append front a in
    omega arith

-- how many bytes a header has
pub header_len : (len kind table extra offset : ℕ) → IsUnitType kind → length (header_bytes len kind table extra offset) ≡ header_size kind
header_len len kind table extra offset (inl e) = subst (λ (k : ℕ). length (header_bytes len k table extra offset) ≡ header_size k) (sym e) refl
header_len len kind table extra offset (inr (inl e)) = subst (λ (k : ℕ). length (header_bytes len k table extra offset) ≡ header_size k) (sym e) refl
header_len len kind table extra offset (inr (inr (inl e))) = subst (λ (k : ℕ). length (header_bytes len k table extra offset) ≡ header_size k) (sym e) refl
header_len len kind table extra offset (inr (inr (inr e))) = subst (λ (k : ℕ). length (header_bytes len k table extra offset) ≡ header_size k) (sym e) refl

pub some_header : (kind : ℕ) → IsUnitType kind → 12 ≤ header_size kind
some_header kind (inl e) = subst (λ (k : ℕ). 12 ≤ header_size k) (sym e) (omega arith)
some_header kind (inr (inl e)) = subst (λ (k : ℕ). 12 ≤ header_size k) (sym e) (omega arith)
some_header kind (inr (inr (inl e))) = subst (λ (k : ℕ). 12 ≤ header_size k) (sym e) (omega arith)
some_header kind (inr (inr (inr e))) = subst (λ (k : ℕ). 12 ≤ header_size k) (sym e) (omega arith)

abbrev head_of : ℕ → ℕ → ℕ → ℕ → ℕ → ℕ → UnitHead
head_of at l k t x o = record { at = at; len = l; kind = k; table = t; extra = x; type_at = o }

head_same : (at l m k j t s x y o p : ℕ) → l ≡ m → k ≡ j → t ≡ s → x ≡ y → o ≡ p → head_of at l k t x o ≡ head_of at m j s y p
head_same at l m k j t s x y o p e f g h i = cc

module _ (len kind table extra offset : ℕ) (old section body : List ℕ) (whole : section ≡ old ++ (header_bytes len kind table extra offset ++ body)) where
  abbrev a : List ℕ
  a = low_bytes Four len

  abbrev b : List ℕ
  b = low_bytes Two 5

  abbrev t : List ℕ
  t = low_bytes Four table

  abbrev own : List ℕ
  own = own_bytes kind extra offset

  abbrev table_front : List ℕ
  table_front = (((old ++ a) ++ b) ++ kind ∷ []) ++ 8 ∷ []

  version_part : section ≡ (old ++ a) ++ (b ++ (kind ∷ 8 ∷ (t ++ (own ++ body))))
  version_part = next_part section old a (b ++ (kind ∷ 8 ∷ (t ++ (own ++ body)))) whole

  kind_part : section ≡ ((old ++ a) ++ b) ++ (kind ∷ 8 ∷ (t ++ (own ++ body)))
  kind_part = next_part section (old ++ a) b (kind ∷ 8 ∷ (t ++ (own ++ body))) version_part

  address_part : section ≡ (((old ++ a) ++ b) ++ kind ∷ []) ++ (8 ∷ (t ++ (own ++ body)))
  address_part = next_part section ((old ++ a) ++ b) (kind ∷ []) (8 ∷ (t ++ (own ++ body))) kind_part

  table_part : section ≡ table_front ++ (t ++ (own ++ body))
  table_part = next_part section (((old ++ a) ++ b) ++ kind ∷ []) (8 ∷ []) (t ++ (own ++ body)) address_part

  own_part : section ≡ (table_front ++ t) ++ (own ++ body)
  own_part = next_part section table_front t (own ++ body) table_part

  version_place : length (old ++ a) ≡ length old + 4
  version_place = next_place old a (length old) 4 (length old + 4) refl refl refl

  kind_place : length ((old ++ a) ++ b) ≡ length old + 6
  kind_place = next_place (old ++ a) b (length old + 4) 2 (length old + 6) version_place refl (omega arith)

  address_place : length (((old ++ a) ++ b) ++ kind ∷ []) ≡ length old + 7
  address_place = next_place ((old ++ a) ++ b) (kind ∷ []) (length old + 6) 1 (length old + 7) kind_place refl (omega arith)

  table_place : length table_front ≡ length old + 8
  table_place = next_place (((old ++ a) ++ b) ++ kind ∷ []) (8 ∷ []) (length old + 7) 1 (length old + 8) address_place refl (omega arith)

  own_place : length (table_front ++ t) ≡ length old + 12
  own_place = next_place table_front t (length old + 8) 4 (length old + 12) table_place refl (omega arith)

  length_is : len < 2 ^ 32 → unit_length section (length old) ≡ len
  length_is few = number_there 4 len (length old) section old (b ++ (kind ∷ 8 ∷ (t ++ (own ++ body)))) refl whole (omega arith)

  version_is : version section (length old) ≡ 5
  version_is = number_there 2 5 (length old + 4) section (old ++ a) (kind ∷ 8 ∷ (t ++ (own ++ body))) version_place version_part (omega arith)

  kind_is : unit_type section (length old) ≡ kind
  kind_is = byte_there kind (length old + 6) section ((old ++ a) ++ b) (8 ∷ (t ++ (own ++ body))) kind_place kind_part

  address_is : address_size section (length old) ≡ 8
  address_is = byte_there 8 (length old + 7) section (((old ++ a) ++ b) ++ kind ∷ []) (t ++ (own ++ body)) address_place address_part

  table_is : table < 2 ^ 32 → debug_abbrev_offset section (length old) ≡ table
  table_is few = number_there 4 table (length old + 8) section table_front (own ++ body) table_place table_part (omega arith)

  signature_is : (rest : List ℕ) → own ≡ low_bytes Eight extra ++ rest → extra < 2 ^ 64 → signature section (length old) ≡ extra
  signature_is rest e few =
      number_there 8 extra (length old + 12) section (table_front ++ t) (rest ++ body) own_place (own_part ∙ ap (λ (z : List ℕ). (table_front ++ t) ++ (z ++ body)) e) (omega arith)

  offset_is : own ≡ low_bytes Eight extra ++ low_bytes Four offset → offset < 2 ^ 32 → type_offset section (length old) ≡ offset
  offset_is e few =
      let part : section ≡ ((table_front ++ t) ++ low_bytes Eight extra) ++ (low_bytes Four offset ++ body) = next_part section (table_front ++ t) (low_bytes Eight extra) (low_bytes Four offset ++ body) (own_part ∙ ap (λ (z : List ℕ). (table_front ++ t) ++ (z ++ body)) e) in
      let there : length ((table_front ++ t) ++ low_bytes Eight extra) ≡ length old + 20 = next_place (table_front ++ t) (low_bytes Eight extra) (length old + 12) 8 (length old + 20) own_place refl (omega arith) in
      number_there 4 offset (length old + 20) section ((table_front ++ t) ++ low_bytes Eight extra) body there part (omega arith)

  -- the fields that only some headers have
  abbrev OwnAre : Type 0
  OwnAre = (extra ≡ extra_at section (length old)) × (offset ≡ type_at section (length old))

  own_bytes_at : (k : ℕ) → kind ≡ k → own ≡ own_bytes k extra offset
  own_bytes_at k e = ap (λ (z : ℕ). own_bytes z extra offset) e

  extra_as : (k : ℕ) → kind ≡ k → extra_at section (length old) ≡ (if nat_eq (header_size k) 12 then 0 else signature section (length old))
  extra_as k e = ap (λ (z : ℕ). if nat_eq (header_size z) 12 then 0 else signature section (length old)) (kind_is ∙ e)

  type_as : (k : ℕ) → kind ≡ k → type_at section (length old) ≡ (if nat_eq k type_unit then type_offset section (length old) else 0)
  type_as k e = ap (λ (z : ℕ). if nat_eq z type_unit then type_offset section (length old) else 0) (kind_is ∙ e)

  own_are : IsUnitType kind → extra < 2 ^ 64 → offset < 2 ^ 32 → (nat_eq (header_size kind) 12 ≡ true → extra ≡ 0) → (kind ≢ type_unit → offset ≡ 0) → OwnAre
  own_are (inl e) wide few no_extra no_offset =
      let none : extra ≡ 0 = no_extra (ap (λ (z : ℕ). nat_eq (header_size z) 12) e) in
      let other : kind ≢ type_unit = λ is. absurd (omega (arith, e, is)) in
      (none ∙ sym (extra_as 1 e), no_offset other ∙ sym (type_as 1 e))
  own_are (inr (inl e)) wide few no_extra no_offset =
      (sym (extra_as 2 e ∙ signature_is (low_bytes Four offset) (own_bytes_at 2 e) wide), sym (type_as 2 e ∙ offset_is (own_bytes_at 2 e) few))
  own_are (inr (inr (inl e))) wide few no_extra no_offset =
      let none : extra ≡ 0 = no_extra (ap (λ (z : ℕ). nat_eq (header_size z) 12) e) in
      let other : kind ≢ type_unit = λ is. absurd (omega (arith, e, is)) in
      (none ∙ sym (extra_as 3 e), no_offset other ∙ sym (type_as 3 e))
  own_are (inr (inr (inr e))) wide few no_extra no_offset =
      let other : kind ≢ type_unit = λ is. absurd (omega (arith, e, is)) in
      (sym (extra_as 4 e ∙ signature_is [] (own_bytes_at 4 e ∙ sym (append-nil (low_bytes Eight extra))) wide), no_offset other ∙ sym (type_as 4 e))

  pub is_head : IsUnitType kind → extra < 2 ^ 64 → offset < 2 ^ 32 → table < 2 ^ 32 → (nat_eq (header_size kind) 12 ≡ true → extra ≡ 0) → (kind ≢ type_unit → offset ≡ 0) → len < least_reserved → length section ≡ length old + 4 + len → IsHead section (head_of (length old) (length section - length old) kind table extra offset)
  is_head of_type wide few narrow no_extra no_offset usual size =
      let long : unit_length section (length old) ≡ len = length_is (omega arith) in
      let hs : length (header_bytes len kind table extra offset) ≡ header_size kind = header_len len kind table extra offset of_type in
      let all : length section ≡ length old + (length (header_bytes len kind table extra offset) + length body) = ap length whole ∙ length-append old (header_bytes len kind table extra offset ++ body) ∙ ap (λ (n : ℕ). length old + n) (length-append (header_bytes len kind table extra offset) body) in
      let end : unit_end section (length old) ≡ length section = ap (λ (n : ℕ). length old + 4 + n) long ∙ sym size in
      let own_is = own_are of_type wide few no_extra no_offset in
      let fits : length old + header_size kind ≤ unit_end section (length old) = omega (arith, hs, all, end) in
      record {
        rules = record {
          usual = subst (λ (n : ℕ). n < least_reserved) (sym long) usual;
          inside = omega (arith, end);
          of_version = version_is;
          of_type = subst IsUnitType (sym kind_is) of_type;
          of_addresses = address_is;
          fits = subst (λ (k : ℕ). length old + header_size k ≤ unit_end section (length old)) (sym kind_is) fits;
        };
        fields = head_same (length old) (length section - length old) (unit_end section (length old) - length old) kind (unit_type section (length old)) table (debug_abbrev_offset section (length old)) extra (extra_at section (length old)) offset (type_at section (length old)) (ap (λ (n : ℕ). n - length old) (sym end)) (sym kind_is) (sym (table_is narrow)) own_is.0 own_is.1;
      }
