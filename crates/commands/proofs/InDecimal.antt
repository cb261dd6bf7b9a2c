-- Words that are numbers in decimal.
use Rattle.std.proofs.Common.{◌≡◌, ◌≢◌, ◌∙◌, ◌<◌, ◌≤◌, ◌^◌, ◌&&◌, ℕ, List, [], ◌∷◌, zero, suc, length, get_or, refl, sym, ap, subst, inl, inr, arith, true, Some, None, if◌then◌else◌, nat_le, bytes_eq, decimal}
use Rattle.std.specs.Str.Parse.{IsNumeral, digits_value, without_leading_plus}
use Rattle.std.proofs.lemmas.Slice.Eq.{bytes_eq-Decides}
use Rattle.std.proofs.lemmas.Fmt.{decimal-digits_value, decimal_is_IsNumeral, first_decimal, decimal_digit}
use Rattle.std.proofs.lemmas.Str.Parse.{numerals_by_value, tells_digits, digit_from_value, without_leading_plus_none}
use Rattle.std.proofs.lemmas.Bool.{cases_Bool, leb-true, and_parts}
use Rattle.commands.specs.Words.{number_in}

-- a word that writes a number is that number, where it is in the range
pub number_in_decimal : (least most n : ℕ) (word : List ℕ) → n < 2 ^ 64 → word ≡ decimal n → number_in least most word ≡ (if nat_le least n && nat_le n most then Some n else None)
unfolding number_in
number_in_decimal least most n word small is =
    let value : digits_value 10 word ≡ n = ap (digits_value 10) is ∙ (decimal_is_IsNumeral n small).1 in
    let same : bytes_eq word (decimal n) ≡ true = (bytes_eq-Decides word (decimal n)).1 is in
    rw (value, same) refl

-- a numeral without a zero before other digits writes its value
pub plain_decimal : (word : List ℕ) → IsNumeral 10 word → (get_or word 0 0 ≡ 48 → length word ≡ 1) → digits_value 10 word < 2 ^ 64 → word ≡ decimal (digits_value 10 word)
plain_decimal word numeral plain small = sym (decimal-digits_value (numerals_by_value _ tells_digits) word numeral.1 numeral.0 plain small)

-- what is written of a number begins with a digit, which is 0 for 0 alone
pub decimal_plain : (n : ℕ) → n < 2 ^ 64 → (get_or (decimal n) 0 0 ≢ 43) × (get_or (decimal n) 0 0 ≡ 48 → length (decimal n) ≡ 1)
decimal_plain n small = (begins n small, alone n small)
  where
    digit : (ds : List ℕ) → IsNumeral 10 ds → get_or ds 0 0 ≢ 43
    digit [] numeral is = absurd (omega (arith, numeral.0))
    digit (c ∷ cs) numeral is = let k = digit_from_value c numeral.1.0 in omega (arith, k.0, is)

    begins : (n : ℕ) → n < 2 ^ 64 → get_or (decimal n) 0 0 ≢ 43
    begins n small = digit (decimal n) (decimal_is_IsNumeral n small).0

    alone : (n : ℕ) → n < 2 ^ 64 → get_or (decimal n) 0 0 ≡ 48 → length (decimal n) ≡ 1
    alone zero small is = ap length (decimal_digit 0 (omega arith))
    alone (suc n) small is = absurd (omega (arith, first_decimal (suc n) (omega arith) small, is))

-- a word that writes no number of the range is none
pub none_in_decimal : (least most : ℕ) (word : List ℕ) → ((n : ℕ) → n ≤ most → word ≡ decimal n → ⊥) → number_in least most word ≡ None
unfolding number_in
none_in_decimal least most word other =
    let v : ℕ = digits_value 10 word in
    elim (cases_Bool (bytes_eq word (decimal v) && nat_le least v && nat_le v most)) [
      | inl holds ↦
          let parts = and_parts (bytes_eq word (decimal v) && nat_le least v) (nat_le v most) holds in
          let written = and_parts (bytes_eq word (decimal v)) (nat_le least v) parts.0 in
          absurd (other v (leb-true v most parts.1) ((bytes_eq-Decides word (decimal v)).0 written.0))
      | inr fails ↦ rw fails refl
    ]

-- what `parse` reads of a word
pub number_read : (least most n : ℕ) (word : List ℕ) → IsNumeral 10 (without_leading_plus word) × (n ≡ digits_value 10 (without_leading_plus word)) → n < 2 ^ 64 → get_or word 0 0 ≢ 43 → (get_or word 0 0 ≡ 48 → length word ≡ 1) → number_in least most word ≡ (if nat_le least n && nat_le n most then Some n else None)
number_read least most n word read small no_plus plain =
    let whole = without_leading_plus_none word no_plus in
    let numeral = subst (λ (l : List ℕ). IsNumeral 10 l) whole read.0 in
    let value : n ≡ digits_value 10 word = read.1 ∙ ap (digits_value 10) whole in
    number_in_decimal least most n word small (plain_decimal word numeral plain (omega (arith, value, small)) ∙ ap decimal (sym value))

-- a word that `parse` doesn't read
pub number_unread : (least most : ℕ) (word : List ℕ) → most < 2 ^ 32 → ¬ (IsNumeral 10 (without_leading_plus word) × (digits_value 10 (without_leading_plus word) < 2 ^ 32)) → number_in least most word ≡ None
number_unread least most word small unread =
    none_in_decimal least most word (λ n fits is.
    let wide : n < 2 ^ 64 = omega arith in
    let whole = without_leading_plus_none word (subst (λ (l : List ℕ). get_or l 0 0 ≢ 43) (sym is) (decimal_plain n wide).0) ∙ is in
    let read = decimal_is_IsNumeral n wide in
    unread (subst (λ (l : List ℕ). IsNumeral 10 l) (sym whole) read.0, omega (arith, ap (digits_value 10) whole, read.1, fits)))

-- a word that begins with a plus, or with a zero before others
pub number_unplain : (least most : ℕ) (word : List ℕ) → most < 2 ^ 32 → ¬ ((get_or word 0 0 ≢ 43) × (get_or word 0 0 ≡ 48 → length word ≡ 1)) → number_in least most word ≡ None
number_unplain least most word small unplain =
    none_in_decimal least most word (λ n fits is. unplain (subst (λ (l : List ℕ). (get_or l 0 0 ≢ 43) × (get_or l 0 0 ≡ 48 → length l ≡ 1)) (sym is) (decimal_plain n (omega arith))))
