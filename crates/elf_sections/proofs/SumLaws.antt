-- The numbers of texts, byte by byte.
use Rattle.std.proofs.Common.{◌≡◌, ◌≤◌, ◌<◌, ◌+◌, ◌-◌, ◌*◌, ◌++◌, inl, inr, ℕ, suc, List, [], ◌∷◌, Bool, true, false, cond, ◌==◌, not, length, take, drop, get_or, sym, ap, refl, ◌∙◌, arith, zero-le}
use Rattle.std.specs.List.{position_or_len, before_first}
use Rattle.std.proofs.lemmas.Bool.{cases_lt}
use Rattle.std.proofs.lemmas.List.{drop_more, drop_all, get_or_append_left, get_or_push}
use Rattle.elf_sections.specs.Elf.{names_index, name_offset, body_of}
use Rattle.elf_sections.specs.Names.{text_at, names_of, name_of}
use Rattle.elf_sections.specs.inside.Sums.{mix, sum_of}

one_more : (n : ℕ) → 1 + n ≡ suc n
one_more n = omega arith

-- the text that begins with a byte
text_step : (zero : Bool) (n byte : ℕ) (rest : List ℕ) → take (cond (not zero) (1 + n) 0) (byte ∷ rest) ≡ cond zero [] (byte ∷ take n rest)
text_step true n byte rest = refl
text_step false n byte rest = ap (λ (k : ℕ). take k (byte ∷ rest)) (one_more n)

sum_step : (zero : Bool) (factor byte : ℕ) (rest : List ℕ) → sum_of factor (cond zero [] (byte ∷ rest)) ≡ cond zero 0 (mix factor (sum_of factor rest) byte)
sum_step true factor byte rest = refl
sum_step false factor byte rest = refl

-- the number of the text from a place on, by that of the text from the next place on
pub sum_more : (factor : ℕ) (bytes : List ℕ) (at : ℕ) → at < length bytes → sum_of factor (text_at bytes at) ≡ cond (get_or bytes at 0 == 0) 0 (mix factor (sum_of factor (text_at bytes (at + 1))) (get_or bytes at 0))
sum_more factor bytes at inside =
    let byte = get_or bytes at 0 in
    let rest = drop (at + 1) bytes in
    ap (λ (z : List ℕ). sum_of factor (before_first (λ b. b == 0) z)) (drop_more bytes at 0 inside)
    ∙ ap (sum_of factor) (text_step (byte == 0) (position_or_len (λ b. b == 0) rest) byte rest)
    ∙ sum_step (byte == 0) factor byte (text_at bytes (at + 1))

-- no text begins past the end
pub sum_past : (factor : ℕ) (bytes : List ℕ) (at : ℕ) → length bytes ≤ at → sum_of factor (text_at bytes at) ≡ 0
sum_past factor bytes at past = ap (λ (z : List ℕ). sum_of factor (before_first (λ b. b == 0) z)) (drop_all at bytes past)

-- the name of a section is a text of the section that holds the names
named : (none : Bool) (bytes : List ℕ) (at : ℕ) → text_at (cond none [] bytes) at ≡ cond none [] (text_at (cond none [] bytes) at)
named true bytes at = ap (before_first (λ b. b == 0)) (drop_all at [] zero-le)
named false bytes at = refl

pub sum_of_name : (factor : ℕ) (file : List ℕ) (i : ℕ) (name bytes : List ℕ) (place sum : ℕ) → sum ≡ sum_of factor (text_at bytes place) → bytes ≡ names_of file → place ≡ name_offset file i → name ≡ name_of file i → sum ≡ sum_of factor name
sum_of_name factor file i name bytes place sum is bytes_are place_is named_so =
    let text : text_at (names_of file) (name_offset file i) ≡ name_of file i = named (names_index file == 0) (body_of file (names_index file)) (name_offset file i) in
    is
    ∙ ap (λ (z : List ℕ). sum_of factor (text_at z place)) bytes_are
    ∙ ap (λ (k : ℕ). sum_of factor (text_at (names_of file) k)) place_is
    ∙ ap (sum_of factor) (text ∙ sym named_so)

-- one byte more
pub sum_one_before : (factor : ℕ) (bytes : List ℕ) (at sum more : ℕ) → 0 < at → at ≤ length bytes → sum ≡ sum_of factor (text_at bytes at) → more ≡ cond (get_or bytes (at - 1) 0 == 0) 0 (mix factor sum (get_or bytes (at - 1) 0)) → more ≡ sum_of factor (text_at bytes (at - 1))
sum_one_before factor bytes at sum more some inside is more_is =
    let byte = get_or bytes (at - 1) 0 in
    let next : at ≡ at - 1 + 1 = omega (arith, some) in
    more_is
    ∙ ap (λ (z : ℕ). cond (byte == 0) 0 (mix factor z byte)) (is ∙ ap (λ (k : ℕ). sum_of factor (text_at bytes k)) next)
    ∙ sym (sum_more factor bytes (at - 1) (omega (arith, some, inside)))

-- the numbers of texts at places a stride of 64 bytes apart, from the end on
abbrev pub AreSums : ℕ → List ℕ → List ℕ → ℕ → Type 0
AreSums factor bytes marks n = (k : ℕ) → k ≤ n → get_or marks k 0 ≡ sum_of factor (text_at bytes (length bytes - 64 * k))

pub marks_more : (factor : ℕ) (bytes marks : List ℕ) (n sum : ℕ) → length marks ≡ n + 1 → AreSums factor bytes marks n → sum ≡ sum_of factor (text_at bytes (length bytes - 64 * n - 64)) → AreSums factor bytes (marks ++ sum ∷ []) (n + 1)
marks_more factor bytes marks n sum count sums is k most = elim (cases_lt k (n + 1)) [
  | inl less ↦ get_or_append_left marks (sum ∷ []) 0 k (omega (arith, count, less)) ∙ sums k (omega (arith, less))
  | inr past ↦
      let here : length marks ≡ k = omega (arith, count, most, past) in
      let place : length bytes - 64 * n - 64 ≡ length bytes - 64 * k = omega (arith, most, past) in
      get_or_push marks sum 0 k here ∙ is ∙ ap (λ (at : ℕ). sum_of factor (text_at bytes at)) place
]
