-- The first byte of .debug_line that isn't the one that stood there.
use Rattle.std.proofs.Common.{◌≡◌, ◌≢◌, ◌≤◌, ◌<◌, ◌+◌, ◌⊎◌, inl, inr, ℕ, List, length, sym, subst, arith}
use Rattle.std.specs.Prelude.{slice_index}
use Rattle.value_links.specs.Sections.{offset_named, debug_line, line_name}
use Rattle.tidy_places.specs.Firsts.{IsLeastPlace}
use Rattle.tidy_files.specs.Tidy.{IsOtherByte, IsOtherLineByte}

module _ (file written old new : List ℕ) (is_old : old ≡ debug_line file) (is_new : new ≡ debug_line written) where
  abbrev offset : ℕ
  offset = offset_named written line_name

  up : (k : ℕ) → IsOtherByte old new k → IsOtherByte (debug_line file) (debug_line written) k
  up k other = subst (λ (z : List ℕ). IsOtherByte (debug_line file) z k) is_new (subst (λ (z : List ℕ). IsOtherByte z new k) is_old other)

  down : (k : ℕ) → IsOtherByte (debug_line file) (debug_line written) k → IsOtherByte old new k
  down k other = subst (λ (z : List ℕ). IsOtherByte old z k) (sym is_new) (subst (λ (z : List ℕ). IsOtherByte z (debug_line written) k) (sym is_old) other)

  -- the bytes before a place are those that stood there
  abbrev pub AreSameBelow : ℕ → Type 0
  AreSameBelow n = (k : ℕ) → k < n → slice_index old k ≡ slice_index new k

  same_byte : (n k : ℕ) → AreSameBelow n → n ≤ length old → n ≤ length new → k < n → IsOtherByte old new k → ⊥
  same_byte n k same in_old in_new less (inl (inside, differs)) = differs (omega arith) (same k less)
  same_byte n k same in_old in_new less (inr (past, inside)) = omega arith

  -- the next one isn't, or is there in one section alone
  first_byte : (n : ℕ) → AreSameBelow n → n ≤ length old → n ≤ length new → IsOtherByte old new n → (p : ℕ) → p ≡ offset + n → IsLeastPlace (IsOtherLineByte file written) p
  first_byte n same in_old in_new other p place = ((n, up n other, place), before)
    where
      before : (q : ℕ) → q < p → IsOtherLineByte file written q → ⊥
      before q less (k, differs, at) = same_byte n k same in_old in_new (omega (arith, less, at, place)) (down k differs)

  pub first_differs : (n : ℕ) → AreSameBelow n → n < length old → n < length new → slice_index old n ≢ slice_index new n → (p : ℕ) → p ≡ offset + n → IsLeastPlace (IsOtherLineByte file written) p
  first_differs n same in_old in_new differs = first_byte n same (omega arith) (omega arith) (inl (in_old, λ _. differs))

  -- where one section ends and the other goes on
  one_goes_on : (n : ℕ) → (n ≡ length old) ⊎ (n ≡ length new) → n ≤ length old → n ≤ length new → length old ≢ length new → IsOtherByte old new n
  one_goes_on n (inl is) in_old in_new other = inr (omega (arith, is), omega (arith, is, in_new, other))
  one_goes_on n (inr is) in_old in_new other = inl (omega (arith, is, in_old, other), λ inside. absurd (omega (arith, is, inside)))

  pub first_behind : (n : ℕ) → AreSameBelow n → (n ≡ length old) ⊎ (n ≡ length new) → n ≤ length old → n ≤ length new → length old ≢ length new → (p : ℕ) → p ≡ offset + n → IsLeastPlace (IsOtherLineByte file written) p
  first_behind n same ends in_old in_new other = first_byte n same in_old in_new (one_goes_on n ends in_old in_new other)

  -- none is
  pub none_differs : (n : ℕ) → AreSameBelow n → length old ≤ n → length old ≡ length new → (p : ℕ) → IsOtherLineByte file written p → ⊥
  none_differs n same all count p (k, other, at) = none (down k other)
    where
      none : IsOtherByte old new k → ⊥
      none (inl (inside, differs)) = differs (omega (arith, inside, count)) (same k (omega (arith, inside, all)))
      none (inr (past, inside)) = omega (arith, past, inside, count)
