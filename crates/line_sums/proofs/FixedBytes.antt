-- The bytes of rows that no pair changes.
use Rattle.std.proofs.Common.{◌≡◌, ◌≢◌, ◌≤◌, ◌<◌, ◌+◌, ℕ, zero, suc, List, [], ◌∷◌, drop, get_or, length, ap, refl, arith, add-one, Bool}
use Rattle.std.proofs.lemmas.Bool.{eq-eqb, ne_eqb}
use Rattle.std.proofs.lemmas.List.{drop_all}
use Rattle.leb_codec.specs.Leb.{least_unsigned_len}
use Rattle.leb_codec.specs.LineCosts.{register_bytes, discriminator_bytes}
use Rattle.line_machine.specs.declared.registers.Registers.{Registers}
use Rattle.line_machine.specs.declared.registers.Row.{Row}
use Rattle.line_sums.specs.Steps.{set_bytes, set_bytes_from, left_by}

pub register_same : (from to : ℕ) → from ≡ to → 0 ≡ register_bytes from to
unfolding register_bytes
register_same from to e = rw (eq-eqb from to e) refl

pub register_other : (from to : ℕ) → from ≢ to → 1 + least_unsigned_len to ≡ register_bytes from to
unfolding register_bytes
register_other from to ne = rw (ne_eqb from to ne) refl

pub no_discriminator : (to : ℕ) → to ≡ 0 → 0 ≡ discriminator_bytes to
unfolding discriminator_bytes
no_discriminator to e = rw (eq-eqb to 0 e) refl

pub some_discriminator : (to : ℕ) → to ≢ 0 → 3 + least_unsigned_len to ≡ discriminator_bytes to
unfolding discriminator_bytes
some_discriminator to ne = rw (ne_eqb to 0 ne) refl

-- the rows from one on
fixed_suc : (stmt : Bool) (r : Registers) (rows : List Row) (i : ℕ) (d : Row) → i < length rows → set_bytes_from stmt r (drop i rows) ≡ set_bytes r (get_or rows i d) + set_bytes_from stmt (left_by stmt (get_or rows i d)) (drop (suc i) rows)
fixed_suc stmt r [] i d h = absurd (omega arith)
fixed_suc stmt r (row ∷ rows) zero d h = refl
fixed_suc stmt r (row ∷ rows) (suc i) d h = fixed_suc stmt r rows i d (omega arith)

pub fixed_more : (stmt : Bool) (r next : Registers) (rows : List Row) (i : ℕ) (d : Row) (bytes by all : ℕ) → i < length rows → bytes + set_bytes_from stmt r (drop i rows) ≡ all → by ≡ set_bytes r (get_or rows i d) → next ≡ left_by stmt (get_or rows i d) → bytes + by + set_bytes_from stmt next (drop (i + 1) rows) ≡ all
fixed_more stmt r next rows i d bytes by all h is set left =
    rw (left, add-one) (omega (arith, is, set, fixed_suc stmt r rows i d h))

pub fixed_all : (stmt : Bool) (r : Registers) (rows : List Row) (i bytes all : ℕ) → length rows ≤ i → bytes + set_bytes_from stmt r (drop i rows) ≡ all → bytes ≡ all
fixed_all stmt r rows i bytes all end is =
    let none : set_bytes_from stmt r (drop i rows) ≡ 0 = ap (λ (z : List Row). set_bytes_from stmt r z) (drop_all i rows end) in
    omega (arith, is, none)
