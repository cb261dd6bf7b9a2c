-- The triangle of costs: what an opcode without a row costs, and what is left after it, are enough for what was there before.
use Rattle.std.proofs.Common.{◌≡◌, ◌≤◌, ◌+◌, ◌%◌, ◌^◌, ◌∙◌, ℕ, sym, ap, refl, subst, arith, inl, inr}
use Rattle.std.specs.Prelude.{ℤ, ◌-ℤ◌, ◌+ℤ◌, Bool, true, false, not, cond, ◌==◌}
use Rattle.std.proofs.lemmas.Int.{ints}
use Rattle.std.proofs.lemmas.Bool.{cases_eq, eq-eqb, ne_eqb}
use Rattle.leb_codec.specs.Leb.{least_unsigned_len, least_signed_len}
use Rattle.leb_codec.specs.LineCosts.{advance_line_bytes, address_distance, AdvanceWithin, register_bytes, stmt_bytes, flag_bytes, discriminator_bytes}
use Rattle.line_step.proofs.Forms.{address_laws}
use Rattle.line_step.proofs.Parts.{line_laws}
use Rattle.line_machine.specs.declared.registers.Registers.{Registers}
use Rattle.line_machine.specs.declared.registers.Row.{Row}

-- set_discriminator, where the register is another
pub mark_bytes : ℕ → ℕ → ℕ
mark_bytes from to = cond (from == to) 0 (3 + least_unsigned_len to)

-- a flag that is set; none is cleared before a row
pub raise_bytes : Bool → Bool → ℕ
raise_bytes false true = 1
raise_bytes false false = 0
raise_bytes true to = 0

pub turn_bytes : Bool → Bool → ℕ
turn_bytes from to = stmt_bytes from to

-- what sets the registers other than line and address, from any registers of a sequence to a row of it
abbrev pub others_bytes : Registers → Row → ℕ
others_bytes r row =
    register_bytes r.file row.file + register_bytes r.column row.column + register_bytes r.isa row.isa + turn_bytes r.stmt row.stmt + raise_bytes r.block row.block + raise_bytes r.prologue row.prologue + raise_bytes r.epilogue row.epilogue + mark_bytes r.discriminator row.discriminator

-- each part, before an opcode that changes it

set_before : (old value to : ℕ) → register_bytes old to ≤ 1 + least_unsigned_len value + register_bytes value to
unfolding register_bytes
set_before old value to =
    elim (cases_eq value to) [
      | inl same ↦
          let e : least_unsigned_len value ≡ least_unsigned_len to = ap least_unsigned_len same in
          elim (cases_eq old to) [
            | inl here ↦ omega (arith, ap (λ b. cond b 0 (1 + least_unsigned_len to)) (eq-eqb old to here))
            | inr away ↦ omega (arith, ap (λ b. cond b 0 (1 + least_unsigned_len to)) (ne_eqb old to away))
          ]
      | inr other ↦
          let f : cond (value == to) 0 (1 + least_unsigned_len to) ≡ 1 + least_unsigned_len to = ap (λ b. cond b 0 (1 + least_unsigned_len to)) (ne_eqb value to other) in
          elim (cases_eq old to) [
            | inl here ↦ omega (arith, ap (λ b. cond b 0 (1 + least_unsigned_len to)) (eq-eqb old to here))
            | inr away ↦ omega (arith, f, ap (λ b. cond b 0 (1 + least_unsigned_len to)) (ne_eqb old to away))
          ]
    ]

mark_before : (old value to : ℕ) → mark_bytes old to ≤ 3 + least_unsigned_len value + mark_bytes value to
unfolding mark_bytes
mark_before old value to =
    elim (cases_eq value to) [
      | inl same ↦
          let e : least_unsigned_len value ≡ least_unsigned_len to = ap least_unsigned_len same in
          elim (cases_eq old to) [
            | inl here ↦ omega (arith, ap (λ b. cond b 0 (3 + least_unsigned_len to)) (eq-eqb old to here))
            | inr away ↦ omega (arith, ap (λ b. cond b 0 (3 + least_unsigned_len to)) (ne_eqb old to away))
          ]
      | inr other ↦
          let f : cond (value == to) 0 (3 + least_unsigned_len to) ≡ 3 + least_unsigned_len to = ap (λ b. cond b 0 (3 + least_unsigned_len to)) (ne_eqb value to other) in
          elim (cases_eq old to) [
            | inl here ↦ omega (arith, ap (λ b. cond b 0 (3 + least_unsigned_len to)) (eq-eqb old to here))
            | inr away ↦ omega (arith, f, ap (λ b. cond b 0 (3 + least_unsigned_len to)) (ne_eqb old to away))
          ]
    ]

raise_before : (old to : Bool) → raise_bytes old to ≤ 1 + raise_bytes true to
unfolding raise_bytes
raise_before false true = omega arith
raise_before false false = omega arith
raise_before true to = omega arith

turn_before : (old to : Bool) → turn_bytes old to ≤ 1 + turn_bytes (not old) to
unfolding turn_bytes
turn_before true true = omega arith
turn_before true false = omega arith
turn_before false true = omega arith
turn_before false false = omega arith

-- where nothing is left to change

pub set_none : (value : ℕ) → register_bytes value value ≡ 0
unfolding register_bytes
set_none value = ap (λ b. cond b 0 (1 + least_unsigned_len value)) (eq-eqb value value refl)

pub mark_none : (value : ℕ) → mark_bytes value value ≡ 0
unfolding mark_bytes
mark_none value = ap (λ b. cond b 0 (3 + least_unsigned_len value)) (eq-eqb value value refl)

pub raise_none : (flag : Bool) → raise_bytes flag flag ≡ 0
unfolding raise_bytes
raise_none true = refl
raise_none false = refl

pub turn_none : (flag : Bool) → turn_bytes flag flag ≡ 0
unfolding turn_bytes
turn_none true = refl
turn_none false = refl

pub mark_first : (to : ℕ) → mark_bytes 0 to ≡ discriminator_bytes to
unfolding mark_bytes discriminator_bytes
mark_first to =
    elim (cases_eq to 0) [
      | inl none ↦ ap (λ b. cond b 0 (3 + least_unsigned_len to)) (eq-eqb 0 to (sym none)) ∙ sym (ap (λ b. cond b 0 (3 + least_unsigned_len to)) (eq-eqb to 0 none))
      | inr some ↦ ap (λ b. cond b 0 (3 + least_unsigned_len to)) (ne_eqb 0 to (λ e. some (sym e))) ∙ sym (ap (λ b. cond b 0 (3 + least_unsigned_len to)) (ne_eqb to 0 some))
    ]

pub raise_first : (to : Bool) → raise_bytes false to ≡ flag_bytes to
unfolding raise_bytes
raise_first true = refl
raise_first false = refl

pub turn_is : (from to : Bool) → turn_bytes from to ≡ stmt_bytes from to
unfolding turn_bytes
turn_is from to = refl

-- Registers and those after an opcode without a row, which has so many bytes for the address, the line and the others.
pub record IsNear (range scale a b c : ℕ) (r s : Registers) : Type 0 where
  pub address : (x to m : ℕ) → AdvanceWithin range scale (address_distance (s.address + x) to) m → AdvanceWithin range scale (address_distance (r.address + x) to) (a + m)
  pub line : (z : ℤ) → advance_line_bytes (z -ℤ r.line) ≤ b + advance_line_bytes (z -ℤ s.line)
  pub others : (row : Row) → others_bytes r row ≤ c + others_bytes s row

-- how near an opcode's registers are, by the kind of register that it changes

changes_none : (range scale : ℕ) → scale ≤ 255 → (a m d : ℕ) → AdvanceWithin range scale d m → AdvanceWithin range scale d (a + m)
changes_none range scale h a m d w = (address_laws range scale h).more d m (a + m) (omega arith) w

-- an opcode for registers other than the line and the address
pub near_others : (range scale c : ℕ) → scale ≤ 255 → (r s : Registers) → s.address ≡ r.address → s.line ≡ r.line → ((row : Row) → others_bytes r row ≤ c + others_bytes s row) → IsNear range scale 0 0 c r s
near_others range scale c h r s address line others = record {
  address = λ x to m w. changes_none range scale h 0 m (address_distance (r.address + x) to) (subst (λ (z : ℕ). AdvanceWithin range scale (address_distance (z + x) to) m) address w);
  line = λ z. let e : advance_line_bytes (z -ℤ s.line) ≡ advance_line_bytes (z -ℤ r.line) = ap (λ (y : ℤ). advance_line_bytes (z -ℤ y)) line in omega arith;
  others = others;
}

-- one for the line
pub near_line : (range scale : ℕ) → scale ≤ 255 → (r : Registers) (z : ℤ) → IsNear range scale 0 (1 + least_signed_len z) 0 r (record r { line = r.line +ℤ z })
near_line range scale h r z = record {
  address = λ x to m w. changes_none range scale h 0 m (address_distance (r.address + x) to) w;
  line = λ y.
      let e : y -ℤ r.line ≡ z +ℤ (y -ℤ (r.line +ℤ z)) = omega (arith, ints) in
      let f : advance_line_bytes (y -ℤ r.line) ≡ advance_line_bytes (z +ℤ (y -ℤ (r.line +ℤ z))) = ap advance_line_bytes e in
      omega (arith, f, line_laws.advance_line z (y -ℤ (r.line +ℤ z)));
  others = λ row. omega arith;
}

-- one that adds to the address
wrapped : (from d x to : ℕ) → address_distance ((from + d) % 2 ^ 64 + x) to ≡ address_distance (from + x + d) to
wrapped from d x to = omega arith

pub near_advanced : (range scale a d : ℕ) (r : Registers) → ((from to m : ℕ) → AdvanceWithin range scale (address_distance (from + d) to) m → AdvanceWithin range scale (address_distance from to) (a + m)) → IsNear range scale a 0 0 r (record r { address = (r.address + d) % 2 ^ 64 })
near_advanced range scale a d r law = record {
  address = λ x to m w. law (r.address + x) to m (subst (λ (y : ℕ). AdvanceWithin range scale y m) (wrapped r.address d x to) w);
  line = λ z. omega arith;
  others = λ row. omega arith;
}

-- set_address
pub near_address : (range scale at : ℕ) (r : Registers) → IsNear range scale 11 0 0 r (record r { address = at })
near_address range scale at r = record {
  address = λ x to m w. inl (omega arith);
  line = λ z. omega arith;
  others = λ row. omega arith;
}

-- the others

pub near_file : (range scale value : ℕ) → scale ≤ 255 → (r : Registers) → IsNear range scale 0 0 (1 + least_unsigned_len value) r (record r { file = value })
near_file range scale value h r = near_others range scale (1 + least_unsigned_len value) h r (record r { file = value }) refl refl (λ row. omega (arith, set_before r.file value row.file))

pub near_column : (range scale value : ℕ) → scale ≤ 255 → (r : Registers) → IsNear range scale 0 0 (1 + least_unsigned_len value) r (record r { column = value })
near_column range scale value h r = near_others range scale (1 + least_unsigned_len value) h r (record r { column = value }) refl refl (λ row. omega (arith, set_before r.column value row.column))

pub near_isa : (range scale value : ℕ) → scale ≤ 255 → (r : Registers) → IsNear range scale 0 0 (1 + least_unsigned_len value) r (record r { isa = value })
near_isa range scale value h r = near_others range scale (1 + least_unsigned_len value) h r (record r { isa = value }) refl refl (λ row. omega (arith, set_before r.isa value row.isa))

pub near_discriminator : (range scale value : ℕ) → scale ≤ 255 → (r : Registers) → IsNear range scale 0 0 (3 + least_unsigned_len value) r (record r { discriminator = value })
near_discriminator range scale value h r = near_others range scale (3 + least_unsigned_len value) h r (record r { discriminator = value }) refl refl (λ row. omega (arith, mark_before r.discriminator value row.discriminator))

pub near_stmt : (range scale : ℕ) → scale ≤ 255 → (r : Registers) → IsNear range scale 0 0 1 r (record r { stmt = not r.stmt })
near_stmt range scale h r = near_others range scale 1 h r (record r { stmt = not r.stmt }) refl refl (λ row. omega (arith, turn_before r.stmt row.stmt))

pub near_block : (range scale : ℕ) → scale ≤ 255 → (r : Registers) → IsNear range scale 0 0 1 r (record r { block = true })
near_block range scale h r = near_others range scale 1 h r (record r { block = true }) refl refl (λ row. omega (arith, raise_before r.block row.block))

pub near_prologue : (range scale : ℕ) → scale ≤ 255 → (r : Registers) → IsNear range scale 0 0 1 r (record r { prologue = true })
near_prologue range scale h r = near_others range scale 1 h r (record r { prologue = true }) refl refl (λ row. omega (arith, raise_before r.prologue row.prologue))

pub near_epilogue : (range scale : ℕ) → scale ≤ 255 → (r : Registers) → IsNear range scale 0 0 1 r (record r { epilogue = true })
near_epilogue range scale h r = near_others range scale 1 h r (record r { epilogue = true }) refl refl (λ row. omega (arith, raise_before r.epilogue row.epilogue))
