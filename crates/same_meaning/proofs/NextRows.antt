-- What `==` answers at rows: whether they are the same.
use Rattle.std.proofs.Common.{◌≡◌, ◌∙◌, ℕ, Bool, true, false, true≢false, refl, sym, ap, rules, tests}
use Rattle.std.specs.Prelude.{Option, Some, None, not, nat_eq}
use Rattle.std.specs.Option.{option_eq, is_some}
use Rattle.std.specs.Cmp.{booleans_Decides}
use Rattle.std.proofs.lemmas.Bool.{and_parts}
use Rattle.std.proofs.lemmas.Bool.Decides.{Decides-eqb}
use Rattle.std.proofs.Math.Bool.{beq}
use Rattle.line_machine.specs.declared.registers.Row.{Row}
use Rattle.line_machine.specs.contracts.registers.RowPartialEq.TheImpl.{eq-value}

same_number : (a b : ℕ) → nat_eq a b ≡ true → a ≡ b
same_number a b is = (Decides-eqb a b).0 is

same_flag : (a b : Bool) → beq a b ≡ true → a ≡ b
same_flag a b is = (booleans_Decides a b).0 is

-- a row by its fields
unfoldable row_with : (address line file column isa discriminator : ℕ) (stmt block prologue epilogue end : Bool) → Row
row_with address line file column isa discriminator stmt block prologue epilogue end = record {
  address = address;
  line = line;
  file = file;
  column = column;
  isa = isa;
  discriminator = discriminator;
  stmt = stmt;
  block = block;
  prologue = prologue;
  epilogue = epilogue;
  end = end;
}

by_fields : (x : Row) → x ≡ row_with x.address x.line x.file x.column x.isa x.discriminator x.stmt x.block x.prologue x.epilogue x.end
unfolding row_with
by_fields x = refl

same_row : (x y : Row) → eq-value.it x y ≡ true → x ≡ y
same_row x y is =
    let a = and_parts (nat_eq x.address y.address) _ is in
    let b = and_parts (nat_eq x.line y.line) _ a.1 in
    let c = and_parts (nat_eq x.file y.file) _ b.1 in
    let d = and_parts (nat_eq x.column y.column) _ c.1 in
    let e = and_parts (nat_eq x.isa y.isa) _ d.1 in
    let f = and_parts (nat_eq x.discriminator y.discriminator) _ e.1 in
    let g = and_parts (beq x.stmt y.stmt) _ f.1 in
    let h = and_parts (beq x.block y.block) _ g.1 in
    let i = and_parts (beq x.prologue y.prologue) _ h.1 in
    let j = and_parts (beq x.epilogue y.epilogue) (beq x.end y.end) i.1 in
    let address : x.address ≡ y.address = same_number x.address y.address a.0 in
    let line : x.line ≡ y.line = same_number x.line y.line b.0 in
    let file : x.file ≡ y.file = same_number x.file y.file c.0 in
    let column : x.column ≡ y.column = same_number x.column y.column d.0 in
    let isa : x.isa ≡ y.isa = same_number x.isa y.isa e.0 in
    let discriminator : x.discriminator ≡ y.discriminator = same_number x.discriminator y.discriminator f.0 in
    let stmt : x.stmt ≡ y.stmt = same_flag x.stmt y.stmt g.0 in
    let block : x.block ≡ y.block = same_flag x.block y.block h.0 in
    let prologue : x.prologue ≡ y.prologue = same_flag x.prologue y.prologue i.0 in
    let epilogue : x.epilogue ≡ y.epilogue = same_flag x.epilogue y.epilogue j.0 in
    let end : x.end ≡ y.end = same_flag x.end y.end j.1 in
    let all : row_with x.address x.line x.file x.column x.isa x.discriminator x.stmt x.block x.prologue x.epilogue x.end ≡ row_with y.address y.line y.file y.column y.isa y.discriminator y.stmt y.block y.prologue y.epilogue y.end = cc in
    by_fields x ∙ all ∙ sym (by_fields y)

row_itself : (x : Row) → eq-value.it x x ≡ true
row_itself x = search (rules, tests)

abbrev rows_eq : Option Row → Option Row → Bool
rows_eq r s = option_eq (eq-value.it) r s

next_itself : (r : Option Row) → rows_eq r r ≡ true
next_itself None = refl
next_itself (Some x) = row_itself x

-- two next rows are told apart
pub other_next : (r s : Option Row) → true ≡ not (rows_eq r s) → r ≡ s → ⊥
other_next r s ne same = let e : rows_eq r s ≡ true = ap (λ (z : Option Row). rows_eq r z) (sym same) ∙ next_itself r in true≢false (ne ∙ ap not e)

-- or are the same
pub same_next : (r s : Option Row) → false ≡ not (rows_eq r s) → r ≡ s
same_next None None ne = refl
same_next None (Some y) ne = absurd (true≢false (sym ne))
same_next (Some x) None ne = absurd (true≢false (sym ne))
same_next (Some x) (Some y) ne = ap (λ (z : Row). Some z) (same_row x y (told (eq-value.it x y) ne))
  where
    told : (b : Bool) → false ≡ not b → b ≡ true
    told true e = refl
    told false e = e

-- there is no next row, or there is one
pub no_next : (r : Option Row) (none : Bool) → is_some r ≡ not none → none ≡ true → r ≡ None
no_next None none e told = refl
no_next (Some x) none e told = absurd (true≢false (e ∙ ap not told))

pub some_next : (r : Option Row) (none : Bool) → is_some r ≡ not none → none ≡ false → (x : Row) × (r ≡ Some x)
some_next None none e told = absurd (true≢false (sym (e ∙ ap not told)))
some_next (Some x) none e told = (x, refl)
