-- Rows counted one after the other.
use Rattle.std.proofs.Common.{◌≡◌, ◌≤◌, ◌+◌, ℕ, List, [], ◌∷◌, ◌++◌, length, ◌∙◌, sym, ap, refl, subst, arith}
use Rattle.std.specs.Prelude.{Option, Some, None}
use Rattle.std.proofs.lemmas.List.{length-append}
use Rattle.dw_base.specs.declared.fault.Fault.{Fault}
use Rattle.dw_base.specs.Refusals.{IsFaultOf, IsFaulty}
use Rattle.line_machine.specs.declared.head.Head.{Head}
use Rattle.line_machine.specs.declared.registers.Row.{Row}
use Rattle.line_machine.specs.Rows.{rows_in, HasRows}
use Rattle.line_machine.specs.Heads.{IsHead, program_of}
use Rattle.line_machine.specs.Faults.{IsLong, OpcodesFault, ProgramFault, row_limit}
use Rattle.line_machine.specs.Cursors.{PassesOn, Progress, Stands, Answers, at_start}
use Rattle.line_machine.proofs.Passing.{program_fault}
use Rattle.line_machine.proofs.Listing.{Listed, listed_none, listed_on, listed_all, listed_long}
use Rattle.line_machine.proofs.Programs.{based_of, program_whole}

-- a cursor has come to so many rows of the program of a head
pub record Counting (section : List ℕ) (head : Head) (origin : ℕ) (cursor : Progress) (count : ℕ) : Type 0 where
  pub stands : Stands section cursor
  pub head_is : cursor.head ≡ head
  pub origin_is : cursor.origin ≡ origin
  pub rows : List Row
  pub listed : Listed head (program_of section head) cursor.place rows
  pub size : length rows ≡ count

pub counting_none : (section : List ℕ) (head : Head) (origin : ℕ) (cursor : Progress) → Stands section cursor → cursor.head ≡ head → cursor.origin ≡ origin → cursor.place ≡ at_start head → Counting section head origin cursor 0
counting_none section head origin cursor s h o p = record {
  stands = s;
  head_is = h;
  origin_is = o;
  rows = [];
  listed = listed_none head (program_of section head) cursor.place p;
  size = refl;
}

module _ (section : List ℕ) (head : Head) (origin : ℕ) (old : Progress) (count : ℕ) (c : Counting section head origin old count) where
  passes : (new : Progress) (row : Option Row) → Answers section old new row → PassesOn head (program_of section head) old.place new.place (rows_in row)
  passes new row a = subst (λ (z : Head). PassesOn z (program_of section z) old.place new.place (rows_in row)) c.head_is a.passes

  pub counting_on : (new : Progress) (row : Row) → Stands section new → new.head ≡ old.head → new.origin ≡ old.origin → Answers section old new (Some row) → Counting section head origin new (count + 1)
  counting_on new row s h o a = record {
    stands = s;
    head_is = h ∙ c.head_is;
    origin_is = o ∙ c.origin_is;
    rows = c.rows ++ row ∷ [];
    listed = listed_on head (program_of section head) old.place new.place c.rows (row ∷ []) c.listed (passes new (Some row) a);
    size = length-append c.rows (row ∷ []) ∙ ap (λ n. n + 1) c.size;
  }

  pub counting_all : (new : Progress) → Answers section old new None → HasRows head (program_of section head) count
  counting_all new a =
      let end : new.place.at ≡ length (program_of section head) = subst (λ (z : Head). new.place.at ≡ length (program_of section z)) c.head_is (a.at_end refl) in
      (c.rows, listed_all head (program_of section head) old.place new.place c.rows c.listed (passes new None a) end (a.ended refl), c.size)

  pub counting_long : (new : Progress) (row : Row) → Answers section old new (Some row) → row_limit ≤ count → IsLong head (program_of section head)
  counting_long new row a many =
      let size : length c.rows ≡ count = c.size in
      listed_long head (program_of section head) old.place new.place c.rows row c.listed (passes new (Some row) a) (omega arith)

  pub counting_fault : (f : Fault) → IsFaultOf (OpcodesFault section old.head) old.origin f → IsFaultOf (ProgramFault section head) origin f
  counting_fault f h =
      program_fault section head origin f (subst (λ (z : Head). IsFaultOf (OpcodesFault section z) origin f) c.head_is (subst (λ (z : ℕ). IsFaultOf (OpcodesFault section old.head) z f) c.origin_is h))

-- so many rows aren't too many
pub counted_whole : (section : List ℕ) (head : Head) (count : ℕ) → IsHead section head → HasRows head (program_of section head) count → count ≤ row_limit → ¬ IsFaulty (ProgramFault section head)
counted_whole section head count h (rows, gives, size) few =
    program_whole section head rows (based_of section head h) gives (subst (λ (n : ℕ). n ≤ row_limit) (sym size) few)
