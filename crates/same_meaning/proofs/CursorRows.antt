-- The rows of a program as a cursor gives them, one after the other.
use Rattle.std.proofs.Common.{◌≡◌, ◌≤◌, ◌<◌, ◌+◌, ℕ, List, [], ◌∷◌, ◌++◌, length, take, drop, ◌∙◌, sym, ap, refl, subst, arith}
use Rattle.std.specs.Prelude.{Option, Some, None}
use Rattle.std.proofs.lemmas.List.{append_assoc, append_cancel_left, length-append, length-take-le, take-append-drop}
use Rattle.spelled.proofs.Joins.{places_rise}
use Rattle.line_machine.specs.declared.head.Head.{Head}
use Rattle.line_machine.specs.declared.opcode.Opcode.{Opcode}
use Rattle.line_machine.specs.declared.place.Place.{Place}
use Rattle.line_machine.specs.declared.registers.Row.{Row}
use Rattle.line_machine.specs.Opcodes.{SpellsOpcode, IsBase}
use Rattle.line_machine.specs.Rows.{start, rows_in, rows_from, registers_after, GivesRows}
use Rattle.line_machine.specs.Heads.{IsHead, program_of}
use Rattle.line_machine.specs.Cursors.{Passed, PassesOn, Progress, Stands, Answers, at_start}
use Rattle.line_machine.proofs.Passing.{rows_append}
use Rattle.line_machine.proofs.Listing.{Listed, listed_none, listed_on, listed_all}
use Rattle.line_machine.proofs.Programs.{based_of, rest_of, one_reading}
use Rattle.line_machine.proofs.Unique.{opcodes_unique, opcodes_filled}

-- a cursor over the program of a head has given these rows
pub record HasGiven (section : List ℕ) (head : Head) (cursor : Progress) (rows : List Row) : Type 0 where
  pub stands : Stands section cursor
  pub head_is : cursor.head ≡ head
  pub origin_is : cursor.origin ≡ 0
  pub listed : Listed head (program_of section head) cursor.place rows

-- two cursors have given the same rows
pub record HaveGivenSame (a : List ℕ) (h : Head) (b : List ℕ) (k : Head) (first second : Progress) : Type 0 where
  pub rows : List Row
  pub one : HasGiven a h first rows
  pub other : HasGiven b k second rows

-- after some rows all go on with this one, or are these where there is none
abbrev pub GoOn : List Row → Option Row → List Row → Type 0
GoOn rows None all = all ≡ rows
GoOn rows (Some row) all = (more : List Row) × (all ≡ rows ++ row ∷ more)

-- they do so in one way
pub next_once : (rows : List Row) (r s : Option Row) (all : List Row) → GoOn rows r all → GoOn rows s all → r ≡ s
next_once rows None None all g h = refl
next_once rows None (Some y) all g (n, h) =
    let size : length all ≡ length rows + length (y ∷ n) = ap length h ∙ length-append rows (y ∷ n) in
    let same : length all ≡ length rows = ap length g in
    absurd (omega arith)
next_once rows (Some x) None all (m, g) h =
    let size : length all ≡ length rows + length (x ∷ m) = ap length g ∙ length-append rows (x ∷ m) in
    let same : length all ≡ length rows = ap length h in
    absurd (omega arith)
next_once rows (Some x) (Some y) all (m, g) (n, h) =
    let tails : x ∷ m ≡ y ∷ n = append_cancel_left rows (x ∷ m) (y ∷ n) (sym g ∙ h) in
    cc

-- opcodes that have a row are passed from an earlier place
place_rises : (head : Head) (program : List ℕ) (a b : Place) (before more : List Opcode) (row : Row) → IsBase head.opcode_base → Passed head program before a → Passed head program (before ++ more) b → rows_from head a.registers more ≡ row ∷ [] → a.at < b.at
place_rises head program a b before [] row is p q e =
    let none : length (row ∷ []) ≡ 0 = ap length (sym e) in
    absurd (omega arith)
place_rises head program a b before (w ∷ more) row is p q e =
    let rises : length (take a.at program) < length (take b.at program) = places_rise (SpellsOpcode head.opcode_base) (opcodes_unique head.opcode_base is) (opcodes_filled head.opcode_base) before w more (take a.at program) (take b.at program) (drop a.at program) (drop b.at program) p.spelled q.spelled (take-append-drop a.at program ∙ sym (take-append-drop b.at program)) in
    let first : length (take a.at program) ≡ a.at = length-take-le a.at program p.inside in
    let second : length (take b.at program) ≡ b.at = length-take-le b.at program q.inside in
    omega arith

-- all rows of a program begin with those that are listed
rows_front : (head : Head) (program : List ℕ) (place : Place) (rows all : List Row) → IsBase head.opcode_base → Listed head program place rows → GivesRows head program all → (more : List Row) × (all ≡ rows ++ more)
rows_front head program place rows all is l g =
    let left = rest_of head is g.opcodes l.opcodes program (take place.at program) (drop place.at program) g.spelled l.passed.spelled (sym (take-append-drop place.at program)) in
    let from = start head.stmt in (
      rows_from head (registers_after head from l.opcodes) left.0,
      g.given ∙ ap (rows_from head from) left.1 ∙ rows_append head from l.opcodes left.0
          ∙ ap (λ z. z ++ rows_from head (registers_after head from l.opcodes) left.0) (sym l.given),
    )

pub given_none : (section : List ℕ) (head : Head) (cursor : Progress) → Stands section cursor → cursor.head ≡ head → cursor.origin ≡ 0 → cursor.place ≡ at_start head → HasGiven section head cursor []
given_none section head cursor s h o p = record {
  stands = s;
  head_is = h;
  origin_is = o;
  listed = listed_none head (program_of section head) cursor.place p;
}

module _ (section : List ℕ) (head : Head) (old : Progress) (rows : List Row) (given : HasGiven section head old rows) where
  passes : (new : Progress) (row : Option Row) → Answers section old new row → PassesOn head (program_of section head) old.place new.place (rows_in row)
  passes new row a = subst (λ (z : Head). PassesOn z (program_of section z) old.place new.place (rows_in row)) given.head_is a.passes

  pub given_more : (new : Progress) (row : Row) → Stands section new → new.head ≡ old.head → new.origin ≡ old.origin → Answers section old new (Some row) → HasGiven section head new (rows ++ row ∷ [])
  given_more new row s h o a = record {
    stands = s;
    head_is = h ∙ given.head_is;
    origin_is = o ∙ given.origin_is;
    listed = listed_on head (program_of section head) old.place new.place rows (row ∷ []) given.listed (passes new (Some row) a);
  }

  pub given_all : (new : Progress) → Answers section old new None → GivesRows head (program_of section head) rows
  given_all new a =
      let end : new.place.at ≡ length (program_of section head) = subst (λ (z : Head). new.place.at ≡ length (program_of section z)) given.head_is (a.at_end refl) in
      listed_all head (program_of section head) old.place new.place rows given.listed (passes new None a) end (a.ended refl)

  module _ (stands : IsHead section head) where
    -- the cursor passes on to a row, and no further than the program
    pub rises : (new : Progress) (row : Row) → Answers section old new (Some row) → (old.place.at < new.place.at) × (new.place.at ≤ length (program_of section head))
    rises new row a =
        let on = (passes new (Some row) a).from given.listed.opcodes given.listed.passed in
        (place_rises head (program_of section head) old.place new.place given.listed.opcodes on.0 row (based_of section head stands) given.listed.passed on.1 on.2, on.1.inside)

    -- all rows of the program go on with the one that is given next
    pub goes_on : (new : Progress) (row : Option Row) (all : List Row) → Answers section old new row → GivesRows head (program_of section head) all → GoOn rows row all
    goes_on new None all a g = one_reading head (program_of section head) all rows (based_of section head stands) g (given_all new a)
    goes_on new (Some row) all a g =
        let listed = listed_on head (program_of section head) old.place new.place rows (row ∷ []) given.listed (passes new (Some row) a) in
        let front = rows_front head (program_of section head) new.place (rows ++ row ∷ []) all (based_of section head stands) listed g in
        (front.0, front.1 ∙ append_assoc rows (row ∷ []) front.0)
