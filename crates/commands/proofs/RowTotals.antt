-- The rows of all line number programs, counted one after the other.
use Rattle.std.proofs.Common.{◌≡◌, ◌≤◌, ◌<◌, ◌+◌, ◌∙◌, ℕ, List, [], ◌∷◌, length, get_or, take, drop, drop-cons, add-one, sym, ap, refl, subst, arith, inl, inr}
use Rattle.std.specs.List.{sum_by}
use Rattle.std.proofs.lemmas.Bool.{cases_lt}
use Rattle.std.proofs.lemmas.List.{take_more, take_all}
use Rattle.std.proofs.lemmas.List.Sums.{sum_by-cons}
use Rattle.dw_base.specs.declared.fault.Fault.{Fault}
use Rattle.dw_base.specs.declared.fault.Kind.{Kind}
use Rattle.dw_base.specs.declared.fault.Kind.TheVariants.{Limit}
use Rattle.dw_base.specs.Refusals.{IsFaultOf}
use Rattle.line_machine.specs.declared.head.Head.{Head}
use Rattle.line_machine.specs.Rows.{HasRows}
use Rattle.line_machine.specs.Heads.{IsHead, program_of}
use Rattle.line_machine.specs.Faults.{ProgramFault, row_limit}
use Rattle.line_machine.proofs.Programs.{based_of, one_reading}
use Rattle.line_write.specs.Faults.{LinesFault, total_limit}
use Rattle.line_write.specs.Meaning.{ProgramMeaning, HaveMeanings}
use Rattle.line_write.specs.Programs.{Follow, Tile}
use Rattle.line_write.proofs.ReadBack.{bounds}
use Rattle.line_write.proofs.Reading.{Reading, program_fault, total_fault, reading_on}
use Rattle.line_write.proofs.Tiling.{AreGiven}

-- The first i programs have so many rows, and the others follow.
pub record IsCounted (section : List ℕ) (heads : List Head) (i total : ℕ) : Type 0 where
  pub at : ℕ
  pub read : Reading section at total (take i heads)
  pub rest : Follow section (drop i heads) at (length section)

-- they aren't too many
pub few_rows : (section : List ℕ) (heads : List Head) (i total : ℕ) → IsCounted section heads i total → total ≤ total_limit
few_rows section heads i total c = c.read.few

-- at first none is
pub counted_none : (section : List ℕ) (heads : List Head) → Tile section heads → IsCounted section heads 0 0
counted_none section heads tile = record {
  at = 0;
  read = record { front = refl; given = refl; inside = omega arith; few = omega arith };
  rest = tile;
}

module _ (section : List ℕ) (heads : List Head) (i total : ℕ) (none : Head) (c : IsCounted section heads i total) (inside : i < length heads) where
  abbrev next : Head
  next = get_or heads i none

  here : Follow section (next ∷ drop (i + 1) heads) c.at (length section)
  here =
      let rest : drop i heads ≡ next ∷ drop (i + 1) heads = rw add-one (drop-cons heads i none inside) in
      subst (λ (z : List Head). Follow section z c.at (length section)) rest c.rest

  pub next_stands : IsHead section next
  next_stands = here.1

  next_inside : c.at < length section
  next_inside =
      let place : next.at ≡ c.at = here.0 in
      let b = bounds section next.at here.1.rules in
      omega (arith, b.inside)

  -- a fault of the next program is one of all
  pub next_fault : (f : Fault) → IsFaultOf (ProgramFault section next) 0 f → IsFaultOf (LinesFault section) 0 f
  next_fault f fault = program_fault section 0 c.at total (take i heads) c.read next here.0 here.1 f next_inside fault

  -- the next program counted too
  pub counted_more : (count : ℕ) → ((kind : Kind) (place : ℕ) → LinesFault section kind place → ⊥) → HasRows next (program_of section next) count → count ≤ row_limit → IsCounted section heads (i + 1) (total + count)
  counted_more count faultless rows few =
      elim (cases_lt total_limit (total + count)) [
        | inl past ↦ absurd (faultless Limit c.at (total_fault section 0 c.at total (take i heads) c.read next here.0 here.1 count rows past))
        | inr within ↦ record {
          at = c.at + next.len;
          read = reading_on section 0 c.at total (take i heads) c.read next here.0 here.1 count (take (i + 1) heads) rows few within (take_more heads i none inside);
          rest = here.2;
        }
      ]

-- programs that are given have as many rows as they mean
given_means : (section : List ℕ) (heads : List Head) (at end total : ℕ) (programs : List ProgramMeaning) → Follow section heads at end → AreGiven section heads total → HaveMeanings section heads programs → total ≡ sum_by (λ (program : ProgramMeaning). length program.rows) programs
given_means section [] at end total [] follow given means = given
given_means section [] at end total (m ∷ programs) follow given means = absurd means
given_means section (head ∷ heads) at end total [] follow given means = absurd means
given_means section (head ∷ heads) at end total (m ∷ programs) follow (rows, others, gives, few, more, e) means =
    let one : rows ≡ m.rows = one_reading head (program_of section head) rows m.rows (based_of section head follow.1) gives means.0.rows in
    let size : length rows ≡ length m.rows = ap length one in
    let rest : others ≡ sum_by (λ (program : ProgramMeaning). length program.rows) programs = given_means section heads (at + head.len) end others programs follow.2 more means.1 in
    e ∙ ap (λ n. n + others) size ∙ ap (λ n. length m.rows + n) rest ∙ sym (sum_by-cons (λ (program : ProgramMeaning). length program.rows) m programs)

-- all are counted
pub counted_all : (section : List ℕ) (heads : List Head) (i total : ℕ) (programs : List ProgramMeaning) → IsCounted section heads i total → length heads ≤ i → Tile section heads → HaveMeanings section heads programs → total ≡ sum_by (λ (program : ProgramMeaning). length program.rows) programs
counted_all section heads i total programs c end tile means =
    given_means section heads 0 (length section) total programs tile (subst (λ (z : List Head). AreGiven section z total) (take_all i heads end) c.read.given) means
