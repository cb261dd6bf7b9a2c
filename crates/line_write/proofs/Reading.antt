-- Programs that are read one after the other.
use Rattle.std.proofs.Common.{◌≡◌, ◌≤◌, ◌<◌, ◌+◌, ◌-◌, ◌++◌, ◌∙◌, ℕ, List, [], ◌∷◌, length, sym, ap, refl, subst, arith, inl, inr}
use Rattle.std.specs.List.{All, AllZip, sum_by}
use Rattle.std.proofs.lemmas.List.Elements.{All-nil, All-cons, All-head, All-tail}
use Rattle.std.proofs.lemmas.List.Sums.{sum_by-cons}
use Rattle.dw_base.specs.declared.fault.Fault.{Fault}
use Rattle.dw_base.specs.declared.fault.Kind.TheVariants.{Limit}
use Rattle.dw_base.specs.Refusals.{IsFaultOf, IsFaulty}
use Rattle.line_machine.specs.declared.head.Head.{Head}
use Rattle.line_machine.specs.declared.registers.Row.{Row}
use Rattle.line_machine.specs.Rows.{GivesRows, HasRows}
use Rattle.fixed_width.specs.InitialLengths.{unit_end}
use Rattle.line_machine.specs.Heads.{head_at, IsHead, program_of}
use Rattle.line_machine.specs.Faults.{HeadFault, ProgramFault, row_limit}
use Rattle.line_machine.proofs.Programs.{based_of, one_reading}
use Rattle.line_write.specs.Programs.{Follow, Tile}
use Rattle.line_write.specs.inside.Programs.{GivesFew}
use Rattle.line_write.specs.Faults.{total_limit, LinesFault}
use Rattle.line_write.specs.Readings.{AreRead}
use Rattle.line_write.proofs.ReadBack.{bounds}
use Rattle.line_write.proofs.Tiling.{AreGiven, follow_push, given_rows, head_is, rules_at, unit_lines, lines_whole}

-- the program of the head gives the rows
abbrev Gives : List ℕ → Head → List Row → Type 0
Gives section head rows = GivesRows head (program_of section head) rows

abbrev AreFew : List Row → Type 0
AreFew rows = length rows ≤ row_limit

abbrev count : List Row → ℕ
count rows = length rows

-- the rows of each program, and how many they are together
given_of : (section : List ℕ) (heads : List Head) (rows : List (List Row)) → AllZip (Gives section) heads rows → All AreFew rows → AreGiven section heads (sum_by count rows)
given_of section [] [] z few = refl
given_of section [] (r ∷ rows) z few = absurd z
given_of section (head ∷ heads) [] z few = absurd z
given_of section (head ∷ heads) (r ∷ rows) z few =
    (r, sum_by count rows, z.0, All-head AreFew r rows few, given_of section heads rows z.1 (All-tail AreFew r rows few), sum_by-cons count r rows)

record Listed (section : List ℕ) (heads : List Head) (total : ℕ) : Type 0 where
  rows : List (List Row)
  given : AllZip (Gives section) heads rows
  each : All AreFew rows
  all : sum_by count rows ≡ total

listed_of : (section : List ℕ) (heads : List Head) (total : ℕ) → AreGiven section heads total → Listed section heads total
listed_of section [] total e = record { rows = []; given = tt; each = All-nil AreFew; all = sym e }
listed_of section (head ∷ heads) total (r, others, gives, few, v, e) =
    let next = listed_of section heads others v in
    record {
      rows = r ∷ next.rows;
      given = (gives, next.given);
      each = All-cons AreFew r next.rows few next.each;
      all = sum_by-cons count r next.rows ∙ ap (λ n. length r + n) next.all ∙ sym e;
    }

-- units that tile a section, whose programs give rows that keep the limits, are read
pub are_read : (section : List ℕ) (heads : List Head) (total : ℕ) → Tile section heads → AreGiven section heads total → total ≤ total_limit → AreRead section heads
are_read section heads total tile given few =
    let l = listed_of section heads total given in
    record { tiled = tile; rows = l.rows; given = l.given; each = l.each; all = subst (λ (n : ℕ). n ≤ total_limit) (sym l.all) few }

-- programs have one number of rows together
given_once : (section : List ℕ) (heads : List Head) (at end some others : ℕ) → Follow section heads at end → AreGiven section heads some → AreGiven section heads others → some ≡ others
given_once section [] at end some others f g h = g ∙ sym h
given_once section (head ∷ heads) at end some others f (r, m, gives, few, v, e) (s, n, gives2, few2, w, d) =
    let one : r ≡ s = one_reading head (program_of section head) r s (based_of section head f.1) gives gives2 in
    let size : length r ≡ length s = ap length one in
    let rest : m ≡ n = given_once section heads (at + head.len) end m n f.2 v w in
    omega arith

pub read_few : (section : List ℕ) (heads : List Head) (total : ℕ) → AreRead section heads → AreGiven section heads total → total ≤ total_limit
read_few section heads total read given =
    let same : sum_by count read.rows ≡ total = given_once section heads 0 (length section) (sum_by count read.rows) total read.tiled (given_of section heads read.rows read.given read.each) given in
    subst (λ (n : ℕ). n ≤ total_limit) same read.all

-- programs that are read have no fault
pub read_whole : (section : List ℕ) (heads : List Head) → AreRead section heads → ¬ IsFaulty (LinesFault section)
read_whole section heads read = lines_whole section heads (sum_by count read.rows) read.tiled (given_of section heads read.rows read.given read.each) read.all

-- a head that stands in the section, whose program gives rows, no more than one may have
abbrev pub IsReadHead : List ℕ → Head → Type 0
IsReadHead section head = IsHead section head × GivesFew section head

each_read : (section : List ℕ) (heads : List Head) (at end total : ℕ) → Follow section heads at end → AreGiven section heads total → All (IsReadHead section) heads
each_read section [] at end total f g = All-nil (IsReadHead section)
each_read section (head ∷ heads) at end total f (r, others, gives, few, v, e) =
    All-cons (IsReadHead section) head heads (f.1, (r, gives, few)) (each_read section heads (at + head.len) end others f.2 v)

pub read_each : (section : List ℕ) (heads : List Head) → AreRead section heads → All (IsReadHead section) heads
read_each section heads read = each_read section heads 0 (length section) (sum_by count read.rows) read.tiled (given_of section heads read.rows read.given read.each)

given_push : (section : List ℕ) (heads : List Head) (head : Head) (total : ℕ) (rows : List Row) → AreGiven section heads total → GivesRows head (program_of section head) rows → length rows ≤ row_limit → AreGiven section (heads ++ head ∷ []) (total + length rows)
given_push section [] head total rows e gives few = (rows, 0, gives, few, refl, omega arith)
given_push section (x ∷ heads) head total rows (r, others, g, f, v, e) gives few =
    (r, others + length rows, g, f, given_push section heads head others rows v gives few, omega arith)

-- The programs before a place are read, and have so many rows together.
pub record Reading (section : List ℕ) (at total : ℕ) (heads : List Head) : Type 0 where
  pub front : Follow section heads 0 at
  pub given : AreGiven section heads total
  pub inside : at ≤ length section
  pub few : total ≤ total_limit

pub reading_none : (section : List ℕ) (heads : List Head) → heads ≡ [] → Reading section 0 0 heads
reading_none section heads e = subst (λ (z : List Head). Reading section 0 0 z) (sym e) (record { front = refl; given = refl; inside = omega arith; few = omega arith })

module _ (section : List ℕ) (origin at total : ℕ) (heads : List Head) (r : Reading section at total heads) where
  pub head_fault : (f : Fault) → at < length section → IsFaultOf (HeadFault section at) origin f → IsFaultOf (LinesFault section) origin f
  head_fault f lt (place, e, h) = (place, e, unit_lines section f.kind place (record { heads = heads; at = at; front = r.front; inside = lt; fault = inl h }))

  pub reading_whole : length section ≤ at → AreRead section heads
  reading_whole all =
      let inside : at ≤ length section = r.inside in
      let end : at ≡ length section = omega arith in
      are_read section heads total (subst (λ (z : ℕ). Follow section heads 0 z) end r.front) r.given r.few

  module _ (head : Head) (place : head.at ≡ at) (h : IsHead section head) where
    pub program_fault : (f : Fault) → at < length section → IsFaultOf (ProgramFault section head) origin f → IsFaultOf (LinesFault section) origin f
    program_fault f lt (p, e, g) =
        let same : head ≡ head_at section at = head_is section head at h place in (
          p,
          e,
          unit_lines section f.kind p (record {
            heads = heads;
            at = at;
            front = r.front;
            inside = lt;
            fault = inr (rules_at section head at h place, subst (λ (z : Head). ProgramFault section z f.kind p) same g);
          }),
        )

    pub total_fault : (count : ℕ) → HasRows head (program_of section head) count → total_limit < total + count → LinesFault section Limit at
    total_fault count (rows, g, size) many =
        inr (record {
          heads = heads;
          head = head;
          front = subst (λ (z : ℕ). Follow section heads 0 z) (sym place) r.front;
          stands = h;
          before = total;
          counted = given_rows section heads total r.given;
          rows = rows;
          given = g;
          within = r.few;
          past = omega arith;
          here = sym place;
        })

    pub reading_on : (count : ℕ) (more : List Head) → HasRows head (program_of section head) count → count ≤ row_limit → total + count ≤ total_limit → more ≡ heads ++ head ∷ [] → Reading section (at + head.len) (total + count) more
    reading_on count more (rows, g, size) few all m =
        let b = bounds section head.at h.rules in
        let len : head.len ≡ unit_end section head.at - head.at = ap (λ z. z.len) h.fields in
        let short : length rows ≤ row_limit = omega arith in
        let pushed : AreGiven section (heads ++ head ∷ []) (total + count) = subst (λ (n : ℕ). AreGiven section (heads ++ head ∷ []) (total + n)) size (given_push section heads head total rows r.given g short) in
        let read : Reading section (at + head.len) (total + count) (heads ++ head ∷ []) = record {
          front = follow_push section heads head 0 at r.front place h;
          given = pushed;
          inside = omega arith;
          few = all;
        } in
        subst (λ (z : List Head). Reading section (at + head.len) (total + count) z) (sym m) read
