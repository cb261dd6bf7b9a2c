-- Units that are written anew one after the other.
use Rattle.std.proofs.Common.{◌≡◌, ◌≤◌, ◌<◌, ◌+◌, ◌-◌, ◌*◌, ◌^◌, ◌++◌, ◌∙◌, ℕ, suc, List, [], ◌∷◌, length, take, sym, ap, refl, subst, arith}
use Rattle.std.specs.Prelude.{slice_index, not, nat_eq, map}
use Rattle.std.specs.List.{AllZip}
use Rattle.std.proofs.lemmas.List.{append_assoc, append-nil, length-append, map-append, take_all}
use Rattle.spelled.specs.Spelled.{Joined, Appends}
use Rattle.spelled.proofs.Joins.{joined_push}
use Rattle.dw_base.specs.declared.record.Run.{Run}
use Rattle.leb_codec.specs.Records.{Record, SpellsRecord, OfLines}
use Rattle.line_machine.specs.declared.head.Head.{Head}
use Rattle.line_machine.specs.declared.registers.Row.{Row}
use Rattle.line_machine.specs.Rows.{GivesRows}
use Rattle.fixed_width.specs.InitialLengths.{unit_end}
use Rattle.line_machine.specs.Heads.{head_at, IsHead, header_length, opcode_base, program_of}
use Rattle.line_machine.specs.Class.{Encoding, IsTaken, with_pair}
use Rattle.line_sums.specs.Accepted.{AreLeastRuns}
use Rattle.line_params.specs.Order.{AreInOrder}
use Rattle.line_machine.specs.Faults.{row_limit}
use Rattle.line_write.specs.Programs.{Follow, Tile, tables_of, counted, body_of, IsRewrittenUnit, AreRewritten}
use Rattle.line_write.specs.inside.Programs.{IsLeastFor}
use Rattle.line_write.specs.Meaning.{ProgramMeaning, HasMeaning, HaveMeanings, SameLines}
use Rattle.line_write.specs.Least.{encoding_at, IsLeastProgram, IsOrderedProgram, AreEach, LeastLines, OrderedLines}
use Rattle.line_write.specs.Faults.{total_limit}
use Rattle.line_write.specs.Readings.{AreRead, StandAnew}
use Rattle.line_write.specs.Records.{AreRunsFor, HaveRuns}
use Rattle.line_write.proofs.ActsAlike.{ActsAs, gives_as}
use Rattle.line_write.proofs.Pieces.{Holds}
use Rattle.line_write.proofs.ReadBack.{IsReadBack, bounds, sizes, counted_size, unit_read_back}
use Rattle.line_write.proofs.Putting.{body_counted}
use Rattle.line_write.proofs.Tiling.{AreGiven, one_meaning_each}
use Rattle.line_write.proofs.Reading.{read_few, are_read}
use Rattle.line_write.proofs.RunLaws.{runs_by}

-- ONE UNIT

-- What is written for the unit of a head.
pub record Written (section : List ℕ) (head : Head) : Type 0 where
  pub rows : List Row
  pub given : GivesRows head (program_of section head) rows
  pub few : length rows ≤ row_limit
  pub encoding : Encoding
  pub taken : IsTaken head rows encoding
  pub order : AreInOrder head.stmt encoding.base encoding.range head.min rows encoding.bytes
  pub short : length encoding.bytes ≤ 68 * length rows
  pub runs : List Run
  pub judged : AreLeastRuns head rows (length encoding.bytes) runs

-- What it is, where it stands in bytes.
record IsBack (section : List ℕ) (head : Head) (w : Written section head) (bytes : List ℕ) (p : ℕ) : Type 0 where
  stands : IsHead bytes (head_at bytes p)
  end : unit_end bytes p ≡ p + length (counted (body_of section head w.encoding))
  meaning : ProgramMeaning
  old : HasMeaning section head meaning
  new : HasMeaning bytes (head_at bytes p) meaning
  given : GivesRows (head_at bytes p) (program_of bytes (head_at bytes p)) w.rows
  least : IsLeastProgram section bytes head (head_at bytes p)
  ordered : IsOrderedProgram section bytes head (head_at bytes p)
  shown : AreRunsFor AreLeastRuns bytes (head_at bytes p) w.runs

same_encoding : (e f : Encoding) → e.base ≡ f.base → e.range ≡ f.range → e.bytes ≡ f.bytes → e ≡ f
same_encoding e f a b c =
    ap (λ z. record e { base = z }) a
    ∙ ap (λ z. record e { base = f.base; range = z }) b
    ∙ ap (λ z. record f { bytes = z }) c

-- how many bytes the old unit and the new one have
unit_sizes : (section : List ℕ) (head : Head) (e : Encoding) → IsHead section head → (27 + length (tables_of section head) ≤ head.len) × (head.at + head.len ≤ length section) × (length (counted (body_of section head e)) ≡ 30 + length (tables_of section head) + length e.bytes)
unit_sizes section head e h =
    let b = bounds section head.at h.rules in
    let len : head.len ≡ unit_end section head.at - head.at = ap (λ z. z.len) h.fields in
    let tables : length (tables_of section head) ≡ header_length section head.at - (5 + opcode_base section head.at) = ap (λ z. length (tables_of section z)) h.fields ∙ (sizes section head.at h.rules).tables in
    let size : length (counted (body_of section head e)) ≡ 4 + length (body_of section head e) = counted_size (body_of section head e) in
    let size2 : length (body_of section head e) ≡ 26 + length (tables_of section head) + length e.bytes = body_counted section head e h in
    (omega arith, omega arith, omega arith)

-- unit_length isn't one of the reserved ones
small_body : (section : List ℕ) (head : Head) (w : Written section head) → IsHead section head → length section ≤ 2 ^ 30 → length (body_of section head w.encoding) < 4294967280
small_body section head w h small =
    let s = unit_sizes section head w.encoding h in
    let old : 27 + length (tables_of section head) ≤ head.len = s.0 in
    let inside : head.at + head.len ≤ length section = s.1 in
    let size : length (body_of section head w.encoding) ≡ 26 + length (tables_of section head) + length w.encoding.bytes = body_counted section head w.encoding h in
    let short : length w.encoding.bytes ≤ 68 * length w.rows = w.short in
    let few : length w.rows ≤ row_limit = w.few in
    omega arith

module _ (section : List ℕ) (at : ℕ) (w : Written section (head_at section at)) (bytes : List ℕ) (p : ℕ) (back : IsReadBack section at w.encoding bytes p) where
  acts : ActsAs (with_pair (head_at section at) w.encoding.base w.encoding.range) (head_at bytes p)
  acts = record {
    min = sym back.min;
    stmt = ap (λ z. not (nat_eq z 0)) (sym back.is_stmt);
    base = sym back.base;
    range = sym back.range;
    opcode_base = sym back.opcode_base;
  }

  gives : GivesRows (head_at bytes p) (program_of bytes (head_at bytes p)) w.rows
  gives = subst (λ (z : List ℕ). GivesRows (head_at bytes p) z w.rows) (sym back.program) (gives_as (with_pair (head_at section at) w.encoding.base w.encoding.range) (head_at bytes p) w.encoding.bytes w.rows acts w.taken.least.member.gives)

  same : w.encoding ≡ encoding_at bytes (head_at bytes p)
  same = same_encoding w.encoding (encoding_at bytes (head_at bytes p)) (sym back.base) (sym back.range) (sym back.program)

  abbrev IsTakenFor : Encoding → Type 0
  IsTakenFor e = IsTaken (head_at section at) w.rows e

  abbrev IsOrdered : Encoding → Type 0
  IsOrdered e = AreInOrder (head_at section at).stmt e.base e.range (head_at section at).min w.rows e.bytes

  is_back : IsBack section (head_at section at) w bytes p
  is_back = record {
    stands = record { rules = back.has; fields = refl };
    end = back.end;
    meaning = record {
      min = slice_index section (at + 12);
      is_stmt = slice_index section (at + 14);
      tables = tables_of section (head_at section at);
      rows = w.rows;
    };
    old = record { min = refl; is_stmt = refl; tables = refl; rows = w.given };
    new = record { min = sym back.min; is_stmt = sym back.is_stmt; tables = sym back.tables; rows = gives };
    given = gives;
    least = record {
      rows = w.rows;
      given = w.given;
      min = back.min;
      stmt = ap (λ z. not (nat_eq z 0)) back.is_stmt;
      opcode_base = back.opcode_base;
      least = (subst IsTakenFor same w.taken).least;
    };
    ordered = record { rows = w.rows; given = w.given; first = (subst IsTakenFor same w.taken).first; order = subst IsOrdered same w.order };
    shown = record {
      rows = w.rows;
      given = gives;
      judged = runs_by (head_at section at) (head_at bytes p) w.rows (length w.encoding.bytes) (length (program_of bytes (head_at bytes p))) w.runs (sym back.min) (ap (λ z. not (nat_eq z 0)) (sym back.is_stmt)) (ap length (sym back.program)) w.judged;
    };
  }

-- a unit that was written is read back
unit_back : (section : List ℕ) (head : Head) (w : Written section head) (bytes : List ℕ) (p : ℕ) → IsHead section head → Holds bytes p (counted (body_of section head w.encoding)) → length (body_of section head w.encoding) < 4294967280 → IsBack section head w bytes p
unit_back section head w bytes p h =
    subst (λ (z : Head). (w : Written section z) → Holds bytes p (counted (body_of section z w.encoding)) → length (body_of section z w.encoding) < 4294967280 → IsBack section z w bytes p) (sym h.fields)
    (λ (w : Written section (head_at section head.at)) here small. is_back section head.at w bytes p (unit_read_back section head.at w.encoding bytes p h.rules w.taken.least.member.pair here small)) w

-- ALL UNITS

-- The bytes are the units of the heads, written anew, and begin at these places, which count from an earlier one; their
-- programs have so many rows together, and these runs, one list for each.
abbrev pub AreWritten : List ℕ → List Head → ℕ → ℕ → List ℕ → List ℕ → List (List Run) → Type 0
AreWritten section [] from total out starts all = (total ≡ 0) × (out ≡ []) × (starts ≡ []) × (all ≡ [])
AreWritten section (head ∷ heads) from total out starts all =
    (w : Written section head) × (others : ℕ) × (rest : List ℕ) × (later : List ℕ) × (more : List (List Run)) × AreWritten section heads (from + length (counted (body_of section head w.encoding))) others rest later more
    × (total ≡ length w.rows + others) × (out ≡ counted (body_of section head w.encoding) ++ rest) × (starts ≡ from ∷ later) × (all ≡ w.runs ∷ more)

written_push : (section : List ℕ) (heads : List Head) (head : Head) (w : Written section head) (from total : ℕ) (out starts : List ℕ) (all : List (List Run)) → AreWritten section heads from total out starts all → AreWritten section (heads ++ head ∷ []) from (total + length w.rows) (out ++ counted (body_of section head w.encoding)) (starts ++ (from + length out) ∷ []) (all ++ w.runs ∷ [])
written_push section [] head w from total out starts all (t, e, s, g) =
    let unit : List ℕ = counted (body_of section head w.encoding) in
    let none : length out ≡ 0 = ap length e in
    let here : from + length out ≡ from = omega arith in
    (w, 0, [], [], [], (refl, refl, refl, refl), omega arith, ap (λ z. z ++ unit) e ∙ sym (append-nil unit), ap (λ z. z ++ (from + length out) ∷ []) s ∙ ap (λ n. n ∷ []) here, ap (λ z. z ++ w.runs ∷ []) g)
written_push section (x ∷ heads) head w from total out starts all (v, others, rest, later, more, a, t, e, s, g) =
    let unit : List ℕ = counted (body_of section head w.encoding) in
    let first : List ℕ = counted (body_of section x v.encoding) in
    let size : length out ≡ length first + length rest = ap length e ∙ length-append first rest in
    let here : from + length out ≡ from + length first + length rest = omega arith in (
      v,
      others + length w.rows,
      rest ++ unit,
      later ++ (from + length first + length rest) ∷ [],
      more ++ w.runs ∷ [],
      written_push section heads head w (from + length first) others rest later more a,
      omega arith,
      ap (λ z. z ++ unit) e ∙ append_assoc first rest unit,
      ap (λ z. z ++ (from + length out) ∷ []) s ∙ ap (λ n. from ∷ (later ++ n ∷ [])) here,
      ap (λ z. z ++ w.runs ∷ []) g,
    )

written_given : (section : List ℕ) (heads : List Head) (from total : ℕ) (out starts : List ℕ) (all : List (List Run)) → AreWritten section heads from total out starts all → AreGiven section heads total
written_given section [] from total out starts all (t, e, s, g) = t
written_given section (head ∷ heads) from total out starts all (w, others, rest, later, more, a, t, e, s, g) =
    (w.rows, others, w.given, w.few, written_given section heads (from + length (counted (body_of section head w.encoding))) others rest later more a, t)

written_joined : (section : List ℕ) (heads : List Head) (from total : ℕ) (out starts : List ℕ) (all : List (List Run)) → AreWritten section heads from total out starts all → Joined (IsRewrittenUnit section) heads out
written_joined section [] from total out starts all (t, e, s, g) = e
written_joined section (head ∷ heads) from total out starts all (w, others, rest, later, more, a, t, e, s, g) = (
  counted (body_of section head w.encoding),
  rest,
  record { rows = w.rows; given = w.given; encoding = w.encoding; taken = w.taken; order = w.order; whole = refl },
  written_joined section heads (from + length (counted (body_of section head w.encoding))) others rest later more a,
  e,
)

-- there are at most 68 bytes a row, and each header, which has 27 bytes or more, gets at most three bytes more
written_bound : (section : List ℕ) (heads : List Head) (at end from total : ℕ) (out starts : List ℕ) (all : List (List Run)) → Follow section heads at end → AreWritten section heads from total out starts all → 10 * at + 9 * length out ≤ 10 * end + 612 * total
written_bound section [] at end from total out starts all f (t, e, s, g) = let none : length out ≡ 0 = ap length e in omega arith
written_bound section (head ∷ heads) at end from total out starts all f (w, others, rest, later, more, a, t, e, s, g) =
    let z = unit_sizes section head w.encoding f.1 in
    let unit : List ℕ = counted (body_of section head w.encoding) in
    let old : 27 + length (tables_of section head) ≤ head.len = z.0 in
    let size : length unit ≡ 30 + length (tables_of section head) + length w.encoding.bytes = z.2 in
    let short : length w.encoding.bytes ≤ 68 * length w.rows = w.short in
    let whole : length out ≡ length unit + length rest = ap length e ∙ length-append unit rest in
    let behind : 10 * (at + head.len) + 9 * length rest ≤ 10 * end + 612 * others = written_bound section heads (at + head.len) end (from + length unit) others rest later more f.2 a in
    omega arith

-- What units are that were written, where they stand in bytes from a place up to another.
record AreBack (section : List ℕ) (heads : List Head) (bytes : List ℕ) (p q total : ℕ) (starts : List ℕ) (all : List (List Run)) : Type 0 where
  news : List Head
  follow : Follow bytes news p q
  given : AreGiven bytes news total
  places : starts ≡ map (λ (head : Head). head.at) news
  count : length news ≡ length heads
  meanings : List ProgramMeaning
  old : HaveMeanings section heads meanings
  new : HaveMeanings bytes news meanings
  least : AreEach (IsLeastProgram section bytes) heads news
  ordered : AreEach (IsOrderedProgram section bytes) heads news
  shown : AllZip (AreRunsFor AreLeastRuns bytes) news all

read_back : (section : List ℕ) (heads : List Head) (at end total : ℕ) (front out rest bytes starts : List ℕ) (all : List (List Run)) → length section ≤ 2 ^ 30 → Follow section heads at end → AreWritten section heads (length front) total out starts all → bytes ≡ front ++ (out ++ rest) → AreBack section heads bytes (length front) (length front + length out) total starts all
read_back section [] at end total front out rest bytes starts all small f (t, e, s, g) whole =
    let none : length out ≡ 0 = ap length e in
    record { news = []; follow = omega arith; given = t; places = s; count = refl; meanings = []; old = tt; new = tt; least = tt; ordered = tt; shown = subst (λ (z : List (List Run)). AllZip (AreRunsFor AreLeastRuns bytes) [] z) (sym g) tt }
read_back section (head ∷ heads) at end total front out rest bytes starts all small f (w, others, x, later, more, a, t, e, s, g) whole =
    let p : ℕ = length front in
    let unit : List ℕ = counted (body_of section head w.encoding) in
    let here : bytes ≡ front ++ (unit ++ (x ++ rest)) = whole ∙ ap (λ z. front ++ (z ++ rest)) e ∙ ap (λ z. front ++ z) (append_assoc unit x rest) in
    let back = unit_back section head w bytes p f.1 (record { front = front; rest = x ++ rest; whole = here; here = refl }) (small_body section head w f.1 small) in
    let first : length (front ++ unit) ≡ p + length unit = length-append front unit in
    let b : AreWritten section heads (length (front ++ unit)) others x later more = subst (λ (z : ℕ). AreWritten section heads z others x later more) (sym first) a in
    let next = read_back section heads (at + head.len) end others (front ++ unit) x rest bytes later more small f.2 b (here ∙ sym (append_assoc front unit (x ++ rest))) in
    let last : unit_end bytes p ≡ p + length unit = back.end in
    let size : length out ≡ length unit + length x = ap length e ∙ length-append unit x in
    let start : length (front ++ unit) ≡ p + (unit_end bytes p - p) = omega arith in
    let stop : length (front ++ unit) + length x ≡ p + length out = omega arith in
    let after : Follow bytes next.news (p + (unit_end bytes p - p)) (p + length out) =
    subst (λ (z : ℕ). Follow bytes next.news (p + (unit_end bytes p - p)) z) stop (subst (λ (z : ℕ). Follow bytes next.news z (length (front ++ unit) + length x)) start next.follow) in
    record {
      news = head_at bytes p ∷ next.news;
      follow = (refl, back.stands, after);
      given = (w.rows, others, back.given, w.few, next.given, t);
      places = s ∙ ap (λ z. p ∷ z) next.places;
      count = ap (λ n. suc n) next.count;
      meanings = back.meaning ∷ next.meanings;
      old = (back.old, next.old);
      new = (back.new, next.new);
      least = (back.least, next.least);
      ordered = (back.ordered, next.ordered);
      shown = subst (λ (z : List (List Run)). AllZip (AreRunsFor AreLeastRuns bytes) (head_at bytes p ∷ next.news) z) (sym g) (back.shown, next.shown);
    }

-- all that was written is read back
all_back : (section bytes starts : List ℕ) (all : List (List Run)) (heads : List Head) (total : ℕ) → length section ≤ 2 ^ 30 → Tile section heads → AreWritten section heads 0 total bytes starts all → AreBack section heads bytes 0 (length bytes) total starts all
all_back section bytes starts all heads total small tile written =
    let end : 0 + length bytes ≡ length bytes = omega arith in
    subst (λ (z : ℕ). AreBack section heads bytes 0 z total starts all) end (read_back section heads 0 (length section) total [] bytes [] bytes starts all small tile written (sym (append-nil bytes)))

-- The programs of the heads are written, and begin at these places, and the records of their runs are there.
pub record Rewriting (section : List ℕ) (heads : List Head) (out starts records : List ℕ) : Type 0 where
  pub total : ℕ
  pub all : List (List Run)
  pub written : AreWritten section heads 0 total out starts all
  pub spelled : Joined SpellsRecord (map OfLines all) records

pub rewriting_none : (section : List ℕ) (heads : List Head) (out starts records : List ℕ) → heads ≡ [] → out ≡ [] → starts ≡ [] → records ≡ [] → Rewriting section heads out starts records
rewriting_none section heads out starts records none e s r =
    subst (λ (z : List Head). Rewriting section z out starts records) (sym none) (record { total = 0; all = []; written = (refl, e, s, refl); spelled = r })

-- the record of a program more
records_on : (all : List (List Run)) (runs : List Run) (records records2 : List ℕ) → Joined SpellsRecord (map OfLines all) records → Appends SpellsRecord (OfLines runs) records records2 → Joined SpellsRecord (map OfLines (all ++ runs ∷ [])) records2
records_on all runs records records2 before (own, spelled, is) =
    subst (λ (z : List ℕ). Joined SpellsRecord (map OfLines (all ++ runs ∷ [])) z) (sym is) (
    subst (λ (z : List Record). Joined SpellsRecord z (records ++ own)) (sym (map-append OfLines all (runs ∷ []))) (
    joined_push SpellsRecord (map OfLines all) (OfLines runs) records own before spelled))

-- one program more
pub rewriting_on : (section : List ℕ) (heads more : List Head) (head : Head) (e : Encoding) (runs : List Run) (out out2 starts starts2 records records2 : List ℕ) (start : ℕ) → Rewriting section heads out starts records → IsLeastFor section head e runs → more ≡ heads ++ head ∷ [] → start ≡ length out → starts2 ≡ starts ++ start ∷ [] → out2 ≡ out ++ counted (body_of section head e) → Appends SpellsRecord (OfLines runs) records records2 → Rewriting section more out2 starts2 records2
rewriting_on section heads more head e runs out out2 starts starts2 records records2 start r l m f s o added =
    let w : Written section head = record { rows = l.rows; given = l.given; few = l.few; encoding = e; taken = l.taken; order = l.order; short = l.short; runs = runs; judged = l.judged } in
    let total : ℕ = r.total + length l.rows in
    let all : List (List Run) = r.all ++ runs ∷ [] in
    let pushed : AreWritten section (heads ++ head ∷ []) 0 total (out ++ counted (body_of section head e)) (starts ++ (0 + length out) ∷ []) all = written_push section heads head w 0 r.total out starts r.all r.written in
    let place : 0 + length out ≡ start = omega arith in
    let places : starts ++ (0 + length out) ∷ [] ≡ starts2 = ap (λ n. starts ++ n ∷ []) place ∙ sym s in
    let a : AreWritten section (heads ++ head ∷ []) 0 total out2 (starts ++ (0 + length out) ∷ []) all = subst (λ (z : List ℕ). AreWritten section (heads ++ head ∷ []) 0 total z (starts ++ (0 + length out) ∷ []) all) (sym o) pushed in
    let b : AreWritten section (heads ++ head ∷ []) 0 total out2 starts2 all = subst (λ (z : List ℕ). AreWritten section (heads ++ head ∷ []) 0 total out2 z all) places a in
    subst (λ (z : List Head). Rewriting section z out2 starts2 records2) (sym m) (record { total = total; all = all; written = b; spelled = records_on r.all runs records records2 r.spelled added })

-- all programs are written
module _ (section : List ℕ) (heads : List Head) (out starts records : List ℕ) (read : AreRead section heads) (i : ℕ) (all : length heads ≤ i) (front : Rewriting section (take i heads) out starts records) where
  r : Rewriting section heads out starts records
  r = subst (λ (z : List Head). Rewriting section z out starts records) (take_all i heads all) front

  pub rewriting_done : AreRewritten section out
  rewriting_done = (heads, read.tiled, written_joined section heads 0 r.total out starts r.all r.written)

  few : r.total ≤ total_limit
  few = read_few section heads r.total read (written_given section heads 0 r.total out starts r.all r.written)

  pub rewriting_bound : 9 * length out ≤ 10 * length section + 612 * total_limit
  rewriting_bound =
      let bound : 10 * 0 + 9 * length out ≤ 10 * length section + 612 * r.total = written_bound section heads 0 (length section) 0 r.total out starts r.all read.tiled r.written in
      let together : r.total ≤ total_limit = few in
      omega arith

  module _ (small : length section ≤ 2 ^ 30) where
    back : AreBack section heads out 0 (length out) r.total starts r.all
    back = all_back section out starts r.all heads r.total small read.tiled r.written

    pub rewriting_means : SameLines section out
    rewriting_means = (back.meanings, (heads, read.tiled, back.old), (back.news, back.follow, back.new))

    pub rewriting_least : LeastLines section out
    rewriting_least = (heads, back.news, read.tiled, back.follow, back.least)

    pub rewriting_ordered : OrderedLines section out
    rewriting_ordered = (heads, back.news, read.tiled, back.follow, back.ordered)

    pub rewriting_stand : StandAnew section heads out starts
    rewriting_stand = record {
      written = back.news;
      read = are_read out back.news r.total back.follow back.given few;
      places = back.places;
      count = back.count;
      means = λ meanings h. subst (λ (z : List ProgramMeaning). HaveMeanings out back.news z) (one_meaning_each section heads 0 back.meanings meanings read.tiled back.old h) back.new;
    }

    pub rewriting_records : (all : List (List Run)) × HaveRuns AreLeastRuns out all × Joined SpellsRecord (map OfLines all) records
    rewriting_records = (r.all, (back.news, back.follow, back.shown), r.spelled)
