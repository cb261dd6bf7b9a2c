use Rattle.std.proofs.Common.{◌≡◌, ◌≤◌, ◌<◌, ◌+◌, ◌-◌, ◌*◌, ◌^◌, ℕ, List, [], length, map, true, refl, sym, subst, arith}
use Rattle.std.specs.Prelude.{IfOk}
use Rattle.std.proofs.lemmas.Result.{IfOk-weaker}
use Rattle.spelled.specs.Spelled.{Joined}
use Rattle.dw_base.specs.declared.record.Run.{Run}
use Rattle.leb_codec.specs.Records.{OfLines, SpellsRecord}
use Rattle.line_machine.specs.declared.head.Head.{Head}
use Rattle.line_sums.specs.Accepted.{AreLeastRuns}
use Rattle.line_write.specs.declared.lines.Lines.{Lines}
use Rattle.line_write.specs.Faults.{total_limit}
use Rattle.line_write.specs.Least.{LeastLines, OrderedLines}
use Rattle.line_write.specs.Readings.{StandAnew}
use Rattle.line_write.specs.Records.{HaveRuns}
use Rattle.value_links.specs.Sections.{debug_line, line_name}
use Rattle.written_files.specs.Kept.{HaveRunsIn}
use Rattle.rewriter.proofs.DebugSizes.{debug_short, lines_short}
use Rattle.rewriter.proofs.PlannedLists.{if_both}
use Rattle.rewriter.proofs.SectionsAnew.{lines_read, lines_kept}
use Rattle.rewriter.proofs.anew.write_lines.Goals as goal

pub shrink_lines-requires-clause-read : goal.shrink_lines-requires-clause-read
shrink_lines-requires-clause-read c = lines_read c.args.world.now c.requires.world c.section.result.now c.programs.result.now.items c.section.ensures c.programs.ensures

pub shrink_lines-requires-clause-small : goal.shrink_lines-requires-clause-small
shrink_lines-requires-clause-small c =
    let short : length (debug_line c.args.world.now.image) ≤ 2 ^ 28 = debug_short c.args.world.now.image line_name refl c.requires.world.valid in
    subst (λ (z : List ℕ). length z ≤ 2 ^ 30) (sym c.section.ensures) (omega (arith, short))

pub returns-then-classes-clause-stand : goal.returns-then-classes-clause-stand
returns-then-classes-clause-stand c =
    let here = subst (λ (z : List ℕ). IfOk c.shrink_lines.result (λ lines. StandAnew z c.programs.result.now.items lines.bytes.items lines.starts.items)) c.section.ensures c.shrink_lines.ensures.stand in
    subst (λ (z : List Head). IfOk c.shrink_lines.result (λ lines. StandAnew (debug_line c.args.world.now.image) z lines.bytes.items lines.starts.items)) c.programs.ensures here

pub returns-then-classes-clause-least : goal.returns-then-classes-clause-least
returns-then-classes-clause-least c =
    let least = subst (λ (z : List ℕ). IfOk c.shrink_lines.result (λ lines. LeastLines z lines.bytes.items)) c.section.ensures c.shrink_lines.ensures.least in
    IfOk-weaker c.shrink_lines.result (λ (lines : Lines). LeastLines (debug_line c.args.world.now.image) lines.bytes.items) (λ (lines : Lines). c.args.classes.lines ≡ true → LeastLines (debug_line c.args.world.now.image) lines.bytes.items) (λ lines is searched. is) least

pub returns-then-classes-clause-order : goal.returns-then-classes-clause-order
returns-then-classes-clause-order c =
    let order = subst (λ (z : List ℕ). IfOk c.shrink_lines.result (λ lines. OrderedLines z lines.bytes.items)) c.section.ensures c.shrink_lines.ensures.order in
    IfOk-weaker c.shrink_lines.result (λ (lines : Lines). OrderedLines (debug_line c.args.world.now.image) lines.bytes.items) (λ (lines : Lines). c.args.classes.lines ≡ true → OrderedLines (debug_line c.args.world.now.image) lines.bytes.items) (λ lines is searched. is) order

pub returns-then-classes-clause-fits : goal.returns-then-classes-clause-fits
returns-then-classes-clause-fits c =
    let bound = subst (λ (z : List ℕ). IfOk c.shrink_lines.result (λ lines. length lines.bytes.items ≤ 2 * length z + 68 * total_limit)) c.section.ensures c.shrink_lines.ensures.bound in
    IfOk-weaker c.shrink_lines.result (λ lines. length lines.bytes.items ≤ 2 * length (debug_line c.args.world.now.image) + 68 * total_limit) (λ lines. length lines.bytes.items < 2 ^ 32 - 1) (λ (lines : Lines) most. lines_short c.args.world.now.image (length lines.bytes.items) c.requires.world.valid most) bound

pub returns-then-classes-clause-records : goal.returns-then-classes-clause-records
returns-then-classes-clause-records c =
    IfOk-weaker c.shrink_lines.result
    (λ (lines : Lines). (all : List (List Run)) × HaveRuns AreLeastRuns lines.bytes.items all × Joined SpellsRecord (map OfLines all) lines.records.items)
    (λ (lines : Lines). (all : List (List Run)) × HaveRunsIn c.args.classes AreLeastRuns lines.bytes.items all × Joined SpellsRecord (map OfLines all) lines.records.items)
    (λ lines (all, has, spelled). (all, record { searched = λ on. has; kept = λ off. absurd (cc (c.if-classes.true, off)) }, spelled))
    c.shrink_lines.ensures.records

pub returns-else-classes-clause-stand : goal.returns-else-classes-clause-stand
returns-else-classes-clause-stand c =
    let world = c.args.world.now in
    if_both c.keep_lines.result
    (λ (lines : Lines). lines.bytes.items ≡ debug_line world.image)
    (λ (lines : Lines). lines.starts.items ≡ map (λ (head : Head). head.at) world.programs)
    (λ (lines : Lines). StandAnew (debug_line world.image) world.programs lines.bytes.items lines.starts.items)
    (λ (lines : Lines) bytes starts. lines_kept world c.requires.world lines.bytes.items lines.starts.items bytes starts)
    c.keep_lines.ensures.bytes c.keep_lines.ensures.starts

pub returns-else-classes-clause-fits : goal.returns-else-classes-clause-fits
returns-else-classes-clause-fits c =
    let world = c.args.world.now in
    let short : length (debug_line world.image) ≤ 2 ^ 28 = debug_short world.image line_name refl c.requires.world.valid in
    IfOk-weaker c.keep_lines.result (λ (lines : Lines). lines.bytes.items ≡ debug_line world.image) (λ (lines : Lines). length lines.bytes.items < 2 ^ 32 - 1)
    (λ (lines : Lines) same. subst (λ (z : List ℕ). length z < 2 ^ 32 - 1) (sym same) (omega (arith, short)))
    c.keep_lines.ensures.bytes

pub returns-else-classes-clause-records : goal.returns-else-classes-clause-records
returns-else-classes-clause-records c =
    IfOk-weaker c.keep_lines.result
    (λ (lines : Lines). lines.records.items ≡ [])
    (λ (lines : Lines). (all : List (List Run)) × HaveRunsIn c.args.classes AreLeastRuns lines.bytes.items all × Joined SpellsRecord (map OfLines all) lines.records.items)
    (λ lines none. ([], record { searched = λ on. absurd (cc (on, c.if-classes.false)); kept = λ off. refl }, none))
    c.keep_lines.ensures.records
