use Rattle.std.proofs.Common.{◌≡◌, ◌≤◌, ◌<◌, ◌∙◌, [], ◌∷◌, ◌++◌, length, true≢false, sym, refl, subst, arith}
use Rattle.std.specs.Prelude.{Option, Some, None}
use Rattle.line_machine.specs.declared.registers.Row.{Row}
use Rattle.line_machine.specs.Heads.{program_of}
use Rattle.line_machine.specs.Cursors.{Answers}
use Rattle.same_meaning.proofs.CursorRows.{given_none, given_more, given_all, rises, goes_on, next_once}
use Rattle.same_meaning.proofs.NextRows.{other_next, same_next, no_next, some_next}
use Rattle.same_meaning.proofs.programs.give_same_rows.Goals as goal

pub loop-first-init : goal.loop-first-init
loop-first-init c = record {
  rows = [];
  one = given_none c.args.before.now c.args.old.now c.new-first.result (c.new-first.ensures.stands c.args.before.now c.requires.old.stands) c.new-first.ensures.head c.new-first.ensures.origin c.new-first.ensures.start;
  other = given_none c.args.after.now c.args.new.now c.new-second.result (c.new-second.ensures.stands c.args.after.now c.requires.new.stands) c.new-second.ensures.head c.new-second.ensures.origin c.new-second.ensures.start;
}

pub returns-then-ne : goal.returns-then-ne
returns-then-ne c =
    let all = c.loop-first.invariant in (
      λ no. absurd (true≢false (sym no)),
      λ (rows, one, other).
          let first = goes_on c.args.before.now c.args.old.now c.loop-first.first all.rows all.one c.requires.old.stands c.next_row-row.new.cursor c.next_row-row.result rows c.next_row-row.ensures.row one in
          let second = goes_on c.args.after.now c.args.new.now c.loop-first.second all.rows all.other c.requires.new.stands c.next_row-other.new.cursor c.next_row-other.result rows c.next_row-other.ensures.row other in
          absurd (other_next c.next_row-row.result c.next_row-other.result (sym c.if-ne.true ∙ c.ne.ensures) (next_once all.rows c.next_row-row.result c.next_row-other.result rows first second)),
    )

pub returns-then-is_none : goal.returns-then-is_none
returns-then-is_none c =
    let all = c.loop-first.invariant in
    let none : c.next_row-row.result ≡ None = no_next c.next_row-row.result c.is_none.result c.is_none.ensures c.if-is_none.true in
    let also : c.next_row-other.result ≡ None = sym (same_next c.next_row-row.result c.next_row-other.result (sym c.if-ne.false ∙ c.ne.ensures)) ∙ none in
    let one = given_all c.args.before.now c.args.old.now c.loop-first.first all.rows all.one c.next_row-row.new.cursor (subst (λ (z : Option Row). Answers c.args.before.now c.loop-first.first c.next_row-row.new.cursor z) none c.next_row-row.ensures.row) in
    let other = given_all c.args.after.now c.args.new.now c.loop-first.second all.rows all.other c.next_row-other.new.cursor (subst (λ (z : Option Row). Answers c.args.after.now c.loop-first.second c.next_row-other.new.cursor z) also c.next_row-other.ensures.row) in
    (λ _. (all.rows, one, other), λ _. refl)

pub loop-first-smaller : goal.loop-first-smaller
loop-first-smaller c =
    let all = c.loop-first.invariant in
    let some = some_next c.next_row-row.result c.is_none.result c.is_none.ensures c.if-is_none.false in
    let row = subst (λ (z : Option Row). Answers c.args.before.now c.loop-first.first c.next_row-row.new.cursor z) some.1 c.next_row-row.ensures.row in
    let on = rises c.args.before.now c.args.old.now c.loop-first.first all.rows all.one c.requires.old.stands c.next_row-row.new.cursor some.0 row in
    let less : c.loop-first.first.place.at < c.next_row-row.new.cursor.place.at = on.0 in
    let inside : c.next_row-row.new.cursor.place.at ≤ length (program_of c.args.before.now c.args.old.now) = on.1 in
    omega arith

pub loop-first-preserved : goal.loop-first-preserved
loop-first-preserved c =
    let all = c.loop-first.invariant in
    let some = some_next c.next_row-row.result c.is_none.result c.is_none.ensures c.if-is_none.false in
    let also : c.next_row-other.result ≡ Some some.0 = sym (same_next c.next_row-row.result c.next_row-other.result (sym c.if-ne.false ∙ c.ne.ensures)) ∙ some.1 in
    let row = subst (λ (z : Option Row). Answers c.args.before.now c.loop-first.first c.next_row-row.new.cursor z) some.1 c.next_row-row.ensures.row in
    let other = subst (λ (z : Option Row). Answers c.args.after.now c.loop-first.second c.next_row-other.new.cursor z) also c.next_row-other.ensures.row in
    record {
      rows = all.rows ++ some.0 ∷ [];
      one = given_more c.args.before.now c.args.old.now c.loop-first.first all.rows all.one c.next_row-row.new.cursor some.0 c.next_row-row.ensures.stands c.next_row-row.ensures.head c.next_row-row.ensures.origin row;
      other = given_more c.args.after.now c.args.new.now c.loop-first.second all.rows all.other c.next_row-other.new.cursor some.0 c.next_row-other.ensures.stands c.next_row-other.ensures.head c.next_row-other.ensures.origin other;
    }
