use Rattle.std.proofs.Common.{◌≡◌, ◌≤◌, ◌<◌, ◌+◌, ◌++◌, ◌∷◌, [], ℕ, List, length, sym, subst, arith, rules}
use Rattle.elf_place.proofs.Totals.{total}
use Rattle.value_links.specs.World.{table_at}
use Rattle.rewriter.specs.declared.tables.NewTable.{NewTable}
use Rattle.rewriter.specs.inside.Tables.{table_anew}
use Rattle.rewriter.specs.inside.Appended.{IsAppended, AreAppended}
use Rattle.rewriter.proofs.Appends.{appended_more}
use Rattle.rewriter.proofs.SectionSizes.{tables_most, tables_fit, table_more}
use Rattle.rewriter.proofs.TableSteps.{counts_there, few_at}
use Rattle.rewriter.proofs.tables.write_all.Goals as goal

pub append_numbered-requires-clause-few : goal.append_numbered-requires-clause-few
append_numbered-requires-clause-few c =
    let inside : c.loop-i.i < length c.args.world.now.tables = search rules in
    few_at c.args.world.now.units c.args.world.now.tables c.args.all.now.items c.requires.uses c.loop-i.i inside c.index-in-loop-i.result.now c.index-in-loop-i.ensures

pub loop-i-preserved : goal.loop-i-preserved
loop-i-preserved c =
    let world = c.args.world.now in
    let all = c.args.all.now.items in
    let i : ℕ = c.loop-i.i in
    let inside : i < length world.tables = search rules in
    let new : NewTable = c.in_ok-new.new in
    let grown : c.push.new.self.items ≡ c.loop-i.written.items ++ new ∷ [] = c.in_ok-push.ensures.items in
    let counts = counts_there world.units world.tables all c.requires.uses i inside c.index-in-loop-i.result.now c.index-in-loop-i.ensures in
    let appended = subst (λ (ns : List ℕ). IsAppended (table_at world.tables i).table ns c.loop-i.bytes.items c.append_numbered.new.bytes.items (table_anew new)) (sym counts) c.in_ok-new.ensures.appended in
    let chosen = c.in_ok-new.ensures.chosen in
    let here = appended_more world.units world.tables all i c.loop-i.bytes.items c.append_numbered.new.bytes.items c.loop-i.written.items new c.loop-i.invariant.appended appended chosen in
    record {
      appended = subst (λ (zs : List NewTable). AreAppended c.args.classes world.units world.tables all (i + 1) c.append_numbered.new.bytes.items zs) (sym grown) here;
      few = table_more world c.requires.world.0 c.requires.world.1 all c.requires.uses i inside c.loop-i.bytes.items c.append_numbered.new.bytes.items (table_anew new) appended chosen c.loop-i.invariant.few;
    }

pub returns-clause-appended : goal.returns-clause-appended
returns-clause-appended c =
    let world = c.args.world.now in
    let count : c.len-i-end.result ≡ length world.tables = search rules in
    let all : c.loop-i.i ≡ length world.tables = omega (arith, count, c.loop-i-test.false, c.loop-i.auto.i-end) in
    subst (λ (n : ℕ). AreAppended c.args.classes world.units world.tables c.args.all.now.items n c.loop-i.bytes.items c.loop-i.written.items) all c.loop-i.invariant.appended

pub returns-clause-fits : goal.returns-clause-fits
returns-clause-fits c =
    let world = c.args.world.now in
    let count : c.len-i-end.result ≡ length world.tables = search rules in
    let all : c.loop-i.i ≡ length world.tables = omega (arith, count, c.loop-i-test.false, c.loop-i.auto.i-end) in
    let most : length c.loop-i.bytes.items ≤ total (tables_most world.tables c.args.all.now.items) (length world.tables) = subst (λ (n : ℕ). length c.loop-i.bytes.items ≤ total (tables_most world.tables c.args.all.now.items) n) all c.loop-i.invariant.few in
    omega (arith, most, tables_fit world c.requires.world.0 c.requires.world.1 c.args.all.now.items c.requires.uses)
