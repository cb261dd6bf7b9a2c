use Rattle.std.proofs.Common.{rules, ◌≡◌, ◌≤◌, ◌<◌, ◌+◌, ◌^◌, ℕ, List, length, get_or, drop, ◌∙◌, sym, ap, subst, arith}
use Rattle.std.specs.List.{All}
use Rattle.std.proofs.lemmas.Result.{on_ok_weaker, on_err_weaker}
use Rattle.std.proofs.lemmas.List.Elements.{All-take, All-drop}
use Rattle.spelled.specs.Spelled.{Appends}
use Rattle.leb_codec.specs.Digits.{Extends}
use Rattle.form_codec.specs.declared.value.Value.{Value}
use Rattle.form_codec.specs.Values.{LiesIn}
use Rattle.entry_arena.specs.declared.entry.Entry.{Entry}
use Rattle.entry_arena.specs.Arena.{Arena, entry_at}
use Rattle.unit_write.specs.Placing.{columns_of, values_in, among_values}
use Rattle.unit_write.specs.Moved.{new_values, lens_anew}
use Rattle.unit_write.specs.inside.Puts.{PutsValues}
use Rattle.unit_write.proofs.Anew.{count_in}
use Rattle.unit_write.proofs.PutLaws.{extends_more, size_as, entry_put}
use Rattle.unit_write.proofs.TakenUnits.{have_values, all_lie}
use Rattle.unit_write.proofs.write.put_entry.Goals as goal

pub put_values-requires-clause-sized : goal.put_values-requires-clause-sized
put_values-requires-clause-sized c =
    let f = c.args.unit.now.forest in
    let forest : c.forest-forest.result.now ≡ f = c.forest-forest.ensures in
    let entry : c.entry-entry.result ≡ entry_at f.entries c.args.id = c.entry-entry.ensures ∙ ap (λ (g : Arena). entry_at g.entries c.args.id) forest in
    let section : c.section.result.now ≡ f.section = c.section.ensures ∙ ap (λ (g : Arena). g.section) forest in
    let columns : c.new_columns.result.now ≡ columns_of c.args.decls.now c.args.specs.now (entry_at f.entries c.args.id).decl = c.new_columns.ensures ∙ ap (λ (e : Entry). columns_of c.args.decls.now c.args.specs.now e.decl) entry in
    let values : c.deref.result.now ≡ values_in f c.args.id = c.deref.ensures.value ∙ c.in_ok-read_row.ensures.values ∙ ap (λ (g : Arena). values_in g c.args.id) forest in
    let size = c.requires.writable.sized c.args.id c.requires.inside in
    (among_values f (lens_anew f (new_values c.args.new.now)) c.args.id, size.1.0, size_as c.section.result.now f.section c.new_columns.result.now (columns_of c.args.decls.now c.args.specs.now (entry_at f.entries c.args.id).decl) c.deref.result.now (values_in f c.args.id) (among_values f (lens_anew f (new_values c.args.new.now)) c.args.id) size.1.0 section columns values size.1.1)

pub put_values-requires-clause-inside : goal.put_values-requires-clause-inside
put_values-requires-clause-inside c =
    let unit = c.args.unit.now in
    let f = unit.forest in
    let forest : c.forest-forest.result.now ≡ f = c.forest-forest.ensures in
    let e = entry_at f.entries c.args.id in
    let section : c.section.result.now ≡ f.section = c.section.ensures ∙ ap (λ (g : Arena). g.section) forest in
    let values : c.deref.result.now ≡ values_in f c.args.id = c.deref.ensures.value ∙ c.in_ok-read_row.ensures.values ∙ ap (λ (g : Arena). values_in g c.args.id) forest in
    let all : All (LiesIn (length f.section)) (values_in f c.args.id) = All-take (LiesIn (length f.section)) e.count (drop e.first f.values) (All-drop (LiesIn (length f.section)) e.first f.values (all_lie unit c.args.decls.now c.requires.writable.held)) in
    let there = subst (λ (z : List Value). All (LiesIn (length f.section)) z) (sym values) all in
    subst (λ (z : List ℕ). All (LiesIn (length z)) c.deref.result.now) (sym section) there

pub put_values-requires-clause-new : goal.put_values-requires-clause-new
put_values-requires-clause-new c =
    let f = c.args.unit.now.forest in
    let forest : c.forest-forest.result.now ≡ f = c.forest-forest.ensures in
    let e = entry_at f.entries c.args.id in
    let entry : c.entry-entry.result ≡ e = c.entry-entry.ensures ∙ ap (λ (g : Arena). entry_at g.entries c.args.id) forest in
    let first : c.entry-entry.result.first ≡ e.first = ap (λ (z : Entry). z.first) entry in
    let values : c.deref.result.now ≡ values_in f c.args.id = c.deref.ensures.value ∙ c.in_ok-read_row.ensures.values ∙ ap (λ (g : Arena). values_in g c.args.id) forest in
    let inside : e.first + e.count ≤ length f.values = (have_values c.args.unit.now c.args.decls.now c.requires.writable.held).inside c.args.id c.requires.inside in
    let count : length c.deref.result.now ≡ e.count = ap length values ∙ count_in f c.args.id inside in
    (length f.values, c.requires.new, omega arith)

pub returns-clause-ok : goal.returns-clause-ok
returns-clause-ok c =
    let table = c.args.decls.now in
    let columns = c.args.specs.now in
    let numbers : List ℕ = c.args.numbers.now in
    let anew = new_values c.args.new.now in
    let f = c.args.unit.now.forest in
    let id : ℕ = c.args.id in
    let forest : c.forest-forest.result.now ≡ f = c.forest-forest.ensures in
    let entry : c.entry-entry.result ≡ entry_at f.entries id = c.entry-entry.ensures ∙ ap (λ (g : Arena). entry_at g.entries id) forest in
    let section : c.section.result.now ≡ f.section = c.section.ensures ∙ ap (λ (g : Arena). g.section) forest in
    let cs : c.new_columns.result.now ≡ columns_of table columns (entry_at f.entries id).decl = c.new_columns.ensures ∙ ap (λ (e : Entry). columns_of table columns e.decl) entry in
    let vs : c.deref.result.now ≡ values_in f id = c.deref.ensures.value ∙ c.in_ok-read_row.ensures.values ∙ ap (λ (g : Arena). values_in g id) forest in
    let first : c.entry-entry.result.first ≡ (entry_at f.entries id).first = ap (λ (e : Entry). e.first) entry in
    let n : c.from.result ≡ get_or numbers c.entry-entry.result.decl 0 = search rules in
    let number : c.from.result ≡ get_or numbers (entry_at f.entries id).decl 0 = n ∙ ap (λ (e : Entry). get_or numbers e.decl 0) entry in
    let fits : c.from.result < 2 ^ 64 = search rules in
    on_ok_weaker c.put_values.result (λ (put : Appends (PutsValues c.section.result.now anew c.entry-entry.result.first c.new_columns.result.now) c.deref.result.now c.put_u.new.out.items c.put_values.new.out.items). entry_put table columns numbers anew f id c.from.result c.section.result.now c.entry-entry.result.first c.new_columns.result.now c.deref.result.now c.args.out.now.items c.put_u.new.out.items c.put_values.new.out.items number section first cs vs fits c.in_ok-put_u.ensures.ok put) c.put_values.ensures.ok

pub returns-clause-err : goal.returns-clause-err
returns-clause-err c =
    let put = c.in_ok-put_u.ensures.ok in
    on_err_weaker c.put_values.result (λ (more : Extends c.put_u.new.out.items c.put_values.new.out.items). extends_more c.args.out.now.items c.put_u.new.out.items c.put_values.new.out.items (put.0, put.2) more) c.put_values.ensures.err
