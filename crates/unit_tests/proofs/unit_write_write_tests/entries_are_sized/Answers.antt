use Rattle.std.proofs.Common.{◌≡◌, ◌<◌, ◌∙◌, ℕ, List, length, below_more, ap, subst, arith}
use Rattle.form_codec.specs.declared.value.Value.{Value}
use Rattle.abbrev_tables.specs.declared.decl.Spec.{Spec}
use Rattle.entry_arena.specs.declared.entry.Entry.{Entry}
use Rattle.entry_arena.specs.Arena.{Arena, entry_at}
use Rattle.unit_write.specs.Placing.{columns_of, values_in}
use Rattle.unit_tests.proofs.WritableUnits.{AreSizedIn}
use Rattle.unit_tests.proofs.unit_write_write_tests.entries_are_sized.Goals as goal

pub loop-id-preserved : goal.loop-id-preserved
loop-id-preserved c =
    let f = c.args.unit.now.forest in
    let table = c.args.table.now in
    let specs : List Spec = c.args.specs.now in
    let forest : c.forest-forest.result.now ≡ f = c.forest-forest.ensures in
    let e : Entry = entry_at f.entries c.loop-id.id in
    let entry : c.entry-number.result ≡ e = c.entry-number.ensures ∙ ap (λ (g : Arena). entry_at g.entries c.loop-id.id) forest in
    let decl : c.entry-number.result.decl ≡ e.decl = ap (λ (z : Entry). z.decl) entry in
    let count : c.len.result ≡ length table.decls = c.len.ensures in
    let known : e.decl < length table.decls = omega (arith, c.if-number-len.false) in
    let columns : c.new_columns.result.now ≡ columns_of table specs e.decl = c.new_columns.ensures ∙ ap (columns_of table specs) decl in
    let values : c.deref.result.now ≡ values_in f c.loop-id.id = c.deref.ensures.value ∙ c.in_ok-read_row.ensures.values ∙ ap (λ (g : Arena). values_in g c.loop-id.id) forest in
    let sized : AreSizedIn c.new_columns.result.now c.deref.result.now = c.are_sized.ensures c.if-not-are_sized.false in
    let first = subst (λ (z : List Spec). AreSizedIn z c.deref.result.now) columns sized in
    let both = subst (λ (z : List Value). AreSizedIn (columns_of table specs e.decl) z) values first in
    record {
      each = below_more (λ (i : ℕ). ((entry_at f.entries i).decl < length table.decls) × AreSizedIn (columns_of table specs (entry_at f.entries i).decl) (values_in f i)) c.loop-id.id c.loop-id.invariant.each (known, both);
    }
