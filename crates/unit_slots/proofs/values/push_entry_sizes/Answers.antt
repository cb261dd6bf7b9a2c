use Rattle.std.proofs.Common.{◌≡◌, ◌<◌, ◌∙◌, ℕ, List, length, sym, ap, subst, arith}
use Rattle.leb_codec.specs.Leb.{Uleb}
use Rattle.form_codec.specs.Forms.{Meaning, SpellsValue}
use Rattle.abbrev_tables.specs.declared.decl.Spec.{Spec}
use Rattle.abbrev_tables.specs.Listings.{spec_at}
use Rattle.entry_arena.specs.declared.entry.Entry.{Entry}
use Rattle.entry_arena.specs.Arena.{Arena, entry_at}
use Rattle.entry_arena.specs.Trees.{SpellsBetween, declared_at}
use Rattle.entry_read.specs.Units.{declarations_of}
use Rattle.value_links.specs.Values.{declaration_of}
use Rattle.unit_slots.specs.inside.Own.{unit_by, operations_by}
use Rattle.unit_slots.proofs.EntrySizes.{declared, code_there, known, value_there, stands_here, placed_here, come_first, come_on, all_sized, all_room}
use Rattle.unit_slots.proofs.values.push_entry_sizes.Goals as goal

pub columns_of-columns-requires-clause-inside : goal.columns_of-columns-requires-clause-inside
columns_of-columns-requires-clause-inside c = rw (c.entry-entry.ensures, c.forest-forest.ensures) (declared (unit_by c.args.unit.now c.args.table.now) c.requires.unit c.args.id c.requires.id)

pub code_end-from-requires : goal.code_end-from-requires
code_end-from-requires c = rw (c.section-info.ensures, c.entry-entry.ensures, c.forest-forest.ensures) (code_there (unit_by c.args.unit.now c.args.table.now) c.requires.unit c.args.id c.requires.id)

pub loop-column-init : goal.loop-column-init
loop-column-init c =
    let entry : c.entry-entry.result ≡ entry_at c.args.unit.now.forest.entries c.args.id = c.entry-entry.ensures ∙ ap (λ (f : Arena). entry_at f.entries c.args.id) c.forest-forest.ensures in
    let section : c.section-info.result.now ≡ c.args.unit.now.forest.section = c.section-info.ensures ∙ ap (λ (f : Arena). f.section) c.forest-forest.ensures in
    let ends : (code to : ℕ) → SpellsBetween (Uleb code) c.args.unit.now.forest.section (entry_at c.args.unit.now.forest.entries c.args.id).at to → c.code_end-from.result ≡ to =
    λ code to stands. c.code_end-from.ensures code to (subst (λ (e : Entry). SpellsBetween (Uleb code) c.section-info.result.now e.at to) (sym entry) (subst (λ (z : List ℕ). SpellsBetween (Uleb code) z (entry_at c.args.unit.now.forest.entries c.args.id).at to) (sym section) stands)) in
    record {
      come = come_first (unit_by c.args.unit.now c.args.table.now) c.requires.unit c.args.id c.requires.id (operations_by (unit_by c.args.unit.now c.args.table.now) c.args.operations.now) c.code_end-from.result c.args.sizes.now.items ends c.requires.before;
      counted = (let same : c.entry-entry.result.first ≡ (entry_at c.args.unit.now.forest.entries c.args.id).first = ap (λ (e : Entry). e.first) entry in omega (arith, same));
      few = c.requires.few;
    }

pub value_end-to-requires : goal.value_end-to-requires
value_end-to-requires c =
    let entry : c.entry-entry.result ≡ entry_at c.args.unit.now.forest.entries c.args.id = c.entry-entry.ensures ∙ ap (λ (f : Arena). entry_at f.entries c.args.id) c.forest-forest.ensures in
    let columns : c.columns_of-columns.result.now ≡ (declaration_of (unit_by c.args.unit.now c.args.table.now) c.args.id).columns = c.columns_of-columns.ensures.columns ∙ ap (λ (e : Entry). (declared_at (declarations_of c.args.table.now) e.decl).columns) entry in
    let inside : c.loop-column.column-index < length (declaration_of (unit_by c.args.unit.now c.args.table.now) c.args.id).columns = subst (λ (z : List Spec). c.loop-column.column-index < length z) columns c.loop-column-test.true in
    rw (columns, c.section-info.ensures, c.forest-forest.ensures) (value_there (unit_by c.args.unit.now c.args.table.now) c.requires.unit c.args.id c.requires.id c.loop-column.column-index c.loop-column.from inside c.loop-column.invariant.come.stand)

pub push_value_sizes-requires-clause-known : goal.push_value_sizes-requires-clause-known
push_value_sizes-requires-clause-known c =
    let entry : c.entry-entry.result ≡ entry_at c.args.unit.now.forest.entries c.args.id = c.entry-entry.ensures ∙ ap (λ (f : Arena). entry_at f.entries c.args.id) c.forest-forest.ensures in
    let columns : c.columns_of-columns.result.now ≡ (declaration_of (unit_by c.args.unit.now c.args.table.now) c.args.id).columns = c.columns_of-columns.ensures.columns ∙ ap (λ (e : Entry). (declared_at (declarations_of c.args.table.now) e.decl).columns) entry in
    let inside : c.loop-column.column-index < length (declaration_of (unit_by c.args.unit.now c.args.table.now) c.args.id).columns = subst (λ (z : List Spec). c.loop-column.column-index < length z) columns c.loop-column-test.true in
    rw (c.forest-forest.ensures, c.loop-column.invariant.counted) (known (unit_by c.args.unit.now c.args.table.now) c.requires.unit c.args.id c.requires.id c.loop-column.column-index c.loop-column.from inside c.loop-column.invariant.come.stand)

pub push_value_sizes-requires-clause-stands : goal.push_value_sizes-requires-clause-stands
push_value_sizes-requires-clause-stands c =
    let entry : c.entry-entry.result ≡ entry_at c.args.unit.now.forest.entries c.args.id = c.entry-entry.ensures ∙ ap (λ (f : Arena). entry_at f.entries c.args.id) c.forest-forest.ensures in
    let section : c.section-info.result.now ≡ c.args.unit.now.forest.section = c.section-info.ensures ∙ ap (λ (f : Arena). f.section) c.forest-forest.ensures in
    let columns : c.columns_of-columns.result.now ≡ (declaration_of (unit_by c.args.unit.now c.args.table.now) c.args.id).columns = c.columns_of-columns.ensures.columns ∙ ap (λ (e : Entry). (declared_at (declarations_of c.args.table.now) e.decl).columns) entry in
    let inside : c.loop-column.column-index < length (declaration_of (unit_by c.args.unit.now c.args.table.now) c.args.id).columns = subst (λ (z : List Spec). c.loop-column.column-index < length z) columns c.loop-column-test.true in
    let ends : (meaning : Meaning) (next : ℕ) → SpellsBetween (SpellsValue (spec_at (declaration_of (unit_by c.args.unit.now c.args.table.now) c.args.id).columns c.loop-column.column-index).name (spec_at (declaration_of (unit_by c.args.unit.now c.args.table.now) c.args.id).columns c.loop-column.column-index).form (spec_at (declaration_of (unit_by c.args.unit.now c.args.table.now) c.args.id).columns c.loop-column.column-index).constant meaning) c.args.unit.now.forest.section c.loop-column.from next → c.value_end-to.result ≡ next =
    λ meaning next stands. c.value_end-to.ensures meaning next (subst (λ (z : List Spec). SpellsBetween (SpellsValue (spec_at z c.loop-column.column-index).name (spec_at z c.loop-column.column-index).form (spec_at z c.loop-column.column-index).constant meaning) c.section-info.result.now c.loop-column.from next) (sym columns) (subst (λ (z : List ℕ). SpellsBetween (SpellsValue (spec_at (declaration_of (unit_by c.args.unit.now c.args.table.now) c.args.id).columns c.loop-column.column-index).name (spec_at (declaration_of (unit_by c.args.unit.now c.args.table.now) c.args.id).columns c.loop-column.column-index).form (spec_at (declaration_of (unit_by c.args.unit.now c.args.table.now) c.args.id).columns c.loop-column.column-index).constant meaning) z c.loop-column.from next) (sym section) stands)) in
    let column : Spec = spec_at (declaration_of (unit_by c.args.unit.now c.args.table.now) c.args.id).columns c.loop-column.column-index in
    rw (c.forest-forest.ensures, c.loop-column.invariant.counted) (column.name, column.form, column.constant, stands_here (unit_by c.args.unit.now c.args.table.now) c.requires.unit c.args.id c.requires.id c.loop-column.column-index c.loop-column.from inside c.loop-column.invariant.come.stand c.value_end-to.result ends)

pub push_value_sizes-requires-clause-placed : goal.push_value_sizes-requires-clause-placed
push_value_sizes-requires-clause-placed c =
    let entry : c.entry-entry.result ≡ entry_at c.args.unit.now.forest.entries c.args.id = c.entry-entry.ensures ∙ ap (λ (f : Arena). entry_at f.entries c.args.id) c.forest-forest.ensures in
    let section : c.section-info.result.now ≡ c.args.unit.now.forest.section = c.section-info.ensures ∙ ap (λ (f : Arena). f.section) c.forest-forest.ensures in
    let columns : c.columns_of-columns.result.now ≡ (declaration_of (unit_by c.args.unit.now c.args.table.now) c.args.id).columns = c.columns_of-columns.ensures.columns ∙ ap (λ (e : Entry). (declared_at (declarations_of c.args.table.now) e.decl).columns) entry in
    let inside : c.loop-column.column-index < length (declaration_of (unit_by c.args.unit.now c.args.table.now) c.args.id).columns = subst (λ (z : List Spec). c.loop-column.column-index < length z) columns c.loop-column-test.true in
    let ends : (meaning : Meaning) (next : ℕ) → SpellsBetween (SpellsValue (spec_at (declaration_of (unit_by c.args.unit.now c.args.table.now) c.args.id).columns c.loop-column.column-index).name (spec_at (declaration_of (unit_by c.args.unit.now c.args.table.now) c.args.id).columns c.loop-column.column-index).form (spec_at (declaration_of (unit_by c.args.unit.now c.args.table.now) c.args.id).columns c.loop-column.column-index).constant meaning) c.args.unit.now.forest.section c.loop-column.from next → c.value_end-to.result ≡ next =
    λ meaning next stands. c.value_end-to.ensures meaning next (subst (λ (z : List Spec). SpellsBetween (SpellsValue (spec_at z c.loop-column.column-index).name (spec_at z c.loop-column.column-index).form (spec_at z c.loop-column.column-index).constant meaning) c.section-info.result.now c.loop-column.from next) (sym columns) (subst (λ (z : List ℕ). SpellsBetween (SpellsValue (spec_at (declaration_of (unit_by c.args.unit.now c.args.table.now) c.args.id).columns c.loop-column.column-index).name (spec_at (declaration_of (unit_by c.args.unit.now c.args.table.now) c.args.id).columns c.loop-column.column-index).form (spec_at (declaration_of (unit_by c.args.unit.now c.args.table.now) c.args.id).columns c.loop-column.column-index).constant meaning) z c.loop-column.from next) (sym section) stands)) in
    rw (c.forest-forest.ensures, c.loop-column.invariant.counted) (placed_here (unit_by c.args.unit.now c.args.table.now) c.requires.unit c.args.id c.requires.id c.loop-column.column-index c.loop-column.from inside c.loop-column.invariant.come.stand c.value_end-to.result ends)

pub overflow_add-number : goal.overflow_add-number
overflow_add-number c =
    let entry : c.entry-entry.result ≡ entry_at c.args.unit.now.forest.entries c.args.id = c.entry-entry.ensures ∙ ap (λ (f : Arena). entry_at f.entries c.args.id) c.forest-forest.ensures in
    let columns : c.columns_of-columns.result.now ≡ (declaration_of (unit_by c.args.unit.now c.args.table.now) c.args.id).columns = c.columns_of-columns.ensures.columns ∙ ap (λ (e : Entry). (declared_at (declarations_of c.args.table.now) e.decl).columns) entry in
    let inside : c.loop-column.column-index < length (declaration_of (unit_by c.args.unit.now c.args.table.now) c.args.id).columns = subst (λ (z : List Spec). c.loop-column.column-index < length z) columns c.loop-column-test.true in
    let below = known (unit_by c.args.unit.now c.args.table.now) c.requires.unit c.args.id c.requires.id c.loop-column.column-index c.loop-column.from inside c.loop-column.invariant.come.stand in
    let same : length c.forest-forest.result.now.values ≡ length c.args.unit.now.forest.values = ap (λ (f : Arena). length f.values) c.forest-forest.ensures in
    let counted = c.loop-column.invariant.counted in
    record { fits = omega (arith, below, same, counted, c.value_count-count.ensures) }

pub loop-column-preserved : goal.loop-column-preserved
loop-column-preserved c =
    let entry : c.entry-entry.result ≡ entry_at c.args.unit.now.forest.entries c.args.id = c.entry-entry.ensures ∙ ap (λ (f : Arena). entry_at f.entries c.args.id) c.forest-forest.ensures in
    let section : c.section-info.result.now ≡ c.args.unit.now.forest.section = c.section-info.ensures ∙ ap (λ (f : Arena). f.section) c.forest-forest.ensures in
    let columns : c.columns_of-columns.result.now ≡ (declaration_of (unit_by c.args.unit.now c.args.table.now) c.args.id).columns = c.columns_of-columns.ensures.columns ∙ ap (λ (e : Entry). (declared_at (declarations_of c.args.table.now) e.decl).columns) entry in
    let inside : c.loop-column.column-index < length (declaration_of (unit_by c.args.unit.now c.args.table.now) c.args.id).columns = subst (λ (z : List Spec). c.loop-column.column-index < length z) columns c.loop-column-test.true in
    let ends : (meaning : Meaning) (next : ℕ) → SpellsBetween (SpellsValue (spec_at (declaration_of (unit_by c.args.unit.now c.args.table.now) c.args.id).columns c.loop-column.column-index).name (spec_at (declaration_of (unit_by c.args.unit.now c.args.table.now) c.args.id).columns c.loop-column.column-index).form (spec_at (declaration_of (unit_by c.args.unit.now c.args.table.now) c.args.id).columns c.loop-column.column-index).constant meaning) c.args.unit.now.forest.section c.loop-column.from next → c.value_end-to.result ≡ next =
    λ meaning next stands. c.value_end-to.ensures meaning next (subst (λ (z : List Spec). SpellsBetween (SpellsValue (spec_at z c.loop-column.column-index).name (spec_at z c.loop-column.column-index).form (spec_at z c.loop-column.column-index).constant meaning) c.section-info.result.now c.loop-column.from next) (sym columns) (subst (λ (z : List ℕ). SpellsBetween (SpellsValue (spec_at (declaration_of (unit_by c.args.unit.now c.args.table.now) c.args.id).columns c.loop-column.column-index).name (spec_at (declaration_of (unit_by c.args.unit.now c.args.table.now) c.args.id).columns c.loop-column.column-index).form (spec_at (declaration_of (unit_by c.args.unit.now c.args.table.now) c.args.id).columns c.loop-column.column-index).constant meaning) z c.loop-column.from next) (sym section) stands)) in
    let counted = c.loop-column.invariant.counted in
    let adds = rw (c.forest-forest.ensures, counted) at c.in_ok-push_value_sizes.ensures.added in
    record {
      come = come_on (unit_by c.args.unit.now c.args.table.now) c.requires.unit c.args.id c.requires.id (operations_by (unit_by c.args.unit.now c.args.table.now) c.args.operations.now) c.loop-column.column-index c.loop-column.from c.args.sizes.now.items c.loop-column.sizes.items c.push_value_sizes.new.sizes.items inside c.loop-column.invariant.come c.value_end-to.result ends adds;
      counted = omega (arith, counted);
      few = c.in_ok-push_value_sizes.ensures.few;
    }

pub returns-clause-sizes : goal.returns-clause-sizes
returns-clause-sizes c =
    let entry : c.entry-entry.result ≡ entry_at c.args.unit.now.forest.entries c.args.id = c.entry-entry.ensures ∙ ap (λ (f : Arena). entry_at f.entries c.args.id) c.forest-forest.ensures in
    let columns : c.columns_of-columns.result.now ≡ (declaration_of (unit_by c.args.unit.now c.args.table.now) c.args.id).columns = c.columns_of-columns.ensures.columns ∙ ap (λ (e : Entry). (declared_at (declarations_of c.args.table.now) e.decl).columns) entry in
    let whole : c.loop-column.column-index ≡ length (declaration_of (unit_by c.args.unit.now c.args.table.now) c.args.id).columns = (let all : c.loop-column.column-index ≡ length c.columns_of-columns.result.now = omega arith in all ∙ ap length columns) in
    all_sized (unit_by c.args.unit.now c.args.table.now) c.requires.unit c.args.id c.requires.id (operations_by (unit_by c.args.unit.now c.args.table.now) c.args.operations.now) c.loop-column.column-index c.loop-column.from c.args.sizes.now.items c.loop-column.sizes.items whole c.loop-column.invariant.come

pub returns-clause-room : goal.returns-clause-room
returns-clause-room c =
    let entry : c.entry-entry.result ≡ entry_at c.args.unit.now.forest.entries c.args.id = c.entry-entry.ensures ∙ ap (λ (f : Arena). entry_at f.entries c.args.id) c.forest-forest.ensures in
    let columns : c.columns_of-columns.result.now ≡ (declaration_of (unit_by c.args.unit.now c.args.table.now) c.args.id).columns = c.columns_of-columns.ensures.columns ∙ ap (λ (e : Entry). (declared_at (declarations_of c.args.table.now) e.decl).columns) entry in
    let whole : c.loop-column.column-index ≡ length (declaration_of (unit_by c.args.unit.now c.args.table.now) c.args.id).columns = (let all : c.loop-column.column-index ≡ length c.columns_of-columns.result.now = omega arith in all ∙ ap length columns) in
    all_room (unit_by c.args.unit.now c.args.table.now) c.requires.unit c.args.id c.requires.id (operations_by (unit_by c.args.unit.now c.args.table.now) c.args.operations.now) c.loop-column.column-index c.loop-column.from c.args.sizes.now.items c.loop-column.sizes.items whole c.loop-column.invariant.come
