use Rattle.std.proofs.Common.{◌≡◌, ◌<◌, ◌^◌, length, take, drop, ap, subst, refl, ◌∙◌, List, ℕ}
use Rattle.std.specs.Prelude.{slice_index}
use Rattle.spelled.specs.Spelled.{AreBytes}
use Rattle.leb_codec.specs.Leb.{least_unsigned_len}
use Rattle.abbrev_tables.specs.declared.decl.Spec.{Spec}
use Rattle.entry_arena.specs.declared.entry.Entry.{Entry}
use Rattle.entry_arena.specs.Arena.{entry_at}
use Rattle.unit_write.specs.Placing.{columns_of, among_values}
use Rattle.unit_write.proofs.Sizing.{entry_room, entry_summed}
use Rattle.unit_write.proofs.places.after_entry.Goals as goal

pub after_values-requires : goal.after_values-requires
after_values-requires c =
    let table = c.args.decls.now in
    let columns = c.args.specs.now.items in
    let numbers = c.args.numbers.now.items in
    let lens : List ℕ = c.args.lens.now.items in
    let f = c.args.forest.now in
    let e : Entry = entry_at f.entries c.args.id in
    let same : c.section.result.now ≡ f.section = c.section.ensures in
    let few = subst (λ (z : List ℕ). length z < 2 ^ 63) same c.bytes_are_small.ensures.few in
    let small = subst (λ (z : List ℕ). AreBytes z) same c.bytes_are_small.ensures.small in
    let coded : c.code_size.result ≡ least_unsigned_len (slice_index numbers e.decl) = c.code_size.ensures ∙ ap (λ (z : Entry). least_unsigned_len (slice_index numbers z.decl)) c.entry-entry.ensures in
    let named : c.new_columns-columns.result.now ≡ columns_of table columns e.decl =
    c.new_columns-columns.ensures ∙ ap (λ (z : List Spec). columns_of table z c.entry-entry.result.decl) c.deref.ensures.value ∙ ap (λ (z : Entry). columns_of table columns z.decl) c.entry-entry.ensures
    in
    let first : c.entry-entry.result.first ≡ e.first = ap (λ (z : Entry). z.first) c.entry-entry.ensures in
    let count : c.entry-entry.result.count ≡ e.count = ap (λ (z : Entry). z.count) c.entry-entry.ensures in
    let own : c.part-own.result.now ≡ among_values f lens c.args.id = c.part-own.ensures ∙ ap (λ (z : List ℕ). take c.entry-entry.result.count (drop c.entry-entry.result.first z)) c.deref-2.ensures.value ∙ ap (λ (z : ℕ). take c.entry-entry.result.count (drop z lens)) first ∙ ap (λ (z : ℕ). take z (drop e.first lens)) count in
    entry_room table columns numbers f lens c.args.id c.args.at c.new_columns-columns.result.now c.deref-3.result.now _ c.code_size.result _ named (c.deref-3.ensures.value ∙ c.in_ok-read_row.ensures.values) own few small c.requires.stands coded refl c.requires.room

pub returns : goal.returns
returns c =
    let table = c.args.decls.now in
    let columns = c.args.specs.now.items in
    let numbers = c.args.numbers.now.items in
    let lens : List ℕ = c.args.lens.now.items in
    let f = c.args.forest.now in
    let e : Entry = entry_at f.entries c.args.id in
    let same : c.section.result.now ≡ f.section = c.section.ensures in
    let few = subst (λ (z : List ℕ). length z < 2 ^ 63) same c.bytes_are_small.ensures.few in
    let small = subst (λ (z : List ℕ). AreBytes z) same c.bytes_are_small.ensures.small in
    let coded : c.code_size.result ≡ least_unsigned_len (slice_index numbers e.decl) = c.code_size.ensures ∙ ap (λ (z : Entry). least_unsigned_len (slice_index numbers z.decl)) c.entry-entry.ensures in
    let named : c.new_columns-columns.result.now ≡ columns_of table columns e.decl =
    c.new_columns-columns.ensures ∙ ap (λ (z : List Spec). columns_of table z c.entry-entry.result.decl) c.deref.ensures.value ∙ ap (λ (z : Entry). columns_of table columns z.decl) c.entry-entry.ensures
    in
    let first : c.entry-entry.result.first ≡ e.first = ap (λ (z : Entry). z.first) c.entry-entry.ensures in
    let count : c.entry-entry.result.count ≡ e.count = ap (λ (z : Entry). z.count) c.entry-entry.ensures in
    let own : c.part-own.result.now ≡ among_values f lens c.args.id = c.part-own.ensures ∙ ap (λ (z : List ℕ). take c.entry-entry.result.count (drop c.entry-entry.result.first z)) c.deref-2.ensures.value ∙ ap (λ (z : ℕ). take c.entry-entry.result.count (drop z lens)) first ∙ ap (λ (z : ℕ). take z (drop e.first lens)) count in
    entry_summed table columns numbers f lens c.args.id c.args.at c.new_columns-columns.result.now c.deref-3.result.now _ c.code_size.result _ c.after_values.result named (c.deref-3.ensures.value ∙ c.in_ok-read_row.ensures.values) own few small c.requires.stands coded refl c.after_values.ensures
