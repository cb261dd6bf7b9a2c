use Rattle.std.proofs.Common.{◌≡◌, ◌≤◌, ◌<◌, ◌∙◌, ℕ, List, length, sym, ap, subst, arith}
use Rattle.std.proofs.lemmas.List.{get_or_read}
use Rattle.tidy_places.specs.Firsts.{IsLeastFound}
use Rattle.abbrev_tables.specs.Listings.{IsTableAt}
use Rattle.value_links.specs.declared.units.NamedTable.{NamedTable}
use Rattle.value_links.specs.Sections.{debug_abbrev}
use Rattle.value_links.specs.World.{table_at}
use Rattle.tidy_numbers.specs.LongTables.{IsLongInTable}
use Rattle.tidy_numbers.specs.inside.NumberWalks.{IsFoundFrom}
use Rattle.tidy_numbers.proofs.WalkedPlaces.{HoldsAmong, among_more}
use Rattle.tidy_numbers.proofs.TableWalks.{tables_stand, IsLongInTableOf, found_in_tables}
use Rattle.tidy_numbers.proofs.tables.first_in_tables.Goals as goal

pub past_table-first-requires : goal.past_table-first-requires
past_table-first-requires c =
    let items : List NamedTable = c.deref-named-items.result.now in
    let index : ℕ = c.loop-named.named-index in
    let all : items ≡ c.args.world.now.tables = c.deref-named-items.ensures.value ∙ c.tables.ensures in
    let inside : index < length items = c.loop-named-test.true in
    let item : c.named-item.result ≡ table_at items index = get_or_read items index c.named-item.result inside c.named-item.is _ in
    let (reach, is) = c.requires in
    let stands = tables_stand c.args.world.now reach is index (subst (λ (z : List NamedTable). index < length z) all inside) in
    let here : c.named-item.result ≡ table_at c.args.world.now.tables index = item ∙ ap (λ (z : List NamedTable). table_at z index) all in
    subst (λ (b : List ℕ). IsTableAt b c.named-item.result.place c.named-item.result.table) (sym c.section-bytes.ensures)
    (subst (λ (t : NamedTable). IsTableAt (debug_abbrev c.args.world.now.image) t.place t.table) (sym here) stands)

pub loop-named-preserved : goal.loop-named-preserved
loop-named-preserved c =
    let items : List NamedTable = c.deref-named-items.result.now in
    let index : ℕ = c.loop-named.named-index in
    let inside : index < length items = c.loop-named-test.true in
    let item : c.named-item.result ≡ table_at items index = get_or_read items index c.named-item.result inside c.named-item.is _ in
    among_more (IsLongInTableOf c.section-bytes.result.now items) index c.loop-named.first c.past_table-first.result.long c.loop-named.invariant
    (subst (λ (t : NamedTable). IsFoundFrom c.loop-named.first IsLongInTable c.section-bytes.result.now t.place c.past_table-first.result.long) item c.past_table-first.ensures)

pub returns : goal.returns
returns c = λ s read holds.
    let items : List NamedTable = c.deref-named-items.result.now in
    let index : ℕ = c.loop-named.named-index in
    let all : items ≡ c.args.world.now.tables = c.deref-named-items.ensures.value ∙ c.tables.ensures in
    let past : length items ≤ index = c.loop-named-test.false in
    let end : index ≤ length items = omega arith in
    let whole : index ≡ length items = omega arith in
    let found : IsLeastFound (HoldsAmong (IsLongInTableOf c.section-bytes.result.now items) (length items)) c.loop-named.first = subst (λ (n : ℕ). IsLeastFound (HoldsAmong (IsLongInTableOf c.section-bytes.result.now items) n) c.loop-named.first) whole c.loop-named.invariant in
    found_in_tables c.args.world.now s holds (debug_abbrev c.args.world.now.image) c.loop-named.first
    (subst (λ (b : List ℕ). IsLeastFound (HoldsAmong (IsLongInTableOf b c.args.world.now.tables) (length c.args.world.now.tables)) c.loop-named.first) c.section-bytes.ensures
    (subst (λ (z : List NamedTable). IsLeastFound (HoldsAmong (IsLongInTableOf c.section-bytes.result.now z) (length z)) c.loop-named.first) all found))
