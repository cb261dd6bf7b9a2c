-- Lists as they are held: how many they are, each of them, and one more.
use Rattle.std.proofs.Common.{◌≡◌, ◌≢◌, ◌≤◌, ◌<◌, ◌+◌, ◌-◌, ℕ, List, [], ◌∷◌, ◌++◌, ◌∙◌, length, zero, suc, get_or, refl, ap, sym, subst, arith}
use Rattle.std.specs.Prelude.{slice_range, Option, Bool, true, false, IsTrue}
use Rattle.std.specs.List.{All}
use Rattle.std.proofs.lemmas.List.{length-append, length-map, get_or-map, get_or_default}
use Rattle.list_model.specs.declared.entry.RawEntry.{RawEntry}
use Rattle.list_model.specs.declared.item.Item.{Item}
use Rattle.list_model.specs.declared.item.Meaning.{Meaning}
use Rattle.list_model.specs.declared.item.Meaning.TheVariants.{Live, Dead}
use Rattle.list_arena.specs.declared.lists.EntryRow.{EntryRow}
use Rattle.list_arena.specs.declared.lists.ItemRow.{ItemRow}
use Rattle.list_arena.specs.declared.lists.ListRow.{ListRow}
use Rattle.list_arena.specs.Held.{HeldList, items_of}
use Rattle.list_arena.specs.inside.Words.{word_held, IsWord, GrowsTo}
use Rattle.list_arena.specs.inside.Rows.{begin_of}
use Rattle.list_arena.specs.inside.Lists.{entry_held, IsEntryRow, item_held, IsItemRow, owner_held, meaning_held, list_held, lists_from, AreRowsFrom, entries_held, items_held, lists_held, AreHeldWell, entry_ends, item_ends, IsMeant, IsRowOf, IsOneMore}
use Rattle.list_arena.proofs.RowLaws.{all_same, all_weaker, range_at, range_end, range_left, range_length}

-- WHERE MORE NUMBERS ARE HELD WHOLE

pub entry_well : (old new : List ℕ) → GrowsTo old new → (row : EntryRow) → IsEntryRow old row → IsEntryRow new row
entry_well old new grown row well = record {
  at = grown.words row.at well.at;
  a = grown.words row.a well.a;
  b = grown.words row.b well.b;
  expr_at = grown.words row.expr_at well.expr_at;
  expr_len = grown.words row.expr_len well.expr_len;
}

pub entry_same : (old new : List ℕ) → GrowsTo old new → (row : EntryRow) → IsEntryRow old row → entry_held new row ≡ entry_held old row
unfolding entry_held
entry_same old new grown row well =
    let at = grown.same row.at well.at in
    let a = grown.same row.a well.a in
    let b = grown.same row.b well.b in
    let expr_at = grown.same row.expr_at well.expr_at in
    let expr_len = grown.same row.expr_len well.expr_len in
    cc

pub item_well : (old new : List ℕ) → GrowsTo old new → (row : ItemRow) → IsItemRow old row → IsItemRow new row
item_well old new grown row well = record {
  start = grown.words row.start well.start;
  end = grown.words row.end well.end;
  expr_at = grown.words row.expr_at well.expr_at;
  expr_len = grown.words row.expr_len well.expr_len;
}

pub item_same : (old new : List ℕ) → GrowsTo old new → (row : ItemRow) → IsItemRow old row → item_held new row ≡ item_held old row
unfolding item_held
item_same old new grown row well =
    let start = grown.same row.start well.start in
    let end = grown.same row.end well.end in
    let expr_at = grown.same row.expr_at well.expr_at in
    let expr_len = grown.same row.expr_len well.expr_len in
    cc

pub entries_well : (old new : List ℕ) → GrowsTo old new → (rows : List EntryRow) → All (IsEntryRow old) rows → All (IsEntryRow new) rows
entries_well old new grown rows well = all_weaker (IsEntryRow old) (IsEntryRow new) (entry_well old new grown) rows well

pub entries_same : (old new : List ℕ) → GrowsTo old new → (rows : List EntryRow) → All (IsEntryRow old) rows → entries_held new rows ≡ entries_held old rows
entries_same old new grown rows well = all_same (IsEntryRow old) (entry_held new) (entry_held old) (entry_same old new grown) rows well

pub items_well : (old new : List ℕ) → GrowsTo old new → (rows : List ItemRow) → All (IsItemRow old) rows → All (IsItemRow new) rows
items_well old new grown rows well = all_weaker (IsItemRow old) (IsItemRow new) (item_well old new grown) rows well

pub items_same : (old new : List ℕ) → GrowsTo old new → (rows : List ItemRow) → All (IsItemRow old) rows → items_held new rows ≡ items_held old rows
items_same old new grown rows well = all_same (IsItemRow old) (item_held new) (item_held old) (item_same old new grown) rows well

rows_well : (old new : List ℕ) → GrowsTo old new → (n m e i : ℕ) (rows : List ListRow) → AreRowsFrom old n m e i rows → AreRowsFrom new n m e i rows
unfolding AreRowsFrom
rows_well old new grown n m e i [] well = well
rows_well old new grown n m e i (row ∷ rows) (word, more_entries, more_items, rest) =
    (grown.words row.at word, more_entries, more_items, rows_well old new grown n m row.entries row.items rows rest)

list_same : (old new : List ℕ) → GrowsTo old new → (row : ListRow) (raw : List RawEntry) (live : List Item) → IsWord old row.at → list_held new row raw live ≡ list_held old row raw live
unfolding list_held
list_same old new grown row raw live word = let at = grown.same row.at word in cc

lists_same : (old new : List ℕ) → GrowsTo old new → (raw : List RawEntry) (live : List Item) (n m e i : ℕ) (rows : List ListRow) → AreRowsFrom old n m e i rows → lists_from new raw live e i rows ≡ lists_from old raw live e i rows
unfolding AreRowsFrom lists_from
lists_same old new grown raw live n m e i [] well = refl
lists_same old new grown raw live n m e i (row ∷ rows) (word, more_entries, more_items, rest) =
    let first = list_same old new grown row (slice_range raw e row.entries) (slice_range live i row.items) word in
    let others = lists_same old new grown raw live n m row.entries row.items rows rest in
    cc

pub grown_well : (old new : List ℕ) → GrowsTo old new → (rows : List ListRow) (entries : List EntryRow) (items : List ItemRow) → AreHeldWell old rows entries items → AreHeldWell new rows entries items
grown_well old new grown rows entries items well = record {
  rows_well = rows_well old new grown (length entries) (length items) 0 0 rows well.rows_well;
  entries_well = entries_well old new grown entries well.entries_well;
  items_well = items_well old new grown items well.items_well;
}

pub grown_held : (old new : List ℕ) → GrowsTo old new → (rows : List ListRow) (entries : List EntryRow) (items : List ItemRow) → AreHeldWell old rows entries items → lists_held new rows entries items ≡ lists_held old rows entries items
grown_held old new grown rows entries items well =
    let same_entries = entries_same old new grown entries well.entries_well in
    let same_items = items_same old new grown items well.items_well in
    let same = lists_same old new grown (entries_held old entries) (items_held old items) (length entries) (length items) 0 0 rows well.rows_well in
    ap (λ raw. lists_from new raw (items_held new items) 0 0 rows) same_entries ∙ ap (λ live. lists_from new (entries_held old entries) live 0 0 rows) same_items ∙ same

-- EACH LIST

rows_order : (long : List ℕ) (n m e i : ℕ) (rows : List ListRow) → AreRowsFrom long n m e i rows → (e ≤ n) × (i ≤ m)
unfolding AreRowsFrom
rows_order long n m e i [] (entries, items) = (omega arith, omega arith)
rows_order long n m e i (row ∷ rows) (word, more_entries, more_items, rest) =
    let (entries, items) = rows_order long n m row.entries row.items rows rest in
    (omega arith, omega arith)

pub lists_length : (long : List ℕ) (raw : List RawEntry) (live : List Item) (e i : ℕ) (rows : List ListRow) → length (lists_from long raw live e i rows) ≡ length rows
unfolding lists_from
lists_length long raw live e i [] = refl
lists_length long raw live e i (row ∷ rows) = ap suc (lists_length long raw live row.entries row.items rows)

-- the row with a number, and where what belongs to it begins
pub record IsRowIn (long : List ℕ) (n m e i : ℕ) (rows : List ListRow) (k : ℕ) (row : ListRow) : Type 0 where
  pub word : IsWord long row.at
  pub entries : begin_of e (entry_ends rows) k ≤ row.entries
  pub all_entries : row.entries ≤ n
  pub items : begin_of i (item_ends rows) k ≤ row.items
  pub all_items : row.items ≤ m

row_in : (long : List ℕ) (n m e i : ℕ) (rows : List ListRow) (k : ℕ) (r : ListRow) → AreRowsFrom long n m e i rows → k < length rows → IsRowIn long n m e i rows k (get_or rows k r)
unfolding AreRowsFrom begin_of
row_in long n m e i [] k r well inside = absurd (omega arith)
row_in long n m e i (row ∷ rows) zero r (word, more_entries, more_items, rest) inside =
    let order = rows_order long n m row.entries row.items rows rest in
    record { word = word; entries = more_entries; all_entries = order.0; items = more_items; all_items = order.1 }
row_in long n m e i (row ∷ rows) (suc k) r (word, more_entries, more_items, rest) inside =
    let next = row_in long n m row.entries row.items rows k r rest (omega arith) in
    record { word = next.word; entries = next.entries; all_entries = next.all_entries; items = next.items; all_items = next.all_items }

list_in : (long : List ℕ) (raw : List RawEntry) (live : List Item) (e i : ℕ) (rows : List ListRow) (k : ℕ) (r : ListRow) (d : HeldList) → k < length rows → get_or (lists_from long raw live e i rows) k d ≡ list_held long (get_or rows k r) (slice_range raw (begin_of e (entry_ends rows) k) (get_or rows k r).entries) (slice_range live (begin_of i (item_ends rows) k) (get_or rows k r).items)
unfolding lists_from begin_of
list_in long raw live e i [] k r d inside = absurd (omega arith)
list_in long raw live e i (row ∷ rows) zero r d inside = refl
list_in long raw live e i (row ∷ rows) (suc k) r d inside = list_in long raw live row.entries row.items rows k r d (omega arith)

pub lists_count : (long : List ℕ) (rows : List ListRow) (entries : List EntryRow) (items : List ItemRow) (lists : List HeldList) → lists_held long rows entries items ≡ lists → length lists ≡ length rows
lists_count long rows entries items lists same = ap (λ (ls : List HeldList). length ls) (sym same) ∙ lists_length long (entries_held long entries) (items_held long items) 0 0 rows

pub row_at : (long : List ℕ) (rows : List ListRow) (entries : List EntryRow) (items : List ItemRow) (lists : List HeldList) (k : ℕ) (row : ListRow) → AreHeldWell long rows entries items → lists_held long rows entries items ≡ lists → k < length lists → row ≡ get_or rows k row → IsRowIn long (length entries) (length items) 0 0 rows k row
row_at long rows entries items lists k row well same inside is =
    let here : k < length rows = omega (arith, lists_count long rows entries items lists same) in
    subst (λ (r : ListRow). IsRowIn long (length entries) (length items) 0 0 rows k r) (sym is) (row_in long (length entries) (length items) 0 0 rows k row well.rows_well here)

-- a list is that of a row, with the entries and items that belong to it
pub list_at : (long : List ℕ) (rows : List ListRow) (entries : List EntryRow) (items : List ItemRow) (lists : List HeldList) (k : ℕ) (row : ListRow) → lists_held long rows entries items ≡ lists → k < length lists → row ≡ get_or rows k row → (d : HeldList) → get_or lists k d ≡ list_held long row (slice_range (entries_held long entries) (begin_of 0 (entry_ends rows) k) row.entries) (slice_range (items_held long items) (begin_of 0 (item_ends rows) k) row.items)
list_at long rows entries items lists k row same inside is d =
    let here : k < length rows = omega (arith, lists_count long rows entries items lists same) in
    subst (λ (r : ListRow). get_or lists k d ≡ list_held long r (slice_range (entries_held long entries) (begin_of 0 (entry_ends rows) k) r.entries) (slice_range (items_held long items) (begin_of 0 (item_ends rows) k) r.items)) (sym is)
    (ap (λ (ls : List HeldList). get_or ls k d) (sym same) ∙ list_in long (entries_held long entries) (items_held long items) 0 0 rows k row d here)

-- a frozen row is that of a list without items
pub frozen_held : (frozen : Bool) (items : List Item) (meaning : Meaning) → meaning ≡ meaning_held frozen items → (IsTrue frozen → meaning ≡ Dead) × (meaning ≡ Dead → IsTrue frozen)
unfolding meaning_held
frozen_held true items meaning same = (λ _. same, λ _. refl)
frozen_held false items meaning same = (λ frozen. absurd (cc), λ dead. absurd (cc))

-- how many entries a list has
pub raw_counted : (long : List ℕ) (rows : List ListRow) (entries : List EntryRow) (items : List ItemRow) (lists : List HeldList) (k : ℕ) (row : ListRow) → AreHeldWell long rows entries items → lists_held long rows entries items ≡ lists → k < length lists → row ≡ get_or rows k row → (d : HeldList) → length (get_or lists k d).raw ≡ row.entries - begin_of 0 (entry_ends rows) k
unfolding list_held
raw_counted long rows entries items lists k row well same inside is d =
    let here = row_at long rows entries items lists k row well same inside is in
    let order : begin_of 0 (entry_ends rows) k ≤ row.entries = here.entries in
    let within : row.entries ≤ length (entries_held long entries) = omega (arith, here.all_entries, length-map entries (entry_held long)) in
    ap (λ (l : HeldList). length l.raw) (list_at long rows entries items lists k row same inside is d)
    ∙ range_length (entries_held long entries) (begin_of 0 (entry_ends rows) k) row.entries order within

-- a list with a number has a row
some_row : (long : List ℕ) (rows : List ListRow) (entries : List EntryRow) (items : List ItemRow) (lists : List HeldList) (k : ℕ) → lists_held long rows entries items ≡ lists → k < length lists → (row : ListRow) × (row ≡ get_or rows k row)
some_row long [] entries items lists k same inside = absurd (omega (arith, lists_count long [] entries items lists same))
some_row long (first ∷ rows) entries items lists k same inside =
    let here : k < length (first ∷ rows) = omega (arith, lists_count long (first ∷ rows) entries items lists same) in
    (get_or (first ∷ rows) k first, get_or_default (first ∷ rows) k first (get_or (first ∷ rows) k first) here)

-- the row of an entry of a list
pub entry_inside : (long : List ℕ) (rows : List ListRow) (entries : List EntryRow) (items : List ItemRow) (lists : List HeldList) (k : ℕ) → AreHeldWell long rows entries items → lists_held long rows entries items ≡ lists → k < length lists → (i : ℕ) → ((d : HeldList) → i < length (get_or lists k d).raw) → begin_of 0 (entry_ends rows) k + i < length entries
entry_inside long rows entries items lists k well same inside i within =
    let (row, is) = some_row long rows entries items lists k same inside in
    let here = row_at long rows entries items lists k row well same inside is in
    let some : i < length (get_or lists k (list_held long row [] [])).raw = within (list_held long row [] []) in
    let count = raw_counted long rows entries items lists k row well same inside is (list_held long row [] []) in
    omega (arith, here.all_entries, here.entries, count)

pub entry_at : (long : List ℕ) (rows : List ListRow) (entries : List EntryRow) (items : List ItemRow) (lists : List HeldList) (k : ℕ) → AreHeldWell long rows entries items → lists_held long rows entries items ≡ lists → k < length lists → (d : HeldList) (i : ℕ) → i < length (get_or lists k d).raw → (e : RawEntry) (r : EntryRow) → get_or (get_or lists k d).raw i e ≡ entry_held long (get_or entries (begin_of 0 (entry_ends rows) k + i) r)
unfolding list_held
entry_at long rows entries items lists k well same inside d i within e r =
    let (row, is) = some_row long rows entries items lists k same inside in
    let here = row_at long rows entries items lists k row well same inside is in
    let first = begin_of 0 (entry_ends rows) k in
    let count : length (get_or lists k d).raw ≡ row.entries - first = raw_counted long rows entries items lists k row well same inside is d in
    let fits : i < row.entries - first = omega arith in
    ap (λ (l : HeldList). get_or l.raw i e) (list_at long rows entries items lists k row same inside is d)
    ∙ range_at (entries_held long entries) first row.entries i e fits
    ∙ get_or-map (entry_held long) entries (first + i) r e (omega (arith, here.all_entries))

-- ITEMS

no_items : (frozen : Bool) (items : List Item) → frozen ≡ true → length (items_of (meaning_held frozen items)) ≡ 0
unfolding meaning_held items_of
no_items true items is = refl
no_items false items is = absurd (cc)

live_items : (frozen : Bool) (items : List Item) → frozen ≡ false → items_of (meaning_held frozen items) ≡ items
unfolding meaning_held items_of
live_items true items is = absurd (cc)
live_items false items is = refl

-- one that has an item isn't frozen
is_live : (frozen : Bool) (items : List Item) (i : ℕ) → i < length (items_of (meaning_held frozen items)) → frozen ≡ false
unfolding meaning_held items_of
is_live true items i inside = absurd (omega arith)
is_live false items i inside = refl

-- how many items a list has, if it is frozen or not
pub frozen_counted : (long : List ℕ) (rows : List ListRow) (entries : List EntryRow) (items : List ItemRow) (lists : List HeldList) (k : ℕ) (row : ListRow) → lists_held long rows entries items ≡ lists → k < length lists → row ≡ get_or rows k row → row.frozen ≡ true → (d : HeldList) → length (items_of (get_or lists k d).meaning) ≡ 0
unfolding list_held
frozen_counted long rows entries items lists k row same inside is frozen d =
    ap (λ (l : HeldList). length (items_of l.meaning)) (list_at long rows entries items lists k row same inside is d)
    ∙ no_items row.frozen (slice_range (items_held long items) (begin_of 0 (item_ends rows) k) row.items) frozen

-- the items of one that isn't
items_among : (long : List ℕ) (rows : List ListRow) (entries : List EntryRow) (items : List ItemRow) (lists : List HeldList) (k : ℕ) (row : ListRow) → lists_held long rows entries items ≡ lists → k < length lists → row ≡ get_or rows k row → row.frozen ≡ false → (d : HeldList) → items_of (get_or lists k d).meaning ≡ slice_range (items_held long items) (begin_of 0 (item_ends rows) k) row.items
unfolding list_held
items_among long rows entries items lists k row same inside is live d =
    ap (λ (l : HeldList). items_of l.meaning) (list_at long rows entries items lists k row same inside is d)
    ∙ live_items row.frozen (slice_range (items_held long items) (begin_of 0 (item_ends rows) k) row.items) live

pub live_counted : (long : List ℕ) (rows : List ListRow) (entries : List EntryRow) (items : List ItemRow) (lists : List HeldList) (k : ℕ) (row : ListRow) → AreHeldWell long rows entries items → lists_held long rows entries items ≡ lists → k < length lists → row ≡ get_or rows k row → row.frozen ≡ false → (d : HeldList) → length (items_of (get_or lists k d).meaning) ≡ row.items - begin_of 0 (item_ends rows) k
live_counted long rows entries items lists k row well same inside is live d =
    let here = row_at long rows entries items lists k row well same inside is in
    let order : begin_of 0 (item_ends rows) k ≤ row.items = here.items in
    let within : row.items ≤ length (items_held long items) = omega (arith, here.all_items, length-map items (item_held long)) in
    ap (λ (is : List Item). length is) (items_among long rows entries items lists k row same inside is live d)
    ∙ range_length (items_held long items) (begin_of 0 (item_ends rows) k) row.items order within

-- a list with an item has a row that isn't frozen
live_row : (long : List ℕ) (rows : List ListRow) (entries : List EntryRow) (items : List ItemRow) (lists : List HeldList) (k : ℕ) (row : ListRow) → lists_held long rows entries items ≡ lists → k < length lists → row ≡ get_or rows k row → (d : HeldList) (i : ℕ) → i < length (items_of (get_or lists k d).meaning) → row.frozen ≡ false
unfolding list_held
live_row long rows entries items lists k row same inside is d i within =
    is_live row.frozen (slice_range (items_held long items) (begin_of 0 (item_ends rows) k) row.items) i
    (subst (λ (l : HeldList). i < length (items_of l.meaning)) (list_at long rows entries items lists k row same inside is d) within)

-- the row of an item of a list
pub item_inside : (long : List ℕ) (rows : List ListRow) (entries : List EntryRow) (items : List ItemRow) (lists : List HeldList) (k : ℕ) → AreHeldWell long rows entries items → lists_held long rows entries items ≡ lists → k < length lists → (i : ℕ) → ((d : HeldList) → i < length (items_of (get_or lists k d).meaning)) → begin_of 0 (item_ends rows) k + i < length items
item_inside long rows entries items lists k well same inside i within =
    let (row, is) = some_row long rows entries items lists k same inside in
    let here = row_at long rows entries items lists k row well same inside is in
    let any : HeldList = list_held long row [] [] in
    let some : i < length (items_of (get_or lists k any).meaning) = within any in
    let live = live_row long rows entries items lists k row same inside is any i some in
    let count = live_counted long rows entries items lists k row well same inside is live any in
    omega (arith, some, here.all_items, here.items, count)

pub item_at : (long : List ℕ) (rows : List ListRow) (entries : List EntryRow) (items : List ItemRow) (lists : List HeldList) (k : ℕ) → AreHeldWell long rows entries items → lists_held long rows entries items ≡ lists → k < length lists → (d : HeldList) (i : ℕ) → i < length (items_of (get_or lists k d).meaning) → (e : Item) (r : ItemRow) → get_or (items_of (get_or lists k d).meaning) i e ≡ item_held long (get_or items (begin_of 0 (item_ends rows) k + i) r)
item_at long rows entries items lists k well same inside d i within e r =
    let (row, is) = some_row long rows entries items lists k same inside in
    let here = row_at long rows entries items lists k row well same inside is in
    let first = begin_of 0 (item_ends rows) k in
    let live = live_row long rows entries items lists k row same inside is d i within in
    let count : length (items_of (get_or lists k d).meaning) ≡ row.items - first = live_counted long rows entries items lists k row well same inside is live d in
    let fits : i < row.items - first = omega (arith, within, count) in
    ap (λ (is : List Item). get_or is i e) (items_among long rows entries items lists k row same inside is live d)
    ∙ range_at (items_held long items) first row.items i e fits
    ∙ get_or-map (item_held long) items (first + i) r e (omega (arith, here.all_items, fits))

-- ONE MORE

end_push : (long : List ℕ) (n m e i p q : ℕ) (rows : List ListRow) (row : ListRow) → AreRowsFrom long n m e i rows → IsWord long row.at → n ≤ row.entries → m ≤ row.items → row.entries ≡ p → row.items ≡ q → AreRowsFrom long p q e i (rows ++ row ∷ [])
unfolding AreRowsFrom
end_push long n m e i p q [] row (entries, items) word more_entries more_items entry_end item_end = (word, omega arith, omega arith, (entry_end, item_end))
end_push long n m e i p q (first ∷ rows) row (here, first_entries, first_items, rest) word more_entries more_items entry_end item_end =
    (here, first_entries, first_items, end_push long n m first.entries first.items p q rows row rest word more_entries more_items entry_end item_end)

lists_push : (long : List ℕ) (raw more_raw : List RawEntry) (live more_live : List Item) (e i : ℕ) (rows : List ListRow) (row : ListRow) → AreRowsFrom long (length raw) (length live) e i rows → row.entries ≡ length (raw ++ more_raw) → row.items ≡ length (live ++ more_live) → lists_from long (raw ++ more_raw) (live ++ more_live) e i (rows ++ row ∷ []) ≡ lists_from long raw live e i rows ++ list_held long row more_raw more_live ∷ []
unfolding AreRowsFrom lists_from
lists_push long raw more_raw live more_live e i [] row (entries, items) entry_end item_end =
    let here_entries : slice_range (raw ++ more_raw) e row.entries ≡ more_raw = range_end raw more_raw e row.entries entries entry_end in
    let here_items : slice_range (live ++ more_live) i row.items ≡ more_live = range_end live more_live i row.items items item_end in
    ap (λ xs. list_held long row xs (slice_range (live ++ more_live) i row.items) ∷ []) here_entries ∙ ap (λ ys. list_held long row more_raw ys ∷ []) here_items
lists_push long raw more_raw live more_live e i (first ∷ rows) row (here, first_entries, first_items, rest) entry_end item_end =
    let order = rows_order long (length raw) (length live) first.entries first.items rows rest in
    let first_raw : slice_range (raw ++ more_raw) e first.entries ≡ slice_range raw e first.entries = range_left raw more_raw e first.entries first_entries order.0 in
    let first_live : slice_range (live ++ more_live) i first.items ≡ slice_range live i first.items = range_left live more_live i first.items first_items order.1 in
    let others : lists_from long (raw ++ more_raw) (live ++ more_live) first.entries first.items (rows ++ row ∷ []) ≡ lists_from long raw live first.entries first.items rows ++ list_held long row more_raw more_live ∷ [] = lists_push long raw more_raw live more_live first.entries first.items rows row rest entry_end item_end in
    ap (λ xs. list_held long first xs (slice_range (live ++ more_live) i first.items) ∷ lists_from long (raw ++ more_raw) (live ++ more_live) first.entries first.items (rows ++ row ∷ [])) first_raw
    ∙ ap (λ ys. list_held long first (slice_range raw e first.entries) ys ∷ lists_from long (raw ++ more_raw) (live ++ more_live) first.entries first.items (rows ++ row ∷ [])) first_live
    ∙ ap (λ lists. list_held long first (slice_range raw e first.entries) (slice_range live i first.items) ∷ lists) others

-- a list whose row, entries and items are put behind the others
pub list_pushed : (old new : List ℕ) (rows : List ListRow) (entries more_entries : List EntryRow) (items more_items : List ItemRow) (row : ListRow) (list : HeldList) (live : List Item) → AreHeldWell old rows entries items → GrowsTo old new → All (IsEntryRow new) more_entries → entries_held new more_entries ≡ entries_held old entries ++ list.raw → All (IsItemRow new) more_items → items_held new more_items ≡ items_held old items ++ live → IsMeant list.meaning live → IsRowOf new list (length more_entries) (length more_items) row → IsOneMore (lists_held old rows entries items) list new (rows ++ row ∷ []) more_entries more_items
list_pushed old new rows entries more_entries items more_items row list live well grown entries_are raw_held items_are live_held meant row_is =
    let raw_count : length more_entries ≡ length (entries_held old entries ++ list.raw) = sym (length-map more_entries (entry_held new)) ∙ ap (λ (es : List RawEntry). length es) raw_held in
    let live_count : length more_items ≡ length (items_held old items ++ live) = sym (length-map more_items (item_held new)) ∙ ap (λ (is : List Item). length is) live_held in
    let entry_count : length (entries_held old entries) ≡ length entries = length-map entries (entry_held old) in
    let item_count : length (items_held old items) ≡ length items = length-map items (item_held old) in
    let raw_sum : length (entries_held old entries ++ list.raw) ≡ length (entries_held old entries) + length list.raw = length-append (entries_held old entries) list.raw in
    let live_sum : length (items_held old items ++ live) ≡ length (items_held old items) + length live = length-append (items_held old items) live in
    let entry_end = row_is.entry_end in
    let item_end = row_is.item_end in
    let before : AreRowsFrom new (length entries) (length items) 0 0 rows = rows_well old new grown (length entries) (length items) 0 0 rows well.rows_well in
    let counted : AreRowsFrom new (length (entries_held old entries)) (length (items_held old items)) 0 0 rows = subst (λ (n : ℕ). AreRowsFrom new n (length (items_held old items)) 0 0 rows) (sym entry_count) (subst (λ (m : ℕ). AreRowsFrom new (length entries) m 0 0 rows) (sym item_count) before) in
    record {
      well = record {
        rows_well = end_push new (length entries) (length items) 0 0 (length more_entries) (length more_items) rows row before row_is.word (omega arith) (omega arith) entry_end item_end;
        entries_well = entries_are;
        items_well = items_are;
      };
      pushed =
          ap (λ (es : List RawEntry). lists_from new es (items_held new more_items) 0 0 (rows ++ row ∷ [])) raw_held
          ∙ ap (λ (is : List Item). lists_from new (entries_held old entries ++ list.raw) is 0 0 (rows ++ row ∷ [])) live_held
          ∙ lists_push new (entries_held old entries) list.raw (items_held old items) live 0 0 rows row counted (entry_end ∙ raw_count) (item_end ∙ live_count)
          ∙ ap (λ (ls : List HeldList). ls ++ list_held new row list.raw live ∷ []) (lists_same old new grown (entries_held old entries) (items_held old items) (length entries) (length items) 0 0 rows well.rows_well)
          ∙ ap (λ (l : HeldList). lists_held old rows entries items ++ l ∷ []) (row_is.held live meant);
    }

-- NONE

pub none_well : AreHeldWell [] [] [] []
unfolding AreRowsFrom
none_well = record { rows_well = (refl, refl); entries_well = λ k d inside. absurd (omega arith); items_well = λ k d inside. absurd (omega arith) }

pub none_held : lists_held [] [] [] [] ≡ []
unfolding lists_from
none_held = refl

-- ROWS OF WORDS

pub entry_is : (long : List ℕ) (row : EntryRow) (entry : RawEntry) → IsWord long row.at × (word_held long row.at ≡ entry.at) → IsWord long row.a × (word_held long row.a ≡ entry.a) → IsWord long row.b × (word_held long row.b ≡ entry.b) → IsWord long row.expr_at × (word_held long row.expr_at ≡ entry.expr.at) → IsWord long row.expr_len × (word_held long row.expr_len ≡ entry.expr.len) → row.code ≡ entry.code → IsEntryRow long row × (entry_held long row ≡ entry)
unfolding entry_held
entry_is long row entry (at, at_is) (a, a_is) (b, b_is) (expr_at, expr_at_is) (expr_len, expr_len_is) code_is =
    (record { at = at; a = a; b = b; expr_at = expr_at; expr_len = expr_len }, rw (at_is, a_is, b_is, expr_at_is, expr_len_is, code_is) refl)

pub item_is : (long : List ℕ) (row : ItemRow) (item : Item) → IsWord long row.start × (word_held long row.start ≡ item.start) → IsWord long row.end × (word_held long row.end ≡ item.end) → IsWord long row.expr_at × (word_held long row.expr_at ≡ item.expr.at) → IsWord long row.expr_len × (word_held long row.expr_len ≡ item.expr.len) → row.whole ≡ item.whole → IsItemRow long row × (item_held long row ≡ item)
unfolding item_held
item_is long row item (start, start_is) (end, end_is) (expr_at, expr_at_is) (expr_len, expr_len_is) whole_is =
    (record { start = start; end = end; expr_at = expr_at; expr_len = expr_len }, rw (start_is, end_is, expr_at_is, expr_len_is, whole_is) refl)

-- the meaning of a list by whether it is frozen
meaning_is : (frozen : Bool) (meaning : Meaning) (live : List Item) → (frozen ≡ true → meaning ≡ Dead) → (frozen ≡ false → meaning ≢ Dead) → IsMeant meaning live → meaning_held frozen live ≡ meaning
unfolding meaning_held
meaning_is true meaning live dead alive meant = sym (dead refl)
meaning_is false Dead live dead alive meant = absurd (alive refl refl)
meaning_is false (Live items) live dead alive meant = ap (λ (is : List Item). Live is) meant

pub row_is_of : (long : List ℕ) (row : ListRow) (list : HeldList) (entries items : ℕ) → IsWord long row.at × (word_held long row.at ≡ list.at) → row.part ≡ list.part → owner_held row.owner ≡ list.owner → row.entries ≡ entries → row.items ≡ items → (row.frozen ≡ true → list.meaning ≡ Dead) → (row.frozen ≡ false → list.meaning ≢ Dead) → IsRowOf long list entries items row
unfolding list_held
row_is_of long row list entries items (word, at_is) part_is owner_is entry_end item_end dead alive = record {
  word = word;
  entry_end = entry_end;
  item_end = item_end;
  held = λ live meant. let meaning = meaning_is row.frozen list.meaning live dead alive meant in rw (at_is, part_is, owner_is, meaning) refl;
}

-- a list whose parts were read
pub list_read : (long : List ℕ) (row : ListRow) (raw live_raw : List RawEntry) (live : List Item) (at : ℕ) (owner : Option ℕ) (meaning : Meaning) → at ≡ word_held long row.at → owner ≡ owner_held row.owner → raw ≡ live_raw → meaning ≡ meaning_held row.frozen live → record { at = at; part = row.part; owner = owner; raw = raw; meaning = meaning } ≡ list_held long row live_raw live
unfolding list_held
list_read long row raw live_raw live at owner meaning at_is owner_is raw_is meaning_is = rw (at_is, owner_is, raw_is, meaning_is) refl
