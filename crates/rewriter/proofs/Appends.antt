-- A table that stands at the end of a section still stands when more follows.
use Rattle.std.proofs.Common.{◌≡◌, ◌≤◌, ◌<◌, ◌+◌, ◌-◌, ◌^◌, inl, inr, ℕ, List, [], ◌∷◌, ◌++◌, length, take, drop, map, get_or, sym, ap, ◌∙◌, refl, subst, arith}
use Rattle.std.specs.List.{All}
use Rattle.std.proofs.lemmas.Bool.{cases_lt}
use Rattle.std.proofs.lemmas.List.{append-nil, length-append, length-drop, length-map, length_push, map-append, take-append-le, drop-append-le, get_or-map, get_or_append_left}
use Rattle.std.proofs.Math.Seq.{get_or-append_seam, drop-append_seam, take-length}
use Rattle.dw_base.specs.declared.classes.Classes.{Classes}
use Rattle.leb_codec.specs.Numbering.{IsLeastNumbering, RiseByFallingUses}
use Rattle.abbrev_tables.specs.declared.decl.Spec.{Spec}
use Rattle.abbrev_tables.specs.Tables.{SpellsTable, Declared, codes_of, AreDistinct}
use Rattle.abbrev_tables.specs.Listings.{Listing, decl_at, declarations_in, IsTableAt}
use Rattle.abbrev_tables.specs.ListingLaws.{TablesAreListed}
use Rattle.abbrev_tables.specs.Written.{ShortestTable, IsWritableColumn, IsWritable, IsWritten, renumbered, numbered_as}
use Rattle.entry_arena.specs.Trees.{declared_at}
use Rattle.entry_read.specs.Units.{HeadAndForest, declarations_of, IsTable}
use Rattle.unit_write.specs.Placing.{IsRenumbered, columns_of}
use Rattle.value_links.specs.declared.units.NamedTable.{NamedTable}
use Rattle.value_links.specs.World.{table_at}
use Rattle.rewriter.specs.declared.uses.Uses.{Uses}
use Rattle.rewriter.specs.declared.tables.NewTable.{NewTable}
use Rattle.rewriter.specs.inside.Tables.{TableAnew, AreColumnsChosen, TablesStand, anew_at, table_anew, new_table_at}
use Rattle.rewriter.specs.inside.Counting.{counts_in}
use Rattle.rewriter.specs.inside.Appended.{StandsAnew, IsAppended, AreAppended}
use Rattle.rewriter.proofs.Renumbers.{AreNumbersOf, seat, count_used}
use Rattle.rewriter.proofs.Writables.{tags_narrow, writable, distinct}

same_between : (section more : List ℕ) (at end : ℕ) → at ≤ end → end ≤ length section → take (end - at) (drop at (section ++ more)) ≡ take (end - at) (drop at section)
same_between section more at end order inside =
    ap (take (end - at)) (drop-append-le at section more (omega arith)) ∙ take-append-le (end - at) (drop at section) more (omega (arith, length-drop at section))

-- the bytes from the end of a front up to the end of all are those behind the front
last_between : (before bytes : List ℕ) (end : ℕ) → end ≡ length before + length bytes → take (end - length before) (drop (length before) (before ++ bytes)) ≡ bytes
last_between before bytes end is =
    let size : end - length before ≡ length bytes = omega (arith, is) in
    ap (λ (n : ℕ). take n (drop (length before) (before ++ bytes))) size ∙ ap (take (length bytes)) (drop-append_seam before bytes) ∙ take-length bytes

pub table_stays : (section more : List ℕ) (at : ℕ) (t : Listing) → IsTableAt section at t → IsTableAt (section ++ more) at t
table_stays section more at t stands =
    let same = same_between section more at t.end stands.starts stands.inside in
    record {
      starts = stands.starts;
      inside = omega (arith, length-append section more, stands.inside);
      table = subst (λ (bytes : List ℕ). SpellsTable (declarations_in t.specs t.decls) bytes) (sym same) stands.table;
      front = stands.front;
      end = stands.end;
      placed = stands.placed;
      ended = stands.ended;
      whole = same ∙ stands.whole;
      adjacent = stands.adjacent;
    }

pub stands_on : (section more : List ℕ) (old : Listing) (uses : List ℕ) (new : TableAnew) → StandsAnew section old uses new → StandsAnew (section ++ more) old uses new
stands_on section more old uses new s = record {
  renewed = s.renewed;
  least = s.least;
  order = s.order;
  first = s.first;
  listing = s.listing;
  inside = omega (arith, length-append section more, s.inside);
  stands = table_stays section more new.at s.listing s.stands;
  written = subst (λ (bytes : List ℕ). IsWritten old new.numbers new.columns bytes) (sym (same_between section more new.at s.listing.end s.stands.starts s.stands.inside)) s.written;
  short = subst (λ (bytes : List ℕ). ShortestTable (declarations_of s.listing) bytes) (sym (same_between section more new.at s.listing.end s.stands.starts s.stands.inside)) s.short;
  renumbered = s.renumbered;
  only = s.only;
}

-- a table behind those that follow one another up to the end
pub follow_more : (section more : List ℕ) (tables : List NewTable) (new : NewTable) (at : ℕ) (listing : Listing) → TablesStand section (map table_anew tables) at → new.at ≡ length section → IsTableAt (section ++ more) new.at listing → listing.end ≡ length (section ++ more) → TablesStand (section ++ more) (map table_anew (tables ++ new ∷ [])) at
follow_more section more [] new at listing tiled place stands end =
    let e : new.at ≡ at = place ∙ sym tiled in
    (e, (listing, subst (λ (p : ℕ). IsTableAt (section ++ more) p listing) e stands, end))
follow_more section more (t ∷ tables) new at listing (here, (first, first_stands, rest)) place stands end =
    (here, (first, table_stays section more at first first_stands, follow_more section more tables new first.end listing rest place stands end))

abbrev no_table : TableAnew
no_table = anew_at [] 0

anew_before : (tables : List NewTable) (new : NewTable) (i : ℕ) → i < length tables → new_table_at (tables ++ new ∷ []) i ≡ new_table_at tables i
anew_before tables new i inside =
    ap (λ (zs : List TableAnew). get_or zs i no_table) (map-append table_anew tables (new ∷ []))
    ∙ get_or_append_left (map table_anew tables) (table_anew new ∷ []) no_table i (omega (arith, inside, length-map tables table_anew))

anew_last : (tables : List NewTable) (new : NewTable) (i : ℕ) → i ≡ length tables → new_table_at (tables ++ new ∷ []) i ≡ table_anew new
anew_last tables new i last =
    ap (λ (zs : List TableAnew). get_or zs i no_table) (map-append table_anew tables (new ∷ []))
    ∙ ap (λ (n : ℕ). get_or (map table_anew tables ++ table_anew new ∷ []) n no_table) (last ∙ sym (length-map tables table_anew))
    ∙ get_or-append_seam (map table_anew tables) (table_anew new) [] no_table

-- one table more
pub appended_more : {classes : Classes} → (units : List HeadAndForest) (tables : List NamedTable) (all : List Uses) (n : ℕ) (section whole : List ℕ) (done : List NewTable) (new : NewTable) → AreAppended classes units tables all n section done → IsAppended (table_at tables n).table (counts_in all n) section whole (table_anew new) → AreColumnsChosen classes units (table_at tables n) new.columns.items → AreAppended classes units tables all (n + 1) whole (done ++ new ∷ [])
appended_more {classes} units tables all n section whole done new now more chosen = subst (λ (bytes : List ℕ). AreAppended classes units tables all (n + 1) bytes (done ++ new ∷ [])) (sym more.grown) (record {
  count = omega (arith, length_push done new, now.count);
  tiled = follow_more section more.more done new 0 more.stands.listing now.tiled more.at (subst (λ (bytes : List ℕ). IsTableAt bytes new.at more.stands.listing) more.grown more.stands.stands) (more.end ∙ ap length more.grown);
  each = λ i below. elim (cases_lt i n) [
    | inl before ↦
        subst (λ (t : TableAnew). StandsAnew (section ++ more.more) (table_at tables i).table (counts_in all i) t) (sym (anew_before done new i (omega (arith, before, now.count))))
        (stands_on section more.more (table_at tables i).table (counts_in all i) (new_table_at done i) (now.each i before))
    | inr last ↦
        let e : n ≡ i = omega (arith, last, below) in
        let here : StandsAnew (section ++ more.more) (table_at tables n).table (counts_in all n) (table_anew new) = subst (λ (bytes : List ℕ). StandsAnew bytes (table_at tables n).table (counts_in all n) (table_anew new)) more.grown more.stands in
        let there : StandsAnew (section ++ more.more) (table_at tables i).table (counts_in all i) (table_anew new) = subst (λ (k : ℕ). StandsAnew (section ++ more.more) (table_at tables k).table (counts_in all k) (table_anew new)) e here in
        subst (λ (t : TableAnew). StandsAnew (section ++ more.more) (table_at tables i).table (counts_in all i) t) (sym (anew_last done new i (sym e ∙ sym now.count))) there
  ];
  chosen = λ i below. elim (cases_lt i n) [
    | inl before ↦
        subst (λ (t : TableAnew). AreColumnsChosen classes units (table_at tables i) t.columns) (sym (anew_before done new i (omega (arith, before, now.count)))) (now.chosen i before)
    | inr last ↦
        let e : n ≡ i = omega (arith, last, below) in
        let there : AreColumnsChosen classes units (table_at tables i) new.columns.items = subst (λ (k : ℕ). AreColumnsChosen classes units (table_at tables k) new.columns.items) e chosen in
        subst (λ (t : TableAnew). AreColumnsChosen classes units (table_at tables i) t.columns) (sym (anew_last done new i (sym e ∙ sym now.count))) there
  ];
})

-- the law of tables that are written
abbrev pub WrittenAreRead : Type 0
WrittenAreRead = (ds : List Declared) (bytes : List ℕ) → All IsWritable ds → AreDistinct (codes_of ds) → ShortestTable ds bytes → SpellsTable ds bytes

-- numbers fit 64 bits, whether they are used or not
pub numbers_fit : (uses numbers : List ℕ) → IsLeastNumbering uses numbers → AreNumbersOf uses numbers → (i : ℕ) → i < length numbers → get_or numbers i 0 < 2 ^ 64
numbers_fit uses numbers least are i inside =
    let within : i < length uses = omega (arith, inside, are.same_length) in
    elim (cases_lt 0 (get_or uses i 0)) [
      | inl some ↦ least.member.narrow i (record { inside = within; some = some })
      | inr none ↦ omega (arith, (are.unused i within).1 (omega arith))
    ]

module _ (old : Listing) (known : IsTable old) (uses numbers : List ℕ) (are : AreNumbersOf uses numbers) (fits : (i : ℕ) → i < length numbers → get_or numbers i 0 < 2 ^ 64) (same : length numbers ≡ length old.decls) (columns : List Spec) (wide : length columns ≡ length old.specs) (fine : All IsWritableColumn columns) (before bytes : List ℕ) (written : IsWritten old numbers columns bytes) where
  abbrev declared : List Declared
  declared = map (renumbered old.decls columns) written.order

  spelled : WrittenAreRead → SpellsTable declared bytes
  spelled law =
      let tags = tags_narrow old known in
      law declared bytes (writable old.decls tags columns fine uses numbers are fits same written.order written.ordered) (distinct old.decls tags columns fine uses numbers are fits same written.order written.ordered) written.spelled

  filled : 0 < length bytes
  filled =
      let s = written.spelled in
      let end : length s.1 ≡ 1 = ap length s.3 in
      omega (arith, ap length s.4, length-append s.0 s.1, end)

  count_is : length declared ≡ length written.order
  count_is = length-map written.order (renumbered old.decls columns)

  renumbered_as : (ds : List Declared) → ds ≡ declared → IsRenumbered old columns numbers ds
  renumbered_as ds is = record {
    each = λ number below some.
        let s = seat uses numbers are written.order written.ordered number (omega (arith, below, same)) some in
        let k_is : get_or numbers number 0 - 1 ≡ s.k = omega (arith, s.next) in
        let none : Declared = declared_at [] 0 in
        let here : declared_at declared s.k ≡ numbered_as (get_or numbers number 0) (decl_at old.decls number) (columns_of old columns number) =
        get_or-map (renumbered old.decls columns) written.order s.k (0, 0) none s.inside ∙ ap (renumbered old.decls columns) s.here in
        let here' : declared_at ds (get_or numbers number 0 - 1) ≡ numbered_as (get_or numbers number 0) (decl_at old.decls number) (columns_of old columns number) =
        ap (λ (zs : List Declared). declared_at zs (get_or numbers number 0 - 1)) is ∙ ap (λ (k : ℕ). declared_at declared k) k_is ∙ here in
        (omega (arith, k_is, s.inside, count_is, ap length is), here');
  }

  pub appended : WrittenAreRead → TablesAreListed → IsLeastNumbering uses numbers → RiseByFallingUses uses numbers → IsAppended old uses before (before ++ bytes) (record { at = length before; columns = columns; numbers = numbers })
  appended read_law list_law least rises =
      let found = list_law declared before bytes [] (spelled read_law) in
      let t = found.0 in
      let stands : IsTableAt (before ++ bytes) (length before) t = subst (λ (zs : List ℕ). IsTableAt (before ++ zs) (length before) t) (append-nil bytes) found.1 in
      record {
        more = bytes;
        grown = refl;
        at = refl;
        stands = record {
          renewed = wide;
          least = least;
          order = rises;
          first = are.first;
          listing = t;
          inside = omega (arith, length-append before bytes, filled);
          stands = stands;
          written = subst (λ (zs : List ℕ). IsWritten old numbers columns zs) (sym (last_between before bytes t.end found.3)) written;
          short = subst (λ (zs : List ℕ). ShortestTable (declarations_of t) zs) (sym (last_between before bytes t.end found.3)) (subst (λ (ds : List Declared). ShortestTable ds bytes) (sym found.2) written.spelled);
          renumbered = renumbered_as (declarations_of t) found.2;
          only = ap length found.2 ∙ count_is ∙ count_used uses numbers are written.order written.ordered;
        };
        end = omega (arith, found.3, length-append before bytes);
      }

-- the same, where the parts are held in lists of their own
pub made : (old : Listing) (uses numbers : List ℕ) (columns : List Spec) (before bytes whole : List ℕ) (at : ℕ) → IsTable old → length uses ≡ length old.decls → AreNumbersOf uses numbers → IsLeastNumbering uses numbers → RiseByFallingUses uses numbers → length columns ≡ length old.specs → All IsWritableColumn columns → IsWritten old numbers columns bytes → at ≡ length before → whole ≡ before ++ bytes → WrittenAreRead → TablesAreListed → IsAppended old uses before whole (record { at = at; columns = columns; numbers = numbers })
made old uses numbers columns before bytes whole at known count are least rises wide fine written place grown read_law list_law =
    let here = appended old known uses numbers are (numbers_fit uses numbers least are) (are.same_length ∙ count) columns wide fine before bytes written read_law list_law least rises in
    let with_place : IsAppended old uses before (before ++ bytes) (record { at = at; columns = columns; numbers = numbers }) = subst (λ (p : ℕ). IsAppended old uses before (before ++ bytes) (record { at = p; columns = columns; numbers = numbers })) (sym place) here in
    subst (λ (zs : List ℕ). IsAppended old uses before zs (record { at = at; columns = columns; numbers = numbers })) (sym grown) with_place
