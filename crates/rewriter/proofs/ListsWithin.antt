-- The lists of a file that is written anew keep the wide limits, where the old ones keep the narrow ones.
use Rattle.std.proofs.Common.{◌≡◌, ◌≤◌, ◌<◌, ◌+◌, ◌-◌, ◌*◌, ◌⊎◌, ◌^◌, ◌++◌, ◌∙◌, inl, inr, Bool, true, false, ℕ, List, [], ◌∷◌, length, take, drop, map, cond, sym, ap, min, refl, arith}
use Rattle.std.specs.Prelude.{Some, not, nat_eq, ◌||◌}
use Rattle.std.specs.List.{sum_by}
use Rattle.std.proofs.lemmas.List.{length-append, length-drop, length-take}
use Rattle.std.proofs.lemmas.List.Sums.{sum_by-cons}
use Rattle.std.proofs.lemmas.Option.{same_Some}
use Rattle.dw_base.specs.declared.classes.Classes.{Classes}
use Rattle.spelled.proofs.Parts.{length_part}
use Rattle.dw_base.specs.declared.fault.Span.{Span}
use Rattle.dw_base.specs.declared.fault.Reach.TheVariants.{Wide}
use Rattle.list_model.specs.declared.contribution.Contribution.{Contribution}
use Rattle.list_model.specs.declared.entry.EntryKind.{EntryKind}
use Rattle.list_model.specs.declared.entry.EntryKind.TheVariants.{BaseAddressx, StartxEndx, StartxLength, OffsetPair, DefaultLocation, BaseAddress, StartEnd, StartLength}
use Rattle.list_model.specs.declared.entry.ListKind.{ListKind}
use Rattle.list_model.specs.declared.entry.ListKind.TheVariants.{Ranges, Locations}
use Rattle.list_model.specs.declared.entry.RawEntry.{RawEntry}
use Rattle.list_model.specs.Contributions.{part_end, bytes_from}
use Rattle.list_model.specs.Entries.{code_of, Entry}
use Rattle.list_model.specs.Reading.{AreReadFrom}
use Rattle.range_lists.specs.Ranges.{IsRead as IsRangeRead}
use Rattle.loc_lists.specs.Views.{view_limit}
use Rattle.loc_lists.specs.Locations.{IsRead as IsLocationRead, IsExpressionSpan, is_item, items_among, bytes_in, expressions_of}
use Rattle.unit_write.specs.declared.places.Places.{Places}
use Rattle.value_links.specs.Reading.{ListRead, Reading, of_kind, lists_of, part_at}
use Rattle.value_links.specs.Lists.{IsListOf, expressions_in, expressions_at, owner_unit, pair_total}
use Rattle.value_links.specs.ListFaults.{list_total, entry_total, expression_bytes}
use Rattle.value_links.specs.Laws.{AreListsWithin}
use Rattle.value_links.specs.World.{World}
use Rattle.rewriter.specs.declared.tables.NewTable.{NewTable}
use Rattle.rewriter.specs.declared.new_places.NewPlaces.{NewPlaces}
use Rattle.rewriter.specs.inside.Numbers.{IsNewExpression}
use Rattle.rewriter.specs.inside.Follows.{AreReadAnew}
use Rattle.rewriter.proofs.Zips.{zip_thrice, sum_twice, sum_thrice}
use Rattle.rewriter.proofs.MovedExpressions.{made_thrice}
use Rattle.rewriter.proofs.FrozenLists.{old_list, new_list, anew}
use Rattle.rewriter.proofs.ListExpressionsAnew.{expressions_wide}
use Rattle.rewriter.proofs.ViewsRead.{pairs_few}

-- THE BYTES OF EXPRESSIONS

-- whether a code is that of an item
abbrev item_code : ℕ → Bool
item_code code = not (nat_eq 1 code || nat_eq 6 code)

item_as : (raw : RawEntry) (code : ℕ) → Some code ≡ Some raw.code → is_item raw ≡ item_code code
item_as raw code e = ap item_code (sym (same_Some code raw.code e))

-- an entry is an item, and its expression ends where it does, or it has no expression
abbrev HasSpan : RawEntry → ℕ → Type 0
HasSpan raw end = ((is_item raw ≡ true) × (raw.expr.at + raw.expr.len ≡ end)) ⊎ ((is_item raw ≡ false) × (raw.expr.len ≡ 0))

has_span : (kind : EntryKind) (raw : RawEntry) (expression : List ℕ) (end : ℕ) → code_of Locations kind ≡ Some raw.code → IsExpressionSpan kind raw.expr expression end → HasSpan raw end
has_span BaseAddressx raw expression end code is = inr (item_as raw 1 code, ap (λ (z : Span). z.len) is)
has_span StartxEndx raw expression end code is = inl (item_as raw 2 code, is.1)
has_span StartxLength raw expression end code is = inl (item_as raw 3 code, is.1)
has_span OffsetPair raw expression end code is = inl (item_as raw 4 code, is.1)
has_span DefaultLocation raw expression end code is = inl (item_as raw 5 code, is.1)
has_span BaseAddress raw expression end code is = inr (item_as raw 6 code, ap (λ (z : Span). z.len) is)
has_span StartEnd raw expression end code is = inl (item_as raw 7 code, is.1)
has_span StartLength raw expression end code is = inl (item_as raw 8 code, is.1)

-- how many bytes expressions have together
abbrev bytes_of : List (List ℕ) → ℕ
bytes_of expressions = sum_by (λ (bytes : List ℕ). length bytes) expressions

-- the bytes of the expressions of entries, of which the first is an item
bytes_more : (section : List ℕ) (raw : RawEntry) (raws : List RawEntry) → is_item raw ≡ true → bytes_of (expressions_of section (raw ∷ raws)) ≡ length (bytes_in section raw.expr) + bytes_of (expressions_of section raws)
bytes_more section raw raws is =
    ap (λ (z : Bool). bytes_of (map (λ (x : RawEntry). bytes_in section x.expr) (cond z (raw ∷ items_among raws) (items_among raws)))) is
    ∙ sum_by-cons (λ (bytes : List ℕ). length bytes) (bytes_in section raw.expr) (expressions_of section raws)

-- or isn't
bytes_same : (section : List ℕ) (raw : RawEntry) (raws : List RawEntry) → is_item raw ≡ false → bytes_of (expressions_of section (raw ∷ raws)) ≡ bytes_of (expressions_of section raws)
bytes_same section raw raws is = ap (λ (z : Bool). bytes_of (map (λ (x : RawEntry). bytes_in section x.expr) (cond z (raw ∷ items_among raws) (items_among raws)))) is

-- bytes that are inside of others
bytes_inside : (section : List ℕ) (at len : ℕ) → at + len ≤ length section → length (take len (drop at section)) ≡ len
bytes_inside section at len inside = length_part at len section inside

one_more : (section : List ℕ) (raw : RawEntry) (raws : List RawEntry) (end : ℕ) → HasSpan raw end → end ≤ length section → expression_bytes raws ≡ bytes_of (expressions_of section raws) → expression_bytes (raw ∷ raws) ≡ bytes_of (expressions_of section (raw ∷ raws))
one_more section raw raws end span inside rest = elim span [
  | inl (is, ends) ↦
      let size : length (bytes_in section raw.expr) ≡ raw.expr.len = bytes_inside section raw.expr.at raw.expr.len (omega (arith, ends, inside)) in
      let own : expression_bytes (raw ∷ raws) ≡ raw.expr.len + expression_bytes raws = sum_by-cons (λ (x : RawEntry). x.expr.len) raw raws in
      let more : bytes_of (expressions_of section (raw ∷ raws)) ≡ length (bytes_in section raw.expr) + bytes_of (expressions_of section raws) = bytes_more section raw raws is in
      omega (arith, size, own, more, rest)
  | inr (is, none) ↦
      let own : expression_bytes (raw ∷ raws) ≡ raw.expr.len + expression_bytes raws = sum_by-cons (λ (x : RawEntry). x.expr.len) raw raws in
      let more : bytes_of (expressions_of section (raw ∷ raws)) ≡ bytes_of (expressions_of section raws) = bytes_same section raw raws is in
      omega (arith, none, own, more, rest)
]

locations_sized : (section : List ℕ) (at : ℕ) (raws : List RawEntry) (locations : List (Entry × List ℕ)) (bytes : List ℕ) → AreReadFrom IsLocationRead at raws locations bytes → at + length bytes ≤ length section → expression_bytes raws ≡ bytes_of (expressions_of section raws)
locations_sized section at [] [] bytes read inside = refl
locations_sized section at [] (l ∷ locations) bytes read inside = absurd read
locations_sized section at (raw ∷ raws) [] bytes read inside = absurd read
locations_sized section at (raw ∷ raws) (l ∷ locations) bytes (first, rest, is, more, e) inside =
    let size : length bytes ≡ length first + length rest = ap (λ (z : List ℕ). length z) e ∙ length-append first rest in
    let later : expression_bytes raws ≡ bytes_of (expressions_of section raws) = locations_sized section (at + length first) raws locations rest more (omega (arith, size, inside)) in
    one_more section raw raws (at + length first) (has_span l.0.kind raw l.1 (at + length first) is.says.of_code is.expression) (omega (arith, size, inside)) later

ranges_sized : (at : ℕ) (raws : List RawEntry) (entries : List Entry) (bytes : List ℕ) → AreReadFrom IsRangeRead at raws entries bytes → expression_bytes raws ≡ 0
ranges_sized at [] [] bytes read = refl
ranges_sized at [] (entry ∷ entries) bytes read = absurd read
ranges_sized at (raw ∷ raws) [] bytes read = absurd read
ranges_sized at (raw ∷ raws) (entry ∷ entries) bytes (first, rest, is, more, _) =
    let none : raw.expr.len ≡ 0 = ap (λ (z : Span). z.len) is.without in
    let own : expression_bytes (raw ∷ raws) ≡ raw.expr.len + expression_bytes raws = sum_by-cons (λ (x : RawEntry). x.expr.len) raw raws in
    let later : expression_bytes raws ≡ 0 = ranges_sized (at + length first) raws entries rest more in
    omega (arith, none, own, later)

-- what stands in a contribution, with a byte behind it, stands in the section
stands_inside : (section : List ℕ) (part : Contribution) (at : ℕ) (front end rest : List ℕ) → bytes_from section part at ≡ front ++ (end ++ rest) → end ≡ 0 ∷ [] → at + length front ≤ length section
stands_inside section part at front end rest whole is =
    let most : length (take (part_end part - at) (drop at section)) ≡ min (part_end part - at) (length (drop at section)) = length-take (part_end part - at) (drop at section) in
    let left : length (drop at section) ≡ length section - at = length-drop at section in
    let long : length (bytes_from section part at) ≡ length front + length (end ++ rest) = ap (λ (z : List ℕ). length z) whole ∙ length-append front (end ++ rest) in
    let more : length (end ++ rest) ≡ length end + length rest = length-append end rest in
    let one : length end ≡ 1 = ap (λ (z : List ℕ). length z) is in
    omega (arith, most, left, long, more, one)

-- The bytes of the expressions of a list that is read are those of its items.
pub expressions_sized : (kind : ListKind) (section : List ℕ) (part : Contribution) (at : ℕ) (raws : List RawEntry) → IsListOf kind section part at raws → expression_bytes raws ≡ sum_by (λ (bytes : List ℕ). length bytes) (expressions_in kind section raws)
expressions_sized Ranges section part at raws read = ranges_sized at raws read.entries read.front read.read
expressions_sized Locations section part at raws read =
    locations_sized section at raws read.entries read.front read.read (stands_inside section part at read.front read.end read.rest read.whole read.ended)

-- ALL LISTS

module _ {classes : Classes} {file : List ℕ} {world : World} {tables : List NewTable} {places : List Places} {new_places : NewPlaces} {info abbrevs : List ℕ} {r s : Reading} (all : AreReadAnew classes file world tables places new_places info abbrevs r s) where
  -- a list has at most three times the bytes of expressions
  list_thrice : (kind : ListKind) (k : ℕ) → k < length (lists_of r kind) → expression_bytes (new_list all kind k).raws ≤ 3 * expression_bytes (old_list all kind k).raws
  list_thrice kind k inside =
      let is = anew all kind k inside in
      let u : ℕ = owner_unit r.links is.expressions.owner in
      let old : expression_bytes (old_list all kind k).raws ≡ bytes_of (expressions_at r.links kind (old_list all kind k)) = expressions_sized kind (of_kind r.links kind).section (part_at (of_kind r.links kind) (old_list all kind k).part) (old_list all kind k).at (old_list all kind k).raws ((all.read.lists kind).each k inside).read in
      let new : expression_bytes (new_list all kind k).raws ≡ bytes_of (expressions_at s.links kind (new_list all kind k)) = expressions_sized kind (of_kind s.links kind).section (part_at (of_kind s.links kind) (new_list all kind k).part) (new_list all kind k).at (new_list all kind k).raws is.read in
      let most : bytes_of (expressions_at s.links kind (new_list all kind k)) ≤ 3 * bytes_of (expressions_at r.links kind (old_list all kind k)) =
      zip_thrice (IsNewExpression r.links places u) (λ (bytes : List ℕ). length bytes) (λ (bytes : List ℕ). length bytes) (made_thrice r.links places u) (expressions_at r.links kind (old_list all kind k)) (expressions_at s.links kind (new_list all kind k)) is.expressions.each in
      omega (arith, old, new, most)

  abbrev no_list : ListRead
  no_list = record { at = 0; part = 0; raws = [] }

  pub bytes_thrice : (kind : ListKind) → list_total expression_bytes (lists_of s kind) ≤ 3 * list_total expression_bytes (lists_of r kind)
  bytes_thrice kind = sum_thrice no_list (λ (list : ListRead). expression_bytes list.raws) (lists_of r kind) (lists_of s kind) (all.lists kind).count (list_thrice kind)

  -- and at most twice the entries
  pub entries_twice : (kind : ListKind) → entry_total (lists_of s kind) ≤ 2 * entry_total (lists_of r kind)
  entries_twice kind = sum_twice no_list (λ (list : ListRead). length list.raws) (lists_of r kind) (lists_of s kind) (all.lists kind).count (λ k inside. (anew all kind k inside).few)

  -- so all keep the wide limits
  pub lists_within : entry_total r.range_lists + entry_total r.location_lists ≤ 2 ^ 24 → list_total expression_bytes r.range_lists + list_total expression_bytes r.location_lists ≤ 2 ^ 27 → pair_total r.views ≤ view_limit → AreListsWithin s Wide
  lists_within few short few_views =
      let ranges : entry_total s.range_lists ≤ 2 * entry_total r.range_lists = entries_twice Ranges in
      let locations : entry_total s.location_lists ≤ 2 * entry_total r.location_lists = entries_twice Locations in
      let range_bytes : list_total expression_bytes s.range_lists ≤ 3 * list_total expression_bytes r.range_lists = bytes_thrice Ranges in
      let location_bytes : list_total expression_bytes s.location_lists ≤ 3 * list_total expression_bytes r.location_lists = bytes_thrice Locations in
      record {
        entries = omega (arith, ranges, locations, few);
        bytes = omega (arith, range_bytes, location_bytes, short);
        expressions = expressions_wide all;
        views = (let pairs = pairs_few all in omega (arith, pairs, few_views));
      }
