-- The lists that begin before one of a file are the front of all its lists, and no more entries begin at the place of a list than it
-- has, nor more bytes of their expressions. So no total of either passes that of all lists.
use Rattle.std.proofs.Common.{◌≡◌, ◌≤◌, ◌<◌, ◌+◌, ◌∙◌, ◌++◌, inl, inr, ℕ, List, [], ◌∷◌, length, take, sym, ap, subst, refl, arith}
use Rattle.std.specs.List.{sum_by}
use Rattle.std.proofs.lemmas.Bool.{cases_lt, cases_eq}
use Rattle.std.proofs.lemmas.List.{append_assoc, append_cancel_left, append-nil, length-append, length-take-le, get_or-take}
use Rattle.std.proofs.lemmas.List.Sums.{sum_by-cons, sum_by-append, sum_by_more_le}
use Rattle.dw_base.specs.declared.fault.Span.{Span}
use Rattle.spelled.specs.Spelled.{HasUniqueFronts, EndsApart, Joined}
use Rattle.spelled.proofs.Joins.{joined_agree}
use Rattle.list_model.specs.declared.contribution.Contribution.{Contribution}
use Rattle.list_model.specs.declared.entry.EntryKind.{EntryKind}
use Rattle.list_model.specs.declared.entry.EntryKind.TheVariants.{BaseAddressx, BaseAddress}
use Rattle.list_model.specs.declared.entry.ListKind.{ListKind}
use Rattle.list_model.specs.declared.entry.ListKind.TheVariants.{Ranges, Locations}
use Rattle.list_model.specs.declared.entry.RawEntry.{RawEntry}
use Rattle.list_model.specs.Contributions.{bytes_from}
use Rattle.list_model.specs.Entries.{Entry, SpellsEntry, IsListEnd}
use Rattle.list_model.specs.Reading.{AreReadFrom, IsListRead}
use Rattle.list_model.proofs.EntryLaws.{entries_once, entries_apart, entries_whole, ends_whole}
use Rattle.range_lists.specs.Ranges.{IsRead as IsRangeRead}
use Rattle.range_lists.proofs.RangeLaws.{joined as ranges_joined, counted as ranges_counted}
use Rattle.loc_lists.specs.Locations.{SpellsBehind, SpellsLocation, IsExpressionSpan}
use Rattle.loc_lists.specs.Locations.{IsRead as IsLocationRead}
use Rattle.loc_lists.proofs.LocationLaws.{once, apart, joined as locations_joined, counted as locations_counted}
use Rattle.value_links.specs.Reading.{ListRead, Linkable, Reading, lists_of, list_at}
use Rattle.value_links.specs.Whole.{IsReadToLinks, IsReading}
use Rattle.value_links.specs.Lists.{IsListOf, IsListIn, AreListsOf}
use Rattle.value_links.specs.ListFaults.{BeginsWith, list_total, expression_bytes, AreBefore, AreAllOf, AreEarlier}
use Rattle.value_links.proofs.ListsOnce.{same_members, list_same}

-- WHAT IS MEASURED

-- A measure of what is read of entries weighs what their bytes spell, and more things weigh no less.
pub record IsMeasure {V : Type 0} (IsRead : ℕ → RawEntry → V → List ℕ → Type 0) (measure : List RawEntry → ℕ) : Type 0 where
  pub weight : List V → ℕ
  pub told : (at : ℕ) (raws : List RawEntry) (vs : List V) (bytes : List ℕ) → AreReadFrom IsRead at raws vs bytes → measure raws ≡ weight vs
  pub more : (vs ws : List V) → weight vs ≤ weight (vs ++ ws)

abbrev pub Measures : ListKind → (List RawEntry → ℕ) → Type 0
Measures Ranges measure = IsMeasure IsRangeRead measure
Measures Locations measure = IsMeasure IsLocationRead measure

longer : {V : Type 0} (vs ws : List V) → length vs ≤ length (vs ++ ws)
longer vs ws = let whole : length (vs ++ ws) ≡ length vs + length ws = length-append vs ws in omega arith

-- the number of entries is one
pub entries_measured : (kind : ListKind) → Measures kind length
entries_measured Ranges = record { weight = length; told = ranges_counted; more = longer }
entries_measured Locations = record { weight = length; told = locations_counted; more = longer }

-- the entries of range lists have no expressions
no_bytes : (at : ℕ) (raws : List RawEntry) (entries : List Entry) (bytes : List ℕ) → AreReadFrom IsRangeRead at raws entries bytes → expression_bytes raws ≡ 0
no_bytes at [] [] bytes e = refl
no_bytes at (raw ∷ raws) (entry ∷ entries) bytes (first, rest, h, f, e) =
    let none : raw.expr.len ≡ 0 = ap (λ (z : Span). z.len) h.without in
    let others : expression_bytes raws ≡ 0 = no_bytes (at + length first) raws entries rest f in
    let next : expression_bytes (raw ∷ raws) ≡ raw.expr.len + expression_bytes raws = sum_by-cons (λ (raw : RawEntry). raw.expr.len) raw raws in
    omega arith
no_bytes at [] (entry ∷ entries) bytes f = absurd f
no_bytes at (raw ∷ raws) [] bytes f = absurd f

-- a span is as long as the expression that lies there
span_len : (kind : EntryKind) (span : Span) (expression behind : List ℕ) (end : ℕ) → SpellsBehind kind expression behind → IsExpressionSpan kind span expression end → span.len ≡ length expression
span_len BaseAddressx span expression behind end p s = ap (λ (z : Span). z.len) s ∙ sym (ap length p.1)
span_len BaseAddress span expression behind end p s = ap (λ (z : Span). z.len) s ∙ sym (ap length p.1)
span_len kind span expression behind end p s = s.0

abbrev expression_lengths : List (Entry × List ℕ) → ℕ
expression_lengths locations = sum_by (λ (location : Entry × List ℕ). length location.1) locations

location_bytes : (at : ℕ) (raws : List RawEntry) (locations : List (Entry × List ℕ)) (bytes : List ℕ) → AreReadFrom IsLocationRead at raws locations bytes → expression_bytes raws ≡ expression_lengths locations
location_bytes at [] [] bytes e = refl
location_bytes at (raw ∷ raws) (location ∷ locations) bytes (first, rest, h, f, e) =
    let here : raw.expr.len ≡ length location.1 = span_len location.0.kind raw.expr location.1 h.spelled.1 (at + length first) h.spelled.3 h.expression in
    let others : expression_bytes raws ≡ expression_lengths locations = location_bytes (at + length first) raws locations rest f in
    let next : expression_bytes (raw ∷ raws) ≡ raw.expr.len + expression_bytes raws = sum_by-cons (λ (raw : RawEntry). raw.expr.len) raw raws in
    let also : expression_lengths (location ∷ locations) ≡ length location.1 + expression_lengths locations = sum_by-cons (λ (location : Entry × List ℕ). length location.1) location locations in
    omega arith
location_bytes at [] (location ∷ locations) bytes f = absurd f
location_bytes at (raw ∷ raws) [] bytes f = absurd f

more_lengths : (locations others : List (Entry × List ℕ)) → expression_lengths locations ≤ expression_lengths (locations ++ others)
more_lengths locations others =
    let whole : expression_lengths (locations ++ others) ≡ expression_lengths locations + expression_lengths others = sum_by-append (λ (location : Entry × List ℕ). length location.1) locations others in
    omega arith

-- the number of the bytes of their expressions is another
pub bytes_measured : (kind : ListKind) → Measures kind expression_bytes
bytes_measured Ranges = record { weight = λ (entries : List Entry). 0; told = no_bytes; more = λ (entries others : List Entry). omega arith }
bytes_measured Locations = record { weight = λ (locations : List (Entry × List ℕ)). expression_lengths locations; told = location_bytes; more = more_lengths }

-- ENTRIES AT A PLACE

module _ {V : Type 0} (Spells : V → List ℕ → Type 0) (unique : HasUniqueFronts Spells) (nowhere : EndsApart Spells IsListEnd) where
  -- nothing begins with the end of a list
  no_more : (vs : List V) (tail rest end more : List ℕ) → Joined Spells vs tail → IsListEnd end → end ++ rest ≡ tail ++ more → vs ≡ []
  no_more [] tail rest end more joined ended e = refl
  no_more (v ∷ vs) tail rest end more (first, others, s, j, d) ended e =
      absurd (nowhere v first end (others ++ more) rest s ended (sym (append_assoc first others more) ∙ ap (λ (z : List ℕ). z ++ more) (sym d) ∙ sym e))

  -- so what begins with some things and then ends begins with others only where they are the front of them
  front_of : (vs ws : List V) (front other end rest more : List ℕ) → Joined Spells vs front → Joined Spells ws other → IsListEnd end → front ++ (end ++ rest) ≡ other ++ more → (behind : List V) × (vs ≡ ws ++ behind)
  front_of vs ws front other end rest more j k ended e = elim (joined_agree Spells unique vs ws front other (end ++ rest) more j k e) [
    | inl g ↦
        let whole : front ++ (end ++ rest) ≡ front ++ (g.tail ++ more) = e ∙ ap (λ (z : List ℕ). z ++ more) g.bytes ∙ append_assoc front g.tail more in
        let none : g.more ≡ [] = no_more g.more g.tail rest end more g.spelled ended (append_cancel_left front (end ++ rest) (g.tail ++ more) whole) in
        let same : ws ≡ vs = g.values ∙ ap (λ (z : List V). vs ++ z) none ∙ append-nil vs in
        ([], sym same ∙ sym (append-nil ws))
    | inr g ↦ (g.more, g.values)
  ]

  module _ (IsRead : ℕ → RawEntry → V → List ℕ → Type 0) (joined : (at : ℕ) (raws : List RawEntry) (vs : List V) (bytes : List ℕ) → AreReadFrom IsRead at raws vs bytes → Joined Spells vs bytes) (measure : List RawEntry → ℕ) (is : IsMeasure IsRead measure) where
    front_within : (section : List ℕ) (part : Contribution) (at : ℕ) (raws begun : List RawEntry) → IsListRead IsRead section part at raws → (vs : List V) (front rest : List ℕ) → AreReadFrom IsRead at begun vs front → bytes_from section part at ≡ front ++ rest → measure begun ≤ measure raws
    front_within section part at raws begun h vs front rest read whole =
        let (behind, same) = front_of h.entries vs h.front front h.end h.rest rest (joined at raws h.entries h.front h.read) (joined at begun vs front read) h.ended (sym h.whole ∙ whole) in
        let all : measure raws ≡ is.weight h.entries = is.told at raws h.entries h.front h.read in
        let some : measure begun ≡ is.weight vs = is.told at begun vs front read in
        let parts : is.weight h.entries ≡ is.weight (vs ++ behind) = ap is.weight same in
        let more : is.weight vs ≤ is.weight (vs ++ behind) = is.more vs behind in
        omega arith

-- what a list begins with measures no more than the list
pub begins_within : (kind : ListKind) (measure : List RawEntry → ℕ) → Measures kind measure → (section : List ℕ) (part : Contribution) (at : ℕ) (raws begun : List RawEntry) → IsListOf kind section part at raws → BeginsWith kind section part at begun → measure begun ≤ measure raws
begins_within Ranges measure is section part at raws begun h (entries, front, rest, read, whole) =
    front_within (SpellsEntry Ranges) (entries_once Ranges) (entries_apart Ranges) IsRangeRead ranges_joined measure is section part at raws begun h entries front rest read whole
begins_within Locations measure is section part at raws begun h (entries, front, rest, read, whole) =
    front_within SpellsLocation (once entries_once entries_apart entries_whole ends_whole) (apart entries_once entries_apart entries_whole ends_whole) IsLocationRead locations_joined measure is section part at raws begun h entries front rest read whole

-- LISTS BEFORE A PLACE

abbrev no_list : ListRead
no_list = record { at = 0; part = 0; raws = [] }

module _ (file : List ℕ) (r : Linkable) (read : IsReadToLinks file r) (kind : ListKind) (lists front : List ListRead) (are : AreListsOf r kind lists) (k : ℕ) (inside : k < length lists) (before : AreBefore r kind (list_at lists k).at front) where
  abbrev first : List ListRead
  first = take k lists

  size : length first ≡ k
  size = let fits : k ≤ length lists = omega arith in length-take-le k lists fits

  first_is : (j : ℕ) → j < k → list_at first j ≡ list_at lists j
  first_is j less = get_or-take k lists j no_list less

  rising : (i j : ℕ) → i < j → j < length first → (list_at first i).at < (list_at first j).at
  rising i j less j_in =
      let count : length first ≡ k = size in
      let lower : list_at first i ≡ list_at lists i = first_is i (omega arith) in
      let higher : list_at first j ≡ list_at lists j = first_is j (omega arith) in
      subst (λ (z : ListRead). z.at < (list_at first j).at) (sym lower) (subst (λ (z : ListRead). (list_at lists i).at < z.at) (sym higher) (are.rising i j less (omega arith)))

  -- a list that begins before this one has a lower number
  lower : (j : ℕ) → j < length lists → (list_at lists j).at < (list_at lists k).at → j < k
  lower j j_in less = elim (cases_lt j k) [
    | inl is ↦ is
    | inr more ↦ elim (cases_eq j k) [
      | inl same ↦ let here : (list_at lists j).at ≡ (list_at lists k).at = ap (λ (i : ℕ). (list_at lists i).at) same in absurd (omega arith)
      | inr other ↦ let above : (list_at lists k).at < (list_at lists j).at = are.rising k j (omega (arith, other, more)) j_in in absurd (omega arith)
    ]
  ]

  each_first : (i : ℕ) → i < length front → (j : ℕ) × (j < length first) × (list_at first j ≡ list_at front i)
  each_first i i_in =
      let (here, less) = before.each i i_in in
      let (j, j_in, same) = are.all (list_at front i).at here.named in
      let count : length first ≡ k = size in
      let under : j < k = lower j j_in (subst (λ (n : ℕ). n < (list_at lists k).at) (sym same) less) in
      (j, omega arith, first_is j under ∙ list_same file r read kind (list_at lists j) (list_at front i) (are.each j j_in) here same)

  each_before : (j : ℕ) → j < length first → (i : ℕ) × (i < length front) × (list_at front i ≡ list_at first j)
  each_before j j_in =
      let count : length first ≡ k = size in
      let j_known : j < length lists = omega arith in
      let here : IsListIn r kind (list_at lists j) = are.each j j_known in
      let (i, i_in, same) = before.all (list_at lists j).at here.named (are.rising j k (omega arith) inside) in
      (i, i_in, list_same file r read kind (list_at front i) (list_at lists j) (before.each i i_in).0 here same ∙ sym (first_is j (omega arith)))

  front_is : front ≡ first
  front_is = same_members no_list (λ (a b : ListRead). a.at < b.at) (λ a b less more. absurd (omega arith)) front first before.rising rising each_first each_before

  -- what is measured of them and of this one is some of all
  pub total_within : (measure : List RawEntry → ℕ) → list_total measure front + measure (list_at lists k).raws ≤ list_total measure lists
  total_within measure = subst (λ (z : List ListRead). list_total measure z + measure (list_at lists k).raws ≤ list_total measure lists) (sym front_is) (sum_by_more_le (λ (list : ListRead). measure list.raws) lists k no_list inside)

-- ALL LISTS OF A KIND

-- all lists of a kind that something names are those that are read
module _ (file : List ℕ) (r : Linkable) (read : IsReadToLinks file r) (kind : ListKind) (lists others : List ListRead) (are : AreListsOf r kind lists) (also : AreAllOf r kind others) where
  each_other : (k : ℕ) → k < length others → (j : ℕ) × (j < length lists) × (list_at lists j ≡ list_at others k)
  each_other k inside =
      let here : IsListIn r kind (list_at others k) = also.each k inside in
      let (j, j_in, same) = are.all (list_at others k).at here.named in
      (j, j_in, list_same file r read kind (list_at lists j) (list_at others k) (are.each j j_in) here same)

  each_list : (j : ℕ) → j < length lists → (k : ℕ) × (k < length others) × (list_at others k ≡ list_at lists j)
  each_list j inside =
      let here : IsListIn r kind (list_at lists j) = are.each j inside in
      let (k, k_in, same) = also.all (list_at lists j).at here.named in
      (k, k_in, list_same file r read kind (list_at others k) (list_at lists j) (also.each k k_in) here same)

  all_are : others ≡ lists
  all_are = same_members no_list (λ (a b : ListRead). a.at < b.at) (λ a b less more. absurd (omega arith)) others lists also.rising are.rising each_other each_list

module _ (file : List ℕ) (r : Reading) (read : IsReading file r) (measure : List RawEntry → ℕ) where
  -- what is measured of the lists that are counted before those of a kind, and of these, is some of all
  pub earlier_within : (kind : ListKind) (earlier : List ListRead) → AreEarlier r.links kind earlier → list_total measure earlier + list_total measure (lists_of r kind) ≤ list_total measure r.range_lists + list_total measure r.location_lists
  earlier_within Ranges earlier none =
      let empty : list_total measure earlier ≡ 0 = ap (λ (z : List ListRead). list_total measure z) none in
      omega arith
  earlier_within Locations earlier others =
      let same : earlier ≡ r.range_lists = all_are file r.links read.links Ranges r.range_lists earlier (read.lists Ranges) others in
      let total : list_total measure earlier ≡ list_total measure r.range_lists = ap (λ (z : List ListRead). list_total measure z) same in
      omega arith

  -- and so is what is measured of one of them
  pub one_within : (kind : ListKind) (k : ℕ) → k < length (lists_of r kind) → measure (list_at (lists_of r kind) k).raws ≤ list_total measure r.range_lists + list_total measure r.location_lists
  one_within Ranges k inside =
      let within = sum_by_more_le (λ (list : ListRead). measure list.raws) r.range_lists k no_list inside in
      omega (arith, within)
  one_within Locations k inside =
      let within = sum_by_more_le (λ (list : ListRead). measure list.raws) r.location_lists k no_list inside in
      omega (arith, within)
