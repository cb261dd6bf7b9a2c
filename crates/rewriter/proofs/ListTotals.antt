-- How many entries the lists of a valid file have, and how many bytes their expressions.
use Rattle.std.proofs.Common.{◌≡◌, ◌≤◌, ◌<◌, ◌+◌, ◌∙◌, ◌^◌, ℕ, zero, suc, List, [], ◌++◌, length, take, inl, inr, sym, ap, refl, subst, arith}
use Rattle.std.proofs.lemmas.Bool.{cases_lt}
use Rattle.std.proofs.lemmas.List.{take_all, length-take-le, get_or-take}
use Rattle.std.proofs.lemmas.List.Sums.{sum_by_more, get_or-le-sum_by}
use Rattle.dw_base.specs.declared.fault.Kind.TheVariants.{Limit}
use Rattle.dw_base.specs.declared.fault.Reach.TheVariants.{Narrow}
use Rattle.list_model.specs.declared.entry.ListKind.{ListKind}
use Rattle.list_model.specs.declared.entry.ListKind.TheVariants.{Ranges, Locations}
use Rattle.list_model.specs.declared.entry.RawEntry.{RawEntry}
use Rattle.list_model.specs.declared.contribution.Contribution.{Contribution}
use Rattle.list_model.specs.Reading.{list_entry_limit}
use Rattle.value_links.specs.Sections.{lists_name, offset_named}
use Rattle.value_links.specs.Reading.{ListRead, Reading, of_kind, lists_of, list_at, part_at}
use Rattle.value_links.specs.Lists.{IsListIn, IsListOf, AreListsOf}
use Rattle.value_links.specs.ListFaults.{BeginsWith, list_total, entry_total, expression_bytes, expression_limit, AreBefore, AreEarlier, PassesTotal, PassesLimit}
use Rattle.value_links.specs.Faults.{IsValid}
use Rattle.value_links.specs.Faults.Pass.{OfLists}
use Rattle.value_links.specs.Whole.{IsReading}
use Rattle.value_links.specs.World.{World, IsWorldOf}

-- what is read of a list begins it
begins_read : (kind : ListKind) (section : List ℕ) (part : Contribution) (at : ℕ) (raws : List RawEntry) → IsListOf kind section part at raws → BeginsWith kind section part at raws
begins_read Ranges section part at raws list = (list.entries, list.front, list.end ++ list.rest, list.read, list.whole)
begins_read Locations section part at raws list = (list.entries, list.front, list.end ++ list.rest, list.read, list.whole)

-- ---- the total of a kind, where the lists of kinds that are counted before it have one within the limit

module _ (r : Reading) (kind : ListKind) (lists : AreListsOf r.links kind (lists_of r kind)) (measure : List RawEntry → ℕ) (limit : ℕ) (earlier : List ListRead) (other : AreEarlier r.links kind earlier) (none : (place : ℕ) → PassesTotal r.links measure limit kind place → ⊥) where
  front_count : (k : ℕ) → k < length (lists_of r kind) → length (take k (lists_of r kind)) ≡ k
  front_count k inside = length-take-le k (lists_of r kind) (omega arith)

  front_at : (k j : ℕ) → k < length (lists_of r kind) → j < k → list_at (take k (lists_of r kind)) j ≡ list_at (lists_of r kind) j
  front_at k j inside less = get_or-take k (lists_of r kind) j (list_at [] 0) less

  -- these are the lists before one
  front_before : (k : ℕ) → k < length (lists_of r kind) → AreBefore r.links kind (list_at (lists_of r kind) k).at (take k (lists_of r kind))
  front_before k inside = record {
    rising = λ i j less within.
        let j_in : j < k = omega (arith, front_count k inside) in
        let first : (list_at (take k (lists_of r kind)) i).at ≡ (list_at (lists_of r kind) i).at = ap (λ (z : ListRead). z.at) (front_at k i inside (omega arith)) in
        let second : (list_at (take k (lists_of r kind)) j).at ≡ (list_at (lists_of r kind) j).at = ap (λ (z : ListRead). z.at) (front_at k j inside j_in) in
        omega (arith, lists.rising i j less (omega arith), first, second);
    each = λ j within.
        let j_in : j < k = omega (arith, front_count k inside) in
        let same : list_at (take k (lists_of r kind)) j ≡ list_at (lists_of r kind) j = front_at k j inside j_in in
        subst (λ (z : ListRead). IsListIn r.links kind z × (z.at < (list_at (lists_of r kind) k).at)) (sym same) (lists.each j (omega arith), lists.rising j k j_in inside);
    all = λ place named before.
        let known = lists.all place named in
        let j : ℕ = known.0 in
        let j_in : j < k = elim (cases_lt j k) [
          | inl less ↦ less
          | inr most ↦ elim (cases_lt k j) [
            | inl more ↦ absurd (omega (arith, lists.rising k j more known.1, known.2, before))
            | inr least ↦
                let same : k ≡ j = omega arith in
                let here : (list_at (lists_of r kind) k).at ≡ (list_at (lists_of r kind) j).at = ap (λ (z : ℕ). (list_at (lists_of r kind) z).at) same in
                absurd (omega (arith, here, known.2, before))
          ]
        ] in
        (j, omega (arith, j_in, front_count k inside), ap (λ (z : ListRead). z.at) (front_at k j inside j_in) ∙ known.2);
  }

  -- no list passes the limit
  within : (k : ℕ) → k < length (lists_of r kind) → list_total measure earlier + list_total measure (take k (lists_of r kind)) ≤ limit → list_total measure earlier + list_total measure (take k (lists_of r kind)) + measure (list_at (lists_of r kind) k).raws ≤ limit
  within k inside few = elim (cases_lt limit (list_total measure earlier + list_total measure (take k (lists_of r kind)) + measure (list_at (lists_of r kind) k).raws)) [
    | inl past ↦
        let list = lists.each k inside in
        let place : ℕ = (list_at (lists_of r kind) k).at in
        let fault : PassesTotal r.links measure limit kind place = record {
          p = (list_at (lists_of r kind) k).part;
          named = record { named = list.named; begins = list.begins };
          earlier = earlier;
          other = other;
          front = take k (lists_of r kind);
          before = front_before k inside;
          within = few;
          raws = (list_at (lists_of r kind) k).raws;
          begins = begins_read kind (of_kind r.links kind).section (part_at (of_kind r.links kind) (list_at (lists_of r kind) k).part) place (list_at (lists_of r kind) k).raws list.read;
          past = past;
        } in
        absurd (none place fault)
    | inr fits ↦ fits
  ]

  up_to : (k : ℕ) → k ≤ length (lists_of r kind) → list_total measure earlier ≤ limit → list_total measure earlier + list_total measure (take k (lists_of r kind)) ≤ limit
  up_to zero below before = omega arith
  up_to (suc k) below before =
      let so_far : list_total measure earlier + list_total measure (take k (lists_of r kind)) ≤ limit = up_to k (omega arith) before in
      let more : list_total measure (take (k + 1) (lists_of r kind)) ≡ list_total measure (take k (lists_of r kind)) + measure (list_at (lists_of r kind) k).raws = sum_by_more (λ (list : ListRead). measure list.raws) (lists_of r kind) k (list_at [] 0) (omega arith) in
      let next : k + 1 ≡ suc k = omega arith in
      subst (λ (z : ℕ). list_total measure earlier + list_total measure (take z (lists_of r kind)) ≤ limit) next (omega (arith, within k (omega arith) so_far, more))

  -- all lists together are within it
  total_within : list_total measure earlier ≤ limit → list_total measure earlier + list_total measure (lists_of r kind) ≤ limit
  total_within before = subst (λ (z : List ListRead). list_total measure earlier + list_total measure z ≤ limit) (take_all (length (lists_of r kind)) (lists_of r kind) (omega arith)) (up_to (length (lists_of r kind)) (omega arith) before)

-- ---- both kinds

module _ (file : List ℕ) (r : Reading) (read : IsReading file r) (valid : IsValid file Narrow) where
  none_passes : (kind : ListKind) (place : ℕ) → PassesLimit r.links Narrow kind place → ⊥
  none_passes kind place passes = valid OfLists Limit (offset_named file (lists_name kind) + place) (inl (kind, (place, refl, (r.links, read.links, inl passes))))

  module _ (measure : List RawEntry → ℕ) (limit : ℕ) (none : (kind : ListKind) (place : ℕ) → PassesTotal r.links measure limit kind place → ⊥) where
    -- range lists are counted first
    ranges_within : list_total measure r.range_lists ≤ limit
    ranges_within =
        let nothing : list_total measure [] ≤ limit = omega arith in
        omega (arith, total_within r Ranges (read.lists Ranges) measure limit [] refl (none Ranges) nothing)

    -- then location lists
    both_within : list_total measure r.range_lists + list_total measure r.location_lists ≤ limit
    both_within =
        let ranges = read.lists Ranges in
        total_within r Locations (read.lists Locations) measure limit r.range_lists (record { rising = ranges.rising; each = ranges.each; all = ranges.all }) (none Locations) ranges_within

    pub kind_within : (kind : ListKind) → list_total measure (lists_of r kind) ≤ limit
    kind_within Ranges = ranges_within
    kind_within Locations = omega (arith, both_within)

  pub entries_within : (kind : ListKind) → entry_total (lists_of r kind) ≤ list_entry_limit Narrow
  entries_within kind = kind_within length (list_entry_limit Narrow) (λ of place passes. none_passes of place (inl passes)) kind

  pub expressions_within : (kind : ListKind) → list_total expression_bytes (lists_of r kind) ≤ expression_limit Narrow
  expressions_within kind = kind_within expression_bytes (expression_limit Narrow) (λ of place passes. none_passes of place (inr passes)) kind

-- the lists of a kind of a valid file have at most 2^24 entries together
pub few_entries : (world : World) (is : IsWorldOf world.image Narrow world) (kind : ListKind) → entry_total (lists_of is.r kind) ≤ 2 ^ 24
few_entries world is kind = entries_within world.image is.r is.read is.valid kind

-- and their expressions at most 2^27 bytes
pub few_expression_bytes : (world : World) (is : IsWorldOf world.image Narrow world) (kind : ListKind) → list_total expression_bytes (lists_of is.r kind) ≤ 2 ^ 27
few_expression_bytes world is kind = expressions_within world.image is.r is.read is.valid kind

-- so each has no more
pub list_few : (world : World) (is : IsWorldOf world.image Narrow world) (kind : ListKind) (k : ℕ) → k < length (lists_of is.r kind) → (raws : List RawEntry) → raws ≡ (list_at (lists_of is.r kind) k).raws → length raws ≤ 33554432
list_few world is kind k inside raws same =
    let one : length (list_at (lists_of is.r kind) k).raws ≤ entry_total (lists_of is.r kind) = get_or-le-sum_by (λ (list : ListRead). length list.raws) (lists_of is.r kind) k (list_at [] 0) inside in
    omega (arith, one, few_entries world is kind, ap length same)

pub list_expressions_few : (world : World) (is : IsWorldOf world.image Narrow world) (kind : ListKind) (k : ℕ) → k < length (lists_of is.r kind) → (raws : List RawEntry) → raws ≡ (list_at (lists_of is.r kind) k).raws → expression_bytes raws ≤ 134217728
list_expressions_few world is kind k inside raws same =
    let one : expression_bytes (list_at (lists_of is.r kind) k).raws ≤ list_total expression_bytes (lists_of is.r kind) = get_or-le-sum_by (λ (list : ListRead). expression_bytes list.raws) (lists_of is.r kind) k (list_at [] 0) inside in
    omega (arith, one, few_expression_bytes world is kind, ap expression_bytes same)

-- and so have those of both kinds
pub all_entries_few : (world : World) (is : IsWorldOf world.image Narrow world) → entry_total is.r.range_lists + entry_total is.r.location_lists ≤ 2 ^ 24
all_entries_few world is = both_within world.image is.r is.read is.valid length (list_entry_limit Narrow) (λ of place passes. none_passes world.image is.r is.read is.valid of place (inl passes))

pub all_expression_bytes_few : (world : World) (is : IsWorldOf world.image Narrow world) → list_total expression_bytes is.r.range_lists + list_total expression_bytes is.r.location_lists ≤ 2 ^ 27
all_expression_bytes_few world is = both_within world.image is.r is.read is.valid expression_bytes (expression_limit Narrow) (λ of place passes. none_passes world.image is.r is.read is.valid of place (inr passes))
