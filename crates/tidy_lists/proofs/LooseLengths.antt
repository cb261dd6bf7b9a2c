-- A list has one length as it stands, and so has a run of view pairs.
use Rattle.std.proofs.Common.{◌≡◌, ◌<◌, ◌++◌, ◌∙◌, ℕ, List, [], length, get_or, sym, ap, subst}
use Rattle.std.proofs.lemmas.List.{get_or-map, length-map}
use Rattle.spelled.specs.Spelled.{HasUniqueFronts}
use Rattle.spelled.proofs.Joins.{then_once, joined_front}
use Rattle.leb_codec.specs.Leb.{Uleb}
use Rattle.list_model.specs.declared.entry.ListKind.{ListKind}
use Rattle.list_model.specs.declared.entry.ListKind.TheVariants.{Ranges, Locations}
use Rattle.range_lists.specs.Laws.{RangesEnd}
use Rattle.loc_lists.specs.declared.views.ViewPair.{ViewPair}
use Rattle.loc_lists.specs.Laws.{LocationsEnd}
use Rattle.loc_lists.specs.Views.{SpellsPair}
use Rattle.list_model.specs.Contributions.{bytes_from}
use Rattle.value_links.specs.Reading.{ListRead, ViewRead, Reading, lists_of, part_at, list_at, view_at}
use Rattle.list_arena.specs.Held.{HeldList, HeldViews}
use Rattle.value_links.specs.World.{World, Holds, lists_held}
use Rattle.value_links.specs.Whole.{IsReading}
use Rattle.tidy_lists.specs.Followers.{HasLength, IsPartOfRun, RunHasLength}
use Rattle.tidy_lists.specs.inside.LooseBytes.{IsByteOf, AddsBytes, SomeBytes, section_end, HasListByteAt, HasRunByteAt, HasRunByteIn}
use Rattle.tidy_lists.proofs.HeldNumbers.{list_once}
use Rattle.tidy_lists.proofs.LooseSpans.{bytes_same}

-- LISTS

length_once : RangesEnd → LocationsEnd → (kind : ListKind) (s : Reading) (list : ListRead) (len other : ℕ) → HasLength kind s list len → HasLength kind s list other → len ≡ other
length_once ranges locations Ranges s list len other p q =
    let (entries, said, spelled) = p.read in
    let (others, told, again) = q.read in
    p.count ∙ ap length (ranges entries others p.bytes q.bytes p.rest q.rest spelled again (sym p.stands ∙ q.stands)).0 ∙ sym q.count
length_once ranges locations Locations s list len other p q =
    let (entries, said, spelled) = p.read in
    let (others, told, again) = q.read in
    p.count ∙ ap length (locations entries others p.bytes q.bytes p.rest q.rest spelled again (sym p.stands ∙ q.stands)).0 ∙ sym q.count

module _ (kind : ListKind) (s : Reading) (m : ℕ) (inside : m < length (lists_of s kind)) where
  -- the span of a list has the bytes of the list
  pub list_added : RangesEnd → LocationsEnd → (at len : ℕ) (before after : List (ℕ × ℕ)) → at ≡ (list_at (lists_of s kind) m).at → HasLength kind s (list_at (lists_of s kind) m) len → AddsBytes (section_end kind s) (IsByteOf at len) before after → AddsBytes (section_end kind s) (HasListByteAt kind s m) before after
  list_added ranges locations at len before after here long = bytes_same (section_end kind s) (IsByteOf at len) (HasListByteAt kind s m) before after (λ x. (
    λ byte. (len, inside, long, subst (λ (z : ℕ). IsByteOf z len x) here byte),
    λ (other, known, also, byte). (
        let same : other ≡ len = length_once ranges locations kind s (list_at (lists_of s kind) m) other len also long in
        subst (λ (z : ℕ). IsByteOf z len x) (sym here) (subst (λ (z : ℕ). IsByteOf (list_at (lists_of s kind) m).at z x) same byte)),
  ))

-- a list that is held begins where the one that was read does
pub list_held_at : (world : World) (s : Reading) → Holds world.image world s → (kind : ListKind) (m : ℕ) (d : HeldList) → m < length (lists_held world kind) → (m < length (lists_of s kind)) × ((get_or (lists_held world kind) m d).at ≡ (list_at (lists_of s kind) m).at)
list_held_at world s holds kind m d inside =
    let known : m < length (lists_of s kind) = subst (λ (n : ℕ). m < n) (holds.lists kind).count inside in
    (known, ((holds.lists kind).each m d known).at)

-- RUNS OF VIEW PAIRS

same_pair : (v w : ViewPair) → v.first ≡ w.first → v.last ≡ w.last → v ≡ w
same_pair v w first last = ap (λ (z : ℕ). record { first = z; last = v.last }) first ∙ ap (λ (z : ℕ). record { first = w.first; last = z }) last

pairs_end : HasUniqueFronts Uleb → HasUniqueFronts SpellsPair
pairs_end numbers v w a b x y p q e =
    let one = then_once Uleb (λ _. Uleb) numbers (λ _. numbers) (v.first, v.last) (w.first, w.last) a b x y p q e in
    (one.0, same_pair v w (ap (λ (z : ℕ × ℕ). z.0) one.1) (ap (λ (z : ℕ × ℕ). z.1) one.1))

module _ (file : List ℕ) (s : Reading) (read : IsReading file s) where
  -- a run stands in one contribution
  part_once : (run : ViewRead) (p q : ℕ) → IsPartOfRun s run p → IsPartOfRun s run q → p ≡ q
  part_once run p q one two =
      let same : one.k ≡ two.k = list_once file s read Locations run.list one.k two.k (one.inside, one.list) (two.inside, two.list) in
      sym one.part ∙ ap (λ (z : ℕ). (list_at s.location_lists z).part) same ∙ two.part

  run_length_once : HasUniqueFronts Uleb → (run : ViewRead) (len other : ℕ) → RunHasLength s run len → RunHasLength s run other → len ≡ other
  run_length_once numbers run len other one two =
      let same : one.p ≡ two.p = part_once run one.p two.p one.part two.part in
      let moved : bytes_from s.links.locations.section (part_at s.links.locations two.p) run.at ≡ one.bytes ++ one.rest = subst (λ (z : ℕ). bytes_from s.links.locations.section (part_at s.links.locations z) run.at ≡ one.bytes ++ one.rest) same one.stands in
      one.count ∙ ap length (joined_front SpellsPair (pairs_end numbers) run.pairs one.bytes two.bytes one.rest two.rest one.read two.read (sym moved ∙ two.stands)) ∙ sym two.count

  -- the span of a run has the bytes of the run
  pub run_added : HasUniqueFronts Uleb → (n : ℕ) → n < length s.views → (at len : ℕ) (before after : List (ℕ × ℕ)) → at ≡ (view_at s.views n).at → RunHasLength s (view_at s.views n) len → AddsBytes (section_end Locations s) (IsByteOf at len) before after → AddsBytes (section_end Locations s) (HasRunByteAt s n) before after
  run_added numbers n inside at len before after here long = bytes_same (section_end Locations s) (IsByteOf at len) (HasRunByteAt s n) before after (λ x. (
    λ byte. (len, inside, long, subst (λ (z : ℕ). IsByteOf z len x) here byte),
    λ (other, known, also, byte). (
        let same : other ≡ len = run_length_once numbers (view_at s.views n) other len also long in
        subst (λ (z : ℕ). IsByteOf z len x) (sym here) (subst (λ (z : ℕ). IsByteOf (view_at s.views n).at z x) same byte)),
  ))

abbrev read_of : HeldViews → ViewRead
read_of run = record { list = run.list; at = run.at; pairs = run.pairs }

-- as many runs are held as were read
pub runs_counted : (world : World) (s : Reading) → Holds world.image world s → length world.views ≡ length s.views
runs_counted world s holds = sym (ap length holds.views ∙ length-map world.views read_of)

-- a run that is held stands where the one that was read does
pub run_held_at : (world : World) (s : Reading) → Holds world.image world s → (n : ℕ) (d : HeldViews) → n < length world.views → (n < length s.views) × ((get_or world.views n d).at ≡ (view_at s.views n).at)
run_held_at world s holds n d inside =
    let same : view_at s.views n ≡ read_of (get_or world.views n d) = ap (λ (z : List ViewRead). view_at z n) holds.views ∙ get_or-map read_of world.views n d (record { list = 0; at = 0; pairs = [] }) inside in
    (subst (λ (z : ℕ). n < z) (runs_counted world s holds) inside, sym (ap (λ (z : ViewRead). z.at) same))

-- what runs have is what stands among location lists besides them
pub runs_among : (kind : ListKind) → kind ≡ Locations → (s : Reading) (before after : List (ℕ × ℕ)) → AddsBytes (section_end Locations s) (SomeBytes (HasRunByteAt s)) before after → AddsBytes (section_end kind s) (HasRunByteIn kind s) before after
runs_among kind is s before after adds =
    bytes_same (section_end kind s) (SomeBytes (HasRunByteAt s)) (HasRunByteIn kind s) before after (λ x. (λ has. (is, has), λ (also, has). has)) (subst (λ (z : ListKind). AddsBytes (section_end z s) (SomeBytes (HasRunByteAt s)) before after) (sym is) adds)
