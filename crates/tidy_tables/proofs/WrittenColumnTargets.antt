-- A reference that names a place in its own unit in a written file names one in its own unit in the old file, where both refer to one target.
use Rattle.std.proofs.Common.{◌≡◌, ◌≤◌, ◌<◌, ◌∙◌, inl, inr, ℕ, true, List, length, leb, ltb, sym, subst, arith}
use Rattle.std.proofs.lemmas.Bool.{cases_order, and_parts, and_from, leb-true, ltb-true, le-leb, lt-ltb}
use Rattle.form_codec.specs.Forms.Meaning.{InSection}
use Rattle.entry_arena.specs.declared.entry.Target.{Target}
use Rattle.entry_read.specs.declared.head.UnitHead.{UnitHead}
use Rattle.entry_read.specs.Units.{entries_at, end_of}
use Rattle.entry_read.proofs.Chained.{stand_apart}
use Rattle.value_links.specs.Sections.{debug_info, debug_abbrev}
use Rattle.value_links.specs.Reading.{UnitRead, Reading, unit_at, unit_among, no_unit, AreUnitsIn}
use Rattle.value_links.specs.Linked.{Linked, IsSectionTarget}
use Rattle.value_links.specs.Resolved.{Resolved, Resolves, ResolvesLink}
use Rattle.value_links.specs.Resolved.Resolved.{Refers}
use Rattle.value_links.specs.Whole.{IsReading}
use Rattle.value_links.proofs.HeldUnits.{unit_targets}
use Rattle.value_links.proofs.Tiles.{units_chained}
use Rattle.written_files.specs.Uses.{names_inside}

-- a place that is in two units of a section shows that they are one
one_unit : (info abbrevs : List ℕ) (units : List UnitRead) → AreUnitsIn info abbrevs units → (u v m : ℕ) → u < length units → v < length units → (unit_among units u).head.at ≤ m → m < end_of (unit_among units u).head → (unit_among units v).head.at ≤ m → m < end_of (unit_among units v).head → u ≡ v
one_unit info abbrevs units are u v m u_in v_in from to also_from also_to =
    let chained = units_chained info units 0 (length info) are.tiled in
    let apart = λ (i j : ℕ) (less : i < j) (inside : j < length units). stand_apart (λ (x : UnitRead). x.head.at) (λ (x : UnitRead). x.head.len) units 0 (length info) i j no_unit chained less inside in
    elim (cases_order u v) [
      | inl same ↦ same
      | inr (inl less) ↦ absurd (omega (arith, apart u v less v_in, to, also_from))
      | inr (inr more) ↦ absurd (omega (arith, apart v u more u_in, also_to, from))
    ]

-- what a reference that counts from the section's first byte resolves to
record IsTarget (r : Reading) (n : ℕ) (value : Resolved) : Type 0 where
  unit : ℕ
  target : Target
  stands : IsSectionTarget r.links n unit target
  is : value ≡ Refers unit target

target_of : (r : Reading) (u id name n : ℕ) (value : Resolved) → Resolves r u id name (InSection n) value → IsTarget r n value
target_of r u id name n value resolves =
    let (unit, target, stands, e) = resolves.links in
    record {
      unit = unit;
      target = target;
      stands = stands;
      is = subst (λ (z : Linked). ResolvesLink r z value) e resolves.resolves;
    }

module _ (file written : List ℕ) (r s : Reading) (read : IsReading file r) (again : IsReading written s) where
  -- the unit whose place is named is that of the target
  pub target_inside : (u id name also n m : ℕ) (value : Resolved) → u < length r.links.units → u < length s.links.units → Resolves r u id name (InSection n) value → Resolves s u id also (InSection m) value → names_inside (unit_at s.links u).head (InSection m) ≡ true → names_inside (unit_at r.links u).head (InSection n) ≡ true
  target_inside u id name also n m value here there one two is =
      let old : IsTarget r n value = target_of r u id name n value one in
      let new : IsTarget s m value = target_of s u id also m value two in
      let alike : Refers old.unit old.target ≡ Refers new.unit new.target = sym old.is ∙ new.is in
      let same : old.unit ≡ new.unit = cc alike in
      let head : UnitHead = (unit_at s.links u).head in
      let parts = and_parts (leb head.at m) (ltb m (end_of head)) is in
      let from : head.at ≤ m = leb-true head.at m parts.0 in
      let to : m < end_of head = ltb-true m (end_of head) parts.1 in
      let targets = unit_targets (debug_info written) (debug_abbrev written) s.links.units again.links.units new.unit new.stands.0 in
      let target_from : entries_at (unit_at s.links new.unit).head ≤ m = targets.from new.target m new.stands.1 in
      let target_to : m < end_of (unit_at s.links new.unit).head = targets.to new.target m new.stands.1 in
      let own : u ≡ new.unit = one_unit (debug_info written) (debug_abbrev written) s.links.units again.links.units u new.unit m there new.stands.0 from to (omega (arith, target_from)) target_to in
      let unit_is : old.unit ≡ u = same ∙ sym own in
      let stands : IsSectionTarget r.links n u old.target = subst (λ (z : ℕ). IsSectionTarget r.links n z old.target) unit_is old.stands in
      let olds = unit_targets (debug_info file) (debug_abbrev file) r.links.units read.links.units u here in
      let old_from : entries_at (unit_at r.links u).head ≤ n = olds.from old.target n stands.1 in
      let old_to : n < end_of (unit_at r.links u).head = olds.to old.target n stands.1 in
      and_from (leb (unit_at r.links u).head.at n) (ltb n (end_of (unit_at r.links u).head)) (le-leb (unit_at r.links u).head.at n (omega (arith, old_from))) (lt-ltb n (end_of (unit_at r.links u).head) old_to)
