-- What contributions of lists mean, one by one.
use Rattle.std.proofs.Common.{◌≡◌, ◌≤◌, ◌<◌, ◌+◌, ◌∙◌, inl, inr, ℕ, Bool, true, false, Result, Ok, Err, List, [], length, get_or, set, sym, ap, subst, refl, arith}
use Rattle.std.specs.Prelude.{Some, ◌↔◌, IsTrue, IfOk}
use Rattle.std.proofs.lemmas.Bool.{cases_lt, cases_eq}
use Rattle.std.proofs.lemmas.Option.{same_Some, none-some, slice_get-get_or, slice_get_past}
use Rattle.std.proofs.lemmas.List.{length-set, get_or-set_same, get_or-set_other}
use Rattle.dw_base.specs.declared.fault.Reach.{Reach}
use Rattle.list_model.specs.declared.contribution.Contribution.{Contribution}
use Rattle.list_model.specs.declared.entry.ListKind.{ListKind}
use Rattle.list_model.specs.declared.entry.ListKind.TheVariants.{Ranges, Locations}
use Rattle.list_arena.specs.Held.{HeldList}
use Rattle.value_links.specs.Reading.{ListSection, Reading, of_kind, lists_of, part_at, list_at}
use Rattle.value_links.specs.ListPlaces.{IsSlot, SlotNames}
use Rattle.value_links.specs.Resolved.{ListMeaning, MeansList}
use Rattle.value_links.specs.Resolved.Content.{Items}
use Rattle.value_links.specs.Whole.{IsReading}
use Rattle.value_links.specs.World.{World, contribution_at, lists_held, Holds, IsWorldOf}
use Rattle.value_links.specs.Debug.{Debug, PartMeaning, MeansSlot, MeansPart, MeanParts, parts_of, MeansDebug, Means}
use Rattle.value_links.specs.Laws.{OneReading, OneDebug}
use Rattle.same_meaning.specs.Differences.{DifferAt}
use Rattle.same_meaning.specs.inside.Compared.{OfBoth, MeanOne, HasListAt}
use Rattle.same_meaning.proofs.ListItems.{answers_no, answers_yes}
use Rattle.same_meaning.proofs.Pairs.{element, choose}

-- ---- slots

-- a slot tells one place
told_once : (section : ListSection) (p i a b : ℕ) → IsSlot section p i a → IsSlot section p i b → a ≡ b
told_once section p i a b first second = first.tells ∙ sym second.tells

module _ (file : List ℕ) (r : Reading) (read : IsReading file r) (kind : ListKind) (p i at : ℕ) (slot : IsSlot (of_kind r.links kind) p i at) where
  -- and names the list there
  pub slot_names : SlotNames (of_kind r.links kind) p i at
  slot_names =
      let (there, named) = (read.lists kind).slots p i slot.known slot.counted in
      subst (λ (z : ℕ). SlotNames (of_kind r.links kind) p i z) (told_once (of_kind r.links kind) p i there at named.0 slot) named

  -- which is read
  list_there : (k : ℕ) × (k < length (lists_of r kind)) × ((list_at (lists_of r kind) k).at ≡ at)
  list_there = (read.lists kind).all at (inr (p, i, slot_names))

  pub slot_held : (world : World) → Holds file world r → HasListAt world kind at
  slot_held world holds =
      let (k, inside, here) = list_there in
      let count : length (lists_held world kind) ≡ length (lists_of r kind) = (holds.lists kind).count in
      let (list, among, is) = element (lists_held world kind) k (omega (arith, inside, count)) in
      let place : (get_or (lists_held world kind) k list).at ≡ (list_at (lists_of r kind) k).at = ((holds.lists kind).each k list inside).at in
      (list, among, ap (λ (z : HeldList). z.at) (sym (is list)) ∙ place ∙ here)

  -- so it means what that means
  pub slot_list : (meaning : ListMeaning) → MeansSlot r kind p i meaning → MeansList r kind at meaning
  slot_list meaning (there, named, means) = subst (λ (z : ℕ). MeansList r kind z meaning) (told_once (of_kind r.links kind) p i there at named.0 slot) means

  pub list_slot : (meaning : ListMeaning) → MeansList r kind at meaning → MeansSlot r kind p i meaning
  list_slot meaning means = (at, slot_names, means)

-- slots of two files mean the same exactly where the lists do that they name
module _ (file other : List ℕ) (r s : Reading) (read : IsReading file r) (again : IsReading other s) (kind : ListKind) (p i a b : ℕ) (first : IsSlot (of_kind r.links kind) p i a) (second : IsSlot (of_kind s.links kind) p i b) where
  pub slots_same : MeanOne (MeansList r kind a) (MeansList s kind b) → MeanOne (MeansSlot r kind p i) (MeansSlot s kind p i)
  slots_same (meaning, here, there) = (meaning, list_slot file r read kind p i a first meaning here, list_slot other s again kind p i b second meaning there)

  pub lists_same : MeanOne (MeansSlot r kind p i) (MeansSlot s kind p i) → MeanOne (MeansList r kind a) (MeansList s kind b)
  lists_same (meaning, here, there) = (meaning, slot_list file r read kind p i a first meaning here, slot_list other s again kind p i b second meaning there)

-- ---- contributions

no_meaning : ListMeaning
no_meaning = record { kind = Ranges; content = Items []; expressions = [] }

abbrev pub SameSlots : Reading → Reading → ListKind → ℕ → ℕ → Type 0
SameSlots r s kind p n = (i : ℕ) → i < n → MeanOne (MeansSlot r kind p i) (MeansSlot s kind p i)

abbrev pub SameParts : Reading → Reading → ListKind → ℕ → Type 0
SameParts r s kind p = MeanOne (MeansPart r kind p) (MeansPart s kind p)

abbrev slots_at : Reading → ListKind → ℕ → ℕ
slots_at r kind p = (part_at (of_kind r.links kind) p).slots

module _ (r s : Reading) (kind : ListKind) (p : ℕ) where
  pub part_same : slots_at s kind p ≡ slots_at r kind p → SameSlots r s kind p (slots_at r kind p) → SameParts r s kind p
  part_same count each =
      let (slots, long, are) = choose (λ (i : ℕ) (m : ListMeaning). MeansSlot r kind p i m × MeansSlot s kind p i m) (slots_at r kind p) (λ i inside. (let (meaning, first, second) = each i inside in (meaning, (first, second)))) in (
        record { slots = slots },
        record { count = long; each = λ i d inside. (are i d (omega (arith, inside, long))).0 },
        record { count = long ∙ sym count; each = λ i d inside. (are i d (omega (arith, inside, long))).1 },
      )

  pub counts_same : SameParts r s kind p → slots_at s kind p ≡ slots_at r kind p
  counts_same (part, first, second) = sym second.count ∙ first.count

  pub slot_same : SameParts r s kind p → (i : ℕ) → i < slots_at r kind p → MeanOne (MeansSlot r kind p i) (MeansSlot s kind p i)
  slot_same (part, first, second) i inside =
      let known : i < length part.slots = (let count = first.count in omega (arith, inside, count)) in
      (get_or part.slots i no_meaning, first.each i no_meaning known, second.each i no_meaning known)

-- ---- tests of both files

abbrev pub TestsSlots : World → World → ListKind → ℕ → ℕ → Bool → Type 0
TestsSlots a b kind p i same = OfBoth a b (λ r s. IsTrue same ↔ MeanOne (MeansSlot r kind p i) (MeansSlot s kind p i))

module _ (a b : World) (kind : ListKind) (p : ℕ) where
  -- a slot is compared by its list
  pub slots_decide : {E : Type 0} → (i first second : ℕ) → ((r : Reading) → Holds a.image a r → IsSlot (of_kind r.links kind) p i first) → ((s : Reading) → Holds b.image b s → IsSlot (of_kind s.links kind) p i second) → (answer : Result Bool E) → IfOk answer (λ same. OfBoth a b (λ r s. IsTrue same ↔ MeanOne (MeansList r kind first) (MeansList s kind second))) → IfOk answer (TestsSlots a b kind p i)
  slots_decide i first second one two (Ok same) test = λ r s read holds again held.
      let both = test r s read holds again held in (
        λ passes. slots_same a.image b.image r s read again kind p i first second (one r holds) (two s held) (both.0 passes),
        λ slots. both.1 (lists_same a.image b.image r s read again kind p i first second (one r holds) (two s held) slots),
      )
  slots_decide i first second one two (Err e) test = tt

  abbrev old_slots : ℕ
  old_slots = (contribution_at a kind p).slots

  old_count : (r : Reading) → Holds a.image a r → old_slots ≡ slots_at r kind p
  old_count r holds = ap (λ (z : List Contribution). (get_or z p (record { at = 0; len = 0; slots = 0 })).slots) (holds.contributions kind)

  new_count : (s : Reading) → Holds b.image b s → (contribution_at b kind p).slots ≡ slots_at s kind p
  new_count s holds = ap (λ (z : List Contribution). (get_or z p (record { at = 0; len = 0; slots = 0 })).slots) (holds.contributions kind)

  -- contributions differ where a slot of them does
  pub slot_differs : (i : ℕ) → i < old_slots → (same : Bool) → same ≡ false → TestsSlots a b kind p i same → OfBoth a b (λ r s. IsTrue false ↔ SameParts r s kind p)
  slot_differs i inside same fails test = λ r s read holds again held. answers_no (λ parts.
      let passes : same ≡ true = (test r s read holds again held).1 (slot_same r s kind p parts i (omega (arith, inside, old_count r holds))) in
      cc)

  pub slots_more : (n : ℕ) → OfBoth a b (λ r s. SameSlots r s kind p n) → (same : Bool) → same ≡ true → TestsSlots a b kind p n same → OfBoth a b (λ r s. SameSlots r s kind p (n + 1))
  slots_more n before same passes test = λ r s read holds again held i inside. elim (cases_lt i n) [
    | inl less ↦ before r s read holds again held i less
    | inr past ↦ (let here : n ≡ i = omega (arith, inside, past) in subst (λ (z : ℕ). MeanOne (MeansSlot r kind p z) (MeansSlot s kind p z)) here ((test r s read holds again held).0 passes))
  ]

  -- and don't where none does
  pub slots_agree : (n : ℕ) → old_slots ≤ n → (contribution_at b kind p).slots ≡ old_slots → OfBoth a b (λ r s. SameSlots r s kind p n) → OfBoth a b (λ r s. IsTrue true ↔ SameParts r s kind p)
  slots_agree n past count all = λ r s read holds again held.
      answers_yes (part_same r s kind p (sym (new_count s held) ∙ count ∙ old_count r holds) (λ i inside. all r s read holds again held i (omega (arith, inside, past, old_count r holds))))

-- ---- all contributions of a file

abbrev no_part : PartMeaning
no_part = record { slots = [] }

abbrev with_parts : Debug → ListKind → List PartMeaning → Debug
with_parts d Ranges parts = record { programs = d.programs; units = d.units; ranges = parts; locations = d.locations; aranges = d.aranges }
with_parts d Locations parts = record { programs = d.programs; units = d.units; ranges = d.ranges; locations = parts; aranges = d.aranges }

parts_with : (d : Debug) (kind : ListKind) (parts : List PartMeaning) → parts_of (with_parts d kind parts) kind ≡ parts
parts_with d Ranges parts = refl
parts_with d Locations parts = refl

module _ (file : List ℕ) (r : Reading) (d : Debug) (means : MeansDebug file r d) where
  lists_with : (kind : ListKind) (parts : List PartMeaning) → MeanParts r kind parts → (of : ListKind) → MeanParts r of (parts_of (with_parts d kind parts) of)
  lists_with Ranges parts are Ranges = are
  lists_with Ranges parts are Locations = means.lists Locations
  lists_with Locations parts are Ranges = means.lists Ranges
  lists_with Locations parts are Locations = are

  means_with : (kind : ListKind) (parts : List PartMeaning) → MeanParts r kind parts → MeansDebug file r (with_parts d kind parts)
  means_with Ranges parts are = record { programs = means.programs; units = means.units; lists = lists_with Ranges parts are; aranges = means.aranges }
  means_with Locations parts are = record { programs = means.programs; units = means.units; lists = lists_with Locations parts are; aranges = means.aranges }

  -- contributions mean one thing
  module _ (law : OneDebug) (read : IsReading file r) (kind : ListKind) where
    parts_once : (parts : List PartMeaning) → MeanParts r kind parts → parts ≡ parts_of d kind
    parts_once parts are =
        sym (parts_with d kind parts)
        ∙ ap (λ (z : Debug). parts_of z kind) (law file (with_parts d kind parts) d (r, read, means_with kind parts are) (r, read, means))

    part_put : (p : ℕ) (part : PartMeaning) → MeansPart r kind p part → p < length (parts_of d kind) → MeanParts r kind (set (parts_of d kind) p part)
    part_put p part is inside =
        let all = means.lists kind in
        let size : length (set (parts_of d kind) p part) ≡ length (parts_of d kind) = length-set (parts_of d kind) p part in
        record {
          count = size ∙ all.count;
          each = λ q e known. elim (cases_eq q p) [
            | inl same ↦
                subst (λ (z : ℕ). MeansPart r kind z (get_or (set (parts_of d kind) p part) z e)) (sym same)
                (subst (λ (z : PartMeaning). MeansPart r kind p z) (sym (get_or-set_same (parts_of d kind) p part e inside)) is)
            | inr other ↦
                subst (λ (z : PartMeaning). MeansPart r kind q z) (sym (get_or-set_other (parts_of d kind) p q part e other)) (all.each q e (omega (arith, known, size)))
          ];
        }

    pub part_once : (p : ℕ) (part : PartMeaning) → MeansPart r kind p part → p < length (parts_of d kind) → get_or (parts_of d kind) p no_part ≡ part
    part_once p part is inside =
        sym (ap (λ (z : List PartMeaning). get_or z p no_part) (parts_once (set (parts_of d kind) p part) (part_put p part is inside)))
        ∙ get_or-set_same (parts_of d kind) p part no_part inside

-- what a file means is what was read of it
pub means_as : OneReading → (world : World) (reach : Reach) (is : IsWorldOf world.image reach world) (d : Debug) → Means world.image d → MeansDebug world.image is.r d
means_as law world reach is d (r, read, means) = subst (λ (z : Reading). MeansDebug world.image z d) (law world.image r is.r read is.read) means

-- ---- the contributions of two files

module _ (law : OneDebug) (file other : List ℕ) (r s : Reading) (read : IsReading file r) (again : IsReading other s) (c d : Debug) (old : MeansDebug file r c) (new : MeansDebug other s d) (kind : ListKind) (p : ℕ) where
  -- they differ where one has no such contribution
  pub missing_first : length (parts_of c kind) ≡ p → p < length (parts_of d kind) → DifferAt (parts_of c kind) (parts_of d kind) p
  missing_first end inside same =
      none-some (get_or (parts_of d kind) p no_part) (sym (slice_get_past (parts_of c kind) p (omega (arith, end))) ∙ sym same ∙ slice_get-get_or (parts_of d kind) p no_part inside)

  pub missing_second : length (parts_of d kind) ≡ p → p < length (parts_of c kind) → DifferAt (parts_of c kind) (parts_of d kind) p
  missing_second end inside same =
      none-some (get_or (parts_of c kind) p no_part) (sym (slice_get_past (parts_of d kind) p (omega (arith, end))) ∙ same ∙ slice_get-get_or (parts_of c kind) p no_part inside)

  module _ (inside : p < length (parts_of c kind)) (known : p < length (parts_of d kind)) where
    -- or where the contributions don't mean the same
    pub part_differs : (SameParts r s kind p → ⊥) → DifferAt (parts_of c kind) (parts_of d kind) p
    part_differs differ same =
        let one : get_or (parts_of d kind) p no_part ≡ get_or (parts_of c kind) p no_part = same_Some (get_or (parts_of d kind) p no_part) (get_or (parts_of c kind) p no_part) (sym (slice_get-get_or (parts_of d kind) p no_part known) ∙ same ∙ slice_get-get_or (parts_of c kind) p no_part inside) in
        let count = (old.lists kind).count in
        let counted = (new.lists kind).count in
        let first : MeansPart r kind p (get_or (parts_of c kind) p no_part) = (old.lists kind).each p no_part inside in
        let second : MeansPart s kind p (get_or (parts_of d kind) p no_part) = (new.lists kind).each p no_part known in
        differ (get_or (parts_of c kind) p no_part, first, subst (λ (z : PartMeaning). MeansPart s kind p z) one second)

    -- and nowhere else
    pub part_agrees : SameParts r s kind p → DifferAt (parts_of c kind) (parts_of d kind) p → ⊥
    part_agrees (part, first, second) differ =
        let one : get_or (parts_of c kind) p no_part ≡ part = part_once file r c old law read kind p part first inside in
        let two : get_or (parts_of d kind) p no_part ≡ part = part_once other s d new law again kind p part second known in
        differ (slice_get-get_or (parts_of d kind) p no_part known ∙ ap (λ (z : PartMeaning). Some z) (two ∙ sym one) ∙ sym (slice_get-get_or (parts_of c kind) p no_part inside))

  pub past_agrees : length (parts_of d kind) ≡ length (parts_of c kind) → length (parts_of c kind) ≤ p → DifferAt (parts_of c kind) (parts_of d kind) p → ⊥
  past_agrees count past differ =
      differ (slice_get_past (parts_of d kind) p (omega (arith, count, past)) ∙ sym (slice_get_past (parts_of c kind) p past))
