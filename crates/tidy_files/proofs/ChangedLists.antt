-- The first list that has other entries than the one with its number in the old file.
use Rattle.std.proofs.Common.{◌≡◌, ◌≤◌, ◌<◌, ◌+◌, ◌⊎◌, ◌∙◌, inl, inr, ℕ, List, [], length, get_or, sym, ap, subst, refl, arith}
use Rattle.std.specs.Prelude.{Option, Some, None, true, false}
use Rattle.std.proofs.lemmas.Bool.{cases_lt, true≢false}
use Rattle.dw_base.specs.declared.classes.Classes.{Classes}
use Rattle.dw_base.specs.declared.fault.Reach.{Reach}
use Rattle.list_model.specs.declared.entry.ListKind.{ListKind}
use Rattle.list_model.specs.declared.entry.ListKind.TheVariants.{Ranges, Locations}
use Rattle.list_model.specs.declared.entry.RawEntry.{RawEntry}
use Rattle.list_model.specs.declared.item.Meaning.TheVariants.{Dead}
use Rattle.list_model.specs.Entries.{Entry, AreSaid}
use Rattle.list_arena.specs.Held.{HeldList}
use Rattle.value_links.specs.Reading.{Reading, of_kind, part_at, lists_of, list_at}
use Rattle.value_links.specs.Sections.{debug_lists, offset_named, lists_name}
use Rattle.value_links.specs.World.{World, IsWorldOf, HoldsList, lists_held}
use Rattle.value_links.proofs.ReadingOnce.{reading_once}
use Rattle.tidy_places.specs.Firsts.{IsLeastPlace, IsLeastFound}
use Rattle.tidy_lists.proofs.OldOrder.{list_inside}
use Rattle.tidy_numbers.proofs.EarlierPlaces.{least_same, least_of_both}
use Rattle.tidy_numbers.proofs.WrittenOperands.{said_of}
use Rattle.tidy_files.specs.Tidy.{SayTheSame, IsChangedOf, IsChangedList}
use Rattle.tidy_files.proofs.FirstPlaces.{first_least}

-- A LIST THAT IS HELD

-- a list to stand for those past the end
abbrev pub no_list : HeldList
no_list = record { at = 0; part = 0; owner = None; raw = []; meaning = Dead }

module _ (world : World) (some : (reach : Reach) × IsWorldOf world.image reach world) (kind : ListKind) where
  abbrev read : Reading
  read = some.1.r

  abbrev pub held : ℕ → HeldList → HeldList
  held k d = get_or (lists_held world kind) k d

  pub held_count : length (lists_held world kind) ≡ length (lists_of read kind)
  held_count = (some.1.holds.lists kind).count

  there : (k : ℕ) (d : HeldList) → k < length (lists_of read kind) → HoldsList read.links kind (list_at (lists_of read kind) k) (held k d)
  there k d known = (some.1.holds.lists kind).each k d known

  pub raws_held : (k : ℕ) (d : HeldList) → k < length (lists_of read kind) → (held k d).raw ≡ (list_at (lists_of read kind) k).raws
  raws_held k d known = (there k d known).raws

  pub at_held : (k : ℕ) (d : HeldList) → k < length (lists_of read kind) → (held k d).at ≡ (list_at (lists_of read kind) k).at
  at_held k d known = (there k d known).at

  -- it says some entries
  pub some_said : (k : ℕ) (d : HeldList) → k < length (lists_held world kind) → (entries : List Entry) × AreSaid kind (held k d).raw entries
  some_said k d inside =
      let known : k < length (lists_of read kind) = omega (arith, inside, held_count) in
      let own = list_at (lists_of read kind) k in
      let (entries, said) = said_of kind (of_kind read.links kind).section (part_at (of_kind read.links kind) own.part) own.at own.raws ((some.1.read.lists kind).each k known).read in
      (entries, subst (λ (z : List RawEntry). AreSaid kind z entries) (sym (raws_held k d known)) said)

  -- and begins in its section
  pub begins_inside : (k : ℕ) (d : HeldList) → k < length (lists_held world kind) → (held k d).at ≤ length (debug_lists world.image kind)
  begins_inside k d inside =
      let known : k < length (lists_of read kind) = omega (arith, inside, held_count) in
      let at : (held k d).at ≡ (list_at (lists_of read kind) k).at = at_held k d known in
      let within : (list_at (lists_of read kind) k).at < length (of_kind read.links kind).section = list_inside world.image read some.1.read kind k known in
      let size : length (of_kind read.links kind).section ≡ length (debug_lists world.image kind) = ap (λ (z : List ℕ). length z) (some.1.holds.sections kind) in
      omega arith

-- LISTS OF BOTH FILES

module _ (before after : World) (some : (reach : Reach) × IsWorldOf before.image reach before) (again : (reach : Reach) × IsWorldOf after.image reach after) (kind : ListKind) where
  abbrev r : Reading
  r = some.1.r

  abbrev s : Reading
  s = again.1.r

  abbrev offset : ℕ
  offset = offset_named after.image (lists_name kind)

  abbrev count : ℕ
  count = length (lists_of s kind)

  abbrev place_of : ℕ → ℕ
  place_of k = (list_at (lists_of s kind) k).at

  abbrev IsAmiss : ℕ → Type 0
  IsAmiss k = (k < length (lists_of r kind)) × ¬ SayTheSame kind (list_at (lists_of r kind) k).raws (list_at (lists_of s kind) k).raws

  to : (k : ℕ) → k < count → IsAmiss k → IsChangedOf before.image after.image kind (offset + place_of k)
  to k inside (known, changed) =
      record { r = r; s = s; read = some.1.read; again = again.1.read; k = k; known = known; inside = inside; changed = changed; place = refl }

  from : (p : ℕ) → IsChangedOf before.image after.image kind p → (k : ℕ) × (k < count) × IsAmiss k × (p ≡ offset + place_of k)
  from p x =
      let first : x.r ≡ r = reading_once before.image x.r r x.read some.1.read in
      let second : x.s ≡ s = reading_once after.image x.s s x.again again.1.read in
      let old : (k : ℕ) × (k < length (lists_of x.s kind)) × ((k < length (lists_of r kind)) × ¬ SayTheSame kind (list_at (lists_of r kind) k).raws (list_at (lists_of x.s kind) k).raws) × (p ≡ offset + (list_at (lists_of x.s kind) k).at) =
      subst (λ (z : Reading). (k : ℕ) × (k < length (lists_of x.s kind)) × ((k < length (lists_of z kind)) × ¬ SayTheSame kind (list_at (lists_of z kind) k).raws (list_at (lists_of x.s kind) k).raws) × (p ≡ offset + (list_at (lists_of x.s kind) k).at))
      first (x.k, x.inside, (x.known, x.changed), x.place) in
      subst (λ (z : Reading). (k : ℕ) × (k < length (lists_of z kind)) × ((k < length (lists_of r kind)) × ¬ SayTheSame kind (list_at (lists_of r kind) k).raws (list_at (lists_of z kind) k).raws) × (p ≡ offset + (list_at (lists_of z kind) k).at))
      second old

  rising : (i j : ℕ) → i < j → j < count → place_of i ≤ place_of j
  rising i j less inside = let more : place_of i < place_of j = (again.1.read.lists kind).rising i j less inside in omega arith

  -- the lists with a number, as they are held, say the same
  abbrev pub SayAlike : ℕ → HeldList → Type 0
  SayAlike k d = SayTheSame kind (held before some kind k d).raw (held after again kind k d).raw

  not_amiss : (k : ℕ) (d : HeldList) → k < count → SayAlike k d → IsAmiss k → ⊥
  not_amiss k d inside same (known, changed) =
      changed (subst (λ (z : List RawEntry). SayTheSame kind z (list_at (lists_of s kind) k).raws) (raws_held before some kind k d known) (subst (λ (z : List RawEntry). SayTheSame kind (held before some kind k d).raw z) (raws_held after again kind k d inside) same))

  amiss : (k : ℕ) (d : HeldList) → (known : k < length (lists_of r kind)) → (inside : k < count) → ¬ SayAlike k d → IsAmiss k
  amiss k d known inside other = (
    known,
    λ same. other (subst (λ (z : List RawEntry). SayTheSame kind z (held after again kind k d).raw) (sym (raws_held before some kind k d known)) (subst (λ (z : List RawEntry). SayTheSame kind (list_at (lists_of r kind) k).raws z) (sym (raws_held after again kind k d inside)) same)),
  )

  -- where those up to a number do, and so many there are in one of the files, no list has changed
  pub none_changed : (n : ℕ) → (length (lists_held before kind) ≤ n) ⊎ (length (lists_held after kind) ≤ n) → ((k : ℕ) (d : HeldList) → k < n → SayAlike k d) → (p : ℕ) → IsChangedOf before.image after.image kind p → ⊥
  none_changed n all same p x =
      let (k, inside, bad, place) = from p x in
      let less : k < n = elim all [
        | inl few ↦ omega (arith, few, bad.0, held_count before some kind)
        | inr few ↦ omega (arith, few, inside, held_count after again kind)
      ] in
      not_amiss k no_list inside (same k no_list less) bad

  -- one more does
  pub say_next : (k : ℕ) → ((j : ℕ) (d : HeldList) → j < k → SayAlike j d) → ((d : HeldList) → SayAlike k d) → (j : ℕ) (d : HeldList) → j < k + 1 → SayAlike j d
  say_next k earlier same j d less = elim (cases_lt j k) [
    | inl before_it ↦ earlier j d before_it
    | inr late ↦ (let here : k ≡ j = omega (arith, less, late) in subst (λ (i : ℕ). SayAlike i d) here (same d))
  ]

  -- and the first that doesn't stands at the least place
  pub changed_first : (k : ℕ) → k < length (lists_held before kind) → k < length (lists_held after kind) → ((j : ℕ) (d : HeldList) → j < k → SayAlike j d) → ¬ SayAlike k no_list → (p : ℕ) → p ≡ offset + (held after again kind k no_list).at → IsLeastPlace (IsChangedOf before.image after.image kind) p
  changed_first k in_old in_new earlier other p place =
      let known : k < length (lists_of r kind) = omega (arith, in_old, held_count before some kind) in
      let inside : k < count = omega (arith, in_new, held_count after again kind) in
      let here : p ≡ offset + place_of k = place ∙ ap (λ (n : ℕ). offset + n) (at_held after again kind k no_list inside) in
      first_least offset count place_of IsAmiss (IsChangedOf before.image after.image kind) to from rising k inside (amiss k no_list known inside other)
      (λ j less. not_amiss j no_list (omega (arith, less, inside)) (earlier j no_list less)) p here

  -- what two lists say that were lent for those that are held
  module _ (old new : List HeldList) (first : old ≡ lists_held before kind) (second : new ≡ lists_held after kind) (k : ℕ) (d : HeldList) where
    pub held_alike : SayTheSame kind (get_or old k d).raw (get_or new k d).raw → SayAlike k d
    held_alike same = subst (λ (z : List HeldList). SayTheSame kind (held before some kind k d).raw (get_or z k d).raw) second (subst (λ (z : List HeldList). SayTheSame kind (get_or z k d).raw (get_or new k d).raw) first same)

    pub lent_alike : SayAlike k d → SayTheSame kind (get_or old k d).raw (get_or new k d).raw
    lent_alike same = subst (λ (z : List HeldList). SayTheSame kind (get_or z k d).raw (get_or new k d).raw) (sym first) (subst (λ (z : List HeldList). SayTheSame kind (held before some kind k d).raw (get_or z k d).raw) (sym second) same)

-- LISTS OF BOTH KINDS

-- the first of both kinds
pub changed_found : (file written : List ℕ) (ranges locations found : Option ℕ) → IsLeastFound (IsChangedOf file written Ranges) ranges → IsLeastFound (IsChangedOf file written Locations) locations → IsLeastFound (λ p. (ranges ≡ Some p) ⊎ (locations ≡ Some p)) found → IsLeastFound (IsChangedList file written) found
changed_found file written ranges locations found first second least =
    least_same (λ p. IsChangedOf file written Ranges p ⊎ IsChangedOf file written Locations p) (IsChangedList file written) up down found
    (least_of_both (IsChangedOf file written Ranges) (IsChangedOf file written Locations) ranges locations found first second least)
  where
    up : (p : ℕ) → IsChangedOf file written Ranges p ⊎ IsChangedOf file written Locations p → IsChangedList file written p
    up p (inl changed) = (Ranges, changed)
    up p (inr changed) = (Locations, changed)

    either : (kind : ListKind) (p : ℕ) → IsChangedOf file written kind p → IsChangedOf file written Ranges p ⊎ IsChangedOf file written Locations p
    either Ranges p changed = inl changed
    either Locations p changed = inr changed

    down : (p : ℕ) → IsChangedList file written p → IsChangedOf file written Ranges p ⊎ IsChangedOf file written Locations p
    down p (kind, changed) = either kind p changed

-- which counts only where the entries of lists are kept
pub kept_found : (classes : Classes) (file written : List ℕ) (found : Option ℕ) → classes.lists ≡ false → IsLeastFound (IsChangedList file written) found → IsLeastFound (λ p. (classes.lists ≡ false) × IsChangedList file written p) found
kept_found classes file written found kept = least_same (IsChangedList file written) (λ p. (classes.lists ≡ false) × IsChangedList file written p) (λ p changed. (kept, changed)) (λ p (also, changed). changed) found

pub none_kept : (classes : Classes) (file written : List ℕ) → classes.lists ≡ true → (p : ℕ) → (classes.lists ≡ false) × IsChangedList file written p → ⊥
none_kept classes file written searched p (kept, changed) = true≢false (sym searched ∙ kept)
