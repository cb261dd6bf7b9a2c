-- The parts of a file, from what World holds of it.
use Rattle.std.proofs.Common.{◌≡◌, ◌≤◌, ◌<◌, ◌+◌, ◌^◌, ◌∙◌, inl, inr, ℕ, List, [], ◌∷◌, ◌++◌, length, get_or, map, Bool, true, false, true≢false, sym, ap, subst, refl, arith}
use Rattle.std.specs.Prelude.{Option, None, ◌↔◌, IsTrue, if◌then◌else◌}
use Rattle.std.specs.List.{All}
use Rattle.std.proofs.lemmas.List.{append_assoc, append-nil, map-append, map_push, length-map, get_or-map}
use Rattle.std.proofs.lemmas.List.Elements.{All-append, All-map, All-same, All-weaker}
use Rattle.dw_base.specs.declared.classes.Classes.{Classes}
use Rattle.dw_base.specs.declared.fault.Reach.{Reach}
use Rattle.list_model.specs.declared.entry.ListKind.{ListKind}
use Rattle.list_model.specs.declared.entry.ListKind.TheVariants.{Ranges, Locations}
use Rattle.list_model.specs.declared.item.Item.{Item}
use Rattle.list_model.specs.declared.item.Meaning.{Meaning}
use Rattle.list_model.specs.declared.item.Meaning.TheVariants.{Live, Dead}
use Rattle.line_machine.specs.declared.head.Head.{Head}
use Rattle.list_arena.specs.Held.{HeldList}
use Rattle.written_files.specs.Layouts.{AreNumbersOf}
use Rattle.value_links.specs.Lists.{IsFrozen}
use Rattle.written_files.specs.Kept.{IsKept}
use Rattle.value_links.specs.Reading.{ProgramRead, ListRead, Linkable, Reading, line_heads, lists_of, list_at}
use Rattle.value_links.specs.Sections.{debug_info, debug_abbrev}
use Rattle.value_links.specs.Whole.{IsReading}
use Rattle.value_links.specs.World.{World, HoldsMeaning, HoldsList, IsWorldOf, lists_held}
use Rattle.value_links.proofs.ReadingOnce.{reading_once}
use Rattle.value_links.proofs.HeldUnits.{few_units}
use Rattle.unit_slots.proofs.RowsOnce.{numbers_once}
use Rattle.same_meaning.proofs.FewPrograms.{few_programs}
use Rattle.same_meaning.proofs.ReadUnits.{held_count}
use Rattle.check_records.specs.declared.parts.Part.{Part as HeldPart}
use Rattle.check_records.specs.declared.parts.Part.TheVariants as held
use Rattle.check_records.specs.Parts.{Part, AProgram, AList, AUnit, numbers_below, AreSearched, AreParts, program_count}
use Rattle.check_records.specs.inside.Parts.{part_of, parts_of, IsThere, AreThere}
use Rattle.check_records.specs.inside.Pushed.{IsLive, IsSearched, AddsLists, AddsAllLists}
use Rattle.check_records.proofs.Numbers.{numbers_none, numbers_more, numbers_still, numbers_of, below_all}

-- ONE LIST OF PARTS

pub same_length : {X : Type 0} (xs ys : List X) → xs ≡ ys → length xs ≡ length ys
same_length xs ys same = ap length same

-- a reading has one list of parts
pub parts_once : (classes : Classes) (s : Reading) (a b : List Part) → AreParts classes s a → AreParts classes s b → a ≡ b
parts_once classes s a b p q =
    let first : p.ranges ≡ q.ranges = numbers_once (λ (k : ℕ). ¬ IsKept classes s.links Ranges (list_at (lists_of s Ranges) k)) (length (lists_of s Ranges)) p.ranges q.ranges p.searched_ranges q.searched_ranges in
    let second : p.locations ≡ q.locations = numbers_once (λ (k : ℕ). ¬ IsKept classes s.links Locations (list_at (lists_of s Locations) k)) (length (lists_of s Locations)) p.locations q.locations p.searched_locations q.searched_locations in
    let programs : List Part = map AProgram (numbers_below (program_count classes s)) in
    let units : List Part = map AUnit (numbers_below (length s.links.units)) in
    p.whole ∙ ap (λ (z : List ℕ). programs ++ (map (AList Ranges) z ++ (map (AList Locations) p.locations ++ units))) first
    ∙ ap (λ (z : List ℕ). programs ++ (map (AList Ranges) q.ranges ++ (map (AList Locations) z ++ units))) second ∙ sym q.whole

-- LISTS THAT ARE PUSHED

-- past the end there is no list, and an empty one stands for it
abbrev no_list : HeldList
no_list = record { at = 0; part = 0; owner = None; raw = []; meaning = Dead }

-- a list that has items isn't dead
live_apart : (meaning : Meaning) (items : List Item) → meaning ≡ Live items → ¬ (meaning ≡ Dead)
live_apart meaning items live dead = cc

module _ (classes : Classes) (world : World) (kind : ListKind) where
  pub adds_none : (parts : List HeldPart) → AddsLists classes world kind 0 parts parts
  adds_none parts = record { numbers = []; searched = numbers_none (IsSearched classes world kind); whole = sym (append-nil parts) }

  -- one that is kept isn't pushed
  pub adds_still : (old now new : List HeldPart) (k : ℕ) → AddsLists classes world kind k old now → (IsSearched classes world kind k → ⊥) → new ≡ now → AddsLists classes world kind (k + 1) old new
  adds_still old now new k are out kept = record {
    numbers = are.numbers;
    searched = numbers_still (IsSearched classes world kind) k are.numbers are.searched out;
    whole = kept ∙ are.whole;
  }

  module _ (lists : List HeldList) (same : lists ≡ lists_held world kind) (old now new : List HeldPart) (k : ℕ) (frozen : Bool) (told : (d : HeldList) → IsTrue frozen ↔ ((get_or lists k d).meaning ≡ Dead)) (are : AddsLists classes world kind k old now) where
    told_held : (d : HeldList) → IsTrue frozen ↔ ((get_or (lists_held world kind) k d).meaning ≡ Dead)
    told_held = subst (λ (z : List HeldList). (d : HeldList) → IsTrue frozen ↔ ((get_or z k d).meaning ≡ Dead)) same told

    pub adds_more : classes.lists ≡ true → frozen ≡ false → new ≡ now ++ held.List kind k ∷ [] → AddsLists classes world kind (k + 1) old new
    adds_more any live pushed = record {
      numbers = are.numbers ++ k ∷ [];
      searched = numbers_more (IsSearched classes world kind) k are.numbers are.searched (any, λ d dead. true≢false (sym ((told_held d).1 dead) ∙ live));
      whole = pushed ∙ ap (λ (z : List HeldPart). z ++ held.List kind k ∷ []) are.whole ∙ append_assoc old (map (held.List kind) are.numbers) (held.List kind k ∷ []) ∙ ap (λ (z : List HeldPart). old ++ z) (sym (map_push (held.List kind) are.numbers k));
    }

    pub frozen_out : frozen ≡ true → IsSearched classes world kind k → ⊥
    frozen_out dead (any, live) = live no_list ((told_held no_list).0 dead)

-- ALL PARTS

-- a part among all
pub part_here : (parts : List HeldPart) (i : ℕ) (one : HeldPart) → i < length parts → one ≡ get_or parts i one → part_of one ≡ get_or (parts_of parts) i (part_of one)
part_here parts i one inside here = ap part_of here ∙ sym (get_or-map part_of parts i one (part_of one) inside)

-- some item of a list that has one
pub some_item : {X : Type 0} (xs : List X) (k : ℕ) → k < length xs → X
some_item [] k inside = absurd (omega (arith, inside))
some_item (x ∷ xs) k inside = x

free_live : (r : Linkable) (kind : ListKind) (list : ListRead) (owner : Option ℕ) (meaning : Meaning) → HoldsMeaning r kind list owner meaning → ¬ (meaning ≡ Dead) → ¬ IsFrozen r kind list
free_live r kind list owner (Live items) holds live = holds.0
free_live r kind list owner Dead holds live = absurd (live refl)

dead_frozen : (r : Linkable) (kind : ListKind) (list : ListRead) (owner : Option ℕ) (meaning : Meaning) → HoldsMeaning r kind list owner meaning → meaning ≡ Dead → IsFrozen r kind list
dead_frozen r kind list owner (Live items) holds dead = absurd (live_apart (Live items) items refl dead)
dead_frozen r kind list owner Dead holds dead = holds

mapped : (f : ℕ → HeldPart) (g : ℕ → Part) → ((k : ℕ) → part_of (f k) ≡ g k) → (xs : List ℕ) → map part_of (map f xs) ≡ map g xs
mapped f g same [] = refl
mapped f g same (x ∷ xs) = ap (λ (z : Part). z ∷ map part_of (map f xs)) (same x) ∙ ap (λ (z : List Part). g x ∷ z) (mapped f g same xs)

four : (a b c d : List HeldPart) → map part_of (((a ++ b) ++ c) ++ d) ≡ map part_of a ++ (map part_of b ++ (map part_of c ++ map part_of d))
four a b c d =
    map-append part_of ((a ++ b) ++ c) d ∙ ap (λ (z : List Part). z ++ map part_of d) (map-append part_of (a ++ b) c ∙ ap (λ (z : List Part). z ++ map part_of c) (map-append part_of a b))
    ∙ append_assoc (map part_of a ++ map part_of b) (map part_of c) (map part_of d) ∙ append_assoc (map part_of a) (map part_of b) (map part_of c ++ map part_of d)

-- a switch that isn't off is on
not_off : (b : Bool) → ¬ (b ≡ false) → b ≡ true
not_off false on = absurd (on refl)
not_off true on = refl

pub no_more : (b : Bool) (n : ℕ) → (if b then n else 0) ≤ n
no_more false n = omega arith
no_more true n = omega arith

-- how many of the line number programs that are held have records
abbrev pub programs_held : Classes → World → ℕ
programs_held classes world = if classes.lines then length world.programs else 0

module _ (classes : Classes) (world : World) (reach : Reach) (is : IsWorldOf world.image reach world) where
  free : (kind : ListKind) (k : ℕ) → k < length (lists_held world kind) → IsLive world kind k → ¬ IsFrozen is.r.links kind (list_at (lists_of is.r kind) k)
  free kind k inside live =
      let d : HeldList = some_item (lists_held world kind) k inside in
      let holds : HoldsList is.r.links kind (list_at (lists_of is.r kind) k) (get_or (lists_held world kind) k d) = (is.holds.lists kind).each k d (omega (arith, inside, (is.holds.lists kind).count)) in
      free_live is.r.links kind (list_at (lists_of is.r kind) k) (get_or (lists_held world kind) k d).owner (get_or (lists_held world kind) k d).meaning holds.meaning (live d)

  live : (kind : ListKind) (k : ℕ) → k < length (lists_of is.r kind) → ¬ IsFrozen is.r.links kind (list_at (lists_of is.r kind) k) → IsLive world kind k
  live kind k inside free d dead =
      let holds : HoldsList is.r.links kind (list_at (lists_of is.r kind) k) (get_or (lists_held world kind) k d) = (is.holds.lists kind).each k d inside in
      free (dead_frozen is.r.links kind (list_at (lists_of is.r kind) k) (get_or (lists_held world kind) k d).owner (get_or (lists_held world kind) k d).meaning holds.meaning dead)

  freed : (kind : ListKind) (k : ℕ) → k < length (lists_held world kind) → IsSearched classes world kind k → ¬ IsKept classes is.r.links kind (list_at (lists_of is.r kind) k)
  freed kind k inside (any, alive) kept = elim kept [
    | inl none ↦ true≢false (sym any ∙ none)
    | inr frozen ↦ free kind k inside alive frozen
  ]

  searched : (kind : ListKind) (k : ℕ) → k < length (lists_of is.r kind) → ¬ IsKept classes is.r.links kind (list_at (lists_of is.r kind) k) → IsSearched classes world kind k
  searched kind k inside freed = (not_off classes.lists (λ none. freed (inl none)), live kind k inside (λ frozen. freed (inr frozen)))

  all_searched : (kind : ListKind) (numbers : List ℕ) → AreNumbersOf (IsSearched classes world kind) (length (lists_held world kind)) numbers → AreSearched classes kind is.r numbers
  all_searched kind numbers are = numbers_of (IsSearched classes world kind) (λ (k : ℕ). ¬ IsKept classes is.r.links kind (list_at (lists_of is.r kind) k)) (length (lists_held world kind)) (length (lists_of is.r kind)) (is.holds.lists kind).count (freed kind) (searched kind) numbers are

  all_counted : length world.programs ≡ length is.r.links.programs
  all_counted = ap (λ (z : List Head). length z) is.holds.programs ∙ length-map is.r.links.programs (λ (p : ProgramRead). p.head)

  pub programs_counted : programs_held classes world ≡ program_count classes is.r
  programs_counted = ap (λ (n : ℕ). if classes.lines then n else 0) all_counted

  pub programs_few : programs_held classes world < 2 ^ 32
  programs_few =
      let count : length world.programs ≡ length (line_heads is.r.links.programs) = ap (λ (z : List Head). length z) is.holds.programs in
      let few = few_programs world.image reach is.r.links.programs is.valid is.read.links.programs in
      let least : programs_held classes world ≤ length world.programs = no_more classes.lines (length world.programs) in
      omega (arith, count, few, least)

  pub units_few : length world.units < 2 ^ 32
  units_few =
      let few = few_units (debug_info world.image) (debug_abbrev world.image) is.r.links.units is.read.links.units in
      omega (arith, few, held_count world is.r is.holds)

  module _ (first second third all : List HeldPart) (programs : first ≡ map held.Program (numbers_below (programs_held classes world))) (ranges : AddsAllLists classes world Ranges first second) (locations : AddsAllLists classes world Locations second third) (units : all ≡ third ++ map held.Unit (numbers_below (length world.units))) where
    whole : all ≡ ((map held.Program (numbers_below (programs_held classes world)) ++ map (held.List Ranges) ranges.numbers) ++ map (held.List Locations) locations.numbers) ++ map held.Unit (numbers_below (length world.units))
    whole =
        let two : second ≡ map held.Program (numbers_below (programs_held classes world)) ++ map (held.List Ranges) ranges.numbers = ranges.whole ∙ ap (λ (z : List HeldPart). z ++ map (held.List Ranges) ranges.numbers) programs in
        let three : third ≡ (map held.Program (numbers_below (programs_held classes world)) ++ map (held.List Ranges) ranges.numbers) ++ map (held.List Locations) locations.numbers = locations.whole ∙ ap (λ (z : List HeldPart). z ++ map (held.List Locations) locations.numbers) two in
        units ∙ ap (λ (z : List HeldPart). z ++ map held.Unit (numbers_below (length world.units))) three

    parts_read : AreParts classes is.r (parts_of all)
    parts_read =
        let first_count : programs_held classes world ≡ program_count classes is.r = programs_counted in
        let last_count : length world.units ≡ length is.r.links.units = held_count world is.r is.holds in
        let p : map part_of (map held.Program (numbers_below (programs_held classes world))) ≡ map AProgram (numbers_below (program_count classes is.r)) = mapped held.Program AProgram (λ k. refl) (numbers_below (programs_held classes world)) ∙ ap (λ (n : ℕ). map AProgram (numbers_below n)) first_count in
        let q : map part_of (map (held.List Ranges) ranges.numbers) ≡ map (AList Ranges) ranges.numbers = mapped (held.List Ranges) (AList Ranges) (λ k. refl) ranges.numbers in
        let r : map part_of (map (held.List Locations) locations.numbers) ≡ map (AList Locations) locations.numbers = mapped (held.List Locations) (AList Locations) (λ k. refl) locations.numbers in
        let u : map part_of (map held.Unit (numbers_below (length world.units))) ≡ map AUnit (numbers_below (length is.r.links.units)) = mapped held.Unit AUnit (λ k. refl) (numbers_below (length world.units)) ∙ ap (λ (n : ℕ). map AUnit (numbers_below n)) last_count in
        let parted = four (map held.Program (numbers_below (programs_held classes world))) (map (held.List Ranges) ranges.numbers) (map (held.List Locations) locations.numbers) (map held.Unit (numbers_below (length world.units))) in
        record {
          ranges = ranges.numbers;
          searched_ranges = all_searched Ranges ranges.numbers ranges.searched;
          locations = locations.numbers;
          searched_locations = all_searched Locations locations.numbers locations.searched;
          whole = ap parts_of whole ∙ parted ∙ rw (p, q, r, u) refl;
        }

    pub parts_are : (s : Reading) → IsReading world.image s → AreParts classes s (parts_of all)
    parts_are s read = subst (λ (z : Reading). AreParts classes z (parts_of all)) (reading_once world.image is.r s is.read read) parts_read

    pub parts_there : AreThere world all
    parts_there =
        let p : All (IsThere world) (map held.Program (numbers_below (programs_held classes world))) = All-map (IsThere world) held.Program (numbers_below (programs_held classes world)) (All-weaker (λ (i : ℕ). i < programs_held classes world) (λ (i : ℕ). i < length world.programs) (λ i less. omega (arith, less, no_more classes.lines (length world.programs))) (numbers_below (programs_held classes world)) (below_all (programs_held classes world))) in
        let q : All (IsThere world) (map (held.List Ranges) ranges.numbers) = All-map (IsThere world) (held.List Ranges) ranges.numbers (All-weaker (λ (k : ℕ). (k < length (lists_held world Ranges)) × IsSearched classes world Ranges k) (λ (k : ℕ). IsThere world (held.List Ranges k)) (λ k (less, searched). (less, searched.1)) ranges.numbers ranges.searched.those) in
        let r : All (IsThere world) (map (held.List Locations) locations.numbers) = All-map (IsThere world) (held.List Locations) locations.numbers (All-weaker (λ (k : ℕ). (k < length (lists_held world Locations)) × IsSearched classes world Locations k) (λ (k : ℕ). IsThere world (held.List Locations k)) (λ k (less, searched). (less, searched.1)) locations.numbers locations.searched.those) in
        let u : All (IsThere world) (map held.Unit (numbers_below (length world.units))) = All-map (IsThere world) held.Unit (numbers_below (length world.units)) (below_all (length world.units)) in
        let front : All (IsThere world) (map held.Program (numbers_below (programs_held classes world)) ++ map (held.List Ranges) ranges.numbers) = All-append (IsThere world) (map held.Program (numbers_below (programs_held classes world))) (map (held.List Ranges) ranges.numbers) p q in
        let more : All (IsThere world) ((map held.Program (numbers_below (programs_held classes world)) ++ map (held.List Ranges) ranges.numbers) ++ map (held.List Locations) locations.numbers) = All-append (IsThere world) (map held.Program (numbers_below (programs_held classes world)) ++ map (held.List Ranges) ranges.numbers) (map (held.List Locations) locations.numbers) front r in
        All-same (IsThere world) all (((map held.Program (numbers_below (programs_held classes world)) ++ map (held.List Ranges) ranges.numbers) ++ map (held.List Locations) locations.numbers) ++ map held.Unit (numbers_below (length world.units))) whole
        (All-append (IsThere world) ((map held.Program (numbers_below (programs_held classes world)) ++ map (held.List Ranges) ranges.numbers) ++ map (held.List Locations) locations.numbers) (map held.Unit (numbers_below (length world.units))) more u)
