-- The bytes of lists and of view pairs of a file that is read.
use Rattle.std.proofs.Common.{◌≡◌, ◌≤◌, ◌<◌, ◌+◌, ◌-◌, ◌++◌, ◌∙◌, ℕ, List, [], ◌∷◌, length, map, take, drop, refl, sym, ap, subst, arith}
use Rattle.std.specs.Prelude.{slice_index_or}
use Rattle.std.proofs.lemmas.List.{length-append, length-take, append_assoc, drop-take}
use Rattle.spelled.specs.Spelled.{Joined}
use Rattle.list_model.specs.declared.contribution.Contribution.{Contribution}
use Rattle.list_model.specs.declared.entry.ListKind.{ListKind}
use Rattle.list_model.specs.declared.entry.ListKind.TheVariants.{Ranges, Locations}
use Rattle.list_model.specs.declared.entry.RawEntry.{RawEntry}
use Rattle.list_model.specs.Contributions.{part_end, bytes_from}
use Rattle.list_model.specs.Entries.{Entry, SpellsEntry, AreSaid}
use Rattle.list_model.specs.Reading.{AreReadFrom}
use Rattle.list_model.proofs.Tiling.{part_inside}
use Rattle.range_lists.specs.Ranges.{IsRead as IsRangeRead}
use Rattle.loc_lists.specs.Locations.{SpellsLocation}
use Rattle.loc_lists.specs.Locations.{IsRead as IsLocationRead}
use Rattle.list_arena.specs.Held.{HeldList}
use Rattle.value_links.specs.Sections.{debug_lists}
use Rattle.value_links.specs.Lists.{IsListOf}
use Rattle.value_links.specs.Reading.{ListRead, Reading, of_kind, lists_of, part_at, list_at}
use Rattle.value_links.specs.Whole.{IsReading}
use Rattle.value_links.specs.World.{World, Holds, HoldsList, contributions_held, contribution_at, lists_held}
use Rattle.value_links.proofs.PartPlaces.{part_stands}
use Rattle.tidy_lists.specs.Followers.{AreBytesOf, HasLength}
use Rattle.tidy_lists.specs.inside.Lengths.{IsListUpTo}
use Rattle.tidy_lists.proofs.EntriesUpTo.{list_inside}

-- WHAT IS READ IS SPELLED

ranges_said : (at : ℕ) (raws : List RawEntry) (entries : List Entry) (bytes : List ℕ) → AreReadFrom IsRangeRead at raws entries bytes → AreSaid Ranges raws entries × Joined (SpellsEntry Ranges) entries bytes
ranges_said at [] [] bytes read = (record {}, read)
ranges_said at [] (entry ∷ entries) bytes read = absurd read
ranges_said at (raw ∷ raws) [] bytes read = absurd read
ranges_said at (raw ∷ raws) (entry ∷ entries) bytes (first, rest, here, later, e) =
    let more = ranges_said (at + length first) raws entries rest later in
    ((here.says, more.0), (first, rest, here.spelled, more.1, e))

locations_said : (at : ℕ) (raws : List RawEntry) (locations : List (Entry × List ℕ)) (bytes : List ℕ) → AreReadFrom IsLocationRead at raws locations bytes → AreSaid Locations raws (map (λ (location : Entry × List ℕ). location.0) locations) × Joined SpellsLocation locations bytes
locations_said at [] [] bytes read = (record {}, read)
locations_said at [] (location ∷ locations) bytes read = absurd read
locations_said at (raw ∷ raws) [] bytes read = absurd read
locations_said at (raw ∷ raws) (location ∷ locations) bytes (first, rest, here, later, e) =
    let more = locations_said (at + length first) raws locations rest later in
    ((here.says, more.0), (first, rest, here.spelled, more.1, e))

-- A list that is read, by the place behind it.
pub record IsListHere (kind : ListKind) (section : List ℕ) (part : Contribution) (at : ℕ) (raws : List RawEntry) : Type 0 where
  pub end : ℕ
  pub up_to : IsListUpTo kind (take (part_end part) section) at raws end
  pub bytes : List ℕ
  pub rest : List ℕ
  pub stands : bytes_from section part at ≡ bytes ++ rest
  pub read : AreBytesOf kind raws bytes
  pub len : end ≡ at + length bytes

-- the bytes from a place of a contribution on, in its section up to its end
from_front : (section : List ℕ) (part : Contribution) (at : ℕ) → at ≤ part_end part → drop at (take (part_end part) section) ≡ bytes_from section part at
from_front section part at inside =
    let whole : part_end part ≡ at + (part_end part - at) = omega (arith, inside) in
    ap (λ (n : ℕ). drop at (take n section)) whole ∙ drop-take at (part_end part - at) section

pub list_here : (kind : ListKind) (section : List ℕ) (part : Contribution) (at : ℕ) (raws : List RawEntry) → at ≤ part_end part → IsListOf kind section part at raws → IsListHere kind section part at raws
list_here Ranges section part at raws inside list =
    let said = ranges_said at raws list.entries list.front list.read in
    let whole : bytes_from section part at ≡ list.front ++ 0 ∷ list.rest = list.whole ∙ ap (λ (end : List ℕ). list.front ++ (end ++ list.rest)) list.ended in
    let size : length (list.front ++ 0 ∷ []) ≡ length list.front + 1 = length-append list.front (0 ∷ []) in
    record {
      end = at + length list.front + 1;
      up_to = (list.entries, list.front, list.rest, list.read, from_front section part at inside ∙ whole, refl);
      bytes = list.front ++ 0 ∷ [];
      rest = list.rest;
      stands = whole ∙ sym (append_assoc list.front (0 ∷ []) list.rest);
      read = (list.entries, said.0, (list.front, 0 ∷ [], said.1, refl, refl));
      len = omega (arith, size);
    }
list_here Locations section part at raws inside list =
    let said = locations_said at raws list.entries list.front list.read in
    let whole : bytes_from section part at ≡ list.front ++ 0 ∷ list.rest = list.whole ∙ ap (λ (end : List ℕ). list.front ++ (end ++ list.rest)) list.ended in
    let size : length (list.front ++ 0 ∷ []) ≡ length list.front + 1 = length-append list.front (0 ∷ []) in
    record {
      end = at + length list.front + 1;
      up_to = (list.entries, list.front, list.rest, list.read, from_front section part at inside ∙ whole, refl);
      bytes = list.front ++ 0 ∷ [];
      rest = list.rest;
      stands = whole ∙ sym (append_assoc list.front (0 ∷ []) list.rest);
      read = (list.entries, said.0, (list.front, 0 ∷ [], said.1, refl, refl));
      len = omega (arith, size);
    }

-- CONTRIBUTIONS

module _ (world : World) (s : Reading) (read : IsReading world.image s) (holds : Holds world.image world s) (kind : ListKind) where
  -- the contribution with a number, as it is held
  pub part_held : (p : ℕ) → contribution_at world kind p ≡ part_at (of_kind s.links kind) p
  part_held p = ap (λ (parts : List Contribution). slice_index_or parts p (record { at = 0; len = 0; slots = 0 })) (holds.contributions kind)

  pub part_ends : (p : ℕ) → p < length (contributions_held world kind) → part_end (contribution_at world kind p) ≤ length (debug_lists world.image kind)
  part_ends p inside =
      let section = of_kind s.links kind in
      let known : p < length section.parts = subst (λ (parts : List Contribution). p < length parts) (holds.contributions kind) inside in
      let end : part_end (part_at section p) ≤ length section.section = (part_inside section.section (part_at section p) (part_stands section.section section.parts (read.links.lists kind).tiled p known)).1 in
      subst (λ (part : Contribution). part_end part ≤ length (debug_lists world.image kind)) (sym (part_held p)) (subst (λ (bytes : List ℕ). part_end (part_at section p) ≤ length bytes) (holds.sections kind) end)

  -- LISTS

  -- The list with a number, as it is held: where it ends in the bytes up to the end of its contribution, and how many bytes it has as it is
  -- read.
  pub list_stands :
      (lists : List HeldList) (number : ℕ) (d held : HeldList) (part : ℕ) (bytes : List ℕ) → lists ≡ lists_held world kind → number < length (lists_held world kind) → held ≡ slice_index_or lists number d → part ≡ held.part → bytes ≡ take (part_end (contribution_at world kind part)) (debug_lists world.image kind) → (end : ℕ) × IsListUpTo kind bytes held.at held.raw end × HasLength kind s (list_at (lists_of s kind) number) (end - held.at) × ((list_at (lists_of s kind) number).at ≡ held.at) × (held.at < end) × (end ≤ length (of_kind s.links kind).section)
  list_stands lists number d held p bytes those inside is own given =
      let section = of_kind s.links kind in
      let known : number < length (lists_of s kind) = subst (λ (n : ℕ). number < n) (holds.lists kind).count inside in
      let l : ListRead = list_at (lists_of s kind) number in
      let same : held ≡ slice_index_or (lists_held world kind) number d = is ∙ ap (λ (all : List HeldList). slice_index_or all number d) those in
      let h = subst (λ (x : HeldList). HoldsList s.links kind l x) (sym same) ((holds.lists kind).each number d known) in
      let one = (read.lists kind).each number known in
      let begins : l.at < part_end (part_at section l.part) = one.begins.1.before in
      let here = list_here kind section.section (part_at section l.part) l.at l.raws (omega arith) one.read in
      let ends : part_end (part_at section l.part) ≤ length section.section = (part_inside section.section (part_at section l.part) (part_stands section.section section.parts (read.links.lists kind).tiled l.part one.begins.0)).1 in
      let part : part_at section l.part ≡ contribution_at world kind held.part = ap (part_at section) (sym h.part) ∙ sym (part_held held.part) in
      let up_to = list_inside kind (take (part_end (part_at section l.part)) section.section) l.at l.raws here.end here.up_to in
      let short : length (take (part_end (part_at section l.part)) section.section) ≤ length section.section = simp length-take (omega arith) in
      let moved : IsListUpTo kind bytes held.at held.raw here.end =
      subst (λ (all : List ℕ). IsListUpTo kind all held.at held.raw here.end) (sym (given ∙ ap (λ (n : ℕ). take (part_end (contribution_at world kind n)) (debug_lists world.image kind)) own))
      (subst (λ (raws : List RawEntry). IsListUpTo kind (take (part_end (contribution_at world kind held.part)) (debug_lists world.image kind)) held.at raws here.end) (sym h.raws)
      (subst (λ (at : ℕ). IsListUpTo kind (take (part_end (contribution_at world kind held.part)) (debug_lists world.image kind)) at l.raws here.end) (sym h.at)
      (subst (λ (all : List ℕ). IsListUpTo kind (take (part_end (contribution_at world kind held.part)) all) l.at l.raws here.end) (holds.sections kind)
      (subst (λ (p : Contribution). IsListUpTo kind (take (part_end p) section.section) l.at l.raws here.end) part here.up_to)))) in
      let at : held.at ≡ l.at = h.at in
      let len : here.end ≡ l.at + length here.bytes = here.len in
      (here.end, moved, record { bytes = here.bytes; rest = here.rest; stands = here.stands; read = here.read; count = omega (arith, len, at) }, sym at, omega (arith, up_to.0, at), omega (arith, up_to.1, short))
