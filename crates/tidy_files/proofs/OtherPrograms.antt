-- The first line number program whose opcode_base isn't 13.
use Rattle.std.proofs.Common.{◌≡◌, ◌≢◌, ◌≤◌, ◌<◌, ◌+◌, ◌∙◌, ℕ, List, length, sym, ap, subst, refl, arith}
use Rattle.dw_base.specs.declared.fault.Reach.{Reach}
use Rattle.line_machine.specs.declared.head.Head.{Head}
use Rattle.entry_read.proofs.Chained.{Chained, stand_apart, ends_by}
use Rattle.value_links.specs.inside.Links.{program_among}
use Rattle.value_links.specs.Reading.{ProgramRead, Reading, no_program, program_at}
use Rattle.value_links.specs.Sections.{body_named, offset_named, debug_line, line_name}
use Rattle.value_links.specs.World.{World, IsWorldOf}
use Rattle.value_links.proofs.HeldUnits.{head_is, head_count}
use Rattle.value_links.proofs.ReadingOnce.{reading_once}
use Rattle.value_links.proofs.Tiles.{programs_chained}
use Rattle.tidy_places.specs.Firsts.{IsLeastPlace}
use Rattle.tidy_files.specs.Tidy.{IsOtherProgram}
use Rattle.tidy_files.proofs.FirstPlaces.{first_least, none_first}

abbrev starts : ProgramRead → ℕ
starts program = program.head.at

abbrev sizes : ProgramRead → ℕ
sizes program = program.head.len

module _ (world : World) (some : (reach : Reach) × IsWorldOf world.image reach world) where
  abbrev s : Reading
  s = some.1.r

  abbrev offset : ℕ
  offset = offset_named world.image line_name

  abbrev count : ℕ
  count = length s.links.programs

  abbrev place_of : ℕ → ℕ
  place_of k = (program_at s.links k).head.at

  abbrev IsOther : ℕ → Type 0
  IsOther k = (program_at s.links k).head.opcode_base ≢ 13

  to : (k : ℕ) → k < count → IsOther k → IsOtherProgram world.image (offset + place_of k)
  to k known other = record { s = s; read = some.1.read; i = k; known = known; other = other; place = refl }

  from : (p : ℕ) → IsOtherProgram world.image p → (k : ℕ) × (k < count) × IsOther k × (p ≡ offset + place_of k)
  from p x =
      let same : x.s ≡ s = reading_once world.image x.s s x.read some.1.read in
      subst (λ (r : Reading). (k : ℕ) × (k < length r.links.programs) × ((program_at r.links k).head.opcode_base ≢ 13) × (p ≡ offset + (program_at r.links k).head.at)) same (x.i, x.known, x.other, x.place)

  chained : Chained starts sizes s.links.programs 0 (length (debug_line world.image))
  chained = programs_chained (debug_line world.image) s.links.programs 0 (length (debug_line world.image)) some.1.read.links.programs.tiled

  rising : (i j : ℕ) → i < j → j < count → place_of i ≤ place_of j
  rising i j less inside =
      let apart : place_of i + (program_at s.links i).head.len ≤ place_of j = stand_apart starts sizes s.links.programs 0 (length (debug_line world.image)) i j no_program chained less inside in
      omega arith

  -- a program that is held is the one that is read
  held_count : length world.programs ≡ count
  held_count = head_count world.image s.links.programs world.programs some.1.holds.programs

  held_is : (k : ℕ) → k < count → program_among world.programs k ≡ (program_at s.links k).head
  held_is k inside = head_is world.image s.links.programs world.programs some.1.holds.programs k inside

  standard : (k : ℕ) → k < count → (program_among world.programs k).opcode_base ≡ 13 → IsOther k → ⊥
  standard k inside is other = other (ap (λ (h : Head). h.opcode_base) (sym (held_is k inside)) ∙ is)

  pub all_standard : (n : ℕ) → length world.programs ≤ n → ((k : ℕ) → k < n → (program_among world.programs k).opcode_base ≡ 13) → (p : ℕ) → IsOtherProgram world.image p → ⊥
  all_standard n whole all = none_first offset count place_of IsOther (IsOtherProgram world.image) to from (λ k inside. standard k inside (all k (omega (arith, held_count))))

  module _ (i : ℕ) (heads : List Head) (same : heads ≡ world.programs) (inside : i < length heads) where
    there : i < count
    there = let size : length heads ≡ length world.programs = ap (λ (z : List Head). length z) same in omega (arith, held_count)

    taken : program_among heads i ≡ (program_at s.links i).head
    taken = ap (λ (z : List Head). program_among z i) same ∙ held_is i there

    pub program_inside : (name : List ℕ) → name ≡ line_name → (program_among heads i).at ≤ length (body_named world.image name)
    program_inside name is =
        let ends : place_of i + (program_at s.links i).head.len ≤ length (debug_line world.image) = ends_by starts sizes s.links.programs 0 (length (debug_line world.image)) i no_program chained there in
        let at : (program_among heads i).at ≡ place_of i = ap (λ (h : Head). h.at) taken in
        let here : (program_among heads i).at ≤ length (debug_line world.image) = omega arith in
        subst (λ (z : List ℕ). (program_among heads i).at ≤ length (body_named world.image z)) (sym is) here

    pub program_least : ((k : ℕ) → k < i → (program_among world.programs k).opcode_base ≡ 13) → (program_among heads i).opcode_base ≢ 13 → (name : List ℕ) → name ≡ line_name → (p : ℕ) → p ≡ offset_named world.image name + (program_among heads i).at → IsLeastPlace (IsOtherProgram world.image) p
    program_least before other name is p place =
        let here : p ≡ offset + place_of i = place ∙ ap (λ (z : List ℕ). offset_named world.image z + (program_among heads i).at) is ∙ ap (λ (h : Head). offset + h.at) taken in
        first_least offset count place_of IsOther (IsOtherProgram world.image) to from rising i there (λ e. other (ap (λ (h : Head). h.opcode_base) taken ∙ e)) (λ k less. standard k (omega (arith, there)) (before k less)) p here
