-- A file with new debug sections.
use Rattle.std.proofs.Common.{◌≡◌, ◌≢◌, ◌≤◌, ◌<◌, ◌+◌, ◌-◌, ◌*◌, ◌^◌, ℕ, List, [], ◌∷◌, length, Bool, true, false, sym, ◌∙◌, ap, refl, subst, arith}
use Rattle.std.specs.Prelude.{◌==◌, ◌||◌, ◌&&◌, not, if◌then◌else◌, IfOk}
use Rattle.std.specs.declared.result.Result.{Result}
use Rattle.std.specs.declared.result.Result.TheVariants.{Ok, Err}
use Rattle.std.specs.List.{All}
use Rattle.std.proofs.lemmas.Bool.{true≢false, eq-eqb}
use Rattle.std.proofs.lemmas.List.Elements.{All-weaker}
use Rattle.dw_base.specs.declared.fault.Reach.TheVariants.{Narrow, Wide}
use Rattle.elf_sections.specs.Elf.{section_count, names_index, offset_of, size_of, fixed_end_of, is_movable, body_of}
use Rattle.elf_sections.specs.Names.{name_of, is_written}
use Rattle.elf_sections.specs.Sections.{IsFirstNamed}
use Rattle.elf_sections.specs.Faults.{IsRead}
use Rattle.elf_place.specs.declared.bodies.NewBody.{NewBody}
use Rattle.elf_place.specs.Bodies.{has_new_body, body_after, IsReplaceable, KeepsNames, AreApart, AreSmall, bytes_of}
use Rattle.elf_place.specs.Layout.{IsLaidOut, Stand}
use Rattle.elf_place.specs.Same.{SameImage}
use Rattle.elf_place.proofs.BodyLaws.{body_after-kept}
use Rattle.value_links.specs.Sections.{info_name, abbrev_name, line_name, aranges_name, rnglists_name, loclists_name}
use Rattle.value_links.specs.Laws.{IsImageInOrder}
use Rattle.rewriter.specs.declared.sections.NewSections.{NewSections}
use Rattle.rewriter.specs.inside.Bodies.{NewBytes, IsBodyWith, AddsBody, AreBodiesWith, new_bytes}
use Rattle.written_files.specs.Placed.{body_in}
use Rattle.rewriter.specs.inside.Sections.{AreFor, HasSections}
use Rattle.rewriter.proofs.NewBodies.{added, all_bodies, spared, bodies_apart, bytes_in, bodies_few, bytes_few, own_names, all_written, written_bodies, bodies_written}

-- NAMES

-- a name that isn't written anew is none of those that are
unwritten : (name wanted : List ℕ) → is_written wanted ≡ true → is_written name ≡ false → name ≢ wanted
unwritten name wanted anew kept same = true≢false (sym anew ∙ sym (ap is_written same) ∙ kept)

written : (new : NewSections) → All (λ (n : NewBytes). is_written n.name ≡ true) (new_bytes new)
written new = all_written (new_bytes new) refl

unlisted : (new : NewSections) (name : List ℕ) → is_written name ≡ false → All (λ (n : NewBytes). name ≢ n.name) (new_bytes new)
unlisted new name kept =
    All-weaker (λ (n : NewBytes). is_written n.name ≡ true) (λ (n : NewBytes). name ≢ n.name) (λ (n : NewBytes) anew. unwritten name n.name anew kept) (new_bytes new) (written new)

-- the six bodies, one after the other
pub six_added : (file : List ℕ) (new : NewSections) (first second third fourth fifth sixth : List ℕ) (none one two three four five six : List NewBody) → first ≡ info_name → second ≡ abbrev_name → third ≡ line_name → fourth ≡ rnglists_name → fifth ≡ loclists_name → sixth ≡ aranges_name → none ≡ [] → AddsBody file (record { name = first; bytes = new.info.items }) none one → AddsBody file (record { name = second; bytes = new.abbrevs.items }) one two → AddsBody file (record { name = third; bytes = new.lines.items }) two three → AddsBody file (record { name = fourth; bytes = new.ranges.items }) three four → AddsBody file (record { name = fifth; bytes = new.locations.items }) four five → AddsBody file (record { name = sixth; bytes = new.aranges.items }) five six → AreBodiesWith file (new_bytes new) six
six_added file new first second third fourth fifth sixth none one two three four five six e f g h i j empty info abbrevs lines ranges locations aranges =
    let a : NewBytes = record { name = info_name; bytes = new.info.items } in
    let b : NewBytes = record { name = abbrev_name; bytes = new.abbrevs.items } in
    let c : NewBytes = record { name = line_name; bytes = new.lines.items } in
    let d : NewBytes = record { name = rnglists_name; bytes = new.ranges.items } in
    let k : NewBytes = record { name = loclists_name; bytes = new.locations.items } in
    let l : NewBytes = record { name = aranges_name; bytes = new.aranges.items } in
    let with_info = added file [] a none one empty (subst (λ (z : List ℕ). AddsBody file (record { name = z; bytes = new.info.items }) none one) e info) in
    let with_abbrevs = added file (a ∷ []) b one two with_info (subst (λ (z : List ℕ). AddsBody file (record { name = z; bytes = new.abbrevs.items }) one two) f abbrevs) in
    let with_lines = added file (a ∷ b ∷ []) c two three with_abbrevs (subst (λ (z : List ℕ). AddsBody file (record { name = z; bytes = new.lines.items }) two three) g lines) in
    let with_ranges = added file (a ∷ b ∷ c ∷ []) d three four with_lines (subst (λ (z : List ℕ). AddsBody file (record { name = z; bytes = new.ranges.items }) three four) h ranges) in
    let with_locations = added file (a ∷ b ∷ c ∷ d ∷ []) k four five with_ranges (subst (λ (z : List ℕ). AddsBody file (record { name = z; bytes = new.locations.items }) four five) i locations) in
    added file (a ∷ b ∷ c ∷ d ∷ k ∷ []) l five six with_locations (subst (λ (z : List ℕ). AddsBody file (record { name = z; bytes = new.aranges.items }) five six) j aranges)

-- WHERE THE SECTIONS STAND

written_moves : (written moves last : Bool) → (written && (not moves || last)) ≡ false → written ≡ true → moves ≡ true
written_moves true true last f e = refl
written_moves true false last f e = absurd (true≢false f)
written_moves false moves last f e = absurd (true≢false (sym e))

names_stay : (written moves last : Bool) → last ≡ true → (written && (not moves || last)) ≡ false → written ≡ false
names_stay false moves last e f = refl
names_stay true true true e f = absurd (true≢false f)
names_stay true false last e f = absurd (true≢false f)
names_stay true true false e f = absurd (true≢false (sym e))

-- sections that stand with some bytes stand with the same ones
stand_as : (new : List ℕ) (f g : ℕ → List ℕ) → ((i : ℕ) → body_of new i ≡ f i → f i ≡ g i) → (order : List ℕ) (start end : ℕ) → Stand new f order start end → Stand new g order start end
stand_as new f g same [] start end h = h
stand_as new f g same (i ∷ order) start end (p, rest) =
    let e = same i p.body in
    (record { place = p.place; gap = p.gap; size = p.size ∙ ap length e; body = p.body ∙ e }, stand_as new f g same order (offset_of new i + size_of new i) end rest)

-- THE BODIES

module _ (file : List ℕ) (new : NewSections) (bodies : List NewBody) (made : AreBodiesWith file (new_bytes new) bodies) where
  kept : (i : ℕ) → is_written (name_of file i) ≡ false → has_new_body bodies i ≡ false
  kept i own = spared file (new_bytes new) bodies i made (unlisted new (name_of file i) own)

  pub apart : AreApart bodies
  apart = bodies_apart file (new_bytes new) bodies made (own_names (new_bytes new) refl)

  module _ (order : IsImageInOrder file Narrow) where
    replaceable : (name : List ℕ) → is_written name ≡ true → (i : ℕ) → IsFirstNamed file name i → IsReplaceable file i
    replaceable name anew i first = record {
      inside = first.inside;
      moves = written_moves (is_written (name_of file i)) (is_movable file i) (i == names_index file) (order.sound.sections i first.inside).placed (ap is_written first.named ∙ anew);
    }

    pub movable : All (λ (body : NewBody). IsReplaceable file body.section) bodies
    movable =
        all_bodies (λ (body : NewBody). IsReplaceable file body.section) file (new_bytes new) bodies made (All-weaker (λ (n : NewBytes). is_written n.name ≡ true) (λ (n : NewBytes). (body : NewBody) → IsBodyWith file n body → IsReplaceable file body.section) (λ (n : NewBytes) anew body is. replaceable n.name anew body.section is.first) (new_bytes new) (written new))

    pub names : KeepsNames file bodies
    names some =
        let i = names_index file in
        kept i (names_stay (is_written (name_of file i)) (is_movable file i) (i == i) (eq-eqb i i refl) (order.sound.sections i (order.whole.section_table.names some)).placed)

  module _ (fits : AreFor file new) where
    total : bytes_of bodies ≤ 6 * 2 ^ 32
    total =
        let few : bytes_of bodies ≤ bytes_in (new_bytes new) = bodies_few file (new_bytes new) bodies made in
        let most : bytes_in (new_bytes new) ≤ length (new_bytes new) * 2 ^ 32 = bytes_few (new_bytes new) fits.fit in
        omega (arith, few, most)

    pub few : bytes_of bodies < 2 ^ 35
    few = omega (arith, total)

    short : (n : NewBytes) → length n.bytes < 2 ^ 32 - 1 → (body : NewBody) → IsBodyWith file n body → length body.bytes.items < 2 ^ 32
    short n low body is = let size : length body.bytes.items ≡ length n.bytes = ap length is.holds in omega arith

    pub small : AreSmall bodies
    small = record {
      each = all_bodies (λ (body : NewBody). length body.bytes.items < 2 ^ 32) file (new_bytes new) bodies made (All-weaker (λ (n : NewBytes). length n.bytes < 2 ^ 32 - 1) (λ (n : NewBytes). (body : NewBody) → IsBodyWith file n body → length body.bytes.items < 2 ^ 32) short (new_bytes new) fits.fit);
      all = omega (arith, total);
    }

  module _ (written : List ℕ) where
    body_is : (anew : Bool) (i : ℕ) → is_written (name_of file i) ≡ anew → body_of written i ≡ body_after file bodies i → body_after file bodies i ≡ (if anew then body_of written i else body_of file i)
    body_is true i e h = sym h
    body_is false i e h = body_after-kept file bodies i (kept i e)

    laid_out : IsLaidOut file (body_after file bodies) written → IsLaidOut file (body_in file written) written
    laid_out l = record {
      loaded = l.loaded;
      headers = l.headers;
      order = l.order;
      moving = l.moving;
      end = l.end;
      sections = stand_as written (body_after file bodies) (body_in file written) (λ i h. body_is (is_written (name_of file i)) i refl h) l.order (fixed_end_of file) l.end l.sections;
      table = l.table;
      gap = l.gap;
      whole = l.whole;
    }

    module _ (same : SameImage (has_new_body bodies) file written) where
      pub has_sections : AreFor file new → IsRead written Wide → All (λ (body : NewBody). body_of written body.section ≡ body.bytes.items) bodies → (section_count file ≡ 0 → written ≡ file) → (section_count file ≢ 0 → IsLaidOut file (body_after file bodies) written) → HasSections file new written
      has_sections lacks read holds bare placed =
          record {
            sections = bodies_written file written same.headers.count same.names (new_bytes new) lacks.each (written_bodies file written (new_bytes new) bodies made holds);
            image = record {
              loaded = same.loaded;
              headers = same.headers;
              names = same.names;
              bodies = λ i lt own. same.bodies i lt (kept i own);
            };
            order = read;
            placed = record { bare = bare; laid_out = λ some. laid_out (placed some) };
          }

-- so where the bodies are placed, the file has the new sections
pub assembled : {T E : Type 0} (file : List ℕ) (new : NewSections) (bodies : List NewBody) (items : T → List ℕ) (result : Result T E) → AreBodiesWith file (new_bytes new) bodies → IsImageInOrder file Narrow → AreFor file new → IfOk result (λ out. section_count file ≢ 0 → IsLaidOut file (body_after file bodies) (items out)) → IfOk result (λ out. section_count file ≡ 0 → items out ≡ file) → IfOk result (λ out. KeepsNames file bodies → SameImage (has_new_body bodies) file (items out)) → IfOk result (λ out. All (λ (body : NewBody). body_of (items out) body.section ≡ body.bytes.items) bodies) → IfOk result (λ out. IsRead file Narrow → KeepsNames file bodies → AreSmall bodies → IsRead (items out) Wide) → IfOk result (λ out. HasSections file new (items out))
assembled file new bodies items (Ok out) made order fits placed bare same holds read =
    let stay : KeepsNames file bodies = names file new bodies made order in
    has_sections file new bodies made (items out) (same stay) fits (read order stay (small file new bodies made fits)) holds bare placed
assembled file new bodies items (Err e) made order fits placed bare same holds read = tt
