-- A file means one thing.
use Rattle.std.proofs.Common.{◌≡◌, ◌<◌, ◌+◌, ◌∙◌, ℕ, List, [], length, get_or, sym, ap, subst, refl}
use Rattle.std.specs.Prelude.{Option, Some, None, Bool, false}
use Rattle.std.proofs.lemmas.List.{same_lists}
use Rattle.form_codec.specs.Forms.{Meaning}
use Rattle.entry_arena.specs.Forests.{Described}
use Rattle.line_write.specs.Meaning.{ProgramMeaning}
use Rattle.line_write.proofs.Tiling.{meaning_once as one_lines}
use Rattle.list_model.specs.declared.entry.ListKind.{ListKind}
use Rattle.list_model.specs.declared.entry.ListKind.TheVariants.{Ranges, Locations}
use Rattle.value_links.specs.Sections.{debug_line}
use Rattle.value_links.specs.Reading.{Reading, line_heads, unit_at}
use Rattle.value_links.specs.Whole.{IsReading}
use Rattle.value_links.specs.Resolved.{Resolved, ListMeaning, MeansList}
use Rattle.value_links.specs.Debug.{EntryMeaning, UnitMeaning, SetMeaning, PartMeaning, Debug, described, MeansAttribute, MeansEntry, MeansType, MeansUnit, MeansSlot, MeansPart, MeanParts, parts_of, MeansDebug}
use Rattle.value_links.specs.Laws.{OneDebug}
use Rattle.value_links.proofs.Targets.{entry_once}
use Rattle.value_links.proofs.LinkedOnce.{targets, slot_once}
use Rattle.value_links.proofs.MeaningLaws.{meaning_once}
use Rattle.value_links.proofs.ListMeanings.{list_means_once}
use Rattle.value_links.proofs.ReadingOnce.{zip_once, reading_once}

module _ (file : List ℕ) (r : Reading) (read : IsReading file r) (u : ℕ) (inside : u < length r.links.units) where
  attribute_once : (id : ℕ) (stands : ℕ × Meaning) (x y : ℕ × Resolved) → MeansAttribute r u id stands x → MeansAttribute r u id stands y → x ≡ y
  attribute_once id stands x y p q =
      let name : x.0 ≡ y.0 = p.name ∙ sym q.name in
      let value : x.1 ≡ y.1 = meaning_once file r u id stands.0 stands.1 x.1 y.1 read inside p.value q.value in
      ap (λ (z : ℕ). (z, x.1)) name ∙ ap (λ (z : Resolved). (y.0, z)) value

  entry_same : (id : ℕ) (stands : Described) (x y : EntryMeaning) → MeansEntry r u id stands x → MeansEntry r u id stands y → x ≡ y
  entry_same id stands x y p q =
      let attributes : x.attributes ≡ y.attributes = zip_once (MeansAttribute r u id) (attribute_once id) stands.attributes x.attributes y.attributes p.attributes q.attributes in
      ap (λ (z : ℕ). record { depth = z; tag = x.tag; children = x.children; attributes = x.attributes }) (p.depth ∙ sym q.depth)
      ∙ ap (λ (z : ℕ). record { depth = y.depth; tag = z; children = x.children; attributes = x.attributes }) (p.tag ∙ sym q.tag)
      ∙ ap (λ (z : Bool). record { depth = y.depth; tag = y.tag; children = z; attributes = x.attributes }) (p.children ∙ sym q.children)
      ∙ ap (λ (z : List (ℕ × Resolved)). record { depth = y.depth; tag = y.tag; children = y.children; attributes = z }) attributes

  type_once : (x y : Option ℕ) → MeansType r.links u x → MeansType r.links u y → x ≡ y
  type_once (Some i) (Some j) (kind, here) (same, there) = ap (λ (z : ℕ). Some z) (entry_once (unit_at r.links u).forest (targets file r.links read.links u inside).order i j ((unit_at r.links u).head.at + (unit_at r.links u).head.type_at) here there)
  type_once (Some i) None (kind, here) other = absurd (other kind)
  type_once None (Some j) other (kind, here) = absurd (other kind)
  type_once None None p q = refl

  unit_once : (x y : UnitMeaning) → MeansUnit r u x → MeansUnit r u y → x ≡ y
  unit_once x y p q =
      let size : length x.forest ≡ length y.forest = p.forest.count ∙ sym q.forest.count in
      let none : Described = record { depth = 0; tag = 0; children = false; attributes = [] } in
      let forest : x.forest ≡ y.forest = same_lists x.forest y.forest size (λ id d known. entry_same id (get_or (described (unit_at r.links u)) id none) (get_or x.forest id d) (get_or y.forest id d) (p.forest.each id none d known) (q.forest.each id none d (subst (λ (z : ℕ). id < z) size known))) in
      ap (λ (z : ℕ). record { unit_type = z; signature = x.signature; type_entry = x.type_entry; forest = x.forest }) (p.unit_type ∙ sym q.unit_type)
      ∙ ap (λ (z : ℕ). record { unit_type = y.unit_type; signature = z; type_entry = x.type_entry; forest = x.forest }) (p.signature ∙ sym q.signature)
      ∙ ap (λ (z : Option ℕ). record { unit_type = y.unit_type; signature = y.signature; type_entry = z; forest = x.forest }) (type_once x.type_entry y.type_entry p.type_entry q.type_entry)
      ∙ ap (λ (z : List EntryMeaning). record { unit_type = y.unit_type; signature = y.signature; type_entry = y.type_entry; forest = z }) forest

module _ (file : List ℕ) (r : Reading) (read : IsReading file r) where
  slot_means_once : (kind : ListKind) (p i : ℕ) (x y : ListMeaning) → MeansSlot r kind p i x → MeansSlot r kind p i y → x ≡ y
  slot_means_once kind p i x y (a, here, means) (b, there, other) =
      let same : a ≡ b = slot_once r.links kind p i a b here there in
      list_means_once file r read kind b x y (subst (λ (z : ℕ). MeansList r kind z x) same means) other

  part_once : (kind : ListKind) (n : ℕ) (x y : PartMeaning) → MeansPart r kind n x → MeansPart r kind n y → x ≡ y
  part_once kind n x y p q =
      let size : length x.slots ≡ length y.slots = p.count ∙ sym q.count in
      let slots : x.slots ≡ y.slots = same_lists x.slots y.slots size (λ i d known. slot_means_once kind n i (get_or x.slots i d) (get_or y.slots i d) (p.each i d known) (q.each i d (subst (λ (z : ℕ). i < z) size known))) in
      ap (λ (z : List ListMeaning). record { slots = z }) slots

  parts_once : (kind : ListKind) (xs ys : List PartMeaning) → MeanParts r kind xs → MeanParts r kind ys → xs ≡ ys
  parts_once kind xs ys p q =
      let size : length xs ≡ length ys = p.count ∙ sym q.count in
      same_lists xs ys size (λ n d known. part_once kind n (get_or xs n d) (get_or ys n d) (p.each n d known) (q.each n d (subst (λ (z : ℕ). n < z) size known)))

-- what is read means one thing
meant_once : (file : List ℕ) (r : Reading) (a b : Debug) → IsReading file r → MeansDebug file r a → MeansDebug file r b → a ≡ b
meant_once file r a b read p q =
    let size : length a.units ≡ length b.units = p.units.count ∙ sym q.units.count in
    let units : a.units ≡ b.units = same_lists a.units b.units size (λ u d inside. unit_once file r read u (subst (λ (z : ℕ). u < z) p.units.count inside) (get_or a.units u d) (get_or b.units u d) (p.units.each u d inside) (q.units.each u d (subst (λ (z : ℕ). u < z) size inside))) in
    let tiled = read.links.programs.tiled in
    let programs : a.programs ≡ b.programs = one_lines (debug_line file) a.programs b.programs (line_heads r.links.programs, tiled, p.programs) (line_heads r.links.programs, tiled, q.programs) in
    let lists : (kind : ListKind) → parts_of a kind ≡ parts_of b kind = λ (kind : ListKind). parts_once file r read kind (parts_of a kind) (parts_of b kind) (p.lists kind) (q.lists kind) in
    ap (λ (z : List ProgramMeaning). record { programs = z; units = a.units; ranges = a.ranges; locations = a.locations; aranges = a.aranges }) programs
    ∙ ap (λ (z : List UnitMeaning). record { programs = b.programs; units = z; ranges = a.ranges; locations = a.locations; aranges = a.aranges }) units
    ∙ ap (λ (z : List PartMeaning). record { programs = b.programs; units = b.units; ranges = z; locations = a.locations; aranges = a.aranges }) (lists Ranges)
    ∙ ap (λ (z : List PartMeaning). record { programs = b.programs; units = b.units; ranges = b.ranges; locations = z; aranges = a.aranges }) (lists Locations)
    ∙ ap (λ (z : List SetMeaning). record { programs = b.programs; units = b.units; ranges = b.ranges; locations = b.locations; aranges = z }) (p.aranges ∙ sym q.aranges)

pub debug_once : OneDebug
debug_once file a b (r, r_read, a_means) (s, s_read, b_means) =
    meant_once file r a b r_read a_means (subst (λ (z : Reading). MeansDebug file z b) (reading_once file s r s_read r_read) b_means)
