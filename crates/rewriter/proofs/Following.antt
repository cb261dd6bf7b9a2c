-- A file that is written anew means what the old one means: each entry, and so each unit.
use Rattle.std.proofs.Common.{◌≡◌, ◌<◌, ◌+◌, ◌∙◌, ℕ, List, [], ◌∷◌, length, get_or, sym, subst}
use Rattle.std.specs.Prelude.{Option, Some, None, false, slice_index}
use Rattle.std.specs.List.{AllZip}
use Rattle.std.proofs.lemmas.List.{get_or-map, length-map}
use Rattle.dw_base.specs.declared.classes.Classes.{Classes}
use Rattle.form_codec.specs.Forms.{Meaning}
use Rattle.entry_arena.specs.declared.entry.Entry.{Entry}
use Rattle.entry_arena.specs.Arena.{IsEntryAt}
use Rattle.entry_arena.specs.Forests.{Described}
use Rattle.unit_write.specs.declared.places.Places.{Places}
use Rattle.unit_write.specs.Values.{renewed}
use Rattle.value_links.specs.Reading.{Reading, unit_at}
use Rattle.value_links.specs.Values.{entry_of}
use Rattle.value_links.specs.Resolved.{Resolved, Resolves}
use Rattle.value_links.specs.Debug.{EntryMeaning, UnitMeaning, described, MeansAttribute, MeansEntry, MeansType, MeanEntries, MeansUnit, MeanUnits}
use Rattle.value_links.specs.World.{World}
use Rattle.value_links.proofs.Targets.{entry_once}
use Rattle.value_links.proofs.LinkedOnce.{targets}
use Rattle.rewriter.specs.declared.tables.NewTable.{NewTable}
use Rattle.rewriter.specs.declared.new_places.NewPlaces.{NewPlaces}
use Rattle.rewriter.specs.inside.Tables.{new_table_at}
use Rattle.rewriter.specs.inside.Placed.{places_at}
use Rattle.rewriter.specs.inside.Follows.{AreReadAnew, LinksFollow}
use Rattle.rewriter.proofs.MovedPlaces.{entry_moves}
use Rattle.rewriter.proofs.MovedEntries.{moved, entry_moved, entries_count, same_declared}
use Rattle.rewriter.proofs.MovedAttributes.{IsMovedAttribute, says, attributes_moved}
use Rattle.rewriter.proofs.ListMeanings.{value_follows}
use Rattle.rewriter.proofs.TakenLaws.{links_taken}

abbrev no_entry : Entry
no_entry = record { at = 0; len = 0; depth = 0; decl = 0; first = 0; count = 0 }

module _ {classes : Classes} {file : List ℕ} {world : World} {tables : List NewTable} {places : List Places} {new_places : NewPlaces} {info abbrevs : List ℕ} {r s : Reading} (all : AreReadAnew classes file world tables places new_places info abbrevs r s) where
  -- ENTRIES

  -- the attributes of an entry mean what they meant
  attributes_mean : (u id : ℕ) → u < length r.links.units → id < length (unit_at r.links u).forest.entries → (olds news : List (ℕ × Meaning)) (ys : List (ℕ × Resolved)) → AllZip (IsMovedAttribute r.links places new_places u id) olds news → AllZip (MeansAttribute r u id) olds ys → AllZip (MeansAttribute s u id) news ys
  attributes_mean u id inside known [] [] ys moves means = means
  attributes_mean u id inside known [] (b ∷ news) ys moves means = absurd moves
  attributes_mean u id inside known (a ∷ olds) [] ys moves means = absurd moves
  attributes_mean u id inside known (a ∷ olds) (b ∷ news) [] moves means = absurd means
  attributes_mean u id inside known (a ∷ olds) (b ∷ news) (y ∷ ys) (move, moves) (mean, means) =
      let links = links_taken file r u id a.0 a.1 move.taken mean.value.linked all.read inside move.took mean.value.links in
      let taken : Resolves r u id a.0 move.taken y.1 = record { linked = mean.value.linked; links = links; resolves = mean.value.resolves } in
      let follows : Resolves s u id a.0 (renewed move.number move.made move.taken) y.1 = value_follows all u id a.0 move.taken move.number move.made y.1 inside known move.numbered taken in
      let by_value : Resolves s u id a.0 b.1 y.1 = subst (λ (z : Meaning). Resolves s u id a.0 z y.1) (sym move.value) follows in
      (record { name = mean.name ∙ sym move.name; value = subst (λ (z : ℕ). Resolves s u id z b.1 y.1) (sym move.name) by_value }, attributes_mean u id inside known olds news ys moves means)

  -- so an entry means what it meant
  entry_means : (u id : ℕ) → u < length r.links.units → id < length (unit_at r.links u).forest.entries → (e : EntryMeaning) → MeansEntry r u id (says r.links u (entry_of (unit_at r.links u) id)) e → MeansEntry s u id (says s.links u (entry_of (unit_at s.links u) id)) e
  entry_means u id inside known e means =
      let entry = entry_moved all u id inside known in
      let declared = same_declared all u id inside known in
      record {
        depth = means.depth ∙ sym entry.depth;
        tag = means.tag ∙ sym declared.tag;
        children = means.children ∙ sym declared.children;
        attributes = attributes_mean u id inside known (says r.links u (entry_of (unit_at r.links u) id)).attributes (says s.links u (entry_of (unit_at s.links u) id)).attributes e.attributes (attributes_moved all u id inside known) means.attributes;
      }

  -- UNITS

  entries_mean : (u : ℕ) → u < length r.links.units → (entries : List EntryMeaning) → MeanEntries r u entries → MeanEntries s u entries
  entries_mean u inside entries means =
      let none : Described = record { depth = 0; tag = 0; children = false; attributes = [] } in
      let old_size : length (described (unit_at r.links u)) ≡ length (unit_at r.links u).forest.entries = length-map (unit_at r.links u).forest.entries (says r.links u) in
      let new_size : length (described (unit_at s.links u)) ≡ length (unit_at s.links u).forest.entries = length-map (unit_at s.links u).forest.entries (says s.links u) in
      let size : length entries ≡ length (unit_at r.links u).forest.entries = means.count ∙ old_size in
      record {
        count = size ∙ entries_count all u inside ∙ sym new_size;
        each = λ id d e here.
            let known : id < length (unit_at r.links u).forest.entries = subst (λ (z : ℕ). id < z) size here in
            let also : id < length (unit_at s.links u).forest.entries = subst (λ (z : ℕ). id < z) (entries_count all u inside) known in
            let old : get_or (described (unit_at r.links u)) id none ≡ says r.links u (entry_of (unit_at r.links u) id) = get_or-map (says r.links u) (unit_at r.links u).forest.entries id no_entry none known in
            let new : get_or (described (unit_at s.links u)) id d ≡ says s.links u (entry_of (unit_at s.links u) id) = get_or-map (says s.links u) (unit_at s.links u).forest.entries id no_entry d also in
            subst (λ (z : Described). MeansEntry s u id z (get_or entries id e)) (sym new) (entry_means u id inside known (get_or entries id e) (subst (λ (z : Described). MeansEntry r u id z (get_or entries id e)) old (means.each id none e here)));
      }

  -- a type unit has the entry of its type
  type_means : (u : ℕ) → u < length r.links.units → (entry : Option ℕ) → MeansType r.links u entry → MeansType s.links u entry
  type_means u inside (Some id) (is_type, here) =
      let m = moved all u inside in
      let moves = m.numbered.type_at.entry is_type in
      let same : moves.id ≡ id = entry_once (unit_at r.links u).forest (targets file r.links all.read.links u inside).order moves.id id ((unit_at r.links u).head.at + (unit_at r.links u).head.type_at) (moves.inside, moves.from) here in
      let stands : IsEntryAt (unit_at s.links u).forest moves.id ((places_at places u).start + m.numbers.type_offset) =
      entry_moves (unit_at r.links u).forest (unit_at s.links u).forest (places_at places u) (new_table_at tables (slice_index world.table_of u)).numbers m.entries m.chain_ends m.entry_places m.end_places ((unit_at r.links u).head.at + (unit_at r.links u).head.type_at) ((places_at places u).start + m.numbers.type_offset) moves in
      let begins = subst (λ (z : ℕ). IsEntryAt (unit_at s.links u).forest moves.id (z + m.numbers.type_offset)) (sym m.at) stands in
      let offset = subst (λ (z : ℕ). IsEntryAt (unit_at s.links u).forest moves.id ((unit_at s.links u).head.at + z)) (sym m.type_at) begins in
      (m.kind ∙ is_type, subst (λ (z : ℕ). IsEntryAt (unit_at s.links u).forest z ((unit_at s.links u).head.at + (unit_at s.links u).head.type_at)) same offset)
  type_means u inside None other = λ is_type. other (sym (moved all u inside).kind ∙ is_type)

  unit_means : (u : ℕ) → u < length r.links.units → (unit : UnitMeaning) → MeansUnit r u unit → MeansUnit s u unit
  unit_means u inside unit means =
      let m = moved all u inside in
      record {
        unit_type = means.unit_type ∙ sym m.kind;
        signature = means.signature ∙ sym m.extra;
        type_entry = type_means u inside unit.type_entry means.type_entry;
        forest = entries_mean u inside unit.forest means.forest;
      }

  pub units_mean : (units : List UnitMeaning) → MeanUnits r units → MeanUnits s units
  units_mean units means = record {
    count = means.count ∙ sym all.units.count;
    each = λ u d here. unit_means u (subst (λ (z : ℕ). u < z) means.count here) (get_or units u d) (means.each u d here);
  }

pub links_follow : LinksFollow
links_follow classes file world tables places new_places info abbrevs r s units all means = units_mean all units means
