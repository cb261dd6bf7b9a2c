-- A generated file means what is drawn.
use Rattle.std.proofs.Common.{◌≡◌, ◌≢◌, ◌≤◌, ◌<◌, ℕ, List, [], ◌∷◌, length, get_or, ◌∙◌, sym, ap, refl, subst, arith}
use Rattle.std.specs.List.{All, AllZip}
use Rattle.std.proofs.lemmas.List.{length-map, get_or-map}
use Rattle.line_write.specs.Meaning.{HaveMeanings}
use Rattle.form_codec.specs.Forms.{Meaning}
use Rattle.entry_arena.specs.declared.entry.Entry.{Entry}
use Rattle.entry_arena.specs.Forests.{Described}
use Rattle.entry_read.specs.Heads.{compile_unit, type_unit}
use Rattle.list_model.specs.declared.entry.ListKind.{ListKind}
use Rattle.list_model.specs.declared.entry.ListKind.TheVariants.{Ranges, Locations}
use Rattle.value_links.specs.Sections.{debug_line}
use Rattle.value_links.specs.Reading.{UnitRead, Reading, line_heads, unit_at}
use Rattle.value_links.specs.Linked.{Linked}
use Rattle.value_links.specs.Resolved.{Resolved, ResolvesLink}
use Rattle.value_links.specs.Debug.{EntryMeaning, described, MeansAttribute, MeansEntry, MeansUnit, MeanUnits, MeanParts, MeansDebug, parts_of}
use Rattle.sample_maker.specs.Numbered.{map_from}
use Rattle.sample_maker.specs.Drawn.{UnitDrawn}
use Rattle.sample_maker.specs.Places.{function_address}
use Rattle.sample_maker.specs.Generated.{location_meaning, range_meaning, view_pairs, program_meaning, unit_meaning, set_meaning, one_part}
use Rattle.sample_maker.specs.inside.Small.{IsUnitSmall}
use Rattle.sample_maker.specs.inside.ReadLists.{block_address}
use Rattle.sample_maker.specs.inside.ReadUnits.{drawn_at, unit_part}
use Rattle.sample_maker.specs.inside.ReadImage.{file_of}
use Rattle.sample_maker.specs.inside.ReadFile.{reading_of, UnitPlaced, placed_at, placed_read, EntryPlaced, entries_placed, entry_numbered, entry_said, attributes_said, entry_linked, entry_meant, attributes_meant}
use Rattle.sample_maker.specs.inside.ReadFile.EntryPlaced.{TheRoot, TheFunction, TheParameter, TheBlock, TheType}
use Rattle.sample_maker.proofs.ProgramsRead.{programs_mean}
use Rattle.sample_maker.proofs.GeneratedImage.{line_there, sets_mean}
use Rattle.sample_maker.proofs.UnitsPlaced.{mapped_count, count_is, unit_is, context_is, meaning_is, block_among, parameter_among}
use Rattle.sample_maker.proofs.PlacedEntries.{IsPlaced, each_placed}
use Rattle.sample_maker.proofs.EntriesSay.{unit_means_placed}
use Rattle.sample_maker.proofs.EntriesLink.{AttributeLinks}
use Rattle.sample_maker.proofs.SaidEntries.{all_said}
use Rattle.sample_maker.proofs.EntriesName.{numbered_links, lists_named}
use Rattle.sample_maker.proofs.NamedLists.{parts_mean, block_means, parameter_means, views_among}

-- what attributes refer to resolves to what they mean
zip_means : (s : Reading) (u id : ℕ) (said : List (ℕ × Meaning)) (linked : List Linked) (meant : List (ℕ × Resolved)) → AllZip (AttributeLinks s.links u id) said linked → AllZip (λ (l : Linked) (v : ℕ × Resolved). ResolvesLink s l v.1) linked meant → AllZip (λ (a : ℕ × Meaning) (v : ℕ × Resolved). v.0 ≡ a.0) said meant → AllZip (MeansAttribute s u id) said meant
zip_means s u id [] linked [] links resolve names = tt
zip_means s u id [] linked (v ∷ vs) links resolve names = absurd names
zip_means s u id (a ∷ rest) linked [] links resolve names = absurd names
zip_means s u id (a ∷ rest) [] (v ∷ vs) links resolve names = absurd links
zip_means s u id (a ∷ rest) (l ∷ ls) (v ∷ vs) links resolve names =
    (record { name = names.0; value = record { linked = l; links = links.0; resolves = resolve.0 } }, zip_means s u id rest ls vs links.1 resolve.1 names.1)

names_same : (u : ℕ) (p : UnitPlaced) (e : EntryPlaced) → AllZip (λ (a : ℕ × Meaning) (v : ℕ × Resolved). v.0 ≡ a.0) (attributes_said u p e) (attributes_meant u p e)
names_same u p TheRoot = (refl, (refl, (refl, (refl, (refl, (refl, (refl, tt)))))))
names_same u p (TheFunction f) = (refl, (refl, (refl, (refl, (refl, (refl, (refl, (refl, (refl, tt)))))))))
names_same u p (TheParameter q) = (refl, (refl, (refl, (refl, (refl, tt)))))
names_same u p (TheBlock b) = (refl, tt)
names_same u p TheType = (refl, (refl, (refl, tt)))

not_type : compile_unit ≢ type_unit
not_type e = omega (arith, e)

module _ (units : List UnitDrawn) (small : All IsUnitSmall units) (few : length units ≤ 4096) where
  abbrev s : Reading
  s = reading_of units

  module _ (u : ℕ) (inside : u < length units) where
    abbrev p : UnitPlaced
    p = placed_at units u

    abbrev entries : List EntryPlaced
    entries = entries_placed u p

    abbrev es : List Entry
    es = (unit_part p.at u p.program p.locations p.ranges p.unit).entries

    resolve : (e : EntryPlaced) → IsPlaced u p es e → AllZip (λ (l : Linked) (v : ℕ × Resolved). ResolvesLink s l v.1) (entry_linked u p e) (attributes_meant u p e)
    resolve TheRoot is = (refl, (refl, (refl, (refl, (refl, (refl, (refl, tt)))))))
    resolve (TheFunction f) is = (refl, (refl, (refl, (refl, (refl, (refl, (refl, (refl, (refl, tt)))))))))
    resolve (TheParameter q) is =
        let among = parameter_among units u q inside is.one in
        let list = parameter_means s.links.programs s.links.units s.links.addresses s.links.contexts units s.sets small few (context_is units) (lists_named units small few) q among in
        let views = views_among s.links.programs s.links.units s.links.addresses s.links.contexts units s.sets small few (context_is units) q among in
        (refl, (refl, (refl, ((location_meaning (function_address q.unit q.number) q.size q.parameter, list, refl), ((view_pairs, views, refl), tt)))))
    resolve (TheBlock b) is =
        let list = block_means s.links.programs s.links.units s.links.addresses s.links.contexts units s.sets small few (context_is units) (lists_named units small few) b (block_among units u b inside is.one) in
        ((range_meaning (block_address b) b.sizes, list, refl), tt)
    resolve TheType is = (refl, (refl, (refl, tt)))

    entry_means : (id : ℕ) → id < length entries → MeansEntry s u id (entry_said u p (entry_numbered u p id)) (entry_meant u p (entry_numbered u p id))
    entry_means id known =
        let e : EntryPlaced = entry_numbered u p id in
        record {
          depth = refl;
          tag = refl;
          children = refl;
          attributes = zip_means s u id (attributes_said u p e) (entry_linked u p e) (attributes_meant u p e) (numbered_links units small few u inside id known) (resolve e (each_placed u p id TheRoot known)) (names_same u p e);
        }

    abbrev meant : List EntryMeaning
    meant = (unit_meaning u (drawn_at units u)).forest

    meant_count : length meant ≡ length entries
    meant_count = ap (λ (z : List EntryMeaning). length z) (unit_means_placed u p) ∙ length-map entries (entry_meant u p)

    each_means : (id : ℕ) (d : Described) (e : EntryMeaning) → id < length meant → MeansEntry s u id (get_or (described (unit_at s.links u)) id d) (get_or meant id e)
    each_means id d e lt =
        let known : id < length entries = omega (arith, lt, meant_count) in
        let said_is : get_or (described (unit_at s.links u)) id d ≡ entry_said u p (entry_numbered u p id) = ap (λ (z : List Described). get_or z id d) (all_said units small few u inside) ∙ get_or-map (entry_said u p) entries id TheRoot d known in
        let meant_is : get_or meant id e ≡ entry_meant u p (entry_numbered u p id) = ap (λ (z : List EntryMeaning). get_or z id e) (unit_means_placed u p) ∙ get_or-map (entry_meant u p) entries id TheRoot e known in
        subst (λ (z : Described). MeansEntry s u id z (get_or meant id e)) (sym said_is) (subst (λ (z : EntryMeaning). MeansEntry s u id (entry_said u p (entry_numbered u p id)) z) (sym meant_is) (entry_means id known))

    said_count : length (described (unit_at s.links u)) ≡ length entries
    said_count = ap (λ (z : List Described). length z) (all_said units small few u inside) ∙ length-map entries (entry_said u p)

    unit_means : MeansUnit s u (unit_meaning u (drawn_at units u))
    unit_means =
        let here : unit_at s.links u ≡ placed_read _ u p = unit_is units small few u inside in
        let kind : (unit_at s.links u).head.kind ≡ compile_unit = ap (λ (z : UnitRead). z.head.kind) here in
        record {
          unit_type = sym kind;
          signature = sym (ap (λ (z : UnitRead). z.head.extra) here);
          type_entry = subst (λ (z : ℕ). z ≢ type_unit) (sym kind) not_type;
          forest = record { count = meant_count ∙ sym said_count; each = each_means };
        }

  units_mean : MeanUnits s (map_from unit_meaning 0 units)
  units_mean =
      let counted : length (map_from unit_meaning 0 units) ≡ length units = mapped_count unit_meaning 0 units in
      record {
        count = counted ∙ sym (count_is units);
        each = λ u d lt.
            let inside : u < length units = omega (arith, lt, counted) in
            subst (MeansUnit s u) (sym (meaning_is units u d inside)) (unit_means u inside);
      }

  parts_meant : (kind : ListKind) → MeanParts s kind one_part
  parts_meant kind = parts_mean s.links.programs s.links.units s.links.addresses s.links.contexts units s.sets small few (context_is units) kind

  programs_meant : HaveMeanings (debug_line (file_of units)) (line_heads s.links.programs) (map_from program_meaning 0 units)
  programs_meant = subst (λ (z : List ℕ). HaveMeanings z (line_heads s.links.programs) (map_from program_meaning 0 units)) (sym (line_there units small few)) (programs_mean units small few)

  pub file_means : MeansDebug (file_of units) s (record { programs = map_from program_meaning 0 units; units = map_from unit_meaning 0 units; ranges = one_part; locations = one_part; aranges = map_from set_meaning 0 units })
  file_means = record {
    programs = programs_meant;
    units = units_mean;
    lists = lists_mean;
    aranges = sym (sets_mean 0 0 units);
  }
    where
      lists_mean : (kind : ListKind) → MeanParts s kind (parts_of (record { programs = map_from program_meaning 0 units; units = map_from unit_meaning 0 units; ranges = one_part; locations = one_part; aranges = map_from set_meaning 0 units }) kind)
      lists_mean Ranges = parts_meant Ranges
      lists_mean Locations = parts_meant Locations
