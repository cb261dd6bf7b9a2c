-- What the attributes of an entry refer to, by what stands where they say.
use Rattle.std.proofs.Common.{◌≡◌, ℕ, suc, [], ◌∷◌, refl}
use Rattle.std.specs.Prelude.{pos}
use Rattle.std.specs.List.{AllZip}
use Rattle.form_codec.specs.Forms.{Meaning}
use Rattle.form_codec.specs.Forms.Meaning.{Text, Whole, InUnit, SectionPlace}
use Rattle.entry_arena.specs.declared.entry.Target.TheVariants.{Entry as TheEntry}
use Rattle.list_model.specs.declared.entry.ListKind.TheVariants.{Ranges, Locations}
use Rattle.value_links.specs.Reading.{Linkable, unit_at, of_kind}
use Rattle.value_links.specs.Values.{described_at}
use Rattle.value_links.specs.ListPlaces.{IsListPlace}
use Rattle.value_links.specs.Linked.{Linked, IsLocalTarget, IsProgramAt, IsFirstLocated, Links}
use Rattle.sample_maker.specs.Places.{type_entry}
use Rattle.sample_maker.specs.Generated.{plain}
use Rattle.sample_maker.specs.inside.Files.{type_place}
use Rattle.sample_maker.specs.inside.ReadLists.{ParameterPlaced, located_at}
use Rattle.sample_maker.specs.inside.ReadFile.{UnitPlaced, EntryPlaced, sibling_place, sibling_entry, attributes_said, entry_linked}
use Rattle.sample_maker.specs.inside.ReadFile.EntryPlaced.{TheRoot, TheFunction, TheParameter, TheBlock, TheType}
use Rattle.sample_maker.proofs.ReadExpressions.{frame_base_links}

-- the entry of the type of a unit stands where references to it say
abbrev pub HasType : Linkable → ℕ → UnitPlaced → Type 0
HasType r u p = IsLocalTarget r u (type_place p.unit) (TheEntry (type_entry p.unit))

-- What an entry refers to is there: the program; the type, and the next sibling; the type, the list and the view pairs; or the list.
abbrev pub HasAims : Linkable → ℕ → UnitPlaced → EntryPlaced → Type 0
HasAims r u p TheRoot = IsProgramAt r p.program u
HasAims r u p (TheFunction f) = HasType r u p × IsLocalTarget r u (sibling_place f) (TheEntry (sibling_entry f))
HasAims r u p (TheParameter q) = HasType r u p × IsListPlace (of_kind r Locations) 0 (located_at q) × IsListPlace (of_kind r Locations) 0 q.at
HasAims r u p (TheBlock b) = IsListPlace (of_kind r Ranges) 0 b.at
HasAims r u p TheType = Unit {0}

-- the attribute refers to this
abbrev pub AttributeLinks : Linkable → ℕ → ℕ → ℕ × Meaning → Linked → Type 0
AttributeLinks r u id attribute linked = Links r u id attribute.0 attribute.1 linked

-- the list of a parameter is that of its first location
first_located : (r : Linkable) (u id : ℕ) (p : UnitPlaced) (q : ParameterPlaced) → (described_at (unit_at r u) id).attributes ≡ attributes_said u p (TheParameter q) → IsListPlace (of_kind r Locations) 0 (located_at q) → IsFirstLocated r u id (located_at q)
first_located r u id p q said list = record {
  before = (0x03, Text (0x78 ∷ [])) ∷ (0x3b, Whole (pos (suc q.number))) ∷ (0x49, InUnit (type_place p.unit)) ∷ [];
  attribute = (0x02, SectionPlace (located_at q));
  after = (0x2137, SectionPlace q.at) ∷ [];
  parts = said;
  first = refl;
  located = refl;
  tells = ((0, list), refl);
}

pub entry_links : (r : Linkable) (u id : ℕ) (p : UnitPlaced) (e : EntryPlaced) → (described_at (unit_at r u) id).attributes ≡ attributes_said u p e → HasAims r u p e → AllZip (AttributeLinks r u id) (attributes_said u p e) (entry_linked u p e)
entry_links r u id p TheRoot said aims = (refl, (refl, (refl, (refl, (refl, (refl, ((u, aims, refl), tt)))))))
entry_links r u id p (TheFunction f) said aims =
    (refl, (refl, (refl, (refl, ((TheEntry (type_entry p.unit), aims.0, refl), (refl, (refl, ((plain 0x9c ∷ [], frame_base_links r u, refl), ((TheEntry (sibling_entry f), aims.1, refl), tt)))))))))
entry_links r u id p (TheParameter q) said aims =
    (refl, (refl, ((TheEntry (type_entry p.unit), aims.0, refl), (((0, aims.1), refl), ((located_at q, first_located r u id p q said aims.1, (λ any. (0, aims.1, aims.2)), refl), tt)))))
entry_links r u id p (TheBlock b) said aims = (((0, aims), refl), tt)
entry_links r u id p TheType said aims = (refl, (refl, (refl, tt)))
