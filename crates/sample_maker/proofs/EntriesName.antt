-- The entries of a generated file name the lists of its blocks and parameters and the view pairs of the latter, and no others.
use Rattle.std.proofs.Common.{◌≡◌, ◌≤◌, ◌<◌, ℕ, zero, suc, List, [], ◌∷◌, length, ◌∙◌, sym, refl, subst, arith}
use Rattle.std.specs.List.{All, AllZip, Contains}
use Rattle.std.proofs.lemmas.List.{get_or_default}
use Rattle.std.proofs.lemmas.List.Elements.{All-from_recursion, All-contains}
use Rattle.form_codec.specs.Forms.{Meaning}
use Rattle.form_codec.specs.Forms.Meaning.{SectionPlace}
use Rattle.entry_arena.specs.declared.entry.Entry.{Entry}
use Rattle.list_model.specs.declared.entry.ListKind.{ListKind}
use Rattle.list_model.specs.declared.entry.ListKind.TheVariants.{Ranges, Locations}
use Rattle.value_links.specs.Reading.{Linkable}
use Rattle.value_links.specs.Linked.{Linked, Links, IsLinked}
use Rattle.value_links.specs.Linked.Linked.{ListAt, SlotAt, ViewsAt}
use Rattle.value_links.specs.Lists.{LinkNames, IsNamedIn, AreViewsNamed}
use Rattle.value_links.proofs.LinkedOnce.{linked_once}
use Rattle.sample_maker.specs.Drawn.{UnitDrawn}
use Rattle.sample_maker.specs.inside.Small.{IsUnitSmall}
use Rattle.sample_maker.specs.inside.ReadLists.{BlockPlaced, function_blocks, unit_blocks, ParameterPlaced, located_at, function_parameters, unit_parameters}
use Rattle.sample_maker.specs.inside.ReadUnits.{unit_part}
use Rattle.sample_maker.specs.inside.ReadImage.{file_of}
use Rattle.sample_maker.specs.inside.ReadFile.{links_of, UnitPlaced, placed_at, EntryPlaced, entries_placed, entry_numbered, attributes_said, entry_linked}
use Rattle.sample_maker.specs.inside.ReadFile.EntryPlaced.{TheRoot, TheFunction, TheParameter, TheBlock, TheType}
use Rattle.sample_maker.specs.inside.NamedLists.{AreListsNamed}
use Rattle.sample_maker.proofs.UnitsPlaced.{count_is, block_among, parameter_among, block_unit, parameter_unit}
use Rattle.sample_maker.proofs.PlacedEntries.{IsPlaced, each_placed, blocks_of, parameters_of, block_entry_there, parameter_entry_there}
use Rattle.sample_maker.proofs.EntriesLink.{AttributeLinks, entry_links}
use Rattle.sample_maker.proofs.EntriesAim.{all_aims}
use Rattle.sample_maker.proofs.SaidEntries.{attributes_are, value_is_said, said_value}
use Rattle.sample_maker.proofs.LinksRead.{links_read}

-- what stands beside one of the first list
pub zip_one : {A B : Type 0} (R : A → B → Type 0) (xs : List A) (ys : List B) (x : A) → AllZip R xs ys → Contains xs x → (y : B) × Contains ys y × R x y
zip_one R [] ys x zip (k, lt, is) = absurd (omega (arith, lt))
zip_one R (z ∷ xs) [] x zip has = absurd zip
zip_one {A} R (z ∷ xs) (y ∷ ys) x zip (zero, lt, is) = (y, (0, omega arith, refl), subst (λ (w : A). R w y) is zip.0)
zip_one R (z ∷ xs) (y ∷ ys) x zip (suc k, lt, is) =
    let (w, (j, inside, same), holds) = zip_one R xs ys x zip.1 (k, omega (arith, lt), is) in
    (w, (suc j, omega (arith, inside), same), holds)

-- a list or view pairs are those of a block or of a parameter of the unit; nothing is named by a slot
abbrev pub IsKnown : List UnitDrawn → ℕ → Linked → Type 0
IsKnown units u (ListAt Ranges at) = (b : BlockPlaced) × Contains (unit_blocks 0 0 units) b × (b.at ≡ at) × (b.unit ≡ u)
IsKnown units u (ListAt Locations at) = (q : ParameterPlaced) × Contains (unit_parameters 0 0 units) q × (located_at q ≡ at) × (q.unit ≡ u)
IsKnown units u (ViewsAt list at) = (q : ParameterPlaced) × Contains (unit_parameters 0 0 units) q × (located_at q ≡ list) × (q.at ≡ at)
IsKnown units u (SlotAt kind p i) = ⊥
IsKnown units u linked = Unit {0}

module _ (units : List UnitDrawn) (small : All IsUnitSmall units) (few : length units ≤ 4096) where
  abbrev r : Linkable
  r = links_of units

  module _ (u : ℕ) (inside : u < length units) where
    abbrev p : UnitPlaced
    p = placed_at units u

    abbrev es : List Entry
    es = (unit_part p.at u p.program p.locations p.ranges p.unit).entries

    block_own : (b : BlockPlaced) → Contains (function_blocks u 0 p.ranges p.unit) b → b.unit ≡ u
    block_own b has = All-contains (λ (z : BlockPlaced). z.unit ≡ u) (function_blocks u 0 p.ranges p.unit) b (blocks_of u 0 p.ranges p.unit) has

    parameter_own : (q : ParameterPlaced) → Contains (function_parameters u 0 p.locations p.unit) q → q.unit ≡ u
    parameter_own q has = All-contains (λ (z : ParameterPlaced). z.unit ≡ u) (function_parameters u 0 p.locations p.unit) q (parameters_of u 0 p.locations p.unit) has

    -- WHAT ENTRIES REFER TO IS KNOWN

    linked_known : (e : EntryPlaced) → IsPlaced u p es e → All (IsKnown units u) (entry_linked u p e)
    linked_known TheRoot is = All-from_recursion (IsKnown units u) (entry_linked u p TheRoot) (tt, (tt, (tt, (tt, (tt, (tt, (tt, tt)))))))
    linked_known (TheFunction f) is = All-from_recursion (IsKnown units u) (entry_linked u p (TheFunction f)) (tt, (tt, (tt, (tt, (tt, (tt, (tt, (tt, (tt, tt)))))))))
    linked_known (TheParameter q) is =
        let among : Contains (unit_parameters 0 0 units) q = parameter_among units u q inside is.one in
        All-from_recursion (IsKnown units u) (entry_linked u p (TheParameter q)) (tt, (tt, (tt, ((q, among, refl, parameter_own q is.one), ((q, among, refl, refl), tt)))))
    linked_known (TheBlock b) is = All-from_recursion (IsKnown units u) (entry_linked u p (TheBlock b)) ((b, block_among units u b inside is.one, refl, block_own b is.one), tt)
    linked_known TheType is = All-from_recursion (IsKnown units u) (entry_linked u p TheType) (tt, (tt, (tt, tt)))

    -- what the entry with a number refers to
    pub numbered_links : (id : ℕ) → id < length (entries_placed u p) → AllZip (AttributeLinks r u id) (attributes_said u p (entry_numbered u p id)) (entry_linked u p (entry_numbered u p id))
    numbered_links id known = entry_links r u id p (entry_numbered u p id) (attributes_are units small few u inside id known) (all_aims units small few u inside id TheRoot known)

    -- a value that stands somewhere refers to what is known
    pub value_known : (number : ℕ) (l : Linked) → IsLinked r u number l → IsKnown units u l
    value_known number l is =
        let (known, said) = value_is_said units small few u inside is.id number is.name is.meaning is.place is.stands in
        let e : EntryPlaced = entry_numbered u p is.id in
        let (other, among, links) = zip_one (AttributeLinks r u is.id) (attributes_said u p e) (entry_linked u p e) (is.name, is.meaning) (numbered_links is.id known) said in
        let same : other ≡ l = linked_once (file_of units) r u is.id is.name is.meaning other l (links_read units small few) (omega (arith, inside, count_is units)) links is.links in
        subst (IsKnown units u) same (All-contains (IsKnown units u) (entry_linked u p e) other (linked_known e (each_placed u p is.id TheRoot known)) among)

    -- EACH IS NAMED

    -- a value of an entry that is one of these
    linked_value : (e : EntryPlaced) (name : ℕ) (meaning : Meaning) (l : Linked) → Contains (entries_placed u p) e → Contains (attributes_said u p e) (name, meaning) → ((id : ℕ) → AllZip (AttributeLinks r u id) (attributes_said u p e) (entry_linked u p e) → Links r u id name meaning l) → (number : ℕ) × IsLinked r u number l
    linked_value e name meaning l (id, known, is) said links =
        let same : entry_numbered u p id ≡ e = get_or_default (entries_placed u p) id TheRoot e known ∙ is in
        let (number, place, stands) = said_value units small few u inside id name meaning known (subst (λ (z : EntryPlaced). Contains (attributes_said u p z) (name, meaning)) (sym same) said) in
        let own = subst (λ (z : EntryPlaced). AllZip (AttributeLinks r u id) (attributes_said u p z) (entry_linked u p z)) same (numbered_links id known) in
        (number, record { id = id; name = name; meaning = meaning; place = place; stands = stands; links = links id own })

    in_links : u < length r.units
    in_links = omega (arith, inside, count_is units)

    block_named : (b : BlockPlaced) → Contains (function_blocks u 0 p.ranges p.unit) b → IsNamedIn r Ranges b.at u
    block_named b has =
        let (number, is) = linked_value (TheBlock b) 0x55 (SectionPlace b.at) (ListAt Ranges b.at) (block_entry_there u p b has) (0, omega arith, refl) (λ id links. links.0) in
        record { known = in_links; number = number; linked = ListAt Ranges b.at; links = is; names = (refl, refl) }

    parameter_named : (q : ParameterPlaced) → Contains (function_parameters u 0 p.locations p.unit) q → IsNamedIn r Locations (located_at q) u
    parameter_named q has =
        let (number, is) = linked_value (TheParameter q) 0x02 (SectionPlace (located_at q)) (ListAt Locations (located_at q)) (parameter_entry_there u p q has) (3, omega arith, refl) (λ id links. links.1.1.1.0) in
        record { known = in_links; number = number; linked = ListAt Locations (located_at q); links = is; names = (refl, refl) }

    views_named : (q : ParameterPlaced) → Contains (function_parameters u 0 p.locations p.unit) q → AreViewsNamed r (located_at q) q.at
    views_named q has =
        let (number, is) = linked_value (TheParameter q) 0x2137 (SectionPlace q.at) (ViewsAt (located_at q) q.at) (parameter_entry_there u p q has) (4, omega arith, refl) (λ id links. links.1.1.1.1.0) in
        (u, number, in_links, is)

  -- ALL NAMES

  known_list : (kind : ListKind) (at u : ℕ) (l : Linked) → IsKnown units u l → LinkNames r l kind at → IsKnown units u (ListAt kind at)
  known_list kind at u (ListAt of n) known (same, place) = subst (λ (z : ListKind). IsKnown units u (ListAt z at)) (sym same) (subst (λ (z : ℕ). IsKnown units u (ListAt of z)) (sym place) known)
  known_list kind at u (SlotAt of p i) known names = absurd known
  known_list kind at u l known names = absurd names

  below : (u : ℕ) → u < length r.units → u < length units
  below u inside = omega (arith, inside, count_is units)

  pub lists_named : AreListsNamed r units
  lists_named = record {
    blocks = λ b has.
        let (u, inside, own) = block_unit units b has in
        subst (λ (z : ℕ). IsNamedIn r Ranges b.at z) (sym (block_own u inside b own)) (block_named u inside b own);
    only_blocks = λ at u named. known_list Ranges at u named.linked (value_known u (below u named.known) named.number named.linked named.links) named.names;
    parameters = λ q has.
        let (u, inside, own) = parameter_unit units q has in
        subst (λ (z : ℕ). IsNamedIn r Locations (located_at q) z) (sym (parameter_own u inside q own)) (parameter_named u inside q own);
    only_parameters = λ at u named. known_list Locations at u named.linked (value_known u (below u named.known) named.number named.linked named.links) named.names;
    views = λ q has.
        let (u, inside, own) = parameter_unit units q has in
        views_named u inside q own;
    only_views = λ list at (u, number, inside, is). value_known u (below u inside) number (ViewsAt list at) is;
  }
