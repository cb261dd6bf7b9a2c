-- What is held of sections of lists, and of the lists that are read.
use Rattle.std.proofs.Common.{◌≡◌, ◌≤◌, ◌<◌, ◌⊎◌, ◌∙◌, inl, inr, ℕ, List, [], ◌∷◌, length, get_or, sym, ap, subst, arith}
use Rattle.std.specs.Prelude.{Option, Some, None, IfSome}
use Rattle.std.specs.List.{All}
use Rattle.std.proofs.lemmas.List.Elements.{All-nil, All-cons, All-from_get_or}
use Rattle.std.proofs.lemmas.Slice.Zip.{AllZip-long}
use Rattle.form_codec.specs.Forms.{Meaning}
use Rattle.abbrev_tables.specs.Listings.{Listing}
use Rattle.entry_read.specs.Units.{HeadAndForest, declarations_of}
use Rattle.list_model.specs.declared.entry.ListKind.{ListKind}
use Rattle.list_model.specs.declared.context.Context.{Context}
use Rattle.list_model.specs.declared.tables.AddrTable.{AddrTable}
use Rattle.list_model.specs.Contributions.{ContributionsTile, part_end}
use Rattle.list_model.specs.Items.{HasTable}
use Rattle.list_model.proofs.Tiling.{part_inside}
use Rattle.list_model.specs.declared.item.Meaning.{Meaning as HeldMeaning}
use Rattle.list_model.specs.declared.item.Meaning.TheVariants.{Live, Dead}
use Rattle.list_arena.specs.Held.{HeldList}
use Rattle.value_links.specs.declared.parts.Parts.{Parts}
use Rattle.value_links.specs.declared.units.Units.{Units}
use Rattle.value_links.specs.Reading.{UnitRead, ListSection, ListRead, Linkable, unit_at, unit_among, of_kind, part_at, list_at}
use Rattle.value_links.specs.ListPlaces.{IsListPlace, base_of}
use Rattle.value_links.specs.Values.{root_of}
use Rattle.value_links.specs.Contexts.{IsTableOf, IsContext}
use Rattle.value_links.specs.Whole.{AreContexts}
use Rattle.value_links.specs.Lists.{IsFrozen, AreTold}
use Rattle.value_links.specs.Parts.{HoldUnits, IsBaseFound, HaveBases, lists_in, bases_in, HoldsLists, HoldsParts}
use Rattle.value_links.specs.World.{HoldsMeaning, HoldsList, HoldLists}
use Rattle.value_links.specs.inside.Checks.{table_held, root_attributes}
use Rattle.value_links.specs.inside.ListPlaces.{AreContributions, IsPartFound, AreBasesHeld}
use Rattle.value_links.proofs.PartPlaces.{part_stands}
use Rattle.value_links.proofs.HeldUnits.{held_count, held_is}
use Rattle.value_links.proofs.TabledUnits.{table_is}

-- BASES

-- the contributions that roots name, by what is held, are those by what was read
base_read : (section : ListSection) (name : ℕ) (read : List UnitRead) (held : Units) (bases : List (Option ℕ)) → HoldUnits read held → AreBasesHeld section name held bases → (u : ℕ) → u < length read → IsPartFound section (root_of (unit_among read u)).attributes name (get_or bases u None)
base_read section name read held bases holds are u known =
    let counted : length held.units.items ≡ length read = held_count read held.units.items holds.units in
    let here = are.each u (subst (λ (n : ℕ). u < n) (sym counted) known) in
    subst (λ (z : Listing). IsPartFound section (root_attributes (unit_among read u).forest (declarations_of z)) name (get_or bases u None)) (table_is read held u holds known)
    (subst (λ (z : HeadAndForest). IsPartFound section (root_attributes z.forest (declarations_of (table_held held u))) name (get_or bases u None)) (held_is read held.units.items holds.units u known) here)

base_found : (r : Linkable) (kind : ListKind) (u : ℕ) (found : Option ℕ) → IsPartFound (of_kind r kind) (root_of (unit_at r u)).attributes (base_of kind) found → IsBaseFound r u kind found
base_found r kind u (Some p) named = named
base_found r kind u None none = none

pub bases_read : (r : Linkable) (kind : ListKind) (held : Units) (bases : List (Option ℕ)) → HoldUnits r.units held → AreBasesHeld (of_kind r kind) (base_of kind) held bases → HaveBases r kind bases
bases_read r kind held bases holds are = record {
  count = are.count ∙ held_count r.units held.units.items holds.units;
  each = λ u known. base_found r kind u (get_or bases u None) (base_read (of_kind r kind) (base_of kind) r.units held bases holds are u known);
}

-- PLACES

-- a list begins within its section
pub place_inside : (section : ListSection) (p at : ℕ) → ContributionsTile section.section section.parts → IsListPlace section p at → at < length section.section
place_inside section p at tiled (inside, holds) =
    let ends : part_end (part_at section p) ≤ length section.section = (part_inside section.section (part_at section p) (part_stands section.section section.parts tiled p inside)).1 in
    let before : at < part_end (part_at section p) = holds.before in
    omega arith

-- CONTEXTS

has_table : (addr : List ℕ) (attributes : List (ℕ × Meaning)) (found : Option AddrTable) → IsTableOf addr attributes found → HasTable addr found
has_table addr attributes (Some table) (base, first, has) = has.stands
has_table addr attributes None none = tt

-- the tables of contexts stand in the section of addresses
tables_stand : (addr : List ℕ) (units : List UnitRead) (contexts : List Context) → AreContexts addr units contexts → All (λ (context : Context). HasTable addr context.table) contexts
tables_stand addr [] [] are = All-nil (λ (context : Context). HasTable addr context.table)
tables_stand addr [] (context ∷ contexts) are = absurd are
tables_stand addr (unit ∷ units) [] are = absurd are
tables_stand addr (unit ∷ units) (context ∷ contexts) (first, rest) = All-cons (λ (context : Context). HasTable addr context.table) context contexts (has_table addr (root_of unit).attributes context.table first.table) (tables_stand addr units contexts rest)

-- PARTS

module _ (file : List ℕ) (r : Linkable) (parts : Parts) (holds : HoldsParts file r parts) where
  pub contributions_are : (kind : ListKind) → AreContributions (lists_in parts kind)
  contributions_are kind = record {
    tiled = subst (λ (z : ListSection). ContributionsTile z.section z.parts) (sym (holds.lists kind)) (holds.read.lists kind).tiled;
    few = holds.few_parts kind;
  }

  base_inside : (kind : ListKind) (u : ℕ) → u < length r.units → (found : Option ℕ) → IsBaseFound r u kind found → IfSome found (λ p. p < length (lists_in parts kind).parts.items)
  base_inside kind u known (Some p) (n, first, (inside, here)) = subst (λ (z : ListSection). p < length z.parts) (sym (holds.lists kind)) inside
  base_inside kind u known None none = tt

  contexts_counted : length parts.contexts.items ≡ length parts.units.units.items
  contexts_counted =
      ap length holds.contexts
      ∙ AllZip-long (λ (unit : UnitRead) (context : Context). IsContext r.addresses (root_of unit).attributes context) r.units r.contexts holds.read.contexts
      ∙ sym (held_count r.units parts.units.units.items holds.units.units)

  -- they can be looked up
  pub lists_held : HoldsLists parts
  lists_held = record {
    tiled = λ kind. (contributions_are kind).tiled;
    few = holds.few_parts;
    contexts = contexts_counted;
    operations = holds.operations.count;
    stand = subst (λ (addr : List ℕ). All (λ (context : Context). HasTable addr context.table) parts.contexts.items) (sym holds.addresses) (subst (All (λ (context : Context). HasTable r.addresses context.table)) (sym holds.contexts) (tables_stand r.addresses r.units r.contexts holds.read.contexts));
    bases = λ kind. (holds.bases kind).count ∙ sym (held_count r.units parts.units.units.items holds.units.units);
    inside = λ kind. All-from_get_or (λ (found : Option ℕ). IfSome found (λ p. p < length (lists_in parts kind).parts.items)) (bases_in parts kind) None (λ u inside. let known : u < length r.units = subst (λ (n : ℕ). u < n) (holds.bases kind).count inside in base_inside kind u known (get_or (bases_in parts kind) u None) ((holds.bases kind).each u known));
  }

-- LISTS

meaning_told : (r : Linkable) (kind : ListKind) (list : ListRead) (owner : Option ℕ) (meaning : HeldMeaning) → HoldsMeaning r kind list owner meaning → IsFrozen r kind list ⊎ (¬ IsFrozen r kind list)
meaning_told r kind list owner (Live items) (live, is) = inr live
meaning_told r kind list owner Dead frozen = inl frozen

-- of lists that are held all is told
pub lists_told : (r : Linkable) (kind : ListKind) (lists : List ListRead) (held : List HeldList) → HoldLists r kind lists held → AreTold r kind lists
lists_told r kind lists [] holds k inside = let none : 0 ≡ length lists = holds.count in absurd (omega arith)
lists_told r kind lists (first ∷ held) holds k inside =
    let one : HeldList = get_or (first ∷ held) k first in
    let here : HoldsList r kind (list_at lists k) one = holds.each k first inside in
    record { owner = one.owner; owned = here.owner; frozen = meaning_told r kind (list_at lists k) one.owner one.meaning here.meaning }
