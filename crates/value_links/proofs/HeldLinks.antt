-- What values refer to is known from what is held: rows of programs don't tell, and the units are those that are held.
use Rattle.std.proofs.Common.{◌≡◌, ◌<◌, ◌+◌, ◌++◌, ◌∙◌, ℕ, suc, List, [], ◌∷◌, length, get_or, sym, ap, subst, refl, arith}
use Rattle.std.specs.Prelude.{◌⊎◌, map, Option, Some, None, true, false}
use Rattle.std.specs.List.{AllZip}
use Rattle.std.proofs.lemmas.List.{get_or-map, length-map}
use Rattle.std.proofs.lemmas.Slice.Zip.{AllZip-long}
use Rattle.line_machine.specs.declared.head.Head.{Head}
use Rattle.expr_ops.specs.declared.op.Op.{Op}
use Rattle.expr_ops.specs.declared.names.Named.{Named}
use Rattle.expr_ops.specs.declared.names.Named.TheVariants.{Nothing, BaseType, UnitEntry, SectionEntry}
use Rattle.expr_ops.specs.Drafts.{is_generic}
use Rattle.expr_ops.specs.Expressions.{Operation}
use Rattle.expr_ops.specs.Names.{named_by}
use Rattle.form_codec.specs.Forms.{Meaning}
use Rattle.form_codec.specs.Forms.Meaning.{Expression, InUnit, InSection, SectionPlace, LocationList, RangeList}
use Rattle.dw_base.specs.declared.fault.Reach.{Reach}
use Rattle.entry_read.specs.Units.{HeadAndForest}
use Rattle.entry_arena.specs.Arena.{IsEntryAt}
use Rattle.entry_read.specs.Heads.{type_unit}
use Rattle.list_model.specs.declared.contribution.Contribution.{Contribution}
use Rattle.list_model.specs.declared.entry.ListKind.{ListKind}
use Rattle.list_model.specs.declared.entry.ListKind.TheVariants.{Ranges, Locations}
use Rattle.list_model.specs.declared.tables.AddrTable.{AddrTable}
use Rattle.list_model.specs.Addresses.{HasBase}
use Rattle.value_links.specs.declared.link.Link.{Link}
use Rattle.value_links.specs.declared.operations.OpLink.{OpLink}
use Rattle.value_links.specs.declared.parts.Parts.{Parts}
use Rattle.value_links.specs.declared.units.NamedTable.{NamedTable}
use Rattle.value_links.specs.Sections.{debug_addr, debug_lists}
use Rattle.value_links.specs.Attributes.{OffsetClass, offset_class}
use Rattle.value_links.specs.Attributes.OffsetClass.{LinePtr, RngList, LocList, RngListsPtr, LocListsPtr, AddrPtr, Views}
use Rattle.value_links.specs.Reading.{ProgramRead, UnitRead, ListSection, Linkable, Reading, line_heads, no_program, unit_at, unit_among, of_kind, part_at}
use Rattle.value_links.specs.ListPlaces.{IsListPlace, IsOffsetsAt, IsSlot, NamesPart, IsBaseOf, base_of}
use Rattle.list_model.specs.declared.context.Context.{Context}
use Rattle.value_links.specs.Values.{HasValueAt, described_at, root_of}
use Rattle.value_links.specs.Contexts.{IsContext}
use Rattle.value_links.specs.Operations.{OpTarget, LinkedOperation, LinksOperation, LinksReference, NamesSectionEntry}
use Rattle.value_links.specs.Operations.OpTarget.{GenericType, AnEntry}
use Rattle.value_links.specs.Linked.{Linked, IsTargetAt, TellsPlace, IsFirstLocated, AreTogether, OffsetLinks, Links}
use Rattle.value_links.specs.Laws.{AreLinked}
use Rattle.value_links.specs.Links.{IsLinkFound, IsOpLinkFound, IsNamedThing}
use Rattle.value_links.specs.Parts.{HoldsParts}
use Rattle.value_links.specs.World.{World, head_and_forest, AreTablesOf, Holds, IsWorldOf}
use Rattle.value_links.proofs.HeldUnits.{held_count}
use Rattle.value_links.specs.inside.World.{IsHeldIn}

-- UNITS

units_same : (read other : List UnitRead) → map head_and_forest read ≡ map head_and_forest other → ((u : ℕ) → u < length read → (unit_among read u).table ≡ (unit_among other u).table) → read ≡ other
units_same [] [] e tables = refl
units_same [] (y ∷ ys) e tables = absurd (cc)
units_same (x ∷ xs) [] e tables = absurd (cc)
units_same (x ∷ xs) (y ∷ ys) e tables =
    let first : head_and_forest x ≡ head_and_forest y = cc in
    let rest : map head_and_forest xs ≡ map head_and_forest ys = cc in
    let head : x.head ≡ y.head = ap (λ (z : HeadAndForest). z.head) first in
    let forest : x.forest ≡ y.forest = ap (λ (z : HeadAndForest). z.forest) first in
    let table : x.table ≡ y.table = tables 0 (omega arith) in
    let same : x ≡ y = one_unit x y head table forest in
    let later : xs ≡ ys = units_same xs ys rest (λ u inside. tables (suc u) (omega arith)) in
    ap (λ (z : UnitRead). z ∷ xs) same ∙ ap (λ (z : List UnitRead). y ∷ z) later
  where
    one_unit : (x y : UnitRead) → x.head ≡ y.head → x.table ≡ y.table → x.forest ≡ y.forest → x ≡ y
    one_unit x y head table forest = ap (λ z. record { head = z; table = x.table; forest = x.forest }) head ∙ (ap (λ z. record { head = y.head; table = z; forest = x.forest }) table ∙ ap (λ z. record { head = y.head; table = y.table; forest = z }) forest)

pub units_held_once : (read other : List UnitRead) (held : List HeadAndForest) (tables : List NamedTable) (numbers : List ℕ) → held ≡ map head_and_forest read → held ≡ map head_and_forest other → AreTablesOf read tables numbers → AreTablesOf other tables numbers → read ≡ other
units_held_once read other held tables numbers e f named others =
    let same : map head_and_forest read ≡ map head_and_forest other = sym e ∙ f in
    let size : length read ≡ length other = sym (length-map read head_and_forest) ∙ ap length same ∙ length-map other head_and_forest in
    units_same read other same (λ u inside. ap (λ (z : NamedTable). z.table) (sym (named.each u inside) ∙ others.each u (subst (λ (n : ℕ). u < n) size inside)))

-- PROGRAMS

program_held : (a b : List ProgramRead) (p : ℕ) → line_heads a ≡ line_heads b → p < length a → (p < length b) × ((get_or a p no_program).head ≡ (get_or b p no_program).head)
program_held a b p e inside =
    let size : length a ≡ length b = sym (length-map a (λ (x : ProgramRead). x.head)) ∙ ap length e ∙ length-map b (λ (x : ProgramRead). x.head) in
    let here : p < length b = omega arith in
    (here, sym (get_or-map (λ (x : ProgramRead). x.head) a p no_program no_program.head inside) ∙ ap (λ z. get_or z p no_program.head) e ∙ get_or-map (λ (x : ProgramRead). x.head) b p no_program no_program.head here)

-- LINKS

-- what is held of both is the same
pub record AreAlike (r s : Linkable) : Type 0 where
  pub heads : line_heads r.programs ≡ line_heads s.programs
  pub units : r.units ≡ s.units
  pub contexts : r.contexts ≡ s.contexts
  pub addresses : r.addresses ≡ s.addresses
  pub lists : (kind : ListKind) → of_kind r kind ≡ of_kind s kind

pub alike_back : (r s : Linkable) → AreAlike r s → AreAlike s r
alike_back r s same = record { heads = sym same.heads; units = sym same.units; contexts = sym same.contexts; addresses = sym same.addresses; lists = λ (kind : ListKind). sym (same.lists kind) }

module _ (r s : Linkable) (same : AreAlike r s) where
  base_held : (u : ℕ) (kind : ListKind) (p : ℕ) → IsBaseOf r u kind p → IsBaseOf s u kind p
  base_held u kind p named = subst (λ (us : List UnitRead). NamesPart (of_kind s kind) (root_of (unit_among us u)).attributes (base_of kind) p) same.units (subst (λ (z : ListSection). NamesPart z (root_of (unit_at r u)).attributes (base_of kind) p) (same.lists kind) named)

  -- the place that the first location list of an entry tells
  tells_held : (u : ℕ) (meaning : Meaning) (list : ℕ) → TellsPlace r u meaning list → TellsPlace s u meaning list
  tells_held u (SectionPlace n) list (here, is) = (subst (λ (z : ListSection). (p : ℕ) × IsListPlace z p n) (same.lists Locations) here, is)
  tells_held u (LocationList i) list (p, named, slot) = (p, base_held u Locations p named, subst (λ (z : ListSection). IsSlot z p i list) (same.lists Locations) slot)
  tells_held u meaning list none = none

  located_held : (u id list : ℕ) → IsFirstLocated r u id list → IsFirstLocated s u id list
  located_held u id list f = record {
    before = f.before;
    attribute = f.attribute;
    after = f.after;
    parts = subst (λ (us : List UnitRead). (described_at (unit_among us u) id).attributes ≡ f.before ++ f.attribute ∷ f.after) same.units f.parts;
    first = f.first;
    located = f.located;
    tells = tells_held u f.attribute.1 list f.tells;
  }

  offset_held : (u id : ℕ) (class : OffsetClass) (n : ℕ) (linked : Linked) → OffsetLinks r u id class n linked → OffsetLinks s u id class n linked
  offset_held u id LinePtr n linked (p, (inside, here), is) =
      let (known, head) = program_held r.programs s.programs p same.heads inside in
      (p, (known, sym (ap (λ (h : Head). h.at) head) ∙ here), is)
  offset_held u id RngList n linked (here, is) = (subst (λ (z : ListSection). (p : ℕ) × IsListPlace z p n) (same.lists Ranges) here, is)
  offset_held u id LocList n linked (here, is) = (subst (λ (z : ListSection). (p : ℕ) × IsListPlace z p n) (same.lists Locations) here, is)
  offset_held u id RngListsPtr n linked (p, here, is) = (p, subst (λ (z : ListSection). IsOffsetsAt z n p) (same.lists Ranges) here, is)
  offset_held u id LocListsPtr n linked (p, here, is) = (p, subst (λ (z : ListSection). IsOffsetsAt z n p) (same.lists Locations) here, is)
  offset_held u id AddrPtr n linked (here, is) = (subst (λ (z : List ℕ). (table : AddrTable) × HasBase z n table) same.addresses here, is)
  offset_held u id Views n linked (list, here, together, is) = (list, located_held u id list here, subst (λ (z : ListSection). AreTogether z list n) (same.lists Locations) together, is)
  offset_held u id class n linked f = f

  reference_held : (u : ℕ) (kind : Named) (code n : ℕ) (target : OpTarget) → LinksReference r u kind code n target → LinksReference s u kind code n target
  reference_held u Nothing code n target named = named
  reference_held u BaseType code n target named = subst (λ (us : List UnitRead). ((is_generic code n ≡ true) × (target ≡ GenericType)) ⊎ ((is_generic code n ≡ false) × ((id : ℕ) × IsEntryAt (unit_among us u).forest id ((unit_among us u).head.at + n) × (target ≡ AnEntry u id)))) same.units named
  reference_held u UnitEntry code n target named = subst (λ (us : List UnitRead). (id : ℕ) × IsEntryAt (unit_among us u).forest id ((unit_among us u).head.at + n) × (target ≡ AnEntry u id)) same.units named
  reference_held u SectionEntry code n target named = subst (λ (us : List UnitRead). (unit : ℕ) × (id : ℕ) × (unit < length us) × IsEntryAt (unit_among us unit).forest id n × (target ≡ AnEntry unit id)) same.units named

  operations_held : (u : ℕ) (operations : List Operation) (linked : List LinkedOperation) → AllZip (LinksOperation r u) operations linked → AllZip (LinksOperation s u) operations linked
  operations_held u [] [] all = tt
  operations_held u [] (l ∷ linked) all = all
  operations_held u (o ∷ operations) [] all = all
  operations_held u (o ∷ operations) (l ∷ linked) (first, rest) = (record { operation = first.operation; target = reference_held u (named_by o.code) o.code o.a l.target first.target }, operations_held u operations linked rest)

  links_held : (u id name : ℕ) (meaning : Meaning) (linked : Linked) → Links r u id name meaning linked → Links s u id name meaning linked
  links_held u id name (InUnit n) linked (target, here, is) = (target, subst (λ (us : List UnitRead). IsTargetAt (unit_among us u).forest target ((unit_among us u).head.at + n)) same.units here, is)
  links_held u id name (InSection n) linked (unit, target, here, is) = (unit, target, subst (λ (us : List UnitRead). (unit < length us) × IsTargetAt (unit_among us unit).forest target n) same.units here, is)
  links_held u id name (SectionPlace n) linked f = offset_held u id (offset_class name) n linked f
  links_held u id name (LocationList i) linked (p, named, less, is) = (p, base_held u Locations p named, subst (λ (z : ListSection). i < (part_at z p).slots) (same.lists Locations) less, is)
  links_held u id name (RangeList i) linked (p, named, less, is) = (p, base_held u Ranges p named, subst (λ (z : ListSection). i < (part_at z p).slots) (same.lists Ranges) less, is)
  links_held u id name (Expression bytes) linked (all, (operations, spelled, zipped), is) = (all, (operations, spelled, operations_held u operations all zipped), is)
  links_held u id name meaning linked f = f

  value_held : (u id number name : ℕ) (meaning : Meaning) (place : ℕ) → HasValueAt (unit_at s u) id number name meaning place → HasValueAt (unit_at r u) id number name meaning place
  value_held u id number name meaning place here = subst (λ (us : List UnitRead). HasValueAt (unit_among us u) id number name meaning place) (sym same.units) here

  known_held : (u : ℕ) → u < length s.units → u < length r.units
  known_held u inside = subst (λ (us : List UnitRead). u < length us) (sym same.units) inside

  -- where all values of one are linked, those of the other are
  pub linked_held : AreLinked r → AreLinked s
  linked_held linked = record {
    values = λ u id number name meaning place inside here. let (to, links) = linked.values u id number name meaning place (known_held u inside) (value_held u id number name meaning place here) in (to, links_held u id name meaning to links);
    types = λ u inside is_type.
        let (id, here) = linked.types u (known_held u inside) (subst (λ (us : List UnitRead). (unit_among us u).head.kind ≡ type_unit) (sym same.units) is_type) in
        (id, subst (λ (us : List UnitRead). IsEntryAt (unit_among us u).forest id ((unit_among us u).head.at + (unit_among us u).head.type_at)) same.units here);
  }

pub link_alike : (r s : Linkable) (u id name : ℕ) (meaning : Meaning) (found : Option Link) → AreAlike r s → IsLinkFound r u id name meaning found → IsLinkFound s u id name meaning found
link_alike r s u id name meaning None same f = λ linked g. f linked (links_held s r (alike_back r s same) u id name meaning linked g)
link_alike r s u id name meaning (Some link) same (linked, f, told) = (linked, links_held r s same u id name meaning linked f, told)

op_link_alike : (r s : Linkable) (u : ℕ) (op : Op) (found : Option OpLink) → AreAlike r s → IsOpLinkFound r u op found → IsOpLinkFound s u op found
op_link_alike r s u op None same none = λ target named. none target (reference_held s r (alike_back r s same) u (named_by op.code) op.code op.a target named)
op_link_alike r s u op (Some link) same (target, named, told) = (target, reference_held r s same u (named_by op.code) op.code op.a target named, told)

-- what is read of which these are the parts is alike
pub parts_alike : (file other : List ℕ) (r s : Linkable) (parts : Parts) → HoldsParts file r parts → HoldsParts other s parts → AreAlike r s
parts_alike file other r s parts p q = record {
  heads = sym p.programs ∙ q.programs;
  units = units_held_once r.units s.units parts.units.units.items parts.units.tables.items parts.units.table_of.items p.units.units q.units.units p.units.tables q.units.tables;
  contexts = sym p.contexts ∙ q.contexts;
  addresses = sym p.addresses ∙ q.addresses;
  lists = λ (kind : ListKind). sym (p.lists kind) ∙ q.lists kind;
}

-- so where all values of one are linked, those of each are
pub each_linked : (file : List ℕ) (r : Linkable) (parts : Parts) → HoldsParts file r parts → AreLinked r → (other : List ℕ) (s : Linkable) → HoldsParts other s parts → AreLinked s
each_linked file r parts holds linked other s held = linked_held r s (parts_alike file other r s parts holds held) linked

-- THE WORLD

section_same : (a b : ListSection) → a.section ≡ b.section → a.parts ≡ b.parts → a ≡ b
section_same a b section parts = ap (λ (z : List ℕ). record { section = z; parts = a.parts }) section ∙ ap (λ (z : List Contribution). record { section = b.section; parts = z }) parts

module _ (world : World) (reach : Reach) (is : IsWorldOf world.image reach world) where
  -- each unit has a context
  pub contexts_counted : length world.contexts ≡ length world.units
  contexts_counted =
      let links = is.r.links in
      let each : length links.contexts ≡ length links.units = AllZip-long (λ (unit : UnitRead) (context : Context). IsContext links.addresses (root_of unit).attributes context) links.units links.contexts is.read.links.contexts in
      ap length is.holds.contexts ∙ each ∙ sym (held_count links.units world.units is.holds.units)

  module _ (file : List ℕ) (r : Reading) (holds : Holds file world r) where
    -- what is held tells the units, the heads of programs, the contexts, the addresses and the contributions
    pub world_alike : AreAlike is.r.links r.links
    world_alike = record {
      heads = sym is.holds.programs ∙ holds.programs;
      units = units_held_once is.r.links.units r.links.units world.units world.tables world.table_of is.holds.units holds.units is.holds.tables holds.tables;
      contexts = sym is.holds.contexts ∙ holds.contexts;
      addresses = is.holds.addresses ∙ ap debug_addr holds.image ∙ sym holds.addresses;
      lists = λ (kind : ListKind). section_same (of_kind is.r.links kind) (of_kind r.links kind) (is.holds.sections kind ∙ ap (λ (z : List ℕ). debug_lists z kind) holds.image ∙ sym (holds.sections kind)) (sym (is.holds.contributions kind) ∙ holds.contributions kind);
    }

    pub units_held : is.r.links.units ≡ r.links.units
    units_held = world_alike.units

-- what the parts of a world give as the link of a value is it in each reading that is held so
pub link_held : (world : World) (parts : Parts) (held : IsHeldIn world.image parts world) (file : List ℕ) (r : Reading) → Holds file world r → (u id name : ℕ) (meant : List UnitRead → Meaning) (found : Option Link) → ((f : List ℕ) (s : Linkable) → HoldsParts f s parts → IsLinkFound s u id name (meant s.units) found) → IsLinkFound r.links u id name (meant r.links.units) found
link_held world parts held file r holds u id name meant found each =
    let own : Linkable = held.is.r.links in
    let same : AreAlike own r.links = world_alike world held.reach held.is file r holds in
    let here : IsLinkFound own u id name (meant own.units) found = each world.image own held.parts_are in
    link_alike own r.links u id name (meant r.links.units) found same (subst (λ (us : List UnitRead). IsLinkFound own u id name (meant us) found) same.units here)

-- likewise of what an operation names
pub op_link_held : (world : World) (parts : Parts) (held : IsHeldIn world.image parts world) (file : List ℕ) (r : Reading) → Holds file world r → (u : ℕ) (op : Op) (found : Option OpLink) → ((f : List ℕ) (s : Linkable) → HoldsParts f s parts → IsOpLinkFound s u op found) → IsOpLinkFound r.links u op found
op_link_held world parts held file r holds u op found each = op_link_alike held.is.r.links r.links u op found (world_alike world held.reach held.is file r holds) (each world.image held.is.r.links held.parts_are)

-- and of what a place names
pub place_held : (world : World) (parts : Parts) (held : IsHeldIn world.image parts world) (file : List ℕ) (r : Reading) → Holds file world r → (place : ℕ) (found : Option OpLink) → ((f : List ℕ) (s : Linkable) → HoldsParts f s parts → IsNamedThing (NamesSectionEntry s place) found) → IsNamedThing (NamesSectionEntry r.links place) found
place_held world parts held file r holds place found each = subst (λ (us : List UnitRead). IsNamedThing (λ (target : OpTarget). (unit : ℕ) × (id : ℕ) × (unit < length us) × IsEntryAt (unit_among us unit).forest id place × (target ≡ AnEntry unit id)) found) (world_alike world held.reach held.is file r holds).units (each world.image held.is.r.links held.parts_are)
