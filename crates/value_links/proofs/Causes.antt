-- Why values name nothing.
use Rattle.std.proofs.Common.{◌≡◌, ◌≤◌, ◌<◌, ◌+◌, ◌∙◌, ◌-◌, take, drop, ℕ, List, length, sym, subst, refl, arith}
use Rattle.std.proofs.lemmas.List.{length-drop, length-take-le, get_or-take, get_or-drop}
use Rattle.dw_base.specs.declared.fault.Kind.{Kind}
use Rattle.dw_base.specs.declared.fault.Kind.TheVariants.{Pointer, NoBase}
use Rattle.form_codec.specs.declared.value.Value.{Value}
use Rattle.form_codec.specs.declared.value.Value.TheVariants as value
use Rattle.form_codec.specs.Forms.Meaning.{InUnit, InSection, SectionPlace, LocationList, RangeList}
use Rattle.form_codec.specs.Values.{meant_in}
use Rattle.entry_arena.specs.Arena.{value_at}
use Rattle.list_model.specs.declared.entry.ListKind.TheVariants.{Ranges, Locations}
use Rattle.value_links.specs.Attributes.{OffsetClass, offset_class, loclists_base, rnglists_base}
use Rattle.value_links.specs.Attributes.OffsetClass.{LinePtr, RngList, LocList, RngListsPtr, LocListsPtr, AddrPtr, StrOffsetsPtr, MacPtr, Views, NoOffset}
use Rattle.value_links.specs.Reading.{Linkable, unit_at}
use Rattle.value_links.specs.Values.{root_of}
use Rattle.value_links.specs.Linked.{Linked, IndexLinks, OffsetLinks, Links}
use Rattle.value_links.specs.Linked.Linked.{Itself, Refers, Program, ListAt, BaseOf, Kept}
use Rattle.value_links.specs.LinkFaults.{NamesNothing, FaultValue}
use Rattle.value_links.specs.inside.Checks.{IsBaseCause, IsCause, IsNoExpr}

-- VALUES BY THEIR NUMBERS

-- the values of an entry, by their numbers among all
pub own_value : (values : List Value) (first count k : ℕ) → k < count → value_at (take count (drop first values)) k ≡ value_at values (first + k)
own_value values first count k inside = get_or-take count (drop first values) k (value.Addr 0) inside ∙ get_or-drop first values k (value.Addr 0)

pub own_count : (values : List Value) (first count : ℕ) → first + count ≤ length values → length (take count (drop first values)) ≡ count
own_count values first count inside = let size : length (drop first values) ≡ length values - first = length-drop first values in length-take-le count (drop first values) (omega arith)

-- CAUSES

module _ (r : Linkable) (u id name : ℕ) where
  offset_cause : (class : OffsetClass) (n : ℕ) → ((w : Linked) → OffsetLinks r u id class n w → ⊥) → NamesNothing r u id class n
  offset_cause LinePtr n none = λ (p, here). none (Program p) (p, here, refl)
  offset_cause RngList n none = λ here. none (ListAt Ranges n) (here, refl)
  offset_cause LocList n none = λ here. none (ListAt Locations n) (here, refl)
  offset_cause RngListsPtr n none = λ (p, here). none (BaseOf Ranges p) (p, here, refl)
  offset_cause LocListsPtr n none = λ (p, here). none (BaseOf Locations p) (p, here, refl)
  offset_cause AddrPtr n none = λ here. none (Kept n) (here, refl)
  offset_cause StrOffsetsPtr n none = none (Kept n) refl
  offset_cause MacPtr n none = none (Kept n) refl
  offset_cause Views n none = λ (w, links). none w links
  offset_cause NoOffset n none = tt

  location_cause : (i : ℕ) (kind : Kind) → ((w : Linked) → IndexLinks r u Locations i w → ⊥) → IsBaseCause (root_of (unit_at r u)).attributes loclists_base kind → FaultValue r u id name (LocationList i) kind
  location_cause i Pointer none base = (base, λ (w, links). none w links)
  location_cause i NoBase none other = other
  location_cause i kind none other = absurd other

  range_cause : (i : ℕ) (kind : Kind) → ((w : Linked) → IndexLinks r u Ranges i w → ⊥) → IsBaseCause (root_of (unit_at r u)).attributes rnglists_base kind → FaultValue r u id name (RangeList i) kind
  range_cause i Pointer none base = (base, λ (w, links). none w links)
  range_cause i NoBase none other = other
  range_cause i kind none other = absurd other

  -- the cause is the fault of a value that refers to nothing, and is no expression
  pub cause_is : (section : List ℕ) (v : Value) (kind : Kind) → IsNoExpr v → ((w : Linked) → Links r u id name (meant_in section v) w → ⊥) → IsCause (root_of (unit_at r u)).attributes v kind → FaultValue r u id name (meant_in section v) kind
  cause_is section (value.LocalRef n) kind plain none is = subst (λ (z : Kind). FaultValue r u id name (InUnit n) z) (sym is) (λ (target, here). none (Refers u target) (target, here, refl))
  cause_is section (value.SectionRef n) kind plain none is = subst (λ (z : Kind). FaultValue r u id name (InSection n) z) (sym is) (λ (unit, target, here). none (Refers unit target) (unit, target, here, refl))
  cause_is section (value.Offset n) kind plain none is = subst (λ (z : Kind). FaultValue r u id name (SectionPlace n) z) (sym is) (offset_cause (offset_class name) n none)
  cause_is section (value.LocIndex i) kind plain none is = location_cause i kind none is
  cause_is section (value.RangeIndex i) kind plain none is = range_cause i kind none is
  cause_is section (value.Expr span) kind plain none is = absurd plain
  cause_is section v kind plain none is = absurd (none (Itself (meant_in section v)) refl)
