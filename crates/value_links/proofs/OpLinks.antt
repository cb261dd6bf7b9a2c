-- What operations name, by what is held.
use Rattle.std.proofs.Common.{◌≡◌, ◌≢◌, ◌≤◌, ◌<◌, ◌+◌, ◌∙◌, inl, inr, ℕ, List, length, sym, subst, refl, arith}
use Rattle.std.specs.Prelude.{Option, Some, None, true, false}
use Rattle.std.proofs.lemmas.Bool.{cases_lt, true≢false}
use Rattle.expr_ops.specs.declared.op.Op.{Op}
use Rattle.expr_ops.specs.declared.names.Named.{Named}
use Rattle.expr_ops.specs.Drafts.{is_generic}
use Rattle.expr_ops.specs.Names.{named_by}
use Rattle.entry_arena.specs.declared.entry.Target.{Target}
use Rattle.entry_arena.specs.declared.entry.Target.TheVariants.{Entry as TheEntry, ChainEnd as TheEnd}
use Rattle.entry_arena.specs.Arena.{IsEntryAt}
use Rattle.entry_read.specs.Units.{HeadAndForest}
use Rattle.value_links.specs.declared.link.Link.{Link}
use Rattle.value_links.specs.declared.link.Link.TheVariants.{Plain, Place, Lines, List as AtList, Slot, Base, Views, Kept}
use Rattle.value_links.specs.declared.operations.OpLink.{OpLink}
use Rattle.value_links.specs.declared.operations.OpLink.TheVariants as op_link
use Rattle.value_links.specs.declared.parts.Parts.{Parts}
use Rattle.value_links.specs.Reading.{Linkable, unit_at}
use Rattle.value_links.specs.Linked.{IsTargetAt}
use Rattle.value_links.specs.Operations.{OpTarget, NamesUnitEntry, NamesSectionEntry, NamesType, LinksReference}
use Rattle.value_links.specs.Operations.OpTarget.{GenericType, AnEntry}
use Rattle.value_links.specs.Links.{held_at, IsOpLinkFound}
use Rattle.value_links.specs.Parts.{HoldsParts}
use Rattle.value_links.specs.inside.Links.{IsTargetFound, IsSectionTargetFound, AreUnitsApart, entry_link}
use Rattle.value_links.specs.Links.{IsNamedThing}
use Rattle.value_links.proofs.Targets.{never_both}
use Rattle.value_links.proofs.LinkedValues.{parts_count, parts_apart, part_is}

-- the unit of a place is one
unit_once : (units : List HeadAndForest) → AreUnitsApart units → (u w n : ℕ) (a b : Target) → u < length units → w < length units → IsTargetAt (held_at units u).forest a n → IsTargetAt (held_at units w).forest b n → u ≡ w
unit_once units apart u w n a b u_in w_in here there =
    let u_from : (held_at units u).head.at ≤ n = apart.from u a n u_in here in
    let u_to : n < (held_at units u).head.at + (held_at units u).head.len = apart.to u a n u_in here in
    let w_from : (held_at units w).head.at ≤ n = apart.from w b n w_in there in
    let w_to : n < (held_at units w).head.at + (held_at units w).head.len = apart.to w b n w_in there in
    elim (cases_lt u w) [
      | inl less ↦ let rising : (held_at units u).head.at + (held_at units u).head.len ≤ (held_at units w).head.at = apart.rising u w less w_in in absurd (omega arith)
      | inr rest ↦ elim (cases_lt w u) [
        | inl less ↦ let rising : (held_at units w).head.at + (held_at units w).head.len ≤ (held_at units u).head.at = apart.rising w u less u_in in absurd (omega arith)
        | inr more ↦ omega arith
      ]
    ]

module _ (file : List ℕ) (r : Linkable) (parts : Parts) (holds : HoldsParts file r parts) where
  -- AN ENTRY OF A UNIT

  module _ (u : ℕ) (inside : u < length parts.units.units.items) (n : ℕ) where
    entry_named : (id : ℕ) → IsTargetFound (held_at parts.units.units.items u).forest ((held_at parts.units.units.items u).head.at + n) (Some (TheEntry id)) → IsNamedThing (NamesUnitEntry r u n) (Some (op_link.Entry u id))
    entry_named id here = (AnEntry u id, (id, subst (λ (z : HeadAndForest). IsEntryAt z.forest id (z.head.at + n)) (part_is file r parts holds u inside) here, refl), refl)

    at_held : (id : ℕ) → IsEntryAt (unit_at r u).forest id ((unit_at r u).head.at + n) → IsEntryAt (held_at parts.units.units.items u).forest id ((held_at parts.units.units.items u).head.at + n)
    at_held id here = subst (λ (z : HeadAndForest). IsEntryAt z.forest id (z.head.at + n)) (sym (part_is file r parts holds u inside)) here

    end_unnamed : (id : ℕ) → IsTargetFound (held_at parts.units.units.items u).forest ((held_at parts.units.units.items u).head.at + n) (Some (TheEnd id)) → IsNamedThing (NamesUnitEntry r u n) None
    end_unnamed id here = λ target (entry, there, is). never_both (held_at parts.units.units.items u).forest ((parts_apart file r parts holds).order u inside) entry id ((held_at parts.units.units.items u).head.at + n) (at_held entry there) here

    pub target_named : (target : Target) → IsTargetFound (held_at parts.units.units.items u).forest ((held_at parts.units.units.items u).head.at + n) (Some target) → IsNamedThing (NamesUnitEntry r u n) (entry_link u target)
    target_named (TheEntry id) here = entry_named id here
    target_named (TheEnd id) here = end_unnamed id here

    pub none_named : IsTargetFound (held_at parts.units.units.items u).forest ((held_at parts.units.units.items u).head.at + n) None → IsNamedThing (NamesUnitEntry r u n) None
    none_named none = λ target (entry, there, is). none (TheEntry entry) (at_held entry there)

  -- AN ENTRY OF ANY UNIT

  module _ (n : ℕ) where
    entry_held : (w id : ℕ) → w < length r.units → IsEntryAt (unit_at r w).forest id n → (w < length parts.units.units.items) × IsEntryAt (held_at parts.units.units.items w).forest id n
    entry_held w id known there =
        let inside : w < length parts.units.units.items = subst (λ (z : ℕ). w < z) (sym (parts_count file r parts holds)) known in
        (inside, subst (λ (z : HeadAndForest). IsEntryAt z.forest id n) (sym (part_is file r parts holds w inside)) there)

    pub section_unnamed : IsSectionTargetFound parts.units.units.items n None → IsNamedThing (NamesSectionEntry r n) None
    section_unnamed none = λ target (w, id, known, there, is). let (inside, held) = entry_held w id known there in none w (TheEntry id) inside held

    pub section_named : (u : ℕ) (target : Target) → IsSectionTargetFound parts.units.units.items n (Some (Place u target)) → IsNamedThing (NamesSectionEntry r n) (entry_link u target)
    section_named u (TheEntry id) (inside, here) = (AnEntry u id, (u, id, subst (λ (z : ℕ). u < z) (parts_count file r parts holds) inside, subst (λ (z : HeadAndForest). IsEntryAt z.forest id n) (part_is file r parts holds u inside) here, refl), refl)
    section_named u (TheEnd id) (inside, here) = λ target (w, entry, known, there, is).
        let units : List HeadAndForest = parts.units.units.items in
        let apart : AreUnitsApart units = parts_apart file r parts holds in
        let (w_in, held) = entry_held w entry known there in
        let same : w ≡ u = unit_once units apart w u n (TheEntry entry) (TheEnd id) w_in inside held here in
        never_both (held_at units u).forest (apart.order u inside) entry id n (subst (λ (z : ℕ). IsEntryAt (held_at units z).forest entry n) same held) here

    -- nothing else is found at a place
    pub section_other : (link : Link) → ((u : ℕ) (target : Target) → link ≢ Place u target) → IsSectionTargetFound parts.units.units.items n (Some link) → IsNamedThing (NamesSectionEntry r n) None
    section_other (Place u target) other found = absurd (other u target refl)
    section_other Plain other found = absurd found
    section_other (Lines p) other found = absurd found
    section_other (AtList kind k) other found = absurd found
    section_other (Slot kind p i) other found = absurd found
    section_other (Base kind p) other found = absurd found
    section_other (Views list k) other found = absurd found
    section_other (Kept k) other found = absurd found

-- A BASE TYPE

module _ (r : Linkable) (u code n : ℕ) where
  pub generic_named : is_generic code n ≡ true → IsNamedThing (NamesType r u code n) (Some op_link.Generic)
  generic_named is = (GenericType, inl (is, refl), refl)

  pub type_named : (found : Option OpLink) → is_generic code n ≡ false → IsNamedThing (NamesUnitEntry r u n) found → IsNamedThing (NamesType r u code n) found
  type_named (Some link) other (target, named, told) = (target, inr (other, named), told)
  type_named None other none = λ target named. elim named [
    | inl generic ↦ true≢false (sym generic.0 ∙ other)
    | inr entry ↦ none target entry.1
  ]

-- ANY OPERATION

pub found_as : (r : Linkable) (u : ℕ) (op : Op) (kind : Named) (IsThing : OpTarget → Type 0) → ((t : OpTarget) → IsThing t → LinksReference r u kind op.code op.a t) → ((t : OpTarget) → LinksReference r u kind op.code op.a t → IsThing t) → (found : Option OpLink) → named_by op.code ≡ kind → IsNamedThing IsThing found → IsOpLinkFound r u op found
found_as r u op kind IsThing to from (Some link) e (target, named, told) = (target, subst (λ (z : Named). LinksReference r u z op.code op.a target) (sym e) (to target named), told)
found_as r u op kind IsThing to from None e none = λ target named. none target (from target (subst (λ (z : Named). LinksReference r u z op.code op.a target) e named))
