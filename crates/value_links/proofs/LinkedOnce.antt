-- The value of an attribute refers to one thing.
use Rattle.std.proofs.Common.{◌≡◌, ◌≤◌, ◌<◌, ◌+◌, ◌∙◌, inl, inr, true≢false, ℕ, List, length, sym, ap, subst, arith}
use Rattle.std.specs.List.{AllZip}
use Rattle.std.proofs.lemmas.Bool.{cases_lt}
use Rattle.std.proofs.lemmas.List.{get_or_past}
use Rattle.std.proofs.lemmas.List.Elements.{All-get_or}
use Rattle.dw_base.specs.declared.fault.Reach.TheVariants.{Wide}
use Rattle.expr_ops.specs.declared.names.Named.{Named}
use Rattle.expr_ops.specs.declared.names.Named.TheVariants.{Nothing, BaseType, UnitEntry, SectionEntry}
use Rattle.expr_ops.specs.Expressions.{Operation}
use Rattle.expr_ops.specs.Names.{named_by}
use Rattle.expr_ops.proofs.Levels.{expression_once}
use Rattle.form_codec.specs.Forms.{Meaning}
use Rattle.form_codec.specs.Forms.Meaning.{Expression, InUnit, InSection, SectionPlace, LocationList, RangeList}
use Rattle.entry_arena.specs.declared.entry.Target.{Target}
use Rattle.entry_arena.specs.declared.entry.Target.TheVariants.{Entry as TheEntry}
use Rattle.entry_arena.specs.Arena.{IsEntryAt}
use Rattle.entry_read.specs.Units.{entries_at, end_of}
use Rattle.list_model.specs.declared.contribution.Contribution.{Contribution}
use Rattle.list_model.specs.declared.entry.ListKind.{ListKind}
use Rattle.list_model.specs.declared.entry.ListKind.TheVariants.{Ranges, Locations}
use Rattle.value_links.specs.Sections.{debug_info, debug_abbrev, debug_line}
use Rattle.value_links.specs.Attributes.{OffsetClass, offset_class}
use Rattle.value_links.specs.Attributes.OffsetClass.{LinePtr, RngList, LocList, RngListsPtr, LocListsPtr, AddrPtr, StrOffsetsPtr, MacPtr, Views, NoOffset}
use Rattle.value_links.specs.Reading.{ProgramRead, UnitRead, Linkable, no_program, program_at, no_unit, unit_at, of_kind, part_at, declarations, IsUnitRead}
use Rattle.value_links.specs.Values.{root_of}
use Rattle.value_links.specs.ListPlaces.{IsOffsetsAt, IsSlot, SlotNames, IsBaseOf, base_of}
use Rattle.value_links.specs.Whole.{IsReadToLinks}
use Rattle.value_links.specs.Linked.{Linked, IsTargetAt, IsSectionTarget, IsProgramAt, is_located, TellsPlace, IsFirstLocated, OffsetLinks, IndexLinks, Links}
use Rattle.value_links.specs.Operations.{OpTarget, LinkedOperation, NamesUnitEntry, NamesSectionEntry, NamesType, LinksReference, LinksOperation, LinksExpression}
use Rattle.value_links.specs.Operations.OpTarget.{AnEntry}
use Rattle.value_links.specs.Linked.Linked.{Operates, Refers, Program, SlotAt, BaseOf, ViewsAt}
use Rattle.value_links.specs.Laws.{OneLinked}
use Rattle.value_links.proofs.Targets.{HasTargets, held_targets, entry_once, target_once}
use Rattle.value_links.proofs.ReadingOnce.{zip_once}
use Rattle.entry_read.proofs.Chained.{has_bytes, lies_once}
use Rattle.value_links.proofs.Tiles.{units_chained, programs_chained, parts_chained, tiled_of}
use Rattle.value_links.proofs.Bases.{one_base}
use Rattle.value_links.proofs.Passing.{first_once}

-- a unit in which an entry stands is one of those that are read: past the last no entry stands
pub unit_known : (r : Linkable) (u id place : ℕ) → IsEntryAt (unit_at r u).forest id place → u < length r.units
unit_known r u id place (inside, here) = elim (cases_lt u (length r.units)) [
  | inl less ↦ less
  | inr past ↦
      let none : unit_at r u ≡ no_unit = get_or_past r.units u no_unit past in
      let size : length (unit_at r u).forest.entries ≡ 0 = ap (λ (z : UnitRead). length z.forest.entries) none in
      absurd (omega (arith, size, inside))
]

module _ (file : List ℕ) (r : Linkable) (read : IsReadToLinks file r) where
  unit_read : (u : ℕ) → u < length r.units → IsUnitRead (debug_info file) (debug_abbrev file) (unit_at r u)
  unit_read u inside = All-get_or (IsUnitRead (debug_info file) (debug_abbrev file)) r.units u no_unit inside read.units.each

  pub targets : (u : ℕ) → u < length r.units → HasTargets (unit_at r u).head (unit_at r u).forest
  targets u inside =
      let here = unit_read u inside in
      held_targets (debug_info file) (unit_at r u).head (declarations (unit_at r u)) (unit_at r u).forest here.section here.entries

  -- the unit of a target is one
  unit_once : (v w : ℕ) (a b : Target) (place : ℕ) → IsSectionTarget r place v a → IsSectionTarget r place w b → v ≡ w
  unit_once v w a b place (v_in, here) (w_in, there) =
      let first = targets v v_in in
      let second = targets w w_in in
      let v_from : entries_at (unit_at r v).head ≤ place = first.from a place here in
      let v_at : (unit_at r v).head.at ≤ place = omega arith in
      let v_to : place < end_of (unit_at r v).head = first.to a place here in
      let w_from : entries_at (unit_at r w).head ≤ place = second.from b place there in
      let w_at : (unit_at r w).head.at ≤ place = omega arith in
      let w_to : place < end_of (unit_at r w).head = second.to b place there in
      lies_once (λ (x : UnitRead). x.head.at) (λ (x : UnitRead). x.head.len) r.units 0 (length (debug_info file)) v w place no_unit (units_chained (debug_info file) r.units 0 (length (debug_info file)) read.units.tiled) v_in w_in v_at v_to w_at w_to

  section_once : (v w : ℕ) (a b : Target) (place : ℕ) → IsSectionTarget r place v a → IsSectionTarget r place w b → Refers v a ≡ Refers w b
  section_once v w a b place here there =
      let same : v ≡ w = unit_once v w a b place here there in
      let moved : IsTargetAt (unit_at r w).forest a place = subst (λ (z : ℕ). IsTargetAt (unit_at r z).forest a place) same here.1 in
      let target : a ≡ b = target_once (unit_at r w).forest (targets w there.0).order a b place moved there.1 in
      ap (λ (z : ℕ). Refers z a) same ∙ ap (λ (z : Target). Refers w z) target

  -- and so is the program that begins at a place
  program_once : (n p q : ℕ) → IsProgramAt r n p → IsProgramAt r n q → p ≡ q
  program_once n p q (p_in, p_at) (q_in, q_at) =
      let at : ProgramRead → ℕ = λ x. x.head.at in
      let len : ProgramRead → ℕ = λ x. x.head.len in
      let chained = programs_chained (debug_line file) r.programs 0 (length (debug_line file)) read.programs.tiled in
      let p_some : 0 < (program_at r p).head.len = has_bytes at len r.programs 0 (length (debug_line file)) p no_program chained p_in in
      let q_some : 0 < (program_at r q).head.len = has_bytes at len r.programs 0 (length (debug_line file)) q no_program chained q_in in
      lies_once at len r.programs 0 (length (debug_line file)) p q n no_program chained p_in q_in (omega arith) (omega arith) (omega arith) (omega arith)

  -- so is the contribution whose offsets begin at a place
  part_once : (kind : ListKind) (n p q : ℕ) → IsOffsetsAt (of_kind r kind) n p → IsOffsetsAt (of_kind r kind) n q → p ≡ q
  part_once kind n p q (p_in, p_at) (q_in, q_at) =
      let section = of_kind r kind in
      let at : Contribution → ℕ = λ x. x.at in
      let len : Contribution → ℕ = λ x. x.len in
      let none : Contribution = record { at = 0; len = 0; slots = 0 } in
      let chained = parts_chained section.section section.parts 0 (length section.section) (tiled_of file r read kind) in
      let p_some : 0 < (part_at section p).len = has_bytes at len section.parts 0 (length section.section) p none chained p_in in
      let q_some : 0 < (part_at section q).len = has_bytes at len section.parts 0 (length section.section) q none chained q_in in
      let p_here : (part_at section p).at + 12 ≡ n = p_at in
      let q_here : (part_at section q).at + 12 ≡ n = q_at in
      lies_once at len section.parts 0 (length section.section) p q (part_at section p).at none chained p_in q_in (omega arith) (omega arith) (omega arith) (omega arith)

  -- and the contribution whose slots the indexes of a unit count
  pub base_once : (u : ℕ) (kind : ListKind) (p q : ℕ) → IsBaseOf r u kind p → IsBaseOf r u kind q → p ≡ q
  base_once u kind p q (n, first, here) (m, other, there) =
      let same : n ≡ m = one_base (root_of (unit_at r u)).attributes (base_of kind) n m first other in
      part_once kind m p q (subst (λ (z : ℕ). IsOffsetsAt (of_kind r kind) z p) same here) there

  index_once : (u : ℕ) (kind : ListKind) (i : ℕ) (v w : Linked) → IndexLinks r u kind i v → IndexLinks r u kind i w → v ≡ w
  index_once u kind i v w (p, here, less, e) (q, there, more, f) = e ∙ ap (λ (z : ℕ). SlotAt kind z i) (base_once u kind p q here there) ∙ sym f

  -- the place that the first location list of an entry tells is one
  tells_once : (u : ℕ) (meaning : Meaning) (a b : ℕ) → TellsPlace r u meaning a → TellsPlace r u meaning b → a ≡ b
  tells_once u (SectionPlace n) a b (here, e) (there, f) = e ∙ sym f
  tells_once u (LocationList i) a b (p, base, slot) (q, other, there) =
      let moved : IsSlot r.locations p i b = subst (λ (z : ℕ). IsSlot r.locations z i b) (base_once u Locations q p other base) there in
      slot.tells ∙ sym moved.tells
  tells_once u meaning a b tells other = absurd tells

  pub located_once : (u id a b : ℕ) → IsFirstLocated r u id a → IsFirstLocated r u id b → a ≡ b
  located_once u id a b f g =
      let same : f.attribute ≡ g.attribute = (first_once is_located f.before f.attribute f.after g.before g.attribute g.after (sym f.parts ∙ g.parts) f.first g.first f.located g.located).1 in
      tells_once u g.attribute.1 a b (subst (λ (z : ℕ × Meaning). TellsPlace r u z.1 a) same f.tells) g.tells

  offset_once : (u id : ℕ) (class : OffsetClass) (n : ℕ) (v w : Linked) → OffsetLinks r u id class n v → OffsetLinks r u id class n w → v ≡ w
  offset_once u id LinePtr n v w (p, here, e) (q, there, f) = e ∙ ap (λ (z : ℕ). Program z) (program_once n p q here there) ∙ sym f
  offset_once u id RngList n v w (_, e) (_, f) = e ∙ sym f
  offset_once u id LocList n v w (_, e) (_, f) = e ∙ sym f
  offset_once u id RngListsPtr n v w (p, here, e) (q, there, f) = e ∙ ap (λ (z : ℕ). BaseOf Ranges z) (part_once Ranges n p q here there) ∙ sym f
  offset_once u id LocListsPtr n v w (p, here, e) (q, there, f) = e ∙ ap (λ (z : ℕ). BaseOf Locations z) (part_once Locations n p q here there) ∙ sym f
  offset_once u id AddrPtr n v w (_, e) (_, f) = e ∙ sym f
  offset_once u id StrOffsetsPtr n v w a b = a ∙ sym b
  offset_once u id MacPtr n v w a b = a ∙ sym b
  offset_once u id Views n v w (list, here, together, e) (other, there, apart, f) = e ∙ ap (λ (z : ℕ). ViewsAt z n) (located_once u id list other here there) ∙ sym f
  offset_once u id NoOffset n v w a b = absurd a

  -- what an operation names is one thing, and past the last unit none names an entry of its unit
  unit_entry_once : (u n : ℕ) (a b : OpTarget) → NamesUnitEntry r u n a → NamesUnitEntry r u n b → a ≡ b
  unit_entry_once u n a b (i, here, e) (j, there, f) =
      let inside : u < length r.units = unit_known r u i ((unit_at r u).head.at + n) here in
      e ∙ ap (λ (z : ℕ). AnEntry u z) (entry_once (unit_at r u).forest (targets u inside).order i j ((unit_at r u).head.at + n) here there) ∙ sym f

  section_entry_once : (n : ℕ) (a b : OpTarget) → NamesSectionEntry r n a → NamesSectionEntry r n b → a ≡ b
  section_entry_once n a b (v, i, v_in, here, e) (w, j, w_in, there, f) =
      let same : v ≡ w = unit_once v w (TheEntry i) (TheEntry j) n (v_in, here) (w_in, there) in
      let moved : IsEntryAt (unit_at r w).forest i n = subst (λ (z : ℕ). IsEntryAt (unit_at r z).forest i n) same here in
      let entry : i ≡ j = entry_once (unit_at r w).forest (targets w w_in).order i j n moved there in
      e ∙ ap (λ (z : ℕ). AnEntry z i) same ∙ ap (λ (z : ℕ). AnEntry w z) entry ∙ sym f

  type_once : (u code n : ℕ) (a b : OpTarget) → NamesType r u code n a → NamesType r u code n b → a ≡ b
  type_once u code n a b (inl (is, e)) (inl (also, f)) = e ∙ sym f
  type_once u code n a b (inl (is, e)) (inr (isnt, there)) = absurd (true≢false (sym is ∙ isnt))
  type_once u code n a b (inr (isnt, here)) (inl (is, f)) = absurd (true≢false (sym is ∙ isnt))
  type_once u code n a b (inr (isnt, here)) (inr (neither, there)) = unit_entry_once u n a b here there

  reference_once : (u : ℕ) (named : Named) (code n : ℕ) (a b : OpTarget) → LinksReference r u named code n a → LinksReference r u named code n b → a ≡ b
  reference_once u Nothing code n a b e f = e ∙ sym f
  reference_once u BaseType code n a b p q = type_once u code n a b p q
  reference_once u UnitEntry code n a b p q = unit_entry_once u n a b p q
  reference_once u SectionEntry code n a b p q = section_entry_once n a b p q

  operation_once : (u : ℕ) (o : Operation) (x y : LinkedOperation) → LinksOperation r u o x → LinksOperation r u o y → x ≡ y
  operation_once u o x y p q =
      let target : x.target ≡ y.target = reference_once u (named_by o.code) o.code o.a x.target y.target p.target q.target in
      ap (λ (z : Operation). record { operation = z; target = x.target }) (p.operation ∙ sym q.operation) ∙ ap (λ (z : OpTarget). record { operation = y.operation; target = z }) target

  -- so the bytes of an expression are these operations
  pub operations_once : (u : ℕ) (bytes : List ℕ) (a b : List LinkedOperation) → LinksExpression r u bytes a → LinksExpression r u bytes b → a ≡ b
  operations_once u bytes a b (os, spelled, here) (ps, again, there) =
      let same : os ≡ ps = expression_once Wide os ps bytes spelled again in
      let moved : AllZip (LinksOperation r u) ps a = subst (λ (z : List Operation). AllZip (LinksOperation r u) z a) same here in
      zip_once (LinksOperation r u) (operation_once u) ps a b moved there

  value_once : (u id name : ℕ) (meaning : Meaning) (v w : Linked) → u < length r.units → Links r u id name meaning v → Links r u id name meaning w → v ≡ w
  value_once u id name (InUnit n) v w inside (a, here, e) (b, there, f) =
      let target : a ≡ b = target_once (unit_at r u).forest (targets u inside).order a b ((unit_at r u).head.at + n) here there in
      e ∙ ap (λ (z : Target). Refers u z) target ∙ sym f
  value_once u id name (InSection n) v w inside (x, a, here, e) (y, b, there, f) = e ∙ section_once x y a b n here there ∙ sym f
  value_once u id name (SectionPlace n) v w inside a b = offset_once u id (offset_class name) n v w a b
  value_once u id name (LocationList i) v w inside a b = index_once u Locations i v w a b
  value_once u id name (RangeList i) v w inside a b = index_once u Ranges i v w a b
  value_once u id name (Expression bytes) v w inside (a, here, e) (b, there, f) = e ∙ ap (λ (z : List LinkedOperation). Operates z) (operations_once u bytes a b here there) ∙ sym f
  value_once u id name meaning v w inside a b = a ∙ sym b

pub linked_once : OneLinked
linked_once file r u id name meaning v w read inside a b = value_once file r read u id name meaning v w inside a b

-- a slot tells one place
pub slot_once : (r : Linkable) (kind : ListKind) (p i a b : ℕ) → SlotNames (of_kind r kind) p i a → SlotNames (of_kind r kind) p i b → a ≡ b
slot_once r kind p i a b (here, _) (there, _) = here.tells ∙ sym there.tells
