-- What the operations of expressions name. A value that is an expression is linked or has a fault, and never both, as any other.
use Rattle.std.proofs.Common.{◌≡◌, ◌<◌, ◌+◌, ◌∙◌, ◌⊎◌, inl, inr, true≢false, ℕ, zero, suc, List, [], ◌∷◌, length, sym, subst, refl, arith}
use Rattle.std.specs.Prelude.{Bool, true, false}
use Rattle.std.specs.List.{AllZip}
use Rattle.std.proofs.lemmas.Bool.{cases_eq}
use Rattle.dw_base.specs.declared.fault.Kind.{Kind}
use Rattle.dw_base.specs.declared.fault.Kind.TheVariants.{Target as Targetless}
use Rattle.dw_base.specs.declared.fault.Reach.{Reach}
use Rattle.dw_base.specs.declared.fault.Reach.TheVariants.{Narrow, Wide}
use Rattle.spelled.specs.Spelled.{AreBytes}
use Rattle.expr_ops.specs.declared.op.Op.{Op}
use Rattle.expr_ops.specs.declared.names.Named.{Named}
use Rattle.expr_ops.specs.declared.names.Named.TheVariants.{Nothing, BaseType, UnitEntry, SectionEntry}
use Rattle.expr_ops.specs.Expressions.{Operation, IsExpression}
use Rattle.expr_ops.specs.Ops.{meant, all_meant, Chain}
use Rattle.expr_ops.specs.Drafts.{has_reference, is_generic, op_at}
use Rattle.expr_ops.specs.Names.{named_by}
use Rattle.expr_ops.proofs.Levels.{expression_once, expression_never}
use Rattle.expr_ops.proofs.LevelsDecided.{expression_decided}
use Rattle.expr_ops.proofs.Reaches.{narrow_wide}
use Rattle.expr_ops.proofs.HeldPlaces.{expression_held}
use Rattle.expr_ops.proofs.ReferencePlaces.{references_inside}
use Rattle.expr_ops.proofs.NameLaws.{reference_named}
use Rattle.form_codec.specs.Forms.{Meaning}
use Rattle.form_codec.specs.Forms.Meaning.{Expression}
use Rattle.entry_arena.specs.Arena.{Arena, entry_at, IsEntryAt}
use Rattle.value_links.specs.Reading.{Linkable, unit_at}
use Rattle.value_links.specs.Values.{HasValueAt}
use Rattle.value_links.specs.Operations.{OpTarget, LinkedOperation, without_reference, NamesUnitEntry, NamesSectionEntry, NamesType, LinksReference, Names, LinksOperation, LinksExpression}
use Rattle.value_links.specs.Operations.OpTarget.{NoTarget, GenericType, AnEntry}
use Rattle.value_links.specs.Linked.{Linked, Links}
use Rattle.value_links.specs.Linked.Linked.{Operates}
use Rattle.value_links.specs.LinkFaults.{FaultReference, FaultOperations, FaultInUnit}
use Rattle.value_links.specs.Laws.{LinkedOrFaulty, LinkedExpressionsHaveNoFault}
use Rattle.value_links.proofs.LinkLaws.{search_below, value_or_fault}
use Rattle.value_links.proofs.ExpressionBytes.{expression_bytes, section_small, expression_stands}

-- WHAT AN OPERATION NAMES

entry_or_none : (f : Arena) (place : ℕ) → ((id : ℕ) × IsEntryAt f id place) ⊎ (¬ ((id : ℕ) × IsEntryAt f id place))
entry_or_none f place = elim (search_below (λ i. (entry_at f.entries i).at ≡ place) (λ i. cases_eq (entry_at f.entries i).at place) (length f.entries)) [
  | inl found ↦ inl (found.0, (found.1, found.2))
  | inr none ↦ inr (λ (x : (id : ℕ) × IsEntryAt f id place). none x.0 x.1.0 x.1.1)
]

module _ (r : Linkable) (u : ℕ) where
  unit_entry_or_none : (n : ℕ) → ((target : OpTarget) × NamesUnitEntry r u n target) ⊎ (¬ ((target : OpTarget) × NamesUnitEntry r u n target))
  unit_entry_or_none n = elim (entry_or_none (unit_at r u).forest ((unit_at r u).head.at + n)) [
    | inl found ↦ inl (AnEntry u found.0, (found.0, found.1, refl))
    | inr none ↦ inr (λ (x : (target : OpTarget) × NamesUnitEntry r u n target). none (x.1.0, x.1.1))
  ]

  section_entry_or_none : (n : ℕ) → ((target : OpTarget) × NamesSectionEntry r n target) ⊎ (¬ ((target : OpTarget) × NamesSectionEntry r n target))
  section_entry_or_none n = elim (search_below (λ w. (id : ℕ) × IsEntryAt (unit_at r w).forest id n) (λ w. entry_or_none (unit_at r w).forest n) (length r.units)) [
    | inl found ↦ inl (AnEntry found.0 found.2.0, (found.0, found.2.0, found.1, found.2.1, refl))
    | inr none ↦ inr (λ (x : (target : OpTarget) × NamesSectionEntry r n target). none x.1.0 x.1.2 (x.1.1, x.1.3))
  ]

  type_or_none : (code n : ℕ) (generic : Bool) → is_generic code n ≡ generic → ((target : OpTarget) × NamesType r u code n target) ⊎ (¬ ((target : OpTarget) × NamesType r u code n target))
  type_or_none code n true is = inl (GenericType, inl (is, refl))
  type_or_none code n false is = elim (unit_entry_or_none n) [
    | inl found ↦ inl (found.0, inr (is, found.1))
    | inr none ↦ inr (λ (x : (target : OpTarget) × NamesType r u code n target). astray none x.0 x.1)
  ]
    where
      astray : (¬ ((target : OpTarget) × NamesUnitEntry r u n target)) → (named : OpTarget) → NamesType r u code n named → ⊥
      astray none named (inl (generic, e)) = true≢false (sym generic ∙ is)
      astray none named (inr (other, names)) = none (named, names)

  reference_or_none : (named : Named) (code n : ℕ) → ((target : OpTarget) × LinksReference r u named code n target) ⊎ (¬ ((target : OpTarget) × LinksReference r u named code n target))
  reference_or_none Nothing code n = inl (NoTarget, refl)
  reference_or_none BaseType code n = type_or_none code n (is_generic code n) refl
  reference_or_none UnitEntry code n = unit_entry_or_none n
  reference_or_none SectionEntry code n = section_entry_or_none n

  -- an operation names one thing, or nothing that it may
  pub names_or_none : (code n : ℕ) → ((target : OpTarget) × Names r u code n target) ⊎ (¬ ((target : OpTarget) × Names r u code n target))
  names_or_none code n = reference_or_none (named_by code) code n

  -- what names nothing that it may has a reference
  has_one : (code n : ℕ) → (¬ ((target : OpTarget) × Names r u code n target)) → has_reference code ≡ true
  has_one code n astray = (reference_named code).1 (λ (none : named_by code ≡ Nothing). astray (NoTarget, subst (λ (z : Named). LinksReference r u z code n NoTarget) (sym none) refl))

-- OPERATIONS

-- all of the numbers below n have something, or one hasn't
all_or_one : (P : ℕ → Type 0) → ((i : ℕ) → P i ⊎ (¬ P i)) → (n : ℕ) → ((i : ℕ) → i < n → P i) ⊎ ((i : ℕ) × (i < n) × (¬ P i))
all_or_one P test zero = inl (λ i inside. absurd (omega arith))
all_or_one P test (suc n) = elim (all_or_one P test n) [
  | inr one ↦ inr (one.0, omega (arith, one.1), one.2)
  | inl all ↦ elim (test n) [
    | inr other ↦ inr (n, omega arith, other)
    | inl here ↦ inl (λ i inside. elim (cases_eq i n) [
      | inl same ↦ subst P (sym same) here
      | inr apart ↦ all i (omega (arith, apart))
    ])
  ]
]

module _ (r : Linkable) (u : ℕ) (bytes : List ℕ) where
  -- the operation with a number names something
  abbrev NamesAt : List Op → ℕ → Type 0
  NamesAt ops k = (target : OpTarget) × Names r u (op_at ops k).code (op_at ops k).a target

  -- where each does, they are linked
  linked_list : (ops : List Op) → ((k : ℕ) → k < length ops → NamesAt ops k) → (linked : List LinkedOperation) × AllZip (LinksOperation r u) (all_meant bytes ops) linked
  linked_list [] all = ([], tt)
  linked_list (o ∷ ops) all =
      let (target, names) = all 0 (omega arith) in
      let (linked, rest) = linked_list ops (λ k inside. all (suc k) (omega arith)) in
      (record { operation = without_reference (meant bytes o); target = target } ∷ linked, (record { operation = refl; target = names }, rest))

  -- and where they are linked each does
  names_at : (ops : List Op) (linked : List LinkedOperation) → AllZip (LinksOperation r u) (all_meant bytes ops) linked → (k : ℕ) → k < length ops → NamesAt ops k
  names_at [] linked all k inside = absurd (omega arith)
  names_at (o ∷ ops) [] all k inside = absurd all
  names_at (o ∷ ops) (l ∷ linked) (first, rest) zero inside = (l.target, first.target)
  names_at (o ∷ ops) (l ∷ linked) (first, rest) (suc k) inside = names_at ops linked rest k (omega arith)

  -- operations, each at its place, are linked, or the reference of one names nothing that it may
  linked_or_astray : (ops : List Op) → IsExpression Wide (all_meant bytes ops) bytes → Chain bytes 0 ops (length bytes) → ((linked : List LinkedOperation) × LinksExpression r u bytes linked) ⊎ ((place : ℕ) × FaultReference r u bytes place)
  linked_or_astray ops spelled places = elim (all_or_one (NamesAt ops) (λ k. names_or_none r u (op_at ops k).code (op_at ops k).a) (length ops)) [
    | inl all ↦ let (linked, zip) = linked_list ops all in inl (linked, (all_meant bytes ops, spelled, zip))
    | inr one ↦
        let place = references_inside ops bytes places one.0 one.1 (has_one r u (op_at ops one.0).code (op_at ops one.0).a one.2) in
        inr (place.0, record { ops = ops; spelled = spelled; places = places; k = one.0; inside = one.1; stands = place.1; astray = one.2 })
  ]

-- an expression within any limits is one within the wide ones
pub within_wide : (reach : Reach) (operations : List Operation) (bytes : List ℕ) → IsExpression reach operations bytes → IsExpression Wide operations bytes
within_wide Narrow operations bytes is = narrow_wide operations bytes is
within_wide Wide operations bytes is = is

-- ONE OR THE OTHER

operations_or_fault : (r : Linkable) (u : ℕ) (reach : Reach) (bytes : List ℕ) → AreBytes bytes → ((linked : List LinkedOperation) × LinksExpression r u bytes linked) ⊎ ((kind : Kind) × (place : ℕ) × FaultOperations r u reach bytes kind place)
operations_or_fault r u reach bytes small = elim (expression_decided reach bytes small) [
  | inr fault ↦ inr (fault.0, fault.1, inl fault.2)
  | inl is ↦
      let (ops, same, places) = expression_held reach is.0 bytes is.1 in
      let spelled : IsExpression Wide (all_meant bytes ops) bytes = subst (λ (z : List Operation). IsExpression Wide z bytes) (sym same) (within_wide reach is.0 bytes is.1) in
      elim (linked_or_astray r u bytes ops spelled places) [ inl linked ↦ inl linked | inr astray ↦ inr (Targetless, astray.0, inr (refl, astray.1)) ]
]

-- a value is linked, or something in its unit has a fault
abbrev pub LinkedOr : Linkable → Reach → ℕ → ℕ → ℕ → Meaning → Type 0
LinkedOr r reach u id name meaning = ((linked : Linked) × Links r u id name meaning linked) ⊎ ((kind : Kind) × (at : ℕ) × FaultInUnit r reach u kind at)

expression_or_fault : (r : Linkable) (reach : Reach) (u id number name : ℕ) (bytes : List ℕ) (place : ℕ) → HasValueAt (unit_at r u) id number name (Expression bytes) place → AreBytes bytes → LinkedOr r reach u id name (Expression bytes)
expression_or_fault r reach u id number name bytes place h small =
    let (span, stands, same) = expression_stands (unit_at r u) id number name bytes place h in
    elim (operations_or_fault r u reach bytes small) [
      | inl linked ↦ inl (Operates linked.0, (linked.0, linked.1, refl))
      | inr fault ↦ inr (fault.0, span.at + fault.1, inr (inr (inr (record { number = number; span = span; stands = stands; inner = fault.1; fault = subst (λ (z : List ℕ). FaultOperations r u reach z fault.0 fault.1) same fault.2; here = refl }))))
    ]

-- only the bytes of expressions are asked for
pub linked_or_fault : (r : Linkable) (reach : Reach) (u id number name : ℕ) (meaning : Meaning) (place : ℕ) → HasValueAt (unit_at r u) id number name meaning place → AreBytes (expression_bytes meaning) → LinkedOr r reach u id name meaning
linked_or_fault r reach u id number name meaning place h small = elim (value_or_fault r u id name meaning) [
  | inl links ↦ inl links
  | inr other ↦ elim other [
    | inl faulty ↦ inr (faulty.0, place, inl (record { id = id; number = number; name = name; meaning = meaning; stands = h; fault = faulty.1 }))
    | inr is ↦
        let moved : HasValueAt (unit_at r u) id number name (Expression is.0) place = subst (λ (m : Meaning). HasValueAt (unit_at r u) id number name m place) is.1 h in
        let own : AreBytes is.0 = subst (λ (m : Meaning). AreBytes (expression_bytes m)) is.1 small in
        subst (λ (m : Meaning). LinkedOr r reach u id name m) (sym is.1) (expression_or_fault r reach u id number name is.0 place moved own)
  ]
]

pub linked_or_faulty : LinkedOrFaulty
linked_or_faulty r u id number name meaning place reach h small =
    linked_or_fault r reach u id number name meaning place h (subst (λ (m : Meaning). AreBytes (expression_bytes m)) (sym h.meant) (section_small (unit_at r u).forest.section small h.value))

-- NEVER BOTH

pub linked_operations_faultless : LinkedExpressionsHaveNoFault
linked_operations_faultless r u reach bytes linked kind place means within (inl fault) = expression_never reach within.0 kind place bytes within.1 fault
linked_operations_faultless r u reach bytes linked kind place (operations, spelled, zip) within (inr (e, f)) =
    let same : operations ≡ all_meant bytes f.ops = expression_once Wide operations (all_meant bytes f.ops) bytes spelled f.spelled in
    f.astray (names_at r u bytes f.ops linked (subst (λ (z : List Operation). AllZip (LinksOperation r u) z linked) same zip) f.k f.inside)
