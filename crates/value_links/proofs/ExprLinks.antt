-- What the operations of an expression name, by what is held, and where the reference of one stands that names nothing.
use Rattle.std.proofs.Common.{◌≡◌, ◌≢◌, ◌≤◌, ◌<◌, ◌+◌, ◌∙◌, inr, ℕ, zero, suc, List, [], ◌∷◌, length, take, drop, get_or, sym, ap, subst, refl, arith}
use Rattle.std.specs.Prelude.{pos, true, false}
use Rattle.std.specs.List.{All, AllZip}
use Rattle.std.proofs.lemmas.List.{length-take, get_or_default}
use Rattle.std.proofs.lemmas.List.Elements.{All-head, All-tail}
use Rattle.dw_base.specs.declared.fault.Kind.TheVariants.{Target as WithoutTarget}
use Rattle.dw_base.specs.declared.fault.Reach.{Reach}
use Rattle.dw_base.specs.declared.fault.Reach.TheVariants.{Narrow, Wide}
use Rattle.dw_base.specs.declared.fault.Span.{Span}
use Rattle.expr_ops.specs.declared.op.Op.{Op}
use Rattle.expr_ops.specs.Drafts.{has_reference, op_at}
use Rattle.expr_ops.specs.Expressions.{Operation, IsExpression}
use Rattle.expr_ops.specs.Names.{IsReferencePlace}
use Rattle.expr_ops.specs.Ops.{meant, all_meant, IsLead, Chain}
use Rattle.form_codec.specs.declared.value.Value.{Value}
use Rattle.form_codec.specs.declared.value.Value.TheVariants as value
use Rattle.form_codec.specs.Values.{bytes_in, LiesIn}
use Rattle.abbrev_tables.specs.Listings.{Listing}
use Rattle.entry_arena.specs.Arena.{Arena}
use Rattle.entry_arena.specs.Operations.{HeldOps, no_operations, ops_of}
use Rattle.entry_read.specs.Units.{HeadAndForest}
use Rattle.entry_read.specs.Expressions.{IsExprAt, HasOperations}
use Rattle.value_links.specs.declared.parts.Parts.{Parts}
use Rattle.value_links.specs.Reading.{Linkable, no_unit, unit_at}
use Rattle.value_links.specs.Operations.{LinkedOperation, without_reference, LinksOperation}
use Rattle.value_links.specs.LinkFaults.{FaultReference}
use Rattle.value_links.specs.Laws.{AreExpressionsWithin}
use Rattle.value_links.specs.World.{head_and_forest, operations_at, HaveOperations}
use Rattle.value_links.specs.Links.{held_at}
use Rattle.value_links.specs.Parts.{HoldsParts}
use Rattle.value_links.specs.inside.Checks.{IsUnitWithTable, IsAstray, IsNoExpr, IsExprLinked, IsUnitFault}
use Rattle.value_links.proofs.TabledUnits.{value_lies}
use Rattle.value_links.proofs.LinkedValues.{parts_count, part_is}

-- OPERATIONS

-- the operation that stands for none
abbrev pub no_op : Op
no_op = record { at = 0; code = 0; a = 0; s = pos 0; jump = 0; bytes = record { at = 0; len = 0 }; inner = 0 }

-- an operation of those that follow one another is one that stands at its place
pub chain_lead : (outer : List ℕ) (at end : ℕ) (ops : List Op) (k : ℕ) (d : Op) → Chain outer at ops end → k < length ops → (size : ℕ) × IsLead outer (get_or ops k d).at size (get_or ops k d)
chain_lead outer at end [] k d chain inside = absurd (omega arith)
chain_lead outer at end (op ∷ ops) zero d (here, (size, lead, rest)) inside = (size, subst (λ (z : ℕ). IsLead outer z size op) (sym here) lead)
chain_lead outer at end (op ∷ ops) (suc k) d (here, (size, lead, rest)) inside = chain_lead outer (at + size) end ops k d rest (omega arith)

pub op_lead : (bytes : List ℕ) (ops : List Op) (k : ℕ) → Chain bytes 0 ops (length bytes) → k < length ops → (size : ℕ) × IsLead bytes (op_at ops k).at size (op_at ops k)
op_lead bytes ops k chain inside = chain_lead bytes 0 (length bytes) ops k no_op chain inside

abbrev pub AreNamed : Linkable → ℕ → List Op → Type 0
AreNamed r u ops = All (λ (op : Op). IsAstray r u op false) ops

-- operations that name what they may are linked
pub linked_list : (r : Linkable) (u : ℕ) (bytes : List ℕ) (ops : List Op) → AreNamed r u ops → (linked : List LinkedOperation) × AllZip (LinksOperation r u) (all_meant bytes ops) linked
linked_list r u bytes [] named = ([], tt)
linked_list r u bytes (op ∷ ops) named =
    let (target, here) = All-head (λ (op : Op). IsAstray r u op false) op ops named in
    let (linked, rest) = linked_list r u bytes ops (All-tail (λ (op : Op). IsAstray r u op false) op ops named) in
    (record { operation = without_reference (meant bytes op); target = target } ∷ linked, (record { operation = refl; target = here }, rest))

-- WHAT IS HELD

-- These are the bytes and the operations of an expression.
pub record HasOwn (units : List HeadAndForest) (held : List HeldOps) (u number : ℕ) (span : Span) (bytes : List ℕ) (ops : List Op) : Type 0 where
  pub bytes_are : bytes ≡ bytes_in (held_at units u).forest.section span
  pub ops_are : ops ≡ ops_of (operations_at held u) number
  pub spelled : IsExpression Wide (all_meant bytes ops) bytes
  pub placed : Chain bytes 0 ops (length bytes)

-- the operations of a value, as they are looked up
own_ops : (held : List HeldOps) (u number : ℕ) (one : HeldOps) (ops : List Op) → u < length held → one ≡ get_or held u one → ops ≡ ops_of one number → ops ≡ ops_of (operations_at held u) number
own_ops held u number one ops inside e o = o ∙ ap (λ (z : HeldOps). ops_of z number) (e ∙ get_or_default held u one no_operations inside)

module _ (units : List HeadAndForest) (held : List HeldOps) (u : ℕ) (inside : u < length units) where
  operations_inside : (reach : Reach) → HaveOperations reach units held → u < length held
  operations_inside reach have = subst (λ (z : ℕ). u < z) (sym have.count) inside

  unit_operations : (reach : Reach) → HaveOperations reach units held → HasOperations reach (held_at units u).forest (operations_at held u)
  unit_operations reach have = have.each u (head_and_forest no_unit) inside

  module _ (have : HaveOperations Wide units held) (number : ℕ) (span : Span) (stands : IsExprAt (held_at units u).forest number span) (unit : HeadAndForest) (forest : Arena) (bytes : List ℕ) (one : HeldOps) (ops : List Op) where
    pub has_own : unit ≡ held_at units u → forest ≡ unit.forest → bytes ≡ bytes_in forest.section span → one ≡ get_or held u one → ops ≡ ops_of one number → HasOwn units held u number span bytes ops
    has_own e f b i o =
        let section : List ℕ = (held_at units u).forest.section in
        let here : bytes ≡ bytes_in section span = b ∙ ap (λ (z : Arena). bytes_in z.section span) (f ∙ ap (λ (z : HeadAndForest). z.forest) e) in
        let own : ops ≡ ops_of (operations_at held u) number = own_ops held u number one ops (operations_inside Wide have) i o in
        record {
          bytes_are = here;
          ops_are = own;
          spelled = subst (λ (z : List ℕ). IsExpression Wide (all_meant z ops) z) (sym here) (subst (λ (z : List Op). IsExpression Wide (all_meant (bytes_in section span) z) (bytes_in section span)) (sym own) ((unit_operations Wide have).spelled number span stands));
          placed = subst (λ (z : List ℕ). Chain z 0 ops (length z)) (sym here) (subst (λ (z : List Op). Chain (bytes_in section span) 0 z (length (bytes_in section span))) (sym own) ((unit_operations Wide have).places number span stands));
        }

-- a value that isn't one
pub no_expr : (v : Value) → ((span : Span) → v ≢ value.Expr span) → IsNoExpr v
no_expr (value.Expr span) other = absurd (other span refl)
no_expr v other = tt

-- an expression lies in its section
pub expr_inside : (unit : HeadAndForest) (table : Listing) → IsUnitWithTable unit table → (number : ℕ) (span : Span) → IsExprAt unit.forest number span → span.at + span.len ≤ length unit.forest.section
expr_inside unit table is number span stands = subst (LiesIn (length unit.forest.section)) stands.is (value_lies unit table is number stands.inside)

-- References stand in their expression.
abbrev pub ReferencesInside : Type 0
ReferencesInside = (ops : List Op) (bytes : List ℕ) → Chain bytes 0 ops (length bytes) → (k : ℕ) → k < length ops → has_reference (op_at ops k).code ≡ true → (place : ℕ) × IsReferencePlace bytes (op_at ops k).code (op_at ops k).at place × (place < length bytes) × ((other : ℕ) → IsReferencePlace bytes (op_at ops k).code (op_at ops k).at other → other ≡ place)

pub reference_inside : ReferencesInside → (ops : List Op) (bytes section : List ℕ) (span : Span) (k place : ℕ) → Chain bytes 0 ops (length bytes) → k < length ops → has_reference (op_at ops k).code ≡ true → IsReferencePlace bytes (op_at ops k).code (op_at ops k).at place → bytes ≡ bytes_in section span → span.at + span.len ≤ length section → span.at + place ≤ length section
reference_inside law ops bytes section span k place chain inside referred stands b lies =
    let (there, at, before, one) = law ops bytes chain k inside referred in
    let same : place ≡ there = one place stands in
    let size : length bytes ≡ length (take span.len (drop span.at section)) = ap length b in
    let short : length (take span.len (drop span.at section)) ≤ span.len = omega (arith, length-take span.len (drop span.at section)) in
    omega arith

-- WHAT IS READ

module _ (file : List ℕ) (r : Linkable) (parts : Parts) (holds : HoldsParts file r parts) (u : ℕ) (inside : u < length parts.units.units.items) (number : ℕ) where
  abbrev own : List Op
  own = ops_of (operations_at parts.operations.items u) number

  -- an expression whose operations name what they may
  pub expr_linked : AreNamed r u own → IsExprLinked r u number
  expr_linked named span stands =
      let same = part_is file r parts holds u inside in
      let held : IsExprAt (held_at parts.units.units.items u).forest number span = subst (λ (z : HeadAndForest). IsExprAt z.forest number span) (sym same) stands in
      let spelled = (unit_operations parts.units.units.items parts.operations.items u inside Wide holds.operations).spelled number span held in
      let there : IsExpression Wide (all_meant (bytes_in (unit_at r u).forest.section span) own) (bytes_in (unit_at r u).forest.section span) = subst (λ (z : HeadAndForest). IsExpression Wide (all_meant (bytes_in z.forest.section span) own) (bytes_in z.forest.section span)) same spelled in
      let (linked, zipped) = linked_list r u (bytes_in (unit_at r u).forest.section span) own named in
      (linked, (all_meant (bytes_in (unit_at r u).forest.section span) own, there, zipped))

  -- an operation that names nothing
  pub reference_fault : (span : Span) (bytes : List ℕ) (ops : List Op) (k place : ℕ) → IsExprAt (held_at parts.units.units.items u).forest number span → bytes ≡ bytes_in (held_at parts.units.units.items u).forest.section span → IsExpression Wide (all_meant bytes ops) bytes → Chain bytes 0 ops (length bytes) → k < length ops → IsReferencePlace bytes (op_at ops k).code (op_at ops k).at place → IsAstray r u (op_at ops k) true → IsUnitFault u (record { kind = WithoutTarget; place = span.at + place }) r
  reference_fault span bytes ops k place stands b spelled chain inside_ops at astray = λ (reach : Reach).
      let same = part_is file r parts holds u inside in
      let fault : FaultReference r u bytes place = record { ops = ops; spelled = spelled; places = chain; k = k; inside = inside_ops; stands = at; astray = λ (target, named). astray target named } in
      let there : FaultReference r u (bytes_in (unit_at r u).forest.section span) place = subst (λ (z : List ℕ). FaultReference r u z place) (b ∙ ap (λ (z : HeadAndForest). bytes_in z.forest.section span) same) fault in
      inr (inr (inr (record { number = number; span = span; stands = subst (λ (z : HeadAndForest). IsExprAt z.forest number span) same stands; inner = place; fault = inr (refl, there); here = refl })))

-- the expressions are within the limits of a reach by which they were read
pub expressions_within : (file : List ℕ) (r : Linkable) (parts : Parts) → HoldsParts file r parts → (reach : Reach) → HaveOperations reach parts.units.units.items parts.operations.items → AreExpressionsWithin r reach
expressions_within file r parts holds reach have u number span known stands =
    let inside : u < length parts.units.units.items = subst (λ (z : ℕ). u < z) (sym (parts_count file r parts holds)) known in
    let same = part_is file r parts holds u inside in
    let own : List Op = ops_of (operations_at parts.operations.items u) number in
    let spelled = (unit_operations parts.units.units.items parts.operations.items u inside reach have).spelled number span (subst (λ (z : HeadAndForest). IsExprAt z.forest number span) (sym same) stands) in
    (all_meant (bytes_in (unit_at r u).forest.section span) own, subst (λ (z : HeadAndForest). IsExpression reach (all_meant (bytes_in z.forest.section span) own) (bytes_in z.forest.section span)) same spelled)

-- what was read within the narrow limits is within the wide ones
pub operations_wide : ((o : List Operation) (bytes : List ℕ) → IsExpression Narrow o bytes → IsExpression Wide o bytes) → (reach : Reach) (units : List HeadAndForest) (held : List HeldOps) → HaveOperations reach units held → HaveOperations Wide units held
operations_wide wider Wide units held have = have
operations_wide wider Narrow units held have = record {
  count = have.count;
  each = λ u d inside. let own = have.each u d inside in record {
    spelled = λ number span stands. wider (all_meant (bytes_in (get_or units u d).forest.section span) (ops_of (operations_at held u) number)) (bytes_in (get_or units u d).forest.section span) (own.spelled number span stands);
    places = own.places;
    only = own.only;
  };
}
