-- What the operations of an expression name, in each reading of one world.
use Rattle.std.proofs.Common.{◌≡◌, ◌<◌, ◌+◌, ◌∙◌, inl, inr, ℕ, zero, suc, List, [], ◌∷◌, length, get_or, sym, ap, subst, arith}
use Rattle.std.specs.List.{AllZip}
use Rattle.std.proofs.lemmas.List.{length-map}
use Rattle.std.proofs.Math.ListN.{get_or-map}
use Rattle.dw_base.specs.declared.fault.Reach.TheVariants.{Wide}
use Rattle.expr_ops.specs.declared.op.Op.{Op}
use Rattle.expr_ops.specs.declared.names.Named.{Named}
use Rattle.expr_ops.specs.declared.names.Named.TheVariants.{Nothing, BaseType, UnitEntry, SectionEntry}
use Rattle.expr_ops.specs.Expressions.{Operation, IsExpression}
use Rattle.expr_ops.specs.Ops.{meant, all_meant}
use Rattle.expr_ops.specs.Drafts.{op_at}
use Rattle.expr_ops.specs.Names.{named_by}
use Rattle.expr_ops.proofs.Levels.{expression_once}
use Rattle.entry_arena.specs.Arena.{IsEntryAt}
use Rattle.entry_read.specs.Units.{HeadAndForest}
use Rattle.value_links.specs.Reading.{Linkable, Reading, unit_at}
use Rattle.value_links.specs.Operations.{OpTarget, LinkedOperation, NamesUnitEntry, LinksReference, LinksOperation, Names}
use Rattle.value_links.specs.Operations.OpTarget.{AnEntry}
use Rattle.value_links.specs.World.{World, head_and_forest, Holds}
use Rattle.rewriter.specs.inside.ListNumbers.{LinksSomething}
use Rattle.rewriter.proofs.Standing.{held_unit, held_count}

-- each operation of an expression that is linked names something
zip_named : (r : Linkable) (u : ℕ) (operations : List Operation) (linked : List LinkedOperation) → AllZip (LinksOperation r u) operations linked → (k : ℕ) (d : Operation) → k < length operations → (thing : OpTarget) × Names r u (get_or operations k d).code (get_or operations k d).a thing
zip_named r u [] linked zip k d inside = absurd (omega arith)
zip_named r u (o ∷ os) [] zip k d inside = absurd zip
zip_named r u (o ∷ os) (l ∷ ls) zip zero d inside = (l.target, zip.0.target)
zip_named r u (o ∷ os) (l ∷ ls) zip (suc k) d inside = zip_named r u os ls zip.1 k d (omega arith)

pub operation_named : (r : Linkable) (u : ℕ) (bytes : List ℕ) (ops : List Op) → IsExpression Wide (all_meant bytes ops) bytes → LinksSomething r u bytes → (k : ℕ) → k < length ops → (thing : OpTarget) × Names r u (op_at ops k).code (op_at ops k).a thing
operation_named r u bytes ops spelled (linked, (operations, read, zip)) k inside =
    let same : operations ≡ all_meant bytes ops = expression_once Wide operations (all_meant bytes ops) bytes read spelled in
    let count : length operations ≡ length ops = ap length same ∙ length-map ops (meant bytes) in
    let d : Operation = meant bytes (op_at [] 0) in
    let named = zip_named r u operations linked zip k d (omega (arith, count, inside)) in
    let here : get_or operations k d ≡ meant bytes (op_at ops k) = ap (λ (z : List Operation). get_or z k d) same ∙ get_or-map (meant bytes) ops k (op_at [] 0) in
    (named.0, subst (λ (o : Operation). Names r u o.code o.a named.0) here named.1)

-- what is named in one reading of a world is named in all of them
module _ (file other : List ℕ) (world : World) (r s : Reading) (holds : Holds file world r) (held : Holds other world s) where
  same_head : (u : ℕ) → head_and_forest (unit_at r.links u) ≡ head_and_forest (unit_at s.links u)
  same_head u = sym (held_unit file world r u holds) ∙ held_unit other world s u held

  same_count : length r.links.units ≡ length s.links.units
  same_count = sym (held_count file world r holds) ∙ held_count other world s held

  entry_still : (u n : ℕ) (thing : OpTarget) → NamesUnitEntry r.links u n thing → NamesUnitEntry s.links u n thing
  entry_still u n thing here = subst (λ (h : HeadAndForest). (id : ℕ) × IsEntryAt h.forest id (h.head.at + n) × (thing ≡ AnEntry u id)) (same_head u) here

  pub reference_still : (u : ℕ) (named : Named) (code n : ℕ) (thing : OpTarget) → LinksReference r.links u named code n thing → LinksReference s.links u named code n thing
  reference_still u Nothing code n thing e = e
  reference_still u BaseType code n thing (inl generic) = inl generic
  reference_still u BaseType code n thing (inr (other, here)) = inr (other, entry_still u n thing here)
  reference_still u UnitEntry code n thing here = entry_still u n thing here
  reference_still u SectionEntry code n thing (unit, id, inside, at, e) =
      (unit, id, subst (λ (z : ℕ). unit < z) same_count inside, subst (λ (h : HeadAndForest). IsEntryAt h.forest id n) (same_head unit) at, e)

  zip_still : (u : ℕ) (operations : List Operation) (linked : List LinkedOperation) → AllZip (LinksOperation r.links u) operations linked → AllZip (LinksOperation s.links u) operations linked
  zip_still u [] [] zip = tt
  zip_still u [] (l ∷ ls) zip = absurd zip
  zip_still u (o ∷ os) [] zip = absurd zip
  zip_still u (o ∷ os) (l ∷ ls) (first, rest) = (record { operation = first.operation; target = reference_still u (named_by o.code) o.code o.a l.target first.target }, zip_still u os ls rest)

  pub links_still : (u : ℕ) (bytes : List ℕ) → LinksSomething r.links u bytes → LinksSomething s.links u bytes
  links_still u bytes (linked, (operations, read, zip)) = (linked, (operations, read, zip_still u operations linked zip))
