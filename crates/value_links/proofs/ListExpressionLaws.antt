-- The expressions of location lists: what their operations name, and what is known of a list whose expressions are read one by one.
use Rattle.std.proofs.Common.{◌≡◌, ◌≢◌, ◌<◌, ◌^◌, ◌∙◌, inl, inr, ℕ, zero, suc, List, length, sym, ap, subst, refl}
use Rattle.std.specs.Prelude.{◌↔◌, Option, Bool, true, false}
use Rattle.std.specs.List.{All}
use Rattle.std.proofs.lemmas.Bool.{true≢false}
use Rattle.dw_base.specs.declared.fault.Kind.{Kind}
use Rattle.dw_base.specs.declared.fault.Kind.TheVariants.{ListShared, Op as OpUnknown, Branch, Limit}
use Rattle.dw_base.specs.declared.fault.Reach.{Reach}
use Rattle.expr_ops.specs.declared.table.Operands.{Operands}
use Rattle.expr_ops.specs.declared.table.Operands.TheVariants as operands
use Rattle.expr_ops.specs.Expressions.{Segment, SpellsSegment, branch_limit}
use Rattle.expr_ops.specs.ExpressionFaults.{FaultLevel, FaultSegment, FaultExpression}
use Rattle.expr_ops.specs.HeadFaults.{FaultOperands, FaultHead}
use Rattle.list_model.specs.declared.entry.ListKind.{ListKind}
use Rattle.list_model.specs.declared.entry.ListKind.TheVariants.{Ranges, Locations}
use Rattle.list_model.specs.declared.entry.RawEntry.{RawEntry}
use Rattle.value_links.specs.Reading.{ListRead, Linkable, of_kind}
use Rattle.value_links.specs.Operations.{IsSomeExpression}
use Rattle.value_links.specs.Lists.{IsListIn, expressions_at, AreExpressionsRead}
use Rattle.value_links.specs.ListFaults.{FaultListExpression, FaultExpressionsOf}
use Rattle.value_links.specs.inside.ListExpressions.{IsOwnerBy, IsTorn, AreExprsRead, FaultExpressionsBy}
use Rattle.value_links.specs.inside.Namings.{AreNamings}
use Rattle.value_links.specs.inside.NamedLists.{AreNamingsAt}
use Rattle.value_links.proofs.ListOwners.{first_at, owner_told, owner_is, torn_told, torn_is, two_torn}

-- KINDS OF FAULTS

abbrev is_shared : Kind → Bool
is_shared ListShared = true
is_shared kind = false

not_shared : (kind : Kind) → is_shared kind ≡ false → ListShared ≢ kind
not_shared kind other e = true≢false (ap is_shared e ∙ other)

operands_kind : (known : Operands) (at : ℕ) (bytes : List ℕ) → ¬ FaultOperands known ListShared at bytes
operands_kind operands.Nothing at bytes f = f
operands_kind (operands.One s) at bytes f = f.0
operands_kind (operands.Two s t) at bytes (inl f) = f.0
operands_kind (operands.Two s t) at bytes (inr (v, first, rest, inner, spelled, f, whole, place)) = f.0
operands_kind (operands.Typed s) at bytes (inl f) = f.0
operands_kind (operands.Typed s) at bytes (inr (v, first, rest, inner, spelled, f, whole, place)) = f.0

head_kind : (at : ℕ) (bytes : List ℕ) → ¬ FaultHead ListShared at bytes
head_kind at bytes (code, tail, e, inl (none, kind, here)) = not_shared OpUnknown refl kind
head_kind at bytes (code, tail, e, inr (known, is, inner, f, here)) = operands_kind known inner tail f

module _ (most : ℕ) where
  level_kind : (S : Segment → List ℕ → Type 0) (F : Kind → ℕ → List ℕ → Type 0) → ((at : ℕ) (bytes : List ℕ) → ¬ F ListShared at bytes) → (at : ℕ) (bytes : List ℕ) → ¬ FaultLevel most S F ListShared at bytes
  level_kind S F none at bytes (inl f) = none f.inner f.rest f.fault
  level_kind S F none at bytes (inr (inl (kind, astray))) = not_shared Branch refl kind
  level_kind S F none at bytes (inr (inr (kind, here, long))) = not_shared Limit refl kind

  segment_kind : (deep : ℕ) (at : ℕ) (bytes : List ℕ) → ¬ FaultSegment most deep ListShared at bytes
  segment_kind zero at bytes (inl f) = head_kind at bytes f
  segment_kind zero at bytes (inr (head, front, rest, enters, kind, here)) = not_shared Limit refl kind
  segment_kind (suc deep) at bytes (inl f) = head_kind at bytes f
  segment_kind (suc deep) at bytes (inr (head, front, rest, inner, enters, f, here)) = level_kind (SpellsSegment most deep) (FaultSegment most deep) (segment_kind deep) inner head.block f

-- no fault of an expression is that of a list
expression_kind : (reach : Reach) (at : ℕ) (bytes : List ℕ) → ¬ FaultExpression reach ListShared at bytes
expression_kind reach at bytes f =
    level_kind (branch_limit reach) (SpellsSegment (branch_limit reach) 8) (FaultSegment (branch_limit reach) 8) (segment_kind (branch_limit reach) 8) at bytes f

-- A LIST THAT NAMINGS TELL

-- its expressions are read, whatever its owner, and whether it is torn or not
abbrev pub AreExprsReadBy : Linkable → ListKind → List (ℕ × ℕ) → Reach → List RawEntry → Type 0
AreExprsReadBy r kind named reach raws = (owner : Option ℕ) (torn : Bool) → IsOwnerBy named owner → (torn ≡ true) ↔ IsTorn named → AreExprsRead kind (of_kind r kind).section r owner torn reach raws

module _ (r : Linkable) (kind : ListKind) (namings : List (ℕ × ℕ)) (are : AreNamings r kind namings) (few : length r.units < 2 ^ 32) (list : ListRead) (named : List (ℕ × ℕ)) (here : AreNamingsAt namings list.at named) (reach : Reach) where
  pub expressions_read : AreExprsReadBy r kind named reach list.raws → AreExpressionsRead r kind list
  expressions_read read =
      let (owner, owned) = owner_told named in
      let (torn, is) = torn_told named in
      let all = read owner torn owned is in
      record {
        owner = owner;
        owned = owner_is r kind namings are few list.at named here owner owned;
        linked = λ k d inside. (all k d inside).1;
        single = λ two k d inside. (all k d inside).2 (is.1 (two_torn r kind namings are few list.at named here two));
      }

  pub expressions_within : AreExprsReadBy r kind named reach list.raws → All (IsSomeExpression reach) (expressions_at r kind list)
  expressions_within read =
      let (owner, owned) = owner_told named in
      let (torn, is) = torn_told named in
      let all = read owner torn owned is in
      λ k d inside. (all k d inside).0

-- a fault of an expression isn't that of a list
own_fault : (r : Linkable) (reach : Reach) (kind : Kind) (place : ℕ) → FaultListExpression r reach kind place → FaultExpressionsOf Locations r reach kind place
own_fault r reach ListShared place f = elim f.fault [
  | inl fault ↦ absurd (expression_kind reach f.inner _ fault)
  | inr astray ↦ absurd (not_shared _ refl astray.0)
]
own_fault r reach kind place f = f

-- what is found at one of the expressions is a fault of the file
pub expressions_fault : (r : Linkable) (kind : ListKind) (namings : List (ℕ × ℕ)) → AreNamings r kind namings → length r.units < 2 ^ 32 → (list : ListRead) (named : List (ℕ × ℕ)) → AreNamingsAt namings list.at named → (reach : Reach) → IsListIn r kind list → (k : Kind) (place : ℕ) → FaultExpressionsBy kind (of_kind r kind).section named reach list.raws r k place → FaultExpressionsOf kind r reach k place
expressions_fault r Ranges namings are few list named here reach read k place f = f
expressions_fault r Locations namings are few list named here reach read k place (owner, torn, raw, owned, is, has, inl (shared, apart, offset, at)) =
    subst (λ (z : Kind). FaultExpressionsOf Locations r reach z place) (sym shared) (record {
      list = list;
      read = read;
      units = torn_is r Locations namings are few list.at named here (is.0 apart);
      raw = raw;
      one = has;
      offset = offset;
      here = at ∙ first_at r Locations namings are few list.at named here;
    })
expressions_fault r Locations namings are few list named here reach read k place (owner, torn, raw, owned, is, has, inr (inner, fault, at)) =
    own_fault r reach k place (record {
      list = list;
      read = read;
      owner = owner;
      owned = owner_is r Locations namings are few list.at named here owner owned;
      raw = raw;
      one = has;
      inner = inner;
      fault = fault;
      here = at;
    })
