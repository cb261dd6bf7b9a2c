-- What the slots of a unit name, as they are found one after the other.
use Rattle.std.proofs.Common.{◌≡◌, ◌≤◌, ◌<◌, ◌+◌, ◌^◌, ℕ, zero, suc, List, [], ◌∷◌, ◌++◌, length, Bool, true, false, ◌∙◌, sym, ap, refl, subst, arith, inl, inr}
use Rattle.std.specs.Prelude.{◌⊎◌, Some, Result, Ok, Err, OnOk, nat_eq, if◌then◌else◌}
use Rattle.std.specs.List.{All, AllZip}
use Rattle.std.proofs.lemmas.Bool.{cases_eq, cases_lt, ne_eqb}
use Rattle.std.proofs.lemmas.List.{append-nil}
use Rattle.std.proofs.lemmas.List.Elements.{All-from_get_or}
use Rattle.dw_base.specs.declared.fault.NoMemory.{NoMemory}
use Rattle.dw_base.specs.declared.fault.Reach.TheVariants.{Narrow, Wide}
use Rattle.dw_base.specs.declared.fault.Span.{Span}
use Rattle.expr_ops.specs.declared.op.Op.{Op}
use Rattle.expr_ops.specs.Expressions.{Operation, IsExpression}
use Rattle.expr_ops.specs.Ops.{meant, all_meant}
use Rattle.expr_ops.specs.Drafts.{is_slot, is_typed, is_generic, op_at}
use Rattle.expr_ops.specs.Names.{named_by}
use Rattle.expr_ops.specs.Slots.{Aim, slot_form, op_aim, expression_aims}
use Rattle.expr_ops.specs.Slots.Aim.{Place, Length}
use Rattle.expr_ops.proofs.NextRefs.{typed_cases}
use Rattle.expr_ops.proofs.Reaches.{narrow_wide}
use Rattle.form_codec.specs.declared.value.Value.{Value}
use Rattle.form_codec.specs.declared.value.Value.TheVariants as value
use Rattle.form_codec.specs.Forms.Meaning.{InUnit}
use Rattle.form_codec.specs.Values.{bytes_in, meant_in}
use Rattle.entry_arena.specs.declared.entry.ChainEnd.{ChainEnd}
use Rattle.entry_arena.specs.Arena.{Arena, chain_end_at, entry_at, IsEntryAt}
use Rattle.entry_arena.specs.Operations.{HeldOps, ops_of}
use Rattle.entry_arena.specs.Order.{IsInOrder}
use Rattle.entry_read.specs.declared.head.UnitHead.{UnitHead}
use Rattle.entry_read.specs.Expressions.{IsExprAt}
use Rattle.entry_read.specs.Slots.{value_aims, aims_before, meaning_at, expression_bytes}
use Rattle.entry_read.specs.Units.{HeadAndForest}
use Rattle.leb_codec.specs.Layout.{uleb}
use Rattle.unit_write.specs.declared.slots.Spot.{Spot}
use Rattle.unit_write.specs.declared.slots.Spot.TheVariants.{Entry as TheEntry, Nothing as NoSpot}
use Rattle.unit_write.specs.Slots.{IsSpotAt, IsSpotFor, AreSpotsOf}
use Rattle.value_links.specs.declared.operations.OpLink.{OpLink}
use Rattle.value_links.specs.declared.operations.OpLink.TheVariants as op_link
use Rattle.value_links.specs.Links.{IsOpLinkOf, IsOpLinkFound}
use Rattle.value_links.specs.Operations.{OpTarget, NamesUnitEntry, Names}
use Rattle.value_links.specs.Reading.{Linkable, Reading, unit_at}
use Rattle.value_links.specs.World.{World, operations_at, head_and_forest, Holds, IsWorldOf}
use Rattle.rewriter.specs.inside.Taken.{IsTakenFrom}
use Rattle.rewriter.specs.inside.Placed.{unit_in, operations_for}
use Rattle.rewriter.specs.inside.Held.{MeansSomething, EntryMeans, entry_in, name_in, value_in, HaveAllValues, OperationNames, AddsSpots, AreSpotsUpTo}
use Rattle.rewriter.proofs.SlotFronts.{AreOfFront, AreOfExpression}
use Rattle.rewriter.proofs.NamedOperations.{operation_named, reference_still}
use Rattle.rewriter.proofs.Standing.{held_unit}
use Rattle.rewriter.proofs.TakenLaws.{read_expr, taken_spot_at}
use Rattle.rewriter.proofs.Zips.{zip_weaker}

-- THE NUMBERS OF CODES 0

-- they stand at rising places, so that each stands at no place below its number
climb : (ends : List ChainEnd) → ((i j : ℕ) → i < j → j < length ends → (chain_end_at ends i).at < (chain_end_at ends j).at) → (i : ℕ) → i < length ends → i ≤ (chain_end_at ends i).at
climb ends rising zero inside = omega arith
climb ends rising (suc i) inside =
    let before : i ≤ (chain_end_at ends i).at = climb ends rising i (omega arith) in
    let more : (chain_end_at ends i).at < (chain_end_at ends (suc i)).at = rising i (suc i) (omega arith) inside in
    omega arith

pub end_fits : (f : Arena) (number : ℕ) → IsInOrder f → length f.section < 2 ^ 32 → number < length f.ends → number < 2 ^ 32
end_fits f number order short inside =
    let at : number ≤ (chain_end_at f.ends number).at = climb f.ends order.ended.rising number inside in
    let below = order.ended.inside number inside in
    omega (arith, at, below, short)

-- so there are no more than bytes
pub ends_few : (f : Arena) → IsInOrder f → length f.ends ≤ length f.section
ends_few f order = elim (cases_lt (length f.section) (length f.ends)) [
  | inl more ↦
      let at = climb f.ends order.ended.rising (length f.section) more in
      let below = order.ended.inside (length f.section) more in
      absurd (omega (arith, at, below))
  | inr few ↦ few
]

-- THE SLOT OF AN OPERATION

-- what has a slot and is neither an entry_value nor a call is typed
typed_if : (long call typed generic : Bool) → long ≡ false → call ≡ false → (if long then true else (if call then true else (if typed then (if generic then false else true) else false))) ≡ true → typed ≡ true
typed_if true call typed generic no_length no_call slot = absurd (cc (no_length))
typed_if false true typed generic no_length no_call slot = absurd (cc (no_call))
typed_if false false true generic no_length no_call slot = refl
typed_if false false false generic no_length no_call slot = absurd (cc (slot))

-- and doesn't name the generic type
not_generic : {A B : Type 0} (g : Bool) → (if g then false else true) ≡ true → ((g ≡ true) × A) ⊎ ((g ≡ false) × B) → B
not_generic true slot named = absurd (cc (slot))
not_generic false slot (inl (generic, a)) = absurd (cc (generic))
not_generic false slot (inr (other, b)) = b

-- but for the length of an entry_value it names an entry of the unit
slot_names : (r : Linkable) (u code n : ℕ) (target : OpTarget) → nat_eq code 163 ≡ false → is_slot code n ≡ true → Names r u code n target → NamesUnitEntry r u n target
slot_names r u code n target other slot =
    elim (cases_eq code 153) [
      | inl call ↦ subst (λ (c : ℕ). Names r u c n target → NamesUnitEntry r u n target) (sym call) (λ names. names)
      | inr no_call ↦
          let typed : is_typed code ≡ true = typed_if (nat_eq code 163) (nat_eq code 153) (is_typed code) (is_generic code n) other (ne_eqb code 153 no_call) slot in
          typed_cases (λ (c : ℕ). is_slot c n ≡ true → Names r u c n target → NamesUnitEntry r u n target) code typed
          (λ s. not_generic (is_generic 164 n) refl) (λ s. not_generic (is_generic 165 n) refl) (λ s. not_generic (is_generic 166 n) refl) (λ s. not_generic (is_generic 167 n) refl) (λ s. not_generic (is_generic 168 n) s) (λ s. not_generic (is_generic 169 n) s) slot
    ]

-- an entry_value's slot is a length
aim_if : (f : Arena) (at : ℕ) (b : Bool) (long other : Aim) (spot : Spot) → (b ≡ false → IsSpotFor f at other spot) → IsSpotFor f at long spot → IsSpotFor f at (if b then long else other) spot
aim_if f at true long other spot place length = length
aim_if f at false long other spot place length = place refl

-- what is found of it is what it names
entry_is : (r : Linkable) (u n other id : ℕ) (told : OpTarget) → IsOpLinkOf told (op_link.Entry other id) → NamesUnitEntry r u n told → IsEntryAt (unit_at r u).forest id ((unit_at r u).head.at + n)
entry_is r u n other id told tells (x, stands, is) =
    let link : op_link.Entry other id ≡ op_link.Entry u x = subst (λ (t : OpTarget). IsOpLinkOf t (op_link.Entry other id)) is tells in
    let same : x ≡ id = cc (link) in
    subst (λ (z : ℕ). IsEntryAt (unit_at r u).forest z ((unit_at r u).head.at + n)) same stands

module _ (file : List ℕ) (world : World) (r : Reading) (u : ℕ) (op : Op) (holds : Holds file world r) (slot : is_slot op.code op.a ≡ true) where
  pub entry_found : (other id : ℕ) → IsOpLinkFound r.links u op (Some (op_link.Entry other id)) → (bytes : List ℕ) (behind : List Operation) → IsSpotFor (unit_in world.units u).forest (unit_in world.units u).head.at (op_aim (meant bytes op) behind) (TheEntry id)
  entry_found other id (target, names, tells) bytes behind =
      aim_if (unit_in world.units u).forest (unit_in world.units u).head.at (nat_eq op.code 163) _ (Place (slot_form op.code) op.a) (TheEntry id) (λ place.
      subst (λ (h : HeadAndForest). IsEntryAt h.forest id (h.head.at + op.a)) (sym (held_unit file world r u holds)) (entry_is r.links u op.a other id target tells (slot_names r.links u op.code op.a target place slot names))) tt

  -- so where it names no entry, it is such a length
  pub none_found : (link : OpLink) → IsOpLinkFound r.links u op (Some link) → ((other id : ℕ) → link ≡ op_link.Entry other id → ⊥) → (bytes : List ℕ) (behind : List Operation) → IsSpotFor (unit_in world.units u).forest (unit_in world.units u).head.at (op_aim (meant bytes op) behind) NoSpot
  none_found link (target, names, tells) other bytes behind =
      aim_if (unit_in world.units u).forest (unit_in world.units u).head.at (nat_eq op.code 163) _ (Place (slot_form op.code) op.a) NoSpot (λ place.
      let (x, stands, is) = slot_names r.links u op.code op.a target place slot names in
      other u x (subst (λ (t : OpTarget). IsOpLinkOf t link) is tells)) tt

-- THE SLOTS OF AN EXPRESSION

-- its length comes first, which names nothing; then those of its first operations are found
abbrev pub AreSpotsOfFront : HeadAndForest → List Op → ℕ → List Spot → List Spot → Type 0
AreSpotsOfFront unit ops count old new = (bytes : List ℕ) → AreOfFront (IsSpotFor unit.forest unit.head.at) bytes ops count old new

pub spots_added : (unit : HeadAndForest) (bytes : List ℕ) (ops : List Op) (old new : List Spot) → AreOfExpression (IsSpotFor unit.forest unit.head.at) bytes ops old new → AddsSpots unit (expression_aims (all_meant bytes ops)) old new
spots_added unit bytes ops old new are = record { spots = are.done; behind = are.behind; are = are.are }

-- VALUE BY VALUE

zip_append : {A B : Type 0} (R : A → B → Type 0) (xs : List A) (us : List B) (ys : List A) (vs : List B) → AllZip R xs us → AllZip R ys vs → AllZip R (xs ++ ys) (us ++ vs)
zip_append R [] [] ys vs zip rest = rest
zip_append R [] (u ∷ us) ys vs zip rest = absurd zip
zip_append R (x ∷ xs) [] ys vs zip rest = absurd zip
zip_append R (x ∷ xs) (u ∷ us) ys vs (first, more) rest = (first, zip_append R xs us ys vs more rest)

-- a value that is no reference within the unit and no expression has no slot
pub no_slot : (section : List ℕ) (v : Value) (os : List Operation) → ((n : ℕ) → v ≡ value.LocalRef n → ⊥) → ((span : Span) → v ≡ value.Expr span → ⊥) → value_aims (meant_in section v) os ≡ []
no_slot section (value.LocalRef n) os no_local no_expr = absurd (no_local n refl)
no_slot section (value.Expr span) os no_local no_expr = absurd (no_expr span refl)
no_slot section v os no_local no_expr = refl

module _ (unit : HeadAndForest) (ops : ℕ → List Operation) where
  pub spots_none : AreSpotsUpTo unit ops [] 0
  spots_none = tt

  pub spots_more : (old new : List Spot) (k : ℕ) (aims : List Aim) → value_aims (meaning_at unit.forest k) (ops k) ≡ aims → AddsSpots unit aims old new → AreSpotsUpTo unit ops old k → AreSpotsUpTo unit ops new (k + 1)
  spots_more old new k aims same adds up =
      let next : suc k ≡ k + 1 = omega arith in
      let own : AllZip (IsSpotFor unit.forest unit.head.at) (value_aims (meaning_at unit.forest k) (ops k)) adds.spots = subst (λ (z : List Aim). AllZip (IsSpotFor unit.forest unit.head.at) z adds.spots) (sym same) adds.are in
      subst (AreSpotsUpTo unit ops new) next (subst (λ (z : List Spot). AreSpotsUpTo unit ops z (suc k)) (sym adds.behind) (zip_append (IsSpotFor unit.forest unit.head.at) (aims_before (meaning_at unit.forest) ops k) old (value_aims (meaning_at unit.forest k) (ops k)) adds.spots up own))

  -- those of a value without one stay
  pub spots_still : (spots : List Spot) (k : ℕ) → value_aims (meaning_at unit.forest k) (ops k) ≡ [] → AreSpotsUpTo unit ops spots k → AreSpotsUpTo unit ops spots (k + 1)
  spots_still spots k none up = spots_more spots spots k [] none (record { spots = []; behind = sym (append-nil spots); are = tt }) up

  -- a reference has one
  pub spots_local : (old new : List Spot) (k n : ℕ) (spot : Spot) → meaning_at unit.forest k ≡ InUnit n → IsSpotAt unit.forest spot (unit.head.at + n) → new ≡ old ++ spot ∷ [] → AreSpotsUpTo unit ops old k → AreSpotsUpTo unit ops new (k + 1)
  spots_local old new k n spot local stands pushed up =
      spots_more old new k (Place uleb n ∷ []) (ap (λ m. value_aims m (ops k)) local) (record { spots = spot ∷ []; behind = pushed; are = (stands, tt) }) up

  -- ENTRY BY ENTRY

  -- those of the values of the first entries
  pub record AreSpotsOfFirst (spots : List Spot) (id : ℕ) : Type 0 where
    pub next : id < length unit.forest.entries → AreSpotsUpTo unit ops spots (entry_at unit.forest.entries id).first
    pub all : id ≡ length unit.forest.entries → AreSpotsOf unit ops spots

  pub first_none : HaveAllValues unit.forest → AreSpotsOfFirst [] 0
  first_none values = record {
    next = λ below. subst (AreSpotsUpTo unit ops []) (sym values.first) spots_none;
    all = λ none. absurd (let some : 0 < length unit.forest.entries = values.some in omega arith);
  }

  pub first_more : (spots : List Spot) (id : ℕ) → HaveAllValues unit.forest → AreSpotsUpTo unit ops spots ((entry_at unit.forest.entries id).first + (entry_at unit.forest.entries id).count) → AreSpotsOfFirst spots (id + 1)
  first_more spots id values up = record {
    next = λ below. subst (AreSpotsUpTo unit ops spots) (sym (values.adjacent id below)) up;
    all = λ last. subst (AreSpotsUpTo unit ops spots) (values.last id last) up;
  }

-- A UNIT AS IT IS WRITTEN

module _ (old new : HeadAndForest) (taken : IsTakenFrom old new) where
  -- what stands in the unit that was read stands there
  pub spot_taken : (spot : Spot) (n : ℕ) → IsSpotAt old.forest spot (old.head.at + n) → IsSpotAt new.forest spot (new.head.at + n)
  spot_taken spot n is =
      subst (λ (h : UnitHead). IsSpotAt new.forest spot (h.at + n)) (sym (ap (λ (h : HeadAndForest). h.head) taken.same)) (taken_spot_at old new taken spot (old.head.at + n) is)

  spot_for_taken : (aim : Aim) (spot : Spot) → IsSpotFor old.forest old.head.at aim spot → IsSpotFor new.forest new.head.at aim spot
  spot_for_taken (Place form n) spot is = spot_taken spot n is
  spot_for_taken (Length fixed count) spot is = tt

  spots_taken : (aims : List Aim) (before after : List Spot) → AddsSpots old aims before after → AddsSpots new aims before after
  spots_taken aims before after adds = record {
    spots = adds.spots;
    behind = adds.behind;
    are = zip_weaker (IsSpotFor old.forest old.head.at) (IsSpotFor new.forest new.head.at) spot_for_taken aims adds.spots adds.are;
  }

-- AN EXPRESSION OF A WORLD

-- each operation names what it may
operations_name : (world : World) (u id name number : ℕ) (span : Span) → IsWorldOf world.image Narrow world → u < length world.units → MeansSomething world u id name (value.Expr span) → IsExprAt (unit_in world.units u).forest number span → All (OperationNames world u) (ops_of (operations_at world.operations u) number)
operations_name world u id name number span is known m stands =
    let same : unit_in world.units u ≡ head_and_forest (unit_at m.r.links u) = held_unit m.file world m.r u m.holds in
    let held = narrow_wide _ _ ((is.operations.each u (unit_in [] 0) known).spelled number span stands) in
    let spelled : IsExpression Wide (all_meant (bytes_in (unit_at m.r.links u).forest.section span) (ops_of (operations_at world.operations u) number)) (bytes_in (unit_at m.r.links u).forest.section span) = subst (λ (h : HeadAndForest). IsExpression Wide (all_meant (bytes_in h.forest.section span) (ops_of (operations_at world.operations u) number)) (bytes_in h.forest.section span)) same held in
    All-from_get_or (OperationNames world u) (ops_of (operations_at world.operations u) number) (op_at [] 0) (λ k inside. λ file r holds.
    let op : Op = op_at (ops_of (operations_at world.operations u) number) k in
    let (target, names) = operation_named m.r.links u (bytes_in (unit_at m.r.links u).forest.section span) (ops_of (operations_at world.operations u) number) spelled (m.links.0, m.links.1) k inside in
    (target, reference_still m.file file world m.r r m.holds holds u (named_by op.code) op.code op.a target names))

module _ (world : World) (own : HeadAndForest) (u id column : ℕ) (is : IsWorldOf world.image Narrow world) (taken : IsTakenFrom (unit_in world.units u) own) (known : EntryMeans world own u id) (below : column < (entry_in world u id).count) (span : Span) (value_is : value_in world own u id column ≡ value.Expr span) (held : HeldOps) (held_is : held ≡ operations_at world.operations u) (first : ℕ) (first_is : first ≡ (entry_in world u id).first) (ops : List Op) (ops_are : ops ≡ ops_of held (first + column)) where
  abbrev number : ℕ
  number = (entry_in world u id).first + column

  ops_there : ops ≡ ops_of (operations_at world.operations u) number
  ops_there = ops_are ∙ ap (λ (h : HeldOps). ops_of h (first + column)) held_is ∙ ap (λ (n : ℕ). ops_of (operations_at world.operations u) (n + column)) first_is

  pub expression_names : All (OperationNames world u) ops
  expression_names =
      let values : (entry_in world u id).first + (entry_in world u id).count ≤ length own.forest.values = known.values in
      let stands : IsExprAt (unit_in world.units u).forest number span = read_expr (unit_in world.units u) own taken number span (record { inside = omega (arith, values, below); is = value_is }) in
      let means = subst (MeansSomething world u id (name_in world u id column)) value_is (known.means column below) in
      subst (All (OperationNames world u)) (sym ops_there) (operations_name world u id (name_in world u id column) number span is known.unit means stands)

  pub spots_expression : (old new : List Spot) → ((bytes : List ℕ) → AddsSpots (unit_in world.units u) (expression_aims (all_meant bytes ops)) old new) → AreSpotsUpTo own (operations_for world own u) old number → AreSpotsUpTo own (operations_for world own u) new (number + 1)
  spots_expression old new adds up =
      let f : Arena = own.forest in
      let bytes : List ℕ = expression_bytes (meaning_at f number) in
      let aims = ap (λ (v : Value). value_aims (meant_in f.section v) (operations_for world own u number)) value_is in
      spots_more own (operations_for world own u) old new number (expression_aims (all_meant bytes ops)) (aims ∙ ap (λ (os : List Op). expression_aims (all_meant bytes os)) (sym ops_there)) (spots_taken (unit_in world.units u) own taken (expression_aims (all_meant bytes ops)) old new (adds bytes)) up

  pub expression_added : (old new : List Spot) (r : Result (Unit {0}) NoMemory) → OnOk r ((bytes : List ℕ) → AddsSpots (unit_in world.units u) (expression_aims (all_meant bytes ops)) old new) → AreSpotsUpTo own (operations_for world own u) old number → OnOk r (AreSpotsUpTo own (operations_for world own u) new (number + 1))
  expression_added old new (Ok x) adds up = spots_expression old new adds up
  expression_added old new (Err e) adds up = tt
