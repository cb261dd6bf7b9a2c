-- The expressions of one location list as they are read one by one: what their operations name, and what is found at one of them.
use Rattle.std.proofs.Common.{◌≡◌, ◌<◌, ◌+◌, ◌∙◌, inl, inr, ℕ, List, [], ◌∷◌, ◌++◌, length, get_or, take, drop, map, cond, sym, ap, subst, refl, arith}
use Rattle.std.specs.Prelude.{◌↔◌, Option, Some, None, Bool, true, false, is_some}
use Rattle.std.specs.List.{All, Contains}
use Rattle.std.proofs.lemmas.Bool.{true≢false}
use Rattle.std.proofs.lemmas.List.{get_or-map, length-map, take-append-drop, map-append, append-nil}
use Rattle.std.proofs.lemmas.List.Elements.{All-contains, All-map, All-push, Contains-append_left, Contains-push, filter-append, filter_more}
use Rattle.dw_base.specs.Refusals.{IsFaultOf, IsRefusedFor}
use Rattle.dw_base.specs.declared.fault.Fault.{Fault}
use Rattle.dw_base.specs.declared.fault.Kind.{Kind}
use Rattle.dw_base.specs.declared.fault.Kind.TheVariants.{ListShared, Target as WithoutTarget}
use Rattle.dw_base.specs.declared.fault.Reach.{Reach}
use Rattle.dw_base.specs.declared.fault.Reach.TheVariants.{Wide}
use Rattle.dw_base.specs.declared.fault.Refusal.{Refusal}
use Rattle.expr_ops.specs.declared.op.Op.{Op}
use Rattle.expr_ops.specs.declared.names.Named.{Named}
use Rattle.expr_ops.specs.declared.names.Named.TheVariants.{Nothing, BaseType, UnitEntry, SectionEntry}
use Rattle.expr_ops.specs.Drafts.{has_reference, is_generic, op_at}
use Rattle.expr_ops.specs.Expressions.{Operation, IsExpression}
use Rattle.expr_ops.specs.ExpressionFaults.{FaultExpression}
use Rattle.expr_ops.specs.Names.{named_by, IsReferencePlace}
use Rattle.expr_ops.specs.Ops.{meant, all_meant, Chain}
use Rattle.expr_ops.specs.Reading.{IsExpressionRead}
use Rattle.expr_ops.proofs.Levels.{expression_once}
use Rattle.form_codec.specs.Values.{bytes_in}
use Rattle.list_model.specs.declared.entry.ListKind.TheVariants.{Locations}
use Rattle.list_model.specs.declared.entry.RawEntry.{RawEntry}
use Rattle.loc_lists.specs.Locations.{is_item, items_among, expressions_of}
use Rattle.value_links.specs.declared.operations.OpLink.{OpLink}
use Rattle.value_links.specs.declared.parts.Parts.{Parts}
use Rattle.value_links.specs.Reading.{Linkable}
use Rattle.value_links.specs.Operations.{OpTarget, NamesSectionEntry, LinksReference}
use Rattle.value_links.specs.Operations.OpTarget.{NoTarget, GenericType}
use Rattle.value_links.specs.Links.{IsNamedThing}
use Rattle.value_links.specs.Lists.{owner_unit, CountsInUnit, HasUnitOffset}
use Rattle.value_links.specs.ListFaults.{IsAstrayIn}
use Rattle.value_links.specs.inside.Checks.{InEach, IsAstray}
use Rattle.value_links.specs.inside.ListExpressions.{IsOwnerBy, IsTorn, OpCounts, IsExprRead, FaultExprBy, FaultExpressionsBy}
use Rattle.value_links.specs.inside.Namings.{first_naming}
use Rattle.value_links.proofs.ExpressionLaws.{names_or_none, within_wide}
use Rattle.value_links.proofs.ExprLinks.{no_op, ReferencesInside, AreNamed, linked_list}
use Rattle.value_links.proofs.Refusing.{refused_more}

-- AN OPERATION

-- one that nothing is found for names nothing
nothing_found : (IsThing : OpTarget → Type 0) (found : Option OpLink) → is_some found ≡ false → IsNamedThing IsThing found → ¬ ((target : OpTarget) × IsThing target)
nothing_found IsThing (Some link) none named found = true≢false none
nothing_found IsThing None none named (target, is) = named target is

-- where no unit owns the list
pub unowned_astray : (r : Linkable) (code n : ℕ) (found : Option OpLink) → named_by code ≡ SectionEntry → is_some found ≡ false → IsNamedThing (NamesSectionEntry r n) found → IsAstrayIn r None code n
unowned_astray r code n found is none named = (is, nothing_found (NamesSectionEntry r n) found none named)

settled : (b : Bool) → ¬ (b ≡ false) → b ≡ true
settled true other = refl
settled false other = absurd (other refl)

-- what doesn't count in a unit, and isn't astray in .debug_info, names what it may
uncounted_named : (r : Linkable) (u : ℕ) (named : Named) (code n : ℕ) → ¬ CountsInUnit named code n → ¬ ((named ≡ SectionEntry) × (¬ ((target : OpTarget) × NamesSectionEntry r n target))) → ¬ (¬ ((target : OpTarget) × LinksReference r u named code n target))
uncounted_named r u Nothing code n other linked none = none (NoTarget, refl)
uncounted_named r u BaseType code n other linked none = none (GenericType, inl (settled (is_generic code n) other, refl))
uncounted_named r u UnitEntry code n other linked none = other tt
uncounted_named r u SectionEntry code n other linked none = linked (refl, none)

-- An operation of a list isn't astray, and doesn't count in a unit where the list is torn.
abbrev pub IsOpRead : Linkable → Option ℕ → Bool → Op → Type 0
IsOpRead r owner torn op = (¬ IsAstrayIn r owner op.code op.a) × (torn ≡ true → ¬ OpCounts op)

abbrev pub AreOpsRead : Linkable → Option ℕ → Bool → List Op → Type 0
AreOpsRead r owner torn ops = All (IsOpRead r owner torn) ops

-- then it names what it may, also where the list has no owner
op_named : (r : Linkable) (owner : Option ℕ) (torn : Bool) (op : Op) → (owner ≡ None → torn ≡ true) → IsOpRead r owner torn op → IsAstray r (owner_unit r owner) op false
op_named r (Some u) torn op alone read = elim (names_or_none r u op.code op.a) [
  | inl found ↦ found
  | inr none ↦ absurd (read.0 none)
]
op_named r None torn op alone read = elim (names_or_none r (length r.units) op.code op.a) [
  | inl found ↦ found
  | inr none ↦ absurd (uncounted_named r (length r.units) (named_by op.code) op.code op.a (read.1 (alone refl)) read.0 none)
]

all_named : (r : Linkable) (owner : Option ℕ) (torn : Bool) (ops : List Op) → (owner ≡ None → torn ≡ true) → AreOpsRead r owner torn ops → AreNamed r (owner_unit r owner) ops
all_named r owner torn ops alone read = λ k d inside. op_named r owner torn (get_or ops k d) alone (read k d inside)

-- AN EXPRESSION

-- These are the operations of the bytes, each with its place.
pub record AreHeld (reach : Reach) (bytes : List ℕ) (ops : List Op) : Type 0 where
  pub spelled : IsExpression reach (all_meant bytes ops) bytes
  pub placed : Chain bytes 0 ops (length bytes)

-- they stand alone behind none
pub held_alone : (reach : Reach) (bytes : List ℕ) (old new ops : List Op) → IsExpressionRead reach bytes old new → old ≡ [] → ops ≡ new → AreHeld reach bytes ops
held_alone reach bytes old new ops read none same =
    let whole : ops ≡ read.more = same ∙ read.items ∙ ap (λ (z : List Op). z ++ read.more) none in
    record {
      spelled = subst (λ (z : List Op). IsExpression reach (all_meant bytes z) bytes) (sym whole) read.read;
      placed = subst (λ (z : List Op). Chain bytes 0 z (length bytes)) (sym whole) read.places;
    }

-- where no operation counts in a unit
abbrev IsUncounted : Operation → Type 0
IsUncounted o = ¬ CountsInUnit (named_by o.code) o.code o.a

no_offset : (bytes : List ℕ) (ops : List Op) → IsExpression Wide (all_meant bytes ops) bytes → All (λ (op : Op). ¬ OpCounts op) ops → ¬ HasUnitOffset bytes
no_offset bytes ops spelled none has =
    let same : has.operations ≡ all_meant bytes ops = expression_once Wide has.operations (all_meant bytes ops) bytes has.spelled spelled in
    let among : Contains (all_meant bytes ops) has.one = subst (λ (z : List Operation). Contains z has.one) same has.among in
    All-contains IsUncounted (all_meant bytes ops) has.one (All-map IsUncounted (meant bytes) ops none) among has.counts

-- the place of a reference is before the end of the bytes
pub reference_below : ReferencesInside → (ops : List Op) (bytes : List ℕ) (k place : ℕ) → Chain bytes 0 ops (length bytes) → k < length ops → has_reference (op_at ops k).code ≡ true → IsReferencePlace bytes (op_at ops k).code (op_at ops k).at place → place < length bytes
reference_below law ops bytes k place chain inside referred stands =
    let (there, at, before, one) = law ops bytes chain k inside referred in
    let same : place ≡ there = one place stands in
    omega (arith, before)

module _ (r : Linkable) (owner : Option ℕ) (torn : Bool) (reach : Reach) (bytes : List ℕ) (ops : List Op) (held : AreHeld reach bytes ops) where
  wide : IsExpression Wide (all_meant bytes ops) bytes
  wide = within_wide reach (all_meant bytes ops) bytes held.spelled

  pub expr_read : (owner ≡ None → torn ≡ true) → AreOpsRead r owner torn ops → IsExprRead r owner torn reach bytes
  expr_read alone read =
      let (linked, zipped) = linked_list r (owner_unit r owner) bytes ops (all_named r owner torn ops alone read) in (
        (all_meant bytes ops, held.spelled),
        (linked, (all_meant bytes ops, wide, zipped)),
        λ apart. no_offset bytes ops wide (λ k d inside. (read k d inside).1 apart),
      )

  module _ (from list k : ℕ) (inside : k < length ops) where
    there : Contains (all_meant bytes ops) (meant bytes (op_at ops k))
    there = (k, subst (λ (z : ℕ). k < z) (sym (length-map ops (meant bytes))) inside, get_or-map (meant bytes) ops k no_op (meant bytes (op_at ops k)) inside)

    -- one counts in a unit, though the list is torn
    pub counted_fault : torn ≡ true → OpCounts (op_at ops k) → FaultExprBy r owner torn reach bytes from list ListShared list
    counted_fault apart counts = inl (refl, apart, record { operations = all_meant bytes ops; spelled = wide; one = meant bytes (op_at ops k); among = there; counts = counts }, refl)

    -- one is astray
    pub astray_fault : (place : ℕ) → IsReferencePlace bytes (op_at ops k).code (op_at ops k).at place → IsAstrayIn r owner (op_at ops k).code (op_at ops k).a → FaultExprBy r owner torn reach bytes from list WithoutTarget (from + place)
    astray_fault place stands astray = inr (place, inr (refl, record { ops = ops; spelled = wide; places = held.placed; k = k; inside = inside; stands = stands; astray = astray }), refl)

-- the bytes are none
pub spelled_fault : (parts : Parts) (owner : Option ℕ) (torn : Bool) (reach : Reach) (bytes : List ℕ) (from list : ℕ) (refusal : Refusal) → IsRefusedFor (IsFaultOf (λ (kind : Kind) (at : ℕ). FaultExpression reach kind at bytes) from) refusal → IsRefusedFor (λ (fault : Fault). InEach parts (λ (r : Linkable). FaultExprBy r owner torn reach bytes from list fault.kind fault.place)) refusal
spelled_fault parts owner torn reach bytes from list refusal =
    refused_more (IsFaultOf (λ (kind : Kind) (at : ℕ). FaultExpression reach kind at bytes) from) (λ (fault : Fault). InEach parts (λ (r : Linkable). FaultExprBy r owner torn reach bytes from list fault.kind fault.place)) (λ fault (place, here, own) file r holds. inr (place, inl own, here)) refusal

-- ALL EXPRESSIONS OF A LIST

-- the entry that stands for none
abbrev pub no_raw : RawEntry
no_raw = record { at = 0; code = 0; a = 0; b = 0; expr = record { at = 0; len = 0 } }

abbrev pub raw_at : List RawEntry → ℕ → RawEntry
raw_at raws i = get_or raws i no_raw

module _ (section : List ℕ) (raws : List RawEntry) (i : ℕ) (inside : i < length raws) where
  one_item : is_item (raw_at raws i) ≡ true → items_among (take (i + 1) raws) ≡ items_among (take i raws) ++ raw_at raws i ∷ []
  one_item is = filter_more is_item raws i no_raw inside ∙ ap (λ (b : Bool). items_among (take i raws) ++ cond b (raw_at raws i ∷ []) []) is

  no_item : is_item (raw_at raws i) ≡ false → items_among (take (i + 1) raws) ≡ items_among (take i raws)
  no_item is = filter_more is_item raws i no_raw inside ∙ ap (λ (b : Bool). items_among (take i raws) ++ cond b (raw_at raws i ∷ []) []) is ∙ append-nil (items_among (take i raws))

  -- what holds of the expressions of the first entries holds of one more
  module _ (P : List ℕ → Type 0) (all : All P (expressions_of section (take i raws))) where
    pub item_more : is_item (raw_at raws i) ≡ true → P (bytes_in section (raw_at raws i).expr) → All P (expressions_of section (take (i + 1) raws))
    item_more is here =
        subst (λ (z : List RawEntry). All P (map (λ (raw : RawEntry). bytes_in section raw.expr) z)) (sym (one_item is))
        (subst (λ (z : List (List ℕ)). All P z) (sym (map-append (λ (raw : RawEntry). bytes_in section raw.expr) (items_among (take i raws)) (raw_at raws i ∷ []))) (All-push P (expressions_of section (take i raws)) (bytes_in section (raw_at raws i).expr) all here))

    pub other_more : is_item (raw_at raws i) ≡ false → All P (expressions_of section (take (i + 1) raws))
    other_more is = subst (λ (z : List RawEntry). All P (map (λ (raw : RawEntry). bytes_in section raw.expr) z)) (sym (no_item is)) all

  contains_item : is_item (raw_at raws i) ≡ true → Contains (items_among raws) (raw_at raws i)
  contains_item is =
      let raw = raw_at raws i in
      let front : Contains (items_among (take (i + 1) raws)) raw = subst (λ (z : List RawEntry). Contains z raw) (sym (one_item is)) (Contains-push (items_among (take i raws)) raw) in
      let split : items_among (take (i + 1) raws ++ drop (i + 1) raws) ≡ items_among (take (i + 1) raws) ++ items_among (drop (i + 1) raws) = filter-append is_item (take (i + 1) raws) (drop (i + 1) raws) in
      subst (λ (z : List RawEntry). Contains (items_among z) raw) (take-append-drop (i + 1) raws)
      (subst (λ (z : List RawEntry). Contains z raw) (sym split) (Contains-append_left (items_among (take (i + 1) raws)) (items_among (drop (i + 1) raws)) raw front))

  -- a fault of its expression is one of the list that namings tell
  module _ (named : List (ℕ × ℕ)) (owner : Option ℕ) (torn : Bool) (owned : IsOwnerBy named owner) (apart : (torn ≡ true) ↔ IsTorn named) (reach : Reach) (origin : ℕ) (is : is_item (raw_at raws i) ≡ true) where
    moved : (r : Linkable) (kind : Kind) (place : ℕ) → FaultExprBy r owner torn reach (bytes_in section (raw_at raws i).expr) (origin + (raw_at raws i).expr.at) (origin + (first_naming named).0) kind place → (inner : ℕ) × (place ≡ origin + inner) × FaultExpressionsBy Locations section named reach raws r kind inner
    moved r kind place (inl (shared, is_apart, offset, here)) = ((first_naming named).0, here, (owner, torn, raw_at raws i, owned, apart, contains_item is, inl (shared, is_apart, offset, refl)))
    moved r kind place (inr (inner, fault, here)) = ((raw_at raws i).expr.at + inner, omega (arith, here), (owner, torn, raw_at raws i, owned, apart, contains_item is, inr (inner, fault, refl)))

    pub one_refused : (parts : Parts) (bytes : List ℕ) (refusal : Refusal) → bytes ≡ bytes_in section (raw_at raws i).expr → IsRefusedFor (λ (fault : Fault). InEach parts (λ (r : Linkable). FaultExprBy r owner torn reach bytes (origin + (raw_at raws i).expr.at) (origin + (first_naming named).0) fault.kind fault.place)) refusal → InEach parts (λ (r : Linkable). IsRefusedFor (IsFaultOf (FaultExpressionsBy Locations section named reach raws r) origin) refusal)
    one_refused parts bytes refusal e refused = λ file r holds.
        refused_more (λ (fault : Fault). InEach parts (λ (one : Linkable). FaultExprBy one owner torn reach bytes (origin + (raw_at raws i).expr.at) (origin + (first_naming named).0) fault.kind fault.place)) (IsFaultOf (FaultExpressionsBy Locations section named reach raws r) origin)
        (λ fault own. moved r fault.kind fault.place (subst (λ (z : List ℕ). FaultExprBy r owner torn reach z (origin + (raw_at raws i).expr.at) (origin + (first_naming named).0) fault.kind fault.place) e (own file r holds))) refusal refused
