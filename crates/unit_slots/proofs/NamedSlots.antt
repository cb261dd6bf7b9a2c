-- What the slots of a unit tell stands in it: what is linked names something.
use Rattle.std.proofs.Common.{◌≡◌, ◌<◌, inl, inr, ℕ, zero, suc, List, [], ◌∷◌, Bool, true, false, sym, refl, subst, arith}
use Rattle.std.specs.Prelude.{◌⊎◌, nat_eq, if◌then◌else◌}
use Rattle.std.specs.List.{All, AllZip}
use Rattle.std.proofs.lemmas.Bool.{cases_eq, ne_eqb}
use Rattle.std.proofs.lemmas.List.Elements.{All-nil, All-cons, All-append}
use Rattle.dw_base.specs.declared.fault.Reach.TheVariants.{Wide}
use Rattle.dw_base.specs.declared.fault.Span.{Span}
use Rattle.leb_codec.specs.Layout.{SlotForm, uleb}
use Rattle.expr_ops.specs.Expressions.{Operation, IsExpression}
use Rattle.expr_ops.specs.Drafts.{is_slot, is_typed, is_generic}
use Rattle.expr_ops.specs.Slots.{Aim, length_aim, slot_form, op_aim, op_aims, expression_aims}
use Rattle.expr_ops.specs.Slots.Aim.{Place, Length}
use Rattle.expr_ops.proofs.Levels.{expression_once}
use Rattle.expr_ops.proofs.NextRefs.{typed_cases}
use Rattle.form_codec.specs.declared.value.Value.{Value}
use Rattle.form_codec.specs.declared.value.Value.TheVariants as value
use Rattle.form_codec.specs.Forms.{Meaning}
use Rattle.form_codec.specs.Values.{bytes_in, meant_in}
use Rattle.entry_arena.specs.declared.entry.Target.TheVariants.{Entry as TheEntry}
use Rattle.entry_read.specs.Slots.{value_aims, aims_before}
use Rattle.entry_read.specs.Units.{HeadAndForest}
use Rattle.value_links.specs.Linked.{Linked, Links}
use Rattle.value_links.specs.Operations.{OpTarget, LinkedOperation, NamesUnitEntry, Names, LinksOperation, LinksExpression}
use Rattle.value_links.specs.Reading.{Linkable, unit_at}
use Rattle.value_links.specs.World.{head_and_forest}
use Rattle.unit_slots.specs.inside.Rows.{IsThere, NamesThere}

-- OPERATIONS

-- what has a slot and is neither an entry_value nor a call is typed
typed_if : (long call typed generic : Bool) → long ≡ false → call ≡ false → (if long then true else (if call then true else (if typed then (if generic then false else true) else false))) ≡ true → typed ≡ true
typed_if true call typed generic no_length no_call slot = absurd (cc (no_length))
typed_if false true typed generic no_length no_call slot = absurd (cc (no_call))
typed_if false false true generic no_length no_call slot = refl
typed_if false false false generic no_length no_call slot = absurd (cc (slot))

-- and doesn't name the generic type
not_generic : {A B : Type 0} (g : Bool) → (if g then false else true) ≡ true → ((g ≡ true) × A) ⊎ ((g ≡ false) × B) → B
not_generic true slot named = absurd (cc (slot))
not_generic false slot (inl (generic, a)) = absurd (cc (generic))
not_generic false slot (inr (other, b)) = b

-- but for the length of an entry_value it names an entry of the unit
slot_names : (r : Linkable) (u code n : ℕ) (target : OpTarget) → nat_eq code 163 ≡ false → is_slot code n ≡ true → Names r u code n target → NamesUnitEntry r u n target
slot_names r u code n target other slot =
    elim (cases_eq code 153) [
      | inl call ↦ subst (λ (c : ℕ). Names r u c n target → NamesUnitEntry r u n target) (sym call) (λ names. names)
      | inr no_call ↦
          let typed : is_typed code ≡ true = typed_if (nat_eq code 163) (nat_eq code 153) (is_typed code) (is_generic code n) other (ne_eqb code 153 no_call) slot in
          typed_cases (λ (c : ℕ). is_slot c n ≡ true → Names r u c n target → NamesUnitEntry r u n target) code typed
          (λ s. not_generic (is_generic 164 n) refl) (λ s. not_generic (is_generic 165 n) refl) (λ s. not_generic (is_generic 166 n) refl) (λ s. not_generic (is_generic 167 n) refl) (λ s. not_generic (is_generic 168 n) s) (λ s. not_generic (is_generic 169 n) s) slot
    ]

there_if : (unit : HeadAndForest) (b : Bool) (fixed count n : ℕ) (form : SlotForm) → (b ≡ false → IsThere unit n) → NamesThere unit (if b then Length fixed count else Place form n)
there_if unit true fixed count n form there = tt
there_if unit false fixed count n form there = there refl

module _ (r : Linkable) (u : ℕ) where
  entry_there : (n : ℕ) (target : OpTarget) → NamesUnitEntry r u n target → IsThere (head_and_forest (unit_at r u)) n
  entry_there n _ (id, stands, is) = (TheEntry id, stands)

  op_there : (o : Operation) (behind : List Operation) (target : OpTarget) → is_slot o.code o.a ≡ true → Names r u o.code o.a target → NamesThere (head_and_forest (unit_at r u)) (op_aim o behind)
  op_there o behind target slot names =
      there_if (head_and_forest (unit_at r u)) (nat_eq o.code 163) _ _ o.a (slot_form o.code) (λ other. entry_there o.a target (slot_names r u o.code o.a target other slot names))

  head_there : (b : Bool) (aim : Aim) (aims : List Aim) → (b ≡ true → NamesThere (head_and_forest (unit_at r u)) aim) → All (NamesThere (head_and_forest (unit_at r u))) aims → All (NamesThere (head_and_forest (unit_at r u))) (if b then aim ∷ aims else aims)
  head_there true aim aims here rest = All-cons (NamesThere (head_and_forest (unit_at r u))) aim aims (here refl) rest
  head_there false aim aims here rest = rest

  ops_there : (os : List Operation) (linked : List LinkedOperation) → AllZip (LinksOperation r u) os linked → All (NamesThere (head_and_forest (unit_at r u))) (op_aims os)
  ops_there [] linked zip = All-nil (NamesThere (head_and_forest (unit_at r u)))
  ops_there (o ∷ os) [] zip = absurd zip
  ops_there (o ∷ os) (l ∷ ls) (first, zip) = head_there (is_slot o.code o.a) (op_aim o os) (op_aims os) (λ slot. op_there o os l.target slot first.target) (ops_there os ls zip)

  -- those of an expression that is linked
  pub expression_there : (bytes : List ℕ) (linked : List LinkedOperation) (os : List Operation) → LinksExpression r u bytes linked → IsExpression Wide os bytes → All (NamesThere (head_and_forest (unit_at r u))) (expression_aims os)
  expression_there bytes linked os (operations, read, zip) spelled =
      let all : All (NamesThere (head_and_forest (unit_at r u))) (op_aims os) = subst (λ (z : List Operation). All (NamesThere (head_and_forest (unit_at r u))) (op_aims z)) (expression_once Wide operations os bytes read spelled) (ops_there operations linked zip) in
      All-cons (NamesThere (head_and_forest (unit_at r u))) (length_aim os) (op_aims os) tt all

  -- VALUES

  pub value_there : (id name : ℕ) (section : List ℕ) (v : Value) (linked : Linked) (os : List Operation) → Links r u id name (meant_in section v) linked → ((span : Span) → v ≡ value.Expr span → IsExpression Wide os (bytes_in section span)) → All (NamesThere (head_and_forest (unit_at r u))) (value_aims (meant_in section v) os)
  value_there id name section (value.LocalRef n) linked os (target, local, is) spelled = All-cons (NamesThere (head_and_forest (unit_at r u))) (Place uleb n) [] (target, local) (All-nil (NamesThere (head_and_forest (unit_at r u))))
  value_there id name section (value.Expr span) linked os (operations, links, is) spelled = expression_there (bytes_in section span) operations os links (spelled span refl)
  value_there id name section v linked os links spelled = All-nil (NamesThere (head_and_forest (unit_at r u)))

pub aims_there : (unit : HeadAndForest) (meanings : ℕ → Meaning) (ops : ℕ → List Operation) (count : ℕ) → ((k : ℕ) → k < count → All (NamesThere unit) (value_aims (meanings k) (ops k))) → All (NamesThere unit) (aims_before meanings ops count)
aims_there unit meanings ops zero each = All-nil (NamesThere unit)
aims_there unit meanings ops (suc k) each = All-append (NamesThere unit) (aims_before meanings ops k) (value_aims (meanings k) (ops k)) (aims_there unit meanings ops k (λ j less. each j (omega (arith, less)))) (each k (omega arith))
