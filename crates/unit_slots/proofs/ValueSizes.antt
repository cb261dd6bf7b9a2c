-- The sizes of the slots of a value.
use Rattle.std.proofs.Common.{◌≡◌, ◌≤◌, ◌<◌, ◌+◌, ◌-◌, ◌∙◌, ◌++◌, ℕ, List, [], ◌∷◌, length, take, drop, cond, sum, sym, ap, subst, refl, arith, inl, inr}
use Rattle.std.specs.Prelude.{◌*◌, ◌^◌, Bool, true, false, ℤ, pos, if◌then◌else◌, nat_le}
use Rattle.std.specs.List.{AllZip}
use Rattle.std.proofs.lemmas.List.{append_assoc, append-nil, length-append, take-append-drop}
use Rattle.std.proofs.lemmas.Bool.{cond_both}
use Rattle.std.proofs.lemmas.Bool.Decides.{eqb_tells}
use Rattle.dw_base.specs.declared.fault.Reach.TheVariants.{Wide}
use Rattle.dw_base.specs.declared.fault.Span.{Span}
use Rattle.fixed_width.specs.Numbers.{number}
use Rattle.leb_codec.specs.Leb.{Uleb}
use Rattle.leb_codec.specs.Layout.{SlotForm}
use Rattle.slot_layout.specs.Rows.{CanHaveSize}
use Rattle.expr_ops.specs.declared.op.Op.{Op}
use Rattle.expr_ops.specs.Drafts.{is_slot}
use Rattle.expr_ops.specs.Expressions.{Operation}
use Rattle.expr_ops.specs.Ops.{meant, all_meant}
use Rattle.expr_ops.specs.Slots.{Aim, slot_form, length_aim, op_aim, op_aims}
use Rattle.expr_ops.specs.Slots.Aim.{Place}
use Rattle.form_codec.specs.declared.form.Role.{Role}
use Rattle.form_codec.specs.declared.form.Role.TheVariants as role
use Rattle.form_codec.specs.declared.form.Content.TheVariants as content
use Rattle.form_codec.specs.declared.form.Width.{Width}
use Rattle.form_codec.specs.declared.form.Width.TheVariants.{One, Two, Three, Four, Eight}
use Rattle.form_codec.specs.declared.form.Shape.{Shape}
use Rattle.form_codec.specs.declared.form.Shape.TheVariants.{Constant, Present, Number, Uleb as ByUleb, Sleb as BySleb, Counted, UlebCounted, Sixteen, ZeroEnded}
use Rattle.form_codec.specs.declared.value.Value.{Value}
use Rattle.form_codec.specs.declared.value.Value.TheVariants as value
use Rattle.form_codec.specs.Forms.{Meaning, SpellsShape, SpellsValue, data_of, in_role, shape_of, size_of}
use Rattle.form_codec.specs.Forms.Meaning.{Whole, Bits, Expression, InUnit}
use Rattle.form_codec.specs.Values.{bytes_in, meant_in, IsPlaced}
use Rattle.entry_arena.specs.Arena.{Arena, value_at}
use Rattle.entry_arena.specs.Operations.{HeldOps, ops_of}
use Rattle.entry_arena.specs.Trees.{bytes_between, SpellsBetween}
use Rattle.entry_arena.proofs.Between.{length_between}
use Rattle.entry_read.specs.Expressions.{IsExprAt, HasOperations}
use Rattle.entry_read.specs.Slots.{expression_bytes, meaning_at, operations_in}
use Rattle.unit_slots.specs.Standing.{slotted}
use Rattle.unit_slots.specs.inside.Added.{Begins, form_told, CanHaveSizes, AddsSizes, AreOperationsOf, HasExpressionSizes, HasValueSizes}
use Rattle.unit_slots.proofs.ExpressionSizes.{sum_cons}
use Rattle.unit_slots.proofs.NumberEnds.{size_is}

-- THE BYTES OF A VALUE

width_some : (w : Width) → 0 < size_of w
width_some One = omega arith
width_some Two = omega arith
width_some Three = omega arith
width_some Four = omega arith
width_some Eight = omega arith

-- a reference within the unit has some
reference_shape : (shape : Shape) (n : ℕ) (bytes : List ℕ) → SpellsShape shape (InUnit n) bytes → 0 < length bytes
reference_shape (Constant v) n bytes p = absurd (cc (p.2))
reference_shape Present n bytes p = absurd (cc (p.1))
reference_shape (Number w r) n bytes p = let some = width_some w in let size = p.0 in omega (arith, some, size)
reference_shape (ByUleb r) n bytes p = p.1.0.0.filled
reference_shape BySleb n bytes p = absurd (cc (p.2))
reference_shape (Counted w) n bytes p = absurd (cc (p.holds))
reference_shape (UlebCounted content.Data) n bytes p = absurd (cc (p.holds))
reference_shape (UlebCounted content.Expression) n bytes p = absurd (cc (p.holds))
reference_shape Sixteen n bytes p = absurd (cc (p.1))
reference_shape ZeroEnded n bytes p = absurd (cc (p.holds))

data_no_expression : (size n : ℕ) (body : List ℕ) → Expression body ≡ data_of size n → ⊥
data_no_expression size n body =
    cond_both (nat_le (2 ^ (8 * size - 1)) n) (Bits size n) (Whole (pos n)) (λ z. Expression body ≡ z → ⊥) (λ e same. absurd (cc (same))) (λ e same. absurd (cc (same)))

role_no_expression : (r : Role) (w : Width) (n : ℕ) (body : List ℕ) → Expression body ≡ in_role r w n → ⊥
role_no_expression role.Data w n body e = data_no_expression (size_of w) n body e
role_no_expression r w n body e = absurd (cc (e))

-- an expression has its length and its bytes
IsCountedBody : List ℕ → List ℕ → Type 0
IsCountedBody body bytes = (head : List ℕ) × Uleb (length body) head × (bytes ≡ head ++ body)

pub same_body : (a b : List ℕ) → Expression a ≡ Expression b → b ≡ a
same_body a b e = cc

expression_shape : (shape : Shape) (body bytes : List ℕ) → SpellsShape shape (Expression body) bytes → IsCountedBody body bytes
unfolding IsCountedBody
expression_shape (Constant v) body bytes p = absurd (cc (p.2))
expression_shape Present body bytes p = absurd (cc (p.1))
expression_shape (Number w r) body bytes p = absurd (role_no_expression r w (number (size_of w) bytes) body p.1)
expression_shape (ByUleb r) body bytes p = absurd (role_no_expression r Eight p.0 body p.2)
expression_shape BySleb body bytes p = absurd (cc (p.2))
expression_shape (Counted w) body bytes p = absurd (cc (p.holds))
expression_shape (UlebCounted content.Data) body bytes p = absurd (cc (p.holds))
expression_shape (UlebCounted content.Expression) body bytes p =
    let same : p.body ≡ body = same_body body p.body p.holds in
    (p.head, subst (λ (z : List ℕ). Uleb (length z) p.head) same p.count, p.whole ∙ ap (λ (z : List ℕ). p.head ++ z) same)
expression_shape Sixteen body bytes p = absurd (cc (p.1))
expression_shape ZeroEnded body bytes p = absurd (cc (p.holds))

-- THE SIZES THAT SLOTS OF OPERATIONS CAN HAVE

told : (o : Operation) (behind : List Operation) → form_told (op_aim o behind) ≡ slot_form o.code
told o behind = elim (eqb_tells o.code 163) [
  | inl (same, is) ↦
      ap (λ (b : Bool). form_told (if b then length_aim (take o.inner behind) else Place (slot_form o.code) o.a)) same ∙ ap slot_form (sym is)
  | inr (not_same, other) ↦ ap (λ (b : Bool). form_told (if b then length_aim (take o.inner behind) else Place (slot_form o.code) o.a)) not_same
]

abbrev CanBe : Op → ℕ → Type 0
CanBe op size = CanHaveSize (slot_form op.code) size

more_can : (b : Bool) (aim : Aim) (aims : List Aim) (op : Op) (ops : List Op) (sizes : List ℕ) → form_told aim ≡ slot_form op.code → ((rest : List ℕ) → AllZip CanBe ops rest → CanHaveSizes aims rest) → AllZip CanBe (cond b (op ∷ ops) ops) sizes → CanHaveSizes (if b then aim ∷ aims else aims) sizes
more_can true aim aims op ops [] form rest can = absurd can
more_can true aim aims op ops (n ∷ ns) form rest (one, others) = (subst (λ (z : SlotForm). CanHaveSize z n) (sym form) one, rest ns others)
more_can false aim aims op ops sizes form rest can = rest sizes can

aims_can : (bytes : List ℕ) (ops : List Op) (sizes : List ℕ) → AllZip CanBe (slotted ops) sizes → CanHaveSizes (op_aims (all_meant bytes ops)) sizes
aims_can bytes [] [] none = tt
aims_can bytes [] (n ∷ ns) none = absurd none
aims_can bytes (op ∷ ops) sizes can =
    more_can (is_slot op.code op.a) (op_aim (meant bytes op) (all_meant bytes ops)) (op_aims (all_meant bytes ops)) op (slotted ops) sizes (told (meant bytes op) (all_meant bytes ops)) (aims_can bytes ops) can

-- VALUES

pub other_sizes : (section : List ℕ) (from to : ℕ) (v : Value) (os : List Operation) → ((n : ℕ) → v ≡ value.LocalRef n → ⊥) → ((span : Span) → v ≡ value.Expr span → ⊥) → from ≤ to → HasValueSizes section from to (meant_in section v) os []
other_sizes section from to (value.LocalRef n) os no_reference no_expression order = absurd (no_reference n refl)
other_sizes section from to (value.Expr span) os no_reference no_expression order = absurd (no_expression span refl)
other_sizes section from to v os no_reference no_expression order = record { are = refl; can = tt; room = omega (arith, order) }

module _ (f : Arena) (held : HeldOps) (k from to name form : ℕ) (constant : ℤ) (stands : SpellsBetween (SpellsValue name form constant (meaning_at f k)) f.section from to) (placed : IsPlaced (value_at f.values k) from to) where
  abbrev Sizes : List ℕ → Type 0
  Sizes = HasValueSizes f.section from to (meaning_at f k) (operations_in f held k)

  pub other_added : (old : List ℕ) → ((n : ℕ) → value_at f.values k ≡ value.LocalRef n → ⊥) → ((span : Span) → value_at f.values k ≡ value.Expr span → ⊥) → AddsSizes Sizes old old
  other_added old no_reference no_expression = record {
    added = [];
    behind = sym (append-nil old);
    are = other_sizes f.section from to (value_at f.values k) (operations_in f held k) no_reference no_expression stands.order;
  }

  pub reference_added : (n : ℕ) (old new : List ℕ) → value_at f.values k ≡ value.LocalRef n → new ≡ old ++ (to - from) ∷ [] → AddsSizes Sizes old new
  reference_added n old new is pushed =
      let meant : meaning_at f k ≡ InUnit n = ap (meant_in f.section) is in
      let spelled : SpellsValue name form constant (InUnit n) (bytes_between f.section from to) = subst (λ (m : Meaning). SpellsValue name form constant m (bytes_between f.section from to)) meant stands.spelled in
      let some : 0 < length (bytes_between f.section from to) = reference_shape (shape_of spelled.form name constant) n (bytes_between f.section from to) spelled.spelled in
      let long : length (bytes_between f.section from to) ≡ to - from = length_between f.section from to stands.inside in
      let sizes : HasValueSizes f.section from to (InUnit n) (operations_in f held k) ((to - from) ∷ []) = record { are = refl; can = (omega (arith, some, long), tt); room = omega (arith, some, long) } in
      record { added = (to - from) ∷ []; behind = pushed; are = subst (λ (m : Meaning). HasValueSizes f.section from to m (operations_in f held k) ((to - from) ∷ [])) (sym meant) sizes }

  module _ (span : Span) (is : value_at f.values k ≡ value.Expr span) where
    abbrev body : List ℕ
    body = bytes_in f.section span

    means : meaning_at f k ≡ Expression body
    means = ap (meant_in f.section) is

    ends : span.at + span.len ≡ to
    ends = subst (λ (v : Value). IsPlaced v from to) is placed

    counted : IsCountedBody body (bytes_between f.section from to)
    counted =
        let spelled : SpellsValue name form constant (Expression body) (bytes_between f.section from to) = subst (λ (m : Meaning). SpellsValue name form constant m (bytes_between f.section from to)) means stands.spelled in
        expression_shape (shape_of spelled.form name constant) body (bytes_between f.section from to) spelled.spelled

    pub length_begins : Begins Uleb (drop from f.section)
    unfolding IsCountedBody
    length_begins =
        let (head, uleb, whole) = counted in
        let rest : List ℕ = drop (to - from) (drop from f.section) in
        (length body, head, body ++ rest, uleb, sym (take-append-drop (to - from) (drop from f.section)) ∙ ap (λ (z : List ℕ). z ++ rest) whole ∙ append_assoc head body rest)

    pub operations_are : HasOperations Wide f held → k < length f.values → (ops : List Op) → ops ≡ ops_of held k → AreOperationsOf body ops
    operations_are have known ops same =
        let there : IsExprAt f k span = record { inside = known; is = is } in
        subst (AreOperationsOf body) (sym same) (record { spelled = have.spelled k span there; places = have.places k span there })

    expression_sizes : (ops : List Op) (sizes : List ℕ) → HasExpressionSizes (drop from f.section) body ops sizes → AreOperationsOf body ops → HasValueSizes f.section from to (Expression body) (all_meant body ops) sizes
    unfolding IsCountedBody
    expression_sizes ops sizes have are =
        let (head, uleb, whole) = counted in
        let rest : List ℕ = drop (to - from) (drop from f.section) in
        let first : have.first ≡ length head = size_is have.first (drop from f.section) (length body) head (body ++ rest) have.counted uleb (sym (take-append-drop (to - from) (drop from f.section)) ∙ ap (λ (z : List ℕ). z ++ rest) whole ∙ append_assoc head body rest) in
        let filled : 0 < length head = uleb.0.0.filled in
        let long : length (bytes_between f.section from to) ≡ to - from = length_between f.section from to stands.inside in
        let parts : length (bytes_between f.section from to) ≡ length head + length body = ap length whole ∙ length-append head body in
        let total : sum (have.first ∷ have.others) ≡ have.first + sum have.others = sum_cons have.first have.others in
        let room = have.operations.room in
        let order = stands.order in
        let by_parts : HasValueSizes f.section from to (Expression body) (all_meant body ops) (have.first ∷ have.others) = record {
          are = (have.counted, record { ops = ops; spelled = are.spelled; places = are.places; each = have.operations.each });
          can = (omega (arith, first, filled), aims_can body ops have.others have.operations.can);
          room = omega (arith, first, long, parts, total, room, order);
        } in
        subst (HasValueSizes f.section from to (Expression body) (all_meant body ops)) (sym have.whole) by_parts

    pub expression_added : (ops : List Op) (old new : List ℕ) → ops ≡ ops_of held k → AreOperationsOf body ops → AddsSizes (HasExpressionSizes (drop from f.section) body ops) old new → AddsSizes Sizes old new
    expression_added ops old new same are adds =
        let by_ops : HasValueSizes f.section from to (Expression body) (all_meant body (ops_of held k)) adds.added = subst (λ (o : List Op). HasValueSizes f.section from to (Expression body) (all_meant body o) adds.added) same (expression_sizes ops adds.added adds.are are) in
        record {
          added = adds.added;
          behind = adds.behind;
          are = subst (λ (m : Meaning). HasValueSizes f.section from to m (all_meant (expression_bytes m) (ops_of held k)) adds.added) (sym means) by_ops;
        }
