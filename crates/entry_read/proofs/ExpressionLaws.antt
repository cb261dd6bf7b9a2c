-- The expressions of a unit's first values, and those of one value more.
use Rattle.std.proofs.Common.{◌≡◌, ◌≢◌, ◌≤◌, ◌<◌, ◌+◌, ◌^◌, ℕ, List, [], ◌∷◌, ◌++◌, length, ◌∙◌, sym, ap, refl, subst, arith, inl, inr}
use Rattle.std.proofs.lemmas.List.{append-nil, append_assoc, length_push}
use Rattle.std.proofs.lemmas.Bool.{cases_eq}
use Rattle.dw_base.specs.declared.fault.Reach.{Reach}
use Rattle.dw_base.specs.declared.fault.Span.{Span}
use Rattle.dw_base.specs.declared.fault.Refusal.{Refusal}
use Rattle.dw_base.specs.declared.fault.Refusal.TheVariants.{Refused, NoMemory}
use Rattle.dw_base.specs.Refusals.{IsFaultOf, IsRefusedFor}
use Rattle.expr_ops.specs.declared.op.Op.{Op}
use Rattle.expr_ops.specs.Expressions.{IsExpression}
use Rattle.expr_ops.specs.ExpressionFaults.{FaultExpression}
use Rattle.expr_ops.specs.Ops.{all_meant, Chain}
use Rattle.expr_ops.specs.Reading.{IsExpressionRead}
use Rattle.form_codec.specs.declared.value.Value.{Value}
use Rattle.form_codec.specs.declared.value.Value.TheVariants as value
use Rattle.form_codec.specs.Values.{bytes_in, LiesIn}
use Rattle.spelled.proofs.Parts.{length_part}
use Rattle.entry_arena.specs.Arena.{Arena, value_at}
use Rattle.entry_arena.specs.Order.{IsInOrder}
use Rattle.entry_arena.specs.Operations.{HeldOps, run_at, ops_of, no_operations, with_op, ComesLast}
use Rattle.entry_arena.proofs.OperationLaws.{op_held, op_last, op_own, op_others, none_yet, no_runs}
use Rattle.entry_read.specs.Expressions.{IsExprAt, HasOperations, FaultExpressions}
use Rattle.entry_read.specs.inside.Pushing.{AreRunsOfFew, AddsOps}

-- OPERATIONS OF ONE VALUE

pub adds_none : (number : ℕ) (held : HeldOps) → ComesLast held.runs number → AreRunsOfFew held → AddsOps number [] held held
adds_none number held last runs = record { own = sym (append-nil (ops_of held number)); others = λ other differs. refl; last = last; runs = runs }

pub adds_one : (number : ℕ) (ops : List Op) (op : Op) (old mid : HeldOps) → AddsOps number ops old mid → length mid.ops < 2 ^ 32 → AddsOps number (ops ++ op ∷ []) old (with_op mid number op)
adds_one number ops op old mid adds few =
    let runs = adds.runs few in
    record {
      own = op_own mid number op runs adds.last ∙ ap (λ (z : List Op). z ++ op ∷ []) adds.own ∙ append_assoc (ops_of old number) ops (op ∷ []);
      others = λ other differs. op_others mid number op runs adds.last other differs ∙ adds.others other differs;
      last = op_last mid number op adds.last;
      runs = λ less. op_held mid number op runs adds.last (omega (arith, less, length_push mid.ops op));
    }

-- OPERATIONS OF THE FIRST VALUES

-- of each expression among the first values its operations are held, each at its place, and no others
pub record HasFrontOps (reach : Reach) (f : Arena) (held : HeldOps) (n : ℕ) : Type 0 where
  pub spelled : (number : ℕ) (span : Span) → number < n → IsExprAt f number span → IsExpression reach (all_meant (bytes_in f.section span) (ops_of held number)) (bytes_in f.section span)
  pub places : (number : ℕ) (span : Span) → number < n → IsExprAt f number span → Chain (bytes_in f.section span) 0 (ops_of held number) (length (bytes_in f.section span))
  pub only : (number : ℕ) → ((span : Span) → IsExprAt f number span → ⊥) → ops_of held number ≡ []
  pub before : (i : ℕ) → i < length held.runs → (run_at held.runs i).value < n
  pub runs : AreRunsOfFew held

pub front_none : (reach : Reach) (f : Arena) → HasFrontOps reach f no_operations 0
front_none reach f = record {
  spelled = λ number span inside stands. absurd (omega arith);
  places = λ number span inside stands. absurd (omega arith);
  only = λ number none. refl;
  before = λ i inside. absurd (omega arith);
  runs = λ few. no_runs;
}

-- the bytes of a value, if it is an expression
bytes_or : Span → Value → Span
bytes_or other (value.Expr span) = span
bytes_or other v = other

one_span : (a b : Span) → value.Expr a ≡ value.Expr b → a ≡ b
unfolding bytes_or
one_span a b e = ap (bytes_or a) e

module _ (reach : Reach) (f : Arena) (held : HeldOps) (n : ℕ) (front : HasFrontOps reach f held n) where
  pub front_last : ComesLast held.runs n
  front_last i inside = let less : (run_at held.runs i).value < n = front.before i inside in omega arith

  -- one of the first values, or the next one
  next_or_front : (number : ℕ) → number < n + 1 → number ≢ n → number < n
  next_or_front number inside other = omega (arith, other)

  -- the next value is no expression
  pub front_skips : ((span : Span) → IsExprAt f n span → ⊥) → HasFrontOps reach f held (n + 1)
  front_skips none = record {
    spelled = λ number span inside stands. front.spelled number span (next_or_front number inside (λ e. none span (subst (λ (z : ℕ). IsExprAt f z span) e stands))) stands;
    places = λ number span inside stands. front.places number span (next_or_front number inside (λ e. none span (subst (λ (z : ℕ). IsExprAt f z span) e stands))) stands;
    only = front.only;
    before = λ i inside. let less : (run_at held.runs i).value < n = front.before i inside in omega arith;
    runs = front.runs;
  }

  -- the operations of the next value are pushed
  module _ (span : Span) (here : IsExprAt f n span) (ops : List Op) (new : HeldOps) (adds : AddsOps n ops held new) (read : IsExpressionRead reach (bytes_in f.section span) [] ops) where
    own : ops_of new n ≡ read.more
    own = adds.own ∙ ap (λ (z : List Op). z ++ ops) (none_yet held n front.before) ∙ read.items

    own_spelled : (number : ℕ) (other : Span) → number ≡ n → IsExprAt f number other → IsExpression reach (all_meant (bytes_in f.section other) (ops_of new number)) (bytes_in f.section other)
    own_spelled number other e stands =
        let spans : span ≡ other = one_span span other (sym here.is ∙ ap (λ (z : ℕ). value_at f.values z) (sym e) ∙ stands.is) in
        let ops_are : ops_of new number ≡ read.more = ap (λ (z : ℕ). ops_of new z) e ∙ own in
        rw (ops_are, sym spans) read.read

    own_placed : (number : ℕ) (other : Span) → number ≡ n → IsExprAt f number other → Chain (bytes_in f.section other) 0 (ops_of new number) (length (bytes_in f.section other))
    own_placed number other e stands =
        let spans : span ≡ other = one_span span other (sym here.is ∙ ap (λ (z : ℕ). value_at f.values z) (sym e) ∙ stands.is) in
        let ops_are : ops_of new number ≡ read.more = ap (λ (z : ℕ). ops_of new z) e ∙ own in
        rw (ops_are, sym spans) read.places

    pub front_takes : HasFrontOps reach f new (n + 1)
    front_takes = record {
      spelled = λ number other inside stands. elim (cases_eq number n) [
        | inl same ↦ own_spelled number other same stands
        | inr differs ↦
            subst (λ (z : List Op). IsExpression reach (all_meant (bytes_in f.section other) z) (bytes_in f.section other)) (sym (adds.others number differs))
            (front.spelled number other (next_or_front number inside differs) stands)
      ];
      places = λ number other inside stands. elim (cases_eq number n) [
        | inl same ↦ own_placed number other same stands
        | inr differs ↦
            subst (λ (z : List Op). Chain (bytes_in f.section other) 0 z (length (bytes_in f.section other))) (sym (adds.others number differs))
            (front.places number other (next_or_front number inside differs) stands)
      ];
      only = λ number none. adds.others number (λ e. none span (subst (λ (z : ℕ). IsExprAt f z span) (sym e) here)) ∙ front.only number none;
      before = λ i inside. let most : (run_at new.runs i).value ≤ n = adds.last i inside in omega arith;
      runs = adds.runs;
    }

-- all values were read
pub front_whole : (reach : Reach) (f : Arena) (held : HeldOps) (n : ℕ) → HasFrontOps reach f held n → n ≡ length f.values → HasOperations reach f held
front_whole reach f held n front all = record {
  spelled = λ number span stands. front.spelled number span (let inside : number < length f.values = stands.inside in omega (arith, all)) stands;
  places = λ number span stands. front.places number span (let inside : number < length f.values = stands.inside in omega (arith, all)) stands;
  only = front.only;
}

-- THE BYTES OF AN EXPRESSION

-- a value that was read of a forest
pub expr_there : (f : Arena) (n count : ℕ) (v : Value) (span : Span) → n < count → count ≡ length f.values → v ≡ value_at f.values n → v ≡ value.Expr span → IsExprAt f n span
expr_there f n count v span less all same is = record { inside = omega (arith, less, all); is = sym same ∙ is }

-- the operations that were read of some bytes, with nothing before them
pub read_alone : (reach : Reach) (bytes same_bytes : List ℕ) (old ops same_ops : List Op) → bytes ≡ same_bytes → old ≡ [] → same_ops ≡ ops → IsExpressionRead reach bytes old ops → IsExpressionRead reach same_bytes [] same_ops
read_alone reach bytes same_bytes old ops same_ops b none o read = record {
  more = read.more;
  items = o ∙ read.items ∙ ap (λ (z : List Op). z ++ read.more) none;
  read = subst (λ (z : List ℕ). IsExpression reach (all_meant z read.more) z) b read.read;
  places = subst (λ (z : List ℕ). Chain z 0 read.more (length z)) b read.places;
  few = subst (λ (z : List Op). length z < 2 ^ 32) (sym o) read.few;
}

module _ (f : Arena) (order : IsInOrder f) (n : ℕ) (span : Span) (here : IsExprAt f n span) where
  pub expr_inside : span.at + span.len ≤ length f.section
  expr_inside = subst (LiesIn (length f.section)) here.is (order.spans.inside n here.inside)

  pub expr_room : (origin : ℕ) → origin + length f.section < 2 ^ 64 → origin + span.at + length (bytes_in f.section span) < 2 ^ 64
  expr_room origin room = omega (arith, room, expr_inside, length_part span.at span.len f.section expr_inside)

-- A FAULT OF ONE EXPRESSION

pub fault_there : (reach : Reach) (f : Arena) (n origin : ℕ) (span : Span) → IsExprAt f n span → (r : Refusal) → IsRefusedFor (IsFaultOf (λ k at. FaultExpression reach k at (bytes_in f.section span)) (origin + span.at)) r → IsRefusedFor (IsFaultOf (FaultExpressions f reach) origin) r
fault_there reach f n origin span here (Refused fault) (inner, place, h) = (
  span.at + inner,
  place ∙ omega arith,
  record { number = n; span = span; stands = here; inner = inner; fault = h; here = refl },
)
fault_there reach f n origin span here NoMemory h = tt
