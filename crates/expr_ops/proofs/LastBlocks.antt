-- The block of an operation is the last of its bytes, and where it stands in the bytes of the outermost expression.
use Rattle.std.proofs.Common.{◌≡◌, ◌<◌, ◌+◌, ℕ, List, [], ◌∷◌, ◌++◌, length, take, drop, ◌∙◌, sym, ap, refl, subst, arith, inl, inr, Bool, true, false}
use Rattle.std.proofs.lemmas.List.{append_assoc, length-append, take-take, take_at, drop_at, drop-drop, take_all}
use Rattle.std.proofs.lemmas.Bool.Decides.{eqb_tells}
use Rattle.std.specs.Prelude.{nat_eq, if◌then◌else◌, ◌⊎◌}
use Rattle.dw_base.specs.declared.fault.Span.{Span}
use Rattle.expr_ops.specs.declared.table.Shape.TheVariants as shape
use Rattle.expr_ops.specs.declared.table.Operands.{Operands}
use Rattle.expr_ops.specs.declared.table.Operands.TheVariants as operands
use Rattle.expr_ops.specs.Table.{operands_of}
use Rattle.expr_ops.specs.Heads.{Head, Part, SpellsHead, SpellsOperands, holding, holding_two, KeepsBlock, IsBlockOf}
use Rattle.expr_ops.specs.Heads.Part.{Unsigned, Data}
use Rattle.expr_ops.specs.Reads.{bytes_in}
use Rattle.expr_ops.specs.Expressions.{IsEntryValue, kept_block}
use Rattle.expr_ops.specs.Ops.{Stands, IsLastBlock}
use Rattle.expr_ops.proofs.HeadLaws.{some_same}
use Rattle.expr_ops.proofs.BlockLaws.{code_of_head, block_of_head}
use Rattle.expr_ops.proofs.OpLaws.{part_of_front}

-- PARTS OF WHAT STANDS SOMEWHERE

pub stands_front : (outer a b : List ℕ) (base : ℕ) → Stands outer base (a ++ b) → Stands outer base a
stands_front outer a b base (fits, same) =
    let size : length (a ++ b) ≡ length a + length b = length-append a b in (
      omega (arith, fits),
      sym (take-take (length a) (length (a ++ b)) (drop base outer) (omega arith)) ∙ ap (take (length a)) same ∙ take_at a b (length a) refl,
    )

pub stands_rest : (outer a b : List ℕ) (base : ℕ) → Stands outer base (a ++ b) → Stands outer (base + length a) b
stands_rest outer a b base (fits, same) =
    let size : length (a ++ b) ≡ length a + length b = length-append a b in
    let k = length b in
    let there = part_of_front (length a) k (length (a ++ b)) (drop base outer) (omega arith) in (
      omega (arith, fits),
      ap (take k) (sym (drop-drop (length a) base outer)) ∙ sym there ∙ ap (λ z. take k (drop (length a) z)) same ∙ ap (take k) (drop_at a b (length a) refl) ∙ take_all k b (omega arith),
    )

-- A BLOCK IS THE LAST OF THE BYTES

pub record EndsWithBlock (head : Head) (front : List ℕ) : Type 0 where
  pub lead : List ℕ
  pub whole : front ≡ lead ++ head.block
  pub some : 0 < length lead

counted_last : (head : Head) (front : List ℕ) (s : SpellsHead head front) → s.operands ≡ operands.One shape.Counted → EndsWithBlock head front
counted_last head front s o =
    let (p, (body, c, f), g) : SpellsOperands s.code (operands.One shape.Counted) head s.tail = subst (λ (z : Operands). SpellsOperands s.code z head s.tail) o s.spelled in
    let block : head.block ≡ body = ap (λ (z : Head). z.block) (g ∙ ap (holding s.code) f) in
    record {
      lead = s.code ∷ c.head;
      whole = s.whole ∙ ap (λ z. s.code ∷ z) (c.whole ∙ ap (λ z. c.head ++ z) (sym block));
      some = omega arith;
    }

byte_counted_last : (head : Head) (front : List ℕ) (s : SpellsHead head front) → s.operands ≡ operands.Two shape.Uleb shape.ByteCounted → EndsWithBlock head front
byte_counted_last head front s o =
    let (p, (a, b, (n, u, e), (body, w, f), v), g) : SpellsOperands s.code (operands.Two shape.Uleb shape.ByteCounted) head s.tail = subst (λ (z : Operands). SpellsOperands s.code z head s.tail) o s.spelled in
    let held : holding_two s.code p.0 p.1 ≡ holding_two s.code (Unsigned n) (Data body) = ap (λ (z : Part). holding_two s.code z p.1) e ∙ ap (λ (z : Part). holding_two s.code (Unsigned n) z) f in
    let block : head.block ≡ body = ap (λ (z : Head). z.block) (g ∙ held) in
    let tail : s.tail ≡ (a ++ length body ∷ []) ++ body = v ∙ ap (λ z. a ++ z) w ∙ sym (append_assoc a (length body ∷ []) body) in
    record {
      lead = s.code ∷ (a ++ length body ∷ []);
      whole = s.whole ∙ ap (λ z. s.code ∷ z) (tail ∙ ap (λ z. (a ++ length body ∷ []) ++ z) (sym block));
      some = omega arith;
    }

pub block_last : (head : Head) (front : List ℕ) → SpellsHead head front → KeepsBlock head.code ⊎ IsEntryValue head.code → EndsWithBlock head front
block_last head front s has =
    let code : s.code ≡ head.code = sym (code_of_head s.code s.operands head s.tail s.spelled) in
    elim has [
      | inl (inl e) ↦ counted_last head front s (some_same s.operands (operands.One shape.Counted) (sym s.known ∙ ap operands_of (code ∙ e)))
      | inl (inr e) ↦ byte_counted_last head front s (some_same s.operands (operands.Two shape.Uleb shape.ByteCounted) (sym s.known ∙ ap operands_of (code ∙ e)))
      | inr e ↦ counted_last head front s (some_same s.operands (operands.One shape.Counted) (sym s.known ∙ ap operands_of (code ∙ e)))
    ]

-- WHERE A BLOCK STANDS

-- a span for the block of an operation whose own bytes go up to a place
pub record HasSpan (outer : List ℕ) (head : Head) (end : ℕ) : Type 0 where
  pub span : Span
  pub kept : bytes_in outer span ≡ kept_block head.code head.block
  pub last : IsLastBlock head.code end span

keeps_or_not : (code : ℕ) → KeepsBlock code ⊎ (¬ KeepsBlock code)
keeps_or_not code = elim (eqb_tells code 158) [
  | inl (t, e) ↦ inl (inl e)
  | inr (f, other) ↦ elim (eqb_tells code 164) [
    | inl (t, e) ↦ inl (inr e)
    | inr (g, not) ↦ inr (λ k. elim k [ inl e ↦ other e | inr e ↦ not e ])
  ]
]

all_kept : (code : ℕ) (block : List ℕ) → KeepsBlock code → kept_block code block ≡ block
all_kept code block (inl e) = ap (λ n. kept_block n block) e
all_kept code block (inr e) = ap (λ n. kept_block n block) e

abbrev none_if : Bool → List ℕ → List ℕ
none_if entry block = if entry then [] else block

none_none : (entry : Bool) → none_if entry [] ≡ []
none_none true = refl
none_none false = refl

none_kept : (code : ℕ) (block : List ℕ) → IsBlockOf code block → (¬ KeepsBlock code) → kept_block code block ≡ []
none_kept code block (inl keeps) not = absurd (not keeps)
none_kept code block (inr (inl e)) not = ap (λ n. kept_block n block) e
none_kept code block (inr (inr e)) not = ap (kept_block code) e ∙ none_none (nat_eq code 163)

pub block_span : (outer front : List ℕ) (base end : ℕ) (head : Head) → Stands outer base front → SpellsHead head front → (KeepsBlock head.code → end ≡ base + length front) → HasSpan outer head end
block_span outer front base end head st s there = elim (keeps_or_not head.code) [
  | inl keeps ↦
      let b = block_last head front s (inl keeps) in
      let long : length front ≡ length b.lead + length head.block = ap (λ z. length z) b.whole ∙ length-append b.lead head.block in
      let rest : Stands outer (base + length b.lead) head.block = stands_rest outer b.lead head.block base (subst (λ (z : List ℕ). Stands outer base z) b.whole st) in
      let to = there keeps in
      record {
        span = record { at = base + length b.lead; len = length head.block };
        kept = rest.1 ∙ sym (all_kept head.code head.block keeps);
        last = inl (keeps, omega arith);
      }
  | inr not ↦ record {
    span = record { at = 0; len = 0 };
    kept = sym (none_kept head.code head.block (block_of_head head front s) not);
    last = inr (not, refl, refl);
  }
]
