-- The bytes that a value lends lie among those that spell it.
use Rattle.std.proofs.Common.{◌≡◌, ◌≤◌, ◌+◌, ◌-◌, ◌*◌, ◌^◌, ℕ, List, [], ◌∷◌, length, true, false, refl, ap, ◌∙◌, arith, length-append}
use Rattle.std.specs.Prelude.{ℤ, pos, Option, Some, None, IfSome, nat_le, if◌then◌else◌}
use Rattle.dw_base.specs.declared.fault.Span.{Span}
use Rattle.form_codec.specs.declared.form.Content.TheVariants as content
use Rattle.form_codec.specs.declared.form.Role.{Role}
use Rattle.form_codec.specs.declared.form.Role.TheVariants as role
use Rattle.form_codec.specs.declared.form.Shape.{Shape}
use Rattle.form_codec.specs.declared.form.Shape.TheVariants.{Constant, Present, Number, Uleb as ByUleb, Sleb as BySleb, Counted, UlebCounted, Sixteen, ZeroEnded}
use Rattle.form_codec.specs.declared.form.Width.{Width}
use Rattle.form_codec.specs.declared.form.Width.TheVariants.{Eight}
use Rattle.form_codec.specs.declared.value.Value.{Value}
use Rattle.form_codec.specs.declared.value.Value.TheVariants as value
use Rattle.fixed_width.specs.Numbers.{number}
use Rattle.form_codec.specs.Forms.{Meaning, SpellsShape, SpellsValue, in_role, shape_of, size_of}
use Rattle.form_codec.specs.Forms.Meaning.{Whole, Bits, SixteenBytes, Data, Expression, Text}
use Rattle.form_codec.specs.Values.{meant_in, bytes_in, IsPlaced, LiesIn}
use Rattle.entry_arena.specs.Arena.{span_of}
use Rattle.entry_arena.specs.Order.{ComesBefore}
use Rattle.entry_arena.specs.Trees.{bytes_between, SpellsBetween}
use Rattle.spelled.proofs.Parts.{length_part}

-- how many bytes a value has in itself
abbrev size_in : Meaning → ℕ
size_in (SixteenBytes bytes) = length bytes
size_in (Data bytes) = length bytes
size_in (Expression bytes) = length bytes
size_in (Text text) = length text
size_in meaning = 0

role_size : (r : Role) (w : Width) (n : ℕ) → size_in (in_role r w n) ≡ 0
role_size role.Data w n = elim (nat_le (2 ^ (8 * size_of w - 1)) n) as (λ b. size_in (if b then Bits (size_of w) n else Whole (pos n)) ≡ 0) [ true ↦ refl | false ↦ refl ]
role_size role.Address w n = refl
role_size role.AddrIndex w n = refl
role_size role.Unsigned w n = refl
role_size role.Truth w n = refl
role_size role.LocalRef w n = refl
role_size role.SectionRef w n = refl
role_size role.Signature w n = refl
role_size role.SupRef w n = refl
role_size role.StrOffset w n = refl
role_size role.LineStrOffset w n = refl
role_size role.SupStr w n = refl
role_size role.StrIndex w n = refl
role_size role.Offset w n = refl
role_size role.LocIndex w n = refl
role_size role.RangeIndex w n = refl

-- and its spelling has no fewer
shape_size : (shape : Shape) (m : Meaning) (bytes : List ℕ) → SpellsShape shape m bytes → size_in m ≤ length bytes
shape_size (Constant v) m bytes p = let e : size_in m ≡ 0 = ap (λ z. size_in z) p.2 in omega arith
shape_size Present m bytes p = let e : size_in m ≡ 0 = ap (λ z. size_in z) p.1 in omega arith
shape_size (Number w r) m bytes p = let e : size_in m ≡ 0 = ap (λ z. size_in z) p.1 ∙ role_size r w (number (size_of w) bytes) in omega arith
shape_size (ByUleb r) m bytes p = let e : size_in m ≡ 0 = ap (λ z. size_in z) p.2 ∙ role_size r Eight p.0 in omega arith
shape_size BySleb m bytes p = let e : size_in m ≡ 0 = ap (λ z. size_in z) p.2 in omega arith
shape_size (Counted w) m bytes p =
    let e : size_in m ≡ length p.body = ap (λ z. size_in z) p.holds in
    let all : length bytes ≡ length p.head + length p.body = ap length p.whole ∙ length-append p.head p.body in
    omega arith
shape_size (UlebCounted content.Data) m bytes p =
    let e : size_in m ≡ length p.body = ap (λ z. size_in z) p.holds in
    let all : length bytes ≡ length p.head + length p.body = ap length p.whole ∙ length-append p.head p.body in
    omega arith
shape_size (UlebCounted content.Expression) m bytes p =
    let e : size_in m ≡ length p.body = ap (λ z. size_in z) p.holds in
    let all : length bytes ≡ length p.head + length p.body = ap length p.whole ∙ length-append p.head p.body in
    omega arith
shape_size Sixteen m bytes p = let e : size_in m ≡ length bytes = ap (λ z. size_in z) p.1 in omega arith
shape_size ZeroEnded m bytes p =
    let e : size_in m ≡ length p.text = ap (λ z. size_in z) p.holds in
    let all : length bytes ≡ length p.text + 1 = ap length p.whole ∙ length-append p.text (0 ∷ []) in
    omega arith

-- the bytes that a value lends lie between two places
abbrev pub LiesBetween : ℕ → ℕ → Value → Type 0
LiesBetween from to v = IfSome (span_of v) (λ s. (from ≤ s.at) × (s.at + s.len ≤ to))

-- or they end by a place
abbrev pub EndsBy : ℕ → Value → Type 0
EndsBy place v = IfSome (span_of v) (λ s. s.at + s.len ≤ place)

module _ (section : List ℕ) (from next : ℕ) (order : from ≤ next) (inside : next ≤ length section) where
  all_bytes : length (bytes_between section from next) ≡ next - from
  all_bytes = length_part from (next - from) section (omega arith)

  behind : (s : Span) → s.at + s.len ≤ next → length (bytes_in section s) ≤ length (bytes_between section from next) → s.len ≤ next - from
  behind s ends fewer =
      let size : length (bytes_in section s) ≡ s.len = length_part s.at s.len section (omega arith) in
      omega (arith, all_bytes, size, fewer)

  lies : (v : Value) (shape : Shape) → SpellsShape shape (meant_in section v) (bytes_between section from next) → IsPlaced v from next → LiesBetween from next v
  lies (value.Wide16 s) shape spelled placed =
      let size : s.len ≤ next - from = behind s (omega arith) (shape_size shape (SixteenBytes (bytes_in section s)) (bytes_between section from next) spelled) in
      (omega arith, omega arith)
  lies (value.Block s) shape spelled placed =
      let size : s.len ≤ next - from = behind s (omega arith) (shape_size shape (Data (bytes_in section s)) (bytes_between section from next) spelled) in
      (omega arith, omega arith)
  lies (value.Expr s) shape spelled placed =
      let size : s.len ≤ next - from = behind s (omega arith) (shape_size shape (Expression (bytes_in section s)) (bytes_between section from next) spelled) in
      (omega arith, omega arith)
  lies (value.Text s) shape spelled placed = (omega (arith, placed.0), omega (arith, placed.1))
  lies v shape spelled placed = tt

-- what is spelled from a place up to another lends bytes between them
pub lies_between : (section : List ℕ) (name code : ℕ) (constant : ℤ) (v : Value) (from next : ℕ) → SpellsBetween (SpellsValue name code constant (meant_in section v)) section from next → IsPlaced v from next → LiesBetween from next v
lies_between section name code constant v from next p placed = lies section from next p.order p.inside v (shape_of p.spelled.form name constant) p.spelled.spelled placed

pub lies_in : (size from to : ℕ) (v : Value) → to ≤ size → LiesBetween from to v → LiesIn size v
lies_in size from to (value.Wide16 s) most p = omega (arith, p.1)
lies_in size from to (value.Block s) most p = omega (arith, p.1)
lies_in size from to (value.Expr s) most p = omega (arith, p.1)
lies_in size from to (value.Text s) most p = omega (arith, p.1)
lies_in size from to v most p = tt

before : (o p : Option Span) (place to : ℕ) → IfSome o (λ s. s.at + s.len ≤ place) → IfSome p (λ t. (place ≤ t.at) × (t.at + t.len ≤ to)) → IfSome o (λ s. IfSome p (λ t. s.at + s.len ≤ t.at))
before None p place to a b = tt
before (Some s) None place to a b = tt
before (Some s) (Some t) place to a b = omega (arith, b.0)

pub comes_before : (v w : Value) (place to : ℕ) → EndsBy place v → LiesBetween place to w → ComesBefore v w
comes_before v w place to a b = before (span_of v) (span_of w) place to a b

later : (o : Option Span) (a b : ℕ) → a ≤ b → IfSome o (λ s. s.at + s.len ≤ a) → IfSome o (λ s. s.at + s.len ≤ b)
later None a b le p = tt
later (Some s) a b le p = omega arith

pub ends_later : (v : Value) (a b : ℕ) → a ≤ b → EndsBy a v → EndsBy b v
ends_later v a b le p = later (span_of v) a b le p

ends : (o : Option Span) (from to : ℕ) → IfSome o (λ s. (from ≤ s.at) × (s.at + s.len ≤ to)) → IfSome o (λ s. s.at + s.len ≤ to)
ends None from to p = tt
ends (Some s) from to p = p.1

pub ends_by : (v : Value) (from to : ℕ) → LiesBetween from to v → EndsBy to v
ends_by v from to p = ends (span_of v) from to p
