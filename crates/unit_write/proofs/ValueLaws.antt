-- What is written of one value.
use Rattle.std.proofs.Common.{◌≡◌, ◌≢◌, ◌≤◌, ◌<◌, ◌+◌, ◌-◌, ◌*◌, ◌^◌, ℕ, List, [], ◌++◌, length, Bool, true, false, ◌∙◌, sym, ap, refl, subst, arith, inl, inr}
use Rattle.std.specs.Prelude.{ℤ, pos, nat_le, if◌then◌else◌}
use Rattle.std.proofs.lemmas.Bool.{cases_Bool}
use Rattle.std.proofs.lemmas.List.{length-append}
use Rattle.spelled.specs.Spelled.{AreBytes}
use Rattle.spelled.proofs.Parts.{bytes_append, bytes_after}
use Rattle.leb_codec.specs.Leb.{ShortestUnsigned, least_unsigned_len}
use Rattle.leb_codec.proofs.Lens.{unsigned_lens}
use Rattle.leb_codec.proofs.SpellingLaws.{unsigned_spellings}
use Rattle.form_codec.specs.declared.form.Form.{Form}
use Rattle.form_codec.specs.declared.form.Form.TheVariants as form
use Rattle.form_codec.specs.declared.form.Role.{Role}
use Rattle.form_codec.specs.declared.form.Role.TheVariants as role
use Rattle.form_codec.specs.declared.form.Shape.{Shape}
use Rattle.form_codec.specs.declared.form.Shape.TheVariants.{Constant, Present, Number, Uleb as ByUleb, Sleb as BySleb, Counted, UlebCounted, Sixteen, ZeroEnded}
use Rattle.form_codec.specs.declared.form.Content.TheVariants as content
use Rattle.form_codec.specs.declared.form.Width.{Width}
use Rattle.form_codec.specs.declared.form.Width.TheVariants.{One, Four, Eight}
use Rattle.fixed_width.specs.Numbers.{number}
use Rattle.form_codec.specs.Forms.{Meaning, SpellsShape, SpellsValue, SpellsShortest, Admits, is_written, code_of, shape_of, size_of, in_role}
use Rattle.form_codec.specs.Forms.Meaning.{Expression, InUnit, InSection, SectionPlace, Bits, Whole}
use Rattle.form_codec.specs.declared.value.Value.{Value}
use Rattle.form_codec.specs.declared.value.Value.TheVariants as value
use Rattle.form_codec.specs.Signs.{is_unsigned, constant_role}
use Rattle.form_codec.specs.Values.{meant_in}
use Rattle.form_codec.specs.Written.{low_bytes}
use Rattle.dw_base.specs.declared.fault.Span.{Span}
use Rattle.form_codec.proofs.Codes.{code_once}
use Rattle.form_codec.proofs.WriteLaws.{low_len, number_low, low_small}
use Rattle.form_codec.proofs.FormLaws.{in_form}
use Rattle.abbrev_tables.specs.declared.decl.Spec.{Spec}
use Rattle.entry_read.specs.Short.{IsWritten}
use Rattle.entry_read.specs.Slots.{is_local}
use Rattle.unit_write.specs.Values.{is_moving, renewed, HasOwnSize, HasSize, OneSize}
use Rattle.unit_write.specs.NewExpressions.{new_len}
use Rattle.unit_write.specs.Sizes.{IsExpr, NumbersHaveSizes, ExpressionsHaveSizes, ShortestHaveSizes}
use Rattle.unit_write.specs.inside.Puts.{role_moves, shape_moves, is_expr, shape_expr}

data_stays : (size n : ℕ) (test : Bool) → is_moving (if test then Bits size n else Whole (pos n)) ≡ false
data_stays size n true = refl
data_stays size n false = refl

pub role_is : (r : Role) (w : Width) (n : ℕ) → is_moving (in_role r w n) ≡ role_moves r
role_is role.Data w n = data_stays (size_of w) n (nat_le (2 ^ (8 * size_of w - 1)) n)
role_is r w n = refl

-- whether a value moves is told by the shape of its bytes
pub shape_is : (s : Shape) (m : Meaning) (bytes : List ℕ) → SpellsShape s m bytes → is_moving m ≡ shape_moves s
shape_is (Constant v) m bytes p = ap is_moving p.2
shape_is Present m bytes p = ap is_moving p.1
shape_is (Number w r) m bytes p = ap is_moving p.1 ∙ role_is r w (number (size_of w) bytes)
shape_is (ByUleb r) m bytes p = ap is_moving p.2 ∙ role_is r Eight p.0
shape_is BySleb m bytes p = ap is_moving p.2
shape_is (Counted w) m bytes p = ap is_moving p.holds
shape_is (UlebCounted content.Data) m bytes p = ap is_moving p.holds
shape_is (UlebCounted content.Expression) m bytes p = ap is_moving p.holds
shape_is Sixteen m bytes p = ap is_moving p.1
shape_is ZeroEnded m bytes p = ap is_moving p.holds

data_is_none : (size n : ℕ) (test : Bool) → is_expr (if test then Bits size n else Whole (pos n)) ≡ false
data_is_none size n true = refl
data_is_none size n false = refl

no_role_expr : (r : Role) (w : Width) (n : ℕ) → is_expr (in_role r w n) ≡ false
no_role_expr role.Data w n = data_is_none (size_of w) n (nat_le (2 ^ (8 * size_of w - 1)) n)
no_role_expr r w n = refl

-- and so whether it is an expression
expr_is : (s : Shape) (m : Meaning) (bytes : List ℕ) → SpellsShape s m bytes → is_expr m ≡ shape_expr s
expr_is (Constant v) m bytes p = ap is_expr p.2
expr_is Present m bytes p = ap is_expr p.1
expr_is (Number w r) m bytes p = ap is_expr p.1 ∙ no_role_expr r w (number (size_of w) bytes)
expr_is (ByUleb r) m bytes p = ap is_expr p.2 ∙ no_role_expr r Eight p.0
expr_is BySleb m bytes p = ap is_expr p.2
expr_is (Counted w) m bytes p = ap is_expr p.holds
expr_is (UlebCounted content.Data) m bytes p = ap is_expr p.holds
expr_is (UlebCounted content.Expression) m bytes p = ap is_expr p.holds
expr_is Sixteen m bytes p = ap is_expr p.1
expr_is ZeroEnded m bytes p = ap is_expr p.holds

kept : (n : ℕ) (made : List ℕ) (m : Meaning) → is_moving m ≡ false → is_expr m ≡ false → renewed n made m ≡ m
kept n made (InUnit k) e o = absurd (cc (e))
kept n made (InSection k) e o = absurd (cc (e))
kept n made (SectionPlace k) e o = absurd (cc (e))
kept n made (Expression bytes) e o = absurd (cc (o))
kept n made m e o = refl

moving_still : (n : ℕ) (made : List ℕ) (m : Meaning) → is_moving (renewed n made m) ≡ is_moving m
moving_still n made (InUnit k) = refl
moving_still n made (InSection k) = refl
moving_still n made (SectionPlace k) = refl
moving_still n made (Expression bytes) = refl
moving_still n made m = refl

-- what moves is no expression
no_moving_expr : (m : Meaning) → is_moving m ≡ true → is_expr m ≡ false
no_moving_expr (Expression bytes) moves = absurd (cc (moves))
no_moving_expr m moves = refl

pub is_made : (n : ℕ) (made : List ℕ) (m : Meaning) → is_expr m ≡ true → renewed n made m ≡ Expression made
is_made n made (Expression bytes) e = refl
is_made n made m e = absurd (cc (e))

-- so does a reference within the unit
pub local_still : (n : ℕ) (made : List ℕ) (m : Meaning) → is_local (renewed n made m) ≡ is_local m
local_still n made (InUnit k) = refl
local_still n made (InSection k) = refl
local_still n made (SectionPlace k) = refl
local_still n made (Expression bytes) = refl
local_still n made m = refl

pub no_local : (m : Meaning) → is_moving m ≡ false → is_local m ≡ false
no_local (InUnit k) stays = absurd (cc (stays))
no_local m stays = refl

-- what is neither such a reference nor an expression has a size of its own
own_size : (column : Spec) (meaning : Meaning) (len size : ℕ) → is_local meaning ≡ false → is_expr meaning ≡ false → HasSize column meaning len size → HasOwnSize column meaning size
own_size column (InUnit k) len size other none h = absurd (cc (other))
own_size column (Expression bytes) len size other none h = absurd (cc (none))
own_size column m len size other none h = h

has_own : (column : Spec) (meaning : Meaning) (len size : ℕ) → is_local meaning ≡ false → is_expr meaning ≡ false → HasOwnSize column meaning size → HasSize column meaning len size
has_own column (InUnit k) len size other none h = absurd (cc (other))
has_own column (Expression bytes) len size other none h = absurd (cc (none))
has_own column m len size other none h = h

expr_has : (column : Spec) (meaning : Meaning) (len size : ℕ) → is_expr meaning ≡ true → HasSize column meaning len size → column.form ≡ code_of form.Exprloc
expr_has column (Expression bytes) len size expr h = h.0
expr_has column m len size expr h = absurd (cc (expr))

-- constants of fixed size don't move, whatever their sign
pub constant_stays : (name : ℕ) → role_moves (constant_role name) ≡ false
constant_stays name = elim (is_unsigned name) as (λ b. role_moves (if b then role.Unsigned else role.Data) ≡ false) [ true ↦ refl | false ↦ refl ]

-- a reference into the section and a section offset are numbers of four bytes
four_number : (name : ℕ) (f : Form) (c : ℤ) (m : Meaning) (bytes : List ℕ) → is_moving m ≡ true → is_local m ≡ false → SpellsShape (shape_of f name c) m bytes → (r : Role) × (shape_of f name c ≡ Number Four r) × (role_moves r ≡ true)
four_number name form.Ref1 c m bytes moves other p = absurd (let e : is_local m ≡ true = ap is_local p.1 in cc (e, other))
four_number name form.Ref2 c m bytes moves other p = absurd (let e : is_local m ≡ true = ap is_local p.1 in cc (e, other))
four_number name form.Ref4 c m bytes moves other p = absurd (let e : is_local m ≡ true = ap is_local p.1 in cc (e, other))
four_number name form.Ref8 c m bytes moves other p = absurd (let e : is_local m ≡ true = ap is_local p.1 in cc (e, other))
four_number name form.RefUdata c m bytes moves other p = absurd (let e : is_local m ≡ true = ap is_local p.2 in cc (e, other))
four_number name form.RefAddr c m bytes moves other p = (role.SectionRef, refl, refl)
four_number name form.SecOffset c m bytes moves other p = (role.Offset, refl, refl)
four_number name form.Data1 c m bytes moves other p = absurd (let e : is_moving m ≡ false = shape_is (shape_of form.Data1 name c) m bytes p ∙ constant_stays name in cc (e, moves))
four_number name form.Data2 c m bytes moves other p = absurd (let e : is_moving m ≡ false = shape_is (shape_of form.Data2 name c) m bytes p ∙ constant_stays name in cc (e, moves))
four_number name form.Data4 c m bytes moves other p = absurd (let e : is_moving m ≡ false = shape_is (shape_of form.Data4 name c) m bytes p ∙ constant_stays name in cc (e, moves))
four_number name form.Data8 c m bytes moves other p = absurd (let e : is_moving m ≡ false = shape_is (shape_of form.Data8 name c) m bytes p ∙ constant_stays name in cc (e, moves))
four_number name f c m bytes moves other p = absurd (let e : is_moving m ≡ false = shape_is (shape_of f name c) m bytes p in cc (e, moves))

-- a form of a value that doesn't move can be written
form_written : (name : ℕ) (f : Form) (c : ℤ) → shape_moves (shape_of f name c) ≡ false → is_written f ≡ true
form_written name form.Ref1 c e = absurd (cc (e))
form_written name form.Ref2 c e = absurd (cc (e))
form_written name form.Ref4 c e = absurd (cc (e))
form_written name form.Ref8 c e = absurd (cc (e))
form_written name f c e = refl

-- the number of a value in its role is replaced
renumbered : (r : Role) (w v : Width) (n k new : ℕ) (old made : List ℕ) (m : Meaning) → role_moves r ≡ true → renewed k old m ≡ in_role r w n → renewed new made m ≡ in_role r v new
renumbered role.LocalRef w v n k new old made (InUnit j) moves e = refl
renumbered role.LocalRef w v n k new old made m moves e = absurd (cc (e))
renumbered role.SectionRef w v n k new old made (InSection j) moves e = refl
renumbered role.SectionRef w v n k new old made m moves e = absurd (cc (e))
renumbered role.Offset w v n k new old made (SectionPlace j) moves e = refl
renumbered role.Offset w v n k new old made m moves e = absurd (cc (e))
renumbered r w v n k new old made m moves e = absurd (cc (moves))

pub admits_kept : (column : Spec) (meaning : Meaning) (len size : ℕ) → is_moving meaning ≡ false → is_expr meaning ≡ false → HasSize column meaning len size → Admits column.name column.form meaning
admits_kept column meaning len size stays other has =
    let h = own_size column meaning len size (no_local meaning stays) other has in
    let same : renewed h.number [] meaning ≡ meaning = kept h.number [] meaning stays other in
    let bytes : List ℕ = h.bytes in
    let s : SpellsValue column.name column.form column.constant meaning bytes = subst (λ (z : Meaning). SpellsValue column.name column.form column.constant z bytes) same h.written.0 in
    record {
      form = s.form;
      known = s.known;
      written = form_written column.name s.form column.constant (sym (shape_is (shape_of s.form column.name column.constant) meaning bytes s.spelled) ∙ stays);
      constant = column.constant;
      bytes = bytes;
      spelled = s;
    }

-- the constant is that of the column where nothing else spells the value
with_constant : (name : ℕ) (f : Form) (c d : ℤ) (m : Meaning) (bytes others : List ℕ) → SpellsShape (shape_of f name c) m bytes → SpellsShape (shape_of f name d) m others → SpellsShape (shape_of f name d) m bytes
with_constant name form.ImplicitConst c d m bytes others p q = (p.0, q.1, q.2)
with_constant name f c d m bytes others p q = p

-- a value is written by its shortest bytes
written_least : (column : Spec) (meaning : Meaning) (bytes others : List ℕ) → SpellsValue column.name column.form column.constant meaning others → SpellsShortest column.name column.form meaning bytes → IsWritten column meaning bytes
written_least column meaning bytes others s shortest =
    let shape = with_constant column.name shortest.spelled.form shortest.constant column.constant meaning bytes others shortest.spelled.spelled (in_form column.name column.form shortest.spelled.form column.constant meaning others shortest.spelled.known s) in
    (record { form = shortest.spelled.form; known = shortest.spelled.known; small = shortest.spelled.small; spelled = shape }, shortest)

pub written_shortest : (column : Spec) (meaning : Meaning) (n : ℕ) (made bytes others : List ℕ) → is_moving meaning ≡ false → is_expr meaning ≡ false → SpellsValue column.name column.form column.constant meaning others → SpellsShortest column.name column.form meaning bytes → IsWritten column (renewed n made meaning) bytes
written_shortest column meaning n made bytes others stays other s shortest =
    subst (λ (z : Meaning). IsWritten column z bytes) (sym (kept n made meaning stays other)) (written_least column meaning bytes others s shortest)

pub written_kept : (column : Spec) (meaning : Meaning) (len size n : ℕ) (made bytes : List ℕ) → is_moving meaning ≡ false → is_expr meaning ≡ false → HasSize column meaning len size → SpellsShortest column.name column.form meaning bytes → IsWritten column (renewed n made meaning) bytes
written_kept column meaning len size n made bytes stays other has shortest =
    let h = own_size column meaning len size (no_local meaning stays) other has in
    written_shortest column meaning n made bytes h.bytes stays other (subst (λ (z : Meaning). SpellsValue column.name column.form column.constant z h.bytes) (kept h.number [] meaning stays other) h.written.0) shortest

not_expr : (m : Meaning) → (¬ IsExpr m) → is_expr m ≡ false
not_expr (Expression bytes) none = absurd (none tt)
not_expr m none = refl

pub shortest_have_sizes : ShortestHaveSizes
shortest_have_sizes column meaning len bytes others stays none s shortest =
    let other = not_expr meaning none in
    has_own column meaning len (length bytes) (no_local meaning stays) other
    (record {
      number = 0;
      bytes = bytes;
      written = written_shortest column meaning 0 [] bytes others stays other s shortest;
      is = refl;
    })

-- what is written is as long as the shortest bytes
least_len : (column : Spec) (meaning : Meaning) (bytes others : List ℕ) → IsWritten column meaning others → SpellsShortest column.name column.form meaning bytes → length bytes ≡ length others
least_len column meaning bytes others (spelled, least) shortest =
    let up : length bytes ≤ length others = shortest.shortest least.constant others least.spelled in
    let down : length others ≤ length bytes = least.shortest shortest.constant bytes shortest.spelled in
    omega arith

pub size_kept : (column : Spec) (meaning : Meaning) (len size : ℕ) (bytes : List ℕ) → is_moving meaning ≡ false → is_expr meaning ≡ false → HasSize column meaning len size → SpellsShortest column.name column.form meaning bytes → length bytes ≡ size
size_kept column meaning len size bytes stays other has shortest =
    let h = own_size column meaning len size (no_local meaning stays) other has in
    let same : renewed h.number [] meaning ≡ meaning = kept h.number [] meaning stays other in
    let written = subst (λ (z : Meaning). IsWritten column z h.bytes) same h.written in
    least_len column meaning bytes h.bytes written shortest ∙ sym h.is

-- EXPRESSIONS

form_expr : (name : ℕ) (f : Form) (c : ℤ) → shape_expr (shape_of f name c) ≡ true → code_of f ≡ code_of form.Exprloc
form_expr name form.Exprloc c e = refl
form_expr name f c e = absurd (cc (e))

-- only DW_FORM_exprloc spells them
pub expr_form : (name code : ℕ) (c : ℤ) (made bytes : List ℕ) → SpellsValue name code c (Expression made) bytes → code ≡ code_of form.Exprloc
expr_form name code c made bytes s = sym s.known ∙ form_expr name s.form c (sym (expr_is (shape_of s.form name c) (Expression made) bytes s.spelled))

abbrev ExprShape : List ℕ → List ℕ → Type 0
ExprShape made bytes = SpellsShape (UlebCounted content.Expression) (Expression made) bytes

expr_shape : (name code : ℕ) (c : ℤ) (made bytes : List ℕ) → code ≡ code_of form.Exprloc → SpellsValue name code c (Expression made) bytes → ExprShape made bytes
expr_shape name code c made bytes is s = in_form name code form.Exprloc c (Expression made) bytes (sym is) s

same_made : (a b : List ℕ) → Expression a ≡ Expression b → a ≡ b
same_made a b e = cc

-- behind a count of their least length
expr_least : (made bytes : List ℕ) → ExprShape made bytes → least_unsigned_len (length made) + length made ≤ length bytes
expr_least made bytes p =
    let same : length made ≡ length p.body = ap length (same_made made p.body p.holds) in
    let some : least_unsigned_len (length p.body) ≤ length p.head = unsigned_spellings.no_shorter p.head (length p.body) p.count.0 in
    let here : least_unsigned_len (length made) ≡ least_unsigned_len (length p.body) = ap least_unsigned_len same in
    let whole : length bytes ≡ length p.head + length p.body = ap length p.whole ∙ length-append p.head p.body in
    omega arith

module _ (column : Spec) (made head : List ℕ) (is : column.form ≡ code_of form.Exprloc) (small : AreBytes made) (few : length made < 2 ^ 64) (short : ShortestUnsigned (length made) head) where
  expr_spelled : SpellsValue column.name column.form column.constant (Expression made) (head ++ made)
  expr_spelled =
      let shape : ExprShape made (head ++ made) = record { head = head; body = made; count = (short.0, few); whole = refl; holds = refl } in
      record { form = form.Exprloc; known = sym is; small = bytes_append head made short.0.0.byte small; spelled = shape }

  expr_shortest : SpellsShortest column.name column.form (Expression made) (head ++ made)
  expr_shortest = record {
    constant = column.constant;
    spelled = expr_spelled;
    shortest = λ constant others s.
        let least : least_unsigned_len (length made) + length made ≤ length others = expr_least made others (expr_shape column.name column.form constant made others is s) in
        let whole : length (head ++ made) ≡ length head + length made = length-append head made in
        omega (arith, short.1);
    flag = λ flag. absurd (let no : code_of form.Exprloc ≡ code_of form.Flag = sym is ∙ flag in omega arith);
  }

  pub written_expr : IsWritten column (Expression made) (head ++ made)
  written_expr = (expr_spelled, expr_shortest)

some_head : (n : ℕ) → (head : List ℕ) × ShortestUnsigned n head
some_head n = let b = unsigned_spellings.each_len n (least_unsigned_len n) (omega arith) in (b.0, (b.1, b.2))

-- the bytes of an expression that are written have these sizes
expr_size : (column : Spec) (made bytes : List ℕ) → IsWritten column (Expression made) bytes → length bytes ≡ least_unsigned_len (length made) + length made
expr_size column made bytes w =
    let is : column.form ≡ code_of form.Exprloc = expr_form column.name column.form column.constant made bytes w.0 in
    let shape = expr_shape column.name column.form column.constant made bytes is w.0 in
    let body : made ≡ shape.body = same_made made shape.body shape.holds in
    let few : length made < 2 ^ 64 = subst (λ (z : List ℕ). length z < 2 ^ 64) (sym body) shape.count.1 in
    let after : AreBytes shape.body = bytes_after shape.head shape.body (subst (λ (z : List ℕ). AreBytes z) shape.whole w.0.small) in
    let small : AreBytes made = subst (λ (z : List ℕ). AreBytes z) (sym body) after in
    let head = some_head (length made) in
    let least = expr_shortest column made head.0 is small few head.1 in
    sym (least_len column (Expression made) (head.0 ++ made) bytes w least) ∙ length-append head.0 made ∙ ap (λ (z : ℕ). z + length made) head.1.1

-- other bytes can stand in their place
pub written_made : (column : Spec) (meaning : Meaning) (len size n : ℕ) (made head : List ℕ) → is_expr meaning ≡ true → HasSize column meaning len size → AreBytes made → length made < 2 ^ 64 → ShortestUnsigned (length made) head → IsWritten column (renewed n made meaning) (head ++ made)
written_made column meaning len size n made head expr has small few short =
    subst (λ (z : Meaning). IsWritten column z (head ++ made)) (sym (is_made n made meaning expr)) (written_expr column made head (expr_has column meaning len size expr has) small few short)

pub expressions_have_sizes : ExpressionsHaveSizes
expressions_have_sizes column bytes len is = (len, (is, refl))

-- ONE SIZE

-- a value that moves, and is no reference within the unit, has four bytes
four_bytes : (column : Spec) (meaning : Meaning) (bytes : List ℕ) → is_moving meaning ≡ true → is_local meaning ≡ false → IsWritten column meaning bytes → length bytes ≡ 4
four_bytes column meaning bytes moves other (s, least) =
    let four = four_number column.name s.form column.constant meaning bytes moves other s.spelled in
    (subst (λ (z : Shape). SpellsShape z meaning bytes) four.1 s.spelled).0

pub moving_size : (column : Spec) (meaning : Meaning) (len size : ℕ) → is_moving meaning ≡ true → is_local meaning ≡ false → HasSize column meaning len size → size ≡ 4
moving_size column meaning len size moves other has =
    let h = own_size column meaning len size other (no_moving_expr meaning moves) has in
    h.is ∙ four_bytes column (renewed h.number [] meaning) h.bytes (moving_still h.number [] meaning ∙ moves) (local_still h.number [] meaning ∙ other) h.written

-- and what is neither a number nor an expression has one size
one_kept : (column : Spec) (meaning : Meaning) (len m n : ℕ) → is_moving meaning ≡ false → is_expr meaning ≡ false → HasSize column meaning len m → HasSize column meaning len n → m ≡ n
one_kept column meaning len m n stays other has has2 =
    let g = own_size column meaning len n (no_local meaning stays) other has2 in
    let written = subst (λ (z : Meaning). IsWritten column z g.bytes) (kept g.number [] meaning stays other) g.written in
    sym (size_kept column meaning len m g.bytes stays other has written.1) ∙ sym g.is

pub one_size : OneSize
one_size column (InUnit k) len m n h g = h.1 ∙ sym g.1
one_size column (Expression bytes) len m n h g = h.1 ∙ sym g.1
one_size column meaning len m n h g =
    elim (cases_Bool (is_moving meaning)) [
      | inl moves ↦ moving_size column meaning len m moves refl h ∙ sym (moving_size column meaning len n moves refl g)
      | inr stays ↦ one_kept column meaning len m n stays refl h g
    ]

-- REFERENCES WITHIN THE UNIT

abbrev LocalShape : ℕ → List ℕ → Type 0
LocalShape n bytes = SpellsShape (ByUleb role.LocalRef) (InUnit n) bytes

local_shape : (name code : ℕ) (c : ℤ) (n : ℕ) (bytes : List ℕ) → code ≡ code_of form.RefUdata → SpellsValue name code c (InUnit n) bytes → LocalShape n bytes
local_shape name code c n bytes is s = in_form name code form.RefUdata c (InUnit n) bytes (sym is) s

same_local : (m n : ℕ) → InUnit m ≡ InUnit n → m ≡ n
same_local m n e = cc

local_least : (n : ℕ) (bytes : List ℕ) → LocalShape n bytes → least_unsigned_len n ≤ length bytes
local_least n bytes p =
    let same : n ≡ p.0 = same_local n p.0 p.2 in
    let least : least_unsigned_len p.0 ≤ length bytes = unsigned_spellings.no_shorter bytes p.0 p.1.0 in
    let here : least_unsigned_len n ≡ least_unsigned_len p.0 = ap least_unsigned_len same in
    omega arith

-- a number in its shortest LEB128 bytes
pub written_local : (column : Spec) (n : ℕ) (bytes : List ℕ) → column.form ≡ code_of form.RefUdata → n < 2 ^ 64 → ShortestUnsigned n bytes → IsWritten column (InUnit n) bytes
written_local column n bytes is few short =
    let shape : LocalShape n bytes = (n, (short.0, few), refl) in
    let spelled : SpellsValue column.name column.form column.constant (InUnit n) bytes = record { form = form.RefUdata; known = sym is; small = short.0.0.byte; spelled = shape } in (
      spelled,
      record {
        constant = column.constant;
        spelled = spelled;
        shortest = λ constant others s.
            let least : least_unsigned_len n ≤ length others = local_least n others (local_shape column.name column.form constant n others is s) in
            omega (arith, short.1);
        flag = λ flag. absurd (let no : code_of form.RefUdata ≡ code_of form.Flag = sym is ∙ flag in omega arith);
      },
    )

-- which are all that can be written in that form
local_len : (column : Spec) (n : ℕ) (bytes : List ℕ) → column.form ≡ code_of form.RefUdata → IsWritten column (InUnit n) bytes → length bytes ≡ least_unsigned_len n
local_len column n bytes is w =
    let shape = local_shape column.name column.form column.constant n bytes is w.0 in
    let same : n ≡ shape.0 = same_local n shape.0 shape.2 in
    let few : shape.0 < 2 ^ 64 = shape.1.1 in
    let head = some_head n in
    let least = written_local column n head.0 is (omega arith) head.1 in
    sym (least_len column (InUnit n) head.0 bytes w least.1) ∙ head.1.1

-- the bytes of a value have its size
pub size_written : (column : Spec) (meaning : Meaning) (n len size : ℕ) (made bytes : List ℕ) → HasSize column meaning (new_len meaning n len) size → length made ≡ len → IsWritten column (renewed n made meaning) bytes → HasSize column meaning (new_len meaning n len) (length bytes)
size_written column (InUnit k) n len size made bytes h long w = (h.0, local_len column n bytes h.0 w)
size_written column (Expression old) n len size made bytes h long w = (h.0, expr_size column made bytes w ∙ ap (λ (z : ℕ). least_unsigned_len z + z) long)
size_written column m n len size made bytes h long w = record { number = n; bytes = bytes; written = w; is = refl }

-- NUMBERS OF FOUR BYTES

number_any : (name : ℕ) (f : Form) (c d : ℤ) (w : Width) (r : Role) → shape_of f name c ≡ Number w r → shape_of f name d ≡ Number w r
number_any name form.ImplicitConst c d w r e = absurd (cc (e))
number_any name f c d w r e = e

-- each spelling in a form of fixed size has this size
fixed_len : (name code : ℕ) (f : Form) (c d : ℤ) (w : Width) (r : Role) (m : Meaning) (bytes : List ℕ) → code_of f ≡ code → shape_of f name c ≡ Number w r → SpellsValue name code d m bytes → length bytes ≡ size_of w
fixed_len name code f c d w r m bytes known fixed s =
    let p = subst (λ (z : Shape). SpellsShape z m bytes) (number_any name f c d w r fixed) (in_form name code f d m bytes known s) in
    p.0

module _ (column : Spec) (meaning : Meaning) (n : ℕ) (f : Form) (r : Role) (known : code_of f ≡ column.form) (fixed : shape_of f column.name column.constant ≡ Number Four r) (means : meaning ≡ in_role r Four n) (few : n < 2 ^ 32) where
  -- a number of four bytes spells the value
  number_spelled : SpellsValue column.name column.form column.constant meaning (low_bytes Four n)
  number_spelled =
      let back : number 4 (low_bytes Four n) ≡ n = number_low Four n (omega arith) in
      let shape : SpellsShape (Number Four r) meaning (low_bytes Four n) = (low_len Four n, means ∙ ap (in_role r Four) (sym back)) in
      record {
        form = f;
        known = known;
        small = low_small 0 4 n;
        spelled = subst (λ (z : Shape). SpellsShape z meaning (low_bytes Four n)) (sym fixed) shape;
      }

  -- which is no flag, as it moves
  no_flag : role_moves r ≡ true → column.form ≢ code_of form.Flag
  no_flag moves is =
      let same : f ≡ form.Flag = code_once f form.Flag (known ∙ is) in
      let flag : Number One role.Truth ≡ Number Four r = sym (ap (λ (z : Form). shape_of z column.name column.constant) same) ∙ fixed in
      let truth : shape_moves (Number Four r) ≡ false = sym (ap shape_moves flag) in
      absurd (cc (truth, moves))

  written_number : role_moves r ≡ true → IsWritten column meaning (low_bytes Four n)
  written_number moves = (
    number_spelled,
    record {
      constant = column.constant;
      spelled = number_spelled;
      shortest = λ constant more t. omega (arith, fixed_len column.name column.form f column.constant constant Four r meaning more known fixed t, low_len Four n);
      flag = λ is. absurd (no_flag moves is);
    },
  )

-- the number of a value that moves can be replaced
pub written_moved : (column : Spec) (meaning : Meaning) (len size n : ℕ) (made : List ℕ) → is_moving meaning ≡ true → is_local meaning ≡ false → HasSize column meaning len size → n < 2 ^ 32 → IsWritten column (renewed n made meaning) (low_bytes Four n)
written_moved column meaning len size n made moves other has few =
    let h = own_size column meaning len size other (no_moving_expr meaning moves) has in
    let s = h.written.0 in
    let four = four_number column.name s.form column.constant (renewed h.number [] meaning) h.bytes (moving_still h.number [] meaning ∙ moves) (local_still h.number [] meaning ∙ other) s.spelled in
    let before = subst (λ (z : Shape). SpellsShape z (renewed h.number [] meaning) h.bytes) four.1 s.spelled in
    let means : renewed n made meaning ≡ in_role four.0 Four n = renumbered four.0 Four Four (number 4 h.bytes) h.number n [] made meaning four.2 before.1 in
    written_number column (renewed n made meaning) n s.form four.0 s.known four.1 means few four.2

pub five_bytes : (n : ℕ) → n < 2 ^ 32 → least_unsigned_len n ≤ 5
five_bytes n few = (unsigned_lens.enough n 5).0 (record { some = omega arith; below = omega arith })

-- a number of four bytes that moves has the size of its form
four_has_size : (column : Spec) (meaning : Meaning) (f : Form) (r : Role) → column.form ≡ code_of f → shape_of f column.name column.constant ≡ Number Four r → role_moves r ≡ true → renewed 0 [] meaning ≡ in_role r Four 0 → HasOwnSize column meaning 4
four_has_size column meaning f r known fixed moves means = record {
  number = 0;
  bytes = low_bytes Four 0;
  written = written_number column (renewed 0 [] meaning) 0 f r (sym known) fixed means (omega arith) moves;
  is = sym (low_len Four 0);
}

pub numbers_have_sizes : NumbersHaveSizes
numbers_have_sizes column (InUnit n) len e = (len, (e, refl))
numbers_have_sizes column (InSection n) len e = (4, four_has_size column (InSection n) form.RefAddr role.SectionRef e refl refl refl)
numbers_have_sizes column (SectionPlace n) len e = (4, four_has_size column (SectionPlace n) form.SecOffset role.Offset e refl refl refl)
numbers_have_sizes column meaning len none = absurd none

-- what is no number and no expression
pub other_value : (section : List ℕ) (v : Value) → ((span : Span) → v ≡ value.Expr span → ⊥) → ((n : ℕ) → v ≡ value.LocalRef n → ⊥) → ((n : ℕ) → v ≡ value.SectionRef n → ⊥) → ((n : ℕ) → v ≡ value.Offset n → ⊥) → (is_moving (meant_in section v) ≡ false) × (is_expr (meant_in section v) ≡ false)
other_value section (value.Expr span) a b c d = absurd (a span refl)
other_value section (value.LocalRef n) a b c d = absurd (b n refl)
other_value section (value.SectionRef n) a b c d = absurd (c n refl)
other_value section (value.Offset n) a b c d = absurd (d n refl)
other_value section v a b c d = (refl, refl)
