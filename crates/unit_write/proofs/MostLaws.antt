-- What is written of a value, and of an entry, has few bytes more than what was read of it.
use Rattle.std.proofs.Common.{◌≡◌, ◌≤◌, ◌<◌, ◌+◌, ◌-◌, ◌*◌, ◌^◌, ℕ, List, [], ◌∷◌, ◌++◌, length, Bool, true, false, suc, take, drop, get_or, ◌∙◌, sym, ap, refl, subst, arith, inl, inr}
use Rattle.std.specs.Prelude.{ℤ, pos, negsuc, nat_le, if◌then◌else◌, slice_index, FitsSigned}
use Rattle.std.specs.List.{AllZip}
use Rattle.std.specs.Int.{w64}
use Prim.Native.Nat.{min}
use Rattle.std.proofs.lemmas.Int.{ints}
use Rattle.std.proofs.lemmas.List.{length-append, length-take, length-drop, get_or-take, get_or-drop}
use Rattle.dw_base.specs.declared.fault.Span.{Span}
use Rattle.spelled.specs.Spelled.{AreBytes}
use Rattle.spelled.proofs.Parts.{bytes_append, bytes_after, length_part}
use Rattle.leb_codec.specs.Leb.{least_unsigned_len, least_signed_len}
use Rattle.leb_codec.proofs.Lens.{unsigned_lens, signed_lens}
use Rattle.leb_codec.proofs.SpellingLaws.{unsigned_spellings, signed_spellings}
use Rattle.form_codec.specs.declared.form.Role.{Role}
use Rattle.form_codec.specs.declared.form.Role.TheVariants as role
use Rattle.form_codec.specs.declared.form.Shape.{Shape}
use Rattle.form_codec.specs.declared.form.Shape.TheVariants.{Constant, Present, Number, Uleb as ByUleb, Sleb as BySleb, Counted, UlebCounted, Sixteen, ZeroEnded}
use Rattle.form_codec.specs.declared.form.Content.{Content}
use Rattle.form_codec.specs.declared.form.Content.TheVariants as content
use Rattle.form_codec.specs.declared.form.Width.{Width}
use Rattle.form_codec.specs.declared.form.Width.TheVariants.{One, Two, Three, Four, Eight}
use Rattle.form_codec.specs.declared.value.Value.{Value}
use Rattle.form_codec.specs.declared.value.Value.TheVariants as value
use Rattle.fixed_width.specs.Numbers.{number}
use Rattle.form_codec.specs.Forms.{Meaning, SpellsShape, SpellsValue, IsUlebCounted, shape_of, size_of, in_role, of_content}
use Rattle.form_codec.specs.Forms.Meaning.{Bits, Whole, SixteenBytes, Data, Expression, Text, InUnit, InSection, SectionPlace}
use Rattle.form_codec.specs.Values.{bytes_in, meant_in, IsPlaced}
use Rattle.abbrev_tables.specs.declared.decl.Spec.{Spec}
use Rattle.abbrev_tables.specs.Tables.{Declared}
use Rattle.abbrev_tables.specs.Listings.{Listing}
use Rattle.entry_arena.specs.Arena.{Arena, entry_at, value_at}
use Rattle.entry_arena.specs.Trees.{Listed, AddsEntry, SpellsBetween, ValuesBetween, bytes_between, declared_at}
use Rattle.entry_arena.proofs.Between.{length_between}
use Rattle.entry_arena.proofs.StepLaws.{code_rises}
use Rattle.entry_read.specs.declared.head.UnitHead.{UnitHead}
use Rattle.entry_read.specs.Short.{IsWritten}
use Rattle.entry_read.specs.Slots.{is_local}
use Rattle.unit_write.specs.Taken.{StandsFor}
use Rattle.unit_write.specs.Lens.{AreLensFor}
use Rattle.unit_write.specs.Values.{renewed, HasOwnSize, HasSize, HaveSize}
use Rattle.unit_write.specs.Placing.{columns_of, values_in, among_values, EntrySize}
use Rattle.unit_write.specs.inside.Puts.{is_expr}
use Rattle.unit_write.proofs.TakenUnits.{taken_or_same}

-- the bytes that a value has whatever its form
abbrev pub own_len : Meaning → ℕ
own_len (SixteenBytes bytes) = length bytes
own_len (Data bytes) = length bytes
own_len (Expression bytes) = length bytes
own_len (Text bytes) = length bytes
own_len meaning = 0

data_len : (size n : ℕ) (test : Bool) → own_len (if test then Bits size n else Whole (pos n)) ≡ 0
data_len size n true = refl
data_len size n false = refl

role_len : (r : Role) (w : Width) (n : ℕ) → own_len (in_role r w n) ≡ 0
role_len role.Data w n = data_len (size_of w) n (nat_le (2 ^ (8 * size_of w - 1)) n)
role_len r w n = refl

content_len : (kind : Content) (bytes : List ℕ) → own_len (of_content kind bytes) ≡ length bytes
content_len content.Data bytes = refl
content_len content.Expression bytes = refl

-- they stand in each spelling of it
pub spelled_len : (s : Shape) (m : Meaning) (bytes : List ℕ) → SpellsShape s m bytes → own_len m ≤ length bytes
spelled_len (Constant v) m bytes p = let e : own_len m ≡ 0 = ap own_len p.2 in omega arith
spelled_len Present m bytes p = let e : own_len m ≡ 0 = ap own_len p.1 in omega arith
spelled_len (Number w r) m bytes p = let e : own_len m ≡ 0 = ap own_len p.1 ∙ role_len r w (number (size_of w) bytes) in omega arith
spelled_len (ByUleb r) m bytes p = let e : own_len m ≡ 0 = ap own_len p.2 ∙ role_len r Eight p.0 in omega arith
spelled_len BySleb m bytes p = let e : own_len m ≡ 0 = ap own_len p.2 in omega arith
spelled_len (Counted w) m bytes p =
    let e : own_len m ≡ length p.body = ap own_len p.holds in
    let whole : length bytes ≡ length p.head + length p.body = ap length p.whole ∙ length-append p.head p.body in
    omega arith
spelled_len (UlebCounted kind) m bytes p =
    let e : own_len m ≡ length p.body = ap own_len p.holds ∙ content_len kind p.body in
    let whole : length bytes ≡ length p.head + length p.body = ap length p.whole ∙ length-append p.head p.body in
    omega arith
spelled_len Sixteen m bytes p = let e : own_len m ≡ length bytes = ap own_len p.1 in omega arith
spelled_len ZeroEnded m bytes p =
    let e : own_len m ≡ length p.text = ap own_len p.holds in
    let whole : length bytes ≡ length p.text + 1 = ap length p.whole ∙ length-append p.text (0 ∷ []) in
    omega arith

-- of what is no expression nothing new changes them
renewed_len : (n : ℕ) (made : List ℕ) (m : Meaning) → is_expr m ≡ false → own_len (renewed n made m) ≡ own_len m
renewed_len n made (InUnit k) other = refl
renewed_len n made (InSection k) other = refl
renewed_len n made (SectionPlace k) other = refl
renewed_len n made (Expression bytes) other = absurd (cc (other))
renewed_len n made m other = refl

small_width : (w : Width) → size_of w ≤ 8
small_width One = omega arith
small_width Two = omega arith
small_width Three = omega arith
small_width Four = omega arith
small_width Eight = omega arith

-- numbers of 64 bits have ten bytes at most
ten_unsigned : (n : ℕ) → n < 2 ^ 64 → least_unsigned_len n ≤ 10
ten_unsigned n few = (unsigned_lens.enough n 10).0 (record { some = omega arith; below = omega arith })

ten_signed : (v : ℤ) → FitsSigned w64 v → least_signed_len v ≤ 10
ten_signed (pos n) fits =
    let few : n < 2 ^ 63 = fits.sfits in
    (signed_lens.enough (pos n) 10).0 (record { some = omega arith; from = omega (arith, ints); below = omega (arith, ints) })
ten_signed (negsuc n) fits =
    let few : n < 2 ^ 63 = fits.sfits in
    (signed_lens.enough (negsuc n) 10).0 (record { some = omega arith; from = omega (arith, ints); below = omega (arith, ints) })

-- a block with a count of ten bytes
ten_counted : (kind : Content) (m : Meaning) (bytes : List ℕ) → AreBytes bytes → IsUlebCounted kind m bytes → (others : List ℕ) × AreBytes others × IsUlebCounted kind m others × (length others ≡ 10 + own_len m)
ten_counted kind m bytes small p =
    let few : length p.body < 2 ^ 64 = p.count.1 in
    let b = unsigned_spellings.each_len (length p.body) 10 (ten_unsigned (length p.body) few) in
    let body : AreBytes p.body = bytes_after p.head p.body (subst (λ (z : List ℕ). AreBytes z) p.whole small) in
    let len : length b.0 ≡ 10 = b.2 in
    let own : own_len m ≡ length p.body = ap own_len p.holds ∙ content_len kind p.body in
    let all : length (b.0 ++ p.body) ≡ length b.0 + length p.body = length-append b.0 p.body in
    (b.0 ++ p.body, bytes_append b.0 p.body b.1.0.byte body, record { head = b.0; body = p.body; count = (b.1, p.count.1); whole = refl; holds = p.holds }, omega arith)

abbrev AreLeast : Shape → Meaning → List ℕ → Type 0
AreLeast s m bytes = (others : List ℕ) → AreBytes others → SpellsShape s m others → length bytes ≤ length others

-- the shortest bytes of a shape have at most ten more
shortest_len : (s : Shape) (m : Meaning) (bytes : List ℕ) → AreBytes bytes → SpellsShape s m bytes → AreLeast s m bytes → length bytes ≤ own_len m + 10
shortest_len (Constant v) m bytes small p least = let e : length bytes ≡ 0 = ap length p.0 in omega arith
shortest_len Present m bytes small p least = let e : length bytes ≡ 0 = ap length p.0 in omega arith
shortest_len (Number w r) m bytes small p least = let e : length bytes ≡ size_of w = p.0 in omega (arith, small_width w)
shortest_len (ByUleb r) m bytes small p least =
    let b = unsigned_spellings.each_len p.0 10 (ten_unsigned p.0 p.1.1) in
    let up : length bytes ≤ length b.0 = least b.0 b.1.0.byte (p.0, (b.1, p.1.1), p.2) in
    let len : length b.0 ≡ 10 = b.2 in
    omega arith
shortest_len BySleb m bytes small p least =
    let b = signed_spellings.each_len p.0 10 (ten_signed p.0 p.1.1) in
    let up : length bytes ≤ length b.0 = least b.0 b.1.0.byte (p.0, (b.1, p.1.1), p.2) in
    let len : length b.0 ≡ 10 = b.2 in
    omega arith
shortest_len (Counted w) m bytes small p least =
    let e : own_len m ≡ length p.body = ap own_len p.holds in
    let whole : length bytes ≡ length p.head + length p.body = ap length p.whole ∙ length-append p.head p.body in
    let head : length p.head ≡ size_of w = p.size in
    omega (arith, small_width w)
shortest_len (UlebCounted kind) m bytes small p least =
    let b = ten_counted kind m bytes small p in
    let up : length bytes ≤ length b.0 = least b.0 b.1 b.2 in
    let len : length b.0 ≡ 10 + own_len m = b.3 in
    omega arith
shortest_len Sixteen m bytes small p least = let e : own_len m ≡ length bytes = ap own_len p.1 in omega arith
shortest_len ZeroEnded m bytes small p least =
    let e : own_len m ≡ length p.text = ap own_len p.holds in
    let whole : length bytes ≡ length p.text + 1 = ap length p.whole ∙ length-append p.text (0 ∷ []) in
    omega arith

-- so have the bytes that are written for a value
written_len : (column : Spec) (m : Meaning) (bytes : List ℕ) → IsWritten column m bytes → length bytes ≤ own_len m + 10
written_len column m bytes (s, shortest) =
    let t = shortest.spelled in
    shortest_len (shape_of t.form column.name shortest.constant) m bytes t.small t.spelled (λ others small p. shortest.shortest shortest.constant others (record { form = t.form; known = t.known; small = small; spelled = p }))

-- what is no expression has at most ten bytes more than any bytes that spell it
other_most : (column : Spec) (m : Meaning) (size name code : ℕ) (constant : ℤ) (old : List ℕ) → is_expr m ≡ false → HasOwnSize column m size → SpellsValue name code constant m old → size ≤ length old + 10
other_most column m size name code constant old other h s =
    let new : length h.bytes ≤ own_len (renewed h.number [] m) + 10 = written_len column (renewed h.number [] m) h.bytes h.written in
    let same : own_len (renewed h.number [] m) ≡ own_len m = renewed_len h.number [] m other in
    let held : own_len m ≤ length old = spelled_len (shape_of s.form name constant) m old s.spelled in
    omega (arith, h.is)

-- an expression gets at most three times its bytes and ten for its length, and a reference within the unit ten
abbrev IsFewOf : Value → ℕ → Type 0
IsFewOf v len = ((span : Span) → v ≡ value.Expr span → len ≤ 3 * span.len + 10) × ((n : ℕ) → v ≡ value.LocalRef n → len ≤ 10)

-- at most three times the bytes of a value that stands in a section, and ten more, where it is written itself
own_most : (section : List ℕ) (column : Spec) (v : Value) (len size name code : ℕ) (constant : ℤ) (from to : ℕ) → IsFewOf v len → HasSize column (meant_in section v) len size → SpellsBetween (SpellsValue name code constant (meant_in section v)) section from to → IsPlaced v from to → size + 3 * from ≤ 3 * to + 10
own_most section column (value.Expr span) len size name code constant from to few h spelled placed =
    let most : len ≤ 3 * span.len + 10 = few.0 span refl in
    let same : size ≡ len = h.1 in
    let held : length (bytes_in section span) ≤ length (bytes_between section from to) = spelled_len (shape_of spelled.spelled.form name constant) (Expression (bytes_in section span)) (bytes_between section from to) spelled.spelled.spelled in
    let old : length (bytes_between section from to) ≡ to - from = length_between section from to spelled.inside in
    let end : span.at + span.len ≡ to = placed in
    let inside : to ≤ length section = spelled.inside in
    let own : length (bytes_in section span) ≡ span.len = length_part span.at span.len section (omega arith) in
    let order : from ≤ to = spelled.order in
    omega arith
own_most section column (value.LocalRef n) len size name code constant from to few h spelled placed =
    let most : len ≤ 10 = few.1 n refl in
    let same : size ≡ len = h.1 in
    let order : from ≤ to = spelled.order in
    omega arith
own_most section column v len size name code constant from to few h spelled placed =
    let most : size ≤ length (bytes_between section from to) + 10 = other_most column (meant_in section v) size name code constant (bytes_between section from to) refl h spelled.spelled in
    let old : length (bytes_between section from to) ≡ to - from = length_between section from to spelled.inside in
    let order : from ≤ to = spelled.order in
    omega arith

-- and where a reference within the unit is written in its place
value_most : (section : List ℕ) (head : UnitHead) (column : Spec) (v w : Value) (len size name code : ℕ) (constant : ℤ) (from to : ℕ) → StandsFor head v w → IsFewOf w len → HasSize column (meant_in section w) len size → SpellsBetween (SpellsValue name code constant (meant_in section v)) section from to → IsPlaced v from to → size + 3 * from ≤ 3 * to + 10
value_most section head column v w len size name code constant from to stands few h spelled placed = elim (taken_or_same head v w stands) [
  | inl same ↦
      own_most section column v len size name code constant from to (subst (λ (z : Value). IsFewOf z len) same few) (subst (λ (z : Value). HasSize column (meant_in section z) len size) same h) spelled placed
  | inr (n, m, old, new) ↦
      let most : len ≤ 10 = few.1 m new in
      let is : size ≡ len = (subst (λ (z : Value). HasSize column (meant_in section z) len size) new h).1 in
      let order : from ≤ to = spelled.order in
      omega arith
]

-- and so for values that stand in a section
pub values_most : (section : List ℕ) (head : UnitHead) (cs ds : List Spec) (vs ws : List Value) (lens : List ℕ) (size from to : ℕ) → AllZip (StandsFor head) vs ws → ((k : ℕ) → k < length ws → IsFewOf (value_at ws k) (get_or lens k 0)) → HaveSize section cs ws lens size → ValuesBetween section ds vs from to → size + 3 * from ≤ 3 * to + 10 * length vs
values_most section head [] [] [] [] [] size from to zip few p q = omega (arith, p, q)
values_most section head [] [] [] [] (n ∷ lens) size from to zip few p q = absurd p
values_most section head [] (d ∷ ds) [] [] lens size from to zip few p q = absurd q
values_most section head cs ds [] (w ∷ ws) lens size from to zip few p q = absurd zip
values_most section head cs ds (v ∷ vs) [] lens size from to zip few p q = absurd zip
values_most section head [] ds (v ∷ vs) (w ∷ ws) lens size from to zip few p q = absurd p
values_most section head (c ∷ cs) ds [] [] lens size from to zip few p q = absurd p
values_most section head (c ∷ cs) [] (v ∷ vs) (w ∷ ws) lens size from to zip few p q = absurd q
values_most section head (c ∷ cs) ds (v ∷ vs) (w ∷ ws) [] size from to zip few p q = absurd p
values_most section head (c ∷ cs) (d ∷ ds) (v ∷ vs) (w ∷ ws) (n ∷ lens) size from to (stands, zip) few (first, rest, has, have, sum) (next, spelled, placed, more) =
    let here : first + 3 * from ≤ 3 * next + 10 = value_most section head c v w n first d.name d.form d.constant from next stands (few 0 (omega arith)) has spelled placed in
    let others : rest + 3 * next ≤ 3 * to + 10 * length vs = values_most section head cs ds vs ws lens rest next to zip (λ k lt. few (suc k) (omega arith)) have more in
    omega (arith, sum)

-- the values of an entry get few
few_in : (f : Arena) (lens : List ℕ) (first count k : ℕ) → AreLensFor f lens → k < length (take count (drop first f.values)) → IsFewOf (value_at (take count (drop first f.values)) k) (get_or (take count (drop first lens)) k 0)
few_in f lens first count k few lt =
    let part : length (take count (drop first f.values)) ≡ min count (length (drop first f.values)) = length-take count (drop first f.values) in
    let rest : length (drop first f.values) ≡ length f.values - first = length-drop first f.values in
    let own : k < count = omega arith in
    let inside : first + k < length f.values = omega arith in
    let there : value_at (take count (drop first f.values)) k ≡ value_at f.values (first + k) = get_or-take count (drop first f.values) k _ own ∙ get_or-drop first f.values k _ in
    let len : get_or (take count (drop first lens)) k 0 ≡ get_or lens (first + k) 0 = get_or-take count (drop first lens) k 0 own ∙ get_or-drop first lens k 0 in (
      λ span is.
          let most : get_or lens (first + k) 0 ≤ 3 * span.len + 10 = few.few (first + k) span (record { inside = inside; is = sym there ∙ is }) in
          omega arith,
      λ n is.
          let most : get_or lens (first + k) 0 ≤ 10 = few.narrow (first + k) inside (ap (λ (v : Value). is_local (meant_in f.section v)) (sym there ∙ is)) in
          omega arith,
    )

-- an entry takes at most three times its bytes, four more, and ten for each value, where its new code has no more than five
pub entry_most : (f : Arena) (head : UnitHead) (table : Listing) (columns : List Spec) (numbers lens : List ℕ) (ds : List Declared) (depth number id size : ℕ) (now mid : Listed) → AreLensFor f lens → least_unsigned_len (slice_index numbers (entry_at f.entries id).decl) ≤ 5 → (adds : AddsEntry f.section ds depth number now mid) → AllZip (StandsFor head) adds.values (values_in f id) → EntrySize table columns numbers f lens id size → size + 3 * now.place ≤ 3 * mid.place + 4 + 10 * length adds.values
entry_most f head table columns numbers lens ds depth number id size now mid few five adds stand sized =
    let cs : List Spec = columns_of table columns (entry_at f.entries id).decl in
    let own : List ℕ = among_values f lens id in
    let each = λ (k : ℕ) (lt : k < length (values_in f id)). few_in f lens (entry_at f.entries id).first (entry_at f.entries id).count k few lt in
    let rest : sized.0 + 3 * adds.values_at ≤ 3 * mid.place + 10 * length adds.values = values_most f.section head cs ((declared_at ds number).columns) adds.values (values_in f id) own sized.0 adds.values_at mid.place stand each sized.1 adds.valued in
    let code : now.place < adds.values_at = code_rises f.section ((declared_at ds number).code) now.place adds.values_at adds.coded in
    let sum = sized.2 in
    omega (arith, five, sum)
