-- What the bytes from a place up to another spell.
use Rattle.std.proofs.Common.{◌≡◌, ◌≤◌, ◌+◌, ◌-◌, ℕ, List, [], ◌∷◌, ◌++◌, length, take, drop, ◌∙◌, sym, ap, refl, subst, arith}
use Rattle.std.proofs.lemmas.List.{length-take-le, length-drop, take-append-drop, take-take, drop-take, drop-drop}
use Rattle.dw_base.specs.declared.fault.Span.{Span}
use Rattle.spelled.specs.Spelled.{HasUniqueFronts}
use Rattle.form_codec.specs.declared.value.Value.{Value}
use Rattle.form_codec.specs.declared.value.Value.TheVariants as value
use Rattle.form_codec.specs.Forms.{Meaning, SpellsValue}
use Rattle.form_codec.specs.Forms.Meaning.{Address, AddressNumber, Whole, Bits, SixteenBytes, IsSet, Data, Expression, InUnit, InSection, TypeSignature, InSup, Text, StringPlace, LineStringPlace, SupStringPlace, StringNumber, SectionPlace, LocationList, RangeList}
use Rattle.form_codec.specs.Values.{meant_in, bytes_in, IsPlaced}
use Rattle.form_codec.proofs.Shapes.{value_once}
use Rattle.form_codec.proofs.WriteLaws.{part_len}
use Rattle.abbrev_tables.specs.declared.decl.Spec.{Spec}
use Rattle.entry_arena.specs.Trees.{bytes_between, SpellsBetween, ValuesBetween}

pub length_between : (section : List ℕ) (from to : ℕ) → to ≤ length section → length (bytes_between section from to) ≡ to - from
length_between section from to inside =
    let size : length (drop from section) ≡ length section - from = length-drop from section in
    length-take-le (to - from) (drop from section) (omega arith)

-- bytes up to a place and from there on
pub between_split : (section : List ℕ) (from mid to : ℕ) → from ≤ mid → mid ≤ to → bytes_between section from to ≡ bytes_between section from mid ++ bytes_between section mid to
between_split section from mid to p q =
    let rest : List ℕ = drop from section in
    let n : ℕ = mid - from in
    let m : ℕ = to - mid in
    let sum : to - from ≡ n + m = omega arith in
    let place : from + n ≡ mid = omega arith in
    let front : take n (take (n + m) rest) ≡ take n rest = take-take n (n + m) rest (omega arith) in
    let later : drop n (take (n + m) rest) ≡ take m (drop mid section) = drop-take n m rest ∙ ap (take m) (drop-drop n from section ∙ ap (λ k. drop k section) place) in
    ap (λ k. take k rest) sum ∙ sym (take-append-drop n (take (n + m) rest)) ∙ ap (λ z. z ++ drop n (take (n + m) rest)) front ∙ ap (λ z. take n rest ++ z) later

-- what is spelled from a place on and ends by itself is one thing, with one end
pub spells_once : {V : Type 0} (S : V → List ℕ → Type 0) → HasUniqueFronts S → (section : List ℕ) (v w : V) (from a b : ℕ) → SpellsBetween (S v) section from a → SpellsBetween (S w) section from b → (a ≡ b) × (v ≡ w)
spells_once S unique section v w from a b p q =
    let size : ℕ = length section in
    let order1 : from ≤ a = p.order in
    let order2 : from ≤ b = q.order in
    let inside1 : a ≤ size = p.inside in
    let inside2 : b ≤ size = q.inside in
    let same : bytes_between section from a ++ bytes_between section a size ≡ bytes_between section from b ++ bytes_between section b size = sym (between_split section from a size order1 inside1) ∙ between_split section from b size order2 inside2 in
    let one = unique v w (bytes_between section from a) (bytes_between section from b) (bytes_between section a size) (bytes_between section b size) p.spelled q.spelled same in
    let lens : a - from ≡ b - from = sym (length_between section from a inside1) ∙ ap length one.0 ∙ length_between section from b inside2 in
    (omega arith, one.1)

-- the value with a meaning whose bytes have these ends: a block ends with them, a text begins with them
value_from : Meaning → ℕ → ℕ → Value
value_from (Address n) from to = value.Addr n
value_from (AddressNumber n) from to = value.AddrIndex n
value_from (Whole v) from to = value.Int v
value_from (Bits size n) from to = value.Fixed size n
value_from (SixteenBytes bytes) from to = value.Wide16 (record { at = to - length bytes; len = length bytes })
value_from (IsSet set) from to = value.Flag set
value_from (Data bytes) from to = value.Block (record { at = to - length bytes; len = length bytes })
value_from (Expression bytes) from to = value.Expr (record { at = to - length bytes; len = length bytes })
value_from (InUnit n) from to = value.LocalRef n
value_from (InSection n) from to = value.SectionRef n
value_from (TypeSignature n) from to = value.Signature n
value_from (InSup size n) from to = value.SupRef size n
value_from (Text bytes) from to = value.Text (record { at = from; len = length bytes })
value_from (StringPlace n) from to = value.StrOffset n
value_from (LineStringPlace n) from to = value.LineStrOffset n
value_from (SupStringPlace n) from to = value.SupStr n
value_from (StringNumber n) from to = value.StrIndex n
value_from (SectionPlace n) from to = value.Offset n
value_from (LocationList n) from to = value.LocIndex n
value_from (RangeList n) from to = value.RangeIndex n

abbrev span_from : ℕ → ℕ → Span
span_from at len = record { at = at; len = len }

span_same : (span : Span) (at len : ℕ) → at ≡ span.at → len ≡ span.len → span ≡ record { at = at; len = len }
span_same span at len p q = ap (λ (z : ℕ). span_from z span.len) (sym p) ∙ ap (λ (z : ℕ). span_from at z) (sym q)

ending_span : (section : List ℕ) (span : Span) (to : ℕ) → to ≤ length section → span.at + span.len ≡ to → span ≡ record { at = to - length (bytes_in section span); len = length (bytes_in section span) }
ending_span section span to inside placed =
    let size : length (bytes_in section span) ≡ span.len = part_len section span (omega arith) in
    span_same span (to - length (bytes_in section span)) (length (bytes_in section span)) (omega arith) size

-- a value is what its meaning and its place say
value_is : (section : List ℕ) (v : Value) (from to : ℕ) → to ≤ length section → IsPlaced v from to → v ≡ value_from (meant_in section v) from to
unfolding value_from
value_is section (value.Wide16 span) from to inside placed = ap (λ (s : Span). value.Wide16 s) (ending_span section span to inside placed)
value_is section (value.Block span) from to inside placed = ap (λ (s : Span). value.Block s) (ending_span section span to inside placed)
value_is section (value.Expr span) from to inside placed = ap (λ (s : Span). value.Expr s) (ending_span section span to inside placed)
value_is section (value.Text span) from to inside placed =
    let at : span.at ≡ from = placed.0 in
    let end : span.at + span.len + 1 ≡ to = placed.1 in
    ap (λ (s : Span). value.Text s) (span_same span from (length (bytes_in section span)) (sym at) (part_len section span (omega arith)))
value_is section v from to inside placed = refl

-- values with the same meaning and the same place are the same
value_same : (section : List ℕ) (v w : Value) (from to : ℕ) → to ≤ length section → IsPlaced v from to → IsPlaced w from to → meant_in section v ≡ meant_in section w → v ≡ w
value_same section v w from to inside p q same =
    value_is section v from to inside p ∙ ap (λ (m : Meaning). value_from m from to) same ∙ sym (value_is section w from to inside q)

-- the values of columns from a place on are one list, with one end
pub values_once : (section : List ℕ) (columns : List Spec) (vs ws : List Value) (from a b : ℕ) → ValuesBetween section columns vs from a → ValuesBetween section columns ws from b → (a ≡ b) × (vs ≡ ws)
values_once section [] [] [] from a b p q = (sym p ∙ q, refl)
values_once section [] [] (w ∷ ws) from a b p q = absurd q
values_once section [] (v ∷ vs) ws from a b p q = absurd p
values_once section (c ∷ cs) [] ws from a b p q = absurd p
values_once section (c ∷ cs) (v ∷ vs) [] from a b p q = absurd q
values_once section (c ∷ cs) (v ∷ vs) (w ∷ ws) from a b (next, spelled, placed, more) (after, also, put, others) =
    let one = spells_once (SpellsValue c.name c.form c.constant) (value_once c.name c.form c.constant) section (meant_in section v) (meant_in section w) from next after spelled also in
    let put2 : IsPlaced w from next = subst (λ (k : ℕ). IsPlaced w from k) (sym one.0) put in
    let first : v ≡ w = value_same section v w from next spelled.inside placed put2 one.1 in
    let rest = values_once section cs vs ws next a b more (subst (λ (k : ℕ). ValuesBetween section cs ws k b) (sym one.0) others) in
    (rest.0, ap (λ z. z ∷ vs) first ∙ ap (λ z. w ∷ z) rest.1)
