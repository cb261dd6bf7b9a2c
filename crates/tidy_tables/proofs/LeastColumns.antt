-- Columns of references that all name places in their own units aren't in least forms: taken as references within these they have values
-- that their form doesn't spell.
use Rattle.std.proofs.Common.{◌≡◌, ◌≢◌, ◌-◌, ◌*◌, ◌^◌, ◌∙◌, ℕ, Bool, true, false, List, [], ◌∷◌, map, leb, sym, ap, refl, subst}
use Rattle.std.specs.Prelude.{ℤ, pos, ◌↔◌, IsTrue}
use Rattle.std.proofs.lemmas.Bool.{cond-true, cond-false, cond_both, and_parts}
use Rattle.dw_base.specs.declared.classes.Classes.{Classes}
use Rattle.form_codec.specs.declared.form.Content.TheVariants as content
use Rattle.form_codec.specs.declared.form.Role.{Role}
use Rattle.form_codec.specs.declared.form.Role.TheVariants as role
use Rattle.form_codec.specs.declared.form.Shape.{Shape}
use Rattle.form_codec.specs.declared.form.Shape.TheVariants.{Constant, Present, Number, Uleb, Sleb, Counted, UlebCounted, Sixteen, ZeroEnded}
use Rattle.form_codec.specs.declared.form.Width.{Width}
use Rattle.form_codec.specs.declared.form.Width.TheVariants.{Eight}
use Rattle.form_codec.specs.Forms.{Meaning, SpellsShape, SpellsValue, in_role, data_of, size_of}
use Rattle.form_codec.specs.Forms.Meaning.{Bits, InUnit, InSection, Whole}
use Rattle.form_codec.specs.Values.{meant_in}
use Rattle.form_codec.specs.Columns.{AreSpelled, IsLeastForm}
use Rattle.form_codec.proofs.FormLaws.{in_form}
use Rattle.abbrev_tables.specs.declared.decl.Spec.{Spec}
use Rattle.column_forms.specs.Tallies.{meanings_in}
use Rattle.entry_read.specs.declared.head.UnitHead.{UnitHead}
use Rattle.written_files.specs.Uses.{names_inside, counted_inside, are_inside, taken_meanings}
use Rattle.tidy_tables.specs.inside.ColumnValues.{Headed, without_heads, meant_with_heads}

-- A FORM

is_section : Meaning → Bool
is_section (InSection n) = true
is_section m = false

-- a number of some bytes is no reference
no_reference : (size n : ℕ) → is_section (data_of size n) ≡ false
unfolding is_section
no_reference size n = cond_both (leb (2 ^ (8 * size - 1)) n) (Bits size n) (Whole (pos n)) (λ (m : Meaning). is_section m ≡ false) (λ _. refl) (λ _. refl)

-- no role has both kinds of references
no_role : (r : Role) (w v : Width) (a b n m : ℕ) → InSection n ≡ in_role r w a → InUnit m ≡ in_role r v b → ⊥
unfolding is_section
no_role role.Data w v a b n m s t = absurd (let is : true ≡ false = ap is_section s ∙ no_reference (size_of w) a in cc is)
no_role role.SectionRef w v a b n m s t = absurd (cc t)
no_role r w v a b n m s t = absurd (cc s)

-- nor has a shape
no_shape : (shape : Shape) (n m : ℕ) (bytes others : List ℕ) → SpellsShape shape (InSection n) bytes → SpellsShape shape (InUnit m) others → ⊥
no_shape (Constant v) n m bytes others s t = absurd (cc (s.2))
no_shape Present n m bytes others s t = absurd (cc (s.1))
no_shape (Number w r) n m bytes others s t = no_role r w w _ _ n m s.1 t.1
no_shape (Uleb r) n m bytes others s t = no_role r Eight Eight s.0 t.0 n m s.2 t.2
no_shape Sleb n m bytes others s t = absurd (cc (s.2))
no_shape (Counted w) n m bytes others s t = absurd (cc (s.holds))
no_shape (UlebCounted content.Data) n m bytes others s t = absurd (cc (s.holds))
no_shape (UlebCounted content.Expression) n m bytes others s t = absurd (cc (s.holds))
no_shape Sixteen n m bytes others s t = absurd (cc (s.1))
no_shape ZeroEnded n m bytes others s t = absurd (cc (s.holds))

no_form : (name code : ℕ) (c : ℤ) (head : UnitHead) (m : Meaning) (bytes others : List ℕ) → names_inside head m ≡ true → SpellsValue name code c m bytes → SpellsValue name code c (counted_inside head m) others → ⊥
no_form name code c head (InSection n) bytes others is s t = no_shape _ n _ bytes others s.spelled (in_form name code s.form c _ others s.known t)
no_form name code c head m bytes others is s t = absurd (cc is)

-- A COLUMN

-- what the values mean, without the headers
pub plain_same : (section : List ℕ) (values : List Headed) → map (λ (v : UnitHead × Meaning). v.1) (meant_with_heads section values) ≡ meanings_in section (without_heads values)
plain_same section [] = refl
plain_same section (v ∷ vs) = ap (λ (ms : List Meaning). meant_in section v.1 ∷ ms) (plain_same section vs)

abbrev counted_all : List (UnitHead × Meaning) → List Meaning
counted_all values = map (λ (v : UnitHead × Meaning). counted_inside v.0 v.1) values

-- values that all name places in their own units aren't in a least form
inside_long : (section : List ℕ) (classes : Classes) (column : Spec) (values : List Headed) → are_inside (meant_with_heads section values) ≡ true → values ≢ [] → AreSpelled column.name column.form column.constant (meanings_in section (without_heads values)) → IsLeastForm classes column.name (counted_all (meant_with_heads section values)) column.form column.constant → ⊥
inside_long section classes column [] all some spelled least = some refl
inside_long section classes column (v ∷ vs) all some spelled least =
    let within = least.enough.within in
    let first : names_inside v.0 (meant_in section v.1) ≡ true = (and_parts (names_inside v.0 (meant_in section v.1)) (are_inside (meant_with_heads section vs)) all).0 in
    no_form column.name column.form column.constant v.0 (meant_in section v.1) spelled.0.0 within.0 first spelled.0.1 within.2

some_left : (vs : List Headed) → vs ≢ [] → without_heads vs ≢ []
some_left [] one = λ e. one refl
some_left (v ∷ vs) one = λ e. absurd (cc e)

module _ (section : List ℕ) (classes : Classes) (column : Spec) (values : List Headed) where
  abbrev means : List (UnitHead × Meaning)
  means = meant_with_heads section values

  abbrev plain : List Meaning
  plain = map (λ (v : UnitHead × Meaning). v.1) means

  -- a column of such references isn't in a least form
  pub inside_told : are_inside (meant_with_heads section values) ≡ true → values ≢ [] → AreSpelled column.name column.form column.constant (meanings_in section (without_heads values)) → IsTrue false ↔ IsLeastForm classes column.name (taken_meanings (meant_with_heads section values)) column.form column.constant
  inside_told all some spelled =
      let taken : taken_meanings means ≡ counted_all means = cond-true {A = List Meaning} (are_inside means) (counted_all means) plain all in
      (λ is. absurd (cc is), λ least. absurd (inside_long section classes column values all some spelled (subst (λ (ms : List Meaning). IsLeastForm classes column.name ms column.form column.constant) taken least)))

  -- and of another column the sums tell it
  pub outside_told : (told : Bool) → are_inside (meant_with_heads section values) ≡ false → values ≢ [] → (without_heads values ≢ [] → IsTrue told ↔ IsLeastForm classes column.name (meanings_in section (without_heads values)) column.form column.constant) → IsTrue told ↔ IsLeastForm classes column.name (taken_meanings (meant_with_heads section values)) column.form column.constant
  outside_told told none some tells =
      let taken : taken_meanings means ≡ meanings_in section (without_heads values) = cond-false {A = List Meaning} (are_inside means) (counted_all means) plain none ∙ plain_same section values in
      subst (λ (ms : List Meaning). IsTrue told ↔ IsLeastForm classes column.name ms column.form column.constant) (sym taken) (tells (some_left values some))
