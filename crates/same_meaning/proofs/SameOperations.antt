-- When two operations mean the same.
use Rattle.std.proofs.Common.{◌≡◌, ◌≢◌, ◌↔◌, ◌∙◌, ℕ, Bool, true, false, List, IsTrue, sym, ap, subst, refl}
use Rattle.std.specs.Prelude.{Option, if◌then◌else◌}
use Rattle.std.proofs.lemmas.Bool.{true≢false}
use Rattle.expr_ops.specs.declared.op.Op.{Op}
use Rattle.expr_ops.specs.declared.names.Named.{Named}
use Rattle.expr_ops.specs.declared.names.Named.TheVariants.{Nothing, BaseType, UnitEntry, SectionEntry}
use Rattle.expr_ops.specs.Drafts.{has_reference, with_a}
use Rattle.expr_ops.specs.Expressions.{Operation}
use Rattle.expr_ops.specs.Names.{named_by}
use Rattle.expr_ops.specs.Ops.{meant}
use Rattle.form_codec.specs.Values.{bytes_in}
use Rattle.value_links.specs.declared.operations.OpLink.{OpLink}
use Rattle.value_links.specs.Reading.{Linkable}
use Rattle.value_links.specs.Operations.{without_reference, Names, LinksReference}
use Rattle.value_links.specs.Operations.OpTarget.{NoTarget}
use Rattle.same_meaning.specs.inside.Expressions.{NamesSomething, IsFoundOf, TellsNamed, plain_number, KeepAlike, ReferAlike, MeanSameOperation}
use Rattle.same_meaning.proofs.NamedOnce.{found_once, found_alike}

-- the operations that have a reference are those that name something
abbrev ReferencesNamed : Type 0
ReferencesNamed = (code : ℕ) → IsTrue (has_reference code) ↔ (named_by code ≢ Nothing)

nothing_else : (named : Named) → (named ≢ Nothing → ⊥) → named ≡ Nothing
nothing_else Nothing none = refl
nothing_else BaseType none = absurd (none (λ e. absurd (cc (e))))
nothing_else UnitEntry none = absurd (none (λ e. absurd (cc (e))))
nothing_else SectionEntry none = absurd (none (λ e. absurd (cc (e))))

module _ (r : Linkable) (u : ℕ) (a : Op) (s : Linkable) (v : ℕ) (b : Op) (code : a.code ≡ b.code) where
  -- two that have a reference refer alike where what is found is the same
  module _ (has : has_reference a.code ≡ true) (first second : Option OpLink) (told : TellsNamed r u a first) (told_too : TellsNamed s v b second) where
    number_same : plain_number a ≡ plain_number b
    number_same =
        let one : plain_number a ≡ 0 = ap (λ (z : Bool). if z then 0 else a.a) has in
        let other : plain_number b ≡ 0 = ap (λ (z : Bool). if z then 0 else b.a) (ap has_reference (sym code) ∙ has) in
        one ∙ sym other

    pub refer_found : NamesSomething r u a → NamesSomething s v b → first ≡ second → ReferAlike r u a s v b
    refer_found (thing, named) (other, named_too) same =
        let tells : IsFoundOf thing second = subst (IsFoundOf thing) same (told thing named) in
        let one : other ≡ thing = found_once other thing second (told_too other named_too) tells in
        record { number = number_same; target = (thing, named, subst (Names s v b.code b.a) one named_too) }

    pub found_refer : ReferAlike r u a s v b → first ≡ second
    found_refer alike =
        let (thing, named, named_too) = alike.target in
        found_alike thing first second (told thing named) (subst (λ (z : Option OpLink). IsFoundOf thing z) refl (told_too thing named_too))

  -- two that have none do where they have one number
  module _ (law : ReferencesNamed) (none : has_reference a.code ≡ false) where
    named_none : named_by a.code ≡ Nothing
    named_none = nothing_else (named_by a.code) (λ some. true≢false (sym ((law a.code).1 some) ∙ none))

    own_number : plain_number a ≡ a.a
    own_number = ap (λ (z : Bool). if z then 0 else a.a) none

    other_number : plain_number b ≡ b.a
    other_number = ap (λ (z : Bool). if z then 0 else b.a) (ap has_reference (sym code) ∙ none)

    pub refer_plain : a.a ≡ b.a → ReferAlike r u a s v b
    refer_plain same = record {
      number = own_number ∙ same ∙ sym other_number;
      target = (
        NoTarget,
        subst (λ (z : Named). LinksReference r u z a.code a.a NoTarget) (sym named_none) refl,
        subst (λ (z : Named). LinksReference s v z b.code b.a NoTarget) (sym (ap named_by (sym code) ∙ named_none)) refl,
      );
    }

    pub plain_refer : ReferAlike r u a s v b → a.a ≡ b.a
    plain_refer alike = sym own_number ∙ alike.number ∙ other_number

-- an operation without its reference, by its parts
parts_without : (b : Bool) (o : Operation) → (if b then with_a 0 o else o) ≡ record { code = o.code; a = (if b then 0 else o.a); s = o.s; block = o.block; jump = o.jump; inner = o.inner }
parts_without true o = refl
parts_without false o = refl

abbrev parts_of : List ℕ → Op → Operation
parts_of bytes op = record { code = op.code; a = plain_number op; s = op.s; block = bytes_in bytes op.bytes; jump = op.jump; inner = op.inner }

meant_without : (bytes : List ℕ) (op : Op) → without_reference (meant bytes op) ≡ parts_of bytes op
meant_without bytes op = parts_without (has_reference op.code) (meant bytes op)

module _ (r : Linkable) (u : ℕ) (bytes : List ℕ) (a : Op) (s : Linkable) (v : ℕ) (others : List ℕ) (b : Op) where
  -- two operations mean the same that are the same but for their first numbers, and refer alike
  pub operation_same : KeepAlike bytes a others b → ReferAlike r u a s v b → MeanSameOperation r u bytes a s v others b
  operation_same keep alike =
      let code = keep.code in
      let sign = keep.s in
      let jump = keep.jump in
      let inner = keep.inner in
      let block = keep.block in
      let number = alike.number in
      let parts : parts_of bytes a ≡ parts_of others b = cc in
      let same : without_reference (meant bytes a) ≡ without_reference (meant others b) = meant_without bytes a ∙ parts ∙ sym (meant_without others b) in
      (record { operation = without_reference (meant bytes a); target = alike.target.0 }, record { operation = refl; target = alike.target.1 }, record { operation = same; target = alike.target.2 })

  -- and so do no others
  parts_same : MeanSameOperation r u bytes a s v others b → parts_of bytes a ≡ parts_of others b
  parts_same (linked, is, other) = sym (meant_without bytes a) ∙ sym is.operation ∙ other.operation ∙ meant_without others b

  pub keep_same : MeanSameOperation r u bytes a s v others b → KeepAlike bytes a others b
  keep_same same =
      let parts = parts_same same in
      record {
        code = ap (λ (o : Operation). o.code) parts;
        s = ap (λ (o : Operation). o.s) parts;
        jump = ap (λ (o : Operation). o.jump) parts;
        inner = ap (λ (o : Operation). o.inner) parts;
        block = ap (λ (o : Operation). o.block) parts;
      }

  pub refer_same : MeanSameOperation r u bytes a s v others b → ReferAlike r u a s v b
  refer_same same =
      let (linked, is, other) = same in
      record { number = ap (λ (o : Operation). o.a) (parts_same same); target = (linked.target, is.target, other.target) }
