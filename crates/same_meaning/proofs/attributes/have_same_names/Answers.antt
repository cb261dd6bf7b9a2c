use Rattle.std.proofs.Common.{◌≡◌, ◌≤◌, ◌<◌, ◌∙◌, ℕ, [], length, sym, refl, arith}
use Rattle.std.proofs.lemmas.List.{get_or-map, length-map, ext_get_or}
use Rattle.abbrev_tables.specs.declared.decl.Spec.{Spec}
use Rattle.abbrev_tables.specs.Listings.{spec_at, names_of}
use Rattle.same_meaning.proofs.EntryMeanings.{name_alike}
use Rattle.same_meaning.proofs.attributes.have_same_names.Goals as goal

pub returns-then-before-i : goal.returns-then-before-i
returns-then-before-i c = (
  λ none. absurd (cc),
  λ same.
      let inside : c.loop-i.i < length c.args.before.now = omega arith in
      absurd (c.if-before-i.true (sym (name_alike c.args.before.now c.args.after.now c.loop-i.i same inside))),
)

pub returns : goal.returns
returns c =
    let name : Spec → ℕ = λ (z : Spec). z.name in
    let f : length (names_of c.args.after.now) ≡ length c.args.after.now = length-map c.args.after.now name in
    let g : length (names_of c.args.before.now) ≡ length c.args.before.now = length-map c.args.before.now name in
    let size : length c.args.before.now ≡ length c.args.after.now = omega arith in
    let most : length c.args.before.now ≤ c.loop-i.i = omega arith in (
      λ yes. ext_get_or 0 (names_of c.args.after.now) (names_of c.args.before.now) (f ∙ sym size ∙ sym g) (λ k inside.
          get_or-map name c.args.after.now k (spec_at [] 0) 0 (omega arith)
          ∙ c.loop-i.invariant k (omega arith)
          ∙ sym (get_or-map name c.args.before.now k (spec_at [] 0) 0 (omega arith))),
      λ same. refl,
    )
