use Rattle.std.proofs.Common.{◌≡◌, sym, subst, refl}
use Rattle.std.specs.Int.{w64}
use Rattle.std.specs.Prelude.{FitsSigned, pos}
use Rattle.std.proofs.lemmas.Int.{to_z-of_z}
use Rattle.column_forms.specs.Tallies.{Tallying, IsTally}
use Rattle.column_forms.proofs.Best.{room_left, chosen, never_none}
use Rattle.column_forms.proofs.tally.Tally.best.Goals as goal

pub best_of-requires : goal.best_of-requires
best_of-requires c = room_left c.self.inside.candidates.items c.deref.result.now c.self.inside.count c.deref.ensures.value c.self.invariant.bounded c.self.invariant.few

pub returns-then-choice-eq-DW_FORM_IMPLICIT_CONST : goal.returns-then-choice-eq-DW_FORM_IMPLICIT_CONST
returns-then-choice-eq-DW_FORM_IMPLICIT_CONST c = λ section values named t s.
    let fits : FitsSigned w64 c.self.inside.constant = c.self.invariant.fits in
    let own = subst (λ (z : Tallying). z.name ≡ c.args.column.name) (sym c.self.view_is) named in
    let inside = subst (λ (z : Tallying). IsTally section values z) (sym c.self.view_is) t in
    let best = simp to_z-of_z at c.in-Some.ensures in
    rw to_z-of_z (chosen c.args.classes section values c.self.inside.name c.self.inside.candidates.items c.deref.result.now c.self.inside.constant c.self.inside.constant c.self.inside.count c.args.column c.in-Some.choice c.deref.ensures.value own inside best (λ _. refl) (λ differs. absurd (differs c.if-choice-eq-DW_FORM_IMPLICIT_CONST.true)))

pub returns-else-choice-eq-DW_FORM_IMPLICIT_CONST : goal.returns-else-choice-eq-DW_FORM_IMPLICIT_CONST
returns-else-choice-eq-DW_FORM_IMPLICIT_CONST c = λ section values named t s.
    let fits : FitsSigned w64 c.self.inside.constant = c.self.invariant.fits in
    let own = subst (λ (z : Tallying). z.name ≡ c.args.column.name) (sym c.self.view_is) named in
    let inside = subst (λ (z : Tallying). IsTally section values z) (sym c.self.view_is) t in
    let best = simp to_z-of_z at c.in-Some.ensures in
    chosen c.args.classes section values c.self.inside.name c.self.inside.candidates.items c.deref.result.now c.self.inside.constant (pos 0) c.self.inside.count c.args.column c.in-Some.choice c.deref.ensures.value own inside best (λ is. absurd (c.if-choice-eq-DW_FORM_IMPLICIT_CONST.false is)) (λ _. refl)

pub returns-in-None : goal.returns-in-None
returns-in-None c = λ section values named t s.
    let own = subst (λ (z : Tallying). z.name ≡ c.args.column.name) (sym c.self.view_is) named in
    let inside = subst (λ (z : Tallying). IsTally section values z) (sym c.self.view_is) t in
    absurd (never_none c.args.classes section values c.self.inside.name c.self.inside.candidates.items c.deref.result.now c.self.inside.constant c.self.inside.count c.args.column c.some_form.ensures c.deref.ensures.value own inside s c.in-None.ensures)
