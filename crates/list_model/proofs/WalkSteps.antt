-- What entries do in a walk over a list.
use Rattle.std.proofs.Common.{◌≡◌, ◌+◌, ℕ, List, subst, sym, refl, arith}
use Rattle.list_model.specs.declared.context.Context.{Context}
use Rattle.list_model.specs.declared.entry.EntryKind.{EntryKind}
use Rattle.list_model.specs.declared.entry.EntryKind.TheVariants.{StartxLength, OffsetPair, StartLength}
use Rattle.list_model.specs.declared.walk.Step.{Step}
use Rattle.list_model.specs.declared.walk.Step.TheVariants.{Base, Between, Elsewhere, Over}
use Rattle.list_model.specs.Items.{IsIndexed, HasBounds}
use Rattle.list_model.specs.Steps.{IsStep}
use Rattle.list_model.specs.inside.Steps.{IsSpan}
use Rattle.list_model.specs.Items.Bounds.{between}

-- an item of these bounds has these bounds as numbers
spanned : (addr : List ℕ) (context : Context) (base : ℕ) (kind : EntryKind) (a b start end : ℕ) (step : Step) → HasBounds addr context base kind a b (between start end) → IsSpan start end step → IsStep addr context base kind a b step
spanned addr context base kind a b start end (Between first last) h (e, f, fits) =
    let there : HasBounds addr context base kind a b (between first last) = subst (λ (z : ℕ). HasBounds addr context base kind a b (between first z)) (sym f) (subst (λ (z : ℕ). HasBounds addr context base kind a b (between z end)) (sym e) h) in
    (there, (omega (arith, e, fits.0), omega (arith, f, fits.1)))
spanned addr context base kind a b start end Over h none = (between start end, h, none)
spanned addr context base kind a b start end (Base next) h f = absurd f
spanned addr context base kind a b start end Elsewhere h f = absurd f

pub span_length : (addr : List ℕ) (context : Context) (base a b start : ℕ) (step : Step) → IsIndexed addr context a start → IsSpan (start + 0) (start + b) step → IsStep addr context base StartxLength a b step
span_length addr context base a b start step h s =
    let none : start + 0 ≡ start = omega arith in
    spanned addr context base StartxLength a b start (start + b) step (start, h, refl) (subst (λ (z : ℕ). IsSpan z (start + b) step) none s)

pub span_pair : (addr : List ℕ) (context : Context) (base a b : ℕ) (step : Step) → IsSpan (base + a) (base + b) step → IsStep addr context base OffsetPair a b step
span_pair addr context base a b step s = spanned addr context base OffsetPair a b (base + a) (base + b) step refl s

pub span_start : (addr : List ℕ) (context : Context) (base a b : ℕ) (step : Step) → IsSpan (a + 0) (a + b) step → IsStep addr context base StartLength a b step
span_start addr context base a b step s =
    let none : a + 0 ≡ a = omega arith in
    spanned addr context base StartLength a b a (a + b) step refl (subst (λ (z : ℕ). IsSpan z (a + b) step) none s)
