-- View pairs that stand at a place: one run of so many, without a fault.
use Rattle.std.proofs.Common.{◌≡◌, ◌≤◌, ◌<◌, ◌+◌, ◌*◌, ◌++◌, ◌∙◌, inl, inr, ℕ, List, [], ◌∷◌, length, sym, ap, subst, refl, arith}
use Rattle.std.proofs.lemmas.List.{append_assoc, append_cancel_left, append-nil, length-append}
use Rattle.spelled.specs.Spelled.{HasUniqueFronts, Joined}
use Rattle.spelled.specs.inside.Spelled.{GoesOn}
use Rattle.spelled.proofs.Joins.{then_once, joined_agree}
use Rattle.leb_codec.specs.Leb.{Uleb}
use Rattle.leb_codec.proofs.Fronts.{unique_u, leb_not_short, uleb_not_wide}
use Rattle.dw_base.specs.declared.fault.Kind.{Kind}
use Rattle.dw_base.specs.declared.fault.Kind.TheVariants.{Limit, Short, LebWide}
use Rattle.dw_base.specs.Refusals.{IsFaulty}
use Rattle.list_model.specs.declared.contribution.Contribution.{Contribution}
use Rattle.loc_lists.specs.declared.views.ViewPair.{ViewPair}
use Rattle.loc_lists.specs.Views.{SpellsPair, IsRunAt, FaultView, FaultRun, view_limit, FaultViews}

-- the numbers of pairs, one after the other
abbrev pub numbers_of : List ViewPair → List ℕ
numbers_of [] = []
numbers_of (pair ∷ pairs) = pair.first ∷ pair.last ∷ numbers_of pairs

pub twice : (pairs : List ViewPair) → length (numbers_of pairs) ≡ 2 * length pairs
twice [] = refl
twice (pair ∷ pairs) = let rest : length (numbers_of pairs) ≡ 2 * length pairs = twice pairs in omega arith

pub spelled : (pairs : List ViewPair) (run : List ℕ) → Joined SpellsPair pairs run → Joined Uleb (numbers_of pairs) run
spelled [] run e = e
spelled (pair ∷ pairs) run (both, others, (first, second, s, t, e), j, f) =
    (first, second ++ others, s, (second, others, t, spelled pairs others j, refl), f ∙ ap (λ (z : List ℕ). z ++ others) e ∙ append_assoc first second others)

-- ---- one run

same_pair : (v w : ViewPair) → v.first ≡ w.first → v.last ≡ w.last → v ≡ w
same_pair v w first last = ap (λ (z : ℕ). record { first = z; last = v.last }) first ∙ ap (λ (z : ℕ). record { first = w.first; last = z }) last

pair_once : HasUniqueFronts SpellsPair
pair_once v w a b x y p q e =
    let one = then_once Uleb (λ _. Uleb) unique_u (λ _. unique_u) (v.first, v.last) (w.first, w.last) a b x y p q e in
    (one.0, same_pair v w (ap (λ (z : ℕ × ℕ). z.0) one.1) (ap (λ (z : ℕ × ℕ). z.1) one.1))

no_longer : (pairs others : List ViewPair) (a b : List ℕ) → GoesOn SpellsPair pairs a others b → length pairs ≡ length others → others ≡ pairs
no_longer pairs others a b g same =
    let count : length others ≡ length pairs + length g.more = ap length g.values ∙ length-append pairs g.more in
    g.values ∙ none pairs g.more (omega arith)
  where
    none : (pairs more : List ViewPair) → length more ≡ 0 → pairs ++ more ≡ pairs
    none pairs [] e = append-nil pairs
    none pairs (pair ∷ more) e = absurd (omega (arith, e))

pub one_run : (section : List ℕ) (part : Contribution) (at : ℕ) (pairs others : List ViewPair) → IsRunAt section part at pairs → IsRunAt section part at others → length pairs ≡ length others → pairs ≡ others
one_run section part at pairs others h k same =
    elim (joined_agree SpellsPair pair_once pairs others h.run k.run h.rest k.rest h.spelled k.spelled (sym h.whole ∙ k.whole)) [
      | inl g ↦ sym (no_longer pairs others h.run k.run g same)
      | inr g ↦ no_longer others pairs k.run h.run g (sym same)
    ]

-- ---- no fault

-- a number that stands has no fault
no_view : (n : ℕ) (bytes rest : List ℕ) (kind : Kind) → Uleb n bytes → FaultView kind (bytes ++ rest) → ⊥
no_view n bytes rest Short u f = leb_not_short bytes rest u.0.0 f
no_view n bytes rest LebWide u f = uleb_not_wide n bytes rest u f
no_view n bytes rest kind u f = f

-- more numbers stand behind some
more_stand : (kind : Kind) (before more tail rest left : List ℕ) → Joined Uleb more tail → 0 < length more → rest ≡ tail ++ left → FaultView kind rest → ⊥
more_stand kind before [] tail rest left j some e f = absurd (omega (arith, some))
more_stand kind before (n ∷ more) tail rest left (first, others, u, j, m) some e f =
    let whole : rest ≡ first ++ (others ++ left) = e ∙ ap (λ (z : List ℕ). z ++ left) m ∙ append_assoc first others left in
    no_view n first (others ++ left) kind u (subst (λ (z : List ℕ). FaultView kind z) whole f)

no_run_fault : (section : List ℕ) (part : Contribution) (at : ℕ) (pairs : List ViewPair) (kind : Kind) (place : ℕ) → IsRunAt section part at pairs → FaultRun section part at (length pairs) kind place → ⊥
no_run_fault section part at pairs kind place h f =
    let size : length (numbers_of pairs) ≡ 2 * length pairs = twice pairs in
    let fewer : length f.before < 2 * length pairs = f.fewer in
    let whole : f.front ++ f.rest ≡ h.run ++ h.rest = sym f.whole ∙ h.whole in
    elim (joined_agree Uleb unique_u f.before (numbers_of pairs) f.front h.run f.rest h.rest f.spelled (spelled pairs h.run h.spelled) whole) [
      | inl g ↦
          let count : length (numbers_of pairs) ≡ length f.before + length g.more = ap length g.values ∙ length-append f.before g.more in
          let some : 0 < length g.more = omega arith in
          let left : f.rest ≡ g.tail ++ h.rest = append_cancel_left f.front f.rest (g.tail ++ h.rest) (whole ∙ ap (λ (z : List ℕ). z ++ h.rest) g.bytes ∙ append_assoc f.front g.tail h.rest) in
          more_stand kind f.before g.more g.tail f.rest h.rest g.spelled some left f.fault
      | inr g ↦
          let count : length f.before ≡ length (numbers_of pairs) + length g.more = ap length g.values ∙ length-append (numbers_of pairs) g.more in
          absurd (omega arith)
    ]

pub runs_whole : (section : List ℕ) (part : Contribution) (at : ℕ) (pairs : List ViewPair) → IsRunAt section part at pairs → ¬ IsFaulty (FaultRun section part at (length pairs))
runs_whole section part at pairs h = λ (f : IsFaulty (FaultRun section part at (length pairs))). no_run_fault section part at pairs f.0 f.1 h f.2

no_views_fault : (section : List ℕ) (part : Contribution) (at : ℕ) (pairs : List ViewPair) (kind : Kind) (place : ℕ) → IsRunAt section part at pairs → length pairs ≤ view_limit → FaultViews section part at (length pairs) kind place → ⊥
no_views_fault section part at pairs Limit place h few f = let many : view_limit < length pairs = f.1 in absurd (omega (arith, few, many))
no_views_fault section part at pairs kind place h few f = no_run_fault section part at pairs kind place h f

pub views_whole : (section : List ℕ) (part : Contribution) (at : ℕ) (pairs : List ViewPair) → IsRunAt section part at pairs → length pairs ≤ view_limit → ¬ IsFaulty (FaultViews section part at (length pairs))
views_whole section part at pairs h few = λ (f : IsFaulty (FaultViews section part at (length pairs))). no_views_fault section part at pairs f.0 f.1 h few f.2
