use Rattle.std.proofs.Common.{◌/◌, refl, sym, subst, arith}
use Rattle.std.proofs.Math.Nat.{div-eq_of_lt}
use Rattle.line_sums.specs.inside.Windows.{AreWindows}
use Rattle.line_sums.proofs.SpecialParts.{both_windows, wide_windows, last_windows}
use Rattle.line_sums.proofs.window.windows_for.Goals as goal

pub returns-then-range-gt-LAST_SPECIAL-clause-windows : goal.returns-then-range-gt-LAST_SPECIAL-clause-windows
returns-then-range-gt-LAST_SPECIAL-clause-windows c =
    subst (AreWindows c.args.range c.args.min c.args.distance) (sym c.one_kind.ensures) (last_windows c.args.range c.args.min c.args.distance _ c.requires.range (div-eq_of_lt (omega arith)) c.last_window.ensures.most c.last_window.ensures.address refl)

pub returns-then-wide-eq0-clause-windows : goal.returns-then-wide-eq0-clause-windows
returns-then-wide-eq0-clause-windows c =
    subst (AreWindows c.args.range c.args.min c.args.distance) (sym c.one_kind-then-wide-eq0.ensures) (wide_windows c.args.range c.args.min c.args.distance (242 / c.args.range) _ c.requires.range refl refl c.advance_before.ensures.least (λ n within. omega (arith, c.if-wide-eq0.true)) refl)

pub returns-then-wide-last-clause-windows : goal.returns-then-wide-last-clause-windows
returns-then-wide-last-clause-windows c =
    subst (AreWindows c.args.range c.args.min c.args.distance) (sym c.one_kind-then-wide-last.ensures) (wide_windows c.args.range c.args.min c.args.distance (242 / c.args.range) _ c.requires.range refl refl c.advance_before.ensures.least (λ n within. omega (arith, c.if-wide-last.true, c.last_window-last.ensures.address.least n within)) refl)

pub returns-clause-windows : goal.returns-clause-windows
returns-clause-windows c = both_windows c.args.range c.args.min c.args.distance (242 / c.args.range) _ refl c.requires.range refl refl c.advance_before.ensures.least c.last_window-last.ensures.most c.last_window-last.ensures.address
