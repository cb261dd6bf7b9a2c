use Rattle.std.proofs.Common.{◌≡◌, ◌<◌, ◌+◌, ◌∷◌, [], ℕ, List, length, get_or, subst, sym, arith}
use Rattle.std.proofs.lemmas.List.{length-append}
use Rattle.abbrev_tables.specs.declared.decl.Spec.{Spec}
use Rattle.abbrev_tables.specs.Listings.{spec_at}
use Rattle.std.specs.Prelude.{Option}
use Rattle.column_forms.specs.Tallies.{Tallying}
use Rattle.column_forms.specs.TableColumns.{tally_at}
use Rattle.column_forms.specs.inside.TableColumns.{IsBestOfTally}
use Rattle.column_forms.proofs.TableLaws.{best_more}
use Rattle.column_forms.proofs.tallies.Tallies.best.Goals as goal

pub loop-k-preserved : goal.loop-k-preserved
loop-k-preserved c =
    let news : List Spec = c.loop-k.best.items in
    let new : Spec = c.best_for.result in
    let inside : c.loop-k.k < length c.args.self.now = omega (arith, c.loop-k-test.true, c.requires) in
    let at = subst (λ (z : List (Option Tallying)). c.index.result.now ≡ get_or z c.loop-k.k c.index.result.now) c.self.view_is c.index.ensures in
    let more = best_more c.args.classes c.args.columns.now news c.loop-k.k c.args.self.now c.index.result.now new c.loop-k.invariant.long inside at c.loop-k.invariant.each c.best_for.ensures in
    record {
      long = rw c.in_ok-push.ensures.items (omega (arith, c.loop-k.invariant.long, length-append news (new ∷ [])));
      each = subst (λ (z : List Spec). (i : ℕ) → i < c.loop-k.k + 1 → IsBestOfTally c.args.classes (tally_at c.args.self.now i) (spec_at c.args.columns.now i) (spec_at z i)) (sym c.in_ok-push.ensures.items) more;
    }
