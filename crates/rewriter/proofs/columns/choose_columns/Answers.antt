use Rattle.std.proofs.Common.{◌≡◌, ◌∙◌, List, length, sym, ap, subst, refl}
use Rattle.abbrev_tables.specs.declared.decl.Spec.{Spec}
use Rattle.rewriter.specs.declared.inside_columns.Seen.{Seen}
use Rattle.rewriter.specs.inside.Columns.{AreInside, AreSeen, meanings_of_units}
use Rattle.rewriter.proofs.ColumnsSeen.{seen_as, none_taken}
use Rattle.rewriter.proofs.columns.choose_columns.Goals.{then-has_section_refs+in_ok-seen, else-has_section_refs}
use Rattle.rewriter.proofs.columns.choose_columns.Goals as goal

pub take_inside-requires : goal.take_inside-requires
take_inside-requires c =
    ap length c.deref-then-has_section_refs.ensures.value ∙ c.in_ok-seen.ensures.size ∙ sym (c.in_ok-columns.ensures c.requires.named.0 c.requires.named.1).count

pub returns : goal.returns
returns c = λ section are.
    let best : List Spec = c.in_ok-columns.columns.items in
    let are_best = c.in_ok-columns.ensures section are in
    let specs : List Spec = c.args.table.now.specs in
    let meanings = meanings_of_units c.args.units.now.items c.args.table.now.decls c.args.named.now.items in
    record {
      best = best;
      are = are_best;
      inside = elim c.if-has_section_refs.branch [
        | then-has_section_refs+in_ok-seen w ↦
            let listed = seen_as (length specs) (length best) meanings meanings w.in_ok-seen.seen.items (sym are_best.count) (λ k. refl) w.in_ok-seen.ensures in
            let seen = subst (λ (z : List Seen). AreSeen (length best) meanings z) (sym w.deref-then-has_section_refs.ensures.value) listed in
            subst (λ (z : List Spec). AreInside meanings best z) (sym (ap (λ columns. columns.items) w.columns-is)) (w.take_inside.ensures meanings seen)
        | else-has_section_refs w ↦
            let listed : c.deref.result.now ≡ best = c.deref.ensures.value in
            let none = none_taken meanings c.deref.result.now (c.has_section_refs.ensures w.if-has_section_refs.false) in
            let still = subst (λ (z : List Spec). AreInside meanings z z) listed none in
            subst (λ (z : List Spec). AreInside meanings best z) (sym (ap (λ columns. columns.items) w.columns-is)) still
      ];
    }
