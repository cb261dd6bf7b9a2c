use Rattle.std.proofs.Common.{◌≡◌, ◌∙◌, ℕ, List, ap, subst}
use Rattle.list_lookup.specs.Maps.{AreMapsFor}
use Rattle.value_links.specs.Sections.{body_named, debug_addr}
use Rattle.check_records.proofs.refused.Judge.of.Goals as goal

pub new-requires-clause-addr : goal.new-requires-clause-addr
new-requires-clause-addr c = c.section-addr.ensures ∙ ap (λ (z : List ℕ). body_named c.args.written.now.image z) c.as_slice.ensures

pub returns : goal.returns
returns c =
    let addr : c.section-addr.result.now ≡ debug_addr c.args.written.now.image = c.section-addr.ensures ∙ ap (λ (z : List ℕ). body_named c.args.written.now.image z) c.as_slice.ensures in
    record {
      maps = subst (λ (z : List ℕ). AreMapsFor c.args.written.now z c.in_ok-new.field-0) addr c.in_ok-new.ensures;
      owned = c.in_ok-owned_lists.ensures;
    }
