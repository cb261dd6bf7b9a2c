use Rattle.std.proofs.Common.{◌≡◌, ◌∙◌, ℕ, List, length, sym, ap, subst}
use Rattle.tidy_places.specs.Firsts.{IsLeastFound}
use Rattle.tidy_lists.specs.inside.LooseBytes.{IsGap, EndBy, AreTaken, section_end}
use Rattle.tidy_lists.proofs.LooseParts.{first_loose}
use Rattle.tidy_lists.proofs.loose.first_loose_byte.Goals as goal

pub first_gap-requires-clause-within : goal.first_gap-requires-clause-within
first_gap-requires-clause-within c =
    let (reach, is) = c.requires.after in
    let taken = c.in_ok-spans.ensures.those is.r is.read is.holds in
    let same : section_end c.args.kind is.r ≡ length c.lists_section.result.now = ap (λ (z : List ℕ). length z) (is.holds.sections c.args.kind ∙ sym c.lists_section.ensures) in
    subst (λ (z : List (ℕ × ℕ)). EndBy (length c.lists_section.result.now) z) (sym c.deref.ensures.value) (subst (λ (z : ℕ). EndBy z c.in_ok-spans.spans.items) same taken.within)

pub returns : goal.returns
returns c = λ r s read holds also held.
    let spans : List (ℕ × ℕ) = c.deref.result.now in
    let taken : AreTaken c.args.kind s spans = subst (λ (z : List (ℕ × ℕ)). AreTaken c.args.kind s z) (sym c.deref.ensures.value) (c.in_ok-spans.ensures.those s also held) in
    let same : length c.lists_section.result.now ≡ section_end c.args.kind s = ap (λ (z : List ℕ). length z) (c.lists_section.ensures ∙ sym (held.sections c.args.kind)) in
    first_loose c.args.after.now.image s also c.args.kind spans taken c.first_gap.result (subst (λ (z : ℕ). IsLeastFound (IsGap spans z) c.first_gap.result) same c.first_gap.ensures)
