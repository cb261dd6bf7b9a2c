use Rattle.std.proofs.Common.{◌≡◌, ◌+◌, ◌++◌, ◌∙◌, ℕ, List, ◌∷◌, length, get_or, drop, ap, subst, sym}
use Rattle.std.proofs.lemmas.List.{drop_more}
use Rattle.elf_place.specs.Bodies.{body_after}
use Rattle.elf_place.specs.inside.Spots.{IsChain, filled, laid}
use Rattle.elf_place.specs.declared.spots.Spot.{Spot}
use Rattle.elf_place.proofs.Chains.{length-next}
use Rattle.elf_place.proofs.placing.push_bodies.Goals as goal

pub loop-spot-preserved : goal.loop-spot-preserved
loop-spot-preserved c =
    let image = c.args.image.now in
    let bytes = body_after image c.args.bodies.now in
    let spots = c.args.spots.now in
    let n = c.loop-spot.spot-index in
    let none : Spot = record { section = 0; at = 0; len = 0 } in
    let spot = get_or spots n none in
    let rest = drop (n + 1) spots in
    let out = c.loop-spot.out.items in
    let before = c.loop-spot.invariant in
    let step : drop n spots ≡ spot ∷ rest = drop_more spots n none c.loop-spot-test.true in
    let items : c.extend_from_slice.new.self.items ≡ filled out spot.at ++ bytes spot.section = c.in_ok-extend_from_slice.ensures.items ∙ ap (λ (o : List ℕ). o ++ c.body_of.result.now) c.in_ok-fill.ensures ∙ ap (λ (b : List ℕ). filled out spot.at ++ b) c.body_of.ensures in
    let chain : IsChain image bytes (length out) (spot ∷ rest) before.chain.0 = subst (λ (all : List Spot). IsChain image bytes (length out) all before.chain.0) step before.chain.1 in
    let size : length c.extend_from_slice.new.self.items ≡ spot.at + spot.len = ap (λ (o : List ℕ). length o) items ∙ length-next image bytes out spot chain.0 in
    record {
      chain = (before.chain.0, subst (λ (start : ℕ). IsChain image bytes start rest before.chain.0) (sym size) chain.1);
      made = ap (λ (o : List ℕ). laid bytes o rest) items ∙ sym (ap (laid bytes out) step) ∙ before.made;
    }
