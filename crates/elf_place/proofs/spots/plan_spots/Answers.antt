use Rattle.std.proofs.Common.{◌≡◌, ◌+◌, ◌++◌, ◌∙◌, ℕ, List, ◌∷◌, [], length, get_or, take, map, ap, subst, sym, arith}
use Rattle.std.proofs.lemmas.List.{map_push, map_more}
use Rattle.elf_sections.specs.Elf.{fixed_end_of}
use Rattle.elf_place.specs.Bodies.{body_after}
use Rattle.elf_place.specs.inside.Spots.{IsChain, IsSpot}
use Rattle.elf_place.specs.declared.spots.Spot.{Spot}
use Rattle.elf_place.proofs.Chains.{IsChain-push}
use Rattle.elf_place.proofs.spots.plan_spots.Goals as goal

pub next_multiple-at-requires-clause-low : goal.next_multiple-at-requires-clause-low
next_multiple-at-requires-clause-low c = omega (arith, c.loop-section.invariant.low)

pub overflow_add-end : goal.overflow_add-end
overflow_add-end c =
    let room = c.requires.inside c.loop-section.section-index (0, 0) c.loop-section-test.true in
    let small = rw (← c.body_of.ensures) at room.small in
    record { fits = omega (arith, c.loop-section.invariant.low, small) }

pub loop-section-preserved : goal.loop-section-preserved
loop-section-preserved c =
    let image = c.args.image.now in
    let bytes = body_after image c.args.bodies.now in
    let order = c.args.order.now in
    let n = c.loop-section.section-index in
    let section : ℕ = (get_or order n (0, 0)).1 in
    let spots = c.loop-section.spots.items in
    let before = c.loop-section.invariant in
    let at = c.next_multiple-at.result in
    let len = length c.body_of.result.now in
    let spot : Spot = record { section = section; at = at; len = len } in
    let room = c.requires.inside n (0, 0) c.loop-section-test.true in
    let small = rw (← c.body_of.ensures) at room.small in
    let place = rw c.section.ensures at c.next_multiple-at.ensures.next in
    let here : IsSpot image bytes c.loop-section.end spot = record { place = place; size = ap (λ (b : List ℕ). length b) c.body_of.ensures } in
    let items : c.push.new.self.items ≡ spots ++ spot ∷ [] = c.in_ok-push.ensures.items in
    let chain : IsChain image bytes (fixed_end_of image) (spots ++ spot ∷ []) (at + len) = IsChain-push image bytes (fixed_end_of image) spots c.loop-section.end spot before.chain here in
    let sections : map (λ (s : Spot). s.section) (spots ++ spot ∷ []) ≡ map (λ (p : ℕ × ℕ). p.1) (take (n + 1) order) =
    map_push (λ (s : Spot). s.section) spots spot ∙ ap (λ (numbers : List ℕ). numbers ++ section ∷ []) before.sections ∙ sym (map_more (λ (p : ℕ × ℕ). p.1) order n (0, 0) c.loop-section-test.true) in
    record {
      low = omega (arith, before.low, small);
      chain = subst (λ (all : List Spot). IsChain image bytes (fixed_end_of image) all (at + len)) (sym items) chain;
      sections = ap (λ (all : List Spot). map (λ (s : Spot). s.section) all) items ∙ sections;
    }

pub returns-clause-end : goal.returns-clause-end
returns-clause-end c = omega (arith, c.loop-section.invariant.low)
