use Rattle.std.proofs.Common.{◌≡◌, List, ◌∙◌, ap, subst}
use Rattle.entry_arena.specs.declared.entry.ChainEnd.{ChainEnd}
use Rattle.entry_arena.specs.Arena.{Arena, IsChainEndAt, HasChainEnd}
use Rattle.entry_arena.specs.Order.{IsInOrder}
use Rattle.entry_arena.proofs.Found.{end_target}
use Rattle.entry_arena.proofs.forest.Forest.target_at.Goals as goal

-- the chain's end that was found is one of the forest's
found_here : (c : goal.In_ok-parent) → IsChainEndAt c.args.self.now c.in_ok-parent.parent c.args.offset
found_here c =
    let ends : c.deref-2.result.now ≡ c.args.self.now.ends = c.deref-2.ensures.value ∙ ap (λ f. f.ends) c.self.view_is in
    subst (λ (z : List ChainEnd). HasChainEnd z c.in_ok-parent.parent c.args.offset) ends c.in_ok-parent.ensures

pub returns-clause-chain_end : goal.returns-clause-chain_end
returns-clause-chain_end c =
    let order : IsInOrder c.args.self.now = subst (λ (f : Arena). IsInOrder f) c.self.view_is c.self.invariant.order in
    end_target c.args.self.now order c.in_ok-parent.parent c.args.offset (found_here c)

pub returns-clause-none : goal.returns-clause-none
returns-clause-none c = (λ e. cc, λ free. absurd ((free c.in_ok-parent.parent).1 (found_here c)))
