use Rattle.std.proofs.Common.{◌≡◌, ◌<◌, ◌∙◌, ℕ, List, length, get_or, sym, ap, subst}
use Rattle.std.proofs.lemmas.List.{get_or_default}
use Rattle.list_model.specs.declared.context.Context.{Context}
use Rattle.value_links.specs.Reading.{Reading, no_context}
use Rattle.value_links.specs.World.{World, Holds}
use Rattle.value_links.specs.inside.World.{IsHeldIn}
use Rattle.value_links.proofs.HeldLinks.{contexts_counted}
use Rattle.value_links.proofs.world.World.context.Goals as goal

pub index-requires : goal.index-requires
index-requires c =
    let world : World = c.args.self.now in
    let held : IsHeldIn world.image c.self.inside.parts world = subst (λ (w : World). IsHeldIn w.image c.self.inside.parts w) c.self.view_is c.self.invariant in
    let counted : length c.self.inside.parts.contexts.items ≡ length world.units = ap (λ (w : World). length w.contexts) c.self.view_is ∙ contexts_counted world held.reach held.is in
    subst (λ (n : ℕ). c.args.unit < n) (sym (c.self.inside.parts.contexts.ok.0 ∙ counted)) c.requires

pub returns : goal.returns
returns c = λ (file : List ℕ) (r : Reading) (holds : Holds file c.args.self.now r).
    let world : World = c.args.self.now in
    let held : IsHeldIn world.image c.self.inside.parts world = subst (λ (w : World). IsHeldIn w.image c.self.inside.parts w) c.self.view_is c.self.invariant in
    let contexts : c.self.inside.parts.contexts.items ≡ world.contexts = ap (λ (w : World). w.contexts) c.self.view_is in
    let inside : c.args.unit < length c.self.inside.parts.contexts.items = subst (λ (n : ℕ). c.args.unit < n) (sym (ap length contexts ∙ contexts_counted world held.reach held.is)) c.requires in
    c.index.ensures
    ∙ get_or_default c.self.inside.parts.contexts.items c.args.unit c.index.result.now no_context inside
    ∙ ap (λ (z : List Context). get_or z c.args.unit no_context) (contexts ∙ holds.contexts)
