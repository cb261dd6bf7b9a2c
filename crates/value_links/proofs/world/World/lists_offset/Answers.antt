use Rattle.std.proofs.Common.{◌≡◌, ◌+◌, ◌∙◌, ℕ, List, length, ap, arith}
use Rattle.value_links.specs.Sections.{offset_named, debug_lists, lists_name}
use Rattle.value_links.specs.World.{World}
use Rattle.value_links.proofs.world.World.lists_offset.Goals as goal

pub overflow_add-result : goal.overflow_add-result
overflow_add-result c =
    let file : c.whole.result.now ≡ c.args.self.now.image = c.whole.ensures.bytes ∙ ap (λ (w : World). w.image) c.self.view_is in
    let size : length c.lists_section.result.bytes.now ≡ length (debug_lists c.args.self.now.image c.args.kind) = ap (λ (z : List ℕ). length z) (c.lists_section.ensures.bytes ∙ ap (λ (z : List ℕ). debug_lists z c.args.kind) file) in
    record { fits = omega (arith, c.lists_section.ensures.room, size, c.requires) }

pub returns : goal.returns
returns c =
    let file : c.whole.result.now ≡ c.args.self.now.image = c.whole.ensures.bytes ∙ ap (λ (w : World). w.image) c.self.view_is in
    ap (λ (n : ℕ). n + c.args.place) (c.lists_section.ensures.origin ∙ ap (λ (z : List ℕ). offset_named z (lists_name c.args.kind)) file)
