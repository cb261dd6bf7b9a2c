use Rattle.std.proofs.Common.{◌≡◌, ◌+◌, ◌∙◌, List, length, ap, arith, sym}
use Rattle.std.proofs.lemmas.List.{length-set, take_all, take_more_set}
use Rattle.form_codec.specs.declared.value.Value.{Value}
use Rattle.std.specs.Prelude.{◌++◌, ◌∷◌, [], slice_range}
use Rattle.entry_arena.specs.Arena.{Arena, value_at}
use Rattle.entry_arena.proofs.HeldValues.{row_more}
use Rattle.entry_arena.proofs.forest.Forest.write_over.Goals as goal

pub loop-place-preserved : goal.loop-place-preserved
loop-place-preserved c =
    let i = c.loop-place.invariant in
    let place = c.loop-place.place in
    let number = c.args.first + place in
    let more = row_more c.args.self.now.values c.args.first number (omega arith) (omega (arith, i.size, c.requires)) in
    let value : c.value.result ≡ value_at c.args.self.now.values number = c.value.ensures ∙ ap (λ (f : Arena). value_at f.values number) c.self.view_is in
    let next : number + 1 ≡ c.args.first + (place + 1) = omega arith in
    record {
      size = length-set c.loop-place.row.items place c.value.result ∙ i.size;
      written =
          take_more_set c.loop-place.row.items place c.value.result (omega arith)
          ∙ ap (λ (z : List Value). z ++ c.value.result ∷ []) i.written
          ∙ ap (λ (v : Value). slice_range c.args.self.now.values c.args.first number ++ v ∷ []) value
          ∙ sym more
          ∙ ap (λ n. slice_range c.args.self.now.values c.args.first n) next;
    }

pub returns : goal.returns
returns c =
    let i = c.loop-place.invariant in
    let end : c.args.first + c.loop-place.place ≡ c.args.first + length c.args.row.now.items = omega (arith, i.size) in
    sym (take_all c.loop-place.place c.loop-place.row.items (omega (arith, i.size)))
    ∙ i.written
    ∙ ap (λ n. slice_range c.args.self.now.values c.args.first n) end
