use Rattle.std.proofs.Common.{◌≡◌, ◌++◌, ℕ, List, ◌∙◌, sym, ap}
use Rattle.std.proofs.lemmas.List.{append_assoc}
use Rattle.std.proofs.lemmas.Result.{on_ok_weaker}
use Rattle.form_codec.specs.declared.form.Width.TheVariants.{Four, Eight}
use Rattle.form_codec.specs.Written.{low_bytes}
use Rattle.unit_write.specs.inside.Puts.{own_bytes}
use Rattle.unit_write.proofs.write.put_own.Goals as goal

pub returns-in_ok-put_low-in-2-clause-ok : goal.returns-in_ok-put_low-in-2-clause-ok
returns-in_ok-put_low-in-2-clause-ok c =
    let out = c.args.out.now.items in
    let a : List ℕ = low_bytes Eight c.args.extra in
    let b : List ℕ = low_bytes Four c.args.type_offset in
    on_ok_weaker c.put_low-in-2.result (λ (e : c.put_low-in-2.new.out.items ≡ c.put_low.new.out.items ++ b).
    let own : own_bytes c.args.kind c.args.extra c.args.type_offset ≡ a ++ b = ap (λ (k : ℕ). own_bytes k c.args.extra c.args.type_offset) c.in-2.is in
    e ∙ ap (λ (z : List ℕ). z ++ b) c.in_ok-put_low-in-2.ensures.ok ∙ append_assoc out a b ∙ ap (λ (z : List ℕ). out ++ z) (sym own)) c.put_low-in-2.ensures.ok
