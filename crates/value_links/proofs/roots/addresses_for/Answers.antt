use Rattle.std.proofs.Common.{◌≤◌, ◌<◌, ℕ, List, length, sym, subst, arith}
use Rattle.std.proofs.lemmas.Bool.{ltb-false}
use Rattle.list_model.specs.declared.context.Context.{Context}
use Rattle.value_links.specs.Reading.{Linkable}
use Rattle.value_links.specs.Parts.{HoldsParts}
use Rattle.std.specs.Prelude.{slice_index_or, ◌≡◌}
use Rattle.value_links.proofs.RootAddresses.{has_context, context_is}
use Rattle.value_links.proofs.roots.addresses_for.Goals as goal

pub returns-in_err-get : goal.returns-in_err-get
returns-in_err-get c = λ (file : List ℕ) (r : Linkable) (holds : HoldsParts file r c.args.parts.now).
    let inside : c.args.number < length c.args.parts.now.contexts.items = has_context file r c.args.parts.now holds c.args.number c.requires in
    let here : c.args.number < length c.deref.result.now = subst (λ (z : List Context). c.args.number < length z) (sym c.deref.ensures.value) inside in
    let past : length c.deref.result.now ≤ c.args.number = ltb-false c.args.number (length c.deref.result.now) (sym c.in_err-get.ensures.lookup.0) in
    absurd (omega arith)

pub returns : goal.returns
returns c = λ (file : List ℕ) (r : Linkable) (holds : HoldsParts file r c.args.parts.now).
    let context = c.in_ok-get.field-0.now in
    let same : context ≡ slice_index_or c.args.parts.now.contexts.items c.args.number context = subst (λ (z : List Context). context ≡ slice_index_or z c.args.number context) c.deref.ensures.value c.in_ok-get.ensures.lookup.1 in
    context_is file r c.args.parts.now holds c.args.number c.requires context same
