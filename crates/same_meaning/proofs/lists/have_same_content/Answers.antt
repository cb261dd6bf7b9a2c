use Rattle.std.proofs.Common.{◌≡◌, ◌∙◌, List, sym, ap, subst}
use Rattle.std.specs.Prelude.{◌↔◌, IsTrue}
use Rattle.list_model.specs.declared.entry.RawEntry.{RawEntry}
use Rattle.list_model.specs.declared.item.Item.{Item}
use Rattle.list_model.specs.declared.item.Meaning.TheVariants.{Live}
use Rattle.same_meaning.specs.inside.Lists.{AreSameEntries}
use Rattle.same_meaning.proofs.ListItems.{items_decide, entries_decide}
use Rattle.same_meaning.proofs.lists.have_same_content.Goals as goal

pub returns-in-Live-Live : goal.returns-in-Live-Live
returns-in-Live-Live c = λ kind content other.
    items_decide kind c.args.before.now c.args.after.now c.have_same_bounds.result c.as_slice.result.now c.as_slice-in-Live-Live.result.now
    (sym c.meaning.ensures ∙ c.in-Live-Live.is-0 ∙ ap (λ (z : List Item). Live z) (sym c.as_slice.ensures)) (sym c.meaning-2.ensures ∙ c.in-Live-Live.is-1 ∙ ap (λ (z : List Item). Live z) (sym c.as_slice-in-Live-Live.ensures))
    c.have_same_bounds.ensures content other

pub returns-in-Dead-Dead : goal.returns-in-Dead-Dead
returns-in-Dead-Dead c = λ kind content other.
    let old = c.args.before.now in
    let new = c.args.after.now in
    let first : c.deref.result.now ≡ old.raw = c.deref.ensures.value ∙ c.entries.ensures in
    let second : c.deref-in-Dead-Dead.result.now ≡ new.raw = c.deref-in-Dead-Dead.ensures.value ∙ c.entries-in-Dead-Dead.ensures in
    let decides : IsTrue c.have_same_entries.result ↔ AreSameEntries old.raw new.raw =
    subst (λ (z : List RawEntry). IsTrue c.have_same_entries.result ↔ AreSameEntries z new.raw) first
    (subst (λ (z : List RawEntry). IsTrue c.have_same_entries.result ↔ AreSameEntries c.deref.result.now z) second c.have_same_entries.ensures) in
    entries_decide kind old new c.have_same_entries.result (sym c.meaning.ensures ∙ c.in-Dead-Dead.is-0) (sym c.meaning-2.ensures ∙ c.in-Dead-Dead.is-1) decides content other
