use Rattle.std.proofs.Common.{◌≡◌, ◌∙◌, ◌+◌, ◌∷◌, ℕ, List, drop, sym, ap}
use Rattle.form_codec.specs.Forms.{Meaning}
use Rattle.form_codec.specs.Values.{meant_in}
use Rattle.entry_read.specs.Units.{declarations_of}
use Rattle.value_links.specs.Contexts.{address_by, first_base}
use Rattle.value_links.specs.inside.Checks.{root_attributes}
use Rattle.value_links.proofs.RootValues.{low_first}
use Rattle.value_links.proofs.ContextLaws.{table_stands}
use Rattle.value_links.proofs.contexts.context_of.Goals as goal

pub address_for-base-requires : goal.address_for-base-requires
address_for-base-requires c = table_stands c.args.addr.now (root_attributes c.args.unit.now.forest (declarations_of c.args.table.now)) c.addresses_of-addresses.result (c.addresses_of-addresses.ensures c.args.addr.now c.requires.tables)

pub returns-in-Some : goal.returns-in-Some
returns-in-Some c =
    let section : List ℕ = c.args.unit.now.forest.section in
    let attributes : List (ℕ × Meaning) = root_attributes c.args.unit.now.forest (declarations_of c.args.table.now) in
    let addr = c.args.addr.now in
    let table = c.addresses_of-addresses.result in
    let k = c.in-Some.column in
    let first = c.in-Some.ensures in
    let value = meant_in section c.root_attribute.result.1 in
    let same : first.attribute ∷ drop (k + 1) attributes ≡ (c.root_attribute.result.0, value) ∷ drop (k + 1) attributes = sym first.stands ∙ c.root_attribute.ensures in
    let here : first.attribute ≡ (c.root_attribute.result.0, value) = cc in
    record {
      table = c.addresses_of-addresses.ensures addr c.requires.tables;
      base = c.address_for-base.ensures section ∙ (ap (λ (z : ℕ × Meaning). address_by addr table z.1) (sym here) ∙ ap (first_base addr table) (sym (low_first attributes k first.attribute first.stands first.first first.is)));
    }
