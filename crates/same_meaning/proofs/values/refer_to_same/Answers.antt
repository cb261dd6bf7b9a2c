use Rattle.std.proofs.Common.{◌≡◌, ◌≢◌, ◌∙◌, sym, subst, true≢false}
use Rattle.std.specs.Prelude.{◌↔◌, Bool, false, IsTrue}
use Rattle.same_meaning.specs.inside.Compared.{OfBoth, MeanOne}
use Rattle.same_meaning.specs.inside.Values.{MeansHeld}
use Rattle.value_links.specs.declared.link.Link.TheVariants.{Plain, List as AtList, Slot, Views}
use Rattle.same_meaning.proofs.LinkComparisons.{if_ok, both_ways, same_direct}
use Rattle.same_meaning.proofs.ReferredMeanings.{meant_at, links_mean, told_mean, plain_mean, other_mean, value_lies_in}
use Rattle.same_meaning.proofs.values.refer_to_same.Goals as goal

pub are_same_plain-requires-clause-first : goal.are_same_plain-requires-clause-first
are_same_plain-requires-clause-first c = value_lies_in c.args.before.now c.requires.before c.args.at.unit c.args.at.id c.args.at.name c.args.old.now c.requires.first

pub are_same_plain-requires-clause-second : goal.are_same_plain-requires-clause-second
are_same_plain-requires-clause-second c = value_lies_in c.args.after.now c.requires.after c.args.at.unit c.args.at.id c.args.at.name c.args.new.now c.requires.second

pub returns-then-is_same-clause-same : goal.returns-then-is_same-clause-same
returns-then-is_same-clause-same c =
    let is : c.link_of-second.result ≡ Plain = sym (c.are_same_links-is_same.ensures.0 c.if-is_same.true) ∙ c.in-Plain.is in
    links_mean c.args.before.now c.args.after.now c.args.at.unit c.args.at.id c.args.at.name c.args.old.now c.args.new.now Plain c.link_of-second.result c.are_same_plain.result c.in-Plain.ensures.told c.link_of-second.ensures.told (plain_mean c.args.before.now c.args.after.now c.args.at.unit c.args.old.now c.args.new.now c.link_of-second.result c.are_same_plain.result is c.are_same_plain.ensures)

pub returns-else-is_same-clause-same : goal.returns-else-is_same-clause-same
returns-else-is_same-clause-same c =
    let none : c.link_of-second.result ≢ Plain = λ plain. true≢false (sym (c.are_same_links-is_same.ensures.1 (c.in-Plain.is ∙ sym plain)) ∙ c.if-is_same.false) in
    let all = links_mean c.args.before.now c.args.after.now c.args.at.unit c.args.at.id c.args.at.name c.args.old.now c.args.new.now Plain c.link_of-second.result false c.in-Plain.ensures.told c.link_of-second.ensures.told (other_mean c.args.before.now c.args.after.now c.args.at.unit c.args.old.now c.args.new.now c.link_of-second.result none) in
    subst (λ (z : Bool). OfBoth c.args.before.now c.args.after.now (λ r s. IsTrue z ↔ MeanOne (MeansHeld r c.args.at.unit c.args.at.id c.args.at.name c.args.old.now) (MeansHeld s c.args.at.unit c.args.at.id c.args.at.name c.args.new.now))) (sym c.if-is_same.false) all

pub returns-in-List-clause-same : goal.returns-in-List-clause-same
returns-in-List-clause-same c =
    if_ok _ _ c.name_same_list.result (λ same tell. told_mean c.args.before.now c.args.after.now c.args.at.unit c.args.at.id c.args.at.name c.args.old.now c.args.new.now (AtList c.in-List.kind c.in-List.place) c.link_of-second.result same c.in-List.ensures.told c.link_of-second.ensures.told tell) c.name_same_list.ensures.same

pub returns-in-Slot-clause-same : goal.returns-in-Slot-clause-same
returns-in-Slot-clause-same c =
    if_ok _ _ c.name_same_slot.result (λ same tell. told_mean c.args.before.now c.args.after.now c.args.at.unit c.args.at.id c.args.at.name c.args.old.now c.args.new.now (Slot c.in-Slot.kind c.in-Slot.part c.in-Slot.slot) c.link_of-second.result same c.in-Slot.ensures.told c.link_of-second.ensures.told tell) c.name_same_slot.ensures.same

pub returns-in-Views-clause-same : goal.returns-in-Views-clause-same
returns-in-Views-clause-same c =
    told_mean c.args.before.now c.args.after.now c.args.at.unit c.args.at.id c.args.at.name c.args.old.now c.args.new.now (Views c.in-Views.list c.in-Views.place) c.link_of-second.result c.name_same_pairs.result c.in-Views.ensures.told c.link_of-second.ensures.told c.name_same_pairs.ensures

pub returns-in_default-clause-same : goal.returns-in_default-clause-same
returns-in_default-clause-same c =
    links_mean c.args.before.now c.args.after.now c.args.at.unit c.args.at.id c.args.at.name c.args.old.now c.args.new.now c.link_of-first.result c.link_of-second.result c.are_same_links-is_same.result c.link_of-first.ensures.told c.link_of-second.ensures.told
    (λ r s read holds also held. both_ways c.are_same_links-is_same.ensures (same_direct r s (meant_at r c.args.at.unit c.args.old.now) (meant_at s c.args.at.unit c.args.new.now) c.link_of-first.result c.link_of-second.result (record { plain = c.in_default.not-Plain; list = c.in_default.not-List; slot = c.in_default.not-Slot; views = c.in_default.not-Views })))
