use Rattle.std.proofs.Common.{◌≡◌, ◌≢◌, ◌≤◌, ◌<◌, ◌+◌, ◌++◌, ◌∷◌, [], ℕ, List, length, take, sym, ap, subst, arith}
use Rattle.std.specs.List.{All}
use Rattle.std.proofs.lemmas.List.{length-append, length-take-le}
use Rattle.std.proofs.lemmas.List.Elements.{All-push}
use Rattle.std.proofs.lemmas.Result.{err_from_is_err_and}
use Rattle.list_model.specs.declared.entry.RawEntry.{RawEntry}
use Rattle.list_model.specs.Contributions.{part_end}
use Rattle.list_model.specs.Reading.{list_entry_limit}
use Rattle.range_lists.specs.Ranges.{IsRangeList, AreRangeEntries}
use Rattle.range_lists.proofs.RangeReads.{part_within, IsFront, no_front, front_push, front_known, front_list, front_fault, full_front}
use Rattle.range_lists.proofs.read.read_ranges.Goals as goal

pub loop-raws-init : goal.loop-raws-init
loop-raws-init c =
    let section = c.args.section.now in
    let part = c.args.part.now in
    let size : length (take (part_end part) section) ≡ part_end part = length-take-le (part_end part) section (part_within section part c.requires.part) in
    let none : length c.new-raws.result.items ≡ 0 = ap length c.new-raws.ensures.items in
    record {
      inside = subst (λ (z : ℕ). c.args.at ≤ z) (sym size) c.requires.inside;
      front = no_front (take (part_end part) section) c.args.at c.new-raws.result.items c.new-raws.ensures.items;
      few = omega (arith, none);
      places = λ k d inside. absurd (omega (arith, none, inside));
    }

pub returns-in_default-clause-entries : goal.returns-in_default-clause-entries
returns-in_default-clause-entries c =
    subst (λ (z : List RawEntry). IsRangeList c.args.section.now c.args.part.now c.args.at z) (sym c.shrink_to_fit.ensures.items)
    (front_list c.args.section.now c.args.part.now c.args.at c.loop-raws.place c.loop-raws.raws.items c.requires.inside c.loop-raws.invariant.front (rw c.in_default.is at c.in_ok-read.ensures.entry))

pub returns-in_default-clause-known : goal.returns-in_default-clause-known
returns-in_default-clause-known c =
    subst AreRangeEntries (sym c.shrink_to_fit.ensures.items)
    (front_known (take (part_end c.args.part.now) c.args.section.now) c.args.at c.loop-raws.place c.loop-raws.raws.items c.loop-raws.invariant.front)

pub returns-in_default-clause-whole : goal.returns-in_default-clause-whole
returns-in_default-clause-whole c =
    c.ranges_end.ensures.whole c.args.section.now c.args.part.now c.args.at c.args.reach c.loop-raws.raws.items
    (front_list c.args.section.now c.args.part.now c.args.at c.loop-raws.place c.loop-raws.raws.items c.requires.inside c.loop-raws.invariant.front (rw c.in_default.is at c.in_ok-read.ensures.entry))
    c.loop-raws.invariant.few

pub returns-in_err-read-clause-fault : goal.returns-in_err-read-clause-fault
returns-in_err-read-clause-fault c =
    let p = err_from_is_err_and c.from_residual.result c.from_residual.ensures.1 in
    rw (p.1, p.2) (front_fault c.args.section.now c.args.part.now c.args.at c.loop-raws.place c.args.origin c.args.reach c.loop-raws.raws.items c.in_err-read.field-0.0 c.requires.inside c.loop-raws.invariant.front c.in_err-read.ensures.fault)

pub returns-then-len-list_entry_limit-clause-fault :
    goal.returns-then-len-list_entry_limit-clause-fault
returns-then-len-list_entry_limit-clause-fault c =
    let full : length c.loop-raws.raws.items ≡ list_entry_limit c.args.reach = omega (arith, c.loop-raws.raws.ok.0, c.len.ensures, c.if-len-list_entry_limit.true, c.list_entry_limit.ensures) in
    full_front c.args.section.now c.args.part.now c.args.at c.loop-raws.place c.args.origin c.args.reach c.loop-raws.raws.items c.in-Some.read c.requires.inside c.loop-raws.invariant.inside c.loop-raws.invariant.front (rw c.in-Some.is at c.in_ok-read.ensures.entry) full

pub loop-raws-preserved : goal.loop-raws-preserved
loop-raws-preserved c =
    let section = c.args.section.now in
    let part = c.args.part.now in
    let bytes = take (part_end part) section in
    let raws = c.loop-raws.raws.items in
    let read = c.in-Some.read in
    let there = rw c.in-Some.is at c.in_ok-read.ensures.entry in
    let more = front_push bytes c.args.at c.loop-raws.place raws read c.loop-raws.invariant.inside c.loop-raws.invariant.front there in
    let same : c.push.new.raws.items ≡ raws ++ read.raw ∷ [] = c.in_ok-push.ensures in
    let few : length raws ≤ list_entry_limit c.args.reach = c.loop-raws.invariant.few in
    let count : length raws ≢ list_entry_limit c.args.reach = omega (arith, c.loop-raws.raws.ok.0, c.len.ensures, c.if-len-list_entry_limit.false, c.list_entry_limit.ensures) in
    let size : length (raws ++ read.raw ∷ []) ≡ length raws + 1 = length-append raws (read.raw ∷ []) in
    let long : length bytes ≡ part_end part = length-take-le (part_end part) section (part_within section part c.requires.part) in
    let within : part_end part ≤ length section = (part_within section part c.requires.part) in
    let place : read.raw.at ≡ c.loop-raws.place = there.place in
    let after : c.loop-raws.place < read.end = there.after in
    let inside : read.end ≤ length bytes = there.inside in
    record {
      inside = inside;
      front = subst (λ (z : List RawEntry). IsFront bytes c.args.at z read.end) (sym same) more;
      few = subst (λ (z : List RawEntry). length z ≤ list_entry_limit c.args.reach) (sym same) (omega (arith, few, count, size));
      places = subst (λ (z : List RawEntry). All (λ (raw : RawEntry). raw.at < length section) z) (sym same) (All-push (λ (raw : RawEntry). raw.at < length section) raws read.raw c.loop-raws.invariant.places (omega (arith, place, after, inside, long, within)));
    }
