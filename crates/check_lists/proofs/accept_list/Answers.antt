use Rattle.std.proofs.Common.{length, refl}
use Rattle.std.specs.Prelude.{map}
use Rattle.std.proofs.lemmas.Bool.{true≢false}
use Rattle.std.proofs.lemmas.List.{length-map}
use Rattle.list_least.specs.Plans.{bounds_of}
use Rattle.check_lists.specs.Refused.{IsFirstRefused}
use Rattle.check_lists.proofs.Verdicts.{never_both, refused_item, refused_size, accepted_all}
use Rattle.check_lists.proofs.accept_list.Goals as goal
use Rattle.check_lists.proofs.accept_list.Goals.{Then-found-items, Then-found-size}

-- a potential is refused
item : (c : Then-found-items) → IsFirstRefused c.args.addr.now c.args.context.now (map bounds_of c.args.items.now) c.args.potentials.now c.args.size c.in_ok-found.found.first
item c =
    let items = c.args.items.now in
    refused_item c.args.addr.now c.args.context.now (map bounds_of items) c.args.potentials.now (length items) c.in_ok-found.found.first c.in_ok-found.found.size (length-map items bounds_of) c.if-potentials-items.false c.in_ok-found.ensures.first c.in_ok-found.ensures.size c.args.size c.if-found-items.true

-- the size is refused
size : (c : Then-found-size) → IsFirstRefused c.args.addr.now c.args.context.now (map bounds_of c.args.items.now) c.args.potentials.now c.args.size (length c.args.items.now)
size c =
    let items = c.args.items.now in
    refused_size c.args.addr.now c.args.context.now (map bounds_of items) c.args.potentials.now (length items) c.in_ok-found.found.first c.in_ok-found.found.size (length-map items bounds_of) c.if-potentials-items.false c.in_ok-found.ensures.first c.in_ok-found.ensures.size c.args.size c.if-found-items.false c.if-found-size.true

pub returns-then-found-items-clause-first : goal.returns-then-found-items-clause-first
returns-then-found-items-clause-first c = let d = goal.at.returns-then-found-items-clause-first c in item d.Then-found-items

pub returns-then-found-items-clause-accepted : goal.returns-then-found-items-clause-accepted
returns-then-found-items-clause-accepted c =
    let d = goal.at.returns-then-found-items-clause-accepted c in (
      λ some. absurd (true≢false some),
      λ accepts. absurd (never_both c.args.addr.now c.args.context.now (map bounds_of c.args.items.now) c.args.potentials.now c.args.size c.in_ok-found.found.first (item d.Then-found-items) accepts),
    )

pub returns-then-found-size-clause-first : goal.returns-then-found-size-clause-first
returns-then-found-size-clause-first c = let d = goal.at.returns-then-found-size-clause-first c in size d.Then-found-size

pub returns-then-found-size-clause-accepted : goal.returns-then-found-size-clause-accepted
returns-then-found-size-clause-accepted c =
    let d = goal.at.returns-then-found-size-clause-accepted c in (
      λ some. absurd (true≢false some),
      λ accepts. absurd (never_both c.args.addr.now c.args.context.now (map bounds_of c.args.items.now) c.args.potentials.now c.args.size (length c.args.items.now) (size d.Then-found-size) accepts),
    )

pub returns-else-found-size-clause-accepted : goal.returns-else-found-size-clause-accepted
returns-else-found-size-clause-accepted c =
    let items = c.args.items.now in (
      λ none. accepted_all c.args.addr.now c.args.context.now (map bounds_of items) c.args.potentials.now (length items) c.in_ok-found.found.first c.in_ok-found.found.size (length-map items bounds_of) c.if-potentials-items.false c.in_ok-found.ensures.first c.in_ok-found.ensures.size c.args.size c.if-found-items.false c.if-found-size.false,
      λ accepts. refl,
    )
