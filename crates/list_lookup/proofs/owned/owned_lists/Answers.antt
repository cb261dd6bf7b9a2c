use Rattle.std.proofs.Common.{◌≡◌, ◌<◌, ◌+◌, ◌∙◌, ℕ, List, length, get_or, sym, ap, subst, arith}
use Rattle.std.specs.Prelude.{Option}
use Rattle.list_arena.specs.Held.{HeldList}
use Rattle.list_lookup.specs.declared.owned.Owned.{Owned}
use Rattle.list_lookup.specs.Owned.{AreAllOwned}
use Rattle.list_lookup.proofs.OwnedLists.{owner_held, owned_none, owned_one}
use Rattle.list_lookup.proofs.owned.owned_lists.Goals as goal
use Rattle.list_lookup.proofs.owned.owned_lists.Goals.{in-Some+in_ok-push, in_default}

-- the owner of a list as it is looked up
looked_up : (held all : List HeldList) (k : ℕ) (owner : Option ℕ) → all ≡ held → ((d : HeldList) → owner ≡ (get_or all k d).owner) → (d : HeldList) → owner ≡ (get_or held k d).owner
looked_up held all k owner same told d = told d ∙ ap (λ (z : List HeldList). (get_or z k d).owner) same

pub index_mut-requires : goal.index_mut-requires
index_mut-requires c =
    let world = c.args.world.now in
    let n : ℕ = c.loop-number.number in
    let inside : n < length world.locations = omega (arith, ap (λ (z : List HeldList). length z) c.lists-lists.ensures.lists) in
    let here = looked_up world.locations c.lists-lists.result.now n c.owner.result c.lists-lists.ensures.lists c.owner.ensures in
    let known = owner_held world c.requires.world.0 c.requires.world.1 n c.in-Some.unit inside (λ d. sym (here d) ∙ c.in-Some.is) in
    omega (arith, known, c.loop-number.invariant.units)

pub loop-number-preserved : goal.loop-number-preserved
loop-number-preserved c =
    let world = c.args.world.now in
    let n : ℕ = c.loop-number.number in
    let inside : n < length world.locations = omega (arith, ap (λ (z : List HeldList). length z) c.lists-lists.ensures.lists) in
    let here = looked_up world.locations c.lists-lists.result.now n c.owner.result c.lists-lists.ensures.lists c.owner.ensures in
    elim c.match-owner.branch [
      | in-Some+in_ok-push w ↦
          let u : ℕ = w.in-Some.unit in
          let known : u < length c.loop-number.all.items = omega (arith, owner_held world c.requires.world.0 c.requires.world.1 n u inside (λ d. sym (here d) ∙ w.in-Some.is), c.loop-number.invariant.units) in
          let old : w.index_mut.result.now ≡ get_or c.loop-number.all.items u w.index_mut.result.now = w.index_mut.ensures.value in
          subst (λ (z : List Owned). AreAllOwned world (n + 1) z) (sym (ap (λ v. v.items) w.all-is)) (owned_one world n c.owner.result here c.loop-number.all.items c.loop-number.invariant u w.index_mut.result.now (record { lists = w.push.new.self }) w.in-Some.is known old w.in_ok-push.ensures.items)
      | in_default w ↦
          subst (λ (z : List Owned). AreAllOwned world (n + 1) z) (sym (ap (λ v. v.items) w.all-is)) (owned_none world n c.owner.result here c.loop-number.all.items c.loop-number.invariant w.in_default.not-Some)
    ]

pub returns : goal.returns
returns c =
    let past = c.loop-number-test.false in
    let most = c.loop-number.auto.number-end in
    let all : c.loop-number.number ≡ length c.args.world.now.locations = omega (arith, past, most, ap (λ (z : List HeldList). length z) c.lists-lists.ensures.lists) in
    subst (λ (z : ℕ). AreAllOwned c.args.world.now z c.loop-number.all.items) all c.loop-number.invariant
