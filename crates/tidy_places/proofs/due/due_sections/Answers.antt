use Rattle.std.proofs.Common.{◌≡◌, ◌≤◌, ◌<◌, ◌+◌, ◌^◌, ◌∙◌, ◌++◌, ◌∷◌, [], ℕ, List, length, map, take, get_or, ap, subst, sym, arith}
use Rattle.std.specs.Prelude.{slice_index_or}
use Rattle.std.specs.List.{Contains}
use Rattle.std.proofs.lemmas.List.{map_push, map_more}
use Rattle.std.proofs.lemmas.List.{take_all}
use Rattle.elf_sections.specs.Elf.{section_count, align_of, size_of, body_span, fixed_end_of}
use Rattle.elf_place.specs.Layout.{IsMovingOrder, IsNextMultiple}
use Rattle.tidy_places.specs.declared.due.Due.{Due}
use Rattle.tidy_places.specs.inside.Chains.{AreDue, IsDueBehind, due_at, numbers_of}
use Rattle.tidy_places.proofs.DuePlaces.{due_push}
use Rattle.tidy_places.proofs.MovableParts.{member_at, due_member, body_len, lies_inside, few, alike}
use Rattle.tidy_places.proofs.due.due_sections.Goals as goal

-- at the end these are all
all_numbers : (c : goal.After-drop-order-2) → numbers_of c.loop-section.sections.items ≡ map (λ (place : ℕ × ℕ). place.1) c.in_ok-order.order.items
all_numbers c =
    c.loop-section.invariant.numbers
    ∙ ap (λ (places : List (ℕ × ℕ)). map (λ (place : ℕ × ℕ). place.1) places) (take_all c.loop-section.section-index c.deref-section-items.result.now (omega (arith, c.loop-section-test.false)) ∙ c.deref-section-items.ensures.value)

pub section-requires : goal.section-requires
section-requires c =
    let order = c.in_ok-order.order.items in
    let k = c.loop-section.section-index in
    let inside : k < length order = rw c.deref-section-items.ensures.value at c.loop-section-test.true in
    let moves = (c.in_ok-order.ensures.order.movable (slice_index_or order k (0, 0)).1).0 (member_at order k inside) in
    rw c.deref-section-items.ensures.value moves.0

pub next_multiple-at-requires-clause-small : goal.next_multiple-at-requires-clause-small
next_multiple-at-requires-clause-small c =
    let order = c.in_ok-order.order.items in
    let k = c.loop-section.section-index in
    let inside : k < length order = rw c.deref-section-items.ensures.value at c.loop-section-test.true in
    let moves = (c.in_ok-order.ensures.order.movable (slice_index_or order k (0, 0)).1).0 (member_at order k inside) in
    let small = few c.args.before.now c.args.after.now c.requires c.whole-before.ensures.read c.whole-after.ensures.read (slice_index_or order k (0, 0)).1 moves.0 moves.1 in
    rw (c.section.ensures, c.deref-section-items.ensures.value) small

pub section-len-requires : goal.section-len-requires
section-len-requires c =
    let order = c.in_ok-order.order.items in
    let k = c.loop-section.section-index in
    let inside : k < length order = rw c.deref-section-items.ensures.value at c.loop-section-test.true in
    let moves = (c.in_ok-order.ensures.order.movable (slice_index_or order k (0, 0)).1).0 (member_at order k inside) in
    rw c.deref-section-items.ensures.value (let count : section_count c.args.after.now ≡ section_count c.args.before.now = c.requires.count in omega (arith, count, moves.0))

pub overflow_add-end : goal.overflow_add-end
overflow_add-end c =
    let order = c.in_ok-order.order.items in
    let k = c.loop-section.section-index in
    let inside : k < length order = rw c.deref-section-items.ensures.value at c.loop-section-test.true in
    let moves = (c.in_ok-order.ensures.order.movable (slice_index_or order k (0, 0)).1).0 (member_at order k inside) in
    let i : ℕ = (slice_index_or order k (0, 0)).1 in
    let file = c.args.before.now in
    let new = c.args.after.now in
    let room = lies_inside file new c.requires c.whole-before.ensures.read c.whole-after.ensures.read i moves.0 moves.1 in
    let here : c.section-len.result.body.len ≡ size_of new i = ap (λ (s : _). s.body.len) c.section-len.ensures ∙ ap (λ (all : List (ℕ × ℕ)). (body_span new (slice_index_or all k (0, 0)).1).len) c.deref-section-items.ensures.value ∙ body_len file new c.requires c.whole-before.ensures.read c.whole-after.ensures.read i moves.0 moves.1 in
    let long : length new ≤ 2 ^ 35 = c.whole-after.ensures.read.small.bytes in
    let few_sections : length order ≤ section_count file = c.in_ok-order.ensures.few in
    let count : section_count file ≤ 65279 = c.whole-before.ensures.read.small.sections in
    let low = c.loop-section.invariant.low in
    let near = c.next_multiple-at.ensures.near in
    record { fits = omega (arith, here, room, long, few_sections, count, low, near, inside) }

pub loop-section-preserved : goal.loop-section-preserved
loop-section-preserved c =
    let order = c.in_ok-order.order.items in
    let k = c.loop-section.section-index in
    let inside : k < length order = rw c.deref-section-items.ensures.value at c.loop-section-test.true in
    let moves = (c.in_ok-order.ensures.order.movable (slice_index_or order k (0, 0)).1).0 (member_at order k inside) in
    let i : ℕ = (slice_index_or order k (0, 0)).1 in
    let file = c.args.before.now in
    let new = c.args.after.now in
    let room = lies_inside file new c.requires c.whole-before.ensures.read c.whole-after.ensures.read i moves.0 moves.1 in
    let here : c.section-len.result.body.len ≡ size_of new i = ap (λ (s : _). s.body.len) c.section-len.ensures ∙ ap (λ (all : List (ℕ × ℕ)). (body_span new (slice_index_or all k (0, 0)).1).len) c.deref-section-items.ensures.value ∙ body_len file new c.requires c.whole-before.ensures.read c.whole-after.ensures.read i moves.0 moves.1 in
    let long : length new ≤ 2 ^ 35 = c.whole-after.ensures.read.small.bytes in
    let few_sections : length order ≤ section_count file = c.in_ok-order.ensures.few in
    let count : section_count file ≤ 65279 = c.whole-before.ensures.read.small.sections in
    let low = c.loop-section.invariant.low in
    let near = c.next_multiple-at.ensures.near in
    let at = c.next_multiple-at.result in
    let len = c.section-len.result.body.len in
    let due : Due = record { section = i; at = at; len = len } in
    let same : (get_or c.deref-section-items.result.now k (0, 0)).1 ≡ i = ap (λ (all : List (ℕ × ℕ)). (get_or all k (0, 0)).1) c.deref-section-items.ensures.value in
    let aligned : c.section.result.align ≡ align_of new i = ap (λ (s : _). s.align) c.section.ensures ∙ ap (align_of file) same ∙ sym (alike file new c.requires c.whole-before.ensures.read c.whole-after.ensures.read i moves.0 moves.1) in
    let behind : IsDueBehind new c.loop-section.end due = record { place = subst (λ (n : ℕ). IsNextMultiple c.loop-section.end n at) aligned c.next_multiple-at.ensures.next; size = here } in
    let items : c.push.new.self.items ≡ c.loop-section.sections.items ++ due ∷ [] = c.in_ok-push.ensures.items ∙ ap (λ (n : ℕ). c.loop-section.sections.items ++ (record { section = n; at = at; len = len }) ∷ []) same in
    let numbers : numbers_of (c.loop-section.sections.items ++ due ∷ []) ≡ map (λ (place : ℕ × ℕ). place.1) (take (k + 1) c.deref-section-items.result.now) =
    map_push (λ (d : Due). d.section) c.loop-section.sections.items due ∙ ap (λ (ns : List ℕ). ns ++ i ∷ []) c.loop-section.invariant.numbers ∙ ap (λ (n : ℕ). map (λ (place : ℕ × ℕ). place.1) (take k c.deref-section-items.result.now) ++ n ∷ []) (sym same) ∙ sym (map_more (λ (place : ℕ × ℕ). place.1) c.deref-section-items.result.now k (0, 0) c.loop-section-test.true) in
    record {
      low = omega (arith, here, room, long, low, near);
      due = subst (λ (all : List Due). AreDue new (fixed_end_of file) all (at + len)) (sym items) (due_push new (fixed_end_of file) c.loop-section.sections.items c.loop-section.end due c.loop-section.invariant.due behind);
      numbers = ap numbers_of items ∙ numbers;
    }

pub returns-clause-order : goal.returns-clause-order
returns-clause-order c = subst (λ (numbers : List ℕ). IsMovingOrder c.args.before.now numbers) (sym (all_numbers c)) c.in_ok-order.ensures.order

pub returns-clause-inside : goal.returns-clause-inside
returns-clause-inside c = λ k inside.
    let among = subst (λ (numbers : List ℕ). Contains numbers (due_at c.loop-section.sections.items k).section) (all_numbers c) (due_member c.loop-section.sections.items k inside) in
    let moves = (c.in_ok-order.ensures.order.movable (due_at c.loop-section.sections.items k).section).0 among in
    let count : section_count c.args.after.now ≡ section_count c.args.before.now = c.requires.count in
    omega (arith, count, moves.0)
