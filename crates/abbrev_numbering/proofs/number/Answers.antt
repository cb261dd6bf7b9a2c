use Rattle.std.proofs.Common.{◌≡◌, ◌<◌, ◌↔◌, ℕ, List, length, slice_index, sym, subst, arith, rules}
use Rattle.std.specs.List.Sorted.{IsPermutation, IsSorted}
use Rattle.std.proofs.lemmas.Result.{IfOk-weaker}
use Rattle.std.specs.Result.{IfOk}
use Rattle.leb_codec.specs.Numbering.{IsLeastNumbering, RiseByFallingUses, AreFirstNumbers, IsUsed}
use Rattle.abbrev_numbering.specs.inside.Order.{Used, used_among, AreNumbered, ArePlaces}
use Rattle.abbrev_numbering.proofs.Orders.{places, few_used, cmp_used}
use Rattle.abbrev_numbering.proofs.Numberings.{moved_by_sort, unused_alone, one_to_one, in_order, first_numbers, least_numbering}
use Rattle.abbrev_numbering.proofs.number.Goals as goal

moved : (c : goal.After-len) → IsPermutation (used_among c.args.uses.now.items (length c.args.uses.now.items)) c.deref-2.result.now
moved c = moved_by_sort c.args.uses.now.items c.deref.result.now c.in_ok-order.order.items c.sort_unstable.new.self.items c.deref-2.result.now c.deref.ensures.value c.in_ok-order.ensures c.sort_unstable.ensures.permutation c.deref-2.ensures.value

pub numbered-requires-clause-few : goal.numbered-requires-clause-few
numbered-requires-clause-few c =
    omega (arith, few_used c.args.uses.now.items c.deref-2.result.now (moved c))

pub numbered-requires-clause-places : goal.numbered-requires-clause-places
numbered-requires-clause-places c =
    let P : ℕ → Type 0 = λ n. ArePlaces c.deref-2.result.now n in
    let e : length c.args.uses.now.items ≡ c.len.result = search rules in
    subst P e (places c.args.uses.now.items c.deref-2.result.now (moved c))

moved_back : (c : goal.After-drop-order) → IsPermutation (used_among c.args.uses.now.items (length c.args.uses.now.items)) c.deref-2.result.now
moved_back c = moved_by_sort c.args.uses.now.items c.deref.result.now c.in_ok-order.order.items c.sort_unstable.new.self.items c.deref-2.result.now c.deref.ensures.value c.in_ok-order.ensures c.sort_unstable.ensures.permutation c.deref-2.ensures.value

in_sort : (c : goal.After-drop-order) → IsSorted cmp_used c.deref-2.result.now
in_sort c = let P : List Used → Type 0 = λ xs. IsSorted cmp_used xs in subst P (sym c.deref-2.ensures.value) c.sort_unstable.ensures.sorted

-- a fact of numbers in this order is one of the answer
each_answer : (c : goal.After-drop-order) (P : List ℕ → Type 0) → ((numbers : List ℕ) → AreNumbered c.deref-2.result.now (length c.args.uses.now.items) numbers → P numbers) → IfOk c.numbered.result (λ numbers. P numbers.items)
each_answer c P follows =
    let Q : ℕ → Type 0 = λ n. IfOk c.numbered.result (λ numbers. AreNumbered c.deref-2.result.now n numbers.items) in
    let e : c.len.result ≡ length c.args.uses.now.items = search rules in
    IfOk-weaker c.numbered.result (λ numbers. AreNumbered c.deref-2.result.now (length c.args.uses.now.items) numbers.items) (λ numbers. P numbers.items) (λ numbers are. follows numbers.items are) (subst Q e c.numbered.ensures)

pub returns-clause-unused : goal.returns-clause-unused
returns-clause-unused c =
    let uses : List ℕ = c.args.uses.now.items in
    each_answer c (λ numbers. (i : ℕ) → i < length uses → (slice_index numbers i ≡ 0) ↔ (slice_index uses i ≡ 0))
    (unused_alone uses c.deref-2.result.now (moved_back c) (in_sort c))

pub returns-clause-one_to_one : goal.returns-clause-one_to_one
returns-clause-one_to_one c =
    let uses : List ℕ = c.args.uses.now.items in
    each_answer c (λ numbers. (i j : ℕ) → IsUsed uses i → IsUsed uses j → slice_index numbers i ≡ slice_index numbers j → i ≡ j)
    (one_to_one uses c.deref-2.result.now (moved_back c) (in_sort c))

pub returns-clause-order : goal.returns-clause-order
returns-clause-order c =
    each_answer c (RiseByFallingUses c.args.uses.now.items)
    (in_order c.args.uses.now.items c.deref-2.result.now (moved_back c) (in_sort c))

pub returns-clause-first : goal.returns-clause-first
returns-clause-first c =
    each_answer c (AreFirstNumbers c.args.uses.now.items)
    (first_numbers c.args.uses.now.items c.deref-2.result.now (moved_back c) (in_sort c))

pub returns-clause-least : goal.returns-clause-least
returns-clause-least c =
    each_answer c (IsLeastNumbering c.args.uses.now.items)
    (λ numbers are. least_numbering c.args.uses.now.items c.deref-2.result.now (moved_back c) (in_sort c) numbers are c.requires c.least_lens.ensures.u.rises)
