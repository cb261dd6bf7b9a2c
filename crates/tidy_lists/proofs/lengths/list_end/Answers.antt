use Rattle.std.proofs.Common.{◌≡◌, ◌<◌, ◌+◌, ◌-◌, ◌∙◌, ℕ, List, [], length, get_or, subst, sym, arith}
use Rattle.list_model.specs.declared.entry.ListKind.{ListKind}
use Rattle.list_model.specs.declared.entry.RawEntry.{RawEntry}
use Rattle.list_arena.specs.Held.{HeldList}
use Rattle.tidy_lists.specs.inside.Lengths.{IsEntryUpTo, IsListUpTo}
use Rattle.tidy_lists.proofs.EntriesUpTo.{list_ends, list_bare, list_inside, no_entries}
use Rattle.tidy_lists.proofs.HeldThings.{some_element}
use Rattle.tidy_lists.proofs.lengths.list_end.Goals as goal

-- what an empty place of a list would hold
abbrev none : RawEntry
none = record { at = 0; code = 0; a = 0; b = 0; expr = record { at = 0; len = 0 } }

-- where the last entry of a list ends, which is held by itself
last_ends : (kind : ListKind) (bytes : List ℕ) (list : HeldList) (count : ℕ) (raw : RawEntry) (end : ℕ) → count ≡ length list.raw → 0 < count → raw ≡ get_or list.raw (count - 1) none → IsListUpTo kind bytes list.at list.raw end → (last : ℕ) × IsEntryUpTo kind bytes raw last × (end ≡ last + 1)
last_ends kind bytes list count raw end long some is here =
    let (last, entry, next) = list_ends kind bytes list.at list.raw end (count - 1) none here (omega (arith, long, some)) in
    (last, subst (λ (z : RawEntry). IsEntryUpTo kind bytes z last) (sym is) entry, next)

pub overflow_add-result : goal.overflow_add-result
overflow_add-result c =
    let d : HeldList = some_element c.args.lists.now c.args.number c.requires.inside in
    let list : HeldList = get_or c.args.lists.now c.args.number d in
    let (end, up_to) = c.requires.list d in
    let inside = list_inside c.args.kind c.args.bytes.now list.at list.raw end up_to in
    record { fits = omega (arith, c.at.ensures d, inside.0, inside.1, c.requires.small) }

pub entry_end-requires-clause-entry : goal.entry_end-requires-clause-entry
entry_end-requires-clause-entry c =
    let d : HeldList = some_element c.args.lists.now c.args.number c.requires.inside in
    let list : HeldList = get_or c.args.lists.now c.args.number d in
    let (end, up_to) = c.requires.list d in
    let some : 0 < c.entry_count-count.result = omega (arith, c.if-count-eq0.false) in
    let last = last_ends c.args.kind c.args.bytes.now list c.entry_count-count.result c.entry.result end (c.entry_count-count.ensures d) some (c.entry.ensures d none) up_to in
    (last.0, last.1)

pub overflow_add-result-2 : goal.overflow_add-result-2
overflow_add-result-2 c =
    let d : HeldList = some_element c.args.lists.now c.args.number c.requires.inside in
    let list : HeldList = get_or c.args.lists.now c.args.number d in
    let (end, up_to) = c.requires.list d in
    let some : 0 < c.entry_count-count.result = omega (arith, c.if-count-eq0.false) in
    let last = last_ends c.args.kind c.args.bytes.now list c.entry_count-count.result c.entry.result end (c.entry_count-count.ensures d) some (c.entry.ensures d none) up_to in
    let same = c.entry_end.ensures last.0 last.1 in
    let inside = list_inside c.args.kind c.args.bytes.now list.at list.raw end up_to in
    record { fits = omega (arith, same, last.2, inside.1, c.requires.small) }

pub returns : goal.returns
returns c = λ d end up_to.
    let list : HeldList = get_or c.args.lists.now c.args.number d in
    let some : 0 < c.entry_count-count.result = omega (arith, c.if-count-eq0.false) in
    let last = last_ends c.args.kind c.args.bytes.now list c.entry_count-count.result c.entry.result end (c.entry_count-count.ensures d) some (c.entry.ensures d none) up_to in
    let same = c.entry_end.ensures last.0 last.1 in
    omega (arith, same, last.2)

pub returns-then-count-eq0 : goal.returns-then-count-eq0
returns-then-count-eq0 c = λ d end up_to.
    let list : HeldList = get_or c.args.lists.now c.args.number d in
    let empty : list.raw ≡ [] = no_entries list.raw (sym (c.entry_count-count.ensures d) ∙ c.if-count-eq0.true) in
    let bare = list_bare c.args.kind c.args.bytes.now list.at end (subst (λ (raws : List RawEntry). IsListUpTo c.args.kind c.args.bytes.now list.at raws end) empty up_to) in
    omega (arith, c.at.ensures d, bare)
