use Rattle.std.proofs.Common.{◌≡◌, ◌≤◌, ◌<◌, ◌+◌, ◌∙◌, ℕ, List, length, get_or, Option, true, false, inl, inr, ◌⊎◌, sym, ap, subst, arith}
use Rattle.std.proofs.lemmas.Grind.{common_steps}
use Rattle.std.proofs.lemmas.Bool.Decides.{nat_tests}
use Rattle.list_model.specs.declared.entry.RawEntry.{RawEntry}
use Rattle.loc_lists.specs.Locations.{bytes_in}
use Rattle.value_links.specs.Lists.{owner_unit}
use Rattle.same_meaning.specs.inside.Compared.{IsLinkedSomehow}
use Rattle.same_meaning.specs.inside.Lists.{IsNextItem}
use Rattle.same_meaning.proofs.ListExpressions.{expression_among}
use Rattle.same_meaning.proofs.ListWalks.{owner_known, lie_inside, are_linked, walk_differs, walk_more, walk_told, not_past, test_bytes, test_read}
use Rattle.same_meaning.proofs.lists.have_same_expressions.Goals as goal
use Rattle.same_meaning.proofs.lists.have_same_expressions.Goals.{then-loop-i-test+else-j-len, else-loop-i-test, then-i-len, else-i-len}

-- an entry of a list, where its entries are lent
lent : (given held : List RawEntry) (k : ℕ) (raw : RawEntry) → raw ≡ get_or given k raw → given ≡ held → raw ≡ get_or held k raw
lent given held k raw is same = is ∙ ap (λ (z : List RawEntry). get_or z k raw) same

pub bytes_of-a-requires : goal.bytes_of-a-requires
bytes_of-a-requires c =
    let first = c.location_section-first.result.now in
    let raws = c.args.old.now.raw in
    let inside : c.loop-i.i < length raws = grind (arith, common_steps) in
    let at_i = lent c.entries-old_entries.result.now.items raws c.loop-i.i c.index.result.now c.index.ensures c.entries-old_entries.ensures in
    subst (λ (z : RawEntry). z.expr.at + z.expr.len ≤ length first) (sym at_i) (lie_inside c.args.before.now c.requires.before c.args.old.now c.requires.first first c.location_section-first.ensures c.loop-i.i c.index.result.now inside)

pub bytes_of-b-requires : goal.bytes_of-b-requires
bytes_of-b-requires c =
    let second = c.location_section-second.result.now in
    let raws = c.args.new.now.raw in
    let inside : c.loop-i.j < length raws = grind (arith, common_steps) in
    let at_j = lent c.entries-new_entries.result.now.items raws c.loop-i.j c.index-in-loop-i.result.now c.index-in-loop-i.ensures c.entries-new_entries.ensures in
    subst (λ (z : RawEntry). z.expr.at + z.expr.len ≤ length second) (sym at_j) (lie_inside c.args.after.now c.requires.after c.args.new.now c.requires.second second c.location_section-second.ensures c.loop-i.j c.index-in-loop-i.result.now inside)

pub mean_same_bytes-requires-clause-owner : goal.mean_same_bytes-requires-clause-owner
mean_same_bytes-requires-clause-owner c = λ u is. owner_known c.args.before.now c.requires.before c.args.old.now c.requires.first u (sym c.owner.ensures ∙ is)

pub mean_same_bytes-requires-clause-other : goal.mean_same_bytes-requires-clause-other
mean_same_bytes-requires-clause-other c = λ u is. owner_known c.args.after.now c.requires.after c.args.new.now c.requires.second u (sym c.owner-in-loop-i.ensures ∙ is)

pub mean_same_bytes-requires-clause-linked : goal.mean_same_bytes-requires-clause-linked
mean_same_bytes-requires-clause-linked c = λ r s read holds again held.
    let first = c.location_section-first.result.now in
    let second = c.location_section-second.result.now in
    let olds = c.args.old.now.raw in
    let news = c.args.new.now.raw in
    let d = c.index.result.now in
    let e = c.index-in-loop-i.result.now in
    let i_in : c.loop-i.i < length olds = grind (arith, common_steps) in
    let j_in : c.loop-i.j < length news = grind (arith, common_steps) in
    let at_i = lent c.entries-old_entries.result.now.items olds c.loop-i.i d c.index.ensures c.entries-old_entries.ensures in
    let at_j = lent c.entries-new_entries.result.now.items news c.loop-i.j e c.index-in-loop-i.ensures c.entries-new_entries.ensures in
    let one : c.bytes_of-a.result.now ≡ bytes_in first (get_or olds c.loop-i.i d).expr = c.bytes_of-a.ensures ∙ ap (λ (z : RawEntry). bytes_in first z.expr) at_i in
    let two : c.bytes_of-b.result.now ≡ bytes_in second (get_or news c.loop-i.j e).expr = c.bytes_of-b.ensures ∙ ap (λ (z : RawEntry). bytes_in second z.expr) at_j in
    let here = expression_among (IsLinkedSomehow r.links (owner_unit r.links c.args.old.now.owner)) first olds c.loop-i.i d (are_linked c.args.before.now c.requires.before c.args.old.now c.requires.first first c.location_section-first.ensures r read holds) i_in (c.loop-i.invariant.i_item d i_in) in
    let there = expression_among (IsLinkedSomehow s.links (owner_unit s.links c.args.new.now.owner)) second news c.loop-i.j e (are_linked c.args.after.now c.requires.after c.args.new.now c.requires.second second c.location_section-second.ensures s again held) j_in (c.loop-i.invariant.j_item e j_in) in
    let one_linked = subst (λ (z : List ℕ). IsLinkedSomehow r.links (owner_unit r.links c.args.old.now.owner) z) (sym one) here in
    let two_linked = subst (λ (z : List ℕ). IsLinkedSomehow s.links (owner_unit s.links c.args.new.now.owner) z) (sym two) there in
    (subst (λ (z : Option ℕ). IsLinkedSomehow r.links (owner_unit r.links z) c.bytes_of-a.result.now) (sym c.owner.ensures) one_linked, subst (λ (z : Option ℕ). IsLinkedSomehow s.links (owner_unit s.links z) c.bytes_of-b.result.now) (sym c.owner-in-loop-i.ensures) two_linked)

pub returns-then-not-branch : goal.returns-then-not-branch
returns-then-not-branch c =
    let a = c.args.before.now in
    let b = c.args.after.now in
    let old = c.args.old.now in
    let new = c.args.new.now in
    let first = c.location_section-first.result.now in
    let second = c.location_section-second.result.now in
    let d = c.index.result.now in
    let e = c.index-in-loop-i.result.now in
    let i_in : c.loop-i.i < length old.raw = grind (arith, common_steps) in
    let j_in : c.loop-i.j < length new.raw = grind (arith, common_steps) in
    let at_i = lent c.entries-old_entries.result.now.items old.raw c.loop-i.i d c.index.ensures c.entries-old_entries.ensures in
    let at_j = lent c.entries-new_entries.result.now.items new.raw c.loop-i.j e c.index-in-loop-i.ensures c.entries-new_entries.ensures in
    let one : c.bytes_of-a.result.now ≡ bytes_in first (get_or old.raw c.loop-i.i d).expr = c.bytes_of-a.ensures ∙ ap (λ (z : RawEntry). bytes_in first z.expr) at_i in
    let two : c.bytes_of-b.result.now ≡ bytes_in second (get_or new.raw c.loop-i.j e).expr = c.bytes_of-b.ensures ∙ ap (λ (z : RawEntry). bytes_in second z.expr) at_j in
    let test = test_bytes a b old new first second c.location_section-first.ensures c.location_section-second.ensures c.owner.result c.owner-in-loop-i.result c.owner.ensures c.owner-in-loop-i.ensures c.bytes_of-a.result.now c.bytes_of-b.result.now (bytes_in first (get_or old.raw c.loop-i.i d).expr) (bytes_in second (get_or new.raw c.loop-i.j e).expr) one two c.in_ok-mean_same_bytes.field-0 c.in_ok-mean_same_bytes.ensures in
    test_read a b old new first second c.location_section-first.ensures c.location_section-second.ensures false
    (walk_differs a b old.owner first old.raw c.loop-i.i new.owner second new.raw c.loop-i.j c.loop-i.invariant d e i_in j_in c.in_ok-mean_same_bytes.field-0 c.if-not-branch.true test)

pub loop-i-preserved : goal.loop-i-preserved
loop-i-preserved c =
    let a = c.args.before.now in
    let b = c.args.after.now in
    let old = c.args.old.now in
    let new = c.args.new.now in
    let first = c.location_section-first.result.now in
    let second = c.location_section-second.result.now in
    let d = c.index.result.now in
    let e = c.index-in-loop-i.result.now in
    let i_in : c.loop-i.i < length old.raw = grind (arith, common_steps) in
    let j_in : c.loop-i.j < length new.raw = grind (arith, common_steps) in
    let at_i = lent c.entries-old_entries.result.now.items old.raw c.loop-i.i d c.index.ensures c.entries-old_entries.ensures in
    let at_j = lent c.entries-new_entries.result.now.items new.raw c.loop-i.j e c.index-in-loop-i.ensures c.entries-new_entries.ensures in
    let one : c.bytes_of-a.result.now ≡ bytes_in first (get_or old.raw c.loop-i.i d).expr = c.bytes_of-a.ensures ∙ ap (λ (z : RawEntry). bytes_in first z.expr) at_i in
    let two : c.bytes_of-b.result.now ≡ bytes_in second (get_or new.raw c.loop-i.j e).expr = c.bytes_of-b.ensures ∙ ap (λ (z : RawEntry). bytes_in second z.expr) at_j in
    let test = test_bytes a b old new first second c.location_section-first.ensures c.location_section-second.ensures c.owner.result c.owner-in-loop-i.result c.owner.ensures c.owner-in-loop-i.ensures c.bytes_of-a.result.now c.bytes_of-b.result.now (bytes_in first (get_or old.raw c.loop-i.i d).expr) (bytes_in second (get_or new.raw c.loop-i.j e).expr) one two c.in_ok-mean_same_bytes.field-0 c.in_ok-mean_same_bytes.ensures in
    walk_more a b old.owner first old.raw c.loop-i.i new.owner second new.raw c.loop-i.j c.loop-i.invariant d e i_in j_in c.next_item-i-in-loop-i.result c.next_item-j-in-loop-i.result
    (subst (λ (z : List RawEntry). IsNextItem z (c.loop-i.i + 1) c.next_item-i-in-loop-i.result) (c.deref-in-loop-i.ensures.value ∙ c.entries-old_entries.ensures) c.next_item-i-in-loop-i.ensures)
    (subst (λ (z : List RawEntry). IsNextItem z (c.loop-i.j + 1) c.next_item-j-in-loop-i.result) (c.deref-in-loop-i-2.ensures.value ∙ c.entries-new_entries.ensures) c.next_item-j-in-loop-i.ensures)
    c.in_ok-mean_same_bytes.field-0 c.if-not-branch.false test

pub returns : goal.returns
returns c =
    let a = c.args.before.now in
    let b = c.args.after.now in
    let old = c.args.old.now in
    let new = c.args.new.now in
    let first = c.location_section-first.result.now in
    let second = c.location_section-second.result.now in
    let i : ℕ = c.loop-i.i in
    let j : ℕ = c.loop-i.j in
    let over : (length old.raw ≤ i) ⊎ (length new.raw ≤ j) = elim c.loop-i-test.branch [
      | then-loop-i-test+else-j-len w ↦ (let past : length new.raw ≤ j = grind (arith, common_steps) in inr past)
      | else-loop-i-test w ↦ (let past : length old.raw ≤ i = grind (arith, common_steps) in inl past)
    ] in
    let all : c.if-i-len.result ≡ true → (length old.raw ≤ i) × (length new.raw ≤ j) = λ is. elim c.if-i-len.branch [
      | then-i-len w ↦ (grind (arith, common_steps, nat_tests), grind (arith, common_steps, nat_tests))
      | else-i-len w ↦ (grind (arith, common_steps, nat_tests), grind (arith, common_steps, nat_tests))
    ] in
    let some : c.if-i-len.result ≡ false → (i < length old.raw) ⊎ (j < length new.raw) = λ is. elim c.if-i-len.branch [
      | then-i-len w ↦
          let size : w.len-then-i-len.result ≡ length new.raw = grind (arith, common_steps, w.len-then-i-len.ensures) in
          let inside = c.loop-i.invariant.j_inside in
          let less : j < w.len-then-i-len.result = not_past c.if-i-len.result j w.len-then-i-len.result w.result-is is (omega (arith, inside, size)) in
          inr (omega (arith, less, size))
      | else-i-len w ↦ (let less : i < length old.raw = grind (arith, common_steps) in inl less)
    ] in
    test_read a b old new first second c.location_section-first.ensures c.location_section-second.ensures c.if-i-len.result
    (walk_told a b old.owner first old.raw i new.owner second new.raw j c.loop-i.invariant c.if-i-len.result over all some (record { at = 0; code = 0; a = 0; b = 0; expr = record { at = 0; len = 0 } }))
