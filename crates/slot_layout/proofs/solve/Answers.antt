use Rattle.std.proofs.Common.{◌≡◌, ◌++◌, ℕ, List, length, take, drop, ap, sym, subst, rules, ◌∙◌}
use Rattle.std.proofs.lemmas.List.{take_at}
use Rattle.leb_codec.specs.Layout.{HasFirstRanks}
use Rattle.slot_layout.specs.declared.slots.Slot.{Slot}
use Rattle.slot_layout.specs.Rows.{rows_of}
use Rattle.slot_layout.specs.inside.Rounds.{joined}
use Rattle.slot_layout.proofs.solve.Goals as goal

-- the first ranks of equal lists
first_of : (seen slots : List Slot) (sizes new ranks all : List ℕ) → seen ≡ slots → sizes ≡ new → all ≡ ranks → HasFirstRanks (rows_of seen) new ranks → HasFirstRanks (rows_of slots) sizes all
first_of seen slots sizes new ranks all same same_sizes same_ranks first =
    let P : List Slot → Type 0 = λ s. HasFirstRanks (rows_of s) new ranks in
    let Q : List ℕ → Type 0 = λ s. HasFirstRanks (rows_of slots) s ranks in
    let R : List ℕ → Type 0 = λ r. HasFirstRanks (rows_of slots) sizes r in
    subst R (sym same_ranks) (subst Q (sym same_sizes) (subst P same first))

same_joined : (a b : List Slot) (sizes new : List ℕ) (lists more : List (List ℕ)) → a ≡ b → sizes ≡ new → lists ≡ more → joined (rows_of a) sizes lists ≡ joined (rows_of b) new more
same_joined a b sizes new lists more same same_sizes same_lists =
    ap (λ (s : List Slot). joined (rows_of s) sizes lists) same ∙ ap (λ (s : List ℕ). joined (rows_of b) s lists) same_sizes ∙ ap (λ (l : List (List ℕ)). joined (rows_of b) new l) same_lists

pub returns-clause-first_ranks : goal.returns-clause-first_ranks
returns-clause-first_ranks c =
    let new = c.grow_fully.new.sizes in
    let long : length new ≡ c.in_ok-sizes.sizes.len = search rules in
    let whole : take c.in_ok-sizes.sizes.len (new ++ drop (length new) c.in_ok-sizes.sizes.items) ≡ new = take_at new (drop (length new) c.in_ok-sizes.sizes.items) c.in_ok-sizes.sizes.len long in
    let lists = c.grow_fully.new.ranks in
    let long_lists : length lists ≡ c.in_ok-ranks.ranks.len = search rules in
    let whole_lists : take c.in_ok-ranks.ranks.len (lists ++ drop (length lists) c.in_ok-ranks.ranks.items) ≡ lists = take_at lists (drop (length lists) c.in_ok-ranks.ranks.items) c.in_ok-ranks.ranks.len long_lists in
    let slots : c.deref-3.result.now ≡ c.deref-2.result.now = c.deref-3.ensures.value ∙ sym c.deref-2.ensures.value in
    let ranks : c.in_ok-ranks-2.ranks.items ≡ joined (rows_of c.deref-2.result.now) new lists = c.in_ok-ranks-2.ensures ∙ same_joined c.deref-3.result.now c.deref-2.result.now c.deref-4.result.now new c.deref-5.result.now lists slots (c.deref-4.ensures.value ∙ whole) (c.deref-5.ensures.value ∙ whole_lists) in
    first_of c.deref-2.result.now c.args.slots.now.items (take c.in_ok-sizes.sizes.len (new ++ drop (length new) c.in_ok-sizes.sizes.items)) new (joined (rows_of c.deref-2.result.now) new c.grow_fully.new.ranks) c.in_ok-ranks-2.ranks.items c.deref-2.ensures.value whole ranks c.grow_fully.ensures.first_ranks
