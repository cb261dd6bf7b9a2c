-- Expressions that have their fewest bytes: how many bytes they are, and what their operations hold.
use Rattle.std.proofs.Common.{◌≡◌, ◌+◌, ℕ, List, [], ◌∷◌, ◌++◌, length, take, drop, ◌∙◌, sym, ap, subst, arith}
use Rattle.std.proofs.lemmas.List.{drop_at, length-map, map-append}
use Rattle.expr_ops.specs.declared.op.Op.{Op}
use Rattle.expr_ops.specs.Expressions.{Operation}
use Rattle.expr_ops.specs.Nests.{Nest}
use Rattle.expr_ops.specs.Ops.{meant, all_meant, Chain}
use Rattle.expr_ops.specs.Drafts.{total}
use Rattle.expr_ops.specs.Sizes.{own_size}
use Rattle.expr_ops.specs.Shortest.{needed_slot, needed_own}
use Rattle.dw_base.specs.declared.fault.Reach.TheVariants.{Wide}
use Rattle.expr_ops.proofs.NestLaws.{nest_closed, nest_drop, parted}
use Rattle.expr_ops.proofs.PlainLaws.{expression_sized}
use Rattle.expr_ops.proofs.PutLaws.{own_len}
use Rattle.written_files.specs.inside.FewestBytes.{held_length, fewest_slot, as_written, AreShortest}
use Rattle.written_files.specs.inside.Laws.{ShortestAreFewest, FewestAreCounted, HeldAreCounted}
use Rattle.written_files.proofs.FewestPut.{put_fewest}
use Rattle.written_files.proofs.FewestSizes.{own_needed, held_needed, held_total, fewest_total}
use Rattle.written_files.proofs.OwnBytes.{own_sized}

-- the bytes of operations that stand one behind the other
all_counted : (bytes : List ℕ) (at end : ℕ) (ops : List Op) → Chain bytes at ops end → AreShortest bytes ops → at + total (needed_own (all_meant bytes ops) (all_meant bytes ops)) ≡ end
all_counted bytes at end [] chain each = omega (arith, chain)
all_counted bytes at end (op ∷ ops) (place, (size, lead, chain)) (here, each) =
    let o = meant bytes op in
    let os = all_meant bytes ops in
    let held = held_length o os in
    let needed = total (take op.inner (needed_own os os)) in
    let put = here.put in
    let stands : drop at bytes ≡ here.own ++ here.rest = ap (λ n. drop n bytes) (sym place) ∙ here.stands in
    let long : size ≡ length here.own = own_sized bytes at size op (fewest_slot o) held here.distance here.own here.rest lead stands put in
    let written = own_len (fewest_slot o) (as_written held here.distance o) here.own put in
    let own = own_needed o held here.distance here.sign in
    let moved : own_size (needed_slot o o held) o ≡ own_size (needed_slot o o needed) o =
    ap (λ (n : ℕ). own_size (needed_slot o o n) o) (held_needed o os)
    in
    let rest = all_counted bytes (at + size) end ops chain each in
    omega (arith, rest, long, written, own, moved)

-- what is written shortest of an expression has its fewest bytes
pub shortest_are_fewest : ShortestAreFewest
shortest_are_fewest = put_fewest

-- so many bytes are these, by the operations
pub fewest_counted : FewestAreCounted
fewest_counted bytes h =
    let os = all_meant bytes h.ops in
    let all = all_counted bytes 0 (length bytes) h.ops h.places h.each in
    let split = fewest_total os in
    omega (arith, all, split)

-- and so is what one of them holds
pub held_counted : HeldAreCounted
held_counted bytes h before op behind whole =
    let os = all_meant bytes h.ops in
    let o = meant bytes op in
    let rest = all_meant bytes behind in
    let parts : os ≡ all_meant bytes before ++ o ∷ rest = ap (all_meant bytes) whole ∙ map-append (meant bytes) before (op ∷ behind) in
    let front : length (all_meant bytes before) ≡ length before = length-map before (meant bytes) in
    let there : drop (length before) os ≡ o ∷ rest =
    ap (drop (length before)) parts ∙ drop_at (all_meant bytes before) (o ∷ rest) (length before) front
    in
    let nest : Nest (o ∷ rest) =
    subst (λ (z : List Operation). Nest z) there (nest_drop (length before) os (expression_sized Wide os bytes h.spelled).nest)
    in
    let p = parted nest in
    held_total o rest p.inside (nest_closed p.held)
