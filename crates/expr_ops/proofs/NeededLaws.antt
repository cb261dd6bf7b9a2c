-- Sums over operations with new references that follow those that hold them.
use Rattle.std.proofs.Common.{◌≡◌, ◌≤◌, ◌<◌, ◌+◌, ◌-◌, ℕ, zero, suc, List, [], ◌∷◌, ◌++◌, length, get_or, take, drop, ◌∙◌, sym, ap, refl, subst, arith, Option}
use Rattle.std.proofs.lemmas.List.{append_assoc, length-map, length-drop, length-take-le, take_at, take-append-drop, take-append-le, take-map, drop-map, drop-drop, drop_more}
use Rattle.expr_ops.specs.declared.op.Op.{Op}
use Rattle.expr_ops.specs.Expressions.{Operation}
use Rattle.expr_ops.specs.Sizes.{own_size}
use Rattle.expr_ops.specs.Drafts.{with_refs, total}
use Rattle.expr_ops.specs.Ops.{meant, all_meant}
use Rattle.expr_ops.specs.Shortest.{needed_slot, needed_own, shortest_length}
use Rattle.expr_ops.specs.Nests.{Nest}
use Rattle.expr_ops.specs.inside.Cursors.{Leaves}
use Rattle.expr_ops.proofs.NestLaws.{Closed, nest_closed, IsParted, parted, nest_drop, total_append, total_take}
use Rattle.expr_ops.proofs.NextRefs.{next_of}

-- WITH NEW REFERENCES

pub refs_count : (refs : List ℕ) (os : List Operation) → length (with_refs refs os) ≡ length os
refs_count refs [] = refl
refs_count refs (o ∷ os) = let next = next_of refs o in ap (λ (z : List Operation). length z) (next.listed os) ∙ ap suc (refs_count next.rest os)

refs_take : (refs : List ℕ) (n : ℕ) (os : List Operation) → with_refs refs (take n os) ≡ take n (with_refs refs os)
refs_take refs zero os = refl
refs_take refs (suc n) [] = refl
refs_take refs (suc n) (o ∷ os) =
    let next = next_of refs o in
    next.listed (take n os) ∙ ap (λ (z : List Operation). next.new ∷ z) (refs_take next.rest n os) ∙ ap (take (suc n)) (sym (next.listed os))

leaves_both : (r r1 r2 : List ℕ) (xs ys : List Operation) → Leaves r xs r1 → Leaves r1 ys r2 → Leaves r (xs ++ ys) r2
leaves_both r r1 r2 xs ys a b more =
    ap (with_refs r) (append_assoc xs ys more)
    ∙ a (ys ++ more)
    ∙ ap (λ (z : List Operation). with_refs r xs ++ z) (b more)
    ∙ sym (append_assoc (with_refs r xs) (with_refs r1 ys) (with_refs r2 more))
    ∙ ap (λ (z : List Operation). z ++ with_refs r2 more) (sym (a ys))

leaves_one : (r r1 : List ℕ) (o new : Operation) → ((more : List Operation) → with_refs r (o ∷ more) ≡ new ∷ with_refs r1 more) → Leaves r (o ∷ []) r1
leaves_one r r1 o new renamed more = renamed more ∙ ap (λ (z : List Operation). z ++ with_refs r1 more) (sym (renamed []))

-- THEIR BYTES

pub needed_count : (os news : List Operation) → length news ≡ length os → length (needed_own os news) ≡ length os
needed_count [] news e = refl
needed_count (o ∷ os) [] e = absurd (omega (arith, e))
needed_count (o ∷ os) (new ∷ news) e = ap suc (needed_count os news (omega (arith, e)))

needed_append : (xs nx ys ny : List Operation) → length nx ≡ length xs → Closed xs → needed_own (xs ++ ys) (nx ++ ny) ≡ needed_own xs nx ++ needed_own ys ny
needed_append [] [] ys ny e c = refl
needed_append [] (m ∷ nx) ys ny e c = absurd (omega (arith, e))
needed_append (x ∷ xs) [] ys ny e c = absurd (omega (arith, e))
needed_append (x ∷ xs) (m ∷ nx) ys ny e (h, c) =
    let same : length nx ≡ length xs = omega (arith, e) in
    let rest = needed_append xs nx ys ny same c in
    let n : length (needed_own xs nx) ≡ length xs = needed_count xs nx same in
    let front : take x.inner (needed_own (xs ++ ys) (nx ++ ny)) ≡ take x.inner (needed_own xs nx) = ap (take x.inner) rest ∙ take-append-le x.inner (needed_own xs nx) (needed_own ys ny) (omega (arith, h, n)) in
    ap (λ (z : List ℕ). own_size (needed_slot x m (total z)) m ∷ needed_own (xs ++ ys) (nx ++ ny)) front ∙ ap (λ (z : List ℕ). own_size (needed_slot x m (total (take x.inner (needed_own xs nx)))) m ∷ z) rest

-- of operations that follow one another
shortest_both : (r r1 : List ℕ) (xs ys : List Operation) → Closed xs → Leaves r xs r1 → shortest_length r (xs ++ ys) ≡ shortest_length r xs + shortest_length r1 ys
shortest_both r r1 xs ys c leaves =
    ap (λ (z : List Operation). total (needed_own (xs ++ ys) z)) (leaves ys)
    ∙ ap total (needed_append xs (with_refs r xs) ys (with_refs r1 ys) (refs_count r xs) c)
    ∙ total_append (needed_own xs (with_refs r xs)) (needed_own ys (with_refs r1 ys))

-- of the first ones
shortest_front : (r : List ℕ) (n : ℕ) (os : List Operation) → n ≤ length os → Closed (take n os) → total (take n (needed_own os (with_refs r os))) ≡ shortest_length r (take n os)
shortest_front r n os le c =
    let front = take n os in
    let behind = drop n os in
    let news = with_refs r os in
    let first : with_refs r front ≡ take n news = refs_take r n os in
    let own = needed_own front (with_refs r front) in
    let parts : news ≡ with_refs r front ++ drop n news = sym (take-append-drop n news) ∙ ap (λ (z : List Operation). z ++ drop n news) (sym first) in
    let whole : needed_own os news ≡ own ++ needed_own behind (drop n news) =
    ap (λ (z : List Operation). needed_own z news) (sym (take-append-drop n os))
    ∙ ap (λ (z : List Operation). needed_own (front ++ behind) z) parts
    ∙ needed_append front (with_refs r front) behind (drop n news) (refs_count r front) c
    in
    let count : length own ≡ n = needed_count front (with_refs r front) (refs_count r front) ∙ length-take-le n os le in
    ap (λ (z : List ℕ). total (take n z)) whole ∙ ap total (take_at own (needed_own behind (drop n news)) n count)

-- THE OPERATION AT A PLACE

-- the operation at a place, those that it holds, and what it adds to the sum
pub record IsStep (bytes : List ℕ) (ops : List Op) (at : ℕ) (op next : Op) (part : List Op) (r r1 : List ℕ) : Type 0 where
  pub inside : at + 1 + op.inner ≤ length ops
  pub fewer : length part < length ops
  pub held : Nest (all_meant bytes part)
  pub behind : Nest (all_meant bytes (drop (at + 1 + op.inner) ops))
  pub first : total (take op.inner (needed_own (all_meant bytes (drop (at + 1) ops)) (with_refs r1 (all_meant bytes (drop (at + 1) ops))))) ≡ shortest_length r1 (all_meant bytes part)
  pub sum : shortest_length r (all_meant bytes (drop at ops)) ≡ own_size (needed_slot (meant bytes op) (meant bytes next) (shortest_length r1 (all_meant bytes part))) (meant bytes next) + shortest_length r1 (all_meant bytes (drop (at + 1) ops))
  pub less : shortest_length r1 (all_meant bytes part) ≤ shortest_length r1 (all_meant bytes (drop (at + 1) ops))
  pub both : (r2 : List ℕ) → Leaves r1 (all_meant bytes part) r2 → shortest_length r1 (all_meant bytes (drop (at + 1) ops)) ≡ shortest_length r1 (all_meant bytes part) + shortest_length r2 (all_meant bytes (drop (at + 1 + op.inner) ops))
  pub chain : (r2 rest : List ℕ) → Leaves r1 (all_meant bytes part) r2 → Leaves r2 (all_meant bytes (drop (at + 1 + op.inner) ops)) rest → Leaves r (all_meant bytes (drop at ops)) rest

-- where the operation at a place has its next reference
abbrev pub IsRenamed : List ℕ → Op → Op → List ℕ → List ℕ → Type 0
IsRenamed bytes op next r r1 = (more : List Operation) → with_refs r (meant bytes op ∷ more) ≡ meant bytes next ∷ with_refs r1 more

pub step_at : (bytes : List ℕ) (ops : List Op) (at : ℕ) (d next : Op) (r r1 : List ℕ) → at < length ops → Nest (all_meant bytes (drop at ops)) → IsRenamed bytes (get_or ops at d) next r r1 → IsStep bytes ops at (get_or ops at d) next (take (at + 1 + (get_or ops at d).inner - (at + 1)) (drop (at + 1) ops)) r r1
step_at bytes ops at d next r r1 lt nest renamed =
    let op = get_or ops at d in
    let rest = drop (at + 1) ops in
    let o = meant bytes op in
    let new = meant bytes next in
    let os = all_meant bytes rest in
    let held = take op.inner os in
    let e : all_meant bytes (drop at ops) ≡ o ∷ os = ap (λ (z : List Op). all_meant bytes z) (drop_more ops at d lt) in
    let p : IsParted o os = parted (subst (λ (z : List Operation). Nest z) e nest) in
    let front : held ≡ all_meant bytes (take op.inner rest) = take-map (meant bytes) op.inner rest in
    let back : drop op.inner os ≡ all_meant bytes (drop (at + 1 + op.inner) ops) = drop-map (meant bytes) op.inner rest ∙ ap (λ (z : List Op). all_meant bytes z) (drop-drop op.inner (at + 1) ops) in
    let parts : os ≡ held ++ drop op.inner os = sym (take-append-drop op.inner os) in
    let long : length os ≡ length rest = length-map rest (meant bytes) in
    let left : length rest ≡ length ops - (at + 1) = length-drop (at + 1) ops in
    let within = p.inside in
    let closed : Closed held = nest_closed p.held in
    let count : op.inner ≡ at + 1 + op.inner - (at + 1) = omega arith in
    let size : length (take op.inner rest) ≡ op.inner = length-take-le op.inner rest (omega (arith, within, long)) in
    let first : total (take op.inner (needed_own os (with_refs r1 os))) ≡ shortest_length r1 held = shortest_front r1 op.inner os within closed in
    let sum : shortest_length r (o ∷ os) ≡ own_size (needed_slot o new (shortest_length r1 held)) new + shortest_length r1 os = ap (λ (z : List Operation). total (needed_own (o ∷ os) z)) (renamed os) ∙ ap (λ (n : ℕ). own_size (needed_slot o new n) new + shortest_length r1 os) first in
    let less : shortest_length r1 held ≤ shortest_length r1 os = let h = total_take op.inner (needed_own os (with_refs r1 os)) in omega (arith, h, first) in
    let both : (r2 : List ℕ) → Leaves r1 held r2 → shortest_length r1 os ≡ shortest_length r1 held + shortest_length r2 (drop op.inner os) = λ r2 leaves. ap (shortest_length r1) parts ∙ shortest_both r1 r2 held (drop op.inner os) closed leaves in
    let chain : (r2 left : List ℕ) → Leaves r1 held r2 → Leaves r2 (drop op.inner os) left → Leaves r (o ∷ os) left = λ r2 left a b. subst (λ (z : List Operation). Leaves r (o ∷ z) left) (sym parts) (leaves_both r r1 left (o ∷ []) (held ++ drop op.inner os) (leaves_one r r1 o new renamed) (leaves_both r1 r2 left held (drop op.inner os) a b)) in
    let whole : IsStep bytes ops at op next (take op.inner rest) r r1 = record {
      inside = omega (arith, lt, long, left, within);
      fewer = omega (arith, lt, long, left, within, size);
      held = subst (λ (z : List Operation). Nest z) front p.held;
      behind = subst (λ (z : List Operation). Nest z) back p.behind;
      first = subst (λ (z : List Operation). total (take op.inner (needed_own os (with_refs r1 os))) ≡ shortest_length r1 z) front first;
      sum = ap (shortest_length r) e ∙ subst (λ (z : List Operation). shortest_length r (o ∷ os) ≡ own_size (needed_slot o new (shortest_length r1 z)) new + shortest_length r1 os) front sum;
      less = subst (λ (z : List Operation). shortest_length r1 z ≤ shortest_length r1 os) front less;
      both = subst (λ (y : List Operation). (r2 : List ℕ) → Leaves r1 y r2 → shortest_length r1 os ≡ shortest_length r1 y + shortest_length r2 (all_meant bytes (drop (at + 1 + op.inner) ops))) front (subst (λ (z : List Operation). (r2 : List ℕ) → Leaves r1 held r2 → shortest_length r1 os ≡ shortest_length r1 held + shortest_length r2 z) back both);
      chain = subst (λ (x : List Operation). (r2 left : List ℕ) → Leaves r1 (all_meant bytes (take op.inner rest)) r2 → Leaves r2 (all_meant bytes (drop (at + 1 + op.inner) ops)) left → Leaves r x left) (sym e) (subst (λ (y : List Operation). (r2 left : List ℕ) → Leaves r1 y r2 → Leaves r2 (all_meant bytes (drop (at + 1 + op.inner) ops)) left → Leaves r (o ∷ os) left) front (subst (λ (z : List Operation). (r2 left : List ℕ) → Leaves r1 held r2 → Leaves r2 z left → Leaves r (o ∷ os) left) back chain));
    } in
    subst (λ (n : ℕ). IsStep bytes ops at op next (take n rest) r r1) count whole

-- the same at each place of operations that are nested as a whole
pub step_in : (bytes : List ℕ) (ops : List Op) (at : ℕ) (d next : Op) (r r1 : List ℕ) → at < length ops → Nest (all_meant bytes ops) → IsRenamed bytes (get_or ops at d) next r r1 → IsStep bytes ops at (get_or ops at d) next (take (at + 1 + (get_or ops at d).inner - (at + 1)) (drop (at + 1) ops)) r r1
step_in bytes ops at d next r r1 lt nest renamed =
    step_at bytes ops at d next r r1 lt (subst (λ (z : List Operation). Nest z) (drop-map (meant bytes) at ops) (nest_drop at (all_meant bytes ops) nest)) renamed

-- the sum with that of the operation and those that it holds
pub record IsAdded (bytes : List ℕ) (ops : List Op) (at : ℕ) (op : Op) (r2 : List ℕ) (sum found own whole : ℕ) : Type 0 where
  pub all : sum + own + found + shortest_length r2 (all_meant bytes (drop (at + 1 + op.inner) ops)) ≡ whole

pub added : (bytes : List ℕ) (ops : List Op) (at : ℕ) (op next : Op) (held : List Op) (r r1 r2 : List ℕ) (sum found own whole : ℕ) (slot : Option ℕ) → IsStep bytes ops at op next held r r1 → sum + shortest_length r (all_meant bytes (drop at ops)) ≡ whole → found ≡ shortest_length r1 (all_meant bytes held) → Leaves r1 (all_meant bytes held) r2 → slot ≡ needed_slot (meant bytes op) (meant bytes next) found → own ≡ own_size slot (meant bytes next) → IsAdded bytes ops at op r2 sum found own whole
added bytes ops at op next held r r1 r2 sum found own whole slot s e same_found leaves same_slot size =
    let o = meant bytes op in
    let new = meant bytes next in
    let there : own_size slot new ≡ own_size (needed_slot o new (shortest_length r1 (all_meant bytes held))) new = ap (λ (z : Option ℕ). own_size z new) (same_slot ∙ ap (needed_slot o new) same_found) in
    let step = s.sum in
    let both = s.both r2 leaves in
    record { all = omega (arith, e, step, both, there, size, same_found) }
