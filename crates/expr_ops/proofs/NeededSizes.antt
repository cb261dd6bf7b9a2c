-- The sizes of drafts whose slots have just the bytes that they need.
use Rattle.std.proofs.Common.{◌≡◌, ℕ, List, [], ◌∷◌, length, take, ◌∙◌, ap, refl, arith, Bool, true, false, Option, Some, None}
use Rattle.std.specs.Prelude.{if◌then◌else◌}
use Rattle.expr_ops.specs.declared.op.Op.{Op}
use Rattle.expr_ops.specs.declared.write.Draft.{Draft}
use Rattle.expr_ops.specs.Expressions.{Operation}
use Rattle.expr_ops.specs.Ops.{meant, all_meant}
use Rattle.expr_ops.specs.Sizes.{own_size}
use Rattle.expr_ops.specs.Drafts.{is_slot, first_or, rest_of, with_refs, slots_of, all_ops, all_slots, sizes_in, total, starts_from, AreDrafts, IsPut}
use Rattle.expr_ops.specs.Shortest.{needed_size, needed_slot, needed_own, needed_sizes, shortest_length, shortest_sizes}
use Rattle.expr_ops.proofs.NeededLaws.{refs_count}
use Rattle.expr_ops.proofs.PlaceLaws.{joined_len, sizes_same, slotted_drafts}

-- SLOTS

-- the slot of each operation
abbrev pub needed_slots : List Operation → List Operation → List (Option ℕ)
needed_slots (o ∷ os) (new ∷ news) = needed_slot o new (total (take o.inner (needed_own os news))) ∷ needed_slots os news
needed_slots _ _ = []

abbrev sizes_by : Bool → ℕ → List ℕ → List ℕ
sizes_by b size sizes = if b then size ∷ sizes else sizes

abbrev slots_by : Bool → List ℕ → List Operation → List (Option ℕ)
slots_by b sizes os = if b then Some (first_or 1 sizes) ∷ slots_of (rest_of sizes) os else (None ∷ slots_of sizes os)

slots_here : (b : Bool) (size : ℕ) (sizes : List ℕ) (os : List Operation) (more : List (Option ℕ)) → slots_of sizes os ≡ more → slots_by b (sizes_by b size sizes) os ≡ (if b then Some size else None) ∷ more
slots_here true size sizes os more e = ap (λ (z : List (Option ℕ)). Some size ∷ z) e
slots_here false size sizes os more e = ap (λ (z : List (Option ℕ)). None ∷ z) e

pub slots_needed : (os news : List Operation) → length news ≡ length os → slots_of (needed_sizes os news) os ≡ needed_slots os news
slots_needed [] news e = refl
slots_needed (o ∷ os) [] e = absurd (omega (arith, e))
slots_needed (o ∷ os) (new ∷ news) e =
    slots_here (is_slot o.code o.a) (needed_size new (total (take o.inner (needed_own os news)))) (needed_sizes os news) os (needed_slots os news) (slots_needed os news (omega (arith, e)))

-- ALL OF THEM

abbrev pub sized : List (Option ℕ) → List Operation → List ℕ
sized (slot ∷ slots) (o ∷ os) = own_size slot o ∷ sized slots os
sized _ _ = []

sizes_sized : (bytes : List ℕ) (drafts : List Draft) → sizes_in bytes drafts ≡ sized (all_slots drafts) (all_ops bytes drafts)
sizes_sized bytes [] = refl
sizes_sized bytes (d ∷ ds) = ap (λ (z : List ℕ). own_size d.slot (meant bytes d.op) ∷ z) (sizes_sized bytes ds)

sized_needed : (os news : List Operation) → length news ≡ length os → sized (needed_slots os news) news ≡ needed_own os news
sized_needed [] news e = refl
sized_needed (o ∷ os) [] e = absurd (omega (arith, e))
sized_needed (o ∷ os) (new ∷ news) e =
    ap (λ (z : List ℕ). own_size (needed_slot o new (total (take o.inner (needed_own os news)))) new ∷ z) (sized_needed os news (omega (arith, e)))

-- the drafts have these sizes
pub sizes_needed : (refs bytes : List ℕ) (ops : List Op) (drafts : List Draft) → AreDrafts refs (shortest_sizes refs (all_meant bytes ops)) bytes ops drafts → sizes_in bytes drafts ≡ needed_own (all_meant bytes ops) (with_refs refs (all_meant bytes ops))
sizes_needed refs bytes ops drafts a =
    let os = all_meant bytes ops in
    let news = with_refs refs os in
    let count : length news ≡ length os = refs_count refs os in
    sizes_sized bytes drafts
    ∙ ap (λ (z : List (Option ℕ)). sized z (all_ops bytes drafts)) (a.slots ∙ slots_needed os news count)
    ∙ ap (λ (z : List Operation). sized (needed_slots os news) z) a.renamed
    ∙ sized_needed os news count

-- so many bytes are written
pub put_length : (refs bytes : List ℕ) (ops : List Op) (made : List ℕ) → IsPut refs (shortest_sizes refs (all_meant bytes ops)) bytes ops made → length made ≡ shortest_length refs (all_meant bytes ops)
put_length refs bytes ops made p =
    let sizes = shortest_sizes refs (all_meant bytes ops) in
    let aimed = sizes_same bytes (starts_from 0 (sizes_in bytes p.drafts)) p.firsts p.drafts p.aims p.aimed (slotted_drafts refs sizes bytes ops p.drafts p.drafted) in
    joined_len bytes p.aims made p.spelled ∙ ap total (aimed ∙ sizes_needed refs bytes ops p.drafts p.drafted)
