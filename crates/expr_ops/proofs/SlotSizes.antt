-- The sizes of slots, as they are found one after the other.
use Rattle.std.proofs.Common.{◌≡◌, ◌≤◌, ◌<◌, ◌+◌, ◌-◌, ℕ, List, [], ◌∷◌, ◌++◌, length, get_or, take, drop, ◌∙◌, sym, ap, arith, Bool, true, false}
use Rattle.std.proofs.lemmas.List.{append_assoc, append-nil, drop_more}
use Rattle.std.specs.Prelude.{if◌then◌else◌}
use Rattle.expr_ops.specs.declared.op.Op.{Op}
use Rattle.expr_ops.specs.Expressions.{Operation}
use Rattle.expr_ops.specs.Ops.{meant, all_meant}
use Rattle.expr_ops.specs.Drafts.{is_slot, with_refs, total}
use Rattle.expr_ops.specs.Shortest.{needed_size, needed_own, needed_sizes, shortest_length, shortest_sizes}
use Rattle.expr_ops.specs.Nests.{Nest}
use Rattle.expr_ops.proofs.NeededLaws.{IsRenamed, IsStep, step_in}

-- the sizes that are there and those that are left make the whole, and what is left has no more bytes
pub record AreFound (refs bytes sizes : List ℕ) (ops : List Op) (k : ℕ) (r : List ℕ) : Type 0 where
  pub made : sizes ++ shortest_sizes r (all_meant bytes (drop k ops)) ≡ shortest_sizes refs (all_meant bytes ops)
  pub less : shortest_length r (all_meant bytes (drop k ops)) ≤ shortest_length refs (all_meant bytes ops)

abbrev sizes_by : Bool → ℕ → List ℕ → List ℕ
sizes_by b size sizes = if b then size ∷ sizes else sizes

module _ (refs bytes sizes : List ℕ) (ops : List Op) (k : ℕ) (d next : Op) (r r1 : List ℕ) (found : AreFound refs bytes sizes ops k r) (lt : k < length ops) (nest : Nest (all_meant bytes ops)) (renamed : IsRenamed bytes (get_or ops k d) next r r1) where
  pub step : IsStep bytes ops k (get_or ops k d) next (take (k + 1 + (get_or ops k d).inner - (k + 1)) (drop (k + 1) ops)) r r1
  step = step_in bytes ops k d next r r1 lt nest renamed

  fewer : shortest_length r1 (all_meant bytes (drop (k + 1) ops)) ≤ shortest_length refs (all_meant bytes ops)
  fewer = let less = found.less in let sum = step.sum in omega (arith, less, sum)

  -- what the operation holds has no more bytes than all
  pub held_few : shortest_length r1 (all_meant bytes (take (k + 1 + (get_or ops k d).inner - (k + 1)) (drop (k + 1) ops))) ≤ shortest_length refs (all_meant bytes ops)
  held_few = let f = fewer in let less = step.less in omega (arith, f, less)

  left : (b : Bool) → is_slot (get_or ops k d).code (get_or ops k d).a ≡ b → sizes ++ sizes_by b (needed_size (meant bytes next) (shortest_length r1 (all_meant bytes (take (k + 1 + (get_or ops k d).inner - (k + 1)) (drop (k + 1) ops))))) (shortest_sizes r1 (all_meant bytes (drop (k + 1) ops))) ≡ shortest_sizes refs (all_meant bytes ops)
  left b is =
      let rest = all_meant bytes (drop (k + 1) ops) in
      let o = meant bytes (get_or ops k d) in
      let new = meant bytes next in
      let more = shortest_sizes r1 rest in
      let listed : shortest_sizes r (o ∷ rest) ≡ sizes_by (is_slot o.code o.a) (needed_size new (total (take o.inner (needed_own rest (with_refs r1 rest))))) more = ap (λ (z : List Operation). needed_sizes (o ∷ rest) z) (renamed rest) in
      ap (λ (z : Bool). sizes ++ sizes_by z (needed_size new (shortest_length r1 (all_meant bytes (take (k + 1 + (get_or ops k d).inner - (k + 1)) (drop (k + 1) ops))))) more) (sym is)
      ∙ ap (λ (n : ℕ). sizes ++ sizes_by (is_slot o.code o.a) (needed_size new n) more) (sym step.first)
      ∙ ap (λ (z : List ℕ). sizes ++ z) (sym listed)
      ∙ ap (λ (z : List Op). sizes ++ shortest_sizes r (all_meant bytes z)) (sym (drop_more ops k d lt))
      ∙ found.made

  -- an operation without a slot
  pub found_none : is_slot (get_or ops k d).code (get_or ops k d).a ≡ false → AreFound refs bytes sizes ops (k + 1) r1
  found_none is = record { made = left false is; less = fewer }

  -- one with a slot
  pub found_one : (held size : ℕ) → is_slot (get_or ops k d).code (get_or ops k d).a ≡ true → held ≡ shortest_length r1 (all_meant bytes (take (k + 1 + (get_or ops k d).inner - (k + 1)) (drop (k + 1) ops))) → size ≡ needed_size (meant bytes next) held → AreFound refs bytes (sizes ++ size ∷ []) ops (k + 1) r1
  found_one held size is same_held same_size =
      let more = shortest_sizes r1 (all_meant bytes (drop (k + 1) ops)) in
      record {
        made =
            append_assoc sizes (size ∷ []) more
            ∙ ap (λ (n : ℕ). sizes ++ n ∷ more) (same_size ∙ ap (needed_size (meant bytes next)) same_held)
            ∙ left true is;
        less = fewer;
      }

-- all were found
pub found_all : (refs bytes sizes : List ℕ) (ops : List Op) (k : ℕ) (r : List ℕ) → AreFound refs bytes sizes ops k r → drop k ops ≡ [] → sizes ≡ shortest_sizes refs (all_meant bytes ops)
found_all refs bytes sizes ops k r found none = sym (append-nil sizes) ∙ ap (λ (z : List Op). sizes ++ shortest_sizes r (all_meant bytes z)) (sym none) ∙ found.made
