-- The new numbers of the references in expressions of lists.
use Rattle.std.proofs.Common.{◌≡◌, ◌≢◌, ◌≤◌, ◌<◌, ◌+◌, ◌^◌, ◌++◌, ◌∙◌, inl, inr, ℕ, List, [], ◌∷◌, length, slice_index, take, cond, Bool, true, false, sym, ap, refl, subst, arith}
use Rattle.std.specs.Prelude.{Option, Some, None}
use Rattle.std.specs.List.{All}
use Rattle.std.proofs.lemmas.Bool.{cases_lt, true≢false}
use Rattle.std.proofs.lemmas.List.{append-nil, length_push, get_or_push, get_or_past, get_or_append_left, take_more}
use Rattle.std.proofs.lemmas.List.Elements.{All-nil, All-cons, All-head, All-tail, All-from_get_or}
use Rattle.expr_ops.specs.declared.op.Op.{Op}
use Rattle.expr_ops.specs.declared.names.Named.{Named}
use Rattle.expr_ops.specs.declared.names.Named.TheVariants.{Nothing, BaseType, UnitEntry, SectionEntry}
use Rattle.expr_ops.specs.Drafts.{has_reference, op_at}
use Rattle.expr_ops.specs.Names.{named_by}
use Rattle.expr_ops.proofs.NameLaws.{reference_named}
use Rattle.entry_arena.specs.Arena.{IsEntryAt}
use Rattle.unit_write.specs.declared.places.Places.{Places}
use Rattle.unit_write.specs.NewExpressions.{refs_among}
use Rattle.value_links.specs.declared.operations.OpLink.{OpLink}
use Rattle.value_links.specs.declared.operations.OpLink.TheVariants as op_link
use Rattle.value_links.specs.Reading.{UnitRead, Linkable, Reading, no_unit, unit_at}
use Rattle.value_links.specs.Links.{IsOpLinkFound, IsNamedThing}
use Rattle.value_links.specs.Operations.{OpTarget, NamesSectionEntry, LinksReference, Names}
use Rattle.value_links.specs.World.{World, Holds}
use Rattle.rewriter.specs.inside.Numbers.{IsNewReference}
use Rattle.rewriter.specs.inside.Held.{AllHavePlaces, IsEntryPlaced, IsReferenceOf}
use Rattle.rewriter.specs.inside.ListNumbers.{AreListReferences}
use Rattle.rewriter.proofs.OpNumbers.{entry_placed, reference_zero}
use Rattle.rewriter.proofs.Standing.{held_count}

-- ---- a list that no unit owns

-- past the last unit there is no entry
no_entry_past : (r : Linkable) (u id at : ℕ) → length r.units ≤ u → IsEntryAt (unit_at r u).forest id at → ⊥
no_entry_past r u id at past stands =
    let none : unit_at r u ≡ no_unit = get_or_past r.units u no_unit past in
    let inside : id < 0 = subst (λ (z : UnitRead). id < length z.forest.entries) none stands.0 in
    absurd (omega arith)

-- so what counts in a unit names at most the generic type, which stays 0
pub nothing_named : (r : Linkable) (places : List Places) (u : ℕ) (named : Named) (code n : ℕ) (thing : OpTarget) → length r.units ≤ u → named ≢ SectionEntry → LinksReference r u named code n thing → IsNewReference r places u named code n 0
nothing_named r places u Nothing code n thing past other names = tt
nothing_named r places u BaseType code n thing past other (inl (g, e)) = inl (g, refl)
nothing_named r places u BaseType code n thing past other (inr (f, (x, at, e))) = absurd (no_entry_past r u x ((unit_at r u).head.at + n) past at)
nothing_named r places u UnitEntry code n thing past other (x, at, e) = absurd (no_entry_past r u x ((unit_at r u).head.at + n) past at)
nothing_named r places u SectionEntry code n thing past other names = absurd (other refl)

pub none_past : (file : List ℕ) (world : World) (r : Reading) → Holds file world r → length r.links.units ≤ length world.units
none_past file world r holds = omega (arith, held_count file world r holds)

-- what counts from the first byte of .debug_info names the same in an expression of any unit
pub section_found : (r : Linkable) (u : ℕ) (op : Op) (link : OpLink) → named_by op.code ≡ SectionEntry → IsNamedThing (NamesSectionEntry r op.a) (Some link) → IsOpLinkFound r u op (Some link)
section_found r u op link named (thing, names, tells) = (thing, subst (λ (z : Named). LinksReference r u z op.code op.a thing) (sym named) names, tells)

-- an entry that is named has a place
pub section_placed : (file : List ℕ) (world : World) (r : Reading) (places : List Places) (op : Op) (other id : ℕ) → Holds file world r → AllHavePlaces world places → named_by op.code ≡ SectionEntry → IsNamedThing (NamesSectionEntry r.links op.a) (Some (op_link.Entry other id)) → (u : ℕ) × IsEntryPlaced places u (named_by op.code) other id
section_placed file world r places op other id holds all named (thing, (unit, x, inside, at, e), tells) =
    let known : unit < length world.units = omega (arith, held_count file world r holds, inside) in
    (unit, entry_placed file world r places unit op other id holds all known (section_found r.links unit op (op_link.Entry other id) named (thing, (unit, x, inside, at, e), tells)))

-- where no entry is named, the number is 0
pub section_zero : (r : Linkable) (places : List Places) (u : ℕ) (op : Op) (result : Option OpLink) → named_by op.code ≡ SectionEntry → IsNamedThing (NamesSectionEntry r op.a) result → ((other id : ℕ) → result ≡ Some (op_link.Entry other id) → ⊥) → (thing : OpTarget) → Names r u op.code op.a thing → IsNewReference r places u (named_by op.code) op.code op.a 0
section_zero r places u op None named none entry thing names = absurd (none thing (subst (λ (z : Named). LinksReference r u z op.code op.a thing) named names))
section_zero r places u op (Some link) named found entry thing names = reference_zero r places u op link (section_found r u op link named found) (λ other id e. entry other id (ap (λ (z : OpLink). Some z) e))

-- ---- the references of some operations

nothing_unnamed : (r : Linkable) (places : List Places) (u : ℕ) (named : Named) (code n new : ℕ) → named ≡ Nothing → IsNewReference r places u named code n new
nothing_unnamed r places u named code n new none = subst (λ (z : Named). IsNewReference r places u z code n new) (sym none) tt

is_nothing : (named : Named) → (named ≢ Nothing → ⊥) → named ≡ Nothing
is_nothing Nothing other = refl
is_nothing BaseType other = absurd (other (λ e. cc (e)))
is_nothing UnitEntry other = absurd (other (λ e. cc (e)))
is_nothing SectionEntry other = absurd (other (λ e. cc (e)))

-- an operation without a reference takes any number
pub no_reference : (world : World) (places : List Places) (u : ℕ) (op : Op) (new : ℕ) → has_reference op.code ≡ false → IsReferenceOf world places u op new
no_reference world places u op new none file r thing holds names =
    nothing_unnamed r.links places u (named_by op.code) op.code op.a new (is_nothing (named_by op.code) (λ other. true≢false (sym ((reference_named op.code).1 other) ∙ none)))

abbrev with_reference : Bool → ℕ → List ℕ → List ℕ
with_reference b n ns = cond b (n ∷ ns) ns

with_more : (b : Bool) (n : ℕ) (xs ys zs : List ℕ) → xs ≡ ys ++ zs → with_reference b n xs ≡ with_reference b n ys ++ zs
with_more true n xs ys zs e = ap (λ (z : List ℕ). n ∷ z) e
with_more false n xs ys zs e = e

-- one more operation has one more number
refs_more : (ops : List Op) (numbers : List ℕ) (op : Op) (n : ℕ) → length numbers ≡ length ops → refs_among (ops ++ op ∷ []) (numbers ++ n ∷ []) ≡ refs_among ops numbers ++ with_reference (has_reference op.code) n []
refs_more [] [] op n count = refl
refs_more [] (m ∷ ms) op n count = absurd (omega arith)
refs_more (o ∷ ops) [] op n count = absurd (omega arith)
refs_more (o ∷ ops) (m ∷ ms) op n count = with_more (has_reference o.code) m (refs_among (ops ++ op ∷ []) (ms ++ n ∷ [])) (refs_among ops ms) (with_reference (has_reference op.code) n []) (refs_more ops ms op n (omega arith))

pub no_references : (world : World) (places : List Places) (u : ℕ) (ops : List Op) (refs : List ℕ) → refs ≡ [] → AreListReferences world places u (take 0 ops) refs
no_references world places u ops refs none = record { numbers = []; count = refl; fit = λ k less. absurd (omega arith); each = λ k less. absurd (omega arith); taken = none }

module _ (world : World) (places : List Places) (u : ℕ) (ops : List Op) (refs : List ℕ) (old : AreListReferences world places u ops refs) (op : Op) (new : ℕ) (fits : new < 2 ^ 32) (is : IsReferenceOf world places u op new) where
  count_more : length (old.numbers ++ new ∷ []) ≡ length (ops ++ op ∷ [])
  count_more = length_push old.numbers new ∙ ap (λ (z : ℕ). z + 1) old.count ∙ sym (length_push ops op)

  fit_more : (k : ℕ) → k < length (old.numbers ++ new ∷ []) → slice_index (old.numbers ++ new ∷ []) k < 2 ^ 32
  fit_more k less = elim (cases_lt k (length old.numbers)) [
    | inl early ↦ subst (λ (z : ℕ). z < 2 ^ 32) (sym (get_or_append_left old.numbers (new ∷ []) 0 k early)) (old.fit k early)
    | inr late ↦ subst (λ (z : ℕ). z < 2 ^ 32) (sym (get_or_push old.numbers new 0 k (omega (arith, less, late, length_push old.numbers new)))) fits
  ]

  each_more : (k : ℕ) → k < length (ops ++ op ∷ []) → IsReferenceOf world places u (op_at (ops ++ op ∷ []) k) (slice_index (old.numbers ++ new ∷ []) k)
  each_more k less =
      let count : length old.numbers ≡ length ops = old.count in
      elim (cases_lt k (length ops)) [
        | inl early ↦
            let number : slice_index (old.numbers ++ new ∷ []) k ≡ slice_index old.numbers k = get_or_append_left old.numbers (new ∷ []) 0 k (omega arith) in
            let here : op_at (ops ++ op ∷ []) k ≡ op_at ops k = get_or_append_left ops (op ∷ []) (op_at [] 0) k early in
            subst (λ (z : ℕ). IsReferenceOf world places u (op_at (ops ++ op ∷ []) k) z) (sym number) (subst (λ (z : Op). IsReferenceOf world places u z (slice_index old.numbers k)) (sym here) (old.each k early))
        | inr late ↦
            let end : length ops ≡ k = omega (arith, less, late, length_push ops op) in
            let number : slice_index (old.numbers ++ new ∷ []) k ≡ new = get_or_push old.numbers new 0 k (count ∙ end) in
            let here : op_at (ops ++ op ∷ []) k ≡ op = get_or_push ops op (op_at [] 0) k end in
            subst (λ (z : ℕ). IsReferenceOf world places u (op_at (ops ++ op ∷ []) k) z) (sym number) (subst (λ (z : Op). IsReferenceOf world places u z new) (sym here) is)
      ]

  more : (after : List ℕ) → after ≡ refs ++ with_reference (has_reference op.code) new [] → AreListReferences world places u (ops ++ op ∷ []) after
  more after pushed = record {
    numbers = old.numbers ++ new ∷ [];
    count = count_more;
    fit = fit_more;
    each = each_more;
    taken = pushed ∙ ap (λ (z : List ℕ). z ++ with_reference (has_reference op.code) new []) old.taken ∙ sym (refs_more ops old.numbers op new old.count);
  }

-- the next operation has a reference
pub reference_more : (world : World) (places : List Places) (u : ℕ) (ops : List Op) (n : ℕ) (refs after : List ℕ) (new : ℕ) → AreListReferences world places u (take n ops) refs → n < length ops → has_reference (op_at ops n).code ≡ true → new < 2 ^ 32 → IsReferenceOf world places u (op_at ops n) new → after ≡ refs ++ new ∷ [] → AreListReferences world places u (take (n + 1) ops) after
reference_more world places u ops n refs after new old inside has fits is pushed =
    let op = op_at ops n in
    let taken : after ≡ refs ++ with_reference (has_reference op.code) new [] = pushed ∙ ap (λ (z : Bool). refs ++ with_reference z new []) (sym has) in
    subst (λ (z : List Op). AreListReferences world places u z after) (sym (take_more ops n (op_at [] 0) inside)) (more world places u (take n ops) refs old op new fits is after taken)

-- or it has none
pub reference_none : (world : World) (places : List Places) (u : ℕ) (ops : List Op) (n : ℕ) (refs : List ℕ) → AreListReferences world places u (take n ops) refs → n < length ops → has_reference (op_at ops n).code ≡ false → AreListReferences world places u (take (n + 1) ops) refs
reference_none world places u ops n refs old inside none =
    let op = op_at ops n in
    let taken : refs ≡ refs ++ with_reference (has_reference op.code) 0 [] = sym (append-nil refs) ∙ ap (λ (z : Bool). refs ++ with_reference z 0 []) (sym none) in
    subst (λ (z : List Op). AreListReferences world places u z refs) (sym (take_more ops n (op_at [] 0) inside)) (more world places u (take n ops) refs old op 0 (omega arith) (no_reference world places u op 0 none) refs taken)

-- each fits 32 bits
with_narrow : (b : Bool) (n : ℕ) (ns : List ℕ) → n < 2 ^ 32 → All (λ (z : ℕ). z < 2 ^ 32) ns → All (λ (z : ℕ). z < 2 ^ 32) (with_reference b n ns)
with_narrow true n ns fits all = All-cons (λ (z : ℕ). z < 2 ^ 32) n ns fits all
with_narrow false n ns fits all = all

among_narrow : (ops : List Op) (numbers : List ℕ) → All (λ (z : ℕ). z < 2 ^ 32) numbers → All (λ (z : ℕ). z < 2 ^ 32) (refs_among ops numbers)
among_narrow [] numbers all = All-nil (λ (z : ℕ). z < 2 ^ 32)
among_narrow (op ∷ ops) [] all = All-nil (λ (z : ℕ). z < 2 ^ 32)
among_narrow (op ∷ ops) (n ∷ ns) all = with_narrow (has_reference op.code) n (refs_among ops ns) (All-head (λ (z : ℕ). z < 2 ^ 32) n ns all) (among_narrow ops ns (All-tail (λ (z : ℕ). z < 2 ^ 32) n ns all))

pub references_narrow : (world : World) (places : List Places) (u : ℕ) (ops : List Op) (refs : List ℕ) → AreListReferences world places u ops refs → All (λ (z : ℕ). z < 2 ^ 32) refs
references_narrow world places u ops refs are =
    subst (λ (z : List ℕ). All (λ (n : ℕ). n < 2 ^ 32) z) (sym are.taken) (among_narrow ops are.numbers (All-from_get_or (λ (n : ℕ). n < 2 ^ 32) are.numbers 0 are.fit))
