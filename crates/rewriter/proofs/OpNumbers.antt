-- The new numbers of the references of operations.
use Rattle.std.proofs.Common.{◌≡◌, ◌≢◌, ◌≤◌, ◌<◌, ◌+◌, ◌^◌, ◌++◌, ◌∙◌, ℕ, List, [], ◌∷◌, length, slice_index, get_or, sym, ap, refl, subst, arith, inl, inr}
use Rattle.std.specs.Prelude.{Some}
use Rattle.std.proofs.lemmas.Bool.{cases_lt}
use Rattle.std.proofs.lemmas.List.{length-append, get_or_append_left, get_or_read}
use Rattle.std.proofs.Math.Seq.{get_or-append_seam}
use Rattle.dw_base.specs.declared.fault.Reach.{Reach}
use Rattle.expr_ops.specs.declared.op.Op.{Op}
use Rattle.expr_ops.specs.declared.names.Named.{Named}
use Rattle.expr_ops.specs.declared.names.Named.TheVariants.{Nothing, BaseType, UnitEntry, SectionEntry}
use Rattle.expr_ops.specs.Drafts.{op_at}
use Rattle.expr_ops.specs.Names.{named_by}
use Rattle.entry_arena.specs.Arena.{IsEntryAt}
use Rattle.entry_arena.specs.Operations.{HeldOps, no_operations}
use Rattle.unit_write.specs.declared.places.Places.{Places}
use Rattle.value_links.specs.declared.operations.OpLink.{OpLink}
use Rattle.value_links.specs.declared.operations.OpLink.TheVariants as op_link
use Rattle.value_links.specs.Reading.{Linkable, Reading, unit_at}
use Rattle.value_links.specs.Links.{IsOpLinkOf, IsOpLinkFound}
use Rattle.value_links.specs.Operations.{OpTarget, LinksReference}
use Rattle.value_links.specs.Operations.OpTarget.{NoTarget, GenericType, AnEntry}
use Rattle.value_links.specs.World.{World, operations_at, head_and_forest, Holds, IsWorldOf}
use Rattle.entry_read.specs.Units.{HeadAndForest}
use Rattle.rewriter.specs.inside.Placed.{places_at}
use Rattle.rewriter.specs.inside.Numbers.{MovesEntry, IsNewReference}
use Rattle.rewriter.specs.inside.Held.{HavePlaces, AllHavePlaces, IsEntryPlaced, IsCounted, IsReferenceOf, AreOperationsUpTo}
use Rattle.rewriter.proofs.Standing.{held_unit, held_count}

-- a link to an entry tells that the operation names it
entry_told : (target : OpTarget) (other id : ℕ) → IsOpLinkOf target (op_link.Entry other id) → target ≡ AnEntry other id
entry_told NoTarget other id e = absurd (cc (e))
entry_told GenericType other id e = absurd (cc (e))
entry_told (AnEntry unit n) other id e =
    let a : unit ≡ other = cc (e) in
    let b : n ≡ id = cc (e) in
    ap (λ (z : ℕ). AnEntry z n) a ∙ ap (AnEntry other) b

-- An entry that is named is there, and in the unit of the expression where its place counts from that.
record NamesEntry (r : Linkable) (u : ℕ) (named : Named) (other id : ℕ) : Type 0 where
  pub unit : other < length r.units
  pub entry : id < length (unit_at r other).forest.entries
  pub own : named ≢ SectionEntry → other ≡ u

own_entry : (r : Linkable) (u : ℕ) (named : Named) (n other id : ℕ) → u < length r.units → (x : ℕ) × IsEntryAt (unit_at r u).forest x ((unit_at r u).head.at + n) × (AnEntry other id ≡ AnEntry u x) → NamesEntry r u named other id
own_entry r u named n other id known (x, at, e) =
    let a : other ≡ u = cc (e) in
    let b : id ≡ x = cc (e) in
    record {
      unit = subst (λ (z : ℕ). z < length r.units) (sym a) known;
      entry = subst (λ (z : ℕ). id < length (unit_at r z).forest.entries) (sym a) (subst (λ (z : ℕ). z < length (unit_at r u).forest.entries) (sym b) at.0);
      own = λ free. a;
    }

names_entry : (r : Linkable) (u : ℕ) (named : Named) (code n other id : ℕ) → u < length r.units → LinksReference r u named code n (AnEntry other id) → NamesEntry r u named other id
names_entry r u Nothing code n other id known e = absurd (cc (e))
names_entry r u BaseType code n other id known (inl (g, e)) = absurd (cc (e))
names_entry r u BaseType code n other id known (inr (f, here)) = own_entry r u BaseType n other id known here
names_entry r u UnitEntry code n other id known here = own_entry r u UnitEntry n other id known here
names_entry r u SectionEntry code n other id known (unit, x, inside, at, e) =
    let a : other ≡ unit = cc (e) in
    let b : id ≡ x = cc (e) in
    record {
      unit = subst (λ (z : ℕ). z < length r.units) (sym a) inside;
      entry = subst (λ (z : ℕ). id < length (unit_at r z).forest.entries) (sym a) (subst (λ (z : ℕ). z < length (unit_at r unit).forest.entries) (sym b) at.0);
      own = λ free. absurd (free refl);
    }

-- so it has a place
pub entry_placed : (file : List ℕ) (world : World) (r : Reading) (places : List Places) (u : ℕ) (op : Op) (other id : ℕ) → Holds file world r → AllHavePlaces world places → u < length world.units → IsOpLinkFound r.links u op (Some (op_link.Entry other id)) → IsEntryPlaced places u (named_by op.code) other id
entry_placed file world r places u op other id holds all known (target, names, tells) =
    let size : length world.units ≡ length r.links.units = held_count file world r holds in
    let count : length places ≡ length world.units = all.count in
    let is = names_entry r.links u (named_by op.code) op.code op.a other id (omega (arith, size, known)) (subst (LinksReference r.links u (named_by op.code) op.code op.a) (entry_told target other id tells) names) in
    let inside : other < length world.units = omega (arith, size, is.unit) in
    let have : HavePlaces (head_and_forest (unit_at r.links other)).forest (places_at places other) = subst (λ (h : HeadAndForest). HavePlaces h.forest (places_at places other)) (held_unit file world r other holds) (all.each other inside) in
    let entries : length (places_at places other).entries ≡ length (unit_at r.links other).forest.entries = have.entries in
    let entry : id < length (places_at places other).entries = omega (arith, entries, is.entry) in
    record {
      own = omega (arith, count, known);
      unit = omega (arith, count, inside);
      entry = entry;
      after = λ free. subst (λ (z : ℕ). (places_at places z).start ≤ slice_index (places_at places other).entries id) (is.own free) (have.entries_after id entry);
    }

-- what it counts to
pub counted_own : (places : List Places) (u : ℕ) (named : Named) (other id new : ℕ) → named ≢ SectionEntry → slice_index (places_at places other).entries id ≡ (places_at places u).start + new → IsCounted places u named other id new
counted_own places u Nothing other id new free is = is
counted_own places u BaseType other id new free is = is
counted_own places u UnitEntry other id new free is = is
counted_own places u SectionEntry other id new free is = absurd (free refl)

-- and that is the entry's new place
moves_own : (r : Linkable) (places : List Places) (u n other id new : ℕ) → (x : ℕ) × IsEntryAt (unit_at r u).forest x ((unit_at r u).head.at + n) × (AnEntry other id ≡ AnEntry u x) → slice_index (places_at places other).entries id ≡ (places_at places u).start + new → MovesEntry (unit_at r u).forest (places_at places u) ((unit_at r u).head.at + n) ((places_at places u).start + new)
moves_own r places u n other id new (x, at, e) is =
    let a : other ≡ u = cc (e) in
    let b : id ≡ x = cc (e) in
    record {
      id = x;
      inside = at.0;
      from = at.1;
      to = subst (λ (z : ℕ). slice_index (places_at places u).entries z ≡ (places_at places u).start + new) b (subst (λ (z : ℕ). slice_index (places_at places z).entries id ≡ (places_at places u).start + new) a is);
    }

moves_counted : (r : Linkable) (places : List Places) (u : ℕ) (named : Named) (code n other id new : ℕ) → LinksReference r u named code n (AnEntry other id) → IsCounted places u named other id new → IsNewReference r places u named code n new
moves_counted r places u Nothing code n other id new e is = tt
moves_counted r places u BaseType code n other id new (inl (g, e)) is = absurd (cc (e))
moves_counted r places u BaseType code n other id new (inr (f, here)) is = inr (f, moves_own r places u n other id new here is)
moves_counted r places u UnitEntry code n other id new here is = moves_own r places u n other id new here is
moves_counted r places u SectionEntry code n other id new (unit, x, inside, at, e) is =
    let a : other ≡ unit = cc (e) in
    let b : id ≡ x = cc (e) in (
      unit,
      inside,
      record {
        id = x;
        inside = at.0;
        from = at.1;
        to = subst (λ (z : ℕ). slice_index (places_at places unit).entries z ≡ new) b (subst (λ (z : ℕ). slice_index (places_at places z).entries id ≡ new) a is);
      },
    )

pub reference_counted : (r : Linkable) (places : List Places) (u : ℕ) (op : Op) (other id new : ℕ) → IsOpLinkFound r u op (Some (op_link.Entry other id)) → IsCounted places u (named_by op.code) other id new → IsNewReference r places u (named_by op.code) op.code op.a new
reference_counted r places u op other id new (target, names, tells) is =
    moves_counted r places u (named_by op.code) op.code op.a other id new (subst (LinksReference r u (named_by op.code) op.code op.a) (entry_told target other id tells) names) is

-- where no entry is named, nothing is asked but that the generic type stays
no_entry : (target : OpTarget) (link : OpLink) (unit x : ℕ) → ((other id : ℕ) → link ≡ op_link.Entry other id → ⊥) → IsOpLinkOf target link → target ≡ AnEntry unit x → ⊥
no_entry named link unit x none tells is = none unit x (subst (λ (z : OpTarget). IsOpLinkOf z link) is tells)

stays_zero : (r : Linkable) (places : List Places) (u : ℕ) (named : Named) (code n : ℕ) (target : OpTarget) (link : OpLink) → LinksReference r u named code n target → IsOpLinkOf target link → ((other id : ℕ) → link ≡ op_link.Entry other id → ⊥) → IsNewReference r places u named code n 0
stays_zero r places u Nothing code n found link e tells none = tt
stays_zero r places u BaseType code n found link (inl (g, e)) tells none = inl (g, refl)
stays_zero r places u BaseType code n found link (inr (f, (x, at, e))) tells none = absurd (no_entry found link u x none tells e)
stays_zero r places u UnitEntry code n found link (x, at, e) tells none = absurd (no_entry found link u x none tells e)
stays_zero r places u SectionEntry code n found link (unit, x, inside, at, e) tells none = absurd (no_entry found link unit x none tells e)

pub reference_zero : (r : Linkable) (places : List Places) (u : ℕ) (op : Op) (link : OpLink) → IsOpLinkFound r u op (Some link) → ((other id : ℕ) → link ≡ op_link.Entry other id → ⊥) → IsNewReference r places u (named_by op.code) op.code op.a 0
reference_zero r places u op link (target, names, tells) none = stays_zero r places u (named_by op.code) op.code op.a target link names tells none

-- ALL OPERATIONS OF A UNIT

pub operations_count : (world : World) → ((reach : Reach) × IsWorldOf world.image reach world) → (u : ℕ) → u < length world.units → u < length world.operations
operations_count world (reach, is) u known = let count : length world.operations ≡ length world.units = is.operations.count in omega (arith, count, known)

pub operations_read : (world : World) (u : ℕ) (held : List HeldOps) (operations : HeldOps) → u < length world.operations → held ≡ world.operations → operations ≡ get_or held u operations → operations ≡ operations_at world.operations u
operations_read world u held operations inside same is =
    get_or_read world.operations u operations inside (subst (λ (z : List HeldOps). operations ≡ get_or z u operations) same is) no_operations

pub numbered_none : (world : World) (places : List Places) (u : ℕ) (numbers : List ℕ) → numbers ≡ [] → AreOperationsUpTo world places u numbers 0
numbered_none world places u numbers none =
    let empty : length numbers ≡ 0 = ap length none in
    record { size = empty; fit = λ k inside. absurd (omega (arith, empty, inside)); each = λ k below. absurd (let no : k < 0 = below in omega arith) }

module _ (numbers : List ℕ) (new : ℕ) where
  longer : length (numbers ++ new ∷ []) ≡ length numbers + 1
  longer = length-append numbers (new ∷ [])

  front : (k : ℕ) → k < length numbers → slice_index (numbers ++ new ∷ []) k ≡ slice_index numbers k
  front k inside = get_or_append_left numbers (new ∷ []) 0 k inside

  last : (k : ℕ) → length numbers ≡ k → slice_index (numbers ++ new ∷ []) k ≡ new
  last k there = subst (λ (z : ℕ). slice_index (numbers ++ new ∷ []) z ≡ new) there (get_or-append_seam numbers new [] 0)

  module _ (world : World) (places : List Places) (u count : ℕ) (op : Op) (up : AreOperationsUpTo world places u numbers count) (op_is : op ≡ op_at (operations_at world.operations u).ops count) (fits : new < 2 ^ 32) (is : IsReferenceOf world places u op new) where
    fits_all : (k : ℕ) → k < length (numbers ++ new ∷ []) → slice_index (numbers ++ new ∷ []) k < 2 ^ 32
    fits_all k inside = elim (cases_lt k (length numbers)) [
      | inl early ↦ subst (λ (z : ℕ). z < 2 ^ 32) (sym (front k early)) (up.fit k early)
      | inr late ↦ subst (λ (z : ℕ). z < 2 ^ 32) (sym (last k (omega (arith, longer, inside, late)))) fits
    ]

    is_all : (k : ℕ) → k < count + 1 → IsReferenceOf world places u (op_at (operations_at world.operations u).ops k) (slice_index (numbers ++ new ∷ []) k)
    is_all k below =
        let size : length numbers ≡ count = up.size in
        elim (cases_lt k count) [
          | inl early ↦ subst (IsReferenceOf world places u (op_at (operations_at world.operations u).ops k)) (sym (front k (omega (arith, size, early)))) (up.each k early)
          | inr late ↦
              let here : count ≡ k = omega (arith, below, late) in
              let own : IsReferenceOf world places u (op_at (operations_at world.operations u).ops k) new = subst (λ (z : ℕ). IsReferenceOf world places u (op_at (operations_at world.operations u).ops z) new) here (subst (λ (z : Op). IsReferenceOf world places u z new) op_is is) in
              subst (IsReferenceOf world places u (op_at (operations_at world.operations u).ops k)) (sym (last k (size ∙ here))) own
        ]

    pub numbered_next : (after : List ℕ) → after ≡ numbers ++ new ∷ [] → AreOperationsUpTo world places u after (count + 1)
    numbered_next after pushed =
        let size : length numbers ≡ count = up.size in
        subst (λ (z : List ℕ). AreOperationsUpTo world places u z (count + 1)) (sym pushed) (record { size = omega (arith, longer, size); fit = fits_all; each = is_all })
