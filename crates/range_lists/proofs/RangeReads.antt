-- Range lists that are read.
use Rattle.std.proofs.Common.{◌≡◌, ◌≤◌, ◌<◌, ◌+◌, ◌-◌, ◌++◌, ◌∙◌, ℕ, List, [], ◌∷◌, length, take, drop, sym, ap, refl, subst, arith, inl, inr}
use Rattle.std.proofs.lemmas.List.{append_assoc, append-nil, length-append, drop-take, drop-drop, take-append-drop}
use Rattle.spelled.specs.Spelled.{FaultUntilEnd}
use Rattle.spelled.proofs.Parts.{length_part}
use Rattle.dw_base.specs.declared.fault.Kind.{Kind}
use Rattle.dw_base.specs.declared.fault.Kind.TheVariants.{Limit}
use Rattle.dw_base.specs.declared.fault.Fault.{Fault}
use Rattle.dw_base.specs.declared.fault.Reach.{Reach}
use Rattle.dw_base.specs.Refusals.{IsFaultOf}
use Rattle.list_model.specs.declared.contribution.Contribution.{Contribution}
use Rattle.list_model.specs.declared.entry.ListKind.TheVariants.{Ranges}
use Rattle.list_model.specs.declared.entry.RawEntry.{RawEntry}
use Rattle.list_model.specs.declared.read.ReadEntry.{ReadEntry}
use Rattle.fixed_width.specs.InitialLengths.{unit_end}
use Rattle.list_model.specs.Contributions.{IsContribution, part_end, bytes_from}
use Rattle.list_model.specs.Entries.{Entry, SpellsEntry, BeginsWithEnd, FaultEntry}
use Rattle.list_model.specs.Reading.{AreReadFrom, IsReadEntry, list_entry_limit}
use Rattle.range_lists.specs.Ranges.{IsRead, IsRangeList, AreRangeEntries, FaultRanges, FaultRangeList}
use Rattle.range_lists.proofs.RangeLaws.{said, joined, counted}

-- a contribution ends in the section
pub part_within : (section : List ℕ) (part : Contribution) → IsContribution section part → part_end part ≤ length section
part_within section part h =
    let ends : part_end part ≡ unit_end section part.at = h.ends in
    let inside : unit_end section part.at ≤ length section = h.whole.inside in
    omega arith

-- these entries are read from a place up to another
pub record IsFront (bytes : List ℕ) (from : ℕ) (raws : List RawEntry) (to : ℕ) : Type 0 where
  pub entries : List Entry
  pub front : List ℕ
  pub read : AreReadFrom IsRead from raws entries front
  pub whole : drop from bytes ≡ front ++ drop to bytes
  pub place : to ≡ from + length front

pub no_front : (bytes : List ℕ) (from : ℕ) (raws : List RawEntry) → raws ≡ [] → IsFront bytes from raws from
no_front bytes from raws e = subst (λ (z : List RawEntry). IsFront bytes from z from) (sym e) (record { entries = []; front = []; read = refl; whole = refl; place = omega arith })

-- one more
read_push : (at : ℕ) (raws : List RawEntry) (entries : List Entry) (raw : RawEntry) (entry : Entry) (a b : List ℕ) → AreReadFrom IsRead at raws entries a → IsRead (at + length a) raw entry b → AreReadFrom IsRead at (raws ++ raw ∷ []) (entries ++ entry ∷ []) (a ++ b)
read_push at [] [] raw entry a b e h =
    let size : at + length a ≡ at = ap (λ (z : List ℕ). at + length z) e ∙ (let none : at + 0 ≡ at = omega arith in none) in
    (b, [], subst (λ (z : ℕ). IsRead z raw entry b) size h, refl, ap (λ (z : List ℕ). z ++ b) e ∙ sym (append-nil b))
read_push at (x ∷ raws) (y ∷ entries) raw entry a b (first, rest, g, f, e) h =
    let size : length a ≡ length first + length rest = ap length e ∙ length-append first rest in
    let there : at + length a ≡ at + length first + length rest = omega arith in
    (first, rest ++ b, g, read_push (at + length first) raws entries raw entry rest b f (subst (λ (z : ℕ). IsRead z raw entry b) there h), ap (λ (z : List ℕ). z ++ b) e ∙ append_assoc first rest b)
read_push at [] (y ∷ entries) raw entry a b f h = absurd f
read_push at (x ∷ raws) [] raw entry a b f h = absurd f

pub front_push : (bytes : List ℕ) (from to : ℕ) (raws : List RawEntry) (read : ReadEntry) → to ≤ length bytes → IsFront bytes from raws to → IsReadEntry Ranges bytes to read → IsFront bytes from (raws ++ read.raw ∷ []) read.end
front_push bytes from to raws read inside f h =
    let size = read.end - to in
    let here = take size (drop to bytes) in
    let after : to < read.end = h.after in
    let end : read.end ≤ length bytes = h.inside in
    let place : to ≡ from + length f.front = f.place in
    let len : length here ≡ size = length_part to size bytes (omega arith) in
    let there : to + size ≡ read.end = omega arith in
    let parts : drop to bytes ≡ here ++ drop read.end bytes = sym (take-append-drop size (drop to bytes)) ∙ ap (λ (z : List ℕ). here ++ z) (drop-drop size to bytes ∙ ap (λ (z : ℕ). drop z bytes) there) in
    let all : length (f.front ++ here) ≡ length f.front + length here = length-append f.front here in
    let one : IsRead to read.raw h.entry here = record { place = h.place; says = h.says; without = h.without; spelled = h.spelled } in
    record {
      entries = f.entries ++ h.entry ∷ [];
      front = f.front ++ here;
      read = read_push from raws f.entries read.raw h.entry f.front here f.read (subst (λ (z : ℕ). IsRead z read.raw h.entry here) place one);
      whole = f.whole ∙ ap (λ (z : List ℕ). f.front ++ z) parts ∙ sym (append_assoc f.front here (drop read.end bytes));
      place = omega arith;
    }

pub front_known : (bytes : List ℕ) (from to : ℕ) (raws : List RawEntry) → IsFront bytes from raws to → AreRangeEntries raws
front_known bytes from to raws f = (f.entries, said from raws f.entries f.front f.read)

-- ---- in a contribution

-- the bytes up to the end of a contribution
cut : (section : List ℕ) (part : Contribution) (at : ℕ) → at ≤ part_end part → drop at (take (part_end part) section) ≡ bytes_from section part at
cut section part at inside =
    let there : part_end part ≡ at + (part_end part - at) = omega arith in
    ap (λ (z : ℕ). drop at (take z section)) there ∙ drop-take at (part_end part - at) section

pub front_list : (section : List ℕ) (part : Contribution) (at to : ℕ) (raws : List RawEntry) → at ≤ part_end part → IsFront (take (part_end part) section) at raws to → BeginsWithEnd (drop to (take (part_end part) section)) → IsRangeList section part at raws
front_list section part at to raws inside f (end, rest, e, d) = record {
  entries = f.entries;
  front = f.front;
  end = end;
  rest = rest;
  read = f.read;
  ended = e;
  whole = sym (cut section part at inside) ∙ f.whole ∙ ap (λ (z : List ℕ). f.front ++ z) d;
}

-- a fault of an entry is one of the list
as_list : (reach : Reach) (kind : Kind) (place : ℕ) (bytes : List ℕ) → FaultUntilEnd (SpellsEntry Ranges) (FaultEntry Ranges) kind place bytes → FaultRanges reach kind place bytes
as_list reach Limit place bytes f = inr f
as_list reach _ place bytes f = f

pub front_fault : (section : List ℕ) (part : Contribution) (at to origin : ℕ) (reach : Reach) (raws : List RawEntry) (fault : Fault) → at ≤ part_end part → IsFront (take (part_end part) section) at raws to → IsFaultOf (λ kind place. FaultEntry Ranges kind place (drop to (take (part_end part) section))) (origin + to) fault → IsFaultOf (FaultRangeList section part at reach) origin fault
front_fault section part at to origin reach raws fault inside f (inner, e, g) =
    let bytes = take (part_end part) section in
    let place : to ≡ at + length f.front = f.place in
    let whole : bytes_from section part at ≡ f.front ++ drop to bytes = sym (cut section part at inside) ∙ f.whole in
    let found : FaultUntilEnd (SpellsEntry Ranges) (FaultEntry Ranges) fault.kind (length f.front + inner) (bytes_from section part at) = record { before = f.entries; front = f.front; rest = drop to bytes; inner = inner; spelled = joined at raws f.entries f.front f.read; fault = g; whole = whole; place = refl } in
    (at + (length f.front + inner), omega (arith, e), (length f.front + inner, refl, as_list reach fault.kind (length f.front + inner) (bytes_from section part at) found))

-- more entries than a list may have
front_limit : (section : List ℕ) (part : Contribution) (at to origin : ℕ) (reach : Reach) (raws : List RawEntry) → at ≤ part_end part → IsFront (take (part_end part) section) at raws to → list_entry_limit reach < length raws → IsFaultOf (FaultRangeList section part at reach) origin (record { kind = Limit; place = origin + at })
front_limit section part at to origin reach raws inside f many =
    let bytes = take (part_end part) section in
    let whole : bytes_from section part at ≡ f.front ++ drop to bytes = sym (cut section part at inside) ∙ f.whole in
    let same : length raws ≡ length f.entries = counted at raws f.entries f.front f.read in
    (at, refl, (0, omega arith, inl (refl, record { entries = f.entries; front = f.front; rest = drop to bytes; spelled = joined at raws f.entries f.front f.read; whole = whole; many = omega (arith, many, same) })))

-- a list with the most entries that it may have, and one entry more
pub full_front : (section : List ℕ) (part : Contribution) (at to origin : ℕ) (reach : Reach) (raws : List RawEntry) (read : ReadEntry) → at ≤ part_end part → to ≤ length (take (part_end part) section) → IsFront (take (part_end part) section) at raws to → IsReadEntry Ranges (take (part_end part) section) to read → length raws ≡ list_entry_limit reach → IsFaultOf (FaultRangeList section part at reach) origin (record { kind = Limit; place = origin + at })
full_front section part at to origin reach raws read inside within f h full =
    let more = front_push (take (part_end part) section) at to raws read within f h in
    let size : length (raws ++ read.raw ∷ []) ≡ length raws + 1 = length-append raws (read.raw ∷ []) in
    front_limit section part at read.end origin reach (raws ++ read.raw ∷ []) inside more (omega (arith, full, size))
