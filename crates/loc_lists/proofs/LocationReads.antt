-- Location lists that are read.
use Rattle.std.proofs.Common.{◌≡◌, ◌≤◌, ◌<◌, ◌+◌, ◌-◌, ◌^◌, ◌++◌, ◌∙◌, ℕ, List, [], ◌∷◌, length, take, drop, sym, ap, refl, subst, arith, inl, inr, true, false}
use Rattle.std.specs.Prelude.{not}
use Rattle.std.proofs.lemmas.Bool.{not-false, not-true}
use Rattle.std.proofs.lemmas.List.{append_assoc, append-nil, length-append, length-drop, drop-take, drop-drop, take-append-drop}
use Rattle.spelled.specs.Spelled.{FaultUntilEnd}
use Rattle.spelled.proofs.Parts.{take_sum, length_part}
use Rattle.leb_codec.specs.Leb.{SpellsUnsigned, Uleb}
use Rattle.dw_base.specs.declared.fault.Span.{Span}
use Rattle.dw_base.specs.declared.fault.Kind.{Kind}
use Rattle.dw_base.specs.declared.fault.Kind.TheVariants.{Limit, Short}
use Rattle.dw_base.specs.declared.fault.Fault.{Fault}
use Rattle.dw_base.specs.declared.fault.Reach.{Reach}
use Rattle.dw_base.specs.Refusals.{IsFaultOf}
use Rattle.fixed_width.specs.InitialLengths.{unit_end}
use Rattle.list_model.specs.declared.contribution.Contribution.{Contribution}
use Rattle.list_model.specs.declared.entry.ListKind.TheVariants.{Locations}
use Rattle.list_model.specs.declared.entry.RawEntry.{RawEntry}
use Rattle.list_model.specs.declared.read.ReadEntry.{ReadEntry}
use Rattle.list_model.specs.Contributions.{IsContribution, part_end, bytes_from}
use Rattle.list_model.specs.Entries.{Entry, BeginsWithEnd}
use Rattle.list_model.specs.Items.{sets_base}
use Rattle.list_model.specs.Reading.{AreReadFrom, IsReadEntry, list_entry_limit}
use Rattle.loc_lists.specs.declared.read.ReadLocation.{ReadLocation}
use Rattle.loc_lists.specs.Locations.{IsCutOff, FaultExpression, SpellsLocation, FaultLocation, IsRead, IsLocationList, FaultLocations, FaultLocationList, is_item, bytes_in, entries_of, AreLocationEntries}
use Rattle.loc_lists.specs.inside.Reads.{IsReadExpression, IsReadLocation}
use Rattle.loc_lists.proofs.ItemLaws.{item_says}
use Rattle.loc_lists.proofs.Spans.{behind_setter, behind_item, fault_item, span_setter, span_item, span_inside}
use Rattle.loc_lists.proofs.LocationLaws.{said, joined, counted}

-- ---- parts of bytes

-- bytes in two parts
part_and : (bytes : List ℕ) (at mid end : ℕ) → at ≤ mid → mid ≤ end → take (end - at) (drop at bytes) ≡ take (mid - at) (drop at bytes) ++ take (end - mid) (drop mid bytes)
part_and bytes at mid end low high =
    let size : end - at ≡ (mid - at) + (end - mid) = omega arith in
    let there : at + (mid - at) ≡ mid = omega arith in
    ap (λ (z : ℕ). take z (drop at bytes)) size ∙ take_sum (mid - at) (end - mid) (drop at bytes) ∙ ap (λ (z : List ℕ). take (mid - at) (drop at bytes) ++ take (end - mid) z) (drop-drop (mid - at) at bytes ∙ ap (λ (z : ℕ). drop z bytes) there)

-- a part and all that follows
pub rest_and : (bytes : List ℕ) (at mid : ℕ) → at ≤ mid → drop at bytes ≡ take (mid - at) (drop at bytes) ++ drop mid bytes
rest_and bytes at mid low =
    let there : at + (mid - at) ≡ mid = omega arith in
    sym (take-append-drop (mid - at) (drop at bytes)) ∙ ap (λ (z : List ℕ). take (mid - at) (drop at bytes) ++ z) (drop-drop (mid - at) at bytes ∙ ap (λ (z : ℕ). drop z bytes) there)

pub part_length : (bytes : List ℕ) (at end : ℕ) → at ≤ end → end ≤ length bytes → length (take (end - at) (drop at bytes)) ≡ end - at
part_length bytes at end low high = length_part at (end - at) bytes (omega arith)

-- ---- expressions

pub expression_read : (bytes : List ℕ) (at end size : ℕ) → at ≤ end → end ≤ length bytes → size ≤ length bytes - end → SpellsUnsigned (take (end - at) (drop at bytes)) size → size < 2 ^ 64 → IsReadExpression bytes at (record { at = end; len = size })
expression_read bytes at end size low high left spelled fits =
    let own : end + size - end ≡ size = omega arith in
    let whole : take (end + size - at) (drop at bytes) ≡ take (end - at) (drop at bytes) ++ take size (drop end bytes) =
    part_and bytes at end (end + size) low (omega arith) ∙ ap (λ (z : ℕ). take (end - at) (drop at bytes) ++ take z (drop end bytes)) own in
    record {
      after = low;
      inside = omega arith;
      spelled = record {
        head = take (end - at) (drop at bytes);
        count = subst (λ (z : ℕ). Uleb z (take (end - at) (drop at bytes))) (sym (length_part end size bytes (omega arith))) (spelled, fits);
        whole = whole;
      };
    }

pub expression_cut : (bytes : List ℕ) (at end size origin : ℕ) (fault : Fault) → at ≤ end → end ≤ length bytes → length bytes - end < size → SpellsUnsigned (take (end - at) (drop at bytes)) size → size < 2 ^ 64 → fault ≡ record { kind = Short; place = origin + at } → IsFaultOf (λ kind place. FaultExpression kind place (drop at bytes)) (origin + at) fault
expression_cut bytes at end size origin fault low high left spelled fits e =
    let more : length (drop end bytes) ≡ length bytes - end = length-drop end bytes in
    let cut : IsCutOff (drop at bytes) = record {
      head = take (end - at) (drop at bytes);
      body = drop end bytes;
      size = size;
      count = (spelled, fits);
      whole = rest_and bytes at end low;
      short = omega arith;
    } in
    subst (λ (z : Fault). IsFaultOf (λ kind place. FaultExpression kind place (drop at bytes)) (origin + at) z) (sym e) (0, omega arith, (refl, inr cut))

-- ---- entries with their expressions

-- whether an entry that is read sets the base
sets_none : (raw : RawEntry) (entry : Entry) (is : is_item raw ≡ not (sets_base entry.kind)) → is_item raw ≡ true → sets_base entry.kind ≡ false
sets_none raw entry is item = not-true (sets_base entry.kind) (sym is ∙ item)

sets_one : (raw : RawEntry) (entry : Entry) (is : is_item raw ≡ not (sets_base entry.kind)) → is_item raw ≡ false → sets_base entry.kind ≡ true
sets_one raw entry is item = not-false (sets_base entry.kind) (sym is ∙ item)

-- one that sets the base
pub setter_read : (bytes : List ℕ) (at : ℕ) (read : ReadEntry) → IsReadEntry Locations bytes at read → is_item read.raw ≡ false → IsReadLocation bytes at (record { raw = read.raw; end = read.end })
setter_read bytes at read h item =
    let here = take (read.end - at) (drop at bytes) in
    let sets : sets_base h.entry.kind ≡ true = sets_one read.raw h.entry (item_says read.raw h.entry h.says) item in
    record {
      location = (h.entry, []);
      after = h.after;
      inside = h.inside;
      is = record {
        place = h.place;
        says = h.says;
        expression = span_setter h.entry.kind read.raw.expr (at + length here) sets h.without;
        spelled = (here, [], h.spelled, behind_setter h.entry.kind sets, sym (append-nil here));
      };
    }

-- one that is an item
pub item_read : (bytes : List ℕ) (at : ℕ) (read : ReadEntry) (expr : Span) → IsReadEntry Locations bytes at read → is_item read.raw ≡ true → IsReadExpression bytes read.end expr → IsReadLocation bytes at (record { raw = record { at = read.raw.at; code = read.raw.code; a = read.raw.a; b = read.raw.b; expr = expr }; end = expr.at + expr.len })
item_read bytes at read expr h item x =
    let end : ℕ = expr.at + expr.len in
    let sets : sets_base h.entry.kind ≡ false = sets_none read.raw h.entry (item_says read.raw h.entry h.says) item in
    let low : at < read.end = h.after in
    let high : read.end ≤ expr.at = x.after in
    let inside : expr.at + expr.len ≤ length bytes = x.inside in
    let size : length (take (end - at) (drop at bytes)) ≡ end - at = part_length bytes at end (omega arith) inside in
    let there : expr.at + expr.len ≡ at + length (take (end - at) (drop at bytes)) = omega arith in
    record {
      location = (h.entry, bytes_in bytes expr);
      after = omega arith;
      inside = inside;
      is = record {
        place = h.place;
        says = record { of_code = h.says.of_code; of_a = h.says.of_a; of_b = h.says.of_b };
        expression = span_item h.entry.kind expr (bytes_in bytes expr) (at + length (take (end - at) (drop at bytes))) sets (sym (length_part expr.at expr.len bytes inside)) there;
        spelled = (
          take (read.end - at) (drop at bytes),
          take (end - read.end) (drop read.end bytes),
          h.spelled,
          behind_item h.entry.kind (bytes_in bytes expr) (take (end - read.end) (drop read.end bytes)) sets x.spelled,
          part_and bytes at read.end end (omega arith) (omega arith),
        );
      };
    }

pub expression_fault : (bytes : List ℕ) (at origin : ℕ) (read : ReadEntry) (fault : Fault) → IsReadEntry Locations bytes at read → is_item read.raw ≡ true → IsFaultOf (λ kind place. FaultExpression kind place (drop read.end bytes)) (origin + read.end) fault → IsFaultOf (λ kind place. FaultLocation kind place (drop at bytes)) (origin + at) fault
expression_fault bytes at origin read fault h item (inner, e, f) =
    let first = take (read.end - at) (drop at bytes) in
    let sets : sets_base h.entry.kind ≡ false = sets_none read.raw h.entry (item_says read.raw h.entry h.says) item in
    let low : at < read.end = h.after in
    let high : read.end ≤ length bytes = h.inside in
    let size : length first ≡ read.end - at = part_length bytes at read.end (omega arith) high in
    (length first + inner, omega (arith, e, size, low), inr (h.entry, first, drop read.end bytes, inner, h.spelled, fault_item h.entry.kind fault.kind inner (drop read.end bytes) sets f, rest_and bytes at read.end (omega arith), refl))

-- an expression lies in the bytes
pub span_within : (bytes : List ℕ) (at : ℕ) (read : ReadLocation) → at ≤ length bytes → IsReadLocation bytes at read → read.raw.expr.at + read.raw.expr.len ≤ length bytes
span_within bytes at read inside h =
    let size : length (take (read.end - at) (drop at bytes)) ≡ read.end - at = part_length bytes at read.end (let low : at < read.end = h.after in omega arith) h.inside in
    let low : at < read.end = h.after in
    let high : read.end ≤ length bytes = h.inside in
    let end : read.raw.expr.at + read.raw.expr.len ≤ at + length (take (read.end - at) (drop at bytes)) = span_inside h.location.0.kind read.raw.expr h.location.1 (at + length (take (read.end - at) (drop at bytes))) h.is.expression in
    omega (arith, size, low, high, end)

-- ---- entries one after the other

-- a contribution ends in the section
pub part_within : (section : List ℕ) (part : Contribution) → IsContribution section part → part_end part ≤ length section
part_within section part h =
    let ends : part_end part ≡ unit_end section part.at = h.ends in
    let inside : unit_end section part.at ≤ length section = h.whole.inside in
    omega arith

-- these entries are read from a place up to another
pub record IsFront (bytes : List ℕ) (from : ℕ) (raws : List RawEntry) (to : ℕ) : Type 0 where
  pub locations : List (Entry × List ℕ)
  pub front : List ℕ
  pub read : AreReadFrom IsRead from raws locations front
  pub whole : drop from bytes ≡ front ++ drop to bytes
  pub place : to ≡ from + length front

pub no_front : (bytes : List ℕ) (from : ℕ) (raws : List RawEntry) → raws ≡ [] → IsFront bytes from raws from
no_front bytes from raws e = subst (λ (z : List RawEntry). IsFront bytes from z from) (sym e) (record { locations = []; front = []; read = refl; whole = refl; place = omega arith })

-- one more
read_push : (at : ℕ) (raws : List RawEntry) (locations : List (Entry × List ℕ)) (raw : RawEntry) (location : Entry × List ℕ) (a b : List ℕ) → AreReadFrom IsRead at raws locations a → IsRead (at + length a) raw location b → AreReadFrom IsRead at (raws ++ raw ∷ []) (locations ++ location ∷ []) (a ++ b)
read_push at [] [] raw location a b e h =
    let size : at + length a ≡ at = ap (λ (z : List ℕ). at + length z) e ∙ (let none : at + 0 ≡ at = omega arith in none) in
    (b, [], subst (λ (z : ℕ). IsRead z raw location b) size h, refl, ap (λ (z : List ℕ). z ++ b) e ∙ sym (append-nil b))
read_push at (x ∷ raws) (y ∷ locations) raw location a b (first, rest, g, f, e) h =
    let size : length a ≡ length first + length rest = ap length e ∙ length-append first rest in
    let there : at + length a ≡ at + length first + length rest = omega arith in
    (first, rest ++ b, g, read_push (at + length first) raws locations raw location rest b f (subst (λ (z : ℕ). IsRead z raw location b) there h), ap (λ (z : List ℕ). z ++ b) e ∙ append_assoc first rest b)
read_push at [] (y ∷ locations) raw location a b f h = absurd f
read_push at (x ∷ raws) [] raw location a b f h = absurd f

pub front_push : (bytes : List ℕ) (from to : ℕ) (raws : List RawEntry) (read : ReadLocation) → to ≤ length bytes → IsFront bytes from raws to → IsReadLocation bytes to read → IsFront bytes from (raws ++ read.raw ∷ []) read.end
front_push bytes from to raws read inside f h =
    let here = take (read.end - to) (drop to bytes) in
    let after : to < read.end = h.after in
    let end : read.end ≤ length bytes = h.inside in
    let place : to ≡ from + length f.front = f.place in
    let size : length here ≡ read.end - to = part_length bytes to read.end (omega arith) end in
    let parts : drop to bytes ≡ here ++ drop read.end bytes = rest_and bytes to read.end (omega arith) in
    let all : length (f.front ++ here) ≡ length f.front + length here = length-append f.front here in
    record {
      locations = f.locations ++ h.location ∷ [];
      front = f.front ++ here;
      read = read_push from raws f.locations read.raw h.location f.front here f.read (subst (λ (z : ℕ). IsRead z read.raw h.location here) place h.is);
      whole = f.whole ∙ ap (λ (z : List ℕ). f.front ++ z) parts ∙ sym (append_assoc f.front here (drop read.end bytes));
      place = omega arith;
    }

pub front_known : (bytes : List ℕ) (from to : ℕ) (raws : List RawEntry) → IsFront bytes from raws to → AreLocationEntries raws
front_known bytes from to raws f = (entries_of f.locations, said from raws f.locations f.front f.read)

-- ---- in a contribution

-- the bytes up to the end of a contribution
pub cut : (section : List ℕ) (part : Contribution) (at : ℕ) → at ≤ part_end part → drop at (take (part_end part) section) ≡ bytes_from section part at
cut section part at inside =
    let there : part_end part ≡ at + (part_end part - at) = omega arith in
    ap (λ (z : ℕ). drop at (take z section)) there ∙ drop-take at (part_end part - at) section

pub front_list : (section : List ℕ) (part : Contribution) (at to : ℕ) (raws : List RawEntry) → at ≤ part_end part → IsFront (take (part_end part) section) at raws to → BeginsWithEnd (drop to (take (part_end part) section)) → IsLocationList section part at raws
front_list section part at to raws inside f (end, rest, e, d) = record {
  entries = f.locations;
  front = f.front;
  end = end;
  rest = rest;
  read = f.read;
  ended = e;
  whole = sym (cut section part at inside) ∙ f.whole ∙ ap (λ (z : List ℕ). f.front ++ z) d;
}

-- a fault of an entry is one of the list
as_list : (reach : Reach) (kind : Kind) (place : ℕ) (bytes : List ℕ) → FaultUntilEnd SpellsLocation FaultLocation kind place bytes → FaultLocations reach kind place bytes
as_list reach Limit place bytes f = inr f
as_list reach _ place bytes f = f

pub front_fault : (section : List ℕ) (part : Contribution) (at to origin : ℕ) (reach : Reach) (raws : List RawEntry) (fault : Fault) → at ≤ part_end part → IsFront (take (part_end part) section) at raws to → IsFaultOf (λ kind place. FaultLocation kind place (drop to (take (part_end part) section))) (origin + to) fault → IsFaultOf (FaultLocationList section part at reach) origin fault
front_fault section part at to origin reach raws fault inside f (inner, e, g) =
    let bytes = take (part_end part) section in
    let place : to ≡ at + length f.front = f.place in
    let whole : bytes_from section part at ≡ f.front ++ drop to bytes = sym (cut section part at inside) ∙ f.whole in
    let found : FaultUntilEnd SpellsLocation FaultLocation fault.kind (length f.front + inner) (bytes_from section part at) = record { before = f.locations; front = f.front; rest = drop to bytes; inner = inner; spelled = joined at raws f.locations f.front f.read; fault = g; whole = whole; place = refl } in
    (at + (length f.front + inner), omega (arith, e), (length f.front + inner, refl, as_list reach fault.kind (length f.front + inner) (bytes_from section part at) found))

-- more entries than a list may have
front_limit : (section : List ℕ) (part : Contribution) (at to origin : ℕ) (reach : Reach) (raws : List RawEntry) → at ≤ part_end part → IsFront (take (part_end part) section) at raws to → list_entry_limit reach < length raws → IsFaultOf (FaultLocationList section part at reach) origin (record { kind = Limit; place = origin + at })
front_limit section part at to origin reach raws inside f many =
    let bytes = take (part_end part) section in
    let whole : bytes_from section part at ≡ f.front ++ drop to bytes = sym (cut section part at inside) ∙ f.whole in
    let same : length raws ≡ length f.locations = counted at raws f.locations f.front f.read in
    (at, refl, (0, omega arith, inl (refl, record { entries = f.locations; front = f.front; rest = drop to bytes; spelled = joined at raws f.locations f.front f.read; whole = whole; many = omega (arith, many, same) })))

-- a list with the most entries that it may have, and one entry more
pub full_front : (section : List ℕ) (part : Contribution) (at to origin : ℕ) (reach : Reach) (raws : List RawEntry) (read : ReadLocation) → at ≤ part_end part → to ≤ length (take (part_end part) section) → IsFront (take (part_end part) section) at raws to → IsReadLocation (take (part_end part) section) to read → length raws ≡ list_entry_limit reach → IsFaultOf (FaultLocationList section part at reach) origin (record { kind = Limit; place = origin + at })
full_front section part at to origin reach raws read inside within f h full =
    let more = front_push (take (part_end part) section) at to raws read within f h in
    let size : length (raws ++ read.raw ∷ []) ≡ length raws + 1 = length-append raws (read.raw ∷ []) in
    front_limit section part at read.end origin reach (raws ++ read.raw ∷ []) inside more (omega (arith, full, size))
