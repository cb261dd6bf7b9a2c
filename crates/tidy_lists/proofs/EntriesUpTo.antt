-- Where entries of lists end.
use Rattle.std.proofs.Common.{◌≡◌, ◌≤◌, ◌<◌, ◌+◌, ◌-◌, ◌++◌, ◌∙◌, ℕ, zero, suc, List, [], ◌∷◌, length, take, drop, get_or, refl, sym, ap, subst, arith}
use Rattle.std.specs.Prelude.{Bool, true, false, not, Option, Some, None, MatchOption}
use Rattle.std.proofs.Math.Seq.{drop-append_seam, drop-nil}
use Rattle.std.proofs.lemmas.Bool.{true≢false}
use Rattle.std.proofs.lemmas.List.{length-append, length-drop, length-take-le, take-append-drop, append-nil, append_assoc}
use Rattle.spelled.specs.Spelled.{HasUniqueFronts}
use Rattle.dw_base.specs.declared.fault.Span.{Span}
use Rattle.list_model.specs.declared.entry.EntryKind.{EntryKind}
use Rattle.list_model.specs.declared.entry.EntryKind.TheVariants.{BaseAddressx, StartxEndx, StartxLength, OffsetPair, DefaultLocation, BaseAddress, StartEnd, StartLength}
use Rattle.list_model.specs.declared.entry.ListKind.{ListKind}
use Rattle.list_model.specs.declared.entry.ListKind.TheVariants.{Ranges, Locations}
use Rattle.list_model.specs.declared.entry.RawEntry.{RawEntry}
use Rattle.list_model.specs.declared.read.ReadEntry.{ReadEntry}
use Rattle.list_model.specs.Entries.{Entry, SpellsEntry}
use Rattle.list_model.specs.Items.{sets_base}
use Rattle.list_model.specs.Reading.{AreReadFrom, IsReadEntry}
use Rattle.range_lists.specs.Ranges.{IsRead as IsRangeRead}
use Rattle.loc_lists.specs.Locations.{SpellsBehind, IsExpressionSpan, is_item}
use Rattle.loc_lists.specs.Locations.{IsRead as IsLocationRead}
use Rattle.loc_lists.proofs.ItemLaws.{item_says}
use Rattle.tidy_lists.specs.inside.Lengths.{IsBareUpTo, IsEntryUpTo, IsListUpTo}
use Rattle.tidy_lists.proofs.NumbersUpTo.{inside_from}

-- an entry that is read from a place on has as many bytes as one that stands there
pub read_end : (list : ListKind) (bytes : List ℕ) (at : ℕ) (read : ReadEntry) (entry : Entry) (first rest : List ℕ) → HasUniqueFronts (SpellsEntry list) → IsReadEntry list bytes at read → SpellsEntry list entry first → drop at bytes ≡ first ++ rest → read.end ≡ at + length first
read_end list bytes at read entry first rest unique found spelled e =
    let whole : first ++ rest ≡ take (read.end - at) (drop at bytes) ++ drop (read.end - at) (drop at bytes) = sym e ∙ sym (take-append-drop (read.end - at) (drop at bytes)) in
    let same : first ≡ take (read.end - at) (drop at bytes) = (unique entry found.entry first (take (read.end - at) (drop at bytes)) rest (drop (read.end - at) (drop at bytes)) spelled found.spelled whole).0 in
    let left : length (drop at bytes) ≡ length bytes - at = length-drop at bytes in
    let long : length (take (read.end - at) (drop at bytes)) ≡ read.end - at = length-take-le (read.end - at) (drop at bytes) (omega (arith, left, found.inside)) in
    let size : length first ≡ read.end - at = ap length same ∙ long in
    omega (arith, size, found.after)

-- THE LAST ENTRY

-- What is read of things one behind the other ends with what is read of the last one.
pub record EndsWith {V : Type 0} (IsRead : ℕ → RawEntry → V → List ℕ → Type 0) (at : ℕ) (raw : RawEntry) (bytes : List ℕ) : Type 0 where
  pub v : V
  pub before : List ℕ
  pub first : List ℕ
  pub whole : bytes ≡ before ++ first
  pub read : IsRead (at + length before) raw v first

pub last_read : {V : Type 0} (IsRead : ℕ → RawEntry → V → List ℕ → Type 0) (at : ℕ) (raws : List RawEntry) (vs : List V) (bytes : List ℕ) → AreReadFrom IsRead at raws vs bytes → (k : ℕ) (d : RawEntry) → k + 1 ≡ length raws → EndsWith IsRead at (get_or raws k d) bytes
last_read IsRead at [] [] bytes read k d count = absurd (omega arith)
last_read IsRead at [] (v ∷ vs) bytes read k d count = absurd read
last_read IsRead at (raw ∷ raws) [] bytes read k d count = absurd read
last_read IsRead at (raw ∷ []) (v ∷ []) bytes (first, rest, here, later, e) zero d count =
    let none : at + 0 ≡ at = omega arith in
    record { v = v; before = []; first = first; whole = e ∙ ap (λ (tail : List ℕ). first ++ tail) later ∙ append-nil first; read = subst (λ (n : ℕ). IsRead n raw v first) (sym none) here }
last_read IsRead at (raw ∷ []) (v ∷ w ∷ vs) bytes (first, rest, here, later, e) k d count = absurd later
last_read IsRead at (raw ∷ []) (v ∷ []) bytes (first, rest, here, later, e) (suc k) d count = absurd (omega arith)
last_read IsRead at (raw ∷ more ∷ raws) (v ∷ vs) bytes (first, rest, here, later, e) zero d count = absurd (omega arith)
last_read IsRead at (raw ∷ more ∷ raws) (v ∷ vs) bytes (first, rest, here, later, e) (suc k) d count =
    let ends = last_read IsRead (at + length first) (more ∷ raws) vs rest later k d (omega (arith, count)) in
    let size : at + length first + length ends.before ≡ at + length (first ++ ends.before) = (let whole : length (first ++ ends.before) ≡ length first + length ends.before = length-append first ends.before in omega (arith, whole)) in
    record {
      v = ends.v;
      before = first ++ ends.before;
      first = ends.first;
      whole = e ∙ ap (λ (tail : List ℕ). first ++ tail) ends.whole ∙ sym (append_assoc first ends.before ends.first);
      read = subst (λ (n : ℕ). IsRead n (get_or (more ∷ raws) k d) ends.v ends.first) size ends.read;
    }

-- CODES AND OPERANDS

-- an entry has a byte
entry_filled : (entry : Entry) (bytes : List ℕ) → SpellsEntry Locations entry bytes → 0 < length bytes
entry_filled entry bytes spelled = subst (λ (z : List ℕ). 0 < length z) (sym spelled.whole) (omega arith)

pub range_bare : (bytes : List ℕ) (raw : RawEntry) (end : ℕ) → IsEntryUpTo Ranges bytes raw end → IsBareUpTo Ranges bytes raw end
range_bare bytes raw end (entry, first, rest, read, e, there) = (entry, first, rest, read.spelled, e, there)

-- nothing stands behind the operands of an entry that sets the base
none_behind : (kind : EntryKind) (expression behind : List ℕ) → sets_base kind ≡ true → SpellsBehind kind expression behind → behind ≡ []
none_behind BaseAddressx expression behind sets spelled = spelled.0
none_behind BaseAddress expression behind sets spelled = spelled.0
none_behind StartxEndx expression behind sets spelled = absurd (true≢false (sym sets))
none_behind StartxLength expression behind sets spelled = absurd (true≢false (sym sets))
none_behind OffsetPair expression behind sets spelled = absurd (true≢false (sym sets))
none_behind DefaultLocation expression behind sets spelled = absurd (true≢false (sym sets))
none_behind StartEnd expression behind sets spelled = absurd (true≢false (sym sets))
none_behind StartLength expression behind sets spelled = absurd (true≢false (sym sets))

-- the expression of another one ends with it
span_end : (kind : EntryKind) (span : Span) (expression : List ℕ) (end : ℕ) → sets_base kind ≡ false → IsExpressionSpan kind span expression end → span.at + span.len ≡ end
span_end BaseAddressx span expression end sets lies = absurd (true≢false sets)
span_end BaseAddress span expression end sets lies = absurd (true≢false sets)
span_end StartxEndx span expression end sets lies = lies.1
span_end StartxLength span expression end sets lies = lies.1
span_end OffsetPair span expression end sets lies = lies.1
span_end DefaultLocation span expression end sets lies = lies.1
span_end StartEnd span expression end sets lies = lies.1
span_end StartLength span expression end sets lies = lies.1

not_true : (b : Bool) → true ≡ not b → b ≡ false
not_true true e = absurd (true≢false e)
not_true false e = refl

not_false : (b : Bool) → false ≡ not b → b ≡ true
not_false true e = refl
not_false false e = absurd (true≢false (sym e))

pub item_end : (bytes : List ℕ) (raw : RawEntry) (end : ℕ) → true ≡ is_item raw → IsEntryUpTo Locations bytes raw end → raw.expr.at + raw.expr.len ≡ end
item_end bytes raw end item (location, first, rest, read, e, there) =
    span_end location.0.kind raw.expr location.1 (raw.at + length first) (not_true (sets_base location.0.kind) (item ∙ item_says raw location.0 read.says)) read.expression ∙ sym there

pub item_inside : (bytes : List ℕ) (raw : RawEntry) (end : ℕ) → IsEntryUpTo Locations bytes raw end → end ≤ length bytes
item_inside bytes raw end (location, first, rest, read, e, there) =
    let parts = read.spelled in
    let own : 0 < length parts.0 = entry_filled location.0 parts.0 parts.2 in
    let size : length first ≡ length parts.0 + length parts.1 = ap length parts.4 ∙ length-append parts.0 parts.1 in
    let inside = inside_from bytes raw.at first rest (omega (arith, own, size)) e in
    omega (arith, there, inside)

pub location_bare : (bytes : List ℕ) (raw : RawEntry) (end : ℕ) → false ≡ is_item raw → IsEntryUpTo Locations bytes raw end → IsBareUpTo Locations bytes raw end
location_bare bytes raw end other (location, first, rest, read, e, there) =
    let parts = read.spelled in
    let none : parts.1 ≡ [] = none_behind location.0.kind location.1 parts.1 (not_false (sets_base location.0.kind) (other ∙ item_says raw location.0 read.says)) parts.3 in
    let whole : first ≡ parts.0 = parts.4 ∙ ap (λ (tail : List ℕ). parts.0 ++ tail) none ∙ append-nil parts.0 in
    (location.0, first, rest, subst (λ (own : List ℕ). SpellsEntry Locations location.0 own) (sym whole) parts.2, e, there)

-- WHAT IS READ

pub some_of : {A : Type 0} (Nothing : Type 0) (Holds : A → Type 0) (found : Option A) (x : A) → found ≡ Some x → MatchOption found Nothing Holds → Holds x
some_of Nothing Holds found x is holds = subst (λ (o : Option _). MatchOption o Nothing Holds) is holds

pub none_of : {A : Type 0} (Nothing : Type 0) (Holds : A → Type 0) (found : Option A) → found ≡ None → MatchOption found Nothing Holds → Nothing
none_of Nothing Holds found is holds = subst (λ (o : Option _). MatchOption o Nothing Holds) is holds

-- THE LAST ENTRY OF A LIST

pub drop_on : (n m : ℕ) (xs : List ℕ) → drop m (drop n xs) ≡ drop (n + m) xs
drop_on zero m xs = let e : m ≡ 0 + m = omega arith in ap (λ (k : ℕ). drop k xs) e
drop_on (suc n) m [] = drop-nil m ∙ sym (drop-nil (suc n + m))
drop_on (suc n) m (x ∷ xs) = drop_on n m xs ∙ (let e : suc (n + m) ≡ suc n + m = omega arith in ap (λ (k : ℕ). drop k (x ∷ xs)) e)

-- a list whose entries are none
pub no_entries : (raws : List RawEntry) → length raws ≡ 0 → raws ≡ []
no_entries [] none = refl
no_entries (raw ∷ raws) none = absurd (omega (arith, none))

-- behind a front of bytes that stand at a place others stand
behind_front : (bytes : List ℕ) (at : ℕ) (before first rest : List ℕ) → drop at bytes ≡ (before ++ first) ++ rest → drop (at + length before) bytes ≡ first ++ rest
behind_front bytes at before first rest e =
    sym (drop_on at (length before) bytes) ∙ ap (drop (length before)) (e ∙ append_assoc before first rest) ∙ drop-append_seam before (first ++ rest)

-- its last entry ends before the byte that is the end of the list
pub list_ends : (kind : ListKind) (bytes : List ℕ) (at : ℕ) (raws : List RawEntry) (end k : ℕ) (d : RawEntry) → IsListUpTo kind bytes at raws end → k + 1 ≡ length raws → (last : ℕ) × IsEntryUpTo kind bytes (get_or raws k d) last × (end ≡ last + 1)
list_ends Ranges bytes at raws end k d (entries, front, rest, read, e, there) count =
    let ends = last_read IsRangeRead at raws entries front read k d count in
    let raw : RawEntry = get_or raws k d in
    let place : raw.at ≡ at + length ends.before = ends.read.place in
    let here : drop (at + length ends.before) bytes ≡ ends.first ++ 0 ∷ rest = behind_front bytes at ends.before ends.first (0 ∷ rest) (e ∙ ap (λ (f : List ℕ). f ++ 0 ∷ rest) ends.whole) in
    let size : length front ≡ length ends.before + length ends.first = ap length ends.whole ∙ length-append ends.before ends.first in
    (raw.at + length ends.first, (ends.v, ends.first, 0 ∷ rest, subst (λ (n : ℕ). IsRangeRead n raw ends.v ends.first) (sym place) ends.read, ap (λ (n : ℕ). drop n bytes) place ∙ here, refl), omega (arith, there, size, place))
list_ends Locations bytes at raws end k d (locations, front, rest, read, e, there) count =
    let ends = last_read IsLocationRead at raws locations front read k d count in
    let raw : RawEntry = get_or raws k d in
    let place : raw.at ≡ at + length ends.before = ends.read.place in
    let here : drop (at + length ends.before) bytes ≡ ends.first ++ 0 ∷ rest = behind_front bytes at ends.before ends.first (0 ∷ rest) (e ∙ ap (λ (f : List ℕ). f ++ 0 ∷ rest) ends.whole) in
    let size : length front ≡ length ends.before + length ends.first = ap length ends.whole ∙ length-append ends.before ends.first in
    (raw.at + length ends.first, (ends.v, ends.first, 0 ∷ rest, subst (λ (n : ℕ). IsLocationRead n raw ends.v ends.first) (sym place) ends.read, ap (λ (n : ℕ). drop n bytes) place ∙ here, refl), omega (arith, there, size, place))

-- a list without entries is its end
pub list_bare : (kind : ListKind) (bytes : List ℕ) (at : ℕ) (end : ℕ) → IsListUpTo kind bytes at [] end → end ≡ at + 1
list_bare Ranges bytes at end ([], front, rest, read, e, there) = let none : length front ≡ 0 = ap length read in omega (arith, there, none)
list_bare Ranges bytes at end (v ∷ vs, front, rest, read, e, there) = absurd read
list_bare Locations bytes at end ([], front, rest, read, e, there) = let none : length front ≡ 0 = ap length read in omega (arith, there, none)
list_bare Locations bytes at end (v ∷ vs, front, rest, read, e, there) = absurd read

-- it lies inside the bytes
pub list_inside : (kind : ListKind) (bytes : List ℕ) (at : ℕ) (raws : List RawEntry) (end : ℕ) → IsListUpTo kind bytes at raws end → (at < end) × (end ≤ length bytes)
list_inside Ranges bytes at raws end (entries, front, rest, read, e, there) =
    let whole : length (front ++ 0 ∷ []) ≡ length front + 1 = length-append front (0 ∷ []) in
    let inside = inside_from bytes at (front ++ 0 ∷ []) rest (omega (arith, whole)) (e ∙ sym (append_assoc front (0 ∷ []) rest)) in
    (omega (arith, there), omega (arith, there, whole, inside))
list_inside Locations bytes at raws end (locations, front, rest, read, e, there) =
    let whole : length (front ++ 0 ∷ []) ≡ length front + 1 = length-append front (0 ∷ []) in
    let inside = inside_from bytes at (front ++ 0 ∷ []) rest (omega (arith, whole)) (e ∙ sym (append_assoc front (0 ∷ []) rest)) in
    (omega (arith, there), omega (arith, there, whole, inside))
