-- Entries that are picked.
use Rattle.std.proofs.Common.{◌≡◌, ◌≤◌, ◌<◌, ◌+◌, ◌-◌, ◌^◌, ℕ, List, [], ◌∷◌, ◌++◌, sym, ap, refl, subst, arith, false}
use Rattle.std.specs.Prelude.{Option, Some}
use Rattle.leb_codec.specs.Leb.{least_unsigned_len}
use Rattle.list_model.specs.declared.context.Context.{Context}
use Rattle.list_model.specs.declared.entry.EntryKind.{EntryKind}
use Rattle.list_model.specs.declared.entry.EntryKind.TheVariants.{BaseAddressx, StartxEndx, StartxLength, OffsetPair, DefaultLocation, BaseAddress, StartEnd, StartLength}
use Rattle.leb_codec.specs.LineCosts.{IsLeastCost}
use Rattle.list_model.specs.Items.{Bounds, HasBounds}
use Rattle.list_model.specs.Items.Bounds.{between}
use Rattle.list_model.specs.Costs.{entry_bytes, ItemWithin}
use Rattle.list_least.specs.Plans.{IsPick, ArePicks}
use Rattle.list_least.specs.inside.Lookups.{IsIndexOf}
use Rattle.list_least.specs.inside.Search.{AreCosts, IsBytesUnder}
use Rattle.list_least.specs.inside.Ways.{Fails, AddsPick, LackedAreZero, IsItemEntry, as_entry}
use Rattle.list_least.specs.Shortest.{FitOperands}
use Rattle.list_model.specs.Entries.{Entry}
use Rattle.list_model.specs.declared.entry.ListKind.{ListKind}
use Rattle.list_least.specs.declared.pick.Pick.{Pick}
use Rattle.list_least.specs.declared.pick.Chosen.{Chosen}
use Rattle.list_least.specs.declared.costs.Costs.{Costs}
use Rattle.list_least.proofs.Pieces.{between_is}
use Rattle.list_least.proofs.Free.{known_index, same_start, same_end, not_elsewhere}

-- what is left where the other kinds take more bytes
last_way : (addr : List ℕ) (context : Context) (base start end bytes : ℕ) (kind : EntryKind) (a b : ℕ) → Fails addr context base (between start end) StartxEndx bytes → Fails addr context base (between start end) StartxLength bytes → Fails addr context base (between start end) OffsetPair bytes → bytes < 17 → HasBounds addr context base kind a b (between start end) → entry_bytes kind a b ≤ bytes → (start ≤ end) × (9 + least_unsigned_len (end - start) ≤ bytes)
last_way addr context base start end bytes StartxEndx a b f g h few has le = absurd (omega (arith, f a b has, le))
last_way addr context base start end bytes StartxLength a b f g h few has le = absurd (omega (arith, g a b has, le))
last_way addr context base start end bytes OffsetPair a b f g h few has le = absurd (omega (arith, h a b has, le))
last_way addr context base start end bytes DefaultLocation a b f g h few has le = absurd (not_elsewhere start end has)
last_way addr context base start end bytes StartEnd a b f g h few has le = absurd (omega (arith, few, le))
last_way addr context base start end bytes StartLength a b f g h few has le =
    let p : start ≡ a = same_start start end a (a + b) has in
    let q : end ≡ a + b = same_end start end a (a + b) has in
    let d : end - start ≡ b = omega (arith, p, q) in
    let m : least_unsigned_len (end - start) ≡ least_unsigned_len b = ap least_unsigned_len d in
    (omega (arith, p, q), omega (arith, le, m))
last_way addr context base start end bytes BaseAddressx a b f g h few has le = absurd has
last_way addr context base start end bytes BaseAddress a b f g h few has le = absurd has

pub last_kind : (addr : List ℕ) (context : Context) (base start end bytes : ℕ) → ItemWithin addr context base (between start end) bytes → Fails addr context base (between start end) StartxEndx bytes → Fails addr context base (between start end) StartxLength bytes → Fails addr context base (between start end) OffsetPair bytes → bytes < 17 → (start ≤ end) × (9 + least_unsigned_len (end - start) ≤ bytes)
last_kind addr context base start end bytes w f g h few = last_way addr context base start end bytes w.0 w.1 w.2 f g h few w.3 w.4

-- ---- entries that take more

-- with two indexes
pub both_fail : (addr : List ℕ) (context : Context) (base start end bytes : ℕ) (first last : Option ℕ) → IsIndexOf addr context start first → IsIndexOf addr context end last → ((i j : ℕ) → first ≡ Some i → last ≡ Some j → bytes < 1 + least_unsigned_len i + least_unsigned_len j) → Fails addr context base (between start end) StartxEndx bytes
both_fail addr context base start end bytes first last f l more a b (s, e, i, j, is) =
    let x = known_index addr context start s a first f (sym (same_start start end s e is)) i in
    let y = known_index addr context end e b last l (sym (same_end start end s e is)) j in
    omega (arith, more x.0 y.0 x.1 y.1, x.2, y.2)

-- with an index and a length
pub startx_fails : (addr : List ℕ) (context : Context) (base start end bytes : ℕ) (first : Option ℕ) → IsIndexOf addr context start first → ((i : ℕ) → first ≡ Some i → start ≤ end → bytes < 1 + least_unsigned_len i + least_unsigned_len (end - start)) → Fails addr context base (between start end) StartxLength bytes
startx_fails addr context base start end bytes first f more a b (s, i, is) =
    let x = known_index addr context start s a first f (sym (same_start start end s (s + b) is)) i in
    let p : start ≡ s = same_start start end s (s + b) is in
    let q : end ≡ s + b = same_end start end s (s + b) is in
    let d : end - start ≡ b = omega (arith, p, q) in
    let m : least_unsigned_len (end - start) ≡ least_unsigned_len b = ap least_unsigned_len d in
    omega (arith, more x.0 x.1 (omega (arith, p, q)), x.2, m)

-- the entry with a start and a length
pub length_bounds : (addr : List ℕ) (context : Context) (base start end : ℕ) (entry : Chosen) → entry ≡ record { kind = StartLength; a = start; b = end - start } → start ≤ end → HasBounds addr context base entry.kind entry.a entry.b (between start end)
length_bounds addr context base start end entry e le =
    let d : end ≡ start + (end - start) = omega (arith, le) in
    subst (λ (z : Chosen). HasBounds addr context base z.kind z.a z.b (between start end)) (sym e) (ap (between start) d)

pub length_few : (start end bytes : ℕ) (entry : Chosen) → entry ≡ record { kind = StartLength; a = start; b = end - start } → 9 + least_unsigned_len (end - start) ≤ bytes → entry_bytes entry.kind entry.a entry.b ≤ bytes
length_few start end bytes entry e le = subst (λ (z : Chosen). entry_bytes z.kind z.a z.b ≤ bytes) (sym e) (omega (arith, le))

-- the entry with a start and an end
pub start_end_bounds : (addr : List ℕ) (context : Context) (base start end : ℕ) (entry : Chosen) → entry ≡ record { kind = StartEnd; a = start; b = end } → HasBounds addr context base entry.kind entry.a entry.b (between start end)
start_end_bounds addr context base start end entry e = subst (λ (z : Chosen). HasBounds addr context base z.kind z.a z.b (between start end)) (sym e) refl

pub start_end_few : (start end bytes : ℕ) (entry : Chosen) → entry ≡ record { kind = StartEnd; a = start; b = end } → 17 ≤ bytes → entry_bytes entry.kind entry.a entry.b ≤ bytes
start_end_few start end bytes entry e le = subst (λ (z : Chosen). entry_bytes z.kind z.a z.b ≤ bytes) (sym e) (omega (arith, le))

-- operands of 64 bits, where each that the kind lacks is 0
pub fit_operands : (kind : EntryKind) (a b : ℕ) → a < 2 ^ 64 → b < 2 ^ 64 → LackedAreZero kind a b → FitOperands kind a b
fit_operands BaseAddressx a b p q z = record { first = p; second = z }
fit_operands StartxEndx a b p q z = record { first = p; second = q }
fit_operands StartxLength a b p q z = record { first = p; second = q }
fit_operands OffsetPair a b p q z = record { first = p; second = q }
fit_operands DefaultLocation a b p q z = record { first = z.0; second = z.1 }
fit_operands BaseAddress a b p q z = record { first = p; second = z }
fit_operands StartEnd a b p q z = record { first = p; second = q }
fit_operands StartLength a b p q z = record { first = p; second = q }

-- one more pick
add_pick : (list : ListKind) (picks : List Pick) (pick : Pick) (entry : Entry) (entries : List Entry) → IsPick list pick entry → ArePicks list picks entries → ArePicks list (picks ++ pick ∷ []) (entries ++ entry ∷ [])
add_pick list [] pick entry [] one all = (one, tt)
add_pick list (p ∷ ps) pick entry (e ∷ es) one all = (all.0, add_pick list ps pick entry es one all.1)
add_pick list [] pick entry (e ∷ es) one all = absurd all
add_pick list (p ∷ ps) pick entry [] one all = absurd all

pub adds_pick : (list : ListKind) (old new : List Pick) (pick : Pick) (entry : Entry) → IsPick list pick entry → new ≡ old ++ pick ∷ [] → AddsPick list old entry new
adds_pick list old new pick entry one e entries all = subst (λ (z : List Pick). ArePicks list z (entries ++ entry ∷ [])) (sym e) (add_pick list old pick entry entries one all)

-- ---- the entry of an item

pub entry_is : (addr : List ℕ) (context : Context) (base bytes : ℕ) (item : Bounds) (costs : Costs) (entry : Chosen) → AreCosts addr context item costs → costs.whole ≡ false → IsBytesUnder costs base bytes → HasBounds addr context base entry.kind entry.a entry.b (between costs.start costs.end) → entry_bytes entry.kind entry.a entry.b ≤ bytes → IsItemEntry addr context base item (as_entry entry)
entry_is addr context base bytes item costs entry are w least has few =
    let h : HasBounds addr context base entry.kind entry.a entry.b item = subst (λ (z : Bounds). HasBounds addr context base entry.kind entry.a entry.b z) (between_is addr context item costs are w) has in
    let l : IsLeastCost (ItemWithin addr context base item) bytes = least addr context item are in
    record { has = h; least = record { enough = (entry.kind, entry.a, entry.b, h, omega arith); least = λ n within. omega (arith, l.least n within, few) } }

-- so many bytes as between its addresses
pub least_between : (addr : List ℕ) (context : Context) (base bytes : ℕ) (item : Bounds) (costs : Costs) → AreCosts addr context item costs → costs.whole ≡ false → IsBytesUnder costs base bytes → ItemWithin addr context base (between costs.start costs.end) bytes
least_between addr context base bytes item costs are w least =
    subst (λ (z : Bounds). ItemWithin addr context base z bytes) (sym (between_is addr context item costs are w)) (least addr context item are).enough

none_lacked : (addr : List ℕ) (context : Context) (base start end : ℕ) (kind : EntryKind) (a b : ℕ) → HasBounds addr context base kind a b (between start end) → LackedAreZero kind a b
none_lacked addr context base start end BaseAddressx a b has = absurd has
none_lacked addr context base start end StartxEndx a b has = tt
none_lacked addr context base start end StartxLength a b has = tt
none_lacked addr context base start end OffsetPair a b has = tt
none_lacked addr context base start end DefaultLocation a b has = absurd (not_elsewhere start end has)
none_lacked addr context base start end BaseAddress a b has = absurd has
none_lacked addr context base start end StartEnd a b has = tt
none_lacked addr context base start end StartLength a b has = tt

pub entry_lacks : (addr : List ℕ) (context : Context) (base : ℕ) (item : Bounds) (costs : Costs) (entry : Chosen) → AreCosts addr context item costs → costs.whole ≡ false → IsItemEntry addr context base item (as_entry entry) → LackedAreZero entry.kind entry.a entry.b
entry_lacks addr context base item costs entry are w is =
    none_lacked addr context base costs.start costs.end entry.kind entry.a entry.b (subst (λ (z : Bounds). HasBounds addr context base entry.kind entry.a entry.b z) (sym (between_is addr context item costs are w)) is.has)
