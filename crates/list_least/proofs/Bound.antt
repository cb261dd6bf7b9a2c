-- No member of a list's class is shorter than what an accepted record says.
use Rattle.std.proofs.Common.{◌≡◌, ◌≤◌, ◌<◌, ◌+◌, ◌^◌, ◌∙◌, ℕ, zero, suc, List, [], ◌∷◌, ◌++◌, length, take, drop, sym, ap, subst, arith, inl, inr}
use Rattle.std.proofs.lemmas.List.{length-append, get_or-drop}
use Rattle.std.proofs.Math.Nat.{le_trans}
use Rattle.spelled.specs.Spelled.{AreBytes, Joined}
use Rattle.leb_codec.proofs.SpellingLaws.{unsigned_spellings}
use Rattle.fixed_width.proofs.Numbers.{all_small, number_small}
use Rattle.list_model.specs.declared.context.Context.{Context}
use Rattle.list_model.specs.declared.entry.ListKind.{ListKind}
use Rattle.list_model.specs.declared.entry.EntryKind.{EntryKind}
use Rattle.list_model.specs.declared.entry.EntryKind.TheVariants.{BaseAddressx, BaseAddress}
use Rattle.list_model.specs.declared.entry.Operand.{Operand}
use Rattle.list_model.specs.declared.entry.Operand.TheVariants.{Absent, Number, Address}
use Rattle.list_model.specs.Entries.{Entry, SpellsOperand, SpellsEntry, first_operand, second_operand}
use Rattle.list_model.specs.Items.{Bounds, SetsBase, GiveFrom, IsIndexed}
use Rattle.list_model.specs.Addresses.{address_place}
use Rattle.list_model.specs.Costs.{operand_bytes, entry_bytes, ItemWithin, BaseWithin, ItemsWithin}
use Rattle.list_least.specs.Laws.{AcceptedBound, PlansLeast}
use Rattle.list_model.specs.Potentials.{potential, OnFrom, AcceptsAt}

-- ---- the bytes of an entry

operand_least : (operand : Operand) (value : ℕ) (bytes : List ℕ) → SpellsOperand operand value bytes → operand_bytes operand value ≤ length bytes
operand_least Absent value bytes s = omega arith
operand_least Number value bytes s = unsigned_spellings.no_shorter bytes value s.0
operand_least Address value bytes s = omega (arith, s.size)

pub entry_least : (list : ListKind) (entry : Entry) (bytes : List ℕ) → SpellsEntry list entry bytes → entry_bytes entry.kind entry.a entry.b ≤ length bytes
entry_least list entry bytes s =
    let x = s.spelled in
    let e : length bytes ≡ length (s.code ∷ s.operands) = ap length s.whole in
    let f : length s.operands ≡ length x.0 + length x.1 = ap length x.4 ∙ length-append x.0 x.1 in
    let a : operand_bytes (first_operand entry.kind) entry.a ≤ length x.0 = operand_least (first_operand entry.kind) entry.a x.0 x.2 in
    let b : operand_bytes (second_operand entry.kind) entry.b ≤ length x.1 = operand_least (second_operand entry.kind) entry.b x.1 x.3 in
    omega arith

-- ---- a base is an address

dropped : (at : ℕ) (bytes : List ℕ) → AreBytes bytes → AreBytes (drop at bytes)
dropped at bytes small k lt = rw (get_or-drop at bytes k 0) (all_small bytes small (at + k))

pub address_fits : (addr : List ℕ) (context : Context) (index address : ℕ) → AreBytes addr → IsIndexed addr context index address → address < 2 ^ 64
address_fits addr context index address small (table, e, inside, is) =
    let place : ℕ = address_place table.at index in
    subst (λ (z : ℕ). z < 2 ^ 64) (sym is) (number_small 8 (drop place addr) (dropped place addr small))

-- a base that an entry with bytes sets
base_fits : (list : ListKind) (addr : List ℕ) (context : Context) (kind : EntryKind) (a base : ℕ) (bytes : List ℕ) → AreBytes addr → SpellsOperand (first_operand kind) a bytes → SetsBase addr context kind a base → base < 2 ^ 64
base_fits list addr context BaseAddressx a base bytes small s f = address_fits addr context a base small f
base_fits list addr context BaseAddress a base bytes small s f = subst (λ (z : ℕ). z < 2 ^ 64) (sym (f ∙ s.is)) (number_small 8 bytes s.bounded)
base_fits list addr context _ a base bytes small s f = absurd f

-- an entry that sets the base has no second operand
one_operand : (addr : List ℕ) (context : Context) (kind : EntryKind) (a b base : ℕ) → SetsBase addr context kind a base → entry_bytes kind a 0 ≤ entry_bytes kind a b
one_operand addr context BaseAddressx a b base f = omega arith
one_operand addr context BaseAddress a b base f = omega arith
one_operand addr context _ a b base f = absurd f

-- ---- the rest of a list

-- each of the items from the first on is accepted
abbrev pub AcceptsEach : List ℕ → Context → List Bounds → List ℕ → Type 0
AcceptsEach addr context items ps = (i : ℕ) → i < length items → AcceptsAt addr context items ps i

later : (addr : List ℕ) (context : Context) (item : Bounds) (items : List Bounds) (p : ℕ) (ps : List ℕ) → AcceptsEach addr context (item ∷ items) (p ∷ ps) → AcceptsEach addr context items ps
later addr context item items p ps each i lt = each (suc i) (omega (arith, lt))

-- a base that is set before items
set_first : (addr : List ℕ) (context : Context) (base next n : ℕ) (items : List Bounds) (ps : List ℕ) (first rest : ℕ) (taken bytes : ℕ) → AcceptsEach addr context items ps → next < 2 ^ 64 → BaseWithin addr context next first → taken ≤ length items → ItemsWithin addr context next (take taken items) bytes → bytes + potential (drop taken ps) ≤ rest → first + rest ≤ n → OnFrom addr context base items ps n
set_first addr context base next n items ps first rest zero bytes each fits sets within enough sum le = record { taken = 0; bytes = 0; within = omega arith; enough = tt; sum = omega (arith, sum, le) }
set_first addr context base next n items ps first rest (suc taken) bytes each fits sets within enough sum le =
    let p : potential ps ≤ first + bytes + potential (drop (suc taken) ps) = each 0 (omega (arith, within)) next first (suc taken) bytes fits sets (omega arith) within enough in
    record { taken = 0; bytes = 0; within = omega arith; enough = tt; sum = omega (arith, sum, le, p) }

-- an item before items
item_first : (addr : List ℕ) (context : Context) (base n : ℕ) (item : Bounds) (items : List Bounds) (p : ℕ) (ps : List ℕ) (first rest : ℕ) → ItemWithin addr context base item first → OnFrom addr context base items ps rest → first + rest ≤ n → OnFrom addr context base (item ∷ items) (p ∷ ps) n
item_first addr context base n item items p ps first rest one on le = record { taken = suc on.taken; bytes = first + on.bytes; within = omega (arith, on.within); enough = (first, on.bytes, one, on.enough, omega arith); sum = omega (arith, on.sum, le) }

joined_bytes : (bytes first rest : List ℕ) → bytes ≡ first ++ rest → length bytes ≡ length first + length rest
joined_bytes bytes first rest e = ap length e ∙ length-append first rest

-- Entries from a base on, and the end of the list, have at least the bytes of what stays under this base and a potential.
rest_bound : (list : ListKind) (addr : List ℕ) (context : Context) (base : ℕ) (entries : List Entry) (items : List Bounds) (ps bytes : List ℕ) → AreBytes addr → length ps ≡ length items → AcceptsEach addr context items ps → Joined (SpellsEntry list) entries bytes → GiveFrom addr context base entries items → OnFrom addr context base items ps (length bytes + 1)
rest_bound list addr context base [] items [] bytes small same each joined gives = record { taken = 0; bytes = 0; within = omega arith; enough = tt; sum = omega arith }
rest_bound list addr context base [] items (p ∷ ps) bytes small same each joined gives = let none : length items ≡ 0 = ap length gives in absurd (omega (arith, none, same))
rest_bound list addr context base (entry ∷ entries) items ps bytes small same each (first, rest, s, joined, e) (inl (next, sets, gives)) =
    let on = rest_bound list addr context next entries items ps rest small same each joined gives in
    let fits : next < 2 ^ 64 = base_fits list addr context entry.kind entry.a next s.spelled.0 small s.spelled.2 sets in
    let few : entry_bytes entry.kind entry.a 0 ≤ length first = le_trans (one_operand addr context entry.kind entry.a entry.b next sets) (entry_least list entry first s) in
    set_first addr context base next (length bytes + 1) items ps (length first) (length rest + 1) on.taken on.bytes each fits (entry.kind, entry.a, sets, few) on.within on.enough on.sum (omega (arith, joined_bytes bytes first rest e))
rest_bound list addr context base (entry ∷ entries) items [] bytes small same each (first, rest, s, joined, e) (inr (item, others, has, f, gives)) =
    let some : length items ≡ length (item ∷ others) = ap length f in absurd (omega (arith, some, same))
rest_bound list addr context base (entry ∷ entries) items (p ∷ ps) bytes small same each (first, rest, s, joined, e) (inr (item, others, has, f, gives)) =
    let some : length items ≡ length (item ∷ others) = ap length f in
    let each2 : AcceptsEach addr context (item ∷ others) (p ∷ ps) = subst (λ (z : List Bounds). AcceptsEach addr context z (p ∷ ps)) f each in
    let on = rest_bound list addr context base entries others ps rest small (omega (arith, some, same)) (later addr context item others p ps each2) joined gives in
    let one : ItemWithin addr context base item (length first) = (entry.kind, entry.a, entry.b, has, entry_least list entry first s) in
    subst (λ (z : List Bounds). OnFrom addr context base z (p ∷ ps) (length bytes + 1)) (sym f) (item_first addr context base (length bytes + 1) item others p ps (length first) (length rest + 1) one on (omega (arith, joined_bytes bytes first rest e)))

pub accepted_bound : AcceptedBound
accepted_bound list addr context items ps size bytes small a m =
    let s = m.spelled in
    let on = rest_bound list addr context context.base m.entries items ps s.0 small a.each a.accepted s.2 m.gives in
    let e : length bytes ≡ length s.0 + length s.1 = ap length s.4 ∙ length-append s.0 s.1 in
    let f : length s.1 ≡ 1 = ap length s.3 in
    let n : size ≤ length s.0 + 1 = a.of_size.least (length s.0 + 1) on in
    omega (arith, e, f, n)

-- and entries in so few bytes are least
pub plans_least : PlansLeast
plans_least list addr context items ps size entries bytes small accepted gives spelled few = record {
  member = record { entries = entries; spelled = spelled; gives = gives };
  least = λ other m. le_trans few (accepted_bound list addr context items ps size other small accepted m);
}
