-- The shortest bytes of entries.
use Rattle.std.proofs.Common.{◌≡◌, ◌≤◌, ◌<◌, ◌+◌, ◌^◌, ◌∙◌, ℕ, zero, suc, List, [], ◌∷◌, ◌++◌, length, sym, ap, refl, subst, arith}
use Rattle.std.specs.Prelude.{Some}
use Rattle.std.specs.Int.{bytes_low_first, byte_at}
use Rattle.std.proofs.lemmas.List.{length-append, append-nil}
use Rattle.byteorder.specs.Numbers.{length-bytes_low_first}
use Rattle.spelled.specs.Spelled.{AreBytes, Joined}
use Rattle.leb_codec.specs.Leb.{least_unsigned_len}
use Rattle.leb_codec.proofs.SpellingLaws.{unsigned_spellings}
use Rattle.fixed_width.specs.Numbers.{number}
use Rattle.fixed_width.proofs.Numbers.{number_back}
use Rattle.list_model.specs.declared.entry.ListKind.{ListKind}
use Rattle.list_model.specs.declared.entry.Operand.{Operand}
use Rattle.list_model.specs.declared.entry.Operand.TheVariants.{Absent, Number, Address}
use Rattle.list_model.specs.Entries.{Entry, code_of, SpellsOperand, SpellsEntry, SpellsList, first_operand, second_operand}
use Rattle.list_model.specs.Items.{GiveFrom}
use Rattle.list_model.proofs.EntryLaws.{one_kind, same_entry}
use Rattle.list_model.specs.Costs.{operand_bytes}
use Rattle.list_least.specs.Laws.{ShortestLists, PlannedLeast, FrozenLeast}
use Rattle.list_model.specs.Members.{IsLeastList}
use Rattle.list_least.specs.Plans.{entries_bytes, IsPick, ArePicks}
use Rattle.list_least.specs.Shortest.{FitsOperand, FitOperands, ShortestEntry, ShortestList}
use Rattle.list_least.specs.declared.pick.Pick.{Pick}
use Rattle.fixed_width.proofs.Numbers.{number_small}
use Rattle.list_least.proofs.Bound.{entry_least, plans_least, accepted_bound}

-- ---- each entry has some

byte_small : (i n : ℕ) → byte_at i n < 256
byte_small zero n = omega arith
byte_small (suc i) n = omega arith

low_small : (i m n : ℕ) → AreBytes (bytes_low_first i m n)
low_small i zero n k lt = absurd (omega arith)
low_small i (suc m) n zero lt = byte_small i n
low_small i (suc m) n (suc k) lt = low_small (suc i) m n k (omega arith)

number_low : (value : ℕ) → value < 256 ^ 8 → number 8 (bytes_low_first 0 8 value) ≡ value
number_low value fits = ap (number 8) (sym (append-nil (bytes_low_first 0 8 value))) ∙ number_back 8 value [] fits

operand_some : (operand : Operand) (value : ℕ) → FitsOperand operand value → (bytes : List ℕ) × SpellsOperand operand value bytes × (length bytes ≡ operand_bytes operand value)
operand_some Absent value fits = ([], (refl, fits), refl)
operand_some Number value fits =
    let x = unsigned_spellings.each_len value (least_unsigned_len value) (omega arith) in
    (x.0, (x.1, fits), x.2)
operand_some Address value fits =
    let n : length (bytes_low_first 0 8 value) ≡ 8 = length-bytes_low_first 0 8 value in
    (bytes_low_first 0 8 value, record { size = n; bounded = low_small 0 8 value; is = sym (number_low value fits) }, n)

entry_some : (list : ListKind) (entry : Entry) (code : ℕ) → code_of list entry.kind ≡ Some code → FitOperands entry.kind entry.a entry.b → (bytes : List ℕ) × ShortestEntry list entry bytes
entry_some list entry code known fit =
    let x = operand_some (first_operand entry.kind) entry.a fit.first in
    let y = operand_some (second_operand entry.kind) entry.b fit.second in
    (code ∷ (x.0 ++ y.0), (record { code = code; operands = x.0 ++ y.0; known = known; spelled = (x.0, y.0, x.1, y.1, refl); whole = refl }, omega (arith, x.2, y.2, length-append x.0 y.0)))

entries_some : (list : ListKind) (picks : List Pick) (entries : List Entry) → ArePicks list picks entries → (bytes : List ℕ) × Joined (ShortestEntry list) entries bytes
entries_some list [] [] all = ([], refl)
entries_some list (pick ∷ picks) (entry ∷ entries) all =
    let x = entry_some list entry pick.code all.0.code all.0.operands in
    let y = entries_some list picks entries all.1 in
    (x.0 ++ y.0, (x.0, y.0, x.1, y.1, refl))
entries_some list [] (entry ∷ entries) all = absurd all
entries_some list (pick ∷ picks) [] all = absurd all

ended : (list : ListKind) (entries : List Entry) → ((bytes : List ℕ) × Joined (ShortestEntry list) entries bytes) → (bytes : List ℕ) × ShortestList list entries bytes
ended list entries x = (x.0 ++ 0 ∷ [], (x.0, 0 ∷ [], x.1, refl, refl))

-- an operand that bytes spell
operand_fits : (operand : Operand) (value : ℕ) (bytes : List ℕ) → SpellsOperand operand value bytes → FitsOperand operand value
operand_fits Absent value bytes s = s.1
operand_fits Number value bytes s = s.1
operand_fits Address value bytes s = subst (λ (z : ℕ). z < 2 ^ 64) (sym s.is) (number_small 8 bytes s.bounded)

frozen_some : (list : ListKind) (entries : List Entry) (bytes : List ℕ) → Joined (SpellsEntry list) entries bytes → (shortest : List ℕ) × Joined (ShortestEntry list) entries shortest
frozen_some list [] bytes joined = ([], refl)
frozen_some list (entry ∷ entries) bytes (first, rest, s, joined, e) =
    let o = s.spelled in
    let fit : FitOperands entry.kind entry.a entry.b = record { first = operand_fits (first_operand entry.kind) entry.a o.0 o.2; second = operand_fits (second_operand entry.kind) entry.b o.1 o.3 } in
    let x = entry_some list entry s.code s.known fit in
    let y = frozen_some list entries rest joined in
    (x.0 ++ y.0, (x.0, y.0, x.1, y.1, refl))

-- ---- what they spell, and how many they are

joined_spelled : (list : ListKind) (entries : List Entry) (bytes : List ℕ) → Joined (ShortestEntry list) entries bytes → Joined (SpellsEntry list) entries bytes
joined_spelled list [] bytes joined = joined
joined_spelled list (entry ∷ entries) bytes (first, rest, s, joined, e) = (first, rest, s.0, joined_spelled list entries rest joined, e)

joined_size : (list : ListKind) (entries : List Entry) (bytes : List ℕ) → Joined (ShortestEntry list) entries bytes → length bytes ≡ entries_bytes entries
joined_size list [] bytes joined = ap length joined
joined_size list (entry ∷ entries) bytes (first, rest, s, joined, e) =
    let n : length bytes ≡ length first + length rest = ap length e ∙ length-append first rest in
    omega (arith, n, s.1, joined_size list entries rest joined)

joined_least : (list : ListKind) (entries : List Entry) (bytes : List ℕ) → Joined (SpellsEntry list) entries bytes → entries_bytes entries ≤ length bytes
joined_least list [] bytes joined = omega arith
joined_least list (entry ∷ entries) bytes (first, rest, s, joined, e) =
    let n : length bytes ≡ length first + length rest = ap length e ∙ length-append first rest in
    omega (arith, n, entry_least list entry first s, joined_least list entries rest joined)

list_spelled : (list : ListKind) (entries : List Entry) (bytes : List ℕ) → ShortestList list entries bytes → SpellsList list entries bytes
list_spelled list entries bytes (front, end, joined, is, e) = (front, end, joined_spelled list entries front joined, is, e)

list_size : (list : ListKind) (entries : List Entry) (bytes : List ℕ) → ShortestList list entries bytes → length bytes ≡ entries_bytes entries + 1
list_size list entries bytes (front, end, joined, is, e) =
    let n : length bytes ≡ length front + length end = ap length e ∙ length-append front end in
    let f : length end ≡ 1 = ap length is in
    omega (arith, n, f, joined_size list entries front joined)

list_least : (list : ListKind) (entries : List Entry) (bytes : List ℕ) → SpellsList list entries bytes → entries_bytes entries + 1 ≤ length bytes
list_least list entries bytes (front, end, joined, is, e) =
    let n : length bytes ≡ length front + length end = ap length e ∙ length-append front end in
    let f : length end ≡ 1 = ap length is in
    omega (arith, n, f, joined_least list entries front joined)

pub shortest_lists : ShortestLists
shortest_lists = record {
  spelled = list_spelled;
  size = list_size;
  of_picks = λ list picks entries all. ended list entries (entries_some list picks entries all);
  of_frozen = λ list entries bytes s. ended list entries (frozen_some list entries s.0 s.2);
}

-- ---- and they are least

one_entry : (list : ListKind) (pick : Pick) (v w : Entry) → IsPick list pick v → IsPick list pick w → v ≡ w
one_entry list pick v w p q = same_entry v w (one_kind list v.kind w.kind pick.code p.code q.code) (sym p.a ∙ q.a) (sym p.b ∙ q.b)

one_reading : (list : ListKind) (picks : List Pick) (vs ws : List Entry) → ArePicks list picks vs → ArePicks list picks ws → vs ≡ ws
one_reading list [] [] [] p q = refl
one_reading list (pick ∷ picks) (v ∷ vs) (w ∷ ws) p q = ap (λ z. z ∷ vs) (one_entry list pick v w p.0 q.0) ∙ ap (λ z. w ∷ z) (one_reading list picks vs ws p.1 q.1)
one_reading list [] [] (w ∷ ws) p q = absurd q
one_reading list [] (v ∷ vs) ws p q = absurd p
one_reading list (pick ∷ picks) [] ws p q = absurd p
one_reading list (pick ∷ picks) (v ∷ vs) [] p q = absurd q

pub planned_least : PlannedLeast
planned_least list addr context items ps size picks entries bytes small accepted planned picked s =
    let e : planned.entries ≡ entries = one_reading list picks planned.entries entries planned.picked picked in
    let n : length bytes ≡ entries_bytes entries + 1 = list_size list entries bytes s in
    let few : entries_bytes entries + 1 ≤ size = subst (λ (z : List Entry). entries_bytes z + 1 ≤ size) e planned.bytes in
    let gives : GiveFrom addr context context.base entries items = subst (λ (z : List Entry). GiveFrom addr context context.base z items) e planned.gives in
    let least : IsLeastList list addr context items bytes = plans_least list addr context items ps size entries bytes small accepted gives (list_spelled list entries bytes s) (omega (arith, n, few)) in
    let most : size ≤ length bytes = accepted_bound list addr context items ps size bytes small accepted least.member in
    (least, omega (arith, n, few, most))

pub frozen_least : FrozenLeast
frozen_least list entries bytes s = record {
  member = list_spelled list entries bytes s;
  least = λ other m. let n = list_size list entries bytes s in let l = list_least list entries other m in omega (arith, n, l);
}
