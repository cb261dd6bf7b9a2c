-- The bytes of entries.
use Rattle.std.proofs.Common.{◌≡◌, ◌<◌, ◌+◌, ◌++◌, ◌∙◌, ℕ, List, [], ◌∷◌, length, take, drop, sym, ap, refl, subst, arith, inl, inr, nat_eq}
use Rattle.std.specs.Prelude.{if◌then◌else◌, Option, Some, None}
use Rattle.std.proofs.lemmas.Option.{none-some, same_Some}
use Rattle.std.proofs.lemmas.List.{length-append, take-append-drop}
use Rattle.spelled.specs.Spelled.{HasUniqueFronts, NeverBoth, EndsApart}
use Rattle.spelled.proofs.Joins.{absent_once, then_once, then_whole}
use Rattle.spelled.proofs.Parts.{same_front}
use Rattle.leb_codec.proofs.Fronts.{unique_u, leb_not_short, uleb_not_wide}
use Rattle.fixed_width.specs.Numbers.{number}
use Rattle.dw_base.specs.Refusals.{IsFaulty}
use Rattle.dw_base.specs.declared.fault.Kind.{Kind}
use Rattle.dw_base.specs.declared.fault.Kind.TheVariants.{Short, LebWide, ListEntry}
use Rattle.list_model.specs.declared.entry.ListKind.{ListKind}
use Rattle.list_model.specs.declared.entry.ListKind.TheVariants.{Ranges, Locations}
use Rattle.list_model.specs.declared.entry.EntryKind.{EntryKind}
use Rattle.list_model.specs.declared.entry.EntryKind.TheVariants.{BaseAddressx, StartxEndx, StartxLength, OffsetPair, DefaultLocation, BaseAddress, StartEnd, StartLength}
use Rattle.list_model.specs.declared.entry.Operand.{Operand}
use Rattle.list_model.specs.declared.entry.Operand.TheVariants.{Absent, Number, Address}
use Rattle.list_model.specs.Entries.{code_of, first_operand, second_operand, Entry, SpellsOperand, SpellsOperands, SpellsEntry, IsListEnd, BeginsWithEnd, FaultOperand, FaultOperands, FaultBehindCode, FaultEntry}

-- the kind of a code
abbrev kind_at : ListKind → ℕ → Option EntryKind
kind_at Ranges code =
    if nat_eq code 1 then Some BaseAddressx else
    if nat_eq code 2 then Some StartxEndx else
    if nat_eq code 3 then Some StartxLength else
    if nat_eq code 4 then Some OffsetPair else
    if nat_eq code 5 then Some BaseAddress else
    if nat_eq code 6 then Some StartEnd else
    if nat_eq code 7 then Some StartLength else
    None
kind_at Locations code =
    if nat_eq code 1 then Some BaseAddressx else
    if nat_eq code 2 then Some StartxEndx else
    if nat_eq code 3 then Some StartxLength else
    if nat_eq code 4 then Some OffsetPair else
    if nat_eq code 5 then Some DefaultLocation else
    if nat_eq code 6 then Some BaseAddress else
    if nat_eq code 7 then Some StartEnd else
    if nat_eq code 8 then Some StartLength else
    None

-- the code of a kind gives it back
kind_back : (list : ListKind) (kind : EntryKind) (code : ℕ) → code_of list kind ≡ Some code → kind_at list code ≡ Some kind
kind_back Ranges BaseAddressx code e = subst (λ (z : ℕ). kind_at Ranges z ≡ Some BaseAddressx) (same_Some 1 code e) refl
kind_back Ranges StartxEndx code e = subst (λ (z : ℕ). kind_at Ranges z ≡ Some StartxEndx) (same_Some 2 code e) refl
kind_back Ranges StartxLength code e = subst (λ (z : ℕ). kind_at Ranges z ≡ Some StartxLength) (same_Some 3 code e) refl
kind_back Ranges OffsetPair code e = subst (λ (z : ℕ). kind_at Ranges z ≡ Some OffsetPair) (same_Some 4 code e) refl
kind_back Ranges DefaultLocation code e = absurd (none-some code e)
kind_back Ranges BaseAddress code e = subst (λ (z : ℕ). kind_at Ranges z ≡ Some BaseAddress) (same_Some 5 code e) refl
kind_back Ranges StartEnd code e = subst (λ (z : ℕ). kind_at Ranges z ≡ Some StartEnd) (same_Some 6 code e) refl
kind_back Ranges StartLength code e = subst (λ (z : ℕ). kind_at Ranges z ≡ Some StartLength) (same_Some 7 code e) refl
kind_back Locations BaseAddressx code e = subst (λ (z : ℕ). kind_at Locations z ≡ Some BaseAddressx) (same_Some 1 code e) refl
kind_back Locations StartxEndx code e = subst (λ (z : ℕ). kind_at Locations z ≡ Some StartxEndx) (same_Some 2 code e) refl
kind_back Locations StartxLength code e = subst (λ (z : ℕ). kind_at Locations z ≡ Some StartxLength) (same_Some 3 code e) refl
kind_back Locations OffsetPair code e = subst (λ (z : ℕ). kind_at Locations z ≡ Some OffsetPair) (same_Some 4 code e) refl
kind_back Locations DefaultLocation code e = subst (λ (z : ℕ). kind_at Locations z ≡ Some DefaultLocation) (same_Some 5 code e) refl
kind_back Locations BaseAddress code e = subst (λ (z : ℕ). kind_at Locations z ≡ Some BaseAddress) (same_Some 6 code e) refl
kind_back Locations StartEnd code e = subst (λ (z : ℕ). kind_at Locations z ≡ Some StartEnd) (same_Some 7 code e) refl
kind_back Locations StartLength code e = subst (λ (z : ℕ). kind_at Locations z ≡ Some StartLength) (same_Some 8 code e) refl

-- a code is that of one kind
pub one_kind : (list : ListKind) (kind other : EntryKind) (code : ℕ) → code_of list kind ≡ Some code → code_of list other ≡ Some code → kind ≡ other
one_kind list kind other code e f = same_Some kind other (sym (kind_back list kind code e) ∙ kind_back list other code f)

-- ---- operands

operand_once : (operand : Operand) → HasUniqueFronts (SpellsOperand operand)
operand_once Absent = absent_once 0
operand_once Number = unique_u
operand_once Address = λ v w a b x y p q h.
    let same : a ≡ b = same_front a b x y (p.size ∙ sym q.size) h in
    (same, p.is ∙ ap (number 8) same ∙ sym q.is)

operand_whole : (operand : Operand) → NeverBoth (SpellsOperand operand) (FaultOperand operand)
operand_whole Number v Short at a x h f = leb_not_short a x h.0.0 f.1
operand_whole Number v LebWide at a x h f = uleb_not_wide v a x h f.1
operand_whole Address v Short at a x h f =
    let size : length a ≡ 8 = h.size in
    let few : length (a ++ x) < 8 = f.1 in
    let sum : length (a ++ x) ≡ length a + length x = length-append a x in
    absurd (omega arith)
operand_whole _ v _ at a x h f = f

operands_once : (kind : EntryKind) → HasUniqueFronts (SpellsOperands kind)
operands_once kind = then_once (SpellsOperand (first_operand kind)) (λ _. SpellsOperand (second_operand kind)) (operand_once (first_operand kind)) (λ _. operand_once (second_operand kind))

operands_whole : (kind : EntryKind) → NeverBoth (SpellsOperands kind) (FaultOperands kind)
operands_whole kind = then_whole (SpellsOperand (first_operand kind)) (λ _. SpellsOperand (second_operand kind)) (FaultOperand (first_operand kind)) (λ _. FaultOperand (second_operand kind)) (operand_once (first_operand kind)) (operand_whole (first_operand kind)) (λ _. operand_whole (second_operand kind))

-- ---- entries

abbrev first : List ℕ → ℕ
first [] = 0
first (byte ∷ bytes) = byte

abbrev others : List ℕ → List ℕ
others [] = []
others (byte ∷ bytes) = bytes

-- a code and what follows it
heads : (a b : List ℕ) (c d : ℕ) (p q : List ℕ) → a ≡ c ∷ p → b ≡ d ∷ q → a ≡ b → (c ≡ d) × (p ≡ q)
heads a b c d p q e f h = (ap first (sym e ∙ h ∙ f), ap others (sym e ∙ h ∙ f))

pub same_entry : (v w : Entry) → v.kind ≡ w.kind → v.a ≡ w.a → v.b ≡ w.b → v ≡ w
same_entry v w e f g =
    let one : v ≡ record { kind = w.kind; a = v.a; b = v.b } = ap (λ (z : EntryKind). record { kind = z; a = v.a; b = v.b }) e in
    let two : record { kind = w.kind; a = v.a; b = v.b } ≡ record { kind = w.kind; a = w.a; b = v.b } = ap (λ (z : ℕ). record { kind = w.kind; a = z; b = v.b }) f in
    one ∙ two ∙ ap (λ (z : ℕ). record { kind = w.kind; a = w.a; b = z }) g

pub entries_once : (list : ListKind) → HasUniqueFronts (SpellsEntry list)
entries_once list v w a b x y p q h =
    let parts = heads (a ++ x) (b ++ y) p.code q.code (p.operands ++ x) (q.operands ++ y) (ap (λ (z : List ℕ). z ++ x) p.whole) (ap (λ (z : List ℕ). z ++ y) q.whole) h in
    let known : code_of list v.kind ≡ Some q.code = p.known ∙ ap (λ (z : ℕ). Some z) parts.0 in
    let kinds : v.kind ≡ w.kind = one_kind list v.kind w.kind q.code known q.known in
    let there : SpellsOperands w.kind (v.a, v.b) p.operands = subst (λ (z : EntryKind). SpellsOperands z (v.a, v.b) p.operands) kinds p.spelled in
    let one = operands_once w.kind (v.a, v.b) (w.a, w.b) p.operands q.operands x y there q.spelled parts.1 in
    let whole : a ≡ b = p.whole ∙ ap (λ (z : ℕ). z ∷ p.operands) parts.0 ∙ ap (λ (z : List ℕ). q.code ∷ z) one.0 ∙ sym q.whole in
    (whole, same_entry v w kinds (ap (λ (z : ℕ × ℕ). z.0) one.1) (ap (λ (z : ℕ × ℕ). z.1) one.1))

-- behind the code of an entry its operands are there
behind_whole : (list : ListKind) (v : Entry) (kind : Kind) (at : ℕ) (a x : List ℕ) → SpellsEntry list v a → FaultBehindCode list kind at (a ++ x) → ⊥
behind_whole list v kind at a x p f =
    let parts = heads (a ++ x) (a ++ x) p.code f.code (p.operands ++ x) f.operands (ap (λ (z : List ℕ). z ++ x) p.whole) f.whole refl in
    let known : code_of list v.kind ≡ Some f.code = p.known ∙ ap (λ (z : ℕ). Some z) parts.0 in
    let kinds : v.kind ≡ f.entry_kind = one_kind list v.kind f.entry_kind f.code known f.known in
    let there : SpellsOperands f.entry_kind (v.a, v.b) p.operands = subst (λ (z : EntryKind). SpellsOperands z (v.a, v.b) p.operands) kinds p.spelled in
    operands_whole f.entry_kind (v.a, v.b) kind f.inner p.operands x there (subst (λ (z : List ℕ). FaultOperands f.entry_kind kind f.inner z) (sym parts.1) f.fault)

pub entries_whole : (list : ListKind) → NeverBoth (SpellsEntry list) (FaultEntry list)
entries_whole list v Short at a x p (inl (e, f)) =
    let size : length (p.code ∷ (p.operands ++ x)) ≡ 0 = ap length (ap (λ (z : List ℕ). z ++ x) (sym p.whole) ∙ e) in
    absurd (omega arith)
entries_whole list v Short at a x p (inr f) = behind_whole list v Short at a x p f
entries_whole list v LebWide at a x p f = behind_whole list v LebWide at a x p f
entries_whole list v ListEntry at a x p (code, rest, e, unknown, f) =
    let parts = heads (a ++ x) (a ++ x) p.code code (p.operands ++ x) rest (ap (λ (z : List ℕ). z ++ x) p.whole) e refl in
    unknown.1 v.kind (p.known ∙ ap (λ (z : ℕ). Some z) parts.0)
entries_whole list v _ at a x p f = f

-- ---- the end of a list

-- no kind of entry has the code that ends a list
no_zero : (list : ListKind) (kind : EntryKind) → code_of list kind ≡ Some 0 → ⊥
no_zero Ranges kind e = none-some kind (kind_back Ranges kind 0 e)
no_zero Locations kind e = none-some kind (kind_back Locations kind 0 e)

pub entries_apart : (list : ListKind) → EndsApart (SpellsEntry list) IsListEnd
entries_apart list v a b x y p e h =
    let parts = heads (a ++ x) (b ++ y) p.code 0 (p.operands ++ x) y (ap (λ (z : List ℕ). z ++ x) p.whole) (ap (λ (z : List ℕ). z ++ y) e) h in
    no_zero list v.kind (p.known ∙ ap (λ (z : ℕ). Some z) parts.0)

end_not_behind : (list : ListKind) (kind : Kind) (at : ℕ) (e x : List ℕ) → IsListEnd e → FaultBehindCode list kind at (e ++ x) → ⊥
end_not_behind list kind at e x end f =
    let parts = heads (e ++ x) (e ++ x) 0 f.code x f.operands (ap (λ (z : List ℕ). z ++ x) end) f.whole refl in
    no_zero list f.entry_kind (f.known ∙ ap (λ (z : ℕ). Some z) (sym parts.0))

end_whole : (list : ListKind) (kind : Kind) (at : ℕ) (e x : List ℕ) → IsListEnd e → FaultEntry list kind at (e ++ x) → ⊥
end_whole list Short at e x end (inl (f, g)) =
    let size : length (0 ∷ x) ≡ 0 = ap length (ap (λ (z : List ℕ). z ++ x) (sym end) ∙ f) in
    absurd (omega arith)
end_whole list Short at e x end (inr f) = end_not_behind list Short at e x end f
end_whole list LebWide at e x end f = end_not_behind list LebWide at e x end f
end_whole list ListEntry at e x end (code, rest, f, unknown, g) =
    let parts = heads (e ++ x) (e ++ x) 0 code x rest (ap (λ (z : List ℕ). z ++ x) end) f refl in
    unknown.0 (sym parts.0)
end_whole list _ at e x end f = f

-- bytes that begin with the end of a list have no fault of an entry
pub ends_whole : (list : ListKind) (bytes : List ℕ) → BeginsWithEnd bytes → ¬ IsFaulty (λ kind place. FaultEntry list kind place bytes)
ends_whole list bytes (end, rest, e, d) = λ (f : IsFaulty (λ kind place. FaultEntry list kind place bytes)).
    end_whole list f.0 f.1 end rest e (subst (λ (z : List ℕ). FaultEntry list f.0 f.1 z) d f.2)

-- what begins with an entry has none
pub read_whole : (list : ListKind) (entry : Entry) (size : ℕ) (bytes : List ℕ) → SpellsEntry list entry (take size bytes) → ¬ IsFaulty (λ kind place. FaultEntry list kind place bytes)
read_whole list entry size bytes s = λ (f : IsFaulty (λ kind place. FaultEntry list kind place bytes)).
    entries_whole list entry f.0 f.1 (take size bytes) (drop size bytes) s (subst (λ (z : List ℕ). FaultEntry list f.0 f.1 z) (sym (take-append-drop size bytes)) f.2)
