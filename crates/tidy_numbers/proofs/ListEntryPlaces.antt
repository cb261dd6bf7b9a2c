-- Where the operands of entries of lists stand, and which of them have a byte too many.
use Rattle.std.proofs.Common.{◌≡◌, ◌≤◌, ◌+◌, ◌-◌, ◌++◌, ℕ, List, length, drop, ◌∙◌, sym, ap, subst, refl, arith}
use Rattle.std.specs.Prelude.{Option, Some, Bool, true, false, not}
use Rattle.std.proofs.lemmas.List.{append_assoc}
use Rattle.std.proofs.lemmas.Bool.{false≢true}
use Rattle.spelled.specs.Spelled.{HasUniqueFronts}
use Rattle.spelled.proofs.Joins.{absent_once, then_once}
use Rattle.spelled.proofs.Parts.{same_front}
use Rattle.fixed_width.specs.Numbers.{number}
use Rattle.leb_codec.specs.Leb.{Uleb}
use Rattle.leb_codec.proofs.Fronts.{unique_u}
use Rattle.list_model.specs.declared.entry.EntryKind.{EntryKind}
use Rattle.list_model.specs.declared.entry.ListKind.{ListKind}
use Rattle.list_model.specs.declared.entry.ListKind.TheVariants.{Locations}
use Rattle.list_model.specs.declared.entry.Operand.{Operand}
use Rattle.list_model.specs.declared.entry.Operand.TheVariants.{Absent, Number, Address}
use Rattle.list_model.specs.declared.entry.RawEntry.{RawEntry}
use Rattle.list_model.specs.Entries.{code_of, first_operand, second_operand, SpellsOperand, SpellsOperands}
use Rattle.list_model.specs.Items.{sets_base}
use Rattle.list_model.proofs.EntryLaws.{one_kind}
use Rattle.loc_lists.specs.Locations.{is_item}
use Rattle.loc_lists.proofs.ItemLaws.{item_says}
use Rattle.tidy_places.specs.Firsts.{IsLeastFound}
use Rattle.tidy_numbers.specs.Fronts.{IsLong}
use Rattle.tidy_numbers.specs.LongLists.{IsLongOperandOf, AreLongOperandsOf, IsLongLength, HoldsBehindCode}
use Rattle.tidy_numbers.specs.inside.Operands.{Begins, IsEndOf, HoldsFrom}
use Rattle.tidy_numbers.specs.inside.ListEntries.{EntryStands, LengthStands}
use Rattle.tidy_numbers.proofs.FoundAmong.{found_same}
use Rattle.tidy_numbers.proofs.ThingEnds.{end_is, rest_there, behind_end, end_behind, ends_join, found_behind}

-- OPERANDS

pub operand_once : (operand : Operand) → HasUniqueFronts (SpellsOperand operand)
operand_once Absent = absent_once 0
operand_once Number = unique_u
operand_once Address = λ v w a b x y p q h.
    let same : a ≡ b = same_front a b x y (p.size ∙ sym q.size) h in
    (same, p.is ∙ ap (number 8) same ∙ sym q.is)

pub operands_once : (kind : EntryKind) → HasUniqueFronts (SpellsOperands kind)
operands_once kind = then_once (SpellsOperand (first_operand kind)) (λ _. SpellsOperand (second_operand kind)) (operand_once (first_operand kind)) (λ _. operand_once (second_operand kind))

-- an address has eight bytes
pub address_end : (bytes : List ℕ) (at : ℕ) → at ≤ length bytes → Begins (SpellsOperand Address) (drop at bytes) → IsEndOf (SpellsOperand Address) bytes at (at + 8)
address_end bytes at within (v, first, rest, spells, whole) =
    end_is (SpellsOperand Address) bytes at (at + 8) v first rest within spells whole (ap (λ (n : ℕ). at + n) (sym spells.size))

-- a number of an operand is its first thing
operand_first : (o : Operand) (inner : ℕ) (bytes : List ℕ) → IsLongOperandOf o inner bytes → inner ≡ 0
operand_first Absent inner bytes long = absurd long
operand_first Number inner bytes long = long.0
operand_first Address inner bytes long = absurd long

-- BOTH OPERANDS

pub first_begins : (kind : EntryKind) (bytes : List ℕ) → Begins (SpellsOperands kind) bytes → Begins (SpellsOperand (first_operand kind)) bytes
first_begins kind bytes (p, both, rest, (first, second, one, other, parts), whole) =
    (p.0, first, second ++ rest, one, whole ∙ ap (λ (z : List ℕ). z ++ rest) parts ∙ append_assoc first second rest)

pub second_begins : (kind : EntryKind) (bytes : List ℕ) (at end : ℕ) → Begins (SpellsOperands kind) (drop at bytes) → IsEndOf (SpellsOperand (first_operand kind)) bytes at end → Begins (SpellsOperand (second_operand kind)) (drop end bytes)
second_begins kind bytes at end (p, both, rest, (first, second, one, other, parts), whole) there =
    rest_there (SpellsOperand (first_operand kind)) (Begins (SpellsOperand (second_operand kind))) bytes at end p.0 first (second ++ rest) (operand_once (first_operand kind)) there one
    (whole ∙ ap (λ (z : List ℕ). z ++ rest) parts ∙ append_assoc first second rest)
    (p.1, second, rest, other, refl)

pub operands_end : (kind : EntryKind) (bytes : List ℕ) (at mid end : ℕ) → IsEndOf (SpellsOperand (first_operand kind)) bytes at mid → IsEndOf (SpellsOperand (second_operand kind)) bytes mid end → IsEndOf (SpellsOperands kind) bytes at end
operands_end kind bytes at mid end one other = ends_join (SpellsOperand (first_operand kind)) (SpellsOperand (second_operand kind)) bytes at mid end one other

-- the first is none, and the second stands behind it
pub operands_found : (kind : EntryKind) (bytes : List ℕ) (at end : ℕ) → (IsLongOperandOf (first_operand kind) 0 (drop at bytes) → ⊥) → IsEndOf (SpellsOperand (first_operand kind)) bytes at end → (found : Option ℕ) → IsLeastFound (HoldsFrom (IsLongOperandOf (second_operand kind)) end bytes) found → IsLeastFound (HoldsFrom (AreLongOperandsOf kind) at bytes) found
operands_found kind bytes at end short there found least =
    found_behind (SpellsOperand (first_operand kind)) (IsLongOperandOf (first_operand kind)) (IsLongOperandOf (second_operand kind)) bytes at end (operand_once (first_operand kind)) there never found least
  where
    never : (inner : ℕ) → IsLongOperandOf (first_operand kind) inner (drop at bytes) → ⊥
    never inner long = short (subst (λ (n : ℕ). IsLongOperandOf (first_operand kind) n (drop at bytes)) (operand_first (first_operand kind) inner (drop at bytes) long) long)

-- ENTRIES

-- the operands of an entry are those of the kind of its code
pub stands_by : (list : ListKind) (section : List ℕ) (raw : RawEntry) (kind : EntryKind) → EntryStands list section raw → code_of list kind ≡ Some raw.code → Begins (SpellsOperands kind) (drop (raw.at + 1) section)
stands_by list section raw kind there known =
    subst (λ (k : EntryKind). Begins (SpellsOperands k) (drop (raw.at + 1) section)) (one_kind list there.kind kind raw.code there.known known) there.operands

pub entry_found : (Holds : EntryKind → ℕ → List ℕ → Type 0) (list : ListKind) (section : List ℕ) (raw : RawEntry) (kind : EntryKind) → code_of list kind ≡ Some raw.code → (found : Option ℕ) → IsLeastFound (HoldsFrom (Holds kind) (raw.at + 1) section) found → IsLeastFound (HoldsBehindCode Holds list section raw) found
entry_found Holds list section raw kind known found least = found_same (HoldsFrom (Holds kind) (raw.at + 1) section) (HoldsBehindCode Holds list section raw) to from found least
  where
    to : (p : ℕ) → HoldsFrom (Holds kind) (raw.at + 1) section p → HoldsBehindCode Holds list section raw p
    to p (inner, holds, place) = record { kind = kind; known = known; inner = inner; holds = holds; place = place }

    from : (p : ℕ) → HoldsBehindCode Holds list section raw p → HoldsFrom (Holds kind) (raw.at + 1) section p
    from p is = (is.inner, subst (λ (k : EntryKind). Holds k is.inner (drop (raw.at + 1) section)) (one_kind list is.kind kind raw.code is.known known) is.holds, is.place)

-- a code that is that of no kind
pub no_entry : (Holds : EntryKind → ℕ → List ℕ → Type 0) (list : ListKind) (section : List ℕ) (raw : RawEntry) (p : ℕ) → ((kind : EntryKind) → code_of list kind ≡ Some raw.code → ⊥) → HoldsBehindCode Holds list section raw p → ⊥
no_entry Holds list section raw p never is = never is.kind is.known

-- LENGTHS OF EXPRESSIONS

item_sets_none : (raw : RawEntry) (kind : EntryKind) → code_of Locations kind ≡ Some raw.code → is_item raw ≡ not (sets_base kind)
item_sets_none raw kind known = item_says raw (record { kind = kind; a = raw.a; b = raw.b }) (record { of_code = known; of_a = refl; of_b = refl })

not_false : (b : Bool) → not b ≡ true → b ≡ false
not_false true e = absurd (false≢true e)
not_false false e = refl

pub sets_none : (raw : RawEntry) (kind : EntryKind) → code_of Locations kind ≡ Some raw.code → is_item raw ≡ true → sets_base kind ≡ false
sets_none raw kind known item = not_false (sets_base kind) (sym (item_sets_none raw kind known) ∙ item)

-- what sets a base has no expression
pub no_length : (section : List ℕ) (raw : RawEntry) (p : ℕ) → is_item raw ≡ false → HoldsBehindCode IsLongLength Locations section raw p → ⊥
no_length section raw p none is =
    let item : is_item raw ≡ true = item_sets_none raw is.kind is.known ∙ ap not is.holds.0 in
    false≢true (sym none ∙ item)

pub length_begins : (section : List ℕ) (raw : RawEntry) (kind : EntryKind) (end : ℕ) → LengthStands section raw → code_of Locations kind ≡ Some raw.code → is_item raw ≡ true → IsEndOf (SpellsOperands kind) section (raw.at + 1) end → Begins Uleb (drop end section)
length_begins section raw kind end there known item behind =
    let (p, both, rest, (first, second, one, other, parts), whole) = there kind known (sets_none raw kind known item) in
    rest_there (SpellsOperands kind) (Begins Uleb) section (raw.at + 1) end p.0 first (second ++ rest) (operands_once kind) behind one
    (whole ∙ ap (λ (z : List ℕ). z ++ rest) parts ∙ append_assoc first second rest)
    (p.1, second, rest, other, refl)

pub length_found : (section : List ℕ) (raw : RawEntry) (kind : EntryKind) (end : ℕ) → code_of Locations kind ≡ Some raw.code → is_item raw ≡ true → IsEndOf (SpellsOperands kind) section (raw.at + 1) end → (found : Option ℕ) → IsLeastFound (HoldsFrom IsLong end section) found → IsLeastFound (HoldsBehindCode IsLongLength Locations section raw) found
length_found section raw kind end known item behind found least =
    entry_found IsLongLength Locations section raw kind known found (found_same (HoldsFrom IsLong end section) (HoldsFrom (IsLongLength kind) (raw.at + 1) section) to from found least)
  where
    to : (p : ℕ) → HoldsFrom IsLong end section p → HoldsFrom (IsLongLength kind) (raw.at + 1) section p
    to p (deep, holds, place) =
        let starts = behind.starts in
        (end - (raw.at + 1) + deep, (sets_none raw kind known item, end_behind (SpellsOperands kind) IsLong section (raw.at + 1) end behind deep holds), omega (arith, place, starts))

    from : (p : ℕ) → HoldsFrom (IsLongLength kind) (raw.at + 1) section p → HoldsFrom IsLong end section p
    from p (inner, (none, long), place) =
        let (deep, holds, here) = behind_end (SpellsOperands kind) IsLong section (raw.at + 1) end behind (operands_once kind) inner long in
        (deep, holds, omega (arith, place, here))
