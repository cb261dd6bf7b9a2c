-- An entry of a list of which an operand has a byte too many can be exchanged for a shorter one that says the same.
use Rattle.std.proofs.Common.{◌≡◌, ◌<◌, ◌+◌, ◌++◌, ◌∙◌, inl, inr, ℕ, suc, List, ◌∷◌, length, drop, sym, ap, subst, refl, arith}
use Rattle.std.specs.Prelude.{Some}
use Rattle.std.proofs.lemmas.List.{append_assoc, append_cancel_left, drop-drop, length-append}
use Rattle.leb_codec.specs.Leb.{least_unsigned_len}
use Rattle.leb_codec.proofs.Fronts.{unique_u}
use Rattle.leb_codec.proofs.SpellingLaws.{unsigned_spellings}
use Rattle.list_model.specs.declared.entry.EntryKind.{EntryKind}
use Rattle.list_model.specs.declared.entry.ListKind.{ListKind}
use Rattle.list_model.specs.declared.entry.Operand.{Operand}
use Rattle.list_model.specs.declared.entry.Operand.TheVariants.{Absent, Number, Address}
use Rattle.list_model.specs.declared.entry.RawEntry.{RawEntry}
use Rattle.list_model.specs.Entries.{Entry, code_of, first_operand, second_operand, SpellsOperand, SpellsOperands, SpellsEntry}
use Rattle.list_model.proofs.EntryLaws.{one_kind}
use Rattle.tidy_numbers.specs.LongLists.{IsLongOperandOf, AreLongOperandsOf, HoldsBehindCode}
use Rattle.tidy_numbers.proofs.ListEntryPlaces.{operand_once}

-- shorter bytes of the same
abbrev pub HasShorter : (List ℕ → Type 0) → List ℕ → Type 0
HasShorter Spells own = (other : List ℕ) × Spells other × (length other < length own)

operand_shorter : (operand : Operand) (value : ℕ) (own rest all : List ℕ) (inner : ℕ) → SpellsOperand operand value own → all ≡ own ++ rest → IsLongOperandOf operand inner all → HasShorter (SpellsOperand operand value) own
operand_shorter Absent value own rest all inner spelled whole long = absurd long
operand_shorter Number value own rest all inner spelled whole (place, b) =
    let one = unique_u value b.number own b.first rest b.rest spelled b.spelled (sym whole ∙ b.whole) in
    let (other, spells, size) = unsigned_spellings.each_len value (least_unsigned_len value) (omega arith) in
    let least : least_unsigned_len value ≡ least_unsigned_len b.number = ap least_unsigned_len one.1 in
    let long : length own ≡ length b.first = ap length one.0 in
    let more = b.long in
    (other, (spells, spelled.1), omega (arith, size, least, long, more))
operand_shorter Address value own rest all inner spelled whole long = absurd long

-- one of two operands
operands_shorter : (kind : EntryKind) (a b : ℕ) (own rest all : List ℕ) (inner : ℕ) → SpellsOperands kind (a, b) own → all ≡ own ++ rest → AreLongOperandsOf kind inner all → HasShorter (SpellsOperands kind (a, b)) own
operands_shorter kind a b own rest all inner (first, second, one, other, parts) whole (inl long) =
    let there : all ≡ first ++ (second ++ rest) = whole ∙ ap (λ z. z ++ rest) parts ∙ append_assoc first second rest in
    let (short, spells, fewer) = operand_shorter (first_operand kind) a first (second ++ rest) all inner one there long in
    let old : length own ≡ length first + length second = ap length parts ∙ length-append first second in
    let new : length (short ++ second) ≡ length short + length second = length-append short second in
    (short ++ second, (short, second, spells, other, refl), omega (arith, old, new, fewer))
operands_shorter kind a b own rest all inner (first, second, one, other, parts) whole (inr (v, front, behind, at, spelled, long, split, place)) =
    let there : all ≡ first ++ (second ++ rest) = whole ∙ ap (λ z. z ++ rest) parts ∙ append_assoc first second rest in
    let same = operand_once (first_operand kind) v a front first behind (second ++ rest) spelled one (sym split ∙ there) in
    let left : behind ≡ second ++ rest = append_cancel_left first behind (second ++ rest) (ap (λ z. z ++ behind) (sym same.0) ∙ sym split ∙ there) in
    let (short, spells, fewer) = operand_shorter (second_operand kind) b second rest behind at other left long in
    let old : length own ≡ length first + length second = ap length parts ∙ length-append first second in
    let new : length (first ++ short) ≡ length first + length short = length-append first short in
    (first ++ short, (first, short, one, spells, refl), omega (arith, old, new, fewer))

-- an operand of the entry has a byte too many
abbrev pub IsLongEntry : ListKind → List ℕ → RawEntry → Type 0
IsLongEntry list section raw = (p : ℕ) × HoldsBehindCode AreLongOperandsOf list section raw p

-- the entry, exchanged
pub entry_shorter : (list : ListKind) (section : List ℕ) (raw : RawEntry) (entry : Entry) (own rest : List ℕ) → code_of list entry.kind ≡ Some raw.code → SpellsEntry list entry own → drop raw.at section ≡ own ++ rest → IsLongEntry list section raw → HasShorter (SpellsEntry list entry) own
entry_shorter list section raw entry own rest known s whole (p, long) =
    let same : long.kind ≡ entry.kind = one_kind list long.kind entry.kind raw.code long.known known in
    let there : drop raw.at section ≡ s.code ∷ (s.operands ++ rest) = whole ∙ ap (λ z. z ++ rest) s.whole in
    let behind : drop (raw.at + 1) section ≡ s.operands ++ rest = sym (drop-drop 1 raw.at section) ∙ ap (drop 1) there in
    let holds : AreLongOperandsOf entry.kind long.inner (drop (raw.at + 1) section) =
    subst (λ (k : EntryKind). AreLongOperandsOf k long.inner (drop (raw.at + 1) section)) same long.holds
    in
    let (short, spells, fewer) =
    operands_shorter entry.kind entry.a entry.b s.operands rest (drop (raw.at + 1) section) long.inner s.spelled behind holds
    in
    let old : length own ≡ suc (length s.operands) = ap length s.whole in (
      s.code ∷ short,
      record { code = s.code; operands = short; known = s.known; spelled = spells; whole = refl },
      omega (arith, old, fewer),
    )
