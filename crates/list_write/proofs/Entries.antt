-- Entries of lists, one by one.
use Rattle.std.proofs.Common.{◌≡◌, ◌<◌, ◌+◌, ◌∙◌, ℕ, zero, suc, List, [], ◌∷◌, ◌++◌, length, get_or, take, sym, ap, refl, subst, arith}
use Rattle.std.specs.List.{All}
use Rattle.std.proofs.lemmas.List.{take_more}
use Rattle.std.proofs.lemmas.List.Elements.{All-get_or}
use Rattle.list_model.specs.declared.entry.EntryKind.TheVariants.{DefaultLocation}
use Rattle.list_model.specs.declared.entry.ListKind.{ListKind}
use Rattle.list_model.specs.declared.entry.RawEntry.{RawEntry}
use Rattle.list_model.specs.Costs.{entry_bytes}
use Rattle.list_model.specs.Entries.{Entry, Says, AreSaid}
use Rattle.list_model.proofs.EntryLaws.{one_kind, same_entry}
use Rattle.list_least.specs.declared.pick.Pick.{Pick}
use Rattle.list_least.specs.Plans.{entries_bytes, IsPick, ArePicks}
use Rattle.list_least.specs.Shortest.{FitOperands}
use Rattle.list_write.specs.Written.{HasExpressions}

-- stands for what is past the end
abbrev pub no_entry : Entry
no_entry = record { kind = DefaultLocation; a = 0; b = 0 }

-- what is read of each entry says it
pub said_at : (kind : ListKind) (raws : List RawEntry) (entries : List Entry) → AreSaid kind raws entries → (i : ℕ) (d : RawEntry) (e : Entry) → i < length raws → Says kind (get_or raws i d) (get_or entries i e)
said_at kind (raw ∷ raws) (entry ∷ entries) said zero d e inside = said.0
said_at kind (raw ∷ raws) (entry ∷ entries) said (suc i) d e inside = said_at kind raws entries said.1 i d e (omega (arith, inside))
said_at kind [] entries said i d e inside = absurd (omega (arith, inside))
said_at kind (raw ∷ raws) [] said i d e inside = absurd said

pub said_count : (kind : ListKind) (raws : List RawEntry) (entries : List Entry) → AreSaid kind raws entries → length entries ≡ length raws
said_count kind [] [] said = refl
said_count kind (raw ∷ raws) (entry ∷ entries) said = ap suc (said_count kind raws entries said.1)
said_count kind [] (entry ∷ entries) said = absurd said
said_count kind (raw ∷ raws) [] said = absurd said

-- each pick is its entry
pub picked_at : (kind : ListKind) (picks : List Pick) (entries : List Entry) → ArePicks kind picks entries → (i : ℕ) (d : Pick) (e : Entry) → i < length picks → IsPick kind (get_or picks i d) (get_or entries i e)
picked_at kind (pick ∷ picks) (entry ∷ entries) picked zero d e inside = picked.0
picked_at kind (pick ∷ picks) (entry ∷ entries) picked (suc i) d e inside = picked_at kind picks entries picked.1 i d e (omega (arith, inside))
picked_at kind [] entries picked i d e inside = absurd (omega (arith, inside))
picked_at kind (pick ∷ picks) [] picked i d e inside = absurd picked

pub picked_count : (kind : ListKind) (picks : List Pick) (entries : List Entry) → ArePicks kind picks entries → length entries ≡ length picks
picked_count kind [] [] picked = refl
picked_count kind (pick ∷ picks) (entry ∷ entries) picked = ap suc (picked_count kind picks entries picked.1)
picked_count kind [] (entry ∷ entries) picked = absurd picked
picked_count kind (pick ∷ picks) [] picked = absurd picked

-- what is picked are these entries alone
one_picked : (kind : ListKind) (picks : List Pick) (entries others : List Entry) → ArePicks kind picks entries → ArePicks kind picks others → entries ≡ others
one_picked kind [] [] [] x y = refl
one_picked kind (pick ∷ picks) (entry ∷ entries) (other ∷ others) x y =
    let same : entry ≡ other = same_entry entry other (one_kind kind entry.kind other.kind pick.code x.0.code y.0.code) (sym x.0.a ∙ y.0.a) (sym x.0.b ∙ y.0.b) in
    ap (λ (z : Entry). z ∷ entries) same ∙ ap (λ (z : List Entry). other ∷ z) (one_picked kind picks entries others x.1 y.1)
one_picked kind [] (entry ∷ entries) others x y = absurd x
one_picked kind [] [] (other ∷ others) x y = absurd y
one_picked kind (pick ∷ picks) [] others x y = absurd x
one_picked kind (pick ∷ picks) (entry ∷ entries) [] x y = absurd y

-- they have so many bytes
pub picked_bytes : (kind : ListKind) (picks : List Pick) (entries others : List Entry) → ArePicks kind picks entries → ArePicks kind picks others → entries_bytes entries ≡ entries_bytes others
picked_bytes kind picks entries others x y = ap entries_bytes (one_picked kind picks entries others x y)

-- and so many expressions
pub has_picked : (kind : ListKind) (picks : List Pick) (entries others : List Entry) (expressions : List (List ℕ)) → ArePicks kind picks entries → ArePicks kind picks others → HasExpressions kind entries expressions → HasExpressions kind others expressions
has_picked kind picks entries others expressions x y = subst (λ (z : List Entry). HasExpressions kind z expressions) (one_picked kind picks entries others x y)

-- one more pick
pub picked_more : (kind : ListKind) (picks : List Pick) (entries : List Entry) (pick : Pick) (entry : Entry) → ArePicks kind picks entries → IsPick kind pick entry → ArePicks kind (picks ++ pick ∷ []) (entries ++ entry ∷ [])
picked_more kind [] [] pick entry picked is = (is, tt)
picked_more kind (p ∷ picks) (e ∷ entries) pick entry picked is = (picked.0, picked_more kind picks entries pick entry picked.1 is)
picked_more kind [] (e ∷ entries) pick entry picked is = absurd picked
picked_more kind (p ∷ picks) [] pick entry picked is = absurd picked

-- the bytes of one more entry
pub bytes_more : (entries : List Entry) (entry : Entry) → entries_bytes (entries ++ entry ∷ []) ≡ entries_bytes entries + entry_bytes entry.kind entry.a entry.b
bytes_more [] entry = omega arith
bytes_more (e ∷ entries) entry = omega (arith, bytes_more entries entry)

-- the picks of one more entry that is kept
pub kept_more : (kind : ListKind) (raws : List RawEntry) (entries : List Entry) (d : RawEntry) (i : ℕ) (picks : List Pick) → i < length raws → AreSaid kind raws entries → All (λ (entry : Entry). FitOperands entry.kind entry.a entry.b) entries → ArePicks kind picks (take i entries) → ArePicks kind (picks ++ record { code = (get_or raws i d).code; a = (get_or raws i d).a; b = (get_or raws i d).b } ∷ []) (take (i + 1) entries)
kept_more kind raws entries d i picks inside said fit picked =
    let says = said_at kind raws entries said i d no_entry inside in
    let count = said_count kind raws entries said in
    let within : i < length entries = omega arith in
    let pick : Pick = record { code = (get_or raws i d).code; a = (get_or raws i d).a; b = (get_or raws i d).b } in
    let is : IsPick kind pick (get_or entries i no_entry) = record { code = says.of_code; a = says.of_a; b = says.of_b; operands = All-get_or (λ (entry : Entry). FitOperands entry.kind entry.a entry.b) entries i no_entry within fit } in
    subst (λ (z : List Entry). ArePicks kind (picks ++ pick ∷ []) z) (sym (take_more entries i no_entry within)) (picked_more kind picks (take i entries) pick (get_or entries i no_entry) picked is)

-- and its bytes
pub kept_bytes : (kind : ListKind) (raws : List RawEntry) (entries : List Entry) (i size bytes : ℕ) → i < length raws → AreSaid kind raws entries → size ≡ entries_bytes (take i entries) + 1 → bytes ≡ entry_bytes (get_or entries i no_entry).kind (get_or entries i no_entry).a (get_or entries i no_entry).b → size + bytes ≡ entries_bytes (take (i + 1) entries) + 1
kept_bytes kind raws entries i size bytes inside said so_far more =
    let count = said_count kind raws entries said in
    let within : i < length entries = omega arith in
    let sum : entries_bytes (take (i + 1) entries) ≡ entries_bytes (take i entries) + entry_bytes (get_or entries i no_entry).kind (get_or entries i no_entry).a (get_or entries i no_entry).b = ap entries_bytes (take_more entries i no_entry within) ∙ bytes_more (take i entries) (get_or entries i no_entry) in
    omega (arith, sum, so_far, more)
