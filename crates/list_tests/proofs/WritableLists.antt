-- What tests find ready to be written.
use Rattle.std.proofs.Common.{◌≡◌, ◌<◌, ◌+◌, ◌-◌, ◌∙◌, ℕ, zero, suc, List, [], ◌∷◌, ◌++◌, length, get_or, map, take, sym, ap, refl, subst, arith, inl, inr}
use Rattle.std.proofs.lemmas.Bool.{cases_lt}
use Rattle.std.proofs.lemmas.List.{take_more, map_push, length_push, get_or_push, get_or_append_left, nil_from_length}
use Rattle.std.proofs.lemmas.List.Elements.{All-push}
use Rattle.list_model.specs.declared.entry.ListKind.{ListKind}
use Rattle.list_model.specs.declared.entry.ListKind.TheVariants.{Ranges, Locations}
use Rattle.list_model.specs.declared.entry.RawEntry.{RawEntry}
use Rattle.list_model.specs.Entries.{Entry, Says, AreSaid}
use Rattle.list_least.specs.Shortest.{FitOperands}
use Rattle.list_write.specs.declared.named.NamedList.{NamedList}
use Rattle.list_write.specs.Written.{ToWrite, IsSized, HasExpressions, to_write, list_at}
use Rattle.list_write.specs.inside.Puts.{carried_count}
use Rattle.list_tests.specs.Writable.{AreSized, IsEntry, AreEntries, AtsRise}
use Rattle.list_write.proofs.ApartLaws.{carried_all}
use Rattle.list_write.proofs.Runs.{no_list}

said_more : (kind : ListKind) (raws : List RawEntry) (entries : List Entry) (raw : RawEntry) (entry : Entry) → AreSaid kind raws entries → Says kind raw entry → AreSaid kind (raws ++ raw ∷ []) (entries ++ entry ∷ [])
said_more kind [] [] raw entry said says = (says, tt)
said_more kind (r ∷ raws) (e ∷ entries) raw entry said says = (said.0, said_more kind raws entries raw entry said.1 says)
said_more kind [] (e ∷ entries) raw entry said says = absurd said
said_more kind (r ∷ raws) [] raw entry said says = absurd said

-- one more entry
pub entries_more : (kind : ListKind) (raws : List RawEntry) (i : ℕ) (d : RawEntry) → i < length raws → AreEntries kind (take i raws) → IsEntry kind (get_or raws i d) → AreEntries kind (take (i + 1) raws)
entries_more kind raws i d inside so_far one =
    subst (AreEntries kind) (sym (take_more raws i d inside)) (record {
      entries = so_far.entries ++ one.entry ∷ [];
      said = said_more kind (take i raws) so_far.entries (get_or raws i d) one.entry so_far.said one.says;
      fit = All-push (λ (entry : Entry). FitOperands entry.kind entry.a entry.b) so_far.entries one.entry so_far.fit one.fit;
    })

-- places that rise one by one
rise_to : (lists : List ToWrite) (j n : ℕ) → ((k : ℕ) → 0 < k → k < length lists → (list_at lists (k - 1)).at < (list_at lists k).at) → j + n + 1 < length lists → (list_at lists j).at < (list_at lists (j + n + 1)).at
rise_to lists j zero each inside =
    let step = each (j + 0 + 1) (omega arith) inside in
    let same : (j + 0 + 1) - 1 ≡ j = omega arith in
    let from : (list_at lists ((j + 0 + 1) - 1)).at ≡ (list_at lists j).at = ap (λ (z : ℕ). (list_at lists z).at) same in
    omega (arith, step, from)
rise_to lists j (suc n) each inside =
    let before = rise_to lists j n each (omega arith) in
    let step = each (j + suc n + 1) (omega arith) inside in
    let same : (j + suc n + 1) - 1 ≡ j + n + 1 = omega arith in
    let from : (list_at lists ((j + suc n + 1) - 1)).at ≡ (list_at lists (j + n + 1)).at = ap (λ (z : ℕ). (list_at lists z).at) same in
    omega (arith, before, step, from)

pub ats_rise : (lists : List ToWrite) → ((k : ℕ) → 0 < k → k < length lists → (list_at lists (k - 1)).at < (list_at lists k).at) → AtsRise lists
ats_rise lists each j k less inside =
    let place : j + (k - j - 1) + 1 ≡ k = omega arith in
    subst (λ (z : ℕ). (list_at lists j).at < (list_at lists z).at) place (rise_to lists j (k - j - 1) each (omega arith))

-- one more list that has its size
pub sized_more : (kind : ListKind) (items : List NamedList) (list : NamedList) → AreSized kind (map to_write items) → IsSized kind (to_write list) → AreSized kind (map to_write (items ++ list ∷ []))
sized_more kind items list so_far one k inside =
    let lists = map to_write items in
    let all : map to_write (items ++ list ∷ []) ≡ lists ++ to_write list ∷ [] = map_push to_write items list in
    let size : length (lists ++ to_write list ∷ []) ≡ length lists + 1 = length_push lists (to_write list) in
    let long : length (map to_write (items ++ list ∷ [])) ≡ length (lists ++ to_write list ∷ []) = ap length all in
    subst (λ (z : List ToWrite). IsSized kind (list_at z k)) (sym all) (elim (cases_lt k (length lists)) [
      | inl x ↦ subst (IsSized kind) (sym (get_or_append_left lists (to_write list ∷ []) no_list k x)) (so_far k x)
      | inr y ↦ subst (IsSized kind) (sym (get_or_push lists (to_write list) no_list k (omega (arith, y, inside, size, long)))) one
    ])

-- as many expressions as entries have one are those of the entries
pub has_all : (kind : ListKind) (entries : List Entry) (expressions : List (List ℕ)) → length expressions ≡ carried_count kind entries → HasExpressions kind entries expressions
has_all Ranges entries expressions count = nil_from_length expressions (count ∙ carried_all Ranges entries [] refl)
has_all Locations entries expressions count = count
