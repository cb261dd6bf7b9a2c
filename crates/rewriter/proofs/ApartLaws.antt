-- Location lists taken apart into the bytes of their entries and of the expressions behind these.
use Rattle.std.proofs.Common.{◌≡◌, ◌+◌, ◌∙◌, ◌⊎◌, ℕ, suc, List, [], ◌∷◌, ◌++◌, length, map, cond, Bool, true, false, inl, inr, sym, ap, refl, arith}
use Rattle.std.specs.Prelude.{Some, ◌||◌, filter, not}
use Rattle.std.specs.List.{sum_by}
use Rattle.std.proofs.lemmas.List.{append_assoc, length-append}
use Rattle.std.proofs.lemmas.List.Sums.{sum_by-cons}
use Rattle.std.proofs.lemmas.Option.{same_Some}
use Rattle.leb_codec.specs.Leb.{least_unsigned_len}
use Rattle.list_model.specs.declared.entry.EntryKind.{EntryKind}
use Rattle.list_model.specs.declared.entry.EntryKind.TheVariants.{BaseAddressx, StartxEndx, StartxLength, OffsetPair, DefaultLocation, BaseAddress, StartEnd, StartLength}
use Rattle.list_model.specs.declared.entry.ListKind.TheVariants.{Locations}
use Rattle.list_model.specs.declared.entry.RawEntry.{RawEntry}
use Rattle.list_model.specs.Entries.{Entry, code_of, AreSaid}
use Rattle.list_model.specs.Items.{sets_base}
use Rattle.loc_lists.specs.Locations.{SpellsBehind, SpellsLocationList, is_code, is_item, items_among, item_expressions}
use Rattle.loc_lists.specs.Apart.{StandApart, behind_bytes, ShortestBehind}
use Rattle.list_write.specs.Written.{behind_size}

-- what stands behind entries may be said in weaker words
pub apart_weaker : (P Q : EntryKind → List ℕ → List ℕ → Type 0) → ((kind : EntryKind) (expression behind : List ℕ) → P kind expression behind → Q kind expression behind) → (locations : List (Entry × List ℕ)) (bytes bare : List ℕ) → StandApart P locations bytes bare → StandApart Q locations bytes bare
apart_weaker P Q weaker [] bytes bare stand = stand
apart_weaker P Q weaker (location ∷ locations) bytes bare (own, behind, rest, bare_rest, entry, after, more, is, without) =
    (own, behind, rest, bare_rest, entry, weaker location.0.kind location.1 behind after, apart_weaker P Q weaker locations rest bare_rest more, is, without)

-- with no byte too many in the lengths of expressions, or with some
pub apart_any : (locations : List (Entry × List ℕ)) (bytes bare : List ℕ) → StandApart ShortestBehind locations bytes bare → StandApart SpellsBehind locations bytes bare
apart_any = apart_weaker ShortestBehind SpellsBehind (λ kind expression behind shortest. shortest.0)

-- the bytes spell the list
pub apart_spelled : (locations : List (Entry × List ℕ)) (bytes bare : List ℕ) → StandApart SpellsBehind locations bytes bare → SpellsLocationList locations bytes
apart_spelled [] bytes bare (end, without) = ([], bytes, refl, end, refl)
apart_spelled (location ∷ locations) bytes bare (own, behind, rest, bare_rest, entry, after, more, is, without) =
    let (front, end, joined, ended, rest_is) = apart_spelled locations rest bare_rest more in
    let whole : bytes ≡ ((own ++ behind) ++ front) ++ end =
    is
    ∙ ap (λ (z : List ℕ). own ++ (behind ++ z)) rest_is
    ∙ sym (append_assoc own behind (front ++ end))
    ∙ sym (append_assoc (own ++ behind) front end) in
    ((own ++ behind) ++ front, end, (own ++ behind, front, (own, behind, entry, after, refl), joined, refl), ended, whole)

-- ITEMS

-- an entry sets the base and has nothing behind it, or it is an item with an expression
kinds : (kind : EntryKind) → ((sets_base kind ≡ true) × ((len : ℕ) → behind_bytes kind len ≡ 0)) ⊎ ((sets_base kind ≡ false) × ((len : ℕ) → behind_bytes kind len ≡ least_unsigned_len len + len))
kinds BaseAddressx = inl (refl, λ len. refl)
kinds StartxEndx = inr (refl, λ len. refl)
kinds StartxLength = inr (refl, λ len. refl)
kinds OffsetPair = inr (refl, λ len. refl)
kinds DefaultLocation = inr (refl, λ len. refl)
kinds BaseAddress = inl (refl, λ len. refl)
kinds StartEnd = inr (refl, λ len. refl)
kinds StartLength = inr (refl, λ len. refl)

-- how many bytes the expressions of items take, each behind its length
abbrev behind_total : List (Entry × List ℕ) → ℕ
behind_total locations = sum_by behind_size (item_expressions locations)

abbrev items_of : List (Entry × List ℕ) → List (Entry × List ℕ)
items_of locations = filter (λ (location : Entry × List ℕ). not (sets_base location.0.kind)) locations

behind_more : (location : Entry × List ℕ) (locations : List (Entry × List ℕ)) → behind_total (location ∷ locations) ≡ behind_bytes location.0.kind (length location.1) + behind_total locations
behind_more location locations =
    let expressions : Bool → List (List ℕ) = λ (b : Bool). map (λ (x : Entry × List ℕ). x.1) (cond (not b) (location ∷ items_of locations) (items_of locations)) in
    elim (kinds location.0.kind) [
      | inl (sets, none) ↦
          let same : item_expressions (location ∷ locations) ≡ item_expressions locations = ap expressions sets in
          let total : behind_total (location ∷ locations) ≡ behind_total locations = ap (sum_by behind_size) same in
          omega (arith, total, none (length location.1))
      | inr (item, some) ↦
          let same : item_expressions (location ∷ locations) ≡ location.1 ∷ item_expressions locations = ap expressions item in
          let total : behind_total (location ∷ locations) ≡ behind_size location.1 + behind_total locations = ap (sum_by behind_size) same ∙ sum_by-cons behind_size location.1 (item_expressions locations) in
          omega (arith, total, some (length location.1))
    ]

-- the bytes are those of the entries, and those of the expressions of items
pub apart_size : (locations : List (Entry × List ℕ)) (bytes bare : List ℕ) → StandApart ShortestBehind locations bytes bare → length bytes ≡ length bare + sum_by behind_size (item_expressions locations)
apart_size [] bytes bare (end, without) = let same : length bare ≡ length bytes = ap length without in omega (arith, same)
apart_size (location ∷ locations) bytes bare (own, behind, rest, bare_rest, entry, after, more, is, without) =
    let all : length bytes ≡ length own + (length behind + length rest) = ap length is ∙ length-append own (behind ++ rest) ∙ ap (λ (n : ℕ). length own + n) (length-append behind rest) in
    let bare_all : length bare ≡ length own + length bare_rest = ap length without ∙ length-append own bare_rest in
    let here : length behind ≡ behind_bytes location.0.kind (length location.1) = after.1 in
    omega (arith, all, bare_all, here, apart_size locations rest bare_rest more, behind_more location locations)

-- whether an entry with a code is an item
abbrev by_code : ℕ → Bool
by_code code = not (is_code (code_of Locations BaseAddressx) code || is_code (code_of Locations BaseAddress) code)

-- what is read of an entry tells by its code whether it is an item
told_item : (kind : EntryKind) (code : ℕ) → code_of Locations kind ≡ Some code → by_code code ≡ not (sets_base kind)
told_item BaseAddressx code known = ap by_code (sym (same_Some 1 code known))
told_item StartxEndx code known = ap by_code (sym (same_Some 2 code known))
told_item StartxLength code known = ap by_code (sym (same_Some 3 code known))
told_item OffsetPair code known = ap by_code (sym (same_Some 4 code known))
told_item DefaultLocation code known = ap by_code (sym (same_Some 5 code known))
told_item BaseAddress code known = ap by_code (sym (same_Some 6 code known))
told_item StartEnd code known = ap by_code (sym (same_Some 7 code known))
told_item StartLength code known = ap by_code (sym (same_Some 8 code known))

-- two lists of one length, each with one thing more or as it was
either_length : (b : Bool) (raw : RawEntry) (raws : List RawEntry) (entry : Entry) (entries : List Entry) → length raws ≡ length entries → length (cond b (raw ∷ raws) raws) ≡ length (cond b (entry ∷ entries) entries)
either_length true raw raws entry entries same = ap (λ (n : ℕ). suc n) same
either_length false raw raws entry entries same = same

-- there are as many items as entries that set no base
pub items_said : (raws : List RawEntry) (entries : List Entry) → AreSaid Locations raws entries → length (items_among raws) ≡ length (filter (λ (entry : Entry). not (sets_base entry.kind)) entries)
items_said [] [] said = refl
items_said [] (entry ∷ entries) said = absurd said
items_said (raw ∷ raws) [] said = absurd said
items_said (raw ∷ raws) (entry ∷ entries) (says, said) =
    let told : is_item raw ≡ not (sets_base entry.kind) = told_item entry.kind raw.code says.of_code in
    let items : List Entry = filter (λ (e : Entry). not (sets_base e.kind)) entries in
    let rest : length (items_among raws) ≡ length items = items_said raws entries said in
    ap (λ (b : Bool). length (cond b (raw ∷ items_among raws) (items_among raws))) told
    ∙ either_length (not (sets_base entry.kind)) raw (items_among raws) entry items rest
