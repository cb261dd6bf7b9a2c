-- What is put behind other bytes.
use Rattle.std.proofs.Common.{◌≡◌, ◌<◌, ◌+◌, ◌-◌, ◌*◌, ◌^◌, ◌∙◌, ℕ, List, [], ◌∷◌, ◌++◌, length, get_or, take, sym, ap, refl, subst, arith, inl, inr}
use Rattle.std.specs.Prelude.{Some, true, false}
use Rattle.std.specs.List.{sum_by}
use Rattle.std.proofs.lemmas.Bool.{cases_lt}
use Rattle.std.proofs.lemmas.List.{append_assoc, length-append, take_more, take_all}
use Rattle.spelled.specs.Spelled.{Joined, Appends}
use Rattle.spelled.proofs.Joins.{appends_more}
use Rattle.leb_codec.specs.Digits.{Extends}
use Rattle.leb_codec.specs.Leb.{ShortestUnsigned}
use Rattle.form_codec.specs.declared.form.Width.TheVariants.{Four, Eight}
use Rattle.form_codec.specs.Written.{low_bytes}
use Rattle.form_codec.proofs.WriteLaws.{low_len, number_low, low_small}
use Rattle.list_model.specs.declared.entry.EntryKind.{EntryKind}
use Rattle.list_model.specs.declared.entry.ListKind.{ListKind}
use Rattle.list_model.specs.declared.entry.Operand.{Operand}
use Rattle.list_model.specs.declared.entry.Operand.TheVariants.{Absent, Number, Address}
use Rattle.list_model.specs.Entries.{Entry, code_of, first_operand, second_operand}
use Rattle.list_model.proofs.EntryLaws.{one_kind}
use Rattle.list_least.specs.declared.pick.Pick.{Pick}
use Rattle.list_least.specs.Plans.{entries_bytes, IsPick, ArePicks}
use Rattle.list_least.specs.Shortest.{FitsOperand, ShortestEntry}
use Rattle.loc_lists.specs.declared.views.ViewPair.{ViewPair}
use Rattle.loc_lists.specs.Views.{ShortestPair}
use Rattle.list_write.specs.declared.image.Moved.{Moved}
use Rattle.list_write.specs.Written.{Run, ToWrite, HasExpressions, IsSized, ShortestWith, run_size, full_size, list_at, run_at}
use Rattle.list_write.specs.inside.Places.{run_sizes, views_size, list_sizes}
use Rattle.list_write.specs.inside.Puts.{ShortestOperand, ShortestExpression, carries, AreEntriesPut, told_at, IsMovedFrom, IsSlotPut, AreSlotsPut, RunStands, AreRunsPut, WholeStands, AreListsPut}
use Rattle.list_write.proofs.ApartLaws.{next_inside, put_plain, put_carrying, with_size}
use Rattle.list_write.proofs.Entries.{no_entry, picked_at, picked_count}
use Rattle.list_write.proofs.Placing.{sizes_more}
use Rattle.list_write.proofs.Runs.{run_more, pairs_size}
use Rattle.list_write.proofs.Standing.{extends_none, extends_more, stand_last, stand_more}

-- ---- entries

-- an address
pub address_put : (operand : Operand) (value : ℕ) (old new : List ℕ) → operand ≡ Address → new ≡ old ++ low_bytes Eight value → FitsOperand operand value → Appends (ShortestOperand operand) value old new
address_put Address value old new is e fits =
    (low_bytes Eight value, (record { size = low_len Eight value; bounded = low_small 0 8 value; is = sym (number_low Eight value fits) }, low_len Eight value), e)
address_put Absent value old new is e fits = absurd (cc is)
address_put Number value old new is e fits = absurd (cc is)

-- the code of an entry, and its operands
pub entry_put : (kind : ListKind) (pick : Pick) (entry : Entry) (of_code : EntryKind) (old a b new : List ℕ) → code_of kind of_code ≡ Some pick.code → IsPick kind pick entry → a ≡ old ++ pick.code ∷ [] → (FitsOperand (first_operand of_code) pick.a → Appends (ShortestOperand (first_operand of_code)) pick.a a b) → (FitsOperand (second_operand of_code) pick.b → Appends (ShortestOperand (second_operand of_code)) pick.b b new) → Appends (ShortestEntry kind) entry old new
entry_put kind pick entry of_code old a b new known is e first second =
    let same : of_code ≡ entry.kind = one_kind kind of_code entry.kind pick.code known is.code in
    let fits = is.operands in
    let x : Appends (ShortestOperand (first_operand entry.kind)) entry.a a b = subst (λ (z : ℕ). Appends (ShortestOperand (first_operand entry.kind)) z a b) is.a (subst (λ (z : EntryKind). FitsOperand (first_operand z) pick.a → Appends (ShortestOperand (first_operand z)) pick.a a b) same first (subst (λ (z : ℕ). FitsOperand (first_operand entry.kind) z) (sym is.a) fits.first)) in
    let y : Appends (ShortestOperand (second_operand entry.kind)) entry.b b new = subst (λ (z : ℕ). Appends (ShortestOperand (second_operand entry.kind)) z b new) is.b (subst (λ (z : EntryKind). FitsOperand (second_operand z) pick.b → Appends (ShortestOperand (second_operand z)) pick.b b new) same second (subst (λ (z : ℕ). FitsOperand (second_operand entry.kind) z) (sym is.b) fits.second)) in
    let whole : new ≡ old ++ pick.code ∷ (x.0 ++ y.0) = y.2 ∙ ap (λ z. z ++ y.0) (x.2 ∙ ap (λ z. z ++ x.0) e) ∙ append_assoc (old ++ pick.code ∷ []) x.0 y.0 ∙ append_assoc old (pick.code ∷ []) (x.0 ++ y.0) in
    let size : length (x.0 ++ y.0) ≡ length x.0 + length y.0 = length-append x.0 y.0 in
    (pick.code ∷ (x.0 ++ y.0), (record { code = pick.code; operands = x.0 ++ y.0; known = is.code; spelled = (x.0, y.0, x.1.0, y.1.0, refl); whole = refl }, omega (arith, size, x.1.1, y.1.1)), whole)

-- the entries so far, and one more that has no expression
pub plain_put : (kind : ListKind) (picks : List Pick) (entries : List Entry) (expressions : List (List ℕ)) (d : Pick) (i next : ℕ) (old mid new : List ℕ) → i < length picks → ArePicks kind picks entries → AreEntriesPut kind (take i entries) expressions next old mid → false ≡ carries kind (get_or entries i no_entry).kind → ((entry : Entry) → IsPick kind (get_or picks i d) entry → Appends (ShortestEntry kind) entry mid new) → AreEntriesPut kind (take (i + 1) entries) expressions next old new
plain_put kind picks entries expressions d i next old mid new inside picked so_far has more =
    let count = picked_count kind picks entries picked in
    let e = take_more entries i no_entry (omega (arith, count)) in
    subst (λ (z : List Entry). AreEntriesPut kind z expressions next old new) (sym e) (put_plain kind (take i entries) (get_or entries i no_entry) expressions next old mid new so_far (sym has) (more (get_or entries i no_entry) (picked_at kind picks entries picked i d no_entry inside)))

-- and one more that has one
pub carrying_put : (kind : ListKind) (picks : List Pick) (entries : List Entry) (expressions : List (List ℕ)) (expression : List ℕ) (d : Pick) (i next : ℕ) (old mid a new : List ℕ) → i < length picks → ArePicks kind picks entries → HasExpressions kind entries expressions → AreEntriesPut kind (take i entries) expressions next old mid → true ≡ carries kind (get_or entries i no_entry).kind → expression ≡ get_or expressions next [] → ((entry : Entry) → IsPick kind (get_or picks i d) entry → Appends (ShortestEntry kind) entry mid a) → Appends ShortestExpression expression a new → AreEntriesPut kind (take (i + 1) entries) expressions (next + 1) old new
carrying_put kind picks entries expressions expression d i next old mid a new inside picked carried so_far has at more behind =
    let count = picked_count kind picks entries picked in
    let within : i < length entries = omega (arith, count, inside) in
    let e = take_more entries i no_entry within in
    let among = next_inside kind entries expressions no_entry i next carried within so_far.counted (sym has) in
    subst (λ (z : List Entry). AreEntriesPut kind z expressions (next + 1) old new) (sym e) (put_carrying kind (take i entries) (get_or entries i no_entry) expressions expression next old mid a new so_far (sym has) among at (more (get_or entries i no_entry) (picked_at kind picks entries picked i d no_entry inside)) behind)

-- ---- view pairs

pub pair_put : (pair : ViewPair) (old mid new : List ℕ) → pair.first < 2 ^ 64 → pair.last < 2 ^ 64 → Appends ShortestUnsigned pair.first old mid → Appends ShortestUnsigned pair.last mid new → Appends ShortestPair pair old new
pair_put pair old mid new low high (a, s, e) (b, t, f) =
    let size : length (a ++ b) ≡ length a + length b = length-append a b in
    (a ++ b, ((a, b, (s.0, low), (t.0, high), refl), omega (arith, size, s.1, t.1)), f ∙ ap (λ z. z ++ b) e ∙ append_assoc old a b)

-- the pairs so far, and one more
pub run_put : (pairs : List ViewPair) (d : ViewPair) (i : ℕ) (old mid new : List ℕ) → i < length pairs → Appends (Joined ShortestPair) (take i pairs) old mid → Appends ShortestPair (get_or pairs i d) mid new → Appends (Joined ShortestPair) (take (i + 1) pairs) old new
run_put pairs d i old mid new inside so_far more =
    subst (λ (z : List ViewPair). Appends (Joined ShortestPair) z old new) (sym (take_more pairs i d inside)) (appends_more ShortestPair (take i pairs) (get_or pairs i d) old mid new so_far more)

-- a run that stands goes on standing
pub run_stays : (run : Run) (at : ℕ) (old new : List ℕ) → Extends old new → RunStands run at old → RunStands run at new
run_stays run at old new extends stands = (stands.0, stands.1, stand_more at stands.0 old new extends stands.2)

pub runs_put_none : (runs : List Run) (old : List ℕ) → AreRunsPut runs 0 old old
runs_put_none runs old = record { extends = extends_none old; size = omega arith; each = λ i less. absurd (omega arith) }

pub runs_put_more : (runs : List Run) (count : ℕ) (old mid new : List ℕ) → count < length runs → AreRunsPut runs count old mid → Appends (Joined ShortestPair) (run_at runs count).pairs mid new → AreRunsPut runs (count + 1) old new
runs_put_more runs count old mid new inside so_far put =
    let extends : Extends mid new = (put.0, put.2) in
    let own : length put.0 ≡ run_size (run_at runs count) = pairs_size (run_at runs count).pairs put.0 put.1 in
    let all : length new ≡ length mid + length put.0 = ap length put.2 ∙ length-append mid put.0 in
    let before : length mid ≡ length old + run_sizes runs count = so_far.size in
    let sizes = run_more runs count inside in
    record {
      extends = extends_more old mid new so_far.extends extends;
      size = omega (arith, own, all, before, sizes);
      each = λ i less. elim (cases_lt i count) [
        | inl x ↦ run_stays (run_at runs i) (length old + run_sizes runs i) mid new extends (so_far.each i x)
        | inr y ↦
            let same : count ≡ i = omega arith in
            subst (λ (z : ℕ). RunStands (run_at runs z) (length old + run_sizes runs z) new) same (put.0, put.1, stand_last mid put.0 new (length old + run_sizes runs count) put.2 before)
      ];
    }

-- ---- lists

-- a list that stands behind its view pairs goes on standing
pub whole_stays : (kind : ListKind) (list : ToWrite) (at : ℕ) (old new : List ℕ) → Extends old new → WholeStands kind list at old → WholeStands kind list at new
whole_stays kind list at old new extends stands = record {
  runs = λ i inside. run_stays (run_at list.views i) (at + run_sizes list.views i) old new extends (stands.runs i inside);
  own = λ entries picked.
      let there = stands.own entries picked in
      (there.0, there.1, there.2, stand_more (at + views_size list) there.0 old new extends there.3);
}

pub lists_none : (kind : ListKind) (lists : List ToWrite) (old : List ℕ) → AreListsPut kind lists 0 old old
lists_none kind lists old = record { extends = extends_none old; size = omega arith; each = λ k less. absurd (omega arith) }

-- a list is put behind its view pairs
module _ (kind : ListKind) (list : ToWrite) (at : ℕ) (mid behind new : List ℕ) (runs : AreRunsPut list.views (length list.views) mid behind)
    (more : (entries : List Entry) → ArePicks kind list.picks entries → Appends (λ (expressions : List (List ℕ)) (bytes : List ℕ). (bare : List ℕ) × ShortestWith kind entries expressions bytes bare) list.expressions behind new)
    (sized : IsSized kind list) (begins : length mid ≡ at) where
  list_extends : Extends behind new
  list_extends = let put = more sized.entries sized.picked in (put.0, put.2)

  pub whole_extends : Extends mid new
  whole_extends = extends_more mid behind new runs.extends list_extends

  behind_size : length behind ≡ at + views_size list
  behind_size =
      let size : length behind ≡ length mid + run_sizes list.views (length list.views) = runs.size in
      let all : run_sizes list.views (length list.views) ≡ views_size list = ap (sum_by run_size) (take_all (length list.views) list.views (omega arith)) in
      omega (arith, size, all, begins)

  pub whole_length : length new ≡ at + full_size list
  whole_length =
      let put = more sized.entries sized.picked in
      let bytes = with_size kind sized.entries list.expressions put.0 put.1.0 sized.carried put.1.1 in
      let all : length new ≡ length behind + length put.0 = ap length put.2 ∙ length-append behind put.0 in
      let own : list.size ≡ entries_bytes sized.entries + 1 = sized.bytes in
      let before = behind_size in
      omega (arith, bytes, all, own, before)

  pub whole_stands : WholeStands kind list at new
  whole_stands = record {
    runs = λ i inside. run_stays (run_at list.views i) (at + run_sizes list.views i) behind new list_extends (subst (λ (z : ℕ). RunStands (run_at list.views i) (z + run_sizes list.views i) behind) begins (runs.each i inside));
    own = λ entries picked.
        let put = more entries picked in
        (put.0, put.1.0, put.1.1, stand_last behind put.0 new (at + views_size list) put.2 behind_size);
  }

pub lists_more : (kind : ListKind) (lists : List ToWrite) (count : ℕ) (old mid behind new : List ℕ) → count < length lists → AreListsPut kind lists count old mid → IsSized kind (list_at lists count) → AreRunsPut (list_at lists count).views (length (list_at lists count).views) mid behind → ((entries : List Entry) → ArePicks kind (list_at lists count).picks entries → Appends (λ (expressions : List (List ℕ)) (bytes : List ℕ). (bare : List ℕ) × ShortestWith kind entries expressions bytes bare) (list_at lists count).expressions behind new) → AreListsPut kind lists (count + 1) old new
lists_more kind lists count old mid behind new inside so_far sized runs more =
    let at : length mid ≡ length old + list_sizes lists count = so_far.size in
    let extends = whole_extends kind (list_at lists count) (length old + list_sizes lists count) mid behind new runs more sized at in
    let size = whole_length kind (list_at lists count) (length old + list_sizes lists count) mid behind new runs more sized at in
    let sizes : list_sizes lists (count + 1) ≡ list_sizes lists count + full_size (list_at lists count) = sizes_more lists count inside in
    record {
      extends = extends_more old mid new so_far.extends extends;
      size = omega (arith, size, sizes);
      each = λ k less. elim (cases_lt k count) [
        | inl x ↦ whole_stays kind (list_at lists k) (length old + list_sizes lists k) mid new extends (so_far.each k x)
        | inr y ↦
            let same : count ≡ k = omega arith in
            subst (λ (z : ℕ). WholeStands kind (list_at lists z) (length old + list_sizes lists z) new) same (whole_stands kind (list_at lists count) (length old + list_sizes lists count) mid behind new runs more sized at)
      ];
    }

-- ---- slots

pub slots_none : (section : List ℕ) (offsets new_offsets : ℕ) (lists : List Moved) (old : List ℕ) → AreSlotsPut section offsets new_offsets lists 0 old old
slots_none section offsets new_offsets lists old = record { extends = extends_none old; size = omega arith; each = λ k less. absurd (omega arith) }

pub slots_more : (section : List ℕ) (offsets new_offsets : ℕ) (lists : List Moved) (list : Moved) (count : ℕ) (old mid new : List ℕ) → AreSlotsPut section offsets new_offsets lists count old mid → IsMovedFrom lists (told_at section offsets (offsets + 4 * count)) list → new ≡ mid ++ low_bytes Four (list.new - new_offsets) → AreSlotsPut section offsets new_offsets lists (count + 1) old new
slots_more section offsets new_offsets lists list count old mid new so_far moved e =
    let extends : Extends mid new = (low_bytes Four (list.new - new_offsets), e) in
    let few : length (low_bytes Four (list.new - new_offsets)) ≡ 4 = low_len Four (list.new - new_offsets) in
    let all : length new ≡ length mid + length (low_bytes Four (list.new - new_offsets)) = ap length e ∙ length-append mid (low_bytes Four (list.new - new_offsets)) in
    let before : length mid ≡ length old + 4 * count = so_far.size in
    record {
      extends = extends_more old mid new so_far.extends extends;
      size = omega arith;
      each = λ slot less. elim (cases_lt slot count) [
        | inl x ↦
            let there = so_far.each slot x in
            record { list = there.list; moved = there.moved; stands = stand_more (length old + 4 * slot) (low_bytes Four (there.list.new - new_offsets)) mid new extends there.stands }
        | inr y ↦
            let same : count ≡ slot = omega arith in
            subst (λ (z : ℕ). IsSlotPut section offsets new_offsets lists z (length old + 4 * z) new) same (record { list = list; moved = moved; stands = stand_last mid (low_bytes Four (list.new - new_offsets)) new (length old + 4 * count) e before })
      ];
    }
