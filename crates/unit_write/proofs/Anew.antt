-- The items of a unit that are written anew: they are walked in the new section, and each is the old one with new numbers.
use Rattle.std.proofs.Common.{◌≡◌, ◌≢◌, ◌≤◌, ◌<◌, ◌+◌, ◌-◌, ℕ, zero, suc, List, [], ◌∷◌, ◌++◌, length, take, drop, get_or, ◌∙◌, sym, ap, refl, subst, arith, inl, inr}
use Rattle.std.specs.Prelude.{map, if◌then◌else◌, Bool}
use Rattle.std.specs.List.{All, AllZip}
use Rattle.std.proofs.lemmas.List.{append-nil, append_assoc, length-append, length-map, length-drop, length-take-le, get_or_append_left, get_or-append-add, get_or-map, get_or-take, get_or-drop}
use Rattle.std.proofs.lemmas.List.Elements.{All-nil, All-cons}
use Rattle.std.proofs.lemmas.Bool.{cases_lt}
use Rattle.std.proofs.Common.{add-one, add-zero}
use Rattle.std.proofs.Math.Seq.{take-add}
use Rattle.leb_codec.specs.Leb.{Uleb, ShortestUnsigned, least_unsigned_len}
use Rattle.leb_codec.proofs.SpellingLaws.{leb_one}
use Rattle.form_codec.specs.declared.value.Value.{Value}
use Rattle.form_codec.specs.Values.{meant_in}
use Rattle.abbrev_tables.specs.declared.decl.Spec.{Spec}
use Rattle.abbrev_tables.specs.Tables.{Declared}
use Rattle.abbrev_tables.specs.Listings.{Listing, declared_in}
use Rattle.entry_arena.specs.declared.entry.Entry.{Entry}
use Rattle.entry_arena.specs.declared.entry.ChainEnd.{ChainEnd}
use Rattle.entry_arena.specs.Arena.{Arena, entry_at, value_at, with_values}
use Rattle.entry_arena.specs.Trees.{Listed, listed_to, nothing_from, declared_at, bytes_between, SpellsBetween, ValuesBetween, AddsEntry, AddsEnd}
use Rattle.entry_arena.specs.Walks.{Item, IsGoing, Walks, opened}
use Rattle.entry_arena.specs.Walks.Item.{AnEntry, AnEnd}
use Rattle.entry_arena.specs.Onward.{HasWalked, EntryIsNext, EndIsNext}
use Rattle.entry_arena.specs.Spellings.{SpellsValues}
use Rattle.entry_arena.proofs.SpellingLaws.{cut, values_found}
use Rattle.entry_read.specs.Units.{declarations_of}
use Rattle.unit_write.specs.Values.{HasSize, HaveSize}
use Rattle.unit_write.specs.NewExpressions.{lens_of, made_of, new_len}
use Rattle.unit_write.specs.Placing.{columns_of, values_in, among_values, EntrySize, ArePlaced, IsRenumbered}
use Rattle.entry_read.specs.Short.{WrittenBetween, StandsShort, EndsShort}
use Rattle.unit_write.specs.Moved.{NewValues, IsMovedEntry, IsMovedEnd, lens_anew}
use Rattle.unit_write.specs.inside.Puts.{AreNew, renewed_at, PutsValues, PutsEntry, PutsItems}
use Rattle.entry_arena.proofs.Between.{length_between}
use Rattle.entry_arena.proofs.OnwardLaws.{walks_go_on}
use Rattle.unit_write.proofs.EndLaws.{made_len}
use Rattle.unit_write.proofs.LensLaws.{anew_at}
use Rattle.unit_write.proofs.ValueLaws.{size_written}
use Rattle.unit_write.proofs.PutLaws.{values_as}
use Rattle.unit_write.proofs.ShortLaws.{renamed, values_short, entry_short, first_short, end_short}

values_spelled : (section : List ℕ) (anew : NewValues) (i : ℕ) (cs : List Spec) (vs : List Value) (bytes : List ℕ) → PutsValues section anew i cs vs bytes → SpellsValues cs (renamed section anew i vs) bytes
values_spelled section anew i [] [] bytes p = p
values_spelled section anew i [] (v ∷ vs) bytes p = absurd p
values_spelled section anew i (c ∷ cs) [] bytes p = absurd p
values_spelled section anew i (c ∷ cs) (v ∷ vs) bytes (first, rest, w, p, e) = (first, rest, w.0, values_spelled section anew (suc i) cs vs rest p, e)

-- the lengths of values, of which the first has a number, are those of what is written
abbrev AreLensOf : List ℕ → NewValues → ℕ → List Value → List ℕ → Type 0
AreLensOf section anew i vs lens = (k : ℕ) → k < length vs → get_or lens k 0 ≡ new_len (meant_in section (value_at vs k)) (get_or anew.held (i + k) 0) (get_or (lens_of anew.ends) (i + k) 0)

later_lens : (section : List ℕ) (anew : NewValues) (i : ℕ) (v : Value) (vs : List Value) (len : ℕ) (lens : List ℕ) → AreLensOf section anew i (v ∷ vs) (len ∷ lens) → AreLensOf section anew (suc i) vs lens
later_lens section anew i v vs len lens each k lt =
    let same : i + suc k ≡ suc i + k = omega arith in
    each (suc k) (omega arith) ∙ ap (λ (n : ℕ). new_len (meant_in section (value_at vs k)) (get_or anew.held n 0) (get_or (lens_of anew.ends) n 0)) same

values_sized : (section : List ℕ) (anew : NewValues) (count i : ℕ) (cs : List Spec) (vs : List Value) (lens bytes : List ℕ) (size : ℕ) → AreNew anew count → i + length vs ≤ count → AreLensOf section anew i vs lens → HaveSize section cs vs lens size → PutsValues section anew i cs vs bytes → HaveSize section cs vs lens (length bytes)
values_sized section anew count i [] [] [] bytes size new inside each has p = ap length p
values_sized section anew count i [] [] (n ∷ lens) bytes size new inside each has p = absurd has
values_sized section anew count i [] (v ∷ vs) lens bytes size new inside each has p = absurd has
values_sized section anew count i (c ∷ cs) [] lens bytes size new inside each has p = absurd has
values_sized section anew count i (c ∷ cs) (v ∷ vs) [] bytes size new inside each has p = absurd has
values_sized section anew count i (c ∷ cs) (v ∷ vs) (n ∷ lens) bytes size new inside each has (first, rest, w, p, e) =
    let m = meant_in section v in
    let len : n ≡ new_len m (get_or anew.held i 0) (get_or (lens_of anew.ends) i 0) = each 0 (omega arith) ∙ ap (λ (j : ℕ). new_len m (get_or anew.held j 0) (get_or (lens_of anew.ends) j 0)) (add-zero i) in
    let old = subst (λ (z : ℕ). HasSize c m z has.0) len has.2 in
    let written = size_written c m (get_or anew.held i 0) (get_or (lens_of anew.ends) i 0) has.0 (made_of anew.ends anew.expressions i) first old (made_len anew count i new (omega arith)) w in
    let own : HasSize c m n (length first) = subst (λ (z : ℕ). HasSize c m z (length first)) (sym len) written in
    let more = values_sized section anew count (suc i) cs vs lens rest has.1 new (omega arith) (later_lens section anew i v vs n lens each) has.3 p in
    (length first, length rest, own, more, ap length e ∙ length-append first rest)

-- values in a section that mean anew what others mean in theirs, of which the first has a number
record AreRenamed (old new : List ℕ) (anew : NewValues) (i : ℕ) (vs ws : List Value) : Type 0 where
  count : length ws ≡ length vs
  each : (k : ℕ) → k < length vs → meant_in new (value_at ws k) ≡ renewed_at anew (i + k) (meant_in old (value_at vs k))

are_renamed : (old new : List ℕ) (anew : NewValues) (i : ℕ) (vs ws : List Value) → map (meant_in new) ws ≡ renamed old anew i vs → AreRenamed old new anew i vs ws
are_renamed old new anew i [] [] e = record { count = refl; each = λ k lt. absurd (omega arith) }
are_renamed old new anew i [] (w ∷ ws) e = absurd (cc (e))
are_renamed old new anew i (v ∷ vs) [] e = absurd (cc (e))
are_renamed old new anew i (v ∷ vs) (w ∷ ws) e =
    let here : meant_in new w ≡ renewed_at anew i (meant_in old v) = cc (e) in
    let there : map (meant_in new) ws ≡ renamed old anew (suc i) vs = cc (e) in
    let more = are_renamed old new anew (suc i) vs ws there in
    record { count = ap suc more.count; each = at here more.each }
  where
    at : meant_in new w ≡ renewed_at anew i (meant_in old v) → ((k : ℕ) → k < length vs → meant_in new (value_at ws k) ≡ renewed_at anew (suc i + k) (meant_in old (value_at vs k))) → (k : ℕ) → k < length (v ∷ vs) → meant_in new (value_at (w ∷ ws) k) ≡ renewed_at anew (i + k) (meant_in old (value_at (v ∷ vs) k))
    at here there zero lt = here ∙ ap (λ (n : ℕ). renewed_at anew n (meant_in old v)) (sym (add-zero i))
    at here there (suc k) lt =
        let same : suc i + k ≡ i + suc k = omega arith in
        there k (omega arith) ∙ ap (λ (n : ℕ). renewed_at anew n (meant_in old (value_at vs k))) same

zip_push : {A B : Type 0} (R : A → B → Type 0) (xs : List A) (ys : List B) (x : A) (y : B) → AllZip R xs ys → R x y → AllZip R (xs ++ x ∷ []) (ys ++ y ∷ [])
zip_push R [] [] x y a r = (r, tt)
zip_push R [] (b ∷ ys) x y a r = absurd a
zip_push R (c ∷ xs) [] x y a r = absurd a
zip_push R (c ∷ xs) (b ∷ ys) x y a r = (a.0, zip_push R xs ys x y a.1 r)

zip_length : {A B : Type 0} (R : A → B → Type 0) (xs : List A) (ys : List B) → AllZip R xs ys → length ys ≡ length xs
zip_length R [] [] a = refl
zip_length R [] (b ∷ ys) a = absurd a
zip_length R (c ∷ xs) [] a = absurd a
zip_length R (c ∷ xs) (b ∷ ys) a = ap suc (zip_length R xs ys a.1)

-- what is listed of a new section is what is listed of the old one, with what is new
pub record IsMoved (numbers : List ℕ) (anew : NewValues) (old_section section : List ℕ) (old new : Listed) : Type 0 where
  pub entries : AllZip (IsMovedEntry numbers) old.entries new.entries
  pub count : length new.values ≡ length old.values
  pub values : (k : ℕ) → k < length old.values → meant_in section (value_at new.values k) ≡ renewed_at anew k (meant_in old_section (value_at old.values k))
  pub ends : AllZip IsMovedEnd old.ends new.ends

pub nothing_moved : (numbers : List ℕ) (anew : NewValues) (old_section section : List ℕ) (from to : ℕ) → IsMoved numbers anew old_section section (nothing_from from) (nothing_from to)
nothing_moved numbers anew old_section section from to = record { entries = tt; count = refl; values = λ k lt. absurd (omega arith); ends = tt }

-- more values behind those that are there
values_more : (anew : NewValues) (old_section section : List ℕ) (olds news vs ws : List Value) → length news ≡ length olds → ((k : ℕ) → k < length olds → meant_in section (value_at news k) ≡ renewed_at anew k (meant_in old_section (value_at olds k))) → AreRenamed old_section section anew (length olds) vs ws → (k : ℕ) → k < length (olds ++ vs) → meant_in section (value_at (news ++ ws) k) ≡ renewed_at anew k (meant_in old_section (value_at (olds ++ vs) k))
values_more anew old_section section olds news vs ws count before renamed k lt =
    elim (cases_lt k (length olds)) [
      | inl left ↦
          let there : k < length news = omega arith in
          rw (get_or_append_left news ws _ k there, get_or_append_left olds vs _ k left) (before k left)
      | inr right ↦
          let j : ℕ = k - length olds in
          let size : length (olds ++ vs) ≡ length olds + length vs = length-append olds vs in
          let inside : j < length vs = omega arith in
          let a : k ≡ length olds + j = omega arith in
          let b : k ≡ length news + j = omega arith in
          let new_at : value_at (news ++ ws) k ≡ value_at ws j = ap (value_at (news ++ ws)) b ∙ get_or-append-add news ws j _ in
          let old_at : value_at (olds ++ vs) k ≡ value_at vs j = ap (value_at (olds ++ vs)) a ∙ get_or-append-add olds vs j _ in
          ap (meant_in section) new_at ∙ renamed.each j inside ∙ ap (λ n. renewed_at anew n (meant_in old_section (value_at vs j))) (sym a) ∙ ap (λ v. renewed_at anew k (meant_in old_section v)) (sym old_at)
    ]

-- the values of an entry are as many as it says
pub count_in : (f : Arena) (id : ℕ) → (entry_at f.entries id).first + (entry_at f.entries id).count ≤ length f.values → length (values_in f id) ≡ (entry_at f.entries id).count
count_in f id inside =
    let rest : length (drop (entry_at f.entries id).first f.values) ≡ length f.values - (entry_at f.entries id).first = length-drop (entry_at f.entries id).first f.values in
    length-take-le (entry_at f.entries id).count (drop (entry_at f.entries id).first f.values) (omega arith)

-- the lengths of the values of an entry
entry_lens : (f : Arena) (anew : NewValues) (id : ℕ) → AreNew anew (length f.values) → (entry_at f.entries id).first + (entry_at f.entries id).count ≤ length f.values → AreLensOf f.section anew (entry_at f.entries id).first (values_in f id) (among_values f (lens_anew f anew) id)
entry_lens f anew id new inside k lt =
    let first : ℕ = (entry_at f.entries id).first in
    let count : ℕ = (entry_at f.entries id).count in
    let own : length (values_in f id) ≡ count = count_in f id inside in
    let below : k < count = omega arith in
    let there : value_at f.values (first + k) ≡ value_at (values_in f id) k = sym (get_or-take count (drop first f.values) k _ below ∙ get_or-drop first f.values k _) in
    get_or-take count (drop first (lens_anew f anew)) k 0 below ∙ get_or-drop first (lens_anew f anew) k 0 ∙ anew_at f anew new.numbers new.each (first + k) (omega arith) ∙ ap (λ (v : Value). new_len (meant_in f.section v) (get_or anew.held (first + k) 0) (get_or (lens_of anew.ends) (first + k) 0)) there

entry_sized : (table : Listing) (columns : List Spec) (numbers : List ℕ) (anew : NewValues) (f : Arena) (id size : ℕ) (bytes : List ℕ) → AreNew anew (length f.values) → (entry_at f.entries id).first + (entry_at f.entries id).count ≤ length f.values → EntrySize table columns numbers f (lens_anew f anew) id size → PutsEntry table columns numbers anew f id bytes → EntrySize table columns numbers f (lens_anew f anew) id (length bytes)
entry_sized table columns numbers anew f id size bytes new inside has p =
    let cs : List Spec = columns_of table columns (entry_at f.entries id).decl in
    let first : ℕ = (entry_at f.entries id).first in
    let count : length (values_in f id) ≡ (entry_at f.entries id).count = count_in f id inside in
    let own = values_sized f.section anew (length f.values) first cs (values_in f id) (among_values f (lens_anew f anew) id) p.rest has.0 new (omega arith) (entry_lens f anew id new inside) has.1 p.valued in
    (length p.rest, own, ap length p.whole ∙ length-append p.code p.rest ∙ ap (λ n. n + length p.rest) p.shortest)

zero_byte : Uleb 0 (0 ∷ [])
zero_byte = ((leb_one 0 (omega arith), refl), omega arith)

one_joined : (before : List ChainEnd) (end : ChainEnd) (more all : List ChainEnd) → all ≡ (before ++ end ∷ []) ++ more → all ≡ before ++ (end ∷ more)
one_joined before end more all e = e ∙ append_assoc before (end ∷ []) more

no_entries : (entries : List Entry) → length entries ≡ 0 → entries ≡ []
no_entries [] e = refl
no_entries (x ∷ entries) e = absurd (omega arith)

module _ (table : Listing) (columns : List Spec) (numbers : List ℕ) (anew : NewValues) (f : Arena) (ds : List Declared) (section : List ℕ) (renumbered : IsRenumbered table columns numbers ds) (new_ones : AreNew anew (length f.values)) (valued : (id : ℕ) → id < length f.entries → (entry_at f.entries id).first + (entry_at f.entries id).count ≤ length f.values) (read : List Value) where
  -- what is listed of the old section, with the values that are written in place of as many that were read
  abbrev pub as_written : Listed → Listed
  as_written now = record { entries = now.entries; values = take (length now.values) f.values; ends = now.ends; place = now.place }

  abbrev Moved : Listed → Listed → Type 0
  Moved old new = IsMoved numbers anew f.section section (as_written old) new

  abbrev number_of : ℕ → ℕ
  number_of number = get_or numbers number 0 - 1

  -- an entry stands in the new section
  record EntryStands (depth number : ℕ) (mid new : Listed) (to : ℕ) : Type 0 where
    next : Listed
    entry : Entry
    adds : AddsEntry section ds depth (number_of number) new next
    place : next.place ≡ to
    entered : next.entries ≡ new.entries ++ entry ∷ []
    ended : next.ends ≡ new.ends
    at : entry.at ≡ new.place
    moved : Moved mid next
    values : List Value
    listed : next.values ≡ new.values ++ values
    short : (more : List Value) → StandsShort section ds (next.values ++ more) entry

  entry_stands : (depth number id : ℕ) (old mid new : Listed) (to : ℕ) (bytes : List ℕ) → Moved old new → (adds : AddsEntry f.section (declarations_of table) depth number old mid) → entry_at f.entries id ≡ record { at = old.place; len = mid.place - old.place; depth = depth; decl = number; first = length old.values; count = length adds.values } → id < length f.entries → get_or numbers number 0 ≢ 0 → PutsEntry table columns numbers anew f id bytes → new.place ≤ to → to ≤ length section → bytes_between section new.place to ≡ bytes → EntryStands depth number mid new to
  entry_stands depth number id old mid new to bytes moved adds here known_id used p order inside whole =
      let e : Entry = record { at = old.place; len = mid.place - old.place; depth = depth; decl = number; first = length old.values; count = length adds.values } in
      let decl : (entry_at f.entries id).decl ≡ number = ap (λ (z : Entry). z.decl) here in
      let known : number < length table.decls = subst (λ (z : ℕ). number < z) (length-map table.decls (declared_in table.specs)) adds.known in
      let there = renumbered.each number known used in
      let cs : List Spec = columns_of table columns number in
      let vs : List Value = values_in f id in
      let olds : List Value = take (length old.values) f.values in
      let i : ℕ = length olds in
      let first : (entry_at f.entries id).first ≡ length old.values = ap (λ (z : Entry). z.first) here in
      let count : (entry_at f.entries id).count ≡ length adds.values = ap (λ (z : Entry). z.count) here in
      let own : length vs ≡ length adds.values = count_in f id (valued id known_id) ∙ count in
      let before_values : i ≡ length old.values = length-take-le (length old.values) f.values (let within = valued id known_id in omega (arith, within, first)) in
      let parts_are : take (length mid.values) f.values ≡ olds ++ vs = ap (λ (n : ℕ). take n f.values) (ap length adds.listed ∙ length-append old.values adds.values) ∙ take-add (length old.values) (length adds.values) f.values ∙ ap (λ (n : ℕ). olds ++ take n (drop (length old.values) f.values)) (sym count) ∙ ap (λ (n : ℕ). olds ++ take (entry_at f.entries id).count (drop n f.values)) (sym first) in
      let put : PutsValues f.section anew i cs vs p.rest = values_as f.section f.section anew (entry_at f.entries id).first i (columns_of table columns (entry_at f.entries id).decl) cs vs vs p.rest refl (first ∙ sym before_values) (ap (columns_of table columns) decl) refl p.valued in
      let parts : bytes_between section new.place to ≡ p.code ++ p.rest = whole ∙ p.whole in
      let c = cut section new.place to p.code p.rest order inside parts in
      let before : c.mid ≤ to = c.before in
      let code : get_or numbers (entry_at f.entries id).decl 0 ≡ (declared_at ds (number_of number)).code = ap (λ (z : ℕ). get_or numbers z 0) decl ∙ sym (ap (λ (z : Declared). z.code) there.1) in
      let coded = subst (λ (z : List ℕ). Uleb ((declared_at ds (number_of number)).code) z) (sym c.first) (subst (λ (z : ℕ). Uleb z p.code) code p.coded) in
      let v = values_found section cs (renamed f.section anew i vs) c.mid to c.before inside (subst (λ (z : List ℕ). SpellsValues cs (renamed f.section anew i vs) z) (sym c.second) (values_spelled f.section anew i cs vs p.rest put)) in
      let r = are_renamed f.section section anew i vs v.values v.means in
      let code_len : length (bytes_between section new.place c.mid) ≡ least_unsigned_len ((declared_at ds (number_of number)).code) = ap length c.first ∙ p.shortest ∙ ap least_unsigned_len code in
      let code_short : SpellsBetween (ShortestUnsigned ((declared_at ds (number_of number)).code)) section new.place c.mid = record { order = c.after; inside = omega arith; spelled = (coded.0, code_len) } in
      let put_there : PutsValues f.section anew i cs vs (bytes_between section c.mid to) = subst (λ (z : List ℕ). PutsValues f.section anew i cs vs z) (sym c.second) put in
      let written : WrittenBetween section ((declared_at ds (number_of number)).columns) v.values c.mid to = subst (λ (z : List Spec). WrittenBetween section z v.values c.mid to) (sym (ap (λ (z : Declared). z.columns) there.1)) (values_short f.section section anew i cs vs v.values c.mid to c.before inside put_there v.means) in
      let entry : Entry = record { at = new.place; len = to - new.place; depth = depth; decl = number_of number; first = length new.values; count = length v.values } in
      let next : Listed = record { entries = new.entries ++ entry ∷ []; values = new.values ++ v.values; ends = new.ends; place = to } in
      record {
        next = next;
        entry = entry;
        adds = record {
          known = there.0;
          values_at = c.mid;
          values = v.values;
          coded = record { order = c.after; inside = omega arith; spelled = coded };
          valued = subst (λ (z : List Spec). ValuesBetween section z v.values c.mid to) (sym (ap (λ (z : Declared). z.columns) there.1)) v.valued;
          entered = refl;
          listed = refl;
          ended = refl;
        };
        place = refl;
        entered = refl;
        ended = refl;
        at = refl;
        moved = record {
          entries = subst (λ (z : List Entry). AllZip (IsMovedEntry numbers) z (new.entries ++ entry ∷ [])) (sym adds.entered) (zip_push (IsMovedEntry numbers) old.entries new.entries e entry moved.entries (record { depth = refl; decl = refl; first = moved.count ∙ before_values; count = r.count ∙ own }));
          count = length-append new.values v.values ∙ ap (λ n. n + length v.values) moved.count ∙ ap (λ n. i + n) r.count ∙ sym (length-append olds vs) ∙ sym (ap length parts_are);
          values = subst (λ (z : List Value). (k : ℕ) → k < length z → meant_in section (value_at (new.values ++ v.values) k) ≡ renewed_at anew k (meant_in f.section (value_at z k))) (sym parts_are) (values_more anew f.section section olds new.values vs v.values moved.count moved.values r);
          ends = subst (λ (z : List ChainEnd). AllZip IsMovedEnd z new.ends) (sym adds.ended) moved.ends;
        };
        values = v.values;
        listed = refl;
        short = λ more. entry_short section ds new.values v.values more new.place c.mid to depth (number_of number) order code_short written;
      }

  -- the items of a walk stand in the new section
  pub record StandAnew (id : ℕ) (items : List Item) (new : Listed) (chains : List ℕ) (to : ℕ) (forest : Listed) : Type 0 where
    pub items_anew : List Item
    pub last : Listed
    pub entries : List Entry
    pub values : List Value
    pub ends : List ChainEnd
    pub walked : Walks section ds new chains items_anew last []
    pub place : last.place ≡ to
    pub moved : Moved forest last
    pub entries_are : last.entries ≡ new.entries ++ entries
    pub values_are : last.values ≡ new.values ++ values
    pub ends_are : last.ends ≡ new.ends ++ ends
    pub placed : ArePlaced (EntrySize table columns numbers f (lens_anew f anew)) id items new.place (map (λ (e : Entry). e.at) entries) (map (λ (e : ChainEnd). e.at) ends) to
    pub short : (k : ℕ) → k < length entries → StandsShort section ds last.values (entry_at entries k)
    pub ends_short : All (EndsShort section) ends

  children_same : (number : ℕ) → number < length table.decls → get_or numbers number 0 ≢ 0 → (declared_at (declarations_of table) number).children ≡ (declared_at ds (number_of number)).children
  children_same number known used =
      ap (λ (z : Declared). z.children) (get_or-map (declared_in table.specs) table.decls number _ _ known) ∙ sym (ap (λ (z : Declared). z.children) ((renumbered.each number known used).1))

  going_moved : (old new : Listed) (chains : List ℕ) → Moved old new → IsGoing old chains → IsGoing new chains
  going_moved old new chains moved (inl none) = inl (no_entries new.entries (zip_length (IsMovedEntry numbers) old.entries new.entries moved.entries ∙ ap length none))
  going_moved old new chains moved (inr open_) = inr open_

  opened_same : (number id new_id : ℕ) (chains : List ℕ) → number < length table.decls → get_or numbers number 0 ≢ 0 → id ≡ new_id → opened (declarations_of table) number id chains ≡ opened ds (number_of number) new_id chains
  opened_same number id new_id chains known used same =
      ap (λ (b : Bool). if b then id ∷ chains else chains) (children_same number known used) ∙ ap (λ (n : ℕ). if (declared_at ds (number_of number)).children then n ∷ chains else chains) same

  module _ (start place : ℕ) (used : (id : ℕ) → id < length f.entries → get_or numbers (entry_at f.entries id).decl 0 ≢ 0) (sized : (id : ℕ) → id < length f.entries → (size : ℕ) × EntrySize table columns numbers f (lens_anew f anew) id size) where
    abbrev HasCome : ℕ → ℕ → List Item → Listed → List ℕ → List Item → Type 0
    HasCome entries ends done now chains rest = HasWalked f.section (declarations_of table) start (listed_to (with_values f read) place) entries ends done now chains rest

    entry_next : (number entries ends : ℕ) (rest done : List Item) (now : Listed) (chains : List ℕ) → HasCome entries ends done now chains (AnEntry number ∷ rest) → EntryIsNext f.section (declarations_of table) start (listed_to (with_values f read) place) entries ends done now chains (AnEntry number ∷ rest)
    entry_next number entries ends rest done now chains h =
        elim ((walks_go_on f.section (declarations_of table) start (listed_to (with_values f read) place) entries ends done now chains (AnEntry number ∷ rest) h).cases) [
          | inl e ↦ e
          | inr (inl e) ↦ absurd (cc (e.rest_is))
          | inr (inr w) ↦ absurd (cc (w.rest_is))
        ]

    end_next : (entries ends : ℕ) (rest done : List Item) (now : Listed) (chains : List ℕ) → HasCome entries ends done now chains (AnEnd ∷ rest) → EndIsNext f.section (declarations_of table) start (listed_to (with_values f read) place) entries ends done now chains (AnEnd ∷ rest)
    end_next entries ends rest done now chains h =
        elim ((walks_go_on f.section (declarations_of table) start (listed_to (with_values f read) place) entries ends done now chains (AnEnd ∷ rest) h).cases) [
          | inl e ↦ absurd (cc (e.rest_is))
          | inr (inl e) ↦ e
          | inr (inr w) ↦ absurd (cc (w.rest_is))
        ]

    -- after an entry
    entry_anew : (number entries ends : ℕ) (rest done : List Item) (now new : Listed) (chains : List ℕ) (to mid : ℕ) (first : List ℕ) → (e : EntryIsNext f.section (declarations_of table) start (listed_to (with_values f read) place) entries ends done now chains (AnEntry number ∷ rest)) → Moved now new → (s : EntryStands (length chains) e.number e.mid new mid) → PutsEntry table columns numbers anew f entries first → mid ≡ new.place + length first → length now.entries ≡ entries → StandAnew (suc entries) rest s.next (opened (declarations_of table) e.number entries chains) to (listed_to (with_values f read) place) → StandAnew entries (AnEntry number ∷ rest) new chains to (listed_to (with_values f read) place)
    entry_anew number entries ends rest done now new chains to mid first e moved s p size few r =
        let known : e.number < length table.decls = subst (λ (z : ℕ). e.number < z) (length-map table.decls (declared_in table.specs)) e.adds.known in
        let decl : (entry_at f.entries entries).decl ≡ e.number = ap (λ (z : Entry). z.decl) e.here in
        let some : get_or numbers e.number 0 ≢ 0 = subst (λ (z : ℕ). get_or numbers z 0 ≢ 0) decl (used entries e.inside) in
        let count : entries ≡ length new.entries = sym (zip_length (IsMovedEntry numbers) now.entries new.entries moved.entries ∙ few) in
        let open_ : opened (declarations_of table) e.number entries chains ≡ opened ds (number_of e.number) (length new.entries) chains = opened_same e.number entries (length new.entries) chains known some count in
        let there : s.next.place ≡ new.place + length first = s.place ∙ size in
        record {
          items_anew = AnEntry (number_of e.number) ∷ r.items_anew;
          last = r.last;
          entries = s.entry ∷ r.entries;
          values = s.values ++ r.values;
          ends = r.ends;
          walked = (going_moved now new chains moved e.going, (s.next, s.adds, subst (λ (z : List ℕ). Walks section ds s.next z r.items_anew r.last []) open_ r.walked));
          place = r.place;
          moved = r.moved;
          entries_are = r.entries_are ∙ ap (λ (z : List Entry). z ++ r.entries) s.entered ∙ append_assoc new.entries (s.entry ∷ []) r.entries;
          values_are = r.values_are ∙ ap (λ (z : List Value). z ++ r.values) s.listed ∙ append_assoc new.values s.values r.values;
          ends_are = r.ends_are ∙ ap (λ (z : List ChainEnd). z ++ r.ends) s.ended;
          short = first_short section ds r.last.values s.entry r.entries (subst (λ (z : List Value). StandsShort section ds z s.entry) (sym r.values_are) (s.short r.values)) r.short;
          ends_short = r.ends_short;
          placed = (s.at, (length first, entry_sized table columns numbers anew f entries (sized entries e.inside).0 first new_ones (valued entries e.inside) (sized entries e.inside).1 p, subst (λ (z : ℕ). ArePlaced (EntrySize table columns numbers f (lens_anew f anew)) (suc entries) rest z (map (λ (e : Entry). e.at) r.entries) (map (λ (e : ChainEnd). e.at) r.ends) to) there r.placed));
        }

    -- the items of the rest of a walk
    pub stand_anew : (rest done : List Item) (now new : Listed) (chains : List ℕ) (entries ends to : ℕ) (bytes : List ℕ) → HasCome entries ends done now chains rest → Moved now new → PutsItems (PutsEntry table columns numbers anew f) entries rest bytes → new.place ≤ to → to ≤ length section → bytes_between section new.place to ≡ bytes → StandAnew entries rest new chains to (listed_to (with_values f read) place)
    stand_anew [] done now new chains entries ends to bytes h moved put order inside whole =
        let size : to - new.place ≡ 0 = sym (length_between section new.place to inside) ∙ ap length whole ∙ ap length put in
        let same : new.place ≡ to = omega arith in
        record {
          items_anew = [];
          last = new;
          entries = [];
          values = [];
          ends = [];
          walked = (refl, h.onward.1);
          place = same;
          moved = subst (λ (z : Listed). Moved z new) (sym h.onward.0) moved;
          entries_are = sym (append-nil new.entries);
          values_are = sym (append-nil new.values);
          ends_are = sym (append-nil new.ends);
          placed = same;
          short = λ k inside. absurd (omega arith);
          ends_short = All-nil (EndsShort section);
        }
    stand_anew (AnEntry number ∷ rest) done now new chains entries ends to bytes h moved (first, more, p, q, w) order inside whole =
        let e = entry_next number entries ends rest done now chains h in
        let same : e.later ≡ rest = cc (e.rest_is) in
        let parts : bytes_between section new.place to ≡ first ++ more = whole ∙ w in
        let c = cut section new.place to first more order inside parts in
        let before : c.mid ≤ to = c.before in
        let decl : (entry_at f.entries entries).decl ≡ e.number = ap (λ (z : Entry). z.decl) e.here in
        let some : get_or numbers e.number 0 ≢ 0 = subst (λ (z : ℕ). get_or numbers z 0 ≢ 0) decl (used entries e.inside) in
        let s = entry_stands (length chains) e.number entries now e.mid new c.mid first moved e.adds e.here e.inside some p c.after (omega arith) c.first in
        let next = subst (λ (n : ℕ). HasCome n ends (done ++ AnEntry e.number ∷ []) e.mid (opened (declarations_of table) e.number entries chains) e.later) (add-one entries) e.next in
        let come = subst (λ (z : List Item). HasCome (suc entries) ends (done ++ AnEntry e.number ∷ []) e.mid (opened (declarations_of table) e.number entries chains) z) same next in
        let up : s.next.place ≤ to = subst (λ (z : ℕ). z ≤ to) (sym s.place) c.before in
        let rest_bytes = subst (λ (z : ℕ). bytes_between section z to ≡ more) (sym s.place) c.second in
        let r = stand_anew rest (done ++ AnEntry e.number ∷ []) e.mid s.next (opened (declarations_of table) e.number entries chains) (suc entries) ends to more come s.moved q up inside rest_bytes in
        entry_anew number entries ends rest done now new chains to c.mid first e moved s p c.place h.entries_are r
    stand_anew (AnEnd ∷ rest) done now new chains entries ends to bytes h moved (more, q, w) order inside whole =
        let e = end_next entries ends rest done now chains h in
        let same : e.later ≡ rest = cc (e.rest_is) in
        let parts : bytes_between section new.place to ≡ 0 ∷ more = whole ∙ w in
        let c = cut section new.place to (0 ∷ []) more order inside parts in
        let before : c.mid ≤ to = c.before in
        let one : c.mid ≡ new.place + 1 = c.place in
        let end : ChainEnd = record { entry = e.parent; at = new.place } in
        let next : Listed = record { entries = new.entries; values = new.values; ends = new.ends ++ end ∷ []; place = c.mid } in
        let adds : AddsEnd section e.parent new next = record {
          coded = record { order = c.after; inside = omega arith; spelled = subst (λ (z : List ℕ). Uleb 0 z) (sym c.first) zero_byte };
          entered = refl;
          listed = refl;
          ended = refl;
        } in
        let onward : Moved e.mid next = record {
          entries = subst (λ (z : List Entry). AllZip (IsMovedEntry numbers) z new.entries) (sym e.adds.entered) moved.entries;
          count = moved.count ∙ sym (ap (λ (z : List Value). length (take (length z) f.values)) e.adds.listed);
          values = subst (λ (z : List Value). (k : ℕ) → k < length z → meant_in section (value_at new.values k) ≡ renewed_at anew k (meant_in f.section (value_at z k))) (sym (ap (λ (z : List Value). take (length z) f.values) e.adds.listed)) moved.values;
          ends = subst (λ (z : List ChainEnd). AllZip IsMovedEnd z (new.ends ++ end ∷ [])) (sym e.adds.ended) (zip_push IsMovedEnd now.ends new.ends (record { entry = e.parent; at = now.place }) end moved.ends refl);
        } in
        let come = subst (λ (z : List Item). HasCome entries (ends + 1) (done ++ AnEnd ∷ []) e.mid e.outer z) same e.next in
        let r = stand_anew rest (done ++ AnEnd ∷ []) e.mid next e.outer entries (ends + 1) to more come onward q c.before inside c.second in
        record {
          items_anew = AnEnd ∷ r.items_anew;
          last = r.last;
          entries = r.entries;
          values = r.values;
          ends = end ∷ r.ends;
          walked = (e.parent, e.outer, next, e.innermost, adds, r.walked);
          place = r.place;
          moved = r.moved;
          entries_are = r.entries_are;
          values_are = r.values_are;
          ends_are = one_joined new.ends end r.ends r.last.ends r.ends_are;
          short = r.short;
          ends_short = All-cons (EndsShort section) end r.ends (end_short section e.parent new.place c.mid one adds.coded) r.ends_short;
          placed = (refl, subst (λ (z : ℕ). ArePlaced (EntrySize table columns numbers f (lens_anew f anew)) entries rest z (map (λ (e : Entry). e.at) r.entries) (map (λ (e : ChainEnd). e.at) r.ends) to) one r.placed);
        }
