-- A unit that is written anew.
use Rattle.std.proofs.Common.{◌≡◌, ◌≢◌, ◌≤◌, ◌<◌, ◌+◌, ◌-◌, ◌^◌, ℕ, List, [], ◌∷◌, ◌++◌, length, take, drop, ◌∙◌, sym, ap, refl, subst, arith}
use Rattle.std.specs.Prelude.{map, nat_eq, true}
use Rattle.std.specs.List.{All, AllZip}
use Rattle.std.proofs.lemmas.List.{append_assoc, length-append, drop_at, take_all}
use Rattle.spelled.specs.Spelled.{Appends}
use Rattle.form_codec.specs.declared.value.Value.{Value}
use Rattle.abbrev_tables.specs.declared.decl.Spec.{Spec}
use Rattle.abbrev_tables.specs.Tables.{Declared}
use Rattle.abbrev_tables.specs.Listings.{Listing}
use Rattle.entry_arena.specs.declared.entry.Entry.{Entry}
use Rattle.entry_arena.specs.declared.entry.ChainEnd.{ChainEnd}
use Rattle.entry_arena.specs.Arena.{Arena, entry_at, with_values}
use Rattle.entry_arena.specs.Trees.{listed_to, nothing_from, bytes_between}
use Rattle.entry_arena.specs.Onward.{HasWalked}
use Rattle.entry_arena.proofs.TreeLaws.{trees_are_walks}
use Rattle.entry_read.specs.declared.head.UnitHead.{UnitHead}
use Rattle.fixed_width.specs.InitialLengths.{least_reserved}
use Rattle.entry_read.specs.Heads.{IsUnitType, type_unit, header_size, unit_type}
use Rattle.entry_read.specs.Units.{HeadAndForest, entries_at, declarations_of}
use Rattle.unit_write.specs.Placing.{EntrySize, ArePlaced, IsRenumbered}
use Rattle.entry_read.specs.Short.{StandsShort, EndsShort}
use Rattle.unit_write.specs.Moved.{NewValues, IsMovedEntry, IsWritable, IsPlacedAt, IsWrittenAnew, lens_anew}
use Rattle.unit_write.specs.inside.Puts.{AreNew, PutsEntry, PutsItems, header_bytes}
use Rattle.unit_write.proofs.ValueLaws.{one_size}
use Rattle.unit_write.proofs.Placed.{one_placing}
pub use Rattle.unit_write.proofs.Placed.{placed_order}
use Rattle.unit_write.proofs.Anew.{IsMoved, nothing_moved, stand_anew}
use Rattle.unit_write.proofs.HeadLaws.{header_len, some_header, is_head}
use Rattle.unit_write.proofs.Standing.{values_counted}
use Rattle.unit_write.proofs.TakenUnits.{have_values}

bytes_behind : (section front rest : List ℕ) → section ≡ front ++ rest → bytes_between section (length front) (length section) ≡ rest
bytes_behind section front rest whole =
    let behind : drop (length front) section ≡ rest = ap (drop (length front)) whole ∙ drop_at front rest (length front) refl in
    let size : length section ≡ length front + length rest = ap length whole ∙ length-append front rest in
    ap (take (length section - length front)) behind ∙ take_all (length section - length front) rest (omega arith)

zip_some : {A B : Type 0} (R : A → B → Type 0) (xs : List A) (ys : List B) → AllZip R xs ys → xs ≢ [] → ys ≢ []
zip_some R [] ys a some = absurd (some refl)
zip_some R (x ∷ xs) [] a some = absurd a
zip_some R (x ∷ xs) (y ∷ ys) a some = λ e. absurd (cc (e))

-- where the entries of a unit are to stand
pub from_header : (at size start : ℕ) → start + (at + size - at) ≡ start + size
from_header at size start = omega arith

module _ (unit : HeadAndForest) (table : Listing) (columns : List Spec) (numbers : List ℕ) (anew : NewValues) (writable : IsWritable unit table columns numbers (lens_anew unit.forest anew)) where
  abbrev lens : List ℕ
  lens = lens_anew unit.forest anew

  abbrev kind : ℕ
  kind = unit.head.kind

  kind_is : kind ≡ unit_type unit.forest.section unit.head.at
  kind_is = ap (λ (z : UnitHead). z.kind) writable.head.fields

  of_type : IsUnitType kind
  of_type = subst IsUnitType (sym kind_is) writable.head.rules.of_type

  no_extra : nat_eq (header_size kind) 12 ≡ true → unit.head.extra ≡ 0
  no_extra e =
      let there : nat_eq (header_size (unit_type unit.forest.section unit.head.at)) 12 ≡ true = subst (λ (k : ℕ). nat_eq (header_size k) 12 ≡ true) kind_is e in
      ap (λ (z : UnitHead). z.extra) writable.head.fields ∙ (rw there refl)

  -- the new unit has room for its header
  pub room : (start end : ℕ) (entries ends : List ℕ) → IsPlacedAt unit table columns numbers lens start entries ends end → start + 12 ≤ end
  room start end entries ends p =
      let up : start + (entries_at unit.head - unit.head.at) ≤ end = placed_order (EntrySize table columns numbers unit.forest lens) 0 (start + (entries_at unit.head - unit.head.at)) p.whole.items entries ends end p.placed in
      let e : start + (entries_at unit.head - unit.head.at) ≡ start + header_size kind = from_header unit.head.at (header_size kind) start in
      let some : 12 ≤ header_size kind = some_header kind of_type in
      omega arith

  pub unit_anew : AreNew anew (length unit.forest.values) → (new_table offset end len : ℕ) (old front section : List ℕ) (entries ends : List ℕ) → (p : IsPlacedAt unit table columns numbers lens (length old) entries ends end) → end < least_reserved → new_table < 2 ^ 32 → offset < 2 ^ 32 → unit.head.extra < 2 ^ 64 → (kind ≢ type_unit → offset ≡ 0) → len ≡ end - length old - 4 → front ≡ old ++ header_bytes len kind new_table unit.head.extra offset → Appends (PutsItems (PutsEntry table columns numbers anew unit.forest) 0) p.whole.items front section → (ds : List Declared) → IsRenumbered table columns numbers ds → IsWrittenAnew unit table columns numbers ds new_table offset anew (length old) section
  unit_anew new_ones new_table offset end len old front section entries ends p usual narrow few wide no_offset len_is front_is (body, puts, whole) ds renumbered =
      let f : Arena = unit.forest in
      let held = have_values unit table writable.held in
      let start : ℕ = length old + header_size kind in
      let header : List ℕ = header_bytes len kind new_table unit.head.extra offset in
      let size : length front ≡ start = ap length front_is ∙ length-append old header ∙ ap (λ (n : ℕ). length old + n) (header_len len kind new_table unit.head.extra offset of_type) in
      let all : section ≡ old ++ (header ++ body) = whole ∙ ap (λ (z : List ℕ). z ++ body) front_is ∙ append_assoc old header body in
      let total : length section ≡ length front + length body = ap length whole ∙ length-append front body in
      let order : start ≤ length section = omega arith in
      let bytes : bytes_between section start (length section) ≡ body = ap (λ (n : ℕ). bytes_between section n (length section)) (sym size) ∙ bytes_behind section front body whole in
      let come : HasWalked f.section (declarations_of table) (entries_at unit.head) (listed_to (with_values f p.values) p.place) 0 0 [] (nothing_from (entries_at unit.head)) [] p.whole.items = record { walked = (refl, refl); onward = p.whole.walked; entries_are = refl; ends_are = refl } in
      let r = stand_anew table columns numbers anew f ds section renumbered new_ones held.inside p.values (entries_at unit.head) p.place writable.used writable.sized p.whole.items [] (nothing_from (entries_at unit.head)) (nothing_from start) [] 0 0 (length section) body come (nothing_moved numbers anew f.section section (entries_at unit.head) start) puts order (omega arith) bytes in
      let many : length p.values ≡ length f.values = values_counted unit table writable.held p.values p.place p.whole in
      let all_written : take (length p.values) f.values ≡ f.values = take_all (length p.values) f.values (omega arith) in
      let moved = subst (λ (z : List Value). IsMoved numbers anew f.section section (record { entries = f.entries; values = z; ends = f.ends; place = p.place }) r.last) all_written r.moved in
      let from : length old + (entries_at unit.head - unit.head.at) ≡ start = from_header unit.head.at (header_size kind) (length old) in
      let placed = subst (λ (z : ℕ). ArePlaced (EntrySize table columns numbers f lens) 0 p.whole.items z (map (λ (e : Entry). e.at) r.entries) (map (λ (e : ChainEnd). e.at) r.ends) (length section)) (sym from) r.placed in
      let same = one_placing one_size table columns numbers f lens 0 (length old + (entries_at unit.head - unit.head.at)) p.whole.items entries (map (λ (e : Entry). e.at) r.entries) ends (map (λ (e : ChainEnd). e.at) r.ends) end (length section) p.placed placed in
      let ended : end ≡ length section = same.2 in
      let space : length old + 12 ≤ end = room (length old) end entries ends p in
      let long : length section ≡ length old + 4 + len = omega arith in
      let below : len < least_reserved = omega arith in
      let back : length old + (length section - length old) ≡ length section = omega arith in
      record {
        head = record { at = length old; len = length section - length old; kind = kind; table = new_table; extra = unit.head.extra; type_at = offset };
        fields = record { at = refl; len = refl; kind = refl; table = refl; extra = refl; type_at = refl };
        is_head = is_head len kind new_table unit.head.extra offset old section body all of_type wide few narrow no_extra no_offset below long;
        forest = r.last;
        is_unit = record {
          tree = (trees_are_walks section ds start r.last).1 (record { items = r.items_anew; walked = r.walked; some = zip_some (IsMovedEntry numbers) f.entries r.last.entries moved.entries p.whole.some });
          inside = omega (arith, r.place, back);
          padded = λ k after before. absurd (omega (arith, r.place, back));
        };
        ends_there = r.place;
        entries = moved.entries;
        values = record { count = moved.count; each = moved.values };
        ends = moved.ends;
        short = subst (λ (z : List Entry). (id : ℕ) → id < length z → StandsShort section ds r.last.values (entry_at z id)) (sym r.entries_are) r.short;
        ends_short = subst (λ (z : List ChainEnd). All (EndsShort section) z) (sym r.ends_are) r.ends_short;
        placed = record {
          place = p.place;
          values = p.values;
          whole = p.whole;
          placed = subst (λ (z : List ChainEnd). ArePlaced (EntrySize table columns numbers f lens) 0 p.whole.items (length old + (entries_at unit.head - unit.head.at)) (map (λ (e : Entry). e.at) r.last.entries) (map (λ (e : ChainEnd). e.at) z) (length section)) (sym r.ends_are) (subst (λ (z : List Entry). ArePlaced (EntrySize table columns numbers f lens) 0 p.whole.items (length old + (entries_at unit.head - unit.head.at)) (map (λ (e : Entry). e.at) z) (map (λ (e : ChainEnd). e.at) r.ends) (length section)) (sym r.entries_are) placed);
        };
      }
