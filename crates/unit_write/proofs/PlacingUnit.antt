-- The items of a unit placed one after the other: what the loop keeps, and what it gives at its end.
use Rattle.std.proofs.Common.{◌≡◌, ◌≤◌, ◌<◌, ◌+◌, ◌-◌, ◌*◌, ◌^◌, ℕ, List, [], ◌∷◌, ◌++◌, length, Some, None, ◌∙◌, sym, ap, refl, subst, arith}
use Rattle.std.specs.Prelude.{slice_index}
use Rattle.std.specs.List.{All, AllZip}
use Rattle.std.proofs.lemmas.List.{length_push, length-append}
use Rattle.std.proofs.lemmas.Slice.Zip.{AllZip-long}
use Rattle.form_codec.specs.declared.value.Value.{Value}
use Rattle.abbrev_tables.specs.declared.decl.Spec.{Spec}
use Rattle.abbrev_tables.specs.Listings.{Listing}
use Rattle.entry_arena.specs.declared.entry.Entry.{Entry}
use Rattle.entry_arena.specs.Arena.{entry_at, with_values}
use Rattle.entry_arena.specs.Trees.{Listed, listed_to, nothing_from}
use Rattle.entry_arena.specs.Walks.{Item, Walks}
use Rattle.entry_arena.specs.Walks.Item.{AnEntry, AnEnd}
use Rattle.entry_arena.specs.Onward.{HasWalked, EntryIsNext, EndIsNext}
use Rattle.entry_arena.proofs.StepLaws.{code_rises, walks_rise}
use Rattle.fixed_width.specs.InitialLengths.{least_reserved}
use Rattle.entry_read.specs.Heads.{header_size}
use Rattle.entry_read.specs.Units.{HeadAndForest, entries_at, end_of, declarations_of}
use Rattle.entry_read.proofs.Declarations.{count_same}
use Rattle.unit_write.specs.declared.items.Items.{Items}
use Rattle.unit_write.specs.declared.items.Next.{Next}
use Rattle.unit_write.specs.declared.items.Next.TheVariants.{Entry as TheEntry, End as TheEnd}
use Rattle.unit_write.specs.declared.places.Places.{Places}
use Rattle.unit_write.specs.Most.{most_bytes}
use Rattle.unit_write.specs.inside.Most.{HasRoom}
use Rattle.unit_write.specs.Taken.{StandsFor, IsHeldFor}
use Rattle.unit_write.specs.Placing.{values_in, EntrySize, ArePlaced}
use Rattle.unit_write.specs.Moved.{IsWritable, IsPlacedAt}
use Rattle.unit_write.specs.inside.Readings.{IsNext, HasItem, PutsItem}
use Rattle.unit_write.specs.Lens.{AreLensFor}
use Rattle.unit_write.proofs.MostLaws.{entry_most}
use Rattle.unit_write.proofs.Placed.{placed_entry, placed_end}
use Rattle.unit_write.proofs.Standing.{whole_walk}
use Rattle.unit_write.proofs.TakenUnits.{zip_part}
use Rattle.unit_write.proofs.ValueLaws.{five_bytes}

-- what is placed of a front of the unit's walk takes at most three times its bytes, four more for each entry, and ten for each value
abbrev pub IsAtMost : HeadAndForest → ℕ → Listed → ℕ → Type 0
IsAtMost unit start now end =
    end + 3 * unit.head.at ≤ start + 3 * now.place + 4 * length now.entries + 10 * length now.values

-- a front of the unit's whole walk has its places
pub record IsPlacing (unit : HeadAndForest) (table : Listing) (columns : List Spec) (numbers lens : List ℕ) (start : ℕ) (items : Items) (places : Places) : Type 0 where
  pub values : List Value
  pub taken : AllZip (StandsFor unit.head) values unit.forest.values
  pub place : ℕ
  pub inside : place ≤ end_of unit.head
  pub done : List Item
  pub now : Listed
  pub chains : List ℕ
  pub rest : List Item
  pub walked : HasWalked unit.forest.section (declarations_of table) (entries_at unit.head) (listed_to (with_values unit.forest values) place) items.entries items.ends done now chains rest
  pub begun : places.start ≡ start
  pub most : IsAtMost unit start now places.end
  pub counted : length places.entries.items ≡ items.entries
  pub placed : ArePlaced (EntrySize table columns numbers unit.forest lens) 0 done (start + (entries_at unit.head - unit.head.at)) places.entries.items places.ends.items places.end

module _ (unit : HeadAndForest) (table : Listing) (columns : List Spec) (numbers lens : List ℕ) (start : ℕ) where
  abbrev HasCome : List Value → ℕ → ℕ → ℕ → List Item → Listed → List ℕ → List Item → Type 0
  HasCome values place entries ends done now chains rest =
      HasWalked unit.forest.section (declarations_of table) (entries_at unit.head) (listed_to (with_values unit.forest values) place) entries ends done now chains rest

  -- so what is placed ends within what the unit has at most
  pub most_of : (values : List Value) (place entries ends : ℕ) (done : List Item) (now : Listed) (chains : List ℕ) (rest : List Item) (end : ℕ) → AllZip (StandsFor unit.head) values unit.forest.values → HasCome values place entries ends done now chains rest → place ≤ end_of unit.head → IsAtMost unit start now end → end ≤ start + most_bytes unit
  most_of values place entries ends done now chains rest end taken w inside most =
      let r = walks_rise unit.forest.section (declarations_of table) now chains rest (listed_to (with_values unit.forest values) place) [] w.onward in
      let many : length unit.forest.values ≡ length values = AllZip-long (StandsFor unit.head) values unit.forest.values taken in
      let p : now.place ≤ place = r.place in
      let e : length now.entries ≤ length unit.forest.entries = r.entries in
      let v : length now.values ≤ length values = r.values in
      omega (arith, most)

  pub placing_most : (items : Items) (places : Places) → IsPlacing unit table columns numbers lens start items places → places.end ≤ start + most_bytes unit
  placing_most items places h = most_of h.values h.place items.entries items.ends h.done h.now h.chains h.rest places.end h.taken h.walked h.inside h.most

  -- the walk before its first step
  pub none_come : (held : IsHeldFor unit table) → HasCome held.values held.held.0 0 0 [] (nothing_from (entries_at unit.head)) [] (whole_walk unit table held).items
  none_come held = record { walked = (refl, refl); onward = (whole_walk unit table held).walked; entries_are = refl; ends_are = refl }

  pub none_most : (end : ℕ) → end ≡ start + header_size unit.head.kind → IsAtMost unit start (nothing_from (entries_at unit.head)) end
  none_most end end_is = omega arith

  pub placing_none : (places : Places) → IsWritable unit table columns numbers lens → places.start ≡ start → places.entries.items ≡ [] → places.ends.items ≡ [] → places.end ≡ start + header_size unit.head.kind → IsPlacing unit table columns numbers lens start (record { entries = 0; ends = 0 }) places
  placing_none places writable begun no_entries no_ends end_is =
      let Size = EntrySize table columns numbers unit.forest lens in
      let at = start + (entries_at unit.head - unit.head.at) in
      let here : at ≡ places.end = omega arith in
      record {
        values = writable.held.values;
        taken = writable.held.taken;
        place = writable.held.held.0;
        inside = writable.held.held.1.inside;
        done = [];
        now = nothing_from (entries_at unit.head);
        chains = [];
        rest = (whole_walk unit table writable.held).items;
        walked = none_come writable.held;
        begun = begun;
        most = none_most places.end end_is;
        counted = ap length no_entries;
        placed = subst (λ (z : List ℕ). ArePlaced Size 0 [] at z places.ends.items places.end) (sym no_entries) (subst (λ (z : List ℕ). ArePlaced Size 0 [] at [] z places.end) (sym no_ends) here);
      }

  abbrev EntryNext : List Value → ℕ → ℕ → ℕ → List Item → Listed → List ℕ → List Item → Type 0
  EntryNext values place entries ends done now chains rest =
      EntryIsNext unit.forest.section (declarations_of table) (entries_at unit.head) (listed_to (with_values unit.forest values) place) entries ends done now chains rest

  abbrev EndNext : List Value → ℕ → ℕ → ℕ → List Item → Listed → List ℕ → List Item → Type 0
  EndNext values place entries ends done now chains rest =
      EndIsNext unit.forest.section (declarations_of table) (entries_at unit.head) (listed_to (with_values unit.forest values) place) entries ends done now chains rest

  -- an entry and a code 0 keep to what they take at most
  pub entry_keeps : (values : List Value) (place entries ends : ℕ) (done : List Item) (now : Listed) (chains : List ℕ) (rest : List Item) (end size : ℕ) → AllZip (StandsFor unit.head) values unit.forest.values → (n : EntryNext values place entries ends done now chains rest) → IsWritable unit table columns numbers lens → AreLensFor unit.forest lens → All (λ (number : ℕ). number < 2 ^ 32) numbers → EntrySize table columns numbers unit.forest lens entries size → IsAtMost unit start now end → IsAtMost unit start n.mid (end + size)
  entry_keeps values place entries ends done now chains rest end size taken n writable few small sized most =
      let decl : ℕ = (entry_at unit.forest.entries entries).decl in
      let same : decl ≡ n.number = ap (λ (e : Entry). e.decl) n.here in
      let known : n.number < length (declarations_of table) = n.adds.known in
      let count : length (declarations_of table) ≡ length table.decls = count_same table in
      let numbered : length numbers ≡ length table.decls = writable.numbered in
      let five = five_bytes (slice_index numbers decl) (small decl 0 (omega arith)) in
      let e : Entry = entry_at unit.forest.entries entries in
      let stand = subst (λ (z : List Value). AllZip (StandsFor unit.head) z (values_in unit.forest entries)) n.values_are (zip_part (StandsFor unit.head) e.first e.count values unit.forest.values taken) in
      let bytes : size + 3 * now.place ≤ 3 * n.mid.place + 4 + 10 * length n.adds.values = entry_most unit.forest unit.head table columns numbers lens (declarations_of table) (length chains) n.number entries size now n.mid few five n.adds stand sized in
      let entered : length n.mid.entries ≡ length now.entries + 1 = ap length n.adds.entered ∙ length_push now.entries _ in
      let listed : length n.mid.values ≡ length now.values + length n.adds.values = ap length n.adds.listed ∙ length-append now.values n.adds.values in
      omega (arith, most)

  pub end_keeps : (values : List Value) (place entries ends : ℕ) (done : List Item) (now : Listed) (chains : List ℕ) (rest : List Item) (end : ℕ) → (n : EndNext values place entries ends done now chains rest) → IsAtMost unit start now end → IsAtMost unit start n.mid (end + 1)
  end_keeps values place entries ends done now chains rest end n most =
      let up : now.place < n.mid.place = code_rises unit.forest.section 0 now.place n.mid.place n.adds.coded in
      let entered : length n.mid.entries ≡ length now.entries = ap length n.adds.entered in
      let listed : length n.mid.values ≡ length now.values = ap length n.adds.listed in
      omega (arith, most)

  -- there is room for what stands next
  pub placing_room : (old new : Items) (places : Places) (next : Next) → (h : IsPlacing unit table columns numbers lens start old places) → IsNext (with_values unit.forest h.values) (declarations_of table) (entries_at unit.head) h.place h.done h.now h.chains h.rest old new (Some next) → IsWritable unit table columns numbers lens → AreLensFor unit.forest lens → All (λ (number : ℕ). number < 2 ^ 32) numbers → start + most_bytes unit < least_reserved → HasRoom (EntrySize table columns numbers unit.forest lens) next places.end
  placing_room old new places (TheEntry id) h n writable few small room =
      let Size = EntrySize table columns numbers unit.forest lens in
      let sized = writable.sized old.entries n.2.inside in
      let same : id ≡ old.entries = n.0 in
      let keeps = entry_keeps h.values h.place old.entries old.ends h.done h.now h.chains h.rest places.end sized.0 h.taken n.2 writable few small sized.1 h.most in
      let most : places.end + sized.0 ≤ start + most_bytes unit = most_of h.values h.place (old.entries + 1) old.ends _ n.2.mid _ n.2.later (places.end + sized.0) h.taken n.2.next h.inside keeps in
      (sized.0, subst (λ (i : ℕ). Size i sized.0) (sym same) sized.1, omega arith)
  placing_room old new places TheEnd h n writable few small room =
      let keeps = end_keeps h.values h.place old.entries old.ends h.done h.now h.chains h.rest places.end n.1 h.most in
      let most : places.end + 1 ≤ start + most_bytes unit = most_of h.values h.place old.entries (old.ends + 1) _ n.1.mid n.1.outer n.1.later (places.end + 1) h.taken n.1.next h.inside keeps in
      omega arith

  -- what stands next is placed behind the front
  pub placing_next : (old new : Items) (before after : Places) (next : Next) → (h : IsPlacing unit table columns numbers lens start old before) → IsNext (with_values unit.forest h.values) (declarations_of table) (entries_at unit.head) h.place h.done h.now h.chains h.rest old new (Some next) → IsWritable unit table columns numbers lens → AreLensFor unit.forest lens → All (λ (number : ℕ). number < 2 ^ 32) numbers → PutsItem (EntrySize table columns numbers unit.forest lens) next before after → after.start ≡ before.start → IsPlacing unit table columns numbers lens start new after
  placing_next old new before after (TheEntry id) h n writable few small puts begun =
      let Size = EntrySize table columns numbers unit.forest lens in
      let at = start + (entries_at unit.head - unit.head.at) in
      let number = n.2.number in
      let sized = writable.sized old.entries n.2.inside in
      let same : id ≡ old.entries = n.0 in
      let end_is : before.end + sized.0 ≡ after.end = sym (puts.2 sized.0 (subst (λ (i : ℕ). Size i sized.0) (sym same) sized.1)) in
      let numbered : old.entries ≡ 0 + length before.entries.items = let e : length before.entries.items ≡ old.entries = h.counted in omega arith in
      let placed = placed_entry Size 0 at h.done before.entries.items before.ends.items before.end number sized.0 h.placed (subst (λ (i : ℕ). Size i sized.0) numbered sized.1) in
      let moved = subst (λ (z : ℕ). ArePlaced Size 0 (h.done ++ AnEntry number ∷ []) at (before.entries.items ++ before.end ∷ []) before.ends.items z) end_is placed in
      let entered = subst (λ (z : List ℕ). ArePlaced Size 0 (h.done ++ AnEntry number ∷ []) at z before.ends.items after.end) (sym puts.0) moved in
      let ended = subst (λ (z : List ℕ). ArePlaced Size 0 (h.done ++ AnEntry number ∷ []) at after.entries.items z after.end) (sym puts.1) entered in
      subst (λ (z : Items). IsPlacing unit table columns numbers lens start z after) (sym n.1)
      (record {
        values = h.values;
        taken = h.taken;
        place = h.place;
        inside = h.inside;
        done = h.done ++ AnEntry number ∷ [];
        now = n.2.mid;
        chains = _;
        rest = n.2.later;
        walked = n.2.next;
        begun = begun ∙ h.begun;
        most = subst (λ (z : ℕ). IsAtMost unit start n.2.mid z) end_is (entry_keeps h.values h.place old.entries old.ends h.done h.now h.chains h.rest before.end sized.0 h.taken n.2 writable few small sized.1 h.most);
        counted = ap length puts.0 ∙ length_push before.entries.items before.end ∙ ap (λ (z : ℕ). z + 1) h.counted;
        placed = ended;
      })
  placing_next old new before after TheEnd h n writable few small puts begun =
      let Size = EntrySize table columns numbers unit.forest lens in
      let at = start + (entries_at unit.head - unit.head.at) in
      let placed = placed_end Size 0 at h.done before.entries.items before.ends.items before.end h.placed in
      let moved = subst (λ (z : ℕ). ArePlaced Size 0 (h.done ++ AnEnd ∷ []) at before.entries.items (before.ends.items ++ before.end ∷ []) z) (sym puts.2) placed in
      let entered = subst (λ (z : List ℕ). ArePlaced Size 0 (h.done ++ AnEnd ∷ []) at z (before.ends.items ++ before.end ∷ []) after.end) (sym puts.0) moved in
      let ended = subst (λ (z : List ℕ). ArePlaced Size 0 (h.done ++ AnEnd ∷ []) at after.entries.items z after.end) (sym puts.1) entered in
      subst (λ (z : Items). IsPlacing unit table columns numbers lens start z after) (sym n.0)
      (record {
        values = h.values;
        taken = h.taken;
        place = h.place;
        inside = h.inside;
        done = h.done ++ AnEnd ∷ [];
        now = n.1.mid;
        chains = n.1.outer;
        rest = n.1.later;
        walked = n.1.next;
        begun = begun ∙ h.begun;
        most = subst (λ (z : ℕ). IsAtMost unit start n.1.mid z) (sym puts.2) (end_keeps h.values h.place old.entries old.ends h.done h.now h.chains h.rest before.end n.1 h.most);
        counted = ap length puts.0 ∙ h.counted;
        placed = ended;
      })

  -- at the end of the walk all is placed
  pub placing_all : (old new : Items) (places : Places) → (h : IsPlacing unit table columns numbers lens start old places) → IsNext (with_values unit.forest h.values) (declarations_of table) (entries_at unit.head) h.place h.done h.now h.chains h.rest old new None → IsWritable unit table columns numbers lens → IsPlacedAt unit table columns numbers lens start places.entries.items places.ends.items places.end
  placing_all old new places h n writable =
      let walk = subst (λ (z : Listed). Walks unit.forest.section (declarations_of table) (nothing_from (entries_at unit.head)) [] h.done z h.chains) n.1.all h.walked.walked in
      let closed = subst (λ (z : List ℕ). Walks unit.forest.section (declarations_of table) (nothing_from (entries_at unit.head)) [] h.done (listed_to (with_values unit.forest h.values) h.place) z) n.1.closed walk in
      record {
        place = h.place;
        values = h.values;
        whole = record { items = h.done; walked = closed; some = (whole_walk unit table writable.held).some };
        placed = h.placed;
      }

  -- the entry that stands next is held
  pub next_held : (old new : Items) (places : Places) (next : Next) → (h : IsPlacing unit table columns numbers lens start old places) → IsNext (with_values unit.forest h.values) (declarations_of table) (entries_at unit.head) h.place h.done h.now h.chains h.rest old new (Some next) → HasItem unit.forest next
  next_held old new places (TheEntry id) h n = let same : id ≡ old.entries = n.0 in let inside = n.2.inside in omega arith
  next_held old new places TheEnd h n = tt
