-- A walk over the expressions of the items of two location lists.
use Rattle.std.proofs.Common.{◌≡◌, ◌≤◌, ◌<◌, ◌+◌, ◌∙◌, ℕ, suc, List, [], ◌∷◌, length, get_or, Bool, true, false, true≢false, eq-eqb, nat_eq, sym, ap, subst, refl, arith, inl, inr, ◌⊎◌}
use Rattle.std.specs.Prelude.{◌↔◌, Option, Some, IsTrue}
use Rattle.std.specs.List.{All, Contains}
use Rattle.std.proofs.lemmas.Bool.{cases_eq}
use Rattle.list_model.specs.declared.entry.ListKind.TheVariants.{Locations}
use Rattle.list_model.specs.declared.entry.RawEntry.{RawEntry}
use Rattle.loc_lists.specs.Locations.{is_item, bytes_in, expressions_of}
use Rattle.list_arena.specs.Held.{HeldList}
use Rattle.value_links.specs.Reading.{Linkable, Reading, list_at, part_at}
use Rattle.value_links.specs.Sections.{debug_lists}
use Rattle.value_links.specs.Lists.{IsOwner, owner_unit}
use Rattle.value_links.specs.Whole.{IsReading}
use Rattle.value_links.specs.World.{World, lists_held, Holds}
use Rattle.same_meaning.specs.inside.Compared.{IsSomeWorld, OfBoth, held_expressions, MeanSameExpressions, IsLinkedSomehow}
use Rattle.same_meaning.specs.inside.Lists.{IsNextItem}
use Rattle.same_meaning.proofs.ValueExpressions.{held_count}
use Rattle.same_meaning.proofs.ListItems.{answers_no, answers_yes}
use Rattle.same_meaning.proofs.ListContents.{list_read, owner_same}
use Rattle.same_meaning.proofs.ListExpressions.{MeansSame, none_same, more_same, same_parts, same_count, same_as, expressions_from, expressions_skip, expressions_here, expressions_past, LiesIn, list_inside}

-- ---- one list

module _ (world : World) (some : IsSomeWorld world) (list : HeldList) (one : Contains (lists_held world Locations) list) where
  -- the unit that owns it is one that is held
  pub owner_known : (u : ℕ) → list.owner ≡ Some u → u < length world.units
  owner_known u owner =
      let (reach, is) = some in
      let read = list_read world.image world is.r is.holds Locations list one in
      let owned : IsOwner is.r.links Locations (list_at is.r.location_lists read.k).at (Some u) = subst (λ (z : Option ℕ). IsOwner is.r.links Locations (list_at is.r.location_lists read.k).at z) owner read.holds.owner in
      let known = owned.0.known in
      let count = held_count world.image world is.r is.holds in
      omega (arith, known, count)

  module _ (section : List ℕ) (section_is : section ≡ debug_lists world.image Locations) where
    module _ (r : Reading) (holds : Holds world.image world r) where
      pub section_read : section ≡ r.links.locations.section
      section_read = section_is ∙ sym (holds.sections Locations)

    -- its expressions lie in the section
    pub lie_inside : All (LiesIn (length section)) list.raw
    lie_inside =
        let (reach, is) = some in
        let read = list_read world.image world is.r is.holds Locations list one in
        let old = list_at is.r.location_lists read.k in
        let inside = list_inside is.r.links.locations.section (part_at is.r.links.locations old.part) old.at old.raws ((is.read.lists Locations).each read.k read.inside).read in
        subst (λ (z : List RawEntry). All (LiesIn (length section)) z) (sym read.holds.raws)
        (subst (λ (z : List ℕ). All (LiesIn (length z)) old.raws) (sym (section_read is.r is.holds)) inside)

    -- and name what they may
    module _ (r : Reading) (reading : IsReading world.image r) (holds : Holds world.image world r) where
      pub are_linked : All (IsLinkedSomehow r.links (owner_unit r.links list.owner)) (expressions_of section list.raw)
      are_linked =
          let read = list_read world.image world r holds Locations list one in
          let old = list_at r.location_lists read.k in
          let own = (reading.lists Locations).expressions read.k read.inside in
          let owner : own.owner ≡ list.owner = owner_same r.links Locations old.at own.owner list.owner own.owned read.holds.owner in
          let there : expressions_of r.links.locations.section old.raws ≡ expressions_of section list.raw =
          ap (expressions_of r.links.locations.section) (sym read.holds.raws) ∙ ap (λ (z : List ℕ). expressions_of z list.raw) (sym (section_read r holds)) in
          subst (λ (z : List (List ℕ)). All (IsLinkedSomehow r.links (owner_unit r.links list.owner)) z) there
          (subst (λ (z : Option ℕ). All (IsLinkedSomehow r.links (owner_unit r.links z)) (expressions_of r.links.locations.section old.raws)) owner own.linked)

-- ---- two lists

-- the expressions of the items from two entries on
abbrev pub SameFrom : Linkable → Option ℕ → List ℕ → List RawEntry → ℕ → Linkable → Option ℕ → List ℕ → List RawEntry → ℕ → Type 0
SameFrom r u first olds i s v second news j = MeanSameExpressions r (owner_unit r u) (expressions_from first olds i) s (owner_unit s v) (expressions_from second news j)

-- All expressions mean the same exactly where those from two entries on do, each of which is an item, or the end of its list.
pub record AreAtItems (a b : World) (u : Option ℕ) (first : List ℕ) (olds : List RawEntry) (i : ℕ) (v : Option ℕ) (second : List ℕ) (news : List RawEntry) (j : ℕ) : Type 0 where
  pub i_inside : i ≤ length olds
  pub j_inside : j ≤ length news
  pub i_item : (d : RawEntry) → i < length olds → is_item (get_or olds i d) ≡ true
  pub j_item : (d : RawEntry) → j < length news → is_item (get_or news j d) ≡ true
  pub rest : OfBoth a b (λ r s. SameFrom r.links u first olds 0 s.links v second news 0 ↔ SameFrom r.links u first olds i s.links v second news j)

-- the walk begins at the first items
pub at_first : (a b : World) (u : Option ℕ) (first : List ℕ) (olds : List RawEntry) (i : ℕ) (v : Option ℕ) (second : List ℕ) (news : List RawEntry) (j : ℕ) → IsNextItem olds 0 i → IsNextItem news 0 j → AreAtItems a b u first olds i v second news j
at_first a b u first olds i v second news j here there = record {
  i_inside = here.inside;
  j_inside = there.inside;
  i_item = here.item;
  j_item = there.item;
  rest = λ r s _ _ _ _.
      let one : expressions_from first olds 0 ≡ expressions_from first olds i = expressions_skip first olds 0 i here.skipped in
      let two : expressions_from second news 0 ≡ expressions_from second news j = expressions_skip second news 0 j there.skipped in
      same_as r.links (owner_unit r.links u) s.links (owner_unit s.links v) (expressions_from first olds 0) (expressions_from first olds i) (expressions_from second news 0) (expressions_from second news j) one two;
}

module _ (a b : World) (u : Option ℕ) (first : List ℕ) (olds : List RawEntry) (i : ℕ) (v : Option ℕ) (second : List ℕ) (news : List RawEntry) (j : ℕ) (walk : AreAtItems a b u first olds i v second news j) where
  abbrev AllSame : Reading → Reading → Type 0
  AllSame r s = SameFrom r.links u first olds 0 s.links v second news 0

  module _ (d e : RawEntry) (i_in : i < length olds) (j_in : j < length news) where
    abbrev old_bytes : List ℕ
    old_bytes = bytes_in first (get_or olds i d).expr

    abbrev new_bytes : List ℕ
    new_bytes = bytes_in second (get_or news j e).expr

    abbrev HereSame : Reading → Reading → Type 0
    HereSame r s = MeansSame r.links (owner_unit r.links u) s.links (owner_unit s.links v) old_bytes new_bytes

    old_is : expressions_from first olds i ≡ old_bytes ∷ expressions_from first olds (i + 1)
    old_is = expressions_here first olds i d i_in (walk.i_item d i_in)

    new_is : expressions_from second news j ≡ new_bytes ∷ expressions_from second news (j + 1)
    new_is = expressions_here second news j e j_in (walk.j_item e j_in)

    -- the expressions from here on mean the same exactly where these two do, and those behind them
    here_parts : (r s : Reading) → SameFrom r.links u first olds i s.links v second news j ↔ (HereSame r s × SameFrom r.links u first olds (i + 1) s.links v second news (j + 1))
    here_parts r s =
        let p : ℕ = owner_unit r.links u in
        let q : ℕ = owner_unit s.links v in
        let whole = same_as r.links p s.links q (expressions_from first olds i) (old_bytes ∷ expressions_from first olds (i + 1)) (expressions_from second news j) (new_bytes ∷ expressions_from second news (j + 1)) old_is new_is in (
          λ all. same_parts r.links p s.links q old_bytes new_bytes (expressions_from first olds (i + 1)) (expressions_from second news (j + 1)) (whole.0 all),
          λ both. whole.1 (more_same r.links p s.links q old_bytes new_bytes (expressions_from first olds (i + 1)) (expressions_from second news (j + 1)) both.0 both.1),
        )

    -- where they don't, all don't
    pub walk_differs : (same : Bool) → same ≡ false → OfBoth a b (λ r s. IsTrue same ↔ HereSame r s) → OfBoth a b (λ r s. IsTrue false ↔ AllSame r s)
    walk_differs same is test = λ r s read holds again held. answers_no (λ all.
        let here = ((here_parts r s).0 ((walk.rest r s read holds again held).0 all)).0 in
        let passes : same ≡ true = (test r s read holds again held).1 here in
        cc)

    -- and where they do, the walk goes on behind them
    pub walk_more : (n m : ℕ) → IsNextItem olds (i + 1) n → IsNextItem news (j + 1) m → (same : Bool) → same ≡ true → OfBoth a b (λ r s. IsTrue same ↔ HereSame r s) → AreAtItems a b u first olds n v second news m
    walk_more n m here there same is test = record {
      i_inside = here.inside;
      j_inside = there.inside;
      i_item = here.item;
      j_item = there.item;
      rest = λ r s read holds again held.
          let one : expressions_from first olds (i + 1) ≡ expressions_from first olds n = expressions_skip first olds (i + 1) n here.skipped in
          let two : expressions_from second news (j + 1) ≡ expressions_from second news m = expressions_skip second news (j + 1) m there.skipped in
          let behind = same_as r.links (owner_unit r.links u) s.links (owner_unit s.links v) (expressions_from first olds (i + 1)) (expressions_from first olds n) (expressions_from second news (j + 1)) (expressions_from second news m) one two in
          let both : HereSame r s = (test r s read holds again held).0 is in
          let whole = walk.rest r s read holds again held in
          (λ all. behind.0 ((here_parts r s).0 (whole.0 all)).1, λ rest. whole.1 ((here_parts r s).1 (both, behind.1 rest)));
    }

  -- at the end of both, all mean the same
  pub walk_ends : length olds ≤ i → length news ≤ j → OfBoth a b AllSame
  walk_ends i_past j_past = λ r s read holds again held.
      let p : ℕ = owner_unit r.links u in
      let q : ℕ = owner_unit s.links v in
      let none = same_as r.links p s.links q (expressions_from first olds i) [] (expressions_from second news j) [] (expressions_past first olds i i_past) (expressions_past second news j j_past) in
      (walk.rest r s read holds again held).1 (none.1 (none_same r.links p s.links q))

  -- and at the end of one alone, they don't
  pub walk_short : (d : RawEntry) → length olds ≤ i → j < length news → OfBoth a b (λ r s. AllSame r s → ⊥)
  walk_short d past more = λ r s read holds again held all.
      let none : length (expressions_from first olds i) ≡ 0 = ap (λ (z : List (List ℕ)). length z) (expressions_past first olds i past) in
      let next : length (expressions_from second news j) ≡ suc (length (expressions_from second news (j + 1))) = ap (λ (z : List (List ℕ)). length z) (expressions_here second news j d more (walk.j_item d more)) in
      let count = same_count r.links (owner_unit r.links u) s.links (owner_unit s.links v) (expressions_from first olds i) (expressions_from second news j) ((walk.rest r s read holds again held).0 all) in
      omega (arith, none, next, count)

  pub walk_long : (d : RawEntry) → i < length olds → length news ≤ j → OfBoth a b (λ r s. AllSame r s → ⊥)
  walk_long d more past = λ r s read holds again held all.
      let none : length (expressions_from second news j) ≡ 0 = ap (λ (z : List (List ℕ)). length z) (expressions_past second news j past) in
      let next : length (expressions_from first olds i) ≡ suc (length (expressions_from first olds (i + 1))) = ap (λ (z : List (List ℕ)). length z) (expressions_here first olds i d more (walk.i_item d more)) in
      let count = same_count r.links (owner_unit r.links u) s.links (owner_unit s.links v) (expressions_from first olds i) (expressions_from second news j) ((walk.rest r s read holds again held).0 all) in
      omega (arith, none, next, count)

  -- so what is left of both tells
  pub walk_told : (result : Bool) → (length olds ≤ i) ⊎ (length news ≤ j) → (result ≡ true → (length olds ≤ i) × (length news ≤ j)) → (result ≡ false → (i < length olds) ⊎ (j < length news)) → (d : RawEntry) → OfBoth a b (λ r s. IsTrue result ↔ AllSame r s)
  walk_told true over all some d = λ r s read holds again held. answers_yes (walk_ends (all refl).0 (all refl).1 r s read holds again held)
  walk_told false over all some d = λ r s read holds again held. answers_no (shown over (some refl) r s read holds again held)
    where
      shown : (length olds ≤ i) ⊎ (length news ≤ j) → (i < length olds) ⊎ (j < length news) → OfBoth a b (λ r s. AllSame r s → ⊥)
      shown (inl past) (inl more) = absurd (omega (arith, past, more))
      shown (inl past) (inr more) = walk_short d past more
      shown (inr past) (inl more) = walk_long d more past
      shown (inr past) (inr more) = absurd (omega (arith, past, more))

-- a number that isn't the last one is below it
pub not_past : (same : Bool) (i n : ℕ) → same ≡ nat_eq i n → same ≡ false → i ≤ n → i < n
not_past same i n is fails most = elim (cases_eq i n) [
  | inl end ↦ absurd (true≢false (sym (eq-eqb i n end) ∙ sym is ∙ fails))
  | inr other ↦ omega (arith, other, most)
]

-- ---- by what is read

module _ (a b : World) (old new : HeldList) (first second : List ℕ) (first_is : first ≡ debug_lists a.image Locations) (second_is : second ≡ debug_lists b.image Locations) where
  -- a test of two expressions, by their owners and bytes
  pub test_bytes : (p q : Option ℕ) → p ≡ old.owner → q ≡ new.owner → (x y left right : List ℕ) → x ≡ left → y ≡ right → (same : Bool) → OfBoth a b (λ r s. IsTrue same ↔ MeansSame r.links (owner_unit r.links p) s.links (owner_unit s.links q) x y) → OfBoth a b (λ r s. IsTrue same ↔ MeansSame r.links (owner_unit r.links old.owner) s.links (owner_unit s.links new.owner) left right)
  test_bytes p q owner other x y left right one two same test =
      let owned = subst (λ (z : Option ℕ). OfBoth a b (λ r s. IsTrue same ↔ MeansSame r.links (owner_unit r.links z) s.links (owner_unit s.links new.owner) x y)) owner
      (subst (λ (z : Option ℕ). OfBoth a b (λ r s. IsTrue same ↔ MeansSame r.links (owner_unit r.links p) s.links (owner_unit s.links z) x y)) other test) in
      subst (λ (z : List ℕ). OfBoth a b (λ r s. IsTrue same ↔ MeansSame r.links (owner_unit r.links old.owner) s.links (owner_unit s.links new.owner) z right)) one
      (subst (λ (z : List ℕ). OfBoth a b (λ r s. IsTrue same ↔ MeansSame r.links (owner_unit r.links old.owner) s.links (owner_unit s.links new.owner) x z)) two owned)

  -- and of all
  pub test_read : (same : Bool) → OfBoth a b (λ r s. IsTrue same ↔ SameFrom r.links old.owner first old.raw 0 s.links new.owner second new.raw 0) → OfBoth a b (λ r s. IsTrue same ↔ MeanSameExpressions r.links (owner_unit r.links old.owner) (held_expressions r.links.locations.section old) s.links (owner_unit s.links new.owner) (held_expressions s.links.locations.section new))
  test_read same test = λ r s read holds again held.
      let both = test r s read holds again held in
      let one : expressions_from first old.raw 0 ≡ held_expressions r.links.locations.section old = ap (λ (z : List ℕ). expressions_of z old.raw) (first_is ∙ sym (holds.sections Locations)) in
      let two : expressions_from second new.raw 0 ≡ held_expressions s.links.locations.section new = ap (λ (z : List ℕ). expressions_of z new.raw) (second_is ∙ sym (held.sections Locations)) in
      let there = same_as r.links (owner_unit r.links old.owner) s.links (owner_unit s.links new.owner) (expressions_from first old.raw 0) (held_expressions r.links.locations.section old) (expressions_from second new.raw 0) (held_expressions s.links.locations.section new) one two in
      (λ passes. there.0 (both.0 passes), λ all. both.1 (there.1 all))
