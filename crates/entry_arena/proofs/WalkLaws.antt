-- The bytes of a unit are walked in one way.
use Rattle.std.proofs.Common.{◌≡◌, ◌≢◌, ◌<◌, ◌-◌, ◌⊎◌, ℕ, suc, List, [], ◌∷◌, ◌++◌, length, get_or, ◌∙◌, sym, ap, refl, subst, arith, inl, inr}
use Rattle.std.specs.Prelude.{zero, false}
use Rattle.std.proofs.lemmas.List.{append-nil, length-map, get_or-map}
use Rattle.spelled.specs.Spelled.{Joined}
use Rattle.leb_codec.specs.Leb.{Uleb}
use Rattle.leb_codec.proofs.Fronts.{unique_u}
use Rattle.form_codec.specs.declared.value.Value.{Value}
use Rattle.abbrev_tables.specs.Tables.{Declared, SpellsDeclared, codes_of, SpellsTable}
use Rattle.entry_arena.specs.declared.entry.Entry.{Entry}
use Rattle.entry_arena.specs.declared.entry.ChainEnd.{ChainEnd}
use Rattle.entry_arena.specs.Trees.{declared_at, Listed, nothing_from, SpellsBetween, ValuesBetween, AddsEntry, AddsEnd, IsForest}
use Rattle.entry_arena.specs.Walks.{Item, opened, Walks, IsWhole}
use Rattle.entry_arena.specs.Walks.Item.{AnEntry, AnEnd}
use Rattle.entry_arena.specs.ForestLaws.{HaveCodes, WalksOn}
use Rattle.entry_arena.proofs.Between.{spells_once, values_once}
use Rattle.entry_arena.proofs.TreeLaws.{walk_of, cons_filled}

first_same : (x y : ℕ) (xs ys : List ℕ) → (x ∷ xs) ≡ (y ∷ ys) → x ≡ y
first_same x y xs ys e = cc

later_same : (x y : ℕ) (xs ys : List ℕ) → (x ∷ xs) ≡ (y ∷ ys) → xs ≡ ys
later_same x y xs ys e = cc

-- no declaration of a table has the code 0
coded_in : (ds : List Declared) (bytes : List ℕ) → Joined SpellsDeclared ds bytes → (number : ℕ) → number < length ds → (declared_at ds number).code ≢ 0
coded_in [] bytes j number inside = absurd (omega arith)
coded_in (d ∷ ds) bytes (first, rest, here, j, e) zero inside = here.coded
coded_in (d ∷ ds) bytes (first, rest, here, j, e) (suc number) inside = coded_in ds rest j number (omega arith)

pub table_codes : (ds : List Declared) (bytes : List ℕ) → SpellsTable ds bytes → HaveCodes ds
table_codes ds bytes table = record { distinct = table.distinct; some = coded_in ds (table.spelled).0 (table.spelled).2 }

code_at : (ds : List Declared) (number : ℕ) → number < length ds → get_or (codes_of ds) number 0 ≡ (declared_at ds number).code
code_at ds number inside = get_or-map (λ d. d.code) ds number (record { code = 0; tag = 0; children = false; columns = [] }) 0 inside

-- a code names one declaration
pub same_number : (ds : List Declared) (m n : ℕ) → HaveCodes ds → m < length ds → n < length ds → (declared_at ds m).code ≡ (declared_at ds n).code → m ≡ n
same_number ds m n codes p q same =
    let size : length (codes_of ds) ≡ length ds = length-map ds (λ d. d.code) in
    codes.distinct m n (omega arith) (omega arith) (code_at ds m p ∙ same ∙ sym (code_at ds n q))

-- lists with the same parts
abbrev listed_of : List Entry → List Value → List ChainEnd → ℕ → Listed
listed_of entries values ends place = record { entries = entries; values = values; ends = ends; place = place }

listed_same : (a b : Listed) → a.entries ≡ b.entries → a.values ≡ b.values → a.ends ≡ b.ends → a.place ≡ b.place → a ≡ b
listed_same a b p q r s =
    ap (λ (z : List Entry). listed_of z a.values a.ends a.place) p ∙ ap (λ (z : List Value). listed_of b.entries z a.ends a.place) q ∙ ap (λ (z : List ChainEnd). listed_of b.entries b.values z a.place) r ∙ ap (λ (z : ℕ). listed_of b.entries b.values b.ends z) s

abbrev entry_of : ℕ → ℕ → ℕ → ℕ → ℕ → ℕ → Entry
entry_of at end depth number first count = record { at = at; len = end - at; depth = depth; decl = number; first = first; count = count }

abbrev end_of : ℕ → ℕ → ChainEnd
end_of parent at = record { entry = parent; at = at }

module _ (section : List ℕ) (ds : List Declared) where
  -- entries of one declaration
  entry_same : (depth number : ℕ) (old a b : Listed) → AddsEntry section ds depth number old a → AddsEntry section ds depth number old b → a ≡ b
  entry_same depth number old a b p q =
      let code : ℕ = (declared_at ds number).code in
      let coded = spells_once Uleb unique_u section code code old.place p.values_at q.values_at p.coded q.coded in
      let valued = values_once section ((declared_at ds number).columns) p.values q.values q.values_at a.place b.place (subst (λ (z : ℕ). ValuesBetween section ((declared_at ds number).columns) p.values z a.place) coded.0 p.valued) q.valued in
      let entered : a.entries ≡ b.entries = p.entered ∙ ap (λ (z : ℕ). old.entries ++ entry_of old.place z depth number (length old.values) (length p.values) ∷ []) valued.0 ∙ ap (λ (z : List Value). old.entries ++ entry_of old.place b.place depth number (length old.values) (length z) ∷ []) valued.1 ∙ sym q.entered in
      listed_same a b entered (p.listed ∙ ap (λ (z : List Value). old.values ++ z) valued.1 ∙ sym q.listed) (p.ended ∙ sym q.ended) valued.0

  -- there is one entry at a place
  pub entry_once : (depth m n : ℕ) (old a b : Listed) → HaveCodes ds → AddsEntry section ds depth m old a → AddsEntry section ds depth n old b → (m ≡ n) × (a ≡ b)
  entry_once depth m n old a b codes p q =
      let coded = spells_once Uleb unique_u section ((declared_at ds m).code) ((declared_at ds n).code) old.place p.values_at q.values_at p.coded q.coded in
      let same : m ≡ n = same_number ds m n codes p.known q.known coded.1 in
      (same, entry_same depth n old a b (subst (λ (z : ℕ). AddsEntry section ds depth z old a) same p) q)

  -- there is one end at a place
  pub end_once : (id : ℕ) (old a b : Listed) → AddsEnd section id old a → AddsEnd section id old b → a ≡ b
  end_once id old a b p q =
      let coded = spells_once Uleb unique_u section 0 0 old.place a.place b.place p.coded q.coded in
      listed_same a b (p.entered ∙ sym q.entered) (p.listed ∙ sym q.listed) (p.ended ∙ sym q.ended) coded.0

  -- no entry begins with a code 0
  pub entry_not_zero : (depth number at : ℕ) (old new : Listed) → HaveCodes ds → AddsEntry section ds depth number old new → SpellsBetween (Uleb 0) section old.place at → ⊥
  entry_not_zero depth number at old new codes p zero_there =
      codes.some number p.known (spells_once Uleb unique_u section ((declared_at ds number).code) 0 old.place p.values_at at p.coded zero_there).1

  abbrev Agree : List Item → Listed → List ℕ → List Item → Listed → List ℕ → Type 0
  Agree is a p js b q = WalksOn section ds is a p js b q ⊎ WalksOn section ds js b q is a p

  on_from_start : (old a : Listed) (chains p : List ℕ) (js : List Item) (b : Listed) (q : List ℕ) → a ≡ old → p ≡ chains → Walks section ds old chains js b q → WalksOn section ds [] a p js b q
  on_from_start old a chains p js b q same kept walk = record {
    more = js;
    items_are = refl;
    walked = subst (λ (z : Listed). Walks section ds z p js b q) (sym same) (subst (λ (z : List ℕ). Walks section ds old z js b q) (sym kept) walk);
  }

  on_behind : (item : Item) (is js : List Item) (a b : Listed) (p q : List ℕ) → WalksOn section ds is a p js b q → WalksOn section ds (item ∷ is) a p (item ∷ js) b q
  on_behind item is js a b p q on = record { more = on.more; items_are = ap (λ z. item ∷ z) on.items_are; walked = on.walked }

  both_behind : (item other : Item) (is js : List Item) (a b : Listed) (p q : List ℕ) → item ≡ other → Agree is a p js b q → Agree (item ∷ is) a p (other ∷ js) b q
  both_behind item other is js a b p q same (inl on) = inl (subst (λ (z : Item). WalksOn section ds (item ∷ is) a p (z ∷ js) b q) same (on_behind item is js a b p q on))
  both_behind item other is js a b p q same (inr on) = inr (subst (λ (z : Item). WalksOn section ds (z ∷ js) b q (item ∷ is) a p) same (on_behind item js is b a q p on))

  -- walks from the same start agree as far as both go
  pub walks_agree : (old : Listed) (chains : List ℕ) (is js : List Item) (a b : Listed) (p q : List ℕ) → HaveCodes ds → Walks section ds old chains is a p → Walks section ds old chains js b q → Agree is a p js b q
  walks_agree old chains [] js a b p q codes (same, kept) walk = inl (on_from_start old a chains p js b q same kept walk)
  walks_agree old chains (AnEntry m ∷ is) [] a b p q codes walk (same, kept) = inr (on_from_start old b chains q (AnEntry m ∷ is) a p same kept walk)
  walks_agree old chains (AnEnd ∷ is) [] a b p q codes walk (same, kept) = inr (on_from_start old b chains q (AnEnd ∷ is) a p same kept walk)
  walks_agree old chains (AnEntry m ∷ is) (AnEntry n ∷ js) a b p q codes (going, (mid, adds, walk)) (going2, (mid2, adds2, walk2)) =
      let one = entry_once (length chains) m n old mid mid2 codes adds adds2 in
      let id : ℕ = length old.entries in
      let there : Walks section ds mid2 (opened ds n id chains) is a p = subst (λ (z : Listed). Walks section ds z (opened ds n id chains) is a p) one.1 (subst (λ (z : ℕ). Walks section ds mid (opened ds z id chains) is a p) one.0 walk) in
      both_behind (AnEntry m) (AnEntry n) is js a b p q (ap (λ z. AnEntry z) one.0) (walks_agree mid2 (opened ds n id chains) is js a b p q codes there walk2)
  walks_agree old chains (AnEntry m ∷ is) (AnEnd ∷ js) a b p q codes (going, (mid, adds, walk)) (id, outer, mid2, e, end, walk2) =
      absurd (entry_not_zero (length chains) m mid2.place old mid codes adds end.coded)
  walks_agree old chains (AnEnd ∷ is) (AnEntry n ∷ js) a b p q codes (id, outer, mid, e, end, walk) (going, (mid2, adds, walk2)) =
      absurd (entry_not_zero (length chains) n mid.place old mid2 codes adds end.coded)
  walks_agree old chains (AnEnd ∷ is) (AnEnd ∷ js) a b p q codes (id, outer, mid, e, end, walk) (id2, outer2, mid2, e2, end2, walk2) =
      let ids : id ≡ id2 = first_same id id2 outer outer2 (sym e ∙ e2) in
      let outers : outer ≡ outer2 = later_same id id2 outer outer2 (sym e ∙ e2) in
      let mids : mid ≡ mid2 = end_once id2 old mid mid2 (subst (λ (z : ℕ). AddsEnd section z old mid) ids end) end2 in
      let there : Walks section ds mid2 outer2 is a p = subst (λ (z : Listed). Walks section ds z outer2 is a p) mids (subst (λ (z : List ℕ). Walks section ds mid z is a p) outers walk) in
      both_behind AnEnd AnEnd is js a b p q refl (walks_agree mid2 outer2 is js a b p q codes there walk2)

  -- behind a whole walk there is nothing
  pub nothing_more : (forest now : Listed) (more : List Item) (left : List ℕ) → forest.entries ≢ [] → Walks section ds forest [] more now left → (more ≡ []) × (now ≡ forest) × (left ≡ [])
  nothing_more forest now [] left some (same, kept) = (refl, same, kept)
  nothing_more forest now (AnEntry n ∷ more) left some (inl none, walk) = absurd (some none)
  nothing_more forest now (AnEntry n ∷ more) left some (inr still, walk) = absurd (still refl)
  nothing_more forest now (AnEnd ∷ more) left some (id, outer, mid, e, adds, walk) = absurd (cons_filled id outer (sym e))

  longest_of : (start : ℕ) (items all : List Item) (forest now : Listed) (chains : List ℕ) → forest.entries ≢ [] → Agree items now chains all forest [] → WalksOn section ds items now chains all forest []
  longest_of start items all forest now chains some (inl on) = on
  longest_of start items all forest now chains some (inr on) =
      let none = nothing_more forest now on.more chains some on.walked in
      let same : items ≡ all = on.items_are ∙ ap (λ z. all ++ z) none.0 ∙ append-nil all in
      record { more = []; items_are = sym same ∙ sym (append-nil items); walked = (sym none.1, sym none.2) }

  -- each walk from the start of a whole walk is a front of it
  pub whole_longest : (start : ℕ) (items : List Item) (forest now : Listed) (chains : List ℕ) → HaveCodes ds → (whole : IsWhole section ds start forest) → Walks section ds (nothing_from start) [] items now chains → WalksOn section ds items now chains whole.items forest []
  whole_longest start items forest now chains codes whole walk =
      longest_of start items whole.items forest now chains whole.some (walks_agree (nothing_from start) [] items whole.items now forest chains [] codes walk whole.walked)

  pub whole_once : (start : ℕ) (a b : Listed) → HaveCodes ds → (p : IsWhole section ds start a) → (q : IsWhole section ds start b) → (p.items ≡ q.items) × (a ≡ b)
  whole_once start a b codes p q =
      let on = whole_longest start p.items b a [] codes q p.walked in
      let none = nothing_more a b on.more [] p.some on.walked in
      (sym (on.items_are ∙ ap (λ z. p.items ++ z) none.0 ∙ append-nil p.items), sym none.1)

  pub forest_once : (start : ℕ) (a b : Listed) → HaveCodes ds → IsForest section ds start a → IsForest section ds start b → a ≡ b
  forest_once start a b codes p q = (whole_once start a b codes (walk_of section ds start a p) (walk_of section ds start b q)).1
