-- Each chain that is opened ends once.
use Rattle.std.proofs.Common.{◌≡◌, ◌≤◌, ◌<◌, ◌+◌, ◌-◌, ◌⊎◌, ℕ, zero, suc, List, [], ◌∷◌, ◌++◌, length, get_or, eqb, ◌∙◌, sym, ap, refl, subst, arith, inl, inr}
use Rattle.std.specs.Prelude.{Bool, true, false, if◌then◌else◌, map}
use Rattle.std.proofs.lemmas.Bool.{cases_lt}
use Rattle.std.proofs.lemmas.Bool.Decides.{eqb_tells}
use Rattle.std.proofs.lemmas.List.{length-map, get_or-map, map-append}
use Rattle.abbrev_tables.specs.Tables.{Declared}
use Rattle.entry_arena.specs.declared.entry.Entry.{Entry}
use Rattle.entry_arena.specs.declared.entry.ChainEnd.{ChainEnd}
use Rattle.entry_arena.specs.Arena.{entry_at, chain_end_at}
use Rattle.entry_arena.specs.Trees.{declared_at, Listed, nothing_from, AddsEntry, AddsEnd}
use Rattle.entry_arena.specs.Walks.{Item, opened, Walks, IsWhole}
use Rattle.entry_arena.specs.Walks.Item.{AnEntry, AnEnd}
use Rattle.entry_arena.specs.Runs.{chains_of}
use Rattle.entry_arena.specs.Ends.{HasChildren, HasOneEndEach}

-- 1 where two numbers are the same
one_if : ℕ → ℕ → ℕ
one_if x id = if eqb x id then 1 else 0

one_same : (x id : ℕ) → x ≡ id → one_if x id ≡ 1
unfolding one_if
one_same x id same = elim (eqb_tells x id) [ inl t ↦ ap (λ (b : Bool). if b then 1 else 0) t.0 | inr f ↦ absurd (f.1 same) ]

one_other : (x id : ℕ) → (x ≡ id → ⊥) → one_if x id ≡ 0
unfolding one_if
one_other x id other = elim (eqb_tells x id) [ inl t ↦ absurd (other t.1) | inr f ↦ ap (λ (b : Bool). if b then 1 else 0) f.0 ]

one_small : (x id : ℕ) → ((x ≡ id) × (one_if x id ≡ 1)) ⊎ ((x ≡ id → ⊥) × (one_if x id ≡ 0))
one_small x id = elim (eqb_tells x id) [ inl t ↦ inl (t.1, one_same x id t.1) | inr f ↦ inr (f.1, one_other x id f.1) ]

-- how many times a number is in a list
times : ℕ → List ℕ → ℕ
times id [] = 0
times id (x ∷ xs) = one_if x id + times id xs

times_append : (id : ℕ) (xs : List ℕ) (x : ℕ) → times id (xs ++ x ∷ []) ≡ times id xs + one_if x id
unfolding times
times_append id [] x = omega arith
times_append id (y ∷ xs) x =
    let rest : times id (xs ++ x ∷ []) ≡ times id xs + one_if x id = times_append id xs x in
    omega arith

times_found : (id : ℕ) (xs : List ℕ) → 0 < times id xs → (i : ℕ) × (i < length xs) × (get_or xs i 0 ≡ id)
unfolding times
times_found id [] some = absurd (omega arith)
times_found id (x ∷ xs) some = elim (one_small x id) [
  | inl same ↦ (0, omega arith, same.0)
  | inr other ↦
      let none : one_if x id ≡ 0 = other.1 in
      let r = times_found id xs (omega arith) in
      let inside : r.0 < length xs = r.1 in
      (suc r.0, omega arith, r.2)
]

times_some : (id : ℕ) (xs : List ℕ) (i : ℕ) → i < length xs → get_or xs i 0 ≡ id → 0 < times id xs
unfolding times
times_some id [] i inside same = absurd (omega arith)
times_some id (x ∷ xs) zero inside same =
    let one : one_if x id ≡ 1 = one_same x id same in
    omega arith
times_some id (x ∷ xs) (suc i) inside same =
    let some : 0 < times id xs = times_some id xs i (omega arith) same in
    omega arith

times_once : (id : ℕ) (xs : List ℕ) (i j : ℕ) → times id xs ≤ 1 → i < length xs → j < length xs → get_or xs i 0 ≡ id → get_or xs j 0 ≡ id → i ≡ j
unfolding times
times_once id [] i j few p q here there = absurd (omega arith)
times_once id (x ∷ xs) zero zero few p q here there = refl
times_once id (x ∷ xs) zero (suc j) few p q here there =
    let one : one_if x id ≡ 1 = one_same x id here in
    let some : 0 < times id xs = times_some id xs j (omega arith) there in
    absurd (omega arith)
times_once id (x ∷ xs) (suc i) zero few p q here there =
    let one : one_if x id ≡ 1 = one_same x id there in
    let some : 0 < times id xs = times_some id xs i (omega arith) here in
    absurd (omega arith)
times_once id (x ∷ xs) (suc i) (suc j) few p q here there =
    ap suc (times_once id xs i j (omega arith) (omega arith) (omega arith) here there)

owners : List ChainEnd → List ℕ
owners ends = map (λ (e : ChainEnd). e.entry) ends

owners_append : (ends : List ChainEnd) (e : ChainEnd) → owners (ends ++ e ∷ []) ≡ owners ends ++ e.entry ∷ []
unfolding owners
owners_append ends e = map-append (λ (x : ChainEnd). x.entry) ends (e ∷ [])

module _ (ds : List Declared) where
  -- how many chains the entry with a number opens, where the first of the entries has the number `base`
  opens : ℕ → List Entry → ℕ → ℕ
  opens base [] id = 0
  opens base (e ∷ es) id = (if eqb base id then chains_of ds e.decl else 0) + opens (suc base) es id

  opens_append : (base : ℕ) (es : List Entry) (e : Entry) (id n : ℕ) → n ≡ base + length es → opens base (es ++ e ∷ []) id ≡ opens base es id + (if eqb n id then chains_of ds e.decl else 0)
  unfolding opens
  opens_append base [] e id n same =
      let here : n ≡ base = omega arith in
      let moved : (if eqb base id then chains_of ds e.decl else 0) ≡ (if eqb n id then chains_of ds e.decl else 0) = ap (λ (z : ℕ). if eqb z id then chains_of ds e.decl else 0) (sym here) in
      omega (arith, moved)
  opens_append base (f ∷ es) e id n same =
      let rest : opens (suc base) (es ++ e ∷ []) id ≡ opens (suc base) es id + (if eqb n id then chains_of ds e.decl else 0) = opens_append (suc base) es e id n (omega arith) in
      omega (arith, rest)

  -- an entry before the first has no number here
  opens_before : (base : ℕ) (es : List Entry) (id : ℕ) → id < base → opens base es id ≡ 0
  unfolding opens
  opens_before base [] id less = refl
  opens_before base (e ∷ es) id less =
      let rest : opens (suc base) es id ≡ 0 = opens_before (suc base) es id (omega arith) in
      let none : (if eqb base id then chains_of ds e.decl else 0) ≡ 0 = elim (eqb_tells base id) [ inl t ↦ absurd (let e2 : base ≡ id = t.1 in omega arith) | inr f ↦ ap (λ (b : Bool). if b then chains_of ds e.decl else 0) f.0 ] in
      omega (arith, none, rest)

  -- what the entry with a number opens
  opens_at : (base : ℕ) (es : List Entry) (k id : ℕ) → id ≡ base + k → k < length es → opens base es id ≡ chains_of ds ((entry_at es k).decl)
  unfolding opens
  opens_at base [] k id same inside = absurd (omega arith)
  opens_at base (e ∷ es) zero id same inside =
      let here : base ≡ id = omega arith in
      let rest : opens (suc base) es id ≡ 0 = opens_before (suc base) es id (omega arith) in
      let hit_it : (if eqb base id then chains_of ds e.decl else 0) ≡ chains_of ds e.decl = elim (eqb_tells base id) [ inl t ↦ ap (λ (b : Bool). if b then chains_of ds e.decl else 0) t.0 | inr f ↦ absurd (f.1 here) ] in
      omega (arith, hit_it, rest)
  opens_at base (e ∷ es) (suc k) id same inside =
      let rest : opens (suc base) es id ≡ chains_of ds ((entry_at es k).decl) = opens_at (suc base) es k id (omega arith) (omega arith) in
      let none : (if eqb base id then chains_of ds e.decl else 0) ≡ 0 = elim (eqb_tells base id) [ inl t ↦ absurd (let e2 : base ≡ id = t.1 in omega arith) | inr f ↦ ap (λ (b : Bool). if b then chains_of ds e.decl else 0) f.0 ] in
      omega (arith, none, rest)

  -- past the last entry there is none
  opens_past : (base : ℕ) (es : List Entry) (id : ℕ) → base + length es ≤ id → opens base es id ≡ 0
  unfolding opens
  opens_past base [] id past = refl
  opens_past base (e ∷ es) id past =
      let rest : opens (suc base) es id ≡ 0 = opens_past (suc base) es id (omega arith) in
      let none : (if eqb base id then chains_of ds e.decl else 0) ≡ 0 = elim (eqb_tells base id) [ inl t ↦ absurd (let e2 : base ≡ id = t.1 in omega arith) | inr f ↦ ap (λ (b : Bool). if b then chains_of ds e.decl else 0) f.0 ] in
      omega (arith, none, rest)

  -- an open chain more
  times_opened : (flag : Bool) (n id : ℕ) (chains : List ℕ) → times id (if flag then n ∷ chains else chains) ≡ times id chains + (if eqb n id then (if flag then 1 else 0) else 0)
  unfolding times one_if
  times_opened true n id chains = omega arith
  times_opened false n id chains = elim (eqb n id) as (λ b. times id chains ≡ times id chains + (if b then 0 else 0)) [ true ↦ omega arith | false ↦ omega arith ]

  module _ (section : List ℕ) (id : ℕ) where
    -- the ends and the open chains of an entry are as many as it opens
    Owns : Listed → List ℕ → Type 0
    Owns now chains = times id (owners now.ends) + times id chains ≡ opens 0 now.entries id

    entry_owned : (depth number : ℕ) (old mid : Listed) (chains : List ℕ) → AddsEntry section ds depth number old mid → Owns old chains → Owns mid (opened ds number (length old.entries) chains)
    unfolding Owns
    entry_owned depth number old mid chains adds owned =
        let e : Entry = record { at = old.place; len = mid.place - old.place; depth = depth; decl = number; first = length old.values; count = length adds.values } in
        let n : ℕ = length old.entries in
        let more : ℕ = if eqb n id then chains_of ds number else 0 in
        let ends : times id (owners mid.ends) ≡ times id (owners old.ends) = ap (λ (z : List ChainEnd). times id (owners z)) adds.ended in
        let entries : opens 0 mid.entries id ≡ opens 0 old.entries id + more = ap (λ (z : List Entry). opens 0 z id) adds.entered ∙ opens_append 0 old.entries e id n (omega arith) in
        let chained : times id (opened ds number n chains) ≡ times id chains + more = times_opened ((declared_at ds number).children) n id chains in
        omega (arith, ends, entries, chained, owned)

    end_owned : (parent : ℕ) (outer : List ℕ) (old mid : Listed) (chains : List ℕ) → chains ≡ parent ∷ outer → AddsEnd section parent old mid → Owns old chains → Owns mid outer
    unfolding Owns owners times
    end_owned parent outer old mid chains same adds owned =
        let e : ChainEnd = record { entry = parent; at = old.place } in
        let entries : opens 0 mid.entries id ≡ opens 0 old.entries id = ap (λ (z : List Entry). opens 0 z id) adds.entered in
        let ends : times id (owners mid.ends) ≡ times id (owners old.ends) + one_if parent id = ap (λ (z : List ChainEnd). times id (owners z)) adds.ended ∙ ap (times id) (owners_append old.ends e) ∙ times_append id (owners old.ends) parent in
        let chained : times id chains ≡ one_if parent id + times id outer = ap (times id) same in
        omega (arith, ends, entries, chained, owned)

    walk_owned : (items : List Item) (old : Listed) (chains : List ℕ) (new : Listed) (left : List ℕ) → Walks section ds old chains items new left → Owns old chains → Owns new left
    walk_owned [] old chains new left (same, kept) owned = subst (λ (z : Listed). Owns z left) (sym same) (subst (λ (z : List ℕ). Owns old z) (sym kept) owned)
    walk_owned (AnEntry number ∷ items) old chains new left (going, (mid, adds, walk)) owned =
        walk_owned items mid (opened ds number (length old.entries) chains) new left walk (entry_owned (length chains) number old mid chains adds owned)
    walk_owned (AnEnd ∷ items) old chains new left (parent, outer, mid, same, adds, walk) owned =
        walk_owned items mid outer new left walk (end_owned parent outer old mid chains same adds owned)

    whole_owned : (start : ℕ) (forest : Listed) → IsWhole section ds start forest → times id (owners forest.ends) ≡ opens 0 forest.entries id
    unfolding Owns owners times opens
    whole_owned start forest whole =
        let owned : Owns forest [] = walk_owned whole.items (nothing_from start) [] forest [] whole.walked (let e : 0 + 0 ≡ 0 = refl in e) in
        omega (arith, owned)

  chains_few : (number : ℕ) → chains_of ds number ≤ 1
  chains_few number = elim ((declared_at ds number).children) as (λ b. (if b then 1 else 0) ≤ 1) [ true ↦ omega arith | false ↦ omega arith ]

  chains_tell : (number : ℕ) (flag : Bool) → (declared_at ds number).children ≡ flag → 0 < (if flag then 1 else 0) → (declared_at ds number).children ≡ true
  chains_tell number true is some = is
  chains_tell number false is some = absurd (omega arith)

  opens_tell : (es : List Entry) (id : ℕ) → 0 < opens 0 es id → HasChildren ds es id
  opens_tell es id some = elim (cases_lt id (length es)) [
    | inl inside ↦
        let is : opens 0 es id ≡ chains_of ds ((entry_at es id).decl) = opens_at 0 es id id (omega arith) inside in
        let one : 0 < chains_of ds ((entry_at es id).decl) = omega (arith, is, some) in
        (inside, chains_tell ((entry_at es id).decl) ((declared_at ds ((entry_at es id).decl)).children) refl one)
    | inr past ↦
        let none : opens 0 es id ≡ 0 = opens_past 0 es id (omega arith) in
        absurd (omega (arith, none, some))
  ]

  opens_few : (es : List Entry) (id : ℕ) → opens 0 es id ≤ 1
  opens_few es id = elim (cases_lt id (length es)) [
    | inl inside ↦
        let is : opens 0 es id ≡ chains_of ds ((entry_at es id).decl) = opens_at 0 es id id (omega arith) inside in
        let few : chains_of ds ((entry_at es id).decl) ≤ 1 = chains_few ((entry_at es id).decl) in
        omega (arith, is, few)
    | inr past ↦
        let none : opens 0 es id ≡ 0 = opens_past 0 es id (omega arith) in
        omega (arith, none)
  ]

  opens_one : (es : List Entry) (id : ℕ) → HasChildren ds es id → opens 0 es id ≡ 1
  opens_one es id has =
      let inside : id < length es = has.0 in
      opens_at 0 es id id (omega arith) inside ∙ ap (λ (b : Bool). if b then 1 else 0) has.1

  owner_at : (ends : List ChainEnd) (i : ℕ) → i < length ends → get_or (owners ends) i 0 ≡ (chain_end_at ends i).entry
  unfolding owners
  owner_at ends i inside = get_or-map (λ (e : ChainEnd). e.entry) ends i (record { entry = 0; at = 0 }) 0 inside

  owner_count : (ends : List ChainEnd) → length (owners ends) ≡ length ends
  unfolding owners
  owner_count ends = length-map ends (λ (e : ChainEnd). e.entry)

  pub whole_ends : (section : List ℕ) (start : ℕ) (forest : Listed) → IsWhole section ds start forest → HasOneEndEach ds forest
  whole_ends section start forest whole =
      let count : length (owners forest.ends) ≡ length forest.ends = owner_count forest.ends in
      record {
        each = λ id has.
            let all : times id (owners forest.ends) ≡ opens 0 forest.entries id = whole_owned section id start forest whole in
            let one : opens 0 forest.entries id ≡ 1 = opens_one forest.entries id has in
            let f = times_found id (owners forest.ends) (omega (arith, all, one)) in
            let inside : f.0 < length (owners forest.ends) = f.1 in
            let there : f.0 < length forest.ends = omega (arith, count, inside) in
            (f.0, there, sym (owner_at forest.ends f.0 there) ∙ f.2);
        once = λ i j p q same.
            let id : ℕ = (chain_end_at forest.ends j).entry in
            let all : times id (owners forest.ends) ≡ opens 0 forest.entries id = whole_owned section id start forest whole in
            let few : opens 0 forest.entries id ≤ 1 = opens_few forest.entries id in
            times_once id (owners forest.ends) i j (omega (arith, all, few)) (omega (arith, count, p)) (omega (arith, count, q)) (owner_at forest.ends i p ∙ same) (owner_at forest.ends j q);
        owned = λ i p.
            let id : ℕ = (chain_end_at forest.ends i).entry in
            let all : times id (owners forest.ends) ≡ opens 0 forest.entries id = whole_owned section id start forest whole in
            let some : 0 < times id (owners forest.ends) = times_some id (owners forest.ends) i (omega (arith, count, p)) (owner_at forest.ends i p) in
            opens_tell forest.entries id (omega (arith, all, some));
      }
