-- A unit's entries as a tree, and in preorder.
use Rattle.std.proofs.Common.{◌≡◌, ◌≢◌, ◌<◌, ◌≤◌, ◌+◌, ◌-◌, ℕ, suc, List, [], ◌∷◌, ◌++◌, length, ◌∙◌, sym, ap, refl, subst, arith, inl, inr}
use Rattle.std.specs.Prelude.{Bool, true, false, if◌then◌else◌, ◌↔◌}
use Rattle.std.proofs.lemmas.List.{length-append}
use Rattle.abbrev_tables.specs.Tables.{Declared}
use Rattle.entry_arena.specs.declared.entry.Entry.{Entry}
use Rattle.entry_arena.specs.Trees.{declared_at, Listed, nothing_from, AddsEntry, AddsEnd, Siblings, EndsChildren, Lists, IsForest}
use Rattle.entry_arena.specs.Trees.Siblings.{NoMore, Tree}
use Rattle.entry_arena.specs.Walks.{Item, opened, IsGoing, Walks, IsWhole}
use Rattle.entry_arena.specs.Walks.Item.{AnEntry, AnEnd}

-- walks one after the other
pub walks_append : (section : List ℕ) (ds : List Declared) (old : Listed) (chains : List ℕ) (is : List Item) (mid : Listed) (between : List ℕ) (js : List Item) (new : Listed) (left : List ℕ) → Walks section ds old chains is mid between → Walks section ds mid between js new left → Walks section ds old chains (is ++ js) new left
walks_append section ds old chains [] mid between js new left p q =
    subst (λ (z : Listed). Walks section ds z chains js new left) p.0 (subst (λ (z : List ℕ). Walks section ds mid z js new left) p.1 q)
walks_append section ds old chains (AnEntry number ∷ is) mid between js new left (going, (next, adds, walk)) q =
    (going, (next, adds, walks_append section ds next (opened ds number (length old.entries) chains) is mid between js new left walk q))
walks_append section ds old chains (AnEnd ∷ is) mid between js new left (id, outer, next, e, adds, walk) q =
    (id, outer, next, e, adds, walks_append section ds next outer is mid between js new left walk q)

pub entry_grows : (section : List ℕ) (ds : List Declared) (depth number : ℕ) (old new : Listed) → AddsEntry section ds depth number old new → length old.entries < length new.entries
entry_grows section ds depth number old new adds =
    let e : Entry = record { at = old.place; len = new.place - old.place; depth = depth; decl = number; first = length old.values; count = length adds.values } in
    let size : length new.entries ≡ length old.entries + length (e ∷ []) = ap length adds.entered ∙ length-append old.entries (e ∷ []) in
    omega arith

pub cons_filled : {A : Type 0} (x : A) (xs : List A) → (x ∷ xs) ≢ []
cons_filled x xs e = absurd (cc)

-- a walk keeps what is listed
pub walks_grow : (section : List ℕ) (ds : List Declared) (old : Listed) (chains : List ℕ) (items : List Item) (new : Listed) (left : List ℕ) → Walks section ds old chains items new left → length old.entries ≤ length new.entries
walks_grow section ds old chains [] new left w =
    let same : length new.entries ≡ length old.entries = ap (λ (z : Listed). length z.entries) w.0 in
    omega arith
walks_grow section ds old chains (AnEntry number ∷ items) new left (going, (mid, adds, walk)) =
    let more : length old.entries < length mid.entries = entry_grows section ds (length chains) number old mid adds in
    let rest : length mid.entries ≤ length new.entries = walks_grow section ds mid (opened ds number (length old.entries) chains) items new left walk in
    omega arith
walks_grow section ds old chains (AnEnd ∷ items) new left (id, outer, mid, e, adds, walk) =
    let same : length mid.entries ≡ length old.entries = ap length adds.entered in
    let rest : length mid.entries ≤ length new.entries = walks_grow section ds mid outer items new left walk in
    omega arith

pub some_listed : (entries : List Entry) → 0 < length entries → entries ≢ []
some_listed entries some none =
    let size : length entries ≡ 0 = ap length none in
    omega arith

-- a walk that lists entries
abbrev WalkFrom : List ℕ → List Declared → Listed → List ℕ → Listed → List ℕ → Type 0
WalkFrom section ds old chains new left = (items : List Item) × Walks section ds old chains items new left

module _ (section : List ℕ) (ds : List Declared) where
  -- an entry, and its children up to their end
  below_walks : (flag : Bool) (id : ℕ) (chains : List ℕ) (children : Siblings) (Inside : Listed → Listed → Type 0) (old new : Listed) → ((a b : Listed) → Inside a b → WalkFrom section ds a (id ∷ chains) b (id ∷ chains)) → EndsChildren flag section id children Inside old new → WalkFrom section ds old (if flag then id ∷ chains else chains) new chains
  below_walks true id chains children Inside old new walks (inner, inside, end) =
      let w = walks old inner inside in
      (w.0 ++ AnEnd ∷ [], walks_append section ds old (id ∷ chains) w.0 inner (id ∷ chains) (AnEnd ∷ []) new chains w.1 (id, chains, new, refl, end, (refl, refl)))
  below_walks false id chains children Inside old new walks (none, same) = ([], (same, refl))

  -- siblings in an open chain
  siblings_walk : (trees : Siblings) (chains : List ℕ) (old new : Listed) → chains ≢ [] → Lists section ds (length chains) trees old new → WalkFrom section ds old chains new chains
  siblings_walk NoMore chains old new some same = ([], (same, refl))
  siblings_walk (Tree number children more) chains old new some (entry, chain, adds, below, rest) =
      let id : ℕ = length old.entries in
      let inside = below_walks ((declared_at ds number).children) id chains children (λ a b. Lists section ds (suc (length chains)) children a b) entry chain (λ a b l. siblings_walk children (id ∷ chains) a b (cons_filled id chains) l) below in
      let later = siblings_walk more chains chain new some rest in
      (AnEntry number ∷ (inside.0 ++ later.0), (inr some, (entry, adds, walks_append section ds entry (opened ds number id chains) inside.0 chain chains later.0 new chains inside.1 later.1)))

  pub walk_of : (start : ℕ) (forest : Listed) → IsForest section ds start forest → IsWhole section ds start forest
  walk_of start forest f =
      let (entry, chain, adds, below, same) = f.listed in
      let inside = below_walks ((declared_at ds f.root).children) 0 [] f.children (λ a b. Lists section ds 1 f.children a b) entry chain (λ a b l. siblings_walk f.children (0 ∷ []) a b (cons_filled 0 []) l) below in
      let walk : Walks section ds entry (opened ds f.root 0 []) inside.0 forest [] = subst (λ (z : Listed). Walks section ds entry (opened ds f.root 0 []) inside.0 z []) (sym same) inside.1 in
      let one : 0 < length entry.entries = entry_grows section ds 0 f.root (nothing_from start) entry adds in
      let all : length entry.entries ≤ length forest.entries = walks_grow section ds entry (opened ds f.root 0 []) inside.0 forest [] walk in
      record {
        items = AnEntry f.root ∷ inside.0;
        walked = (inl refl, (entry, adds, walk));
        some = some_listed forest.entries (omega arith);
      }

  -- what is left of a walk to its end: for each open chain the later siblings and their code 0
  abbrev Rest : List ℕ → Listed → Listed → Type 0
  Rest [] old new = new ≡ old
  Rest (id ∷ outer) old new = (trees : Siblings) × (inner : Listed) × (chain : Listed) × Lists section ds (suc (length outer)) trees old inner × AddsEnd section id inner chain × Rest outer chain new

  -- one more sibling in front, with the children that follow it
  rest_entry : (flag : Bool) (number id : ℕ) (chains : List ℕ) (old mid new : Listed) → chains ≢ [] → (declared_at ds number).children ≡ flag → AddsEntry section ds (length chains) number old mid → id ≡ length old.entries → Rest (if flag then id ∷ chains else chains) mid new → Rest chains old new
  rest_entry flag number id [] old mid new some is adds same rest = absurd (some refl)
  rest_entry true number id (first ∷ outer) old mid new some is adds same (children, inner, chain, inside, end, (more, last, after, later, closing, rest)) =
      let below : EndsChildren true section (length old.entries) children (λ a b. Lists section ds (suc (suc (length outer))) children a b) mid chain = (inner, inside, subst (λ (z : ℕ). AddsEnd section z inner chain) same end) in
      (Tree number children more, last, after, (mid, chain, adds, subst (λ (c : Bool). EndsChildren c section (length old.entries) children (λ a b. Lists section ds (suc (suc (length outer))) children a b) mid chain) (sym is) below, later), closing, rest)
  rest_entry false number id (first ∷ outer) old mid new some is adds same (more, last, after, later, closing, rest) =
      let below : EndsChildren false section (length old.entries) NoMore (λ a b. Lists section ds (suc (suc (length outer))) NoMore a b) mid mid = (refl, refl) in
      (Tree number NoMore more, last, after, (mid, mid, adds, subst (λ (c : Bool). EndsChildren c section (length old.entries) NoMore (λ a b. Lists section ds (suc (suc (length outer))) NoMore a b) mid mid) (sym is) below, later), closing, rest)

  pub still_open : (old : Listed) (chains : List ℕ) → old.entries ≢ [] → IsGoing old chains → chains ≢ []
  still_open old chains some (inl none) = absurd (some none)
  still_open old chains some (inr open_still) = open_still

  -- the rest of a walk behind an entry, from the right
  rest_of : (items : List Item) (old : Listed) (chains : List ℕ) (new : Listed) → old.entries ≢ [] → Walks section ds old chains items new [] → Rest chains old new
  rest_of [] old chains new some (same, none) = subst (λ (z : List ℕ). Rest z old new) none same
  rest_of (AnEntry number ∷ items) old chains new some (going, (mid, adds, walk)) =
      let grown : length old.entries < length mid.entries = entry_grows section ds (length chains) number old mid adds in
      let rest = rest_of items mid (opened ds number (length old.entries) chains) new (some_listed mid.entries (omega arith)) walk in
      rest_entry ((declared_at ds number).children) number (length old.entries) chains old mid new (still_open old chains some going) refl adds refl rest
  rest_of (AnEnd ∷ items) old chains new some (id, outer, mid, e, adds, walk) =
      let same : mid.entries ≡ old.entries = adds.entered in
      let rest = rest_of items mid outer new (λ none. some (sym same ∙ none)) walk in
      subst (λ (z : List ℕ). Rest z old new) (sym e) (NoMore, old, mid, refl, adds, rest)

  root_tree : (flag : Bool) (root start : ℕ) (mid forest : Listed) → (declared_at ds root).children ≡ flag → AddsEntry section ds 0 root (nothing_from start) mid → Rest (if flag then 0 ∷ [] else []) mid forest → IsForest section ds start forest
  root_tree true root start mid forest is adds (children, inner, chain, inside, end, same) =
      let below : EndsChildren true section 0 children (λ a b. Lists section ds 1 children a b) mid chain = (inner, inside, end) in
      record {
        root = root;
        children = children;
        listed = (mid, chain, adds, subst (λ (c : Bool). EndsChildren c section 0 children (λ a b. Lists section ds 1 children a b) mid chain) (sym is) below, same);
      }
  root_tree false root start mid forest is adds same =
      let below : EndsChildren false section 0 NoMore (λ a b. Lists section ds 1 NoMore a b) mid mid = (refl, refl) in
      record {
        root = root;
        children = NoMore;
        listed = (mid, mid, adds, subst (λ (c : Bool). EndsChildren c section 0 NoMore (λ a b. Lists section ds 1 NoMore a b) mid mid) (sym is) below, same);
      }

  tree_from : (items : List Item) (start : ℕ) (forest : Listed) → forest.entries ≢ [] → Walks section ds (nothing_from start) [] items forest [] → IsForest section ds start forest
  tree_from [] start forest some (same, none) = absurd (some (ap (λ (z : Listed). z.entries) same))
  tree_from (AnEntry root ∷ items) start forest some (going, (mid, adds, walk)) =
      let one : 0 < length mid.entries = entry_grows section ds 0 root (nothing_from start) mid adds in
      let rest = rest_of items mid (opened ds root 0 []) forest (some_listed mid.entries (omega arith)) walk in
      root_tree ((declared_at ds root).children) root start mid forest refl adds rest
  tree_from (AnEnd ∷ items) start forest some (id, outer, mid, e, adds, walk) = absurd (cons_filled id outer (sym e))

  pub tree_of : (start : ℕ) (forest : Listed) → IsWhole section ds start forest → IsForest section ds start forest
  tree_of start forest w = tree_from w.items start forest w.some w.walked

pub trees_are_walks : (section : List ℕ) (ds : List Declared) (start : ℕ) (forest : Listed) → IsForest section ds start forest ↔ IsWhole section ds start forest
trees_are_walks section ds start forest = (walk_of section ds start forest, tree_of section ds start forest)
