-- Tables that are written part by part.
use Rattle.std.proofs.Common.{◌≡◌, ◌≢◌, ◌≤◌, ◌<◌, ◌+◌, ℕ, zero, suc, List, [], ◌∷◌, ◌++◌, length, take, map, get_or, ltb, ◌∙◌, sym, ap, refl, subst, arith, inl, inr, Ordering}
use Rattle.std.specs.Prelude.{ℤ, Bool, true, false, if◌then◌else◌}
use Rattle.std.specs.List.{All}
use Rattle.std.specs.Ordering.{nat_cmp, ordering_then, is_lt}
use Rattle.std.specs.List.Sorted.{IsPermutation, IsSorted}
use Rattle.std.proofs.lemmas.Bool.{cond_both, cases_lt}
use Rattle.std.proofs.lemmas.Bool.Decides.{nat_tests}
use Rattle.std.proofs.lemmas.List.{append-nil, append_assoc, take_more, map-append}
use Rattle.std.proofs.lemmas.List.Elements.{All-nil, All-push, All-weaker, All-get_or}
use Rattle.std.proofs.lemmas.List.Sorted.{All-permutation}
use Rattle.spelled.specs.Spelled.{Joined, Then, Appends}
use Rattle.spelled.proofs.Joins.{appends_then, appends_more}
use Rattle.leb_codec.specs.Leb.{ShortestUnsigned, ShortestSigned}
use Rattle.abbrev_tables.specs.declared.decl.Decl.{Decl}
use Rattle.abbrev_tables.specs.declared.decl.Spec.{Spec}
use Rattle.abbrev_tables.specs.Tables.{implicit_const, SpellsChildren, Declared}
use Rattle.abbrev_tables.specs.Listings.{AreAdjacent, decl_at}
use Rattle.abbrev_tables.specs.Written.{ShortestConstant, ShortestColumn, ShortestColumns, ShortestDeclared, ShortestTable, used_among, numbered_as, renumbered, used_at, IsInOrder, IsWrittenOf}
use Rattle.abbrev_tables.specs.inside.Written.{AreUsed}
use Rattle.abbrev_tables.proofs.Rows.{adjacent_rises}

pub constant_none : (form : ℕ) (constant : ℤ) (out : List ℕ) → form ≢ implicit_const → Appends (ShortestConstant form) constant out out
constant_none form constant out other = ([], inr (other, refl), sym (append-nil out))

pub constant_put : (form : ℕ) (constant : ℤ) (a b : List ℕ) → form ≡ implicit_const → Appends ShortestSigned constant a b → Appends (ShortestConstant form) constant a b
constant_put form constant a b e p = (p.0, inl (e, p.1), p.2)

pub column_put : (c : Spec) (a b d e : List ℕ) → Appends ShortestUnsigned c.name a b → Appends ShortestUnsigned c.form b d → Appends (ShortestConstant c.form) c.constant d e → Appends ShortestColumn c a e
column_put c a b d e p q r =
    appends_then ShortestUnsigned (λ _. Then ShortestUnsigned ShortestConstant) c.name (c.form, c.constant) a b e p (appends_then ShortestUnsigned ShortestConstant c.form c.constant b d e q r)

pub columns_put : (columns : List Spec) (a b c : List ℕ) → Appends (Joined ShortestColumn) columns a b → c ≡ b ++ 0 ∷ 0 ∷ [] → Appends ShortestColumns columns a c
columns_put columns a b c p e =
    let end : List ℕ = 0 ∷ 0 ∷ [] in
    (p.0 ++ end, (p.0, end, p.1, refl, refl), e ∙ ap (λ z. z ++ end) p.2 ∙ append_assoc a p.0 end)

pub children_put : (children : Bool) (n : ℕ) (a b : List ℕ) → n ≡ (if children then 1 else 0) → b ≡ a ++ n ∷ [] → Appends SpellsChildren children a b
children_put true n a b e f = (1 ∷ [], refl, f ∙ ap (λ k. a ++ k ∷ []) e)
children_put false n a b e f = (0 ∷ [], refl, f ∙ ap (λ k. a ++ k ∷ []) e)

pub declared_put : (number : ℕ) (d : Decl) (columns : List Spec) (a b c e f : List ℕ) → Appends ShortestUnsigned number a b → Appends ShortestUnsigned d.tag b c → Appends SpellsChildren d.children c e → Appends ShortestColumns columns e f → Appends ShortestDeclared (numbered_as number d columns) a f
declared_put number d columns a b c e f p q r s =
    appends_then ShortestUnsigned (λ _. Then ShortestUnsigned (λ _. Then SpellsChildren (λ _. ShortestColumns))) number (d.tag, (d.children, columns)) a b f p
    (appends_then ShortestUnsigned (λ _. Then SpellsChildren (λ _. ShortestColumns)) d.tag (d.children, columns) b c f q
    (appends_then SpellsChildren (λ _. ShortestColumns) d.children columns c e f r s))

pub table_put : (ds : List Declared) (out bytes : List ℕ) → Appends (Joined ShortestDeclared) ds [] out → bytes ≡ out ++ 0 ∷ [] → ShortestTable ds bytes
table_put ds out bytes p e = (p.0, 0 ∷ [], p.1, refl, e ∙ ap (λ z. z ++ 0 ∷ []) p.2)

-- one more of a list whose elements are put as f says
pub order_more : (f : ℕ × ℕ → Declared) (order : List (ℕ × ℕ)) (k : ℕ) (a b c : List ℕ) → k < length order → Appends (Joined ShortestDeclared) (map f (take k order)) a b → Appends ShortestDeclared (f (used_at order k)) b c → Appends (Joined ShortestDeclared) (map f (take (k + 1) order)) a c
order_more f order k a b c inside p q =
    let more = appends_more ShortestDeclared (map f (take k order)) (f (used_at order k)) a b c p q in
    let e : map f (take (k + 1) order) ≡ map f (take k order) ++ f (used_at order k) ∷ [] = ap (λ z. map f z) (take_more order k (0, 0) inside) ∙ map-append f (take k order) (used_at order k ∷ []) in
    subst (λ (z : List Declared). Appends (Joined ShortestDeclared) z a c) (sym e) more

-- columns of a declaration lie in the list
pub columns_inside : (from : ℕ) (ds : List Decl) (to i : ℕ) → AreAdjacent from ds to → i < length ds → (decl_at ds i).first + (decl_at ds i).count ≤ to
columns_inside from [] to i a inside = absurd (omega arith)
columns_inside from (d ∷ ds) to zero (e, a) inside =
    let r : from + d.count ≤ to = adjacent_rises (from + d.count) ds to a in omega arith
columns_inside from (d ∷ ds) to (suc i) (e, a) inside = columns_inside (from + d.count) ds to i a (omega arith)

abbrev pub cmp_used : ℕ × ℕ → ℕ × ℕ → Ordering
cmp_used x y = ordering_then (nat_cmp x.0 y.0) (nat_cmp x.1 y.1)

not_less : (a b p q : ℕ) → is_lt (ordering_then (nat_cmp b a) (nat_cmp q p)) ≡ false → a ≤ b
not_less a b p q test = elim (cases_lt b a) [ inl less ↦ grind (arith, nat_tests) | inr rest ↦ omega arith ]

pub rising : (order : List (ℕ × ℕ)) → IsSorted cmp_used order → (k l : ℕ) → k ≤ l → l < length order → (used_at order k).0 ≤ (used_at order l).0
rising order sorted zero zero up inside = omega arith
rising order sorted (suc k) zero up inside = absurd (omega arith)
rising order sorted k (suc l) up inside =
    elim (cases_lt k (suc l)) [
      | inl before ↦
          let same : l + 1 ≡ suc l = omega arith in
          let test = rw same at (sorted l (0, 0) (omega arith) (omega arith)) in
          let step : (used_at order l).0 ≤ (used_at order (suc l)).0 = not_less ((used_at order l).0) ((used_at order (suc l)).0) ((used_at order l).1) ((used_at order (suc l)).1) test in
          let rest : (used_at order k).0 ≤ (used_at order l).0 = rising order sorted k l (omega arith) (omega arith) in
          omega arith
      | inr same ↦ let e : k ≡ suc l = omega arith in subst (λ (n : ℕ). (used_at order n).0 ≤ (used_at order (suc l)).0) (sym e) (omega arith)
    ]

abbrev pub IsBelow : ℕ → ℕ × ℕ → Type 0
IsBelow n u = u.1 < n

used_below : (numbers : List ℕ) (n : ℕ) → All (IsBelow n) (used_among numbers n)
used_below numbers zero = All-nil (IsBelow zero)
used_below numbers (suc n) =
    let before = All-weaker (IsBelow n) (IsBelow (suc n)) (λ u l. omega arith) (used_among numbers n) (used_below numbers n) in
    cond_both (ltb 0 (get_or numbers n 0)) (used_among numbers n ++ (get_or numbers n 0, n) ∷ []) (used_among numbers n) (All (IsBelow (suc n)))
    (λ test. All-push (IsBelow (suc n)) (used_among numbers n) (get_or numbers n 0, n) before (omega arith))
    (λ _. before)

pub are_used : (numbers : List ℕ) (count : ℕ) (order : List (ℕ × ℕ)) → length numbers ≡ count → IsPermutation (used_among numbers (length numbers)) order → AreUsed count order
are_used numbers count order e moved k inside =
    let all = All-permutation (IsBelow (length numbers)) (used_among numbers (length numbers)) order moved (used_below numbers (length numbers)) in
    let l : (used_at order k).1 < length numbers = All-get_or (IsBelow (length numbers)) order k (0, 0) inside all in
    omega arith

pub written : (decls : List Decl) (numbers : List ℕ) (columns : List Spec) (order : List (ℕ × ℕ)) (start out bytes : List ℕ) → IsInOrder numbers order → start ≡ [] → Appends (Joined ShortestDeclared) (map (renumbered decls columns) order) start out → bytes ≡ out ++ 0 ∷ [] → IsWrittenOf decls numbers columns bytes
written decls numbers columns order start out bytes o none p e = record {
  order = order;
  ordered = o;
  spelled = table_put (map (renumbered decls columns) order) out bytes (subst (λ (z : List ℕ). Appends (Joined ShortestDeclared) (map (renumbered decls columns) order) z out) none p) e;
}
