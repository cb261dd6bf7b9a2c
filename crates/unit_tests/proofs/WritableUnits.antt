-- Units of tests can be written.
use Rattle.std.proofs.Common.{◌≡◌, ◌≢◌, ◌≤◌, ◌<◌, ◌+◌, ◌-◌, ◌^◌, ◌⊎◌, ℕ, suc, List, [], ◌∷◌, ◌++◌, length, get_or, drop, ◌∙◌, sym, ap, refl, arith, false, inl, inr}
use Rattle.std.proofs.lemmas.List.{append-nil, append_assoc, length-drop, length-take-le}
use Rattle.std.specs.List.{All}
use Rattle.spelled.specs.Spelled.{AreBytes}
use Rattle.leb_codec.specs.Leb.{least_unsigned_len}
use Rattle.form_codec.specs.declared.value.Value.{Value}
use Rattle.form_codec.specs.Forms.{Meaning}
use Rattle.form_codec.specs.Forms.Meaning.{Expression}
use Rattle.form_codec.specs.Values.{meant_in, IsValueIn}
use Rattle.abbrev_tables.specs.declared.decl.Spec.{Spec}
use Rattle.abbrev_tables.specs.Listings.{Listing, spec_at}
use Rattle.entry_arena.specs.Arena.{Arena, entry_at, value_at}
use Rattle.entry_arena.specs.Trees.{listed_to, declared_at}
use Rattle.entry_arena.proofs.StandingLaws.{entries_stand}
use Rattle.entry_arena.proofs.TreeLaws.{trees_are_walks}
use Rattle.entry_read.specs.Heads.{IsHead}
use Rattle.entry_read.specs.Units.{HeadAndForest, entries_at, declarations_of, IsUnitHeld}
use Rattle.unit_write.specs.Values.{HasSize, HaveSize}
use Rattle.entry_read.proofs.PlaceLaws.{units_lie}
use Rattle.unit_write.specs.NewExpressions.{lens_from, new_len, new_lens}
use Rattle.unit_write.specs.Placing.{columns_of, values_in, among_values}
use Rattle.unit_write.specs.Moved.{IsWritable}
use Rattle.unit_write.proofs.EndLaws.{lens_len}
use Rattle.unit_write.proofs.Anew.{count_in}
use Rattle.unit_write.specs.Sizes.{IsExpr}
use Rattle.unit_write.specs.inside.Puts.{is_expr}
use Rattle.unit_write.proofs.Sizing.{valued_between}
use Rattle.unit_tests.proofs.HeldUnits.{held_as_read}

-- something can be written for a value, whatever section it stands in and however many bytes it takes as an expression or a reference
abbrev pub IsSizedIn : Spec → Value → Type 0
IsSizedIn column value = (section : List ℕ) (len : ℕ) → length section < 2 ^ 63 → IsValueIn section value → (size : ℕ) × HasSize column (meant_in section value) len size

-- and for values
abbrev pub AreSizedIn : List Spec → List Value → Type 0
AreSizedIn columns values = (section lens : List ℕ) → length section < 2 ^ 63 → All (IsValueIn section) values → length lens ≡ length values → (size : ℕ) × HaveSize section columns values lens size

pub have_sizes : (columns : List Spec) (values : List Value) → length columns ≡ length values → ((k : ℕ) → k < length columns → IsSizedIn (spec_at columns k) (value_at values k)) → AreSizedIn columns values
have_sizes [] [] same each section [] few all long = (0, refl)
have_sizes [] [] same each section (n ∷ lens) few all long = absurd (omega arith)
have_sizes [] (v ∷ vs) same each section lens few all long = absurd (omega arith)
have_sizes (c ∷ cs) [] same each section lens few all long = absurd (omega arith)
have_sizes (c ∷ cs) (v ∷ vs) same each section [] few all long = absurd (omega arith)
have_sizes (c ∷ cs) (v ∷ vs) same each section (n ∷ lens) few all long =
    let first = each 0 (omega arith) section n few (all 0 v (omega arith)) in
    let rest = have_sizes cs vs (omega arith) (λ k lt. each (suc k) (omega arith)) section lens few (λ k d lt. all (suc k) d (omega arith)) (omega arith) in
    (first.0 + rest.0, (first.0, rest.0, first.1, rest.1, refl))

-- those of the values of an entry are as many
own_lens : (f : Arena) (lens : List ℕ) (id : ℕ) → length lens ≡ length f.values → (entry_at f.entries id).first + (entry_at f.entries id).count ≤ length f.values → length (among_values f lens id) ≡ length (values_in f id)
own_lens f lens id each inside =
    let first : ℕ = (entry_at f.entries id).first in
    let count : ℕ = (entry_at f.entries id).count in
    let rest : length (drop first lens) ≡ length lens - first = length-drop first lens in
    length-take-le count (drop first lens) (omega arith) ∙ sym (count_in f id inside)

pub sized_writable : (unit : HeadAndForest) (table : Listing) (columns : List Spec) (numbers lens : List ℕ) → length lens ≡ length unit.forest.values → IsHead unit.forest.section unit.head → IsUnitHeld unit.forest.section unit.head (declarations_of table) unit.forest → length numbers ≡ length table.decls → length columns ≡ length table.specs → All (λ (n : ℕ). n ≢ 0) numbers → AreBytes unit.forest.section → length unit.forest.section < 2 ^ 63 → ((id : ℕ) → id < length unit.forest.entries → ((entry_at unit.forest.entries id).decl < length table.decls) × AreSizedIn (columns_of table columns (entry_at unit.forest.entries id).decl) (values_in unit.forest id)) → IsWritable unit table columns numbers lens
sized_writable unit table columns numbers lens count head held numbered renewed used small few each = record {
  head = head;
  held = held_as_read unit table held;
  numbered = numbered;
  renewed = renewed;
  used = λ id inside. used (entry_at unit.forest.entries id).decl 0 (let known : (entry_at unit.forest.entries id).decl < length table.decls = (each id inside).0 in omega arith);
  sized = λ id inside.
      let f = unit.forest in
      let ds = declarations_of table in
      let e = entry_at f.entries id in
      let whole = (trees_are_walks f.section ds (entries_at unit.head) (listed_to f held.0)).0 held.1.tree in
      let s = entries_stand f.section ds (entries_at unit.head) (listed_to f held.0) id whole inside in
      let all = valued_between f.section small ((declared_at ds e.decl).columns) (values_in f id) s.values_at (e.at + e.len) s.valued in
      let lie = units_lie f.section unit.head ds f refl held in
      let own = own_lens f lens id count (lie.order.valued.inside id inside) in
      let size = (each id inside).1 f.section (among_values f lens id) few all own in
      (least_unsigned_len (get_or numbers e.decl 0) + size.0, (size.0, size.1, refl));
}

pub none_expr : (m : Meaning) → is_expr m ≡ false → (¬ IsExpr m)
none_expr (Expression bytes) e = absurd (cc (e))
none_expr m e = λ none. none

-- after the next value so many lengths are found, and those of the values behind it are left
pub lens_next : (section : List ℕ) (all done new : List ℕ) (begin len : ℕ) (vs others : List Value) (v : Value) (ns more : List ℕ) (n : ℕ) (es later : List ℕ) (e : ℕ) → all ≡ done ++ new_lens section vs ns (lens_from begin es) → vs ≡ v ∷ others → ns ≡ n ∷ more → es ≡ e ∷ later → len ≡ new_len (meant_in section v) n (e - begin) → new ≡ done ++ len ∷ [] → all ≡ new ++ new_lens section others more (lens_from e later)
lens_next section all done new begin len vs others v ns more n es later e h p q r is put =
    let rest : List ℕ = new_lens section others more (lens_from e later) in
    let whole : new_lens section vs ns (lens_from begin es) ≡ len ∷ rest = ap (λ (z : List Value). new_lens section z ns (lens_from begin es)) p ∙ ap (λ (z : List ℕ). new_lens section (v ∷ others) z (lens_from begin es)) q ∙ ap (λ (z : List ℕ). new_lens section (v ∷ others) (n ∷ more) (lens_from begin z)) r ∙ ap (λ (z : ℕ). z ∷ rest) (sym is) in
    h ∙ ap (λ (z : List ℕ). done ++ z) whole ∙ sym (append_assoc done (len ∷ []) rest) ∙ ap (λ (z : List ℕ). z ++ rest) (sym put)

none_new : (section : List ℕ) (vs : List Value) (ns lens : List ℕ) → (length vs ≡ 0) ⊎ ((length ns ≡ 0) ⊎ (length lens ≡ 0)) → new_lens section vs ns lens ≡ []
none_new section [] ns lens h = refl
none_new section (v ∷ vs) [] lens h = refl
none_new section (v ∷ vs) (n ∷ ns) [] h = refl
none_new section (v ∷ vs) (n ∷ ns) (len ∷ lens) (inl h) = absurd (omega arith)
none_new section (v ∷ vs) (n ∷ ns) (len ∷ lens) (inr (inl h)) = absurd (omega arith)
none_new section (v ∷ vs) (n ∷ ns) (len ∷ lens) (inr (inr h)) = absurd (omega arith)

-- where nothing is left all are found
pub lens_all : (section : List ℕ) (all done : List ℕ) (begin : ℕ) (vs : List Value) (ns es : List ℕ) → all ≡ done ++ new_lens section vs ns (lens_from begin es) → (length vs ≡ 0) ⊎ ((length ns ≡ 0) ⊎ (length es ≡ 0)) → done ≡ all
lens_all section all done begin vs ns es h none =
    let ends : (length vs ≡ 0) ⊎ ((length ns ≡ 0) ⊎ (length (lens_from begin es) ≡ 0)) = elim none [ inl x ↦ inl x | inr x ↦ inr (elim x [ inl y ↦ inl y | inr y ↦ inr (lens_len begin es ∙ y) ]) ] in
    sym (h ∙ ap (λ (z : List ℕ). done ++ z) (none_new section vs ns (lens_from begin es) ends) ∙ append-nil done)
