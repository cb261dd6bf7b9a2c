-- The sizes of values and of entries with slots of some sizes, and without.
use Rattle.std.proofs.Common.{◌≡◌, ◌≤◌, ◌<◌, ◌+◌, ◌-◌, ℕ, zero, suc, List, [], ◌∷◌, length, get_or, take, drop, sum, true, false, ◌∙◌, sym, ap, subst, arith, inl, inr, add-zero, add-one}
use Rattle.std.specs.Prelude.{slice_range}
use Rattle.std.proofs.lemmas.Bool.{cases_Bool, false≢true}
use Rattle.std.proofs.lemmas.List.{get_or-take, get_or-drop, length-drop, length-take-le}
use Rattle.form_codec.specs.declared.value.Value.{Value}
use Rattle.form_codec.specs.declared.value.Value.TheVariants as value
use Rattle.form_codec.specs.Forms.{Meaning}
use Rattle.form_codec.specs.Forms.Meaning.{Expression, InUnit}
use Rattle.form_codec.specs.Values.{meant_in}
use Rattle.abbrev_tables.specs.declared.decl.Spec.{Spec}
use Rattle.abbrev_tables.specs.Listings.{Listing}
use Rattle.expr_ops.specs.Expressions.{Operation}
use Rattle.expr_ops.specs.Shortest.{fixed_length}
use Rattle.entry_arena.specs.Arena.{Arena, entry_at, value_at}
use Rattle.entry_arena.specs.Order.{HaveValues}
use Rattle.entry_read.specs.Slots.{meaning_at, slots_before}
use Rattle.unit_write.specs.Lens.{AreLensUnder}
use Rattle.unit_write.specs.Values.{HasSize, HaveSize, OneSize}
use Rattle.unit_write.specs.Placing.{columns_of, values_in, among_values, EntrySize}
use Rattle.unit_write.specs.inside.Marks.{values_before}
use Rattle.unit_write.proofs.SlotLists.{sum_range}
use Rattle.unit_write.proofs.SlotAims.{has_len, slots_rise, slots_none}

-- such a value has just the bytes that are given for it
size_len : (column : Spec) (meaning : Meaning) (len size : ℕ) → has_len meaning ≡ true → HasSize column meaning len size → size ≡ len
size_len column (InUnit n) len size has p = p.1
size_len column (Expression bytes) len size has p = p.1
size_len column meaning len size has p = absurd (false≢true has)

module _ (section : List ℕ) (weights : ℕ → ℕ) where
  -- these lengths are others with what each weight is more than the one before it, which is nothing where a value has no slots
  pub record AreWeighted (vs : List Value) (base : ℕ) (ns ls : List ℕ) : Type 0 where
    pub each : (j : ℕ) → j < length vs → get_or ls j 0 + weights (base + j) ≡ get_or ns j 0 + weights (suc (base + j))
    pub none : (j : ℕ) → j < length vs → has_len (meant_in section (value_at vs j)) ≡ false → weights (suc (base + j)) ≡ weights (base + j)

  tail : (v : Value) (vs : List Value) (base n l : ℕ) (ns ls : List ℕ) → AreWeighted (v ∷ vs) base (n ∷ ns) (l ∷ ls) → AreWeighted vs (suc base) ns ls
  tail v vs base n l ns ls h = record {
    each = λ j lt. subst (λ (z : ℕ). get_or ls j 0 + weights z ≡ get_or ns j 0 + weights (suc z)) (let e : base + suc j ≡ suc base + j = omega arith in e) (h.each (suc j) (omega arith));
    none = λ j lt fails. subst (λ (z : ℕ). weights (suc z) ≡ weights z) (let e : base + suc j ≡ suc base + j = omega arith in e) (h.none (suc j) (omega arith) fails);
  }

  -- so values take so many more bytes
  pub have_weights : OneSize → (cs : List Spec) (vs : List Value) (ns ls : List ℕ) (base m n : ℕ) → HaveSize section cs vs ns m → HaveSize section cs vs ls n → AreWeighted vs base ns ls → n + weights base ≡ m + weights (base + length vs)
  have_weights one [] [] [] [] base m n p q h =
      let same : weights (base + 0) ≡ weights base = ap weights (add-zero base) in
      omega (arith, p, q, same)
  have_weights one [] [] (x ∷ ns) ls base m n p q h = absurd p
  have_weights one [] [] [] (y ∷ ls) base m n p q h = absurd q
  have_weights one [] (v ∷ vs) ns ls base m n p q h = absurd p
  have_weights one (c ∷ cs) [] ns ls base m n p q h = absurd p
  have_weights one (c ∷ cs) (v ∷ vs) [] ls base m n p q h = absurd p
  have_weights one (c ∷ cs) (v ∷ vs) (x ∷ ns) [] base m n p q h = absurd q
  have_weights one (c ∷ cs) (v ∷ vs) (x ∷ ns) (y ∷ ls) base m n (pf, pr, psized, pmore, pis) (qf, qr, qsized, qmore, qis) h =
      let more : qr + weights (suc base) ≡ pr + weights (suc base + length vs) = have_weights one cs vs ns ls (suc base) pr qr pmore qmore (tail v vs base x y ns ls h) in
      let end : weights (suc base + length vs) ≡ weights (base + length (v ∷ vs)) = ap weights (let e : suc base + length vs ≡ base + suc (length vs) = omega arith in e) in
      let own : y + weights base ≡ x + weights (suc base) = subst (λ (z : ℕ). y + weights z ≡ x + weights (suc z)) (add-zero base) (h.each 0 (omega arith)) in
      elim (cases_Bool (has_len (meant_in section v))) [
        | inl has ↦
            let bare : pf ≡ x = size_len c (meant_in section v) x pf has psized in
            let full : qf ≡ y = size_len c (meant_in section v) y qf has qsized in
            omega (arith, more, end, own, bare, full, pis, qis)
        | inr fails ↦
            let nothing : weights (suc base) ≡ weights base = subst (λ (z : ℕ). weights (suc z) ≡ weights z) (add-zero base) (h.none 0 (omega arith) fails) in
            let same : y ≡ x = omega (arith, own, nothing) in
            let first : pf ≡ qf = one c (meant_in section v) x pf qf psized (subst (λ (z : ℕ). HasSize c (meant_in section v) z qf) same qsized) in
            omega (arith, more, end, nothing, first, pis, qis)
      ]

module _ (f : Arena) (valued : HaveValues f.entries (length f.values)) where
  -- the values of an entry are those behind the values of the entries before it
  pub first_is : (id : ℕ) → id < length f.entries → (entry_at f.entries id).first ≡ values_before f id
  first_is zero inside = valued.first inside
  first_is (suc id) inside =
      let before : (entry_at f.entries id).first ≡ values_before f id = first_is id (omega arith) in
      let here : (entry_at f.entries (id + 1)).first ≡ (entry_at f.entries id).first + (entry_at f.entries id).count = valued.adjacent id (omega arith) in
      ap (λ (z : ℕ). (entry_at f.entries z).first) (sym (add-one id)) ∙ here ∙ ap (λ (z : ℕ). z + (entry_at f.entries id).count) before

  pub before_inside : (id : ℕ) → id ≤ length f.entries → values_before f id ≤ length f.values
  before_inside zero inside = omega arith
  before_inside (suc id) inside =
      let first : (entry_at f.entries id).first ≡ values_before f id = first_is id (omega arith) in
      let all : (entry_at f.entries id).first + (entry_at f.entries id).count ≤ length f.values = valued.inside id (omega arith) in
      omega arith

  pub before_rises : (id more : ℕ) → values_before f id ≤ values_before f (id + more)
  before_rises id zero = subst (λ (z : ℕ). values_before f id ≤ values_before f z) (sym (add-zero id)) (omega arith)
  before_rises id (suc more) =
      let up = before_rises id more in
      let e : suc (id + more) ≡ id + suc more = omega arith in
      subst (λ (z : ℕ). values_before f id ≤ values_before f z) e (omega (arith, up))

-- the sizes of the slots of so many values
abbrev pub weight : Arena → (ℕ → List Operation) → List ℕ → ℕ → ℕ
weight f ops sizes k = sum (take (slots_before f ops k) sizes)

-- to each number the sizes of the value's slots are added
pub record AreAdded (f : Arena) (ops : ℕ → List Operation) (sizes bare lens : List ℕ) : Type 0 where
  pub each : (k : ℕ) → k < length f.values → get_or lens k 0 + weight f ops sizes k ≡ get_or bare k 0 + weight f ops sizes (suc k)
  pub none : (k : ℕ) → k < length f.values → has_len (meaning_at f k) ≡ false → weight f ops sizes (suc k) ≡ weight f ops sizes k

pub are_added : (f : Arena) (ops : ℕ → List Operation) (sizes bare lens : List ℕ) → ((k : ℕ) → k < length f.values → get_or bare k 0 ≡ fixed_length (ops k)) → AreLensUnder f ops sizes lens → AreAdded f ops sizes bare lens
are_added f ops sizes bare lens fixed under = record {
  each = λ k lt.
      let own : get_or lens k 0 ≡ fixed_length (ops k) + sum (slice_range sizes (slots_before f ops k) (slots_before f ops (suc k))) = under.each k lt in
      let first : get_or bare k 0 ≡ fixed_length (ops k) = fixed k lt in
      let more : weight f ops sizes (suc k) ≡ weight f ops sizes k + sum (slice_range sizes (slots_before f ops k) (slots_before f ops (suc k))) = sum_range sizes (slots_before f ops k) (slots_before f ops (suc k)) (slots_rise f ops k) in
      omega arith;
  none = λ k lt fails. ap (λ (z : ℕ). sum (take z sizes)) (slots_none f ops k fails);
}

module _ (f : Arena) (valued : HaveValues f.entries (length f.values)) (ops : ℕ → List Operation) (bare sizes lens : List ℕ) (added : AreAdded f ops sizes bare lens) where
  weighted : (id : ℕ) → id < length f.entries → AreWeighted f.section (weight f ops sizes) (values_in f id) (entry_at f.entries id).first (among_values f bare id) (among_values f lens id)
  weighted id inside = record {
    each = λ j lt.
        let here : get_or lens (first + j) 0 + weight f ops sizes (first + j) ≡ get_or bare (first + j) 0 + weight f ops sizes (suc (first + j)) = added.each (first + j) (there j lt) in
        let long : get_or (among_values f lens id) j 0 ≡ get_or lens (first + j) 0 = own lens j (below j lt) in
        let short : get_or (among_values f bare id) j 0 ≡ get_or bare (first + j) 0 = own bare j (below j lt) in
        omega arith;
    none = λ j lt fails. added.none (first + j) (there j lt) (ap (λ (v : Value). has_len (meant_in f.section v)) (sym (value_is j lt)) ∙ fails);
  }
    where
      first : ℕ
      first = (entry_at f.entries id).first

      count : ℕ
      count = (entry_at f.entries id).count

      below : (j : ℕ) → j < length (values_in f id) → j < count
      below j lt =
          let all : first + count ≤ length f.values = valued.inside id inside in
          let rest : length (drop first f.values) ≡ length f.values - first = length-drop first f.values in
          let size : length (take count (drop first f.values)) ≡ count = length-take-le count (drop first f.values) (omega arith) in
          omega arith

      there : (j : ℕ) → j < length (values_in f id) → first + j < length f.values
      there j lt =
          let less : j < count = below j lt in
          let all : first + count ≤ length f.values = valued.inside id inside in
          omega arith

      own : (xs : List ℕ) (j : ℕ) → j < count → get_or (take count (drop first xs)) j 0 ≡ get_or xs (first + j) 0
      own xs j less = get_or-take count (drop first xs) j 0 less ∙ get_or-drop first xs j 0

      value_is : (j : ℕ) → j < length (values_in f id) → value_at (values_in f id) j ≡ value_at f.values (first + j)
      value_is j lt = get_or-take count (drop first f.values) j (value.Addr 0) (below j lt) ∙ get_or-drop first f.values j (value.Addr 0)

  -- so an entry takes so many more bytes
  pub entry_weights : OneSize → (table : Listing) (columns : List Spec) (numbers : List ℕ) (id m n : ℕ) → id < length f.entries → EntrySize table columns numbers f bare id m → EntrySize table columns numbers f lens id n → n + weight f ops sizes (values_before f id) ≡ m + weight f ops sizes (values_before f (suc id))
  entry_weights one table columns numbers id m n inside (p, psized, pis) (q, qsized, qis) =
      let first : ℕ = (entry_at f.entries id).first in
      let count : ℕ = (entry_at f.entries id).count in
      let all : first + count ≤ length f.values = valued.inside id inside in
      let left : length (drop first f.values) ≡ length f.values - first = length-drop first f.values in
      let size : length (values_in f id) ≡ count = length-take-le count (drop first f.values) (omega arith) in
      let rest : q + weight f ops sizes first ≡ p + weight f ops sizes (first + length (values_in f id)) = have_weights f.section (weight f ops sizes) one (columns_of table columns (entry_at f.entries id).decl) (values_in f id) (among_values f bare id) (among_values f lens id) first p q psized qsized (weighted id inside) in
      let before : first ≡ values_before f id = first_is f valued id inside in
      let start : weight f ops sizes first ≡ weight f ops sizes (values_before f id) = ap (weight f ops sizes) before in
      let end : weight f ops sizes (first + length (values_in f id)) ≡ weight f ops sizes (values_before f (suc id)) = ap (weight f ops sizes) (let e : first + length (values_in f id) ≡ values_before f id + count = omega arith in e) in
      omega (arith, rest, start, end, pis, qis)
