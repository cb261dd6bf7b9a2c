use Rattle.std.proofs.Common.{◌≡◌, ◌≤◌, ◌<◌, ◌+◌, ℕ, List, length, sym, ap, ◌∙◌, subst, arith, inl, inr, below_more}
use Rattle.std.specs.Int.{w64}
use Rattle.std.specs.Prelude.{ℤ, FitsSigned, Option, None, Some}
use Rattle.std.proofs.lemmas.Int.{to_z-of_z}
use Rattle.dw_base.specs.declared.classes.Classes.{Classes}
use Rattle.form_codec.specs.Columns.{ComesFirst}
use Rattle.column_forms.specs.declared.tally.Candidate.{Candidate}
use Rattle.column_forms.specs.declared.choice.Choice.{Choice}
use Rattle.column_forms.specs.Tallies.{candidate_at}
use Rattle.column_forms.specs.inside.Choices.{IsOpen, IsBestOf, IsBest, IsBetter, bytes_of}
use Rattle.column_forms.proofs.choice.best_of.Goals.{then-candidates-i+then-not-is_passed_over, else-candidates-i, else-candidates-i-via-then-candidates-i+else-not-is_passed_over, else-candidates-i-via-else-candidates-i}
use Rattle.column_forms.proofs.choice.best_of.Goals as goal

-- one more candidate, which can't be chosen
best_kept : (classes : Classes) (name : ℕ) (cs : List Candidate) (c : ℤ) (input i : ℕ) (best : Option Choice) → (IsOpen classes name cs (candidate_at cs i) → ⊥) → IsBest classes name cs c input i best → IsBest classes name cs c input (i + 1) best
best_kept classes name cs c input i None shut b = below_more (λ k. IsOpen classes name cs (candidate_at cs k) → ⊥) i b shut
best_kept classes name cs c input i (Some choice) shut b = record {
  number = b.number;
  inside = omega (arith, b.inside);
  is_open = b.is_open;
  form = b.form;
  bytes = b.bytes;
  least = below_more (λ k. IsOpen classes name cs (candidate_at cs k) → choice.bytes ≤ bytes_of c (candidate_at cs k)) i b.least (λ o. absurd (shut o));
  first = below_more (λ k. IsOpen classes name cs (candidate_at cs k) → choice.bytes ≡ bytes_of c (candidate_at cs k) → ComesFirst input choice.form (candidate_at cs k).form) i b.first (λ o. absurd (shut o));
}

first_chain : (input x y z : ℕ) → ComesFirst input x y → ComesFirst input y z → ComesFirst input x z
first_chain input x y z (inl own) b = inl own
first_chain input x y z (inr (apart, le)) (inl own) = absurd (apart own)
first_chain input x y z (inr (apart, le)) (inr (others, more)) = inr (others, omega arith)

-- one more candidate, which can be chosen and is compared with the best one before it
best_taken : (classes : Classes) (name : ℕ) (cs : List Candidate) (c : ℤ) (input i : ℕ) (best : Option Choice) (other result : Choice) → IsOpen classes name cs (candidate_at cs i) → other.form ≡ (candidate_at cs i).form → other.bytes ≡ bytes_of c (candidate_at cs i) → IsBetter input best other result → IsBest classes name cs c input i best → IsBest classes name cs c input (i + 1) (Some result)
best_taken classes name cs c input i best other result o form bytes better b = whole best better b
  where
    Least : ℕ → Type 0
    Least k = IsOpen classes name cs (candidate_at cs k) → result.bytes ≤ bytes_of c (candidate_at cs k)

    First : ℕ → Type 0
    First k = IsOpen classes name cs (candidate_at cs k) → result.bytes ≡ bytes_of c (candidate_at cs k) → ComesFirst input result.form (candidate_at cs k).form

    last_least : (best : Option Choice) → IsBetter input best other result → Least i
    last_least best w = λ _. omega (arith, w.least_other)

    last_first : (best : Option Choice) → IsBetter input best other result → First i
    last_first best w = λ _ e. subst (λ (z : ℕ). ComesFirst input result.form z) form (w.first_other (e ∙ sym bytes))

    taken : (best : Option Choice) → IsBetter input best other result → ((k : ℕ) → k < i → Least k) → ((k : ℕ) → k < i → First k) → result ≡ other → IsBestOf classes name cs c input (i + 1) result
    taken best w least first e = record {
      number = i;
      inside = omega arith;
      is_open = o;
      form = ap (λ z. z.form) e ∙ form;
      bytes = ap (λ z. z.bytes) e ∙ bytes;
      least = below_more Least i least (last_least best w);
      first = below_more First i first (last_first best w);
    }

    earlier_least : (choice : Choice) → IsBetter input (Some choice) other result → IsBestOf classes name cs c input i choice → (k : ℕ) → k < i → Least k
    earlier_least choice w b k lt open_k = omega (arith, w.least_best, b.least k lt open_k)

    earlier_first : (choice : Choice) → IsBetter input (Some choice) other result → IsBestOf classes name cs c input i choice → (k : ℕ) → k < i → First k
    earlier_first choice w b k lt open_k e =
        let few : result.bytes ≤ choice.bytes = w.least_best in
        let least : choice.bytes ≤ bytes_of c (candidate_at cs k) = b.least k lt open_k in
        let same : result.bytes ≡ choice.bytes = omega arith in
        first_chain input result.form choice.form (candidate_at cs k).form (w.first_best same) (b.first k lt open_k (omega arith))

    whole : (best : Option Choice) → IsBetter input best other result → IsBest classes name cs c input i best → IsBestOf classes name cs c input (i + 1) result
    whole None w b = elim w.which [
      | inl e ↦ taken None w (λ k lt open_k. absurd (b k lt open_k)) (λ k lt open_k. absurd (b k lt open_k)) e
      | inr never ↦ absurd (cc (never))
    ]
    whole (Some choice) w b = elim w.which [
      | inl e ↦ taken (Some choice) w (earlier_least choice w b) (earlier_first choice w b) e
      | inr e ↦
          let same : result ≡ choice = cc (e) in
          record {
            number = b.number;
            inside = omega (arith, b.inside);
            is_open = b.is_open;
            form = ap (λ z. z.form) same ∙ b.form;
            bytes = ap (λ z. z.bytes) same ∙ b.bytes;
            least = below_more Least i (earlier_least choice w b) (last_least (Some choice) w);
            first = below_more First i (earlier_first choice w b) (last_first (Some choice) w);
          }
    ]

pub loop-i-preserved : goal.loop-i-preserved
loop-i-preserved c =
    let fits : FitsSigned w64 c.args.constant = c.ranges.constant in
    let before = simp to_z-of_z at c.loop-i.invariant in
    let classes : Classes = c.args.classes in
    let name : ℕ = c.args.name in
    let cs : List Candidate = c.args.candidates.now in
    let i : ℕ = c.loop-i.i in
    let told = c.admits_unsigned-unsigned.ensures in
    rw to_z-of_z (elim c.if-candidates-i.branch [
      | then-candidates-i+then-not-is_passed_over w ↦
          let o : IsOpen classes name cs (candidate_at cs i) = record {
            admits = w.if-candidates-i.true;
            had = λ passed. let is = (w.is_passed_over.ensures cs told).1 passed in absurd (cc (is, w.if-not-is_passed_over.true));
          } in
          let bytes = simp to_z-of_z at w.choice_of.ensures.bytes in
          subst (λ (z : Option Choice). IsBest classes name cs c.args.constant c.args.input (i + 1) z) (sym w.best-is) (best_taken classes name cs c.args.constant c.args.input i c.loop-i.best w.choice_of.result w.better.result o w.choice_of.ensures.form bytes w.better.ensures before)
      | else-candidates-i w ↦
          let shut : IsOpen classes name cs (candidate_at cs i) → ⊥ = λ o. elim w.else-candidates-i.branch [
            | else-candidates-i-via-then-candidates-i+else-not-is_passed_over v ↦ o.had ((v.is_passed_over.ensures cs told).0 v.if-not-is_passed_over.false)
            | else-candidates-i-via-else-candidates-i v ↦ absurd (cc (o.admits, v.if-candidates-i.false))
          ] in
          subst (λ (z : Option Choice). IsBest classes name cs c.args.constant c.args.input (i + 1) z) (sym w.best-is) (best_kept classes name cs c.args.constant c.args.input i c.loop-i.best shut before)
    ])

pub returns : goal.returns
returns c =
    let fits : FitsSigned w64 c.args.constant = c.ranges.constant in
    let best = simp to_z-of_z at c.loop-i.invariant in
    let e : c.loop-i.i ≡ length c.args.candidates.now = omega (arith, c.loop-i-test.false, c.loop-i.auto.i-end) in
    subst (λ (z : ℕ). IsBest c.args.classes c.args.name c.args.candidates.now c.args.constant c.args.input z c.loop-i.best) e best
