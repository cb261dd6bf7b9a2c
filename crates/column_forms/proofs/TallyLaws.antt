-- What is held of all forms of a column.
use Rattle.std.proofs.Common.{◌≡◌, ◌≢◌, ◌≤◌, ◌<◌, ◌+◌, ◌*◌, ◌^◌, ℕ, zero, suc, List, [], ◌∷◌, ◌++◌, length, get_or, ◌∙◌, sym, ap, refl, subst, arith, inl, inr}
use Rattle.std.specs.Prelude.{slice_set, Contains, ℤ, pos, FitsSigned, true, false}
use Rattle.std.specs.Int.{w64}
use Rattle.std.proofs.lemmas.Bool.{cases_lt}
use Rattle.std.proofs.lemmas.List.{length-append, map-append}
use Rattle.std.proofs.lemmas.List.Elements.{Contains-append_cases}
use Rattle.form_codec.specs.declared.value.Value.{Value}
use Rattle.form_codec.specs.declared.form.Form.{Form}
use Rattle.form_codec.specs.declared.form.Shape.{Shape}
use Rattle.form_codec.specs.declared.form.Shape.TheVariants.{Constant}
use Rattle.form_codec.specs.Written.{HasConstant, HasNoEncoding, IsShapeSize}
use Rattle.form_codec.specs.Forms.{Meaning, SpellsValue, code_of, shape_of, is_written, counted}
use Rattle.form_codec.specs.Forms.Meaning.{Whole}
use Rattle.form_codec.specs.Values.{meant_in}
use Rattle.form_codec.proofs.FormLaws.{constant_spelled, constant_held}
use Rattle.abbrev_tables.specs.Tables.{implicit_const}
use Rattle.column_forms.specs.declared.tally.Candidate.{Candidate}
use Rattle.form_codec.specs.Columns.{IsChoice}
use Rattle.column_forms.specs.Tallies.{IsSummed, IsHeldForm, AreTallied, AreBounded, IsHere, IsTally, IsShaped, AreShaped, candidate_at, meanings_in}
use Rattle.column_forms.specs.inside.Tallies.{CanSpell, HasCodesFor, IsValueSize, HaveRoom, AreFound, AreAdded, IsNext, IsFirst, HaveConstants}
use Rattle.column_forms.proofs.Sums.{with_constant, entries_before, shaped_none, shaped_size}

-- the one code of a list
only_one : (code other : ℕ) → Contains (code ∷ []) other → code ≡ other
only_one code other (zero, lt, e) = e
only_one code other (suc k, lt, e) = absurd (omega arith)

-- one more code was tried, whose form doesn't spell the value
pub found_out : (name : ℕ) (c : ℤ) (v : Value) (code : ℕ) (cs : List Candidate) → ((section : List ℕ) → IsHere section v → CanSpell name code c (meant_in section v) → ⊥) → (codes : List ℕ) → AreFound name c v (Contains codes) cs → AreFound name c v (Contains (codes ++ code ∷ [])) cs
found_out name c v code cs none codes f = record {
  bounded = f.bounded;
  shaped = f.shaped;
  summed = f.summed;
  full = λ section other h tried s.
      elim (Contains-append_cases codes (code ∷ []) other tried) [
        | inl before ↦ f.full section other h before s
        | inr last ↦ absurd (none section h (subst (λ (z : ℕ). CanSpell name z c (meant_in section v)) (sym (only_one code other last)) s))
      ];
}

candidate_before : (cs : List Candidate) (x : Candidate) (k : ℕ) → k < length cs → candidate_at (cs ++ x ∷ []) k ≡ candidate_at cs k
candidate_before [] x k lt = absurd (omega arith)
candidate_before (y ∷ ys) x zero lt = refl
candidate_before (y ∷ ys) x (suc k) lt = candidate_before ys x k (omega arith)

candidate_last : (cs : List Candidate) (x : Candidate) → candidate_at (cs ++ x ∷ []) (length cs) ≡ x
candidate_last [] x = refl
candidate_last (y ∷ ys) x = candidate_last ys x

one_summed : (name : ℕ) (c : ℤ) (m : Meaning) (x : Candidate) → x.admits ≡ true → IsValueSize name x.form c m x.size → IsSummed name c (m ∷ []) x
one_summed name c m x admits v = record {
  sized = λ is. record {
    choice = v.spells.choice;
    enough = (v.spells.bytes, 0, v.spells.spelled, tt, omega (arith, v.exact));
    least = λ other n w. let le : x.size ≤ counted m (length w.0) = v.least other w.0 w.2 in omega (arith, w.4);
  };
  out = λ never. absurd (cc (never, admits));
}

-- a form whose shape doesn't spell a first value
pub first_none : (name code : ℕ) (c : ℤ) (v : Value) (form : Form) (shape : Shape) → code_of form ≡ code → is_written form ≡ true → shape ≡ shape_of form name c → HasNoEncoding shape v → (section : List ℕ) → IsHere section v → CanSpell name code c (meant_in section v) → ⊥
first_none name code c v form shape known written same none section h s =
    shaped_none name c (record { form = code; shape = shape; size = 0; admits = false }) v section (form, known, written, same) none h s

-- and one whose shape does
pub first_some : (name code : ℕ) (c : ℤ) (v : Value) (form : Form) (shape : Shape) (size : ℕ) → code_of form ≡ code → is_written form ≡ true → shape ≡ shape_of form name c → IsShapeSize shape v size → IsFirst name code c v (record { form = code; shape = shape; size = size; admits = true })
first_some name code c v form shape size known written same sized = record {
  form = refl;
  shaped = (form, known, written, same);
  few = sized.fits;
  admits = refl;
  sized = λ section h. shaped_size name c (record { form = code; shape = shape; size = size; admits = true }) v size section (form, known, written, same) sized h;
}

-- of one more at the end of a list
each_more : (P : Candidate → Type 0) (cs : List Candidate) (x : Candidate) → ((k : ℕ) → k < length cs → P (candidate_at cs k)) → P x → (k : ℕ) → k < length (cs ++ x ∷ []) → P (candidate_at (cs ++ x ∷ []) k)
each_more P cs x each here k lt =
    let size : length (cs ++ x ∷ []) ≡ length cs + 1 = length-append cs (x ∷ []) in
    elim (cases_lt k (length cs)) [
      | inl less ↦ subst P (sym (candidate_before cs x k less)) (each k less)
      | inr more ↦
          let e : length cs ≡ k = omega arith in
          subst (λ (z : ℕ). P (candidate_at (cs ++ x ∷ []) z)) e (subst P (sym (candidate_last cs x)) here)
    ]

held_before : (cs : List Candidate) (x : Candidate) (code : ℕ) → IsHeldForm cs code → IsHeldForm (cs ++ x ∷ []) code
held_before cs x code (k, lt, e) =
    let size : length (cs ++ x ∷ []) ≡ length cs + 1 = length-append cs (x ∷ []) in
    (k, omega arith, ap (λ (z : Candidate). z.form) (candidate_before cs x k lt) ∙ e)

held_last : (cs : List Candidate) (x : Candidate) → IsHeldForm (cs ++ x ∷ []) x.form
held_last cs x =
    let size : length (cs ++ x ∷ []) ≡ length cs + 1 = length-append cs (x ∷ []) in
    (length cs, omega arith, ap (λ (z : Candidate). z.form) (candidate_last cs x))

-- one more code was tried, whose form spells the value
pub found_more : (name : ℕ) (c : ℤ) (v : Value) (code : ℕ) (x : Candidate) (cs : List Candidate) → IsFirst name code c v x → (codes : List ℕ) → AreFound name c v (Contains codes) cs → AreFound name c v (Contains (codes ++ code ∷ [])) (cs ++ x ∷ [])
found_more name c v code x cs first codes f = record {
  bounded = each_more (λ z. z.size ≤ 1 * 2 ^ 64) cs x f.bounded (omega (arith, first.few));
  shaped = each_more (λ z. IsShaped name c z) cs x f.shaped first.shaped;
  summed = λ section h. each_more (λ z. IsSummed name c (meant_in section v ∷ []) z) cs x (f.summed section h) (one_summed name c (meant_in section v) x first.admits (subst (λ (z : ℕ). IsValueSize name z c (meant_in section v) x.size) (sym first.form) (first.sized section h)));
  full = λ section other h tried s.
      elim (Contains-append_cases codes (code ∷ []) other tried) [
        | inl before ↦ held_before cs x other (f.full section other h before s)
        | inr last ↦ subst (λ (z : ℕ). IsHeldForm (cs ++ x ∷ []) z) (first.form ∙ only_one code other last) (held_last cs x)
      ];
}

-- where each code was tried that the value can have, each form was that can be chosen
pub found_all : (name : ℕ) (c : ℤ) (v : Value) (codes : List ℕ) (cs : List Candidate) → HasCodesFor v codes → AreFound name c v (Contains codes) cs → AreFound name c v IsChoice cs
found_all name c v codes cs whole f = record {
  bounded = f.bounded;
  shaped = f.shaped;
  summed = f.summed;
  full = λ section code h choice s. f.full section code h (whole section name code c s) s;
}

-- the tally of one value
pub tally_one : (name : ℕ) (section : List ℕ) (v : Value) (c : ℤ) (cs : List Candidate) → ((section : List ℕ) (w : ℤ) → FitsSigned w64 w → meant_in section v ≡ Whole w → w ≡ c) → AreFound name c v IsChoice cs → IsHere section v → IsTally section (v ∷ []) (record { name = name; candidates = cs; constant = c; count = 1 })
tally_one name section v c cs same f h = record {
  count = refl;
  tallied = record {
    summed = f.summed section h;
    full = λ code other n choice w.
        f.full section code h choice (record { choice = choice; bytes = w.0; spelled = with_constant name code other c (meant_in section v) w.0 (λ is. constant_here other w.0 (subst (λ (z : ℕ). SpellsValue name z other (meant_in section v) w.0) is w.2)) w.2 });
    only = λ other n w. constant_here other w.0 w.2;
  };
}
  where
    constant_here : (other : ℤ) (bytes : List ℕ) → SpellsValue name implicit_const other (meant_in section v) bytes → other ≡ c
    constant_here other bytes s = let p = constant_spelled name other (meant_in section v) bytes s in same section other p.1 p.2

pub added_none : (name : ℕ) (v : Value) (cs : List Candidate) → AreAdded name v cs 0 cs
added_none name v cs = record { same = refl; next = λ k lt inside. absurd (omega arith); left = λ k le. refl }

pub added_more : (name : ℕ) (v : Value) (old cs : List Candidate) (i : ℕ) (x : Candidate) → i < length old → AreAdded name v old i cs → IsNext name v (candidate_at cs i) x → AreAdded name v old (i + 1) (slice_set cs i x)
added_more name v old cs i x inside a n =
    let here : i < length cs = omega (arith, a.same) in
    record {
      same = length_set cs i x ∙ a.same;
      next = λ k lt in_old.
          elim (cases_lt k i) [
            | inl less ↦ subst (λ (z : Candidate). IsNext name v (candidate_at old k) z) (sym (set_apart cs i x k (omega arith))) (a.next k less in_old)
            | inr more ↦
                let e : i ≡ k = omega arith in
                subst (λ (z : ℕ). IsNext name v (candidate_at old z) (candidate_at (slice_set cs i x) z)) e (subst (λ (z : Candidate). IsNext name v (candidate_at old i) z) (sym (set_here cs i x here)) (subst (λ (z : Candidate). IsNext name v z x) (a.left i (omega arith)) n))
          ];
      left = λ k le. set_apart cs i x k (omega arith) ∙ a.left k (omega arith);
    }
  where
    length_set : (cs : List Candidate) (i : ℕ) (x : Candidate) → length (slice_set cs i x) ≡ length cs
    length_set [] i x = refl
    length_set (y ∷ ys) zero x = refl
    length_set (y ∷ ys) (suc i) x = ap (λ z. suc z) (length_set ys i x)

    set_here : (cs : List Candidate) (i : ℕ) (x : Candidate) → i < length cs → candidate_at (slice_set cs i x) i ≡ x
    set_here [] i x lt = absurd (omega arith)
    set_here (y ∷ ys) zero x lt = refl
    set_here (y ∷ ys) (suc i) x lt = set_here ys i x (omega arith)

    set_apart : (cs : List Candidate) (i : ℕ) (x : Candidate) (k : ℕ) → k ≢ i → candidate_at (slice_set cs i x) k ≡ candidate_at cs k
    set_apart [] i x k other = refl
    set_apart (y ∷ ys) zero x zero other = absurd (other refl)
    set_apart (y ∷ ys) zero x (suc k) other = refl
    set_apart (y ∷ ys) (suc i) x zero other = refl
    set_apart (y ∷ ys) (suc i) x (suc k) other = set_apart ys i x k (λ e. other (ap (λ z. suc z) e))

-- the tally of one more value
pub tally_more : (name : ℕ) (section : List ℕ) (v : Value) (c : ℤ) (count : ℕ) (values : List Value) (old new : List Candidate) → AreAdded name v old (length old) new → AreShaped name c old → IsHere section v → IsTally section values (record { name = name; candidates = old; constant = c; count = count }) → IsTally section (values ++ v ∷ []) (record { name = name; candidates = new; constant = c; count = count + 1 })
tally_more name section v c count values old new a shaped h t =
    let ms : List Meaning = meanings_in section values in
    let m : Meaning = meant_in section v in
    let more : meanings_in section (values ++ v ∷ []) ≡ ms ++ m ∷ [] = map-append (meant_in section) values (v ∷ []) in
    let size : length (values ++ v ∷ []) ≡ length values + 1 = length-append values (v ∷ []) in
    record {
      count = ap (λ z. z + 1) t.count ∙ sym size;
      tallied = subst (λ (z : List Meaning). AreTallied name z new c) (sym more) (record {
        summed = λ k lt.
            let inside : k < length old = omega (arith, a.same) in
            (a.next k inside inside).summed c section ms (shaped k inside) h t.tallied.only (t.tallied.summed k inside);
        full = λ code other n choice w.
            let b = entries_before name code other ms m n w in
            let held = t.tallied.full code other b.0 choice b.1 in
            (held.0, omega (arith, held.1, a.same), (a.next held.0 held.1 held.1).form ∙ held.2);
        only = λ other n w. let b = entries_before name implicit_const other ms m n w in t.tallied.only other b.0 b.1;
      });
    }

-- the candidates keep their forms and shapes
pub added_shaped : (name : ℕ) (c : ℤ) (v : Value) (old new : List Candidate) → AreAdded name v old (length old) new → AreShaped name c old → AreShaped name c new
added_shaped name c v old new a shaped k lt =
    let inside : k < length old = omega (arith, a.same) in
    let next = a.next k inside inside in
    let s = shaped k inside in
    (s.0, s.1 ∙ sym next.form, s.2, next.shape ∙ s.3)

pub added_bounded : (name : ℕ) (v : Value) (count : ℕ) (old new : List Candidate) → AreAdded name v old (length old) new → AreBounded old count → AreBounded new (count + 1)
added_bounded name v count old new a b k lt =
    let inside : k < length old = omega (arith, a.same) in
    let le : (candidate_at old k).size ≤ count * 2 ^ 64 = b k inside in
    omega (arith, (a.next k inside inside).few)

-- an element that is the same whatever stands for one past the end
pub index_at : (cs : List Candidate) (i : ℕ) (x : Candidate) → i < length cs → x ≡ get_or cs i x → x ≡ candidate_at cs i
index_at [] i x lt e = absurd (omega arith)
index_at (y ∷ ys) zero x lt e = e
index_at (y ∷ ys) (suc i) x lt e = index_at ys i x (omega arith) e

pub added_room : (name : ℕ) (v : Value) (old cs : List Candidate) (i : ℕ) (x : Candidate) → i < length old → AreAdded name v old i cs → x ≡ get_or cs i x → HaveRoom old → x.size + 2 ^ 64 < 2 ^ 128
added_room name v old cs i x inside a e room =
    let here : x ≡ candidate_at old i = index_at cs i x (omega (arith, a.same)) e ∙ a.left i (omega arith) in
    subst (λ (z : Candidate). z.size + 2 ^ 64 < 2 ^ 128) (sym here) (room i inside)

pub added_all : (name : ℕ) (v : Value) (old cs : List Candidate) (i : ℕ) → length old ≤ i → AreAdded name v old i cs → AreAdded name v old (length old) cs
added_all name v old cs i all a = record {
  same = a.same;
  next = λ k lt inside. a.next k (omega arith) inside;
  left = λ k le. past (candidate_past cs k (omega (arith, a.same))) (candidate_past old k le);
}
  where
    candidate_past : (cs : List Candidate) (k : ℕ) → length cs ≤ k → candidate_at cs k ≡ record { form = 0; shape = Constant (pos 0); size = 0; admits = false }
    candidate_past [] k le = refl
    candidate_past (y ∷ ys) zero le = absurd (omega arith)
    candidate_past (y ∷ ys) (suc k) le = candidate_past ys k (omega arith)

    past : {x y z : Candidate} → x ≡ z → y ≡ z → x ≡ y
    past p q = p ∙ sym q

-- counts that fit leave room for one more value
pub bounded_room : (cs : List Candidate) (count : ℕ) → AreBounded cs count → count < 2 ^ 63 → HaveRoom cs
bounded_room cs count b few k lt = let le : (candidate_at cs k).size ≤ count * 2 ^ 64 = b k lt in omega arith

-- constants that fit are those of the shapes
pub shaped_constants : (name : ℕ) (c : ℤ) (cs : List Candidate) → FitsSigned w64 c → AreShaped name c cs → HaveConstants cs
shaped_constants name c cs fits shaped k lt =
    let s = shaped k lt in
    subst (λ (z : Shape). HasConstant z) (sym s.3) (constant_held name s.0 c fits)

pub added_constant : (name : ℕ) (v : Value) (old cs : List Candidate) (i : ℕ) (x : Candidate) → i < length old → AreAdded name v old i cs → x ≡ get_or cs i x → HaveConstants old → HasConstant x.shape
added_constant name v old cs i x inside a e constants =
    let here : x ≡ candidate_at old i = index_at cs i x (omega (arith, a.same)) e ∙ a.left i (omega arith) in
    subst (λ (z : Candidate). HasConstant z.shape) (sym here) (constants i inside)
