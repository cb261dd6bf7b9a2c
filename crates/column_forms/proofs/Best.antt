-- The least form of a column, from what is held of all forms.
use Rattle.std.proofs.Common.{◌≡◌, ◌≢◌, ◌≤◌, ◌<◌, ◌+◌, ◌*◌, ◌^◌, ℕ, List, [], ◌∷◌, length, sym, ap, refl, subst, arith, inl, inr}
use Rattle.std.specs.Prelude.{ℤ, pos, ◌⊎◌, ◌↔◌, Bool, true, false}
use Rattle.dw_base.specs.declared.classes.Classes.{Classes}
use Rattle.form_codec.specs.declared.form.Form.TheVariants.{Udata}
use Rattle.form_codec.specs.declared.value.Value.{Value}
use Rattle.form_codec.specs.Forms.{Meaning, code_of, counted}
use Rattle.form_codec.proofs.FormLaws.{any_constant}
use Rattle.abbrev_tables.specs.Tables.{implicit_const}
use Rattle.abbrev_tables.specs.declared.decl.Spec.{Spec}
use Rattle.column_forms.specs.declared.tally.Candidate.{Candidate}
use Rattle.column_forms.specs.declared.choice.Choice.{Choice}
use Rattle.form_codec.specs.Columns.{IsChoice, EntriesWithin, AreSpelled, IsLeftOut, ColumnWithin, ComesFirst, IsLeastForm, IsFirstForm, ClassesHaveMembers, constant_bytes}
use Rattle.column_forms.specs.Columns.{IsChosen}
use Rattle.column_forms.specs.Tallies.{IsEntriesSize, AreTallied, AreBounded, IsTally, Tallying, candidate_at, meanings_in}
use Rattle.column_forms.specs.inside.Choices.{AdmitsUnsigned, IsPassedOver, IsOpen, IsBestOf, AreOut, bytes_of}
use Rattle.column_forms.proofs.Sums.{is_or_not}

-- where a form spells each value, some bytes are enough for them, and the other way round
entries_some : (name code : ℕ) (c : ℤ) (ms : List Meaning) → AreSpelled name code c ms → (n : ℕ) × EntriesWithin name code c ms n
entries_some name code c [] s = (0, tt)
entries_some name code c (m ∷ ms) ((bytes, s), more) =
    let r = entries_some name code c ms more in
    (counted m (length bytes) + r.0, (bytes, r.0, s, r.1, omega arith))

entries_spelled : (name code : ℕ) (c : ℤ) (ms : List Meaning) (n : ℕ) → EntriesWithin name code c ms n → AreSpelled name code c ms
entries_spelled name code c [] n w = tt
entries_spelled name code c (m ∷ ms) n (bytes, rest, s, w, le) = ((bytes, s), entries_spelled name code c ms rest w)

entries_constant : (name code : ℕ) (c d : ℤ) (ms : List Meaning) (n : ℕ) → code ≢ implicit_const → EntriesWithin name code c ms n → EntriesWithin name code d ms n
entries_constant name code c d [] n other w = tt
entries_constant name code c d (m ∷ ms) n other (bytes, rest, s, w, le) =
    (bytes, rest, any_constant name code c d m bytes other s, entries_constant name code c d ms rest other w, le)

-- a form that admits all values is held, and admits them
record IsIn (cs : List Candidate) (code n : ℕ) : Type 0 where
  number : ℕ
  inside : number < length cs
  form : (candidate_at cs number).form ≡ code
  admits : (candidate_at cs number).admits ≡ true
  size : (candidate_at cs number).size ≤ n

held_in : (name : ℕ) (cs : List Candidate) (c : ℤ) (ms : List Meaning) (code : ℕ) (other : ℤ) (n : ℕ) → AreTallied name ms cs c → IsChoice code → EntriesWithin name code other ms n → IsIn cs code n
held_in name cs c ms code other n t choice w =
    let h = t.full code other n choice w in
    let here : EntriesWithin name (candidate_at cs h.0).form other ms n = subst (λ (z : ℕ). EntriesWithin name z other ms n) (sym h.2) w in
    let chosen : IsChoice (candidate_at cs h.0).form = subst (λ (z : ℕ). IsChoice z) (sym h.2) choice in
    let s = t.summed h.0 h.1 in
    let is : (candidate_at cs h.0).admits ≡ true = admitted (candidate_at cs h.0).admits refl (λ never. s.out never other n chosen here) in
    record { number = h.0; inside = h.1; form = h.2; admits = is; size = (s.sized is).least other n here }
  where
    admitted : (b : Bool) → (candidate_at cs (t.full code other n choice w).0).admits ≡ b → ((candidate_at cs (t.full code other n choice w).0).admits ≡ false → ⊥) → (candidate_at cs (t.full code other n choice w).0).admits ≡ true
    admitted true e never = e
    admitted false e never = absurd (never e)

-- the candidate of udata admits all values exactly where udata spells them
unsigned_spelled : (name : ℕ) (cs : List Candidate) (c : ℤ) (ms : List Meaning) → AreTallied name ms cs c → AdmitsUnsigned cs ↔ AreSpelled name (code_of Udata) (pos 0) ms
unsigned_spelled name cs c ms t = (to, from)
  where
    to : AdmitsUnsigned cs → AreSpelled name (code_of Udata) (pos 0) ms
    to (k, inside, form, admits) =
        let size : ℕ = (candidate_at cs k).size in
        let s : IsEntriesSize name (candidate_at cs k).form c ms size = (t.summed k inside).sized admits in
        let here : EntriesWithin name (code_of Udata) c ms size = subst (λ (z : ℕ). EntriesWithin name z c ms size) form s.enough in
        entries_spelled name (code_of Udata) (pos 0) ms size (entries_constant name (code_of Udata) c (pos 0) ms size (λ e. absurd (omega arith)) here)

    from : AreSpelled name (code_of Udata) (pos 0) ms → AdmitsUnsigned cs
    from s =
        let w = entries_some name (code_of Udata) (pos 0) ms s in
        let i = held_in name cs c ms (code_of Udata) (pos 0) w.0 t (Udata, refl, refl) w.1 in
        (i.number, i.inside, i.form, i.admits)

-- the candidates tell which forms the classes leave out
left_out : (classes : Classes) (name code : ℕ) (cs : List Candidate) (c : ℤ) (ms : List Meaning) → AreTallied name ms cs c → IsPassedOver classes name cs code ↔ IsLeftOut classes name code ms
left_out classes name code cs c ms t = (to, from)
  where
    to : IsPassedOver classes name cs code → IsLeftOut classes name code ms
    to (inl index) = inl index
    to (inr (inl apart)) = inr (inl apart)
    to (inr (inr (out, form, unsigned))) = inr (inr (record { out = out; form = form; unsigned = (unsigned_spelled name cs c ms t).0 unsigned }))

    from : IsLeftOut classes name code ms → IsPassedOver classes name cs code
    from (inl index) = inl index
    from (inr (inl apart)) = inr (inl apart)
    from (inr (inr s)) = inr (inr (s.out, s.form, (unsigned_spelled name cs c ms t).1 s.unsigned))

-- of a member, a candidate that can be chosen takes no more bytes
record IsOpenAt (classes : Classes) (name : ℕ) (cs : List Candidate) (c : ℤ) (code n : ℕ) : Type 0 where
  number : ℕ
  inside : number < length cs
  form : (candidate_at cs number).form ≡ code
  is_open : IsOpen classes name cs (candidate_at cs number)
  bytes : bytes_of c (candidate_at cs number) ≤ n

column_size : (classes : Classes) (name : ℕ) (cs : List Candidate) (c : ℤ) (ms : List Meaning) (code : ℕ) (other : ℤ) (n : ℕ) → AreTallied name ms cs c → ColumnWithin classes name code other ms n → IsOpenAt classes name cs c code n
column_size classes name cs c ms code other n t w =
    let i = held_in name cs c ms code other w.entries t w.choice w.within in
    let same : constant_bytes code c ≡ constant_bytes code other = bytes_same (is_or_not code) in
    let form : constant_bytes (candidate_at cs i.number).form c ≡ constant_bytes code c = ap (λ z. constant_bytes z c) i.form in
    record {
      number = i.number;
      inside = i.inside;
      form = i.form;
      is_open = record {
        admits = i.admits;
        had = λ passed. w.member ((left_out classes name code cs c ms t).0 (subst (λ (z : ℕ). IsPassedOver classes name cs z) i.form passed));
      };
      bytes = omega (arith, i.size, w.cost);
    }
  where
    bytes_same : (code ≡ implicit_const) ⊎ (code ≢ implicit_const) → constant_bytes code c ≡ constant_bytes code other
    bytes_same (inl is) = ap (λ z. constant_bytes code z) (sym (t.only other w.entries (subst (λ (z : ℕ). EntriesWithin name z other ms w.entries) is w.within)))
    bytes_same (inr differs) = grind (arith)

pub least_form : (classes : Classes) (name : ℕ) (cs : List Candidate) (c d : ℤ) (ms : List Meaning) (input : ℕ) (choice : Choice) → AreTallied name ms cs c → IsBestOf classes name cs c input (length cs) choice → (choice.form ≡ implicit_const → d ≡ c) → IsLeastForm classes name ms choice.form d
least_form classes name cs c d ms input choice t b same = record {
  bytes = choice.bytes;
  enough = record {
    choice = subst (λ (z : ℕ). IsChoice z) (sym b.form) s.choice;
    member = λ out. b.is_open.had (subst (λ (z : ℕ). IsPassedOver classes name cs z) b.form ((left_out classes name choice.form cs c ms t).1 out));
    entries = x.size;
    within = within (is_or_not choice.form);
    cost = cost (is_or_not choice.form);
  };
  least = λ other e n w.
      let k = column_size classes name cs c ms other e n t w in
      let le : choice.bytes ≤ bytes_of c (candidate_at cs k.number) = b.least k.number k.inside k.is_open in
      omega (arith, k.bytes);
}
  where
    x : Candidate
    x = candidate_at cs b.number

    s : IsEntriesSize name x.form c ms x.size
    s = (t.summed b.number b.inside).sized b.is_open.admits

    here : EntriesWithin name choice.form c ms x.size
    here = subst (λ (z : ℕ). EntriesWithin name z c ms x.size) (sym b.form) s.enough

    within : (choice.form ≡ implicit_const) ⊎ (choice.form ≢ implicit_const) → EntriesWithin name choice.form d ms x.size
    within (inl is) = subst (λ (z : ℤ). EntriesWithin name choice.form z ms x.size) (sym (same is)) here
    within (inr other) = entries_constant name choice.form c d ms x.size other here

    cost : (choice.form ≡ implicit_const) ⊎ (choice.form ≢ implicit_const) → x.size + constant_bytes choice.form d ≤ choice.bytes
    cost (inl is) =
        let e : constant_bytes choice.form d ≡ constant_bytes choice.form c = ap (λ z. constant_bytes choice.form z) (same is) in
        let f : constant_bytes choice.form c ≡ constant_bytes x.form c = ap (λ z. constant_bytes z c) b.form in
        omega (arith, b.bytes)
    cost (inr other) =
        let e : constant_bytes choice.form d ≡ constant_bytes choice.form c = grind (arith) in
        let f : constant_bytes choice.form c ≡ constant_bytes x.form c = ap (λ z. constant_bytes z c) b.form in
        omega (arith, b.bytes)

-- and of the least forms it comes first
pub first_form : (classes : Classes) (name : ℕ) (cs : List Candidate) (c d : ℤ) (ms : List Meaning) (input : ℕ) (choice : Choice) → AreTallied name ms cs c → IsBestOf classes name cs c input (length cs) choice → (choice.form ≡ implicit_const → d ≡ c) → IsFirstForm classes name input ms choice.form
unfolding least_form
first_form classes name cs c d ms input choice t b same = λ other e least.
    let enough = (least_form classes name cs c d ms input choice t b same).enough in
    let few : least.bytes ≤ choice.bytes = least.least choice.form d choice.bytes enough in
    let k = column_size classes name cs c ms other e least.bytes t least.enough in
    let le : choice.bytes ≤ bytes_of c (candidate_at cs k.number) = b.least k.number k.inside k.is_open in
    let at : choice.bytes ≡ bytes_of c (candidate_at cs k.number) = omega (arith, k.bytes) in
    subst (λ (z : ℕ). ComesFirst input choice.form z) k.form (b.first k.number k.inside k.is_open at)

-- sums that are held fit, with a constant too
pub room_left : (cs ds : List Candidate) (count : ℕ) → ds ≡ cs → AreBounded cs count → count ≤ 2 ^ 63 → (k : ℕ) → k < length ds → (candidate_at ds k).size + 2 ^ 64 ≤ 2 ^ 128
room_left cs ds count e b few k lt =
    let le : (candidate_at cs k).size ≤ count * 2 ^ 64 = b k (subst (λ (z : List Candidate). k < length z) e lt) in
    let same : (candidate_at ds k).size ≡ (candidate_at cs k).size = ap (λ z. (candidate_at z k).size) e in
    omega arith

-- the best candidate's form is the one that is chosen for a column of the tally's name
pub chosen : (classes : Classes) (section : List ℕ) (values : List Value) (name : ℕ) (cs ds : List Candidate) (c d : ℤ) (count : ℕ) (column : Spec) (choice : Choice) → ds ≡ cs → name ≡ column.name → IsTally section values (record { name = name; candidates = cs; constant = c; count = count }) → IsBestOf classes name ds c column.form (length ds) choice → (choice.form ≡ implicit_const → d ≡ c) → (choice.form ≢ implicit_const → d ≡ pos 0) → IsChosen classes column (meanings_in section values) (record { name = column.name; form = choice.form; constant = d })
chosen classes section values name cs ds c d count column choice e named t b same none =
    let ms : List Meaning = meanings_in section values in
    let best = subst (λ (z : List Candidate). IsBestOf classes name z c column.form (length z) choice) e b in
    record {
      least = record {
        name = refl;
        least = subst (λ (z : ℕ). IsLeastForm classes z ms choice.form d) named (least_form classes name cs c d ms column.form choice t.tallied best same);
        unused = none;
      };
      first = subst (λ (z : ℕ). IsFirstForm classes z column.form ms choice.form) named (first_form classes name cs c d ms column.form choice t.tallied best same);
    }

-- where the column's form spells the values, the classes have a member, so that some candidate can be chosen
pub never_none : (classes : Classes) (section : List ℕ) (values : List Value) (name : ℕ) (cs ds : List Candidate) (c : ℤ) (count : ℕ) (column : Spec) → ClassesHaveMembers → ds ≡ cs → name ≡ column.name → IsTally section values (record { name = name; candidates = cs; constant = c; count = count }) → AreSpelled column.name column.form column.constant (meanings_in section values) → AreOut classes name ds (length ds) → ⊥
never_none classes section values name cs ds c count column members e named t s out =
    let ms : List Meaning = meanings_in section values in
    let spelled = subst (λ (z : ℕ). AreSpelled z column.form column.constant ms) (sym named) s in
    let w = members classes name column.form column.constant ms spelled in
    let k = column_size classes name cs c ms w.0 w.1 w.2 t.tallied w.3 in
    let none = subst (λ (z : List Candidate). AreOut classes name z (length z)) e out in
    none k.number k.inside k.is_open

-- the least form of a column with another constant, which is the same if the form is implicit_const
least_with : (classes : Classes) (name : ℕ) (ms : List Meaning) (code : ℕ) (c d : ℤ) → (code ≡ implicit_const → c ≡ d) → IsLeastForm classes name ms code c → IsLeastForm classes name ms code d
least_with classes name ms code c d same l = elim (is_or_not code) [
  | inl is ↦ subst (λ (z : ℤ). IsLeastForm classes name ms code z) (same is) l
  | inr other ↦
      record {
        bytes = l.bytes;
        enough = record {
          choice = l.enough.choice;
          member = l.enough.member;
          entries = l.enough.entries;
          within = entries_constant name code c d ms l.enough.entries other l.enough.within;
          cost =
              let e : constant_bytes code c ≡ constant_bytes code d = grind (arith) in
              omega (arith, l.enough.cost);
        };
        least = l.least;
      }
]

-- the form of the best column is the own one exactly where that is a least form
pub own_is_least : (classes : Classes) (section : List ℕ) (values : List Value) (t : Tallying) (column new : Spec) → t.name ≡ column.name → IsTally section values t → AreSpelled column.name column.form column.constant (meanings_in section values) → IsChosen classes column (meanings_in section values) new → (new.form ≡ column.form) ↔ IsLeastForm classes column.name (meanings_in section values) column.form column.constant
own_is_least classes section values t column new named tally s b = (to, from)
  where
    ms : List Meaning
    ms = meanings_in section values

    tallied : AreTallied column.name ms t.candidates t.constant
    tallied = subst (λ (z : ℕ). AreTallied z ms t.candidates t.constant) named tally.tallied

    only : (code : ℕ) (c d : ℤ) (n m : ℕ) → code ≡ implicit_const → EntriesWithin column.name code c ms n → EntriesWithin column.name code d ms m → c ≡ d
    only code c d n m is w v =
        let x : c ≡ t.constant = tallied.only c n (subst (λ (z : ℕ). EntriesWithin column.name z c ms n) is w) in
        let y : d ≡ t.constant = tallied.only d m (subst (λ (z : ℕ). EntriesWithin column.name z d ms m) is v) in
        cc (x, y)

    to : new.form ≡ column.form → IsLeastForm classes column.name ms column.form column.constant
    to e =
        let l : IsLeastForm classes column.name ms column.form new.constant = subst (λ (z : ℕ). IsLeastForm classes column.name ms z new.constant) e b.least.least in
        let own = entries_some column.name column.form column.constant ms s in
        least_with classes column.name ms column.form new.constant column.constant (λ is. only column.form new.constant column.constant l.enough.entries own.0 is l.enough.within own.1) l

    from : IsLeastForm classes column.name ms column.form column.constant → new.form ≡ column.form
    from l = elim (b.first column.form column.constant l) [
      | inl is ↦ is
      | inr (differs, le) ↦ absurd (differs refl)
    ]
