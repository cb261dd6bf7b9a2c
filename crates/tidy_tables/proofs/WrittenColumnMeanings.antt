-- What the values of a column are taken for in a file and in one that is written anew for it: place by place they are of one kind.
use Rattle.std.proofs.Common.{◌≡◌, inl, inr, ℕ, true, false, List, [], ◌∷◌, map, sym, ap, refl, subst, arith}
use Rattle.std.specs.Prelude.{ℤ}
use Rattle.std.specs.List.{AllZip}
use Rattle.std.proofs.lemmas.Bool.{cases_Bool, cond-true, cond-false, and_parts, and_from, and_left}
use Rattle.form_codec.specs.declared.form.Form.TheVariants.{RefUdata, RefAddr}
use Rattle.form_codec.specs.Forms.{Meaning, SpellsValue, code_of}
use Rattle.form_codec.specs.Forms.Meaning.{Expression, InUnit, InSection, SectionPlace}
use Rattle.form_codec.specs.Columns.{IsChoice, AreSpelled}
use Rattle.entry_read.specs.declared.head.UnitHead.{UnitHead}
use Rattle.written_files.specs.Uses.{names_inside, counted_inside, are_inside, taken_meanings}
use Rattle.written_files.proofs.AlikeMeanings.{IsAlike}
use Rattle.written_files.proofs.Forms.{written_form}
use Rattle.tidy_tables.proofs.WrittenColumnKinds.{IsKin, kin_back}

-- A value of the old file, with the header of its unit, and that of the written file, which a form spells: they are alike, and where the
-- new one names a place in its own unit, the old one does.
pub record ArePaired (name code : ℕ) (constant : ℤ) (old new : UnitHead × Meaning) : Type 0 where
  pub alike : IsAlike old.1 new.1
  pub inside : (n m : ℕ) → old.1 ≡ InSection n → new.1 ≡ InSection m → names_inside new.0 new.1 ≡ true → names_inside old.0 old.1 ≡ true
  pub bytes : List ℕ
  pub spelled : SpellsValue name code constant new.1 bytes

abbrev plain : List (UnitHead × Meaning) → List Meaning
plain values = map (λ (v : UnitHead × Meaning). v.1) values

abbrev counted_all : List (UnitHead × Meaning) → List Meaning
counted_all values = map (λ (v : UnitHead × Meaning). counted_inside v.0 v.1) values

module _ (name code : ℕ) (constant : ℤ) (choice : IsChoice code) where
  abbrev Spells : Meaning → List ℕ → Type 0
  Spells meaning bytes = SpellsValue name code constant meaning bytes

  -- no form has both kinds of references
  never_both : (n m : ℕ) (a b : List ℕ) → SpellsValue name code constant (InUnit n) a → SpellsValue name code constant (InSection m) b → ⊥
  never_both n m a b s t =
      let one : code ≡ code_of RefUdata = written_form name code constant (InUnit n) a choice s in
      let two : code ≡ code_of RefAddr = written_form name code constant (InSection m) b choice t in
      absurd (omega (arith, one, two))

  -- alike values that one form spells are of one kind
  kin_of : (old new : Meaning) (a b : List ℕ) → IsAlike old new → SpellsValue name code constant old a → SpellsValue name code constant new b → IsKin old new
  kin_of (InUnit n) new a b (m, inl e) s t = (m, e)
  kin_of (InUnit n) new a b (m, inr e) s t = absurd (never_both n m a b s (subst (λ (z : Meaning). Spells z b) e t))
  kin_of (InSection n) new a b (m, inl e) s t = absurd (never_both m n b a (subst (λ (z : Meaning). Spells z b) e t) s)
  kin_of (InSection n) new a b (m, inr e) s t = (m, e)
  kin_of (SectionPlace n) new a b alike s t = alike
  kin_of (Expression bytes) new a b alike s t = alike
  kin_of old new a b alike s t = alike

  -- a reference that is counted from its unit is one within its unit in the written file
  counted_kin : (head : UnitHead) (old new : Meaning) (a b : List ℕ) → names_inside head old ≡ true → IsAlike old new → SpellsValue name code constant (counted_inside head old) a → SpellsValue name code constant new b → IsKin (counted_inside head old) new × ((other : UnitHead) → names_inside other new ≡ false)
  counted_kin head (InSection n) new a b is (m, inl e) s t = ((m, e), λ other. ap (names_inside other) e)
  counted_kin head (InSection n) new a b is (m, inr e) s t = absurd (never_both _ m a b s (subst (λ (z : Meaning). Spells z b) e t))
  counted_kin head old new a b is alike s t = absurd (cc is)

  -- a new value that names a place in its own unit is paired with one that does
  inside_back : (old new : UnitHead × Meaning) (a : List ℕ) → ArePaired name code constant old new → SpellsValue name code constant old.1 a → names_inside new.0 new.1 ≡ true → names_inside old.0 old.1 ≡ true
  inside_back (head, old) (other, InSection m) a pair s is =
      let (n, e) = kin_back old (InSection m) (kin_of old (InSection m) a pair.bytes pair.alike s pair.spelled) in
      pair.inside n m e refl is
  inside_back (head, old) (other, new) a pair s is = absurd (cc is)

  all_back : (olds news : List (UnitHead × Meaning)) → AllZip (ArePaired name code constant) olds news → AreSpelled name code constant (plain olds) → are_inside news ≡ true → are_inside olds ≡ true
  all_back [] news pairs spelled all = refl
  all_back (old ∷ olds) [] pairs spelled all = absurd pairs
  all_back (old ∷ olds) (new ∷ news) (pair, pairs) ((a, s), rest) all =
      let (first, later) = and_parts (names_inside new.0 new.1) (are_inside news) all in
      and_from (names_inside old.0 old.1) (are_inside olds) (inside_back old new a pair s first) (all_back olds news pairs rest later)

  plain_kins : (olds news : List (UnitHead × Meaning)) → AllZip (ArePaired name code constant) olds news → AreSpelled name code constant (plain olds) → AllZip IsKin (plain olds) (plain news)
  plain_kins [] [] pairs spelled = tt
  plain_kins [] (new ∷ news) pairs spelled = absurd pairs
  plain_kins (old ∷ olds) [] pairs spelled = absurd pairs
  plain_kins (old ∷ olds) (new ∷ news) (pair, pairs) ((a, s), rest) = (kin_of old.1 new.1 a pair.bytes pair.alike s pair.spelled, plain_kins olds news pairs rest)

  counted_kins : (olds news : List (UnitHead × Meaning)) → AllZip (ArePaired name code constant) olds news → are_inside olds ≡ true → AreSpelled name code constant (counted_all olds) → AllZip IsKin (counted_all olds) (plain news)
  counted_kins [] [] pairs all spelled = tt
  counted_kins [] (new ∷ news) pairs all spelled = absurd pairs
  counted_kins (old ∷ olds) [] pairs all spelled = absurd pairs
  counted_kins (old ∷ olds) (new ∷ news) (pair, pairs) all ((a, s), rest) =
      let (first, later) = and_parts (names_inside old.0 old.1) (are_inside olds) all in
      ((counted_kin old.0 old.1 new.1 a pair.bytes first pair.alike s pair.spelled).0, counted_kins olds news pairs later rest)

  news_spelled : (olds news : List (UnitHead × Meaning)) → AllZip (ArePaired name code constant) olds news → AreSpelled name code constant (plain news)
  news_spelled olds [] pairs = tt
  news_spelled [] (new ∷ news) pairs = absurd pairs
  news_spelled (old ∷ olds) (new ∷ news) (pair, pairs) = ((pair.bytes, pair.spelled), news_spelled olds news pairs)

  -- place by place they are of one kind, and the form spells the new ones
  abbrev AreKin : List Meaning → List Meaning → Type 0
  AreKin olds news = AllZip IsKin olds news × AreSpelled name code constant news

  taken_from : (olds news : List (UnitHead × Meaning)) → AllZip (ArePaired name code constant) olds news → (are_inside olds ≡ true → AreSpelled name code constant (counted_all olds) → are_inside news ≡ false) → AreSpelled name code constant (taken_meanings olds) → AllZip IsKin (taken_meanings olds) (taken_meanings news) × AreSpelled name code constant (taken_meanings news)
  taken_from olds news pairs apart spelled = elim (cases_Bool (are_inside olds)) [
    | inl all ↦
        let old_taken : taken_meanings olds ≡ counted_all olds = cond-true {A = List Meaning} (are_inside olds) (counted_all olds) (plain olds) all in
        let inner : AreSpelled name code constant (counted_all olds) = subst (λ (ms : List Meaning). AreSpelled name code constant ms) old_taken spelled in
        let new_taken : taken_meanings news ≡ plain news = cond-false {A = List Meaning} (are_inside news) (counted_all news) (plain news) (apart all inner) in
        let kins : AreKin (counted_all olds) (plain news) = (counted_kins olds news pairs all inner, news_spelled olds news pairs) in
        subst (λ (ms : List Meaning). AreKin ms (taken_meanings news)) (sym old_taken) (subst (λ (ms : List Meaning). AreKin (counted_all olds) ms) (sym new_taken) kins)
    | inr some ↦
        let old_taken : taken_meanings olds ≡ plain olds = cond-false {A = List Meaning} (are_inside olds) (counted_all olds) (plain olds) some in
        let inner : AreSpelled name code constant (plain olds) = subst (λ (ms : List Meaning). AreSpelled name code constant ms) old_taken spelled in
        let kins : AreKin (plain olds) (plain news) = (plain_kins olds news pairs inner, news_spelled olds news pairs) in
        elim (cases_Bool (are_inside news)) [
          | inl all ↦ absurd (let never : are_inside olds ≡ true = all_back olds news pairs inner all in cc (never, some))
          | inr none ↦
              let new_taken : taken_meanings news ≡ plain news = cond-false {A = List Meaning} (are_inside news) (counted_all news) (plain news) none in
              subst (λ (ms : List Meaning). AreKin ms (taken_meanings news)) (sym old_taken) (subst (λ (ms : List Meaning). AreKin (plain olds) ms) (sym new_taken) kins)
        ]
  ]

  -- so is what paired values are taken for
  pub taken_kins : (olds news : List (UnitHead × Meaning)) → AllZip (ArePaired name code constant) olds news → AreSpelled name code constant (taken_meanings olds) → AllZip IsKin (taken_meanings olds) (taken_meanings news) × AreSpelled name code constant (taken_meanings news)
  taken_kins [] [] pairs spelled = (tt, tt)
  taken_kins [] (new ∷ news) pairs spelled = absurd pairs
  taken_kins (old ∷ olds) [] pairs spelled = absurd pairs
  taken_kins (old ∷ olds) (new ∷ news) pairs spelled =
      taken_from (old ∷ olds) (new ∷ news) pairs
      (λ all inner.
      let (first, later) = and_parts (names_inside old.0 old.1) (are_inside olds) all in
      let outside : names_inside new.0 new.1 ≡ false = (counted_kin old.0 old.1 new.1 inner.0.0 pairs.0.bytes first pairs.0.alike inner.0.1 pairs.0.spelled).1 new.0 in
      and_left (names_inside new.0 new.1) (are_inside news) outside)
      spelled
