-- The meanings of line number programs, by their numbers.
use Rattle.std.proofs.Common.{◌≡◌, ◌≢◌, ◌≤◌, ◌<◌, ◌⊎◌, ◌^◌, ℕ, zero, suc, List, [], ◌∷◌, length, get_or, ◌∙◌, sym, ap, refl, subst, arith, inl, inr}
use Rattle.std.specs.Prelude.{Some, min, slice_get}
use Rattle.std.proofs.lemmas.List.{length-map, get_or-map, get_or_read}
use Rattle.std.proofs.lemmas.Option.{slice_get-get_or, slice_get_past, none-some, same_Some}
use Rattle.std.proofs.lemmas.Bool.{cases_lt}
use Rattle.line_machine.specs.declared.head.Head.{Head}
use Rattle.line_machine.specs.Heads.{IsHead, program_of}
use Rattle.line_machine.proofs.Programs.{based_of, one_reading}
use Rattle.line_write.specs.Meaning.{ProgramMeaning, HasMeaning, HaveMeanings}
use Rattle.value_links.specs.Sections.{debug_line}
use Rattle.value_links.specs.Reading.{ProgramRead, Reading, line_heads, no_program}
use Rattle.value_links.specs.World.{World}
use Rattle.value_links.specs.Debug.{Debug, Means}
use Rattle.value_links.specs.Laws.{OneReading}
use Rattle.same_meaning.specs.Differences.{DifferAt}
use Rattle.same_meaning.specs.inside.Compared.{IsSomeWorld, OfMeanings, MeanOne, IsFirst}
use Rattle.same_meaning.specs.inside.Programs.{IsWholeProgram, head_among}
use Rattle.same_meaning.proofs.FewPrograms.{few_programs, programs_whole}

-- past the end of a list of meanings there is none, and an empty one stands for it
abbrev no_meaning : ProgramMeaning
no_meaning = record { min = 0; is_stmt = 0; tables = []; rows = [] }

meanings_counted : (section : List ℕ) (heads : List Head) (meanings : List ProgramMeaning) → HaveMeanings section heads meanings → length meanings ≡ length heads
meanings_counted section [] [] have = refl
meanings_counted section [] (m ∷ ms) have = absurd have
meanings_counted section (h ∷ hs) [] have = absurd have
meanings_counted section (h ∷ hs) (m ∷ ms) have = let rest = meanings_counted section hs ms have.1 in omega arith

-- the program with a number means what stands at its number
meaning_at : (section : List ℕ) (heads : List Head) (meanings : List ProgramMeaning) → HaveMeanings section heads meanings → (p : ℕ) → p < length heads → HasMeaning section (head_among heads p) (get_or meanings p no_meaning)
meaning_at section [] [] have p inside = absurd (omega arith)
meaning_at section [] (m ∷ ms) have p inside = absurd have
meaning_at section (h ∷ hs) [] have p inside = absurd have
meaning_at section (h ∷ hs) (m ∷ ms) have zero inside = have.0
meaning_at section (h ∷ hs) (m ∷ ms) have (suc p) inside = meaning_at section hs ms have.1 p (omega arith)

-- a program means one thing
meaning_once : (section : List ℕ) (head : Head) (m n : ProgramMeaning) → IsHead section head → HasMeaning section head m → HasMeaning section head n → m ≡ n
meaning_once section head m n stands x y =
    let rows = one_reading head (program_of section head) m.rows n.rows (based_of section head stands) x.rows y.rows in
    ap (λ z. record m { min = z }) (x.min ∙ sym y.min)
    ∙ ap (λ z. record m { min = n.min; is_stmt = z }) (x.is_stmt ∙ sym y.is_stmt)
    ∙ ap (λ z. record m { min = n.min; is_stmt = n.is_stmt; tables = z }) (x.tables ∙ sym y.tables)
    ∙ ap (λ z. record n { rows = z }) rows

-- the less of two numbers is one of them
pub one_of_both : (n x y : ℕ) → n ≡ min x y → (n ≡ x) ⊎ (n ≡ y)
one_of_both n x y least = elim (cases_lt x y) [ inl less ↦ inl (omega arith) | inr more ↦ inr (omega arith) ]

-- THE PROGRAMS OF A WORLD

module _ (world : World) (is : IsSomeWorld world) where
  counted : length world.programs ≡ length is.1.r.links.programs
  counted = ap length is.1.holds.programs ∙ length-map is.1.r.links.programs (λ (p : ProgramRead). p.head)

  pub program_whole : (p : ℕ) → p < length world.programs → IsWholeProgram (debug_line world.image) (head_among world.programs p)
  program_whole p inside =
      let known : p < length is.1.r.links.programs = omega (arith, counted) in
      let same : head_among world.programs p ≡ (get_or is.1.r.links.programs p no_program).head =
      ap (λ (z : List Head). head_among z p) is.1.holds.programs ∙ get_or-map (λ (x : ProgramRead). x.head) is.1.r.links.programs p no_program no_program.head known
      in
      subst (λ (z : Head). IsWholeProgram (debug_line world.image) z) (sym same) (programs_whole world.image is.0 is.1.r.links.programs is.1.valid is.1.read.links.programs p known)

  pub few_held : length world.programs < 2 ^ 32
  few_held = subst (λ (z : List Head). length z < 2 ^ 32) (sym is.1.holds.programs) (few_programs world.image is.0 is.1.r.links.programs is.1.valid is.1.read.links.programs)

  -- a header that was looked up
  pub head_held : (heads : List Head) (p : ℕ) (head : Head) → heads ≡ world.programs → head ≡ get_or heads p head → p < length heads → head ≡ head_among world.programs p
  head_held heads p head are read inside = get_or_read heads p head inside read no_program.head ∙ ap (λ (z : List Head). head_among z p) are

  pub whole_there : (section : List ℕ) (head : Head) (p : ℕ) → section ≡ debug_line world.image → head ≡ head_among world.programs p → p < length world.programs → IsWholeProgram section head
  whole_there section head p bytes there inside =
      subst (λ (z : List ℕ). IsWholeProgram z head) (sym bytes) (subst (λ (z : Head). IsWholeProgram (debug_line world.image) z) (sym there) (program_whole p inside))

  programs_mean : OneReading → (c : Debug) → Means world.image c → HaveMeanings (debug_line world.image) world.programs c.programs
  programs_mean law c (r, read, means) =
      let same : is.1.r ≡ r = law world.image is.1.r r is.1.read read in
      subst (λ (z : List Head). HaveMeanings (debug_line world.image) z c.programs) (sym (is.1.holds.programs ∙ ap (λ (z : Reading). line_heads z.links.programs) same)) means.programs

-- TWO WORLDS

-- the programs with a number mean the same
abbrev pub MeanSameAt : World → World → ℕ → Type 0
MeanSameAt a b p = MeanOne (HasMeaning (debug_line a.image) (head_among a.programs p)) (HasMeaning (debug_line b.image) (head_among b.programs p))

means_as : (s t : List ℕ) (h k : Head) (m : ProgramMeaning) → s ≡ t → h ≡ k → HasMeaning s h m → HasMeaning t k m
means_as s t h k m bytes same means = subst (λ (z : List ℕ). HasMeaning z k m) bytes (subst (λ (z : Head). HasMeaning s z m) same means)

-- the same of headers and sections that were looked up
module _ (a b : World) (p : ℕ) (s t : List ℕ) (h k : Head) (s_is : s ≡ debug_line a.image) (t_is : t ≡ debug_line b.image) (h_is : h ≡ head_among a.programs p) (k_is : k ≡ head_among b.programs p) where
  pub mean_there : MeanOne (HasMeaning s h) (HasMeaning t k) → MeanSameAt a b p
  mean_there (m, one, other) = (m, means_as s (debug_line a.image) h (head_among a.programs p) m s_is h_is one, means_as t (debug_line b.image) k (head_among b.programs p) m t_is k_is other)

  pub mean_here : MeanSameAt a b p → MeanOne (HasMeaning s h) (HasMeaning t k)
  mean_here (m, one, other) = (m, means_as (debug_line a.image) s (head_among a.programs p) h m (sym s_is) (sym h_is) one, means_as (debug_line b.image) t (head_among b.programs p) k m (sym t_is) (sym k_is) other)

module _ (a b : World) (first : IsSomeWorld a) (second : IsSomeWorld b) (law : OneReading) where
  module _ (c d : Debug) (means : Means a.image c) (other : Means b.image d) where
    have_first : HaveMeanings (debug_line a.image) a.programs c.programs
    have_first = programs_mean a first law c means

    have_second : HaveMeanings (debug_line b.image) b.programs d.programs
    have_second = programs_mean b second law d other

    count_first : length c.programs ≡ length a.programs
    count_first = meanings_counted (debug_line a.image) a.programs c.programs have_first

    count_second : length d.programs ≡ length b.programs
    count_second = meanings_counted (debug_line b.image) b.programs d.programs have_second

    same_there : (p : ℕ) → p < length a.programs → p < length b.programs → MeanSameAt a b p → slice_get d.programs p ≡ slice_get c.programs p
    same_there p inside also (m, here, there) =
        let e : get_or c.programs p no_meaning ≡ m = meaning_once (debug_line a.image) (head_among a.programs p) (get_or c.programs p no_meaning) m (program_whole a first p inside).stands (meaning_at (debug_line a.image) a.programs c.programs have_first p inside) here in
        let f : get_or d.programs p no_meaning ≡ m = meaning_once (debug_line b.image) (head_among b.programs p) (get_or d.programs p no_meaning) m (program_whole b second p also).stands (meaning_at (debug_line b.image) b.programs d.programs have_second p also) there in
        let x : slice_get c.programs p ≡ Some (get_or c.programs p no_meaning) = slice_get-get_or c.programs p no_meaning (omega (arith, count_first)) in
        let y : slice_get d.programs p ≡ Some (get_or d.programs p no_meaning) = slice_get-get_or d.programs p no_meaning (omega (arith, count_second)) in
        y ∙ ap (λ (z : ProgramMeaning). Some z) (f ∙ sym e) ∙ sym x

    other_there : (p : ℕ) → p < length a.programs → p < length b.programs → (MeanSameAt a b p → ⊥) → DifferAt c.programs d.programs p
    other_there p inside also differ same =
        let x : slice_get c.programs p ≡ Some (get_or c.programs p no_meaning) = slice_get-get_or c.programs p no_meaning (omega (arith, count_first)) in
        let y : slice_get d.programs p ≡ Some (get_or d.programs p no_meaning) = slice_get-get_or d.programs p no_meaning (omega (arith, count_second)) in
        let e : get_or d.programs p no_meaning ≡ get_or c.programs p no_meaning = same_Some (get_or d.programs p no_meaning) (get_or c.programs p no_meaning) (sym y ∙ same ∙ x) in
        let here = meaning_at (debug_line a.image) a.programs c.programs have_first p inside in
        let there = meaning_at (debug_line b.image) b.programs d.programs have_second p also in
        differ (get_or c.programs p no_meaning, here, subst (λ (z : ProgramMeaning). HasMeaning (debug_line b.image) (head_among b.programs p) z) e there)

    -- one of them has a program with a number, and the other none
    alone : (p : ℕ) → ((p < length c.programs) × (length d.programs ≤ p)) ⊎ ((p < length d.programs) × (length c.programs ≤ p)) → DifferAt c.programs d.programs p
    alone p (inl (some, none)) same = none-some (get_or c.programs p no_meaning) (sym (slice_get_past d.programs p none) ∙ same ∙ slice_get-get_or c.programs p no_meaning some)
    alone p (inr (some, none)) same = none-some (get_or d.programs p no_meaning) (sym (slice_get_past c.programs p none) ∙ sym same ∙ slice_get-get_or d.programs p no_meaning some)

    -- past the end of both nothing differs
    none_there : (p : ℕ) → length a.programs ≤ p → length b.programs ≤ p → DifferAt c.programs d.programs p → ⊥
    none_there p past also differ = differ (slice_get_past d.programs p (omega (arith, count_second)) ∙ sym (slice_get_past c.programs p (omega (arith, count_first))))

    alike : (n : ℕ) → n ≤ length a.programs → n ≤ length b.programs → ((p : ℕ) → p < n → MeanSameAt a b p) → (p : ℕ) → p < n → DifferAt c.programs d.programs p → ⊥
    alike n inside also same p less differ = differ (same_there p (omega arith) (omega arith) (same p less))

  -- the first program that differs in meaning
  pub first_other : (n : ℕ) → n < length a.programs → n < length b.programs → ((p : ℕ) → p < n → MeanSameAt a b p) → (MeanSameAt a b n → ⊥) → OfMeanings a b (λ c d. IsFirst (DifferAt c.programs d.programs) n)
  first_other n inside also same differ c d means other = (other_there c d means other n inside also differ, alike c d means other n (omega arith) (omega arith) same)

  -- the first program that only one of both has
  pub first_alone : (n : ℕ) → (n ≡ length a.programs) ⊎ (n ≡ length b.programs) → n ≤ length a.programs → n ≤ length b.programs → length a.programs ≢ length b.programs → ((p : ℕ) → p < n → MeanSameAt a b p) → OfMeanings a b (λ c d. IsFirst (DifferAt c.programs d.programs) n)
  first_alone n (inl here) inside also apart same c d means other =
      let one = count_first c d means other in
      let two = count_second c d means other in
      (alone c d means other n (inr (omega arith, omega arith)), alike c d means other n inside also same)
  first_alone n (inr here) inside also apart same c d means other =
      let one = count_first c d means other in
      let two = count_second c d means other in
      (alone c d means other n (inl (omega arith, omega arith)), alike c d means other n inside also same)

  -- no program differs
  pub none_other : (n : ℕ) → n ≡ length a.programs → n ≡ length b.programs → ((p : ℕ) → p < n → MeanSameAt a b p) → OfMeanings a b (λ c d. (p : ℕ) → DifferAt c.programs d.programs p → ⊥)
  none_other n whole also same c d means other p differ = elim (cases_lt p n) [
    | inl less ↦ alike c d means other n (omega arith) (omega arith) same p less differ
    | inr past ↦ none_there c d means other p (omega arith) (omega arith) differ
  ]
