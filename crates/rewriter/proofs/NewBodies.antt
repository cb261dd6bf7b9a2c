-- Laws of the bodies that are made of new sections.
use Rattle.std.proofs.Common.{◌≡◌, ◌≢◌, ◌≤◌, ◌<◌, ◌+◌, ◌-◌, ◌*◌, ◌^◌, ℕ, List, [], ◌∷◌, ◌++◌, length, Bool, true, false, sym, ◌∙◌, ap, refl, subst, arith, inl, inr}
use Rattle.std.specs.Prelude.{◌||◌, ◌&&◌, not, bytes_eq, Option, Some, None}
use Rattle.std.specs.List.{All, sum_by}
use Rattle.std.proofs.lemmas.List.Elements.{All-cons, All-nil, All-head, All-tail, All-same}
use Rattle.std.proofs.lemmas.List.Kept.{AllPairs-cons}
use Rattle.std.proofs.lemmas.List.Sums.{sum_by-cons}
use Rattle.std.proofs.lemmas.Bool.{true≢false, and_parts, cases_lt, ne_eqb}
use Rattle.std.proofs.lemmas.Slice.Eq.{bytes_eq-Decides}
use Rattle.elf_sections.specs.Elf.{section_count, body_of}
use Rattle.elf_sections.specs.Names.{name_of, is_written}
use Rattle.elf_sections.specs.Sections.{IsFirstNamed, HasNone}
use Rattle.elf_place.specs.declared.bodies.NewBody.{NewBody}
use Rattle.elf_place.specs.Bodies.{has_new_body, AreApart, bytes_of}
use Rattle.value_links.specs.Sections.{section_named, body_or_none, body_named}
use Rattle.value_links.proofs.SectionLaws.{sections_are_found}
use Rattle.rewriter.specs.inside.Bodies.{NewBytes, IsBodyWith, AddsBody, AreBodiesWith}
use Rattle.rewriter.specs.inside.Sections.{IsFor}

-- BODIES ONE BY ONE

-- one more
pub added : (file : List ℕ) (news : List NewBytes) (new : NewBytes) (before after : List NewBody) → AreBodiesWith file news before → AddsBody file new before after → AreBodiesWith file (news ++ new ∷ []) after
added file [] new before after none (inl (lacks, same)) = inl (lacks, same ∙ none)
added file [] new before after none (inr (body, is, same)) = inr (body, ([], is, same ∙ ap (λ z. z ++ body ∷ []) none, refl))
added file (n ∷ news) new before after (inl (lacks, rest)) adds = inl (lacks, added file news new before after rest adds)
added file (n ∷ news) new before after (inr (first, (rest, is, e, others))) (inl (lacks, same)) =
    inr (first, (rest, is, same ∙ e, added file news new rest rest others (inl (lacks, refl))))
added file (n ∷ news) new before after (inr (first, (rest, is, e, others))) (inr (body, holds, same)) =
    inr (first, (rest ++ body ∷ [], is, same ∙ ap (λ z. z ++ body ∷ []) e, added file news new rest (rest ++ body ∷ []) others (inr (body, holds, refl))))

-- what holds of the body with each of the new bytes holds of all bodies
pub all_bodies : (P : NewBody → Type 0) (file : List ℕ) (news : List NewBytes) (bodies : List NewBody) → AreBodiesWith file news bodies → All (λ (new : NewBytes). (body : NewBody) → IsBodyWith file new body → P body) news → All P bodies
all_bodies P file [] bodies none h = All-same P bodies [] none (All-nil P)
all_bodies P file (n ∷ news) bodies (inl (lacks, rest)) h =
    all_bodies P file news bodies rest (All-tail (λ (new : NewBytes). (body : NewBody) → IsBodyWith file new body → P body) n news h)
all_bodies P file (n ∷ news) bodies (inr (body, (rest, is, e, others))) h =
    let here : P body = All-head (λ (new : NewBytes). (body : NewBody) → IsBodyWith file new body → P body) n news h body is in
    let more : All P rest = all_bodies P file news rest others (All-tail (λ (new : NewBytes). (body : NewBody) → IsBodyWith file new body → P body) n news h) in
    All-same P bodies (body ∷ rest) e (All-cons P body rest here more)

-- a section of none of the names gets no new body
pub spared : (file : List ℕ) (news : List NewBytes) (bodies : List NewBody) (i : ℕ) → AreBodiesWith file news bodies → All (λ (new : NewBytes). name_of file i ≢ new.name) news → has_new_body bodies i ≡ false
spared file [] bodies i none others = ap (λ z. has_new_body z i) none
spared file (n ∷ news) bodies i (inl (lacks, rest)) others =
    spared file news bodies i rest (All-tail (λ (new : NewBytes). name_of file i ≢ new.name) n news others)
spared file (n ∷ news) bodies i (inr (body, (rest, is, e, more))) others =
    let other : name_of file i ≢ n.name = All-head (λ (new : NewBytes). name_of file i ≢ new.name) n news others in
    let apart : body.section ≢ i = λ same. other (sym (ap (name_of file) same) ∙ is.first.named) in
    let none : has_new_body rest i ≡ false = spared file news rest i more (All-tail (λ (new : NewBytes). name_of file i ≢ new.name) n news others) in
    ap (λ z. has_new_body z i) e ∙ ap (λ z. z || has_new_body rest i) (ne_eqb body.section i apart) ∙ none

-- new bytes of different names
abbrev pub HaveOwnNames : List NewBytes → Type 0
HaveOwnNames [] = Unit {0}
HaveOwnNames (new ∷ news) = All (λ (other : NewBytes). new.name ≢ other.name) news × HaveOwnNames news

-- a test of that, which a list with given names passes
abbrev is_other : List ℕ → List NewBytes → Bool
is_other name [] = true
is_other name (new ∷ news) = not (bytes_eq name new.name) && is_other name news

abbrev pub are_others : List NewBytes → Bool
are_others [] = true
are_others (new ∷ news) = is_other new.name news && are_others news

others_differ : (name : List ℕ) (news : List NewBytes) → is_other name news ≡ true → All (λ (other : NewBytes). name ≢ other.name) news
others_differ name [] passes = All-nil (λ (other : NewBytes). name ≢ other.name)
others_differ name (n ∷ news) passes =
    let here = (and_parts (not (bytes_eq name n.name)) (is_other name news) passes).0 in
    let rest = (and_parts (not (bytes_eq name n.name)) (is_other name news) passes).1 in
    All-cons (λ (other : NewBytes). name ≢ other.name) n news (λ same. true≢false (sym here ∙ ap not ((bytes_eq-Decides name n.name).1 same))) (others_differ name news rest)

pub own_names : (news : List NewBytes) → are_others news ≡ true → HaveOwnNames news
own_names [] passes = tt
own_names (n ∷ news) passes = (others_differ n.name news (and_parts (is_other n.name news) (are_others news) passes).0, own_names news (and_parts (is_other n.name news) (are_others news) passes).1)

-- likewise new bytes of sections that are written anew
abbrev pub are_written : List NewBytes → Bool
are_written [] = true
are_written (new ∷ news) = is_written new.name && are_written news

pub all_written : (news : List NewBytes) → are_written news ≡ true → All (λ (new : NewBytes). is_written new.name ≡ true) news
all_written [] passes = All-nil (λ (new : NewBytes). is_written new.name ≡ true)
all_written (n ∷ news) passes = All-cons (λ (new : NewBytes). is_written new.name ≡ true) n news (and_parts (is_written n.name) (are_written news) passes).0 (all_written news (and_parts (is_written n.name) (are_written news) passes).1)

-- are for different sections
pub bodies_apart : (file : List ℕ) (news : List NewBytes) (bodies : List NewBody) → AreBodiesWith file news bodies → HaveOwnNames news → AreApart bodies
bodies_apart file [] bodies none own = subst AreApart (sym none) (λ k j d less lt. absurd (omega arith))
bodies_apart file (n ∷ news) bodies (inl (lacks, rest)) (here, own) = bodies_apart file news bodies rest own
bodies_apart file (n ∷ news) bodies (inr (body, (rest, is, e, more))) (here, own) =
    let others : All (λ (other : NewBody). body.section ≢ other.section) rest =
    all_bodies (λ (other : NewBody). body.section ≢ other.section) file news rest more (λ k d lt other it same. here k d lt (sym is.first.named ∙ ap (name_of file) same ∙ it.first.named)) in
    subst AreApart (sym e) (AllPairs-cons (λ (one other : NewBody). one.section ≢ other.section) body rest others (bodies_apart file news rest more own))

-- they have no more bytes than the new ones
abbrev pub bytes_in : List NewBytes → ℕ
bytes_in = sum_by (λ (new : NewBytes). length new.bytes)

pub bodies_few : (file : List ℕ) (news : List NewBytes) (bodies : List NewBody) → AreBodiesWith file news bodies → bytes_of bodies ≤ bytes_in news
bodies_few file [] bodies none = let size : bytes_of bodies ≡ 0 = ap bytes_of none in omega arith
bodies_few file (n ∷ news) bodies (inl (lacks, rest)) =
    let whole : bytes_in (n ∷ news) ≡ length n.bytes + bytes_in news = sum_by-cons (λ (new : NewBytes). length new.bytes) n news in
    let few : bytes_of bodies ≤ bytes_in news = bodies_few file news bodies rest in
    omega arith
bodies_few file (n ∷ news) bodies (inr (body, (rest, is, e, more))) =
    let whole : bytes_in (n ∷ news) ≡ length n.bytes + bytes_in news = sum_by-cons (λ (new : NewBytes). length new.bytes) n news in
    let size : bytes_of bodies ≡ length body.bytes.items + bytes_of rest = ap bytes_of e ∙ sum_by-cons (λ (new : NewBody). length new.bytes.items) body rest in
    let here : length body.bytes.items ≡ length n.bytes = ap length is.holds in
    let few : bytes_of rest ≤ bytes_in news = bodies_few file news rest more in
    omega arith

-- and those are few, where each section is short
pub bytes_few : (news : List NewBytes) → All (λ (new : NewBytes). length new.bytes < 2 ^ 32 - 1) news → bytes_in news ≤ length news * 2 ^ 32
bytes_few [] fit = omega arith
bytes_few (n ∷ news) fit =
    let whole : bytes_in (n ∷ news) ≡ length n.bytes + bytes_in news = sum_by-cons (λ (new : NewBytes). length new.bytes) n news in
    let here : length n.bytes < 2 ^ 32 - 1 = All-head (λ (new : NewBytes). length new.bytes < 2 ^ 32 - 1) n news fit in
    let rest : bytes_in news ≤ length news * 2 ^ 32 = bytes_few news (All-tail (λ (new : NewBytes). length new.bytes < 2 ^ 32 - 1) n news fit) in
    omega (arith, whole, here, rest)

-- THE WRITTEN SECTIONS

-- only one section is the first of its name
pub one_first : (file wanted : List ℕ) (i j : ℕ) → IsFirstNamed file wanted i → IsFirstNamed file wanted j → i ≡ j
one_first file wanted i j one other =
    elim (cases_lt i j) [
      | inl less ↦ absurd (other.before i less one.named)
      | inr rest ↦ elim (cases_lt j i) [
        | inl more ↦ absurd (one.before j more other.named)
        | inr both ↦ omega arith
      ]
    ]

-- each section that the file has gets its new bytes
pub written_bodies : (file written : List ℕ) (news : List NewBytes) (bodies : List NewBody) → AreBodiesWith file news bodies → All (λ (body : NewBody). body_of written body.section ≡ body.bytes.items) bodies → All (λ (new : NewBytes). (i : ℕ) → IsFirstNamed file new.name i → body_of written i ≡ new.bytes) news
written_bodies file written [] bodies none h = All-nil (λ (new : NewBytes). (i : ℕ) → IsFirstNamed file new.name i → body_of written i ≡ new.bytes)
written_bodies file written (n ∷ news) bodies (inl (lacks, rest)) h =
    All-cons (λ (new : NewBytes). (i : ℕ) → IsFirstNamed file new.name i → body_of written i ≡ new.bytes) n news (λ i first. absurd (lacks i first.inside first.named)) (written_bodies file written news bodies rest h)
written_bodies file written (n ∷ news) bodies (inr (body, (rest, is, e, more))) h =
    let all : All (λ (b : NewBody). body_of written b.section ≡ b.bytes.items) (body ∷ rest) = All-same (λ (b : NewBody). body_of written b.section ≡ b.bytes.items) (body ∷ rest) bodies (sym e) h in
    let here : body_of written body.section ≡ body.bytes.items = All-head (λ (b : NewBody). body_of written b.section ≡ b.bytes.items) body rest all in
    All-cons (λ (new : NewBytes). (i : ℕ) → IsFirstNamed file new.name i → body_of written i ≡ new.bytes) n news (λ i first. ap (body_of written) (one_first file n.name i body.section first is.first) ∙ here ∙ is.holds) (written_bodies file written news rest more (All-tail (λ (b : NewBody). body_of written b.section ≡ b.bytes.items) body rest all))

-- the sections of two files have the same names
module _ (file written : List ℕ) (count : section_count written ≡ section_count file) (names : (i : ℕ) → i < section_count file → name_of written i ≡ name_of file i) (wanted bytes : List ℕ) where
  still_first : (i : ℕ) → IsFirstNamed file wanted i → IsFirstNamed written wanted i
  still_first i first = record {
    inside = let low = first.inside in omega arith;
    named = names i first.inside ∙ first.named;
    before = λ k less same. first.before k less (sym (names k (let low = first.inside in omega arith)) ∙ same);
  }

  still_none : HasNone file wanted → HasNone written wanted
  still_none none = λ k lt same. none k (omega arith) (sym (names k (omega arith)) ∙ same)

  -- so the section with a name has its new bytes, and a missing one has none
  pub body_written : (HasNone file wanted → bytes ≡ []) → ((i : ℕ) → IsFirstNamed file wanted i → body_of written i ≡ bytes) → body_named written wanted ≡ bytes
  body_written lacks has = by (section_named file wanted) refl
    where
      by : (p : Option ℕ) → section_named file wanted ≡ p → body_named written wanted ≡ bytes
      by (Some i) e =
          let first : IsFirstNamed file wanted i = (sections_are_found.found file wanted i).0 e in
          ap (body_or_none written) ((sections_are_found.found written wanted i).1 (still_first i first)) ∙ has i first
      by None e =
          let none : HasNone file wanted = (sections_are_found.missing file wanted).0 e in
          ap (body_or_none written) ((sections_are_found.missing written wanted).1 (still_none none)) ∙ sym (lacks none)

-- all of them
pub bodies_written : (file written : List ℕ) → section_count written ≡ section_count file → ((i : ℕ) → i < section_count file → name_of written i ≡ name_of file i) → (news : List NewBytes) → All (λ (new : NewBytes). IsFor file new.name new.bytes) news → All (λ (new : NewBytes). (i : ℕ) → IsFirstNamed file new.name i → body_of written i ≡ new.bytes) news → All (λ (new : NewBytes). body_named written new.name ≡ new.bytes) news
bodies_written file written count names [] lacks has = All-nil (λ (new : NewBytes). body_named written new.name ≡ new.bytes)
bodies_written file written count names (n ∷ news) lacks has =
    let here = body_written file written count names n.name n.bytes (All-head (λ (new : NewBytes). IsFor file new.name new.bytes) n news lacks) (All-head (λ (new : NewBytes). (i : ℕ) → IsFirstNamed file new.name i → body_of written i ≡ new.bytes) n news has) in
    All-cons (λ (new : NewBytes). body_named written new.name ≡ new.bytes) n news here (bodies_written file written count names news (All-tail (λ (new : NewBytes). IsFor file new.name new.bytes) n news lacks) (All-tail (λ (new : NewBytes). (i : ℕ) → IsFirstNamed file new.name i → body_of written i ≡ new.bytes) n news has))
