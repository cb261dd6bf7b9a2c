-- Sets whose debug_info_offset is written anew.
use Rattle.std.proofs.Common.{◌≡◌, ◌≤◌, ◌<◌, ◌+◌, ◌++◌, ◌∙◌, ◌⊎◌, ℕ, List, [], ◌∷◌, length, get_or, take, drop, sym, ap, subst, arith, inl, inr}
use Rattle.std.specs.Prelude.{slice_index}
use Rattle.std.specs.List.{All}
use Rattle.std.proofs.lemmas.List.{drop_more, take_more}
use Rattle.std.proofs.lemmas.List.Elements.{All-nil, All-cons}
use Rattle.companions.specs.declared.set.ArangeSet.{ArangeSet}
use Rattle.fixed_width.specs.Numbers.{number_at}
use Rattle.fixed_width.specs.InitialLengths.{unit_length, version, unit_end, least_reserved}
use Rattle.companions.specs.Aranges.{debug_info_offset, IsSet, SetsFollow}
use Rattle.fixed_width.proofs.Numbers.{number_same}
use Rattle.companions.proofs.Tiling.{follow_push, set_inside}

-- the bytes from a place up to another are the same
abbrev SameBetween : List ℕ → List ℕ → ℕ → ℕ → Type 0
SameBetween xs ys from to = (k : ℕ) → from ≤ k → k < to → slice_index xs k ≡ slice_index ys k

-- a set whose length and version are as before ends where it did
renamed_end : (xs ys : List ℕ) (at : ℕ) → SameBetween xs ys at (at + 6) → unit_end xs at ≡ unit_end ys at
renamed_end xs ys at same = ap (λ z. at + 4 + z) (number_same 4 at xs ys (λ k low high. same k low (omega arith)))

-- a set of another unit, or of another start of its unit
renamed : (xs ys old new : List ℕ) (set : ArangeSet) → IsSet xs old set → length xs ≡ length ys → SameBetween xs ys set.at (set.at + 6) → set.unit < length new → debug_info_offset ys set.at ≡ slice_index new set.unit → IsSet ys new set
renamed xs ys old new set h size same known named =
    let counted : unit_length xs set.at ≡ unit_length ys set.at = number_same 4 set.at xs ys (λ k low high. same k low (omega arith)) in
    let versions : version xs set.at ≡ version ys set.at = number_same 2 (set.at + 4) xs ys (λ k low high. same k (omega arith) (omega arith)) in
    let usual : unit_length xs set.at < least_reserved = h.whole.usual in
    let inside : unit_end xs set.at ≤ length xs = h.whole.inside in
    let fits : 6 ≤ unit_length xs set.at = h.fits in
    record {
      whole = record { usual = omega arith; inside = omega arith };
      fits = omega arith;
      of_version = sym versions ∙ h.of_version;
      of_unit = (known, sym named);
    }

-- a set whose bytes stay
kept : (xs ys starts : List ℕ) (set : ArangeSet) → IsSet xs starts set → length xs ≡ length ys → SameBetween xs ys set.at (unit_end xs set.at) → IsSet ys starts set
kept xs ys starts set h size same =
    let bound : set.at + 10 ≤ unit_end xs set.at = (set_inside xs starts set h).0 in
    let named : debug_info_offset xs set.at ≡ debug_info_offset ys set.at = number_same 4 (set.at + 6) xs ys (λ k low high. same k (omega arith) (omega arith)) in
    renamed xs ys starts starts set h size (λ k low high. same k low (omega arith)) h.of_unit.0 (sym named ∙ sym h.of_unit.1)

follow_order : (section starts : List ℕ) (sets : List ArangeSet) (a b : ℕ) → SetsFollow section starts sets a b → a ≤ b
follow_order section starts [] a b e = let same : a ≡ b = e in omega arith
follow_order section starts (s ∷ sets) a b f =
    let rest : unit_end section s.at ≤ b = follow_order section starts sets (unit_end section s.at) b f.2 in
    let place : s.at ≡ a = f.0 in
    let bound : s.at + 10 ≤ unit_end section s.at = (set_inside section starts s f.1).0 in
    omega arith

-- sets whose bytes stay
follow_kept : (xs ys starts : List ℕ) (sets : List ArangeSet) (a b : ℕ) → SetsFollow xs starts sets a b → length xs ≡ length ys → SameBetween xs ys a b → SetsFollow ys starts sets a b
follow_kept xs ys starts [] a b e size same = e
follow_kept xs ys starts (s ∷ sets) a b f size same =
    let place : s.at ≡ a = f.0 in
    let rest : unit_end xs s.at ≤ b = follow_order xs starts sets (unit_end xs s.at) b f.2 in
    let bound : s.at + 10 ≤ unit_end xs s.at = (set_inside xs starts s f.1).0 in
    let ends : unit_end xs s.at ≡ unit_end ys s.at = renamed_end xs ys s.at (λ k low high. same k (omega arith) (omega arith)) in
    let after : SetsFollow ys starts sets (unit_end xs s.at) b = follow_kept xs ys starts sets (unit_end xs s.at) b f.2 size (λ k low high. same k (omega arith) high) in (
      place,
      kept xs ys starts s f.1 size (λ k low high. same k (omega arith) (omega arith)),
      subst (λ (z : ℕ). SetsFollow ys starts sets z b) ends after,
    )

-- The sets up to a number name the new starts, and those from it on the old ones.
pub record IsPatchedTo (starts : List ℕ) (sets : List ArangeSet) (section : List ℕ) (count : ℕ) : Type 0 where
  pub old : List ℕ
  pub place : ℕ
  pub done : SetsFollow section starts (take count sets) 0 place
  pub left : SetsFollow section old (drop count sets) place (length section)

-- the set of a number, which is next
module _ (starts : List ℕ) (sets : List ArangeSet) (section : List ℕ) (i : ℕ) (set : ArangeSet) (p : IsPatchedTo starts sets section i) (lt : i < length sets) (is : get_or sets i set ≡ set) where
  next : SetsFollow section p.old (set ∷ drop (i + 1) sets) p.place (length section)
  next =
      let parts : drop i sets ≡ set ∷ drop (i + 1) sets = drop_more sets i set lt ∙ ap (λ (z : ArangeSet). z ∷ drop (i + 1) sets) is in
      subst (λ (z : List ArangeSet). SetsFollow section p.old z p.place (length section)) parts p.left

  pub next_inside : set.at + 10 ≤ length section
  next_inside =
      let b = set_inside section p.old set next.1 in
      let first : set.at + 10 ≤ unit_end section set.at = b.0 in
      let second : unit_end section set.at ≤ length section = b.1 in
      omega arith

  pub patched_next : (value : ℕ) (new : List ℕ) → value ≡ slice_index starts set.unit → set.unit < length starts → number_at 4 (set.at + 6) new ≡ value → ((k : ℕ) → (k < set.at + 6) ⊎ (set.at + 6 + 4 ≤ k) → slice_index new k ≡ slice_index section k) → length new ≡ length section → IsPatchedTo starts sets new (i + 1)
  patched_next value new e known written others size =
      let place : set.at ≡ p.place = next.0 in
      let bound : set.at + 10 ≤ unit_end section set.at = (set_inside section p.old set next.1).0 in
      let ends : unit_end section set.at ≡ unit_end new set.at = renamed_end section new set.at (λ k low high. sym (others k (inl high))) in
      let stands : IsSet new starts set = renamed section new p.old starts set next.1 (sym size) (λ k low high. sym (others k (inl high))) known (written ∙ e) in
      let before : SetsFollow new starts (take i sets) 0 p.place = follow_kept section new starts (take i sets) 0 p.place p.done (sym size) (λ k low high. sym (others k (inl (omega arith)))) in
      let rest : SetsFollow new p.old (drop (i + 1) sets) (unit_end section set.at) (length section) = follow_kept section new p.old (drop (i + 1) sets) (unit_end section set.at) (length section) next.2 (sym size) (λ k low high. sym (others k (inr (omega arith)))) in
      let more : take (i + 1) sets ≡ take i sets ++ set ∷ [] = take_more sets i set lt ∙ ap (λ (z : ArangeSet). take i sets ++ z ∷ []) is in
      let pushed : SetsFollow new starts (take i sets ++ set ∷ []) 0 (unit_end new p.place) = follow_push new starts (take i sets) set 0 p.place before place stands in
      let there : unit_end new p.place ≡ unit_end new set.at = ap (unit_end new) (sym place) in
      record {
        old = p.old;
        place = unit_end new p.place;
        done = subst (λ (z : List ArangeSet). SetsFollow new starts z 0 (unit_end new p.place)) (sym more) pushed;
        left = subst (λ (z : ℕ). SetsFollow new p.old (drop (i + 1) sets) z (length new)) (ends ∙ sym there) (subst (λ (z : ℕ). SetsFollow new p.old (drop (i + 1) sets) (unit_end section set.at) z) (sym size) rest);
      }

-- the fields of sets that name their units' starts
pub follow_named : (section starts : List ℕ) (sets : List ArangeSet) (a b : ℕ) → SetsFollow section starts sets a b → All (λ (set : ArangeSet). debug_info_offset section set.at ≡ slice_index starts set.unit) sets
follow_named section starts [] a b f = All-nil (λ (set : ArangeSet). debug_info_offset section set.at ≡ slice_index starts set.unit)
follow_named section starts (s ∷ sets) a b f = All-cons (λ (set : ArangeSet). debug_info_offset section set.at ≡ slice_index starts set.unit) s sets (sym f.1.of_unit.1) (follow_named section starts sets (unit_end section s.at) b f.2)
