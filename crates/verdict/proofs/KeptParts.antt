-- What an accepted file keeps of the old one where the classes have no other members: .debug_line, and the entries of lists.
use Rattle.std.proofs.Common.{◌≡◌, ◌≤◌, ◌<◌, ◌+◌, ◌∙◌, inl, inr, false, ℕ, zero, suc, List, [], ◌∷◌, length, get_or, sym, ap, subst, refl, arith}
use Rattle.std.proofs.lemmas.Bool.{cases_eq, cases_lt}
use Rattle.dw_base.specs.declared.classes.Classes.{Classes}
use Rattle.list_model.specs.declared.entry.ListKind.{ListKind}
use Rattle.list_model.specs.declared.entry.RawEntry.{RawEntry}
use Rattle.list_model.specs.Entries.{Entry, AreSaid}
use Rattle.value_links.specs.Reading.{Reading, lists_of, list_at}
use Rattle.value_links.specs.Same.{Same}
use Rattle.value_links.specs.Sections.{offset_named, debug_line, line_name, lists_name}
use Rattle.value_links.specs.Whole.{IsReading}
use Rattle.tidy_lists.specs.Followers.{Follows}
use Rattle.tidy_lists.specs.Due.{IsElsewhere}
use Rattle.tidy_lists.specs.inside.DuePlaces.{part_of}
use Rattle.tidy_lists.proofs.BothWays.{list_after, list_of_old}
use Rattle.tidy_lists.proofs.LengthsThere.{list_long}
use Rattle.tidy_lists.proofs.OldOrder.{parts_rise}
use Rattle.tidy_lists.proofs.PlacesKept.{list_part, one_list, lists_follow}
use Rattle.tidy_lists.proofs.RunLists.{go_along}
use Rattle.tidy_numbers.proofs.WrittenOperands.{said_of}
use Rattle.tidy_files.proofs.SameEntries.{AreAlikeBelow, said_alike, alike_said}
use Rattle.tidy_files.specs.Tidy.{IsOtherByte, SayTheSame, IsTidy}
use Rattle.tidy_files.specs.Tidy.Row.{AProgram, AList, AChangedList}
use Rattle.verdict.specs.Accepts.{IsAllKept}

-- SECTIONS

other_behind : (o n k : ℕ) (old new : List ℕ) → IsOtherByte old new k → IsOtherByte (o ∷ old) (n ∷ new) (suc k)
other_behind o n k old new (inl (less, differ)) = inl (omega (arith, less), λ also. differ (omega (arith, also)))
other_behind o n k old new (inr (past, less)) = inr (omega (arith, past), omega (arith, less))

-- where no byte is another, they are the same
same_bytes : (old new : List ℕ) → ((k : ℕ) → IsOtherByte old new k → ⊥) → new ≡ old
same_bytes [] [] none = refl
same_bytes [] (n ∷ new) none = absurd (none 0 (inr (omega arith, omega arith)))
same_bytes (o ∷ old) [] none = absurd (none 0 (inl (omega arith, λ less. absurd (omega (arith, less)))))
same_bytes (o ∷ old) (n ∷ new) none = elim (cases_eq o n) [
  | inl e ↦ ap (λ (z : ℕ). z ∷ new) (sym e) ∙ ap (λ (z : List ℕ). o ∷ z) (same_bytes old new (λ k other. none (suc k) (other_behind o n k old new other)))
  | inr differ ↦ absurd (none 0 (inl (omega arith, λ less. differ)))
]

-- ENTRIES OF LISTS

-- numbers that can't differ are the same
never_apart : (m n : ℕ) → ((m ≡ n → ⊥) → ⊥) → m ≡ n
never_apart m n never = elim (cases_eq m n) [ inl e ↦ e | inr other ↦ absurd (never other) ]

-- what can't say other entries says the same
said_too : (kind : ListKind) (old new : List RawEntry) (entries : List Entry) → AreSaid kind old entries → ((SayTheSame kind old new → ⊥) → ⊥) → SayTheSame kind old new
said_too kind old new entries said never =
    let count : length old ≡ length new = never_apart (length old) (length new) (λ other. never (λ (them, first, second). other (said_alike kind old new them first second).0)) in
    let alike : AreAlikeBelow (length old) old new = λ k d less. record {
      code = never_apart (get_or old k d).code (get_or new k d).code (λ other. never (λ (them, first, second). other ((said_alike kind old new them first second).1 k d less).code));
      first = never_apart (get_or old k d).a (get_or new k d).a (λ other. never (λ (them, first, second). other ((said_alike kind old new them first second).1 k d less).first));
      second = never_apart (get_or old k d).b (get_or new k d).b (λ other. never (λ (them, first, second). other ((said_alike kind old new them first second).1 k d less).second));
    }
    in
    (entries, said, alike_said kind old new entries said count alike)

module _ (classes : Classes) (file written : List ℕ) (r s : Reading) (read : IsReading file r) (again : IsReading written s) (same : Same file written) (tidy : IsTidy classes file written) where
  none_elsewhere : (kind : ListKind) (at : ℕ) → IsElsewhere kind r s at → ⊥
  none_elsewhere kind at holds = tidy AList (offset_named written (lists_name kind) + at) (record { r = r; s = s; read = read; again = again; kind = kind; inner = at; holds = holds; place = refl })

  module _ (kind : ListKind) where
    -- of two old lists the later one is the later written one
    later : (k m l n : ℕ) → Follows kind r s k m → Follows kind r s l n → k < l → m < n
    later k m l n first second less = elim (cases_lt m n) [
      | inl before ↦ before
      | inr past ↦
          let one : (list_at (lists_of s kind) m).part ≡ part_of r kind k = list_part file written r s read again same none_elsewhere (go_along file written r s read again same) kind k m first in
          let other : (list_at (lists_of s kind) n).part ≡ part_of r kind l = list_part file written r s read again same none_elsewhere (go_along file written r s read again same) kind l n second in
          let (len, some, long) = list_long written s again kind m first.inside in
          let rise : part_of r kind k ≤ part_of r kind l = parts_rise file r read kind k l less second.known in
          let back : part_of r kind l ≤ part_of r kind k = elim (cases_lt n m) [
            | inl behind ↦ (let falls : (list_at (lists_of s kind) n).part ≤ (list_at (lists_of s kind) m).part = parts_rise written s again kind n m behind first.inside in omega (arith, falls, one, other))
            | inr here ↦ (let at : n ≡ m = omega (arith, here, past) in let parts : (list_at (lists_of s kind) n).part ≡ (list_at (lists_of s kind) m).part = ap (λ (z : ℕ). (list_at (lists_of s kind) z).part) at in omega (arith, parts, one, other))
          ]
          in
          let part : part_of r kind k ≡ part_of r kind l = omega (arith, rise, back) in
          let over : (list_at (lists_of s kind) m).at + len ≤ (list_at (lists_of s kind) n).at = lists_follow file written r s read again same none_elsewhere (go_along file written r s read again same) kind k m len l n first second long less part in
          elim (cases_lt n m) [
            | inl behind ↦ absurd (let falls : (list_at (lists_of s kind) n).at < (list_at (lists_of s kind) m).at = (again.lists kind).rising n m behind first.inside in omega (arith, falls, over))
            | inr here ↦ absurd (let at : n ≡ m = omega (arith, here, past) in let places : (list_at (lists_of s kind) n).at ≡ (list_at (lists_of s kind) m).at = ap (λ (z : ℕ). (list_at (lists_of s kind) z).at) at in omega (arith, places, over, some))
          ]
    ]

    -- so no written list has a lower number than the old one that it is
    no_lower : (k m : ℕ) → Follows kind r s k m → k ≤ m
    no_lower zero m follows = omega arith
    no_lower (suc k) m follows =
        let (before, first) = list_after file written r s read again same kind k (omega (arith, follows.known)) in
        let low : k ≤ before = no_lower k before first in
        let less : before < m = later k before (suc k) m first follows (omega arith) in
        omega (arith, low, less)

    there : (k : ℕ) → k < length (lists_of r kind) → k < length (lists_of s kind)
    there k inside =
        let (m, follows) = list_after file written r s read again same kind k inside in
        omega (arith, no_lower k m follows, follows.inside)

    -- and none a higher one: of two written lists the later one is the later old one
    no_higher : (m k : ℕ) → Follows kind r s k m → m ≤ k
    no_higher zero k follows = omega arith
    no_higher (suc m) k follows =
        let (before, first) = list_of_old file written r s read again same kind m (omega (arith, follows.inside)) in
        let low : m ≤ before = no_higher m before first in
        elim (cases_lt before k) [
          | inl less ↦ omega (arith, low, less)
          | inr past ↦ elim (cases_lt k before) [
            | inl behind ↦ absurd (let back : suc m < m = later k (suc m) before m follows first behind in omega (arith, back))
            | inr here ↦ absurd (let at : before ≡ k = omega (arith, past, here) in let one : m ≡ suc m = one_list file written r s read again same none_elsewhere (go_along file written r s read again same) kind k m (suc m) (subst (λ (z : ℕ). Follows kind r s z m) at first) follows in omega (arith, one))
          ]
        ]

    as_many : length (lists_of s kind) ≡ length (lists_of r kind)
    as_many = elim (cases_lt (length (lists_of s kind)) (length (lists_of r kind))) [
      | inl fewer ↦ absurd (let one : length (lists_of s kind) < length (lists_of s kind) = there (length (lists_of s kind)) fewer in omega (arith, one))
      | inr enough ↦ elim (cases_lt (length (lists_of r kind)) (length (lists_of s kind))) [
        | inl more ↦ absurd (let (k, follows) = list_of_old file written r s read again same kind (length (lists_of r kind)) more in omega (arith, no_higher (length (lists_of r kind)) k follows, follows.known))
        | inr none ↦ omega (arith, enough, none)
      ]
    ]

    same_entries : classes.lists ≡ false → (k : ℕ) → k < length (lists_of r kind) → SayTheSame kind (list_at (lists_of r kind) k).raws (list_at (lists_of s kind) k).raws
    same_entries kept k inside =
        let (entries, said) = said_of kind _ _ _ _ ((read.lists kind).each k inside).read in
        said_too kind (list_at (lists_of r kind) k).raws (list_at (lists_of s kind) k).raws entries said (λ changed. tidy AChangedList (offset_named written (lists_name kind) + (list_at (lists_of s kind) k).at)
        (kept, (kind, record { r = r; s = s; read = read; again = again; k = k; known = inside; inside = there k inside; changed = changed; place = refl })))

  -- What the classes keep is the old file's.
  pub all_kept : IsAllKept classes file written
  all_kept = record {
    lines = λ kept. same_bytes (debug_line file) (debug_line written) (λ k other. tidy AProgram (offset_named written line_name + k) (inr (kept, (k, other, refl))));
    lists = λ kept. (r, s, read, again, λ kind. (as_many kind, same_entries kind kept));
  }
