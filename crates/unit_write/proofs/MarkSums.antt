-- The sizes of slots are added to the marks one after the other.
use Rattle.std.proofs.Common.{◌≡◌, ◌<◌, ◌+◌, ℕ, List, length, get_or, take, sum, set, ◌∙◌, ap}
use Rattle.std.proofs.lemmas.List.{get_or-map}
use Rattle.unit_write.specs.declared.marks.Marks.{Marks}
use Rattle.unit_write.specs.inside.Marks.{sizes_before, size_before}
use Rattle.unit_write.proofs.NumbersSet.{AreSet, next_set}

-- the sum that stands for a count
pub before_is : (sizes counts before : List ℕ) (k d : ℕ) → before ≡ sizes_before sizes counts → k < length counts → get_or before k d ≡ sum (take (get_or counts k 0) sizes)
before_is sizes counts before k d is lt = ap (λ (z : List ℕ). get_or z k d) is ∙ get_or-map (λ (count : ℕ). sum (take count sizes)) counts k 0 d lt

module _ (marks : Marks) (sizes : List ℕ) where
  abbrev es : List ℕ
  es = marks.places.entries.items

  abbrev ds : List ℕ
  ds = marks.places.ends.items

  -- where an entry and a code 0 stand
  abbrev entry_to : ℕ → ℕ
  entry_to id = get_or es id 0 + size_before marks sizes id

  abbrev end_to : ℕ → ℕ
  end_to number = get_or ds number 0 + size_before marks sizes (get_or marks.entries_before.items number 0)

  -- the first entries have their places
  pub record HaveEntries (id start : ℕ) (entries ends : List ℕ) (end : ℕ) : Type 0 where
    pub first : start ≡ marks.places.start
    pub raised : AreSet entry_to es id entries
    pub others : ends ≡ ds
    pub last : end ≡ marks.places.end

  -- all entries have them, and the first codes 0
  pub record HaveEnds (number start : ℕ) (entries ends : List ℕ) (end : ℕ) : Type 0 where
    pub first : start ≡ marks.places.start
    pub entries_many : length entries ≡ length es
    pub entries_are : (id : ℕ) → id < length es → get_or entries id 0 ≡ entry_to id
    pub raised : AreSet end_to ds number ends
    pub last : end ≡ marks.places.end

  pub next_entry : (id start place : ℕ) (entries ends : List ℕ) (end : ℕ) → id < length es → HaveEntries id start entries ends end → place ≡ entry_to id → HaveEntries (id + 1) start (set entries id place) ends end
  next_entry id start place entries ends end lt h is = record { first = h.first; raised = next_set entry_to es id place entries lt h.raised is; others = h.others; last = h.last }

  pub next_end : (number start place : ℕ) (entries ends : List ℕ) (end : ℕ) → number < length ds → HaveEnds number start entries ends end → place ≡ end_to number → HaveEnds (number + 1) start entries (set ends number place) end
  next_end number start place entries ends end lt h is = record { first = h.first; entries_many = h.entries_many; entries_are = h.entries_are; raised = next_set end_to ds number place ends lt h.raised is; last = h.last }
