-- Laws of potentials, and of the shortest bytes of entries.
use Rattle.std.specs.Prelude.{◌≡◌, ◌≤◌, ◌+◌, ◌⊎◌, ℕ, List, length}
use Rattle.std.specs.List.{Contains}
use Rattle.spelled.specs.Spelled.{AreBytes}
use Rattle.list_model.specs.declared.context.Context.{Context}
use Rattle.list_model.specs.declared.entry.ListKind.{ListKind}
use Rattle.list_model.specs.Entries.{Entry, SpellsList}
use Rattle.list_model.specs.Items.{Bounds, Give}
use Rattle.list_model.specs.Items.Bounds.{between, elsewhere}
use Rattle.list_model.specs.Costs.{ItemsWithin}
use Rattle.list_model.specs.Members.{IsMember, IsLeastList, IsFrozenMember, IsLeastFrozen}
use Rattle.list_least.specs.Plans.{entries_bytes, ArePicks, IsPlanned}
use Rattle.list_model.specs.Potentials.{AcceptsList}
use Rattle.list_least.specs.Shortest.{ShortestList}
use Rattle.list_least.specs.declared.pick.Pick.{Pick}

-- Where a list's record is accepted, no member of its class is shorter than its size.
abbrev pub AcceptedBound : Type 0
AcceptedBound =
    (list : ListKind) (addr : List ℕ) (context : Context) (items : List Bounds) (potentials : List ℕ) (size : ℕ) (bytes : List ℕ) →
    AreBytes addr → AcceptsList addr context items potentials size → IsMember list addr context items bytes → size ≤ length bytes

-- the greatest base from which the bounds of an item are offsets
abbrev pub IsLow : Bounds → ℕ → Type 0
IsLow (between start end) low = ((low ≡ start) × (start ≤ end)) ⊎ ((low ≡ end) × (end ≤ start))
IsLow elsewhere low = ⊥

-- Whatever stays under a base costs no more under any other base, or under any other one from there up to the low of one of the
-- items. So a base_address is the low of an item behind it, and a base_addressx has the greatest address up to one of these lows,
-- of all those whose indexes have as many bytes.
abbrev pub CandidateBases : Type 0
CandidateBases =
    (addr : List ℕ) (context : Context) (base : ℕ) (items : List Bounds) (n : ℕ) → ItemsWithin addr context base items n →
    ((other : ℕ) → ItemsWithin addr context other items n)
    ⊎ ((item : Bounds) × (low : ℕ) × Contains items item × IsLow item low × (base ≤ low) × ((other : ℕ) → base ≤ other → other ≤ low → ItemsWithin addr context other items n))

-- Entries that give the items, spelled in no more bytes than an accepted size, are least in the class.
abbrev pub PlansLeast : Type 0
PlansLeast =
    (list : ListKind) (addr : List ℕ) (context : Context) (items : List Bounds) (potentials : List ℕ) (size : ℕ) (entries : List Entry) (bytes : List ℕ) →
    AreBytes addr → AcceptsList addr context items potentials size → Give addr context entries items → SpellsList list entries bytes → length bytes ≤ size →
    IsLeastList list addr context items bytes

-- The shortest bytes of entries: what they spell, and how many they are. Entries that are picked have some, and so have entries
-- that any bytes spell.
pub record ShortestLists : Type 0 where
  pub spelled : (list : ListKind) (entries : List Entry) (bytes : List ℕ) → ShortestList list entries bytes → SpellsList list entries bytes
  pub size : (list : ListKind) (entries : List Entry) (bytes : List ℕ) → ShortestList list entries bytes → length bytes ≡ entries_bytes entries + 1
  pub of_picks : (list : ListKind) (picks : List Pick) (entries : List Entry) → ArePicks list picks entries → (bytes : List ℕ) × ShortestList list entries bytes
  pub of_frozen : (list : ListKind) (entries : List Entry) (bytes : List ℕ) → IsFrozenMember list entries bytes → (shortest : List ℕ) × ShortestList list entries shortest

-- The shortest bytes of the entries that a plan picks are least in the class, and as many as the size that is accepted.
abbrev pub PlannedLeast : Type 0
PlannedLeast =
    (list : ListKind) (addr : List ℕ) (context : Context) (items : List Bounds) (potentials : List ℕ) (size : ℕ) (picks : List Pick) (entries : List Entry) (bytes : List ℕ) →
    AreBytes addr → AcceptsList addr context items potentials size → IsPlanned list addr context items picks size → ArePicks list picks entries → ShortestList list entries bytes →
    IsLeastList list addr context items bytes × (length bytes ≡ size)

-- The shortest bytes of the entries of a frozen list are least in its class.
abbrev pub FrozenLeast : Type 0
FrozenLeast = (list : ListKind) (entries : List Entry) (bytes : List ℕ) → ShortestList list entries bytes → IsLeastFrozen list entries bytes
