-- The bytes of range lists, and what they say.
use Rattle.std.proofs.Common.{◌≡◌, ◌≤◌, ◌<◌, ◌+◌, ◌++◌, ◌∙◌, ℕ, List, [], ◌∷◌, length, sym, ap, refl, subst, arith, inl, inr}
use Rattle.std.proofs.lemmas.List.{append_assoc, append_cancel_left, length-append}
use Rattle.std.proofs.lemmas.Option.{same_Some}
use Rattle.spelled.specs.Spelled.{HasUniqueFronts, NeverBoth, EndsApart, Joined, FaultUntilEnd}
use Rattle.spelled.specs.inside.Spelled.{HasOneEnd, GoesOn}
use Rattle.spelled.proofs.Joins.{until_end_unique, until_end_whole, joined_agree}
use Rattle.dw_base.specs.declared.fault.Span.{Span}
use Rattle.dw_base.specs.declared.fault.Kind.{Kind}
use Rattle.dw_base.specs.declared.fault.Kind.TheVariants.{Limit}
use Rattle.dw_base.specs.declared.fault.Reach.{Reach}
use Rattle.dw_base.specs.Refusals.{IsFaulty}
use Rattle.list_model.specs.declared.context.Context.{Context}
use Rattle.list_model.specs.declared.contribution.Contribution.{Contribution}
use Rattle.list_model.specs.declared.entry.ListKind.TheVariants.{Ranges}
use Rattle.list_model.specs.declared.entry.RawEntry.{RawEntry}
use Rattle.list_model.specs.declared.item.Meaning.{Meaning}
use Rattle.list_model.specs.declared.item.Meaning.TheVariants.{Live, Dead}
use Rattle.list_model.specs.Contributions.{bytes_from}
use Rattle.list_model.specs.Entries.{code_of, Entry, SpellsEntry, SpellsList, IsListEnd, FaultEntry, AreSaid, no_expr}
use Rattle.list_model.specs.Reading.{AreReadFrom, list_entry_limit, PassesLimit}
use Rattle.list_model.specs.Items.{Bounds, Give, FaultIndexes}
use Rattle.list_model.specs.Laws.{EntriesEnd, EntriesApart, EntriesWhole, EndsWhole, OneSaying, OneWalk, WalksWhole}
use Rattle.range_lists.specs.Ranges.{IsRead, IsRangeList, FaultRanges, FaultRangeList, Means, IsMeaning}

one_end : HasOneEnd IsListEnd
one_end a b x y e f h = e ∙ sym f

-- what is read is the entries of the bytes
pub joined : (at : ℕ) (raws : List RawEntry) (entries : List Entry) (bytes : List ℕ) → AreReadFrom IsRead at raws entries bytes → Joined (SpellsEntry Ranges) entries bytes
joined at [] [] bytes e = e
joined at (raw ∷ raws) (entry ∷ entries) bytes (first, rest, h, f, e) = (first, rest, h.spelled, joined (at + length first) raws entries rest f, e)
joined at [] (entry ∷ entries) bytes f = absurd f
joined at (raw ∷ raws) [] bytes f = absurd f

-- what is read says these entries
pub said : (at : ℕ) (raws : List RawEntry) (entries : List Entry) (bytes : List ℕ) → AreReadFrom IsRead at raws entries bytes → AreSaid Ranges raws entries
said at [] [] bytes e = tt
said at (raw ∷ raws) (entry ∷ entries) bytes (first, rest, h, f, e) = (h.says, said (at + length first) raws entries rest f)
said at [] (entry ∷ entries) bytes f = absurd f
said at (raw ∷ raws) [] bytes f = absurd f

-- the bytes of a list that is read, with its end
ended : (section : List ℕ) (part : Contribution) (at : ℕ) (raws : List RawEntry) (h : IsRangeList section part at raws) → bytes_from section part at ≡ h.front ++ 0 ∷ h.rest
ended section part at raws h = h.whole ∙ ap (λ (z : List ℕ). h.front ++ (z ++ h.rest)) h.ended

pub spelled : (section : List ℕ) (part : Contribution) (at : ℕ) (raws : List RawEntry) → IsRangeList section part at raws → (entries : List Entry) × (bytes : List ℕ) × (rest : List ℕ) × AreSaid Ranges raws entries × SpellsList Ranges entries bytes × (bytes_from section part at ≡ bytes ++ rest)
spelled section part at raws h =
    (h.entries, h.front ++ h.end, h.rest, said at raws h.entries h.front h.read, (h.front, h.end, joined at raws h.entries h.front h.read, h.ended, refl), h.whole ∙ sym (append_assoc h.front h.end h.rest))

-- entries that are spelled from a place on are read from there
read_spelled : (at : ℕ) (entries : List Entry) (bytes : List ℕ) → Joined (SpellsEntry Ranges) entries bytes → (raws : List RawEntry) × AreReadFrom IsRead at raws entries bytes
read_spelled at [] bytes e = ([], e)
read_spelled at (entry ∷ entries) bytes (first, rest, s, j, e) =
    let raw : RawEntry = record { at = at; code = s.code; a = entry.a; b = entry.b; expr = no_expr } in
    let more = read_spelled (at + length first) entries rest j in
    (raw ∷ more.0, (first, rest, record { place = refl; says = record { of_code = s.known; of_a = refl; of_b = refl }; without = refl; spelled = s }, more.1, e))

pub written : (section : List ℕ) (part : Contribution) (at : ℕ) (entries : List Entry) (bytes rest : List ℕ) → bytes_from section part at ≡ bytes ++ rest → SpellsList Ranges entries bytes → (raws : List RawEntry) × IsRangeList section part at raws × AreSaid Ranges raws entries
written section part at entries bytes rest whole (front, end, j, is, e) =
    let read = read_spelled at entries front j in
    (read.0, record { entries = entries; front = front; end = end; rest = rest; read = read.1; ended = is; whole = whole ∙ ap (λ z. z ++ rest) e ∙ append_assoc front end rest }, said at read.0 entries front read.1)

pub counted : (at : ℕ) (raws : List RawEntry) (entries : List Entry) (bytes : List ℕ) → AreReadFrom IsRead at raws entries bytes → length raws ≡ length entries
counted at [] [] bytes e = refl
counted at (raw ∷ raws) (entry ∷ entries) bytes (first, rest, h, f, e) = let n : length raws ≡ length entries = counted (at + length first) raws entries rest f in omega arith
counted at [] (entry ∷ entries) bytes f = absurd f
counted at (raw ∷ raws) [] bytes f = absurd f

same_raw : (raw other : RawEntry) → raw.at ≡ other.at → raw.code ≡ other.code → raw.a ≡ other.a → raw.b ≡ other.b → raw.expr ≡ other.expr → raw ≡ other
same_raw raw other at code a b expr =
    let one : raw ≡ record { at = other.at; code = raw.code; a = raw.a; b = raw.b; expr = raw.expr } = ap (λ (z : ℕ). record { at = z; code = raw.code; a = raw.a; b = raw.b; expr = raw.expr }) at in
    let two : record { at = other.at; code = raw.code; a = raw.a; b = raw.b; expr = raw.expr } ≡ record { at = other.at; code = other.code; a = raw.a; b = raw.b; expr = raw.expr } = ap (λ (z : ℕ). record { at = other.at; code = z; a = raw.a; b = raw.b; expr = raw.expr }) code in
    let three : record { at = other.at; code = other.code; a = raw.a; b = raw.b; expr = raw.expr } ≡ record { at = other.at; code = other.code; a = other.a; b = raw.b; expr = raw.expr } = ap (λ (z : ℕ). record { at = other.at; code = other.code; a = z; b = raw.b; expr = raw.expr }) a in
    let four : record { at = other.at; code = other.code; a = other.a; b = raw.b; expr = raw.expr } ≡ record { at = other.at; code = other.code; a = other.a; b = other.b; expr = raw.expr } = ap (λ (z : ℕ). record { at = other.at; code = other.code; a = other.a; b = z; expr = raw.expr }) b in
    one ∙ two ∙ three ∙ four ∙ ap (λ (z : Span). record { at = other.at; code = other.code; a = other.a; b = other.b; expr = z }) expr

-- what is read of an entry at a place is one thing
one_raw : (at : ℕ) (raw other : RawEntry) (entry same : Entry) (first second : List ℕ) → IsRead at raw entry first → IsRead at other same second → entry ≡ same → raw ≡ other
one_raw at raw other entry same first second h k e =
    let code : raw.code ≡ other.code = same_Some raw.code other.code (sym h.says.of_code ∙ ap (λ (z : Entry). code_of Ranges z.kind) e ∙ k.says.of_code) in
    let a : raw.a ≡ other.a = h.says.of_a ∙ ap (λ (z : Entry). z.a) e ∙ sym k.says.of_a in
    let b : raw.b ≡ other.b = h.says.of_b ∙ ap (λ (z : Entry). z.b) e ∙ sym k.says.of_b in
    same_raw raw other (h.place ∙ sym k.place) code a b (h.without ∙ sym k.without)

-- ---- by the laws of entries

module _ (unique : EntriesEnd) (nowhere : EntriesApart) (sound : EntriesWhole) (ended_sound : EndsWhole) where
  once : HasUniqueFronts (SpellsEntry Ranges)
  once = unique Ranges

  apart : EndsApart (SpellsEntry Ranges) IsListEnd
  apart = nowhere Ranges

  faultless : NeverBoth (SpellsEntry Ranges) (FaultEntry Ranges)
  faultless = sound Ranges

  ends : (kind : Kind) (at : ℕ) (e x : List ℕ) → IsListEnd e → FaultEntry Ranges kind at (e ++ x) → ⊥
  ends kind at e x end f = ended_sound Ranges (e ++ x) (e, x, end, refl) (kind, at, f)

  pub ranges_once : HasUniqueFronts (SpellsList Ranges)
  ranges_once = until_end_unique (SpellsEntry Ranges) IsListEnd once one_end apart

  -- behind the entries of a list stands its end, and so no entry
  no_more : (entries : List Entry) (tail rest more : List ℕ) → Joined (SpellsEntry Ranges) entries tail → 0 < length entries → 0 ∷ rest ≡ tail ++ more → ⊥
  no_more [] tail rest more j some e = absurd (omega (arith, some))
  no_more (entry ∷ entries) tail rest more (first, others, s, j, d) some e =
      apart entry first (0 ∷ []) (others ++ more) rest s refl (sym (append_assoc first others more) ∙ ap (λ (z : List ℕ). z ++ more) (sym d) ∙ sym e)

  more_entries : (reach : Reach) (entries others : List Entry) (front other rest more : List ℕ) → GoesOn (SpellsEntry Ranges) entries front others other → front ++ 0 ∷ rest ≡ other ++ more → length entries < length others → ⊥
  more_entries reach entries others front other rest more g e less =
      let n : length others ≡ length entries + length g.more = ap length g.values ∙ length-append entries g.more in
      let whole : front ++ 0 ∷ rest ≡ front ++ (g.tail ++ more) = e ∙ ap (λ (z : List ℕ). z ++ more) g.bytes ∙ append_assoc front g.tail more in
      no_more g.more g.tail rest more g.spelled (omega (arith, n, less)) (append_cancel_left front (0 ∷ rest) (g.tail ++ more) whole)

  -- a list that keeps the limit isn't long
  short : (reach : Reach) (entries : List Entry) (front rest bytes : List ℕ) → Joined (SpellsEntry Ranges) entries front → bytes ≡ front ++ 0 ∷ rest → length entries ≤ list_entry_limit reach → PassesLimit (SpellsEntry Ranges) reach bytes → ⊥
  short reach entries front rest bytes j e few f =
      let whole : front ++ 0 ∷ rest ≡ f.front ++ f.rest = sym e ∙ f.whole in
      let many : list_entry_limit reach < length f.entries = f.many in
      elim (joined_agree (SpellsEntry Ranges) once entries f.entries front f.front (0 ∷ rest) f.rest j f.spelled whole) [
        | inl g ↦ more_entries reach entries f.entries front f.front rest f.rest g whole (omega (arith, few, many))
        | inr g ↦ let n : length entries ≡ length f.entries + length g.more = ap length g.values ∙ length-append f.entries g.more in absurd (omega arith)
      ]

  -- no bytes of a list have a fault as an entry or the end
  no_entry_fault : (kind : Kind) (inner : ℕ) (entries : List Entry) (front rest bytes : List ℕ) → Joined (SpellsEntry Ranges) entries front → bytes ≡ front ++ 0 ∷ rest → FaultUntilEnd (SpellsEntry Ranges) (FaultEntry Ranges) kind inner bytes → ⊥
  no_entry_fault kind inner entries front rest bytes j e f =
      let whole : bytes ≡ (front ++ 0 ∷ []) ++ rest = e ∙ sym (append_assoc front (0 ∷ []) rest) in
      until_end_whole (SpellsEntry Ranges) IsListEnd (FaultEntry Ranges) once apart faultless ends entries kind inner (front ++ 0 ∷ []) rest (front, 0 ∷ [], j, refl, refl) (subst (λ (z : List ℕ). FaultUntilEnd (SpellsEntry Ranges) (FaultEntry Ranges) kind inner z) whole f)

  -- a list has none of the faults
  no_fault : (reach : Reach) (kind : Kind) (inner : ℕ) (entries : List Entry) (front rest bytes : List ℕ) → Joined (SpellsEntry Ranges) entries front → bytes ≡ front ++ 0 ∷ rest → length entries ≤ list_entry_limit reach → FaultRanges reach kind inner bytes → ⊥
  no_fault reach Limit inner entries front rest bytes j e few (inl f) = short reach entries front rest bytes j e few f.1
  no_fault reach Limit inner entries front rest bytes j e few (inr f) = no_entry_fault Limit inner entries front rest bytes j e f
  no_fault reach kind inner entries front rest bytes j e few f = no_entry_fault kind inner entries front rest bytes j e f

  pub ranges_whole : (section : List ℕ) (part : Contribution) (at : ℕ) (reach : Reach) (raws : List RawEntry) → IsRangeList section part at raws → length raws ≤ list_entry_limit reach → ¬ IsFaulty (FaultRangeList section part at reach)
  ranges_whole section part at reach raws h few = λ (f : IsFaulty (FaultRangeList section part at reach)).
      let same : length raws ≡ length h.entries = counted at raws h.entries h.front h.read in
      no_fault reach f.0 f.2.0 h.entries h.front h.rest (bytes_from section part at) (joined at raws h.entries h.front h.read) (ended section part at raws h) (omega (arith, same, few)) f.2.2

  -- ---- one reading

  one_read : (at : ℕ) (raws : List RawEntry) (es : List Entry) (a x : List ℕ) (others : List RawEntry) (ds : List Entry) (b y : List ℕ) → AreReadFrom IsRead at raws es a → AreReadFrom IsRead at others ds b → a ++ 0 ∷ x ≡ b ++ 0 ∷ y → raws ≡ others
  one_read at [] [] a x [] [] b y f g e = refl
  one_read at [] [] a x (raw ∷ others) (d ∷ ds) b y f (first, rest, k, g, h) e =
      absurd (no_more (d ∷ ds) b x (0 ∷ y) (joined at (raw ∷ others) (d ∷ ds) b (first, rest, k, g, h)) (omega arith) (ap (λ (z : List ℕ). z ++ 0 ∷ x) (sym f) ∙ e))
  one_read at (raw ∷ raws) (d ∷ es) a x [] [] b y (first, rest, k, f, h) g e =
      absurd (no_more (d ∷ es) a y (0 ∷ x) (joined at (raw ∷ raws) (d ∷ es) a (first, rest, k, f, h)) (omega arith) (ap (λ (z : List ℕ). z ++ 0 ∷ y) (sym g) ∙ sym e))
  one_read at (raw ∷ raws) (p ∷ es) a x (other ∷ others) (q ∷ ds) b y (first, rest, h, f, m) (second, more, k, g, n) e =
      let whole : first ++ (rest ++ 0 ∷ x) ≡ second ++ (more ++ 0 ∷ y) = sym (append_assoc first rest (0 ∷ x)) ∙ ap (λ (z : List ℕ). z ++ 0 ∷ x) (sym m) ∙ e ∙ ap (λ (z : List ℕ). z ++ 0 ∷ y) n ∙ append_assoc second more (0 ∷ y) in
      let one = once p q first second (rest ++ 0 ∷ x) (more ++ 0 ∷ y) h.spelled k.spelled whole in
      let after : rest ++ 0 ∷ x ≡ more ++ 0 ∷ y = append_cancel_left second (rest ++ 0 ∷ x) (more ++ 0 ∷ y) (ap (λ (z : List ℕ). z ++ (rest ++ 0 ∷ x)) (sym one.0) ∙ whole) in
      let there : AreReadFrom IsRead (at + length second) raws es rest = subst (λ (z : List ℕ). AreReadFrom IsRead (at + length z) raws es rest) one.0 f in
      ap (λ (z : RawEntry). z ∷ raws) (one_raw at raw other p q first second h k one.1) ∙ ap (λ (z : List RawEntry). other ∷ z) (one_read (at + length second) raws es rest x others ds more y there g after)
  one_read at [] (d ∷ es) a x others ds b y f g e = absurd f
  one_read at (raw ∷ raws) [] a x others ds b y f g e = absurd f
  one_read at [] [] a x [] (d ∷ ds) b y f g e = absurd g
  one_read at [] [] a x (raw ∷ others) [] b y f g e = absurd g
  one_read at (raw ∷ raws) (p ∷ es) a x [] (d ∷ ds) b y f g e = absurd g
  one_read at (raw ∷ raws) (p ∷ es) a x (other ∷ others) [] b y f g e = absurd g

  pub one_list : (section : List ℕ) (part : Contribution) (at : ℕ) (raws others : List RawEntry) → IsRangeList section part at raws → IsRangeList section part at others → raws ≡ others
  one_list section part at raws others h k = one_read at raws h.entries h.front h.rest others k.entries k.front k.rest h.read k.read (sym (ended section part at raws h) ∙ ended section part at others k)

-- ---- one meaning

same_meaning : (bounds : List Bounds) (meaning other : Meaning) → Means bounds meaning → Means bounds other → meaning ≡ other
same_meaning bounds (Live items) (Live others) h k = ap Live (h.1 ∙ sym k.1)
same_meaning bounds Dead Dead h k = refl
same_meaning bounds (Live items) Dead h k = absurd (k h.0)
same_meaning bounds Dead (Live items) h k = absurd (h k.0)

pub one_meaning : OneSaying → OneWalk → (addr : List ℕ) (context : Context) (raws : List RawEntry) (meaning other : Meaning) → IsMeaning addr context raws meaning → IsMeaning addr context raws other → meaning ≡ other
one_meaning saying walk addr context raws meaning other h k =
    let entries : h.entries ≡ k.entries = saying Ranges raws h.entries k.entries h.said k.said in
    let there : Give addr context k.entries h.bounds = subst (λ (z : List Entry). Give addr context z h.bounds) entries h.gives in
    let bounds : h.bounds ≡ k.bounds = walk addr context k.entries h.bounds k.bounds there k.gives in
    same_meaning k.bounds meaning other (subst (λ (z : List Bounds). Means z meaning) bounds h.means) k.means

pub items_whole : WalksWhole → (addr : List ℕ) (context : Context) (raws : List RawEntry) (meaning : Meaning) → IsMeaning addr context raws meaning → ¬ IsFaulty (FaultIndexes Ranges context raws)
items_whole walk addr context raws meaning h = walk Ranges addr context raws h.entries h.bounds h.said h.gives
