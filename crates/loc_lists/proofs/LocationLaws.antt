-- The bytes of location lists.
use Rattle.std.proofs.Common.{◌≡◌, ◌≤◌, ◌<◌, ◌+◌, ◌-◌, ◌++◌, ◌∙◌, ℕ, List, [], ◌∷◌, length, drop, sym, ap, refl, subst, arith, inl, inr}
use Rattle.std.proofs.lemmas.List.{append_assoc, append_cancel_left, length-append, take-append-drop}
use Rattle.std.proofs.lemmas.Option.{same_Some}
use Rattle.spelled.specs.Spelled.{HasUniqueFronts, NeverBoth, EndsApart, Joined, FaultUntilEnd}
use Rattle.spelled.specs.inside.Spelled.{HasOneEnd, GoesOn}
use Rattle.spelled.proofs.Joins.{then_once, then_whole, until_end_unique, until_end_whole, joined_agree}
use Rattle.dw_base.specs.declared.fault.Span.{Span}
use Rattle.dw_base.specs.declared.fault.Kind.{Kind}
use Rattle.dw_base.specs.declared.fault.Kind.TheVariants.{Limit}
use Rattle.dw_base.specs.declared.fault.Reach.{Reach}
use Rattle.dw_base.specs.Refusals.{IsFaulty}
use Rattle.list_model.specs.declared.contribution.Contribution.{Contribution}
use Rattle.list_model.specs.declared.entry.ListKind.TheVariants.{Locations}
use Rattle.list_model.specs.declared.entry.RawEntry.{RawEntry}
use Rattle.list_model.specs.Contributions.{part_end, bytes_from}
use Rattle.list_model.specs.Entries.{code_of, Entry, SpellsEntry, IsListEnd, FaultEntry, AreSaid}
use Rattle.list_model.specs.Reading.{AreReadFrom, list_entry_limit, PassesLimit}
use Rattle.list_model.specs.Laws.{EntriesEnd, EntriesApart, EntriesWhole, EndsWhole}
use Rattle.loc_lists.specs.Locations.{SpellsBehind, FaultBehind, SpellsLocation, FaultLocation, SpellsLocationList, IsExpressionSpan, IsRead, IsLocationList, FaultLocations, FaultLocationList, entries_of}
use Rattle.loc_lists.specs.Laws.{AreTold}
use Rattle.loc_lists.proofs.Spans.{behind_once, behind_whole, span_once, span_of, span_holds, expressions_told}

one_end : HasOneEnd IsListEnd
one_end a b x y e f h = e ∙ sym f

-- what is read is the entries of the bytes
pub joined : (at : ℕ) (raws : List RawEntry) (locations : List (Entry × List ℕ)) (bytes : List ℕ) → AreReadFrom IsRead at raws locations bytes → Joined SpellsLocation locations bytes
joined at [] [] bytes e = e
joined at (raw ∷ raws) (location ∷ locations) bytes (first, rest, h, f, e) = (first, rest, h.spelled, joined (at + length first) raws locations rest f, e)
joined at [] (location ∷ locations) bytes f = absurd f
joined at (raw ∷ raws) [] bytes f = absurd f

-- what is read says these entries
pub said : (at : ℕ) (raws : List RawEntry) (locations : List (Entry × List ℕ)) (bytes : List ℕ) → AreReadFrom IsRead at raws locations bytes → AreSaid Locations raws (entries_of locations)
said at [] [] bytes e = tt
said at (raw ∷ raws) (location ∷ locations) bytes (first, rest, h, f, e) = (h.says, said (at + length first) raws locations rest f)
said at [] (location ∷ locations) bytes f = absurd f
said at (raw ∷ raws) [] bytes f = absurd f

pub counted : (at : ℕ) (raws : List RawEntry) (locations : List (Entry × List ℕ)) (bytes : List ℕ) → AreReadFrom IsRead at raws locations bytes → length raws ≡ length locations
counted at [] [] bytes e = refl
counted at (raw ∷ raws) (location ∷ locations) bytes (first, rest, h, f, e) = let n : length raws ≡ length locations = counted (at + length first) raws locations rest f in omega arith
counted at [] (location ∷ locations) bytes f = absurd f
counted at (raw ∷ raws) [] bytes f = absurd f

-- the bytes of a list that is read, with its end
ended : (section : List ℕ) (part : Contribution) (at : ℕ) (raws : List RawEntry) (h : IsLocationList section part at raws) → bytes_from section part at ≡ h.front ++ 0 ∷ h.rest
ended section part at raws h = h.whole ∙ ap (λ (z : List ℕ). h.front ++ (z ++ h.rest)) h.ended

-- what stands in a contribution stands in its section
in_section : (section : List ℕ) (part : Contribution) (at : ℕ) (front rest : List ℕ) → bytes_from section part at ≡ front ++ rest → drop at section ≡ front ++ (rest ++ drop (part_end part - at) (drop at section))
in_section section part at front rest e =
    let size = part_end part - at in
    sym (take-append-drop size (drop at section)) ∙ ap (λ (z : List ℕ). z ++ drop size (drop at section)) e ∙ append_assoc front rest (drop size (drop at section))

told : (section : List ℕ) (part : Contribution) (at : ℕ) (raws : List RawEntry) (locations : List (Entry × List ℕ)) (front rest : List ℕ) → AreReadFrom IsRead at raws locations front → bytes_from section part at ≡ front ++ rest → AreTold section raws locations
told section part at raws locations front rest f e = record {
  said = said at raws locations front f;
  expressions = expressions_told section at raws locations front (rest ++ drop (part_end part - at) (drop at section)) f (in_section section part at front rest e);
}

pub spelled : (section : List ℕ) (part : Contribution) (at : ℕ) (raws : List RawEntry) → IsLocationList section part at raws → (locations : List (Entry × List ℕ)) × (bytes : List ℕ) × (rest : List ℕ) × AreTold section raws locations × SpellsLocationList locations bytes × (bytes_from section part at ≡ bytes ++ rest)
spelled section part at raws h =
    (h.entries, h.front ++ h.end, h.rest, told section part at raws h.entries h.front (h.end ++ h.rest) h.read h.whole, (h.front, h.end, joined at raws h.entries h.front h.read, h.ended, refl), h.whole ∙ sym (append_assoc h.front h.end h.rest))

-- entries that are spelled from a place on are read from there
read_one : (at : ℕ) (location : Entry × List ℕ) (first : List ℕ) → SpellsLocation location first → (raw : RawEntry) × IsRead at raw location first
read_one at location first (operands, behind, s, t, e) =
    let end : ℕ = at + length first in
    let size : length first ≡ length operands + length behind = ap length e ∙ length-append operands behind in
    let within : length behind ≤ end = omega arith in
    let raw : RawEntry = record { at = at; code = s.code; a = location.0.a; b = location.0.b; expr = span_of location.0.kind location.1 end } in
    (raw, record { place = refl; says = record { of_code = s.known; of_a = refl; of_b = refl }; expression = span_holds location.0.kind location.1 behind end t within; spelled = (operands, behind, s, t, e) })

read_spelled : (at : ℕ) (locations : List (Entry × List ℕ)) (bytes : List ℕ) → Joined SpellsLocation locations bytes → (raws : List RawEntry) × AreReadFrom IsRead at raws locations bytes
read_spelled at [] bytes e = ([], e)
read_spelled at (location ∷ locations) bytes (first, rest, s, j, e) =
    let one = read_one at location first s in
    let more = read_spelled (at + length first) locations rest j in
    (one.0 ∷ more.0, (first, rest, one.1, more.1, e))

pub written : (section : List ℕ) (part : Contribution) (at : ℕ) (locations : List (Entry × List ℕ)) (bytes rest : List ℕ) → bytes_from section part at ≡ bytes ++ rest → SpellsLocationList locations bytes → (raws : List RawEntry) × IsLocationList section part at raws × AreTold section raws locations
written section part at locations bytes rest whole (front, end, j, is, e) =
    let read = read_spelled at locations front j in
    let there : bytes_from section part at ≡ front ++ (end ++ rest) = whole ∙ ap (λ (z : List ℕ). z ++ rest) e ∙ append_assoc front end rest in
    (read.0, record { entries = locations; front = front; end = end; rest = rest; read = read.1; ended = is; whole = there }, told section part at read.0 locations front (end ++ rest) read.1 there)

same_raw : (raw other : RawEntry) → raw.at ≡ other.at → raw.code ≡ other.code → raw.a ≡ other.a → raw.b ≡ other.b → raw.expr ≡ other.expr → raw ≡ other
same_raw raw other at code a b expr =
    ap (λ (z : ℕ). record { at = z; code = raw.code; a = raw.a; b = raw.b; expr = raw.expr }) at
    ∙ ap (λ (z : ℕ). record { at = other.at; code = z; a = raw.a; b = raw.b; expr = raw.expr }) code
    ∙ ap (λ (z : ℕ). record { at = other.at; code = other.code; a = z; b = raw.b; expr = raw.expr }) a
    ∙ ap (λ (z : ℕ). record { at = other.at; code = other.code; a = other.a; b = z; expr = raw.expr }) b
    ∙ ap (λ (z : Span). record { at = other.at; code = other.code; a = other.a; b = other.b; expr = z }) expr

-- what is read of an entry at a place is one thing
one_raw : (at : ℕ) (raw other : RawEntry) (v w : Entry × List ℕ) (first second : List ℕ) → IsRead at raw v first → IsRead at other w second → v ≡ w → first ≡ second → raw ≡ other
one_raw at raw other v w first second h k e f =
    let code : raw.code ≡ other.code = same_Some raw.code other.code (sym h.says.of_code ∙ ap (λ (z : Entry × List ℕ). code_of Locations z.0.kind) e ∙ k.says.of_code) in
    let a : raw.a ≡ other.a = h.says.of_a ∙ ap (λ (z : Entry × List ℕ). z.0.a) e ∙ sym k.says.of_a in
    let b : raw.b ≡ other.b = h.says.of_b ∙ ap (λ (z : Entry × List ℕ). z.0.b) e ∙ sym k.says.of_b in
    let moved : IsExpressionSpan w.0.kind raw.expr w.1 (at + length first) = subst (λ (z : Entry × List ℕ). IsExpressionSpan z.0.kind raw.expr z.1 (at + length first)) e h.expression in
    let there : IsExpressionSpan w.0.kind raw.expr w.1 (at + length second) = subst (λ (z : List ℕ). IsExpressionSpan w.0.kind raw.expr w.1 (at + length z)) f moved in
    same_raw raw other (h.place ∙ sym k.place) code a b (span_once w.0.kind raw.expr other.expr w.1 (at + length second) there k.expression)

-- ---- by the laws of entries

module _ (unique : EntriesEnd) (nowhere : EntriesApart) (sound : EntriesWhole) (ended_sound : EndsWhole) where
  pub once : HasUniqueFronts SpellsLocation
  once = then_once (SpellsEntry Locations) (λ (entry : Entry). SpellsBehind entry.kind) (unique Locations) (λ (entry : Entry). behind_once entry.kind)

  pub apart : EndsApart SpellsLocation IsListEnd
  apart v a b x y (first, second, s, t, whole) end e =
      nowhere Locations v.0 first b (second ++ x) y s end (sym (append_assoc first second x) ∙ ap (λ (z : List ℕ). z ++ x) (sym whole) ∙ e)

  pub faultless : NeverBoth SpellsLocation FaultLocation
  faultless = then_whole (SpellsEntry Locations) (λ (entry : Entry). SpellsBehind entry.kind) (FaultEntry Locations) (λ (entry : Entry). FaultBehind entry.kind) (unique Locations) (sound Locations) (λ (entry : Entry). behind_whole entry.kind)

  ends : (kind : Kind) (at : ℕ) (e x : List ℕ) → IsListEnd e → FaultLocation kind at (e ++ x) → ⊥
  ends kind at e x end (inl f) = ended_sound Locations (e ++ x) (e, x, end, refl) (kind, at, f)
  ends kind at e x end (inr (entry, first, rest, inner, s, f, whole, place)) = nowhere Locations entry first e rest x s end (sym whole)

  pub locations_once : HasUniqueFronts SpellsLocationList
  locations_once = until_end_unique SpellsLocation IsListEnd once one_end apart

  -- behind the entries of a list stands its end, and so no entry
  no_more : (locations : List (Entry × List ℕ)) (tail rest more : List ℕ) → Joined SpellsLocation locations tail → 0 < length locations → 0 ∷ rest ≡ tail ++ more → ⊥
  no_more [] tail rest more j some e = absurd (omega (arith, some))
  no_more (location ∷ locations) tail rest more (first, others, s, j, d) some e =
      apart location first (0 ∷ []) (others ++ more) rest s refl (sym (append_assoc first others more) ∙ ap (λ (z : List ℕ). z ++ more) (sym d) ∙ sym e)

  more_entries : (entries others : List (Entry × List ℕ)) (front other rest more : List ℕ) → GoesOn SpellsLocation entries front others other → front ++ 0 ∷ rest ≡ other ++ more → length entries < length others → ⊥
  more_entries entries others front other rest more g e less =
      let n : length others ≡ length entries + length g.more = ap length g.values ∙ length-append entries g.more in
      let whole : front ++ 0 ∷ rest ≡ front ++ (g.tail ++ more) = e ∙ ap (λ (z : List ℕ). z ++ more) g.bytes ∙ append_assoc front g.tail more in
      no_more g.more g.tail rest more g.spelled (omega (arith, n, less)) (append_cancel_left front (0 ∷ rest) (g.tail ++ more) whole)

  -- a list that keeps the limit isn't long
  short : (reach : Reach) (entries : List (Entry × List ℕ)) (front rest bytes : List ℕ) → Joined SpellsLocation entries front → bytes ≡ front ++ 0 ∷ rest → length entries ≤ list_entry_limit reach → PassesLimit SpellsLocation reach bytes → ⊥
  short reach entries front rest bytes j e few f =
      let whole : front ++ 0 ∷ rest ≡ f.front ++ f.rest = sym e ∙ f.whole in
      let many : list_entry_limit reach < length f.entries = f.many in
      elim (joined_agree SpellsLocation once entries f.entries front f.front (0 ∷ rest) f.rest j f.spelled whole) [
        | inl g ↦ more_entries entries f.entries front f.front rest f.rest g whole (omega (arith, few, many))
        | inr g ↦ let n : length entries ≡ length f.entries + length g.more = ap length g.values ∙ length-append f.entries g.more in absurd (omega arith)
      ]

  -- no bytes of a list have a fault as an entry or the end
  no_entry_fault : (kind : Kind) (inner : ℕ) (entries : List (Entry × List ℕ)) (front rest bytes : List ℕ) → Joined SpellsLocation entries front → bytes ≡ front ++ 0 ∷ rest → FaultUntilEnd SpellsLocation FaultLocation kind inner bytes → ⊥
  no_entry_fault kind inner entries front rest bytes j e f =
      let whole : bytes ≡ (front ++ 0 ∷ []) ++ rest = e ∙ sym (append_assoc front (0 ∷ []) rest) in
      until_end_whole SpellsLocation IsListEnd FaultLocation once apart faultless ends entries kind inner (front ++ 0 ∷ []) rest (front, 0 ∷ [], j, refl, refl) (subst (λ (z : List ℕ). FaultUntilEnd SpellsLocation FaultLocation kind inner z) whole f)

  -- a list has none of the faults
  no_fault : (reach : Reach) (kind : Kind) (inner : ℕ) (entries : List (Entry × List ℕ)) (front rest bytes : List ℕ) → Joined SpellsLocation entries front → bytes ≡ front ++ 0 ∷ rest → length entries ≤ list_entry_limit reach → FaultLocations reach kind inner bytes → ⊥
  no_fault reach Limit inner entries front rest bytes j e few (inl f) = short reach entries front rest bytes j e few f.1
  no_fault reach Limit inner entries front rest bytes j e few (inr f) = no_entry_fault Limit inner entries front rest bytes j e f
  no_fault reach kind inner entries front rest bytes j e few f = no_entry_fault kind inner entries front rest bytes j e f

  pub locations_whole : (section : List ℕ) (part : Contribution) (at : ℕ) (reach : Reach) (raws : List RawEntry) → IsLocationList section part at raws → length raws ≤ list_entry_limit reach → ¬ IsFaulty (FaultLocationList section part at reach)
  locations_whole section part at reach raws h few = λ (f : IsFaulty (FaultLocationList section part at reach)).
      let same : length raws ≡ length h.entries = counted at raws h.entries h.front h.read in
      no_fault reach f.0 f.2.0 h.entries h.front h.rest (bytes_from section part at) (joined at raws h.entries h.front h.read) (ended section part at raws h) (omega (arith, same, few)) f.2.2

  -- ---- one reading

  one_read : (at : ℕ) (raws : List RawEntry) (es : List (Entry × List ℕ)) (a x : List ℕ) (others : List RawEntry) (ds : List (Entry × List ℕ)) (b y : List ℕ) → AreReadFrom IsRead at raws es a → AreReadFrom IsRead at others ds b → a ++ 0 ∷ x ≡ b ++ 0 ∷ y → raws ≡ others
  one_read at [] [] a x [] [] b y f g e = refl
  one_read at [] [] a x (raw ∷ others) (d ∷ ds) b y f (first, rest, k, g, h) e =
      absurd (no_more (d ∷ ds) b x (0 ∷ y) (joined at (raw ∷ others) (d ∷ ds) b (first, rest, k, g, h)) (omega arith) (ap (λ (z : List ℕ). z ++ 0 ∷ x) (sym f) ∙ e))
  one_read at (raw ∷ raws) (d ∷ es) a x [] [] b y (first, rest, k, f, h) g e =
      absurd (no_more (d ∷ es) a y (0 ∷ x) (joined at (raw ∷ raws) (d ∷ es) a (first, rest, k, f, h)) (omega arith) (ap (λ (z : List ℕ). z ++ 0 ∷ y) (sym g) ∙ sym e))
  one_read at (raw ∷ raws) (p ∷ es) a x (other ∷ others) (q ∷ ds) b y (first, rest, h, f, m) (second, more, k, g, n) e =
      let whole : first ++ (rest ++ 0 ∷ x) ≡ second ++ (more ++ 0 ∷ y) = sym (append_assoc first rest (0 ∷ x)) ∙ ap (λ (z : List ℕ). z ++ 0 ∷ x) (sym m) ∙ e ∙ ap (λ (z : List ℕ). z ++ 0 ∷ y) n ∙ append_assoc second more (0 ∷ y) in
      let one = once p q first second (rest ++ 0 ∷ x) (more ++ 0 ∷ y) h.spelled k.spelled whole in
      let after : rest ++ 0 ∷ x ≡ more ++ 0 ∷ y = append_cancel_left second (rest ++ 0 ∷ x) (more ++ 0 ∷ y) (ap (λ (z : List ℕ). z ++ (rest ++ 0 ∷ x)) (sym one.0) ∙ whole) in
      let there : AreReadFrom IsRead (at + length second) raws es rest = subst (λ (z : List ℕ). AreReadFrom IsRead (at + length z) raws es rest) one.0 f in
      ap (λ (z : RawEntry). z ∷ raws) (one_raw at raw other p q first second h k one.1 one.0) ∙ ap (λ (z : List RawEntry). other ∷ z) (one_read (at + length second) raws es rest x others ds more y there g after)
  one_read at [] (d ∷ es) a x others ds b y f g e = absurd f
  one_read at (raw ∷ raws) [] a x others ds b y f g e = absurd f
  one_read at [] [] a x [] (d ∷ ds) b y f g e = absurd g
  one_read at [] [] a x (raw ∷ others) [] b y f g e = absurd g
  one_read at (raw ∷ raws) (p ∷ es) a x [] (d ∷ ds) b y f g e = absurd g
  one_read at (raw ∷ raws) (p ∷ es) a x (other ∷ others) [] b y f g e = absurd g

  pub one_list : (section : List ℕ) (part : Contribution) (at : ℕ) (raws others : List RawEntry) → IsLocationList section part at raws → IsLocationList section part at others → raws ≡ others
  one_list section part at raws others h k = one_read at raws h.entries h.front h.rest others k.entries k.front k.rest h.read k.read (sym (ended section part at raws h) ∙ ended section part at others k)
