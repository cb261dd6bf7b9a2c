-- A record says of its part by which it is accepted or refused, and never both.
use Rattle.std.proofs.Common.{◌≡◌, ◌<◌, ◌+◌, ◌∙◌, inl, inr, ℕ, zero, suc, List, [], ◌∷◌, ◌++◌, length, get_or, map, sym, ap, subst, arith}
use Rattle.std.specs.Prelude.{Some}
use Rattle.std.proofs.lemmas.Bool.{cases_lt}
use Rattle.std.proofs.lemmas.List.{append_assoc, append_cancel_left}
use Rattle.dw_base.specs.declared.record.Run.{Run}
use Rattle.leb_codec.specs.Layout.{SlotRow, AcceptsLayout}
use Rattle.leb_codec.specs.Records.{Record, OfLines, OfList, OfLayout}
use Rattle.line_machine.specs.declared.head.Head.{Head}
use Rattle.line_machine.specs.declared.registers.Row.{Row}
use Rattle.line_machine.specs.Heads.{IsHead, program_of}
use Rattle.line_machine.proofs.Programs.{based_of, one_reading as one_program}
use Rattle.line_sums.specs.Accepted.{AreAcceptedRuns}
use Rattle.line_write.specs.Programs.{Follow}
use Rattle.line_write.specs.Records.{AreRunsFor}
use Rattle.list_model.specs.declared.context.Context.{Context}
use Rattle.list_model.specs.declared.entry.ListKind.{ListKind}
use Rattle.list_model.specs.declared.entry.ListKind.TheVariants.{Ranges, Locations}
use Rattle.list_model.specs.Entries.{Entry}
use Rattle.list_model.specs.Items.{Bounds, Give}
use Rattle.list_model.specs.Potentials.{AcceptsList}
use Rattle.list_model.proofs.EntryLaws.{entries_once, entries_whole, entries_apart, ends_whole}
use Rattle.list_model.proofs.WalkLaws.{one_saying, one_walk}
use Rattle.range_lists.proofs.RangeLaws.{ranges_once}
use Rattle.loc_lists.specs.Apart.{StandApart}
use Rattle.loc_lists.specs.Locations.{SpellsBehind}
use Rattle.loc_lists.proofs.Spans.{behind_once}
use Rattle.check_lines.specs.Refused.{IsFirstRefused as IsFirstRefusedPair}
use Rattle.line_sums.specs.Accepted.{IsPairAccepted, numbers_of}
use Rattle.line_sums.specs.declared.count.CountedStep.{CountedStep}
use Rattle.line_sums.specs.Steps.{steps_of}
use Rattle.line_sums.proofs.Ordering.{one_order}
use Rattle.check_lists.specs.Refused.{IsFirstRefused as IsFirstRefusedItem}
use Rattle.check_units.specs.Refused.{IsFirstRefused as IsFirstRefusedSlot}
use Rattle.unit_slots.specs.Standing.{HasStandingSlots}
use Rattle.written_files.specs.Certificates.{IsListWithout, HasBareBytes, ArePotentialsFor}
use Rattle.value_links.specs.Lists.{IsOwner}
use Rattle.value_links.specs.Reading.{ProgramRead, ListRead, Linkable, Reading, lists_of, list_at, context_at, program_at, line_heads, no_program}
use Rattle.value_links.specs.Sections.{debug_line}
use Rattle.value_links.specs.Whole.{IsReading}
use Rattle.check_records.specs.Accepted.{AreStandingRanks, SaysOf, accepting, refusing}
use Rattle.check_records.specs.Parts.{Part, AProgram, AList, AUnit}

-- LINE NUMBER PROGRAMS

heads_there : (section : List ℕ) (programs : List ProgramRead) (a e p : ℕ) → Follow section (line_heads programs) a e → p < length programs → IsHead section (get_or programs p no_program).head
heads_there section [] a e p follow inside = absurd (omega (arith, inside))
heads_there section (one ∷ programs) a e zero (at, is, rest) inside = is
heads_there section (one ∷ programs) a e (suc p) (at, is, rest) inside = heads_there section programs (a + one.head.len) e p rest (omega (arith, inside))

pairs_apart : (head : Head) (rows : List Row) (size : ℕ) (runs : List Run) (pair : ℕ) → AreAcceptedRuns head rows size runs → IsFirstRefusedPair head rows size runs pair → ⊥
pairs_apart head rows size runs pair given against =
    against.refused (subst (λ (z : List CountedStep). IsPairAccepted head rows size z pair (get_or (numbers_of runs) pair 0)) (one_order (steps_of rows) given.counted against.counted given.ordered against.ordered) (given.accepted pair against.there))

lines_apart : (section : List ℕ) (head : Head) (runs : List Run) (n : ℕ) → IsHead section head → AreRunsFor AreAcceptedRuns section head runs → AreRunsFor (λ head rows size runs. IsFirstRefusedPair head rows size runs n) section head runs → ⊥
lines_apart section head runs n is given against =
    let same : given.rows ≡ against.rows = one_program head (program_of section head) given.rows against.rows (based_of section head is) given.given against.given in
    pairs_apart head against.rows (length (program_of section head)) runs n (subst (λ (z : List Row). AreAcceptedRuns head z (length (program_of section head)) runs) same given.judged) against.judged

-- LISTS

-- a list has one owner
pub first_once : (r : Linkable) (kind : ListKind) (at u v : ℕ) → IsOwner r kind at (Some u) → IsOwner r kind at (Some v) → u ≡ v
first_once r kind at u v (one, first) (other, before) = elim (cases_lt u v) [
  | inl less ↦ absurd (before u less one)
  | inr rest ↦ elim (cases_lt v u) [
    | inl less ↦ absurd (first v less other)
    | inr more ↦ omega (arith, rest, more)
  ]
]

abbrev first_of : Entry × List ℕ → Entry
first_of location = location.0

-- the bytes of entries without their expressions are one
apart_once : (xs ys : List (Entry × List ℕ)) (a b p q x y : List ℕ) → map first_of xs ≡ map first_of ys → StandApart SpellsBehind xs a p → StandApart SpellsBehind ys b q → a ++ x ≡ b ++ y → p ≡ q
apart_once [] [] a b p q x y same (end, bare) (other, left) h = bare ∙ end ∙ sym other ∙ sym left
apart_once [] (two ∷ ys) a b p q x y same s t h = absurd (let size : length (map first_of []) ≡ length (map first_of (two ∷ ys)) = ap length same in omega (arith, size))
apart_once (one ∷ xs) [] a b p q x y same s t h = absurd (let size : length (map first_of (one ∷ xs)) ≡ length (map first_of []) = ap length same in omega (arith, size))
apart_once (one ∷ xs) (two ∷ ys) a b p q x y same (own, behind, rest, bare_rest, spelled, stands, more, whole, bare) (mine, after, others, bare_others, written, follows, further, all, left) h =
    let first : own ++ (behind ++ (rest ++ x)) ≡ mine ++ (after ++ (others ++ y)) = regrouped own behind rest x a whole ∙ h ∙ sym (regrouped mine after others y b all) in
    let entry = entries_once Locations one.0 two.0 own mine (behind ++ (rest ++ x)) (after ++ (others ++ y)) spelled written first in
    let second : behind ++ (rest ++ x) ≡ after ++ (others ++ y) = append_cancel_left mine (behind ++ (rest ++ x)) (after ++ (others ++ y)) (ap (λ (z : List ℕ). z ++ (behind ++ (rest ++ x))) (sym entry.0) ∙ first) in
    let moved : SpellsBehind two.0.kind one.1 behind = subst (λ (z : Entry). SpellsBehind z.kind one.1 behind) entry.1 stands in
    let gap = behind_once two.0.kind one.1 two.1 behind after (rest ++ x) (others ++ y) moved follows second in
    let third : rest ++ x ≡ others ++ y = append_cancel_left after (rest ++ x) (others ++ y) (ap (λ (z : List ℕ). z ++ (rest ++ x)) (sym gap.0) ∙ second) in
    let tails : map first_of xs ≡ map first_of ys = cc same in
    let end : bare_rest ≡ bare_others = apart_once xs ys rest others bare_rest bare_others x y tails more further third in
    bare ∙ ap (λ (z : List ℕ). z ++ bare_rest) entry.0 ∙ ap (λ (z : List ℕ). mine ++ z) end ∙ sym left
  where
    regrouped : (own behind rest x a : List ℕ) → a ≡ own ++ (behind ++ rest) → own ++ (behind ++ (rest ++ x)) ≡ a ++ x
    regrouped own behind rest x a whole = sym (ap (λ (z : List ℕ). z ++ x) whole ∙ append_assoc own (behind ++ rest) x ∙ ap (λ (z : List ℕ). own ++ z) (append_assoc behind rest x))

without_once : (kind : ListKind) (entries : List Entry) (a b p q x y : List ℕ) → IsListWithout kind entries a p → IsListWithout kind entries b q → a ++ x ≡ b ++ y → p ≡ q
without_once Ranges entries a b p q x y (s, e) (t, f) h = sym e ∙ (ranges_once entries_once entries_apart entries_whole ends_whole entries entries a b x y s t h).0 ∙ f
without_once Locations entries a b p q x y (xs, e, s) (ys, f, t) h = apart_once xs ys a b p q x y (e ∙ sym f) s t h

bare_once : (kind : ListKind) (s : Linkable) (list : ListRead) (entries : List Entry) (p q : List ℕ) → HasBareBytes kind s list entries p → HasBareBytes kind s list entries q → p ≡ q
bare_once kind s list entries p q a b = without_once kind entries a.bytes b.bytes p q a.rest b.rest a.without b.without (sym a.stands ∙ b.stands)

items_apart : (addr : List ℕ) (context : Context) (items : List Bounds) (potentials : List ℕ) (size n : ℕ) → AcceptsList addr context items potentials size → IsFirstRefusedItem addr context items potentials size n → ⊥
items_apart addr context items potentials size n given (inl other) = other.other given.each
items_apart addr context items potentials size n given (inr (inl item)) = item.refused (given.accepted n item.there)
items_apart addr context items potentials size n given (inr (inr last)) = last.refused given.of_size

lists_apart : (kind : ListKind) (s : Reading) (k n : ℕ) (potentials : List ℕ) → ArePotentialsFor AcceptsList kind s k potentials → ArePotentialsFor (λ addr context items potentials size. IsFirstRefusedItem addr context items potentials size n) kind s k potentials → ⊥
lists_apart kind s k n potentials given against =
    let addresses : List ℕ = s.links.addresses in
    let owner : given.u ≡ against.u = first_once s.links kind (list_at (lists_of s kind) k).at given.u against.u given.owner against.owner in
    let entries : given.entries ≡ against.entries = one_saying kind (list_at (lists_of s kind) k).raws given.entries against.entries given.said against.said in
    let context : context_at s.links given.u ≡ context_at s.links against.u = ap (λ (u : ℕ). context_at s.links u) owner in
    let gives : Give addresses (context_at s.links against.u) against.entries given.bounds = subst (λ (z : List Entry). Give addresses (context_at s.links against.u) z given.bounds) entries (subst (λ (z : Context). Give addresses z given.entries given.bounds) context given.gives) in
    let bounds : given.bounds ≡ against.bounds = one_walk addresses (context_at s.links against.u) against.entries given.bounds against.bounds gives against.gives in
    let stands : HasBareBytes kind s.links (list_at (lists_of s kind) k) against.entries given.bare = subst (λ (z : List Entry). HasBareBytes kind s.links (list_at (lists_of s kind) k) z given.bare) entries given.stands in
    let bare : given.bare ≡ against.bare = bare_once kind s.links (list_at (lists_of s kind) k) against.entries given.bare against.bare stands against.stands in
    let first : AcceptsList addresses (context_at s.links against.u) given.bounds potentials (length given.bare) = subst (λ (z : Context). AcceptsList addresses z given.bounds potentials (length given.bare)) context given.judged in
    let second : AcceptsList addresses (context_at s.links against.u) against.bounds potentials (length given.bare) = subst (λ (z : List Bounds). AcceptsList addresses (context_at s.links against.u) z potentials (length given.bare)) bounds first in
    let third : AcceptsList addresses (context_at s.links against.u) against.bounds potentials (length against.bare) = subst (λ (z : List ℕ). AcceptsList addresses (context_at s.links against.u) against.bounds potentials (length z)) bare second in
    items_apart addresses (context_at s.links against.u) against.bounds potentials (length against.bare) n third against.judged

-- UNITS

-- no sizes and ranks are both accepted and refused
slots_apart : (rows : List SlotRow) (sizes ranks : List ℕ) (n : ℕ) → AcceptsLayout rows sizes ranks → IsFirstRefusedSlot rows sizes ranks n → ⊥
slots_apart rows sizes ranks n given (inl against) = against.refused (given.slots n against.there)
slots_apart rows sizes ranks n given (inr against) = omega (arith, given.none_left, against.left)

-- the slots of a unit stand in a file in one way
abbrev pub StandOnce : Reading → ℕ → Type 0
StandOnce s u = (rows others : List SlotRow) (sizes more : List ℕ) → HasStandingSlots s u rows sizes → HasStandingSlots s u others more → (rows ≡ others) × (sizes ≡ more)

units_apart : (s : Reading) (u n : ℕ) (ranks : List ℕ) → StandOnce s u → AreStandingRanks AcceptsLayout s u ranks → AreStandingRanks (λ rows sizes ranks. IsFirstRefusedSlot rows sizes ranks n) s u ranks → ⊥
units_apart s u n ranks once (rows, sizes, stand, given) (others, more, standing, against) =
    let same = once rows others sizes more stand standing in
    let first : AcceptsLayout others sizes ranks = subst (λ (z : List SlotRow). AcceptsLayout z sizes ranks) same.0 given in
    slots_apart others more ranks n (subst (λ (z : List ℕ). AcceptsLayout others z ranks) same.1 first) against

-- ALL PARTS

-- what a part names is there
abbrev pub IsKnown : Reading → Part → Type 0
IsKnown s (AProgram i) = i < length s.links.programs
IsKnown s (AList kind k) = k < length (lists_of s kind)
IsKnown s (AUnit u) = u < length s.links.units

pub says_apart : (written : List ℕ) (s : Reading) (part : Part) (one : Record) (n : ℕ) → IsReading written s → ((u : ℕ) → u < length s.links.units → StandOnce s u) → IsKnown s part → SaysOf accepting (debug_line written) s part one → SaysOf (refusing n) (debug_line written) s part one → ⊥
says_apart written s (AProgram i) (OfLines runs) n read once known given against =
    lines_apart (debug_line written) (program_at s.links i).head runs n (heads_there (debug_line written) s.links.programs 0 (length (debug_line written)) i read.links.programs.tiled known) given against
says_apart written s (AList kind k) (OfList potentials) n read once known given against = lists_apart kind s k n potentials given against
says_apart written s (AUnit u) (OfLayout ranks) n read once known given against = units_apart s u n ranks (once u known) given against
says_apart written s (AProgram i) (OfList potentials) n read once known given against = given
says_apart written s (AProgram i) (OfLayout ranks) n read once known given against = given
says_apart written s (AList kind k) (OfLines runs) n read once known given against = given
says_apart written s (AList kind k) (OfLayout ranks) n read once known given against = given
says_apart written s (AUnit u) (OfLines runs) n read once known given against = given
says_apart written s (AUnit u) (OfList potentials) n read once known given against = given
