-- The bytes of a list of a kind that are in order, or have a fault.
use Rattle.std.proofs.Common.{◌≡◌, ◌≢◌, ◌<◌, ◌+◌, ◌⊎◌, ◌++◌, ◌∙◌, inl, inr, ℕ, List, [], ◌∷◌, length, sym, ap, subst, refl, arith}
use Rattle.std.specs.Prelude.{Bool, true, false}
use Rattle.std.proofs.lemmas.Bool.{true≢false}
use Rattle.std.proofs.lemmas.List.{length-append}
use Rattle.spelled.specs.Spelled.{Joined}
use Rattle.dw_base.specs.declared.fault.Kind.{Kind}
use Rattle.dw_base.specs.declared.fault.Kind.TheVariants.{Limit}
use Rattle.dw_base.specs.declared.fault.Reach.{Reach}
use Rattle.dw_base.specs.declared.fault.Refusal.{Refusal}
use Rattle.dw_base.specs.declared.fault.Span.{Span}
use Rattle.dw_base.specs.Refusals.{IsFaultOf, IsRefusedFor}
use Rattle.value_links.proofs.Refusing.{refused_more}
use Rattle.list_model.specs.declared.context.Context.{Context}
use Rattle.list_model.specs.declared.contribution.Contribution.{Contribution}
use Rattle.list_model.specs.declared.entry.EntryKind.{EntryKind}
use Rattle.list_model.specs.declared.entry.EntryKind.TheVariants.{BaseAddressx, BaseAddress}
use Rattle.list_model.specs.declared.entry.ListKind.{ListKind}
use Rattle.list_model.specs.declared.entry.ListKind.TheVariants.{Ranges, Locations}
use Rattle.list_model.specs.declared.entry.RawEntry.{RawEntry}
use Rattle.list_model.specs.Entries.{Entry, SpellsEntry, no_expr}
use Rattle.list_model.specs.Reading.{AreReadFrom, list_entry_limit}
use Rattle.range_lists.specs.Ranges.{IsRead as IsRangeRead}
use Rattle.loc_lists.specs.Locations.{SpellsExpression, SpellsBehind, SpellsLocation, FaultBehind, FaultLocation, IsExpressionSpan}
use Rattle.loc_lists.specs.Locations.{IsRead as IsLocationRead}
use Rattle.value_links.specs.declared.lists.ListTotals.{ListTotals}
use Rattle.value_links.specs.Reading.{ListSection, part_at}
use Rattle.value_links.specs.Lists.{IsListOf}
use Rattle.value_links.specs.ListFaults.{BeginsWith}
use Rattle.value_links.specs.inside.NamedLists.{FaultListOf, PassesBy, FaultBy}

-- REFUSALS

-- a refusal for faults is one for all that they are
pub refused_for : (P Q : Kind → ℕ → Type 0) → ((kind : Kind) (place : ℕ) → P kind place → Q kind place) → (origin : ℕ) (refusal : Refusal) → IsRefusedFor (IsFaultOf P origin) refusal → IsRefusedFor (IsFaultOf Q origin) refusal
refused_for P Q more origin refusal = refused_more (IsFaultOf P origin) (IsFaultOf Q origin) (λ fault (place, e, f). (place, e, more fault.kind place f)) refusal

-- KINDS

abbrev is_limit : Kind → Bool
is_limit Limit = true
is_limit kind = false

pub limit_or_not : (kind : Kind) → (kind ≡ Limit) ⊎ (kind ≢ Limit)
limit_or_not Limit = inl refl
limit_or_not kind = inr (λ (e : kind ≡ Limit). true≢false (sym (ap is_limit e)))

-- ENTRIES

-- what is read of entries that bytes spell
ranges_of : (at : ℕ) (entries : List Entry) (bytes : List ℕ) → Joined (SpellsEntry Ranges) entries bytes → (raws : List RawEntry) × AreReadFrom IsRangeRead at raws entries bytes × (length raws ≡ length entries)
ranges_of at [] bytes e = ([], e, refl)
ranges_of at (entry ∷ entries) bytes (first, rest, spelled, joined, e) =
    let later = ranges_of (at + length first) entries rest joined in
    let raw : RawEntry = record { at = at; code = spelled.code; a = entry.a; b = entry.b; expr = no_expr } in
    let read : IsRangeRead at raw entry first = record { place = refl; says = record { of_code = spelled.known; of_a = refl; of_b = refl }; without = refl; spelled = spelled } in
    let counted : length later.0 ≡ length entries = later.2 in
    (raw ∷ later.0, (first, rest, read, later.1, e), omega arith)

-- the span of an expression behind an entry, which ends where the bytes of both do
span_by : (at : ℕ) (first second expression bytes : List ℕ) → SpellsExpression expression second → bytes ≡ first ++ second → (span : Span) × ((span.len ≡ length expression) × (span.at + span.len ≡ at + length bytes))
span_by at first second expression bytes s e =
    let whole : length bytes ≡ length first + length second = ap length e ∙ length-append first second in
    let behind : length second ≡ length s.head + length expression = ap length s.whole ∙ length-append s.head expression in
    (record { at = at + (length first + length s.head); len = length expression }, (refl, omega arith))

span_of : (kind : EntryKind) (at : ℕ) (first second expression bytes : List ℕ) → SpellsBehind kind expression second → bytes ≡ first ++ second → (span : Span) × IsExpressionSpan kind span expression (at + length bytes)
span_of BaseAddressx at first second expression bytes s e = (no_expr, refl)
span_of BaseAddress at first second expression bytes s e = (no_expr, refl)
span_of kind at first second expression bytes s e = span_by at first second expression bytes s e

locations_of : (at : ℕ) (locations : List (Entry × List ℕ)) (bytes : List ℕ) → Joined SpellsLocation locations bytes → (raws : List RawEntry) × AreReadFrom IsLocationRead at raws locations bytes × (length raws ≡ length locations)
locations_of at [] bytes e = ([], e, refl)
locations_of at (location ∷ locations) bytes (first, rest, spelled, joined, e) =
    let later = locations_of (at + length first) locations rest joined in
    let (front, back, entry, behind, parts) = spelled in
    let (span, lies) = span_of location.0.kind at front back location.1 first behind parts in
    let raw : RawEntry = record { at = at; code = entry.code; a = location.0.a; b = location.0.b; expr = span } in
    let read : IsLocationRead at raw location first = record { place = refl; says = record { of_code = entry.known; of_a = refl; of_b = refl }; expression = lies; spelled = spelled } in
    let counted : length later.0 ≡ length locations = later.2 in
    (raw ∷ later.0, (first, rest, read, later.1, e), omega arith)

-- a list that is read begins with its entries
pub read_begins : (of : ListKind) (section : List ℕ) (part : Contribution) (at : ℕ) (raws : List RawEntry) → IsListOf of section part at raws → BeginsWith of section part at raws
read_begins Ranges section part at raws h = (h.entries, h.front, h.end ++ h.rest, h.read, h.whole)
read_begins Locations section part at raws h = (h.entries, h.front, h.end ++ h.rest, h.read, h.whole)

-- no bytes of a location pass a limit
no_behind : (kind : EntryKind) (place : ℕ) (bytes : List ℕ) → FaultBehind kind Limit place bytes → ⊥
no_behind BaseAddressx place bytes f = f
no_behind BaseAddress place bytes f = f
no_behind kind place bytes f = f

no_location : (place : ℕ) (bytes : List ℕ) → FaultLocation Limit place bytes → ⊥
no_location place bytes (inl f) = f
no_location place bytes (inr (entry, first, rest, inner, spelled, f, e, here)) = no_behind entry.kind inner rest f

-- a list that alone has too many entries
limit_begins : (of : ListKind) (section : List ℕ) (part : Contribution) (at : ℕ) (reach : Reach) (place : ℕ) → FaultListOf of section part at reach Limit place → (place ≡ at) × ((raws : List RawEntry) × BeginsWith of section part at raws × (list_entry_limit reach < length raws))
limit_begins Ranges section part at reach place (inner, here, inl (first, h)) =
    let found = ranges_of at h.entries h.front h.spelled in
    let many : list_entry_limit reach < length h.entries = h.many in
    let counted : length found.0 ≡ length h.entries = found.2 in
    (omega arith, (found.0, (h.entries, h.front, h.rest, found.1, h.whole), omega arith))
limit_begins Ranges section part at reach place (inner, here, inr f) = absurd f.fault
limit_begins Locations section part at reach place (inner, here, inl (first, h)) =
    let found = locations_of at h.entries h.front h.spelled in
    let many : list_entry_limit reach < length h.entries = h.many in
    let counted : length found.0 ≡ length h.entries = found.2 in
    (omega arith, (found.0, (h.entries, h.front, h.rest, found.1, h.whole), omega arith))
limit_begins Locations section part at reach place (inner, here, inr f) = absurd (no_location f.inner f.rest f.fault)

-- FAULTS

module _ (of : ListKind) (section : ListSection) (contexts : List Context) (named : List (ℕ × ℕ)) (reach : Reach) (before : ListTotals) (p at : ℕ) where
  limit_fault : (place : ℕ) → FaultListOf of section.section (part_at section p) at reach Limit place → FaultBy of section contexts named reach before p at Limit place
  limit_fault place f =
      let (here, (raws, begins, many)) = limit_begins of section.section (part_at section p) at reach place f in
      let past : list_entry_limit reach < length raws = many in
      inr (inr (refl, here, (raws, begins, inl (omega arith))))

  -- what the reader of a list refuses
  pub bytes_fault : (kind : Kind) (place : ℕ) → FaultListOf of section.section (part_at section p) at reach kind place → FaultBy of section contexts named reach before p at kind place
  bytes_fault kind place f = elim (limit_or_not kind) [
    | inl limit ↦ subst (λ (z : Kind). FaultBy of section contexts named reach before p at z place) (sym limit) (limit_fault place (subst (λ (z : Kind). FaultListOf of section.section (part_at section p) at reach z place) limit f))
    | inr other ↦ inl (other, f)
  ]

  -- a list with which there is more than a limit
  pub total_fault : (raws : List RawEntry) → IsListOf of section.section (part_at section p) at raws → PassesBy reach before raws → FaultBy of section contexts named reach before p at Limit at
  total_fault raws read past = inr (inr (refl, refl, (raws, read_begins of section.section (part_at section p) at raws read, past)))
