use Rattle.std.proofs.Common.{◌≡◌, ◌≢◌, ◌≤◌, ◌<◌, ◌∙◌, inl, inr, ℕ, List, length, drop, ap, sym, subst, arith}
use Rattle.std.specs.Prelude.{◌⊎◌, Option, None, Some, IsNone}
use Rattle.std.proofs.lemmas.Bool.{cases_lt, true≢false}
use Rattle.fixed_width.specs.Numbers.{number}
use Rattle.elf_sections.specs.Elf.{section_count, sections_at, header_at, fixed_end_of}
use Rattle.elf_place.specs.Layout.{IsNextMultiple}
use Rattle.tidy_places.specs.Firsts.{IsLeastFound}
use Rattle.tidy_places.specs.Misplaced.{IsMisplaced}
use Rattle.tidy_places.specs.Misplaced.Row.{OfSection, OfByte}
use Rattle.tidy_places.specs.inside.Chains.{due_at, IsOff, StandDue, IsFilledBetween, IsFilledAmong}
use Rattle.tidy_places.proofs.Headers.{e_shoff, headers_inside}
use Rattle.tidy_places.proofs.LaidOut.{laid_out_from}
use Rattle.tidy_places.proofs.MovableParts.{due_member, body_size}
use Rattle.tidy_places.proofs.Strays.{Stray}
use Rattle.tidy_places.proofs.MisplacedRows.{least_of, least_found, in_first, in_second, in_third, off_elsewhere, elsewhere_off, stand_due, headers_due, headers_once, stray_row, row_stray, bare_headers, bare_bytes}
use Rattle.tidy_places.proofs.first_misplaced.Goals as goal

pub returns-in-Some-clause-first : goal.returns-in-Some-clause-first
returns-in-Some-clause-first c =
    let file = c.args.before.now in
    let written = c.args.after.now in
    let sections = c.in_ok-due.due.sections.items in
    let end = c.in_ok-due.due.end in
    let due = c.in_ok-due.ensures.due in
    let order = c.in_ok-due.ensures.order in
    let found = rw c.deref.ensures.value at c.in-Some.ensures in
    in_first (IsMisplaced file written) c.in-Some.place (least_of (IsOff written sections) (IsMisplaced file written OfSection) c.in-Some.place (off_elsewhere file written sections end due order) (elsewhere_off file written sections end due order) found)

pub returns-then-count-eq0-clause-first : goal.returns-then-count-eq0-clause-first
returns-then-count-eq0-clause-first c =
    let file = c.args.before.now in
    let written = c.args.after.now in
    let sections = c.in_ok-due.due.sections.items in
    let end = c.in_ok-due.due.end in
    let due = c.in_ok-due.ensures.due in
    let order = c.in_ok-due.ensures.order in
    let none : (p : ℕ) → IsOff written sections p → ⊥ = rw c.deref.ensures.value at c.in_default.ensures in
    let bare : section_count file ≡ 0 = sym c.requires.headers.count ∙ sym c.count.ensures ∙ c.if-count-eq0.true in
    let found = rw (c.whole-file.ensures.bytes, c.fixed_end.ensures.value) at c.first_behind.ensures in
    in_third (IsMisplaced file written) (λ q holds. none q (elsewhere_off file written sections end due order q holds)) (bare_headers file written bare) c.first_behind.result (bare_bytes file written bare c.first_behind.result found)

pub returns-then-headers-next_multiple-clause-first : goal.returns-then-headers-next_multiple-clause-first
returns-then-headers-next_multiple-clause-first c =
    let file = c.args.before.now in
    let written = c.args.after.now in
    let sections = c.in_ok-due.due.sections.items in
    let end = c.in_ok-due.due.end in
    let due = c.in_ok-due.ensures.due in
    let order = c.in_ok-due.ensures.order in
    let none : (p : ℕ) → IsOff written sections p → ⊥ = rw c.deref.ensures.value at c.in_default.ensures in
    let count : section_count written ≡ section_count file = c.requires.headers.count in
    let some : section_count file ≢ 0 = λ e. c.if-count-eq0.false (c.count.ensures ∙ count ∙ e) in
    let headers : c.u64_at-headers.result ≡ sections_at written = c.u64_at-headers.ensures ∙ ap (λ (f : List ℕ). number 8 (drop 40 f)) c.whole-file.ensures.bytes ∙ e_shoff written in
    let next = c.next_multiple.ensures.next in
    in_second (IsMisplaced file written) (λ q holds. none q (elsewhere_off file written sections end due order q holds)) c.u64_at-headers.result (
      (some, (c.next_multiple.result, headers_due file written sections end due order c.next_multiple.result next, λ e. c.if-headers-next_multiple.true (headers ∙ e)), headers),
      λ q less holds. let place : q ≡ sections_at written = holds.2 in omega (arith, less, headers, place),
    )

-- the sections stand where they are due
stands : (c : goal.After-deref-2) → StandDue c.args.after.now c.in_ok-due.due.sections.items
stands c =
    let none : (p : ℕ) → IsOff c.args.after.now c.in_ok-due.due.sections.items p → ⊥ = rw c.deref.ensures.value at c.in_default.ensures in
    stand_due c.args.before.now c.args.after.now c.in_ok-due.due.sections.items c.in_ok-due.due.end c.in_ok-due.ensures.due c.in_ok-due.ensures.order none

-- and the section headers likewise
headers_stand : (c : goal.After-deref-2) → sections_at c.args.after.now ≡ c.next_multiple.result
headers_stand c =
    let headers : c.u64_at-headers.result ≡ sections_at c.args.after.now = c.u64_at-headers.ensures ∙ ap (λ (f : List ℕ). number 8 (drop 40 f)) c.whole-file.ensures.bytes ∙ e_shoff c.args.after.now in
    sym headers ∙ c.if-headers-next_multiple.false

pub first_stray-requires-clause-stand : goal.first_stray-requires-clause-stand
first_stray-requires-clause-stand c = rw c.deref-2.ensures.value (stands c)

pub first_stray-requires-clause-behind : goal.first_stray-requires-clause-behind
first_stray-requires-clause-behind c =
    let from = c.next_multiple.ensures.next.from in
    omega (arith, from, headers_stand c)

pub returns-clause-first : goal.returns-clause-first
returns-clause-first c =
    let file = c.args.before.now in
    let written = c.args.after.now in
    let sections = c.in_ok-due.due.sections.items in
    let end = c.in_ok-due.due.end in
    let due = c.in_ok-due.ensures.due in
    let order = c.in_ok-due.ensures.order in
    let none : (p : ℕ) → IsOff written sections p → ⊥ = rw c.deref.ensures.value at c.in_default.ensures in
    let stand = stand_due file written sections end due order none in
    let count : section_count written ≡ section_count file = c.requires.headers.count in
    let some : section_count file ≢ 0 = λ e. c.if-count-eq0.false (c.count.ensures ∙ count ∙ e) in
    let headers : c.u64_at-headers.result ≡ sections_at written = c.u64_at-headers.ensures ∙ ap (λ (f : List ℕ). number 8 (drop 40 f)) c.whole-file.ensures.bytes ∙ e_shoff written in
    let place : sections_at written ≡ c.next_multiple.result = sym headers ∙ c.if-headers-next_multiple.false in
    let from = c.next_multiple.ensures.next.from in
    let behind : end ≤ sections_at written = omega (arith, from, place) in
    let inside : header_at written (section_count file) ≤ length written = subst (λ (n : ℕ). header_at written n ≤ length written) count (headers_inside written c.whole-file.ensures.read (λ e. some (sym count ∙ e))) in
    let found = rw (c.deref-2.ensures.value, count) at c.first_stray.ensures in
    in_third (IsMisplaced file written) (λ q holds. none q (elsewhere_off file written sections end due order q holds))
    (λ q holds. holds.1.2 (place ∙ sym (headers_once file written sections end due order c.next_multiple.result holds.1.0 c.next_multiple.ensures.next holds.1.1)))
    c.first_stray.result
    (least_found (Stray written (fixed_end_of file) sections end (sections_at written) (header_at written (section_count file)) due behind (omega arith)) (IsMisplaced file written OfByte) c.first_stray.result
    (stray_row file written sections end due order stand some behind inside) (row_stray file written sections end due order stand some behind inside) found)

-- nothing is amiss with bytes where no place is found
no_stray : (found : Option ℕ) (Holds : ℕ → Type 0) → IsNone found → IsLeastFound Holds found → (p : ℕ) → Holds p → ⊥
no_stray None Holds none least = least
no_stray (Some q) Holds none least = absurd (true≢false none)

pub returns-clause-laid_out : goal.returns-clause-laid_out
returns-clause-laid_out c = λ nothing some.
    let file = c.args.before.now in
    let written = c.args.after.now in
    let sections = c.in_ok-due.due.sections.items in
    let end = c.in_ok-due.due.end in
    let due = c.in_ok-due.ensures.due in
    let order = c.in_ok-due.ensures.order in
    let none : (p : ℕ) → IsOff written sections p → ⊥ = rw c.deref.ensures.value at c.in_default.ensures in
    let stand = stand_due file written sections end due order none in
    let count : section_count written ≡ section_count file = c.requires.headers.count in
    let headers : c.u64_at-headers.result ≡ sections_at written = c.u64_at-headers.ensures ∙ ap (λ (f : List ℕ). number 8 (drop 40 f)) c.whole-file.ensures.bytes ∙ e_shoff written in
    let place : sections_at written ≡ c.next_multiple.result = sym headers ∙ c.if-headers-next_multiple.false in
    let inside : header_at written (section_count written) ≤ length written = headers_inside written c.whole-file.ensures.read (λ e. some (sym count ∙ e)) in
    let found = rw c.deref-2.ensures.value at c.first_stray.ensures in
    let clear = no_stray c.first_stray.result (λ p. IsFilledAmong written (fixed_end_of file) sections p ⊎ (IsFilledBetween written end (sections_at written) p ⊎ ((header_at written (section_count written) ≤ p) × (p < length written)))) nothing found in
    laid_out_from file written c.requires.loaded c.requires.headers sections end due order stand
    (λ k few. let moves = (order.movable (due_at sections k).section).0 (due_member sections k few) in body_size file written c.requires.headers c.whole-before.ensures.read c.whole-file.ensures.read (due_at sections k).section moves.0 moves.1)
    (subst (λ (n : ℕ). IsNextMultiple end 8 n) (sym place) c.next_multiple.ensures.next)
    (λ p among. clear p (inl among))
    (λ p between. clear p (inr (inl between)))
    (elim (cases_lt (header_at written (section_count written)) (length written)) [
      | inl less ↦ absurd (clear (header_at written (section_count written)) (inr (inr (omega arith, less))))
      | inr over ↦ omega (arith, over, inside)
    ])
