use Rattle.std.proofs.Common.{◌≡◌, ◌≤◌, ◌<◌, ◌+◌, ◌*◌, ◌∙◌, ℕ, List, length, drop, ap, subst, arith}
use Rattle.fixed_width.specs.Numbers.{number}
use Rattle.elf_sections.specs.Elf.{section_count, sections_at, header_at, fixed_end_of}
use Rattle.tidy_places.specs.Firsts.{IsLeastFound}
use Rattle.tidy_places.proofs.Headers.{e_shoff, headers_inside}
use Rattle.tidy_places.proofs.Strays.{stray_among, stray_between, stray_behind}
use Rattle.tidy_places.proofs.first_stray.Goals as goal

-- the number that is read says where the section headers stand
headers_read : (c : goal.After-u64_at-headers) → c.u64_at-headers.result ≡ sections_at c.args.after.now
headers_read c = c.u64_at-headers.ensures ∙ ap (λ (file : List ℕ). number 8 (drop 40 file)) c.whole-file.ensures.bytes ∙ e_shoff c.args.after.now

pub first_filled_among-requires-clause-small : goal.first_filled_among-requires-clause-small
first_filled_among-requires-clause-small c = rw c.whole-file.ensures.bytes c.whole-file.ensures.read.small.bytes

pub first_filled_among-requires-clause-due : goal.first_filled_among-requires-clause-due
first_filled_among-requires-clause-due c = rw (c.whole-file.ensures.bytes, c.fixed_end.ensures.value) (c.args.end, c.requires.due, omega (arith, c.requires.behind, headers_inside c.args.after.now c.whole-file.ensures.read c.requires.some))

pub returns-in-Some : goal.returns-in-Some
returns-in-Some c =
    let found = rw (c.whole-file.ensures.bytes, c.fixed_end.ensures.value) at c.in-Some.ensures in
    stray_among c.args.after.now (fixed_end_of c.args.before.now) c.args.sections.now c.args.end (sections_at c.args.after.now) (header_at c.args.after.now (section_count c.args.after.now)) c.requires.due c.requires.behind (omega arith) c.in-Some.place found

pub first_filled-requires : goal.first_filled-requires
first_filled-requires c =
    let inside = headers_inside c.args.after.now c.whole-file.ensures.read c.requires.some in
    rw (headers_read c, c.whole-file.ensures.bytes) (c.requires.behind, omega (arith, inside))

pub returns-in-Some-first_filled : goal.returns-in-Some-first_filled
returns-in-Some-first_filled c =
    let none = rw (c.whole-file.ensures.bytes, c.fixed_end.ensures.value) at c.in_default.ensures in
    let headers : c.u64_at-headers.result ≡ sections_at c.args.after.now = c.u64_at-headers.ensures ∙ ap (λ (file : List ℕ). number 8 (drop 40 file)) c.whole-file.ensures.bytes ∙ e_shoff c.args.after.now in
    let found = rw (c.whole-file.ensures.bytes, headers) at c.in-Some-first_filled.ensures in
    stray_between c.args.after.now (fixed_end_of c.args.before.now) c.args.sections.now c.args.end (sections_at c.args.after.now) (header_at c.args.after.now (section_count c.args.after.now)) c.requires.due c.requires.behind (omega arith) none c.in-Some-first_filled.place found

-- the place behind the section headers
last_read : (c : goal.After-from) → c.u64_at-headers.result + 64 * c.from.result ≡ header_at c.args.after.now (section_count c.args.after.now)
last_read c =
    let headers : c.u64_at-headers.result ≡ sections_at c.args.after.now = c.u64_at-headers.ensures ∙ ap (λ (file : List ℕ). number 8 (drop 40 file)) c.whole-file.ensures.bytes ∙ e_shoff c.args.after.now in
    let count : c.from.result ≡ section_count c.args.after.now = c.from.ensures ∙ c.count.ensures in
    ap (λ (n : ℕ). n + 64 * c.from.result) headers ∙ ap (λ (n : ℕ). sections_at c.args.after.now + 64 * n) count

pub overflow_add-headers : goal.overflow_add-headers
overflow_add-headers c =
    let inside = headers_inside c.args.after.now c.whole-file.ensures.read c.requires.some in
    let long = c.whole-file.ensures.read.small.bytes in
    record { fits = omega (arith, inside, long, last_read c) }

pub returns : goal.returns
returns c =
    let none = rw (c.whole-file.ensures.bytes, c.fixed_end.ensures.value) at c.in_default.ensures in
    let headers : c.u64_at-headers.result ≡ sections_at c.args.after.now = c.u64_at-headers.ensures ∙ ap (λ (file : List ℕ). number 8 (drop 40 file)) c.whole-file.ensures.bytes ∙ e_shoff c.args.after.now in
    let clear = rw (c.whole-file.ensures.bytes, headers) at c.in_default-first_filled.ensures in
    let found = rw (c.whole-file.ensures.bytes) at c.first_behind.ensures in
    let count : c.from.result ≡ section_count c.args.after.now = c.from.ensures ∙ c.count.ensures in
    let last : c.u64_at-headers.result + 64 * c.from.result ≡ header_at c.args.after.now (section_count c.args.after.now) = ap (λ (n : ℕ). n + 64 * c.from.result) headers ∙ ap (λ (n : ℕ). sections_at c.args.after.now + 64 * n) count in
    let there = subst (λ (n : ℕ). IsLeastFound (λ p. (n ≤ p) × (p < length c.args.after.now)) c.first_behind.result) last found in
    stray_behind c.args.after.now (fixed_end_of c.args.before.now) c.args.sections.now c.args.end (sections_at c.args.after.now) (header_at c.args.after.now (section_count c.args.after.now)) c.requires.due c.requires.behind (omega arith) none clear c.first_behind.result there
