-- The bytes of names in a file.
use Rattle.std.proofs.Common.{◌≡◌, ◌≢◌, ◌≤◌, ◌<◌, ◌+◌, ◌-◌, ℕ, List, [], Bool, true, false, if◌then◌else◌, ◌==◌, not, length, take, drop, slice_range, refl, sym, ap, ◌∙◌, arith, rules, zero-le}
use Rattle.std.proofs.lemmas.List.{drop-take, take-take, drop-drop, length-take}
use Rattle.std.proofs.lemmas.List.Folds.{length-prefix_len}
use Rattle.dw_base.specs.declared.fault.Span.{Span}
use Rattle.elf_sections.specs.Elf.{section_count, section_end, body_span, names_index, name_offset, has_bytes, offset_of, size_of}
use Rattle.elf_sections.specs.Names.{text_at, name_of}
use Rattle.elf_sections.specs.Sections.{name_span}
use Rattle.elf_sections.specs.inside.Faults.{HasTables}

-- a part of a part is a part of the whole
pub part_of_part : (xs : List ℕ) (b off m n l : ℕ) → n ≡ off + m → l ≤ m → take l (drop off (take n (drop b xs))) ≡ take l (drop (b + off) xs)
part_of_part xs b off m n l e small =
    rw e (ap (take l) (drop-take off m (drop b xs)) ∙ take-take l m (drop off (drop b xs)) small ∙ ap (take l) (drop-drop off b xs))

-- a text that lies in a part of a list stands in the whole list
pub text_in_part : (xs : List ℕ) (b n off : ℕ) → off + length (text_at (take n (drop b xs)) off) < n → take (length (text_at (take n (drop b xs)) off)) (drop (b + off) xs) ≡ text_at (take n (drop b xs)) off
text_in_part xs b n off within =
    let inner = drop off (take n (drop b xs)) in
    let text = text_at (take n (drop b xs)) off in
    let size = length-prefix_len (λ (x : ℕ). not (x == 0)) inner in
    let here = part_of_part xs b off (n - off) n (length text) (omega arith) (omega arith) in
    sym here ∙ ap (λ (k : ℕ). take k inner) size

-- a span, by whether it is empty
spanned : (b : Bool) (at len n : ℕ) → (if b then at + len else 0) ≤ n → (if◌then◌else◌ {A = Span} b (record { at = at; len = len }) (record { at = 0; len = 0 })).at + (if◌then◌else◌ {A = Span} b (record { at = at; len = len }) (record { at = 0; len = 0 })).len ≤ n
spanned true at len n h = h
spanned false at len n h = zero-le

-- the bytes of a body lie in the file
pub body_inside : (file : List ℕ) (i : ℕ) → section_end file i ≤ length file → (body_span file i).at + (body_span file i).len ≤ length file
body_inside file i h = spanned (has_bytes file i) (offset_of file i) (size_of file i) (length file) h

abbrev pub HeldAt : List ℕ → Bool → Span → ℕ → List ℕ
HeldAt file none body off = if none then [] else text_at (if none then [] else slice_range file body.at (body.at + body.len)) off

abbrev pub SpanAt : List ℕ → Bool → Span → ℕ → Span
SpanAt file none body off = if none then record { at = 0; len = 0 } else record { at = body.at + off; len = length (HeldAt file none body off) }

-- the bytes of a name, by whether no section holds the names
held : (file : List ℕ) (none : Bool) (body : Span) (off : ℕ) → (none ≡ false → off + length (HeldAt file none body off) < length (if none then [] else slice_range file body.at (body.at + body.len))) → (none ≡ false → body.at + body.len ≤ length file) → (slice_range file (SpanAt file none body off).at ((SpanAt file none body off).at + (SpanAt file none body off).len) ≡ HeldAt file none body off) × ((SpanAt file none body off).at + (SpanAt file none body off).len ≤ length file)
held file true body off named inside = (refl, zero-le)
held file false body off named inside =
    let n = body.at + body.len - body.at in
    let part = take n (drop body.at file) in
    let within = named refl in
    let fits = inside refl in
    let size = length-take n (drop body.at file) in
    let short : off + length (text_at part off) < n = omega arith in
    let e : body.at + off + length (text_at part off) - (body.at + off) ≡ length (text_at part off) = omega arith in
    (rw e (text_in_part file body.at n off short), omega arith)

pub name_held : (file : List ℕ) (i : ℕ) → HasTables file → i < section_count file → (slice_range file (name_span file i).at ((name_span file i).at + (name_span file i).len) ≡ name_of file i) × ((name_span file i).at + (name_span file i).len ≤ length file)
name_held file i tables below =
    let other = λ (e : (names_index file == 0) ≡ false). let q : names_index file ≢ 0 = search (rules, e) in q in
    held file (names_index file == 0) (body_span file (names_index file)) (name_offset file i) (λ e. tables.whole.named i below (other e)) (λ e. body_inside file (names_index file) (tables.whole.sections (names_index file) (tables.whole.section_table.names (other e))))
