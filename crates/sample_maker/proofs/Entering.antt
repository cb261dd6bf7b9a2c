-- Entries appended one after the other: what is left of them.
use Rattle.std.proofs.Common.{◌≡◌, ◌≤◌, ◌<◌, ◌+◌, ◌-◌, ◌%◌, ℕ, suc, List, [], ◌++◌, length, take, drop, replicate, get_or, map, ◌∙◌, sym, ap, arith}
use Rattle.std.proofs.lemmas.List.{append-nil, append_assoc, length-append, at_drop_more, at_drop_all, take-replicate}
use Rattle.std.proofs.lemmas.List.Sums.{sum_by-cons}
use Rattle.sample_maker.specs.declared.drawn.Parameter.{Parameter}
use Rattle.sample_maker.specs.declared.drawn.Function.{Function}
use Rattle.sample_maker.specs.declared.elf.Row.{Row}
use Rattle.sample_maker.specs.Drawn.{FunctionDrawn, function_of}
use Rattle.sample_maker.specs.inside.Bytes.{parameter_entry_bytes, located_bytes, part_header_size}
use Rattle.sample_maker.specs.inside.Files.{parameter_entries_bytes, function_size, function_locations, function_ranges, function_bytes_of, functions_bytes, place_behind}
use Rattle.sample_maker.proofs.Joining.{first_left}
use Rattle.sample_maker.proofs.Appending.{four_joined}
use Rattle.sample_maker.specs.inside.Images.{rows_for, sizes_of, bodies_bytes, section_header_bytes, section_headers_bytes, no_section, file_header_bytes, end_of, gap_of, image_bytes}

-- what is appended before the rest
pub put_before : (mid new whole say before rest : List ℕ) → before ≡ say ++ rest → mid ++ before ≡ whole → new ≡ mid ++ say → new ++ rest ≡ whole
put_before mid new whole say before rest split so_far put = ap (λ (z : List ℕ). z ++ rest) put ∙ append_assoc mid say rest ∙ sym (ap (λ (z : List ℕ). mid ++ z) split) ∙ so_far

pub longer : (old new more : List ℕ) → new ≡ old ++ more → length new ≡ length old + length more
longer old new more e = ap (λ (z : List ℕ). length z) e ∙ length-append old more

-- PARAMETERS

pub parameters_go_on : (line type offset size l : ℕ) (ps : List Parameter) (i : ℕ) (d : Parameter) (mid new whole : List ℕ) → i < length ps → mid ++ parameter_entries_bytes line type offset size l (drop i ps) ≡ whole → new ≡ mid ++ parameter_entry_bytes line type (part_header_size + l + 4) (part_header_size + l) → new ++ parameter_entries_bytes line type offset size (l + length (located_bytes offset size (get_or ps i d))) (drop (i + 1) ps) ≡ whole
parameters_go_on line type offset size l ps i d mid new whole inside so_far put =
    put_before mid new whole (parameter_entry_bytes line type (part_header_size + l + 4) (part_header_size + l)) (parameter_entries_bytes line type offset size l (drop i ps)) (parameter_entries_bytes line type offset size (l + length (located_bytes offset size (get_or ps i d))) (drop (i + 1) ps)) (at_drop_more (λ (z : List Parameter). parameter_entries_bytes line type offset size l z) ps i d inside) so_far put

pub parameters_end : (line type offset size l : ℕ) (ps : List Parameter) (i : ℕ) (new whole : List ℕ) → length ps ≤ i → new ++ parameter_entries_bytes line type offset size l (drop i ps) ≡ whole → new ≡ whole
parameters_end line type offset size l ps i new whole past so_far =
    let none : parameter_entries_bytes line type offset size l (drop i ps) ≡ [] = at_drop_all (λ (z : List Parameter). parameter_entries_bytes line type offset size l z) ps i past in
    sym (append-nil new) ∙ sym (ap (λ (z : List ℕ). new ++ z) none) ∙ so_far

-- FUNCTIONS

-- One more function `x`, whose bytes are `size`, with `ll` and `rr` bytes of lists behind it.
pub functions_one_more : (u type i place l r size ll rr : ℕ) (fs : List Function) (x : Function) (mid new whole : List ℕ) → i < length fs → x ≡ get_or fs i x → size ≡ function_size (function_of x) → ll ≡ l + length (function_locations i (function_of x)) → rr ≡ r + length (function_ranges u i (function_of x)) → mid ++ functions_bytes u type i place l r (map function_of (drop i fs)) ≡ whole → new ≡ mid ++ function_bytes_of u i type (place + size) l r (function_of x) → new ++ functions_bytes u type (i + 1) (place + size) ll rr (map function_of (drop (i + 1) fs)) ≡ whole
functions_one_more u type i place l r size ll rr fs x mid new whole inside is is_size is_ll is_rr so_far put =
    let f : FunctionDrawn = function_of x in
    let rest : List FunctionDrawn = map function_of (drop (i + 1) fs) in
    let suc_is : suc i ≡ i + 1 = omega arith in
    let first : functions_bytes u type i place l r (map function_of (drop i fs)) ≡ function_bytes_of u i type (place + function_size f) l r f ++ functions_bytes u type (suc i) (place + function_size f) (l + length (function_locations i f)) (r + length (function_ranges u i f)) rest = ap (λ (z : List Function). functions_bytes u type i place l r (map function_of z)) (first_left fs i x inside is) in
    let next : functions_bytes u type i place l r (map function_of (drop i fs)) ≡ function_bytes_of u i type (place + size) l r f ++ functions_bytes u type (i + 1) (place + size) ll rr rest = rw (is_size, is_ll, is_rr) (first ∙ ap (λ (n : ℕ). function_bytes_of u i type (place + function_size f) l r f ++ functions_bytes u type n (place + function_size f) (l + length (function_locations i f)) (r + length (function_ranges u i f)) rest) suc_is) in
    put_before mid new whole (function_bytes_of u i type (place + size) l r f) (functions_bytes u type i place l r (map function_of (drop i fs))) (functions_bytes u type (i + 1) (place + size) ll rr rest) next so_far put

pub functions_end : (u type i place l r : ℕ) (fs : List Function) (new whole : List ℕ) → length fs ≤ i → new ++ functions_bytes u type i place l r (map function_of (drop i fs)) ≡ whole → new ≡ whole
functions_end u type i place l r fs new whole past so_far =
    let none : functions_bytes u type i place l r (map function_of (drop i fs)) ≡ [] = at_drop_all (λ (z : List Function). functions_bytes u type i place l r (map function_of z)) fs i past in
    sym (append-nil new) ∙ sym (ap (λ (z : List ℕ). new ++ z) none) ∙ so_far

pub place_one_more : (fs : List Function) (i : ℕ) (x : Function) (place size whole : ℕ) → i < length fs → x ≡ get_or fs i x → size ≡ function_size (function_of x) → place_behind place (map function_of (drop i fs)) ≡ whole → place_behind (place + size) (map function_of (drop (i + 1) fs)) ≡ whole
place_one_more fs i x place size whole inside is is_size so_far =
    let next : place_behind place (map function_of (drop i fs)) ≡ place_behind (place + function_size (function_of x)) (map function_of (drop (i + 1) fs)) = ap (λ (z : List Function). place_behind place (map function_of z)) (first_left fs i x inside is) in
    ap (λ (n : ℕ). place_behind (place + n) (map function_of (drop (i + 1) fs))) is_size ∙ sym next ∙ so_far

-- SECTIONS

-- what stands for a row past the end
abbrev pub no_row : Row
no_row = record { name = 0; kind = 0; size = 0 }

pub rows_one_more : (rows : List Row) (i : ℕ) (x : Row) (at whole : ℕ) → i < length rows → x ≡ get_or rows i x → at + sizes_of (drop i rows) ≡ whole → (at + x.size) + sizes_of (drop (i + 1) rows) ≡ whole
rows_one_more rows i x at whole inside is so_far =
    let next : sizes_of (drop i rows) ≡ x.size + sizes_of (drop (i + 1) rows) = ap (λ (z : List Row). sizes_of z) (first_left rows i x inside is) ∙ sum_by-cons (λ (row : Row). row.size) x (drop (i + 1) rows) in
    omega (arith, next, so_far)

pub headers_one_more : (rows : List Row) (i : ℕ) (x : Row) (at : ℕ) (mid new whole : List ℕ) → i < length rows → x ≡ get_or rows i x → mid ++ section_headers_bytes at (drop i rows) ≡ whole → new ≡ mid ++ section_header_bytes x at → new ++ section_headers_bytes (at + x.size) (drop (i + 1) rows) ≡ whole
headers_one_more rows i x at mid new whole inside is so_far put =
    put_before mid new whole (section_header_bytes x at) (section_headers_bytes at (drop i rows)) (section_headers_bytes (at + x.size) (drop (i + 1) rows)) (ap (λ (z : List Row). section_headers_bytes at z) (first_left rows i x inside is)) so_far put

-- THE FILE

pub file_written : (info lines ranges locations aranges : List ℕ) (rows : List Row) (end : ℕ) (start one two three new : List ℕ) → rows ≡ rows_for info lines ranges locations aranges → end ≡ end_of rows → start ≡ [] → one ≡ start ++ file_header_bytes (end + (8 - end % 8) % 8) → two ≡ one ++ bodies_bytes info lines ranges locations aranges → three ≡ two ++ take ((8 - end % 8) % 8) (replicate 8 0) → new ≡ three ++ (no_section ++ section_headers_bytes 64 rows) → new ≡ image_bytes info lines ranges locations aranges
file_written info lines ranges locations aranges rows end start one two three new is_rows is_end empty a b c d =
    let all = rows_for info lines ranges locations aranges in
    let bodies = bodies_bytes info lines ranges locations aranges in
    let few : (8 - end % 8) % 8 ≤ 8 = omega arith in
    let ends : end ≡ end_of all = is_end ∙ ap (λ (z : List Row). end_of z) is_rows in
    let gap : (8 - end % 8) % 8 ≡ gap_of all = ap (λ (n : ℕ). (8 - n % 8) % 8) ends in
    let table : end + (8 - end % 8) % 8 ≡ end_of all + gap_of all = ap (λ (n : ℕ). n + (8 - n % 8) % 8) ends in
    let first : one ≡ start ++ file_header_bytes (end_of all + gap_of all) = a ∙ ap (λ (n : ℕ). start ++ file_header_bytes n) table in
    let third : three ≡ two ++ replicate (gap_of all) 0 = c ∙ ap (λ (z : List ℕ). two ++ z) (take-replicate ((8 - end % 8) % 8) 8 0 few ∙ ap (λ (n : ℕ). replicate n 0) gap) in
    let last : new ≡ three ++ (no_section ++ section_headers_bytes 64 all) = d ∙ ap (λ (z : List Row). three ++ (no_section ++ section_headers_bytes 64 z)) is_rows in
    four_joined start one two three new (file_header_bytes (end_of all + gap_of all)) bodies (replicate (gap_of all) 0) (no_section ++ section_headers_bytes 64 all) first b third last ∙ ap (λ (z : List ℕ). z ++ (file_header_bytes (end_of all + gap_of all) ++ (bodies ++ (replicate (gap_of all) 0 ++ (no_section ++ section_headers_bytes 64 all))))) empty
