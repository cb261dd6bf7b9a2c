-- What a file that was written anew has in common with the one before, and where its parts stand.
use Rattle.std.proofs.Common.{◌≡◌, ◌≢◌, ◌≤◌, ◌<◌, ◌+◌, ◌*◌, ◌++◌, ◌⊎◌, ℕ, List, Bool, true, false, not, ◌&&◌, eqb, leb, length, get_or, take, map, refl, sym, ◌∙◌, ap, subst, arith, inl, inr}
use Rattle.std.specs.Prelude.{IsTrue, IsFalse, slice_range, slice_index}
use Rattle.std.specs.List.{All, AllPairs}
use Rattle.std.proofs.lemmas.Bool.{cases_Bool, cases_lt, and_parts, and_from, both_ways, le-leb, eqb-false}
use Rattle.std.proofs.lemmas.List.{length-take-le, length-append, get_or-take, get_or_append_left, get_or-append-add, get_or-map, length-map}
use Rattle.dw_base.specs.declared.fault.Reach.TheVariants.{Wide}
use Rattle.elf_sections.specs.Numbers.{number_at}
use Rattle.elf_sections.specs.Elf.{section_count, header_at, names_index, name_offset, fixed_end_of, offset_of, size_of, has_bytes, is_loaded, is_movable, body_of}
use Rattle.elf_sections.specs.Faults.{IsRead}
use Rattle.elf_sections.specs.Names.{name_of, text_at}
use Rattle.elf_place.specs.declared.spots.Spot.{Spot}
use Rattle.elf_place.specs.Layout.{IsNextMultiple, IsMovingOrder, IsLaidOut, Stand}
use Rattle.elf_place.specs.Same.{KeepsLoaded, KeepsHeaders}
use Rattle.elf_place.specs.inside.Spots.{IsChain, IsWritten, filled, laid, headers_of}
use Rattle.elf_place.proofs.NumberLaws.{number_at-shift}
use Rattle.elf_place.proofs.Ranges.{same_ranges, length-filled, filled-front, filled-gap, length-headers_of, get_or-headers_of}
use Rattle.elf_place.proofs.Chains.{IsChain-longer, length-laid, laid-front, body_of-bytes, Tells, Stand-laid}
use Rattle.elf_place.proofs.ReadLaws.{fixed_end-within, fixed-inside, fixed-apart}
use Rattle.elf_place.proofs.Kept.{front-number, name_offset-kept, has_bytes-kept, is_loaded-kept, align-kept, fixed_end_of-kept}
use Rattle.elf_place.proofs.Orders.{before-apart}
use Rattle.elf_place.proofs.Stands.{Stand-within}

abbrev pub section_in : Spot → ℕ
section_in spot = spot.section

-- the sections of spots are movable, and no two are the same
module _ (file : List ℕ) (spots : List Spot) (moving : IsMovingOrder file (map section_in spots)) where
  pub spots-move : (k : ℕ) (d : Spot) → k < length spots → ((get_or spots k d).section < section_count file) × IsTrue (is_movable file (get_or spots k d).section)
  spots-move k d lt =
      let i = (get_or spots k d).section in
      let size : length (map section_in spots) ≡ length spots = length-map spots section_in in
      (moving.movable i).0 (k, omega arith, get_or-map section_in spots k d i lt)

  pub spots-inside : All (λ (spot : Spot). spot.section < section_count file) spots
  spots-inside = λ k d lt. (spots-move k d lt).0

  pub spots-apart : AllPairs (λ (one other : Spot). one.section ≢ other.section) spots
  spots-apart = λ i j d less lt.
      let size : length (map section_in spots) ≡ length spots = length-map spots section_in in
      let first : get_or (map section_in spots) i 0 ≡ (get_or spots i d).section = get_or-map section_in spots i d 0 (omega arith) in
      let second : get_or (map section_in spots) j 0 ≡ (get_or spots j d).section = get_or-map section_in spots j d 0 lt in
      λ (e : (get_or spots i d).section ≡ (get_or spots j d).section).
      before-apart file (get_or (map section_in spots) i 0) (get_or (map section_in spots) j 0) (moving.sorted i j 0 less (omega arith)) (first ∙ e ∙ sym second)

-- the file before the places are written over
module _ (file : List ℕ) (bytes : ℕ → List ℕ) (spots : List Spot) (end table : ℕ) (read : IsRead file Wide) (some : section_count file ≢ 0) (chain : IsChain file bytes (fixed_end_of file) spots end) (next : IsNextMultiple end 8 table) where
  abbrev start : List ℕ
  start = take (fixed_end_of file) file

  abbrev body : List ℕ
  body = laid bytes start spots

  abbrev whole : List ℕ
  whole = filled body table ++ headers_of file (section_count file)

  pub length-start : length start ≡ fixed_end_of file
  length-start = length-take-le (fixed_end_of file) file (fixed_end-within file read some).1

  pub chain-start : IsChain file bytes (length start) spots end
  chain-start = subst (λ (s : ℕ). IsChain file bytes s spots end) (sym length-start) chain

  pub length-body : length body ≡ end
  length-body = length-laid file bytes start spots end chain-start

  pub fixed_end-low : fixed_end_of file ≤ end
  fixed_end-low = IsChain-longer file bytes (fixed_end_of file) spots end chain

  pub length-front : length (filled body table) ≡ table
  length-front = length-filled body table (omega (arith, length-body, next.from))

  table-inside : header_at file (section_count file) ≤ length file
  table-inside = read.whole.section_table.inside some

  pub length-whole : length whole ≡ table + 64 * section_count file
  length-whole = rw length-append (omega (arith, length-front, length-headers_of file (section_count file) table-inside))

  front-byte : (k : ℕ) → k < table → slice_index whole k ≡ slice_index (filled body table) k
  front-byte k lt = get_or_append_left (filled body table) (headers_of file (section_count file)) 0 k (omega (arith, length-front))

  pub body-byte : (k : ℕ) → k < end → slice_index whole k ≡ slice_index body k
  body-byte k lt = front-byte k (omega (arith, next.from)) ∙ filled-front body table k (omega (arith, length-body))

  pub start-byte : (k : ℕ) → k < fixed_end_of file → slice_index whole k ≡ slice_index file k
  start-byte k lt =
      body-byte k (omega (arith, fixed_end-low)) ∙ laid-front file bytes start spots end k chain-start (omega (arith, length-start)) ∙ get_or-take (fixed_end_of file) file k 0 lt

  pub gap-byte : (k : ℕ) → end ≤ k → k < table → slice_index whole k ≡ 0
  gap-byte k from to = front-byte k to ∙ filled-gap body table k (omega (arith, length-body)) to

  pub header-byte : (i k : ℕ) → i < section_count file → k < 64 → slice_index whole (table + (64 * i + k)) ≡ slice_index file (header_at file i + k)
  header-byte i k lt low =
      ap (λ (n : ℕ). slice_index whole (n + (64 * i + k))) (sym length-front)
      ∙ get_or-append-add (filled body table) (headers_of file (section_count file)) (64 * i + k) 0
      ∙ get_or-headers_of file (section_count file) i k table-inside lt low

-- the file after it
module _ (file : List ℕ) (bytes : ℕ → List ℕ) (spots : List Spot) (end : ℕ) (new : List ℕ) (read : IsRead file Wide) (some : section_count file ≢ 0) (chain : IsChain file bytes (fixed_end_of file) spots end) (written : IsWritten file bytes spots end new) (moving : IsMovingOrder file (map section_in spots)) where
  abbrev table : ℕ
  table = written.table

  abbrev old : List ℕ
  old = whole file bytes spots end table read some chain written.next

  fixed_end-large : 64 ≤ fixed_end_of file
  fixed_end-large = (fixed_end-within file read some).0

  below-end : fixed_end_of file ≤ end
  below-end = fixed_end-low file bytes spots end table read some chain written.next

  length-new : length new ≡ table + 64 * section_count file
  length-new = written.patched.long ∙ length-whole file bytes spots end table read some chain written.next

  spot-moves : (k : ℕ) (d : Spot) → k < length spots → ((get_or spots k d).section < section_count file) × IsTrue (is_movable file (get_or spots k d).section)
  spot-moves = spots-move file spots moving

  low-same : (k : ℕ) → k < table → (k < 40) ⊎ (48 ≤ k) → slice_index new k ≡ slice_index old k
  low-same k lt clear = written.patched.others k clear (λ j d inside. inl (omega arith))

  header-same : (i k : ℕ) → i < section_count file → (k < 24) ⊎ (40 ≤ k) → k < 64 → slice_index new (table + (64 * i + k)) ≡ slice_index old (table + (64 * i + k))
  header-same i k lt place low =
      let high : 48 ≤ table = omega (arith, fixed_end-large, below-end, written.next.from) in
      written.patched.others (table + (64 * i + k)) (inr (omega arith)) (λ j d inside.
      elim (cases_lt i (get_or spots j d).section) [
        | inl before ↦ inl (omega arith)
        | inr rest ↦ elim (cases_lt (get_or spots j d).section i) [
          | inl after ↦ inr (omega arith)
          | inr same ↦ elim place [ inl below ↦ inl (omega arith) | inr above ↦ inr (omega arith) ]
        ]
      ])

  fixed-same : (i k : ℕ) → i < section_count file → IsFalse (is_movable file i) → k < 64 → slice_index new (table + (64 * i + k)) ≡ slice_index old (table + (64 * i + k))
  fixed-same i k lt stays low =
      let high : 48 ≤ table = omega (arith, fixed_end-large, below-end, written.next.from) in
      written.patched.others (table + (64 * i + k)) (inr (omega arith)) (λ j d inside.
      elim (cases_lt i (get_or spots j d).section) [
        | inl before ↦ inl (omega arith)
        | inr rest ↦ elim (cases_lt (get_or spots j d).section i) [
          | inl after ↦ inr (omega arith)
          | inr same ↦
              let e : (get_or spots j d).section ≡ i = omega arith in
              let moves = (spot-moves j d inside).1 in
              absurd (both_ways (is_movable file i) stays (ap (is_movable file) (sym e) ∙ moves))
        ]
      ])

  at-new : (i k : ℕ) → header_at new i + k ≡ table + (64 * i + k)
  at-new i k = omega (arith, written.patched.place)

  header-kept : (i k : ℕ) → i < section_count file → (k < 24) ⊎ (40 ≤ k) → k < 64 → slice_index new (header_at new i + k) ≡ slice_index file (header_at file i + k)
  header-kept i k lt place low =
      ap (slice_index new) (at-new i k) ∙ header-same i k lt place low ∙ header-byte file bytes spots end table read some chain written.next i k lt low

  fixed-kept : (i k : ℕ) → i < section_count file → IsFalse (is_movable file i) → k < 64 → slice_index new (header_at new i + k) ≡ slice_index file (header_at file i + k)
  fixed-kept i k lt stays low =
      ap (slice_index new) (at-new i k) ∙ fixed-same i k lt stays low ∙ header-byte file bytes spots end table read some chain written.next i k lt low

  -- fields of a header
  number-from : (n i p : ℕ) → ((k : ℕ) → k < n → slice_index new (header_at new i + (p + k)) ≡ slice_index file (header_at file i + (p + k))) → number_at n (header_at new i + p) new ≡ number_at n (header_at file i + p) file
  number-from n i p same =
      number_at-shift n (header_at new i + p) (header_at file i + p) new file (λ k lt.
      let first : header_at new i + p + k ≡ header_at new i + (p + k) = omega arith in
      let second : header_at file i + (p + k) ≡ header_at file i + p + k = omega arith in
      ap (slice_index new) first ∙ same k lt ∙ ap (slice_index file) second)

  pub offset-kept : (i : ℕ) → i < section_count file → IsFalse (is_movable file i) → offset_of new i ≡ offset_of file i
  offset-kept i lt stays = number-from 8 i 24 (λ k inside. fixed-kept i (24 + k) lt stays (omega arith))

  pub size-kept : (i : ℕ) → i < section_count file → IsFalse (is_movable file i) → size_of new i ≡ size_of file i
  size-kept i lt stays = number-from 8 i 32 (λ k inside. fixed-kept i (32 + k) lt stays (omega arith))

  -- the loaded bytes
  pub keeps_loaded : KeepsLoaded file new
  keeps_loaded = record {
    inside = omega (arith, length-new, below-end, written.next.from);
    bytes = λ k lt clear. low-same k (omega (arith, below-end, written.next.from)) clear ∙ start-byte file bytes spots end table read some chain written.next k lt;
  }

  pub count-kept : section_count new ≡ section_count file
  count-kept = front-number file new keeps_loaded 2 60 (omega (arith, fixed_end-large)) (inr (omega arith))

  pub keeps_headers : KeepsHeaders file new
  keeps_headers = record { count = count-kept; inside = λ _. omega (arith, length-new, written.patched.place); fields = header-kept; offsets = offset-kept; sizes = size-kept }

  -- the movable sections
  tells : All (Tells file new) spots
  tells = λ k d lt.
      let moves = spot-moves k d lt in
      let i = (get_or spots k d).section in
      let full : has_bytes file i ≡ true = (and_parts (has_bytes file i) (not (is_loaded file i)) (and_parts (has_bytes file i && not (is_loaded file i)) (leb (fixed_end_of file) (offset_of file i)) moves.1).0).0 in
      record {
        full = has_bytes-kept file new keeps_headers i moves.0 ∙ full;
        align = align-kept file new keeps_headers i moves.0;
        offset = written.patched.offsets k d lt;
        size = written.patched.sizes k d lt;
      }

  pub stand : Stand new bytes (map section_in spots) (fixed_end_of file) end
  stand =
      let size = length-start file bytes spots end table read some chain written.next in
      Stand-laid file new bytes (take (fixed_end_of file) file) spots (fixed_end_of file) end (sym size)
      (chain-start file bytes spots end table read some chain written.next)
      (omega (arith, length-new, written.next.from))
      (λ k low high. low-same k (omega (arith, written.next.from)) (inr (omega (arith, size, fixed_end-large))) ∙ body-byte file bytes spots end table read some chain written.next k high)
      tells

  pub laid_out : IsLaidOut file bytes new
  laid_out = record {
    loaded = keeps_loaded;
    headers = keeps_headers;
    order = map section_in spots;
    moving = moving;
    end = end;
    sections = stand;
    table = rw written.patched.place written.next;
    gap = λ k from to. low-same k (omega (arith, written.patched.place)) (inr (omega (arith, fixed_end-large, below-end))) ∙ gap-byte file bytes spots end table read some chain written.next k from (omega (arith, written.patched.place));
    whole = omega (arith, length-new, written.patched.place, count-kept);
  }

  -- the bodies
  pub moving-body : (i : ℕ) → i < section_count file → IsTrue (is_movable file i) → body_of new i ≡ bytes i
  moving-body i lt moves =
      let among = (moving.movable i).1 (lt, moves) in
      (Stand-within new bytes (map section_in spots) (fixed_end_of file) end i among.0 stand among.1 among.2).body

  pub fixed-body : (i : ℕ) → i < section_count file → IsFalse (is_movable file i) → body_of new i ≡ body_of file i
  fixed-body i lt stays =
      elim (cases_Bool (has_bytes file i)) [
        | inl full ↦
            let from : offset_of new i ≡ offset_of file i = offset-kept i lt stays in
            let size : size_of new i ≡ size_of file i = size-kept i lt stays in
            let within = fixed-inside file read some i lt full stays in
            let part : slice_range new (offset_of file i) (offset_of file i + size_of file i) ≡ slice_range file (offset_of file i) (offset_of file i + size_of file i) =
            same_ranges new file (offset_of file i) (offset_of file i + size_of file i) (omega arith) (omega (arith, keeps_loaded.inside)) (omega (arith, (fixed_end-within file read some).1))
            (λ k low high. keeps_loaded.bytes k (omega arith) (fixed-apart file read some i k lt full low high)) in
            body_of-bytes new i (has_bytes-kept file new keeps_headers i lt ∙ full)
            ∙ ap (λ (n : ℕ). slice_range new n (n + size_of new i)) from ∙ ap (λ (n : ℕ). slice_range new (offset_of file i) (offset_of file i + n)) size
            ∙ part ∙ sym (body_of-bytes file i full)
        | inr empty ↦
            let none : has_bytes new i ≡ false = has_bytes-kept file new keeps_headers i lt ∙ empty in
            rw (none, empty) refl
      ]

  -- the names
  pub name_of-kept : (names_index file ≢ 0 → body_of new (names_index file) ≡ body_of file (names_index file)) → (i : ℕ) → i < section_count file → name_of new i ≡ name_of file i
  name_of-kept kept i lt =
      let index : names_index new ≡ names_index file = front-number file new keeps_loaded 2 62 (omega (arith, fixed_end-large)) (inr (omega arith)) in
      elim (cases_Bool (eqb (names_index file) 0)) [
        | inl none ↦
            let none_new : eqb (names_index new) 0 ≡ true = ap (λ (n : ℕ). eqb n 0) index ∙ none in
            rw (none_new, none) refl
        | inr named ↦
            let named_new : eqb (names_index new) 0 ≡ false = ap (λ (n : ℕ). eqb n 0) index ∙ named in
            let names : body_of new (names_index new) ≡ body_of file (names_index file) = ap (body_of new) index ∙ kept (eqb-false (names_index file) 0 named) in
            let offset : name_offset new i ≡ name_offset file i = name_offset-kept file new keeps_headers i lt in
            rw (named_new, named) (ap (λ (b : List ℕ). text_at b (name_offset new i)) names ∙ ap (text_at (body_of file (names_index file))) offset)
      ]

  -- the same sections may move again
  pub is_movable-kept : (i : ℕ) → i < section_count file → is_movable new i ≡ is_movable file i
  is_movable-kept i lt =
      let full_kept : has_bytes new i ≡ has_bytes file i = has_bytes-kept file new keeps_headers i lt in
      let loaded_kept : is_loaded new i ≡ is_loaded file i = is_loaded-kept file new keeps_headers i lt in
      let end_kept : fixed_end_of new ≡ fixed_end_of file = fixed_end_of-kept file new read some keeps_loaded keeps_headers in
      elim (cases_Bool (is_movable file i)) [
        | inl moves ↦
            let outer = and_parts (has_bytes file i && not (is_loaded file i)) (leb (fixed_end_of file) (offset_of file i)) moves in
            let inner = and_parts (has_bytes file i) (not (is_loaded file i)) outer.0 in
            let among = (moving.movable i).1 (lt, moves) in
            let after : fixed_end_of file ≤ offset_of new i = (Stand-within new bytes (map section_in spots) (fixed_end_of file) end i among.0 stand among.1 among.2).from in
            let last : leb (fixed_end_of new) (offset_of new i) ≡ true = le-leb (fixed_end_of new) (offset_of new i) (omega (arith, end_kept)) in
            and_from (has_bytes new i && not (is_loaded new i)) (leb (fixed_end_of new) (offset_of new i))
            (and_from (has_bytes new i) (not (is_loaded new i)) (full_kept ∙ inner.0) (ap not loaded_kept ∙ inner.1)) last ∙ sym moves
        | inr stays ↦
            ap (λ (b : Bool). b && not (is_loaded new i) && leb (fixed_end_of new) (offset_of new i)) full_kept
            ∙ ap (λ (b : Bool). has_bytes file i && not b && leb (fixed_end_of new) (offset_of new i)) loaded_kept
            ∙ ap (λ (n : ℕ). has_bytes file i && not (is_loaded file i) && leb n (offset_of new i)) end_kept
            ∙ ap (λ (n : ℕ). has_bytes file i && not (is_loaded file i) && leb (fixed_end_of file) n) (offset-kept i lt stays)
      ]
