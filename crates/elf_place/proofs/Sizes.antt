-- How long a file is that was written anew.
use Rattle.std.proofs.Common.{◌≡◌, ◌≢◌, ◌≤◌, ◌<◌, ◌+◌, ◌*◌, ◌^◌, ℕ, zero, suc, List, [], ◌∷◌, true, false, cond, eqb, length, get_or, refl, sym, ap, ◌∙◌, arith, inl, inr}
use Rattle.std.specs.Prelude.{IsTrue}
use Rattle.std.specs.List.{All, AllPairs, sum_by}
use Rattle.std.proofs.lemmas.Bool.{cases_Bool, eq-eqb, ne_eqb}
use Rattle.std.proofs.lemmas.List.{length-take, get_or_default}
use Rattle.std.proofs.lemmas.List.Sums.{sum_by-cons}
use Rattle.elf_sections.specs.Elf.{section_count, sections_at, offset_of, size_of, align_of, has_bytes, body_span, body_of, is_movable, fixed_end_of}
use Rattle.elf_sections.specs.Faults.{movable_bytes}
use Rattle.elf_place.specs.declared.bodies.NewBody.{NewBody}
use Rattle.elf_place.specs.Bodies.{body_after, bytes_of}
use Rattle.elf_place.specs.Layout.{IsLaidOut, Stand}
use Rattle.elf_place.proofs.Multiples.{next-near}
use Rattle.elf_place.proofs.Orders.{before-apart}
use Rattle.elf_place.proofs.Stands.{StandsWithin, Stand-within}
use Rattle.elf_place.proofs.Totals.{total, total-le, total-one_more, sum_by-below, sum_by-distinct}

-- a number that counts where a section is movable
abbrev pub if_movable : List ℕ → (ℕ → ℕ) → ℕ → ℕ
if_movable file f i = cond (is_movable file i) (f i) 0

pub movable_bytes-total : (file : List ℕ) (n : ℕ) → movable_bytes file n ≡ total (if_movable file (size_of file)) n
movable_bytes-total file zero = refl
movable_bytes-total file (suc n) = ap (λ (m : ℕ). m + if_movable file (size_of file) n) (movable_bytes-total file n)

-- a body has no more bytes than its header says
pub length-body_of-span : (file : List ℕ) (i : ℕ) → length (body_of file i) ≤ (body_span file i).len
length-body_of-span file i = simp length-take (omega arith)

pub span-size : (file : List ℕ) (i : ℕ) → (body_span file i).len ≤ size_of file i
span-size file i =
    elim (cases_Bool (has_bytes file i)) [ inl full ↦ rw full (omega arith) | inr empty ↦ rw empty (omega arith) ]

-- the bodies of the movable sections after the new ones have no more bytes than the old and the new ones together
pub movable-after : (file : List ℕ) (bodies : List NewBody) (n : ℕ) → total (if_movable file (λ i. length (body_after file bodies i))) n ≤ movable_bytes file n + bytes_of bodies
movable-after file [] n =
    let one : (i : ℕ) → if_movable file (λ k. length (body_of file k)) i ≤ if_movable file (size_of file) i = λ i. elim (cases_Bool (is_movable file i)) [
      | inl moves ↦ rw moves (omega (arith, length-body_of-span file i, span-size file i))
      | inr stays ↦ rw stays (omega arith)
    ] in
    let all = total-le (if_movable file (λ k. length (body_of file k))) (if_movable file (size_of file)) n (λ i lt. one i) in
    omega (arith, movable_bytes-total file n)
movable-after file (new ∷ bodies) n =
    let f : ℕ → ℕ = if_movable file (λ i. length (body_after file (new ∷ bodies) i)) in
    let g : ℕ → ℕ = if_movable file (λ i. length (body_after file bodies i)) in
    let others : (i : ℕ) → i ≢ new.section → f i ≤ g i = λ i other.
    let is : eqb new.section i ≡ false = ne_eqb new.section i (λ e. other (sym e)) in
    rw is (omega arith) in
    let here : f new.section ≤ g new.section + length new.bytes.items =
    let is : eqb new.section new.section ≡ true = eq-eqb new.section new.section refl in
    elim (cases_Bool (is_movable file new.section)) [
      | inl moves ↦ rw (moves, is) (omega arith)
      | inr stays ↦ rw stays (omega arith)
    ] in
    omega (arith, total-one_more f g new.section (length new.bytes.items) n others here, movable-after file bodies n, sum_by-cons (λ (b : NewBody). length b.bytes.items) new bodies)

-- the room of a section: a gap and its bytes
abbrev room : (ℕ → List ℕ) → ℕ → ℕ
room bytes i = 4096 + length (bytes i)

-- where sections end that stand one after the other
Stand-near : (file : List ℕ) (bytes : ℕ → List ℕ) (order : List ℕ) (start end : ℕ) → All (λ (i : ℕ). align_of file i ≤ 4096) order → Stand file bytes order start end → end ≤ start + sum_by (room bytes) order
Stand-near file bytes [] start end aligned e = omega arith
Stand-near file bytes (i ∷ order) start end aligned (here, rest) =
    let small : align_of file i ≤ 4096 = aligned zero 0 (omega arith) in
    let later = Stand-near file bytes order (offset_of file i + size_of file i) end (λ k d lt. aligned (suc k) d (omega arith)) rest in
    omega (arith, here.size, next-near start (align_of file i) (offset_of file i) here.place, sum_by-cons (room bytes) i order)

total-room : (file : List ℕ) (bytes : ℕ → List ℕ) (n : ℕ) → total (if_movable file (room bytes)) n ≤ 4096 * n + total (if_movable file (λ i. length (bytes i))) n
total-room file bytes zero = omega arith
total-room file bytes (suc n) =
    let before = total-room file bytes n in
    elim (cases_Bool (is_movable file n)) [ inl moves ↦ rw moves (omega arith) | inr stays ↦ rw stays (omega arith) ]

-- a file that was laid out anew with new bodies
module _ (file new : List ℕ) (bodies : List NewBody) (laid : IsLaidOut file (body_after file bodies) new) where
  abbrev bytes : ℕ → List ℕ
  bytes = body_after file bodies

  -- where a movable section stands, and with which bytes
  pub stands : (i : ℕ) → i < section_count file → IsTrue (is_movable file i) → StandsWithin new bytes (fixed_end_of file) laid.end i
  stands i lt moves =
      let among = (laid.moving.movable i).1 (lt, moves) in
      Stand-within new bytes laid.order (fixed_end_of file) laid.end i among.0 laid.sections among.1 among.2

  -- the movable sections have no more bytes than the wide limit
  pub movable-new : section_count new ≡ section_count file → ((i : ℕ) → i < section_count file → is_movable new i ≡ is_movable file i) → movable_bytes file (section_count file) ≤ 2 ^ 30 → bytes_of bodies ≤ 6 * 2 ^ 32 → movable_bytes new (section_count new) ≤ 2 ^ 35
  movable-new same still light small =
      let one : (i : ℕ) → i < section_count file → if_movable new (size_of new) i ≤ if_movable file (λ k. length (bytes k)) i = λ i lt. elim (cases_Bool (is_movable file i)) [
        | inl moves ↦
            let moves_new : is_movable new i ≡ true = still i lt ∙ moves in
            rw (moves_new, moves) (omega (arith, (stands i lt moves).size))
        | inr stays ↦ let stays_new : is_movable new i ≡ false = still i lt ∙ stays in rw (stays_new, stays) (omega arith)
      ] in
      let all = total-le (if_movable new (size_of new)) (if_movable file (λ k. length (bytes k))) (section_count file) one in
      rw same (omega (arith, movable_bytes-total new (section_count file), movable-after file bodies (section_count file)))

-- the same, where the sections are aligned to few bytes
module _ (file new : List ℕ) (bodies : List NewBody) (laid : IsLaidOut file (body_after file bodies) new) (aligned : (i : ℕ) → i < section_count file → IsTrue (is_movable file i) → align_of new i ≤ 4096) where
  member : (k d : ℕ) → k < length laid.order → (get_or laid.order k d < section_count file) × IsTrue (is_movable file (get_or laid.order k d))
  member k d lt = (laid.moving.movable (get_or laid.order k d)).0 (k, lt, get_or_default laid.order k (get_or laid.order k d) d lt)

  -- where the last section ends
  end-near : laid.end ≤ fixed_end_of file + (4096 * section_count file + (movable_bytes file (section_count file) + bytes_of bodies))
  end-near =
      let count = section_count file in
      let near = Stand-near new (body_after file bodies) laid.order (fixed_end_of file) laid.end (λ k d lt. let is = member k d lt in aligned (get_or laid.order k d) is.0 is.1) laid.sections in
      let counted : sum_by (room (body_after file bodies)) laid.order ≤ sum_by (if_movable file (room (body_after file bodies))) laid.order =
      sum_by-below (room (body_after file bodies)) (if_movable file (room (body_after file bodies))) laid.order (λ k d lt. rw (member k d lt).1 (omega arith)) in
      let apart : AllPairs (λ (i j : ℕ). i ≢ j) laid.order =
      λ i j d less lt. before-apart file (get_or laid.order i d) (get_or laid.order j d) (laid.moving.sorted i j d less lt) in
      let distinct = sum_by-distinct (if_movable file (room (body_after file bodies))) laid.order count (λ k d lt. (member k d lt).0) apart in
      omega (arith, total-room file (body_after file bodies) count, movable-after file bodies count)

  -- the whole file has no more bytes than the wide limit
  pub length-new : section_count new ≡ section_count file → section_count file ≤ 65279 → fixed_end_of file ≤ 2 ^ 30 → movable_bytes file (section_count file) ≤ 2 ^ 30 → bytes_of bodies ≤ 6 * 2 ^ 32 → length new ≤ 2 ^ 35
  length-new same few low light small =
      omega (arith, laid.whole, next-near laid.end 8 (sections_at new) laid.table, end-near)
