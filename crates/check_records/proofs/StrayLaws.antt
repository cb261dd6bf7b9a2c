-- Parts and records side by side.
use Rattle.std.proofs.Common.{◌≡◌, ◌≤◌, ◌<◌, ◌+◌, ◌∙◌, ℕ, List, [], ◌∷◌, ◌++◌, length, get_or, take, drop, sym, ap, subst, arith}
use Rattle.std.specs.List.{AllZip}
use Rattle.std.proofs.lemmas.List.{append-nil, take-append-drop, take_all, take_more, drop_all, drop_more, length-drop, length-map, get_or_default}
use Rattle.leb_codec.specs.Records.{Record, SpellsRecord, HasNone}
use Rattle.certificates.specs.Reading.{IsRead}
use Rattle.certificates.proofs.Files.{one_reading}
use Rattle.dw_base.specs.declared.classes.Classes.{Classes}
use Rattle.dw_base.specs.declared.fault.Reach.{Reach}
use Rattle.value_links.specs.Reading.{Reading}
use Rattle.value_links.specs.Whole.{IsReading}
use Rattle.value_links.specs.World.{World, IsWorldOf}
use Rattle.value_links.proofs.ReadingOnce.{reading_once}
use Rattle.check_records.specs.Parts.{Part, IsFor, AreParts, IsJudged, HasRecords}
use Rattle.check_records.specs.Strays.{IsRecordFile, IsMismatch, IsStray}
use Rattle.check_records.specs.declared.parts.Part.{Part as HeldPart}
use Rattle.check_records.specs.inside.Parts.{part_of, parts_of}
use Rattle.check_records.proofs.PartLists.{part_here, parts_once}
use Rattle.check_records.proofs.Standing.{Standing, Left, standing_none, standing_more, standing_left, left_none, left_some, left_read, left_stands}

-- PAIRS

pub zip_push : {A B : Type 0} (R : A → B → Type 0) (xs : List A) (ys : List B) (x : A) (y : B) → AllZip R xs ys → R x y → AllZip R (xs ++ x ∷ []) (ys ++ y ∷ [])
zip_push R [] [] x y all one = (one, tt)
zip_push R [] (b ∷ ys) x y all one = absurd all
zip_push R (a ∷ xs) [] x y all one = absurd all
zip_push R (a ∷ xs) (b ∷ ys) x y (first, rest) one = (first, zip_push R xs ys x y rest one)

-- what stands behind pairs are pairs
pub zip_behind : {A B : Type 0} (R S : A → B → Type 0) (xs more : List A) (ys others : List B) → AllZip R xs ys → AllZip S (xs ++ more) (ys ++ others) → AllZip S more others
zip_behind R S [] more [] others all whole = whole
zip_behind R S [] more (y ∷ ys) others all whole = absurd all
zip_behind R S (x ∷ xs) more [] others all whole = absurd all
zip_behind R S (x ∷ xs) more (y ∷ ys) others (first, rest) (one, behind) = zip_behind R S xs more ys others rest behind

-- MISMATCHES

mismatched : (parts : List Part) (records : List Record) → AllZip IsFor parts records → IsMismatch parts records → ⊥
mismatched [] [] all other = other
mismatched [] (one ∷ records) all other = all
mismatched (part ∷ parts) [] all other = all
mismatched (part ∷ parts) (one ∷ records) all other = other all.0

missing_first : (parts : List Part) (records : List Record) → 0 < length parts → records ≡ [] → IsMismatch parts records
missing_first [] records some none = absurd (omega (arith, some))
missing_first (part ∷ parts) [] some none = tt
missing_first (part ∷ parts) (one ∷ records) some none = let size : length (one ∷ records) ≡ 0 = ap length none in absurd (omega (arith, size))

other_first : (parts : List Part) (records : List Record) (part : Part) (rest : List Part) (one : Record) (more : List Record) → parts ≡ part ∷ rest → records ≡ one ∷ more → ¬ IsFor part one → IsMismatch parts records
other_first parts records part rest one more p q other =
    subst (λ (z : List Part). IsMismatch z records) (sym p) (subst (λ (z : List Record). IsMismatch (part ∷ rest) z) (sym q) other)

left_first : (parts : List Part) (records : List Record) (one : Record) (more : List Record) → parts ≡ [] → records ≡ one ∷ more → IsMismatch parts records
left_first parts records one more p q = subst (λ (z : List Part). IsMismatch z records) (sym p) (subst (λ (z : List Record). IsMismatch [] z) (sym q) tt)

-- THE RECORDS OF THE FIRST PARTS

-- the records of some parts stand up to a place
pub record Matched (classes : Classes) (certificate : List ℕ) (at : ℕ) (parts : List Part) : Type 0 where
  pub records : List Record
  pub standing : Standing classes certificate at records
  pub each : AllZip IsFor parts records

pub matched_none : (classes : Classes) (certificate : List ℕ) → Standing classes certificate 8 [] → Matched classes certificate 8 []
matched_none classes certificate s = record { records = []; standing = s; each = tt }

module _ (classes : Classes) (certificate : List ℕ) (parts : List Part) (i at : ℕ) (m : Matched classes certificate at (take i parts)) where
  pub matched_more : (part : Part) (one : Record) (next : ℕ) → i < length parts → part ≡ get_or parts i part → IsRead SpellsRecord certificate at one next → IsFor part one → Matched classes certificate next (take (i + 1) parts)
  matched_more part one next inside here r is =
      let front : take (i + 1) parts ≡ take i parts ++ part ∷ [] = take_more parts i part inside ∙ ap (λ (z : Part). take i parts ++ z ∷ []) (sym here) in
      record {
        records = m.records ++ one ∷ [];
        standing = standing_more classes certificate at m.records one next m.standing r;
        each = subst (λ (z : List Part). AllZip IsFor z (m.records ++ one ∷ [])) (sym front) (zip_push IsFor (take i parts) m.records part one m.each is);
      }

  module _ (written : List ℕ) (s : Reading) (all : List Record) (judged : IsJudged classes written certificate s parts all) where
    pub left : Left certificate at m.records all
    left = standing_left classes certificate at m.records all m.standing judged.spelled

    stray : IsMismatch (drop i parts) left.behind → IsStray classes written certificate at
    stray other = record {
      s = s;
      parts = parts;
      records = all;
      judged = judged;
      parts_before = take i parts;
      parts_behind = drop i parts;
      whole = sym (take-append-drop i parts);
      records_before = m.records;
      records_behind = left.behind;
      split = left.whole;
      each = m.each;
      other = other;
      front = m.standing.front;
      spelled = m.standing.spelled;
      at = m.standing.place;
    }

    -- there is none for the next part
    pub stray_missing : i < length parts → length certificate ≤ at → IsStray classes written certificate at
    stray_missing inside end = stray (missing_first (drop i parts) left.behind (omega (arith, length-drop i parts, inside)) (left_none certificate at left.behind left.spelled end))

    -- the next one is of another kind
    pub stray_other : (part : Part) (one : Record) (next : ℕ) → i < length parts → part ≡ get_or parts i part → at < length certificate → IsRead SpellsRecord certificate at one next → ¬ IsFor part one → IsStray classes written certificate at
    stray_other part one next inside here more r other =
        let (rest, same) = left_read certificate at left.behind one next left.spelled more r in
        stray (other_first (drop i parts) left.behind part (drop (i + 1) parts) one rest (drop_more parts i part inside ∙ ap (λ (z : Part). z ∷ drop (i + 1) parts) (sym here)) same other)

    -- it is left over
    pub stray_left : length parts ≤ i → at < length certificate → IsStray classes written certificate at
    stray_left past more =
        let (one, rest, same) = left_some certificate at left.behind left.spelled more in
        stray (left_first (drop i parts) left.behind one rest (drop_all i parts past) same)

    -- each has its own
    pub all_matched : length parts ≤ i → length certificate ≤ at → HasRecords classes written certificate
    all_matched past end =
        let none : left.behind ≡ [] = left_none certificate at left.behind left.spelled end in
        let same : all ≡ m.records = left.whole ∙ ap (λ (z : List Record). m.records ++ z) none ∙ append-nil m.records in
        let each : AllZip IsFor parts m.records = subst (λ (z : List Part). AllZip IsFor z m.records) (take_all i parts past) m.each in
        record { s = s; parts = parts; records = all; judged = judged; each = subst (λ (z : List Record). AllZip IsFor parts z) (sym same) each }

-- WHAT IS JUDGED

pub judged_of : (classes : Classes) (world : World) (reach : Reach) (is : IsWorldOf world.image reach world) (certificate : List ℕ) (parts : List Part) → ((s : Reading) → IsReading world.image s → AreParts classes s parts) → (whole : IsRecordFile classes certificate) → IsJudged classes world.image certificate is.r parts whole.0
judged_of classes world reach is certificate parts are whole = record { read = is.read; of_file = are is.r is.read; spelled = whole.1 }

pub matched_start : (classes : Classes) (certificate : List ℕ) → IsRecordFile classes certificate → Matched classes certificate 8 []
matched_start classes certificate (records, (body, j, e)) = matched_none classes certificate (standing_none classes certificate body e)

-- what stands up to a place, of the parts of a file as they are held
module _ (classes : Classes) (world : World) (some : (reach : Reach) × IsWorldOf world.image reach world) (certificate : List ℕ) (file : IsRecordFile classes certificate) (items held : List HeldPart) (same : items ≡ held) (are : (s : Reading) → IsReading world.image s → AreParts classes s (parts_of held)) (i at : ℕ) (m : Matched classes certificate at (take i (parts_of items))) where
  found_judged : IsJudged classes world.image certificate some.1.r (parts_of items) file.0
  found_judged = judged_of classes world some.0 some.1 certificate (parts_of items) (λ s read. subst (λ (z : List HeldPart). AreParts classes s (parts_of z)) (sym same) (are s read)) file

  found_count : length (parts_of items) ≡ length items
  found_count = length-map items part_of

  found_rest : Left certificate at m.records file.0
  found_rest = left classes certificate (parts_of items) i at m world.image some.1.r file.0 found_judged

  pub found_missing : i < length items → at ≡ length certificate → IsStray classes world.image certificate at
  found_missing inside end = stray_missing classes certificate (parts_of items) i at m world.image some.1.r file.0 found_judged (omega (arith, inside, found_count)) (omega (arith, end))

  pub found_stands : at < length certificate → HasNone SpellsRecord (drop at certificate) → ⊥
  found_stands more none = left_stands certificate at found_rest.behind found_rest.spelled more none

  pub found_here : (d : HeldPart) → i < length items → part_of (get_or items i d) ≡ get_or (parts_of items) i (part_of (get_or items i d))
  found_here d inside = part_here items i (get_or items i d) inside (get_or_default items i d (get_or items i d) inside)

  pub found_other : (d : HeldPart) (one : Record) (next : ℕ) → i < length items → at < length certificate → IsRead SpellsRecord certificate at one next → ¬ IsFor (part_of (get_or items i d)) one → IsStray classes world.image certificate at
  found_other d one next inside more r other = stray_other classes certificate (parts_of items) i at m world.image some.1.r file.0 found_judged (part_of (get_or items i d)) one next (omega (arith, inside, found_count)) (found_here d inside) more r other

  pub found_more : (d : HeldPart) (one : Record) (next : ℕ) → i < length items → IsRead SpellsRecord certificate at one next → IsFor (part_of (get_or items i d)) one → Matched classes certificate next (take (i + 1) (parts_of items))
  found_more d one next inside r is = matched_more classes certificate (parts_of items) i at m (part_of (get_or items i d)) one next (omega (arith, inside, found_count)) (found_here d inside) r is

  pub found_left : length items ≤ i → at < length certificate → IsStray classes world.image certificate at
  found_left past more = stray_left classes certificate (parts_of items) i at m world.image some.1.r file.0 found_judged (omega (arith, past, found_count)) more

  pub found_all : length items ≤ i → length certificate ≤ at → HasRecords classes world.image certificate
  found_all past end = all_matched classes certificate (parts_of items) i at m world.image some.1.r file.0 found_judged (omega (arith, past, found_count)) end

-- NEVER BOTH

-- what is judged is one reading, one list of parts and one of records
pub judged_once : (classes : Classes) (written certificate : List ℕ) (s t : Reading) (a b : List Part) (xs ys : List Record) → IsJudged classes written certificate s a xs → IsJudged classes written certificate t b ys → (s ≡ t) × (a ≡ b) × (xs ≡ ys)
judged_once classes written certificate s t a b xs ys p q =
    let same : s ≡ t = reading_once written s t p.read q.read in
    (same, parts_once classes t a b (subst (λ (z : Reading). AreParts classes z a) same p.of_file) q.of_file, one_reading classes certificate xs ys p.spelled q.spelled)

pub never_both : (classes : Classes) (written certificate : List ℕ) (place : ℕ) → IsStray classes written certificate place → HasRecords classes written certificate → ⊥
never_both classes written certificate place stray has =
    let (one, parts, records) = judged_once classes written certificate has.s stray.s has.parts stray.parts has.records stray.records has.judged stray.judged in
    let first : AllZip IsFor (stray.parts_before ++ stray.parts_behind) has.records = subst (λ (z : List Part). AllZip IsFor z has.records) (parts ∙ stray.whole) has.each in
    let both : AllZip IsFor (stray.parts_before ++ stray.parts_behind) (stray.records_before ++ stray.records_behind) = subst (λ (z : List Record). AllZip IsFor (stray.parts_before ++ stray.parts_behind) z) (records ∙ stray.split) first in
    mismatched stray.parts_behind stray.records_behind (zip_behind IsFor IsFor stray.parts_before stray.parts_behind stray.records_before stray.records_behind stray.each both) stray.other
