-- Laws of the search for the best way to advance an address.
use Rattle.std.proofs.Common.{◌≡◌, ◌≤◌, ◌<◌, ◌+◌, ◌-◌, ◌*◌, ◌/◌, ◌⊎◌, ◌↔◌, ℕ, ◌∙◌, ap, refl, arith, inl, inr, sym, subst, zero, suc}
use Rattle.std.proofs.lemmas.Bool.{cases_lt}
use Rattle.leb_codec.specs.LineCosts.{advance_pc_bytes, AdvanceForm, AdvanceWithin}
use Rattle.line_step.specs.declared.way.Advance.{Advance}
use Rattle.line_step.specs.declared.way.AddressOpcodes.{AddressOpcodes}
use Rattle.line_step.specs.declared.way.AddressOpcodes.TheVariants.{SetAddress, AdvanceBy}
use Rattle.line_step.specs.declared.way.AddressWay.{AddressWay}
use Rattle.line_step.specs.Ways.{opcodes_bytes, Advances, IsNotAfter, ComesFirst, IsAddressWay}
use Rattle.line_step.specs.inside.Search.{IsOperandFor, IsWay, HasCounts, LeavesLeast, IsBestWith, IsBefore, HasCountsBefore, ComesFirstBefore, IsBestBefore}

set_way : (range scale d : ℕ) → IsWay range scale d (record { opcodes = SetAddress; bytes = 11 })
set_way range scale d = record {
  bytes = refl;
  advances = tt;
  set = (λ _. refl, λ _. refl);
  few = omega arith;
}

-- set_address, where no form with these counts is shorter
set_best : (range scale d fixed const : ℕ) → ((n : ℕ) (form : AdvanceForm range scale d n) → form.fixed_adds ≡ fixed → form.const_adds ≡ const → 11 ≤ n) → IsBestWith range scale d fixed const (record { opcodes = SetAddress; bytes = 11 })
set_best range scale d fixed const none = record {
  way_is = set_way range scale d;
  counts = tt;
  fewest = none;
  first = tt;
}

-- what const_add_pc takes of a distance, as the program computes it
taken_is : (range scale const x y z : ℕ) → x ≡ const → y ≡ 242 / range → z ≡ scale → x * y * z ≡ const * (242 / range) * scale
taken_is range scale const x y z e f g =
    ap (λ v. v * y * z) e ∙ ap (λ v. const * v * z) f ∙ ap (λ v. const * (242 / range) * v) g

-- what is left of a form's distance
form_left : (range scale d const n taken : ℕ) (form : AdvanceForm range scale d n) → taken ≡ const * (242 / range) * scale → form.const_adds ≡ const → form.operand * scale + form.fixed_sum ≡ d - taken
form_left range scale d const n taken form is same =
    let e : form.const_adds * (242 / range) * scale ≡ const * (242 / range) * scale = ap (λ v. v * (242 / range) * scale) same in
    omega (arith, form.exact, e)

form_limit : (range scale d fixed n : ℕ) (form : AdvanceForm range scale d n) → form.fixed_adds ≡ fixed → form.fixed_sum ≤ 65535 * fixed
form_limit range scale d fixed n form same = omega (arith, form.fixed)

-- no operand does it in fewer than 11 bytes
pub none_best : (range scale d fixed const x y z limit : ℕ) → x ≡ const → y ≡ 242 / range → z ≡ scale → limit ≡ 65535 * fixed → ((q f : ℕ) → q * z + f ≡ d - x * y * z → f ≤ limit → 11 ≤ advance_pc_bytes q) → IsBestWith range scale d fixed const (record { opcodes = SetAddress; bytes = 11 })
none_best range scale d fixed const x y z limit e f g l none =
    set_best range scale d fixed const (λ n form same same'.
    let left = form_left range scale d const n (x * y * z) form (taken_is range scale const x y z e f g) same' in
    let scaled : form.operand * z ≡ form.operand * scale = ap (λ v. form.operand * v) g in
    let long = none form.operand form.fixed_sum (omega (arith, left, scaled)) (omega (arith, form_limit range scale d fixed n form same)) in
    omega (arith, long, form.cost))

-- the operand makes it 11 bytes or more
pub long_best : (range scale d fixed const x y z limit q bytes : ℕ) → x ≡ const → y ≡ 242 / range → z ≡ scale → limit ≡ 65535 * fixed → IsOperandFor (d - x * y * z) z limit q → bytes ≡ advance_pc_bytes q → 11 ≤ const + 3 * fixed + bytes → IsBestWith range scale d fixed const (record { opcodes = SetAddress; bytes = 11 })
long_best range scale d fixed const x y z limit q bytes e f g l operand b long =
    set_best range scale d fixed const (λ n form same same'.
    let left = form_left range scale d const n (x * y * z) form (taken_is range scale const x y z e f g) same' in
    let scaled : form.operand * z ≡ form.operand * scale = ap (λ v. form.operand * v) g in
    let more = operand.fewest form.operand form.fixed_sum (omega (arith, left, scaled)) (omega (arith, form_limit range scale d fixed n form same)) in
    omega (arith, more, form.cost))

-- const_add_pc take too much
pub over_best : (range scale d fixed const x y z : ℕ) → x ≡ const → y ≡ 242 / range → z ≡ scale → d < x * y * z → IsBestWith range scale d fixed const (record { opcodes = SetAddress; bytes = 11 })
over_best range scale d fixed const x y z e f g over =
    set_best range scale d fixed const (λ n form same same'.
    let taken = taken_is range scale const x y z e f g in
    let e : form.const_adds * (242 / range) * scale ≡ const * (242 / range) * scale = ap (λ v. v * (242 / range) * scale) same' in
    absurd (omega (arith, form.exact, e, taken)))

-- the way by an operand
pub found_best : (range scale d fixed const x y z limit q bytes : ℕ) → x ≡ const → y ≡ 242 / range → z ≡ scale → limit ≡ 65535 * fixed → x * y * z ≤ d → IsOperandFor (d - x * y * z) z limit q → bytes ≡ advance_pc_bytes q → const + 3 * fixed + bytes < 11 → IsBestWith range scale d fixed const (record { opcodes = AdvanceBy (record { operand = q; const_adds = const; fixed_adds = fixed; fixed_sum = d - x * y * z - q * z }); bytes = const + 3 * fixed + bytes })
found_best range scale d fixed const x y z limit q bytes e f g l within operand b few =
    let taken = taken_is range scale const x y z e f g in
    let scaled : q * z ≡ q * scale = ap (λ v. q * v) g in
    record {
      way_is = record {
        bytes = omega (arith, b);
        advances = record {
          exact = omega (arith, taken, scaled, within, operand.within);
          fixed = omega (arith, operand.left, operand.within);
        };
        set = (λ same. cc, λ most. absurd (omega (arith, few, most)));
        few = omega arith;
      };
      counts = (refl, refl);
      fewest = λ n form same same'.
          let left = form_left range scale d const n (x * y * z) form taken same' in
          let scaled' : form.operand * z ≡ form.operand * scale = ap (λ v. form.operand * v) g in
          let more = operand.fewest form.operand form.fixed_sum (omega (arith, left, scaled')) (omega (arith, form_limit range scale d fixed n form same)) in
          omega (arith, more, form.cost);
      first = λ form same same'.
          let left = form_left range scale d const (const + 3 * fixed + bytes) (x * y * z) form taken same' in
          let scaled' : form.operand * z ≡ form.operand * scale = ap (λ v. form.operand * v) g in
          let less = operand.first form.operand form.fixed_sum (omega (arith, left, scaled')) (omega (arith, form_limit range scale d fixed (const + 3 * fixed + bytes) form same)) (omega (arith, form.cost)) in
          omega (arith, less, operand.within);
    }

-- one more const_add_pc: the counts before are those before, and the last ones
last_or_before : (j k fixed const : ℕ) → IsBefore j k fixed (const + 1) → IsBefore j k fixed const ⊎ ((j ≡ fixed) × (k ≡ const))
last_or_before j k fixed const (inl less) = inl (inl less)
last_or_before j k fixed const (inr (same, less)) =
    elim (cases_lt k const) [ inl before ↦ inl (inr (same, before)) | inr last ↦ inr (same, omega arith) ]

before_more : (j k fixed const : ℕ) → IsBefore j k fixed const → IsBefore j k fixed (const + 1)
before_more j k fixed const (inl less) = inl less
before_more j k fixed const (inr (same, less)) = inr (same, omega arith)

counts_more : (fixed const : ℕ) (opcodes : AddressOpcodes) → HasCountsBefore fixed const opcodes → HasCountsBefore fixed (const + 1) opcodes
counts_more fixed const SetAddress h = tt
counts_more fixed const (AdvanceBy a) h = before_more a.fixed_adds a.const_adds fixed const h

not_after_last : (a : Advance) (j k f fixed const : ℕ) → IsBefore a.fixed_adds a.const_adds fixed const → j ≡ fixed → k ≡ const → IsNotAfter a j k f
not_after_last a j k f fixed const (inl less) e g = record {
  fewest_fixed = omega arith;
  fewest_const = λ same. absurd (omega arith);
  least_sum = λ same same'. absurd (omega arith);
}
not_after_last a j k f fixed const (inr (is, less)) e g = record {
  fewest_fixed = omega arith;
  fewest_const = λ same. omega arith;
  least_sum = λ same same'. absurd (omega arith);
}

first_more : (range scale d fixed const bytes : ℕ) (opcodes : AddressOpcodes) → HasCountsBefore fixed const opcodes → ComesFirstBefore range scale d fixed const bytes opcodes → ComesFirstBefore range scale d fixed (const + 1) bytes opcodes
first_more range scale d fixed const bytes SetAddress counts first = tt
first_more range scale d fixed const bytes (AdvanceBy a) counts first =
    λ form before.
    elim (last_or_before form.fixed_adds form.const_adds fixed const before) [
      | inl earlier ↦ first form earlier
      | inr last ↦ not_after_last a form.fixed_adds form.const_adds form.fixed_sum fixed const counts last.0 last.1
    ]

-- a way that is as short as the next ones
pub keep_best : (range scale d fixed const : ℕ) (best : AddressWay) → IsBestBefore range scale d fixed const best → ((n : ℕ) (form : AdvanceForm range scale d n) → form.fixed_adds ≡ fixed → form.const_adds ≡ const → best.bytes ≤ n) → IsBestBefore range scale d fixed (const + 1) best
keep_best range scale d fixed const best h low = record {
  way_is = h.way_is;
  counts = counts_more fixed const best.opcodes h.counts;
  fewest = λ n form before.
      elim (last_or_before form.fixed_adds form.const_adds fixed const before) [
        | inl earlier ↦ h.fewest n form earlier
        | inr last ↦ low n form last.0 last.1
      ];
  first = first_more range scale d fixed const best.bytes best.opcodes h.counts h.first;
}

-- counts that cost as much already
pub counts_long : (range scale d fixed const bytes : ℕ) → bytes ≤ const + 3 * fixed → (n : ℕ) (form : AdvanceForm range scale d n) → form.fixed_adds ≡ fixed → form.const_adds ≡ const → bytes ≤ n
counts_long range scale d fixed const bytes long n form same same' = omega (arith, form.cost)

counts_last : (fixed const : ℕ) (opcodes : AddressOpcodes) → HasCounts fixed const opcodes → HasCountsBefore fixed (const + 1) opcodes
counts_last fixed const SetAddress h = tt
counts_last fixed const (AdvanceBy a) (same, same') = inr (same, omega arith)

first_last : (range scale d fixed const bytes : ℕ) (opcodes : AddressOpcodes) → HasCounts fixed const opcodes → LeavesLeast range scale d bytes opcodes → ((form : AdvanceForm range scale d bytes) → IsBefore form.fixed_adds form.const_adds fixed const → ⊥) → ComesFirstBefore range scale d fixed (const + 1) bytes opcodes
first_last range scale d fixed const bytes SetAddress counts first none = tt
first_last range scale d fixed const bytes (AdvanceBy a) counts first none =
    λ form before.
    elim (last_or_before form.fixed_adds form.const_adds fixed const before) [
      | inl earlier ↦ absurd (none form earlier)
      | inr last ↦ record {
        fewest_fixed = omega (arith, counts, last);
        fewest_const = λ same. omega (arith, counts, last);
        least_sum = λ same same'. first form (sym same) (sym same');
      }
    ]

-- a way that is shorter than those before
pub take_best : (range scale d fixed const : ℕ) (best way : AddressWay) → IsBestBefore range scale d fixed const best → IsBestWith range scale d fixed const way → way.bytes < best.bytes → IsBestBefore range scale d fixed (const + 1) way
take_best range scale d fixed const best way h w less = record {
  way_is = w.way_is;
  counts = counts_last fixed const way.opcodes w.counts;
  fewest = λ n form before.
      elim (last_or_before form.fixed_adds form.const_adds fixed const before) [
        | inl earlier ↦ omega (arith, h.fewest n form earlier)
        | inr last ↦ w.fewest n form last.0 last.1
      ];
  first = first_last range scale d fixed const way.bytes way.opcodes w.counts w.first (λ form earlier. omega (arith, h.fewest way.bytes form earlier));
}

-- one more fixed_advance_pc: 11 const_add_pc cost as much as set_address
earlier_or_long : (j k fixed : ℕ) → IsBefore j k (fixed + 1) 0 → IsBefore j k fixed 11 ⊎ (11 ≤ k)
earlier_or_long j k fixed (inl less) =
    elim (cases_lt k 11) [
      | inl few ↦ elim (cases_lt j fixed) [ inl before ↦ inl (inl before) | inr last ↦ inl (inr (omega arith, few)) ]
      | inr many ↦ inr many
    ]
earlier_or_long j k fixed (inr (same, none)) = absurd (omega arith)

counts_next : (fixed : ℕ) (opcodes : AddressOpcodes) → HasCountsBefore fixed 11 opcodes → HasCountsBefore (fixed + 1) 0 opcodes
counts_next fixed SetAddress h = tt
counts_next fixed (AdvanceBy a) (inl less) = inl (omega arith)
counts_next fixed (AdvanceBy a) (inr (same, less)) = inl (omega arith)

-- opcodes other than set_address are shorter than 11 bytes
shorter : (bytes : ℕ) (a : Advance) → ((AdvanceBy a ≡ SetAddress) ↔ (bytes ≡ 11)) → bytes ≤ 11 → bytes < 11
shorter bytes a set few =
    elim (cases_lt bytes 11) [
      | inl less ↦ less
      | inr most ↦ let e = set.1 (omega arith) in cc
    ]

first_next : (range scale d fixed bytes : ℕ) (opcodes : AddressOpcodes) → ((opcodes ≡ SetAddress) ↔ (bytes ≡ 11)) → bytes ≤ 11 → ComesFirstBefore range scale d fixed 11 bytes opcodes → ComesFirstBefore range scale d (fixed + 1) 0 bytes opcodes
first_next range scale d fixed bytes SetAddress set few first = tt
first_next range scale d fixed bytes (AdvanceBy a) set few first =
    λ form before.
    elim (earlier_or_long form.fixed_adds form.const_adds fixed before) [
      | inl earlier ↦ first form earlier
      | inr many ↦ absurd (omega (arith, form.cost, shorter bytes a set few))
    ]

pub next_fixed : (range scale d fixed : ℕ) (best : AddressWay) → IsBestBefore range scale d fixed 11 best → IsBestBefore range scale d (fixed + 1) 0 best
next_fixed range scale d fixed best h = record {
  way_is = h.way_is;
  counts = counts_next fixed best.opcodes h.counts;
  fewest = λ n form before.
      elim (earlier_or_long form.fixed_adds form.const_adds fixed before) [
        | inl earlier ↦ h.fewest n form earlier
        | inr many ↦ omega (arith, form.cost, h.way_is.few)
      ];
  first = first_next range scale d fixed best.bytes best.opcodes h.way_is.set h.way_is.few h.first;
}

nothing_before : (j k : ℕ) → IsBefore j k 0 0 → ⊥
nothing_before j k (inl less) = omega (arith, less)
nothing_before j k (inr (same, less)) = omega (arith, less)

-- set_address to begin with
-- no way with more const_add_pc is better where these counts alone take as many bytes
keep_more : (range scale d fixed const : ℕ) (best : AddressWay) (more : ℕ) → best.bytes ≤ const + 3 * fixed → IsBestBefore range scale d fixed const best → IsBestBefore range scale d fixed (const + more) best
keep_more range scale d fixed const best zero long before =
    subst (λ (k : ℕ). IsBestBefore range scale d fixed k best) (omega arith) before
keep_more range scale d fixed const best (suc more) long before =
    let one = keep_best range scale d fixed const best before (counts_long range scale d fixed const best.bytes long) in
    let rest = keep_more range scale d fixed (const + 1) best more (omega arith) one in
    subst (λ (k : ℕ). IsBestBefore range scale d fixed k best) (omega arith) rest

pub skip_fixed : (range scale d fixed const : ℕ) (best : AddressWay) → const ≤ 11 → best.bytes ≤ const + 3 * fixed → IsBestBefore range scale d fixed const best → IsBestBefore range scale d (fixed + 1) 0 best
skip_fixed range scale d fixed const best few long before =
    let all = keep_more range scale d fixed const best (11 - const) long before in
    next_fixed range scale d fixed best (subst (λ (k : ℕ). IsBestBefore range scale d fixed k best) (omega arith) all)

pub start_best : (range scale d : ℕ) → IsBestBefore range scale d 0 0 (record { opcodes = SetAddress; bytes = 11 })
start_best range scale d = record {
  way_is = set_way range scale d;
  counts = tt;
  fewest = λ n form before. absurd (nothing_before form.fixed_adds form.const_adds before);
  first = tt;
}

-- 4 fixed_advance_pc cost more than set_address
all_before : (range scale d n : ℕ) (form : AdvanceForm range scale d n) → n ≤ 11 → IsBefore form.fixed_adds form.const_adds 4 0
all_before range scale d n form few = inl (omega (arith, form.cost))

first_done : (range scale d bytes : ℕ) (opcodes : AddressOpcodes) → bytes ≤ 11 → ComesFirstBefore range scale d 4 0 bytes opcodes → ComesFirst range scale d bytes opcodes
first_done range scale d bytes SetAddress few first = tt
first_done range scale d bytes (AdvanceBy a) few first = λ form. first form (all_before range scale d bytes form few)

enough_done : (range scale d bytes : ℕ) (opcodes : AddressOpcodes) → bytes ≡ opcodes_bytes opcodes → Advances range scale d opcodes → AdvanceWithin range scale d bytes
enough_done range scale d bytes SetAddress same advances = inl (omega arith)
enough_done range scale d bytes (AdvanceBy a) same advances = inr (record {
  const_adds = a.const_adds;
  fixed_adds = a.fixed_adds;
  operand = a.operand;
  fixed_sum = a.fixed_sum;
  exact = advances.exact;
  fixed = advances.fixed;
  cost = omega (arith, same);
})

least_done : (range scale d : ℕ) (best : AddressWay) → IsBestBefore range scale d 4 0 best → (n : ℕ) → AdvanceWithin range scale d n → best.bytes ≤ n
least_done range scale d best h n (inl many) = omega (arith, h.way_is.few)
least_done range scale d best h n (inr form) =
    elim (cases_lt n 11) [
      | inl few ↦ h.fewest n form (all_before range scale d n form (omega arith))
      | inr many ↦ omega (arith, h.way_is.few)
    ]

pub best_done : (range scale d : ℕ) (best : AddressWay) → IsBestBefore range scale d 4 0 best → IsAddressWay range scale d best
best_done range scale d best h = record {
  bytes = h.way_is.bytes;
  advances = h.way_is.advances;
  least = record {
    enough = enough_done range scale d best.bytes best.opcodes h.way_is.bytes h.way_is.advances;
    least = least_done range scale d best h;
  };
  set = h.way_is.set;
  first = first_done range scale d best.bytes best.opcodes h.way_is.few h.first;
}
