-- What items cost without a base.
use Rattle.std.proofs.Common.{◌≡◌, ◌≤◌, ◌<◌, ◌+◌, ◌-◌, ◌⊎◌, ℕ, List, sym, ap, refl, subst, arith, inl, inr}
use Rattle.std.specs.Prelude.{Option, Some, None, min}
use Rattle.std.proofs.lemmas.Bool.{cases_lt}
use Rattle.leb_codec.specs.Leb.{least_unsigned_len}
use Rattle.leb_codec.specs.LineCosts.{IsLeastCost}
use Rattle.leb_codec.proofs.Lens.{unsigned_lens}
use Rattle.list_model.specs.declared.context.Context.{Context}
use Rattle.list_model.specs.declared.entry.EntryKind.{EntryKind}
use Rattle.list_model.specs.declared.entry.EntryKind.TheVariants.{BaseAddressx, StartxEndx, StartxLength, OffsetPair, DefaultLocation, BaseAddress, StartEnd, StartLength}
use Rattle.list_model.specs.Items.{Bounds, HasBounds, IsIndexed}
use Rattle.list_model.specs.Items.Bounds.{between, elsewhere}
use Rattle.list_model.specs.Costs.{entry_bytes, ItemWithin}
use Rattle.list_least.specs.Maps.{IsLeastIndex}
use Rattle.list_least.specs.inside.Search.{FreeWithin, address_bytes, both_bytes, free_of}
use Rattle.list_least.specs.inside.Lookups.{IsIndexOf}

-- ---- bounds

start_in : Bounds → ℕ
start_in (between start end) = start
start_in elsewhere = 0

end_in : Bounds → ℕ
end_in (between start end) = end
end_in elsewhere = 0

IsBetween : Bounds → Type 0
IsBetween (between start end) = Unit {0}
IsBetween elsewhere = ⊥

pub same_start : (s e t f : ℕ) → between s e ≡ between t f → s ≡ t
unfolding start_in
same_start s e t f h = ap start_in h

pub same_end : (s e t f : ℕ) → between s e ≡ between t f → e ≡ f
unfolding end_in
same_end s e t f h = ap end_in h

pub not_elsewhere : (s e : ℕ) → between s e ≡ elsewhere → ⊥
unfolding IsBetween
not_elsewhere s e h = subst IsBetween h tt

-- ---- entries that need no base

-- a cost under a base: without it, or by offsets from it
pub by_base : (addr : List ℕ) (context : Context) (base : ℕ) (item : Bounds) (n : ℕ) → ItemWithin addr context base item n → FreeWithin addr context item n ⊎ ((a : ℕ) × (b : ℕ) × (item ≡ between (base + a) (base + b)) × (entry_bytes OffsetPair a b ≤ n))
by_base addr context base item n (StartxEndx, a, b, has, le) = inl (λ other. (StartxEndx, a, b, has, le))
by_base addr context base item n (StartxLength, a, b, has, le) = inl (λ other. (StartxLength, a, b, has, le))
by_base addr context base item n (OffsetPair, a, b, has, le) = inr (a, b, has, le)
by_base addr context base item n (DefaultLocation, a, b, has, le) = inl (λ other. (DefaultLocation, a, b, has, le))
by_base addr context base item n (StartEnd, a, b, has, le) = inl (λ other. (StartEnd, a, b, has, le))
by_base addr context base item n (StartLength, a, b, has, le) = inl (λ other. (StartLength, a, b, has, le))
by_base addr context base item n (BaseAddressx, a, b, has, le) = absurd has
by_base addr context base item n (BaseAddress, a, b, has, le) = absurd has

-- the index of an address that has one
pub known_index : (addr : List ℕ) (context : Context) (address other index : ℕ) (found : Option ℕ) → IsIndexOf addr context address found → other ≡ address → IsIndexed addr context index other → (i : ℕ) × (found ≡ Some i) × (least_unsigned_len i ≤ least_unsigned_len index)
known_index addr context address other index None none e is = absurd (none index other is (omega (arith, e)) (omega (arith, e)))
known_index addr context address other index (Some i) one e is = (i, refl, unsigned_lens.rises i index (one.least index other is (omega (arith, e)) (omega (arith, e))))

start_cost : (found : Option ℕ) (i n : ℕ) → found ≡ Some i → least_unsigned_len i ≤ n → address_bytes found ≤ n
start_cost found i n e le = subst (λ (z : Option ℕ). address_bytes z ≤ n) (sym e) (omega (arith, le))

most_start : (found : Option ℕ) → address_bytes found ≤ 8
most_start None = omega arith
most_start (Some i) = omega arith

most_both : (first last : Option ℕ) → both_bytes first last ≤ 16
most_both (Some i) (Some j) = omega arith
most_both (Some i) None = omega arith
most_both None (Some j) = omega arith
most_both None None = omega arith

both_cost : (first last : Option ℕ) (i j n m : ℕ) → first ≡ Some i → last ≡ Some j → least_unsigned_len i ≤ n → least_unsigned_len j ≤ m → both_bytes first last ≤ n + m
both_cost first last i j n m e f a b = subst (λ (z : Option ℕ). both_bytes z last ≤ n + m) (sym e) (subst (λ (z : Option ℕ). both_bytes (Some i) z ≤ n + m) (sym f) (omega (arith, a, b)))

free_most : (s e : ℕ) (first last : Option ℕ) (n : ℕ) → 1 + both_bytes first last ≤ n → free_of s e first last ≤ n
free_most s e first last n le = elim (cases_lt e s) [ inl lt ↦ grind (arith, le, lt) | inr ge ↦ grind (arith, le, ge) ]

free_by_length : (s e : ℕ) (first last : Option ℕ) (n : ℕ) → s ≤ e → 1 + (address_bytes first + least_unsigned_len (e - s)) ≤ n → free_of s e first last ≤ n
free_by_length s e first last n fore le = grind (arith, le, fore)

-- no entry that needs no base has fewer bytes
module _ (addr : List ℕ) (context : Context) (s e : ℕ) (first last : Option ℕ) (f : IsIndexOf addr context s first) (l : IsIndexOf addr context e last) where
  entry_free : (base : ℕ) (kind : EntryKind) (a b n : ℕ) → s < base → HasBounds addr context base kind a b (between s e) → entry_bytes kind a b ≤ n → free_of s e first last ≤ n
  entry_free base StartxEndx a b n over (t, u, i, j, is) le =
      let x = known_index addr context s t a first f (sym (same_start s e t u is)) i in
      let y = known_index addr context e u b last l (sym (same_end s e t u is)) j in
      free_most s e first last n (omega (arith, le, both_cost first last x.0 y.0 (least_unsigned_len a) (least_unsigned_len b) x.1 y.1 x.2 y.2))
  entry_free base StartxLength a b n over (t, i, is) le =
      let x = known_index addr context s t a first f (sym (same_start s e t (t + b) is)) i in
      let p : s ≡ t = same_start s e t (t + b) is in
      let q : e ≡ t + b = same_end s e t (t + b) is in
      let d : e - s ≡ b = omega (arith, p, q) in
      let m : least_unsigned_len (e - s) ≡ least_unsigned_len b = ap least_unsigned_len d in
      free_by_length s e first last n (omega (arith, p, q)) (omega (arith, le, m, start_cost first x.0 (least_unsigned_len a) x.1 x.2))
  entry_free base OffsetPair a b n over is le = let p : s ≡ base + a = same_start s e (base + a) (base + b) is in absurd (omega (arith, p, over))
  entry_free base DefaultLocation a b n over is le = absurd (not_elsewhere s e is)
  entry_free base StartEnd a b n over is le = free_most s e first last n (omega (arith, le, most_both first last))
  entry_free base StartLength a b n over is le =
      let p : s ≡ a = same_start s e a (a + b) is in
      let q : e ≡ a + b = same_end s e a (a + b) is in
      let d : e - s ≡ b = omega (arith, p, q) in
      let m : least_unsigned_len (e - s) ≡ least_unsigned_len b = ap least_unsigned_len d in
      free_by_length s e first last n (omega (arith, p, q)) (omega (arith, le, m, most_start first))
  entry_free base BaseAddressx a b n over is le = absurd is
  entry_free base BaseAddress a b n over is le = absurd is

  free_least : (n : ℕ) → FreeWithin addr context (between s e) n → free_of s e first last ≤ n
  free_least n within = let w = within (s + 1) in entry_free (s + 1) w.0 w.1 w.2 n (omega arith) w.3 w.4

-- ---- and one has as few

more_free : (addr : List ℕ) (context : Context) (item : Bounds) (n m : ℕ) → n ≤ m → FreeWithin addr context item n → FreeWithin addr context item m
more_free addr context item n m le f base = let w = f base in (w.0, w.1, w.2, w.3, omega (arith, le, w.4))

pub index_is : (addr : List ℕ) (context : Context) (address index : ℕ) → IsLeastIndex addr context address address index → IsIndexed addr context index address
index_is addr context address index one = let e : one.address ≡ address = omega (arith, one.above, one.below) in subst (λ (z : ℕ). IsIndexed addr context index z) e one.is

module _ (addr : List ℕ) (context : Context) (s e : ℕ) where
  way_end : FreeWithin addr context (between s e) 17
  way_end base = (StartEnd, s, e, refl, omega arith)

  way_both : (i j : ℕ) → IsLeastIndex addr context s s i → IsLeastIndex addr context e e j → FreeWithin addr context (between s e) (1 + (least_unsigned_len i + least_unsigned_len j))
  way_both i j f l base = (StartxEndx, i, j, (s, e, index_is addr context s i f, index_is addr context e j l, refl), omega arith)

  way_startx : (i : ℕ) → s ≤ e → IsLeastIndex addr context s s i → FreeWithin addr context (between s e) (1 + (least_unsigned_len i + least_unsigned_len (e - s)))
  way_startx i le f base = let d : e ≡ s + (e - s) = omega (arith, le) in (StartxLength, i, e - s, (s, index_is addr context s i f, ap (between s) d), omega arith)

  way_start : s ≤ e → FreeWithin addr context (between s e) (1 + (8 + least_unsigned_len (e - s)))
  way_start le base = let d : e ≡ s + (e - s) = omega (arith, le) in (StartLength, s, e - s, ap (between s) d, omega arith)

  both_enough : (first last : Option ℕ) → IsIndexOf addr context s first → IsIndexOf addr context e last → FreeWithin addr context (between s e) (1 + both_bytes first last)
  both_enough None None f l = way_end
  both_enough None (Some j) f l = way_end
  both_enough (Some i) None f l = way_end
  both_enough (Some i) (Some j) f l =
      elim (cases_lt (least_unsigned_len i + least_unsigned_len j) 16) [
        | inl lt ↦ more_free addr context (between s e) (1 + (least_unsigned_len i + least_unsigned_len j)) (1 + min (least_unsigned_len i + least_unsigned_len j) 16) (omega (arith, lt)) (way_both i j f l)
        | inr ge ↦ more_free addr context (between s e) 17 (1 + min (least_unsigned_len i + least_unsigned_len j) 16) (omega (arith, ge)) way_end
      ]

  length_enough : (first : Option ℕ) → s ≤ e → IsIndexOf addr context s first → FreeWithin addr context (between s e) (1 + (address_bytes first + least_unsigned_len (e - s)))
  length_enough None le f = way_start le
  length_enough (Some i) le f =
      elim (cases_lt (least_unsigned_len i) 8) [
        | inl lt ↦ more_free addr context (between s e) (1 + (least_unsigned_len i + least_unsigned_len (e - s))) (1 + (min (least_unsigned_len i) 8 + least_unsigned_len (e - s))) (omega (arith, lt)) (way_startx i le f)
        | inr ge ↦ more_free addr context (between s e) (1 + (8 + least_unsigned_len (e - s))) (1 + (min (least_unsigned_len i) 8 + least_unsigned_len (e - s))) (omega (arith, ge)) (way_start le)
      ]

  free_enough : (first last : Option ℕ) → IsIndexOf addr context s first → IsIndexOf addr context e last → FreeWithin addr context (between s e) (free_of s e first last)
  free_enough first last f l =
      elim (cases_lt e s) [
        | inl lt ↦ more_free addr context (between s e) (1 + both_bytes first last) (free_of s e first last) (grind (arith, lt)) (both_enough first last f l)
        | inr ge ↦ elim (cases_lt (both_bytes first last) (address_bytes first + least_unsigned_len (e - s))) [
          | inl less ↦ more_free addr context (between s e) (1 + both_bytes first last) (free_of s e first last) (grind (arith, ge, less)) (both_enough first last f l)
          | inr more ↦ more_free addr context (between s e) (1 + (address_bytes first + least_unsigned_len (e - s))) (free_of s e first last) (grind (arith, ge, more)) (length_enough first ge f)
        ]
      ]

  pub free_is : (first last : Option ℕ) (n : ℕ) → IsIndexOf addr context s first → IsIndexOf addr context e last → n ≡ free_of s e first last → IsLeastCost (FreeWithin addr context (between s e)) n
  free_is first last n f l is = subst (λ (z : ℕ). IsLeastCost (FreeWithin addr context (between s e)) z) (sym is) (record { enough = free_enough first last f l; least = free_least addr context s e first last f l })

  pub free_few : (first last : Option ℕ) → free_of s e first last ≤ 17
  free_few first last = free_most s e first last 17 (omega (arith, most_both first last))

-- a default location
pub default_free : (addr : List ℕ) (context : Context) → IsLeastCost (FreeWithin addr context elsewhere) 1
default_free addr context = record { enough = λ base. (DefaultLocation, 0, 0, refl, omega arith); least = λ n within. let w = within 0 in omega (arith, w.4) }
