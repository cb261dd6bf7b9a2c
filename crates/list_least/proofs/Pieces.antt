-- What an item costs under bases that are close to each other.
use Rattle.std.proofs.Common.{◌≡◌, ◌≤◌, ◌<◌, ◌+◌, ◌-◌, ◌∙◌, ℕ, List, [], ◌∷◌, ◌++◌, length, sym, ap, refl, subst, arith, inl, inr, Bool, true, false}
use Rattle.std.specs.Prelude.{min, max, if◌then◌else◌, None}
use Rattle.std.proofs.lemmas.List.{length-append, get_or_append_left}
use Rattle.std.proofs.Math.Seq.{get_or-append_seam}
use Rattle.std.proofs.lemmas.Bool.{cases_lt, true≢false}
use Rattle.leb_codec.specs.Leb.{least_unsigned_len}
use Rattle.leb_codec.specs.LineCosts.{IsLeastCost}
use Rattle.leb_codec.proofs.Lens.{unsigned_lens}
use Rattle.list_model.specs.declared.context.Context.{Context}
use Rattle.list_model.specs.declared.item.Item.{Item}
use Rattle.list_model.specs.declared.entry.EntryKind.TheVariants.{OffsetPair}
use Rattle.list_model.specs.Items.{Bounds}
use Rattle.list_model.specs.Items.Bounds.{between, elsewhere}
use Rattle.list_model.specs.Costs.{entry_bytes, ItemWithin}
use Rattle.list_least.specs.declared.costs.Costs.{Costs}
use Rattle.list_least.specs.Plans.{bounds_of, item_at}
use Rattle.list_least.specs.inside.Search.{FreeWithin, AreCosts, AreCostsTo, costs_at, IsPiece}
use Rattle.list_least.proofs.Free.{by_base, same_start, same_end, not_elsewhere, default_free}

-- what costs.whole says of the item
bounds_whole : (whole : Bool) (s e : ℕ) (item : Bounds) → (if whole then elsewhere else between s e) ≡ item → whole ≡ true → elsewhere ≡ item
bounds_whole whole s e item h w = subst (λ (z : Bool). (if z then elsewhere else between s e) ≡ item) w h

bounds_between : (whole : Bool) (s e : ℕ) (item : Bounds) → (if whole then elsewhere else between s e) ≡ item → whole ≡ false → between s e ≡ item
bounds_between whole s e item h w = subst (λ (z : Bool). (if z then elsewhere else between s e) ≡ item) w h

-- offsets from a base are no better than what needs no base
abbrev NoBetter : Bounds → ℕ → ℕ → Type 0
NoBetter item base free = (a b : ℕ) → item ≡ between (base + a) (base + b) → free ≤ entry_bytes OffsetPair a b

free_under : (addr : List ℕ) (context : Context) (base : ℕ) (item : Bounds) (free : ℕ) → IsLeastCost (FreeWithin addr context item) free → NoBetter item base free → IsLeastCost (ItemWithin addr context base item) free
free_under addr context base item free f dear = record {
  enough = f.enough base;
  least = λ n within. elim (by_base addr context base item n within) [ inl x ↦ f.least n x | inr (a, b, is, le) ↦ omega (arith, dear a b is, le) ];
}

free_piece : (addr : List ℕ) (context : Context) (item : Bounds) (costs : Costs) (top bottom : ℕ) → AreCosts addr context item costs → bottom ≤ top → ((base : ℕ) → bottom ≤ base → base ≤ top → NoBetter item base costs.free) → IsPiece addr context item top (record { cost = costs.free; bottom = bottom })
free_piece addr context item costs top bottom are le dear = record { cost = λ base low high. free_under addr context base item costs.free are.free (dear base low high); few = are.few; below = le }

pub whole_piece : (addr : List ℕ) (context : Context) (item : Bounds) (costs : Costs) (top : ℕ) → AreCosts addr context item costs → costs.whole ≡ true → IsPiece addr context item top (record { cost = costs.free; bottom = 0 })
whole_piece addr context item costs top are w =
    let e : elsewhere ≡ item = bounds_whole costs.whole costs.start costs.end item are.bounds w in
    free_piece addr context item costs top 0 are (omega arith) (λ base low high a b is. absurd (not_elsewhere (base + a) (base + b) (sym (e ∙ is))))

pub high_piece : (addr : List ℕ) (context : Context) (item : Bounds) (costs : Costs) (top low : ℕ) → AreCosts addr context item costs → costs.whole ≡ false → low ≡ min costs.start costs.end → low < top → IsPiece addr context item top (record { cost = costs.free; bottom = low + 1 })
high_piece addr context item costs top low are w l above =
    let e : between costs.start costs.end ≡ item = bounds_between costs.whole costs.start costs.end item are.bounds w in
    free_piece addr context item costs top (low + 1) are (omega (arith, above)) (λ base from to a b is.
    let p : costs.start ≡ base + a = same_start costs.start costs.end (base + a) (base + b) (e ∙ is) in
    let q : costs.end ≡ base + b = same_end costs.start costs.end (base + a) (base + b) (e ∙ is) in
    absurd (omega (arith, p, q, l, from)))

pub far_piece : (addr : List ℕ) (context : Context) (item : Bounds) (costs : Costs) (top first second : ℕ) → AreCosts addr context item costs → costs.whole ≡ false → first ≡ least_unsigned_len (costs.start - top) → second ≡ least_unsigned_len (costs.end - top) → costs.free ≤ 1 + first + second → IsPiece addr context item top (record { cost = costs.free; bottom = 0 })
far_piece addr context item costs top first second are w f g far =
    let e : between costs.start costs.end ≡ item = bounds_between costs.whole costs.start costs.end item are.bounds w in
    free_piece addr context item costs top 0 are (omega arith) (λ base from to a b is.
    let p : costs.start ≡ base + a = same_start costs.start costs.end (base + a) (base + b) (e ∙ is) in
    let q : costs.end ≡ base + b = same_end costs.start costs.end (base + a) (base + b) (e ∙ is) in
    let x : least_unsigned_len (costs.start - top) ≤ least_unsigned_len a = unsigned_lens.rises (costs.start - top) a (omega (arith, p, to)) in
    let y : least_unsigned_len (costs.end - top) ≤ least_unsigned_len b = unsigned_lens.rises (costs.end - top) b (omega (arith, q, to)) in
    omega (arith, x, y, f, g, far))

near : (address base top one two bottom len : ℕ) → len ≡ least_unsigned_len (address - top) → least_unsigned_len (address - one) ≤ len → bottom ≡ min top (max one two) → bottom ≤ base → least_unsigned_len (address - base) ≤ len
near address base top one two bottom len f few bot from =
    elim (cases_lt base top) [
      | inl lt ↦ let x : least_unsigned_len (address - base) ≤ least_unsigned_len (address - one) = unsigned_lens.rises (address - base) (address - one) (omega (arith, bot, from, lt)) in omega (arith, x, few)
      | inr ge ↦ let x : least_unsigned_len (address - base) ≤ least_unsigned_len (address - top) = unsigned_lens.rises (address - base) (address - top) (omega (arith, ge)) in omega (arith, x, f)
    ]

swapped : (top one two bottom : ℕ) → bottom ≡ min top (max one two) → bottom ≡ min top (max two one)
swapped top one two bottom h = omega (arith, h)

pub pair_piece : (addr : List ℕ) (context : Context) (item : Bounds) (costs : Costs) (top low first second one two cost bottom : ℕ) → AreCosts addr context item costs → costs.whole ≡ false → low ≡ min costs.start costs.end → top ≤ low → first ≡ least_unsigned_len (costs.start - top) → second ≡ least_unsigned_len (costs.end - top) → cost ≡ 1 + first + second → cost < costs.free → one ≤ costs.start → least_unsigned_len (costs.start - one) ≤ first → two ≤ costs.end → least_unsigned_len (costs.end - two) ≤ second → bottom ≡ min top (max one two) → IsPiece addr context item top (record { cost = cost; bottom = bottom })
pair_piece addr context item costs top low first second one two cost bottom are w l high f g is cheap below1 few1 below2 few2 bot =
    let e : between costs.start costs.end ≡ item = bounds_between costs.whole costs.start costs.end item are.bounds w in
    record {
      cost = λ base from to. record {
        enough =
            let p : costs.start ≡ base + (costs.start - base) = omega (arith, l, high, to) in
            let q : costs.end ≡ base + (costs.end - base) = omega (arith, l, high, to) in
            let x : least_unsigned_len (costs.start - base) ≤ first = near costs.start base top one two bottom first f few1 bot from in
            let y : least_unsigned_len (costs.end - base) ≤ second = near costs.end base top two one bottom second g few2 (swapped top one two bottom bot) from in
            (OffsetPair, costs.start - base, costs.end - base, sym e ∙ ap (λ z. between z costs.end) p ∙ ap (between (base + (costs.start - base))) q, omega (arith, x, y, is));
        least = λ n within. elim (by_base addr context base item n within) [
          | inl x ↦ omega (arith, are.free.least n x, cheap)
          | inr (a, b, h, le) ↦
              let p : costs.start ≡ base + a = same_start costs.start costs.end (base + a) (base + b) (e ∙ h) in
              let q : costs.end ≡ base + b = same_end costs.start costs.end (base + a) (base + b) (e ∙ h) in
              let x : least_unsigned_len (costs.start - top) ≤ least_unsigned_len a = unsigned_lens.rises (costs.start - top) a (omega (arith, p, to)) in
              let y : least_unsigned_len (costs.end - top) ≤ least_unsigned_len b = unsigned_lens.rises (costs.end - top) b (omega (arith, q, to)) in
              omega (arith, x, y, f, g, is, le)
        ];
      };
      few = omega (arith, cheap, are.few);
      below = omega (arith, bot);
    }

pub whole_costs : (addr : List ℕ) (context : Context) (item : Item) → item.whole ≡ true → AreCosts addr context (bounds_of item) (record { start = item.start; end = item.end; whole = true; first = None; last = None; free = 1 })
whole_costs addr context item w =
    let c : Costs = record { start = item.start; end = item.end; whole = true; first = None; last = None; free = 1 } in
    let are : AreCosts addr context elsewhere c = record { bounds = refl; indexes = λ h. absurd (true≢false h); free = default_free addr context; few = omega arith } in
    subst (λ (z : Bool). AreCosts addr context (if z then elsewhere else between item.start item.end) c) (sym w) are

pub between_costs : (addr : List ℕ) (context : Context) (item : Item) (costs : Costs) → item.whole ≡ false → AreCosts addr context (between item.start item.end) costs → AreCosts addr context (bounds_of item) costs
between_costs addr context item costs w are = subst (λ (z : Bool). AreCosts addr context (if z then elsewhere else between item.start item.end) costs) (sym w) are

pub between_is : (addr : List ℕ) (context : Context) (item : Bounds) (costs : Costs) → AreCosts addr context item costs → costs.whole ≡ false → between costs.start costs.end ≡ item
between_is addr context item costs are w = bounds_between costs.whole costs.start costs.end item are.bounds w

-- ---- the costs of some items

pub no_costs : (addr : List ℕ) (context : Context) (items : List Item) (all : List Costs) → all ≡ [] → AreCostsTo addr context items 0 all
no_costs addr context items all e = record { same = ap length e; each = λ i lt. absurd (omega (arith, lt)) }

pub more_costs : (addr : List ℕ) (context : Context) (items : List Item) (n : ℕ) (old new : List Costs) (costs : Costs) → AreCostsTo addr context items n old → AreCosts addr context (bounds_of (item_at items n)) costs → new ≡ old ++ costs ∷ [] → AreCostsTo addr context items (n + 1) new
more_costs addr context items n old new costs to are e =
    let d : Costs = record { start = 0; end = 0; whole = false; first = None; last = None; free = 0 } in
    record {
      same = omega (arith, ap length e ∙ length-append old (costs ∷ []), to.same);
      each = λ i lt. elim (cases_lt i n) [
        | inl less ↦
            let f : costs_at new i ≡ costs_at old i = ap (λ z. costs_at z i) e ∙ get_or_append_left old (costs ∷ []) d i (omega (arith, less, to.same)) in
            subst (AreCosts addr context (bounds_of (item_at items i))) (sym f) (to.each i less)
        | inr ge ↦
            let k : i ≡ n = omega (arith, lt, ge) in
            let f : costs_at new n ≡ costs = ap (costs_at new) (sym to.same) ∙ ap (λ z. costs_at z (length old)) e ∙ get_or-append_seam old costs [] d in
            subst (λ (z : ℕ). AreCosts addr context (bounds_of (item_at items z)) (costs_at new z)) (sym k) (subst (AreCosts addr context (bounds_of (item_at items n))) (sym f) are)
      ];
    }
