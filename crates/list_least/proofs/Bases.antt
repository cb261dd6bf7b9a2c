-- What it costs to set a base.
use Rattle.std.proofs.Common.{◌≡◌, ◌≤◌, ◌+◌, ◌-◌, ◌∙◌, ℕ, List, length, sym, ap, refl, subst, arith, inl, inr}
use Rattle.std.specs.Prelude.{min}
use Rattle.std.proofs.lemmas.Bool.{cases_lt}
use Rattle.leb_codec.specs.Leb.{least_unsigned_len}
use Rattle.leb_codec.specs.LineCosts.{IsLeastCost}
use Rattle.leb_codec.proofs.Lens.{unsigned_lens}
use Rattle.list_model.specs.declared.context.Context.{Context}
use Rattle.list_model.specs.declared.entry.EntryKind.{EntryKind}
use Rattle.list_model.specs.declared.entry.EntryKind.TheVariants.{BaseAddressx, BaseAddress}
use Rattle.list_model.specs.declared.tables.AddrTable.{AddrTable}
use Rattle.list_model.specs.Addresses.{address_of}
use Rattle.list_model.specs.Items.{SetsBase, IsIndexed}
use Rattle.std.proofs.lemmas.Option.{same_Some}
use Rattle.list_model.specs.Costs.{entry_bytes, BaseWithin}
use Rattle.list_least.specs.declared.runs.Run.{Run}
use Rattle.list_least.specs.Maps.{HasNoIndex, IsLeastIndex}
use Rattle.list_least.specs.Tails.{run_at, IsIn}
use Rattle.list_least.specs.inside.Search.{IsAbove, IsBaseBetween, IsRunBytes}

none_least : (addr : List ℕ) (context : Context) (from to base : ℕ) (kind : EntryKind) (a n : ℕ) → HasNoIndex addr context from to → from ≤ base → base ≤ to → SetsBase addr context kind a base → entry_bytes kind a 0 ≤ n → 9 ≤ n
none_least addr context from to base BaseAddressx a n none low high is le = absurd (none a base is low high)
none_least addr context from to base BaseAddress a n none low high is le = omega (arith, le)
none_least addr context from to base _ a n none low high is le = absurd is

pub no_index : (addr : List ℕ) (context : Context) (from to : ℕ) → from ≤ to → HasNoIndex addr context from to → IsBaseBetween addr context from to 9
no_index addr context from to order none = record {
  least = λ base n low high w. none_least addr context from to base w.0 w.1 n none low high w.2 w.3;
  base = from;
  above = omega arith;
  below = order;
  enough = (BaseAddress, from, refl, omega arith);
}

some_least : (addr : List ℕ) (context : Context) (from to base index : ℕ) (kind : EntryKind) (a n : ℕ) → IsLeastIndex addr context from to index → from ≤ base → base ≤ to → SetsBase addr context kind a base → entry_bytes kind a 0 ≤ n → min (1 + least_unsigned_len index) 9 ≤ n
some_least addr context from to base index BaseAddressx a n one low high is le =
    let x : least_unsigned_len index ≤ least_unsigned_len a = unsigned_lens.rises index a (one.least a base is low high) in
    omega (arith, x, le)
some_least addr context from to base index BaseAddress a n one low high is le = omega (arith, le)
some_least addr context from to base index _ a n one low high is le = absurd is

pub one_index : (addr : List ℕ) (context : Context) (from to index : ℕ) → from ≤ to → IsLeastIndex addr context from to index → IsBaseBetween addr context from to (min (1 + least_unsigned_len index) 9)
one_index addr context from to index order one =
    elim (cases_lt (1 + least_unsigned_len index) 9) [
      | inl lt ↦ record {
        least = λ base n low high w. some_least addr context from to base index w.0 w.1 n one low high w.2 w.3;
        base = one.address;
        above = one.above;
        below = one.below;
        enough = (BaseAddressx, index, one.is, omega (arith, lt));
      }
      | inr ge ↦ record {
        least = λ base n low high w. some_least addr context from to base index w.0 w.1 n one low high w.2 w.3;
        base = from;
        above = omega arith;
        below = order;
        enough = (BaseAddress, from, refl, omega (arith, ge));
      }
    ]

-- the bases of a run
pub from_lowest : (runs : List Run) (i lowest base : ℕ) → IsAbove runs (i + 1) lowest → IsIn runs i base → lowest ≤ base
from_lowest runs i lowest base above inside =
    elim (cases_lt (i + 1) (length runs)) [
      | inl more ↦ omega (arith, above.inner more, inside.beyond more)
      | inr end ↦ omega (arith, above.last (omega (arith, end, inside.inside)))
    ]

pub run_least : (addr : List ℕ) (context : Context) (under : ℕ) (runs : List Run) (i bytes base n : ℕ) → IsRunBytes addr context under runs i bytes → IsIn runs i base → BaseWithin addr context base n → bytes ≤ n + (under - (run_at runs i).gain)
run_least addr context under runs i bytes base n run inside w = omega (arith, run.sum, run.between.least base n (from_lowest runs i run.lowest base run.above inside) inside.upto w)

pub one_index_as : (addr : List ℕ) (context : Context) (from to index len bytes : ℕ) → from ≤ to → IsLeastIndex addr context from to index → len ≡ least_unsigned_len index → bytes ≡ min (1 + len) 9 → IsBaseBetween addr context from to bytes
one_index_as addr context from to index len bytes order one e f =
    let g : min (1 + least_unsigned_len index) 9 ≡ bytes = omega (arith, e, f) in
    subst (λ (z : ℕ). IsBaseBetween addr context from to z) g (one_index addr context from to index order one)

one_address : (addr : List ℕ) (context : Context) (index x y : ℕ) → IsIndexed addr context index x → IsIndexed addr context index y → x ≡ y
one_address addr context index x y (t, e, l, f) (u, g, m, h) = f ∙ ap (λ (z : AddrTable). address_of addr z index) (same_Some t u (sym e ∙ g)) ∙ sym h

pub at_above : (addr : List ℕ) (context : Context) (from to index at : ℕ) → IsLeastIndex addr context from to index → IsIndexed addr context index at → from ≤ at
at_above addr context from to index at one is = omega (arith, one.above, one_address addr context index one.address at one.is is)

pub at_below : (addr : List ℕ) (context : Context) (from to index at : ℕ) → IsLeastIndex addr context from to index → IsIndexed addr context index at → at ≤ to
at_below addr context from to index at one is = omega (arith, one.below, one_address addr context index one.address at one.is is)

pub one_base : (addr : List ℕ) (context : Context) (base bytes : ℕ) → IsBaseBetween addr context base base bytes → IsLeastCost (BaseWithin addr context base) bytes
one_base addr context base bytes b =
    let e : b.base ≡ base = omega (arith, b.above, b.below) in
    record { enough = subst (λ (z : ℕ). BaseWithin addr context z bytes) e b.enough; least = λ n w. b.least base n (omega arith) (omega arith) w }
