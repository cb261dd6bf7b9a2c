-- Indexes of addresses.
use Rattle.std.proofs.Common.{◌≡◌, ◌≤◌, ◌<◌, ◌+◌, ◌∙◌, ℕ, List, sym, ap, subst, arith, inl, inr}
use Rattle.std.specs.Prelude.{Some}
use Rattle.std.proofs.lemmas.Bool.{cases_lt}
use Rattle.std.proofs.lemmas.Option.{same_Some}
use Rattle.list_model.specs.declared.context.Context.{Context}
use Rattle.list_model.specs.declared.tables.AddrTable.{AddrTable}
use Rattle.list_model.specs.Addresses.{address_of}
use Rattle.list_model.specs.Items.{IsIndexed}
use Rattle.list_least.specs.Maps.{HasNoIndex, IsLeastIndex}
use Rattle.list_least.specs.inside.Lookups.{HasNoneBefore}

module _ (addr : List ℕ) (context : Context) (table : AddrTable) (is : context.table ≡ Some table) where
  same_table : (other : AddrTable) → context.table ≡ Some other → table ≡ other
  same_table other e = same_Some table other (sym is ∙ e)

  -- the address of an index
  pub address_is : (index at : ℕ) → IsIndexed addr context index at → at ≡ address_of addr table index
  address_is index at (other, e, inside, f) = subst (λ (z : AddrTable). at ≡ address_of addr z index) (sym (same_table other e)) f

  pub index_inside : (index at : ℕ) → IsIndexed addr context index at → index < table.count
  index_inside index at (other, e, inside, f) = subst (λ (z : AddrTable). index < z.count) (sym (same_table other e)) inside

  pub first_found : (from to index at : ℕ) → HasNoneBefore addr context from to index → index < table.count → at ≡ address_of addr table index → from ≤ at → at ≤ to → IsLeastIndex addr context from to index
  first_found from to index at none inside e above below =
      record {
        address = at;
        is = (table, is, inside, e);
        above = above;
        below = below;
        least = λ other place i a b. elim (cases_lt other index) [ inl lt ↦ absurd (none other place lt i a b) | inr ge ↦ ge ];
      }

  -- one that isn't in range is none
  pub none_more : (from to index at : ℕ) → HasNoneBefore addr context from to index → at ≡ address_of addr table index → (from ≤ at → at ≤ to → ⊥) → HasNoneBefore addr context from to (index + 1)
  none_more from to index at none e out other place lt i a b =
      elim (cases_lt other index) [
        | inl less ↦ none other place less i a b
        | inr ge ↦
            let same : other ≡ index = omega (arith, lt, ge) in
            let f : place ≡ at = address_is other place i ∙ ap (address_of addr table) same ∙ sym e in
            out (subst (λ (z : ℕ). from ≤ z) f a) (subst (λ (z : ℕ). z ≤ to) f b)
      ]

  pub none_all : (from to index : ℕ) → HasNoneBefore addr context from to index → table.count ≤ index → HasNoIndex addr context from to
  none_all from to index none all other place i a b = none other place (omega (arith, all, index_inside other place i)) i a b
