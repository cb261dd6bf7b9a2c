-- Which bases suffice for items.
use Rattle.std.proofs.Common.{◌≡◌, ◌≤◌, ◌+◌, ◌-◌, ◌∙◌, ◌⊎◌, ℕ, suc, List, [], ◌∷◌, sym, ap, refl, subst, arith, inl, inr}
use Rattle.std.specs.List.{Contains}
use Rattle.std.proofs.lemmas.Bool.{cases_lt}
use Rattle.leb_codec.specs.Leb.{least_unsigned_len}
use Rattle.leb_codec.proofs.Lens.{unsigned_lens}
use Rattle.list_model.specs.declared.context.Context.{Context}
use Rattle.list_model.specs.declared.entry.EntryKind.TheVariants.{BaseAddressx, StartxEndx, StartxLength, OffsetPair, DefaultLocation, BaseAddress, StartEnd, StartLength}
use Rattle.list_model.specs.Items.{Bounds}
use Rattle.list_model.specs.Items.Bounds.{between}
use Rattle.list_model.specs.Costs.{entry_bytes, ItemWithin, ItemsWithin}
use Rattle.list_least.specs.Laws.{IsLow, CandidateBases}

-- an item costs no more under any base up to a limit
abbrev UpTo : List ℕ → Context → ℕ → Bounds → ℕ → ℕ → Type 0
UpTo addr context base item n low = (other : ℕ) → base ≤ other → other ≤ low → ItemWithin addr context other item n

-- under any base, or from this one up to the low
abbrev Movable : List ℕ → Context → ℕ → Bounds → ℕ → Type 0
Movable addr context base item n =
    ((other : ℕ) → ItemWithin addr context other item n)
    ⊎ ((low : ℕ) × IsLow item low × (base ≤ low) × UpTo addr context base item n low)

-- offsets from a base that is nearer
pair_nearer : (addr : List ℕ) (context : Context) (base a b n low : ℕ) → entry_bytes OffsetPair a b ≤ n → low ≤ base + a → low ≤ base + b → UpTo addr context base (between (base + a) (base + b)) n low
pair_nearer addr context base a b n low le first second other from to =
    let a2 : ℕ = base + a - other in
    let b2 : ℕ = base + b - other in
    let x : base + a ≡ other + a2 = omega arith in
    let y : base + b ≡ other + b2 = omega arith in
    let la : least_unsigned_len a2 ≤ least_unsigned_len a = unsigned_lens.rises a2 a (omega arith) in
    let lb : least_unsigned_len b2 ≤ least_unsigned_len b = unsigned_lens.rises b2 b (omega arith) in
    (OffsetPair, a2, b2, ap (λ z. between z (base + b)) x ∙ ap (λ z. between (other + a2) z) y, omega arith)

pair_movable : (addr : List ℕ) (context : Context) (base a b n : ℕ) → entry_bytes OffsetPair a b ≤ n → Movable addr context base (between (base + a) (base + b)) n
pair_movable addr context base a b n le =
    elim (cases_lt a b) [
      | inl lt ↦ inr (base + a, inl (refl, omega arith), omega arith, pair_nearer addr context base a b n (base + a) le (omega arith) (omega arith))
      | inr ge ↦ inr (base + b, inr (refl, omega arith), omega arith, pair_nearer addr context base a b n (base + b) le (omega arith) (omega arith))
    ]

item_movable : (addr : List ℕ) (context : Context) (base : ℕ) (item : Bounds) (n : ℕ) → ItemWithin addr context base item n → Movable addr context base item n
item_movable addr context base item n (StartxEndx, a, b, has, le) = inl (λ other. (StartxEndx, a, b, has, le))
item_movable addr context base item n (StartxLength, a, b, has, le) = inl (λ other. (StartxLength, a, b, has, le))
item_movable addr context base item n (OffsetPair, a, b, has, le) = subst (λ (z : Bounds). Movable addr context base z n) (sym has) (pair_movable addr context base a b n le)
item_movable addr context base item n (DefaultLocation, a, b, has, le) = inl (λ other. (DefaultLocation, a, b, has, le))
item_movable addr context base item n (StartEnd, a, b, has, le) = inl (λ other. (StartEnd, a, b, has, le))
item_movable addr context base item n (StartLength, a, b, has, le) = inl (λ other. (StartLength, a, b, has, le))
item_movable addr context base item n (BaseAddressx, a, b, has, le) = absurd has
item_movable addr context base item n (BaseAddress, a, b, has, le) = absurd has

abbrev AllMovable : List ℕ → Context → ℕ → List Bounds → ℕ → Type 0
AllMovable addr context base items n =
    ((other : ℕ) → ItemsWithin addr context other items n)
    ⊎ ((item : Bounds) × (low : ℕ) × Contains items item × IsLow item low × (base ≤ low) × ((other : ℕ) → base ≤ other → other ≤ low → ItemsWithin addr context other items n))

here : (item : Bounds) (items : List Bounds) → Contains (item ∷ items) item
here item items = (0, omega arith, refl)

there : (item one : Bounds) (items : List Bounds) → Contains items one → Contains (item ∷ items) one
there item one items (i, lt, e) = (suc i, omega (arith, lt), e)

both_movable : (addr : List ℕ) (context : Context) (base : ℕ) (item : Bounds) (items : List Bounds) (k l n : ℕ) → k + l ≤ n → Movable addr context base item k → AllMovable addr context base items l → AllMovable addr context base (item ∷ items) n
both_movable addr context base item items k l n le (inl f) (inl g) = inl (λ other. (k, l, f other, g other, le))
both_movable addr context base item items k l n le (inl f) (inr (one, low, c, is, from, g)) = inr (one, low, there item one items c, is, from, λ other x y. (k, l, f other, g other x y, le))
both_movable addr context base item items k l n le (inr (low, is, from, f)) (inl g) = inr (item, low, here item items, is, from, λ other x y. (k, l, f other x y, g other, le))
both_movable addr context base item items k l n le (inr (low, is, from, f)) (inr (one, low2, c, is2, from2, g)) =
    elim (cases_lt low low2) [
      | inl lt ↦ inr (item, low, here item items, is, from, λ other x y. (k, l, f other x y, g other x (omega arith), le))
      | inr ge ↦ inr (one, low2, there item one items c, is2, from2, λ other x y. (k, l, f other x (omega arith), g other x y, le))
    ]

pub candidate_bases : CandidateBases
candidate_bases addr context base [] n within = inl (λ other. tt)
candidate_bases addr context base (item ∷ items) n (k, l, one, more, le) = both_movable addr context base item items k l n le (item_movable addr context base item k one) (candidate_bases addr context base items l more)
