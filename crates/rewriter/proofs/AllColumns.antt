-- What holds of the columns of all declarations holds of all columns.
use Rattle.std.proofs.Common.{◌≡◌, ◌+◌, ℕ, List, [], ◌∷◌, length, take, drop, sym, subst, arith}
use Rattle.std.specs.List.{All}
use Rattle.std.proofs.lemmas.List.{take-append-drop, drop-drop, drop_all}
use Rattle.std.proofs.lemmas.List.Elements.{All-nil, All-head, All-tail, All-append}
use Rattle.abbrev_tables.specs.declared.decl.Decl.{Decl}
use Rattle.abbrev_tables.specs.declared.decl.Spec.{Spec}
use Rattle.abbrev_tables.specs.Tables.{Declared}
use Rattle.abbrev_tables.specs.Listings.{declared_in, declarations_in, AreAdjacent}

abbrev HaveAll : (Spec → Type 0) → Declared → Type 0
HaveAll P d = All P d.columns

-- the columns of a table from one on are those of declarations, one after the other
pub columns_all : (P : Spec → Type 0) (specs : List Spec) (from : ℕ) (ds : List Decl) → AreAdjacent from ds (length specs) → All (λ (d : Declared). All P d.columns) (declarations_in specs ds) → All P (drop from specs)
columns_all P specs from [] e all =
    let same : from ≡ length specs = e in
    subst (λ (z : List Spec). All P z) (sym (drop_all from specs (omega (arith, same)))) (All-nil P)
columns_all P specs from (d ∷ ds) (e, rest) all =
    let own : All P (take d.count (drop d.first specs)) = All-head (HaveAll P) (declared_in specs d) (declarations_in specs ds) all in
    let first = subst (λ (z : ℕ). All P (take d.count (drop z specs))) e own in
    let more : All P (drop (from + d.count) specs) = columns_all P specs (from + d.count) ds rest (All-tail (HaveAll P) (declared_in specs d) (declarations_in specs ds) all) in
    let moved : drop d.count (drop from specs) ≡ drop (from + d.count) specs = drop-drop d.count from specs in
    let later = subst (λ (z : List Spec). All P z) (sym moved) more in
    subst (λ (z : List Spec). All P z) (take-append-drop d.count (drop from specs)) (All-append P (take d.count (drop from specs)) (drop d.count (drop from specs)) first later)
