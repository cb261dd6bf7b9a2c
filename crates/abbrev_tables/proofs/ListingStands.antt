-- All that is spelled can be held.
use Rattle.std.proofs.Common.{◌≡◌, ◌+◌, ◌-◌, ◌∙◌, ◌++◌, ℕ, List, [], ◌∷◌, length, take, drop, sym, ap, subst, refl, arith}
use Rattle.std.proofs.lemmas.List.{append-nil, append_assoc, length-append, take_at, drop_at}
use Rattle.spelled.specs.Spelled.{Joined}
use Rattle.abbrev_tables.specs.declared.decl.Decl.{Decl}
use Rattle.abbrev_tables.specs.declared.decl.Spec.{Spec}
use Rattle.abbrev_tables.specs.Tables.{Declared, SpellsDeclared, SpellsTable}
use Rattle.abbrev_tables.proofs.ListingOnce.{all_columns}
use Rattle.abbrev_tables.specs.Listings.{Listing, declared_in, declarations_in, AreAdjacent, ArePlaced, IsTableAt}

record HasListing (prefix : List Spec) (place : ℕ) (ds : List Declared) (specs : List Spec) (bytes : List ℕ) : Type 0 where
  decls : List Decl
  placed : ArePlaced specs place decls bytes
  adjacent : AreAdjacent (length prefix) decls (length specs)
  same : declarations_in specs decls ≡ ds

lists : (prefix : List Spec) (place : ℕ) (ds : List Declared) (bytes : List ℕ) → Joined SpellsDeclared ds bytes → HasListing prefix place ds (prefix ++ all_columns ds) bytes
lists prefix place [] bytes joined = record { decls = []; placed = joined; adjacent = ap length (sym (append-nil prefix)); same = refl }
lists prefix place (d ∷ ds) bytes (first, rest, spelled, joined, parts) =
    let more = lists (prefix ++ d.columns) (place + length first) ds rest joined in
    let group : (prefix ++ d.columns) ++ all_columns ds ≡ prefix ++ (d.columns ++ all_columns ds) = append_assoc prefix d.columns (all_columns ds) in
    let moved : HasListing (prefix ++ d.columns) (place + length first) ds (prefix ++ (d.columns ++ all_columns ds)) rest = subst (λ (z : List Spec). HasListing (prefix ++ d.columns) (place + length first) ds z rest) group more in
    let decl : Decl = record { at = place; code = d.code; tag = d.tag; children = d.children; first = length prefix; count = length d.columns } in
    let own : take (length d.columns) (drop (length prefix) (prefix ++ (d.columns ++ all_columns ds))) ≡ d.columns = ap (take (length d.columns)) (drop_at prefix (d.columns ++ all_columns ds) (length prefix) refl) ∙ take_at d.columns (all_columns ds) (length d.columns) refl in
    let is : declared_in (prefix ++ (d.columns ++ all_columns ds)) decl ≡ d = ap (λ (z : List Spec). record { code = d.code; tag = d.tag; children = d.children; columns = z }) own in
    let size : length (prefix ++ d.columns) ≡ length prefix + length d.columns = length-append prefix d.columns in
    record {
      decls = decl ∷ moved.decls;
      placed = (first, rest, refl, subst (λ (z : Declared). SpellsDeclared z first) (sym is) spelled, moved.placed, parts);
      adjacent = (refl, subst (λ (z : ℕ). AreAdjacent z moved.decls (length (prefix ++ (d.columns ++ all_columns ds)))) size moved.adjacent);
      same = ap (λ z. z ∷ declarations_in (prefix ++ (d.columns ++ all_columns ds)) moved.decls) is ∙ ap (λ z. d ∷ z) moved.same;
    }

pub tables_listed : (ds : List Declared) (front bytes rest : List ℕ) → SpellsTable ds bytes → (t : Listing) × IsTableAt (front ++ (bytes ++ rest)) (length front) t × (declarations_in t.specs t.decls ≡ ds) × (t.end ≡ length front + length bytes)
tables_listed ds front bytes rest table =
    let (body, end, joined, ended, parts) = table.spelled in
    let l = lists [] (length front) ds body joined in
    let t : Listing = record { decls = l.decls; specs = all_columns ds; end = length front + length bytes } in
    let section : List ℕ = front ++ (bytes ++ rest) in
    let behind : drop (length front) section ≡ bytes ++ rest = drop_at front (bytes ++ rest) (length front) refl in
    let width : length front + length bytes - length front ≡ length bytes = omega arith in
    let own : take (length front + length bytes - length front) (drop (length front) section) ≡ bytes = ap (λ z. take z (drop (length front) section)) width ∙ ap (take (length bytes)) behind ∙ take_at bytes rest (length bytes) refl in
    let size : length section ≡ length front + (length bytes + length rest) = length-append front (bytes ++ rest) ∙ ap (λ z. length front + z) (length-append bytes rest) in
    let spelled : SpellsTable (declarations_in (all_columns ds) l.decls) (take (length front + length bytes - length front) (drop (length front) section)) =
    subst (λ (z : List Declared). SpellsTable z (take (length front + length bytes - length front) (drop (length front) section))) (sym l.same) (subst (SpellsTable ds) (sym own) table) in
    (t, record { starts = omega arith; inside = omega arith; table = spelled; front = body; end = end; placed = l.placed; ended = ended; whole = own ∙ parts; adjacent = l.adjacent }, l.same, refl)
