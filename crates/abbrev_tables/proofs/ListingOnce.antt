-- A table that stands at a place is held in one way.
use Rattle.std.proofs.Common.{◌≡◌, ◌≤◌, ◌+◌, ◌-◌, ◌∙◌, ◌++◌, ℕ, List, [], ◌∷◌, length, take, drop, sym, ap, subst, refl, arith}
use Rattle.std.specs.Prelude.{Bool}
use Rattle.std.proofs.lemmas.List.{take-append-drop, length-take-le, length-drop, append_cancel_left, at_drop_all, drop-drop}
use Rattle.spelled.proofs.Joins.{regroup}
use Rattle.abbrev_tables.specs.declared.decl.Decl.{Decl}
use Rattle.abbrev_tables.specs.declared.decl.Spec.{Spec}
use Rattle.abbrev_tables.specs.Tables.{Declared}
use Rattle.abbrev_tables.specs.Listings.{Listing, declared_in, declarations_in, AreAdjacent, ArePlaced, IsTableAt}
use Rattle.abbrev_tables.proofs.Unique.{declared_once, table_once}
use Rattle.abbrev_tables.proofs.Rows.{adjacent_rises}

tail_same : {A : Type 0} (x y : A) (xs ys : List A) → (x ∷ xs) ≡ (y ∷ ys) → xs ≡ ys
tail_same x y xs ys e = cc

nothing_same : {A : Type 0} (x : A) (xs : List A) → [] ≡ (x ∷ xs) → ⊥
nothing_same x xs e = absurd (cc)

decl_same : (d e : Decl) → d.at ≡ e.at → d.code ≡ e.code → d.tag ≡ e.tag → d.children ≡ e.children → d.first ≡ e.first → d.count ≡ e.count → d ≡ e
decl_same d e at code tag children first count =
    ap (λ (z : ℕ). record { at = z; code = d.code; tag = d.tag; children = d.children; first = d.first; count = d.count }) at
    ∙ ap (λ (z : ℕ). record { at = e.at; code = z; tag = d.tag; children = d.children; first = d.first; count = d.count }) code
    ∙ ap (λ (z : ℕ). record { at = e.at; code = e.code; tag = z; children = d.children; first = d.first; count = d.count }) tag
    ∙ ap (λ (z : Bool). record { at = e.at; code = e.code; tag = e.tag; children = z; first = d.first; count = d.count }) children
    ∙ ap (λ (z : ℕ). record { at = e.at; code = e.code; tag = e.tag; children = e.children; first = z; count = d.count }) first
    ∙ ap (λ (z : ℕ). record { at = e.at; code = e.code; tag = e.tag; children = e.children; first = e.first; count = z }) count

-- a declaration has as many columns as are counted
column_count : (specs : List Spec) (first count : ℕ) → first + count ≤ length specs → length (take count (drop first specs)) ≡ count
column_count specs first count inside =
    let left : length (drop first specs) ≡ length specs - first = length-drop first specs in
    length-take-le count (drop first specs) (omega arith)

-- the columns of declarations, one after the other
abbrev pub all_columns : List Declared → List Spec
all_columns [] = []
all_columns (d ∷ ds) = d.columns ++ all_columns ds

columns_are : (specs : List Spec) (from : ℕ) (ds : List Decl) → AreAdjacent from ds (length specs) → all_columns (declarations_in specs ds) ≡ drop from specs
columns_are specs from [] e = let same : from ≡ length specs = e in sym (at_drop_all (λ (z : List Spec). z) specs from (omega arith))
columns_are specs from (d ∷ ds) (e, rest) =
    let first : take d.count (drop d.first specs) ≡ take d.count (drop from specs) = ap (λ z. take d.count (drop z specs)) e in
    ap (λ z. z ++ all_columns (declarations_in specs ds)) first
    ∙ ap (λ z. take d.count (drop from specs) ++ z) (columns_are specs (from + d.count) ds rest ∙ sym (drop-drop d.count from specs))
    ∙ take-append-drop d.count (drop from specs)

decls_once : (ss ts : List Spec) (from place : ℕ) (ds es : List Decl) (a b x y : List ℕ) → AreAdjacent from ds (length ss) → AreAdjacent from es (length ts) → declarations_in ss ds ≡ declarations_in ts es → ArePlaced ss place ds a → ArePlaced ts place es b → a ++ x ≡ b ++ y → ds ≡ es
decls_once ss ts from place [] [] a b x y m n same p q h = refl
decls_once ss ts from place [] (e ∷ es) a b x y m n same p q h = absurd (nothing_same (declared_in ts e) (declarations_in ts es) same)
decls_once ss ts from place (d ∷ ds) [] a b x y m n same p q h = absurd (nothing_same (declared_in ss d) (declarations_in ss ds) (sym same))
decls_once ss ts from place (d ∷ ds) (e ∷ es) a b x y (d_first, m) (e_first, n) same (front, rest, d_at, d_spelled, p, f) (other, left, e_at, e_spelled, q, g) h =
    let whole : front ++ (rest ++ x) ≡ other ++ (left ++ y) = regroup front rest x other left y (ap (λ z. z ++ x) (sym f) ∙ h ∙ ap (λ z. z ++ y) g) in
    let once = declared_once (declared_in ss d) (declared_in ts e) front other (rest ++ x) (left ++ y) d_spelled e_spelled whole in
    let d_in : from + d.count ≤ length ss = adjacent_rises (from + d.count) ds (length ss) m in
    let e_in : from + e.count ≤ length ts = adjacent_rises (from + e.count) es (length ts) n in
    let d_size : length (take d.count (drop d.first ss)) ≡ d.count = column_count ss d.first d.count (omega arith) in
    let e_size : length (take e.count (drop e.first ts)) ≡ e.count = column_count ts e.first e.count (omega arith) in
    let size : length (take d.count (drop d.first ss)) ≡ length (take e.count (drop e.first ts)) = ap (λ z. length z.columns) once.1 in
    let count : d.count ≡ e.count = omega arith in
    let one : d ≡ e = decl_same d e (d_at ∙ sym e_at) (ap (λ z. z.code) once.1) (ap (λ z. z.tag) once.1) (ap (λ z. z.children) once.1) (d_first ∙ sym e_first) count in
    let after : AreAdjacent (from + d.count) es (length ts) = subst (λ (z : ℕ). AreAdjacent (from + z) es (length ts)) (sym count) n in
    let placed : ArePlaced ts (place + length front) es left = subst (λ (z : List ℕ). ArePlaced ts (place + length z) es left) (sym once.0) q in
    let behind : rest ++ x ≡ left ++ y = append_cancel_left front (rest ++ x) (left ++ y) (whole ∙ ap (λ z. z ++ (left ++ y)) (sym once.0)) in
    let more : ds ≡ es = decls_once ss ts (from + d.count) (place + length front) ds es rest left x y m after (tail_same (declared_in ss d) (declared_in ts e) (declarations_in ss ds) (declarations_in ts es) same) p placed behind in
    ap (λ z. z ∷ ds) one ∙ ap (λ z. e ∷ z) more

listing_same : (t u : Listing) → t.decls ≡ u.decls → t.specs ≡ u.specs → t.end ≡ u.end → t ≡ u
listing_same t u decls specs end =
    ap (λ (z : List Decl). record { decls = z; specs = t.specs; end = t.end }) decls
    ∙ ap (λ (z : List Spec). record { decls = u.decls; specs = z; end = t.end }) specs
    ∙ ap (λ (z : ℕ). record { decls = u.decls; specs = u.specs; end = z }) end

-- a table that stands at a place is one
pub listing_once : (section : List ℕ) (at : ℕ) (t u : Listing) → IsTableAt section at t → IsTableAt section at u → t ≡ u
listing_once section at t u h k =
    let rest : List ℕ = drop at section in
    let parts : take (t.end - at) rest ++ drop (t.end - at) rest ≡ take (u.end - at) rest ++ drop (u.end - at) rest = take-append-drop (t.end - at) rest ∙ sym (take-append-drop (u.end - at) rest) in
    let spelled = table_once (declarations_in t.specs t.decls) (declarations_in u.specs u.decls) (take (t.end - at) rest) (take (u.end - at) rest) (drop (t.end - at) rest) (drop (u.end - at) rest) h.table k.table parts in
    let fronts : h.front ++ h.end ≡ k.front ++ k.end = sym h.whole ∙ spelled.0 ∙ k.whole in
    let from_t : at ≤ t.end = h.starts in
    let in_t : t.end ≤ length section = h.inside in
    let from_u : at ≤ u.end = k.starts in
    let in_u : u.end ≤ length section = k.inside in
    let left : length (drop at section) ≡ length section - at = length-drop at section in
    let t_size : length (take (t.end - at) (drop at section)) ≡ t.end - at = length-take-le (t.end - at) (drop at section) (omega arith) in
    let u_size : length (take (u.end - at) (drop at section)) ≡ u.end - at = length-take-le (u.end - at) (drop at section) (omega arith) in
    let size : length (take (t.end - at) (drop at section)) ≡ length (take (u.end - at) (drop at section)) = ap length spelled.0 in
    let end : t.end ≡ u.end = omega arith in
    let decls : t.decls ≡ u.decls = decls_once t.specs u.specs 0 at t.decls u.decls h.front k.front h.end k.end h.adjacent k.adjacent spelled.1 h.placed k.placed fronts in
    let specs : t.specs ≡ u.specs = sym (columns_are t.specs 0 t.decls h.adjacent) ∙ ap all_columns spelled.1 ∙ columns_are u.specs 0 u.decls k.adjacent in
    listing_same t u decls specs end
