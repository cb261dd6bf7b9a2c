-- Declarations that are read one after the other.
use Rattle.std.proofs.Common.{◌≡◌, ◌≤◌, ◌<◌, ◌+◌, ◌-◌, ℕ, zero, suc, List, [], ◌∷◌, ◌++◌, length, take, drop, get_or, ◌∙◌, sym, ap, refl, subst, arith, inl, inr}
use Rattle.std.specs.Prelude.{Bool, true, Option, Some, None}
use Rattle.std.proofs.lemmas.List.{length-drop, length-take-le, length-append, length-map, append-nil, append_assoc, take-append-drop, take-append-le, drop-append-le, drop_at, take_all}
use Rattle.spelled.specs.Spelled.{Joined, FaultThen, FaultUntilEnd}
use Rattle.spelled.proofs.Parts.{take_sum}
use Rattle.dw_base.specs.declared.fault.Kind.{Kind}
use Rattle.dw_base.specs.declared.fault.Kind.TheVariants.{Short, CodeTwice}
use Rattle.abbrev_tables.specs.declared.decl.Decl.{Decl}
use Rattle.abbrev_tables.specs.declared.decl.Spec.{Spec}
use Rattle.abbrev_tables.specs.Tables.{SpellsName, Declared, SpellsDeclared, codes_of, AreDistinct}
use Rattle.abbrev_tables.specs.Faults.{FaultName, FaultCode, FaultColumn, FaultFlagged, FaultWithin, FaultDeclared, FaultTable}
use Rattle.abbrev_tables.specs.Listings.{Listing, decl_at, declared_in, declarations_in, AreAdjacent, ArePlaced, IsTableAt}
use Rattle.std.specs.BTreeMap.{BTreeMap}
use Rattle.abbrev_tables.specs.declared.read.Head.{Head}
use Rattle.abbrev_tables.specs.declared.read.ReadDecl.{ReadDecl}
use Rattle.abbrev_tables.specs.inside.Readings.{IsDeclOrEnd, IsReadDecl}
use Rattle.abbrev_tables.specs.Index.{HasCode}
use Rattle.abbrev_tables.specs.inside.Index.{HaveOwnCodes, IsAdded, IsFront, IsReadFrom}
use Rattle.abbrev_tables.proofs.Indexes.{own_more}

pub adjacent_more : (from : ℕ) (ds : List Decl) (to : ℕ) (d : Decl) → AreAdjacent from ds to → d.first ≡ to → AreAdjacent from (ds ++ d ∷ []) (to + d.count)
adjacent_more from [] to d e f = (f ∙ sym e, ap (λ n. n + d.count) e)
adjacent_more from (x ∷ ds) to d (e, a) f = (e, adjacent_more (from + x.count) ds to d a f)

pub adjacent_rises : (from : ℕ) (ds : List Decl) (to : ℕ) → AreAdjacent from ds to → from ≤ to
adjacent_rises from [] to e = omega arith
adjacent_rises from (x ∷ ds) to (e, a) = let r : from + x.count ≤ to = adjacent_rises (from + x.count) ds to a in omega arith

-- the columns of each declaration stand behind the place where those of the first begin
pub first_after : (from : ℕ) (ds : List Decl) (to i : ℕ) → AreAdjacent from ds to → i < length ds → from ≤ (decl_at ds i).first
first_after from [] to i a inside = absurd (omega arith)
first_after from (d ∷ ds) to zero (e, a) inside = omega arith
first_after from (d ∷ ds) to (suc i) (e, a) inside = let rest : from + d.count ≤ (decl_at ds i).first = first_after (from + d.count) ds to i a (omega arith) in omega arith

-- columns that come later change no declaration
columns_stay : (columns more : List Spec) (n k : ℕ) → n + k ≤ length columns → take k (drop n (columns ++ more)) ≡ take k (drop n columns)
columns_stay columns more n k fits =
    let size : length (drop n columns) ≡ length columns - n = length-drop n columns in
    ap (λ z. take k z) (drop-append-le n columns more (omega arith)) ∙ take-append-le k (drop n columns) more (omega arith)

declared_stays : (columns more : List Spec) (d : Decl) → d.first + d.count ≤ length columns → declared_in (columns ++ more) d ≡ declared_in columns d
declared_stays columns more d fits = ap (λ z. record { code = d.code; tag = d.tag; children = d.children; columns = z }) (columns_stay columns more d.first d.count fits)

placed_stay : (columns more : List Spec) (from place : ℕ) (ds : List Decl) (bytes : List ℕ) → AreAdjacent from ds (length columns) → ArePlaced columns place ds bytes → ArePlaced (columns ++ more) place ds bytes
placed_stay columns more from place [] bytes a p = p
placed_stay columns more from place (d ∷ ds) bytes (e, a) (first, rest, at, s, p, w) =
    let rise : from + d.count ≤ length columns = adjacent_rises (from + d.count) ds (length columns) a in
    let fits : d.first + d.count ≤ length columns = omega arith in
    (first, rest, at, subst (λ (z : Declared). SpellsDeclared z first) (sym (declared_stays columns more d fits)) s, placed_stay columns more (from + d.count) (place + length first) ds rest a p, w)

placed_push : (columns : List Spec) (place : ℕ) (ds : List Decl) (d : Decl) (a b : List ℕ) → ArePlaced columns place ds a → d.at ≡ place + length a → SpellsDeclared (declared_in columns d) b → ArePlaced columns place (ds ++ d ∷ []) (a ++ b)
placed_push columns place [] d a b p at s =
    let none : length a ≡ 0 = ap length p in
    (b, [], omega arith, s, refl, ap (λ z. z ++ b) p ∙ sym (append-nil b))
placed_push columns place (x ∷ ds) d a b (first, rest, h, t, p, w) at s =
    let size : length a ≡ length first + length rest = ap length w ∙ length-append first rest in
    (first, rest ++ b, h, t, placed_push columns (place + length first) ds d rest b p (omega arith) s, ap (λ z. z ++ b) w ∙ append_assoc first rest b)

placed_joined : (columns : List Spec) (place : ℕ) (ds : List Decl) (bytes : List ℕ) → ArePlaced columns place ds bytes → Joined SpellsDeclared (declarations_in columns ds) bytes
placed_joined columns place [] bytes p = p
placed_joined columns place (d ∷ ds) bytes (first, rest, at, s, p, w) = (first, rest, s, placed_joined columns (place + length first) ds rest p, w)

-- the columns of the last declaration
last_columns : (columns more : List Spec) (d : Decl) → d.first ≡ length columns → d.count ≡ length more → take d.count (drop d.first (columns ++ more)) ≡ more
last_columns columns more d f n =
    ap (λ k. take k (drop d.first (columns ++ more))) n ∙ ap (λ k. take (length more) (drop k (columns ++ more))) f ∙ ap (λ z. take (length more) z) (drop_at columns more (length columns) refl) ∙ take_all (length more) more (omega arith)

pub front_none : (rest : List ℕ) (start : ℕ) → IsFront rest start 0 [] []
front_none rest start = record { inside = omega arith; placed = refl; adjacent = refl; own = λ i j l. absurd (omega arith) }

pub front_more : (rest : List ℕ) (start at end : ℕ) (decls : List Decl) (old new more : List Spec) (d : Decl) → IsFront rest start at decls old → end ≤ length (drop at rest) → new ≡ old ++ more → SpellsDeclared (record { code = d.code; tag = d.tag; children = d.children; columns = more }) (take end (drop at rest)) → d.at ≡ start + at → d.first ≡ length old → d.count ≡ length new - length old → (HasCode decls d.code → ⊥) → IsFront rest start (at + end) (decls ++ d ∷ []) new
front_more rest start at end decls old new more d f fits added s place first count fresh =
    let inside : at ≤ length rest = f.inside in
    let size : length (drop at rest) ≡ length rest - at = length-drop at rest in
    let here : length (take at rest) ≡ at = length-take-le at rest inside in
    let long : length new ≡ length old + length more = ap length added ∙ length-append old more in
    let n : d.count ≡ length more = omega arith in
    let columns = last_columns old more d first n in
    let s2 : SpellsDeclared (declared_in (old ++ more) d) (take end (drop at rest)) = subst (λ (z : List Spec). SpellsDeclared (record { code = d.code; tag = d.tag; children = d.children; columns = z }) (take end (drop at rest))) (sym columns) s in
    let pushed = placed_push (old ++ more) start decls d (take at rest) (take end (drop at rest)) (placed_stay old more 0 start decls (take at rest) f.adjacent f.placed) (omega arith) s2 in
    let to : length old + d.count ≡ length new = omega arith in
    record {
      inside = omega arith;
      placed = subst (λ (z : List Spec). ArePlaced z start (decls ++ d ∷ []) (take (at + end) rest)) (sym added) (subst (λ (z : List ℕ). ArePlaced (old ++ more) start (decls ++ d ∷ []) z) (sym (take_sum at end rest)) pushed);
      adjacent = subst (λ (z : ℕ). AreAdjacent 0 (decls ++ d ∷ []) z) to (adjacent_more 0 decls (length old) d f.adjacent first);
      own = own_more decls d f.own fresh;
    }

-- a fault of what follows
pub front_fault : (rest : List ℕ) (start at inner : ℕ) (kind : Kind) (decls : List Decl) (columns : List Spec) → IsFront rest start at decls columns → inner ≤ length (drop at rest) → FaultDeclared kind inner (drop at rest) → (at + inner ≤ length rest) × FaultUntilEnd SpellsDeclared FaultDeclared kind (at + inner) rest
front_fault rest start at inner kind decls columns f fits fault =
    let inside : at ≤ length rest = f.inside in
    let drops : length (drop at rest) ≡ length rest - at = length-drop at rest in
    let size : length (take at rest) ≡ at = length-take-le at rest inside in (
      omega arith,
      record {
        before = declarations_in columns decls;
        front = take at rest;
        rest = drop at rest;
        inner = inner;
        spelled = placed_joined columns start decls (take at rest) f.placed;
        fault = fault;
        whole = sym (take-append-drop at rest);
        place = omega arith;
      },
    )

-- no declaration's fault is that of two codes
code_apart : (name : ℕ) (at : ℕ) (rest : List ℕ) → FaultCode name CodeTwice at rest → ⊥
code_apart name at rest (inl f) = f
code_apart name at rest (inr (v, first, tail, inner, s, g, w, p)) = g

column_apart : (at : ℕ) (rest : List ℕ) → FaultColumn CodeTwice at rest → ⊥
column_apart at rest (inl f) = f
column_apart at rest (inr (v, first, tail, inner, s, g, w, p)) = code_apart v inner tail g

flagged_apart : (at : ℕ) (rest : List ℕ) → FaultFlagged CodeTwice at rest → ⊥
flagged_apart at rest (inl f) = f
flagged_apart at rest (inr (v, first, tail, inner, s, g, w, p)) = column_apart g.inner g.rest g.fault

tagged_apart : (at : ℕ) (rest : List ℕ) → FaultThen SpellsName FaultName (λ _. FaultFlagged) CodeTwice at rest → ⊥
tagged_apart at rest (inl f) = f
tagged_apart at rest (inr (v, first, tail, inner, s, g, w, p)) = flagged_apart inner tail g

within_apart : (at : ℕ) (rest : List ℕ) → FaultWithin CodeTwice at rest → ⊥
within_apart at rest (inl f) = f
within_apart at rest (inr (v, first, tail, inner, s, g, w, p)) = tagged_apart inner tail g.1

pub table_fault : (kind : Kind) (at : ℕ) (rest : List ℕ) → FaultUntilEnd SpellsDeclared FaultDeclared kind at rest → FaultTable kind at rest
table_fault CodeTwice at rest f = absurd (within_apart f.inner f.rest f.fault)
table_fault kind at rest f = f

pub front_fails : (rest : List ℕ) (start at inner : ℕ) (kind : Kind) (decls : List Decl) (columns : List Spec) → IsFront rest start at decls columns → inner ≤ length (drop at rest) → FaultDeclared kind inner (drop at rest) → (at + inner ≤ length rest) × FaultTable kind (at + inner) rest
front_fails rest start at inner kind decls columns f fits fault =
    let h = front_fault rest start at inner kind decls columns f fits fault in
    (h.0, table_fault kind (at + inner) rest h.1)

pub front_short : (rest : List ℕ) (start at : ℕ) (decls : List Decl) (columns : List Spec) → IsFront rest start at decls columns → length rest ≤ at → (at ≤ length rest) × FaultTable Short at rest
front_short rest start at decls columns f over =
    let inside : at ≤ length rest = f.inside in
    let size : length (drop at rest) ≡ length rest - at = length-drop at rest in
    let e : at + 0 ≡ at = omega arith in
    let fault : FaultDeclared Short 0 (drop at rest) = inl (refl, λ k lt. absurd (omega arith)) in
    (inside, subst (λ (n : ℕ). FaultTable Short n rest) e (front_fails rest start at 0 Short decls columns f (omega arith) fault).1)

-- the code of a declaration among the codes
code_of : (columns : List Spec) (decls : List Decl) (i : ℕ) → i < length decls → get_or (codes_of (declarations_in columns decls)) i 0 ≡ (decl_at decls i).code
code_of columns [] i inside = absurd (omega arith)
code_of columns (d ∷ ds) zero inside = refl
code_of columns (d ∷ ds) (suc i) inside = code_of columns ds i (omega arith)

-- two declarations with one code
pub front_twice : (rest : List ℕ) (start at end : ℕ) (decls : List Decl) (old : List Spec) (code tag : ℕ) (children : Bool) (more : List Spec) → IsFront rest start at decls old → end ≤ length (drop at rest) → SpellsDeclared (record { code = code; tag = tag; children = children; columns = more }) (take end (drop at rest)) → HasCode decls code → (at ≤ length rest) × FaultTable CodeTwice at rest
front_twice rest start at end decls old code tag children more f fits s (i, inside, same) =
    let within : at ≤ length rest = f.inside in
    let size : length (take at rest) ≡ at = length-take-le at rest within in
    let ds : List Declared = declarations_in old decls in
    let long : length ds ≡ length decls = length-map decls (declared_in old) in (
      within,
      record {
        before = ds;
        later = record { code = code; tag = tag; children = children; columns = more };
        stands = record {
          front = take at rest;
          body = take end (drop at rest);
          rest = drop end (drop at rest);
          place = sym size;
          spelled = placed_joined old start decls (take at rest) f.placed;
          here = s;
          whole = sym (take-append-drop at rest) ∙ ap (λ z. take at rest ++ z) (sym (take-append-drop end (drop at rest)));
        };
        earlier = i;
        inside = omega arith;
        same = code_of old decls i inside ∙ same;
      },
    )

codes_long : (columns : List Spec) (decls : List Decl) → length (codes_of (declarations_in columns decls)) ≡ length decls
codes_long columns [] = refl
codes_long columns (d ∷ ds) = ap suc (codes_long columns ds)

pub own_distinct : (columns : List Spec) (decls : List Decl) → HaveOwnCodes decls → AreDistinct (codes_of (declarations_in columns decls))
own_distinct columns decls own i j li lj e =
    let long : length (codes_of (declarations_in columns decls)) ≡ length decls = codes_long columns decls in
    let a : i < length decls = omega arith in
    let b : j < length decls = omega arith in
    own i j a b (sym (code_of columns decls i a) ∙ e ∙ code_of columns decls j b)

-- the table at a place of a section
pub table_at : (section : List ℕ) (at : ℕ) (t : Listing) → at < length section → IsReadFrom (drop at section) at t → IsTableAt section at t
table_at section at t before r =
    let rest : List ℕ = drop at section in
    let size : length (drop at section) ≡ length section - at = length-drop at section in
    let inside : r.at + r.end ≤ length (drop at section) = r.inside in
    let place : t.end ≡ at + (r.at + r.end) = r.place in
    let e : r.at + r.end ≡ t.end - at = omega arith in
    let whole : take (t.end - at) rest ≡ take r.at rest ++ take r.end (drop r.at rest) = ap (λ n. take n rest) (sym e) ∙ take_sum r.at r.end rest in
    record {
      starts = omega arith;
      inside = omega arith;
      table = record {
        spelled = (take r.at rest, take r.end (drop r.at rest), placed_joined t.specs at t.decls (take r.at rest) r.front.placed, r.ended, whole);
        distinct = own_distinct t.specs t.decls r.front.own;
      };
      front = take r.at rest;
      end = take r.end (drop r.at rest);
      placed = r.front.placed;
      ended = r.ended;
      whole = whole;
      adjacent = r.front.adjacent;
    }

-- what a reader of one declaration gives
decl_or_end : (head other : Option Head) (old new : List Spec) (bytes : List ℕ) → head ≡ other → IsDeclOrEnd head old new bytes → IsDeclOrEnd other old new bytes
decl_or_end head other old new bytes e d = subst (λ (z : Option Head). IsDeclOrEnd z old new bytes) e d

pub front_step : (rest : List ℕ) (start at : ℕ) (decls after : List Decl) (old new : List Spec) (others : BTreeMap ℕ ℕ) (r : ReadDecl) (h : Head) (d : Decl) (place first last : ℕ) → IsFront rest start at decls old → IsReadDecl (drop at rest) old new r → r.head ≡ Some h → place ≡ start + at → first ≡ length old → last ≡ length new → d ≡ record { at = place; code = h.code; tag = h.tag; children = h.children; first = first; count = last - first } → IsAdded decls d after others true → IsFront rest start (at + r.end) after new
front_step rest start at decls after old new others r h d place first last f read is p q s e added =
    let columns = decl_or_end r.head (Some h) old new (take r.end (drop at rest)) is read.2 in
    let full : Decl = record { at = place; code = h.code; tag = h.tag; children = h.children; first = first; count = last - first } in
    let fresh : HasCode decls full.code → ⊥ = subst (λ (z : Decl). HasCode decls z.code → ⊥) e added.3 in
    let count : last - first ≡ length new - length old = omega arith in
    let more = front_more rest start at r.end decls old new columns.columns full f read.0 columns.added columns.spelled p q count fresh in
    subst (λ (z : List Decl). IsFront rest start (at + r.end) z new) (sym (added.0 ∙ ap (λ z. decls ++ z ∷ []) e)) more

-- an answer that a declaration was added, or not
pub is_added : (decls after : List Decl) (d : Decl) (others : BTreeMap ℕ ℕ) (b c : Bool) → b ≡ c → IsAdded decls d after others b → IsAdded decls d after others c
is_added decls after d others b c e h = subst (λ (z : Bool). IsAdded decls d after others z) e h

pub front_end : (rest : List ℕ) (start at : ℕ) (decls : List Decl) (old new : List Spec) (r : ReadDecl) → IsFront rest start at decls old → IsReadDecl (drop at rest) old new r → r.head ≡ None → IsReadFrom rest start (record { decls = decls; specs = new; end = start + (at + r.end) })
front_end rest start at decls old new r f read is =
    let ends = decl_or_end r.head None old new (take r.end (drop at rest)) is read.2 in
    let size : length (drop at rest) ≡ length rest - at = length-drop at rest in
    let inside : at ≤ length rest = f.inside in
    let fits : r.end ≤ length (drop at rest) = read.0 in
    record {
      at = at;
      end = r.end;
      front = subst (λ (z : List Spec). IsFront rest start at decls z) (sym ends.0) f;
      inside = omega arith;
      ended = ends.1;
      place = refl;
    }

pub front_again : (rest : List ℕ) (start at : ℕ) (decls : List Decl) (old new : List Spec) (r : ReadDecl) (h : Head) → IsFront rest start at decls old → IsReadDecl (drop at rest) old new r → r.head ≡ Some h → HasCode decls h.code → (at ≤ length rest) × FaultTable CodeTwice at rest
front_again rest start at decls old new r h f read is has =
    let columns = decl_or_end r.head (Some h) old new (take r.end (drop at rest)) is read.2 in
    front_twice rest start at r.end decls old h.code h.tag h.children columns.columns f read.0 columns.spelled has

pub again_code : (decls : List Decl) (d : Decl) (h : Head) → d.code ≡ h.code → HasCode decls d.code → HasCode decls h.code
again_code decls d h e has = subst (λ (n : ℕ). HasCode decls n) e has
