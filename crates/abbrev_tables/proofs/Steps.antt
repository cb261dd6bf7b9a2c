-- Tables that are read step by step.
use Rattle.std.proofs.Common.{◌≡◌, ◌≢◌, ◌≤◌, ◌<◌, ◌+◌, ◌-◌, ℕ, List, [], ◌∷◌, ◌++◌, length, take, drop, ◌∙◌, sym, ap, refl, subst, arith, inl, inr}
use Rattle.std.specs.Prelude.{Bool, Option, Some, None}
use Rattle.std.proofs.lemmas.List.{length-append, length-drop, length-take-le, append-nil, append_assoc, take-append-drop}
use Rattle.spelled.specs.Spelled.{Joined, Then, FaultThen}
use Rattle.spelled.proofs.Joins.{joined_push}
use Rattle.spelled.proofs.Parts.{take_sum}
use Rattle.dw_base.specs.declared.fault.Kind.{Kind}
use Rattle.dw_base.specs.declared.fault.Kind.TheVariants.{Short, FormUnknown}
use Rattle.leb_codec.specs.Leb.{Uleb}
use Rattle.form_codec.specs.Forms.{IsKnown}
use Rattle.abbrev_tables.specs.declared.decl.Spec.{Spec}
use Rattle.abbrev_tables.specs.declared.read.Step.{Step}
use Rattle.abbrev_tables.specs.declared.read.Step.TheVariants.{Column as AColumn, End as TheEnd}
use Rattle.abbrev_tables.specs.declared.read.ReadStep.{ReadStep}
use Rattle.abbrev_tables.specs.declared.read.Head.{Head}
use Rattle.abbrev_tables.specs.declared.read.FaultAt.{FaultAt}
use Rattle.abbrev_tables.specs.declared.read.Stop.{Stop}
use Rattle.abbrev_tables.specs.declared.read.Stop.TheVariants.{Fault as AFault}
use Rattle.abbrev_tables.specs.declared.read.Tagged.{Tagged}
use Rattle.abbrev_tables.specs.declared.read.ReadDecl.{ReadDecl}
use Rattle.abbrev_tables.specs.Tables.{SpellsName, SpellsConstant, SpellsColumn, SpellsColumns, SpellsChildren}
use Rattle.abbrev_tables.specs.Faults.{FaultColumn, FaultColumns, FaultWithin, FaultDeclared}
use Rattle.abbrev_tables.specs.inside.Readings.{IsReadForm, SpellsCode, IsReadCode, SpellsStep, IsReadStep, HasColumns, SpellsFlagged, SpellsTagged, IsDeclOrEnd, IsReadDecl, IsStop}

fits_behind : (rest : List ℕ) (middle end : ℕ) → middle ≤ length rest → end ≤ length (drop middle rest) → middle + end ≤ length rest
fits_behind rest middle end inside fits = let size : length (drop middle rest) ≡ length rest - middle = length-drop middle rest in omega arith

filled_front : (rest : List ℕ) (middle : ℕ) (v : ℕ) → middle ≤ length rest → Uleb v (take middle rest) → 0 < middle
filled_front rest middle v inside u =
    let full : 0 < length (take middle rest) = u.0.0.filled in
    let front : length (take middle rest) ≡ middle = length-take-le middle rest inside in
    omega arith

pub code_read : (name code : ℕ) (rest : List ℕ) (middle : ℕ) (r : ReadStep) → middle ≤ length rest → Uleb code (take middle rest) → IsReadForm name code (drop middle rest) r → IsReadCode name rest (record { step = r.step; end = middle + r.end })
code_read name code rest middle r inside number read = (
  fits_behind rest middle r.end inside read.0,
  record {
    code = code;
    head = take middle rest;
    body = take r.end (drop middle rest);
    number = number;
    form = read.1;
    whole = take_sum middle r.end rest;
  },
)

step_spelled : (name : ℕ) (step : Step) (head bytes : List ℕ) → SpellsName name head → SpellsCode name step bytes → SpellsStep step (head ++ bytes)
step_spelled name (AColumn c) head bytes n s =
    let f = s.form in record {
      named = λ e. f.0 (sym f.2 ∙ e);
      known = subst IsKnown (sym f.3) f.1;
      parts = (
        head,
        bytes,
        subst (λ (z : ℕ). SpellsName z head) (sym f.2) n,
        (s.head, s.body, subst (λ (z : ℕ). Uleb z s.head) (sym f.3) s.number, subst (λ (z : ℕ). SpellsConstant z c.constant s.body) (sym f.3) f.4, s.whole),
        refl,
      );
    }
step_spelled name TheEnd head bytes n s =
    let f = s.form in (
      head,
      s.head,
      subst (λ (z : ℕ). SpellsName z head) f.0 n,
      subst (λ (z : ℕ). Uleb z s.head) f.1 s.number,
      ap (λ z. head ++ z) (s.whole ∙ ap (λ z. s.head ++ z) f.2 ∙ append-nil s.head),
    )

pub step_read : (name : ℕ) (rest : List ℕ) (middle : ℕ) (r : ReadStep) → middle ≤ length rest → SpellsName name (take middle rest) → IsReadCode name (drop middle rest) r → IsReadStep rest (record { step = r.step; end = middle + r.end })
step_read name rest middle r inside number read =
    let some : 0 < middle = filled_front rest middle name inside number.0 in (
      fits_behind rest middle r.end inside read.0,
      omega arith,
      subst (λ (z : List ℕ). SpellsStep r.step z) (sym (take_sum middle r.end rest)) (step_spelled name r.step (take middle rest) (take r.end (drop middle rest)) number read.1),
    )

-- one column more
pub step_more : (old specs new : List Spec) (rest : List ℕ) (column : Spec) (at end : ℕ) (step : Step) → at ≤ length rest → HasColumns (Joined SpellsColumn) old specs (take at rest) → end ≤ length (drop at rest) → SpellsStep step (take end (drop at rest)) → step ≡ AColumn column → new ≡ specs ++ column ∷ [] → (at + end ≤ length rest) × HasColumns (Joined SpellsColumn) old new (take (at + end) rest)
step_more old specs new rest column at end step inside h fits s e f = (
  fits_behind rest at end inside fits,
  record {
    columns = h.columns ++ column ∷ [];
    added = f ∙ ap (λ z. z ++ column ∷ []) h.added ∙ append_assoc old h.columns (column ∷ []);
    spelled = subst (λ (z : List ℕ). Joined SpellsColumn (h.columns ++ column ∷ []) z) (sym (take_sum at end rest)) (joined_push SpellsColumn h.columns column (take at rest) (take end (drop at rest)) h.spelled (subst (λ (z : Step). SpellsStep z (take end (drop at rest))) e s));
  },
)

-- the end of the columns
pub step_end : (old specs : List Spec) (rest : List ℕ) (at end : ℕ) (step : Step) → at ≤ length rest → HasColumns (Joined SpellsColumn) old specs (take at rest) → end ≤ length (drop at rest) → SpellsStep step (take end (drop at rest)) → step ≡ TheEnd → (at + end ≤ length rest) × HasColumns SpellsColumns old specs (take (at + end) rest)
step_end old specs rest at end step inside h fits s e = (
  fits_behind rest at end inside fits,
  record {
    columns = h.columns;
    added = h.added;
    spelled = (take at rest, take end (drop at rest), h.spelled, subst (λ (z : Step). SpellsStep z (take end (drop at rest))) e s, take_sum at end rest);
  },
)

pub no_columns : (old : List Spec) (rest : List ℕ) → HasColumns (Joined SpellsColumn) old old (take 0 rest)
no_columns old rest = record { columns = []; added = sym (append-nil old); spelled = refl }

-- a fault of what follows
pub columns_fault : (old specs : List Spec) (rest : List ℕ) (at inner : ℕ) (kind : Kind) → at ≤ length rest → HasColumns (Joined SpellsColumn) old specs (take at rest) → inner ≤ length (drop at rest) → FaultColumn kind inner (drop at rest) → (at + inner ≤ length rest) × FaultColumns kind (at + inner) rest
columns_fault old specs rest at inner kind inside h fits f =
    let size : length (take at rest) ≡ at = length-take-le at rest inside in (
      fits_behind rest at inner inside fits,
      record {
        before = h.columns;
        front = take at rest;
        rest = drop at rest;
        inner = inner;
        spelled = h.spelled;
        fault = f;
        whole = sym (take-append-drop at rest);
        place = omega arith;
      },
    )

pub columns_short : (old specs : List Spec) (rest : List ℕ) (at : ℕ) → at ≤ length rest → length rest ≤ at → HasColumns (Joined SpellsColumn) old specs (take at rest) → (at ≤ length rest) × FaultColumns Short at rest
columns_short old specs rest at inside over h =
    let size : length (drop at rest) ≡ length rest - at = length-drop at rest in
    let e : at + 0 ≡ at = omega arith in
    let f : FaultColumn Short 0 (drop at rest) = inl (refl, λ k lt. absurd (omega arith)) in (
      inside,
      subst (λ (n : ℕ). FaultColumns Short n rest) e (columns_fault old specs rest at 0 Short inside h (omega arith) f).1,
    )

-- a part and then another
then_spelled : {V W : Type 0} (S : V → List ℕ → Type 0) (T : V → W → List ℕ → Type 0) (v : V) (w : W) (middle end : ℕ) (rest : List ℕ) → S v (take middle rest) → T v w (take end (drop middle rest)) → Then S T (v, w) (take (middle + end) rest)
then_spelled S T v w middle end rest s t = (take middle rest, take end (drop middle rest), s, t, take_sum middle end rest)

pub flagged_read : (old new : List Spec) (rest : List ℕ) (children : Bool) (end : ℕ) → 1 ≤ length rest → SpellsChildren children (take 1 rest) → end ≤ length (drop 1 rest) → HasColumns SpellsColumns old new (take end (drop 1 rest)) → (1 + end ≤ length rest) × HasColumns (SpellsFlagged children) old new (take (1 + end) rest)
flagged_read old new rest children end inside s fits h = (
  fits_behind rest 1 end inside fits,
  record { columns = h.columns; added = h.added; spelled = then_spelled SpellsChildren (λ _. SpellsColumns) children h.columns 1 end rest s h.spelled },
)

pub tagged_read : (old new : List Spec) (rest : List ℕ) (tag : ℕ) (children : Bool) (middle end : ℕ) → middle ≤ length rest → SpellsName tag (take middle rest) → end ≤ length (drop middle rest) → HasColumns (SpellsFlagged children) old new (take end (drop middle rest)) → (middle + end ≤ length rest) × HasColumns (SpellsTagged tag children) old new (take (middle + end) rest)
tagged_read old new rest tag children middle end inside s fits h = (
  fits_behind rest middle end inside fits,
  record { columns = h.columns; added = h.added; spelled = then_spelled SpellsName (λ _. Then SpellsChildren (λ _. SpellsColumns)) tag (children, h.columns) middle end rest s h.spelled },
)

pub within_end : (old : List Spec) (rest : List ℕ) (code end : ℕ) → end ≤ length rest → Uleb code (take end rest) → code ≡ 0 → IsReadDecl rest old old (record { head = None; end = end })
within_end old rest code end inside u e = (inside, filled_front rest end code inside u, (refl, subst (λ (z : ℕ). Uleb z (take end rest)) e u))

pub within_read : (old new : List Spec) (rest : List ℕ) (code : ℕ) (r : Tagged) (middle : ℕ) → code ≢ 0 → middle ≤ length rest → Uleb code (take middle rest) → r.end ≤ length (drop middle rest) → HasColumns (SpellsTagged r.tag r.children) old new (take r.end (drop middle rest)) → IsReadDecl rest old new (record { head = Some (record { code = code; tag = r.tag; children = r.children }); end = middle + r.end })
within_read old new rest code r middle coded inside u fits h =
    let some : 0 < middle = filled_front rest middle code inside u in (
      fits_behind rest middle r.end inside fits,
      omega arith,
      record {
        columns = h.columns;
        added = h.added;
        spelled = record {
          coded = coded;
          parts = then_spelled Uleb (λ _. Then SpellsName (λ _. Then SpellsChildren (λ _. SpellsColumns))) code (r.tag, (r.children, h.columns)) middle r.end rest u h.spelled;
        };
      },
    )

-- a fault behind a part
pub fault_behind : {V : Type 0} (S : V → List ℕ → Type 0) (F : Kind → ℕ → List ℕ → Type 0) (G : V → Kind → ℕ → List ℕ → Type 0) (v : V) (middle inner : ℕ) (kind : Kind) (rest : List ℕ) → middle ≤ length rest → S v (take middle rest) → G v kind inner (drop middle rest) → FaultThen S F G kind (middle + inner) rest
fault_behind S F G v middle inner kind rest inside s g =
    let size : length (take middle rest) ≡ middle = length-take-le middle rest inside in
    let place : middle + inner ≡ length (take middle rest) + inner = omega arith in
    inr (v, take middle rest, drop middle rest, inner, s, g, sym (take-append-drop middle rest), place)

pub stop_behind : {V : Type 0} (S : V → List ℕ → Type 0) (F : Kind → ℕ → List ℕ → Type 0) (G : V → Kind → ℕ → List ℕ → Type 0) (v : V) (middle inner : ℕ) (kind : Kind) (rest : List ℕ) → middle ≤ length rest → S v (take middle rest) → inner ≤ length (drop middle rest) → G v kind inner (drop middle rest) → (middle + inner ≤ length rest) × FaultThen S F G kind (middle + inner) rest
stop_behind S F G v middle inner kind rest inside s fits g = (fits_behind rest middle inner inside fits, fault_behind S F G v middle inner kind rest inside s g)

pub unknown_at_first : (kind : Kind) (at : ℕ) (rest : List ℕ) → kind ≡ FormUnknown → FaultWithin kind at rest → FaultDeclared kind 0 rest
unknown_at_first kind at rest e f = subst (λ (k : Kind). FaultDeclared k 0 rest) (sym e) (refl, (at, subst (λ (k : Kind). FaultWithin k at rest) e f))

pub at_its_place : (kind : Kind) (at : ℕ) (rest : List ℕ) → (kind ≡ FormUnknown → ⊥) → FaultWithin kind at rest → FaultDeclared kind at rest
at_its_place FormUnknown at rest other f = absurd (other refl)
at_its_place kind at rest other f = f

columns_grow : (head : Option Head) (old new : List Spec) (bytes : List ℕ) → IsDeclOrEnd head old new bytes → length old ≤ length new
columns_grow None old new bytes d = let e : length new ≡ length old = ap length d.0 in omega arith
columns_grow (Some h) old new bytes d = let e : length new ≡ length old + length d.columns = ap length d.added ∙ length-append old d.columns in omega arith

pub specs_grow : (rest : List ℕ) (old new : List Spec) (r : ReadDecl) → IsReadDecl rest old new r → length old ≤ length new
specs_grow rest old new r read = columns_grow r.head old new (take r.end rest) read.2

-- why nothing was read, where it is a fault
pub stopped : (F : Kind → ℕ → List ℕ → Type 0) (rest : List ℕ) (s : Stop) (f : FaultAt) → s ≡ AFault f → IsStop F rest s → (f.at ≤ length rest) × F f.kind f.at rest
stopped F rest s f e h = subst (λ (z : Stop). IsStop F rest z) e h
