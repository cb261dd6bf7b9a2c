-- A column of references that all name places in their own units: taken as references within these they have DW_FORM_ref_udata, which takes
-- no bytes that count.
use Rattle.std.proofs.Common.{◌≡◌, ◌≢◌, ◌<◌, ◌-◌, ◌^◌, ◌&&◌, ◌∙◌, inl, inr, ℕ, Bool, true, List, [], ◌∷◌, map, eqb, sym, ap, refl, subst, arith}
use Rattle.std.specs.Prelude.{pos}
use Rattle.std.specs.List.{list_all}
use Rattle.std.proofs.lemmas.Bool.{cases_Bool, cases_eq, cond-true, cond-false, and_from, and_left, and_parts, eq-eqb}
use Rattle.dw_base.specs.declared.classes.Classes.{Classes}
use Rattle.fixed_width.specs.Numbers.{number}
use Rattle.fixed_width.proofs.Numbers.{number_small}
use Rattle.leb_codec.specs.Leb.{least_unsigned_len}
use Rattle.leb_codec.proofs.SpellingLaws.{unsigned_spellings}
use Rattle.form_codec.specs.declared.form.Form.TheVariants.{RefAddr, RefUdata}
use Rattle.form_codec.specs.Forms.{Meaning, SpellsValue, code_of}
use Rattle.form_codec.specs.Forms.Meaning.{InUnit, InSection}
use Rattle.form_codec.specs.Columns.{IsChoice, EntriesWithin, IsLeftOut, ComesFirst}
use Rattle.form_codec.proofs.FormLaws.{in_form}
use Rattle.abbrev_tables.specs.declared.decl.Spec.{Spec}
use Rattle.column_forms.specs.Columns.{IsChosen}
use Rattle.entry_read.specs.declared.head.UnitHead.{UnitHead}
use Rattle.unit_write.proofs.ValueLaws.{written_local}
use Rattle.written_files.specs.Uses.{names_inside, counted_inside, are_inside, taken_meanings}
use Rattle.rewriter.specs.inside.Columns.{inside_column, column_inside}
use Rattle.rewriter.proofs.ColumnMeanings.{plain}
use Rattle.rewriter.proofs.SizedValues.{number_held}

-- a value that names a place in its unit
abbrev IsInside : UnitHead × Meaning → Bool
IsInside v = names_inside v.0 v.1

abbrev counted : List (UnitHead × Meaning) → List Meaning
counted values = map (λ (v : UnitHead × Meaning). counted_inside v.0 v.1) values

-- A VALUE

-- a form that may be chosen and spells a reference that counts from the section's first byte is DW_FORM_ref_addr
inside_addr : (column : Spec) (head : UnitHead) (m : Meaning) (bytes : List ℕ) → names_inside head m ≡ true → IsChoice column.form → SpellsValue column.name column.form column.constant m bytes → column.form ≡ code_of RefAddr
inside_addr column head (InSection n) bytes is choice s = number_held column (InSection n) bytes refl choice s
inside_addr column head m bytes is choice s = absurd (cc is)

-- and one that spells the reference to the same place within the unit is DW_FORM_ref_udata
inside_udata : (column : Spec) (head : UnitHead) (m : Meaning) (bytes : List ℕ) → names_inside head m ≡ true → IsChoice column.form → SpellsValue column.name column.form column.constant (counted_inside head m) bytes → column.form ≡ code_of RefUdata
inside_udata column head (InSection n) bytes is choice s = number_held column (InUnit (n - head.at)) bytes refl choice s
inside_udata column head m bytes is choice s = absurd (cc is)

-- a place in a section has 32 bits
place_few : (column : Spec) (n : ℕ) (bytes : List ℕ) → column.form ≡ code_of RefAddr → SpellsValue column.name column.form column.constant (InSection n) bytes → n < 2 ^ 32
place_few column n bytes is s =
    let shape = in_form column.name column.form RefAddr column.constant (InSection n) bytes (sym is) s in
    let same : n ≡ number 4 bytes = cc (shape.1) in
    subst (λ (z : ℕ). z < 2 ^ 32) (sym same) (number_small 4 bytes s.small)

-- DW_FORM_ref_udata spells each place in a unit
place_spelled : (name n : ℕ) → n < 2 ^ 64 → (bytes : List ℕ) × SpellsValue name (code_of RefUdata) (pos 0) (InUnit n) bytes
place_spelled name n few =
    let head = unsigned_spellings.each_len n (least_unsigned_len n) (omega arith) in
    (head.0, (written_local (inside_column (record { name = name; form = 0; constant = pos 0 })) n head.0 refl few (head.1, head.2)).0)

-- A COLUMN

-- so it spells all values, in bytes that don't count
entries_within : (column : Spec) (values : List (UnitHead × Meaning)) (n : ℕ) → IsChoice column.form → are_inside values ≡ true → EntriesWithin column.name column.form column.constant (plain values) n → EntriesWithin column.name (code_of RefUdata) (pos 0) (counted values) 0
entries_within column [] n choice all within = tt
entries_within column ((head, InSection k) ∷ vs) n choice all (bytes, rest, s, more, sum) =
    let each = and_parts (names_inside head (InSection k)) (are_inside vs) all in
    let few : k < 2 ^ 32 = place_few column k bytes (inside_addr column head (InSection k) bytes each.0 choice s) s in
    let own = place_spelled column.name (k - head.at) (omega (arith, few)) in
    (own.0, 0, own.1, entries_within column vs rest choice each.1 more, omega arith)
entries_within column ((head, m) ∷ vs) n choice all within = absurd (cc all)

module _ {classes : Classes} (old best : Spec) (v : UnitHead × Meaning) (vs : List (UnitHead × Meaning)) (chosen : IsChosen classes old (plain (v ∷ vs)) best) where
  abbrev values : List (UnitHead × Meaning)
  values = v ∷ vs

  -- it has the name of the old one
  abbrev named_best : Spec
  named_best = record { name = old.name; form = best.form; constant = best.constant }

  abbrev column_test : Bool
  column_test = are_inside (v ∷ vs) && eqb best.form (code_of RefAddr)

  module _ (all : are_inside (v ∷ vs) ≡ true) where
    first_inside : names_inside v.0 v.1 ≡ true
    first_inside = (and_parts (names_inside v.0 v.1) (list_all IsInside vs) all).0

    -- the best column of such values has DW_FORM_ref_addr
    best_addr : best.form ≡ code_of RefAddr
    best_addr = let enough = chosen.least.least.enough in inside_addr named_best v.0 v.1 enough.within.0 first_inside enough.choice enough.within.2

    -- and of those that spell them as they are taken the one of DW_FORM_ref_udata is the only one
    comes_first : (other : ℕ) → other ≡ code_of RefUdata → ComesFirst old.form (code_of RefUdata) other
    comes_first other is = elim (cases_eq old.form (code_of RefUdata)) [
      | inl same ↦ inl (sym same)
      | inr differs ↦ inr (λ e. differs (sym e ∙ is), omega (arith, is))
    ]

    -- no classes leave it out
    never_left_out : (name : ℕ) (meanings : List Meaning) → IsLeftOut classes name (code_of RefUdata) meanings → ⊥
    never_left_out name meanings out = elim out [
      | inl index ↦ absurd (omega (arith, index.from))
      | inr more ↦ elim more [
        | inl apart ↦ absurd (omega (arith, apart.form))
        | inr signed ↦ absurd (omega (arith, signed.form))
      ]
    ]

    inside_chosen : IsChosen classes old (counted (v ∷ vs)) (inside_column best)
    inside_chosen =
        let enough = chosen.least.least.enough in
        record {
          least = record {
            name = chosen.least.name;
            least = record {
              bytes = 0;
              enough = record { choice = (RefUdata, refl, refl); member = never_left_out old.name (counted (v ∷ vs)); entries = 0; within = entries_within named_best values enough.entries enough.choice all enough.within; cost = omega arith };
              least = λ other c n within. omega arith;
            };
            unused = λ other. refl;
          };
          first = λ other c least.
              let least_enough = least.enough in
              comes_first other (inside_udata (record { name = old.name; form = other; constant = c }) v.0 v.1 least_enough.within.0 first_inside least_enough.choice least_enough.within.2);
        }

  some_chosen : IsChosen classes old (taken_meanings (v ∷ vs)) (column_inside (v ∷ vs) best)
  some_chosen = elim (cases_Bool (are_inside values)) [
    | inl all ↦
        let meanings : taken_meanings values ≡ counted values = cond-true {A = List Meaning} (are_inside values) (counted values) (plain values) all in
        let both = and_from (are_inside values) (eqb best.form (code_of RefAddr)) all (eq-eqb best.form (code_of RefAddr) (best_addr all)) in
        let column : column_inside values best ≡ inside_column best = cond-true {A = Spec} column_test (inside_column best) best both in
        let here = subst (λ (c : Spec). IsChosen classes old (counted values) c) (sym column) (inside_chosen all) in
        subst (λ (ms : List Meaning). IsChosen classes old ms (column_inside values best)) (sym meanings) here
    | inr some ↦
        let meanings : taken_meanings values ≡ plain values = cond-false {A = List Meaning} (are_inside values) (counted values) (plain values) some in
        let column : column_inside values best ≡ best = cond-false {A = Spec} column_test (inside_column best) best (and_left (are_inside values) (eqb best.form (code_of RefAddr)) some) in
        let here = subst (λ (c : Spec). IsChosen classes old (plain values) c) (sym column) chosen in
        subst (λ (ms : List Meaning). IsChosen classes old ms (column_inside values best)) (sym meanings) here
  ]

-- the best column of values becomes the best for what they are taken to mean
pub chosen_inside : {classes : Classes} → (old best : Spec) (values : List (UnitHead × Meaning)) → values ≢ [] → IsChosen classes old (plain values) best → IsChosen classes old (taken_meanings values) (column_inside values best)
chosen_inside old best [] some chosen = absurd (some refl)
chosen_inside old best (v ∷ vs) some chosen = some_chosen old best v vs chosen

-- and without a value it stays as it is
pub kept_inside : (values : List (UnitHead × Meaning)) (column : Spec) → values ≡ [] → column_inside values column ≡ column
kept_inside vs column none = ap (λ (zs : List (UnitHead × Meaning)). column_inside zs column) none
