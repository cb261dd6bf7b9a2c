-- The slots of a unit that is written anew: each tells what it told, with its new number. So they are as many, and have the same forms.
use Rattle.std.proofs.Common.{◌≡◌, ◌<◌, ◌+◌, ◌∙◌, ◌++◌, ◌⊎◌, inl, inr, true≢false, ℕ, zero, suc, List, [], ◌∷◌, length, get_or, take, cond, sym, ap, subst, refl, arith}
use Rattle.std.specs.Prelude.{Bool, true, false, nat_eq, if◌then◌else◌, slice_index}
use Rattle.std.specs.List.{AllZip}
use Rattle.std.proofs.lemmas.Bool.Decides.{eqb_tells}
use Rattle.std.proofs.lemmas.List.Sums.{sum_by-cons}
use Rattle.std.proofs.lemmas.Slice.Zip.{AllZip-long}
use Rattle.expr_ops.specs.declared.op.Op.{Op}
use Rattle.expr_ops.specs.declared.names.Named.{Named}
use Rattle.expr_ops.specs.declared.names.Named.TheVariants.{BaseType}
use Rattle.expr_ops.specs.Expressions.{Operation}
use Rattle.expr_ops.specs.Ops.{meant, all_meant}
use Rattle.expr_ops.specs.Names.{named_by}
use Rattle.expr_ops.specs.Sizes.{own_size}
use Rattle.expr_ops.specs.Drafts.{is_typed, is_conversion, is_generic, is_slot, has_reference, with_a, with_ref, with_refs, op_at}
use Rattle.expr_ops.specs.Shortest.{fixed_size, fixed_length}
use Rattle.expr_ops.specs.Slots.{Aim, slots_among, length_aim, slot_form, op_aim, op_aims, expression_aims}
use Rattle.expr_ops.specs.Slots.Aim.{Place, Length}
use Rattle.expr_ops.proofs.NextRefs.{slot_if, at_code, typed_cases, next_of}
use Rattle.entry_arena.specs.Arena.{Arena}
use Rattle.unit_write.specs.declared.places.Places.{Places}
use Rattle.unit_write.specs.NewExpressions.{refs_among}
use Rattle.value_links.specs.Reading.{Linkable, unit_at}
use Rattle.rewriter.specs.inside.Placed.{PlacesAnew, places_at}
use Rattle.rewriter.specs.inside.Numbers.{MovesTo, IsNewReference}
use Rattle.rewriter.proofs.MovedExpressions.{not_generic, one_more}

-- a slot of a unit that begins at a place tells what another slot tells, where things have moved
abbrev pub AimMoves : Arena → PlacesAnew → ℕ → Aim → Aim → Type 0
AimMoves f places at (Place form n) (Place other new) = (form ≡ other) × MovesTo f places (at + n) (places.start + new)
AimMoves f places at (Length fixed count) (Length size number) = (fixed ≡ size) × (count ≡ number)
AimMoves f places at old new = ⊥

-- two lists go together that do so in parts
pub zip_append : {A B : Type 0} (R : A → B → Type 0) (xs vs : List A) (ys ws : List B) → AllZip R xs ys → AllZip R vs ws → AllZip R (xs ++ vs) (ys ++ ws)
zip_append R [] vs [] ws zip more = more
zip_append R [] vs (y ∷ ys) ws zip more = absurd zip
zip_append R (x ∷ xs) vs [] ws zip more = absurd zip
zip_append R (x ∷ xs) vs (y ∷ ys) ws (first, zip) more = (first, zip_append R xs vs ys ws zip more)

pub zip_counts : {A B : Type 0} (R : A → B → Type 0) (xs : List A) (ys : List B) → AllZip R xs ys → length xs ≡ length ys
zip_counts R xs ys zip = sym (AllZip-long R xs ys zip)

pub zip_at : {A B : Type 0} (R : A → B → Type 0) (xs : List A) (ys : List B) (i : ℕ) (d : A) (e : B) → AllZip R xs ys → i < length xs → R (get_or xs i d) (get_or ys i e)
zip_at R [] ys i d e zip inside = absurd (omega (arith, inside))
zip_at R (x ∷ xs) [] i d e zip inside = absurd zip
zip_at R (x ∷ xs) (y ∷ ys) zero d e (first, zip) inside = first
zip_at R (x ∷ xs) (y ∷ ys) (suc i) d e (first, zip) inside = zip_at R xs ys i d e zip (omega (arith, inside))

zip_take : {A B : Type 0} (R : A → B → Type 0) (n : ℕ) (xs : List A) (ys : List B) → AllZip R xs ys → AllZip R (take n xs) (take n ys)
zip_take R zero xs ys zip = tt
zip_take R (suc n) [] [] zip = tt
zip_take R (suc n) [] (y ∷ ys) zip = absurd zip
zip_take R (suc n) (x ∷ xs) [] zip = absurd zip
zip_take R (suc n) (x ∷ xs) (y ∷ ys) (first, zip) = (first, zip_take R n xs ys zip)

-- OPCODES WITH A SLOT

-- which opcode has a slot, by whether it is a length, a call, or a typed operation whose type is generic
abbrev slot_by : Bool → Bool → Bool → Bool → Bool
slot_by held call typed generic = if held then true else (if call then true else (if typed then (if generic then false else true) else false))

-- it is none of a length, so it is a call or a typed operation
call_or_typed : (held call typed generic : Bool) → slot_by held call typed generic ≡ true → held ≡ false → (call ≡ true) ⊎ ((typed ≡ true) × (generic ≡ false))
call_or_typed true call typed generic is other = absurd (true≢false other)
call_or_typed false true typed generic is other = inl refl
call_or_typed false false true true is other = absurd (true≢false (sym is))
call_or_typed false false true false is other = inr (refl, refl)
call_or_typed false false false generic is other = absurd (true≢false (sym is))

-- whether the type is generic matters for a typed operation alone
slot_same : (held call typed a b : Bool) → (typed ≡ true → a ≡ b) → slot_by held call typed a ≡ slot_by held call typed b
slot_same true call typed a b same = refl
slot_same false true typed a b same = refl
slot_same false false true a b same = ap (λ (z : Bool). if z then false else true) (same refl)
slot_same false false false a b same = refl

-- a call or a typed operation has a reference
has_one : (typed call : Bool) (rest : Bool) → (call ≡ true) ⊎ (typed ≡ true) → (if typed then true else (if call then true else rest)) ≡ true
has_one true call rest is = refl
has_one false true rest is = refl
has_one false false rest (inl is) = absurd (true≢false (sym is))
has_one false false rest (inr is) = absurd (true≢false (sym is))

typed_named : (code : ℕ) → is_typed code ≡ true → named_by code ≡ BaseType
typed_named code typed = typed_cases (λ (c : ℕ). named_by c ≡ BaseType) code typed refl refl refl refl refl refl

call_is : (code : ℕ) → nat_eq code 153 ≡ true → code ≡ 153
call_is code t = elim (eqb_tells code 153) [
  | inl (_, e) ↦ e
  | inr (f, _) ↦ absurd (true≢false (sym t ∙ f))
]

-- ONE OPERATION

module _ (r : Linkable) (places : List Places) (u : ℕ) (later : (k : ℕ) → k < length (unit_at r u).forest.entries → (places_at places u).start < slice_index (places_at places u).entries k) where
  abbrev f : Arena
  f = (unit_at r u).forest

  abbrev Moves : ℕ → ℕ → Type 0
  Moves n new = MovesTo (unit_at r u).forest (places_at places u) ((unit_at r u).head.at + n) ((places_at places u).start + new)

  -- The operation is another one with a new reference: its slot, if it has one, tells what the other tells.
  pub record IsMovedOperation (o new : Operation) : Type 0 where
    pub code : new.code ≡ o.code
    pub inner : new.inner ≡ o.inner
    pub slot : is_slot new.code new.a ≡ is_slot o.code o.a
    pub fixed : fixed_size new ≡ fixed_size o
    pub place : is_slot o.code o.a ≡ true → nat_eq o.code 163 ≡ false → MovesTo (unit_at r u).forest (places_at places u) ((unit_at r u).head.at + o.a) ((places_at places u).start + new.a)

  -- no entry stands at its unit's first byte, so that a type that isn't generic doesn't become it
  stays_other : (code n new : ℕ) → is_generic code n ≡ false → IsNewReference r places u BaseType code n new → is_generic code new ≡ false
  stays_other code n new isnt (inl (is, none)) = absurd (true≢false (sym is ∙ isnt))
  stays_other code n new isnt (inr (_, m)) =
      let behind = later m.id m.inside in
      let there = m.to in
      not_generic (is_conversion code) new (omega (arith, behind, there))

  -- the reference of a slot moves
  slot_moves : (code n new : ℕ) → IsNewReference r places u (named_by code) code n new → (nat_eq code 153 ≡ true) ⊎ ((is_typed code ≡ true) × (is_generic code n ≡ false)) → Moves n new
  slot_moves code n new is (inl call) =
      inl (subst (λ (c : ℕ). IsNewReference r places u (named_by c) c n new) (call_is code call) is)
  slot_moves code n new is (inr (typed, isnt)) =
      elim (subst (λ (z : Named). IsNewReference r places u z code n new) (typed_named code typed) is) [
        | inl (generic, none) ↦ absurd (true≢false (sym generic ∙ isnt))
        | inr (_, m) ↦ inl m
      ]

  fixed_alike : (o new : Operation) → new.code ≡ o.code → is_slot new.code new.a ≡ is_slot o.code o.a → own_size (slot_if (is_slot o.code o.a) 0) new ≡ own_size (slot_if (is_slot o.code o.a) 0) o → fixed_size new ≡ fixed_size o
  fixed_alike o new code slot same =
      ap (λ (c : ℕ). if nat_eq c 153 then 1 else own_size (slot_if (is_slot new.code new.a) 0) new) code
      ∙ ap (λ (b : Bool). if nat_eq o.code 153 then 1 else own_size (slot_if b 0) new) slot
      ∙ ap (λ (n : ℕ). if nat_eq o.code 153 then 1 else n) same

  -- an operation stays that has no reference, or the generic type
  stays : (o : Operation) → (is_slot o.code o.a ≡ true → nat_eq o.code 163 ≡ false → Moves o.a o.a) → IsMovedOperation o o
  stays o place = record { code = refl; inner = refl; slot = refl; fixed = refl; place = place }

  abbrev head_or : Operation → List Operation → Operation
  head_or d [] = d
  head_or d (x ∷ xs) = x

  abbrev listed_as : Bool → Operation → ℕ → List Operation
  listed_as b o n = if b then with_ref n o ∷ [] else (o ∷ [])

  -- the sizes of an operation don't depend on its reference
  size_alike : (o : Operation) (n : ℕ) → has_reference o.code ≡ true → is_generic o.code o.a ≡ false → own_size (slot_if (is_slot o.code o.a) 0) (with_a n o) ≡ own_size (slot_if (is_slot o.code o.a) 0) o
  size_alike o n has isnt =
      let next = next_of (n ∷ []) o in
      let first : with_refs (n ∷ []) (o ∷ []) ≡ with_ref n o ∷ [] = ap (λ (b : Bool). listed_as b o n) has in
      let renamed : with_ref n o ≡ with_a n o = ap (λ (b : Bool). if b then o else with_a n o) isnt in
      let same : next.new ≡ with_a n o = ap (λ (os : List Operation). head_or o os) (sym (next.listed []) ∙ first) ∙ renamed in
      subst (λ (x : Operation). own_size (slot_if (is_slot o.code o.a) 0) x ≡ own_size (slot_if (is_slot o.code o.a) 0) o) same (next.same 0)

  moved_by : (o : Operation) (n : ℕ) (has generic : Bool) → has_reference o.code ≡ has → is_generic o.code o.a ≡ generic → IsNewReference r places u (named_by o.code) o.code o.a n → IsMovedOperation o (if has then (if generic then o else with_a n o) else o)
  moved_by o n false generic none e is =
      stays o (λ slot other. (
      let cases = call_or_typed (nat_eq o.code 163) (nat_eq o.code 153) (is_typed o.code) (is_generic o.code o.a) slot other in
      let has : has_reference o.code ≡ true = has_one (is_typed o.code) (nat_eq o.code 153) _ (elim cases [ inl call ↦ inl call | inr typed ↦ inr typed.0 ]) in
      absurd (true≢false (sym has ∙ none))
      ))
  moved_by o n true true has generic is =
      stays o (λ slot other. elim (call_or_typed (nat_eq o.code 163) (nat_eq o.code 153) (is_typed o.code) (is_generic o.code o.a) slot other) [
        | inl call ↦ (let isnt : is_generic o.code o.a ≡ false = at_code (λ (c : ℕ). is_generic c o.a ≡ false) o.code 153 (call_is o.code call) refl in absurd (true≢false (sym generic ∙ isnt)))
        | inr (_, isnt) ↦ absurd (true≢false (sym generic ∙ isnt))
      ])
  moved_by o n true false has isnt is =
      let slot : is_slot o.code n ≡ is_slot o.code o.a = slot_same (nat_eq o.code 163) (nat_eq o.code 153) (is_typed o.code) (is_generic o.code n) (is_generic o.code o.a) (λ typed.
      stays_other o.code o.a n isnt (subst (λ (z : Named). IsNewReference r places u z o.code o.a n) (typed_named o.code typed) is) ∙ sym isnt) in
      record {
        code = refl;
        inner = refl;
        slot = slot;
        fixed = fixed_alike o (with_a n o) refl slot (size_alike o n has isnt);
        place = λ some other. slot_moves o.code o.a n is (call_or_typed (nat_eq o.code 163) (nat_eq o.code 153) (is_typed o.code) (is_generic o.code o.a) some other);
      }

  pub operation_moved : (o : Operation) (n : ℕ) → IsNewReference r places u (named_by o.code) o.code o.a n → IsMovedOperation o (if has_reference o.code then with_ref n o else o)
  operation_moved o n is = moved_by o n (has_reference o.code) (is_generic o.code o.a) refl refl is

  -- all operations of an expression with their new references
  pub operations_moved : (bytes : List ℕ) (ops : List Op) (numbers : List ℕ) → length numbers ≡ length ops → ((k : ℕ) → k < length ops → IsNewReference r places u (named_by (op_at ops k).code) (op_at ops k).code (op_at ops k).a (slice_index numbers k)) → AllZip IsMovedOperation (all_meant bytes ops) (with_refs (refs_among ops numbers) (all_meant bytes ops))
  operations_moved bytes [] numbers count each = tt
  operations_moved bytes (op ∷ ops) [] count each = absurd (omega (arith, count))
  operations_moved bytes (op ∷ ops) (n ∷ ns) count each =
      let rest = operations_moved bytes ops ns (omega (arith, count)) (λ k inside. each (suc k) (omega arith)) in
      let here = operation_moved (meant bytes op) n (each 0 (omega arith)) in
      subst (AllZip IsMovedOperation (all_meant bytes (op ∷ ops))) (sym (one_more (has_reference op.code) (meant bytes op) n (refs_among ops ns) (all_meant bytes ops))) (here, rest)

  -- WHAT THEIR SLOTS TELL

  fixed_still : (os news : List Operation) → AllZip IsMovedOperation os news → fixed_length news ≡ fixed_length os
  fixed_still [] [] zip = refl
  fixed_still [] (new ∷ news) zip = absurd zip
  fixed_still (o ∷ os) [] zip = absurd zip
  fixed_still (o ∷ os) (new ∷ news) (first, zip) =
      let here = first.fixed in
      let more = fixed_still os news zip in
      omega (arith, here, more)

  abbrev one : Bool → ℕ
  one b = cond {A = ℕ} b 1 0

  slots_still : (os news : List Operation) → AllZip IsMovedOperation os news → slots_among news ≡ slots_among os
  slots_still [] [] zip = refl
  slots_still [] (new ∷ news) zip = absurd zip
  slots_still (o ∷ os) [] zip = absurd zip
  slots_still (o ∷ os) (new ∷ news) (first, zip) =
      let here : one (is_slot new.code new.a) ≡ one (is_slot o.code o.a) = ap one first.slot in
      let more = slots_still os news zip in
      let now : slots_among (new ∷ news) ≡ one (is_slot new.code new.a) + slots_among news = sum_by-cons (λ (x : Operation). one (is_slot x.code x.a)) new news in
      let was : slots_among (o ∷ os) ≡ one (is_slot o.code o.a) + slots_among os = sum_by-cons (λ (x : Operation). one (is_slot x.code x.a)) o os in
      omega (arith, here, more, now, was)

  length_moves : (os news : List Operation) → AllZip IsMovedOperation os news → (fixed_length os ≡ fixed_length news) × (slots_among os ≡ slots_among news)
  length_moves os news zip = (sym (fixed_still os news zip), sym (slots_still os news zip))

  abbrev Aims : Aim → Aim → Type 0
  Aims = AimMoves (unit_at r u).forest (places_at places u) (unit_at r u).head.at

  aim_by : (held : Bool) (o new : Operation) (os news : List Operation) → nat_eq o.code 163 ≡ held → IsMovedOperation o new → is_slot o.code o.a ≡ true → AllZip IsMovedOperation os news → Aims (if held then length_aim (take o.inner os) else Place (slot_form o.code) o.a) (if held then length_aim (take new.inner news) else Place (slot_form new.code) new.a)
  aim_by true o new os news e m slot zip =
      length_moves (take o.inner os) (take new.inner news) (subst (λ (j : ℕ). AllZip IsMovedOperation (take o.inner os) (take j news)) (sym m.inner) (zip_take IsMovedOperation o.inner os news zip))
  aim_by false o new os news e m slot zip = (ap slot_form (sym m.code), m.place slot e)

  aim_moves : (o new : Operation) (os news : List Operation) → IsMovedOperation o new → is_slot o.code o.a ≡ true → AllZip IsMovedOperation os news → Aims (op_aim o os) (op_aim new news)
  aim_moves o new os news m slot zip =
      subst (λ (b : Bool). Aims (op_aim o os) (if b then length_aim (take new.inner news) else Place (slot_form new.code) new.a)) (ap (λ (c : ℕ). nat_eq c 163) (sym m.code)) (aim_by (nat_eq o.code 163) o new os news refl m slot zip)

  aims_by : (was now : Bool) (a b : Aim) (olds news : List Aim) → now ≡ was → (was ≡ true → Aims a b) → AllZip Aims olds news → AllZip Aims (if was then a ∷ olds else olds) (if now then b ∷ news else news)
  aims_by true true a b olds news same first zip = (first refl, zip)
  aims_by true false a b olds news same first zip = absurd (true≢false (sym same))
  aims_by false true a b olds news same first zip = absurd (true≢false same)
  aims_by false false a b olds news same first zip = zip

  op_aims_move : (os news : List Operation) → AllZip IsMovedOperation os news → AllZip Aims (op_aims os) (op_aims news)
  op_aims_move [] [] zip = tt
  op_aims_move [] (new ∷ news) zip = absurd zip
  op_aims_move (o ∷ os) [] zip = absurd zip
  op_aims_move (o ∷ os) (new ∷ news) (first, zip) =
      aims_by (is_slot o.code o.a) (is_slot new.code new.a) (op_aim o os) (op_aim new news) (op_aims os) (op_aims news) first.slot (λ slot. aim_moves o new os news first slot zip) (op_aims_move os news zip)

  -- those of an expression that is written anew tell what the old ones told
  pub expression_aims_move : (os news : List Operation) → AllZip IsMovedOperation os news → AllZip (AimMoves (unit_at r u).forest (places_at places u) (unit_at r u).head.at) (expression_aims os) (expression_aims news)
  expression_aims_move os news zip = (length_moves os news zip, op_aims_move os news zip)
