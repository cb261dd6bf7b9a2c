-- What is written shortest of an expression has its fewest bytes.
use Rattle.std.proofs.Common.{◌≡◌, ◌≢◌, ◌<◌, ◌≤◌, ◌+◌, ℕ, zero, suc, List, [], ◌∷◌, ◌++◌, length, get_or, take, drop, ◌∙◌, sym, ap, refl, subst, arith, inl, inr, Bool, true, false, Option, Some, None}
use Rattle.std.proofs.lemmas.Bool.{ne_eqb, cases_Bool}
use Rattle.std.proofs.lemmas.Bool.Decides.{eqb_tells}
use Rattle.std.proofs.lemmas.List.{length-map, drop_at, drop-map, drop-drop, get_or-map}
use Rattle.std.specs.Prelude.{ℤ, map, nat_lt, if◌then◌else◌}
use Rattle.dw_base.specs.declared.fault.Span.{Span}
use Rattle.dw_base.specs.declared.fault.Reach.TheVariants.{Wide}
use Rattle.spelled.specs.Spelled.{Joined}
use Rattle.leb_codec.specs.Leb.{least_unsigned_len}
use Rattle.expr_ops.specs.declared.op.Op.{Op}
use Rattle.expr_ops.specs.declared.table.Shape.{Shape}
use Rattle.expr_ops.specs.declared.table.Shape.TheVariants as shape
use Rattle.expr_ops.specs.declared.table.Operands.{Operands}
use Rattle.expr_ops.specs.declared.table.Operands.TheVariants as operands
use Rattle.expr_ops.specs.Reads.{bytes_in}
use Rattle.expr_ops.specs.Expressions.{Operation, IsBranch, IsExpression}
use Rattle.expr_ops.specs.Ops.{meant, all_meant, Chain}
use Rattle.expr_ops.specs.Puts.{PutsNumber, PutsPart, PutsOperands, PutsOwn, PutsCall}
use Rattle.expr_ops.specs.Sizes.{own_size}
use Rattle.expr_ops.specs.Drafts.{is_slot, is_typed, with_refs, sizes_in, total, starts_from, op_at, IsPut}
use Rattle.expr_ops.specs.Shortest.{needed_size, needed_slot, needed_own, shortest_sizes, IsWrittenShortest}
use Rattle.expr_ops.proofs.DraftLaws.{no_draft}
use Rattle.expr_ops.proofs.HeldPlaces.{expression_held}
use Rattle.expr_ops.proofs.NestLaws.{nest_closed}
use Rattle.expr_ops.proofs.NextRefs.{next_of, at_code, coded}
use Rattle.expr_ops.proofs.NeededLaws.{refs_count, needed_count}
use Rattle.expr_ops.proofs.NeededSizes.{sizes_needed}
use Rattle.expr_ops.proofs.NeededFits.{closed_at, drafts_count, draft_code, draft_slot}
use Rattle.expr_ops.proofs.PlainLaws.{expression_sized}
use Rattle.expr_ops.proofs.Sums.{range_sum}
use Rattle.written_files.proofs.OwnBytes.{own_sized}
use Rattle.written_files.proofs.FewestSizes.{fewest_none, no_slot, other_size, other_any, held_needed}
use Rattle.written_files.specs.inside.FewestBytes.{held_length, fewest_slot, as_written, AreShortest, HasFewestBytes}

-- ONE OPERATION

part_fewest : (s : Shape) (b : Bool) (n : ℕ) (v : ℤ) (block bytes : List ℕ) → PutsPart s (if b then Some (least_unsigned_len n) else None) n v block bytes → PutsPart s None n v block bytes
part_fewest (shape.Unsigned w) b n v block bytes p = p
part_fewest (shape.Signed w) b n v block bytes p = p
part_fewest shape.Uleb true n v block bytes p = p
part_fewest shape.Uleb false n v block bytes p = p
part_fewest shape.Sleb b n v block bytes p = p
part_fewest shape.Counted b n v block bytes p = p
part_fewest shape.ByteCounted b n v block bytes p = p

operands_fewest : (kinds : Operands) (b : Bool) (o : Operation) (bytes : List ℕ) → PutsOperands kinds (if b then Some (least_unsigned_len o.a) else None) o bytes → PutsOperands kinds None o bytes
operands_fewest operands.Nothing b o bytes p = p
operands_fewest (operands.One s) b o bytes p = part_fewest s b o.a o.s o.block bytes p
operands_fewest (operands.Two s t) b o bytes (x, y, p, q, e) = (x, y, part_fewest s b o.a o.s o.block x p, q, e)
operands_fewest (operands.Typed s) b o bytes (x, y, p, q, e) = (x, y, p, part_fewest shape.Uleb b o.a o.s o.block y q, e)

-- the slot that an operation gets is shortest
module _ (o new : Operation) (held : ℕ) (same : new.code ≡ o.code) where
  call_slot : new.code ≡ 153 → needed_slot o new held ≡ fewest_slot new
  call_slot e =
      let is : is_slot o.code o.a ≡ true = at_code (λ (c : ℕ). is_slot c o.a ≡ true) o.code 153 (sym same ∙ e) refl in
      let size : needed_size new held ≡ (if nat_lt new.a 65536 then 2 else 4) =
      at_code (λ (c : ℕ). needed_size (coded c new) held ≡ (if nat_lt new.a 65536 then 2 else 4)) new.code 153 e refl
      in
      let few : fewest_slot new ≡ Some (if nat_lt new.a 65536 then 2 else 4) =
      at_code (λ (c : ℕ). fewest_slot (coded c new) ≡ Some (if nat_lt new.a 65536 then 2 else 4)) new.code 153 e refl
      in
      ap (λ (b : Bool). if b then Some (needed_size new held) else None) is ∙ ap (λ (k : ℕ). Some k) size ∙ sym few

  entry_slot : new.code ≡ 163 → needed_slot o new held ≡ Some (least_unsigned_len held)
  entry_slot e =
      let is : is_slot o.code o.a ≡ true = at_code (λ (c : ℕ). is_slot c o.a ≡ true) o.code 163 (sym same ∙ e) refl in
      let size : needed_size new held ≡ least_unsigned_len held =
      at_code (λ (c : ℕ). needed_size (coded c new) held ≡ least_unsigned_len held) new.code 163 e refl
      in
      ap (λ (b : Bool). if b then Some (needed_size new held) else None) is ∙ ap (λ (k : ℕ). Some k) size

  -- so what is written of it with that slot is written with no byte too many
  own_fewest : (v : ℤ) (own : List ℕ) → PutsOwn (needed_slot o new held) (as_written held v new) own → PutsOwn (fewest_slot new) (as_written held v new) own
  own_fewest v own (inl (call, p)) = inl (call, subst (λ (z : Option ℕ). PutsCall z (as_written held v new).a own) (call_slot call) p)
  own_fewest v own (inr (inl (entry, (tail, p, e)))) =
      let w = as_written held v new in
      let is : w.a ≡ held = at_code (λ (c : ℕ). (as_written held v (coded c new)).a ≡ held) new.code 163 entry refl in
      let (spells, long) : PutsNumber (Some (least_unsigned_len held)) w.a tail =
      subst (λ (z : Option ℕ). PutsNumber z w.a tail) (entry_slot entry) p
      in
      let none : fewest_slot new ≡ None = fewest_none new (λ call. let no : 163 ≡ 153 = sym entry ∙ call in absurd (omega (arith, no))) in
      let short : PutsNumber None w.a tail = (spells, long ∙ ap least_unsigned_len (sym is)) in
      inr (inl (entry, (tail, subst (λ (z : Option ℕ). PutsNumber z w.a tail) (sym none) short, e)))
  own_fewest v own (inr (inr (no_call, no_entry, (kinds, tail, known, p, e)))) =
      let w = as_written held v new in
      let is : w.a ≡ new.a = ap (λ (b : Bool). if b then held else new.a) (ne_eqb new.code 163 no_entry) in
      let size : needed_size new held ≡ least_unsigned_len w.a = other_size new held no_call no_entry ∙ ap least_unsigned_len (sym is) in
      let slotted : PutsOperands kinds (if is_slot o.code o.a then Some (least_unsigned_len w.a) else None) w tail =
      subst (λ (n : ℕ). PutsOperands kinds (if is_slot o.code o.a then Some n else None) w tail) size p
      in
      let none : fewest_slot new ≡ None = fewest_none new no_call in
      let short : PutsOperands kinds None w tail = operands_fewest kinds (is_slot o.code o.a) w tail slotted in
      inr (inr (no_call, no_entry, (kinds, tail, known, subst (λ (z : Option ℕ). PutsOperands kinds z w tail) (sym none) short, e)))

  -- it has the same size by its old reference and by its new one
  slot_kept : own_size (needed_slot o new held) new ≡ own_size (needed_slot new new held) new
  slot_kept =
      elim (eqb_tells new.code 153) [
        | inl (t, e) ↦ own_by (slot_at 153 (λ a. refl) e)
        | inr (f, no_call) ↦ elim (eqb_tells new.code 163) [
          | inl (t, e) ↦ own_by (slot_at 163 (λ a. refl) e)
          | inr (g, no_entry) ↦ elim (cases_Bool (is_typed new.code)) [
            | inl typed ↦ other_any new held (is_slot o.code o.a) no_call no_entry typed ∙ sym (other_any new held (is_slot new.code new.a) no_call no_entry typed)
            | inr plain ↦ own_by (no_slot o.code o.a (ap is_typed (sym same) ∙ plain) (λ e. no_call (same ∙ e)) (λ e. no_entry (same ∙ e)) ∙ sym (no_slot new.code new.a plain no_call no_entry))
          ]
        ]
      ]
    where
      own_by : is_slot o.code o.a ≡ is_slot new.code new.a → own_size (needed_slot o new held) new ≡ own_size (needed_slot new new held) new
      own_by e = ap (λ (b : Bool). own_size (if b then Some (needed_size new held) else None) new) e

      slot_at : (c : ℕ) → ((a : ℕ) → is_slot c a ≡ true) → new.code ≡ c → is_slot o.code o.a ≡ is_slot new.code new.a
      slot_at c h e = at_code (λ (z : ℕ). is_slot z o.a ≡ true) o.code c (sym same ∙ e) (h o.a) ∙ sym (at_code (λ (z : ℕ). is_slot z new.a ≡ true) new.code c e (h new.a))

-- ALL OPERATIONS

needed_by : (o new : Operation) (os sizes : List ℕ) (m n : ℕ) → os ≡ sizes → m ≡ n → own_size (needed_slot o new (total (take m os))) new ≡ own_size (needed_slot new new (total (take m os))) new → own_size (needed_slot o new (total (take m os))) new ∷ os ≡ own_size (needed_slot new new (total (take n sizes))) new ∷ sizes
needed_by o new os sizes m n e f g =
    ap (λ (k : ℕ). k ∷ os) g
    ∙ ap (λ (k : ℕ). own_size (needed_slot new new (total (take k os))) new ∷ os) f
    ∙ ap (λ (z : List ℕ). own_size (needed_slot new new (total (take n z))) new ∷ z) e

-- the bytes are those of the new operations by themselves
needed_renamed : (refs : List ℕ) (os : List Operation) → needed_own os (with_refs refs os) ≡ needed_own (with_refs refs os) (with_refs refs os)
needed_renamed refs [] = refl
needed_renamed refs (o ∷ os) =
    let next = next_of refs o in
    let news = with_refs next.rest os in
    let rest = needed_renamed next.rest os in
    let held = total (take o.inner (needed_own os news)) in
    ap (λ (z : List Operation). needed_own (o ∷ os) z) (next.listed os)
    ∙ needed_by o next.new (needed_own os news) (needed_own news news) o.inner next.new.inner rest (sym next.inner) (slot_kept o next.new held next.code)
    ∙ ap (λ (z : List Operation). needed_own z z) (sym (next.listed os))

self_drop : (n : ℕ) (os : List Operation) → drop n (needed_own os os) ≡ needed_own (drop n os) (drop n os)
self_drop zero os = refl
self_drop (suc n) [] = refl
self_drop (suc n) (o ∷ os) = self_drop n os

refs_inner : (refs : List ℕ) (os : List Operation) (k : ℕ) (d : Operation) → (get_or (with_refs refs os) k d).inner ≡ (get_or os k d).inner
refs_inner refs [] k d = refl
refs_inner refs (o ∷ os) zero d = let next = next_of refs o in ap (λ (z : List Operation). (get_or z 0 d).inner) (next.listed os) ∙ next.inner
refs_inner refs (o ∷ os) (suc k) d = let next = next_of refs o in ap (λ (z : List Operation). (get_or z (suc k) d).inner) (next.listed os) ∙ refs_inner next.rest os k d

-- what is written of an operation is so in its fewest bytes
record IsFit (made : List ℕ) (op : Op) (behind : List Op) (slot : Option ℕ) (w : Operation) : Type 0 where
  sign : (¬ IsBranch op.code) → w.s ≡ op.s
  puts : (own : List ℕ) → PutsOwn slot w own → PutsOwn (fewest_slot (meant made op)) (as_written (held_length (meant made op) (all_meant made behind)) w.s (meant made op)) own

-- what is written of each of some operations
module _ {V : Type 0} (made : List ℕ) (slot : V → Option ℕ) (written : V → Operation) where
  abbrev AreFit : List Op → List V → Type 0
  AreFit [] [] = Unit {0}
  AreFit [] (v ∷ vs) = ⊥
  AreFit (op ∷ ops) [] = ⊥
  AreFit (op ∷ ops) (v ∷ vs) = IsFit made op ops (slot v) (written v) × AreFit ops vs

  fit_by : (ops : List Op) (vs : List V) (none : V) → length vs ≡ length ops → ((k : ℕ) → k < length ops → IsFit made (op_at ops k) (drop (suc k) ops) (slot (get_or vs k none)) (written (get_or vs k none))) → AreFit ops vs
  fit_by [] [] none e h = tt
  fit_by [] (v ∷ vs) none e h = absurd (omega (arith, e))
  fit_by (op ∷ ops) [] none e h = absurd (omega (arith, e))
  fit_by (op ∷ ops) (v ∷ vs) none e h = (h 0 (omega arith), fit_by ops vs none (omega (arith, e)) (λ k lt. h (suc k) (omega (arith, lt))))

  -- one stands behind the other
  all_fewest : (at end : ℕ) (ops : List Op) (vs : List V) (own : List ℕ) → Chain made at ops end → Joined (λ v. PutsOwn (slot v) (written v)) vs own → drop at made ≡ own → AreFit ops vs → AreShortest made ops
  all_fewest at end [] vs own chain joined stands fit = tt
  all_fewest at end (op ∷ ops) [] own chain joined stands fit = absurd fit
  all_fewest at end (op ∷ ops) (v ∷ vs) own (place, (size, lead, chain)) (first, rest, puts, joined, whole) stands (fit, fits) =
      let held = held_length (meant made op) (all_meant made ops) in
      let here : drop at made ≡ first ++ rest = stands ∙ whole in
      let put = fit.puts first puts in
      let long : size ≡ length first = own_sized made at size op (fewest_slot (meant made op)) held (written v).s first rest lead here put in
      let next : drop (at + size) made ≡ rest = sym (drop-drop size at made) ∙ ap (drop size) here ∙ drop_at first rest size (sym long) in (
        record { distance = (written v).s; sign = fit.sign; own = first; rest = rest; put = put; stands = ap (λ n. drop n made) place ∙ here },
        all_fewest (at + size) end ops vs rest chain joined next fits,
      )

get_map : {V W : Type 0} (vs : List V) (k : ℕ) (v : V) (w : W) (f : V → W) → k < length vs → get_or (map f vs) k w ≡ f (get_or vs k v)
get_map vs k v w f inside = get_or-map f vs k v w inside

-- THE EXPRESSION

written_as : (old : List ℕ) (held : ℕ) (aim draft : Op) → aim.code ≡ draft.code → aim.a ≡ (as_written held aim.s (meant old draft)).a → aim.bytes ≡ draft.bytes → aim.jump ≡ draft.jump → aim.inner ≡ draft.inner → meant old aim ≡ as_written held aim.s (meant old draft)
written_as old held aim draft e f g h i =
    ap (λ (z : ℕ). record { code = z; a = aim.a; s = aim.s; block = bytes_in old aim.bytes; jump = aim.jump; inner = aim.inner }) e
    ∙ ap (λ (z : ℕ). record { code = draft.code; a = z; s = aim.s; block = bytes_in old aim.bytes; jump = aim.jump; inner = aim.inner }) f
    ∙ ap (λ (z : Span). record { code = draft.code; a = (as_written held aim.s (meant old draft)).a; s = aim.s; block = bytes_in old z; jump = aim.jump; inner = aim.inner }) g
    ∙ ap (λ (z : ℕ). record { code = draft.code; a = (as_written held aim.s (meant old draft)).a; s = aim.s; block = bytes_in old draft.bytes; jump = z; inner = aim.inner }) h
    ∙ ap (λ (z : ℕ). record { code = draft.code; a = (as_written held aim.s (meant old draft)).a; s = aim.s; block = bytes_in old draft.bytes; jump = draft.jump; inner = z }) i

-- an entry_value's number is the sum of the sizes of what it holds
number_by : (sizes places : List ℕ) (k held : ℕ) (draft aim : Op) → places ≡ starts_from 0 sizes → aim.code ≡ draft.code → aim.inner ≡ draft.inner → (aim.code ≡ 163 → aim.a + get_or places (k + 1) 0 ≡ get_or places (k + 1 + aim.inner) 0) → (aim.code ≢ 163 → aim.a ≡ draft.a) → k + 1 + draft.inner ≤ length sizes → held ≡ total (take draft.inner (drop (suc k) sizes)) → (v : ℤ) (old : List ℕ) → aim.a ≡ (as_written held v (meant old draft)).a
number_by sizes places k held draft aim same code inner long number inside is v old =
    elim (eqb_tells draft.code 163) [
      | inl (t, e) ↦
          let next : k + 1 ≡ suc k = omega arith in
          let here : aim.a + get_or (starts_from 0 sizes) (k + 1) 0 ≡ get_or (starts_from 0 sizes) (k + 1 + draft.inner) 0 =
          subst (λ (z : List ℕ). aim.a + get_or z (k + 1) 0 ≡ get_or z (k + 1 + draft.inner) 0) same (subst (λ (n : ℕ). aim.a + get_or places (k + 1) 0 ≡ get_or places (k + 1 + n) 0) inner (long (code ∙ e)))
          in
          let sum = range_sum sizes (k + 1) draft.inner inside in
          let behind : total (take draft.inner (drop (k + 1) sizes)) ≡ total (take draft.inner (drop (suc k) sizes)) =
          ap (λ (n : ℕ). total (take draft.inner (drop n sizes))) next
          in
          let told : aim.a ≡ held = omega (arith, here, sum, behind, is) in
          told ∙ sym (ap (λ (b : Bool). if b then held else draft.a) t)
      | inr (f, other) ↦ number (λ e. other (sym code ∙ e)) ∙ sym (ap (λ (b : Bool). if b then held else draft.a) f)
    ]

module _ (refs old : List ℕ) (ops : List Op) (made : List ℕ) (p : IsPut refs (shortest_sizes refs (all_meant old ops)) old ops made) (mades : List Op) (means : all_meant made mades ≡ with_refs refs (all_meant old ops)) (spelled : IsExpression Wide (with_refs refs (all_meant old ops)) made) where
  counted : length p.drafts ≡ length mades
  counted = drafts_count refs old ops p.drafts p.drafted ∙ sym (refs_count refs (all_meant old ops)) ∙ sym (ap (λ (z : List Operation). length z) means) ∙ length-map mades (meant made)

  -- what an operation holds, by the new operations behind it
  held_front : (k m : ℕ) (op : Op) → m ≡ op.inner → total (take m (drop (suc k) (needed_own (all_meant old ops) (with_refs refs (all_meant old ops))))) ≡ held_length (meant made op) (all_meant made (drop (suc k) mades))
  held_front k m op same =
      let os = all_meant old ops in
      let news = with_refs refs os in
      let behind = all_meant made (drop (suc k) mades) in
      let there : drop (suc k) news ≡ behind = ap (drop (suc k)) (sym means) ∙ drop-map (meant made) (suc k) mades in
      ap (λ (z : List ℕ). total (take m (drop (suc k) z))) (needed_renamed refs os)
      ∙ ap (λ (z : List ℕ). total (take m z)) (self_drop (suc k) news)
      ∙ ap (λ (z : List Operation). total (take m (needed_own z z))) there
      ∙ ap (λ (n : ℕ). total (take n (needed_own behind behind))) same
      ∙ sym (held_needed (meant made op) behind)

  fit_at : (k : ℕ) → k < length mades → IsFit made (op_at mades k) (drop (suc k) mades) (get_or p.aims k no_draft).slot (meant old (get_or p.aims k no_draft).op)
  fit_at k inside =
      let os = all_meant old ops in
      let news = with_refs refs os in
      let sizes = needed_own os news in
      let draft = get_or p.drafts k no_draft in
      let aim = get_or p.aims k no_draft in
      let op = op_at mades k in
      let d = meant old no_draft.op in
      let o = get_or os k d in
      let new = meant old draft.op in
      let held = total (take o.inner (drop (suc k) sizes)) in
      let n = counted in
      let lt : k < length p.drafts = omega (arith, n, inside) in
      let all : length p.drafts ≡ length os = drafts_count refs old ops p.drafts p.drafted in
      let i = p.aimed.each k no_draft lt in
      let here : new ≡ get_or news k d =
      sym (get_map p.drafts k no_draft d (λ x. meant old x.op) lt) ∙ ap (λ (z : List Operation). get_or z k d) p.drafted.renamed
      in
      let there : meant made op ≡ get_or news k d =
      sym (get_or-map (meant made) mades k no_draft.op d inside) ∙ ap (λ (z : List Operation). get_or z k d) means
      in
      let same : meant made op ≡ new = there ∙ sym here in
      let code : draft.op.code ≡ o.code = draft_code refs old ops p.drafts p.drafted k no_draft lt in
      let inner : draft.op.inner ≡ o.inner = ap (λ (z : Operation). z.inner) here ∙ refs_inner refs os k d in
      let own_inner : op.inner ≡ o.inner = ap (λ (z : Operation). z.inner) there ∙ refs_inner refs os k d in
      let own_code : aim.op.code ≡ op.code = i.code ∙ sym (ap (λ (z : Operation). z.code) same) in
      let count : length news ≡ length os = refs_count refs os in
      let many : length sizes ≡ length os = needed_count os news count in
      let closed = closed_at news k d (nest_closed (expression_sized Wide news made spelled).nest) (omega (arith, lt, all, count)) in
      let news_inner : (get_or news k d).inner ≡ draft.op.inner = sym (ap (λ (z : Operation). z.inner) here) in
      let is : held ≡ total (take draft.op.inner (drop (suc k) sizes)) = ap (λ (m : ℕ). total (take m (drop (suc k) sizes))) (sym inner) in
      let places : starts_from 0 (sizes_in old p.drafts) ≡ starts_from 0 sizes = ap (starts_from 0) (sizes_needed refs old ops p.drafts p.drafted) in
      let number =
      number_by sizes (starts_from 0 (sizes_in old p.drafts)) k held draft.op aim.op places i.code i.inner i.long i.number (omega (arith, closed, news_inner, count, many)) is aim.op.s old
      in
      let w : meant old aim.op ≡ as_written held aim.op.s new = written_as old held aim.op draft.op i.code number i.bytes i.jump i.inner in
      let slot : aim.slot ≡ needed_slot o new held = i.slot ∙ draft_slot refs old ops p.drafts p.drafted k no_draft lt in
      let front = held_front k o.inner op (sym own_inner) in
      record {
        sign = λ plain. i.sign (λ b. plain (subst (λ (c : ℕ). IsBranch c) own_code b)) ∙ sym (ap (λ (z : Operation). z.s) same);
        puts = λ own q.
            let a : PutsOwn (needed_slot o new held) (meant old aim.op) own = subst (λ (z : Option ℕ). PutsOwn z (meant old aim.op) own) slot q in
            let b : PutsOwn (needed_slot o new held) (as_written held aim.op.s new) own =
            subst (λ (z : Operation). PutsOwn (needed_slot o new held) z own) w a
            in
            let c = own_fewest o new held code aim.op.s own b in
            let e : PutsOwn (fewest_slot (meant made op)) (as_written held aim.op.s (meant made op)) own =
            subst (λ (z : Operation). PutsOwn (fewest_slot z) (as_written held aim.op.s z) own) (sym same) c
            in
            subst (λ (m : ℕ). PutsOwn (fewest_slot (meant made op)) (as_written m aim.op.s (meant made op)) own) front e;
      }

-- what is written has its fewest bytes
pub put_fewest : (refs old : List ℕ) (ops : List Op) (made : List ℕ) → IsWrittenShortest refs old ops made → HasFewestBytes made
put_fewest refs old ops made w =
    let news = with_refs refs (all_meant old ops) in
    let (mades, means, chain) = expression_held Wide news made w.written.expression in
    let p = w.written.put in
    let n : length p.drafts ≡ length mades = counted refs old ops made p mades means w.written.expression in
    let fit =
    fit_by made (λ v. v.slot) (λ v. meant old v.op) mades p.aims no_draft (p.aimed.count ∙ n) (fit_at refs old ops made p mades means w.written.expression)
    in
    record {
      ops = mades;
      spelled = subst (λ (z : List Operation). IsExpression Wide z made) (sym means) w.written.expression;
      places = chain;
      each = all_fewest made (λ v. v.slot) (λ v. meant old v.op) 0 (length made) mades p.aims made chain p.spelled refl fit;
    }
