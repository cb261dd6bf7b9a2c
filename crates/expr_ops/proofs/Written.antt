-- What is written of an expression is one again, of the same operations with new references.
use Rattle.std.proofs.Common.{◌≡◌, ◌≢◌, ◌<◌, ◌≤◌, ◌+◌, ◌^◌, ℕ, zero, suc, List, [], ◌∷◌, length, get_or, ◌∙◌, sym, ap, refl, subst, arith, inl, inr, Bool, true, false, Option}
use Rattle.std.proofs.lemmas.List.{length-map, get_or-map}
use Rattle.std.specs.Prelude.{pos, ◌+ℤ◌, if◌then◌else◌}
use Rattle.spelled.specs.Spelled.{Joined}
use Rattle.dw_base.specs.declared.fault.Span.{Span}
use Rattle.expr_ops.specs.declared.op.Op.{Op}
use Rattle.expr_ops.specs.declared.write.Draft.{Draft}
use Rattle.expr_ops.specs.Reads.{bytes_in}
use Rattle.expr_ops.specs.Ops.{meant, all_meant}
use Rattle.expr_ops.specs.Expressions.{Operation, IsBranch}
use Rattle.expr_ops.specs.Sizes.{own_size}
use Rattle.expr_ops.specs.Puts.{Adds}
use Rattle.expr_ops.specs.Drafts.{is_generic, has_reference, with_a, with_ref, with_refs, first_or, rest_of, PutsDraft, sizes_in, total, starts_from, op_at, IsAimed, IsPut, IsFirst}
use Rattle.expr_ops.specs.Writing.{reference_limit, IsOwnBranch, GetsAtMost, IsNear, DistancesFit, SpellsWithin, CanBeWritten, IsSpelledAnew}
use Rattle.expr_ops.proofs.HeadsKept.{distance_back}
use Rattle.expr_ops.proofs.PutLaws.{own_len}
use Rattle.expr_ops.proofs.DraftLaws.{no_draft, starts_small}
use Rattle.expr_ops.proofs.PlaceLaws.{sizes_same, slotted_drafts}
use Rattle.expr_ops.proofs.HeadsWritten.{with_s}
use Rattle.expr_ops.proofs.Laid.{place_of, IsOwn, IsItem, Laid}
use Rattle.expr_ops.proofs.LevelPut.{level_put}
use Rattle.expr_ops.proofs.Sums.{starts_next, range_sum, some_total}

-- NEW REFERENCES

-- another number, where the operation has a reference
record IsRenamed (old new : Operation) : Type 0 where
  same : new ≡ with_a new.a old
  kept : has_reference old.code ≡ false → new.a ≡ old.a

unnamed : (o : Operation) → IsRenamed o o
unnamed o = record { same = refl; kept = λ e. refl }

named_by : (g : Bool) (n : ℕ) (o : Operation) → (if g then o else with_a n o) ≡ with_a (if g then o else with_a n o).a o
named_by true n o = refl
named_by false n o = refl

named_first : (b : Bool) (x o d : Operation) (xs ys : List Operation) → has_reference o.code ≡ b → x ≡ with_a x.a o → IsRenamed o (get_or (if b then x ∷ xs else (o ∷ ys)) 0 d)
named_first true x o d xs ys e is = record { same = is; kept = λ f. let no : true ≡ false = sym e ∙ f in absurd (cc) }
named_first false x o d xs ys e is = unnamed o

named_later : (b : Bool) (x n o d : Operation) (xs ys : List Operation) (k : ℕ) → IsRenamed x (get_or xs k d) → IsRenamed x (get_or ys k d) → IsRenamed x (get_or (if b then n ∷ xs else (o ∷ ys)) (suc k) d)
named_later true x n o d xs ys k a b = a
named_later false x n o d xs ys k a b = b

refs_each : (refs : List ℕ) (os : List Operation) (k : ℕ) (d : Operation) → IsRenamed (get_or os k d) (get_or (with_refs refs os) k d)
refs_each refs [] k d = unnamed d
refs_each refs (o ∷ os) zero d =
    named_first (has_reference o.code) (with_ref (first_or 0 refs) o) o d (with_refs (rest_of refs) os) (with_refs refs os) refl (named_by (is_generic o.code o.a) (first_or 0 refs) o)
refs_each refs (o ∷ os) (suc k) d =
    named_later (has_reference o.code) (get_or os k d) (with_ref (first_or 0 refs) o) o d (with_refs (rest_of refs) os) (with_refs refs os) k (refs_each (rest_of refs) os k d) (refs_each refs os k d)

long_by : (b : Bool) (n o : Operation) (xs ys : List Operation) (m : ℕ) → length xs ≡ m → length ys ≡ m → length (if b then n ∷ xs else (o ∷ ys)) ≡ suc m
long_by true n o xs ys m e f = ap suc e
long_by false n o xs ys m e f = ap suc f

pub refs_long : (refs : List ℕ) (os : List Operation) → length (with_refs refs os) ≡ length os
refs_long refs [] = refl
refs_long refs (o ∷ os) =
    long_by (has_reference o.code) (with_ref (first_or 0 refs) o) o (with_refs (rest_of refs) os) (with_refs refs os) (length os) (refs_long (rest_of refs) os) (refs_long refs os)

-- ITEMS

-- an operation that is aimed differs in its length and its distance alone
aimed_meant : (bytes : List ℕ) (new old : Op) → new.code ≡ old.code → new.a ≡ old.a → new.bytes ≡ old.bytes → new.jump ≡ old.jump → new.inner ≡ old.inner → meant bytes new ≡ with_s new.s (meant bytes old)
aimed_meant bytes new old e f g h i =
    ap (λ (z : ℕ). record { code = z; a = new.a; s = new.s; block = bytes_in bytes new.bytes; jump = new.jump; inner = new.inner }) e
    ∙ ap (λ (z : ℕ). record { code = old.code; a = z; s = new.s; block = bytes_in bytes new.bytes; jump = new.jump; inner = new.inner }) f
    ∙ ap (λ (z : Span). record { code = old.code; a = old.a; s = new.s; block = bytes_in bytes z; jump = new.jump; inner = new.inner }) g
    ∙ ap (λ (z : ℕ). record { code = old.code; a = old.a; s = new.s; block = bytes_in bytes old.bytes; jump = z; inner = new.inner }) h
    ∙ ap (λ (z : ℕ). record { code = old.code; a = old.a; s = new.s; block = bytes_in bytes old.bytes; jump = old.jump; inner = z }) i

branch_differs : (code : ℕ) → IsBranch code → code ≢ 163
branch_differs code (inl e) f = omega (arith, e, f)
branch_differs code (inr e) f = omega (arith, e, f)

module _ (bytes : List ℕ) (ops : List Op) (places firsts : List ℕ) where
  -- an operation, its draft and the aimed one
  item : (k : ℕ) (o named : Operation) (draft aim : Draft) (own : List ℕ) → k < length ops → o ≡ meant bytes (op_at ops k) → named ≡ meant bytes draft.op → IsRenamed o named → IsFirst ops k (get_or firsts k 0) → IsAimed places (get_or firsts k 0) k draft aim → PutsDraft bytes aim own → (has_reference draft.op.code ≡ true → draft.op.a < reference_limit draft.op.code draft.slot) → (IsBranch (op_at ops k).code → (base count : ℕ) → IsOwn ops base count k (get_or firsts k 0) → (op_at ops k).jump ≤ count → IsNear (place_of places (k + 1)) (place_of places (get_or firsts k 0 + (op_at ops k).jump))) → place_of places k + length own ≡ place_of places (k + 1) → IsItem ops places firsts k o named own
  item k o named draft aim own lt is drafted renamed first i puts fits near size =
      let code : (op_at ops k).code ≡ o.code = sym (ap (λ (z : Operation). z.code) is) in
      let inner : (op_at ops k).inner ≡ o.inner = sym (ap (λ (z : Operation). z.inner) is) in
      let new = renamed.same in
      let new_code : draft.op.code ≡ o.code = sym (ap (λ (z : Operation). z.code) drafted) ∙ ap (λ (z : Operation). z.code) new in
      let new_jump : draft.op.jump ≡ o.jump = sym (ap (λ (z : Operation). z.jump) drafted) ∙ ap (λ (z : Operation). z.jump) new in
      let new_inner : draft.op.inner ≡ o.inner = sym (ap (λ (z : Operation). z.inner) drafted) ∙ ap (λ (z : Operation). z.inner) new in
      let new_a : draft.op.a ≡ named.a = sym (ap (λ (z : Operation). z.a) drafted) in
      let aim_code : aim.op.code ≡ o.code = i.code ∙ new_code in
      let same : o.code ≢ 163 → meant bytes aim.op ≡ with_s aim.op.s named = λ n. aimed_meant bytes aim.op draft.op i.code (i.number (λ e. n (sym aim_code ∙ e))) i.bytes i.jump i.inner ∙ ap (with_s aim.op.s) (sym drafted) in
      let limit : has_reference o.code ≡ true → named.a < reference_limit o.code aim.slot = λ e.
      subst (λ (z : ℕ). z < reference_limit o.code aim.slot) new_a (subst (λ (z : ℕ). draft.op.a < reference_limit z aim.slot) new_code (subst (λ (z : Option ℕ). draft.op.a < reference_limit draft.op.code z) (sym i.slot) (fits (ap has_reference new_code ∙ e)))) in
      let aimed_at : IsBranch o.code → pos (place_of places (get_or firsts k 0 + o.jump)) ≡ pos (place_of places (k + 1)) +ℤ aim.op.s = λ b. ap (λ (z : ℕ). pos (place_of places (get_or firsts k 0 + z))) (sym (i.jump ∙ new_jump)) ∙ i.distance (branch_at o.code aim.op.code (sym aim_code) b) in
      record {
        slot = aim.slot;
        written = meant bytes aim.op;
        puts = puts;
        inside = lt;
        code = code;
        inner = inner;
        first = first;
        renamed = new;
        refers = (renamed.kept, limit);
        entry_code = aim_code;
        branch = λ b. same (branch_differs o.code b);
        other = λ b n. same n ∙ ap (λ z. with_s z named) (i.sign (λ x. b (branch_at aim.op.code o.code aim_code x)) ∙ sym (ap (λ (z : Operation). z.s) drafted));
        long = λ e. i.long (aim_code ∙ e) ∙ ap (λ (z : ℕ). place_of places (k + 1 + z)) (i.inner ∙ new_inner);
        distance = aimed_at;
        near = λ b base count w goes.
            let jump : o.jump ≡ (op_at ops k).jump = ap (λ (z : Operation). z.jump) is in
            let (ahead, back) = subst (λ (z : ℕ). IsNear (place_of places (k + 1)) (place_of places (get_or firsts k 0 + z))) (sym jump) (near (branch_at o.code (op_at ops k).code (sym code) b) base count w (subst (λ (z : ℕ). z ≤ count) jump goes)) in
            distance_back aim.op.s (place_of places (get_or firsts k 0 + o.jump)) (place_of places (k + 1)) ahead back (aimed_at b);
        size = size;
      }
    where
      branch_at : (m n : ℕ) → m ≡ n → IsBranch m → IsBranch n
      branch_at m n e b = subst (λ z. IsBranch z) e b

  -- items, one after the other
  laid_from : (k : ℕ) (os ns : List Operation) (aims : List Draft) (own : List ℕ) → length ns ≡ length os → length aims ≡ length os → Joined (PutsDraft bytes) aims own → ((i : ℕ) (d : Operation) (x : Draft) (first : List ℕ) → i < length os → PutsDraft bytes (get_or aims i x) first → IsItem ops places firsts (k + i) (get_or os i d) (get_or ns i d) first) → Laid ops places firsts k os ns own
  laid_from k [] [] [] own e f j each = (refl, j)
  laid_from k [] (n ∷ ns) aims own e f j each = absurd (omega (arith, e))
  laid_from k [] [] (a ∷ aims) own e f j each = absurd (omega (arith, f))
  laid_from k (o ∷ os) [] aims own e f j each = absurd (omega (arith, e))
  laid_from k (o ∷ os) (n ∷ ns) [] own e f j each = absurd (omega (arith, f))
  laid_from k (o ∷ os) (n ∷ ns) (a ∷ aims) own e f (first, rest, p, j, whole) each =
      let here : k + 0 ≡ k = omega arith in (
        n,
        ns,
        first,
        rest,
        subst (λ (z : ℕ). IsItem ops places firsts z o n first) here (each 0 o a first (omega arith) p),
        laid_from (k + 1) os ns aims rest (omega (arith, e)) (omega (arith, f)) j (λ i d x own lt puts.
            let next : k + suc i ≡ k + 1 + i = omega arith in
            subst (λ (z : ℕ). IsItem ops places firsts z (get_or os i d) (get_or ns i d) own) next (each (suc i) d x own (omega (arith, lt)) puts)),
        refl,
        whole,
      )

-- THE WHOLE

module _ (refs sizes bytes : List ℕ) (ops : List Op) (made : List ℕ) (p : IsPut refs sizes bytes ops made) where
  -- new references are asked to fit where there are some, distances to fit, and the bytes of an expression with a branch to be few
  pub written_by : (was most deep : ℕ) → SpellsWithin was deep (all_meant bytes ops) bytes → total (sizes_in bytes p.drafts) < 2 ^ 63 → ((k : ℕ) (d : Draft) → k < length p.drafts → has_reference (get_or p.drafts k d).op.code ≡ true → (get_or p.drafts k d).op.a < reference_limit (get_or p.drafts k d).op.code (get_or p.drafts k d).slot) → DistancesFit bytes p.drafts ops → GetsAtMost most bytes p.drafts ops → SpellsWithin most deep (with_refs refs (all_meant bytes ops)) made
  written_by was most deep old small fits distances few =
      let os = all_meant bytes ops in
      let ns = with_refs refs os in
      let own_sizes = sizes_in bytes p.drafts in
      let places = starts_from 0 own_sizes in
      let own = λ (d : Draft). own_size d.slot (meant bytes d.op) in
      let count : length os ≡ length ops = length-map ops (meant bytes) in
      let named : length ns ≡ length os = refs_long refs os in
      let all : length own_sizes ≡ length p.drafts = length-map p.drafts own in
      let drafts : length p.drafts ≡ length ops = sym (length-map p.drafts (λ (d : Draft). meant bytes d.op)) ∙ ap (λ z. length z) p.drafted.renamed ∙ named ∙ count in
      let aims : length p.aims ≡ length os = p.aimed.count ∙ drafts ∙ sym count in
      let same : sizes_in bytes p.aims ≡ own_sizes = sizes_same bytes places p.firsts p.drafts p.aims p.aimed (slotted_drafts refs sizes bytes ops p.drafts p.drafted) in
      let own_branch : (base count k : ℕ) → IsBranch (op_at ops k).code → IsOwn ops base count k (get_or p.firsts k 0) → k < length ops → IsOwnBranch ops base count k = λ base count k b w inside.
      (w.low, w.high, b, subst (λ (z : ℕ). IsFirst ops k z) w.is (p.nested.each k inside))
      in
      let each : (i : ℕ) (d : Operation) (x : Draft) (first : List ℕ) → i < length os → PutsDraft bytes (get_or p.aims i x) first → IsItem ops places p.firsts (0 + i) (get_or os i d) (get_or ns i d) first = λ i d x first lt puts.
      let inside : i < length ops = omega (arith, lt, count) in
      let within : i < length p.drafts = omega (arith, inside, drafts) in
      let aim_within : i < length p.aims = omega (arith, lt, aims) in
      let is : get_or os i d ≡ meant bytes (op_at ops i) = get_or-map (meant bytes) ops i no_draft.op d inside in
      let is_draft : get_or ns i d ≡ meant bytes (get_or p.drafts i x).op =
      ap (λ (z : List Operation). get_or z i d) (sym p.drafted.renamed) ∙ get_or-map (λ (z : Draft). meant bytes z.op) p.drafts i x d within in
      let long : length first ≡ own_size (get_or p.aims i x).slot (meant bytes (get_or p.aims i x).op) = own_len (get_or p.aims i x).slot (meant bytes (get_or p.aims i x).op) first puts in
      let size : get_or own_sizes i 0 ≡ own_size (get_or p.aims i x).slot (meant bytes (get_or p.aims i x).op) = ap (λ (z : List ℕ). get_or z i 0) (sym same) ∙ get_or-map own p.aims i x 0 aim_within in
      let next : get_or places (suc i) 0 ≡ get_or places i 0 + get_or own_sizes i 0 = starts_next 0 own_sizes i (omega (arith, within, all)) in
      let behind : get_or places (suc i) 0 ≡ get_or places (i + 1) 0 = ap (λ (z : ℕ). get_or places z 0) (omega arith) in
      let sum : place_of places i + length first ≡ place_of places (i + 1) = omega (arith, long, size, next, behind) in
      let zero_more : i ≡ 0 + i = omega arith in
      subst (λ (z : ℕ). IsItem ops places p.firsts z (get_or os i d) (get_or ns i d) first) zero_more (item bytes ops places p.firsts i (get_or os i d) (get_or ns i d) (get_or p.drafts i x) (get_or p.aims i x) first inside is is_draft (refs_each refs os i d) (p.nested.each i inside) (p.aimed.each i x within) puts (fits i x within) (λ b base count w goes.
      subst (λ (z : ℕ). IsNear (place_of places (i + 1)) (place_of places (z + (op_at ops i).jump))) (sym w.is) (distances base count i w.range (own_branch base count i b w inside) goes)) sum)
      in
      let short : (base count k : ℕ) → IsBranch (op_at ops k).code → IsOwn ops base count k (get_or p.firsts k 0) → place_of places (base + count) ≤ place_of places base + most = λ base count k b w.
      let high = w.high in
      let within_all = w.inside in
      let most_of = few base count w.range (k, own_branch base count k b w (omega (arith, high, within_all))) in
      let up = range_sum own_sizes base count (omega (arith, within_all, all, drafts)) in
      omega (arith, most_of, up)
      in
      let laid : Laid ops places p.firsts 0 os ns made = laid_from bytes ops places p.firsts 0 os ns p.aims made named aims p.spelled each in
      level_put was most ops places p.firsts (λ j. let up = starts_small 0 own_sizes j in omega (arith, up, small)) short deep 0 os ns bytes made old laid (inl (refl, count))

-- what is written spells the operations, within limits that the old bytes and the new ones keep
pub written : (refs sizes bytes : List ℕ) (ops : List Op) (made : List ℕ) → CanBeWritten refs sizes bytes ops → IsPut refs sizes bytes ops made → IsSpelledAnew refs sizes bytes ops made
written refs sizes bytes ops made c p =
    let put = c.put p.drafts p.drafted in
    let spells = λ (was most deep : ℕ) (old : SpellsWithin was deep (all_meant bytes ops) bytes) (few : GetsAtMost most bytes p.drafts ops).
    written_by refs sizes bytes ops made p was most deep old put.small (c.fits p.drafts p.drafted) (c.distances p.drafts p.drafted) few
    in
    let (was, deep, old) = c.old in
    let most = total (sizes_in bytes p.drafts) in
    record {
      put = p;
      spelled = (most, deep, spells was most deep old (λ first count range own. some_total (sizes_in bytes p.drafts) first count));
      within = λ was most deep old few. spells was most deep old (few p.drafts p.drafted);
    }

-- bytes that are appended so
pub put_written : (refs sizes bytes : List ℕ) (ops : List Op) (old new : List ℕ) → CanBeWritten refs sizes bytes ops → Adds (IsPut refs sizes bytes ops) old new → Adds (IsSpelledAnew refs sizes bytes ops) old new
put_written refs sizes bytes ops old new c (own, p, e) = (own, written refs sizes bytes ops own c p, e)
