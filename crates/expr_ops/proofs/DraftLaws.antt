-- Drafts, as they are made one after the other.
use Rattle.std.proofs.Common.{◌≡◌, ◌+◌, ◌<◌, ◌≤◌, ℕ, zero, suc, List, [], ◌∷◌, ◌++◌, length, get_or, drop, ◌∙◌, ◌^◌, sym, ap, refl, subst, arith, Option, None, inl, inr}
use Rattle.std.proofs.lemmas.List.{append_assoc, map-append, drop_more, length-map}
use Rattle.std.specs.Prelude.{pos}
use Rattle.expr_ops.specs.declared.op.Op.{Op}
use Rattle.expr_ops.specs.declared.write.Draft.{Draft}
use Rattle.expr_ops.specs.Expressions.{Operation}
use Rattle.expr_ops.specs.Ops.{meant, all_meant}
use Rattle.expr_ops.specs.Drafts.{all_ops, all_slots, with_refs, slots_of, PutsDraft, IsPuttable, sizes_in, total, starts_from, IsAimed, AreAimed, AreFirsts, AreDrafts, CanBePut, IsPut}
use Rattle.expr_ops.specs.Puts.{Holds, Adds}
use Rattle.expr_ops.specs.Table.{operands_of}
use Rattle.spelled.specs.Spelled.{Joined}
use Rattle.std.proofs.lemmas.Bool.Decides.{eqb_tells}
use Rattle.expr_ops.specs.Sizes.{own_size}

-- what stands for a draft past the last
abbrev pub no_draft : Draft
no_draft = record { op = record { at = 0; code = 0; a = 0; s = pos 0; jump = 0; bytes = record { at = 0; len = 0 }; inner = 0 }; slot = None }

-- what is there and what is left make the whole
pub record AreDrafted (drafts : List Draft) (ops : List Op) (refs sizes : List ℕ) (i r s : ℕ) : Type 0 where
  pub made : (bytes : List ℕ) → all_ops bytes drafts ++ with_refs (drop r refs) (all_meant bytes (drop i ops)) ≡ with_refs refs (all_meant bytes ops)
  pub slots : (bytes : List ℕ) → all_slots drafts ++ slots_of (drop s sizes) (all_meant bytes (drop i ops)) ≡ slots_of sizes (all_meant bytes ops)

pub drafted_more : (drafts : List Draft) (ops : List Op) (refs sizes : List ℕ) (i r s r2 s2 : ℕ) (d : Op) (next : Op) (slot : Option ℕ) → AreDrafted drafts ops refs sizes i r s → i < length ops → ((bytes : List ℕ) (more : List Operation) → with_refs (drop r refs) (meant bytes (get_or ops i d) ∷ more) ≡ meant bytes next ∷ with_refs (drop r2 refs) more) → ((bytes : List ℕ) (more : List Operation) → slots_of (drop s sizes) (meant bytes (get_or ops i d) ∷ more) ≡ slot ∷ slots_of (drop s2 sizes) more) → AreDrafted (drafts ++ record { op = next; slot = slot } ∷ []) ops refs sizes (i + 1) r2 s2
drafted_more drafts ops refs sizes i r s r2 s2 d next slot a inside renamed sized = record {
  made = λ bytes.
      let rest = all_meant bytes (drop (i + 1) ops) in
      ap (λ z. z ++ with_refs (drop r2 refs) rest) (map-append (λ (x : Draft). meant bytes x.op) drafts (record { op = next; slot = slot } ∷ []))
      ∙ append_assoc (all_ops bytes drafts) (meant bytes next ∷ []) (with_refs (drop r2 refs) rest)
      ∙ ap (λ z. all_ops bytes drafts ++ z) (sym (renamed bytes rest))
      ∙ ap (λ (z : List Op). all_ops bytes drafts ++ with_refs (drop r refs) (all_meant bytes z)) (sym (drop_more ops i d inside))
      ∙ a.made bytes;
  slots = λ bytes.
      let rest = all_meant bytes (drop (i + 1) ops) in
      ap (λ z. z ++ slots_of (drop s2 sizes) rest) (map-append (λ (x : Draft). x.slot) drafts (record { op = next; slot = slot } ∷ []))
      ∙ append_assoc (all_slots drafts) (slot ∷ []) (slots_of (drop s2 sizes) rest)
      ∙ ap (λ z. all_slots drafts ++ z) (sym (sized bytes rest))
      ∙ ap (λ (z : List Op). all_slots drafts ++ slots_of (drop s sizes) (all_meant bytes z)) (sym (drop_more ops i d inside))
      ∙ a.slots bytes;
}

-- the places that are there and those that are left make the whole
pub record ArePlacedFrom (bytes places : List ℕ) (place : ℕ) (drafts : List Draft) (i : ℕ) : Type 0 where
  pub made : places ++ starts_from place (sizes_in bytes (drop i drafts)) ≡ starts_from 0 (sizes_in bytes drafts)
  pub whole : place + total (sizes_in bytes (drop i drafts)) ≡ total (sizes_in bytes drafts)

pub placed_more : (bytes places : List ℕ) (place next : ℕ) (drafts : List Draft) (i : ℕ) (d : Draft) → ArePlacedFrom bytes places place drafts i → i < length drafts → next ≡ place + own_size (get_or drafts i d).slot (meant bytes (get_or drafts i d).op) → ArePlacedFrom bytes (places ++ place ∷ []) next drafts (i + 1)
placed_more bytes places place next drafts i d a inside e =
    let more = ap (sizes_in bytes) (drop_more drafts i d inside) in
    let sum : place + (own_size (get_or drafts i d).slot (meant bytes (get_or drafts i d).op) + total (sizes_in bytes (drop (i + 1) drafts))) ≡ total (sizes_in bytes drafts) = subst (λ z. place + total z ≡ total (sizes_in bytes drafts)) more a.whole in
    record {
      made =
          append_assoc places (place ∷ []) (starts_from next (sizes_in bytes (drop (i + 1) drafts)))
          ∙ ap (λ n. places ++ place ∷ starts_from n (sizes_in bytes (drop (i + 1) drafts))) e
          ∙ ap (λ z. places ++ starts_from place z) (sym more)
          ∙ a.made;
      whole = omega (arith, sum, e);
    }

-- places rise up to the total
pub starts_small : (place : ℕ) (sizes : List ℕ) (j : ℕ) → get_or (starts_from place sizes) j 0 ≤ place + total sizes
starts_small place [] zero = omega arith
starts_small place [] (suc j) = omega arith
starts_small place (size ∷ sizes) zero = omega arith
starts_small place (size ∷ sizes) (suc j) = let h = starts_small (place + size) sizes j in omega (arith, h)

starts_least : (place : ℕ) (sizes : List ℕ) (j : ℕ) → j ≤ length sizes → place ≤ get_or (starts_from place sizes) j 0
starts_least place [] zero h = omega arith
starts_least place [] (suc j) h = absurd (omega (arith, h))
starts_least place (size ∷ sizes) zero h = omega arith
starts_least place (size ∷ sizes) (suc j) h = let g = starts_least (place + size) sizes j (omega (arith, h)) in omega (arith, g)

pub starts_rise : (place : ℕ) (sizes : List ℕ) (i j : ℕ) → i ≤ j → j ≤ length sizes → get_or (starts_from place sizes) i 0 ≤ get_or (starts_from place sizes) j 0
starts_rise place [] zero zero le h = omega arith
starts_rise place [] zero (suc j) le h = absurd (omega (arith, h))
starts_rise place [] (suc i) zero le h = absurd (omega (arith, le))
starts_rise place [] (suc i) (suc j) le h = absurd (omega (arith, h))
starts_rise place (size ∷ sizes) zero j le h = starts_least place (size ∷ sizes) j h
starts_rise place (size ∷ sizes) (suc i) zero le h = absurd (omega (arith, le))
starts_rise place (size ∷ sizes) (suc i) (suc j) le h = starts_rise (place + size) sizes i j (omega (arith, le)) (omega (arith, h))

pub starts_len : (place : ℕ) (sizes : List ℕ) → length (starts_from place sizes) ≡ length sizes + 1
starts_len place [] = refl
starts_len place (size ∷ sizes) = let h = starts_len (place + size) sizes in omega (arith, h)

sizes_len : (bytes : List ℕ) (drafts : List Draft) → length (sizes_in bytes drafts) ≡ length drafts
sizes_len bytes drafts = length-map drafts (λ (d : Draft). own_size d.slot (meant bytes d.op))

module _ (bytes : List ℕ) (drafts : List Draft) (p : CanBePut bytes drafts) where
  pub places_small : (j : ℕ) → get_or (starts_from 0 (sizes_in bytes drafts)) j 0 < 2 ^ 63
  places_small j = let h = starts_small 0 (sizes_in bytes drafts) j in let s = p.small in omega (arith, h, s)

  pub places_rise : (i j : ℕ) → i ≤ j → j < length (starts_from 0 (sizes_in bytes drafts)) → get_or (starts_from 0 (sizes_in bytes drafts)) i 0 ≤ get_or (starts_from 0 (sizes_in bytes drafts)) j 0
  places_rise i j le lt = let n = starts_len 0 (sizes_in bytes drafts) in starts_rise 0 (sizes_in bytes drafts) i j le (omega (arith, lt, n))

  pub places_inside : (k : ℕ) (d : Draft) → k < length drafts → k + 1 + (get_or drafts k d).op.inner < length (starts_from 0 (sizes_in bytes drafts))
  places_inside k d lt =
      let n = starts_len 0 (sizes_in bytes drafts) in
      let m = sizes_len bytes drafts in
      let h = p.inside k d lt in
      omega (arith, n, m, h)

  holds_put : (firsts : List ℕ) (k : ℕ) (d new : Draft) → k < length drafts → IsAimed (starts_from 0 (sizes_in bytes drafts)) (get_or firsts k 0) k (get_or drafts k d) new → Holds new.slot new.op.code new.op.a
  holds_put firsts k d new lt i =
      elim (eqb_tells new.op.code 163) [
        | inl (t, entry) ↦
            let long = subst (λ n. new.op.a + get_or (starts_from 0 (sizes_in bytes drafts)) (k + 1) 0 ≡ get_or (starts_from 0 (sizes_in bytes drafts)) (k + 1 + n) 0) i.inner (i.long entry) in
            let h = p.lengths k d new.op.a lt (sym i.code ∙ entry) long in
            subst (λ n. Holds new.slot n new.op.a) (sym entry) (subst (λ (z : Option ℕ). Holds z 163 new.op.a) (sym i.slot) h)
        | inr (f, other) ↦
            let h = p.numbers k d lt (λ e. other (i.code ∙ e)) in
            subst (λ n. Holds new.slot new.op.code n) (sym (i.number other)) (subst (λ n. Holds new.slot n (get_or drafts k d).op.a) (sym i.code) (subst (λ (z : Option ℕ). Holds z (get_or drafts k d).op.code (get_or drafts k d).op.a) (sym i.slot) h))
      ]

  pub aims_puttable : (firsts : List ℕ) (aims : List Draft) → AreAimed (starts_from 0 (sizes_in bytes drafts)) firsts drafts aims (length drafts) → (k : ℕ) (d : Draft) → k < length aims → IsPuttable (get_or aims k d)
  aims_puttable firsts aims a k d lt =
      let n = a.count in
      let inside : k < length drafts = omega (arith, lt, n) in
      let i = a.each k d inside in
      let known = p.known k d inside in
      ((known.0, ap operands_of i.code ∙ known.1), holds_put firsts k d (get_or aims k d) inside i)

pub drafted : (refs sizes bytes : List ℕ) (ops : List Op) (drafts : List Draft) → ((b : List ℕ) → all_ops b drafts ≡ with_refs refs (all_meant b ops)) → ((b : List ℕ) → all_slots drafts ≡ slots_of sizes (all_meant b ops)) → AreDrafts refs sizes bytes ops drafts
drafted refs sizes bytes ops drafts e f = record { renamed = e bytes; slots = f bytes }

-- the lists as they are lent to one call and another
pub same_places : (bytes : List ℕ) (lent drafts : List Draft) (found places : List ℕ) → lent ≡ drafts → found ≡ starts_from 0 (sizes_in bytes lent) → places ≡ found → places ≡ starts_from 0 (sizes_in bytes drafts)
same_places bytes lent drafts found places a b c = c ∙ b ∙ ap (λ (z : List Draft). starts_from 0 (sizes_in bytes z)) a

pub small_in : (bytes : List ℕ) (drafts : List Draft) (places : List ℕ) → CanBePut bytes drafts → places ≡ starts_from 0 (sizes_in bytes drafts) → (j : ℕ) → get_or places j 0 < 2 ^ 63
small_in bytes drafts places p e = subst (λ (z : List ℕ). (j : ℕ) → get_or z j 0 < 2 ^ 63) (sym e) (places_small bytes drafts p)

pub rise_in : (bytes : List ℕ) (drafts : List Draft) (places : List ℕ) → CanBePut bytes drafts → places ≡ starts_from 0 (sizes_in bytes drafts) → (i j : ℕ) → i ≤ j → j < length places → get_or places i 0 ≤ get_or places j 0
rise_in bytes drafts places p e = subst (λ (z : List ℕ). (i j : ℕ) → i ≤ j → j < length z → get_or z i 0 ≤ get_or z j 0) (sym e) (places_rise bytes drafts p)

pub inside_in : (bytes : List ℕ) (drafts lent : List Draft) (places : List ℕ) → CanBePut bytes drafts → lent ≡ drafts → places ≡ starts_from 0 (sizes_in bytes drafts) → (k : ℕ) (d : Draft) → k < length lent → k + 1 + (get_or lent k d).op.inner < length places
inside_in bytes drafts lent places p f e = subst (λ (y : List Draft). (k : ℕ) (d : Draft) → k < length y → k + 1 + (get_or y k d).op.inner < length places) (sym f) (subst (λ (z : List ℕ). (k : ℕ) (d : Draft) → k < length drafts → k + 1 + (get_or drafts k d).op.inner < length z) (sym e) (places_inside bytes drafts p))

pub aimed_in : (drafts lent : List Draft) (places from firsts marks : List ℕ) (aims : List Draft) → lent ≡ drafts → places ≡ from → marks ≡ firsts → AreAimed places marks lent aims (length lent) → AreAimed from firsts drafts aims (length drafts)
aimed_in drafts lent places from firsts marks aims e f g a =
    subst (λ (z : List Draft). AreAimed from firsts z aims (length z)) e (subst (λ (z : List ℕ). AreAimed z firsts lent aims (length lent)) f (subst (λ (z : List ℕ). AreAimed places z lent aims (length lent)) g a))

pub puttable_in : (bytes : List ℕ) (drafts : List Draft) (firsts : List ℕ) (aims lent : List Draft) → CanBePut bytes drafts → lent ≡ aims → AreAimed (starts_from 0 (sizes_in bytes drafts)) firsts drafts aims (length drafts) → (k : ℕ) (d : Draft) → k < length lent → IsPuttable (get_or lent k d)
puttable_in bytes drafts firsts aims lent p e a = subst (λ (z : List Draft). (k : ℕ) (d : Draft) → k < length z → IsPuttable (get_or z k d)) (sym e) (aims_puttable bytes drafts p firsts aims a)

-- the parts make the whole
pub put_whole : (refs sizes bytes : List ℕ) (ops : List Op) (drafts : List Draft) (firsts : List ℕ) (aims lent : List Draft) (none made lent_made old new : List ℕ) → AreDrafts refs sizes bytes ops drafts → AreFirsts ops (length ops) firsts → AreAimed (starts_from 0 (sizes_in bytes drafts)) firsts drafts aims (length drafts) → lent ≡ aims → none ≡ [] → lent_made ≡ made → Adds (Joined (PutsDraft bytes) lent) none made → new ≡ old ++ lent_made → Adds (IsPut refs sizes bytes ops) old new
put_whole refs sizes bytes ops drafts firsts aims lent none made lent_made old new d f a same empty same_made (own, spelled, whole) e = (
  own,
  record {
    drafts = drafts;
    firsts = firsts;
    aims = aims;
    drafted = d;
    nested = f;
    aimed = a;
    spelled = subst (λ (z : List Draft). Joined (PutsDraft bytes) z own) same spelled;
  },
  e ∙ ap (λ z. old ++ z) (same_made ∙ whole ∙ ap (λ z. z ++ own) empty),
)
