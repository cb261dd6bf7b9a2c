-- Operations without branches and entry_values, each written with its next reference.
use Rattle.std.proofs.Common.{◌≡◌, ◌≢◌, ◌<◌, ◌≤◌, ◌+◌, ◌^◌, ℕ, List, [], ◌∷◌, ◌++◌, length, get_or, take, drop, map, ◌∙◌, sym, ap, refl, subst, arith, inl, false, Option, Some}
use Rattle.std.proofs.lemmas.Bool.{ne_eqb}
use Rattle.std.proofs.lemmas.List.{append_assoc, append-nil, map-append, length-map, get_or-map, drop_more, drop_all}
use Rattle.std.specs.Prelude.{nat_eq}
use Rattle.spelled.specs.Spelled.{Joined}
use Rattle.spelled.proofs.Joins.{joined_push}
use Rattle.leb_codec.specs.Digits.{Extends}
use Rattle.dw_base.specs.declared.fault.Reach.TheVariants.{Narrow}
use Rattle.expr_ops.specs.declared.op.Op.{Op}
use Rattle.expr_ops.specs.declared.table.Operands.{Operands}
use Rattle.expr_ops.specs.declared.write.Draft.{Draft}
use Rattle.expr_ops.specs.Table.{operands_of}
use Rattle.expr_ops.specs.Ops.{meant, all_meant}
use Rattle.expr_ops.specs.Expressions.{Operation, IsBranch, IsExpression}
use Rattle.expr_ops.specs.Puts.{Holds, Adds}
use Rattle.expr_ops.specs.Drafts.{with_refs, all_ops, all_slots, sizes_in, total, starts_from, PutsDraft, IsFirstAmong, AreFirsts, AreAimed, AreDrafts, IsPut}
use Rattle.expr_ops.specs.Shortest.{needed_slot, needed_own, shortest_length, shortest_sizes, AreSimple, IsWrittenShortest}
use Rattle.expr_ops.proofs.DraftLaws.{no_draft}
use Rattle.expr_ops.proofs.PlainLaws.{expression_sized}
use Rattle.expr_ops.proofs.NextRefs.{AreSmall}
use Rattle.expr_ops.proofs.NeededLaws.{IsRenamed, refs_count}
use Rattle.expr_ops.proofs.NeededSizes.{needed_slots, slots_needed}
use Rattle.expr_ops.proofs.NeededFits.{known_at, holds_needed, draft_code, drafts_count}
use Rattle.expr_ops.proofs.NeededFew.{shortest_written, shortest_made}
use Rattle.expr_ops.proofs.Written.{written}

-- WHAT WAS WRITTEN SO FAR

-- what is there and what is left make the whole
pub record ArePut (refs bytes : List ℕ) (ops : List Op) (old new : List ℕ) (i r : ℕ) : Type 0 where
  pub drafts : List Draft
  pub own : List ℕ
  pub made : all_ops bytes drafts ++ with_refs (drop r refs) (all_meant bytes (drop i ops)) ≡ with_refs refs (all_meant bytes ops)
  pub slots : all_slots drafts ++ needed_slots (all_meant bytes (drop i ops)) (with_refs (drop r refs) (all_meant bytes (drop i ops))) ≡ needed_slots (all_meant bytes ops) (with_refs refs (all_meant bytes ops))
  pub spelled : Joined (PutsDraft bytes) drafts own
  pub items : new ≡ old ++ own

pub none_put : (refs bytes : List ℕ) (ops : List Op) (old : List ℕ) → ArePut refs bytes ops old old 0 0
none_put refs bytes ops old = record { drafts = []; own = []; made = refl; slots = refl; spelled = refl; items = sym (append-nil old) }

pub put_extends : (refs bytes : List ℕ) (ops : List Op) (old mid new : List ℕ) (i r : ℕ) → ArePut refs bytes ops old mid i r → Extends mid new → Extends old new
put_extends refs bytes ops old mid new i r p (more, e) = (p.own ++ more, e ∙ ap (λ z. z ++ more) p.items ∙ append_assoc old p.own more)

-- the slot of an operation that holds none is the same whatever it holds
slot_any : (o new : Operation) (m n : ℕ) → new.code ≢ 163 → needed_slot o new m ≡ needed_slot o new n
slot_any o new m n other = let e : nat_eq new.code 163 ≡ false = ne_eqb new.code 163 other in rw e refl

module _ (refs bytes : List ℕ) (ops : List Op) (simple : AreSimple ops) where
  pub put_more : (old mid new : List ℕ) (i r s : ℕ) (d next : Op) (slot : Option ℕ) → ArePut refs bytes ops old mid i r → i < length ops → next.code ≡ (get_or ops i d).code → IsRenamed bytes (get_or ops i d) next (drop r refs) (drop s refs) → slot ≡ needed_slot (meant bytes (get_or ops i d)) (meant bytes next) 0 → Adds (PutsDraft bytes (record { op = next; slot = slot })) mid new → ArePut refs bytes ops old new (i + 1) s
  put_more old mid new i r s d next slot p lt code renamed same (first, puts, whole) =
      let o = meant bytes (get_or ops i d) in
      let n = meant bytes next in
      let rest = all_meant bytes (drop (i + 1) ops) in
      let news = with_refs (drop s refs) rest in
      let draft : Draft = record { op = next; slot = slot } in
      let held = total (take o.inner (needed_own rest news)) in
      let here : slot ≡ needed_slot o n held = same ∙ slot_any o n 0 held (λ e. (simple i d lt).1 (sym code ∙ e)) in
      record {
        drafts = p.drafts ++ draft ∷ [];
        own = p.own ++ first;
        made =
            ap (λ z. z ++ news) (map-append (λ (x : Draft). meant bytes x.op) p.drafts (draft ∷ []))
            ∙ append_assoc (all_ops bytes p.drafts) (n ∷ []) news
            ∙ ap (λ z. all_ops bytes p.drafts ++ z) (sym (renamed rest))
            ∙ ap (λ (z : List Op). all_ops bytes p.drafts ++ with_refs (drop r refs) (all_meant bytes z)) (sym (drop_more ops i d lt))
            ∙ p.made;
        slots =
            ap (λ z. z ++ needed_slots rest news) (map-append (λ (x : Draft). x.slot) p.drafts (draft ∷ []))
            ∙ append_assoc (all_slots p.drafts) (slot ∷ []) (needed_slots rest news)
            ∙ ap (λ (z : Option ℕ). all_slots p.drafts ++ z ∷ needed_slots rest news) here
            ∙ ap (λ (z : List Operation). all_slots p.drafts ++ needed_slots (o ∷ rest) z) (sym (renamed rest))
            ∙ ap (λ (z : List Op). all_slots p.drafts ++ needed_slots (all_meant bytes z) (with_refs (drop r refs) (all_meant bytes z))) (sym (drop_more ops i d lt))
            ∙ p.slots;
        spelled = joined_push (PutsDraft bytes) p.drafts draft p.own first p.spelled puts;
        items = whole ∙ ap (λ z. z ++ first) p.items ∙ append_assoc old p.own first;
      }

  -- THE NEXT CAN BE WRITTEN

  pub next_known : (i : ℕ) (d next : Op) → IsExpression Narrow (all_meant bytes ops) bytes → i < length ops → next.code ≡ (get_or ops i d).code → (kinds : Operands) × (operands_of next.code ≡ Some kinds)
  next_known i d next old lt same =
      let count : length (all_meant bytes ops) ≡ length ops = length-map ops (meant bytes) in
      let known = known_at (all_meant bytes ops) i (meant bytes d) (expression_sized Narrow (all_meant bytes ops) bytes old).known (omega (arith, lt, count)) in
      (known.0, ap operands_of (same ∙ sym (ap (λ (z : Operation). z.code) (get_or-map (meant bytes) ops i d (meant bytes d) lt))) ∙ known.1)

  pub next_holds : (i : ℕ) (d next : Op) (slot : Option ℕ) → i < length ops → next.code ≡ (get_or ops i d).code → slot ≡ needed_slot (meant bytes (get_or ops i d)) (meant bytes next) 0 → Holds slot next.code next.a
  next_holds i d next slot lt same is =
      let h = holds_needed (meant bytes (get_or ops i d)) (meant bytes next) 0 (λ e. (simple i d lt).1 (sym same ∙ e)) in
      subst (λ (z : Option ℕ). Holds z next.code next.a) (sym is) h

  -- ALL WERE WRITTEN

  abbrev nones : List ℕ
  nones = map (λ (op : Op). 0) ops

  simple_firsts : AreFirsts ops (length ops) nones
  simple_firsts = record {
    count = length-map ops (λ (op : Op). 0);
    each = λ k lt.
        let none : get_or nones k 0 ≡ 0 = get_or-map (λ (op : Op). 0) ops k no_draft.op 0 lt in
        subst (λ (f : ℕ). IsFirstAmong ops (length ops) k f) (sym none) (record { opens = inl refl; innermost = λ e from less holds. (simple e no_draft.op less).1 holds.2 });
  }

  module _ (drafts : List Draft) (a : AreDrafts refs (shortest_sizes refs (all_meant bytes ops)) bytes ops drafts) where
    draft_simple : (k : ℕ) (d : Draft) → k < length drafts → (¬ IsBranch (get_or drafts k d).op.code) × ((get_or drafts k d).op.code ≢ 163)
    draft_simple k d lt =
        let count : length (all_meant bytes ops) ≡ length ops = length-map ops (meant bytes) in
        let all = drafts_count refs bytes ops drafts a in
        let inside : k < length ops = omega (arith, lt, count, all) in
        let code : (get_or drafts k d).op.code ≡ (get_or ops k d.op).code = draft_code refs bytes ops drafts a k d lt ∙ ap (λ (z : Operation). z.code) (get_or-map (meant bytes) ops k d.op (meant bytes d.op) inside) in
        subst (λ (c : ℕ). (¬ IsBranch c) × (c ≢ 163)) (sym code) (simple k d.op inside)

    simple_aimed : (places firsts : List ℕ) → AreAimed places firsts drafts drafts (length drafts)
    simple_aimed places firsts = record {
      count = refl;
      each = λ k d lt.
          let plain = draft_simple k d lt in
          record {
            slot = refl;
            code = refl;
            bytes = refl;
            jump = refl;
            inner = refl;
            long = λ e. absurd (plain.1 e);
            number = λ n. refl;
            distance = λ b. absurd (plain.0 b);
            sign = λ n. refl;
          };
    }

  all_put : (old new : List ℕ) (i r : ℕ) → length ops ≤ i → ArePut refs bytes ops old new i r → Adds (IsPut refs (shortest_sizes refs (all_meant bytes ops)) bytes ops) old new
  all_put old new i r le p =
      let os = all_meant bytes ops in
      let none : drop i ops ≡ [] = drop_all i ops le in
      let drafted : AreDrafts refs (shortest_sizes refs os) bytes ops p.drafts = record {
        renamed = sym (append-nil (all_ops bytes p.drafts)) ∙ ap (λ (z : List Op). all_ops bytes p.drafts ++ with_refs (drop r refs) (all_meant bytes z)) (sym none) ∙ p.made;
        slots = sym (append-nil (all_slots p.drafts)) ∙ ap (λ (z : List Op). all_slots p.drafts ++ needed_slots (all_meant bytes z) (with_refs (drop r refs) (all_meant bytes z))) (sym none) ∙ p.slots ∙ sym (slots_needed os (with_refs refs os) (refs_count refs os));
      } in (
        p.own,
        record {
          drafts = p.drafts;
          firsts = nones;
          aims = p.drafts;
          drafted = drafted;
          nested = simple_firsts;
          aimed = simple_aimed p.drafts drafted (starts_from 0 (sizes_in bytes p.drafts)) nones;
          spelled = p.spelled;
        },
        p.items,
      )

  pub simple_written : (old new : List ℕ) (i r : ℕ) → IsExpression Narrow (all_meant bytes ops) bytes → AreSmall refs → shortest_length refs (all_meant bytes ops) < 2 ^ 63 → length ops ≤ i → ArePut refs bytes ops old new i r → Adds (IsWrittenShortest refs bytes ops) old new
  simple_written old new i r was small fits le p =
      let (own, put, e) = all_put old new i r le p in
      let sizes = shortest_sizes refs (all_meant bytes ops) in
      (own, shortest_made refs bytes ops was small fits own (written refs sizes bytes ops own (shortest_written refs bytes ops was small fits) put), e)
