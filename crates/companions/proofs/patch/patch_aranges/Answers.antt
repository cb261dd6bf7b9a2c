use Rattle.std.proofs.Common.{◌≡◌, ◌<◌, ◌≤◌, ◌+◌, ◌⊎◌, ◌∙◌, ℕ, List, length, get_or, subst, arith, inl, inr}
use Rattle.std.specs.Prelude.{slice_index}
use Rattle.std.proofs.lemmas.List.{take_all, get_or_default}
use Rattle.companions.specs.declared.set.ArangeSet.{ArangeSet}
use Rattle.fixed_width.specs.Numbers.{number_at}
use Rattle.companions.specs.Aranges.{SetsFollow}
use Rattle.companions.proofs.Patching.{patched_next, follow_named}
use Rattle.companions.proofs.patch.patch_aranges.Goals as goal

pub loop-set-preserved : goal.loop-set-preserved
loop-set-preserved c =
    let starts = c.args.starts.now.items in
    let sets = c.args.sets.now.items in
    let section = c.loop-set.section in
    let new = c.put_u32.new.bytes in
    let i = c.loop-set.set-index in
    let none : ArangeSet = record { at = 0; unit = 0 } in
    let set : ArangeSet = get_or sets i none in
    let start = c.index-start.result.now in
    let same = c.deref-set-items.ensures.value in
    let lt : i < length sets = subst (λ (z : List ArangeSet). i < length z) same c.loop-set-test.true in
    let known : set.unit < length starts = c.requires.units i none lt in
    let value : start ≡ slice_index starts set.unit =
    subst (λ (z : List ArangeSet). start ≡ get_or starts (get_or z i none).unit start) same c.index-start.ensures ∙ get_or_default starts set.unit start 0 known in
    let written : number_at 4 (set.at + 6) new ≡ start = subst (λ (z : List ArangeSet). number_at 4 ((get_or z i none).at + 6) new ≡ start) same c.put_u32.ensures.written in
    let others : (k : ℕ) → (k < set.at + 6) ⊎ (set.at + 6 + 4 ≤ k) → slice_index new k ≡ slice_index section k =
    subst (λ (z : List ArangeSet). (k : ℕ) → (k < (get_or z i none).at + 6) ⊎ ((get_or z i none).at + 6 + 4 ≤ k) → slice_index new k ≡ slice_index section k) same c.put_u32.ensures.others in
    let before = c.loop-set.invariant in
    record {
      patched = patched_next starts sets section i set before.patched lt (get_or_default sets i set none lt) start new value known written others c.put_u32.ensures.size;
      others = λ k far. others k (elim (far i none lt) [ inl low ↦ inl low | inr high ↦ inr (omega arith) ]) ∙ before.others k far;
      size = c.put_u32.ensures.size ∙ before.size;
    }

pub returns-clause-offsets : goal.returns-clause-offsets
returns-clause-offsets c =
    let starts = c.args.starts.now.items in
    let sets = c.args.sets.now.items in
    let section = c.loop-set.section in
    let left : length sets ≤ c.loop-set.set-index = subst (λ (z : List ArangeSet). length z ≤ c.loop-set.set-index) c.deref-set-items.ensures.value c.loop-set-test.false in
    let p = c.loop-set.invariant.patched in
    follow_named section starts sets 0 p.place (subst (λ (z : List ArangeSet). SetsFollow section starts z 0 p.place) (take_all c.loop-set.set-index sets left) p.done)
