use Rattle.std.proofs.Common.{◌≡◌, ◌+◌, ◌-◌, ◌∙◌, length, arith, inl, inr}
use Rattle.std.proofs.lemmas.List.{length-take, length-drop}
use Rattle.elf_place.proofs.NumberLaws.{put-below, put-above, put-read}
use Rattle.elf_place.proofs.numbers.put_u64.Goals as goal

pub returns-clause-written : goal.returns-clause-written
returns-clause-written c =
    let at = c.args.at in
    let e : at + 8 - at ≡ 8 = omega arith in
    let size : length c.write_u64.new.buf ≡ 8 = c.write_u64.auto.buf ∙ (simp (length-take, length-drop) (omega arith)) in
    rw e (put-read at c.args.value c.args.file.now c.write_u64.new.buf c.requires size _ c.write_u64.ensures c.ranges.value.fits)

pub returns-clause-others : goal.returns-clause-others
returns-clause-others c =
    let at = c.args.at in
    let e : at + 8 - at ≡ 8 = omega arith in
    let size : length c.write_u64.new.buf ≡ 8 = c.write_u64.auto.buf ∙ (simp (length-take, length-drop) (omega arith)) in
    rw e (λ k where_. elim where_ [
      | inl low ↦ put-below at c.args.value c.args.file.now c.write_u64.new.buf c.requires size k low
      | inr high ↦ put-above at c.args.value c.args.file.now c.write_u64.new.buf c.requires size k high
    ])
