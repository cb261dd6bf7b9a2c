use Rattle.std.proofs.Common.{◌≡◌, ◌≤◌, ◌+◌, ◌*◌, ◌^◌, ℕ, map, take}
use Rattle.elf_sections.specs.Elf.{fixed_end_of}
use Rattle.tidy_places.specs.inside.Chains.{AreDue, numbers_of}
use Rattle.tidy_places.proofs.due.due_sections.Given as goal

abbrev pub invariant-loop-section : goal.invariant-loop-section
invariant-loop-section l = record {
  low : l.end ≤ 2 ^ 35 + l.section-index * 2 ^ 36;
  due : AreDue l.after (fixed_end_of l.before) l.sections.items l.end;
  numbers : numbers_of l.sections.items ≡ map (λ (place : ℕ × ℕ). place.1) (take l.section-index l.section-items);
}
