-- What is within the narrow limits is within the wide ones.
use Rattle.std.proofs.Common.{◌≡◌, ◌≤◌, ℕ, List, Bool, true, false, ◌&&◌, nat_lt, arith, refl}
use Rattle.std.proofs.lemmas.Bool.Decides.{nat_tests}
use Rattle.dw_base.specs.declared.fault.Reach.{Reach}
use Rattle.dw_base.specs.declared.fault.Reach.TheVariants.{Narrow, Wide}
use Rattle.elf_sections.specs.Elf.{body_span}
use Rattle.elf_sections.specs.Names.{name_of, is_debug_name}
use Rattle.elf_sections.specs.Faults.{debug_limit, is_too_long, IsHeaderSmall, IsSectionSound, IsSound, IsRead}

more : (b : Bool) (m n len : ℕ) → m ≤ n → (b && nat_lt m len) ≡ false → (b && nat_lt n len) ≡ false
more true m n len h e = grind (arith, nat_tests)
more false m n len h e = refl

short-wide : (file : List ℕ) (i : ℕ) → is_too_long file Narrow i ≡ false → is_too_long file Wide i ≡ false
short-wide file i h = more (is_debug_name (name_of file i)) (debug_limit Narrow) (debug_limit Wide) (body_span file i).len (omega arith) h

small-wide : (file : List ℕ) → IsHeaderSmall file Narrow → IsHeaderSmall file Wide
small-wide file h = record {
  bytes = let b = h.bytes in omega arith;
  sections = h.sections;
  segments = h.segments;
  names = h.names;
  none = h.none;
}

section-wide : (file : List ℕ) (i : ℕ) → IsSectionSound file Narrow i → IsSectionSound file Wide i
section-wide file i h = record {
  apart = h.apart;
  plain = h.plain;
  resolved = h.resolved;
  placed = h.placed;
  short = short-wide file i h.short;
  aligned = h.aligned;
}

sound-wide : (file : List ℕ) → IsSound file Narrow → IsSound file Wide
sound-wide file h = record {
  apart = h.apart;
  sections = λ i below. section-wide file i (h.sections i below);
  known = h.known;
  distinct = h.distinct;
  movable = let b = h.movable in omega arith;
}

pub read-wide : (file : List ℕ) (reach : Reach) → IsRead file reach → IsRead file Wide
read-wide file Wide h = h
read-wide file Narrow h = record {
  elf = h.elf;
  linked = h.linked;
  small = small-wide file h.small;
  whole = h.whole;
  sound = sound-wide file h.sound;
}
