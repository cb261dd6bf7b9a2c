-- Units, line number programs and contributions to a section of lists stand one after the other.
use Rattle.std.proofs.Common.{◌≡◌, ◌≤◌, ◌<◌, ◌+◌, ◌-◌, ℕ, List, [], ◌∷◌, ap, subst, arith}
use Rattle.fixed_width.specs.InitialLengths.{unit_end as line_end}
use Rattle.line_write.specs.Programs.{Follow as ProgramsFollow}
use Rattle.entry_read.specs.Heads.{Follow as UnitsFollow}
use Rattle.entry_read.proofs.Chained.{Chained}
use Rattle.entry_read.proofs.Tiling.{head_len}
use Rattle.list_model.specs.declared.contribution.Contribution.{Contribution}
use Rattle.list_model.specs.declared.entry.ListKind.{ListKind}
use Rattle.list_model.specs.Contributions.{part_end, ContributionsFollow, ContributionsTile}
use Rattle.list_model.proofs.Tiling.{part_inside}
use Rattle.value_links.specs.Reading.{ProgramRead, UnitRead, Linkable, line_heads, unit_heads, of_kind}
use Rattle.value_links.specs.Whole.{IsReadToLinks}

pub units_chained : (section : List ℕ) (units : List UnitRead) (a e : ℕ) → UnitsFollow section (unit_heads units) a e → Chained (λ (u : UnitRead). u.head.at) (λ (u : UnitRead). u.head.len) units a e
units_chained section [] a e f = f
units_chained section (u ∷ units) a e (here, stands, rest) = (here, (head_len section u.head stands).1, units_chained section units (a + u.head.len) e rest)

pub programs_chained : (section : List ℕ) (programs : List ProgramRead) (a e : ℕ) → ProgramsFollow section (line_heads programs) a e → Chained (λ (p : ProgramRead). p.head.at) (λ (p : ProgramRead). p.head.len) programs a e
programs_chained section [] a e f = f
programs_chained section (p ∷ programs) a e (here, stands, rest) =
    let len : p.head.len ≡ line_end section p.head.at - p.head.at = ap (λ z. z.len) stands.fields in
    let some : 0 < p.head.len = omega arith in
    (here, some, programs_chained section programs (a + p.head.len) e rest)

pub parts_chained : (section : List ℕ) (parts : List Contribution) (a e : ℕ) → ContributionsFollow section parts a e → Chained (λ (p : Contribution). p.at) (λ (p : Contribution). p.len) parts a e
parts_chained section [] a e f = f
parts_chained section (p ∷ parts) a e (here, stands, rest) =
    let inside : p.at + 12 ≤ part_end p = (part_inside section p stands).0 in
    let some : 0 < p.len = omega arith in
    (here, some, subst (λ (z : ℕ). Chained (λ (p : Contribution). p.at) (λ (p : Contribution). p.len) parts (z + p.len) e) here (parts_chained section parts (part_end p) e rest))

-- the contributions of a kind are all of their section
pub tiled_of : (file : List ℕ) (r : Linkable) → IsReadToLinks file r → (kind : ListKind) → ContributionsTile (of_kind r kind).section (of_kind r kind).parts
tiled_of file r read kind = (read.lists kind).tiled
