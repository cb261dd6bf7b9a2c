use Rattle.std.proofs.Common.{◌≡◌, ◌≤◌, ◌<◌, ℕ, length, [], sym, subst, refl, true, false, arith}
use Rattle.std.specs.Prelude.{slice_index}
use Rattle.entry_arena.specs.Arena.{Arena}
use Rattle.entry_arena.specs.Trees.{bytes_between, listed_to}
use Rattle.entry_read.specs.Units.{declarations_of, end_of, IsUnitHeld}
use Rattle.entry_read.specs.Faults.{FaultUnit}
use Rattle.entry_read.proofs.Declarations.{have_codes}
use Rattle.entry_read.proofs.Parts.{zeros_between, other_between}
use Rattle.entry_read.proofs.Refusing.{refused, padding_fault}
use Rattle.entry_read.proofs.Tiling.{unit_inside}
use Rattle.entry_read.proofs.Whole.{unit_held, unit_whole, kept}
use Rattle.entry_read.proofs.unit.read_unit.Goals as goal

pub returns-then-not-is_padding-clause-fault : goal.returns-then-not-is_padding-clause-fault
returns-then-not-is_padding-clause-fault c =
    let info = c.args.info.now in
    let head = c.args.head.now in
    let ds = declarations_of c.args.table.now in
    let at = c.in_ok-end.end in
    let inside : end_of head ≤ length info = unit_inside info head c.requires.head in
    let some = other_between info at c.end.result (let e : c.end.result ≡ end_of head = c.end.ensures in omega arith) (λ zeros. let no : false ≡ true = c.if-not-is_padding.ensures.1 zeros in cc) in
    let below : some.0 < c.end.result = some.2 in
    let end : c.end.result ≡ end_of head = c.end.ensures in
    refused (FaultUnit info head ds c.args.before) c.args.origin head.at _ c.refused.result c.refused.ensures
    (padding_fault info head ds c.args.before c.read_entries.new.forest [] at c.in_ok-end.ensures.front c.in_ok-end.ensures.some refl some.0 some.1 (omega arith) some.3)

pub returns-clause-unit : goal.returns-clause-unit
returns-clause-unit c =
    let info = c.args.info.now in
    let head = c.args.head.now in
    let ds = declarations_of c.args.table.now in
    let at = c.in_ok-end.end in
    let inside : end_of head ≤ length info = unit_inside info head c.requires.head in
    let zeros = subst (λ (z : ℕ). (k : ℕ) → k < length (bytes_between info at z) → slice_index (bytes_between info at z) k ≡ 0) c.end.ensures (c.if-not-is_padding.ensures.0 refl) in
    let held : IsUnitHeld info head ds c.read_entries.new.forest = (at, unit_held info head ds c.args.before c.read_entries.new.forest at c.in_ok-end.ensures.front c.in_ok-end.ensures.some (zeros_between info at (end_of head) inside zeros)) in
    subst (λ (f : Arena). IsUnitHeld info head ds f) (sym c.shrink_to_fit.ensures) held

pub returns-clause-whole : goal.returns-clause-whole
returns-clause-whole c =
    let info = c.args.info.now in
    let head = c.args.head.now in
    let ds = declarations_of c.args.table.now in
    let at = c.in_ok-end.end in
    let inside : end_of head ≤ length info = unit_inside info head c.requires.head in
    let zeros = subst (λ (z : ℕ). (k : ℕ) → k < length (bytes_between info at z) → slice_index (bytes_between info at z) k ≡ 0) c.end.ensures (c.if-not-is_padding.ensures.0 refl) in
    let unit = unit_held info head ds c.args.before c.read_entries.new.forest at c.in_ok-end.ensures.front c.in_ok-end.ensures.some (zeros_between info at (end_of head) inside zeros) in
    unit_whole info head ds c.args.before (listed_to c.read_entries.new.forest at) (have_codes c.args.table.now c.requires.table) unit (kept info head ds c.args.before c.read_entries.new.forest [] at c.in_ok-end.ensures.front c.in_ok-end.ensures.some)
