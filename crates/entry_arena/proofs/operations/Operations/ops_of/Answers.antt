use Rattle.std.proofs.Common.{◌≡◌, ◌≢◌, ◌<◌, ℕ, List, length, ◌∙◌, sym, ap, subst}
use Rattle.entry_arena.specs.declared.operations.Run.{Run}
use Rattle.entry_arena.specs.Operations.{HeldOps, AreRuns, run_at}
use Rattle.entry_arena.proofs.OperationLaws.{range_none, begins_before, found_range, found_inside, run_read}
use Rattle.entry_arena.proofs.operations.Operations.ops_of.Goals as goal

pub returns-in_default-clause-range : goal.returns-in_default-clause-range
returns-in_default-clause-range c =
    let h = c.args.self.now in
    let runs : c.deref.result.now ≡ h.runs = c.deref.ensures.value ∙ ap (λ (z : HeldOps). z.runs) c.self.view_is in
    sym (range_none (length h.ops) c.args.value h.runs (subst (λ (z : List Run). (i : ℕ) → i < length z → (run_at z i).value ≢ c.args.value) runs c.in_default.ensures))

pub overflow_sub-result : goal.overflow_sub-result
overflow_sub-result c =
    let h = c.args.self.now in
    let are : AreRuns h = subst AreRuns c.self.view_is c.self.invariant in
    let runs : c.deref.result.now ≡ h.runs = c.deref.ensures.value ∙ ap (λ (z : HeldOps). z.runs) c.self.view_is in
    let there = rw runs at c.in-Some.ensures in
    let begins = run_read h.runs c.self.inside.runs.items c.in-Some.number c.index.result.now (ap (λ (z : HeldOps). z.runs) c.self.view_is) there.0 c.index.ensures in
    begins_before h are c.args.value c.in-Some.number c.index.result.now.first c.end_of.result there.0 there.1 begins c.end_of.ensures

pub returns-clause-range : goal.returns-clause-range
returns-clause-range c =
    let h = c.args.self.now in
    let are : AreRuns h = subst AreRuns c.self.view_is c.self.invariant in
    let runs : c.deref.result.now ≡ h.runs = c.deref.ensures.value ∙ ap (λ (z : HeldOps). z.runs) c.self.view_is in
    let there = rw runs at c.in-Some.ensures in
    let begins = run_read h.runs c.self.inside.runs.items c.in-Some.number c.index.result.now (ap (λ (z : HeldOps). z.runs) c.self.view_is) there.0 c.index.ensures in
    found_range h are c.args.value c.in-Some.number c.index.result.now.first c.end_of.result there.0 there.1 begins c.end_of.ensures

pub returns-clause-inside : goal.returns-clause-inside
returns-clause-inside c =
    let h = c.args.self.now in
    let are : AreRuns h = subst AreRuns c.self.view_is c.self.invariant in
    let runs : c.deref.result.now ≡ h.runs = c.deref.ensures.value ∙ ap (λ (z : HeldOps). z.runs) c.self.view_is in
    let there = rw runs at c.in-Some.ensures in
    let begins = run_read h.runs c.self.inside.runs.items c.in-Some.number c.index.result.now (ap (λ (z : HeldOps). z.runs) c.self.view_is) there.0 c.index.ensures in
    found_inside h are c.args.value c.in-Some.number c.index.result.now.first c.end_of.result there.0 there.1 begins c.end_of.ensures
