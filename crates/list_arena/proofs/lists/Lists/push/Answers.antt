use Rattle.std.proofs.Common.{◌≡◌, ◌∙◌, ℕ, length, take, ap, arith}
use Rattle.list_arena.proofs.ListLaws.{grown_held, grown_well}
use Rattle.list_arena.proofs.lists.Lists.push.Goals as goal

pub invariant_of-self-in-Err : goal.invariant_of-self-in-Err
invariant_of-self-in-Err c =
    let entry_count : c.len-entries.result ≡ length c.self.inside.entries.items = omega arith in
    let item_count : c.len-items.result ≡ length c.self.inside.items.items = omega arith in
    let entries : c.truncate.new.self.items ≡ c.self.inside.entries.items = c.truncate.ensures.items ∙ ap (λ (n : ℕ). take n c.push_rows.new.entries.items) entry_count ∙ c.in-Err.ensures.entries in
    let items : c.truncate-in-Err.new.self.items ≡ c.self.inside.items.items = c.truncate-in-Err.ensures.items ∙ ap (λ (n : ℕ). take n c.push_rows.new.items.items) item_count ∙ c.in-Err.ensures.items in
    rw (c.in-Err.ensures.rows, entries, items) (grown_well c.self.inside.long c.push_rows.new.long c.in-Err.ensures.grown c.self.inside.rows.items c.self.inside.entries.items c.self.inside.items.items c.self.invariant)

pub returns-in-Err-clause-unchanged : goal.returns-in-Err-clause-unchanged
returns-in-Err-clause-unchanged c =
    let entry_count : c.len-entries.result ≡ length c.self.inside.entries.items = omega arith in
    let item_count : c.len-items.result ≡ length c.self.inside.items.items = omega arith in
    let entries : c.truncate.new.self.items ≡ c.self.inside.entries.items = c.truncate.ensures.items ∙ ap (λ (n : ℕ). take n c.push_rows.new.entries.items) entry_count ∙ c.in-Err.ensures.entries in
    let items : c.truncate-in-Err.new.self.items ≡ c.self.inside.items.items = c.truncate-in-Err.ensures.items ∙ ap (λ (n : ℕ). take n c.push_rows.new.items.items) item_count ∙ c.in-Err.ensures.items in
    rw (c.in-Err.ensures.rows, entries, items) (grown_held c.self.inside.long c.push_rows.new.long c.in-Err.ensures.grown c.self.inside.rows.items c.self.inside.entries.items c.self.inside.items.items c.self.invariant ∙ c.self.view_is)
