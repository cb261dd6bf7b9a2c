use Rattle.std.proofs.Common.{◌≡◌, ◌≤◌, ℕ, ◌∙◌, reverse, length, sym, refl, subst, arith, true, false, rules}
use Rattle.std.proofs.lemmas.List.{length-reverse}
use Rattle.leb_codec.specs.Leb.{Uleb}
use Rattle.entry_arena.specs.Trees.{SpellsBetween, declared_at}
use Rattle.entry_read.specs.Units.{declarations_of, end_of, entries_at, IsWithin}
use Rattle.entry_read.specs.Faults.{FaultUnit}
use Rattle.dw_base.specs.Refusals.{IsFaultOf, IsRefusedFor}
use Rattle.entry_read.specs.inside.Readings.{FaultOfColumns}
use Rattle.entry_read.proofs.Tiling.{unit_inside}
use Rattle.entry_read.proofs.Declarations.{found_code, no_code, child_same}
use Rattle.entry_read.proofs.Walking.{opens, front_entry}
use Rattle.entry_read.proofs.Refusing.{refused, refused_for, missing_fault, entry_fault, limit_fault}
use Rattle.entry_read.proofs.entries.add_entry.Goals as goal

pub returns-in_default-clause-fault : goal.returns-in_default-clause-fault
returns-in_default-clause-fault c =
    let scope = c.args.scope.now in
    let table = c.args.table.now in
    refused (FaultUnit c.args.info.now scope.head (declarations_of table) scope.before) scope.origin c.args.at _ c.refused.result c.refused.ensures
    (missing_fault c.args.info.now scope.head (declarations_of table) scope.before c.args.forest.now (reverse c.args.chains.now.items) c.args.at c.requires.front c.args.code.value c.args.code.end c.requires.going c.requires.coded c.requires.within.1 c.requires.not_end
    (no_code table c.args.code.value c.in_default.ensures))

pub read_entry-requires : goal.read_entry-requires
read_entry-requires c =
    let table = c.args.table.now in
    let front = c.requires.front in
    let found = found_code table c.args.code.value c.in-Some.number c.in-Some.ensures.0 c.in-Some.ensures.1 in
    let end : c.end.result ≡ end_of c.args.scope.now.head = c.end.ensures in
    let inside : end_of c.args.scope.now.head ≤ length c.args.info.now = unit_inside c.args.info.now c.args.scope.now.head c.requires.head in
    let within : c.args.code.end ≤ end_of c.args.scope.now.head = c.requires.within.1 in
    let deep : length (reverse c.args.chains.now.items) ≡ c.len.result = length-reverse c.args.chains.now.items ∙ sym (c.len.ensures ∙ c.args.chains.now.ok.0) in
    record {
      table = c.requires.table;
      number = found.0;
      inside = omega arith;
      room = c.requires.room;
      within = omega arith;
      coded = subst (λ (z : ℕ). SpellsBetween (Uleb z) c.args.info.now c.args.at c.args.code.end) (sym found.1) c.requires.coded;
      some = c.requires.within.0;
      walked = (reverse c.args.chains.now.items, deep, record { section = front.section; start = entries_at c.args.scope.now.head; items = front.front.items; walked = front.front.walked });
    }

pub returns-in_err-to-clause-fault : goal.returns-in_err-to-clause-fault
returns-in_err-to-clause-fault c =
    let scope = c.args.scope.now in
    let table = c.args.table.now in
    let ds = declarations_of table in
    let number = c.in-Some.number in
    let found = found_code table c.args.code.value number c.in-Some.ensures.0 c.in-Some.ensures.1 in
    let coded = subst (λ (z : ℕ). SpellsBetween (Uleb z) c.args.info.now c.args.at c.args.code.end) (sym found.1) c.requires.coded in
    let fault = subst (λ (z : ℕ). IsRefusedFor (IsFaultOf (FaultOfColumns c.args.info.now z ((declared_at ds number).columns) c.args.code.end) scope.origin) c.in_err-to.field-0.0) c.end.ensures c.in_err-to.ensures.fault in
    let refused = refused_for (FaultOfColumns c.args.info.now (end_of scope.head) ((declared_at ds number).columns) c.args.code.end) (FaultUnit c.args.info.now scope.head ds scope.before) scope.origin
    (entry_fault c.args.info.now scope.head ds scope.before c.args.forest.now (reverse c.args.chains.now.items) c.args.at c.requires.front number c.args.code.end c.requires.going found.0 coded) c.in_err-to.field-0.0 fault in
    search (rules, refused)

pub returns-then-not-is_within-clause-fault : goal.returns-then-not-is_within-clause-fault
returns-then-not-is_within-clause-fault c =
    let scope = c.args.scope.now in
    let ds = declarations_of c.args.table.now in
    let new = c.read_entry.new.forest in
    let deep : length (reverse c.args.chains.now.items) ≡ c.len.result = length-reverse c.args.chains.now.items ∙ sym (c.len.ensures ∙ c.args.chains.now.ok.0) in
    let end : c.end.result ≡ end_of scope.head = c.end.ensures in
    let inside : c.in_ok-to.to ≤ c.end.result = c.in_ok-to.ensures.within.1 in
    let past : ¬ IsWithin scope.before (length new.entries) (length new.values) =
    λ (w : IsWithin scope.before (length new.entries) (length new.values)). let no : false ≡ true = c.if-not-is_within.ensures.1 (subst (λ (z : ℕ). IsWithin scope.before z c.value_count.result) (sym c.len-2.ensures) (subst (λ (z : ℕ). IsWithin scope.before (length new.entries) z) (sym c.value_count.ensures) w)) in cc in
    refused (FaultUnit c.args.info.now scope.head ds scope.before) scope.origin c.args.at _ c.refused-then-not-is_within.result c.refused-then-not-is_within.ensures
    (limit_fault c.args.info.now scope.head ds scope.before c.args.forest.now (reverse c.args.chains.now.items) c.args.at c.requires.front c.len.result c.in-Some.number c.in_ok-to.to new c.requires.going deep c.in_ok-to.ensures.read (omega arith) past)

pub returns-clause-front : goal.returns-clause-front
returns-clause-front c =
    let scope = c.args.scope.now in
    let table = c.args.table.now in
    let ds = declarations_of table in
    let new = c.read_entry.new.forest in
    let deep : length (reverse c.args.chains.now.items) ≡ c.len.result = length-reverse c.args.chains.now.items ∙ sym (c.len.ensures ∙ c.args.chains.now.ok.0) in
    let end : c.end.result ≡ end_of scope.head = c.end.ensures in
    let inside : c.in_ok-to.to ≤ c.end.result = c.in_ok-to.ensures.within.1 in
    let within : IsWithin scope.before (length new.entries) (length new.values) = subst (λ (z : ℕ). IsWithin scope.before (length new.entries) z) c.value_count.ensures (subst (λ (z : ℕ). IsWithin scope.before z c.value_count.result) c.len-2.ensures (c.if-not-is_within.ensures.0 refl)) in
    let left = opens ds c.in-Some.number c.len-id.result (length c.args.forest.now.entries) c.decl.result.children c.args.chains.now.items c.open_chain.new.chains.items c.in_ok-open_chain.ensures (child_same table c.in-Some.number c.decl.result c.in-Some.ensures.0 c.decl.ensures) c.len-id.ensures in
    front_entry c.args.info.now scope.head ds scope.before c.args.forest.now new (reverse c.args.chains.now.items) (reverse c.open_chain.new.chains.items) c.len.result c.in-Some.number c.args.at c.in_ok-to.to c.requires.front c.requires.going deep (omega arith) c.in_ok-to.ensures.section c.in_ok-to.ensures.read within left
