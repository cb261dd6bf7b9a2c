use Rattle.std.proofs.Common.{◌∙◌, ℕ, List, drop, subst, sym}
use Rattle.list_model.specs.Entries.{BeginsWithEnd, FaultEntry}
use Rattle.list_model.specs.Reading.{IsReadEntry}
use Rattle.tidy_lists.proofs.EntriesUpTo.{read_end, some_of, none_of}
use Rattle.tidy_lists.proofs.lengths.operands_end.Goals as goal

-- the entry that is read
read_some : (c : goal.In-Ok-Some) → IsReadEntry c.args.kind c.args.bytes.now c.args.raw.now.at c.in-Ok-Some.read
read_some c = some_of (BeginsWithEnd (drop c.args.raw.now.at c.args.bytes.now)) (IsReadEntry c.args.kind c.args.bytes.now c.args.raw.now.at) c.in-Ok-Some.field-0 c.in-Ok-Some.read c.in-Ok-Some.field-0-is c.in-Ok-Some.ensures.entry

-- no entry begins with the end of a list
no_end : (c : goal.In-Ok-None) → BeginsWithEnd (drop c.args.raw.now.at c.args.bytes.now)
no_end c = none_of (BeginsWithEnd (drop c.args.raw.now.at c.args.bytes.now)) (IsReadEntry c.args.kind c.args.bytes.now c.args.raw.now.at) c.in-Ok-None.field-0 c.in-Ok-None.field-0-is c.in-Ok-None.ensures.entry

pub unreachable-requires : goal.unreachable-requires
unreachable-requires c =
    let (end, (entry, first, rest, spelled, e, there)) = c.requires.entry in
    let (bytes, other, is, whole) = no_end c in
    c.entries_end.ensures.apart c.args.kind entry first bytes rest other spelled is (sym e ∙ whole)

pub unreachable-requires-in-Err : goal.unreachable-requires-in-Err
unreachable-requires-in-Err c =
    let (end, (entry, first, rest, spelled, e, there)) = c.requires.entry in
    let (place, here, fault) = c.in-Err.ensures.fault in
    c.entries_end.ensures.whole c.args.kind entry c.in-Err.field-0.kind place first rest spelled (subst (λ (bytes : List ℕ). FaultEntry c.args.kind c.in-Err.field-0.kind place bytes) e fault)

pub returns : goal.returns
returns c = λ end (entry, first, rest, spelled, e, there). read_end c.args.kind c.args.bytes.now c.args.raw.now.at c.in-Ok-Some.read entry first rest (c.entries_end.ensures.unique c.args.kind) (read_some c) spelled e ∙ sym there
