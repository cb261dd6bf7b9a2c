use Rattle.std.proofs.Common.{◌≡◌, ◌≤◌, ◌+◌, List, length, get_or, take, sym, subst, arith}
use Rattle.std.specs.List.{All}
use Rattle.std.proofs.lemmas.List.{take_all}
use Rattle.list_model.proofs.WalkLaws.{one_saying}
use Rattle.list_least.specs.Shortest.{FitOperands}
use Rattle.list_model.specs.Entries.{Entry, AreSaid}
use Rattle.list_least.specs.declared.pick.Pick.{Pick}
use Rattle.list_model.specs.declared.entry.RawEntry.{RawEntry}
use Rattle.list_least.specs.Plans.{entries_bytes, ArePicks}
use Rattle.list_write.proofs.Entries.{no_entry, said_at, said_count, kept_more, kept_bytes}
use Rattle.list_write.proofs.kept.kept_plan.Goals as goal

pub entry_size-size-requires : goal.entry_size-size-requires
entry_size-size-requires c =
    let same = c.deref-raw-items.ensures.value in
    let i = c.loop-raw.raw-index in
    let said = subst (λ (z : List RawEntry). AreSaid c.args.kind z c.requires.said.0) (sym same) c.requires.said.1 in
    record { said = (get_or c.requires.said.0 i no_entry, said_at c.args.kind c.deref-raw-items.result.now c.requires.said.0 said i _ no_entry c.loop-raw-test.true) }

pub loop-raw-preserved : goal.loop-raw-preserved
loop-raw-preserved c =
    let same = c.deref-raw-items.ensures.value in
    let i = c.loop-raw.raw-index in
    let inside = c.loop-raw-test.true in
    record {
      picked = λ entries said fit.
          let here = subst (λ (z : List RawEntry). AreSaid c.args.kind z entries) (sym same) said in
          subst (λ (z : List Pick). ArePicks c.args.kind z (take (i + 1) entries)) (sym {A = List Pick} c.in_ok-push.ensures.items) (kept_more c.args.kind c.deref-raw-items.result.now entries _ i c.loop-raw.picks.items inside here fit (c.loop-raw.invariant.picked entries said fit));
      bytes = λ entries said.
          let here = subst (λ (z : List RawEntry). AreSaid c.args.kind z entries) (sym same) said in
          kept_bytes c.args.kind c.deref-raw-items.result.now entries i c.loop-raw.size c.entry_size-size.result inside here (c.loop-raw.invariant.bytes entries said) (c.entry_size-size.ensures.is (get_or entries i no_entry) (said_at c.args.kind c.deref-raw-items.result.now entries here i _ no_entry inside));
      few = omega (arith, c.loop-raw.invariant.few, c.entry_size-size.ensures.few);
    }

pub returns-clause-picked : goal.returns-clause-picked
returns-clause-picked c = λ (entries : List Entry) (said : AreSaid c.args.kind c.args.raws.now.items entries).
    let same = one_saying c.args.kind c.args.raws.now.items c.requires.said.0 entries c.requires.said.1 said in
    let fit = subst (All (λ (entry : Entry). FitOperands entry.kind entry.a entry.b)) same c.requires.said.2 in
    let count = said_count c.args.kind c.args.raws.now.items entries said in
    let past : length c.args.raws.now.items ≤ c.loop-raw.raw-index = subst (λ (z : List RawEntry). length z ≤ c.loop-raw.raw-index) c.deref-raw-items.ensures.value c.loop-raw-test.false in
    subst (ArePicks c.args.kind c.loop-raw.picks.items) (take_all c.loop-raw.raw-index entries (omega (arith, past, count))) (c.loop-raw.invariant.picked entries said fit)

pub returns-clause-bytes : goal.returns-clause-bytes
returns-clause-bytes c = λ (entries : List Entry) (said : AreSaid c.args.kind c.args.raws.now.items entries).
    let count = said_count c.args.kind c.args.raws.now.items entries said in
    let past : length c.args.raws.now.items ≤ c.loop-raw.raw-index = subst (λ (z : List RawEntry). length z ≤ c.loop-raw.raw-index) c.deref-raw-items.ensures.value c.loop-raw-test.false in
    subst (λ (z : List Entry). c.loop-raw.size ≡ entries_bytes z + 1) (take_all c.loop-raw.raw-index entries (omega (arith, past, count))) (c.loop-raw.invariant.bytes entries said)
