use Rattle.std.proofs.Common.{rules, ◌≡◌, ◌≢◌, ◌≤◌, ◌<◌, ◌-◌, length, arith}
use Rattle.std.specs.Ordering.{nat_cmp}
use Rattle.std.specs.BTreeMap.{get}
use Rattle.abbrev_tables.specs.Listings.{decl_at}
use Rattle.abbrev_tables.proofs.Indexes.{found}
use Rattle.abbrev_tables.proofs.table.find.Goals.{else-code-gt0-via-then-code-gt0+then-code-decls+else-decls-code, else-code-gt0-via-then-code-gt0+else-code-decls, else-code-gt0-via-else-code-gt0}
use Rattle.abbrev_tables.proofs.table.find.Goals as goal

pub returns : goal.returns
returns c =
    let test : 0 < c.args.code → c.args.code ≤ length c.args.decls.now → (decl_at c.args.decls.now (c.args.code - 1)).code ≢ c.args.code =
    λ some few e.
    elim c.else-code-gt0.branch [
      | else-code-gt0-via-then-code-gt0+then-code-decls+else-decls-code w ↦ w.if-decls-code.false e
      | else-code-gt0-via-then-code-gt0+else-code-decls w ↦ absurd (omega (arith, w.if-code-decls.false, few))
      | else-code-gt0-via-else-code-gt0 w ↦ absurd (omega (arith, w.if-code-gt0.false, some))
    ] in
    let e : c.copied.result ≡ get nat_cmp c.args.others.now c.args.code = search rules in
    found c.args.decls.now c.args.others.now c.args.code c.requires.index test c.copied.result e
