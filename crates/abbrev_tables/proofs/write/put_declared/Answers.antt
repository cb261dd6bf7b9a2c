use Rattle.std.proofs.Common.{rules, ◌≡◌, ℕ, subst}
use Rattle.std.specs.Prelude.{if◌then◌else◌}
use Rattle.spelled.specs.Spelled.{Appends}
use Rattle.leb_codec.specs.Leb.{ShortestUnsigned}
use Rattle.abbrev_tables.proofs.Puts.{declared_put, children_put}
use Rattle.abbrev_tables.proofs.write.put_declared.Goals as goal

pub returns : goal.returns
returns c =
    let number : c.from.result ≡ c.args.number = search rules in
    let flag : c.from-2.result ≡ (if c.args.decl.children then 1 else 0) = search rules in
    declared_put c.args.number c.args.decl c.args.columns.now c.args.out.now.items c.put_u.new.out.items c.put_u-2.new.out.items c.push.new.self.items c.put_columns.new.out.items
    (subst (λ (n : ℕ). Appends ShortestUnsigned n c.args.out.now.items c.put_u.new.out.items) number c.in_ok-put_u.ensures.ok)
    c.in_ok-put_u-2.ensures.ok
    (children_put c.args.decl.children c.from-2.result c.put_u-2.new.out.items c.push.new.self.items flag c.in_ok-push.ensures.items)
    c.in_ok-put_columns.ensures
