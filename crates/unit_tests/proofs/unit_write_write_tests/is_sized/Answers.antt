use Rattle.std.proofs.Common.{rules, ◌≡◌, ◌≢◌, ℕ, length, sym, subst}
use Rattle.form_codec.specs.declared.value.Value.{Value}
use Rattle.form_codec.specs.Forms.Meaning.{InUnit, InSection, SectionPlace}
use Rattle.form_codec.specs.Values.{bytes_in, meant_in}
use Rattle.form_codec.proofs.FormLaws.{any_constant}
use Rattle.unit_write.specs.Values.{HasSize}
use Rattle.unit_write.proofs.ValueLaws.{numbers_have_sizes, expressions_have_sizes, shortest_have_sizes, other_value}
use Rattle.unit_tests.proofs.WritableUnits.{none_expr}
use Rattle.unit_tests.proofs.unit_write_write_tests.is_sized.Goals as goal

pub returns-in-Expr : goal.returns-in-Expr
returns-in-Expr c = λ is section len few i.
    let form : c.args.column.form ≡ 24 = search (rules, is) in
    subst (λ (v : Value). (size : ℕ) × HasSize c.args.column (meant_in section v) len size) (sym c.in-Expr.is) (expressions_have_sizes c.args.column (bytes_in section c.in-Expr.field-0) len form)

pub returns-in-LocalRef : goal.returns-in-LocalRef
returns-in-LocalRef c = λ is section len few i.
    let form : c.args.column.form ≡ 21 = search (rules, is) in
    subst (λ (v : Value). (size : ℕ) × HasSize c.args.column (meant_in section v) len size) (sym c.in-LocalRef.is) (numbers_have_sizes c.args.column (InUnit c.in-LocalRef.field-0) len form)

pub returns-in-SectionRef : goal.returns-in-SectionRef
returns-in-SectionRef c = λ is section len few i.
    let form : c.args.column.form ≡ 16 = search (rules, is) in
    subst (λ (v : Value). (size : ℕ) × HasSize c.args.column (meant_in section v) len size) (sym c.in-SectionRef.is) (numbers_have_sizes c.args.column (InSection c.in-SectionRef.field-0) len form)

pub returns-in-Offset : goal.returns-in-Offset
returns-in-Offset c = λ is section len few i.
    let form : c.args.column.form ≡ 23 = search (rules, is) in
    subst (λ (v : Value). (size : ℕ) × HasSize c.args.column (meant_in section v) len size) (sym c.in-Offset.is) (numbers_have_sizes c.args.column (SectionPlace c.in-Offset.field-0) len form)

pub returns-then-column-ne33 : goal.returns-then-column-ne33
returns-then-column-ne33 c = λ is section len few i.
    let meaning = meant_in section c.args.value.now in
    let kept = other_value section c.args.value.now c.in_default.not-Expr c.in_default.not-LocalRef c.in_default.not-SectionRef c.in_default.not-Offset in
    let a = (c.admits.ensures section i).0 is in
    let other : c.args.column.form ≢ 33 = c.if-column-ne33.true in
    let s = any_constant c.args.column.name c.args.column.form a.constant c.args.column.constant meaning a.bytes other a.spelled in
    let w = c.spelled_size-size.ensures section few i a in
    (length w.0, shortest_have_sizes c.args.column meaning len w.0 a.bytes kept.0 (none_expr meaning kept.1) s w.1)
