use Rattle.std.proofs.Common.{◌≡◌, ◌<◌, ◌^◌, ◌++◌, ℕ, List, length, refl, sym, subst, arith}
use Rattle.std.proofs.lemmas.Result.{on_ok_weaker}
use Rattle.spelled.specs.Spelled.{Appends}
use Rattle.leb_codec.specs.Leb.{ShortestUnsigned}
use Rattle.form_codec.specs.declared.form.Width.TheVariants.{Four}
use Rattle.form_codec.specs.declared.value.Value.{Value}
use Rattle.form_codec.specs.Forms.{SpellsShortest}
use Rattle.form_codec.specs.Forms.Meaning.{Expression, InSection, SectionPlace}
use Rattle.form_codec.specs.Values.{bytes_in, meant_in}
use Rattle.form_codec.specs.Written.{low_bytes}
use Rattle.entry_read.specs.Short.{IsWritten}
use Rattle.unit_write.specs.inside.Puts.{PutsCounted}
use Rattle.unit_write.specs.Values.{renewed, HasSize}
use Rattle.unit_write.proofs.ValueLaws.{admits_kept, written_kept, written_made, written_local, written_moved, other_value}
use Rattle.unit_write.proofs.values.put_value.Goals as goal

pub write_value-requires-clause-admitted : goal.write_value-requires-clause-admitted
write_value-requires-clause-admitted c =
    let section : List ℕ = c.args.section.now in
    let sized = c.requires.sized in
    let other = other_value section c.args.value.now c.in_default.not-Expr c.in_default.not-LocalRef c.in_default.not-SectionRef c.in_default.not-Offset in
    admits_kept c.args.column (meant_in section c.args.value.now) sized.0 sized.1 other.0 other.1 sized.2

pub returns-in-Expr-clause-ok : goal.returns-in-Expr-clause-ok
returns-in-Expr-clause-ok c =
    let section : List ℕ = c.args.section.now in
    let made : List ℕ = c.args.made.now in
    let sized = c.requires.sized in
    let own = subst (λ (v : Value). HasSize c.args.column (meant_in section v) sized.0 sized.1) c.in-Expr.is sized.2 in
    let few : length made < 2 ^ 63 = c.bytes_are_small.ensures.few in
    on_ok_weaker c.put_counted.result (λ (a : Appends PutsCounted made c.args.out.now.items c.put_counted.new.out.items).
    let head = a.1 in
    let written = written_made c.args.column (Expression (bytes_in section c.in-Expr.field-0)) sized.0 sized.1 c.args.number made head.0 refl own c.bytes_are_small.ensures.small (omega arith) head.1 in
    let whole = subst (λ (z : List ℕ). IsWritten c.args.column (Expression made) z) (sym head.2) written in
    (a.0, subst (λ (v : Value). IsWritten c.args.column (renewed c.args.number made (meant_in section v)) a.0) (sym c.in-Expr.is) whole, a.2)) c.put_counted.ensures.ok

pub returns-in-LocalRef-clause-ok : goal.returns-in-LocalRef-clause-ok
returns-in-LocalRef-clause-ok c =
    let section : List ℕ = c.args.section.now in
    let sized = c.requires.sized in
    let own = subst (λ (v : Value). HasSize c.args.column (meant_in section v) sized.0 sized.1) c.in-LocalRef.is sized.2 in
    let few : c.args.number < 2 ^ 32 = c.requires.narrow in
    on_ok_weaker c.put_u.result (λ (a : Appends ShortestUnsigned c.args.number c.args.out.now.items c.put_u.new.out.items).
    let written = written_local c.args.column c.args.number a.0 own.0 (omega arith) a.1 in
    (a.0, subst (λ (v : Value). IsWritten c.args.column (renewed c.args.number c.args.made.now (meant_in section v)) a.0) (sym c.in-LocalRef.is) written, a.2)) c.put_u.ensures.ok

pub returns-in-SectionRef-clause-ok : goal.returns-in-SectionRef-clause-ok
returns-in-SectionRef-clause-ok c =
    let section : List ℕ = c.args.section.now in
    let made : List ℕ = c.args.made.now in
    let number : ℕ = c.args.number in
    let sized = c.requires.sized in
    let own = subst (λ (v : Value). HasSize c.args.column (meant_in section v) sized.0 sized.1) c.in-SectionRef.is sized.2 in
    let written = written_moved c.args.column (InSection c.in-SectionRef.field-0) sized.0 sized.1 number made refl refl own c.requires.narrow in
    on_ok_weaker c.put_low.result (λ (a : c.put_low.new.out.items ≡ c.args.out.now.items ++ low_bytes Four number). (low_bytes Four number, subst (λ (v : Value). IsWritten c.args.column (renewed number made (meant_in section v)) (low_bytes Four number)) (sym c.in-SectionRef.is) written, a)) c.put_low.ensures.ok

pub returns-in-Offset-clause-ok : goal.returns-in-Offset-clause-ok
returns-in-Offset-clause-ok c =
    let section : List ℕ = c.args.section.now in
    let made : List ℕ = c.args.made.now in
    let number : ℕ = c.args.number in
    let sized = c.requires.sized in
    let own = subst (λ (v : Value). HasSize c.args.column (meant_in section v) sized.0 sized.1) c.in-Offset.is sized.2 in
    let written = written_moved c.args.column (SectionPlace c.in-Offset.field-0) sized.0 sized.1 number made refl refl own c.requires.narrow in
    on_ok_weaker c.put_low-in-Offset.result (λ (a : c.put_low-in-Offset.new.out.items ≡ c.args.out.now.items ++ low_bytes Four number). (low_bytes Four number, subst (λ (v : Value). IsWritten c.args.column (renewed number made (meant_in section v)) (low_bytes Four number)) (sym c.in-Offset.is) written, a)) c.put_low-in-Offset.ensures.ok

pub returns-in_default-clause-ok : goal.returns-in_default-clause-ok
returns-in_default-clause-ok c =
    let section : List ℕ = c.args.section.now in
    let meaning = meant_in section c.args.value.now in
    let sized = c.requires.sized in
    let other = other_value section c.args.value.now c.in_default.not-Expr c.in_default.not-LocalRef c.in_default.not-SectionRef c.in_default.not-Offset in
    on_ok_weaker c.write_value.result (λ (a : Appends (SpellsShortest c.args.column.name c.args.column.form) meaning c.args.out.now.items c.write_value.new.out.items). (a.0, written_kept c.args.column meaning sized.0 sized.1 c.args.number c.args.made.now a.0 other.0 other.1 sized.2 a.1, a.2)) c.write_value.ensures.ok
