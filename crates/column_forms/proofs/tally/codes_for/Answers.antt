use Rattle.std.proofs.Common.{inl, inr}
use Rattle.column_forms.proofs.ClassCodes.{class_codes}
use Rattle.column_forms.proofs.tally.codes_for.Goals as goal

pub returns-in-Addr-clause-codes : goal.returns-in-Addr-clause-codes
returns-in-Addr-clause-codes c = class_codes c.in-Addr.is

pub returns-in-AddrIndex-clause-codes : goal.returns-in-AddrIndex-clause-codes
returns-in-AddrIndex-clause-codes c = class_codes c.in-AddrIndex.is

pub returns-in-Int-clause-codes : goal.returns-in-Int-clause-codes
returns-in-Int-clause-codes c = elim c.in-Int.is [
  | inl (v, is) ↦ class_codes is
  | inr (width, bits, is) ↦ class_codes is
]

pub returns-in-Wide16-clause-codes : goal.returns-in-Wide16-clause-codes
returns-in-Wide16-clause-codes c = class_codes c.in-Wide16.is

pub returns-in-Block-clause-codes : goal.returns-in-Block-clause-codes
returns-in-Block-clause-codes c = class_codes c.in-Block.is

pub returns-in-Expr-clause-codes : goal.returns-in-Expr-clause-codes
returns-in-Expr-clause-codes c = class_codes c.in-Expr.is

pub returns-in-Flag-clause-codes : goal.returns-in-Flag-clause-codes
returns-in-Flag-clause-codes c = class_codes c.in-Flag.is

pub returns-in-LocalRef-clause-codes : goal.returns-in-LocalRef-clause-codes
returns-in-LocalRef-clause-codes c = class_codes c.in-LocalRef.is

pub returns-in-SectionRef-clause-codes : goal.returns-in-SectionRef-clause-codes
returns-in-SectionRef-clause-codes c = class_codes c.in-SectionRef.is

pub returns-in-Signature-clause-codes : goal.returns-in-Signature-clause-codes
returns-in-Signature-clause-codes c = class_codes c.in-Signature.is

pub returns-in-SupRef-clause-codes : goal.returns-in-SupRef-clause-codes
returns-in-SupRef-clause-codes c = class_codes c.in-SupRef.is

pub returns-in-Text-clause-codes : goal.returns-in-Text-clause-codes
returns-in-Text-clause-codes c = class_codes c.in-Text.is

pub returns-in-StrOffset-clause-codes : goal.returns-in-StrOffset-clause-codes
returns-in-StrOffset-clause-codes c = class_codes c.in-StrOffset.is

pub returns-in-LineStrOffset-clause-codes : goal.returns-in-LineStrOffset-clause-codes
returns-in-LineStrOffset-clause-codes c = class_codes c.in-LineStrOffset.is

pub returns-in-SupStr-clause-codes : goal.returns-in-SupStr-clause-codes
returns-in-SupStr-clause-codes c = class_codes c.in-SupStr.is

pub returns-in-StrIndex-clause-codes : goal.returns-in-StrIndex-clause-codes
returns-in-StrIndex-clause-codes c = class_codes c.in-StrIndex.is

pub returns-in-Offset-clause-codes : goal.returns-in-Offset-clause-codes
returns-in-Offset-clause-codes c = class_codes c.in-Offset.is

pub returns-in-LocIndex-clause-codes : goal.returns-in-LocIndex-clause-codes
returns-in-LocIndex-clause-codes c = class_codes c.in-LocIndex.is

pub returns-in-RangeIndex-clause-codes : goal.returns-in-RangeIndex-clause-codes
returns-in-RangeIndex-clause-codes c = class_codes c.in-RangeIndex.is
