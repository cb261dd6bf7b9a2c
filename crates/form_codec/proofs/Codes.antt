-- No two forms have the same code.
use Rattle.std.proofs.Common.{◌≡◌, ◌≤◌, ℕ, ◌∙◌, sym, ap, refl, subst, arith}
use Rattle.std.specs.Prelude.{nat_eq, if◌then◌else◌}
use Rattle.form_codec.specs.declared.form.Form.{Form}
use Rattle.form_codec.specs.declared.form.Form.TheVariants.{Addr, Block2, Block4, Data2, Data4, Data8, String, Block, Block1, Data1, Flag, Sdata, Strp, Udata, RefAddr, Ref1, Ref2, Ref4, Ref8, RefUdata, SecOffset, Exprloc, FlagPresent, Strx, Addrx, RefSup4, StrpSup, Data16, LineStrp, RefSig8, ImplicitConst, Loclistx, Rnglistx, RefSup8, Strx1, Strx2, Strx3, Strx4, Addrx1, Addrx2, Addrx3, Addrx4}
use Rattle.form_codec.specs.Forms.{code_of, IsKnown}

abbrev form_at : ℕ → Form
form_at code =
    if nat_eq code 1 then Addr else
    if nat_eq code 3 then Block2 else
    if nat_eq code 4 then Block4 else
    if nat_eq code 5 then Data2 else
    if nat_eq code 6 then Data4 else
    if nat_eq code 7 then Data8 else
    if nat_eq code 8 then String else
    if nat_eq code 9 then Block else
    if nat_eq code 10 then Block1 else
    if nat_eq code 11 then Data1 else
    if nat_eq code 12 then Flag else
    if nat_eq code 13 then Sdata else
    if nat_eq code 14 then Strp else
    if nat_eq code 15 then Udata else
    if nat_eq code 16 then RefAddr else
    if nat_eq code 17 then Ref1 else
    if nat_eq code 18 then Ref2 else
    if nat_eq code 19 then Ref4 else
    if nat_eq code 20 then Ref8 else
    if nat_eq code 21 then RefUdata else
    if nat_eq code 23 then SecOffset else
    if nat_eq code 24 then Exprloc else
    if nat_eq code 25 then FlagPresent else
    if nat_eq code 26 then Strx else
    if nat_eq code 27 then Addrx else
    if nat_eq code 28 then RefSup4 else
    if nat_eq code 29 then StrpSup else
    if nat_eq code 30 then Data16 else
    if nat_eq code 31 then LineStrp else
    if nat_eq code 32 then RefSig8 else
    if nat_eq code 33 then ImplicitConst else
    if nat_eq code 34 then Loclistx else
    if nat_eq code 35 then Rnglistx else
    if nat_eq code 36 then RefSup8 else
    if nat_eq code 37 then Strx1 else
    if nat_eq code 38 then Strx2 else
    if nat_eq code 39 then Strx3 else
    if nat_eq code 40 then Strx4 else
    if nat_eq code 41 then Addrx1 else
    if nat_eq code 42 then Addrx2 else
    if nat_eq code 43 then Addrx3 else
    if nat_eq code 44 then Addrx4 else
    Addr

back : (form : Form) → form_at (code_of form) ≡ form
back Addr = refl
back Block2 = refl
back Block4 = refl
back Data2 = refl
back Data4 = refl
back Data8 = refl
back String = refl
back Block = refl
back Block1 = refl
back Data1 = refl
back Flag = refl
back Sdata = refl
back Strp = refl
back Udata = refl
back RefAddr = refl
back Ref1 = refl
back Ref2 = refl
back Ref4 = refl
back Ref8 = refl
back RefUdata = refl
back SecOffset = refl
back Exprloc = refl
back FlagPresent = refl
back Strx = refl
back Addrx = refl
back RefSup4 = refl
back StrpSup = refl
back Data16 = refl
back LineStrp = refl
back RefSig8 = refl
back ImplicitConst = refl
back Loclistx = refl
back Rnglistx = refl
back RefSup8 = refl
back Strx1 = refl
back Strx2 = refl
back Strx3 = refl
back Strx4 = refl
back Addrx1 = refl
back Addrx2 = refl
back Addrx3 = refl
back Addrx4 = refl

pub code_once : (f g : Form) → code_of f ≡ code_of g → f ≡ g
code_once f g e = sym (back f) ∙ ap form_at e ∙ back g

-- the codes are from 1 to 44
form_range : (form : Form) → (1 ≤ code_of form) × (code_of form ≤ 44)
form_range Addr = (omega arith, omega arith)
form_range Block2 = (omega arith, omega arith)
form_range Block4 = (omega arith, omega arith)
form_range Data2 = (omega arith, omega arith)
form_range Data4 = (omega arith, omega arith)
form_range Data8 = (omega arith, omega arith)
form_range String = (omega arith, omega arith)
form_range Block = (omega arith, omega arith)
form_range Block1 = (omega arith, omega arith)
form_range Data1 = (omega arith, omega arith)
form_range Flag = (omega arith, omega arith)
form_range Sdata = (omega arith, omega arith)
form_range Strp = (omega arith, omega arith)
form_range Udata = (omega arith, omega arith)
form_range RefAddr = (omega arith, omega arith)
form_range Ref1 = (omega arith, omega arith)
form_range Ref2 = (omega arith, omega arith)
form_range Ref4 = (omega arith, omega arith)
form_range Ref8 = (omega arith, omega arith)
form_range RefUdata = (omega arith, omega arith)
form_range SecOffset = (omega arith, omega arith)
form_range Exprloc = (omega arith, omega arith)
form_range FlagPresent = (omega arith, omega arith)
form_range Strx = (omega arith, omega arith)
form_range Addrx = (omega arith, omega arith)
form_range RefSup4 = (omega arith, omega arith)
form_range StrpSup = (omega arith, omega arith)
form_range Data16 = (omega arith, omega arith)
form_range LineStrp = (omega arith, omega arith)
form_range RefSig8 = (omega arith, omega arith)
form_range ImplicitConst = (omega arith, omega arith)
form_range Loclistx = (omega arith, omega arith)
form_range Rnglistx = (omega arith, omega arith)
form_range RefSup8 = (omega arith, omega arith)
form_range Strx1 = (omega arith, omega arith)
form_range Strx2 = (omega arith, omega arith)
form_range Strx3 = (omega arith, omega arith)
form_range Strx4 = (omega arith, omega arith)
form_range Addrx1 = (omega arith, omega arith)
form_range Addrx2 = (omega arith, omega arith)
form_range Addrx3 = (omega arith, omega arith)
form_range Addrx4 = (omega arith, omega arith)

pub code_range : (code : ℕ) → IsKnown code → (1 ≤ code) × (code ≤ 44)
code_range code (form, known) = subst (λ (c : ℕ). (1 ≤ c) × (c ≤ 44)) known (form_range form)
