-- A section offset that was read fits 32 bits.
use Rattle.std.proofs.Common.{◌≡◌, ◌<◌, ◌^◌, ℕ, zero, suc, List, [], ◌∷◌, length, true, sym, subst, arith}
use Rattle.std.specs.Prelude.{ℤ}
use Rattle.spelled.specs.Spelled.{AreBytes}
use Rattle.form_codec.specs.declared.form.Form.{Form}
use Rattle.form_codec.specs.declared.form.Form.TheVariants as form
use Rattle.form_codec.specs.declared.value.Value.{Value}
use Rattle.form_codec.specs.declared.value.Value.TheVariants as value
use Rattle.fixed_width.specs.Numbers.{number}
use Rattle.fixed_width.proofs.Numbers.{number_small}
use Rattle.form_codec.specs.Forms.{SpellsShape, SpellsValue, shape_of}
use Rattle.form_codec.specs.Forms.Meaning.{SectionPlace}
use Rattle.form_codec.specs.Values.{meant_in}
use Rattle.abbrev_tables.specs.declared.decl.Spec.{Spec}
use Rattle.entry_arena.specs.Arena.{value_at}
use Rattle.entry_arena.specs.Trees.{ValuesBetween}
use Rattle.unit_write.specs.inside.Puts.{shape_moves}
use Rattle.unit_write.proofs.ValueLaws.{shape_is, constant_stays}
use Rattle.rewriter.specs.inside.Held.{FitsOffset}

-- only DW_FORM_sec_offset spells a section offset
place_small : (f : Form) (name : ℕ) (c : ℤ) (n : ℕ) (bytes : List ℕ) → AreBytes bytes → shape_moves (shape_of f name c) ≡ true → SpellsShape (shape_of f name c) (SectionPlace n) bytes → n < 2 ^ 32
place_small form.Ref1 name c n bytes small e p = absurd (cc (p.1))
place_small form.Ref2 name c n bytes small e p = absurd (cc (p.1))
place_small form.Ref4 name c n bytes small e p = absurd (cc (p.1))
place_small form.Ref8 name c n bytes small e p = absurd (cc (p.1))
place_small form.RefUdata name c n bytes small e p = absurd (cc (p.2))
place_small form.RefAddr name c n bytes small e p = absurd (cc (p.1))
place_small form.SecOffset name c n bytes small e p =
    let same : n ≡ number 4 bytes = cc (p.1) in
    subst (λ (z : ℕ). z < 2 ^ 32) (sym same) (number_small 4 bytes small)
place_small form.Data1 name c n bytes small e p = absurd (cc (constant_stays name, e))
place_small form.Data2 name c n bytes small e p = absurd (cc (constant_stays name, e))
place_small form.Data4 name c n bytes small e p = absurd (cc (constant_stays name, e))
place_small form.Data8 name c n bytes small e p = absurd (cc (constant_stays name, e))
place_small f name c n bytes small e p = absurd (cc (e))

offset_fits : (section : List ℕ) (v : Value) (name code : ℕ) (c : ℤ) (bytes : List ℕ) → SpellsValue name code c (meant_in section v) bytes → FitsOffset v
offset_fits section (value.Offset n) name code c bytes s =
    place_small s.form name c n bytes s.small (sym (shape_is (shape_of s.form name c) (SectionPlace n) bytes s.spelled)) s.spelled
offset_fits section v name code c bytes s = tt

-- those among the values of columns do
pub offsets_fit : (section : List ℕ) (columns : List Spec) (values : List Value) (from to j : ℕ) → ValuesBetween section columns values from to → j < length values → FitsOffset (value_at values j)
offsets_fit section [] [] from to j p below = absurd (omega (arith, below))
offsets_fit section [] (v ∷ vs) from to j p below = absurd p
offsets_fit section (c ∷ cs) [] from to j p below = absurd p
offsets_fit section (c ∷ cs) (v ∷ vs) from to zero (next, s, placed, rest) below = offset_fits section v c.name c.form c.constant _ s.spelled
offsets_fit section (c ∷ cs) (v ∷ vs) from to (suc j) (next, s, placed, rest) below = offsets_fit section cs vs next to j rest (omega (arith, below))
