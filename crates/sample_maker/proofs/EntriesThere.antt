-- The entries of a generated file where they stand.
use Rattle.std.proofs.Common.{◌≡◌, ◌<◌, ◌+◌, ◌-◌, ◌^◌, ℕ, zero, suc, List, [], ◌∷◌, ◌++◌, take, drop, true, false, ◌∙◌, sym, ap, refl, arith}
use Rattle.std.specs.Prelude.{pos}
use Rattle.spelled.specs.Spelled.{AreBytes}
use Rattle.form_codec.specs.declared.form.Form.TheVariants as form
use Rattle.form_codec.specs.declared.form.Role.TheVariants as role
use Rattle.form_codec.specs.declared.value.Value.TheVariants as value
use Rattle.form_codec.specs.Forms.{HasNoZero}
use Rattle.form_codec.specs.Forms.Meaning.{Address, Whole, IsSet, Text, StringPlace, LineStringPlace, SectionPlace, InUnit, Expression}
use Rattle.entry_arena.specs.declared.entry.Entry.{Entry}
use Rattle.entry_arena.specs.Forests.{Described}
use Rattle.sample_maker.specs.Places.{unit_extent}
use Rattle.sample_maker.specs.inside.Bytes.{word, long, root_bytes, function_entry_bytes, parameter_entry_bytes, block_entry_bytes, base_type_bytes}
use Rattle.sample_maker.specs.inside.ReadUnits.{root_number, function_number, parameter_number, base_type_number, block_number, declared_read}
use Rattle.sample_maker.proofs.Lengths.{word_length, long_length}
use Rattle.sample_maker.proofs.PlacedBytes.{LiesAt, lies_first, lies_behind, lies_from, lies_take, word_there, long_there, byte_there, text_there, expression_there, present_there, constant_there, code_there, one_byte, more_bytes}
use Rattle.sample_maker.proofs.ForestParts.{IsEntryRead}

-- an entry between two places, by how many bytes it has
abbrev entry_as : ℕ → ℕ → ℕ → ℕ → ℕ → ℕ → Entry
entry_as at len depth number first count = record { at = at; len = len; depth = depth; decl = number; first = first; count = count }

entry_len : (at to len depth number first count : ℕ) → to ≡ at + len → entry_as at len depth number first count ≡ entry_as at (to - at) depth number first count
entry_len at to len depth number first count end =
    let same : len ≡ to - at = omega (arith, end) in
    ap (λ (z : ℕ). entry_as at z depth number first count) same

-- one byte that isn't 0
clear_one : (b : ℕ) → 0 < b → HasNoZero (b ∷ [])
clear_one b some zero lt = λ e. absurd (omega (arith, e, some))
clear_one b some (suc k) lt = absurd (omega (arith, lt))

-- PARAMETERS

abbrev parameter_says : List ℕ → ℕ → ℕ → ℕ → ℕ → Described
parameter_says text line type list views = record {
  depth = 2;
  tag = 0x05;
  children = false;
  attributes = (0x03, Text text) ∷ (0x3b, Whole (pos line)) ∷ (0x49, InUnit type) ∷ (0x02, SectionPlace list) ∷ (0x2137, SectionPlace views) ∷ [];
}

pub parameter_there : (section : List ℕ) (at to line type list views first : ℕ) → to ≡ at + 16 → line < 128 → type < 256 ^ 4 → list < 256 ^ 4 → views < 256 ^ 4 → LiesAt section at (parameter_entry_bytes line type list views) → IsEntryRead section declared_read 2 parameter_number first at to (entry_as at 16 2 parameter_number first 5) (value.Text (record { at = at + 1; len = 1 }) ∷ value.Int (pos line) ∷ value.LocalRef type ∷ value.Offset list ∷ value.Offset views ∷ []) (parameter_says (0x78 ∷ []) line type list views)
unfolding declared_read parameter_entry_bytes
parameter_there section at to line type list views first end few_line few_type few_list few_views l =
    let lists : List ℕ = word list ++ word views in
    let rest : List ℕ = line ∷ (word type ++ lists) in
    let l1 : LiesAt section (at + 1) (0x78 ∷ 0 ∷ rest) = lies_behind section at (3 ∷ []) (0x78 ∷ 0 ∷ rest) 1 refl l in
    let l2 : LiesAt section (at + 1 + 2) rest = lies_behind section (at + 1) (0x78 ∷ 0 ∷ []) rest 2 refl l1 in
    let l3 : LiesAt section (at + 1 + 2 + 1) (word type ++ lists) = lies_behind section (at + 1 + 2) (line ∷ []) (word type ++ lists) 1 refl l2 in
    let l4 : LiesAt section (at + 1 + 2 + 1 + 4) lists = lies_behind section (at + 1 + 2 + 1) (word type) lists 4 (word_length type) l3 in
    let l5 : LiesAt section (at + 1 + 2 + 1 + 4 + 4) (word views) = lies_behind section (at + 1 + 2 + 1 + 4) (word list) (word views) 4 (word_length list) l4 in
    let text : LiesAt section (at + 1) (0x78 ∷ 0 ∷ []) = lies_first section (at + 1) (0x78 ∷ 0 ∷ []) rest l1 in
    record {
      known = omega arith;
      values_at = at + 1;
      coded = code_there section at 3 (omega arith) (lies_first section at (3 ∷ []) (0x78 ∷ 0 ∷ rest) l);
      valued = (
        at + 1 + 2,
        text_there 0x03 section (at + 1) (at + 1) (at + 1 + 2) 1 (0x78 ∷ []) refl (omega arith) refl (clear_one 0x78 (omega arith)) (more_bytes 0x78 (0 ∷ []) (omega arith) (one_byte 0 (omega arith))) text,
        (refl, omega arith),
        (
          at + 1 + 2 + 1,
          byte_there 0x3b section (at + 1 + 2) line refl (omega (arith, few_line)) (lies_first section (at + 1 + 2) (line ∷ []) (word type ++ lists) l2),
          tt,
          (
            at + 1 + 2 + 1 + 4,
            word_there 0x49 form.Ref4 role.LocalRef section (at + 1 + 2 + 1) type (InUnit type) refl few_type refl (lies_first section (at + 1 + 2 + 1) (word type) lists l3),
            tt,
            (
              at + 1 + 2 + 1 + 4 + 4,
              word_there 0x02 form.SecOffset role.Offset section (at + 1 + 2 + 1 + 4) list (SectionPlace list) refl few_list refl (lies_first section (at + 1 + 2 + 1 + 4) (word list) (word views) l4),
              tt,
              (
                at + 1 + 2 + 1 + 4 + 4 + 4,
                word_there 0x2137 form.SecOffset role.Offset section (at + 1 + 2 + 1 + 4 + 4) views (SectionPlace views) refl few_views refl l5,
                tt,
                omega (arith, end),
              ),
            ),
          ),
        ),
      );
      entry = entry_len at to 16 2 parameter_number first 5 end;
      said = ap (λ z. parameter_says z line type list views) (sym (lies_take section (at + 1) (0x78 ∷ []) 1 refl (lies_first section (at + 1) (0x78 ∷ []) (0 ∷ []) text)));
    }

-- BLOCKS

pub block_there : (section : List ℕ) (at to list first : ℕ) → to ≡ at + 5 → list < 256 ^ 4 → LiesAt section at (block_entry_bytes list) → IsEntryRead section declared_read 2 block_number first at to (entry_as at 5 2 block_number first 1) (value.Offset list ∷ []) (record { depth = 2; tag = 0x0b; children = false; attributes = (0x55, SectionPlace list) ∷ [] })
unfolding declared_read block_entry_bytes
block_there section at to list first end few_list l =
    let l1 : LiesAt section (at + 1) (word list) = lies_behind section at (5 ∷ []) (word list) 1 refl l in
    record {
      known = omega arith;
      values_at = at + 1;
      coded = code_there section at 5 (omega arith) (lies_first section at (5 ∷ []) (word list) l);
      valued = (at + 1 + 4, word_there 0x55 form.SecOffset role.Offset section (at + 1) list (SectionPlace list) refl few_list refl l1, tt, omega (arith, end));
      entry = entry_len at to 5 2 block_number first 1 end;
      said = refl;
    }

-- THE BASE TYPE

-- the name `int`
clear_int : HasNoZero (0x69 ∷ 0x6e ∷ 0x74 ∷ [])
clear_int zero lt = λ e. absurd (omega (arith, e))
clear_int (suc zero) lt = λ e. absurd (omega (arith, e))
clear_int (suc (suc zero)) lt = λ e. absurd (omega (arith, e))
clear_int (suc (suc (suc k))) lt = absurd (omega (arith, lt))

small_int : AreBytes (0x69 ∷ 0x6e ∷ 0x74 ∷ 0 ∷ [])
small_int = more_bytes 0x69 (0x6e ∷ 0x74 ∷ 0 ∷ []) (omega arith) (more_bytes 0x6e (0x74 ∷ 0 ∷ []) (omega arith) (more_bytes 0x74 (0 ∷ []) (omega arith) (one_byte 0 (omega arith))))

abbrev base_type_says : List ℕ → Described
base_type_says text = record { depth = 1; tag = 0x24; children = false; attributes = (0x0b, Whole (pos 4)) ∷ (0x3e, Whole (pos 5)) ∷ (0x03, Text text) ∷ [] }

pub base_type_there : (section : List ℕ) (at to first : ℕ) → to ≡ at + 7 → LiesAt section at base_type_bytes → IsEntryRead section declared_read 1 base_type_number first at to (entry_as at 7 1 base_type_number first 3) (value.Int (pos 4) ∷ value.Int (pos 5) ∷ value.Text (record { at = at + 3; len = 3 }) ∷ []) (base_type_says (0x69 ∷ 0x6e ∷ 0x74 ∷ []))
unfolding declared_read base_type_bytes
base_type_there section at to first end l =
    let name : List ℕ = 0x69 ∷ 0x6e ∷ 0x74 ∷ 0 ∷ [] in
    let l1 : LiesAt section (at + 1) (4 ∷ 5 ∷ name) = lies_behind section at (4 ∷ []) (4 ∷ 5 ∷ name) 1 refl l in
    let l2 : LiesAt section (at + 1 + 1) (5 ∷ name) = lies_behind section (at + 1) (4 ∷ []) (5 ∷ name) 1 refl l1 in
    let l3 : LiesAt section (at + 1 + 1 + 1) name = lies_behind section (at + 1 + 1) (5 ∷ []) name 1 refl l2 in
    let here : at + 3 ≡ at + 1 + 1 + 1 = omega arith in
    let own : LiesAt section (at + 3) name = lies_from section (at + 1 + 1 + 1) (at + 3) name (sym here) l3 in
    record {
      known = omega arith;
      values_at = at + 1;
      coded = code_there section at 4 (omega arith) (lies_first section at (4 ∷ []) (4 ∷ 5 ∷ name) l);
      valued = (
        at + 1 + 1,
        byte_there 0x0b section (at + 1) 4 refl (omega arith) (lies_first section (at + 1) (4 ∷ []) (5 ∷ name) l1),
        tt,
        (
          at + 1 + 1 + 1,
          byte_there 0x3e section (at + 1 + 1) 5 refl (omega arith) (lies_first section (at + 1 + 1) (5 ∷ []) name l2),
          tt,
          (
            at + 1 + 1 + 1 + 4,
            text_there 0x03 section (at + 1 + 1 + 1) (at + 3) (at + 1 + 1 + 1 + 4) 3 (0x69 ∷ 0x6e ∷ 0x74 ∷ []) here (omega arith) refl clear_int small_int l3,
            (here, omega arith),
            omega (arith, end),
          ),
        ),
      );
      entry = entry_len at to 7 1 base_type_number first 3 end;
      said = ap base_type_says (sym (lies_take section (at + 3) (0x69 ∷ 0x6e ∷ 0x74 ∷ []) 3 refl (lies_first section (at + 3) (0x69 ∷ 0x6e ∷ 0x74 ∷ []) (0 ∷ []) own)));
    }

-- FUNCTIONS

abbrev function_says : List ℕ → List ℕ → ℕ → ℕ → ℕ → ℕ → ℕ → Described
function_says text expression line type low size sibling = record {
  depth = 1;
  tag = 0x2e;
  children = true;
  attributes = (0x3f, IsSet true) ∷ (0x03, Text text) ∷ (0x3a, Whole (pos 1)) ∷ (0x3b, Whole (pos line)) ∷ (0x49, InUnit type) ∷ (0x11, Address low) ∷ (0x12, Whole (pos size)) ∷ (0x40, Expression expression) ∷ (0x01, InUnit sibling) ∷ [];
}

pub function_there : (section : List ℕ) (at to line type low size sibling first : ℕ) → to ≡ at + 30 → line < 128 → type < 256 ^ 4 → low < 256 ^ 8 → size < 2 ^ 63 → sibling < 256 ^ 4 → LiesAt section at (function_entry_bytes line type low size sibling) → IsEntryRead section declared_read 1 function_number first at to (entry_as at 30 1 function_number first 9) (value.Flag true ∷ value.Text (record { at = at + 1; len = 1 }) ∷ value.Int (pos 1) ∷ value.Int (pos line) ∷ value.LocalRef type ∷ value.Addr low ∷ value.Int (pos size) ∷ value.Expr (record { at = at + 25; len = 1 }) ∷ value.LocalRef sibling ∷ []) (function_says (0x66 ∷ []) (0x9c ∷ []) line type low size sibling)
unfolding declared_read function_entry_bytes
function_there section at to line type low size sibling first end few_line few_type few_low few_size few_sibling l =
    let bases : List ℕ = 1 ∷ 0x9c ∷ word sibling in
    let sizes : List ℕ = long size ++ bases in
    let lows : List ℕ = long low ++ sizes in
    let rest : List ℕ = line ∷ (word type ++ lows) in
    let l1 : LiesAt section (at + 1) (0x66 ∷ 0 ∷ rest) = lies_behind section at (2 ∷ []) (0x66 ∷ 0 ∷ rest) 1 refl l in
    let l2 : LiesAt section (at + 1 + 2) rest = lies_behind section (at + 1) (0x66 ∷ 0 ∷ []) rest 2 refl l1 in
    let l3 : LiesAt section (at + 1 + 2 + 1) (word type ++ lows) = lies_behind section (at + 1 + 2) (line ∷ []) (word type ++ lows) 1 refl l2 in
    let l4 : LiesAt section (at + 1 + 2 + 1 + 4) lows = lies_behind section (at + 1 + 2 + 1) (word type) lows 4 (word_length type) l3 in
    let l5 : LiesAt section (at + 1 + 2 + 1 + 4 + 8) sizes = lies_behind section (at + 1 + 2 + 1 + 4) (long low) sizes 8 (long_length low) l4 in
    let l6 : LiesAt section (at + 1 + 2 + 1 + 4 + 8 + 8) bases = lies_behind section (at + 1 + 2 + 1 + 4 + 8) (long size) bases 8 (long_length size) l5 in
    let l7 : LiesAt section (at + 1 + 2 + 1 + 4 + 8 + 8 + 2) (word sibling) = lies_behind section (at + 1 + 2 + 1 + 4 + 8 + 8) (1 ∷ 0x9c ∷ []) (word sibling) 2 refl l6 in
    let text : LiesAt section (at + 1) (0x66 ∷ 0 ∷ []) = lies_first section (at + 1) (0x66 ∷ 0 ∷ []) rest l1 in
    let base : LiesAt section (at + 1 + 2 + 1 + 4 + 8 + 8) (1 ∷ 0x9c ∷ []) = lies_first section (at + 1 + 2 + 1 + 4 + 8 + 8) (1 ∷ 0x9c ∷ []) (word sibling) l6 in
    let here : at + 25 ≡ at + 1 + 2 + 1 + 4 + 8 + 8 + 1 = omega arith in
    let own : LiesAt section (at + 25) (0x9c ∷ []) = lies_from section (at + 1 + 2 + 1 + 4 + 8 + 8 + 1) (at + 25) (0x9c ∷ []) (sym here) (lies_behind section (at + 1 + 2 + 1 + 4 + 8 + 8) (1 ∷ []) (0x9c ∷ []) 1 refl base) in
    record {
      known = omega arith;
      values_at = at + 1;
      coded = code_there section at 2 (omega arith) (lies_first section at (2 ∷ []) (0x66 ∷ 0 ∷ rest) l);
      valued = (
        at + 1,
        present_there 0x3f section (at + 1) (0x66 ∷ 0 ∷ rest) l1,
        tt,
        (
          at + 1 + 2,
          text_there 0x03 section (at + 1) (at + 1) (at + 1 + 2) 1 (0x66 ∷ []) refl (omega arith) refl (clear_one 0x66 (omega arith)) (more_bytes 0x66 (0 ∷ []) (omega arith) (one_byte 0 (omega arith))) text,
          (refl, omega arith),
          (
            at + 1 + 2,
            constant_there 0x3a section (at + 1 + 2) rest l2,
            tt,
            (
              at + 1 + 2 + 1,
              byte_there 0x3b section (at + 1 + 2) line refl (omega (arith, few_line)) (lies_first section (at + 1 + 2) (line ∷ []) (word type ++ lows) l2),
              tt,
              (
                at + 1 + 2 + 1 + 4,
                word_there 0x49 form.Ref4 role.LocalRef section (at + 1 + 2 + 1) type (InUnit type) refl few_type refl (lies_first section (at + 1 + 2 + 1) (word type) lows l3),
                tt,
                (
                  at + 1 + 2 + 1 + 4 + 8,
                  long_there 0x11 form.Addr role.Address section (at + 1 + 2 + 1 + 4) low (Address low) refl few_low refl (lies_first section (at + 1 + 2 + 1 + 4) (long low) sizes l4),
                  tt,
                  (
                    at + 1 + 2 + 1 + 4 + 8 + 8,
                    long_there 0x12 form.Data8 role.Unsigned section (at + 1 + 2 + 1 + 4 + 8) size (Whole (pos size)) refl (omega (arith, few_size)) refl (lies_first section (at + 1 + 2 + 1 + 4 + 8) (long size) bases l5),
                    tt,
                    (
                      at + 1 + 2 + 1 + 4 + 8 + 8 + 2,
                      expression_there 0x40 section (at + 1 + 2 + 1 + 4 + 8 + 8) (at + 25) 0x9c here (omega arith) base,
                      omega arith,
                      (
                        at + 1 + 2 + 1 + 4 + 8 + 8 + 2 + 4,
                        word_there 0x01 form.Ref4 role.LocalRef section (at + 1 + 2 + 1 + 4 + 8 + 8 + 2) sibling (InUnit sibling) refl few_sibling refl l7,
                        tt,
                        omega (arith, end),
                      ),
                    ),
                  ),
                ),
              ),
            ),
          ),
        ),
      );
      entry = entry_len at to 30 1 function_number first 9 end;
      said = ap (λ z. function_says z (0x9c ∷ []) line type low size sibling) (sym (lies_take section (at + 1) (0x66 ∷ []) 1 refl (lies_first section (at + 1) (0x66 ∷ []) (0 ∷ []) text))) ∙ ap (λ z. function_says (take 1 (drop (at + 1) section)) z line type low size sibling) (sym (lies_take section (at + 25) (0x9c ∷ []) 1 refl own));
    }

-- ROOTS

pub root_there : (section : List ℕ) (at to low program : ℕ) → to ≡ at + 34 → low < 256 ^ 8 → program < 256 ^ 4 → LiesAt section at (root_bytes low program) → IsEntryRead section declared_read 0 root_number 0 at to (entry_as at 34 0 root_number 0 7) (value.StrOffset 0 ∷ value.Int (pos 0x1d) ∷ value.LineStrOffset 0 ∷ value.LineStrOffset 4 ∷ value.Addr low ∷ value.Int (pos unit_extent) ∷ value.Offset program ∷ []) (record { depth = 0; tag = 0x11; children = true; attributes = (0x25, StringPlace 0) ∷ (0x13, Whole (pos 0x1d)) ∷ (0x03, LineStringPlace 0) ∷ (0x1b, LineStringPlace 4) ∷ (0x11, Address low) ∷ (0x12, Whole (pos unit_extent)) ∷ (0x10, SectionPlace program) ∷ [] })
unfolding declared_read root_bytes
root_there section at to low program end few_low few_program l =
    let extents : List ℕ = long unit_extent ++ word program in
    let lows : List ℕ = long low ++ extents in
    let places : List ℕ = word 4 ++ lows in
    let names : List ℕ = word 0 ++ places in
    let l1 : LiesAt section (at + 1) (word 0 ++ (0x1d ∷ names)) = lies_behind section at (1 ∷ []) (word 0 ++ (0x1d ∷ names)) 1 refl l in
    let l2 : LiesAt section (at + 1 + 4) (0x1d ∷ names) = lies_behind section (at + 1) (word 0) (0x1d ∷ names) 4 (word_length 0) l1 in
    let l3 : LiesAt section (at + 1 + 4 + 1) names = lies_behind section (at + 1 + 4) (0x1d ∷ []) names 1 refl l2 in
    let l4 : LiesAt section (at + 1 + 4 + 1 + 4) places = lies_behind section (at + 1 + 4 + 1) (word 0) places 4 (word_length 0) l3 in
    let l5 : LiesAt section (at + 1 + 4 + 1 + 4 + 4) lows = lies_behind section (at + 1 + 4 + 1 + 4) (word 4) lows 4 (word_length 4) l4 in
    let l6 : LiesAt section (at + 1 + 4 + 1 + 4 + 4 + 8) extents = lies_behind section (at + 1 + 4 + 1 + 4 + 4) (long low) extents 8 (long_length low) l5 in
    let l7 : LiesAt section (at + 1 + 4 + 1 + 4 + 4 + 8 + 8) (word program) = lies_behind section (at + 1 + 4 + 1 + 4 + 4 + 8) (long unit_extent) (word program) 8 (long_length unit_extent) l6 in
    record {
      known = omega arith;
      values_at = at + 1;
      coded = code_there section at 1 (omega arith) (lies_first section at (1 ∷ []) (word 0 ++ (0x1d ∷ names)) l);
      valued = (
        at + 1 + 4,
        word_there 0x25 form.Strp role.StrOffset section (at + 1) 0 (StringPlace 0) refl (omega arith) refl (lies_first section (at + 1) (word 0) (0x1d ∷ names) l1),
        tt,
        (
          at + 1 + 4 + 1,
          byte_there 0x13 section (at + 1 + 4) 0x1d refl (omega arith) (lies_first section (at + 1 + 4) (0x1d ∷ []) names l2),
          tt,
          (
            at + 1 + 4 + 1 + 4,
            word_there 0x03 form.LineStrp role.LineStrOffset section (at + 1 + 4 + 1) 0 (LineStringPlace 0) refl (omega arith) refl (lies_first section (at + 1 + 4 + 1) (word 0) places l3),
            tt,
            (
              at + 1 + 4 + 1 + 4 + 4,
              word_there 0x1b form.LineStrp role.LineStrOffset section (at + 1 + 4 + 1 + 4) 4 (LineStringPlace 4) refl (omega arith) refl (lies_first section (at + 1 + 4 + 1 + 4) (word 4) lows l4),
              tt,
              (
                at + 1 + 4 + 1 + 4 + 4 + 8,
                long_there 0x11 form.Addr role.Address section (at + 1 + 4 + 1 + 4 + 4) low (Address low) refl few_low refl (lies_first section (at + 1 + 4 + 1 + 4 + 4) (long low) extents l5),
                tt,
                (
                  at + 1 + 4 + 1 + 4 + 4 + 8 + 8,
                  long_there 0x12 form.Data8 role.Unsigned section (at + 1 + 4 + 1 + 4 + 4 + 8) unit_extent (Whole (pos unit_extent)) refl (omega arith) refl (lies_first section (at + 1 + 4 + 1 + 4 + 4 + 8) (long unit_extent) (word program) l6),
                  tt,
                  (
                    at + 1 + 4 + 1 + 4 + 4 + 8 + 8 + 4,
                    word_there 0x10 form.SecOffset role.Offset section (at + 1 + 4 + 1 + 4 + 4 + 8 + 8) program (SectionPlace program) refl few_program refl l7,
                    tt,
                    omega (arith, end),
                  ),
                ),
              ),
            ),
          ),
        ),
      );
      entry = entry_len at to 34 0 root_number 0 7 end;
      said = refl;
    }
