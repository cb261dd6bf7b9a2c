-- The entries of a worked unit are spelled as the definition says: a compile unit with a variable whose sibling is the end of
-- the chain, 18 bytes behind the unit's first.
use Rattle.std.proofs.Common.{◌≡◌, ◌<◌, ◌+◌, ℕ, zero, suc, List, [], ◌∷◌, get_or, refl, arith}
use Rattle.std.specs.Prelude.{pos, true, false}
use Rattle.spelled.specs.Spelled.{AreBytes}
use Rattle.leb_codec.specs.Leb.{Uleb, IsLeb}
use Rattle.form_codec.specs.declared.form.Form.TheVariants as form
use Rattle.fixed_width.specs.Numbers.{number}
use Rattle.form_codec.specs.Forms.{Meaning, SpellsValue}
use Rattle.abbrev_tables.specs.Tables.{Declared}
use Rattle.entry_arena.specs.Forests.{Described}
use Rattle.entry_arena.specs.Spellings.{SpellsForest}
use Rattle.entry_arena.specs.Spellings.Subtrees.{NoSubtree, Subtree}

one_byte : (b : ℕ) → b < 128 → IsLeb (b ∷ [])
one_byte b low = record { filled = omega arith; byte = small; more = λ k h. absurd (omega arith); last = last }
  where
    small : (k : ℕ) → k < 1 → get_or (b ∷ []) k 0 < 256
    small zero h = omega arith
    small (suc k) h = absurd (omega arith)

    last : (k : ℕ) → k + 1 ≡ 1 → get_or (b ∷ []) k 0 < 128
    last zero h = omega arith
    last (suc k) h = absurd (omega arith)

code_0 : Uleb 0 (0 ∷ [])
code_0 = ((one_byte 0 (omega arith), refl), omega arith)

code_1 : Uleb 1 (1 ∷ [])
code_1 = ((one_byte 1 (omega arith), refl), omega arith)

code_2 : Uleb 2 (2 ∷ [])
code_2 = ((one_byte 2 (omega arith), refl), omega arith)

-- DW_TAG_compile_unit with children, and DW_TAG_variable with DW_AT_sibling in DW_FORM_ref4
abbrev table : List Declared
table = (record { code = 1; tag = 17; children = true; columns = [] }) ∷ (record { code = 2; tag = 52; children = false; columns = (record { name = 1; form = 19; constant = pos 0 }) ∷ [] }) ∷ []

abbrev sibling : List ℕ
sibling = 18 ∷ 0 ∷ 0 ∷ 0 ∷ []

are_bytes : AreBytes sibling
are_bytes zero h = omega arith
are_bytes (suc zero) h = omega arith
are_bytes (suc (suc zero)) h = omega arith
are_bytes (suc (suc (suc zero))) h = omega arith
are_bytes (suc (suc (suc (suc k)))) h = absurd (omega arith)

a_sibling : SpellsValue 1 19 (pos 0) (Meaning.InUnit 18) sibling
unfolding number
a_sibling = record { form = form.Ref4; known = refl; small = are_bytes; spelled = (refl, refl) }

abbrev entries : List Described
entries = (record { depth = 0; tag = 17; children = true; attributes = [] }) ∷ (record { depth = 1; tag = 52; children = false; attributes = (1, Meaning.InUnit 18) ∷ [] }) ∷ []

worked_tree : SpellsForest table entries (1 ∷ 2 ∷ 18 ∷ 0 ∷ 0 ∷ 0 ∷ 0 ∷ [])
worked_tree =
    record {
      number = 0;
      values = [];
      children = Subtree 1 (Meaning.InUnit 18 ∷ []) NoSubtree NoSubtree;
      spelled = (
        1 ∷ [],
        2 ∷ 18 ∷ 0 ∷ 0 ∷ 0 ∷ 0 ∷ [],
        [],
        record { known = omega arith; code = 1 ∷ []; rest = []; coded = code_1; valued = refl; whole = refl },
        (
          2 ∷ sibling,
          0 ∷ [],
          (
            2 ∷ sibling,
            [],
            [],
            record { known = omega arith; code = 2 ∷ []; rest = sibling; coded = code_2; valued = (sibling, [], a_sibling, refl, refl); whole = refl },
            (refl, refl),
            refl,
            refl,
          ),
          code_0,
          refl,
        ),
        refl,
        refl,
      );
      described = refl;
    }
