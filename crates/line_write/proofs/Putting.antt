-- A unit that is put together.
use Rattle.std.proofs.Common.{◌≡◌, ◌+◌, ◌++◌, ◌∙◌, ℕ, List, [], ◌∷◌, length, sym, ap}
use Rattle.std.specs.Int.{w8, cast_unsigned}
use Rattle.std.proofs.lemmas.List.{append_assoc}
use Rattle.byteorder.specs.Endian.{little_bytes}
use Rattle.line_machine.specs.declared.head.Head.{Head}
use Rattle.line_machine.specs.Heads.{IsHead, operand_counts}
use Rattle.line_machine.specs.Class.{Encoding}
use Rattle.line_write.specs.Programs.{version_of, instruction_of, tables_of, counted, header_of, body_of}
use Rattle.line_write.proofs.ReadBack.{sizes, header_size, body_size}

-- pieces that are appended one after the other
together : (old one version two instruction pair counts tables program : List ℕ) → (((((((old ++ one) ++ version) ++ two) ++ instruction) ++ pair) ++ counts) ++ tables) ++ program ≡ old ++ (one ++ (version ++ ((two ++ (instruction ++ (pair ++ (counts ++ tables)))) ++ program)))
together old one version two instruction pair counts tables program = simp append_assoc

module _ (section : List ℕ) (head : Head) (e : Encoding) (h : IsHead section head) where
  -- what header_length counts
  pub header_counted : length (header_of section head e.base e.range) ≡ 18 + length (tables_of section head)
  header_counted = header_size (instruction_of section head) (tables_of section head) (cast_unsigned w8 e.base) e.range (sizes section head.at h.rules).instruction

  -- what unit_length counts
  pub body_counted : length (body_of section head e) ≡ 26 + length (tables_of section head) + length e.bytes
  body_counted =
      let s = sizes section head.at h.rules in
      body_size (version_of section head) (instruction_of section head) (tables_of section head) e.bytes (cast_unsigned w8 e.base) e.range s.version s.instruction

  pub unit_put : (unit_length header_length base : ℕ) (old a b c d f g i new : List ℕ)
      → unit_length ≡ 26 + length (tables_of section head) + length e.bytes
      → header_length ≡ 18 + length (tables_of section head)
      → base ≡ cast_unsigned w8 e.base
      → a ≡ old ++ little_bytes 4 unit_length
      → b ≡ a ++ version_of section head
      → c ≡ b ++ little_bytes 4 header_length
      → d ≡ c ++ instruction_of section head
      → f ≡ d ++ (base ∷ e.range ∷ 13 ∷ [])
      → g ≡ f ++ operand_counts
      → i ≡ g ++ tables_of section head
      → new ≡ i ++ e.bytes
      → new ≡ old ++ counted (body_of section head e)
  unit_put unit_length header_length base old a b c d f g i new u l s ea eb ec ed ef eg ei en =
      let one : little_bytes 4 unit_length ≡ little_bytes 4 (length (body_of section head e)) = ap (little_bytes 4) (u ∙ sym body_counted) in
      let two : little_bytes 4 header_length ≡ little_bytes 4 (length (header_of section head e.base e.range)) = ap (little_bytes 4) (l ∙ sym header_counted) in
      let a2 : a ≡ old ++ little_bytes 4 (length (body_of section head e)) = ea ∙ ap (λ z. old ++ z) one in
      let c2 : c ≡ (a ++ version_of section head) ++ little_bytes 4 (length (header_of section head e.base e.range)) = ec ∙ ap (λ z. b ++ z) two ∙ ap (λ z. z ++ little_bytes 4 (length (header_of section head e.base e.range))) eb in
      let f2 : f ≡ (c ++ instruction_of section head) ++ (cast_unsigned w8 e.base ∷ e.range ∷ 13 ∷ []) = ef ∙ ap (λ z. d ++ (z ∷ e.range ∷ 13 ∷ [])) s ∙ ap (λ z. z ++ (cast_unsigned w8 e.base ∷ e.range ∷ 13 ∷ [])) ed in
      let i2 : i ≡ (f ++ operand_counts) ++ tables_of section head = ei ∙ ap (λ z. z ++ tables_of section head) eg in
      en ∙ ap (λ z. z ++ e.bytes) i2
      ∙ ap (λ z. ((z ++ operand_counts) ++ tables_of section head) ++ e.bytes) f2
      ∙ ap (λ z. ((((z ++ instruction_of section head) ++ (cast_unsigned w8 e.base ∷ e.range ∷ 13 ∷ [])) ++ operand_counts) ++ tables_of section head) ++ e.bytes) c2
      ∙ ap (λ z. ((((((z ++ version_of section head) ++ little_bytes 4 (length (header_of section head e.base e.range))) ++ instruction_of section head) ++ (cast_unsigned w8 e.base ∷ e.range ∷ 13 ∷ [])) ++ operand_counts) ++ tables_of section head) ++ e.bytes) a2
      ∙ together old (little_bytes 4 (length (body_of section head e))) (version_of section head) (little_bytes 4 (length (header_of section head e.base e.range))) (instruction_of section head) (cast_unsigned w8 e.base ∷ e.range ∷ 13 ∷ []) operand_counts (tables_of section head) e.bytes
