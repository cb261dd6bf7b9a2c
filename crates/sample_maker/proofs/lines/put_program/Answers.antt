use Rattle.std.proofs.Common.{◌≡◌, ◌+◌, ◌++◌, ◌∙◌, ℕ, List, length, ap, rules}
use Rattle.sample_maker.specs.Drawn.{unit_of}
use Rattle.sample_maker.specs.inside.Bytes.{word, line_header, opcodes_bytes, program_bytes}
use Rattle.sample_maker.proofs.Appending.{three_joined}
use Rattle.sample_maker.proofs.lines.put_program.Goals as goal

pub returns : goal.returns
unfolding program_bytes
returns c =
    let old : List ℕ = c.args.out.now.items in
    let opcodes : List ℕ = c.in_ok-opcodes.opcodes.items in
    let ops : List ℕ = opcodes_bytes c.args.number (unit_of c.args.unit.now) in
    let is : opcodes ≡ ops = c.in_ok-opcodes.ensures in
    let count : c.len.result ≡ length opcodes = search rules in
    let len_is : c.len.result ≡ length ops = count ∙ ap (λ (z : List ℕ). length z) is in
    let lent : c.deref.result.now ≡ ops = c.deref.ensures.value ∙ is in
    three_joined old c.put_word.new.out.items c.extend_from_slice.new.self.items c.extend_from_slice-2.new.self.items (word (50 + c.len.result)) line_header c.deref.result.now c.in_ok-put_word.ensures c.in_ok-extend_from_slice.ensures.items c.in_ok-extend_from_slice-2.ensures.items
    ∙ ap (λ (n : ℕ). old ++ (word (50 + n) ++ (line_header ++ c.deref.result.now))) len_is
    ∙ ap (λ (z : List ℕ). old ++ (word (50 + length ops) ++ (line_header ++ z))) lent
