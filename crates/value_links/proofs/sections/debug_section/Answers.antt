use Rattle.std.proofs.Common.{◌<◌, ◌^◌, List, ℕ, sym, subst, arith}
use Rattle.elf_sections.specs.Sections.{HasNone}
use Rattle.value_links.proofs.SectionBytes.{none_named, inside_found, bytes_found, origin_found, room_found}
use Rattle.value_links.proofs.sections.debug_section.Goals as goal

pub returns-in_default-clause-bytes : goal.returns-in_default-clause-bytes
returns-in_default-clause-bytes c = sym (none_named c.args.file.now c.args.name.now (subst (λ (z : List ℕ). HasNone z c.args.name.now) c.requires.image c.in_default.ensures)).0

pub returns-in_default-clause-origin : goal.returns-in_default-clause-origin
returns-in_default-clause-origin c = sym (none_named c.args.file.now c.args.name.now (subst (λ (z : List ℕ). HasNone z c.args.name.now) c.requires.image c.in_default.ensures)).1

pub bytes_in-requires : goal.bytes_in-requires
bytes_in-requires c = inside_found c.args.file.now c.args.image.now c.args.name.now c.in-Some.number c.section.result c.requires.image c.requires.read c.in-Some.ensures c.section.ensures

pub returns-clause-bytes : goal.returns-clause-bytes
returns-clause-bytes c = bytes_found c.args.file.now c.args.image.now c.args.name.now c.in-Some.number c.section.result c.requires.image c.requires.read c.in-Some.ensures c.section.ensures c.bytes_in.result.now c.bytes_in.ensures

pub returns-clause-origin : goal.returns-clause-origin
returns-clause-origin c = origin_found c.args.file.now c.args.image.now c.args.name.now c.in-Some.number c.section.result c.requires.image c.requires.read c.in-Some.ensures c.section.ensures c.offset.result c.offset.ensures

pub returns-clause-room : goal.returns-clause-room
returns-clause-room c =
    let fits : c.offset.result < 2 ^ 64 = omega arith in
    room_found c.args.file.now c.args.image.now c.args.name.now c.in-Some.number c.section.result c.requires.image c.requires.read c.in-Some.ensures c.section.ensures c.bytes_in.result.now c.offset.result c.bytes_in.ensures c.offset.ensures fits
