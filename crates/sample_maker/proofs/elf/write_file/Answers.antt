use Rattle.sample_maker.proofs.Entering.{file_written}
use Rattle.sample_maker.proofs.elf.write_file.Goals as goal

pub returns : goal.returns
returns c =
    file_written c.args.sections.now.info.items c.args.sections.now.lines.items c.args.sections.now.ranges.items c.args.sections.now.locations.items c.args.sections.now.aranges.items c.rows_of-rows.result c.end_of-end.result c.new-out.result.items c.put_file_header.new.out.items c.put_bodies.new.out.items c.extend_from_slice.new.self.items c.put_section_headers.new.out.items c.rows_of-rows.ensures c.end_of-end.ensures c.new-out.ensures.items c.in_ok-put_file_header.ensures c.in_ok-put_bodies.ensures c.in_ok-extend_from_slice.ensures.items c.in_ok-put_section_headers.ensures
