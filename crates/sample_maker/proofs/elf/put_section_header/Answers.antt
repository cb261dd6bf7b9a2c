use Rattle.std.proofs.lemmas.Result.{on_ok_weaker}
use Rattle.sample_maker.proofs.Appending.{section_header_written}
use Rattle.sample_maker.proofs.elf.put_section_header.Goals as goal

pub returns : goal.returns
returns c =
    on_ok_weaker c.put_long-6.result (λ e. section_header_written c.args.row c.args.at c.args.out.now.items c.put_word.new.out.items c.put_word-2.new.out.items c.put_long.new.out.items c.put_long-2.new.out.items c.put_long-3.new.out.items c.put_long-4.new.out.items c.put_word-3.new.out.items c.put_word-4.new.out.items c.put_long-5.new.out.items c.put_long-6.new.out.items c.in_ok-put_word.ensures c.in_ok-put_word-2.ensures c.in_ok-put_long.ensures c.in_ok-put_long-2.ensures c.in_ok-put_long-3.ensures c.in_ok-put_long-4.ensures c.in_ok-put_word-3.ensures c.in_ok-put_word-4.ensures c.in_ok-put_long-5.ensures e) c.put_long-6.ensures
