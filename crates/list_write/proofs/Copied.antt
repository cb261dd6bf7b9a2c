-- Contributions that are written with the bytes of their lists.
use Rattle.std.proofs.Common.{◌≡◌, ◌≤◌, ◌<◌, ◌+◌, ◌-◌, ◌∙◌, ℕ, List, [], ◌++◌, length, take, drop, ap, arith}
use Rattle.list_model.specs.declared.contribution.Contribution.{Contribution}
use Rattle.list_model.specs.declared.entry.ListKind.{ListKind}
use Rattle.list_model.specs.Contributions.{offsets_at, part_end}
use Rattle.list_write.specs.declared.image.Moved.{Moved}
use Rattle.list_write.specs.declared.pieces.ListExtent.{ListExtent}
use Rattle.list_write.specs.declared.pieces.RunExtent.{RunExtent}
use Rattle.list_write.specs.Written.{ToWrite, front_size, part_at}
use Rattle.list_write.specs.inside.Places.{front_sizes, list_sizes, IsFirst, ArePlaced}
use Rattle.list_write.specs.inside.Puts.{header_bytes, AreSlotsPut, AreReady, AreCopiedTo}
use Rattle.list_write.proofs.Placing.{fronts_more, sizes_rise}
use Rattle.list_write.proofs.Ready.{first_below, begins, ends}
use Rattle.list_write.proofs.Written.{written_more}

module _ (kind : ListKind) (section : List ℕ) (parts : List Contribution) (lists : List ToWrite) (extents : List ListExtent) (runs : List RunExtent) (all : List ℕ)
    (ready : AreReady kind section parts lists extents runs all) (new_parts : List Contribution) (moved views : List Moved) (placed : ArePlaced parts lists new_parts moved views)
    (p from front : ℕ) (old : List ℕ) (so_far : AreCopiedTo kind section parts lists new_parts moved p from old) (inside : p < length parts)
    (new : Contribution) (is : new ≡ part_at new_parts p) (front_is : front ≡ front_size (part_at parts p)) where
  abbrev last : ℕ
  last = (placed.each_part p inside).last

  is_last : IsFirst lists (p + 1) last
  is_last = (placed.each_part p inside).is_last

  behind : so_far.first ≤ last
  behind = first_below lists p so_far.first last so_far.written.is_first is_last

  -- its lists take what it has behind its header and its offsets
  len_is : new.len ≡ front + (list_sizes lists last - list_sizes lists so_far.first)
  len_is =
      let at : new.at ≡ front_sizes parts p + list_sizes lists so_far.first = ap (λ (z : Contribution). z.at) is ∙ begins kind section parts lists ready.can new_parts moved views placed p inside so_far.first so_far.written.is_first in
      let end : part_end new ≡ front_sizes parts (p + 1) + list_sizes lists last = ap (λ (z : Contribution). part_end z) is ∙ ends kind section parts lists ready.can new_parts moved views placed p inside last is_last in
      let more = fronts_more parts p inside in
      let rise = sizes_rise lists so_far.first last behind in
      omega (arith, at, end, more, rise, front_is)

  pub front_within : front ≤ new.len
  front_within = let len = len_is in omega (arith, len)

  to_is : from + (new.len - front) ≡ list_sizes lists last
  to_is =
      let len = len_is in
      let rise = sizes_rise lists so_far.first last behind in
      let start : from ≡ list_sizes lists so_far.first = so_far.is in
      omega (arith, len, rise, start)

  pub to_within : from + (new.len - front) ≤ length all
  to_within =
      let to = to_is in
      let within : last ≤ length lists = is_last.within in
      let rise = sizes_rise lists last (length lists) within in
      let size : length all ≡ length {A = ℕ} [] + list_sizes lists (length lists) = ready.put.size in
      omega (arith, to, rise, size)

  pub copied_more : (a b done : List ℕ) → a ≡ old ++ header_bytes (part_at new_parts p) → AreSlotsPut section (offsets_at (part_at parts p).at) (offsets_at (part_at new_parts p).at) moved (part_at parts p).slots a b → done ≡ b ++ take (from + (new.len - front) - from) (drop from all) → AreCopiedTo kind section parts lists new_parts moved (p + 1) (from + (new.len - front)) done
  copied_more a b done header slots copied = record {
    first = last;
    is = to_is;
    written = written_more kind section parts lists new_parts moved views ready.can placed p so_far.first last old a b done so_far.written inside is_last behind header slots all ready.put from (from + (new.len - front)) so_far.is to_is copied;
  }
