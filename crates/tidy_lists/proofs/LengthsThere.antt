-- Each list that was read has a length, and so has each run of view pairs.
use Rattle.std.proofs.Common.{◌≡◌, ◌<◌, ◌++◌, ◌∙◌, ℕ, List, length, sym, ap, refl, arith}
use Rattle.std.proofs.lemmas.List.{append_assoc, length-append}
use Rattle.list_model.specs.declared.entry.ListKind.{ListKind}
use Rattle.list_model.specs.declared.entry.ListKind.TheVariants.{Ranges, Locations}
use Rattle.list_model.specs.Contributions.{bytes_from}
use Rattle.range_lists.proofs.RangeLaws.{joined as ranges_joined, said as ranges_said}
use Rattle.loc_lists.proofs.LocationLaws.{joined as locations_joined, said as locations_said}
use Rattle.value_links.specs.Reading.{ListRead, Reading, of_kind, lists_of, part_at, list_at, view_at}
use Rattle.value_links.specs.Lists.{IsListOf}
use Rattle.value_links.specs.Whole.{IsReading}
use Rattle.tidy_lists.specs.Followers.{AreBytesOf, HasLength, IsPartOfRun, RunHasLength}

-- bytes that are a list, with others behind them
record BeginsWith (kind : ListKind) (s : Reading) (list : ListRead) : Type 0 where
  bytes : List ℕ
  rest : List ℕ
  stands : bytes_from (of_kind s.links kind).section (part_at (of_kind s.links kind) list.part) list.at ≡ bytes ++ rest
  read : AreBytesOf kind list.raws bytes
  some : 0 < length bytes

begins : (kind : ListKind) (s : Reading) (list : ListRead) →
    IsListOf kind (of_kind s.links kind).section (part_at (of_kind s.links kind) list.part) list.at list.raws → BeginsWith kind s list
begins Ranges s list is =
    let one : length is.end ≡ 1 = ap (λ (z : List ℕ). length z) is.ended in
    record {
      bytes = is.front ++ is.end;
      rest = is.rest;
      stands = is.whole ∙ sym (append_assoc is.front is.end is.rest);
      read = (is.entries, ranges_said list.at list.raws is.entries is.front is.read, (is.front, is.end, ranges_joined list.at list.raws is.entries is.front is.read, is.ended, refl));
      some = omega (arith, one, length-append is.front is.end);
    }
begins Locations s list is =
    let one : length is.end ≡ 1 = ap (λ (z : List ℕ). length z) is.ended in
    record {
      bytes = is.front ++ is.end;
      rest = is.rest;
      stands = is.whole ∙ sym (append_assoc is.front is.end is.rest);
      read = (is.entries, locations_said list.at list.raws is.entries is.front is.read, (is.front, is.end, locations_joined list.at list.raws is.entries is.front is.read, is.ended, refl));
      some = omega (arith, one, length-append is.front is.end);
    }

module _ (file : List ℕ) (s : Reading) (read : IsReading file s) where
  -- a list has a byte at least
  pub list_long : (kind : ListKind) (m : ℕ) → m < length (lists_of s kind) → (len : ℕ) × (0 < len) × HasLength kind s (list_at (lists_of s kind) m) len
  list_long kind m inside =
      let is = begins kind s (list_at (lists_of s kind) m) ((read.lists kind).each m inside).read in
      (length is.bytes, is.some, record { bytes = is.bytes; rest = is.rest; stands = is.stands; read = is.read; count = refl })

  -- the contribution of a run is that of its list
  pub run_part : (n m : ℕ) → m < length s.location_lists → (view_at s.views n).list ≡ (list_at s.location_lists m).at →
      IsPartOfRun s (view_at s.views n) (list_at s.location_lists m).part
  run_part n m inside with = record { k = m; inside = inside; list = sym with; part = refl }

  pub run_long : (n : ℕ) → n < length s.views → (len : ℕ) × RunHasLength s (view_at s.views n) len
  run_long n inside =
      let are = read.views.each n inside in
      let is = are.read in
      (length is.run, record { p = (list_at s.location_lists are.k).part; part = run_part n are.k are.inside (sym are.at); bytes = is.run; rest = is.rest; stands = is.whole; read = is.spelled; count = refl })
