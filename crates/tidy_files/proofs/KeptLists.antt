-- Where the classes keep the entries of lists, a list of a file that is written anew has the entries of the one with its number in the old file.
use Rattle.std.proofs.Common.{◌≡◌, ◌<◌, ◌++◌, ◌∙◌, inl, ℕ, List, [], length, sym, ap, subst}
use Rattle.std.specs.Prelude.{false}
use Rattle.dw_base.specs.declared.classes.Classes.{Classes}
use Rattle.list_model.specs.declared.contribution.Contribution.{Contribution}
use Rattle.list_model.specs.declared.entry.ListKind.{ListKind}
use Rattle.list_model.specs.Entries.{Entry, AreSaid, SpellsList}
use Rattle.value_links.specs.Reading.{ListRead, Reading, of_kind, part_at, lists_of, list_at}
use Rattle.value_links.specs.Whole.{IsReading}
use Rattle.written_files.specs.Classes.{IsLeastWritten}
use Rattle.written_files.specs.Written.{IsWrittenAnew}
use Rattle.written_files.proofs.Laws.{written_laws}
use Rattle.tidy_numbers.proofs.ShorterLists.{IsBareAt, lists_once, bare_once, list_bare}
use Rattle.tidy_numbers.proofs.WrittenOperands.{said_of}
use Rattle.tidy_files.specs.Tidy.{SayTheSame}

module _ (classes : Classes) (file written : List ℕ) (anew : IsWrittenAnew classes file written) (kept : classes.lists ≡ false) (r s : Reading) (read : IsReading file r) (again : IsReading written s) (kind : ListKind) (k : ℕ) (known : k < length (lists_of r kind)) (inside : k < length (lists_of s kind)) where
  abbrev old : ListRead
  old = list_at (lists_of r kind) k

  abbrev new : ListRead
  new = list_at (lists_of s kind) k

  abbrev part : Contribution
  part = part_at (of_kind s.links kind) new.part

  least : IsLeastWritten classes kind r s k
  least =
      written_laws.holds (λ (x y : Reading). (of : ListKind) (j : ℕ) → j < length (lists_of x of) → IsLeastWritten classes of x y j)
      file written r s read again anew.lists kind k known

  there : IsBareAt kind (of_kind s.links kind).section part new.at new.raws
  there = list_bare kind (of_kind s.links kind).section part new.at new.raws ((again.lists kind).each k inside).read

  said : (entries : List Entry) × AreSaid kind old.raws entries
  said = said_of kind (of_kind r.links kind).section (part_at (of_kind r.links kind) old.part) old.at old.raws ((read.lists kind).each k known).read

  spelled : SpellsList kind said.0 least.bare
  spelled = (least.least.kept (inl kept) said.0 said.1).member

  -- the bytes spell one list
  one : there.bare.entries ≡ said.0
  one =
      let b = there.bare in
      let bytes : there.bytes ++ there.rest ≡ least.bytes ++ least.rest = sym there.stands ∙ least.stands in
      let same : b.bare ≡ least.bare =
      bare_once kind b.entries said.0 there.bytes least.bytes there.rest least.rest b.bare least.bare b.without least.without b.spelled spelled bytes
      in
      (lists_once kind b.entries said.0 b.bare least.bare [] [] b.spelled spelled (ap (λ z. z ++ []) same)).1

  pub same_entries : SayTheSame kind old.raws new.raws
  same_entries = (said.0, said.1, subst (AreSaid kind new.raws) one there.bare.said)
