-- No operand of an entry of a list that is kept has, in a file that is written anew, a byte too many. Where the list is kept, its bytes
-- are the shortest of its entries, and else of its class; in both an entry could be exchanged for a shorter one.
use Rattle.std.proofs.Common.{◌≡◌, ◌<◌, ◌++◌, ◌∙◌, inl, inr, ℕ, List, [], length, sym, ap, subst, arith}
use Rattle.std.specs.Prelude.{Option, Some, None}
use Rattle.list_model.specs.declared.context.Context.{Context}
use Rattle.list_model.specs.declared.contribution.Contribution.{Contribution}
use Rattle.list_model.specs.declared.entry.ListKind.{ListKind}
use Rattle.list_model.specs.declared.entry.ListKind.TheVariants.{Ranges, Locations}
use Rattle.list_model.specs.declared.entry.RawEntry.{RawEntry}
use Rattle.list_model.specs.Entries.{Entry, SpellsList, AreSaid}
use Rattle.list_model.specs.Items.{Bounds}
use Rattle.list_model.specs.Members.{IsLeastList, IsLeastFrozen}
use Rattle.range_lists.proofs.RangeLaws.{said as ranges_said}
use Rattle.loc_lists.specs.Locations.{entries_of}
use Rattle.loc_lists.proofs.LocationLaws.{said as locations_said}
use Rattle.written_files.specs.Classes.{IsLeastWritten}
use Rattle.written_files.specs.Kept.{IsKept}
use Rattle.written_files.specs.Tidy.{AreTidy}
use Rattle.written_files.specs.inside.Counterparts.{AreAnew}
use Rattle.written_files.specs.inside.Laws.{AreLaws}
use Rattle.value_links.specs.Lists.{IsListOf, IsOwner}
use Rattle.value_links.specs.Reading.{ListRead, Reading, of_kind, lists_of, part_at, list_at, context_at}
use Rattle.value_links.specs.Sections.{debug_abbrev}
use Rattle.tidy_numbers.specs.LongLists.{IsLongInKept}
use Rattle.tidy_numbers.proofs.ShorterEntries.{HasShorter}
use Rattle.tidy_numbers.proofs.ShorterLists.{IsBareAt, lists_once, bare_once, list_bare}

-- no list is least that can be exchanged for a shorter one with the same entries
module _ (kind : ListKind) (bare : List ℕ) (exchange : (entries : List Entry) → SpellsList kind entries bare → HasShorter (SpellsList kind entries) bare) where
  not_least_frozen : (entries : List Entry) → IsLeastFrozen kind entries bare → ⊥
  not_least_frozen entries is =
      let (other, spells, fewer) = exchange entries is.member in
      let least = is.least other spells in
      omega (arith, fewer, least)

  not_least_live : (addresses : List ℕ) (context : Context) (bounds : List Bounds) → IsLeastList kind addresses context bounds bare → ⊥
  not_least_live addresses context bounds is =
      let m = is.member in
      let (other, spells, fewer) = exchange m.entries m.spelled in
      let least = is.least other (record { entries = m.entries; spelled = spells; gives = m.gives }) in
      omega (arith, fewer, least)

-- what is read of a list says some entries
pub said_of : (kind : ListKind) (section : List ℕ) (part : Contribution) (at : ℕ) (raws : List RawEntry) → IsListOf kind section part at raws → (entries : List Entry) × AreSaid kind raws entries
said_of Ranges section part at raws read = (read.entries, ranges_said at raws read.entries read.front read.read)
said_of Locations section part at raws read = (entries_of read.entries, locations_said at raws read.entries read.front read.read)

module _ (laws : AreLaws) (file written : List ℕ) (r s : Reading) (anew : AreAnew file written r s) (kind : ListKind) (k : ℕ) (inside : k < length (lists_of s kind)) where
  known : k < length (lists_of r kind)
  known =
      let count = ((laws.holds (AreTidy (debug_abbrev written)) file written r s anew.read anew.again anew.anew.tidy).lists kind).lists in
      omega (arith, count, inside)

  least : IsLeastWritten anew.classes kind r s k
  least =
      laws.holds (λ (x y : Reading). (of : ListKind) (j : ℕ) → j < length (lists_of x of) → IsLeastWritten anew.classes of x y j)
      file written r s anew.read anew.again anew.anew.lists kind k known

  there : IsBareAt kind (of_kind s.links kind).section (part_at (of_kind s.links kind) (list_at (lists_of s kind) k).part) (list_at (lists_of s kind) k).at (list_at (lists_of s kind) k).raws
  there =
      list_bare kind (of_kind s.links kind).section (part_at (of_kind s.links kind) (list_at (lists_of s kind) k).part)
      (list_at (lists_of s kind) k).at (list_at (lists_of s kind) k).raws ((anew.again.lists kind).each k inside).read

  -- the entries that its bytes spell can be spelled in fewer
  exchanged : HasShorter (SpellsList kind there.bare.entries) there.bare.bare → (entries : List Entry) → SpellsList kind entries least.bare → HasShorter (SpellsList kind entries) least.bare
  exchanged (other, spells, fewer) entries spelled =
      let b = there.bare in
      let bytes : there.bytes ++ there.rest ≡ least.bytes ++ least.rest = sym there.stands ∙ least.stands in
      let same : b.bare ≡ least.bare =
      bare_once kind b.entries entries there.bytes least.bytes there.rest least.rest b.bare least.bare b.without least.without b.spelled spelled bytes
      in
      let one : b.entries ≡ entries = (lists_once kind b.entries entries b.bare least.bare [] [] b.spelled spelled (ap (λ z. z ++ []) same)).1 in
      let size : length b.bare ≡ length least.bare = ap length same in
      (other, subst (λ (z : List Entry). SpellsList kind z other) one spells, omega (arith, fewer, size))

  -- no operand has a byte too many, whether the list is kept in the old file or not
  pub no_long_operand : (p : ℕ) → IsLongInKept anew.classes s.links kind (list_at (lists_of s kind) k) p → ⊥
  no_long_operand p (kept, (raw, among, long)) = live by_entries
    where
      old : ListRead
      old = list_at (lists_of r kind) k

      exchange : (entries : List Entry) → SpellsList kind entries least.bare → HasShorter (SpellsList kind entries) least.bare
      exchange = exchanged (there.bare.shorter raw among (p, long))

      said : (entries : List Entry) × AreSaid kind old.raws entries
      said = said_of kind (of_kind r.links kind).section (part_at (of_kind r.links kind) old.part) old.at old.raws ((anew.read.lists kind).each k known).read

      by_entries : IsKept anew.classes r.links kind old → ⊥
      by_entries is = not_least_frozen kind least.bare exchange said.0 (least.least.kept is said.0 said.1)

      by_owner : (owner : Option ℕ) → (IsKept anew.classes r.links kind old → ⊥) → IsOwner r.links kind old.at owner → ⊥
      by_owner None free owned = free (inr (said.0, said.1, inr (inr (inl owned))))
      by_owner (Some u) free owned =
          let (entries, bounds, said_there, gives) = (anew.read.lists kind).looked k u known owned.0 in
          not_least_live kind least.bare exchange r.links.addresses (context_at r.links u) bounds (least.least.live free u entries bounds owned said_there gives)

      live : (IsKept anew.classes r.links kind old → ⊥) → ⊥
      live free = let read = (anew.read.lists kind).expressions k known in by_owner read.owner free read.owned
