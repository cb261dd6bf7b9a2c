-- Laws of readings, meanings and faults.
use Rattle.std.specs.Prelude.{◌≡◌, ◌≤◌, ◌<◌, ◌+◌, ◌⊎◌, ℕ, List, length}
use Rattle.std.specs.List.{All, sum_by}
use Rattle.dw_base.specs.declared.fault.Kind.{Kind}
use Rattle.dw_base.specs.declared.fault.Reach.{Reach}
use Rattle.elf_sections.specs.Faults.{IsRead}
use Rattle.line_machine.specs.Faults.{row_limit}
use Rattle.line_write.specs.Faults.{total_limit}
use Rattle.dw_base.specs.declared.fault.Span.{Span}
use Rattle.spelled.specs.Spelled.{AreBytes}
use Rattle.form_codec.specs.Forms.{Meaning}
use Rattle.form_codec.specs.Values.{bytes_in}
use Rattle.entry_read.specs.Heads.{type_unit}
use Rattle.entry_read.specs.Expressions.{IsExprAt}
use Rattle.list_model.specs.declared.entry.ListKind.{ListKind}
use Rattle.list_model.specs.Reading.{list_entry_limit}
use Rattle.loc_lists.specs.Views.{view_limit}
use Rattle.companions.specs.declared.set.ArangeSet.{ArangeSet}
use Rattle.companions.specs.Aranges.{SetsTile}
use Rattle.value_links.specs.Sections.{debug_aranges, debug_lists}
use Rattle.value_links.specs.Reading.{ProgramRead, Linkable, Reading, of_kind, lists_of, unit_at, unit_starts, AreProgramsOf, AreUnitsOf}
use Rattle.value_links.specs.Whole.{ArePartsOf, IsReadToLinks, AreRootsRead, IsReading}
use Rattle.value_links.specs.Lists.{AreTold, AreWithinReach, pair_total}
use Rattle.value_links.specs.ListFaults.{list_total, entry_total, expression_bytes, expression_limit}
use Rattle.value_links.specs.Values.{HasValueAt}
use Rattle.value_links.specs.Operations.{IsSomeExpression, LinkedOperation, LinksExpression}
use Rattle.value_links.specs.Linked.{Linked, Links, IsLinked, IsTypeEntry}
use Rattle.value_links.specs.Resolved.{Resolved, Resolves}
use Rattle.value_links.specs.declared.link.Link.{Link}
use Rattle.value_links.specs.Links.{HasLink}
use Rattle.value_links.specs.Debug.{Debug, MeansDebug, Means}
use Rattle.value_links.specs.LinkFaults.{FaultValue, FaultOperations, FaultInUnit}
use Rattle.value_links.specs.Faults.{FaultOfFile, FaultOfNames, FaultOfPrograms, FaultOfUnits, FaultOfLinks, FaultOfLists, Faulty, IsValid}

-- A file is read in one way.
abbrev pub OneReading : Type 0
OneReading = (file : List ℕ) (r s : Reading) → IsReading file r → IsReading file s → r ≡ s

-- What values refer to is read in one way.
abbrev pub OneLinkable : Type 0
OneLinkable = (file : List ℕ) (r s : Linkable) → IsReadToLinks file r → IsReadToLinks file s → r ≡ s

-- The value of an attribute refers to one thing.
abbrev pub OneLinked : Type 0
OneLinked =
    (file : List ℕ) (r : Linkable) (u id name : ℕ) (meaning : Meaning) (v w : Linked) → IsReadToLinks file r → u < length r.units → Links r u id name meaning v → Links r u id name meaning w → v ≡ w

-- So does the value with a number among those of a unit's entries, which has one link.
abbrev pub OneLinkedValue : Type 0
OneLinkedValue = (file : List ℕ) (r : Linkable) (u number : ℕ) (v w : Linked) → IsReadToLinks file r → IsLinked r u number v → IsLinked r u number w → v ≡ w

abbrev pub OneLink : Type 0
OneLink = (file : List ℕ) (r : Linkable) (u number : ℕ) (a b : Link) → IsReadToLinks file r → HasLink r u number a → HasLink r u number b → a ≡ b

-- The value of an attribute means one thing.
abbrev pub OneMeaning : Type 0
OneMeaning =
    (file : List ℕ) (r : Reading) (u id name : ℕ) (meaning : Meaning) (v w : Resolved) → IsReading file r → u < length r.links.units → Resolves r u id name meaning v → Resolves r u id name meaning w → v ≡ w

-- A value that stands there and is linked means something, where all is told of lists.
abbrev pub LinkedMean : Type 0
LinkedMean =
    (file : List ℕ) (r : Reading) (u id number name : ℕ) (meaning : Meaning) (place : ℕ) (linked : Linked) → IsReading file r → ((kind : ListKind) → AreTold r.links kind (lists_of r kind)) → u < length r.links.units →
    HasValueAt (unit_at r.links u) id number name meaning place → Links r.links u id name meaning linked → (v : Resolved) × Resolves r u id name meaning v

-- A file means one thing.
abbrev pub OneDebug : Type 0
OneDebug = (file : List ℕ) (a b : Debug) → Means file a → Means file b → a ≡ b

-- Never both: a value that is linked has no fault.
abbrev pub LinkedHaveNoFault : Type 0
LinkedHaveNoFault =
    (r : Linkable) (u id name : ℕ) (meaning : Meaning) (linked : Linked) (kind : Kind) → Links r u id name meaning linked → FaultValue r u id name meaning kind → ⊥

-- An expression within the limits whose operations name what they may has no fault either.
abbrev pub LinkedExpressionsHaveNoFault : Type 0
LinkedExpressionsHaveNoFault =
    (r : Linkable) (u : ℕ) (reach : Reach) (bytes : List ℕ) (linked : List LinkedOperation) (kind : Kind) (place : ℕ) → LinksExpression r u bytes linked → IsSomeExpression reach bytes → FaultOperations r u reach bytes kind place → ⊥

-- The value of an attribute that isn't linked, since it names nothing that it may name, has a fault, or it is an expression that has one.
abbrev pub LinkedOrFaulty : Type 0
LinkedOrFaulty =
    (r : Linkable) (u id number name : ℕ) (meaning : Meaning) (place : ℕ) (reach : Reach) → HasValueAt (unit_at r u) id number name meaning place → AreBytes (unit_at r u).forest.section → ((linked : Linked) × Links r u id name meaning linked) ⊎ ((kind : Kind) × (at : ℕ) × FaultInUnit r reach u kind at)

-- A valid file that is read means something, where all is told of lists.
abbrev pub ValidFilesMean : Type 0
ValidFilesMean = (file : List ℕ) (reach : Reach) (r : Reading) → IsReading file r → ((kind : ListKind) → AreTold r.links kind (lists_of r kind)) → IsValid file reach → (debug : Debug) × MeansDebug file r debug

-- the rows of programs keep the limits of one program and of all
pub record HaveFewRows (programs : List ProgramRead) : Type 0 where
  pub each : All (λ (p : ProgramRead). length p.rows ≤ row_limit) programs
  pub all : sum_by (λ (p : ProgramRead). length p.rows) programs ≤ total_limit

-- the expressions of what is read are within the limits of a reach
abbrev pub AreExpressionsWithin : Linkable → Reach → Type 0
AreExpressionsWithin r reach = (u number : ℕ) (span : Span) → u < length r.units → IsExprAt (unit_at r u).forest number span → IsSomeExpression reach (bytes_in (unit_at r u).forest.section span)

-- Each value is linked, and each type unit has the entry of its type.
pub record AreLinked (r : Linkable) : Type 0 where
  pub values : (u id number name : ℕ) (meaning : Meaning) (place : ℕ) → u < length r.units → HasValueAt (unit_at r u) id number name meaning place → (linked : Linked) × Links r u id name meaning linked
  pub types : (u : ℕ) → u < length r.units → (unit_at r u).head.kind ≡ type_unit → (id : ℕ) × IsTypeEntry r u id

-- the lists that something names keep the limits of their entries, of their expressions and of their view pairs
pub record AreListsWithin (r : Reading) (reach : Reach) : Type 0 where
  pub entries : entry_total r.range_lists + entry_total r.location_lists ≤ list_entry_limit reach
  pub bytes : list_total expression_bytes r.range_lists + list_total expression_bytes r.location_lists ≤ expression_limit reach
  pub expressions : (kind : ListKind) → AreWithinReach r.links kind reach (lists_of r kind)
  pub views : pair_total r.views ≤ view_limit

-- the first two passes find the image of a file in order, the third its programs too, the fourth its units and contributions, and the
-- fifth what values refer to, first bases, address tables and sets of address ranges
abbrev pub IsImageInOrder : List ℕ → Reach → Type 0
IsImageInOrder file reach = IsRead file reach

pub record AreProgramsInOrder (file : List ℕ) (reach : Reach) (r : Linkable) : Type 0 where
  pub before : IsImageInOrder file reach
  pub programs : AreProgramsOf file r.programs
  pub few : HaveFewRows r.programs

pub record AreUnitsInOrder (file : List ℕ) (reach : Reach) (r : Linkable) : Type 0 where
  pub before : AreProgramsInOrder file reach r
  pub units : AreUnitsOf file r.units
  pub lists : (kind : ListKind) → ArePartsOf (debug_lists file kind) (of_kind r kind)

pub record AreLinksInOrder (file : List ℕ) (reach : Reach) (r : Linkable) : Type 0 where
  pub before : AreUnitsInOrder file reach r
  pub read : IsReadToLinks file r
  pub linked : AreLinked r
  pub within : AreExpressionsWithin r reach
  pub roots : AreRootsRead r
  pub sets : (sets : List ArangeSet) × SetsTile (debug_aranges file) (unit_starts r.units) sets

-- A fault of a pass is one of the file, where the passes before it find all in order.
pub record FirstFaultsDecide : Type 0 where
  pub file : (file : List ℕ) (reach : Reach) (kind : Kind) (place : ℕ) → FaultOfFile file reach kind place → Faulty file reach kind place
  pub names : (file : List ℕ) (reach : Reach) (kind : Kind) (place : ℕ) → ((k : Kind) (p : ℕ) → FaultOfFile file reach k p → ⊥) → FaultOfNames file kind place → Faulty file reach kind place
  pub programs : (file : List ℕ) (reach : Reach) (kind : Kind) (place : ℕ) → IsImageInOrder file reach → FaultOfPrograms file kind place → Faulty file reach kind place
  pub units : (file : List ℕ) (reach : Reach) (r : Linkable) (kind : Kind) (place : ℕ) → AreProgramsInOrder file reach r → FaultOfUnits file kind place → Faulty file reach kind place
  pub links : (file : List ℕ) (reach : Reach) (r : Linkable) (kind : Kind) (place : ℕ) → AreUnitsInOrder file reach r → FaultOfLinks file reach kind place → Faulty file reach kind place
  pub lists : (file : List ℕ) (reach : Reach) (r : Linkable) (kind : Kind) (place : ℕ) → AreLinksInOrder file reach r → FaultOfLists file reach kind place → Faulty file reach kind place

-- A file of which all is read, that means something and keeps the limits is valid.
abbrev pub MeaningFilesAreValid : Type 0
MeaningFilesAreValid =
    (file : List ℕ) (reach : Reach) (r : Reading) (debug : Debug) → AreUnitsInOrder file reach r.links → IsReading file r → MeansDebug file r debug → AreExpressionsWithin r.links reach → AreListsWithin r reach → IsValid file reach
