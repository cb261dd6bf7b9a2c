-- The numbers of which a summary tells.
-- Inner functions and proofs alone need what stands here.
use Rattle.std.specs.Prelude.{◌≡◌, ℕ, List, length, codes}
use Rattle.dw_base.specs.declared.classes.Classes.{Classes}
use Rattle.serde_json.specs.Data.{Data, number, unsigned, array, object, item, no_items, member, no_members}
use Rattle.list_model.specs.declared.entry.ListKind.TheVariants.{Ranges, Locations}
use Rattle.value_links.specs.Debug.{Debug}
use Rattle.value_links.specs.Sections.{debug_info, debug_abbrev, debug_line, debug_lists}
use Rattle.commands.specs.declared.summary.Sizes.{Sizes}
use Rattle.commands.specs.declared.summary.Counts.{Counts}
use Rattle.commands.specs.Summary.{entry_count, row_count, unit_count, summary_text, IsSummed}

-- these are how many bytes the sections of a file have
pub record AreSizes (file : List ℕ) (sizes : Sizes) : Type 0 where
  pub tables : sizes.tables ≡ length (debug_abbrev file)
  pub units : sizes.units ≡ length (debug_info file)
  pub lines : sizes.lines ≡ length (debug_line file)
  pub locations : sizes.locations ≡ length (debug_lists file Locations)
  pub ranges : sizes.ranges ≡ length (debug_lists file Ranges)

-- these are the numbers of what a file means
pub record AreCounts (debug : Debug) (counts : Counts) : Type 0 where
  pub entries : counts.entries ≡ entry_count debug
  pub rows : counts.rows ≡ row_count debug
  pub units : counts.units ≡ unit_count debug

-- the text is the line of a file, of one that may be written for it, and of what both mean
abbrev pub IsLineOf : Classes → List ℕ → List ℕ → Type 0
IsLineOf classes file text = (written : List ℕ) × (debug : Debug) × IsSummed classes file written debug × (text ≡ summary_text file written debug)

-- how many bytes a section has in both files, as an array of JSON
abbrev pub sizes_data : ℕ → ℕ → Data
sizes_data old new = array (item (number (unsigned old)) (item (number (unsigned new)) no_items))

-- the numbers as an object
abbrev pub summary_data : Sizes → Sizes → Counts → Data
summary_data old new counts =
    object (member (codes "abbrev") (sizes_data old.tables new.tables)
    (member (codes "entries") (number (unsigned counts.entries))
    (member (codes "info") (sizes_data old.units new.units)
    (member (codes "line") (sizes_data old.lines new.lines)
    (member (codes "loclists") (sizes_data old.locations new.locations)
    (member (codes "rnglists") (sizes_data old.ranges new.ranges)
    (member (codes "rows") (number (unsigned counts.rows))
    (member (codes "units") (number (unsigned counts.units)) no_members))))))))
