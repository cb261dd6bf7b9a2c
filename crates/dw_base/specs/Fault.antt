-- The words for the kinds of fault.
use Rattle.std.specs.Prelude.{ℕ, List, codes}
use Rattle.dw_base.specs.declared.fault.Kind.{Kind}
use Rattle.dw_base.specs.declared.fault.Kind.TheVariants.{NotElf64, FileType, Torn, Overlap, Compressed, Relocated, TwoSections, Placed, Companion, Limit, LebWide, Short, FormUnknown, CodeTwice, CodeMissing, UnitHead, Tree, Target, Pointer, NoBase, ListEntry, ListShared, Op, Branch, LineHead, LineOp, OpenSequence, LineValue, Text, Aranges, Unbuilt}

-- the word for a kind
abbrev pub name_of : Kind → List ℕ
name_of NotElf64 = codes "NotElf64"
name_of FileType = codes "FileType"
name_of Torn = codes "Torn"
name_of Overlap = codes "Overlap"
name_of Compressed = codes "Compressed"
name_of Relocated = codes "Relocated"
name_of TwoSections = codes "TwoSections"
name_of Placed = codes "Placed"
name_of Companion = codes "Companion"
name_of Limit = codes "Limit"
name_of LebWide = codes "LebWide"
name_of Short = codes "Short"
name_of FormUnknown = codes "FormUnknown"
name_of CodeTwice = codes "CodeTwice"
name_of CodeMissing = codes "CodeMissing"
name_of UnitHead = codes "UnitHead"
name_of Tree = codes "Tree"
name_of Target = codes "Target"
name_of Pointer = codes "Pointer"
name_of NoBase = codes "NoBase"
name_of ListEntry = codes "ListEntry"
name_of ListShared = codes "ListShared"
name_of Op = codes "Op"
name_of Branch = codes "Branch"
name_of LineHead = codes "LineHead"
name_of LineOp = codes "LineOp"
name_of OpenSequence = codes "OpenSequence"
name_of LineValue = codes "LineValue"
name_of Text = codes "Text"
name_of Aranges = codes "Aranges"
name_of Unbuilt = codes "Unbuilt"
