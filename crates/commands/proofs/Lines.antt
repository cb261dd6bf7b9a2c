-- The text of a summary.
use Rattle.std.proofs.Common.{◌≡◌, ◌++◌, ◌∙◌, ℕ, List, [], ◌∷◌, codes, append_assoc, refl, sym}
use Rattle.std.specs.Fmt.{decimal}
use Rattle.serde_json.specs.Written.{compact_text}
use Rattle.serde_json.proofs.OnLiterals.{serde_json_on_literals}
use Rattle.value_links.specs.Debug.{Debug}
use Rattle.commands.specs.Summary.{summary_text}
use Rattle.commands.specs.declared.summary.Sizes.{Sizes}
use Rattle.commands.specs.declared.summary.Counts.{Counts}
use Rattle.commands.specs.inside.Summary.{AreSizes, AreCounts, sizes_data, summary_data}

-- pieces that stand in brackets and behind one another, appended in two ways
pair_regrouped : (key open_bracket old comma new close : List ℕ) → ((((key ++ open_bracket) ++ old) ++ comma) ++ new) ++ close ≡ key ++ (open_bracket ++ (old ++ (comma ++ (new ++ close))))
pair_regrouped key open_bracket old comma new close = simp append_assoc

regrouped : (k1 s1 e1 d1 k2 s2 k3 s3 k4 s4 k5 s5 e2 d2 e3 d3 f g : List ℕ) →
    (k1 ++ (s1 ++ (e1 ++ (d1 ++ (k2 ++ (s2 ++ (k3 ++ (s3 ++ (k4 ++ (s4 ++ (k5 ++ (s5 ++ (e2 ++ (d2 ++ (e3 ++ (d3 ++ f)))))))))))))))) ++ g
    ≡ ((((((((((k1 ++ s1) ++ e1) ++ d1) ++ (k2 ++ s2)) ++ (k3 ++ s3)) ++ (k4 ++ s4)) ++ (k5 ++ s5)) ++ e2) ++ d2) ++ e3) ++ d3 ++ (f ++ g)
regrouped k1 s1 e1 d1 k2 s2 k3 s3 k4 s4 k5 s5 e2 d2 e3 d3 f g = simp append_assoc

-- how many bytes a section has in both files, behind its key
abbrev pair_text : List ℕ → ℕ → ℕ → List ℕ
pair_text key old new = key ++ codes "[" ++ decimal old ++ codes "," ++ decimal new ++ codes "]"

abbrev array_text : ℕ → ℕ → List ℕ
array_text old new = compact_text (sizes_data old new)

pair_is : (key : List ℕ) (old new : ℕ) → key ++ array_text old new ≡ pair_text key old new
unfolding serde_json_on_literals
pair_is key old new = sym (pair_regrouped key (codes "[") (decimal old) (codes ",") (decimal new) (codes "]"))

-- the line of these numbers
abbrev line_text : Sizes → Sizes → Counts → List ℕ
line_text old new counts =
    pair_text (codes "{\"abbrev\":") old.tables new.tables
    ++ codes ",\"entries\":" ++ decimal counts.entries
    ++ pair_text (codes ",\"info\":") old.units new.units
    ++ pair_text (codes ",\"line\":") old.lines new.lines
    ++ pair_text (codes ",\"loclists\":") old.locations new.locations
    ++ pair_text (codes ",\"rnglists\":") old.ranges new.ranges
    ++ codes ",\"rows\":" ++ decimal counts.rows
    ++ codes ",\"units\":" ++ decimal counts.units
    ++ codes "}\n"

-- the line of pieces that are the same
same_pieces : (e1 d1 e2 d2 e3 d3 f p1 p2 p3 p4 p5 q1 q2 q3 q4 q5 : List ℕ) → p1 ≡ q1 → p2 ≡ q2 → p3 ≡ q3 → p4 ≡ q4 → p5 ≡ q5 →
    ((((((((((p1 ++ e1) ++ d1) ++ p2) ++ p3) ++ p4) ++ p5) ++ e2) ++ d2) ++ e3) ++ d3) ++ f
    ≡ ((((((((((q1 ++ e1) ++ d1) ++ q2) ++ q3) ++ q4) ++ q5) ++ e2) ++ d2) ++ e3) ++ d3) ++ f
same_pieces e1 d1 e2 d2 e3 d3 f p1 p2 p3 p4 p5 q1 q2 q3 q4 q5 a b c d e = cc

object_text : (old new : Sizes) (counts : Counts) → compact_text (summary_data old new counts) ++ 10 ∷ [] ≡ line_text old new counts
unfolding serde_json_on_literals
object_text old new counts =
    regrouped (codes "{\"abbrev\":") (array_text old.tables new.tables) (codes ",\"entries\":") (decimal counts.entries) (codes ",\"info\":") (array_text old.units new.units) (codes ",\"line\":") (array_text old.lines new.lines) (codes ",\"loclists\":") (array_text old.locations new.locations) (codes ",\"rnglists\":") (array_text old.ranges new.ranges) (codes ",\"rows\":") (decimal counts.rows) (codes ",\"units\":") (decimal counts.units) (125 ∷ []) (10 ∷ [])
    ∙ same_pieces (codes ",\"entries\":") (decimal counts.entries) (codes ",\"rows\":") (decimal counts.rows) (codes ",\"units\":") (decimal counts.units) (codes "}\n")
    (codes "{\"abbrev\":" ++ array_text old.tables new.tables) (codes ",\"info\":" ++ array_text old.units new.units) (codes ",\"line\":" ++ array_text old.lines new.lines) (codes ",\"loclists\":" ++ array_text old.locations new.locations) (codes ",\"rnglists\":" ++ array_text old.ranges new.ranges)
    (pair_text (codes "{\"abbrev\":") old.tables new.tables) (pair_text (codes ",\"info\":") old.units new.units) (pair_text (codes ",\"line\":") old.lines new.lines) (pair_text (codes ",\"loclists\":") old.locations new.locations) (pair_text (codes ",\"rnglists\":") old.ranges new.ranges)
    (pair_is (codes "{\"abbrev\":") old.tables new.tables) (pair_is (codes ",\"info\":") old.units new.units) (pair_is (codes ",\"line\":") old.lines new.lines) (pair_is (codes ",\"loclists\":") old.locations new.locations) (pair_is (codes ",\"rnglists\":") old.ranges new.ranges)

-- the text of the object and a line feed
pub summary_said : (old new : Sizes) (counts : Counts) (file written : List ℕ) (debug : Debug) → AreSizes file old → AreSizes written new → AreCounts debug counts → compact_text (summary_data old new counts) ++ 10 ∷ [] ≡ summary_text file written debug
summary_said old new counts file written debug o n k =
    object_text old new counts ∙ rw (o.tables, o.units, o.lines, o.locations, o.ranges, n.tables, n.units, n.lines, n.locations, n.ranges, k.entries, k.rows, k.units) refl
