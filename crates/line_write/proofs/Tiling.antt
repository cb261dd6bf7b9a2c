-- Units that tile a section.
use Rattle.std.proofs.Common.{◌≡◌, ◌≤◌, ◌<◌, ◌+◌, ◌++◌, ◌⊎◌, ◌∙◌, ℕ, List, [], ◌∷◌, length, sym, ap, refl, subst, arith, inl, inr}
use Rattle.dw_base.specs.declared.fault.Kind.{Kind}
use Rattle.dw_base.specs.declared.fault.Kind.TheVariants.{Limit, Short, LineHead}
use Rattle.line_machine.specs.declared.head.Head.{Head}
use Rattle.line_machine.specs.declared.registers.Row.{Row}
use Rattle.line_machine.specs.Rows.{GivesRows}
use Rattle.line_machine.specs.Heads.{HasHead, head_at, IsHead, program_of}
use Rattle.line_machine.specs.Faults.{HeadFault, ProgramFault, row_limit}
use Rattle.dw_base.specs.Refusals.{IsFaulty}
use Rattle.line_machine.proofs.Programs.{program_whole, based_of, one_reading}
use Rattle.line_write.specs.Programs.{Follow, Tile}
use Rattle.line_write.specs.Meaning.{ProgramMeaning, HaveMeanings, MeansLines}
use Rattle.line_write.specs.Faults.{total_limit, HaveRows, FaultOfUnit, PassesTotal, LinesFault}
use Rattle.line_write.proofs.ReadBack.{bounds}

-- one more unit
pub follow_push : (section : List ℕ) (heads : List Head) (head : Head) (a b : ℕ) → Follow section heads a b → head.at ≡ b → IsHead section head → Follow section (heads ++ head ∷ []) a (b + head.len)
follow_push section [] head a b e at h = (at ∙ sym e, h, ap (λ z. z + head.len) e)
follow_push section (x ∷ heads) head a b f at h = (f.0, f.1, follow_push section heads head (a + x.len) b f.2 at h)

-- Each program gives rows, of which there aren't too many; together they are so many.
abbrev pub AreGiven : List ℕ → List Head → ℕ → Type 0
AreGiven section [] total = total ≡ 0
AreGiven section (head ∷ heads) total =
    (rows : List Row) × (others : ℕ) × GivesRows head (program_of section head) rows × (length rows ≤ row_limit) × AreGiven section heads others × (total ≡ length rows + others)

pub given_rows : (section : List ℕ) (heads : List Head) (total : ℕ) → AreGiven section heads total → HaveRows section heads total
given_rows section [] total e = e
given_rows section (x ∷ heads) total (r, others, gx, fx, v, e) = (r, others, gx, given_rows section heads others v, e)

-- the head that stands at a place is the one of its bytes
pub head_is : (section : List ℕ) (head : Head) (at : ℕ) → IsHead section head → head.at ≡ at → head ≡ head_at section at
head_is section head at h e = h.fields ∙ ap (head_at section) e

pub rules_at : (section : List ℕ) (head : Head) (at : ℕ) → IsHead section head → head.at ≡ at → HasHead section at
rules_at section head at h e = subst (λ (z : ℕ). HasHead section z) e h.rules

-- no unit begins at the section's end
end_apart : (section : List ℕ) (head : Head) (at : ℕ) → IsHead section head → head.at ≡ at → at ≡ length section → ⊥
end_apart section head at h e f =
    let b = bounds section head.at h.rules in
    absurd (omega arith)

-- heads at one place are one
one_head : (section : List ℕ) (h k : Head) (a : ℕ) → IsHead section h → IsHead section k → h.at ≡ a → k.at ≡ a → h ≡ k
one_head section h k a p q e f = head_is section h a p e ∙ sym (head_is section k a q f)

-- After units that are a section's front the next one of those that tile it gives rows.
record NextGiven (section : List ℕ) (heads : List Head) (at total : ℕ) : Type 0 where
  head : Head
  stands : IsHead section head
  here : head.at ≡ at
  rows : List Row
  given : GivesRows head (program_of section head) rows
  few : length rows ≤ row_limit
  sum : (before : ℕ) → HaveRows section heads before → before + length rows ≤ total

next_given : (section : List ℕ) (hs ks : List Head) (a b total : ℕ) → Follow section hs a b → Follow section ks a (length section) → AreGiven section ks total → b < length section → NextGiven section hs b total
next_given section [] [] a b total f g v lt = absurd (omega arith)
next_given section [] (k ∷ ks) a b total f g (rows, others, gives, few, v, e) lt = record {
  head = k;
  stands = g.1;
  here = g.0 ∙ f;
  rows = rows;
  given = gives;
  few = few;
  sum = λ before none. omega arith;
}
next_given section (h ∷ hs) [] a b total f g v lt = absurd (end_apart section h a f.1 f.0 g)
next_given section (h ∷ hs) (k ∷ ks) a b total f g (rows, others, gives, few, v, e) lt =
    let same : h ≡ k = one_head section h k a f.1 g.1 f.0 g.0 in
    let after : Follow section hs (a + k.len) b = subst (λ (z : Head). Follow section hs (a + z.len) b) same f.2 in
    let next = next_given section hs ks (a + k.len) b others after g.2 v lt in
    record {
      head = next.head;
      stands = next.stands;
      here = next.here;
      rows = next.rows;
      given = next.given;
      few = next.few;
      sum = λ before (r, o, gr, have, sum).
          let gk : GivesRows k (program_of section k) r = subst (λ (z : Head). GivesRows z (program_of section z) r) same gr in
          let one : r ≡ rows = one_reading k (program_of section k) r rows (based_of section k g.1) gk gives in
          let size : length r ≡ length rows = ap length one in
          let rest : o + length next.rows ≤ others = next.sum o have in
          omega arith;
    }

head_whole : (section : List ℕ) (at : ℕ) (kind : Kind) (place : ℕ) → HasHead section at → HeadFault section at kind place → ⊥
head_whole section at Short place rules (e, inl leaves) = rules.here leaves
head_whole section at Short place rules (e, inr (stays, inl cut)) = let b = bounds section at rules in absurd (omega arith)
head_whole section at Short place rules (e, inr (stays, inr cut)) = let b = bounds section at rules in absurd (omega arith)
head_whole section at LineHead place rules (e, stays, none) = none rules
head_whole section at _ place rules f = f

split_fault : (section : List ℕ) (kind : Kind) (place : ℕ) → LinesFault section kind place → FaultOfUnit section kind place ⊎ PassesTotal section place
split_fault section Limit place f = f
split_fault section kind place f = inl f

-- programs that tile a section and give rows, of which there aren't too many, have no fault
pub lines_whole : (section : List ℕ) (heads : List Head) (total : ℕ) → Tile section heads → AreGiven section heads total → total ≤ total_limit → ¬ IsFaulty (LinesFault section)
lines_whole section heads total tile given few (kind, place, fault) =
    elim (split_fault section kind place fault) [
      | inl u ↦
          let next = next_given section u.heads heads 0 u.at total u.front tile given u.inside in
          let rules : HasHead section u.at = rules_at section next.head u.at next.stands next.here in
          elim u.fault [
            | inl head ↦ head_whole section u.at kind place rules head
            | inr program ↦
                let same : next.head ≡ head_at section u.at = head_is section next.head u.at next.stands next.here in
                program_whole section next.head next.rows (based_of section next.head next.stands) next.given next.few (kind, place, subst (λ (z : Head). ProgramFault section z kind place) (sym same) program.1)
          ]
      | inr t ↦
          let b = bounds section t.head.at t.stands.rules in
          let inside : t.head.at < length section = omega arith in
          let next = next_given section t.heads heads 0 t.head.at total t.front tile given inside in
          let same : next.head ≡ t.head = one_head section next.head t.head t.head.at next.stands t.stands next.here refl in
          let gives : GivesRows t.head (program_of section t.head) next.rows = subst (λ (z : Head). GivesRows z (program_of section z) next.rows) same next.given in
          let one : t.rows ≡ next.rows = one_reading t.head (program_of section t.head) t.rows next.rows (based_of section t.head t.stands) t.given gives in
          let size : length t.rows ≡ length next.rows = ap length one in
          let sum : t.before + length next.rows ≤ total = next.sum t.before t.counted in
          let past : total_limit < t.before + length t.rows = t.past in
          absurd (omega arith)
    ]

pub unit_lines : (section : List ℕ) (kind : Kind) (place : ℕ) → FaultOfUnit section kind place → LinesFault section kind place
unit_lines section Limit place f = inl f
unit_lines section kind place f = f

-- the heads that tile a section are one list
pub one_tile : (section : List ℕ) (hs ks : List Head) (a : ℕ) → Follow section hs a (length section) → Follow section ks a (length section) → hs ≡ ks
one_tile section [] [] a f g = refl
one_tile section [] (k ∷ ks) a f g = absurd (end_apart section k a g.1 g.0 f)
one_tile section (h ∷ hs) [] a f g = absurd (end_apart section h a f.1 f.0 g)
one_tile section (h ∷ hs) (k ∷ ks) a f g =
    let same : h ≡ k = one_head section h k a f.1 g.1 f.0 g.0 in
    let after : Follow section hs (a + k.len) (length section) = subst (λ (z : Head). Follow section hs (a + z.len) (length section)) same f.2 in
    ap (λ z. z ∷ hs) same ∙ ap (λ z. k ∷ z) (one_tile section hs ks (a + k.len) after g.2)

same_meaning : (m n : ProgramMeaning) → m.min ≡ n.min → m.is_stmt ≡ n.is_stmt → m.tables ≡ n.tables → m.rows ≡ n.rows → m ≡ n
same_meaning m n a b c d =
    ap (λ z. record m { min = z }) a
    ∙ ap (λ z. record m { min = n.min; is_stmt = z }) b
    ∙ ap (λ z. record m { min = n.min; is_stmt = n.is_stmt; tables = z }) c
    ∙ ap (λ z. record n { rows = z }) d

pub one_meaning_each : (section : List ℕ) (heads : List Head) (a : ℕ) (some others : List ProgramMeaning) → Follow section heads a (length section) → HaveMeanings section heads some → HaveMeanings section heads others → some ≡ others
one_meaning_each section [] a [] [] f h k = refl
one_meaning_each section [] a [] (n ∷ ns) f h k = absurd k
one_meaning_each section [] a (m ∷ ms) ns f h k = absurd h
one_meaning_each section (head ∷ heads) a [] ns f h k = absurd h
one_meaning_each section (head ∷ heads) a (m ∷ ms) [] f h k = absurd k
one_meaning_each section (head ∷ heads) a (m ∷ ms) (n ∷ ns) f h k =
    let x = h.0 in
    let y = k.0 in
    let rows : m.rows ≡ n.rows = one_reading head (program_of section head) m.rows n.rows (based_of section head f.1) x.rows y.rows in
    let first : m ≡ n = same_meaning m n (x.min ∙ sym y.min) (x.is_stmt ∙ sym y.is_stmt) (x.tables ∙ sym y.tables) rows in
    ap (λ z. z ∷ ms) first ∙ ap (λ z. n ∷ z) (one_meaning_each section heads (a + head.len) ms ns f.2 h.1 k.1)

-- a section has one list of meanings
pub meaning_once : (section : List ℕ) (some others : List ProgramMeaning) → MeansLines section some → MeansLines section others → some ≡ others
meaning_once section some others (hs, f, h) (ks, g, k) =
    let same : hs ≡ ks = one_tile section hs ks 0 f g in
    one_meaning_each section ks 0 some others g (subst (λ (z : List Head). HaveMeanings section z some) same h) k
