-- Each entry of a whole walk is its code and the values of its columns.
use Rattle.std.proofs.Common.{◌≡◌, ◌<◌, ◌+◌, ◌-◌, ◌∙◌, ◌++◌, ℕ, List, [], ◌∷◌, length, take, drop, sym, ap, subst, arith}
use Rattle.std.proofs.lemmas.List.{append-nil, append_assoc}
use Rattle.form_codec.specs.declared.value.Value.{Value}
use Rattle.abbrev_tables.specs.Tables.{Declared}
use Rattle.entry_arena.specs.Trees.{Listed, ValuesBetween, declared_at}
use Rattle.entry_arena.specs.Walks.{Item, Walks, opened}
use Rattle.entry_arena.specs.Walks.Item.{AnEntry, AnEnd}
use Rattle.entry_arena.specs.Standing.{StandsAs, EntriesStand}
use Rattle.entry_arena.proofs.FrontLaws.{comes_to_entry}
use Rattle.entry_arena.proofs.StepLaws.{entry_rises}
use Rattle.spelled.proofs.Parts.{own_part}

-- a walk puts values behind those that are there
pub walks_extend : (section : List ℕ) (ds : List Declared) (old : Listed) (chains : List ℕ) (items : List Item) (new : Listed) (left : List ℕ) → Walks section ds old chains items new left → (more : List Value) × (new.values ≡ old.values ++ more)
walks_extend section ds old chains [] new left (same, e) = ([], ap (λ z. z.values) same ∙ sym (append-nil old.values))
walks_extend section ds old chains (AnEntry number ∷ items) new left (going, (mid, adds, rest)) =
    let (more, after) = walks_extend section ds mid (opened ds number (length old.entries) chains) items new left rest in
    (adds.values ++ more, after ∙ ap (λ z. z ++ more) adds.listed ∙ append_assoc old.values adds.values more)
walks_extend section ds old chains (AnEnd ∷ items) new left (id, outer, mid, e, adds, rest) =
    let (more, after) = walks_extend section ds mid outer items new left rest in
    (more, after ∙ ap (λ z. z ++ more) adds.listed)

pub entries_stand : EntriesStand
entries_stand section ds start forest id whole inside =
    let c = comes_to_entry section ds start whole.items forest [] whole.walked id inside in
    let (more, after) = walks_extend section ds c.mid (opened ds c.number id c.chains) c.after forest [] c.rest in
    let all : forest.values ≡ (c.now.values ++ c.adds.values) ++ more = after ∙ ap (λ z. z ++ more) c.adds.listed in
    let own : take (length c.adds.values) (drop (length c.now.values) forest.values) ≡ c.adds.values = ap (λ z. take (length c.adds.values) (drop (length c.now.values) z)) all ∙ own_part c.now.values c.adds.values more in
    let rises : c.now.place < c.mid.place = entry_rises section ds (length c.chains) c.number c.now c.mid c.adds in
    let end : c.now.place + (c.mid.place - c.now.place) ≡ c.mid.place = omega arith in
    let valued = subst (λ (z : List Value). ValuesBetween section ((declared_at ds c.number).columns) z c.adds.values_at c.mid.place) (sym own) c.adds.valued in
    let ended = subst (λ (z : ℕ). ValuesBetween section ((declared_at ds c.number).columns) (take (length c.adds.values) (drop (length c.now.values) forest.values)) c.adds.values_at z) (sym end) valued in
    subst (StandsAs section ds forest.values) (sym c.here) (record { values_at = c.adds.values_at; coded = c.adds.coded; valued = ended })
