-- How many bytes a list has without its expressions and their lengths.
use Rattle.std.proofs.Common.{◌≡◌, ◌≤◌, ◌<◌, ◌+◌, ◌-◌, ℕ, List, ◌∷◌, length, drop, get_or, sym, ap, refl, subst, arith}
use Rattle.std.specs.Prelude.{Some}
use Rattle.std.proofs.lemmas.List.{drop_more, drop_all}
use Rattle.spelled.specs.Spelled.{HasUniqueFronts}
use Rattle.entry_arena.specs.Trees.{SpellsBetween}
use Rattle.entry_arena.proofs.Between.{spells_once}
use Rattle.list_model.specs.declared.entry.EntryKind.{EntryKind}
use Rattle.list_model.specs.declared.entry.ListKind.{ListKind}
use Rattle.list_model.specs.declared.entry.RawEntry.{RawEntry}
use Rattle.list_model.specs.Entries.{Entry, code_of, SpellsOperands, SpellsEntry}
use Rattle.list_model.proofs.EntryLaws.{one_kind, entries_once}
use Rattle.unit_slots.specs.Standing.{OperandsEnd}
use Rattle.check_records.specs.inside.Bare.{StandFrom, HasBareSize, AreCounted}

-- ---- where operands end

abbrev entry_by : EntryKind → ℕ × ℕ → Entry
entry_by kind operands = record { kind = kind; a = operands.0; b = operands.1 }

coded : (list : ListKind) (kind : EntryKind) (code : ℕ) → code_of list kind ≡ Some code → (operands : ℕ × ℕ) (bytes : List ℕ) → SpellsOperands kind operands bytes → SpellsEntry list (entry_by kind operands) (code ∷ bytes)
coded list kind code known operands bytes spelled = record { code = code; operands = bytes; known = known; spelled = spelled; whole = refl }

-- the operands of a kind end by themselves, since entries do
operands_once : (list : ListKind) (kind : EntryKind) (code : ℕ) → code_of list kind ≡ Some code → HasUniqueFronts (SpellsOperands kind)
operands_once list kind code known v w a b x y p q h =
    let once = entries_once list (entry_by kind v) (entry_by kind w) (code ∷ a) (code ∷ b) x y (coded list kind code known v a p) (coded list kind code known w b q) (ap (λ (z : List ℕ). code ∷ z) h) in
    (ap (drop 1) once.0, ap (λ (z : Entry). (z.a, z.b)) once.1)

-- they end at one place
pub ends_once : (list : ListKind) (section : List ℕ) (raw : RawEntry) (a b : ℕ) → OperandsEnd list section raw a → OperandsEnd list section raw b → a ≡ b
ends_once list section raw a b p q =
    let kinds : q.kind ≡ p.kind = one_kind list q.kind p.kind raw.code q.known p.known in
    let other = subst (λ (z : EntryKind). SpellsBetween (SpellsOperands z q.operands) section (raw.at + 1) b) kinds q.spelled in
    (spells_once (SpellsOperands p.kind) (operands_once list p.kind raw.code p.known) section p.operands q.operands (raw.at + 1) a b p.spelled other).0

-- ---- counting

pub counting_starts : (kind : ListKind) (section : List ℕ) (raws : List RawEntry) → StandFrom kind section 0 raws → AreCounted kind section raws 0 1
counting_starts kind section raws stand = record {
  from = 0;
  left = stand;
  few = omega arith;
  sum = λ rest sized. subst (λ (z : ℕ). HasBareSize kind section raws z) (omega arith) sized;
}

module _ (kind : ListKind) (section : List ℕ) (raws : List RawEntry) (n size : ℕ) (counted : AreCounted kind section raws n size) where
  module _ (less : n < length raws) (d : RawEntry) where
    -- the next entry stands behind those before it
    next_stands : StandFrom kind section counted.from (get_or raws n d ∷ drop (n + 1) raws)
    next_stands = subst (λ (z : List RawEntry). StandFrom kind section counted.from z) (drop_more raws n d less) counted.left

    pub next_ends : (end : ℕ) × OperandsEnd kind section (get_or raws n d) end
    next_ends = (next_stands.1.0, next_stands.1.1)

    module _ (end : ℕ) (ends : OperandsEnd kind section (get_or raws n d) end) where
      -- its bytes
      pub next_order : (get_or raws n d).at ≤ end
      next_order = let order = ends.spelled.order in omega (arith, order)

      pub next_small : size + (end - (get_or raws n d).at) ≤ length section + 1
      next_small =
          let order = ends.spelled.order in
          let inside = ends.spelled.inside in
          let few = counted.few in
          let behind = next_stands.0 in
          omega (arith, order, inside, few, behind)

      next_sum : (rest : ℕ) → HasBareSize kind section (drop (n + 1) raws) (rest + 1) → HasBareSize kind section raws (size + ((end - (get_or raws n d).at) + rest))
      next_sum rest sized =
          counted.sum ((end - (get_or raws n d).at) + rest)
          (subst (λ (z : List RawEntry). HasBareSize kind section z (((end - (get_or raws n d).at) + rest) + 1)) (sym (drop_more raws n d less)) (end, rest + 1, ends, sized, omega arith))

      -- they are counted
      pub counting_goes_on : (next : ℕ) → next ≡ size + (end - (get_or raws n d).at) → AreCounted kind section raws (n + 1) next
      counting_goes_on next is = record {
        from = end;
        left = subst (λ (z : ℕ). StandFrom kind section z (drop (n + 1) raws)) (ends_once kind section (get_or raws n d) next_stands.1.0 end next_stands.1.1 ends) next_stands.1.2;
        few = (let order = ends.spelled.order in
            let few = counted.few in
            let behind = next_stands.0 in
            omega (arith, is, order, few, behind));
        sum = λ rest sized. subst (λ (z : ℕ). HasBareSize kind section raws z) (omega (arith, is)) (next_sum rest sized);
      }

  -- all are
  pub all_counted : length raws ≤ n → HasBareSize kind section raws size
  all_counted most =
      subst (λ (z : ℕ). HasBareSize kind section raws z) (omega arith)
      (counted.sum 0 (subst (λ (z : List RawEntry). HasBareSize kind section z 1) (sym (drop_all n raws most)) refl))
