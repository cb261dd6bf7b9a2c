-- What stood at a place of a unit stands at its new place.
use Rattle.std.proofs.Common.{◌≡◌, ◌<◌, ◌∙◌, inl, inr, ℕ, List, length, get_or, sym, ap, subst}
use Rattle.std.specs.Prelude.{map}
use Rattle.std.specs.List.{AllZip}
use Rattle.std.proofs.Math.ListN.{get_or-map}
use Rattle.std.proofs.lemmas.List.Elements.{AllZip-get_or, length_all_zip}
use Rattle.entry_arena.specs.declared.entry.Entry.{Entry}
use Rattle.entry_arena.specs.declared.entry.ChainEnd.{ChainEnd}
use Rattle.entry_arena.specs.declared.entry.Target.{Target}
use Rattle.entry_arena.specs.declared.entry.Target.TheVariants.{Entry as TheEntry, ChainEnd as TheEnd}
use Rattle.entry_arena.specs.Arena.{Arena, entry_at, chain_end_at, IsEntryAt, IsChainEndAt}
use Rattle.unit_write.specs.Moved.{IsMovedEntry, IsMovedEnd}
use Rattle.value_links.specs.Linked.{IsTargetAt}
use Rattle.rewriter.specs.inside.Placed.{PlacesAnew}
use Rattle.rewriter.specs.inside.Numbers.{MovesEntry, MovesEnd, MovesTo}

-- one target stands at the old place and at the new one
pub record TargetMoves (f g : Arena) (old new : ℕ) : Type 0 where
  pub target : Target
  pub from : IsTargetAt f target old
  pub to : IsTargetAt g target new

module _ (f g : Arena) (places : PlacesAnew) (numbers : List ℕ) (entries : AllZip (IsMovedEntry numbers) f.entries g.entries) (ends : AllZip IsMovedEnd f.ends g.ends) (entry_places : map (λ (e : Entry). e.at) g.entries ≡ places.entries) (end_places : map (λ (e : ChainEnd). e.at) g.ends ≡ places.ends) where
  abbrev no_entry : Entry
  no_entry = record { at = 0; len = 0; depth = 0; decl = 0; first = 0; count = 0 }

  abbrev no_end : ChainEnd
  no_end = record { entry = 0; at = 0 }

  pub entry_moves : (old new : ℕ) (m : MovesEntry f places old new) → IsEntryAt g m.id new
  entry_moves old new m =
      let inside : m.id < length g.entries = subst (λ (z : ℕ). m.id < z) (length_all_zip (IsMovedEntry numbers) f.entries g.entries entries) m.inside in
      let here : get_or (map (λ (e : Entry). e.at) g.entries) m.id 0 ≡ (entry_at g.entries m.id).at = get_or-map (λ (e : Entry). e.at) g.entries m.id no_entry in
      (inside, sym here ∙ ap (λ (z : List ℕ). get_or z m.id 0) entry_places ∙ m.to)

  end_moves : (old new : ℕ) (m : MovesEnd f places old new) → IsChainEndAt g (chain_end_at f.ends m.number).entry new
  end_moves old new m =
      let inside : m.number < length g.ends = subst (λ (z : ℕ). m.number < z) (length_all_zip IsMovedEnd f.ends g.ends ends) m.inside in
      let here : get_or (map (λ (e : ChainEnd). e.at) g.ends) m.number 0 ≡ (chain_end_at g.ends m.number).at = get_or-map (λ (e : ChainEnd). e.at) g.ends m.number no_end in
      let place : (chain_end_at g.ends m.number).at ≡ new = sym here ∙ ap (λ (z : List ℕ). get_or z m.number 0) end_places ∙ m.to in
      let owner : (chain_end_at g.ends m.number).entry ≡ (chain_end_at f.ends m.number).entry = AllZip-get_or IsMovedEnd f.ends g.ends m.number no_end no_end ends m.inside in
      let is : chain_end_at g.ends m.number ≡ record { entry = (chain_end_at f.ends m.number).entry; at = new } =
      ap (λ (z : ℕ). record { entry = z; at = (chain_end_at g.ends m.number).at }) owner ∙ ap (λ (z : ℕ). record { entry = (chain_end_at f.ends m.number).entry; at = z }) place in
      (m.number, inside, is)

  pub target_moves : (old new : ℕ) → MovesTo f places old new → TargetMoves f g old new
  target_moves old new moves = elim moves [
    | inl m ↦ record { target = TheEntry m.id; from = (m.inside, m.from); to = entry_moves old new m }
    | inr m ↦ record {
      target = TheEnd (chain_end_at f.ends m.number).entry;
      from = (m.number, m.inside, ap (λ (z : ℕ). record { entry = (chain_end_at f.ends m.number).entry; at = z }) m.from);
      to = end_moves old new m;
    }
  ]
