-- The entries of a generated file say what stands for them, value by value.
use Rattle.std.proofs.Common.{◌≡◌, ◌≤◌, ◌<◌, ℕ, List, length, map, get_or, ◌∙◌, sym, ap, subst, arith}
use Rattle.std.specs.List.{All, Contains}
use Rattle.std.proofs.lemmas.List.{length-map, get_or-map}
use Rattle.form_codec.specs.Forms.{Meaning}
use Rattle.entry_arena.specs.Forests.{Described, described_by}
use Rattle.value_links.specs.Reading.{UnitRead, declarations, unit_at, IsUnitRead}
use Rattle.value_links.specs.Values.{HasValueAt, described_at}
use Rattle.value_links.specs.Debug.{described}
use Rattle.value_links.proofs.HeldUnits.{unit_is as unit_read_is}
use Rattle.sample_maker.specs.Drawn.{UnitDrawn}
use Rattle.sample_maker.specs.inside.Files.{info_bytes}
use Rattle.sample_maker.specs.inside.Images.{table_bytes}
use Rattle.sample_maker.specs.inside.Small.{IsUnitSmall}
use Rattle.sample_maker.specs.inside.ReadFile.{links_of, UnitPlaced, placed_at, EntryPlaced, entries_placed, entry_numbered, entry_said, attributes_said}
use Rattle.sample_maker.specs.inside.ReadFile.EntryPlaced.{TheRoot}
use Rattle.sample_maker.proofs.UnitsRead.{units_are_read, unit_numbered_says}
use Rattle.sample_maker.proofs.UnitsPlaced.{count_is, unit_is}
use Rattle.sample_maker.proofs.EntriesSay.{unit_says_placed}
use Rattle.sample_maker.proofs.SaidValues.{described_is, value_said, said_stands}

module _ (units : List UnitDrawn) (small : All IsUnitSmall units) (few : length units ≤ 4096) (u : ℕ) (inside : u < length units) where
  abbrev info : List ℕ
  info = info_bytes 0 0 0 0 units

  abbrev p : UnitPlaced
  p = placed_at units u

  abbrev read : UnitRead
  read = unit_at (links_of units) u

  abbrev entries : List EntryPlaced
  entries = entries_placed u p

  pub read_is : IsUnitRead info table_bytes read
  read_is = unit_read_is info table_bytes (links_of units).units (units_are_read units small few) u (omega (arith, inside, count_is units))

  -- the entries that are described are those that are placed
  pub all_said : described read ≡ map (entry_said u p) entries
  all_said = ap described (unit_is units small few u inside) ∙ unit_numbered_says units small few u inside ∙ unit_says_placed u p

  pub entry_total : length read.forest.entries ≡ length entries
  entry_total =
      let described_count : length (described read) ≡ length read.forest.entries = length-map read.forest.entries (described_by read.forest.section (declarations read) read.forest.values) in
      let placed_count : length (map (entry_said u p) entries) ≡ length entries = length-map entries (entry_said u p) in
      omega (arith, described_count, placed_count, ap (λ (z : List Described). length z) all_said)

  pub said_is : (id : ℕ) → id < length entries → described_at read id ≡ entry_said u p (entry_numbered u p id)
  said_is id known =
      let none : Described = entry_said u p TheRoot in
      sym (described_is info table_bytes read read_is id none (omega (arith, known, entry_total))) ∙ ap (λ (z : List Described). get_or z id none) all_said ∙ get_or-map (entry_said u p) entries id TheRoot none known

  pub attributes_are : (id : ℕ) → id < length entries → (described_at read id).attributes ≡ attributes_said u p (entry_numbered u p id)
  attributes_are id known = ap (λ (z : Described). z.attributes) (said_is id known)

  -- a value that stands somewhere is said by the entry that has it
  pub value_is_said : (id number name : ℕ) (meaning : Meaning) (place : ℕ) → HasValueAt read id number name meaning place → (id < length entries) × Contains (attributes_said u p (entry_numbered u p id)) (name, meaning)
  value_is_said id number name meaning place h =
      let known : id < length entries = omega (arith, h.known, entry_total) in
      (known, subst (λ (z : List (ℕ × Meaning)). Contains z (name, meaning)) (attributes_are id known) (value_said info table_bytes read read_is id h.known number name meaning place h))

  -- and what an entry says stands somewhere
  pub said_value : (id name : ℕ) (meaning : Meaning) → id < length entries → Contains (attributes_said u p (entry_numbered u p id)) (name, meaning) → (number : ℕ) × (place : ℕ) × HasValueAt read id number name meaning place
  said_value id name meaning known has =
      said_stands info table_bytes read read_is id (omega (arith, known, entry_total)) name meaning (subst (λ (z : List (ℕ × Meaning)). Contains z (name, meaning)) (sym (attributes_are id known)) has)
