-- What values of a generated file refer to is read, up to the places of lists, and so is what roots give.
use Rattle.std.proofs.Common.{◌≡◌, ◌≤◌, ◌<◌, ℕ, suc, List, [], ◌∷◌, ◌++◌, length, get_or, Bool, true, false, not, ◌∙◌, sym, refl, subst, true≢false, arith}
use Rattle.std.specs.Prelude.{nat_eq}
use Rattle.std.specs.List.{All, AllZip, Contains}
use Rattle.std.proofs.lemmas.List.Elements.{All-from_recursion, All-contains, Contains-append_right}
use Rattle.form_codec.specs.Forms.{Meaning}
use Rattle.form_codec.specs.Forms.Meaning.{AddressNumber, SectionPlace}
use Rattle.list_model.specs.declared.context.Context.{Context}
use Rattle.list_model.specs.declared.entry.ListKind.{ListKind}
use Rattle.list_model.specs.declared.entry.ListKind.TheVariants.{Ranges, Locations}
use Rattle.value_links.specs.Sections.{debug_info, debug_abbrev, debug_line, debug_lists}
use Rattle.value_links.specs.Attributes.{addr_base}
use Rattle.value_links.specs.Reading.{UnitRead, Linkable, no_unit, unit_at, no_context, of_kind, AreProgramsIn, AreUnitsIn}
use Rattle.value_links.specs.Values.{root_of}
use Rattle.value_links.specs.Contexts.{low_pc, IsContext}
use Rattle.value_links.specs.Linked.{IsFirstLow, HasAddress}
use Rattle.value_links.specs.Whole.{AreContexts, ArePartsOf, IsReadToLinks, HasAddrBase, AreRootsRead}
use Rattle.sample_maker.specs.Drawn.{UnitDrawn}
use Rattle.sample_maker.specs.inside.Files.{info_bytes}
use Rattle.sample_maker.specs.inside.Small.{IsUnitSmall}
use Rattle.sample_maker.specs.inside.ReadLists.{context_read}
use Rattle.sample_maker.specs.inside.ReadImage.{file_of}
use Rattle.sample_maker.specs.inside.ReadFile.{links_of, UnitPlaced, placed_at, EntryPlaced, entry_numbered, attributes_said}
use Rattle.sample_maker.specs.inside.ReadFile.EntryPlaced.{TheRoot, TheFunction, TheParameter, TheBlock, TheType}
use Rattle.sample_maker.proofs.ProgramsRead.{programs_in}
use Rattle.sample_maker.proofs.ReadAllLists.{range_parts_tile, location_parts_tile}
use Rattle.sample_maker.proofs.UnitsRead.{units_are_read}
use Rattle.sample_maker.proofs.GeneratedImage.{info_there, abbrev_there, line_there, lists_there, addr_there}
use Rattle.sample_maker.proofs.UnitsPlaced.{mapped_count, count_is, context_is}
use Rattle.sample_maker.proofs.SaidEntries.{attributes_are, value_is_said}

-- ATTRIBUTES: none is a DW_AT_addr_base, and none has the number of an address

abbrev is_usual : ℕ × Meaning → Bool
is_usual (name, AddressNumber i) = false
is_usual (name, meaning) = not (nat_eq name addr_base)

abbrev IsUsual : ℕ × Meaning → Type 0
IsUsual attribute = is_usual attribute ≡ true

attributes_usual : (u : ℕ) (p : UnitPlaced) (e : EntryPlaced) → All IsUsual (attributes_said u p e)
attributes_usual u p TheRoot = All-from_recursion IsUsual (attributes_said u p TheRoot) (refl, (refl, (refl, (refl, (refl, (refl, (refl, tt)))))))
attributes_usual u p (TheFunction f) = All-from_recursion IsUsual (attributes_said u p (TheFunction f)) (refl, (refl, (refl, (refl, (refl, (refl, (refl, (refl, (refl, tt)))))))))
attributes_usual u p (TheParameter q) = All-from_recursion IsUsual (attributes_said u p (TheParameter q)) (refl, (refl, (refl, (refl, (refl, tt)))))
attributes_usual u p (TheBlock b) = All-from_recursion IsUsual (attributes_said u p (TheBlock b)) (refl, tt)
attributes_usual u p TheType = All-from_recursion IsUsual (attributes_said u p TheType) (refl, (refl, (refl, tt)))

no_base_said : (u : ℕ) (p : UnitPlaced) (e : EntryPlaced) (n : ℕ) → ¬ Contains (attributes_said u p e) (addr_base, SectionPlace n)
no_base_said u p e n has = absurd (true≢false (sym (All-contains IsUsual (attributes_said u p e) (addr_base, SectionPlace n) (attributes_usual u p e) has)))

no_number_said : (u : ℕ) (p : UnitPlaced) (e : EntryPlaced) (name i : ℕ) → ¬ Contains (attributes_said u p e) (name, AddressNumber i)
no_number_said u p e name i has = absurd (true≢false (sym (All-contains IsUsual (attributes_said u p e) (name, AddressNumber i) (attributes_usual u p e) has)))

-- an attribute between others is one of them
between_others : (attributes before after : List (ℕ × Meaning)) (name : ℕ) (meaning : Meaning) → attributes ≡ before ++ (name, meaning) ∷ after → Contains attributes (name, meaning)
between_others attributes before after name meaning parts =
    subst (λ (z : List (ℕ × Meaning)). Contains z (name, meaning)) (sym parts) (Contains-append_right before ((name, meaning) ∷ after) (name, meaning) (0, omega arith, refl))

-- so the root of a unit gives its first address, and no table
root_context : (u : ℕ) (p : UnitPlaced) → IsContext [] (attributes_said u p TheRoot) (context_read u)
root_context u p = record {
  table = λ table (base, first, has). no_base_said u p TheRoot base (between_others (attributes_said u p TheRoot) first.before first.after addr_base (SectionPlace base) first.parts);
  base = refl;
}

zip_each : {A B : Type 0} (R : A → B → Type 0) (xs : List A) (ys : List B) (d : A) (e : B) → length ys ≡ length xs → ((k : ℕ) → k < length xs → R (get_or xs k d) (get_or ys k e)) → AllZip R xs ys
zip_each R [] [] d e size each = tt
zip_each R [] (y ∷ ys) d e size each = absurd (omega (arith, size))
zip_each R (x ∷ xs) [] d e size each = absurd (omega (arith, size))
zip_each R (x ∷ xs) (y ∷ ys) d e size each = (each 0 (omega arith), zip_each R xs ys d e (omega (arith, size)) (λ k inside. each (suc k) (omega (arith, inside))))

module _ (units : List UnitDrawn) (small : All IsUnitSmall units) (few : length units ≤ 4096) where
  abbrev r : Linkable
  r = links_of units

  below : (u : ℕ) → u < length r.units → u < length units
  below u inside = omega (arith, inside, count_is units)

  contexts_are : AreContexts [] r.units r.contexts
  contexts_are =
      zip_each (λ (unit : UnitRead) (context : Context). IsContext [] (root_of unit).attributes context) r.units r.contexts no_unit no_context (mapped_count (λ (v : ℕ) (unit : UnitDrawn). context_read v) 0 units ∙ sym (count_is units)) (λ u inside.
      let known : u < length units = below u inside in
      subst (λ (z : Context). IsContext [] (root_of (unit_at r u)).attributes z) (sym (context_is units u known))
      (subst (λ (z : List (ℕ × Meaning)). IsContext [] z (context_read u)) (sym (attributes_are units small few u known 0 (omega arith))) (root_context u (placed_at units u))))

  pub parts_are : (kind : ListKind) → ArePartsOf (debug_lists (file_of units) kind) (of_kind r kind)
  parts_are Ranges = record { bytes_are = sym (lists_there units small few Ranges); tiled = range_parts_tile units small few }
  parts_are Locations = record { bytes_are = sym (lists_there units small few Locations); tiled = location_parts_tile units small few }

  pub units_are : AreUnitsIn (debug_info (file_of units)) (debug_abbrev (file_of units)) r.units
  units_are =
      subst (λ (z : List ℕ). AreUnitsIn z (debug_abbrev (file_of units)) r.units) (sym (info_there units small few))
      (subst (λ (z : List ℕ). AreUnitsIn (info_bytes 0 0 0 0 units) z r.units) (sym (abbrev_there units small few)) (units_are_read units small few))

  pub programs_are : AreProgramsIn (debug_line (file_of units)) r.programs
  programs_are = subst (λ (z : List ℕ). AreProgramsIn z r.programs) (sym (line_there units small few)) (programs_in units small few)

  pub links_read : IsReadToLinks (file_of units) r
  links_read = record {
    programs = programs_are;
    units = units_are;
    addresses = sym (addr_there units small few);
    contexts = contexts_are;
    lists = parts_are;
  }

  -- ROOTS

  no_base : HasAddrBase r.units → ⊥
  no_base (u, id, number, n, place, inside, stands) =
      let known : u < length units = below u inside in
      let has = value_is_said units small few u known id number addr_base (SectionPlace n) place stands in
      no_base_said u (placed_at units u) (entry_numbered u (placed_at units u) id) n has.1

  no_low : (u i place : ℕ) → u < length r.units → IsFirstLow r u i place → HasAddress r u i
  no_low u i place inside first =
      let known : u < length units = below u inside in
      let parts : attributes_said u (placed_at units u) TheRoot ≡ first.before ++ (low_pc, AddressNumber i) ∷ first.after = sym (attributes_are units small few u known 0 (omega arith)) ∙ first.parts in
      absurd (no_number_said u (placed_at units u) TheRoot low_pc i (between_others (attributes_said u (placed_at units u) TheRoot) first.before first.after low_pc (AddressNumber i) parts))

  pub roots_read : AreRootsRead r
  roots_read = record { tables = λ some. absurd (no_base some); bases = no_low }
