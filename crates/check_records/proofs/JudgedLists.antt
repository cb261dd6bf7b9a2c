-- The verdict on the record of a list that is held.
use Rattle.std.proofs.Common.{◌≡◌, ◌≤◌, ◌<◌, ◌∙◌, ℕ, List, length, map, get_or, Result, Ok, Err, sym, ap, refl, subst, arith}
use Rattle.std.specs.Prelude.{Option, Some, None, ◌↔◌, IfOk, IfSome, IsNone}
use Rattle.dw_base.specs.declared.fault.Reach.{Reach}
use Rattle.leb_codec.specs.Records.{OfList}
use Rattle.list_model.specs.declared.context.Context.{Context}
use Rattle.list_model.specs.declared.entry.ListKind.{ListKind}
use Rattle.list_model.specs.declared.entry.RawEntry.{RawEntry}
use Rattle.list_model.specs.declared.item.Item.{Item}
use Rattle.list_model.specs.declared.item.Meaning.TheVariants.{Live}
use Rattle.list_model.specs.Items.{Bounds}
use Rattle.list_model.specs.Potentials.{AcceptsList}
use Rattle.list_least.specs.Plans.{bounds_of}
use Rattle.list_lookup.specs.Maps.{IsContextIn}
use Rattle.list_lookup.proofs.AddressTables.{context_same}
use Rattle.check_lists.specs.Refused.{IsFirstRefused}
use Rattle.list_arena.specs.Held.{HeldList}
use Rattle.written_files.specs.Certificates.{ArePotentialsFor}
use Rattle.value_links.specs.Reading.{Reading, of_kind, lists_of, part_at, list_at, context_at}
use Rattle.value_links.specs.Sections.{debug_addr, debug_lists}
use Rattle.value_links.specs.Whole.{IsReading}
use Rattle.value_links.specs.World.{World, lists_held, Holds, HoldsList, IsWorldOf}
use Rattle.value_links.proofs.HeldUnits.{held_count}
use Rattle.value_links.proofs.ReadingOnce.{reading_once}
use Rattle.check_records.specs.Parts.{AList}
use Rattle.check_records.specs.inside.Bare.{StandFrom, HasBareSize}
use Rattle.check_records.specs.inside.Judged.{IsVerdictOn}
use Rattle.check_records.proofs.BareBytes.{list_stands, list_bare}
use Rattle.check_records.proofs.HeldItems.{has_owner, owned, items_said, few_items}

-- a list that is held is one that is read
pub holds_list : (world : World) (reach : Reach) (is : IsWorldOf world.image reach world) (kind : ListKind) (number : ℕ) → number < length (lists_held world kind) → (lists : List HeldList) → lists ≡ lists_held world kind → (held : HeldList) → held ≡ get_or lists number held → HoldsList is.r.links kind (list_at (lists_of is.r kind) number) held
holds_list world reach is kind number known lists same held here =
    let count : length (lists_held world kind) ≡ length (lists_of is.r kind) = (is.holds.lists kind).count in
    let inside : number < length (lists_of is.r kind) = omega (arith, known, count) in
    let there : get_or (lists_held world kind) number held ≡ held = ap (λ (z : List HeldList). get_or z number held) (sym same) ∙ sym here in
    subst (λ (z : HeldList). HoldsList is.r.links kind (list_at (lists_of is.r kind) number) z) there ((is.holds.lists kind).each number held inside)

module _ (world : World) (reach : Reach) (is : IsWorldOf world.image reach world) (kind : ListKind) (number : ℕ) (known : number < length (lists_held world kind)) (held : HeldList) (holds : HoldsList is.r.links kind (list_at (lists_of is.r kind) number) held) where
  inside : number < length (lists_of is.r kind)
  inside = let count : length (lists_held world kind) ≡ length (lists_of is.r kind) = (is.holds.lists kind).count in omega (arith, known, count)

  own_section : (of_kind is.r.links kind).section ≡ debug_lists world.image kind
  own_section = is.holds.sections kind

  -- its entries stand in the section
  pub held_stands : (section : List ℕ) → section ≡ debug_lists world.image kind → StandFrom kind section 0 held.raw
  held_stands section same =
      let list = list_at (lists_of is.r kind) number in
      let stand = list_stands kind (of_kind is.r.links kind).section (part_at (of_kind is.r.links kind) list.part) list.at list.raws ((is.read.lists kind).each number inside).read in
      subst (λ (z : List ℕ). StandFrom kind z 0 held.raw) (own_section ∙ sym same) (subst (λ (z : List RawEntry). StandFrom kind (of_kind is.r.links kind).section 0 z) (sym holds.raws) stand)

  module _ (items : List Item) (live : held.meaning ≡ Live items) where
    pub owner_there : held.owner ≡ None → ⊥
    owner_there = has_owner is.r.links kind (list_at (lists_of is.r kind) number) held holds items live

    module _ (owner : ℕ) (owner_is : held.owner ≡ Some owner) where
      pub few_held : length items ≤ 16384
      few_held = few_items is.r.links kind (list_at (lists_of is.r kind) number) held holds items live owner owner_is

      pub owner_known : owner < length world.units
      owner_known =
          let own = (owned is.r.links kind (list_at (lists_of is.r kind) number) held holds items live owner owner_is).0 in
          let count : length world.units ≡ length is.r.links.units = held_count is.r.links.units world.units is.holds.units in
          let less = own.known in
          omega (arith, less, count)

      module _ (context : Context) (context_is : (file : List ℕ) (r : Reading) → Holds file world r → context ≡ context_at r.links owner) where
        -- its context is that of a unit
        pub context_known : IsContextIn world context
        context_known = (owner, owner_known, context_is world.image is.r is.holds ∙ sym (context_same world.image world is.r owner is.holds))

        module _ (addr : List ℕ) (addr_is : addr ≡ debug_addr world.image) (section : List ℕ) (section_is : section ≡ debug_lists world.image kind) (size : ℕ) (sized : HasBareSize kind section held.raw size) where
          potentials_read : (Judge : List ℕ → Context → List Bounds → List ℕ → ℕ → Type 0) (potentials : List ℕ) → Judge addr context (map bounds_of items) potentials size → ArePotentialsFor Judge kind is.r number potentials
          potentials_read Judge potentials judged =
              let list = list_at (lists_of is.r kind) number in
              let says = items_said is.r.links kind list held holds items live owner owner_is in
              let there : HasBareSize kind (of_kind is.r.links kind).section list.raws size = subst (λ (z : List RawEntry). HasBareSize kind (of_kind is.r.links kind).section z size) holds.raws (subst (λ (z : List ℕ). HasBareSize kind z held.raw size) (section_is ∙ sym own_section) sized) in
              let bare = list_bare kind (of_kind is.r.links kind).section (part_at (of_kind is.r.links kind) list.part) list.at list.raws says.entries size ((is.read.lists kind).each number inside).read says.said there in
              let here : Judge is.r.links.addresses context (map bounds_of items) potentials size = subst (λ (z : List ℕ). Judge z context (map bounds_of items) potentials size) (addr_is ∙ sym is.holds.addresses) judged in
              let own : Judge is.r.links.addresses (context_at is.r.links owner) (map bounds_of items) potentials size = subst (λ (z : Context). Judge is.r.links.addresses z (map bounds_of items) potentials size) (context_is world.image is.r is.holds) here in
              let given : Judge is.r.links.addresses (context_at is.r.links owner) says.bounds potentials size = subst (λ (z : List Bounds). Judge is.r.links.addresses (context_at is.r.links owner) z potentials size) says.are own in
              record {
                u = owner;
                owner = owned is.r.links kind list held holds items live owner owner_is;
                entries = says.entries;
                said = says.said;
                bounds = says.bounds;
                gives = says.gives;
                bare = bare.bare;
                stands = record { bytes = bare.bytes; rest = bare.rest; stands = bare.stands; without = bare.without };
                judged = subst (λ (z : ℕ). Judge is.r.links.addresses (context_at is.r.links owner) says.bounds potentials z) (sym bare.count) given;
              }

          -- whatever reading it is
          pub potentials_for : (Judge : List ℕ → Context → List Bounds → List ℕ → ℕ → Type 0) (potentials : List ℕ) → Judge addr context (map bounds_of items) potentials size → (s : Reading) → IsReading world.image s → ArePotentialsFor Judge kind s number potentials
          potentials_for Judge potentials judged s read = subst (λ (z : Reading). ArePotentialsFor Judge kind z number potentials) (reading_once world.image is.r s is.read read) (potentials_read Judge potentials judged)

          verdict_of : (potentials : List ℕ) (refused : Option ℕ) → (IsNone refused ↔ AcceptsList addr context (map bounds_of items) potentials size) → IfSome refused (IsFirstRefused addr context (map bounds_of items) potentials size) → IsVerdictOn world.image (AList kind number) (OfList potentials) refused
          verdict_of potentials None accepted first = potentials_for AcceptsList potentials (accepted.0 refl)
          verdict_of potentials (Some n) accepted first = potentials_for (λ addresses context bounds potentials size. IsFirstRefused addresses context bounds potentials size n) potentials first

          pub verdicts_of : {E : Type 0} (result : Result (Option ℕ) E) (potentials : List ℕ) → IfOk result (λ refused. IsNone refused ↔ AcceptsList addr context (map bounds_of items) potentials size) → IfOk result (λ refused. IfSome refused (IsFirstRefused addr context (map bounds_of items) potentials size)) → IfOk result (IsVerdictOn world.image (AList kind number) (OfList potentials))
          verdicts_of (Ok refused) potentials accepted first = verdict_of potentials refused accepted first
          verdicts_of (Err e) potentials accepted first = tt
