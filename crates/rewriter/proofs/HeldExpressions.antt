-- The expressions of the lists of a file that is held, and their new bytes.
use Rattle.std.proofs.Common.{◌≡◌, ◌≤◌, ◌<◌, ◌∙◌, ℕ, List, [], length, get_or, take, sym, ap, subst, refl, arith}
use Rattle.std.specs.Prelude.{Option, Some, None}
use Rattle.std.specs.List.{All, AllZip, Contains}
use Rattle.std.proofs.lemmas.List.{take_all}
use Rattle.dw_base.specs.declared.fault.Reach.TheVariants.{Narrow}
use Rattle.list_model.specs.declared.entry.ListKind.{ListKind}
use Rattle.list_model.specs.declared.entry.ListKind.TheVariants.{Ranges, Locations}
use Rattle.list_model.specs.declared.entry.RawEntry.{RawEntry}
use Rattle.loc_lists.specs.Locations.{expressions_of}
use Rattle.list_write.specs.declared.named.NewExpressions.{NewExpressions}
use Rattle.list_write.specs.Written.{EndsRise, pieces}
use Rattle.unit_write.specs.declared.places.Places.{Places}
use Rattle.list_arena.specs.Held.{HeldList}
use Rattle.value_links.specs.Sections.{debug_lists}
use Rattle.value_links.specs.Reading.{Linkable, Reading, list_at, part_at}
use Rattle.value_links.specs.Lists.{IsOwner, owner_unit}
use Rattle.value_links.specs.ListFaults.{expression_bytes}
use Rattle.value_links.specs.Operations.{IsSomeExpression}
use Rattle.value_links.specs.World.{World, lists_held, Holds, HoldsList, IsWorldOf}
use Rattle.rewriter.specs.inside.Numbers.{IsNewExpression}
use Rattle.rewriter.specs.inside.Plans.{AreExpressionsFor}
use Rattle.rewriter.specs.inside.ListNumbers.{owner_in, LinksSomething}
use Rattle.rewriter.proofs.ListExpressions.{AreExpressionsPut, LiesIn, list_inside}
use Rattle.rewriter.proofs.ListPieces.{ends_rise}
use Rattle.rewriter.proofs.ListTotals.{list_expressions_few}
use Rattle.rewriter.proofs.NamedOperations.{links_still}
use Rattle.rewriter.proofs.PlannedLists.{one_owner, held_list}
use Rattle.rewriter.proofs.Standing.{held_count}

-- ---- owners

-- one unit owns a list, or none does
same_owners : (r : Linkable) (kind : ListKind) (at : ℕ) (a b : Option ℕ) → IsOwner r kind at a → IsOwner r kind at b → a ≡ b
same_owners r kind at None None p q = refl
same_owners r kind at None (Some v) p q = absurd (p v q.0)
same_owners r kind at (Some u) None p q = absurd (q u p.0)
same_owners r kind at (Some u) (Some v) p q = ap (λ (z : ℕ). Some z) (one_owner r kind at u v p q)

-- the references count in its unit
owner_is : (file : List ℕ) (world : World) (r : Reading) → Holds file world r → (owner : Option ℕ) → owner_unit r.links owner ≡ owner_in world owner
owner_is file world r holds (Some u) = refl
owner_is file world r holds None = sym (held_count file world r holds)

-- ---- range lists have no expressions

no_ranges : (world : World) (places : List Places) (list : HeldList) (new : NewExpressions) → new.bytes.items ≡ [] → new.ends.items ≡ [] → AreExpressionsFor world places Ranges list new
no_ranges world places list new bytes ends =
    let none : length new.bytes.items ≡ 0 = ap length bytes in
    record {
      ends = subst (λ (z : List ℕ). EndsRise 0 z (length new.bytes.items)) (sym ends) tt;
      few = omega (arith, none);
      are = λ r old holds held. record {
        owner = list.owner;
        owned = held.owner;
        each = subst (λ (z : List ℕ). AllZip (IsNewExpression r.links places (owner_unit r.links list.owner)) [] (pieces 0 z new.bytes.items)) (sym ends) tt;
      };
    }

pub no_expressions : (world : World) (places : List Places) (kind : ListKind) (list : HeldList) (new : NewExpressions) → kind ≡ Ranges → new.bytes.items ≡ [] → new.ends.items ≡ [] → AreExpressionsFor world places kind list new
no_expressions world places kind list new of bytes ends = subst (λ (z : ListKind). AreExpressionsFor world places z list new) (sym of) (no_ranges world places list new bytes ends)

-- ---- location lists

module _ (world : World) (is : IsWorldOf world.image Narrow world) (list : HeldList) (one : Contains (lists_held world Locations) list) (section : List ℕ) (section_is : section ≡ debug_lists world.image Locations) where
  held : (k : ℕ) × (k < length is.r.location_lists) × HoldsList is.r.links Locations (list_at is.r.location_lists k) list
  held = held_list world.image world is.r Locations list is.holds one

  same_section : is.r.links.locations.section ≡ section
  same_section = is.holds.sections Locations ∙ sym section_is

  same_expressions : expressions_of is.r.links.locations.section (list_at is.r.location_lists held.0).raws ≡ expressions_of section list.raw
  same_expressions = ap (λ (z : List ℕ). expressions_of z (list_at is.r.location_lists held.0).raws) same_section ∙ ap (expressions_of section) (sym held.2.raws)

  -- they lie in the section
  pub lie_inside : All (LiesIn (length section)) list.raw
  lie_inside =
      let old = list_at is.r.location_lists held.0 in
      let inside = list_inside is.r.links.locations.section (part_at is.r.links.locations old.part) old.at old.raws ((is.read.lists Locations).each held.0 held.1).read in
      subst (λ (z : List RawEntry). All (LiesIn (length section)) z) (sym held.2.raws) (subst (λ (z : List ℕ). All (LiesIn (length z)) old.raws) same_section inside)

  -- each is one
  pub are_expressions : All (IsSomeExpression Narrow) (expressions_of section list.raw)
  are_expressions = subst (λ (z : List (List ℕ)). All (IsSomeExpression Narrow) z) same_expressions (is.within Locations held.0 held.1)

  pub expressions_short : expression_bytes list.raw ≤ 134217728
  expressions_short = list_expressions_few world is Locations held.0 held.1 list.raw held.2.raws

  -- and its operations name what they may
  pub are_linked : All (LinksSomething is.r.links (owner_in world list.owner)) (expressions_of section list.raw)
  are_linked =
      let read = (is.read.lists Locations).expressions held.0 held.1 in
      let owner : read.owner ≡ list.owner = same_owners is.r.links Locations (list_at is.r.location_lists held.0).at read.owner list.owner read.owned held.2.owner in
      let unit : owner_unit is.r.links read.owner ≡ owner_in world list.owner = ap (owner_unit is.r.links) owner ∙ owner_is world.image world is.r is.holds list.owner in
      subst (λ (z : List (List ℕ)). All (LinksSomething is.r.links (owner_in world list.owner)) z) same_expressions
      (subst (λ (z : ℕ). All (LinksSomething is.r.links z) (expressions_of is.r.links.locations.section (list_at is.r.location_lists held.0).raws)) unit read.linked)

  -- all of them are put
  all_put : (places : List Places) (new : NewExpressions) → AreExpressionsPut world places (owner_in world list.owner) section list.raw new → AreExpressionsFor world places Locations list new
  all_put places new put = record {
    ends = ends_rise 0 new.ends.items (length new.bytes.items) put.ends;
    few = put.few;
    are = λ r old holds holds_list.
        let u : ℕ = owner_in world list.owner in
        let linked : All (LinksSomething r.links u) (expressions_of section list.raw) = λ k d less. links_still world.image world.image world is.r r is.holds holds u (get_or (expressions_of section list.raw) k d) (are_linked k d less) in
        let each = put.are world.image r holds linked in
        let unit : u ≡ owner_unit r.links list.owner = sym (owner_is world.image world r holds list.owner) in
        let there : expressions_of section list.raw ≡ expressions_of r.links.locations.section old.raws = ap (λ (z : List ℕ). expressions_of z list.raw) (section_is ∙ sym (holds.sections Locations)) ∙ ap (expressions_of r.links.locations.section) holds_list.raws in
        record {
          owner = list.owner;
          owned = holds_list.owner;
          each =
              subst (λ (z : ℕ). AllZip (IsNewExpression r.links places z) (expressions_of r.links.locations.section old.raws) (pieces 0 new.ends.items new.bytes.items)) unit
              (subst (λ (z : List (List ℕ)). AllZip (IsNewExpression r.links places u) z (pieces 0 new.ends.items new.bytes.items)) there each);
        };
  }

  pub expressions_put : (places : List Places) (new : NewExpressions) (n : ℕ) → AreExpressionsPut world places (owner_in world list.owner) section (take n list.raw) new → length list.raw ≤ n → AreExpressionsFor world places Locations list new
  expressions_put places new n put past = all_put places new (subst (λ (z : List RawEntry). AreExpressionsPut world places (owner_in world list.owner) section z new) (take_all n list.raw past) put)
