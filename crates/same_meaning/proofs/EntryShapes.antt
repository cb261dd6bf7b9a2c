-- Entries are compared by their shapes, and then by their attributes.
use Rattle.std.proofs.Common.{◌≡◌, ◌<◌, ◌∙◌, ℕ, Bool, true, false, not, ◌&&◌, eqb, length, sym, ap, subst, true≢false}
use Rattle.std.specs.Prelude.{◌↔◌, IsTrue}
use Rattle.std.specs.Cmp.{booleans_Decides}
use Rattle.std.proofs.Math.Bool.{beq}
use Rattle.std.proofs.lemmas.Bool.{and_parts, eq-eqb, eqb-true, not-false, not_from_true, false≢true}
use Rattle.entry_read.specs.Units.{HeadAndForest}
use Rattle.value_links.specs.Reading.{Reading, unit_at}
use Rattle.value_links.specs.Values.{described_at}
use Rattle.value_links.specs.World.{World, Holds}
use Rattle.value_links.specs.Links.{held_at}
use Rattle.same_meaning.specs.inside.Compared.{OfBoth, MeanOne, MeanAttributesAt, MeansEntryAt}
use Rattle.same_meaning.specs.inside.Values.{OfReading, HasShape}
use Rattle.same_meaning.proofs.ReadUnits.{held_unit}
use Rattle.same_meaning.proofs.EntryMeanings.{entry_same, shape_same}

-- TWO SHAPES: depths, tags, and whether there are children

-- they are the same
abbrev pub AreOneShape : ℕ × ℕ × Bool → ℕ × ℕ × Bool → Type 0
AreOneShape x y = (x.0 ≡ y.0) × (x.1 ≡ y.1) × (x.2 ≡ y.2)

abbrev shapes_eq : ℕ × ℕ × Bool → ℕ × ℕ × Bool → Bool
shapes_eq x y = (eqb x.0 y.0 && eqb x.1 y.1) && beq x.2 y.2

pub other_shape : (x y : ℕ × ℕ × Bool) → true ≡ not (shapes_eq x y) → AreOneShape x y → ⊥
other_shape x y ne (depth, tag, children) =
    let equal : shapes_eq x y ≡ true =
    ap (λ (z : Bool). (z && eqb x.1 y.1) && beq x.2 y.2) (eq-eqb x.0 y.0 depth)
    ∙ ap (λ (z : Bool). (true && z) && beq x.2 y.2) (eq-eqb x.1 y.1 tag)
    ∙ ap (λ (z : Bool). (true && true) && z) ((booleans_Decides x.2 y.2).1 children)
    in
    true≢false (ne ∙ not_from_true (shapes_eq x y) equal)

pub one_shape : (x y : ℕ × ℕ × Bool) → false ≡ not (shapes_eq x y) → AreOneShape x y
one_shape x y ne =
    let (numbers, children) = and_parts (eqb x.0 y.0 && eqb x.1 y.1) (beq x.2 y.2) (not-false (shapes_eq x y) (sym ne)) in
    let (depth, tag) = and_parts (eqb x.0 y.0) (eqb x.1 y.1) numbers in
    (eqb-true x.0 y.0 depth, eqb-true x.1 y.1 tag, (booleans_Decides x.2 y.2).0 children)

-- THE ENTRIES OF TWO FILES

module _ (a b : World) (u id : ℕ) (known : id < length (held_at a.units u).forest.entries) (also : id < length (held_at b.units u).forest.entries) (x y : ℕ × ℕ × Bool) (first : OfReading a (λ r. HasShape (described_at (unit_at r.links u) id) x.0 x.1 x.2)) (second : OfReading b (λ s. HasShape (described_at (unit_at s.links u) id) y.0 y.1 y.2)) where
  old_known : (r : Reading) → Holds a.image a r → id < length (unit_at r.links u).forest.entries
  old_known r holds = subst (λ (h : HeadAndForest). id < length h.forest.entries) (held_unit a r u holds) known

  new_known : (s : Reading) → Holds b.image b s → id < length (unit_at s.links u).forest.entries
  new_known s held = subst (λ (h : HeadAndForest). id < length h.forest.entries) (held_unit b s u held) also

  -- where their shapes differ they don't mean the same
  pub shapes_differ : (AreOneShape x y → ⊥) → OfBoth a b (λ r s. IsTrue false ↔ MeanOne (MeansEntryAt r u id) (MeansEntryAt s u id))
  shapes_differ differ = λ r s read holds again held. (
    λ yes. absurd (false≢true yes),
    λ one. absurd (differ (shape_same r s u id x.0 x.1 x.2 y.0 y.1 y.2 (old_known r holds) (new_known s held) (first r read holds) (second s again held) one)),
  )

  -- else they do where their attributes do
  pub attributes_decide : AreOneShape x y → (same : Bool) → OfBoth a b (λ r s. IsTrue same ↔ MeanOne (MeanAttributesAt r u id) (MeanAttributesAt s u id)) → OfBoth a b (λ r s. IsTrue same ↔ MeanOne (MeansEntryAt r u id) (MeansEntryAt s u id))
  attributes_decide (depth, tag, children) same test = λ r s read holds again held.
      let shape = second s again held in
      let alike : HasShape (described_at (unit_at s.links u) id) x.0 x.1 x.2 = record { depth_is = depth ∙ shape.depth_is; tag_is = tag ∙ shape.tag_is; children_are = children ∙ shape.children_are } in
      let both = entry_same r s u id x.0 x.1 x.2 (old_known r holds) (new_known s held) (first r read holds) alike in
      let answer = test r s read holds again held in
      (λ yes. both.0 (answer.0 yes), λ one. answer.1 (both.1 one))
