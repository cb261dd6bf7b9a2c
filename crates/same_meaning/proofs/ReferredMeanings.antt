-- When values that refer to something mean the same.
use Rattle.std.proofs.Common.{◌≡◌, ◌≢◌, ◌∙◌, ℕ, List, length, sym, ap, subst, refl}
use Rattle.dw_base.specs.declared.fault.Span.{Span}
use Rattle.std.specs.Prelude.{◌↔◌, Bool, false, IsTrue}
use Rattle.form_codec.specs.declared.value.Value.{Value}
use Rattle.form_codec.specs.declared.value.Value.TheVariants as value
use Rattle.form_codec.specs.Forms.{Meaning}
use Rattle.form_codec.specs.Forms.Meaning.{Expression}
use Rattle.form_codec.specs.Values.{LiesIn, bytes_in, meant_in}
use Rattle.entry_arena.specs.Arena.{value_at}
use Rattle.entry_read.specs.Units.{HeadAndForest}
use Rattle.value_links.specs.Reading.{Reading, unit_at}
use Rattle.value_links.specs.Operations.{LinkedOperation, LinksExpression}
use Rattle.value_links.specs.Linked.{Linked}
use Rattle.value_links.specs.Linked.Linked.{Operates as LinkOperates}
use Rattle.value_links.specs.Links.{held_at}
use Rattle.value_links.specs.Resolved.{Resolved, ResolvesLink, Resolves}
use Rattle.value_links.specs.Resolved.Resolved.{Operates}
use Rattle.value_links.specs.inside.Checks.{IsNoExpr}
use Rattle.value_links.specs.declared.link.Link.{Link}
use Rattle.value_links.specs.declared.link.Link.TheVariants.{Plain}
use Rattle.value_links.specs.World.{World, Holds}
use Rattle.same_meaning.specs.inside.Compared.{IsSomeWorld, OfBoth, MeanOne, MeansValue}
use Rattle.same_meaning.specs.inside.Values.{OfReading, IsTold, TellSame, section_at, IsValueOf, MeansHeld}
use Rattle.same_meaning.proofs.ReadUnits.{held_unit, some_reading}
use Rattle.same_meaning.proofs.StandingValues.{lies}
use Rattle.same_meaning.proofs.LinkComparisons.{BothTell, both_ways, same_plain, other_plain}

abbrev pub meant_at : Reading → ℕ → Value → Meaning
meant_at r u v = meant_in (unit_at r.links u).forest.section v

-- values mean the same where their links tell the same
pub links_mean : (a b : World) (u id name : ℕ) (v w : Value) (first second : Link) (same : Bool) → OfReading a (λ r. IsTold r u id name (meant_at r u v) first) → OfReading b (λ s. IsTold s u id name (meant_at s u w) second) → OfBoth a b (λ r s. IsTrue same ↔ BothTell r (meant_at r u v) first s (meant_at s u w) second) → OfBoth a b (λ r s. IsTrue same ↔ MeanOne (MeansHeld r u id name v) (MeansHeld s u id name w))
links_mean a b u id name v w first second same one two all = λ r s read holds also held.
    both_ways (all r s read holds also held) (
      λ (x, here, there). (x, (one r read holds x).1 here, (two s also held x).1 there),
      λ (x, here, there). (x, (one r read holds x).0 here, (two s also held x).0 there),
    )

pub told_mean : (a b : World) (u id name : ℕ) (v w : Value) (first second : Link) (same : Bool) → OfReading a (λ r. IsTold r u id name (meant_at r u v) first) → OfReading b (λ s. IsTold s u id name (meant_at s u w) second) → TellSame a b first second same → OfBoth a b (λ r s. IsTrue same ↔ MeanOne (MeansHeld r u id name v) (MeansHeld s u id name w))
told_mean a b u id name v w first second same one two tell =
    links_mean a b u id name v w first second same one two (λ r s read holds also held. tell r s read holds also held (meant_at r u v) (meant_at s u w))

-- values that refer to nothing
pub plain_mean : (a b : World) (u : ℕ) (v w : Value) (second : Link) (same : Bool) → second ≡ Plain → IsTrue same ↔ (meant_in (section_at a u) v ≡ meant_in (section_at b u) w) → OfBoth a b (λ r s. IsTrue same ↔ BothTell r (meant_at r u v) Plain s (meant_at s u w) second)
plain_mean a b u v w second same is equal = λ r s read holds also held.
    let mine = subst (λ (h : HeadAndForest). IsTrue same ↔ (meant_in h.forest.section v ≡ meant_in (section_at b u) w)) (held_unit a r u holds) equal in
    let here : IsTrue same ↔ (meant_at r u v ≡ meant_at s u w) = subst (λ (h : HeadAndForest). IsTrue same ↔ (meant_at r u v ≡ meant_in h.forest.section w)) (held_unit b s u held) mine in
    subst (λ (z : Link). IsTrue same ↔ BothTell r (meant_at r u v) Plain s (meant_at s u w) z) (sym is) (both_ways here (same_plain r s (meant_at r u v) (meant_at s u w)))

pub other_mean : (a b : World) (u : ℕ) (v w : Value) (second : Link) → second ≢ Plain → OfBoth a b (λ r s. IsTrue false ↔ BothTell r (meant_at r u v) Plain s (meant_at s u w) second)
other_mean a b u v w second none = λ r s read holds also held. (λ no. absurd (cc), λ both. absurd (other_plain r s (meant_at r u v) (meant_at s u w) second none both))

-- the bytes of a value lie in its section
pub value_lies_in : (world : World) → IsSomeWorld world → (u id name : ℕ) (v : Value) → IsValueOf world u id name v → LiesIn (length (section_at world u)) v
value_lies_in world some u id name v is =
    let (r, read, holds) = some_reading world some in
    lies world r u id name is.number read holds (is.stands r read holds) v is.is

-- VALUES BY THEIR NUMBERS

value_is : (world : World) (r : Reading) (u number : ℕ) (v : Value) → Holds world.image world r → v ≡ value_at (held_at world.units u).forest.values number → v ≡ value_at (unit_at r.links u).forest.values number
value_is world r u number v holds is = is ∙ ap (λ (h : HeadAndForest). value_at h.forest.values number) (held_unit world r u holds)

pub held_mean : (a b : World) (u id name f g : ℕ) (v w : Value) (same : Bool) → v ≡ value_at (held_at a.units u).forest.values f → w ≡ value_at (held_at b.units u).forest.values g → OfBoth a b (λ r s. IsTrue same ↔ MeanOne (MeansHeld r u id name v) (MeansHeld s u id name w)) → OfBoth a b (λ r s. IsTrue same ↔ MeanOne (MeansValue r u id name f) (MeansValue s u id name g))
held_mean a b u id name f g v w same one two all = λ r s read holds also held.
    let mine = subst (λ (z : Value). IsTrue same ↔ MeanOne (MeansHeld r u id name z) (MeansHeld s u id name w)) (value_is a r u f v holds one) (all r s read holds also held) in
    subst (λ (z : Value). IsTrue same ↔ MeanOne (MeansValue r u id name f) (MeansHeld s u id name z)) (value_is b s u g w held two) mine

-- what an expression means
operates : (r : Reading) (u id name : ℕ) (bytes : List ℕ) (v : Resolved) → Resolves r u id name (Expression bytes) v → (operations : List LinkedOperation) × LinksExpression r.links u bytes operations × (v ≡ Operates operations)
operates r u id name bytes v is =
    let (operations, links, e) = is.links in
    (operations, links, subst (λ (z : Linked). ResolvesLink r z v) e is.resolves)

expressions_mean : (r s : Reading) (u id name : ℕ) (xs ys : List ℕ) → MeanOne (LinksExpression r.links u xs) (LinksExpression s.links u ys) ↔ MeanOne (Resolves r u id name (Expression xs)) (Resolves s u id name (Expression ys))
expressions_mean r s u id name xs ys = (
  λ (operations, one, two). (
    Operates operations,
    record { linked = LinkOperates operations; links = (operations, one, refl); resolves = refl },
    record { linked = LinkOperates operations; links = (operations, two, refl); resolves = refl },
  ),
  λ (v, one, two).
      (let (first, links, e) = operates r u id name xs v one in
      let (second, also, f) = operates s u id name ys v two in
      let same : second ≡ first = cc in
      (first, links, subst (LinksExpression s.links u ys) same also)),
)

pub expr_mean : (a b : World) (u id name f g : ℕ) (v w : Value) (p q : Span) (same : Bool) → v ≡ value_at (held_at a.units u).forest.values f → w ≡ value_at (held_at b.units u).forest.values g → v ≡ value.Expr p → w ≡ value.Expr q → OfBoth a b (λ r s. IsTrue same ↔ MeanOne (LinksExpression r.links u (bytes_in (unit_at r.links u).forest.section p)) (LinksExpression s.links u (bytes_in (unit_at s.links u).forest.section q))) → OfBoth a b (λ r s. IsTrue same ↔ MeanOne (MeansValue r u id name f) (MeansValue s u id name g))
expr_mean a b u id name f g v w p q same one two is as_ all =
    held_mean a b u id name f g v w same one two (λ r s read holds also held.
    let here = both_ways (all r s read holds also held) (expressions_mean r s u id name (bytes_in (unit_at r.links u).forest.section p) (bytes_in (unit_at s.links u).forest.section q)) in
    let mine = subst (λ (z : Value). IsTrue same ↔ MeanOne (MeansHeld r u id name z) (MeansHeld s u id name (value.Expr q))) (sym is) here in
    subst (λ (z : Value). IsTrue same ↔ MeanOne (MeansHeld r u id name v) (MeansHeld s u id name z)) (sym as_) mine)

pub not_expr : (v : Value) → ((span : Span) → v ≡ value.Expr span → ⊥) → IsNoExpr v
not_expr (value.Expr span) none = none span refl
not_expr v none = tt
