-- A list that something names means one thing, and means something where it is told who owns it and whether it is frozen.
use Rattle.std.proofs.Common.{◌≡◌, ◌<◌, ◌⊎◌, ◌^◌, ◌∙◌, inl, inr, ℕ, List, [], ◌∷◌, length, sym, ap, subst, refl, arith}
use Rattle.std.specs.Prelude.{Option, Some, None}
use Rattle.std.specs.List.{All, AllZip, Contains}
use Rattle.std.proofs.lemmas.Bool.{cases_lt}
use Rattle.std.proofs.lemmas.List.{get_or_default}
use Rattle.std.proofs.lemmas.List.Elements.{All-nil, All-cons, All-head, All-tail}
use Rattle.list_model.specs.declared.entry.ListKind.{ListKind}
use Rattle.list_model.specs.declared.entry.ListKind.TheVariants.{Ranges, Locations}
use Rattle.list_model.specs.Entries.{Entry, AreSaid}
use Rattle.list_model.specs.Items.{Bounds, Give, Fits}
use Rattle.list_model.specs.Items.Bounds.{between, elsewhere}
use Rattle.list_model.proofs.WalkLaws.{one_saying, one_walk}
use Rattle.list_model.specs.declared.contribution.Contribution.{Contribution}
use Rattle.list_model.specs.declared.entry.RawEntry.{RawEntry}
use Rattle.range_lists.proofs.RangeLaws.{said as said_by_ranges}
use Rattle.loc_lists.specs.Locations.{entries_of}
use Rattle.loc_lists.proofs.LocationLaws.{said as said_by_locations}
use Rattle.value_links.specs.Operations.{LinkedOperation, LinksExpression}
use Rattle.value_links.specs.Reading.{ListRead, Linkable, Reading, of_kind, part_at, lists_of, list_at, context_at}
use Rattle.value_links.specs.Lists.{IsNamed, IsOwner, IsFrozen, IsListOf, AreTold, owner_unit, expressions_at}
use Rattle.value_links.specs.Whole.{IsReading}
use Rattle.value_links.specs.Resolved.{Content, ListMeaning, MeansItems, MeansContent, MeansList}
use Rattle.value_links.specs.Resolved.Content.{Items, Entries}
use Rattle.value_links.proofs.ReadingOnce.{zip_once}
use Rattle.value_links.proofs.LinkedOnce.{operations_once}

-- ONE THING

-- a list has one owner
pub owner_once : (r : Linkable) (kind : ListKind) (at : ℕ) (a b : Option ℕ) → IsOwner r kind at a → IsOwner r kind at b → a ≡ b
owner_once r kind at (Some u) (Some v) (here, first) (there, other) = elim (cases_lt u v) [
  | inl less ↦ absurd (other u less here)
  | inr rest ↦ elim (cases_lt v u) [
    | inl less ↦ absurd (first v less there)
    | inr more ↦ let same : u ≡ v = omega arith in ap (λ (z : ℕ). Some z) same
  ]
]
owner_once r kind at (Some u) None (here, first) none = absurd (none u here)
owner_once r kind at None (Some v) none (there, other) = absurd (none v there)
owner_once r kind at None None p q = refl

items_once : (r : Linkable) (owner : Option ℕ) (entries : List Entry) (xs ys : List Bounds) → MeansItems r owner entries xs → MeansItems r owner entries ys → xs ≡ ys
items_once r (Some u) entries xs ys p q = one_walk r.addresses (context_at r u) entries xs ys p.0 q.0
items_once r None entries xs ys p q = absurd p

content_once : (r : Linkable) (kind : ListKind) (list : ListRead) (owner : Option ℕ) (entries : List Entry) (a b : Content) → MeansContent r kind list owner entries a → MeansContent r kind list owner entries b → a ≡ b
content_once r kind list owner entries (Items xs) (Items ys) (_, p) (_, q) = ap (λ (z : List Bounds). Items z) (items_once r owner entries xs ys p q)
content_once r kind list owner entries (Items xs) (Entries ys) (live, _) (frozen, _) = absurd (live frozen)
content_once r kind list owner entries (Entries xs) (Items ys) (frozen, _) (live, _) = absurd (live frozen)
content_once r kind list owner entries (Entries xs) (Entries ys) (_, e) (_, f) = ap (λ (z : List Entry). Entries z) (e ∙ sym f)

-- one list begins at a place, where their places rise
risen_once : (lists : List ListRead) → ((j k : ℕ) → j < k → k < length lists → (list_at lists j).at < (list_at lists k).at) → (a b : ListRead) → Contains lists a → Contains lists b → a.at ≡ b.at → a ≡ b
risen_once lists rising a b (i, i_in, i_is) (j, j_in, j_is) same =
    let none : ListRead = record { at = 0; part = 0; raws = [] } in
    let first : list_at lists i ≡ a = get_or_default lists i none a i_in ∙ i_is in
    let second : list_at lists j ≡ b = get_or_default lists j none b j_in ∙ j_is in
    let first_at : (list_at lists i).at ≡ a.at = ap (λ (z : ListRead). z.at) first in
    let second_at : (list_at lists j).at ≡ b.at = ap (λ (z : ListRead). z.at) second in
    elim (cases_lt i j) [
      | inl less ↦ let apart : (list_at lists i).at < (list_at lists j).at = rising i j less j_in in absurd (omega arith)
      | inr rest ↦ elim (cases_lt j i) [
        | inl less ↦ let apart : (list_at lists j).at < (list_at lists i).at = rising j i less i_in in absurd (omega arith)
        | inr more ↦ let number : i ≡ j = omega arith in sym first ∙ ap (λ (z : ℕ). list_at lists z) number ∙ second
      ]
    ]

module _ (file : List ℕ) (r : Reading) (read : IsReading file r) where
  list_once : (kind : ListKind) (a b : ListRead) → Contains (lists_of r kind) a → Contains (lists_of r kind) b → a.at ≡ b.at → a ≡ b
  list_once kind a b p q same = risen_once (lists_of r kind) (read.lists kind).rising a b p q same

  -- the expressions of a list, in the unit of its owner, are these operations
  expressions_once : (kind : ListKind) (list : ListRead) (owner : Option ℕ) (a b : List (List LinkedOperation)) → AllZip (LinksExpression r.links (owner_unit r.links owner)) (expressions_at r.links kind list) a → AllZip (LinksExpression r.links (owner_unit r.links owner)) (expressions_at r.links kind list) b → a ≡ b
  expressions_once kind list owner a b p q = zip_once (LinksExpression r.links (owner_unit r.links owner)) (operations_once file r.links read.links (owner_unit r.links owner)) (expressions_at r.links kind list) a b p q

  pub list_means_once : (kind : ListKind) (at : ℕ) (a b : ListMeaning) → MeansList r kind at a → MeansList r kind at b → a ≡ b
  list_means_once kind at a b p q =
      let list : p.list ≡ q.list = list_once kind p.list q.list p.one q.one (p.here ∙ sym q.here) in
      let owner : p.owner ≡ q.owner = owner_once r.links kind at p.owner q.owner p.owned q.owned in
      let entries : p.entries ≡ q.entries = one_saying kind q.list.raws p.entries q.entries (subst (λ (z : ListRead). AreSaid kind z.raws p.entries) list p.said) q.said in
      let by_list = subst (λ (z : ListRead). MeansContent r.links kind z p.owner p.entries a.content) list p.content in
      let by_owner = subst (λ (z : Option ℕ). MeansContent r.links kind q.list z p.entries a.content) owner by_list in
      let by_entries = subst (λ (z : List Entry). MeansContent r.links kind q.list q.owner z a.content) entries by_owner in
      let expressions_by_list = subst (λ (z : ListRead). AllZip (LinksExpression r.links (owner_unit r.links p.owner)) (expressions_at r.links kind z) a.expressions) list p.expressions in
      let expressions_by_owner = subst (λ (z : Option ℕ). AllZip (LinksExpression r.links (owner_unit r.links z)) (expressions_at r.links kind q.list) a.expressions) owner expressions_by_list in
      ap (λ (z : ListKind). record { kind = z; content = a.content; expressions = a.expressions }) (p.same ∙ sym q.same)
      ∙ ap (λ (z : Content). record { kind = b.kind; content = z; expressions = a.expressions }) (content_once r.links kind q.list q.owner q.entries a.content b.content by_entries q.content)
      ∙ ap (λ (z : List (List LinkedOperation)). record { kind = b.kind; content = b.content; expressions = z }) (expressions_once kind q.list q.owner a.expressions b.expressions expressions_by_owner q.expressions)

-- SOMETHING

fits_or_not : (item : Bounds) → Fits item ⊎ (¬ Fits item)
fits_or_not (between start end) = elim (cases_lt start (2 ^ 64)) [
  | inl first ↦ elim (cases_lt end (2 ^ 64)) [
    | inl second ↦ inl (first, second)
    | inr past ↦ inr (λ (x : Fits (between start end)). let less = x.1 in absurd (omega arith))
  ]
  | inr past ↦ inr (λ (x : Fits (between start end)). let less = x.0 in absurd (omega arith))
]
fits_or_not elsewhere = inl tt

-- all sums of a list keep within 64 bits, or it is dead
pub all_fit : (bounds : List Bounds) → All Fits bounds ⊎ (¬ All Fits bounds)
all_fit [] = inl (All-nil Fits)
all_fit (item ∷ bounds) = elim (fits_or_not item) [
  | inl here ↦ elim (all_fit bounds) [
    | inl rest ↦ inl (All-cons Fits item bounds here rest)
    | inr none ↦ inr (λ (x : All Fits (item ∷ bounds)). none (All-tail Fits item bounds x))
  ]
  | inr none ↦ inr (λ (x : All Fits (item ∷ bounds)). none (All-head Fits item bounds x))
]

-- what is read of a list says entries
pub list_says : (kind : ListKind) (section : List ℕ) (part : Contribution) (at : ℕ) (raws : List RawEntry) → IsListOf kind section part at raws → (entries : List Entry) × AreSaid kind raws entries
list_says Ranges section part at raws h = (h.entries, said_by_ranges at raws h.entries h.front h.read)
list_says Locations section part at raws h = (entries_of h.entries, said_by_locations at raws h.entries h.front h.read)

-- where something stands beside each item, it makes a list
zip_of : {A B : Type 0} (R : A → B → Type 0) (items : List A) → All (λ (a : A). (b : B) × R a b) items → (xs : List B) × AllZip R items xs
zip_of R [] all = ([], tt)
zip_of {A} {B} R (a ∷ items) all =
    let (b, first) = All-head (λ (a : A). (b : B) × R a b) a items all in
    let (xs, rest) = zip_of R items (All-tail (λ (a : A). (b : B) × R a b) a items all) in
    (b ∷ xs, (first, rest))

module _ (file : List ℕ) (r : Reading) (read : IsReading file r) (kind : ListKind) (told : AreTold r.links kind (lists_of r kind)) (k : ℕ) (inside : k < length (lists_of r kind)) where
  abbrev one : ListRead
  one = list_at (lists_of r kind) k

  -- a list that isn't frozen has an owner, and no sum of it passes
  live_content : (¬ IsFrozen r.links kind one) → (owner : Option ℕ) → IsOwner r.links kind one.at owner → (entries : List Entry) → AreSaid kind one.raws entries → (content : Content) × MeansContent r.links kind one owner entries content
  live_content live None unowned entries said = absurd (live (entries, said, inr (inr (inl unowned))))
  live_content live (Some u) (named, first) entries said =
      let (other, bounds, are, gives) = (read.lists kind).looked k u inside named in
      let same : other ≡ entries = one_saying kind one.raws other entries are said in
      let given : Give r.links.addresses (context_at r.links u) entries bounds = subst (λ (z : List Entry). Give r.links.addresses (context_at r.links u) z bounds) same gives in
      elim (all_fit bounds) [
        | inl fit ↦ (Items bounds, (live, (given, fit)))
        | inr dead ↦ absurd (live (entries, said, inl (record { u = u; named = named; bounds = bounds; gives = given; dead = dead })))
      ]

  list_content : (owner : Option ℕ) → IsOwner r.links kind one.at owner → IsFrozen r.links kind one ⊎ (¬ IsFrozen r.links kind one) → (entries : List Entry) → AreSaid kind one.raws entries → (content : Content) × MeansContent r.links kind one owner entries content
  list_content owner owned (inl frozen) entries said = (Entries entries, (frozen, refl))
  list_content owner owned (inr live) entries said = live_content live owner owned entries said

  -- the list with a number means something
  pub list_means : (meaning : ListMeaning) × MeansList r kind one.at meaning
  list_means =
      let here = told k inside in
      let begun = (read.lists kind).each k inside in
      let read_too = (read.lists kind).expressions k inside in
      let (entries, said) = list_says kind (of_kind r.links kind).section (part_at (of_kind r.links kind) one.part) one.at one.raws begun.read in
      let (content, means) = list_content read_too.owner read_too.owned here.frozen entries said in
      let (expressions, zip) = zip_of (LinksExpression r.links (owner_unit r.links read_too.owner)) (expressions_at r.links kind one) read_too.linked in
      (record { kind = kind; content = content; expressions = expressions }, record { list = one; one = (k, inside, sym (get_or_default (lists_of r kind) k (record { at = 0; part = 0; raws = [] }) one inside)); here = refl; owner = read_too.owner; owned = read_too.owned; entries = entries; said = said; same = refl; content = means; expressions = zip })

-- so does the list at a place that something names
pub named_means : (file : List ℕ) (r : Reading) → IsReading file r → (kind : ListKind) → AreTold r.links kind (lists_of r kind) → (at : ℕ) → IsNamed r.links kind at → (meaning : ListMeaning) × MeansList r kind at meaning
named_means file r read kind told at named =
    let (k, inside, same) = (read.lists kind).all at named in
    subst (λ (z : ℕ). (meaning : ListMeaning) × MeansList r kind z meaning) same (list_means file r read kind told k inside)
