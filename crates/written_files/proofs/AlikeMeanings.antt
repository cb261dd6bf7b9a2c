-- Values of two files that mean the same are alike: equal, or both references, section offsets or expressions.
use Rattle.std.proofs.Common.{◌≡◌, ◌⊎◌, ◌∙◌, inl, inr, ℕ, List, sym, refl, subst}
use Rattle.form_codec.specs.Forms.{Meaning}
use Rattle.form_codec.specs.Forms.Meaning.{Expression, InUnit, InSection, SectionPlace, LocationList, RangeList}
use Rattle.entry_arena.specs.declared.entry.Target.{Target}
use Rattle.list_model.specs.declared.entry.ListKind.{ListKind}
use Rattle.list_model.specs.declared.entry.ListKind.TheVariants.{Ranges, Locations}
use Rattle.value_links.specs.Attributes.{OffsetClass, offset_class}
use Rattle.value_links.specs.Attributes.OffsetClass.{LinePtr, RngList, LocList, RngListsPtr, LocListsPtr, AddrPtr, StrOffsetsPtr, MacPtr, Views, NoOffset}
use Rattle.value_links.specs.Reading.{Reading}
use Rattle.value_links.specs.Linked.{Linked, Links, OffsetLinks}
use Rattle.value_links.specs.Linked.Linked.{Refers as LinkRefers, Program as LinkProgram, ListAt, BaseOf, ViewsAt, Kept as LinkKept}
use Rattle.value_links.specs.Resolved.{Resolved, Resolves, ResolvesLink}
use Rattle.value_links.specs.Resolved.Resolved.{Itself, Operates, Refers, Program, AList, Indexed, PartOf, Pairs, Kept}

-- A reference within a unit can stand for one that counts from the section's first byte.
abbrev pub IsAlike : Meaning → Meaning → Type 0
IsAlike (InUnit n) new = (m : ℕ) × ((new ≡ InUnit m) ⊎ (new ≡ InSection m))
IsAlike (InSection n) new = (m : ℕ) × ((new ≡ InUnit m) ⊎ (new ≡ InSection m))
IsAlike (SectionPlace n) new = (m : ℕ) × (new ≡ SectionPlace m)
IsAlike (Expression bytes) new = (others : List ℕ) × (new ≡ Expression others)
IsAlike old new = new ≡ old

alike_itself : (meaning : Meaning) → IsAlike meaning meaning
alike_itself (InUnit n) = (n, inl refl)
alike_itself (InSection n) = (n, inr refl)
alike_itself (SectionPlace n) = (n, refl)
alike_itself (Expression bytes) = (bytes, refl)
alike_itself meaning = refl

-- WHAT A RESOLVED VALUE TELLS OF THE ONE THAT STANDS THERE

abbrev IsOf : Resolved → Meaning → Type 0
IsOf (Itself own) meaning = meaning ≡ own
IsOf (Operates operations) meaning = (bytes : List ℕ) × (meaning ≡ Expression bytes)
IsOf (Refers unit target) meaning = (n : ℕ) × ((meaning ≡ InUnit n) ⊎ (meaning ≡ InSection n))
IsOf (Indexed i list) meaning = ((meaning ≡ LocationList i) × (list.kind ≡ Locations)) ⊎ ((meaning ≡ RangeList i) × (list.kind ≡ Ranges))
IsOf value meaning = (n : ℕ) × (meaning ≡ SectionPlace n)

module _ (r : Reading) (u id : ℕ) where
  program_of : (n p : ℕ) (linked : Linked) (value : Resolved) → linked ≡ LinkProgram p → ResolvesLink r linked value → IsOf value (SectionPlace n)
  program_of n p linked value e resolves =
      let is : value ≡ Program p = subst (λ (z : Linked). ResolvesLink r z value) e resolves in
      subst (λ (z : Resolved). IsOf z (SectionPlace n)) (sym is) (n, refl)

  list_of : (n : ℕ) (kind : ListKind) (linked : Linked) (value : Resolved) → linked ≡ ListAt kind n → ResolvesLink r linked value → IsOf value (SectionPlace n)
  list_of n kind linked value e resolves =
      let is = subst (λ (z : Linked). ResolvesLink r z value) e resolves in
      subst (λ (z : Resolved). IsOf z (SectionPlace n)) (sym is.2) (n, refl)

  base_of : (n p : ℕ) (kind : ListKind) (linked : Linked) (value : Resolved) → linked ≡ BaseOf kind p → ResolvesLink r linked value → IsOf value (SectionPlace n)
  base_of n p kind linked value e resolves =
      let is : value ≡ PartOf kind p = subst (λ (z : Linked). ResolvesLink r z value) e resolves in
      subst (λ (z : Resolved). IsOf z (SectionPlace n)) (sym is) (n, refl)

  views_of : (n list at : ℕ) (linked : Linked) (value : Resolved) → linked ≡ ViewsAt list at → ResolvesLink r linked value → IsOf value (SectionPlace n)
  views_of n list at linked value e resolves =
      let is = subst (λ (z : Linked). ResolvesLink r z value) e resolves in
      subst (λ (z : Resolved). IsOf z (SectionPlace n)) (sym is.2) (n, refl)

  kept_of : (n : ℕ) (linked : Linked) (value : Resolved) → linked ≡ LinkKept n → ResolvesLink r linked value → IsOf value (SectionPlace n)
  kept_of n linked value e resolves =
      let is : value ≡ Kept n = subst (λ (z : Linked). ResolvesLink r z value) e resolves in
      subst (λ (z : Resolved). IsOf z (SectionPlace n)) (sym is) (n, refl)

  offset_of : (class : OffsetClass) (n : ℕ) (linked : Linked) (value : Resolved) → OffsetLinks r.links u id class n linked → ResolvesLink r linked value → IsOf value (SectionPlace n)
  offset_of LinePtr n linked value (p, here, e) resolves = program_of n p linked value e resolves
  offset_of RngList n linked value (here, e) resolves = list_of n Ranges linked value e resolves
  offset_of LocList n linked value (here, e) resolves = list_of n Locations linked value e resolves
  offset_of RngListsPtr n linked value (p, here, e) resolves = base_of n p Ranges linked value e resolves
  offset_of LocListsPtr n linked value (p, here, e) resolves = base_of n p Locations linked value e resolves
  offset_of AddrPtr n linked value (here, e) resolves = kept_of n linked value e resolves
  offset_of StrOffsetsPtr n linked value e resolves = kept_of n linked value e resolves
  offset_of MacPtr n linked value e resolves = kept_of n linked value e resolves
  offset_of Views n linked value (list, located, together, e) resolves = views_of n list n linked value e resolves
  offset_of NoOffset n linked value none resolves = absurd none

  refers_of : (unit : ℕ) (linked : Linked) (value : Resolved) (meaning : Meaning) (n : ℕ) → ((meaning ≡ InUnit n) ⊎ (meaning ≡ InSection n)) → (target : Target) → linked ≡ LinkRefers unit target → ResolvesLink r linked value → IsOf value meaning
  refers_of unit linked value meaning n is target e resolves =
      let same : value ≡ Refers unit target = subst (λ (z : Linked). ResolvesLink r z value) e resolves in
      subst (λ (z : Resolved). IsOf z meaning) (sym same) (n, is)

  -- what a value is, by what it means
  is_of : (name : ℕ) (meaning : Meaning) (linked : Linked) (value : Resolved) → Links r.links u id name meaning linked → ResolvesLink r linked value → IsOf value meaning
  is_of name (InUnit n) linked value (target, here, e) resolves = refers_of u linked value (InUnit n) n (inl refl) target e resolves
  is_of name (InSection n) linked value (unit, target, here, e) resolves = refers_of unit linked value (InSection n) n (inr refl) target e resolves
  is_of name (SectionPlace n) linked value links resolves = offset_of (offset_class name) n linked value links resolves
  is_of name (LocationList i) linked value (p, base, inside, e) resolves =
      let is = subst (λ (z : Linked). ResolvesLink r z value) e resolves in
      subst (λ (z : Resolved). IsOf z (LocationList i)) (sym is.4) (inl (refl, is.3.same))
  is_of name (RangeList i) linked value (p, base, inside, e) resolves =
      let is = subst (λ (z : Linked). ResolvesLink r z value) e resolves in
      subst (λ (z : Resolved). IsOf z (RangeList i)) (sym is.4) (inr (refl, is.3.same))
  is_of name (Expression bytes) linked value (operations, spelled, e) resolves =
      let is : value ≡ Operates operations = subst (λ (z : Linked). ResolvesLink r z value) e resolves in
      subst (λ (z : Resolved). IsOf z (Expression bytes)) (sym is) (bytes, refl)
  is_of name meaning linked value e resolves =
      let is : value ≡ Itself meaning = subst (λ (z : Linked). ResolvesLink r z value) e resolves in
      subst (λ (z : Resolved). IsOf z meaning) (sym is) refl

offsets_alike : (old new : Meaning) (n m : ℕ) → old ≡ SectionPlace n → new ≡ SectionPlace m → IsAlike old new
offsets_alike old new n m e f = subst (λ (z : Meaning). IsAlike z new) (sym e) (m, f)

alike_of : (value : Resolved) (old new : Meaning) → IsOf value old → IsOf value new → IsAlike old new
alike_of (Itself own) old new e f = subst (λ (z : Meaning). IsAlike old z) (e ∙ sym f) (alike_itself old)
alike_of (Operates operations) old new (bytes, e) (others, f) = subst (λ (z : Meaning). IsAlike z new) (sym e) (others, f)
alike_of (Refers unit target) old new (n, inl e) (m, f) = subst (λ (z : Meaning). IsAlike z new) (sym e) (m, f)
alike_of (Refers unit target) old new (n, inr e) (m, f) = subst (λ (z : Meaning). IsAlike z new) (sym e) (m, f)
alike_of (Indexed i list) old new (inl (e, kind)) (inl (f, other)) = subst (λ (z : Meaning). IsAlike z new) (sym e) f
alike_of (Indexed i list) old new (inl (e, kind)) (inr (f, other)) = absurd (let never : Locations ≡ Ranges = sym kind ∙ other in cc never)
alike_of (Indexed i list) old new (inr (e, kind)) (inl (f, other)) = absurd (let never : Ranges ≡ Locations = sym kind ∙ other in cc never)
alike_of (Indexed i list) old new (inr (e, kind)) (inr (f, other)) = subst (λ (z : Meaning). IsAlike z new) (sym e) f
alike_of (Program p) old new (n, e) (m, f) = offsets_alike old new n m e f
alike_of (AList list) old new (n, e) (m, f) = offsets_alike old new n m e f
alike_of (PartOf kind p) old new (n, e) (m, f) = offsets_alike old new n m e f
alike_of (Pairs pairs) old new (n, e) (m, f) = offsets_alike old new n m e f
alike_of (Kept k) old new (n, e) (m, f) = offsets_alike old new n m e f

-- Values that mean the same are alike.
pub alike_values : (r s : Reading) (u v id other name also : ℕ) (old new : Meaning) (value : Resolved) → Resolves r u id name old value → Resolves s v other also new value → IsAlike old new
alike_values r s u v id other name also old new value one two =
    alike_of value old new (is_of r u id name old one.linked value one.links one.resolves) (is_of s v other also new two.linked value two.links two.resolves)
