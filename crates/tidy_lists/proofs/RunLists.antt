-- The lists with which an old run of view pairs and the written one go are one list.
use Rattle.std.proofs.Common.{◌≡◌, ◌<◌, ◌+◌, ◌∙◌, inl, inr, ℕ, List, length, get_or, true, true≢false, sym, ap, subst, arith}
use Rattle.std.proofs.lemmas.Bool.{cases_order, eqb-true}
use Rattle.form_codec.specs.Forms.{Meaning}
use Rattle.form_codec.specs.Forms.Meaning.{SectionPlace, LocationList}
use Rattle.list_model.specs.declared.entry.ListKind.TheVariants.{Locations}
use Rattle.value_links.specs.Attributes.{location}
use Rattle.value_links.specs.Linked.{is_located, IsFirstLocated}
use Rattle.value_links.specs.ListPlaces.{IsSlot, IsOffsetsAt, SlotNames}
use Rattle.value_links.specs.Reading.{Reading, of_kind, declarations, unit_at, list_at, view_at}
use Rattle.value_links.specs.Resolved.{Resolved}
use Rattle.value_links.specs.Resolved.Resolved.{Indexed, PartOf}
use Rattle.value_links.specs.Same.{Same}
use Rattle.value_links.specs.inside.Owners.{IsOwner}
use Rattle.entry_read.specs.Places.{HaveOwners}
use Rattle.value_links.specs.Sections.{debug_info, debug_abbrev}
use Rattle.value_links.specs.Values.{HasValueAt, entry_of}
use Rattle.value_links.specs.Whole.{IsReading}
use Rattle.value_links.proofs.EntryValues.{column_of, column_numbered}
use Rattle.value_links.proofs.HeldUnits.{unit_owners}
use Rattle.value_links.proofs.Owning.{owner_once}
use Rattle.value_links.proofs.PartPlaces.{offsets_once}
use Rattle.value_links.proofs.Tiles.{tiled_of}
use Rattle.value_links.proofs.Viewings.{views_told}
use Rattle.written_files.specs.inside.Counterparts.{HasOld, Correspond}
use Rattle.written_files.proofs.Counterparts.{correspond, meant_by_both as meant_columns}
use Rattle.written_files.proofs.SameValues.{IsMeantBy, attribute_with, meaning_in, name_in, no_unit_meaning}
use Rattle.tidy_lists.specs.Followers.{Follows, RunFollows}
use Rattle.tidy_lists.proofs.AlikeLocations.{IsOfLocation, located_value, value_located, TellsAs, tells_as, base_value, value_base}
use Rattle.tidy_lists.proofs.FirstLocations.{IsLocatedAt, IsBaseAt, located_at, base_at}
use Rattle.tidy_lists.proofs.Followed.{meant_by_both}
use Rattle.tidy_lists.proofs.PlacesKept.{GoAlong}

-- a location has the name of one
located_name : (name : ℕ) (meaning : Meaning) → is_located (name, meaning) ≡ true → name ≡ location
located_name name (SectionPlace n) is = eqb-true name location is
located_name name (LocationList i) is = eqb-true name location is
located_name name meaning is = absurd (true≢false (sym is))

-- the value of an entry in a column means one thing in both files
record IsOneMeaning (r s : Reading) (u id k : ℕ) : Type 0 where
  attribute : ℕ × Resolved
  old : IsMeantBy r u id k attribute
  new : IsMeantBy s u id k attribute

module _ (file written : List ℕ) (r s : Reading) (read : IsReading file r) (again : IsReading written s) (same : Same file written) where
  alike : Correspond r s
  alike = correspond file written r s read again same

  module _ (u : ℕ) (inside : u < length s.links.units) where
    old_inside : u < length r.links.units
    old_inside = subst (λ (n : ℕ). u < n) alike.units inside

    module _ (id : ℕ) (known : id < length (unit_at s.links u).forest.entries) where
      one_meaning : (k : ℕ) → k < (entry_of (unit_at s.links u) id).count → IsOneMeaning r s u id k
      one_meaning k below =
          let both = meant_by_both file written r s same read again in
          let (old, new) = meant_columns file written r s read again both.debug both.first both.second u inside id k known below in
          record { attribute = attribute_with (get_or both.debug.units u no_unit_meaning).forest id k; old = old; new = new }

      one_name : (k : ℕ) (m : IsOneMeaning r s u id k) → name_in (unit_at s.links u) id k ≡ name_in (unit_at r.links u) id k
      one_name k m = sym m.new.named ∙ m.old.named

      -- a location in one file is one in the other
      old_located : (k : ℕ) (m : IsOneMeaning r s u id k) → is_located (name_in (unit_at s.links u) id k, meaning_in (unit_at s.links u) id k) ≡ true →
          is_located (name_in (unit_at r.links u) id k, meaning_in (unit_at r.links u) id k) ≡ true
      old_located k m is =
          let of_location : IsOfLocation m.attribute.1 =
          located_value s u id (name_in (unit_at s.links u) id k) (meaning_in (unit_at s.links u) id k) m.attribute.1 is m.new.resolves in
          value_located r u id (name_in (unit_at r.links u) id k) (meaning_in (unit_at r.links u) id k) m.attribute.1 (sym (one_name k m) ∙ located_name (name_in (unit_at s.links u) id k) (meaning_in (unit_at s.links u) id k) is) of_location m.old.resolves

      new_located : (k : ℕ) (m : IsOneMeaning r s u id k) → is_located (name_in (unit_at r.links u) id k, meaning_in (unit_at r.links u) id k) ≡ true →
          is_located (name_in (unit_at s.links u) id k, meaning_in (unit_at s.links u) id k) ≡ true
      new_located k m is =
          let of_location : IsOfLocation m.attribute.1 =
          located_value r u id (name_in (unit_at r.links u) id k) (meaning_in (unit_at r.links u) id k) m.attribute.1 is m.old.resolves in
          value_located s u id (name_in (unit_at s.links u) id k) (meaning_in (unit_at s.links u) id k) m.attribute.1 (one_name k m ∙ located_name (name_in (unit_at r.links u) id k) (meaning_in (unit_at r.links u) id k) is) of_location m.new.resolves

      old_count : (k : ℕ) → k < (entry_of (unit_at r.links u) id).count → k < (entry_of (unit_at s.links u) id).count
      old_count k below = subst (λ (n : ℕ). k < n) (sym (alike.count u id inside known)) below

      -- so the first one stands in one column
      one_column : (k l list other : ℕ) → IsLocatedAt r u id k list → IsLocatedAt s u id l other → k ≡ l
      one_column k l list other f g = elim (cases_order k l) [
        | inl e ↦ e
        | inr (inl less) ↦ absurd (true≢false (sym (new_located k (one_meaning k (old_count k f.inside)) f.located) ∙ g.first k less))
        | inr (inr more) ↦ absurd (true≢false (sym (old_located l (one_meaning l g.inside) g.located) ∙ f.first l more))
      ]

    -- BASES

    module _ (known : 0 < length (unit_at s.links u).forest.entries) where
      one_offsets : (t : Reading) (n p q : ℕ) → IsReading written t → IsOffsetsAt t.links.locations n p → IsOffsetsAt t.links.locations n q → q ≡ p
      one_offsets t n p q is here there = offsets_once t.links.locations.section t.links.locations.parts (tiled_of written t.links is.links Locations) n q p there here

      old_offsets : (n p q : ℕ) → IsOffsetsAt r.links.locations n p → IsOffsetsAt r.links.locations n q → q ≡ p
      old_offsets n p q here there = offsets_once r.links.locations.section r.links.locations.parts (tiled_of file r.links read.links Locations) n q p there here

      old_part : (k p : ℕ) (m : IsOneMeaning r s u 0 k) → IsBaseAt r u k p → m.attribute.1 ≡ PartOf Locations p
      old_part k p m f = base_value r u 0 (name_in (unit_at r.links u) 0 k) f.n p (meaning_in (unit_at r.links u) 0 k) m.attribute.1 f.named f.means f.at (λ q there. old_offsets f.n p q f.at there) m.old.resolves

      new_part : (k p : ℕ) (m : IsOneMeaning r s u 0 k) → IsBaseAt s u k p → m.attribute.1 ≡ PartOf Locations p
      new_part k p m f = base_value s u 0 (name_in (unit_at s.links u) 0 k) f.n p (meaning_in (unit_at s.links u) 0 k) m.attribute.1 f.named f.means f.at (λ q there. one_offsets s f.n p q again f.at there) m.new.resolves

      -- the contribution whose slots a unit counts has one number
      one_base : (k l p q : ℕ) → IsBaseAt r u k p → IsBaseAt s u l q → p ≡ q
      one_base k l p q f g =
          let mf : IsOneMeaning r s u 0 k = one_meaning 0 known k (old_count 0 known k f.inside) in
          let mg : IsOneMeaning r s u 0 l = one_meaning 0 known l g.inside in
          elim (cases_order k l) [
            | inl e ↦
                let moved : IsBaseAt s u k q = subst (λ (z : ℕ). IsBaseAt s u z q) (sym e) g in
                part_same p q (sym (old_part k p mf f) ∙ new_part k q mf moved)
            | inr (inl less) ↦
                let (n, means) =
                value_base s u 0 (name_in (unit_at s.links u) 0 k) (meaning_in (unit_at s.links u) 0 k) mf.attribute.1 p (old_part k p mf f) mf.new.resolves in
                absurd (g.first k n less (one_name 0 known k mf ∙ f.named) means)
            | inr (inr more) ↦
                let (n, means) =
                value_base r u 0 (name_in (unit_at r.links u) 0 l) (meaning_in (unit_at r.links u) 0 l) mg.attribute.1 q (new_part l q mg g) mg.old.resolves in
                absurd (f.first l n more (sym (one_name 0 known l mg) ∙ g.named) means)
          ]
        where
          part_same : (p q : ℕ) → PartOf Locations p ≡ PartOf Locations q → p ≡ q
          part_same p q e = cc

    -- LISTS

    -- what locations with one value tell are lists one of which is the other
    lists_told : (id number k m : ℕ) (name other : ℕ) (value : Resolved) → 0 < length (unit_at s.links u).forest.entries →
        k < length r.location_lists → m < length s.location_lists → TellsAs r u id name number value (list_at r.location_lists k).at →
        TellsAs s u id other number value (list_at s.location_lists m).at → Follows Locations r s k m
    lists_told id number k m name other value root known also (inl (a, is, old)) (inl (b, is_too, new)) = record { known = known; inside = also; by = inl (u, number, old_inside, old, new) }
    lists_told id number k m name other value root known also (inl (a, is, old)) (inr (i, b, p, is_too, base, slot)) = absurd (let e = sym is ∙ is_too in cc)
    lists_told id number k m name other value root known also (inr (i, a, p, is, base, slot)) (inl (b, is_too, new)) = absurd (let e = sym is ∙ is_too in cc)
    lists_told id number k m name other value root known also (inr (i, a, p, is, base, slot)) (inr (l, b, q, is_too, base_too, slot_too)) =
        let e : Indexed i a ≡ Indexed l b = sym is ∙ is_too in
        let same_slot : l ≡ i = cc in
        let root_old : 0 < length (unit_at r.links u).forest.entries = subst (λ (n : ℕ). 0 < n) (alike.entries u inside) root in
        let (x, f) = base_at file r read u old_inside p root_old base in
        let (y, g) = base_at written s again u inside q root base_too in
        let same_part : q ≡ p = sym (one_base root x y p q f g) in
        let old : SlotNames (of_kind r.links Locations) p i (list_at r.location_lists k).at =
        (slot, ((list_at r.location_lists k).part, ((read.lists Locations).each k known).begins)) in
        let there : IsSlot s.links.locations p i (list_at s.location_lists m).at =
        subst (λ (z : ℕ). IsSlot s.links.locations z i (list_at s.location_lists m).at) same_part (subst (λ (z : ℕ). IsSlot s.links.locations q z (list_at s.location_lists m).at) same_slot slot_too) in
        record { known = known; inside = also; by = inr (p, i, old, (there, ((list_at s.location_lists m).part, ((again.lists Locations).each m also).begins))) }

  -- one entry has a value with a number
  owner_of : (other : List ℕ) (t : Reading) → IsReading other t → (u a b number name also : ℕ) (meaning means : Meaning) (place there : ℕ) →
      u < length t.links.units → HasValueAt (unit_at t.links u) a number name meaning place →
      HasValueAt (unit_at t.links u) b number also means there → a ≡ b
  owner_of other t is u a b number name also meaning means place there inside first second =
      let owned = unit_owners (debug_info other) (debug_abbrev other) t.links.units is.links.units u inside in
      owner_once (declarations (unit_at t.links u)) (unit_at t.links u).forest owned a b number (own owned a name meaning place first) (own owned b also means there second)
    where
      own : HaveOwners (declarations (unit_at t.links u)) (unit_at t.links u).forest → (id name : ℕ) (meaning : Meaning) (place : ℕ) →
          HasValueAt (unit_at t.links u) id number name meaning place → IsOwner (unit_at t.links u).forest.entries id number
      own owned id name meaning place stands =
          let (k, below, named, meant) = column_of (unit_at t.links u) owned id stands.known number name meaning place stands in
          let here : number ≡ (entry_of (unit_at t.links u) id).first + k =
          column_numbered (unit_at t.links u) owned id stands.known number name meaning place stands in
          record { known = stands.known; from = omega arith; to = omega arith }

  -- The lists with which a run and the written one that follows it go are one list.
  pub go_along : (j n : ℕ) → RunFollows r s j n → GoAlong r s j n
  go_along j n follows =
      let u : ℕ = follows.u in
      let new = follows.new in
      let old = follows.old in
      let inside : u < length s.links.units = subst (λ (z : ℕ). u < z) (sym alike.units) follows.unit in
      let id : ℕ = new.id in
      let was : HasOld r s u id follows.number new.name new.meaning =
      alike.values u id follows.number new.name new.meaning new.place inside new.stands in
      let entry : old.id ≡ id =
      owner_of file r read u old.id id follows.number old.name new.name old.meaning was.old old.place was.at follows.unit old.stands was.stands in
      let told = views_told r.links u old.id (view_at r.views j).list (view_at r.views j).at old.name old.meaning old.links in
      let told_too = views_told s.links u id (view_at s.views n).list (view_at s.views n).at new.name new.meaning new.links in
      let first : IsFirstLocated r.links u id (view_at r.views j).list =
      subst (λ (z : ℕ). IsFirstLocated r.links u z (view_at r.views j).list) entry told.first in
      let known : id < length (unit_at s.links u).forest.entries = new.stands.known in
      let known_old : id < length (unit_at r.links u).forest.entries = was.stands.known in
      let (k, f) = located_at file r read u follows.unit id known_old (view_at r.views j).list first in
      let (l, g) = located_at written s again u inside id known (view_at s.views n).list told_too.first in
      go_on j n u id inside known k f (subst (λ (z : ℕ). IsLocatedAt s u id z (view_at s.views n).list) (sym (one_column u inside id known k l (view_at r.views j).list (view_at s.views n).list f g)) g) follows
    where
      go_on : (j n u id : ℕ) → (inside : u < length s.links.units) → id < length (unit_at s.links u).forest.entries → (k : ℕ) →
          IsLocatedAt r u id k (view_at r.views j).list → IsLocatedAt s u id k (view_at s.views n).list → RunFollows r s j n → GoAlong r s j n
      go_on j n u id inside known k f g follows =
          let m : IsOneMeaning r s u id k = one_meaning u inside id known k g.inside in
          let with_old = read.views.each j follows.known in
          let with_new = again.views.each n follows.inside in
          let number : ℕ = (entry_of (unit_at r.links u) id).first + k in
          let numbered : (entry_of (unit_at s.links u) id).first + k ≡ number = ap (λ (z : ℕ). z + k) (alike.first u id inside known) in
          let name : ℕ = name_in (unit_at r.links u) id k in
          let other : ℕ = name_in (unit_at s.links u) id k in
          let old : TellsAs r u id name number m.attribute.1 (view_at r.views j).list =
          tells_as r u id name number m.old.place (view_at r.views j).list (meaning_in (unit_at r.links u) id k) m.attribute.1 m.old.stands f.located f.tells m.old.resolves in
          let new : TellsAs s u id other ((entry_of (unit_at s.links u) id).first + k) m.attribute.1 (view_at s.views n).list =
          tells_as s u id other ((entry_of (unit_at s.links u) id).first + k) m.new.place (view_at s.views n).list (meaning_in (unit_at s.links u) id k) m.attribute.1 m.new.stands g.located g.tells m.new.resolves in
          let moved : TellsAs s u id other number m.attribute.1 (list_at s.location_lists with_new.k).at =
          subst (λ (z : ℕ). TellsAs s u id other number m.attribute.1 z) (sym with_new.at) (subst (λ (z : ℕ). TellsAs s u id other z m.attribute.1 (view_at s.views n).list) numbered new) in
          let was : TellsAs r u id name number m.attribute.1 (list_at r.location_lists with_old.k).at =
          subst (λ (z : ℕ). TellsAs r u id name number m.attribute.1 z) (sym with_old.at) old in
          record {
            k = with_old.k;
            m = with_new.k;
            from = sym with_old.at;
            to = sym with_new.at;
            follows = lists_told u inside id number with_old.k with_new.k name other m.attribute.1 (omega (arith, known)) with_old.inside with_new.inside was moved;
          }
