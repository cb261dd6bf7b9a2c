-- Values of two files that mean the same: the value with a number in a unit of the one refers to what the one with this number in the other does.
use Rattle.std.proofs.Common.{◌≡◌, ◌<◌, ◌+◌, ◌∙◌, ℕ, List, length, get_or, sym, ap, subst}
use Rattle.value_links.specs.Sections.{debug_info, debug_abbrev}
use Rattle.value_links.specs.Reading.{Reading, unit_at}
use Rattle.value_links.specs.Values.{entry_of}
use Rattle.value_links.specs.Linked.{Linked, IsLinked}
use Rattle.value_links.specs.Resolved.{Resolved, ResolvesLink}
use Rattle.value_links.specs.Whole.{IsReading}
use Rattle.value_links.specs.Debug.{Debug, MeansDebug}
use Rattle.value_links.proofs.HeldUnits.{unit_owners}
use Rattle.value_links.proofs.EntryValues.{column_of, column_numbered}
use Rattle.value_links.proofs.LinksOnce.{linked_value_once}
use Rattle.written_files.proofs.Counterparts.{same_first, meant_by_both}
use Rattle.written_files.proofs.SameValues.{IsMeantBy, attribute_with, meaning_in, name_in, no_unit_meaning}
use Rattle.tidy_lists.proofs.OffsetLinks.{unit_known}

-- the value with a number in a unit refers to something in the other file too, which means the same
pub record IsFollowedBy (r s : Reading) (u number : ℕ) (linked : Linked) : Type 0 where
  pub other : Linked
  pub links : IsLinked s.links u number other
  pub meaning : Resolved
  pub first : ResolvesLink r linked meaning
  pub second : ResolvesLink s other meaning

-- the value of a column refers to what resolves as the attribute does
linked_in : (r : Reading) (u id k number : ℕ) (attribute : ℕ × Resolved) → (entry_of (unit_at r.links u) id).first + k ≡ number → (by : IsMeantBy r u id k attribute) → IsLinked r.links u number by.resolves.linked
linked_in r u id k number attribute here by =
    subst (λ (n : ℕ). IsLinked r.links u n by.resolves.linked) here (record {
      id = id;
      name = name_in (unit_at r.links u) id k;
      meaning = meaning_in (unit_at r.links u) id k;
      place = by.place;
      stands = by.stands;
      links = by.resolves.links;
    })

module _ (file written : List ℕ) (r s : Reading) (read : IsReading file r) (also : IsReading written s) (debug : Debug) (means : MeansDebug file r debug) (meant : MeansDebug written s debug) where
  pub value_follows : (u number : ℕ) (linked : Linked) → IsLinked r.links u number linked → IsFollowedBy r s u number linked
  value_follows u number linked links =
      let known : u < length r.links.units = unit_known file r.links read.links u number linked links in
      let id : ℕ = links.id in
      let owned = unit_owners (debug_info file) (debug_abbrev file) r.links.units read.links.units u known in
      let (k, below, named, said) = column_of (unit_at r.links u) owned id links.stands.known number links.name links.meaning links.place links.stands in
      let here : number ≡ (entry_of (unit_at r.links u) id).first + k = column_numbered (unit_at r.links u) owned id links.stands.known number links.name links.meaning links.place links.stands in
      let (new, old) = meant_by_both written file s r also read debug meant means u known id k links.stands.known below in
      let value : Resolved = (attribute_with (get_or debug.units u no_unit_meaning).forest id k).1 in
      let first : (entry_of (unit_at s.links u) id).first + k ≡ number = ap (λ (n : ℕ). n + k) (sym (same_first written file s r also read debug meant means u known id links.stands.known)) ∙ sym here in
      let same : old.resolves.linked ≡ linked = linked_value_once file r.links u number old.resolves.linked linked read.links (linked_in r u id k number _ (sym here) old) links in
      record {
        other = new.resolves.linked;
        links = linked_in s u id k number _ first new;
        meaning = value;
        first = subst (λ (z : Linked). ResolvesLink r z value) same old.resolves.resolves;
        second = new.resolves.resolves;
      }
