-- What a link says of a value, and where it is looked up in what is held.
use Rattle.std.specs.Prelude.{◌≡◌, ℕ, List, slice_index_or, Option, Some, None}
use Rattle.form_codec.specs.Forms.{Meaning}
use Rattle.entry_read.specs.Units.{HeadAndForest}
use Rattle.expr_ops.specs.declared.op.Op.{Op}
use Rattle.value_links.specs.declared.link.Link.{Link}
use Rattle.value_links.specs.declared.operations.OpLink.{OpLink}
use Rattle.value_links.specs.declared.operations.OpLink.TheVariants as op_link
use Rattle.value_links.specs.Operations.{OpTarget, Names}
use Rattle.value_links.specs.Operations.OpTarget.{NoTarget, GenericType, AnEntry}
use Rattle.value_links.specs.declared.link.Link.TheVariants.{Plain, Place, Lines, List as AtList, Slot, Base, Views, Kept as KeptPlace}
use Rattle.value_links.specs.Reading.{Linkable, no_unit, of_kind}
use Rattle.value_links.specs.ListPlaces.{SlotNames}
use Rattle.value_links.specs.World.{head_and_forest}
use Rattle.value_links.specs.Linked.{Linked, Links, IsLinked}
use Rattle.value_links.specs.Linked.Linked.{Itself, Operates, Refers, Program, ListAt, SlotAt, BaseOf, ViewsAt, Kept}

-- the link tells what a value refers to
abbrev pub IsLinkOf : Linked → Link → Type 0
IsLinkOf (Itself meaning) link = link ≡ Plain
IsLinkOf (Operates operations) link = link ≡ Plain
IsLinkOf (Refers unit target) link = link ≡ Place unit target
IsLinkOf (Program program) link = link ≡ Lines program
IsLinkOf (ListAt kind place) link = link ≡ AtList kind place
IsLinkOf (SlotAt kind part slot) link = link ≡ Slot kind part slot
IsLinkOf (BaseOf kind part) link = link ≡ Base kind part
IsLinkOf (ViewsAt list place) link = link ≡ Views list place
IsLinkOf (Kept place) link = link ≡ KeptPlace place

-- where a slot is told, the list that it names
abbrev pub IsFollowed : Linkable → Link → Link → Type 0
IsFollowed r (Slot kind part slot) link = (at : ℕ) × SlotNames (of_kind r kind) part slot at × (link ≡ AtList kind at)
IsFollowed r told link = link ≡ told

-- the value with a number among those of a unit's entries has this link: it tells what the value refers to, or the list that it names
-- by a slot
abbrev pub HasLink : Linkable → ℕ → ℕ → Link → Type 0
HasLink r u number link = (linked : Linked) × (told : Link) × IsLinked r u number linked × IsLinkOf linked told × IsFollowed r told link

-- WHAT IS HELD

-- the unit with a number; past the end there is none, and an empty one stands for it
abbrev pub held_at : List HeadAndForest → ℕ → HeadAndForest
held_at units u = slice_index_or units u (head_and_forest no_unit)

-- WHAT IS FOUND

-- What is answered of what is linked to at most one thing: the link that tells this, or none exactly where it isn't linked.
abbrev pub IsFoundFor : (Linked → Type 0) → Option Link → Type 0
IsFoundFor LinksTo (Some link) = (linked : Linked) × LinksTo linked × IsLinkOf linked link
IsFoundFor LinksTo None = (linked : Linked) → LinksTo linked → ⊥

-- so of the value of an attribute with a name, in an entry `id` of a unit
abbrev pub IsLinkFound : Linkable → ℕ → ℕ → ℕ → Meaning → Option Link → Type 0
IsLinkFound r u id name meaning found = IsFoundFor (Links r u id name meaning) found

-- the link tells what an operation names
abbrev pub IsOpLinkOf : OpTarget → OpLink → Type 0
IsOpLinkOf NoTarget link = link ≡ op_link.Plain
IsOpLinkOf GenericType link = link ≡ op_link.Generic
IsOpLinkOf (AnEntry unit id) link = link ≡ op_link.Entry unit id

-- What is answered of an operation in an expression of a unit: what it names, or none exactly where it names nothing that it may.
abbrev pub IsOpLinkFound : Linkable → ℕ → Op → Option OpLink → Type 0
IsOpLinkFound r u op (Some link) = (target : OpTarget) × Names r u op.code op.a target × IsOpLinkOf target link
IsOpLinkFound r u op None = (target : OpTarget) → Names r u op.code op.a target → ⊥

-- What is answered of what names at most one thing: the link that tells this, or none exactly where nothing is named.
abbrev pub IsNamedThing : (OpTarget → Type 0) → Option OpLink → Type 0
IsNamedThing IsNamed (Some link) = (target : OpTarget) × IsNamed target × IsOpLinkOf target link
IsNamedThing IsNamed None = (target : OpTarget) → IsNamed target → ⊥
