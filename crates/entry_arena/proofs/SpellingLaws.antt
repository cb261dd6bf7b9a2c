-- Listed entries and the bytes that spell them.
use Rattle.std.proofs.Common.{◌≡◌, ◌≤◌, ◌+◌, ◌-◌, ◌*◌, ◌^◌, ℕ, suc, List, [], ◌∷◌, ◌++◌, length, take, drop, true, false, ◌∙◌, sym, ap, refl, subst, arith, ◌<◌, zero, get_or}
use Rattle.std.specs.Prelude.{pos, Bool, map, nat_le, if◌then◌else◌}
use Rattle.std.proofs.lemmas.List.{append-nil, append_assoc, append_cancel_left, length-append, take_at, map-append}
use Rattle.spelled.specs.Spelled.{HasUniqueFronts}
use Rattle.spelled.proofs.Parts.{own_part}
use Rattle.leb_codec.specs.Leb.{Uleb}
use Rattle.form_codec.specs.declared.value.Value.{Value}
use Rattle.form_codec.specs.declared.value.Value.TheVariants as value
use Rattle.form_codec.specs.declared.form.Shape.{Shape}
use Rattle.form_codec.specs.declared.form.Shape.TheVariants.{Constant, Present, Number, Uleb as ByUleb, Sleb as BySleb, Counted, UlebCounted, Sixteen, ZeroEnded}
use Rattle.form_codec.specs.declared.form.Width.{Width}
use Rattle.form_codec.specs.declared.form.Width.TheVariants.{Eight}
use Rattle.form_codec.specs.declared.form.Role.{Role}
use Rattle.form_codec.specs.declared.form.Role.TheVariants as role
use Rattle.form_codec.specs.declared.form.Content.{Content}
use Rattle.form_codec.specs.declared.form.Content.TheVariants as content
use Rattle.fixed_width.specs.Numbers.{number}
use Rattle.form_codec.specs.Forms.{Meaning, SpellsShape, SpellsValue, shape_of, size_of, in_role, of_content}
use Rattle.form_codec.specs.Values.{meant_in, bytes_in, IsPlaced}
use Rattle.abbrev_tables.specs.declared.decl.Spec.{Spec}
use Rattle.abbrev_tables.specs.Tables.{Declared}
use Rattle.abbrev_tables.specs.Listings.{spec_at}
use Rattle.entry_arena.specs.declared.entry.Entry.{Entry}
use Rattle.entry_arena.specs.Trees.{declared_at, bytes_between, Listed, nothing_from, SpellsBetween, ValuesBetween, AddsEntry, AddsEnd, Siblings, EndsChildren, Lists, IsForest}
use Rattle.entry_arena.specs.Trees.Siblings.{NoMore, Tree}
use Rattle.entry_arena.specs.Forests.{Described, attributes_of, described_by, forest_of}
use Rattle.entry_arena.specs.Spellings.{Subtrees, SpellsValues, SpellsEntry, SpellsChildren, SpellsSubtrees, SpellsForest, named, in_preorder}
use Rattle.entry_arena.specs.Spellings.Subtrees.{NoSubtree, Subtree}
use Rattle.entry_arena.specs.ForestLaws.{HaveCodes}
use Rattle.entry_arena.proofs.Between.{length_between, between_split}
use Rattle.entry_arena.proofs.WalkLaws.{forest_once}
use Rattle.entry_arena.proofs.StepLaws.{values_rise, values_inside}
use Rattle.entry_arena.specs.Arena.{value_at}

-- bytes between two places that are two parts
pub record Cuts (section : List ℕ) (from to : ℕ) (a b : List ℕ) : Type 0 where
  pub mid : ℕ
  pub after : from ≤ mid
  pub before : mid ≤ to
  pub first : bytes_between section from mid ≡ a
  pub second : bytes_between section mid to ≡ b
  pub place : mid ≡ from + length a

pub cut : (section : List ℕ) (from to : ℕ) (a b : List ℕ) → from ≤ to → to ≤ length section → bytes_between section from to ≡ a ++ b → Cuts section from to a b
cut section from to a b order inside whole =
    let size : to - from ≡ length a + length b = sym (length_between section from to inside) ∙ ap length whole ∙ length-append a b in
    let mid : ℕ = from + length a in
    let p : from ≤ mid = omega arith in
    let q : mid ≤ to = omega arith in
    let split : bytes_between section from mid ++ bytes_between section mid to ≡ a ++ b = sym (between_split section from mid to p q) ∙ whole in
    let len : length (bytes_between section from mid) ≡ length a = length_between section from mid (omega arith) ∙ (let e : mid - from ≡ length a = omega arith in e) in
    let first : bytes_between section from mid ≡ a = sym (take_at (bytes_between section from mid) (bytes_between section mid to) (length a) len) ∙ ap (take (length a)) split ∙ take_at a b (length a) refl in
    record {
      mid = mid;
      after = p;
      before = q;
      first = first;
      second = append_cancel_left a (bytes_between section mid to) b (ap (λ z. z ++ bytes_between section mid to) (sym first) ∙ split);
      place = refl;
    }

-- the bytes of a span that lies between two places
span_between : (section : List ℕ) (at to : ℕ) (bytes : List ℕ) → at ≤ to → bytes_between section at to ≡ bytes → bytes_in section (record { at = at; len = to - at }) ≡ bytes
span_between section at to bytes order same = same

-- a value with a meaning and a place
record HasValue (section : List ℕ) (meaning : Meaning) (from to : ℕ) : Type 0 where
  value : Value
  means : meant_in section value ≡ meaning
  placed : IsPlaced value from to

data_value : (section : List ℕ) (size n from to : ℕ) (test : Bool) → HasValue section (if test then Meaning.Bits size n else Meaning.Whole (pos n)) from to
data_value section size n from to true = record { value = value.Fixed size n; means = refl; placed = tt }
data_value section size n from to false = record { value = value.Int (pos n); means = refl; placed = tt }

role_value : (section : List ℕ) (r : Role) (w : Width) (n from to : ℕ) → HasValue section (in_role r w n) from to
role_value section role.Address w n from to = record { value = value.Addr n; means = refl; placed = tt }
role_value section role.AddrIndex w n from to = record { value = value.AddrIndex n; means = refl; placed = tt }
role_value section role.Data w n from to = data_value section (size_of w) n from to (nat_le (2 ^ (8 * size_of w - 1)) n)
role_value section role.Unsigned w n from to = record { value = value.Int (pos n); means = refl; placed = tt }
role_value section role.Truth w n from to = record { value = value.Flag (nat_le 1 n); means = refl; placed = tt }
role_value section role.LocalRef w n from to = record { value = value.LocalRef n; means = refl; placed = tt }
role_value section role.SectionRef w n from to = record { value = value.SectionRef n; means = refl; placed = tt }
role_value section role.Signature w n from to = record { value = value.Signature n; means = refl; placed = tt }
role_value section role.SupRef w n from to = record { value = value.SupRef (size_of w) n; means = refl; placed = tt }
role_value section role.StrOffset w n from to = record { value = value.StrOffset n; means = refl; placed = tt }
role_value section role.LineStrOffset w n from to = record { value = value.LineStrOffset n; means = refl; placed = tt }
role_value section role.SupStr w n from to = record { value = value.SupStr n; means = refl; placed = tt }
role_value section role.StrIndex w n from to = record { value = value.StrIndex n; means = refl; placed = tt }
role_value section role.Offset w n from to = record { value = value.Offset n; means = refl; placed = tt }
role_value section role.LocIndex w n from to = record { value = value.LocIndex n; means = refl; placed = tt }
role_value section role.RangeIndex w n from to = record { value = value.RangeIndex n; means = refl; placed = tt }

with_meaning : (section : List ℕ) (m n : Meaning) (from to : ℕ) → m ≡ n → HasValue section m from to → HasValue section n from to
with_meaning section m n from to same v = record { value = v.value; means = v.means ∙ same; placed = v.placed }

-- a block at the end of the bytes
block_value : (section : List ℕ) (kind : Content) (at from to : ℕ) (body : List ℕ) → at ≤ to → bytes_between section at to ≡ body → HasValue section (of_content kind body) from to
block_value section content.Data at from to body order same = record { value = value.Block (record { at = at; len = to - at }); means = ap (λ z. Meaning.Data z) same; placed = omega arith }
block_value section content.Expression at from to body order same = record { value = value.Expr (record { at = at; len = to - at }); means = ap (λ z. Meaning.Expression z) same; placed = omega arith }

-- what bytes of a shape spell is the meaning of a value at their place
shape_value : (section : List ℕ) (shape : Shape) (meaning : Meaning) (from to : ℕ) → from ≤ to → to ≤ length section → SpellsShape shape meaning (bytes_between section from to) → HasValue section meaning from to
shape_value section (Constant v) meaning from to order inside p = record { value = value.Int v; means = sym p.2; placed = tt }
shape_value section Present meaning from to order inside p = record { value = value.Flag true; means = sym p.1; placed = tt }
shape_value section (Number width r) meaning from to order inside p =
    with_meaning section (in_role r width (number (size_of width) (bytes_between section from to))) meaning from to (sym p.1) (role_value section r width (number (size_of width) (bytes_between section from to)) from to)
shape_value section (ByUleb r) meaning from to order inside p =
    with_meaning section (in_role r Eight p.0) meaning from to (sym p.2) (role_value section r Eight p.0 from to)
shape_value section BySleb meaning from to order inside p = record { value = value.Int p.0; means = sym p.2; placed = tt }
shape_value section (Counted width) meaning from to order inside p =
    let c = cut section from to p.head p.body order inside p.whole in
    with_meaning section (Meaning.Data p.body) meaning from to (sym p.holds) (block_value section content.Data c.mid from to p.body c.before c.second)
shape_value section (UlebCounted kind) meaning from to order inside p =
    let c = cut section from to p.head p.body order inside p.whole in
    with_meaning section (of_content kind p.body) meaning from to (sym p.holds) (block_value section kind c.mid from to p.body c.before c.second)
shape_value section Sixteen meaning from to order inside p =
    record { value = value.Wide16 (record { at = from; len = to - from }); means = sym p.1; placed = omega arith }
shape_value section ZeroEnded meaning from to order inside p =
    let c = cut section from to p.text (0 ∷ []) order inside p.whole in
    let after : from ≤ c.mid = c.after in
    let before : c.mid ≤ to = c.before in
    let one : to - c.mid ≡ 1 = sym (length_between section c.mid to inside) ∙ ap length c.second in
    record {
      value = value.Text (record { at = from; len = c.mid - from });
      means = ap (λ z. Meaning.Text z) c.first ∙ sym p.holds;
      placed = (refl, omega arith);
    }

-- values of columns, with places
pub record HasValues (section : List ℕ) (columns : List Spec) (meanings : List Meaning) (from to : ℕ) : Type 0 where
  pub values : List Value
  pub means : map (meant_in section) values ≡ meanings
  pub valued : ValuesBetween section columns values from to

pub values_found : (section : List ℕ) (columns : List Spec) (meanings : List Meaning) (from to : ℕ) → from ≤ to → to ≤ length section → SpellsValues columns meanings (bytes_between section from to) → HasValues section columns meanings from to
values_found section [] [] from to order inside none =
    let size : to - from ≡ 0 = sym (length_between section from to inside) ∙ ap length none in
    let same : from ≡ to = omega arith in
    record { values = []; means = refl; valued = same }
values_found section [] (m ∷ ms) from to order inside none = absurd none
values_found section (c ∷ cs) [] from to order inside none = absurd none
values_found section (c ∷ cs) (m ∷ ms) from to order inside (first, rest, spelled, more, whole) =
    let k = cut section from to first rest order inside whole in
    let before : k.mid ≤ to = k.before in
    let here : SpellsValue c.name c.form c.constant m (bytes_between section from k.mid) = subst (λ (z : List ℕ). SpellsValue c.name c.form c.constant m z) (sym k.first) spelled in
    let v = shape_value section (shape_of here.form c.name c.constant) m from k.mid k.after (omega arith) here.spelled in
    let others = values_found section cs ms k.mid to k.before inside (subst (λ (z : List ℕ). SpellsValues cs ms z) (sym k.second) more) in
    record {
      values = v.value ∷ others.values;
      means = ap (λ z. z ∷ map (meant_in section) others.values) v.means ∙ ap (λ z. m ∷ z) others.means;
      valued = (k.mid, (record { order = k.after; inside = omega arith; spelled = subst (λ (z : Meaning). SpellsValue c.name c.form c.constant z (bytes_between section from k.mid)) (sym v.means) here }), v.placed, others.valued);
    }

-- and back
values_spelled : (section : List ℕ) (columns : List Spec) (values : List Value) (from to : ℕ) → ValuesBetween section columns values from to → SpellsValues columns (map (meant_in section) values) (bytes_between section from to)
values_spelled section [] [] from to same =
    let none : to - from ≡ 0 = omega arith in
    ap (λ n. take n (drop from section)) none
values_spelled section [] (v ∷ vs) from to none = absurd none
values_spelled section (c ∷ cs) [] from to none = absurd none
values_spelled section (c ∷ cs) (v ∷ vs) from to (next, spelled, placed, more) =
    (bytes_between section from next, bytes_between section next to, spelled.spelled, values_spelled section cs vs next to more, between_split section from next to spelled.order (values_rise section cs vs next to more))

named_same : (section : List ℕ) (columns : List Spec) (values : List Value) → attributes_of section columns values ≡ named columns (map (meant_in section) values)
named_same section [] values = refl
named_same section (c ∷ cs) [] = refl
named_same section (c ∷ cs) (v ∷ vs) = ap (λ z. (c.name, meant_in section v) ∷ z) (named_same section cs vs)

-- an attribute for each column
pub attributes_count : (section : List ℕ) (columns : List Spec) (values : List Value) → length values ≡ length columns → length (attributes_of section columns values) ≡ length columns
attributes_count section [] values same = refl
attributes_count section (c ∷ cs) [] same = absurd (omega arith)
attributes_count section (c ∷ cs) (v ∷ vs) same = let rest : length (attributes_of section cs vs) ≡ length cs = attributes_count section cs vs (omega arith) in omega arith

-- which has the column's name, and what its value means
pub attribute_at : (section : List ℕ) (columns : List Spec) (values : List Value) (k : ℕ) (d : ℕ × Meaning) → length values ≡ length columns → k < length columns → get_or (attributes_of section columns values) k d ≡ ((spec_at columns k).name, meant_in section (value_at values k))
attribute_at section [] values k d same inside = absurd (omega arith)
attribute_at section (c ∷ cs) [] k d same inside = absurd (omega arith)
attribute_at section (c ∷ cs) (v ∷ vs) zero d same inside = refl
attribute_at section (c ∷ cs) (v ∷ vs) (suc k) d same inside = attribute_at section cs vs k d (omega arith) (omega arith)

-- the same from the same place
from_there : (Spells : List ℕ → Type 0) (section : List ℕ) (at there to : ℕ) → at ≡ there → Spells (bytes_between section there to) → Spells (bytes_between section at to)
from_there Spells section at there to same spelled = subst (λ (z : ℕ). Spells (bytes_between section z to)) (sym same) spelled

no_later : (at there to : ℕ) → at ≡ there → there ≤ to → at ≤ to
no_later at there to same order = omega arith

-- what follows an entry, as it is listed
abbrev FollowsAs : Bool → List ℕ → ℕ → Subtrees → (Listed → Listed → Type 0) → Listed → Listed → Type 0
FollowsAs true section parent children Inside old new = (inner : Listed) × Inside old inner × AddsEnd section parent inner new
FollowsAs false section parent children Inside old new = (children ≡ NoSubtree) × (new ≡ old)

-- subtrees with the meanings of their values are listed
abbrev ListsAs : List ℕ → List Declared → ℕ → Subtrees → Listed → Listed → Type 0
ListsAs section ds depth NoSubtree old new = new ≡ old
ListsAs section ds depth (Subtree number meanings children more) old new = (entry : Listed) × (chain : Listed) × (adds : AddsEntry section ds depth number old entry) × (map (meant_in section) adds.values ≡ meanings) × FollowsAs ((declared_at ds number).children) section (length old.entries) children (λ a b. ListsAs section ds (suc depth) children a b) entry chain × ListsAs section ds depth more chain new

siblings_of : Subtrees → Siblings
siblings_of NoSubtree = NoMore
siblings_of (Subtree number values children more) = Tree number (siblings_of children) (siblings_of more)

pub nothing_between : (section : List ℕ) (from to : ℕ) → from ≡ to → bytes_between section from to ≡ []
nothing_between section from to same =
    let none : to - from ≡ 0 = omega arith in
    ap (λ n. take n (drop from section)) none

-- what is listed between two states is spelled
pub record Between (section : List ℕ) (Spells : List ℕ → Type 0) (old new : Listed) : Type 0 where
  pub order : old.place ≤ new.place
  pub inside : old.place ≤ length section → new.place ≤ length section
  pub spelled : Spells (bytes_between section old.place new.place)

module _ (section : List ℕ) (ds : List Declared) where
  -- listed siblings have meanings
  abbrev Meant : ℕ → Listed → Listed → Type 0
  Meant depth old new = (trees : Subtrees) × ListsAs section ds depth trees old new

  abbrev FollowsMeant : Bool → ℕ → ℕ → Listed → Listed → Type 0
  FollowsMeant flag parent depth old new = (trees : Subtrees) × FollowsAs flag section parent trees (λ a b. ListsAs section ds depth trees a b) old new

  children_meant : (flag : Bool) (parent depth : ℕ) (children : Siblings) (Inside : Listed → Listed → Type 0) (old new : Listed) → ((a b : Listed) → Inside a b → Meant depth a b) → EndsChildren flag section parent children Inside old new → FollowsMeant flag parent depth old new
  children_meant true parent depth children Inside old new meant (inner, inside, end) =
      let m = meant old inner inside in
      (m.0, (inner, m.1, end))
  children_meant false parent depth children Inside old new meant (none, same) = (NoSubtree, (refl, same))

  siblings_meant : (trees : Siblings) (depth : ℕ) (old new : Listed) → Lists section ds depth trees old new → Meant depth old new
  siblings_meant NoMore depth old new same = (NoSubtree, same)
  siblings_meant (Tree number children more) depth old new (entry, chain, adds, below, rest) =
      let inside = children_meant ((declared_at ds number).children) (length old.entries) (suc depth) children (λ a b. Lists section ds (suc depth) children a b) entry chain (λ a b l. siblings_meant children (suc depth) a b l) below in
      let later = siblings_meant more depth chain new rest in
      (Subtree number (map (meant_in section) adds.values) inside.0 later.0, (entry, chain, adds, refl, inside.1, later.1))

  -- and back
  children_listed : (flag : Bool) (parent depth : ℕ) (children : Subtrees) (old new : Listed) → ((a b : Listed) → ListsAs section ds depth children a b → Lists section ds depth (siblings_of children) a b) → FollowsAs flag section parent children (λ a b. ListsAs section ds depth children a b) old new → EndsChildren flag section parent (siblings_of children) (λ a b. Lists section ds depth (siblings_of children) a b) old new
  unfolding siblings_of
  children_listed true parent depth children old new listed (inner, inside, end) = (inner, listed old inner inside, end)
  children_listed false parent depth children old new listed (none, same) = (ap siblings_of none, same)

  subtrees_listed : (trees : Subtrees) (depth : ℕ) (old new : Listed) → ListsAs section ds depth trees old new → Lists section ds depth (siblings_of trees) old new
  unfolding siblings_of
  subtrees_listed NoSubtree depth old new same = same
  subtrees_listed (Subtree number meanings children more) depth old new (entry, chain, adds, means, below, rest) =
      (entry, chain, adds, children_listed ((declared_at ds number).children) (length old.entries) (suc depth) children entry chain (λ a b l. subtrees_listed children (suc depth) a b l) below, subtrees_listed more depth chain new rest)

  tree_listed : (number : ℕ) (meanings : List Meaning) (children : Subtrees) (old new : Listed) → ListsAs section ds 0 (Subtree number meanings children NoSubtree) old new → Lists section ds 0 (Tree number (siblings_of children) NoMore) old new
  unfolding siblings_of
  tree_listed number meanings children old new l = subtrees_listed (Subtree number meanings children NoSubtree) 0 old new l

  pub entry_spelled : (depth number : ℕ) (old new : Listed) (adds : AddsEntry section ds depth number old new) → Between section (SpellsEntry ds number (map (meant_in section) adds.values)) old new
  entry_spelled depth number old new adds =
      let order : old.place ≤ adds.values_at = adds.coded.order in
      let up : adds.values_at ≤ new.place = values_rise section ((declared_at ds number).columns) adds.values adds.values_at new.place adds.valued in
      let end : new.place ≤ length section = values_inside section ((declared_at ds number).columns) adds.values adds.values_at new.place adds.coded.inside adds.valued in
      record {
        order = omega arith;
        inside = λ start. end;
        spelled = record {
          known = adds.known;
          code = bytes_between section old.place adds.values_at;
          rest = bytes_between section adds.values_at new.place;
          coded = adds.coded.spelled;
          valued = values_spelled section ((declared_at ds number).columns) adds.values adds.values_at new.place adds.valued;
          whole = between_split section old.place adds.values_at new.place order up;
        };
      }

  children_spelled : (flag : Bool) (parent depth : ℕ) (children : Subtrees) (old new : Listed) → ((a b : Listed) → ListsAs section ds depth children a b → Between section (SpellsSubtrees ds children) a b) → FollowsAs flag section parent children (λ a b. ListsAs section ds depth children a b) old new → Between section (SpellsChildren flag children (SpellsSubtrees ds children)) old new
  children_spelled true parent depth children old new spelled (inner, inside, end) =
      let s = spelled old inner inside in
      let first : old.place ≤ inner.place = s.order in
      let second : inner.place ≤ new.place = end.coded.order in
      record {
        order = omega arith;
        inside = λ start. end.coded.inside;
        spelled = (bytes_between section old.place inner.place, bytes_between section inner.place new.place, s.spelled, end.coded.spelled, between_split section old.place inner.place new.place first second);
      }
  children_spelled false parent depth children old new spelled (none, same) =
      let place : new.place ≡ old.place = ap (λ (z : Listed). z.place) same in
      record { order = omega arith; inside = λ start. omega arith; spelled = (none, nothing_between section old.place new.place (sym place)) }

  subtrees_spelled : (trees : Subtrees) (depth : ℕ) (old new : Listed) → ListsAs section ds depth trees old new → Between section (SpellsSubtrees ds trees) old new
  subtrees_spelled NoSubtree depth old new same =
      let place : new.place ≡ old.place = ap (λ (z : Listed). z.place) same in
      record { order = omega arith; inside = λ start. omega arith; spelled = nothing_between section old.place new.place (sym place) }
  subtrees_spelled (Subtree number meanings children more) depth old new (entry, chain, adds, means, below, rest) =
      let e = entry_spelled depth number old entry adds in
      let b = children_spelled ((declared_at ds number).children) (length old.entries) (suc depth) children entry chain (λ a b l. subtrees_spelled children (suc depth) a b l) below in
      let l = subtrees_spelled more depth chain new rest in
      let first : old.place ≤ entry.place = e.order in
      let second : entry.place ≤ chain.place = b.order in
      let third : chain.place ≤ new.place = l.order in
      record {
        order = omega arith;
        inside = λ start. l.inside (b.inside (e.inside start));
        spelled = (
          bytes_between section old.place entry.place,
          bytes_between section entry.place chain.place,
          bytes_between section chain.place new.place,
          subst (λ (z : List Meaning). SpellsEntry ds number z (bytes_between section old.place entry.place)) means e.spelled,
          b.spelled,
          l.spelled,
          between_split section old.place entry.place new.place first (let k : entry.place ≤ new.place = omega arith in k) ∙ ap (λ z. bytes_between section old.place entry.place ++ z) (between_split section entry.place chain.place new.place second third),
        );
      }

  -- what is spelled can be listed
  abbrev Found : ℕ → Subtrees → Listed → ℕ → Type 0
  Found depth trees old to = (new : Listed) × (new.place ≡ to) × ListsAs section ds depth trees old new

  abbrev FoundBelow : Bool → ℕ → ℕ → Subtrees → Listed → ℕ → Type 0
  FoundBelow flag parent depth children old to = (new : Listed) × (new.place ≡ to) × FollowsAs flag section parent children (λ a b. ListsAs section ds depth children a b) old new

  abbrev FoundEntry : ℕ → ℕ → List Meaning → Listed → ℕ → Type 0
  FoundEntry depth number meanings old to = (new : Listed) × (new.place ≡ to) × (adds : AddsEntry section ds depth number old new) × (map (meant_in section) adds.values ≡ meanings)

  entry_found : (depth number : ℕ) (meanings : List Meaning) (old : Listed) (to : ℕ) → old.place ≤ to → to ≤ length section → SpellsEntry ds number meanings (bytes_between section old.place to) → FoundEntry depth number meanings old to
  entry_found depth number meanings old to order inside s =
      let columns : List Spec = (declared_at ds number).columns in
      let k = cut section old.place to s.code s.rest order inside s.whole in
      let before : k.mid ≤ to = k.before in
      let v = values_found section columns meanings k.mid to k.before inside (subst (λ (z : List ℕ). SpellsValues columns meanings z) (sym k.second) s.valued) in
      let new : Listed = record {
        entries = old.entries ++ (record { at = old.place; len = to - old.place; depth = depth; decl = number; first = length old.values; count = length v.values }) ∷ [];
        values = old.values ++ v.values;
        ends = old.ends;
        place = to;
      } in
      let adds : AddsEntry section ds depth number old new = record {
        known = s.known;
        values_at = k.mid;
        values = v.values;
        coded = record { order = k.after; inside = omega arith; spelled = subst (λ (z : List ℕ). Uleb ((declared_at ds number).code) z) (sym k.first) s.coded };
        valued = v.valued;
        entered = refl;
        listed = refl;
        ended = refl;
      } in
      (new, refl, adds, v.means)

  below_found : (flag : Bool) (parent depth : ℕ) (children : Subtrees) (old : Listed) (to : ℕ) → old.place ≤ to → to ≤ length section → ((end : ℕ) → old.place ≤ end → end ≤ length section → SpellsSubtrees ds children (bytes_between section old.place end) → Found depth children old end) → SpellsChildren flag children (SpellsSubtrees ds children) (bytes_between section old.place to) → FoundBelow flag parent depth children old to
  below_found true parent depth children old to order inside found (first, end, spelled, zero_there, whole) =
      let k = cut section old.place to first end order inside whole in
      let before : k.mid ≤ to = k.before in
      let f = found k.mid k.after (omega arith) (subst (λ (z : List ℕ). SpellsSubtrees ds children z) (sym k.first) spelled) in
      let inner : Listed = f.0 in
      let place : inner.place ≡ k.mid = f.1 in
      let new : Listed = record { entries = inner.entries; values = inner.values; ends = inner.ends ++ (record { entry = parent; at = inner.place }) ∷ []; place = to } in
      let coded : SpellsBetween (Uleb 0) section k.mid to = record { order = k.before; inside = inside; spelled = subst (λ (z : List ℕ). Uleb 0 z) (sym k.second) zero_there } in
      let closing : AddsEnd section parent inner new = record {
        coded = subst (λ (z : ℕ). SpellsBetween (Uleb 0) section z to) (sym place) coded;
        entered = refl;
        listed = refl;
        ended = refl;
      } in
      (new, refl, (inner, f.2, closing))
  below_found false parent depth children old to order inside found (none, empty) =
      let size : to - old.place ≡ 0 = sym (length_between section old.place to inside) ∙ ap length empty in
      let same : old.place ≡ to = omega arith in
      (old, same, (none, refl))

  subtrees_found : (trees : Subtrees) (depth : ℕ) (old : Listed) (to : ℕ) → old.place ≤ to → to ≤ length section → SpellsSubtrees ds trees (bytes_between section old.place to) → Found depth trees old to
  subtrees_found NoSubtree depth old to order inside empty =
      let size : to - old.place ≡ 0 = sym (length_between section old.place to inside) ∙ ap length empty in
      let same : old.place ≡ to = omega arith in
      (old, same, refl)
  subtrees_found (Subtree number meanings children more) depth old to order inside (first, below, later, entry, under, rest, whole) =
      let flag : Bool = (declared_at ds number).children in
      let k = cut section old.place to first (below ++ later) order inside whole in
      let j = cut section k.mid to below later k.before inside k.second in
      let p : k.mid ≤ to = k.before in
      let q : j.mid ≤ to = j.before in
      let e = entry_found depth number meanings old k.mid k.after (omega arith) (subst (λ (z : List ℕ). SpellsEntry ds number meanings z) (sym k.first) entry) in
      let first_end : Listed = e.0 in
      let here : first_end.place ≡ k.mid = e.1 in
      let up : first_end.place ≤ j.mid = no_later first_end.place k.mid j.mid here j.after in
      let children_there : SpellsChildren flag children (SpellsSubtrees ds children) (bytes_between section first_end.place j.mid) = from_there (SpellsChildren flag children (SpellsSubtrees ds children)) section first_end.place k.mid j.mid here (subst (λ (z : List ℕ). SpellsChildren flag children (SpellsSubtrees ds children) z) (sym j.first) under) in
      let b = below_found flag (length old.entries) (suc depth) children first_end j.mid up (omega arith) (λ end on fits s. subtrees_found children (suc depth) first_end end on fits s) children_there in
      let chain : Listed = b.0 in
      let there : chain.place ≡ j.mid = b.1 in
      let on : chain.place ≤ to = no_later chain.place j.mid to there j.before in
      let rest_there : SpellsSubtrees ds more (bytes_between section chain.place to) = from_there (SpellsSubtrees ds more) section chain.place j.mid to there (subst (λ (z : List ℕ). SpellsSubtrees ds more z) (sym j.second) rest) in
      let l = subtrees_found more depth chain to on inside rest_there in
      (l.0, l.1, (first_end, chain, e.2, e.3, b.2, l.2))

  -- what listed entries say
  record Tells (old new : Listed) (all : List Described) : Type 0 where
    values : List Value
    entries : List Entry
    valued : new.values ≡ old.values ++ values
    entered : new.entries ≡ old.entries ++ entries
    described : (rest : List Value) → map (described_by section ds (new.values ++ rest)) entries ≡ all

  nothing_told : (old new : Listed) → new ≡ old → Tells old new []
  nothing_told old new same = record {
    values = [];
    entries = [];
    valued = ap (λ (z : Listed). z.values) same ∙ sym (append-nil old.values);
    entered = ap (λ (z : Listed). z.entries) same ∙ sym (append-nil old.entries);
    described = λ rest. refl;
  }

  -- one behind the other
  both_told : (old mid new : Listed) (first second : List Described) → Tells old mid first → Tells mid new second → Tells old new (first ++ second)
  both_told old mid new first second p q = record {
    values = p.values ++ q.values;
    entries = p.entries ++ q.entries;
    valued = q.valued ∙ ap (λ z. z ++ q.values) p.valued ∙ append_assoc old.values p.values q.values;
    entered = q.entered ∙ ap (λ z. z ++ q.entries) p.entered ∙ append_assoc old.entries p.entries q.entries;
    described = λ rest.
        let more : List Value = q.values ++ rest in
        let same : mid.values ++ more ≡ new.values ++ rest = sym (append_assoc mid.values q.values rest) ∙ ap (λ z. z ++ rest) (sym q.valued) in
        let here : map (described_by section ds (new.values ++ rest)) p.entries ≡ first = subst (λ (z : List Value). map (described_by section ds z) p.entries ≡ first) same (p.described more) in
        map-append (described_by section ds (new.values ++ rest)) p.entries q.entries ∙ ap (λ z. z ++ map (described_by section ds (new.values ++ rest)) q.entries) here ∙ ap (λ z. first ++ z) (q.described rest);
  }

  end_told : (parent : ℕ) (old new : Listed) → AddsEnd section parent old new → Tells old new []
  end_told parent old new adds = record {
    values = [];
    entries = [];
    valued = adds.listed ∙ sym (append-nil old.values);
    entered = adds.entered ∙ sym (append-nil old.entries);
    described = λ rest. refl;
  }

  abbrev described_as : ℕ → ℕ → List Meaning → Described
  described_as depth number meanings = record { depth = depth; tag = (declared_at ds number).tag; children = (declared_at ds number).children; attributes = named ((declared_at ds number).columns) meanings }

  abbrev with_attributes : ℕ → ℕ → List (ℕ × Meaning) → Described
  with_attributes depth number attributes = record { depth = depth; tag = (declared_at ds number).tag; children = (declared_at ds number).children; attributes = attributes }

  entry_told : (depth number : ℕ) (meanings : List Meaning) (old new : Listed) (adds : AddsEntry section ds depth number old new) → map (meant_in section) adds.values ≡ meanings → Tells old new (described_as depth number meanings ∷ [])
  entry_told depth number meanings old new adds means =
      let columns : List Spec = (declared_at ds number).columns in
      let e : Entry = record { at = old.place; len = new.place - old.place; depth = depth; decl = number; first = length old.values; count = length adds.values } in
      record {
        values = adds.values;
        entries = e ∷ [];
        valued = adds.listed;
        entered = adds.entered;
        described = λ rest.
            let own : take (length adds.values) (drop (length old.values) (new.values ++ rest)) ≡ adds.values = ap (λ z. take (length adds.values) (drop (length old.values) (z ++ rest))) adds.listed ∙ own_part old.values adds.values rest in
            ap (λ (z : List (ℕ × Meaning)). with_attributes depth number z ∷ []) (ap (attributes_of section columns) own ∙ named_same section columns adds.values ∙ ap (named columns) means);
      }

  children_told : (flag : Bool) (parent depth : ℕ) (children : Subtrees) (old new : Listed) → ((a b : Listed) → ListsAs section ds depth children a b → Tells a b (in_preorder ds depth children)) → FollowsAs flag section parent children (λ a b. ListsAs section ds depth children a b) old new → Tells old new (in_preorder ds depth children)
  children_told true parent depth children old new told (inner, inside, end) =
      subst (λ (z : List Described). Tells old new z) (append-nil (in_preorder ds depth children)) (both_told old inner new (in_preorder ds depth children) [] (told old inner inside) (end_told parent inner new end))
  children_told false parent depth children old new told (none, same) =
      subst (λ (z : Subtrees). Tells old new (in_preorder ds depth z)) (sym none) (nothing_told old new same)

  subtrees_told : (trees : Subtrees) (depth : ℕ) (old new : Listed) → ListsAs section ds depth trees old new → Tells old new (in_preorder ds depth trees)
  subtrees_told NoSubtree depth old new same = nothing_told old new same
  subtrees_told (Subtree number meanings children more) depth old new (entry, chain, adds, means, below, rest) =
      let e = entry_told depth number meanings old entry adds means in
      let b = children_told ((declared_at ds number).children) (length old.entries) (suc depth) children entry chain (λ a b l. subtrees_told children (suc depth) a b l) below in
      let l = subtrees_told more depth chain new rest in
      both_told old entry new (described_as depth number meanings ∷ []) (in_preorder ds (suc depth) children ++ in_preorder ds depth more) e (both_told entry chain new (in_preorder ds (suc depth) children) (in_preorder ds depth more) b l)

  -- a forest that is listed
  all_told : (start : ℕ) (forest : Listed) (all : List Described) → Tells (nothing_from start) forest all → forest_of section ds forest ≡ all
  all_told start forest all t =
      let same : forest.values ++ [] ≡ forest.values = append-nil forest.values in
      ap (map (described_by section ds forest.values)) t.entered ∙ subst (λ (z : List Value). map (described_by section ds z) t.entries ≡ all) same (t.described [])

  pub forest_spelled : (start : ℕ) (forest : Listed) → IsForest section ds start forest → SpellsBetween (SpellsForest ds (forest_of section ds forest)) section start forest.place
  forest_spelled start forest f =
      let (entry, chain, adds, below, same) = f.listed in
      let first : start ≤ adds.values_at = adds.coded.order in
      let fits : adds.values_at ≤ length section = adds.coded.inside in
      let inside : start ≤ length section = omega arith in
      let m = children_meant ((declared_at ds f.root).children) 0 1 f.children (λ a b. Lists section ds 1 f.children a b) entry chain (λ a b l. siblings_meant f.children 1 a b l) below in
      let meanings : List Meaning = map (meant_in section) adds.values in
      let tree : Subtrees = Subtree f.root meanings m.0 NoSubtree in
      let listed : ListsAs section ds 0 tree (nothing_from start) forest = (entry, chain, adds, refl, m.1, same) in
      let s = subtrees_spelled tree 0 (nothing_from start) forest listed in
      record {
        order = s.order;
        inside = s.inside inside;
        spelled = record {
          number = f.root;
          values = meanings;
          children = m.0;
          spelled = s.spelled;
          described = all_told start forest (in_preorder ds 0 tree) (subtrees_told tree 0 (nothing_from start) forest listed);
        };
      }

  pub forest_found : (entries : List Described) (start end : ℕ) → SpellsBetween (SpellsForest ds entries) section start end → (forest : Listed) × IsForest section ds start forest × (forest.place ≡ end) × (forest_of section ds forest ≡ entries)
  forest_found entries start end s =
      let t = s.spelled in
      let tree : Subtrees = Subtree t.number t.values t.children NoSubtree in
      let f = subtrees_found tree 0 (nothing_from start) end s.order s.inside t.spelled in
      let told = all_told start f.0 (in_preorder ds 0 tree) (subtrees_told tree 0 (nothing_from start) f.0 f.2) in
      (f.0, record { root = t.number; children = siblings_of t.children; listed = tree_listed t.number t.values t.children (nothing_from start) f.0 f.2 }, f.1, told ∙ sym t.described)

front_between : (a x : List ℕ) → bytes_between (a ++ x) 0 (length a) ≡ a
front_between a x =
    let size : length a - 0 ≡ length a = omega arith in
    ap (λ n. take n (a ++ x)) size ∙ take_at a x (length a) refl

front_spelled : (Spells : List ℕ → Type 0) (a x : List ℕ) → Spells a → SpellsBetween Spells (a ++ x) 0 (length a)
front_spelled Spells a x s =
    let size : length (a ++ x) ≡ length a + length x = length-append a x in
    record { order = omega arith; inside = omega arith; spelled = subst Spells (sym (front_between a x)) s }

-- a forest ends by itself
pub forests_end : (ds : List Declared) → HaveCodes ds → HasUniqueFronts (SpellsForest ds)
forests_end ds codes v w a b x y p q h =
    let section : List ℕ = a ++ x in
    let one = forest_found section ds v 0 (length a) (front_spelled (SpellsForest ds v) a x p) in
    let two = forest_found section ds w 0 (length b) (subst (λ (z : List ℕ). SpellsBetween (SpellsForest ds w) z 0 (length b)) (sym h) (front_spelled (SpellsForest ds w) b y q)) in
    let same : one.0 ≡ two.0 = forest_once section ds 0 one.0 two.0 codes one.1 two.1 in
    let size : length a ≡ length b = sym one.2 ∙ ap (λ (z : Listed). z.place) same ∙ two.2 in
    (sym (front_between a x) ∙ ap (bytes_between (a ++ x) 0) size ∙ ap (λ z. bytes_between z 0 (length b)) h ∙ front_between b y, sym one.3 ∙ ap (λ (z : Listed). forest_of section ds z) same ∙ two.3)
