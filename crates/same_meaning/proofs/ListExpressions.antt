-- The expressions of the items of lists.
use Rattle.std.proofs.Common.{◌≡◌, ◌≤◌, ◌<◌, ◌+◌, ◌-◌, ◌++◌, ◌∙◌, ℕ, zero, suc, List, [], ◌∷◌, length, get_or, map, drop, cond, Bool, true, false, true≢false, add-one, drop-cons, sym, ap, subst, arith}
use Rattle.std.specs.Prelude.{◌↔◌}
use Rattle.std.specs.List.{All}
use Rattle.std.proofs.lemmas.List.{length-append, length-take, length-drop, drop_all}
use Rattle.std.proofs.lemmas.List.Elements.{All-nil, All-cons, All-head, All-tail}
use Rattle.std.proofs.lemmas.Slice.Zip.{AllZip-long}
use Rattle.list_model.specs.declared.contribution.Contribution.{Contribution}
use Rattle.list_model.specs.declared.entry.RawEntry.{RawEntry}
use Rattle.list_model.specs.Contributions.{part_end, bytes_from}
use Rattle.list_model.specs.Entries.{Entry}
use Rattle.list_model.specs.Reading.{AreReadFrom}
use Rattle.loc_lists.specs.Locations.{IsRead, IsLocationList, is_item, items_among, bytes_in, expressions_of}
use Rattle.loc_lists.proofs.Spans.{span_inside}
use Rattle.value_links.specs.Operations.{LinksExpression}
use Rattle.value_links.specs.Reading.{Linkable}
use Rattle.same_meaning.specs.inside.Compared.{MeanOne, MeanSameExpressions}

-- ---- expressions that mean the same, one by one

module _ (r : Linkable) (u : ℕ) (s : Linkable) (v : ℕ) where
  -- an expression of the one unit and an expression of the other mean the same
  abbrev pub MeansSame : List ℕ → List ℕ → Type 0
  MeansSame a b = MeanOne (LinksExpression r u a) (LinksExpression s v b)

  pub none_same : MeanSameExpressions r u [] s v []
  none_same = ([], tt, tt)

  pub more_same : (a b : List ℕ) (xs ys : List (List ℕ)) → MeansSame a b → MeanSameExpressions r u xs s v ys → MeanSameExpressions r u (a ∷ xs) s v (b ∷ ys)
  more_same a b xs ys (one, first, second) (all, firsts, seconds) = (one ∷ all, (first, firsts), (second, seconds))

  pub same_parts : (a b : List ℕ) (xs ys : List (List ℕ)) → MeanSameExpressions r u (a ∷ xs) s v (b ∷ ys) → MeansSame a b × MeanSameExpressions r u xs s v ys
  same_parts a b xs ys ([], first, second) = absurd first
  same_parts a b xs ys (one ∷ all, (first, firsts), (second, seconds)) = ((one, first, second), (all, firsts, seconds))

  -- there are as many of both
  pub same_count : (xs ys : List (List ℕ)) → MeanSameExpressions r u xs s v ys → length ys ≡ length xs
  same_count xs ys (all, first, second) = sym (AllZip-long (LinksExpression s v) ys all second) ∙ AllZip-long (LinksExpression r u) xs all first

-- the same of expressions that are the same bytes
pub same_as : (r : Linkable) (u : ℕ) (s : Linkable) (v : ℕ) (xs others ys news : List (List ℕ)) → xs ≡ others → ys ≡ news → MeanSameExpressions r u xs s v ys ↔ MeanSameExpressions r u others s v news
same_as r u s v xs others ys news one two = (
  λ all. subst (λ (z : List (List ℕ)). MeanSameExpressions r u z s v news) one (subst (λ (z : List (List ℕ)). MeanSameExpressions r u xs s v z) two all),
  λ all. subst (λ (z : List (List ℕ)). MeanSameExpressions r u z s v ys) (sym one) (subst (λ (z : List (List ℕ)). MeanSameExpressions r u others s v z) (sym two) all),
)

-- ---- the items from an entry on

pub drop_here : {X : Type 0} (xs : List X) (n : ℕ) (d : X) → n < length xs → drop n xs ≡ get_or xs n d ∷ drop (n + 1) xs
drop_here xs n d inside = rw (add-one, drop-cons xs n d)

-- an entry that is no item adds none
pub items_past : (raws : List RawEntry) (n : ℕ) (d : RawEntry) → n < length raws → is_item (get_or raws n d) ≡ false → items_among (drop n raws) ≡ items_among (drop (n + 1) raws)
items_past raws n d inside none =
    ap items_among (drop_here raws n d inside)
    ∙ ap (λ (z : Bool). cond z (get_or raws n d ∷ items_among (drop (n + 1) raws)) (items_among (drop (n + 1) raws))) none

-- an item is the first of those from there on
pub items_here : (raws : List RawEntry) (n : ℕ) (d : RawEntry) → n < length raws → is_item (get_or raws n d) ≡ true → items_among (drop n raws) ≡ get_or raws n d ∷ items_among (drop (n + 1) raws)
items_here raws n d inside item =
    ap items_among (drop_here raws n d inside)
    ∙ ap (λ (z : Bool). cond z (get_or raws n d ∷ items_among (drop (n + 1) raws)) (items_among (drop (n + 1) raws))) item

-- the expressions of the items from an entry on
abbrev pub expressions_from : List ℕ → List RawEntry → ℕ → List (List ℕ)
expressions_from section raws n = expressions_of section (drop n raws)

pub expressions_skip : (section : List ℕ) (raws : List RawEntry) (n m : ℕ) → items_among (drop n raws) ≡ items_among (drop m raws) → expressions_from section raws n ≡ expressions_from section raws m
expressions_skip section raws n m same = ap (map (λ (raw : RawEntry). bytes_in section raw.expr)) same

pub expressions_here : (section : List ℕ) (raws : List RawEntry) (n : ℕ) (d : RawEntry) → n < length raws → is_item (get_or raws n d) ≡ true → expressions_from section raws n ≡ bytes_in section (get_or raws n d).expr ∷ expressions_from section raws (n + 1)
expressions_here section raws n d inside item = ap (map (λ (raw : RawEntry). bytes_in section raw.expr)) (items_here raws n d inside item)

pub expressions_past : (section : List ℕ) (raws : List RawEntry) (n : ℕ) → length raws ≤ n → expressions_from section raws n ≡ []
expressions_past section raws n past = ap (expressions_of section) (drop_all n raws past)

-- ---- where expressions lie

abbrev pub LiesIn : ℕ → RawEntry → Type 0
LiesIn most raw = raw.expr.at + raw.expr.len ≤ most

entries_inside : (most at : ℕ) (raws : List RawEntry) (locations : List (Entry × List ℕ)) (bytes : List ℕ) → AreReadFrom IsRead at raws locations bytes → at + length bytes ≤ most → All (LiesIn most) raws
entries_inside most at [] [] bytes read within = All-nil (LiesIn most)
entries_inside most at [] (l ∷ ls) bytes read within = absurd read
entries_inside most at (r ∷ raws) [] bytes read within = absurd read
entries_inside most at (r ∷ raws) (l ∷ ls) bytes (first, rest, here, more, whole) within =
    let size : length bytes ≡ length first + length rest = ap length whole ∙ length-append first rest in
    All-cons (LiesIn most) r raws
    (omega (arith, span_inside l.0.kind r.expr l.1 (at + length first) here.expression, size, within))
    (entries_inside most (at + length first) raws ls rest more (omega (arith, size, within)))

-- the expressions of a list that is read lie in its section
pub list_inside : (section : List ℕ) (part : Contribution) (at : ℕ) (raws : List RawEntry) → IsLocationList section part at raws → All (LiesIn (length section)) raws
list_inside section part at raws list =
    let size : length (bytes_from section part at) ≡ length list.front + length (list.end ++ list.rest) = ap length list.whole ∙ length-append list.front (list.end ++ list.rest) in
    let behind : length (list.end ++ list.rest) ≡ 1 + length list.rest = length-append list.end list.rest ∙ ap (λ (z : List ℕ). length z + length list.rest) list.ended in
    let short : length (bytes_from section part at) ≤ length section - at = omega (arith, length-take (part_end part - at) (drop at section), length-drop at section) in
    entries_inside (length section) at raws list.entries list.front list.read (omega (arith, size, behind, short))

-- ---- an expression among all

item_among : (P : List ℕ → Type 0) (b : Bool) (section : List ℕ) (raw : RawEntry) (items : List RawEntry) → All P (map (λ (z : RawEntry). bytes_in section z.expr) (cond b (raw ∷ items) items)) → ((b ≡ true → P (bytes_in section raw.expr)) × All P (map (λ (z : RawEntry). bytes_in section z.expr) items))
item_among P true section raw items all =
    (λ e. All-head P (bytes_in section raw.expr) (map (λ (z : RawEntry). bytes_in section z.expr) items) all, All-tail P (bytes_in section raw.expr) (map (λ (z : RawEntry). bytes_in section z.expr) items) all)
item_among P false section raw items all = (λ e. absurd (true≢false (sym e)), all)

pub expression_among : (P : List ℕ → Type 0) (section : List ℕ) (raws : List RawEntry) (n : ℕ) (d : RawEntry) → All P (expressions_of section raws) → n < length raws → is_item (get_or raws n d) ≡ true → P (bytes_in section (get_or raws n d).expr)
expression_among P section [] n d all less item = absurd (omega arith)
expression_among P section (raw ∷ raws) zero d all less item = (item_among P (is_item raw) section raw (items_among raws) all).0 item
expression_among P section (raw ∷ raws) (suc n) d all less item = expression_among P section raws n d (item_among P (is_item raw) section raw (items_among raws) all).1 (omega arith) item
