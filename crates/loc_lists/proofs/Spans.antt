-- Expressions behind entries: that they end by themselves, and where they lie.
use Rattle.std.proofs.Common.{◌≡◌, ◌≤◌, ◌<◌, ◌+◌, ◌-◌, ◌++◌, ◌∙◌, ℕ, List, [], ◌∷◌, length, take, drop, map, sym, ap, refl, subst, arith, inl, inr, Bool, true, false}
use Rattle.std.specs.Prelude.{if◌then◌else◌, filter, not}
use Rattle.std.proofs.lemmas.Bool.{true≢false}
use Rattle.std.proofs.lemmas.List.{append_assoc, append_cancel_left, length-append, drop-drop, drop_at, take_at}
use Rattle.spelled.specs.Spelled.{HasUniqueFronts, NeverBoth}
use Rattle.spelled.proofs.Joins.{regroup}
use Rattle.spelled.proofs.Parts.{same_front}
use Rattle.leb_codec.specs.Leb.{IsShort, IsWideUnsigned}
use Rattle.leb_codec.proofs.Fronts.{unique_u, leb_not_short, uleb_not_wide}
use Rattle.dw_base.specs.declared.fault.Span.{Span}
use Rattle.dw_base.specs.declared.fault.Kind.{Kind}
use Rattle.dw_base.specs.declared.fault.Kind.TheVariants.{Short, LebWide}
use Rattle.list_model.specs.declared.entry.EntryKind.{EntryKind}
use Rattle.list_model.specs.declared.entry.EntryKind.TheVariants.{BaseAddressx, BaseAddress}
use Rattle.list_model.specs.declared.entry.RawEntry.{RawEntry}
use Rattle.list_model.specs.Entries.{Entry, no_expr}
use Rattle.list_model.specs.Items.{sets_base}
use Rattle.list_model.specs.Reading.{AreReadFrom}
use Rattle.loc_lists.specs.Locations.{SpellsExpression, IsCutOff, FaultExpression, SpellsBehind, FaultBehind, IsExpressionSpan, IsRead, is_item, items_among, bytes_in, expressions_of, item_expressions}
use Rattle.loc_lists.proofs.ItemLaws.{item_says}

-- ---- one expression

expression_once : HasUniqueFronts SpellsExpression
expression_once v w a b x y p q h =
    let g : p.head ++ (v ++ x) ≡ q.head ++ (w ++ y) = regroup p.head v x q.head w y (ap (λ (z : List ℕ). z ++ x) (sym p.whole) ∙ h ∙ ap (λ (z : List ℕ). z ++ y) q.whole) in
    let heads = unique_u (length v) (length w) p.head q.head (v ++ x) (w ++ y) p.count q.count g in
    let rest : v ++ x ≡ w ++ y = append_cancel_left q.head (v ++ x) (w ++ y) (ap (λ (z : List ℕ). z ++ (v ++ x)) (sym heads.0) ∙ g) in
    let bodies = same_front v w x y heads.1 rest in
    (p.whole ∙ ap (λ (z : List ℕ). z ++ v) heads.0 ∙ ap (λ (z : List ℕ). q.head ++ z) bodies ∙ sym q.whole, bodies)

-- the bytes of a length, and what follows
length_first : (v a x : List ℕ) (p : SpellsExpression v a) → a ++ x ≡ p.head ++ (v ++ x)
length_first v a x p = ap (λ (z : List ℕ). z ++ x) p.whole ∙ append_assoc p.head v x

not_cut : (v a x : List ℕ) → SpellsExpression v a → IsCutOff (a ++ x) → ⊥
not_cut v a x p f =
    let whole : p.head ++ (v ++ x) ≡ f.head ++ f.body = sym (length_first v a x p) ∙ f.whole in
    let heads = unique_u (length v) f.size p.head f.head (v ++ x) f.body p.count f.count whole in
    let bodies : v ++ x ≡ f.body = append_cancel_left f.head (v ++ x) f.body (ap (λ (z : List ℕ). z ++ (v ++ x)) (sym heads.0) ∙ whole) in
    let long : length f.body ≡ length v + length x = ap length (sym bodies) ∙ length-append v x in
    let short : length f.body < f.size = f.short in
    let size : length v ≡ f.size = heads.1 in
    absurd (omega arith)

expression_whole : NeverBoth SpellsExpression FaultExpression
expression_whole v Short at a x p (here, inl f) = leb_not_short p.head (v ++ x) p.count.0.0 (subst (λ (z : List ℕ). IsShort z) (length_first v a x p) f)
expression_whole v Short at a x p (here, inr f) = not_cut v a x p f
expression_whole v LebWide at a x p (here, f) = uleb_not_wide (length v) p.head (v ++ x) p.count (subst (λ (z : List ℕ). IsWideUnsigned z) (length_first v a x p) f)
expression_whole v kind at a x p f = f

-- ---- what stands behind an entry

pub behind_once : (kind : EntryKind) → HasUniqueFronts (SpellsBehind kind)
behind_once BaseAddressx v w a b x y p q e = (p.0 ∙ sym q.0, p.1 ∙ sym q.1)
behind_once BaseAddress v w a b x y p q e = (p.0 ∙ sym q.0, p.1 ∙ sym q.1)
behind_once kind v w a b x y p q e = expression_once v w a b x y p q e

pub behind_whole : (kind : EntryKind) → NeverBoth (SpellsBehind kind) (FaultBehind kind)
behind_whole BaseAddressx v k at a x p f = f
behind_whole BaseAddress v k at a x p f = f
behind_whole kind v k at a x p f = expression_whole v k at a x p f

pub behind_setter : (kind : EntryKind) → sets_base kind ≡ true → SpellsBehind kind [] []
behind_setter BaseAddressx e = (refl, refl)
behind_setter BaseAddress e = (refl, refl)
behind_setter _ e = absurd (true≢false (sym e))

pub behind_item : (kind : EntryKind) (expression bytes : List ℕ) → sets_base kind ≡ false → SpellsExpression expression bytes → SpellsBehind kind expression bytes
behind_item BaseAddressx expression bytes e s = absurd (true≢false e)
behind_item BaseAddress expression bytes e s = absurd (true≢false e)
behind_item _ expression bytes e s = s

pub fault_item : (kind : EntryKind) (k : Kind) (at : ℕ) (bytes : List ℕ) → sets_base kind ≡ false → FaultExpression k at bytes → FaultBehind kind k at bytes
fault_item BaseAddressx k at bytes e f = absurd (true≢false e)
fault_item BaseAddress k at bytes e f = absurd (true≢false e)
fault_item _ k at bytes e f = f

pub span_setter : (kind : EntryKind) (span : Span) (end : ℕ) → sets_base kind ≡ true → span ≡ no_expr → IsExpressionSpan kind span [] end
span_setter BaseAddressx span end e s = s
span_setter BaseAddress span end e s = s
span_setter _ span end e s = absurd (true≢false (sym e))

pub span_item : (kind : EntryKind) (span : Span) (expression : List ℕ) (end : ℕ) → sets_base kind ≡ false → span.len ≡ length expression → span.at + span.len ≡ end → IsExpressionSpan kind span expression end
span_item BaseAddressx span expression end e s t = absurd (true≢false e)
span_item BaseAddress span expression end e s t = absurd (true≢false e)
span_item _ span expression end e s t = (s, t)

-- an expression ends with its entry, and where there is none the span is at 0
pub span_inside : (kind : EntryKind) (span : Span) (expression : List ℕ) (end : ℕ) → IsExpressionSpan kind span expression end → span.at + span.len ≤ end
span_inside BaseAddressx span expression end s =
    let none : span.at + span.len ≡ 0 = ap (λ (z : Span). z.at + z.len) s in omega arith
span_inside BaseAddress span expression end s =
    let none : span.at + span.len ≡ 0 = ap (λ (z : Span). z.at + z.len) s in omega arith
span_inside _ span expression end s = let there : span.at + span.len ≡ end = s.1 in omega arith

-- ---- one span

same_span : (a b : Span) → a.at ≡ b.at → a.len ≡ b.len → a ≡ b
same_span a b at len = ap (λ (z : ℕ). record { at = z; len = a.len }) at ∙ ap (λ (z : ℕ). record { at = b.at; len = z }) len

pub span_once : (kind : EntryKind) (a b : Span) (expression : List ℕ) (end : ℕ) → IsExpressionSpan kind a expression end → IsExpressionSpan kind b expression end → a ≡ b
span_once BaseAddressx a b expression end p q = p ∙ sym q
span_once BaseAddress a b expression end p q = p ∙ sym q
span_once kind a b expression end p q =
    let a_len : a.len ≡ length expression = p.0 in
    let b_len : b.len ≡ length expression = q.0 in
    let a_end : a.at + a.len ≡ end = p.1 in
    let b_end : b.at + b.len ≡ end = q.1 in
    let at : a.at ≡ b.at = omega arith in
    same_span a b at (a_len ∙ sym b_len)

-- the span of an entry's expression that ends at a place
abbrev pub span_of : EntryKind → List ℕ → ℕ → Span
span_of BaseAddressx expression end = no_expr
span_of BaseAddress expression end = no_expr
span_of kind expression end = record { at = end - length expression; len = length expression }

pub span_holds : (kind : EntryKind) (expression bytes : List ℕ) (end : ℕ) → SpellsBehind kind expression bytes → length bytes ≤ end → IsExpressionSpan kind (span_of kind expression end) expression end
span_holds BaseAddressx expression bytes end p within = refl
span_holds BaseAddress expression bytes end p within = refl
span_holds kind expression bytes end p within =
    let size : length bytes ≡ length p.head + length expression = ap length p.whole ∙ length-append p.head expression in
    (refl, omega (arith, within))

-- ---- where expressions lie

lies_at : (section : List ℕ) (at : ℕ) (span : Span) (expression operands bytes after : List ℕ) → SpellsExpression expression bytes → span.len ≡ length expression → span.at + span.len ≡ at + (length operands + length bytes) → drop at section ≡ operands ++ (bytes ++ after) → bytes_in section span ≡ expression
lies_at section at span expression operands bytes after p len end e =
    let size : length bytes ≡ length p.head + length expression = ap length p.whole ∙ length-append p.head expression in
    let before : length (operands ++ p.head) ≡ length operands + length p.head = length-append operands p.head in
    let place : span.at ≡ at + length (operands ++ p.head) = omega (arith, size, before, len, end) in
    let whole : drop at section ≡ (operands ++ p.head) ++ (expression ++ after) =
    e ∙ ap (λ (z : List ℕ). operands ++ z) (length_first expression bytes after p) ∙ sym (append_assoc operands p.head (expression ++ after)) in
    let there : drop span.at section ≡ expression ++ after =
    ap (λ (z : ℕ). drop z section) place ∙ sym (drop-drop (length (operands ++ p.head)) at section) ∙ ap (drop (length (operands ++ p.head))) whole ∙ drop_at (operands ++ p.head) (expression ++ after) (length (operands ++ p.head)) refl in
    ap (take span.len) there ∙ take_at expression after span.len (sym len)

lies_behind : (section : List ℕ) (at : ℕ) (kind : EntryKind) (span : Span) (expression operands bytes after : List ℕ) → sets_base kind ≡ false → SpellsBehind kind expression bytes → IsExpressionSpan kind span expression (at + (length operands + length bytes)) → drop at section ≡ operands ++ (bytes ++ after) → bytes_in section span ≡ expression
lies_behind section at BaseAddressx span expression operands bytes after item p s e = absurd (true≢false item)
lies_behind section at BaseAddress span expression operands bytes after item p s e = absurd (true≢false item)
lies_behind section at kind span expression operands bytes after item p s e = lies_at section at span expression operands bytes after p s.0 s.1 e

lies : (section : List ℕ) (at : ℕ) (raw : RawEntry) (location : Entry × List ℕ) (first after : List ℕ) → IsRead at raw location first → sets_base location.0.kind ≡ false → drop at section ≡ first ++ after → bytes_in section raw.expr ≡ location.1
lies section at raw location first after h item e =
    let operands = h.spelled.0 in
    let behind = h.spelled.1 in
    let whole : first ≡ operands ++ behind = h.spelled.4 in
    let size : length first ≡ length operands + length behind = ap length whole ∙ length-append operands behind in
    lies_behind section at location.0.kind raw.expr location.1 operands behind after item h.spelled.3
    (subst (λ (z : ℕ). IsExpressionSpan location.0.kind raw.expr location.1 (at + z)) size h.expression)
    (e ∙ ap (λ (z : List ℕ). z ++ after) whole ∙ append_assoc operands behind after)

-- the expressions of some entries and of others behind one more
abbrev one_more : Bool → List ℕ → List (List ℕ) → List (List ℕ)
one_more item expression others = if item then expression ∷ others else others

more_of : (section : List ℕ) (raw : RawEntry) (raws : List RawEntry) (item : Bool) → map (λ (raw : RawEntry). bytes_in section raw.expr) (if item then raw ∷ items_among raws else items_among raws) ≡ one_more item (bytes_in section raw.expr) (expressions_of section raws)
more_of section raw raws true = refl
more_of section raw raws false = refl

abbrev item_locations : List (Entry × List ℕ) → List (Entry × List ℕ)
item_locations locations = filter (λ (location : Entry × List ℕ). not (sets_base location.0.kind)) locations

more_expressions : (location : Entry × List ℕ) (locations : List (Entry × List ℕ)) (item : Bool) → one_more item location.1 (item_expressions locations) ≡ map (λ (location : Entry × List ℕ). location.1) (if item then location ∷ item_locations locations else item_locations locations)
more_expressions location locations true = refl
more_expressions location locations false = refl

same_one : (item sets : Bool) (a b : List ℕ) (others : List (List ℕ)) → item ≡ not sets → (sets ≡ false → a ≡ b) → one_more item a others ≡ one_more item b others
same_one true false a b others e same = ap (λ (z : List ℕ). z ∷ others) (same refl)
same_one true true a b others e same = absurd (true≢false e)
same_one false sets a b others e same = refl

pub expressions_told : (section : List ℕ) (at : ℕ) (raws : List RawEntry) (locations : List (Entry × List ℕ)) (bytes after : List ℕ) → AreReadFrom IsRead at raws locations bytes → drop at section ≡ bytes ++ after → expressions_of section raws ≡ item_expressions locations
expressions_told section at [] [] bytes after f e = refl
expressions_told section at (raw ∷ raws) (location ∷ locations) bytes after (first, rest, h, f, whole) e =
    let here : drop at section ≡ first ++ (rest ++ after) = e ∙ ap (λ (z : List ℕ). z ++ after) whole ∙ append_assoc first rest after in
    let behind : drop (at + length first) section ≡ rest ++ after = sym (drop-drop (length first) at section) ∙ ap (drop (length first)) here ∙ drop_at first (rest ++ after) (length first) refl in
    let others : expressions_of section raws ≡ item_expressions locations = expressions_told section (at + length first) raws locations rest after f behind in
    let is : is_item raw ≡ not (sets_base location.0.kind) = item_says raw location.0 h.says in
    more_of section raw raws (is_item raw)
    ∙ ap (λ (z : List (List ℕ)). one_more (is_item raw) (bytes_in section raw.expr) z) others
    ∙ same_one (is_item raw) (sets_base location.0.kind) (bytes_in section raw.expr) location.1 (item_expressions locations) is (λ item. lies section at raw location first (rest ++ after) h item here)
    ∙ ap (λ (z : Bool). one_more z location.1 (item_expressions locations)) is
    ∙ more_expressions location locations (not (sets_base location.0.kind))
expressions_told section at [] (location ∷ locations) bytes after f e = absurd f
expressions_told section at (raw ∷ raws) [] bytes after f e = absurd f
